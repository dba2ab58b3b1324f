-- A formatted disk is sound, with no changes: it is one on which the first epoch has begun, over the pages of an empty volume.
use Rattle.std.proofs.Common.{◌≡◌, ℕ, zero, suc, ◌+◌, ◌<◌, List, [], ◌∷◌, length, map, get_or, Option, Some, None, refl, sym, ap, subst, ◌∙◌, arith}
use Rattle.std.specs.Prelude.{option_and_then}
use Rattle.std.specs.List.{range_with_len}
use Rattle.volume_layout.specs.declared.layout.Layout.{Layout}
use Rattle.volume_layout.proofs.RootLaws.{planned_bounds}
use Rattle.sector_disk.specs.declared.sector.Sector.TheVariants.{Whole}
use Rattle.sector_disk.specs.declared.sector.WeakRun.{WeakRun}
use Rattle.sector_disk.specs.Image.{IsWorn}
use Rattle.fsd_files.specs.Disk.{Image, in_runs}
use Rattle.fsd_table.specs.Pages.{page_at}
use Rattle.fsd_table.specs.Table.{one_leaf, told_in, visits}
use Rattle.fsd_sound.specs.Begun.{IsBegun}
use Rattle.fsd_sound.specs.Format.{IsFormatted, format_anchor, format_page}
use Rattle.fsd_sound.specs.Shown.{all_pages, shown, told}
use Rattle.fsd_sound.specs.Sound.{ShowsOne, Tells, weak_of, IsSound, BearsLast}
use Rattle.fsd_sound.proofs.BegunLaws.{begun_shows}
use Rattle.fsd_sound.proofs.MountedLaws.{one_of}
use Rattle.fsd_sound.proofs.SavedLaws.{open_saves, plain_is_open}
use Rattle.fsd_sound.proofs.SectorFacts.{not_damaged}
use Rattle.fsd_sound.proofs.SoundLaws.{sound_from_pages}

-- ---- the pages of an empty volume

abbrev pages_of : Layout → List (List ℕ)
pages_of l = map format_page (all_pages l)

format_length : (from n : ℕ) → length (map format_page (range_with_len from n)) ≡ n
format_length from zero = refl
format_length from (suc n) = ap suc (format_length (from + 1) n)

format_at : (from n page : ℕ) → page < n → get_or (map format_page (range_with_len from n)) page [] ≡ format_page (from + page)
format_at from zero page lt = absurd (omega arith)
format_at from (suc n) zero lt = let e : from ≡ from + 0 = omega arith in ap format_page e
format_at from (suc n) (suc page) lt = let e : (from + 1) + page ≡ from + suc page = omega arith in format_at (from + 1) n page (omega arith) ∙ ap format_page e

format_page_at : (l : Layout) (page : ℕ) → page < l.pages → format_page page ≡ get_or (pages_of l) page []
format_page_at l page lt = let e : page ≡ 0 + page = omega arith in ap format_page e ∙ sym (format_at 0 l.pages page lt)

-- page 0 is an empty leaf, whatever the others are
told_first : (rest : List (List ℕ)) → told_in (format_page 0 ∷ rest) ≡ Some (one_leaf [])
unfolding told_in visits page_at
told_first rest = refl

told_pages : (n : ℕ) → 0 < n → told_in (map format_page (range_with_len 0 n)) ≡ Some (one_leaf [])
told_pages zero h = absurd (omega arith)
told_pages (suc n) h = told_first (map format_page (range_with_len (0 + 1) n))

-- ---- the whole

begun : (l : Layout) (i : Image) → IsFormatted l i → IsBegun l 1 (pages_of l) i
begun l i f = record {
  homed = record {
    planned = f.planned;
    long = f.long;
    root = f.root;
    root_copy = f.root_copy;
    first = omega arith;
    last = omega arith;
    stamps = λ s in_log bytes whole. absurd (not_damaged _ bytes whole (f.log s in_log));
    size = format_length 0 l.pages;
    home = λ page lt. (f.homes page lt ∙ ap (λ (b : List ℕ). Whole b) (format_page_at l page lt), f.copies page lt ∙ ap (λ (b : List ℕ). Whole b) (format_page_at l page lt));
  };
  anchor = f.anchor;
  anchor_copy = f.anchor_copy;
}

pages_told : (l : Layout) (i : Image) → IsFormatted l i → told_in (pages_of l) ≡ Some (one_leaf [])
pages_told l i f = let many = (planned_bounds l f.planned).pages_least in told_pages l.pages (omega (arith, many))

-- however its weak run wears, it tells an empty leaf
pub format_told : (l : Layout) (windows : List WeakRun) → BearsLast l windows → (i j : Image) → IsWorn (weak_of windows) i j → IsFormatted l i → told l j ≡ Some (one_leaf [])
format_told l windows borne i j w f = by (shown l j) ((begun_shows l 1 (pages_of l) i (begun l i f) windows borne).shows j w)
  where
    by : (o : Option (List (List ℕ))) → ShowsOne (pages_of l ∷ []) o → option_and_then told_in o ≡ Some (one_leaf [])
    by None one = absurd one
    by (Some pages) one = one_of (λ (p : List (List ℕ)). told_in p ≡ Some (one_leaf [])) (pages_of l) pages (pages_told l i f) one

pub format_is_sound : (l : Layout) (windows : List WeakRun) → BearsLast l windows → (i : Image) → IsFormatted l i → IsSound l windows [] 0 i
format_is_sound l windows borne i f =
    let nothing : Tells l (in_runs windows) i [] 0 (Some (one_leaf [])) = (0, record { forced = omega arith; made = omega arith }, record { lists = tt; apart = refl; kept = tt }) in
    sound_from_pages l windows [] 0 (pages_of l ∷ []) i (begun_shows l 1 (pages_of l) i (begun l i f) windows borne)
    (λ pages chosen. one_of (λ (p : List (List ℕ)). Tells l (in_runs windows) i [] 0 (told_in p)) (pages_of l) pages (subst (Tells l (in_runs windows) i [] 0) (sym (pages_told l i f)) nothing) chosen)
    (λ pages chosen. open_saves l i pages (plain_is_open i 8 format_anchor f.anchor, plain_is_open i 12 format_anchor f.anchor_copy))
