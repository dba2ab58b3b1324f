-- What a format leaves.
use Rattle.std.proofs.Common.{◌≡◌, inl, ℕ, ◌+◌, ◌*◌, ◌<◌, ◌≤◌, List, length, Option, Some, None, Ok, sym, ◌∙◌, ap, subst, arith}
use Rattle.std.specs.Prelude.{IfSome, Result, Err, OnOk}
use Rattle.volume_layout.specs.declared.layout.Layout.{Layout}
use Rattle.volume_layout.specs.Kinds.{longest_of}
use Rattle.volume_layout.specs.Layout.{home_a, home_b, InLog, IsPlanned}
use Rattle.volume_layout.proofs.RootLaws.{planned_bounds}
use Rattle.sector_disk.specs.declared.sector.Sector.{Sector}
use Rattle.sector_disk.specs.declared.sector.Sector.TheVariants.{Whole, Damaged}
use Rattle.sector_disk.specs.declared.sector.WeakRun.{WeakRun}
use Rattle.sector_disk.specs.Image.{sector_at, IsWorn, in_weak_run, Windows, open_damage, settled}
use Rattle.sector_disk.specs.Machine.{Moment, Names, Settles, Holds}
use Rattle.sector_disk.proofs.Wear.{length-lay, lay_in, lay_other, worn_trans, worn_damaged}
use Rattle.sector_disk.proofs.ResultLaws.{some_is}
use Rattle.fsd_sound.specs.Format.{IsFormatted, format_page}
use Rattle.volume_format.specs.Formatting.{IsNewImage, Formats, with_pages, with_head, with_volume}
use Rattle.version_data.proofs.LayLaws.{holds_then, monotone_lay}
use Rattle.volume_format.proofs.HeadLaws.{monotone_head, length-head, head_behind, head_at, head_blank}

module _ (l : Layout) (planned : IsPlanned l) where
  pub fits : 16 + 3 * l.third + 2 * l.pages + 72 ≤ l.sectors
  fits = let bounds = planned_bounds l planned in let least = bounds.sectors_least in omega (arith, least)

  pub some_page : 0 < l.pages
  some_page = let bounds = planned_bounds l planned in let least = bounds.pages_least in omega (arith, least)

module _ (l : Layout) (planned : IsPlanned l) (i : List Sector) (long : l.sectors ≤ length i) where
  abbrev first_homes : List Sector
  first_homes = with_pages i (home_a l 0) l.pages

  abbrev homes : List Sector
  homes = with_pages first_homes (home_b l 0) l.pages

  abbrev page_at : ℕ → Sector
  page_at page = Whole (format_page page)

  length-first : length first_homes ≡ length i
  length-first = length-lay i (home_a l 0) page_at l.pages

  length-homes : length homes ≡ length i
  length-homes = length-lay first_homes (home_b l 0) page_at l.pages ∙ length-first

  home_stands : (page : ℕ) → page < l.pages → sector_at (with_volume l i) (home_a l page) ≡ page_at page
  home_stands page lt =
      let here : home_a l 0 + page ≡ home_a l page = omega arith in
      let other : home_a l page < home_b l 0 = omega arith in
      head_behind l homes (home_a l page) (omega arith)
      ∙ lay_other first_homes (home_b l 0) page_at l.pages (home_a l page) (inl other)
      ∙ ap (sector_at first_homes) (sym here)
      ∙ lay_in i (home_a l 0) page_at l.pages page lt (omega (arith, fits l planned))

  copy_stands : (page : ℕ) → page < l.pages → sector_at (with_volume l i) (home_b l page) ≡ page_at page
  copy_stands page lt =
      let here : home_b l 0 + page ≡ home_b l page = omega arith in
      head_behind l homes (home_b l page) (omega arith)
      ∙ ap (sector_at homes) (sym here)
      ∙ lay_in first_homes (home_b l 0) page_at l.pages page lt (omega (arith, fits l planned, length-first))

  log_stays : (s : ℕ) → InLog l s → sector_at (with_volume l i) s ≡ sector_at i s
  log_stays s within =
      let from : 16 ≤ s = omega arith in
      let before : s < home_a l 0 = omega arith in
      let before_copies : s < home_b l 0 = omega arith in
      head_behind l homes s from
      ∙ lay_other first_homes (home_b l 0) page_at l.pages s (inl before_copies)
      ∙ lay_other i (home_a l 0) page_at l.pages s (inl before)

  pub formatted : ((s : ℕ) → sector_at i s ≡ Damaged) → IsFormatted l (with_volume l i)
  formatted new =
      let room : 16 ≤ length homes = omega (arith, fits l planned, length-homes) in record {
        planned = planned;
        long = omega (arith, length-head l homes, length-homes);
        root = head_at l homes 0 (omega arith) room;
        root_copy = head_at l homes 4 (omega arith) room;
        anchor = head_at l homes 8 (omega arith) room;
        anchor_copy = head_at l homes 12 (omega arith) room;
        homes = home_stands;
        copies = copy_stands;
        log = λ s within. log_stays s within ∙ new s;
        blanks = λ s lt none. head_blank l homes s lt room none;
      }

windows_are : (w : Windows) (present next : Option WeakRun) → w.present ≡ present → w.next ≡ next → w ≡ record { present = present; next = next }
windows_are w present next p n =
    let made : Option WeakRun → Option WeakRun → Windows = λ x y. record { present = x; next = y } in
    ap (λ (x : Option WeakRun). made x w.next) p ∙ ap (λ (y : Option WeakRun). made present y) n

module _ (l : Layout) (planned : IsPlanned l) (old opened mid new : Moment) (long : l.sectors ≤ length old.image)
    (fresh : IsNewImage old) (named : Names (longest_of l.kind) old opened) (holds : Holds opened (with_volume l opened.image) mid) (settles : Settles mid new) where
  in_window : (run : WeakRun) → opened.windows.next ≡ Some run → Formats l old new
  in_window run next =
      let windows : opened.windows ≡ record { present = None; next = Some run } =
      windows_are opened.windows None (Some run) (named.present ∙ ap (λ (w : Windows). w.present) fresh.windows) next in
      let same : mid.windows ≡ record { present = None; next = Some run } = holds.windows ∙ windows in
      let laid : IsWorn (in_weak_run run) (with_volume l opened.image) mid.image = subst (λ (w : Windows). IsWorn (open_damage w) (with_volume l opened.image) mid.image) windows holds.worn in
      let last : IsWorn (in_weak_run run) mid.image new.image = subst (λ (w : Windows). IsWorn (open_damage w) mid.image new.image) same settles.image in
      let damaged = λ (s : ℕ). worn_damaged (open_damage old.windows) old.image opened.image s named.image (fresh.damaged s) in
      record {
        run = run;
        short = subst (λ (o : Option WeakRun). IfSome o (λ r. r.count ≤ longest_of l.kind)) next named.short;
        formatted = record {
          written = with_volume l opened.image;
          formatted = formatted l planned opened.image (omega (arith, named.image.size)) damaged;
          worn = worn_trans (in_weak_run run) _ _ _ laid last;
        };
        windows = settles.windows ∙ ap (λ (w : Windows). settled w.present w.next) same;
        said = settles.said ∙ holds.said ∙ named.said;
      }

  pub formats : Formats l old new
  formats = let run = some_is opened.windows.next named.next in in_window run.0 run.1

-- a call whose last step settles
pub formats_if : {T E H : Type 0} {l : Layout} (old mid new : Moment) (r : Result T E) → OnOk r (H → Settles mid new) → (H → Settles mid new → IsNewImage old → Formats l old new) → OnOk r (H → IsNewImage old → Formats l old new)
formats_if old mid new (Ok x) settles make = λ h fresh. make h (settles h) fresh
formats_if old mid new (Err e) settles make = tt

-- both rows of name pages, then the head
pub volume_laid : (l : Layout) (m0 m1 m2 m3 : Moment) (a b n : ℕ) → a ≡ home_a l 0 → b ≡ home_b l 0 → n ≡ l.pages
    → Holds m0 (with_pages m0.image a n) m1 → Holds m1 (with_pages m1.image b n) m2 → Holds m2 (with_head l m2.image) m3 → Holds m0 (with_volume l m0.image) m3
volume_laid l m0 m1 m2 m3 a b n at_a at_b count first second head =
    let both = holds_then (λ i. with_pages i b n) m0 m1 m2 (with_pages m0.image a n) (monotone_lay b (λ page. Whole (format_page page)) n) first second in
    let all = holds_then (with_head l) m0 m2 m3 (with_pages (with_pages m0.image a n) b n) (monotone_head l) both head in
    let P : ℕ → ℕ → ℕ → Type 0 = λ x y z. Holds m0 (with_head l (with_pages (with_pages m0.image x z) y z)) m3 in
    subst (λ (z : ℕ). P (home_a l 0) (home_b l 0) z) count (subst (λ (y : ℕ). P (home_a l 0) y n) at_b (subst (λ (x : ℕ). P x b n) at_a all))
