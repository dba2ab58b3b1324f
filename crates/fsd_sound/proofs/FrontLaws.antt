-- What an image shows lies in front of the map: two images that agree there show the same.
use Rattle.std.proofs.Common.{◌≡◌, ℕ, ◌+◌, ◌-◌, ◌*◌, ◌<◌, ◌≤◌, List, ◌++◌, length, take, drop, Option, Some, None, refl, sym, ap, subst, ◌∙◌, inl, inr, arith}
use Rattle.std.specs.Prelude.{IsTrue, IfSome, option_and_then}
use Rattle.std.specs.Option.{option_or}
use Rattle.std.proofs.lemmas.Bool.{cases_lt}
use Rattle.std.proofs.lemmas.List.{get_or_append_left, get_or-append_right, get_or-take, get_or-drop, length-take-le, length-append, length-drop}
use Rattle.volume_layout.specs.declared.layout.Layout.{Layout}
use Rattle.volume_layout.specs.Layout.{home_a, home_b, map_start}
use Rattle.fsd_formats.specs.declared.anchor.Anchor.{Anchor}
use Rattle.sector_disk.specs.declared.sector.WeakRun.{WeakRun}
use Rattle.sector_disk.specs.declared.sector.Sector.TheVariants.{Damaged}
use Rattle.sector_disk.specs.Image.{sector_at, IsWorn}
use Rattle.fsd_log.specs.Scan.{Placed}
use Rattle.fsd_log.specs.Images.{last_image}
use Rattle.fsd_files.specs.Disk.{Image, Sectors, bytes_of, first_whole}
use Rattle.fsd_sound.specs.Anchors.{anchor_of}
use Rattle.fsd_sound.specs.Homes.{home_of}
use Rattle.fsd_sound.specs.Shown.{records_by, newest, each_of, all_pages, shown_by, shown}
use Rattle.fsd_sound.specs.Sound.{HasRoots, HasHomes, ShowsOne, ShowsPages, weak_of, is_twin}
use Rattle.fsd_sound.proofs.LogPlaces.{SameLog}
use Rattle.fsd_sound.proofs.AlikeLaws.{log_same, taken_same, records_same, each_same, roots_same, anchors_same, has_log_same, unlogged_same}
use Rattle.fsd_sound.proofs.AnchorFacts.{taken_third}
use Rattle.fsd_sound.proofs.EachLaws.{all_in_range, each_of_same}
use Rattle.fsd_sound.proofs.SaidLaws.{says_same}
use Rattle.fsd_sound.proofs.TwinLaws.{each_twin}
use Rattle.fsd_sound.proofs.SavedLaws.{closes_none, stays_open}

abbrev pub SameFront : Layout → Image → Image → Type 0
SameFront l i j = (s : ℕ) → s < map_start l → sector_at j s ≡ sector_at i s

-- ---- sectors that stand twice

pub twin_front : (l : Layout) (s : ℕ) → IsTrue (is_twin l s) → s < map_start l
twin_front l s t = each_twin l (λ p. p < map_start l) (omega arith) (omega arith) (omega arith) (omega arith) (λ page lt. omega arith) (λ page lt. omega arith) s t

-- ---- two images with the same front

module _ (l : Layout) (i j : Image) (same : SameFront l i j) where
  pub log_front : (s : ℕ) → 8 ≤ s → s < 16 + 3 * l.third → sector_at j s ≡ sector_at i s
  log_front s from lt = same s (omega arith)

  pub front_log : SameLog l i j
  front_log = log_same l i j log_front

  home_same : (page : ℕ) → page < l.pages → home_of l j page ≡ home_of l i page
  home_same page lt = λ k. first_whole (bytes_of (same (home_a l page) (omega (arith, lt)) k)) (bytes_of (same (home_b l page) (omega (arith, lt)) k))

  shown_by_same : (a : Anchor) → a.third ≤ 2 → shown_by l j a ≡ shown_by l i a
  shown_by_same a low =
      ap (λ (r : List Placed). each_of (newest l j r) (all_pages l)) (records_same l i j log_front a low)
      ∙ each_of_same (newest l j (records_by l i a)) (newest l i (records_by l i a)) (all_pages l)
      (all_in_range (λ page. newest l j (records_by l i a) page ≡ newest l i (records_by l i a) page) 0 l.pages
      (λ page le lt. ap (λ o. option_or (last_image page (records_by l i a)) o) (home_same page (omega (arith, lt)))))

  pub shown_same : shown l j ≡ shown l i
  shown_same = ap (λ o. option_and_then (shown_by l j) o) (taken_same l i j log_front) ∙ by_anchor (anchor_of i) (taken_third i)
    where
      by_anchor : (o : Option Anchor) → IfSome o (λ a. a.third ≤ 2) → option_and_then (shown_by l j) o ≡ option_and_then (shown_by l i) o
      by_anchor None low = refl
      by_anchor (Some a) low = shown_by_same a low

  roots_front : (weak : Sectors) → length i ≤ length j → HasRoots l weak i → HasRoots l weak j
  roots_front weak size = roots_same l i j log_front weak size (λ s twin hurt. sym (same s (twin_front l s twin)) ∙ hurt) (λ s lt. same s (omega (arith, lt)))

  homes_same : HasHomes l i → HasHomes l j
  homes_same h = each_same l i j log_front _ _ (λ a low homes page lt none x y at_a at_b.
      homes page lt (ap (last_image page) (sym (records_same l i j log_front a low)) ∙ none) x y
      (sym (same (home_a l page) (omega (arith, lt))) ∙ at_a) (sym (same (home_b l page) (omega (arith, lt))) ∙ at_b)) h

-- ---- worn images with the same front

-- the front of one image before the rest of another
abbrev pub graft : Layout → Image → Image → Image
graft l k i = take (map_start l) k ++ drop (map_start l) i

module _ (l : Layout) (weak : Sectors) (i j k : Image) (same : SameFront l i j) (size : length i ≤ length j) (long : l.sectors ≤ length i) (room : map_start l ≤ l.sectors) (worn : IsWorn weak j k) where
  front_size : length (take (map_start l) k) ≡ map_start l
  front_size = length-take-le (map_start l) k (omega (arith, worn.size, size, long, room))

  graft_front : (s : ℕ) → s < map_start l → sector_at (graft l k i) s ≡ sector_at k s
  graft_front s lt = get_or_append_left (take (map_start l) k) (drop (map_start l) i) Damaged s (omega (arith, front_size, lt)) ∙ get_or-take (map_start l) k s Damaged lt

  pub graft_rest : (s : ℕ) → map_start l ≤ s → sector_at (graft l k i) s ≡ sector_at i s
  graft_rest s ge =
      let back : map_start l + (s - map_start l) ≡ s = omega (arith, ge) in
      get_or-append_right (take (map_start l) k) (drop (map_start l) i) (map_start l) s Damaged front_size ge
      ∙ get_or-drop (map_start l) i (s - map_start l) Damaged ∙ ap (sector_at i) back

  pub graft_same : SameFront l (graft l k i) k
  graft_same = λ s lt. sym (graft_front s lt)

  pub graft_worn : IsWorn weak i (graft l k i)
  graft_worn = record {
    size = length-append (take (map_start l) k) (drop (map_start l) i) ∙ omega (arith, front_size, length-drop (map_start l) i, long, room);
    each = λ s. elim (cases_lt s (map_start l)) [
      | inl lt ↦ elim (worn.each s) [
        | inl still ↦ inl (graft_front s lt ∙ still ∙ same s lt)
        | inr hurt ↦ inr (hurt.0, graft_front s lt ∙ hurt.1)
      ]
      | inr ge ↦ inl (graft_rest s ge)
    ];
  }

-- an image with the same front shows the same pages, whatever stands behind it
pub front_shows : (l : Layout) (windows : List WeakRun) (choices : List (List (List ℕ))) (i j : Image) → map_start l ≤ l.sectors → SameFront l i j → length i ≤ length j → ShowsPages l windows choices i → ShowsPages l windows choices j
front_shows l windows choices i j room same size shows =
    let long = shows.readable.roots.fits in
    let weak = weak_of windows in
    record {
      readable = record {
        borne = shows.readable.borne;
        roots = roots_front l i j same weak size shows.readable.roots;
        either = λ o beside says.
            let was = shows.readable.either o beside (says_same o i j (λ s lt. same s (omega (arith, lt))) says) in
            record {
              borne = was.borne;
              fits = omega (arith, was.fits, size);
              empty = λ is k worn. unlogged_same l (graft l k i) k (log_front l (graft l k i) k (graft_same l weak i j k same size long room worn)) (was.empty is (graft l k i) (graft_worn l weak i j k same size long room worn));
              opened = λ sized. stays_open i j (closes_none i j (λ bytes there. ap bytes_of (sym (same 8 (omega arith))) ∙ there) (λ bytes there. ap bytes_of (sym (same 12 (omega arith))) ∙ there)) (was.opened sized);
            };
        anchors = anchors_same l i j (log_front l i j same) shows.readable.anchors;
        log = λ k worn. has_log_same l (graft l k i) k (log_front l (graft l k i) k (graft_same l weak i j k same size long room worn)) weak (shows.readable.log (graft l k i) (graft_worn l weak i j k same size long room worn));
        homes = λ k worn. homes_same l (graft l k i) k (graft_same l weak i j k same size long room worn) (shows.readable.homes (graft l k i) (graft_worn l weak i j k same size long room worn));
      };
      within = λ o beside says. shows.within o beside (says_same o i j (λ s lt. same s (omega (arith, lt))) says);
      shows = λ k worn. subst (ShowsOne choices) (sym (shown_same l (graft l k i) k (graft_same l weak i j k same size long room worn))) (shows.shows (graft l k i) (graft_worn l weak i j k same size long room worn));
    }
