-- The homes of a page are changed: what is shown stays where the page is logged, or the homes tell the same.
use Rattle.std.proofs.Common.{◌≡◌, ◌≢◌, ⊎_elim, ℕ, ◌+◌, ◌*◌, ◌<◌, ◌≤◌, List, length, Option, Some, None, refl, sym, ap, subst, ◌∙◌, arith}
use Rattle.std.specs.Prelude.{IfSome, option_and_then}
use Rattle.std.specs.Option.{option_or}
use Rattle.volume_layout.specs.declared.layout.Layout.{Layout}
use Rattle.volume_layout.specs.Layout.{home_a, home_b, turned}
use Rattle.fsd_formats.specs.declared.anchor.Anchor.{Anchor}
use Rattle.sector_disk.specs.declared.sector.Sector.TheVariants.{Whole, Damaged}
use Rattle.sector_disk.specs.Image.{sector_at}
use Rattle.fsd_log.specs.Scan.{Placed}
use Rattle.fsd_log.specs.Images.{last_image}
use Rattle.fsd_files.specs.Disk.{Image, Sectors, bytes_of, first_whole}
use Rattle.fsd_sound.specs.Anchors.{anchor_at, anchor_of, EachAnchor}
use Rattle.fsd_sound.specs.Homes.{home_of}
use Rattle.fsd_sound.specs.Shown.{records_by, newest, each_of, all_pages, shown_by, shown}
use Rattle.fsd_sound.specs.Sound.{SaysTurned, HasRoots, LogsNothing, HasHomes, ShowsOne}
use Rattle.fsd_sound.specs.Stands.{StandsShown}
use Rattle.fsd_sound.proofs.CommuteLaws.{same_or}
use Rattle.fsd_sound.proofs.AlikeLaws.{taken_same, records_same, each_same, roots_same, anchors_same, has_log_same, unlogged_same}
use Rattle.fsd_sound.proofs.AnchorFacts.{newer_one, taken_third, each_both}
use Rattle.fsd_sound.proofs.EachLaws.{all_in_range, each_of_same}
use Rattle.fsd_sound.proofs.SaidLaws.{says_same}

-- the images agree but on the homes of a page, and those tell the same, or the page is logged
pub record Rehomes (l : Layout) (page : ℕ) (i j : Image) : Type 0 where
  pub within : page < l.pages
  pub size : length j ≡ length i
  pub others : (s : ℕ) → s ≢ home_a l page → s ≢ home_b l page → sector_at j s ≡ sector_at i s
  pub unhurt : (s : ℕ) → sector_at j s ≡ Damaged → sector_at i s ≡ Damaged
  pub alike : EachAnchor i (λ a. last_image page (records_by l i a) ≡ None → (x y : List ℕ) → sector_at j (home_a l page) ≡ Whole x → sector_at j (home_b l page) ≡ Whole y → x ≡ y)
  pub same : EachAnchor i (λ a. last_image page (records_by l i a) ≡ None → home_of l j page ≡ home_of l i page)

newest_same : (o home other : Option (List ℕ)) → (o ≡ None → home ≡ other) → option_or o home ≡ option_or o other
newest_same None home other same = same refl
newest_same (Some x) home other same = refl

module _ (l : Layout) (weak : Sectors) (choices : List (List (List ℕ))) (page : ℕ) (i j : Image) (re : Rehomes l page i j) where
  in_front : (s : ℕ) → 8 ≤ s → s < 16 + 3 * l.third → sector_at j s ≡ sector_at i s
  in_front s from lt = re.others s (λ e. omega arith) (λ e. omega arith)

  other_a : (q : ℕ) → q < l.pages → q ≢ page → sector_at j (home_a l q) ≡ sector_at i (home_a l q)
  other_a q lt other = let in_table = re.within in re.others (home_a l q) (λ e. other (omega arith)) (λ e. omega (arith, lt))

  other_b : (q : ℕ) → q < l.pages → q ≢ page → sector_at j (home_b l q) ≡ sector_at i (home_b l q)
  other_b q lt other = let in_table = re.within in re.others (home_b l q) (λ e. omega (arith, in_table)) (λ e. other (omega arith))

  homes_kept : HasHomes l i → HasHomes l j
  homes_kept homes = each_same l i j in_front _ _ (λ a low both q lt none x y first second.
      let absent : (p : ℕ) → last_image p (records_by l j a) ≡ None → last_image p (records_by l i a) ≡ None = λ p gone. ap (last_image p) (sym (records_same l i j in_front a low)) ∙ gone in
      ⊎_elim
      (λ here. both.1 (absent page (ap (λ p. last_image p (records_by l j a)) (sym here) ∙ none)) x y (ap (λ p. sector_at j (home_a l p)) (sym here) ∙ first) (ap (λ p. sector_at j (home_b l p)) (sym here) ∙ second))
      (λ other. both.0 q lt (absent q none) x y (sym (other_a q lt other) ∙ first) (sym (other_b q lt other) ∙ second))
      (same_or q page)) (each_both i _ _ homes re.alike)

  page_same : (a : Anchor) → (last_image page (records_by l i a) ≡ None → home_of l j page ≡ home_of l i page) → (q : ℕ) → q < l.pages → newest l j (records_by l i a) q ≡ newest l i (records_by l i a) q
  page_same a same q lt = ⊎_elim
      (λ here. newest_same (last_image q (records_by l i a)) (home_of l j q) (home_of l i q)
      (λ none. ap (home_of l j) here ∙ same (ap (λ p. last_image p (records_by l i a)) (sym here) ∙ none) ∙ ap (home_of l i) (sym here)))
      (λ other. ap (option_or (last_image q (records_by l i a))) (λ k. first_whole (bytes_of (other_a q lt other k)) (bytes_of (other_b q lt other k))))
      (same_or q page)

  shown_same : shown l j ≡ shown l i
  shown_same = ap (λ o. option_and_then (shown_by l j) o) (taken_same l i j in_front)
      ∙ by_anchor (anchor_of i) (taken_third i) (newer_one _ (anchor_at i 8) (anchor_at i 12) re.same.0 re.same.1)
    where
      by_anchor : (o : Option Anchor) → IfSome o (λ a. a.third ≤ 2) → IfSome o (λ a. last_image page (records_by l i a) ≡ None → home_of l j page ≡ home_of l i page) → option_and_then (shown_by l j) o ≡ option_and_then (shown_by l i) o
      by_anchor None low same = refl
      by_anchor (Some a) low same =
          ap (λ (r : List Placed). each_of (newest l j r) (all_pages l)) (records_same l i j in_front a low)
          ∙ each_of_same (newest l j (records_by l i a)) (newest l i (records_by l i a)) (all_pages l)
          (all_in_range (λ q. newest l j (records_by l i a) q ≡ newest l i (records_by l i a) q) 0 l.pages (λ q le lt. page_same a same q (omega (arith, lt))))

  pub rehomed_stands : StandsShown l weak choices i → StandsShown l weak choices j
  rehomed_stands stands = record {
    roots = roots_same l i j in_front weak (omega (arith, re.size)) (λ s twin hurt. re.unhurt s hurt) (λ s lt. re.others s (λ e. omega arith) (λ e. omega arith)) stands.roots;
    empty = λ says. unlogged_same l i j in_front (stands.empty (says_same (turned l) i j (λ s lt. re.others s (λ e. omega arith) (λ e. omega arith)) says));
    anchors = anchors_same l i j in_front stands.anchors;
    log = has_log_same l i j in_front weak stands.log;
    homes = homes_kept stands.homes;
    shows = subst (ShowsOne choices) (sym shown_same) stands.shows;
  }

-- ---- a root

-- the images agree but on the roots
module _ (l : Layout) (weak : Sectors) (choices : List (List (List ℕ))) (i j : Image) (behind : (s : ℕ) → 8 ≤ s → sector_at j s ≡ sector_at i s) where
  behind_front : (s : ℕ) → 8 ≤ s → s < 16 + 3 * l.third → sector_at j s ≡ sector_at i s
  behind_front s from lt = behind s from

  home_behind : (q : ℕ) → home_of l j q ≡ home_of l i q
  home_behind q = λ k. first_whole (bytes_of (behind (home_a l q) (omega arith) k)) (bytes_of (behind (home_b l q) (omega arith) k))

  shown_behind : shown l j ≡ shown l i
  shown_behind = ap (λ o. option_and_then (shown_by l j) o) (taken_same l i j behind_front) ∙ by_anchor (anchor_of i) (taken_third i)
    where
      by_anchor : (o : Option Anchor) → IfSome o (λ a. a.third ≤ 2) → option_and_then (shown_by l j) o ≡ option_and_then (shown_by l i) o
      by_anchor None low = refl
      by_anchor (Some a) low =
          ap (λ (r : List Placed). each_of (newest l j r) (all_pages l)) (records_same l i j behind_front a low)
          ∙ each_of_same (newest l j (records_by l i a)) (newest l i (records_by l i a)) (all_pages l)
          (all_in_range (λ q. newest l j (records_by l i a) q ≡ newest l i (records_by l i a) q) 0 l.pages (λ q le lt. ap (option_or (last_image q (records_by l i a))) (home_behind q)))

  pub rooted_stands : HasRoots l weak j → (SaysTurned l j → LogsNothing l i) → StandsShown l weak choices i → StandsShown l weak choices j
  rooted_stands roots empty stands = record {
    roots = roots;
    empty = λ says. unlogged_same l i j behind_front (empty says);
    anchors = anchors_same l i j behind_front stands.anchors;
    log = has_log_same l i j behind_front weak stands.log;
    homes = each_same l i j behind_front _ _ (λ a low homes q lt none x y first second. homes q lt (ap (last_image q) (sym (records_same l i j behind_front a low)) ∙ none) x y
        (sym (behind (home_a l q) (omega arith)) ∙ first) (sym (behind (home_b l q) (omega arith)) ∙ second)) stands.homes;
    shows = subst (ShowsOne choices) (sym shown_behind) stands.shows;
  }
