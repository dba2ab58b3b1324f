-- The anchor of the next epoch is written over one of the two, once the homes are whole and alike: the pages that are at home
-- are shown by it, and by the other what was shown before.
use Rattle.std.proofs.Common.{◌≡◌, ◌≢◌, ◌⊎◌, inl, inr, ⊎_elim, ℕ, ◌<◌, ◌≤◌, Bool, true, false, cond, List, [], length, Option, Some, None, refl, sym, ap, subst, ◌∙◌, arith}
use Rattle.std.specs.Prelude.{IfSome, IsSome, is_some, option_and_then, Contains}
use Rattle.std.proofs.lemmas.List.{length-set}
use Rattle.std.proofs.lemmas.Bool.Decides.{nat_tests}
use Rattle.volume_layout.specs.declared.layout.Layout.{Layout}
use Rattle.volume_layout.specs.Layout.{home_a, home_b, turned}
use Rattle.fsd_formats.specs.declared.anchor.Anchor.{Anchor}
use Rattle.fsd_formats.specs.Anchors.{anchor_bytes, read_anchor}
use Rattle.sector_disk.specs.declared.sector.WeakRun.{WeakRun}
use Rattle.sector_disk.specs.declared.sector.Sector.{Sector}
use Rattle.sector_disk.specs.declared.sector.Sector.TheVariants.{Whole}
use Rattle.sector_disk.specs.Image.{sector_at, with_sector, IsWorn}
use Rattle.fsd_log.specs.Scan.{Walked, newer_of, is_newer}
use Rattle.fsd_log.specs.Images.{last_image}
use Rattle.fsd_files.specs.Disk.{Image, Sectors, SectorWorn, bytes_of, bytes_at}
use Rattle.fsd_sound.specs.Anchors.{anchor_at, anchor_of, EachAnchor, fresh_anchor}
use Rattle.fsd_sound.specs.Laid.{IsLaid}
use Rattle.fsd_sound.specs.Shown.{records_by, shown_by, shown}
use Rattle.fsd_sound.specs.Sound.{IfWhole, EachStamp, HasAnchors, disk_records, IsSuffix, ScansAgree, HasHomes, ShowsOne, ShowsPages, weak_of}
use Rattle.fsd_sound.proofs.LogPlaces.{SameLog, same_scan, scan_records, laid_same}
use Rattle.fsd_log.proofs.AnchorLaws.{third_in}
use Rattle.fsd_sound.proofs.FreshLaws.{anchor_stands}
use Rattle.fsd_sound.specs.Begun.{IsHomed, AreOlder}
use Rattle.fsd_sound.specs.Stands.{StandsShown}
use Rattle.fsd_sound.specs.Windows.{IsNarrow}
use Rattle.fsd_sound.proofs.CommuteLaws.{same_or, with_same, with_other, all_over, shows_all, both_same, all_shows}
use Rattle.fsd_sound.proofs.SavedLaws.{open_anchored}
use Rattle.fsd_sound.proofs.HomedLaws.{stamps_up, no_records, homes_alike, pages_are}
use Rattle.fsd_sound.proofs.SaidLaws.{own_roots_say, says_same, says_worn, some_same}
use Rattle.fsd_sound.proofs.SectorFacts.{not_damaged}
use Rattle.fsd_sound.proofs.AnchorFacts.{either_same}

-- the places of the two anchors, in either order
abbrev pub AreAnchorPlaces : ℕ → ℕ → Type 0
AreAnchorPlaces s t = ((s ≡ 8) × (t ≡ 12)) ⊎ ((s ≡ 12) × (t ≡ 8))

module _ (l : Layout) (epoch : ℕ) (pages : List (List ℕ)) (c : Image) (homed : IsHomed l epoch pages c) (weak : Sectors) (narrow : IsNarrow weak) (choices : List (List (List ℕ))) (chosen : Contains choices pages)
    (s t : ℕ) (at : AreAnchorPlaces s t) (i : Image) (room : s < length i) (worn : IsWorn weak c i) (older : EachAnchor i (λ a. (a.epoch < epoch) ⊎ (a ≡ fresh_anchor epoch))) (stands : StandsShown l weak choices i) where
  abbrev j : Image
  j = with_sector i s (anchor_bytes (fresh_anchor epoch))

  j_other : (p : ℕ) → p ≢ s → sector_at j p ≡ sector_at i p
  j_other p other = with_other i s p (anchor_bytes (fresh_anchor epoch)) other

  j_s : sector_at j s ≡ Whole (anchor_bytes (fresh_anchor epoch))
  j_s = with_same i s (anchor_bytes (fresh_anchor epoch)) room

  t_not : t ≢ s
  t_not = elim at [ inl o ↦ λ e. omega (arith, e, o.0, o.1) | inr o ↦ λ e. omega (arith, e, o.0, o.1) ]

  behind : (p : ℕ) → 16 ≤ p → sector_at j p ≡ sector_at i p
  behind p from = j_other p (λ e. elim at [ inl o ↦ omega (arith, e, o.0, from) | inr o ↦ omega (arith, e, o.0, from) ])

  head : (p : ℕ) → p < 8 → sector_at j p ≡ sector_at i p
  head p lt = j_other p (λ e. elim at [ inl o ↦ omega (arith, e, o.0, lt) | inr o ↦ omega (arith, e, o.0, lt) ])

  j_worn : (p : ℕ) → 16 ≤ p → SectorWorn (weak p) (sector_at c p) (sector_at j p)
  j_worn p from = subst (SectorWorn (weak p) (sector_at c p)) (sym (behind p from)) (worn.each p)

  log_same : SameLog l i j
  log_same p within = behind p (let from = within.0 in omega (arith, from))

  found_s : anchor_at j s ≡ Some (fresh_anchor epoch)
  found_s = anchor_stands epoch j s homed.first homed.last j_s

  found_t : anchor_at j t ≡ anchor_at i t
  found_t = ap (λ (x : Sector). option_and_then read_anchor (bytes_of x)) (j_other t t_not)

  -- of the new anchor and of the other, if that stands
  each_now : (Q : Anchor → Type 0) → Q (fresh_anchor epoch) → IfSome (anchor_at i t) Q → EachAnchor j Q
  each_now Q new other =
      let first : IfSome (anchor_at j s) Q = subst (λ (o : Option Anchor). IfSome o Q) (sym found_s) new in
      let second : IfSome (anchor_at j t) Q = subst (λ (o : Option Anchor). IfSome o Q) (sym found_t) other in
      elim at [
        | inl o ↦ (subst (λ (p : ℕ). IfSome (anchor_at j p) Q) o.0 first, subst (λ (p : ℕ). IfSome (anchor_at j p) Q) o.1 second)
        | inr o ↦ (subst (λ (p : ℕ). IfSome (anchor_at j p) Q) o.1 second, subst (λ (p : ℕ). IfSome (anchor_at j p) Q) o.0 first)
      ]

  of_other : (P : Anchor → Type 0) → EachAnchor i P → IfSome (anchor_at i t) P
  of_other P each = elim at [
    | inl o ↦ subst (λ (p : ℕ). IfSome (anchor_at i p) P) (sym o.1) each.1
    | inr o ↦ subst (λ (p : ℕ). IfSome (anchor_at i p) P) (sym o.1) each.0
  ]

  -- what the other was, and what it is now
  on_other : (P Q : Anchor → Type 0) → ((b : Anchor) → b.third ≤ 2 → P b → Q b) → EachAnchor i P → IfSome (anchor_at i t) Q
  on_other P Q on each = by_found (anchor_at i t) refl (of_other P each)
    where
      by_found : (o : Option Anchor) → anchor_at i t ≡ o → IfSome o P → IfSome o Q
      by_found None is p = tt
      by_found (Some b) is p = on b (third_in (bytes_at i t) b is) p

  -- ---- the new one is taken

  first_newer : (o : Option Anchor) → IfSome o (λ a. (a.epoch < epoch) ⊎ (a ≡ fresh_anchor epoch)) → newer_of (Some (fresh_anchor epoch)) o ≡ Some (fresh_anchor epoch)
  first_newer None old = refl
  first_newer (Some b) (inl lt) = ap (λ (x : Bool). Some (cond x b (fresh_anchor epoch))) not_newer
    where
      not_newer : is_newer b (fresh_anchor epoch) ≡ false
      not_newer = grind (arith, nat_tests)
  first_newer (Some b) (inr same) = (λ k. Some (cond (is_newer b (fresh_anchor epoch)) (same k) (fresh_anchor epoch))) ∙ ap (λ (x : Anchor). Some x) (either_same (is_newer b (fresh_anchor epoch)) (fresh_anchor epoch))

  second_newer : (o : Option Anchor) → IfSome o (λ a. (a.epoch < epoch) ⊎ (a ≡ fresh_anchor epoch)) → newer_of o (Some (fresh_anchor epoch)) ≡ Some (fresh_anchor epoch)
  second_newer None old = refl
  second_newer (Some b) (inl lt) = ap (λ (x : Bool). Some (cond x (fresh_anchor epoch) b)) newer
    where
      newer : is_newer (fresh_anchor epoch) b ≡ true
      newer = grind (arith, nat_tests)
  second_newer (Some b) (inr same) = (λ k. Some (cond (is_newer (fresh_anchor epoch) b) (fresh_anchor epoch) (same k))) ∙ ap (λ (x : Anchor). Some x) (either_same (is_newer (fresh_anchor epoch) b) (fresh_anchor epoch))

  taken_now : anchor_of j ≡ Some (fresh_anchor epoch)
  taken_now = elim at [
    | inl o ↦
        let one : anchor_at j 8 ≡ Some (fresh_anchor epoch) = ap (anchor_at j) (sym o.0) ∙ found_s in
        let two : anchor_at j 12 ≡ anchor_at i 12 = ap (anchor_at j) (sym o.1) ∙ found_t ∙ ap (anchor_at i) o.1 in
        (λ k. newer_of (one k) (two k)) ∙ first_newer (anchor_at i 12) older.1
    | inr o ↦
        let one : anchor_at j 12 ≡ Some (fresh_anchor epoch) = ap (anchor_at j) (sym o.0) ∙ found_s in
        let two : anchor_at j 8 ≡ anchor_at i 8 = ap (anchor_at j) (sym o.1) ∙ found_t ∙ ap (anchor_at i) o.1 in
        (λ k. newer_of (two k) (one k)) ∙ second_newer (anchor_at i 8) older.0
  ]

  shown_now : shown l j ≡ Some pages
  shown_now = ap (option_and_then (shown_by l j)) taken_now ∙ pages_are l epoch pages c homed weak j j_worn narrow

  -- ---- the log

  abbrev IsOld : Anchor → Type 0
  IsOld a = (a.epoch < epoch) ⊎ (a ≡ fresh_anchor epoch)

  suffix_same : (a : Anchor) → a ≡ fresh_anchor epoch → IsSuffix (disk_records l j (fresh_anchor epoch)) (disk_records l j a)
  suffix_same a same = ([], ap (disk_records l j) same)

  agree_first : (o : Option Anchor) → IfSome o IsOld → ScansAgree l j (Some (fresh_anchor epoch)) o (Some (fresh_anchor epoch))
  agree_first None old = tt
  agree_first (Some b) old = λ e. (([], refl), ⊎_elim (λ lt. absurd (omega (arith, e, lt))) (λ same. suffix_same b same) old)

  agree_second : (o : Option Anchor) → IfSome o IsOld → ScansAgree l j o (Some (fresh_anchor epoch)) (Some (fresh_anchor epoch))
  agree_second None old = tt
  agree_second (Some b) old = λ e. (⊎_elim (λ lt. absurd (omega (arith, e, lt))) (λ same. suffix_same b same) old, ([], refl))

  agree_now : ScansAgree l j (anchor_at j 8) (anchor_at j 12) (anchor_of j)
  agree_now = subst (ScansAgree l j (anchor_at j 8) (anchor_at j 12)) (sym taken_now) (elim at [
    | inl o ↦
        let one : anchor_at j 8 ≡ Some (fresh_anchor epoch) = ap (anchor_at j) (sym o.0) ∙ found_s in
        let two : anchor_at j 12 ≡ anchor_at i 12 = ap (anchor_at j) (sym o.1) ∙ found_t ∙ ap (anchor_at i) o.1 in
        subst (λ (x : Option Anchor). ScansAgree l j x (anchor_at j 12) (Some (fresh_anchor epoch))) (sym one) (subst (λ (x : Option Anchor). ScansAgree l j (Some (fresh_anchor epoch)) x (Some (fresh_anchor epoch))) (sym two) (agree_first (anchor_at i 12) older.1))
    | inr o ↦
        let one : anchor_at j 12 ≡ Some (fresh_anchor epoch) = ap (anchor_at j) (sym o.0) ∙ found_s in
        let two : anchor_at j 8 ≡ anchor_at i 8 = ap (anchor_at j) (sym o.1) ∙ found_t ∙ ap (anchor_at i) o.1 in
        subst (λ (x : Option Anchor). ScansAgree l j x (anchor_at j 12) (Some (fresh_anchor epoch))) (sym two) (subst (λ (x : Option Anchor). ScansAgree l j (anchor_at i 8) x (Some (fresh_anchor epoch))) (sym one) (agree_second (anchor_at i 8) older.0))
  ])

  records_same : (a : Anchor) → a.third ≤ 2 → records_by l j a ≡ records_by l i a
  records_same a low = ap (λ (x : Walked). x.records) (same_scan l i j log_same a low)

  laid_now : EachAnchor j (λ a. IsLaid l a weak j (records_by l j a))
  laid_now = each_now (λ a. IsLaid l a weak j (records_by l j a)) (subst (IsLaid l (fresh_anchor epoch) weak j) (sym (no_records l epoch pages c homed weak j j_worn)) tt)
      (on_other (λ a. IsLaid l a weak i (records_by l i a)) (λ a. IsLaid l a weak j (records_by l j a))
      (λ b low laid. subst (IsLaid l b weak j) (sym (records_same b low)) (laid_same l b weak i j log_same (records_by l i b) (scan_records l i b low) laid)) stands.log.laid)

  each_any : (Q : Anchor → Type 0) → ((a : Anchor) → Q a) → IfSome (anchor_at i t) Q
  each_any Q all = by_found (anchor_at i t)
    where
      by_found : (o : Option Anchor) → IfSome o Q
      by_found None = tt
      by_found (Some a) = all a

  homes_now : HasHomes l j
  homes_now =
      let all : (a : Anchor) → (page : ℕ) → page < l.pages → last_image page (records_by l j a) ≡ None → (x y : List ℕ) → sector_at j (home_a l page) ≡ Whole x → sector_at j (home_b l page) ≡ Whole y → x ≡ y =
      λ a page lt none x y first second. homes_alike l epoch pages c homed weak j j_worn page lt x y first second in
      each_now _ (all (fresh_anchor epoch)) (each_any _ all)

  -- ---- the anchors

  reads_s : (p : ℕ) → p ≡ s → IfWhole j p (λ b. IsSome (read_anchor b))
  reads_s p here b is =
      let found : anchor_at j p ≡ Some (fresh_anchor epoch) = ap (anchor_at j) here ∙ found_s in
      let read : read_anchor b ≡ Some (fresh_anchor epoch) = sym (ap (λ (x : Sector). option_and_then read_anchor (bytes_of x)) is) ∙ found in
      ap is_some read

  reads : (p : ℕ) → IfWhole i p (λ b. IsSome (read_anchor b)) → IfWhole j p (λ b. IsSome (read_anchor b))
  reads p before = ⊎_elim (λ here. reads_s p here) (λ other b is. before b (sym (j_other p other) ∙ is)) (same_or p s)

  anchors_now : HasAnchors l j
  anchors_now = record {
    first = reads 8 stands.anchors.first;
    second = reads 12 stands.anchors.second;
    epochs = each_now (λ a. EachStamp l j (λ stamp. stamp.epoch ≤ a.epoch)) (stamps_up l epoch pages c homed weak j j_worn)
        (on_other (λ a. EachStamp l i (λ stamp. stamp.epoch ≤ a.epoch)) (λ a. EachStamp l j (λ stamp. stamp.epoch ≤ a.epoch)) (λ b low stamps p within x is. stamps p within x (sym (log_same p within) ∙ is)) stands.anchors.epochs);
  }

  pub renewed_stands : StandsShown l weak choices (with_sector i s (anchor_bytes (fresh_anchor epoch)))
  renewed_stands = record {
    roots = record {
      planned = stands.roots.planned;
      other = stands.roots.other;
      beside = stands.roots.beside;
      some = some_same l i j stands.roots.other (head 0 (omega arith)) (head 4 (omega arith)) stands.roots.some;
      first = λ b is. stands.roots.first b (sym (head 0 (omega arith)) ∙ is);
      second = λ b is. stands.roots.second b (sym (head 4 (omega arith)) ∙ is);
      fits = omega (arith, stands.roots.fits, length-set i s (Whole (anchor_bytes (fresh_anchor epoch))));
      twins = λ p twin hurt. ⊎_elim
          (λ here. absurd (not_damaged (sector_at j s) (anchor_bytes (fresh_anchor epoch)) j_s (ap (sector_at j) (sym here) ∙ hurt)))
          (λ other. stands.roots.twins p twin (sym (j_other p other) ∙ hurt)) (same_or p s);
    };
    empty = λ says. absurd (own_roots_say l weak c (inl homed.root, inl homed.root_copy) (says_worn (turned l) c i weak worn (says_same (turned l) i j head says)));
    anchors = anchors_now;
    log = record { agree = agree_now; laid = laid_now };
    homes = homes_now;
    shows = subst (ShowsOne choices) (sym shown_now) chosen;
  }

-- wear takes anchors away and brings none
older_worn : (l : Layout) (weak : Sectors) (epoch : ℕ) (c i : Image) → IsWorn weak c i → AreOlder epoch c → EachAnchor i (λ a. (a.epoch < epoch) ⊎ (a ≡ fresh_anchor epoch))
older_worn l weak epoch c i worn older = (at_place 8 older.0, at_place 12 older.1)
  where
    at_place : (s : ℕ) → IfSome (anchor_at c s) (λ a. (a.epoch < epoch) ⊎ (a ≡ fresh_anchor epoch)) → IfSome (anchor_at i s) (λ a. (a.epoch < epoch) ⊎ (a ≡ fresh_anchor epoch))
    at_place s old = ⊎_elim
        (λ same. subst (λ (x : Sector). IfSome (option_and_then read_anchor (bytes_of x)) (λ a. (a.epoch < epoch) ⊎ (a ≡ fresh_anchor epoch))) (sym same) old)
        (λ hurt. subst (λ (x : Sector). IfSome (option_and_then read_anchor (bytes_of x)) (λ a. (a.epoch < epoch) ⊎ (a ≡ fresh_anchor epoch))) (sym hurt.1) tt) (worn.each s)

pub renewed_shows : (l : Layout) (windows : List WeakRun) → IsNarrow (weak_of windows) → (choices : List (List (List ℕ))) (epoch : ℕ) (pages : List (List ℕ)) (s t : ℕ) (c : Image) → AreAnchorPlaces s t → s < length c
    → IsHomed l epoch pages c → AreOlder epoch c → Contains choices pages → ShowsPages l windows choices c → ShowsPages l windows choices (with_sector c s (anchor_bytes (fresh_anchor epoch)))
renewed_shows l windows narrow choices epoch pages s t c at room homed older chosen shows =
    all_shows l windows shows.readable.borne choices (with_sector c s (anchor_bytes (fresh_anchor epoch)))
    (both_same l windows choices c (with_sector c s (anchor_bytes (fresh_anchor epoch))) shows (omega (arith, length-set c s (Whole (anchor_bytes (fresh_anchor epoch))))) (λ p head. with_other c s p (anchor_bytes (fresh_anchor epoch)) (λ e. elim at [ inl o ↦ omega (arith, e, o.0, head) | inr o ↦ omega (arith, e, o.0, head) ]))
    (open_anchored c s t (anchor_bytes (fresh_anchor epoch)) at room refl))
    (all_over (weak_of windows) (StandsShown l (weak_of windows) choices) c s (anchor_bytes (fresh_anchor epoch)) room (shows_all l windows narrow choices c shows)
    (λ i worn there stands. renewed_stands l epoch pages c homed (weak_of windows) narrow choices chosen s t at i (omega (arith, room, worn.size)) worn (older_worn l (weak_of windows) epoch c i worn older) stands))
