-- An anchor is written from its twin: what is shown stays, however the window wears, and the log stays the volume's own.
use Rattle.std.proofs.Common.{◌≡◌, ◌≢◌, inl, inr, ⊎_elim, ℕ, ◌<◌, ◌≤◌, List, [], ◌∷◌, length, Option, Some, None, refl, sym, ap, subst, ◌∙◌, arith}
use Rattle.std.specs.Prelude.{IfSome, IsSome, IsTrue, option_and_then}
use Rattle.std.specs.Option.{option_or}
use Rattle.std.specs.List.{AllByRecursion}
use Rattle.std.proofs.lemmas.List.{length-set}
use Rattle.volume_layout.specs.declared.layout.Layout.{Layout}
use Rattle.volume_layout.specs.Layout.{home_a, home_b, turned}
use Rattle.fsd_formats.specs.declared.anchor.Anchor.{Anchor}
use Rattle.fsd_formats.specs.Anchors.{read_anchor, read_closed}
use Rattle.sector_disk.specs.declared.sector.WeakRun.{WeakRun}
use Rattle.sector_disk.specs.declared.sector.Sector.{Sector}
use Rattle.sector_disk.specs.declared.sector.Sector.TheVariants.{Whole, Damaged}
use Rattle.sector_disk.specs.Image.{sector_at, with_sector}
use Rattle.fsd_log.specs.Scan.{Placed, Walked, newer_of, is_newer}
use Rattle.fsd_log.specs.Images.{last_image}
use Rattle.fsd_log.proofs.AnchorLaws.{third_in}
use Rattle.fsd_files.specs.Disk.{Image, Sectors, bytes_of, bytes_at, first_whole}
use Rattle.fsd_sound.specs.Anchors.{anchor_at, anchor_of, EachAnchor}
use Rattle.fsd_sound.specs.Saved.{closed_at}
use Rattle.fsd_sound.specs.Homes.{home_of}
use Rattle.fsd_sound.specs.Laid.{AllLaid, IsLaid}
use Rattle.fsd_sound.specs.Shown.{records_by, newest, each_of, all_pages, shown_by, shown}
use Rattle.fsd_sound.specs.Sound.{IfWhole, EachStamp, ScansAgree, ShowsOne, ShowsPages, weak_of}
use Rattle.fsd_sound.specs.Stands.{StandsShown}
use Rattle.fsd_sound.specs.Windows.{IsNarrow}
use Rattle.fsd_sound.proofs.CommuteLaws.{same_or, with_same, with_other, all_over, shows_all, both_same, all_shows}
use Rattle.fsd_sound.proofs.SavedLaws.{open_anchored}
use Rattle.fsd_sound.proofs.EachLaws.{all_in_range, each_of_same}
use Rattle.fsd_sound.proofs.LogPlaces.{IsRecord, SameLog, copies_same, front_same, in_record, laid_same, same_scan, scan_records}
use Rattle.fsd_sound.proofs.RenewLaws.{AreAnchorPlaces}
use Rattle.fsd_sound.proofs.SaidLaws.{says_same, some_same}
use Rattle.fsd_sound.proofs.SectorFacts.{not_damaged}
use Rattle.fsd_sound.proofs.AnchorFacts.{either_same}

-- ---- where the anchor was damaged

module _ (l : Layout) (weak : Sectors) (choices : List (List (List ℕ))) (s t : ℕ) (at : AreAnchorPlaces s t) (i : Image) (bytes : List ℕ) (room : s < length i) (whole : sector_at i t ≡ Whole bytes) (hurt : sector_at i s ≡ Damaged) (stands : StandsShown l weak choices i) where
  abbrev j : Image
  j = with_sector i s bytes

  j_other : (p : ℕ) → p ≢ s → sector_at j p ≡ sector_at i p
  j_other p other = with_other i s p bytes other

  j_s : sector_at j s ≡ Whole bytes
  j_s = with_same i s bytes room

  t_not : t ≢ s
  t_not = elim at [ inl o ↦ λ e. omega (arith, e, o.0, o.1) | inr o ↦ λ e. omega (arith, e, o.0, o.1) ]

  behind : (p : ℕ) → 16 ≤ p → sector_at j p ≡ sector_at i p
  behind p from = j_other p (λ e. elim at [ inl o ↦ omega (arith, e, o.0, from) | inr o ↦ omega (arith, e, o.0, from) ])

  head : (p : ℕ) → p < 8 → sector_at j p ≡ sector_at i p
  head p lt = j_other p (λ e. elim at [ inl o ↦ omega (arith, e, o.0, lt) | inr o ↦ omega (arith, e, o.0, lt) ])

  log_same : SameLog l i j
  log_same p within = behind p (let from = within.0 in omega (arith, from))

  -- both places tell what the twin told
  found_t : anchor_at j t ≡ anchor_at i t
  found_t = ap (λ (x : Sector). option_and_then read_anchor (bytes_of x)) (j_other t t_not)

  found_s : anchor_at j s ≡ anchor_at i t
  found_s = ap (λ (x : Sector). option_and_then read_anchor (bytes_of x)) (j_s ∙ sym whole)

  lost_s : anchor_at i s ≡ None
  lost_s = ap (λ (x : Sector). option_and_then read_anchor (bytes_of x)) hurt

  of_twin : (P : Anchor → Type 0) → EachAnchor i P → IfSome (anchor_at i t) P
  of_twin P each = elim at [
    | inl o ↦ subst (λ (p : ℕ). IfSome (anchor_at i p) P) (sym o.1) each.1
    | inr o ↦ subst (λ (p : ℕ). IfSome (anchor_at i p) P) (sym o.1) each.0
  ]

  on_twin : (P Q : Anchor → Type 0) → ((b : Anchor) → b.third ≤ 2 → P b → Q b) → EachAnchor i P → IfSome (anchor_at i t) Q
  on_twin P Q on each = by_found (anchor_at i t) refl (of_twin P each)
    where
      by_found : (o : Option Anchor) → anchor_at i t ≡ o → IfSome o P → IfSome o Q
      by_found None is p = tt
      by_found (Some b) is p = on b (third_in (bytes_at i t) b is) p

  each_now : (Q : Anchor → Type 0) → IfSome (anchor_at i t) Q → EachAnchor j Q
  each_now Q twin =
      let first : IfSome (anchor_at j s) Q = subst (λ (o : Option Anchor). IfSome o Q) (sym found_s) twin in
      let second : IfSome (anchor_at j t) Q = subst (λ (o : Option Anchor). IfSome o Q) (sym found_t) twin in
      elim at [
        | inl o ↦ (subst (λ (p : ℕ). IfSome (anchor_at j p) Q) o.0 first, subst (λ (p : ℕ). IfSome (anchor_at j p) Q) o.1 second)
        | inr o ↦ (subst (λ (p : ℕ). IfSome (anchor_at j p) Q) o.1 second, subst (λ (p : ℕ). IfSome (anchor_at j p) Q) o.0 first)
      ]

  -- ---- it is the one that is taken, before and after

  both_newer : (o : Option Anchor) → newer_of o o ≡ o
  both_newer None = refl
  both_newer (Some a) = ap (λ (x : Anchor). Some x) (either_same (is_newer a a) a)

  first_newer : (o : Option Anchor) → newer_of o None ≡ o
  first_newer None = refl
  first_newer (Some a) = refl

  second_newer : (o : Option Anchor) → newer_of None o ≡ o
  second_newer None = refl
  second_newer (Some a) = refl

  taken_now : anchor_of j ≡ anchor_at i t
  taken_now = elim at [
    | inl o ↦ (λ k. newer_of ((ap (anchor_at j) (sym o.0) ∙ found_s) k) ((ap (anchor_at j) (sym o.1) ∙ found_t) k)) ∙ both_newer (anchor_at i t)
    | inr o ↦ (λ k. newer_of ((ap (anchor_at j) (sym o.1) ∙ found_t) k) ((ap (anchor_at j) (sym o.0) ∙ found_s) k)) ∙ both_newer (anchor_at i t)
  ]

  taken_then : anchor_of i ≡ anchor_at i t
  taken_then = elim at [
    | inl o ↦ (λ k. newer_of ((ap (anchor_at i) (sym o.0) ∙ lost_s) k) (anchor_at i (sym o.1 k))) ∙ second_newer (anchor_at i t)
    | inr o ↦ (λ k. newer_of (anchor_at i (sym o.1 k)) ((ap (anchor_at i) (sym o.0) ∙ lost_s) k)) ∙ first_newer (anchor_at i t)
  ]

  records_same : (a : Anchor) → a.third ≤ 2 → records_by l j a ≡ records_by l i a
  records_same a low = ap (λ (x : Walked). x.records) (same_scan l i j log_same a low)

  home_same : (page : ℕ) → home_of l j page ≡ home_of l i page
  home_same page = λ k. first_whole (bytes_of (behind (home_a l page) (omega arith) k)) (bytes_of (behind (home_b l page) (omega arith) k))

  shown_same : shown l j ≡ shown l i
  shown_same = ap (λ (o : Option Anchor). option_and_then (shown_by l j) o) taken_now ∙ by_anchor (anchor_at i t) refl ∙ ap (λ (o : Option Anchor). option_and_then (shown_by l i) o) (sym taken_then)
    where
      by_anchor : (o : Option Anchor) → anchor_at i t ≡ o → option_and_then (shown_by l j) o ≡ option_and_then (shown_by l i) o
      by_anchor None is = refl
      by_anchor (Some a) is =
          ap (λ (r : List Placed). each_of (newest l j r) (all_pages l)) (records_same a (third_in (bytes_at i t) a is))
          ∙ each_of_same (newest l j (records_by l i a)) (newest l i (records_by l i a)) (all_pages l)
          (all_in_range (λ q. newest l j (records_by l i a) q ≡ newest l i (records_by l i a) q) 0 l.pages (λ q le lt. ap (option_or (last_image q (records_by l i a))) (home_same q)))

  -- ---- the whole

  agree_one : (o : Option Anchor) → ScansAgree l j o o o
  agree_one None = tt
  agree_one (Some a) = λ e. (([], refl), ([], refl))

  agree_now : ScansAgree l j (anchor_at j 8) (anchor_at j 12) (anchor_of j)
  agree_now = subst (ScansAgree l j (anchor_at j 8) (anchor_at j 12)) (sym taken_now) (elim at [
    | inl o ↦ subst (λ (x : Option Anchor). ScansAgree l j x (anchor_at j 12) (anchor_at i t)) (sym (ap (anchor_at j) (sym o.0) ∙ found_s)) (subst (λ (x : Option Anchor). ScansAgree l j (anchor_at i t) x (anchor_at i t)) (sym (ap (anchor_at j) (sym o.1) ∙ found_t)) (agree_one (anchor_at i t)))
    | inr o ↦ subst (λ (x : Option Anchor). ScansAgree l j x (anchor_at j 12) (anchor_at i t)) (sym (ap (anchor_at j) (sym o.1) ∙ found_t)) (subst (λ (x : Option Anchor). ScansAgree l j (anchor_at i t) x (anchor_at i t)) (sym (ap (anchor_at j) (sym o.0) ∙ found_s)) (agree_one (anchor_at i t)))
  ])

  twin_reads : (b : List ℕ) → sector_at i t ≡ Whole b → IsSome (read_anchor b)
  twin_reads b is = elim at [
    | inl o ↦ stands.anchors.second b (ap (sector_at i) (sym o.1) ∙ is)
    | inr o ↦ stands.anchors.first b (ap (sector_at i) (sym o.1) ∙ is)
  ]

  reads : (p : ℕ) → IfWhole i p (λ b. IsSome (read_anchor b)) → IfWhole j p (λ b. IsSome (read_anchor b))
  reads p before = ⊎_elim
      (λ here b is. twin_reads b (whole ∙ sym j_s ∙ ap (sector_at j) (sym here) ∙ is))
      (λ other b is. before b (sym (j_other p other) ∙ is)) (same_or p s)

  mended_stands : StandsShown l weak choices (with_sector i s bytes)
  mended_stands = record {
    roots = record {
      planned = stands.roots.planned;
      other = stands.roots.other;
      beside = stands.roots.beside;
      some = some_same l i j stands.roots.other (head 0 (omega arith)) (head 4 (omega arith)) stands.roots.some;
      first = λ b is. stands.roots.first b (sym (head 0 (omega arith)) ∙ is);
      second = λ b is. stands.roots.second b (sym (head 4 (omega arith)) ∙ is);
      fits = omega (arith, stands.roots.fits, length-set i s (Whole bytes));
      twins = λ p twin gone. ⊎_elim
          (λ here. absurd (not_damaged (sector_at j s) bytes j_s (ap (sector_at j) (sym here) ∙ gone)))
          (λ other. stands.roots.twins p twin (sym (j_other p other) ∙ gone)) (same_or p s);
    };
    empty = λ says. each_now (λ a. (records_by l j a ≡ []) × (records_by (turned l) j a ≡ [])) (on_twin (λ a. (records_by l i a ≡ []) × (records_by (turned l) i a ≡ [])) (λ a. (records_by l j a ≡ []) × (records_by (turned l) j a ≡ []))
        (λ b low none. (records_same b low ∙ none.0, ap (λ (x : Walked). x.records) (same_scan (turned l) i j log_same b low) ∙ none.1)) (stands.empty (says_same (turned l) i j head says)));
    anchors = record {
      first = reads 8 stands.anchors.first;
      second = reads 12 stands.anchors.second;
      epochs = each_now (λ a. EachStamp l j (λ stamp. stamp.epoch ≤ a.epoch))
          (on_twin (λ a. EachStamp l i (λ stamp. stamp.epoch ≤ a.epoch)) (λ a. EachStamp l j (λ stamp. stamp.epoch ≤ a.epoch)) (λ b low stamps p within x is. stamps p within x (sym (log_same p within) ∙ is)) stands.anchors.epochs);
    };
    log = record {
      agree = agree_now;
      laid = each_now (λ a. IsLaid l a weak j (records_by l j a)) (on_twin (λ a. IsLaid l a weak i (records_by l i a)) (λ a. IsLaid l a weak j (records_by l j a))
          (λ b low laid. subst (IsLaid l b weak j) (sym (records_same b low)) (laid_same l b weak i j log_same (records_by l i b) (scan_records l i b low) laid)) stands.log.laid);
    };
    homes = each_now (λ a. (page : ℕ) → page < l.pages → last_image page (records_by l j a) ≡ None → (x y : List ℕ) → sector_at j (home_a l page) ≡ Whole x → sector_at j (home_b l page) ≡ Whole y → x ≡ y)
        (on_twin (λ a. (page : ℕ) → page < l.pages → last_image page (records_by l i a) ≡ None → (x y : List ℕ) → sector_at i (home_a l page) ≡ Whole x → sector_at i (home_b l page) ≡ Whole y → x ≡ y)
        (λ a. (page : ℕ) → page < l.pages → last_image page (records_by l j a) ≡ None → (x y : List ℕ) → sector_at j (home_a l page) ≡ Whole x → sector_at j (home_b l page) ≡ Whole y → x ≡ y)
        (λ b low homes page lt none x y first second. homes page lt (ap (last_image page) (sym (records_same b low)) ∙ none) x y
        (sym (behind (home_a l page) (omega arith)) ∙ first) (sym (behind (home_b l page) (omega arith)) ∙ second)) stands.homes);
    shows = subst (ShowsOne choices) (sym shown_same) stands.shows;
  }

-- ---- however the window wears

anchors_apart : (weak : Sectors) → IsNarrow weak → (s t : ℕ) → AreAnchorPlaces s t → IsTrue (weak s) → IsTrue (weak t) → ⊥
anchors_apart weak narrow s t (inl at) hs ht = narrow s t (omega (arith, at.0, at.1)) hs ht
anchors_apart weak narrow s t (inr at) hs ht = narrow t s (omega (arith, at.0, at.1)) ht hs

-- the damaged anchor is written with its twin's bytes
pub anchor_shows : (l : Layout) (windows : List WeakRun) → IsNarrow (weak_of windows) → (choices : List (List (List ℕ))) (s t : ℕ) → AreAnchorPlaces s t → (c : Image) (bytes : List ℕ) → s < length c → sector_at c t ≡ Whole bytes → sector_at c s ≡ Damaged → IsTrue (weak_of windows s)
    → ShowsPages l windows choices c → ShowsPages l windows choices (with_sector c s bytes)
anchor_shows l windows narrow choices s t at c bytes room whole hurt weak_s shows =
    all_shows l windows shows.readable.borne choices (with_sector c s bytes)
    (both_same l windows choices c (with_sector c s bytes) shows (omega (arith, length-set c s (Whole bytes))) (λ p head. with_other c s p bytes (λ e. elim at [ inl o ↦ omega (arith, e, o.0, head) | inr o ↦ omega (arith, e, o.0, head) ]))
    (λ was. open_anchored c s t bytes at room (sym (ap (λ (x : Sector). option_and_then read_closed (bytes_of x)) whole) ∙ ⊎_elim (λ o. ap (closed_at c) o.1 ∙ was.1) (λ o. ap (closed_at c) o.1 ∙ was.0) at) was))
    (all_over (weak_of windows) (StandsShown l (weak_of windows) choices) c s bytes room (shows_all l windows narrow choices c shows)
    (λ i worn there stands. mended_stands l (weak_of windows) choices s t at i bytes (omega (arith, room, worn.size))
    (⊎_elim (λ same. same ∙ whole) (λ worse. absurd (anchors_apart (weak_of windows) narrow s t at weak_s worse.0)) (worn.each t)) (there ∙ hurt) stands))

-- ---- the log of a volume

module _ (l : Layout) (a : Anchor) (weak : Sectors) (i j : Image) (same : SameLog l i j) where
  pub all_laid_log : (rs : List Placed) → AllByRecursion (IsRecord l a.third) rs → AllLaid l a weak i rs → AllLaid l a weak j rs
  all_laid_log [] are laid = tt
  all_laid_log (r ∷ rs) are laid = (
    (front_same l a weak i j r are.0 (in_record l a weak i j same r are.0) laid.0.0, copies_same l a weak i j r are.0 (in_record l a weak i j same r are.0) laid.0.1),
    all_laid_log rs are.1 laid.1,
  )
