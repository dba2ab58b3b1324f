-- Once the last record's copies stand, a page that the newer anchor's log has is in the log of each anchor, however the run wears.
use Rattle.std.proofs.Common.{◌*◌, ◌≡◌, ◌⊎◌, inl, inr, ⊎_elim, ℕ, ◌+◌, ◌^◌, ◌<◌, ◌≤◌, Bool, true, false, cond, List, [], ◌∷◌, ◌++◌, length, map, Option, Some, None, refl, sym, ap, subst, ◌∙◌, arith}
use Rattle.std.specs.Prelude.{IfSome}
use Rattle.std.specs.Option.{option_or}
use Rattle.std.proofs.lemmas.Bool.{cases_lt}
use Rattle.std.proofs.lemmas.Bool.Decides.{nat_tests}
use Rattle.volume_layout.specs.declared.layout.Layout.{Layout}
use Rattle.volume_layout.specs.Kinds.{gap_of}
use Rattle.fsd_formats.specs.declared.anchor.Anchor.{Anchor}
use Rattle.fsd_formats.specs.Anchors.{read_anchor}
use Rattle.fsd_formats.specs.Record.{end_bytes}
use Rattle.sector_disk.specs.declared.sector.Sector.{Sector}
use Rattle.sector_disk.specs.Image.{IsWorn}
use Rattle.fsd_log.specs.Scan.{Placed, Walked, is_newer, newer_of}
use Rattle.fsd_log.specs.Images.{image_in, last_image}
use Rattle.fsd_log.proofs.JudgedLaws.{or_none}
use Rattle.fsd_files.specs.Disk.{Image, Sectors, bytes_of, bytes_at}
use Rattle.fsd_sound.specs.Anchors.{anchor_at, anchor_of, EachAnchor}
use Rattle.fsd_sound.specs.Laid.{AllStand, HasCopies, IsLaid, AllLaid}
use Rattle.fsd_sound.specs.Shown.{records_by}
use Rattle.fsd_sound.specs.Sound.{EachStamp, HasAnchors, on_disk, disk_records, IsSuffix, ScansAgree, HasLog}
use Rattle.fsd_sound.specs.Logged.{IsLogged}
use Rattle.fsd_sound.specs.Windows.{IsApart}
use Rattle.fsd_sound.proofs.AnchorFacts.{IsAnchor, anchor_read, each_both, epoch_empty}
use Rattle.fsd_sound.proofs.LaidLaws.{laid_scan}

-- its records are the last of the other's, or there are none
abbrev pub Covers : Layout → Image → (t c : Anchor) → Type 0
Covers l i t c = ((c.epoch ≡ t.epoch) × IsSuffix (disk_records l i t) (disk_records l i c)) ⊎ (records_by l i t ≡ [])

pub is_anchor_at : (i : Image) (s : ℕ) (a : Anchor) → anchor_at i s ≡ Some a → IsAnchor a
is_anchor_at i s a is = by_bytes (bytes_at i s) is
  where
    by_bytes : (o : Option (List ℕ)) → Rattle.std.specs.Prelude.option_and_then read_anchor o ≡ Some a → IsAnchor a
    by_bytes None is = absurd cc
    by_bytes (Some bytes) is = anchor_read bytes a is

module _ (l : Layout) (weak : Sectors) (i : Image) (anchors : HasAnchors l i) (log : HasLog l weak i) where
  none_of : (c t : Anchor) → IsAnchor t → EachStamp l i (λ stamp. stamp.epoch ≤ c.epoch) → c.epoch < t.epoch → records_by l i t ≡ []
  none_of c t is all later = ap (λ (w : Walked). w.records) (epoch_empty l i c.epoch t.epoch t.third is.third later all t.first is.epoch is.first).scanned

  covers_self : (t c : Anchor) → t ≡ c → Covers l i t c
  covers_self t c same = inl (ap (λ (x : Anchor). x.epoch) (sym same), ([], ap (disk_records l i) (sym same)))

  -- by each pair of copies
  by_pair : (o q : Option Anchor) → anchor_at i 8 ≡ o → anchor_at i 12 ≡ q → (t : Anchor) → newer_of o q ≡ Some t → IfSome o (Covers l i t) × IfSome q (Covers l i t)
  by_pair None None one two t taken = (tt, tt)
  by_pair None (Some b) one two t taken = (tt, covers_self t b (cc))
  by_pair (Some a) None one two t taken = (covers_self t a (cc), tt)
  by_pair (Some a) (Some b) one two t taken = by_test (is_newer b a) refl (taken_is (cc))
    where
      taken_is : cond (is_newer b a) b a ≡ t → cond (is_newer b a) b a ≡ t
      taken_is e = e

      agree : a.epoch ≡ b.epoch → IsSuffix (disk_records l i t) (disk_records l i a) × IsSuffix (disk_records l i t) (disk_records l i b)
      agree =
          let of : anchor_of i ≡ Some t = (λ k. newer_of (one k) (two k)) ∙ taken in
          subst (λ (x : Option Anchor). ScansAgree l i (Some a) (Some b) x) of
          (subst (λ (x : Option Anchor). ScansAgree l i (Some a) x (anchor_of i)) two
          (subst (λ (x : Option Anchor). ScansAgree l i x (anchor_at i 12) (anchor_of i)) one log.agree))

      stamps_a : EachStamp l i (λ stamp. stamp.epoch ≤ a.epoch)
      stamps_a = subst (λ (x : Option Anchor). IfSome x (λ c. EachStamp l i (λ stamp. stamp.epoch ≤ c.epoch))) one anchors.epochs.0

      stamps_b : EachStamp l i (λ stamp. stamp.epoch ≤ b.epoch)
      stamps_b = subst (λ (x : Option Anchor). IfSome x (λ c. EachStamp l i (λ stamp. stamp.epoch ≤ c.epoch))) two anchors.epochs.1

      by_test : (x : Bool) → is_newer b a ≡ x → cond (is_newer b a) b a ≡ t → Covers l i t a × Covers l i t b
      by_test true is e =
          let same : b ≡ t = ap (λ (x : Bool). cond x b a) (sym is) ∙ e in
          let le : a.epoch ≤ b.epoch = newer_from is in (
            elim (cases_lt a.epoch b.epoch) [
              | inl lt ↦ inr (none_of a t (subst IsAnchor same (is_anchor_at i 12 b two)) stamps_a (omega (arith, lt, ap (λ (x : Anchor). x.epoch) same)))
              | inr ge ↦ let eq : a.epoch ≡ b.epoch = omega arith in inl (eq ∙ ap (λ (x : Anchor). x.epoch) same, (agree eq).0)
            ],
            covers_self t b (sym same),
          )
        where
          newer_from : is_newer b a ≡ true → a.epoch ≤ b.epoch
          newer_from is = grind (arith, nat_tests)
      by_test false is e =
          let same : a ≡ t = ap (λ (x : Bool). cond x b a) (sym is) ∙ e in
          let le : b.epoch ≤ a.epoch = older_from is in (
            covers_self t a (sym same),
            elim (cases_lt b.epoch a.epoch) [
              | inl lt ↦ inr (none_of b t (subst IsAnchor same (is_anchor_at i 8 a one)) stamps_b (omega (arith, lt, ap (λ (x : Anchor). x.epoch) same)))
              | inr ge ↦ let eq : a.epoch ≡ b.epoch = omega arith in inl (sym eq ∙ ap (λ (x : Anchor). x.epoch) same, (agree eq).1)
            ],
          )
        where
          older_from : is_newer b a ≡ false → b.epoch ≤ a.epoch
          older_from is = grind (arith, nat_tests)

  pub covers : (t : Anchor) → anchor_of i ≡ Some t → EachAnchor i (Covers l i t)
  covers t taken = by_pair (anchor_at i 8) (anchor_at i 12) refl refl t taken

-- ---- what the one log has the other has

last_on_disk : (l : Layout) (a : Anchor) (page : ℕ) (rs : List Placed) → last_image page (map (on_disk l a) rs) ≡ last_image page rs
last_on_disk l a page [] = refl
last_on_disk l a page (r ∷ rs) = ap (λ (o : Option (List ℕ)). option_or o (image_in page r.entry.pages r.entry.images)) (last_on_disk l a page rs)

last_behind : (page : ℕ) (front rs : List Placed) → last_image page (front ++ rs) ≡ None → last_image page rs ≡ None
last_behind page [] rs none = none
last_behind page (r ∷ front) rs none = last_behind page front rs (or_none (last_image page (front ++ rs)) (image_in page r.entry.pages r.entry.images) none).0

pub covered_none : (l : Layout) (i : Image) (t c : Anchor) (page : ℕ) → Covers l i t c → last_image page (records_by l i c) ≡ None → last_image page (records_by l i t) ≡ None
covered_none l i t c page (inl suffix) none =
    sym (last_on_disk l t page (records_by l i t))
    ∙ last_behind page suffix.1.0 (disk_records l i t) (ap (last_image page) (sym suffix.1.1) ∙ last_on_disk l c page (records_by l i c) ∙ none)
covered_none l i t c page (inr none) absent = ap (last_image page) none

-- ---- the last record

abbrev last_of : {A : Type 0} → A → List A → A
last_of d [] = d
last_of d (x ∷ xs) = last_of x xs

last_snoc : {A : Type 0} (d : A) (xs : List A) (x : A) → last_of d (xs ++ x ∷ []) ≡ x
last_snoc d [] x = refl
last_snoc d (y ∷ xs) x = last_snoc y xs x

last_append : {A : Type 0} (d : A) (xs ys : List A) (y : A) → last_of d (xs ++ (ys ++ y ∷ [])) ≡ y
last_append d [] ys y = last_snoc d ys y
last_append d (x ∷ xs) ys y = last_append x xs ys y

pub map_snoc : {A B : Type 0} (f : A → B) (xs : List A) (x : A) → map f (xs ++ x ∷ []) ≡ map f xs ++ f x ∷ []
map_snoc f [] x = refl
map_snoc f (y ∷ xs) x = ap (λ zs. f y ∷ zs) (map_snoc f xs x)

-- a list is empty or has a last item
pub ends_so : {A : Type 0} (xs : List A) → (xs ≡ []) ⊎ ((front : List A) × (x : A) × (xs ≡ front ++ x ∷ []))
ends_so [] = inl refl
ends_so (x ∷ xs) = ⊎_elim
    (λ none. inr ([], x, ap (λ ys. x ∷ ys) none))
    (λ last. inr (x ∷ last.0, last.1, ap (λ ys. x ∷ ys) last.2)) (ends_so xs)

pub stand_any : (l : Layout) (t c : Anchor) (weak : Sectors) (i : Image) (s : ℕ) (xs : List (List ℕ)) → AllStand l t weak i s xs → AllStand l c weak i s xs
stand_any l t c weak i s [] stand = tt
stand_any l t c weak i s (x ∷ xs) stand = (stand.0, stand_any l t c weak i (s + 1) xs stand.1)

-- the copies of a record stand, as one anchor says and as another
pub copies_alike : (l : Layout) (t c : Anchor) (weak : Sectors) (i : Image) (r q : Placed) → c.epoch ≡ t.epoch → on_disk l c q ≡ on_disk l t r → HasCopies l t weak i r → HasCopies l c weak i q
copies_alike l t c weak i r q epoch same copies =
    let X : ℕ → Placed → Type 0 = λ e d. AllStand l c weak i (d.at + (4 + 2 * (gap_of l) + length d.entry.pages)) (d.entry.images ++ end_bytes (record { epoch = e; number = d.entry.number }) (length d.entry.pages) ∷ []) in
    let there : X t.epoch (on_disk l t r) = stand_any l t c weak i _ _ copies in
    subst (λ e. X e (on_disk l c q)) (sym epoch) (subst (X t.epoch) (sym same) there)

-- every record but the last was laid whole, and the last one's copies stand
pub laid_whole : (l : Layout) (a : Anchor) (weak : Sectors) (i : Image) (front : List Placed) (r : Placed) → IsLaid l a weak i (front ++ r ∷ []) → HasCopies l a weak i r → AllLaid l a weak i (front ++ r ∷ [])
laid_whole l a weak i [] r laid copies = ((laid.0, copies), tt)
laid_whole l a weak i (q ∷ []) r laid copies = ((laid.0, laid.1), ((laid.2.0, copies), tt))
laid_whole l a weak i (q ∷ p ∷ front) r laid copies = ((laid.0, laid.1), laid_whole l a weak i (p ∷ front) r laid.2 copies)

-- the last record of the newer one's log is that of the other's
pub same_last : (l : Layout) (i : Image) (t c : Anchor) (front before : List Placed) (r q : Placed) → records_by l i t ≡ front ++ r ∷ [] → records_by l i c ≡ before ++ q ∷ [] → IsSuffix (disk_records l i t) (disk_records l i c) → on_disk l c q ≡ on_disk l t r
same_last l i t c front before r q joined ends suffix =
    let left : disk_records l i c ≡ map (on_disk l c) before ++ on_disk l c q ∷ [] = ap (map (on_disk l c)) ends ∙ map_snoc (on_disk l c) before q in
    let right : disk_records l i c ≡ suffix.0 ++ (map (on_disk l t) front ++ on_disk l t r ∷ []) = suffix.1 ∙ ap (λ (xs : List Placed). suffix.0 ++ xs) (ap (map (on_disk l t)) joined ∙ map_snoc (on_disk l t) front r) in
    sym (last_snoc r (map (on_disk l c) before) (on_disk l c q)) ∙ ap (last_of r) (sym left ∙ right) ∙ last_append r suffix.0 (map (on_disk l t) front) (on_disk l t r)

pub not_nil : (xs : List Placed) (x : Placed) → xs ++ x ∷ [] ≡ [] → ⊥
not_nil [] x e = absurd cc
not_nil (y ∷ xs) x e = absurd cc

-- ---- the log of each anchor is laid whole

module _ (l : Layout) (weak : Sectors) (i : Image) (anchors : HasAnchors l i) (log : HasLog l weak i) (t : Anchor) (taken : anchor_of i ≡ Some t) (front : List Placed) (r : Placed) (joined : records_by l i t ≡ front ++ r ∷ []) (copies : HasCopies l t weak i r) where
  whole_by : (c : Anchor) → Covers l i t c → IsLaid l c weak i (records_by l i c) → AllLaid l c weak i (records_by l i c)
  whole_by c (inr none) laid = absurd (not_nil front r (sym joined ∙ none))
  whole_by c (inl suffix) laid = ⊎_elim
      (λ none. subst (AllLaid l c weak i) (sym none) tt)
      (λ last. subst (AllLaid l c weak i) (sym last.2)
      (laid_whole l c weak i last.0 last.1 (subst (IsLaid l c weak i) last.2 laid) (copies_alike l t c weak i r last.1 suffix.0 (same_last l i t c front last.0 r last.1 joined last.2 suffix.1) copies)))
      (ends_so (records_by l i c))

  each_on : (P Q : Anchor → Type 0) → ((a : Anchor) → IsAnchor a → P a → Q a) → EachAnchor i P → EachAnchor i Q
  each_on P Q on each = (at_place 8 (anchor_at i 8) refl each.0, at_place 12 (anchor_at i 12) refl each.1)
    where
      at_place : (s : ℕ) (o : Option Anchor) → anchor_at i s ≡ o → IfSome o P → IfSome o Q
      at_place s None is p = tt
      at_place s (Some a) is p = on a (is_anchor_at i s a is) p

  pub each_whole : EachAnchor i (λ c. AllLaid l c weak i (records_by l i c))
  each_whole = each_on _ _ (λ c is both. whole_by c both.0 both.1) (each_both i (Covers l i t) (λ c. IsLaid l c weak i (records_by l i c)) (covers l weak i anchors log t taken) log.laid)

  -- so each page of the newer one's is in the log of each, however the run wears
  pub logged_still : l.pages ≤ 2 ^ 32 → IsApart (gap_of l) weak → (page : ℕ) → (last_image page (records_by l i t) ≡ None → ⊥) → IsLogged l weak page i
  logged_still small apart page logged = λ j w. each_worn j w
    where
      each_now : (j : Image) → IsWorn weak i j → EachAnchor i (λ c. last_image page (records_by l j c) ≡ None → ⊥)
      each_now j w = each_on _ _
          (λ c is both none. logged (covered_none l i t c page both.0 (ap (λ (x : Walked). last_image page x.records) (sym (laid_scan l small c is.epoch is.third weak apart i j w both.1)) ∙ none)))
          (each_both i (Covers l i t) (λ c. AllLaid l c weak i (records_by l i c)) (covers l weak i anchors log t taken) each_whole)

      each_worn : (j : Image) → IsWorn weak i j → EachAnchor j (λ c. last_image page (records_by l j c) ≡ None → ⊥)
      each_worn j w = (at_place 8 (each_now j w).0, at_place 12 (each_now j w).1)
        where
          at_place : (s : ℕ) → IfSome (anchor_at i s) (λ c. last_image page (records_by l j c) ≡ None → ⊥) → IfSome (anchor_at j s) (λ c. last_image page (records_by l j c) ≡ None → ⊥)
          at_place s all = ⊎_elim
              (λ same. subst (λ (x : Sector). IfSome (Rattle.std.specs.Prelude.option_and_then read_anchor (bytes_of x)) (λ c. last_image page (records_by l j c) ≡ None → ⊥)) (sym same) all)
              (λ hurt. subst (λ (x : Sector). IfSome (Rattle.std.specs.Prelude.option_and_then read_anchor (bytes_of x)) (λ c. last_image page (records_by l j c) ≡ None → ⊥)) (sym hurt.1) tt) (w.each s)
