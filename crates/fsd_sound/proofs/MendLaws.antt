-- A home is written from its whole twin, or from the log; a root from the layout: what is shown stays, however the window wears.
use Rattle.std.proofs.Common.{◌≡◌, ◌≢◌, ◌⊎◌, inl, inr, ⊎_elim, ℕ, ◌+◌, ◌*◌, ◌<◌, ◌≤◌, List, length, Option, Some, None, refl, sym, ap, subst, ◌∙◌, arith}
use Rattle.std.specs.Prelude.{IsTrue, IfSome}
use Rattle.std.proofs.lemmas.List.{length-set}
use Rattle.volume_layout.specs.declared.layout.Layout.{Layout}
use Rattle.volume_layout.specs.Layout.{home_a, home_b, turned, IsBeside}
use Rattle.fsd_formats.specs.declared.anchor.Anchor.{Anchor}
use Rattle.sector_disk.specs.declared.sector.WeakRun.{WeakRun}
use Rattle.sector_disk.specs.declared.sector.Sector.{Sector}
use Rattle.sector_disk.specs.declared.sector.Sector.TheVariants.{Whole, Damaged}
use Rattle.sector_disk.specs.Image.{sector_at, with_sector, IsWorn, AllWorn}
use Rattle.fsd_log.specs.Images.{last_image}
use Rattle.fsd_files.specs.Disk.{Has, Image, Sectors, bytes_of, first_whole}
use Rattle.fsd_sound.proofs.SoundLaws.{roots_still, still_other}
use Rattle.fsd_sound.specs.Anchors.{anchor_at, EachAnchor}
use Rattle.fsd_sound.specs.Homes.{home_of}
use Rattle.fsd_sound.specs.Shown.{records_by}
use Rattle.volume_layout.specs.Root.{root_bytes}
use Rattle.volume_layout.proofs.TurnedLaws.{roots_differ}
use Rattle.fsd_sound.specs.Laid.{HasOwnRoots}
use Rattle.fsd_sound.specs.Sound.{AllLieIn, IfWhole, IsRootOf, Says, HasRoots, IsEither, ShowsPages, weak_of}
use Rattle.fsd_sound.proofs.SaidLaws.{beside_other, planned_beside, same_root}
use Rattle.fsd_sound.specs.Homes.{AreTwins}
use Rattle.fsd_sound.specs.Logged.{IsLogged}
use Rattle.fsd_sound.specs.Stands.{StandsShown}
use Rattle.fsd_sound.specs.Windows.{IsNarrow}
use Rattle.fsd_sound.proofs.CommuteLaws.{same_or, with_same, with_other, all_over, shows_all, both_same, all_shows}
use Rattle.fsd_sound.proofs.SavedLaws.{open_written}
use Rattle.fsd_sound.proofs.AlikeLaws.{records_same, each_same}
use Rattle.fsd_sound.proofs.RehomeLaws.{Rehomes, rehomed_stands, rooted_stands}
use Rattle.fsd_sound.proofs.SectorFacts.{has_bytes, same_bytes, not_damaged, whole_or_damaged}
use Rattle.fsd_sound.proofs.TwinLaws.{home_twin}

-- ---- a page that is logged, by each anchor

module _ (l : Layout) (weak : Sectors) (choices : List (List (List ℕ))) (page s : ℕ) (bytes : List ℕ) (lt : page < l.pages) (at : (s ≡ home_a l page) ⊎ (s ≡ home_b l page)) where
  logged_rehomes : (i : Image) → s < length i → EachAnchor i (λ a. last_image page (records_by l i a) ≡ None → ⊥) → Rehomes l page i (with_sector i s bytes)
  logged_rehomes i room logged = record {
    within = lt;
    size = length-set i s (Whole bytes);
    others = λ p a b. with_other i s p bytes (λ e. ⊎_elim (λ here. a (e ∙ here)) (λ here. b (e ∙ here)) at);
    unhurt = λ p hurt. ⊎_elim
        (λ here. absurd (not_damaged (sector_at (with_sector i s bytes) p) bytes (ap (sector_at (with_sector i s bytes)) here ∙ with_same i s bytes room) hurt))
        (λ other. sym (with_other i s p bytes other) ∙ hurt) (same_or p s);
    alike = each_never _ i logged;
    same = each_never _ i logged;
  }
    where
      never : (P : Anchor → Type 0) (Q : Anchor → Type 0) (o : Option Anchor) → IfSome o (λ a. Q a → ⊥) → IfSome o (λ a. Q a → P a)
      never P Q None out = tt
      never P Q (Some a) out = λ q. absurd (out q)

      each_never : (P : Anchor → Type 0) (i : Image) → EachAnchor i (λ a. last_image page (records_by l i a) ≡ None → ⊥) → EachAnchor i (λ a. last_image page (records_by l i a) ≡ None → P a)
      each_never P i out = (never P (λ a. last_image page (records_by l i a) ≡ None) (anchor_at i 8) out.0, never P (λ a. last_image page (records_by l i a) ≡ None) (anchor_at i 12) out.1)

  pub logged_shows : (windows : List WeakRun) → weak ≡ weak_of windows → IsNarrow (weak_of windows) → (c : Image) → s < length c → IsLogged l (weak_of windows) page c → ShowsPages l windows choices c → ShowsPages l windows choices (with_sector c s bytes)
  logged_shows windows is narrow c room logged shows =
      all_shows l windows shows.readable.borne choices (with_sector c s bytes)
      (both_same l windows choices c (with_sector c s bytes) shows (omega (arith, length-set c s (Whole bytes))) (λ p head. with_other c s p bytes (λ e. ⊎_elim (λ here. omega (arith, here, e, head)) (λ here. omega (arith, here, e, head)) at))
      (open_written c s bytes (λ e. ⊎_elim (λ here. omega (arith, here, e)) (λ here. omega (arith, here, e)) at) (λ e. ⊎_elim (λ here. omega (arith, here, e)) (λ here. omega (arith, here, e)) at)))
      (all_over (weak_of windows) (StandsShown l (weak_of windows) choices) c s bytes room (shows_all l windows narrow choices c shows)
      (λ i worn there stands. rehomed_stands l (weak_of windows) choices page i (with_sector i s bytes) (logged_rehomes i (omega (arith, room, worn.size)) (logged i worn)) stands))

-- ---- a page whose other home is whole

-- two homes of a page are not weak at once
twins_apart : (l : Layout) (weak : Sectors) (page s t : ℕ) → IsNarrow weak → AreTwins l page s t → IsTrue (weak s) → IsTrue (weak t) → ⊥
twins_apart l weak page s t narrow (inl at) hs ht = narrow s t (omega (arith, at.0, at.1)) hs ht
twins_apart l weak page s t narrow (inr at) hs ht = narrow t s (omega (arith, at.0, at.1)) ht hs

either_first : (x y : Sector) (bytes : List ℕ) → x ≡ Whole bytes → first_whole (bytes_of x) (bytes_of y) ≡ Some bytes
either_first x y bytes is = ap (λ (s : Sector). first_whole (bytes_of s) (bytes_of y)) is

either_second : (x y : Sector) (bytes : List ℕ) → x ≡ Damaged → y ≡ Whole bytes → first_whole (bytes_of x) (bytes_of y) ≡ Some bytes
either_second x y bytes hurt is = ap (λ (s : Sector). first_whole (bytes_of s) (bytes_of y)) hurt ∙ ap bytes_of is

module _ (l : Layout) (windows : List WeakRun) (narrow : IsNarrow (weak_of windows)) (choices : List (List (List ℕ))) (page s t : ℕ) (lt : page < l.pages) (at : AreTwins l page s t) (c : Image)
    (bytes : List ℕ) (whole : sector_at c t ≡ Whole bytes) (room : s < length c) (room_t : t < length c) (shows : ShowsPages l windows choices c) where
  abbrev weak : Sectors
  weak = weak_of windows

  all : AllWorn (weak_of windows) (StandsShown l (weak_of windows) choices) c
  all = shows_all l windows narrow choices c shows

  s_not_t : s ≢ t
  s_not_t = elim at [ inl a ↦ λ e. omega (arith, a.0, a.1) | inr b ↦ λ e. omega (arith, b.0, b.1) ]

  module _ (i : Image) (worn : IsWorn (weak_of windows) c i) (there : sector_at i s ≡ sector_at c s) where
    room_i : t < length i
    room_i = omega (arith, worn.size, room_t)

    healed_worn : IsWorn (weak_of windows) c (with_sector i t bytes)
    healed_worn = record {
      size = length-set i t (Whole bytes) ∙ worn.size;
      each = λ p. ⊎_elim
          (λ here. inl (ap (sector_at (with_sector i t bytes)) here ∙ with_same i t bytes room_i ∙ sym whole ∙ ap (sector_at c) (sym here)))
          (λ other. ⊎_elim (λ same. inl (with_other i t p bytes other ∙ same)) (λ hurt. inr (hurt.0, with_other i t p bytes other ∙ hurt.1)) (worn.each p)) (same_or p t);
    }

    front_healed : (p : ℕ) → 8 ≤ p → p < 16 + 3 * l.third → sector_at i p ≡ sector_at (with_sector i t bytes) p
    front_healed p from lt = sym (with_other i t p bytes (λ e. elim at [ inl a ↦ omega (arith, a.1, e, lt) | inr b ↦ omega (arith, b.1, e, lt) ]))

    -- a whole home is the other's, where some anchor doesn't have the page
    alike_by : (y : List ℕ) → sector_at c s ≡ Whole y → EachAnchor i (λ a. last_image page (records_by l i a) ≡ None → y ≡ bytes)
    alike_by y is = each_same l (with_sector i t bytes) i front_healed _ _
        (λ a low homes none. homes_by a (homes page lt (ap (last_image page) (sym (records_same l (with_sector i t bytes) i front_healed a low)) ∙ none)))
        (all (with_sector i t bytes) healed_worn).homes
      where
        s_is : sector_at (with_sector i t bytes) s ≡ Whole y
        s_is = with_other i t s bytes s_not_t ∙ there ∙ is

        t_is : sector_at (with_sector i t bytes) t ≡ Whole bytes
        t_is = with_same i t bytes room_i

        homes_by : (a : Anchor) → ((x z : List ℕ) → sector_at (with_sector i t bytes) (home_a l page) ≡ Whole x → sector_at (with_sector i t bytes) (home_b l page) ≡ Whole z → x ≡ z) → y ≡ bytes
        homes_by a homes = elim at [
          | inl o ↦ homes y bytes (ap (sector_at (with_sector i t bytes)) (sym o.0) ∙ s_is) (ap (sector_at (with_sector i t bytes)) (sym o.1) ∙ t_is)
          | inr o ↦ sym (homes bytes y (ap (sector_at (with_sector i t bytes)) (sym o.1) ∙ t_is) (ap (sector_at (with_sector i t bytes)) (sym o.0) ∙ s_is))
        ]

    room_s : s < length i
    room_s = omega (arith, worn.size, room)

    new_s : sector_at (with_sector i s bytes) s ≡ Whole bytes
    new_s = with_same i s bytes room_s

    new_t : sector_at (with_sector i s bytes) t ≡ sector_at i t
    new_t = with_other i s t bytes (λ e. s_not_t (sym e))

    -- a whole home of the new image is the other's
    new_is : (p : ℕ) → (p ≡ s) ⊎ (p ≡ t) → (y : List ℕ) → sector_at (with_sector i s bytes) p ≡ Whole y → y ≡ bytes
    new_is p (inl here) y is = same_bytes (sector_at (with_sector i s bytes) s) bytes y new_s (ap (sector_at (with_sector i s bytes)) (sym here) ∙ is)
    new_is p (inr here) y is = ⊎_elim
        (λ same. same_bytes (sector_at i t) bytes y (same ∙ whole) (sym new_t ∙ ap (sector_at (with_sector i s bytes)) (sym here) ∙ is))
        (λ hurt. absurd (not_damaged (sector_at i t) y (sym new_t ∙ ap (sector_at (with_sector i s bytes)) (sym here) ∙ is) hurt.1)) (worn.each t)

    weak_s : sector_at c s ≡ Damaged → IsTrue (weak_of windows s)
    weak_s hurt = shows.readable.roots.twins s (home_twin l page s t lt at) hurt

    home_by : (a : Anchor) → (y : List ℕ) → sector_at c s ≡ Whole y → y ≡ bytes → home_of l (with_sector i s bytes) page ≡ home_of l i page
    home_by a y is same =
        let before : sector_at i s ≡ Whole bytes = there ∙ is ∙ ap (λ (b : List ℕ). Whole b) same in
        let as_was : (p : ℕ) → sector_at (with_sector i s bytes) p ≡ sector_at i p = λ p. ⊎_elim
        (λ here. ap (sector_at (with_sector i s bytes)) here ∙ new_s ∙ sym before ∙ ap (sector_at i) (sym here)) (λ other. with_other i s p bytes other) (same_or p s) in
        λ k. first_whole (bytes_of (as_was (home_a l page) k)) (bytes_of (as_was (home_b l page) k))

    -- where this home was damaged the other serves
    home_hurt : sector_at c s ≡ Damaged → home_of l (with_sector i s bytes) page ≡ home_of l i page
    home_hurt hurt =
        let strong : IsTrue (weak_of windows t) → ⊥ = λ w. twins_apart l (weak_of windows) page s t narrow at (weak_s hurt) w in
        let t_stands : sector_at i t ≡ Whole bytes = ⊎_elim (λ same. same ∙ whole) (λ worse. absurd (strong worse.0)) (worn.each t) in
        let s_hurt : sector_at i s ≡ Damaged = there ∙ hurt in
        elim at [
          | inl o ↦
              either_first (sector_at (with_sector i s bytes) (home_a l page)) (sector_at (with_sector i s bytes) (home_b l page)) bytes (ap (sector_at (with_sector i s bytes)) (sym o.0) ∙ new_s)
              ∙ sym (either_second (sector_at i (home_a l page)) (sector_at i (home_b l page)) bytes (ap (sector_at i) (sym o.0) ∙ s_hurt) (ap (sector_at i) (sym o.1) ∙ t_stands))
          | inr o ↦
              either_first (sector_at (with_sector i s bytes) (home_a l page)) (sector_at (with_sector i s bytes) (home_b l page)) bytes (ap (sector_at (with_sector i s bytes)) (sym o.1) ∙ new_t ∙ t_stands)
              ∙ sym (either_first (sector_at i (home_a l page)) (sector_at i (home_b l page)) bytes (ap (sector_at i) (sym o.1) ∙ t_stands))
        ]

    each_known : (P Q : Anchor → Type 0) → ((a : Anchor) → P a → Q a) → EachAnchor i P → EachAnchor i Q
    each_known P Q on each = (if_on (anchor_at i 8) each.0, if_on (anchor_at i 12) each.1)
      where
        if_on : (o : Option Anchor) → IfSome o P → IfSome o Q
        if_on None p = tt
        if_on (Some a) p = on a p

    each_all : (Q : Anchor → Type 0) → ((a : Anchor) → Q a) → EachAnchor i Q
    each_all Q all = (if_all (anchor_at i 8), if_all (anchor_at i 12))
      where
        if_all : (o : Option Anchor) → IfSome o Q
        if_all None = tt
        if_all (Some a) = all a

    mended_rehomes : Rehomes l page i (with_sector i s bytes)
    mended_rehomes = record {
      within = lt;
      size = length-set i s (Whole bytes);
      others = λ p a b. with_other i s p bytes (λ e. elim at [ inl o ↦ a (e ∙ o.0) | inr o ↦ b (e ∙ o.0) ]);
      unhurt = λ p hurt. ⊎_elim
          (λ here. absurd (not_damaged (sector_at (with_sector i s bytes) p) bytes (ap (sector_at (with_sector i s bytes)) here ∙ new_s) hurt))
          (λ other. sym (with_other i s p bytes other) ∙ hurt) (same_or p s);
      alike = each_all _ (λ a none x y first second.
          new_is (home_a l page) (elim at [ inl o ↦ inl (sym o.0) | inr o ↦ inr (sym o.1) ]) x first
          ∙ sym (new_is (home_b l page) (elim at [ inl o ↦ inr (sym o.1) | inr o ↦ inl (sym o.0) ]) y second));
      same = ⊎_elim
          (λ is. each_known _ _ (λ a alike none. home_by a is.0 is.1 (alike none)) (alike_by is.0 is.1))
          (λ hurt. each_all _ (λ a none. home_hurt hurt)) (whole_or_damaged (sector_at c s));
    }

  pub mended_shows : ShowsPages l windows choices (with_sector c s bytes)
  mended_shows =
      all_shows l windows shows.readable.borne choices (with_sector c s bytes)
      (both_same l windows choices c (with_sector c s bytes) shows (omega (arith, length-set c s (Whole bytes))) (λ p head. with_other c s p bytes (λ e. elim at [ inl a ↦ omega (arith, a.0, e, head) | inr b ↦ omega (arith, b.0, e, head) ]))
      (open_written c s bytes (λ e. elim at [ inl a ↦ omega (arith, a.0, e) | inr b ↦ omega (arith, b.0, e) ]) (λ e. elim at [ inl a ↦ omega (arith, a.0, e) | inr b ↦ omega (arith, b.0, e) ])))
      (all_over (weak_of windows) (StandsShown l (weak_of windows) choices) c s bytes room all
      (λ i worn there stands. rehomed_stands l (weak_of windows) choices page i (with_sector i s bytes) (mended_rehomes i worn there) stands))

-- ---- a root

-- a root says a layout only where it did before, or the one that was written does
pub says_rooted : (i : Image) (s : ℕ) (bytes : List ℕ) → s < length i → (k : Layout) → Says k (with_sector i s bytes) → Says k i ⊎ (bytes ≡ root_bytes k)
says_rooted i s bytes room k = ⊎_elim (at_place 0 (λ says. inl says)) (at_place 4 (λ says. inr says))
  where
    at_place : (p : ℕ) → (sector_at i p ≡ Whole (root_bytes k) → Says k i) → sector_at (with_sector i s bytes) p ≡ Whole (root_bytes k) → Says k i ⊎ (bytes ≡ root_bytes k)
    at_place p says there = ⊎_elim
        (λ here. inr (sym (same_bytes (sector_at (with_sector i s bytes) s) bytes (root_bytes k) (with_same i s bytes room) (ap (sector_at (with_sector i s bytes)) (sym here) ∙ there))))
        (λ other. inl (says (sym (with_other i s p bytes other) ∙ there))) (same_or p s)

module _ (l : Layout) (weak : Sectors) (i : Image) (s : ℕ) (at : (s ≡ 0) ⊎ (s ≡ 4)) (bytes : List ℕ) (o : Layout) (is : IsRootOf l o bytes) (room : s < length i) where
  root_is : sector_at (with_sector i s bytes) s ≡ Whole bytes
  root_is = with_same i s bytes room

  -- what stands whole there is the root that was written, or what stood before
  root_alike : (P : List ℕ → Type 0) → P bytes → (p : ℕ) → IfWhole i p P → IfWhole (with_sector i s bytes) p P
  root_alike P now p before x there = ⊎_elim
      (λ here. subst P (sym (same_bytes (sector_at (with_sector i s bytes) s) bytes x root_is (ap (sector_at (with_sector i s bytes)) (sym here) ∙ there))) now)
      (λ other. before x (sym (with_other i s p bytes other) ∙ there)) (same_or p s)

  rooted_roots : (roots : HasRoots l weak i) → roots.other ≡ o → HasRoots l weak (with_sector i s bytes)
  rooted_roots roots same_other =
      let is : IsRootOf l roots.other bytes = subst (λ (x : Layout). IsRootOf l x bytes) (sym same_other) is in
      record {
        planned = roots.planned;
        other = roots.other;
        beside = roots.beside;
        some = ⊎_elim (λ first. inl (bytes, ap (sector_at (with_sector i s bytes)) (sym first) ∙ root_is, is)) (λ second. inr (bytes, ap (sector_at (with_sector i s bytes)) (sym second) ∙ root_is, is)) at;
        first = root_alike (IsRootOf l roots.other) is 0 roots.first;
        second = root_alike (IsRootOf l roots.other) is 4 roots.second;
        fits = omega (arith, roots.fits, length-set i s (Whole bytes));
        twins = λ p twin hurt. ⊎_elim
            (λ here. absurd (not_damaged (sector_at (with_sector i s bytes) s) bytes root_is (ap (sector_at (with_sector i s bytes)) (sym here) ∙ hurt)))
            (λ other. roots.twins p twin (sym (with_other i s p bytes other) ∙ hurt)) (same_or p s);
      }

  behind_root : (p : ℕ) → 8 ≤ p → sector_at (with_sector i s bytes) p ≡ sector_at i p
  behind_root p from = with_other i s p bytes (λ e. elim at [ inl a ↦ omega (arith, a, e, from) | inr b ↦ omega (arith, b, e, from) ])

-- a root may be written with the bytes of the layout, or of the one beside it that the roots may say, where the image may
-- be mounted with that as well and what the lists tell lies in it
root_shows : (l : Layout) (windows : List WeakRun) → IsNarrow (weak_of windows) → (choices : List (List (List ℕ))) (s : ℕ) (bytes : List ℕ) (c : Image) (shows : ShowsPages l windows choices c) → IsRootOf l shows.readable.roots.other bytes
    → ((k : Layout) → IsBeside l k → bytes ≡ root_bytes k → IsEither l k windows c × AllLieIn k choices) → (s ≡ 0) ⊎ (s ≡ 4) → s < length c
    → ShowsPages l windows choices (with_sector c s bytes)
root_shows l windows narrow choices s bytes c shows is beside at room =
    let o = shows.readable.roots.other in
    let long : length (with_sector c s bytes) ≡ length c = length-set c s (Whole bytes) in
    let may : (k : Layout) → IsBeside l k → Says k (with_sector c s bytes) → IsEither l k windows c × AllLieIn k choices = λ k at_k says. ⊎_elim (λ before. (shows.readable.either k at_k before, shows.within k at_k before)) (beside k at_k) (says_rooted c s bytes room k says) in
    all_shows l windows shows.readable.borne choices (with_sector c s bytes) (λ k at_k says. let e = may k at_k says in (e.0.borne, omega (arith, e.0.fits, long), e.1, λ sized. open_written c s bytes (λ here. ⊎_elim (λ z. omega (arith, here, z)) (λ z. omega (arith, here, z)) at) (λ here. ⊎_elim (λ z. omega (arith, here, z)) (λ z. omega (arith, here, z)) at) (e.0.opened sized)))
    (all_over (weak_of windows) (StandsShown l (weak_of windows) choices) c s bytes room (shows_all l windows narrow choices c shows)
    (λ i worn there stands.
    let inside : s < length i = omega (arith, room, worn.size) in
    rooted_stands l (weak_of windows) choices i (with_sector i s bytes) (behind_root l (weak_of windows) i s at bytes o is inside) (rooted_roots l (weak_of windows) i s at bytes o is inside (roots_still l (weak_of windows) narrow c i worn shows.readable.roots) (still_other l (weak_of windows) narrow c i worn shows.readable.roots))
    (λ says. ⊎_elim stands.empty (λ written. (beside (turned l) (inl refl) written).0.empty refl i worn) (says_rooted i s bytes inside (turned l) says)) stands))

pub rooted_shows : (l : Layout) (windows : List WeakRun) → IsNarrow (weak_of windows) → (choices : List (List (List ℕ))) (s : ℕ) (c : Image) → (s ≡ 0) ⊎ (s ≡ 4) → s < length c → ShowsPages l windows choices c → ShowsPages l windows choices (with_sector c s (root_bytes l))
rooted_shows l windows narrow choices s c at room shows =
    let planned = shows.readable.roots.planned in
    root_shows l windows narrow choices s (root_bytes l) c shows (inl refl)
    (λ k beside same. absurd (beside_other l k beside (sym (same_root l k planned (planned_beside l k planned beside) same)))) at room

-- with that of a layout beside it, where the other root is one of the two
pub beside_root_shows : (l k : Layout) (windows : List WeakRun) → IsNarrow (weak_of windows) → (choices : List (List (List ℕ))) (s : ℕ) (c : Image) (shows : ShowsPages l windows choices c) → IsBeside l k → IsRootOf l shows.readable.roots.other (root_bytes k) → IsEither l k windows c → AllLieIn k choices
    → (s ≡ 0) ⊎ (s ≡ 4) → s < length c → ShowsPages l windows choices (with_sector c s (root_bytes k))
beside_root_shows l k windows narrow choices s c shows at_k is either lie at room =
    let planned = shows.readable.roots.planned in
    root_shows l windows narrow choices s (root_bytes k) c shows is
    (λ x beside same. subst (λ (y : Layout). IsEither l y windows c × AllLieIn y choices) (same_root k x (planned_beside l k planned at_k) (planned_beside l x planned beside) same) (either, lie)) at room

-- where both roots are the layout's own, the other one may be any beside it
pub rebased : (l k : Layout) (windows : List WeakRun) (choices : List (List (List ℕ))) (i : Image) → HasOwnRoots l (weak_of windows) i → IsBeside l k → ShowsPages l windows choices i → ShowsPages l windows choices i
rebased l k windows choices i own beside shows =
    let roots = shows.readable.roots in
    record shows {
      readable = record shows.readable {
        roots = record {
          planned = roots.planned;
          other = k;
          beside = beside;
          some = ⊎_elim (λ root. inl (root.0, root.1, own_bytes 0 own.0 root.0 root.1)) (λ root. inr (root.0, root.1, own_bytes 4 own.1 root.0 root.1)) roots.some;
          first = own_bytes 0 own.0;
          second = own_bytes 4 own.1;
          fits = roots.fits;
          twins = roots.twins;
        };
      };
    }
  where
    own_bytes : (s : ℕ) → Has (weak_of windows) i (root_bytes l) s → (bytes : List ℕ) → sector_at i s ≡ Whole bytes → IsRootOf l k bytes
    own_bytes s has bytes is = inl (sym (has_bytes (weak_of windows) i (root_bytes l) bytes s has is))

pub rebased_other : (l k : Layout) (windows : List WeakRun) (choices : List (List (List ℕ))) (i : Image) (own : HasOwnRoots l (weak_of windows) i) (beside : IsBeside l k) (shows : ShowsPages l windows choices i) → (rebased l k windows choices i own beside shows).readable.roots.other ≡ k
unfolding rebased
rebased_other l k windows choices i own beside shows = refl
