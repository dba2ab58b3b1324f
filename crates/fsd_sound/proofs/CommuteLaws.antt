-- Wear and a write of one sector change places.
use Rattle.std.proofs.Common.{◌≡◌, ◌≢◌, ◌⊎◌, inl, inr, ⊎_elim, ℕ, ◌<◌, ◌≤◌, List, length, set, refl, sym, ap, subst, ◌∙◌, arith}
use Rattle.std.specs.Prelude.{IsTrue}
use Rattle.std.proofs.lemmas.Bool.{cases_lt}
use Rattle.std.proofs.lemmas.List.{length-set, get_or_past, get_or-set_same, get_or-set_other, ext_get_or}
use Rattle.volume_layout.specs.declared.layout.Layout.{Layout}
use Rattle.volume_layout.specs.Layout.{IsBeside, IsPlanned, IsSized, turned}
use Rattle.volume_layout.specs.Root.{root_bytes}
use Rattle.sector_disk.specs.declared.sector.WeakRun.{WeakRun}
use Rattle.sector_disk.specs.declared.sector.Sector.TheVariants.{Whole, Damaged}
use Rattle.sector_disk.specs.Image.{sector_at, with_sector, IsWorn, AllWorn}
use Rattle.fsd_files.specs.Disk.{Image, Sectors}
use Rattle.sector_disk.proofs.Wear.{worn_refl}
use Rattle.fsd_sound.specs.Laid.{HasOwnRoots}
use Rattle.fsd_sound.specs.Saved.{IsOpen}
use Rattle.fsd_sound.specs.Sound.{ShowsPages, weak_of, AllLieIn, BearsLast, EachBeside, LogsNothing, Says, SaysTurned}
use Rattle.fsd_sound.proofs.AlikeLaws.{unlogged_same}
use Rattle.fsd_sound.proofs.SaidLaws.{own_alone, says_same, says_worn}
use Rattle.fsd_sound.proofs.SectorFacts.{not_damaged}
use Rattle.fsd_sound.proofs.SoundLaws.{shows_still}
use Rattle.fsd_sound.specs.Stands.{StandsShown, IsWrittenOver}
use Rattle.fsd_sound.specs.Windows.{IsNarrow}

pub same_or : (a b : ℕ) → (a ≡ b) ⊎ (a ≢ b)
same_or a b = elim (cases_lt a b) [
  | inl lt ↦ inr (λ e. omega arith)
  | inr ge ↦ elim (cases_lt b a) [ inl lt ↦ inr (λ e. omega arith) | inr le ↦ inl (omega arith) ]
]

pub with_same : (i : Image) (s : ℕ) (bytes : List ℕ) → s < length i → sector_at (with_sector i s bytes) s ≡ Whole bytes
with_same i s bytes lt = get_or-set_same i s (Whole bytes) Damaged lt

pub with_other : (i : Image) (s place : ℕ) (bytes : List ℕ) → place ≢ s → sector_at (with_sector i s bytes) place ≡ sector_at i place
with_other i s place bytes other = get_or-set_other i s place (Whole bytes) Damaged other

module _ (may : Sectors) (c j : Image) (s : ℕ) (bytes : List ℕ) (room : s < length c) (w : IsWorn may (with_sector c s bytes) j) where
  long : length j ≡ length c
  long = w.size ∙ length-set c s (Whole bytes)

  -- where the sector is worn again, the image is a worn one of the old
  hurt_again : IsTrue (may s) → sector_at j s ≡ Damaged → IsWorn may c j
  hurt_again weak hurt = record {
    size = long;
    each = λ p. ⊎_elim
        (λ here. inr (subst (λ (n : ℕ). IsTrue (may n)) (sym here) weak, ap (sector_at j) here ∙ hurt))
        (λ other. ⊎_elim (λ same. inl (same ∙ with_other c s p bytes other)) (λ worn. inr worn) (w.each p)) (same_or p s);
  }

  -- else it is that sector over a worn one
  stands_over : sector_at j s ≡ Whole bytes → IsWrittenOver may c s bytes j
  stands_over stands = record {
    under = under;
    worn = record { size = length-set j s (sector_at c s) ∙ long; each = λ p. ⊎_elim (at_place p) (λ other. elsewhere p other (w.each p)) (same_or p s) };
    there = back;
    is = ext_get_or Damaged j (with_sector under s bytes) (sym (length-set under s (Whole bytes) ∙ length-set j s (sector_at c s)))
        (λ p lt. ⊎_elim
        (λ here. ap (sector_at j) here ∙ stands ∙ sym (ap (sector_at (with_sector under s bytes)) here ∙ with_same under s bytes (omega (arith, length-set j s (sector_at c s), long, room))))
        (λ other. sym (with_other under s p bytes other ∙ get_or-set_other j s p (sector_at c s) Damaged other)) (same_or p s));
  }
    where
      under : Image
      under = set j s (sector_at c s)

      back : sector_at (set j s (sector_at c s)) s ≡ sector_at c s
      back = get_or-set_same j s (sector_at c s) Damaged (omega (arith, long, room))

      at_place : (p : ℕ) → p ≡ s → (sector_at (set j s (sector_at c s)) p ≡ sector_at c p) ⊎ (IsTrue (may p) × (sector_at (set j s (sector_at c s)) p ≡ Damaged))
      at_place p here = inl (ap (sector_at (set j s (sector_at c s))) here ∙ back ∙ ap (sector_at c) (sym here))

      elsewhere : (p : ℕ) → p ≢ s → (sector_at j p ≡ sector_at (with_sector c s bytes) p) ⊎ (IsTrue (may p) × (sector_at j p ≡ Damaged))
          → (sector_at (set j s (sector_at c s)) p ≡ sector_at c p) ⊎ (IsTrue (may p) × (sector_at (set j s (sector_at c s)) p ≡ Damaged))
      elsewhere p other (inl same) = inl (get_or-set_other j s p (sector_at c s) Damaged other ∙ same ∙ with_other c s p bytes other)
      elsewhere p other (inr worn) = inr (worn.0, get_or-set_other j s p (sector_at c s) Damaged other ∙ worn.1)

  -- an image worn from one with a sector written is worn from the old one, or has that sector over a worn one
  pub worn_or_over : IsWorn may c j ⊎ IsWrittenOver may c s bytes j
  worn_or_over = ⊎_elim (λ same. inr (stands_over (same ∙ with_same c s bytes room))) (λ hurt. inl (hurt_again hurt.0 hurt.1)) (w.each s)

-- what holds however a sector wears holds with one more sector, if it does of each image with it
pub all_over : (may : Sectors) (P : Image → Type 0) (c : Image) (s : ℕ) (bytes : List ℕ) → s < length c → AllWorn may P c
    → ((i : Image) → IsWorn may c i → sector_at i s ≡ sector_at c s → P i → P (with_sector i s bytes)) → AllWorn may P (with_sector c s bytes)
all_over may P c s bytes room all step = λ j w. ⊎_elim
    (λ worn. all j worn)
    (λ over. subst P (sym over.is) (step over.under over.worn over.there (all over.under over.worn)))
    (worn_or_over may c j s bytes room w)

-- a sector that is whole is one of the image's
pub whole_inside : (i : Image) (s : ℕ) (bytes : List ℕ) → sector_at i s ≡ Whole bytes → s < length i
whole_inside i s bytes is = elim (cases_lt s (length i)) [ inl lt ↦ lt | inr past ↦ absurd (not_damaged (sector_at i s) bytes is (get_or_past i s Damaged past)) ]

-- ---- what is shown

pub shows_all : (l : Layout) (windows : List WeakRun) → IsNarrow (weak_of windows) → (choices : List (List (List ℕ))) (c : Image) → ShowsPages l windows choices c → AllWorn (weak_of windows) (StandsShown l (weak_of windows) choices) c
shows_all l windows narrow choices c shows = λ j w.
    let at = shows_still l windows narrow choices c j w shows in
    record {
      roots = at.readable.roots;
      empty = λ says. (shows.readable.either (turned l) (inl refl) (says_worn (turned l) c j (weak_of windows) w says)).empty refl j w;
      anchors = at.readable.anchors;
      log = shows.readable.log j w;
      homes = shows.readable.homes j w;
      shows = shows.shows j w;
    }

module _ (l : Layout) (weak : Sectors) (choices : List (List (List ℕ))) (c : Image) (all : AllWorn weak (StandsShown l weak choices) c) (says : SaysTurned l c) (j : Image) (w : IsWorn weak c j) where
  -- the root is worn, so what is logged is told by the image with it
  unlogged_without : (s : ℕ) → s < 8 → sector_at c s ≡ Whole (root_bytes (turned l)) → ((k : Image) → sector_at k s ≡ Whole (root_bytes (turned l)) → SaysTurned l k) → LogsNothing l j
  unlogged_without s head root say =
      let room : s < length c = whole_inside c s (root_bytes (turned l)) root in
      let back = with_same j s (root_bytes (turned l)) (omega (arith, room, w.size)) in
      let worn : IsWorn weak c (with_sector j s (root_bytes (turned l))) = record {
        size = length-set j s (Whole (root_bytes (turned l))) ∙ w.size;
        each = λ p. ⊎_elim
            (λ here. inl (ap (sector_at (with_sector j s (root_bytes (turned l)))) here ∙ back ∙ sym root ∙ ap (sector_at c) (sym here)))
            (λ other. ⊎_elim (λ same. inl (with_other j s p (root_bytes (turned l)) other ∙ same)) (λ hurt. inr (hurt.0, with_other j s p (root_bytes (turned l)) other ∙ hurt.1)) (w.each p)) (same_or p s);
      } in
      unlogged_same l (with_sector j s (root_bytes (turned l))) j (λ p from lt. sym (with_other j s p (root_bytes (turned l)) (λ e. omega (arith, e, head, from))))
      ((all (with_sector j s (root_bytes (turned l))) worn).empty (say (with_sector j s (root_bytes (turned l))) back))

  all_unlogged : LogsNothing l j
  all_unlogged = ⊎_elim (λ root. unlogged_without 0 (omega arith) root (λ k is. inl is)) (λ root. unlogged_without 4 (omega arith) root (λ k is. inr is)) says

-- each layout beside this one that a root says bears the last window's run and has room, and what the lists tell lies in it;
-- where it has another number of sectors, the volume is open
abbrev pub BearsBeside : Layout → List WeakRun → List (List (List ℕ)) → Image → Type 0
BearsBeside l windows choices c = EachBeside l c (λ k. BearsLast k windows × (k.sectors ≤ length c) × AllLieIn k choices × (IsSized l k → IsOpen c))

-- where no root says more than before it is so as before
pub both_before : (l : Layout) (windows : List WeakRun) (choices : List (List (List ℕ))) (c j : Image) → ShowsPages l windows choices c → length c ≤ length j → ((k : Layout) → Says k j → Says k c) → (IsOpen c → IsOpen j) → BearsBeside l windows choices j
both_before l windows choices c j shows size before opens k beside says =
    let either = shows.readable.either k beside (before k says) in
    (either.borne, omega (arith, either.fits, size), shows.within k beside (before k says), λ sized. opens (either.opened sized))

-- and where the roots are as they were
pub both_same : (l : Layout) (windows : List WeakRun) (choices : List (List (List ℕ))) (c j : Image) → ShowsPages l windows choices c → length c ≤ length j → ((s : ℕ) → s < 8 → sector_at j s ≡ sector_at c s) → (IsOpen c → IsOpen j) → BearsBeside l windows choices j
both_same l windows choices c j shows size head opens = both_before l windows choices c j shows size (λ k. says_same k c j head) opens

-- and where each root is the layout's own, and none says more
pub both_own : (l : Layout) (weak : Sectors) (windows : List WeakRun) (choices : List (List (List ℕ))) (c j : Image) → IsPlanned l → HasOwnRoots l weak c → ((k : Layout) → Says k j → Says k c) → BearsBeside l windows choices j
both_own l weak windows choices c j planned own before k beside says = absurd (own_alone l k weak c planned own beside (before k says))

pub all_shows : (l : Layout) (windows : List WeakRun) → BearsLast l windows → (choices : List (List (List ℕ))) (c : Image) → BearsBeside l windows choices c → AllWorn (weak_of windows) (StandsShown l (weak_of windows) choices) c → ShowsPages l windows choices c
all_shows l windows borne choices c both all =
    let here = all c (worn_refl (weak_of windows) c) in
    record {
      readable = record {
        borne = borne;
        roots = here.roots;
        either = λ k beside says.
            let bears = both k beside says in
            record { borne = bears.0; fits = bears.1; empty = λ is. all_unlogged l (weak_of windows) choices c all (subst (λ (x : Layout). Says x c) is says); opened = bears.3 };
        anchors = here.anchors;
        log = λ j w. (all j w).log;
        homes = λ j w. (all j w).homes;
      };
      within = λ k beside says. (both k beside says).2;
      shows = λ j w. (all j w).shows;
    }
