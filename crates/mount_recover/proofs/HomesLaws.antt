-- Both homes of a page that is mended stand, but for what the open window may wear.
use Rattle.std.proofs.Common.{◌≡◌, ◌≢◌, ◌⊎◌, inl, inr, ⊎_elim, ℕ, zero, suc, ◌+◌, ◌<◌, ◌≤◌, List, length, Option, Some, None, refl, sym, ap, subst, ◌∙◌, arith}
use Rattle.std.specs.Prelude.{IsSome, IsTrue, slice_index_or}
use Rattle.std.proofs.lemmas.Bool.{cases_lt}
use Rattle.volume_layout.specs.declared.layout.Layout.{Layout}
use Rattle.volume_layout.specs.Layout.{home_a, home_b}
use Rattle.sector_disk.specs.declared.sector.Sector.TheVariants.{Whole}
use Rattle.sector_disk.specs.Image.{Windows, sector_at, with_sector, stand, open_damage, settled}
use Rattle.sector_disk.specs.Machine.{Moment, Holds}
use Rattle.sector_disk.proofs.Calm.{stand_one}
use Rattle.fsd_files.specs.Disk.{Image, SectorWorn, Has}
use Rattle.fsd_files.proofs.KeptLaws.{has_on}
use Rattle.fsd_sound.proofs.CommuteLaws.{with_same, with_other}
use Rattle.fsd_sound.specs.Homes.{HasBothHomes, HasSome}
use Rattle.twin_home.specs.Heal.{Healed}
use Rattle.log_thirds.specs.LogValue.{LogValue}
use Rattle.log_thirds.specs.Images.{IsUnlogged}
use Rattle.fsd_log.specs.declared.slot.Slot.{Slot}
use Rattle.mount_recover.specs.Mending.{AreHomed, IsHomeOf, KeepsBut, StaysBut, logged_count, one_if_some}
use Rattle.mount_recover.proofs.MendingLaws.{here_or, home_from, home_other, home_same_page}
use Rattle.mount_recover.proofs.MountLaws.{open_settled}

some_slot : (slot : Slot) → Some slot ≡ None → ⊥
some_slot slot is = absurd (cc is)

-- ---- a page that was healed, or was whole

module _ (l : Layout) (page : ℕ) (old new : Moment) where
  both_held : (image : Image) → Holds old image new → (x y : List ℕ) → sector_at image (home_a l page) ≡ Whole x → sector_at image (home_b l page) ≡ Whole y → HasBothHomes l new page
  both_held image holds x y first second = (
    (x, subst (λ (w : Windows). Has (open_damage w) new.image x (home_a l page)) (sym holds.windows) (has_on (open_damage old.windows) image new.image x (home_a l page) (holds.worn.each (home_a l page)) (inl first))),
    (y, subst (λ (w : Windows). Has (open_damage w) new.image y (home_b l page)) (sym holds.windows) (has_on (open_damage old.windows) image new.image y (home_b l page) (holds.worn.each (home_b l page)) (inl second))),
  )

  module _ (lt : page < l.pages) (long : home_b l l.pages ≤ length old.image) where
    pub both_healed : (count : ℕ) → Healed (home_a l page) (home_b l page) count old new → HasBothHomes l new page
    both_healed count (inl (none, a, b, holds)) = both_held old.image holds a.0 b.0 a.1 b.1
    both_healed count (inr (one, inl mended)) =
        both_held (with_sector old.image (home_a l page) mended.bytes) (subst (λ (i : Image). Holds old i new) (stand_one old.image (home_a l page) mended.bytes mended.long) mended.stands) mended.bytes mended.bytes
        (with_same old.image (home_a l page) mended.bytes (omega (arith, long, lt)))
        (with_other old.image (home_a l page) (home_b l page) mended.bytes (λ is. omega (arith, is, lt)) ∙ mended.whole)
    both_healed count (inr (one, inr mended)) =
        both_held (with_sector old.image (home_b l page) mended.bytes) (subst (λ (i : Image). Holds old i new) (stand_one old.image (home_b l page) mended.bytes mended.long) mended.stands) mended.bytes mended.bytes
        (with_other old.image (home_b l page) (home_a l page) mended.bytes (λ is. omega (arith, is, lt)) ∙ mended.whole)
        (with_same old.image (home_b l page) mended.bytes (omega (arith, long, lt)))

-- a sector that was written
pub some_written : (old new : Moment) (place : ℕ) (bytes : List ℕ) → place < length old.image → length bytes ≡ 512 → Holds old (stand old.image place bytes 1) new → HasSome new place
some_written old new place bytes room size holds =
    let is : sector_at (stand old.image place bytes 1) place ≡ Whole bytes = ap (λ (i : Image). sector_at i place) (stand_one old.image place bytes size) ∙ with_same old.image place bytes room in
    (bytes, subst (λ (w : Windows). Has (open_damage w) new.image bytes place) (sym holds.windows) (has_on (open_damage old.windows) (stand old.image place bytes 1) new.image bytes place (holds.worn.each place) (inl is)))

-- ---- the pages before it

some_on : (old new : Moment) (a b s : ℕ) → s ≢ a → s ≢ b → KeepsBut a b old new → HasSome old s → HasSome new s
some_on old new a b s not_a not_b but has = (has.0, subst (λ (w : Windows). Has (open_damage w) new.image has.0 s) (sym but.windows) (has_on (open_damage old.windows) old.image new.image has.0 s (but.others s not_a not_b) has.1))

both_on : (l : Layout) (page : ℕ) (old new : Moment) (a b : ℕ) → home_a l page ≢ a → home_a l page ≢ b → home_b l page ≢ a → home_b l page ≢ b → KeepsBut a b old new → HasBothHomes l old page → HasBothHomes l new page
both_on l page old new a b aa ab ba bb but has = (some_on old new a b (home_a l page) aa ab but has.0, some_on old new a b (home_b l page) ba bb but has.1)

module _ (l : Layout) (log : LogValue) where
  pub homed_none : (a : ℕ) → a ≡ home_a l 0 → (now : Moment) → AreHomed l log a 0 now
  homed_none a is now = record { written = λ page s within has home before. absurd (home_from l page s home (omega (arith, before, is))); healed = λ page lt. absurd (omega (arith, lt)) }

  pub homed_further : (end to n : ℕ) (now : Moment) → ((page s : ℕ) → page < l.pages → IsHomeOf l page s → s < to → s < end) → AreHomed l log end n now → AreHomed l log to n now
  homed_further end to n now before at = record { written = λ page s within has home lt. at.written page s within has home (before page s within home lt); healed = at.healed }

  -- a home of a page was written
  pub homed_put : (place : ℕ) (old new : Moment) → KeepsBut place place old new → HasSome new place → AreHomed l log place 0 old → AreHomed l log (place + 1) 0 new
  homed_put place old new but some at = record {
    written = λ p s within has home before. ⊎_elim
        (λ less. let other : s ≢ place = λ is. omega (arith, is, less) in some_on old new place place s other other but (at.written p s within has home less))
        (λ is. subst (HasSome new) (sym is) some) (here_or s place before);
    healed = λ page lt. absurd (omega (arith, lt));
  }

  -- the log does not have the page
  pub homed_skip : (page : ℕ) → page < l.pages → (place : ℕ) → IsHomeOf l page place → IsUnlogged log page → (old new : Moment) → KeepsBut place place old new → AreHomed l log place 0 old → AreHomed l log (place + 1) 0 new
  homed_skip page lt place home lacks old new but at = record {
    written = λ p s within has at_home before. ⊎_elim
        (λ less. let other : s ≢ place = λ is. omega (arith, is, less) in some_on old new place place s other other but (at.written p s within has at_home less))
        (λ is. absurd (has (subst (IsUnlogged log) (sym (home_same_page l p page place within lt (subst (IsHomeOf l p) is at_home) home)) lacks))) (here_or s place before);
    healed = λ page lt. absurd (omega (arith, lt));
  }

  -- the page was healed
  pub homed_heal : (end n : ℕ) → n < l.pages → IsUnlogged log n → (old new : Moment) → KeepsBut (home_a l n) (home_b l n) old new → HasBothHomes l new n → AreHomed l log end n old → AreHomed l log end (n + 1) new
  homed_heal end n lt lacks old new but both at = record {
    written = λ p s within has home before.
        let other : p ≢ n = λ is. has (subst (IsUnlogged log) (sym is) lacks) in
        some_on old new (home_a l n) (home_b l n) s (home_other l p n (home_a l n) s within lt other home (inl refl)) (home_other l p n (home_b l n) s within lt other home (inr refl)) but (at.written p s within has home before);
    healed = λ p le within free. ⊎_elim
        (λ low. both_on l p old new (home_a l n) (home_b l n) (λ is. omega (arith, is, low)) (λ is. omega (arith, is, within)) (λ is. omega (arith, is, lt)) (λ is. omega (arith, is, low)) but (at.healed p low within free))
        (λ is. subst (HasBothHomes l new) (sym is) both) (here_or p n le);
  }

  -- the log has the page
  pub homed_has : (end n : ℕ) → (IsUnlogged log n → ⊥) → (now : Moment) → AreHomed l log end n now → AreHomed l log end (n + 1) now
  homed_has end n has now at = record {
    written = at.written;
    healed = λ p le within lacks. ⊎_elim (λ low. at.healed p low within lacks) (λ is. absurd (has (subst (IsUnlogged log) is lacks))) (here_or p n le);
  }

  -- then each page has both
  pub all_homed : (now : Moment) → AreHomed l log (home_b l l.pages) l.pages now → (page : ℕ) → page < l.pages → HasBothHomes l now page
  all_homed now at page lt = by_slot (slice_index_or log.slots page None) refl
    where
      by_slot : (o : Option Slot) → slice_index_or log.slots page None ≡ o → HasBothHomes l now page
      by_slot None is = at.healed page lt lt is
      by_slot (Some slot) is =
          let has : IsUnlogged log page → ⊥ = λ none. some_slot slot (sym is ∙ none) in
          (at.written page (home_a l page) lt has (inl refl) (omega (arith, lt)), at.written page (home_b l page) lt has (inr refl) (omega (arith, lt)))

-- ---- how many the log has

pub count_next : (log : LogValue) (n : ℕ) → logged_count log (n + 1) ≡ logged_count log n + one_if_some (slice_index_or log.slots n None)
count_next log n = let is : n + 1 ≡ suc n = omega arith in ap (logged_count log) is

pub count_most : (log : LogValue) (n : ℕ) → logged_count log n ≤ n
count_most log zero = omega arith
count_most log (suc n) = by_slot (slice_index_or log.slots n None) (count_most log n)
  where
    by_slot : (o : Option Slot) → logged_count log n ≤ n → logged_count log n + one_if_some o ≤ suc n
    by_slot None le = omega (arith, le)
    by_slot (Some slot) le = omega (arith, le)

pub count_has : (o : Option Slot) → (o ≡ None → ⊥) → one_if_some o ≡ 1
count_has None has = absurd (has refl)
count_has (Some slot) has = refl

pub count_lacks : (o : Option Slot) → o ≡ None → one_if_some o ≡ 0
count_lacks o is = ap one_if_some is

one_most : (o : Option Slot) → one_if_some o ≤ 1
one_most None = omega arith
one_most (Some slot) = omega arith

le_or : (page more : ℕ) → page ≤ suc more → (page ≤ more) ⊎ (page ≡ suc more)
le_or page more le = ⊎_elim (λ low. inr (omega (arith, low, le))) (λ high. inl high) (cases_lt more page)

-- with a page more they are not fewer, and of the pages between no more than one each
pub record CountsOn (log : LogValue) (page more : ℕ) : Type 0 where
  pub least : logged_count log page ≤ logged_count log more
  pub most : logged_count log more + page ≤ logged_count log page + more

counts_on : (log : LogValue) (page more : ℕ) → page ≤ more → CountsOn log page more
counts_on log page zero le = let is : page ≡ 0 = omega (arith, le) in subst (λ (k : ℕ). CountsOn log k 0) (sym is) (record { least = omega arith; most = omega arith })
counts_on log page (suc more) le = ⊎_elim
    (λ before. let at = counts_on log page more before in let one = one_most (slice_index_or log.slots more None) in record { least = omega (arith, at.least); most = omega (arith, at.most, one) })
    (λ is. subst (λ (k : ℕ). CountsOn log k (suc more)) (sym is) (record { least = omega arith; most = omega arith }))
    (le_or page more le)

pub count_within : (log : LogValue) (page pages : ℕ) → page < pages → logged_count log (page + 1) ≤ logged_count log pages
count_within log page pages lt = (counts_on log (page + 1) pages (omega (arith, lt))).least

pub count_within_rest : (log : LogValue) (page pages : ℕ) → page < pages → logged_count log pages + (page + 1) ≤ logged_count log (page + 1) + pages
count_within_rest log page pages lt = (counts_on log (page + 1) pages (omega (arith, lt))).most

-- ---- the roots

-- the roots are no homes
pub both_rooted : (l : Layout) (page : ℕ) (old new : Moment) → KeepsBut 0 4 old new → HasBothHomes l old page → HasBothHomes l new page
both_rooted l page old new but has = both_on l page old new 0 4 (λ is. omega (arith, is)) (λ is. omega (arith, is)) (λ is. omega (arith, is)) (λ is. omega (arith, is)) but has

-- ---- once it has settled

settled_has : (old new : Moment) (s : ℕ) (bytes : List ℕ) → IsSome old.windows.next → new.windows ≡ settled old.windows.present old.windows.next → SectorWorn (open_damage old.windows s) (sector_at old.image s) (sector_at new.image s)
    → Has (open_damage old.windows) old.image bytes s → Has (open_damage new.windows) new.image bytes s
settled_has old new s bytes some is worn has = ⊎_elim (λ stands. inl stands)
    (λ hurt. inr (subst (λ (w : Windows). IsTrue (open_damage w s)) (sym is) (open_settled old.windows.present old.windows.next some s hurt.0), hurt.1))
    (has_on (open_damage old.windows) old.image new.image bytes s worn has)

pub both_settled : (l : Layout) (page : ℕ) (old new : Moment) → IsSome old.windows.next → new.windows ≡ settled old.windows.present old.windows.next → StaysBut 8 12 old new → HasBothHomes l old page → HasBothHomes l new page
both_settled l page old new some is stays has = (
  (has.0.0, settled_has old new (home_a l page) has.0.0 some is (stays (home_a l page) (λ e. omega (arith, e)) (λ e. omega (arith, e))) has.0.1),
  (has.1.0, settled_has old new (home_b l page) has.1.0 some is (stays (home_b l page) (λ e. omega (arith, e)) (λ e. omega (arith, e))) has.1.1),
)
