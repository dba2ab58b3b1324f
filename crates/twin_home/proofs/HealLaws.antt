-- One of two copies is healed from the other.
use Rattle.std.proofs.Common.{◌≡◌, inl, inr, ⊎_elim, ◌⊎◌, ℕ, ◌≤◌, ◌<◌, ◌+◌, ◌/◌, List, length, Option, Some, None, Result, Ok, Err, refl, sym, ap, subst, ◌∙◌, arith}
use Rattle.std.specs.Prelude.{IfErr, IfOk, OnOk}
use Rattle.volume_layout.specs.declared.layout.Layout.{Layout}
use Rattle.volume_layout.specs.Root.{root_bytes}
use Rattle.sector_disk.specs.declared.machine.LoadFault.{LoadFault}
use Rattle.sector_disk.specs.declared.machine.LoadFault.TheVariants.{Device, Lost}
use Rattle.sector_disk.specs.declared.sector.Sector.{Sector}
use Rattle.sector_disk.specs.Damage.{IsDevice, LostCause}
use Rattle.sector_disk.specs.declared.sector.Sector.TheVariants.{Whole, Damaged}
use Rattle.sector_disk.specs.declared.machine.Machine.{Ghosts}
use Rattle.sector_disk.specs.Calls.{WritesDisk, as_sector}
use Rattle.sector_disk.specs.Image.{sector_at, stand, IsWorn, Windows, open_damage}
use Rattle.sector_disk.specs.Machine.{Moment, Tears, Wears, Holds}
use Rattle.sector_disk.proofs.CallLaws.{writes_more, writes_then}
use Rattle.sector_disk.proofs.Holding.{holds_now, holds_wears, holds_on}
use Rattle.sector_disk.proofs.Wear.{stand_worn, worn_damaged, worn_trans, worn_whole}
use Rattle.fsd_files.specs.Scrub.{ReadsDamaged}
use Rattle.twin_home.specs.Home.{WritesPart}
use Rattle.twin_home.proofs.WriteLaws.{torn_part}
use Rattle.twin_home.specs.Heal.{LosesBoth, ReadsCopy, ReadsBoth, Mends, Heals, Mended, SetsRoot, SetsRoots, HealsRoots, RootsIn, NeedsRoot, RootsHealed, TellsCopies, WasWhole}

-- a moment that is only worn
pub still : (old left : Moment) → Wears old left → Holds old old.image left
still old left wears = holds_wears old old.image old left (holds_now old) wears

pub still_heals : (a b : ℕ) (old left : Moment) → Wears old left → Heals a b old left
still_heals a b old left wears = inl (still old left wears)

-- what is read of a copy, and whether it is damaged later
pub reads_copy : (old mid new : Moment) (place : ℕ) (o : Option (List ℕ)) → Wears old mid → Wears mid new → sector_at mid.image place ≡ as_sector o → ReadsCopy place o old new
reads_copy old mid new place (Some bytes) first second is = worn_whole (open_damage old.windows) old.image mid.image place bytes first.image is
reads_copy old mid new place None first second is = worn_damaged (open_damage mid.windows) mid.image new.image place second.image is

pub reads_whole : (old new : Moment) (place : ℕ) (o : Option (List ℕ)) (bytes : List ℕ) → o ≡ Some bytes → ReadsCopy place o old new → sector_at old.image place ≡ Whole bytes
reads_whole old new place o bytes is read = subst (λ (r : Option (List ℕ)). ReadsCopy place r old new) is read

pub reads_damaged : (old new : Moment) (place : ℕ) (o : Option (List ℕ)) → o ≡ None → ReadsCopy place o old new → sector_at new.image place ≡ Damaged
reads_damaged old new place o is read = subst (λ (r : Option (List ℕ)). ReadsCopy place r old new) is read

-- a sector that is damaged at the end might have read so
pub hurt_before : (old new : Moment) (place : ℕ) → Wears old new → sector_at new.image place ≡ Damaged → ReadsDamaged old place
hurt_before old new place wears hurt = ⊎_elim (λ same. inl (sym same ∙ hurt)) (λ worn. inr worn.0) (wears.image.each place)

-- ---- the write, behind the reads

module _ (old mid : Moment) (wears : Wears old mid) (place twin : ℕ) (bytes : List ℕ) (long : length bytes ≡ 512) (whole : sector_at old.image twin ≡ Whole bytes) where
  pub mends : (left : Moment) → WritesPart place bytes mid left → Mends place twin old left
  mends left part = record {
    bytes = bytes;
    long = long;
    whole = whole;
    part = record { stood = part.stood; within = part.within; holds = holds_on old mid left old.image place bytes part.stood (still old mid wears) part.holds };
  }

  pub mended : (new : Moment) → ReadsDamaged old place → Holds mid (stand mid.image place bytes 1) new → Mended place twin old new
  mended new hurt done = record { hurt = hurt; bytes = bytes; long = long; whole = whole; stands = holds_on old mid new old.image place bytes 1 (still old mid wears) done }

-- one copy was written, and what was then so of any Ok makes the rest
pub one_healed : {E : Type 0} (P Q : Type 0) (R : ℕ → Type 0) (r : Result ℕ E) → IfOk r (λ count. count ≡ 1) → OnOk r P → OnOk r Q → ((count : ℕ) → count ≡ 1 → P → Q → R count) → IfOk r R
one_healed P Q R (Ok count) one p q more = more count one p q
one_healed P Q R (Err e) one p q more = tt

-- a fault of the disk tells no other copies, and nothing as lost
pub device_loses : {D T : Type 0} (M : Ghosts D) (a b : ℕ) (new : D) (r : Result T LoadFault) → IfErr r IsDevice → IfErr r (LosesBoth M a b new)
device_loses M a b new (Ok x) device = tt
device_loses M a b new (Err (Device place)) device = record { copies = tt; lost = λ h. tt }
device_loses M a b new (Err (Lost x y)) device = absurd device

pub device_copies : {T : Type 0} (a b : ℕ) (r : Result T LoadFault) → IfErr r IsDevice → IfErr r (TellsCopies a b)
device_copies a b (Ok x) device = tt
device_copies a b (Err (Device place)) device = tt
device_copies a b (Err (Lost x y)) device = absurd device

pub device_lost : {T : Type 0} (P : Type 0) (Copies : ℕ → ℕ → Type 0) (image : List Sector) (r : Result T LoadFault) → IfErr r IsDevice → IfErr r (λ fault. P → LostCause Copies image fault)
device_lost P Copies image (Ok x) device = tt
device_lost P Copies image (Err (Device place)) device = λ p. tt
device_lost P Copies image (Err (Lost x y)) device = absurd device

-- ---- roots

pub roots_still : (bytes : List ℕ) (old left : Moment) → Wears old left → HealsRoots bytes old left
roots_still bytes old left wears = record { first = 0; second = 0; once = omega arith; once_more = omega arith; holds = still old left wears }

pub roots_first : (bytes : List ℕ) (old left : Moment) → WritesPart 0 bytes old left → HealsRoots bytes old left
roots_first bytes old left part = record { first = part.stood; second = 0; once = part.within; once_more = omega arith; holds = part.holds }

-- what a root that was set leaves
set_holds : (place : ℕ) (read : Option (List ℕ)) (bytes : List ℕ) (count : ℕ) (mid new : Moment) → SetsRoot place read bytes count mid new → Holds mid (stand mid.image place bytes count) new
set_holds place read bytes count mid new (inl none) = subst (λ (k : ℕ). Holds mid (stand mid.image place bytes k) new) (sym none.0) none.2
set_holds place read bytes count mid new (inr one) = subst (λ (k : ℕ). Holds mid (stand mid.image place bytes k) new) (sym one.0) one.2

set_few : (place : ℕ) (read : Option (List ℕ)) (bytes : List ℕ) (count : ℕ) (mid new : Moment) → SetsRoot place read bytes count mid new → count ≤ 1
set_few place read bytes count mid new (inl none) = omega (arith, none.0)
set_few place read bytes count mid new (inr one) = omega (arith, one.0)

pub roots_second : (read : Option (List ℕ)) (bytes : List ℕ) (count : ℕ) (old mid left : Moment) → SetsRoot 0 read bytes count old mid → WritesPart 4 bytes mid left → HealsRoots bytes old left
roots_second read bytes count old mid left set part = record {
  first = count;
  second = part.stood;
  once = set_few 0 read bytes count old mid set;
  once_more = part.within;
  holds = holds_on old mid left (stand old.image 0 bytes count) 4 bytes part.stood (set_holds 0 read bytes count old mid set) part.holds;
}

-- the roots of a layout, written one behind the other
module _ (l : Layout) (bytes : List ℕ) (is : bytes ≡ root_bytes l) where
  long : length bytes ≡ 512
  long = ap (λ (b : List ℕ). length b) is

  torn_first : (old left : Moment) → Tears 0 bytes old left → RootsIn (root_bytes l) old left
  torn_first old left torn =
      let part = torn_part 0 bytes long old left torn in
      subst (λ (b : List ℕ). RootsIn b old left) is (record { first = part.stood; second = 0; in_order = omega arith; once = part.within; once_more = omega arith; holds = part.holds })

  torn_second : (old mid left : Moment) → Holds old (stand old.image 0 bytes (length bytes / 512)) mid → Tears 4 bytes mid left → RootsIn (root_bytes l) old left
  torn_second old mid left first torn =
      let part = torn_part 4 bytes long mid left torn in
      let one : length bytes / 512 ≡ 1 = omega (arith, long) in
      subst (λ (b : List ℕ). RootsIn b old left) is (record {
        first = 1;
        second = part.stood;
        in_order = part.within;
        once = omega arith;
        once_more = part.within;
        holds = holds_on old mid left (stand old.image 0 bytes 1) 4 bytes part.stood (subst (λ (n : ℕ). Holds old (stand old.image 0 bytes n) mid) one first) part.holds;
      })

  module _ {D : Type 0} {M : Ghosts D} {fault : Option ℕ} where
    -- of the roots at 0 and at 4 the one that is written first is not the later one
    pub first_written : {x y : D} {a : ℕ} → WritesDisk M fault (Tears a bytes) x y → (a ≡ 0) ⊎ (a ≡ 4) → a < 4 → WritesDisk M fault (RootsIn (root_bytes l)) x y
    first_written {x = x} {a = a} writes (inl zero) in_order = writes_more writes (λ h left torn. torn_first (M.now x) left (subst (λ (s : ℕ). Tears s bytes (M.now x) left) zero torn))
    first_written {a = a} writes (inr four) in_order = absurd (omega (arith, four, in_order))

    pub both_written : {x y z : D} {a b : ℕ} → WritesDisk M None (Tears a bytes) x y → (M.honest y → Holds (M.now x) (stand (M.now x).image a bytes (length bytes / 512)) (M.now y)) → WritesDisk M fault (Tears b bytes) y z
        → (a ≡ 0) ⊎ (a ≡ 4) → a + b ≡ 4 → a < b → WritesDisk M fault (RootsIn (root_bytes l)) x z
    both_written {x = x} {y = y} {z = z} {a = a} {b = b} first done second (inl zero) pair in_order =
        let four : b ≡ 4 = omega (arith, zero, pair) in
        writes_then first second (λ h left torn. torn_first (M.now x) left (subst (λ (s : ℕ). Tears s bytes (M.now x) left) zero torn))
        (λ h left torn. torn_second (M.now x) (M.now y) left (subst (λ (s : ℕ). Holds (M.now x) (stand (M.now x).image s bytes (length bytes / 512)) (M.now y)) zero (done (second.trust.honest h))) (subst (λ (s : ℕ). Tears s bytes (M.now y) left) four torn))
    both_written {a = a} {b = b} first done second (inr four) pair in_order = absurd (omega (arith, four, pair, in_order))

-- one write behind the other, where both are done
pub both_done : {T E H K : Type 0} (root bytes : List ℕ) (old mid new : Moment) (r : Result T E) → bytes ≡ root → length bytes / 512 ≡ 1 → (K → Holds old (stand old.image 0 bytes (length bytes / 512)) mid) → (H → K)
    → OnOk r (H → Holds mid (stand mid.image 4 bytes (length bytes / 512)) new) → OnOk r (H → Holds old (stand (stand old.image 0 root 1) 4 root 1) new)
both_done root bytes old mid new (Err e) same one first trust second = tt
both_done root bytes old mid new (Ok x) same one first trust second = λ h.
    subst (λ (b : List ℕ). Holds old (stand (stand old.image 0 b 1) 4 b 1) new) same
    (subst (λ (n : ℕ). Holds old (stand (stand old.image 0 bytes n) 4 bytes n) new) one
    (holds_on old mid new (stand old.image 0 bytes (length bytes / 512)) 4 bytes (length bytes / 512) (first (trust h)) (second h)))

holds_both : (old mid left : Moment) (bytes : List ℕ) (first second : ℕ) → Wears old mid → Holds mid (stand (stand mid.image 0 bytes first) 4 bytes second) left → Holds old (stand (stand old.image 0 bytes first) 4 bytes second) left
holds_both old mid left bytes first second wears holds =
    let may = open_damage old.windows in
    let worn : IsWorn may (stand (stand mid.image 0 bytes first) 4 bytes second) left.image = subst (λ (w : Windows). IsWorn (open_damage w) (stand (stand mid.image 0 bytes first) 4 bytes second) left.image) wears.windows holds.worn in
    record {
      worn = worn_trans may _ _ left.image (stand_worn may _ _ 4 bytes second (stand_worn may old.image mid.image 0 bytes first wears.image)) worn;
      windows = holds.windows ∙ wears.windows;
      said = holds.said ∙ wears.said;
    }

-- roots that are set behind the reads
pub roots_on : (bytes : List ℕ) (old mid left : Moment) → Wears old mid → HealsRoots bytes mid left → HealsRoots bytes old left
roots_on bytes old mid left wears r = record { first = r.first; second = r.second; once = r.once; once_more = r.once_more; holds = holds_both old mid left bytes r.first r.second wears r.holds }

-- why it is written, or not
needs : (place count : ℕ) (read : Option (List ℕ)) (bytes : List ℕ) (old read_at mid new : Moment) → Wears old read_at → ReadsCopy place read old read_at → SetsRoot place read bytes count mid new → NeedsRoot count place bytes old
needs place count read bytes old read_at mid new wears reads (inl none) = inl (none.0, reads_whole old read_at place read bytes none.1 reads)
needs place count None bytes old read_at mid new wears reads (inr one) = inr (one.0, inl (hurt_before old read_at place wears reads))
needs place count (Some other) bytes old read_at mid new wears reads (inr one) = inr (one.0, inr (other, reads, λ same. one.1 (ap (λ (x : List ℕ). Some x) same)))

-- one of two roots could be read
was_whole : (old new : Moment) (first second : Option (List ℕ)) → ReadsBoth 0 4 first second old new → (first ≡ None → second ≡ None → ⊥) → WasWhole old 0 ⊎ WasWhole old 4
was_whole old new (Some bytes) second reads some = inl (bytes, reads.first)
was_whole old new None (Some bytes) reads some = inr (bytes, reads.second)
was_whole old new None None reads some = absurd (some refl refl)

pub both_healed : (bytes : List ℕ) (count : ℕ) (first second : Option (List ℕ)) (old mid new : Moment) → Wears old mid → ReadsBoth 0 4 first second old mid → (first ≡ None → second ≡ None → ⊥)
    → SetsRoots first second bytes count mid new → RootsHealed bytes count old new
both_healed bytes count first second old mid new wears reads some set = record {
  some = was_whole old mid first second reads some;
  first = set.one;
  second = set.two;
  sum = set.sum;
  needs_first = needs 0 set.one first bytes old mid mid set.mid wears reads.first set.first;
  needs_second = needs 4 set.two second bytes old mid set.mid new wears reads.second set.second;
  holds = holds_both old mid new bytes set.one set.two wears (holds_on mid set.mid new (stand mid.image 0 bytes set.one) 4 bytes set.two (set_holds 0 first bytes set.one mid set.mid set.first) (set_holds 4 second bytes set.two set.mid new set.second));
}
