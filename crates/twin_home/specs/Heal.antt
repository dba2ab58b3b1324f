-- What healing one of two copies from the other leaves.
use Rattle.std.specs.Prelude.{◌≡◌, ◌⊎◌, ⊤, ℕ, ◌+◌, ◌≤◌, List, length, Option, Some, None, OnOk, Result}
use Rattle.sector_disk.specs.declared.sector.Sector.TheVariants.{Whole, Damaged}
use Rattle.sector_disk.specs.declared.machine.LoadFault.{LoadFault}
use Rattle.sector_disk.specs.declared.machine.LoadFault.TheVariants.{Device, Lost}
use Rattle.sector_disk.specs.Image.{sector_at, stand}
use Rattle.sector_disk.specs.declared.machine.Machine.{Ghosts}
use Rattle.sector_disk.specs.Damage.{LostCause}
use Rattle.sector_disk.specs.Machine.{Moment, Holds, wrote}
use Rattle.fsd_files.specs.Scrub.{ReadsDamaged}
use Rattle.twin_home.specs.Home.{WritesPart}

-- what was read of a copy between two moments: the bytes that stood there, or that it is damaged
abbrev pub ReadsCopy : (place : ℕ) → Option (List ℕ) → Moment → Moment → Type 0
ReadsCopy place (Some bytes) old new = sector_at old.image place ≡ Whole bytes
ReadsCopy place None old new = sector_at new.image place ≡ Damaged

-- Both copies were read.
pub record ReadsBoth (a b : ℕ) (read_a read_b : Option (List ℕ)) (old new : Moment) : Type 0 where
  pub first : ReadsCopy a read_a old new
  pub second : ReadsCopy b read_b old new

-- A sector is written with its twin's bytes, or not yet.
pub record Mends (place twin : ℕ) (old left : Moment) : Type 0 where
  pub bytes : List ℕ
  pub long : length bytes ≡ 512
  pub whole : sector_at old.image twin ≡ Whole bytes
  pub part : WritesPart place bytes old left

-- One of two copies is written from the other, or neither.
abbrev pub Heals : (a b : ℕ) → Moment → Moment → Type 0
Heals a b old left = Holds old old.image left ⊎ (Mends a b old left ⊎ Mends b a old left)

-- A copy that read damaged stands as its twin did.
pub record Mended (place twin : ℕ) (old new : Moment) : Type 0 where
  pub hurt : ReadsDamaged old place
  pub bytes : List ℕ
  pub long : length bytes ≡ 512
  pub whole : sector_at old.image twin ≡ Whole bytes
  pub stands : Holds old (stand old.image place bytes 1) new

-- the sector was whole
abbrev pub WasWhole : Moment → ℕ → Type 0
WasWhole old place = (bytes : List ℕ) × (sector_at old.image place ≡ Whole bytes)

-- Both were whole and none is written, or one is.
abbrev pub Healed : (a b count : ℕ) → Moment → Moment → Type 0
Healed a b count old new = ((count ≡ 0) × WasWhole old a × WasWhole old b × Holds old old.image new) ⊎ ((count ≡ 1) × (Mended a b old new ⊎ Mended b a old new))

-- the two copies are these
abbrev pub AreThese : (a b x y : ℕ) → Type 0
AreThese a b x y = (x ≡ a) × (y ≡ b)

-- what is lost is told by these two copies
abbrev pub TellsCopies : (a b : ℕ) → LoadFault → Type 0
TellsCopies a b (Device place) = ⊤
TellsCopies a b (Lost x y) = AreThese a b x y

-- One sector is written where all goes well, and one at most.
pub record WritesOnce {D T E : Type 0} (M : Ghosts D) (old new : D) (result : Result T E) : Type 0 where
  pub counted : OnOk result (M.tells new → M.ledger new ≡ wrote (M.ledger old) 1)
  pub most : M.tells new → (M.ledger new).written ≤ (M.ledger old).written + 1

module _ {D : Type 0} (M : Ghosts D) (a b : ℕ) where
  -- So many of two copies were written from the other, one at most, and the count is told.
  pub record HealsOne (old new : D) (count : ℕ) : Type 0 where
    pub few : count ≤ 1
    pub counted : M.tells new → M.ledger new ≡ wrote (M.ledger old) count
    pub done : M.honest new → Healed a b count (M.now old) (M.now new)

  -- What is lost is told by these two copies, and both are damaged.
  pub record LosesBoth (new : D) (fault : LoadFault) : Type 0 where
    pub copies : TellsCopies a b fault
    pub lost : M.honest new → LostCause (AreThese a b) (M.now new).image fault

-- ---- roots

-- A sector reads as these bytes and is not written, or it reads otherwise and is.
abbrev pub SetsRoot : (place : ℕ) → Option (List ℕ) → List ℕ → (count : ℕ) → Moment → Moment → Type 0
SetsRoot place read bytes count old new = ((count ≡ 0) × (read ≡ Some bytes) × Holds old old.image new) ⊎ ((count ≡ 1) × (read ≡ Some bytes → ⊥) × Holds old (stand old.image place bytes 1) new)

-- Each of the two roots is written where it was read otherwise.
pub record SetsRoots (read_0 read_4 : Option (List ℕ)) (bytes : List ℕ) (count : ℕ) (old new : Moment) : Type 0 where
  pub mid : Moment
  pub one : ℕ
  pub two : ℕ
  pub sum : count ≡ one + two
  pub first : SetsRoot 0 read_0 bytes one old mid
  pub second : SetsRoot 4 read_4 bytes two mid new

-- The roots of these bytes stand at the first place, if so many (0 or 1) are written there, and at the second.
pub record HealsRoots (bytes : List ℕ) (old left : Moment) : Type 0 where
  pub first : ℕ
  pub second : ℕ
  pub once : first ≤ 1
  pub once_more : second ≤ 1
  pub holds : Holds old (stand (stand old.image 0 bytes first) 4 bytes second) left

-- The roots of these bytes stand at neither place, at the first, or at both, and nothing else was written.
pub record RootsIn (bytes : List ℕ) (old left : Moment) : Type 0 where
  pub first : ℕ
  pub second : ℕ
  pub in_order : second ≤ first
  pub once : first ≤ 1
  pub once_more : second ≤ 1
  pub holds : Holds old (stand (stand old.image 0 bytes first) 4 bytes second) left

-- a root is written exactly where it reads damaged or differs
abbrev pub NeedsRoot : ℕ → ℕ → List ℕ → Moment → Type 0
NeedsRoot count place bytes old = ((count ≡ 0) × (sector_at old.image place ≡ Whole bytes)) ⊎ ((count ≡ 1) × (ReadsDamaged old place ⊎ ((other : List ℕ) × (sector_at old.image place ≡ Whole other) × (other ≡ bytes → ⊥))))

-- A root was whole; each that reads damaged or differs is written, and no other sector.
pub record RootsHealed (bytes : List ℕ) (count : ℕ) (old new : Moment) : Type 0 where
  pub some : WasWhole old 0 ⊎ WasWhole old 4
  pub first : ℕ
  pub second : ℕ
  pub sum : count ≡ first + second
  pub needs_first : NeedsRoot first 0 bytes old
  pub needs_second : NeedsRoot second 4 bytes old
  pub holds : Holds old (stand (stand old.image 0 bytes first) 4 bytes second) new
