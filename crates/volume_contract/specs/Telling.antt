-- What the calls of a volume tell, and why, over any image.
use Rattle.std.specs.Prelude.{◌≡◌, ◌≤◌, ℕ, Bool, List, length, Option, IsTrue, Result, Err, IfOk, IfSome, IfNone, IfErr, IsFalse, OnErr, OnOk}
use Rattle.volume_layout.specs.declared.layout.Layout.{Layout}
use Rattle.volume_layout.specs.Layout.{is_data}
use Rattle.fsd_bytes.specs.declared.key.Key.{Key}
use Rattle.fsd_bytes.specs.declared.refusal.Refusal.{Refusal}
use Rattle.fsd_bytes.specs.declared.refusal.Refusal.TheVariants as Why
use Rattle.run_table.specs.RunTable.{sectors_of}
use Rattle.run_table.specs.Space.{contains}
use Rattle.fsd_formats.specs.declared.entry.Entry.{Entry}
use Rattle.sector_disk.specs.declared.machine.Machine.{Ghosts}
use Rattle.sector_disk.specs.declared.sector.Sector.TheVariants.{Damaged}
use Rattle.sector_disk.specs.Image.{open_damage, sector_at}
use Rattle.sector_disk.specs.Machine.{Moment}
use Rattle.fsd_files.specs.Answers.{HasLeader}
use Rattle.fsd_files.specs.Disk.{Image}
use Rattle.fsd_files.specs.Scrub.{CountsTwins, FindsLeader}
use Rattle.volume_contract.specs.declared.files.Forced.{Forced}
use Rattle.fsd_sound.specs.Lookups.{HasKey, LacksKey, LacksLater}
use Rattle.volume_contract.specs.Found.{GivesOf, HasRange, ShowsReached, ShowsReachedNext}
use Rattle.volume_contract.specs.Behind.{IsBehindForce}
use Rattle.volume_contract.specs.Causes.{Causes, IsTaken}
use Rattle.volume_contract.specs.Ends.{IsLater, count_in}
use Rattle.fsd_table.specs.Reached.{HasEntry}
use Rattle.volume_contract.specs.Healing.{IsMet, LosesTwins, TwinsStand}
use Rattle.volume_contract.specs.Logged.{AllLogged, KeepsPages}
use Rattle.volume_contract.specs.State.{HasEnough, State, enters_again}

-- It is a data sector, and damaged in the image.
pub record IsDamagedData (l : Layout) (i : Image) (s : ℕ) : Type 0 where
  pub within : IsTrue (is_data l s)
  pub damaged : sector_at i s ≡ Damaged

-- so is the sector that a call tells as damaged, where the machine kept to its promise
abbrev pub TellsDamaged : {D T : Type 0} → (M : Ghosts D) → Layout → (now : D) → Result T Refusal → Type 0
TellsDamaged M l now result = (s : ℕ) → result ≡ Err (Why.Damaged s) → M.honest now → IsDamagedData l (M.now now).image s

-- of a version that is held, whose entry has so many bytes, with how many of them are given
pub record TellsHeld {D : Type 0} (M : Ghosts D) (l : Layout) (len from room : ℕ) (now : D) (result : Result ℕ Refusal) : Type 0 where
  pub count : IfOk result (λ n. n ≡ count_in len from room)
  pub damaged : TellsDamaged M l now result

-- Bytes of a version by its entry, from a place on, for a buffer that has these before and those then: what is told as
-- damaged is a sector of the entry's.
pub record TellsBytes {D : Type 0} (M : Ghosts D) (e : Entry) (from : ℕ) (buf then : List ℕ) (before now : D) (result : Result ℕ Refusal) : Type 0 where
  pub count : IfOk result (λ n. n ≡ count_in e.length from (length buf))
  pub gives : IfOk result (λ n. M.honest now → GivesOf (M.now before).image e from buf then n)
  pub damaged : (s : ℕ) → result ≡ Err (Why.Damaged s) → M.honest now → IsTrue (contains (sectors_of e.runs) s) × (sector_at (M.now now).image s ≡ Damaged)

-- Why a call answers so, where before the call it had such pages in memory.
module _ {D : Type 0} (M : Ghosts D) (resident : ℕ → Option (List ℕ)) (old new : State) (before now : D) where
  -- the key of a name's version
  pub record TellsKey (given : List ℕ) (result : Result Key Refusal) : Type 0 where
    pub name : IfOk result (λ key. key.name ≡ given)
    pub causes : Causes M resident old new before now result

  -- that a version of this key is loaded: where it may not be, a leaf that was reached has an entry of the key
  pub record TellsLoad {T : Type 0} (given : Key) (result : Result T Refusal) : Type 0 where
    pub causes : Causes M resident old new before now result
    pub there : result ≡ Err Why.Exists → ShowsReached M resident old new before now (HasKey given)

  -- the same of a keep that is set, and that the search takes no memory where enough is there
  pub record TellsKept (given : List ℕ) (result : Result Key Refusal) : Type 0 where
    pub name : IfOk result (λ key. key.name ≡ given)
    pub memory : HasEnough old resident given → result ≡ Err Why.Memory → ⊥
    pub causes : Causes M resident old new before now result

  -- that a version of this key is taken out: a leaf that was reached has an entry of it
  pub record TellsGone {T : Type 0} (given : Key) (result : Result T Refusal) : Type 0 where
    pub causes : Causes M resident old new before now result
    pub found : OnOk result (ShowsReached M resident old new before now (HasKey given))

  -- the key that a version of this key has then, as a version of the name: a leaf that was reached has an entry of the
  -- old one, or lacks it where it is refused as none
  pub record TellsMoved (given : Key) (name : List ℕ) (result : Result Key Refusal) : Type 0 where
    pub named : IfOk result (λ to. to.name ≡ name)
    pub causes : Causes M resident old new before now result
    pub absent : result ≡ Err Why.NoSuch → ShowsReached M resident old new before now (LacksKey given)
    pub found : IfOk result (λ to. ShowsReached M resident old new before now (HasKey given))

  -- an entry of this key, alone or with more; none of its sectors is free
  pub record TellsEntry {T : Type 0} (given : Key) (entry_in : T → Entry) (result : Result T Refusal) : Type 0 where
    pub key : IfOk result (λ x. (entry_in x).key ≡ given)
    pub taken : IfOk result (λ x. IsTaken old (entry_in x))
    pub causes : Causes M resident old new before now result
    pub absent : result ≡ Err Why.NoSuch → ShowsReached M resident old new before now (LacksKey given)
    pub found : IfOk result (λ x. ShowsReached M resident old new before now (HasEntry (entry_in x)))

  -- the entry of the least later key
  pub record TellsNext (after : Option Key) (result : Result (Option Entry) Refusal) : Type 0 where
    pub later : IfOk result (IsLater after)
    pub met : IfOk result (λ found. IfSome found (IsMet new))
    pub causes : Causes M resident old new before now result
    pub absent : IfOk result (λ found. IfNone found (ShowsReached M resident old new before now (LacksLater after)))
    pub found : IfOk result (λ found. IfSome found (ShowsReachedNext M resident old new before now after))

  -- bytes of a version from a place on, for a buffer that has these before and those then
  pub record TellsRange (given : Key) (from : ℕ) (buf then : List ℕ) (result : Result ℕ Refusal) : Type 0 where
    pub most : IfOk result (λ count. count ≤ length buf)
    pub damaged : TellsDamaged M old.layout now result
    pub causes : Causes M resident old new before now result
    pub absent : result ≡ Err Why.NoSuch → ShowsReached M resident old new before now (LacksKey given)
    pub found : IfOk result (λ count. ShowsReached M resident old new before now (HasRange new (M.now before).image given from buf then count))

  -- how many pages are committed, and that each stands in its record; those then in memory are what they were
  pub record TellsForce (then : ℕ → Option (List ℕ)) (result : Result Forced Refusal) : Type 0 where
    pub pages : IfOk result (λ forced. forced.pages ≡ length old.dirty)
    pub pages_kept : IfOk result (λ x. KeepsPages old new resident then)
    pub logged : IfOk result (λ x. M.honest now → AllLogged old new then (M.now now))
    pub causes : Causes M resident old new before now result
    -- what is lost lay so before; what is in memory then was so before, or stands in the log; where no third is entered
    -- again, a force that fails has written nothing
    pub lost : Causes M resident old old before now result
    pub behind : OnOk result (M.honest now → IsBehindForce old new resident then (M.now now))
    pub unwritten : OnErr result (M.tells now → IsFalse (enters_again old) → (M.ledger now).written ≡ (M.ledger before).written)

-- ---- what is healed

-- how many copies were, that all stand twice then, and which twins are lost
pub record TellsTwins (l : Layout) (old new : Moment) (result : Result ℕ Refusal) : Type 0 where
  pub healed : IfOk result (CountsTwins l old)
  pub mended : OnOk result (TwinsStand l new)
  pub lost : IfErr result (LosesTwins l new.image)

-- whether the leader of this entry was, and that it stands then
pub record TellsLeader (e : Entry) (old new : Moment) (result : Result Bool Refusal) : Type 0 where
  pub healed : IfOk result (FindsLeader e old)
  pub led : OnOk result (HasLeader (open_damage new.windows) new.image e)
