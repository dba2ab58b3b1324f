-- What a version that is made and forced is promised.
use Rattle.std.specs.Prelude.{◌≡◌, ℕ, List, length, Some, Result, Ok, Err}
use Rattle.fsd_bytes.specs.declared.key.Key.{Key}
use Rattle.fsd_bytes.specs.declared.refusal.Refusal.{Refusal}
use Rattle.fsd_bytes.specs.declared.refusal.Refusal.TheVariants as Why
use Rattle.sector_disk.specs.Machine.{IsSynced, Moment}
use Rattle.fsd_log.specs.Scan.{Placed}
use Rattle.fsd_sound.specs.Mounted.{Mounted}
use Rattle.volume_contract.specs.State.{State, Known, forced_of}
use Rattle.volume_example.specs.declared.fault.ExampleFault.{ExampleFault}
use Rattle.volume_example.specs.declared.fault.ExampleFault.TheVariants.{Behind, Put, Unsynced}
use Rattle.volume_example.specs.Filling.{HasPut, IsNotPut}

-- a volume that is down refuses, and tells where its force has failed
abbrev pub IsRefusedDown : ℕ → Result Key ExampleFault → Type 0
IsRefusedDown place result = result ≡ Err (Put (Why.Down place))

module _ {S : Type 0} (state : S → State) (has : S → Mounted → List Placed → Type 0) where
  -- It is put, and none of its changes waits.
  pub record IsCommitted (name bytes : List ℕ) (k : Known) (new : S) (now : Moment) (key : Key) : Type 0 where
    pub put : HasPut state has name bytes k new now key
    pub forced : forced_of put.after ≡ length put.after.changes

  -- So it is, and all that was written is on the disk: each stop from here on leaves it.
  pub record IsForGood (name bytes : List ℕ) (k : Known) (new : S) (now : Moment) (key : Key) : Type 0 where
    pub committed : IsCommitted name bytes k new now key
    pub synced : IsSynced now

  -- the force has failed at this place, and the volume is down
  abbrev pub IsDown : S → Refusal → Type 0
  IsDown new (Why.Device s) = (state new).down ≡ Some s
  IsDown new other = ⊥

  abbrev pub EndsForGood : (name bytes : List ℕ) → Known → S → Moment → Result Key ExampleFault → Type 0
  EndsForGood name bytes k new now (Ok key) = IsForGood name bytes k new now key
  EndsForGood name bytes k new now (Err (Put why)) = IsNotPut state has name bytes k new now why
  EndsForGood name bytes k new now (Err (Behind key why)) = IsDown new why
  EndsForGood name bytes k new now (Err (Unsynced key place)) = IsCommitted name bytes k new now key
