-- What a version that is entered or loaded makes of a volume.
use Rattle.std.specs.Prelude.{◌≡◌, ℕ, List, [], ◌∷◌, ◌++◌, Option, Some, None, Result, Ok, Err}
use Rattle.fsd_bytes.specs.declared.key.Key.{Key}
use Rattle.fsd_bytes.specs.declared.refusal.Refusal.{Refusal}
use Rattle.fsd_bytes.specs.declared.refusal.Refusal.TheVariants as Why
use Rattle.sector_disk.specs.Image.{open_damage}
use Rattle.sector_disk.specs.Machine.{Moment}
use Rattle.fsd_formats.specs.declared.entry.Entry.{Entry}
use Rattle.fsd_files.specs.Answers.{HasVersion, enter_fault, entry_of, load_fault, loaded_entry, new_entry, with_loaded, with_version}
use Rattle.fsd_files.specs.Files.{Change, new_key}
use Rattle.fsd_files.specs.Volume.{Volume}
use Rattle.volume_contract.specs.Order.{CallStep, Asks, Fetch, LookUp, table_full}
use Rattle.volume_contract.specs.State.{Known, Stands, State, volume_of}
use Rattle.volume_laws.specs.State.{IsMemoryOf, state}
use Rattle.volume_laws.specs.Volume.{VolumeValue}

-- from the look-up on, which may show that the version can't be
abbrev pub making_look : (asks : List CallStep) → State → List CallStep
making_look asks s = LookUp ∷ asks ++ table_full s ∷ Fetch ∷ []

abbrev pub entering_asks : List CallStep
entering_asks = Asks Why.VersionsUsedUp ∷ []

abbrev pub loading_asks : List CallStep
loading_asks = Asks Why.Exists ∷ Asks Why.VersionsUsedUp ∷ []

-- of a version that is the next of its name
abbrev pub entering_steps : State → List CallStep
entering_steps s = making_look entering_asks s

-- of one whose key is given
abbrev pub loading_steps : State → List CallStep
loading_steps s = making_look loading_asks s

-- What stays where a version is entered.
pub record KeepsOnEnter (old new : State) : Type 0 where
  pub layout : new.layout ≡ old.layout
  pub serial : new.serial ≡ old.serial
  pub anchor : new.anchor ≡ old.anchor
  pub head : new.head ≡ old.head
  pub slots : new.slots ≡ old.slots
  pub readers : new.readers ≡ old.readers
  pub unfinished : new.unfinished ≡ old.unfinished
  pub down : new.down ≡ old.down

-- It stands with one version more, of this entry, as a change makes it; the bytes and the leader of its draft stand as they
-- did.
pub record StandsMade (change : Change) (becomes : ℕ → Volume) (made : Entry) (bytes : List ℕ) (draft : Entry) (k : Known) (new : VolumeValue) (now : Moment) : Type 0 where
  pub after : Known
  pub reached : ℕ
  pub volume : volume_of after ≡ becomes reached
  pub opened : after.opened ≡ k.opened
  pub windows : after.windows ≡ k.windows
  pub changes : after.changes ≡ k.changes ++ change ∷ []
  pub stands : Stands state IsMemoryOf new after now
  pub entered : entry_of made.key (volume_of after).entries ≡ Some made
  pub written : HasVersion (open_damage now.windows) now.image bytes draft

-- so it does with the next version of a name, whose key this is
pub record StandsEntered (name : List ℕ) (given : Option ℕ) (bytes : List ℕ) (draft : Entry) (k : Known) (new : VolumeValue) (now : Moment) (key : Key) : Type 0 where
  pub none : enter_fault (volume_of k) name ≡ None
  pub key_is : key ≡ new_key name (volume_of k).files
  pub made : StandsMade (Change.Put name given bytes) (λ r. with_version (volume_of k) name bytes given draft.runs draft.serial r) (new_entry (volume_of k) name bytes given draft.runs draft.serial) bytes draft k new now

-- so it does with a version of a given key
pub record StandsLoaded (key : Key) (keep : ℕ) (bytes : List ℕ) (draft : Entry) (k : Known) (new : VolumeValue) (now : Moment) : Type 0 where
  pub none : load_fault (volume_of k) key ≡ None
  pub made : StandsMade (Change.Load key keep bytes) (λ r. with_loaded (volume_of k) key keep bytes draft.runs draft.serial r) (loaded_entry key keep bytes draft.runs draft.serial) bytes draft k new now

-- it is made, or it stands as it was: a fault from outside, or this one
abbrev pub EndsMade : {T : Type 0} → (fault : Option Refusal) → (Made : T → Type 0) → Known → VolumeValue → Moment → Result T Refusal → Type 0
EndsMade fault Made k new now (Ok x) = Made x
EndsMade fault Made k new now (Err (Why.Device s)) = Stands state IsMemoryOf new k now
EndsMade fault Made k new now (Err Why.Memory) = Stands state IsMemoryOf new k now
EndsMade fault Made k new now (Err why) = (fault ≡ Some why) × Stands state IsMemoryOf new k now

-- so it is by the definitions of a put, and of a load
abbrev pub EndsEntered : List ℕ → Option ℕ → List ℕ → Entry → Known → VolumeValue → Moment → Result Key Refusal → Type 0
EndsEntered name given bytes draft k new now result = EndsMade (enter_fault (volume_of k) name) (StandsEntered name given bytes draft k new now) k new now result

abbrev pub EndsLoaded : {T : Type 0} → Key → (keep : ℕ) → List ℕ → Entry → Known → VolumeValue → Moment → Result T Refusal → Type 0
EndsLoaded key keep bytes draft k new now result = EndsMade (load_fault (volume_of k) key) (λ x. StandsLoaded key keep bytes draft k new now) k new now result
