-- What a creation that becomes a version makes of a volume.
use Rattle.std.specs.Prelude.{◌≡◌, ◌&&◌, ℕ, not, List, Option, Result, Ok, Err}
use Rattle.run_table.specs.declared.run.Run.{Run}
use Rattle.run_table.specs.RunTable.{sectors_of}
use Rattle.run_table.specs.Space.{contains}
use Rattle.fsd_bytes.specs.declared.key.Key.{Key}
use Rattle.fsd_bytes.specs.declared.refusal.Refusal.{Refusal}
use Rattle.fsd_formats.specs.declared.entry.Entry.{Entry}
use Rattle.sector_disk.specs.Machine.{Moment}
use Rattle.volume_contract.specs.declared.token.Draft.{Draft}
use Rattle.volume_contract.specs.Pieces.{ended, with_opened}
use Rattle.volume_contract.specs.State.{Known, State}
use Rattle.volume_laws.specs.Entered.{EndsEntered, StandsEntered}
use Rattle.volume_laws.specs.Volume.{VolumeValue}

-- the creation that has this entry
abbrev pub draft_of : Entry → Draft
draft_of e = record { length = e.length; serial = e.serial; runs = e.runs }

-- What stays where a creation is entered: its sectors are no unfinished creation's any more.
pub record Completes (runs : List Run) (old new : State) : Type 0 where
  pub layout : new.layout ≡ old.layout
  pub serial : new.serial ≡ old.serial
  pub anchor : new.anchor ≡ old.anchor
  pub head : new.head ≡ old.head
  pub slots : new.slots ≡ old.slots
  pub readers : new.readers ≡ old.readers
  pub unfinished : (t : ℕ) → contains new.unfinished t ≡ (contains old.unfinished t && not (contains (sectors_of runs) t))
  pub down : new.down ≡ old.down

-- it stands with the version and without the creation, or as it was: as where a version is entered
abbrev pub EndsComplete : List ℕ → Option ℕ → List ℕ → Entry → Known → VolumeValue → Moment → Result Key Refusal → Type 0
EndsComplete name given bytes e k new now (Ok key) = StandsEntered name given bytes e (with_opened k (ended k.opened e.runs)) new now key
EndsComplete name given bytes e k new now (Err why) = EndsEntered name given bytes e k new now (Err why)
