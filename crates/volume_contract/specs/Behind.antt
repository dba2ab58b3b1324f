-- What is known behind a force of what was in memory before it.
use Rattle.std.specs.Prelude.{◌≡◌, ◌⊎◌, ℕ, List, Option, Some}
use Rattle.fsd_formats.specs.declared.entry.Entry.{Entry}
use Rattle.sector_disk.specs.Machine.{Moment}
use Rattle.fsd_sound.specs.Logged.{StandsLogged}
use Rattle.volume_contract.specs.Causes.{HasUntaken}
use Rattle.volume_contract.specs.State.{State}

-- Of what the volume has in memory and tells now, all was so before, or stands in the log.
pub record IsBehindForce (s t : State) (before after : ℕ → Option (List ℕ)) (now : Moment) : Type 0 where
  pub layout : t.layout ≡ s.layout
  pub free_pages : t.free_pages ≡ s.free_pages
  pub pages : (page : ℕ) (bytes : List ℕ) → after page ≡ Some bytes → (before page ≡ Some bytes) ⊎ StandsLogged t.layout t.slots now page bytes
  pub untaken : (e : Entry) → HasUntaken t e → HasUntaken s e
