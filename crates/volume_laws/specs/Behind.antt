-- What is known of a volume between two stages of a call, of what was in memory before the first.
use Rattle.std.specs.Prelude.{◌≡◌, ◌⊎◌, ℕ, ◌<◌, List, Option, Some}
use Rattle.fsd_formats.specs.declared.entry.Entry.{Entry}
use Rattle.sector_disk.specs.Machine.{Moment}
use Rattle.volume_contract.specs.Causes.{HasUntaken, StoodInCopy}
use Rattle.volume_contract.specs.State.{State}

-- Of what the volume has in memory and tells now, all was so before, or stood in a copy.
pub record IsBehind (s t : State) (before after : ℕ → Option (List ℕ)) (old now : Moment) : Type 0 where
  pub layout : t.layout ≡ s.layout
  pub free_pages : t.free_pages ≡ s.free_pages
  pub pages : (page : ℕ) (bytes : List ℕ) → page < t.layout.pages → after page ≡ Some bytes → (before page ≡ Some bytes) ⊎ StoodInCopy s t old now page bytes
  pub untaken : (e : Entry) → HasUntaken t e → HasUntaken s e
