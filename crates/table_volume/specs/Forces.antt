-- What calls that may force keep of a volume, and what they tell, whatever they answer.
use Rattle.std.specs.Prelude.{◌≡◌, ◌≤◌, ℕ, List, length, Result, IsFalse, IsTrue, OnOk}
use Rattle.run_table.specs.Space.{contains}
use Rattle.fsd_bytes.specs.declared.refusal.Refusal.{Refusal}
use Rattle.sector_disk.specs.declared.machine.Machine.{Ghosts}
use Rattle.table_pages.specs.Bringing.{KeepsContent}
use Rattle.volume_contract.specs.declared.files.Forced.{Forced}
use Rattle.volume_contract.specs.Behind.{IsBehindForce}
use Rattle.volume_contract.specs.Causes.{Causes}
use Rattle.volume_contract.specs.Order.{CallStep, KeepsBy, force_steps, is_idle}
use Rattle.volume_contract.specs.State.{IsForced, forces_first}
use Rattle.volume_laws.specs.Preparing.{ForcesByItself}
use Rattle.volume_laws.specs.State.{resident, state}
use Rattle.volume_laws.specs.Volume.{VolumeValue}

-- Where a test of these steps ends the call, or there is nothing to do, the machine stays as it was. What is told as
-- lost or as unsound is so, and what is in memory then was so before, or stands in the log.
pub record TellsBehind {D T : Type 0} (M : Ghosts D) (steps : List CallStep) (old new : VolumeValue) (before now : D) (result : Result T Refusal) : Type 0 where
  pub idle : IsTrue (is_idle steps) → now ≡ before
  pub causes : Causes M (resident old) (state old) (state new) before now result
  pub behind : OnOk result (M.honest now → IsBehindForce (state old) (state new) (resident old) (resident new) (M.now now))

-- It has forced, and where it has refused it is as the steps leave it; the pages in memory are what they were.
pub record KeepsOverForce (old new : VolumeValue) (result : Result Forced Refusal) : Type 0 where
  pub by_steps : KeepsBy (force_steps (state old)) IsForced (state old) (state new) result
  pub resident : OnOk result (KeepsContent old.cache new.cache)

-- It has forced where many pages wait, and is as it was where few do. Few pages wait then; what was free is free, and
-- the pages in memory are what they were.
pub record ForcesFirst (old new : VolumeValue) (result : Result (Unit {0}) Refusal) : Type 0 where
  pub forces : ForcesByItself (state old) (state new) result
  pub still : IsFalse (forces_first (state old)) → new ≡ old
  pub few : OnOk result (length new.cache.dirty ≤ 56)
  pub free : OnOk result ((s : ℕ) → IsTrue (contains old.map.sectors s) → IsTrue (contains new.map.sectors s))
  pub resident : OnOk result (KeepsContent old.cache new.cache)
