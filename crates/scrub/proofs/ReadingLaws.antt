-- Calls that only read a volume.
use Rattle.std.proofs.Common.{ℕ, List, Option, None, ◌∙◌}
use Rattle.sector_disk.specs.declared.machine.Machine.{Ghosts}
use Rattle.sector_disk.proofs.CallLaws.{reads_then}
use Rattle.fsd_log.specs.Scan.{Placed}
use Rattle.fsd_sound.specs.Mounted.{Mounted}
use Rattle.volume_contract.specs.State.{State}
use Rattle.scrub.specs.Reading.{ReadsVolume}

module _ {D S : Type 0} {M : Ghosts D} {state : S → State} {has : S → Mounted → List Placed → Type 0} {v x w : S} {a b c : D} where
  -- two of them
  pub volume_read_then : {fault : Option ℕ} → ReadsVolume M state has None v x a b → ReadsVolume M state has fault x w b c → ReadsVolume M state has fault v w a c
  volume_read_then first second = record {
    disk = reads_then first.disk second.disk;
    same = second.same ∙ first.same;
    stands = λ h k stands. second.stands h k (first.stands (second.disk.trust.honest h) k stands);
  }
