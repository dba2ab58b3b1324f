use Rattle.std.proofs.Common.{◌∙◌, ap}
use Rattle.image_file.specs.FileMachine.{Told}
use Rattle.image_file.proofs.Reports.{disk_goes, disk_fails_there, no_trust}
use Rattle.image_file.proofs.file_machine.FileMachineMachine.sync.Goals as goal

pub returns-in-Ok : goal.returns-in-Ok
returns-in-Ok g c = record {
  cause = disk_goes c.self.inside.sectors 0 (tt {0}) (ap (λ (m : Told). m.report) c.self.view_is);
  sectors = ap (λ (m : Told). m.report.sectors) c.self.view_is;
  trust = no_trust;
  worn = λ h. absurd h;
  synced = λ h. absurd h;
  time = λ h. absurd h;
  reached = λ h. absurd h;
  counted = λ h. absurd h;
  counted_err = tt {0};
}

pub returns-in-Err : goal.returns-in-Err
returns-in-Err g c = record {
  cause = disk_fails_there c.in-Err.place c.disk_fault.result (ap (λ (m : Told). m.report) c.self.view_is) c.disk_fault.ensures.place c.disk_fault.ensures.fault c.disk_fault.ensures.uses;
  sectors = c.disk_fault.ensures.uses.sectors ∙ ap (λ (m : Told). m.report.sectors) c.self.view_is;
  trust = no_trust;
  worn = λ h. absurd h;
  synced = tt {0};
  time = λ h. absurd h;
  reached = tt {0};
  counted = tt {0};
  counted_err = λ h. absurd h;
}
