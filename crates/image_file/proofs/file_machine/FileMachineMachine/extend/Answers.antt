use Rattle.std.proofs.Common.{◌∙◌, max, ap}
use Rattle.image_file.specs.FileMachine.{Told}
use Rattle.image_file.proofs.Reports.{disk_goes, disk_fails, no_trust}
use Rattle.image_file.proofs.file_machine.FileMachineMachine.extend.Goals as goal

pub returns-in-Ok : goal.returns-in-Ok
returns-in-Ok g c = record {
  cause = disk_goes c.max-self-inside.result 0 (tt {0}) (ap (λ (m : Told). m.report) c.self.view_is);
  sectors = c.max-self-inside.ensures ∙ ap (λ (m : Told). max m.report.sectors c.args.sectors) c.self.view_is;
  sectors_err = tt {0};
  trust = no_trust;
  extended = λ h. absurd h;
  synced = λ h. absurd h;
  failed = tt {0};
  time = λ h. absurd h;
  reached = λ h. absurd h;
  ledger = λ h. absurd h;
}

pub returns-in-Err : goal.returns-in-Err
returns-in-Err g c = record {
  cause = disk_fails 0 c.disk_fault.result (ap (λ (m : Told). m.report) c.self.view_is) c.disk_fault.ensures.place c.disk_fault.ensures.fault c.disk_fault.ensures.uses;
  sectors = tt {0};
  sectors_err = c.disk_fault.ensures.uses.sectors ∙ ap (λ (m : Told). m.report.sectors) c.self.view_is;
  trust = no_trust;
  extended = tt {0};
  synced = tt {0};
  failed = λ h. absurd h;
  time = λ h. absurd h;
  reached = tt {0};
  ledger = λ h. absurd h;
}
