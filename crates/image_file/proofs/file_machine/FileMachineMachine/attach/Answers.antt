use Rattle.std.proofs.Common.{◌∙◌, refl, ap}
use Rattle.image_file.specs.FileMachine.{Told}
use Rattle.image_file.proofs.Reports.{disk_goes, disk_fails, no_trust}
use Rattle.image_file.proofs.file_machine.FileMachineMachine.attach.Goals as goal

pub returns-in-Ok : goal.returns-in-Ok
returns-in-Ok g c = record {
  cause = disk_goes c.in-Ok.sectors 0 c.in-Ok.sectors (ap (λ (m : Told). m.report) c.self.view_is);
  sectors = refl;
  sectors_err = tt {0};
  trust = no_trust;
  made = c.in-Ok.ensures.made;
  attached = λ h. absurd h;
  synced = λ h. absurd h;
  size = λ h. absurd h;
  failed = tt {0};
  time = λ h. absurd h;
  reached = λ h. absurd h;
  asked = λ h. absurd h;
  asked_err = tt {0};
}

pub returns-in-Err : goal.returns-in-Err
returns-in-Err g c = record {
  cause = disk_fails 0 c.disk_fault.result (ap (λ (m : Told). m.report) c.self.view_is) c.disk_fault.ensures.place c.disk_fault.ensures.fault c.disk_fault.ensures.uses;
  sectors = tt {0};
  sectors_err = c.disk_fault.ensures.uses.sectors ∙ ap (λ (m : Told). m.report.sectors) c.self.view_is;
  trust = no_trust;
  made = tt {0};
  attached = tt {0};
  synced = tt {0};
  size = tt {0};
  failed = λ h. absurd h;
  time = λ h. absurd h;
  reached = tt {0};
  asked = tt {0};
  asked_err = λ h. absurd h;
}
