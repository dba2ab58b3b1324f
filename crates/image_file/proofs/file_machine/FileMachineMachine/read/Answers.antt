use Rattle.std.proofs.Common.{◌∙◌, refl, ap}
use Rattle.image_file.specs.FileMachine.{Told}
use Rattle.image_file.proofs.Reports.{disk_goes, disk_fails, no_trust}
use Rattle.sector_disk.specs.declared.machine.Seen.TheVariants.{Whole, Damaged}
use Rattle.image_file.proofs.file_machine.FileMachineMachine.read.Goals as goal

pub returns-in-Ok-Some : goal.returns-in-Ok-Some
returns-in-Ok-Some g c = record {
  cause = disk_goes c.self.inside.sectors c.args.sector Whole (ap (λ (m : Told). m.report) c.self.view_is);
  sectors = ap (λ (m : Told). m.report.sectors) c.self.view_is;
  trust = no_trust;
  worn = λ h. absurd h;
  shown = λ h. absurd h;
  kept = λ e. cc;
  time = λ h. absurd h;
  reached = λ h. absurd h;
  ledger = λ h. absurd h;
}

pub returns-in-Ok-None : goal.returns-in-Ok-None
returns-in-Ok-None g c = record {
  cause = disk_goes c.self.inside.sectors c.args.sector Damaged (ap (λ (m : Told). m.report) c.self.view_is);
  sectors = ap (λ (m : Told). m.report.sectors) c.self.view_is;
  trust = no_trust;
  worn = λ h. absurd h;
  shown = λ h. absurd h;
  kept = λ e. refl;
  time = λ h. absurd h;
  reached = λ h. absurd h;
  ledger = λ h. absurd h;
}

pub returns-in-Err : goal.returns-in-Err
returns-in-Err g c = record {
  cause = disk_fails c.args.sector c.disk_fault.result (ap (λ (m : Told). m.report) c.self.view_is) c.disk_fault.ensures.place c.disk_fault.ensures.fault c.disk_fault.ensures.uses;
  sectors = c.disk_fault.ensures.uses.sectors ∙ ap (λ (m : Told). m.report.sectors) c.self.view_is;
  trust = no_trust;
  worn = λ h. absurd h;
  shown = tt {0};
  kept = λ e. cc;
  time = λ h. absurd h;
  reached = tt {0};
  ledger = λ h. absurd h;
}
