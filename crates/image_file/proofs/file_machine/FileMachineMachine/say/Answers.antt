use Rattle.std.proofs.Common.{rules, ap, arith}
use Rattle.image_file.specs.FileMachine.{Told}
use Rattle.image_file.proofs.Reports.{output_fails, no_trust}
use Rattle.image_file.proofs.file_machine.FileMachineMachine.say.Goals as goal

pub returns-in-Ok : goal.returns-in-Ok
returns-in-Ok g c = record {
  cause = search rules;
  trust = no_trust;
  said = λ h. absurd h;
  cut = λ h. absurd h;
  time = λ h. absurd h;
  reached = λ h. absurd h;
  ledger = λ h. absurd h;
}

pub returns-in-Err : goal.returns-in-Err
returns-in-Err g c = record {
  cause = output_fails c.saturating_add-self-inside.result record { place = 0 } (ap (λ (m : Told). m.report) c.self.view_is) (omega arith) c.saturating_add-self-inside.ensures;
  trust = no_trust;
  said = tt {0};
  cut = λ h. absurd h;
  time = λ h. absurd h;
  reached = tt {0};
  ledger = λ h. absurd h;
}
