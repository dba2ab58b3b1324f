use Rattle.std.proofs.Common.{rules, ap, arith}
use Rattle.image_file.specs.FileMachine.{Told}
use Rattle.image_file.proofs.Reports.{input_fails, no_trust}
use Rattle.image_file.proofs.file_machine.FileMachineMachine.take.Goals as goal

pub returns-in-Ok : goal.returns-in-Ok
returns-in-Ok g c = record {
  cause = search rules;
  room = search rules;
  trust = no_trust;
  worn = λ h. absurd h;
  time = λ h. absurd h;
  reached = λ h. absurd h;
  taken = λ h. absurd h;
  left = λ h. absurd h;
  left_err = tt {0};
}

pub returns : goal.returns
returns g c = record {
  cause = input_fails c.saturating_add-self-inside.result record { place = 0 } (ap (λ (m : Told). m.report) c.self.view_is) (omega arith) c.saturating_add-self-inside.ensures;
  room = tt {0};
  trust = no_trust;
  worn = λ h. absurd h;
  time = λ h. absurd h;
  reached = tt {0};
  taken = tt {0};
  left = tt {0};
  left_err = λ h. absurd h;
}
