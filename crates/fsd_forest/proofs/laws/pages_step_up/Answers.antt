use Rattle.fsd_forest.proofs.StepLaws.{steps_up, page_steps_up, sides_stay, page_sides_stay}
use Rattle.fsd_forest.proofs.laws.pages_step_up.Goals as goal

pub returns : goal.returns
returns c = record { steps_up = steps_up; page_steps_up = page_steps_up; sides_stay = sides_stay; page_sides_stay = page_sides_stay }
