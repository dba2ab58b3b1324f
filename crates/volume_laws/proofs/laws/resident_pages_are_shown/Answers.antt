use Rattle.volume_laws.proofs.laws.resident_pages_are_shown.Goals as goal

pub returns : goal.returns
returns c = λ v mounted records page bytes holds there. holds.pages page bytes there
