use Rattle.std.proofs.Common.{Err, sym, ap, ◌∙◌}
use Rattle.alloc_map.specs.declared.no_place.NoPlace.{NoPlace}
use Rattle.volume_laws.proofs.PlaceLaws.{chosen_is, chosen_place, with_refusal}
use Rattle.table_volume.proofs.volume.Volume.chosen.Goals as goal

pub returns-in-Err-NoSpace-clause-place : goal.returns-in-Err-NoSpace-clause-place
returns-in-Err-NoSpace-clause-place c = ap (λ (x : NoPlace). with_refusal (Err x)) (sym c.in-Err-NoSpace.field-0-is) ∙ ap with_refusal (sym c.in-Err-NoSpace.is ∙ c.choose.ensures) ∙ chosen_is c.self.view_is c.args.need

pub returns-in-Err-TooFragmented-clause-place : goal.returns-in-Err-TooFragmented-clause-place
returns-in-Err-TooFragmented-clause-place c = ap (λ (x : NoPlace). with_refusal (Err x)) (sym c.in-Err-TooFragmented.field-0-is) ∙ ap with_refusal (sym c.in-Err-TooFragmented.is ∙ c.choose.ensures) ∙ chosen_is c.self.view_is c.args.need

pub returns-in-Ok-clause-place : goal.returns-in-Ok-clause-place
returns-in-Ok-clause-place c = ap with_refusal (sym c.in-Ok.is ∙ c.choose.ensures) ∙ chosen_is c.self.view_is c.args.need

pub returns-in-Ok-clause-free : goal.returns-in-Ok-clause-free
returns-in-Ok-clause-free c = chosen_place c.self.view_is c.args.need c.in-Ok.runs c.self.invariant c.requires (sym c.choose.ensures ∙ c.in-Ok.is)
