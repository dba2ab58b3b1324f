use Rattle.std.proofs.Common.{List, Bool, length, ap, sym, ◌∙◌, refl, rules}
use Rattle.std.specs.Borrow.{MutBor}
use Rattle.cached_table.proofs.LeftLaws.{left_as}
use Rattle.cached_table.proofs.SurveyLaws.{as_long, fails_of, surveys_left, told_of}
use Rattle.cached_table.proofs.surveying.survey_in.Goals as goal

pub survey-counts-requires-clause-whole : goal.survey-counts-requires-clause-whole
survey-counts-requires-clause-whole g c = c.requires.whole ∙ sym (as_long c.new-table.result ∙ ap (λ (f : MutBor (List Bool)). length f.now) c.new-table.ensures.over.spared)

pub returns-clause-only : goal.returns-clause-only
returns-clause-only g c = let calls = c.survey-counts.ensures.calls in surveys_left c.new-table.ensures.over c.new-table.ensures.step calls.spares calls.home_a calls.changed calls.stays calls.outside (left_as c.rest.ensures.left (search rules) (search rules) refl)

pub returns-clause-told : goal.returns-clause-told
returns-clause-told g c =
    let calls = c.survey-counts.ensures.calls in
    told_of c.new-table.ensures.over c.new-table.ensures.step calls.spares calls.home_a calls.changed calls.stays calls.outside (left_as c.rest.ensures.left (search rules) refl refl) _ _ _ c.survey-counts.result c.survey-counts.ensures.surveys

pub returns-clause-fault : goal.returns-clause-fault
returns-clause-fault g c = let calls = c.survey-counts.ensures.calls in fails_of c.new-table.ensures.over c.new-table.ensures.step calls.spares calls.home_a calls.changed calls.stays calls.outside (left_as c.rest.ensures.left (search rules) refl refl) _ c.requires.some c.survey-counts.result c.survey-counts.ensures.fault c.survey-counts.ensures.among
