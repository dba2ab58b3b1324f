use Rattle.std.proofs.Common.{◌∙◌, ℕ, Ok, None, Option, Result, Some, ap, arith, subst}
use Rattle.std.specs.Prelude.{IfOk}
use Rattle.name_btree.specs.declared.fault.TreeFault.{TreeFault}
use Rattle.name_btree.specs.declared.lookup.FoundEntry.{FoundEntry}
use Rattle.name_btree.specs.Fault.{IsAmong}
use Rattle.name_btree.specs.Lookup.{TellsAt}
use Rattle.fsd_files.specs.Answers.{entry_of}
use Rattle.name_page.specs.Lookups.{entry_with}
use Rattle.name_page.specs.Pages.{reaches}
use Rattle.name_page.proofs.LookLaws.{rest_reaches}
use Rattle.version_table.proofs.EditLaws.{with_is}
use Rattle.version_table.proofs.StepLaws.{among_rested, found_rested}
use Rattle.version_table.proofs.finding.version_at.Goals as goal

pub returns-in-Ok-Some-clause-walks : goal.returns-in-Ok-Some-clause-walks
returns-in-Ok-Some-clause-walks g c = rest_reaches g.T.Pages g.met.T.Pages.then g.met.T.Pages.trust c.args.t.now c.rest.new.self c.find.new.t c.rest.ensures.outside c.rest.ensures.step c.in-Ok-Some.ensures.calls

pub returns-in-Ok-None-clause-walks : goal.returns-in-Ok-None-clause-walks
returns-in-Ok-None-clause-walks g c = rest_reaches g.T.Pages g.met.T.Pages.then g.met.T.Pages.trust c.args.t.now c.rest.new.self c.find.new.t c.rest.ensures.outside c.rest.ensures.step c.in-Ok-None.ensures.calls

pub returns-in-Err-clause-walks : goal.returns-in-Err-clause-walks
returns-in-Err-clause-walks g c = rest_reaches g.T.Pages g.met.T.Pages.then g.met.T.Pages.trust c.args.t.now c.rest.new.self c.find.new.t c.rest.ensures.outside c.rest.ensures.step c.in-Err.ensures.calls

pub returns-in-Err-clause-among : goal.returns-in-Err-clause-among
returns-in-Err-clause-among g c = among_rested g.T.Pages c.args.t.now c.rest.new.self c.find.new.t c.rest.ensures.step (λ (pages : ℕ). IsAmong pages c.in-Err.fault) c.in-Err.ensures.failed.among

pub find-requires : goal.find-requires
find-requires g c = omega (arith, c.requires, ap reaches c.rest.ensures.step)

pub returns-in-Ok-Some-clause-found : goal.returns-in-Ok-Some-clause-found
returns-in-Ok-Some-clause-found g c =
    let key = c.args.key.now in
    found_rested g.T.Pages c.args.t.now c.rest.new.self c.find.new.t c.rest.ensures.step (entry_with key) (entry_of key) (with_is key) c.find.result (Some c.in-Ok-Some.found) (c.in-Ok-Some.is ∙ ap Ok c.in-Ok-Some.field-0-is) c.find.ensures.found

pub returns-in-Ok-None-clause-fault : goal.returns-in-Ok-None-clause-fault
returns-in-Ok-None-clause-fault g c =
    let key = c.args.key.now in
    found_rested g.T.Pages c.args.t.now c.rest.new.self c.find.new.t c.rest.ensures.step (entry_with key) (entry_of key) (with_is key) c.find.result None (c.in-Ok-None.is ∙ ap Ok c.in-Ok-None.field-0-is) c.find.ensures.found

pub returns-in-Ok-Some-clause-met : goal.returns-in-Ok-Some-clause-met
returns-in-Ok-Some-clause-met g c =
    subst (λ (r : Result (Option FoundEntry) TreeFault). IfOk r (TellsAt (g.T.Pages.step c.find.new.t) c.args.key.now)) (c.in-Ok-Some.is ∙ ap Ok c.in-Ok-Some.field-0-is) c.find.ensures.told

pub returns-in-Err-clause-fault : goal.returns-in-Err-clause-fault
returns-in-Err-clause-fault g c = c.in-Err.ensures.failed.cause

pub returns-in-Err-clause-shown : goal.returns-in-Err-clause-shown
returns-in-Err-clause-shown g c = c.in-Err.ensures.failed.shown

-- ---- where there is none

pub returns-in-Ok-None-clause-absent : goal.returns-in-Ok-None-clause-absent
returns-in-Ok-None-clause-absent g c = λ told.
    subst (λ (r : Result (Option FoundEntry) TreeFault). IfOk r (TellsAt (g.T.Pages.step c.find.new.t) c.args.key.now)) (c.in-Ok-None.is ∙ ap Ok c.in-Ok-None.field-0-is) c.find.ensures.told

pub returns-in-Ok-Some-clause-absent : goal.returns-in-Ok-Some-clause-absent
returns-in-Ok-Some-clause-absent g c = λ told. absurd (cc told)

pub returns-in-Err-clause-absent : goal.returns-in-Err-clause-absent
returns-in-Err-clause-absent g c = λ told. absurd (cc told)
