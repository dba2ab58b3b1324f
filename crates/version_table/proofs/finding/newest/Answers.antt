use Rattle.std.proofs.Common.{◌∙◌, ℕ, Ok, None, Option, Result, Some, ap, arith, subst}
use Rattle.std.specs.Prelude.{IfOk, IfSome}
use Rattle.name_btree.specs.declared.fault.TreeFault.{TreeFault}
use Rattle.name_btree.specs.declared.lookup.FoundEntry.{FoundEntry}
use Rattle.name_btree.specs.Fault.{IsAmong}
use Rattle.name_btree.specs.Lookup.{TellsNewest}
use Rattle.name_btree.specs.Path.{HasWayTo}
use Rattle.fsd_files.specs.Answers.{highest_entry}
use Rattle.name_page.specs.Lookups.{highest_of}
use Rattle.name_page.specs.Pages.{reaches}
use Rattle.name_page.proofs.LookLaws.{memory_then, no_more_rested, rest_reaches}
use Rattle.version_table.proofs.VersionLaws.{highest_is}
use Rattle.version_table.proofs.StepLaws.{among_rested, found_rested, path_later}
use Rattle.version_table.proofs.finding.newest.Goals as goal

pub returns-in-Ok-Some-clause-walks : goal.returns-in-Ok-Some-clause-walks
returns-in-Ok-Some-clause-walks g c = rest_reaches g.T.Pages g.met.T.Pages.then g.met.T.Pages.trust c.args.t.now c.rest.new.self c.highest.new.t c.rest.ensures.outside c.rest.ensures.step c.in-Ok-Some.ensures.calls

pub returns-in-Ok-None-clause-walks : goal.returns-in-Ok-None-clause-walks
returns-in-Ok-None-clause-walks g c = rest_reaches g.T.Pages g.met.T.Pages.then g.met.T.Pages.trust c.args.t.now c.rest.new.self c.highest.new.t c.rest.ensures.outside c.rest.ensures.step c.in-Ok-None.ensures.calls

pub returns-in-Err-clause-walks : goal.returns-in-Err-clause-walks
returns-in-Err-clause-walks g c = rest_reaches g.T.Pages g.met.T.Pages.then g.met.T.Pages.trust c.args.t.now c.rest.new.self c.highest.new.t c.rest.ensures.outside c.rest.ensures.step c.in-Err.ensures.calls

pub highest-requires : goal.highest-requires
highest-requires g c = omega (arith, c.requires, ap reaches c.rest.ensures.step)

pub returns-in-Err-clause-failed : goal.returns-in-Err-clause-failed
returns-in-Err-clause-failed g c = record {
  among = among_rested g.T.Pages c.args.t.now c.rest.new.self c.highest.new.t c.rest.ensures.step (λ (pages : ℕ). IsAmong pages c.in-Err.fault) c.in-Err.ensures.failed.among;
  cause = c.in-Err.ensures.failed.cause;
}

pub returns-in-Ok-None-clause-failed : goal.returns-in-Ok-None-clause-failed
returns-in-Ok-None-clause-failed g c =
    let name = c.args.name.now in
    record {
      among = λ some. tt;
      cause = found_rested g.T.Pages c.args.t.now c.rest.new.self c.highest.new.t c.rest.ensures.step (highest_of name) (highest_entry name) (highest_is name) c.highest.result None (c.in-Ok-None.is ∙ ap Ok c.in-Ok-None.field-0-is) c.highest.ensures.found;
    }

pub returns-in-Ok-Some-clause-found : goal.returns-in-Ok-Some-clause-found
returns-in-Ok-Some-clause-found g c =
    let name = c.args.name.now in
    record {
      met = subst (λ (r : Result (Option FoundEntry) TreeFault). IfOk r (TellsNewest (g.T.Pages.step c.highest.new.t) c.args.name.now)) (c.in-Ok-Some.is ∙ ap Ok c.in-Ok-Some.field-0-is) c.highest.ensures.told;
      highest = found_rested g.T.Pages c.args.t.now c.rest.new.self c.highest.new.t c.rest.ensures.step (highest_of name) (highest_entry name) (highest_is name) c.highest.result (Some c.in-Ok-Some.found) (c.in-Ok-Some.is ∙ ap Ok c.in-Ok-Some.field-0-is) c.highest.ensures.found;
    }

-- ---- memory is not wanting

pub returns-in-Ok-Some-clause-memory : goal.returns-in-Ok-Some-clause-memory
returns-in-Ok-Some-clause-memory g c = λ path.
    let P = g.T.Pages in
    let new = c.highest.new.t in
    let stays = c.highest.ensures.memory (path_later P c.args.t.now c.rest.new.self c.rest.ensures.memory c.args.name.now path) in
    record {
      none = memory_then P c.args.t.now c.rest.new.self new c.rest.ensures.memory (rw c.in-Ok-Some.is at stays.none);
      back = subst (λ (r : Result (Option FoundEntry) TreeFault). IfOk r (λ found. IfSome found (λ f. HasWayTo P f.entry new))) (c.in-Ok-Some.is ∙ ap Ok c.in-Ok-Some.field-0-is) stays.back;
    }

pub returns-in-Ok-None-clause-memory : goal.returns-in-Ok-None-clause-memory
returns-in-Ok-None-clause-memory g c = λ path. record {
  none = memory_then g.T.Pages c.args.t.now c.rest.new.self c.highest.new.t c.rest.ensures.memory (rw c.in-Ok-None.is at (c.highest.ensures.memory (path_later g.T.Pages c.args.t.now c.rest.new.self c.rest.ensures.memory c.args.name.now path)).none);
  back = tt;
}

pub returns-in-Err-clause-memory : goal.returns-in-Err-clause-memory
returns-in-Err-clause-memory g c = λ path. record {
  none = memory_then g.T.Pages c.args.t.now c.rest.new.self c.highest.new.t c.rest.ensures.memory (rw c.in-Err.is at (c.highest.ensures.memory (path_later g.T.Pages c.args.t.now c.rest.new.self c.rest.ensures.memory c.args.name.now path)).none);
  back = tt;
}

pub returns-in-Ok-Some-clause-full : goal.returns-in-Ok-Some-clause-full
returns-in-Ok-Some-clause-full g c = no_more_rested g.T.Pages c.args.t.now c.rest.new.self c.highest.new.t c.rest.ensures.memory (rw c.in-Ok-Some.is at c.highest.ensures.calls.memory)

pub returns-in-Ok-None-clause-full : goal.returns-in-Ok-None-clause-full
returns-in-Ok-None-clause-full g c = no_more_rested g.T.Pages c.args.t.now c.rest.new.self c.highest.new.t c.rest.ensures.memory (rw c.in-Ok-None.is at c.highest.ensures.calls.memory)

pub returns-in-Err-clause-full : goal.returns-in-Err-clause-full
returns-in-Err-clause-full g c = no_more_rested g.T.Pages c.args.t.now c.rest.new.self c.highest.new.t c.rest.ensures.memory (rw c.in-Err.is at c.highest.ensures.calls.memory)

-- ---- where there is none

pub returns-in-Ok-None-clause-absent : goal.returns-in-Ok-None-clause-absent
returns-in-Ok-None-clause-absent g c = λ told.
    subst (λ (r : Result (Option FoundEntry) TreeFault). IfOk r (TellsNewest (g.T.Pages.step c.highest.new.t) c.args.name.now)) (c.in-Ok-None.is ∙ ap Ok c.in-Ok-None.field-0-is) c.highest.ensures.told

pub returns-in-Ok-Some-clause-absent : goal.returns-in-Ok-Some-clause-absent
returns-in-Ok-Some-clause-absent g c = λ told. absurd (cc told)

pub returns-in-Err-clause-absent : goal.returns-in-Err-clause-absent
returns-in-Err-clause-absent g c = λ told. absurd (cc told)
