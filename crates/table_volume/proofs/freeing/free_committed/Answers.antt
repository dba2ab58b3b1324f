use Rattle.std.proofs.Common.{sym, subst, rules}
use Rattle.sector_set.specs.Area.{Area}
use Rattle.volume_laws.proofs.FreeLaws.{Frees, frees_first, frees_next, kept_all, run_out}
use Rattle.table_volume.proofs.freeing.free_committed.Goals as goal

pub loop-start-init : goal.loop-start-init
loop-start-init c = frees_first c.args.map.now c.args.shadow.now c.requires.own c.requires.from c.requires.to c.requires.apart

pub release_between-requires-clause-out : goal.release_between-requires-clause-out
release_between-requires-clause-out c =
    run_out c.args.map.now c.args.shadow.now c.loop-start.map c.loop-start.shadow c.loop-start.invariant (c.in-Some.start, c.in-Some.end) c.in-Some.ensures.given

pub loop-start-preserved : goal.loop-start-preserved
loop-start-preserved c =
    subst (λ (a : Area). Frees c.args.map.now c.args.shadow.now a c.committed.new.self) (sym c.release_between.ensures)
    (frees_next c.args.map.now c.args.shadow.now c.loop-start.map c.loop-start.shadow c.loop-start.invariant (c.in-Some.start, c.in-Some.end) c.in-Some.ensures.given c.committed.new.self
    c.in-Some.ensures.waits.left c.in-Some.ensures.waits.held c.in-Some.ensures.waits.unfinished c.in-Some.ensures.waits.kept)

pub returns-clause-kept : goal.returns-clause-kept
returns-clause-kept c =
    kept_all c.args.map.now c.args.shadow.now c.loop-start.map c.loop-start.shadow c.loop-start.invariant (search rules) c.committed.new.self.kept c.in_default.ensures.waits.kept
