use Rattle.std.proofs.lemmas.Option.{IfSome_then}
use Rattle.std.proofs.lemmas.Result.{err_from_is_err_and}
use Rattle.table_volume.proofs.BelievedLaws.{opens_saved}
use Rattle.table_volume.proofs.KnownLaws.{opens_known}
use Rattle.table_volume.proofs.mounting.open_settled.Goals as goal

pub returns-in_err-opened-clause-known : goal.returns-in_err-opened-clause-known
returns-in_err-opened-clause-known g c none honest knows =
    let p = err_from_is_err_and c.from_residual.result c.from_residual.ensures.1 in
    rw (p.1, p.2) (c.in_err-opened.ensures.walked none honest knows)

pub returns-in_err-opened-clause-by : goal.returns-in_err-opened-clause-by
returns-in_err-opened-clause-by g c =
    let p = err_from_is_err_and c.from_residual.result c.from_residual.ensures.1 in
    rw (p.1, p.2) c.in_err-opened.ensures.by

pub returns-clause-known : goal.returns-clause-known
returns-clause-known g c none honest knows =
    let at = g.M.Machine.now c.args.m.now in
    opens_known c.args.settled.layout at c.in_ok-opened.opened (c.in_ok-opened.ensures.walked none honest knows) c.assemble.result c.assemble.ensures.is c.assemble.ensures.memory

pub returns-clause-by : goal.returns-clause-by
returns-clause-by g c = IfSome_then c.args.settled.saved c.in_ok-opened.ensures.by (λ saved by. opens_saved saved c.in_ok-opened.opened by c.assemble.result c.assemble.ensures.is c.assemble.ensures.memory)
