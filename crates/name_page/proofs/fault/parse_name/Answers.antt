use Rattle.std.proofs.Common.{◌+◌}
use Rattle.std.specs.Prelude.{slice_range}
use Rattle.name_page.proofs.FaultLaws.{name_refused}
use Rattle.name_page.proofs.fault.parse_name.Goals as goal

pub returns-in-Err : goal.returns-in-Err
returns-in-Err c = name_refused (slice_range c.args.b.now (c.args.place + 1) (c.args.place + 1 + c.args.n)) c.in-Err.field-0 (c.args.place + 1) c.in-Err.ensures
