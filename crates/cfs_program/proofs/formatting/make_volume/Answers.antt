use Rattle.cfs_program.proofs.FormatLaws.{made_of}
use Rattle.cfs_program.proofs.formatting.make_volume.Goals as goal

pub returns-in-Ok-clause-made : goal.returns-in-Ok-clause-made
returns-in-Ok-clause-made g c =
    let M = g.M.Machine in
    made_of c.args.l.now c.sectors.result (M.now c.args.m.now) (M.now c.attach.new.self) (M.now c.format.new.m) (M.honest c.format.new.m) c.format.result
    (λ h. c.in-Ok.ensures.attached (c.format.ensures.disk.trust.honest h)) c.format.ensures.done c.format.ensures.synced
