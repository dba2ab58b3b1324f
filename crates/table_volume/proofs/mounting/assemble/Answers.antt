use Rattle.std.proofs.Common.{◌≡◌, sym, subst}
use Rattle.shadow_frees.specs.Waits.{Waits}
use Rattle.table_volume.specs.Mounting.{none_waits}
use Rattle.volume_laws.specs.Volume.{IsWholeVolume}
use Rattle.table_volume.proofs.AssembleLaws.{made, no_waits, whole_assembled}
use Rattle.table_volume.proofs.mounting.assemble.Goals as goal

pub invariant_of-result : goal.invariant_of-result
invariant_of-result c =
    let l = c.args.layout in let log = c.args.log in let o = c.args.opened in
    let w : Waits = c.in-Ok.shadow in
    let none : w ≡ none_waits l = no_waits l w c.data_start.result c.most_sectors.result c.data_start.ensures c.most_sectors.ensures.value c.in-Ok.ensures.removed c.in-Ok.ensures.kept c.in-Ok.ensures.unfinished c.in-Ok.ensures.held in
    subst IsWholeVolume (sym (made l log o w c.epoch.result none c.epoch.ensures)) (whole_assembled l log o c.requires.planned c.requires.log.layout c.requires.opened)
