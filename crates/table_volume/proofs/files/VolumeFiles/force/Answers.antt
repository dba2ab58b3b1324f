use Rattle.table_volume.proofs.files.VolumeFiles.force.Goals as goal

pub returns : goal.returns
returns g c =
    let e = c.force_all.ensures in
    record { order = e.order; disk = e.disk; writes = e.writes; keeps = e.keeps.by_steps; tells = e.tells; done = e.done }
