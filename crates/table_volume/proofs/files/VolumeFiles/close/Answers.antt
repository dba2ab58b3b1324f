use Rattle.table_volume.proofs.files.VolumeFiles.close.Goals as goal

pub close_all-requires : goal.close_all-requires
close_all-requires g c = c.requires

pub returns : goal.returns
returns g c =
    let e = c.close_all.ensures in
    record { order = e.order; disk = e.disk; writes = e.writes; causes = e.causes; saves = e.saves; done = e.done }
