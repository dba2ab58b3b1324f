use Rattle.table_volume.proofs.files.VolumeFiles.entry.Goals as goal

pub returns : goal.returns
returns g c =
    let e = c.version.ensures in
    record {
      order = e.order;
      disk = e.disk;
      state = e.state;
      stands = e.stands;
      tells = e.gives.tells;
      done = e.done;
    }
