use Rattle.std.proofs.Common.{refl, subst}
use Rattle.volume_contract.specs.Pieces.{IsDraft}
use Rattle.volume_laws.specs.State.{state}
use Rattle.table_volume.proofs.files.VolumeFiles.enter.Goals as goal

pub finished-requires-clause-draft : goal.finished-requires-clause-draft
finished-requires-clause-draft g c = subst (IsDraft (state c.args.self.now)) c.creation-entry.ensures.same c.requires.draft

pub returns-in-Ok : goal.returns-in-Ok
returns-in-Ok g c =
    let made = c.in-Ok.ensures in
    rw c.creation-entry.ensures.same (record {
      order = made.order;
      disk = made.disk;
      writes = made.writes;
      keeps = record { state = made.keeps.state; back = tt; kept = made.keeps.kept };
      tells = made.tells;
      done = made.done;
    })

pub returns-in-Err : goal.returns-in-Err
returns-in-Err g c =
    let failed = c.in-Err.ensures in
    rw c.creation-entry.ensures.same (record {
      order = failed.order;
      disk = failed.disk;
      writes = failed.writes;
      keeps = record { state = failed.keeps.state; back = refl; kept = failed.keeps.kept };
      tells = failed.tells;
      done = failed.done;
    })
