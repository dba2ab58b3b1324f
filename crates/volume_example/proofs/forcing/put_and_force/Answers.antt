use Rattle.std.proofs.Common.{None, Some}
use Rattle.std.specs.Prelude.{length}
use Rattle.fsd_formats.specs.NamePage.{sectors_for}
use Rattle.fsd_files.specs.Answers.{force_outcome}
use Rattle.fsd_files.specs.Files.{Change}
use Rattle.fsd_files.specs.declared.reply.Reply.TheVariants.{Forced as IsForced}
use Rattle.fsd_sound.specs.Writes.{force_writes}
use Rattle.volume_contract.specs.declared.files.Forced.{Forced}
use Rattle.volume_contract.specs.Ends.{device_of}
use Rattle.volume_contract.specs.State.{put_writes, volume_of}
use Rattle.volume_example.proofs.MadeLaws.{committed, force_down, still_committed}
use Rattle.volume_example.proofs.StopLaws.{put_alone, put_forces, then_syncs, without_sync}
use Rattle.volume_example.proofs.forcing.put_and_force.Goals as goal

pub returns-in-Ok-sync-clause-disk : goal.returns-in-Ok-sync-clause-disk
returns-in-Ok-sync-clause-disk g c =
    let V = g.V.Files in
    let v = c.args.v.now in
    let w = c.put.new.self in
    let bytes = c.args.bytes.now in
    let put = c.in-Ok.ensures in
    then_syncs g.M.Machine V.state V.holds v (put_writes (V.state v) (sectors_for (length bytes))) (Change.Put c.args.name.now None bytes) c.args.m.now c.put.new.m c.force.new.m put.disk c.sync.new.m None
    (put_forces g.M.Machine V.state V.holds v w (put_writes (V.state v) (sectors_for (length bytes))) (force_writes (V.state w).layout) c.args.name.now bytes c.in-Ok.key c.args.m.now c.put.new.m c.force.new.m put.disk put.done
    None c.in-Ok-force.ensures.disk)
    (λ h. g.met.M.Machine.short c.force.new.m h) c.in-Ok-sync.ensures.syncs

pub returns-in-Err-sync-clause-disk : goal.returns-in-Err-sync-clause-disk
returns-in-Err-sync-clause-disk g c =
    let V = g.V.Files in
    let v = c.args.v.now in
    let w = c.put.new.self in
    let bytes = c.args.bytes.now in
    let put = c.in-Ok.ensures in
    then_syncs g.M.Machine V.state V.holds v (put_writes (V.state v) (sectors_for (length bytes))) (Change.Put c.args.name.now None bytes) c.args.m.now c.put.new.m c.force.new.m put.disk c.sync.new.m (Some c.in-Err-sync.failed.place)
    (put_forces g.M.Machine V.state V.holds v w (put_writes (V.state v) (sectors_for (length bytes))) (force_writes (V.state w).layout) c.args.name.now bytes c.in-Ok.key c.args.m.now c.put.new.m c.force.new.m put.disk put.done
    None c.in-Ok-force.ensures.disk)
    (λ h. g.met.M.Machine.short c.force.new.m h) c.in-Err-sync.ensures.syncs

pub returns-in-Err-force-clause-disk : goal.returns-in-Err-force-clause-disk
returns-in-Err-force-clause-disk g c =
    let V = g.V.Files in
    let v = c.args.v.now in
    let w = c.put.new.self in
    let bytes = c.args.bytes.now in
    let put = c.in-Ok.ensures in
    without_sync (put_forces g.M.Machine V.state V.holds v w (put_writes (V.state v) (sectors_for (length bytes))) (force_writes (V.state w).layout) c.args.name.now bytes c.in-Ok.key c.args.m.now c.put.new.m c.force.new.m put.disk put.done
    (device_of c.in-Err-force.why) c.in-Err-force.ensures.disk)

pub returns-in-Err-clause-disk : goal.returns-in-Err-clause-disk
returns-in-Err-clause-disk g c =
    let V = g.V.Files in
    let v = c.args.v.now in
    let bytes = c.args.bytes.now in
    without_sync (put_alone g.M.Machine V.state V.holds v (put_writes (V.state v) (sectors_for (length bytes))) (Change.Put c.args.name.now None bytes) c.args.m.now c.put.new.m (device_of c.in-Err.why) c.in-Err.ensures.disk)

pub returns-in-Ok-sync-clause-done : goal.returns-in-Ok-sync-clause-done
returns-in-Ok-sync-clause-done g c h k stands =
    let V = g.V.Files in
    let M = g.M.Machine in
    let w = c.force.new.self in let mid = M.now c.force.new.m in let now = M.now c.sync.new.m in
    let back = c.sync.ensures.syncs.trust.honest h in
    let force = c.in-Ok-force.ensures in
    let made = c.in-Ok.ensures.done (force.disk.trust.honest back) k stands in
    let worn = c.sync.ensures.syncs.worn h in
    let is = committed V.state V.holds c.args.name.now c.args.bytes.now k c.put.new.self (M.now c.put.new.m) c.in-Ok.key made w mid (force.done back made.after made.stands) in
    let still = still_committed V.state V.holds c.args.name.now c.args.bytes.now k w mid now c.in-Ok.key
    (λ after standing. g.met.V.Files.wears w after mid now (g.met.M.Machine.short c.force.new.m back) (record { image = worn.image; windows = worn.windows }) standing) is in
    record { committed = still; synced = c.in-Ok-sync.ensures.synced h }

pub returns-in-Err-sync-clause-done : goal.returns-in-Err-sync-clause-done
returns-in-Err-sync-clause-done g c h k stands =
    let V = g.V.Files in
    let M = g.M.Machine in
    let w = c.force.new.self in let mid = M.now c.force.new.m in let now = M.now c.sync.new.m in
    let back = c.sync.ensures.syncs.trust.honest h in
    let force = c.in-Ok-force.ensures in
    let made = c.in-Ok.ensures.done (force.disk.trust.honest back) k stands in
    let worn = c.sync.ensures.syncs.worn h in
    let is = committed V.state V.holds c.args.name.now c.args.bytes.now k c.put.new.self (M.now c.put.new.m) c.in-Ok.key made w mid (force.done back made.after made.stands) in
    let still = still_committed V.state V.holds c.args.name.now c.args.bytes.now k w mid now c.in-Ok.key
    (λ after standing. g.met.V.Files.wears w after mid now (g.met.M.Machine.short c.force.new.m back) (record { image = worn.image; windows = worn.windows }) standing) is in
    still

pub returns-in-Err-force-clause-done : goal.returns-in-Err-force-clause-done
returns-in-Err-force-clause-done g c h k stands =
    let V = g.V.Files in
    let force = c.in-Err-force.ensures in
    let made = c.in-Ok.ensures.done (force.disk.trust.honest h) k stands in
    force_down V.state V.holds Forced (λ met. force_outcome (volume_of made.after)) IsForced made.after c.force.new.self (g.M.Machine.now c.force.new.m) c.in-Err-force.why (force.done h made.after made.stands)
