use Rattle.std.proofs.Common.{None}
use Rattle.std.specs.Prelude.{length}
use Rattle.fsd_formats.specs.NamePage.{sectors_for}
use Rattle.fsd_files.specs.Files.{Change}
use Rattle.volume_contract.specs.Ends.{device_of}
use Rattle.volume_contract.specs.State.{put_writes}
use Rattle.volume_example.proofs.MadeLaws.{has_put, reads_put, unread_put}
use Rattle.volume_example.proofs.StopLaws.{put_alone, put_reads}
use Rattle.volume_example.proofs.filling.put_and_read.Goals as goal

pub returns-in-Ok-read-clause-disk : goal.returns-in-Ok-read-clause-disk
returns-in-Ok-read-clause-disk g c =
    let V = g.V.Files in
    let v = c.args.v.now in
    let bytes = c.args.bytes.now in
    put_reads g.M.Machine V.state V.holds v (put_writes (V.state v) (sectors_for (length bytes))) (Change.Put c.args.name.now None bytes) c.args.m.now c.put.new.m c.read.new.m c.in-Ok.ensures.disk
    None (λ h. g.met.M.Machine.short c.put.new.m h) c.in-Ok-read.ensures.disk

pub returns-in-Err-read-clause-disk : goal.returns-in-Err-read-clause-disk
returns-in-Err-read-clause-disk g c =
    let V = g.V.Files in
    let v = c.args.v.now in
    let bytes = c.args.bytes.now in
    put_reads g.M.Machine V.state V.holds v (put_writes (V.state v) (sectors_for (length bytes))) (Change.Put c.args.name.now None bytes) c.args.m.now c.put.new.m c.read.new.m c.in-Ok.ensures.disk
    (device_of c.in-Err-read.why) (λ h. g.met.M.Machine.short c.put.new.m h) c.in-Err-read.ensures.disk

pub returns-in-Err-clause-disk : goal.returns-in-Err-clause-disk
returns-in-Err-clause-disk g c =
    let V = g.V.Files in
    let v = c.args.v.now in
    let bytes = c.args.bytes.now in
    put_alone g.M.Machine V.state V.holds v (put_writes (V.state v) (sectors_for (length bytes))) (Change.Put c.args.name.now None bytes) c.args.m.now c.put.new.m (device_of c.in-Err.why) c.in-Err.ensures.disk

pub returns-in-Ok-read-clause-done : goal.returns-in-Ok-read-clause-done
returns-in-Ok-read-clause-done g c h k stands =
    let V = g.V.Files in
    let M = g.M.Machine in
    let read = c.in-Ok-read.ensures in
    let made = c.in-Ok.ensures.done (read.disk.trust.honest h) k stands in (
      has_put V.state V.holds c.args.name.now c.args.bytes.now k c.put.new.self (M.now c.put.new.m) c.in-Ok.key made c.read.new.self (M.now c.read.new.m) (read.stands h made.after made.stands),
      reads_put V.state V.holds c.args.name.now c.args.bytes.now k c.put.new.self (M.now c.put.new.m) c.in-Ok.key made (M.now c.read.new.m).image c.args.buf.now c.read.new.buf c.in-Ok-read.field-0 c.requires.fits (read.done h made.after made.stands),
    )

pub returns-in-Err-read-clause-done : goal.returns-in-Err-read-clause-done
returns-in-Err-read-clause-done g c h k stands =
    let V = g.V.Files in
    let M = g.M.Machine in
    let read = c.in-Err-read.ensures in
    let made = c.in-Ok.ensures.done (read.disk.trust.honest h) k stands in (
      has_put V.state V.holds c.args.name.now c.args.bytes.now k c.put.new.self (M.now c.put.new.m) c.in-Ok.key made c.read.new.self (M.now c.read.new.m) (read.stands h made.after made.stands),
      unread_put V.state V.holds c.args.name.now c.args.bytes.now k c.put.new.self (M.now c.put.new.m) c.in-Ok.key made (M.now c.read.new.m) (read.disk.worn h) c.args.buf.now c.read.new.buf c.in-Err-read.why (read.done h made.after made.stands),
    )
