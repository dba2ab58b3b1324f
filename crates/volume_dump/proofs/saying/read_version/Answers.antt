use Rattle.std.proofs.Common.{ℕ, length, drop, Err, sym, ap, ◌∙◌, subst, arith}
use Rattle.sector_disk.proofs.CallLaws.{reads_told}
use Rattle.volume_contract.specs.State.{volume_of}
use Rattle.volume_dump.specs.declared.fault.DumpFault.{DumpFault}
use Rattle.volume_dump.specs.Saying.{IsUnread}
use Rattle.volume_dump.proofs.EntryLaws.{read_not, read_whole, written_front}
use Rattle.volume_dump.proofs.ToldLaws.{device_told, follows_told, read_comes, read_told, tells_told, unsaid_told}
use Rattle.volume_dump.proofs.saying.read_version.Goals as goal

pub returns-in-Ok-read_entry-clause-done : goal.returns-in-Ok-read_entry-clause-done
returns-in-Ok-read_entry-clause-done g c h k stands entered =
    let now = g.M.Machine.now in
    let read = c.in-Ok-read_entry.ensures in
    let most = read.tells.count in
    let same = c.read_entry.auto.buf in
    let long = c.deref_mut.ensures.len in
    let items = c.in-Ok.ensures.len in
    c.truncate.ensures.items
    ∙ written_front c.in-Ok-read_entry.count c.in-Ok.bytes.len c.read_entry.new.buf (drop (length c.read_entry.new.buf) c.in-Ok.bytes.items) (omega (arith, most, long)) (omega (arith, most, same))
    ∙ read_whole (now c.args.m.now).image (now c.read_entry.new.m).image (volume_of k) c.args.e.now c.deref_mut.result.now c.read_entry.new.buf c.in-Ok-read_entry.count (omega (arith, long, items)) (read.done h k stands entered)

pub returns-in-Err-clause-order : goal.returns-in-Err-clause-order
returns-in-Err-clause-order g c = follows_told ℕ c.in-Err.why c.fault_of.result c.fault_of.ensures (g.V.Files.state c.args.v.now) (read_comes (g.V.Files.state c.args.v.now) c.in-Err.why c.in-Err.ensures.order.follows)

pub returns-in-Err-clause-reads : goal.returns-in-Err-clause-reads
returns-in-Err-clause-reads g c =
    let read = c.in-Err.ensures in
    record {
      disk = reads_told (device_told ℕ c.in-Err.why c.fault_of.result c.fault_of.ensures) read.disk;
      same = read.state;
      stands = read.stands;
    }

pub returns-in-Err-clause-tells : goal.returns-in-Err-clause-tells
returns-in-Err-clause-tells g c h =
    let V = g.V.Files in
    let now = g.M.Machine.now in
    let read = c.in-Err.ensures in
    tells_told ℕ c.in-Err.why c.fault_of.result c.fault_of.ensures (V.state c.args.v.now).layout (now c.read_entry.new.m).image
    (read_told (V.state c.args.v.now) c.in-Err.why (V.state c.args.v.now).layout (now c.read_entry.new.m).image c.requires.up read.order.follows)
    (λ t is. let told = read.tells.damaged t (ap Err is) h in (c.requires.met.within t told.0, told.1))

pub returns-in-Err-clause-done : goal.returns-in-Err-clause-done
returns-in-Err-clause-done g c h k stands entered =
    let now = g.M.Machine.now in
    let read = c.in-Err.ensures in
    subst (λ (fault : DumpFault). IsUnread c.args.e.now (now c.read_entry.new.m).image fault) (sym c.fault_of.ensures)
    (read_not (now c.args.m.now).image (now c.read_entry.new.m).image (volume_of k) c.args.e.now c.deref_mut.result.now c.read_entry.new.buf c.in-Err.why (read.done h k stands entered))

pub returns-in-Err-clause-unsaid : goal.returns-in-Err-clause-unsaid
returns-in-Err-clause-unsaid g c = unsaid_told ℕ c.in-Err.why c.fault_of.result c.fault_of.ensures
