use Rattle.std.proofs.Common.{◌≡◌, length, refl, arith}
use Rattle.std.proofs.lemmas.Grind.{common_steps}
use Rattle.std.specs.Vec.{with_items}
use Rattle.sector_disk.specs.Image.{stand}
use Rattle.memory_machine.proofs.Calls.{noted_of}
use Rattle.memory_machine.proofs.Steps.{noted_size}
use Rattle.memory_machine.proofs.WriteCalls.{stood_by}
use Rattle.memory_machine.proofs.States.{put_exactly}
use Rattle.memory_machine.specs.Memory.{memory_state}
use Rattle.memory_machine.proofs.States.{refused_state}
use Rattle.memory_machine.proofs.Calls.{failed_of}
use Rattle.std.proofs.Common.{inl, inr}
use Rattle.memory_machine.proofs.memory.MemoryMachine.put.Goals as goal

pub stand-requires-clause-room : goal.stand-requires-clause-room
stand-requires-clause-room c =
    let noted = noted_of c.note.result c.if-is_err.ensures.value c.note.ensures.ok in
    let size = noted_size _ _ _ _ noted in
    let same : length c.deref_mut.result.now ≡ length c.note.new.self.image.items = grind (arith, common_steps) in
    omega (arith, size, same, c.requires.room, c.requires.some)

pub returns-clause-stood : goal.returns-clause-stood
returns-clause-stood c =
    let noted = noted_of c.note.result c.if-is_err.ensures.value c.note.ensures.ok in
    let image : (with_items c.note.new.self.image c.stand.new.image).items ≡ stand c.note.new.self.image.items c.args.sector c.args.bytes.now c.args.stood = grind (arith, common_steps) in
    stood_by c.in-Ok.work c.args.sector c.args.bytes.now c.args.stood c.args.done c.args.self.now c.note.new.self
    (record c.note.new.self { image = with_items c.note.new.self.image c.stand.new.image; written = c.saturating_add-self-2.result; waiting = c.waits_behind-self.result; stopped = c.args.stops })
    c.in-Ok.ensures noted c.requires.some c.requires.room image refl c.requires.all

pub returns-clause-exact : goal.returns-clause-exact
returns-clause-exact c =
    let noted = noted_of c.note.result c.if-is_err.ensures.value c.note.ensures.ok in
    let image : (with_items c.note.new.self.image c.stand.new.image).items ≡ stand c.note.new.self.image.items c.args.sector c.args.bytes.now c.args.stood = grind (arith, common_steps) in
    put_exactly c.in-Ok.work c.args.sector c.args.bytes.now c.args.stood c.args.done c.args.stops c.args.self.now c.note.new.self
    (record c.note.new.self { image = with_items c.note.new.self.image c.stand.new.image; written = c.saturating_add-self-2.result; waiting = c.waits_behind-self.result; stopped = c.args.stops })
    c.in-Ok.ensures noted image c.saturating_add-self-2.ensures c.waits_behind-self.ensures refl

pub returns-in_default-clause-exact : goal.returns-in_default-clause-exact
returns-in_default-clause-exact c = inl (inr (c.if-self.false, λ i. record (memory_state c.args.self.now) { starved = c.saturating_add-self.ensures i }))

pub returns-then-is_err-clause-exact : goal.returns-then-is_err-clause-exact
returns-then-is_err-clause-exact c = inl (refused_state c.args.self.now c.note.new.self (failed_of c.note.result c.if-is_err.ensures.value c.note.ensures.err))
