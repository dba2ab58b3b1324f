use Rattle.std.proofs.Common.{◌≡◌, ◌/◌, Bool, false, length, ap, subst, rules}
use Rattle.memory_machine.specs.Events.{stood_by}
use Rattle.memory_machine.specs.State.{Exactly, put_sectors, noted, same, disk_failed}
use Rattle.memory_machine.specs.Memory.{memory_state}
use Rattle.memory_machine.proofs.States.{written_as, then_fails}
use Rattle.memory_machine.proofs.Calls.{counts_of, fault_told}
use Rattle.memory_machine.proofs.memory.calls.MemoryMachineMachine.write.Goals as goal

pub returns-then-not-done-clause-exact : goal.returns-then-not-done-clause-exact
returns-then-not-done-clause-exact c =
    let verdict = c.verdict-verdict.result in
    let some : c.stood_of-stood.result ≡ stood_by verdict (length c.args.bytes.now / 512) = search rules in
    let old = memory_state c.args.self.now in
    let mid = memory_state c.put-done.new.self in
    let end = memory_state c.disk_fault.new.self in
    let after = put_sectors c.args.sector c.args.bytes.now c.stood_of-stood.result c.goes.result c.stops.result (noted false old) in
    let put_fails = subst (λ (b : Bool). Exactly c.goes.result after after same old mid b) c.if-not-done.true c.put-done.ensures.exact in
    let call = then_fails c.goes.result after after (disk_failed c.args.sector) old mid end put_fails (ap memory_state c.disk_fault.ensures.told) in
    written_as c.args.sector c.args.bytes.now c.stood_of-stood.result c.goes.result c.stops.result verdict (disk_failed c.args.sector) old end false some c.goes.ensures c.stops.ensures c.verdict-verdict.ensures call

pub returns-then-not-done-clause-cause : goal.returns-then-not-done-clause-cause
returns-then-not-done-clause-cause c =
    fault_told c.args.self.now c.put-done.new.self c.disk_fault.new.self c.args.sector c.disk_fault.result (λ i. counts_of (c.put-done.ensures.rest i)) c.disk_fault.ensures.place c.disk_fault.ensures.later c.disk_fault.ensures.told
