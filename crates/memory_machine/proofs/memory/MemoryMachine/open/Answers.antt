use Rattle.std.proofs.Common.{None, true, ◌<◌, ◌^◌, sym, subst, rules, arith}
use Rattle.sector_disk.specs.declared.machine.Attach.{Attach}
use Rattle.memory_machine.specs.Memory.{Opened, IsAttaching, IsFresh}
use Rattle.memory_machine.proofs.Calls.{noted_of, failed_of}
use Rattle.memory_machine.proofs.AttachCalls.{opening_fails, opened_old, opened_new}
use Rattle.memory_machine.specs.State.{Attached, same}
use Rattle.memory_machine.specs.Memory.{memory_state}
use Rattle.memory_machine.proofs.States.{unopened, found_state, made_state}
use Rattle.std.proofs.Common.{inl, inr}
use Rattle.memory_machine.proofs.memory.MemoryMachine.open.Goals as goal

pub returns-then-is_err-clause-unopened : goal.returns-then-is_err-clause-unopened
returns-then-is_err-clause-unopened c =
    let attaching : IsAttaching c.args.self.now.image.items c.args.path.now c.args.how c.in-Ok.work = rw c.in-Ok.work-is at c.in-Ok.ensures.work in
    opening_fails c.in-Ok.work c.args.path.now c.args.how c.args.self.now c.call.new.self attaching (failed_of c.call.result c.if-is_err.ensures.value c.call.ensures.err)

pub returns-in-Old-clause-opened : goal.returns-in-Old-clause-opened
returns-in-Old-clause-opened c =
    let attaching : IsAttaching c.args.self.now.image.items c.args.path.now c.args.how c.in-Ok.work = rw c.in-Ok.work-is at c.in-Ok.ensures.work in
    let attaching_old = subst (λ (a : Attach). IsAttaching c.args.self.now.image.items c.args.path.now a c.in-Ok.work) c.in-Old.is attaching in
    subst (λ (a : Attach). Opened c.args.path.now a c.count_of-self.result c.args.self.now (record c.call.new.self { next = None; told = c.count_of-self.result; synced = c.len-self.result; waiting = None })) (sym c.in-Old.is)
    (opened_old c.in-Ok.work c.args.path.now c.count_of-self.result c.len-self.result c.args.self.now c.call.new.self (search rules) attaching_old (noted_of c.call.result c.if-is_err.ensures.value c.call.ensures.ok) (search rules))

pub returns-in-New-clause-opened : goal.returns-in-New-clause-opened
returns-in-New-clause-opened c =
    let attaching : IsAttaching c.args.self.now.image.items c.args.path.now c.args.how c.in-Ok.work = rw c.in-Ok.work-is at c.in-Ok.ensures.work in
    let attaching_new = subst (λ (a : Attach). IsAttaching c.args.self.now.image.items c.args.path.now a c.in-Ok.work) c.in-New.is attaching in
    let fresh : IsFresh c.args.how c.in-Ok.fresh.items = rw c.in-Ok.fresh-is at c.in-Ok.ensures.fresh in
    let fresh_new = subst (λ (a : Attach). IsFresh a c.in-Ok.fresh.items) c.in-New.is fresh in
    let small : c.in-New.count < 2 ^ 32 = omega arith in
    subst (λ (a : Attach). Opened c.args.path.now a c.in-New.count c.args.self.now (record c.call.new.self { next = None; present = None; told = c.in-New.count; image = c.in-Ok.fresh; synced = c.len-self.result; waiting = None })) (sym c.in-New.is)
    (opened_new c.in-Ok.work c.args.path.now c.in-New.count c.len-self.result c.in-Ok.fresh c.args.self.now c.call.new.self (search rules) attaching_new fresh_new (noted_of c.call.result c.if-is_err.ensures.value c.call.ensures.ok) small)

pub returns-then-is_err-clause-exact : goal.returns-then-is_err-clause-exact
returns-then-is_err-clause-exact c =
    let attaching : IsAttaching c.args.self.now.image.items c.args.path.now c.args.how c.in-Ok.work = rw c.in-Ok.work-is at c.in-Ok.ensures.work in
    unopened c.in-Ok.work c.args.self.now.image.items c.args.path.now c.args.how c.args.self.now c.call.new.self attaching (failed_of c.call.result c.if-is_err.ensures.value c.call.ensures.err)

pub returns-in-Old-clause-exact : goal.returns-in-Old-clause-exact
returns-in-Old-clause-exact c =
    let attaching : IsAttaching c.args.self.now.image.items c.args.path.now c.args.how c.in-Ok.work = rw c.in-Ok.work-is at c.in-Ok.ensures.work in
    let attaching_old = subst (λ (a : Attach). IsAttaching c.args.self.now.image.items c.args.path.now a c.in-Ok.work) c.in-Old.is attaching in
    subst (λ (a : Attach). Attached c.args.path.now a same (memory_state c.args.self.now) (memory_state (record c.call.new.self { next = None; told = c.count_of-self.result; synced = c.len-self.result; waiting = None })) true) (sym c.in-Old.is)
    (found_state c.in-Ok.work c.args.self.now.image.items c.args.path.now c.len-self.result c.args.self.now c.call.new.self (search rules) attaching_old (noted_of c.call.result c.if-is_err.ensures.value c.call.ensures.ok) (noted_of c.call.result c.if-is_err.ensures.value c.call.ensures.goes) (noted_of c.call.result c.if-is_err.ensures.value c.call.ensures.running) c.count_of-self.result (search rules))

pub returns-in-New-clause-exact : goal.returns-in-New-clause-exact
returns-in-New-clause-exact c =
    let attaching : IsAttaching c.args.self.now.image.items c.args.path.now c.args.how c.in-Ok.work = rw c.in-Ok.work-is at c.in-Ok.ensures.work in
    let attaching_new = subst (λ (a : Attach). IsAttaching c.args.self.now.image.items c.args.path.now a c.in-Ok.work) c.in-New.is attaching in
    let fresh : IsFresh c.args.how c.in-Ok.fresh.items = rw c.in-Ok.fresh-is at c.in-Ok.ensures.fresh in
    let fresh_new = subst (λ (a : Attach). IsFresh a c.in-Ok.fresh.items) c.in-New.is fresh in
    let small : c.in-New.count < 2 ^ 32 = omega arith in
    subst (λ (a : Attach). Attached c.args.path.now a same (memory_state c.args.self.now) (memory_state (record c.call.new.self { next = None; present = None; told = c.in-New.count; image = c.in-Ok.fresh; synced = c.len-self.result; waiting = None })) true) (sym c.in-New.is)
    (made_state c.in-Ok.work c.args.self.now.image.items c.args.path.now c.in-New.count c.len-self.result c.in-Ok.fresh c.args.self.now c.call.new.self (search rules) attaching_new fresh_new
    (noted_of c.call.result c.if-is_err.ensures.value c.call.ensures.ok) (noted_of c.call.result c.if-is_err.ensures.value c.call.ensures.goes) (noted_of c.call.result c.if-is_err.ensures.value c.call.ensures.running) small)

pub returns-in_default-clause-exact : goal.returns-in_default-clause-exact
returns-in_default-clause-exact c = inl (inr (c.if-self.false, λ i. record (memory_state c.args.self.now) { starved = c.saturating_add-self.ensures i }))
