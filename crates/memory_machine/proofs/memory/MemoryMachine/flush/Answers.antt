use Rattle.std.proofs.Common.{◌≡◌, ◌∙◌, ◌≤◌, Bool, false, None, length, inl, refl, sym, subst, rules, arith}
use Rattle.memory_machine.specs.declared.memory.MemoryMachine.{MemoryMachine}
use Rattle.memory_machine.specs.declared.past.Work.TheVariants.{Syncing}
use Rattle.memory_machine.specs.Events.{is_going, is_stop}
use Rattle.memory_machine.specs.State.{Calls, flushed, next_verdict, same}
use Rattle.memory_machine.specs.Memory.{memory_now, memory_state, Notes, Ends}
use Rattle.memory_machine.proofs.Steps.{noted_calls, noted_syncs}
use Rattle.memory_machine.proofs.Calls.{noted_of, failed_of, noted_flushed}
use Rattle.memory_machine.proofs.States.{refused_state, flushed_calls, unflushed_calls, noted_stopped, going_runs}
use Rattle.memory_machine.proofs.memory.MemoryMachine.flush.Goals as goal

pub returns-then-is_err-clause-exact : goal.returns-then-is_err-clause-exact
returns-then-is_err-clause-exact c = inl (refused_state c.args.self.now c.note.new.self (failed_of c.note.result c.if-is_err.ensures.value c.note.ensures.err))

pub returns-then-done-clause-flushed : goal.returns-then-done-clause-flushed
returns-then-done-clause-flushed c =
    let mid : MemoryMachine = record c.note.new.self { stopped = c.stops-self.result } in
    let noted = noted_stopped false _ c.args.self.now c.note.new.self c.stops-self.result (noted_of c.note.result c.if-is_err.ensures.value c.note.ensures.ok) in
    let end : MemoryMachine = record mid { synced = c.len-self.result; waiting = None } in
    let now : c.len-self.result ≡ length mid.past.items = search rules in
    let syncs : (memory_now c.args.self.now).synced ≤ (memory_now end).synced = omega (arith, now, noted_calls false _ c.args.self.now mid noted) in
    noted_flushed c.goes-done.result c.args.self.now mid end noted refl syncs (λ f. omega (arith, now))

pub returns-then-done-clause-exact : goal.returns-then-done-clause-exact
returns-then-done-clause-exact c =
    let old = c.args.self.now in
    let mid : MemoryMachine = record c.note.new.self { stopped = c.stops-self.result } in
    let noted = noted_stopped false _ old c.note.new.self c.stops-self.result (noted_of c.note.result c.if-is_err.ensures.value c.note.ensures.ok) in
    let is_goes : is_going (next_verdict (memory_state old)) ≡ c.goes-done.result = search rules in
    let is_stops : c.stops-self.result ≡ is_stop (next_verdict (memory_state old)) = search rules in
    let end : MemoryMachine = record mid { synced = c.len-self.result; waiting = None } in
    let goes = is_goes ∙ c.if-done.true in
    let is = subst (λ (b : Bool). Notes false (Syncing b) old mid) c.if-done.true noted in
    subst (λ (b : Bool). Calls false flushed same (memory_state old) (memory_state end) b) (sym c.if-done.true)
    (flushed_calls c.len-self.result old mid (search rules) is goes (is_stops ∙ going_runs (next_verdict (memory_state old)) goes))

pub returns-else-done-clause-flushed : goal.returns-else-done-clause-flushed
returns-else-done-clause-flushed c =
    let mid : MemoryMachine = record c.note.new.self { stopped = c.stops-self.result } in
    let noted = noted_stopped false _ c.args.self.now c.note.new.self c.stops-self.result (noted_of c.note.result c.if-is_err.ensures.value c.note.ensures.ok) in
    noted_flushed c.goes-done.result c.args.self.now mid mid noted refl (noted_syncs false _ c.args.self.now mid noted) (λ f. absurd (cc (sym f ∙ c.if-done.false)))

pub returns-else-done-clause-exact : goal.returns-else-done-clause-exact
returns-else-done-clause-exact c =
    let old = c.args.self.now in
    let mid : MemoryMachine = record c.note.new.self { stopped = c.stops-self.result } in
    let noted = noted_stopped false _ old c.note.new.self c.stops-self.result (noted_of c.note.result c.if-is_err.ensures.value c.note.ensures.ok) in
    let is_goes : is_going (next_verdict (memory_state old)) ≡ c.goes-done.result = search rules in
    let is_stops : c.stops-self.result ≡ is_stop (next_verdict (memory_state old)) = search rules in
    let ends : Ends false (Syncing false) old mid = record { noted = subst (λ (b : Bool). Notes false (Syncing b) old mid) c.if-done.false noted; fails = is_goes ∙ c.if-done.false; stops = is_stops } in
    subst (λ (b : Bool). Calls false flushed same (memory_state old) (memory_state mid) b) (sym c.if-done.false) (unflushed_calls old mid ends)
