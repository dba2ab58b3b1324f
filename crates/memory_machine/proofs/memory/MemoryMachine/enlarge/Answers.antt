use Rattle.std.proofs.Common.{◌≡◌, ◌∙◌, ◌-◌, ◌^◌, ◌<◌, ◌++◌, Bool, ℕ, false, true, max, length, replicate, inl, sym, ap, rules, arith}
use Rattle.memory_machine.specs.declared.memory.MemoryMachine.{MemoryMachine}
use Rattle.memory_machine.specs.declared.past.Work.TheVariants.{Extending}
use Rattle.memory_machine.specs.Events.{comes_by, is_going, is_stop}
use Rattle.memory_machine.specs.State.{next_verdict}
use Rattle.sector_disk.specs.declared.sector.Sector.TheVariants.{Damaged}
use Rattle.std.specs.Prelude.{if◌then◌else◌}
use Rattle.memory_machine.specs.Memory.{memory_report, memory_state, Ends}
use Rattle.memory_machine.proofs.Calls.{noted_of, failed_of}
use Rattle.memory_machine.proofs.Steps.{noted_size}
use Rattle.memory_machine.proofs.States.{refused_state, noted_stopped, going_comes, going_runs}
use Rattle.memory_machine.proofs.GrowCalls.{behind_is, refused_widened, widened_all, widened_none, widened_state, unwidened_state}
use Rattle.memory_machine.proofs.memory.MemoryMachine.enlarge.Goals as goal

pub returns-then-is_err-clause-widened : goal.returns-then-is_err-clause-widened
returns-then-is_err-clause-widened c = refused_widened c.args.count c.args.self.now c.note.new.self (failed_of c.note.result c.if-is_err.ensures.value c.note.ensures.err)

pub returns-then-is_err-clause-exact : goal.returns-then-is_err-clause-exact
returns-then-is_err-clause-exact c = inl (refused_state c.args.self.now c.note.new.self (failed_of c.note.result c.if-is_err.ensures.value c.note.ensures.err))

pub put_behind-requires : goal.put_behind-requires
put_behind-requires c =
    let noted = noted_of c.note.result c.if-is_err.ensures.value c.note.ensures.ok in
    let size = noted_size false _ c.args.self.now c.note.new.self noted in
    omega (arith, size, c.note.ensures.room, c.coming.ensures.some, c.requires.room, c.note.new.self.image.ok.0, c.args.self.now.image.ok.0)

pub returns-then-not-goes-clause-widened : goal.returns-then-not-goes-clause-widened
returns-then-not-goes-clause-widened c =
    let old = c.args.self.now in
    let mid : MemoryMachine = record c.note.new.self { stopped = c.stops-self.result } in
    let noted = noted_stopped false (Extending c.len-had.result c.args.count) old c.note.new.self c.stops-self.result (noted_of c.note.result c.if-is_err.ensures.value c.note.ensures.ok) in
    let size : c.len-had.result ≡ length old.image.items = search rules in
    let come = comes_by c.next_verdict-verdict.result c.args.more in
    let more : c.args.more ≡ c.args.count - length mid.image.items = omega (arith, c.requires.more, noted_size false (Extending c.len-had.result c.args.count) old mid noted) in
    let image = c.put_behind.ensures ∙ ap (λ (n : ℕ). mid.image.items ++ replicate n Damaged) c.coming.ensures.exact ∙ behind_is c.args.more c.args.count come mid.image.items more in
    widened_none c.len-had.result c.args.count c.sectors-told.result c.put_behind.new.image come old mid noted size c.sectors-told.ensures image

pub returns-then-not-goes-clause-exact : goal.returns-then-not-goes-clause-exact
returns-then-not-goes-clause-exact c =
    let old = c.args.self.now in
    let mid : MemoryMachine = record c.note.new.self { stopped = c.stops-self.result } in
    let noted = noted_stopped false (Extending c.len-had.result c.args.count) old c.note.new.self c.stops-self.result (noted_of c.note.result c.if-is_err.ensures.value c.note.ensures.ok) in
    let size : c.len-had.result ≡ length old.image.items = search rules in
    let come = comes_by c.next_verdict-verdict.result c.args.more in
    let more : c.args.more ≡ c.args.count - length mid.image.items = omega (arith, c.requires.more, noted_size false (Extending c.len-had.result c.args.count) old mid noted) in
    let image = c.put_behind.ensures ∙ ap (λ (n : ℕ). mid.image.items ++ replicate n Damaged) c.coming.ensures.exact ∙ behind_is c.args.more c.args.count come mid.image.items more in
    let verdict : c.next_verdict-verdict.result ≡ next_verdict (memory_state old) = c.next_verdict-verdict.ensures in
    let ends : Ends false (Extending c.len-had.result c.args.count) old mid = record {
      noted = noted;
      fails = sym (ap is_going verdict) ∙ sym c.goes.ensures ∙ c.if-not-goes.true;
      stops = c.stops-self.ensures ∙ ap is_stop verdict;
    } in
    unwidened_state c.len-had.result c.args.count c.sectors-told.result c.put_behind.new.image come old mid noted size c.sectors-told.ensures image ends (λ i. comes_by (verdict i) (more i))

pub returns-clause-widened : goal.returns-clause-widened
returns-clause-widened c =
    let old = c.args.self.now in
    let mid : MemoryMachine = record c.note.new.self { stopped = c.stops-self.result } in
    let noted = noted_stopped false (Extending c.len-had.result c.args.count) old c.note.new.self c.stops-self.result (noted_of c.note.result c.if-is_err.ensures.value c.note.ensures.ok) in
    let size : c.len-had.result ≡ length old.image.items = search rules in
    let goes = sym c.goes.ensures ∙ c.if-not-goes.false in
    let more : c.args.more ≡ c.args.count - length mid.image.items = omega (arith, c.requires.more, noted_size false (Extending c.len-had.result c.args.count) old mid noted) in
    let image = c.put_behind.ensures ∙ ap (λ (n : ℕ). mid.image.items ++ replicate n Damaged) (c.coming.ensures.exact ∙ ap (λ (b : Bool). if b then c.args.more else 0) (going_comes c.next_verdict-verdict.result c.args.more goes)) ∙ behind_is c.args.more c.args.count true mid.image.items more in
    let small : c.args.count < 2 ^ 32 = omega arith in
    let tells : c.max-self.result ≡ max (memory_report old).sectors c.args.count = search rules in
    widened_all c.len-had.result c.args.count c.max-self.result c.len-self.result c.put_behind.new.image old mid noted size small tells image (search rules)

pub returns-clause-exact : goal.returns-clause-exact
returns-clause-exact c =
    let old = c.args.self.now in
    let mid : MemoryMachine = record c.note.new.self { stopped = c.stops-self.result } in
    let noted = noted_stopped false (Extending c.len-had.result c.args.count) old c.note.new.self c.stops-self.result (noted_of c.note.result c.if-is_err.ensures.value c.note.ensures.ok) in
    let size : c.len-had.result ≡ length old.image.items = search rules in
    let verdict : c.next_verdict-verdict.result ≡ next_verdict (memory_state old) = c.next_verdict-verdict.ensures in
    let goes = sym c.goes.ensures ∙ c.if-not-goes.false in
    let more : c.args.more ≡ c.args.count - length mid.image.items = omega (arith, c.requires.more, noted_size false (Extending c.len-had.result c.args.count) old mid noted) in
    let image = c.put_behind.ensures ∙ ap (λ (n : ℕ). mid.image.items ++ replicate n Damaged) (c.coming.ensures.exact ∙ ap (λ (b : Bool). if b then c.args.more else 0) (going_comes c.next_verdict-verdict.result c.args.more goes)) ∙ behind_is c.args.more c.args.count true mid.image.items more in
    let small : c.args.count < 2 ^ 32 = omega arith in
    let tells : c.max-self.result ≡ max (memory_report old).sectors c.args.count = search rules in
    widened_state c.len-had.result c.args.count c.max-self.result c.len-self.result c.put_behind.new.image old mid noted size small tells image (search rules)
    (sym (ap is_going verdict) ∙ goes) (c.stops-self.ensures ∙ going_runs c.next_verdict-verdict.result goes)
