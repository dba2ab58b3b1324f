use Rattle.std.proofs.Common.{◌≡◌, Option, None, ap, ◌∙◌, subst, arith}
use Rattle.fsd_formats.specs.declared.entry.Entry.{Entry}
use Rattle.fsd_files.specs.Answers.{entry_after}
use Rattle.fsd_files.specs.declared.reply.Reply.TheVariants.{Found}
use Rattle.volume_contract.specs.State.{State, volume_of}
use Rattle.scrub.specs.Telling.{TellsOn}
use Rattle.scrub.proofs.LookedLaws.{outside_only}
use Rattle.scrub.proofs.ReadingLaws.{volume_read_then}
use Rattle.scrub.proofs.ToldLaws.{next_refuses, told_by}
use Rattle.volume_dump.proofs.WeighedLaws.{one_more, weigh_all, weigh_counted, weigh_more}
use Rattle.volume_dump.proofs.span.weigh_all.Goals as goal

pub loop-preserved : goal.loop-preserved
loop-preserved g c =
    let M = g.M.Machine in
    let V = g.V.Files in
    let was = c.loop.invariant in
    let next = c.in-Ok-Some.ensures in
    let call = c.in-Ok.ensures in
    record {
      reads = volume_read_then {fault = None} was.reads next.reads;
      few = let before = was.few in let one = one_more c.args.since c.in-Ok-Some.e c.loop.weights.items c.weigh_one.new.weights.items call.ok in omega (arith, before, one);
      small = call.small was.small;
      weighed = λ h k stands.
          let there = next.reads.disk.trust.honest h in
          let looks = subst (λ (o : Option Entry). Found (entry_after c.loop.last (volume_of k).entries) ≡ Found o) c.in-Ok-Some.field-0-is (next.done h k (was.reads.stands there k stands)) in
          weigh_more V.state V.holds c.loop.v k (M.now c.loop.m) (was.reads.stands there k stands) c.args.since c.loop.counter c.loop.last c.loop.weights.items (was.weighed there k stands)
          c.in-Ok-Some.e looks c.weigh_one.new.weights.items call.ok;
    }

pub returns-in-Err-weigh_one-clause-reads : goal.returns-in-Err-weigh_one-clause-reads
returns-in-Err-weigh_one-clause-reads g c = volume_read_then {fault = None} c.loop.invariant.reads c.in-Ok-Some.ensures.reads

pub returns-in-Ok-None-clause-reads : goal.returns-in-Ok-None-clause-reads
returns-in-Ok-None-clause-reads g c = volume_read_then {fault = None} c.loop.invariant.reads c.in-Ok-None.ensures.reads

pub returns-in-Ok-None-clause-done : goal.returns-in-Ok-None-clause-done
returns-in-Ok-None-clause-done g c = λ h k stands.
    let V = g.V.Files in
    let was = c.loop.invariant in
    let next = c.in-Ok-None.ensures in
    let there = next.reads.disk.trust.honest h in
    let looks = subst (λ (o : Option Entry). Found (entry_after c.loop.last (volume_of k).entries) ≡ Found o) c.in-Ok-None.field-0-is (next.done h k (was.reads.stands there k stands)) in
    weigh_all V.state V.holds c.loop.v k (g.M.Machine.now c.loop.m) (was.reads.stands there k stands) c.args.since c.loop.counter c.loop.last c.loop.weights.items (was.weighed there k stands) looks

pub returns-in-Err-clause-reads : goal.returns-in-Err-clause-reads
returns-in-Err-clause-reads g c = volume_read_then c.loop.invariant.reads c.in-Err.ensures.reads

pub returns-in-Err-clause-refusal : goal.returns-in-Err-clause-refusal
returns-in-Err-clause-refusal g c = next_refuses (g.V.Files.state c.loop.v) (ap (λ (s : State). s.down) c.loop.invariant.reads.same ∙ c.requires.up) c.in-Err.why c.in-Err.ensures.order

pub returns-in-Err-clause-done : goal.returns-in-Err-clause-done
returns-in-Err-clause-done g c = λ h k stands.
    let next = c.in-Err.ensures in
    outside_only (entry_after c.loop.last (volume_of k).entries) c.in-Err.why (next.done h k (c.loop.invariant.reads.stands (next.reads.disk.trust.honest h) k stands))

pub returns-in-Err-clause-tells : goal.returns-in-Err-clause-tells
returns-in-Err-clause-tells g c = λ h.
    let V = g.V.Files in
    let now = g.M.Machine.now in
    let e = c.in-Err.ensures in
    subst (λ (s : State). TellsOn s.layout (now c.next_one.new.m).image c.in-Err.why) c.loop.invariant.reads.same
    (told_by (V.state c.loop.v) (V.state c.next_one.new.v) (V.resident c.loop.v) (now c.loop.m) (now c.next_one.new.m) (ap (λ (s : State). s.layout) e.reads.same) c.in-Err.why (e.tells.causes h))

pub returns-clause-done : goal.returns-clause-done
returns-clause-done g c = λ h k stands.
    let V = g.V.Files in
    let was = c.loop.invariant in
    let asked = c.stat-end.ensures.versions in
    let same = ap (λ (s : State). s.versions) was.reads.same in
    let most = c.loop.auto.counter-end in
    let ended = c.loop-test.false in
    weigh_counted V.state V.holds c.loop.v k (g.M.Machine.now c.loop.m) (was.reads.stands h k stands) c.args.since c.loop.counter c.loop.last c.loop.weights.items (was.weighed h k stands) c.stat-end.result.versions (omega (arith, asked, same)) (omega (arith, most, ended))
