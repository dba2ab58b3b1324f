use Rattle.std.proofs.Common.{◌≡◌, Option, refl, sym, ap, subst, arith}
use Rattle.std.specs.Prelude.{Err, ⊤}
use Rattle.fsd_formats.specs.declared.entry.Entry.{Entry}
use Rattle.fsd_files.specs.Answers.{entry_after}
use Rattle.fsd_files.specs.declared.reply.Reply.TheVariants.{Found}
use Rattle.sector_disk.proofs.CallLaws.{reads_none}
use Rattle.volume_contract.specs.State.{State, volume_of}
use Rattle.scrub.specs.Telling.{TellsOn}
use Rattle.scrub.proofs.LookedLaws.{outside_only}
use Rattle.scrub.proofs.ToldLaws.{told_by}
use Rattle.volume_dump.specs.declared.fault.DumpFault.{DumpFault}
use Rattle.volume_dump.specs.Dump.{FollowsDump}
use Rattle.volume_dump.specs.Saying.{EndsEntries}
use Rattle.volume_dump.proofs.OneLaws.{volume_told, wears_leaves}
use Rattle.volume_dump.proofs.RowLaws.{all_said, row_all, row_counted, row_entered, row_fails, row_more, row_reads, row_says, row_unmet, said_none}
use Rattle.volume_dump.proofs.SaidLaws.{reads_as_says, volume_says_more}
use Rattle.volume_dump.proofs.ToldLaws.{device_told, follows_told, next_comes, tells_told, undamaged, unsaid_told}
use Rattle.volume_dump.proofs.saying.say_versions.Goals as goal

pub loop-init : goal.loop-init
loop-init g c =
    let V = g.V.Files in
    let M = g.M.Machine in
    let a = c.args.m.now in
    record {
      says = volume_says_more (record { disk = reads_as_says (reads_none a (λ left h was. g.met.M.Machine.only_now a left h was)); same = refl; stands = λ h k stands. stands })
          (λ h left worn. wears_leaves V.state V.holds c.args.v.now (λ k. ⊤) (all_said c.args.span) (M.now a) left worn);
      said = λ h k stands. said_none c.args.span (volume_of k) (M.now a);
    }

pub loop-preserved : goal.loop-preserved
loop-preserved g c =
    let V = g.V.Files in
    let M = g.M.Machine in
    let was = c.loop.invariant in
    let next = c.in-Ok-Some.ensures in
    let call = c.in-Ok.ensures in
    let span = c.args.span in
    let e = c.in-Ok-Some.e in
    record {
      says = row_says span c.loop.counter c.loop.last was.says was.said e next.reads
          (λ h k stands. subst (λ (o : Option Entry). Found (entry_after c.loop.last (volume_of k).entries) ≡ Found o) c.in-Ok-Some.field-0-is (next.done h k (was.says.stands (next.reads.disk.trust.honest h) k stands))) call.says;
      said = λ h k stands.
          let there = call.says.disk.trust.honest h in
          let back = next.reads.disk.trust.honest there in
          let here = was.says.stands back k stands in
          let looks = subst (λ (o : Option Entry). Found (entry_after c.loop.last (volume_of k).entries) ≡ Found o) c.in-Ok-Some.field-0-is (next.done there k here) in
          let some = (was.says.disk.exit back).0 in
          let row = was.said back k stands in
          let a = M.now c.args.m.now in
          let b = M.now c.loop.m in
          row_more V.state V.holds c.loop.v k span a b here some c.loop.counter c.loop.last row e looks (M.now c.next_one.new.m) (M.now c.say_chosen.new.m) (next.reads.disk.worn there).said
          (call.done h k (next.reads.stands there k here) (row_entered V.state V.holds c.loop.v k span a b here some c.loop.counter c.loop.last row e looks));
    }

pub returns-in-Err-say_chosen-clause-says : goal.returns-in-Err-say_chosen-clause-says
returns-in-Err-say_chosen-clause-says g c =
    let was = c.loop.invariant in
    let next = c.in-Ok-Some.ensures in
    row_says c.args.span c.loop.counter c.loop.last was.says was.said c.in-Ok-Some.e next.reads
    (λ h k stands. subst (λ (o : Option Entry). Found (entry_after c.loop.last (volume_of k).entries) ≡ Found o) c.in-Ok-Some.field-0-is (next.done h k (was.says.stands (next.reads.disk.trust.honest h) k stands))) c.in-Err-say_chosen.ensures.says

pub returns-in-Err-say_chosen-clause-done : goal.returns-in-Err-say_chosen-clause-done
returns-in-Err-say_chosen-clause-done g c = λ h k stands.
    let V = g.V.Files in
    let M = g.M.Machine in
    let was = c.loop.invariant in
    let next = c.in-Ok-Some.ensures in
    let call = c.in-Err-say_chosen.ensures in
    let span = c.args.span in
    let e = c.in-Ok-Some.e in
    let there = call.says.disk.trust.honest h in
    let back = next.reads.disk.trust.honest there in
    let here = was.says.stands back k stands in
    let looks = subst (λ (o : Option Entry). Found (entry_after c.loop.last (volume_of k).entries) ≡ Found o) c.in-Ok-Some.field-0-is (next.done there k here) in
    let some = (was.says.disk.exit back).0 in
    let row = was.said back k stands in
    let a = M.now c.args.m.now in
    let b = M.now c.loop.m in
    row_fails V.state V.holds c.loop.v k span a b here some c.loop.counter c.loop.last row e looks (Unit {0}) (M.now c.next_one.new.m) (M.now c.say_chosen.new.m) (next.reads.disk.worn there).said c.in-Err-say_chosen.fault
    (call.done h k (next.reads.stands there k here) (row_entered V.state V.holds c.loop.v k span a b here some c.loop.counter c.loop.last row e looks))

pub returns-in-Ok-None-clause-says : goal.returns-in-Ok-None-clause-says
returns-in-Ok-None-clause-says g c = row_reads c.args.span c.loop.counter c.loop.last c.loop.invariant.says c.loop.invariant.said c.in-Ok-None.ensures.reads

pub returns-in-Ok-None-clause-done : goal.returns-in-Ok-None-clause-done
returns-in-Ok-None-clause-done g c = λ h k stands.
    let V = g.V.Files in
    let M = g.M.Machine in
    let was = c.loop.invariant in
    let next = c.in-Ok-None.ensures in
    let back = next.reads.disk.trust.honest h in
    let here = was.says.stands back k stands in
    let looks = subst (λ (o : Option Entry). Found (entry_after c.loop.last (volume_of k).entries) ≡ Found o) c.in-Ok-None.field-0-is (next.done h k here) in
    row_all V.state V.holds c.loop.v k c.args.span (M.now c.args.m.now) (M.now c.loop.m) here (was.says.disk.exit back).0 c.loop.counter c.loop.last (was.said back k stands) (M.now c.next_one.new.m) looks (next.reads.disk.worn h).said

pub returns-in-Err-clause-order : goal.returns-in-Err-clause-order
returns-in-Err-clause-order g c =
    subst (λ (s : State). FollowsDump {T = Unit {0}} s (Err c.fault_of.result)) c.loop.invariant.says.same
    (follows_told (Unit {0}) c.in-Err.why c.fault_of.result c.fault_of.ensures (g.V.Files.state c.loop.v) (next_comes (g.V.Files.state c.loop.v) c.in-Err.why c.in-Err.ensures.order))

pub returns-in-Err-clause-says : goal.returns-in-Err-clause-says
returns-in-Err-clause-says g c =
    volume_told (device_told (Unit {0}) c.in-Err.why c.fault_of.result c.fault_of.ensures) (unsaid_told (Unit {0}) c.in-Err.why c.fault_of.result c.fault_of.ensures)
    (row_reads c.args.span c.loop.counter c.loop.last c.loop.invariant.says c.loop.invariant.said c.in-Err.ensures.reads)

pub returns-in-Err-clause-tells : goal.returns-in-Err-clause-tells
returns-in-Err-clause-tells g c = λ h.
    let V = g.V.Files in
    let now = g.M.Machine.now in
    let e = c.in-Err.ensures in
    tells_told (Unit {0}) c.in-Err.why c.fault_of.result c.fault_of.ensures (V.state c.args.v.now).layout (now c.next_one.new.m).image
    (subst (λ (s : State). TellsOn s.layout (now c.next_one.new.m).image c.in-Err.why) c.loop.invariant.says.same
    (told_by (V.state c.loop.v) (V.state c.next_one.new.v) (V.resident c.loop.v) (now c.loop.m) (now c.next_one.new.m) (ap (λ (s : State). s.layout) e.reads.same) c.in-Err.why (e.tells.causes h)))
    (λ t is. absurd (undamaged (V.state c.loop.v) c.in-Err.why e.order t is))

pub returns-in-Err-clause-done : goal.returns-in-Err-clause-done
returns-in-Err-clause-done g c = λ h k stands.
    let V = g.V.Files in
    let M = g.M.Machine in
    let was = c.loop.invariant in
    let next = c.in-Err.ensures in
    let back = next.reads.disk.trust.honest h in
    let here = was.says.stands back k stands in
    let a = M.now c.args.m.now in
    let end = M.now c.next_one.new.m in
    subst (λ (fault : DumpFault). EndsEntries {T = Unit {0}} c.args.span (volume_of k) a end (Err fault)) (sym c.fault_of.ensures)
    (row_unmet V.state V.holds c.loop.v k c.args.span a (M.now c.loop.m) here (was.says.disk.exit back).0 c.loop.counter c.loop.last (was.said back k stands) (Unit {0}) end (next.reads.disk.worn h).said
    c.in-Err.why (outside_only (entry_after c.loop.last (volume_of k).entries) c.in-Err.why (next.done h k here)))

pub returns-clause-done : goal.returns-clause-done
returns-clause-done g c = λ h k stands.
    let V = g.V.Files in
    let M = g.M.Machine in
    let was = c.loop.invariant in
    let asked = c.stat-end.ensures.versions in
    let same = ap (λ (s : State). s.versions) was.says.same in
    let most = c.loop.auto.counter-end in
    let ended = c.loop-test.false in
    row_counted V.state V.holds c.loop.v k c.args.span (M.now c.args.m.now) (M.now c.loop.m) (was.says.stands h k stands) (was.says.disk.exit h).0 c.loop.counter c.loop.last (was.said h k stands)
    c.stat-end.result.versions (omega (arith, asked, same)) (omega (arith, most, ended))
