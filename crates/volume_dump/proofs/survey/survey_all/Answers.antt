use Rattle.std.proofs.Common.{◌≡◌, false, Option, None, sym, ap, ◌∙◌, subst, arith}
use Rattle.fsd_formats.specs.declared.entry.Entry.{Entry}
use Rattle.fsd_files.specs.Answers.{entry_after}
use Rattle.fsd_files.specs.declared.reply.Reply.TheVariants.{Found}
use Rattle.sector_disk.proofs.Wear.{worn_refl}
use Rattle.volume_contract.specs.State.{State, volume_of}
use Rattle.scrub.specs.Looking.{AreDamaged}
use Rattle.scrub.specs.Telling.{TellsOn}
use Rattle.scrub.proofs.LookLaws.{damaged_on}
use Rattle.scrub.proofs.LookedLaws.{outside_only}
use Rattle.scrub.proofs.ReadingLaws.{volume_read_then}
use Rattle.scrub.proofs.ToldLaws.{next_refuses, outside_told, told_by}
use Rattle.volume_dump.proofs.SurveyLaws.{one_most, survey_all, survey_counted, survey_kept, survey_more}
use Rattle.volume_dump.proofs.survey.survey_all.Goals as goal

pub loop-preserved : goal.loop-preserved
loop-preserved g c =
    let M = g.M.Machine in
    let V = g.V.Files in
    let was = c.loop.invariant in
    let next = c.in-Ok-Some.ensures in
    let call = c.in-Ok.ensures in
    let a = (M.now c.args.m.now).image in
    let b = (M.now c.loop.m).image in
    let mid = (M.now c.next_one.new.m).image in
    let end = (M.now c.survey_one.new.m).image in
    let front = volume_read_then {fault = None} was.reads next.reads in
    record {
      reads = volume_read_then {fault = None} front call.reads;
      damaged = λ h.
          let back = call.reads.disk.trust.honest h in
          subst (λ (s : State). AreDamaged s.layout end c.survey_one.new.found.items) front.same
          (call.damaged h (subst (λ (s : State). AreDamaged s.layout mid c.loop.found.items) (sym front.same) (damaged_on (V.state c.args.v.now).layout _ b mid (next.reads.disk.worn back).image c.loop.found.items (was.damaged (next.reads.disk.trust.honest back)))));
      few = let before = was.few in let one = one_most c.args.span c.in-Ok-Some.e in let counts = call.counts.count in omega (arith, before, one, counts);
      surveyed = λ h k stands.
          let back = call.reads.disk.trust.honest h in
          let there = next.reads.disk.trust.honest back in
          let looks = subst (λ (o : Option Entry). Found (entry_after c.loop.last (volume_of k).entries) ≡ Found o) c.in-Ok-Some.field-0-is (next.done back k (was.reads.stands there k stands)) in
          survey_more V.state V.holds c.loop.v k (M.now c.loop.m) (was.reads.stands there k stands) _ _ a mid end (front.disk.worn back).image (call.reads.disk.worn h).image c.args.span c.loop.counter c.loop.last c.loop.so_far c.loop.found.items
          (survey_kept V.state V.holds c.loop.v k (M.now c.loop.m) (was.reads.stands there k stands) _ _ a b mid (was.reads.disk.worn there).image (next.reads.disk.worn back).image c.args.span c.loop.counter c.loop.last c.loop.so_far c.loop.found.items (was.surveyed there k stands))
          c.in-Ok-Some.e looks c.in-Ok.more c.survey_one.new.found.items call.counts (call.adds h);
    }

pub returns-in-Err-survey_one-clause-reads : goal.returns-in-Err-survey_one-clause-reads
returns-in-Err-survey_one-clause-reads g c = volume_read_then (volume_read_then {fault = None} c.loop.invariant.reads c.in-Ok-Some.ensures.reads) c.in-Err-survey_one.ensures.reads

pub returns-in-Err-survey_one-clause-damaged : goal.returns-in-Err-survey_one-clause-damaged
returns-in-Err-survey_one-clause-damaged g c = λ h.
    let M = g.M.Machine in
    let V = g.V.Files in
    let was = c.loop.invariant in
    let next = c.in-Ok-Some.ensures in
    let call = c.in-Err-survey_one.ensures in
    let mid = (M.now c.next_one.new.m).image in
    let end = (M.now c.survey_one.new.m).image in
    let state = next.reads.same ∙ was.reads.same in
    let back = call.reads.disk.trust.honest h in
    subst (λ (s : State). AreDamaged s.layout end c.survey_one.new.found.items) state
    (call.damaged h (subst (λ (s : State). AreDamaged s.layout mid c.loop.found.items) (sym state) (damaged_on (V.state c.args.v.now).layout _ (M.now c.loop.m).image mid (next.reads.disk.worn back).image c.loop.found.items (was.damaged (next.reads.disk.trust.honest back)))))

pub returns-in-Err-survey_one-clause-told : goal.returns-in-Err-survey_one-clause-told
returns-in-Err-survey_one-clause-told g c = λ h. outside_told (g.V.Files.state c.args.v.now).layout (g.M.Machine.now c.survey_one.new.m).image c.in-Err-survey_one.why c.in-Err-survey_one.ensures.outside

pub returns-in-Ok-None-clause-reads : goal.returns-in-Ok-None-clause-reads
returns-in-Ok-None-clause-reads g c = volume_read_then {fault = None} c.loop.invariant.reads c.in-Ok-None.ensures.reads

pub returns-in-Ok-None-clause-damaged : goal.returns-in-Ok-None-clause-damaged
returns-in-Ok-None-clause-damaged g c = λ h.
    damaged_on (g.V.Files.state c.args.v.now).layout _ (g.M.Machine.now c.loop.m).image (g.M.Machine.now c.next_one.new.m).image (c.in-Ok-None.ensures.reads.disk.worn h).image c.loop.found.items (c.loop.invariant.damaged (c.in-Ok-None.ensures.reads.disk.trust.honest h))

pub returns-in-Ok-None-clause-done : goal.returns-in-Ok-None-clause-done
returns-in-Ok-None-clause-done g c = λ h k stands.
    let M = g.M.Machine in
    let V = g.V.Files in
    let was = c.loop.invariant in
    let next = c.in-Ok-None.ensures in
    let there = next.reads.disk.trust.honest h in
    let looks = subst (λ (o : Option Entry). Found (entry_after c.loop.last (volume_of k).entries) ≡ Found o) c.in-Ok-None.field-0-is (next.done h k (was.reads.stands there k stands)) in
    survey_all V.state V.holds c.loop.v k (M.now c.loop.m) (was.reads.stands there k stands) _ _ (M.now c.args.m.now).image (M.now c.loop.m).image (M.now c.next_one.new.m).image (was.reads.disk.worn there).image (next.reads.disk.worn h).image
    c.args.span c.loop.counter c.loop.last c.loop.so_far c.loop.found.items (was.surveyed there k stands) looks

pub returns-in-Err-clause-reads : goal.returns-in-Err-clause-reads
returns-in-Err-clause-reads g c = volume_read_then c.loop.invariant.reads c.in-Err.ensures.reads

pub returns-in-Err-clause-refusal : goal.returns-in-Err-clause-refusal
returns-in-Err-clause-refusal g c = next_refuses (g.V.Files.state c.loop.v) (ap (λ (s : State). s.down) c.loop.invariant.reads.same ∙ c.requires.up) c.in-Err.why c.in-Err.ensures.order

pub returns-in-Err-clause-damaged : goal.returns-in-Err-clause-damaged
returns-in-Err-clause-damaged g c = λ h.
    damaged_on (g.V.Files.state c.args.v.now).layout _ (g.M.Machine.now c.loop.m).image (g.M.Machine.now c.next_one.new.m).image (c.in-Err.ensures.reads.disk.worn h).image c.loop.found.items (c.loop.invariant.damaged (c.in-Err.ensures.reads.disk.trust.honest h))

pub returns-in-Err-clause-done : goal.returns-in-Err-clause-done
returns-in-Err-clause-done g c = λ h k stands.
    let next = c.in-Err.ensures in
    outside_only (entry_after c.loop.last (volume_of k).entries) c.in-Err.why (next.done h k (c.loop.invariant.reads.stands (next.reads.disk.trust.honest h) k stands))

pub returns-in-Err-clause-told : goal.returns-in-Err-clause-told
returns-in-Err-clause-told g c = λ h.
    let V = g.V.Files in
    let now = g.M.Machine.now in
    let e = c.in-Err.ensures in
    subst (λ (s : State). TellsOn s.layout (now c.next_one.new.m).image c.in-Err.why) c.loop.invariant.reads.same
    (told_by (V.state c.loop.v) (V.state c.next_one.new.v) (V.resident c.loop.v) (now c.loop.m) (now c.next_one.new.m) (ap (λ (s : State). s.layout) e.reads.same) c.in-Err.why (e.tells.causes h))

pub returns-clause-done : goal.returns-clause-done
returns-clause-done g c = λ h k stands.
    let M = g.M.Machine in
    let V = g.V.Files in
    let was = c.loop.invariant in
    let here = (was.reads.disk.worn h).image in
    let asked = c.stat-end.ensures.versions in
    let same = ap (λ (s : State). s.versions) was.reads.same in
    let most = c.loop.auto.counter-end in
    let ended = c.loop-test.false in
    survey_counted V.state V.holds c.loop.v k (M.now c.loop.m) (was.reads.stands h k stands) _ (λ s. false) (M.now c.args.m.now).image (M.now c.loop.m).image (M.now c.loop.m).image here (worn_refl (λ s. false) (M.now c.loop.m).image)
    c.args.span c.loop.counter c.loop.last c.loop.so_far c.loop.found.items (was.surveyed h k stands) c.stat-end.result.versions (omega (arith, asked, same)) (omega (arith, most, ended))
