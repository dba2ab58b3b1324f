use Rattle.std.proofs.Common.{◌≡◌, ℕ, Bool, Option, [], Err, false, sym, ◌∙◌, subst, arith}
use Rattle.std.specs.Prelude.{◌==◌, IsFalse, length, vec_len}
use Rattle.std.proofs.lemmas.Bool.{eqb-true}
use Rattle.std.proofs.lemmas.List.{nil_from_length}
use Rattle.sector_disk.specs.Machine.{Moment}
use Rattle.volume_contract.specs.State.{volume_of}
use Rattle.volume_dump.specs.declared.fault.DumpFault.{DumpFault}
use Rattle.volume_dump.specs.Dump.{EndsDump, LeavesDumped, ReadsAndSays, device_in_dump}
use Rattle.volume_dump.proofs.EndLaws.{none_hurt, refused_ends, saying_ends}
use Rattle.volume_dump.proofs.SaidLaws.{reads_as_says, says_after, says_more}
use Rattle.volume_dump.proofs.TextLaws.{some_then, utters_behind, wears_says, wears_some, wears_utters}
use Rattle.volume_dump.proofs.ToldLaws.{device_told, unsaid_told}
use Rattle.volume_dump.proofs.whole.dump.Goals as goal

pub returns-then-is_empty-clause-disk : goal.returns-then-is_empty-clause-disk
returns-then-is_empty-clause-disk g c =
    let V = g.V.Files in
    let M = g.M.Machine in
    let a = M.now c.args.m.now in
    let b = M.now c.survey.new.m in
    let survey = c.in-Ok.ensures in
    let call = c.say_all.ensures in
    says_after {R = LeavesDumped V.state V.holds c.args.v.now c.args.span} (reads_as_says survey.reads.disk) call.says.disk
    (λ h left worn. (wears_some a left worn, λ k stands. wears_utters _ a left worn))
    (λ h left leaves.
    let back = call.says.disk.trust.honest h in
    let worn = survey.reads.disk.worn back in (
      some_then a b left (wears_some a b worn) leaves.0,
      λ k stands.
          let is = survey.done back k stands in
          utters_behind [] _ a b left (wears_says a b worn) (leaves.1 k (survey.reads.stands back k stands) (record { count = is.count; latest = is.latest })),
    ))

pub returns-then-is_empty-clause-done : goal.returns-then-is_empty-clause-done
returns-then-is_empty-clause-done g c = λ h k stands.
    let M = g.M.Machine in
    let a = M.now c.args.m.now in
    let b = M.now c.survey.new.m in
    let survey = c.in-Ok.ensures in
    let call = c.say_all.ensures in
    let back = call.says.disk.trust.honest h in
    let is = survey.done back k stands in
    let zero = eqb-true (vec_len c.survey.new.found) 0 (sym c.is_empty.ensures ∙ c.if-is_empty.true) in
    let long = c.survey.new.found.ok.0 in
    saying_ends c.args.span (volume_of k) a b (M.now c.say_all.new.m) (survey.reads.disk.worn back).said
    (none_hurt a.image b.image _ c.survey.new.found.items (nil_from_length c.survey.new.found.items (omega (arith, zero, long))) is.picks) c.in-Ok.surveyed.chosen is.count c.say_all.result
    (call.done h k (survey.reads.stands back k stands) (record { count = is.count; latest = is.latest }))

pub returns-else-is_empty-clause-disk : goal.returns-else-is_empty-clause-disk
returns-else-is_empty-clause-disk g c =
    let V = g.V.Files in
    let M = g.M.Machine in
    let a = M.now c.args.m.now in
    says_more {R = LeavesDumped V.state V.holds c.args.v.now c.args.span} (reads_as_says c.in-Ok.ensures.reads.disk) (λ h left worn. (wears_some a left worn, λ k stands. wears_utters _ a left worn))

pub returns-else-is_empty-clause-done : goal.returns-else-is_empty-clause-done
returns-else-is_empty-clause-done g c h k stands =
    let survey = c.in-Ok.ensures in
    let long = c.survey.new.found.ok.0 in
    let same : vec_len c.survey.new.found ≡ length c.survey.new.found.items = omega (arith, long) in
    record {
      some = subst (λ (n : ℕ). IsFalse (n == 0)) same (sym c.is_empty.ensures ∙ c.if-is_empty.false);
      finds = (survey.done h k stands).picks;
      quiet = (survey.reads.disk.worn h).said;
    }

pub returns-in-Err-clause-disk : goal.returns-in-Err-clause-disk
returns-in-Err-clause-disk g c =
    let V = g.V.Files in
    let M = g.M.Machine in
    let a = M.now c.args.m.now in
    let R : Moment → Moment → Type 0 = LeavesDumped V.state V.holds c.args.v.now c.args.span in
    let survey = c.in-Err.ensures in
    subst (λ (unsaid : Bool). ReadsAndSays M (device_in_dump {T = ℕ} (Err c.fault_of.result)) unsaid R c.args.m.now c.survey.new.m) (sym (unsaid_told ℕ c.in-Err.why c.fault_of.result c.fault_of.ensures))
    (subst (λ (fault : Option ℕ). ReadsAndSays M fault false R c.args.m.now c.survey.new.m) (sym (device_told ℕ c.in-Err.why c.fault_of.result c.fault_of.ensures))
    (says_more {R = R} (reads_as_says survey.reads.disk) (λ h left worn. (wears_some a left worn, λ k stands. wears_utters _ a left worn))))

pub returns-in-Err-clause-done : goal.returns-in-Err-clause-done
returns-in-Err-clause-done g c = λ h k stands.
    let M = g.M.Machine in
    let survey = c.in-Err.ensures in
    subst (λ (fault : DumpFault). EndsDump c.args.span (volume_of k) (M.now c.args.m.now) (M.now c.survey.new.m) (Err fault)) (sym c.fault_of.ensures)
    (refused_ends c.args.span (volume_of k) (M.now c.args.m.now) (M.now c.survey.new.m) (survey.reads.disk.worn h).said c.in-Err.why (survey.done h k stands))
