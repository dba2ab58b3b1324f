use Rattle.std.proofs.Common.{Ok, Err, [], ◌∷◌, refl, sym, ◌∙◌}
use Rattle.std.specs.Prelude.{OnOk, Result}
use Rattle.sector_disk.proofs.CallLaws.{reads_none}
use Rattle.volume_contract.specs.State.{volume_of}
use Rattle.volume_dump.specs.declared.fault.DumpFault.{DumpFault}
use Rattle.volume_dump.specs.Saying.{IsEntered, said_of}
use Rattle.volume_dump.proofs.OneLaws.{output_device, said_ends, said_one, unread_ends, volume_told, wears_leaves}
use Rattle.volume_dump.proofs.SaidLaws.{reads_as_says, volume_reads_says, volume_says_after, volume_says_more, volume_spoken}
use Rattle.volume_dump.proofs.TextLaws.{some_then, utters_as, utters_behind, utters_some, wears_says, wears_some}
use Rattle.volume_dump.proofs.saying.say_chosen.Goals as goal

pub returns-then-not-is_in_span-clause-says : goal.returns-then-not-is_in_span-clause-says
returns-then-not-is_in_span-clause-says g c =
    let V = g.V.Files in
    let M = g.M.Machine in
    let a = c.args.m.now in
    volume_says_more (record { disk = reads_as_says (reads_none a (λ left h was. g.met.M.Machine.only_now a left h was)); same = refl; stands = λ h k stands. stands })
    (λ h left worn. wears_leaves V.state V.holds c.args.v.now (IsEntered c.args.e.now) (λ k. said_of c.args.span (volume_of k).files (c.args.e.now ∷ [])) (M.now a) left worn)

pub returns-in-Ok-clause-says : goal.returns-in-Ok-clause-says
returns-in-Ok-clause-says g c =
    let V = g.V.Files in
    let M = g.M.Machine in
    let e = c.args.e.now in
    let a = M.now c.args.m.now in
    let mid = M.now c.read_version.new.m in
    let read = c.in-Ok.ensures in
    let say = c.say_item.ensures in
    let bytes = c.deref.result.now in
    let chosen = sym c.is_in_span.ensures ∙ c.if-not-is_in_span.false in
    volume_told (output_device c.say_item.result say.fault) refl
    (volume_says_after (volume_reads_says read.reads) (volume_spoken _ (g.met.V.Files.wears c.read_version.new.v) (g.met.M.Machine.short c.read_version.new.m) say.disk)
    (λ h left worn. wears_leaves V.state V.holds c.args.v.now (IsEntered e) (λ k. said_of c.args.span (volume_of k).files (e ∷ [])) a left worn)
    (λ h left u.
    let back = say.disk.trust.honest h in
    let worn = read.reads.disk.worn back in (
      some_then a mid left (wears_some a mid worn) (utters_some _ mid left u),
      λ k stands entered. utters_behind [] _ a mid left (wears_says a mid worn) (utters_as _ _ mid left (said_one c.args.span (volume_of k).files e bytes chosen (c.deref.ensures.value ∙ read.done back k stands entered)) u),
    )))

pub returns-in-Ok-clause-done : goal.returns-in-Ok-clause-done
returns-in-Ok-clause-done g c h k stands entered =
    let M = g.M.Machine in
    let e = c.args.e.now in
    let read = c.in-Ok.ensures in
    let say = c.say_item.ensures in
    let bytes = c.deref.result.now in
    let back = say.disk.trust.honest h in
    let chosen = sym c.is_in_span.ensures ∙ c.if-not-is_in_span.false in
    said_ends c.args.span (volume_of k) e (M.now c.args.m.now) (M.now c.read_version.new.m) (M.now c.say_item.new.m) _ (read.reads.disk.worn back)
    (said_one c.args.span (volume_of k).files e bytes chosen (c.deref.ensures.value ∙ read.done back k stands entered)) c.say_item.result say.fault
    (by _ c.say_item.result say.said h)
  where
    by : {H T : Type 0} (S : Type 0) (r : Result T DumpFault) → OnOk r (H → S) → H → OnOk r S
    by S (Ok x) says h = says h
    by S (Err fault) says h = tt

pub returns-in-Err-clause-says : goal.returns-in-Err-clause-says
returns-in-Err-clause-says g c =
    let V = g.V.Files in
    let M = g.M.Machine in
    let read = c.in-Err.ensures in
    volume_told refl read.unsaid
    (volume_says_more (volume_reads_says read.reads)
    (λ h left worn. wears_leaves V.state V.holds c.args.v.now (IsEntered c.args.e.now) (λ k. said_of c.args.span (volume_of k).files (c.args.e.now ∷ [])) (M.now c.args.m.now) left worn))

pub returns-in-Err-clause-done : goal.returns-in-Err-clause-done
returns-in-Err-clause-done g c h k stands entered =
    let M = g.M.Machine in
    let read = c.in-Err.ensures in
    let chosen = sym c.is_in_span.ensures ∙ c.if-not-is_in_span.false in
    unread_ends (Unit {0}) c.args.span (volume_of k) c.args.e.now (M.now c.args.m.now) (M.now c.read_version.new.m) c.in-Err.fault chosen (read.reads.disk.worn h) (read.done h k stands entered)
