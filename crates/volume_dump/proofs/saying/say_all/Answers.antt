use Rattle.std.proofs.Common.{ℕ, None, Err, false, refl}
use Rattle.std.specs.Prelude.{Result}
use Rattle.sector_disk.specs.Machine.{Says, Utters}
use Rattle.volume_contract.specs.State.{volume_of}
use Rattle.volume_dump.specs.declared.fault.DumpFault.{DumpFault}
use Rattle.volume_dump.specs.Saying.{SaysVolume}
use Rattle.volume_dump.proofs.DumpLaws.{end_text, head_text, versions_fail, whole_said}
use Rattle.volume_dump.proofs.OneLaws.{output_device, volume_told}
use Rattle.volume_dump.proofs.RowLaws.{all_said}
use Rattle.volume_dump.proofs.SaidLaws.{volume_says_more, volume_spoken}
use Rattle.volume_dump.proofs.TextLaws.{says_as, says_so, utters_as}
use Rattle.volume_dump.proofs.WholeLaws.{end_says, head_says, versions_say}
use Rattle.volume_dump.proofs.saying.say_all.Given as given
use Rattle.volume_dump.proofs.saying.say_all.Goals as goal
use Rattle.volume_dump.proofs.saying.say_all.Goals.{In-Ok}

-- the head, once it is said
head_of : (g : given.Over) (c : In-Ok g) → SaysVolume g.M.Machine g.V.Files.state g.V.Files.holds None false (Utters (head_text c.args.tally)) c.args.v.now c.args.v.now c.args.m.now c.say_part.new.m
head_of g c =
    let V = g.V.Files in
    let M = g.M.Machine in
    volume_says_more (volume_spoken c.head_of.result (g.met.V.Files.wears c.args.v.now) (g.met.M.Machine.short c.args.m.now) c.in-Ok.ensures.disk)
    (λ h left u. utters_as c.head_of.result (head_text c.args.tally) (M.now c.args.m.now) left c.head_of.ensures u)

head_said : (g : given.Over) (c : In-Ok g) → g.M.Machine.honest c.say_part.new.m → Says (head_text c.args.tally) (g.M.Machine.now c.args.m.now) (g.M.Machine.now c.say_part.new.m)
head_said g c h = says_as c.head_of.result (head_text c.args.tally) (g.M.Machine.now c.args.m.now) (g.M.Machine.now c.say_part.new.m) c.head_of.ensures (c.in-Ok.ensures.said h)

pub returns-in-Ok-say_part-clause-says : goal.returns-in-Ok-say_part-clause-says
returns-in-Ok-say_part-clause-says g c =
    let V = g.V.Files in
    let M = g.M.Machine in
    let at = (goal.at.returns-in-Ok-say_part-clause-says g c).In-Ok in
    let call = c.in-Ok-say_versions.ensures in
    end_says c.args.span c.args.tally (head_of g at) (head_said g at) call.says (λ h k stands. call.done h k stands)
    (volume_says_more (volume_spoken c.end_of.result (g.met.V.Files.wears c.say_versions.new.v) (g.met.M.Machine.short c.say_versions.new.m) c.in-Ok-say_part.ensures.disk)
    (λ h left u. utters_as c.end_of.result (end_text c.args.tally) (M.now c.say_versions.new.m) left c.end_of.ensures u))

pub returns-in-Err-say_part-clause-says : goal.returns-in-Err-say_part-clause-says
returns-in-Err-say_part-clause-says g c =
    let V = g.V.Files in
    let M = g.M.Machine in
    let at = (goal.at.returns-in-Err-say_part-clause-says g c).In-Ok in
    let call = c.in-Ok-say_versions.ensures in
    let failed : Result ℕ DumpFault = Err c.in-Err-say_part.fault in
    volume_told (output_device failed c.in-Err-say_part.ensures.fault) refl
    (end_says c.args.span c.args.tally (head_of g at) (head_said g at) call.says (λ h k stands. call.done h k stands)
    (volume_says_more (volume_spoken c.end_of.result (g.met.V.Files.wears c.say_versions.new.v) (g.met.M.Machine.short c.say_versions.new.m) c.in-Err-say_part.ensures.disk)
    (λ h left u. utters_as c.end_of.result (end_text c.args.tally) (M.now c.say_versions.new.m) left c.end_of.ensures u)))

pub returns-in-Err-say_versions-clause-says : goal.returns-in-Err-say_versions-clause-says
returns-in-Err-say_versions-clause-says g c =
    let at = (goal.at.returns-in-Err-say_versions-clause-says g c).In-Ok in
    versions_say c.args.span c.args.tally (head_of g at) (head_said g at) c.in-Err-say_versions.ensures.says

pub returns-in-Err-clause-says : goal.returns-in-Err-clause-says
returns-in-Err-clause-says g c =
    let V = g.V.Files in
    let M = g.M.Machine in
    let failed : Result ℕ DumpFault = Err c.in-Err.fault in
    volume_told (output_device failed c.in-Err.ensures.fault) refl
    (head_says c.args.span c.args.tally
    (volume_says_more (volume_spoken c.head_of.result (g.met.V.Files.wears c.args.v.now) (g.met.M.Machine.short c.args.m.now) c.in-Err.ensures.disk)
    (λ h left u. utters_as c.head_of.result (head_text c.args.tally) (M.now c.args.m.now) left c.head_of.ensures u)))

pub returns-in-Ok-say_part-clause-done : goal.returns-in-Ok-say_part-clause-done
returns-in-Ok-say_part-clause-done g c = λ h k stands headed.
    let now = g.M.Machine.now in
    let at = (goal.at.returns-in-Ok-say_part-clause-done g c).In-Ok in
    let call = c.in-Ok-say_versions.ensures in
    let end = c.in-Ok-say_part.ensures in
    let there = end.disk.trust.honest h in
    let back = call.says.disk.trust.honest there in (
      refl,
      whole_said c.args.span (volume_of k) c.args.tally headed.count headed.latest (now c.args.m.now) (now c.say_part.new.m) (head_said g at back) (now c.say_versions.new.m)
          (says_so (all_said c.args.span k) (now c.say_part.new.m) (now c.say_versions.new.m) (call.says.disk.exit there).0 (call.done there k ((head_of g at).stands back k stands)))
          (now c.say_part-in-Ok-say_versions.new.m)
          (says_as c.end_of.result (end_text c.args.tally) (now c.say_versions.new.m) (now c.say_part-in-Ok-say_versions.new.m) c.end_of.ensures (end.said h)),
    )

pub returns-in-Err-say_versions-clause-done : goal.returns-in-Err-say_versions-clause-done
returns-in-Err-say_versions-clause-done g c = λ h k stands headed.
    let now = g.M.Machine.now in
    let at = (goal.at.returns-in-Err-say_versions-clause-done g c).In-Ok in
    let call = c.in-Err-say_versions.ensures in
    let back = call.says.disk.trust.honest h in
    versions_fail c.args.span (volume_of k) c.args.tally headed.count headed.latest (now c.args.m.now) (now c.say_part.new.m) (now c.say_versions.new.m) (head_said g at back).said
    (Unit {0}) c.args.tally.chosen c.in-Err-say_versions.fault (call.done h k ((head_of g at).stands back k stands))
