use Rattle.std.proofs.Common.{◌≡◌, List, ℕ, ◌++◌, Ok, Err, refl, ap, ◌∙◌}
use Rattle.std.specs.Prelude.{OnOk, Result}
use Rattle.fsd_dumps.specs.Dump.{item_bytes}
use Rattle.volume_dump.specs.declared.fault.DumpFault.{DumpFault}
use Rattle.volume_dump.specs.Saying.{with_bytes}
use Rattle.volume_dump.proofs.SaidLaws.{says_after, says_more}
use Rattle.volume_dump.proofs.TextLaws.{front_then, says_as, says_then, utters_as, utters_behind, utters_more}
use Rattle.volume_dump.proofs.saying.say_item.Given as given
use Rattle.volume_dump.proofs.saying.say_item.Goals as goal
use Rattle.volume_dump.proofs.saying.say_item.Goals.{After-as_slice}

-- what is said first, and behind it the bytes
parts : (g : given.Over) (c : After-as_slice g) → c.as_slice.result.now ++ c.args.bytes.now ≡ item_bytes (with_bytes c.args.e.now c.args.bytes.now)
parts g c =
    ap (λ (front : List ℕ). front ++ c.args.bytes.now) (c.as_slice.ensures.value ∙ c.front_of-front.ensures c.args.bytes.now refl)
    ∙ front_then (with_bytes c.args.e.now c.args.bytes.now)

pub returns-in-Ok-clause-disk : goal.returns-in-Ok-clause-disk
returns-in-Ok-clause-disk g c =
    let now = g.M.Machine.now in
    let front = c.as_slice.result.now in
    let bytes = c.args.bytes.now in
    let is = parts g (goal.at.returns-in-Ok-clause-disk g c).After-as_slice in
    says_after c.in-Ok.ensures.disk c.say_part-in-Ok.ensures.disk
    (λ h left u. utters_as (front ++ bytes) _ (now c.args.m.now) left is (utters_more front bytes (now c.args.m.now) left u))
    (λ h left u. utters_as (front ++ bytes) _ (now c.args.m.now) left is
    (utters_behind front bytes (now c.args.m.now) (now c.say_part.new.m) left (c.in-Ok.ensures.said (c.say_part-in-Ok.ensures.disk.trust.honest h)) u))

pub returns-in-Ok-clause-said : goal.returns-in-Ok-clause-said
returns-in-Ok-clause-said g c =
    let now = g.M.Machine.now in
    let front = c.as_slice.result.now in
    let bytes = c.args.bytes.now in
    let is = parts g (goal.at.returns-in-Ok-clause-said g c).After-as_slice in
    by c.say_part-in-Ok.result (c.say_part-in-Ok.ensures.said) (λ h said. says_as (front ++ bytes) _ (now c.args.m.now) (now c.say_part-in-Ok.new.m) is
    (says_then front bytes (now c.args.m.now) (now c.say_part.new.m) (now c.say_part-in-Ok.new.m) (c.in-Ok.ensures.said (c.say_part-in-Ok.ensures.disk.trust.honest h)) said))
  where
    by : {H S T : Type 0} (r : Result (Unit {0}) DumpFault) → OnOk r (H → S) → (H → S → T) → OnOk r (H → T)
    by (Ok x) was then = λ h. then h (was h)
    by (Err fault) was then = tt

pub returns-in-Err-clause-disk : goal.returns-in-Err-clause-disk
returns-in-Err-clause-disk g c =
    let now = g.M.Machine.now in
    let front = c.as_slice.result.now in
    let bytes = c.args.bytes.now in
    let is = parts g (goal.at.returns-in-Err-clause-disk g c).After-as_slice in
    says_more c.in-Err.ensures.disk (λ h left u. utters_as (front ++ bytes) _ (now c.args.m.now) left is (utters_more front bytes (now c.args.m.now) left u))
