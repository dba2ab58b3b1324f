use Rattle.std.specs.Option.{option_copied}
use Rattle.volume_example.proofs.CountLaws.{all_counted}
use Rattle.std.proofs.Common.{◌≡◌, [], ◌∷◌, ◌++◌, Option, None, Some, refl, ◌∙◌, ap, subst, arith}
use Rattle.fsd_bytes.specs.declared.key.Key.{Key}
use Rattle.fsd_formats.specs.declared.entry.Entry.{Entry}
use Rattle.fsd_files.specs.Answers.{entry_after}
use Rattle.fsd_files.specs.declared.reply.Reply.TheVariants.{Found}
use Rattle.sector_disk.proofs.CallLaws.{reads_none, reads_then}
use Rattle.volume_contract.specs.State.{State, volume_of}
use Rattle.scrub.proofs.WalkLaws.{walked_all, walked_more, walked_none}
use Rattle.scrub.proofs.LookedLaws.{outside_only}
use Rattle.volume_example.proofs.walking.count.Goals as goal

pub loop-count-init : goal.loop-count-init
loop-count-init g c = record {
  state = refl;
  disk = reads_none c.args.m.now (λ left h was. g.met.M.Machine.only_now c.args.m.now left h was);
  stands = λ h k stands. stands;
  walked = λ h k stands. ([], walked_none (volume_of k).entries);
}

pub next_after-requires : goal.next_after-requires
next_after-requires g c =
    let was = c.loop-count.invariant in
    let same = ap (λ (s : State). s.layout.sectors) was.state in
    let sectors = was.disk.uses.sectors in
    let room = c.requires in
    omega (arith, same, sectors, room)

pub loop-count-preserved : goal.loop-count-preserved
loop-count-preserved g c =
    let V = g.V.Files in
    let was = c.loop-count.invariant in
    let next = c.in-Ok-Some.ensures in
    record {
      state = next.state ∙ was.state;
      disk = reads_then was.disk next.disk;
      stands = λ h k stands. next.stands h k (was.stands (next.disk.trust.honest h) k stands);
      walked = λ h k stands.
          let back = next.disk.trust.honest h in
          let w = was.walked back k stands in
          let found = subst (λ (o : Option Entry). Found (entry_after (option_copied c.as_ref.result) (volume_of k).entries) ≡ Found o) c.in-Ok-Some.field-0-is (next.done h k (was.stands back k stands)) in
          let looks = subst (λ (o : Option Key). Found (entry_after o (volume_of k).entries) ≡ Found (Some c.in-Ok-Some.entry)) c.as_ref.ensures.value found in
          (w.0 ++ c.in-Ok-Some.entry ∷ [], walked_more V.state V.holds c.args.v.now k (g.M.Machine.now c.args.m.now) stands w.0 c.loop-count.count c.loop-count.last w.1 c.in-Ok-Some.entry looks);
    }

pub returns-in-Ok-None-clause-state : goal.returns-in-Ok-None-clause-state
returns-in-Ok-None-clause-state g c = c.in-Ok-None.ensures.state ∙ c.loop-count.invariant.state

pub returns-in-Ok-None-clause-disk : goal.returns-in-Ok-None-clause-disk
returns-in-Ok-None-clause-disk g c = reads_then c.loop-count.invariant.disk c.in-Ok-None.ensures.disk

pub returns-in-Ok-None-clause-stands : goal.returns-in-Ok-None-clause-stands
returns-in-Ok-None-clause-stands g c h k stands = c.in-Ok-None.ensures.stands h k (c.loop-count.invariant.stands (c.in-Ok-None.ensures.disk.trust.honest h) k stands)

pub returns-in-Ok-None-clause-done : goal.returns-in-Ok-None-clause-done
returns-in-Ok-None-clause-done g c h k stands =
    let V = g.V.Files in
    let was = c.loop-count.invariant in
    let next = c.in-Ok-None.ensures in
    let back = next.disk.trust.honest h in
    let w = was.walked back k stands in
    let found = subst (λ (o : Option Entry). Found (entry_after (option_copied c.as_ref.result) (volume_of k).entries) ≡ Found o) c.in-Ok-None.field-0-is (next.done h k (was.stands back k stands)) in
    let looks = subst (λ (o : Option Key). Found (entry_after o (volume_of k).entries) ≡ Found None) c.as_ref.ensures.value found in
    all_counted (volume_of k) w.0 c.loop-count.count w.1.met stands.disk.described.lists (walked_all V.state V.holds c.args.v.now k (g.M.Machine.now c.args.m.now) stands w.0 c.loop-count.count c.loop-count.last w.1 looks)

pub returns-in-Err-clause-state : goal.returns-in-Err-clause-state
returns-in-Err-clause-state g c = c.in-Err.ensures.state ∙ c.loop-count.invariant.state

pub returns-in-Err-clause-disk : goal.returns-in-Err-clause-disk
returns-in-Err-clause-disk g c = reads_then c.loop-count.invariant.disk c.in-Err.ensures.disk

pub returns-in-Err-clause-stands : goal.returns-in-Err-clause-stands
returns-in-Err-clause-stands g c h k stands = c.in-Err.ensures.stands h k (c.loop-count.invariant.stands (c.in-Err.ensures.disk.trust.honest h) k stands)

pub returns-in-Err-clause-done : goal.returns-in-Err-clause-done
returns-in-Err-clause-done g c h k stands =
    outside_only (entry_after (option_copied c.as_ref.result) (volume_of k).entries) c.in-Err.why (c.in-Err.ensures.done h k (c.loop-count.invariant.stands (c.in-Err.ensures.disk.trust.honest h) k stands))

pub returns-clause-state : goal.returns-clause-state
returns-clause-state g c = c.loop-count.invariant.state

pub returns-clause-disk : goal.returns-clause-disk
returns-clause-disk g c = c.loop-count.invariant.disk

pub returns-clause-stands : goal.returns-clause-stands
returns-clause-stands g c h k stands = c.loop-count.invariant.stands h k stands
