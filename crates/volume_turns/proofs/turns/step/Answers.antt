use Rattle.std.proofs.Common.{◌≡◌, ◌≤◌, List, inl, refl, ap, subst}
use Rattle.std.proofs.lemmas.Result.{on_ok_weaker}
use Rattle.std.specs.Prelude.{Err, IsTrue}
use Rattle.fsd_texts.specs.declared.fault.Fault.{Fault}
use Rattle.fsd_texts.specs.declared.fault.Fault.TheVariants as Ends
use Rattle.sector_disk.specs.Image.{AreShort, Windows}
use Rattle.sector_disk.proofs.ResultLaws.{ok_as}
use Rattle.volume_turns.specs.Calls.{MayLoseIn}
use Rattle.volume_turns.specs.Turns.{SaysAll, Unsaid}
use Rattle.volume_turns.proofs.RunLaws.{step_said, step_fault, on_ok_said, on_err_said}
use Rattle.client_desk.specs.declared.client.Client.{Client}
use Rattle.volume_turns.proofs.SeatLaws.{seat_wears}
use Rattle.volume_turns.proofs.AnsweringLaws.{says_so}
use Rattle.volume_turns.proofs.EachLaws.{once_by}
use Rattle.volume_turns.proofs.SaidLaws.{no_replies, whole_by}
use Rattle.volume_turns.proofs.SayLaws.{timed_by}
use Rattle.volume_turns.proofs.SpeaksLaws.{speaks_behind, speaks_failed, speaks_text}
use Rattle.volume_turns.proofs.SyncLaws.{syncs_answered}
use Rattle.volume_turns.proofs.ToldLaws.{unsaid_on}
use Rattle.volume_turns.proofs.WornLaws.{unsaid_unworn}
use Rattle.volume_turns.proofs.NumberLaws.{worn_may}
use Rattle.volume_turns.proofs.turns.step.Goals as goal

pub returns-in-Ok-clause-steps : goal.returns-in-Ok-clause-steps
returns-in-Ok-clause-steps g c h k f from stood aged held =
    let V = g.V.Files in
    let M = g.M.Machine in
    let a = c.args.m.now in
    let v : g.row.V.Denot × List Client = (c.args.v.now, c.args.desk.now) in
    let back = c.say.ensures.says.trust.honest h in
    let disk = c.answer_in.ensures.disk in
    let first = disk.trust.honest back in
    let short = λ (m : g.row.M.Denot) (x : M.honest m). g.met.M.Machine.short m x in
    let at = seat_wears V.state V.holds g.met.V.Files.wears v k from (M.now a) (subst (λ (w : Windows). AreShort w) aged.windows (short a first)) aged stood in
    let does = c.in-Ok.ensures.done back k at in
    step_said V.state V.holds M g.met.V.Files.wears short (timed_by M g.met.M.Machine.dated g.met.M.Machine.history g.met.M.Machine.counts_now g.met.M.Machine.only_now) g.T.Says.errand c.requires.lazily c.args.c.now v (c.answer_in.new.v, c.answer_in.new.desk) a c.answer_in.new.m c.say.new.m k f from stood aged at _ c.in-Ok.ensures.disk back (c.say.ensures.says.since h) held
    does.0 c.in-Ok.answer does.1 does.2 c.in-Ok.ensures.keeps.layout (timed_by M g.met.M.Machine.dated g.met.M.Machine.history g.met.M.Machine.counts_now g.met.M.Machine.only_now c.say.new.m h) (c.say.ensures.moments h) c.say.result (on_ok_said (SaysAll (g.T.Says.errand.says c.in-Ok.answer) (M.now c.answer_in.new.m) (M.now c.say.new.m)) c.say.result h c.say.ensures.said)
    (on_ok_weaker c.say.result (λ (x : IsTrue (g.T.Says.errand.forces c.in-Ok.answer) → M.honest c.say.new.m → (M.now c.answer_in.new.m).time ≤ (M.now c.say.new.m).synced) forces. x forces h) c.say.ensures.synced) (on_err_said (Unsaid (M.now c.answer_in.new.m) (M.now c.say.new.m)) c.say.result h c.say.ensures.unsaid)

pub returns-in-Err-clause-steps : goal.returns-in-Err-clause-steps
returns-in-Err-clause-steps g c h k f from stood aged held =
    let V = g.V.Files in
    let M = g.M.Machine in
    let a = c.args.m.now in
    let v : g.row.V.Denot × List Client = (c.args.v.now, c.args.desk.now) in
    let disk = c.in-Err.ensures.disk in
    let first = disk.trust.honest h in
    let short = λ (m : g.row.M.Denot) (x : M.honest m). g.met.M.Machine.short m x in
    let at = seat_wears V.state V.holds g.met.V.Files.wears v k from (M.now a) (subst (λ (w : Windows). AreShort w) aged.windows (short a first)) aged stood in
    step_fault V.state V.holds M g.met.V.Files.wears short (timed_by M g.met.M.Machine.dated g.met.M.Machine.history g.met.M.Machine.counts_now g.met.M.Machine.only_now) g.T.Says.errand c.requires.lazily c.args.c.now v (c.answer_in.new.v, c.answer_in.new.desk) a c.answer_in.new.m c.answer_in.new.m k f from stood aged at _ disk h (λ t left le was. was) held
    c.in-Err.fault (c.in-Err.ensures.done h k at)

-- ---- what is said

pub returns-in-Ok-clause-says : goal.returns-in-Ok-clause-says
returns-in-Ok-clause-says g c =
    let M = g.M.Machine in
    let says = g.T.Says.errand.says in
    let reply = c.in-Ok.answer in
    let a = M.now c.args.m.now in
    let m = M.now c.answer_in.new.m in
    let b = M.now c.say.new.m in
    let say = c.say.ensures in
    let result = c.say.result in
    let disk = c.in-Ok.ensures.disk in
    record {
      whole_replies = λ h. whole_by says a m b reply (disk.quiet (say.says.trust.honest h)) result
          (says_so (says reply) m b result (on_ok_said (SaysAll (says reply) m b) result h say.said) (on_err_said (Unsaid m b) result h say.unsaid));
      once = once_by says c.args.c.now reply (M.honest c.say.new.m) (M.honest c.answer_in.new.m) a m b say.says.trust.honest disk.quiet (λ h. (c.in-Ok.ensures.answers h).replies) result say.said;
      syncs = λ h. let back = say.says.trust.honest h in
          syncs_answered g.T.Says.errand.forces c.args.c.now m.image reply (M.ledger c.args.m.now) (M.ledger c.answer_in.new.m) (M.ledger c.say.new.m) (disk.ledger (g.met.M.Machine.honest_tells c.answer_in.new.m back)) (c.in-Ok.ensures.answers back).replies (say.says.ledger (g.met.M.Machine.honest_tells c.say.new.m h));
    }

pub returns-in-Err-clause-says : goal.returns-in-Err-clause-says
returns-in-Err-clause-says g c = record {
  whole_replies = λ h. no_replies g.T.Says.errand.says (g.M.Machine.now c.args.m.now).said (g.M.Machine.now c.answer_in.new.m).said (c.in-Err.ensures.disk.quiet h);
  once = tt;
  syncs = λ h. inl (c.in-Err.ensures.disk.ledger (g.met.M.Machine.honest_tells c.answer_in.new.m h)).syncs;
}

-- ---- what is told of the image

pub returns-in-Ok-clause-image : goal.returns-in-Ok-clause-image
returns-in-Ok-clause-image g c =
    let M = g.M.Machine in
    let b = c.say.new.m in
    unsaid_on (MayLoseIn c.args.c.now) (g.V.Files.state c.args.v.now).layout (M.now b).image (M.honest b) (M.now c.answer_in.new.m) (M.now b) c.say.result c.say.ensures.unsaid

pub returns-in-Err-clause-image : goal.returns-in-Err-clause-image
returns-in-Err-clause-image g c h = (c.in-Err.ensures.answers h).told

-- ---- the numbers of a mount

pub returns-in-Ok-clause-numbers : goal.returns-in-Ok-clause-numbers
returns-in-Ok-clause-numbers g c =
    let m = g.M.Machine.now c.answer_in.new.m in
    let b = g.M.Machine.now c.say.new.m in
    record {
      grows = λ h. (c.answer_in.ensures.answers (c.say.ensures.says.trust.honest h)).numbers;
      used = λ is h. absurd (unsaid_unworn m b c.say.result (on_err_said (Unsaid m b) c.say.result h c.say.ensures.unsaid) is);
    }

pub returns-in-Err-clause-numbers : goal.returns-in-Err-clause-numbers
returns-in-Err-clause-numbers g c = record {
  grows = λ h. (c.answer_in.ensures.answers h).numbers;
  used = λ is h.
      let e : c.in-Err.fault ≡ Ends.WornOut = cc is in
      worn_may (g.V.Files.state c.args.v.now) ((c.in-Err.ensures.answers h).worn (ap (λ (w : Fault). Err w) e));
}

-- ---- what it asks for and keeps

pub returns-in-Ok-clause-speaks : goal.returns-in-Ok-clause-speaks
returns-in-Ok-clause-speaks g c = speaks_behind c.in-Ok.ensures.disk (speaks_text c.say.ensures.says (λ h. (c.say.ensures.moments h).later))

pub returns-in-Err-clause-speaks : goal.returns-in-Err-clause-speaks
returns-in-Err-clause-speaks g c = speaks_failed c.in-Err.fault refl c.in-Err.ensures.fault c.in-Err.ensures.disk

pub returns-in-Ok-clause-keeps : goal.returns-in-Ok-clause-keeps
returns-in-Ok-clause-keeps g c = let keeps = c.in-Ok.ensures.keeps in record { layout = keeps.layout; up = ok_as _ c.say.result keeps.up; desk = keeps.desk }

pub returns-in-Err-clause-keeps : goal.returns-in-Err-clause-keeps
returns-in-Err-clause-keeps g c = let keeps = c.in-Err.ensures.keeps in record { layout = keeps.layout; up = tt; desk = keeps.desk }
