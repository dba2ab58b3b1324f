use Rattle.std.proofs.Common.{◌≡◌, ◌++◌, ℕ, List, refl, sym, ◌∙◌, ap, subst}
use Rattle.std.specs.Prelude.{Result, Ok, Err}
use Rattle.fsd_files.specs.declared.reply.Reply.{Reply}
use Rattle.fsd_files.specs.declared.reply.Reply.TheVariants as Said
use Rattle.fsd_texts.specs.declared.command.Command.TheVariants as Word
use Rattle.fsd_texts.specs.declared.fault.Fault.TheVariants as Ends
use Rattle.fsd_runs.specs.Commands.{reply_alone, reply_status}
use Rattle.scrub.specs.Telling.{AreOfPage}
use Rattle.volume_contract.specs.State.{State, forced_of}
use Rattle.volume_turns.specs.declared.turns.Halt.{Halt}
use Rattle.volume_turns.specs.declared.turns.Halt.TheVariants.{Fault as Stopped}
use Rattle.volume_turns.specs.Answering.{ClosesBy, MayAnswer}
use Rattle.volume_turns.specs.Commands.{IsStatusFrom}
use Rattle.volume_turns.specs.Once.{ClosesAndSays, unit_of}
use Rattle.volume_turns.specs.Steps.{Does}
use Rattle.volume_turns.specs.Turns.{WantsNone}
use Rattle.volume_turns.proofs.AnsweringLaws.{alone_closed, says_so}
use Rattle.volume_turns.proofs.LineLaws.{wants_not}
use Rattle.volume_turns.proofs.LongerLaws.{wrote_longer, wrote_none}
use Rattle.volume_turns.proofs.OnceLaws.{alone_answered, alone_unbegun, answered_held}
use Rattle.volume_turns.proofs.SayLaws.{timed_by}
use Rattle.volume_turns.proofs.StatusLaws.{status_at}
use Rattle.volume_turns.proofs.SpeaksLaws.{grown_failed, speaks_done, speaks_ended, speaks_grown, speaks_none, speaks_text}
use Rattle.volume_turns.proofs.ToldLaws.{unsaid_told}
use Rattle.volume_turns.proofs.GrowLaws.{ends_grown, ends_refused, free_told, grow_failed, grow_idle, grown_alone, grown_answers}
use Rattle.volume_turns.proofs.grow.grow_alone.Goals as goal

pub returns-in_default-clause-does : goal.returns-in_default-clause-does
returns-in_default-clause-does g c h k none idle stands on =
    let V = g.V.Files in
    let M = g.M.Machine in
    let timed = timed_by M g.met.M.Machine.dated g.met.M.Machine.history g.met.M.Machine.counts_now g.met.M.Machine.only_now in
    alone_unbegun V.state V.holds M (Word.Grow c.args.sectors) c.args.v c.args.m.now k (timed c.args.m.now h) stands on

-- ---- it is done

pub returns-in-Ok-say_forced-clause-does : goal.returns-in-Ok-say_forced-clause-does
returns-in-Ok-say_forced-clause-does g c h k none idle stands on =
    let V = g.V.Files in
    let M = g.M.Machine in
    let v = c.args.v in
    let w = c.grow.new.v in
    let a = c.args.m.now in
    let m = c.grow.new.m in
    let b = c.say_forced.new.m in
    let e = c.in-Ok-grow.ensures in
    let say = c.say_forced.ensures in
    let back = say.says.trust.honest h in
    let ends = ends_grown c.args.sectors (V.state c.args.v) (V.state c.grow.new.v) c.in-Ok-grow.answer (sym c.is_grown.ensures ∙ c.if-is_grown.true) c.in-Ok-grow.ensures.ends in
    let is = ends.1 in
    let free = free_told c.args.sectors ends.0 (V.state v) (V.state w) ends.2 c.free_with-free.result c.free_with-free.ensures in
    let does = subst (λ (x : Reply). Does V.state V.holds (Word.Grow c.args.sectors) v w k (M.now a) (M.now m) (Ok x)) is (e.done back k stands) in
    let timed = timed_by M g.met.M.Machine.dated g.met.M.Machine.history g.met.M.Machine.counts_now g.met.M.Machine.only_now in
    grown_alone V.state V.holds M g.met.V.Files.wears (λ x honest. g.met.M.Machine.short x honest) timed c.args.sectors ends.0 v w a m b k idle none stands on (wrote_longer e.disk) back (say.says.since h) ends.2 does
    c.as_slice.result.now (c.as_slice.ensures.value ∙ c.in-Ok.ensures ∙ ap (λ (f : ℕ). g.T.Says.errand.says (Said.Grown c.args.sectors f)) free ∙ ap (λ (says : Reply → List ℕ). says (Said.Grown c.args.sectors ends.0)) c.requires.says) h (say.moments h) (Ok 0) (λ wrong. absurd (cc wrong)) refl
    (c.in-Ok-say_forced.ensures.said h) (c.in-Ok-say_forced.ensures.synced h) tt

pub returns-then-is_grown-clause-undone : goal.returns-then-is_grown-clause-undone
returns-then-is_grown-clause-undone g c is = let same : c.in-Err-say_forced.end ≡ Stopped Ends.Memory = cc is in absurd (subst WantsNone same c.in-Err-say_forced.ensures.wants tt)

pub returns-then-is_grown-clause-answers : goal.returns-then-is_grown-clause-answers
returns-then-is_grown-clause-answers g c h =
    let V = g.V.Files in
    let M = g.M.Machine in
    let s = V.state c.args.v in
    let t = V.state c.grow.new.v in
    let a = c.args.m.now in
    let m = c.grow.new.m in
    let b = c.say_forced.new.m in
    let e = c.in-Ok-grow.ensures in
    let back = c.say_forced.ensures.says.trust.honest h in
    let end = c.in-Err-say_forced.end in
    let r : Result (Unit {0}) Halt = Err end in
    let ends = ends_grown c.args.sectors (V.state c.args.v) (V.state c.grow.new.v) c.in-Ok-grow.answer (sym c.is_grown.ensures ∙ c.if-is_grown.true) c.in-Ok-grow.ensures.ends in
    let is = ends.1 in
    let answers = subst (λ (x : Reply). MayAnswer (Word.Grow c.args.sectors) s t (M.now a) (M.now m) (Ok x)) is (e.tells.answers back) in
    let run = c.say_forced.ensures.moments h in
    let utters = (run.each (M.now b) (g.met.M.Machine.counts_now b (M.moment m) h run.later)).utters in
    let unsaid = c.in-Err-say_forced.ensures.unsaid h in
    grown_answers c.args.sectors ends.0 s t (M.now a) (M.now m) (M.now b) (e.disk.windows back) (e.disk.quiet back) answers (record { image = utters.image; windows = utters.windows }) (Err end) tt
    (says_so (reply_alone (Said.Grown c.args.sectors ends.0)) (M.now m) (M.now b) r tt unsaid) (wants_not Ends.WornOut tt r c.in-Err-say_forced.ensures.wants) (unsaid_told AreOfPage s.layout (M.now b).image (M.now m) (M.now b) r unsaid)

pub returns-then-is_grown-clause-does : goal.returns-then-is_grown-clause-does
returns-then-is_grown-clause-does g c h k none idle stands on =
    let V = g.V.Files in
    let M = g.M.Machine in
    let v = c.args.v in
    let w = c.grow.new.v in
    let a = c.args.m.now in
    let m = c.grow.new.m in
    let b = c.say_forced.new.m in
    let e = c.in-Ok-grow.ensures in
    let say = c.say_forced.ensures in
    let back = say.says.trust.honest h in
    let end = c.in-Err-say_forced.end in
    let ends = ends_grown c.args.sectors (V.state c.args.v) (V.state c.grow.new.v) c.in-Ok-grow.answer (sym c.is_grown.ensures ∙ c.if-is_grown.true) c.in-Ok-grow.ensures.ends in
    let is = ends.1 in
    let free = free_told c.args.sectors ends.0 (V.state v) (V.state w) ends.2 c.free_with-free.result c.free_with-free.ensures in
    let does = subst (λ (x : Reply). Does V.state V.holds (Word.Grow c.args.sectors) v w k (M.now a) (M.now m) (Ok x)) is (e.done back k stands) in
    let timed = timed_by M g.met.M.Machine.dated g.met.M.Machine.history g.met.M.Machine.counts_now g.met.M.Machine.only_now in
    grown_alone V.state V.holds M g.met.V.Files.wears (λ x honest. g.met.M.Machine.short x honest) timed c.args.sectors ends.0 v w a m b k idle none stands on (wrote_longer e.disk) back (say.says.since h) ends.2 does
    c.as_slice.result.now (c.as_slice.ensures.value ∙ c.in-Ok.ensures ∙ ap (λ (f : ℕ). g.T.Says.errand.says (Said.Grown c.args.sectors f)) free ∙ ap (λ (says : Reply → List ℕ). says (Said.Grown c.args.sectors ends.0)) c.requires.says) h (say.moments h) (Err end)
    (λ is. let same : end ≡ Stopped Ends.Memory = cc is in absurd (subst WantsNone same c.in-Err-say_forced.ensures.wants tt)) tt tt tt (c.in-Err-say_forced.ensures.unsaid h)

-- ---- it was done before

pub returns-in-Ok-grow-clause-does : goal.returns-in-Ok-grow-clause-does
returns-in-Ok-grow-clause-does g c h k none idle stands on =
    let V = g.V.Files in
    let M = g.M.Machine in
    let v = c.args.v in
    let w = c.grow.new.v in
    let a = c.args.m.now in
    let m = c.grow.new.m in
    let b = c.close_as.new.m in
    let e = c.in-Ok-grow.ensures in
    let close = c.close_as.ensures in
    let back = close.speaks.trust.honest h in
    let done = ends_refused c.args.sectors (V.state v) (V.state w) c.in-Ok-grow.answer (sym c.is_grown.ensures ∙ c.if-is_grown.false) e.ends in
    let does = e.done back k stands in
    let reply = c.in-Ok-grow.answer in
    let layout = ap (λ (x : State). x.layout) done.2.1 in
    let timed = timed_by M g.met.M.Machine.dated g.met.M.Machine.history g.met.M.Machine.counts_now g.met.M.Machine.only_now in
    let disk = wrote_none V.state V.holds M v a m (e.idle (grow_idle c.args.sectors (V.state v) done.0 c.requires.up done.2.0)) (λ left honest is. g.met.M.Machine.only_now a left honest is) in
    let held = answered_held V.state V.holds M g.met.V.Files.wears (λ x honest. g.met.M.Machine.short x honest) timed (Word.Grow c.args.sectors) v w a m b k idle stands on (λ l. l) disk back (close.speaks.since h) does.0 reply does.1 does.2 layout in
    alone_answered V.state V.holds M g.met.V.Files.wears (λ x honest. g.met.M.Machine.short x honest) timed (Word.Grow c.args.sectors) v w a m b k idle stands on (λ l. l) disk back (close.speaks.since h) does.0 reply does.1 does.2 layout refl c.close_as.result close.undone close.status
    (subst (λ (says : Reply → List ℕ). ClosesAndSays M does.0 (forced_of k) (says reply) m b (unit_of c.close_as.result)) c.requires.says (close.closes h does.0 (forced_of k) does.2 held))

pub returns-in-Ok-grow-clause-status : goal.returns-in-Ok-grow-clause-status
returns-in-Ok-grow-clause-status g c =
    let V = g.V.Files in
    let done = ends_refused c.args.sectors (V.state c.args.v) (V.state c.grow.new.v) c.in-Ok-grow.answer (sym c.is_grown.ensures ∙ c.if-is_grown.false) c.in-Ok-grow.ensures.ends in
    status_at (IsStatusFrom (Word.Grow c.args.sectors)) (reply_status c.in-Ok-grow.answer) c.close_as.result c.close_as.ensures.status
    (subst (λ (x : Reply). IsStatusFrom (Word.Grow c.args.sectors) (reply_status x)) (sym done.1) refl)

-- ---- a write of a root has failed

pub returns-clause-does : goal.returns-clause-does
returns-clause-does g c h k none idle stands on =
    let V = g.V.Files in
    let M = g.M.Machine in
    let v = c.args.v in
    let w = c.grow.new.v in
    let e = c.in-Err.ensures in
    let timed = timed_by M g.met.M.Machine.dated g.met.M.Machine.history g.met.M.Machine.counts_now g.met.M.Machine.only_now in
    grow_failed V.state V.holds M g.met.V.Files.wears (λ x honest. g.met.M.Machine.short x honest) timed c.args.sectors v w c.args.m.now c.grow.new.m k idle stands on (wrote_longer e.disk) h c.in-Err.fault e.ends

-- ---- what it asks for and keeps

pub returns-in_default-clause-speaks : goal.returns-in_default-clause-speaks
returns-in_default-clause-speaks g c = speaks_none c.args.m.now

pub returns-in-Ok-say_forced-clause-speaks : goal.returns-in-Ok-say_forced-clause-speaks
returns-in-Ok-say_forced-clause-speaks g c =
    speaks_grown c.in-Ok-grow.ensures.disk (speaks_done _ 0 (speaks_text c.in-Ok-say_forced.ensures.says (λ h. (c.say_forced.ensures.moments h).later)))

pub returns-then-is_grown-clause-speaks : goal.returns-then-is_grown-clause-speaks
returns-then-is_grown-clause-speaks g c =
    speaks_grown c.in-Ok-grow.ensures.disk (speaks_ended c.in-Err-say_forced.end (speaks_text c.in-Err-say_forced.ensures.says (λ h. (c.say_forced.ensures.moments h).later)))

pub returns-in-Ok-grow-clause-speaks : goal.returns-in-Ok-grow-clause-speaks
returns-in-Ok-grow-clause-speaks g c = speaks_grown c.in-Ok-grow.ensures.disk c.close_as.ensures.speaks

pub returns-clause-speaks : goal.returns-clause-speaks
returns-clause-speaks g c = grown_failed c.in-Err.fault refl c.in-Err.ensures.fault c.in-Err.ensures.disk

-- a refusal has done nothing
pub returns-in-Ok-grow-clause-undone : goal.returns-in-Ok-grow-clause-undone
returns-in-Ok-grow-clause-undone g c is =
    let s = g.V.Files.state c.args.v in
    let done = ends_refused c.args.sectors s (g.V.Files.state c.grow.new.v) c.in-Ok-grow.answer (sym c.is_grown.ensures ∙ c.if-is_grown.false) c.in-Ok-grow.ensures.ends in
    c.close_as.ensures.undone is ∙ c.in-Ok-grow.ensures.idle (grow_idle c.args.sectors s done.0 c.requires.up done.2.0)

-- ---- what is said and written

pub returns-in-Ok-say_forced-clause-answers : goal.returns-in-Ok-say_forced-clause-answers
returns-in-Ok-say_forced-clause-answers g c h =
    let V = g.V.Files in
    let M = g.M.Machine in
    let s = V.state c.args.v in
    let t = V.state c.grow.new.v in
    let a = c.args.m.now in
    let m = c.grow.new.m in
    let b = c.say_forced.new.m in
    let e = c.in-Ok-grow.ensures in
    let back = c.say_forced.ensures.says.trust.honest h in
    let ends = ends_grown c.args.sectors s t c.in-Ok-grow.answer (sym c.is_grown.ensures ∙ c.if-is_grown.true) e.ends in
    let free = free_told c.args.sectors ends.0 s t ends.2 c.free_with-free.result c.free_with-free.ensures in
    let answers = subst (λ (x : Reply). MayAnswer (Word.Grow c.args.sectors) s t (M.now a) (M.now m) (Ok x)) ends.1 (e.tells.answers back) in
    let run = c.say_forced.ensures.moments h in
    let utters = (run.each (M.now b) (g.met.M.Machine.counts_now b (M.moment m) h run.later)).utters in
    let text = c.as_slice.ensures.value ∙ c.in-Ok.ensures ∙ ap (λ (f : ℕ). g.T.Says.errand.says (Said.Grown c.args.sectors f)) free ∙ ap (λ (says : Reply → List ℕ). says (Said.Grown c.args.sectors ends.0)) c.requires.says in
    grown_answers c.args.sectors ends.0 s t (M.now a) (M.now m) (M.now b) (e.disk.windows back) (e.disk.quiet back) answers (record { image = utters.image; windows = utters.windows }) (Ok 0) refl
    ((c.in-Ok-say_forced.ensures.said h).said ∙ ap (λ (x : List ℕ). (M.now m).said ++ x) text) (λ is. absurd (cc is)) (λ why is. absurd (cc is))

pub returns-in-Ok-grow-clause-answers : goal.returns-in-Ok-grow-clause-answers
returns-in-Ok-grow-clause-answers g c h =
    let V = g.V.Files in
    let M = g.M.Machine in
    let s = V.state c.args.v in
    let t = V.state c.grow.new.v in
    let m = c.grow.new.m in
    let b = c.close_as.new.m in
    let e = c.in-Ok-grow.ensures in
    let close = c.close_as.ensures in
    let back = close.speaks.trust.honest h in
    let done = ends_refused c.args.sectors s t c.in-Ok-grow.answer (sym c.is_grown.ensures ∙ c.if-is_grown.false) e.ends in
    alone_closed (Word.Grow c.args.sectors) s t (M.now c.args.m.now) (M.now m) (e.disk.windows back) (e.disk.quiet back) (M.now b) c.in-Ok-grow.answer c.close_as.result (ap (λ (x : State). x.layout) done.2.1) tt (e.tells.answers back) close.status
    (subst (λ (says : Reply → List ℕ). ClosesBy t (says c.in-Ok-grow.answer) (M.now m) (M.now b) (unit_of c.close_as.result)) c.requires.says (close.closing h))
