use Rattle.std.proofs.Common.{◌≡◌, ℕ, List, refl, sym, ◌∙◌, ap, subst}
use Rattle.std.specs.Prelude.{Result, Ok, Err}
use Rattle.fsd_files.specs.declared.reply.Reply.{Reply}
use Rattle.fsd_files.specs.declared.reply.Reply.TheVariants as Said
use Rattle.fsd_texts.specs.declared.command.Command.TheVariants as Word
use Rattle.fsd_texts.specs.declared.fault.Fault.TheVariants as Ends
use Rattle.fsd_runs.specs.Commands.{reply_alone, reply_status}
use Rattle.scrub.specs.Telling.{AreOfPage}
use Rattle.volume_contract.specs.State.{State, forced_of}
use Rattle.volume_turns.specs.declared.turns.Halt.{Halt}
use Rattle.volume_turns.specs.declared.turns.Halt.TheVariants.{Fault as Stopped}
use Rattle.volume_turns.specs.Answering.{ClosesBy, MayAnswer}
use Rattle.volume_turns.specs.Commands.{IsStatusFrom}
use Rattle.volume_turns.specs.Once.{ClosesAndSays, unit_of}
use Rattle.volume_turns.specs.Reasons.{BecauseUpgraded}
use Rattle.volume_turns.specs.Steps.{Does}
use Rattle.volume_turns.specs.Turns.{WantsNone}
use Rattle.volume_turns.specs.Upgrade.{EndsState}
use Rattle.volume_turns.proofs.AnsweringLaws.{alone_closed, says_so}
use Rattle.volume_turns.proofs.LineLaws.{wants_not}
use Rattle.volume_turns.proofs.LongerLaws.{wrote, wrote_none}
use Rattle.volume_turns.proofs.OnceLaws.{alone_answered, alone_unbegun, answered_held}
use Rattle.volume_turns.proofs.SayLaws.{timed_by}
use Rattle.volume_turns.proofs.StatusLaws.{status_at}
use Rattle.volume_turns.proofs.SpeaksLaws.{speaks_behind, speaks_done, speaks_ended, speaks_failed, speaks_none, speaks_text}
use Rattle.volume_turns.proofs.ToldLaws.{unsaid_told}
use Rattle.volume_turns.proofs.UpgradeLaws.{ends_done, ends_upgraded, upgrade_failed, upgrade_idle, upgraded_alone, upgraded_answers}
use Rattle.volume_turns.proofs.upgrade.upgrade_alone.Goals as goal

pub returns-in_default-clause-does : goal.returns-in_default-clause-does
returns-in_default-clause-does g c h k none idle stands on =
    let V = g.V.Files in
    let M = g.M.Machine in
    let timed = timed_by M g.met.M.Machine.dated g.met.M.Machine.history g.met.M.Machine.counts_now g.met.M.Machine.only_now in
    alone_unbegun V.state V.holds M Word.Upgrade c.args.v c.args.m.now k (timed c.args.m.now h) stands on

-- ---- it is done

pub returns-in-Ok-say_forced-clause-does : goal.returns-in-Ok-say_forced-clause-does
returns-in-Ok-say_forced-clause-does g c h k none idle stands on =
    let V = g.V.Files in
    let M = g.M.Machine in
    let v = c.args.v in
    let w = c.upgrade.new.v in
    let a = c.args.m.now in
    let m = c.upgrade.new.m in
    let b = c.say_forced.new.m in
    let e = c.in-Ok-upgrade.ensures in
    let say = c.say_forced.ensures in
    let back = say.says.trust.honest h in
    let is : c.in-Ok-upgrade.answer ≡ Said.Upgraded = ends_upgraded c.in-Ok-upgrade.answer (sym c.is_upgraded.ensures ∙ c.if-is_upgraded.true) in
    let ends = subst (λ (x : Reply). EndsState (V.state v) (V.state w) (Ok x)) is e.ends in
    let because = subst (λ (x : Reply). BecauseUpgraded (V.state v) (V.state w) (M.now m) x) is (e.tells.because back) in
    let does = subst (λ (x : Reply). Does V.state V.holds Word.Upgrade v w k (M.now a) (M.now m) (Ok x)) is (e.done back k stands) in
    let timed = timed_by M g.met.M.Machine.dated g.met.M.Machine.history g.met.M.Machine.counts_now g.met.M.Machine.only_now in
    upgraded_alone V.state V.holds M g.met.V.Files.wears (λ x honest. g.met.M.Machine.short x honest) timed v w a m b k idle none stands on (wrote e.disk) back (say.says.since h) ends.0 ends.1 because.2 does
    c.as_slice.result.now (c.as_slice.ensures.value ∙ c.in-Ok.ensures ∙ ap (λ (says : Reply → List ℕ). says Said.Upgraded) c.requires.says) h (say.moments h) (Ok 0) (λ wrong. absurd (cc wrong)) refl
    (c.in-Ok-say_forced.ensures.said h) (c.in-Ok-say_forced.ensures.synced h) tt

pub returns-then-is_upgraded-clause-undone : goal.returns-then-is_upgraded-clause-undone
returns-then-is_upgraded-clause-undone g c is = let same : c.in-Err-say_forced.end ≡ Stopped Ends.Memory = cc is in absurd (subst WantsNone same c.in-Err-say_forced.ensures.wants tt)

pub returns-then-is_upgraded-clause-answers : goal.returns-then-is_upgraded-clause-answers
returns-then-is_upgraded-clause-answers g c h =
    let V = g.V.Files in
    let M = g.M.Machine in
    let s = V.state c.args.v in
    let t = V.state c.upgrade.new.v in
    let a = c.args.m.now in
    let m = c.upgrade.new.m in
    let b = c.say_forced.new.m in
    let e = c.in-Ok-upgrade.ensures in
    let back = c.say_forced.ensures.says.trust.honest h in
    let end = c.in-Err-say_forced.end in
    let r : Result (Unit {0}) Halt = Err end in
    let is : c.in-Ok-upgrade.answer ≡ Said.Upgraded = ends_upgraded c.in-Ok-upgrade.answer (sym c.is_upgraded.ensures ∙ c.if-is_upgraded.true) in
    let answers = subst (λ (x : Reply). MayAnswer Word.Upgrade s t (M.now a) (M.now m) (Ok x)) is (e.tells.answers back) in
    let run = c.say_forced.ensures.moments h in
    let utters = (run.each (M.now b) (g.met.M.Machine.counts_now b (M.moment m) h run.later)).utters in
    let unsaid = c.in-Err-say_forced.ensures.unsaid h in
    upgraded_answers s t (M.now a) (M.now m) (M.now b) (e.disk.windows back) (e.disk.quiet back) answers (record { image = utters.image; windows = utters.windows }) (Err end) tt
    (says_so (reply_alone Said.Upgraded) (M.now m) (M.now b) r tt unsaid) (wants_not Ends.WornOut tt r c.in-Err-say_forced.ensures.wants) (unsaid_told AreOfPage s.layout (M.now b).image (M.now m) (M.now b) r unsaid)

pub returns-then-is_upgraded-clause-does : goal.returns-then-is_upgraded-clause-does
returns-then-is_upgraded-clause-does g c h k none idle stands on =
    let V = g.V.Files in
    let M = g.M.Machine in
    let v = c.args.v in
    let w = c.upgrade.new.v in
    let a = c.args.m.now in
    let m = c.upgrade.new.m in
    let b = c.say_forced.new.m in
    let e = c.in-Ok-upgrade.ensures in
    let say = c.say_forced.ensures in
    let back = say.says.trust.honest h in
    let end = c.in-Err-say_forced.end in
    let is : c.in-Ok-upgrade.answer ≡ Said.Upgraded = ends_upgraded c.in-Ok-upgrade.answer (sym c.is_upgraded.ensures ∙ c.if-is_upgraded.true) in
    let ends = subst (λ (x : Reply). EndsState (V.state v) (V.state w) (Ok x)) is e.ends in
    let because = subst (λ (x : Reply). BecauseUpgraded (V.state v) (V.state w) (M.now m) x) is (e.tells.because back) in
    let does = subst (λ (x : Reply). Does V.state V.holds Word.Upgrade v w k (M.now a) (M.now m) (Ok x)) is (e.done back k stands) in
    let timed = timed_by M g.met.M.Machine.dated g.met.M.Machine.history g.met.M.Machine.counts_now g.met.M.Machine.only_now in
    upgraded_alone V.state V.holds M g.met.V.Files.wears (λ x honest. g.met.M.Machine.short x honest) timed v w a m b k idle none stands on (wrote e.disk) back (say.says.since h) ends.0 ends.1 because.2 does
    c.as_slice.result.now (c.as_slice.ensures.value ∙ c.in-Ok.ensures ∙ ap (λ (says : Reply → List ℕ). says Said.Upgraded) c.requires.says) h (say.moments h) (Err end)
    (λ is. let same : end ≡ Stopped Ends.Memory = cc is in absurd (subst WantsNone same c.in-Err-say_forced.ensures.wants tt)) tt tt tt (c.in-Err-say_forced.ensures.unsaid h)

-- ---- it was done before

pub returns-in-Ok-upgrade-clause-does : goal.returns-in-Ok-upgrade-clause-does
returns-in-Ok-upgrade-clause-does g c h k none idle stands on =
    let V = g.V.Files in
    let M = g.M.Machine in
    let v = c.args.v in
    let w = c.upgrade.new.v in
    let a = c.args.m.now in
    let m = c.upgrade.new.m in
    let b = c.close_as.new.m in
    let e = c.in-Ok-upgrade.ensures in
    let close = c.close_as.ensures in
    let back = close.speaks.trust.honest h in
    let done = ends_done (V.state v) (V.state w) c.in-Ok-upgrade.answer (sym c.is_upgraded.ensures ∙ c.if-is_upgraded.false) e.ends in
    let does = e.done back k stands in
    let reply = c.in-Ok-upgrade.answer in
    let layout = ap (λ (x : State). x.layout) done.2 in
    let timed = timed_by M g.met.M.Machine.dated g.met.M.Machine.history g.met.M.Machine.counts_now g.met.M.Machine.only_now in
    let disk = wrote_none V.state V.holds M v a m (e.idle (upgrade_idle (V.state v) c.requires.up done.1)) (λ left honest is. g.met.M.Machine.only_now a left honest is) in
    let held = answered_held V.state V.holds M g.met.V.Files.wears (λ x honest. g.met.M.Machine.short x honest) timed Word.Upgrade v w a m b k idle stands on (λ l. l) disk back (close.speaks.since h) does.0 reply does.1 does.2 layout in
    alone_answered V.state V.holds M g.met.V.Files.wears (λ x honest. g.met.M.Machine.short x honest) timed Word.Upgrade v w a m b k idle stands on (λ l. l) disk back (close.speaks.since h) does.0 reply does.1 does.2 layout refl c.close_as.result close.undone close.status
    (subst (λ (says : Reply → List ℕ). ClosesAndSays M does.0 (forced_of k) (says reply) m b (unit_of c.close_as.result)) c.requires.says (close.closes h does.0 (forced_of k) does.2 held))

pub returns-in-Ok-upgrade-clause-status : goal.returns-in-Ok-upgrade-clause-status
returns-in-Ok-upgrade-clause-status g c =
    let V = g.V.Files in
    let done = ends_done (V.state c.args.v) (V.state c.upgrade.new.v) c.in-Ok-upgrade.answer (sym c.is_upgraded.ensures ∙ c.if-is_upgraded.false) c.in-Ok-upgrade.ensures.ends in
    status_at (IsStatusFrom Word.Upgrade) (reply_status c.in-Ok-upgrade.answer) c.close_as.result c.close_as.ensures.status
    (subst (λ (x : Reply). IsStatusFrom Word.Upgrade (reply_status x)) (sym done.0) refl)

pub returns-in-Ok-upgrade-clause-answers : goal.returns-in-Ok-upgrade-clause-answers
returns-in-Ok-upgrade-clause-answers g c h =
    let V = g.V.Files in
    let M = g.M.Machine in
    let s = V.state c.args.v in
    let t = V.state c.upgrade.new.v in
    let m = c.upgrade.new.m in
    let b = c.close_as.new.m in
    let e = c.in-Ok-upgrade.ensures in
    let close = c.close_as.ensures in
    let back = close.speaks.trust.honest h in
    let reply = c.in-Ok-upgrade.answer in
    let done = ends_done s t reply (sym c.is_upgraded.ensures ∙ c.if-is_upgraded.false) e.ends in
    alone_closed Word.Upgrade s t (M.now c.args.m.now) (M.now m) (e.disk.windows back) (e.disk.quiet back) (M.now b) reply c.close_as.result (ap (λ (x : State). x.layout) done.2) tt (e.tells.answers back) close.status
    (subst (λ (says : Reply → List ℕ). ClosesBy t (says reply) (M.now m) (M.now b) (unit_of c.close_as.result)) c.requires.says (close.closing h))

-- ---- a write of a root has failed

pub returns-clause-does : goal.returns-clause-does
returns-clause-does g c h k none idle stands on =
    let V = g.V.Files in
    let M = g.M.Machine in
    let v = c.args.v in
    let w = c.upgrade.new.v in
    let e = c.in-Err.ensures in
    let timed = timed_by M g.met.M.Machine.dated g.met.M.Machine.history g.met.M.Machine.counts_now g.met.M.Machine.only_now in
    upgrade_failed V.state V.holds M g.met.V.Files.wears (λ x honest. g.met.M.Machine.short x honest) timed v w c.args.m.now c.upgrade.new.m k idle stands on (wrote e.disk) h c.in-Err.fault e.ends

-- ---- what it asks for and keeps

pub returns-in_default-clause-speaks : goal.returns-in_default-clause-speaks
returns-in_default-clause-speaks g c = speaks_none c.args.m.now

pub returns-in-Ok-say_forced-clause-speaks : goal.returns-in-Ok-say_forced-clause-speaks
returns-in-Ok-say_forced-clause-speaks g c =
    speaks_behind c.in-Ok-upgrade.ensures.disk (speaks_done _ 0 (speaks_text c.in-Ok-say_forced.ensures.says (λ h. (c.say_forced.ensures.moments h).later)))

pub returns-then-is_upgraded-clause-speaks : goal.returns-then-is_upgraded-clause-speaks
returns-then-is_upgraded-clause-speaks g c =
    speaks_behind c.in-Ok-upgrade.ensures.disk (speaks_ended c.in-Err-say_forced.end (speaks_text c.in-Err-say_forced.ensures.says (λ h. (c.say_forced.ensures.moments h).later)))

pub returns-in-Ok-upgrade-clause-speaks : goal.returns-in-Ok-upgrade-clause-speaks
returns-in-Ok-upgrade-clause-speaks g c = speaks_behind c.in-Ok-upgrade.ensures.disk c.close_as.ensures.speaks

pub returns-clause-speaks : goal.returns-clause-speaks
returns-clause-speaks g c = speaks_failed c.in-Err.fault refl c.in-Err.ensures.fault c.in-Err.ensures.disk
