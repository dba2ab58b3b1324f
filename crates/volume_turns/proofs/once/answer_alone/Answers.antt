use Rattle.std.proofs.Common.{ℕ, List, refl, subst}
use Rattle.fsd_files.specs.declared.reply.Reply.{Reply}
use Rattle.fsd_runs.specs.Commands.{reply_status}
use Rattle.volume_contract.specs.State.{forced_of}
use Rattle.volume_turns.specs.Once.{ClosesAndSays, unit_of}
use Rattle.volume_turns.proofs.LongerLaws.{wrote}
use Rattle.volume_turns.proofs.OnceLaws.{alone_answered, alone_fault, answered_held}
use Rattle.volume_turns.proofs.SayLaws.{timed_by}
use Rattle.volume_turns.proofs.SpeaksLaws.{speaks_behind, speaks_failed}
use Rattle.volume_turns.specs.Commands.{IsStatusFrom}
use Rattle.volume_turns.proofs.StatusLaws.{status_at}
use Rattle.volume_turns.specs.Answering.{ClosesBy}
use Rattle.volume_turns.proofs.AnsweringLaws.{alone_closed, alone_ended, tells_data}
use Rattle.volume_turns.proofs.HealLaws.{alone_heals}
use Rattle.volume_turns.proofs.once.answer_alone.Goals as goal

pub returns-in-Ok-clause-does : goal.returns-in-Ok-clause-does
returns-in-Ok-clause-does g c h k none idle stands on =
    let V = g.V.Files in
    let M = g.M.Machine in
    let v = c.args.v in
    let w = c.answer.new.v in
    let a = c.args.m.now in
    let m = c.answer.new.m in
    let b = c.close_as.new.m in
    let back = c.close_as.ensures.speaks.trust.honest h in
    let does = c.in-Ok.ensures.done back k stands in
    let reply = c.in-Ok.answer in
    let timed = timed_by M g.met.M.Machine.dated g.met.M.Machine.history g.met.M.Machine.counts_now g.met.M.Machine.only_now in
    let held = answered_held V.state V.holds M g.met.V.Files.wears (λ x honest. g.met.M.Machine.short x honest) timed c.args.c.now v w a m b k idle stands on (λ l. l) (wrote c.in-Ok.ensures.disk) back (c.close_as.ensures.speaks.since h) does.0 reply does.1 does.2 c.in-Ok.ensures.layout in
    alone_answered V.state V.holds M g.met.V.Files.wears (λ x honest. g.met.M.Machine.short x honest) timed c.args.c.now v w a m b k idle stands on (λ l. l) (wrote c.in-Ok.ensures.disk) back (c.close_as.ensures.speaks.since h) does.0 reply does.1 does.2 c.in-Ok.ensures.layout refl
    c.close_as.result c.close_as.ensures.undone c.close_as.ensures.status
    (subst (λ (says : Reply → List ℕ). ClosesAndSays M does.0 (forced_of k) (says reply) m b (unit_of c.close_as.result)) c.requires.says (c.close_as.ensures.closes h does.0 (forced_of k) does.2 held))

pub returns-in-Err-clause-does : goal.returns-in-Err-clause-does
returns-in-Err-clause-does g c h k none idle stands on =
    let V = g.V.Files in
    let M = g.M.Machine in
    let timed = timed_by M g.met.M.Machine.dated g.met.M.Machine.history g.met.M.Machine.counts_now g.met.M.Machine.only_now in
    alone_fault V.state V.holds M g.met.V.Files.wears (λ m x. g.met.M.Machine.short m x) timed c.args.c.now c.args.v c.answer.new.v c.args.m.now c.answer.new.m c.answer.new.m k idle stands on (λ l. l) (wrote c.in-Err.ensures.disk) h (λ t left le was. was) refl
    c.in-Err.fault (λ is. c.requires.unworn) (c.in-Err.ensures.done h k stands)

pub returns-in-Ok-clause-speaks : goal.returns-in-Ok-clause-speaks
returns-in-Ok-clause-speaks g c = speaks_behind c.in-Ok.ensures.disk c.close_as.ensures.speaks

pub returns-in-Err-clause-speaks : goal.returns-in-Err-clause-speaks
returns-in-Err-clause-speaks g c = speaks_failed c.in-Err.fault refl c.in-Err.ensures.tells.fault c.in-Err.ensures.disk

pub returns-in-Ok-clause-status : goal.returns-in-Ok-clause-status
returns-in-Ok-clause-status g c = status_at (IsStatusFrom c.args.c.now) (reply_status c.in-Ok.answer) c.close_as.result c.close_as.ensures.status c.in-Ok.ensures.tells.status

-- ---- what is said and written

pub returns-in-Ok-clause-answers : goal.returns-in-Ok-clause-answers
returns-in-Ok-clause-answers g c h =
    let V = g.V.Files in
    let now = g.M.Machine.now in
    let back = c.close_as.ensures.speaks.trust.honest h in
    let e = c.in-Ok.ensures in
    let t = V.state c.answer.new.v in
    let m = now c.answer.new.m in
    let b = now c.close_as.new.m in
    let reply = c.in-Ok.answer in
    alone_closed c.args.c.now (V.state c.args.v) t (now c.args.m.now) m (e.disk.windows back) (e.disk.quiet back) b c.in-Ok.answer c.close_as.result e.layout
    (tells_data V.state V.resident c.args.c.now (V.state c.args.v) t (now c.args.m.now) m c.in-Ok.answer (e.tells.because back)) (e.tells.answers back) c.close_as.ensures.status
    (subst (λ (says : Reply → List ℕ). ClosesBy t (says reply) m b (unit_of c.close_as.result)) c.requires.says (c.close_as.ensures.closing h))

pub returns-in-Err-clause-answers : goal.returns-in-Err-clause-answers
returns-in-Err-clause-answers g c h =
    let V = g.V.Files in
    let now = g.M.Machine.now in
    let e = c.in-Err.ensures in
    alone_ended c.args.c.now (V.state c.args.v) (V.state c.answer.new.v) (now c.args.m.now) (now c.answer.new.m) (e.disk.windows h) (e.disk.quiet h) c.in-Err.fault (e.tells.answers h)

-- ---- what is healed

pub returns-in-Ok-clause-heals : goal.returns-in-Ok-clause-heals
returns-in-Ok-clause-heals g c h clean =
    let V = g.V.Files in
    let M = g.M.Machine in
    let back = c.close_as.ensures.speaks.trust.honest h in
    let e = c.in-Ok.ensures in
    let v = c.args.v in
    let w = c.answer.new.v in
    let m = c.answer.new.m in
    alone_heals V.state V.holds V.resident v w (M.now c.args.m.now) (M.now m) (M.now c.close_as.new.m) (e.disk.windows back) (e.disk.quiet back) clean
    (M.tells c.close_as.new.m) (M.ledger c.args.m.now) (M.ledger m) (M.ledger c.close_as.new.m) c.args.c.now c.in-Ok.answer c.close_as.result (e.tells.answers back) (e.tells.because back) (λ k stands. e.done back k stands)
    (λ t. e.tells.written (c.close_as.ensures.speaks.trust.tells t)) c.close_as.ensures.written
    (subst (λ (says : Reply → List ℕ). ClosesBy (V.state w) (says c.in-Ok.answer) (M.now m) (M.now c.close_as.new.m) (unit_of c.close_as.result)) c.requires.says (c.close_as.ensures.closing h)) (c.close_as.ensures.closed h)

pub returns-in-Err-clause-heals : goal.returns-in-Err-clause-heals
returns-in-Err-clause-heals g c h clean = tt
