use Rattle.std.proofs.Common.{[], refl}
use Rattle.fsd_files.specs.Answers.{force_outcome}
use Rattle.fsd_files.specs.declared.reply.Reply.TheVariants as Said
use Rattle.fsd_sound.specs.Writes.{force_writes}
use Rattle.fsd_texts.specs.declared.command.Command.TheVariants as Word
use Rattle.volume_contract.specs.State.{downs_for, force_len, volume_of}
use Rattle.volume_turns.proofs.DidLaws.{answered_did, ended_did, leaves_stay, opens}
use Rattle.volume_turns.proofs.NumberLaws.{force_goes, forced_goes}
use Rattle.volume_turns.proofs.OrderLaws.{force_loss}
use Rattle.volume_turns.proofs.ReasonLaws.{ended_up_to}
use Rattle.volume_turns.proofs.StatusLaws.{loss_looks}
use Rattle.volume_turns.proofs.StepLaws.{answered_does, force_does}
use Rattle.volume_turns.proofs.ToldLaws.{told_of}
use Rattle.volume_turns.proofs.commands.force.Goals as goal

pub returns-in-Ok : goal.returns-in-Ok
returns-in-Ok g c =
    let V = g.V.Files in
    let M = g.M.Machine in
    let v = c.args.v.now in
    let w = c.force.new.self in
    let a = c.args.m.now in
    let b = c.force.new.m in
    let s = V.state v in
    let e = c.in-Ok.ensures in
    answered_did M V.state V.holds a b V.resident Word.Force v w e.writes.rest tt (forced_goes s (V.state w) e.keeps.kept)
    _ c.requires.up e.keeps.state (leaves_stay M V.state V.holds a b v (force_writes s.layout) e.disk) refl (λ h. tt) e.writes.counted (λ h. tt)
    (λ h k stands.
    let ends = e.done h k stands in
    (ends.0, answered_does V.state V.holds Word.Force v w k (M.now a) (M.now b) (λ met. force_outcome (volume_of k)) (λ met. refl) (λ met. tt) Said.Forced [] refl ends.0 ends.1 (λ may. cc may), ends.2, tt))

pub returns-in-Err : goal.returns-in-Err
returns-in-Err g c =
    let V = g.V.Files in
    let M = g.M.Machine in
    let v = c.args.v.now in
    let w = c.force.new.self in
    let a = c.args.m.now in
    let b = c.force.new.m in
    let s = V.state v in
    let t = V.state w in
    let why = c.in-Err.why in
    let e = c.in-Err.ensures in
    rw c.ended_by.ensures.is
    (ended_did M V.state V.holds a b V.resident Word.Force v w e.writes.rest tt (force_goes s t why e.keeps.kept) why (loss_looks why (force_loss s c.requires.up _ why e.order.follows)) e.keeps.state.layout (opens (downs_for why) s t e.keeps.state)
    (leaves_stay M V.state V.holds a b v (force_writes s.layout) e.disk) (λ h. told_of s t (V.resident v) (M.now a) (M.now b) e.keeps.state.layout why (e.tells.causes h)) (λ tells. ended_up_to (force_len s) (M.ledger a) (M.ledger b) why (e.writes.counted tells))
    (λ h k stands. force_does V.state V.holds Word.Force v w k (M.now a) (M.now b) (λ met. force_outcome (volume_of k)) Said.Forced why (e.done h k stands)))
