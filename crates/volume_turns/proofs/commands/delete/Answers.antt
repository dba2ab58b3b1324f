use Rattle.std.proofs.Common.{false, [], ◌∷◌, sym, subst, refl}
use Rattle.fsd_bytes.specs.declared.key.Key.{Key}
use Rattle.fsd_bytes.specs.declared.refusal.Refusal.{Refusal}
use Rattle.fsd_files.specs.Answers.{delete_outcome}
use Rattle.fsd_files.specs.Files.{Change}
use Rattle.fsd_files.specs.declared.reply.Reply.TheVariants as Said
use Rattle.fsd_sound.specs.Writes.{force_writes}
use Rattle.fsd_texts.specs.declared.command.Command.TheVariants as Word
use Rattle.volume_contract.specs.Order.{Comes}
use Rattle.volume_contract.specs.State.{forces_first, volume_of}
use Rattle.volume_turns.specs.Steps.{IsAnswered}
use Rattle.volume_turns.proofs.AnsweringLaws.{delete_refused}
use Rattle.volume_turns.proofs.DidLaws.{answered_did, leaves_stay, refused_did}
use Rattle.volume_turns.proofs.NumberLaws.{counted_goes, delete_goes}
use Rattle.volume_turns.proofs.OrderLaws.{edit_never, edit_rest, sizeless, sizeless_down, sizeless_through, sizeless_unworn, sizeless_worn}
use Rattle.volume_turns.proofs.ReasonLaws.{showed_here}
use Rattle.volume_turns.proofs.StepLaws.{answered_does, refused_does}
use Rattle.volume_turns.proofs.commands.delete.Goals as goal

pub returns-in-Ok : goal.returns-in-Ok
returns-in-Ok g c =
    let V = g.V.Files in
    let M = g.M.Machine in
    let v = c.args.v.now in
    let w = c.delete.new.self in
    let a = c.args.m.now in
    let b = c.delete.new.m in
    let s = V.state v in
    let key = c.args.key.now in
    let e = c.in-Ok.ensures in
    answered_did M V.state V.holds a b V.resident (Word.Delete key) v w e.writes.rest tt (counted_goes false (forces_first s) s (V.state w) e.keeps.kept)
    _ c.requires.up e.keeps.state (leaves_stay M V.state V.holds a b v (force_writes s.layout) e.disk) refl (λ h. c.copied.ensures) e.writes.counted (λ h. showed_here V.state V.resident v (V.state w) (M.now a) (M.now b) _ (e.tells.found h))
    (λ h k stands.
    let ends = e.done h k stands in
    let is = answered_does V.state V.holds (Word.Delete key) v w k (M.now a) (M.now b) (λ met. delete_outcome met (volume_of k) key) (λ met. refl) (λ met. tt) (Said.Deleted key) (Change.Delete key ∷ []) refl ends.0 ends.1 (λ may. sizeless_through s (edit_rest s) e.order.follows) in
    (ends.0, subst (λ (x : Key). IsAnswered (Word.Delete key) s k ends.0 (M.now a).image (M.now b).image (Said.Deleted x)) (sym c.copied.ensures) is, ends.2, tt))

pub returns-in-Err : goal.returns-in-Err
returns-in-Err g c =
    let V = g.V.Files in
    let M = g.M.Machine in
    let v = c.args.v.now in
    let w = c.delete.new.self in
    let a = c.args.m.now in
    let b = c.delete.new.m in
    let s = V.state v in
    let up = c.requires.up in
    let key = c.args.key.now in
    let rest = edit_rest s in
    let others = edit_never s in
    let why = c.in-Err.why in
    let e = c.in-Err.ensures in
    rw c.ended_by.ensures.is
    (refused_did M V.state V.holds a b V.resident (Word.Delete key) v w e.writes.rest tt (delete_goes s (V.state w) why e.keeps.kept)
    (sizeless s rest) why up e.order.follows (sizeless_down s up rest others why e.order.follows) (λ comes. sizeless_worn s up rest others comes) e.keeps.state (leaves_stay M V.state V.holds a b v (force_writes s.layout) e.disk) e.tells.causes
    refl (λ h. delete_refused s up why key (M.now b).image e.order.follows) e.writes.counted (λ h. tt)
    (λ h k stands.
    refused_does V.state V.holds (Word.Delete key) v w k (M.now a) (M.now b) (λ met. delete_outcome met (volume_of k) key) (λ met. refl) (λ met. tt) why refl
    (λ other may. sizeless_unworn s up rest others why e.order.follows other)
    (λ is. record { may = refl; worn = sizeless_worn s up rest others (subst (λ (x : Refusal). Comes (sizeless s rest) x) is e.order.follows) })
    (e.done h k stands)))
