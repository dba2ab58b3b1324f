use Rattle.std.proofs.Common.{false, [], ◌∷◌, subst, refl, Option, Some, None, cond}
use Rattle.std.specs.Prelude.{nat_lt}
use Rattle.fsd_bytes.specs.declared.refusal.Refusal.{Refusal}
use Rattle.fsd_bytes.specs.declared.refusal.Refusal.TheVariants as Why
use Rattle.fsd_formats.specs.NamePage.{max_keep}
use Rattle.fsd_files.specs.Answers.{keep_outcome}
use Rattle.fsd_files.specs.Files.{Change}
use Rattle.fsd_files.specs.declared.reply.Reply.TheVariants as Said
use Rattle.fsd_sound.specs.Writes.{force_writes}
use Rattle.fsd_texts.specs.declared.command.Command.TheVariants as Word
use Rattle.volume_contract.specs.Order.{Comes}
use Rattle.volume_contract.specs.State.{forces_first, volume_of}
use Rattle.volume_turns.proofs.AnsweringLaws.{keep_refused}
use Rattle.volume_turns.proofs.DidLaws.{answered_did, leaves_stay, refused_did}
use Rattle.volume_turns.proofs.NumberLaws.{counted_goes, keep_goes}
use Rattle.volume_turns.proofs.OrderLaws.{steps_of, edit_rest, edit_never, keep_never, never_down, unworn_by, worn_by, unworn_through, keep_fits, keep_small, fits_keep}
use Rattle.volume_turns.proofs.StepLaws.{answered_does, refused_does}
use Rattle.volume_turns.proofs.commands.set_keep.Goals as goal

pub returns-in-Ok : goal.returns-in-Ok
returns-in-Ok g c =
    let V = g.V.Files in
    let M = g.M.Machine in
    let v = c.args.v.now in
    let w = c.set_keep.new.self in
    let a = c.args.m.now in
    let b = c.set_keep.new.m in
    let s = V.state v in
    let name = c.args.name.now in
    let keep = c.args.keep in
    let large = nat_lt max_keep keep in
    let e = c.in-Ok.ensures in
    answered_did M V.state V.holds a b V.resident (Word.Keep name keep) v w e.writes.rest tt (counted_goes false (forces_first s) s (V.state w) e.keeps.kept)
    _ c.requires.up e.keeps.state (leaves_stay M V.state V.holds a b v (force_writes s.layout) e.disk) refl (λ h. (e.tells.name, refl, keep_small keep large (Why.KeepTooLarge keep) refl e.order.follows.1.0)) e.writes.counted (λ h. tt)
    (λ h k stands.
    let ends = e.done h k stands in
    let unworn = unworn_through s c.requires.up (cond large (Some (Why.KeepTooLarge keep)) None) (edit_rest s) (keep_never keep) (edit_never s) e.order.follows in
    (ends.0, answered_does V.state V.holds (Word.Keep name keep) v w k (M.now a) (M.now b) (λ met. keep_outcome met (volume_of k) name keep) (λ met. refl) (λ met. tt) (Said.Kept c.in-Ok.key keep) (Change.SetKeep name keep ∷ []) refl ends.0 ends.1 (λ may. unworn), ends.2, tt))

pub returns-in-Err : goal.returns-in-Err
returns-in-Err g c =
    let V = g.V.Files in
    let M = g.M.Machine in
    let v = c.args.v.now in
    let w = c.set_keep.new.self in
    let a = c.args.m.now in
    let b = c.set_keep.new.m in
    let s = V.state v in
    let up = c.requires.up in
    let name = c.args.name.now in
    let keep = c.args.keep in
    let large = nat_lt max_keep keep in
    let size : Option Refusal = cond large (Some (Why.KeepTooLarge keep)) None in
    let rest = edit_rest s in
    let why = c.in-Err.why in
    let e = c.in-Err.ensures in
    rw c.ended_by.ensures.is
    (refused_did M V.state V.holds a b V.resident (Word.Keep name keep) v w e.writes.rest tt (keep_goes s (V.state w) why keep e.keeps.kept)
    (steps_of s size rest) why up e.order.follows (never_down s up size rest (keep_never keep) (edit_never s) why e.order.follows) (λ comes. (worn_by s up size rest (keep_never keep) (edit_never s) comes).1) e.keeps.state (leaves_stay M V.state V.holds a b v (force_writes s.layout) e.disk) e.tells.causes
    refl (λ h. keep_refused s up why name keep (M.now b).image e.order.follows) e.writes.counted (λ h. tt)
    (λ h k stands.
    refused_does V.state V.holds (Word.Keep name keep) v w k (M.now a) (M.now b) (λ met. keep_outcome met (volume_of k) name keep) (λ met. refl) (λ met. tt) why refl
    (λ other may. unworn_by s up size rest (keep_never keep) (edit_never s) why e.order.follows other (keep_fits large (Why.KeepTooLarge keep) may))
    (λ is. let worn = worn_by s up size rest (keep_never keep) (edit_never s) (subst (λ (x : Refusal). Comes (steps_of s size rest) x) is e.order.follows) in record { may = fits_keep large (Why.KeepTooLarge keep) worn.0; worn = worn.1 })
    (e.done h k stands)))
