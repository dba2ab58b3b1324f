use Rattle.std.proofs.Common.{ℕ, true, [], ◌∷◌, sym, subst, refl, length}
use Rattle.std.specs.Prelude.{◌||◌, IsFalse}
use Rattle.fsd_bytes.specs.declared.refusal.Refusal.{Refusal}
use Rattle.fsd_formats.specs.NamePage.{sectors_for}
use Rattle.fsd_files.specs.Answers.{put_outcome, size_fault, keep_given}
use Rattle.fsd_files.specs.Files.{Change}
use Rattle.fsd_files.specs.declared.reply.Reply.TheVariants as Said
use Rattle.fsd_texts.specs.declared.command.Command.TheVariants as Word
use Rattle.volume_contract.specs.Order.{Comes}
use Rattle.volume_contract.specs.State.{forces_first, forces_for_place, volume_of, put_writes, is_worn}
use Rattle.volume_turns.specs.Steps.{IsAnswered}
use Rattle.volume_turns.proofs.AnsweringLaws.{put_refused}
use Rattle.volume_turns.proofs.DidLaws.{answered_did, leaves_stay, refused_did}
use Rattle.volume_turns.proofs.NumberLaws.{counted_goes, put_goes}
use Rattle.volume_turns.proofs.OrderLaws.{steps_of, put_rest, put_never, size_never, never_down, unworn_by, worn_by, unworn_through, is_no_fault, no_fault_is}
use Rattle.volume_turns.proofs.StepLaws.{answered_does, refused_does}
use Rattle.volume_turns.proofs.commands.put.Goals as goal

pub returns-in-Ok : goal.returns-in-Ok
returns-in-Ok g c =
    let V = g.V.Files in
    let M = g.M.Machine in
    let v = c.args.v.now in
    let w = c.put.new.self in
    let a = c.args.m.now in
    let b = c.put.new.m in
    let s = V.state v in
    let t = V.state w in
    let name = c.args.name.now in
    let bytes = c.args.bytes.now in
    let keep = c.args.keep in
    let need = sectors_for (length bytes) in
    let e = c.in-Ok.ensures in
    answered_did M V.state V.holds a b V.resident (Word.Put name bytes keep) v w e.writes.rest tt (counted_goes true (forces_for_place s need || forces_first s) s t e.keeps.kept)
    _ c.requires.up e.keeps.state (leaves_stay M V.state V.holds a b v (put_writes s need) e.disk) refl (λ h. (e.tells.name, c.sectors_of.ensures, e.order.follows.1.0)) e.writes.counted (λ h. tt)
    (λ h k stands.
    let ends = e.done h k stands in
    let unworn : IsFalse (is_worn s) = unworn_through s c.requires.up (size_fault (keep_given keep) (length bytes)) (put_rest s need) (size_never (keep_given keep) (length bytes)) (put_never s need) e.order.follows in
    let is = answered_does V.state V.holds (Word.Put name bytes keep) v w k (M.now a) (M.now b) (λ met. put_outcome met (volume_of k) name bytes keep) (λ met. refl) (λ met. tt)
    (Said.Made c.in-Ok.key need) (Change.Put name keep bytes ∷ []) refl ends.after ends.answers (λ may. unworn) in
    (ends.after, subst (λ (n : ℕ). IsAnswered (Word.Put name bytes keep) s k ends.after (M.now a).image (M.now b).image (Said.Made c.in-Ok.key n)) (sym c.sectors_of.ensures) is, ends.stands, tt))

pub returns-in-Err : goal.returns-in-Err
returns-in-Err g c =
    let V = g.V.Files in
    let M = g.M.Machine in
    let v = c.args.v.now in
    let w = c.put.new.self in
    let a = c.args.m.now in
    let b = c.put.new.m in
    let s = V.state v in
    let up = c.requires.up in
    let name = c.args.name.now in
    let bytes = c.args.bytes.now in
    let keep = c.args.keep in
    let need = sectors_for (length bytes) in
    let size = size_fault (keep_given keep) (length bytes) in
    let rest = put_rest s need in
    let sizes = size_never (keep_given keep) (length bytes) in
    let others = put_never s need in
    let why = c.in-Err.why in
    let e = c.in-Err.ensures in
    rw c.ended_by.ensures.is
    (refused_did M V.state V.holds a b V.resident (Word.Put name bytes keep) v w e.writes.rest tt (put_goes s (V.state w) why keep (length bytes) e.keeps.kept)
    (steps_of s size rest) why up e.order.follows (never_down s up size rest sizes others why e.order.follows) (λ comes. (worn_by s up size rest sizes others comes).1) e.keeps.state (leaves_stay M V.state V.holds a b v (put_writes s need) e.disk) e.tells.causes
    refl (λ h. put_refused s up bytes (M.now b).image why name keep e.order.follows) e.writes.counted (λ h. tt)
    (λ h k stands.
    refused_does V.state V.holds (Word.Put name bytes keep) v w k (M.now a) (M.now b) (λ met. put_outcome met (volume_of k) name bytes keep) (λ met. refl) (λ met. tt) why refl
    (λ other may. unworn_by s up size rest sizes others why e.order.follows other (is_no_fault size may))
    (λ is. let worn = worn_by s up size rest sizes others (subst (λ (x : Refusal). Comes (steps_of s size rest) x) is e.order.follows) in record { may = no_fault_is size worn.0; worn = worn.1 })
    (e.done h k stands)))
