use Rattle.std.proofs.Common.{true, [], ◌∷◌, ap, sym, subst, refl, length}
use Rattle.std.specs.Prelude.{◌||◌, Err, IsFalse}
use Rattle.fsd_bytes.specs.declared.key.Key.{Key}
use Rattle.fsd_bytes.specs.declared.refusal.Refusal.{Refusal}
use Rattle.fsd_formats.specs.NamePage.{sectors_for}
use Rattle.fsd_files.specs.Answers.{load_outcome, size_fault}
use Rattle.fsd_files.specs.Files.{Change}
use Rattle.fsd_files.specs.declared.reply.Reply.TheVariants as Said
use Rattle.fsd_texts.specs.declared.command.Command.TheVariants as Word
use Rattle.volume_contract.specs.Order.{Comes}
use Rattle.volume_contract.specs.State.{forces_first, forces_for_place, volume_of, put_writes, is_worn}
use Rattle.volume_turns.specs.Steps.{IsAnswered}
use Rattle.volume_turns.proofs.AnsweringLaws.{load_refused}
use Rattle.volume_turns.proofs.DidLaws.{answered_did, leaves_stay, refused_did}
use Rattle.volume_turns.proofs.NumberLaws.{counted_goes, load_goes}
use Rattle.volume_turns.proofs.OrderLaws.{steps_of, load_rest, load_never, size_never, never_down, unworn_by, worn_by, unworn_through, is_no_fault, no_fault_is}
use Rattle.volume_turns.proofs.ReasonLaws.{showed_here}
use Rattle.volume_turns.proofs.StepLaws.{answered_does, refused_does}
use Rattle.volume_turns.proofs.commands.load.Goals as goal

pub returns-in-Ok : goal.returns-in-Ok
returns-in-Ok g c =
    let V = g.V.Files in
    let M = g.M.Machine in
    let v = c.args.v.now in
    let w = c.load.new.self in
    let a = c.args.m.now in
    let b = c.load.new.m in
    let s = V.state v in
    let t = V.state w in
    let key = c.args.key.now in
    let bytes = c.args.bytes.now in
    let keep = c.args.keep in
    let need = sectors_for (length bytes) in
    let e = c.in-Ok.ensures in
    answered_did M V.state V.holds a b V.resident (Word.Load key keep bytes) v w e.writes.rest tt (counted_goes true (forces_for_place s need || forces_first s) s t e.keeps.kept)
    _ c.requires.up e.keeps.state (leaves_stay M V.state V.holds a b v (put_writes s need) e.disk) refl (λ h. (c.copied.ensures, e.order.follows.1.0)) e.writes.counted (λ h. tt)
    (λ h k stands.
    let ends = e.done h k stands in
    let unworn : IsFalse (is_worn s) = unworn_through s c.requires.up (size_fault keep (length bytes)) (load_rest s need) (size_never keep (length bytes)) (load_never s need) e.order.follows in
    let is = answered_does V.state V.holds (Word.Load key keep bytes) v w k (M.now a) (M.now b) (λ met. load_outcome met (volume_of k) key keep bytes) (λ met. refl) (λ met. tt)
    (Said.Loaded key) (Change.Load key keep bytes ∷ []) refl ends.after ends.answers (λ may. unworn) in
    (ends.after, subst (λ (x : Key). IsAnswered (Word.Load key keep bytes) s k ends.after (M.now a).image (M.now b).image (Said.Loaded x)) (sym c.copied.ensures) is, ends.stands, tt))

pub returns-in-Err : goal.returns-in-Err
returns-in-Err g c =
    let V = g.V.Files in
    let M = g.M.Machine in
    let v = c.args.v.now in
    let w = c.load.new.self in
    let a = c.args.m.now in
    let b = c.load.new.m in
    let s = V.state v in
    let up = c.requires.up in
    let key = c.args.key.now in
    let bytes = c.args.bytes.now in
    let keep = c.args.keep in
    let need = sectors_for (length bytes) in
    let size = size_fault keep (length bytes) in
    let rest = load_rest s need in
    let sizes = size_never keep (length bytes) in
    let others = load_never s need in
    let why = c.in-Err.why in
    let e = c.in-Err.ensures in
    rw c.ended_by.ensures.is
    (refused_did M V.state V.holds a b V.resident (Word.Load key keep bytes) v w e.writes.rest tt (load_goes s (V.state w) why keep (length bytes) e.keeps.kept)
    (steps_of s size rest) why up e.order.follows (never_down s up size rest sizes others why e.order.follows) (λ comes. (worn_by s up size rest sizes others comes).1) e.keeps.state (leaves_stay M V.state V.holds a b v (put_writes s need) e.disk) e.tells.causes
    refl (λ h. load_refused s up bytes (M.now b).image why key keep e.order.follows) e.writes.counted
    (λ h there. showed_here V.state V.resident v (V.state w) (M.now a) (M.now b) _ (e.tells.there (ap (λ (x : Refusal). Err x) there) h))
    (λ h k stands.
    refused_does V.state V.holds (Word.Load key keep bytes) v w k (M.now a) (M.now b) (λ met. load_outcome met (volume_of k) key keep bytes) (λ met. refl) (λ met. tt) why refl
    (λ other may. unworn_by s up size rest sizes others why e.order.follows other (is_no_fault size may))
    (λ is. let worn = worn_by s up size rest sizes others (subst (λ (x : Refusal). Comes (steps_of s size rest) x) is e.order.follows) in record { may = no_fault_is size worn.0; worn = worn.1 })
    (e.done h k stands)))
