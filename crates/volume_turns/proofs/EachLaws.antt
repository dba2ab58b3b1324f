-- What a script has said, command by command, whatever the image.
use Rattle.std.proofs.Common.{◌≡◌, ℕ, ◌≤◌, List, [], ◌∷◌, ◌++◌, inl, inr, sym, ◌∙◌, ap, arith}
use Rattle.std.specs.Prelude.{OnOk, Result, Ok, Err}
use Rattle.std.proofs.lemmas.List.{append-nil}
use Rattle.sector_disk.specs.declared.machine.Machine.{Ghosts}
use Rattle.sector_disk.specs.Machine.{Moment}
use Rattle.fsd_files.specs.Disk.{Touches, nowhere}
use Rattle.fsd_files.specs.declared.reply.Reply.{Reply}
use Rattle.fsd_files.specs.declared.reply.Reply.TheVariants as Said
use Rattle.fsd_texts.specs.declared.bad_line.BadLine.{BadLine}
use Rattle.fsd_texts.specs.declared.call.Call.TheVariants as Calls
use Rattle.fsd_texts.specs.declared.script_command.ScriptCommand.{ScriptCommand}
use Rattle.fsd_texts.specs.declared.script_command.ScriptCommand.TheVariants.{Plain, OfClient}
use Rattle.fsd_texts.specs.declared.end.End.TheVariants.{Bad}
use Rattle.fsd_texts.specs.declared.line.Line.TheVariants as Says
use Rattle.fsd_texts.specs.Script.{script_in}
use Rattle.fsd_runs.specs.Commands.{reply_text}
use Rattle.fsd_runs.specs.Errands.{forced_turn}
use Rattle.volume_turns.specs.declared.turns.Halt.{Halt}
use Rattle.volume_turns.specs.Calls.{MayReplyTo}
use Rattle.volume_turns.specs.Each.{AreReplies, SaysBadLine, SaysBetween, SaysEach, SaysForced, SaysOnce}
use Rattle.volume_turns.specs.Line.{EndsLast}
use Rattle.volume_turns.specs.Turns.{KeepsCalls, SaysAll, SaysReplies}
use Rattle.scrub.proofs.LeadLaws.{worn_touches}
use Rattle.volume_turns.proofs.AnsweringLaws.{may_worn, stays_damaged}
use Rattle.volume_turns.proofs.SaidLaws.{flat_then}

-- ---- one command

-- what may be replied may be so still
may_worn_to : (command : ScriptCommand) (a b : Moment) (reply : Reply) → Touches nowhere a b → MayReplyTo command a.image reply → MayReplyTo command b.image reply
may_worn_to (Plain command) a b reply quiet may = may_worn command a b reply quiet may
may_worn_to (OfClient c (Calls.Next len)) a b (Said.DamagedAt key n) quiet may = stays_damaged a b n quiet may
may_worn_to (OfClient c call) a b reply quiet may = may

-- a reply of this command that was said
pub once_by : (says : Reply → List ℕ) (command : ScriptCommand) (reply : Reply) (H K : Type 0) (a m b : Moment) → (H → K) → (K → m.said ≡ a.said) → (K → MayReplyTo command m.image reply) → (r : Result (Unit {0}) Halt) → OnOk r (H → SaysAll (says reply) m b) → OnOk r (H → SaysOnce says command a b)
once_by says command reply H K a m b back same may (Ok x) all = λ h.
    let y = all h in
    record { reply = reply; may = may_worn_to command m b reply (worn_touches nowhere m b y.ages.image) (may (back h)); said = y.said ∙ ap (λ (z : List ℕ). z ++ says reply) (same (back h)) }
once_by says command reply H K a m b back same may (Err end) all = tt

-- ---- replies to commands

replies_more : (P Q : Moment → Type 0) → ((at : Moment) → P at → Q at) → (commands : List ScriptCommand) (replies : List Reply) → AreReplies P commands replies → AreReplies Q commands replies
replies_more P Q on [] [] all = tt
replies_more P Q on (c ∷ cs) (r ∷ rs) all = ((all.0.0, on all.0.0 all.0.1, all.0.2), replies_more P Q on cs rs all.1)
replies_more P Q on [] (r ∷ rs) all = absurd all
replies_more P Q on (c ∷ cs) [] all = absurd all

replies_join : (P : Moment → Type 0) (cs ds : List ScriptCommand) (rs ss : List Reply) → AreReplies P cs rs → AreReplies P ds ss → AreReplies P (cs ++ ds) (rs ++ ss)
replies_join P [] ds [] ss first then = then
replies_join P (c ∷ cs) ds (r ∷ rs) ss first then = (first.0, replies_join P cs ds rs ss first.1 then)
replies_join P [] ds (r ∷ rs) ss first then = absurd first
replies_join P (c ∷ cs) ds [] ss first then = absurd first

module _ (says : Reply → List ℕ) where
  each_none : (P : Moment → Type 0) (before after : List ℕ) → after ≡ before → SaysEach says P [] before after
  each_none P before after same = record { replies = []; each = tt; said = same ∙ sym (append-nil before) }

  each_then : (P : Moment → Type 0) (first more : List ScriptCommand) (a b c : List ℕ) → SaysEach says P first a b → SaysEach says P more b c → SaysEach says P (first ++ more) a c
  each_then P first more a b c x y = record { replies = x.replies ++ y.replies; each = replies_join P first more x.replies y.replies x.each y.each; said = flat_then says x.replies y.replies a b c x.said y.said }

  -- over the images of more moments
  pub each_more : (P Q : Moment → Type 0) → ((at : Moment) → P at → Q at) → (commands : List ScriptCommand) (before after : List ℕ) → SaysEach says P commands before after → SaysEach says Q commands before after
  each_more P Q on commands before after x = record { replies = x.replies; each = replies_more P Q on commands x.replies x.each; said = x.said }

-- ---- between two states of a machine

module _ {D : Type 0} (M : Ghosts D) (says : Reply → List ℕ) where
  -- nothing but a read
  pub between_none : (a b : D) → (M.honest b → (M.now b).said ≡ (M.now a).said) → SaysBetween M says [] a b
  between_none a b same honest t le = each_none says (M.left_since b t) (M.now a).said (M.now b).said (same honest)

  -- one command behind a read
  pub between_one : (command : ScriptCommand) (a m b : D) → (M.honest b → M.moment a ≤ M.moment b) → ((t : ℕ) → M.honest b → t ≤ M.moment b → M.left_since b t (M.now b)) → (M.honest b → (M.now m).said ≡ (M.now a).said) → (M.honest b → SaysOnce says command (M.now m) (M.now b))
      → SaysBetween M says (command ∷ []) a b
  between_one command a m b later counts same once honest t le =
      let x = once honest in
      let reached = later honest in
      record {
        replies = x.reply ∷ [];
        each = ((M.now b, counts t honest (omega (arith, le, reached)), x.may), tt);
        said = x.said ∙ ap (λ (y : List ℕ). y ++ says x.reply) (same honest) ∙ ap (λ (y : List ℕ). (M.now a).said ++ y) (sym (append-nil (says x.reply)));
      }

  pub between_then : (first more : List ScriptCommand) (a m b : D) → (M.honest m → M.moment a ≤ M.moment m) → KeepsCalls M m b → SaysBetween M says first a m → SaysBetween M says more m b → SaysBetween M says (first ++ more) a b
  between_then first more a m b later follows x y honest t le =
      let back = follows.honest honest in
      let reached = later back in
      let before : t ≤ M.moment m = omega (arith, le, reached) in
      each_then says (M.left_since b t) first more (M.now a).said (M.now m).said (M.now b).said
      (each_more says (M.left_since m t) (M.left_since b t) (λ at was. follows.since honest t at before was) first (M.now a).said (M.now m).said (x back t le)) (y honest t before)

  -- replies are said, each whole
  pub between_replies : (commands : List ScriptCommand) (a b : D) → SaysBetween M says commands a b → M.honest b → SaysReplies says (M.now a).said (M.now b).said
  between_replies commands a b x honest = let y = x honest 0 (omega arith) in (y.replies, y.said)

-- ---- with the force behind them

pub forced_by : {T : Type 0} (says : Reply → List ℕ) (P : Moment → Type 0) (commands : List ScriptCommand) (H : Type 0) (a m b : Moment) (x : T) (r : Result T Halt) → r ≡ Ok x → SaysEach says P commands a.said m.said → OnOk r (H → b.said ≡ m.said ++ forced_turn.said) → H
    → SaysForced says P commands a.said b.said
forced_by says P commands H a m b x (Ok y) is whole said h = record { front = m.said; whole = whole; said = said h }
forced_by says P commands H a m b x (Err end) is whole said h = absurd (cc is)

pub forced_more : (says : Reply → List ℕ) (P Q : Moment → Type 0) → ((at : Moment) → P at → Q at) → (commands : List ScriptCommand) (before after : List ℕ) → SaysForced says P commands before after → SaysForced says Q commands before after
forced_more says P Q on commands before after x = record { front = x.front; whole = each_more says P Q on commands before x.front x.whole; said = x.said }

-- a bad line is said whole at its status
pub says_bad : (P : Moment → Type 0) (input before : List ℕ) (bad : BadLine) (old new : Moment) (status : ℕ) → (script_in input).1 ≡ Bad bad → SaysForced reply_text P (script_in input).0 before old.said → EndsLast (Says.Bad bad) 2 old new status → status ≡ 2 → SaysBadLine P input before new
says_bad P input before bad old new status is behind (inl six) two = absurd (omega (arith, six, two))
says_bad P input before bad old new status is behind (inr (gives, all)) two = record { bad = bad; ends = is; front = old.said; behind = behind; said = all.said }
