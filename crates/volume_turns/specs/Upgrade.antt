-- An upgrade over any machine.
use Rattle.std.specs.Prelude.{◌≡◌, ℕ, List, Bool, true, false, Option, Some, Result, Ok, Err, IfOk}
use Rattle.sector_disk.specs.declared.machine.Machine.{Ghosts}
use Rattle.fsd_bytes.specs.declared.refusal.Refusal.TheVariants as Why
use Rattle.fsd_texts.specs.declared.command.Command.TheVariants as Word
use Rattle.fsd_texts.specs.declared.fault.Fault.{Fault}
use Rattle.fsd_texts.specs.declared.fault.Fault.TheVariants as Ends
use Rattle.volume_layout.specs.declared.kind.Kind.TheVariants.{Two, Three}
use Rattle.volume_contract.specs.Order.{with_three}
use Rattle.volume_contract.specs.State.{State}
use Rattle.fsd_files.specs.declared.reply.Reply.{Reply}
use Rattle.fsd_files.specs.declared.reply.Reply.TheVariants as Said
use Rattle.volume_turns.specs.Answering.{MayAnswer}
use Rattle.volume_turns.specs.Commands.{Because, most_written}
use Rattle.volume_turns.specs.Reasons.{HasWritten}

-- whether that is the answer
abbrev pub is_upgraded : Reply → Bool
is_upgraded Said.Upgraded = true
is_upgraded answer = false

-- The volume had layout 1 and has layout 2; or it had that, and all is as it was; or it had layout 1, a write of a root has
-- failed, and it is down.
abbrev pub EndsState : State → State → Result Reply Fault → Type 0
EndsState s t (Ok Said.Upgraded) = (s.layout.kind ≡ Two) × (t ≡ with_three s)
EndsState s t (Ok answer) = (answer ≡ Said.Refused (Why.LayoutIs 2)) × (s.layout.kind ≡ Three) × (t ≡ s)
EndsState s t (Err (Ends.Device place)) = (s.layout.kind ≡ Two) × (t ≡ record s { down = Some place })
EndsState s t (Err fault) = ⊥

-- Of any image: it may be answered so, so much is written, and this is why.
pub record TellsUpgrade {D S : Type 0} (M : Ghosts D) (state : S → State) (resident : S → ℕ → Option (List ℕ)) (old new : S) (before now : D) (result : Result Reply Fault) : Type 0 where
  pub answers : M.honest now → MayAnswer Word.Upgrade (state old) (state new) (M.now before) (M.now now) result
  pub written : M.tells now → HasWritten (most_written Word.Upgrade (state old)) (M.ledger before) (M.ledger now) result
  pub because : M.honest now → IfOk result (λ a. Because state resident Word.Upgrade (state old) (state new) (M.now before) (M.now now) a)
