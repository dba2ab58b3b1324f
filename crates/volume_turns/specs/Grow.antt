-- A growth over any machine.
use Rattle.std.specs.Prelude.{◌≡◌, ℕ, ◌^◌, ◌<◌, List, Bool, true, false, Option, Some, None, Result, Ok, Err, IfOk}
use Rattle.sector_disk.specs.declared.machine.Machine.{Ghosts}
use Rattle.run_table.specs.RunTable.{total}
use Rattle.fsd_texts.specs.declared.command.Command.TheVariants as Word
use Rattle.fsd_texts.specs.declared.fault.Fault.{Fault}
use Rattle.fsd_texts.specs.declared.fault.Fault.TheVariants as Ends
use Rattle.volume_contract.specs.Growth.{grown_state}
use Rattle.volume_contract.specs.State.{State}
use Rattle.fsd_files.specs.Answers.{grow_fault}
use Rattle.fsd_files.specs.declared.reply.Reply.{Reply}
use Rattle.fsd_files.specs.declared.reply.Reply.TheVariants as Said
use Rattle.volume_turns.specs.Answering.{MayAnswer}
use Rattle.volume_turns.specs.Commands.{Because, most_written}
use Rattle.volume_turns.specs.Reasons.{HasWritten}

-- whether that is the answer
abbrev pub is_grown : Reply → Bool
is_grown (Said.Grown n free) = true
is_grown answer = false

-- nothing kept it from having so many sectors, and so many are free
pub record GrowsTo (sectors free : ℕ) (s t : State) : Type 0 where
  pub passes : grow_fault s.layout sectors ≡ None
  pub state : t ≡ grown_state sectors s
  pub counted : free ≡ total t.free
  pub few : free < 2 ^ 32

-- The volume has so many sectors; or this kept it from that, and all is as it was; or nothing did, the disk has
-- failed, and it is down.
abbrev pub EndsGrown : (sectors : ℕ) → State → State → Result Reply Fault → Type 0
EndsGrown sectors s t (Ok (Said.Grown n free)) = (n ≡ sectors) × GrowsTo sectors free s t
EndsGrown sectors s t (Ok (Said.Refused why)) = (grow_fault s.layout sectors ≡ Some why) × (t ≡ s)
EndsGrown sectors s t (Ok answer) = ⊥
EndsGrown sectors s t (Err (Ends.Device place)) = (grow_fault s.layout sectors ≡ None) × (t ≡ record s { down = Some place })
EndsGrown sectors s t (Err fault) = ⊥

-- Of any image: it may be answered so, so much is written, and this is why.
pub record TellsGrown {D S : Type 0} (M : Ghosts D) (state : S → State) (resident : S → ℕ → Option (List ℕ)) (sectors : ℕ) (old new : S) (before now : D) (result : Result Reply Fault) : Type 0 where
  pub answers : M.honest now → MayAnswer (Word.Grow sectors) (state old) (state new) (M.now before) (M.now now) result
  pub written : M.tells now → HasWritten (most_written (Word.Grow sectors) (state old)) (M.ledger before) (M.ledger now) result
  pub because : M.honest now → IfOk result (λ a. Because state resident (Word.Grow sectors) (state old) (state new) (M.now before) (M.now now) a)
