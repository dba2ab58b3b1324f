-- Commands that are read, and what is said of them, one behind the other.
use Rattle.std.proofs.Common.{◌≡◌, ℕ, ◌∙◌, Bool, true, false, Ok, Err, refl, arith}
use Rattle.std.specs.Prelude.{Result}
use Rattle.sector_disk.specs.declared.machine.Machine.{Ghosts}
use Rattle.sector_disk.specs.Calls.{LeavesDisk}
use Rattle.sector_disk.specs.Machine.{Moment}
use Rattle.sector_disk.proofs.Holding.{trusts_on}
use Rattle.fsd_texts.specs.declared.fault.Fault.TheVariants as Ends
use Rattle.volume_turns.specs.declared.script.Stop.{Stop}
use Rattle.volume_turns.specs.declared.turns.Halt.{Halt}
use Rattle.volume_turns.specs.declared.turns.Halt.TheVariants.{Fault as Stopped}
use Rattle.volume_turns.specs.Group.{is_worn_end}
use Rattle.volume_turns.specs.Script.{SpeaksReading}
use Rattle.volume_turns.specs.Turns.{KeepsCalls, Speaks}
use Rattle.volume_turns.proofs.RunLaws.{later_on, since_on}
use Rattle.volume_turns.proofs.ScriptGroupLaws.{heard_worn}
use Rattle.volume_turns.proofs.ScriptLaws.{heard_as, heard_end, heard_none, heard_of, heard_then}

module _ {D : Type 0} {M : Ghosts D} where
  -- nothing is done
  pub reading_none : (a : D) → SpeaksReading M a a (Ok (tt {0}))
  reading_none a = record {
    heard = heard_none (M.report a);
    fault = tt;
    attaches = λ t. refl;
    trust = record { tells = λ t. t; honest = λ h. h };
    since = λ h t left le was. was;
    later = λ h. omega arith;
  }

  -- input is taken
  pub reading_taken : {takes : Bool} {R : Moment → Moment → Type 0} {a b : D} → LeavesDisk M takes false R a b → (M.tells b → (M.ledger b).attaches ≡ (M.ledger a).attaches) → SpeaksReading M a b (Ok (tt {0}))
  reading_taken calls attaches = record {
    heard = let spares = calls.spares in record { sectors = spares.sectors; disk = (spares.disk, spares.place); later = let same = spares.output in omega (arith, same); output = spares.output };
    fault = tt;
    attaches = attaches;
    trust = calls.trust;
    since = calls.since;
    later = λ h. (calls.any_moment h).later;
  }

  -- what was given is done, with no input taken
  pub reading_of : {T : Type 0} {most : ℕ} {a b : D} {result : Result T Halt} → Speaks M most a b result → SpeaksReading M a b result
  reading_of {T} {most} {a} {b} {result} s = record {
    heard = heard_of (M.report a) (M.report b) result s.told;
    fault = s.fault;
    attaches = λ t. (s.ledger t).attaches;
    trust = s.trust;
    since = s.since;
    later = s.later;
  }

  -- one behind the other
  pub reading_then : {T U : Type 0} {a m b : D} {u : U} {result : Result T Halt} → SpeaksReading M a m (Ok u) → SpeaksReading M m b result → SpeaksReading M a b result
  reading_then {T} {U} {a} {m} {b} {u} {result} first s = record {
    heard = heard_then (M.report a) (M.report m) (M.report b) u result first.heard s.heard;
    fault = s.fault;
    attaches = λ t. s.attaches t ∙ first.attaches (s.trust.tells t);
    trust = trusts_on first.trust s.trust;
    since = since_on M a m b s.trust.honest first.since first.later s.since;
    later = later_on M a m b s.trust.honest first.later s.later;
  }

  -- what the rest of the machine's calls keep
  pub reading_keeps : {T : Type 0} {a b : D} {result : Result T Halt} → SpeaksReading M a b result → KeepsCalls M a b
  reading_keeps s = record { honest = s.trust.honest; since = s.since; later = s.later }

-- what is handed on
module _ {D T U : Type 0} {M : Ghosts D} {a b : D} where
  pub reading_done : (t : T) (u : U) → SpeaksReading M a b (Ok t) → SpeaksReading M a b (Ok u)
  reading_done t u s = record { heard = heard_as (M.report a) (M.report b) t u s.heard; fault = tt; attaches = s.attaches; trust = s.trust; since = s.since; later = s.later }

  pub reading_ended : (end : Halt) → SpeaksReading {T = T} M a b (Err end) → SpeaksReading {T = U} M a b (Err end)
  reading_ended end s = record { heard = heard_end (M.report a) (M.report b) end s.heard; fault = s.fault; attaches = s.attaches; trust = s.trust; since = s.since; later = s.later }

  -- memory was refused behind that
  pub reading_wanted : (t : T) → SpeaksReading M a b (Ok t) → SpeaksReading {T = U} M a b (Err (Stopped Ends.Memory))
  reading_wanted t s = record { heard = let heard = s.heard in record { sectors = heard.sectors; disk = heard.disk; later = heard.later; output = heard.output }; fault = tt; attaches = s.attaches; trust = s.trust; since = s.since; later = s.later }

-- commands in front of which the mount was worn out
pub reading_worn : {D : Type 0} {M : Ghosts D} {a b : D} (end : Halt) → is_worn_end end ≡ true → SpeaksReading {T = Stop} M a b (Err end) → SpeaksReading {T = Unit {0}} M a b (Ok tt)
reading_worn {D} {M} {a} {b} end worn s = record { heard = heard_worn (M.report a) (M.report b) end worn s.heard; fault = tt; attaches = s.attaches; trust = s.trust; since = s.since; later = s.later }
