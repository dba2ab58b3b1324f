-- Calls of a volume and what is said of them, one behind the other.
use Rattle.std.proofs.Common.{◌≡◌, ◌≤◌, ◌∙◌, ℕ, Bool, true, Option, None, Ok, Err, refl, ap, subst, arith}
use Rattle.std.specs.Prelude.{Result}
use Rattle.volume_layout.specs.declared.layout.Layout.{Layout}
use Rattle.sector_disk.specs.declared.machine.Machine.{Ghosts}
use Rattle.sector_disk.specs.Calls.{DiskFaults, GrowsDisk, WritesDisk}
use Rattle.sector_disk.specs.Machine.{Moment}
use Rattle.sector_disk.proofs.CallLaws.{faults_then}
use Rattle.sector_disk.proofs.Holding.{trusts_on}
use Rattle.fsd_texts.specs.declared.fault.Fault.{Fault}
use Rattle.fsd_texts.specs.declared.fault.Fault.TheVariants as Ends
use Rattle.volume_turns.specs.declared.turns.Halt.{Halt}
use Rattle.volume_turns.specs.declared.turns.Halt.TheVariants.{Fault as Stopped}
use Rattle.volume_turns.specs.Group.{is_worn_end}
use Rattle.volume_turns.specs.Steps.{IsOfCall, device_told}
use Rattle.volume_turns.specs.Once.{SaysForcedOver}
use Rattle.volume_turns.specs.Turns.{KeepsCalls, device_end, SaysText, Speaks, SpeaksBy}
use Rattle.volume_turns.proofs.CountLaws.{unheard_on, told_all, told_end, told_more, told_worn_out}
use Rattle.volume_turns.proofs.LongerLaws.{keeps_same}
use Rattle.volume_turns.proofs.RunLaws.{later_on, since_on, told_done, told_fault}
use Rattle.volume_turns.proofs.SyncLaws.{none_up_to, once_up_to, syncs_behind, syncs_more, syncs_then, writes_up_to}

module _ {D T : Type 0} {M : Ghosts D} where
  -- a text is said, and nothing else is done
  pub speaks_text : {syncs : Bool} {a b : D} {result : Result T Halt} → SaysText M syncs a b result → (M.honest b → M.moment a ≤ M.moment b) → Speaks M 1 a b result
  speaks_text {syncs} {a} {b} says later = record {
    told = says.told;
    fault = says.fault;
    ledger = λ t. once_up_to syncs (M.ledger a) (M.ledger b) (says.ledger t);
    trust = says.trust;
    since = says.since;
    later = later;
  }

  -- behind a call that was done
  pub speaks_behind : {longer : Bool} {R : Moment → Moment → Type 0} {most : ℕ} {a m b : D} {result : Result T Halt} → WritesDisk M None R a m → SpeaksBy longer M most m b result → SpeaksBy longer M most a b result
  speaks_behind {longer} {R} {most} {a} {m} {b} {result} disk s = record {
    told = told_more (M.report a) (M.report m) (M.report b) tt result (told_done (M.report a) (M.report m) disk.uses disk.faults) s.told;
    fault = s.fault;
    ledger = λ t. syncs_behind most (M.ledger a) (M.ledger m) (M.ledger b) (disk.ledger (s.trust.tells t)) (s.ledger t);
    trust = trusts_on disk.trust s.trust;
    since = since_on M a m b s.trust.honest disk.since (λ h. (disk.any_moment h).later) s.since;
    later = later_on M a m b s.trust.honest (λ h. (disk.any_moment h).later) s.later;
  }

  -- the call has failed
  pub speaks_failed : {R : Moment → Moment → Type 0} {place : Option ℕ} {most : ℕ} {a b : D} (why : Fault) → place ≡ device_told why → IsOfCall why → WritesDisk M place R a b → Speaks {T = T} M most a b (Err (Stopped why))
  speaks_failed {R} {place} {most} {a} {b} why is of disk = record {
    told = told_end (M.report a) (M.report b) (Stopped why) (told_fault (M.report a) (M.report b) why disk.uses (subst (λ (o : Option ℕ). DiskFaults o (M.report a) (M.report b)) is disk.faults));
    fault = of;
    ledger = λ t. writes_up_to most (M.ledger a) (M.ledger b) (disk.ledger t);
    trust = disk.trust;
    since = disk.since;
    later = λ h. (disk.any_moment h).later;
  }

  -- the same of a call that may give the image more sectors
  pub speaks_grown : {R : Moment → Moment → Type 0} {most : ℕ} {a m b : D} {result : Result T Halt} → GrowsDisk M None R a m → Speaks M most m b result → SpeaksBy true M most a b result
  speaks_grown {R} {most} {a} {m} {b} {result} disk s =
      let told = s.told in record {
        told = record {
          sectors = let more = disk.sectors in let same = told.sectors in omega (arith, more, same);
          disk = faults_then (device_end result) (M.report a) (M.report m) (M.report b) disk.faults told.disk;
          input = told.input ∙ disk.uses.input;
          later = let p = disk.uses.output in let q = told.later in omega (arith, p, q);
          output = unheard_on (M.report a) (M.report m) (M.report b) disk.uses.output result told.output;
        };
        fault = s.fault;
        ledger = λ t. syncs_behind most (M.ledger a) (M.ledger m) (M.ledger b) (disk.ledger (s.trust.tells t)) (s.ledger t);
        trust = trusts_on disk.trust s.trust;
        since = since_on M a m b s.trust.honest disk.since (λ h. (disk.any_moment h).later) s.since;
        later = later_on M a m b s.trust.honest (λ h. (disk.any_moment h).later) s.later;
      }

  pub grown_failed : {R : Moment → Moment → Type 0} {place : Option ℕ} {most : ℕ} {a b : D} (why : Fault) → place ≡ device_told why → IsOfCall why → GrowsDisk M place R a b → SpeaksBy true {T = T} M most a b (Err (Stopped why))
  grown_failed {R} {place} {most} {a} {b} why is of disk = record {
    told = record {
      sectors = disk.sectors;
      disk = subst (λ (o : Option ℕ). DiskFaults o (M.report a) (M.report b)) is disk.faults;
      input = disk.uses.input;
      later = let same = disk.uses.output in omega (arith, same);
      output = disk.uses.output;
    };
    fault = of;
    ledger = λ t. writes_up_to most (M.ledger a) (M.ledger b) (disk.ledger t);
    trust = disk.trust;
    since = disk.since;
    later = λ h. (disk.any_moment h).later;
  }

  -- memory was refused before any call
  pub speaks_none : {longer : Bool} {most : ℕ} (a : D) → SpeaksBy longer {T = T} M most a a (Err (Stopped Ends.Memory))
  speaks_none {longer} {most} a = record {
    told = record { sectors = keeps_same longer (M.report a).sectors (M.report a).sectors refl; disk = (refl, refl); input = refl; later = omega arith; output = refl };
    fault = tt;
    ledger = λ t. none_up_to most (M.ledger a);
    trust = record { tells = λ t. t; honest = λ h. h };
    since = λ h t left le was. was;
    later = λ h. omega arith;
  }

-- nothing is done
pub speaks_still : {D T : Type 0} {M : Ghosts D} {most : ℕ} (a : D) (t : T) → Speaks M most a a (Ok t)
speaks_still {M = M} {most = most} a t = record {
  told = record { sectors = refl; disk = (refl, refl); input = refl; later = omega arith; output = refl };
  fault = tt;
  ledger = λ t. none_up_to most (M.ledger a);
  trust = record { tells = λ t. t; honest = λ h. h };
  since = λ h t left le was. was;
  later = λ h. omega arith;
}

-- one behind the other, of which the first has done no sync
module _ {D T U : Type 0} {M : Ghosts D} {a m b : D} where
  pub speaks_then : {u : U} {most : ℕ} {result : Result T Halt} → Speaks M 0 a m (Ok u) → Speaks M most m b result → Speaks M most a b result
  speaks_then {u} {most} {result} first s = record {
    told = told_more (M.report a) (M.report m) (M.report b) u result first.told s.told;
    fault = s.fault;
    ledger = λ t. syncs_then most (M.ledger a) (M.ledger m) (M.ledger b) (first.ledger (s.trust.tells t)) (s.ledger t);
    trust = trusts_on first.trust s.trust;
    since = since_on M a m b s.trust.honest first.since first.later s.since;
    later = later_on M a m b s.trust.honest first.later s.later;
  }

-- commands in front of which the mount was worn out
pub speaks_worn : {D T : Type 0} {M : Ghosts D} {most : ℕ} {a b : D} (end : Halt) → is_worn_end end ≡ true → Speaks {T = T} M most a b (Err end) → Speaks {T = Unit {0}} M most a b (Ok tt)
speaks_worn {M = M} {a = a} {b = b} end worn s = record { told = told_worn_out (M.report a) (M.report b) end worn s.told; fault = tt; ledger = s.ledger; trust = s.trust; since = s.since; later = s.later }

-- where no sync was done there are no more than so many
pub speaks_more : {D T : Type 0} {M : Ghosts D} {a b : D} {result : Result T Halt} (most : ℕ) → Speaks M 0 a b result → Speaks M most a b result
speaks_more {M = M} {a = a} {b = b} most s = record { told = s.told; fault = s.fault; ledger = λ t. syncs_more 0 most (M.ledger a) (M.ledger b) (omega arith) (s.ledger t); trust = s.trust; since = s.since; later = s.later }

-- what the rest of the machine's calls keep
pub speaks_keeps : {D T : Type 0} {M : Ghosts D} {most : ℕ} {a b : D} {result : Result T Halt} → Speaks M most a b result → KeepsCalls M a b
speaks_keeps s = record { honest = s.trust.honest; since = s.since; later = s.later }

-- what is handed on
module _ {D T U : Type 0} {M : Ghosts D} {a b : D} where
  pub speaks_done : {longer : Bool} {most : ℕ} (t : T) (u : U) → SpeaksBy longer M most a b (Ok t) → SpeaksBy longer M most a b (Ok u)
  speaks_done t u s = record { told = told_all (M.report a) (M.report b) t u s.told; fault = tt; ledger = s.ledger; trust = s.trust; since = s.since; later = s.later }

  pub speaks_ended : {longer : Bool} {most : ℕ} (end : Halt) → SpeaksBy longer {T = T} M most a b (Err end) → SpeaksBy longer {T = U} M most a b (Err end)
  speaks_ended end s = record { told = told_end (M.report a) (M.report b) end s.told; fault = s.fault; ledger = s.ledger; trust = s.trust; since = s.since; later = s.later }

-- ---- all is forced, and that is said

module _ {D T U : Type 0} {M : Ghosts D} {l : Layout} {a b : D} where
  pub forced_done : (t : T) (u : U) → SaysForcedOver M l a b (Ok t) → SaysForcedOver M l a b (Ok u)
  forced_done t u x = record { image = tt; unworn = λ is. absurd (cc is); says = x.says; quiet = λ h. tt }

  pub forced_ended : (end : Halt) → SaysForcedOver {T = T} M l a b (Err end) → SaysForcedOver {T = U} M l a b (Err end)
  forced_ended end x = record { image = x.image; unworn = λ is. let e : end ≡ Stopped Ends.WornOut = cc is in x.unworn (ap (λ (w : Halt). Err w) e); says = tt; quiet = x.quiet }
