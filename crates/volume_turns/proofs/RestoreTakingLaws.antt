-- A restore whose input is taken first, or can't be.
use Rattle.std.proofs.Common.{◌≡◌, ◌⊎◌, inl, inr, ℕ, ◌<◌, Bool, false, List, length, Option, Some, None, refl, sym, ap, subst, arith}
use Rattle.fsd_log.specs.Scan.{Placed}
use Rattle.sector_disk.specs.declared.machine.Machine.{Ghosts}
use Rattle.sector_disk.specs.Calls.{IsTimed, LeavesDisk}
use Rattle.sector_disk.specs.Image.{AreShort}
use Rattle.sector_disk.specs.Machine.{Moment, Report, Utters, Wears}
use Rattle.fsd_files.specs.Disk.{Image}
use Rattle.fsd_sound.specs.Mounted.{Mounted}
use Rattle.fsd_texts.specs.declared.fault.Fault.{Fault}
use Rattle.fsd_texts.specs.declared.fault.Fault.TheVariants as Ends
use Rattle.fsd_texts.specs.Script.{max_input}
use Rattle.fsd_texts.specs.Text.{fault_text}
use Rattle.fsd_runs.specs.declared.request.Request.TheVariants.{Put, Restore}
use Rattle.fsd_runs.specs.Errands.{ByFault, ByRefusal, BySector, Cut, Damages, Errand, MayCut, Turn, errand_of, first_refusal, nothing_but}
use Rattle.fsd_runs.specs.Leaves.{IsBrokenOff, IsOutside, MayEnd}
use Rattle.fsd_runs.specs.Runs.{IsCutAt, IsCutBefore, answered, errand_in}
use Rattle.fsd_runs.specs.Sessions.{session_over}
use Rattle.volume_contract.specs.State.{State, Ages, Known, Stands, forced_of, is_worn, volume_of}
use Rattle.volume_turns.specs.Line.{EndsWith, is_unsaid}
use Rattle.volume_turns.specs.Restore.{IsRestoreStatus}
use Rattle.volume_turns.specs.Status.{IsOneStatus, IsPutStatus}
use Rattle.volume_turns.specs.Turns.{OnDisk}
use Rattle.volume_turns.specs.Whole.{Always, Finishes, RunsOut}
use Rattle.volume_turns.proofs.BeforeLaws.{finishes_before, finishes_ended, stands_worn, uses_untaken}
use Rattle.volume_turns.proofs.InputLaws.{asks_none}
use Rattle.fsd_runs.proofs.RunLaws.{answered_none}
use Rattle.volume_turns.proofs.RestoreOutLaws.{asks_nothing, low_from, some_load, some_turn}
use Rattle.volume_turns.proofs.StatusLaws.{one_not_five}
use Rattle.volume_turns.proofs.TurnLaws.{worn_state}
use Rattle.volume_turns.proofs.WholeLaws.{runs_on}

-- ---- its status

pub restore_is_put : (status : ℕ) → IsRestoreStatus status → IsPutStatus status
restore_is_put status (inl low) = inl low
restore_is_put status (inr broken) = inr (inr broken)

as_one : (status : ℕ) → IsRestoreStatus status → IsOneStatus some_load status
as_one status (inl low) = inl (low_from status low)
as_one status (inr broken) = inr broken

pub restore_not_five : (status : ℕ) → IsRestoreStatus status → status ≡ 5 → ⊥
restore_not_five status is five = one_not_five some_load status (as_one status is) five

-- ---- an input that is too long

outside_restore : (name : List ℕ) (keep : Option ℕ) (before after : Report) (why : Fault) → IsOutside (Put name keep) before after why → IsOutside Restore before after why
outside_restore name keep before after (Ends.Device s) o = o
outside_restore name keep before after Ends.Memory o = tt
outside_restore name keep before after Ends.Input o = o
outside_restore name keep before after why o = absurd o

module _ {D : Type 0} (M : Ghosts D) (name : List ℕ) (keep : Option ℕ) (input rest : List ℕ) (many : max_input < length input) (before : Report) (k : Known) (a b : D) (status : ℕ) where
  abbrev none : Errand
  none = nothing_but Ends.InputTooLong

  over : {A B : Type 0} {Over : ℕ → Image → Type 0} {Way : ℕ → Type 0} {turns : List Turn} {old new : Moment} → A ⊎ (B ⊎ IsBrokenOff (Put name keep) Over Way before (M.report b) turns old new status) → A ⊎ (B ⊎ IsBrokenOff Restore Over Way before (M.report b) turns old new status)
  over (inl x) = inl x
  over (inr (inl u)) = inr (inl u)
  over (inr (inr x)) = inr (inr (record { why = x.why; outside = outside_restore name keep before (M.report b) x.why x.outside; ends = x.ends; says = x.says; held = x.held; undone = x.undone; unread = x.unread }))

  as_restore : Finishes M (Put name keep) none Always (IsCutAt None) before k a b status → Finishes M Restore none Always (IsCutAt None) before k a b status
  as_restore f = record { mets = f.mets; ahead = tt; goes = f.goes; moments = f.moments; ends = over f.ends }

  -- it refuses a restore as it does a put
  long_by : (cut : Cut) → MayCut (Put name keep) cut → Finishes M (Put name keep) (errand_in (Put name keep) input cut (volume_of k)) (λ s. IsCutBefore cut s (errand_of (Put name keep) input (volume_of k)).commands) (IsCutAt cut) before k a b status → RunsOut M Restore input rest before k a b status
  long_by (Some cutting) may f = absurd may
  long_by None may f =
      let f_none : Finishes M (Put name keep) none Always (IsCutAt None) before k a b status = subst (λ (x : Errand). Finishes M (Put name keep) x Always (IsCutAt None) before k a b status) (asks_none name keep input (volume_of k) many) f in
      let runs : (e : Errand) → none ≡ e → (g : Finishes M Restore e Always (IsCutAt None) before k a b status) × (first_refusal (answered g.mets (session_over (volume_of k)) e.commands) ≡ None) =
      λ e is. subst (λ (x : Errand). (g : Finishes M Restore x Always (IsCutAt None) before k a b status) × (first_refusal (answered g.mets (session_over (volume_of k)) x.commands) ≡ None)) is
      (as_restore f_none, ap first_refusal (answered_none (as_restore f_none).mets (session_over (volume_of k)))) in
      let all = runs (errand_of Restore input (volume_of k)) (sym (asks_nothing input (volume_of k) many)) in
      record { cut = None; may = tt; cause = tt; finishes = all.0; says = tt; rooted = tt; so = all.1 }

  pub long_restore : RunsOut M (Put name keep) input rest before k a b status → RunsOut M Restore input rest before k a b status
  long_restore r = long_by r.cut r.may r.finishes

-- ---- over a volume that stands

module _ {S D : Type 0} (state : S → State) (has : S → Mounted → List Placed → Type 0) (M : Ghosts D) (input rest : List ℕ) (v : S) (k : Known) (a m b : D)
    (wears : (old new : Moment) → AreShort old.windows → Ages old new → Stands state has v k old → Stands state has v k new) (short : AreShort (M.now a).windows) (stands : Stands state has v k (M.now a))
    (on : OnDisk M k (forced_of k) a) (at_a : IsTimed M a) (at_m : IsTimed M m) (takes : Bool) (read : LeavesDisk M takes false Wears a m) (back : M.honest m) (status : ℕ) where
  -- a mount that was worn out there was so before
  last_so : is_worn (state v) ≡ false → (cut : Cut) → MayCut Restore cut → IsCutAt cut (volume_of k) (M.now m).image → IsCutAt cut (volume_of k) (M.now a).image
  last_so unworn None may at = tt
  last_so unworn (Some (ByRefusal count)) may at = tt
  last_so unworn (Some (ByFault count Ends.WornOut)) may at =
      let so = worn_state state has v k (M.now m) (stands_worn state has M v k a m wears short stands on at_a at_m (read.exit back) (read.since back) (read.any_moment back)) at in
      absurd (cc (so, unworn))
  last_so unworn (Some (ByFault count why)) may at = absurd may
  last_so unworn (Some (Damages found)) may at = absurd may
  last_so unworn (Some (BySector count s)) may at = absurd may

  -- the run goes on from there
  pub restore_on : takes ≡ false → is_worn (state v) ≡ false → RunsOut M Restore input rest (M.report m) k m b status → RunsOut M Restore input rest (M.report a) k a b status
  restore_on untaken unworn r = runs_on M Restore input rest (M.report a) (M.report m) (uses_untaken M a m takes read untaken) (read.spares.disk, read.spares.place) k a b status (record {
    cut = r.cut;
    may = r.may;
    cause = r.cause;
    finishes = finishes_before state has M v k a m wears short stands on at_a at_m (read.exit back) (read.since back) (read.any_moment back) b Restore (errand_in Restore input r.cut (volume_of k)) (M.report m) status unworn (λ s. IsCutBefore r.cut s (errand_of Restore input (volume_of k)).commands) (IsCutAt r.cut) (last_so unworn r.cut r.may) r.finishes;
    says = tt;
    rooted = tt;
    so = r.so;
  })

  -- it ends there, by a fault of the input or for want of memory
  pub restore_ended : (why : Fault) → MayEnd why → IsOutside Restore (M.report a) (M.report b) why → LeavesDisk M false (is_unsaid status) (Utters (fault_text why)) m b → M.honest b → IsTimed M b → EndsWith why (M.now m) (M.now b) status → RunsOut M Restore input rest (M.report a) k a b status
  restore_ended why may out says honest at_b ended = record {
    cut = None;
    may = tt;
    cause = tt;
    finishes = finishes_ended state has M v k a m wears short stands on at_a at_m (read.exit back) (read.since back) (read.any_moment back) b Restore (errand_of Restore input (volume_of k)) (some_turn input (volume_of k)) (M.report a) why may out (let same = read.spares.output in omega (arith, same)) status says honest at_b ended Always (IsCutAt None) tt tt;
    says = tt;
    rooted = tt;
    so = refl;
  }
