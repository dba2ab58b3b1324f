use Rattle.std.proofs.Common.{◌≡◌, inl, inr, ◌^◌, ◌≤◌, true, None, option_map, Result, Err, refl, sym, ap, subst, ◌∙◌, arith}
use Rattle.std.proofs.lemmas.Result.{err_from_is_err_and}
use Rattle.std.specs.Prelude.{IfOk, IfSome}
use Rattle.volume_layout.proofs.RootLaws.{planned_bounds}
use Rattle.sector_disk.specs.Calls.{device_in}
use Rattle.sector_disk.proofs.CallLaws.{reads_none, reads_told}
use Rattle.fsd_bytes.specs.declared.refusal.Refusal.{Refusal}
use Rattle.fsd_bytes.specs.declared.refusal.Refusal.TheVariants as Why
use Rattle.fsd_formats.specs.declared.entry.Entry.{Entry}
use Rattle.fsd_formats.specs.NamePage.{is_entry}
use Rattle.fsd_files.specs.Answers.{entry_of as entry_in, entry_reply, found_or}
use Rattle.name_btree.specs.Lookup.{found_entry}
use Rattle.volume_contract.specs.Found.{ShowsReached}
use Rattle.volume_contract.specs.Causes.{HasCallCause, IsTaken}
use Rattle.volume_contract.specs.Ends.{device_of}
use Rattle.fsd_table.specs.Reached.{HasEntry}
use Rattle.volume_contract.specs.Healing.{IsMet}
use Rattle.volume_contract.specs.Order.{Follows, entry_steps}
use Rattle.volume_contract.specs.State.{State, volume_of}
use Rattle.volume_laws.specs.State.{resident, state}
use Rattle.volume_laws.specs.Taken.{are_taken, down_fault}
use Rattle.volume_laws.specs.Volume.{VolumeValue}
use Rattle.volume_laws.proofs.AbsentLaws.{none_found, not_down as down_is_told, not_look_up, not_met}
use Rattle.volume_laws.proofs.CauseLaws.{met_handed}
use Rattle.volume_laws.proofs.EditedLaws.{state_looked}
use Rattle.volume_laws.proofs.EntryLaws.{entry_looked_up, fault_looked_up, key_met, taken_met}
use Rattle.volume_laws.proofs.FoundLaws.{found_met}
use Rattle.volume_laws.proofs.NextLaws.{up_by}
use Rattle.volume_laws.proofs.ForceEndLaws.{not_down}
use Rattle.volume_laws.proofs.ForceLeavesLaws.{down_tells_none}
use Rattle.volume_laws.proofs.RangeLaws.{met_good}
use Rattle.table_volume.proofs.DownLaws.{busy_entry, down_step, met_either, told_down}
use Rattle.table_volume.proofs.MetLaws.{is_met, none_given}
use Rattle.table_volume.proofs.volume.Volume.version.Goals as goal

pub returns-in_err-is_up : goal.returns-in_err-is_up
returns-in_err-is_up g c =
    let v = c.args.self.now in
    let at = c.args.m.now in
    let now = g.M.Machine.now c.args.m.now in
    let why = c.in_err-is_up.field-0.0 in
    let down : down_fault c.args.self.now.down ≡ Err c.in_err-is_up.field-0.0 = sym c.in_err-is_up.ensures in
    let p = err_from_is_err_and c.from_residual.result c.from_residual.ensures.1 in
    rw (p.1, p.2) (record {
      order = record { follows = inl (down_step v.down why down); idle = λ idle. refl };
      disk = reads_told (down_tells_none v.down why down) (reads_none at (g.met.M.Machine.only_now at));
      state = refl;
      stands = λ h k stands. stands;
      gives = none_given (λ h. told_down (HasCallCause (state v) (state v) (resident v) now now) (λ place. tt) v.down why down) (λ same. absurd (down_is_told v.down why down same));
      done = λ h k stands. absurd (not_down v k now why down stands);
    })

pub returns-in_err-found : goal.returns-in_err-found
returns-in_err-found g c =
    let v = c.args.self.now in
    let up = up_by c.args.self.now.down (sym c.in_ok-is_up.ensures) in
    let why = c.in_err-found.field-0.0 in
    let failed = c.in_err-found.ensures.looks in
    let p = err_from_is_err_and c.from_residual-in_err-found.result c.from_residual-in_err-found.ensures.1 in
    rw (p.1, p.2) (record {
      order = record { follows = inr (ap (option_map Why.Down) up, inl failed.cause); idle = λ idle. absurd (busy_entry (state v) up idle) };
      disk = failed.disk;
      state = state_looked v c.find.new.self failed.cache failed.dirty;
      stands = failed.stands;
      gives = none_given failed.causes (λ same. absurd (not_look_up why failed.cause same));
      done = λ h k stands. fault_looked_up (entry_reply (volume_of k) c.args.key.now) (entry_in c.args.key.now (volume_of k).entries) why (c.in_err-found.ensures.found h k stands);
    })

pub returns-in-None : goal.returns-in-None
returns-in-None g c =
    let v = c.args.self.now in
    let up = up_by c.args.self.now.down (sym c.in_ok-is_up.ensures) in
    let found = c.in_ok-found.ensures in
    let looks = c.in_ok-found.ensures.looks in
    record {
      order = record { follows = inr (ap (option_map Why.Down) up, inr (tt, inl refl)); idle = λ idle. absurd (busy_entry (state v) up idle) };
      disk = looks.disk;
      state = state_looked v c.find.new.self looks.cache looks.dirty;
      stands = looks.stands;
      gives = none_given (λ h. tt) (λ same. none_found _ c.in-None.is found.absent);
      done = λ h k stands. ap found_or (sym (found.found h k stands) ∙ ap found_entry c.in-None.is);
    }

pub returns-in-Some : goal.returns-in-Some
returns-in-Some g c =
    let M = g.M.Machine in
    let v = c.args.self.now in
    let w = c.find.new.self in
    let up = up_by c.args.self.now.down (sym c.in_ok-is_up.ensures) in
    let found = c.in_ok-found.ensures in
    let looks = c.in_ok-found.ensures.looks in
    let page = c.in-Some.found.page in
    let entry = c.in-Some.found.entry in
    let r = c.met_entry.result in
    let met = c.met_entry.ensures in
    let passes = ap (option_map Why.Down) up in
    let same = state_looked v w looks.cache looks.dirty in
    let good = subst (λ o. IfSome o (λ f. is_entry f.entry ≡ true)) c.in-Some.is looks.entry in
    let bounds = planned_bounds c.args.self.now.layout c.attest.ensures.planned in
    let most : c.find.new.self.layout.sectors ≤ 2 ^ 24 = omega (arith, bounds.sectors_most, ap (λ (v : VolumeValue). v.layout.sectors) looks.cache) in
    let so : (Q : Entry → Type 0) → (are_taken w entry.runs ≡ true → Q entry) → IfOk r Q = λ Q holds. subst (λ r. IfOk r Q) (sym met) (met_good Q w page entry holds) in
    record {
      order = record {
        follows = met_either (λ (r : Result Entry Refusal). Follows (entry_steps (state v)) r) w page entry r met (passes, (tt, (tt, tt))) (inr (passes, inl tt));
        idle = λ idle. absurd (busy_entry (state v) up idle);
      };
      disk = reads_told (met_either (λ (r : Result Entry Refusal). device_in device_of r ≡ None) w page entry r met refl refl) looks.disk;
      state = same;
      stands = looks.stands;
      gives = record {
        tells = record {
          key = key_met w c.args.key.now page entry r (rw c.in-Some.is at found.key) met;
          taken = subst (λ (s : State). IfOk r (IsTaken s)) same (taken_met w page entry r looks.told met);
          causes = met_handed M (resident v) (state v) (state w) c.args.m.now c.find.new.m w _ c.in-Some.found c.in-Some.is looks.met r met;
          absent = not_met w c.in-Some.found r met;
          found = found_met (λ e. ShowsReached M (resident v) (state v) (state w) c.args.m.now c.find.new.m (HasEntry e)) w _ c.in-Some.found c.in-Some.is found.there r met;
        };
        met = subst (λ (s : State). IfOk r (IsMet s)) same (so (IsMet (state w)) (is_met w most looks.told entry good));
        here = so (λ (e : Entry). are_taken w e.runs ≡ true) (λ taken. taken);
      };
      done = λ h k stands.
          entry_looked_up w k.mounted.volume c.args.key.now page entry r (sym (found.found h k stands) ∙ ap found_entry c.in-Some.is) (looks.taken h k stands) met;
    }
