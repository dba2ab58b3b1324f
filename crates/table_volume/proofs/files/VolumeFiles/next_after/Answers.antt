use Rattle.std.proofs.Common.{◌<◌, ◌≤◌, ◌^◌, ◌∙◌, inl, inr, ℕ, Option, option_map, ap, arith, refl, sym, subst}
use Rattle.std.proofs.lemmas.Result.{err_from_is_err_and}
use Rattle.std.specs.Prelude.{IfSome}
use Rattle.std.specs.Option.{option_copied}
use Rattle.sector_disk.specs.Calls.{device_in}
use Rattle.sector_disk.proofs.CallLaws.{reads_told}
use Rattle.fsd_formats.specs.declared.entry.Entry.{Entry}
use Rattle.fsd_files.specs.Answers.{entry_after, next_reply}
use Rattle.volume_contract.specs.Ends.{LooksUp, device_of}
use Rattle.volume_contract.specs.Found.{ShowsReachedNext}
use Rattle.volume_contract.specs.Order.{Follows, next_steps}
use Rattle.volume_contract.specs.Telling.{TellsNext}
use Rattle.volume_laws.specs.State.{resident, state}
use Rattle.volume_laws.specs.Volume.{VolumeValue}
use Rattle.volume_layout.proofs.RootLaws.{planned_bounds}
use Rattle.table_volume.proofs.MetLaws.{found_is_met, met_place}
use Rattle.volume_laws.proofs.AbsentLaws.{none_met}
use Rattle.volume_laws.proofs.CauseLaws.{handed_cause, met_one}
use Rattle.volume_laws.proofs.EditedLaws.{state_looked}
use Rattle.volume_laws.proofs.EntryLaws.{fault_looked_up}
use Rattle.volume_laws.proofs.FoundLaws.{one_met}
use Rattle.volume_laws.proofs.NextLaws.{busy_next, met_done, met_later, met_order, up_by}
use Rattle.fsd_bytes.specs.declared.refusal.Refusal.TheVariants as Why
use Rattle.volume_contract.specs.Causes.{HasCallCause}
use Rattle.table_volume.proofs.DownLaws.{down_step, told_down}
use Rattle.table_volume.proofs.files.VolumeFiles.next_after.Goals as goal

pub returns-in_err-is_up-clause-order : goal.returns-in_err-is_up-clause-order
returns-in_err-is_up-clause-order g c =
    let v = c.args.self.now in
    let why = c.in_err-is_up.field-0.0 in
    let p = err_from_is_err_and c.from_residual.result c.from_residual.ensures.1 in
    rw (p.1, p.2) (record { follows = inl (down_step v.down why (sym c.in_err-is_up.ensures)); idle = λ idle. refl })

pub returns-in_err-is_up-clause-tells : goal.returns-in_err-is_up-clause-tells
returns-in_err-is_up-clause-tells g c =
    let v = c.args.self.now in
    let s = state v in
    let now = g.M.Machine.now c.args.m.now in
    let why = c.in_err-is_up.field-0.0 in
    let back = c.from_residual in
    let p = err_from_is_err_and back.result back.ensures.1 in
    record {
      later = rw p.1 tt;
      met = rw p.1 tt;
      causes = handed_cause g.M.Machine (resident v) s s c.args.m.now c.args.m.now why back.result back.ensures.1 (λ h. told_down (HasCallCause s s (resident v) now now) (λ place. tt) v.down why (sym c.in_err-is_up.ensures));
      absent = rw p.1 tt;
      found = rw p.1 tt;
    }

pub returns-in_err-found-clause-order : goal.returns-in_err-found-clause-order
returns-in_err-found-clause-order g c =
    let s = state c.args.self.now in
    let up = up_by c.args.self.now.down (sym c.in_ok-is_up.ensures) in
    let p = err_from_is_err_and c.from_residual-in_err-found.result c.from_residual-in_err-found.ensures.1 in
    rw (p.1, p.2) (record { follows = inr (ap (λ (d : Option ℕ). option_map Why.Down d) up, inl c.in_err-found.ensures.looks.cause); idle = λ idle. absurd (busy_next s up idle) })

pub returns-in_err-found-clause-disk : goal.returns-in_err-found-clause-disk
returns-in_err-found-clause-disk g c =
    let p = err_from_is_err_and c.from_residual-in_err-found.result c.from_residual-in_err-found.ensures.1 in
    rw (p.1, p.2) c.in_err-found.ensures.looks.disk

pub returns-in_err-found-clause-state : goal.returns-in_err-found-clause-state
returns-in_err-found-clause-state g c = let looks = c.in_err-found.ensures.looks in state_looked c.args.self.now c.find_next.new.self looks.cache looks.dirty

pub returns-in_err-found-clause-stands : goal.returns-in_err-found-clause-stands
returns-in_err-found-clause-stands g c = c.in_err-found.ensures.looks.stands

pub returns-in_err-found-clause-tells : goal.returns-in_err-found-clause-tells
returns-in_err-found-clause-tells g c =
    let v = c.args.self.now in
    let failed = c.in_err-found.ensures.looks in
    let back = c.from_residual-in_err-found in
    let p = err_from_is_err_and back.result back.ensures.1 in
    record {
      later = rw p.1 tt;
      met = rw p.1 tt;
      causes = handed_cause g.M.Machine (resident v) (state v) (state c.find_next.new.self) c.args.m.now c.find_next.new.m c.in_err-found.field-0.0 back.result back.ensures.1 failed.causes;
      absent = rw p.1 tt;
      found = rw p.1 tt;
    }

pub met_found-requires : goal.met_found-requires
met_found-requires g c =
    let looks = c.in_ok-found.ensures.looks in
    subst (λ (n : ℕ). IfSome c.in_ok-found.found (λ f. f.page < n)) (sym (ap (λ (v : VolumeValue). v.layout.pages) looks.cache)) looks.page

pub returns-clause-order : goal.returns-clause-order
returns-clause-order g c =
    let s = state c.args.self.now in
    let up = up_by c.args.self.now.down (sym c.in_ok-is_up.ensures) in
    record {
      follows = subst (Follows (next_steps s)) (sym c.met_found.ensures) (met_order s c.find_next.new.self c.in_ok-found.found up);
      idle = λ idle. absurd (busy_next s up idle);
    }

pub returns-clause-disk : goal.returns-clause-disk
returns-clause-disk g c =
    reads_told (ap (device_in device_of) c.met_found.ensures ∙ met_place c.find_next.new.self c.in_ok-found.found) c.in_ok-found.ensures.looks.disk

pub returns-clause-state : goal.returns-clause-state
returns-clause-state g c = let looks = c.in_ok-found.ensures.looks in state_looked c.args.self.now c.find_next.new.self looks.cache looks.dirty

pub returns-clause-stands : goal.returns-clause-stands
returns-clause-stands g c = c.in_ok-found.ensures.looks.stands

pub returns-clause-done : goal.returns-clause-done
returns-clause-done g c = λ h k stands.
    subst (LooksUp (next_reply k.mounted.volume (option_copied c.args.after))) (sym c.met_found.ensures)
    (met_done c.find_next.new.self c.in_ok-found.found (option_copied c.args.after) k.mounted.volume.entries (c.in_ok-found.ensures.found h k stands) (c.in_ok-found.ensures.looks.taken h k stands))

pub returns-in_err-found-clause-done : goal.returns-in_err-found-clause-done
returns-in_err-found-clause-done g c =
    let p = err_from_is_err_and c.from_residual-in_err-found.result c.from_residual-in_err-found.ensures.1 in
    rw (p.1, p.2) (λ h k stands.
    fault_looked_up (next_reply k.mounted.volume (option_copied c.args.after)) (entry_after (option_copied c.args.after) k.mounted.volume.entries) c.in_err-found.field-0.0 (c.in_err-found.ensures.found h k stands))

pub returns-clause-tells : goal.returns-clause-tells
returns-clause-tells g c =
    let v = c.args.self.now in
    let w = c.find_next.new.self in
    let after = option_copied c.args.after in
    let found = c.in_ok-found.ensures in
    let looks = c.in_ok-found.ensures.looks in
    let bounds = planned_bounds c.args.self.now.layout c.attest.ensures.planned in
    let most : w.layout.sectors ≤ 2 ^ 24 = omega (arith, bounds.sectors_most, ap (λ (v : VolumeValue). v.layout.sectors) looks.cache) in
    let Is : Entry → Type 0 = ShowsReachedNext g.M.Machine (resident v) (state v) (state w) c.args.m.now c.find_next.new.m after in
    subst (TellsNext g.M.Machine (resident v) (state v) (state w) c.args.m.now c.find_next.new.m after) (sym c.met_found.ensures) (record {
      later = met_later w c.in_ok-found.found after found.later;
      met = found_is_met w most looks.told c.in_ok-found.found looks.entry;
      causes = met_one g.M.Machine (resident v) (state v) (state w) c.args.m.now c.find_next.new.m w c.in_ok-found.found looks.met;
      absent = none_met _ w c.in_ok-found.found found.absent;
      found = one_met Is w c.in_ok-found.found found.next;
    })
