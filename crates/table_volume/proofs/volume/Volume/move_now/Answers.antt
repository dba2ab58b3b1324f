use Rattle.std.proofs.Common.{inl, ap, sym, subst, length, ◌∙◌, arith, List, ℕ, Err, refl}
use Rattle.std.proofs.lemmas.Result.{err_from_is_err_and}
use Rattle.std.specs.Prelude.{IfNone, Option}
use Rattle.sector_disk.proofs.CallLaws.{reads_then, reads_told}
use Rattle.fsd_files.specs.Answers.{entry_of as entry_in, move_outcome}
use Rattle.fsd_files.specs.Files.{Change}
use Rattle.fsd_files.specs.declared.reply.Reply.TheVariants.{Moved}
use Rattle.fsd_sound.specs.Lookups.{LacksKey}
use Rattle.name_btree.specs.declared.lookup.FoundEntry.{FoundEntry}
use Rattle.name_btree.specs.Lookup.{found_entry}
use Rattle.volume_contract.specs.Ends.{device_of}
use Rattle.volume_contract.specs.Found.{ShowsReached}
use Rattle.volume_contract.specs.Order.{Follows, IsLookUp}
use Rattle.volume_contract.specs.State.{State, volume_of}
use Rattle.volume_laws.specs.Entered.{entering_steps}
use Rattle.volume_laws.specs.State.{resident, state}
use Rattle.volume_laws.proofs.BehindLaws.{causes_since, edited_layout, edited_slots, found_after, ok_each}
use Rattle.volume_laws.proofs.CauseLaws.{met_handed}
use Rattle.volume_laws.proofs.ChangeEnds.{look_ended}
use Rattle.volume_laws.proofs.DeleteEnds.{met_ended}
use Rattle.volume_laws.proofs.EditedLaws.{edits_looked, state_looked}
use Rattle.volume_laws.proofs.EntryLaws.{met_refused}
use Rattle.volume_laws.proofs.AbsentLaws.{not_look_up}
use Rattle.volume_laws.proofs.MoveCalls.{moves_some, moving_follows, other_fault}
use Rattle.volume_laws.proofs.MoveEnds.{move_none}
use Rattle.table_volume.proofs.volume.Volume.move_now.Goals as goal

-- ---- where the look-up fails

pub returns-in_err-found-clause-order : goal.returns-in_err-found-clause-order
returns-in_err-found-clause-order g c =
    let p = err_from_is_err_and c.from_residual.result c.from_residual.ensures.1 in
    rw (p.1, p.2) (inl c.in_err-found.ensures.looks.cause)

pub returns-in_err-found-clause-disk : goal.returns-in_err-found-clause-disk
returns-in_err-found-clause-disk g c =
    let p = err_from_is_err_and c.from_residual.result c.from_residual.ensures.1 in
    rw (p.1, p.2) c.in_err-found.ensures.looks.disk

pub returns-in_err-found-clause-edited : goal.returns-in_err-found-clause-edited
returns-in_err-found-clause-edited g c =
    let p = err_from_is_err_and c.from_residual.result c.from_residual.ensures.1 in
    rw p.1 (state_looked c.args.self.now c.find.new.self c.in_err-found.ensures.looks.cache c.in_err-found.ensures.looks.dirty)

pub returns-in_err-found-clause-tells : goal.returns-in_err-found-clause-tells
returns-in_err-found-clause-tells g c =
    let p = err_from_is_err_and c.from_residual.result c.from_residual.ensures.1 in
    record {
      named = rw p.1 tt;
      causes = rw (p.1, p.2) c.in_err-found.ensures.looks.causes;
      absent = other_fault c.from_residual.result c.in_err-found.field-0.0 c.from_residual.ensures.1 (not_look_up c.in_err-found.field-0.0 c.in_err-found.ensures.looks.cause);
      found = rw p.1 tt;
    }

pub returns-in_err-found-clause-done : goal.returns-in_err-found-clause-done
returns-in_err-found-clause-done g c =
    let p = err_from_is_err_and c.from_residual.result c.from_residual.ensures.1 in
    rw (p.1, p.2) (λ h k stands.
    look_ended (entry_in c.args.key.now (volume_of k).entries) (λ met. move_outcome met (volume_of k) c.args.key.now c.args.name.now) (Moved c.args.key.now) (Change.Move c.args.key.now c.args.name.now) k c.find.new.self
    (g.M.Machine.now c.find.new.m) c.in_err-found.field-0.0 (c.in_err-found.ensures.found h k stands) (c.in_err-found.ensures.looks.stands h k stands))

-- ---- where nothing is found

pub returns-in-None-clause-disk : goal.returns-in-None-clause-disk
returns-in-None-clause-disk g c = c.in_ok-found.ensures.looks.disk

pub returns-in-None-clause-edited : goal.returns-in-None-clause-edited
returns-in-None-clause-edited g c = state_looked c.args.self.now c.find.new.self c.in_ok-found.ensures.looks.cache c.in_ok-found.ensures.looks.dirty

pub returns-in-None-clause-tells : goal.returns-in-None-clause-tells
returns-in-None-clause-tells g c =
    let v = c.args.self.now in
    record {
      named = tt;
      causes = λ h. tt;
      absent = λ none. subst (λ (o : Option FoundEntry). IfNone o (ShowsReached g.M.Machine (resident v) (state v) (state c.find.new.self) c.args.m.now c.find.new.m (LacksKey c.args.key.now))) c.in-None.is c.in_ok-found.ensures.absent;
      found = tt;
    }

pub returns-in-None-clause-done : goal.returns-in-None-clause-done
returns-in-None-clause-done g c = λ h k stands.
    move_none k c.find.new.self (g.M.Machine.now c.find.new.m) c.args.key.now c.args.name.now (omega (arith, c.requires.few, ap (λ (d : List ℕ). length d) stands.fits.dirty))
    (sym (c.in_ok-found.ensures.found h k stands) ∙ ap found_entry c.in-None.is) (c.in_ok-found.ensures.looks.stands h k stands)

-- ---- where it is none of the table

pub returns-in_err-met_entry-in-Some-clause-order : goal.returns-in_err-met_entry-in-Some-clause-order
returns-in_err-met_entry-in-Some-clause-order g c =
    let p = err_from_is_err_and c.from_residual-in_err-met_entry-in-Some.result c.from_residual-in_err-met_entry-in-Some.ensures.1 in
    let met = met_refused c.find.new.self c.in-Some.found.page c.in-Some.found.entry c.in_err-met_entry-in-Some.field-0.0 (Err c.in_err-met_entry-in-Some.field-0.0) c.in_err-met_entry-in-Some.ensures refl in
    rw (p.1, p.2) (inl (subst IsLookUp (sym met.0) tt))

pub returns-in_err-met_entry-in-Some-clause-disk : goal.returns-in_err-met_entry-in-Some-clause-disk
returns-in_err-met_entry-in-Some-clause-disk g c =
    let p = err_from_is_err_and c.from_residual-in_err-met_entry-in-Some.result c.from_residual-in_err-met_entry-in-Some.ensures.1 in
    let met = met_refused c.find.new.self c.in-Some.found.page c.in-Some.found.entry c.in_err-met_entry-in-Some.field-0.0 (Err c.in_err-met_entry-in-Some.field-0.0) c.in_err-met_entry-in-Some.ensures refl in
    rw (p.1, p.2) (reads_told (ap device_of met.0) c.in_ok-found.ensures.looks.disk)

pub returns-in_err-met_entry-in-Some-clause-edited : goal.returns-in_err-met_entry-in-Some-clause-edited
returns-in_err-met_entry-in-Some-clause-edited g c =
    let p = err_from_is_err_and c.from_residual-in_err-met_entry-in-Some.result c.from_residual-in_err-met_entry-in-Some.ensures.1 in
    rw p.1 (state_looked c.args.self.now c.find.new.self c.in_ok-found.ensures.looks.cache c.in_ok-found.ensures.looks.dirty)

pub returns-in_err-met_entry-in-Some-clause-tells : goal.returns-in_err-met_entry-in-Some-clause-tells
returns-in_err-met_entry-in-Some-clause-tells g c =
    let r = c.from_residual-in_err-met_entry-in-Some in
    let p = err_from_is_err_and r.result r.ensures.1 in
    let why = c.in_err-met_entry-in-Some.field-0.0 in
    let met = met_refused c.find.new.self c.in-Some.found.page c.in-Some.found.entry why (Err why) c.in_err-met_entry-in-Some.ensures refl in
    let v = c.args.self.now in
    record {
      named = rw p.1 tt;
      causes = rw (p.1, p.2)
          (met_handed g.M.Machine (resident v) (state v) (state c.find.new.self) c.args.m.now c.find.new.m c.find.new.self _ c.in-Some.found c.in-Some.is c.in_ok-found.ensures.looks.met (Err why) c.in_err-met_entry-in-Some.ensures);
      absent = other_fault r.result why r.ensures.1 (not_look_up why (subst IsLookUp (sym met.0) tt));
      found = rw p.1 tt;
    }

pub returns-in_err-met_entry-in-Some-clause-done : goal.returns-in_err-met_entry-in-Some-clause-done
returns-in_err-met_entry-in-Some-clause-done g c = λ h k stands. absurd
    (met_ended c.find.new.self k c.args.key.now c.in-Some.found.page c.in-Some.found.entry c.in_err-met_entry-in-Some.field-0.0 (Err c.in_err-met_entry-in-Some.field-0.0) (sym (c.in_ok-found.ensures.found h k stands) ∙ ap found_entry c.in-Some.is) (c.in_ok-found.ensures.looks.taken h k stands) c.in_err-met_entry-in-Some.ensures refl)

-- ---- where it is

pub returns-in_ok-met_entry-in-Some-clause-order : goal.returns-in_ok-met_entry-in-Some-clause-order
returns-in_ok-met_entry-in-Some-clause-order g c =
    let looks = c.in_ok-found.ensures.looks in
    moving_follows (state c.args.self.now) c.move_found.result (subst (λ (s : State). Follows (entering_steps s) c.move_found.result) (state_looked c.args.self.now c.find.new.self looks.cache looks.dirty) c.move_found.ensures.order)

pub returns-in_ok-met_entry-in-Some-clause-disk : goal.returns-in_ok-met_entry-in-Some-clause-disk
returns-in_ok-met_entry-in-Some-clause-disk g c = reads_then c.in_ok-found.ensures.looks.disk c.move_found.ensures.disk

pub returns-in_ok-met_entry-in-Some-clause-edited : goal.returns-in_ok-met_entry-in-Some-clause-edited
returns-in_ok-met_entry-in-Some-clause-edited g c =
    let looks = c.in_ok-found.ensures.looks in
    edits_looked (state c.args.self.now) (state c.find.new.self) (state c.move_found.new.self) c.move_found.result (state_looked c.args.self.now c.find.new.self looks.cache looks.dirty) c.move_found.ensures.edited

pub returns-in_ok-met_entry-in-Some-clause-tells : goal.returns-in_ok-met_entry-in-Some-clause-tells
returns-in_ok-met_entry-in-Some-clause-tells g c =
    let v = c.args.self.now in
    let mid = c.find.new.self in
    let new = c.move_found.new.self in
    let look = c.in_ok-found.ensures in
    let moves = c.move_found.ensures in
    let slots = edited_slots (state mid) (state new) c.move_found.result moves.edited in
    let layout = edited_layout (state mid) (state new) c.move_found.result moves.edited in
    record {
      named = moves.name;
      causes = causes_since g.M.Machine (state v) (state mid) (state new) (resident v) (resident mid) c.args.m.now c.find.new.m c.move_found.new.m (λ h. look.looks.behind (moves.disk.trust.honest h)) slots layout moves.disk.worn c.move_found.result moves.causes;
      absent = λ none. absurd (moves_some (state mid) c.move_found.result moves.order none);
      found = ok_each c.move_found.result
          (found_after g.M.Machine (state v) (state mid) (state new) (resident v) c.args.m.now c.find.new.m c.move_found.new.m slots layout moves.disk.trust.honest moves.disk.worn c.args.key.now _ c.in-Some.found c.in-Some.is look.key look.there);
    }

pub returns-in_ok-met_entry-in-Some-clause-done : goal.returns-in_ok-met_entry-in-Some-clause-done
returns-in_ok-met_entry-in-Some-clause-done g c = λ h k stands.
    let back = c.move_found.ensures.disk.trust.honest h in
    c.move_found.ensures.done h k (c.in_ok-found.ensures.looks.stands back k stands) c.in-Some.found.entry (sym (c.in_ok-found.ensures.found back k stands) ∙ ap found_entry c.in-Some.is)
