use Rattle.std.proofs.Common.{◌≡◌, inl, ap, sym, subst, length, ◌∙◌, arith, List, ℕ, Some, Ok, Err, refl}
use Rattle.std.proofs.lemmas.Result.{err_from_is_err_and}
use Rattle.std.specs.Prelude.{IsTrue}
use Rattle.sector_disk.proofs.CallLaws.{reads_then, reads_told}
use Rattle.fsd_bytes.specs.declared.key.Key.{Key}
use Rattle.fsd_formats.specs.declared.entry.Entry.{Entry}
use Rattle.fsd_files.specs.Answers.{delete_outcome, entry_of as entry_in}
use Rattle.fsd_files.specs.Files.{Change}
use Rattle.fsd_files.specs.declared.reply.Reply.TheVariants.{Deleted}
use Rattle.name_btree.specs.Lookup.{found_entry}
use Rattle.volume_contract.specs.Ends.{device_of}
use Rattle.volume_contract.specs.Order.{IsLookUp}
use Rattle.volume_contract.specs.State.{volume_of}
use Rattle.volume_laws.specs.Taken.{are_taken}
use Rattle.volume_laws.specs.State.{resident, state}
use Rattle.volume_laws.proofs.BehindLaws.{edited_layout, edited_slots, found_after, ok_so}
use Rattle.volume_laws.proofs.ChangeEnds.{look_ended}
use Rattle.volume_laws.proofs.DeleteEnds.{delete_none, keyed_ends, met_ended}
use Rattle.volume_laws.proofs.EditedLaws.{causes_looked, edits_looked, follows_looked, state_looked}
use Rattle.volume_laws.proofs.EntryLaws.{entry_key, met_refused, met_taken}
use Rattle.volume_laws.proofs.CauseLaws.{met_handed}
use Rattle.table_volume.proofs.volume.Volume.delete_now.Goals as goal

-- ---- where the look-up fails

pub returns-in_err-found-clause-order : goal.returns-in_err-found-clause-order
returns-in_err-found-clause-order g c =
    let p = err_from_is_err_and c.from_residual.result c.from_residual.ensures.1 in
    rw (p.1, p.2) (inl c.in_err-found.ensures.looks.cause)

pub returns-in_err-found-clause-disk : goal.returns-in_err-found-clause-disk
returns-in_err-found-clause-disk g c =
    let p = err_from_is_err_and c.from_residual.result c.from_residual.ensures.1 in
    rw (p.1, p.2) c.in_err-found.ensures.looks.disk

pub returns-in_err-found-clause-edited : goal.returns-in_err-found-clause-edited
returns-in_err-found-clause-edited g c =
    let p = err_from_is_err_and c.from_residual.result c.from_residual.ensures.1 in
    rw p.1 (state_looked c.args.self.now c.find.new.self c.in_err-found.ensures.looks.cache c.in_err-found.ensures.looks.dirty)

pub returns-in_err-found-clause-tells : goal.returns-in_err-found-clause-tells
returns-in_err-found-clause-tells g c =
    let p = err_from_is_err_and c.from_residual.result c.from_residual.ensures.1 in
    rw (p.1, p.2) (record { causes = c.in_err-found.ensures.looks.causes; found = tt })

pub returns-in_err-found-clause-done : goal.returns-in_err-found-clause-done
returns-in_err-found-clause-done g c =
    let p = err_from_is_err_and c.from_residual.result c.from_residual.ensures.1 in
    rw (p.1, p.2) (λ h k stands.
    look_ended {T = Unit {0}} (entry_in c.args.key.now (volume_of k).entries) (λ met. delete_outcome met (volume_of k) c.args.key.now) (λ x. Deleted c.args.key.now) (Change.Delete c.args.key.now) k c.find.new.self
    (g.M.Machine.now c.find.new.m) c.in_err-found.field-0.0 (c.in_err-found.ensures.found h k stands) (c.in_err-found.ensures.looks.stands h k stands))

-- ---- where nothing is found

pub returns-in-None-clause-disk : goal.returns-in-None-clause-disk
returns-in-None-clause-disk g c = c.in_ok-found.ensures.looks.disk

pub returns-in-None-clause-edited : goal.returns-in-None-clause-edited
returns-in-None-clause-edited g c = state_looked c.args.self.now c.find.new.self c.in_ok-found.ensures.looks.cache c.in_ok-found.ensures.looks.dirty

pub returns-in-None-clause-done : goal.returns-in-None-clause-done
returns-in-None-clause-done g c = λ h k stands.
    delete_none k c.find.new.self (g.M.Machine.now c.find.new.m) c.args.key.now (omega (arith, c.requires.few, ap (λ (d : List ℕ). length d) stands.fits.dirty))
    (sym (c.in_ok-found.ensures.found h k stands) ∙ ap found_entry c.in-None.is) (c.in_ok-found.ensures.looks.stands h k stands)

-- ---- where it is none of the table

pub returns-in_err-entry-in-Some-clause-order : goal.returns-in_err-entry-in-Some-clause-order
returns-in_err-entry-in-Some-clause-order g c =
    let p = err_from_is_err_and c.from_residual-in_err-entry-in-Some.result c.from_residual-in_err-entry-in-Some.ensures.1 in
    let met = met_refused c.find.new.self c.in-Some.found.page c.in-Some.found.entry c.in_err-entry-in-Some.field-0.0 (Err c.in_err-entry-in-Some.field-0.0) c.in_err-entry-in-Some.ensures refl in
    rw (p.1, p.2) (inl (subst IsLookUp (sym met.0) tt))

pub returns-in_err-entry-in-Some-clause-disk : goal.returns-in_err-entry-in-Some-clause-disk
returns-in_err-entry-in-Some-clause-disk g c =
    let p = err_from_is_err_and c.from_residual-in_err-entry-in-Some.result c.from_residual-in_err-entry-in-Some.ensures.1 in
    let met = met_refused c.find.new.self c.in-Some.found.page c.in-Some.found.entry c.in_err-entry-in-Some.field-0.0 (Err c.in_err-entry-in-Some.field-0.0) c.in_err-entry-in-Some.ensures refl in
    rw (p.1, p.2) (reads_told (ap device_of met.0) c.in_ok-found.ensures.looks.disk)

pub returns-in_err-entry-in-Some-clause-edited : goal.returns-in_err-entry-in-Some-clause-edited
returns-in_err-entry-in-Some-clause-edited g c =
    let p = err_from_is_err_and c.from_residual-in_err-entry-in-Some.result c.from_residual-in_err-entry-in-Some.ensures.1 in
    rw p.1 (state_looked c.args.self.now c.find.new.self c.in_ok-found.ensures.looks.cache c.in_ok-found.ensures.looks.dirty)

pub returns-in_err-entry-in-Some-clause-tells : goal.returns-in_err-entry-in-Some-clause-tells
returns-in_err-entry-in-Some-clause-tells g c =
    let p = err_from_is_err_and c.from_residual-in_err-entry-in-Some.result c.from_residual-in_err-entry-in-Some.ensures.1 in
    let w = c.args.self.now in
    let new = state c.find.new.self in
    rw (p.1, p.2)
    (record {
      causes = met_handed g.M.Machine (resident w) (state w) new c.args.m.now c.find.new.m c.find.new.self _ c.in-Some.found c.in-Some.is c.in_ok-found.ensures.looks.met (Err c.in_err-entry-in-Some.field-0.0) c.in_err-entry-in-Some.ensures;
      found = tt;
    })

pub returns-in_err-entry-in-Some-clause-done : goal.returns-in_err-entry-in-Some-clause-done
returns-in_err-entry-in-Some-clause-done g c = λ h k stands. absurd
    (met_ended c.find.new.self k c.args.key.now c.in-Some.found.page c.in-Some.found.entry c.in_err-entry-in-Some.field-0.0 (Err c.in_err-entry-in-Some.field-0.0) (sym (c.in_ok-found.ensures.found h k stands) ∙ ap found_entry c.in-Some.is) (c.in_ok-found.ensures.looks.taken h k stands) c.in_err-entry-in-Some.ensures refl)

-- ---- where it is

pub take_found-requires-clause-taken : goal.take_found-requires-clause-taken
take_found-requires-clause-taken g c =
    let met = met_taken c.find.new.self c.in-Some.found.page c.in-Some.found.entry c.in_ok-entry-in-Some.entry (Ok c.in_ok-entry-in-Some.entry) c.in_ok-entry-in-Some.ensures refl in
    subst (λ (e : Entry). IsTrue (are_taken c.find.new.self e.runs)) (sym met.0) met.1

pub returns-in_ok-entry-in-Some-clause-order : goal.returns-in_ok-entry-in-Some-clause-order
returns-in_ok-entry-in-Some-clause-order g c = follows_looked c.take_found.result c.take_found.ensures.order

pub returns-in_ok-entry-in-Some-clause-disk : goal.returns-in_ok-entry-in-Some-clause-disk
returns-in_ok-entry-in-Some-clause-disk g c = reads_then c.in_ok-found.ensures.looks.disk c.take_found.ensures.disk

pub returns-in_ok-entry-in-Some-clause-edited : goal.returns-in_ok-entry-in-Some-clause-edited
returns-in_ok-entry-in-Some-clause-edited g c =
    edits_looked (state c.args.self.now) (state c.find.new.self) (state c.take_found.new.self) c.take_found.result (state_looked c.args.self.now c.find.new.self c.in_ok-found.ensures.looks.cache c.in_ok-found.ensures.looks.dirty) c.take_found.ensures.edited

pub returns-in_ok-entry-in-Some-clause-tells : goal.returns-in_ok-entry-in-Some-clause-tells
returns-in_ok-entry-in-Some-clause-tells g c =
    let v = c.args.self.now in
    let mid = c.find.new.self in
    let new = c.take_found.new.self in
    let looks = c.in_ok-found.ensures.looks in
    let taken = c.take_found.ensures in
    record {
      causes = causes_looked g.M.Machine (resident mid) (resident v) (state v) (state mid) (state new) c.args.m.now c.find.new.m c.take_found.new.m c.take_found.result (state_looked v mid looks.cache looks.dirty) taken.order taken.causes;
      found = ok_so c.take_found.result (found_after g.M.Machine (state v) (state mid) (state new) (resident v) c.args.m.now c.find.new.m c.take_found.new.m (edited_slots (state mid) (state new) c.take_found.result taken.edited)
          (edited_layout (state mid) (state new) c.take_found.result taken.edited) taken.disk.trust.honest taken.disk.worn c.args.key.now _ c.in-Some.found c.in-Some.is c.in_ok-found.ensures.key c.in_ok-found.ensures.there);
    }

pub returns-in_ok-entry-in-Some-clause-done : goal.returns-in_ok-entry-in-Some-clause-done
returns-in_ok-entry-in-Some-clause-done g c = λ h k stands.
    let back = c.take_found.ensures.disk.trust.honest h in
    let met = met_taken c.find.new.self c.in-Some.found.page c.in-Some.found.entry c.in_ok-entry-in-Some.entry (Ok c.in_ok-entry-in-Some.entry) c.in_ok-entry-in-Some.ensures refl in
    let there : entry_in c.args.key.now (volume_of k).entries ≡ Some c.in-Some.found.entry = sym (c.in_ok-found.ensures.found back k stands) ∙ ap found_entry c.in-Some.is in
    let same = entry_key c.args.key.now (volume_of k).entries c.in-Some.found.entry there in
    let key : c.in_ok-entry-in-Some.entry.key ≡ c.args.key.now = ap (λ (e : Entry). e.key) met.0 ∙ same in
    let listed : entry_in c.in_ok-entry-in-Some.entry.key (volume_of k).entries ≡ Some c.in_ok-entry-in-Some.entry = ap (λ (x : Key). entry_in x (volume_of k).entries) key ∙ there ∙ ap (λ (e : Entry). Some e) (sym met.0) in
    keyed_ends k c.take_found.new.self (g.M.Machine.now c.take_found.new.m) c.args.key.now c.in_ok-entry-in-Some.entry.key c.take_found.result key (c.take_found.ensures.done h k (c.in_ok-found.ensures.looks.stands back k stands) listed)
