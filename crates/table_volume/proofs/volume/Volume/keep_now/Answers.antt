use Rattle.std.proofs.Common.{◌≡◌, inl, ap, sym, length, ◌∙◌, arith, Err, List, ℕ}
use Rattle.std.proofs.lemmas.Result.{err_from_is_err_and}
use Rattle.fsd_bytes.specs.declared.refusal.Refusal.TheVariants as Why
use Rattle.fsd_bytes.specs.declared.refusal.Refusal.{Refusal}
use Rattle.sector_disk.proofs.CallLaws.{reads_then}
use Rattle.fsd_files.specs.Answers.{highest_entry, keep_outcome}
use Rattle.fsd_files.specs.Files.{Change}
use Rattle.name_btree.specs.Lookup.{found_entry}
use Rattle.volume_contract.specs.Ends.{kept_key}
use Rattle.volume_contract.specs.State.{volume_of}
use Rattle.volume_laws.specs.State.{resident, state}
use Rattle.volume_laws.proofs.ChangeEnds.{keep_none, look_ended}
use Rattle.volume_laws.proofs.EditedLaws.{causes_looked, edits_looked, follows_looked, state_looked}
use Rattle.table_volume.proofs.volume.Volume.keep_now.Goals as goal

-- ---- where the look-up fails

pub returns-in_err-found-clause-order : goal.returns-in_err-found-clause-order
returns-in_err-found-clause-order g c =
    let p = err_from_is_err_and c.from_residual.result c.from_residual.ensures.1 in
    rw (p.1, p.2) (inl c.in_err-found.ensures.looks.cause)

pub returns-in_err-found-clause-disk : goal.returns-in_err-found-clause-disk
returns-in_err-found-clause-disk g c =
    let p = err_from_is_err_and c.from_residual.result c.from_residual.ensures.1 in
    rw (p.1, p.2) c.in_err-found.ensures.looks.disk

pub returns-in_err-found-clause-edited : goal.returns-in_err-found-clause-edited
returns-in_err-found-clause-edited g c =
    let looks = c.in_err-found.ensures.looks in
    let p = err_from_is_err_and c.from_residual.result c.from_residual.ensures.1 in
    rw p.1 (state_looked c.args.self.now c.find_highest.new.self looks.cache looks.dirty)

pub returns-in_err-found-clause-tells : goal.returns-in_err-found-clause-tells
returns-in_err-found-clause-tells g c =
    let failed = c.in_err-found.ensures in
    let p = err_from_is_err_and c.from_residual.result c.from_residual.ensures.1 in
    rw (p.1, p.2) (record {
      name = tt;
      memory = λ has wants. failed.memory has (let same : c.in_err-found.field-0.0 ≡ Why.Memory = cc wants in ap (λ (e : Refusal). Err e) same);
      causes = failed.looks.causes;
    })

pub returns-in_err-found-clause-done : goal.returns-in_err-found-clause-done
returns-in_err-found-clause-done g c =
    let p = err_from_is_err_and c.from_residual.result c.from_residual.ensures.1 in
    rw (p.1, p.2) (λ h k stands.
    look_ended (highest_entry c.args.name.now (volume_of k).entries) (λ met. keep_outcome met (volume_of k) c.args.name.now c.args.keep) (kept_key c.args.keep) (Change.SetKeep c.args.name.now c.args.keep) k c.find_highest.new.self
    (g.M.Machine.now c.find_highest.new.m) c.in_err-found.field-0.0 (c.in_err-found.ensures.found h k stands) (c.in_err-found.ensures.looks.stands h k stands))

-- ---- where nothing is found

pub returns-in-None-clause-disk : goal.returns-in-None-clause-disk
returns-in-None-clause-disk g c = c.in_ok-found.ensures.looks.disk

pub returns-in-None-clause-edited : goal.returns-in-None-clause-edited
returns-in-None-clause-edited g c =
    let looks = c.in_ok-found.ensures.looks in
    state_looked c.args.self.now c.find_highest.new.self looks.cache looks.dirty

pub returns-in-None-clause-tells : goal.returns-in-None-clause-tells
returns-in-None-clause-tells g c = record { name = tt; memory = λ has wants. absurd (cc wants); causes = λ h. tt }

pub returns-in-None-clause-done : goal.returns-in-None-clause-done
returns-in-None-clause-done g c = λ h k stands.
    keep_none k c.find_highest.new.self (g.M.Machine.now c.find_highest.new.m) c.args.name.now c.args.keep c.requires.keep (omega (arith, c.requires.few, ap (λ (d : List ℕ). length d) stands.fits.dirty))
    (sym (c.in_ok-found.ensures.found h k stands) ∙ ap found_entry c.in-None.is) (c.in_ok-found.ensures.looks.stands h k stands)

-- ---- where it is

pub returns-in-Some-clause-order : goal.returns-in-Some-clause-order
returns-in-Some-clause-order g c = follows_looked c.keep_found.result c.keep_found.ensures.order

pub returns-in-Some-clause-disk : goal.returns-in-Some-clause-disk
returns-in-Some-clause-disk g c = reads_then c.in_ok-found.ensures.looks.disk c.keep_found.ensures.disk

pub returns-in-Some-clause-edited : goal.returns-in-Some-clause-edited
returns-in-Some-clause-edited g c =
    let looks = c.in_ok-found.ensures.looks in
    edits_looked (state c.args.self.now) (state c.find_highest.new.self) (state c.keep_found.new.self) c.keep_found.result (state_looked c.args.self.now c.find_highest.new.self looks.cache looks.dirty) c.keep_found.ensures.edited

pub returns-in-Some-clause-tells : goal.returns-in-Some-clause-tells
returns-in-Some-clause-tells g c =
    let found = c.in_ok-found.ensures in
    let kept = c.keep_found.ensures in
    record {
      name = kept.tells.name;
      memory = λ has. kept.tells.memory (found.stays has);
      causes = causes_looked g.M.Machine (resident c.find_highest.new.self) (resident c.args.self.now) (state c.args.self.now) (state c.find_highest.new.self) (state c.keep_found.new.self) c.args.m.now c.find_highest.new.m c.keep_found.new.m c.keep_found.result
          (state_looked c.args.self.now c.find_highest.new.self found.looks.cache found.looks.dirty) kept.order kept.tells.causes;
    }

pub returns-in-Some-clause-done : goal.returns-in-Some-clause-done
returns-in-Some-clause-done g c = λ h k stands. c.keep_found.ensures.done h k (c.in_ok-found.ensures.looks.stands (c.keep_found.ensures.disk.trust.honest h) k stands)
