use Rattle.std.proofs.Common.{inl, inr, ◌≤◌, Bool, length, None, Ok, rules, refl, sym, ap, subst, ◌∙◌}
use Rattle.std.proofs.lemmas.Result.{err_from_is_err_and}
use Rattle.sector_disk.proofs.CallLaws.{reads_told, told_up}
use Rattle.sector_set.specs.Area.{AreIn}
use Rattle.fsd_bytes.specs.declared.refusal.Refusal.TheVariants as Why
use Rattle.fsd_formats.specs.NamePage.{sectors_for}
use Rattle.volume_contract.specs.Ends.{device_of}
use Rattle.volume_laws.specs.Placing.{IsPlace}
use Rattle.volume_laws.specs.State.{resident, state}
use Rattle.volume_laws.specs.Volume.{VolumeValue}
use Rattle.volume_laws.proofs.CauseLaws.{handed_cause}
use Rattle.volume_laws.proofs.EditedLaws.{stayed}
use Rattle.volume_laws.proofs.EnteredCalls.{enters_told, place_told, through_entered, waiting_were}
use Rattle.volume_laws.proofs.FreeStays.{version_worn}
use Rattle.volume_laws.proofs.LoadedLaws.{ends_loaded, load_comes, load_exists, load_reached, load_refused, load_some, whole_loaded}
use Rattle.volume_laws.proofs.MetCauses.{enter_cause}
use Rattle.volume_laws.proofs.MoveCalls.{asked_follows, other_fault}
use Rattle.volume_laws.proofs.RunFitLaws.{place_fits}
use Rattle.volume_laws.proofs.WholeLaws.{whole_edited}
use Rattle.table_volume.proofs.volume.Volume.loaded.Goals as goal

pub load-done-requires-clause-runs : goal.load-done-requires-clause-runs
load-done-requires-clause-runs g c =
    place_fits c.self.inside.layout c.self.inside.map c.self.invariant.map (search rules) c.args.draft c.requires.good (subst (λ (x : VolumeValue). AreIn x.map c.args.draft.runs) (sym c.self.view_is) c.requires.place.free)

-- ---- it is refused

pub returns-in_err-done-clause-order : goal.returns-in_err-done-clause-order
returns-in_err-done-clause-order g c =
    let p = err_from_is_err_and c.from_residual.result c.from_residual.ensures.1 in
    let done = c.load-done in
    rw (p.1, p.2) (load_comes g.M.Machine c.args.m.now done.new.m _ c.args.self.now c.self.view_is c.over-source.result c.args.key.now done.new.self.cache done.new.self.free_pages c.home_a-home_a.result c.in_err-done.field-0.0 c.in_err-done.ensures.refused)

pub returns-in_err-done-clause-disk : goal.returns-in_err-done-clause-disk
returns-in_err-done-clause-disk g c =
    reads_told (told_up device_of c.from_residual.result c.in_err-done.field-0.0 c.from_residual.ensures.1 ∙ place_told c.in_err-done.field-0.0) c.in_err-done.ensures.edits.reads

pub returns-in_err-done-clause-enters : goal.returns-in_err-done-clause-enters
returns-in_err-done-clause-enters g c =
    let p = err_from_is_err_and c.from_residual.result c.from_residual.ensures.1 in
    let done = c.load-done in
    rw p.1 (stayed _ c.args.self.now c.self.view_is done.new.self.cache done.new.self.free_pages c.in_err-done.ensures.refused.kept.dirty c.in_err-done.ensures.refused.kept.same_flags)

pub returns-in_err-done-clause-tells : goal.returns-in_err-done-clause-tells
returns-in_err-done-clause-tells g c =
    let done = c.load-done in
    let w = c.args.self.now in
    let why = c.in_err-done.field-0.0 in
    let refused = c.in_err-done.ensures.refused in
    let back = c.from_residual in
    record {
      causes = handed_cause g.M.Machine (resident w) (state w) _ c.args.m.now done.new.m why back.result back.ensures.1
          (enter_cause g.M.Machine c.args.m.now done.new.m _ w c.self.view_is c.self.invariant done.new.self.cache done.new.self.free_pages c.over-source.result c.over-source.ensures c.home_a-home_a.result c.home_a-home_a.ensures.place why
          c.in_err-done.ensures.edits refused.looks refused.shown);
      there = other_fault back.result why back.ensures.1
          (load_some g.M.Machine c.args.m.now done.new.m c.over-source.result c.args.key.now _ _ _ done.new.self.cache _ done.new.self.free_pages c.home_a-home_a.result why refused);
    }

pub returns-in_err-done-clause-done : goal.returns-in_err-done-clause-done
returns-in_err-done-clause-done g c = λ honest bytes k stands long written.
    let done = c.load-done in
    load_refused g.M.Machine g.met.M.Machine.short c.args.m.now done.new.m _ c.args.self.now c.self.view_is c.self.invariant c.attest.ensures done.new.self.cache done.new.self.free_pages c.over-source.result c.over-source.ensures
    c.args.key.now c.args.keep c.args.draft honest k stands bytes c.attest-2.ensures c.from_residual.result c.in_err-done.field-0.0 c.home_a-home_a.result c.from_residual.ensures.1 c.in_err-done.ensures.edits c.in_err-done.ensures.refused

-- ---- a version of the key is there

pub invariant_of-self-then-not-branch : goal.invariant_of-self-then-not-branch
invariant_of-self-then-not-branch g c =
    let done = c.load-done in
    whole_edited g.M.Machine _ c.over-source.result c.args.m.now done.new.m _ c.args.self.now c.self.view_is c.self.invariant None done.new.self.cache done.new.self.free_pages c.in_ok-done.ensures.edits done.ensures.waiting c.requires.up c.requires.numbered

pub returns-then-not-branch-clause-order : goal.returns-then-not-branch-clause-order
returns-then-not-branch-clause-order g c = inr (tt, inl refl)

pub returns-then-not-branch-clause-enters : goal.returns-then-not-branch-clause-enters
returns-then-not-branch-clause-enters g c =
    let done = c.load-done in
    let there = c.in_ok-done.ensures.there (ap (λ (b : Bool). Ok b) c.if-not-branch.true) in
    stayed _ c.args.self.now c.self.view_is done.new.self.cache done.new.self.free_pages there.kept.dirty there.kept.same_flags

pub returns-then-not-branch-clause-tells : goal.returns-then-not-branch-clause-tells
returns-then-not-branch-clause-tells g c =
    let done = c.load-done in
    record {
      causes = λ honest. tt;
      there = λ is. load_reached g.M.Machine c.args.m.now done.new.m _ c.args.self.now c.self.view_is c.self.invariant done.new.self.cache done.new.self.free_pages c.over-source.result c.over-source.ensures _ c.args.key.now
          (c.in_ok-done.ensures.there (ap (λ (b : Bool). Ok b) c.if-not-branch.true));
    }

pub returns-then-not-branch-clause-done : goal.returns-then-not-branch-clause-done
returns-then-not-branch-clause-done g c = λ honest bytes k stands long written.
    let done = c.load-done in
    load_exists g.M.Machine g.met.M.Machine.short c.args.m.now done.new.m _ c.args.self.now c.self.view_is c.self.invariant c.attest.ensures done.new.self.cache done.new.self.free_pages c.over-source.result c.over-source.ensures
    c.args.key.now c.args.keep c.args.draft honest k stands bytes (Unit {0}) c.attest-2.ensures c.in_ok-done.ensures.edits (c.in_ok-done.ensures.there (ap (λ (b : Bool). Ok b) c.if-not-branch.true))

-- ---- it is loaded

pub invariant_of-self-2 : goal.invariant_of-self-2
invariant_of-self-2 g c =
    let done = c.load-done in
    let left = whole_edited g.M.Machine _ c.over-source.result c.args.m.now done.new.m _ c.args.self.now c.self.view_is c.self.invariant None done.new.self.cache done.new.self.free_pages c.in_ok-done.ensures.edits done.ensures.waiting c.requires.up c.requires.numbered in
    whole_loaded _ c.self.invariant done.new.self.cache done.new.self.free_pages left c.args.draft c.take.new.self c.versions_with_one-self-inside.result c.take.ensures

pub returns-clause-order : goal.returns-clause-order
returns-clause-order g c =
    let loads = c.in_ok-done.ensures.loaded (ap (λ (b : Bool). Ok b) c.if-not-branch.false) in
    asked_follows {T = Unit {0}} Why.Exists (state c.args.self.now) (Ok tt) (through_entered _ c.args.self.now c.self.view_is loads.full)

pub returns-clause-enters : goal.returns-clause-enters
returns-clause-enters g c = enters_told _ c.args.self.now c.self.view_is c.take.new.self c.self.inside.shadow c.load-done.new.self.cache c.load-done.new.self.free_pages c.versions_with_one-self-inside.result refl refl

pub returns-clause-done : goal.returns-clause-done
returns-clause-done g c = λ honest bytes k stands long written.
    let done = c.load-done in
    let edits = c.in_ok-done.ensures.edits in
    let loads = c.in_ok-done.ensures.loaded (ap (λ (b : Bool). Ok b) c.if-not-branch.false) in
    let left = whole_edited g.M.Machine _ c.over-source.result c.args.m.now done.new.m _ c.args.self.now c.self.view_is c.self.invariant None done.new.self.cache done.new.self.free_pages edits done.ensures.waiting c.requires.up c.requires.numbered in
    ends_loaded g.M.Machine g.met.M.Machine.short c.args.m.now done.new.m _ c.args.self.now c.self.view_is c.self.invariant c.attest.ensures done.new.self.cache done.new.self.free_pages c.over-source.result c.over-source.ensures
    c.args.key.now c.args.keep c.args.draft honest k stands bytes (search rules) (subst (λ (x : VolumeValue). length x.cache.dirty ≤ 56) (sym c.self.view_is) c.requires.few) edits done.ensures.changes
    (done.ensures.waiting (waiting_were _ c.args.self.now c.self.view_is c.self.invariant c.requires.up)) loads.absent loads.full loads.made
    (subst (λ (x : VolumeValue). IsPlace x.map (sectors_for c.args.draft.length) c.args.draft.runs) (sym c.self.view_is) c.requires.place) long
    (version_worn (g.M.Machine.now c.args.m.now) (g.M.Machine.now done.new.m) bytes c.args.draft (edits.reads.worn honest) written)
    c.take.new.self c.versions_with_one-self-inside.result c.versions_with_one-self-inside.ensures c.take.ensures
    (whole_loaded _ c.self.invariant done.new.self.cache done.new.self.free_pages left c.args.draft c.take.new.self c.versions_with_one-self-inside.result c.take.ensures)
