use Rattle.std.proofs.Common.{◌∷◌, ◌∙◌, inl, refl, arith}
use Rattle.std.proofs.lemmas.Result.{err_from_is_err_and}
use Rattle.sector_disk.proofs.CallLaws.{reads_as_writes, told_up, writes_none, writes_then, writes_told}
use Rattle.sector_disk.specs.Machine.{Wears}
use Rattle.fsd_files.specs.Answers.{keep_outcome}
use Rattle.fsd_files.specs.Files.{Change}
use Rattle.fsd_sound.specs.Writes.{force_writes}
use Rattle.volume_contract.specs.Ends.{device_of, kept_key}
use Rattle.volume_contract.specs.Order.{by_itself}
use Rattle.volume_contract.specs.State.{Leaves, change_len, volume_of}
use Rattle.volume_laws.specs.Ending.{keep_tests, look_steps}
use Rattle.volume_laws.specs.State.{IsMemoryOf, resident, state}
use Rattle.volume_laws.proofs.BehindLaws.{causes_behind, keep_causes, edited_layout, edited_slots}
use Rattle.volume_laws.proofs.CauseLaws.{handed_cause}
use Rattle.volume_laws.proofs.BehindForce.{busy, change_counts, change_ends, change_follows, change_goes, change_kept, failed_comes, failed_keeps, force_ends, is_up, keeps_refused, leaves_behind, look_follows, not_worn, number_behind, up_behind}
use Rattle.volume_laws.proofs.MemoryLaws.{enough_behind, force_needs, keep_test_needs}
use Rattle.volume_laws.proofs.StepLaws.{comes_more}
use Rattle.volume_laws.proofs.TestedLaws.{keep_fits, keep_places, keep_refusals, keep_test_ends, keep_through}
use Rattle.volume_laws.proofs.WrittenLaws.{leaves_still}
use Rattle.volume_laws.proofs.ForceMomentLaws.{touches_none}
use Rattle.volume_laws.proofs.StoreLaws.{touches_read}
use Rattle.table_volume.proofs.files.VolumeFiles.set_keep.Goals as goal

-- ---- where a test refuses

pub returns-in_err-may_keep-clause-order : goal.returns-in_err-may_keep-clause-order
returns-in_err-may_keep-clause-order g c =
    let s = state c.args.self.now in
    let p = err_from_is_err_and c.from_residual.result c.from_residual.ensures.1 in
    rw (p.1, p.2) (record {
      follows = comes_more (keep_tests s c.args.keep) (by_itself s ∷ look_steps) c.in_err-may_keep.field-0.0 c.in_err-may_keep.ensures;
      idle = λ idle. refl;
    })

pub returns-in_err-may_keep-clause-disk : goal.returns-in_err-may_keep-clause-disk
returns-in_err-may_keep-clause-disk g c =
    let v = c.args.self.now in
    let at = c.args.m.now in
    writes_told (told_up device_of c.from_residual.result c.in_err-may_keep.field-0.0 c.from_residual.ensures.1 ∙ keep_places (state v) c.args.keep c.in_err-may_keep.field-0.0 c.in_err-may_keep.ensures)
    (writes_none at (λ left h is. g.met.M.Machine.only_now at left h is) (Leaves state IsMemoryOf v (force_writes v.layout)) (λ h. leaves_still v (g.M.Machine.now at) (force_writes v.layout)))

pub returns-in_err-may_keep-clause-writes : goal.returns-in_err-may_keep-clause-writes
returns-in_err-may_keep-clause-writes g c =
    let p = err_from_is_err_and c.from_residual.result c.from_residual.ensures.1 in
    rw (p.1, p.2) (record {
      rest = λ h. touches_none (force_writes c.args.self.now.layout) (g.M.Machine.now c.args.m.now);
      counted = λ tells. (omega arith, omega arith);
    })

pub returns-in_err-may_keep-clause-keeps : goal.returns-in_err-may_keep-clause-keeps
returns-in_err-may_keep-clause-keeps g c =
    let s = state c.args.self.now in
    let p = err_from_is_err_and c.from_residual.result c.from_residual.ensures.1 in
    rw (p.1, p.2) (record {
      state = record { layout = refl; epoch = refl; unfinished = refl; readers = refl; down = inl refl };
      kept = keeps_refused (keep_refusals s c.args.keep) (by_itself s ∷ look_steps) c.in_err-may_keep.field-0.0 s c.in_err-may_keep.ensures;
    })

pub returns-in_err-may_keep-clause-done : goal.returns-in_err-may_keep-clause-done
returns-in_err-may_keep-clause-done g c =
    let p = err_from_is_err_and c.from_residual.result c.from_residual.ensures.1 in
    rw (p.1, p.2) (λ h k stands. keep_test_ends c.args.self.now k (g.M.Machine.now c.args.m.now) c.args.name.now c.args.keep c.in_err-may_keep.field-0.0 stands c.in_err-may_keep.ensures)

-- ---- where the force fails

pub returns-in_err-force_first-clause-order : goal.returns-in_err-force_first-clause-order
returns-in_err-force_first-clause-order g c =
    let s = state c.args.self.now in
    let p = err_from_is_err_and c.from_residual-in_err-force_first.result c.from_residual-in_err-force_first.ensures.1 in
    rw (p.1, p.2) (record {
      follows = failed_comes s (keep_refusals s c.args.keep) c.in_ok-may_keep.ensures look_follows c.in_err-force_first.field-0.0 c.in_err-force_first.ensures.keeps.forces.order;
      idle = λ idle. absurd (busy s (keep_refusals s c.args.keep) c.in_ok-may_keep.ensures look_follows idle);
    })

pub returns-in_err-force_first-clause-keeps : goal.returns-in_err-force_first-clause-keeps
returns-in_err-force_first-clause-keeps g c =
    let s = state c.args.self.now in
    let p = err_from_is_err_and c.from_residual-in_err-force_first.result c.from_residual-in_err-force_first.ensures.1 in
    rw (p.1, p.2) (record {
      state = c.in_err-force_first.ensures.keeps.forces.state;
      kept = failed_keeps s (keep_refusals s c.args.keep) c.in_ok-may_keep.ensures look_follows c.in_err-force_first.field-0.0 (state c.force_first.new.self) c.in_err-force_first.ensures.keeps.forces.kept;
    })

pub returns-in_err-force_first-clause-disk : goal.returns-in_err-force_first-clause-disk
returns-in_err-force_first-clause-disk g c =
    writes_told (told_up device_of c.from_residual-in_err-force_first.result c.in_err-force_first.field-0.0 c.from_residual-in_err-force_first.ensures.1) c.in_err-force_first.ensures.disk

pub returns-in_err-force_first-clause-writes : goal.returns-in_err-force_first-clause-writes
returns-in_err-force_first-clause-writes g c =
    let failed = c.in_err-force_first.ensures in
    let p = err_from_is_err_and c.from_residual-in_err-force_first.result c.from_residual-in_err-force_first.ensures.1 in
    rw (p.1, p.2) (record { rest = failed.writes.rest; counted = failed.writes.counted })

pub returns-in_err-force_first-clause-done : goal.returns-in_err-force_first-clause-done
returns-in_err-force_first-clause-done g c =
    let p = err_from_is_err_and c.from_residual-in_err-force_first.result c.from_residual-in_err-force_first.ensures.1 in
    rw (p.1, p.2) (λ h k stands.
    force_ends (λ met. keep_outcome met (volume_of k) c.args.name.now c.args.keep) (kept_key c.args.keep) (Change.SetKeep c.args.name.now c.args.keep) k c.force_first.new.self (g.M.Machine.now c.force_first.new.m) c.in_err-force_first.field-0.0 (c.in_err-force_first.ensures.done h k stands))

-- ---- behind it

pub keep_now-requires-clause-up : goal.keep_now-requires-clause-up
keep_now-requires-clause-up g c =
    up_behind (state c.args.self.now) (keep_refusals (state c.args.self.now) c.args.keep) c.in_ok-may_keep.ensures (state c.force_first.new.self) (state c.force_first.new.self) c.in_ok-force_first.ensures.keeps.forces (is_up c.args.self.now.down c.in_ok-may_keep.ensures.0)

pub keep_now-requires-clause-numbered : goal.keep_now-requires-clause-numbered
keep_now-requires-clause-numbered g c =
    number_behind (state c.args.self.now) (keep_refusals (state c.args.self.now) c.args.keep) c.in_ok-may_keep.ensures (state c.force_first.new.self) (state c.force_first.new.self) c.in_ok-force_first.ensures.keeps.forces (not_worn (state c.args.self.now) c.in_ok-may_keep.ensures.1.1.0)

pub returns-clause-order : goal.returns-clause-order
returns-clause-order g c =
    let s = state c.args.self.now in
    record {
      follows = change_follows s (keep_refusals s c.args.keep) c.in_ok-may_keep.ensures look_follows (state c.force_first.new.self) (state c.keep_now.new.self) c.in_ok-force_first.ensures.keeps.forces c.keep_now.result c.keep_now.ensures.order;
      idle = λ idle. absurd (busy s (keep_refusals s c.args.keep) c.in_ok-may_keep.ensures look_follows idle);
    }

pub returns-clause-keeps : goal.returns-clause-keeps
returns-clause-keeps g c =
    let s = state c.args.self.now in
    record {
      state = change_goes s (keep_refusals s c.args.keep) c.in_ok-may_keep.ensures (state c.force_first.new.self) (state c.keep_now.new.self) c.in_ok-force_first.ensures.keeps.forces c.keep_now.result c.keep_now.ensures.edited;
      kept = change_kept s (keep_refusals s c.args.keep) c.in_ok-may_keep.ensures look_follows (state c.force_first.new.self) (state c.keep_now.new.self) c.in_ok-force_first.ensures.keeps.forces c.keep_now.result c.keep_now.ensures.order c.keep_now.ensures.edited;
    }

pub returns-clause-writes : goal.returns-clause-writes
returns-clause-writes g c =
    let M = g.M.Machine in
    let v = c.args.self.now in
    let first = c.in_ok-force_first.ensures in
    let reads = c.keep_now.ensures.disk in
    record {
      rest = λ h.
          let back = reads.trust.honest h in
          touches_read (force_writes v.layout) (M.now c.args.m.now) (M.now c.force_first.new.m) (M.now c.keep_now.new.m) (first.disk.windows back) (first.writes.rest back) (reads.worn h);
      counted = λ tells. change_counts (change_len (state v)) (M.ledger c.args.m.now) (M.ledger c.force_first.new.m) (M.ledger c.keep_now.new.m) c.keep_now.result (first.writes.counted (reads.trust.tells tells)) (reads.ledger tells);
    }

pub returns-clause-disk : goal.returns-clause-disk
returns-clause-disk g c =
    let M = g.M.Machine in
    let v = c.args.self.now in
    let mid = c.force_first.new.self in
    let old = M.now c.args.m.now in
    let now = M.now c.force_first.new.m in
    let first = c.in_ok-force_first.ensures.disk in
    let reads = c.keep_now.ensures.disk in
    writes_then {Q = Wears} first (reads_as_writes {R = Wears} reads (λ h left wears. wears)) (λ h left leaves. leaves) (λ h left wears.
    let back = reads.trust.honest h in
    leaves_behind v mid old now left (g.met.M.Machine.short c.force_first.new.m back) (first.windows back) (first.quiet back) (c.in_ok-force_first.ensures.done back) (first.exit back) wears)

pub returns-clause-done : goal.returns-clause-done
returns-clause-done g c = λ h k stands.
    let back = c.keep_now.ensures.disk.trust.honest h in
    let p = c.in_ok-force_first.ensures.done back k stands in
    change_ends (λ v met. keep_outcome met v c.args.name.now c.args.keep) (kept_key c.args.keep) (Change.SetKeep c.args.name.now c.args.keep) k c.force_first.new.self (g.M.Machine.now c.force_first.new.m) p (keep_through c.args.name.now c.args.keep (volume_of k) (keep_fits c.args.keep c.in_ok-may_keep.ensures.1.0)) c.in_ok-force_first.ensures.keeps.few c.keep_now.new.self (g.M.Machine.now c.keep_now.new.m) c.keep_now.result
    (c.keep_now.ensures.done h p.after p.stands)

-- ---- what it tells, and why

pub returns-in_err-may_keep-clause-tells : goal.returns-in_err-may_keep-clause-tells
returns-in_err-may_keep-clause-tells g c =
    let v = c.args.self.now in
    let p = err_from_is_err_and c.from_residual.result c.from_residual.ensures.1 in
    record {
      name = rw p.1 tt;
      memory = rw (p.1, p.2) (λ all wants. keep_test_needs (state v) c.args.keep c.in_err-may_keep.field-0.0 c.in_err-may_keep.ensures (cc wants));
      causes = keep_causes g.M.Machine (state v) (resident v) c.args.m.now c.args.keep c.from_residual.result c.in_err-may_keep.field-0.0 c.from_residual.ensures.1 c.in_err-may_keep.ensures;
    }

pub returns-in_err-force_first-clause-tells : goal.returns-in_err-force_first-clause-tells
returns-in_err-force_first-clause-tells g c =
    let v = c.args.self.now in
    let failed = c.in_err-force_first.ensures in
    let why = c.in_err-force_first.field-0.0 in
    let r = c.from_residual-in_err-force_first in
    let p = err_from_is_err_and r.result r.ensures.1 in
    record {
      name = rw p.1 tt;
      memory = rw (p.1, p.2) (λ all wants. force_needs (state v) why failed.keeps.forces.order (cc wants));
      causes = handed_cause g.M.Machine (resident v) (state v) (state c.force_first.new.self) c.args.m.now c.force_first.new.m why r.result r.ensures.1 failed.tells.causes;
    }

pub returns-clause-tells : goal.returns-clause-tells
returns-clause-tells g c =
    let v = c.args.self.now in
    let mid = c.force_first.new.self in
    let new = c.keep_now.new.self in
    let change = c.keep_now.ensures in
    record {
      name = change.tells.name;
      memory = λ has. change.tells.memory (enough_behind v mid c.in_ok-force_first.ensures.keeps.forces c.in_ok-force_first.ensures.keeps.resident c.args.name.now has);
      causes = causes_behind g.M.Machine (state v) (state mid) (state new) (resident v) (resident mid) c.args.m.now c.force_first.new.m c.keep_now.new.m (λ h. c.in_ok-force_first.ensures.tells.behind (change.disk.trust.honest h))
          (edited_slots (state mid) (state new) c.keep_now.result change.edited) (edited_layout (state mid) (state new) c.keep_now.result change.edited) change.disk.worn c.keep_now.result change.tells.causes;
    }
