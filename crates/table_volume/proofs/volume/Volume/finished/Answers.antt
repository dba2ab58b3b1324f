use Rattle.std.proofs.Common.{◌≡◌, ◌+◌, ◌||◌, [], inl, Err, Some, true, refl, sym, subst, arith}
use Rattle.std.proofs.lemmas.Result.{err_from_is_err_and}
use Rattle.sector_disk.specs.Machine.{Wears}
use Rattle.sector_disk.specs.Image.{open_damage}
use Rattle.sector_disk.proofs.CallLaws.{reads_as_writes, writes_more, writes_none, writes_then, writes_told}
use Rattle.fsd_bytes.specs.declared.key.Key.{Key}
use Rattle.fsd_files.specs.Answers.{HasVersion}
use Rattle.fsd_files.specs.Disk.{Sectors}
use Rattle.fsd_sound.specs.Writes.{force_writes}
use Rattle.volume_contract.specs.Pieces.{in_leader, slices_if, slices_in}
use Rattle.volume_contract.specs.State.{Leaves, OpenParts, change_len}
use Rattle.volume_laws.specs.Completed.{draft_of}
use Rattle.volume_laws.specs.State.{IsMemoryOf, resident, state}
use Rattle.volume_contract.proofs.CountedLaws.{counted_then}
use Rattle.volume_laws.proofs.CountedLaws.{counted_fewer}
use Rattle.volume_laws.proofs.ForceMomentLaws.{touches_none}
use Rattle.volume_laws.proofs.FreeStays.{version_stays}
use Rattle.volume_laws.proofs.LeaderWriteLaws.{slices_kept, stands_led}
use Rattle.volume_laws.proofs.PutCauses.{written_causes}
use Rattle.volume_laws.proofs.SliceFits.{draft_data, place_of_draft}
use Rattle.volume_laws.proofs.StoreLaws.{touches_read}
use Rattle.volume_laws.proofs.WrittenLaws.{leaves_still}
use Rattle.volume_laws.proofs.BehindForce.{change_counts, is_up, leaves_behind, not_worn, number_behind, up_behind}
use Rattle.volume_laws.proofs.BehindLaws.{causes_behind}
use Rattle.volume_laws.proofs.EnterLaws.{busy_enter, draft_behind, ends_finished, ends_unforced, ends_unled, ends_untested, entered_kept, entered_layout, entered_order, entered_slots, entered_state, force_cause_before, leaves_enter, leaves_led, refused_kept, refused_order, touches_enter, touches_led, unforced_kept, unforced_order, unled_kept, unled_order}
use Rattle.volume_laws.proofs.PutEnds.{keep_small}
use Rattle.volume_laws.proofs.TestedLaws.{put_places, put_test_cause}
use Rattle.table_volume.proofs.volume.Volume.finished.Goals as goal

-- ---- a test refuses

pub returns-in_err-may_put : goal.returns-in_err-may_put
returns-in_err-may_put g c =
    let v = c.args.self.now in
    let s = state v in
    let at = c.args.m.now in
    let now = g.M.Machine.now c.args.m.now in
    let e = c.args.entry in
    let why = c.in_err-may_put.field-0.0 in
    let comes = c.in_err-may_put.ensures in
    let may : Sectors = λ t. force_writes s.layout t || in_leader e.runs t in
    let p = err_from_is_err_and c.from_residual.result c.from_residual.ensures.1 in
    rw (p.1, p.2) (record {
      order = record { follows = refused_order s c.args.keep (in_leader e.runs) why comes; idle = λ idle. refl };
      disk = writes_told (put_places s c.args.keep 0 why comes) (writes_none at (λ left h is. g.met.M.Machine.only_now at left h is) (Leaves state IsMemoryOf v may) (λ h. leaves_still v now may));
      writes = record { rest = λ h. touches_none may now; counted = λ tells. (omega arith, omega arith) };
      keeps = record { state = record { layout = refl; epoch = refl; unfinished = refl; readers = refl; down = inl refl }; kept = refused_kept s c.args.keep (in_leader e.runs) why comes };
      tells = record { name = tt; causes = λ honest. put_test_cause s c.args.keep 0 (resident v) now now why comes };
      done = λ h k stands bytes long there. ends_untested c.args.name.now bytes c.args.keep e k v now why comes stands;
    })

-- ---- the leader is not written

pub returns-in_err-led : goal.returns-in_err-led
returns-in_err-led g c =
    let M = g.M.Machine in
    let v = c.args.self.now in
    let s = state v in
    let whole = c.attest.ensures in
    let old = M.now c.args.m.now in
    let new = M.now c.led.new.m in
    let e = c.args.entry in
    let tests = c.in_ok-may_put.ensures in
    let why = c.in_err-led.field-0.0 in
    let failed = c.in_err-led.ensures in
    let are = (place_of_draft v whole (draft_of e) c.requires.draft).free in
    let p = err_from_is_err_and c.from_residual-in_err-led.result c.from_residual-in_err-led.ensures.1 in
    rw (p.1, p.2) (record {
      order = record { follows = unled_order s c.args.keep (in_leader e.runs) tests why failed.place; idle = λ idle. absurd (busy_enter s c.args.keep (in_leader e.runs) tests idle) };
      disk = writes_more failed.disk (λ h left leaves. leaves_led v e.runs old left leaves);
      writes = record {
        rest = λ h. touches_led v e.runs old new (failed.writes h).touches;
        counted = λ tells. counted_fewer Key why 1 (1 + change_len s) (M.ledger c.args.m.now) (M.ledger c.led.new.m) (omega arith) (failed.counted tells);
      };
      keeps = record { state = record { layout = refl; epoch = refl; unfinished = refl; readers = refl; down = inl refl }; kept = unled_kept s c.args.keep (in_leader e.runs) tests why failed.place };
      tells = record { name = tt; causes = written_causes Key M (resident v) s s c.args.m.now c.led.new.m (in_leader e.runs) why failed.place };
      done = λ h k stands bytes long there.
          ends_unled c.args.name.now bytes c.args.keep e k (in_leader e.runs) v new why failed.place
          (stands_led v whole e.runs are old new (g.met.M.Machine.short c.args.m.now (failed.disk.trust.honest h)) (failed.writes h) k stands (slices_if true bytes) there);
    })

-- ---- the force fails

pub returns-in_err-force_first : goal.returns-in_err-force_first
returns-in_err-force_first g c =
    let M = g.M.Machine in
    let v = c.args.self.now in
    let s = state v in
    let whole = c.attest.ensures in
    let u = c.force_first.new.self in
    let old = M.now c.args.m.now in
    let mid = M.now c.led.new.m in
    let new = M.now c.force_first.new.m in
    let e = c.args.entry in
    let tests = c.in_ok-may_put.ensures in
    let led = c.in_ok-led.ensures in
    let why = c.in_err-force_first.field-0.0 in
    let failed = c.in_err-force_first.ensures in
    let forces = failed.keeps.forces in
    let are = (place_of_draft v whole (draft_of e) c.requires.draft).free in
    let p = err_from_is_err_and c.from_residual-in_err-force_first.result c.from_residual-in_err-force_first.ensures.1 in
    rw (p.1, p.2) (record {
      order = record { follows = unforced_order s c.args.keep (in_leader e.runs) tests why forces.order; idle = λ idle. absurd (busy_enter s c.args.keep (in_leader e.runs) tests idle) };
      disk = writes_then led.disk failed.disk (λ h left leaves. leaves_led v e.runs old left leaves)
          (λ h left leaves.
          let back = failed.disk.trust.honest h in
          leaves_enter v e.runs whole are old mid left (g.met.M.Machine.short c.args.m.now (led.disk.trust.honest back)) (led.writes back) (led.disk.exit back) leaves);
      writes = record {
        rest = λ h.
            let back = failed.disk.trust.honest h in
            touches_enter v e.runs old mid new (led.writes back).windows (led.writes back).touches (failed.writes.rest h);
        counted = λ tells. counted_then {T = Key} (Err why) 1 (change_len s) (M.ledger c.args.m.now) (M.ledger c.led.new.m) (M.ledger c.force_first.new.m) (led.counted (failed.disk.trust.tells tells)) (failed.writes.counted tells);
      };
      keeps = record { state = forces.state; kept = unforced_kept s c.args.keep (in_leader e.runs) tests (state u) why forces.kept };
      tells = record { name = tt; causes = λ honest. force_cause_before s (state u) (resident v) old mid new why forces.order (failed.tells.causes honest) };
      done = λ h k stands bytes long there.
          let back = failed.disk.trust.honest h in
          ends_unforced c.args.name.now bytes c.args.keep e k u new why
          (failed.done h k (stands_led v whole e.runs are old mid (g.met.M.Machine.short c.args.m.now (led.disk.trust.honest back)) (led.writes back) k stands (slices_if true bytes) there));
    })

-- ---- it is entered

pub completed-requires-clause-up : goal.completed-requires-clause-up
completed-requires-clause-up g c =
    up_behind (state c.args.self.now) [] tt (state c.force_first.new.self) (state c.force_first.new.self) c.in_ok-force_first.ensures.keeps.forces (is_up c.args.self.now.down c.in_ok-may_put.ensures.0)

pub completed-requires-clause-numbered : goal.completed-requires-clause-numbered
completed-requires-clause-numbered g c =
    number_behind (state c.args.self.now) [] tt (state c.force_first.new.self) (state c.force_first.new.self) c.in_ok-force_first.ensures.keeps.forces (not_worn (state c.args.self.now) c.in_ok-may_put.ensures.1.1.0)

pub completed-requires-clause-keep : goal.completed-requires-clause-keep
completed-requires-clause-keep g c = keep_small c.args.keep 0 c.in_ok-may_put.ensures.1.0

pub completed-requires-clause-place : goal.completed-requires-clause-place
completed-requires-clause-place g c = draft_behind c.args.self.now c.force_first.new.self c.args.entry c.in_ok-force_first.ensures.keeps.forces.state c.requires.draft

pub returns : goal.returns
returns g c =
    let M = g.M.Machine in
    let v = c.args.self.now in
    let s = state v in
    let whole = c.attest.ensures in
    let mid = c.force_first.new.self in
    let new = c.completed.new.self in
    let old = M.now c.args.m.now in
    let led_at = M.now c.led.new.m in
    let forced_at = M.now c.force_first.new.m in
    let now = M.now c.completed.new.m in
    let e = c.args.entry in
    let tests = c.in_ok-may_put.ensures in
    let led = c.in_ok-led.ensures in
    let force = c.in_ok-force_first.ensures in
    let forces = force.keeps.forces in
    let done = c.completed.ensures in
    let r = c.completed.result in
    let are = (place_of_draft v whole (draft_of e) c.requires.draft).free in
    record {
      order = record { follows = entered_order s c.args.keep (in_leader e.runs) tests (state mid) (state new) forces r done.order; idle = λ idle. absurd (busy_enter s c.args.keep (in_leader e.runs) tests idle) };
      disk =
          let later = writes_then {Q = Wears} {R = Leaves state IsMemoryOf v (force_writes v.layout)} force.disk (reads_as_writes {R = Wears} done.disk (λ h left wears. wears)) (λ h left leaves. leaves) (λ h left wears.
          let back = done.disk.trust.honest h in
          leaves_behind v mid led_at forced_at left (g.met.M.Machine.short c.force_first.new.m back) (force.disk.windows back) (force.disk.quiet back) (force.done back) (force.disk.exit back) wears) in
          writes_then led.disk later (λ h left leaves. leaves_led v e.runs old left leaves) (λ h left leaves.
          let back = force.disk.trust.honest (done.disk.trust.honest h) in
          leaves_enter v e.runs whole are old led_at left (g.met.M.Machine.short c.args.m.now (led.disk.trust.honest back)) (led.writes back) (led.disk.exit back) leaves);
      writes = record {
        rest = λ h.
            let there = done.disk.trust.honest h in
            let back = force.disk.trust.honest there in
            touches_enter v e.runs old led_at now (led.writes back).windows (led.writes back).touches (touches_read (force_writes v.layout) led_at forced_at now (force.disk.windows there) (force.writes.rest there) (done.disk.worn h));
        counted = λ tells.
            let there = done.disk.trust.tells tells in
            counted_then r 1 (change_len s) (M.ledger c.args.m.now) (M.ledger c.led.new.m) (M.ledger c.completed.new.m) (led.counted (force.disk.trust.tells there))
            (change_counts (change_len s) (M.ledger c.led.new.m) (M.ledger c.force_first.new.m) (M.ledger c.completed.new.m) r (force.writes.counted there) (done.disk.ledger tells));
      };
      keeps = record {
        state = entered_state s c.args.keep (in_leader e.runs) tests (state mid) (state new) forces e.runs r done.completes;
        kept = entered_kept s c.args.keep (in_leader e.runs) tests (state mid) (state new) forces e.runs r done.order done.completes;
      };
      tells = record {
        name = done.name;
        causes =
            causes_behind M s (state mid) (state new) (resident v) (resident mid) c.args.m.now c.force_first.new.m c.completed.new.m (λ h. force.tells.behind (done.disk.trust.honest h))
            (entered_slots s c.args.keep (in_leader e.runs) tests (state mid) (state new) forces e.runs r done.completes)
            (entered_layout s c.args.keep (in_leader e.runs) tests (state mid) (state new) forces e.runs r done.completes) done.disk.worn r done.causes;
      };
      done = λ h k stands bytes long there.
          let back = done.disk.trust.honest h in
          let first = force.disk.trust.honest back in
          let led_stands = stands_led v whole e.runs are old led_at (g.met.M.Machine.short c.args.m.now (led.disk.trust.honest first)) (led.writes first) k stands (slices_if true bytes) there in
          let p = force.done back k led_stands in
          let version : HasVersion (open_damage led_at.windows) led_at.image bytes e = record { leader = led.done first; data_there = slices_kept v k led_at e.runs bytes led_stands there } in
          ends_finished c.args.name.now bytes c.args.keep e k tests.1.0 mid forced_at p new now c.requires.draft.size (sym long) r
          (done.done h bytes p.after p.stands (slices_if true bytes) (subst (λ (o : OpenParts). slices_in o.drafts e.runs ≡ Some (slices_if true bytes)) (sym p.opened) there) (sym long)
          (version_stays v.layout led_at forced_at bytes e (force.disk.windows back) (draft_data v whole (draft_of e) c.requires.draft) (force.writes.rest back) version));
    }
