use Rattle.std.proofs.Common.{◌≡◌, ◌+◌, ◌≤◌, ℕ, List, [], ◌∷◌, sym, ap, subst, length, Ok, Err, true, refl, ◌∙◌, arith}
use Rattle.std.proofs.lemmas.Result.{err_from_is_err_and}
use Rattle.run_table.specs.declared.run.Run.{Run}
use Rattle.run_table.specs.RunTable.{sectors_of}
use Rattle.run_table.specs.Space.{contains}
use Rattle.fsd_formats.specs.declared.entry.Entry.{Entry}
use Rattle.fsd_formats.specs.NamePage.{sectors_for}
use Rattle.sector_disk.proofs.CallLaws.{writes_more, writes_then}
use Rattle.volume_contract.specs.Order.{Disk, Draw, IsDeviceIn, is_idle}
use Rattle.volume_contract.specs.State.{Counted, Known, Leaves, Stands, forces_for_place, in_place, place_in}
use Rattle.volume_contract.specs.Behind.{IsBehindForce}
use Rattle.volume_laws.specs.Placing.{EndsPlace, IsPlace, Places, StandsFor, Stores, place_len, place_steps, store_len}
use Rattle.volume_laws.specs.State.{IsMemoryOf, resident, state}
use Rattle.volume_laws.specs.Volume.{VolumeValue}
use Rattle.volume_laws.proofs.BehindLaws.{written_behind}
use Rattle.volume_contract.proofs.CountedLaws.{counted_then}
use Rattle.volume_laws.proofs.CountedLaws.{counted_fewer}
use Rattle.volume_laws.proofs.PutCauses.{written_causes}
use Rattle.volume_laws.proofs.StepLaws.{idle_front}
use Rattle.volume_laws.proofs.StoreLaws.{busy_store, drawn_stands, ends_failed, ends_refused, leaves_first, leaves_then, same_serial, stores_done, stores_failed, stores_refused, touches_first, touches_placed}
use Rattle.sector_set.specs.Area.{AreIn}
use Rattle.fsd_files.specs.Disk.{Touches}
use Rattle.table_volume.proofs.volume.Volume.stored.Goals as goal

-- ---- no place

pub returns-in_err-runs : goal.returns-in_err-runs
returns-in_err-runs g c =
    let M = g.M.Machine in
    let v = c.args.self.now in
    let s = state v in
    let n = sectors_for (length c.args.bytes.now) in
    let same : 1 + c.div_ceil.result ≡ n = ap (λ (x : ℕ). 1 + x) c.div_ceil.ensures in
    let new = c.placed.new.self in
    let a = M.ledger c.args.m.now in
    let b = M.ledger c.placed.new.m in
    let why = c.in_err-runs.field-0.0 in
    let failed = c.in_err-runs.ensures in
    let fewer : place_len s n ≤ store_len s n = omega arith in
    let p = err_from_is_err_and c.from_residual.result c.from_residual.ensures.1 in
    rw (p.1, p.2) (record {
      keeps = record {
        stores = stores_refused s n why (state new) (subst (λ (x : ℕ). Places x s (state new) (Err why)) same failed.keeps.places);
        version = tt;
        still = λ none. ap resident (failed.keeps.still (ap (forces_for_place s) same ∙ none));
      };
      disk = writes_more failed.disk (λ h left leaves. leaves_first v n (M.now c.args.m.now) left leaves);
      writes = record {
        rest = λ h. touches_first v n (M.now c.args.m.now) (M.now c.placed.new.m) (failed.writes.rest h);
        counted = λ tells. counted_fewer Entry why (place_len s n) (store_len s n) a b fewer (subst (λ (x : ℕ). Counted {T = List Run} (Err why) (place_len s x) a b) same (failed.writes.counted tells));
      };
      tells = record {
        idle = λ idle. failed.tells.idle (subst (λ (x : ℕ). is_idle (place_steps s x) ≡ true) (sym same) (idle_front (place_steps s n) (Draw ∷ Disk (in_place (place_in s n)) ∷ []) idle));
        causes = failed.tells.causes;
        behind = tt;
      };
      done = λ h k stands. ends_refused n c.args.bytes.now k new (M.now c.placed.new.m) why (subst (λ (x : ℕ). EndsPlace x k new (M.now c.placed.new.m) (Err why)) same (failed.done h k stands));
    })

-- ---- there is one

pub draft-draft-requires-clause-place : goal.draft-draft-requires-clause-place
draft-draft-requires-clause-place g c =
    let same : 1 + c.div_ceil.result ≡ sectors_for (length c.args.bytes.now) = ap (λ (x : ℕ). 1 + x) c.div_ceil.ensures in
    subst (λ (x : ℕ). IsPlace c.placed.new.self.map x c.in_ok-runs.runs) same c.in_ok-runs.ensures.keeps.free

pub written-requires-clause-free : goal.written-requires-clause-free
written-requires-clause-free g c = subst (AreIn c.placed.new.self.map) (sym c.draft-draft.ensures.runs) c.in_ok-runs.ensures.keeps.free.free

pub written-requires-clause-serials : goal.written-requires-clause-serials
written-requires-clause-serials g c =
    let same = same_serial (1 + c.div_ceil.result) (state c.args.self.now) (state c.placed.new.self) c.in_ok-runs.runs c.in_ok-runs.ensures.keeps.places.kept in
    omega (arith, c.requires.serials, ap (λ x. x.count) same)

-- ---- a write has failed

pub returns-in_err-written : goal.returns-in_err-written
returns-in_err-written g c =
    let M = g.M.Machine in
    let v = c.args.self.now in
    let s = state v in
    let n = sectors_for (length c.args.bytes.now) in
    let same : 1 + c.div_ceil.result ≡ n = ap (λ (x : ℕ). 1 + x) c.div_ceil.ensures in
    let mid = c.placed.new.self in
    let new = c.written.new.self in
    let old = M.now c.args.m.now in
    let now = M.now c.placed.new.m in
    let last = M.now c.written.new.m in
    let a = M.ledger c.args.m.now in
    let b = M.ledger c.placed.new.m in
    let e = M.ledger c.written.new.m in
    let runs = c.in_ok-runs.runs in
    let lies = c.draft-draft.ensures.runs in
    let why = c.in_err-written.field-0.0 in
    let first = c.in_ok-runs.ensures in
    let failed = c.in_err-written.ensures in
    let places = subst (λ (x : ℕ). Places x s (state mid) (Ok runs)) same first.keeps.places in
    let goes : M.honest c.placed.new.m → (k : Known) → Stands state IsMemoryOf v k old → StandsFor n k mid now = λ back k stands. subst (λ (x : ℕ). StandsFor x k mid now) same (first.done back k stands) in
    let p = err_from_is_err_and c.from_residual-in_err-written.result c.from_residual-in_err-written.ensures.1 in
    rw (p.1, p.2) (record {
      keeps = record {
        stores = subst (λ (x : VolumeValue). Stores n s (state x) (Err why)) (sym failed.volume) (stores_failed s n (state mid) runs places why (subst (λ (rs : List Run). IsDeviceIn (contains (sectors_of rs)) why) lies failed.place));
        version = tt;
        still = λ none. ap resident failed.volume ∙ ap resident (first.keeps.still (ap (forces_for_place s) same ∙ none));
      };
      disk = writes_then first.disk failed.disk (λ h left leaves. leaves_first v n old left leaves) (λ h left leaves.
          let back = failed.disk.trust.honest h in
          leaves_then v n mid runs places.kept.place old now left (first.disk.windows back) (first.disk.quiet back) (goes back) (first.disk.exit back) (subst (λ (rs : List Run). Leaves state IsMemoryOf mid (contains (sectors_of rs)) now left) lies leaves));
      writes = record {
        rest = λ h.
            let back = failed.disk.trust.honest h in
            touches_placed v n runs places.kept.place old now last (first.disk.windows back) (first.writes.rest back) (subst (λ (rs : List Run). Touches (contains (sectors_of rs)) now last) lies (failed.writes.rest h));
        counted = λ tells.
            let before : b.written ≡ a.written + place_len s n = subst (λ (x : ℕ). b.written ≡ a.written + place_len s x) same (first.writes.counted (failed.disk.trust.tells tells)) in
            let turned : place_len s n + n ≡ store_len s n = omega arith in
            subst (λ (x : ℕ). Counted {T = Entry} (Err why) x a e) turned (counted_then {T = Entry} (Err why) (place_len s n) n a b e before (failed.writes.counted tells));
      };
      tells = record {
        idle = λ idle. absurd (busy_store s n (places.order.1).0 idle);
        causes = written_causes Entry M (resident v) s (state new) c.args.m.now c.written.new.m (contains (sectors_of c.draft-draft.result.runs)) why failed.place;
        behind = tt;
      };
      done = λ h k stands.
          let stood = goes (failed.disk.trust.honest h) k stands in
          ends_failed n c.args.bytes.now (contains (sectors_of c.draft-draft.result.runs)) k new last why failed.place (drawn_stands n k mid new now last stood ((failed.done h).stands stood.after stood.stands));
    })

-- ---- it is stored

pub returns : goal.returns
returns g c =
    let M = g.M.Machine in
    let v = c.args.self.now in
    let s = state v in
    let n = sectors_for (length c.args.bytes.now) in
    let same : 1 + c.div_ceil.result ≡ n = ap (λ (x : ℕ). 1 + x) c.div_ceil.ensures in
    let mid = c.placed.new.self in
    let new = c.written.new.self in
    let old = M.now c.args.m.now in
    let now = M.now c.placed.new.m in
    let last = M.now c.written.new.m in
    let a = M.ledger c.args.m.now in
    let b = M.ledger c.placed.new.m in
    let runs = c.in_ok-runs.runs in
    let draft = c.draft-draft.result in
    let lies = c.draft-draft.ensures.runs in
    let first = c.in_ok-runs.ensures in
    let done = c.in_ok-written.ensures in
    let places = subst (λ (x : ℕ). Places x s (state mid) (Ok runs)) same first.keeps.places in
    let goes : M.honest c.placed.new.m → (k : Known) → Stands state IsMemoryOf v k old → StandsFor n k mid now = λ back k stands. subst (λ (x : ℕ). StandsFor x k mid now) same (first.done back k stands) in
    record {
      keeps = record {
        stores = subst (λ (x : VolumeValue). Stores n s (state x) (Ok draft)) (sym done.volume) (stores_done s n (state mid) runs places draft lies c.draft-draft.ensures.serial);
        version = record {
          place = subst (λ (x : VolumeValue). IsPlace x.map n draft.runs) (sym done.volume) (subst (IsPlace mid.map n) (sym lies) (subst (λ (x : ℕ). IsPlace mid.map x runs) same first.keeps.free));
          good = c.draft-draft.ensures.good;
          len_is = c.draft-draft.ensures.length;
        };
        still = λ none. ap resident done.volume ∙ ap resident (first.keeps.still (ap (forces_for_place s) same ∙ none));
      };
      disk = writes_then first.disk done.disk (λ h left leaves. leaves_first v n old left leaves) (λ h left leaves.
          let back = done.disk.trust.honest h in
          leaves_then v n mid runs places.kept.place old now left (first.disk.windows back) (first.disk.quiet back) (goes back) (first.disk.exit back) (subst (λ (rs : List Run). Leaves state IsMemoryOf mid (contains (sectors_of rs)) now left) lies leaves));
      writes = record {
        rest = λ h.
            let back = done.disk.trust.honest h in
            touches_placed v n runs places.kept.place old now last (first.disk.windows back) (first.writes.rest back) (subst (λ (rs : List Run). Touches (contains (sectors_of rs)) now last) lies (done.writes.rest h));
        counted = λ tells.
            let before : b.written ≡ a.written + place_len s n = subst (λ (x : ℕ). b.written ≡ a.written + place_len s x) same (first.writes.counted (done.disk.trust.tells tells)) in
            let after : (M.ledger c.written.new.m).written ≡ b.written + n = done.writes.counted tells in
            omega (arith, before, after);
      };
      tells = record {
        idle = λ idle. absurd (busy_store s n (places.order.1).0 idle);
        causes = tt;
        behind = λ h. subst (λ (x : VolumeValue). IsBehindForce s (state x) (resident v) (resident x) last) (sym done.volume)
            (written_behind mid.layout now last (done.done h).within s (state mid) (resident v) (resident mid) refl (first.tells.behind (done.disk.trust.honest h)));
      };
      done = λ h k stands.
          let stood = goes (done.disk.trust.honest h) k stands in
          (drawn_stands n k mid new now last stood ((done.done h).stands stood.after stood.stands), (done.done h).done);
    }
