use Rattle.std.proofs.Common.{◌≡◌, ◌+◌, ℕ, Bool, [], ◌∷◌, length, Ok, Err, ap, subst}
use Rattle.std.proofs.lemmas.Result.{err_from_is_err_and}
use Rattle.fsd_bytes.specs.declared.refusal.Refusal.{Refusal}
use Rattle.fsd_formats.specs.declared.entry.Entry.{Entry}
use Rattle.fsd_formats.specs.NamePage.{sectors_for}
use Rattle.sector_disk.proofs.CallLaws.{writes_then}
use Rattle.volume_contract.specs.Order.{Force, is_idle}
use Rattle.volume_contract.specs.State.{Counted, change_len, put_len}
use Rattle.volume_laws.specs.Placing.{store_len, store_steps}
use Rattle.volume_laws.specs.State.{resident, state}
use Rattle.volume_laws.proofs.BehindLaws.{prepared_behind}
use Rattle.volume_contract.proofs.CountedLaws.{counted_then}
use Rattle.volume_laws.proofs.CountedLaws.{counted_fewer, put_len_is, store_within}
use Rattle.volume_laws.proofs.FreeStays.{free_data, version_stays}
use Rattle.volume_laws.proofs.PrepareLaws.{ends_behind, ends_ready, ends_stored, last, leaves_ready, prepares_done, prepares_failed, prepares_refused}
use Rattle.volume_laws.proofs.PutCauses.{force_cause}
use Rattle.volume_laws.proofs.StepLaws.{idle_front}
use Rattle.volume_laws.proofs.StoreLaws.{busy_store, touches_ready}
use Rattle.table_volume.proofs.volume.Volume.prepared.Goals as goal

-- ---- it is not stored

pub returns-in_err-draft : goal.returns-in_err-draft
returns-in_err-draft g c =
    let M = g.M.Machine in
    let s = state c.args.self.now in
    let n = sectors_for (length c.args.bytes.now) in
    let new = c.stored.new.self in
    let why = c.in_err-draft.field-0.0 in
    let failed = c.in_err-draft.ensures in
    let p = err_from_is_err_and c.from_residual.result c.from_residual.ensures.1 in
    rw (p.1, p.2) (record {
      keeps = record { prepares = prepares_refused s n why (state new) failed.keeps.stores; version = tt; few = tt };
      disk = failed.disk;
      writes = record {
        rest = failed.writes.rest;
        counted = λ tells. counted_fewer Entry why (store_len s n) (put_len s n) (M.ledger c.args.m.now) (M.ledger c.stored.new.m) (store_within s n) (failed.writes.counted tells);
      };
      tells = record { idle = λ idle. failed.tells.idle (idle_front (store_steps s n) (last s n ∷ []) idle); causes = failed.tells.causes; behind = tt };
      done = λ h k stands. ends_stored n c.args.bytes.now k new (M.now c.stored.new.m) why (failed.done h k stands);
    })

-- ---- the force behind it has failed

pub returns-in_err-force_first : goal.returns-in_err-force_first
returns-in_err-force_first g c =
    let M = g.M.Machine in
    let v = c.args.self.now in
    let s = state v in
    let n = sectors_for (length c.args.bytes.now) in
    let mid = c.stored.new.self in
    let new = c.force_first.new.self in
    let old = M.now c.args.m.now in
    let at = M.now c.stored.new.m in
    let now = M.now c.force_first.new.m in
    let a = M.ledger c.args.m.now in
    let b = M.ledger c.stored.new.m in
    let e = M.ledger c.force_first.new.m in
    let draft = c.in_ok-draft.draft in
    let why = c.in_err-force_first.field-0.0 in
    let first = c.in_ok-draft.ensures in
    let stores = first.keeps.stores in
    let failed = c.in_err-force_first.ensures in
    let p = err_from_is_err_and c.from_residual-in_err-force_first.result c.from_residual-in_err-force_first.ensures.1 in
    rw (p.1, p.2) (record {
      keeps = record { prepares = prepares_failed s n (state mid) draft stores (state new) why failed.keeps.forces; version = tt; few = tt };
      disk = writes_then first.disk failed.disk (λ h left leaves. leaves) (λ h left leaves.
          let back = failed.disk.trust.honest h in
          leaves_ready v mid n old at left stores.state.layout (first.disk.windows back) (first.disk.quiet back) (λ k stands. (first.done back k stands).0) (first.disk.exit back) leaves);
      writes = record {
        rest = λ h.
            let back = failed.disk.trust.honest h in
            touches_ready v n mid old at now stores.state.layout (first.disk.windows back) (first.writes.rest back) (failed.writes.rest h);
        counted = λ tells.
            let before : b.written ≡ a.written + store_len s n = first.writes.counted (failed.disk.trust.tells tells) in
            subst (λ (x : ℕ). Counted {T = Entry} (Err why) x a e) (put_len_is s (state mid) n draft stores.kept) (counted_then {T = Entry} (Err why) (store_len s n) (change_len (state mid)) a b e before (failed.writes.counted tells));
      };
      tells = record {
        idle = λ idle. absurd (busy_store s n (stores.order.1).0 (idle_front (store_steps s n) (last s n ∷ []) idle));
        causes = λ honest. force_cause s (state mid) (state new) n draft stores.kept (resident mid) (resident v) old at now why failed.keeps.forces.order (failed.tells.causes honest);
        behind = tt;
      };
      done = λ h k stands.
          let ready = (first.done (failed.disk.trust.honest h) k stands).0 in
          ends_behind n c.args.bytes.now k ready.after new now why (failed.done h ready.after ready.stands);
    })

-- ---- it is prepared

pub returns : goal.returns
returns g c =
    let M = g.M.Machine in
    let v = c.args.self.now in
    let s = state v in
    let n = sectors_for (length c.args.bytes.now) in
    let mid = c.stored.new.self in
    let new = c.force_first.new.self in
    let old = M.now c.args.m.now in
    let at = M.now c.stored.new.m in
    let now = M.now c.force_first.new.m in
    let a = M.ledger c.args.m.now in
    let b = M.ledger c.stored.new.m in
    let e = M.ledger c.force_first.new.m in
    let draft = c.in_ok-draft.draft in
    let first = c.in_ok-draft.ensures in
    let stores = first.keeps.stores in
    let place = first.keeps.version.place in
    let force = c.in_ok-force_first.ensures in
    record {
      keeps = record {
        prepares = prepares_done s n (state mid) draft stores (state new) force.keeps.forces;
        version = record {
          place = record { free = record { inside = λ t there. force.keeps.free t (place.free.inside t there); differ = place.free.differ }; count = place.count; few = place.few; some = place.some };
          good = first.keeps.version.good;
          len_is = first.keeps.version.len_is;
        };
        few = force.keeps.few;
      };
      disk = writes_then first.disk force.disk (λ h left leaves. leaves) (λ h left leaves.
          let back = force.disk.trust.honest h in
          leaves_ready v mid n old at left stores.state.layout (first.disk.windows back) (first.disk.quiet back) (λ k stands. (first.done back k stands).0) (first.disk.exit back) leaves);
      writes = record {
        rest = λ h.
            let back = force.disk.trust.honest h in
            touches_ready v n mid old at now stores.state.layout (first.disk.windows back) (first.writes.rest back) (force.writes.rest h);
        counted = λ tells.
            let before : b.written ≡ a.written + store_len s n = first.writes.counted (force.disk.trust.tells tells) in
            subst (λ (x : ℕ). Counted {T = Entry} {E = Refusal} (Ok draft) x a e) (put_len_is s (state mid) n draft stores.kept)
            (counted_then {T = Entry} {E = Refusal} (Ok draft) (store_len s n) (change_len (state mid)) a b e before (force.writes.counted tells));
      };
      tells = record {
        idle = λ idle. absurd (busy_store s n (stores.order.1).0 (idle_front (store_steps s n) (last s n ∷ []) idle));
        causes = tt;
        behind = λ h. prepared_behind v mid new n draft stores.kept first.keeps.still at now (first.tells.behind (force.disk.trust.honest h)) force.keeps.still
            (λ few. ap M.now (force.tells.idle (ap (λ (b : Bool). is_idle (Force b ∷ [])) few))) (force.tells.behind h);
      };
      done = λ h k stands.
          let ready = first.done (force.disk.trust.honest h) k stands in
          let p = ready.0 in
          let left = force.disk.exit h p.after p.stands in
          let version = version_stays mid.layout at now c.args.bytes.now draft (force.disk.windows h) (λ t there. free_data mid p.after at p.stands t (place.free.inside t there)) left.touches ready.1 in
          ends_ready v mid new n c.args.bytes.now k old at now draft stands stores p (force.done h p.after p.stands) version;
    }
