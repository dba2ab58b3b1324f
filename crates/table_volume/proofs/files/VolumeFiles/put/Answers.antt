use Rattle.std.proofs.Common.{◌≡◌, ℕ, true, ◌||◌, [], ◌∷◌, length, subst, sym, ◌∙◌, inl, refl, arith}
use Rattle.std.specs.Prelude.{IfOk, MatchResult}
use Rattle.sector_disk.specs.Machine.{Wears}
use Rattle.sector_disk.proofs.CallLaws.{reads_as_writes, told_up, writes_none, writes_then, writes_told}
use Rattle.fsd_bytes.specs.declared.key.Key.{Key}
use Rattle.fsd_formats.specs.NamePage.{sectors_for}
use Rattle.fsd_files.specs.Answers.{keep_given, put_outcome}
use Rattle.fsd_files.specs.Files.{Change}
use Rattle.volume_contract.specs.Ends.{EndsPut, device_of}
use Rattle.volume_contract.specs.Order.{Follows, KeepsRefused, put_steps}
use Rattle.volume_contract.specs.State.{Counted, GoesOn, HasCounted, Leaves, downs, forces_first, forces_for_place, put_len, put_writes, volume_of}
use Rattle.volume_laws.specs.Entered.{entering_asks}
use Rattle.volume_laws.specs.Placing.{IsPlace, store_steps}
use Rattle.volume_laws.specs.State.{IsMemoryOf, resident, state}
use Rattle.volume_laws.proofs.BehindForce.{change_counts, is_up}
use Rattle.volume_laws.proofs.BehindLaws.{causes_behind}
use Rattle.volume_laws.proofs.CauseLaws.{handed_cause}
use Rattle.volume_laws.proofs.NoPlaceLaws.{ends_unready}
use Rattle.volume_laws.proofs.PrepareLaws.{last}
use Rattle.volume_laws.proofs.PutEnds.{enter_keeps, keep_small, leaves_entering, length_small, number_ready, put_counts, put_ends, put_goes, layout_stays, slots_stay, serials_left, up_ready}
use Rattle.volume_laws.proofs.PutLaws.{ends_tested, prepare_idle, prepared_kept, prepared_order, put_order, put_placeless, put_sizes, tested_kept, tested_order}
use Rattle.volume_laws.proofs.RangeLaws.{handed}
use Rattle.volume_laws.proofs.StepLaws.{idle_front}
use Rattle.volume_laws.proofs.StoreLaws.{busy_store, touches_read}
use Rattle.volume_laws.proofs.TestedLaws.{put_places, put_test_cause}
use Rattle.volume_laws.proofs.WrittenLaws.{leaves_still}
use Rattle.volume_laws.proofs.ForceMomentLaws.{touches_none}
use Rattle.table_volume.proofs.files.VolumeFiles.put.Goals as goal

-- ---- a test refuses

pub returns-in_err-may_put-clause-order : goal.returns-in_err-may_put-clause-order
returns-in_err-may_put-clause-order g c =
    let s = state c.args.self.now in
    let len = length c.args.bytes.now in
    let why = c.in_err-may_put.field-0.0 in
    let back = c.from_residual in
    record {
      follows = handed (Follows (put_steps s c.args.keep len)) back.result why back.ensures.1 (tested_order entering_asks s c.args.keep len why c.in_err-may_put.ensures);
      idle = λ idle. refl;
    }

pub returns-in_err-may_put-clause-disk : goal.returns-in_err-may_put-clause-disk
returns-in_err-may_put-clause-disk g c =
    let v = c.args.self.now in
    let at = c.args.m.now in
    let len = length c.args.bytes.now in
    let why = c.in_err-may_put.field-0.0 in
    let may = put_writes (state v) (sectors_for len) in
    writes_told (told_up device_of c.from_residual.result why c.from_residual.ensures.1 ∙ put_places (state v) c.args.keep len why c.in_err-may_put.ensures)
    (writes_none at (λ left h is. g.met.M.Machine.only_now at left h is) (Leaves state IsMemoryOf v may) (λ h. leaves_still v (g.M.Machine.now at) may))

pub returns-in_err-may_put-clause-writes : goal.returns-in_err-may_put-clause-writes
returns-in_err-may_put-clause-writes g c =
    let s = state c.args.self.now in
    let need = sectors_for (length c.args.bytes.now) in
    let ledger = g.M.Machine.ledger c.args.m.now in
    record {
      rest = λ h. touches_none (put_writes s need) (g.M.Machine.now c.args.m.now);
      counted = λ tells. handed (λ r. Counted r (put_len s need) ledger ledger) c.from_residual.result c.in_err-may_put.field-0.0 c.from_residual.ensures.1 (omega arith, omega arith);
    }

pub returns-in_err-may_put-clause-keeps : goal.returns-in_err-may_put-clause-keeps
returns-in_err-may_put-clause-keeps g c =
    let s = state c.args.self.now in
    let len = length c.args.bytes.now in
    let why = c.in_err-may_put.field-0.0 in
    let back = c.from_residual in
    record {
      state = record { layout = refl; epoch = refl; unfinished = refl; readers = refl; down = inl refl };
      kept = handed (λ r. MatchResult r (λ key. HasCounted true (forces_for_place s (sectors_for len) || forces_first s) s s) (λ x. KeepsRefused (put_steps s c.args.keep len) x s s)) back.result why back.ensures.1
          (tested_kept entering_asks s c.args.keep len why c.in_err-may_put.ensures);
    }

pub returns-in_err-may_put-clause-tells : goal.returns-in_err-may_put-clause-tells
returns-in_err-may_put-clause-tells g c =
    let v = c.args.self.now in
    let at = c.args.m.now in
    let why = c.in_err-may_put.field-0.0 in
    let back = c.from_residual in
    record {
      name = handed (λ r. IfOk r (λ (key : Key). key.name ≡ c.args.name.now)) back.result why back.ensures.1 tt;
      causes = handed_cause g.M.Machine (resident v) (state v) (state v) at at why back.result back.ensures.1
          (λ honest. put_test_cause (state v) c.args.keep (length c.args.bytes.now) (resident v) (g.M.Machine.now at) (g.M.Machine.now at) why c.in_err-may_put.ensures);
    }

pub returns-in_err-may_put-clause-done : goal.returns-in_err-may_put-clause-done
returns-in_err-may_put-clause-done g c h k stands =
    let v = c.args.self.now in
    let name = c.args.name.now in
    let bytes = c.args.bytes.now in
    let keep = c.args.keep in
    let now = g.M.Machine.now c.args.m.now in
    let why = c.in_err-may_put.field-0.0 in
    handed (EndsPut state IsMemoryOf (λ met. put_outcome met (volume_of k) name bytes keep) bytes (Change.Put name keep bytes) k v now) c.from_residual.result why c.from_residual.ensures.1
    (ends_tested v keep (length bytes) k (λ met. put_outcome met (volume_of k) name bytes keep) (put_sizes name bytes keep k) now why c.in_err-may_put.ensures stands)

-- ---- it is not prepared

pub prepared-requires-clause-most : goal.prepared-requires-clause-most
prepared-requires-clause-most g c = length_small (keep_given c.args.keep) (length c.args.bytes.now) c.in_ok-may_put.ensures.1.0

pub prepared-requires-clause-up : goal.prepared-requires-clause-up
prepared-requires-clause-up g c = is_up c.args.self.now.down c.in_ok-may_put.ensures.0

pub prepared-requires-clause-serials : goal.prepared-requires-clause-serials
prepared-requires-clause-serials g c = serials_left (state c.args.self.now) c.in_ok-may_put.ensures.1.1.0

pub returns-in_err-draft-clause-order : goal.returns-in_err-draft-clause-order
returns-in_err-draft-clause-order g c =
    let s = state c.args.self.now in
    let len = length c.args.bytes.now in
    let tests = c.in_ok-may_put.ensures in
    let why = c.in_err-draft.field-0.0 in
    let failed = c.in_err-draft.ensures in
    let back = c.from_residual-in_err-draft in
    record {
      follows = handed (Follows (put_steps s c.args.keep len)) back.result why back.ensures.1 (prepared_order entering_asks s c.args.keep len tests why failed.keeps.prepares.order);
      idle = λ idle. failed.tells.idle (prepare_idle entering_asks s c.args.keep len tests idle);
    }

pub returns-in_err-draft-clause-disk : goal.returns-in_err-draft-clause-disk
returns-in_err-draft-clause-disk g c = writes_told (told_up device_of c.from_residual-in_err-draft.result c.in_err-draft.field-0.0 c.from_residual-in_err-draft.ensures.1) c.in_err-draft.ensures.disk

pub returns-in_err-draft-clause-writes : goal.returns-in_err-draft-clause-writes
returns-in_err-draft-clause-writes g c =
    let n = put_len (state c.args.self.now) (sectors_for (length c.args.bytes.now)) in
    let failed = c.in_err-draft.ensures in
    record {
      rest = failed.writes.rest;
      counted = λ tells. handed (λ r. Counted r n (g.M.Machine.ledger c.args.m.now) (g.M.Machine.ledger c.prepared.new.m)) c.from_residual-in_err-draft.result c.in_err-draft.field-0.0 c.from_residual-in_err-draft.ensures.1 (failed.writes.counted tells);
    }

pub returns-in_err-draft-clause-keeps : goal.returns-in_err-draft-clause-keeps
returns-in_err-draft-clause-keeps g c =
    let s = state c.args.self.now in
    let t = state c.prepared.new.self in
    let len = length c.args.bytes.now in
    let tests = c.in_ok-may_put.ensures in
    let why = c.in_err-draft.field-0.0 in
    let failed = c.in_err-draft.ensures in
    let back = c.from_residual-in_err-draft in
    record {
      state = handed (λ r. GoesOn (downs r) s t) back.result why back.ensures.1 failed.keeps.prepares.state;
      kept = handed (λ r. MatchResult r (λ key. HasCounted true (forces_for_place s (sectors_for len) || forces_first s) s t) (λ x. KeepsRefused (put_steps s c.args.keep len) x s t)) back.result why back.ensures.1
          (prepared_kept entering_asks s c.args.keep len tests t why failed.keeps.prepares.kept);
    }

pub returns-in_err-draft-clause-tells : goal.returns-in_err-draft-clause-tells
returns-in_err-draft-clause-tells g c =
    let v = c.args.self.now in
    let why = c.in_err-draft.field-0.0 in
    let back = c.from_residual-in_err-draft in
    record {
      name = handed (λ r. IfOk r (λ (key : Key). key.name ≡ c.args.name.now)) back.result why back.ensures.1 tt;
      causes = handed_cause g.M.Machine (resident v) (state v) (state c.prepared.new.self) c.args.m.now c.prepared.new.m why back.result back.ensures.1 c.in_err-draft.ensures.tells.causes;
    }

pub returns-in_err-draft-clause-done : goal.returns-in_err-draft-clause-done
returns-in_err-draft-clause-done g c h k stands =
    let name = c.args.name.now in
    let bytes = c.args.bytes.now in
    let keep = c.args.keep in
    let new = c.prepared.new.self in
    let now = g.M.Machine.now c.prepared.new.m in
    let why = c.in_err-draft.field-0.0 in
    handed (EndsPut state IsMemoryOf (λ met. put_outcome met (volume_of k) name bytes keep) bytes (Change.Put name keep bytes) k new now) c.from_residual-in_err-draft.result why c.from_residual-in_err-draft.ensures.1
    (ends_unready (state c.args.self.now) bytes k new now (λ met. put_outcome met (volume_of k) name bytes keep) (put_placeless name bytes keep k c.in_ok-may_put.ensures.1.0) stands.fits why c.in_err-draft.ensures.keeps.prepares.order (c.in_err-draft.ensures.done h k stands))

-- ---- it is prepared

pub entered-requires-clause-up : goal.entered-requires-clause-up
entered-requires-clause-up g c =
    up_ready (state c.args.self.now) (state c.prepared.new.self) c.args.keep (length c.args.bytes.now) c.in_ok-may_put.ensures c.in_ok-draft.draft c.in_ok-draft.ensures.keeps.prepares (is_up c.args.self.now.down c.in_ok-may_put.ensures.0)

pub entered-requires-clause-numbered : goal.entered-requires-clause-numbered
entered-requires-clause-numbered g c =
    number_ready (state c.args.self.now) (state c.prepared.new.self) c.args.keep (length c.args.bytes.now) c.in_ok-may_put.ensures c.in_ok-draft.draft c.in_ok-draft.ensures.keeps.prepares

pub entered-requires-clause-keep : goal.entered-requires-clause-keep
entered-requires-clause-keep g c = keep_small c.args.keep (length c.args.bytes.now) c.in_ok-may_put.ensures.1.0

pub entered-requires-clause-place : goal.entered-requires-clause-place
entered-requires-clause-place g c = subst (λ (n : ℕ). IsPlace c.prepared.new.self.map (sectors_for n) c.in_ok-draft.draft.runs) (sym c.in_ok-draft.ensures.keeps.version.len_is) c.in_ok-draft.ensures.keeps.version.place

pub returns-clause-order : goal.returns-clause-order
returns-clause-order g c =
    let s = state c.args.self.now in
    let len = length c.args.bytes.now in
    let prepares = c.in_ok-draft.ensures.keeps.prepares in
    record {
      follows = put_order entering_asks s c.args.keep len c.in_ok-may_put.ensures (state c.prepared.new.self) prepares.kept.went c.entered.result c.entered.ensures.order;
      idle = λ idle.
          absurd (busy_store s (sectors_for len) (prepares.order.1).0 (idle_front (store_steps s (sectors_for len)) (last s (sectors_for len) ∷ []) (prepare_idle entering_asks s c.args.keep len c.in_ok-may_put.ensures idle)));
    }

pub returns-clause-disk : goal.returns-clause-disk
returns-clause-disk g c =
    let M = g.M.Machine in
    let v = c.args.self.now in
    let mid = c.prepared.new.self in
    let need = sectors_for (length c.args.bytes.now) in
    let old = M.now c.args.m.now in
    let now = M.now c.prepared.new.m in
    let first = c.in_ok-draft.ensures.disk in
    let reads = c.entered.ensures.disk in
    writes_then {Q = Wears} first (reads_as_writes {R = Wears} reads (λ h left wears. wears)) (λ h left leaves. leaves)
    (λ h left wears.
    let back = reads.trust.honest h in
    leaves_entering v mid need old now left (g.met.M.Machine.short c.prepared.new.m back) (first.windows back) (first.quiet back) (λ k stands. (c.in_ok-draft.ensures.done back k stands).0) (first.exit back) wears)

pub returns-clause-writes : goal.returns-clause-writes
returns-clause-writes g c =
    let M = g.M.Machine in
    let s = state c.args.self.now in
    let need = sectors_for (length c.args.bytes.now) in
    let first = c.in_ok-draft.ensures in
    let reads = c.entered.ensures.disk in
    record {
      rest = λ h.
          let back = reads.trust.honest h in
          touches_read (put_writes s need) (M.now c.args.m.now) (M.now c.prepared.new.m) (M.now c.entered.new.m) (first.disk.windows back) (first.writes.rest back) (reads.worn h);
      counted = λ tells. change_counts (put_len s need) (M.ledger c.args.m.now) (M.ledger c.prepared.new.m) (M.ledger c.entered.new.m) c.entered.result (first.writes.counted (reads.trust.tells tells)) (reads.ledger tells);
    }

pub returns-clause-keeps : goal.returns-clause-keeps
returns-clause-keeps g c =
    let s = state c.args.self.now in
    let mid = state c.prepared.new.self in
    let new = state c.entered.new.self in
    let len = length c.args.bytes.now in
    let tests = c.in_ok-may_put.ensures in
    let e = c.in_ok-draft.draft in
    let prepares = c.in_ok-draft.ensures.keeps.prepares in
    let entered = c.entered.ensures in
    record {
      state = put_goes s mid c.args.keep len tests e prepares new c.entered.result entered.enters;
      kept = put_counts s mid c.args.keep len tests e prepares new entering_asks (enter_keeps mid) c.entered.result entered.order entered.enters;
    }

pub returns-clause-tells : goal.returns-clause-tells
returns-clause-tells g c =
    let v = c.args.self.now in
    let mid = c.prepared.new.self in
    let s = state v in
    let m = state mid in
    let t = state c.entered.new.self in
    let len = length c.args.bytes.now in
    let tests = c.in_ok-may_put.ensures in
    let prepares = c.in_ok-draft.ensures.keeps.prepares in
    let reads = c.entered.ensures.disk in
    record {
      name = c.entered.ensures.name;
      causes = causes_behind g.M.Machine s m t (resident v) (resident mid) c.args.m.now c.prepared.new.m c.entered.new.m (λ h. c.in_ok-draft.ensures.tells.behind (reads.trust.honest h))
          (slots_stay s m c.args.keep len tests c.in_ok-draft.draft prepares t c.entered.result c.entered.ensures.enters) (layout_stays s m c.args.keep len tests c.in_ok-draft.draft prepares t c.entered.result c.entered.ensures.enters)
          (λ h. reads.worn h) c.entered.result c.entered.ensures.causes;
    }

pub returns-clause-done : goal.returns-clause-done
returns-clause-done g c h k stands =
    let M = g.M.Machine in
    let v = c.args.self.now in
    let mid = c.prepared.new.self in
    let e = c.in_ok-draft.draft in
    let bytes = c.args.bytes.now in
    let version = c.in_ok-draft.ensures.keeps.version in
    let ready = c.in_ok-draft.ensures.done (c.entered.ensures.disk.trust.honest h) k stands in
    let p = ready.0 in
    put_ends v mid c.args.name.now bytes c.args.keep k (M.now c.args.m.now) (M.now c.prepared.new.m) e c.in_ok-may_put.ensures.1.0 stands.fits c.in_ok-draft.ensures.keeps.prepares.kept p c.entered.new.self (M.now c.entered.new.m)
    version.place.count version.len_is c.entered.result (c.entered.ensures.done h bytes p.after p.stands version.len_is ready.1)
