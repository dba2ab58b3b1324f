use Rattle.std.proofs.Common.{◌≡◌, ◌⊎◌, inl, inr, ◌+◌, ◌≤◌, ℕ, true, false, List, [], ◌∷◌, length, option_map, None, Some, Err, refl, sym, ap, subst, ◌∙◌, arith, rules, nat_lt}
use Rattle.std.specs.Prelude.{IsSome}
use Rattle.std.proofs.lemmas.Bool.{lt-ltb}
use Rattle.std.proofs.lemmas.Result.{err_from_is_err_and}
use Rattle.std.proofs.lemmas.List.{nil_from_length}
use Rattle.sector_set.specs.Area.{Area}
use Rattle.sector_disk.proofs.CallLaws.{writes_none, writes_told, writes_more}
use Rattle.sector_disk.specs.declared.machine.LoadFault.{LoadFault}
use Rattle.sector_disk.specs.declared.machine.LoadFault.TheVariants as fault
use Rattle.volume_layout.specs.declared.layout.Layout.{Layout}
use Rattle.fsd_bytes.specs.declared.refusal.Refusal.TheVariants as Why
use Rattle.group_commit.specs.Cached.{AreWaiting}
use Rattle.table_survey.proofs.DataLaws.{of_data_own}
use Rattle.volume_contract.specs.Ends.{device_of, AnswersAndStands}
use Rattle.fsd_sound.specs.Writes.{force_writes}
use Rattle.volume_contract.specs.Causes.{HasCallCause}
use Rattle.volume_contract.specs.State.{IsForced as HasForced, Leaves, Stands, State, downs_for, force_len, volume_of}
use Rattle.fsd_files.specs.Answers.{force_outcome}
use Rattle.fsd_files.specs.declared.reply.Reply.TheVariants.{Forced as IsForced}
use Rattle.volume_contract.specs.declared.files.Forced.{Forced}
use Rattle.run_table.specs.Space.{contains}
use Rattle.volume_contract.specs.Order.{Force, IsLoss, Test, force_steps, is_idle}
use Rattle.volume_laws.specs.Forcing.{force_refusal as refusal_of, down_place}
use Rattle.volume_laws.specs.Saving.{LeavesOpen}
use Rattle.volume_laws.specs.State.{IsMemoryOf, resident, state}
use Rattle.volume_laws.specs.Volume.{VolumeValue}
use Rattle.volume_laws.specs.Taken.{down_fault}
use Rattle.volume_laws.proofs.BehindLaws.{behind_itself}
use Rattle.volume_laws.proofs.FailedLaws.{failed_cause, failed_counted, failed_none}
use Rattle.volume_laws.proofs.ForceLeavesLaws.{down_tells_none, tells_place}
use Rattle.volume_laws.proofs.ForceCountLaws.{forced_count}
use Rattle.volume_laws.proofs.ForceEndLaws.{ends_failed, ends_forced, ends_idle, forced_to, not_down}
use Rattle.volume_laws.proofs.ForceMomentLaws.{agrees, commits, force_touches, knows, leaves_forced, leaves_itself, open_forced, open_itself, over_waiting, touches_none}
use Rattle.volume_laws.proofs.ForcedLaws.{whole_down, whole_forced}
use Rattle.volume_laws.proofs.KeptLaws.{idle_forced, is_forced, kept_down}
use Rattle.volume_laws.proofs.MemoryLaws.{forced_content}
use Rattle.volume_laws.proofs.LoggedLaws.{forced_behind, forced_logged}
use Rattle.volume_laws.proofs.NextLaws.{up_by}
use Rattle.table_volume.specs.declared.volume.Volume.TheInside.{Inside}
use Rattle.table_volume.proofs.DownLaws.{down_step, told_down}
use Rattle.table_volume.proofs.volume.Volume.force_all.Goals as goal

-- the volume of these fields
abbrev value : Inside → VolumeValue
value s = record { layout = s.layout; map = s.map; shadow = s.shadow; log = s.log; cache = s.table.cache; free_pages = s.table.free_pages; serial = s.serial; versions = s.versions; down = s.down }

pub invariant_of-self : goal.invariant_of-self
invariant_of-self g c =
    let v = value c.self.inside in
    whole_forced v c.self.invariant c.free_committed.new.map c.free_committed.new.shadow c.force_cached.new.log c.force_cached.new.cache
    c.free_committed.ensures.map c.free_committed.ensures.removed c.free_committed.ensures.kept c.free_committed.ensures.unfinished c.free_committed.ensures.held c.in-Ok.ensures.done.past c.in-Ok.ensures.done.cache

pub free_committed-requires-clause-own : goal.free_committed-requires-clause-own
free_committed-requires-clause-own g c = of_data_own c.self.inside.layout c.self.inside.map c.self.invariant.map

pub invariant_of-self-in-Err : goal.invariant_of-self-in-Err
invariant_of-self-in-Err g c =
    let v = value c.self.inside in
    whole_down v c.self.invariant c.force_cached.new.log c.force_cached.new.cache c.place_of.result (length c.self.inside.table.cache.dirty) _ c.in-Err.ensures.failed.write.past c.in-Err.ensures.failed.cache

-- ---- where the volume is down

pub returns-in_err-is_up : goal.returns-in_err-is_up
returns-in_err-is_up g c =
    let M = g.M.Machine in
    let v = c.args.self.now in
    let at = c.args.m.now in
    let now = g.M.Machine.now c.args.m.now in
    let why = c.in_err-is_up.field-0.0 in
    let down : down_fault c.args.self.now.down ≡ Err c.in_err-is_up.field-0.0 = sym c.in_err-is_up.ensures in
    let refused = down_step v.down why down in
    let none = told_down (HasCallCause (state v) (state v) (resident v) now now) (λ place. tt) v.down why down in
    let p = err_from_is_err_and c.from_residual.result c.from_residual.ensures.1 in
    rw (p.1, p.2) (record {
      order = record { follows = inl refused; idle = λ idle. refl };
      disk = writes_told (down_tells_none v.down why down) (writes_none at (λ left h is. g.met.M.Machine.only_now at left h is) (Leaves state IsMemoryOf v (force_writes v.layout)) (λ h. leaves_itself v now));
      opened = writes_told (down_tells_none v.down why down) (writes_none at (λ left h is. g.met.M.Machine.only_now at left h is) (LeavesOpen v) (λ h. open_itself v now));
      writes = record { rest = λ h. touches_none (force_writes v.layout) now; counted = λ tells. (omega arith, omega arith) };
      keeps = record { by_steps = record { state = record { layout = refl; epoch = refl; unfinished = refl; readers = refl; down = inl refl }; kept = inl (refused, refl) }; resident = tt };
      tells = record { pages = tt; pages_kept = tt; logged = tt; causes = λ h. none; lost = λ h. none; behind = tt; unwritten = λ tells never. refl };
      done = λ honest k stands. absurd (not_down v k now why down stands);
    })

-- ---- where no page waits

pub returns-then-len-eq0 : goal.returns-then-len-eq0
returns-then-len-eq0 g c =
    let v = value c.self.inside in
    let w = c.args.self.now in
    let at = c.args.m.now in
    let now = g.M.Machine.now c.args.m.now in
    let none : length c.self.inside.table.cache.dirty ≡ 0 = search rules in
    let nil = nil_from_length c.self.inside.table.cache.dirty none in
    let nil_now : c.args.self.now.cache.dirty ≡ [] = subst (λ (x : VolumeValue). x.cache.dirty ≡ []) c.self.view_is nil in
    record {
      order = record { follows = (ap (option_map Why.Down) (up_by w.down (sym c.in_ok-is_up.ensures)), (tt, tt)); idle = λ idle. refl };
      disk = writes_none at (λ left h is. g.met.M.Machine.only_now at left h is) (Leaves state IsMemoryOf w (force_writes w.layout)) (λ h. leaves_itself w now);
      opened = writes_none at (λ left h is. g.met.M.Machine.only_now at left h is) (LeavesOpen w) (λ h. open_itself w now);
      writes = record {
        rest = λ h. touches_none (force_writes w.layout) now;
        counted = λ tells. let len : force_len (state w) ≡ 0 = ap (λ (dirty : List ℕ). force_len (record (state w) { dirty = dirty })) nil_now in omega (arith, len);
      };
      keeps = record {
        by_steps = record {
          state = record { layout = refl; epoch = refl; unfinished = refl; readers = refl; down = inl refl };
          kept = subst (λ (x : VolumeValue). HasForced (state x) (state x)) c.self.view_is (idle_forced v c.self.invariant nil);
        };
        resident = record { there = λ page is. is; accepted = λ pages page x is. is };
      };
      tells = record {
        pages = ap length (sym nil_now);
        pages_kept = λ page x is. is;
        logged = λ honest page waits. absurd (cc (ap (λ (dirty : List ℕ). contains dirty page) (sym nil_now) ∙ waits));
        causes = tt;
        lost = tt;
        behind = λ honest. behind_itself (state w) (resident w) now;
        unwritten = tt;
      };
      done = λ honest k stands.
          let here : Stands state IsMemoryOf v k (g.M.Machine.now c.args.m.now) = subst (λ (x : VolumeValue). Stands state IsMemoryOf x k now) (sym c.self.view_is) stands in
          subst (λ (x : VolumeValue). AnswersAndStands state IsMemoryOf (λ met. force_outcome (volume_of k)) IsForced [] k x now) c.self.view_is (ends_idle v k now c.self.invariant c.dirty_list.ensures.valid nil here);
    }

-- ---- where a record is written

some_waits : (n : ℕ) → 1 ≤ n → nat_lt 0 n ≡ true
some_waits n some = lt-ltb 0 n (omega (arith, some))

-- a force that writes is not idle
busy : (s : State) → s.down ≡ None → 1 ≤ length s.dirty → is_idle (force_steps s) ≡ true → ⊥
busy s up some idle =
    let no : is_idle (force_steps s) ≡ false = (λ i. is_idle (Test (option_map Why.Down (up i)) ∷ Force (some_waits (length s.dirty) some i) ∷ [])) in
    absurd (cc (no, idle))

-- the next record can be numbered
numbered_of : {P : Type 0} (dirty : List ℕ) → 1 ≤ length dirty → (dirty ≡ []) ⊎ P → P
numbered_of dirty some (inl none) = absurd (omega (arith, some, ap length none))
numbered_of dirty some (inr so) = so

pub force_cached-requires : goal.force_cached-requires
force_cached-requires g c =
    let v = value c.self.inside in
    let some : 1 ≤ length c.self.inside.table.cache.dirty = search rules in
    let up : c.self.inside.down ≡ None = search rules in
    let n = (g.M.Machine.report c.args.m.now).sectors in
    record {
      waiting = subst (λ (l : Layout). AreWaiting l.pages v.cache) (sym c.self.invariant.log) (c.self.invariant.waiting up);
      numbered = numbered_of v.cache.dirty some (c.self.invariant.numbered up);
      sectors = subst (λ (l : Layout). l.sectors ≤ n) (sym c.self.invariant.log) (subst (λ (x : VolumeValue). x.layout.sectors ≤ n) (sym c.self.view_is) c.requires);
    }

-- a fault of the force is one of the disk, or a loss
fault_loss : (f : LoadFault) → IsLoss (refusal_of f)
fault_loss (fault.Device place) = tt
fault_loss (fault.Lost a b) = tt

fault_downs : (f : LoadFault) → Some (down_place f) ≡ downs_for (refusal_of f)
fault_downs (fault.Device place) = refl
fault_downs (fault.Lost a b) = refl

pub returns-in-Ok : goal.returns-in-Ok
returns-in-Ok g c =
    let v = value c.self.inside in
    let M = g.M.Machine in
    let w : VolumeValue = record v { map = c.free_committed.new.map; shadow = c.free_committed.new.shadow; log = c.force_cached.new.log; cache = c.force_cached.new.cache } in
    let old = g.M.Machine.now c.args.m.now in
    let new = g.M.Machine.now c.force_cached.new.m in
    let valid = c.dirty_list.ensures.valid in
    let call = c.in-Ok.ensures in
    let forced = call.done in
    let freed = c.free_committed.ensures in
    let some : 1 ≤ length c.self.inside.table.cache.dirty = search rules in
    let up : c.self.inside.down ≡ None = subst (λ (x : VolumeValue). x.down ≡ None) (sym c.self.view_is) (up_by c.args.self.now.down (sym c.in_ok-is_up.ensures)) in
    let whole = whole_forced v c.self.invariant w.map w.shadow w.log w.cache freed.map freed.removed freed.kept freed.unfinished freed.held forced.past forced.cache in
    let to = forced_to v c.self.invariant w.map w.shadow w.log w.cache freed.map freed.removed freed.kept freed.unfinished freed.held forced.past forced.cache in
    let content = forced_content v v refl c.attest.ensures w.cache forced.cache in
    rw (sym c.self.view_is) (record {
      order = record { follows = (ap (option_map Why.Down) up, (tt, tt)); idle = λ idle. absurd (busy (state v) up some idle) };
      disk = writes_more call.disk (λ h left leaves. leaves_forced v old left c.self.invariant valid leaves);
      opened = writes_more call.disk (λ h left leaves. open_forced v old left c.self.invariant valid some leaves);
      writes = record {
        rest = λ h. force_touches v old new c.self.invariant (call.rest h);
        counted = λ tells. forced.counted tells ∙ ap (λ n. (M.ledger c.args.m.now).written + n) (forced_count v v refl c.self.invariant some);
      };
      keeps = record {
        by_steps = record {
          state = record { layout = refl; epoch = refl; readers = freed.held; unfinished = ap (λ (a : Area). a.sectors) freed.unfinished; down = inl refl };
          kept = is_forced v c.self.invariant w.map w.shadow w.log w.cache freed.map freed.removed freed.kept freed.unfinished freed.held forced.past forced.cache valid some;
        };
        resident = content;
      };
      tells = record {
        pages = forced.pages;
        pages_kept = λ page x is. content.accepted v.layout.pages page x is;
        logged = λ honest. forced_logged v w c.self.invariant whole to valid new (forced.logged honest);
        causes = tt;
        lost = tt;
        behind = λ honest. forced_behind v w c.self.invariant whole to new (forced.logged honest);
        unwritten = tt;
      };
      done = λ honest k here.
          let left = commits v k old c.self.invariant valid here new (call.disk.exit honest) in
          let agree = agrees v k old c.self.invariant valid here in
          let over = over_waiting v k old c.self.invariant valid here in
          let known = knows v k old c.self.invariant valid here in
          ends_forced v w k old new c.self.invariant whole valid here to c.attest-in-Ok.ensures left.kept left.windows
          (forced.shows k.mounted.pages k.windows here.disk.records here.disk.disk agree honest here.ends over known)
          (forced.knows k.mounted.pages k.windows here.disk.records here.disk.disk agree honest here.ends over known);
    })

-- ---- where it fails

pub returns-in-Err : goal.returns-in-Err
returns-in-Err g c =
    let v = value c.self.inside in
    let M = g.M.Machine in
    let w : VolumeValue = record v { log = c.force_cached.new.log; cache = c.force_cached.new.cache; down = Some c.place_of.result } in
    let old = g.M.Machine.now c.args.m.now in
    let new = g.M.Machine.now c.force_cached.new.m in
    let valid = c.dirty_list.ensures.valid in
    let call = c.in-Err.ensures in
    let failed = call.failed in
    let f = c.in-Err.fault in
    let why = c.force_refusal.result in
    let told = c.force_refusal.ensures in
    let some : 1 ≤ length c.self.inside.table.cache.dirty = search rules in
    let up : c.self.inside.down ≡ None = subst (λ (x : VolumeValue). x.down ≡ None) (sym c.self.view_is) (up_by c.args.self.now.down (sym c.in_ok-is_up.ensures)) in
    let passes = ap (option_map Why.Down) up in
    let downs_is : Some c.place_of.result ≡ downs_for c.force_refusal.result = ap (λ (p : ℕ). Some p) c.place_of.ensures ∙ fault_downs f ∙ ap downs_for (sym told) in
    rw (sym c.self.view_is) (record {
      order = record {
        follows = inr (passes, inl (some_waits (length v.cache.dirty) some, subst IsLoss (sym told) (fault_loss f)));
        idle = λ idle. absurd (busy (state v) up some idle);
      };
      disk = writes_told (ap device_of told ∙ tells_place f) (writes_more call.disk (λ h left leaves. leaves_forced v old left c.self.invariant valid leaves));
      opened = writes_told (ap device_of told ∙ tells_place f) (writes_more call.disk (λ h left leaves. open_forced v old left c.self.invariant valid some leaves));
      writes = record {
        rest = λ h. force_touches v old new c.self.invariant (call.rest h);
        counted = λ tells. failed_counted v v refl c.self.invariant some (M.ledger c.args.m.now) (M.ledger c.force_cached.new.m) (failed.write.counted tells);
      };
      keeps = record {
        by_steps = record {
          state = record { layout = refl; epoch = refl; unfinished = refl; readers = refl; down = inr (subst IsSome downs_is refl, downs_is) };
          kept = kept_down v c.self.invariant w.log w.cache c.place_of.result why f c.place_of.ensures told failed.cache _ failed.write.past up some;
        };
        resident = tt;
      };
      tells = record {
        pages = tt;
        pages_kept = tt;
        logged = tt;
        causes = λ h. failed_cause v v refl c.self.invariant (state w) old new f why told (failed.write.lost h);
        lost = λ h. failed_cause v v refl c.self.invariant (state v) old new f why told (failed.write.lost h);
        behind = tt;
        unwritten = λ tells never. failed_none v v refl c.self.invariant (M.ledger c.args.m.now) (M.ledger c.force_cached.new.m) (failed.write.counted tells) never;
      };
      done = λ honest k here.
          let device = failed.never_lost k.mounted.pages k.windows here.disk.records here.disk.disk (agrees v k old c.self.invariant valid here) honest here.ends (over_waiting v k old c.self.invariant valid here) (knows v k old c.self.invariant valid here) in
          ends_failed Forced (λ met. force_outcome (volume_of k)) IsForced k w new f c.place_of.result why c.place_of.ensures told refl device;
    })
