use Rattle.std.proofs.Common.{◌≡◌, inl, ◌+◌, ◌<◌, ◌≤◌, Bool, List, Some, None, Ok, refl, sym, ap, subst, ◌∙◌, arith}
use Rattle.std.specs.Prelude.{if◌then◌else◌, slice_index_or}
use Rattle.std.proofs.lemmas.Result.{IfErr-weaker, on_ok_weaker}
use Rattle.volume_layout.specs.declared.layout.Layout.{Layout}
use Rattle.sector_disk.specs.Machine.{Ledger, Wears}
use Rattle.sector_disk.proofs.CallLaws.{heals_then, heals_told, reads_as_heals}
use Rattle.sector_disk.proofs.Moments.{leaves_more, then_on}
use Rattle.sector_disk.proofs.Holding.{wears_none}
use Rattle.fsd_log.specs.Images.{last_image}
use Rattle.fsd_log.specs.Scan.{Placed}
use Rattle.fsd_files.specs.Disk.{Image}
use Rattle.fsd_sound.specs.Homes.{HasSome}
use Rattle.log_thirds.specs.Append.{IsCalmNow}
use Rattle.log_thirds.specs.Images.{IsUnlogged}
use Rattle.fsd_sound.specs.Shown.{records_by}
use Rattle.mount_recover.specs.Finding.{IsExcuse}
use Rattle.fsd_sound.specs.Lost.{LostIn}
use Rattle.mount_recover.specs.Mending.{AreHomed, AreOfVolume, IsMending, StaysShown}
use Rattle.mount_recover.specs.Showing.{IsShowing, LosesNone}
use Rattle.mount_recover.proofs.CalmLaws.{still_worn, still_next, given_on, device_loses, excuse_loses}
use Rattle.mount_recover.proofs.FaultLaws.{either_end, excuse_lost, load_excused, load_lost, is_load, load_told}
use Rattle.mount_recover.proofs.HomesLaws.{count_has, homed_put, homed_skip}
use Rattle.mount_recover.proofs.KeepsLaws.{but_read, but_then}
use Rattle.mount_recover.proofs.MendingLaws.{stays, still, not_none, put_none}
use Rattle.mount_recover.proofs.ShowingLaws.{showing_skip}
use Rattle.mount_recover.proofs.SlotLaws.{slot_gives, slot_not_lost, slot_none}
use Rattle.mount_recover.proofs.mending.write_logged.Goals as goal

pub returns-in-Ok-true-clause-mends : goal.returns-in-Ok-true-clause-mends
returns-in-Ok-true-clause-mends g c =
    let M = g.M.Machine in
    let new = M.now c.put_home.new.m in
    record {
      disk = heals_then (reads_as_heals c.in-Ok-true.ensures.reads) c.put_home.ensures.writes.disk;
      load = c.put_home.ensures.writes.load;
      lost = IfErr-weaker c.put_home.result IsExcuse (λ fault. M.honest c.put_home.new.m → LostIn (AreOfVolume c.args.l.now c.args.log.now) new.image fault)
          (λ fault excuse h. excuse_lost (AreOfVolume c.args.l.now c.args.log.now) new.image fault excuse) c.put_home.ensures.writes.never_lost;
      grows = on_ok_weaker {P = M.tells c.put_home.new.m → (M.ledger c.image_of.new.m).written ≤ (M.ledger c.put_home.new.m).written} {Q = M.tells c.put_home.new.m → (M.ledger c.args.m.now).written ≤ (M.ledger c.put_home.new.m).written} c.put_home.result
          (λ grows t. omega (arith, grows t, ap (λ (x : Ledger). x.written) (c.image_of.ensures.reads.ledger (c.put_home.ensures.writes.disk.trust.tells t)))) c.put_home.ensures.counts.grows;
    }

pub returns-in-Ok-false-clause-mends : goal.returns-in-Ok-false-clause-mends
returns-in-Ok-false-clause-mends g c = record { disk = reads_as_heals c.in-Ok-false.ensures.reads; load = tt; lost = tt; grows = λ t. omega (arith, ap (λ (x : Ledger). x.written) (c.image_of.ensures.reads.ledger t)) }

pub returns-in-Err-clause-mends : goal.returns-in-Err-clause-mends
returns-in-Err-clause-mends g c = record {
  disk = heals_told (load_told c.in-Err.fault c.from.result c.from.ensures) (reads_as_heals c.in-Err.ensures.reads);
  load = is_load c.in-Err.fault c.from.result c.from.ensures;
  lost = λ h. load_lost _ (AreOfVolume c.args.l.now c.args.log.now) (g.M.Machine.now c.image_of.new.m).image c.in-Err.fault c.from.result c.from.ensures (λ a b logged. inl (record { page = c.args.page; within = subst (λ (k : Layout). c.args.page < k.pages) (sym c.requires.layout) c.requires.page; logged = logged })) (c.in-Err.ensures.failed.lost h);
  grows = tt;
}

pub returns-in-Ok-true-clause-goes_on : goal.returns-in-Ok-true-clause-goes_on
returns-in-Ok-true-clause-goes_on g c windows choices first is h at =
    let M = g.M.Machine in
    let l = c.args.l.now in let log = c.args.log.now in let now = M.now c.args.m.now in let read = M.now c.image_of.new.m in let new = M.now c.put_home.new.m in
    let h1 = c.put_home.ensures.writes.disk.trust.honest h in
    let given = slot_gives l windows choices log first is c.requires.layout c.args.page c.requires.page c.args.place 0 now at c.image_of.new.buf (wears_none now) (c.in-Ok-true.ensures.whole (λ i. Ok (c.in-Ok-true.field-0-test i)) h1) in
    let put = c.put_home.ensures.goes_on windows choices log first is h (λ none. not_none _ _ given none) (still l windows choices log first is c.args.place 0 now at read (c.image_of.ensures.reads.worn h1)) in
    record {
      any_moment = then_on M.moment M.left_since c.args.m.now c.image_of.new.m c.put_home.new.m (StaysShown l windows choices first)
          (leaves_more M.moment M.left_since c.args.m.now c.image_of.new.m (Wears now) (StaysShown l windows choices first) (λ left wears. stays l windows choices log first is c.args.place 0 now at left wears) (c.image_of.ensures.reads.any_moment h1))
          put.any_moment;
      done = on_ok_weaker {P = last_image c.args.page (records_by l is.clean log.anchor) ≡ Some c.image_of.new.buf → IsMending l windows choices log first is (c.args.place + 1) 0 new} {Q = IsMending l windows choices log first is (c.args.place + 1) 0 new} c.put_home.result
          (λ done. done given) put.done;
      never_lost = put.never_lost;
    }

pub returns-in-Ok-false-clause-goes_on : goal.returns-in-Ok-false-clause-goes_on
returns-in-Ok-false-clause-goes_on g c windows choices first is h at =
    let M = g.M.Machine in
    let l = c.args.l.now in let log = c.args.log.now in let now = M.now c.args.m.now in let read = M.now c.image_of.new.m in
    record {
      any_moment = leaves_more M.moment M.left_since c.args.m.now c.image_of.new.m (Wears now) (StaysShown l windows choices first) (λ left wears. stays l windows choices log first is c.args.place 0 now at left wears) (c.image_of.ensures.reads.any_moment h);
      done = put_none l windows choices log first is c.args.place 0 read (still l windows choices log first is c.args.place 0 now at read (c.image_of.ensures.reads.worn h)) c.args.page c.requires.page c.args.place c.requires.home refl
          (slot_none l windows choices log first is c.requires.layout c.args.page c.requires.page c.args.place 0 now at (c.in-Ok-false.ensures.lacks (λ i. Ok (c.in-Ok-false.field-0-test i))).nowhere);
      never_lost = tt;
    }

pub returns-in-Err-clause-goes_on : goal.returns-in-Err-clause-goes_on
returns-in-Err-clause-goes_on g c windows choices first is h at =
    let M = g.M.Machine in
    let l = c.args.l.now in let log = c.args.log.now in let now = M.now c.args.m.now in
    record {
      any_moment = leaves_more M.moment M.left_since c.args.m.now c.image_of.new.m (Wears now) (StaysShown l windows choices first) (λ left wears. stays l windows choices log first is c.args.place 0 now at left wears) (c.image_of.ensures.reads.any_moment h);
      done = tt;
      never_lost = subst IsExcuse (sym c.from.ensures) (load_excused c.in-Err.fault
          (slot_not_lost l windows choices log first is c.requires.layout c.args.page c.requires.page c.args.place 0 now at (M.now c.image_of.new.m) (c.image_of.ensures.reads.worn h) c.in-Err.fault (c.in-Err.ensures.failed.lost h)));
    }

pub returns-in-Ok-true-clause-shown : goal.returns-in-Ok-true-clause-shown
returns-in-Ok-true-clause-shown g c records first h still given at =
    let M = g.M.Machine in
    let l = c.args.l.now in let log = c.args.log.now in let now = M.now c.args.m.now in let read = M.now c.image_of.new.m in let new = M.now c.put_home.new.m in
    let h1 = c.put_home.ensures.writes.disk.trust.honest h in
    let worn = c.image_of.ensures.reads.worn h1 in
    let same = still_worn now now.image read.image still worn.image in
    let here = subst (IsShowing l records first c.args.place) (sym same) at in
    let logged = c.in-Ok-true.ensures.gives.given records h1 still given.indexed (given_on l log c.requires.layout records first now.image c.args.page at.front given) in
    let is : last_image c.args.page records ≡ Some c.image_of.new.buf = logged ∙ ap (λ (b : Bool). if b then Some c.image_of.new.buf else None) c.in-Ok-true.field-0-test in
    either_end ((records : List Placed) (first : Image) → M.honest c.put_home.new.m → IsCalmNow read → last_image c.args.page records ≡ Some c.image_of.new.buf → IsShowing l records first c.args.place read.image → IsShowing l records first (c.args.place + 1) new.image)
    (IsShowing l records first (c.args.place + 1) new.image) IsExcuse (LosesNone l records first) c.put_home.result
    (λ done. done records first h (still_next now read worn.windows still) is here) (λ fault excuse. excuse_loses l records first fault excuse)
    c.put_home.ensures.shown c.put_home.ensures.writes.never_lost

pub returns-in-Ok-false-clause-shown : goal.returns-in-Ok-false-clause-shown
returns-in-Ok-false-clause-shown g c records first h still given at =
    let M = g.M.Machine in
    let l = c.args.l.now in let now = M.now c.args.m.now in let read = M.now c.image_of.new.m in
    let here = subst (IsShowing l records first c.args.place) (sym (still_worn now now.image read.image still (c.image_of.ensures.reads.worn h).image)) at in
    showing_skip l records first c.args.page c.requires.page c.args.place c.requires.home read.image here ((c.in-Ok-false.ensures.lacks (λ i. Ok (c.in-Ok-false.field-0-test i))).nowhere records given.indexed)

pub returns-in-Err-clause-shown : goal.returns-in-Err-clause-shown
returns-in-Err-clause-shown g c records first h still given at =
    let M = g.M.Machine in
    let l = c.args.l.now in let log = c.args.log.now in let now = M.now c.args.m.now in
    device_loses l records first c.in-Err.fault c.from.result c.from.ensures (c.in-Err.ensures.failed.none_lost records h still given.indexed (given_on l log c.requires.layout records first now.image c.args.page at.front given))

pub returns-in-Ok-true-clause-keeps : goal.returns-in-Ok-true-clause-keeps
returns-in-Ok-true-clause-keeps g c h =
    let M = g.M.Machine in
    but_then c.args.place c.args.place (M.now c.args.m.now) (M.now c.image_of.new.m) (M.now c.put_home.new.m) (c.image_of.ensures.reads.worn (c.put_home.ensures.writes.disk.trust.honest h)) (c.put_home.ensures.keeps h)

pub returns-in-Ok-false-clause-keeps : goal.returns-in-Ok-false-clause-keeps
returns-in-Ok-false-clause-keeps g c h = let M = g.M.Machine in but_read c.args.place c.args.place (M.now c.args.m.now) (M.now c.image_of.new.m) (c.image_of.ensures.reads.worn h)

pub returns-in-Err-clause-keeps : goal.returns-in-Err-clause-keeps
returns-in-Err-clause-keeps g c h = let M = g.M.Machine in but_read c.args.place c.args.place (M.now c.args.m.now) (M.now c.image_of.new.m) (c.image_of.ensures.reads.worn h)

pub returns-in-Ok-true-clause-homes : goal.returns-in-Ok-true-clause-homes
returns-in-Ok-true-clause-homes g c =
    let M = g.M.Machine in
    let l = c.args.l.now in let log = c.args.log.now in let now = M.now c.args.m.now in let read = M.now c.image_of.new.m in let new = M.now c.put_home.new.m in
    on_ok_weaker {P = M.honest c.put_home.new.m → HasSome new c.args.place} {Q = M.honest c.put_home.new.m → AreHomed l log c.args.place 0 now → AreHomed l log (c.args.place + 1) 0 new} c.put_home.result
    (λ some h at. homed_put l log c.args.place now new (but_then c.args.place c.args.place now read new (c.image_of.ensures.reads.worn (c.put_home.ensures.writes.disk.trust.honest h)) (c.put_home.ensures.keeps h)) (some h) at)
    c.put_home.ensures.home

pub returns-in-Ok-false-clause-homes : goal.returns-in-Ok-false-clause-homes
returns-in-Ok-false-clause-homes g c h at =
    let M = g.M.Machine in
    let now = M.now c.args.m.now in let read = M.now c.image_of.new.m in
    let lacks : IsUnlogged c.args.log.now c.args.page = c.in-Ok-false.ensures.absent.0 (λ i. Ok (c.in-Ok-false.field-0-test i)) in
    homed_skip c.args.l.now c.args.log.now c.args.page c.requires.page c.args.place c.requires.home lacks now read (but_read c.args.place c.args.place now read (c.image_of.ensures.reads.worn h)) at

pub returns-in-Ok-true-clause-most : goal.returns-in-Ok-true-clause-most
returns-in-Ok-true-clause-most g c t =
    let has : IsUnlogged c.args.log.now c.args.page → ⊥ = λ lacks. absurd (cc (c.in-Ok-true.ensures.absent.1 lacks, c.in-Ok-true.field-0-test)) in
    omega (arith, c.put_home.ensures.counts.most t, ap (λ (x : Ledger). x.written) (c.image_of.ensures.reads.ledger (c.put_home.ensures.writes.disk.trust.tells t)), count_has (slice_index_or c.args.log.now.slots c.args.page None) has)

pub returns-in-Ok-false-clause-most : goal.returns-in-Ok-false-clause-most
returns-in-Ok-false-clause-most g c t = omega (arith, ap (λ (x : Ledger). x.written) (c.image_of.ensures.reads.ledger t))

pub returns-in-Err-clause-most : goal.returns-in-Err-clause-most
returns-in-Err-clause-most g c t = omega (arith, ap (λ (x : Ledger). x.written) (c.image_of.ensures.reads.ledger t))
