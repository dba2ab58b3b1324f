use Rattle.std.proofs.Common.{inl, inr, Ok, ◌+◌, ◌<◌, ℕ, refl, arith}
use Rattle.std.specs.Prelude.{MatchResult}
use Rattle.std.proofs.lemmas.Result.{IfErr-weaker, on_ok_weaker}
use Rattle.volume_layout.specs.Layout.{home_a, home_b}
use Rattle.sector_disk.proofs.Moments.{then_on}
use Rattle.sector_disk.proofs.CallLaws.{heals_then}
use Rattle.fsd_sound.specs.Homes.{HasBothHomes}
use Rattle.fsd_sound.specs.Lost.{AreHomes, LostIn}
use Rattle.mount_recover.specs.Steps.{MendsOn}
use Rattle.mount_recover.specs.Mending.{AreHomed, AreOfVolume, IsMending, StaysShown}
use Rattle.mount_recover.specs.Showing.{IsShowing, LosesNone}
use Rattle.mount_recover.proofs.CalmLaws.{still_next}
use Rattle.mount_recover.proofs.KeepsLaws.{keeps_on}
use Rattle.mount_recover.proofs.FaultLaws.{handed_so, lost_more}
use Rattle.mount_recover.proofs.StepLaws.{mends_on, mends_up}
use Rattle.mount_recover.proofs.HomesLaws.{all_homed, count_most, homed_none, homed_further}
use Rattle.mount_recover.proofs.MendingLaws.{begin_at, no_home_between, to_second, to_others}
use Rattle.mount_recover.proofs.ShowingLaws.{showing_further, showing_none}
use Rattle.mount_recover.proofs.mending.mend_pages.Goals as goal

-- ---- the first homes

pub returns-in_err-write_homes-clause-mends : goal.returns-in_err-write_homes-clause-mends
returns-in_err-write_homes-clause-mends g c =
    let failed = c.in_err-write_homes.ensures.mends in
    mends_up g.M.Machine (AreOfVolume c.args.l.now c.args.log.now) c.args.m.now c.write_homes.new.m c.from_residual.result c.in_err-write_homes.field-0.0 c.from_residual.ensures.1 failed.disk failed.load failed.lost

pub returns-in_err-write_homes-clause-most : goal.returns-in_err-write_homes-clause-most
returns-in_err-write_homes-clause-most g c t = omega (arith, c.write_homes.ensures.most t, count_most c.args.log.now c.args.l.now.pages)

pub returns-in_err-write_homes-clause-goes_on : goal.returns-in_err-write_homes-clause-goes_on
returns-in_err-write_homes-clause-goes_on g c windows choices is h =
    let M = g.M.Machine in
    let l = c.args.l.now in let log = c.args.log.now in let old = M.now c.args.m.now in
    let failed = c.in_err-write_homes.ensures.goes_on windows choices old is h (begin_at l windows choices log old is c.home_a.result c.home_a.ensures.place) in
    handed_so (λ r. MendsOn M l windows choices old (IsMending l windows choices log old is (home_b l l.pages) l.pages (M.now c.write_homes.new.m)) c.args.m.now c.write_homes.new.m r)
    c.from_residual.result c.in_err-write_homes.field-0.0 c.from_residual.ensures.1
    (record { any_moment = failed.any_moment; done = tt; never_lost = failed.never_lost })

pub returns-in_err-write_homes-clause-shown : goal.returns-in_err-write_homes-clause-shown
returns-in_err-write_homes-clause-shown g c records h still given =
    let M = g.M.Machine in
    let l = c.args.l.now in let old = M.now c.args.m.now in
    handed_so (λ r. MatchResult r (λ _. IsShowing l records old.image (home_b l l.pages) (M.now c.write_homes.new.m).image) (LosesNone l records old.image))
    c.from_residual.result c.in_err-write_homes.field-0.0 c.from_residual.ensures.1
    (c.in_err-write_homes.ensures.shown records old.image h still given (showing_none l records old.image c.home_a.result c.home_a.ensures.place))

-- ---- the second homes

pub returns-in_err-write_homes-2-clause-mends : goal.returns-in_err-write_homes-2-clause-mends
returns-in_err-write_homes-2-clause-mends g c =
    let failed = c.in_err-write_homes-2.ensures.mends in
    mends_up g.M.Machine (AreOfVolume c.args.l.now c.args.log.now) c.args.m.now c.write_homes-2.new.m c.from_residual-in_err-write_homes-2.result c.in_err-write_homes-2.field-0.0 c.from_residual-in_err-write_homes-2.ensures.1
    (heals_then c.in_ok-write_homes.ensures.mends.disk failed.disk) failed.load failed.lost

pub returns-in_err-write_homes-2-clause-most : goal.returns-in_err-write_homes-2-clause-most
returns-in_err-write_homes-2-clause-most g c t = omega (arith, c.write_homes-2.ensures.most t, c.write_homes.ensures.most (c.write_homes-2.ensures.mends.disk.trust.tells t), count_most c.args.log.now c.args.l.now.pages)

pub returns-in_err-write_homes-2-clause-goes_on : goal.returns-in_err-write_homes-2-clause-goes_on
returns-in_err-write_homes-2-clause-goes_on g c windows choices is h =
    let M = g.M.Machine in
    let l = c.args.l.now in let log = c.args.log.now in let old = M.now c.args.m.now in
    let h1 = c.write_homes-2.ensures.mends.disk.trust.honest h in
    let first = c.in_ok-write_homes.ensures.goes_on windows choices old is h1 (begin_at l windows choices log old is c.home_a.result c.home_a.ensures.place) in
    let failed = c.in_err-write_homes-2.ensures.goes_on windows choices old is h (to_second l windows choices log old is c.home_a.result c.home_b.result (M.now c.write_homes.new.m) c.home_a.ensures.place c.home_b.ensures.place first.done) in
    handed_so (λ r. MendsOn M l windows choices old (IsMending l windows choices log old is (home_b l l.pages) l.pages (M.now c.write_homes-2.new.m)) c.args.m.now c.write_homes-2.new.m r)
    c.from_residual-in_err-write_homes-2.result c.in_err-write_homes-2.field-0.0 c.from_residual-in_err-write_homes-2.ensures.1
    (record {
      any_moment = then_on M.moment M.left_since c.args.m.now c.write_homes.new.m c.write_homes-2.new.m (StaysShown l windows choices old) first.any_moment failed.any_moment;
      done = tt;
      never_lost = failed.never_lost;
    })

pub returns-in_err-write_homes-2-clause-shown : goal.returns-in_err-write_homes-2-clause-shown
returns-in_err-write_homes-2-clause-shown g c records h still given =
    let M = g.M.Machine in
    let l = c.args.l.now in let old = M.now c.args.m.now in
    let h1 = c.write_homes-2.ensures.mends.disk.trust.honest h in
    handed_so (λ r. MatchResult r (λ _. IsShowing l records old.image (home_b l l.pages) (M.now c.write_homes-2.new.m).image) (LosesNone l records old.image))
    c.from_residual-in_err-write_homes-2.result c.in_err-write_homes-2.field-0.0 c.from_residual-in_err-write_homes-2.ensures.1
    (c.in_err-write_homes-2.ensures.shown records old.image h (still_next old (M.now c.write_homes.new.m) (c.write_homes.ensures.keeps h1).windows still) given (showing_further l records old.image (c.home_a.result + l.pages) c.home_b.result (M.now c.write_homes.new.m).image (λ page within before. no_home_between l c.home_a.result c.home_b.result page (home_a l page) c.home_a.ensures.place c.home_b.ensures.place within (inl refl) before) (c.in_ok-write_homes.ensures.shown records old.image h1 still given (showing_none l records old.image c.home_a.result c.home_a.ensures.place))))

-- ---- the others

pub returns-clause-mends : goal.returns-clause-mends
returns-clause-mends g c =
    let M = g.M.Machine in
    let l = c.args.l.now in let log = c.args.log.now in let image = (M.now c.heal_others.new.m).image in
    let first = c.in_ok-write_homes.ensures.mends in let second = c.in_ok-write_homes-2.ensures.mends in let others = c.heal_others.ensures.mends in
    let both = mends_on M (AreOfVolume l log) c.args.m.now c.write_homes.new.m c.write_homes-2.new.m (Ok tt) first.disk first.grows second in
    mends_on M (AreOfVolume l log) c.args.m.now c.write_homes-2.new.m c.heal_others.new.m c.heal_others.result both.disk both.grows (record {
      disk = others.disk;
      load = others.load;
      lost = IfErr-weaker c.heal_others.result (λ fault. M.honest c.heal_others.new.m → LostIn (AreHomes l) image fault) (λ fault. M.honest c.heal_others.new.m → LostIn (AreOfVolume l log) image fault) (λ fault lost h. lost_more (AreHomes l) (AreOfVolume l log) image fault (λ a b are. inr are) (lost h)) others.lost;
      grows = others.grows;
    })

pub returns-clause-most : goal.returns-clause-most
returns-clause-most g c t =
    let t2 = c.heal_others.ensures.mends.disk.trust.tells t in
    omega (arith, c.heal_others.ensures.most t, c.write_homes-2.ensures.most t2, c.write_homes.ensures.most (c.write_homes-2.ensures.mends.disk.trust.tells t2), count_most c.args.log.now c.args.l.now.pages)

pub returns-clause-homes : goal.returns-clause-homes
returns-clause-homes g c =
    let M = g.M.Machine in
    let l = c.args.l.now in let log = c.args.log.now in let old = M.now c.args.m.now in
    let two = M.now c.write_homes-2.new.m in let new = M.now c.heal_others.new.m in
    on_ok_weaker {P = M.honest c.heal_others.new.m → AreHomed l log (home_b l l.pages) 0 two → AreHomed l log (home_b l l.pages) l.pages new} {Q = M.honest c.heal_others.new.m → (page : ℕ) → page < l.pages → HasBothHomes l new page} c.heal_others.result
    (λ homes h.
    let h2 = c.heal_others.ensures.mends.disk.trust.honest h in let h1 = c.write_homes-2.ensures.mends.disk.trust.honest h2 in
    let first = c.in_ok-write_homes.ensures.homes h1 (homed_none l log c.home_a.result c.home_a.ensures.place old) in
    let second = c.in_ok-write_homes-2.ensures.homes h2 (homed_further l log (c.home_a.result + l.pages) c.home_b.result 0 (M.now c.write_homes.new.m) (λ page s within home before. no_home_between l c.home_a.result c.home_b.result page s c.home_a.ensures.place c.home_b.ensures.place within home before) first) in
    all_homed l log new (homes h (homed_further l log (c.home_b.result + l.pages) (home_b l l.pages) 0 two (λ page s within home before. omega (arith, c.home_b.ensures.place, before)) second)))
    c.heal_others.ensures.homes

pub returns-clause-goes_on : goal.returns-clause-goes_on
returns-clause-goes_on g c windows choices is h =
    let M = g.M.Machine in
    let l = c.args.l.now in let log = c.args.log.now in let old = M.now c.args.m.now in
    let h2 = c.heal_others.ensures.mends.disk.trust.honest h in let h1 = c.write_homes-2.ensures.mends.disk.trust.honest h2 in
    let first = c.in_ok-write_homes.ensures.goes_on windows choices old is h1 (begin_at l windows choices log old is c.home_a.result c.home_a.ensures.place) in
    let second = c.in_ok-write_homes-2.ensures.goes_on windows choices old is h2 (to_second l windows choices log old is c.home_a.result c.home_b.result (M.now c.write_homes.new.m) c.home_a.ensures.place c.home_b.ensures.place first.done) in
    let others = c.heal_others.ensures.goes_on windows choices old is h (to_others l windows choices log old is c.home_b.result (M.now c.write_homes-2.new.m) c.home_b.ensures.place second.done) in
    record {
      any_moment = then_on M.moment M.left_since c.args.m.now c.write_homes-2.new.m c.heal_others.new.m (StaysShown l windows choices old)
          (then_on M.moment M.left_since c.args.m.now c.write_homes.new.m c.write_homes-2.new.m (StaysShown l windows choices old) first.any_moment second.any_moment) others.any_moment;
      done = others.done;
      never_lost = others.never_lost;
    }

pub returns-clause-shown : goal.returns-clause-shown
returns-clause-shown g c records h still given =
    let M = g.M.Machine in
    let l = c.args.l.now in let old = M.now c.args.m.now in
    let h2 = c.heal_others.ensures.mends.disk.trust.honest h in let h1 = c.write_homes-2.ensures.mends.disk.trust.honest h2 in
    let still_one = still_next old (M.now c.write_homes.new.m) (c.write_homes.ensures.keeps h1).windows still in
    c.heal_others.ensures.shown records old.image h (still_next (M.now c.write_homes.new.m) (M.now c.write_homes-2.new.m) (c.write_homes-2.ensures.keeps h2).windows still_one) given
    (showing_further l records old.image (c.home_b.result + l.pages) (home_b l l.pages) (M.now c.write_homes-2.new.m).image (λ page within before. omega (arith, c.home_b.ensures.place, within))
    (c.in_ok-write_homes-2.ensures.shown records old.image h2 still_one given (showing_further l records old.image (c.home_a.result + l.pages) c.home_b.result (M.now c.write_homes.new.m).image (λ page within before. no_home_between l c.home_a.result c.home_b.result page (home_a l page) c.home_a.ensures.place c.home_b.ensures.place within (inl refl) before) (c.in_ok-write_homes.ensures.shown records old.image h1 still given (showing_none l records old.image c.home_a.result c.home_a.ensures.place)))))

-- what is kept

pub returns-clause-keeps : goal.returns-clause-keeps
returns-clause-keeps g c h =
    let M = g.M.Machine in
    let l = c.args.l.now in
    let a = M.now c.args.m.now in let b = M.now c.write_homes.new.m in let d = M.now c.write_homes-2.new.m in let e = M.now c.heal_others.new.m in
    let at_d = c.heal_others.ensures.mends.disk.trust.honest h in
    let at_b = c.in_ok-write_homes-2.ensures.mends.disk.trust.honest at_d in
    keeps_on l a d e (keeps_on l a b d (c.write_homes.ensures.keeps at_b) (c.write_homes-2.ensures.keeps at_d)) (c.heal_others.ensures.keeps h)
