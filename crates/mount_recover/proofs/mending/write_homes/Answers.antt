use Rattle.std.proofs.Common.{◌≡◌, ◌+◌, ◌<◌, ◌≤◌, ℕ, None, subst, arith}
use Rattle.std.specs.Prelude.{MatchResult}
use Rattle.sector_disk.proofs.Moments.{started, then_on}
use Rattle.sector_disk.proofs.CallLaws.{heals_then, reads_as_heals, reads_none}
use Rattle.mount_recover.specs.Mending.{AreHomed, AreOfVolume, IsMending, StaysShown, logged_count}
use Rattle.mount_recover.specs.Steps.{MendsOn}
use Rattle.mount_recover.specs.Showing.{IsShowing, LosesNone}
use Rattle.mount_recover.proofs.CalmLaws.{still_next}
use Rattle.mount_recover.proofs.FaultLaws.{handed_so}
use Rattle.mount_recover.proofs.KeepsLaws.{keeps_home, keeps_none, keeps_on}
use Rattle.mount_recover.proofs.MendingLaws.{further, home_next, stays}
use Rattle.sector_disk.proofs.Holding.{wears_none}
use Rattle.mount_recover.proofs.HomesLaws.{count_next, count_within, homed_further}
use Rattle.mount_recover.proofs.ShowingLaws.{showing_further}
use Rattle.mount_recover.proofs.StepLaws.{mends_up}
use Rattle.mount_recover.proofs.mending.write_homes.Goals as goal

pub write_logged-requires-clause-home : goal.write_logged-requires-clause-home
write_logged-requires-clause-home g c = home_next c.args.l.now c.args.start c.loop-page.page c.requires.start

pub loop-page-init : goal.loop-page-init
loop-page-init g c =
    let M = g.M.Machine in
    let old = M.now c.args.m.now in let l = c.args.l.now in let log = c.args.log.now in record {
      disk = reads_as_heals (reads_none c.args.m.now (λ at h left. g.met.M.Machine.only_now c.args.m.now at h left));
      most = λ t. omega arith;
      grows = λ t. omega arith;
      keeps = λ h. keeps_none l old;
      homes = λ h at. homed_further l log c.args.start (c.args.start + 0) 0 old (λ page s within home before. omega (arith, before)) at;
      mending = λ windows choices first is h at. further l windows choices log first is c.args.start (c.args.start + 0) 0 old (λ page s within home before. omega (arith, before)) at;
      showing = λ records first h still given at. showing_further l records first c.args.start (c.args.start + 0) old.image (λ page within before. omega (arith, before)) at;
      moments = λ windows choices first is h at. started M.moment M.left_since c.args.m.now old (StaysShown l windows choices first) (λ left now. g.met.M.Machine.only_now c.args.m.now left h now)
          (stays l windows choices log first is c.args.start 0 old at old (wears_none old));
    }

pub loop-page-preserved : goal.loop-page-preserved
loop-page-preserved g c =
    let M = g.M.Machine in
    let old = M.now c.args.m.now in let l = c.args.l.now in let log = c.args.log.now in let so_far = c.loop-page.invariant in
    let mid = M.now c.loop-page.m in let new = M.now c.write_logged.new.m in
    let lt : c.loop-page.page < c.args.l.now.pages = omega (arith, c.loop-page-test.true, c.loop-page.auto.page-end, c.pages-page-end.ensures.value) in record {
      disk = heals_then {fault = None} so_far.disk c.in_ok-write_logged.ensures.mends.disk;
      most = λ t. omega (arith, so_far.most (c.write_logged.ensures.mends.disk.trust.tells t), c.write_logged.ensures.most t, count_next log c.loop-page.page);
      grows = λ t. omega (arith, so_far.grows (c.write_logged.ensures.mends.disk.trust.tells t), c.in_ok-write_logged.ensures.mends.grows t);
      keeps = λ h. keeps_on l old mid new (so_far.keeps (c.write_logged.ensures.mends.disk.trust.honest h)) (keeps_home l c.loop-page.page lt (c.args.start + c.loop-page.page) (home_next l c.args.start c.loop-page.page c.requires.start) mid new (c.write_logged.ensures.keeps h));
      homes = λ h at. homed_further l log (c.args.start + c.loop-page.page + 1) (c.args.start + (c.loop-page.page + 1)) 0 new (λ page s within home before. omega (arith, before)) (c.in_ok-write_logged.ensures.homes h (so_far.homes (c.write_logged.ensures.mends.disk.trust.honest h) at));
      mending = λ windows choices first is h at. further l windows choices log first is (c.args.start + c.loop-page.page + 1) (c.args.start + (c.loop-page.page + 1)) 0 new (λ page s within home before. omega (arith, before)) (c.in_ok-write_logged.ensures.goes_on windows choices first is h (so_far.mending windows choices first is (c.write_logged.ensures.mends.disk.trust.honest h) at)).done;
      showing = λ records first h still given at.
          let h1 = c.write_logged.ensures.mends.disk.trust.honest h in
          showing_further l records first (c.args.start + c.loop-page.page + 1) (c.args.start + (c.loop-page.page + 1)) new.image (λ page within before. omega (arith, before)) (c.in_ok-write_logged.ensures.shown records first h (still_next old mid (so_far.keeps h1).windows still) given (so_far.showing records first h1 still given at));
      moments = λ windows choices first is h at. let h1 = c.write_logged.ensures.mends.disk.trust.honest h in
          then_on M.moment M.left_since c.args.m.now c.loop-page.m c.write_logged.new.m (StaysShown l windows choices first) (so_far.moments windows choices first is h1 at)
          (c.write_logged.ensures.goes_on windows choices first is h (so_far.mending windows choices first is h1 at)).any_moment;
    }

pub returns-in_err-write_logged-clause-mends : goal.returns-in_err-write_logged-clause-mends
returns-in_err-write_logged-clause-mends g c =
    let so_far = c.loop-page.invariant in let failed = c.in_err-write_logged.ensures.mends in
    mends_up g.M.Machine (AreOfVolume c.args.l.now c.args.log.now) c.args.m.now c.write_logged.new.m c.from_residual.result c.in_err-write_logged.field-0.0 c.from_residual.ensures.1 (heals_then so_far.disk failed.disk) failed.load failed.lost

pub returns-clause-mends : goal.returns-clause-mends
returns-clause-mends g c = let so_far = c.loop-page.invariant in record { disk = so_far.disk; load = tt; lost = tt; grows = so_far.grows }

pub returns-in_err-write_logged-clause-keeps : goal.returns-in_err-write_logged-clause-keeps
returns-in_err-write_logged-clause-keeps g c h =
    let M = g.M.Machine in
    let l = c.args.l.now in let mid = M.now c.loop-page.m in let new = M.now c.write_logged.new.m in
    let lt : c.loop-page.page < c.args.l.now.pages = omega (arith, c.loop-page-test.true, c.loop-page.auto.page-end, c.pages-page-end.ensures.value) in
    keeps_on l (M.now c.args.m.now) mid new (c.loop-page.invariant.keeps (c.write_logged.ensures.mends.disk.trust.honest h)) (keeps_home l c.loop-page.page lt (c.args.start + c.loop-page.page) (home_next l c.args.start c.loop-page.page c.requires.start) mid new (c.write_logged.ensures.keeps h))

pub returns-in_err-write_logged-clause-goes_on : goal.returns-in_err-write_logged-clause-goes_on
returns-in_err-write_logged-clause-goes_on g c windows choices first is h at =
    let M = g.M.Machine in
    let l = c.args.l.now in let new = M.now c.write_logged.new.m in let so_far = c.loop-page.invariant in
    let h1 = c.write_logged.ensures.mends.disk.trust.honest h in
    let failed = c.in_err-write_logged.ensures.goes_on windows choices first is h (so_far.mending windows choices first is h1 at) in
    handed_so (λ r. MendsOn M l windows choices first (IsMending l windows choices c.args.log.now first is (c.args.start + l.pages) 0 new) c.args.m.now c.write_logged.new.m r)
    c.from_residual.result c.in_err-write_logged.field-0.0 c.from_residual.ensures.1
    (record {
      any_moment = then_on M.moment M.left_since c.args.m.now c.loop-page.m c.write_logged.new.m (StaysShown l windows choices first) (so_far.moments windows choices first is h1 at) failed.any_moment;
      done = tt;
      never_lost = failed.never_lost;
    })

pub returns-in_err-write_logged-clause-shown : goal.returns-in_err-write_logged-clause-shown
returns-in_err-write_logged-clause-shown g c records first h still given at =
    let M = g.M.Machine in
    let l = c.args.l.now in let so_far = c.loop-page.invariant in
    let h1 = c.write_logged.ensures.mends.disk.trust.honest h in
    handed_so (λ r. MatchResult r (λ _. (IsShowing l records first (c.args.start + l.pages) (M.now c.write_logged.new.m).image)) (LosesNone l records first))
    c.from_residual.result c.in_err-write_logged.field-0.0 c.from_residual.ensures.1
    (c.in_err-write_logged.ensures.shown records first h (still_next (M.now c.args.m.now) (M.now c.loop-page.m) (so_far.keeps h1).windows still) given (so_far.showing records first h1 still given at))

pub returns-in_err-write_logged-clause-most : goal.returns-in_err-write_logged-clause-most
returns-in_err-write_logged-clause-most g c t =
    let lt : c.loop-page.page < c.args.l.now.pages = omega (arith, c.loop-page-test.true, c.loop-page.auto.page-end, c.pages-page-end.ensures.value) in
    omega (arith, c.loop-page.invariant.most (c.write_logged.ensures.mends.disk.trust.tells t), c.write_logged.ensures.most t, count_next c.args.log.now c.loop-page.page, count_within c.args.log.now c.loop-page.page c.args.l.now.pages lt)

pub returns-clause-goes_on : goal.returns-clause-goes_on
returns-clause-goes_on g c windows choices first is h at =
    let M = g.M.Machine in
    let l = c.args.l.now in let log = c.args.log.now in
    let last : c.loop-page.page ≡ c.args.l.now.pages = omega (arith, c.loop-page-test.false, c.loop-page.auto.page-end, c.pages-page-end.ensures.value) in
    record {
      any_moment = c.loop-page.invariant.moments windows choices first is h at;
      done = subst (λ (k : ℕ). IsMending l windows choices log first is (c.args.start + k) 0 (M.now c.loop-page.m)) last (c.loop-page.invariant.mending windows choices first is h at);
      never_lost = tt;
    }

pub returns-clause-homes : goal.returns-clause-homes
returns-clause-homes g c h at =
    let M = g.M.Machine in
    let last : c.loop-page.page ≡ c.args.l.now.pages = omega (arith, c.loop-page-test.false, c.loop-page.auto.page-end, c.pages-page-end.ensures.value) in
    subst (λ (k : ℕ). AreHomed c.args.l.now c.args.log.now (c.args.start + k) 0 (M.now c.loop-page.m)) last (c.loop-page.invariant.homes h at)

pub returns-clause-most : goal.returns-clause-most
returns-clause-most g c t =
    let M = g.M.Machine in
    let last : c.loop-page.page ≡ c.args.l.now.pages = omega (arith, c.loop-page-test.false, c.loop-page.auto.page-end, c.pages-page-end.ensures.value) in
    subst (λ (k : ℕ). (M.ledger c.loop-page.m).written ≤ (M.ledger c.args.m.now).written + logged_count c.args.log.now k) last (c.loop-page.invariant.most t)

pub returns-clause-shown : goal.returns-clause-shown
returns-clause-shown g c records first h still given at =
    let M = g.M.Machine in
    let last : c.loop-page.page ≡ c.args.l.now.pages = omega (arith, c.loop-page-test.false, c.loop-page.auto.page-end, c.pages-page-end.ensures.value) in
    subst (λ (k : ℕ). IsShowing c.args.l.now records first (c.args.start + k) (M.now c.loop-page.m).image) last (c.loop-page.invariant.showing records first h still given at)
