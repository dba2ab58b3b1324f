use Rattle.std.proofs.Common.{◌≡◌, ◌+◌, ◌<◌, ◌≤◌, ℕ, None, subst, arith}
use Rattle.std.specs.Prelude.{MatchResult}
use Rattle.volume_layout.specs.Layout.{home_b}
use Rattle.sector_disk.proofs.Moments.{started, then_on}
use Rattle.sector_disk.proofs.CallLaws.{heals_then, reads_as_heals, reads_none}
use Rattle.fsd_sound.specs.Lost.{AreHomes}
use Rattle.mount_recover.specs.Mending.{AreHomed, IsMending, StaysShown, logged_count}
use Rattle.mount_recover.specs.Steps.{MendsOn}
use Rattle.mount_recover.specs.Showing.{IsShowing, LosesNone}
use Rattle.mount_recover.proofs.CalmLaws.{still_next}
use Rattle.mount_recover.proofs.FaultLaws.{handed_so}
use Rattle.mount_recover.proofs.KeepsLaws.{keeps_none, keeps_on}
use Rattle.mount_recover.proofs.MendingLaws.{stays}
use Rattle.sector_disk.proofs.Holding.{wears_none}
use Rattle.mount_recover.proofs.HomesLaws.{count_next, count_within_rest}
use Rattle.mount_recover.proofs.StepLaws.{mends_up}
use Rattle.mount_recover.proofs.mending.heal_others.Goals as goal

pub loop-page-init : goal.loop-page-init
loop-page-init g c =
    let M = g.M.Machine in
    let old = M.now c.args.m.now in let l = c.args.l.now in let log = c.args.log.now in record {
      disk = reads_as_heals (reads_none c.args.m.now (λ at h left. g.met.M.Machine.only_now c.args.m.now at h left));
      most = λ t. omega arith;
      grows = λ t. omega arith;
      keeps = λ h. keeps_none l old;
      homes = λ h at. at;
      mending = λ windows choices first is h at. at;
      showing = λ records first h still given at. at;
      moments = λ windows choices first is h at. started M.moment M.left_since c.args.m.now old (StaysShown l windows choices first) (λ left now. g.met.M.Machine.only_now c.args.m.now left h now)
          (stays l windows choices log first is (home_b c.args.l.now c.args.l.now.pages) 0 old at old (wears_none old));
    }

pub loop-page-preserved : goal.loop-page-preserved
loop-page-preserved g c =
    let M = g.M.Machine in
    let old = M.now c.args.m.now in let l = c.args.l.now in let log = c.args.log.now in let so_far = c.loop-page.invariant in
    let mid = M.now c.loop-page.m in let new = M.now c.heal_other.new.m in
    let lt : c.loop-page.page < c.args.l.now.pages = omega (arith, c.loop-page-test.true, c.loop-page.auto.page-end, c.pages-page-end.ensures.value) in record {
      disk = heals_then {fault = None} so_far.disk c.in_ok-heal_other.ensures.mends.disk;
      most = λ t. omega (arith, so_far.most (c.heal_other.ensures.mends.disk.trust.tells t), c.heal_other.ensures.most t, count_next log c.loop-page.page);
      grows = λ t. omega (arith, so_far.grows (c.heal_other.ensures.mends.disk.trust.tells t), c.in_ok-heal_other.ensures.mends.grows t);
      keeps = λ h. keeps_on l old mid new (so_far.keeps (c.heal_other.ensures.mends.disk.trust.honest h)) (c.heal_other.ensures.keeps h);
      homes = λ h at. (c.in_ok-heal_other.ensures.homes h (so_far.homes (c.heal_other.ensures.mends.disk.trust.honest h) at));
      mending = λ windows choices first is h at. (c.in_ok-heal_other.ensures.goes_on windows choices first is h (so_far.mending windows choices first is (c.heal_other.ensures.mends.disk.trust.honest h) at)).done;
      showing = λ records first h still given at.
          let h1 = c.heal_other.ensures.mends.disk.trust.honest h in
          (c.in_ok-heal_other.ensures.shown records first h (still_next old mid (so_far.keeps h1).windows still) given (so_far.showing records first h1 still given at));
      moments = λ windows choices first is h at. let h1 = c.heal_other.ensures.mends.disk.trust.honest h in
          then_on M.moment M.left_since c.args.m.now c.loop-page.m c.heal_other.new.m (StaysShown l windows choices first) (so_far.moments windows choices first is h1 at)
          (c.heal_other.ensures.goes_on windows choices first is h (so_far.mending windows choices first is h1 at)).any_moment;
    }

pub returns-in_err-heal_other-clause-mends : goal.returns-in_err-heal_other-clause-mends
returns-in_err-heal_other-clause-mends g c =
    let so_far = c.loop-page.invariant in let failed = c.in_err-heal_other.ensures.mends in
    mends_up g.M.Machine (AreHomes c.args.l.now) c.args.m.now c.heal_other.new.m c.from_residual.result c.in_err-heal_other.field-0.0 c.from_residual.ensures.1 (heals_then so_far.disk failed.disk) failed.load failed.lost

pub returns-clause-mends : goal.returns-clause-mends
returns-clause-mends g c = let so_far = c.loop-page.invariant in record { disk = so_far.disk; load = tt; lost = tt; grows = so_far.grows }

pub returns-in_err-heal_other-clause-keeps : goal.returns-in_err-heal_other-clause-keeps
returns-in_err-heal_other-clause-keeps g c h =
    let M = g.M.Machine in
    let l = c.args.l.now in let mid = M.now c.loop-page.m in let new = M.now c.heal_other.new.m in
    let lt : c.loop-page.page < c.args.l.now.pages = omega (arith, c.loop-page-test.true, c.loop-page.auto.page-end, c.pages-page-end.ensures.value) in
    keeps_on l (M.now c.args.m.now) mid new (c.loop-page.invariant.keeps (c.heal_other.ensures.mends.disk.trust.honest h)) (c.heal_other.ensures.keeps h)

pub returns-in_err-heal_other-clause-goes_on : goal.returns-in_err-heal_other-clause-goes_on
returns-in_err-heal_other-clause-goes_on g c windows choices first is h at =
    let M = g.M.Machine in
    let l = c.args.l.now in let new = M.now c.heal_other.new.m in let so_far = c.loop-page.invariant in
    let h1 = c.heal_other.ensures.mends.disk.trust.honest h in
    let failed = c.in_err-heal_other.ensures.goes_on windows choices first is h (so_far.mending windows choices first is h1 at) in
    handed_so (λ r. MendsOn M l windows choices first (IsMending l windows choices c.args.log.now first is (home_b l l.pages) l.pages new) c.args.m.now c.heal_other.new.m r)
    c.from_residual.result c.in_err-heal_other.field-0.0 c.from_residual.ensures.1
    (record {
      any_moment = then_on M.moment M.left_since c.args.m.now c.loop-page.m c.heal_other.new.m (StaysShown l windows choices first) (so_far.moments windows choices first is h1 at) failed.any_moment;
      done = tt;
      never_lost = failed.never_lost;
    })

pub returns-in_err-heal_other-clause-shown : goal.returns-in_err-heal_other-clause-shown
returns-in_err-heal_other-clause-shown g c records first h still given at =
    let M = g.M.Machine in
    let l = c.args.l.now in let so_far = c.loop-page.invariant in
    let h1 = c.heal_other.ensures.mends.disk.trust.honest h in
    handed_so (λ r. MatchResult r (λ _. (IsShowing l records first (home_b l l.pages) (M.now c.heal_other.new.m).image)) (LosesNone l records first))
    c.from_residual.result c.in_err-heal_other.field-0.0 c.from_residual.ensures.1
    (c.in_err-heal_other.ensures.shown records first h (still_next (M.now c.args.m.now) (M.now c.loop-page.m) (so_far.keeps h1).windows still) given (so_far.showing records first h1 still given at))

pub returns-in_err-heal_other-clause-most : goal.returns-in_err-heal_other-clause-most
returns-in_err-heal_other-clause-most g c t =
    let lt : c.loop-page.page < c.args.l.now.pages = omega (arith, c.loop-page-test.true, c.loop-page.auto.page-end, c.pages-page-end.ensures.value) in
    omega (arith, c.loop-page.invariant.most (c.heal_other.ensures.mends.disk.trust.tells t), c.heal_other.ensures.most t, count_next c.args.log.now c.loop-page.page, count_within_rest c.args.log.now c.loop-page.page c.args.l.now.pages lt)

pub returns-clause-goes_on : goal.returns-clause-goes_on
returns-clause-goes_on g c windows choices first is h at =
    let M = g.M.Machine in
    let l = c.args.l.now in let log = c.args.log.now in
    let last : c.loop-page.page ≡ c.args.l.now.pages = omega (arith, c.loop-page-test.false, c.loop-page.auto.page-end, c.pages-page-end.ensures.value) in
    record {
      any_moment = c.loop-page.invariant.moments windows choices first is h at;
      done = subst (λ (k : ℕ). IsMending l windows choices log first is (home_b l l.pages) k (M.now c.loop-page.m)) last (c.loop-page.invariant.mending windows choices first is h at);
      never_lost = tt;
    }

pub returns-clause-homes : goal.returns-clause-homes
returns-clause-homes g c h at =
    let M = g.M.Machine in
    let last : c.loop-page.page ≡ c.args.l.now.pages = omega (arith, c.loop-page-test.false, c.loop-page.auto.page-end, c.pages-page-end.ensures.value) in
    subst (λ (k : ℕ). AreHomed c.args.l.now c.args.log.now (home_b c.args.l.now c.args.l.now.pages) k (M.now c.loop-page.m)) last (c.loop-page.invariant.homes h at)

pub returns-clause-most : goal.returns-clause-most
returns-clause-most g c t =
    let M = g.M.Machine in
    let last : c.loop-page.page ≡ c.args.l.now.pages = omega (arith, c.loop-page-test.false, c.loop-page.auto.page-end, c.pages-page-end.ensures.value) in
    subst (λ (k : ℕ). (M.ledger c.loop-page.m).written + logged_count c.args.log.now k ≤ (M.ledger c.args.m.now).written + k) last (c.loop-page.invariant.most t)

pub returns-clause-shown : goal.returns-clause-shown
returns-clause-shown g c records first h still given at = c.loop-page.invariant.showing records first h still given at
