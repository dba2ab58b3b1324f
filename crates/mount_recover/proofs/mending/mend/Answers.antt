use Rattle.std.proofs.Common.{inl, inr, ◌<◌, ◌≤◌, ℕ, arith}
use Rattle.std.proofs.lemmas.Result.{IfErr-weaker, err_from_is_err_and, on_ok_weaker}
use Rattle.mount_recover.proofs.HomesLaws.{both_rooted}
use Rattle.mount_recover.proofs.KeepsLaws.{keeps_on, keeps_roots}
use Rattle.sector_disk.proofs.CallLaws.{heals_then}
use Rattle.sector_disk.proofs.Moments.{then_on}
use Rattle.sector_disk.proofs.ResultLaws.{ok_as}
use Rattle.fsd_sound.specs.Homes.{HasBothHomes}
use Rattle.fsd_sound.specs.Lost.{LostIn}
use Rattle.log_thirds.specs.Append.{IsCalmNow}
use Rattle.mount_recover.specs.Finding.{IsExcuse}
use Rattle.mount_recover.specs.Mending.{AreOfAll, AreOfVolume, AreRoots, StaysShown}
use Rattle.mount_recover.specs.Showing.{HasNoRoot}
use Rattle.mount_recover.specs.Steps.{ShowOrAreLost}
use Rattle.mount_recover.proofs.CalmLaws.{excuse_loses, still_next}
use Rattle.mount_recover.proofs.FaultLaws.{by_end, lost_more}
use Rattle.mount_recover.proofs.ShowingLaws.{all_shown, roots_kept}
use Rattle.mount_recover.proofs.mending.mend.Goals as goal

pub returns-in_err-mend_pages : goal.returns-in_err-mend_pages
returns-in_err-mend_pages g c =
    let M = g.M.Machine in
    let failed = c.in_err-mend_pages.ensures in
    let p = err_from_is_err_and c.from_residual.result c.from_residual.ensures.1 in
    rw (p.1, p.2) (record {
      mends = record { disk = failed.mends.disk; load = failed.mends.load; lost = λ h. lost_more (AreOfVolume c.args.l.now c.args.log.now) (AreOfAll c.args.l.now c.args.log.now) (M.now c.mend_pages.new.m).image c.in_err-mend_pages.field-0.0 (λ a b are. inl are) (failed.mends.lost h); grows = tt };
      most = λ t. omega (arith, failed.most t);
      keeps = failed.keeps;
      homes = tt;
      goes_on = λ windows choices is h. record {
        any_moment = (failed.goes_on windows choices is h).any_moment;
        done = tt;
        never_lost = (failed.goes_on windows choices is h).never_lost;
      };
      shown = λ records h still given some. failed.shown records h still given;
    })

pub returns-clause-mends : goal.returns-clause-mends
returns-clause-mends g c =
    let M = g.M.Machine in
    record {
      disk = heals_then c.in_ok-mend_pages.ensures.mends.disk c.mend_roots.ensures.mends.disk;
      load = c.mend_roots.ensures.mends.load;
      lost = IfErr-weaker c.mend_roots.result (λ fault. M.honest c.mend_roots.new.m → LostIn AreRoots (M.now c.mend_roots.new.m).image fault) (λ fault. M.honest c.mend_roots.new.m → LostIn (AreOfAll c.args.l.now c.args.log.now) (M.now c.mend_roots.new.m).image fault)
          (λ fault lost h. lost_more AreRoots (AreOfAll c.args.l.now c.args.log.now) (M.now c.mend_roots.new.m).image fault (λ a b are. inr are) (lost h)) c.mend_roots.ensures.mends.lost;
      grows = on_ok_weaker {P = M.tells c.mend_roots.new.m → (M.ledger c.mend_pages.new.m).written ≤ (M.ledger c.mend_roots.new.m).written} {Q = M.tells c.mend_roots.new.m → (M.ledger c.args.m.now).written ≤ (M.ledger c.mend_roots.new.m).written} c.mend_roots.result (λ grows t. omega (arith, grows t, c.in_ok-mend_pages.ensures.mends.grows (c.mend_roots.ensures.mends.disk.trust.tells t))) c.mend_roots.ensures.mends.grows;
    }

pub returns-clause-most : goal.returns-clause-most
returns-clause-most g c t = omega (arith, c.mend_roots.ensures.most t, c.in_ok-mend_pages.ensures.most (c.mend_roots.ensures.mends.disk.trust.tells t))

pub returns-clause-keeps : goal.returns-clause-keeps
returns-clause-keeps g c h =
    let M = g.M.Machine in
    keeps_on c.args.l.now (M.now c.args.m.now) (M.now c.mend_pages.new.m) (M.now c.mend_roots.new.m) (c.mend_pages.ensures.keeps (c.mend_roots.ensures.mends.disk.trust.honest h))
    (keeps_roots c.args.l.now (M.now c.mend_pages.new.m) (M.now c.mend_roots.new.m) (c.mend_roots.ensures.keeps h))

pub returns-clause-homes : goal.returns-clause-homes
returns-clause-homes g c =
    let M = g.M.Machine in
    ok_as (M.honest c.mend_roots.new.m → (page : ℕ) → page < c.args.l.now.pages → HasBothHomes c.args.l.now (M.now c.mend_roots.new.m) page) c.mend_roots.result
    (λ h page lt. both_rooted c.args.l.now page (M.now c.mend_pages.new.m) (M.now c.mend_roots.new.m) (c.mend_roots.ensures.keeps h) (c.in_ok-mend_pages.ensures.homes (c.mend_roots.ensures.mends.disk.trust.honest h) page lt))

pub returns-clause-goes_on : goal.returns-clause-goes_on
returns-clause-goes_on g c windows choices is h =
    let M = g.M.Machine in
    let l = c.args.l.now in let log = c.args.log.now in
    let old = M.now c.args.m.now in
    let h1 = c.mend_roots.ensures.mends.disk.trust.honest h in
    let pages = c.in_ok-mend_pages.ensures.goes_on windows choices is h1 in
    let roots = c.mend_roots.ensures.goes_on windows choices log old is h pages.done in
    record {
      any_moment = then_on M.moment M.left_since c.args.m.now c.mend_pages.new.m c.mend_roots.new.m (StaysShown l windows choices old) pages.any_moment roots.any_moment;
      done = roots.done;
      never_lost = roots.never_lost;
    }

pub returns-clause-shown : goal.returns-clause-shown
returns-clause-shown g c records h still given =
    let M = g.M.Machine in
    let l = c.args.l.now in let log = c.args.log.now in let old = M.now c.args.m.now in let mid = M.now c.mend_pages.new.m in let new = M.now c.mend_roots.new.m in
    let h1 = c.mend_roots.ensures.mends.disk.trust.honest h in
    let shown = c.in_ok-mend_pages.ensures.shown records h1 still given in
    let still_mid = still_next old mid (c.mend_pages.ensures.keeps h1).windows still in
    by_end (ShowOrAreLost l records old.image new.image) (λ fault. M.honest c.mend_roots.new.m → IsCalmNow mid → (HasNoRoot mid.image → ⊥) → IsExcuse fault) c.mend_roots.result
    (λ x. all_shown l log records old mid shown new still_mid (c.mend_roots.ensures.keeps h).others)
    (λ fault excused some. excuse_loses l records old.image fault (excused h still_mid (λ none. some (roots_kept l log records old mid shown none)))) c.mend_roots.ensures.not_shown
