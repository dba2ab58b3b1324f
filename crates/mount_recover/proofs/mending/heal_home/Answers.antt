use Rattle.std.proofs.Common.{◌≤◌, length, sym, ap, subst, arith}
use Rattle.sector_disk.specs.Machine.{Ledger}
use Rattle.volume_layout.proofs.RootLaws.{planned_bounds}
use Rattle.sector_disk.proofs.CallLaws.{heals_told, writes_as_heals}
use Rattle.sector_disk.proofs.Moments.{leaves_more}
use Rattle.twin_home.specs.Heal.{Heals}
use Rattle.volume_layout.specs.Layout.{home_a, home_b}
use Rattle.fsd_sound.specs.Lost.{AreHomes}
use Rattle.mount_recover.specs.Mending.{StaysShown}
use Rattle.mount_recover.specs.Showing.{LosesHome}
use Rattle.mount_recover.proofs.CalmLaws.{heal_changes, heal_loses}
use Rattle.mount_recover.proofs.FaultLaws.{cause_excused, homes_serve, is_load, load_lost, load_told}
use Rattle.mount_recover.proofs.HomesLaws.{both_healed}
use Rattle.mount_recover.proofs.KeepsLaws.{but_heals}
use Rattle.mount_recover.proofs.MendingLaws.{heals_stay, heals_next, narrow, stays_show}
use Rattle.mount_recover.proofs.mending.heal_home.Goals as goal

pub returns-in-Ok-clause-mends : goal.returns-in-Ok-clause-mends
returns-in-Ok-clause-mends g c = record { disk = writes_as_heals c.in-Ok.ensures.writes; load = tt; lost = tt; grows = λ t. omega (arith, ap (λ (x : Ledger). x.written) (c.in-Ok.ensures.healed.counted t)) }

pub returns-in-Err-clause-mends : goal.returns-in-Err-clause-mends
returns-in-Err-clause-mends g c = record {
  disk = heals_told (load_told c.in-Err.fault c.from.result c.from.ensures) (writes_as_heals c.in-Err.ensures.writes);
  load = is_load c.in-Err.fault c.from.result c.from.ensures;
  lost = λ h. load_lost _ (AreHomes c.args.l.now) (g.M.Machine.now c.heal_page.new.m).image c.in-Err.fault c.from.result c.from.ensures (λ a b are. record { page = c.args.page; within = c.requires.page; homes = record { first = are.0; second = are.1 } }) (c.in-Err.ensures.failed.lost h);
  grows = tt;
}

pub returns-in-Ok-clause-keeps : goal.returns-in-Ok-clause-keeps
returns-in-Ok-clause-keeps g c h = let M = g.M.Machine in but_heals (home_a c.args.l.now c.args.page) (home_b c.args.l.now c.args.page) (M.now c.args.m.now) (M.now c.heal_page.new.m) (c.heal_page.ensures.writes.exit h)

pub returns-in-Err-clause-keeps : goal.returns-in-Err-clause-keeps
returns-in-Err-clause-keeps g c h = let M = g.M.Machine in but_heals (home_a c.args.l.now c.args.page) (home_b c.args.l.now c.args.page) (M.now c.args.m.now) (M.now c.heal_page.new.m) (c.heal_page.ensures.writes.exit h)

pub returns-in-Ok-clause-goes_on : goal.returns-in-Ok-clause-goes_on
returns-in-Ok-clause-goes_on g c windows choices log first is h at =
    let M = g.M.Machine in
    let l = c.args.l.now in let now = M.now c.args.m.now in
    record {
      any_moment = leaves_more M.moment M.left_since c.args.m.now c.heal_page.new.m (Heals (home_a l c.args.page) (home_b l c.args.page) now) (StaysShown l windows choices first)
          (λ left heals. heals_stay l windows choices log first is (home_b l l.pages) c.args.page now at c.args.page c.requires.page left heals) (c.heal_page.ensures.writes.any_moment h);
      done = λ none. heals_next l windows choices log first is (home_b l l.pages) c.args.page now at c.requires.page none c.in-Ok.field-0 (M.now c.heal_page.new.m) (c.in-Ok.ensures.healed.done h);
      never_lost = tt;
    }

pub returns-in-Err-clause-goes_on : goal.returns-in-Err-clause-goes_on
returns-in-Err-clause-goes_on g c windows choices log first is h at =
    let M = g.M.Machine in
    let l = c.args.l.now in let now = M.now c.args.m.now in let new = M.now c.heal_page.new.m in
    let stays = heals_stay l windows choices log first is (home_b l l.pages) c.args.page now at c.args.page c.requires.page new (c.heal_page.ensures.writes.exit h) in
    let told = returns-in-Err-clause-mends g c in
    record {
      any_moment = leaves_more M.moment M.left_since c.args.m.now c.heal_page.new.m (Heals (home_a l c.args.page) (home_b l c.args.page) now) (StaysShown l windows choices first)
          (λ left heals. heals_stay l windows choices log first is (home_b l l.pages) c.args.page now at c.args.page c.requires.page left heals) (c.heal_page.ensures.writes.any_moment h);
      done = tt;
      never_lost = cause_excused (AreHomes l) new.image c.from.result (homes_serve l windows (narrow l windows choices log first is) choices new.image (stays_show l windows choices log first is new stays)) told.load (told.lost h);
    }

pub returns-in-Ok-clause-shown : goal.returns-in-Ok-clause-shown
returns-in-Ok-clause-shown g c h still =
    let M = g.M.Machine in
    let sized = g.met.M.Machine.sized c.args.m.now (c.heal_page.ensures.writes.trust.honest h) in
    let bounds = planned_bounds c.args.l.now c.requires.planned in
    let long : home_b c.args.l.now c.args.l.now.pages ≤ length (M.now c.args.m.now).image = omega (arith, sized, bounds.third_least, bounds.sectors_least, c.requires.room) in
    heal_changes c.args.l.now c.args.page c.requires.page (M.now c.args.m.now) (M.now c.heal_page.new.m) still long c.in-Ok.field-0 (c.in-Ok.ensures.healed.done h)

pub returns-in-Err-clause-shown : goal.returns-in-Err-clause-shown
returns-in-Err-clause-shown g c h still =
    let M = g.M.Machine in
    let sized = g.met.M.Machine.sized c.args.m.now (c.heal_page.ensures.writes.trust.honest h) in
    let bounds = planned_bounds c.args.l.now c.requires.planned in
    let long : home_b c.args.l.now c.args.l.now.pages ≤ length (M.now c.args.m.now).image = omega (arith, sized, bounds.third_least, bounds.sectors_least, c.requires.room) in
    subst (LosesHome c.args.l.now c.args.page (M.now c.args.m.now).image) (sym c.from.ensures)
    (heal_loses c.args.l.now c.args.page c.requires.page (M.now c.args.m.now) (M.now c.heal_page.new.m) still long (c.heal_page.ensures.writes.exit h) c.in-Err.fault (c.in-Err.ensures.failed.lost h))

pub returns-in-Ok-clause-homes : goal.returns-in-Ok-clause-homes
returns-in-Ok-clause-homes g c h =
    let M = g.M.Machine in
    let sized = g.met.M.Machine.sized c.args.m.now (c.heal_page.ensures.writes.trust.honest h) in
    let bounds = planned_bounds c.args.l.now c.requires.planned in
    let long : home_b c.args.l.now c.args.l.now.pages ≤ length (M.now c.args.m.now).image = omega (arith, sized, bounds.third_least, bounds.sectors_least, c.requires.room) in
    both_healed c.args.l.now c.args.page (M.now c.args.m.now) (M.now c.heal_page.new.m) c.requires.page long c.in-Ok.field-0 (c.in-Ok.ensures.healed.done h)
