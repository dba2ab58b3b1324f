use Rattle.std.proofs.Common.{◌<◌, length, sym, subst, arith}
use Rattle.volume_layout.proofs.RootLaws.{planned_bounds}
use Rattle.sector_disk.proofs.CallLaws.{heals_told, writes_as_heals}
use Rattle.sector_disk.proofs.Moments.{leaves_more}
use Rattle.volume_layout.specs.Root.{root_bytes}
use Rattle.twin_home.specs.Heal.{HealsRoots}
use Rattle.mount_recover.specs.Mending.{StaysShown, AreRoots}
use Rattle.mount_recover.specs.Finding.{IsExcuse}
use Rattle.mount_recover.proofs.CalmLaws.{roots_lose}
use Rattle.mount_recover.proofs.FaultLaws.{load_excused, load_lost, load_not_lost, is_load, load_told, roots_serve}
use Rattle.mount_recover.proofs.KeepsLaws.{but_roots}
use Rattle.mount_recover.proofs.MendingLaws.{roots_stay, roots_done, narrow, stays_show}
use Rattle.mount_recover.proofs.mending.mend_roots.Goals as goal

pub returns-in-Ok-clause-mends : goal.returns-in-Ok-clause-mends
returns-in-Ok-clause-mends g c = record { disk = writes_as_heals c.in-Ok.ensures.writes; load = tt; lost = tt; grows = λ t. omega (arith, c.in-Ok.ensures.counted t) }

pub returns-in-Err-clause-mends : goal.returns-in-Err-clause-mends
returns-in-Err-clause-mends g c = record {
  disk = heals_told (load_told c.in-Err.fault c.from.result c.from.ensures) (writes_as_heals c.in-Err.ensures.writes);
  load = is_load c.in-Err.fault c.from.result c.from.ensures;
  lost = λ h. load_lost _ AreRoots (g.M.Machine.now c.heal_root.new.m).image c.in-Err.fault c.from.result c.from.ensures (λ a b are. are) (c.in-Err.ensures.lost h);
  grows = tt;
}

pub returns-in-Ok-clause-keeps : goal.returns-in-Ok-clause-keeps
returns-in-Ok-clause-keeps g c h =
    let M = g.M.Machine in
    let run = c.heal_root.ensures.writes.any_moment h in
    but_roots (root_bytes c.args.l.now) (M.now c.args.m.now) (M.now c.heal_root.new.m) (run.each (M.now c.heal_root.new.m) (g.met.M.Machine.counts_now c.heal_root.new.m (M.moment c.args.m.now) h run.later))

pub returns-in-Err-clause-keeps : goal.returns-in-Err-clause-keeps
returns-in-Err-clause-keeps g c h =
    let M = g.M.Machine in
    let run = c.heal_root.ensures.writes.any_moment h in
    but_roots (root_bytes c.args.l.now) (M.now c.args.m.now) (M.now c.heal_root.new.m) (run.each (M.now c.heal_root.new.m) (g.met.M.Machine.counts_now c.heal_root.new.m (M.moment c.args.m.now) h run.later))

pub returns-in-Ok-clause-goes_on : goal.returns-in-Ok-clause-goes_on
returns-in-Ok-clause-goes_on g c windows choices log first is h at =
    let M = g.M.Machine in
    let l = c.args.l.now in let now = M.now c.args.m.now in
    record {
      any_moment = leaves_more M.moment M.left_since c.args.m.now c.heal_root.new.m (HealsRoots (root_bytes l) now) (StaysShown l windows choices first) (λ left roots. roots_stay l windows choices log first is now at left roots) (c.heal_root.ensures.writes.any_moment h);
      done = roots_done l windows choices log first is now at c.in-Ok.field-0 (M.now c.heal_root.new.m) (c.in-Ok.ensures.done h);
      never_lost = tt;
    }

pub returns-in-Err-clause-goes_on : goal.returns-in-Err-clause-goes_on
returns-in-Err-clause-goes_on g c windows choices log first is h at =
    let M = g.M.Machine in
    let l = c.args.l.now in let now = M.now c.args.m.now in let new = M.now c.heal_root.new.m in
    let run = c.heal_root.ensures.writes.any_moment h in
    let stays = roots_stay l windows choices log first is now at new (run.each new (g.met.M.Machine.counts_now c.heal_root.new.m (M.moment c.args.m.now) h run.later)) in
    record {
      any_moment = leaves_more M.moment M.left_since c.args.m.now c.heal_root.new.m (HealsRoots (root_bytes l) now) (StaysShown l windows choices first) (λ left roots. roots_stay l windows choices log first is now at left roots) run;
      done = tt;
      never_lost = load_not_lost AreRoots new.image c.in-Err.fault c.from.result c.from.ensures (roots_serve l windows (narrow l windows choices log first is) choices new.image (stays_show l windows choices log first is new stays)) (c.in-Err.ensures.lost h);
    }

pub returns-in-Err-clause-not_shown : goal.returns-in-Err-clause-not_shown
returns-in-Err-clause-not_shown g c h still some =
    let M = g.M.Machine in
    let run = c.heal_root.ensures.writes.any_moment h in
    let sized = g.met.M.Machine.sized c.args.m.now (c.heal_root.ensures.writes.trust.honest h) in
    let bounds = planned_bounds c.args.l.now c.requires.planned in
    let room : 4 < length (M.now c.args.m.now).image = omega (arith, sized, bounds.third_least, bounds.sectors_least, c.requires.room) in
    subst IsExcuse (sym c.from.ensures) (load_excused c.in-Err.fault
    (roots_lose (root_bytes c.args.l.now) (M.now c.args.m.now) (M.now c.heal_root.new.m) room still (run.each (M.now c.heal_root.new.m) (g.met.M.Machine.counts_now c.heal_root.new.m (M.moment c.args.m.now) h run.later)) some c.in-Err.fault (c.in-Err.ensures.lost h)))
