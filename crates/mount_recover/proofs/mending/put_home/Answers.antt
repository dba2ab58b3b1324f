use Rattle.std.proofs.Common.{◌<◌, ℕ, length, refl, ap, subst, arith}
use Rattle.sector_disk.specs.Image.{stand}
use Rattle.sector_disk.specs.Machine.{Holds, Ledger, Tears}
use Rattle.sector_disk.proofs.CallLaws.{writes_as_heals}
use Rattle.sector_disk.proofs.Moments.{leaves_more}
use Rattle.twin_home.proofs.WriteLaws.{torn_part}
use Rattle.mount_recover.specs.Mending.{StaysShown}
use Rattle.mount_recover.proofs.HomesLaws.{some_written}
use Rattle.mount_recover.proofs.KeepsLaws.{but_part}
use Rattle.mount_recover.proofs.MendingLaws.{home_inside, logged_same, one_sector, put_next, put_stays}
use Rattle.mount_recover.proofs.ShowingLaws.{put_here, put_others, showing_put}
use Rattle.mount_recover.proofs.mending.put_home.Goals as goal

pub write_sectors-requires-clause-in_range : goal.write_sectors-requires-clause-in_range
write_sectors-requires-clause-in_range g c = omega (arith, one_sector c.args.b.now c.told-b, home_inside c.args.l.now c.args.page c.args.place c.requires.planned c.requires.page c.requires.home, c.requires.room)

pub returns-in-Ok-clause-writes : goal.returns-in-Ok-clause-writes
returns-in-Ok-clause-writes g c = record { disk = writes_as_heals c.in-Ok.ensures.writes; load = tt; never_lost = tt }

pub returns-in-Ok-clause-keeps : goal.returns-in-Ok-clause-keeps
returns-in-Ok-clause-keeps g c h =
    let M = g.M.Machine in
    let old = M.now c.args.m.now in let new = M.now c.write_sectors.new.m in
    but_part c.args.place c.args.b.now old new (torn_part c.args.place c.args.b.now c.told-b old new (c.write_sectors.ensures.writes.exit h))

pub returns-in-Ok-clause-goes_on : goal.returns-in-Ok-clause-goes_on
returns-in-Ok-clause-goes_on g c windows choices log first is h some at =
    let M = g.M.Machine in
    let l = c.args.l.now in let now = M.now c.args.m.now in let new = M.now c.write_sectors.new.m in
    record {
      any_moment = leaves_more M.moment M.left_since c.args.m.now c.write_sectors.new.m (Tears c.args.place c.args.b.now now) (StaysShown l windows choices first)
          (λ left torn. put_stays l windows choices log first is c.args.place 0 now at c.args.page c.requires.page c.args.place c.requires.home c.args.b.now c.told-b some left (torn_part c.args.place c.args.b.now c.told-b now left torn)) (c.write_sectors.ensures.writes.any_moment h);
      done = λ logged. put_next l windows choices log first is c.args.place 0 now at c.args.page c.requires.page c.args.place c.requires.home c.args.b.now c.told-b some refl
          (logged_same l windows choices log first is c.args.page c.requires.page c.args.b.now logged) new
          (subst (λ (k : ℕ). Holds now (stand now.image c.args.place c.args.b.now k) new) (one_sector c.args.b.now c.told-b) (c.in-Ok.ensures.done h));
      never_lost = tt;
    }

pub returns-in-Err-clause-writes : goal.returns-in-Err-clause-writes
returns-in-Err-clause-writes g c = record { disk = writes_as_heals c.in-Err.ensures.writes; load = tt; never_lost = tt }

pub returns-in-Err-clause-keeps : goal.returns-in-Err-clause-keeps
returns-in-Err-clause-keeps g c h =
    let M = g.M.Machine in
    let old = M.now c.args.m.now in let new = M.now c.write_sectors.new.m in
    but_part c.args.place c.args.b.now old new (torn_part c.args.place c.args.b.now c.told-b old new (c.write_sectors.ensures.writes.exit h))

pub returns-in-Err-clause-goes_on : goal.returns-in-Err-clause-goes_on
returns-in-Err-clause-goes_on g c windows choices log first is h some at =
    let M = g.M.Machine in
    let l = c.args.l.now in let now = M.now c.args.m.now in
    record {
      any_moment = leaves_more M.moment M.left_since c.args.m.now c.write_sectors.new.m (Tears c.args.place c.args.b.now now) (StaysShown l windows choices first)
          (λ left torn. put_stays l windows choices log first is c.args.place 0 now at c.args.page c.requires.page c.args.place c.requires.home c.args.b.now c.told-b some left (torn_part c.args.place c.args.b.now c.told-b now left torn)) (c.write_sectors.ensures.writes.any_moment h);
      done = tt;
      never_lost = tt;
    }

pub returns-in-Ok-clause-home : goal.returns-in-Ok-clause-home
returns-in-Ok-clause-home g c h =
    let M = g.M.Machine in
    let now = M.now c.args.m.now in let new = M.now c.write_sectors.new.m in
    let sized = g.met.M.Machine.sized c.args.m.now (c.write_sectors.ensures.writes.trust.honest h) in
    let room : c.args.place < length now.image = omega (arith, sized, home_inside c.args.l.now c.args.page c.args.place c.requires.planned c.requires.page c.requires.home, c.requires.room) in
    some_written now new c.args.place c.args.b.now room c.told-b (subst (λ (k : ℕ). Holds now (stand now.image c.args.place c.args.b.now k) new) (one_sector c.args.b.now c.told-b) (c.in-Ok.ensures.done h))

pub returns-in-Ok-clause-shown : goal.returns-in-Ok-clause-shown
returns-in-Ok-clause-shown g c records first h still logged at =
    let M = g.M.Machine in
    let now = M.now c.args.m.now in let new = M.now c.write_sectors.new.m in
    let sized = g.met.M.Machine.sized c.args.m.now (c.write_sectors.ensures.writes.trust.honest h) in
    let room : c.args.place < length now.image = omega (arith, sized, home_inside c.args.l.now c.args.page c.args.place c.requires.planned c.requires.page c.requires.home, c.requires.room) in
    let holds = subst (λ (k : ℕ). Holds now (stand now.image c.args.place c.args.b.now k) new) (one_sector c.args.b.now c.told-b) (c.in-Ok.ensures.done h) in
    showing_put c.args.l.now records first c.args.page c.requires.page c.args.place c.requires.home now.image at new.image c.args.b.now logged
    (put_others now new still c.args.place c.args.b.now c.told-b holds) (put_here now new still c.args.place c.args.b.now c.told-b holds room)

pub returns-in-Ok-clause-counts : goal.returns-in-Ok-clause-counts
returns-in-Ok-clause-counts g c = record {
  most = λ t. omega (arith, ap (λ (x : Ledger). x.written) (c.in-Ok.ensures.counted t), one_sector c.args.b.now c.told-b);
  grows = λ t. omega (arith, ap (λ (x : Ledger). x.written) (c.in-Ok.ensures.counted t));
}

pub returns-in-Err-clause-counts : goal.returns-in-Err-clause-counts
returns-in-Err-clause-counts g c = record { most = λ t. omega (arith, ap (λ (x : Ledger). x.written) (c.in-Err.ensures.counted_err t)); grows = tt }
