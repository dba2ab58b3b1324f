use Rattle.std.proofs.Common.{◌≡◌, ◌+◌, ◌<◌, ℕ, refl, subst, arith}
use Rattle.volume_layout.specs.Layout.{home_a, home_b}
use Rattle.volume_layout.proofs.RootLaws.{planned_bounds}
use Rattle.sector_disk.specs.Calls.{load_failed_at}
use Rattle.sector_disk.proofs.CallLaws.{told_up, writes_then, writes_told}
use Rattle.twin_home.specs.Twins.{HomesStand}
use Rattle.twin_home.proofs.TwinsLaws.{healed_stand, homes_counted, homes_next, pages_next, pages_within, wrote_on}
use Rattle.twin_home.proofs.twins.heal_pages.Goals as goal

pub loop-page-preserved : goal.loop-page-preserved
loop-page-preserved g c =
    let M = g.M.Machine in
    let l = c.args.l.now in let page = c.loop-page.page in
    let old = M.now c.args.m.now in let mid = M.now c.loop-page.m in let new = M.now c.heal_page.new.m in
    let so_far = c.loop-page.invariant in let one = c.in_ok-count.ensures in
    let lt : page < l.pages = omega (arith, c.loop-page-test.true, c.loop-page.auto.page-end, c.pages-page-end.ensures.value) in
    record {
      disk = writes_then so_far.disk one.writes
          (λ h left heals. pages_within l page (page + 1) old left (omega arith) heals)
          (λ h left heals. pages_next l page (page + 1) old mid left refl (so_far.disk.exit (one.writes.trust.honest h)) heals);
      few = omega (arith, so_far.few, one.healed.few);
      counted = λ t. wrote_on _ _ _ _ _ _ (so_far.counted (one.writes.trust.tells t)) (one.healed.counted t) refl;
      healed = λ h. let h1 = one.writes.trust.honest h in
          homes_counted l page (page + 1) c.loop-page.count c.in_ok-count.field-0 (c.loop-page.count + c.in_ok-count.field-0) old mid new refl lt refl (so_far.disk.exit h1) (so_far.healed h1) (one.healed.done h);
      mended = λ h. let h1 = one.writes.trust.honest h in
          let bounds = planned_bounds l c.pages-page-end.ensures.planned in
          let sized = g.met.M.Machine.sized c.loop-page.m h1 in
          let room = so_far.disk.uses.sectors in
          homes_next l page (page + 1) mid new refl (one.writes.exit h) (so_far.mended h1)
          (healed_stand (home_a l page) (home_b l page) c.in_ok-count.field-0 mid new (one.healed.done h)
          (omega (arith, lt, sized, room, bounds.sectors_least, c.requires.room)) (omega (arith, lt, sized, room, bounds.sectors_least, c.requires.room)));
    }

pub returns-in_err-count-clause-writes : goal.returns-in_err-count-clause-writes
returns-in_err-count-clause-writes g c =
    let M = g.M.Machine in
    let l = c.args.l.now in let page = c.loop-page.page in
    let old = M.now c.args.m.now in let mid = M.now c.loop-page.m in
    let lt : page < l.pages = omega (arith, c.loop-page-test.true, c.loop-page.auto.page-end, c.pages-page-end.ensures.value) in
    let so_far = c.loop-page.invariant in let one = c.in_err-count.ensures in
    writes_told (told_up load_failed_at c.from_residual.result c.in_err-count.field-0.0 c.from_residual.ensures.1)
    (writes_then so_far.disk one.writes
    (λ h left heals. pages_within l page l.pages old left (omega (arith, lt)) heals)
    (λ h left heals. pages_within l (page + 1) l.pages old left (omega (arith, lt)) (pages_next l page (page + 1) old mid left refl (so_far.disk.exit (one.writes.trust.honest h)) heals)))

pub returns-clause-mended : goal.returns-clause-mended
returns-clause-mended g c h =
    let M = g.M.Machine in
    let last : c.loop-page.page ≡ c.args.l.now.pages = omega (arith, c.loop-page-test.false, c.loop-page.auto.page-end, c.pages-page-end.ensures.value) in
    subst (λ (n : ℕ). HomesStand c.args.l.now n (M.now c.loop-page.m)) last (c.loop-page.invariant.mended h)
