use Rattle.std.proofs.Common.{◌+◌, refl, arith}
use Rattle.volume_layout.proofs.RootLaws.{planned_bounds}
use Rattle.sector_disk.specs.Calls.{load_failed_at}
use Rattle.sector_disk.proofs.CallLaws.{told_up, writes_more, writes_then, writes_told}
use Rattle.twin_home.specs.Twins.{HealsTwins}
use Rattle.twin_home.proofs.TwinsLaws.{anchors_only, roots_only, twins_counted, twins_stand}
use Rattle.twin_home.proofs.twins.heal_twins.Goals as goal

pub returns-in_err-roots-clause-writes : goal.returns-in_err-roots-clause-writes
returns-in_err-roots-clause-writes g c =
    writes_told (told_up load_failed_at c.from_residual.result c.in_err-roots.field-0.0 c.from_residual.ensures.1)
    (writes_more c.in_err-roots.ensures.writes (λ h left roots. roots_only c.args.l.now (g.M.Machine.now c.args.m.now) left roots))

pub returns-in_err-anchors-clause-writes : goal.returns-in_err-anchors-clause-writes
returns-in_err-anchors-clause-writes g c =
    let M = g.M.Machine in
    let l = c.args.l.now in let old = M.now c.args.m.now in
    let roots = c.in_ok-roots.ensures.writes in let anchors = c.in_err-anchors.ensures.writes in
    writes_told (told_up load_failed_at c.from_residual-in_err-anchors.result c.in_err-anchors.field-0.0 c.from_residual-in_err-anchors.ensures.1)
    (writes_then roots anchors (λ h left at. roots_only l old left at)
    (λ h left at. anchors_only l old (M.now c.heal_roots.new.m) left (roots.exit (anchors.trust.honest h)) at))

pub returns-in_err-pages-clause-writes : goal.returns-in_err-pages-clause-writes
returns-in_err-pages-clause-writes g c =
    let M = g.M.Machine in
    let l = c.args.l.now in let old = M.now c.args.m.now in let one = M.now c.heal_roots.new.m in let two = M.now c.heal_anchor.new.m in
    let roots = c.in_ok-roots.ensures.writes in let anchors = c.in_ok-anchors.ensures.writes in let pages = c.in_err-pages.ensures.writes in
    writes_told (told_up load_failed_at c.from_residual-in_err-pages.result c.in_err-pages.field-0.0 c.from_residual-in_err-pages.ensures.1)
    (writes_then {P = HealsTwins l}
    (writes_then roots anchors (λ h left at. roots_only l old left at) (λ h left at. anchors_only l old one left (roots.exit (anchors.trust.honest h)) at))
    pages (λ h left at. at)
    (λ h left at. let h1 = pages.trust.honest h in
    record { roots_at = one; anchors_at = two; roots = roots.exit (anchors.trust.honest h1); anchors = anchors.exit h1; pages = at }))

pub returns-clause-writes : goal.returns-clause-writes
returns-clause-writes g c =
    let M = g.M.Machine in
    let l = c.args.l.now in let old = M.now c.args.m.now in let one = M.now c.heal_roots.new.m in let two = M.now c.heal_anchor.new.m in
    let roots = c.in_ok-roots.ensures.writes in let anchors = c.in_ok-anchors.ensures.writes in let pages = c.in_ok-pages.ensures.writes in
    writes_then {P = HealsTwins l}
    (writes_then roots anchors (λ h left at. roots_only l old left at) (λ h left at. anchors_only l old one left (roots.exit (anchors.trust.honest h)) at))
    pages (λ h left at. at)
    (λ h left at. let h1 = pages.trust.honest h in
    record { roots_at = one; anchors_at = two; roots = roots.exit (anchors.trust.honest h1); anchors = anchors.exit h1; pages = at })

pub returns-clause-healed : goal.returns-clause-healed
returns-clause-healed g c h =
    let M = g.M.Machine in
    let roots = c.in_ok-roots.ensures in let anchors = c.in_ok-anchors.ensures in let pages = c.in_ok-pages.ensures in
    let h2 = pages.writes.trust.honest h in let h1 = anchors.writes.trust.honest h2 in
    twins_counted c.args.l.now (M.now c.args.m.now) (M.now c.heal_roots.new.m) (M.now c.heal_anchor.new.m) (M.now c.heal_pages.new.m) (roots.writes.exit h1) (anchors.writes.exit h2)
    c.in_ok-roots.roots c.in_ok-anchors.anchors c.in_ok-pages.pages (c.in_ok-roots.roots + c.in_ok-anchors.anchors + c.in_ok-pages.pages) refl (roots.healed.done h1) (anchors.healed.done h2) (pages.healed h)

pub returns-clause-mended : goal.returns-clause-mended
returns-clause-mended g c h =
    let M = g.M.Machine in
    let roots = c.in_ok-roots.ensures in let anchors = c.in_ok-anchors.ensures in let pages = c.in_ok-pages.ensures in
    let h2 = pages.writes.trust.honest h in let h1 = anchors.writes.trust.honest h2 in let h0 = roots.writes.trust.honest h1 in
    let bounds = planned_bounds c.args.l.now c.requires.planned in
    let sized = g.met.M.Machine.sized c.args.m.now h0 in
    twins_stand c.args.l.now (M.now c.args.m.now) (M.now c.heal_roots.new.m) (M.now c.heal_anchor.new.m) (M.now c.heal_pages.new.m) (roots.writes.exit h1) (anchors.writes.exit h2)
    c.in_ok-roots.roots c.in_ok-anchors.anchors (omega (arith, sized, c.requires.room, bounds.sectors_least)) (roots.healed.done h1) (anchors.healed.done h2) (pages.writes.exit h) (pages.mended h)
