use Rattle.std.proofs.Common.{◌≡◌, ◌↔◌, Bool, true, inr, refl, subst}
use Rattle.std.specs.Prelude.{Result, IfOk}
use Rattle.sector_disk.specs.declared.machine.Failed.{Failed}
use Rattle.sector_disk.proofs.CallLaws.{reads_then}
use Rattle.fsd_sound.specs.Saved.{IsClosedAt}
use Rattle.saved_map.proofs.ReadingLaws.{closed_was}
use Rattle.saved_map.proofs.closed.is_closed.Goals as goal

pub returns-clause-reads : goal.returns-clause-reads
returns-clause-reads g c = reads_then c.in_ok-is_closed_at.ensures.reads c.is_closed_at-2.ensures.reads

pub returns-clause-yes : goal.returns-clause-yes
returns-clause-yes g c same h =
    let M = g.M.Machine in
    let reads = reads_then c.in_ok-is_closed_at.ensures.reads c.is_closed_at-2.ensures.reads in
    let closed = subst (λ (r : Result Bool Failed). IfOk r (λ closed. M.honest c.is_closed_at-2.new.m → ((closed ≡ true) ↔ IsClosedAt c.args.epoch (M.now c.is_closed_at-2.new.m).image 12))) same c.is_closed_at-2.ensures.is h in
    inr (closed_was _ (M.now c.args.m.now).image (M.now c.is_closed_at-2.new.m).image c.args.epoch 12 (reads.worn h).image (closed.0 refl))
