use Rattle.std.proofs.Common.{◌+◌, ◌*◌, ◌≤◌, ◌∙◌, length, ap, arith, subst}
use Rattle.std.proofs.lemmas.Result.{err_from_is_err_and}
use Rattle.volume_layout.specs.declared.layout.Layout.{Layout}
use Rattle.volume_layout.proofs.RootLaws.{planned_bounds}
use Rattle.mount_recover.proofs.CalmLaws.{laid_again}
use Rattle.sector_disk.specs.Image.{Windows}
use Rattle.sector_disk.specs.Machine.{Before, Ledger}
use Rattle.sector_disk.proofs.CallLaws.{heals_then, heals_told, told_up, turns, writes_as_heals}
use Rattle.sector_disk.proofs.Moments.{goes_on, leaves_more}
use Rattle.sector_disk.specs.Calls.{failed_at}
use Rattle.log_thirds.specs.Append.{StandsInPart}
use Rattle.log_thirds.specs.Copies.{copies_count}
use Rattle.mount_recover.specs.Replay.{IsUnturned, Replays}
use Rattle.mount_recover.proofs.CompletingLaws.{part_replays, healing_replays, failed_replays, completed, rest_stays, rest_in_part}
use Rattle.mount_recover.proofs.TurningLaws.{named_unturned, part_unturned, worn_unturned}
use Rattle.mount_recover.proofs.completing.complete.Goals as goal
use Rattle.volume_layout.specs.Kinds.{longest_of}

pub returns-in_err-complete_last-clause-disk : goal.returns-in_err-complete_last-clause-disk
returns-in_err-complete_last-clause-disk g c = heals_told (told_up failed_at c.from_residual.result c.in_err-complete_last.field-0.0 c.from_residual.ensures.1) (writes_as_heals c.in_err-complete_last.ensures.writes)

pub returns-in_err-healing-clause-disk : goal.returns-in_err-healing-clause-disk
returns-in_err-healing-clause-disk g c =
    let named = turns c.complete_last.new.m c.healing.new.self 0 _ c.in_err-healing.ensures.cause c.healing.ensures.sectors c.healing.ensures.trust c.healing.ensures.time c.healing.ensures.ledger (λ h. (c.in_err-healing.ensures.failed h).said) in
    heals_told (told_up failed_at c.from_residual-in_err-healing.result c.in_err-healing.field-0.0 c.from_residual-in_err-healing.ensures.1) (heals_then (writes_as_heals c.in_ok-complete_last.ensures.writes) named)

pub returns-clause-disk : goal.returns-clause-disk
returns-clause-disk g c =
    heals_then (writes_as_heals c.in_ok-complete_last.ensures.writes)
    (turns c.complete_last.new.m c.healing.new.self 0 _ c.in_ok-healing.ensures.cause c.healing.ensures.sectors c.healing.ensures.trust c.healing.ensures.time c.healing.ensures.ledger (λ h. (c.in_ok-healing.ensures.named h).said))

pub returns-in_err-complete_last-clause-counted : goal.returns-in_err-complete_last-clause-counted
returns-in_err-complete_last-clause-counted g c =
    let p = err_from_is_err_and c.from_residual.result c.from_residual.ensures.1 in
    rw (p.1, p.2) (record {
      most = λ t.
          let same = ap (λ (x : Ledger). x.written) (c.in_err-complete_last.ensures.counted_err t) in omega (arith, same);
      grows = tt;
    })

pub returns-in_err-complete_last-clause-names : goal.returns-in_err-complete_last-clause-names
returns-in_err-complete_last-clause-names g c h =
    let p = err_from_is_err_and c.from_residual.result c.from_residual.ensures.1 in
    rw (p.1, p.2) (record {
      present = ap (λ (w : Windows). w.present) (c.complete_last.ensures.writes.windows h);
      unturned =
          let M = g.M.Machine in
          let log = c.args.log.now in let old = M.now c.args.m.now in
          leaves_more M.moment M.left_since c.args.m.now c.complete_last.new.m (StandsInPart log.copies.place log.copies.bytes (copies_count log.copies) old) (IsUnturned old)
          (λ left part. part_unturned log.copies.place log.copies.bytes (copies_count log.copies) old left part) (c.complete_last.ensures.writes.any_moment h);
      named = tt;
      short = tt;
    })

pub returns-in_err-complete_last-clause-rest : goal.returns-in_err-complete_last-clause-rest
returns-in_err-complete_last-clause-rest g c l j h planned same knows =
    let M = g.M.Machine in
    let new = M.now c.complete_last.new.m in
    let run = c.complete_last.ensures.writes.any_moment h in
    rest_in_part l c.args.log.now j knows (M.now c.args.m.now) new (run.each new (g.met.M.Machine.counts_now c.complete_last.new.m (M.moment c.args.m.now) h run.later))

pub returns-in_err-complete_last-clause-completes : goal.returns-in_err-complete_last-clause-completes
returns-in_err-complete_last-clause-completes g c l windows choices h planned same seen =
    let p = err_from_is_err_and c.from_residual.result c.from_residual.ensures.1 in
    rw (p.1, p.2) (record {
      any_moment =
          let M = g.M.Machine in
          let log = c.args.log.now in let old = M.now c.args.m.now in
          leaves_more M.moment M.left_since c.args.m.now c.complete_last.new.m (StandsInPart log.copies.place log.copies.bytes (copies_count log.copies) old) (Replays l windows choices old)
          (λ left part. part_replays l windows choices log old planned seen left part) (c.complete_last.ensures.writes.any_moment h);
      done = tt;
    })

pub returns-in_err-healing-clause-counted : goal.returns-in_err-healing-clause-counted
returns-in_err-healing-clause-counted g c =
    let p = err_from_is_err_and c.from_residual-in_err-healing.result c.from_residual-in_err-healing.ensures.1 in
    rw (p.1, p.2) (record {
      most = λ t.
          let t1 = c.healing.ensures.trust.tells t in
          omega (arith, c.in_ok-complete_last.ensures.few, ap (λ (x : Ledger). x.written) (c.in_ok-complete_last.ensures.counted t1), ap (λ (x : Ledger). x.written) (c.healing.ensures.ledger t));
      grows = tt;
    })

pub returns-in_err-healing-clause-names : goal.returns-in_err-healing-clause-names
returns-in_err-healing-clause-names g c h =
    let p = err_from_is_err_and c.from_residual-in_err-healing.result c.from_residual-in_err-healing.ensures.1 in
    rw (p.1, p.2) (record {
      present = ap (λ (w : Windows). w.present) (c.in_err-healing.ensures.failed h).windows ∙ ap (λ (w : Windows). w.present) (c.complete_last.ensures.writes.windows (c.healing.ensures.trust.honest h));
      unturned =
          let M = g.M.Machine in
          let log = c.args.log.now in let old = M.now c.args.m.now in let mid = M.now c.complete_last.new.m in let new = M.now c.healing.new.self in
          let h1 = c.healing.ensures.trust.honest h in
          let so_far = leaves_more M.moment M.left_since c.args.m.now c.complete_last.new.m (StandsInPart log.copies.place log.copies.bytes (copies_count log.copies) old) (IsUnturned old)
          (λ left part. part_unturned log.copies.place log.copies.bytes (copies_count log.copies) old left part) (c.complete_last.ensures.writes.any_moment h1) in
          goes_on M.moment M.left_since c.args.m.now c.complete_last.new.m c.healing.new.self (IsUnturned old) (Before mid new) so_far (c.healing.ensures.time h)
          (λ left b. worn_unturned old mid new left (c.in_ok-complete_last.ensures.done h1).windows (c.in_err-healing.ensures.failed h) b);
      named = tt;
      short = tt;
    })

pub returns-in_err-healing-clause-rest : goal.returns-in_err-healing-clause-rest
returns-in_err-healing-clause-rest g c l j h planned same knows =
    let M = g.M.Machine in
    rest_stays l c.args.log.now j knows (M.now c.args.m.now) (M.now c.complete_last.new.m) (M.now c.healing.new.self) (c.in_ok-complete_last.ensures.done (c.healing.ensures.trust.honest h)) (c.in_err-healing.ensures.failed h).image

pub returns-in_err-healing-clause-completes : goal.returns-in_err-healing-clause-completes
returns-in_err-healing-clause-completes g c l windows choices h planned same seen =
    let p = err_from_is_err_and c.from_residual-in_err-healing.result c.from_residual-in_err-healing.ensures.1 in
    rw (p.1, p.2) (record {
      any_moment =
          let M = g.M.Machine in
          let log = c.args.log.now in let old = M.now c.args.m.now in let mid = M.now c.complete_last.new.m in let new = M.now c.healing.new.self in
          let h1 = c.healing.ensures.trust.honest h in
          let so_far = leaves_more M.moment M.left_since c.args.m.now c.complete_last.new.m (StandsInPart log.copies.place log.copies.bytes (copies_count log.copies) old) (Replays l windows choices old)
          (λ left part. part_replays l windows choices log old planned seen left part) (c.complete_last.ensures.writes.any_moment h1) in
          goes_on M.moment M.left_since c.args.m.now c.complete_last.new.m c.healing.new.self (Replays l windows choices old) (Before mid new) so_far (c.healing.ensures.time h)
          (λ left b. failed_replays l windows choices log old planned seen mid (c.in_ok-complete_last.ensures.done h1) new left (c.in_err-healing.ensures.failed h) b);
      done = tt;
    })

pub returns-clause-counted : goal.returns-clause-counted
returns-clause-counted g c =
    record {
      most = λ t.
          let t1 = c.healing.ensures.trust.tells t in
          omega (arith, c.in_ok-complete_last.ensures.few, ap (λ (x : Ledger). x.written) (c.in_ok-complete_last.ensures.counted t1), ap (λ (x : Ledger). x.written) (c.healing.ensures.ledger t));
      grows = λ t.
          let t1 = c.healing.ensures.trust.tells t in
          omega (arith, ap (λ (x : Ledger). x.written) (c.in_ok-complete_last.ensures.counted t1), ap (λ (x : Ledger). x.written) (c.healing.ensures.ledger t));
    }

pub returns-clause-names : goal.returns-clause-names
returns-clause-names g c h =
    record {
      present = (c.in_ok-healing.ensures.named h).present ∙ ap (λ (w : Windows). w.present) (c.complete_last.ensures.writes.windows (c.healing.ensures.trust.honest h));
      unturned =
          let M = g.M.Machine in
          let log = c.args.log.now in let old = M.now c.args.m.now in let mid = M.now c.complete_last.new.m in let new = M.now c.healing.new.self in
          let h1 = c.healing.ensures.trust.honest h in
          let so_far = leaves_more M.moment M.left_since c.args.m.now c.complete_last.new.m (StandsInPart log.copies.place log.copies.bytes (copies_count log.copies) old) (IsUnturned old)
          (λ left part. part_unturned log.copies.place log.copies.bytes (copies_count log.copies) old left part) (c.complete_last.ensures.writes.any_moment h1) in
          goes_on M.moment M.left_since c.args.m.now c.complete_last.new.m c.healing.new.self (IsUnturned old) (Before mid new) so_far (c.healing.ensures.time h)
          (λ left b. named_unturned old mid new left (c.in_ok-complete_last.ensures.done h1).windows (c.in_ok-healing.ensures.named h) b);
      named = (c.in_ok-healing.ensures.named h).next;
      short = (c.in_ok-healing.ensures.named h).short;
    }

pub returns-clause-rest : goal.returns-clause-rest
returns-clause-rest g c l j h planned same knows =
    let M = g.M.Machine in
    rest_stays l c.args.log.now j knows (M.now c.args.m.now) (M.now c.complete_last.new.m) (M.now c.healing.new.self) (c.in_ok-complete_last.ensures.done (c.healing.ensures.trust.honest h)) (c.in_ok-healing.ensures.named h).image

pub returns-clause-completes : goal.returns-clause-completes
returns-clause-completes g c l windows choices h planned same seen =
    record {
      any_moment =
          let M = g.M.Machine in
          let log = c.args.log.now in let old = M.now c.args.m.now in let mid = M.now c.complete_last.new.m in let new = M.now c.healing.new.self in
          let h1 = c.healing.ensures.trust.honest h in
          let so_far = leaves_more M.moment M.left_since c.args.m.now c.complete_last.new.m (StandsInPart log.copies.place log.copies.bytes (copies_count log.copies) old) (Replays l windows choices old)
          (λ left part. part_replays l windows choices log old planned seen left part) (c.complete_last.ensures.writes.any_moment h1) in
          goes_on M.moment M.left_since c.args.m.now c.complete_last.new.m c.healing.new.self (Replays l windows choices old) (Before mid new) so_far (c.healing.ensures.time h)
          (λ left b. healing_replays l windows choices log old planned seen mid (c.in_ok-complete_last.ensures.done h1) new left (c.in_ok-healing.ensures.named h) b);
      done =
          let M = g.M.Machine in
          completed l windows choices c.args.log.now (M.now c.args.m.now) planned seen (M.now c.complete_last.new.m) (c.in_ok-complete_last.ensures.done (c.healing.ensures.trust.honest h))
          c.args.longest (subst (λ (k : Layout). c.args.longest ≤ longest_of k.kind) same c.requires.borne) (M.now c.healing.new.self) (c.in_ok-healing.ensures.named h);
    }

pub returns-clause-given : goal.returns-clause-given
returns-clause-given g c l h still planned same knows =
    let M = g.M.Machine in
    let sized = g.met.M.Machine.sized c.args.m.now (c.complete_last.ensures.writes.trust.honest (c.healing.ensures.trust.honest h)) in
    let bounds = planned_bounds l planned in
    let long : 16 + 3 * l.third ≤ length (M.now c.args.m.now).image = omega (arith, sized, bounds.third_least, bounds.sectors_least, c.requires.sectors, ap (λ (k : Layout). k.sectors) same) in
    laid_again l c.args.log.now (M.now c.args.m.now) (M.now c.complete_last.new.m) (M.now c.healing.new.self) same knows still long (c.in_ok-complete_last.ensures.done (c.healing.ensures.trust.honest h)) (c.in_ok-healing.ensures.named h)
