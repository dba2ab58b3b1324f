use Rattle.std.proofs.Common.{inl, ◌+◌, ◌^◌, ◌<◌, arith, subst, sym, ap, ◌∙◌}
use Rattle.std.proofs.lemmas.Result.{err_from_is_err_and}
use Rattle.sector_disk.specs.Image.{Windows, settled}
use Rattle.sector_disk.specs.Machine.{Ledger}
use Rattle.fsd_formats.specs.declared.anchor.Anchor.{Anchor}
use Rattle.log_thirds.specs.LogValue.{LogValue}
use Rattle.mount_recover.specs.Recover.{HasAnchorTwice}
use Rattle.sector_disk.proofs.CallLaws.{heals_then, heals_told, told_up, turns, writes_as_heals}
use Rattle.sector_disk.proofs.Moments.{goes_on, leaves_more}
use Rattle.sector_disk.specs.Calls.{failed_at}
use Rattle.fsd_sound.specs.Anchors.{fresh_anchor}
use Rattle.log_thirds.specs.Anchoring.{AnchorsIn}
use Rattle.mount_recover.specs.Mending.{StaysOrSettles}
use Rattle.mount_recover.proofs.BeginningLaws.{stays_in_part, stays_renewed, anchors_stay, begins_before, begins_failed, replayed, anchors_stand}
use Rattle.sector_disk.specs.Machine.{Before}
use Rattle.mount_recover.specs.Replay.{TurnsLast}
use Rattle.mount_recover.proofs.TurningLaws.{anchors_turn, settle_turns}
use Rattle.mount_recover.proofs.epoch.begin_epoch.Goals as goal

pub returns-in_err-new_epoch-clause-disk : goal.returns-in_err-new_epoch-clause-disk
returns-in_err-new_epoch-clause-disk g c = heals_told (told_up failed_at c.from_residual.result c.in_err-new_epoch.field-0.0 c.from_residual.ensures.1) (writes_as_heals c.in_err-new_epoch.ensures.writes)

pub returns-in_err-settle-clause-disk : goal.returns-in_err-settle-clause-disk
returns-in_err-settle-clause-disk g c =
    let settled = turns c.new_epoch.new.m c.settle.new.self 0 _ c.in_err-settle.ensures.cause c.settle.ensures.sectors c.settle.ensures.trust c.settle.ensures.time c.settle.ensures.ledger (λ h. (c.in_err-settle.ensures.failed h).said) in
    heals_told (told_up failed_at c.from_residual-in_err-settle.result c.in_err-settle.field-0.0 c.from_residual-in_err-settle.ensures.1) (heals_then (writes_as_heals c.in_ok-new_epoch.ensures.writes) settled)

pub returns-clause-disk : goal.returns-clause-disk
returns-clause-disk g c =
    heals_then (writes_as_heals c.in_ok-new_epoch.ensures.writes)
    (turns c.new_epoch.new.m c.settle.new.self 0 _ c.in_ok-settle.ensures.cause c.settle.ensures.sectors c.settle.ensures.trust c.settle.ensures.time c.settle.ensures.ledger (λ h. (c.in_ok-settle.ensures.settled h).said))

pub returns-in_err-new_epoch-clause-counted : goal.returns-in_err-new_epoch-clause-counted
returns-in_err-new_epoch-clause-counted g c =
    let p = err_from_is_err_and c.from_residual.result c.from_residual.ensures.1 in
    rw (p.1, p.2) (record {
      most = λ t. c.new_epoch.ensures.most t;
      grows = tt;
    })

pub returns-in_err-new_epoch-clause-turns : goal.returns-in_err-new_epoch-clause-turns
returns-in_err-new_epoch-clause-turns g c h =
    let p = err_from_is_err_and c.from_residual.result c.from_residual.ensures.1 in
    rw (p.1, p.2) (record {
      windows = tt;
      windows_err = c.new_epoch.ensures.writes.windows h;
      synced = tt;
      turns =
          let M = g.M.Machine in
          let a = fresh_anchor (c.args.log.now.anchor.epoch + 1) in let now = M.now c.args.m.now in let new = M.now c.new_epoch.new.m in
          leaves_more M.moment M.left_since c.args.m.now c.new_epoch.new.m (AnchorsIn a now) (TurnsLast now new) (λ left anchors. anchors_turn a now new left anchors) (c.new_epoch.ensures.writes.any_moment h);
      rest =
          let M = g.M.Machine in
          let new = M.now c.new_epoch.new.m in
          let run = c.new_epoch.ensures.writes.any_moment h in
          stays_in_part (fresh_anchor (c.args.log.now.anchor.epoch + 1)) (M.now c.args.m.now) new (run.each new (g.met.M.Machine.counts_now c.new_epoch.new.m (M.moment c.args.m.now) h run.later));
      anchors = tt;
    })

pub returns-in_err-new_epoch-clause-begins : goal.returns-in_err-new_epoch-clause-begins
returns-in_err-new_epoch-clause-begins g c l windows choices first is h planned some at =
    let p = err_from_is_err_and c.from_residual.result c.from_residual.ensures.1 in
    rw (p.1, p.2) (record {
      any_moment =
          let M = g.M.Machine in
          let log = c.args.log.now in let now = M.now c.args.m.now in
          let fits : c.args.log.now.anchor.epoch + 1 < 2 ^ 32 = omega (arith, c.requires.epoch) in
          leaves_more M.moment M.left_since c.args.m.now c.new_epoch.new.m (AnchorsIn (fresh_anchor (log.anchor.epoch + 1)) now) (StaysOrSettles l windows choices first) (λ left anchors. inl (anchors_stay l windows choices log first is now at fits left anchors)) (c.new_epoch.ensures.writes.any_moment h);
      done = tt;
    })

pub returns-in_err-settle-clause-counted : goal.returns-in_err-settle-clause-counted
returns-in_err-settle-clause-counted g c =
    let p = err_from_is_err_and c.from_residual-in_err-settle.result c.from_residual-in_err-settle.ensures.1 in
    rw (p.1, p.2) (record {
      most = λ t. omega (arith, c.new_epoch.ensures.most (c.settle.ensures.trust.tells t), ap (λ (x : Ledger). x.written) (c.settle.ensures.ledger t));
      grows = tt;
    })

pub returns-in_err-settle-clause-turns : goal.returns-in_err-settle-clause-turns
returns-in_err-settle-clause-turns g c h =
    let p = err_from_is_err_and c.from_residual-in_err-settle.result c.from_residual-in_err-settle.ensures.1 in
    rw (p.1, p.2) (record {
      windows = tt;
      windows_err = (c.in_err-settle.ensures.failed h).windows ∙ c.new_epoch.ensures.writes.windows (c.settle.ensures.trust.honest h);
      synced = tt;
      turns =
          let M = g.M.Machine in
          let a = fresh_anchor (c.args.log.now.anchor.epoch + 1) in let now = M.now c.args.m.now in let mid = M.now c.new_epoch.new.m in let new = M.now c.settle.new.self in
          let h1 = c.settle.ensures.trust.honest h in
          let so_far = leaves_more M.moment M.left_since c.args.m.now c.new_epoch.new.m (AnchorsIn a now) (TurnsLast now new) (λ left anchors. anchors_turn a now new left anchors) (c.new_epoch.ensures.writes.any_moment h1) in
          goes_on M.moment M.left_since c.args.m.now c.new_epoch.new.m c.settle.new.self (TurnsLast now new) (Before mid new) so_far (c.settle.ensures.time h) (λ left b. settle_turns now mid new left (c.in_ok-new_epoch.ensures.done h1).windows b);
      rest =
          let M = g.M.Machine in
          stays_renewed (fresh_anchor (c.args.log.now.anchor.epoch + 1)) (M.now c.args.m.now) (M.now c.new_epoch.new.m) (M.now c.settle.new.self) (c.in_ok-new_epoch.ensures.done (c.settle.ensures.trust.honest h)) (c.in_err-settle.ensures.failed h).image;
      anchors = tt;
    })

pub returns-in_err-settle-clause-begins : goal.returns-in_err-settle-clause-begins
returns-in_err-settle-clause-begins g c l windows choices first is h planned some at =
    let p = err_from_is_err_and c.from_residual-in_err-settle.result c.from_residual-in_err-settle.ensures.1 in
    rw (p.1, p.2) (record {
      any_moment =
          let M = g.M.Machine in
          let log = c.args.log.now in let now = M.now c.args.m.now in let mid = M.now c.new_epoch.new.m in let new = M.now c.settle.new.self in
          let fits : c.args.log.now.anchor.epoch + 1 < 2 ^ 32 = omega (arith, c.requires.epoch) in
          let h1 = c.settle.ensures.trust.honest h in
          let so_far = leaves_more M.moment M.left_since c.args.m.now c.new_epoch.new.m (AnchorsIn (fresh_anchor (log.anchor.epoch + 1)) now) (StaysOrSettles l windows choices first) (λ left anchors. inl (anchors_stay l windows choices log first is now at fits left anchors)) (c.new_epoch.ensures.writes.any_moment h1) in
          goes_on M.moment M.left_since c.args.m.now c.new_epoch.new.m c.settle.new.self (StaysOrSettles l windows choices first) _ so_far (c.settle.ensures.time h)
          (λ left b. begins_failed l windows choices log first is now at fits mid (c.in_ok-new_epoch.ensures.done h1) new left (c.in_err-settle.ensures.failed h) b);
      done = tt;
    })

pub returns-clause-counted : goal.returns-clause-counted
returns-clause-counted g c =
    record {
      most = λ t. omega (arith, c.new_epoch.ensures.most (c.settle.ensures.trust.tells t), ap (λ (x : Ledger). x.written) (c.settle.ensures.ledger t));
      grows = λ t.
          let t1 = c.settle.ensures.trust.tells t in
          omega (arith, ap (λ (x : Ledger). x.written) (c.in_ok-new_epoch.ensures.counted t1), ap (λ (x : Ledger). x.written) (c.settle.ensures.ledger t));
    }

pub returns-clause-turns : goal.returns-clause-turns
returns-clause-turns g c h =
    record {
      windows = (c.in_ok-settle.ensures.settled h).windows ∙ ap (λ (w : Windows). settled w.present w.next) (c.new_epoch.ensures.writes.windows (c.settle.ensures.trust.honest h));
      windows_err = tt;
      synced = c.in_ok-settle.ensures.synced h;
      turns =
          let M = g.M.Machine in
          let a = fresh_anchor (c.args.log.now.anchor.epoch + 1) in let now = M.now c.args.m.now in let mid = M.now c.new_epoch.new.m in let new = M.now c.settle.new.self in
          let h1 = c.settle.ensures.trust.honest h in
          let so_far = leaves_more M.moment M.left_since c.args.m.now c.new_epoch.new.m (AnchorsIn a now) (TurnsLast now new) (λ left anchors. anchors_turn a now new left anchors) (c.new_epoch.ensures.writes.any_moment h1) in
          goes_on M.moment M.left_since c.args.m.now c.new_epoch.new.m c.settle.new.self (TurnsLast now new) (Before mid new) so_far (c.settle.ensures.time h) (λ left b. settle_turns now mid new left (c.in_ok-new_epoch.ensures.done h1).windows b);
      rest =
          let M = g.M.Machine in
          stays_renewed (fresh_anchor (c.args.log.now.anchor.epoch + 1)) (M.now c.args.m.now) (M.now c.new_epoch.new.m) (M.now c.settle.new.self) (c.in_ok-new_epoch.ensures.done (c.settle.ensures.trust.honest h)) (c.in_ok-settle.ensures.settled h).image;
      anchors = λ wide some.
          let M = g.M.Machine in
          let now = M.now c.args.m.now in let mid = M.now c.new_epoch.new.m in let new = M.now c.settle.new.self in
          let h1 = c.settle.ensures.trust.honest h in
          let sized = g.met.M.Machine.sized c.args.m.now (c.new_epoch.ensures.writes.trust.honest h1) in
          let done = c.in_ok-new_epoch.ensures.done h1 in
          let settles = c.in_ok-settle.ensures.settled h in
          subst (λ (a : Anchor). HasAnchorTwice a (M.now c.settle.new.self)) (sym (ap (λ (log : LogValue). log.anchor) c.in_ok-new_epoch.ensures.past))
          (anchors_stand (c.args.log.now.anchor.epoch + 1) now mid new (omega (arith, sized, wide)) done settles.image some (settles.windows ∙ λ i. settled (done.windows i).present (done.windows i).next));
    }

pub returns-clause-begins : goal.returns-clause-begins
returns-clause-begins g c l windows choices first is h planned some at =
    record {
      any_moment =
          let M = g.M.Machine in
          let log = c.args.log.now in let now = M.now c.args.m.now in let mid = M.now c.new_epoch.new.m in let new = M.now c.settle.new.self in
          let fits : c.args.log.now.anchor.epoch + 1 < 2 ^ 32 = omega (arith, c.requires.epoch) in
          let h1 = c.settle.ensures.trust.honest h in
          let short = g.met.M.Machine.short c.args.m.now (c.new_epoch.ensures.writes.trust.honest h1) in
          let so_far = leaves_more M.moment M.left_since c.args.m.now c.new_epoch.new.m (AnchorsIn (fresh_anchor (log.anchor.epoch + 1)) now) (StaysOrSettles l windows choices first) (λ left anchors. inl (anchors_stay l windows choices log first is now at fits left anchors)) (c.new_epoch.ensures.writes.any_moment h1) in
          goes_on M.moment M.left_since c.args.m.now c.new_epoch.new.m c.settle.new.self (StaysOrSettles l windows choices first) _ so_far (c.settle.ensures.time h)
          (λ left b. begins_before l windows choices log first is now at fits mid (c.in_ok-new_epoch.ensures.done h1) short some new (c.in_ok-settle.ensures.settled h) left b);
      done =
          let M = g.M.Machine in
          let log = c.args.log.now in let now = M.now c.args.m.now in let mid = M.now c.new_epoch.new.m in let new = M.now c.settle.new.self in
          let fits : c.args.log.now.anchor.epoch + 1 < 2 ^ 32 = omega (arith, c.requires.epoch) in
          let h1 = c.settle.ensures.trust.honest h in
          let short = g.met.M.Machine.short c.args.m.now (c.new_epoch.ensures.writes.trust.honest h1) in
          replayed l windows choices log first is now at fits mid (c.in_ok-new_epoch.ensures.done h1) short some new (c.in_ok-settle.ensures.settled h);
    }
