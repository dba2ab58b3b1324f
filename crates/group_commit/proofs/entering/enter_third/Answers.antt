use Rattle.std.proofs.Common.{◌∙◌, ◌*◌, refl, ap, subst, arith}
use Rattle.sector_disk.specs.declared.machine.LoadFault.TheVariants.{Device}
use Rattle.sector_disk.specs.Calls.{load_failed_at}
use Rattle.sector_disk.specs.Machine.{Ledger, wrote}
use Rattle.sector_disk.proofs.CallLaws.{told_up, writes_then, writes_told}
use Rattle.log_thirds.specs.Append.{IsIndexed, IsLogWorn}
use Rattle.log_thirds.specs.LogValue.{LogValue}
use Rattle.log_thirds.specs.Moving.{moved_anchor}
use Rattle.fsd_log.specs.Moves.{records_moved}
use Rattle.group_commit.specs.Entering.{EntersNot}
use Rattle.group_commit.specs.Room.{pages_in_first}
use Rattle.group_commit.proofs.CountLaws.{handed_up, wrote_on}
use Rattle.group_commit.proofs.EnterLaws.{moving_shows, entered}
use Rattle.group_commit.proofs.HomingLaws.{homing_log}
use Rattle.group_commit.proofs.OutsideLaws.{outside_anchors, outside_then}
use Rattle.group_commit.proofs.entering.enter_third.Goals as goal
use Rattle.twin_home.proofs.TwinsLaws.{wrote_more}

pub home_third-requires-clause-low : goal.home_third-requires-clause-low
home_third-requires-clause-low g c = omega (arith, c.attest.ensures.third, c.requires.first)

pub returns-clause-disk : goal.returns-clause-disk
returns-clause-disk g c =
    let M = g.M.Machine in
    let first = c.in_ok-home_third.ensures in
    let writes = c.in_ok-move_anchor.ensures.writes in
    writes_then first.disk writes (λ h left so. so) (λ h left part records disk windows may over.
    moving_shows c.args.log.now records disk windows (M.now c.args.m.now) may c.requires.ends (M.now c.home_third.new.m) (first.done records disk windows (writes.trust.honest h) may over) left part)

pub returns-in_err-move_anchor-clause-disk : goal.returns-in_err-move_anchor-clause-disk
returns-in_err-move_anchor-clause-disk g c =
    let M = g.M.Machine in
    let first = c.in_ok-home_third.ensures in
    let writes = c.in_err-move_anchor.ensures.writes in
    writes_told (told_up load_failed_at c.from_residual-in_err-move_anchor.result (Device c.in_err-move_anchor.field-0.0.place) c.from_residual-in_err-move_anchor.ensures.1)
    (writes_then first.disk writes (λ h left so. so) (λ h left part records disk windows may over.
    moving_shows c.args.log.now records disk windows (M.now c.args.m.now) may c.requires.ends (M.now c.home_third.new.m) (first.done records disk windows (writes.trust.honest h) may over) left part))

pub returns-clause-done : goal.returns-clause-done
returns-clause-done g c =
    let M = g.M.Machine in
    let log = c.args.log.now in
    let old = M.now c.args.m.now in
    let mid = M.now c.home_third.new.m in
    let new = M.now c.move_anchor.new.m in
    let writes = c.in_ok-move_anchor.ensures.writes in
    let moves = c.in_ok-move_anchor.ensures.done in
    record {
      past = moves.past;
      counted = λ t. moves.counted t ∙ ap (λ (l : Ledger). wrote l 2) (c.in_ok-home_third.ensures.counted (writes.trust.tells t)) ∙ wrote_more (M.ledger c.args.m.now) (2 * pages_in_first log) 2 _ refl;
      shows = λ records disk windows h may over.
          let at = c.in_ok-home_third.ensures.done records disk windows (writes.trust.honest h) may over in
          let stands = homing_log log records disk windows old may log.layout.pages mid at in
          let log_worn = subst (λ (x : LogValue). IsLogWorn x (records_moved log.layout records) new) moves.past (moves.worn records h at.over.indexed stands) in
          let indexed = subst (λ (x : LogValue). IsIndexed x (records_moved log.layout records)) moves.past (moves.indexed records h at.over.indexed stands) in
          entered log records disk windows old may c.requires.ends mid at new (moves.stands h) log_worn indexed;
    }

pub returns-in_err-home_third-clause-failed : goal.returns-in_err-home_third-clause-failed
returns-in_err-home_third-clause-failed g c =
    let M = g.M.Machine in
    let log = c.args.log.now in
    let failed = c.in_err-home_third.ensures.failed in
    handed_up (EntersNot M log log c.args.m.now c.home_third.new.m) c.from_residual.result c.in_err-home_third.field-0.0 c.from_residual.ensures.1
    (record {
      kept = refl;
      homes = record {
        counted = λ t. wrote_on (M.ledger c.args.m.now) (M.ledger c.args.m.now) (M.ledger c.home_third.new.m) 0 (2 * pages_in_first log) _ (omega arith) (failed.counted t) (omega arith);
        lost = failed.lost;
        never_lost = failed.never_lost;
      };
    })

pub returns-in_err-move_anchor-clause-failed : goal.returns-in_err-move_anchor-clause-failed
returns-in_err-move_anchor-clause-failed g c =
    let M = g.M.Machine in
    let log = c.args.log.now in
    let said = c.in_err-move_anchor.ensures in
    handed_up (EntersNot M log c.move_anchor.new.self c.args.m.now c.move_anchor.new.m) c.from_residual-in_err-move_anchor.result (Device c.in_err-move_anchor.field-0.0.place) c.from_residual-in_err-move_anchor.ensures.1
    (record {
      kept = said.kept;
      homes = record {
        counted = λ t. wrote_on (M.ledger c.args.m.now) (M.ledger c.home_third.new.m) (M.ledger c.move_anchor.new.m) (2 * pages_in_first log) 2 _
            (ap (λ (l : Ledger). l.written) (c.in_ok-home_third.ensures.counted (said.writes.trust.tells t))) (said.counted t) (omega arith);
        lost = λ h. tt;
        never_lost = λ records disk windows h may over. tt;
      };
    })

pub returns-clause-rest : goal.returns-clause-rest
returns-clause-rest g c h =
    let M = g.M.Machine in
    let log = c.args.log.now in
    let mid = M.now c.home_third.new.m in let new = M.now c.move_anchor.new.m in
    let first = c.in_ok-home_third.ensures in
    let writes = c.in_ok-move_anchor.ensures.writes in
    let h1 = writes.trust.honest h in
    outside_then log.layout (M.now c.args.m.now) mid new (first.disk.windows h1) (first.rest h1) (outside_anchors log.layout mid new (moved_anchor log) (writes.exit h))

pub returns-in_err-move_anchor-clause-rest : goal.returns-in_err-move_anchor-clause-rest
returns-in_err-move_anchor-clause-rest g c h =
    let M = g.M.Machine in
    let log = c.args.log.now in
    let mid = M.now c.home_third.new.m in let new = M.now c.move_anchor.new.m in
    let first = c.in_ok-home_third.ensures in
    let writes = c.in_err-move_anchor.ensures.writes in
    let h1 = writes.trust.honest h in
    outside_then log.layout (M.now c.args.m.now) mid new (first.disk.windows h1) (first.rest h1) (outside_anchors log.layout mid new (moved_anchor log) (writes.exit h))
