use Rattle.std.proofs.Common.{◌∙◌, ◌+◌, ◌*◌, ℕ, sym, ap, subst, rules}
use Rattle.std.proofs.lemmas.Result.{IfErr-weaker, on_ok_weaker}
use Rattle.sector_disk.specs.Machine.{Ledger}
use Rattle.sector_disk.proofs.CallLaws.{writes_none}
use Rattle.sector_disk.proofs.Holding.{wears_none}
use Rattle.fsd_log.specs.Scan.{HasRoom}
use Rattle.log_thirds.specs.LogValue.{LogValue}
use Rattle.log_thirds.specs.Moving.{moved}
use Rattle.fsd_log.specs.Moves.{records_moved}
use Rattle.group_commit.specs.Entering.{OwnsLog, ShowsStill}
use Rattle.group_commit.specs.Force.{KeepsOutside}
use Rattle.group_commit.proofs.HomingLaws.{begin, stays}
use Rattle.group_commit.proofs.OutsideLaws.{outside_none}
use Rattle.group_commit.proofs.RoomLaws.{before_again, first_again, form_either, moved_again}
use Rattle.group_commit.specs.Room.{pages_in_first, sectors_before}
use Rattle.group_commit.proofs.CountLaws.{wrote_at}
use Rattle.group_commit.proofs.entering.make_room.Goals as goal

pub returns-in-FirstThird-clause-done : goal.returns-in-FirstThird-clause-done
returns-in-FirstThird-clause-done g c =
    let M = g.M.Machine in
    let old = M.now c.args.m.now in
    let new = M.now c.enter_third.new.m in
    let log = c.args.log.now in
    let count = c.args.count in
    let again = first_again log count c.in-FirstThird.ensures.0.0 c.in-FirstThird.ensures.0.1 in
    let room : HasRoom (moved log).layout count (moved log).head = search rules in
    on_ok_weaker c.enter_third.result
    (λ is. record {
      past = is.past ∙ sym (moved_again log count again);
      room = subst (λ (x : LogValue). HasRoom x.layout count x.head) (sym is.past) room;
      counted = λ t. ap (λ (l : Ledger). l.written) (is.counted t) ∙ ap (λ (n : ℕ). (M.ledger c.args.m.now).written + n) (sym (before_again log count again));
      shows = λ records disk windows h may over.
          let entered = is.shows records disk windows h may over in
          record {
            records = records_moved log.layout records;
            over = subst (λ (x : LogValue). OwnsLog x (records_moved log.layout records) disk windows new.image) (sym is.past) entered.over;
            outside = subst (λ (x : LogValue). KeepsOutside x.layout old new) (sym is.past) entered.outside;
          };
    })
    c.enter_third.ensures.done

pub returns-in-FirstThird-clause-failed : goal.returns-in-FirstThird-clause-failed
returns-in-FirstThird-clause-failed g c =
    let M = g.M.Machine in
    let log = c.args.log.now in
    let count = c.args.count in
    let again = first_again log count c.in-FirstThird.ensures.0.0 c.in-FirstThird.ensures.0.1 in
    IfErr-weaker c.enter_third.result _ _
    (λ fault is. record {
      kept = is.kept;
      enters = again;
      homes = record {
        counted = λ t. wrote_at (2 * pages_in_first log + 2) (sectors_before log count) (M.ledger c.args.m.now) (M.ledger c.enter_third.new.m) (sym (before_again log count again)) (is.homes.counted t);
        lost = is.homes.lost;
        never_lost = is.homes.never_lost;
      };
    })
    c.enter_third.ensures.failed

pub returns-in-FirstThird-clause-form : goal.returns-in-FirstThird-clause-form
returns-in-FirstThird-clause-form g c =
    form_either c.enter_third.result c.args.log.now c.enter_third.new.log (on_ok_weaker c.enter_third.result (λ is. is.past) c.enter_third.ensures.done)
    (IfErr-weaker c.enter_third.result _ _ (λ fault is. is.kept) c.enter_third.ensures.failed)

pub returns-in-Here-clause-done : goal.returns-in-Here-clause-done
returns-in-Here-clause-done g c =
    record {
      past = search rules;
      room = search rules;
      counted = search rules;
      shows = λ records disk windows h may over. record { records = records; over = over; outside = outside_none c.args.log.now.layout (g.M.Machine.now c.args.m.now) };
    }

pub returns-in-NextThird-clause-done : goal.returns-in-NextThird-clause-done
returns-in-NextThird-clause-done g c =
    record {
      past = search rules;
      room = search rules;
      counted = search rules;
      shows = λ records disk windows h may over. record { records = records; over = over; outside = outside_none c.args.log.now.layout (g.M.Machine.now c.args.m.now) };
    }

pub returns-in-Here-clause-disk : goal.returns-in-Here-clause-disk
returns-in-Here-clause-disk g c =
    let old = g.M.Machine.now c.args.m.now in
    let log = c.args.log.now in
    writes_none c.args.m.now (λ left h at. g.met.M.Machine.only_now c.args.m.now left h at) (ShowsStill log)
    (λ h records disk windows may over. stays log records disk windows old may 0 old (begin log records disk windows old may over) old (wears_none old))

pub returns-in-NextThird-clause-disk : goal.returns-in-NextThird-clause-disk
returns-in-NextThird-clause-disk g c =
    let old = g.M.Machine.now c.args.m.now in
    let log = c.args.log.now in
    writes_none c.args.m.now (λ left h at. g.met.M.Machine.only_now c.args.m.now left h at) (ShowsStill log)
    (λ h records disk windows may over. stays log records disk windows old may 0 old (begin log records disk windows old may over) old (wears_none old))

pub returns-in-Here-clause-rest : goal.returns-in-Here-clause-rest
returns-in-Here-clause-rest g c h = outside_none c.args.log.now.layout (g.M.Machine.now c.args.m.now)

pub returns-in-NextThird-clause-rest : goal.returns-in-NextThird-clause-rest
returns-in-NextThird-clause-rest g c h = outside_none c.args.log.now.layout (g.M.Machine.now c.args.m.now)
