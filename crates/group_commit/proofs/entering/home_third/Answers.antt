use Rattle.std.proofs.Common.{◌*◌, ◌+◌, ℕ, List, refl, ap, subst, ◌∙◌, arith}
use Rattle.volume_layout.specs.Layout.{third_start}
use Rattle.sector_disk.specs.Machine.{Ledger, wrote}
use Rattle.sector_disk.specs.Calls.{load_failed_at}
use Rattle.sector_disk.proofs.CallLaws.{told_up, writes_none, writes_then, writes_told}
use Rattle.sector_disk.proofs.Holding.{wears_none}
use Rattle.fsd_log.specs.Scan.{Placed}
use Rattle.log_thirds.specs.Append.{IsIndexed, IsLeastOfThird, NoneOfThird}
use Rattle.fsd_log.specs.Slots.{IsLeastIn, NoneLiesIn}
use Rattle.group_commit.specs.Entering.{HomesInPart, ShowsStill}
use Rattle.group_commit.specs.Room.{pages_in_first}
use Rattle.group_commit.proofs.CountLaws.{count_next, count_done, count_part, wrote_on, wrote_none, handed_up}
use Rattle.group_commit.proofs.HomingLaws.{begin, stays, all_homed}
use Rattle.group_commit.proofs.OutsideLaws.{outside_none, outside_then}
use Rattle.group_commit.proofs.entering.home_third.Goals as goal
use Rattle.twin_home.proofs.TwinsLaws.{wrote_more}

pub loop-page-init : goal.loop-page-init
loop-page-init g c =
    let M = g.M.Machine in
    let old = M.now c.args.m.now in
    let log = c.args.log.now in
    record {
      inside = omega arith;
      disk = writes_none c.args.m.now (λ left h at. g.met.M.Machine.only_now c.args.m.now left h at) (ShowsStill log)
          (λ h records disk windows may over. stays log records disk windows old may 0 old (begin log records disk windows old may over) old (wears_none old));
      counted = λ t. wrote_none (M.ledger c.args.m.now) _ refl;
      rest = λ h. outside_none log.layout old;
      homing = λ records disk windows h may over. begin log records disk windows old may over;
    }

pub loop-page-preserved : goal.loop-page-preserved
loop-page-preserved g c =
    let M = g.M.Machine in
    let old = M.now c.args.m.now in
    let log = c.args.log.now in
    let so_far = c.loop-page.invariant in
    let writes = c.in_ok-home_page-in-Some.ensures.disk in
    let back = writes.trust.honest in
    let page = c.in-Some.page in
    let slot = subst (λ (t : ℕ). IsLeastIn log.slots c.loop-page.from (third_start log.layout t) log.layout.third c.in-Some.page) c.requires.first c.in-Some.ensures.slot in
    let next = count_next log.slots c.loop-page.from (third_start log.layout log.anchor.third) log.layout.third c.in-Some.page slot in
    let least : (records : List Placed) → IsIndexed log records → IsLeastOfThird log records log.anchor.third c.loop-page.from c.in-Some.page =
    λ records indexed. subst (λ (t : ℕ). IsLeastOfThird log records t c.loop-page.from c.in-Some.page) c.requires.first (c.in-Some.ensures.least records indexed) in
    record {
      inside = omega (arith, slot.there, c.attest.ensures.table);
      disk = writes_then so_far.disk writes (λ h left so. so) (λ h left shows records disk windows may over.
          shows records disk windows old c.loop-page.from may ((least records over.indexed).lies) (so_far.homing records disk windows (writes.trust.honest h) may over));
      counted = λ t. c.in_ok-home_page-in-Some.ensures.counted t ∙ ap (λ x. wrote x 2) (so_far.counted (writes.trust.tells t)) ∙ wrote_more (M.ledger c.args.m.now) _ 2 _ (omega (arith, next));
      rest = λ h. let h1 = back h in outside_then log.layout old (M.now c.loop-page.m) (M.now c.home_page.new.m) (so_far.disk.windows h1) (so_far.rest h1) (c.in_ok-home_page-in-Some.ensures.rest h);
      homing = λ records disk windows h may over.
          let is = least records over.indexed in
          c.in_ok-home_page-in-Some.ensures.done records disk windows old c.loop-page.from h may is.lies is.before (so_far.homing records disk windows (back h) may over);
    }

pub returns-in_err-home_page-in-Some-clause-disk : goal.returns-in_err-home_page-in-Some-clause-disk
returns-in_err-home_page-in-Some-clause-disk g c =
    let M = g.M.Machine in
    let old = M.now c.args.m.now in
    let log = c.args.log.now in
    let so_far = c.loop-page.invariant in
    let writes = c.in_err-home_page-in-Some.ensures.disk in
    let least : (records : List Placed) → IsIndexed log records → IsLeastOfThird log records log.anchor.third c.loop-page.from c.in-Some.page =
    λ records indexed. subst (λ (t : ℕ). IsLeastOfThird log records t c.loop-page.from c.in-Some.page) c.requires.first (c.in-Some.ensures.least records indexed) in
    writes_told (told_up load_failed_at c.from_residual.result c.in_err-home_page-in-Some.field-0.0 c.from_residual.ensures.1)
    (writes_then so_far.disk writes (λ h left so. so) (λ h left shows records disk windows may over.
    shows records disk windows old c.loop-page.from may ((least records over.indexed).lies) (so_far.homing records disk windows (writes.trust.honest h) may over)))

pub returns-in_err-home_page-in-Some-clause-failed : goal.returns-in_err-home_page-in-Some-clause-failed
returns-in_err-home_page-in-Some-clause-failed g c =
    let M = g.M.Machine in
    let log = c.args.log.now in
    let so_far = c.loop-page.invariant in
    let start = third_start log.layout log.anchor.third in
    let slot = subst (λ (t : ℕ). IsLeastIn log.slots c.loop-page.from (third_start log.layout t) log.layout.third c.in-Some.page) c.requires.first c.in-Some.ensures.slot in
    let next = count_next log.slots c.loop-page.from start log.layout.third c.in-Some.page slot in
    let part = count_part log.slots start log.layout.third (c.in-Some.page + 1) in
    let said = c.in_err-home_page-in-Some.ensures in
    handed_up (HomesInPart M log (2 * pages_in_first log) c.args.m.now c.home_page.new.m) c.from_residual.result c.in_err-home_page-in-Some.field-0.0 c.from_residual.ensures.1
    (record {
      counted = λ t. wrote_on (M.ledger c.args.m.now) (M.ledger c.loop-page.m) (M.ledger c.home_page.new.m) _ 2 _ (ap (λ (l : Ledger). l.written) (so_far.counted (said.disk.trust.tells t))) (said.failed.counted t) (omega (arith, next, part));
      lost = said.failed.lost;
      never_lost = λ records disk windows h may over. said.failed.never_lost records disk windows (M.now c.args.m.now) c.loop-page.from h may (so_far.homing records disk windows (said.disk.trust.honest h) may over);
    })

pub returns-in-None-clause-counted : goal.returns-in-None-clause-counted
returns-in-None-clause-counted g c t =
    let M = g.M.Machine in
    let log = c.args.log.now in
    let none = subst (λ (t : ℕ). NoneLiesIn log.slots c.loop-page.from (third_start log.layout t) log.layout.third) c.requires.first c.in-None.ensures.no_slot in
    c.loop-page.invariant.counted t
    ∙ ap (λ (n : ℕ). wrote (M.ledger c.args.m.now) (2 * n)) (count_done log.slots c.loop-page.from (third_start log.layout log.anchor.third) log.layout.third (omega (arith, c.loop-page.invariant.inside, c.attest.ensures.table)) none)

pub returns-in-None-clause-done : goal.returns-in-None-clause-done
returns-in-None-clause-done g c records disk windows h may over =
    let M = g.M.Machine in
    let old = M.now c.args.m.now in
    let log = c.args.log.now in
    let none = subst (λ (t : ℕ). NoneOfThird log records t c.loop-page.from) c.requires.first (c.in-None.ensures.none records over.indexed) in
    all_homed log records disk windows old may c.loop-page.from (M.now c.loop-page.m) (c.loop-page.invariant.homing records disk windows h may over) none

pub returns-in_err-home_page-in-Some-clause-rest : goal.returns-in_err-home_page-in-Some-clause-rest
returns-in_err-home_page-in-Some-clause-rest g c h =
    let M = g.M.Machine in
    let so_far = c.loop-page.invariant in
    let said = c.in_err-home_page-in-Some.ensures in
    let h1 = said.disk.trust.honest h in
    outside_then c.args.log.now.layout (M.now c.args.m.now) (M.now c.loop-page.m) (M.now c.home_page.new.m) (so_far.disk.windows h1) (so_far.rest h1) (said.rest h)
