use Rattle.std.proofs.Common.{rules, ◌≡◌, ℕ, Bool, List, length, Some, Ok, ap, subst, arith}
use Rattle.volume_layout.specs.declared.layout.Layout.{Layout}
use Rattle.sector_disk.specs.declared.machine.LoadFault.TheVariants.{Device}
use Rattle.sector_disk.specs.declared.sector.WeakRun.{WeakRun}
use Rattle.sector_disk.specs.Calls.{load_failed_at}
use Rattle.sector_disk.specs.Machine.{Holds, Ledger, Moment, Wears}
use Rattle.sector_disk.proofs.CallLaws.{reads_as_writes, reads_then_writes, told_up, writes_told}
use Rattle.sector_disk.proofs.Damage.{cause_as}
use Rattle.sector_disk.proofs.Holding.{wears_none}
use Rattle.fsd_log.specs.Images.{last_image}
use Rattle.fsd_log.specs.Scan.{Placed}
use Rattle.log_thirds.specs.Images.{AreLogged, AreOfLogged}
use Rattle.twin_home.specs.Home.{HomesIn, with_homes}
use Rattle.group_commit.specs.Entering.{HomesNoPage, IsHoming, MayHome, ShowsHoming}
use Rattle.group_commit.specs.Force.{KeepsOutside}
use Rattle.group_commit.proofs.CountLaws.{handed_up, wrote_on, wrote_same}
use Rattle.group_commit.proofs.HomingLaws.{slot_gives, slot_not_lost, image_is, still, stays, homes_stay, homes_next}
use Rattle.group_commit.proofs.OutsideLaws.{outside_homed, outside_read}
use Rattle.group_commit.proofs.entering.home_page.Given as given
use Rattle.group_commit.proofs.entering.home_page.Goals as goal
use Rattle.group_commit.proofs.entering.home_page.Goals.{After-write_home}

-- ---- where the log has the page's image

-- what was read is the last image that the log has of the page
is_last : (g : given.Over) (c : After-write_home g) (records : List Placed) (disk : List (List ℕ)) (windows : List WeakRun) (old : Moment) (n : ℕ) → g.M.Machine.honest c.write_home.new.m → MayHome c.args.log.now windows old
    → IsHoming c.args.log.now records disk windows old n (g.M.Machine.now c.args.m.now) → last_image c.args.page records ≡ Some c.image_of.new.buf
is_last g c records disk windows old n h may at =
    let now = g.M.Machine.now c.args.m.now in
    slot_gives c.args.log.now records disk windows old may n now at c.args.page c.image_of.new.buf (wears_none now)
    (c.in_ok-image_of.ensures.whole (ap (λ (b : Bool). Ok b) c.if-not-branch.false) (c.write_home.ensures.writes.trust.honest h))

-- whatever the write leaves of its homes, the disk shows the same pages
homes_left : (g : given.Over) (c : After-write_home g) (left : Moment) → g.M.Machine.honest c.write_home.new.m → HomesIn c.layout.result.now c.args.page c.image_of.new.buf (g.M.Machine.now c.image_of.new.m) left
    → ShowsHoming c.args.log.now c.args.page (g.M.Machine.now c.args.m.now) left
homes_left g c left h homes records disk windows old n may lies at =
    let log = c.args.log.now in
    let now = g.M.Machine.now c.args.m.now in
    let read = g.M.Machine.now c.image_of.new.m in
    let buf = c.image_of.new.buf in
    let long : length c.image_of.new.buf ≡ 512 = search rules in
    let last = is_last g c records disk windows old n h may at in
    homes_stay log records disk windows old may n read (still log records disk windows old may n now at read (c.in_ok-image_of.ensures.reads.worn (c.write_home.ensures.writes.trust.honest h))) c.args.page c.requires.page buf long
    (λ none. absurd (cc (none, last))) left
    (subst (λ (k : Layout). HomesIn k c.args.page c.image_of.new.buf read left) c.layout.ensures.value homes)

read_left : (g : given.Over) (c : After-write_home g) (left : Moment) → Wears (g.M.Machine.now c.args.m.now) left → ShowsHoming c.args.log.now c.args.page (g.M.Machine.now c.args.m.now) left
read_left g c left wears records disk windows old n may lies at = stays c.args.log.now records disk windows old may n (g.M.Machine.now c.args.m.now) at left wears

rest_homed : (g : given.Over) (c : After-write_home g) → g.M.Machine.honest c.write_home.new.m → KeepsOutside c.args.log.now.layout (g.M.Machine.now c.args.m.now) (g.M.Machine.now c.write_home.new.m)
rest_homed g c h =
    let M = g.M.Machine in
    let read = M.now c.image_of.new.m in let new = M.now c.write_home.new.m in
    let writes = c.write_home.ensures.writes in
    outside_homed c.args.log.now.layout (M.now c.args.m.now) read new (c.in_ok-image_of.ensures.reads.worn (writes.trust.honest h)) c.args.page c.requires.page c.image_of.new.buf
    (subst (λ (k : Layout). HomesIn k c.args.page c.image_of.new.buf read new) c.layout.ensures.value (writes.exit h))

pub returns-clause-disk : goal.returns-clause-disk
returns-clause-disk g c =
    let c1 = (goal.at.returns-clause-disk g c).After-write_home in
    reads_then_writes c.in_ok-image_of.ensures.reads c.in_ok-write_home.ensures.writes (λ h left wears. read_left g c1 left wears) (λ h left homes. homes_left g c1 left h homes)

pub returns-in_err-write_home-clause-disk : goal.returns-in_err-write_home-clause-disk
returns-in_err-write_home-clause-disk g c =
    let c1 = (goal.at.returns-in_err-write_home-clause-disk g c).After-write_home in
    writes_told (told_up load_failed_at c.from_residual-in_err-write_home.result (Device c.in_err-write_home.field-0.0.place) c.from_residual-in_err-write_home.ensures.1)
    (reads_then_writes c.in_ok-image_of.ensures.reads c.in_err-write_home.ensures.writes (λ h left wears. read_left g c1 left wears) (λ h left homes. homes_left g c1 left h homes))

pub returns-clause-done : goal.returns-clause-done
returns-clause-done g c records disk windows old n h may lies between at =
    let M = g.M.Machine in
    let c1 = (goal.at.returns-clause-done g c).After-write_home in
    let log = c.args.log.now in
    let now = M.now c.args.m.now in
    let read = M.now c.image_of.new.m in
    let buf = c.image_of.new.buf in
    let h1 = c.in_ok-write_home.ensures.writes.trust.honest h in
    let long : length c.image_of.new.buf ≡ 512 = search rules in
    let last = is_last g c1 records disk windows old n h may at in
    let later = still log records disk windows old may n now at read (c.in_ok-image_of.ensures.reads.worn h1) in
    let holds = subst (λ (k : Layout). Holds read (with_homes k c.args.page c.image_of.new.buf read.image 1 1) (M.now c.write_home.new.m)) c.layout.ensures.value (c.in_ok-write_home.ensures.done h) in
    homes_next log records disk windows old may n read later c.args.page c.requires.page buf long (λ none. absurd (cc (none, last)))
    (image_is log records disk windows old may later.image later.over c.args.page buf c.requires.page last) between (M.now c.write_home.new.m) holds

pub returns-in_err-write_home-clause-failed : goal.returns-in_err-write_home-clause-failed
returns-in_err-write_home-clause-failed g c =
    let M = g.M.Machine in
    let said = c.in_err-write_home.ensures in
    handed_up (HomesNoPage M c.args.log.now c.args.m.now c.write_home.new.m) c.from_residual-in_err-write_home.result (Device c.in_err-write_home.field-0.0.place) c.from_residual-in_err-write_home.ensures.1
    (record {
      counted = λ t. wrote_on (M.ledger c.args.m.now) (M.ledger c.image_of.new.m) (M.ledger c.write_home.new.m) 0 2 2
          (let same = ap (λ (l : Ledger). l.written) (c.in_ok-image_of.ensures.reads.ledger (said.writes.trust.tells t)) in omega (arith, same))
          (record { no_fewer = said.least t; no_more = said.most t }) (omega arith);
      lost = λ h. tt;
      never_lost = λ records disk windows old n h may at. tt;
    })

pub returns-clause-rest : goal.returns-clause-rest
returns-clause-rest g c h = rest_homed g (goal.at.returns-clause-rest g c).After-write_home h

pub returns-in_err-write_home-clause-rest : goal.returns-in_err-write_home-clause-rest
returns-in_err-write_home-clause-rest g c h = rest_homed g (goal.at.returns-in_err-write_home-clause-rest g c).After-write_home h

-- ---- where it has none, or that can't be read

pub returns-then-not-branch-clause-disk : goal.returns-then-not-branch-clause-disk
returns-then-not-branch-clause-disk g c =
    let now = g.M.Machine.now c.args.m.now in
    reads_as_writes c.in_ok-image_of.ensures.reads (λ h left wears records disk windows old n may lies at. stays c.args.log.now records disk windows old may n now at left wears)

pub returns-then-not-branch-clause-done : goal.returns-then-not-branch-clause-done
returns-then-not-branch-clause-done g c = absurd (c.requires.slot (c.in_ok-image_of.ensures.absent.0 (ap (λ (b : Bool). Ok b) c.if-not-branch.true)))

pub returns-then-not-branch-clause-rest : goal.returns-then-not-branch-clause-rest
returns-then-not-branch-clause-rest g c h =
    let M = g.M.Machine in
    outside_read c.args.log.now.layout (M.now c.args.m.now) (M.now c.image_of.new.m) (c.in_ok-image_of.ensures.reads.worn h)

pub returns-in_err-image_of-clause-disk : goal.returns-in_err-image_of-clause-disk
returns-in_err-image_of-clause-disk g c =
    let now = g.M.Machine.now c.args.m.now in
    writes_told (told_up load_failed_at c.from_residual.result c.in_err-image_of.field-0.0 c.from_residual.ensures.1)
    (reads_as_writes c.in_err-image_of.ensures.reads (λ h left wears records disk windows old n may lies at. stays c.args.log.now records disk windows old may n now at left wears))

pub returns-in_err-image_of-clause-failed : goal.returns-in_err-image_of-clause-failed
returns-in_err-image_of-clause-failed g c =
    let M = g.M.Machine in
    let log = c.args.log.now in
    let now = M.now c.args.m.now in let read = M.now c.image_of.new.m in
    let fault = c.in_err-image_of.field-0.0 in
    let said = c.in_err-image_of.ensures in
    handed_up (HomesNoPage M log c.args.m.now c.image_of.new.m) c.from_residual.result fault c.from_residual.ensures.1
    (record {
      counted = λ t. wrote_same (M.ledger c.args.m.now) (M.ledger c.image_of.new.m) 2 (said.reads.ledger t);
      lost = λ h. cause_as (AreLogged log c.args.page) (AreOfLogged log) read.image fault (λ a b logged. record { page = c.args.page; within = c.requires.page; logged = logged }) (said.failed.lost h);
      never_lost = λ records disk windows old n h may at. slot_not_lost log records disk windows old may n now at c.args.page read (said.reads.worn h) fault (said.failed.lost h);
    })

pub returns-in_err-image_of-clause-rest : goal.returns-in_err-image_of-clause-rest
returns-in_err-image_of-clause-rest g c h =
    let M = g.M.Machine in
    outside_read c.args.log.now.layout (M.now c.args.m.now) (M.now c.image_of.new.m) (c.in_err-image_of.ensures.reads.worn h)
