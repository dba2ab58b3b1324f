use Rattle.std.proofs.Common.{◌≡◌, ◌<◌, Bool, Ok, Some, sym, ap, subst, ◌∙◌}
use Rattle.std.proofs.lemmas.Result.{err_from_is_err_and, on_ok_weaker, IfErr-weaker}
use Rattle.sector_disk.specs.Damage.{IsDevice}
use Rattle.log_thirds.specs.LogValue.{LogValue}
use Rattle.log_thirds.specs.Images.{IsUnlogged}
use Rattle.group_commit.specs.Newest.{KnowsPages, newest_by}
use Rattle.group_commit.proofs.NewestLaws.{logged_newest, logged_lost, copy_stands, copies_lost, home_newest, home_lost}
use Rattle.group_commit.proofs.newest.NewestPageSource.load.Given as given
use Rattle.group_commit.proofs.newest.NewestPageSource.load.Goals as goal

pub returns-in_err-image_of-clause-never_lost : goal.returns-in_err-image_of-clause-never_lost
returns-in_err-image_of-clause-never_lost g c =
    let M = g.M.Machine in
    let told = err_from_is_err_and c.from_residual.result c.from_residual.ensures.1 in
    let log : LogValue = c.self.inside.log.now in
    let kept = c.in_err-image_of.ensures in
    rw told.1 (λ h knows.
    let known : KnowsPages log (M.now c.args.m.now) = subst (λ (x : LogValue). KnowsPages x (M.now c.args.m.now)) (sym c.self.view_is) knows in
    let within : c.args.page < log.layout.pages = subst (λ (x : LogValue). c.args.page < x.layout.pages) (sym c.self.view_is) c.requires.page in
    subst IsDevice (sym told.2) (logged_lost log c.args.page within (M.now c.args.m.now) known (M.now c.image_of.new.m).image (kept.reads.worn h).image c.in_err-image_of.field-0.0 (kept.failed.lost h)))

pub returns-then-branch-clause-newest : goal.returns-then-branch-clause-newest
returns-then-branch-clause-newest g c h knows =
    let old = g.M.Machine.now c.args.m.now in
    let log : LogValue = c.self.inside.log.now in
    let within : c.args.page < log.layout.pages = subst (λ (x : LogValue). c.args.page < x.layout.pages) (sym c.self.view_is) c.requires.page in
    subst (λ (x : LogValue). KnowsPages x old → newest_by x old.image c.args.page ≡ Some c.image_of.new.buf) c.self.view_is
    (λ known. logged_newest log c.args.page within old known c.image_of.new.buf (c.in_ok-image_of.ensures.whole (ap (λ (b : Bool). Ok b) c.if-branch.true) h)) knows

-- ---- where the log has no image

unlogged : (g : given.Over) (c : goal.After-load_home g) → IsUnlogged c.args.self.now c.args.page
unlogged g c = subst (λ (x : LogValue). IsUnlogged x c.args.page) c.self.view_is (c.in_ok-image_of.ensures.absent.0 (ap (λ (b : Bool). Ok b) c.if-branch.false))

same_layout : (g : given.Over) (c : goal.After-load_home g) → c.self.inside.layout ≡ c.args.self.now.layout
same_layout g c = sym c.self.invariant ∙ ap (λ (x : LogValue). x.layout) c.self.view_is

pub returns-clause-whole : goal.returns-clause-whole
returns-clause-whole g c =
    let M = g.M.Machine in
    on_ok_weaker c.load_home.result
    (λ shown h. copy_stands c.args.self.now c.args.page (unlogged g c) c.self.inside.layout (same_layout g c) (M.now c.args.m.now) (M.now c.image_of.new.m) (M.now c.load_home.new.m)
    (c.in_ok-image_of.ensures.reads.worn (c.load_home.ensures.reads.trust.honest h)) (c.load_home.ensures.reads.worn h) c.load_home.new.buf (shown h))
    c.load_home.ensures.shown

pub returns-clause-lost : goal.returns-clause-lost
returns-clause-lost g c =
    let M = g.M.Machine in
    IfErr-weaker c.load_home.result _ _
    (λ fault lost h. copies_lost c.args.self.now c.args.page (unlogged g c) c.self.inside.layout (same_layout g c) (M.now c.args.m.now) (M.now c.image_of.new.m) (M.now c.load_home.new.m)
    (c.in_ok-image_of.ensures.reads.worn (c.load_home.ensures.reads.trust.honest h)) (c.load_home.ensures.reads.worn h) fault (lost h))
    c.load_home.ensures.lost

pub returns-clause-newest : goal.returns-clause-newest
returns-clause-newest g c =
    let M = g.M.Machine in
    on_ok_weaker c.load_home.result
    (λ shown h knows. home_newest c.args.self.now c.args.page (unlogged g c) c.self.inside.layout (same_layout g c) (M.now c.args.m.now) (M.now c.image_of.new.m) (M.now c.load_home.new.m)
    (c.in_ok-image_of.ensures.reads.worn (c.load_home.ensures.reads.trust.honest h)) (c.load_home.ensures.reads.worn h) c.requires.page knows c.load_home.new.buf (shown h))
    c.load_home.ensures.shown

pub returns-clause-never_lost : goal.returns-clause-never_lost
returns-clause-never_lost g c =
    let M = g.M.Machine in
    IfErr-weaker c.load_home.result _ _
    (λ fault lost h knows. home_lost c.args.self.now c.args.page (unlogged g c) c.self.inside.layout (same_layout g c) (M.now c.args.m.now) (M.now c.image_of.new.m) (M.now c.load_home.new.m)
    (c.in_ok-image_of.ensures.reads.worn (c.load_home.ensures.reads.trust.honest h)) (c.load_home.ensures.reads.worn h) c.requires.page knows fault (lost h))
    c.load_home.ensures.lost
