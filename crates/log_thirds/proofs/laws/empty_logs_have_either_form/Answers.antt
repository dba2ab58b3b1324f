use Rattle.std.proofs.Common.{◌≡◌, ◌<◌, ◌≤◌, ◌^◌, ◌*◌, ℕ, [], arith, ap, subst}
use Rattle.volume_layout.specs.Shape.{Shape}
use Rattle.volume_layout.specs.Layout.{with_kind}
use Rattle.fsd_log.specs.Judged.{Reader}
use Rattle.fsd_log.specs.Scan.{Head, IsLog, Walked, scan, tape, walk, start}
use Rattle.fsd_log.proofs.FreshLaws.{empty_log_from}
use Rattle.fsd_log.proofs.WalkLaws.{Goes, goes_of_walk}
use Rattle.log_thirds.proofs.laws.empty_logs_have_either_form.Goals as goal

-- the head behind no record is the one in front of it
number_of : (l : Shape) (epoch : ℕ) (disk : Reader) (h : Head) → IsLog l epoch 1 disk [] h → h.number ≡ 1
unfolding scan
number_of l epoch disk h log =
    let goes = subst (λ (w : Walked). Goes l epoch disk (start l 1) w.records w.head) log.scanned (goes_of_walk (3 * l.third) l epoch disk (start l 1)) in
    ap (λ (x : Head). x.number) goes

pub returns : goal.returns
returns c l kind epoch third disk h fits log =
    let number = number_of l epoch (tape l third disk) h log in
    empty_log_from (with_kind kind l) epoch 1 fits (omega arith) (tape l third disk) (λ w m from. log.fresh w m (omega (arith, number, from)))
