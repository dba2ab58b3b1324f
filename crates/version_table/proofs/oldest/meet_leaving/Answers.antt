use Rattle.std.proofs.Common.{◌≡◌, ◌+◌, ◌-◌, ◌∙◌, ap, arith, take, ℕ}
use Rattle.fsd_table.specs.Tree.{table_of}
use Rattle.version_table.specs.Met.{entries_left}
use Rattle.version_table.specs.Versions.{versions_of}
use Rattle.version_table.proofs.MeetLaws.{map_taken}
use Rattle.version_table.proofs.VersionLaws.{beyond_is}
use Rattle.version_table.proofs.oldest.meet_leaving.Goals as goal

pub returns-clause-gone : goal.returns-clause-gone
returns-clause-gone g c = λ trusted height tree.
    let keep = c.args.keep in
    let oldest = c.in_ok-oldest.oldest in
    let e = c.in_ok-oldest.ensures in
    let n = c.saturating_sub-beyond.result in
    let is : n ≡ oldest.count + 1 - keep = omega (arith, c.saturating_sub-beyond.ensures) in
    ap entries_left c.truncate.ensures.items ∙ map_taken n oldest.first.items ∙ ap (λ (m : ℕ). take m (entries_left oldest.first.items)) is
    ∙ beyond_is keep oldest.count (versions_of c.args.name.now (table_of (g.T.Pages.step c.args.t.now).images height)) (entries_left oldest.first.items) (omega (arith, c.if-keep-eq0.false)) (e.counted trusted height tree) (e.first trusted height tree)
