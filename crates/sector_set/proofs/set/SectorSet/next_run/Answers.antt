use Rattle.std.proofs.Common.{◌≡◌, ap, sym, ◌∙◌}
use Rattle.run_table.specs.Space.{contains}
use Rattle.sector_set.specs.SectorSet.{SectorsBelow}
use Rattle.sector_set.proofs.SetLaws.{none_from, run_from, within}
use Rattle.sector_set.proofs.set.SectorSet.next_run.Goals as goal

pub returns-then-start-self-clause-first : goal.returns-then-start-self-clause-first
returns-then-start-self-clause-first c =
    let end : c.self.inside.end ≡ c.args.self.now.end = ap (λ (v : SectorsBelow). v.end) c.self.view_is in
    none_from c.args.self.now.end c.args.at c.first-start.result (contains c.args.self.now.sectors) (rw end at c.first-start.ensures) (c.if-start-self.true ∙ end)

pub returns-clause-first : goal.returns-clause-first
returns-clause-first c =
    let end : c.self.inside.end ≡ c.args.self.now.end = ap (λ (v : SectorsBelow). v.end) c.self.view_is in
    run_from c.args.self.now.end c.args.at c.first-start.result c.first-stop.result (contains c.args.self.now.sectors) (rw end at c.first-start.ensures)
    (λ e. c.if-start-self.false (e ∙ sym end)) (rw end at c.first-stop.ensures)

pub returns-clause-within : goal.returns-clause-within
returns-clause-within c =
    let end : c.self.inside.end ≡ c.args.self.now.end = ap (λ (v : SectorsBelow). v.end) c.self.view_is in
    within c.args.self.now.end c.args.at c.first-start.result c.first-stop.result (contains c.args.self.now.sectors) (rw end at c.first-start.ensures)
    (λ e. c.if-start-self.false (e ∙ sym end)) (rw end at c.first-stop.ensures)
