use Rattle.std.proofs.Common.{◌∙◌, List, ap, subst, sym}
use Rattle.run_table.specs.declared.run.Run.{Run}
use Rattle.sector_set.specs.Area.{AreOut, together}
use Rattle.saved_map.proofs.RunLaws.{may_release, released}
use Rattle.saved_map.proofs.taking.release_run.Goals as goal

pub release-requires : goal.release-requires
release-requires c =
    subst (λ (runs : List Run). AreOut c.args.map.now runs) (sym c.one_run.ensures)
    (may_release c.args.map.now c.args.start c.args.stop c.requires.own c.requires.some c.requires.from c.requires.to c.requires.new)

pub returns : goal.returns
returns c =
    let is = released c.args.map.now c.args.start c.args.stop c.requires.own c.requires.some c.requires.from c.requires.to c.release.new.self
    (c.release.ensures ∙ ap (λ (runs : List Run). together c.args.map.now runs) c.one_run.ensures) in
    record { from = is.from; to = is.to; own = is.own; each = is.each }
