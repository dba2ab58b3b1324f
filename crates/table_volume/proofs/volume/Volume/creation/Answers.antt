use Rattle.std.proofs.Common.{◌≤◌, List, sym, subst, arith}
use Rattle.run_table.specs.declared.run.Run.{Run}
use Rattle.fsd_formats.specs.NamePage.{max_keep, sectors_for}
use Rattle.volume_laws.specs.Placing.{IsPlace}
use Rattle.volume_laws.proofs.PlaceLaws.{entry_good}
use Rattle.volume_laws.proofs.SliceFits.{place_of_draft}
use Rattle.table_volume.proofs.volume.Volume.creation.Goals as goal

pub returns-clause-good : goal.returns-clause-good
returns-clause-good c =
    let d = c.args.draft.now in
    let unfinished = c.args.self.now.shadow.unfinished in
    let small : 0 ≤ max_keep = omega arith in
    let place = place_of_draft c.args.self.now c.attest.ensures d c.requires.draft in
    entry_good unfinished (record { key = c.first_key.result; keep = 0; serial = d.serial; length = d.length; runs = c.copied.result })
    (subst (λ (rs : List Run). IsPlace unfinished (sectors_for d.length) rs) (sym c.copied.ensures) place) c.first_key.ensures small c.requires.draft.small
