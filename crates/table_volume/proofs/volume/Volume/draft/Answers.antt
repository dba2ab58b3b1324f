use Rattle.std.proofs.Common.{arith, ◌≤◌}
use Rattle.fsd_formats.specs.NamePage.{max_keep}
use Rattle.volume_laws.proofs.PlaceLaws.{entry_good}
use Rattle.table_volume.proofs.volume.Volume.draft.Goals as goal

pub returns-clause-good : goal.returns-clause-good
returns-clause-good c =
    let small : 0 ≤ max_keep = omega arith in
    entry_good c.args.self.now.map (record { key = c.first_key.result; keep = 0; serial = c.self.inside.serial; length = c.args.length; runs = c.args.runs }) c.requires.place c.first_key.ensures small c.requires.most
