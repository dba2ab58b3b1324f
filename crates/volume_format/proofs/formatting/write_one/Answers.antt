use Rattle.std.proofs.Common.{◌≡◌, length, rules}
use Rattle.std.proofs.lemmas.Result.{on_ok_weaker}
use Rattle.volume_format.proofs.Laying.{holds_sector}
use Rattle.volume_format.proofs.WriteLaws.{sector_torn}
use Rattle.volume_format.proofs.formatting.write_one.Goals as goal

pub returns-clause-disk : goal.returns-clause-disk
returns-clause-disk g c =
    let size : length c.args.bytes.now ≡ 512 = search rules in
    sector_torn c.args.place c.args.bytes.now size c.write_sectors.ensures.writes

pub returns-clause-done : goal.returns-clause-done
returns-clause-done g c =
    let M = g.M.Machine in
    let size : length c.args.bytes.now ≡ 512 = search rules in
    on_ok_weaker c.write_sectors.result (λ written h. holds_sector (M.now c.args.m.now) (M.now c.write_sectors.new.m) c.args.place c.args.bytes.now size (written h)) c.write_sectors.ensures.written
