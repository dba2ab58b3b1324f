use Rattle.std.proofs.Common.{◌≡◌, ◌+◌, ◌/◌, replicate, rules}
use Rattle.sector_set.proofs.SetLaws.{no_sector}
use Rattle.sector_set.proofs.set.SectorSet.new.Goals as goal

pub returns : goal.returns
returns c = let zeros : c.in_ok-words.words.items ≡ replicate (c.args.end / 64 + 1) 0 = search rules in no_sector c.args.end (c.args.end / 64 + 1) c.in_ok-words.words.items zeros
