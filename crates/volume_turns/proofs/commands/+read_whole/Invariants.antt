use Rattle.std.proofs.Common.{◌-◌}
use Rattle.fsd_formats.specs.NamePage.{max_length}
use Rattle.volume_turns.proofs.commands.+read_whole.Given as goal

-- how much room more there may be
abbrev pub decreases-read_whole : goal.decreases-read_whole
decreases-read_whole g l = max_length - l.most
