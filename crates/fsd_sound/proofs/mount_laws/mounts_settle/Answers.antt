use Rattle.fsd_sound.proofs.SettleLaws.{settles}
use Rattle.fsd_sound.proofs.mount_laws.mounts_settle.Goals as goal

pub returns : goal.returns
returns c = settles
