use Rattle.volume_laws.proofs.TakenLaws.{entries_taken}
use Rattle.volume_laws.proofs.laws.entries_are_taken.Goals as goal

pub returns : goal.returns
returns c = λ v k now e whole stands has. entries_taken v k.mounted _ whole stands.fits.layout stands.holds stands.fits.held stands.disk.spaced stands.disk.described.apart e has
