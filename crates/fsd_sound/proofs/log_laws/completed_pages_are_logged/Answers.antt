use Rattle.fsd_sound.specs.Sound.{weak_of}
use Rattle.sector_disk.proofs.Wear.{worn_refl}
use Rattle.fsd_sound.proofs.CoverLaws.{logged_still}
use Rattle.fsd_sound.proofs.log_laws.completed_pages_are_logged.Goals as goal

pub returns : goal.returns
returns c = λ l windows choices i t front r page small apart shows taken joined copies logged.
    logged_still l (weak_of windows) i shows.readable.anchors (shows.readable.log i (worn_refl (weak_of windows) i)) t taken front r joined copies small apart page logged
