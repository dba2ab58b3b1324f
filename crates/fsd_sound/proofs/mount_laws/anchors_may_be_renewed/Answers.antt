use Rattle.std.proofs.Common.{inl, inr, ⊎_elim, refl}
use Rattle.fsd_sound.proofs.RenewLaws.{renewed_shows}
use Rattle.fsd_sound.proofs.mount_laws.anchors_may_be_renewed.Goals as goal

pub returns : goal.returns
returns c = λ l windows choices epoch pages s i narrow at room homed older chosen shows.
    ⊎_elim (λ here. renewed_shows l windows narrow choices epoch pages s 12 i (inl (here, refl)) room homed older chosen shows)
    (λ here. renewed_shows l windows narrow choices epoch pages s 8 i (inr (here, refl)) room homed older chosen shows) at
