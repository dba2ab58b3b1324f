use Rattle.volume_turns.proofs.HealLaws.{upgrade_heals}
use Rattle.volume_turns.proofs.once.alone.Goals as goal

pub returns-in-Upgrade : goal.returns-in-Upgrade
returns-in-Upgrade g c =
    let e = c.upgrade_alone.ensures in
    rw c.in-Upgrade.is (record { speaks = e.speaks; status = e.status; answers = e.answers; heals = λ h clean. upgrade_heals c.upgrade_alone.result; does = e.does })

pub returns-in-Grow : goal.returns-in-Grow
returns-in-Grow g c =
    let e = c.grow_alone.ensures in
    rw c.in-Grow.is (record { speaks = e.speaks; status = e.status; answers = e.answers; heals = λ h clean. upgrade_heals c.grow_alone.result; does = e.does })
