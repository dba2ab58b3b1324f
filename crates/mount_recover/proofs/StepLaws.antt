-- Steps of the mending, one behind another.
use Rattle.std.proofs.Common.{◌≡◌, ◌≤◌, ℕ, None, Result, Ok, Err, sym, ap, subst, arith}
use Rattle.std.specs.Prelude.{IsErrAnd}
use Rattle.std.proofs.lemmas.Result.{on_ok_weaker}
use Rattle.sector_disk.specs.declared.machine.Machine.{Ghosts}
use Rattle.sector_disk.specs.Calls.{HealsDisk}
use Rattle.sector_disk.proofs.CallLaws.{heals_then, heals_told}
use Rattle.fsd_sound.specs.Lost.{LostIn}
use Rattle.fsd_sound.specs.Mounting.{device_of_mount}
use Rattle.fsd_sound.specs.declared.fault.MountFault.{MountFault}
use Rattle.mount_recover.specs.Mending.{IsLoadFault}
use Rattle.mount_recover.specs.Steps.{MendsCopies}

module _ {D : Type 0} (M : Ghosts D) (Copies : ℕ → ℕ → Type 0) where
  -- one whose fault is handed up
  pub mends_up : {T : Type 0} (old new : D) (r : Result T MountFault) (fault : MountFault) → IsErrAnd r (λ told. told ≡ fault) → HealsDisk M (device_of_mount fault) old new → IsLoadFault fault → (M.honest new → LostIn Copies (M.now new).image fault) → MendsCopies M Copies old new r
  mends_up old new (Ok x) fault is disk load lost = absurd is
  mends_up old new (Err told) fault is disk load lost = record {
    disk = heals_told (ap device_of_mount is) disk;
    load = subst IsLoadFault (sym is) load;
    lost = λ h. subst (LostIn Copies (M.now new).image) (sym is) (lost h);
    grows = tt;
  }

  -- one behind others that ended well
  pub mends_on : {T : Type 0} (a b c : D) (r : Result T MountFault) → HealsDisk M None a b → (M.tells b → (M.ledger a).written ≤ (M.ledger b).written) → MendsCopies M Copies b c r → MendsCopies M Copies a c r
  mends_on a b c r first grew then = record {
    disk = heals_then first then.disk;
    load = then.load;
    lost = then.lost;
    grows = on_ok_weaker {P = M.tells c → (M.ledger b).written ≤ (M.ledger c).written} {Q = M.tells c → (M.ledger a).written ≤ (M.ledger c).written} r (λ grows t. omega (arith, grows t, grew (then.disk.trust.tells t))) then.grows;
  }
