-- What a call of the machine reports. It tells nothing of content, so what an honest machine shows is not asked of it.
use Rattle.std.proofs.Common.{◌≡◌, ◌≤◌, ◌+◌, ◌-◌, ◌^◌, ℕ, min, Ok, Err, refl, sym, subst, arith}
use Rattle.sector_disk.specs.Machine.{DeviceFault, DiskCause, InputCause, OutputCause, Report, Trusts, UsesDisk}
use Rattle.sector_disk.specs.declared.machine.Failed.{Failed}

module _ {T : Type 0} {old mid : Report} where
  -- a call of the disk that does not fail, whatever its number of sectors is then
  pub disk_goes : (sectors place : ℕ) (x : T) → mid ≡ old → DiskCause old (record mid { sectors = sectors }) place (Ok x)
  disk_goes sectors place x e =
      subst (λ (r : Report). DiskCause r (record mid { sectors = sectors }) place (Ok x)) e record {
        disk = record { later = omega arith; stays = refl; failed = tt };
        names = tt;
        told = tt;
        untold = refl;
        input = refl;
        output = refl;
      }

  -- one that fails, at the place that its fault is told of
  pub disk_fails : {new : Report} (place : ℕ) (failed : Failed) → mid ≡ old → failed.place ≡ place → DeviceFault mid new place → UsesDisk mid new → DiskCause {T = T} old new place (Err failed)
  disk_fails {new} place failed e is device uses =
      subst (λ (r : Report). DiskCause {T = T} r new place (Err failed)) e record {
        disk = record { later = uses.disk; stays = tt; failed = device.rose };
        names = is;
        told = sym device.told;
        untold = tt;
        input = uses.input;
        output = uses.output;
      }

  -- the same, at the place that it tells
  pub disk_fails_there : {new : Report} (place : ℕ) (failed : Failed) → mid ≡ old → failed.place ≡ place → DeviceFault mid new place → UsesDisk mid new → DiskCause {T = T} old new failed.place (Err failed)
  disk_fails_there {new} place failed e is device uses = subst (λ (p : ℕ). DiskCause {T = T} old new p (Err failed)) (sym is) (disk_fails place failed e is device uses)

  pub input_goes : (x : T) → mid ≡ old → InputCause {E = Failed} old mid (Ok x)
  input_goes x e =
      subst (λ (r : Report). InputCause {E = Failed} r mid (Ok x)) e record {
        sectors = refl;
        input = record { later = omega arith; stays = refl; failed = tt };
        place = refl;
        disk = refl;
        output = refl;
      }

  pub input_fails : (count : ℕ) (failed : Failed) → mid ≡ old → mid.input_faults ≤ count → count ≡ min (mid.input_faults + 1) (2 ^ 64 - 1) → InputCause {T = T} old (record mid { input_faults = count }) (Err failed)
  input_fails count failed e later is =
      subst (λ (r : Report). InputCause {T = T} r (record mid { input_faults = count }) (Err failed)) e record {
        sectors = refl;
        input = record { later = later; stays = tt; failed = omega (arith, is) };
        place = refl;
        disk = refl;
        output = refl;
      }

  pub output_goes : (x : T) → mid ≡ old → OutputCause {E = Failed} old mid (Ok x)
  output_goes x e =
      subst (λ (r : Report). OutputCause {E = Failed} r mid (Ok x)) e record {
        sectors = refl;
        output = record { later = omega arith; stays = refl; failed = tt };
        place = refl;
        disk = refl;
        input = refl;
      }

  pub output_fails : (count : ℕ) (failed : Failed) → mid ≡ old → mid.output_faults ≤ count → count ≡ min (mid.output_faults + 1) (2 ^ 64 - 1) → OutputCause {T = T} old (record mid { output_faults = count }) (Err failed)
  output_fails count failed e later is =
      subst (λ (r : Report). OutputCause {T = T} r (record mid { output_faults = count }) (Err failed)) e record {
        sectors = refl;
        output = record { later = later; stays = tt; failed = omega (arith, is) };
        place = refl;
        disk = refl;
        input = refl;
      }

pub no_trust : Trusts ⊥ ⊥ ⊥ ⊥
no_trust = record { tells = λ h. h; honest = λ h. h }
