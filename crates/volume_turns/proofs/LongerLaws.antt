-- An image that may get more sectors: how many are told, what is touched, and what a call leaves.
use Rattle.std.proofs.Common.{◌≡◌, ℕ, Bool, List, Option, true, false, refl, sym, subst, arith}
use Rattle.std.specs.Prelude.{IsFalse}
use Rattle.sector_disk.specs.declared.machine.Machine.{Ghosts}
use Rattle.sector_disk.specs.Calls.{GrowsDisk, Since, WritesDisk}
use Rattle.sector_disk.proofs.CallLaws.{writes_none}
use Rattle.sector_disk.specs.Image.{IsWorn, Windows, open_damage, sector_at}
use Rattle.sector_disk.specs.Machine.{LeavesOnly, Moment}
use Rattle.fsd_files.specs.Disk.{Sectors, SectorWorn, Touches, TouchesLonger, nowhere}
use Rattle.fsd_texts.specs.declared.command.Command.{Command}
use Rattle.fsd_texts.specs.declared.command.Command.TheVariants as Word
use Rattle.scrub.proofs.LeadLaws.{touches_then, worn_then, worn_touches}
use Rattle.fsd_log.specs.Scan.{Placed}
use Rattle.fsd_sound.specs.Mounted.{Mounted}
use Rattle.volume_contract.specs.State.{State}
use Rattle.volume_turns.specs.Commands.{TouchesIn}
use Rattle.volume_turns.specs.Steps.{Stays, is_alone, may_grow}
use Rattle.volume_turns.specs.Turns.{KeepsSectors}
use Rattle.volume_turns.proofs.StaysLaws.{mounted_stays}

-- ---- how many are told

-- one that is done among others by no run of its own
pub never_grows : (command : Command) → is_alone command ≡ false → may_grow command ≡ false
never_grows (Word.Grow sectors) other = absurd (cc other)
never_grows command other = refl

pub keeps_same : (longer : Bool) (a b : ℕ) → b ≡ a → KeepsSectors longer a b
keeps_same false a b same = same
keeps_same true a b same = omega (arith, same)

-- behind what keeps them, and in front of it
pub keeps_behind : (longer : Bool) (a m b : ℕ) → m ≡ a → KeepsSectors longer m b → KeepsSectors longer a b
keeps_behind longer a m b same keeps = subst (λ (n : ℕ). KeepsSectors longer n b) same keeps

pub keeps_before : (longer : Bool) (a m b : ℕ) → KeepsSectors longer a m → b ≡ m → KeepsSectors longer a b
keeps_before longer a m b keeps same = subst (λ (n : ℕ). KeepsSectors longer a n) (sym same) keeps

-- ---- what is touched

pub then_worn : (may : Sectors) (a b c : Moment) → b.windows ≡ a.windows → Touches may a b → IsWorn (open_damage b.windows) b.image c.image → Touches may a c
then_worn may a b c windows first worn = touches_then may may may a b c (λ s out. out) (λ s out. out) windows first (worn_touches may b c worn)

longer_then : (n : ℕ) (earlier later may : Sectors) (a b c : Moment) → ((s : ℕ) → IsFalse (may s) → IsFalse (earlier s)) → ((s : ℕ) → IsFalse (may s) → IsFalse (later s)) → b.windows ≡ a.windows → TouchesLonger n earlier a b → Touches later b c → TouchesLonger n may a c
longer_then n earlier later may a b c more_first more_then windows first second = record {
  size = omega (arith, first.size, second.size);
  most = omega (arith, first.most, second.size);
  others = λ s out. worn_then (open_damage a.windows s) (sector_at a.image s) (sector_at b.image s) (sector_at c.image s) (first.others s (more_first s out))
      (subst (λ (w : Windows). SectorWorn (open_damage w s) (sector_at b.image s) (sector_at c.image s)) windows (second.others s (more_then s out)));
}

-- by any command
pub in_then : (command : Command) (earlier later may : Sectors) (a b c : Moment) → ((s : ℕ) → IsFalse (may s) → IsFalse (earlier s)) → ((s : ℕ) → IsFalse (may s) → IsFalse (later s)) → b.windows ≡ a.windows → TouchesIn command earlier a b → Touches later b c → TouchesIn command may a c
in_then (Word.Grow n) earlier later may a b c more_first more_then windows first second = longer_then n earlier later may a b c more_first more_then windows first second
in_then command earlier later may a b c more_first more_then windows first second = touches_then earlier later may a b c more_first more_then windows first second

pub in_worn : (command : Command) (may : Sectors) (a b c : Moment) → b.windows ≡ a.windows → TouchesIn command may a b → IsWorn (open_damage b.windows) b.image c.image → TouchesIn command may a c
in_worn command may a b c windows first worn = in_then command may nowhere may a b c (λ s out. out) (λ s out. refl) windows first (worn_touches nowhere b c worn)

-- ---- what is left

-- What a call that writes the disk leaves, whether or not the image has got more sectors.
pub record Wrote {D : Type 0} (M : Ghosts D) (R : Moment → Moment → Type 0) (old new : D) : Type 0 where
  pub back : M.honest new → M.honest old
  pub quiet : M.honest new → (M.now new).said ≡ (M.now old).said
  pub windows : M.honest new → (M.now new).windows ≡ (M.now old).windows
  pub exit : M.honest new → R (M.now old) (M.now new)
  pub since : M.honest new → Since M old new
  pub any_moment : M.honest new → LeavesOnly M.moment M.left_since old new (R (M.now old))

module _ {D : Type 0} {M : Ghosts D} {R : Moment → Moment → Type 0} {fault : Option ℕ} {a b : D} where
  pub wrote : WritesDisk M fault R a b → Wrote M R a b
  wrote w = record { back = w.trust.honest; quiet = w.quiet; windows = w.windows; exit = w.exit; since = w.since; any_moment = w.any_moment }

  pub wrote_longer : GrowsDisk M fault R a b → Wrote M R a b
  wrote_longer w = record { back = w.trust.honest; quiet = w.quiet; windows = w.windows; exit = w.exit; since = w.since; any_moment = w.any_moment }

-- nothing was called
pub wrote_none : {S D : Type 0} (state : S → State) (has : S → Mounted → List Placed → Type 0) (M : Ghosts D) (v : S) (a m : D) → m ≡ a → ((c : Moment) → M.honest a → M.left_since a (M.moment a) c → c ≡ M.now a) → Wrote M (Stays state has v) a m
wrote_none {D = D} state has M v a m same only_now = subst (λ (x : D). Wrote M (Stays state has v) a x) (sym same) (wrote (writes_none a only_now (Stays state has v) (λ h k stands. mounted_stays k (M.now a) (M.now a) stands.disk refl refl)))
