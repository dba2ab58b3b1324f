-- What the calls of a volume find and leave that look for damaged sectors and heal them.
use Rattle.std.specs.Prelude.{◌≡◌, ◌⊎◌, ⊤, ℕ, ◌+◌, ◌^◌, ◌≤◌, All, true, Contains, List, IsTrue, Result, Ok, Err}
use Rattle.volume_layout.specs.declared.layout.Layout.{Layout}
use Rattle.volume_layout.specs.Layout.{is_data}
use Rattle.run_table.specs.RunTable.{sectors_of}
use Rattle.run_table.specs.Space.{all_differ, contains}
use Rattle.fsd_bytes.specs.declared.refusal.Refusal.{Refusal}
use Rattle.fsd_bytes.specs.declared.refusal.Refusal.TheVariants as Why
use Rattle.fsd_formats.specs.declared.entry.Entry.{Entry}
use Rattle.fsd_formats.specs.NamePage.{is_entry}
use Rattle.sector_disk.specs.declared.sector.Sector.TheVariants.{Damaged}
use Rattle.sector_disk.specs.Damage.{AreLost}
use Rattle.sector_disk.specs.Image.{open_damage, sector_at}
use Rattle.sector_disk.specs.Machine.{Moment}
use Rattle.fsd_log.specs.Scan.{Placed}
use Rattle.fsd_files.specs.Disk.{Image, Sectors}
use Rattle.fsd_files.specs.Kept.{IsWhole}
use Rattle.fsd_sound.specs.Lost.{AreTwinCopies}
use Rattle.fsd_sound.specs.Mounted.{Mounted}
use Rattle.fsd_sound.specs.Sound.{is_twin}
use Rattle.volume_contract.specs.Causes.{IsTaken}
use Rattle.volume_contract.specs.State.{Known, LeavesSound, Stands, State, volume_of}

-- ---- entries

-- An entry that was met in the table: one by the grammar, whose sectors have numbers, are of the data area, each named
-- once, and taken.
pub record IsMet (s : State) (e : Entry) : Type 0 where
  pub entry : is_entry e ≡ true
  pub runs : All (λ r. r.start + r.length ≤ 2 ^ 32) e.runs
  pub within : (t : ℕ) → IsTrue (contains (sectors_of e.runs) t) → IsTrue (is_data s.layout t)
  pub differ : IsTrue (all_differ (sectors_of e.runs))
  pub taken : IsTaken s e

-- ---- copies that stand twice

-- what is told as lost is both copies, damaged in the image
abbrev pub LosesTwins : Layout → Image → Refusal → Type 0
LosesTwins l i (Why.Lost a b) = AreLost (AreTwinCopies l) i a b
LosesTwins l i why = ⊤

-- the sector is whole, or an open window has worn it
abbrev pub IsWholeBut : Moment → ℕ → Type 0
IsWholeBut now s = IsWhole now.image s ⊎ (IsTrue (open_damage now.windows s) × (sector_at now.image s ≡ Damaged))

abbrev pub TwinsStand : Layout → Moment → Type 0
TwinsStand l now = (s : ℕ) → IsTrue (is_twin l s) → IsWholeBut now s

-- ---- over an honest machine

module _ {S : Type 0} (state : S → State) (has : S → Mounted → List Placed → Type 0) where
  -- what a stop leaves of a call that writes there for an entry of the volume's
  abbrev pub LeavesWith : S → Entry → Sectors → Moment → Moment → Type 0
  LeavesWith s e may old left = (k : Known) → Stands state has s k old → Contains (volume_of k).entries e → LeavesSound k may old left

  -- it stands as it did, and nothing was lost
  abbrev pub StandsStill : {T : Type 0} → Known → S → Moment → Result T Refusal → Type 0
  StandsStill k new now (Ok x) = Stands state has new k now
  StandsStill k new now (Err (Why.Device s)) = Stands state has new k now
  StandsStill k new now (Err other) = ⊥
