-- Growth of a volume: what it leaves.
use Rattle.std.specs.Prelude.{◌≡◌, ℕ, max, ◌-◌, ◌++◌, List, Some, Result, Ok, Err}
use Rattle.std.specs.List.{range_with_len}
use Rattle.volume_layout.specs.Layout.{with_sectors}
use Rattle.fsd_bytes.specs.declared.refusal.Refusal.{Refusal}
use Rattle.fsd_bytes.specs.declared.refusal.Refusal.TheVariants as Why
use Rattle.sector_disk.specs.declared.machine.Machine.{Ghosts}
use Rattle.sector_disk.specs.Machine.{Moment}
use Rattle.run_table.specs.declared.run.Run.{Run}
use Rattle.run_table.specs.RunTable.{sectors_of, total}
use Rattle.run_table.specs.Space.{runs_of}
use Rattle.fsd_log.specs.Scan.{Placed}
use Rattle.fsd_files.specs.Answers.{grown}
use Rattle.fsd_files.specs.Disk.{Sectors, TouchesLonger}
use Rattle.fsd_sound.specs.Mounted.{Mounted}
use Rattle.volume_contract.specs.State.{Counted, Known, LeavesRelaid, Stands, State, volume_of}

-- ---- over any machine

-- the sectors of the runs, and all from one number to another behind them
abbrev pub with_more : (from to : ℕ) → List Run → List Run
with_more from to runs = runs_of (sectors_of runs ++ range_with_len from (to - from))

-- it has so many sectors in all, and those behind the old ones are free
abbrev pub grown_state : ℕ → State → State
grown_state n s = record s { layout = with_sectors n s.layout; free = with_more s.layout.sectors n s.free; freed = with_more s.layout.sectors n s.freed }

-- It has so many sectors in all, so many of them free, and the disk tells as many, or those that it told, if these are more.
pub record HasGrown {D : Type 0} (M : Ghosts D) (n count : ℕ) (old new : State) (before now : D) : Type 0 where
  pub state : new ≡ grown_state n old
  pub free : count ≡ total new.free
  pub sectors : (M.report now).sectors ≡ max (M.report before).sectors n

-- Where it writes, how many sectors it counts as written, and how many the image has at most.
pub record WritesLonger {D T : Type 0} (M : Ghosts D) (n : ℕ) (may : Sectors) (count : ℕ) (old new : D) (result : Result T Refusal) : Type 0 where
  pub rest : M.honest new → TouchesLonger n may (M.now old) (M.now new)
  pub counted : M.tells new → Counted result count (M.ledger old) (M.ledger new)

-- ---- over an honest machine

abbrev pub grown_known : ℕ → Known → Known
grown_known n k = record k { mounted = record k.mounted { volume = grown n (volume_of k) } }

module _ {S : Type 0} (state : S → State) (has : S → Mounted → List Placed → Type 0) where
  -- a root that says another layout says that with so many sectors
  abbrev pub LeavesGrown : ℕ → S → Sectors → (old left : Moment) → Type 0
  LeavesGrown n s may old left = (k : Known) → Stands state has s k old → LeavesRelaid k (with_sectors n k.mounted.volume.layout) (TouchesLonger n may old left) old left

  -- it has grown, or doesn't, or the disk has failed
  abbrev pub EndsGrow : {T : Type 0} → ℕ → Known → S → Moment → Result T Refusal → Type 0
  EndsGrow n k new now (Ok x) = Stands state has new (grown_known n k) now
  EndsGrow n k new now (Err (Why.Device s)) = (state new).down ≡ Some s
  EndsGrow n k new now (Err (Why.NotLarger asked)) = Stands state has new k now
  EndsGrow n k new now (Err (Why.PastMost most)) = Stands state has new k now
  EndsGrow n k new now (Err other) = ⊥
