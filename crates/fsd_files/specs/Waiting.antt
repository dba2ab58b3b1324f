-- Which sectors of a volume wait, which may be written before the next force, and that a change lets nothing go.
use Rattle.std.specs.Prelude.{◌≡◌, ℕ, suc, Bool, not, ◌&&◌, ◌||◌, List, ◌++◌, take, IsTrue, IsFalse}
use Rattle.std.specs.List.{list_all, list_any}
use Rattle.volume_layout.specs.Layout.{is_data}
use Rattle.run_table.specs.declared.run.Run.{Run}
use Rattle.run_table.specs.RunTable.{same_runs, sectors_of}
use Rattle.run_table.specs.Space.{contains}
use Rattle.fsd_formats.specs.declared.entry.Entry.{Entry}
use Rattle.fsd_files.specs.Space.{Apart}
use Rattle.fsd_files.specs.Volume.{Volume, plans_of, is_in, in_version, is_free}

-- the runs are these very ones, or share no sector with them
abbrev pub are_same_or_apart : List Run → List Run → Bool
are_same_or_apart held runs = same_runs held runs || not (list_any (λ s. contains (sectors_of held) s) (sectors_of runs))

-- Versions and drafts are apart. What went, and what readers hold, lies in the data area, and no draft has a sector of
-- it. What went is in no version. A reader holds a version's very runs, or nothing of it.
pub record IsSpaced (v : Volume) : Type 0 where
  pub apart : Apart v.layout (plans_of v.entries ++ v.drafts)
  pub area : (s : ℕ) → IsTrue (contains v.removed s || is_in v.held s) → IsTrue (is_data v.layout s)
  pub drafts : (s : ℕ) → IsTrue (is_in v.drafts s) → IsFalse (contains v.removed s || is_in v.held s)
  pub removed : (s : ℕ) → IsTrue (contains v.removed s) → IsFalse (in_version v s)
  pub held : IsTrue (list_all (λ runs. list_all (λ e. are_same_or_apart runs e.runs) v.entries) v.held)

-- a reader alone keeps the sector: its version went before the last force
abbrev pub is_kept_alone : Volume → ℕ → Bool
is_kept_alone v s = is_in v.held s && not (in_version v s) && not (contains v.removed s)

-- what the forced changes have let go: the next creation may take it, an unfinished one has taken it,
-- or a reader alone keeps it
abbrev pub is_let_go : Volume → ℕ → Bool
is_let_go v s = is_free v s || is_in v.drafts s || is_kept_alone v s

-- the first sector of a version
abbrev pub is_leader : List Entry → ℕ → Bool
is_leader entries s = list_any (λ e. contains (take 1 (sectors_of e.runs)) s) entries

-- Of two volumes the later has one more change, which waits, and has let nothing go that the other has not.
pub record Changes (old new : Volume) : Type 0 where
  pub layout : new.layout ≡ old.layout
  pub unforced : new.unforced ≡ suc old.unforced
  pub epoch : new.serial.epoch ≡ old.serial.epoch
  pub spaced : IsSpaced new
  pub fewer : (s : ℕ) → IsFalse (is_let_go old s) → IsFalse (is_let_go new s)
  pub leaders : (s : ℕ) → IsFalse (is_let_go old s) → IsTrue (is_leader new.entries s) → IsTrue (is_leader old.entries s)
