-- Sectors that belong to no version and are not free yet.
use Rattle.std.specs.Prelude.{ℕ, ◌-◌, ◌≡◌, Bool, ◌||◌, List, [], ◌∷◌, set, Option, Some, None, IsTrue, IsFalse}
use Rattle.run_table.specs.declared.run.Run.{Run}
use Rattle.run_table.specs.RunTable.{run_of}
use Rattle.run_table.specs.Space.{contains, where_free}
use Rattle.sector_set.specs.Area.{Area, without_sectors, AreOut, IsOwn}
use Rattle.shadow_frees.specs.Readers.{Slots, AreSlots, unheld, with_held}

-- those of versions that were removed since the last force, those of versions removed earlier that readers still hold,
-- those of unfinished creations, and what readers hold
pub record Waits : Type 0 where
  pub removed : Area
  pub kept : Area
  pub unfinished : Area
  pub held : Slots

-- whether a sector waits
abbrev pub waits_in : Waits → ℕ → Bool
waits_in w s = contains w.removed.sectors s || (contains w.kept.sectors s || contains w.unfinished.sectors s)

-- the sectors that wait, in order
abbrev pub waiting_sectors : Waits → List ℕ
waiting_sectors w = where_free (waits_in w) w.removed.from w.removed.to

-- these sectors do not wait, and each is named once
abbrev pub AreIdle : Waits → List Run → Type 0
AreIdle w runs = AreOut w.removed runs × AreOut w.kept runs × AreOut w.unfinished runs

-- no sector of one is in the other
pub record AreDisjoint (one other : Area) : Type 0 where
  pub from : one.from ≡ other.from
  pub to : one.to ≡ other.to
  pub apart : (s : ℕ) → IsTrue (contains one.sectors s) → IsFalse (contains other.sectors s)

-- no sector waits twice, and what readers hold was removed as a whole
pub record AreSound (removed kept unfinished : Area) (held : Slots) : Type 0 where
  pub removed_kept : AreDisjoint removed kept
  pub removed_unfinished : AreDisjoint removed unfinished
  pub kept_unfinished : AreDisjoint kept unfinished
  pub own : IsOwn kept
  pub slots : AreSlots removed kept held

-- a start and an end as a run
abbrev pub run_between : ℕ × ℕ → Run
run_between p = run_of p.0 (p.1 - p.0)

-- what is left where a run was given
abbrev pub left_after : Area → Option (ℕ × ℕ) → Area
left_after removed None = removed
left_after removed (Some p) = without_sectors removed (run_between p ∷ [])

-- what is left where runs were given back
abbrev pub left_kept : Area → Option (List Run) → Area
left_kept kept None = kept
left_kept kept (Some runs) = without_sectors kept runs

-- Of the sectors that nobody holds a run is given, if there is one; those that a reader holds are kept, and the rest stays.
pub record GivesRun (old new : Waits) (given : Option (ℕ × ℕ)) : Type 0 where
  pub left : new.removed ≡ left_after (unheld old.held old.removed) given
  pub kept : new.kept ≡ with_held old.held old.kept old.removed
  pub unfinished : new.unfinished ≡ old.unfinished
  pub held : new.held ≡ old.held

-- A slot is empty now. What became free by that is kept no more, and the rest stays.
pub record EmptiesSlot (old new : Waits) (slot : ℕ) (freed : Option (List Run)) : Type 0 where
  pub held : new.held ≡ set old.held slot None
  pub removed : new.removed ≡ old.removed
  pub kept : new.kept ≡ left_kept old.kept freed
  pub unfinished : new.unfinished ≡ old.unfinished
