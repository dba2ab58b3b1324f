-- The past of a machine in memory, from which the moments since an earlier one are read.
-- A step tells a call, and what has to be put back to have the moment before it.
use Rattle.std.specs.Prelude.{◌≡◌, ◌⊎◌, ◌≤◌, ℕ, ◌+◌, ◌-◌, ◌/◌, min, ◌==◌, Bool, false, if◌then◌else◌, List, [], ◌∷◌, ◌++◌, length, take, drop, reverse, slice_set, Option, Some, None}
use Rattle.std.specs.List.{filter_map}
use Rattle.std.proofs.Common.{inl, inr, subst, arith}
use Rattle.std.proofs.lemmas.List.{drop_all}
use Rattle.sector_disk.specs.declared.sector.Sector.{Sector}
use Rattle.sector_disk.specs.declared.sector.Sector.TheVariants.{Damaged}
use Rattle.sector_disk.specs.declared.machine.Attach.{Attach}
use Rattle.sector_disk.specs.declared.machine.Attach.TheVariants.{Old, New}
use Rattle.memory_machine.specs.declared.event.Event.{Event}
use Rattle.memory_machine.specs.declared.past.Hurt.{Hurt}
use Rattle.memory_machine.specs.declared.past.Step.{Step}
use Rattle.memory_machine.specs.declared.past.Work.{Work}
use Rattle.memory_machine.specs.declared.past.Work.TheVariants.{Attaching, Writing, Extending, Saying, Syncing, Quiet}
use Rattle.sector_disk.specs.Image.{sector_at, lay}
use Rattle.memory_machine.specs.Events.{hurt_by}
use Rattle.sector_disk.specs.Machine.{Moment, Asked, Wears, Tears, Grows, Utters}

-- the hurt of a sector, with what it is in an image
abbrev pub hurt_in : List Sector → Option ℕ → Option Hurt
hurt_in image None = None
hurt_in image (Some sector) = Some record { sector = sector; was = sector_at image sector }

-- the hurts that the events have before a call
abbrev pub due : List Sector → ℕ → Bool → List Event → List Hurt
due image calls settle = filter_map (λ event. hurt_in image (hurt_by event calls settle))

-- the image after these sectors are hurt
abbrev pub hurt_all : List Hurt → List Sector → List Sector
hurt_all [] image = image
hurt_all (hurt ∷ hurts) image = hurt_all hurts (slice_set image hurt.sector Damaged)

-- the image before them
abbrev pub heal_all : List Hurt → List Sector → List Sector
heal_all [] image = image
heal_all (hurt ∷ hurts) image = slice_set (heal_all hurts image) hurt.sector hurt.was

-- the image before an attach: the one that was kept for a new one
abbrev pub unattached : Attach → List Sector → List Sector → List Sector
unattached Old kept now = now
unattached (New count) kept now = kept

-- the image before the call's own work
abbrev pub undone : Work → List Sector → List Sector
undone (Attaching path how kept) now = unattached how kept.items now
undone (Writing first bytes old done) now = lay now first (λ k. sector_at old.items k) (length old.items)
undone (Extending had count) now = take had now
undone (Saying bytes) now = now
undone (Syncing done) now = now
undone Quiet now = now

-- the moment before the step, from the one after it; a sync is no later than its moment, nor than the next sync
abbrev pub before : Step → Moment → Moment
before step now = record {
  image = heal_all step.hurts.items (undone step.work now.image);
  windows = record { present = step.present; next = step.next };
  said = take step.said now.said;
  time = now.time - 1;
  synced = min (min step.synced now.synced) (now.time - 1);
}

-- what a call may show on its way, by the moment before it
abbrev pub During : Work → Moment → Moment → Type 0
During (Attaching path how image) at left = Wears at left
During (Writing first bytes old done) at left = Tears first bytes.items at left
During (Extending had count) at left = Grows count at left
During (Saying bytes) at left = Utters bytes.items at left
During (Syncing done) at left = Wears at left
During Quiet at left = Wears at left

-- it is behind the sync of the moment before it, and later
pub record InCall (work : Work) (at left : Moment) : Type 0 where
  pub during : During work at left
  pub time : left.time ≡ at.time + 1
  pub synced : left.synced ≡ at.synced

-- what was there in one of the steps or before it, the newest first
abbrev pub LeftBack : Moment → List Step → Moment → Type 0
LeftBack now [] left = ⊥
LeftBack now (step ∷ steps) left = InCall step.work (before step now) left ⊎ ((left ≡ before step now) ⊎ LeftBack (before step now) steps left)

-- what was there from a moment on, which has been
abbrev pub LeftSince : Moment → List Step → ℕ → Moment → Type 0
LeftSince now past t left = (t ≤ length past) × ((left ≡ now) ⊎ LeftBack now (reverse (drop t past)) left)

-- the attach that a step asked for
abbrev pub attach_of : Work → List Asked
attach_of (Attaching path how image) = record { path = path.items; how = how } ∷ []
attach_of work = []

-- the attaches that were asked for
abbrev pub attaches_in : List Step → List Asked
attaches_in [] = []
attaches_in (step ∷ steps) = attach_of step.work ++ attaches_in steps

abbrev pub written_by : Work → ℕ
written_by (Writing first bytes old done) = if done then length bytes.items / 512 else 0
written_by work = 0

-- the sectors of writes that were done
abbrev pub written_in : List Step → ℕ
written_in [] = 0
written_in (step ∷ steps) = written_by step.work + written_in steps

abbrev pub synced_by : Work → ℕ
synced_by (Syncing done) = if done then 1 else 0
synced_by work = 0

-- the syncs that were done
abbrev pub syncs_in : List Step → ℕ
syncs_in [] = 0
syncs_in (step ∷ steps) = synced_by step.work + syncs_in steps

abbrev pub is_write_at : ℕ → Work → Bool
is_write_at sector (Writing first bytes old done) = first == sector
is_write_at sector work = false

-- the step is a write that begins at this sector
abbrev pub begins_at : ℕ → Step → Bool
begins_at first step = is_write_at first step.work

-- since the moment now there is only what is there now
none_left : (past : List Step) (now left : Moment) → LeftBack now (reverse (drop (length past) past)) left → ⊥
none_left past now left back =
    let none : drop (length past) past ≡ [] = drop_all (length past) past (omega arith) in
    subst (λ (l : List Step). LeftBack now (reverse l) left) none back

pub only_at_end : (past : List Step) (now left : Moment) → LeftSince now past (length past) left → left ≡ now
only_at_end past now left (le, inl same) = same
only_at_end past now left (le, inr back) = absurd (none_left past now left back)
