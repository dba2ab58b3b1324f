-- In which order a call may be refused, and what a refusal keeps, over any machine: the steps of each call in a line.
use Rattle.std.specs.Prelude.{◌≡◌, ◌⊎◌, ⊤, ℕ, suc, Bool, true, false, not, ◌&&◌, ◌||◌, ◌==◌, List, [], ◌∷◌, length, Option, Some, None, is_none, option_map, nat_lt, if◌then◌else◌, IsTrue, Result, MatchResult}
use Rattle.fsd_bytes.specs.declared.refusal.Refusal.{Refusal}
use Rattle.fsd_bytes.specs.declared.refusal.Refusal.TheVariants as Why
use Rattle.volume_layout.specs.declared.kind.Kind.{Kind}
use Rattle.volume_layout.specs.declared.kind.Kind.TheVariants.{Two, Three}
use Rattle.volume_layout.specs.Layout.{with_kind}
use Rattle.run_table.specs.RunTable.{total}
use Rattle.run_table.specs.Space.{best}
use Rattle.run_table.specs.declared.run.Run.{Run}
use Rattle.fsd_formats.specs.NamePage.{max_keep, sectors_for}
use Rattle.fsd_files.specs.Answers.{grow_fault, size_fault, keep_given, least_pages}
use Rattle.fsd_files.specs.Disk.{Sectors}
use Rattle.volume_contract.specs.State.{State, GoesOn, IsForced, IsDownAt, downs, downs_for, forces_first, forces_for_place, in_place, is_worn, place_in}

-- A step of a call on its way to its answer: a test of what is in memory, or one of the table; a serial that is drawn;
-- writes of the disk that begin in such sectors; a force, where one comes; a look-up; pages that are made resident;
-- the data of a version; copies that are healed from their twins; one sector that is read or written; the two roots,
-- written with another layout, for which the image gets sectors first where it has too few.
pub data CallStep : Type 0 where
  Test : Option Refusal → CallStep
  Asks : Refusal → CallStep
  Draw : CallStep
  Disk : Sectors → CallStep
  Force : Bool → CallStep
  LookUp : CallStep
  Fetch : CallStep
  Data : CallStep
  Heal : CallStep
  Single : CallStep
  Roots : CallStep

-- ---- what a step may refuse

abbrev pub IsDeviceRefusal : Refusal → Type 0
IsDeviceRefusal (Why.Device s) = ⊤
IsDeviceRefusal other = ⊥

abbrev pub IsDeviceIn : Sectors → Refusal → Type 0
IsDeviceIn may (Why.Device s) = IsTrue (may s)
IsDeviceIn may other = ⊥

abbrev pub IsLoss : Refusal → Type 0
IsLoss (Why.Device s) = ⊤
IsLoss (Why.Lost a b) = ⊤
IsLoss other = ⊥

abbrev pub IsFetch : Refusal → Type 0
IsFetch Why.Memory = ⊤
IsFetch other = IsLoss other

abbrev pub IsLookUp : Refusal → Type 0
IsLookUp (Why.Unsound s) = ⊤
IsLookUp other = IsFetch other

abbrev pub IsData : Refusal → Type 0
IsData (Why.Damaged s) = ⊤
IsData other = IsDeviceRefusal other

-- the sectors of the two roots
abbrev pub is_root : Sectors
is_root s = (s == 0) || (s == 4)

abbrev pub StepRefuses : CallStep → Refusal → Type 0
StepRefuses (Test why) r = why ≡ Some r
StepRefuses (Asks why) r = r ≡ why
StepRefuses Draw r = ⊥
StepRefuses (Disk may) r = IsDeviceIn may r
StepRefuses (Force comes) r = (comes ≡ true) × IsLoss r
StepRefuses LookUp r = IsLookUp r
StepRefuses Fetch r = IsFetch r
StepRefuses Data r = IsData r
StepRefuses Heal r = IsLoss r
StepRefuses Single r = IsDeviceRefusal r
StepRefuses Roots r = IsDeviceIn is_root r

-- a test that refuses nothing; of any other step nothing is known here
abbrev pub PassesTest : CallStep → Type 0
PassesTest (Test why) = why ≡ None
PassesTest step = ⊤

-- a step refuses so, and none before it
abbrev pub Comes : List CallStep → Refusal → Type 0
Comes [] r = ⊥
Comes (step ∷ steps) r = StepRefuses step r ⊎ (PassesTest step × Comes steps r)

-- no test refuses
abbrev pub Through : List CallStep → Type 0
Through [] = ⊤
Through (step ∷ steps) = PassesTest step × Through steps

abbrev pub Follows : {T : Type 0} → List CallStep → Result T Refusal → Type 0
Follows steps result = MatchResult result (λ x. Through steps) (λ r. Comes steps r)

-- a test ends the call before it draws a serial or calls the machine, or there is nothing to do
abbrev pub is_idle : List CallStep → Bool
is_idle [] = true
is_idle (Test (Some why) ∷ steps) = true
is_idle (Test None ∷ steps) = is_idle steps
is_idle (Force false ∷ steps) = is_idle steps
is_idle (step ∷ steps) = false

-- Where a call goes by these steps: one of them refuses it, and none before that, or none does. Where a test ends it, or
-- there is nothing to do, the machine stays as it was.
pub record InOrder {D T : Type 0} (steps : List CallStep) (old new : D) (result : Result T Refusal) : Type 0 where
  pub follows : Follows steps result
  pub idle : IsTrue (is_idle steps) → new ≡ old

-- ---- what a refusal keeps

-- the next serial is drawn
abbrev pub with_drawn : State → State
with_drawn s = record s { serial = record { epoch = s.serial.epoch; count = suc s.serial.count } }

-- it bears runs of three
abbrev pub with_three : State → State
with_three s = record s { layout = with_kind Three s.layout }

abbrev pub IsDownBy : Refusal → State → State → Type 0
IsDownBy (Why.Device s) old new = IsDownAt s old new
IsDownBy (Why.Lost a b) old new = IsDownAt a old new
IsDownBy why old new = ⊥

-- The volume came to these steps so, and one of them refused: it is as it was at that step, which a serial drawn and a
-- force that ended before it have changed; or it is down, where a force or a write of a root has failed, or the image could
-- not get its sectors. The roots are the last step of a call: behind them nothing refuses it.
abbrev pub KeepsRefused : List CallStep → Refusal → (at new : State) → Type 0
KeepsRefused [] r at new = ⊥
KeepsRefused (Draw ∷ steps) r at new = KeepsRefused steps r (with_drawn at) new
KeepsRefused (Force true ∷ steps) r at new = IsDownBy r at new ⊎ ((next : State) × IsForced at next × KeepsRefused steps r next new)
KeepsRefused (Roots ∷ steps) r at new = StepRefuses Roots r × (new ≡ record at { down = downs_for r })
KeepsRefused (step ∷ steps) r at new = (StepRefuses step r × (new ≡ at)) ⊎ (PassesTest step × KeepsRefused steps r at new)

-- What a call that may force keeps of a volume, whatever it answers: where it does what it is for it ends so, and what a
-- refusal keeps is by the steps.
pub record KeepsBy {T : Type 0} (steps : List CallStep) (Ends : State → State → Type 0) (old new : State) (result : Result T Refusal) : Type 0 where
  pub state : GoesOn (downs result) old new
  pub kept : MatchResult result (λ x. Ends old new) (λ why. KeepsRefused steps why old new)

-- ---- the tests

module _ (s : State) where
  abbrev pub down : CallStep
  down = Test (option_map Why.Down s.down)

  abbrev pub worn : CallStep
  worn = Test (if is_worn s then Some Why.WornOut else None)

  abbrev pub keep_size : ℕ → CallStep
  keep_size keep = Test (if nat_lt max_keep keep then Some (Why.KeepTooLarge keep) else None)

  -- the runs to choose from, once a force has ended where one comes
  abbrev pub runs_at : ℕ → List Run
  runs_at need = if forces_for_place s need then s.freed else s.free

  abbrev pub no_place_in : List Run → ℕ → Refusal
  no_place_in runs need = if nat_lt (total runs) need then Why.NoSpace need (total runs) else Why.TooFragmented need (best runs)

  abbrev pub length_size : ℕ → CallStep
  length_size len = Test (size_fault 0 len)

  abbrev pub place : ℕ → CallStep
  place need = Test (if is_none (place_in s need) then Some (no_place_in (runs_at need) need) else None)

  abbrev pub table_full : CallStep
  table_full = Test (if nat_lt (length s.free_pages) least_pages then Some (Why.NameTableFull (length s.free_pages)) else None)

  abbrev pub by_itself : CallStep
  by_itself = Force (forces_first s)

  -- ---- the calls

  -- up to the look-up of a version that is made; no page waits behind the force that a place asks for
  abbrev pub making_steps : (keep len : ℕ) → (behind : List CallStep) → List CallStep
  making_steps keep len behind = let need = sectors_for len in
      down ∷ Test (size_fault keep len) ∷ worn ∷ Force (forces_for_place s need) ∷ place need ∷ Draw ∷ Disk (in_place (place_in s need))
      ∷ Force (forces_first s && not (forces_for_place s need)) ∷ LookUp ∷ behind

  abbrev pub put_steps : Option ℕ → ℕ → List CallStep
  put_steps keep len = making_steps (keep_given keep) len (Asks Why.VersionsUsedUp ∷ table_full ∷ Fetch ∷ [])

  -- pages that break the table beside those of the look-up have no number left for a version
  abbrev pub load_steps : (keep len : ℕ) → List CallStep
  load_steps keep len = making_steps keep len (Asks Why.Exists ∷ Asks Why.VersionsUsedUp ∷ table_full ∷ Fetch ∷ [])

  abbrev pub delete_steps : List CallStep
  delete_steps = down ∷ worn ∷ by_itself ∷ LookUp ∷ Asks Why.NoSuch ∷ []

  abbrev pub keep_steps : ℕ → List CallStep
  keep_steps keep = down ∷ keep_size keep ∷ worn ∷ by_itself ∷ LookUp ∷ Asks Why.NoSuch ∷ []

  abbrev pub move_steps : List CallStep
  move_steps = down ∷ worn ∷ by_itself ∷ LookUp ∷ Asks Why.NoSuch ∷ Asks Why.VersionsUsedUp ∷ table_full ∷ Fetch ∷ []

  abbrev pub entry_steps : List CallStep
  entry_steps = down ∷ LookUp ∷ Asks Why.NoSuch ∷ []

  abbrev pub next_steps : List CallStep
  next_steps = down ∷ LookUp ∷ []

  abbrev pub read_steps : List CallStep
  read_steps = down ∷ LookUp ∷ Asks Why.NoSuch ∷ Data ∷ []

  -- ---- creations in pieces, and versions that are held

  abbrev pub reserve_steps : ℕ → List CallStep
  reserve_steps len = let need = sectors_for len in down ∷ length_size len ∷ worn ∷ Force (forces_for_place s need) ∷ place need ∷ Draw ∷ []

  -- the sectors of the slices
  abbrev pub slices_steps : Sectors → List CallStep
  slices_steps may = down ∷ Disk may ∷ []

  -- the leader's sector
  abbrev pub enter_steps : Option ℕ → Sectors → List CallStep
  enter_steps keep leader = down ∷ keep_size (keep_given keep) ∷ worn ∷ Disk leader ∷ by_itself ∷ LookUp ∷ Asks Why.VersionsUsedUp ∷ table_full ∷ Fetch ∷ []

  abbrev pub held_steps : List CallStep
  held_steps = down ∷ Data ∷ []

  -- a force comes only where a page waits
  abbrev pub force_steps : List CallStep
  force_steps = down ∷ Force (nat_lt 0 (length s.dirty)) ∷ []

  abbrev pub heal_steps : List CallStep
  heal_steps = down ∷ Heal ∷ []

  -- of a version's leader, and of one of its data sectors
  abbrev pub single_steps : List CallStep
  single_steps = down ∷ Single ∷ []

  -- layout 2 is the last one
  abbrev pub layout_is : Kind → Option Refusal
  layout_is Two = None
  layout_is Three = Some (Why.LayoutIs 2)

  abbrev pub upgrade_steps : List CallStep
  upgrade_steps = down ∷ Test (layout_is s.layout.kind) ∷ Roots ∷ []

  abbrev pub grow_steps : ℕ → List CallStep
  grow_steps n = down ∷ Test (grow_fault s.layout n) ∷ Roots ∷ []
