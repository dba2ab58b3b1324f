-- What the order of refusals tells of a mount that is worn out.
use Rattle.std.proofs.Common.{◌≡◌, inl, inr, ℕ, Bool, true, false, cond, List, [], ◌∷◌, length, Option, Some, None, refl, sym, subst, ap}
use Rattle.std.specs.Prelude.{IsTrue, IsFalse, option_map, is_none, not, nat_lt, ◌&&◌, ◌<◌, ◌≤◌, ⊤}
use Rattle.std.proofs.lemmas.Bool.{ltb-false}
use Rattle.fsd_bytes.specs.declared.refusal.Refusal.{Refusal}
use Rattle.fsd_bytes.specs.declared.refusal.Refusal.TheVariants as Why
use Rattle.run_table.specs.RunTable.{total}
use Rattle.run_table.specs.declared.run.Run.{Run}
use Rattle.run_table.specs.Space.{best, pick}
use Rattle.run_table.proofs.ChoiceLaws.{pick_none}
use Rattle.fsd_formats.specs.NamePage.{max_keep, max_length}
use Rattle.fsd_files.specs.Answers.{size_fault, least_pages}
use Rattle.fsd_files.specs.Disk.{Sectors}
use Rattle.fsd_sound.specs.Writes.{saving_writes}
use Rattle.volume_contract.specs.Closing.{close_steps, saves}
use Rattle.volume_contract.specs.State.{State, forces_first, forces_for_place, in_place, is_worn, or_freed, place_in}
use Rattle.volume_contract.specs.Order.{CallStep, Test, Asks, Draw, Disk, Force, LookUp, Fetch, Data, IsDeviceIn, Comes, StepRefuses, Through, IsLookUp, IsFetch, IsLoss, IsDeviceRefusal, down, worn, place, by_itself, table_full, no_place_in, runs_at}

abbrev worn_test : Bool → Option Refusal
worn_test b = cond b (Some Why.WornOut) None

pub passes_worn : (b : Bool) → worn_test b ≡ None → IsFalse b
passes_worn true is = cc
passes_worn false is = refl

pub refuses_worn : (b : Bool) (why : Refusal) → worn_test b ≡ Some why → (why ≡ Why.WornOut) × IsTrue b
refuses_worn true why is = (cc, refl)
refuses_worn false why is = absurd (cc (is))

pub past_worn : (b : Bool) (rest : List CallStep) (why : Refusal) → (why ≡ Why.WornOut → ⊥) → Comes (Test (worn_test b) ∷ rest) why → IsFalse b
past_worn b rest why other (inl refuses) = absurd (other (refuses_worn b why refuses).0)
past_worn b rest why other (inr later) = passes_worn b later.0

pub at_worn : (b : Bool) (rest : List CallStep) → (Comes rest Why.WornOut → ⊥) → Comes (Test (worn_test b) ∷ rest) Why.WornOut → IsTrue b
at_worn b rest never (inl refuses) = (refuses_worn b Why.WornOut refuses).1
at_worn b rest never (inr later) = absurd (never later.1)

-- a test that refuses nothing
pub past_test : (test : Option Refusal) (rest : List CallStep) (why : Refusal) → test ≡ None → Comes (Test test ∷ rest) why → Comes rest why
past_test test rest why none (inl refuses) = absurd (cc (none, refuses))
past_test test rest why none (inr later) = later.1

-- one that would refuse otherwise
pub past_other : (test : Option Refusal) (rest : List CallStep) (why : Refusal) → (test ≡ Some why → ⊥) → Comes (Test test ∷ rest) why → (test ≡ None) × Comes rest why
past_other test rest why other (inl refuses) = absurd (other refuses)
past_other test rest why other (inr later) = later

-- no step of these refuses so
abbrev pub Never : Refusal → List CallStep → Type 0
Never why [] = Unit {0}
Never why (step ∷ steps) = (StepRefuses step why → ⊥) × Never why steps

pub never : (why : Refusal) (steps : List CallStep) → Never why steps → Comes steps why → ⊥
never why [] none comes = comes
never why (step ∷ steps) none (inl here) = none.0 here
never why (step ∷ steps) none (inr later) = never why steps none.1 later.1

some_never : (b : Bool) (x y : Refusal) → (x ≡ y → ⊥) → cond b (Some x) None ≡ Some y → ⊥
some_never true x y other is = other (cc is)
some_never false x y other is = cc is

-- ---- the refusals that the tests of sizes and place make

abbrev pub IsOther : Refusal → Type 0
IsOther Why.WornOut = ⊤
IsOther (Why.Down t) = ⊤
IsOther why = ⊥

not_other : (x why : Refusal) → (IsOther x → ⊥) → IsOther why → x ≡ why → ⊥
not_other x why none o is = none (subst IsOther (sym is) o)

no_write : (why : Refusal) → IsOther why → (may : Sectors) → IsDeviceIn may why → ⊥
no_write Why.WornOut o may is = is
no_write (Why.Down t) o may is = is
no_write why o may is = absurd o

not_looked : (why : Refusal) → IsOther why → (IsLookUp why → ⊥) × (IsFetch why → ⊥) × (IsLoss why → ⊥) × (IsDeviceRefusal why → ⊥)
not_looked Why.WornOut o = (λ x. x, λ x. x, λ x. x, λ x. x)
not_looked (Why.Down t) o = (λ x. x, λ x. x, λ x. x, λ x. x)
not_looked why o = absurd o

pub keep_never : (keep : ℕ) (why : Refusal) → IsOther why → cond (nat_lt max_keep keep) (Some (Why.KeepTooLarge keep)) None ≡ Some why → ⊥
keep_never keep why o is = some_never (nat_lt max_keep keep) (Why.KeepTooLarge keep) why (not_other (Why.KeepTooLarge keep) why (λ x. x) o) is

pub size_never : (keep len : ℕ) (why : Refusal) → IsOther why → size_fault keep len ≡ Some why → ⊥
size_never keep len why o = by (nat_lt max_keep keep) (nat_lt max_length len)
  where
    by : (a b : Bool) → cond a (Some (Why.KeepTooLarge keep)) (cond b (Some (Why.TooLong len)) None) ≡ Some why → ⊥
    by true b is = not_other (Why.KeepTooLarge keep) why (λ x. x) o (cc is)
    by false true is = not_other (Why.TooLong len) why (λ x. x) o (cc is)
    by false false is = cc is

place_never : (s : State) (need : ℕ) (why : Refusal) → IsOther why → cond (is_none (place_in s need)) (Some (no_place_in s (runs_at s need) need)) None ≡ Some why → ⊥
place_never s need why o is = some_never (is_none (place_in s need)) (no_place_in s (runs_at s need) need) why (by (nat_lt (total (runs_at s need)) need)) is
  where
    by : (b : Bool) → cond b (Why.NoSpace need (total (runs_at s need))) (Why.TooFragmented need (best (runs_at s need))) ≡ why → ⊥
    by true is = not_other (Why.NoSpace need (total (runs_at s need))) why (λ x. x) o is
    by false is = not_other (Why.TooFragmented need (best (runs_at s need))) why (λ x. x) o is

-- ---- of a volume that is up

-- The order of a call that may refuse for a size, then where the mount is worn out, and then does this.
abbrev pub steps_of : State → Option Refusal → List CallStep → List CallStep
steps_of s size rest = down s ∷ Test size ∷ worn s ∷ rest

-- a version is made, with this behind its look-up
abbrev pub make_rest : State → ℕ → List CallStep → List CallStep
make_rest s need behind = Force (forces_for_place s need) ∷ place s need ∷ Draw ∷ Disk (in_place (place_in s need)) ∷ Force (forces_first s && not (forces_for_place s need)) ∷ LookUp ∷ behind

abbrev pub table_rest : State → List CallStep
table_rest s = Asks Why.VersionsUsedUp ∷ table_full s ∷ Fetch ∷ []

abbrev pub put_rest : State → ℕ → List CallStep
put_rest s need = make_rest s need (table_rest s)

abbrev pub load_rest : State → ℕ → List CallStep
load_rest s need = make_rest s need (Asks Why.Exists ∷ table_rest s)

abbrev pub edit_rest : State → List CallStep
edit_rest s = by_itself s ∷ LookUp ∷ Asks Why.NoSuch ∷ []

abbrev pub move_rest : State → List CallStep
move_rest s = by_itself s ∷ LookUp ∷ Asks Why.NoSuch ∷ table_rest s

full_never : (s : State) (why : Refusal) → IsOther why → cond (nat_lt (length s.free_pages) least_pages) (Some (Why.NameTableFull (length s.free_pages))) None ≡ Some why → ⊥
full_never s why o = some_never (nat_lt (length s.free_pages) least_pages) (Why.NameTableFull (length s.free_pages)) why (not_other (Why.NameTableFull (length s.free_pages)) why (λ x. x) o)

make_never : (s : State) (need : ℕ) (behind : List CallStep) (why : Refusal) → IsOther why → Never why behind → Never why (make_rest s need behind)
make_never s need behind why o none =
    let no_call = not_looked why o in (
      λ x. no_call.2 x.1,
      (
        place_never s need why o,
        (λ x. x, (no_write why o (in_place (place_in s need)), (λ x. no_call.2 x.1, (no_call.0, none)))),
      ),
    )

table_never : (s : State) (why : Refusal) → IsOther why → Never why (table_rest s)
table_never s why o = (λ is. not_other Why.VersionsUsedUp why (λ x. x) o (sym is), (full_never s why o, ((not_looked why o).1, tt)))

pub put_never : (s : State) (need : ℕ) (why : Refusal) → IsOther why → Never why (put_rest s need)
put_never s need why o = make_never s need (table_rest s) why o (table_never s why o)

pub load_never : (s : State) (need : ℕ) (why : Refusal) → IsOther why → Never why (load_rest s need)
load_never s need why o = make_never s need (Asks Why.Exists ∷ table_rest s) why o (λ is. not_other Why.Exists why (λ x. x) o (sym is), table_never s why o)

pub edit_never : (s : State) (why : Refusal) → IsOther why → Never why (edit_rest s)
edit_never s why o = let no_call = not_looked why o in (λ x. no_call.2 x.1, (no_call.0, (λ is. not_other Why.NoSuch why (λ x. x) o (sym is), tt)))

pub move_never : (s : State) (why : Refusal) → IsOther why → Never why (move_rest s)
move_never s why o =
    let no_call = not_looked why o in
    (λ x. no_call.2 x.1, (no_call.0, (λ is. not_other Why.NoSuch why (λ x. x) o (sym is), table_never s why o)))

module _ (s : State) (up : s.down ≡ None) where
  pub starts_up : (rest : List CallStep) (why : Refusal) → Comes (down s ∷ rest) why → Comes rest why
  starts_up rest why comes = past_test (option_map Why.Down s.down) rest why (ap (λ (o : Option ℕ). option_map Why.Down o) up) comes

  module _ (size : Option Refusal) (rest : List CallStep) (size_other : (why : Refusal) → IsOther why → size ≡ Some why → ⊥) (rest_other : (why : Refusal) → IsOther why → Never why rest) where
    -- it is not told as down
    pub never_down : (why : Refusal) → Comes (steps_of s size rest) why → (t : ℕ) → why ≡ Why.Down t → ⊥
    never_down why comes t is =
        let at = starts_up (Test size ∷ worn s ∷ rest) (Why.Down t) (subst (λ (w : Refusal). Comes (steps_of s size rest) w) is comes) in
        let past = past_other size (worn s ∷ rest) (Why.Down t) (size_other (Why.Down t) tt) at in
        elim past.1 [ inl here ↦ cc (refuses_worn (is_worn s) (Why.Down t) here).0 | inr later ↦ never (Why.Down t) rest (rest_other (Why.Down t) tt) later.1 ]

    -- where it isn't refused as worn out, and no size is refused, the mount isn't
    pub unworn_by : (why : Refusal) → Comes (steps_of s size rest) why → (why ≡ Why.WornOut → ⊥) → size ≡ None → IsFalse (is_worn s)
    unworn_by why comes other none = past_worn (is_worn s) rest why other (past_test size (worn s ∷ rest) why none (starts_up (Test size ∷ worn s ∷ rest) why comes))

    -- where it is, it is worn out, and no size was refused
    pub worn_by : Comes (steps_of s size rest) Why.WornOut → (size ≡ None) × IsTrue (is_worn s)
    worn_by comes =
        let past = past_other size (worn s ∷ rest) Why.WornOut (size_other Why.WornOut tt) (starts_up (Test size ∷ worn s ∷ rest) Why.WornOut comes) in
        (past.0, at_worn (is_worn s) rest (never Why.WornOut rest (rest_other Why.WornOut tt)) past.1)

    pub unworn_through : Through (steps_of s size rest) → IsFalse (is_worn s)
    unworn_through is = passes_worn (is_worn s) is.1.1.0

-- ---- by what a worn-out mount refuses

pub is_no_fault : (o : Option Refusal) → IsTrue (is_none o) → o ≡ None
is_no_fault None is = refl
is_no_fault (Some why) is = cc is

pub no_fault_is : (o : Option Refusal) → o ≡ None → IsTrue (is_none o)
no_fault_is o none = ap (λ (x : Option Refusal). is_none x) none

-- a keep that isn't too large
pub keep_fits : (b : Bool) (why : Refusal) → IsTrue (not b) → cond b (Some why) None ≡ None
keep_fits true why is = cc is
keep_fits false why is = refl

pub fits_keep : (b : Bool) (why : Refusal) → cond b (Some why) None ≡ None → IsTrue (not b)
fits_keep true why is = cc is
fits_keep false why is = refl

pub keep_small : (keep : ℕ) (b : Bool) (why : Refusal) → nat_lt max_keep keep ≡ b → cond b (Some why) None ≡ None → keep ≤ max_keep
keep_small keep true why at is = absurd (cc is)
keep_small keep false why at is = ltb-false max_keep keep at

-- where no place is found, the longest runs don't suffice
module _ (s : State) (need : ℕ) where
  few : (o : Option (List Run)) → pick s.free need ≡ o → is_none (or_freed s need o) ≡ true → best (cond (is_none o && s.waits) s.freed s.free) < need
  few (Some runs) at is = absurd (cc is)
  few None at is = waited s.waits is
    where
      none : (o : Option (List Run)) → is_none o ≡ true → o ≡ None
      none None e = refl
      none (Some runs) e = absurd (cc e)

      waited : (w : Bool) → is_none (cond w (pick s.freed need) None) ≡ true → best (cond w s.freed s.free) < need
      waited true e = (pick_none s.freed need).0 (none (pick s.freed need) e)
      waited false e = (pick_none s.free need).0 at

  pub few_best : is_none (place_in s need) ≡ true → best (runs_at s need) < need
  few_best is = few (pick s.free need) refl is

-- a call without a test of a size
abbrev pub sizeless : State → List CallStep → List CallStep
sizeless s rest = down s ∷ worn s ∷ rest

module _ (s : State) (up : s.down ≡ None) (rest : List CallStep) (rest_other : (why : Refusal) → IsOther why → Never why rest) where
  pub sizeless_down : (why : Refusal) → Comes (sizeless s rest) why → (t : ℕ) → why ≡ Why.Down t → ⊥
  sizeless_down why comes t is =
      elim (starts_up s up (worn s ∷ rest) (Why.Down t) (subst (λ (w : Refusal). Comes (sizeless s rest) w) is comes)) [
        | inl here ↦ cc (refuses_worn (is_worn s) (Why.Down t) here).0
        | inr later ↦ never (Why.Down t) rest (rest_other (Why.Down t) tt) later.1
      ]

  pub sizeless_unworn : (why : Refusal) → Comes (sizeless s rest) why → (why ≡ Why.WornOut → ⊥) → IsFalse (is_worn s)
  sizeless_unworn why comes other = past_worn (is_worn s) rest why other (starts_up s up (worn s ∷ rest) why comes)

  pub sizeless_worn : Comes (sizeless s rest) Why.WornOut → IsTrue (is_worn s)
  sizeless_worn comes = at_worn (is_worn s) rest (never Why.WornOut rest (rest_other Why.WornOut tt)) (starts_up s up (worn s ∷ rest) Why.WornOut comes)

pub sizeless_through : (s : State) (rest : List CallStep) → Through (sizeless s rest) → IsFalse (is_worn s)
sizeless_through s rest is = passes_worn (is_worn s) is.1.0

-- a force
pub force_loss : (s : State) → s.down ≡ None → (comes_one : Bool) (why : Refusal) → Comes (down s ∷ Force comes_one ∷ []) why → IsLoss why
force_loss s up comes_one why comes = elim (starts_up s up (Force comes_one ∷ []) why comes) [ inl here ↦ here.1 | inr later ↦ absurd later.1 ]

device_loss : (may : Sectors) (why : Refusal) → IsDeviceIn may why → IsLoss why
device_loss may (Why.Device s) is = tt
device_loss may why is = absurd is

-- and a close
pub close_loss : (s : State) → s.down ≡ None → (why : Refusal) → Comes (close_steps s) why → IsLoss why
close_loss s up why comes = elim (starts_up s up (Force (nat_lt 0 (length s.dirty)) ∷ cond (saves s) (Disk (saving_writes s.layout) ∷ []) []) why comes) [ inl here ↦ here.1 | inr later ↦ by (saves s) later.1 ]
  where
    by : (some : Bool) → Comes (cond some (Disk (saving_writes s.layout) ∷ []) []) why → IsLoss why
    by true (inl is) = device_loss (saving_writes s.layout) why is
    by true (inr later) = absurd later.1
    by false none = absurd none

-- a look-up, and the read behind it
pub entry_down : (s : State) → s.down ≡ None → (why : Refusal) → Comes (down s ∷ LookUp ∷ Asks Why.NoSuch ∷ []) why → (t : ℕ) → why ≡ Why.Down t → ⊥
entry_down s up why comes t is =
    let rest = LookUp ∷ Asks Why.NoSuch ∷ [] in
    never (Why.Down t) rest (λ x. x, (λ is. cc is, tt)) (starts_up s up rest (Why.Down t) (subst (λ (w : Refusal). Comes (down s ∷ rest) w) is comes))

pub read_down : (s : State) → s.down ≡ None → (why : Refusal) → Comes (down s ∷ LookUp ∷ Asks Why.NoSuch ∷ Data ∷ []) why → (t : ℕ) → why ≡ Why.Down t → ⊥
read_down s up why comes t is =
    let rest = LookUp ∷ Asks Why.NoSuch ∷ Data ∷ [] in
    never (Why.Down t) rest (λ x. x, (λ is. cc is, (λ x. x, tt))) (starts_up s up rest (Why.Down t) (subst (λ (w : Refusal). Comes (down s ∷ rest) w) is comes))

-- none of these tells the mount as worn out

pub entry_worn : (s : State) → s.down ≡ None → Comes (down s ∷ LookUp ∷ Asks Why.NoSuch ∷ []) Why.WornOut → ⊥
entry_worn s up comes =
    let rest = LookUp ∷ Asks Why.NoSuch ∷ [] in
    never Why.WornOut rest (λ x. x, (λ is. cc is, tt)) (starts_up s up rest Why.WornOut comes)

pub read_worn : (s : State) → s.down ≡ None → Comes (down s ∷ LookUp ∷ Asks Why.NoSuch ∷ Data ∷ []) Why.WornOut → ⊥
read_worn s up comes =
    let rest = LookUp ∷ Asks Why.NoSuch ∷ Data ∷ [] in
    never Why.WornOut rest (λ x. x, (λ is. cc is, (λ x. x, tt))) (starts_up s up rest Why.WornOut comes)
