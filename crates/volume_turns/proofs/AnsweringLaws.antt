-- What one command by itself says and writes, whatever the image.
use Rattle.std.proofs.Common.{◌≡◌, inl, inr, ℕ, Bool, true, false, cond, List, [], ◌∷◌, ◌++◌, length, Option, Some, None, refl, sym, ◌∙◌, ap, subst, arith}
use Rattle.std.specs.Prelude.{◌<◌, ◌≤◌, ◌||◌, IfErr, IfOk, OnOk, IsFalse, IsTrue, Result, Ok, Err, is_none, nat_le, nat_lt}
use Rattle.std.specs.List.{AllByRecursion}
use Rattle.std.proofs.lemmas.Bool.{and_parts, ltb-true, or_parts}
use Rattle.volume_layout.specs.declared.layout.Layout.{Layout}
use Rattle.volume_layout.specs.Layout.{data_start, is_data}
use Rattle.run_table.specs.RunTable.{total}
use Rattle.run_table.specs.Space.{best}
use Rattle.fsd_bytes.specs.declared.key.Key.{Key}
use Rattle.fsd_bytes.specs.declared.refusal.Refusal.{Refusal}
use Rattle.fsd_bytes.specs.declared.refusal.Refusal.TheVariants as Why
use Rattle.fsd_formats.specs.NamePage.{max_keep, sectors_for}
use Rattle.sector_disk.specs.Image.{IsWorn, open_damage}
use Rattle.sector_disk.specs.Machine.{Ledger, Moment, Utters}
use Rattle.fsd_files.specs.Answers.{keep_given, least_pages, size_fault}
use Rattle.fsd_files.specs.Disk.{Image, Sectors, Touches, nowhere}
use Rattle.fsd_files.specs.declared.reply.Reply.{Reply}
use Rattle.fsd_files.specs.declared.reply.Reply.TheVariants as Said
use Rattle.fsd_sound.specs.Writes.{MountKeeps, force_writes, saving_writes}
use Rattle.fsd_texts.specs.declared.command.Command.{Command}
use Rattle.fsd_texts.specs.declared.command.Command.TheVariants as Word
use Rattle.fsd_texts.specs.declared.fault.Fault.{Fault}
use Rattle.fsd_texts.specs.declared.fault.Fault.TheVariants as Ends
use Rattle.fsd_texts.specs.Text.{fault_text}
use Rattle.fsd_runs.specs.Commands.{reply_alone, reply_status}
use Rattle.volume_contract.specs.Closing.{may_close}
use Rattle.volume_contract.specs.Mount.{IsFound}
use Rattle.volume_contract.specs.Order.{Asks, Comes, Data, IsData, IsDeviceIn, IsFetch, IsLookUp, IsLoss, LookUp, StepRefuses, CallStep, Test, down, no_place_in, runs_at, worn}
use Rattle.volume_contract.specs.State.{Ages, State, in_place, is_worn, place_in}
use Rattle.scrub.specs.Looking.{AreDamaged}
use Rattle.scrub.specs.Telling.{AreOfPage}
use Rattle.scrub.proofs.LeadLaws.{touches_then, worn_touches}
use Rattle.volume_turns.specs.declared.turns.Halt.{Halt}
use Rattle.volume_turns.specs.declared.turns.Halt.TheVariants.{Fault as Stopped, Output}
use Rattle.volume_turns.specs.Answering.{MayAnswer, AnswersAlone, ClosesBy, EndsOne, RunsOne, SaysBy, SaysNoReply, SaysOne, SaysReply}
use Rattle.volume_turns.specs.Causes.{HasVolume}
use Rattle.volume_turns.specs.Commands.{Because, HasDamaged, KeepsState, LacksRoom, MayLose, MayReply, TouchesAlone, TouchesBy, WritesBehind, may_write}
use Rattle.volume_turns.specs.Once.{unit_of}
use Rattle.volume_turns.specs.Line.{EndsWith}
use Rattle.volume_turns.specs.Steps.{IsToldOn, ended_by, read_ended_by}
use Rattle.volume_turns.specs.Syncs.{SyncsOnce}
use Rattle.volume_turns.specs.Turns.{KeepsSaid, SaysAll, Unsaid}
use Rattle.volume_turns.proofs.LongerLaws.{in_then, in_worn, then_worn}
use Rattle.volume_turns.proofs.OrderLaws.{edit_rest, few_best, keep_small, load_rest, make_rest, move_rest, put_rest, sizeless, starts_up, steps_of, table_rest}
use Rattle.volume_turns.proofs.SavingLaws.{clean_out, close_out, data_out}
use Rattle.volume_turns.proofs.StatusLaws.{look_up_ends, loss_looks}
use Rattle.volume_turns.proofs.ToldLaws.{told_may}

-- ---- what is touched

pub worn_first : (a b c : Moment) → b.windows ≡ a.windows → IsWorn (open_damage a.windows) a.image b.image → Touches nowhere b c → Touches nowhere a c
worn_first a b c windows worn then = touches_then nowhere nowhere nowhere a b c (λ s out. out) (λ s out. out) windows (worn_touches nowhere a b worn) then

pub touches_ages : (a b : Moment) → b.windows ≡ a.windows → Touches nowhere a b → Ages a b
touches_ages a b windows t = record { image = record { size = t.size; each = λ s. t.others s refl }; windows = windows }

-- where a call doesn't write
damaged_on : (may : Sectors) (a b : Moment) (s : ℕ) → Touches may a b → IsFalse (may s) → HasDamaged a.image s → HasDamaged b.image s
damaged_on may a b s t out (within, gone) = (omega (arith, within, t.size), elim (t.others s out) [ inl same ↦ same ∙ gone | inr worn ↦ worn.1 ])

pub stays_damaged : (a b : Moment) (s : ℕ) → Touches nowhere a b → HasDamaged a.image s → HasDamaged b.image s
stays_damaged a b s t was = damaged_on nowhere a b s t refl was

stay_damaged : (a b : Moment) → Touches nowhere a b → (found : List (Key × ℕ)) → AllByRecursion (λ x. HasDamaged a.image x.1) found → AllByRecursion (λ x. HasDamaged b.image x.1) found
stay_damaged a b t [] damaged = tt
stay_damaged a b t (x ∷ found) damaged = (stays_damaged a b x.1 t damaged.0, stay_damaged a b t found damaged.1)

or_left : (a b : Bool) → IsFalse (a || b) → IsFalse a
or_left true b out = cc out
or_left false b out = refl

-- ---- refusals

-- where a fault ends the run nothing is said of it
pub said_or_fault : (P : Reply → Type 0) (why : Refusal) → P (Said.Refused why) → IfOk (ended_by why) P
said_or_fault P (Why.Device s) said = tt
said_or_fault P (Why.Down s) said = tt
said_or_fault P (Why.Lost x y) said = tt
said_or_fault P (Why.Unsound s) said = tt
said_or_fault P Why.WornOut said = tt
said_or_fault P Why.Memory said = tt
said_or_fault P why said = said

-- each step that refuses so has this
abbrev pub Each : Refusal → Type 0 → List CallStep → Type 0
Each why P [] = Unit {0}
Each why P (step ∷ steps) = (StepRefuses step why → P) × Each why P steps

pub each : (why : Refusal) (P : Type 0) (steps : List CallStep) → Each why P steps → Comes steps why → P
each why P [] all comes = absurd comes
each why P (step ∷ steps) all (inl here) = all.0 here
each why P (step ∷ steps) all (inr later) = each why P steps all.1 later.1

module _ (P : Reply → Type 0) (why : Refusal) where
  abbrev Holds : Type 0
  Holds = IfOk (ended_by why) P

  looks : IsLookUp why → Holds
  looks refuses = look_up_ends P why (ended_by why) refl refuses

  losses : IsLoss why → Holds
  losses loss = looks (loss_looks why loss)

  fetches : (w : Refusal) → IsFetch w → IsLookUp w
  fetches Why.Memory is = tt
  fetches (Why.Device s) is = tt
  fetches (Why.Lost x y) is = tt
  fetches w is = absurd is

  placed : (may : Sectors) (w : Refusal) → IsDeviceIn may w → IsLookUp w
  placed may (Why.Device s) is = tt
  placed may w is = absurd is

  tests : (b : Bool) (x : Refusal) → (b ≡ true → P (Said.Refused x)) → cond b (Some x) None ≡ Some why → Holds
  tests true x said is = let same : x ≡ why = cc is in said_or_fault P why (subst (λ (w : Refusal). P (Said.Refused w)) same (said refl))
  tests false x said is = absurd (cc is)

  worn_out : (b : Bool) → cond b (Some Why.WornOut) None ≡ Some why → Holds
  worn_out true is = let same : Why.WornOut ≡ why = cc is in subst (λ (w : Refusal). IfOk (ended_by w) P) same tt
  worn_out false is = absurd (cc is)

  asked : (x : Refusal) → P (Said.Refused x) → why ≡ x → Holds
  asked x said is = said_or_fault P why (subst (λ (w : Refusal). P (Said.Refused w)) (sym is) said)

-- ---- a version that is made

-- where room is wanting, this may be replied
module _ (s : State) (up : s.down ≡ None) (size : Option Refusal) (len : ℕ) (P : Reply → Type 0) (why : Refusal) (lacks : (x : Refusal) → size ≡ None → LacksRoom len x → P (Said.Refused x)) where
  abbrev need : ℕ
  need = sectors_for len

  abbrev Fits : Type 0
  Fits = IfOk (ended_by why) P

  no_place : is_none (place_in s need) ≡ true → (b : Bool) → nat_lt (total (runs_at s need)) need ≡ b → LacksRoom len (cond b (Why.NoSpace need (total (runs_at s need))) (Why.TooFragmented need (best (runs_at s need))))
  no_place none true is = (refl, ltb-true (total (runs_at s need)) need is)
  no_place none false is = (refl, few_best s need none)

  few_pages : size ≡ None → (b : Bool) → nat_lt (length s.free_pages) least_pages ≡ b → cond b (Some (Why.NameTableFull (length s.free_pages))) None ≡ Some why → Fits
  few_pages none b is at = tests P why b (Why.NameTableFull (length s.free_pages)) (λ e. lacks (Why.NameTableFull (length s.free_pages)) none (ltb-true (length s.free_pages) least_pages (is ∙ e))) at

  pub table_room : size ≡ None → Each why Fits (table_rest s)
  table_room none = (
    λ x. asked P why Why.VersionsUsedUp (lacks Why.VersionsUsedUp none tt) x,
    (λ x. few_pages none (nat_lt (length s.free_pages) least_pages) refl x, (λ x. looks P why (fetches P why why x), tt)),
  )

  module _ (behind : List CallStep) (refused : size ≡ Some why → P (Said.Refused why)) (ends : size ≡ None → Each why Fits behind) where
    room : size ≡ None → Each why Fits (make_rest s need behind)
    room none = (
      λ x. losses P why x.1,
      (
        λ x. tests P why (is_none (place_in s need)) (no_place_in s (runs_at s need) need) (λ e. lacks (no_place_in s (runs_at s need) need) none (no_place e (nat_lt (total (runs_at s need)) need) refl)) x,
        (
          λ x. absurd x,
          (λ x. looks P why (placed P why (in_place (place_in s need)) why x), (λ x. losses P why x.1, (λ x. looks P why x, ends none))),
        ),
      ),
    )

    pub making_refused : Comes (steps_of s size (make_rest s need behind)) why → Fits
    making_refused comes = elim (starts_up s up (Test size ∷ worn s ∷ make_rest s need behind) why comes) [
      | inl is ↦ said_or_fault P why (refused is)
      | inr later ↦ elim later.1 [ inl worn ↦ worn_out P why (is_worn s) worn | inr last ↦ each why Fits (make_rest s need behind) (room later.0) last.1 ]
    ]

module _ (s : State) (up : s.down ≡ None) (bytes : List ℕ) (i : Image) (why : Refusal) where
  pub put_refused : (name : List ℕ) (keep : Option ℕ) → Comes (steps_of s (size_fault (keep_given keep) (length bytes)) (put_rest s (sectors_for (length bytes)))) why → IfOk (ended_by why) (λ a. MayReply (Word.Put name bytes keep) i a)
  put_refused name keep comes =
      let size = size_fault (keep_given keep) (length bytes) in
      let P : Reply → Type 0 = λ a. MayReply (Word.Put name bytes keep) i a in
      let lacks : (x : Refusal) → size ≡ None → LacksRoom (length bytes) x → P (Said.Refused x) = λ x none lack. inr (none, lack) in
      making_refused s up size (length bytes) P why lacks (table_rest s) (λ is. inl is) (table_room s up size (length bytes) P why lacks) comes

  pub load_refused : (key : Key) (keep : ℕ) → Comes (steps_of s (size_fault keep (length bytes)) (load_rest s (sectors_for (length bytes)))) why → IfOk (ended_by why) (λ a. MayReply (Word.Load key keep bytes) i a)
  load_refused key keep comes =
      let size = size_fault keep (length bytes) in
      let P : Reply → Type 0 = λ a. MayReply (Word.Load key keep bytes) i a in
      let lacks : (x : Refusal) → size ≡ None → LacksRoom (length bytes) x → P (Said.Refused x) = λ x none lack. inr (none, inr lack) in
      making_refused s up size (length bytes) P why lacks (Asks Why.Exists ∷ table_rest s) (λ is. inl is)
      (λ none. (λ x. asked P why Why.Exists (inr (none, inl refl)) x, table_room s up size (length bytes) P why lacks none)) comes

-- ---- a version taken out, a keep, and what is read

module _ (s : State) (up : s.down ≡ None) (why : Refusal) where
  edits : (P : Reply → Type 0) → P (Said.Refused Why.NoSuch) → Each why (IfOk (ended_by why) P) (edit_rest s)
  edits P none = (λ x. losses P why x.1, (λ x. looks P why x, (λ x. asked P why Why.NoSuch none x, tt)))

  pub delete_refused : (key : Key) (i : Image) → Comes (sizeless s (edit_rest s)) why → IfOk (ended_by why) (λ a. MayReply (Word.Delete key) i a)
  delete_refused key i comes =
      let P : Reply → Type 0 = λ a. MayReply (Word.Delete key) i a in
      elim (starts_up s up (worn s ∷ edit_rest s) why comes) [ inl worn ↦ worn_out P why (is_worn s) worn | inr later ↦ each why (IfOk (ended_by why) P) (edit_rest s) (edits P refl) later.1 ]

  pub keep_refused : (name : List ℕ) (keep : ℕ) (i : Image) → Comes (steps_of s (cond (nat_lt max_keep keep) (Some (Why.KeepTooLarge keep)) None) (edit_rest s)) why → IfOk (ended_by why) (λ a. MayReply (Word.Keep name keep) i a)
  keep_refused name keep i comes =
      elim (starts_up s up (Test (cond (nat_lt max_keep keep) (Some (Why.KeepTooLarge keep)) None) ∷ worn s ∷ edit_rest s) why comes) [
        | inl is ↦ large (nat_lt max_keep keep) refl is
        | inr later ↦ elim later.1 [ inl worn ↦ worn_out P why (is_worn s) worn | inr last ↦ each why (IfOk (ended_by why) P) (edit_rest s) (edits P (inr (refl, keep_small keep (nat_lt max_keep keep) (Why.KeepTooLarge keep) refl later.0))) last.1 ]
      ]
    where
      P : Reply → Type 0
      P a = MayReply (Word.Keep name keep) i a

      large : (b : Bool) → nat_lt max_keep keep ≡ b → cond b (Some (Why.KeepTooLarge keep)) None ≡ Some why → IfOk (ended_by why) P
      large true over is = tests P why true (Why.KeepTooLarge keep) (λ e. inl (refl, ltb-true max_keep keep over)) is
      large false over is = absurd (cc is)

  full_table : (key : Key) (name : List ℕ) (i : Image) (b : Bool) → nat_lt (length s.free_pages) least_pages ≡ b → cond b (Some (Why.NameTableFull (length s.free_pages))) None ≡ Some why → IfOk (ended_by why) (λ a. MayReply (Word.Move key name) i a)
  full_table key name i b at is = tests (λ a. MayReply (Word.Move key name) i a) why b (Why.NameTableFull (length s.free_pages)) (λ e. ltb-true (length s.free_pages) least_pages (at ∙ e)) is

  moves : (key : Key) (name : List ℕ) (i : Image) → Each why (IfOk (ended_by why) (λ a. MayReply (Word.Move key name) i a)) (move_rest s)
  moves key name i =
      let P : Reply → Type 0 = λ a. MayReply (Word.Move key name) i a in (
        λ x. losses P why x.1,
        (
          λ x. looks P why x,
          (
            λ x. asked P why Why.NoSuch tt x,
            (
              λ x. asked P why Why.VersionsUsedUp tt x,
              (λ x. full_table key name i (nat_lt (length s.free_pages) least_pages) refl x, (λ x. looks P why (fetches P why why x), tt)),
            ),
          ),
        ),
      )

  pub move_refused : (key : Key) (name : List ℕ) (i : Image) → Comes (sizeless s (move_rest s)) why → IfOk (ended_by why) (λ a. MayReply (Word.Move key name) i a)
  move_refused key name i comes =
      let P : Reply → Type 0 = λ a. MayReply (Word.Move key name) i a in
      elim (starts_up s up (worn s ∷ move_rest s) why comes) [ inl worn ↦ worn_out P why (is_worn s) worn | inr later ↦ each why (IfOk (ended_by why) P) (move_rest s) (moves key name i) later.1 ]

  pub entry_refused : (key : Key) (i : Image) → Comes (down s ∷ LookUp ∷ Asks Why.NoSuch ∷ []) why → IfOk (ended_by why) (λ a. MayReply (Word.Get key) i a)
  entry_refused key i comes =
      let P : Reply → Type 0 = λ a. MayReply (Word.Get key) i a in
      each why (IfOk (ended_by why) P) (LookUp ∷ Asks Why.NoSuch ∷ []) (λ x. looks P why x, (λ x. asked P why Why.NoSuch refl x, tt)) (starts_up s up (LookUp ∷ Asks Why.NoSuch ∷ []) why comes)

-- a data sector lies in each image that has room for its layout
pub data_inside : (l : Layout) (s size : ℕ) → IsTrue (is_data l s) → l.sectors ≤ size → s < size
data_inside l s size within room = omega (arith, room, ltb-true s l.sectors (and_parts (nat_le (data_start l) s) (nat_lt s l.sectors) within).1)

-- a sector that is told as damaged is so
module _ (s : State) (up : s.down ≡ None) (key : Key) (i : Image) where
  abbrev Answered : Reply → Type 0
  Answered a = MayReply (Word.Get key) i a

  by_order : (why : Refusal) → (IsData why → IfOk (ended_by why) Answered) → Comes (down s ∷ LookUp ∷ Asks Why.NoSuch ∷ Data ∷ []) why → IfOk (ended_by why) Answered
  by_order why data_is comes =
      each why (IfOk (ended_by why) Answered) (LookUp ∷ Asks Why.NoSuch ∷ Data ∷ []) (λ x. looks Answered why x, (λ x. asked Answered why Why.NoSuch refl x, (data_is, tt))) (starts_up s up (LookUp ∷ Asks Why.NoSuch ∷ Data ∷ []) why comes)

  pub read_refused : (why : Refusal) → ((n : ℕ) → why ≡ Why.Damaged n → HasDamaged i n) → Comes (down s ∷ LookUp ∷ Asks Why.NoSuch ∷ Data ∷ []) why → IfOk (read_ended_by key why) Answered
  read_refused (Why.Damaged n) gone comes = (refl, gone n refl)
  read_refused (Why.Device n) gone comes = tt
  read_refused why gone comes = by_order why (λ x. absurd x) comes

-- ---- the end of a volume

pub said_by : (text : List ℕ) (a m b : Moment) → m.said ≡ a.said → {T : Type 0} (r : Result T Halt) → SaysBy text m b r → SaysBy text a b r
said_by text a m b same (Ok x) says = says ∙ ap (λ (x : List ℕ). x ++ text) same
said_by text a m b same (Err (Stopped why)) says = says ∙ same
said_by text a m b same (Err Output) says = tt

-- a reply that was said, or not
pub says_so : (text : List ℕ) (old new : Moment) (r : Result (Unit {0}) Halt) → OnOk r (SaysAll text old new) → IfErr r (λ end. Unsaid old new end) → SaysBy text old new r
says_so text old new (Ok x) all unsaid = all.said
says_so text old new (Err (Stopped Ends.Memory)) all unsaid = unsaid.said
says_so text old new (Err (Stopped (Ends.Device s))) all unsaid = unsaid.said
says_so text old new (Err Output) all unsaid = tt
says_so text old new (Err (Stopped fault)) all unsaid = absurd unsaid

-- a text that is said writes no sector
pub said_unwritten : (syncs : Bool) (x y : Ledger) → SyncsOnce syncs x y → y.written ≡ x.written
said_unwritten syncs x y (inl same) = ap (λ (l : Ledger). l.written) same
said_unwritten syncs x y (inr once) = ap (λ (l : Ledger). l.written) once.1

-- a text behind a volume that was closed
pub closed_by : {T : Type 0} (s : State) (text : List ℕ) (a m b : Moment) (r : Result T Halt) → m.windows ≡ a.windows → m.said ≡ a.said → Touches (may_close s) a m → Ages m b → SaysBy text m b r → (r ≡ Err (Stopped Ends.WornOut) → ⊥) → ((why : Fault) → r ≡ Err (Stopped why) → IsToldOn AreOfPage s.layout b.image why) → ClosesBy s text a b r
closed_by s text a m b r windows same rest ages says unworn told = record {
  windows = ages.windows ∙ windows;
  says = said_by text a m b same r says;
  rest = then_worn (may_close s) a m b windows rest ages.image;
  unworn = unworn;
  told = told;
}

-- ---- one command

-- what may be replied may be so still
pub may_worn : (command : Command) (a b : Moment) (reply : Reply) → Touches nowhere a b → MayReply command a.image reply → MayReply command b.image reply
may_worn (Word.Get key) a b (Said.DamagedAt k n) quiet may = (may.0, stays_damaged a b n quiet may.1)
may_worn Word.Scrub a b (Said.Scrubbed found healed) quiet may = stay_damaged a b quiet found may
may_worn command a b reply quiet may = may

-- what a reply tells as damaged are data sectors
abbrev pub TellsData : Command → Layout → Reply → Type 0
TellsData (Word.Get key) l (Said.DamagedAt k n) = IsTrue (is_data l n)
TellsData Word.Scrub l (Said.Scrubbed found healed) = AllByRecursion (λ x. IsTrue (is_data l x.1)) found
TellsData command l reply = Unit {0}

all_data : (l : Layout) (i : Image) (found : List (Key × ℕ)) → AreDamaged l i found → AllByRecursion (λ x. IsTrue (is_data l x.1)) found
all_data l i [] damaged = tt
all_data l i (x ∷ found) damaged = (damaged.0.0, all_data l i found damaged.1)

pub tells_data : {S : Type 0} (state : S → State) (resident : S → ℕ → Option (List ℕ)) (command : Command) (s t : State) (a b : Moment) (reply : Reply) → Because state resident command s t a b reply → TellsData command s.layout reply
tells_data state resident (Word.Get key) s t a b (Said.DamagedAt k n) because = because
tells_data state resident Word.Scrub s t a b (Said.Scrubbed found healed) because = all_data s.layout b.image found because.0
tells_data state resident command s t a b reply because = tt

-- they stay damaged behind a close
module _ (s t : State) (layout : t.layout ≡ s.layout) (a b : Moment) (closing : Touches (may_close t) a b) where
  damaged_closed : (n : ℕ) → IsTrue (is_data s.layout n) → HasDamaged a.image n → HasDamaged b.image n
  damaged_closed n inside was = damaged_on (may_close t) a b n closing (data_out t s.layout layout n inside) was

  all_closed : (found : List (Key × ℕ)) → AllByRecursion (λ x. IsTrue (is_data s.layout x.1)) found → AllByRecursion (λ x. HasDamaged a.image x.1) found → AllByRecursion (λ x. HasDamaged b.image x.1) found
  all_closed [] inside damaged = tt
  all_closed (x ∷ found) inside damaged = (damaged_closed x.1 inside.0 damaged.0, all_closed found inside.1 damaged.1)

  may_closed : (command : Command) (reply : Reply) → TellsData command s.layout reply → MayReply command a.image reply → MayReply command b.image reply
  may_closed (Word.Get key) (Said.DamagedAt k n) inside may = (may.0, damaged_closed n inside may.1)
  may_closed Word.Scrub (Said.Scrubbed found healed) inside may = all_closed found inside may
  may_closed command reply inside may = may

-- ---- where a command and a close behind it write

module _ (s t : State) (layout : t.layout ≡ s.layout) (none : s.dirty ≡ []) (x : ℕ) where
  saving_out : IsFalse (saving_writes s.layout x) → IsFalse (saving_writes t.layout x)
  saving_out out = subst (λ (l : Layout). IsFalse (saving_writes l x)) (sym layout) out

  -- where a force writes, or a map is saved
  forced_out : IsFalse (force_writes s.layout x) → IsFalse (saving_writes s.layout x) → IsFalse (may_close t x)
  forced_out force out = close_out t x (subst (λ (l : Layout). IsFalse (force_writes l x)) (sym layout) force) (saving_out out)

  -- and where no page waits, only where a map is saved
  still_out : t.dirty ≡ s.dirty → IsFalse (saving_writes s.layout x) → IsFalse (may_close t x)
  still_out same out = clean_out t (same ∙ none) x (saving_out out)

  behind_out : (command : Command) → KeepsState command s t → IsFalse (may_write command s x) → IsFalse (saving_writes s.layout x) → IsFalse (may_close t x)
  behind_out (Word.Put name bytes keep) still may out = forced_out (or_left (force_writes s.layout x) (in_place (place_in s (sectors_for (length bytes))) x) may) out
  behind_out (Word.Load key keep bytes) still may out = forced_out (or_left (force_writes s.layout x) (in_place (place_in s (sectors_for (length bytes))) x) may) out
  behind_out (Word.Delete key) still may out = forced_out may out
  behind_out (Word.Keep name keep) still may out = forced_out may out
  behind_out (Word.Move key name) still may out = forced_out may out
  behind_out Word.Force still may out = forced_out may out
  behind_out Word.Tick still may out = forced_out may out
  behind_out Word.Scrub still may out = still_out (ap (λ (y : State). y.dirty) (still none)) out
  behind_out Word.Upgrade still may out = still_out still out
  behind_out (Word.Grow sectors) still may out = still_out still out
  behind_out command still may out = still_out (ap (λ (y : State). y.dirty) still) out

alone_rest : (command : Command) (s t : State) (a m b : Moment) → m.windows ≡ a.windows → t.layout ≡ s.layout → KeepsState command s t → s.dirty ≡ [] → TouchesBy command s a m → Touches (may_close t) m b → TouchesAlone command s a b
alone_rest command s t a m b windows layout still none first closing =
    in_then command (may_write command s) (may_close t) (λ x. may_write command s x || saving_writes s.layout x) a m b (λ x out. (or_parts (may_write command s x) (saving_writes s.layout x) out).0)
    (λ x out. let both = or_parts (may_write command s x) (saving_writes s.layout x) out in behind_out s t layout none x command still both.0 both.1) windows first closing

-- where it is not closed
alone_unclosed : (command : Command) (s : State) (a b : Moment) → b.windows ≡ a.windows → TouchesBy command s a b → TouchesAlone command s a b
alone_unclosed command s a b windows rest =
    in_then command (may_write command s) nowhere (λ x. may_write command s x || saving_writes s.layout x) a b b (λ x out. (or_parts (may_write command s x) (saving_writes s.layout x) out).0) (λ x out. refl) windows rest
    (record { size = refl; others = λ x out. inl refl })

keeps_said : (text : List ℕ) (a b : Moment) (r : Result ℕ Halt) → SaysBy text a b (unit_of r) → KeepsSaid a b r
keeps_said text a b (Ok status) says = tt
keeps_said text a b (Err (Stopped why)) says = says
keeps_said text a b (Err Output) says = tt

replied : (command : Command) (reply : Reply) (a b : Moment) → MayReply command b.image reply → (r : Result ℕ Halt) → IfOk r (λ status. status ≡ reply_status reply) → SaysBy (reply_alone reply) a b (unit_of r) → IfOk r (SaysReply command a b)
replied command reply a b may (Ok status) gives says = record { reply = reply; may = may; gives = gives; said = says }
replied command reply a b may (Err end) gives says = tt

module _ (command : Command) (s t : State) (a m : Moment) (windows : m.windows ≡ a.windows) (same : m.said ≡ a.said) where
  pub alone_closed : (b : Moment) (x : Reply) (r : Result ℕ Halt) → t.layout ≡ s.layout → TellsData command s.layout x → MayAnswer command s t a m (Ok x) → IfOk r (λ status. status ≡ reply_status x) → ClosesBy t (reply_alone x) m b (unit_of r) → AnswersAlone command s a b r
  alone_closed b x r layout inside answers gives closes =
      let says = said_by (reply_alone x) a m b same (unit_of r) closes.says in
      record {
        windows = closes.windows ∙ windows;
        quiet = keeps_said (reply_alone x) a b r says;
        replies = λ none. replied command x a b (may_closed s t layout m b closes.rest command x inside answers.replies) r gives says;
        rest = λ none. alone_rest command s t a m b windows layout answers.still none answers.rest closes.rest;
        worn = λ is. absurd (closes.unworn (ap (λ (x : Result ℕ Halt). unit_of x) is));
        told = λ why is. told_may command s.layout b.image why (subst (λ (l : Layout). IsToldOn AreOfPage l b.image why) layout (closes.told why (ap (λ (x : Result ℕ Halt). unit_of x) is)));
      }

  pub alone_ended : (why : Fault) → MayAnswer command s t a m (Err why) → AnswersAlone command s a m (Err (Stopped why))
  alone_ended why answers = record {
    windows = windows;
    quiet = same;
    replies = λ none. tt;
    rest = λ none. alone_unclosed command s a m windows answers.rest;
    worn = λ is. let e : why ≡ Ends.WornOut = cc is in answers.worn (ap (λ (w : Fault). Err w) e);
    told = λ other is. let e : why ≡ other = cc is in subst (λ (w : Fault). IsToldOn (MayLose command) s.layout m.image w) e answers.told;
  }

-- ---- to the last line

pub fault_alone : (why : Fault) (a m b : Moment) (status : ℕ) → m.said ≡ a.said → EndsWith why m b status → SaysNoReply a b status
fault_alone why a m b status same (inl six) = inl six
fault_alone why a m b status same (inr (gives, all)) = inr (record { why = why; gives = gives; said = all.said ∙ ap (λ (x : List ℕ). x ++ fault_text why) same })

pub no_reply_since : (a m b : Moment) (status : ℕ) → m.said ≡ a.said → SaysNoReply m b status → SaysNoReply a b status
no_reply_since a m b status same (inl six) = inl six
no_reply_since a m b status same (inr x) = inr (record { why = x.why; gives = x.gives; said = x.said ∙ ap (λ (y : List ℕ). y ++ fault_text x.why) same })

pub one_since : (command : Command) (a m b : Moment) (status : ℕ) → m.said ≡ a.said → SaysOne command m b status → SaysOne command a b status
one_since command a m b status same (inl x) = inl (record { reply = x.reply; may = x.may; gives = x.gives; said = x.said ∙ ap (λ (y : List ℕ). y ++ reply_alone x.reply) same })
one_since command a m b status same (inr none) = inr (no_reply_since a m b status same none)

module _ (command : Command) (s : State) (a m : Moment) (none : s.dirty ≡ []) where
  pub one_replied : (status : ℕ) → AnswersAlone command s a m (Ok status) → EndsOne command s a m status
  one_replied status x = record { windows = x.windows; says = inl (x.replies none); rest = x.rest none }

  pub one_failed : (b : Moment) (why : Fault) (status : ℕ) → AnswersAlone command s a m (Err (Stopped why)) → Utters (fault_text why) m b → EndsWith why m b status → EndsOne command s a b status
  one_failed b why status x utters ends = record {
    windows = utters.windows ∙ x.windows;
    says = inr (fault_alone why a m b status x.quiet ends);
    rest = in_worn command (λ t. may_write command s t || saving_writes s.layout t) a m b x.windows (x.rest none) utters.image;
  }

  pub one_unheard : AnswersAlone command s a m (Err Output) → EndsOne command s a m 6
  one_unheard x = record { windows = x.windows; says = inr (inl refl); rest = x.rest none }

-- ---- from the mount on

behind_mount : (command : Command) (sectors : ℕ) (s : State) (a m b : Moment) → IsFound sectors s a m → TouchesAlone command s m b → WritesBehind command sectors a m b
behind_mount command sectors s a m b found rest = by command rest
  where
    volume : HasVolume sectors a
    volume = record { seen = found.seen; from = found.from; layout = s.layout; anchor = found.anchor; found = found.found; left = found.left }

    by : (command : Command) → TouchesAlone command s m b → WritesBehind command sectors a m b
    by (Word.Put name bytes keep) rest = tt
    by (Word.Load key keep bytes) rest = tt
    by command rest = inr (volume, rest)

behind_nothing : (command : Command) (sectors : ℕ) (a m b : Moment) → Ages m b → WritesBehind command sectors a m b
behind_nothing (Word.Put name bytes keep) sectors a m b ages = tt
behind_nothing (Word.Load key keep bytes) sectors a m b ages = tt
behind_nothing command sectors a m b ages = inl ages

pub run_mounted : (command : Command) (sectors : ℕ) (s : State) (a m b : Moment) (status : ℕ) → IsFound sectors s a m → m.said ≡ a.said → MountKeeps sectors a m → EndsOne command s m b status → RunsOne command sectors a b status
run_mounted command sectors s a m b status found same kept ends = record {
  says = one_since command a m b status same ends.says;
  rest = record { mounted = m; rest = kept; behind = behind_mount command sectors s a m b found ends.rest };
}

pub run_refused : (command : Command) (sectors : ℕ) (why : Fault) (a m b : Moment) (status : ℕ) → m.said ≡ a.said → MountKeeps sectors a m → Utters (fault_text why) m b → EndsWith why m b status → RunsOne command sectors a b status
run_refused command sectors why a m b status same kept utters ends = record {
  says = inr (fault_alone why a m b status same ends);
  rest = record { mounted = m; rest = kept; behind = behind_nothing command sectors a m b (record { image = utters.image; windows = utters.windows }) };
}
