-- Which refusals a call of a client may end with, over a volume that is up.
use Rattle.std.proofs.Common.{◌≡◌, ◌⊎◌, inl, inr, ℕ, Bool, true, false, cond, List, [], ◌∷◌, length, Option, Some, None, refl, sym, ◌∙◌, ap, subst, arith}
use Rattle.std.specs.Prelude.{◌≤◌, ◌+◌, ◌-◌, IfErr, IfOk, IsFalse, IsTrue, Result, Ok, Err, is_none, nat_lt, option_map}
use Rattle.std.proofs.lemmas.Bool.{ltb-false, ltb-true}
use Rattle.volume_layout.specs.declared.layout.Layout.{Layout}
use Rattle.run_table.specs.RunTable.{total}
use Rattle.run_table.specs.Space.{best}
use Rattle.fsd_bytes.specs.declared.key.Key.{Key}
use Rattle.fsd_bytes.specs.declared.refusal.Refusal.{Refusal}
use Rattle.fsd_bytes.specs.declared.refusal.Refusal.TheVariants as Why
use Rattle.fsd_formats.specs.NamePage.{max_length, sectors_for}
use Rattle.fsd_files.specs.Answers.{least_pages}
use Rattle.fsd_files.specs.Desk.{is_client}
use Rattle.fsd_files.specs.Disk.{Image, Sectors}
use Rattle.fsd_files.specs.declared.reply.Reply.{Reply}
use Rattle.fsd_files.specs.declared.reply.Reply.TheVariants as Said
use Rattle.fsd_texts.specs.declared.call.Call.{Call}
use Rattle.fsd_texts.specs.declared.call.Call.TheVariants as Calls
use Rattle.fsd_texts.specs.declared.fault.Fault.{Fault}
use Rattle.fsd_texts.specs.declared.fault.Fault.TheVariants as Ends
use Rattle.fsd_texts.specs.declared.script_command.ScriptCommand.TheVariants.{OfClient}
use Rattle.scrub.specs.Telling.{AreOfPage}
use Rattle.sector_disk.specs.Machine.{Moment}
use Rattle.volume_contract.specs.Ends.{device_of}
use Rattle.volume_contract.specs.Order.{Asks, Comes, Disk, Draw, Fetch, Force, IsDeviceRefusal, IsDeviceIn, IsLookUp, LookUp, CallStep, Test, Through, by_itself, down, keep_size, length_size, no_place_in, place, runs_at, table_full, worn}
use Rattle.volume_contract.specs.State.{State, forces_for_place, is_worn, place_in}
use Rattle.volume_contract.proofs.OrderLaws.{fetch_looks}
use Rattle.client_desk.specs.declared.client.Client.{Client}
use Rattle.client_desk.specs.declared.client.Client.TheVariants.{Idle, Writing, Reading}
use Rattle.client_desk.specs.Clients.{as_idle, as_reading, as_writing, begin_steps, client_at, close_steps, done_steps, drop_steps, fault_in, found, in_data, in_first, open_steps, piece_steps, tested, too_long, too_short}
use Rattle.volume_turns.specs.Calls.{AnswersIn, CallMayReply, IsTooLong, LacksEntry, LacksPlace, RefusesBusy, RefusesIdle}
use Rattle.volume_turns.specs.Numbers.{GoesUp}
use Rattle.volume_turns.specs.Steps.{IsRefusedOn, IsToldOn, device_by, ended_by}
use Rattle.volume_turns.proofs.AnsweringLaws.{each}
use Rattle.volume_turns.proofs.OrderLaws.{Never, few_best, never, passes_worn, refuses_worn, starts_up}
use Rattle.volume_turns.proofs.StatusLaws.{device_looks, look_up_ends, loss_looks}
use Rattle.volume_turns.proofs.StepLaws.{same_device}
use Rattle.volume_turns.proofs.ToldLaws.{told_so}
use Rattle.volume_turns.proofs.WornLaws.{look_up_worn}

-- ---- what is said

busy_said : (c : ℕ) (why : Refusal) → RefusesBusy c why → ended_by why ≡ Ok (Said.Refused why)
busy_said c (Why.BadClient d) is = refl
busy_said c (Why.Busy d) is = refl
busy_said c why is = absurd is

pub idle_said : (c : ℕ) (why : Refusal) → RefusesIdle c why → ended_by why ≡ Ok (Said.Refused why)
idle_said c (Why.BadClient d) is = refl
idle_said c (Why.Idle d) is = refl
idle_said c why is = absurd is

place_said : (len : ℕ) (why : Refusal) → LacksPlace len why → ended_by why ≡ Ok (Said.Refused why)
place_said len (Why.TooLong n) is = refl
place_said len (Why.NoSpace need free) is = refl
place_said len (Why.TooFragmented need most) is = refl
place_said len why is = absurd is

long_said : (count : ℕ) (why : Refusal) → IsTooLong count why → ended_by why ≡ Ok (Said.Refused why)
long_said count (Why.Long declared got) is = refl
long_said count why is = absurd is

entry_said : (why : Refusal) → LacksEntry why → ended_by why ≡ Ok (Said.Refused why)
entry_said (Why.Short declared got) is = refl
entry_said (Why.NameTableFull free) is = refl
entry_said Why.VersionsUsedUp is = refl
entry_said why is = absurd is

none_said : (why : Refusal) → why ≡ Why.NoSuch → ended_by why ≡ Ok (Said.Refused why)
none_said why is = subst (λ (w : Refusal). ended_by w ≡ Ok (Said.Refused w)) (sym is) refl

-- a refusal that a call may be answered by is said
pub call_said : (c : ℕ) (call : Call) (i : Image) (why : Refusal) → CallMayReply c call i (Said.Refused why) → ended_by why ≡ Ok (Said.Refused why)
call_said c (Calls.Begin name len) i why (inl busy) = busy_said c why busy
call_said c (Calls.Begin name len) i why (inr lacks) = place_said len why lacks
call_said c (Calls.Piece bytes) i why (inl idle) = idle_said c why idle
call_said c (Calls.Piece bytes) i why (inr long) = long_said (length bytes) why long
call_said c Calls.Close i why (inl idle) = idle_said c why idle
call_said c Calls.Close i why (inr lacks) = entry_said why lacks
call_said c Calls.Drop i why idle = idle_said c why idle
call_said c (Calls.Open key) i why (inl busy) = busy_said c why busy
call_said c (Calls.Open key) i why (inr none) = none_said why none
call_said c (Calls.Next len) i why idle = idle_said c why idle
call_said c Calls.Done i why idle = idle_said c why idle

-- it is refused so, which is said, or by what breaks the run off
abbrev pub Declines : (c : ℕ) → Call → Image → (Breaks : Refusal → Type 0) → Refusal → Type 0
Declines c call i Breaks why = CallMayReply c call i (Said.Refused why) ⊎ Breaks why

-- the disk or the table told it, or the mount is worn out
abbrev pub EndsRun : State → Refusal → Type 0
EndsRun s why = IsLookUp why ⊎ ((why ≡ Why.WornOut) × IsTrue (is_worn s))

pub look_up_more : (c : ℕ) (call : Call) (i : Image) (s : State) (why : Refusal) → Declines c call i IsLookUp why → Declines c call i (EndsRun s) why
look_up_more c call i s why (inl said) = inl said
look_up_more c call i s why (inr broken) = inr (inl broken)

pub device_more : (c : ℕ) (call : Call) (i : Image) (s : State) (why : Refusal) → Declines c call i IsDeviceRefusal why → Declines c call i (EndsRun s) why
device_more c call i s why (inl said) = inl said
device_more c call i s why (inr broken) = inr (inl (device_looks why broken))

module _ (c : ℕ) (call : Call) (i : Image) (s : State) (why : Refusal) where
  never_down : Declines c call i (EndsRun s) why → (t : ℕ) → why ≡ Why.Down t → ⊥
  never_down (inl said) t is =
      let at : Err (Ends.Device t) ≡ Ok (Said.Refused (Why.Down t)) = subst (λ (w : Refusal). ended_by w ≡ Ok (Said.Refused w)) is (call_said c call i why said) in
      cc at
  never_down (inr (inl broken)) t is = subst IsLookUp is broken
  never_down (inr (inr worn)) t is = let at : Why.WornOut ≡ Why.Down t = sym worn.0 ∙ is in cc at

  -- the fault that is told is the one that was counted
  pub declined_device : Declines c call i (EndsRun s) why → (r : Result Reply Fault) → r ≡ ended_by why → device_by r ≡ device_of why
  declined_device declines r is = ap (λ (x : Result Reply Fault). device_by x) is ∙ sym (same_device why (never_down declines))

  declined_replies : Declines c call i (EndsRun s) why → (r : Result Reply Fault) → r ≡ ended_by why → IfOk r (λ a. CallMayReply c call i a)
  declined_replies (inl said) r is = subst (λ (x : Result Reply Fault). IfOk x (λ a. CallMayReply c call i a)) (sym (is ∙ call_said c call i why said)) said
  declined_replies (inr (inl broken)) r is = look_up_ends (λ a. CallMayReply c call i a) why r is broken
  declined_replies (inr (inr worn)) r is =
      let at : r ≡ Err Ends.WornOut = is ∙ ap (λ (w : Refusal). ended_by w) worn.0 in
      subst (λ (x : Result Reply Fault). IfOk x (λ a. CallMayReply c call i a)) (sym at) tt

  declined_worn : Declines c call i (EndsRun s) why → (r : Result Reply Fault) → r ≡ ended_by why → r ≡ Err Ends.WornOut → IsTrue (is_worn s)
  declined_worn (inl said) r is at = let same : Ok (Said.Refused why) ≡ Err Ends.WornOut = sym (call_said c call i why said) ∙ sym is ∙ at in absurd (cc same)
  declined_worn (inr (inl broken)) r is at = look_up_worn s why r is broken at
  declined_worn (inr (inr worn)) r is at = worn.1

  device_told : (w : Refusal) → IsDeviceRefusal w → (l : Layout) → IsRefusedOn AreOfPage l i w
  device_told (Why.Device t) broken l = tt
  device_told w broken l = absurd broken

  -- nothing is told of the image
  pub declined_told : Declines c call i IsDeviceRefusal why → (l : Layout) → IsRefusedOn AreOfPage l i why
  declined_told (inl said) l = subst (λ (x : Result Reply Fault). IfErr x (IsToldOn AreOfPage l i)) (sym (call_said c call i why said)) tt
  declined_told (inr broken) l = device_told why broken l

pub declined_answers : (c : ℕ) (call : Call) (s t : State) (old new : Moment) (why : Refusal) (r : Result Reply Fault) → r ≡ ended_by why → Declines c call new.image (EndsRun s) why → GoesUp 1 s t → IsRefusedOn AreOfPage s.layout new.image why
    → AnswersIn (OfClient c call) s t old new r
declined_answers c call s t old new why r is declines goes told = record {
  replies = declined_replies c call new.image s why declines r is;
  worn = declined_worn c call new.image s why declines r is;
  numbers = goes;
  told = told_so AreOfPage s.layout new.image why r is told;
}

-- where a step refuses so, the mount is worn out
pub worn_of : (c : ℕ) (call : Call) (i : Image) (s : State) → Declines c call i (EndsRun s) Why.WornOut → IsTrue (is_worn s)
worn_of c call i s declines = declined_worn c call i s Why.WornOut declines (Err Ends.WornOut) refl refl

-- ---- the test of a client

module _ (as_such : (c i : ℕ) → Client → Result ℕ Refusal) (desk : List Client) (c : ℕ) where
  test_says : (Says : Refusal → Type 0) (why : Refusal) → (is_client c ≡ false → Says (Why.BadClient c)) → (is_client c ≡ true → (x : Client) → fault_in (as_such c (c - 1) x) ≡ Some why → Says why) → fault_in (found as_such desk c) ≡ Some why → Says why
  test_says Says why bad such is = by (is_client c) refl is
    where
      by : (b : Bool) → is_client c ≡ b → fault_in (tested as_such desk c (cond b (Ok (c - 1)) (Err (Why.BadClient c)))) ≡ Some why → Says why
      by true at e = such at (client_at desk (c - 1)) e
      by false at e = let same : Why.BadClient c ≡ why = cc e in subst Says same (bad at)

  -- one that passes is of a client
  pub test_client : fault_in (found as_such desk c) ≡ None → IsTrue (is_client c)
  test_client is = by (is_client c) refl is
    where
      by : (b : Bool) → is_client c ≡ b → fault_in (tested as_such desk c (cond b (Ok (c - 1)) (Err (Why.BadClient c)))) ≡ None → IsTrue (is_client c)
      by true at e = at
      by false at e = absurd (cc e)

pub idle_test : (desk : List Client) (c : ℕ) (why : Refusal) → fault_in (found as_idle desk c) ≡ Some why → RefusesBusy c why
idle_test desk c why is = test_says as_idle desk c (RefusesBusy c) why (λ at. (refl, at)) such is
  where
    such : is_client c ≡ true → (x : Client) → fault_in (as_idle c (c - 1) x) ≡ Some why → RefusesBusy c why
    such at Idle e = absurd (cc e)
    such at (Writing w) e = let same : Why.Busy c ≡ why = cc e in subst (RefusesBusy c) same (refl, at)
    such at (Reading r) e = let same : Why.Busy c ≡ why = cc e in subst (RefusesBusy c) same (refl, at)

pub writing_test : (desk : List Client) (c : ℕ) (why : Refusal) → fault_in (found as_writing desk c) ≡ Some why → RefusesIdle c why
writing_test desk c why is = test_says as_writing desk c (RefusesIdle c) why (λ at. (refl, at)) such is
  where
    such : is_client c ≡ true → (x : Client) → fault_in (as_writing c (c - 1) x) ≡ Some why → RefusesIdle c why
    such at Idle e = let same : Why.Idle c ≡ why = cc e in subst (RefusesIdle c) same (refl, at)
    such at (Writing w) e = absurd (cc e)
    such at (Reading r) e = let same : Why.Idle c ≡ why = cc e in subst (RefusesIdle c) same (refl, at)

pub reading_test : (desk : List Client) (c : ℕ) (why : Refusal) → fault_in (found as_reading desk c) ≡ Some why → RefusesIdle c why
reading_test desk c why is = test_says as_reading desk c (RefusesIdle c) why (λ at. (refl, at)) such is
  where
    such : is_client c ≡ true → (x : Client) → fault_in (as_reading c (c - 1) x) ≡ Some why → RefusesIdle c why
    such at Idle e = let same : Why.Idle c ≡ why = cc e in subst (RefusesIdle c) same (refl, at)
    such at (Writing w) e = let same : Why.Idle c ≡ why = cc e in subst (RefusesIdle c) same (refl, at)
    such at (Reading r) e = absurd (cc e)

-- ---- the tests of sizes and place

pub size_says : (len : ℕ) (why : Refusal) (b : Bool) → nat_lt max_length len ≡ b → cond b (Some (Why.TooLong len)) None ≡ Some why → LacksPlace len why
size_says len why true at e = let same : Why.TooLong len ≡ why = cc e in subst (LacksPlace len) same (refl, ltb-true max_length len at)
size_says len why false at e = absurd (cc e)

pub size_fits : (len : ℕ) (b : Bool) → nat_lt max_length len ≡ b → cond b (Some (Why.TooLong len)) None ≡ None → len ≤ max_length
size_fits len true at e = absurd (cc e)
size_fits len false at e = ltb-false max_length len at

pub size_none : (len : ℕ) → len ≤ max_length → cond (nat_lt max_length len) (Some (Why.TooLong len)) None ≡ None
size_none len small = by (nat_lt max_length len) refl
  where
    by : (b : Bool) → nat_lt max_length len ≡ b → cond b (Some (Why.TooLong len)) None ≡ None
    by true at = let over = ltb-true max_length len at in absurd (omega (arith, over, small))
    by false at = refl

module _ (s : State) (len : ℕ) (small : len ≤ max_length) where
  abbrev need : ℕ
  need = sectors_for len

  lacks : is_none (place_in s need) ≡ true → (b : Bool) → nat_lt (total (runs_at s need)) need ≡ b → LacksPlace len (cond b (Why.NoSpace need (total (runs_at s need))) (Why.TooFragmented need (best (runs_at s need))))
  lacks none true at = (small, refl, ltb-true (total (runs_at s need)) need at)
  lacks none false at = (small, refl, few_best s need none)

  place_says : (why : Refusal) (b : Bool) → is_none (place_in s need) ≡ b → cond b (Some (no_place_in s (runs_at s need) need)) None ≡ Some why → LacksPlace len why
  place_says why true at e = let same : no_place_in s (runs_at s need) need ≡ why = cc e in subst (LacksPlace len) same (lacks at (nat_lt (total (runs_at s need)) need) refl)
  place_says why false at e = absurd (cc e)

long_says : (x : Client) (count : ℕ) (why : Refusal) → too_long x count ≡ Some why → IsTooLong count why
long_says Idle count why e = absurd (cc e)
long_says (Reading r) count why e = absurd (cc e)
long_says (Writing w) count why e = by (nat_lt w.draft.length (w.got + count)) refl e
  where
    by : (b : Bool) → nat_lt w.draft.length (w.got + count) ≡ b → cond b (Some (Why.Long w.draft.length (w.got + count))) None ≡ Some why → IsTooLong count why
    by true at is = let same : Why.Long w.draft.length (w.got + count) ≡ why = cc is in subst (IsTooLong count) same (ltb-true w.draft.length (w.got + count) at, omega arith)
    by false at is = absurd (cc is)

pub short_says : (x : Client) (why : Refusal) → too_short x ≡ Some why → LacksEntry why
short_says Idle why e = absurd (cc e)
short_says (Reading r) why e = absurd (cc e)
short_says (Writing w) why e = by (nat_lt w.got w.draft.length) refl e
  where
    by : (b : Bool) → nat_lt w.got w.draft.length ≡ b → cond b (Some (Why.Short w.draft.length w.got)) None ≡ Some why → LacksEntry why
    by true at is = let same : Why.Short w.draft.length w.got ≡ why = cc is in subst LacksEntry same (ltb-true w.got w.draft.length at)
    by false at is = absurd (cc is)

full_says : (n : ℕ) (why : Refusal) (b : Bool) → nat_lt n least_pages ≡ b → cond b (Some (Why.NameTableFull n)) None ≡ Some why → LacksEntry why
full_says n why true at e = let same : Why.NameTableFull n ≡ why = cc e in subst LacksEntry same (ltb-true n least_pages at)
full_says n why false at e = absurd (cc e)

-- ---- the steps

placed_device : (may : Sectors) (why : Refusal) → IsDeviceIn may why → IsDeviceRefusal why
placed_device may (Why.Device s) is = tt
placed_device may why is = absurd is

abbrev pub reserve_rest : State → ℕ → List CallStep
reserve_rest s len = Force (forces_for_place s (sectors_for len)) ∷ place s (sectors_for len) ∷ Draw ∷ []

abbrev pub enter_rest : State → Sectors → List CallStep
enter_rest s leader = Disk leader ∷ by_itself s ∷ LookUp ∷ Asks Why.VersionsUsedUp ∷ table_full s ∷ Fetch ∷ []

module _ (s : State) (up : s.down ≡ None) (desk : List Client) (c : ℕ) (i : Image) (why : Refusal) where
  -- ---- begin

  pub begin_declines : (name : List ℕ) (len : ℕ) → Comes (begin_steps s desk c len) why → Declines c (Calls.Begin name len) i (EndsRun s) why
  begin_declines name len (inl here) = inl (inl (idle_test desk c why here))
  begin_declines name len (inr later) = sized (starts_up s up (length_size s len ∷ worn s ∷ reserve_rest s len) why later.1)
    where
      Out : Type 0
      Out = Declines c (Calls.Begin name len) i (EndsRun s) why

      rest : len ≤ max_length → Comes (reserve_rest s len) why → Out
      rest small comes = each why Out (reserve_rest s len)
          (λ x. inr (inl (loss_looks why x.1)), (λ x. inl (inr (place_says s len small why (is_none (place_in s (sectors_for len))) refl x)), (λ x. absurd x, tt)))
          comes

      wears : len ≤ max_length → Comes (worn s ∷ reserve_rest s len) why → Out
      wears small (inl here) = inr (inr (refuses_worn (is_worn s) why here))
      wears small (inr more) = rest small more.1

      sized : Comes (length_size s len ∷ worn s ∷ reserve_rest s len) why → Out
      sized (inl here) = inl (inr (size_says len why (nat_lt max_length len) refl here))
      sized (inr more) = wears (size_fits len (nat_lt max_length len) refl more.0) more.1

  -- ---- piece

  pub piece_declines : (bytes : List ℕ) → Comes (piece_steps s desk c (length bytes)) why → Declines c (Calls.Piece bytes) i IsDeviceRefusal why
  piece_declines bytes (inl here) = inl (inl (writing_test desk c why here))
  piece_declines bytes (inr later) = fits later.1
    where
      may : Sectors
      may t = in_data (client_at desk (c - 1)) t

      Out : Type 0
      Out = Declines c (Calls.Piece bytes) i IsDeviceRefusal why

      disk : Comes (Disk may ∷ []) why → Out
      disk (inl here) = inr (placed_device may why here)
      disk (inr more) = absurd more.1

      fits : Comes (Test (too_long (client_at desk (c - 1)) (length bytes)) ∷ down s ∷ Disk may ∷ []) why → Out
      fits (inl here) = inl (inr (long_says (client_at desk (c - 1)) (length bytes) why here))
      fits (inr more) = disk (starts_up s up (Disk may ∷ []) why more.1)

  -- ---- close

  pub close_declines : Comes (close_steps s desk c) why → Declines c Calls.Close i (EndsRun s) why
  close_declines (inl here) = inl (inl (writing_test desk c why here))
  close_declines (inr later) = fits later.1
    where
      leader : Sectors
      leader t = in_first (client_at desk (c - 1)) t

      Out : Type 0
      Out = Declines c Calls.Close i (EndsRun s) why

      rest : Comes (enter_rest s leader) why → Out
      rest comes = each why Out (enter_rest s leader) (
        λ x. inr (inl (device_looks why (placed_device leader why x))),
        (
          λ x. inr (inl (loss_looks why x.1)),
          (
            λ x. inr (inl x),
            (
              λ x. inl (inr (subst LacksEntry (sym x) tt)),
              (λ x. inl (inr (full_says (length s.free_pages) why (nat_lt (length s.free_pages) least_pages) refl x)), (λ x. inr (inl (fetch_looks why x)), tt)),
            ),
          ),
        ),
      )
          comes

      wears : Comes (worn s ∷ enter_rest s leader) why → Out
      wears (inl here) = inr (inr (refuses_worn (is_worn s) why here))
      wears (inr more) = rest more.1

      kept : Comes (keep_size s 0 ∷ worn s ∷ enter_rest s leader) why → Out
      kept (inl here) = absurd (cc here)
      kept (inr more) = wears more.1

      fits : Comes (Test (too_short (client_at desk (c - 1))) ∷ down s ∷ keep_size s 0 ∷ worn s ∷ enter_rest s leader) why → Out
      fits (inl here) = inl (inr (short_says (client_at desk (c - 1)) why here))
      fits (inr more) = kept (starts_up s up (keep_size s 0 ∷ worn s ∷ enter_rest s leader) why more.1)

  -- ---- open

  pub open_declines : (key : Key) → Comes (open_steps s desk c) why → Declines c (Calls.Open key) i IsLookUp why
  open_declines key (inl here) = inl (inl (idle_test desk c why here))
  open_declines key (inr later) = looked (starts_up s up (LookUp ∷ Asks Why.NoSuch ∷ []) why later.1)
    where
      Out : Type 0
      Out = Declines c (Calls.Open key) i IsLookUp why

      looked : Comes (LookUp ∷ Asks Why.NoSuch ∷ []) why → Out
      looked comes = each why Out (LookUp ∷ Asks Why.NoSuch ∷ []) (λ x. inr x, (λ x. inl (inr x), tt)) comes

-- ---- a test alone

module _ (desk : List Client) (c : ℕ) (why : Refusal) where
  pub drop_refuses : Comes (drop_steps desk c) why → RefusesIdle c why
  drop_refuses (inl here) = writing_test desk c why here
  drop_refuses (inr more) = absurd more.1

  pub done_refuses : Comes (done_steps desk c) why → RefusesIdle c why
  done_refuses (inl here) = reading_test desk c why here
  done_refuses (inr more) = absurd more.1

-- ---- a call that was answered

pub begin_fits : (s : State) (desk : List Client) (c len : ℕ) → Through (begin_steps s desk c len) → len ≤ max_length
begin_fits s desk c len is = size_fits len (nat_lt max_length len) refl is.1.1.0

pub begin_through : (s : State) (desk : List Client) (c len : ℕ) → Through (begin_steps s desk c len) → IsFalse (is_worn s)
begin_through s desk c len is = passes_worn (is_worn s) is.1.1.1.0

pub close_through : (s : State) (desk : List Client) (c : ℕ) → Through (close_steps s desk c) → IsFalse (is_worn s)
close_through s desk c is = passes_worn (is_worn s) is.1.1.1.1.0

-- ---- none is told as worn out

pub open_unworn : (s : State) → s.down ≡ None → (desk : List Client) (c : ℕ) (why : Refusal) (key : Key) → Comes (open_steps s desk c) why → why ≡ Why.WornOut → ⊥
open_unworn s up desk c why key comes is = by (open_declines s up desk c [] Why.WornOut key (subst (λ (w : Refusal). Comes (open_steps s desk c) w) is comes))
  where
    by : Declines c (Calls.Open key) [] IsLookUp Why.WornOut → ⊥
    by (inl (inl busy)) = busy
    by (inl (inr none)) = cc none
    by (inr broken) = broken

-- ---- none wants memory

-- what is told as want of memory is a refusal for it
ended_memory : (why : Refusal) → ended_by why ≡ Err Ends.Memory → why ≡ Why.Memory
ended_memory (Why.Device n) is = absurd (cc is)
ended_memory (Why.Down n) is = absurd (cc is)
ended_memory (Why.Lost a b) is = absurd (cc is)
ended_memory (Why.Unsound n) is = absurd (cc is)
ended_memory Why.WornOut is = absurd (cc is)
ended_memory Why.Memory is = refl
ended_memory why is = absurd (cc is)

pub spared_by : (steps : List CallStep) → Never Why.Memory steps → (why : Refusal) → Comes steps why → (r : Result Reply Fault) → r ≡ ended_by why → r ≡ Err Ends.Memory → ⊥
spared_by steps none why comes r is at = never Why.Memory steps none (subst (λ (w : Refusal). Comes steps w) (ended_memory why (sym is ∙ at)) comes)

down_spares : (place : Option ℕ) → option_map Why.Down place ≡ Some Why.Memory → ⊥
down_spares None is = cc is
down_spares (Some place) is = cc is

place_spares : (s : State) (need : ℕ) → cond (is_none (place_in s need)) (Some (no_place_in s (runs_at s need) need)) None ≡ Some Why.Memory → ⊥
place_spares s need = by (is_none (place_in s need)) (nat_lt (total (runs_at s need)) need)
  where
    by : (none few : Bool) → cond none (Some (cond few (Why.NoSpace need (total (runs_at s need))) (Why.TooFragmented need (best (runs_at s need))))) None ≡ Some Why.Memory → ⊥
    by true true is = cc is
    by true false is = cc is
    by false few is = cc is

module _ (s : State) (desk : List Client) (c : ℕ) where
  pub begin_spares : (len : ℕ) → Never Why.Memory (begin_steps s desk c len)
  begin_spares len =
      let place = place_spares s (sectors_for len) in
      (idle_test desk c Why.Memory, (down_spares s.down, (size_says len Why.Memory (nat_lt max_length len) refl, (λ is. let same = (refuses_worn (is_worn s) Why.Memory is).0 in cc same, (λ x. x.1, (place, (λ x. x, tt)))))))

  pub piece_spares : (count : ℕ) → Never Why.Memory (piece_steps s desk c count)
  piece_spares count = (writing_test desk c Why.Memory, (long_says (client_at desk (c - 1)) count Why.Memory, (down_spares s.down, (λ x. x, tt))))

pub drop_spares : (desk : List Client) (c : ℕ) → Never Why.Memory (drop_steps desk c)
drop_spares desk c = (writing_test desk c Why.Memory, tt)

pub done_spares : (desk : List Client) (c : ℕ) → Never Why.Memory (done_steps desk c)
done_spares desk c = (reading_test desk c Why.Memory, tt)
