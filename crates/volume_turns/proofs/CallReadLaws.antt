-- What a client is given next, and what a version is made of.
use Rattle.std.proofs.Common.{◌≡◌, ◌⊎◌, inl, inr, ℕ, ◌+◌, ◌-◌, ◌≤◌, Bool, true, false, cond, List, [], ◌∷◌, length, take, drop, Option, Some, None, refl, sym, ◌∙◌, ap, subst, arith}
use Rattle.std.specs.Prelude.{IfErr, IfOk, IsTrue, Result, Ok, Err, min}
use Rattle.run_table.specs.declared.run.Run.{Run}
use Rattle.volume_layout.specs.declared.layout.Layout.{Layout}
use Rattle.fsd_bytes.specs.declared.key.Key.{Key}
use Rattle.fsd_bytes.specs.declared.key.Serial.{Serial}
use Rattle.fsd_bytes.specs.declared.refusal.Refusal.{Refusal}
use Rattle.fsd_bytes.specs.declared.refusal.Refusal.TheVariants as Why
use Rattle.fsd_formats.specs.NamePage.{sectors_for}
use Rattle.fsd_files.specs.Answers.{FindsDamage}
use Rattle.fsd_files.specs.Desk.{Open, Nothing, Writes, Reads, Session, is_client, next_by, next_count, opened_by, with_client}
use Rattle.fsd_files.specs.Disk.{Image}
use Rattle.fsd_files.specs.Files.{Change}
use Rattle.fsd_files.specs.Kept.{range_sectors}
use Rattle.fsd_files.specs.declared.reply.Reply.{Reply}
use Rattle.fsd_files.specs.declared.reply.Reply.TheVariants.{Given}
use Rattle.fsd_files.specs.declared.reply.Reply.TheVariants as Said
use Rattle.fsd_texts.specs.declared.call.Call.TheVariants as Calls
use Rattle.fsd_texts.specs.declared.fault.Fault.{Fault}
use Rattle.fsd_texts.specs.declared.fault.Fault.TheVariants as Ends
use Rattle.fsd_runs.specs.Sessions.{FindsNext, changes_closed}
use Rattle.volume_contract.specs.Ends.{device_of}
use Rattle.volume_contract.specs.Order.{Comes, Data, IsData}
use Rattle.volume_contract.specs.State.{OpenParts, State}
use Rattle.client_desk.specs.declared.client.Client.{Client}
use Rattle.client_desk.specs.declared.client.Client.TheVariants.{Idle, Writing, Reading}
use Rattle.client_desk.specs.Clients.{as_reading, client_at, declared_at, declared_of, fault_in, found, client_key, key_read, left_at, bytes_to_read, desk_next_steps, client_place, tested}
use Rattle.client_desk.specs.Ends.{ServesOpen, open_at}
use Rattle.client_desk.proofs.SitsLaws.{opened_is}
use Rattle.volume_turns.specs.Commands.{HasDamaged}
use Rattle.volume_turns.specs.Calls.{CallMayReply, RefusesIdle, next_ended_by, room_for, sectors_made}
use Rattle.volume_turns.specs.Steps.{IsToldOn, device_by}
use Rattle.volume_turns.proofs.CallOrderLaws.{reading_test, test_client}
use Rattle.volume_turns.proofs.OrderLaws.{starts_up}

-- ---- so many bytes

count_room : (b : List ℕ) (p long from len : ℕ) → long ≡ length b → from ≡ p → next_count b p len ≡ next_count b p (min (long - from) len)
count_room b p long from len at place = omega (arith, at, place)

module _ (o : OpenParts) (desk : List Client) (clients : List Open) (c : ℕ) (serves : ServesOpen o (client_at desk (c - 1)) (open_at clients (c - 1))) where
  -- what asks for no more than is left is answered as what asks for all
  abbrev room : ℕ → ℕ
  room len = room_for (left_at desk (client_place c)) len

  pub next_same : (s : Session) (damaged : Option ℕ) (len : ℕ) → next_by (opened_by clients c) damaged s c len ≡ next_by (opened_by clients c) damaged s c (room len)
  next_same s damaged len = by (is_client c)
    where
      given : (key : Key) (r : List Run) (b : List ℕ) (p m n : ℕ) (d : Option ℕ) → next_count b p m ≡ next_count b p n → next_by (Ok (Reads key r b p)) d s c m ≡ next_by (Ok (Reads key r b p)) d s c n
      given key r b p m n None same = ap (λ (x : ℕ). (Given c (take x (drop p b)), with_client s c (Reads key r b (p + x)))) same
      given key r b p m n (Some t) same = refl

      such : (x : Client) (y : Open) → ServesOpen o x y → next_by (Ok y) damaged s c len ≡ next_by (Ok y) damaged s c (room_for (bytes_to_read x) len)
      such x Nothing z = refl
      such x (Writes name l r t b) z = refl
      such Idle (Reads key r b p) z = absurd z
      such (Writing w) (Reads key r b p) z = absurd z
      such (Reading w) (Reads key r b p) z = given key r b p len (room_for (bytes_to_read (Reading w)) len) damaged (count_room b p w.held.entry.length w.place len z.long z.from)

      by : (b : Bool) → next_by (cond b (Ok (open_at clients (c - 1))) (Err (Why.BadClient c))) damaged s c len
          ≡ next_by (cond b (Ok (open_at clients (c - 1))) (Err (Why.BadClient c))) damaged s c (room_for (left_at desk (cond b (Ok (c - 1)) (Err (Why.BadClient c)))) len)
      by true = such (client_at desk (c - 1)) (open_at clients (c - 1)) serves
      by false = refl

  -- of a client that reads
  module _ (client : is_client c ≡ true) (key : Key) (runs : List Run) (bytes : List ℕ) (place : ℕ) (was : open_at clients (c - 1) ≡ Reads key runs bytes place) where
    reads : opened_by clients c ≡ Ok (Reads key runs bytes place)
    reads = opened_is clients c (c - 1) client refl ∙ ap (λ (y : Open). Ok y) was

    at_place : client_place c ≡ Ok (c - 1)
    at_place = ap (λ (b : Bool). cond b (Ok (c - 1)) (Err (Why.BadClient c))) client

    serves_read : ServesOpen o (client_at desk (c - 1)) (Reads key runs bytes place)
    serves_read = subst (λ (y : Open). ServesOpen o (client_at desk (c - 1)) y) was serves

    pub count_is : (len : ℕ) → next_count bytes place len ≡ next_count bytes place (room len)
    count_is len = such (client_at desk (c - 1)) serves_read ∙ sym (ap (λ (r : Result ℕ Refusal). next_count bytes place (room_for (left_at desk r) len)) at_place)
      where
        such : (x : Client) → ServesOpen o x (Reads key runs bytes place) → next_count bytes place len ≡ next_count bytes place (room_for (bytes_to_read x) len)
        such Idle s = absurd s
        such (Writing w) s = absurd s
        such (Reading w) s = count_room bytes place w.held.entry.length w.place len s.long s.from

    pub room_is : (len : ℕ) → room len ≡ next_count bytes place len
    room_is len = ap (λ (r : Result ℕ Refusal). room_for (left_at desk r) len) at_place ∙ such (client_at desk (c - 1)) serves_read
      where
        such : (x : Client) → ServesOpen o x (Reads key runs bytes place) → room_for (bytes_to_read x) len ≡ next_count bytes place len
        such Idle s = absurd s
        such (Writing w) s = absurd s
        such (Reading w) s = let long = s.long in let from = s.from in omega (arith, long, from)

    pub key_is : client_key desk (client_place c) ≡ Some key
    key_is = ap (λ (r : Result ℕ Refusal). client_key desk r) at_place ∙ such (client_at desk (c - 1)) serves_read
      where
        such : (x : Client) → ServesOpen o x (Reads key runs bytes place) → key_read x ≡ Some key
        such Idle s = absurd s
        such (Writing w) s = absurd s
        such (Reading w) s = ap (λ (k : Key). Some k) s.of_key

    pub finds_is : (i j : Image) (len : ℕ) (damaged : Option ℕ) → FindsDamage i j (range_sectors runs place (next_count bytes place (room len))) damaged → FindsNext i j (opened_by clients c) len damaged
    finds_is i j len damaged finds =
        subst (λ (r : Result Open Refusal). FindsNext i j r len damaged) (sym reads) (subst (λ (n : ℕ). FindsDamage i j (range_sectors runs place n) damaged) (sym (count_is len)) finds)

  -- one that reads nothing finds nothing
  pub finds_none : (i j : Image) (len : ℕ) (why : Refusal) → fault_in (found as_reading desk c) ≡ Some why → FindsNext i j (opened_by clients c) len None
  finds_none i j len why is = by (is_client c) is
    where
      such : (x : Client) (y : Open) → ServesOpen o x y → fault_in (as_reading c (c - 1) x) ≡ Some why → FindsNext i j (Ok y) len None
      such x Nothing s e = tt
      such x (Writes name l r t b) s e = tt
      such Idle (Reads key r b p) s e = absurd s
      such (Writing w) (Reads key r b p) s e = absurd s
      such (Reading w) (Reads key r b p) s e = absurd (cc e)

      by : (b : Bool) → fault_in (tested as_reading desk c (cond b (Ok (c - 1)) (Err (Why.BadClient c)))) ≡ Some why → FindsNext i j (cond b (Ok (open_at clients (c - 1))) (Err (Why.BadClient c))) len None
      by true e = such (client_at desk (c - 1)) (open_at clients (c - 1)) serves e
      by false e = tt

  -- ---- of a client that writes

  module _ (client : is_client c ≡ true) (name : List ℕ) (len : ℕ) (runs : List Run) (serial : Serial) (bytes : List ℕ) (was : open_at clients (c - 1) ≡ Writes name len runs serial bytes) where
    pub made_is : sectors_made (declared_at desk (client_place c)) ≡ sectors_for len
    made_is =
        ap (λ (b : Bool). sectors_made (declared_at desk (cond b (Ok (c - 1)) (Err (Why.BadClient c))))) client
        ∙ such (client_at desk (c - 1)) (subst (λ (y : Open). ServesOpen o (client_at desk (c - 1)) y) was serves)
      where
        such : (x : Client) → ServesOpen o x (Writes name len runs serial bytes) → sectors_made (declared_of x) ≡ sectors_for len
        such Idle s = absurd s
        such (Writing w) s = ap (λ (n : ℕ). sectors_for n) s.long
        such (Reading w) s = absurd s

    pub changes_are : (key : Key) (sectors : ℕ) → Change.Put name None bytes ∷ [] ≡ changes_closed (opened_by clients c) (Said.Made key sectors)
    changes_are key sectors = ap (λ (r : Result Open Refusal). changes_closed r (Said.Made key sectors)) (sym (opened_is clients c (c - 1) client refl ∙ ap (λ (y : Open). Ok y) was))

-- ---- how a read that was refused ends

-- a client that reads has a version
pub reading_key : (desk : List Client) (c : ℕ) → fault_in (found as_reading desk c) ≡ None → (key : Key) × (client_key desk (client_place c) ≡ Some key)
reading_key desk c is = by (is_client c) is
  where
    such : (x : Client) → fault_in (as_reading c (c - 1) x) ≡ None → (key : Key) × (key_read x ≡ Some key)
    such Idle e = absurd (cc e)
    such (Writing w) e = absurd (cc e)
    such (Reading w) e = (w.held.entry.key, refl)

    by : (b : Bool) → fault_in (tested as_reading desk c (cond b (Ok (c - 1)) (Err (Why.BadClient c)))) ≡ None → (key : Key) × (client_key desk (cond b (Ok (c - 1)) (Err (Why.BadClient c))) ≡ Some key)
    by true e = such (client_at desk (c - 1)) e
    by false e = absurd (cc e)

-- The client has no version that it reads.
pub record IsUnread (c : ℕ) (desk : List Client) (why : Refusal) (result : Result Reply Fault) : Type 0 where
  pub test : fault_in (found as_reading desk c) ≡ Some why
  pub idle : RefusesIdle c why
  pub is : result ≡ Ok (Said.Refused why)

-- A sector of it is damaged, which is said with its key.
pub record IsDamagedAt (c : ℕ) (desk : List Client) (why : Refusal) (result : Result Reply Fault) : Type 0 where
  pub key : Key
  pub sector : ℕ
  pub refused : why ≡ Why.Damaged sector
  pub reads : client_key desk (client_place c) ≡ Some key
  pub client : IsTrue (is_client c)
  pub is : result ≡ Ok (Said.DamagedAt key sector)

-- The disk failed.
pub record IsFailed (why : Refusal) (result : Result Reply Fault) : Type 0 where
  pub place : ℕ
  pub refused : why ≡ Why.Device place
  pub is : result ≡ Err (Ends.Device place)

abbrev pub NextRefuses : (c : ℕ) → List Client → Refusal → Result Reply Fault → Type 0
NextRefuses c desk why result = IsUnread c desk why result ⊎ (IsDamagedAt c desk why result ⊎ IsFailed why result)

unread_said : (c : ℕ) (key : Option Key) (why : Refusal) → RefusesIdle c why → next_ended_by key why ≡ Ok (Said.Refused why)
unread_said c None (Why.BadClient d) is = refl
unread_said c None (Why.Idle d) is = refl
unread_said c (Some key) (Why.BadClient d) is = refl
unread_said c (Some key) (Why.Idle d) is = refl
unread_said c key why is = absurd is

pub next_refuses : (s : State) → s.down ≡ None → (desk : List Client) (c : ℕ) (why : Refusal) (r : Result Reply Fault) → Comes (desk_next_steps s desk c) why → r ≡ next_ended_by (client_key desk (client_place c)) why → NextRefuses c desk why r
next_refuses s up desk c why r (inl here) is =
    let idle = reading_test desk c why here in
    inl (record { test = here; idle = idle; is = is ∙ unread_said c (client_key desk (client_place c)) why idle })
next_refuses s up desk c why r (inr later) is = inr (read (starts_up s up (Data ∷ []) why later.1))
  where
    key : (k : Key) × (client_key desk (client_place c) ≡ Some k)
    key = reading_key desk c later.0

    ends : r ≡ next_ended_by (Some key.0) why
    ends = is ∙ ap (λ (k : Option Key). next_ended_by k why) key.1

    by : (w : Refusal) → w ≡ why → IsData w → IsDamagedAt c desk why r ⊎ IsFailed why r
    by (Why.Damaged t) same of = inl (record {
      key = key.0;
      sector = t;
      refused = sym same;
      reads = key.1;
      client = test_client as_reading desk c later.0;
      is = ends ∙ ap (λ (w : Refusal). next_ended_by (Some key.0) w) (sym same);
    })
    by (Why.Device t) same of = inr (record { place = t; refused = sym same; is = ends ∙ ap (λ (w : Refusal). next_ended_by (Some key.0) w) (sym same) })
    by w same of = absurd of

    read : Comes (Data ∷ []) why → IsDamagedAt c desk why r ⊎ IsFailed why r
    read (inl here) = by why refl here
    read (inr more) = absurd more.1

-- with the key that the desk tells behind it
pub next_refused : (s : State) → s.down ≡ None → (desk after : List Client) (c : ℕ) (why : Refusal) (key : Option Key) (r : Result Reply Fault) → Comes (desk_next_steps s desk c) why → after ≡ desk → key ≡ client_key after (client_place c) → r ≡ next_ended_by key why → NextRefuses c desk why r
next_refused s up desk after c why key r comes same told is =
    next_refuses s up desk c why r comes (is ∙ ap (λ (o : Option Key). next_ended_by o why) (told ∙ ap (λ (d : List Client). client_key d (client_place c)) same))

-- ---- what it says

idle_device : (c : ℕ) (why : Refusal) → RefusesIdle c why → device_of why ≡ None
idle_device c (Why.BadClient d) is = refl
idle_device c (Why.Idle d) is = refl
idle_device c why is = absurd is

module _ (c : ℕ) (desk : List Client) (why : Refusal) (r : Result Reply Fault) where
  pub next_device : NextRefuses c desk why r → device_by r ≡ device_of why
  next_device (inl unread) = ap (λ (x : Result Reply Fault). device_by x) unread.is ∙ sym (idle_device c why unread.idle)
  next_device (inr (inl damaged)) = ap (λ (x : Result Reply Fault). device_by x) damaged.is ∙ sym (ap (λ (w : Refusal). device_of w) damaged.refused)
  next_device (inr (inr failed)) = ap (λ (x : Result Reply Fault). device_by x) failed.is ∙ sym (ap (λ (w : Refusal). device_of w) failed.refused)

  pub next_replies : (len : ℕ) (i : Image) → ((t : ℕ) → why ≡ Why.Damaged t → HasDamaged i t) → NextRefuses c desk why r → IfOk r (λ a. CallMayReply c (Calls.Next len) i a)
  next_replies len i gone (inl unread) = subst (λ (x : Result Reply Fault). IfOk x (λ a. CallMayReply c (Calls.Next len) i a)) (sym unread.is) unread.idle
  next_replies len i gone (inr (inl damaged)) = subst (λ (x : Result Reply Fault). IfOk x (λ a. CallMayReply c (Calls.Next len) i a)) (sym damaged.is) (gone damaged.sector damaged.refused)
  next_replies len i gone (inr (inr failed)) = subst (λ (x : Result Reply Fault). IfOk x (λ a. CallMayReply c (Calls.Next len) i a)) (sym failed.is) tt

  pub next_unworn : NextRefuses c desk why r → r ≡ Err Ends.WornOut → ⊥
  next_unworn (inl unread) at = let same : Ok (Said.Refused why) ≡ Err Ends.WornOut = sym unread.is ∙ at in cc same
  next_unworn (inr (inl damaged)) at = let same : Ok (Said.DamagedAt damaged.key damaged.sector) ≡ Err Ends.WornOut = sym damaged.is ∙ at in cc same
  next_unworn (inr (inr failed)) at = let same : Err (Ends.Device failed.place) ≡ Err Ends.WornOut = sym failed.is ∙ at in cc same

  pub next_told : (AreCopies : Layout → ℕ → ℕ → Type 0) (l : Layout) (i : Image) → NextRefuses c desk why r → IfErr r (IsToldOn AreCopies l i)
  next_told AreCopies l i (inl unread) = subst (λ (x : Result Reply Fault). IfErr x (IsToldOn AreCopies l i)) (sym unread.is) tt
  next_told AreCopies l i (inr (inl damaged)) = subst (λ (x : Result Reply Fault). IfErr x (IsToldOn AreCopies l i)) (sym damaged.is) tt
  next_told AreCopies l i (inr (inr failed)) = subst (λ (x : Result Reply Fault). IfErr x (IsToldOn AreCopies l i)) (sym failed.is) tt

-- a client is given no more than it asks for
pub room_within : (left : Option ℕ) (len n : ℕ) → n ≡ room_for left len → n ≤ len
room_within (Some left) len n is = omega (arith, is)
room_within None len n is = omega (arith, is)
