-- Where a worn-out mount refuses a client's call.
use Rattle.std.proofs.Common.{◌≡◌, inl, inr, ℕ, ◌-◌, ◌≤◌, Bool, true, false, cond, List, [], ◌∷◌, length, Option, Some, None, refl, sym, ◌∙◌, arith}
use Rattle.std.specs.Prelude.{◌&&◌, IsFalse, IsTrue, Ok, Err, is_none, nat_le, nat_lt}
use Rattle.std.proofs.lemmas.Bool.{and_from, and_parts, le-leb, leb-true, ltb-true, ltb-false}
use Rattle.fsd_bytes.specs.declared.refusal.Refusal.{Refusal}
use Rattle.fsd_bytes.specs.declared.refusal.Refusal.TheVariants as Why
use Rattle.fsd_formats.specs.NamePage.{max_length}
use Rattle.fsd_files.specs.Desk.{Open, Nothing, Writes, Reads, is_client, opened_by}
use Rattle.fsd_files.specs.Disk.{Sectors}
use Rattle.fsd_texts.specs.declared.call.Call.TheVariants as Calls
use Rattle.fsd_texts.specs.declared.script_command.ScriptCommand.TheVariants.{OfClient}
use Rattle.fsd_runs.specs.Sessions.{may_begin, may_close}
use Rattle.volume_contract.specs.Order.{Comes, CallStep, Test, down, keep_size, length_size, worn}
use Rattle.volume_contract.specs.State.{OpenParts, State, is_worn}
use Rattle.client_desk.specs.declared.client.Client.{Client}
use Rattle.client_desk.specs.declared.client.Client.TheVariants.{Idle, Writing, Reading}
use Rattle.client_desk.specs.Clients.{as_idle, as_writing, begin_steps, client_at, close_steps, fault_in, found, in_first, tested, too_short}
use Rattle.client_desk.specs.Ends.{ServesOpen, open_at}
use Rattle.volume_turns.specs.Seats.{IsRefusedWornIn, Seated}
use Rattle.volume_turns.proofs.OrderLaws.{is_no_fault, no_fault_is, past_test, past_worn, starts_up}
use Rattle.volume_turns.proofs.CallOrderLaws.{begin_declines, close_declines, enter_rest, idle_test, reserve_rest, short_says, size_fits, size_none, size_says, worn_of, writing_test}

-- ---- what would change something

-- so it is where the tests before the one of wear pass
module _ (o : OpenParts) (desk : List Client) (clients : List Open) (c : ℕ) (serves : ServesOpen o (client_at desk (c - 1)) (open_at clients (c - 1))) where
  begin_may : (len : ℕ) → may_begin (opened_by clients c) len ≡ (is_none (fault_in (found as_idle desk c)) && nat_le len max_length)
  begin_may len = by (is_client c)
    where
      such : (x : Client) (y : Open) → ServesOpen o x y → may_begin (Ok y) len ≡ (is_none (fault_in (as_idle c (c - 1) x)) && nat_le len max_length)
      such Idle Nothing s = refl
      such Idle (Writes n l r t b) s = absurd s
      such Idle (Reads n r b p) s = absurd s
      such (Writing w) Nothing s = absurd s
      such (Writing w) (Writes n l r t b) s = refl
      such (Writing w) (Reads n r b p) s = absurd s
      such (Reading w) Nothing s = absurd s
      such (Reading w) (Writes n l r t b) s = absurd s
      such (Reading w) (Reads n r b p) s = refl

      by : (b : Bool) → may_begin (cond b (Ok (open_at clients (c - 1))) (Err (Why.BadClient c))) len ≡ (is_none (fault_in (tested as_idle desk c (cond b (Ok (c - 1)) (Err (Why.BadClient c))))) && nat_le len max_length)
      by true = such (client_at desk (c - 1)) (open_at clients (c - 1)) serves
      by false = refl

  not_short : (got len n m : ℕ) (why : Refusal) → len ≡ n → got ≡ m → nat_le n m ≡ is_none (cond (nat_lt got len) (Some why) None)
  not_short got len n m why long has = by (nat_le n m) (nat_lt got len) refl refl
    where
      by : (a b : Bool) → nat_le n m ≡ a → nat_lt got len ≡ b → a ≡ is_none (cond b (Some why) None)
      by true true x y = let p = leb-true n m x in let q = ltb-true got len y in absurd (omega (arith, p, q, long, has))
      by true false x y = refl
      by false true x y = refl
      by false false x y = let q = ltb-false got len y in let le : n ≤ m = omega (arith, q, long, has) in let p : true ≡ false = sym (le-leb n m le) ∙ x in absurd (cc p)

  close_may : may_close (opened_by clients c) ≡ (is_none (fault_in (found as_writing desk c)) && is_none (too_short (client_at desk (c - 1))))
  close_may = by (is_client c)
    where
      such : (x : Client) (y : Open) → ServesOpen o x y → may_close (Ok y) ≡ (is_none (fault_in (as_writing c (c - 1) x)) && is_none (too_short x))
      such Idle Nothing s = refl
      such Idle (Writes n l r t b) s = absurd s
      such Idle (Reads n r b p) s = absurd s
      such (Writing w) Nothing s = absurd s
      such (Writing w) (Writes n l r t b) s = not_short w.got w.draft.length l (length b) (Why.Short w.draft.length w.got) s.long s.got
      such (Writing w) (Reads n r b p) s = absurd s
      such (Reading w) Nothing s = absurd s
      such (Reading w) (Writes n l r t b) s = absurd s
      such (Reading w) (Reads n r b p) s = refl

      by : (b : Bool) → may_close (cond b (Ok (open_at clients (c - 1))) (Err (Why.BadClient c))) ≡ (is_none (fault_in (tested as_writing desk c (cond b (Ok (c - 1)) (Err (Why.BadClient c))))) && is_none (too_short (client_at desk (c - 1))))
      by true = such (client_at desk (c - 1)) (open_at clients (c - 1)) serves
      by false = refl

-- ---- by the order

abbrev size_test : ℕ → Option Refusal
size_test len = cond (nat_lt max_length len) (Some (Why.TooLong len)) None

module _ (s : State) (up : s.down ≡ None) (desk : List Client) (clients : List Open) (c : ℕ) (o : OpenParts) (serves : ServesOpen o (client_at desk (c - 1)) (open_at clients (c - 1))) where
  -- ---- begin

  abbrev idle_fault : Option Refusal
  idle_fault = fault_in (found as_idle desk c)

  abbrev reserves : ℕ → List CallStep
  reserves len = length_size s len ∷ worn s ∷ reserve_rest s len

  -- where it isn't refused as worn out, and would change something, the mount isn't
  pub begin_unworn : (len : ℕ) (why : Refusal) → Comes (begin_steps s desk c len) why → (why ≡ Why.WornOut → ⊥) → IsTrue (may_begin (opened_by clients c) len) → IsFalse (is_worn s)
  begin_unworn len why comes other may =
      let both = and_parts (is_none idle_fault) (nat_le len max_length) (sym (begin_may o desk clients c serves len) ∙ may) in
      let sized = starts_up s up (reserves len) why (past_test idle_fault (down s ∷ reserves len) why (is_no_fault idle_fault both.0) comes) in
      past_worn (is_worn s) (reserve_rest s len) why other (past_test (size_test len) (worn s ∷ reserve_rest s len) why (size_none len (leb-true len max_length both.1)) sized)

  -- where it is, the tests before have passed
  begin_passes : (len : ℕ) → Comes (begin_steps s desk c len) Why.WornOut → IsTrue (may_begin (opened_by clients c) len)
  begin_passes len (inl here) = absurd (idle_test desk c Why.WornOut here)
  begin_passes len (inr later) = by (starts_up s up (reserves len) Why.WornOut later.1)
    where
      by : Comes (reserves len) Why.WornOut → IsTrue (may_begin (opened_by clients c) len)
      by (inl here) = absurd (size_says len Why.WornOut (nat_lt max_length len) refl here)
      by (inr more) =
          begin_may o desk clients c serves len
          ∙ and_from (is_none idle_fault) (nat_le len max_length) (no_fault_is idle_fault later.0) (le-leb len max_length (size_fits len (nat_lt max_length len) refl more.0))

  -- ---- close

  abbrev writing_fault : Option Refusal
  writing_fault = fault_in (found as_writing desk c)

  abbrev short : Option Refusal
  short = too_short (client_at desk (c - 1))

  abbrev leader : Sectors
  leader t = in_first (client_at desk (c - 1)) t

  abbrev enters : List CallStep
  enters = keep_size s 0 ∷ worn s ∷ enter_rest s leader

  pub close_unworn : (why : Refusal) → Comes (close_steps s desk c) why → (why ≡ Why.WornOut → ⊥) → IsTrue (may_close (opened_by clients c)) → IsFalse (is_worn s)
  close_unworn why comes other may =
      let both = and_parts (is_none writing_fault) (is_none short) (sym (close_may o desk clients c serves) ∙ may) in
      let whole = past_test writing_fault (Test short ∷ down s ∷ enters) why (is_no_fault writing_fault both.0) comes in
      let kept = starts_up s up enters why (past_test short (down s ∷ enters) why (is_no_fault short both.1) whole) in
      past_worn (is_worn s) (enter_rest s leader) why other (past_test None (worn s ∷ enter_rest s leader) why refl kept)

  close_passes : Comes (close_steps s desk c) Why.WornOut → IsTrue (may_close (opened_by clients c))
  close_passes (inl here) = absurd (writing_test desk c Why.WornOut here)
  close_passes (inr later) = by later.1
    where
      by : Comes (Test short ∷ down s ∷ enters) Why.WornOut → IsTrue (may_close (opened_by clients c))
      by (inl here) = absurd (short_says (client_at desk (c - 1)) Why.WornOut here)
      by (inr more) = close_may o desk clients c serves ∙ and_from (is_none writing_fault) (is_none short) (no_fault_is writing_fault later.0) (no_fault_is short more.0)

-- ---- the mount is worn out

module _ (s : State) (up : s.down ≡ None) (desk : List Client) (k : Seated) (c : ℕ) (serves : ServesOpen k.opened (client_at desk (c - 1)) (open_at k.clients (c - 1))) where
  pub begin_worn : (name : List ℕ) (len : ℕ) → Comes (begin_steps s desk c len) Why.WornOut → IsRefusedWornIn (OfClient c (Calls.Begin name len)) k s
  begin_worn name len comes = record {
    may = begin_passes s up desk k.clients c k.opened serves len comes;
    worn = worn_of c (Calls.Begin name len) [] s (begin_declines s up desk c [] Why.WornOut name len comes);
  }

  pub close_worn : Comes (close_steps s desk c) Why.WornOut → IsRefusedWornIn (OfClient c Calls.Close) k s
  close_worn comes = record {
    may = close_passes s up desk k.clients c k.opened serves comes;
    worn = worn_of c Calls.Close [] s (close_declines s up desk c [] Why.WornOut comes);
  }
