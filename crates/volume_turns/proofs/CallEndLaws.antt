-- What a refusal of each call of a client says.
use Rattle.std.proofs.Common.{◌≡◌, inl, inr, ℕ, ◌-◌, List, [], length, take, Some, None, refl, sym, ◌∙◌, subst, arith}
use Rattle.std.specs.Prelude.{IsTrue, Result, Ok, Err}
use Rattle.std.proofs.lemmas.List.{take_all}
use Rattle.run_table.specs.declared.run.Run.{Run}
use Rattle.fsd_bytes.specs.declared.key.Key.{Key}
use Rattle.fsd_bytes.specs.declared.refusal.Refusal.{Refusal}
use Rattle.fsd_bytes.specs.declared.refusal.Refusal.TheVariants as Why
use Rattle.sector_disk.specs.Machine.{Moment}
use Rattle.fsd_log.specs.Scan.{Placed}
use Rattle.fsd_files.specs.Desk.{begin_outcome, close_outcome, is_client, next_outcome, open_outcome, piece_outcome}
use Rattle.fsd_files.specs.Answers.{FindsDamage}
use Rattle.fsd_files.specs.Kept.{range_sectors}
use Rattle.fsd_files.specs.declared.reply.Reply.{Reply}
use Rattle.fsd_files.specs.declared.reply.Reply.TheVariants as Said
use Rattle.fsd_texts.specs.declared.call.Call.{Call}
use Rattle.fsd_texts.specs.declared.call.Call.TheVariants as Calls
use Rattle.fsd_texts.specs.declared.fault.Fault.{Fault}
use Rattle.fsd_sound.specs.Mounted.{Mounted}
use Rattle.volume_contract.specs.Order.{Comes, IsDeviceRefusal}
use Rattle.volume_contract.specs.State.{State}
use Rattle.client_desk.specs.declared.client.Client.{Client}
use Rattle.client_desk.specs.Clients.{IsDesk, begin_steps, client_at, close_steps, left_at, client_place}
use Rattle.client_desk.specs.Ends.{AnswersAs, EndsBegin, EndsClose, EndsNext, EndsOpen, EndsPiece, RefusesCall, ServesOpen, TellsDamage, open_at}
use Rattle.volume_turns.specs.Calls.{CallMayReply, RefusesIdle, room_for}
use Rattle.volume_turns.specs.Seats.{Seated, SitsAt, known_of, session_in}
use Rattle.volume_turns.specs.Steps.{ended_by}
use Rattle.volume_turns.proofs.CallLaws.{AnswersSo, DoesSo, answers_does, met_none, refused_so, refuses_does}
use Rattle.volume_turns.proofs.CallOrderLaws.{Declines, call_said}
use Rattle.volume_turns.proofs.CallReadLaws.{NextRefuses, count_is, finds_is, finds_none, key_is, next_same, room_is}
use Rattle.volume_turns.proofs.CallWornLaws.{begin_unworn, begin_worn, close_unworn, close_worn}

module _ {S : Type 0} (state : S → State) (has : S → Mounted → List Placed → Type 0) (c : ℕ) (old new : S) (desk left : List Client) (k : Seated) (before now : Moment) (is_desk : IsDesk (state new) left) (why : Refusal) where
  abbrev Ends : Call → Type 0
  Ends call = DoesSo state has c call old new desk left k before now is_desk (ended_by why)

  -- ---- a piece

  piece_refused : (bytes : List ℕ) (w : Refusal) → CallMayReply c (Calls.Piece bytes) [] (Said.Refused w) → (let r : Result ℕ Refusal = Err w in EndsPiece state has c bytes (known_of k) k.clients new left now r)
      → AnswersAs state has (λ s. piece_outcome s c bytes) (Said.Refused w) [] (known_of k) k.clients new left now
  piece_refused bytes (Why.Device s) (inl may) ends = absurd may
  piece_refused bytes (Why.Device s) (inr may) ends = absurd may
  piece_refused bytes w may ends = ends

  pub piece_does : (bytes : List ℕ) → Declines c (Calls.Piece bytes) [] IsDeviceRefusal why → (let r : Result ℕ Refusal = Err why in EndsPiece state has c bytes (known_of k) k.clients new left now r) → Ends (Calls.Piece bytes)
  piece_does bytes (inl said) ends =
      subst (λ (r : Result Reply Fault). DoesSo state has c (Calls.Piece bytes) old new desk left k before now is_desk r) (sym (call_said c (Calls.Piece bytes) [] why said))
      (refused_so state has c (Calls.Piece bytes) old new desk left k before now is_desk (λ s. piece_outcome s c bytes) (record { met = met_none; held = [] }) refl tt why (λ may. cc may) (piece_refused bytes why said ends))
  piece_does bytes (inr broken) ends = by why broken
    where
      by : (w : Refusal) → IsDeviceRefusal w → DoesSo state has c (Calls.Piece bytes) old new desk left k before now is_desk (ended_by w)
      by (Why.Device s) is = tt
      by w is = absurd is

  -- ---- open

  pub open_does : (key : Key) → (let r : Result ℕ Refusal = Err why in EndsOpen state has c key (known_of k) k.clients new left now r) → (why ≡ Why.WornOut → ⊥) → Ends (Calls.Open key)
  open_does key ends unworn = by why ends unworn
    where
      refused : (w : Refusal) → (w ≡ Why.WornOut → ⊥) → (held : List (List Run)) × RefusesCall state has (λ s. open_outcome held s c key) (known_of k) k.clients new left now w → DoesSo state has c (Calls.Open key) old new desk left k before now is_desk (ended_by w)
      refused w not_worn e =
          refuses_does state has c (Calls.Open key) old new desk left k before now is_desk (λ s. open_outcome e.0 s c key) (record { met = met_none; held = e.0 }) refl tt w (λ other may. cc may) (λ is. absurd (not_worn is)) e.1

      by : (w : Refusal) → (let r : Result ℕ Refusal = Err w in EndsOpen state has c key (known_of k) k.clients new left now r) → (w ≡ Why.WornOut → ⊥) → DoesSo state has c (Calls.Open key) old new desk left k before now is_desk (ended_by w)
      by (Why.Device s) e not_worn = tt
      by Why.Memory e not_worn = tt
      by w e not_worn = refused w not_worn e

  -- ---- next

  module _ (serves : ServesOpen k.opened (client_at desk (c - 1)) (open_at k.clients (c - 1))) (len : ℕ) (before_buf buf : List ℕ) where
    abbrev asked : ℕ
    asked = room_for (left_at desk (client_place c)) len

    abbrev NextEnds : Result ℕ Refusal → Type 0
    NextEnds r = EndsNext state has c asked before.image now.image (known_of k) k.clients before_buf buf new left now r

    abbrev NextDoes : Result Reply Fault → Type 0
    NextDoes r = DoesSo state has c (Calls.Next len) old new desk left k before now is_desk r

    unread_refused : (w : Refusal) → RefusesIdle c w → NextEnds (Err w) → AnswersAs state has (λ s. next_outcome None s c asked) (Said.Refused w) [] (known_of k) k.clients new left now
    unread_refused (Why.BadClient d) idle ends = ends
    unread_refused (Why.Idle d) idle ends = ends
    unread_refused w idle ends = absurd idle

    pub next_does : (r : Result Reply Fault) → NextRefuses c desk why r → NextEnds (Err why) → NextDoes r
    next_does r (inl unread) ends =
        subst (λ (x : Result Reply Fault). NextDoes x) (sym unread.is)
        (refused_so state has c (Calls.Next len) old new desk left k before now is_desk (λ s. next_outcome None s c asked) (record { met = met_none; held = [] })
        (next_same k.opened desk k.clients c serves (session_in k) None len) (finds_none k.opened desk k.clients c serves before.image now.image len why unread.test) why (λ may. cc may) (unread_refused why unread.idle ends))
    next_does r (inr (inl damaged)) ends = subst (λ (x : Result Reply Fault). NextDoes x) (sym damaged.is) (by (subst (λ (w : Refusal). NextEnds (Err w)) damaged.refused ends))
      where
        by : TellsDamage state has c asked before.image now.image (known_of k) k.clients new left now damaged.sector → NextDoes (Ok (Said.DamagedAt damaged.key damaged.sector))
        by tells =
            let same : Some tells.key ≡ Some damaged.key = sym (key_is k.opened desk k.clients c serves damaged.client tells.key tells.runs tells.bytes tells.place tells.was) ∙ damaged.reads in
            let key : tells.key ≡ damaged.key = cc same in
            subst (λ (x : Key). NextDoes (Ok (Said.DamagedAt x damaged.sector))) key
            (answers_does state has c (Calls.Next len) old new desk left k before now is_desk (λ s. next_outcome (Some damaged.sector) s c asked) (record { met = record met_none { damaged = Some damaged.sector }; held = [] })
            (next_same k.opened desk k.clients c serves (session_in k) (Some damaged.sector) len)
            (finds_is k.opened desk k.clients c serves damaged.client tells.key tells.runs tells.bytes tells.place tells.was before.image now.image len (Some damaged.sector) tells.found)
            (Said.DamagedAt tells.key damaged.sector) [] refl (λ may. cc may) tells.answers)
    next_does r (inr (inr failed)) ends = subst (λ (x : Result Reply Fault). NextDoes x) (sym failed.is) tt

    -- the next bytes fill the buffer
    pub given_does : IsTrue (is_client c) → (n : ℕ) → length buf ≡ asked → NextEnds (Ok n) → AnswersSo state has c (Calls.Next len) old new desk left k before now is_desk (Said.Given c buf)
    given_does client n full gives =
        let room = room_is k.opened desk k.clients c serves client gives.key gives.runs gives.bytes gives.place gives.was len in
        let count = count_is k.opened desk k.clients c serves client gives.key gives.runs gives.bytes gives.place gives.was len in
        let whole : n ≡ length buf = gives.count ∙ sym count ∙ sym room ∙ sym full in
        let all : take n buf ≡ buf = take_all n buf (omega (arith, whole)) in
        subst (λ (x : List ℕ). AnswersSo state has c (Calls.Next len) old new desk left k before now is_desk (Said.Given c x)) all
        (answers_does state has c (Calls.Next len) old new desk left k before now is_desk (λ s. next_outcome None s c asked) (record { met = met_none; held = [] })
        (next_same k.opened desk k.clients c serves (session_in k) None len)
        (finds_is k.opened desk k.clients c serves client gives.key gives.runs gives.bytes gives.place gives.was before.image now.image len None (subst (λ (m : ℕ). FindsDamage before.image now.image (range_sectors gives.runs gives.place m) None) gives.count gives.found))
        (Said.Given c (take n buf)) [] refl (λ may. cc may) gives.answers)

  module _ (up : (state old).down ≡ None) (sits : SitsAt state has (old, desk) k before) where
    -- ---- begin

    pub begin_does : (name : List ℕ) (len : ℕ) → Comes (begin_steps (state old) desk c len) why → (let r : Result (Unit {0}) Refusal = Err why in EndsBegin state has c name len (known_of k) k.clients new left now r) → Ends (Calls.Begin name len)
    begin_does name len comes ends = by why refl ends
      where
        refused : (w : Refusal) → w ≡ why → RefusesCall state has (λ s. begin_outcome s c name len) (known_of k) k.clients new left now w → DoesSo state has c (Calls.Begin name len) old new desk left k before now is_desk (ended_by w)
        refused w is e =
            let at = subst (λ (x : Refusal). Comes (begin_steps (state old) desk c len) x) (sym is) comes in
            refuses_does state has c (Calls.Begin name len) old new desk left k before now is_desk (λ s. begin_outcome s c name len) (record { met = met_none; held = [] }) refl tt w
            (λ other. begin_unworn (state old) up desk k.clients c k.opened (sits.each (c - 1)) len w at other)
            (λ worn. begin_worn (state old) up desk k c (sits.each (c - 1)) name len (subst (λ (x : Refusal). Comes (begin_steps (state old) desk c len) x) worn at)) e

        by : (w : Refusal) → w ≡ why → (let r : Result (Unit {0}) Refusal = Err w in EndsBegin state has c name len (known_of k) k.clients new left now r) → DoesSo state has c (Calls.Begin name len) old new desk left k before now is_desk (ended_by w)
        by (Why.Device s) is e = tt
        by w is e = refused w is e

    -- ---- close

    pub close_does : Comes (close_steps (state old) desk c) why → (let r : Result Key Refusal = Err why in EndsClose state has c (known_of k) k.clients new left now r) → Ends Calls.Close
    close_does comes e =
        refuses_does state has c Calls.Close old new desk left k before now is_desk (λ s. close_outcome e.met s c) (record { met = e.met; held = [] }) refl tt why
        (λ other. close_unworn (state old) up desk k.clients c k.opened (sits.each (c - 1)) why comes other)
        (λ worn. close_worn (state old) up desk k c (sits.each (c - 1)) (subst (λ (x : Refusal). Comes (close_steps (state old) desk c) x) worn comes)) e.refuses
