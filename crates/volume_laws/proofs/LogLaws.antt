-- The log that a volume tells behind a force.
use Rattle.std.proofs.Common.{◌≡◌, ◌⊎◌, inl, inr, ℕ, suc, ◌+◌, ◌*◌, ◌<◌, ◌≤◌, Bool, true, false, cond, not, ◌&&◌, nat_le, nat_lt, List, length, map, get_or, Option, Some, None, refl, sym, ap, subst, ◌∙◌, arith}
use Rattle.std.specs.Prelude.{nat_eq}
use Rattle.std.specs.List.{IsDistinct}
use Rattle.volume_layout.specs.Layout.{third_start}
use Rattle.run_table.specs.Space.{contains}
use Rattle.fsd_formats.specs.Record.{record_len}
use Rattle.fsd_formats.specs.declared.anchor.Anchor.{Anchor}
use Rattle.fsd_log.specs.Scan.{Head, place_of, spot_for}
use Rattle.log_thirds.specs.Append.{log_with}
use Rattle.log_thirds.specs.LogValue.{LogValue}
use Rattle.fsd_log.specs.Moves.{head_back, next_third}
use Rattle.log_thirds.specs.Moving.{moved}
use Rattle.fsd_log.specs.Slots.{slot_outside}
use Rattle.fsd_log.specs.declared.slot.Slot.{Slot}
use Rattle.fsd_log.proofs.SlotLaws.{length-noted}
use Rattle.group_commit.specs.Cached.{ascending_of}
use Rattle.group_commit.specs.Force.{log_forced}
use Rattle.group_commit.specs.Room.{goes_before, log_before}
use Rattle.group_commit.proofs.CachedLaws.{forced_some}
use Rattle.group_commit.proofs.OrderLaws.{length_ascending, rank}
use Rattle.group_commit.proofs.SlotLaws.{slot_then}
use Rattle.volume_contract.specs.Order.{with_drawn}
use Rattle.volume_contract.specs.State.{HasLogged, IsForced, KeepsLog, LogsRecord, State, enters_again, moved_third, record_slot, with_room}
use Rattle.volume_laws.proofs.ForceCountLaws.{again_is}
use Rattle.volume_layout.specs.Kinds.{gap_of}

-- what is told of a log is of this one
pub record Tells (s : State) (log : LogValue) : Type 0 where
  pub layout : log.layout ≡ s.layout
  pub anchor : log.anchor ≡ s.anchor
  pub head : log.head ≡ s.head
  pub slots : log.slots ≡ s.slots

-- ---- room for a record

module _ (s : State) (log : LogValue) (t : Tells s log) where
  enters_is : enters_again s ≡ not (goes_before log (length s.dirty))
  enters_is =
      (λ i. nat_lt (sym t.head i).end ((sym t.head i).at + record_len (gap_of (sym t.layout i)) (length s.dirty)) && nat_le (3 * (sym t.layout i).third) (sym t.head i).end)
      ∙ again_is (log.head.at + record_len (gap_of log.layout) (length s.dirty)) log.head.end (3 * log.layout.third)

  told_moved : Tells (moved_third s (moved log).anchor.first) (moved log)
  told_moved = record {
    layout = t.layout;
    anchor = λ i. record { epoch = (t.anchor i).epoch; third = next_third (t.anchor i).third; first = log.firsts.second };
    head = λ i. head_back (t.layout i).third (t.head i);
    slots = λ i. map (slot_outside (third_start (t.layout i) (t.anchor i).third) (t.layout i).third) (t.slots i);
  }

  by_room : (before again : Bool) → again ≡ not before → (first : ℕ) → first ≡ (cond before log (moved log)).anchor.first → Tells (cond again (moved_third s first) s) (cond before log (moved log))
  by_room before again is first first_is =
      subst (λ (b : Bool). Tells (cond b (moved_third s first) s) (cond before log (moved log))) (sym is) (by before first_is)
    where
      by : (b : Bool) → first ≡ (cond b log (moved log)).anchor.first → Tells (cond (not b) (moved_third s first) s) (cond b log (moved log))
      by true same = t
      by false same = subst (λ (n : ℕ). Tells (moved_third s n) (moved log)) (sym same) told_moved

  -- the log that the record goes behind
  pub told_room : (n first : ℕ) → n ≡ length s.dirty → first ≡ (log_before log n).anchor.first → Tells (with_room s first) (log_before log n)
  told_room n first many first_is =
      by_room (goes_before log n) (enters_again s) (enters_is ∙ ap (λ (k : ℕ). not (goes_before log k)) (sym many)) first first_is

-- the pages that wait are the same
pub room_dirty : (s : State) (first : ℕ) → (with_room s first).dirty ≡ s.dirty
room_dirty s first = by (enters_again s)
  where
    by : (b : Bool) → (cond b (moved_third s first) s).dirty ≡ s.dirty
    by true = refl
    by false = refl

-- ---- a record more

module _ (s new : State) (log : LogValue) (t : Tells s log) (once : IsDistinct nat_eq s.dirty) (then : Tells new (log_with log (ascending_of s.dirty))) where
  many : length (ascending_of s.dirty) ≡ length s.dirty
  many = length_ascending s.dirty once

  number : log.head.number + 1 ≡ suc s.head.number
  number = let same = ap (λ (h : Head). h.number) t.head in omega (arith, same)

  slot_is : (page : ℕ) → page < length s.slots → get_or new.slots page None ≡ cond (contains s.dirty page) (Some (record_slot s page)) (get_or s.slots page None)
  slot_is page lt =
      ap (λ (slots : List (Option Slot)). get_or slots page None) (sym then.slots)
      ∙ slot_then log s.dirty once page (subst (λ (slots : List (Option Slot)). page < length slots) (sym t.slots) lt)
      ∙ (λ i.
      let place : ℕ = place_of (t.layout i) (t.anchor i).third (spot_for (t.layout i) (length s.dirty) (t.head i)).at + 3 + gap_of (t.layout i) + rank page s.dirty in
      cond (contains s.dirty page) (Some (record { place = place; copy = place + length s.dirty + 1 + gap_of (t.layout i); number = (t.head i).number })) (get_or (t.slots i) page None))

  pub logs_record : LogsRecord s new
  logs_record = record {
    anchor = sym then.anchor ∙ t.anchor;
    head = sym then.head ∙ (λ i. record {
      number = number i;
      at = (spot_for (t.layout i) (many i) (t.head i)).at + record_len (gap_of (t.layout i)) (many i);
      end = (spot_for (t.layout i) (many i) (t.head i)).end;
    });
    table = ap (λ (slots : List (Option Slot)). length slots) (sym then.slots) ∙ length-noted _ log.slots _ _ (ascending_of s.dirty) ∙ ap (λ (slots : List (Option Slot)). length slots) t.slots;
    slots = slot_is;
  }

-- ---- behind a force

-- it has logged a record of the pages that waited
pub forced_logs : (s new : State) (log then : LogValue) → Tells s log → Tells new then → IsDistinct nat_eq s.dirty → 1 ≤ length s.dirty → then ≡ log_forced log (ascending_of s.dirty) → LogsRecord (with_room s new.anchor.first) new
forced_logs s new log then t told once some is =
    let many = length_ascending s.dirty once in
    let before : LogValue = log_before log (length (ascending_of s.dirty)) in
    let with_record : then ≡ log_with before (ascending_of s.dirty) = is ∙ forced_some log (ascending_of s.dirty) (omega (arith, some, many)) in
    let first : new.anchor.first ≡ before.anchor.first = ap (λ (a : Anchor). a.first) (sym told.anchor) ∙ ap (λ (l : LogValue). l.anchor.first) with_record in
    let room : Tells (with_room s new.anchor.first) before = told_room s log t (length (ascending_of s.dirty)) new.anchor.first many first in
    let same = room_dirty s new.anchor.first in
    logs_record (with_room s new.anchor.first) new before room (subst (IsDistinct nat_eq) (sym same) once)
    (subst (λ (dirty : List ℕ). Tells new (log_with before (ascending_of dirty))) (sym same) (subst (Tells new) with_record told))

-- where it has failed, its log is as it was, or has room
module _ (s new : State) (place : ℕ) (log left : LogValue) (t : Tells s log) (told : Tells new left) (rest : new ≡ record s { anchor = new.anchor; head = new.head; slots = new.slots; down = Some place }) where
  same_log : left ≡ log → new ≡ record s { down = Some place }
  same_log is = rest ∙ (λ i. record s {
    anchor = (sym told.anchor ∙ ap (λ (l : LogValue). l.anchor) is ∙ t.anchor) i;
    head = (sym told.head ∙ ap (λ (l : LogValue). l.head) is ∙ t.head) i;
    slots = (sym told.slots ∙ ap (λ (l : LogValue). l.slots) is ∙ t.slots) i;
    down = Some place;
  })

  at_room : (room : State) → Tells room left → room ≡ record s { anchor = room.anchor; head = room.head; slots = room.slots } → new ≡ record room { down = Some place }
  at_room room has is = rest ∙ (λ i. record s {
    anchor = (sym told.anchor ∙ has.anchor) i;
    head = (sym told.head ∙ has.head) i;
    slots = (sym told.slots ∙ has.slots) i;
    down = Some place;
  }) ∙ ap (λ (r : State). record r { down = Some place }) (sym is)

  room_only : (first : ℕ) → with_room s first ≡ record s { anchor = (with_room s first).anchor; head = (with_room s first).head; slots = (with_room s first).slots }
  room_only first = by (enters_again s)
    where
      by : (b : Bool) → cond b (moved_third s first) s ≡ record s { anchor = (cond b (moved_third s first) s).anchor; head = (cond b (moved_third s first) s).head; slots = (cond b (moved_third s first) s).slots }
      by true = refl
      by false = refl

  pub failed_log : (P : Type 0) → (left ≡ log) ⊎ ((left ≡ log_before log (length s.dirty)) × P) → (new ≡ record s { down = Some place }) ⊎ (new ≡ record (with_room s new.anchor.first) { down = Some place })
  failed_log P (inl is) = inl (same_log is)
  failed_log P (inr (is, more)) =
      let first : new.anchor.first ≡ (log_before log (length s.dirty)).anchor.first = ap (λ (a : Anchor). a.first) (sym told.anchor) ∙ ap (λ (l : LogValue). l.anchor.first) is in
      let room : Tells (with_room s new.anchor.first) left = subst (Tells (with_room s new.anchor.first)) (sym is) (told_room s log t (length s.dirty) new.anchor.first refl first) in
      inr (at_room (with_room s new.anchor.first) room (room_only new.anchor.first))

-- ---- a log that goes on

module _ (t u : State) (keeps : KeepsLog t u) where
  record_still : (r : State) → LogsRecord r t → LogsRecord r u
  record_still r l = record {
    anchor = keeps.anchor ∙ l.anchor;
    head = keeps.head ∙ l.head;
    table = ap (λ (slots : List (Option Slot)). length slots) keeps.slots ∙ l.table;
    slots = λ page lt. ap (λ (slots : List (Option Slot)). get_or slots page None) keeps.slots ∙ l.slots page lt;
  }

  -- what comes behind leaves the log
  pub logged_still : (forces : Bool) (s : State) → HasLogged forces s t → HasLogged forces s u
  logged_still forces s l = record {
    more = λ comes some. subst (λ (first : ℕ). LogsRecord (with_room s first) u) (ap (λ (a : Anchor). a.first) (sym keeps.anchor)) (record_still (with_room s t.anchor.first) (l.more comes some));
    same = λ none. let first = l.same none in record { anchor = keeps.anchor ∙ first.anchor; head = keeps.head ∙ first.head; slots = keeps.slots ∙ first.slots };
  }

pub keeps_same : (s t : State) → t ≡ s → KeepsLog s t
keeps_same s t is = record { anchor = ap (λ (x : State). x.anchor) is; head = ap (λ (x : State). x.head) is; slots = ap (λ (x : State). x.slots) is }

-- a serial is drawn
pub keeps_drawn : (s t : State) → t ≡ with_drawn s → KeepsLog s t
keeps_drawn s t is = record { anchor = ap (λ (x : State). x.anchor) is; head = ap (λ (x : State). x.head) is; slots = ap (λ (x : State). x.slots) is }

drawn_record : (s t : State) (first : ℕ) → LogsRecord (with_room (with_drawn s) first) t → LogsRecord (with_room s first) t
drawn_record s t first = by (enters_again s)
  where
    by : (b : Bool) → LogsRecord (cond b (moved_third (with_drawn s) first) (with_drawn s)) t → LogsRecord (cond b (moved_third s first) s) t
    by true l = record { anchor = l.anchor; head = l.head; table = l.table; slots = l.slots }
    by false l = record { anchor = l.anchor; head = l.head; table = l.table; slots = l.slots }

pub logged_drawn : (forces : Bool) (s t : State) → HasLogged forces (with_drawn s) t → HasLogged forces s t
logged_drawn forces s t l = record {
  more = λ comes some. drawn_record s t t.anchor.first (l.more comes some);
  same = λ none. let was = l.same none in record { anchor = was.anchor; head = was.head; slots = was.slots };
}

pub logged_forced : (s t : State) → IsForced s t → HasLogged true s t
logged_forced s t is = record { more = λ comes some. is.logs some; same = λ none. keeps_same s t (is.idle (none refl)) }

pub logged_none : (s t : State) → KeepsLog s t → HasLogged false s t
logged_none s t keeps = record { more = λ comes some. absurd (cc comes); same = λ none. keeps }
