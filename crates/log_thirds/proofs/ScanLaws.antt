-- The scan, record by record.
use Rattle.std.proofs.Common.{◌≡◌, ℕ, ◌+◌, ◌*◌, List, [], ◌∷◌, ◌++◌, Option, Some, None, refl, sym, ap, subst, arith, inl}
use Rattle.std.specs.Prelude.{option_map, replicate}
use Rattle.volume_layout.specs.Shape.{Shape}
use Rattle.volume_layout.specs.Kinds.{gap_of}
use Rattle.fsd_formats.specs.Record.{Stamp}
use Rattle.fsd_log.specs.Judged.{Reader, Logged, Serving, judged, logged_of, record_in}
use Rattle.fsd_log.specs.declared.slot.Slot.{Slot}
use Rattle.fsd_log.specs.Scan.{Head, Placed, Walked, next, scan, start, room_at, window}
use Rattle.log_thirds.specs.Reading.{Stepped, stepped_of}
use Rattle.log_thirds.specs.declared.firsts.Firsts.{Firsts}
use Rattle.log_thirds.specs.Firsts.{firsts_of, firsts_with, AreFirsts}
use Rattle.log_thirds.proofs.FirstsLaws.{firsts_more}
use Rattle.fsd_log.specs.Slots.{slots_with, AreLastSlots}
use Rattle.fsd_log.proofs.HereLaws.{here_some}
use Rattle.fsd_log.proofs.WalkLaws.{IsFound, next_found, Goes, goes_more, walk_of_goes}
use Rattle.log_thirds.specs.Copies.{Copies, AreCopiesOf, AreLastCopies}
use Rattle.fsd_log.proofs.SlotLaws.{slots_more, no_records}
use Rattle.log_thirds.proofs.CopyLaws.{last_more}

-- some records lead from the start to a head, and the table has their slots
pub record Reaches (l : Shape) (epoch first third : ℕ) (disk : Reader) (h : Head) (f : Firsts) (slots : List (Option Slot)) (c : Copies) : Type 0 where
  pub records : List Placed
  pub goes : Goes l epoch disk (start l first) records h
  pub are : AreLastSlots l third records slots
  pub firsts : AreFirsts l.third first records f
  pub last : AreLastCopies l epoch third records c

pub reaches_start : (l : Shape) (epoch first third : ℕ) (disk : Reader) (n place : ℕ) → Reaches l epoch first third disk (start l first) (firsts_of first) (replicate n None) (record { place = place; bytes = [] })
reaches_start l epoch first third disk n place = record { records = []; goes = refl; are = no_records l third n; firsts = record { second = omega arith; last = omega arith }; last = refl }

-- by equal tables
pub reaches_as : (l : Shape) (epoch first third : ℕ) (disk : Reader) (h : Head) (f f1 : Firsts) (s s1 : List (Option Slot)) (c : Copies) → f1 ≡ f → s1 ≡ s → Reaches l epoch first third disk h f s c → Reaches l epoch first third disk h f1 s1 c
reaches_as l epoch first third disk h f f1 s s1 c one two so_far =
    subst (λ (x : List (Option Slot)). Reaches l epoch first third disk h f1 x c) (sym two) (subst (λ (x : Firsts). Reaches l epoch first third disk h x s c) (sym one) so_far)

-- a record bears the number that is looked for
pub record_number : (gap : ℕ) → (p : ℕ) (stamp : Stamp) (room : ℕ) (at : Reader) (r : Logged) → record_in gap p stamp room at ≡ Some r → r.number ≡ stamp.number
unfolding record_in
record_number gap p stamp room at r is = by_judged (judged gap p stamp room at) is
  where
    by_judged : (o : Option Serving) → option_map (logged_of gap stamp.number at) o ≡ Some r → r.number ≡ stamp.number
    by_judged None e = absurd (cc)
    by_judged (Some s) e = let same : logged_of gap stamp.number at s ≡ r = cc in ap (λ (x : Logged). x.number) (sym same)

pub found_number : (l : Shape) (epoch : ℕ) (disk : Reader) (h : Head) (r : Placed) (h1 : Head) → IsFound l epoch disk h r h1 → r.entry.number ≡ h.number
found_number l epoch disk h r h1 is =
    record_number (gap_of l) l.pages (record { epoch = epoch; number = h.number }) (room_at r.at is.end) (window disk r.at (room_at r.at is.end)) r.entry (here_some l epoch disk h.number r.at is.end r.entry is.found).1

pub reaches_on : (l : Shape) (epoch first third : ℕ) (disk : Reader) (h : Head) (f : Firsts) (slots : List (Option Slot)) (step : Stepped) (c c1 : Copies) → Reaches l epoch first third disk h f slots c → AreCopiesOf l epoch third (record { at = step.from; entry = step.entry }) c1 → Some step ≡ option_map stepped_of (next l epoch disk h)
    → Reaches l epoch first third disk (record { number = h.number + 1; at = step.at; end = step.end }) (firsts_with l.third step.from f) (slots_with l third h.number step.from step.entry.pages slots) c1
reaches_on l epoch first third disk h f slots step c c1 so_far of is = by_next (next l epoch disk h) refl is
  where
    by_next : (o : Option (Placed × Head)) → next l epoch disk h ≡ o → Some step ≡ option_map stepped_of o
        → Reaches l epoch first third disk (record { number = h.number + 1; at = step.at; end = step.end }) (firsts_with l.third step.from f) (slots_with l third h.number step.from step.entry.pages slots) c1
    by_next None found e = absurd (cc)
    by_next (Some x) found e =
        let one = next_found l epoch disk h x found in
        let same : step ≡ stepped_of x = cc in
        let number : x.1.number ≡ h.number + 1 = ap (λ (y : Head). y.number) one.goes_on in
        let head : ◌≡◌ {A = Head} x.1 (record { number = h.number + 1; at = step.at; end = step.end }) = λ i. record { number = number i; at = (sym same i).at; end = (sym same i).end } in
        let table : slots_with l third x.0.entry.number x.0.at x.0.entry.pages slots ≡ slots_with l third h.number step.from step.entry.pages slots =
        λ i. slots_with l third (found_number l epoch disk h x.0 x.1 one i) (sym same i).from (sym same i).entry.pages slots in
        let made : Reaches l epoch first third disk x.1 (firsts_with l.third x.0.at f) (slots_with l third x.0.entry.number x.0.at x.0.entry.pages slots) c1 =
        record { records = so_far.records ++ x.0 ∷ []; goes = goes_more l epoch disk (start l first) so_far.records h x.0 x.1 so_far.goes one; are = slots_more l third so_far.records x.0 slots so_far.are; firsts = firsts_more l.third first so_far.records x.0 f so_far.firsts; last = last_more l epoch third so_far.records x.0 c1 (subst (λ (y : Stepped). AreCopiesOf l epoch third (record { at = y.from; entry = y.entry }) c1) same of) } in
        subst (λ (s : List (Option Slot)). Reaches l epoch first third disk (record { number = h.number + 1; at = step.at; end = step.end }) (firsts_with l.third step.from f) s c1) table
        (subst (λ (y : Head). Reaches l epoch first third disk y (firsts_with l.third step.from f) (slots_with l third x.0.entry.number x.0.at x.0.entry.pages slots) c1) head
        (subst (λ (y : Stepped). Reaches l epoch first third disk x.1 (firsts_with l.third y.from f) (slots_with l third x.0.entry.number x.0.at x.0.entry.pages slots) c1) (sym same) made))

-- the scan ends there, with these records
pub record EndsThere (l : Shape) (epoch first third : ℕ) (disk : Reader) (h : Head) (f : Firsts) (slots : List (Option Slot)) (c : Copies) : Type 0 where
  pub head : (scan l epoch disk first).head ≡ h
  pub are : AreLastSlots l third (scan l epoch disk first).records slots
  pub firsts : AreFirsts l.third first (scan l epoch disk first).records f
  pub last : AreLastCopies l epoch third (scan l epoch disk first).records c

pub reaches_end : (l : Shape) (epoch first third : ℕ) (disk : Reader) (h : Head) (f : Firsts) (slots : List (Option Slot)) (c : Copies) → Reaches l epoch first third disk h f slots c → None ≡ option_map stepped_of (next l epoch disk h)
    → EndsThere l epoch first third disk h f slots c
unfolding scan
reaches_end l epoch first third disk h f slots c so_far is = by_next (next l epoch disk h) refl is
  where
    by_next : (o : Option (Placed × Head)) → next l epoch disk h ≡ o → None ≡ option_map stepped_of o → EndsThere l epoch first third disk h f slots c
    by_next None found e =
        let walked = walk_of_goes (3 * l.third) l epoch disk (start l first) so_far.records h (record { before = omega arith; from = omega arith; ends = inl refl }) (omega arith) so_far.goes found in
        record { head = ap (λ (w : Walked). w.head) walked; are = subst (λ (rs : List Placed). AreLastSlots l third rs slots) (ap (λ (w : Walked). w.records) (sym walked)) so_far.are; firsts = subst (λ (rs : List Placed). AreFirsts l.third first rs f) (ap (λ (w : Walked). w.records) (sym walked)) so_far.firsts; last = subst (λ (rs : List Placed). AreLastCopies l epoch third rs c) (ap (λ (w : Walked). w.records) (sym walked)) so_far.last }
    by_next (Some x) found e = absurd (cc)
