-- The table of slots.
use Rattle.std.proofs.Common.{◌≡◌, ◌⊎◌, inl, inr, ◌*◌, subst, ℕ, suc, ◌+◌, ◌<◌, ◌≤◌, Bool, true, false, cond, List, [], ◌∷◌, ◌++◌, length, drop, get_or, set, Option, Some, None, refl, sym, ap, ◌∙◌, arith, drop-cons, get_or-set_same, get_or-set_other}
use Rattle.std.specs.Prelude.{◌==◌, replicate, IfSome}
use Rattle.std.specs.Option.{option_or}
use Rattle.std.proofs.lemmas.Bool.{eqb-true, eqb-false, cases_eq, cases_lt}
use Rattle.std.proofs.lemmas.List.{length-set, drop_all, length-replicate, get_or-replicate, set_past, get_or_past}
use Rattle.volume_layout.specs.Shape.{Shape}
use Rattle.volume_layout.specs.Kinds.{gap_of}
use Rattle.fsd_log.specs.Scan.{Placed, place_of}
use Rattle.fsd_log.specs.declared.slot.Slot.{Slot}
use Rattle.fsd_log.specs.Slots.{slot_in, slot_in_record, last_slot, noted_slots, slots_with, AreLastSlots, LieInRecords, SlotsInside}
use Rattle.fsd_log.proofs.PlaceLaws.{InThird, place_from, place_inside}
use Rattle.fsd_log.specs.Places.{LieInRecord}

module _ (number : ℕ) (slots : List (Option Slot)) where
  pub length-noted : (place copy : ℕ) (pages : List ℕ) → length (noted_slots number place copy pages slots) ≡ length slots
  length-noted place copy [] = refl
  length-noted place copy (p ∷ pages) = length-set (noted_slots number (place + 1) (copy + 1) pages slots) p _ ∙ length-noted (place + 1) (copy + 1) pages

  pub noted_none : (place copy : ℕ) (pages : List ℕ) (left : ℕ) → length pages ≤ left → slots ≡ noted_slots number place copy (drop left pages) slots
  noted_none place copy pages left le = ap (λ (l : List ℕ). noted_slots number place copy l slots) (sym (drop_all left pages le))

  -- one page more, from the last one on
  pub noted_step : (place copy : ℕ) (pages : List ℕ) (j : ℕ) (left : ℕ) → left ≡ j + 1 → j < length pages
      → set (noted_slots number (place + left) (copy + left) (drop left pages) slots) (get_or pages j 0) (Some (record { place = place + j; copy = copy + j; number = number })) ≡ noted_slots number (place + j) (copy + j) (drop j pages) slots
  noted_step place copy pages j left is lt =
      let p : place + left ≡ place + j + 1 = omega (arith, is) in
      let c : copy + left ≡ copy + j + 1 = omega (arith, is) in
      let n : left ≡ suc j = omega (arith, is) in
      let d : drop left pages ≡ drop (suc j) pages = ap (λ (m : ℕ). drop m pages) n in
      (λ i. set (noted_slots number (p i) (c i) (d i) slots) (get_or pages j 0) (Some (record { place = place + j; copy = copy + j; number = number })))
      ∙ ap (λ (l : List ℕ). noted_slots number (place + j) (copy + j) l slots) (sym (drop-cons pages j 0 lt))

  pub get-noted : (place copy page : ℕ) (pages : List ℕ) → page < length slots
      → get_or (noted_slots number place copy pages slots) page None ≡ option_or (slot_in page number place copy pages) (get_or slots page None)
  get-noted place copy page [] lt = refl
  get-noted place copy page (p ∷ pages) lt = by_page (get-noted (place + 1) (copy + 1) page pages lt) (p == page) refl
    where
      by_page : get_or (noted_slots number (place + 1) (copy + 1) pages slots) page None ≡ option_or (slot_in page number (place + 1) (copy + 1) pages) (get_or slots page None)
          → (b : Bool) → (p == page) ≡ b → get_or (set (noted_slots number (place + 1) (copy + 1) pages slots) p (Some (record { place = place; copy = copy; number = number }))) page None
          ≡ option_or (cond b (Some (record { place = place; copy = copy; number = number })) (slot_in page number (place + 1) (copy + 1) pages)) (get_or slots page None)
      by_page rest true is =
          let same : p ≡ page = eqb-true p page is in
          ap (λ (q : ℕ). get_or (set (noted_slots number (place + 1) (copy + 1) pages slots) q (Some (record { place = place; copy = copy; number = number }))) page None) same
          ∙ get_or-set_same (noted_slots number (place + 1) (copy + 1) pages slots) page _ None (omega (arith, length-noted (place + 1) (copy + 1) pages))
      by_page rest false is =
          get_or-set_other (noted_slots number (place + 1) (copy + 1) pages slots) p page _ None (λ e. eqb-false p page is (sym e))
          ∙ rest

pub slot_or-none : (o : Option Slot) → o ≡ option_or o None
slot_or-none None = refl
slot_or-none (Some x) = refl

pub slot_or-assoc : (a b c : Option Slot) → option_or (option_or a b) c ≡ option_or a (option_or b c)
slot_or-assoc None b c = refl
slot_or-assoc (Some x) b c = refl

pub slot_of-append : (l : Shape) (third page : ℕ) (records : List Placed) (r : Placed) → last_slot l third page (records ++ r ∷ []) ≡ option_or (slot_in_record l third page r) (last_slot l third page records)
slot_of-append l third page [] r = slot_or-none (slot_in_record l third page r)
slot_of-append l third page (q ∷ records) r =
    ap (λ (o : Option Slot). option_or o (slot_in_record l third page q)) (slot_of-append l third page records r)
    ∙ slot_or-assoc (slot_in_record l third page r) (last_slot l third page records) (slot_in_record l third page q)

-- a record more
pub slots_more : (l : Shape) (third : ℕ) (records : List Placed) (r : Placed) (slots : List (Option Slot)) → AreLastSlots l third records slots
    → AreLastSlots l third (records ++ r ∷ []) (slots_with l third r.entry.number r.at r.entry.pages slots)
slots_more l third records r slots are page lt =
    let within : page < length slots = omega (arith, lt, length-noted r.entry.number slots (place_of l third r.at + 3 + (gap_of l)) (place_of l third r.at + 3 + (gap_of l) + length r.entry.pages + 1 + (gap_of l)) r.entry.pages) in
    get-noted r.entry.number slots (place_of l third r.at + 3 + (gap_of l)) (place_of l third r.at + 3 + (gap_of l) + length r.entry.pages + 1 + (gap_of l)) page r.entry.pages within
    ∙ ap (λ (o : Option Slot). option_or (slot_in_record l third page r) o) (are page within)
    ∙ sym (slot_of-append l third page records r)

pub no_records : (l : Shape) (third n : ℕ) → AreLastSlots l third [] (replicate n None)
no_records l third n page lt = get_or-replicate n page None None (omega (arith, lt, length-replicate {A = Option Slot} n None))

-- ---- on the disk

module _ (P : Slot → Type 0) where
  -- each slot of the table is such a one
  abbrev pub Each : List (Option Slot) → Type 0
  Each slots = (page : ℕ) → IfSome (get_or slots page None) P

  noted_each : (number place copy : ℕ) (pages : List ℕ) (slots : List (Option Slot)) → ((j : ℕ) → j < length pages → P (record { place = place + j; copy = copy + j; number = number })) → Each slots → Each (noted_slots number place copy pages slots)
  noted_each number place copy [] slots here before page = before page
  noted_each number place copy (p ∷ pages) slots here before page = by_place (noted_each number (place + 1) (copy + 1) pages slots later before page) (cases_eq page p) (cases_lt p (length (noted_slots number (place + 1) (copy + 1) pages slots)))
    where
      later : (j : ℕ) → j < length pages → P (record { place = place + 1 + j; copy = copy + 1 + j; number = number })
      later j lt =
          let x : place + (j + 1) ≡ place + 1 + j = omega arith in
          let y : copy + (j + 1) ≡ copy + 1 + j = omega arith in
          let same : ◌≡◌ {A = Slot} (record { place = place + (j + 1); copy = copy + (j + 1); number = number }) (record { place = place + 1 + j; copy = copy + 1 + j; number = number }) = λ i. record { place = x i; copy = y i; number = number } in
          subst P same (here (j + 1) (omega (arith, lt)))

      first : P (record { place = place; copy = copy; number = number })
      first =
          let x : place + 0 ≡ place = omega arith in
          let y : copy + 0 ≡ copy = omega arith in
          let same : ◌≡◌ {A = Slot} (record { place = place + 0; copy = copy + 0; number = number }) (record { place = place; copy = copy; number = number }) = λ i. record { place = x i; copy = y i; number = number } in
          subst P same (here 0 (omega arith))

      by_place : IfSome (get_or (noted_slots number (place + 1) (copy + 1) pages slots) page None) P → (page ≡ p) ⊎ (page ≡ p → ⊥)
          → (p < length (noted_slots number (place + 1) (copy + 1) pages slots)) ⊎ (length (noted_slots number (place + 1) (copy + 1) pages slots) ≤ p)
          → IfSome (get_or (set (noted_slots number (place + 1) (copy + 1) pages slots) p (Some (record { place = place; copy = copy; number = number }))) page None) P
      by_place rest (inl same) (inl lt) =
          subst (λ (o : Option Slot). IfSome o P)
          (sym (ap (λ (q : ℕ). get_or (set (noted_slots number (place + 1) (copy + 1) pages slots) p (Some (record { place = place; copy = copy; number = number }))) q None) same
          ∙ get_or-set_same (noted_slots number (place + 1) (copy + 1) pages slots) p (Some (record { place = place; copy = copy; number = number })) None lt))
          first
      by_place rest (inl same) (inr past) =
          subst (λ (l : List (Option Slot)). IfSome (get_or l page None) P) (sym (set_past (noted_slots number (place + 1) (copy + 1) pages slots) p (Some (record { place = place; copy = copy; number = number })) past)) rest
      by_place rest (inr other) at =
          subst (λ (o : Option Slot). IfSome o P) (sym (get_or-set_other (noted_slots number (place + 1) (copy + 1) pages slots) p page (Some (record { place = place; copy = copy; number = number })) None other)) rest

  none_each : (n : ℕ) → Each (replicate n None)
  none_each n page = subst (λ (o : Option Slot). IfSome o P) (sym (by_place (cases_lt page n))) tt
    where
      by_place : (page < n) ⊎ (n ≤ page) → get_or (replicate {A = Option Slot} n None) page None ≡ None
      by_place (inl lt) = get_or-replicate n page None None lt
      by_place (inr past) = get_or_past (replicate {A = Option Slot} n None) page None (omega (arith, past, length-replicate {A = Option Slot} n None))

pub noted_inside : (sectors number place copy : ℕ) (pages : List ℕ) (slots : List (Option Slot)) → place + length pages ≤ sectors → copy + length pages ≤ sectors → SlotsInside sectors slots
    → SlotsInside sectors (noted_slots number place copy pages slots)
noted_inside sectors number place copy pages slots first second inside =
    noted_each (λ slot. (slot.place < sectors) × (slot.copy < sectors)) number place copy pages slots (λ j lt. (omega (arith, first, lt), omega (arith, second, lt))) inside

pub none_inside : (sectors n : ℕ) → SlotsInside sectors (replicate n None)
none_inside sectors n = none_each (λ slot. (slot.place < sectors) × (slot.copy < sectors)) n

pub none_lie : (l : Shape) (n : ℕ) → LieInRecords l (replicate n None)
none_lie l n = none_each (λ slot. LieInRecord l slot.place slot.copy) n

-- a record that ends in its third lies on the disk
pub record_inside : (l : Shape) (third number at end place : ℕ) (pages : List ℕ) (slots : List (Option Slot)) → InThird l third at (2 * length pages + (5 + 2 * (gap_of l))) end → 16 + 3 * l.third ≤ l.sectors → place ≡ place_of l third at
    → SlotsInside l.sectors slots → SlotsInside l.sectors (noted_slots number (place + 3 + (gap_of l)) (place + 3 + (gap_of l) + length pages + 1 + (gap_of l)) pages slots)
record_inside l third number at end place pages slots within fits is inside =
    let last = place_inside l third at (2 * length pages + (5 + 2 * (gap_of l))) end within (omega arith) in
    noted_inside l.sectors number (place + 3 + (gap_of l)) (place + 3 + (gap_of l) + length pages + 1 + (gap_of l)) pages slots (omega (arith, last, fits, is)) (omega (arith, last, fits, is)) inside

-- its pages' sectors are those of a record in the log
pub record_lies : (l : Shape) (third number at end place : ℕ) (pages : List ℕ) (slots : List (Option Slot)) → InThird l third at (2 * length pages + (5 + 2 * (gap_of l))) end → place ≡ place_of l third at
    → LieInRecords l slots → LieInRecords l (noted_slots number (place + 3 + (gap_of l)) (place + 3 + (gap_of l) + length pages + 1 + (gap_of l)) pages slots)
record_lies l third number at end place pages slots within is before =
    let last = place_inside l third at (2 * length pages + (5 + 2 * (gap_of l))) end within (omega arith) in
    let from = place_from l third at in
    noted_each (λ slot. LieInRecord l slot.place slot.copy) number (place + 3 + (gap_of l)) (place + 3 + (gap_of l) + length pages + 1 + (gap_of l)) pages slots
    (λ j lt. record { start = place; count = length pages; index = j; there = lt; first = refl; copy = refl; from = omega (arith, from, is); to = omega (arith, last, is) }) before
