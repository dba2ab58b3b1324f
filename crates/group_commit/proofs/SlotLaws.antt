-- The slots that a log has behind a record of some pages, by how many of these are less.
use Rattle.std.proofs.Common.{◌≡◌, inl, inr, ℕ, ◌+◌, ◌<◌, ◌≤◌, Bool, true, false, cond, ◌||◌, List, [], ◌∷◌, length, get_or, Option, Some, None, refl, ap, ◌∙◌, arith, eqb-true}
use Rattle.std.specs.Prelude.{nat_eq, nat_lt, ◌==◌}
use Rattle.std.specs.List.{IsDistinct}
use Rattle.std.specs.Option.{option_or}
use Rattle.std.proofs.lemmas.Bool.{and_parts, cases_lt, le-ltb, lt-ltb, ltb-true}
use Rattle.volume_layout.specs.Kinds.{gap_of}
use Rattle.run_table.specs.Space.{contains}
use Rattle.fsd_formats.specs.Record.{ascending}
use Rattle.fsd_log.specs.Scan.{place_of, spot_for}
use Rattle.log_thirds.specs.Append.{log_with}
use Rattle.log_thirds.specs.LogValue.{LogValue}
use Rattle.fsd_log.specs.Slots.{slot_in}
use Rattle.fsd_log.specs.declared.slot.Slot.{Slot}
use Rattle.fsd_log.proofs.SlotLaws.{get-noted}
use Rattle.group_commit.specs.Cached.{ascending_of}
use Rattle.group_commit.proofs.ImageLaws.{ascending_tail, not_later}
use Rattle.group_commit.proofs.OrderLaws.{ascending_ascends, length_ascending, one_ascending, rank, rank_ascending, rank_more}

-- the slot of a page in a record of this number
abbrev pub slot : (number place copy : ℕ) → Slot
slot number place copy = record { place = place; copy = copy; number = number }

-- ---- ascending pages

none_less : (page x : ℕ) (xs : List ℕ) → ascending (x ∷ xs) ≡ true → page ≤ x → rank page (x ∷ xs) ≡ 0
none_less page x [] asc le = rank_more page x [] ∙ ap (λ (b : Bool). cond b 1 0 + 0) (le-ltb x page le)
none_less page x (y ∷ xs) asc le =
    let lt : x < y = ltb-true x y (and_parts (nat_lt x y) (ascending (y ∷ xs)) asc).0 in
    let more : rank page (y ∷ xs) ≡ 0 = none_less page y xs (ascending_tail x (y ∷ xs) asc) (omega (arith, le, lt)) in
    rank_more page x (y ∷ xs) ∙ (λ i. cond (le-ltb x page le i) 1 0 + more i)

first_less : (page x : ℕ) (xs : List ℕ) → ascending (x ∷ xs) ≡ true → contains xs page ≡ true → x < page
first_less page x xs asc there = elim (cases_lt x page) [
  | inl lt ↦ lt
  | inr le ↦ absurd (let none = not_later x xs asc page le in cc (there, none))
]

-- the slot of one of them
slot_in_rank : (number place copy page : ℕ) (xs : List ℕ) → ascending xs ≡ true → slot_in page number place copy xs ≡ cond (contains xs page) (Some (slot number (place + rank page xs) (copy + rank page xs))) None
slot_in_rank number place copy page [] asc = refl
slot_in_rank number place copy page (x ∷ xs) asc = by_first (slot_in_rank number (place + 1) (copy + 1) page xs (ascending_tail x xs asc)) (x == page) refl
  where
    by_later : (c : Bool) → contains xs page ≡ c → ◌≡◌ {A = Option Slot} (cond c (Some (slot number (place + 1 + rank page xs) (copy + 1 + rank page xs))) None) (cond c (Some (slot number (place + rank page (x ∷ xs)) (copy + rank page (x ∷ xs)))) None)
    by_later false out = refl
    by_later true there =
        let one : rank page (x ∷ xs) ≡ 1 + rank page xs = rank_more page x xs ∙ ap (λ (b : Bool). cond b 1 0 + rank page xs) (lt-ltb x page (first_less page x xs asc there)) in
        let first : place + 1 + rank page xs ≡ place + rank page (x ∷ xs) = omega (arith, one) in
        let second : copy + 1 + rank page xs ≡ copy + rank page (x ∷ xs) = omega (arith, one) in
        λ i. Some (slot number (first i) (second i))

    by_first : slot_in page number (place + 1) (copy + 1) xs ≡ cond (contains xs page) (Some (slot number (place + 1 + rank page xs) (copy + 1 + rank page xs))) None → (b : Bool) → (x == page) ≡ b
        → ◌≡◌ {A = Option Slot} (cond b (Some (slot number place copy)) (slot_in page number (place + 1) (copy + 1) xs)) (cond (b || contains xs page) (Some (slot number (place + rank page (x ∷ xs)) (copy + rank page (x ∷ xs)))) None)
    by_first more true is =
        let same : x ≡ page = eqb-true x page is in
        let none : rank page (x ∷ xs) ≡ 0 = none_less page x xs asc (omega (arith, same)) in
        let first : place ≡ place + rank page (x ∷ xs) = omega (arith, none) in
        let second : copy ≡ copy + rank page (x ∷ xs) = omega (arith, none) in
        λ i. Some (slot number (first i) (second i))
    by_first more false is = more ∙ by_later (contains xs page) refl

-- ---- a record of them

module _ (log : LogValue) (dirty : List ℕ) (once : IsDistinct nat_eq dirty) (page : ℕ) (within : page < length log.slots) where
  abbrev place : (n : ℕ) → ℕ
  place n = place_of log.layout log.anchor.third (spot_for log.layout n log.head).at

  abbrev slot_by : (n : ℕ) (one : Bool) (less : ℕ) → Option Slot
  slot_by n one less = option_or (cond one (Some (slot log.head.number (place n + 3 + (gap_of log.layout) + less) (place n + 3 + (gap_of log.layout) + n + 1 + (gap_of log.layout) + less))) None) (get_or log.slots page None)

  as_told : (n : ℕ) (one : Bool) (less : ℕ) → slot_by n one less ≡ cond one (Some (slot log.head.number (place n + 3 + (gap_of log.layout) + less) (place n + 3 + (gap_of log.layout) + less + n + 1 + (gap_of log.layout)))) (get_or log.slots page None)
  as_told n true less = let same : place n + 3 + (gap_of log.layout) + n + 1 + (gap_of log.layout) + less ≡ place n + 3 + (gap_of log.layout) + less + n + 1 + (gap_of log.layout) = omega arith in λ i. Some (slot log.head.number (place n + 3 + (gap_of log.layout) + less) (same i))
  as_told n false less = refl

  -- each of them has its slot in the record, and any other page the one that it had
  pub slot_then : get_or (log_with log (ascending_of dirty)).slots page None ≡ cond (contains dirty page) (Some (slot log.head.number (place (length dirty) + 3 + (gap_of log.layout) + rank page dirty) (place (length dirty) + 3 + (gap_of log.layout) + rank page dirty + length dirty + 1 + (gap_of log.layout)))) (get_or log.slots page None)
  slot_then =
      let xs = ascending_of dirty in
      get-noted log.head.number log.slots (place (length xs) + 3 + (gap_of log.layout)) (place (length xs) + 3 + (gap_of log.layout) + length xs + 1 + (gap_of log.layout)) page xs within
      ∙ ap (λ (o : Option Slot). option_or o (get_or log.slots page None)) (slot_in_rank log.head.number (place (length xs) + 3 + (gap_of log.layout)) (place (length xs) + 3 + (gap_of log.layout) + length xs + 1 + (gap_of log.layout)) page xs (ascending_ascends dirty))
      ∙ (λ i. slot_by (length_ascending dirty once i) (one_ascending dirty page i) (rank_ascending page dirty once i))
      ∙ as_told (length dirty) (contains dirty page) (rank page dirty)
