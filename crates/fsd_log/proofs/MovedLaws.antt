-- A log whose first third goes: the records behind it, and the slots of pages.
use Rattle.std.proofs.Common.{◌≡◌, ◌⊎◌, inl, inr, ⊎_elim, ℕ, ◌+◌, ◌-◌, ◌*◌, ◌<◌, ◌≤◌, Bool, true, false, cond, ◌&&◌, List, [], ◌∷◌, ◌++◌, length, map, get_or, Option, Some, None, nat_le, nat_lt, refl, sym, ap, subst, ◌∙◌, arith}
use Rattle.std.specs.Prelude.{IfSome, ◌==◌, if◌then◌else◌}
use Rattle.std.specs.List.{AllByRecursion}
use Rattle.std.specs.Option.{option_or}
use Rattle.std.proofs.lemmas.List.{get_or-map, get_or_past, length-map}
use Rattle.std.proofs.lemmas.Bool.{cases_lt, cond-true, cond-false, lt-ltb, le-ltb, le-leb, lt-leb, and_from, and_right}
use Rattle.volume_layout.specs.Shape.{Shape}
use Rattle.volume_layout.specs.Layout.{third_start}
use Rattle.volume_layout.specs.Kinds.{gap_of}
use Rattle.fsd_formats.specs.Record.{record_len}
use Rattle.fsd_log.proofs.SlotLaws.{slot_or-assoc, slot_or-none}
use Rattle.fsd_log.specs.Judged.{Reader}
use Rattle.fsd_log.specs.Scan.{IsEnd, IsIn, Head, Placed, start, place_of}
use Rattle.fsd_log.proofs.PlaceLaws.{InThird, place_cases, first_most}
use Rattle.fsd_log.proofs.WalkLaws.{Goes, found_goes_on}
use Rattle.fsd_log.specs.declared.slot.Slot.{Slot}
use Rattle.fsd_log.specs.Slots.{slot_in, slot_in_record, last_slot, lies_in, AreLastSlots, slot_outside}
use Rattle.fsd_log.specs.Moves.{moved_back, head_back, IsNextThird, next_third, later}
use Rattle.fsd_log.proofs.ShiftLaws.{place_moved}

-- ---- the records behind the first third

later_behind : (l : Shape) (rest : List Placed) → AllByRecursion (λ r. l.third ≤ r.at) rest → later l rest ≡ rest
later_behind l [] all = refl
later_behind l (r ∷ rest) all = cond-true (nat_le l.third r.at) (r ∷ later l rest) (later l rest) (le-leb l.third r.at all.0) ∙ ap (λ (x : List Placed). r ∷ x) (later_behind l rest all.1)

pub later_is : (l : Shape) (front rest : List Placed) → AllByRecursion (λ r. r.at < l.third) front → AllByRecursion (λ r. l.third ≤ r.at) rest → later l (front ++ rest) ≡ rest
later_is l [] rest before behind = later_behind l rest behind
later_is l (r ∷ front) rest before behind =
    cond-false (nat_le l.third r.at) (r ∷ later l (front ++ rest)) (later l (front ++ rest)) (lt-leb l.third r.at before.0) ∙ later_is l front rest before.1 behind

-- ---- where the pages' last images lie

-- the record lies in one third of the tape
pub record LiesOn (l : Shape) (third : ℕ) (r : Placed) : Type 0 where
  pub end : ℕ
  pub inside : InThird l third r.at (record_len (gap_of l) (length r.entry.pages)) end

module _ (l : Shape) (epoch third : ℕ) (le : third ≤ 2) (disk : Reader) where
  pub goes_lie : (h : Head) (rs : List Placed) (end : Head) → IsIn l h → Goes l epoch disk h rs end → AllByRecursion (LiesOn l third) rs
  goes_lie h [] end is_in goes = tt
  goes_lie h (r ∷ rs) end is_in goes =
      let is = goes.1 in
      let one = found_goes_on l epoch disk h r goes.0 is_in goes.1 in
      let ends : goes.0.end ≡ goes.1.end = ap (λ (x : Head). x.end) goes.1.goes_on in (
        record {
          end = goes.1.end;
          inside = record {
            one_of = le;
            ends = subst (IsEnd l) ends one.is_in.ends;
            from = ⊎_elim (λ here. omega (arith, here.at_head, here.in_third, is_in.from)) (λ there. omega (arith, there.at_start, there.in_third)) goes.1.place;
            to = omega (arith, one.to, one.is_in.before, ends);
          };
        },
        goes_lie goes.0 rs end one.is_in goes.2,
      )

if_or : (P : Slot → Type 0) (a b : Option Slot) → IfSome a P → IfSome b P → IfSome (option_or a b) P
if_or P None b one two = two
if_or P (Some x) b one two = one

-- a slot of these pages lies among the images
in_pages : (page number place copy : ℕ) (pages : List ℕ) → IfSome (slot_in page number place copy pages) (λ s. (place ≤ s.place) × (s.place < place + length pages))
in_pages page number place copy [] = tt
in_pages page number place copy (p ∷ pages) = by_page (p == page) (slot_in page number (place + 1) (copy + 1) pages) (in_pages page number (place + 1) (copy + 1) pages)
  where
    by_page : (b : Bool) (o : Option Slot) → IfSome o (λ s. (place + 1 ≤ s.place) × (s.place < place + 1 + length pages))
        → IfSome (cond b (Some (record { place = place; copy = copy; number = number })) o) (λ s. (place ≤ s.place) × (s.place < place + length (p ∷ pages)))
    by_page true o rest = (omega arith, omega arith)
    by_page false None rest = tt
    by_page false (Some s) rest = let low = rest.0 in let high = rest.1 in (omega (arith, low), omega (arith, high))

module _ (l : Shape) (third page : ℕ) (P : Slot → Type 0) where
  each_slot : (rs : List Placed) → AllByRecursion (λ r. IfSome (slot_in_record l third page r) P) rs → IfSome (last_slot l third page rs) P
  each_slot [] all = tt
  each_slot (r ∷ rs) all = if_or P (last_slot l third page rs) (slot_in_record l third page r) (each_slot rs all.1) all.0

all_and : {A : Type 0} (P Q R : A → Type 0) → ((x : A) → P x → Q x → R x) → (xs : List A) → AllByRecursion P xs → AllByRecursion Q xs → AllByRecursion R xs
all_and P Q R both [] p q = tt
all_and P Q R both (x ∷ xs) p q = (both x p.0 q.0, all_and P Q R both xs p.1 q.1)

pub slot_of-joined : (l : Shape) (third page : ℕ) (front rest : List Placed) → last_slot l third page (front ++ rest) ≡ option_or (last_slot l third page rest) (last_slot l third page front)
slot_of-joined l third page [] rest = slot_or-none (last_slot l third page rest)
slot_of-joined l third page (r ∷ front) rest =
    ap (λ (o : Option Slot). option_or o (slot_in_record l third page r)) (slot_of-joined l third page front rest)
    ∙ slot_or-assoc (last_slot l third page rest) (last_slot l third page front) (slot_in_record l third page r)

lies_yes : (start count : ℕ) (s : Slot) → start ≤ s.place → s.place < start + count → lies_in start count (Some s) ≡ true
lies_yes start count s low high = and_from (nat_le start s.place) (nat_lt s.place (start + count)) (le-leb start s.place low) (lt-ltb s.place (start + count) high)

lies_no : (start count : ℕ) (s : Slot) → (s.place < start) ⊎ (start + count ≤ s.place) → lies_in start count (Some s) ≡ false
lies_no start count s (inl low) = ap (λ (b : Bool). b && nat_lt s.place (start + count)) (lt-leb start s.place low)
lies_no start count s (inr high) = and_right (nat_le start s.place) (nat_lt s.place (start + count)) (le-ltb s.place (start + count) high)

-- a record behind the first third lies on the disk where it did
pub place_back : (l : Shape) (third next : ℕ) → IsNextThird third next → (r : Placed) → LiesOn l third r → l.third ≤ r.at → place_of l next (r.at - l.third) ≡ place_of l third r.at
place_back l third next is_next r lies ge =
    let most : lies.end ≤ 3 * l.third = ⊎_elim (λ e. omega (arith, e)) (λ o. ⊎_elim (λ e. omega (arith, e)) (λ e. omega (arith, e)) o) lies.inside.ends in
    place_moved l third next (r.at - l.third) is_next (omega (arith, most, lies.inside.to, ge)) ∙ ap (place_of l third) (omega arith)

module _ (l : Shape) (third next : ℕ) (low : third ≤ 2) (is_next : IsNextThird third next) (page : ℕ) where
  abbrev IsInFirst : Slot → Type 0
  IsInFirst s = lies_in (third_start l third) l.third (Some s) ≡ true

  abbrev IsOutside : Slot → Type 0
  IsOutside s = lies_in (third_start l third) l.third (Some s) ≡ false

  front_in : (r : Placed) → LiesOn l third r → r.at < l.third → IfSome (slot_in_record l third page r) IsInFirst
  front_in r lies lt = by_slot (slot_in_record l third page r) (in_pages page r.entry.number (place_of l third r.at + 3 + (gap_of l)) (place_of l third r.at + 3 + (gap_of l) + length r.entry.pages + 1 + (gap_of l)) r.entry.pages)
    where
      ends : lies.end ≡ l.third
      ends = ⊎_elim (λ e. e) (λ o. ⊎_elim (λ e. absurd (omega (arith, e, lies.inside.from, lt))) (λ e. absurd (omega (arith, e, lies.inside.from, lt))) o) lies.inside.ends

      place : place_of l third r.at ≡ 16 + (third * l.third + r.at)
      place = let most = first_most l third low in elim (place_cases l third r.at) [ inl p ↦ p.0 | inr p ↦ absurd (let far = p.1 in omega (arith, far, most, lt)) ]

      by_slot : (o : Option Slot) → IfSome o (λ s. (place_of l third r.at + 3 + (gap_of l) ≤ s.place) × (s.place < place_of l third r.at + 3 + (gap_of l) + length r.entry.pages)) → IfSome o IsInFirst
      by_slot None is = tt
      by_slot (Some s) is = let from = is.0 in let to = is.1 in lies_yes (third_start l third) l.third s (omega (arith, from, place)) (omega (arith, to, place, ends, lies.inside.to))

  rest_out : (r : Placed) → LiesOn l third r → l.third ≤ r.at → IfSome (slot_in_record l third page r) IsOutside
  rest_out r lies ge = by_slot (slot_in_record l third page r) (in_pages page r.entry.number (place_of l third r.at + 3 + (gap_of l)) (place_of l third r.at + 3 + (gap_of l) + length r.entry.pages + 1 + (gap_of l)) r.entry.pages)
    where
      most : lies.end ≤ 3 * l.third
      most = ⊎_elim (λ e. omega (arith, e)) (λ o. ⊎_elim (λ e. omega (arith, e)) (λ e. omega (arith, e)) o) lies.inside.ends

      by_slot : (o : Option Slot) → IfSome o (λ s. (place_of l third r.at + 3 + (gap_of l) ≤ s.place) × (s.place < place_of l third r.at + 3 + (gap_of l) + length r.entry.pages)) → IfSome o IsOutside
      by_slot None is = tt
      by_slot (Some s) is =
          let from = is.0 in
          let to = is.1 in
          lies_no (third_start l third) l.third s (elim (place_cases l third r.at) [
            | inl p ↦ let at = p.0 in inr (omega (arith, at, from, ge))
            | inr p ↦ let at = p.0 in let far = p.1 in inl (omega (arith, at, far, to, most, lies.inside.to))
          ])

  slot_moved : (r : Placed) → LiesOn l third r → l.third ≤ r.at → slot_in_record l next page (moved_back l.third r) ≡ slot_in_record l third page r
  slot_moved r lies ge =
      let place = place_back l third next is_next r lies ge in
      λ i. slot_in page r.entry.number (place i + 3 + (gap_of l)) (place i + 3 + (gap_of l) + length r.entry.pages + 1 + (gap_of l)) r.entry.pages

  slots_back : (rs : List Placed) → AllByRecursion (LiesOn l third) rs → AllByRecursion (λ r. l.third ≤ r.at) rs → last_slot l next page (map (moved_back l.third) rs) ≡ last_slot l third page rs
  slots_back [] lie behind = refl
  slots_back (r ∷ rs) lie behind = λ i. option_or (slots_back rs lie.1 behind.1 i) (slot_moved r lie.0 behind.0 i)

  by_slots : (a b : Option Slot) → IfSome a IsOutside → IfSome b IsInFirst → slot_outside (third_start l third) l.third (option_or a b) ≡ a
  by_slots (Some s) b out within = cond-false (lies_in (third_start l third) l.third (Some s)) None (Some s) out
  by_slots None None out within = refl
  by_slots None (Some s) out within = cond-true (lies_in (third_start l third) l.third (Some s)) None (Some s) within

  pub front_slots : (front : List Placed) → AllByRecursion (LiesOn l third) front → AllByRecursion (λ r. r.at < l.third) front → IfSome (last_slot l third page front) (λ s. lies_in (third_start l third) l.third (Some s) ≡ true)
  front_slots front lie before =
      each_slot l third page IsInFirst front (all_and (LiesOn l third) (λ r. r.at < l.third) (λ r. IfSome (slot_in_record l third page r) IsInFirst) front_in front lie before)

  pub slot_of_moved : (front rest : List Placed) → AllByRecursion (LiesOn l third) front → AllByRecursion (LiesOn l third) rest → AllByRecursion (λ r. r.at < l.third) front → AllByRecursion (λ r. l.third ≤ r.at) rest
      → slot_outside (third_start l third) l.third (last_slot l third page (front ++ rest)) ≡ last_slot l next page (map (moved_back l.third) rest)
  slot_of_moved front rest lie_front lie_rest before behind =
      ap (slot_outside (third_start l third) l.third) (slot_of-joined l third page front rest)
      ∙ by_slots (last_slot l third page rest) (last_slot l third page front)
      (each_slot l third page IsOutside rest (all_and (LiesOn l third) (λ r. l.third ≤ r.at) (λ r. IfSome (slot_in_record l third page r) IsOutside) rest_out rest lie_rest behind))
      (each_slot l third page IsInFirst front (all_and (LiesOn l third) (λ r. r.at < l.third) (λ r. IfSome (slot_in_record l third page r) IsInFirst) front_in front lie_front before))
      ∙ sym (slots_back rest lie_rest behind)

pub all_left : {A : Type 0} (P : A → Type 0) (xs ys : List A) → AllByRecursion P (xs ++ ys) → AllByRecursion P xs
all_left P [] ys all = tt
all_left P (x ∷ xs) ys all = (all.0, all_left P xs ys all.1)

pub all_right : {A : Type 0} (P : A → Type 0) (xs ys : List A) → AllByRecursion P (xs ++ ys) → AllByRecursion P ys
all_right P [] ys all = all
all_right P (x ∷ xs) ys all = all_right P xs ys all.1

pub slots_moved : (l : Shape) (third next : ℕ) → third ≤ 2 → IsNextThird third next → (front rest : List Placed) → AllByRecursion (LiesOn l third) (front ++ rest) → AllByRecursion (λ r. r.at < l.third) front → AllByRecursion (λ r. l.third ≤ r.at) rest
    → (slots : List (Option Slot)) → AreLastSlots l third (front ++ rest) slots → AreLastSlots l next (map (moved_back l.third) rest) (map (slot_outside (third_start l third) l.third) slots)
slots_moved l third next low is_next front rest lie before behind slots are page lt =
    let within : page < length slots = omega (arith, lt, length-map slots (slot_outside (third_start l third) l.third)) in
    get_or-map (slot_outside (third_start l third) l.third) slots page None None within
    ∙ ap (slot_outside (third_start l third) l.third) (are page within)
    ∙ slot_of_moved l third next low is_next page front rest (all_left (LiesOn l third) front rest lie) (all_right (LiesOn l third) front rest lie) before behind

-- what each slot is, each that is left is too
pub slots_outside_each : (P : Slot → Type 0) (start count : ℕ) (slots : List (Option Slot)) → ((page : ℕ) → IfSome (get_or slots page None) P) → (page : ℕ) → IfSome (get_or (map (slot_outside start count) slots) page None) P
slots_outside_each P start count slots each page = elim (cases_lt page (length slots)) [
  | inl lt ↦ subst (λ (o : Option Slot). IfSome o P) (sym (get_or-map (slot_outside start count) slots page None None lt)) (kept (get_or slots page None) (each page))
  | inr past ↦ subst (λ (o : Option Slot). IfSome o P) (sym (get_or_past (map (slot_outside start count) slots) page None (omega (arith, past, length-map slots (slot_outside start count))))) tt
]
  where
    by_test : (b : Bool) (s : Slot) → P s → IfSome (if b then None else Some s) P
    by_test true s is = tt
    by_test false s is = is

    kept : (o : Option Slot) → IfSome o P → IfSome (slot_outside start count o) P
    kept None is = tt
    kept (Some s) is = by_test (lies_in start count (Some s)) s is

pub all_below : (l : Shape) (third : ℕ) (rs : List Placed) → AllByRecursion (LiesOn l third) rs → AllByRecursion (λ r. r.at < 3 * l.third) rs
all_below l third [] lie = tt
all_below l third (r ∷ rs) lie =
    let at = lie.0 in
    let most : at.end ≤ 3 * l.third = ⊎_elim (λ e. omega (arith, e)) (λ o. ⊎_elim (λ e. omega (arith, e)) (λ e. omega (arith, e)) o) at.inside.ends in
    (omega (arith, most, at.inside.to), all_below l third rs lie.1)

-- ---- the third that follows

pub next_is : (third : ℕ) → third ≤ 2 → IsNextThird third (next_third third)
next_is third le = elim (cases_lt third 2) [
  | inl lt ↦
      let is = cond-true (nat_lt third 2) (third + 1) 0 (lt-ltb third 2 lt) in
      elim (cases_lt third 1) [ inl none ↦ inl (omega arith, omega (arith, is)) | inr some ↦ inr (inl (omega arith, omega (arith, is))) ]
  | inr ge ↦ inr (inr (omega arith, cond-false (nat_lt third 2) (third + 1) 0 (le-ltb third 2 ge)))
]

pub next_low : (third : ℕ) → third ≤ 2 → next_third third ≤ 2
next_low third le = elim (cases_lt third 2) [
  | inl lt ↦ omega (arith, lt, cond-true (nat_lt third 2) (third + 1) 0 (lt-ltb third 2 lt))
  | inr ge ↦ omega (arith, cond-false (nat_lt third 2) (third + 1) 0 (le-ltb third 2 ge))
]

pub moved_in : (l : Shape) (h : Head) → IsIn l h → 2 * l.third < h.at → IsIn l (head_back l.third h)
moved_in l h is far =
    let last : h.end ≡ 3 * l.third = ⊎_elim (λ e. absurd (omega (arith, e, is.before, far))) (λ o. ⊎_elim (λ e. absurd (omega (arith, e, is.before, far))) (λ e. e) o) is.ends in
    record { before = omega (arith, is.before); from = omega (arith, is.from, far); ends = inr (inl (omega (arith, last))) }

-- the records in the first third, and those behind it
pub record IsParted (l : Shape) (third : ℕ) (records : List Placed) : Type 0 where
  pub front : List Placed
  pub rest : List Placed
  pub joined : records ≡ front ++ rest
  pub is_later : later l records ≡ rest
  pub before : AllByRecursion (λ r. r.at < l.third) front
  pub behind : AllByRecursion (λ r. l.third ≤ r.at) rest
  pub lie_front : AllByRecursion (LiesOn l third) front
  pub lie_rest : AllByRecursion (LiesOn l third) rest
