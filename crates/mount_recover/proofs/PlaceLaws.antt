-- Where the log has a page, by its slot.
use Rattle.std.proofs.Common.{◌≡◌, ℕ, ◌+◌, Bool, true, false, cond, List, [], ◌∷◌, length, Option, Some, None, refl, sym, ◌∙◌, ap}
use Rattle.std.specs.Prelude.{option_map, ◌==◌}
use Rattle.std.specs.Option.{option_or}
use Rattle.volume_layout.specs.Shape.{Shape}
use Rattle.volume_layout.specs.Kinds.{gap_of}
use Rattle.fsd_log.specs.Places.{last_places, places_in}
use Rattle.fsd_log.specs.Scan.{Placed, place_of}
use Rattle.fsd_log.specs.declared.slot.Slot.{Slot}
use Rattle.fsd_log.specs.Slots.{LiesAt, slot_in_record, slot_in, last_slot}

abbrev places_of : Slot → ℕ × ℕ
places_of s = (s.place, s.copy)

in_pages : (page number place copy : ℕ) (pages : List ℕ) → option_map places_of (slot_in page number place copy pages) ≡ places_in page place copy pages
in_pages page number place copy [] = refl
in_pages page number place copy (p ∷ pages) = by (p == page) (in_pages page number (place + 1) (copy + 1) pages)
  where
    by : (same : Bool) → option_map places_of (slot_in page number (place + 1) (copy + 1) pages) ≡ places_in page (place + 1) (copy + 1) pages
        → option_map places_of (cond same (Some (record { place = place; copy = copy; number = number })) (slot_in page number (place + 1) (copy + 1) pages)) ≡ cond same (Some (place, copy)) (places_in page (place + 1) (copy + 1) pages)
    by true rest = refl
    by false rest = rest

either : (o p : Option Slot) → option_map places_of (option_or o p) ≡ option_or (option_map places_of o) (option_map places_of p)
either None p = refl
either (Some s) p = refl

in_records : (l : Shape) (third page : ℕ) (records : List Placed) → option_map places_of (last_slot l third page records) ≡ last_places l third page records
in_records l third page [] = refl
in_records l third page (r ∷ records) =
    let start = place_of l third r.at + 3 + (gap_of l) in
    either (last_slot l third page records) (slot_in_record l third page r)
    ∙ ap (λ (o : Option (ℕ × ℕ)). option_or o (option_map places_of (slot_in_record l third page r))) (in_records l third page records)
    ∙ ap (λ (o : Option (ℕ × ℕ)). option_or (last_places l third page records) o) (in_pages page r.entry.number start (start + length r.entry.pages + 1 + (gap_of l)) r.entry.pages)

pub lies_last : (l : Shape) (third page : ℕ) (records : List Placed) (a b : ℕ) → LiesAt (last_slot l third page records) a b → last_places l third page records ≡ Some (a, b)
lies_last l third page records a b lies = sym (in_records l third page records) ∙ ap (λ (o : Option Slot). option_map places_of o) lies.is
