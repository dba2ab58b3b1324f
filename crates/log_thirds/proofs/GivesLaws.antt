-- What holds of each image of each record, with its sector and its copy's, holds of a page's slot.
use Rattle.std.proofs.Common.{◌*◌, ◌≡◌, ℕ, suc, ◌+◌, ◌<◌, Bool, true, false, cond, List, [], ◌∷◌, length, get_or, Option, Some, None, refl, sym, ap, subst, ◌∙◌, arith}
use Rattle.std.specs.Prelude.{◌==◌, if◌then◌else◌}
use Rattle.std.specs.Option.{option_or}
use Rattle.std.specs.List.{AllByRecursion}
use Rattle.volume_layout.specs.Shape.{Shape}
use Rattle.volume_layout.specs.Kinds.{gap_of}
use Rattle.fsd_log.specs.Scan.{Placed, place_of}
use Rattle.fsd_log.specs.Images.{image_in, last_image}
use Rattle.fsd_log.specs.declared.slot.Slot.{Slot}
use Rattle.fsd_log.specs.Slots.{slot_in, slot_in_record, last_slot}
use Rattle.log_thirds.proofs.ImageLaws.{no_last_image}

-- the page is one of these, at this place among them
pub record IsAmong (page number place copy : ℕ) (pages : List ℕ) (images : List (List ℕ)) (slot : Slot) : Type 0 where
  pub index : ℕ
  pub there : index < length pages
  pub image : image_in page pages images ≡ Some (get_or images index [])
  pub first : slot.place ≡ place + index
  pub second : slot.copy ≡ copy + index

abbrev Among : (page number place copy : ℕ) → List ℕ → List (List ℕ) → Type 0
Among page number place copy pages images = (slot : Slot) → slot_in page number place copy pages ≡ Some slot → IsAmong page number place copy pages images slot

-- it is the first of them, or one of the others
among_more : (page number place copy p : ℕ) (pages : List ℕ) (image : List ℕ) (images : List (List ℕ)) → Among page number (place + 1) (copy + 1) pages images → Among page number place copy (p ∷ pages) (image ∷ images)
among_more page number place copy p pages image images further slot is = by_test (p == page) refl is
  where
    by_test : (b : Bool) → (p == page) ≡ b → cond b (Some (record { place = place; copy = copy; number = number })) (slot_in page number (place + 1) (copy + 1) pages) ≡ Some slot → IsAmong page number place copy (p ∷ pages) (image ∷ images) slot
    by_test true same found =
        let made : ◌≡◌ {A = Slot} (record { place = place; copy = copy; number = number }) slot = cc in
        record {
          index = 0;
          there = omega arith;
          image = ap (λ (b : Bool). if b then Some image else image_in page pages images) same;
          first = ap (λ (x : Slot). x.place) (sym made) ∙ omega arith;
          second = ap (λ (x : Slot). x.copy) (sym made) ∙ omega arith;
        }
    by_test false other found =
        let rest = further slot found in
        record {
          index = suc rest.index;
          there = omega (arith, rest.there);
          image = ap (λ (b : Bool). if b then Some image else image_in page pages images) other ∙ rest.image;
          first = omega (arith, rest.first);
          second = omega (arith, rest.second);
        }

among : (page number place copy : ℕ) (pages : List ℕ) (images : List (List ℕ)) → length images ≡ length pages → Among page number place copy pages images
among page number place copy [] images many = λ slot is. absurd (cc is)
among page number place copy (p ∷ pages) [] many = λ slot is. absurd (omega arith)
among page number place copy (p ∷ pages) (image ∷ images) many = among_more page number place copy p pages image images (among page number (place + 1) (copy + 1) pages images (omega arith))

module _ (l : Shape) (third : ℕ) (P : List ℕ → (place copy : ℕ) → Type 0) where
  -- P of each of a record's images, with the sectors where it and its copy were laid
  pub record EachImage (r : Placed) : Type 0 where
    pub many : length r.entry.images ≡ length r.entry.pages
    pub each : (k : ℕ) → k < length r.entry.pages → P (get_or r.entry.images k []) (place_of l third r.at + 3 + (gap_of l) + k) (place_of l third r.at + (4 + 2 * (gap_of l) + length r.entry.pages) + k)

  module _ (page : ℕ) where
    -- the page's last image among some records, of which P holds with its slot
    pub record Gives (rs : List Placed) (slot : Slot) : Type 0 where
      pub bytes : List ℕ
      pub last : last_image page rs ≡ Some bytes
      pub is : P bytes slot.place slot.copy

    gives_in : (r : Placed) (slot : Slot) → EachImage r → slot_in_record l third page r ≡ Some slot → (bytes : List ℕ) × (image_in page r.entry.pages r.entry.images ≡ Some bytes) × P bytes slot.place slot.copy
    gives_in r slot each found =
        let at = among page r.entry.number (place_of l third r.at + 3 + (gap_of l)) (place_of l third r.at + 3 + (gap_of l) + length r.entry.pages + 1 + (gap_of l)) r.entry.pages r.entry.images each.many slot found in
        let first : place_of l third r.at + 3 + (gap_of l) + at.index ≡ slot.place = sym at.first in
        let second : place_of l third r.at + (4 + 2 * (gap_of l) + length r.entry.pages) + at.index ≡ slot.copy = omega (arith, at.second) in
        (get_or r.entry.images at.index [], at.image, subst (λ (p : ℕ). P (get_or r.entry.images at.index []) p slot.copy) first (subst (λ (p : ℕ). P (get_or r.entry.images at.index []) (place_of l third r.at + 3 + (gap_of l) + at.index) p) second (each.each at.index at.there)))

    pub slot_gives : (rs : List Placed) (slot : Slot) → AllByRecursion EachImage rs → last_slot l third page rs ≡ Some slot → Gives rs slot
    slot_gives [] slot each found = absurd (cc found)
    slot_gives (r ∷ rs) slot each found = by_rest (λ is. slot_gives rs slot each.1 is) (last_slot l third page rs) refl found
      where
        by_rest : (last_slot l third page rs ≡ Some slot → Gives rs slot) → (o : Option Slot) → last_slot l third page rs ≡ o → option_or o (slot_in_record l third page r) ≡ Some slot → Gives (r ∷ rs) slot
        by_rest further (Some x) is given =
            let rest = further (is ∙ given) in
            record { bytes = rest.bytes; last = ap (λ (o : Option (List ℕ)). option_or o (image_in page r.entry.pages r.entry.images)) rest.last; is = rest.is }
        by_rest further None is given =
            let here = gives_in r slot each.0 given in
            record { bytes = here.0; last = ap (λ (o : Option (List ℕ)). option_or o (image_in page r.entry.pages r.entry.images)) (no_last_image l third page rs is) ∙ here.1; is = here.2 }
