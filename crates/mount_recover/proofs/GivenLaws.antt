-- What the slots of a log give of its pages, where sectors of its last record are laid again.
use Rattle.std.proofs.Common.{◌≡◌, ◌⊎◌, inl, inr, ⊎_elim, ℕ, suc, ◌+◌, ◌*◌, ◌<◌, ◌≤◌, Bool, true, false, cond, List, [], ◌∷◌, length, get_or, Option, Some, None, refl, sym, ap, subst, ◌∙◌, arith}
use Rattle.std.specs.Prelude.{◌==◌}
use Rattle.std.specs.List.{AllByRecursion}
use Rattle.std.specs.Option.{option_or}
use Rattle.volume_layout.specs.declared.layout.Layout.{Layout}
use Rattle.volume_layout.specs.Kinds.{gap_of}
use Rattle.fsd_formats.specs.declared.anchor.Anchor.{Anchor}
use Rattle.fsd_formats.specs.Record.{bears, record_len}
use Rattle.fsd_log.specs.Judged.{Reader}
use Rattle.fsd_log.specs.Plain.{served, either_copy}
use Rattle.fsd_log.specs.Scan.{Placed, place_of, tape, start}
use Rattle.fsd_log.specs.Images.{image_in, last_image}
use Rattle.fsd_log.proofs.PlaceLaws.{place_inside}
use Rattle.fsd_files.specs.Disk.{Image, bytes_at}
use Rattle.fsd_sound.specs.Shown.{scan_by, records_by}
use Rattle.fsd_sound.proofs.LogPlaces.{IsRecord, start_in, scan_goes}
use Rattle.fsd_log.specs.declared.slot.Slot.{Slot}
use Rattle.log_thirds.specs.Images.{GivesSlot}
use Rattle.fsd_log.specs.Slots.{slot_in, slot_in_record, last_slot}
use Rattle.log_thirds.proofs.ImageLaws.{no_last_image, last_image_read}

-- ---- one slot

-- its sector reads as it did, and its copy as it did or as the image
pub record SlotAgain (old new : Reader) (slot : Slot) (o : Option (List ℕ)) : Type 0 where
  pub image : List ℕ
  pub is : o ≡ Some image
  pub place : new slot.place ≡ old slot.place
  pub copy : (new slot.copy ≡ old slot.copy) ⊎ (new slot.copy ≡ Some image)

served_passes : (test : List ℕ → Bool) (o : Option (List ℕ)) (image : List ℕ) → served test o ≡ Some image → test image ≡ true
served_passes test None image e = absurd (cc (e))
served_passes test (Some bytes) image e = by_test (test bytes) refl e
  where
    by_test : (b : Bool) → test bytes ≡ b → cond b (Some bytes) None ≡ Some image → test image ≡ true
    by_test true is e = let same : image ≡ bytes = cc in ap test same ∙ is
    by_test false is e = absurd (cc (e))

either_again : (test : List ℕ → Bool) (a c c1 : Option (List ℕ)) (image : List ℕ) → either_copy test a c ≡ Some image → (c1 ≡ c) ⊎ (c1 ≡ Some image) → either_copy test a c1 ≡ Some image
either_again test a c c1 image e (inl same) = ap (λ (o : Option (List ℕ)). either_copy test a o) same ∙ e
either_again test a c c1 image e (inr laid) = by_first (served test a) e
  where
    by_first : (o : Option (List ℕ)) → option_or o (served test c) ≡ Some image → option_or o (served test c1) ≡ Some image
    by_first (Some x) first = first
    by_first None second = ap (served test) laid ∙ ap (λ (b : Bool). cond b (Some image) None) (served_passes test c image second)

pub gives_again : (page epoch : ℕ) (old new : Reader) (slot : Slot) (o : Option (List ℕ)) → SlotAgain old new slot o → GivesSlot page epoch old slot o → GivesSlot page epoch new slot o
gives_again page epoch old new slot o again gives =
    let test : List ℕ → Bool = bears page (record { epoch = epoch; number = slot.number }) in
    let both : Some again.image ≡ Some gives.image = sym again.is ∙ gives.is in
    let same : again.image ≡ gives.image = cc in
    record {
      image = gives.image;
      read = ap (λ (x : Option (List ℕ)). either_copy test x (new slot.copy)) again.place
          ∙ either_again test (old slot.place) (old slot.copy) (new slot.copy) gives.image gives.read (⊎_elim (λ stays. inl stays) (λ laid. inr (laid ∙ ap (λ (x : List ℕ). Some x) same)) again.copy);
      is = gives.is;
    }

-- where both of its sectors read as they did it gives the same
pub gives_same : (page epoch : ℕ) (old new : Reader) (slot : Slot) (o : Option (List ℕ)) → new slot.place ≡ old slot.place → new slot.copy ≡ old slot.copy → GivesSlot page epoch old slot o → GivesSlot page epoch new slot o
gives_same page epoch old new slot o place copy gives = gives_again page epoch old new slot o (record { image = gives.image; is = gives.is; place = place; copy = inl copy }) gives

-- ---- in one record

module _ (page number : ℕ) where
  slot_again : (old new : Reader) (a c : ℕ) (pages : List ℕ) (images : List (List ℕ)) (slot : Slot) → length images ≡ length pages → ((j : ℕ) → j < length pages → new (a + j) ≡ old (a + j))
      → ((j : ℕ) → j < length pages → (new (c + j) ≡ old (c + j)) ⊎ (new (c + j) ≡ Some (get_or images j []))) → slot_in page number a c pages ≡ Some slot → SlotAgain old new slot (image_in page pages images)
  slot_again old new a c [] images slot long first copy is = absurd (cc (is))
  slot_again old new a c (p ∷ pages) [] slot long first copy is = absurd (omega (arith, long))
  slot_again old new a c (p ∷ pages) (image ∷ images) slot long first copy is =
      by_test (λ e. slot_again old new (a + 1) (c + 1) pages images slot (omega (arith, long))
      (λ j lt. let at : a + 1 + j ≡ a + suc j = omega arith in ap new at ∙ first (suc j) (omega arith) ∙ ap old (sym at))
      (λ j lt. let at : c + 1 + j ≡ c + suc j = omega arith in ⊎_elim (λ stays. inl (ap new at ∙ stays ∙ ap old (sym at))) (λ laid. inr (ap new at ∙ laid)) (copy (suc j) (omega arith))) e)
      (p == page) is
    where
      a0 : a + 0 ≡ a
      a0 = omega arith

      c0 : c + 0 ≡ c
      c0 = omega arith

      here : SlotAgain old new (record { place = a; copy = c; number = number }) (Some image)
      here = record {
        image = image;
        is = refl;
        place = ap new (sym a0) ∙ first 0 (omega arith) ∙ ap old a0;
        copy = ⊎_elim (λ stays. inl (ap new (sym c0) ∙ stays ∙ ap old c0)) (λ laid. inr (ap new (sym c0) ∙ laid)) (copy 0 (omega arith));
      }

      by_test : (slot_in page number (a + 1) (c + 1) pages ≡ Some slot → SlotAgain old new slot (image_in page pages images))
          → (b : Bool) → cond b (Some (record { place = a; copy = c; number = number })) (slot_in page number (a + 1) (c + 1) pages) ≡ Some slot
          → SlotAgain old new slot (cond b (Some image) (image_in page pages images))
      by_test further true e = let same : ◌≡◌ {A = Slot} (record { place = a; copy = c; number = number }) slot = cc (e) in subst (λ (s : Slot). SlotAgain old new s (Some image)) same here
      by_test further false e = further e

  slot_below : (most a c : ℕ) (pages : List ℕ) (slot : Slot) → a + length pages ≤ most → c + length pages ≤ most → slot_in page number a c pages ≡ Some slot → (slot.place < most) × (slot.copy < most)
  slot_below most a c [] slot first copy is = absurd (cc (is))
  slot_below most a c (p ∷ pages) slot first copy is = by_test (λ e. slot_below most (a + 1) (c + 1) pages slot (omega arith) (omega arith) e) (p == page) is
    where
      by_test : (slot_in page number (a + 1) (c + 1) pages ≡ Some slot → (slot.place < most) × (slot.copy < most))
          → (b : Bool) → cond b (Some (record { place = a; copy = c; number = number })) (slot_in page number (a + 1) (c + 1) pages) ≡ Some slot → (slot.place < most) × (slot.copy < most)
      by_test further true e =
          let same : ◌≡◌ {A = Slot} (record { place = a; copy = c; number = number }) slot = cc (e) in
          subst (λ (s : Slot). (s.place < most) × (s.copy < most)) same (omega arith, omega arith)
      by_test further false e = further e

-- ---- in some records

-- the sectors of its images read as they did, and their copies as they did or as the images
pub record RecordAgain (l : Layout) (third : ℕ) (old new : Reader) (r : Placed) : Type 0 where
  pub images : length r.entry.images ≡ length r.entry.pages
  pub first : (j : ℕ) → j < length r.entry.pages → new (place_of l third r.at + 3 + (gap_of l) + j) ≡ old (place_of l third r.at + 3 + (gap_of l) + j)
  pub copy : (j : ℕ) → j < length r.entry.pages → (new (place_of l third r.at + 3 + (gap_of l) + length r.entry.pages + 1 + (gap_of l) + j) ≡ old (place_of l third r.at + 3 + (gap_of l) + length r.entry.pages + 1 + (gap_of l) + j))
      ⊎ (new (place_of l third r.at + 3 + (gap_of l) + length r.entry.pages + 1 + (gap_of l) + j) ≡ Some (get_or r.entry.images j []))

pub last_again : (l : Layout) (third page : ℕ) (old new : Reader) (rs : List Placed) (slot : Slot) → AllByRecursion (RecordAgain l third old new) rs → last_slot l third page rs ≡ Some slot → SlotAgain old new slot (last_image page rs)
last_again l third page old new [] slot all is = absurd (cc (is))
last_again l third page old new (r ∷ rs) slot all is = by_rest (λ e. last_again l third page old new rs slot all.1 e) (last_slot l third page rs) refl is
  where
    by_rest : (last_slot l third page rs ≡ Some slot → SlotAgain old new slot (last_image page rs)) → (o : Option Slot) → last_slot l third page rs ≡ o → option_or o (slot_in_record l third page r) ≡ Some slot
        → SlotAgain old new slot (option_or (last_image page rs) (image_in page r.entry.pages r.entry.images))
    by_rest later (Some s) is1 e =
        let rest = later (is1 ∙ e) in
        record { image = rest.image; is = ap (λ (o : Option (List ℕ)). option_or o (image_in page r.entry.pages r.entry.images)) rest.is; place = rest.place; copy = rest.copy }
    by_rest later None is1 e =
        let one = slot_again page r.entry.number old new (place_of l third r.at + 3 + (gap_of l)) (place_of l third r.at + 3 + (gap_of l) + length r.entry.pages + 1 + (gap_of l)) r.entry.pages r.entry.images slot all.0.images all.0.first all.0.copy e in
        record { image = one.image; is = λ i. option_or (no_last_image l third page rs is1 i) (one.is i); place = one.place; copy = one.copy }

-- a page's slot lies in the log
pub slot_inside : (l : Layout) (third page : ℕ) (rs : List Placed) (slot : Slot) → AllByRecursion (IsRecord l third) rs → last_slot l third page rs ≡ Some slot → (slot.place < 16 + 3 * l.third) × (slot.copy < 16 + 3 * l.third)
slot_inside l third page [] slot are is = absurd (cc (is))
slot_inside l third page (r ∷ rs) slot are is = by_rest (λ e. slot_inside l third page rs slot are.1 e) (last_slot l third page rs) refl is
  where
    by_rest : (last_slot l third page rs ≡ Some slot → (slot.place < 16 + 3 * l.third) × (slot.copy < 16 + 3 * l.third)) → (o : Option Slot) → last_slot l third page rs ≡ o → option_or o (slot_in_record l third page r) ≡ Some slot
        → (slot.place < 16 + 3 * l.third) × (slot.copy < 16 + 3 * l.third)
    by_rest later (Some s) is1 e = later (is1 ∙ e)
    by_rest later None is1 e =
        let inside = place_inside l third r.at (record_len (gap_of l) (length r.entry.pages)) are.0.end are.0.inside (omega arith) in
        slot_below page r.entry.number (16 + 3 * l.third) (place_of l third r.at + 3 + (gap_of l)) (place_of l third r.at + 3 + (gap_of l) + length r.entry.pages + 1 + (gap_of l)) r.entry.pages slot (omega (arith, inside)) (omega (arith, inside)) e

-- ---- of an image

-- the slots of its own records give their images
pub scan_gives : (l : Layout) (i : Image) (a : Anchor) (page : ℕ) (slot : Slot) → a.third ≤ 2 → last_slot l a.third page (records_by l i a) ≡ Some slot → GivesSlot page a.epoch (bytes_at i) slot (last_image page (records_by l i a))
scan_gives l i a page slot third is =
    last_image_read l a.epoch a.third page third (bytes_at i) (start l a.first) (records_by l i a) (scan_by l i a).head slot (start_in l a.first) (scan_goes l a.epoch a.first (tape l a.third (bytes_at i))) is
