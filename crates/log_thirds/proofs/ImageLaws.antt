-- Where a page's last image is read.
use Rattle.std.proofs.Common.{◌≡◌, ◌⊎◌, inl, inr, ℕ, ◌+◌, ◌*◌, ◌<◌, ◌≤◌, Bool, true, false, cond, List, [], ◌∷◌, length, get_or, Option, Some, None, nat_lt, refl, sym, ap, subst, ◌∙◌, arith}
use Rattle.std.specs.Prelude.{◌==◌, option_map, option_and_then}
use Rattle.std.specs.Option.{option_or}
use Rattle.std.proofs.lemmas.Bool.{cases_lt, eqb-true, cond-true, lt-ltb, false≢true}
use Rattle.std.proofs.lemmas.List.{get_or_past}
use Rattle.volume_layout.specs.Shape.{Shape}
use Rattle.volume_layout.specs.Kinds.{gap_of}
use Rattle.fsd_formats.specs.Record.{Stamp, bears, record_len}
use Rattle.fsd_log.specs.Judged.{Reader, Logged, Serving, judged, images_of, logged_of, record_in}
use Rattle.fsd_log.specs.Plain.{served, either_copy, images_at}
use Rattle.fsd_log.specs.Images.{image_in, last_image}
use Rattle.fsd_log.specs.Scan.{IsEnd, IsIn, Head, Placed, start, scan, place_of, tape, window, room_at}
use Rattle.fsd_log.proofs.JudgedLaws.{is_judged, record_room}
use Rattle.fsd_log.proofs.PlainLaws.{images_same}
use Rattle.fsd_log.specs.declared.slot.Slot.{Slot}
use Rattle.sector_disk.specs.declared.sector.Sector.TheVariants.{Whole}
use Rattle.sector_disk.specs.Image.{sector_at}
use Rattle.sector_disk.specs.Machine.{Moment}
use Rattle.sector_disk.proofs.Wear.{whole_of}
use Rattle.log_thirds.specs.Disk.{reads}
use Rattle.log_thirds.specs.LogValue.{LogValue}
use Rattle.log_thirds.specs.Append.{IsCalmNow, IsIndexed, scan_of}
use Rattle.log_thirds.specs.Images.{GivesSlot, SeesSlot, StandsInSlot, best_copy}
use Rattle.fsd_log.specs.Slots.{LiesAt, slot_in, slot_in_record, last_slot}
use Rattle.log_thirds.specs.Reading.{ReadWorn}
use Rattle.fsd_log.proofs.HereLaws.{here_some}
use Rattle.fsd_log.proofs.PlaceLaws.{InThird, place_add, end_most}
use Rattle.fsd_log.proofs.WalkLaws.{IsFound, Goes, found_goes_on, goes_of_walk}
use Rattle.log_thirds.proofs.ScanLaws.{found_number}

-- ---- in one record

pub images_there : (gap : ℕ) → (p : ℕ) (stamp : Stamp) (room : ℕ) (at : Reader) (r : Logged) → record_in gap p stamp room at ≡ Some r → images_at stamp at (3 + gap) (4 + 2 * gap + length r.pages) r.pages ≡ Some r.images
unfolding record_in
images_there gap p stamp room at r is = by_judged (judged gap p stamp room at) refl is
  where
    by_judged : (o : Option Serving) → judged gap p stamp room at ≡ o → option_map (logged_of gap stamp.number at) o ≡ Some r → images_at stamp at (3 + gap) (4 + 2 * gap + length r.pages) r.pages ≡ Some r.images
    by_judged None there e = absurd (cc)
    by_judged (Some s) there e =
        let same : logged_of gap stamp.number at s ≡ r = cc in
        subst (λ (x : Logged). images_at stamp at (3 + gap) (4 + 2 * gap + length x.pages) x.pages ≡ Some x.images) same
        (images_same stamp at (3 + gap) (4 + 2 * gap + length s.pages) s.pages ∙ ap (option_map (images_of at (3 + gap) (4 + 2 * gap + length s.pages))) (is_judged gap p stamp room at s there).copies)

module _ (page epoch number : ℕ) (at disk : Reader) where
  abbrev stamp : Stamp
  stamp = record { epoch = epoch; number = number }

  pub image_of_slot : (k c place copy : ℕ) (pages : List ℕ) (images : List (List ℕ)) (slot : Slot) → images_at (record { epoch = epoch; number = number }) at k c pages ≡ Some images
      → ((j : ℕ) → j < length pages → at (k + j) ≡ disk (place + j)) → ((j : ℕ) → j < length pages → at (c + j) ≡ disk (copy + j))
      → slot_in page number place copy pages ≡ Some slot → GivesSlot page epoch disk slot (image_in page pages images)
  image_of_slot k c place copy [] images slot are first second is = absurd (cc is)
  image_of_slot k c place copy (p ∷ pages) images slot are first second is =
      by_parts (λ more e i. image_of_slot (k + 1) (c + 1) (place + 1) (copy + 1) pages more slot e (later k place first) (later c copy second) i)
      (either_copy (bears p stamp) (at k) (at c)) (images_at stamp at (k + 1) (c + 1) pages) (p == page) refl refl refl are is
    where
      later : (a b : ℕ) → ((j : ℕ) → j < length (p ∷ pages) → at (a + j) ≡ disk (b + j)) → (j : ℕ) → j < length pages → at (a + 1 + j) ≡ disk (b + 1 + j)
      later a b same j lt =
          let x : a + 1 + j ≡ a + (j + 1) = omega arith in
          let y : b + (j + 1) ≡ b + 1 + j = omega arith in
          ap at x ∙ same (j + 1) (omega arith) ∙ ap disk y

      here : (a b : ℕ) → ((j : ℕ) → j < length (p ∷ pages) → at (a + j) ≡ disk (b + j)) → at a ≡ disk b
      here a b same =
          let x : a ≡ a + 0 = omega arith in
          let y : b + 0 ≡ b = omega arith in
          ap at x ∙ same 0 (omega arith) ∙ ap disk y

      by_parts : ((more : List (List ℕ)) → images_at stamp at (k + 1) (c + 1) pages ≡ Some more → slot_in page number (place + 1) (copy + 1) pages ≡ Some slot → GivesSlot page epoch disk slot (image_in page pages more))
          → (o : Option (List ℕ)) (rest : Option (List (List ℕ))) (b : Bool) → either_copy (bears p stamp) (at k) (at c) ≡ o → images_at stamp at (k + 1) (c + 1) pages ≡ rest → (p == page) ≡ b
          → option_and_then (λ image. option_map (λ more. image ∷ more) rest) o ≡ Some images
          → cond b (Some (record { place = place; copy = copy; number = number })) (slot_in page number (place + 1) (copy + 1) pages) ≡ Some slot
          → GivesSlot page epoch disk slot (image_in page (p ∷ pages) images)
      by_parts further None rest b one others test made is1 = absurd (cc made)
      by_parts further (Some image) None b one others test made is1 = absurd (cc made)
      by_parts further (Some image) (Some more) true one others test made is1 =
          let images_are : image ∷ more ≡ images = cc made in
          let slot_is : ◌≡◌ {A = Slot} (record { place = place; copy = copy; number = number }) slot = cc is1 in
          let same : p ≡ page = eqb-true p page test in
          let made_of : GivesSlot page epoch disk (record { place = place; copy = copy; number = number }) (image_in page (p ∷ pages) (image ∷ more)) = record {
            image = image;
            read = (λ i. either_copy (bears (sym same i) stamp) (sym (here k place first) i) (sym (here c copy second) i)) ∙ one;
            is = ap (λ (x : Bool). cond x (Some image) (image_in page pages more)) test;
          } in
          subst (λ (s : Slot). GivesSlot page epoch disk s (image_in page (p ∷ pages) images)) slot_is
          (subst (λ (l : List (List ℕ)). GivesSlot page epoch disk (record { place = place; copy = copy; number = number }) (image_in page (p ∷ pages) l)) images_are made_of)
      by_parts further (Some image) (Some more) false one others test made is1 =
          let images_are : image ∷ more ≡ images = cc made in
          let rest = further more others is1 in
          subst (λ (l : List (List ℕ)). GivesSlot page epoch disk slot (image_in page (p ∷ pages) l)) images_are
          (record { image = rest.image; read = rest.read; is = ap (λ (x : Bool). cond x (Some image) (image_in page pages more)) test ∙ rest.is })

-- no slot, no image
pub no_image_in : (page number place copy : ℕ) (pages : List ℕ) (images : List (List ℕ)) → slot_in page number place copy pages ≡ None → image_in page pages images ≡ None
no_image_in page number place copy [] images is = refl
no_image_in page number place copy (p ∷ pages) [] is = refl
no_image_in page number place copy (p ∷ pages) (image ∷ images) is = by_test (λ i. no_image_in page number (place + 1) (copy + 1) pages images i) (p == page) is
  where
    by_test : (slot_in page number (place + 1) (copy + 1) pages ≡ None → image_in page pages images ≡ None)
        → (b : Bool) → cond b (Some (record { place = place; copy = copy; number = number })) (slot_in page number (place + 1) (copy + 1) pages) ≡ None → cond b (Some image) (image_in page pages images) ≡ None
    by_test further true e = absurd (cc e)
    by_test further false e = further e

pub no_last_image : (l : Shape) (third page : ℕ) (records : List Placed) → last_slot l third page records ≡ None → last_image page records ≡ None
no_last_image l third page [] is = refl
no_last_image l third page (r ∷ records) is = by_rest (λ none. no_last_image l third page records none) (last_slot l third page records) refl is
  where
    by_rest : (last_slot l third page records ≡ None → last_image page records ≡ None) → (o : Option Slot) → last_slot l third page records ≡ o → option_or o (slot_in_record l third page r) ≡ None → option_or (last_image page records) (image_in page r.entry.pages r.entry.images) ≡ None
    by_rest before None none e = λ i. option_or (before none i) (no_image_in page r.entry.number (place_of l third r.at + 3 + (gap_of l)) (place_of l third r.at + 3 + (gap_of l) + length r.entry.pages + 1 + (gap_of l)) r.entry.pages r.entry.images e i)
    by_rest before (Some s) none e = absurd (cc e)

-- ---- on the tape

module _ (l : Shape) (epoch third page : ℕ) (one_of : third ≤ 2) (disk : Reader) where
  module _ (h : Head) (r : Placed) (h1 : Head) (is_in : IsIn l h) (is : IsFound l epoch (tape l third disk) h r h1) where
    in_third : InThird l third r.at (record_len (gap_of l) (length r.entry.pages)) is.end
    in_third =
        let one = found_goes_on l epoch (tape l third disk) h r h1 is_in is in
        let end : h1.end ≡ is.end = ap (λ (x : Head). x.end) is.goes_on in
        record {
          one_of = one_of;
          ends = subst (IsEnd l) end one.is_in.ends;
          from = elim is.place [ inl here ↦ omega (arith, here.at_head, here.in_third, is_in.from) | inr there ↦ omega (arith, there.at_start, there.in_third) ];
          to = omega (arith, one.is_in.before, one.to, end);
        }

    found : record_in (gap_of l) l.pages (record { epoch = epoch; number = h.number }) (room_at r.at is.end) (window (tape l third disk) r.at (room_at r.at is.end)) ≡ Some r.entry
    found = (here_some l epoch (tape l third disk) h.number r.at is.end r.entry is.found).1

    seen_at : (k : ℕ) → k < record_len (gap_of l) (length r.entry.pages) → window (tape l third disk) r.at (room_at r.at is.end) k ≡ disk (place_of l third r.at + k)
    seen_at k lt =
        let within : InThird l third r.at (record_len (gap_of l) (length r.entry.pages)) is.end = in_third in
        let room : record_len (gap_of l) (length r.entry.pages) ≤ room_at r.at is.end = record_room (gap_of l) l.pages (record { epoch = epoch; number = h.number }) (room_at r.at is.end) (window (tape l third disk) r.at (room_at r.at is.end)) r.entry found in
        cond-true (nat_lt k (room_at r.at is.end)) (tape l third disk (r.at + k)) None (lt-ltb k (room_at r.at is.end) (omega (arith, lt, room)))
        ∙ cond-true (nat_lt (r.at + k) (3 * l.third)) (disk (place_of l third (r.at + k))) None (lt-ltb (r.at + k) (3 * l.third) (omega (arith, lt, within.to, end_most l is.end within.ends)))
        ∙ ap disk (place_add l third r.at (record_len (gap_of l) (length r.entry.pages)) is.end k within lt)

    pub found_image : (slot : Slot) → slot_in_record l third page r ≡ Some slot → GivesSlot page epoch disk slot (image_in page r.entry.pages r.entry.images)
    found_image slot there =
        let n : ℕ = length r.entry.pages in
        let number : r.entry.number ≡ h.number = found_number l epoch (tape l third disk) h r h1 is in
        let images = images_there (gap_of l) l.pages (record { epoch = epoch; number = h.number }) (room_at r.at is.end) (window (tape l third disk) r.at (room_at r.at is.end)) r.entry found in
        image_of_slot page epoch r.entry.number (window (tape l third disk) r.at (room_at r.at is.end)) disk (3 + (gap_of l)) (4 + 2 * (gap_of l) + length r.entry.pages) (place_of l third r.at + 3 + (gap_of l)) (place_of l third r.at + 3 + (gap_of l) + length r.entry.pages + 1 + (gap_of l)) r.entry.pages r.entry.images slot
        (subst (λ (m : ℕ). images_at (record { epoch = epoch; number = m }) (window (tape l third disk) r.at (room_at r.at is.end)) (3 + (gap_of l)) (4 + 2 * (gap_of l) + length r.entry.pages) r.entry.pages ≡ Some r.entry.images) (sym number) images)
        (λ j lt. let place : place_of l third r.at + (3 + (gap_of l) + j) ≡ place_of l third r.at + 3 + (gap_of l) + j = omega arith in seen_at (3 + (gap_of l) + j) (omega (arith, lt)) ∙ ap disk place)
        (λ j lt. let place : place_of l third r.at + (4 + 2 * (gap_of l) + length r.entry.pages + j) ≡ place_of l third r.at + 3 + (gap_of l) + length r.entry.pages + 1 + (gap_of l) + j = omega arith in seen_at (4 + 2 * (gap_of l) + length r.entry.pages + j) (omega (arith, lt)) ∙ ap disk place)
        there

  pub last_image_read : (h : Head) (records : List Placed) (end : Head) (slot : Slot) → IsIn l h → Goes l epoch (tape l third disk) h records end → last_slot l third page records ≡ Some slot → GivesSlot page epoch disk slot (last_image page records)
  last_image_read h [] end slot is_in goes is = absurd (cc is)
  last_image_read h (r ∷ records) end slot is_in goes is =
      by_rest (λ s. last_image_read goes.0 records end slot (found_goes_on l epoch (tape l third disk) h r goes.0 is_in goes.1).is_in goes.2 s) (last_slot l third page records) refl is
    where
      by_rest : (last_slot l third page records ≡ Some slot → GivesSlot page epoch disk slot (last_image page records))
          → (o : Option Slot) → last_slot l third page records ≡ o → option_or o (slot_in_record l third page r) ≡ Some slot → GivesSlot page epoch disk slot (option_or (last_image page records) (image_in page r.entry.pages r.entry.images))
      by_rest later (Some s) is1 e =
          let rest = later (is1 ∙ e) in
          record { image = rest.image; read = rest.read; is = ap (λ (o : Option (List ℕ)). option_or o (image_in page r.entry.pages r.entry.images)) rest.is }
      by_rest later None is1 e =
          let one = found_image h r goes.0 is_in goes.1 slot e in
          record { image = one.image; read = one.read; is = λ i. option_or (no_last_image l third page records is1 i) (one.is i) }

-- ---- of a log

module _ (log : LogValue) (records : List Placed) (at : Moment) (page : ℕ) (one_of : log.anchor.third ≤ 2) (are : IsIndexed log records) (within : page < length log.slots) where
  pub image_there : (slot : Slot) → (scan_of log at).records ≡ records → get_or log.slots page None ≡ Some slot → GivesSlot page log.anchor.epoch (reads at.image) slot (last_image page records)
  unfolding scan
  image_there slot same is =
      let l = log.layout in
      let disk = tape log.layout log.anchor.third (reads at.image) in
      let goes = subst (λ (rs : List Placed). Goes log.layout log.anchor.epoch (tape log.layout log.anchor.third (reads at.image)) (start log.layout log.anchor.first) rs (scan_of log at).head) same (goes_of_walk (3 * l.third) l log.anchor.epoch disk (start l log.anchor.first)) in
      last_image_read log.layout log.anchor.epoch log.anchor.third page one_of (reads at.image) (start log.layout log.anchor.first) records (scan_of log at).head slot (record { before = omega arith; from = omega arith; ends = inl refl }) goes (sym (are.slots page within) ∙ is)

pub image_nowhere : (log : LogValue) (records : List Placed) (page : ℕ) → IsIndexed log records → page < length log.slots → get_or log.slots page None ≡ None → last_image page records ≡ None
image_nowhere log records page are within is = no_last_image log.layout log.anchor.third page records (sym (are.slots page within) ∙ is)

-- ---- as it is read

read_calm : (old : Moment) (place : ℕ) (o : Option (List ℕ)) → IsCalmNow old → ReadWorn old place o → o ≡ reads old.image place
read_calm old place o calm (inl is) = is
read_calm old place o calm (inr hurt) = absurd (false≢true (sym (calm place) ∙ hurt.0))

some_left : {A : Type 0} (o p q : Option A) (x : A) → o ≡ Some x → option_or (option_or o p) q ≡ Some x
some_left {A = A} o p q x is = ap (λ (y : Option A). option_or (option_or y p) q) is

-- where nothing wears, what is read is what the slot gives
pub slot_seen : (old : Moment) (slot : Slot) (page epoch : ℕ) (o image : Option (List ℕ)) → IsCalmNow old → SeesSlot old slot page epoch o → GivesSlot page epoch (reads old.image) slot image → image ≡ o
slot_seen old slot page epoch o image calm sees gives =
    let first : sees.first ≡ reads old.image slot.place = read_calm old slot.place sees.first calm sees.read_first in
    let copy : sees.copy ≡ reads old.image slot.copy = read_calm old slot.copy sees.copy calm sees.read_copy in
    let test : List ℕ → Bool = bears page (record { epoch = epoch; number = slot.number }) in
    gives.is ∙ sym (sees.serves ∙ (λ i. best_copy test (first i) (copy i)) ∙ some_left (either_copy test (reads old.image slot.place) (reads old.image slot.copy)) (reads old.image slot.place) (reads old.image slot.copy) gives.image gives.read)

module _ (old : Moment) (slot : Slot) (page epoch : ℕ) where
  abbrev test : List ℕ → Bool
  test = bears page (record { epoch = epoch; number = slot.number })

  -- the first sector serves, whatever the copy gives
  pub slot_first : (first : Option (List ℕ)) (image : List ℕ) → ReadWorn old slot.place first → served test first ≡ Some image → SeesSlot old slot page epoch (Some image)
  slot_first first image read serves = record {
    first = first;
    copy = reads old.image slot.copy;
    read_first = read;
    read_copy = inl refl;
    serves = ap (λ (o : Option (List ℕ)). option_or (option_or (option_or o (served test (reads old.image slot.copy))) first) (reads old.image slot.copy)) (sym serves);
  }

-- of two copies none is given exactly where neither is there
both_none : {A : Type 0} (o first copy : Option A) → option_or (option_or o first) copy ≡ None → (first ≡ None) × (copy ≡ None)
both_none None None copy is = (refl, is)
both_none None (Some x) copy is = absurd (cc is)
both_none (Some y) first copy is = absurd (cc is)

pub none_is_neither : (test : List ℕ → Bool) (first copy : Option (List ℕ)) → best_copy test first copy ≡ None → (first ≡ None) × (copy ≡ None)
none_is_neither test first copy is = both_none (either_copy test first copy) first copy is

-- what is given is one of the two
served_is : (test : List ℕ → Bool) (o : Option (List ℕ)) (image : List ℕ) → served test o ≡ Some image → o ≡ Some image
served_is test None image is = is
served_is test (Some bytes) image is = by (test bytes) is
  where
    by : (b : Bool) → cond b (Some bytes) None ≡ Some image → Some bytes ≡ Some image
    by true e = e
    by false e = absurd (cc e)

one_of_two : (o p : Option (List ℕ)) (image : List ℕ) → option_or o p ≡ Some image → (o ≡ Some image) ⊎ (p ≡ Some image)
one_of_two None p image is = inr is
one_of_two (Some x) p image is = inl is

given_is : (test : List ℕ → Bool) (first copy : Option (List ℕ)) (image : List ℕ) → best_copy test first copy ≡ Some image → (first ≡ Some image) ⊎ (copy ≡ Some image)
given_is test first copy image is = elim (one_of_two (option_or (either_copy test first copy) first) copy image is) [
  | inr of_copy ↦ inr of_copy
  | inl more ↦ elim (one_of_two (either_copy test first copy) first image more) [
    | inr of_first ↦ inl of_first
    | inl borne ↦ elim (one_of_two (served test first) (served test copy) image borne) [
      | inl one ↦ inl (served_is test first image one)
      | inr two ↦ inr (served_is test copy image two)
    ]
  ]
]

read_there : (old : Moment) (place : ℕ) (o : Option (List ℕ)) (bytes : List ℕ) → ReadWorn old place o → o ≡ Some bytes → sector_at old.image place ≡ Whole bytes
read_there old place o bytes (inl read) is = whole_of (sector_at old.image place) bytes (sym read ∙ is)
read_there old place o bytes (inr hurt) is = absurd (none_some bytes (sym hurt.1 ∙ is))
  where
    none_some : (x : List ℕ) → None ≡ Some x → ⊥
    none_some x e = cc e

pub stands_there : (old : Moment) (slot : Slot) (page epoch : ℕ) (image : List ℕ) → SeesSlot old slot page epoch (Some image) → StandsInSlot (Some slot) old.image image
stands_there old slot page epoch image sees =
    let test : List ℕ → Bool = bears page (record { epoch = epoch; number = slot.number }) in
    record {
      a = slot.place;
      b = slot.copy;
      lies = record { number = slot.number; is = refl };
      stands = elim (given_is test sees.first sees.copy image (sym sees.serves)) [
        | inl one ↦ inl (read_there old slot.place sees.first image sees.read_first one)
        | inr two ↦ inr (read_there old slot.copy sees.copy image sees.read_copy two)
      ];
    }

-- a page's two sectors by the table are those by the records
pub logged_by : (log : LogValue) (records : List Placed) (page a b : ℕ) → IsIndexed log records → LiesAt (get_or log.slots page None) a b → LiesAt (last_slot log.layout log.anchor.third page records) a b
logged_by log records page a b are lies = elim (cases_lt page (length log.slots)) [
  | inl within ↦ record { number = lies.number; is = sym (are.slots page within) ∙ lies.is }
  | inr past ↦ absurd (none_some (record { place = a; copy = b; number = lies.number }) (sym (get_or_past log.slots page None past) ∙ lies.is))
]
  where
    none_some : (slot : Slot) → None ≡ Some slot → ⊥
    none_some slot is = cc is
