-- Once the pages of the first third stand at home the anchor moves on, and the same pages are shown.
use Rattle.std.proofs.Common.{◌≡◌, inl, inr, ⊎_elim, ℕ, zero, suc, ◌+◌, ◌<◌, ◌≤◌, Bool, true, false, cond, List, [], ◌∷◌, ◌++◌, length, map, Option, Some, None, refl, sym, ap, subst, ◌∙◌, arith}
use Rattle.std.specs.Prelude.{IfSome, option_and_then}
use Rattle.std.specs.List.{AllByRecursion}
use Rattle.std.specs.Option.{option_or}
use Rattle.std.proofs.lemmas.List.{length-set, map-append}
use Rattle.volume_layout.specs.declared.layout.Layout.{Layout}
use Rattle.volume_layout.specs.Layout.{home_a, home_b, third_start}
use Rattle.volume_layout.specs.Root.{root_bytes}
use Rattle.volume_layout.proofs.RootLaws.{planned_bounds}
use Rattle.fsd_formats.specs.declared.anchor.Anchor.{Anchor}
use Rattle.fsd_formats.specs.Anchors.{anchor_bytes, read_closed}
use Rattle.fsd_formats.specs.Record.{header_bytes, end_bytes}
use Rattle.sector_disk.specs.declared.sector.Sector.{Sector}
use Rattle.sector_disk.specs.declared.sector.Sector.TheVariants.{Whole}
use Rattle.sector_disk.specs.declared.sector.WeakRun.{WeakRun}
use Rattle.sector_disk.specs.Image.{sector_at, with_sector, stand, IsWorn, open_damage}
use Rattle.sector_disk.specs.Machine.{Moment, Holds}
use Rattle.sector_disk.proofs.Calm.{stand_one}
use Rattle.sector_disk.proofs.Wear.{length-stand, worn_refl, worn_whole}
use Rattle.sector_disk.proofs.Holding.{over_two}
use Rattle.sector_disk.proofs.ResultLaws.{option_or-assoc, option_or-none}
use Rattle.fsd_log.specs.Images.{image_in, last_image}
use Rattle.fsd_log.specs.Scan.{Placed, Walked, newer_of, is_newer, place_of}
use Rattle.fsd_files.specs.Disk.{Image, Sectors, Has, bytes_of}
use Rattle.fsd_sound.specs.Anchors.{anchor_at, anchor_of, EachAnchor}
use Rattle.fsd_sound.specs.Homes.{home_of}
use Rattle.fsd_sound.specs.Laid.{HasOwnLog, AllStand, HasFront, HasCopies, AllLaid}
use Rattle.fsd_sound.specs.Mounted.{StandsOver, image_at}
use Rattle.fsd_sound.specs.Shown.{records_by}
use Rattle.fsd_sound.specs.Sound.{on_disk, IsSuffix, EachStamp, ShowsPages, weak_of}
use Rattle.fsd_sound.proofs.LogPlaces.{IsRecord, SameLog, has_same, scan_records}
use Rattle.fsd_sound.proofs.SoundLaws.{shows_still, each_anchor_after}
use Rattle.fsd_log.specs.declared.slot.Slot.{Slot}
use Rattle.log_thirds.specs.Anchoring.{AnchorsIn, with_anchors}
use Rattle.log_thirds.specs.Append.{IsIndexed, IsLogWorn, LastLiesIn}
use Rattle.log_thirds.specs.LogValue.{LogValue}
use Rattle.fsd_log.specs.Moves.{moved_back, next_third, records_moved}
use Rattle.log_thirds.specs.Moving.{moved_anchor, moved, EndsInLastThird}
use Rattle.fsd_log.specs.Slots.{lies_in, last_slot}
use Rattle.log_thirds.proofs.ImageLaws.{no_last_image}
use Rattle.log_thirds.proofs.MovingLaws.{MayMove, parted, later_first, log_moved}
use Rattle.fsd_log.proofs.MovedLaws.{LiesOn, IsParted, place_back, next_is, next_low, front_slots, slot_of-joined, all_right}
use Rattle.fsd_sound.specs.Stands.{StandsShown}
use Rattle.fsd_sound.proofs.CommuteLaws.{with_same, with_other, worn_or_over, shows_all, both_same, all_shows}
use Rattle.fsd_sound.proofs.CoverLaws.{copies_alike, stand_any}
use Rattle.group_commit.proofs.GivenLaws.{gives_last}
use Rattle.fsd_sound.proofs.HomedLaws.{either_reads}
use Rattle.fsd_sound.specs.Saved.{IsOpen}
use Rattle.fsd_sound.proofs.SavedLaws.{plain_is_open}
use Rattle.fsd_sound.proofs.SectorFacts.{same_bytes}
use Rattle.fsd_sound.proofs.LaidLaws.{all_laid_worn, has_worn}
use Rattle.fsd_sound.proofs.MoveLaws.{IsLater, IsHomedIn, MayMoveOn, anchor_found, moved_stands}
use Rattle.group_commit.specs.Entering.{ShowsDisk, IsHoming, IsEntered, MayHome}
use Rattle.group_commit.proofs.ForceLaws.{is_laid}
use Rattle.group_commit.proofs.HomingLaws.{all_laid_same, narrow, weaker, own_later, shows_now}
use Rattle.group_commit.proofs.StandsLaws.{is_shown, page_shown}
use Rattle.volume_layout.specs.Kinds.{gap_of}

-- ---- what is so of each anchor is so of the one that is taken

of_newer : (P : Anchor → Type 0) (o p : Option Anchor) → IfSome o P → IfSome p P → (x : Anchor) → newer_of o p ≡ Some x → P x
of_newer P None None one two x e = absurd (cc e)
of_newer P None (Some c) one two x e = let same : c ≡ x = cc e in subst P same two
of_newer P (Some b) None one two x e = let same : b ≡ x = cc e in subst P same one
of_newer P (Some b) (Some c) one two x e = by_test (is_newer c b) e
  where
    by_test : (t : Bool) → Some (cond t c b) ≡ Some x → P x
    by_test true e = let same : c ≡ x = cc e in subst P same two
    by_test false e = let same : b ≡ x = cc e in subst P same one

-- ---- the records behind the first third

last_back : (t page : ℕ) (rs : List Placed) → last_image page (map (moved_back t) rs) ≡ last_image page rs
last_back t page [] = refl
last_back t page (r ∷ rs) = ap (λ (o : Option (List ℕ)). option_or o (image_in page r.entry.pages r.entry.images)) (last_back t page rs)

last_joined : (page : ℕ) (front rs : List Placed) → last_image page (front ++ rs) ≡ option_or (last_image page rs) (last_image page front)
last_joined page [] rs = option_or-none (last_image page rs)
last_joined page (r ∷ front) rs =
    ap (λ (o : Option (List ℕ)). option_or o (image_in page r.entry.pages r.entry.images)) (last_joined page front rs)
    ∙ option_or-assoc (last_image page rs) (last_image page front) (image_in page r.entry.pages r.entry.images)

many_of : (l : Layout) (third : ℕ) (rs : List Placed) → AllByRecursion (IsRecord l third) rs → AllByRecursion (λ r. length r.entry.images ≡ length r.entry.pages) rs
many_of l third [] all = tt
many_of l third (r ∷ rs) all = (all.0.images, many_of l third rs all.1)

front_alike : (l : Layout) (t c : Anchor) (weak : Sectors) (i : Image) (r q : Placed) → c.epoch ≡ t.epoch → on_disk l c q ≡ on_disk l t r → HasFront l t weak i r → HasFront l c weak i q
front_alike l t c weak i r q epoch same front =
    let place : place_of l t.third r.at ≡ place_of l c.third q.at = sym (ap (λ (x : Placed). x.at) same) in
    let entry = sym (ap (λ (x : Placed). x.entry) same) in
    record {
      header = subst (λ (s : ℕ). Has weak i (header_bytes (record { epoch = c.epoch; number = q.entry.number }) q.entry.pages) s) place
          (transport_header (place_of l t.third r.at) front.header);
      header_copy = subst (λ (s : ℕ). Has weak i (header_bytes (record { epoch = c.epoch; number = q.entry.number }) q.entry.pages) (s + (2 + (gap_of l)))) place
          (transport_header (place_of l t.third r.at + (2 + (gap_of l))) front.header_copy);
      pages = stand_any l t c weak i (place_of l c.third q.at + 3 + (gap_of l)) _ (subst (λ (s : ℕ). AllStand l t weak i (s + 3 + (gap_of l)) (q.entry.images ++ end_bytes (record { epoch = c.epoch; number = q.entry.number }) (length q.entry.pages) ∷ [])) place
          (subst (λ (x : Rattle.fsd_log.specs.Judged.Logged). AllStand l t weak i (place_of l t.third r.at + 3 + (gap_of l)) (x.images ++ end_bytes (record { epoch = c.epoch; number = x.number }) (length x.pages) ∷ [])) entry
          (subst (λ (n : ℕ). AllStand l t weak i (place_of l t.third r.at + 3 + (gap_of l)) (r.entry.images ++ end_bytes (record { epoch = n; number = r.entry.number }) (length r.entry.pages) ∷ [])) (sym epoch) front.pages)));
    }
  where
    transport_header : (s : ℕ) → Has weak i (header_bytes (record { epoch = t.epoch; number = r.entry.number }) r.entry.pages) s → Has weak i (header_bytes (record { epoch = c.epoch; number = q.entry.number }) q.entry.pages) s
    transport_header s has =
        subst (λ (x : Rattle.fsd_log.specs.Judged.Logged). Has weak i (header_bytes (record { epoch = c.epoch; number = x.number }) x.pages) s) (sym (ap (λ (x : Placed). x.entry) same))
        (subst (λ (n : ℕ). Has weak i (header_bytes (record { epoch = n; number = r.entry.number }) r.entry.pages) s) (sym epoch) has)

module _ (log : LogValue) (records : List Placed) (disk : List (List ℕ)) (windows : List WeakRun) (old : Moment) (may : MayHome log windows old) (ends : EndsInLastThird log) (now : Moment)
    (at : IsHoming log records disk windows old log.layout.pages now) where
  abbrev l : Layout
  l = log.layout

  abbrev weak : Sectors
  weak = weak_of windows

  moves : MayMove log
  moves = record { some = omega (arith, may.shape.least); third = may.shape.third; epoch = may.shape.epoch; number = may.shape.number; ends = ends }

  later_anchor : IsLater log.anchor (moved_anchor log)
  later_anchor = record {
    low = may.shape.third;
    next = next_low log.anchor.third may.shape.third;
    epoch = refl;
    some = may.shape.begun;
    last = may.shape.epoch;
    later = later_first log moves records at.over.indexed.firsts at.image at.over.own.log;
    small = let numbers = may.shape.numbers in omega (arith, numbers.in_order, numbers.most, may.shape.number);
  }

  parts : IsParted log.layout log.anchor.third records
  parts = parted log moves records at.over.indexed.firsts at.image at.over.own.log

  behind_is : records_moved log.layout records ≡ map (moved_back log.layout.third) parts.rest
  behind_is = ap (map (moved_back log.layout.third)) parts.is_later

  on_disk_back : (r : Placed) → LiesOn log.layout log.anchor.third r → log.layout.third ≤ r.at → on_disk log.layout (moved_anchor log) (moved_back log.layout.third r) ≡ on_disk log.layout log.anchor r
  on_disk_back r lies ge = λ k. record { at = place_back log.layout log.anchor.third (next_third log.anchor.third) (next_is log.anchor.third may.shape.third) r lies ge k; entry = r.entry }

  disk_back : (rs : List Placed) → AllByRecursion (LiesOn log.layout log.anchor.third) rs → AllByRecursion (λ r. log.layout.third ≤ r.at) rs
      → map (on_disk log.layout (moved_anchor log)) (map (moved_back log.layout.third) rs) ≡ map (on_disk log.layout log.anchor) rs
  disk_back [] lie behind = refl
  disk_back (r ∷ rs) lie behind = λ k. on_disk_back r lie.0 behind.0 k ∷ disk_back rs lie.1 behind.1 k

  suffix : IsSuffix (map (on_disk log.layout (moved_anchor log)) (records_moved log.layout records)) (map (on_disk log.layout log.anchor) records)
  suffix =
      let same : map (on_disk log.layout (moved_anchor log)) (records_moved log.layout records) ≡ map (on_disk log.layout log.anchor) parts.rest =
      ap (map (on_disk log.layout (moved_anchor log))) behind_is ∙ disk_back parts.rest parts.lie_rest parts.behind in (
        map (on_disk log.layout log.anchor) parts.front,
        ap (map (on_disk log.layout log.anchor)) parts.joined ∙ map-append (on_disk log.layout log.anchor) parts.front parts.rest
            ∙ ap (λ (x : List Placed). map (on_disk log.layout log.anchor) parts.front ++ x) (sym same),
      )

  laid_back : (i : Image) (rs : List Placed) → AllByRecursion (LiesOn log.layout log.anchor.third) rs → AllByRecursion (λ r. log.layout.third ≤ r.at) rs → AllLaid log.layout log.anchor (weak_of windows) i rs
      → AllLaid log.layout (moved_anchor log) (weak_of windows) i (map (moved_back log.layout.third) rs)
  laid_back i [] lie behind laid = tt
  laid_back i (r ∷ rs) lie behind laid =
      let same = on_disk_back r lie.0 behind.0 in (
        (
          front_alike log.layout log.anchor (moved_anchor log) (weak_of windows) i r (moved_back log.layout.third r) refl same laid.0.0,
          copies_alike log.layout log.anchor (moved_anchor log) (weak_of windows) i r (moved_back log.layout.third r) refl same laid.0.1,
        ),
        laid_back i rs lie.1 behind.1 laid.1,
      )

  laid_moved : (i : Image) → AllLaid log.layout log.anchor (weak_of windows) i records → AllLaid log.layout (moved_anchor log) (weak_of windows) i (records_moved log.layout records)
  laid_moved i laid = subst (AllLaid log.layout (moved_anchor log) (weak_of windows) i) (sym behind_is)
      (laid_back i parts.rest parts.lie_rest parts.behind
      (all_right (λ r. HasFront log.layout log.anchor (weak_of windows) i r × HasCopies log.layout log.anchor (weak_of windows) i r) parts.front parts.rest (subst (AllLaid log.layout log.anchor (weak_of windows) i) parts.joined laid)))

  rest_last : (page : ℕ) → last_image page (records_moved log.layout records) ≡ last_image page parts.rest
  rest_last page = ap (last_image page) behind_is ∙ last_back log.layout.third page parts.rest

  all_last : (page : ℕ) → last_image page records ≡ option_or (last_image page parts.rest) (last_image page parts.front)
  all_last page = ap (last_image page) parts.joined ∙ last_joined page parts.front parts.rest

  -- ---- a page that only the first third has

  records_e : records_by log.layout at.image log.anchor ≡ records
  records_e = ap (λ (w : Walked). w.records) at.over.own.log.scanned

  no_slot_behind : (page : ℕ) → last_image page parts.rest ≡ None → last_slot log.layout log.anchor.third page parts.rest ≡ None
  no_slot_behind page none = by_slot (last_slot log.layout log.anchor.third page parts.rest) refl
    where
      by_slot : (o : Option Slot) → last_slot log.layout log.anchor.third page parts.rest ≡ o → o ≡ None
      by_slot None is = refl
      by_slot (Some s) is =
          let are = all_right (IsRecord log.layout log.anchor.third) parts.front parts.rest (subst (AllByRecursion (IsRecord log.layout log.anchor.third)) (records_e ∙ parts.joined) (scan_records log.layout at.image log.anchor may.shape.third)) in
          let laid = all_right (λ r. HasFront log.layout log.anchor (weak_of windows) at.image r × HasCopies log.layout log.anchor (weak_of windows) at.image r) parts.front parts.rest (subst (AllLaid log.layout log.anchor (weak_of windows) at.image) parts.joined at.over.own.laid) in
          let gives = gives_last log.layout log.anchor (weak_of windows) at.image page parts.rest s are laid is in
          let last = gives.last in
          absurd (cc (none, last))

  lies_first : (page : ℕ) (x : List ℕ) → last_image page parts.rest ≡ None → last_image page records ≡ Some x → LastLiesIn log records log.anchor.third page
  lies_first page x none is = ap (lies_in (third_start log.layout log.anchor.third) log.layout.third) slots ∙ by_slot (last_slot log.layout log.anchor.third page parts.front) refl
      (front_slots log.layout log.anchor.third (next_third log.anchor.third) may.shape.third (next_is log.anchor.third may.shape.third) page parts.front parts.lie_front parts.before)
    where
      slots : last_slot log.layout log.anchor.third page records ≡ last_slot log.layout log.anchor.third page parts.front
      slots = ap (last_slot log.layout log.anchor.third page) parts.joined ∙ slot_of-joined log.layout log.anchor.third page parts.front parts.rest
          ∙ ap (λ (o : Option Slot). option_or o (last_slot log.layout log.anchor.third page parts.front)) (no_slot_behind page none)

      front_has : last_image page parts.front ≡ Some x
      front_has = sym (all_last page ∙ ap (λ (o : Option (List ℕ)). option_or o (last_image page parts.front)) none) ∙ is

      by_slot : (o : Option Slot) → last_slot log.layout log.anchor.third page parts.front ≡ o → IfSome o (λ s. lies_in (third_start log.layout log.anchor.third) log.layout.third (Some s) ≡ true) → lies_in (third_start log.layout log.anchor.third) log.layout.third o ≡ true
      by_slot None absent lies = let nothing = no_last_image log.layout log.anchor.third page parts.front absent in absurd (cc (nothing, front_has))
      by_slot (Some s) found lies = lies

  -- ---- each image that this one may be worn to

  module _ (i : Image) (w : IsWorn (weak_of windows) at.image i) where
    own_i : HasOwnLog log.layout log.anchor records log.head (weak_of windows) i
    own_i = own_later log records disk windows old may at.image i at.over w

    stands_i : StandsShown log.layout (weak_of windows) (disk ∷ []) i
    stands_i = shows_all log.layout windows (narrow log records disk windows old may) (disk ∷ []) at.image at.over.shows i w

    over_i : StandsOver log.layout log.anchor log.head records disk disk [] windows i
    over_i = record {
      shows = shows_still log.layout windows (narrow log records disk windows old may) (disk ∷ []) at.image i w at.over.shows;
      own = own_i;
      clean = record { size = refl; each = λ page out. refl };
    }

    shown_i : (anchor_of i ≡ Some log.anchor) × (Rattle.fsd_sound.specs.Shown.shown_by log.layout i log.anchor ≡ Some disk)
    shown_i = is_shown log.layout log.anchor log.head records disk disk [] windows i over_i

    records_i : records_by log.layout i log.anchor ≡ records
    records_i = ap (λ (x : Walked). x.records) own_i.log.scanned

    behind_i : records_by log.layout i (moved_anchor log) ≡ records_moved log.layout records
    behind_i = ap (λ (x : Walked). x.records) (log_moved log moves records at.over.indexed.firsts i own_i.log).scanned

    taken : (P : Anchor → Type 0) → EachAnchor i P → P log.anchor
    taken P each = of_newer P (anchor_at i 8) (anchor_at i 12) each.0 each.1 log.anchor shown_i.0

    home_i : (page : ℕ) → page < log.layout.pages → LastLiesIn log records log.anchor.third page → home_of log.layout i page ≡ Some (image_at disk page)
    home_i page lt lies =
        let home = at.done page lt lt lies in
        let bounds = planned_bounds log.layout may.planned in
        either_reads (image_at disk page) (weak_of windows (home_a log.layout page)) (weak_of windows (home_b log.layout page)) (sector_at at.image (home_a log.layout page)) (sector_at at.image (home_b log.layout page)) (sector_at i (home_a log.layout page)) (sector_at i (home_b log.layout page))
        (narrow log records disk windows old may (home_a log.layout page) (home_b log.layout page) (omega (arith, bounds.pages_least))) (w.each (home_a log.layout page)) (w.each (home_b log.layout page)) home.0 home.1

    -- what the log has of a page is what is shown
    image_i : (page : ℕ) (x : List ℕ) → page < log.layout.pages → last_image page records ≡ Some x → Some (image_at disk page) ≡ Some x
    image_i page x lt is = sym (page_shown log.layout log.anchor log.head records disk disk [] windows i over_i page lt) ∙ ap (λ (o : Option (List ℕ)). option_or o (home_of log.layout i page)) is

    homed_i : (page : ℕ) → page < log.layout.pages → IsHomedIn log.layout records (records_moved log.layout records) i page
    homed_i page lt = record {
      keeps = λ x is. all_last page ∙ ap (λ (o : Option (List ℕ)). option_or o (last_image page parts.front)) (sym (rest_last page) ∙ is);
      home = λ x none is. home_i page lt (lies_first page x (sym (rest_last page) ∙ none) is) ∙ image_i page x lt is;
      alike = λ z none is x y first second.
          let home = at.done page lt lt (lies_first page z (sym (rest_last page) ∙ none) is) in
          same_bytes (sector_at at.image (home_a log.layout page)) (image_at disk page) x home.0 (worn_whole (weak_of windows) at.image i (home_a log.layout page) x w first)
          ∙ sym (same_bytes (sector_at at.image (home_b log.layout page)) (image_at disk page) y home.1 (worn_whole (weak_of windows) at.image i (home_b log.layout page) y w second));
    }

    may_i : MayMoveOn log.layout log.anchor (moved_anchor log) records (records_moved log.layout records) disk (weak_of windows) i
    may_i = record {
      later = later_anchor;
      roots = own_i.roots;
      own = own_i.own;
      records = records_i;
      behind = behind_i;
      suffix = suffix;
      laid = is_laid log.layout log.anchor (weak_of windows) i records (many_of log.layout log.anchor.third records (subst (AllByRecursion (IsRecord log.layout log.anchor.third)) records_i (scan_records log.layout i log.anchor may.shape.third))) own_i.laid;
      laid_behind = is_laid log.layout (moved_anchor log) (weak_of windows) i (records_moved log.layout records)
          (many_of log.layout (next_third log.anchor.third) (records_moved log.layout records) (subst (AllByRecursion (IsRecord log.layout (next_third log.anchor.third))) behind_i (scan_records log.layout i (moved_anchor log) (next_low log.anchor.third may.shape.third))))
          (laid_moved i own_i.laid);
      stamps = taken (λ a. EachStamp log.layout i (λ stamp. stamp.epoch ≤ a.epoch)) stands_i.anchors.epochs;
      shown = shown_i.1;
      homed = homed_i;
      alike = λ page lt none. taken (λ a. (page : ℕ) → page < log.layout.pages → last_image page (records_by log.layout i a) ≡ None → (x y : List ℕ) → sector_at i (home_a log.layout page) ≡ Whole x → sector_at i (home_b log.layout page) ≡ Whole y → x ≡ y) stands_i.homes page lt (ap (last_image page) records_i ∙ none);
    }

  -- ---- with the anchors written

  room : 16 ≤ length at.image
  room = let bounds = planned_bounds log.layout may.planned in omega (arith, bounds.third_least, bounds.sectors_least, at.over.shows.readable.roots.fits)

  bytes_long : length (anchor_bytes (moved_anchor log)) ≡ 512
  bytes_long = refl

  one : Image
  one = with_sector at.image 8 (anchor_bytes (moved_anchor log))

  two : Image
  two = with_sector (with_sector at.image 8 (anchor_bytes (moved_anchor log))) 12 (anchor_bytes (moved_anchor log))

  long_one : length (with_sector at.image 8 (anchor_bytes (moved_anchor log))) ≡ length at.image
  long_one = length-set at.image 8 (Whole (anchor_bytes (moved_anchor log)))

  stands_one : (j : Image) → IsWorn (weak_of windows) (with_sector at.image 8 (anchor_bytes (moved_anchor log))) j → StandsShown log.layout (weak_of windows) (disk ∷ []) j
  stands_one j w = ⊎_elim (λ worn. stands_i j worn)
      (λ over. subst (StandsShown log.layout (weak_of windows) (disk ∷ [])) (sym over.is)
      (moved_stands log.layout log.anchor (moved_anchor log) records (records_moved log.layout records) disk (weak_of windows) over.under (may_i over.under over.worn) (stands_i over.under over.worn)
      (with_sector over.under 8 (anchor_bytes (moved_anchor log))) (length-set over.under 8 (Whole (anchor_bytes (moved_anchor log)))) (λ s a b. with_other over.under 8 s (anchor_bytes (moved_anchor log)) a)
      (inr (with_same over.under 8 (anchor_bytes (moved_anchor log)) (omega (arith, room, over.worn.size)))) (inl (with_other over.under 8 12 (anchor_bytes (moved_anchor log)) (λ e. omega (arith, e))))
      (inl (with_same over.under 8 (anchor_bytes (moved_anchor log)) (omega (arith, room, over.worn.size))))))
      (worn_or_over (weak_of windows) at.image j 8 (anchor_bytes (moved_anchor log)) (omega (arith, room)) w)

  -- the second anchor over an image worn from that with the first
  stands_over : (under : Image) → IsWorn (weak_of windows) (with_sector at.image 8 (anchor_bytes (moved_anchor log))) under → StandsShown log.layout (weak_of windows) (disk ∷ []) (with_sector under 12 (anchor_bytes (moved_anchor log)))
  stands_over under w = ⊎_elim
      (λ worn. moved_stands log.layout log.anchor (moved_anchor log) records (records_moved log.layout records) disk (weak_of windows) under (may_i under worn) (stands_i under worn)
      (with_sector under 12 (anchor_bytes (moved_anchor log))) (length-set under 12 (Whole (anchor_bytes (moved_anchor log)))) (λ s a b. with_other under 12 s (anchor_bytes (moved_anchor log)) b)
      (inl (with_other under 12 8 (anchor_bytes (moved_anchor log)) (λ e. omega (arith, e)))) (inr (with_same under 12 (anchor_bytes (moved_anchor log)) (omega (arith, room, worn.size))))
      (inr (with_same under 12 (anchor_bytes (moved_anchor log)) (omega (arith, room, worn.size)))))
      (λ over. subst (λ (x : Image). StandsShown log.layout (weak_of windows) (disk ∷ []) (with_sector x 12 (anchor_bytes (moved_anchor log)))) (sym over.is)
      (both over.under over.worn)) (worn_or_over (weak_of windows) at.image under 8 (anchor_bytes (moved_anchor log)) (omega (arith, room)) w)
    where
      both : (k : Image) → IsWorn (weak_of windows) at.image k → StandsShown log.layout (weak_of windows) (disk ∷ []) (with_sector (with_sector k 8 (anchor_bytes (moved_anchor log))) 12 (anchor_bytes (moved_anchor log)))
      both k worn =
          let first = with_sector k 8 (anchor_bytes (moved_anchor log)) in
          let long : length first ≡ length k = length-set k 8 (Whole (anchor_bytes (moved_anchor log))) in
          let eight : sector_at (with_sector first 12 (anchor_bytes (moved_anchor log))) 8 ≡ Whole (anchor_bytes (moved_anchor log)) =
          with_other first 12 8 (anchor_bytes (moved_anchor log)) (λ e. omega (arith, e)) ∙ with_same k 8 (anchor_bytes (moved_anchor log)) (omega (arith, room, worn.size)) in
          moved_stands log.layout log.anchor (moved_anchor log) records (records_moved log.layout records) disk (weak_of windows) k (may_i k worn) (stands_i k worn)
          (with_sector first 12 (anchor_bytes (moved_anchor log))) (length-set first 12 (Whole (anchor_bytes (moved_anchor log))) ∙ long)
          (λ s a b. with_other first 12 s (anchor_bytes (moved_anchor log)) b ∙ with_other k 8 s (anchor_bytes (moved_anchor log)) a)
          (inr eight) (inr (with_same first 12 (anchor_bytes (moved_anchor log)) (omega (arith, room, worn.size, long)))) (inl eight)

  stands_two : (j : Image) → IsWorn (weak_of windows) (with_sector (with_sector at.image 8 (anchor_bytes (moved_anchor log))) 12 (anchor_bytes (moved_anchor log))) j → StandsShown log.layout (weak_of windows) (disk ∷ []) j
  stands_two j w = ⊎_elim (λ worn. stands_one j worn)
      (λ over. subst (StandsShown log.layout (weak_of windows) (disk ∷ [])) (sym over.is) (stands_over over.under over.worn))
      (worn_or_over (weak_of windows) (with_sector at.image 8 (anchor_bytes (moved_anchor log))) j 12 (anchor_bytes (moved_anchor log)) (omega (arith, room, long_one)) w)

  -- some anchors were written
  record Part (e : Image) : Type 0 where
    shows : ShowsPages log.layout windows (disk ∷ []) e
    same : (s : ℕ) → (s ≡ 8 → ⊥) → (s ≡ 12 → ⊥) → sector_at e s ≡ sector_at at.image s
    opened : IsOpen e

  -- a moved anchor does not say that its volume was closed
  open_one : IsOpen (with_sector at.image 8 (anchor_bytes (moved_anchor log)))
  open_one = (
    plain_is_open (with_sector at.image 8 (anchor_bytes (moved_anchor log))) 8 (moved_anchor log) (with_same at.image 8 (anchor_bytes (moved_anchor log)) (omega (arith, room))),
    ap (λ (x : Sector). option_and_then read_closed (bytes_of x)) (with_other at.image 8 12 (anchor_bytes (moved_anchor log)) (λ e. omega (arith, e))) ∙ at.over.own.opened.1,
  )

  open_two : IsOpen (with_sector (with_sector at.image 8 (anchor_bytes (moved_anchor log))) 12 (anchor_bytes (moved_anchor log)))
  open_two = (
    ap (λ (x : Sector). option_and_then read_closed (bytes_of x)) (with_other (with_sector at.image 8 (anchor_bytes (moved_anchor log))) 12 8 (anchor_bytes (moved_anchor log)) (λ e. omega (arith, e))) ∙ open_one.0,
    plain_is_open (with_sector (with_sector at.image 8 (anchor_bytes (moved_anchor log))) 12 (anchor_bytes (moved_anchor log))) 12 (moved_anchor log)
        (with_same (with_sector at.image 8 (anchor_bytes (moved_anchor log))) 12 (anchor_bytes (moved_anchor log)) (omega (arith, room, long_one))),
  )

  two_is : with_anchors (moved_anchor log) at.image 1 1 ≡ with_sector (with_sector at.image 8 (anchor_bytes (moved_anchor log))) 12 (anchor_bytes (moved_anchor log))
  two_is = ap (λ (i : Image). stand i 12 (anchor_bytes (moved_anchor log)) 1) (stand_one at.image 8 (anchor_bytes (moved_anchor log)) bytes_long) ∙ stand_one (with_sector at.image 8 (anchor_bytes (moved_anchor log))) 12 (anchor_bytes (moved_anchor log)) bytes_long

  same_two : (s : ℕ) → (s ≡ 8 → ⊥) → (s ≡ 12 → ⊥) → sector_at (with_sector (with_sector at.image 8 (anchor_bytes (moved_anchor log))) 12 (anchor_bytes (moved_anchor log))) s ≡ sector_at at.image s
  same_two s first second = with_other (with_sector at.image 8 (anchor_bytes (moved_anchor log))) 12 s (anchor_bytes (moved_anchor log)) second ∙ with_other at.image 8 s (anchor_bytes (moved_anchor log)) first

  part : (first copy : ℕ) → copy ≤ first → first ≤ 1 → Part (with_anchors (moved_anchor log) at.image first copy)
  part zero zero le once = record { shows = at.over.shows; same = λ s first second. refl; opened = at.over.own.opened }
  part zero (suc k) le once = absurd (omega (arith, le))
  part (suc zero) zero le once = subst Part (sym (stand_one at.image 8 (anchor_bytes (moved_anchor log)) bytes_long))
      (record { shows = all_shows log.layout windows at.over.shows.readable.borne (disk ∷ []) (with_sector at.image 8 (anchor_bytes (moved_anchor log))) (both_same log.layout windows (disk ∷ []) at.image (with_sector at.image 8 (anchor_bytes (moved_anchor log))) at.over.shows (omega (arith, length-set at.image 8 (Whole (anchor_bytes (moved_anchor log))))) (λ s head. with_other at.image 8 s (anchor_bytes (moved_anchor log)) (λ e. omega (arith, e, head))) (λ was. open_one)) stands_one; same = λ s first second. with_other at.image 8 s (anchor_bytes (moved_anchor log)) first; opened = open_one })
  part (suc zero) (suc zero) le once = subst Part (sym two_is)
      (record { shows = all_shows log.layout windows at.over.shows.readable.borne (disk ∷ []) (with_sector (with_sector at.image 8 (anchor_bytes (moved_anchor log))) 12 (anchor_bytes (moved_anchor log))) (both_same log.layout windows (disk ∷ []) at.image (with_sector (with_sector at.image 8 (anchor_bytes (moved_anchor log))) 12 (anchor_bytes (moved_anchor log))) at.over.shows (omega (arith, length-set at.image 8 (Whole (anchor_bytes (moved_anchor log))), length-set (with_sector at.image 8 (anchor_bytes (moved_anchor log))) 12 (Whole (anchor_bytes (moved_anchor log))))) (λ s head. same_two s (λ e. omega (arith, e, head)) (λ e. omega (arith, e, head))) (λ was. open_two)) stands_two; same = same_two; opened = open_two })
  part (suc zero) (suc (suc k)) le once = absurd (omega (arith, le))
  part (suc (suc j)) k le once = absurd (omega (arith, once))

  holds_anchors : (left : Moment) (first copy : ℕ) → Holds now (with_anchors (moved_anchor log) now.image first copy) left → Holds old (with_anchors (moved_anchor log) at.image first copy) left
  holds_anchors left first copy holds = over_two old now left at.image 8 12 (anchor_bytes (moved_anchor log)) first copy at.holds holds

  anchors_long : (first copy : ℕ) → length (with_anchors (moved_anchor log) at.image first copy) ≡ length old.image
  anchors_long first copy =
      length-stand (stand at.image 8 (anchor_bytes (moved_anchor log)) first) 12 (anchor_bytes (moved_anchor log)) copy
      ∙ length-stand at.image 8 (anchor_bytes (moved_anchor log)) first ∙ at.size

  pub moving_shows : (left : Moment) → AnchorsIn (moved_anchor log) now left → ShowsDisk log.layout windows disk old left
  moving_shows left anchors =
      let is = part anchors.first anchors.copy anchors.in_order anchors.once in
      shows_now log records disk windows old may (with_anchors (moved_anchor log) at.image anchors.first anchors.copy) left (holds_anchors left anchors.first anchors.copy anchors.holds) is.shows (anchors_long anchors.first anchors.copy)
      (λ s out. is.same s (λ e. out (inr (inl (inl e)))) (λ e. out (inr (inl (inr e)))) ∙ at.outside s out) is.opened

  module _ (left : Moment) (holds : Holds now (with_anchors (moved_anchor log) now.image 1 1) left) where
    worn_two : IsWorn (weak_of windows) (with_sector (with_sector at.image 8 (anchor_bytes (moved_anchor log))) 12 (anchor_bytes (moved_anchor log))) left.image
    worn_two = weaker log records disk windows old may _ left.image (subst (λ (i : Image). Holds old i left) two_is (holds_anchors left 1 1 holds)).worn

    found : (s : ℕ) → sector_at (with_sector (with_sector at.image 8 (anchor_bytes (moved_anchor log))) 12 (anchor_bytes (moved_anchor log))) s ≡ Whole (anchor_bytes (moved_anchor log))
        → IfSome (anchor_at (with_sector (with_sector at.image 8 (anchor_bytes (moved_anchor log))) 12 (anchor_bytes (moved_anchor log))) s) (λ a. a ≡ moved_anchor log)
    found s has = subst (λ (o : Option Anchor). IfSome o (λ a. a ≡ moved_anchor log))
        (sym (anchor_found (moved_anchor log) (with_sector (with_sector at.image 8 (anchor_bytes (moved_anchor log))) 12 (anchor_bytes (moved_anchor log))) s later_anchor.next later_anchor.some later_anchor.last (omega (arith, later_anchor.later)) later_anchor.small has)) refl

    own_two : EachAnchor left.image (λ a. a ≡ moved_anchor log)
    own_two = each_anchor_after (weak_of windows) (with_sector (with_sector at.image 8 (anchor_bytes (moved_anchor log))) 12 (anchor_bytes (moved_anchor log))) left.image worn_two (λ a. a ≡ moved_anchor log) (λ a. a ≡ moved_anchor log) (λ a is. is) (
      found 8 (with_other (with_sector at.image 8 (anchor_bytes (moved_anchor log))) 12 8 (anchor_bytes (moved_anchor log)) (λ e. omega (arith, e)) ∙ with_same at.image 8 (anchor_bytes (moved_anchor log)) (omega (arith, room))),
      found 12 (with_same (with_sector at.image 8 (anchor_bytes (moved_anchor log))) 12 (anchor_bytes (moved_anchor log)) (omega (arith, room, long_one))),
    )

    same_log : SameLog log.layout at.image (with_sector (with_sector at.image 8 (anchor_bytes (moved_anchor log))) 12 (anchor_bytes (moved_anchor log)))
    same_log s within = let from = within.0 in same_two s (λ e. omega (arith, e, from)) (λ e. omega (arith, e, from))

    root_two : (s : ℕ) → s < 8 → Has (weak_of windows) at.image (root_bytes log.layout) s → Has (weak_of windows) left.image (root_bytes log.layout) s
    root_two s head has =
        has_worn (weak_of windows) (with_sector (with_sector at.image 8 (anchor_bytes (moved_anchor log))) 12 (anchor_bytes (moved_anchor log))) left.image (root_bytes log.layout) s worn_two
        (has_same log.layout log.anchor (weak_of windows) at.image (with_sector (with_sector at.image 8 (anchor_bytes (moved_anchor log))) 12 (anchor_bytes (moved_anchor log))) (root_bytes log.layout) s (same_two s (λ e. omega (arith, e, head)) (λ e. omega (arith, e, head))) has)

    pub entered : IsLogWorn (moved log) (records_moved log.layout records) left → IsIndexed (moved log) (records_moved log.layout records) → IsEntered log records disk windows old left
    entered log_worn indexed =
        let shows = moving_shows left (record { first = 1; copy = 1; in_order = omega arith; once = omega arith; holds = holds }) in
        let are = subst (AllByRecursion (IsRecord log.layout (next_third log.anchor.third))) (behind_i at.image (worn_refl (weak_of windows) at.image)) (scan_records log.layout at.image (moved_anchor log) (next_low log.anchor.third may.shape.third)) in
        record {
          over = record {
            shows = shows.shows;
            own = record {
              roots = (root_two 0 (omega arith) at.over.own.roots.0, root_two 4 (omega arith) at.over.own.roots.1);
              own = own_two;
              opened = shows.opened;
              log = log_worn left.image (worn_refl (open_damage left.windows) left.image);
              laid = all_laid_worn log.layout (moved_anchor log) (weak_of windows) (with_sector (with_sector at.image 8 (anchor_bytes (moved_anchor log))) 12 (anchor_bytes (moved_anchor log))) left.image (records_moved log.layout records) worn_two
                  (all_laid_same log.layout (moved_anchor log) (weak_of windows) at.image (with_sector (with_sector at.image 8 (anchor_bytes (moved_anchor log))) 12 (anchor_bytes (moved_anchor log))) same_log (records_moved log.layout records) are (laid_moved at.image at.over.own.laid));
            };
            indexed = indexed;
          };
          outside = shows.outside;
        }
