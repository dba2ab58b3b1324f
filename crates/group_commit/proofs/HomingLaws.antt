-- The pages whose last images lie in the log's first third are written home, one after another.
use Rattle.std.proofs.Common.{◌≡◌, ◌≢◌, ◌⊎◌, inl, inr, ⊎_elim, ℕ, zero, suc, ◌+◌, ◌*◌, ◌<◌, ◌≤◌, List, [], ◌∷◌, length, Option, Some, None, refl, sym, ap, subst, ◌∙◌, arith}
use Rattle.std.specs.Prelude.{IfSome}
use Rattle.std.specs.List.{AllByRecursion}
use Rattle.std.proofs.lemmas.List.{length-set}
use Rattle.std.proofs.lemmas.Bool.{cases_lt}
use Rattle.volume_layout.specs.declared.layout.Layout.{Layout}
use Rattle.volume_layout.specs.Layout.{home_a, home_b}
use Rattle.volume_layout.specs.Root.{root_bytes}
use Rattle.volume_layout.proofs.RootLaws.{planned_bounds}
use Rattle.fsd_formats.specs.declared.anchor.Anchor.{Anchor}
use Rattle.sector_disk.specs.declared.machine.LoadFault.{LoadFault}
use Rattle.sector_disk.specs.declared.machine.LoadFault.TheVariants as load
use Rattle.sector_disk.specs.declared.sector.Sector.TheVariants.{Whole}
use Rattle.sector_disk.specs.declared.sector.WeakRun.{WeakRun}
use Rattle.sector_disk.specs.Damage.{IsDevice, LostCause}
use Rattle.sector_disk.specs.Image.{Windows, sector_at, with_sector, stand, IsWorn, open_damage}
use Rattle.sector_disk.specs.Machine.{Moment, Holds, Wears}
use Rattle.sector_disk.proofs.Calm.{stand_one}
use Rattle.sector_disk.proofs.Holding.{holds_now, holds_wears, over_two}
use Rattle.sector_disk.proofs.Wear.{worn_trans}
use Rattle.fsd_log.specs.Images.{last_image}
use Rattle.fsd_log.specs.Scan.{Head, Placed, Walked, IsLog, start, tape}
use Rattle.fsd_files.specs.Disk.{Image, Sectors, bytes_at, bytes_of}
use Rattle.fsd_sound.specs.Laid.{HasOwnLog, AllLaid}
use Rattle.fsd_sound.specs.Mounted.{image_at}
use Rattle.fsd_sound.specs.Shown.{records_by, newest}
use Rattle.fsd_sound.specs.Sound.{ShowsPages, weak_of}
use Rattle.fsd_sound.proofs.LogPlaces.{SameLog, IsRecord, has_same, same_tape, front_same, copies_same, in_record, goes_records, scan_goes, start_in}
use Rattle.fsd_sound.proofs.SoundLaws.{shows_still}
use Rattle.fsd_sound.proofs.WindowLaws.{open_is_weak}
use Rattle.log_thirds.specs.Append.{IsLogWorn, LastLiesIn}
use Rattle.log_thirds.specs.Images.{AreLogged, StandsInSlot}
use Rattle.fsd_log.specs.Slots.{LiesAt, last_slot}
use Rattle.log_thirds.specs.LogValue.{LogValue}
use Rattle.fsd_sound.specs.Homes.{home_of, IsAtHome}
use Rattle.group_commit.proofs.StandsLaws.{page_shown}
use Rattle.std.specs.Option.{option_or}
use Rattle.log_thirds.proofs.ImageLaws.{logged_by}
use Rattle.twin_home.specs.Home.{HomesIn}
use Rattle.fsd_sound.specs.Windows.{IsNarrow}
use Rattle.fsd_sound.specs.Logged.{IsLogged}
use Rattle.fsd_sound.proofs.CommuteLaws.{with_same, with_other}
use Rattle.group_commit.proofs.GivenLaws.{given_is, never_lost}
use Rattle.fsd_sound.specs.Saved.{IsOpen}
use Rattle.fsd_sound.proofs.SavedLaws.{closes_none, stays_open, worn_closes}
use Rattle.fsd_sound.proofs.LaidLaws.{own_worn}
use Rattle.fsd_sound.proofs.MendLaws.{logged_shows}
use Rattle.fsd_sound.proofs.AlikeLaws.{log_same, each_same}
use Rattle.group_commit.specs.Force.{MayWrite}
use Rattle.group_commit.specs.Entering.{ShowsDisk, OwnsLog, IsHoming, MayHome}
use Rattle.volume_layout.proofs.KindLaws.{gap_most}

-- ---- where only homes are written the log stays

module _ (l : Layout) (a : Anchor) (weak : Sectors) (i j : Image) (same : SameLog l i j) where
  pub all_laid_same : (rs : List Placed) → AllByRecursion (IsRecord l a.third) rs → AllLaid l a weak i rs → AllLaid l a weak j rs
  all_laid_same [] are laid = tt
  all_laid_same (r ∷ rs) are laid = (
    (front_same l a weak i j r are.0 (in_record l a weak i j same r are.0) laid.0.0, copies_same l a weak i j r are.0 (in_record l a weak i j same r are.0) laid.0.1),
    all_laid_same rs are.1 laid.1,
  )

pub own_same : (l : Layout) (a : Anchor) (weak : Sectors) (i j : Image) → ((s : ℕ) → s < 16 + 3 * l.third → sector_at j s ≡ sector_at i s) → a.third ≤ 2 → (records : List Placed) (head : Head)
    → HasOwnLog l a records head weak i → HasOwnLog l a records head weak j
own_same l a weak i j front low records head own =
    let same : SameLog l i j = log_same l i j (λ s from lt. front s lt) in
    let are : AllByRecursion (IsRecord l a.third) records =
    subst (λ (w : Walked). AllByRecursion (IsRecord l a.third) w.records) own.log.scanned
    (goes_records l a.epoch a.third low (tape l a.third (bytes_at i)) (start l a.first) _ _ (start_in l a.first) (scan_goes l a.epoch a.first (tape l a.third (bytes_at i)))) in
    record {
      roots = (has_same l a weak i j (root_bytes l) 0 (front 0 (omega arith)) own.roots.0, has_same l a weak i j (root_bytes l) 4 (front 4 (omega arith)) own.roots.1);
      own = each_same l i j (λ s from lt. front s lt) (λ b. b ≡ a) (λ b. b ≡ a) (λ b low is. is) own.own;
      opened = stays_open i j (closes_none i j (λ bytes there. ap bytes_of (sym (front 8 (omega arith))) ∙ there) (λ bytes there. ap bytes_of (sym (front 12 (omega arith))) ∙ there)) own.opened;
      log = subst (λ t. IsLog l a.epoch a.first t records head) (sym (same_tape l i j same a.third low)) own.log;
      laid = all_laid_same l a weak i j same records are own.laid;
    }

module _ (log : LogValue) (records : List Placed) (disk : List (List ℕ)) (windows : List WeakRun) (old : Moment) (may : MayHome log windows old) where
  abbrev l : Layout
  l = log.layout

  pub narrow : IsNarrow (weak_of windows)
  narrow s t far a b = may.apart s t (omega (arith, far, gap_most log.layout)) a b

  pub weaker : (i j : Image) → IsWorn (open_damage old.windows) i j → IsWorn (weak_of windows) i j
  weaker i j w = open_is_weak old.windows windows i j may.ends w

  pub scanned : (i : Image) → OwnsLog log records disk windows i → records_by log.layout i log.anchor ≡ records
  scanned i over = ap (λ (w : Walked). w.records) over.own.log.scanned

  pub own_later : (i j : Image) → OwnsLog log records disk windows i → IsWorn (weak_of windows) i j → HasOwnLog log.layout log.anchor records log.head (weak_of windows) j
  own_later i j over w = own_worn log.layout (omega (arith, may.shape.pages)) log.anchor may.shape.epoch may.shape.third (weak_of windows) may.apart i j w records log.head over.own

  -- a page of the log is in the log of each anchor
  is_logged : (i : Image) → OwnsLog log records disk windows i → (page : ℕ) → (last_image page records ≡ None → ⊥) → IsLogged log.layout (weak_of windows) page i
  is_logged i over page logged = λ j w.
      let own = own_later i j over w in
      let same : records_by log.layout j log.anchor ≡ records = ap (λ (x : Walked). x.records) own.log.scanned in
      let of : (o : Option Anchor) → IfSome o (λ b. b ≡ log.anchor) → IfSome o (λ b. last_image page (records_by log.layout j b) ≡ None → ⊥) =
      λ o. elim o as (λ o. IfSome o (λ b. b ≡ log.anchor) → IfSome o (λ b. last_image page (records_by log.layout j b) ≡ None → ⊥)) [
        | None ↦ λ mine. tt
        | Some b ↦ λ mine. subst (λ (x : Anchor). last_image page (records_by log.layout j x) ≡ None → ⊥) (sym mine) (λ none. logged (ap (last_image page) (sym same) ∙ none))
      ] in
      (of _ own.own.0, of _ own.own.1)

  -- what the log has of a page is what is shown
  pub image_is : (i : Image) → OwnsLog log records disk windows i → (page : ℕ) (bytes : List ℕ) → page < log.layout.pages → last_image page records ≡ Some bytes → bytes ≡ image_at disk page
  image_is i over page bytes lt is =
      let shown : newest log.layout i records page ≡ Some (image_at disk page) =
      page_shown log.layout log.anchor log.head records disk disk [] windows i (record { shows = over.shows; own = over.own; clean = record { size = refl; each = λ page out. refl } }) page lt in
      let e : Some bytes ≡ Some (image_at disk page) = ap (λ (o : Option (List ℕ)). option_or o (home_of log.layout i page)) (sym is) ∙ shown in
      cc

  pub begin : OwnsLog log records disk windows old.image → IsHoming log records disk windows old 0 old
  begin over = record { image = old.image; holds = holds_now old; over = over; done = λ page lt. absurd (omega (arith, lt)); size = refl; outside = λ s out. refl }

  pub shows_now : (e : Image) (left : Moment) → Holds old e left → ShowsPages log.layout windows (disk ∷ []) e → length e ≡ length old.image → ((s : ℕ) → (MayWrite log.layout s → ⊥) → sector_at e s ≡ sector_at old.image s) → IsOpen e → ShowsDisk log.layout windows disk old left
  shows_now e left holds shows size outside opened = record {
    shows = shows_still log.layout windows narrow (disk ∷ []) e left.image (weaker e left.image holds.worn) shows;
    outside = record { size = holds.worn.size ∙ size; others = λ s out. ⊎_elim (λ same. inl (same ∙ outside s out)) (λ hurt. inr hurt) (holds.worn.each s) };
    opened = stays_open e left.image (worn_closes (open_damage old.windows) e left.image holds.worn) opened;
    windows = holds.windows;
    said = holds.said;
  }

  module _ (n : ℕ) (now : Moment) (at : IsHoming log records disk windows old n now) where
    pub still : (left : Moment) → Wears now left → IsHoming log records disk windows old n left
    still left wears = record { image = at.image; holds = holds_wears old at.image now left at.holds wears; over = at.over; done = at.done; size = at.size; outside = at.outside }

    pub stays : (left : Moment) → Wears now left → ShowsDisk log.layout windows disk old left
    stays left wears = shows_now at.image left (holds_wears old at.image now left at.holds wears) at.over.shows at.size at.outside at.over.own.opened

    -- none is left
    pub all_homed : ((q : ℕ) → n ≤ q → q < log.layout.pages → LastLiesIn log records log.anchor.third q → ⊥) → IsHoming log records disk windows old log.layout.pages now
    all_homed none = record {
      image = at.image;
      holds = at.holds;
      over = at.over;
      done = λ page lt within lies. ⊎_elim (λ before. at.done page before within lies) (λ from. absurd (none page from within lies)) (cases_lt page n);
      size = at.size;
      outside = at.outside;
    }

    long : home_b log.layout log.layout.pages ≤ length at.image
    long = let bounds = planned_bounds log.layout may.planned in omega (arith, bounds.third_least, bounds.sectors_least, at.over.shows.readable.roots.fits)

    pub homing_log : IsLogWorn log records now
    homing_log = λ j w. (own_later at.image j at.over (weaker at.image j (worn_trans (open_damage old.windows) at.image now.image j at.holds.worn (subst (λ (x : Windows). IsWorn (open_damage x) now.image j) at.holds.windows w)))).log

    -- ---- what is read of a page

    module _ (page : ℕ) (a b : ℕ) (lies : LiesAt (Rattle.std.specs.Prelude.slice_index_or log.slots page None) a b) (left : Moment) (wears : Wears now left) where
      found : LiesAt (last_slot log.layout log.anchor.third page records) a b
      found = logged_by log records page a b at.over.indexed lies

      worn : IsWorn (weak_of windows) at.image left.image
      worn = weaker at.image left.image (holds_wears old at.image now left at.holds wears).worn

      laid : AllLaid log.layout log.anchor (weak_of windows) at.image (records_by log.layout at.image log.anchor)
      laid = subst (AllLaid log.layout log.anchor (weak_of windows) at.image) (sym (scanned at.image at.over)) at.over.own.laid

      there : last_slot log.layout log.anchor.third page (records_by log.layout at.image log.anchor) ≡ Some (record { place = a; copy = b; number = found.number })
      there = ap (last_slot log.layout log.anchor.third page) (scanned at.image at.over) ∙ found.is

      gives : (bytes : List ℕ) → (sector_at left.image a ≡ Whole bytes) ⊎ (sector_at left.image b ≡ Whole bytes) → last_image page records ≡ Some bytes
      gives bytes stands = ap (last_image page) (sym (scanned at.image at.over))
          ∙ given_is log.layout log.anchor may.shape.third (weak_of windows) may.apart at.image left.image worn laid page (record { place = a; copy = b; number = found.number }) there bytes stands

    pub slot_gives : (page : ℕ) (bytes : List ℕ) → Wears now now → StandsInSlot (Rattle.std.specs.Prelude.slice_index_or log.slots page None) now.image bytes → last_image page records ≡ Some bytes
    slot_gives page bytes here stands = gives page stands.a stands.b stands.lies now here bytes stands.stands

    -- it is not lost
    pub slot_not_lost : (page : ℕ) (left : Moment) → Wears now left → (fault : LoadFault) → LostCause (AreLogged log page) left.image fault → IsDevice fault
    slot_not_lost page left wears (load.Device s) lost = tt
    slot_not_lost page left wears (load.Lost a b) lost =
        never_lost log.layout log.anchor may.shape.third (weak_of windows) may.apart at.image left.image (worn page a b lost.copies.lies left wears) (laid page a b lost.copies.lies left wears) page
        (record { place = a; copy = b; number = (found page a b lost.copies.lies left wears).number }) (there page a b lost.copies.lies left wears) lost.first lost.second

    -- ---- it is written home

    module _ (page : ℕ) (lt : page < log.layout.pages) (bytes : List ℕ) (size : length bytes ≡ 512) (logged : last_image page records ≡ None → ⊥) where
      -- some homes of the page were written, and nothing else
      record Part (e : Image) : Type 0 where
        many : length e ≡ length at.image
        over : OwnsLog log records disk windows e
        others : (p : ℕ) → p ≢ home_a log.layout page → p ≢ home_b log.layout page → sector_at e p ≡ sector_at at.image p

      part_here : Part at.image
      part_here = record { many = refl; over = at.over; others = λ p a b. refl }

      home_room : (s : ℕ) → (s ≡ home_a log.layout page) ⊎ (s ≡ home_b log.layout page) → (s < length at.image) × (16 + 3 * log.layout.third ≤ s)
      home_room s (inl here) = (omega (arith, long, here, lt), omega (arith, here))
      home_room s (inr here) = (omega (arith, long, here, lt), omega (arith, here))

      part_on : (e : Image) → Part e → (s : ℕ) → (s ≡ home_a log.layout page) ⊎ (s ≡ home_b log.layout page) → Part (with_sector e s bytes)
      part_on e part s place =
          let room = home_room s place in
          record {
            many = length-set e s (Whole bytes) ∙ part.many;
            over = record {
              shows = logged_shows log.layout (weak_of windows) (disk ∷ []) page s bytes lt place windows refl narrow e (omega (arith, room.0, part.many)) (is_logged e part.over page logged) part.over.shows;
              own = own_same log.layout log.anchor (weak_of windows) e (with_sector e s bytes) (λ p inside. with_other e s p bytes (λ is. omega (arith, is, inside, room.1))) may.shape.third records log.head part.over.own;
              indexed = part.over.indexed;
            };
            others = λ p a b. with_other e s p bytes (λ is. ⊎_elim (λ here. a (is ∙ here)) (λ here. b (is ∙ here)) place) ∙ part.others p a b;
          }

      part_one : Part (with_sector at.image (home_a log.layout page) bytes)
      part_one = part_on at.image part_here (home_a log.layout page) (inl refl)

      part_two : Part (with_sector (with_sector at.image (home_a log.layout page) bytes) (home_b log.layout page) bytes)
      part_two = part_on (with_sector at.image (home_a log.layout page) bytes) part_one (home_b log.layout page) (inr refl)

      stands_two : stand (stand at.image (home_a log.layout page) bytes 1) (home_b log.layout page) bytes 1 ≡ with_sector (with_sector at.image (home_a log.layout page) bytes) (home_b log.layout page) bytes
      stands_two = ap (λ (i : Image). stand i (home_b log.layout page) bytes 1) (stand_one at.image (home_a log.layout page) bytes size) ∙ stand_one (with_sector at.image (home_a log.layout page) bytes) (home_b log.layout page) bytes size

      homed_part : (j k : ℕ) → k ≤ j → j ≤ 1 → Part (stand (stand at.image (home_a log.layout page) bytes j) (home_b log.layout page) bytes k)
      homed_part zero zero le once = part_here
      homed_part zero (suc k) le once = absurd (omega (arith, le))
      homed_part (suc zero) zero le once = subst Part (sym (stand_one at.image (home_a log.layout page) bytes size)) part_one
      homed_part (suc zero) (suc zero) le once = subst Part (sym stands_two) part_two
      homed_part (suc zero) (suc (suc k)) le once = absurd (omega (arith, le))
      homed_part (suc (suc j)) k le once = absurd (omega (arith, once))

      part_outside : (e : Image) → Part e → (s : ℕ) → (MayWrite log.layout s → ⊥) → sector_at e s ≡ sector_at old.image s
      part_outside e part s out = part.others s (λ is. out (inr (inr (page, lt, inl is)))) (λ is. out (inr (inr (page, lt, inr is)))) ∙ at.outside s out

      pub homes_stay : (left : Moment) → HomesIn log.layout page bytes now left → ShowsDisk log.layout windows disk old left
      homes_stay left homes =
          let part = homed_part homes.first homes.second homes.in_order homes.once in
          shows_now (stand (stand at.image (home_a log.layout page) bytes homes.first) (home_b log.layout page) bytes homes.second) left
          (over_two old now left at.image (home_a log.layout page) (home_b log.layout page) bytes homes.first homes.second at.holds homes.holds) part.over.shows (part.many ∙ at.size) (part_outside _ part) part.over.own.opened

      -- the pages between have no image in the first third
      pub homes_next : bytes ≡ image_at disk page → ((q : ℕ) → n ≤ q → q < page → LastLiesIn log records log.anchor.third q → ⊥) → (new : Moment)
          → Holds now (stand (stand now.image (home_a log.layout page) bytes 1) (home_b log.layout page) bytes 1) new → IsHoming log records disk windows old (page + 1) new
      homes_next same between new holds =
          let last : Holds old (stand (stand at.image (home_a log.layout page) bytes 1) (home_b log.layout page) bytes 1) new = over_two old now new at.image (home_a log.layout page) (home_b log.layout page) bytes 1 1 at.holds holds in
          let room_a = home_room (home_a log.layout page) (inl refl) in
          let room_b = home_room (home_b log.layout page) (inr refl) in
          let two = with_sector (with_sector at.image (home_a log.layout page) bytes) (home_b log.layout page) bytes in
          let home : IsAtHome log.layout two page (image_at disk page) =
          subst (λ (b : List ℕ). IsAtHome log.layout two page b) same (
            with_other (with_sector at.image (home_a log.layout page) bytes) (home_b log.layout page) (home_a log.layout page) bytes (λ is. omega (arith, is, lt)) ∙ with_same at.image (home_a log.layout page) bytes room_a.0,
            with_same (with_sector at.image (home_a log.layout page) bytes) (home_b log.layout page) bytes (omega (arith, room_b.0, part_one.many)),
          ) in
          record {
            image = with_sector (with_sector at.image (home_a log.layout page) bytes) (home_b log.layout page) bytes;
            holds = subst (λ (i : Image). Holds old i new) stands_two last;
            over = part_two.over;
            done = λ q le within lies. ⊎_elim
                (λ before. ⊎_elim
                (λ earlier. let was = at.done q earlier within lies in (
                  part_two.others (home_a log.layout q) (λ is. omega (arith, is, before)) (λ is. omega (arith, is, before, lt)) ∙ was.0,
                  part_two.others (home_b log.layout q) (λ is. omega (arith, is, before, lt)) (λ is. omega (arith, is, before)) ∙ was.1,
                ))
                (λ from. absurd (between q from before lies)) (cases_lt q n))
                (λ past. let here : q ≡ page = omega (arith, past, le) in subst (λ (k : ℕ). IsAtHome log.layout two k (image_at disk k)) (sym here) home)
                (cases_lt q page);
            size = part_two.many ∙ at.size;
            outside = part_outside (with_sector (with_sector at.image (home_a log.layout page) bytes) (home_b log.layout page) bytes) part_two;
          }
