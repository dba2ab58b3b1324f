-- What keeps a mounted volume on its disk.
use Rattle.std.proofs.Common.{◌≡◌, ℕ, zero, suc, ◌<◌, ◌≤◌, Bool, ◌&&◌, ◌||◌, not, List, [], ◌∷◌, ◌++◌, length, take, Option, Some, None, refl, sym, ap, subst, ◌∙◌, inl, inr, arith}
use Rattle.std.specs.Prelude.{IsTrue, IsFalse, Contains, nat_le, nat_lt, option_and_then, true, false, ◌==◌}
use Rattle.std.specs.List.{AllByRecursion, AllZip, flat_map, list_all}
use Rattle.std.proofs.lemmas.List.{take_all, take-append-le, length-append}
use Rattle.std.proofs.lemmas.Bool.{leb-true, and_parts, or_cases, or_from, or_parts, eqb-true, false_from_ne_true}
use Rattle.volume_layout.specs.declared.layout.Layout.{Layout}
use Rattle.volume_layout.specs.Root.{root_bytes}
use Rattle.volume_layout.specs.Layout.{data_start, map_start, is_data}
use Rattle.run_table.specs.declared.run.Run.{Run}
use Rattle.run_table.specs.RunTable.{sectors_of}
use Rattle.run_table.specs.Space.{contains, all_differ}
use Rattle.fsd_formats.specs.declared.anchor.Anchor.{Anchor}
use Rattle.fsd_formats.specs.declared.entry.Entry.{Entry}
use Rattle.sector_disk.specs.declared.sector.WeakRun.{WeakRun}
use Rattle.sector_disk.specs.Image.{AllWorn, sector_at}
use Rattle.fsd_log.specs.Scan.{Placed, Head, IsLog, tape}
use Rattle.fsd_files.specs.Disk.{Image, Sectors, in_runs, bytes_at, bytes_of}
use Rattle.fsd_files.specs.Files.{Files, Change, after}
use Rattle.fsd_files.specs.Kept.{Describes, KeptIn, Lists, data_sectors}
use Rattle.fsd_files.specs.Volume.{Volume, HasReach, plans_of, is_in, in_version, is_free, waits, drawn, forced}
use Rattle.fsd_files.proofs.KeptLaws.{kept_on, kept_worn}
use Rattle.fsd_table.proofs.TreeLaws.{told_few}
use Rattle.fsd_sound.specs.Laid.{HasOwnLog, AllLaid}
use Rattle.fsd_table.specs.Table.{Telling, told_in}
use Rattle.fsd_sound.specs.Saved.{IsOpen}
use Rattle.fsd_sound.specs.Shown.{shown, told}
use Rattle.fsd_sound.specs.Sound.{ShowsOne, ShowsPages, IsSound, Tells, weak_of}
use Rattle.sector_disk.proofs.Wear.{worn_refl}
use Rattle.fsd_sound.specs.Mounted.{AgreeOutside, image_at, Mounted, StandsOver, HasForced, HasOpen, Wrote, IsMounted, SameStays, SameTaken, SameData, ChangesTo, IsSameEpoch, with_forced, IsFreshlyMounted, telling_of, forces_by_itself}
use Rattle.fsd_files.specs.Waiting.{IsSpaced, is_kept_alone, is_let_go}
use Rattle.fsd_files.proofs.WaitLaws.{version_stays, forced_is_spaced, let_go_free, open_taken, open_in_area, idle_is_spaced}
use Rattle.fsd_sound.proofs.OpenLaws.{open_on, open_worn}
use Rattle.fsd_sound.proofs.LogPlaces.{IsRecord, same_tape, has_same, front_same, copies_same, in_record, goes_records, scan_goes, start_in}
use Rattle.fsd_sound.proofs.AlikeLaws.{each_same}
use Rattle.fsd_sound.proofs.FrontLaws.{SameFront, log_front, front_log, front_shows}
use Rattle.fsd_sound.proofs.SavedLaws.{closes_none, open_saves, stays_open}
use Rattle.fsd_sound.proofs.SoundLaws.{sound_from_pages}

-- ---- the log of its own

-- anchors in front that are the same say the same
front_open : (l : Layout) (i j : Image) → SameFront l i j → IsOpen i → IsOpen j
front_open l i j same is =
    stays_open i j (closes_none i j (λ bytes there. ap bytes_of (sym (same 8 (omega arith))) ∙ there) (λ bytes there. ap bytes_of (sym (same 12 (omega arith))) ∙ there)) is

module _ (l : Layout) (a : Anchor) (weak : Sectors) (i j : Image) (same : SameFront l i j) where
  all_laid_same : (rs : List Placed) → AllByRecursion (IsRecord l a.third) rs → AllLaid l a weak i rs → AllLaid l a weak j rs
  all_laid_same [] are laid = tt
  all_laid_same (r ∷ rs) are laid = (
    (front_same l a weak i j r are.0 (in_record l a weak i j (front_log l i j same) r are.0) laid.0.0, copies_same l a weak i j r are.0 (in_record l a weak i j (front_log l i j same) r are.0) laid.0.1),
    all_laid_same rs are.1 laid.1,
  )

  pub own_same : a.third ≤ 2 → (records : List Placed) (head : Head) → HasOwnLog l a records head weak i → HasOwnLog l a records head weak j
  own_same low records head own =
      let are : AllByRecursion (IsRecord l a.third) records =
      subst (λ (w : Rattle.fsd_log.specs.Scan.Walked). AllByRecursion (IsRecord l a.third) w.records) own.log.scanned
      (goes_records l a.epoch a.third low (tape l a.third (bytes_at i)) (start_is) _ _ (start_in l a.first) (scan_goes l a.epoch a.first (tape l a.third (bytes_at i)))) in
      record {
        roots = (has_same l a weak i j (root_bytes l) 0 (same 0 (omega arith)) own.roots.0, has_same l a weak i j (root_bytes l) 4 (same 4 (omega arith)) own.roots.1);
        own = each_same l i j (log_front l i j same) _ _ (λ b low is. is) own.own;
        opened = front_open l i j same own.opened;
        log = subst (λ t. IsLog l a.epoch a.first t records head) (sym (same_tape l i j (front_log l i j same) a.third low)) own.log;
        laid = all_laid_same records are own.laid;
      }
    where
      start_is : Head
      start_is = Rattle.fsd_log.specs.Scan.start l a.first

-- ---- sectors that are free

-- what lies in front of the data area is not free
front_taken : (v : Volume) (s : ℕ) → s < data_start v.layout → IsFalse (is_free v s)
front_taken v s lt = by_test (nat_le (data_start v.layout) s) refl
  where
    by_test : (b : Bool) → nat_le (data_start v.layout) s ≡ b → (b && nat_lt s v.layout.sectors && not (in_version v s) && not (waits v s)) ≡ false
    by_test true is = absurd (let ge : data_start v.layout ≤ s = leb-true (data_start v.layout) s is in omega (arith, lt, ge))
    by_test false is = refl

-- nothing in front of the data area is let go
front_stays : (v : Volume) → IsSpaced v → (s : ℕ) → s < data_start v.layout → IsFalse (is_let_go v s)
front_stays v spaced s lt =
    let none : IsFalse (is_in v.drafts s || is_in v.held s) = false_from_ne_true (is_in v.drafts s || is_in v.held s) (λ is.
    let le : data_start v.layout ≤ s = leb-true (data_start v.layout) s (and_parts (nat_le (data_start v.layout) s) (nat_lt s v.layout.sectors) (open_in_area v spaced s is)).0 in omega (arith, le, lt)) in
    let parts = or_parts (is_in v.drafts s) (is_in v.held s) none in
    or_from (is_free v s || is_in v.drafts s) (is_kept_alone v s) (or_from (is_free v s) (is_in v.drafts s) (front_taken v s lt) parts.0) (alone (is_in v.held s) (in_version v s) (contains v.removed s) parts.1)
  where
    alone : (a b c : Bool) → IsFalse a → IsFalse (a && not b && not c)
    alone false b c h = refl
    alone true b c h = absurd (cc h)

-- what is written to sectors that were let go, or behind the last one, leaves the volume mounted, where what is open stands
may_be_longer : (m : Mounted) (slices : List (List (Option (List ℕ)))) (windows : List WeakRun) (h : List Change) (f : ℕ) (i j : Image) → length i ≤ length j → SameStays m.volume i j
    → HasOpen (in_runs windows) j (record m { slices = slices }) → IsMounted m windows h f i → IsMounted (record m { slices = slices }) windows h f j
may_be_longer m slices windows h f i j size same stands is =
    let front : SameFront m.volume.layout i j = λ s lt. same s (front_stays m.volume is.spaced s (omega (arith, lt))) in
    record {
      files = is.files;
      described = described_on m.volume.files m.volume.entries (λ s at. version_stays m.volume is.spaced s at) is.described;
      count = is.count;
      few = is.few;
      epoch = is.epoch;
      third = is.third;
      room = is.room;
      in_memory = is.in_memory;
      spaced = is.spaced;
      open_ones = stands;
      disk = is.disk;
      records = is.records;
      over = record {
        shows = front_shows m.volume.layout windows (is.disk ∷ []) i j is.room front size is.over.shows;
        own = own_same m.volume.layout m.anchor (weak_of windows) i j front is.third is.records m.head is.over.own;
        clean = is.over.clean;
      };
      forced = record {
        telling = is.forced.telling;
        told = is.forced.told;
        described = described_on (after (take f h)) is.forced.telling.entries is.forced.taken is.forced.described;
        taken = is.forced.taken;
        leaders = is.forced.leaders;
      };
    }
  where
    described_on : (files : Files) (entries : List Entry) → ((s : ℕ) → IsTrue (is_in (plans_of entries) s) → IsFalse (is_let_go m.volume s)) → Describes m.volume.layout (in_runs windows) i files entries
        → Describes m.volume.layout (in_runs windows) j files entries
    described_on files entries stays d = record { lists = d.lists; apart = d.apart; kept = kept_on (in_runs windows) i j files entries (λ s at. same s (stays s at)) d.kept }

pub may_be_written : (m : Mounted) (slices : List (List (Option (List ℕ)))) (windows : List WeakRun) (h : List Change) (f : ℕ) (i j : Image) → length j ≡ length i → SameStays m.volume i j
    → HasOpen (in_runs windows) j (record m { slices = slices }) → IsMounted m windows h f i → IsMounted (record m { slices = slices }) windows h f j
may_be_written m slices windows h f i j size same stands is = may_be_longer m slices windows h f i j (omega (arith, size)) same stands is

-- an image with more sectors, and the same ones in front
pub longer_mounted : (m : Mounted) (windows : List WeakRun) (h : List Change) (f : ℕ) (i j : Image) → length i ≤ length j → ((s : ℕ) → sector_at j s ≡ sector_at i s) → IsMounted m windows h f i → IsMounted m windows h f j
longer_mounted m windows h f i j size same is =
    may_be_longer m m.slices windows h f i j size (λ s stays. same s) (open_on (in_runs windows) i j m (λ s at. same s) is.open_ones) is

-- what is written to free sectors leaves the volume mounted
pub still_mounted : (m : Mounted) (windows : List WeakRun) (h : List Change) (f : ℕ) (i j : Image) → length j ≡ length i → SameTaken m.volume i j → IsMounted m windows h f i → IsMounted m windows h f j
still_mounted m windows h f i j size same is =
    may_be_written m m.slices windows h f i j size (λ s stays. same s (let_go_free m.volume s stays)) (open_on (in_runs windows) i j m (λ s at. same s (open_taken m.volume s at)) is.open_ones) is

-- a serial that is drawn changes nothing else
pub drawn_mounted : (m : Mounted) (windows : List WeakRun) (h : List Change) (f : ℕ) (i : Image) → IsMounted m windows h f i → IsMounted (record m { volume = drawn m.volume }) windows h f i
drawn_mounted m windows h f i is = record {
  files = is.files;
  described = is.described;
  count = is.count;
  few = is.few;
  epoch = is.epoch;
  third = is.third;
  room = is.room;
  in_memory = is.in_memory;
  spaced = record { apart = is.spaced.apart; area = is.spaced.area; drafts = is.spaced.drafts; removed = is.spaced.removed; held = is.spaced.held };
  open_ones = record { drafts = is.open_ones.drafts; held = is.open_ones.held };
  disk = is.disk;
  records = is.records;
  over = is.over;
  forced = record { telling = is.forced.telling; told = is.forced.told; described = is.forced.described; taken = is.forced.taken; leaders = is.forced.leaders };
}

-- ---- what is mounted is sound

-- one of these two lists
pub first_or_second : {A : Type 0} (P : A → Type 0) (a b x : A) → P a → P b → Contains (a ∷ b ∷ []) x → P x
first_or_second P a b x p q c = by_place c.0 c.1 c.2
  where
    by_place : (k : ℕ) → k < 2 → Rattle.std.specs.Prelude.slice_index_or (a ∷ b ∷ []) k x ≡ x → P x
    by_place zero lt is = subst P is p
    by_place (suc zero) lt is = subst P is q
    by_place (suc (suc k)) lt is = absurd (omega (arith, lt))

pub tells_forced : (v : Volume) (windows : List WeakRun) (h : List Change) (f : ℕ) (i : Image) (disk : List (List ℕ)) → f ≤ length h → HasForced v windows h f i disk → Tells v.layout (in_runs windows) i h f (told_in disk)
tells_forced v windows h f i disk le forced =
    subst (λ (o : Option Telling). Tells v.layout (in_runs windows) i h f o) (sym forced.told) (f, record { forced = omega arith; made = le }, forced.described)

tells_all : (v : Volume) (windows : List WeakRun) (h : List Change) (f : ℕ) (i : Image) (pages : List (List ℕ)) → f ≤ length h → v.files ≡ after h → told_in pages ≡ Some (telling_of v)
    → Describes v.layout (in_runs windows) i v.files v.entries → Tells v.layout (in_runs windows) i h f (told_in pages)
tells_all v windows h f i pages le files told d =
    let all : take (length h) h ≡ h = take_all (length h) h (omega arith) in
    subst (λ (o : Option Telling). Tells v.layout (in_runs windows) i h f o) (sym told)
    (length h, record { forced = le; made = omega arith }, subst (λ (s : Files). Describes v.layout (in_runs windows) i s v.entries) (files ∙ ap after (sym all)) d)

pub some_forced : (m : Mounted) (windows : List WeakRun) (h : List Change) (f : ℕ) (i : Image) → IsMounted m windows h f i → f ≤ length h
some_forced m windows h f i is = omega (arith, is.count)

pub one_of : {A : Type 0} (P : A → Type 0) (a x : A) → P a → Contains (a ∷ []) x → P x
one_of P a x p c = by_place c.0 c.1 c.2
  where
    by_place : (k : ℕ) → k < 1 → Rattle.std.specs.Prelude.slice_index_or (a ∷ []) k x ≡ x → P x
    by_place zero lt is = subst P is p
    by_place (suc k) lt is = absurd (omega (arith, lt))

pub mounted_sound : (m : Mounted) (windows : List WeakRun) (h : List Change) (f : ℕ) (i : Image) → IsMounted m windows h f i → IsSound m.volume.layout windows h f i
mounted_sound m windows h f i is =
    let l = m.volume.layout in
    let tells = λ (pages : List (List ℕ)) (one : Contains (is.disk ∷ []) pages). one_of (λ pages. Tells l (in_runs windows) i h f (told_in pages)) is.disk pages (tells_forced m.volume windows h f i is.disk (some_forced m windows h f i is) is.forced) one in
    sound_from_pages l windows h f (is.disk ∷ []) i is.over.shows tells (λ pages one. open_saves l i pages is.over.own.opened)

-- ---- a force

pub all_data : (l : Layout) (xs : List ℕ) (s : ℕ) → IsTrue (list_all (is_data l) xs) → IsTrue (contains xs s) → IsTrue (is_data l s)
all_data l [] s all there = absurd (cc there)
all_data l (x ∷ xs) s all there =
    let parts = and_parts (is_data l x) (list_all (is_data l) xs) all in
    elim (or_cases (x == s) (contains xs s) there) [
      | inl here ↦ subst (λ (t : ℕ). IsTrue (is_data l t)) (eqb-true x s here) parts.0
      | inr more ↦ all_data l xs s parts.1 more
    ]

pub data_behind : (l : Layout) (s : ℕ) → IsTrue (is_data l s) → map_start l ≤ s
data_behind l s is = let ge : data_start l ≤ s = leb-true (data_start l) s (and_parts (nat_le (data_start l) s) (nat_lt s l.sectors) is).0 in omega (arith, ge)

pub describes_data : (l : Layout) (hurt : Sectors) (files : Files) (entries : List Entry) (i j : Image) → SameData l hurt i j → Describes l hurt i files entries → Describes l hurt j files entries
describes_data l hurt files entries i j same d = record {
  lists = d.lists;
  apart = d.apart;
  kept = kept_worn hurt i j files entries (λ s at. same s (data_behind l s (all_data l (flat_map sectors_of (plans_of entries)) s (and_parts (all_differ (flat_map sectors_of (plans_of entries))) _ d.apart).1 at))) d.kept;
}

-- while the disk shows what was forced or what is in memory, it is sound
pub force_sound : (m : Mounted) (windows : List WeakRun) (h : List Change) (f : ℕ) (i j : Image) (now : List (List ℕ)) → (is : IsMounted m windows h f i) → SameData m.volume.layout (in_runs windows) i j
    → IsOpen j → told_in now ≡ Some (telling_of m.volume) → ShowsPages m.volume.layout windows (is.disk ∷ now ∷ []) j → IsSound m.volume.layout windows h f j
force_sound m windows h f i j now is same opened told shows =
    let l = m.volume.layout in
    let le = some_forced m windows h f i is in
    let forced : HasForced m.volume windows h f j is.disk = record {
      telling = is.forced.telling;
      told = is.forced.told;
      described = describes_data l (in_runs windows) (after (take f h)) is.forced.telling.entries i j same is.forced.described;
      taken = is.forced.taken;
      leaders = is.forced.leaders;
    } in
    let tells = λ (pages : List (List ℕ)) (two : Contains (is.disk ∷ now ∷ []) pages). first_or_second (λ pages. Tells l (in_runs windows) j h f (told_in pages)) is.disk now pages
    (tells_forced m.volume windows h f j is.disk le forced)
    (tells_all m.volume windows h f j now le is.files told (describes_data l (in_runs windows) m.volume.files m.volume.entries i j same is.described)) two in
    sound_from_pages l windows h f (is.disk ∷ now ∷ []) j shows tells (λ pages two. open_saves l j pages opened)

-- and so it is while it shows what was forced alone
pub forced_sound : (m : Mounted) (windows : List WeakRun) (h : List Change) (f : ℕ) (i j : Image) → (is : IsMounted m windows h f i) → SameData m.volume.layout (in_runs windows) i j → IsOpen j → ShowsPages m.volume.layout windows (is.disk ∷ []) j
    → IsSound m.volume.layout windows h f j
forced_sound m windows h f i j is same opened shows =
    let l = m.volume.layout in
    let forced : HasForced m.volume windows h f j is.disk = record {
      telling = is.forced.telling;
      told = is.forced.told;
      described = describes_data l (in_runs windows) (after (take f h)) is.forced.telling.entries i j same is.forced.described;
      taken = is.forced.taken;
      leaders = is.forced.leaders;
    } in
    let tells = λ (pages : List (List ℕ)) (one : Contains (is.disk ∷ []) pages). one_of (λ ps. Tells l (in_runs windows) j h f (told_in ps)) is.disk pages (tells_forced m.volume windows h f j is.disk (some_forced m windows h f i is) forced) one in
    sound_from_pages l windows h f (is.disk ∷ []) j shows tells (λ pages one. open_saves l j pages opened)

pub force_mounted : (m : Mounted) (windows : List WeakRun) (h : List Change) (f : ℕ) (i j : Image) (now : List (List ℕ)) (anchor : Anchor) (head : Head) (records : List Placed) → IsMounted m windows h f i → SameData m.volume.layout (in_runs windows) i j
    → told_in now ≡ Some (telling_of m.volume) → IsSameEpoch m.anchor anchor → StandsOver m.volume.layout anchor head records now now [] windows j
    → IsMounted (with_forced m now anchor head) windows h (length h) j
force_mounted m windows h f i j now anchor head records is same told later over =
    let all : take (length h) h ≡ h = take_all (length h) h (omega arith) in
    let described = describes_data m.volume.layout (in_runs windows) m.volume.files m.volume.entries i j same is.described in
    record {
      files = is.files;
      described = described;
      count = omega arith;
      few = omega arith;
      epoch = is.epoch ∙ sym later.epoch;
      third = later.third;
      room = is.room;
      in_memory = told;
      spaced = forced_is_spaced m.volume is.spaced;
      open_ones = open_forced (open_worn (in_runs windows) i j m (λ s at. same s (data_behind m.volume.layout s (open_in_area m.volume is.spaced s at))) is.open_ones);
      disk = now;
      records = records;
      over = over;
      forced = record {
        telling = telling_of m.volume;
        told = told;
        described = subst (λ (s : Files). Describes m.volume.layout (in_runs windows) j s m.volume.entries) (is.files ∙ ap after (sym all)) described;
        taken = version_stays (forced m.volume) (forced_is_spaced m.volume is.spaced);
        leaders = λ s at leads. leads;
      };
    }
  where
    open_forced : HasOpen (in_runs windows) j m → HasOpen (in_runs windows) j (with_forced m now anchor head)
    open_forced o = record { drafts = o.drafts; held = o.held }

-- ---- a change in memory

agree_more : (dirty more : List ℕ) (disk old new : List (List ℕ)) → ((page : ℕ) → IsFalse (contains more page) → IsFalse (contains dirty page)) → AgreeOutside dirty disk old → AgreeOutside more old new → AgreeOutside more disk new
agree_more dirty more disk old new within a b = record { size = a.size ∙ b.size; each = λ page out. a.each page (within page out) ∙ b.each page out }

pub change_mounted : (m n : Mounted) (windows : List WeakRun) (h : List Change) (f : ℕ) (i : Image) (c : Change) → IsMounted m windows h f i → ChangesTo (h ++ c ∷ []) windows i m n → IsMounted n windows (h ++ c ∷ []) f i
change_mounted m n windows h f i c is to =
    let changes = to.volume in
    let le = some_forced m windows h f i is in
    let front : take f (h ++ c ∷ []) ≡ take f h = take-append-le f h (c ∷ []) le in
    let same = sym changes.layout in
    record {
      files = to.files;
      described = subst (λ (l : Layout). Describes l (in_runs windows) i n.volume.files n.volume.entries) same to.described;
      count = let long = length-append h (c ∷ []) in omega (arith, is.count, changes.unforced, long);
      few = let before = is.few in let more = to.few in omega (arith, before, more, changes.unforced);
      epoch = changes.epoch ∙ is.epoch ∙ ap (λ (a : Anchor). a.epoch) (sym to.anchor);
      third = subst (λ (a : Anchor). a.third ≤ 2) (sym to.anchor) is.third;
      room = subst (λ (l : Layout). map_start l ≤ l.sectors) same is.room;
      in_memory = to.told;
      spaced = changes.spaced;
      open_ones = to.open_ones;
      disk = is.disk;
      records = is.records;
      over = over_on n.volume.layout n.anchor n.head same (sym to.anchor) (sym to.head) (record {
        shows = is.over.shows;
        own = is.over.own;
        clean = agree_more m.dirty n.dirty is.disk m.pages n.pages to.still is.over.clean to.clean;
      });
      forced = record {
        telling = is.forced.telling;
        told = is.forced.told;
        described = subst (λ (l : Layout). Describes l (in_runs windows) i (after (take f (h ++ c ∷ []))) is.forced.telling.entries) same
            (subst (λ (s : List Change). Describes m.volume.layout (in_runs windows) i (after s) is.forced.telling.entries) (sym front) is.forced.described);
        taken = λ s at. changes.fewer s (is.forced.taken s at);
        leaders = λ s at leads. is.forced.leaders s at (changes.leaders s (is.forced.taken s at) leads);
      };
    }
  where
    over_on : (l : Layout) (a : Anchor) (head : Head) → m.volume.layout ≡ l → m.anchor ≡ a → m.head ≡ head → StandsOver m.volume.layout m.anchor m.head is.records is.disk n.pages n.dirty windows i
        → StandsOver l a head is.records is.disk n.pages n.dirty windows i
    over_on l a head e g k over =
        subst (λ (x : Layout). StandsOver x a head is.records is.disk n.pages n.dirty windows i) e
        (subst (λ (x : Anchor). StandsOver m.volume.layout x head is.records is.disk n.pages n.dirty windows i) g
        (subst (λ (x : Head). StandsOver m.volume.layout m.anchor x is.records is.disk n.pages n.dirty windows i) k over))

-- ---- a mount

-- nothing waits right after a mount
pub fresh_mounted : (m : Mounted) (windows : List WeakRun) (h : List Change) (i : Image) → IsFreshlyMounted h windows i m → IsMounted m windows h (length h) i
fresh_mounted m windows h i fresh =
    let all : take (length h) h ≡ h = take_all (length h) h (omega arith) in
    record {
      files = fresh.files;
      described = fresh.described;
      count = omega (arith, fresh.unforced);
      few = let none : length m.dirty ≡ 0 = ap (λ (x : List ℕ). length x) fresh.clean in omega (arith, none);
      epoch = fresh.epoch;
      third = fresh.third;
      room = fresh.room;
      in_memory = fresh.told;
      spaced = spaced;
      open_ones = idle m.slices m.bytes m.volume.drafts m.volume.held fresh.slices fresh.bytes fresh.drafts fresh.held;
      disk = m.pages;
      records = fresh.records;
      over = fresh.over;
      forced = record {
        telling = telling_of m.volume;
        told = fresh.told;
        described = subst (λ (s : Files). Describes m.volume.layout (in_runs windows) i s m.volume.entries) (fresh.files ∙ ap after (sym all)) fresh.described;
        taken = version_stays m.volume spaced;
        leaders = λ s at leads. leads;
      };
    }
  where
    spaced : IsSpaced m.volume
    spaced = idle_is_spaced m.volume fresh.removed fresh.held fresh.drafts fresh.described.apart

    idle : (slices : List (List (Option (List ℕ)))) (bytes : List (List ℕ)) (drafts held : List (List Run)) → slices ≡ [] → bytes ≡ [] → drafts ≡ [] → held ≡ []
        → HasOpen (in_runs windows) i (record m { volume = record m.volume { drafts = drafts; held = held }; slices = slices; bytes = bytes })
    idle slices bytes drafts held a b c d = record {
      drafts = subst (λ (x : List (List (Option (List ℕ)))). AllZip (λ slices runs. AllZip (Wrote (in_runs windows) i) slices (data_sectors runs)) x drafts) (sym a)
          (subst (λ (x : List (List Run)). AllZip (λ slices runs. AllZip (Wrote (in_runs windows) i) slices (data_sectors runs)) [] x) (sym c) tt);
      held = subst (λ (x : List (List ℕ)). AllZip (KeptIn i (in_runs windows)) x held) (sym b) (subst (λ (x : List (List Run)). AllZip (KeptIn i (in_runs windows)) [] x) (sym d) tt);
    }

-- ---- where nothing waits

no_items : {A : Type 0} (xs : List A) → length xs ≤ 0 → xs ≡ []
no_items [] le = refl
no_items (x ∷ xs) le = absurd (omega (arith, le))

same_items : (xs ys : List (List ℕ)) → length xs ≡ length ys → ((k : ℕ) → image_at xs k ≡ image_at ys k) → xs ≡ ys
same_items [] [] size each = refl
same_items [] (y ∷ ys) size each = absurd (omega (arith, size))
same_items (x ∷ xs) [] size each = absurd (omega (arith, size))
same_items (x ∷ xs) (y ∷ ys) size each =
    let first : x ≡ y = each 0 in
    let rest : xs ≡ ys = same_items xs ys (omega (arith, size)) (λ k. each (suc k)) in
    ap (λ (z : List ℕ). z ∷ xs) first ∙ ap (λ (zs : List (List ℕ)). y ∷ zs) rest

-- where nothing waits the disk shows the pages that are in memory
pub same_pages : (m : Mounted) (windows : List WeakRun) (h : List Change) (f : ℕ) (i : Image) (is : IsMounted m windows h f i) → m.volume.unforced ≡ 0 → is.disk ≡ m.pages
same_pages m windows h f i is none = same_items is.disk m.pages is.over.clean.size
    (λ k. is.over.clean.each k (subst (λ (d : List ℕ). IsFalse (contains d k)) (sym (no_items m.dirty few)) refl))
  where
    few : length m.dirty ≤ 0
    few = let at_most = is.few in omega (arith, at_most, none)

-- and each image that shows them tells the volume's own table, however the last window's run wears
pub shown_lasts : (m : Mounted) (windows : List WeakRun) (h : List Change) (f : ℕ) (i j : Image) (is : IsMounted m windows h f i) → m.volume.unforced ≡ 0 → ShowsPages m.volume.layout windows (is.disk ∷ []) j
    → AllWorn (weak_of windows) (λ k. told m.volume.layout k ≡ Some (telling_of m.volume)) j
shown_lasts m windows h f i j is none shows k worn = by (shown m.volume.layout k) (shows.shows k worn)
  where
    by : (o : Option (List (List ℕ))) → ShowsOne (is.disk ∷ []) o → option_and_then told_in o ≡ Some (telling_of m.volume)
    by None one = absurd one
    by (Some pages) one = one_of (λ pages. told_in pages ≡ Some (telling_of m.volume)) is.disk pages (ap told_in (same_pages m windows h f i is none) ∙ is.in_memory) one

-- so does its disk
pub mounted_lasts : (m : Mounted) (windows : List WeakRun) (h : List Change) (f : ℕ) (i : Image) → IsMounted m windows h f i → m.volume.unforced ≡ 0 → AllWorn (weak_of windows) (λ j. told m.volume.layout j ≡ Some (telling_of m.volume)) i
mounted_lasts m windows h f i is none = shown_lasts m windows h f i i is none is.over.shows

-- as the disk is
pub mounted_tells : (m : Mounted) (windows : List WeakRun) (h : List Change) (f : ℕ) (i : Image) → IsMounted m windows h f i → m.volume.unforced ≡ 0 → told m.volume.layout i ≡ Some (telling_of m.volume)
mounted_tells m windows h f i is none = mounted_lasts m windows h f i is none i (worn_refl (weak_of windows) i)

-- ---- where a volume forces by itself

pub two_wait : (m : Mounted) (windows : List WeakRun) (h : List Change) (f : ℕ) (i : Image) → IsMounted m windows h f i → IsTrue (forces_by_itself m) → 2 ≤ m.volume.unforced
two_wait m windows h f i is many =
    let more : 56 < length m.dirty = leb-true 57 (length m.dirty) many in
    let few = is.few in
    omega (arith, more, few)

-- ---- how many pages

pub lists_long : (files : Files) (entries : List Entry) → Lists files entries → length entries ≡ length files
lists_long [] [] lists = refl
lists_long [] (e ∷ entries) lists = absurd lists
lists_long (x ∷ files) [] lists = absurd lists
lists_long (x ∷ files) (e ∷ entries) lists = ap suc (lists_long files entries lists.1)

pub mounted_reach : (m : Mounted) (windows : List WeakRun) (h : List Change) (f : ℕ) (i : Image) → IsMounted m windows h f i → HasReach m.volume
mounted_reach m windows h f i is =
    let few = told_few m.pages (telling_of m.volume) is.in_memory in
    let long = lists_long m.volume.files m.volume.entries is.described.lists in
    let some = few.0 in
    let most = few.1 in
    record { root = some; most = omega (arith, most, long) }

-- ---- the records that the log has then

pub still_records : (m : Mounted) (windows : List WeakRun) (h : List Change) (f : ℕ) (i j : Image) (size : length j ≡ length i) (same : SameTaken m.volume i j) (is : IsMounted m windows h f i) → (still_mounted m windows h f i j size same is).records ≡ is.records
unfolding still_mounted may_be_written may_be_longer
still_records m windows h f i j size same is = refl
