-- An anchor is written once more, and says that its volume is closed: the same pages are shown. Where the map of these pages
-- is saved before, what is saved is what they tell.
use Rattle.std.proofs.Common.{◌≡◌, ◌≢◌, ◌⊎◌, inl, inr, ⊎_elim, ℕ, ◌+◌, ◌^◌, ◌<◌, ◌≤◌, true, List, [], ◌∷◌, length, map, take, set-set, Option, Some, None, refl, sym, ap, subst, ◌∙◌, arith}
use Rattle.std.specs.Prelude.{IfSome, IsSome, IsTrue, nat_le, nat_lt, option_and_then}
use Rattle.std.specs.Option.{option_or}
use Rattle.std.specs.List.{flat_map}
use Rattle.std.proofs.lemmas.Bool.{and_parts, leb-true}
use Rattle.std.proofs.lemmas.List.{length-set}
use Rattle.volume_layout.specs.declared.layout.Layout.{Layout}
use Rattle.volume_layout.specs.Layout.{data_start, home_a, home_b, is_data, map_sectors, map_start, turned}
use Rattle.volume_layout.specs.Root.{root_bytes}
use Rattle.run_table.specs.RunTable.{sectors_of}
use Rattle.run_table.specs.Space.{all_differ}
use Rattle.fsd_formats.specs.declared.anchor.Anchor.{Anchor}
use Rattle.fsd_formats.specs.declared.entry.Entry.{Entry}
use Rattle.fsd_formats.specs.Anchors.{anchor_bytes, closed_bytes, is_anchor, read_anchor, read_closed}
use Rattle.fsd_formats.specs.declared.map_head.MapHead.{MapHead}
use Rattle.fsd_formats.specs.SavedMap.{IsMapOf, MapCounts, head_of}
use Rattle.fsd_formats.proofs.SpellingLaws.{anchor_is_read, closed_is_read, closed_is_read_closed}
use Rattle.sector_disk.specs.declared.sector.Sector.{Sector}
use Rattle.sector_disk.specs.declared.sector.Sector.TheVariants.{Whole, Damaged}
use Rattle.sector_disk.specs.declared.sector.WeakRun.{WeakRun}
use Rattle.sector_disk.specs.Image.{sector_at, with_sector}
use Rattle.fsd_log.specs.Images.{last_image}
use Rattle.fsd_log.specs.Scan.{Placed, Walked, newer_of}
use Rattle.fsd_files.specs.Disk.{Image, Sectors, SectorWorn, bytes_at, bytes_of, first_whole, in_runs}
use Rattle.fsd_files.specs.Files.{Change, Files, after}
use Rattle.fsd_files.specs.Kept.{Describes}
use Rattle.fsd_files.specs.Volume.{plans_of}
use Rattle.fsd_table.specs.Table.{told_in}
use Rattle.fsd_files.proofs.KeptLaws.{has_on, kept_worn}
use Rattle.fsd_sound.specs.Anchors.{anchor_at, anchor_of, EachAnchor}
use Rattle.fsd_sound.specs.Homes.{home_of}
use Rattle.fsd_sound.specs.Laid.{HasOwnRoots, IsLaid}
use Rattle.fsd_sound.specs.Mounted.{HasForced, IsMounted, Mounted}
use Rattle.fsd_sound.specs.Saved.{AreSaved, EachClosed, SavesPages, closed_at, map_of}
use Rattle.fsd_sound.specs.Shown.{all_pages, each_of, newest, records_by, shown, shown_by}
use Rattle.fsd_sound.specs.Sound.{HasAnchors, HasHomes, HasLog, HasRoots, IsSound, LogsNothing, ScansAgree, ShowsOne, ShowsPages, Tells, disk_records, on_disk, weak_of}
use Rattle.fsd_sound.specs.Stands.{StandsShown}
use Rattle.fsd_sound.specs.Windows.{IsNarrow}
use Rattle.fsd_sound.proofs.AlikeLaws.{suffix_same}
use Rattle.fsd_sound.proofs.AnchorFacts.{IsAnchor, anchor_read, if_some_on, read_is_anchor, some_third, taken_third}
use Rattle.fsd_sound.proofs.AnchorMendLaws.{anchor_shows}
use Rattle.fsd_sound.proofs.CommuteLaws.{all_over, all_shows, both_own, same_or, shows_all, with_other, with_same}
use Rattle.fsd_sound.proofs.LogPlaces.{SameLog, laid_same, same_scan, scan_records}
use Rattle.fsd_files.proofs.WaitLaws.{open_in_area}
use Rattle.fsd_sound.proofs.FrontLaws.{SameFront, front_shows}
use Rattle.fsd_sound.proofs.MountedLaws.{all_data, one_of, own_same, some_forced, tells_forced}
use Rattle.fsd_sound.proofs.OpenLaws.{open_worn}
use Rattle.fsd_sound.proofs.SaidLaws.{says_same, some_same}
use Rattle.fsd_sound.proofs.SavedLaws.{ReadsLess, closes_none, each_closed, map_before, spelled_open}
use Rattle.fsd_sound.proofs.SectorFacts.{not_damaged, whole_or_damaged}
use Rattle.fsd_sound.proofs.SoundLaws.{sound_from_pages}

-- ---- an image with an anchor that is closed

module _ (l : Layout) (s : ℕ) (place : (s ≡ 8) ⊎ (s ≡ 12)) (a : Anchor) (fits : is_anchor a ≡ true) (epoch : a.epoch < 2 ^ 32) (first : a.first < 2 ^ 32) (i : Image) (room : s < length i) (was : sector_at i s ≡ Whole (anchor_bytes a)) where
  abbrev j : Image
  j = with_sector i s (closed_bytes a)

  here : sector_at j s ≡ Whole (closed_bytes a)
  here = with_same i s (closed_bytes a) room

  other : (p : ℕ) → p ≢ s → sector_at j p ≡ sector_at i p
  other p differs = with_other i s p (closed_bytes a) differs

  not_here : (p : ℕ) → (p < 8) ⊎ (16 ≤ p) → p ≢ s
  not_here p (inl low) e = ⊎_elim (λ is. omega (arith, e, is, low)) (λ is. omega (arith, e, is, low)) place
  not_here p (inr high) e = ⊎_elim (λ is. omega (arith, e, is, high)) (λ is. omega (arith, e, is, high)) place

  head : (p : ℕ) → p < 8 → sector_at j p ≡ sector_at i p
  head p low = other p (not_here p (inl low))

  behind : (p : ℕ) → 16 ≤ p → sector_at j p ≡ sector_at i p
  behind p from = other p (not_here p (inr from))

  log : SameLog l i j
  log p within = behind p (let from = within.0 in omega (arith, from))

  -- ---- the anchors are the same

  found_was : anchor_at i s ≡ Some a
  found_was = ap (λ (x : Sector). option_and_then read_anchor (bytes_of x)) was ∙ anchor_is_read a fits epoch first

  found_now : anchor_at j s ≡ Some a
  found_now = ap (λ (x : Sector). option_and_then read_anchor (bytes_of x)) here ∙ closed_is_read a fits epoch first

  anchor_same : (p : ℕ) → anchor_at j p ≡ anchor_at i p
  anchor_same p = ⊎_elim
      (λ is. ap (anchor_at j) is ∙ found_now ∙ sym found_was ∙ ap (anchor_at i) (sym is))
      (λ differs. ap (λ (x : Sector). option_and_then read_anchor (bytes_of x)) (other p differs)) (same_or p s)

  taken_same : anchor_of j ≡ anchor_of i
  taken_same = ap (λ (o : Option Anchor). newer_of o (anchor_at j 12)) (anchor_same 8) ∙ ap (newer_of (anchor_at i 8)) (anchor_same 12)

  each_same : (P Q : Anchor → Type 0) → ((b : Anchor) → b.third ≤ 2 → P b → Q b) → EachAnchor i P → EachAnchor j Q
  each_same P Q on each = (
    subst (λ (o : Option Anchor). IfSome o Q) (sym (anchor_same 8)) (if_some_on P Q (anchor_at i 8) (some_third (bytes_at i 8)) on each.0),
    subst (λ (o : Option Anchor). IfSome o Q) (sym (anchor_same 12)) (if_some_on P Q (anchor_at i 12) (some_third (bytes_at i 12)) on each.1),
  )

  reads : (p : ℕ) → ((b : List ℕ) → sector_at i p ≡ Whole b → IsSome (read_anchor b)) → (b : List ℕ) → sector_at j p ≡ Whole b → IsSome (read_anchor b)
  reads p each b is = ⊎_elim
      (λ at. let read : read_anchor b ≡ Some a = sym (ap (λ (x : Sector). option_and_then read_anchor (bytes_of x)) is) ∙ ap (anchor_at j) at ∙ found_now in subst IsSome (sym read) refl)
      (λ differs. each b (sym (other p differs) ∙ is)) (same_or p s)

  anchors_now : HasAnchors l i → HasAnchors l j
  anchors_now was_so = record {
    first = reads 8 was_so.first;
    second = reads 12 was_so.second;
    epochs = each_same _ _ (λ b low stamps p in_log bytes is. stamps p in_log bytes (sym (log p in_log) ∙ is)) was_so.epochs;
  }

  -- ---- the log is the same

  records_same : (b : Anchor) → b.third ≤ 2 → records_by l j b ≡ records_by l i b
  records_same b low = ap (λ (w : Walked). w.records) (same_scan l i j log b low)

  turned_same : (b : Anchor) → b.third ≤ 2 → records_by (turned l) j b ≡ records_by (turned l) i b
  turned_same b low = ap (λ (w : Walked). w.records) (same_scan (turned l) i j log b low)

  unlogged : LogsNothing l i → LogsNothing l j
  unlogged nothing = each_same _ _ (λ b low none. (records_same b low ∙ none.0, turned_same b low ∙ none.1)) nothing

  disk_same : (b : Anchor) → b.third ≤ 2 → disk_records l j b ≡ disk_records l i b
  disk_same b low = ap (map (on_disk l b)) (records_same b low)

  agree_same : (x y t : Option Anchor) → IfSome x (λ b. b.third ≤ 2) → IfSome y (λ b. b.third ≤ 2) → IfSome t (λ b. b.third ≤ 2) → ScansAgree l i x y t → ScansAgree l j x y t
  agree_same None y t p q r agree = tt
  agree_same (Some x) None t p q r agree = tt
  agree_same (Some x) (Some y) None p q r agree = tt
  agree_same (Some x) (Some y) (Some t) p q r agree = λ e. (
    suffix_same (disk_records l i t) (disk_records l j t) (disk_records l i x) (disk_records l j x) (disk_same t r) (disk_same x p) (agree e).0,
    suffix_same (disk_records l i t) (disk_records l j t) (disk_records l i y) (disk_records l j y) (disk_same t r) (disk_same y q) (agree e).1,
  )

  log_now : (weak : Sectors) → HasLog l weak i → HasLog l weak j
  log_now weak h = record {
    agree = agree_on (anchor_at j 8) (anchor_at i 8) (anchor_at j 12) (anchor_at i 12) (anchor_of j) (anchor_of i) (anchor_same 8) (anchor_same 12) taken_same
        (agree_same (anchor_at i 8) (anchor_at i 12) (anchor_of i) (some_third (bytes_at i 8)) (some_third (bytes_at i 12)) (taken_third i) h.agree);
    laid = each_same _ _ (λ b low laid. subst (IsLaid l b weak j) (sym (records_same b low)) (laid_same l b weak i j log (records_by l i b) (scan_records l i b low) laid)) h.laid;
  }
    where
      agree_on : (x x' y y' t t' : Option Anchor) → x ≡ x' → y ≡ y' → t ≡ t' → ScansAgree l j x' y' t' → ScansAgree l j x y t
      agree_on x x' y y' t t' e f g agree = subst (λ o. ScansAgree l j o y t) (sym e) (subst (λ o. ScansAgree l j x' o t) (sym f) (subst (λ o. ScansAgree l j x' y' o) (sym g) agree))

  -- ---- the pages are the same

  home_a_same : (page : ℕ) → sector_at j (home_a l page) ≡ sector_at i (home_a l page)
  home_a_same page = behind (home_a l page) (omega arith)

  home_b_same : (page : ℕ) → sector_at j (home_b l page) ≡ sector_at i (home_b l page)
  home_b_same page = behind (home_b l page) (omega arith)

  home_same : (page : ℕ) → home_of l j page ≡ home_of l i page
  home_same page =
      ap (λ (x : Sector). first_whole (bytes_of x) (bytes_at j (home_b l page))) (home_a_same page)
      ∙ ap (λ (x : Sector). first_whole (bytes_at i (home_a l page)) (bytes_of x)) (home_b_same page)

  shown_by_same : (b : Anchor) → b.third ≤ 2 → shown_by l j b ≡ shown_by l i b
  shown_by_same b low =
      ap (λ (records : List Placed). each_of (newest l j records) (all_pages l)) (records_same b low)
      ∙ (λ k. each_of (λ page. option_or (last_image page (records_by l i b)) (home_same page k)) (all_pages l))

  shown_same : shown l j ≡ shown l i
  shown_same = ap (option_and_then (shown_by l j)) taken_same ∙ by (anchor_of i) (taken_third i)
    where
      by : (o : Option Anchor) → IfSome o (λ b. b.third ≤ 2) → option_and_then (shown_by l j) o ≡ option_and_then (shown_by l i) o
      by None low = refl
      by (Some b) low = shown_by_same b low

  homes_now : HasHomes l i → HasHomes l j
  homes_now homes = each_same _ _ (λ b low was_so page lt none x y at_a at_b.
      was_so page lt (ap (last_image page) (sym (records_same b low)) ∙ none) x y (sym (home_a_same page) ∙ at_a) (sym (home_b_same page) ∙ at_b)) homes

  -- ---- the whole

  hurt_was : (p : ℕ) → sector_at j p ≡ Damaged → sector_at i p ≡ Damaged
  hurt_was p hurt = ⊎_elim
      (λ is. absurd (not_damaged (sector_at j s) (closed_bytes a) here (ap (sector_at j) (sym is) ∙ hurt)))
      (λ differs. sym (other p differs) ∙ hurt) (same_or p s)

  roots_now : (weak : Sectors) → HasRoots l weak i → HasRoots l weak j
  roots_now weak roots = record {
    planned = roots.planned;
    other = roots.other;
    beside = roots.beside;
    some = some_same l i j roots.other (head 0 (omega arith)) (head 4 (omega arith)) roots.some;
    first = λ b is. roots.first b (sym (head 0 (omega arith)) ∙ is);
    second = λ b is. roots.second b (sym (head 4 (omega arith)) ∙ is);
    fits = omega (arith, roots.fits, length-set i s (Whole (closed_bytes a)));
    twins = λ p twin hurt. roots.twins p twin (hurt_was p hurt);
  }

  closed_stands : (weak : Sectors) (choices : List (List (List ℕ))) → StandsShown l weak choices i → StandsShown l weak choices j
  closed_stands weak choices stands = record {
    roots = roots_now weak stands.roots;
    empty = λ says. unlogged (stands.empty (says_same (turned l) i j head says));
    anchors = anchors_now stands.anchors;
    log = log_now weak stands.log;
    homes = homes_now stands.homes;
    shows = subst (ShowsOne choices) (sym shown_same) stands.shows;
  }

-- the anchor that stands in a sector is closed there, where the roots are the layout's own, and the same pages are shown
pub closed_shows : (l : Layout) (windows : List WeakRun) → IsNarrow (weak_of windows) → (choices : List (List (List ℕ))) (s : ℕ) → (s ≡ 8) ⊎ (s ≡ 12) → (a : Anchor) → is_anchor a ≡ true → a.epoch < 2 ^ 32 → a.first < 2 ^ 32
    → (c : Image) → s < length c → sector_at c s ≡ Whole (anchor_bytes a) → HasOwnRoots l (weak_of windows) c → ShowsPages l windows choices c → ShowsPages l windows choices (with_sector c s (closed_bytes a))
closed_shows l windows narrow choices s place a fits epoch first c room was own shows =
    all_shows l windows shows.readable.borne choices (with_sector c s (closed_bytes a))
    (both_own l (weak_of windows) windows choices c (with_sector c s (closed_bytes a)) shows.readable.roots.planned own (λ k. says_same k c (with_sector c s (closed_bytes a)) (head l s place a fits epoch first c room was)))
    (all_over (weak_of windows) (StandsShown l (weak_of windows) choices) c s (closed_bytes a) room (shows_all l windows narrow choices c shows)
    (λ i worn there stands. closed_stands l s place a fits epoch first i (omega (arith, room, worn.size)) (there ∙ was) (weak_of windows) choices stands))

-- ---- what is saved

-- The map of these pages is saved, with this epoch and these counts.
pub record HasSaved (l : Layout) (epoch : ℕ) (pages : List (List ℕ)) (i : Image) : Type 0 where
  pub some : 0 < map_sectors l
  pub sectors : List (List ℕ)
  pub whole : map_of l i ≡ Some sectors
  pub counts : MapCounts
  pub is : IsMapOf l epoch counts sectors
  pub saved : AreSaved l counts sectors pages

-- the counts are those of the heads
same_counts : (l : Layout) (epoch : ℕ) (a b : MapCounts) (sectors : List (List ℕ)) → 0 < map_sectors l → IsMapOf l epoch a sectors → IsMapOf l epoch b sectors → (a.pages ≡ b.pages) × (a.versions ≡ b.versions)
same_counts l epoch a b sectors some one two =
    let given : Some (head_of epoch 0 a) ≡ Some (head_of epoch 0 b) = sym (one.heads 0 some) ∙ two.heads 0 some in
    let same : head_of epoch 0 a ≡ head_of epoch 0 b = cc given in
    (ap (λ (h : MapHead). h.pages) same, ap (λ (h : MapHead). h.versions) same)

-- what a map of this epoch says, where one is whole, the pages tell
abbrev pub MapTells : Layout → (epoch : ℕ) → List (List ℕ) → Image → Type 0
MapTells l epoch pages i = (sectors : List (List ℕ)) (counts : MapCounts) → map_of l i ≡ Some sectors → IsMapOf l epoch counts sectors → AreSaved l counts sectors pages

-- so it is of the map that is saved
pub saved_tells : (l : Layout) (epoch : ℕ) (pages : List (List ℕ)) (i : Image) → HasSaved l epoch pages i → MapTells l epoch pages i
saved_tells l epoch pages i has sectors counts whole is =
    let one : has.sectors ≡ sectors = cc (sym has.whole ∙ whole) in
    let saved : AreSaved l has.counts sectors pages = subst (λ (x : List (List ℕ)). AreSaved l has.counts x pages) one has.saved in
    let counted = same_counts l epoch has.counts counts sectors has.some (subst (IsMapOf l epoch has.counts) one has.is) is in
    record { telling = saved.telling; told = saved.told; reached = saved.reached ∙ counted.0; versions = saved.versions ∙ counted.1; free = saved.free; spare = saved.spare }

-- and where its sectors are read no more than they were
pub map_tells_on : (l : Layout) (epoch : ℕ) (pages : List (List ℕ)) (i j : Image) → ((s : ℕ) → map_start l ≤ s → s < map_start l + map_sectors l → ReadsLess i j s) → MapTells l epoch pages i → MapTells l epoch pages j
map_tells_on l epoch pages i j less tells sectors counts whole is = tells sectors counts (map_before l i j sectors less whole) is

-- where each copy that says that the volume was closed is of that epoch, what is saved is what the pages tell
pub saved_so : (l : Layout) (epoch : ℕ) (pages : List (List ℕ)) (i : Image) → MapTells l epoch pages i → EachClosed i (λ a. a.epoch ≡ epoch) → SavesPages l i pages
saved_so l epoch pages i tells each =
    each_closed _ _ i i
    (λ a same sectors counts whole is. tells sectors counts whole (subst (λ (e : ℕ). IsMapOf l e counts sectors) same is))
    (closes_none i i (λ bytes is. is) (λ bytes is. is)) each

-- ---- a volume that is closed

-- the images agree on the data area, but for wear
abbrev pub SameArea : Layout → Sectors → Image → Image → Type 0
SameArea l hurt i j = (s : ℕ) → data_start l ≤ s → SectorWorn (hurt s) (sector_at i s) (sector_at j s)

describes_area : (l : Layout) (hurt : Sectors) (files : Files) (entries : List Entry) (i j : Image) → SameArea l hurt i j → Describes l hurt i files entries → Describes l hurt j files entries
describes_area l hurt files entries i j same d = record {
  lists = d.lists;
  apart = d.apart;
  kept = kept_worn hurt i j files entries
      (λ s at. same s (leb-true (data_start l) s (and_parts _ _ (all_data l (flat_map sectors_of (plans_of entries)) s (and_parts (all_differ (flat_map sectors_of (plans_of entries))) _ d.apart).1 at)).0)) d.kept;
}

-- while a volume is closed, whose table the disk shows, it is sound: the map may be written, and the anchors
pub closing_sound : (m : Mounted) (windows : List WeakRun) (h : List Change) (f : ℕ) (i j : Image) → (is : IsMounted m windows h f i) → SameArea m.volume.layout (in_runs windows) i j → ShowsPages m.volume.layout windows (is.disk ∷ []) j
    → SavesPages m.volume.layout j is.disk → IsSound m.volume.layout windows h f j
closing_sound m windows h f i j is same shows saves =
    let l = m.volume.layout in
    let forced : HasForced m.volume windows h f j is.disk = record {
      telling = is.forced.telling;
      told = is.forced.told;
      described = describes_area l (in_runs windows) (after (take f h)) is.forced.telling.entries i j same is.forced.described;
      taken = is.forced.taken;
      leaders = is.forced.leaders;
    } in
    sound_from_pages l windows h f (is.disk ∷ []) j shows
    (λ pages one. one_of (λ ps. Tells l (in_runs windows) j h f (told_in ps)) is.disk pages (tells_forced m.volume windows h f j is.disk (some_forced m windows h f i is) forced) one)
    (λ pages one. one_of (SavesPages l j) is.disk pages saves one)

pub area_behind : (l : Layout) (s : ℕ) → IsTrue (is_data l s) → data_start l ≤ s
area_behind l s is = leb-true (data_start l) s (and_parts (nat_le (data_start l) s) (nat_lt s l.sectors) is).0

-- what is written to the map leaves the volume mounted
pub map_may_be_written : (m : Mounted) (windows : List WeakRun) (h : List Change) (f : ℕ) (i j : Image) → length j ≡ length i → SameFront m.volume.layout i j → ((s : ℕ) → data_start m.volume.layout ≤ s → sector_at j s ≡ sector_at i s)
    → IsMounted m windows h f i → IsMounted m windows h f j
map_may_be_written m windows h f i j size front behind is =
    let same : SameArea m.volume.layout (in_runs windows) i j = λ s from. inl (behind s from) in
    record {
      files = is.files;
      described = describes_area m.volume.layout (in_runs windows) m.volume.files m.volume.entries i j same is.described;
      count = is.count;
      few = is.few;
      epoch = is.epoch;
      third = is.third;
      room = is.room;
      in_memory = is.in_memory;
      spaced = is.spaced;
      open_ones = open_worn (in_runs windows) i j m (λ s at. same s (area_behind m.volume.layout s (open_in_area m.volume is.spaced s at))) is.open_ones;
      disk = is.disk;
      records = is.records;
      over = record {
        shows = front_shows m.volume.layout windows (is.disk ∷ []) i j is.room front (omega (arith, size)) is.over.shows;
        own = own_same m.volume.layout m.anchor (weak_of windows) i j front is.third is.records m.head is.over.own;
        clean = is.over.clean;
      };
      forced = record {
        telling = is.forced.telling;
        told = is.forced.told;
        described = describes_area m.volume.layout (in_runs windows) (after (take f h)) is.forced.telling.entries i j same is.forced.described;
        taken = is.forced.taken;
        leaders = is.forced.leaders;
      };
    }

-- ---- its anchors are written

-- Of an image the anchors may be closed: it shows these pages alone, each copy that says so is the volume's own anchor, and
-- all else is as it was.
pub record ClosesAnchors (l : Layout) (windows : List WeakRun) (a : Anchor) (pages : List (List ℕ)) (i j : Image) : Type 0 where
  pub shows : ShowsPages l windows (pages ∷ []) j
  pub closed : EachClosed j (λ b. b ≡ a)
  pub roots : HasOwnRoots l (weak_of windows) j
  pub others : (s : ℕ) → s ≢ 8 → s ≢ 12 → sector_at j s ≡ sector_at i s
  pub size : length j ≡ length i

-- the places of an anchor
abbrev pub IsAnchorPlace : ℕ → Type 0
IsAnchorPlace s = (s ≡ 8) ⊎ (s ≡ 12)

-- a root is none
not_root : (s p : ℕ) → IsAnchorPlace s → p < 8 → p ≢ s
not_root s p place low e = ⊎_elim (λ is. omega (arith, e, is, low)) (λ is. omega (arith, e, is, low)) place

roots_kept : (l : Layout) (weak : Sectors) (s : ℕ) (bytes : List ℕ) (i : Image) → IsAnchorPlace s → HasOwnRoots l weak i → HasOwnRoots l weak (with_sector i s bytes)
roots_kept l weak s bytes i place roots = (
  has_on weak i (with_sector i s bytes) (root_bytes l) 0 (inl (with_other i s 0 bytes (not_root s 0 place (omega arith)))) roots.0,
  has_on weak i (with_sector i s bytes) (root_bytes l) 4 (inl (with_other i s 4 bytes (not_root s 4 place (omega arith)))) roots.1,
)

module _ (m : Mounted) (windows : List WeakRun) (narrow : IsNarrow (weak_of windows)) (h : List Change) (f : ℕ) (i : Image) (is : IsMounted m windows h f i) where
  own_spelled : (p : ℕ) (bytes : List ℕ) → IsAnchorPlace p → sector_at i p ≡ Whole bytes → (read_anchor bytes ≡ Some m.anchor) × (bytes ≡ anchor_bytes m.anchor)
  own_spelled p bytes (inl first) at =
      let there : sector_at i 8 ≡ Whole bytes = ap (sector_at i) (sym first) ∙ at in
      spelled_open i 8 m.anchor bytes there is.over.own.opened.0 is.over.own.own.0 (is.over.shows.readable.anchors.first bytes there)
  own_spelled p bytes (inr second) at =
      let there : sector_at i 12 ≡ Whole bytes = ap (sector_at i) (sym second) ∙ at in
      spelled_open i 12 m.anchor bytes there is.over.own.opened.1 is.over.own.own.1 (is.over.shows.readable.anchors.second bytes there)

  -- a copy stands, since they are not weak at once
  other_whole : sector_at i 8 ≡ Damaged → (bytes : List ℕ) × (sector_at i 12 ≡ Whole bytes)
  other_whole hurt = ⊎_elim (λ whole. whole)
      (λ worse. absurd (narrow 8 12 (omega arith) (is.over.shows.readable.roots.twins 8 refl hurt) (is.over.shows.readable.roots.twins 12 refl worse)))
      (whole_or_damaged (sector_at i 12))

  some_read : (bytes : List ℕ) × (read_anchor bytes ≡ Some m.anchor)
  some_read = ⊎_elim
      (λ whole. (whole.0, (own_spelled 8 whole.0 (inl refl) whole.1).0))
      (λ hurt. let whole = other_whole hurt in (whole.0, (own_spelled 12 whole.0 (inr refl) whole.1).0))
      (whole_or_damaged (sector_at i 8))

  fits : is_anchor m.anchor ≡ true
  fits = read_is_anchor some_read.0 m.anchor some_read.1

  small : IsAnchor m.anchor
  small = anchor_read some_read.0 m.anchor some_read.1

  inside : (s : ℕ) → IsAnchorPlace s → s < length i
  inside s place = let long = is.over.shows.readable.roots.fits in ⊎_elim (λ at. omega (arith, at, long, is.room)) (λ at. omega (arith, at, long, is.room)) place

  -- nothing is written yet
  pub closes_none_yet : ClosesAnchors m.volume.layout windows m.anchor is.disk i i
  closes_none_yet = record {
    shows = is.over.shows;
    closed = (subst (λ (o : Option Anchor). IfSome o (λ b. b ≡ m.anchor)) (sym is.over.own.opened.0) tt, subst (λ (o : Option Anchor). IfSome o (λ b. b ≡ m.anchor)) (sym is.over.own.opened.1) tt);
    roots = is.over.own.roots;
    others = λ s first second. refl;
    size = refl;
  }

  -- one more copy says so
  module _ (s : ℕ) (place : IsAnchorPlace s) (c : Image) (closes : ClosesAnchors m.volume.layout windows m.anchor is.disk i c) where
    room : s < length c
    room = omega (arith, inside s place, closes.size)

    says : closed_at (with_sector c s (closed_bytes m.anchor)) s ≡ Some m.anchor
    says = ap (λ (x : Sector). option_and_then read_closed (bytes_of x)) (with_same c s (closed_bytes m.anchor) room) ∙ closed_is_read_closed m.anchor fits small.epoch small.first

    closed_copy : (p : ℕ) → IfSome (closed_at c p) (λ b. b ≡ m.anchor) → IfSome (closed_at (with_sector c s (closed_bytes m.anchor)) p) (λ b. b ≡ m.anchor)
    closed_copy p was = ⊎_elim
        (λ same. subst (λ (o : Option Anchor). IfSome o (λ b. b ≡ m.anchor)) (sym (ap (closed_at (with_sector c s (closed_bytes m.anchor))) same ∙ says)) refl)
        (λ differs. subst (λ (o : Option Anchor). IfSome o (λ b. b ≡ m.anchor)) (sym (ap (λ (x : Sector). option_and_then read_closed (bytes_of x)) (with_other c s p (closed_bytes m.anchor) differs))) was) (same_or p s)

    closes_more_once : ShowsPages m.volume.layout windows (is.disk ∷ []) (with_sector c s (closed_bytes m.anchor)) → ClosesAnchors m.volume.layout windows m.anchor is.disk i (with_sector c s (closed_bytes m.anchor))
    closes_more_once shows = record {
      shows = shows;
      closed = (closed_copy 8 closes.closed.0, closed_copy 12 closes.closed.1);
      roots = roots_kept m.volume.layout (weak_of windows) s (closed_bytes m.anchor) c place closes.roots;
      others = λ p first second. with_other c s p (closed_bytes m.anchor) (λ e. ⊎_elim (λ at. first (e ∙ at)) (λ at. second (e ∙ at)) place) ∙ closes.others p first second;
      size = length-set c s (Whole (closed_bytes m.anchor)) ∙ closes.size;
    }

    -- where it stands open
    shows_over : sector_at c s ≡ Whole (anchor_bytes m.anchor) → ShowsPages m.volume.layout windows (is.disk ∷ []) (with_sector c s (closed_bytes m.anchor))
    shows_over was = closed_shows m.volume.layout windows narrow (is.disk ∷ []) s place m.anchor fits small.epoch small.first c room was closes.roots closes.shows

  -- ---- the first copy

  -- it is written as it was, where it is damaged
  first_mended : sector_at i 8 ≡ Damaged → ShowsPages m.volume.layout windows (is.disk ∷ []) (with_sector i 8 (anchor_bytes m.anchor))
  first_mended hurt =
      let whole = other_whole hurt in
      subst (λ (bytes : List ℕ). ShowsPages m.volume.layout windows (is.disk ∷ []) (with_sector i 8 bytes)) (own_spelled 12 whole.0 (inr refl) whole.1).1
      (anchor_shows m.volume.layout windows narrow (is.disk ∷ []) 8 12 (inl (refl, refl)) i whole.0 (inside 8 (inl refl)) whole.1 hurt (is.over.shows.readable.roots.twins 8 refl hurt) is.over.shows)

  first_shows : ShowsPages m.volume.layout windows (is.disk ∷ []) (with_sector i 8 (closed_bytes m.anchor))
  first_shows = ⊎_elim
      (λ whole. shows_over 8 (inl refl) i closes_none_yet (whole.1 ∙ ap (λ (b : List ℕ). Whole b) (own_spelled 8 whole.0 (inl refl) whole.1).1))
      (λ hurt.
      let c : Image = with_sector i 8 (anchor_bytes m.anchor) in
      let long : length c ≡ length i = length-set i 8 (Whole (anchor_bytes m.anchor)) in
      subst (ShowsPages m.volume.layout windows (is.disk ∷ [])) (set-set i 8 (Whole (anchor_bytes m.anchor)) (Whole (closed_bytes m.anchor)))
      (closed_shows m.volume.layout windows narrow (is.disk ∷ []) 8 (inl refl) m.anchor fits small.epoch small.first c (omega (arith, long, inside 8 (inl refl))) (with_same i 8 (anchor_bytes m.anchor) (inside 8 (inl refl)))
      (roots_kept m.volume.layout (weak_of windows) 8 (anchor_bytes m.anchor) i (inl refl) is.over.own.roots) (first_mended hurt)))
      (whole_or_damaged (sector_at i 8))

  pub closes_first : ClosesAnchors m.volume.layout windows m.anchor is.disk i (with_sector i 8 (closed_bytes m.anchor))
  closes_first = closes_more_once 8 (inl refl) i closes_none_yet first_shows

  -- ---- and the second

  second_same : sector_at (with_sector i 8 (closed_bytes m.anchor)) 12 ≡ sector_at i 12
  second_same = with_other i 8 12 (closed_bytes m.anchor) (λ e. omega (arith, e))

  second_shows : ShowsPages m.volume.layout windows (is.disk ∷ []) (with_sector (with_sector i 8 (closed_bytes m.anchor)) 12 (closed_bytes m.anchor))
  second_shows = ⊎_elim
      (λ whole. shows_over 12 (inr refl) (with_sector i 8 (closed_bytes m.anchor)) closes_first (second_same ∙ whole.1 ∙ ap (λ (b : List ℕ). Whole b) (own_spelled 12 whole.0 (inr refl) whole.1).1))
      (λ hurt. anchor_shows m.volume.layout windows narrow (is.disk ∷ []) 12 8 (inr (refl, refl)) (with_sector i 8 (closed_bytes m.anchor)) (closed_bytes m.anchor)
      (omega (arith, inside 12 (inr refl), closes_first.size)) (with_same i 8 (closed_bytes m.anchor) (inside 8 (inl refl))) (second_same ∙ hurt) (is.over.shows.readable.roots.twins 12 refl hurt) first_shows)
      (whole_or_damaged (sector_at i 12))

  pub closes_both : ClosesAnchors m.volume.layout windows m.anchor is.disk i (with_sector (with_sector i 8 (closed_bytes m.anchor)) 12 (closed_bytes m.anchor))
  closes_both = closes_more_once 12 (inr refl) (with_sector i 8 (closed_bytes m.anchor)) closes_first second_shows

  -- ---- it is sound

  module _ (j : Image) (closes : ClosesAnchors m.volume.layout windows m.anchor is.disk i j) where
    not_anchor : (s : ℕ) → 16 ≤ s → sector_at j s ≡ sector_at i s
    not_anchor s from = closes.others s (λ e. omega (arith, from, e)) (λ e. omega (arith, from, e))

    closes_saves : MapTells m.volume.layout m.anchor.epoch is.disk i → SavesPages m.volume.layout j is.disk
    closes_saves tells =
        saved_so m.volume.layout m.anchor.epoch is.disk j
        (map_tells_on m.volume.layout m.anchor.epoch is.disk i j (λ s from below bytes there. ap bytes_of (sym (not_anchor s (omega (arith, from)))) ∙ there) tells)
        (each_closed _ _ j j (λ b own. ap (λ (x : Anchor). x.epoch) own) (closes_none j j (λ bytes there. there) (λ bytes there. there)) closes.closed)

    pub closes_sound : MapTells m.volume.layout m.anchor.epoch is.disk i → IsSound m.volume.layout windows h f j
    closes_sound tells = closing_sound m windows h f i j is (λ s from. inl (not_anchor s (omega (arith, from)))) closes.shows (closes_saves tells)
