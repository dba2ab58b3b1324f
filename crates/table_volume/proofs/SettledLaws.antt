-- A sound disk once a mount has settled: its pages stand at home, and the volume that is made of them stands over it.
use Rattle.std.proofs.Common.{◌≡◌, inl, inr, ℕ, ◌-◌, ◌^◌, ◌<◌, ◌≤◌, Bool, List, [], ◌∷◌, ◌++◌, get_or, length, take, Option, Some, None, Ok, Err, refl, sym, ap, subst, ◌∙◌, arith}
use Rattle.std.specs.Prelude.{IfOk, IsSome, IsTrue, Result, option_and_then}
use Rattle.std.specs.List.{AllZip}
use Rattle.std.proofs.lemmas.List.{ext_get_or}
use Rattle.std.proofs.lemmas.List.FromFn.{length-range_with_len}
use Rattle.std.proofs.lemmas.Option.{get_or_from_slice_get, same_Some}
use Rattle.volume_layout.specs.declared.layout.Layout.{Layout}
use Rattle.volume_layout.specs.Layout.{home_a, home_b}
use Rattle.volume_layout.proofs.RegionLaws.{regions_apart}
use Rattle.volume_layout.proofs.RootLaws.{planned_bounds}
use Rattle.sector_disk.specs.declared.sector.Sector.{Sector}
use Rattle.sector_disk.specs.declared.sector.WeakRun.{WeakRun}
use Rattle.sector_disk.specs.Image.{AreShort, IsWorn, Windows, in_weak_run, open_damage, sector_at}
use Rattle.sector_disk.specs.Machine.{Moment, Wears}
use Rattle.sector_disk.proofs.Wear.{worn_refl}
use Rattle.fsd_formats.specs.declared.anchor.Anchor.{Anchor}
use Rattle.fsd_formats.specs.declared.entry.Entry.{Entry}
use Rattle.fsd_log.specs.Scan.{Head, Walked}
use Rattle.fsd_table.specs.Table.{Telling}
use Rattle.fsd_files.specs.Disk.{Has, Image, SectorWorn, bytes_at, bytes_of, first_whole, in_runs}
use Rattle.fsd_files.specs.Files.{Change, Files, after}
use Rattle.fsd_files.specs.Kept.{Describes, IsEntryOf}
use Rattle.fsd_files.proofs.WearLaws.{has_still, kept_still}
use Rattle.fsd_sound.specs.Anchors.{anchor_of, fresh_anchor}
use Rattle.fsd_sound.specs.Homes.{home_of}
use Rattle.fsd_sound.specs.Laid.{HasOwnLog}
use Rattle.fsd_sound.specs.Choices.{TellsChoices}
use Rattle.fsd_sound.specs.Mounted.{IsFreshlyMounted, IsMounted, Mounted, SameData}
use Rattle.fsd_sound.specs.Shown.{all_pages, records_by, shown, shown_by}
use Rattle.fsd_sound.specs.Sound.{EndIn, SaysNoMore, ShowsOne, ShowsPages, weak_of}
use Rattle.fsd_sound.specs.Windows.{IsApart}
use Rattle.fsd_sound.specs.Writes.{WritesAsMount}
use Rattle.fsd_sound.specs.declared.fault.MountFault.{MountFault}
use Rattle.fsd_sound.specs.declared.fault.MountFault.TheVariants.{Device, Memory, Unsound}
use Rattle.fsd_sound.proofs.EachLaws.{each_size}
use Rattle.fsd_sound.proofs.LaidLaws.{own_worn}
use Rattle.fsd_sound.proofs.MountedLaws.{fresh_mounted as mounted_fresh, one_of}
use Rattle.fsd_sound.proofs.SaidLaws.{says_no_more_then, worn_says}
use Rattle.fsd_sound.proofs.SoundLaws.{shows_still, sound_still, weak_within_hurt}
use Rattle.fsd_sound.proofs.WindowLaws.{apart_narrow, last_snoc, open_is_weak, borne_apart}
use Rattle.log_thirds.specs.LogValue.{LogValue}
use Rattle.mount_recover.specs.Recover.{IsFreshLog, IsSettledIn}
use Rattle.mount_recover.specs.Replay.{IsReplayed}
use Rattle.table_pages.specs.ImageLaws.{image_at as page_at, image_count}
use Rattle.fsd_table.specs.Breaks.{BreaksAt}
use Rattle.volume_contract.specs.Mount.{Excuses, IsSoundAt, Mounts, SettledDisk, SoundSince}
use Rattle.volume_contract.specs.State.{Fits, Known, Stands, none_open}
use Rattle.cached_table.specs.HomeLaws.{in_homes}
use Rattle.cached_table.specs.Homes.{KnowsHomes, home_by}
use Rattle.table_volume.specs.Mounting.{IsAssembled, OpensKnown, fresh_mounted, opened_of}
use Rattle.cached_table.specs.Opening.{IsNoTable, IsTableOf, home_pages}
use Rattle.volume_laws.specs.State.{IsMemoryOf, state}
use Rattle.volume_laws.specs.Volume.{VolumeValue}
use Rattle.table_volume.proofs.EpochLaws.{raised}
use Rattle.table_volume.proofs.FreshLaws.{fresh_fits, fresh_holds}
use Rattle.volume_laws.proofs.MomentLaws.{TellsFiles, described_since, files_now, sound_since, worn_both}
use Rattle.table_volume.proofs.UnbrokenLaws.{told_unbroken}
use Rattle.volume_laws.proofs.ListLaws.{lists_of}
use Rattle.volume_layout.specs.Kinds.{gap_of}

-- ---- how many pages are shown

shown_size : (l : Layout) (i : Image) (pages : List (List ℕ)) → shown l i ≡ Some pages → length pages ≡ l.pages
shown_size l i pages e = by (anchor_of i) e
  where
    by : (o : Option Anchor) → option_and_then (shown_by l i) o ≡ Some pages → length pages ≡ l.pages
    by None e = absurd (cc e)
    by (Some a) e = each_size _ (all_pages l) pages e ∙ length-range_with_len 0 l.pages

pub one_size : (l : Layout) (windows : List WeakRun) (pages : List (List ℕ)) (i : Image) → ShowsPages l windows (pages ∷ []) i → length pages ≡ l.pages
one_size l windows pages i shows = by (shown l i) refl (shows.shows i (worn_refl (weak_of windows) i))
  where
    by : (o : Option (List (List ℕ))) → shown l i ≡ o → ShowsOne (pages ∷ []) o → length pages ≡ l.pages
    by None is one = absurd one
    by (Some others) is one = ap (λ (ps : List (List ℕ)). length ps) (sym (one_of (λ ps. ps ≡ pages) pages others refl one)) ∙ shown_size l i others is

-- the entries are as many as the files
as_many_entries : (files : Files) (entries : List Entry) → AllZip IsEntryOf files entries → length files ≡ length entries
as_many_entries [] [] lists = refl
as_many_entries [] (e ∷ entries) lists = absurd lists
as_many_entries (v ∷ files) [] lists = absurd lists
as_many_entries (v ∷ files) (e ∷ entries) lists = let rest = as_many_entries files entries lists.1 in omega (arith, rest)

-- ---- at home

-- of two copies that aren't weak at once one gives the bytes
twice_home : (weak : ℕ → Bool) (i : Image) (bytes : List ℕ) (a b : ℕ) → (IsTrue (weak a) → IsTrue (weak b) → ⊥) → Has weak i bytes a → Has weak i bytes b → first_whole (bytes_at i a) (bytes_at i b) ≡ Some bytes
twice_home weak i bytes a b apart (inl first) second = ap (λ (s : Sector). first_whole (bytes_of s) (bytes_at i b)) first
twice_home weak i bytes a b apart (inr hurt) (inl second) = ap (λ (s : Sector). first_whole (bytes_of s) (bytes_at i b)) hurt.1 ∙ ap bytes_of second
twice_home weak i bytes a b apart (inr hurt) (inr more) = absurd (apart hurt.0 more.0)

module _ (sectors : ℕ) (l : Layout) (windows : List WeakRun) (h : List Change) (f : ℕ) (old : Moment) (begun : IsSoundAt sectors l windows h f old) (lists : TellsChoices l windows h f old.image)
    (log : LogValue) (mid : Moment) (done : IsReplayed l windows lists.choices log.anchor.epoch mid) (short : AreShort mid.windows) where
  abbrev pub run : WeakRun
  run = done.after.run

  abbrev pub later : List WeakRun
  later = windows ++ done.after.run ∷ []

  abbrev pub pages : List (List ℕ)
  pages = done.after.pages

  pub ends_later : EndIn mid.windows later
  ends_later = record {
    last = last_snoc None windows run ∙ sym (ap (λ (w : Windows). w.present) done.after.settled);
    some = subst (λ (w : Windows). IsSome w.present) (sym done.after.settled) refl;
  }

  apart_later : IsApart (gap_of l) (weak_of later)
  apart_later = borne_apart l later done.after.shows.readable.borne

  worn_later : (i : Image) → IsWorn (open_damage mid.windows) mid.image i → IsWorn (weak_of later) mid.image i
  worn_later i worn = open_is_weak mid.windows later mid.image i ends_later worn

  -- each page stands at home, however the disk wears
  home_gives : (i : Image) → IsWorn (open_damage mid.windows) mid.image i → (page : ℕ) → page < l.pages → home_of l i page ≡ Some (get_or pages page [])
  home_gives i worn page lt =
      let stand = done.home page lt in
      let still = has_still (weak_of later) (weak_of later) mid.image i (λ s weak. weak) (worn_later i worn) (get_or pages page []) in
      twice_home (weak_of later) i (get_or pages page []) (home_a l page) (home_b l page) (λ a b. apart_narrow l later apart_later (home_a l page) (home_b l page) (omega (arith, lt)) a b) (still (home_a l page) stand.0) (still (home_b l page) stand.1)

  pub knows_settled : KnowsHomes l mid
  knows_settled page lt = record { bytes = get_or pages page []; stays = λ i worn. home_gives i worn page lt }

  pub pages_home : home_pages l mid.image ≡ pages
  pages_home =
      let many : length (home_pages l mid.image) ≡ l.pages = image_count (home_by l mid.image) l.pages in
      let size = one_size l later pages mid.image done.after.shows in
      ext_get_or [] (home_pages l mid.image) pages (many ∙ sym size)
      (λ page lt. let within : page < l.pages = omega (arith, lt, many) in
      get_or_from_slice_get (home_pages l mid.image) page (get_or pages page []) []
      (page_at (home_by l mid.image) l.pages page (get_or pages page []) within (in_homes l mid.image page within ∙ home_gives mid.image (worn_refl (open_damage mid.windows) mid.image) page within)))

  -- ---- what the pages tell

  abbrev pub files_settled : TellsFiles l (in_runs windows) old.image h f pages
  files_settled = files_now sectors l windows h f old begun lists run pages done.after.chosen

  abbrev pub count : ℕ
  count = files_settled.count

  module _ (same : SameData l (weak_of windows) old.image mid.image) (said : mid.said ≡ old.said) (rest : WritesAsMount l (weak_of windows) old mid) where
    -- ---- each moment since

    pub since_settled : SaysNoMore old.image mid.image → (left : Moment) → Wears mid left → SoundSince l windows run h count old left
    since_settled says left wears = record {
      settled = wears.windows ∙ done.after.settled;
      said = wears.said ∙ said;
      sound = sound_still l later (apart_narrow l later apart_later) (take count h) count mid.image left.image (worn_later left.image wears.image)
          (sound_since sectors l windows h f old begun lists run pages done.after.chosen mid.image done.after.shows done.after.opened same);
      says = says_no_more_then old.image mid.image left.image says (worn_says (open_damage mid.windows) mid.image left.image wears.image);
      writes = λ s out. worn_both (weak_of windows s) (in_weak_run run s) (sector_at old.image s) (sector_at mid.image s) (sector_at left.image s) (rest s out) (worn_in s (wears.image.each s));
    }
      where
        worn_in : (s : ℕ) → SectorWorn (open_damage mid.windows s) (sector_at mid.image s) (sector_at left.image s) → SectorWorn (in_weak_run run s) (sector_at mid.image s) (sector_at left.image s)
        worn_in s worn = subst (λ (w : Windows). SectorWorn (open_damage w s) (sector_at mid.image s) (sector_at left.image s)) done.after.settled worn

    -- ---- the volume

    module _ (fresh : IsFreshLog l log) (is : IsSettledIn sectors l log old mid) (fits : log.anchor.epoch < 2 ^ 32) (new : Moment) (wears : Wears mid new) where
      worn_new : IsWorn (weak_of later) mid.image new.image
      worn_new = worn_later new.image wears.image

      shows_new : ShowsPages l later (pages ∷ []) new.image
      shows_new = shows_still l later (apart_narrow l later apart_later) (pages ∷ []) mid.image new.image worn_new done.after.shows

      own_new : HasOwnLog l log.anchor [] log.head (weak_of later) new.image
      own_new =
          let bounds = planned_bounds l begun.planned in
          let third : log.anchor.third ≤ 2 = subst (λ (a : Anchor). a.third ≤ 2) (sym fresh.anchor) (omega arith) in
          own_worn l (omega (arith, bounds.pages_most)) log.anchor fits third (weak_of later) apart_later mid.image new.image worn_new [] log.head
          (subst (λ (a : Anchor). HasOwnLog l a [] log.head (weak_of later) mid.image) (sym fresh.anchor)
          (subst (λ (head : Head). HasOwnLog l (fresh_anchor log.anchor.epoch) [] head (weak_of later) mid.image) (sym fresh.head) done.log))

      described_new : Describes l (in_runs later) new.image (after (take count h)) files_settled.telling.entries
      described_new =
          let d = described_since sectors l windows h f old begun lists run pages done.after.chosen mid.image same in
          record { lists = d.lists; apart = d.apart; kept = kept_still (weak_of later) (in_runs later) mid.image new.image (after (take count h)) files_settled.telling.entries (weak_within_hurt later) worn_new d.kept }

      -- with the files that the pages tell
      abbrev pub mounted_new : Mounted
      mounted_new = fresh_mounted l log pages files_settled.telling (after (take count h))

      fresh_new : IsFreshlyMounted (take count h) later new.image mounted_new
      fresh_new = record {
        records = [];
        over = record { shows = shows_new; own = own_new; clean = record { size = refl; each = λ page out. refl } };
        clean = refl;
        told = files_settled.told;
        files = refl;
        described = described_new;
        removed = refl;
        held = refl;
        drafts = refl;
        slices = refl;
        bytes = refl;
        unforced = refl;
        epoch = refl;
        third = subst (λ (a : Anchor). a.third ≤ 2) (sym fresh.anchor) (omega arith);
        room = let apart = regions_apart l begun.planned in omega (arith, apart.map, apart.data_area);
      }

      abbrev pub known_new : Known
      known_new = record { mounted = mounted_new; opened = none_open; windows = later; changes = take count h }

      pub settled_new : SettledDisk l windows run h count known_new old new
      settled_new = record {
        settled = wears.windows ∙ done.after.settled;
        known = refl;
        opened = refl;
        changes = refl;
        layout = refl;
        first = refl;
        raised = raised sectors l windows log old mid begun.ends is later (pages ∷ []) new.image shows_new own_new.own;
        fresh = fresh_new;
      }

      -- ---- what it answers

      stands_new : (v : VolumeValue) → IsAssembled l log v → IsTableOf l pages (opened_of v) → Stands state IsMemoryOf v known_new new
      stands_new v a t =
          let telling : t.telling ≡ files_settled.telling = same_Some t.telling files_settled.telling (sym t.told ∙ files_settled.told) in
          let as_many : length (after (take count h)) ≡ length t.telling.entries = as_many_entries (after (take count h)) files_settled.telling.entries described_new.lists ∙ ap (λ (x : Telling). length x.entries) (sym telling) in
          let holds : IsMemoryOf v mounted_new (records_by l new.image mounted_new.anchor) = subst (IsMemoryOf v mounted_new) (sym (ap (λ (w : Walked). w.records) own_new.log.scanned))
          (subst (λ (x : Telling). IsMemoryOf v (fresh_mounted l log pages x (after (take count h))) []) telling (fresh_holds l begun.planned log v a pages t (after (take count h)) as_many)) in
          record {
            fits = subst (λ (x : Telling). Fits (state v) (fresh_mounted l log pages x (after (take count h)))) telling (fresh_fits l begun.planned log v a pages t (after (take count h)) as_many);
            opened = record { drafts = refl; slices = refl; places = ap (λ (x : VolumeValue). x.shadow.held) a.is; bytes = refl };
            holds = holds;
            lists = lists_of v mounted_new (records_by l new.image mounted_new.anchor) holds;
            ends = record { last = ends_later.last ∙ sym (ap (λ (w : Windows). w.present) wears.windows); some = subst (λ (w : Windows). IsSome w.present) (sym wears.windows) ends_later.some };
            disk = subst (λ (n : ℕ). IsMounted mounted_new later (take count h) n new.image) (let none : length (take count h) ≡ length (take count h) - 0 = omega arith in none) (mounted_fresh mounted_new later (take count h) new.image fresh_new);
            written = tt;
          }

      no_break : (s : ℕ) → BreaksAt l pages s → ⊥
      no_break s breaks = told_unbroken l begun.planned pages files_settled.telling files_settled.told described_new.apart breaks.0 breaks.2

      excused : (fault : MountFault) → IsNoTable l pages fault → Excuses fault
      excused (Device s) none = tt
      excused Memory none = tt
      excused (Unsound s) none = absurd (no_break s none)
      excused other none = absurd none

      pub mounts_new : (r : Result VolumeValue MountFault) → IfOk r (IsAssembled l log) → OpensKnown l mid r → Mounts state IsMemoryOf known_new new r
      mounts_new (Ok v) a opens = stands_new v a (subst (λ (ps : List (List ℕ)). IsTableOf l ps (opened_of v)) pages_home opens)
      mounts_new (Err fault) a opens = excused fault (subst (λ (ps : List (List ℕ)). IsNoTable l ps fault) pages_home opens)
