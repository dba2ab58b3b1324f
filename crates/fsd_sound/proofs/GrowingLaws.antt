-- A mounted volume whose image has room for more sectors gets the roots of its layout with so many: each image on the way is
-- sound by the layout, and at the end the volume is mounted with the other one.
use Rattle.std.proofs.Common.{◌≡◌, ◌⊎◌, inl, inr, ℕ, ◌^◌, ◌<◌, ◌≤◌, ◌*◌, ◌+◌, ◌&&◌, ◌||◌, not, Bool, List, [], ◌∷◌, ◌++◌, length, take, refl, sym, ap, subst, ◌∙◌, arith}
use Rattle.std.specs.Prelude.{IsFalse, IsTrue, nat_le, nat_lt}
use Rattle.std.specs.List.{AllByRecursion, flat_map, list_all}
use Rattle.std.proofs.lemmas.Bool.{and_from, and_parts, leb-true, le-leb, lt-ltb, ltb-true}
use Rattle.volume_layout.specs.declared.layout.Layout.{Layout}
use Rattle.volume_layout.specs.Layout.{data_start, is_data, turned, with_sectors, IsSized}
use Rattle.volume_layout.proofs.TurnedLaws.{kind_differs}
use Rattle.run_table.specs.RunTable.{sectors_of}
use Rattle.run_table.specs.Space.{all_differ}
use Rattle.fsd_formats.specs.declared.anchor.Anchor.{Anchor}
use Rattle.fsd_formats.specs.declared.entry.Entry.{Entry}
use Rattle.sector_disk.specs.declared.sector.WeakRun.{WeakRun}
use Rattle.sector_disk.specs.Image.{sector_at, IsWorn}
use Rattle.fsd_log.specs.Scan.{IsLog, Placed, Walked, tape}
use Rattle.fsd_files.specs.Disk.{Image, Sectors, bytes_at, bytes_of, in_runs}
use Rattle.fsd_files.specs.Files.{Change, Files, after}
use Rattle.fsd_files.specs.Kept.{Describes}
use Rattle.fsd_files.specs.Volume.{Volume, in_version, is_in, plans_of, waits}
use Rattle.fsd_files.specs.Waiting.{is_kept_alone, is_let_go}
use Rattle.fsd_files.proofs.WaitLaws.{open_in_area}
use Rattle.fsd_sound.specs.Laid.{AllLaid, HasOwnLog}
use Rattle.fsd_sound.specs.Mounted.{IsMounted, Mounted}
use Rattle.fsd_sound.specs.Sound.{EachBeside, IsEither, IsSound, ShowsPages, weak_of}
use Rattle.fsd_sound.proofs.AlikeLaws.{each_same, log_same}
use Rattle.fsd_sound.proofs.BesideLaws.{apart_covered}
use Rattle.fsd_sound.proofs.EmptyLaws.{own_anchor}
use Rattle.fsd_sound.proofs.LaidLaws.{own_worn}
use Rattle.fsd_sound.proofs.LogPlaces.{IsRecord, SameLog, copies_same, front_same, goes_records, in_record, same_tape, scan_goes, start_in}
use Rattle.fsd_sound.proofs.MountedLaws.{all_data, data_behind, describes_data}
use Rattle.fsd_sound.proofs.OpenLaws.{open_worn}
use Rattle.fsd_sound.proofs.RootingLaws.{data_same, rooting_says, rooting_sound, two, two_is, two_roots, two_same, two_shows, with_roots}
use Rattle.fsd_sound.proofs.SavedLaws.{closes_none, stays_open}
use Rattle.fsd_sound.proofs.SizedLaws.{all_laid_sized, scan_sized}
use Rattle.fsd_sound.proofs.SoundLaws.{shows_still}
use Rattle.fsd_sound.proofs.WindowLaws.{borne_apart, borne_narrow}

-- ---- the data area

module _ (l : Layout) (n : ℕ) (sized : IsSized l (with_sectors n l)) (more : l.sectors ≤ n) where
  pub grown_covers : (s : ℕ) → IsTrue (is_data l s) → IsTrue (is_data (with_sectors n l) s)
  grown_covers s there =
      let parts = and_parts (nat_le (data_start l) s) (nat_lt s l.sectors) there in
      let from = leb-true (data_start l) s parts.0 in
      let to = ltb-true s l.sectors parts.1 in
      and_from _ _ (le-leb (data_start (with_sectors n l)) s (omega (arith, from, sized.map))) (lt-ltb s n (omega (arith, to, more)))

  -- a sector of it is free by the one where it is by the other
  let_go_same : (v : Volume) (s : ℕ) → v.layout ≡ l → IsTrue (is_data l s) → IsFalse (is_let_go v s) → IsFalse (is_let_go (record v { layout = with_sectors n l }) s)
  let_go_same v s is there none =
      let same : is_data v.layout s ≡ is_data (with_sectors n l) s = ap (λ (x : Layout). is_data x s) is ∙ there ∙ sym (grown_covers s there) in
      subst (λ (b : Bool). IsFalse ((b && not (in_version v s) && not (waits v s)) || is_in v.drafts s || is_kept_alone v s)) same none

-- ---- the log

module _ (l : Layout) (a : Anchor) (weak : Sectors) (i j : Image) (same : SameLog l i j) where
  all_laid_log : (rs : List Placed) → AllByRecursion (IsRecord l a.third) rs → AllLaid l a weak i rs → AllLaid l a weak j rs
  all_laid_log [] are laid = tt
  all_laid_log (r ∷ rs) are laid = (
    (front_same l a weak i j r are.0 (in_record l a weak i j same r are.0) laid.0.0, copies_same l a weak i j r are.0 (in_record l a weak i j same r are.0) laid.0.1),
    all_laid_log rs are.1 laid.1,
  )

module _ (m : Mounted) (windows : List WeakRun) (h : List Change) (f : ℕ) (i : Image) (is : IsMounted m windows h f i) (few : m.volume.layout.pages ≤ 2 ^ 32) (n : ℕ) (sized : IsSized m.volume.layout (with_sectors n m.volume.layout)) (more : m.volume.layout.sectors ≤ n) (long : n ≤ length i) where
  abbrev l : Layout
  l = m.volume.layout

  abbrev k : Layout
  k = with_sectors n m.volume.layout

  covers : (s : ℕ) → IsTrue (is_data m.volume.layout s) → IsTrue (is_data k s)
  covers = grown_covers m.volume.layout n sized more

  may_grow : IsEither m.volume.layout k windows i
  may_grow = record { borne = is.over.shows.readable.borne; fits = long; empty = λ same. absurd (kind_differs m.volume.layout.kind (ap (λ (x : Layout). x.kind) same)); opened = λ same. is.over.own.opened }

  -- ---- each moment

  module _ (first second : ℕ) (once : first ≤ 1) (once_more : second ≤ 1) (j : Image) (worn : IsWorn (weak_of windows) (with_roots k i first second) j) where
    pub growing_sound : IsSound m.volume.layout windows h f j
    growing_sound = rooting_sound m windows h f i is k (inr sized) may_grow covers first second once once_more j worn

    pub growing_says : EachBeside m.volume.layout j (λ x. x ≡ k)
    growing_says = rooting_says m windows h f i is k (inr sized) may_grow covers first second once once_more j worn

  -- ---- the end

  abbrev end : Image
  end = two m windows h f i is k (inr sized) may_grow covers

  behind : (s : ℕ) → 5 ≤ s → sector_at end s ≡ sector_at i s
  behind = two_same m windows h f i is k (inr sized) may_grow covers

  own_end : HasOwnLog k m.anchor is.records m.head (weak_of windows) end
  own_end =
      let own = is.over.own in
      let front : (s : ℕ) → 8 ≤ s → s < 16 + 3 * l.third → sector_at end s ≡ sector_at i s = λ s from lt. behind s (omega (arith, from)) in
      let same : SameLog m.volume.layout i end = log_same m.volume.layout i end front in
      let are : AllByRecursion (IsRecord m.volume.layout m.anchor.third) is.records =
      subst (λ (w : Walked). AllByRecursion (IsRecord m.volume.layout m.anchor.third) w.records) own.log.scanned
      (goes_records m.volume.layout m.anchor.epoch m.anchor.third is.third (tape m.volume.layout m.anchor.third (bytes_at i)) _ _ _ (start_in m.volume.layout m.anchor.first) (scan_goes m.volume.layout m.anchor.epoch m.anchor.first (tape m.volume.layout m.anchor.third (bytes_at i)))) in
      let log : IsLog m.volume.layout m.anchor.epoch m.anchor.first (tape m.volume.layout m.anchor.third (bytes_at end)) is.records m.head =
      subst (λ t. IsLog m.volume.layout m.anchor.epoch m.anchor.first t is.records m.head) (sym (same_tape m.volume.layout i end same m.anchor.third is.third)) own.log in
      record {
        roots = two_roots m windows h f i is k (inr sized) may_grow covers;
        own = each_same m.volume.layout i end front (λ b. b ≡ m.anchor) (λ b. b ≡ m.anchor) (λ b low same. same) own.own;
        opened = stays_open i end (closes_none i end (λ bytes there. ap bytes_of (sym (behind 8 (omega arith))) ∙ there) (λ bytes there. ap bytes_of (sym (behind 12 (omega arith))) ∙ there)) own.opened;
        log = record { scanned = scan_sized m.volume.layout n m.anchor.epoch m.anchor.first (tape m.volume.layout m.anchor.third (bytes_at end)) ∙ log.scanned; fresh = log.fresh };
        laid = all_laid_sized m.volume.layout n m.anchor (weak_of windows) end is.records (all_laid_log m.volume.layout m.anchor (weak_of windows) i end same is.records are own.laid);
      }

  module _ (j : Image) (worn : IsWorn (weak_of windows) (with_roots k i 1 1) j) where
    worn_end : IsWorn (weak_of windows) end j
    worn_end = subst (λ (c : Image). IsWorn (weak_of windows) c j) (two_is m windows h f i is k (inr sized) may_grow covers) worn

    own_grown : HasOwnLog k m.anchor is.records m.head (weak_of windows) j
    own_grown =
        let a = own_anchor m.volume.layout windows (is.disk ∷ []) m.anchor is.records m.head i is.over.shows is.over.own in
        own_worn k few m.anchor a.epoch is.third (weak_of windows) (borne_apart k windows is.over.shows.readable.borne) end j worn_end is.records m.head own_end

    shows_now : ShowsPages k windows (is.disk ∷ []) j
    shows_now = shows_still k windows (borne_narrow k windows is.over.shows.readable.borne) (is.disk ∷ []) end j worn_end (two_shows m windows h f i is k (inr sized) may_grow covers)

    describes_grown : (files : Files) (entries : List Entry) → Describes m.volume.layout (in_runs windows) i files entries → Describes k (in_runs windows) j files entries
    describes_grown files entries d =
        let there = describes_data m.volume.layout (in_runs windows) files entries i j (data_same m windows h f i is k (inr sized) may_grow covers 1 1 (omega arith) (omega arith) j worn) d in
        record { lists = there.lists; apart = apart_covered m.volume.layout k covers (plans_of entries) there.apart; kept = there.kept }

    -- a sector of what is forced lies in the data area
    forced_data : (s : ℕ) → IsTrue (is_in (plans_of is.forced.telling.entries) s) → IsTrue (is_data m.volume.layout s)
    forced_data s at =
        let sectors = flat_map sectors_of (plans_of is.forced.telling.entries) in
        all_data m.volume.layout sectors s (and_parts (all_differ sectors) (list_all (is_data m.volume.layout) sectors) is.forced.described.apart).1 at

    pub grown_mounted : IsMounted (record m { volume = record m.volume { layout = k } }) windows h f j
    grown_mounted =
        let same = data_same m windows h f i is k (inr sized) may_grow covers 1 1 (omega arith) (omega arith) j worn in
        let opened = open_worn (in_runs windows) i j m (λ s at. same s (data_behind m.volume.layout s (open_in_area m.volume is.spaced s at))) is.open_ones in
        record {
          files = is.files;
          described = describes_grown m.volume.files m.volume.entries is.described;
          count = is.count;
          few = is.few;
          epoch = is.epoch;
          third = is.third;
          room = omega (arith, is.room, more);
          in_memory = is.in_memory;
          spaced = record { apart = apart_covered m.volume.layout k covers (plans_of m.volume.entries ++ m.volume.drafts) is.spaced.apart; area = λ s at. covers s (is.spaced.area s at); drafts = is.spaced.drafts; removed = is.spaced.removed; held = is.spaced.held };
          open_ones = record { drafts = opened.drafts; held = opened.held };
          disk = is.disk;
          records = is.records;
          over = record { shows = shows_now; own = own_grown; clean = is.over.clean };
          forced = record {
            telling = is.forced.telling;
            told = is.forced.told;
            described = describes_grown (after (take f h)) is.forced.telling.entries is.forced.described;
            taken = λ s at. let_go_same m.volume.layout n sized more m.volume s refl (forced_data s at) (is.forced.taken s at);
            leaders = is.forced.leaders;
          };
        }
