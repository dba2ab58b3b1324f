-- A volume that has nothing to force writes its map, and then says in both copies of its anchor that it was closed: at each
-- moment its disk is sound, and at the end it has closed.
use Rattle.std.proofs.Common.{◌≡◌, ◌≢◌, ◌⊎◌, inl, inr, ⊎_elim, ℕ, zero, suc, ◌+◌, ◌-◌, ◌^◌, ◌<◌, ◌≤◌, Bool, true, false, not, ◌&&◌, ◌||◌, ◌==◌, cond, List, [], ◌∷◌, length, map, Some, refl, sym, ap, subst, ◌∙◌, arith}
use Rattle.std.specs.Prelude.{IsFalse, IsTrue, count_by, nat_le, nat_lt, slice_index_or}
use Rattle.std.proofs.lemmas.Bool.{and_from, and_parts, both_ways, cases_lt, eq-eqb, le-leb, leb-true, lt-ltb, ltb-true, false_from_ne_true, or_left, or_parts}
use Rattle.std.proofs.lemmas.List.{get_or-map, length-map}
use Rattle.std.proofs.lemmas.List.Sums.{count_by-le-length, sum_by-cons}
use Rattle.std.proofs.lemmas.Option.{slice_get-get_or}
use Rattle.volume_layout.specs.declared.layout.Layout.{Layout}
use Rattle.volume_layout.specs.Layout.{data_start, home_a, is_data, map_sectors, map_start}
use Rattle.volume_layout.specs.Root.{root_bytes}
use Rattle.volume_layout.proofs.RootLaws.{planned_bounds}
use Rattle.run_table.specs.Space.{contains}
use Rattle.run_table.proofs.SectorLaws.{each_in}
use Rattle.sector_set.proofs.FreeLaws.{contains_where}
use Rattle.sector_disk.specs.declared.sector.Sector.{Sector}
use Rattle.sector_disk.specs.declared.sector.Sector.TheVariants.{Whole}
use Rattle.sector_disk.specs.Image.{AreShort, IsWorn, open_damage, sector_at, stand, with_sector}
use Rattle.sector_disk.specs.Machine.{Holds, Moment}
use Rattle.sector_disk.proofs.Calm.{stand_one}
use Rattle.sector_disk.proofs.Wear.{lay_in, lay_other, length-lay, worn_trans}
use Rattle.fsd_formats.specs.declared.anchor.Anchor.{Anchor}
use Rattle.fsd_formats.specs.Anchors.{closed_bytes}
use Rattle.fsd_formats.specs.SavedMap.{MapCounts, is_first_home}
use Rattle.fsd_log.specs.Scan.{Walked}
use Rattle.fsd_forest.proofs.LowLaws.{all_within}
use Rattle.fsd_table.specs.Table.{Telling, top}
use Rattle.fsd_table.specs.Tree.{IsTree, pages_of, table_of}
use Rattle.fsd_table.proofs.TreeLaws.{told_tree}
use Rattle.fsd_table.proofs.VisitLaws.{tree_told}
use Rattle.table_survey.proofs.VisitLaws.{marks_count}
use Rattle.fsd_files.specs.Disk.{Image, SectorWorn, Touches}
use Rattle.fsd_files.specs.Volume.{in_version, is_in, waits}
use Rattle.fsd_files.proofs.KeptLaws.{has_on}
use Rattle.fsd_files.proofs.WaitLaws.{open_in_area}
use Rattle.fsd_sound.specs.Laid.{HasOwnRoots}
use Rattle.fsd_sound.specs.Mounted.{telling_of}
use Rattle.fsd_sound.specs.Saved.{is_reached}
use Rattle.fsd_sound.specs.Shown.{records_by, told}
use Rattle.fsd_sound.specs.Sound.{IsSound, weak_of}
use Rattle.fsd_sound.specs.Windows.{IsNarrow}
use Rattle.fsd_sound.specs.Writes.{in_map, saving_writes}
use Rattle.fsd_sound.proofs.ClosingLaws.{ClosesAnchors, MapTells, area_behind, closes_both, closes_first, closes_none_yet, closes_sound, map_may_be_written, map_tells_on, saved_tells}
use Rattle.fsd_sound.proofs.FrontLaws.{SameFront}
use Rattle.fsd_sound.proofs.MarkedLaws.{FitsHeads, TestTells, marked_has_saved}
use Rattle.fsd_sound.proofs.MountedLaws.{lists_long, mounted_sound, own_same, same_pages, shown_lasts}
use Rattle.fsd_sound.proofs.OpenLaws.{drafts_worn}
use Rattle.fsd_sound.proofs.SavedLaws.{worn_reads}
use Rattle.fsd_sound.proofs.SoundLaws.{sound_still}
use Rattle.fsd_sound.proofs.WindowLaws.{borne_narrow, open_is_weak}
use Rattle.log_thirds.specs.Anchoring.{ClosesIn, with_closed}
use Rattle.saved_map.specs.Marks.{is_marked}
use Rattle.saved_map.specs.Saving.{SavesIn, saved_sector, with_map}
use Rattle.saved_map.proofs.MarkLaws.{marked_data, marked_home}
use Rattle.volume_contract.specs.Ends.{Closes}
use Rattle.volume_contract.specs.State.{Known, LeavesSound, ListsPages, Stands, forced_of}
use Rattle.volume_laws.specs.State.{IsMemoryOf, state}
use Rattle.volume_laws.specs.Volume.{IsWholeVolume, VolumeValue}
use Rattle.volume_laws.specs.WearLaws.{stands_worn}
use Rattle.volume_laws.proofs.FlagLaws.{reached_is}
use Rattle.volume_laws.proofs.TableLaws.{as_many}

-- ---- the map is written

module _ (v : VolumeValue) (sector : ℕ → List ℕ) (old left : Moment) (saves : SavesIn v.layout sector old left) where
  abbrev written : Image
  written = with_map v.layout sector old.image saves.stood

  size : length written ≡ length old.image
  size = length-lay old.image (map_start v.layout) (λ k. Whole (sector k)) saves.stood

  same : (s : ℕ) → (s < map_start v.layout) ⊎ (map_start v.layout + map_sectors v.layout ≤ s) → sector_at written s ≡ sector_at old.image s
  same s out = lay_other old.image (map_start v.layout) (λ k. Whole (sector k)) saves.stood s (⊎_elim (λ below. inl below) (λ behind. inr (omega (arith, behind, saves.within))) out)

  -- a sector of no map lies in front of it or behind
  beside_map : (s : ℕ) → IsFalse (in_map v.layout s) → (s < map_start v.layout) ⊎ (map_start v.layout + map_sectors v.layout ≤ s)
  beside_map s out = elim (cases_lt s (map_start v.layout)) [
    | inl below ↦ inl below
    | inr from ↦ elim (cases_lt s (map_start v.layout + map_sectors v.layout)) [
      | inl inside ↦ absurd (both_ways (in_map v.layout s) out (and_from _ _ (le-leb (map_start v.layout) s from) (lt-ltb s (map_start v.layout + map_sectors v.layout) inside)))
      | inr behind ↦ inr behind
    ]
  ]

  pub touches_map : Touches (saving_writes v.layout) old left
  touches_map = record {
    size = saves.holds.worn.size ∙ size;
    others = λ s out. subst (λ (x : Sector). SectorWorn (open_damage old.windows s) x (sector_at left.image s)) (same s (beside_map s (or_parts (in_map v.layout s) (s == 8) (or_parts (in_map v.layout s || (s == 8)) (s == 12) out).0).0)) (saves.holds.worn.each s);
  }

  module _ (short : AreShort old.windows) (k : Known) (stands : Stands state IsMemoryOf v k old) where
    front : SameFront k.mounted.volume.layout old.image written
    front s lt = same s (inl (omega (arith, lt, ap (λ (l : Layout). map_start l) stands.fits.layout)))

    behind : (s : ℕ) → data_start k.mounted.volume.layout ≤ s → sector_at written s ≡ sector_at old.image s
    behind s from = same s (inr (omega (arith, from, ap (λ (l : Layout). data_start l) stands.fits.layout)))

    same_records : records_by k.mounted.volume.layout old.image k.mounted.anchor ≡ records_by k.mounted.volume.layout written k.mounted.anchor
    same_records =
        let own = stands.disk.over.own in
        let now = own_same k.mounted.volume.layout k.mounted.anchor (weak_of k.windows) old.image written front stands.disk.third stands.disk.records k.mounted.head own in
        ap (λ (w : Walked). w.records) own.log.scanned ∙ sym (ap (λ (w : Walked). w.records) now.log.scanned)

    stands_written : Stands state IsMemoryOf v k (record old { image = written })
    stands_written = record {
      fits = stands.fits;
      opened = stands.opened;
      holds = subst (IsMemoryOf v k.mounted) same_records stands.holds;
      lists = subst (ListsPages (state v) k.mounted.pages) same_records stands.lists;
      ends = stands.ends;
      disk = map_may_be_written k.mounted k.windows k.changes (forced_of k) old.image written size front behind stands.disk;
      written = drafts_worn (open_damage old.windows) old.image written k.mounted.slices k.mounted.volume.drafts
          (λ s there. inl (behind s (area_behind k.mounted.volume.layout s (open_in_area k.mounted.volume stands.disk.spaced s (or_left (is_in k.mounted.volume.drafts s) (is_in k.mounted.volume.held s) there))))) stands.written;
    }

    -- it stands over the disk at each moment
    pub stands_saving : Stands state IsMemoryOf v k left
    stands_saving = stands_worn v k (record old { image = written }) left short (record { image = saves.holds.worn; windows = saves.holds.windows }) stands_written

    -- and a stop leaves a sound disk
    pub saving_leaves : LeavesSound k (saving_writes v.layout) old left
    saving_leaves = record {
      sound = mounted_sound k.mounted k.windows k.changes (forced_of k) left.image stands_saving.disk;
      roots = stands_saving.disk.over.own.roots;
      windows = saves.holds.windows;
      said = saves.holds.said;
      touches = touches_map;
    }

-- ---- the map that was written

-- where the map on the disk is whole, it says what the pages in memory tell
abbrev pub HasMap : Known → Moment → Type 0
HasMap k now = MapTells k.mounted.volume.layout k.mounted.anchor.epoch k.mounted.pages now.image

count_not : (flags : List Bool) → count_by (λ b. b) (map not flags) ≡ count_by not flags
count_not [] = refl
count_not (flag ∷ flags) =
    sum_by-cons (λ (b : Bool). cond b 1 0) (not flag) (map not flags) ∙ ap (λ (n : ℕ). cond (not flag) 1 0 + n) (count_not flags)
    ∙ sym (sum_by-cons (λ (b : Bool). cond (not b) 1 0) flag flags)

-- free is a data sector in no version, where none waits
free_so : (inside version waiting : Bool) → inside ≡ true → waiting ≡ false → (inside && not version && not waiting) ≡ not version
free_so true true false is none = refl
free_so true false false is none = refl
free_so false version waiting is none = absurd (cc is)
free_so true version true is none = absurd (cc none)

module _ (v : VolumeValue) (k : Known) (old : Moment) (whole : IsWholeVolume v) (stands : Stands state IsMemoryOf v k old) where
  -- as many pages are in use as a path reaches
  pub used_pages : count_by not v.free_pages ≡ k.mounted.volume.reached
  used_pages =
      let pages = k.mounted.pages in
      let found = told_tree pages (telling_of k.mounted.volume) stands.disk.in_memory in
      let height : ℕ = found.0 in
      let tree : IsTree pages height = found.1 in
      let many : length (map not v.free_pages) ≡ length v.free_pages = length-map v.free_pages not in
      let long : length v.free_pages ≡ length pages = as_many v k old whole stands in
      let t : Telling = record { entries = table_of pages height; reached = length (pages_of pages height) } in
      let given : Some (telling_of k.mounted.volume) ≡ Some t = sym stands.disk.in_memory ∙ tree_told pages height tree in
      let same : telling_of k.mounted.volume ≡ t = cc given in
      sym (count_not v.free_pages)
      ∙ marks_count (pages_of pages height) (map not v.free_pages) tree.apart
      (λ page there. let within : page < length pages = each_in (λ p. p < length pages) (pages_of pages height) page (all_within (height - 1) pages top tree.subtree) there in omega (arith, within, long, many))
      (λ page lt.
      let inside : page < length v.free_pages = omega (arith, lt, many) in
      slice_get-get_or (map not v.free_pages) page false lt
      ∙ ap (λ (b : Bool). Some b) (get_or-map not v.free_pages page false false inside
      ∙ ap not (stands.holds.free_pages page (omega (arith, inside, whole.pages))) ∙ not_not (is_reached pages page) ∙ reached_is pages height page tree))
      ∙ sym (ap (λ (x : Telling). x.reached) same)
    where
      not_not : (b : Bool) → not (not b) ≡ b
      not_not true = refl
      not_not false = refl

  module _ (idle : (state v).waiting ≡ []) where
    none_waits : (s : ℕ) → IsTrue (is_data k.mounted.volume.layout s) → waits k.mounted.volume s ≡ false
    none_waits s is =
        let parts = and_parts (nat_le (data_start k.mounted.volume.layout) s) (nat_lt s k.mounted.volume.layout.sectors) is in
        sym (contains_where (waits k.mounted.volume) (data_start k.mounted.volume.layout) k.mounted.volume.layout.sectors s (leb-true (data_start k.mounted.volume.layout) s parts.0) (ltb-true s k.mounted.volume.layout.sectors parts.1))
        ∙ ap (λ (xs : List ℕ). contains xs s) (stands.fits.waiting ∙ idle)

    module _ (counts : MapCounts) (pages : counts.pages ≡ count_by not v.free_pages) (versions : counts.versions ≡ v.versions) (small : v.versions < 2 ^ 32) where
      heads : FitsHeads v.log.anchor.epoch counts
      heads = record {
        epoch_fits = stands.holds.fits.epoch;
        pages = let few = count_by-le-length not v.free_pages in let most = (planned_bounds v.layout stands.holds.planned).pages_most in omega (arith, pages, few, most, whole.pages);
        versions = omega (arith, versions, small);
      }

      tells : TestTells v.layout counts (is_marked v.layout v.map.sectors v.free_pages) k.mounted.pages
      tells = record {
        telling = telling_of k.mounted.volume;
        told = stands.disk.in_memory;
        reached = sym (pages ∙ used_pages);
        versions = lists_long k.mounted.volume.files k.mounted.volume.entries stands.disk.described.lists ∙ stands.fits.versions ∙ sym versions;
        free = λ s is.
            let inside : IsTrue (is_data k.mounted.volume.layout s) = subst (λ (l : Layout). IsTrue (is_data l s)) (sym stands.fits.layout) is in
            sym (marked_data v.layout v.map.sectors v.free_pages s is) ∙ stands.holds.map s
            ∙ free_so (is_data k.mounted.volume.layout s) (in_version k.mounted.volume s) (waits k.mounted.volume s) inside (none_waits s inside);
        spare = λ page lt.
            sym (marked_home v.layout v.map.sectors v.free_pages (home_a v.layout page) (no_data (home_a v.layout page) (omega (arith, lt))))
            ∙ ap (λ (b : Bool). b && slice_index_or v.free_pages (home_a v.layout page - home_a v.layout 0) false) (first_home page lt)
            ∙ ap (λ (p : ℕ). slice_index_or v.free_pages p false) (back page) ∙ stands.holds.free_pages page lt;
        clear = λ s out.
            let parts = or_parts (is_data v.layout s) (is_first_home v.layout s) out in
            sym (marked_home v.layout v.map.sectors v.free_pages s parts.0) ∙ ap (λ (b : Bool). b && slice_index_or v.free_pages (s - home_a v.layout 0) false) parts.1;
      }
        where
          no_data : (s : ℕ) → s < data_start v.layout → is_data v.layout s ≡ false
          no_data s below = false_from_ne_true (is_data v.layout s) (λ is. let from = area_behind v.layout s is in omega (arith, from, below))

          first_home : (page : ℕ) → page < v.layout.pages → is_first_home v.layout (home_a v.layout page) ≡ true
          first_home page lt = and_from _ _ (le-leb (home_a v.layout 0) (home_a v.layout page) (omega arith)) (lt-ltb (home_a v.layout page) (home_a v.layout v.layout.pages) (omega (arith, lt)))

          back : (page : ℕ) → home_a v.layout page - home_a v.layout 0 ≡ page
          back page = omega arith

      abbrev saved : ℕ → List ℕ
      saved = saved_sector v.layout v.map.sectors v.free_pages v.log.anchor.epoch counts

      abbrev mapped : Image
      mapped = with_map v.layout saved old.image (map_sectors v.layout)

      map_inside : map_start v.layout + map_sectors v.layout ≤ length old.image
      map_inside =
          let fits = stands.disk.over.shows.readable.roots.fits in
          let least = (planned_bounds v.layout stands.holds.planned).sectors_least in
          omega (arith, fits, least, ap (λ (l : Layout). l.sectors) stands.fits.layout)

      saved_on_disk : MapTells v.layout v.log.anchor.epoch k.mounted.pages mapped
      saved_on_disk =
          saved_tells v.layout v.log.anchor.epoch k.mounted.pages mapped
          (marked_has_saved v.layout stands.holds.planned v.log.anchor.epoch counts heads (is_marked v.layout v.map.sectors v.free_pages) k.mounted.pages tells mapped
          (λ j lt. lay_in old.image (map_start v.layout) (λ n. Whole (saved n)) (map_sectors v.layout) j lt map_inside))

      -- behind the last of its sectors it is believed rightly
      pub map_is_told : (mid : Moment) → Holds old (with_map v.layout (saved_sector v.layout v.map.sectors v.free_pages v.log.anchor.epoch counts) old.image (map_sectors v.layout)) mid → HasMap k mid
      map_is_told mid holds =
          subst (λ (l : Layout). MapTells l k.mounted.anchor.epoch k.mounted.pages mid.image) (sym stands.fits.layout)
          (subst (λ (a : Anchor). MapTells v.layout a.epoch k.mounted.pages mid.image) (sym stands.fits.anchor)
          (map_tells_on v.layout v.log.anchor.epoch k.mounted.pages mapped mid.image (λ s from below. worn_reads (open_damage old.windows) mapped mid.image s (holds.worn.each s)) saved_on_disk))

-- ---- its anchors are closed

-- an anchor lies where a saving writes
pub no_anchor : (l : Layout) (s : ℕ) → IsFalse (saving_writes l s) → (s ≢ 8) × (s ≢ 12)
no_anchor l s out =
    let second = or_parts (in_map l s || (s == 8)) (s == 12) out in
    let first = or_parts (in_map l s) (s == 8) second.0 in
    (λ e. both_ways (s == 8) first.1 (eq-eqb s 8 e), λ e. both_ways (s == 12) second.1 (eq-eqb s 12 e))

module _ (v : VolumeValue) (k : Known) (mid : Moment) (stands : Stands state IsMemoryOf v k mid) (forced : k.mounted.volume.unforced ≡ 0) (has : HasMap k mid) where
  narrow : IsNarrow (weak_of k.windows)
  narrow = borne_narrow k.mounted.volume.layout k.windows stands.disk.over.shows.readable.borne

  abbrev Part : Image → Type 0
  Part j = ClosesAnchors k.mounted.volume.layout k.windows k.mounted.anchor stands.disk.disk mid.image j

  one_is : stand mid.image 8 (closed_bytes k.mounted.anchor) 1 ≡ with_sector mid.image 8 (closed_bytes k.mounted.anchor)
  one_is = stand_one mid.image 8 (closed_bytes k.mounted.anchor) refl

  two_is : with_closed k.mounted.anchor mid.image 1 1 ≡ with_sector (with_sector mid.image 8 (closed_bytes k.mounted.anchor)) 12 (closed_bytes k.mounted.anchor)
  two_is =
      ap (λ (i : Image). stand i 12 (closed_bytes k.mounted.anchor) 1) one_is
      ∙ stand_one (with_sector mid.image 8 (closed_bytes k.mounted.anchor)) 12 (closed_bytes k.mounted.anchor) refl

  part : (first copy : ℕ) → copy ≤ first → first ≤ 1 → Part (with_closed k.mounted.anchor mid.image first copy)
  part zero zero le once = closes_none_yet k.mounted k.windows narrow k.changes (forced_of k) mid.image stands.disk
  part zero (suc n) le once = absurd (omega (arith, le))
  part (suc zero) zero le once = subst Part (sym one_is) (closes_first k.mounted k.windows narrow k.changes (forced_of k) mid.image stands.disk)
  part (suc zero) (suc zero) le once = subst Part (sym two_is) (closes_both k.mounted k.windows narrow k.changes (forced_of k) mid.image stands.disk)
  part (suc zero) (suc (suc n)) le once = absurd (omega (arith, le))
  part (suc (suc n)) copy le once = absurd (omega (arith, once))

  told_on_disk : MapTells k.mounted.volume.layout k.mounted.anchor.epoch stands.disk.disk mid.image
  told_on_disk =
      subst (λ (pages : List (List ℕ)). MapTells k.mounted.volume.layout k.mounted.anchor.epoch pages mid.image)
      (sym (same_pages k.mounted k.windows k.changes (forced_of k) mid.image stands.disk forced)) has

  module _ (first copy : ℕ) (in_order : copy ≤ first) (once : first ≤ 1) (left : Moment) (holds : Holds mid (with_closed v.log.anchor mid.image first copy) left) where
    abbrev closed : Image
    closed = with_closed k.mounted.anchor mid.image first copy

    by_copy : Part closed
    by_copy = part first copy in_order once

    wears : IsWorn (open_damage mid.windows) closed left.image
    wears = subst (λ (a : Anchor). IsWorn (open_damage mid.windows) (with_closed a mid.image first copy) left.image) (sym stands.fits.anchor) holds.worn

    worn : IsWorn (weak_of k.windows) closed left.image
    worn = open_is_weak mid.windows k.windows closed left.image stands.ends wears

    sound : IsSound k.mounted.volume.layout k.windows k.changes (forced_of k) left.image
    sound = sound_still k.mounted.volume.layout k.windows narrow k.changes (forced_of k) closed left.image worn
        (closes_sound k.mounted k.windows narrow k.changes (forced_of k) mid.image stands.disk closed by_copy told_on_disk)

    roots : HasOwnRoots k.mounted.volume.layout (weak_of k.windows) left.image
    roots = (
      has_on (weak_of k.windows) closed left.image (root_bytes k.mounted.volume.layout) 0 (worn.each 0) by_copy.roots.0,
      has_on (weak_of k.windows) closed left.image (root_bytes k.mounted.volume.layout) 4 (worn.each 4) by_copy.roots.1,
    )

    touches : Touches (saving_writes v.layout) mid left
    touches = record {
      size = wears.size ∙ by_copy.size;
      others = λ s out. subst (λ (x : Sector). SectorWorn (open_damage mid.windows s) x (sector_at left.image s)) (by_copy.others s (no_anchor v.layout s out).0 (no_anchor v.layout s out).1) (wears.each s);
    }

  -- a stop leaves a sound disk
  pub closing_leaves : (left : Moment) → ClosesIn v.log.anchor mid left → LeavesSound k (saving_writes v.layout) mid left
  closing_leaves left closing = record {
    sound = sound closing.first closing.copy closing.in_order closing.once left closing.holds;
    roots = roots closing.first closing.copy closing.in_order closing.once left closing.holds;
    windows = closing.holds.windows;
    said = closing.holds.said;
    touches = touches closing.first closing.copy closing.in_order closing.once left closing.holds;
  }

  -- and behind the last copy it has closed
  pub closed_closes : (now : Moment) → Holds mid (with_closed v.log.anchor mid.image 1 1) now → Closes k now.image
  closed_closes now holds =
      let image = with_closed k.mounted.anchor mid.image 1 1 in
      let count : forced_of k ≡ length k.changes = omega (arith, forced) in
      record {
        sound = subst (λ (n : ℕ). IsSound k.mounted.volume.layout k.windows k.changes n now.image) count (sound 1 1 (omega arith) (omega arith) now holds);
        tells = λ j wear. shown_lasts k.mounted k.windows k.changes (forced_of k) mid.image image stands.disk forced (part 1 1 (omega arith) (omega arith)).shows j
            (worn_trans (weak_of k.windows) image now.image j (worn 1 1 (omega arith) (omega arith) now holds) wear);
        roots = roots 1 1 (omega arith) (omega arith) now holds;
      }
