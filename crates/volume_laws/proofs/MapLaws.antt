-- The saved map of a volume stands, and behind it both copies of the anchor say that the volume was closed.
use Rattle.std.proofs.Common.{◌≡◌, ◌≢◌, ◌⊎◌, inl, inr, ℕ, ◌+◌, ◌-◌, ◌^◌, ◌<◌, ◌≤◌, Bool, true, false, not, ◌||◌, ◌==◌, cond, List, [], ◌∷◌, length, take_all, Result, Ok, Err, refl, sym, ap, subst, ◌∙◌, arith}
use Rattle.std.specs.Prelude.{IfErr, IsTrue, OnOk, count_by, slice_index_or}
use Rattle.std.proofs.lemmas.Bool.{cases_lt, eq-eqb, or_left, or_right}
use Rattle.std.proofs.lemmas.List.{get_or_past}
use Rattle.std.proofs.lemmas.List.Sums.{sum_by-cons}
use Rattle.volume_layout.specs.declared.layout.Layout.{Layout}
use Rattle.volume_layout.specs.Layout.{map_sectors, map_start}
use Rattle.volume_layout.proofs.RootLaws.{planned_bounds}
use Rattle.run_table.specs.RunTable.{sectors_of}
use Rattle.run_table.specs.Space.{contains, runs_of}
use Rattle.sector_set.proofs.FreeLaws.{contains_where, contains_where_outside}
use Rattle.sector_disk.specs.declared.sector.Sector.{Sector}
use Rattle.sector_disk.specs.declared.sector.Sector.TheVariants.{Whole}
use Rattle.sector_disk.specs.declared.machine.Failed.{Failed}
use Rattle.sector_disk.specs.Image.{AreShort, Windows, open_damage, sector_at, slice_of, stand}
use Rattle.sector_disk.specs.Machine.{Holds, Ledger, Moment, wrote}
use Rattle.sector_disk.proofs.Wear.{lay_in, length-stand, stand_in, stand_other}
use Rattle.fsd_formats.specs.Anchors.{closed_bytes}
use Rattle.fsd_formats.specs.SavedMap.{saved_sector as sector_of_map}
use Rattle.fsd_files.specs.Disk.{Has, Image, SectorWorn, Touches}
use Rattle.fsd_files.proofs.KeptLaws.{has_on}
use Rattle.fsd_sound.specs.Writes.{in_map, saving_writes}
use Rattle.log_thirds.specs.Anchoring.{ClosesIn, with_closed}
use Rattle.saved_map.specs.Saving.{SavesIn, counts_of, saved, with_map}
use Rattle.volume_contract.specs.Closing.{HasMap, map_sector_of}
use Rattle.volume_contract.specs.Ends.{Closes}
use Rattle.volume_contract.specs.State.{Counted, Known, Stands, State, volume_of}
use Rattle.volume_laws.specs.Saving.{HasMapClosed, LeavesMap, LeavesSaved, with_free}
use Rattle.volume_laws.specs.State.{IsMemoryOf, spare_pages, state}
use Rattle.volume_laws.specs.Volume.{IsWholeVolume, VolumeValue}
use Rattle.volume_laws.proofs.CountLaws.{count_of_flags}
use Rattle.volume_laws.proofs.GrowthLaws.{sectors_of_runs}
use Rattle.volume_laws.proofs.SavingLaws.{HasMap as MapTold, closed_closes, closing_leaves, map_is_told, no_anchor, saving_leaves, stands_saving, touches_map}
use Rattle.volume_laws.proofs.StoreLaws.{IsOn, sound_on, touches_then}

-- ---- its sectors

-- each flag is set or not
count_both : (flags : List Bool) → count_by not flags + count_by (λ flag. flag) flags ≡ length flags
count_both [] = refl
count_both (true ∷ flags) =
    let unset : count_by not (true ∷ flags) ≡ 0 + count_by not flags = sum_by-cons (λ (b : Bool). cond (not b) 1 0) true flags in
    let set : count_by (λ flag. flag) (true ∷ flags) ≡ 1 + count_by (λ flag. flag) flags = sum_by-cons (λ (b : Bool). cond b 1 0) true flags in
    omega (arith, unset, set, count_both flags)
count_both (false ∷ flags) =
    let unset : count_by not (false ∷ flags) ≡ 1 + count_by not flags = sum_by-cons (λ (b : Bool). cond (not b) 1 0) false flags in
    let set : count_by (λ flag. flag) (false ∷ flags) ≡ 0 + count_by (λ flag. flag) flags = sum_by-cons (λ (b : Bool). cond b 1 0) false flags in
    omega (arith, unset, set, count_both flags)

abbrev pub sector : VolumeValue → ℕ → List ℕ
sector v = saved v.layout v.map v.free_pages v.log.anchor.epoch v.versions

module _ (v : VolumeValue) (whole : IsWholeVolume v) where
  free_is : contains v.map.sectors ≡ contains (sectors_of (runs_of v.map.sectors))
  free_is = ap contains (sym (sectors_of_runs v.map.sectors))

  spare_is : (page : ℕ) → slice_index_or v.free_pages page false ≡ contains (spare_pages v) page
  spare_is page = elim (cases_lt page (length v.free_pages)) [
    | inl inside ↦ sym (contains_where (λ p. slice_index_or v.free_pages p false) 0 (length v.free_pages) page (omega arith) inside)
    | inr past ↦ get_or_past v.free_pages page false past ∙ sym (contains_where_outside (λ p. slice_index_or v.free_pages p false) 0 (length v.free_pages) page (λ low high. absurd (omega (arith, past, high))))
  ]

  pages_are : count_by not v.free_pages ≡ v.layout.pages - length (spare_pages v)
  pages_are = let spare = count_of_flags v.free_pages in let both = count_both v.free_pages in omega (arith, spare, both, whole.pages)

  -- each is that of what the volume tells
  pub sector_told : (n : ℕ) → sector v n ≡ map_sector_of (with_free (state v)) n
  sector_told n = λ i. sector_of_map v.layout (free_is i) (λ page. spare_is page i) v.log.anchor.epoch (record { pages = pages_are i; versions = v.versions }) n

  -- the whole map stands behind the last of them
  module _ (old left : Moment) (room : v.layout.sectors ≤ length old.image) (holds : Holds old (with_map v.layout (sector v) old.image (map_sectors v.layout)) left) where
    inside : map_start v.layout + map_sectors v.layout ≤ length old.image
    inside = let least = (planned_bounds v.layout whole.planned).sectors_least in omega (arith, room, least)

    pub map_stands : HasMap (with_free (state v)) left
    map_stands n lt =
        let image : Image = with_map v.layout (sector v) old.image (map_sectors v.layout) in
        let place : ℕ = map_start v.layout + n in
        let bytes : List ℕ = map_sector_of (with_free (state v)) n in
        let there : sector_at image place ≡ Whole bytes = lay_in old.image (map_start v.layout) (λ k. Whole (sector v k)) (map_sectors v.layout) n lt inside ∙ ap (λ (b : List ℕ). Whole b) (sector_told n) in
        subst (λ (w : Windows). Has (open_damage w) left.image bytes place) (sym holds.windows) (has_on (open_damage old.windows) image left.image bytes place (holds.worn.each place) (inl there))

-- ---- its anchors

apart : (p n s : ℕ) → n ≤ 1 → s ≢ p → (s < p) ⊎ (p + n ≤ s)
apart p n s few other = elim (cases_lt s p) [
  | inl below ↦ inl below
  | inr from ↦ elim (cases_lt p s) [
    | inl behind ↦ inr (omega (arith, few, behind))
    | inr to ↦ absurd (other (omega (arith, from, to)))
  ]
]

module _ (v : VolumeValue) (mid left : Moment) (first copy : ℕ) (in_order : copy ≤ first) (once : first ≤ 1) (holds : Holds mid (with_closed v.log.anchor mid.image first copy) left) where
  abbrev bytes : List ℕ
  bytes = closed_bytes v.log.anchor

  abbrev closed : Image
  closed = with_closed v.log.anchor mid.image first copy

  -- nothing else is written
  beside : (s : ℕ) → s ≢ 8 → s ≢ 12 → sector_at closed s ≡ sector_at mid.image s
  beside s no_first no_second =
      stand_other (stand mid.image 8 bytes first) 12 bytes copy s (apart 12 copy s (omega (arith, in_order, once)) no_second)
      ∙ stand_other mid.image 8 bytes first s (apart 8 first s once no_first)

  worn_beside : (s : ℕ) → s ≢ 8 → s ≢ 12 → SectorWorn (open_damage mid.windows s) (sector_at mid.image s) (sector_at left.image s)
  worn_beside s no_first no_second = subst (λ (x : Sector). SectorWorn (open_damage mid.windows s) x (sector_at left.image s)) (beside s no_first no_second) (holds.worn.each s)

  pub touches_anchors : Touches (saving_writes v.layout) mid left
  touches_anchors = record {
    size = holds.worn.size ∙ length-stand (stand mid.image 8 bytes first) 12 bytes copy ∙ length-stand mid.image 8 bytes first;
    others = λ s out. let no = no_anchor v.layout s out in worn_beside s no.0 no.1;
  }

  -- the map stays
  pub map_stays : (s : State) → HasMap s mid → HasMap s left
  map_stays s map n lt =
      let place : ℕ = map_start s.layout + n in
      let far : 16 ≤ map_start s.layout = omega arith in
      subst (λ (w : Windows). Has (open_damage w) left.image (map_sector_of s n) place) (sym holds.windows)
      (has_on (open_damage mid.windows) mid.image left.image (map_sector_of s n) place (worn_beside place (λ e. omega (arith, far, e)) (λ e. omega (arith, far, e))) (map n lt))

-- both of them stand
module _ (v : VolumeValue) (whole : IsWholeVolume v) (mid now : Moment) (fits : v.layout.sectors ≤ length mid.image) (holds : Holds mid (with_closed v.log.anchor mid.image 1 1) now) where
  abbrev spelled : List ℕ
  spelled = closed_bytes v.log.anchor

  abbrev both : Image
  both = with_closed v.log.anchor mid.image 1 1

  all : Whole (slice_of spelled 0) ≡ Whole spelled
  all = let size : length spelled ≡ 512 = refl in ap (λ (b : List ℕ). Whole b) (take_all 512 spelled (omega (arith, size)))

  room : 16 ≤ length mid.image
  room = let least = (planned_bounds v.layout whole.planned).sectors_least in omega (arith, fits, least)

  stands_on : (s : ℕ) → sector_at both s ≡ Whole spelled → Has (open_damage now.windows) now.image spelled s
  stands_on s there = subst (λ (w : Windows). Has (open_damage w) now.image spelled s) (sym holds.windows) (has_on (open_damage mid.windows) both now.image spelled s (holds.worn.each s) (inl there))

  pub has_saved : HasMap (with_free (state v)) mid → HasMapClosed (state v) now
  has_saved map = record {
    map = map_stays v mid now 1 1 (omega arith) (omega arith) holds (with_free (state v)) map;
    closed = record {
      first = stands_on 8 (stand_other (stand mid.image 8 spelled 1) 12 spelled 1 8 (inl (omega arith)) ∙ stand_in mid.image 8 spelled 1 0 (omega arith) (omega (arith, room)) ∙ all);
      second = stands_on 12 (let long = length-stand mid.image 8 spelled 1 in stand_in (stand mid.image 8 spelled 1) 12 spelled 1 0 (omega arith) (omega (arith, room, long)) ∙ all);
      apart = omega arith;
    };
  }

-- ---- over a volume that stands

-- it is on its own disk
on_itself : (k : Known) → IsOn k k
on_itself k = record { layout = refl; windows = refl; changes = refl; more = omega arith }

module _ (v : VolumeValue) (whole : IsWholeVolume v) (old : Moment) (short : AreShort old.windows) where
  -- while the map is written no anchor says that the volume was closed
  pub leaves_map : (left : Moment) → SavesIn v.layout (sector v) old left → LeavesSaved v old left
  leaves_map left saves k stands none = record {
    sound = saving_leaves v (sector v) old left saves short k stands;
    first = inl (stands_saving v (sector v) old left saves short k stands).disk.over.own.opened;
  }

  module _ (idle : (state v).waiting ≡ []) (small : v.versions < 2 ^ 32) (mid : Moment) (holds : Holds old (with_map v.layout (sector v) old.image (map_sectors v.layout)) mid) where
    all_saved : SavesIn v.layout (sector v) old mid
    all_saved = record { stood = map_sectors v.layout; within = omega arith; holds = holds }

    module _ (k : Known) (stands : Stands state IsMemoryOf v k old) (none : (volume_of k).unforced ≡ 0) where
      stands_then : Stands state IsMemoryOf v k mid
      stands_then = stands_saving v (sector v) old mid all_saved short k stands

      told_then : MapTold k mid
      told_then = map_is_told v k old whole stands idle (counts_of v.free_pages v.versions) refl refl small mid holds

      large : v.layout.sectors ≤ length old.image
      large = let fits = stands.disk.over.shows.readable.roots.fits in omega (arith, fits, ap (λ (l : Layout). l.sectors) stands.fits.layout)

      -- behind the map its anchors are written
      pub leaves_anchors : (left : Moment) → ClosesIn v.log.anchor mid left → LeavesMap v k old left
      leaves_anchors left closing = record {
        sound = sound_on k k (saving_writes v.layout) (saving_writes v.layout) old mid left (on_itself k) holds.windows holds.said (λ s out. out)
            (saving_leaves v (sector v) old mid all_saved short k stands) (closing_leaves v k mid stands_then none told_then left closing);
        first = inr (map_stays v mid left closing.first closing.copy closing.in_order closing.once closing.holds (with_free (state v)) (map_stands v whole old mid large holds));
      }

      -- and behind the last of them it has closed
      pub saved_closes : (now : Moment) → Holds mid (with_closed v.log.anchor mid.image 1 1) now → Closes k now.image
      saved_closes now closed = closed_closes v k mid stands_then none told_then now closed

-- ---- where it writes

pub touches_saved : (v : VolumeValue) (old mid left : Moment) → SavesIn v.layout (sector v) old mid → ClosesIn v.log.anchor mid left → Touches (saving_writes v.layout) old left
touches_saved v old mid left saves closing =
    touches_then (saving_writes v.layout) (saving_writes v.layout) (saving_writes v.layout) old mid left saves.holds.windows (λ s out. out) (λ s out. out)
    (touches_map v (sector v) old mid saves) (touches_anchors v mid left closing.first closing.copy closing.in_order closing.once closing.holds)

pub map_place : (l : Layout) (place : ℕ) → IsTrue (in_map l place) → IsTrue (saving_writes l place)
map_place l place there = or_left (in_map l place || (place == 8)) (place == 12) (or_left (in_map l place) (place == 8) there)

pub anchor_place : (l : Layout) (place : ℕ) → (place ≡ 8) ⊎ (place ≡ 12) → IsTrue (saving_writes l place)
anchor_place l place (inl first) = or_left (in_map l place || (place == 8)) (place == 12) (or_right (in_map l place) (place == 8) (eq-eqb place 8 first))
anchor_place l place (inr second) = or_right (in_map l place || (place == 8)) (place == 12) (eq-eqb place 12 second)

pub anchor_told : {T : Type 0} (l : Layout) (r : Result T Failed) → IfErr r (λ failed. (failed.place ≡ 8) ⊎ (failed.place ≡ 12)) → IfErr r (λ failed. IsTrue (saving_writes l failed.place))
anchor_told l (Ok x) told = tt
anchor_told l (Err failed) told = anchor_place l failed.place told

-- ---- how much it writes

pub counted_map : {T E : Type 0} (l : Layout) (r : Result T E) (a b c : Ledger) → b ≡ wrote a (map_sectors l) → OnOk r (c ≡ wrote b 2) → b.written ≤ c.written → c.written ≤ b.written + 2 → Counted r (map_sectors l + 2) a c
counted_map l (Ok x) a b c map both least most =
    let first = ap (λ (ledger : Ledger). ledger.written) map in
    let second = ap (λ (ledger : Ledger). ledger.written) both in
    omega (arith, first, second)
counted_map l (Err why) a b c map both least most =
    let first = ap (λ (ledger : Ledger). ledger.written) map in
    (omega (arith, first, least), omega (arith, first, most))
