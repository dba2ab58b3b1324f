-- How a force ends over a volume that stands over its disk: all changes are forced, or it is down where the disk failed.
use Rattle.std.proofs.Common.{◌≡◌, inl, inr, ℕ, ◌-◌, ◌<◌, ◌≤◌, Bool, true, false, not, ◌&&◌, ◌||◌, nat_le, nat_lt, List, [], length, option_map, Option, Some, None, Ok, Err, refl, sym, ap, subst, ◌∙◌, arith}
use Rattle.std.proofs.Math.Bool.{and-false}
use Rattle.std.specs.Prelude.{◌==◌, slice_index_or}
use Rattle.std.specs.List.{list_any}
use Rattle.std.proofs.lemmas.Bool.{cases_lt, false_from_ne_true, lt-leb, le-ltb, or_left}
use Rattle.std.proofs.lemmas.List.{append-nil}
use Rattle.volume_layout.specs.declared.layout.Layout.{Layout}
use Rattle.volume_layout.specs.Layout.{data_start, map_start}
use Rattle.volume_layout.proofs.GrownLaws.{most_least}
use Rattle.run_table.specs.declared.run.Run.{Run}
use Rattle.run_table.specs.Space.{contains, where_free}
use Rattle.sector_set.specs.Area.{Area, area}
use Rattle.sector_set.proofs.AreaLaws.{free_passes}
use Rattle.sector_set.proofs.FreeLaws.{contains_where}
use Rattle.shadow_frees.specs.Readers.{is_held, unheld, with_held}
use Rattle.shadow_frees.specs.Waits.{Waits}
use Rattle.fsd_bytes.specs.declared.key.Serial.{Serial}
use Rattle.fsd_bytes.specs.declared.refusal.Refusal.{Refusal}
use Rattle.sector_disk.specs.declared.machine.LoadFault.{LoadFault}
use Rattle.sector_disk.specs.declared.machine.LoadFault.TheVariants as fault
use Rattle.sector_disk.specs.Damage.{IsDevice as IsDiskFault}
use Rattle.sector_disk.specs.Image.{Windows, open_damage}
use Rattle.sector_disk.specs.Machine.{Moment}
use Rattle.fsd_table.specs.Table.{Visit, visits}
use Rattle.fsd_files.specs.Answers.{Met, Outcome, force_outcome}
use Rattle.fsd_files.specs.declared.reply.Reply.{Reply}
use Rattle.fsd_files.specs.declared.reply.Reply.TheVariants.{Forced as IsForced}
use Rattle.fsd_files.specs.Volume.{Volume, forced, in_version, is_free, is_in}
use Rattle.fsd_files.specs.Waiting.{IsSpaced, is_kept_alone}
use Rattle.fsd_files.proofs.WaitLaws.{forced_is_spaced, open_in_area}
use Rattle.fsd_sound.specs.Mounted.{IsMounted, IsSameEpoch, StandsOver, forces_by_itself, image_at, with_forced}
use Rattle.fsd_sound.specs.Shown.{records_by}
use Rattle.fsd_sound.specs.Sound.{EndIn}
use Rattle.fsd_sound.proofs.MountedLaws.{data_behind, force_mounted}
use Rattle.fsd_sound.proofs.OpenLaws.{drafts_worn}
use Rattle.log_thirds.specs.Append.{IsIndexed, stamp_now}
use Rattle.log_thirds.specs.LogValue.{FitsLayout, LogValue}
use Rattle.page_cache.specs.Cache.{CacheValue, Held, IsCache, cached_bytes, cleaned, held, is_among}
use Rattle.group_commit.specs.Cached.{ascending_of, held_stamped, stamped_for}
use Rattle.group_commit.specs.Force.{Committed, KeepsData, log_forced}
use Rattle.group_commit.specs.Newest.{KnowsImages}
use Rattle.group_commit.proofs.CachedLaws.{idle_cache, idle_done}
use Rattle.group_commit.proofs.CleanLaws.{agrees_then}
use Rattle.group_commit.proofs.FrameLaws.{held_then}
use Rattle.volume_contract.specs.Ends.{AnswersAndStands, Answers, EndsForce}
use Rattle.volume_contract.specs.State.{Fits, Known, StandWritten, Stands, forced_of, held_runs, volume_of}
use Rattle.volume_laws.specs.Forcing.{force_refusal, down_place}
use Rattle.volume_laws.specs.State.{IsMemoryOf, freed_sectors, spare_pages, state}
use Rattle.volume_laws.specs.Taken.{down_fault}
use Rattle.volume_laws.specs.Volume.{IsWholeVolume, VolumeValue}
use Rattle.volume_laws.proofs.ForceMomentLaws.{agrees, knows, now, over_waiting, same_data, told_now, visits_now, waiting}
use Rattle.volume_laws.proofs.KeptLaws.{free_same}
use Rattle.volume_laws.proofs.SpaceLaws.{freed_is, freed_within, held_is, kept_then, same_free, same_freed, same_unfinished, same_waiting, same_waits}
use Rattle.volume_laws.proofs.ListLaws.{lists_of}

-- ---- the volume behind a force

-- Its dirty pages are stamped and clean, its log has their record, what waited for a force is free, and all else is as it was.
pub record IsForcedTo (v w : VolumeValue) : Type 0 where
  pub layout : w.layout ≡ v.layout
  pub free_pages : w.free_pages ≡ v.free_pages
  pub serial : w.serial ≡ v.serial
  pub versions : w.versions ≡ v.versions
  pub down : w.down ≡ v.down
  pub map : w.map.sectors ≡ freed_sectors v
  pub removed : w.shadow.removed.sectors ≡ []
  pub kept : (s : ℕ) → contains w.shadow.kept.sectors s ≡ (contains v.shadow.kept.sectors s || contains v.shadow.removed.sectors s && is_held v.shadow.held s)
  pub unfinished : w.shadow.unfinished ≡ v.shadow.unfinished
  pub held : w.shadow.held ≡ v.shadow.held
  pub log : w.log ≡ log_forced v.log (ascending_of v.cache.dirty)
  pub cache : w.cache ≡ cleaned (stamped_for v.log v.cache)

none_went : (k h : Bool) {r : Bool} → r ≡ false → k ≡ (k || r && h)
none_went true h is = refl
none_went false h is = ap (λ (b : Bool). b && h) (sym is)

-- where no page waits it is the volume itself
pub itself_forced : (v : VolumeValue) → IsWholeVolume v → IsCache v.cache → v.cache.dirty ≡ [] → IsForcedTo v v
itself_forced v whole valid none = record {
  layout = refl;
  free_pages = refl;
  serial = refl;
  versions = refl;
  down = refl;
  map = free_same v whole (whole.still none);
  removed = whole.still none;
  kept = λ s. none_went (contains v.shadow.kept.sectors s) (is_held v.shadow.held s) (ap (λ (xs : List ℕ). contains xs s) (whole.still none));
  unfinished = refl;
  held = refl;
  log = ap (λ (dirty : List ℕ). log_forced v.log (ascending_of dirty)) (sym none);
  cache = idle_cache v.cache valid [] (sym (ap ascending_of none)) refl v.log;
}

pub forced_to : (v : VolumeValue) → IsWholeVolume v → (map : Area) (w : Waits) (log : LogValue) (cache : CacheValue)
    → map ≡ area v.map.from v.map.to (λ s. contains v.map.sectors s || contains (unheld v.shadow.held v.shadow.removed).sectors s)
    → w.removed ≡ record { from = v.map.from; to = v.map.to; sectors = [] } → w.kept ≡ with_held v.shadow.held v.shadow.kept v.shadow.removed → w.unfinished ≡ v.shadow.unfinished → w.held ≡ v.shadow.held
    → log ≡ log_forced v.log (ascending_of v.cache.dirty) → cache ≡ cleaned (stamped_for v.log v.cache)
    → IsForcedTo v (record v { map = map; shadow = w; log = log; cache = cache })
forced_to v whole map w log cache map_is removed kept unfinished held log_is cache_is = record {
  layout = refl;
  free_pages = refl;
  serial = refl;
  versions = refl;
  down = refl;
  map = ap (λ (a : Area). a.sectors) map_is;
  removed = ap (λ (a : Area). a.sectors) removed;
  kept = kept_then v.layout whole.planned v.shadow.held v.shadow.kept v.shadow.removed w.kept whole.kept whole.removed kept;
  unfinished = unfinished;
  held = held;
  log = log_is;
  cache = cache_is;
}

-- a page that is in memory then was there before
was_there : (log : LogValue) (c : CacheValue) (page : ℕ) (bytes : List ℕ) → cached_bytes (cleaned (stamped_for log c)) page ≡ Some bytes → (old : List ℕ) × (cached_bytes c page ≡ Some old)
was_there log c page bytes has = by (is_among c.dirty page) (held c page) refl (ap (option_map (λ (h : Held). h.bytes)) (sym (held_then (stamp_now log) c.dirty c page)) ∙ has)
  where
    by : (b : Bool) (o : Option Held) → held c page ≡ o → option_map (λ (h : Held). h.bytes) (option_map (held_stamped (stamp_now log) b) o) ≡ Some bytes → (old : List ℕ) × (cached_bytes c page ≡ Some old)
    by b None is there = absurd (cc there)
    by b (Some h) is there = (h.bytes, ap (option_map (λ (x : Held). x.bytes)) is)

-- what lies outside of the data area is not free
not_free : (a b c : Bool) → a ≡ false → (a && b && c) ≡ false
not_free true b c is = absurd (cc is)
not_free false b c is = refl

no_data : (a b s : ℕ) → (a ≤ s → s < b → ⊥) → (nat_le a s && nat_lt s b) ≡ false
no_data a b s out = elim (cases_lt s a) [
  | inl before ↦ ap (λ (x : Bool). x && nat_lt s b) (lt-leb a s before)
  | inr from ↦ elim (cases_lt s b) [
    | inl within ↦ absurd (out from within)
    | inr past ↦ ap (λ (x : Bool). nat_le a s && x) (le-ltb s b past) ∙ and-false (nat_le a s)
  ]
]

-- ---- over its disk

module _ (v w : VolumeValue) (k : Known) (old new : Moment) (was : IsWholeVolume v) (whole : IsWholeVolume w) (valid : IsCache v.cache) (stands : Stands state IsMemoryOf v k old) (to : IsForcedTo v w) (fits : FitsLayout w.log) where
  abbrev pub after : Known
  after = record k { mounted = with_forced k.mounted (now v k old was valid stands) w.log.anchor w.log.head }

  abbrev volume : Volume
  volume = forced k.mounted.volume

  same_layout : volume.layout ≡ w.layout
  same_layout = stands.fits.layout ∙ sym to.layout

  spaced : IsSpaced volume
  spaced = forced_is_spaced k.mounted.volume stands.disk.spaced

  -- ---- free sectors

  abbrev free_then : ℕ → Bool
  free_then t = contains v.map.sectors t || contains (unheld v.shadow.held v.shadow.removed).sectors t

  map : (s : ℕ) → contains w.map.sectors s ≡ is_free volume s
  map s = ap (λ (xs : List ℕ). contains xs s) to.map ∙ elim (cases_lt s (data_start v.layout)) [
    | inl before ↦ out (λ from to. omega (arith, before, from))
    | inr from ↦ elim (cases_lt s v.layout.sectors) [
      | inl within ↦
          contains_where free_then v.map.from v.map.to s (omega (arith, from, ap (λ (a : Area). a.from) was.map)) (omega (arith, within, most_least v.layout was.planned, ap (λ (a : Area). a.to) was.map))
          ∙ sym (freed_is v k.mounted.volume was stands.fits.layout stands.holds.map stands.holds.removed stands.holds.kept stands.holds.unfinished stands.fits.held stands.disk.spaced s from within)
      | inr past ↦ out (λ from to. omega (arith, past, to))
    ]
  ]
    where
      out : (data_start v.layout ≤ s → s < v.layout.sectors → ⊥) → contains (freed_sectors v) s ≡ is_free volume s
      out apart =
          false_from_ne_true (contains (freed_sectors v) s) (λ there. let within = freed_within v was s (free_passes v.map.from v.map.to free_then s there) in apart within.0 within.1)
          ∙ sym (not_free _ _ _ (ap (λ (l : Layout). nat_le (data_start l) s && nat_lt s l.sectors) stands.fits.layout ∙ no_data (data_start v.layout) v.layout.sectors s apart))

  removed : (s : ℕ) → contains w.shadow.removed.sectors s ≡ contains volume.removed s
  removed s = ap (λ (xs : List ℕ). contains xs s) to.removed

  -- what a reader alone keeps: what one kept, and what went and one holds
  kept : (s : ℕ) → contains w.shadow.kept.sectors s ≡ is_kept_alone volume s
  kept s =
      to.kept s ∙ (λ i. stands.holds.kept s i || stands.holds.removed s i && held_there i)
      ∙ tests (is_in k.mounted.volume.held s) (in_version k.mounted.volume s) (contains k.mounted.volume.removed s) (stands.disk.spaced.removed s)
    where
      held_there : is_held v.shadow.held s ≡ is_in k.mounted.volume.held s
      held_there = sym (ap (λ (plans : List (List Run)). is_in plans s) stands.fits.held ∙ held_is v.shadow.held s)

      tests : (h i r : Bool) → (r ≡ true → i ≡ false) → (h && not i && not r || r && h) ≡ (h && not i && not false)
      tests h true true went = absurd (cc (went refl))
      tests true false true went = refl
      tests false false true went = refl
      tests true true false went = refl
      tests true false false went = refl
      tests false i false went = refl

  unfinished : (s : ℕ) → contains w.shadow.unfinished.sectors s ≡ is_in volume.drafts s
  unfinished s = ap (λ (a : Area). contains a.sectors s) to.unfinished ∙ stands.holds.unfinished s

  held_then_too : volume.held ≡ held_runs w.shadow.held
  held_then_too = stands.fits.held ∙ ap held_runs (sym to.held)

  -- ---- what it tells

  pages_free : volume.layout.pages - volume.reached ≡ length (spare_pages w)
  pages_free = stands.fits.pages_free ∙ ap (λ (flags : List Bool). length (where_free (λ page. slice_index_or flags page false) 0 (length flags))) (sym to.free_pages)

  fits_then : Fits (state w) after.mounted
  fits_then = record {
    layout = same_layout;
    serial = stands.fits.serial ∙ sym to.serial;
    anchor = refl;
    head = refl;
    dirty = sym (ap (λ (c : CacheValue). c.dirty) to.cache);
    free = same_free w volume whole same_layout map removed kept unfinished held_then_too spaced;
    freed = same_freed w volume whole same_layout map removed kept unfinished held_then_too spaced;
    waiting = same_waiting w volume whole same_layout map removed kept unfinished held_then_too spaced;
    waits = same_waits w volume whole same_layout map removed kept unfinished held_then_too spaced;
    held = held_then_too;
    unfinished = same_unfinished w volume whole same_layout map removed kept unfinished held_then_too spaced;
    pages_free = pages_free;
    versions = stands.fits.versions ∙ sym to.versions;
    up = to.down ∙ stands.fits.up;
  }

  -- ---- what it has in memory

  frames : (page : ℕ) (bytes : List ℕ) → cached_bytes w.cache page ≡ Some bytes → image_at (now v k old was valid stands) page ≡ bytes
  frames page bytes has =
      (agrees_then v.log v.cache k.mounted.pages (agrees v k old was valid stands) valid (waiting v k old was valid stands)).frames page bytes
      (subst (λ (c : CacheValue). cached_bytes c page ≡ Some bytes) to.cache has)

  inside : (page : ℕ) (bytes : List ℕ) → cached_bytes w.cache page ≡ Some bytes → page < w.layout.pages
  inside page bytes has =
      let there = was_there v.log v.cache page bytes (subst (λ (c : CacheValue). cached_bytes c page ≡ Some bytes) to.cache has) in
      let lt = stands.holds.inside page there.0 there.1 in
      omega (arith, lt, ap (λ (l : Layout). l.pages) to.layout)

  free_pages : (page : ℕ) → page < w.layout.pages → slice_index_or w.free_pages page false ≡ not (list_any (λ (visit : Visit). visit.page == page) (visits (now v k old was valid stands)))
  free_pages page lt =
      ap (λ (flags : List Bool). slice_index_or flags page false) to.free_pages
      ∙ stands.holds.free_pages page (omega (arith, lt, ap (λ (l : Layout). l.pages) to.layout))
      ∙ ap (λ (all : List Visit). not (list_any (λ (visit : Visit). visit.page == page) all)) (sym (visits_now v k old was valid stands))

  log_layout : w.log.layout ≡ volume.layout
  log_layout = whole.log ∙ sym same_layout

  holds_then : KnowsImages w.log new.image → IsMemoryOf w after.mounted (records_by volume.layout new.image w.log.anchor)
  holds_then known = record {
    planned = whole.planned;
    pages = frames;
    inside = inside;
    map = map;
    removed = removed;
    kept = kept;
    unfinished = unfinished;
    free_pages = free_pages;
    log = whole.log;
    fits = fits;
    indexed = subst (λ (l : Layout). IsIndexed w.log (records_by l new.image w.log.anchor)) log_layout known;
  }

  -- ---- the disk

  same_epoch : IsSameEpoch k.mounted.anchor w.log.anchor
  same_epoch = record {
    epoch = sym whole.epoch ∙ ap (λ (s : Serial). s.epoch) (to.serial ∙ sym stands.fits.serial) ∙ stands.disk.epoch;
    third = fits.third;
  }

  module _ (keeps : KeepsData v.log.layout old new) (windows : new.windows ≡ old.windows) (done : Committed w.log (record { pages = now v k old was valid stands; dirty = [] }) k.windows new.image) (known : KnowsImages w.log new.image) where
    over_then : StandsOver volume.layout w.log.anchor w.log.head done.records (now v k old was valid stands) (now v k old was valid stands) [] k.windows new.image
    over_then = subst (λ (l : Layout). StandsOver l w.log.anchor w.log.head done.records (now v k old was valid stands) (now v k old was valid stands) [] k.windows new.image) log_layout done.stands

    -- creations lie where a force writes nothing
    drafts_behind : (s : ℕ) → is_in k.mounted.volume.drafts s ≡ true → map_start v.log.layout ≤ s
    drafts_behind s there =
        subst (λ (l : Layout). map_start l ≤ s) (stands.fits.layout ∙ sym was.log)
        (data_behind k.mounted.volume.layout s (open_in_area k.mounted.volume stands.disk.spaced s (or_left (is_in k.mounted.volume.drafts s) (is_in k.mounted.volume.held s) there)))

    pub stands_forced : Stands state IsMemoryOf w after new
    stands_forced = record {
      fits = fits_then;
      opened = record { drafts = stands.opened.drafts; slices = stands.opened.slices; places = to.held ∙ stands.opened.places; bytes = stands.opened.bytes };
      holds = holds_then known;
      lists = lists_of w after.mounted (records_by volume.layout new.image w.log.anchor) (holds_then known);
      ends = subst (λ (x : Windows). EndIn x k.windows) (sym windows) stands.ends;
      disk = subst (λ (n : ℕ). IsMounted after.mounted k.windows k.changes n new.image) (let all : length k.changes ≡ length k.changes - 0 = omega arith in all)
          (force_mounted k.mounted k.windows k.changes (forced_of k) old.image new.image (now v k old was valid stands) w.log.anchor w.log.head done.records stands.disk
          (same_data v k old was valid stands new keeps) (told_now v k old was valid stands) same_epoch over_then);
      written = subst (λ (x : Windows). StandWritten (open_damage x) new.image k.mounted.slices volume.drafts) (sym windows)
          (drafts_worn (open_damage old.windows) old.image new.image k.mounted.slices k.mounted.volume.drafts (λ s there. keeps s (drafts_behind s there)) stands.written);
    }

    answers : Answers (λ met. force_outcome (volume_of k)) IsForced [] k after
    answers = record {
      met = record { forces = forces_by_itself k.mounted; reached = 0; damaged = None; found = []; healed = 0 };
      forces = refl;
      is = refl;
      opened = refl;
      windows = refl;
      changes = sym (append-nil k.changes);
    }

    pub ends_forced : AnswersAndStands state IsMemoryOf (λ met. force_outcome (volume_of k)) IsForced [] k w new
    ends_forced = (after, answers, stands_forced)

-- where no page waits nothing is written
pub ends_idle : (v : VolumeValue) (k : Known) (at : Moment) → IsWholeVolume v → IsCache v.cache → v.cache.dirty ≡ [] → Stands state IsMemoryOf v k at
    → AnswersAndStands state IsMemoryOf (λ met. force_outcome (volume_of k)) IsForced [] k v at
ends_idle v k at whole valid none stands =
    let no : length (ascending_of v.cache.dirty) ≡ 0 = ap (λ (dirty : List ℕ). length (ascending_of dirty)) none in
    ends_forced v v k at at whole whole valid stands (itself_forced v whole valid none) stands.holds.fits (λ t from. inl refl) refl
    (idle_done v.cache valid (ascending_of v.cache.dirty) refl no v.log k.mounted.pages k.windows stands.disk.records stands.disk.disk at.image (over_waiting v k at whole valid stands))
    (knows v k at whole valid stands)

-- ---- where it fails

-- a volume that is down stands over no disk
pub not_down : (v : VolumeValue) (k : Known) (at : Moment) (why : Refusal) → down_fault v.down ≡ Err why → Stands state IsMemoryOf v k at → ⊥
not_down v k at why down stands = absurd (let up : down_fault v.down ≡ Ok tt = ap down_fault stands.fits.up in cc (up, down))

pub ends_failed : (T : Type 0) (outcome : Met → Outcome) (reply : Reply) (k : Known) (w : VolumeValue) (at : Moment) (f : LoadFault) (place : ℕ) (why : Refusal) → place ≡ down_place f → why ≡ force_refusal f → w.down ≡ Some place → IsDiskFault f
    → EndsForce state IsMemoryOf {T = T} outcome reply k w at (Err why)
ends_failed T outcome reply k w at (fault.Lost a b) place why here told down device = absurd device
ends_failed T outcome reply k w at (fault.Device s) place why here told down device =
    subst (λ (r : Refusal). EndsForce state IsMemoryOf {T = T} outcome reply k w at (Err r)) (sym told) (down ∙ ap (λ (n : ℕ). Some n) here)
