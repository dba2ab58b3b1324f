-- A volume that stands over its disk knows the pages there, and stands with each of them that is brought into its cache.
use Rattle.std.proofs.Common.{◌≡◌, inl, inr, ℕ, ◌<◌, Bool, true, false, cond, List, Option, Some, None, refl, sym, ap, subst, ◌∙◌, arith}
use Rattle.std.specs.Prelude.{IsSome, option_map}
use Rattle.std.proofs.lemmas.Bool.{cases_lt, le-ltb}
use Rattle.volume_layout.specs.declared.layout.Layout.{Layout}
use Rattle.sector_disk.specs.Image.{AreShort}
use Rattle.sector_disk.specs.Machine.{Moment}
use Rattle.page_cache.specs.Cache.{AreNewest, CacheValue, Held, IsResident, cached_bytes, held, is_among}
use Rattle.fsd_sound.specs.Mounted.{image_at}
use Rattle.fsd_sound.specs.Shown.{newest, records_by}
use Rattle.fsd_sound.proofs.WindowLaws.{borne_apart}
use Rattle.log_thirds.specs.Append.{IsIndexed}
use Rattle.group_commit.specs.Newest.{KnowsPages, newest_by}
use Rattle.group_commit.proofs.NewestLaws.{in_layout}
use Rattle.group_commit.proofs.StandsLaws.{page_in_memory, scanned}
use Rattle.volume_contract.specs.State.{Known, Stands}
use Rattle.volume_laws.specs.State.{IsMemoryOf, state}
use Rattle.volume_laws.specs.Volume.{IsWholeVolume, VolumeValue}
use Rattle.volume_laws.proofs.PageLaws.{indexed, over}
use Rattle.cached_table.proofs.ResidentLaws.{in_memory}

module _ (v : VolumeValue) (k : Known) (now : Moment) (whole : IsWholeVolume v) (stands : Stands state IsMemoryOf v k now) where
  pub knows_pages : AreShort now.windows → KnowsPages v.log now
  knows_pages short =
      let at = over v k now whole stands in
      record {
        windows = k.windows;
        ends = stands.ends;
        apart = borne_apart v.log.layout k.windows at.shows.readable.borne;
        shape = stands.holds.fits;
        records = stands.disk.records;
        disk = stands.disk.disk;
        over = record {
          shows = at.shows;
          own = at.own;
          indexed = subst (IsIndexed v.log) (scanned v.log.layout v.log.anchor v.log.head stands.disk.records stands.disk.disk k.mounted.pages v.cache.dirty k.windows now.image at) (indexed v k now whole stands);
        };
      }

  -- what it has in memory is the newest
  pub newest_there : AreNewest (newest_by v.log now.image) v.cache
  newest_there page there clean =
      let has = in_memory v.cache page there in
      let lt : page < v.log.layout.pages = omega (arith, stands.holds.inside page has.0 has.1, ap (λ (l : Layout). l.pages) whole.log) in
      has.1 ∙ ap (λ (bytes : List ℕ). Some bytes) (sym (stands.holds.pages page has.0 has.1))
      ∙ sym (in_layout v.log page lt now.image ∙ page_in_memory v.log.layout v.log.anchor v.log.head stands.disk.records stands.disk.disk k.mounted.pages v.cache.dirty k.windows now.image (over v k now whole stands) page lt clean)

  module _ (c : CacheValue) (dirty : c.dirty ≡ v.cache.dirty) (same : (page : ℕ) → is_among c.dirty page ≡ true → cached_bytes c page ≡ cached_bytes v.cache page) (clean : AreNewest (newest_by v.log now.image) c) where
    resident_by : (page : ℕ) (bytes : List ℕ) → cached_bytes c page ≡ Some bytes → IsResident c page
    resident_by page bytes there = by (held c page) there
      where
        by : (o : Option Held) → option_map (λ (h : Held). h.bytes) o ≡ Some bytes → IsSome o
        by None e = absurd (cc e)
        by (Some h) e = refl

    pages_there : (page : ℕ) (bytes : List ℕ) → cached_bytes c page ≡ Some bytes → image_at k.mounted.pages page ≡ bytes
    pages_there page bytes there = by (is_among c.dirty page) refl
      where
        by : (b : Bool) → is_among c.dirty page ≡ b → image_at k.mounted.pages page ≡ bytes
        by true waits = stands.holds.pages page bytes (sym (same page waits) ∙ there)
        by false rests =
            let given : newest_by v.log now.image page ≡ Some bytes = sym (clean page (resident_by page bytes there) rests) ∙ there in
            elim (cases_lt page v.log.layout.pages) [
              | inl lt ↦
                  let out : is_among v.cache.dirty page ≡ false = ap (λ (d : List ℕ). is_among d page) (sym dirty) ∙ rests in
                  let shown : newest_by v.log now.image page ≡ Some (image_at k.mounted.pages page) =
                  in_layout v.log page lt now.image ∙ page_in_memory v.log.layout v.log.anchor v.log.head stands.disk.records stands.disk.disk k.mounted.pages v.cache.dirty k.windows now.image (over v k now whole stands) page lt out in
                  cc (given, shown)
              | inr past ↦
                  let none : newest_by v.log now.image page ≡ None = ap (λ (b : Bool). cond b (newest v.log.layout now.image (records_by v.log.layout now.image v.log.anchor) page) None) (le-ltb page v.log.layout.pages past) in
                  absurd (cc (given, none))
            ]

    inside_there : (page : ℕ) (bytes : List ℕ) → cached_bytes c page ≡ Some bytes → page < v.layout.pages
    inside_there page bytes there = by (is_among c.dirty page) refl
      where
        by : (b : Bool) → is_among c.dirty page ≡ b → page < v.layout.pages
        by true waits = stands.holds.inside page bytes (sym (same page waits) ∙ there)
        by false rests =
            elim (cases_lt page v.log.layout.pages) [
              | inl lt ↦ omega (arith, lt, ap (λ (l : Layout). l.pages) whole.log)
              | inr past ↦
                  let given : newest_by v.log now.image page ≡ Some bytes = sym (clean page (resident_by page bytes there) rests) ∙ there in
                  let none : newest_by v.log now.image page ≡ None = ap (λ (b : Bool). cond b (newest v.log.layout now.image (records_by v.log.layout now.image v.log.anchor) page) None) (le-ltb page v.log.layout.pages past) in
                  absurd (cc (given, none))
            ]

    pub filled : Stands state IsMemoryOf (record v { cache = c }) k now
    filled = record {
      fits = record {
        layout = stands.fits.layout;
        serial = stands.fits.serial;
        anchor = stands.fits.anchor;
        head = stands.fits.head;
        dirty = stands.fits.dirty ∙ sym dirty;
        free = stands.fits.free;
        freed = stands.fits.freed;
        waiting = stands.fits.waiting;
        waits = stands.fits.waits;
        held = stands.fits.held;
        unfinished = stands.fits.unfinished;
        pages_free = stands.fits.pages_free;
        versions = stands.fits.versions;
        up = stands.fits.up;
      };
      opened = record { drafts = stands.opened.drafts; slices = stands.opened.slices; places = stands.opened.places; bytes = stands.opened.bytes };
      holds = record {
        planned = stands.holds.planned;
        pages = pages_there;
        inside = inside_there;
        map = stands.holds.map;
        removed = stands.holds.removed;
        kept = stands.holds.kept;
        unfinished = stands.holds.unfinished;
        free_pages = stands.holds.free_pages;
        log = stands.holds.log;
        fits = stands.holds.fits;
        indexed = stands.holds.indexed;
      };
      lists = record { table = stands.lists.table; slots = stands.lists.slots; free_pages = stands.lists.free_pages };
      ends = stands.ends;
      disk = stands.disk;
      written = stands.written;
    }
