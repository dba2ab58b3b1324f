-- Behind a force the frames of a cache are the newest images.
use Rattle.std.proofs.Common.{◌≡◌, ℕ, ◌<◌, ◌≤◌, Bool, true, false, List, [], ◌∷◌, length, option_map, Option, Some, None, refl, sym, ap, ◌∙◌, arith}
use Rattle.run_table.specs.Space.{contains}
use Rattle.fsd_formats.specs.Record.{Stamp, are_pages}
use Rattle.sector_disk.specs.declared.sector.WeakRun.{WeakRun}
use Rattle.fsd_log.specs.Scan.{Placed}
use Rattle.fsd_files.specs.Disk.{Image}
use Rattle.fsd_sound.specs.Mounted.{image_at}
use Rattle.log_thirds.specs.LogValue.{LogValue}
use Rattle.log_thirds.specs.Append.{stamp_now}
use Rattle.page_cache.specs.Cache.{AreNewest, CacheValue, Held, IsCache, IsResident, cleaned, held, is_among}
use Rattle.group_commit.specs.Cached.{AgreesWith, AreWaiting, ascending_of, frame_bytes, held_stamped, stamped_for, with_waiting}
use Rattle.group_commit.specs.Force.{Committed, StandsOverDisk, stamped_by}
use Rattle.group_commit.specs.Newest.{newest_by}
use Rattle.group_commit.specs.Resident.{stamped, with_stamp}
use Rattle.group_commit.proofs.FrameLaws.{frame_is, held_then}
use Rattle.group_commit.proofs.ImageLaws.{below_at, length-stamped, pages_of, stamped_at, stamped_other}
use Rattle.group_commit.proofs.NewestLaws.{in_layout}
use Rattle.group_commit.proofs.OrderLaws.{accepted_ascending, one_ascending}
use Rattle.group_commit.proofs.StandsLaws.{page_in_memory}

-- the order of those that wait does not matter
pub stands_ascending : (log : LogValue) (records : List Placed) (disk pages : List (List ℕ)) (dirty : List ℕ) (windows : List WeakRun) (i : Image) → StandsOverDisk log records disk (record { pages = pages; dirty = dirty }) windows i
    → StandsOverDisk log records disk (record { pages = pages; dirty = ascending_of dirty }) windows i
stands_ascending log records disk pages dirty windows i over = record {
  shows = over.shows;
  own = over.own;
  clean = record { size = over.clean.size; each = λ page out. over.clean.each page (sym (one_ascending dirty page) ∙ out) };
}

module _ (log : LogValue) (c : CacheValue) (pages : List (List ℕ)) (agrees : AgreesWith log.layout c pages) where
  pub newest_frames : (windows : List WeakRun) (i : Image) → Committed log (record { pages = pages; dirty = [] }) windows i → ((page : ℕ) → IsResident c page → page < log.layout.pages) → AreNewest (newest_by log i) c
  newest_frames windows i done inside page there clean =
      let lt = inside page there in
      let is = frame_is c page there in
      is ∙ ap (λ (bytes : List ℕ). Some bytes) (sym (agrees.frames page (frame_bytes c page) is))
      ∙ sym (in_layout log page lt i ∙ page_in_memory log.layout log.anchor log.head done.records pages pages [] windows i done.stands page lt refl)

  module _ (cache : IsCache c) (waiting : AreWaiting log.layout.pages c) where
    abbrev stamp : Stamp
    stamp = stamp_now log

    listed : (page : ℕ) → is_among c.dirty page ≡ true → contains (ascending_of c.dirty) page ≡ true
    listed page is = one_ascending c.dirty page ∙ is

    some : (xs : List ℕ) (page : ℕ) → contains xs page ≡ true → 1 ≤ length xs
    some [] page is = absurd cc
    some (x ∷ xs) page is = omega arith

    accepted : (page : ℕ) → is_among c.dirty page ≡ true → are_pages (length pages) (ascending_of c.dirty) ≡ true
    accepted page is = accepted_ascending (length pages) c.dirty (λ p w. omega (arith, (waiting p w).inside, agrees.table)) cache.few (some (ascending_of c.dirty) page (listed page is))

    by_held : (page : ℕ) (bytes : List ℕ) (b : Bool) (o : Option Held) → is_among c.dirty page ≡ b → held c page ≡ o → option_map (λ (h : Held). h.bytes) (option_map (held_stamped stamp b) o) ≡ Some bytes → image_at (stamped stamp (ascending_of c.dirty) pages) page ≡ bytes
    by_held page bytes b None is has there = absurd (cc there)
    by_held page bytes false (Some h) is has there =
        stamped_other stamp (ascending_of c.dirty) pages page (one_ascending c.dirty page ∙ is)
        ∙ agrees.frames page bytes (ap (option_map (λ (h : Held). h.bytes)) has ∙ there)
    by_held page bytes true (Some h) is has there =
        let all = pages_of (length pages) (ascending_of c.dirty) (accepted page is) in
        let same : with_stamp stamp h.bytes ≡ bytes = cc there in
        stamped_at stamp (ascending_of c.dirty) pages page all.ascends (listed page is) (below_at (length pages) (ascending_of c.dirty) all.below page (listed page is))
        ∙ ap (with_stamp stamp) (agrees.frames page h.bytes (ap (option_map (λ (h : Held). h.bytes)) has)) ∙ same

    -- the stamped pages agree with the stamped frames
    pub agrees_then : AgreesWith log.layout (cleaned (stamped_for log c)) (stamped_by log (with_waiting c pages))
    agrees_then = record {
      table = length-stamped stamp (ascending_of c.dirty) pages ∙ agrees.table;
      frames = λ page bytes has. by_held page bytes (is_among c.dirty page) (held c page) refl refl (ap (option_map (λ (h : Held). h.bytes)) (sym (held_then stamp c.dirty c page)) ∙ has);
    }
