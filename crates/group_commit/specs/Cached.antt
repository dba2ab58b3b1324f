-- The dirty pages of a cache, and what a force makes of them.
use Rattle.std.specs.Prelude.{◌≡◌, ℕ, ◌*◌, ◌<◌, Bool, true, cond, List, [], ◌∷◌, length, map, take, Some, IfSome}
use Rattle.std.specs.Option.{option_map_or}
use Rattle.volume_layout.specs.declared.layout.Layout.{Layout}
use Rattle.fsd_formats.specs.Record.{Stamp}
use Rattle.fsd_log.specs.Laid.{slices}
use Rattle.fsd_sound.specs.Mounted.{image_at}
use Rattle.page_cache.specs.Cache.{CacheValue, Held, cached_bytes, is_among}
use Rattle.sector_disk.specs.Machine.{Moment}
use Rattle.log_thirds.specs.LogValue.{LogValue}
use Rattle.log_thirds.specs.Append.{stamp_now}
use Rattle.group_commit.specs.Forces.{ForceLeaves}
use Rattle.group_commit.specs.Resident.{ResidentValue, IsImageOf, stamped, page_added, with_stamp}

-- ---- pages in ascending order

-- these pages put one after another among the others
abbrev pub put_among : List ℕ → List ℕ → List ℕ
put_among [] others = others
put_among (page ∷ more) others = put_among more (page_added page others)

-- the same pages ascending, each once
abbrev pub ascending_of : List ℕ → List ℕ
ascending_of pages = put_among pages []

-- ---- frames

-- the bytes of the page's frame
abbrev pub frame_bytes : CacheValue → ℕ → List ℕ
frame_bytes c page = option_map_or (λ bytes. bytes) (cached_bytes c page) []

-- what is held of a page, with its bytes stamped where it waits
abbrev pub held_stamped : Stamp → (waits : Bool) → Held → Held
held_stamped stamp waits h = cond waits (record h { bytes = with_stamp stamp h.bytes }) h

-- the frames of these pages bear the stamp, and all else stays
abbrev pub stamped_frames : Stamp → List ℕ → CacheValue → CacheValue
stamped_frames stamp pages c = record c { resident = map (λ e. (e.0, held_stamped stamp (is_among pages e.0) e.1)) c.resident }

-- the dirty pages are stamped for the next record of the log
abbrev pub stamped_for : LogValue → CacheValue → CacheValue
stamped_for log c = stamped_frames (stamp_now log) c.dirty c

-- A dirty page is one of the table's, and its frame has an image of it.
pub record IsWaiting (pages : ℕ) (c : CacheValue) (page : ℕ) : Type 0 where
  pub inside : page < pages
  pub image : IfSome (cached_bytes c page) (IsImageOf page)

-- each dirty page is so
abbrev pub AreWaiting : (pages : ℕ) → CacheValue → Type 0
AreWaiting pages c = (page : ℕ) → is_among c.dirty page ≡ true → IsWaiting pages c page

-- ---- the pages of the table

-- These are the pages of the table: of each that is in memory the bytes of its frame.
pub record AgreesWith (l : Layout) (c : CacheValue) (pages : List (List ℕ)) : Type 0 where
  pub table : length pages ≡ l.pages
  pub frames : (page : ℕ) (bytes : List ℕ) → cached_bytes c page ≡ Some bytes → image_at pages page ≡ bytes

-- these pages, of which the dirty ones wait, ascending
abbrev pub with_waiting : CacheValue → List (List ℕ) → ResidentValue
with_waiting c pages = record { pages = pages; dirty = ascending_of c.dirty }

-- These pages, once they are stamped, have the images that lie there.
pub record HasImages (log : LogValue) (dirty room : List ℕ) (pages : List (List ℕ)) : Type 0 where
  pub table : length pages ≡ log.layout.pages
  pub laid : slices (length dirty) (take (512 * length dirty) room) ≡ map (image_at (stamped (stamp_now log) dirty pages)) dirty

-- whatever pages have these images, a force of them leaves this
abbrev pub RecordLeaves : LogValue → (dirty room : List ℕ) → Moment → Moment → Type 0
RecordLeaves log dirty room old left = (pages : List (List ℕ)) → HasImages log dirty room pages → ForceLeaves log (record { pages = pages; dirty = dirty }) old left

-- whatever pages agree with the cache, a force of these ones leaves this
abbrev pub FramesLeave : LogValue → CacheValue → (dirty : List ℕ) → Moment → Moment → Type 0
FramesLeave log c dirty old left = (pages : List (List ℕ)) → AgreesWith log.layout c pages → ForceLeaves log (record { pages = pages; dirty = dirty }) old left

-- so of all that are dirty
abbrev pub CacheLeaves : LogValue → CacheValue → Moment → Moment → Type 0
CacheLeaves log c = FramesLeave log c (ascending_of c.dirty)
