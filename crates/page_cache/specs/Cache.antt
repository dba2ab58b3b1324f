-- A cache of pages as its callers see it.
use Rattle.std.specs.Prelude.{◌≡◌, ℕ, ◌<◌, ◌≤◌, Bool, false, not, ◌&&◌, ◌==◌, nat_eq, cond, if◌then◌else◌, is_some, IsSome, List, [], ◌∷◌, ◌++◌, map, length, reverse, slice_index_or, count_by, find, Option, Some, None, option_map}
use Rattle.std.specs.List.{AllByRecursion, IsDistinct, list_any}
use Rattle.std.specs.Option.{option_map_or, option_or}
use Rattle.std.specs.Map.{keys_of, lookup, remove_entry}
use Rattle.lru.specs.LruCache.{promoted}

-- a page in memory: its frame, the bytes in it, and how often the page is pinned
pub record Held : Type 0 where
  pub frame : ℕ
  pub bytes : List ℕ
  pub pins : ℕ

-- The number of frames; the pages in memory, the most recently used first;
-- and the pages that are dirty, in the order in which they became so.
pub record CacheValue : Type 0 where
  pub frames : ℕ
  pub resident : List (ℕ × Held)
  pub dirty : List ℕ

-- ---- what a cache says of a page

abbrev pub is_among : List ℕ → ℕ → Bool
is_among pages page = list_any (λ other. nat_eq other page) pages

abbrev pub held : CacheValue → ℕ → Option Held
held c page = lookup (nat_eq page) c.resident

abbrev pub IsResident : CacheValue → ℕ → Type 0
IsResident c page = IsSome (held c page)

abbrev pub cached_bytes : CacheValue → ℕ → Option (List ℕ)
cached_bytes c page = option_map (λ h. h.bytes) (held c page)

abbrev pub pins_of : CacheValue → ℕ → ℕ
pins_of c page = option_map_or (λ h. h.pins) (held c page) 0

-- the bytes of its frame where the page is in memory, else those of the source
abbrev pub newest_bytes : CacheValue → (source : ℕ → Option (List ℕ)) → ℕ → Option (List ℕ)
newest_bytes c source page = option_or (cached_bytes c page) (source page)

-- each page in memory that is not dirty is the source's
abbrev pub AreNewest : (source : ℕ → Option (List ℕ)) → CacheValue → Type 0
AreNewest source c = (page : ℕ) → IsResident c page → is_among c.dirty page ≡ false → cached_bytes c page ≡ source page

-- where that is so it stays so, and no page's newest bytes change
abbrev pub KeepsNewest : (source : ℕ → Option (List ℕ)) → CacheValue → CacheValue → Type 0
KeepsNewest source old new = AreNewest source old → AreNewest source new × ((page : ℕ) → newest_bytes new source page ≡ newest_bytes old source page)

-- ---- which page goes when one more comes

-- neither pinned nor dirty
abbrev pub may_leave : (dirty : List ℕ) (page pins : ℕ) → Bool
may_leave dirty page pins = (pins == 0) && not (is_among dirty page)

abbrev pub idle : CacheValue → ℕ × Held → Bool
idle c e = may_leave c.dirty e.0 e.1.pins

-- this is held of the page, which is dirty or pinned
abbrev pub IsBusy : CacheValue → ℕ → Held → Type 0
IsBusy c page h = (held c page ≡ Some h) × (may_leave c.dirty page h.pins ≡ false)

-- how many pages in memory are dirty or pinned
abbrev pub busy : CacheValue → ℕ
busy c = count_by (λ e. not (idle c e)) c.resident

module _ {X : Type 0} where
  -- none where a frame is free, else the least recently used of those that may go
  abbrev pub leaving : (frames : ℕ) (may_go : ℕ × X → Bool) → List (ℕ × X) → Option (ℕ × X)
  leaving frames may_go es = if length es == frames then find may_go (reverse es) else None

  -- the others
  abbrev pub staying : Option (ℕ × X) → List (ℕ × X) → List (ℕ × X)
  staying goes es = option_map_or (λ e. remove_entry (nat_eq e.0) es) goes es

abbrev pub leaver : CacheValue → Option (ℕ × Held)
leaver c = leaving c.frames (idle c) c.resident

-- the frame of the page that goes, else the next free one
abbrev pub frame_for : CacheValue → ℕ
frame_for c = option_map_or (λ e. e.1.frame) (leaver c) (length c.resident)

-- ---- what the calls make of it

-- the pages, with f of what is held of one of them
abbrev pub altered : ℕ → (Held → Held) → List (ℕ × Held) → List (ℕ × Held)
altered page f es = map (λ e. (e.0, cond (nat_eq page e.0) (f e.1) e.1)) es

abbrev pub no_pages : (frames : ℕ) → CacheValue
no_pages frames = record { frames = frames; resident = []; dirty = [] }

-- the page is the most recently used
abbrev pub used : ℕ → CacheValue → CacheValue
used page c = record c { resident = promoted (nat_eq page) c.resident }

-- the page with these bytes, not pinned, is the most recently used, and the one that goes has made room for it
abbrev pub entered_page : (page : ℕ) (bytes : List ℕ) → CacheValue → CacheValue
entered_page page bytes c = record c { resident = (page, record { frame = frame_for c; bytes = bytes; pins = 0 }) ∷ staying (leaver c) c.resident }

abbrev pub page_written : (page : ℕ) (bytes : List ℕ) → CacheValue → CacheValue
page_written page bytes c = record c { resident = altered page (λ h. record h { bytes = bytes }) c.resident }

-- each page with the bytes that its frame has among these
abbrev pub with_frames : List (List ℕ) → CacheValue → CacheValue
with_frames ws c = record c { resident = map (λ e. (e.0, record e.1 { bytes = slice_index_or ws e.1.frame e.1.bytes })) c.resident }

abbrev pub with_pins : (page pins : ℕ) → CacheValue → CacheValue
with_pins page pins c = record c { resident = altered page (λ h. record h { pins = pins }) c.resident }

-- the page is dirty, and stands in the list once
abbrev pub with_dirty : ℕ → CacheValue → CacheValue
with_dirty page c = record c { dirty = if is_among c.dirty page then c.dirty else c.dirty ++ page ∷ [] }

-- the page is dirty and has these bytes, whether it was in memory or not
abbrev pub with_written : (page : ℕ) (bytes : List ℕ) → CacheValue → CacheValue
with_written page bytes c =
    record (with_dirty page c) {
      resident = cond (is_some (held c page)) (altered page (λ h. record h { bytes = bytes }) c.resident) ((page, record { frame = 0; bytes = bytes; pins = 0 }) ∷ c.resident);
    }

abbrev pub cleaned : CacheValue → CacheValue
cleaned c = record c { dirty = [] }

-- ---- what holds of every cache

abbrev pub frames_held : List (ℕ × Held) → List ℕ
frames_held es = map (λ e. e.1.frame) es

-- No page stands twice and no frame; the frames that are taken are the first ones; each dirty page is in memory, and
-- stands in the list once; at most 96 are.
pub record IsCache (c : CacheValue) : Type 0 where
  pub pages : IsDistinct nat_eq (keys_of c.resident)
  pub frames : IsDistinct nat_eq (frames_held c.resident)
  pub first : AllByRecursion (λ frame. frame < length c.resident) (frames_held c.resident)
  pub fit : length c.resident ≤ c.frames
  pub once : IsDistinct nat_eq c.dirty
  pub few : length c.dirty ≤ 96
  pub waiting : AllByRecursion (IsResident c) c.dirty
