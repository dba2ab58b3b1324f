-- How a cache shows what it is made of.
use Rattle.std.specs.Prelude.{◌≡◌, ◌≤◌, ℕ, ◌+◌, List, map, length, slice_index_or, []}
use Rattle.page_cache.specs.declared.cache.Slot.{Slot}
use Rattle.page_cache.specs.declared.cache.Cache.TheInside.{Inside}
use Rattle.page_cache.specs.Cache.{Held, CacheValue, IsCache}
use Rattle.page_cache.specs.Accepted.{HasAccepted}

abbrev pub slot_shown : List (List ℕ) → Slot → Held
slot_shown pool slot = record { frame = slot.frame; bytes = slice_index_or pool slot.frame []; pins = slot.pins }

abbrev pub entries_shown : List (List ℕ) → List (ℕ × Slot) → List (ℕ × Held)
entries_shown pool es = map (λ e. (e.0, slot_shown pool e.1)) es

abbrev pub value_of : Inside → CacheValue
value_of c = record { frames = length c.pool; resident = entries_shown c.pool c.order.entries; dirty = c.dirty.items }

-- it is a cache, the map has room for one page more than there are frames, and the grammar accepts what is marked so
pub record IsInside (c : Inside) : Type 0 where
  pub whole : IsCache (value_of c)
  pub room : c.order.cap ≡ length c.pool + 1
  pub few : length c.pool ≤ 1024
  pub accepted : HasAccepted c.accepted (value_of c)
