-- What a pool holds.
use Rattle.std.specs.Prelude.{◌≡◌, ℕ, List, map, length, Some}
use Rattle.frame_pool.specs.Places.{somes}
use Rattle.frame_pool.specs.declared.pool.FramePool.TheInside.{Inside}

-- the frames, in the order of the block
abbrev pub frames_of : Inside → List (List ℕ)
frames_of p = somes p.cells.slots

-- the block is the pool's, and each of its places holds a frame
pub record IsPool (p : Inside) : Type 0 where
  pub at : p.cells.at ≡ p.base.ptr
  pub deed : (p.deed.at ≡ p.base.ptr) × (p.deed.len ≡ p.count) × (p.deed.alloc ≡ p.alloc)
  pub full : p.cells.slots ≡ map Some (frames_of p)
  pub counted : p.count ≡ length (frames_of p)
