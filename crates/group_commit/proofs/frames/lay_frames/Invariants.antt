use Rattle.std.proofs.Common.{◌≡◌, ◌*◌, ◌<◌, ℕ, take, length, get_or}
use Rattle.std.specs.List.{flat_map}
use Rattle.group_commit.specs.Cached.{frame_bytes}
use Rattle.group_commit.proofs.frames.lay_frames.Given as goal

abbrev pub invariant-loop-k : goal.invariant-loop-k
invariant-loop-k l = (take (512 * l.k) l.room ≡ flat_map (frame_bytes l.cache) (take l.k l.pages)) × ((j : ℕ) → j < l.k → length (frame_bytes l.cache (get_or l.pages j 0)) ≡ 512)
