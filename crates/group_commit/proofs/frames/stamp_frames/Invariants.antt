use Rattle.std.proofs.Common.{◌≡◌, take}
use Rattle.group_commit.specs.Cached.{stamped_frames}
use Rattle.group_commit.proofs.frames.stamp_frames.Given as goal

abbrev pub invariant-loop-page : goal.invariant-loop-page
invariant-loop-page l = l.cache ≡ stamped_frames (record { epoch = l.epoch; number = l.number }) (take l.page-index l.pages) l.initial.cache
