use Rattle.std.proofs.Common.{◌≡◌, ◌*◌, ◌∙◌, ℕ, List, Some, take, length, get_or, ap, sym, subst, rules}
use Rattle.std.specs.Vec.{with_items}
use Rattle.std.proofs.lemmas.List.{with_items_is}
use Rattle.fsd_formats.specs.Record.{AreStamped, Stamp}
use Rattle.fsd_log.specs.Borne.{FitsStamp}
use Rattle.fsd_log.specs.Judged.{sector_in}
use Rattle.fsd_log.specs.Laid.{slices}
use Rattle.group_commit.specs.Cached.{HasImages}
use Rattle.log_thirds.specs.Append.{stamp_now}
use Rattle.page_cache.specs.Cache.{CacheValue, IsResident, cached_bytes}
use Rattle.group_commit.proofs.FramedLaws.{record_frames, record_images, record_stamped}
use Rattle.group_commit.proofs.FrameLaws.{there_then}
use Rattle.group_commit.proofs.ImageLaws.{pages_of}
use Rattle.group_commit.proofs.OrderLaws.{index_contained}
use Rattle.group_commit.proofs.cached.lay_record.Goals as goal
use Rattle.group_commit.proofs.cached.lay_record.Goals.{After-lay_frames}
use Rattle.sector_disk.proofs.Wear.{slice_in_front}

pub stamp_frames-requires-clause-inside : goal.stamp_frames-requires-clause-inside
stamp_frames-requires-clause-inside c = λ k lt. c.requires.inside (get_or c.args.waiting.now k 0) (index_contained c.args.waiting.now k lt)

pub stamp_frames-requires-clause-ascends : goal.stamp_frames-requires-clause-ascends
stamp_frames-requires-clause-ascends c = (pages_of c.args.log.now.layout.pages c.args.waiting.now c.requires.accepted).ascends

pub lay_frames-requires-clause-inside : goal.lay_frames-requires-clause-inside
lay_frames-requires-clause-inside c = λ k lt.
    let page = get_or c.args.waiting.now k 0 in
    subst (λ (v : CacheValue). IsResident v page) (sym c.stamp_frames.ensures) (there_then (record { epoch = c.epoch.result; number = c.next_number.result }) c.args.waiting.now c.args.cache.now page (c.requires.inside page (index_contained c.args.waiting.now k lt)))

-- ---- behind the laying

abbrev read : (c : After-lay_frames) → Stamp
read c = record { epoch = c.epoch.result; number = c.next_number.result }

read_is : (c : After-lay_frames) → read c ≡ stamp_now c.args.log.now
read_is c = λ i. record { epoch = c.epoch.ensures i; number = c.next_number.ensures i }

fits : (c : After-lay_frames) → FitsStamp (read c)
fits c = record { epoch = c.epoch.type_inv; number = c.next_number.type_inv }

kept : (c : After-lay_frames) → (with_items c.room.inside.images c.lay_frames.new.room).items ≡ c.lay_frames.new.room
kept c = with_items_is c.room.inside.images c.lay_frames.new.room (let long : length c.lay_frames.new.room ≡ c.room.inside.images.len = search rules in long)

pub returns-clause-stamped : goal.returns-clause-stamped
returns-clause-stamped c =
    let c1 = (goal.at.returns-clause-stamped c).After-lay_frames in
    let n = length c.args.waiting.now in
    subst (λ (r : List ℕ). AreStamped (stamp_now c.args.log.now) c.args.waiting.now (slices n (take (512 * n) r))) (sym (kept c1))
    (record_stamped (stamp_now c.args.log.now) (read c1) (fits c1) (read_is c1) c.args.log.now.layout.pages c.args.waiting.now c.requires.accepted c.args.cache.now c.stamp_frames.new.cache c.stamp_frames.ensures c.requires.inside c.requires.images c.lay_frames.ensures.whole (take (512 * n) c.lay_frames.new.room) c.lay_frames.ensures.laid)

pub returns-clause-laid : goal.returns-clause-laid
returns-clause-laid c pages agrees =
    let c1 = (goal.at.returns-clause-laid c).After-lay_frames in
    let n = length c.args.waiting.now in
    subst (λ (r : List ℕ). HasImages c.args.log.now c.args.waiting.now r pages) (sym (kept c1))
    (record {
      table = agrees.table;
      laid = record_images (stamp_now c.args.log.now) (read c1) (fits c1) (read_is c1) c.args.log.now.layout.pages c.args.waiting.now c.requires.accepted c.args.cache.now c.stamp_frames.new.cache c.stamp_frames.ensures c.requires.inside c.requires.images c.lay_frames.ensures.whole (take (512 * n) c.lay_frames.new.room) c.lay_frames.ensures.laid pages agrees.table agrees.frames;
    })

pub returns-clause-frames : goal.returns-clause-frames
returns-clause-frames c k lt =
    let c1 = (goal.at.returns-clause-frames c).After-lay_frames in
    let n = length c.args.waiting.now in
    let page = get_or c.args.waiting.now k 0 in
    subst (λ (r : List ℕ). cached_bytes c.stamp_frames.new.cache page ≡ Some (sector_in r k)) (sym (kept c1))
    (record_frames (stamp_now c.args.log.now) (read c1) (fits c1) (read_is c1) c.args.log.now.layout.pages c.args.waiting.now c.requires.accepted c.args.cache.now c.stamp_frames.new.cache c.stamp_frames.ensures c.requires.inside c.requires.images c.lay_frames.ensures.whole (take (512 * n) c.lay_frames.new.room) c.lay_frames.ensures.laid k lt
    ∙ ap (λ (b : List ℕ). Some b) (slice_in_front c.lay_frames.new.room n k lt))
