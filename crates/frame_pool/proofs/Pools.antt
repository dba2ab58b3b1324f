-- A pool is read, and made, by what each place holds.
use Rattle.std.proofs.Common.{◌≡◌, ℕ, ◌<◌, List, map, length, set, get_or, slice_get, Some, None, refl, sym, ap, ◌∙◌, subst, length-set}
use Rattle.std.specs.List.{refill, length_refill}
use Rattle.frame_pool.specs.Places.{somes, IsFilled, AreFilled}
use Rattle.frame_pool.specs.Lends.{with_slots}
use Rattle.frame_pool.specs.FramePool.{frames_of, IsPool}
use Rattle.frame_pool.specs.declared.pool.FramePool.TheInside.{Inside}
use Rattle.frame_pool.proofs.Slots.{get_or-map_some, filled_below, somes-map, set-map_some}

-- the fields whose places hold the frames are a pool of them
pub pool_of : (p : Inside) (frames : List (List ℕ)) → p.cells.at ≡ p.base.ptr → (p.deed.at ≡ p.base.ptr) × (p.deed.len ≡ p.count) × (p.deed.alloc ≡ p.alloc)
    → p.cells.slots ≡ map Some frames → p.count ≡ length frames → IsPool p × (frames_of p ≡ frames)
pool_of p frames at deed full counted =
    let is : frames_of p ≡ frames = ap somes full ∙ somes-map frames in
    (record { at = at; deed = deed; full = full ∙ ap (map Some) (sym is); counted = counted ∙ sym (ap length is) }, is)

module _ (p : Inside) (h : IsPool p) (i : ℕ) where
  pub frame_at : get_or p.cells.slots i None ≡ slice_get (frames_of p) i
  frame_at = ap (λ cs. get_or cs i None) h.full ∙ get_or-map_some (frames_of p) i

  pub frame_below : i < length (frames_of p) → IsFilled p.cells.slots i
  frame_below lt = subst (λ cs. IsFilled cs i) (sym h.full) (filled_below (frames_of p) i lt)

  -- one frame is written over
  pub frame_written : (w : List ℕ) → let q = record p { cells = with_slots p.cells (set p.cells.slots i (Some w)) } in IsPool q × (frames_of q ≡ set (frames_of p) i w)
  frame_written w = pool_of (record p { cells = with_slots p.cells (set p.cells.slots i (Some w)) }) (set (frames_of p) i w) h.at h.deed
      (ap (λ cs. set cs i (Some w)) h.full ∙ set-map_some (frames_of p) i w) (h.counted ∙ sym (length-set (frames_of p) i w))

module _ (p : Inside) (h : IsPool p) where
  pub all_filled : AreFilled p.cells.slots p.count
  all_filled = (frames_of p, (h.full, sym h.counted))

  -- all frames are written over
  pub frames_written : (ws : List (List ℕ)) → let frames = refill p.count (frames_of p) ws in
      let q = record p { cells = with_slots p.cells (map Some frames) } in IsPool q × (frames_of q ≡ frames)
  frames_written ws =
      let frames = refill p.count (frames_of p) ws in
      pool_of (record p { cells = with_slots p.cells (map Some frames) }) frames h.at h.deed refl (length_refill p.count (frames_of p) ws h.counted)
