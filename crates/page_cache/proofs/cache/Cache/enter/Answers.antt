use Rattle.std.proofs.Common.{◌≡◌, ◌<◌, ◌∙◌, ℕ, None, length, set, sym, ap, subst, arith}
use Rattle.page_cache.specs.Cache.{CacheValue, IsCache, KeepsNewest, held, busy, frame_for, entered_page}
use Rattle.page_cache.specs.Inside.{IsInside, value_of}
use Rattle.page_cache.proofs.ShownLaws.{order_lacks, frame_is, frame_fits, frame_in, entered_inside}
use Rattle.page_cache.proofs.NewestLaws.{entered_newest}
use Rattle.page_cache.specs.declared.cache.Cache.TheInside.{Inside}
use Rattle.page_cache.proofs.BusyLaws.{busy_entered}
use Rattle.page_cache.proofs.cache.Cache.enter.Goals.{In_ok-frame}
use Rattle.page_cache.proofs.cache.Cache.enter.Goals as goal

module _ (i : Inside) (v : CacheValue) (is : value_of i ≡ v) (page : ℕ) where
  new : held v page ≡ None → held (value_of i) page ≡ None
  new h = subst (λ (x : CacheValue). held x page ≡ None) (sym is) h

  room : busy v < v.frames → busy (value_of i) < length i.pool
  room h = subst (λ (x : CacheValue). busy x < x.frames) (sym is) h

pub take_in-requires-clause-new : goal.take_in-requires-clause-new
take_in-requires-clause-new c = order_lacks c.self.inside.pool c.args.page c.self.inside.order.entries (new c.self.inside c.args.self.now c.self.view_is c.args.page c.requires.new)

-- ---- the frame that it enters

none : (c : In_ok-frame) → held (value_of c.self.inside) c.args.page ≡ None
none c = new c.self.inside c.args.self.now c.self.view_is c.args.page c.requires.new

free : (c : In_ok-frame) → busy (value_of c.self.inside) < length c.self.inside.pool
free c = room c.self.inside c.args.self.now c.self.view_is c.args.page c.requires.room

frame_here : (c : In_ok-frame) → c.in_ok-frame.frame ≡ frame_for (value_of c.self.inside)
frame_here c = frame_is c.self.inside c.self.invariant c.args.page (none c) (free c) c.len-frames.result c.as_slice.result.now c.in_ok-frame.frame c.len-frames.ensures c.as_slice.ensures.value c.in_ok-frame.ensures.frame

frame_low : (c : In_ok-frame) → c.in_ok-frame.frame < 1024
frame_low c = frame_in c.self.inside c.self.invariant c.args.page (none c) (free c) c.in_ok-frame.frame (frame_here c)

-- what the cache is made of then, and what it is
made : (c : In_ok-frame) → let i : Inside = record c.self.inside { pool = set c.self.inside.pool c.in_ok-frame.frame c.args.bytes.now; order = c.take_in.new.order; accepted = set c.self.inside.accepted c.in_ok-frame.frame 0 } in
    IsInside i × (value_of i ≡ entered_page c.args.page c.args.bytes.now (value_of c.self.inside))
made c =
    entered_inside c.self.inside c.self.invariant c.args.page (none c) (free c) c.len-frames.result c.as_slice.result.now c.in_ok-frame.frame c.args.bytes.now c.take_in.new.order c.len-frames.ensures c.as_slice.ensures.value c.in_ok-frame.ensures.frame
    c.in_ok-frame.ensures.entries

pub bounds-self-inside-frame : goal.bounds-self-inside-frame
bounds-self-inside-frame c = frame_low (goal.at.bounds-self-inside-frame c).In_ok-frame

pub offset_bounds-self-inside-frame : goal.offset_bounds-self-inside-frame
offset_bounds-self-inside-frame c = let below = frame_low (goal.at.offset_bounds-self-inside-frame c).In_ok-frame in omega (arith, below)

pub get_mut-requires : goal.get_mut-requires
get_mut-requires c =
    let at = (goal.at.get_mut-requires c).In_ok-frame in
    frame_fits c.self.inside c.self.invariant c.args.page (none at) (free at) c.in_ok-frame.frame (frame_here at)

pub invariant_of-self-2 : goal.invariant_of-self-2
invariant_of-self-2 c = (made (goal.at.invariant_of-self-2 c).In_ok-frame).0

pub returns-clause-frame : goal.returns-clause-frame
returns-clause-frame c = frame_here (goal.at.returns-clause-frame c).In_ok-frame ∙ ap frame_for c.self.view_is

pub returns-clause-entered : goal.returns-clause-entered
returns-clause-entered c = (made (goal.at.returns-clause-entered c).In_ok-frame).1 ∙ ap (entered_page c.args.page c.args.bytes.now) c.self.view_is

pub returns-clause-newest : goal.returns-clause-newest
returns-clause-newest c source is = subst (KeepsNewest source c.args.self.now) (sym (returns-clause-entered c))
    (λ clean. entered_newest c.args.self.now (subst IsCache c.self.view_is c.self.invariant.whole) c.args.page c.args.bytes.now c.requires.new source is clean)

pub returns-clause-busy : goal.returns-clause-busy
returns-clause-busy c = ap busy (returns-clause-entered c) ∙ busy_entered c.args.page c.args.bytes.now c.args.self.now (subst IsCache c.self.view_is c.self.invariant.whole) c.requires.new
