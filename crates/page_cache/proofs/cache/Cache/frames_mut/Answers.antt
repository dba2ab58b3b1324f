use Rattle.std.proofs.Common.{◌≡◌, List, ℕ, length, refl, sym, ap, subst}
use Rattle.std.proofs.Common.{Some}
use Rattle.std.specs.Prelude.{IfSome, slice_get}
use Rattle.page_cache.specs.Cache.{held}
use Rattle.page_cache.specs.Inside.{value_of}
use Rattle.page_cache.proofs.FrameLaws.{frames_inside, frame_holds}
use Rattle.page_cache.proofs.cache.Cache.frames_mut.Goals as goal

pub invariant_of-self-lent : goal.invariant_of-self-lent
invariant_of-self-lent c = λ w. (frames_inside c.self.inside c.self.invariant w).0

pub returns : goal.returns
returns c = rw (← c.self.view_is) (
  (refl, λ w. (frames_inside c.self.inside c.self.invariant w).1),
  record {
    writes_back = tt;
    count = ap length c.frames_mut.ensures.value;
    value = λ page. subst (λ (pool : List (List ℕ)). IfSome (held (value_of c.self.inside) page) (λ h. slice_get pool h.frame ≡ Some h.bytes)) (sym c.frames_mut.ensures.value) (frame_holds c.self.inside c.self.invariant page);
  },
)
