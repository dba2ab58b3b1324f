use Rattle.std.proofs.Common.{◌≢◌, ◌<◌, [], length, set, slice_get, refl, sym, ap, ◌∙◌, arith}
use Rattle.std.proofs.lemmas.List.{set_comm}
use Rattle.frame_pool.proofs.Split.{get_in_front, get_behind, set_both}
use Rattle.frame_pool.proofs.pool.two_of.Goals as goal

pub returns-then-i-j : goal.returns-then-i-j
returns-then-i-j c =
    let parts = c.split_at_mut-front.ensures in let r = c.split_at_mut-front.result in let a = c.args in
    let inner : a.i < length r.0.now = omega (arith, parts.front_len, c.if-i-j.true) in
    let long : 0 < length r.1.now = omega (arith, parts.back_len, c.requires.second) in (
      ((refl, refl), λ v w. set_both r.0.now r.1.now a.i a.j v w inner (sym parts.front_len) long ∙ ap (λ xs. set (set xs a.i v) a.j w) (sym parts.value)),
      record {
        writes_back = tt;
        first = ap (λ xs. slice_get xs a.i) parts.value ∙ get_in_front r.0.now r.1.now a.i [] inner;
        second = ap (λ xs. slice_get xs a.j) parts.value ∙ get_behind r.0.now r.1.now a.j [] (sym parts.front_len) long;
      },
    )

pub returns-else-i-j : goal.returns-else-i-j
returns-else-i-j c =
    let parts = c.split_at_mut-front-else-i-j.ensures in let r = c.split_at_mut-front-else-i-j.result in let a = c.args in
    let apart : a.j ≢ a.i = omega (arith, c.requires.apart) in
    let inner : a.j < length r.0.now = omega (arith, parts.front_len, c.if-i-j.false, c.requires.apart) in
    let long : 0 < length r.1.now = omega (arith, parts.back_len, c.requires.first) in (
      (
        (refl, refl),
        λ v w. set_both r.0.now r.1.now a.j a.i w v inner (sym parts.front_len) long
            ∙ ap (λ xs. set (set xs a.j w) a.i v) (sym parts.value) ∙ set_comm a.frames.now a.j a.i w v apart,
      ),
      record {
        writes_back = tt;
        first = ap (λ xs. slice_get xs a.i) parts.value ∙ get_behind r.0.now r.1.now a.i [] (sym parts.front_len) long;
        second = ap (λ xs. slice_get xs a.j) parts.value ∙ get_in_front r.0.now r.1.now a.j [] inner;
      },
    )
