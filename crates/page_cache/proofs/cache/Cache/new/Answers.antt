use Rattle.std.proofs.Common.{◌≡◌, ◌+◌, ◌≤◌, ◌∙◌, ℕ, Option, Some, length, replicate, refl, sym, ap, subst}
use Rattle.std.proofs.lemmas.List.{length-replicate}
use Rattle.std.specs.Option.{MatchOption}
use Rattle.page_cache.proofs.ShownLaws.{empty_inside}
use Rattle.page_cache.proofs.cache.Cache.new.Goals as goal

made : {X : Type 0} (value : X → ℕ) (n : ℕ) (o : Option X) (x : X) → MatchOption o (n ≡ 0) (λ y. value y ≡ n) → o ≡ Some x → value x ≡ n
made value n o x h is = subst (λ o2. MatchOption o2 (n ≡ 0) (λ y. value y ≡ n)) is h

pub invariant_of-result : goal.invariant_of-result
invariant_of-result c =
    let long : length c.in_ok-pool.pool ≡ c.args.frames = ap length c.in_ok-pool.ensures.ok ∙ length-replicate c.args.frames (replicate 512 0) in
    empty_inside (record { pool = c.in_ok-pool.pool; order = c.in_ok-order.order; dirty = c.new-4.result; accepted = replicate 1024 0 }) (ap (λ o. o.entries) c.in_ok-order.ensures) (ap (λ o. o.cap) c.in_ok-order.ensures ∙ made (λ x. x.value) (c.args.frames + 1) c.new-2.result c.unwrap.result c.new-2.ensures c.unwrap.ensures ∙ ap (λ n. n + 1) (sym long)) c.new-4.ensures (subst (λ n. n ≤ 1024) (sym long) c.requires.few) refl
