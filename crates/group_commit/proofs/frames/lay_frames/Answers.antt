use Rattle.std.proofs.Common.{◌≡◌, ◌*◌, ◌+◌, ◌<◌, ◌≤◌, ◌⊎◌, inl, inr, ℕ, List, [], take, length, get_or, Option, sym, ap, subst, ◌∙◌, arith}
use Rattle.std.specs.Option.{option_map_or}
use Rattle.std.proofs.lemmas.Bool.{cases_lt}
use Rattle.fsd_bytes.specs.Bytes.{with_bytes}
use Rattle.group_commit.specs.Cached.{frame_bytes}
use Rattle.group_commit.proofs.StampLaws.{laid_step_of}
use Rattle.group_commit.proofs.frames.lay_frames.Goals as goal

pub loop-k-preserved : goal.loop-k-preserved
loop-k-preserved c =
    let k = c.loop-k.k in
    let pages = c.args.pages.now in
    let f : ℕ → List ℕ = frame_bytes c.args.cache.now in
    let page : ℕ = get_or c.args.pages.now c.loop-k.k 0 in
    let is : frame_bytes c.args.cache.now page ≡ c.bytes.result.now = ap (λ (o : Option (List ℕ)). option_map_or (λ bytes. bytes) o []) c.bytes.ensures in
    let long : length (frame_bytes c.args.cache.now page) ≡ 512 = ap length is ∙ c.put_image.ensures.whole in
    let step = laid_step_of f pages k c.loop-k.room c.loop-k-test.true long (omega (arith, c.requires.fits, c.loop-k.auto.room)) c.loop-k.invariant.0 in (
      ap (take (512 * (k + 1))) (c.put_image.ensures.laid ∙ ap (λ (bytes : List ℕ). with_bytes (512 * k) bytes c.loop-k.room) (sym is)) ∙ step,
      λ j lt. by_last c.args.pages.now k j long lt c.loop-k.invariant.1 (cases_lt j k),
    )
  where
    by_last : (pages : List ℕ) (k j : ℕ) → length (frame_bytes c.args.cache.now (get_or pages k 0)) ≡ 512 → j < k + 1 → ((i : ℕ) → i < k → length (frame_bytes c.args.cache.now (get_or pages i 0)) ≡ 512) → (j < k) ⊎ (k ≤ j) → length (frame_bytes c.args.cache.now (get_or pages j 0)) ≡ 512
    by_last pages k j long lt before (inl less) = before j less
    by_last pages k j long lt before (inr more) = subst (λ (i : ℕ). length (frame_bytes c.args.cache.now (get_or pages i 0)) ≡ 512) (let e : k ≡ j = omega (arith, lt, more) in e) long
