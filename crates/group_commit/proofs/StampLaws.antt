-- How the images of pages lie one after another.
use Rattle.std.proofs.Common.{◌≡◌, ℕ, ◌+◌, ◌*◌, ◌<◌, ◌≤◌, List, [], ◌∷◌, ◌++◌, length, take, drop, get_or, sym, ap, ◌∙◌, append_assoc, arith}
use Rattle.std.proofs.lemmas.List.{take_at, take_more, length-append, length-take-le, append-nil}
use Rattle.std.specs.List.{flat_map}
use Rattle.std.proofs.lemmas.Grind.{flat_map-append}
use Rattle.fsd_bytes.specs.Bytes.{with_bytes}

-- an image more
take_image : (place : ℕ) (image room : List ℕ) → length image ≡ 512 → place + 512 ≤ length room → take (place + 512) (with_bytes place image room) ≡ take place room ++ image
take_image place image room long fits =
    let front : length (take place room) ≡ place = length-take-le place room (omega arith) in
    ap (take (place + 512)) (sym (append_assoc (take place room) image (drop (place + length image) room)))
    ∙ take_at (take place room ++ image) (drop (place + length image) room) (place + 512) (omega (arith, length-append (take place room) image))

-- the bytes of some pages, one after another
module _ (f : ℕ → List ℕ) where
  laid_more : (dirty : List ℕ) (k : ℕ) → k < length dirty → flat_map f (take (k + 1) dirty) ≡ flat_map f (take k dirty) ++ f (get_or dirty k 0)
  laid_more dirty k lt =
      ap (flat_map f) (take_more dirty k 0 lt)
      ∙ flat_map-append f (take k dirty) (get_or dirty k 0 ∷ [])
      ∙ ap (λ (x : List ℕ). flat_map f (take k dirty) ++ x) (append-nil (f (get_or dirty k 0)))

  pub laid_step_of : (dirty : List ℕ) (k : ℕ) (room : List ℕ) → k < length dirty → length (f (get_or dirty k 0)) ≡ 512 → 512 * length dirty ≤ length room → take (512 * k) room ≡ flat_map f (take k dirty)
      → take (512 * (k + 1)) (with_bytes (512 * k) (f (get_or dirty k 0)) room) ≡ flat_map f (take (k + 1) dirty)
  laid_step_of dirty k room lt long fits so_far =
      let at : 512 * (k + 1) ≡ 512 * k + 512 = omega arith in
      ap (λ (n : ℕ). take n (with_bytes (512 * k) (f (get_or dirty k 0)) room)) at
      ∙ take_image (512 * k) (f (get_or dirty k 0)) room long (omega arith)
      ∙ ap (λ (x : List ℕ). x ++ f (get_or dirty k 0)) so_far
      ∙ sym (laid_more dirty k lt)
