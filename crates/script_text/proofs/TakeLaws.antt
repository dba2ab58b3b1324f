-- Bytes that are taken into the room behind others.
use Rattle.std.proofs.Common.{◌≡◌, Bool, true, false, cond, ℕ, zero, suc, ◌+◌, ◌≤◌, List, [], ◌∷◌, ◌++◌, length, take, refl, ap, ◌∙◌, arith, length-append}
use Rattle.std.proofs.Math.Seq.{take-append-add}
use Rattle.std.proofs.lemmas.List.{take-append-le, take_all}

-- what stands in front of the room
pub front_stays : (ok : Bool) (old resized zeros : List ℕ) (n : ℕ) → ok ≡ true → length old ≤ n → resized ≡ cond ok (take n old ++ zeros) old → take (length old) resized ≡ old
front_stays false old resized zeros n good fits is = absurd cc
front_stays true old resized zeros n good fits is =
    ap (take (length old)) is ∙ ap (λ (bs : List ℕ). take (length old) (bs ++ zeros)) (take_all n old fits)
    ∙ take-append-le (length old) old zeros (omega arith) ∙ take_all (length old) old (omega arith)

take_of_take : (n m : ℕ) (xs : List ℕ) → n ≤ m → take n (take m xs) ≡ take n xs
take_of_take zero m xs h = refl
take_of_take (suc n) zero xs h = absurd (omega arith)
take_of_take (suc n) (suc m) [] h = refl
take_of_take (suc n) (suc m) (x ∷ xs) h = let e : take n (take m xs) ≡ take n xs = take_of_take n m xs (omega arith) in rw e refl

pub stands_behind : (old front buf between after items : List ℕ) (held len count : ℕ) → front ≡ old → held ≡ length old → count ≤ length buf → held + count ≤ len
    → items ≡ take (held + count) (take len (front ++ (buf ++ between) ++ after)) → items ≡ old ++ take count buf
stands_behind old front buf between after items held len count front_is held_is some within is =
    is ∙ take_of_take (held + count) len (front ++ (buf ++ between) ++ after) within
    ∙ ap (λ (n : ℕ). take (n + count) (front ++ (buf ++ between) ++ after)) held_is ∙ ap (λ (f : List ℕ). take (length old + count) (f ++ (buf ++ between) ++ after)) front_is
    ∙ take-append-le (length old + count) (old ++ (buf ++ between)) after (omega (arith, length-append old (buf ++ between), length-append buf between))
    ∙ take-append-add old (buf ++ between) count ∙ ap (λ (f : List ℕ). old ++ f) (take-append-le count buf between some)

pub grown : (ok : Bool) (len more less : ℕ) → ok ≡ true → len ≡ cond ok more less → len ≡ more
grown true len more less good is = is
grown false len more less good is = absurd cc
