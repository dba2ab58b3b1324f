-- The last entry that passes.
use Rattle.std.proofs.Common.{◌≡◌, ℕ, ◌+◌, ◌-◌, ◌<◌, Bool, true, false, cond, List, [], ◌∷◌, ◌++◌, take, Option, Some, None, refl, sym, ap, ◌∙◌, arith}
use Rattle.std.specs.Prelude.{slice_get}
use Rattle.std.specs.Option.{option_or}
use Rattle.std.specs.List.{AllByRecursion}
use Rattle.std.proofs.lemmas.Option.{slice_get_within, get_or_from_slice_get}
use Rattle.std.proofs.lemmas.List.{take_more}
use Rattle.fsd_formats.specs.declared.entry.Entry.{Entry}
use Rattle.name_page.specs.Lookups.{last_that}

or_none : (o : Option Entry) → o ≡ option_or o None
or_none None = refl
or_none (Some e) = refl

or_or : (a b c : Option Entry) → option_or (option_or a b) c ≡ option_or a (option_or b c)
or_or None b c = refl
or_or (Some e) b c = refl

pub last_append : (test : Entry → Bool) (xs ys : List Entry) → last_that test (xs ++ ys) ≡ option_or (last_that test ys) (last_that test xs)
last_append test [] ys = or_none (last_that test ys)
last_append test (x ∷ xs) ys =
    ap (λ (o : Option Entry). option_or o (cond (test x) (Some x) None)) (last_append test xs ys)
    ∙ or_or (last_that test ys) (last_that test xs) (cond (test x) (Some x) None)

if_or : (b : Bool) (e : Entry) (o : Option Entry) → option_or (option_or None (cond b (Some e) None)) o ≡ cond b (Some e) o
if_or true e o = refl
if_or false e o = refl

last_push : (test : Entry → Bool) (xs : List Entry) (e : Entry) → last_that test (xs ++ e ∷ []) ≡ cond (test e) (Some e) (last_that test xs)
last_push test xs e = last_append test xs (e ∷ []) ∙ if_or (test e) e (last_that test xs)

pub take_back : (xs : List Entry) (i : ℕ) (e : Entry) → 0 < i → slice_get xs (i - 1) ≡ Some e → take i xs ≡ take (i - 1) xs ++ e ∷ []
take_back xs i e some at =
    let one : i ≡ i - 1 + 1 = one_more i some in
    ap (λ (n : ℕ). take n xs) one ∙ take_more xs (i - 1) e (slice_get_within xs (i - 1) e at) ∙ ap (λ (x : Entry). take (i - 1) xs ++ x ∷ []) (get_or_from_slice_get xs (i - 1) e e at)
  where
    one_more : (i : ℕ) → 0 < i → i ≡ i - 1 + 1
    one_more i h = omega arith

-- one entry less from the end
pub last_more : (test : Entry → Bool) (xs : List Entry) (i : ℕ) (e : Entry) (b : Bool) → 0 < i → slice_get xs (i - 1) ≡ Some e → b ≡ test e → last_that test (take i xs) ≡ cond b (Some e) (last_that test (take (i - 1) xs))
last_more test xs i e b some at is =
    ap (last_that test) (take_back xs i e some at) ∙ last_push test (take (i - 1) xs) e ∙ ap (λ (b : Bool). cond b (Some e) (last_that test (take (i - 1) xs))) (sym is)

pub last_fail : (test : Entry → Bool) (xs : List Entry) → AllByRecursion (λ e. test e ≡ false) xs → last_that test xs ≡ None
last_fail test [] fail = refl
last_fail test (e ∷ xs) fail =
    ap (λ (o : Option Entry). option_or o (cond (test e) (Some e) None)) (last_fail test xs fail.1) ∙ ap (λ (b : Bool). cond b (Some e) None) fail.0

no_last : (test : Entry → Bool) (e : Entry) (b : Bool) (o : Option Entry) → option_or o (cond b (Some e) None) ≡ None → (b ≡ false) × (o ≡ None)
no_last test e true None h = absurd cc
no_last test e false None h = (refl, refl)
no_last test e b (Some x) h = absurd cc

pub last_none : (test : Entry → Bool) (xs : List Entry) → last_that test xs ≡ None → AllByRecursion (λ e. test e ≡ false) xs
last_none test [] h = tt
last_none test (e ∷ xs) h = let n = no_last test e (test e) (last_that test xs) h in (n.0, last_none test xs n.1)

-- where the last entry that passes stands
pub record Last (test : Entry → Bool) (xs : List Entry) (e : Entry) : Type 0 where
  pub left : List Entry
  pub right : List Entry
  pub parts : xs ≡ left ++ e ∷ right
  pub passes : test e ≡ true
  pub fail : AllByRecursion (λ x. test x ≡ false) right

pub last_at : (test : Entry → Bool) (xs : List Entry) (e : Entry) → last_that test xs ≡ Some e → Last test xs e
last_at test [] e h = absurd cc
last_at test (x ∷ xs) e h = by (last_that test xs) refl (λ again. last_at test xs e again) h
  where
    here : (b : Bool) → test x ≡ b → last_that test xs ≡ None → option_or None (cond b (Some x) None) ≡ Some e → Last test (x ∷ xs) e
    here false is none h = absurd cc
    here true is none h =
        let same : x ≡ e = cc in
        record { left = []; right = xs; parts = ap (λ (y : Entry). y ∷ xs) same; passes = ap test (sym same) ∙ is; fail = last_none test xs none }

    by : (o : Option Entry) → last_that test xs ≡ o → (last_that test xs ≡ Some e → Last test xs e) → option_or o (cond (test x) (Some x) None) ≡ Some e → Last test (x ∷ xs) e
    by None is again h = here (test x) refl is h
    by (Some y) is again h =
        let l = again (is ∙ h) in
        record { left = x ∷ l.left; right = l.right; parts = ap (λ (ys : List Entry). x ∷ ys) l.parts; passes = l.passes; fail = l.fail }
