-- Lists that are gone through from the front.
use Rattle.std.proofs.Common.{◌≡◌, ℕ, suc, ◌+◌, Bool, cond, List, ◌∷◌, drop, Some, sym, ap, ◌∙◌, add-one, drop-cons}
use Rattle.std.specs.Prelude.{slice_get, find}
use Rattle.fsd_formats.specs.declared.entry.Entry.{Entry}
use Rattle.std.proofs.lemmas.Option.{slice_get_within, get_or_from_slice_get}

pub drop_at : {X : Type 0} (xs : List X) (i : ℕ) (x : X) → slice_get xs i ≡ Some x → drop i xs ≡ x ∷ drop (i + 1) xs
drop_at xs i x e =
    drop-cons xs i x (slice_get_within xs i x e)
    ∙ ap (λ y. y ∷ drop (suc i) xs) (get_or_from_slice_get xs i x x e)
    ∙ ap (λ (n : ℕ). x ∷ drop n xs) (sym (add-one i))

-- ---- what is left to be tested

pub find_more : (test : Entry → Bool) (entries : List Entry) (i : ℕ) (e : Entry) (b : Bool) → slice_get entries i ≡ Some e → b ≡ test e
    → find test (drop i entries) ≡ cond b (Some e) (find test (drop (i + 1) entries))
find_more test entries i e b at is =
    ap (find test) (drop_at entries i e at) ∙ ap (λ (b : Bool). cond b (Some e) (find test (drop (i + 1) entries))) (sym is)
