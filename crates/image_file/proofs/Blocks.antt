-- Blocks by their numbers: one that is dropped is out, and others stay out.
use Rattle.std.proofs.Common.{◌≡◌, ℕ, ◌*◌, Bool, true, false, cond, List, ◌++◌, length, take, drop, Option, None, nat_eq, refl, sym, ap, ◌∙◌, arith, eq-eqb, eqb-true}
use Rattle.std.specs.List.{IsDistinct}
use Rattle.std.specs.Cmp.{nat_eq_equiv}
use Rattle.std.specs.Map.{keys_of, lookup, remove_entry}
use Rattle.std.proofs.lemmas.Map.{lookup-remove_entry}
use Rattle.std.proofs.Math.Seq.{drop-append_seam}
use Rattle.std.proofs.lemmas.List.{take_all}
use Rattle.lru.specs.LruCache.{promoted}
use Rattle.lru.proofs.CallerLemmas.{Contains-promoted}
use Rattle.lru.proofs.Matching.{none_found, found_none}

module _ {X : Type 0} where
  -- a look-up behind a drop
  lookup_dropped : (block other : ℕ) (es : List (ℕ × X)) → IsDistinct nat_eq (keys_of es) → lookup (nat_eq other) (remove_entry (nat_eq block) es) ≡ cond (nat_eq block other) None (lookup (nat_eq other) es)
  lookup_dropped block other es d = lookup-remove_entry nat_eq_equiv (nat_eq block) (λ x y h. ap (λ z. nat_eq z y) (eqb-true block x h)) other es d

  pub out_itself : (block : ℕ) (es : List (ℕ × X)) → IsDistinct nat_eq (keys_of es) → lookup (nat_eq block) (remove_entry (nat_eq block) es) ≡ None
  out_itself block es d = lookup_dropped block block es d ∙ ap (λ b. cond b None (lookup (nat_eq block) es)) (eq-eqb block block refl)

  either_same : (b : Bool) (found : Option X) → cond b found found ≡ found
  either_same true found = refl
  either_same false found = refl

  pub out_still : (block other : ℕ) (es : List (ℕ × X)) → IsDistinct nat_eq (keys_of es) → lookup (nat_eq other) es ≡ None → lookup (nat_eq other) (remove_entry (nat_eq block) es) ≡ None
  out_still block other es d h = lookup_dropped block other es d ∙ ap (cond (nat_eq block other) None) h ∙ either_same (nat_eq block other) None

-- where the block that was used last comes to the front, none comes in
pub out_promoted : {X : Type 0} (block other : ℕ) (es : List (ℕ × X)) → lookup (nat_eq other) es ≡ None → lookup (nat_eq other) (promoted (nat_eq block) es) ≡ None
out_promoted block other es h = found_none (nat_eq other) (promoted (nat_eq block) es) (λ e c. none_found (nat_eq other) es h e (Contains-promoted (nat_eq block) es e c))

-- the last slot, in its place
pub slot_behind : (count place : ℕ) (old slot : List ℕ) → length old ≡ 520 * count → length slot ≡ 520 → place ≡ count → take 520 (drop (520 * place) (old ++ slot)) ≡ slot
slot_behind count place old slot e long is =
    ap (λ n. take 520 (drop n (old ++ slot))) (ap (λ p. 520 * p) is ∙ sym e)
    ∙ ap (take 520) (drop-append_seam old slot)
    ∙ take_all 520 slot (omega (arith, long))
