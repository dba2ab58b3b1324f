-- What a visit of a page has is what the page has.
use Rattle.std.proofs.Common.{◌≡◌, ℕ, zero, suc, ◌+◌, ◌<◌, List, [], ◌∷◌, length, refl, subst, arith}
use Rattle.std.specs.Prelude.{Contains, slice_index_or}
use Rattle.std.specs.List.{AllByRecursion}
use Rattle.fsd_table.specs.declared.child.Child.{Child}
use Rattle.fsd_table.specs.Pages.{children_of, page_at}
use Rattle.fsd_table.specs.Table.{Visit, max_height, top, visits, visits_below}
use Rattle.fsd_table.proofs.BoundLaws.{all_flat}

each_own : (pages : List (List ℕ)) (levels depth : ℕ) (c : Child) → AllByRecursion (λ v. v.content ≡ page_at pages v.page) (visits_below levels pages depth c)
each_own pages zero depth c = tt
each_own pages (suc levels) depth c = (refl, all_flat (λ v. v.content ≡ page_at pages v.page) (visits_below levels pages (depth + 1)) (each_own pages levels (depth + 1)) (children_of c.low c.high (page_at pages c.page)))

pub one_of : (P : Visit → Type 0) (vs : List Visit) (v : Visit) → AllByRecursion P vs → (i : ℕ) → i < length vs → slice_index_or vs i v ≡ v → P v
one_of P [] v all i lt is = absurd (omega arith)
one_of P (w ∷ vs) v all zero lt is = subst P is all.0
one_of P (w ∷ vs) v all (suc i) lt is = one_of P vs v all.1 i (omega arith) is

pub own_content : (pages : List (List ℕ)) (visit : Visit) → Contains (visits pages) visit → visit.content ≡ page_at pages visit.page
unfolding visits
own_content pages visit has = one_of (λ v. v.content ≡ page_at pages v.page) (visits pages) visit (each_own pages (suc max_height) 1 top) has.0 has.1 has.2
