-- What paths from page 0 reach.
use Rattle.std.proofs.Common.{◌≡◌, ℕ, zero, suc, ◌+◌, ◌<◌, ◌&&◌, true, List, [], ◌∷◌, length, Option, Some, None, refl, ap, subst, ◌∙◌}
use Rattle.std.specs.Prelude.{Contains, map, nat_lt}
use Rattle.std.specs.List.{AllByRecursion, flat_map, list_all}
use Rattle.std.proofs.lemmas.Bool.{and_parts, ltb-true}
use Rattle.fsd_bytes.specs.declared.key.Key.{Key}
use Rattle.fsd_bytes.specs.Keys.{is_key}
use Rattle.fsd_bytes.specs.Names.{is_between}
use Rattle.fsd_formats.specs.declared.page.Separator.{Separator}
use Rattle.fsd_formats.specs.NamePage.{Content, Free, Leaf, Interior, is_page, are_ascending, least_separators}
use Rattle.fsd_table.specs.declared.child.Child.{Child}
use Rattle.fsd_table.specs.Pages.{children, children_of, content_fits, page_at}
use Rattle.fsd_table.specs.Table.{BreaksTable, IsVisited, Visit, max_height, top, visits, visits_below}
use Rattle.fsd_table.proofs.BoundLaws.{all_append}
use Rattle.fsd_table.proofs.BreakLaws.{misfit_breaks}
use Rattle.fsd_table.proofs.PageLaws.{at_is_page}
use Rattle.fsd_sound.proofs.VisitLaws.{one_of}
use Rattle.fsd_sound.proofs.VisitLaws.{own_content}
use Rattle.name_btree.specs.Fault.{IsOnWay}

-- a page that is reached, and that the grammar refuses, breaks the table
visited_by : (pages : List (List ℕ)) (visit : Visit) → Contains (visits pages) visit → IsVisited pages visit.depth (record { page = visit.page; low = visit.low; high = visit.high })
visited_by pages visit has = subst (Contains (visits pages)) (ap (λ (x : Option Content). record visit { content = x }) (own_content pages visit has)) has

pub refused_breaks : (pages : List (List ℕ)) (page : ℕ) → IsOnWay pages page → page_at pages page ≡ None → BreaksTable pages page
refused_breaks pages page way none =
    let visit = way.0 in
    let gone : page_at pages visit.page ≡ None = ap (page_at pages) way.2 ∙ none in
    subst (BreaksTable pages) way.2
    (misfit_breaks pages visit.depth (record { page = visit.page; low = visit.low; high = visit.high }) (visited_by pages visit way.1) (ap (content_fits visit.low visit.high) gone))

-- ---- each is one of the pages

children_within : (n first : ℕ) (low high : Option Key) (separators : List Separator) → first < n → list_all (λ s. is_key s.key && nat_lt s.child n) separators ≡ true
    → AllByRecursion (λ (d : Child). d.page < n) (children first low high separators)
children_within n first low high [] lt all = (lt, tt)
children_within n first low high (s ∷ separators) lt all =
    let p = and_parts (is_key s.key && nat_lt s.child n) (list_all (λ x. is_key x.key && nat_lt x.child n) separators) all in
    let q = and_parts (is_key s.key) (nat_lt s.child n) p.0 in
    (lt, children_within n s.child (Some s.key) high separators (ltb-true s.child n q.1) p.1)

interior_within : (page n : ℕ) (low high : Option Key) (first : ℕ) (separators : List Separator) → is_page page n (Interior first separators) ≡ true → AllByRecursion (λ (d : Child). d.page < n) (children first low high separators)
interior_within page n low high first separators is =
    let all = list_all (λ s. is_key s.key && nat_lt s.child n) separators in
    let ascend = are_ascending (map (λ s. s.key) separators) in
    let a = and_parts (all && ascend && nat_lt first n) (is_between (least_separators page) 9 (length separators)) is in
    let b = and_parts (all && ascend) (nat_lt first n) a.0 in
    children_within n first low high separators (ltb-true first n b.1) (and_parts all ascend b.0).0

below_within : (pages : List (List ℕ)) (page : ℕ) (low high : Option Key) (x : Option Content) → page_at pages page ≡ x → AllByRecursion (λ (d : Child). d.page < length pages) (children_of low high x)
below_within pages page low high None at = tt
below_within pages page low high (Some Free) at = tt
below_within pages page low high (Some (Leaf entries)) at = tt
below_within pages page low high (Some (Interior first separators)) at = interior_within page (length pages) low high first separators (at_is_page pages page (Interior first separators) at)

each_below : (P : Visit → Type 0) (Q : Child → Type 0) (f : Child → List Visit) → ((d : Child) → Q d → AllByRecursion P (f d)) → (cs : List Child) → AllByRecursion Q cs → AllByRecursion P (flat_map f cs)
each_below P Q f each [] all = tt
each_below P Q f each (d ∷ cs) all = all_append P (f d) (flat_map f cs) (each d all.0) (each_below P Q f each cs all.1)

each_within : (pages : List (List ℕ)) (levels depth : ℕ) (c : Child) → c.page < length pages → AllByRecursion (λ v. v.page < length pages) (visits_below levels pages depth c)
each_within pages zero depth c lt = tt
each_within pages (suc levels) depth c lt = (
  lt,
  each_below (λ v. v.page < length pages) (λ d. d.page < length pages) (visits_below levels pages (depth + 1)) (each_within pages levels (depth + 1)) (children_of c.low c.high (page_at pages c.page))
      (below_within pages c.page c.low c.high (page_at pages c.page) refl),
)

pub visit_within : (pages : List (List ℕ)) → 0 < length pages → (visit : Visit) → Contains (visits pages) visit → visit.page < length pages
unfolding visits
visit_within pages some visit has = one_of (λ v. v.page < length pages) (visits pages) visit (each_within pages (suc max_height) 1 top some) has.0 has.1 has.2

pub way_within : (pages : List (List ℕ)) → 0 < length pages → (page : ℕ) → IsOnWay pages page → page < length pages
way_within pages some page way = subst (λ (p : ℕ). p < length pages) way.2 (visit_within pages some way.0 way.1)
