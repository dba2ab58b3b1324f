-- Pages that read as they did tell the same table.
use Rattle.std.proofs.Common.{◌≡◌, inl, inr, ℕ, zero, suc, ◌+◌, ◌<◌, true, nat_le, List, [], ◌∷◌, ◌++◌, length, Option, Some, None, IsSome, refl, sym, ap, subst, ◌∙◌}
use Rattle.std.specs.Prelude.{option_and_then}
use Rattle.std.specs.List.{AllByRecursion, flat_map, list_all}
use Rattle.std.proofs.lemmas.Bool.{and_parts}
use Rattle.std.proofs.lemmas.Option.{get_or_from_slice_get, slice_get-get_or, slice_get_cases}
use Rattle.fsd_formats.specs.NamePage.{Content, read_page}
use Rattle.fsd_table.specs.declared.child.Child.{Child}
use Rattle.fsd_table.specs.Pages.{children_of, content_fits, page_at}
use Rattle.fsd_table.specs.Table.{Telling, Visit, in_shape, max_height, told_by, told_in, top, visit_of, visits, visits_below}
use Rattle.fsd_table.proofs.ToldLaws.{shape_of_told}
use Rattle.fsd_sound.specs.Mounted.{image_at}

-- ---- what a page reads

pub at_read : (pages : List (List ℕ)) (page : ℕ) (x : Content) → page_at pages page ≡ Some x → (page < length pages) × (read_page page (length pages) (image_at pages page) ≡ Some x)
unfolding page_at
at_read pages page x is = elim (slice_get_cases pages page).1 [
  | inl there ↦ (
    there.1,
    ap (read_page page (length pages)) (get_or_from_slice_get pages page there.0 [] there.2) ∙ sym (ap (option_and_then (read_page page (length pages))) there.2) ∙ is,
  )
  | inr past ↦ absurd (let none : Some x ≡ None = sym is ∙ ap (option_and_then (read_page page (length pages))) past.1 in cc)
]

pub read_at : (pages : List (List ℕ)) (page : ℕ) (x : Content) → page < length pages → read_page page (length pages) (image_at pages page) ≡ Some x → page_at pages page ≡ Some x
unfolding page_at
read_at pages page x lt is = ap (option_and_then (read_page page (length pages))) (slice_get-get_or pages page [] lt) ∙ is

-- ---- the same table

abbrev pub IsRead : Visit → Type 0
IsRead v = IsSome v.content

-- each page that reads in the first list reads so in the second
abbrev pub ReadSame : (a b : List (List ℕ)) → Type 0
ReadSame a b = (page : ℕ) (x : Content) → page_at a page ≡ Some x → page_at b page ≡ Some x

read_both : (o p : Option Content) → IsSome o → ((x : Content) → o ≡ Some x → p ≡ Some x) → p ≡ o
read_both None p some same = absurd (cc some)
read_both (Some x) p some same = same x refl

all_parts : (xs ys : List Visit) → AllByRecursion IsRead (xs ++ ys) → AllByRecursion IsRead xs × AllByRecursion IsRead ys
all_parts [] ys all = (tt, all)
all_parts (x ∷ xs) ys all = let rest = all_parts xs ys all.1 in ((all.0, rest.0), rest.1)

module _ (a b : List (List ℕ)) (same : ReadSame a b) where
  same_each : (f g : Child → List Visit) → ((c : Child) → AllByRecursion IsRead (f c) → g c ≡ f c) → (cs : List Child) → AllByRecursion IsRead (flat_map f cs) → flat_map g cs ≡ flat_map f cs
  same_each f g each [] all = refl
  same_each f g each (c ∷ cs) all =
      let parts = all_parts (f c) (flat_map f cs) all in
      ap (λ (xs : List Visit). xs ++ flat_map g cs) (each c parts.0) ∙ ap (λ (xs : List Visit). f c ++ xs) (same_each f g each cs parts.1)

  same_below : (levels depth : ℕ) (c : Child) → AllByRecursion IsRead (visits_below levels a depth c) → visits_below levels b depth c ≡ visits_below levels a depth c
  same_below zero depth c all = refl
  same_below (suc levels) depth c all =
      let here : page_at b c.page ≡ page_at a c.page = read_both (page_at a c.page) (page_at b c.page) all.0 (λ x is. same c.page x is) in
      ap (λ (o : Option Content). record { page = c.page; depth = depth; low = c.low; high = c.high; content = o } ∷ flat_map (visits_below levels b (depth + 1)) (children_of c.low c.high o)) here
      ∙ ap (λ (xs : List Visit). visit_of a depth c ∷ xs)
      (same_each (visits_below levels a (depth + 1)) (visits_below levels b (depth + 1)) (λ d below. same_below levels (depth + 1) d below) (children_of c.low c.high (page_at a c.page)) all.1)

  same_visits : AllByRecursion IsRead (visits a) → visits b ≡ visits a
  unfolding visits
  same_visits all = same_below (suc max_height) 1 top all

  fits_read : (v : Visit) (o : Option Content) → v.content ≡ o → content_fits v.low v.high o ≡ true → IsRead v
  fits_read v None is fits = absurd (cc fits)
  fits_read v (Some x) is fits = subst (λ (o : Option Content). IsSome o) (sym is) refl

  all_fit : (all vs : List Visit) → list_all (in_shape all) vs ≡ true → AllByRecursion IsRead vs
  all_fit all [] shape = tt
  all_fit all (v ∷ vs) shape =
      let parts = and_parts (in_shape all v) (list_all (in_shape all) vs) shape in
      let outer = and_parts _ _ parts.0 in
      let inner = and_parts _ _ outer.0 in
      let fits = and_parts (nat_le v.depth max_height) (content_fits v.low v.high v.content) inner.0 in
      (fits_read v v.content refl fits.1, all_fit all vs parts.1)

  -- where pages tell a table the others show the same one
  pub visits_same : (t : Telling) → told_in a ≡ Some t → visits b ≡ visits a
  visits_same t told = same_visits (all_fit (visits a) (visits a) (shape_of_told a t told))

  pub told_same : (t : Telling) → told_in a ≡ Some t → told_in b ≡ Some t
  unfolding told_in
  told_same t told = ap told_by (visits_same t told) ∙ told
