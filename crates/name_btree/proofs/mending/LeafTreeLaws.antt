-- What becomes of a page above two leaves that are mended.
use Rattle.std.proofs.Common.{◌≡◌, ℕ, zero, suc, ◌+◌, ◌≤◌, Bool, true, false, cond, ◌||◌, List, [], ◌∷◌, ◌++◌, Option, Some, refl, sym, ap, subst, ◌∙◌, arith}
use Rattle.std.proofs.Math.Bool.{or-true, or-false}
use Rattle.std.specs.Prelude.{◌==◌}
use Rattle.std.specs.List.{flat_map}
use Rattle.std.proofs.lemmas.Bool.{ne_eqb, eqb-true}
use Rattle.std.proofs.lemmas.List.Folds.{list_any-append}
use Rattle.std.proofs.lemmas.List.{append-nil}
use Rattle.run_table.specs.Space.{contains}
use Rattle.fsd_bytes.specs.declared.key.Key.{Key}
use Rattle.fsd_formats.specs.declared.entry.Entry.{Entry}
use Rattle.fsd_formats.specs.declared.page.Separator.{Separator}
use Rattle.fsd_formats.specs.NamePage.{Content, are_ascending}
use Rattle.fsd_formats.specs.NamePage as grammar
use Rattle.fsd_table.specs.declared.child.Child.{Child}
use Rattle.fsd_table.specs.Pages.{page_at, children_of, entry_keys, entries_of}
use Rattle.fsd_table.specs.Tree.{pages_below, IsLeaf}
use Rattle.fsd_forest.specs.Forest.{heads, times_in, forest_pages, Exchange, Stay, Becomes}
use Rattle.fsd_forest.specs.Parts.{left_part, right_part}
use Rattle.fsd_forest.proofs.CountLaws.{count_cons, count_append, count_nothing, counts_there, differ_counts, out_counts, counts_out, one_if, one_where}
use Rattle.fsd_forest.proofs.ForestLaws.{leaves_become, count_three}
use Rattle.fsd_forest.proofs.PartLaws.{leaves_part}
use Rattle.name_page.specs.Edits.{without}
use Rattle.name_btree.specs.declared.trimming.Pair.{Pair}
use Rattle.name_btree.specs.Draft.{with_freed}
use Rattle.name_page.specs.Pages.{is_one_of}
use Rattle.name_btree.specs.Remove.{IsAround}
use Rattle.name_btree.specs.Trim.{IsPair, pair_fits}
use Rattle.name_btree.proofs.mending.PairLaws.{left_child, right_child}
use Rattle.name_btree.proofs.mending.PutTreeLaws.{pair_child}

-- ---- two leaves

pair_heads : (above : Child) (first : ℕ) (xs : List Separator) (pair : Pair) (is : IsPair above first xs pair) → heads (left_child above first xs pair is.between ∷ right_child above xs pair is.between ∷ []) ≡ pair.left ∷ pair.right ∷ []
pair_heads above first xs pair is = ap (λ (p : ℕ). p ∷ is.between.child ∷ []) (sym is.left) ∙ ap (λ (p : ℕ). pair.left ∷ p ∷ []) (sym is.right)

pub joined_heads : (above : Child) (first : ℕ) (xs : List Separator) (pair : Pair) (is : IsPair above first xs pair)
    → Exchange (heads (left_child above first xs pair is.between ∷ right_child above xs pair is.between ∷ [])) (heads (pair_child above first xs pair ∷ [])) [] (pair.right ∷ [])
joined_heads above first xs pair is p =
    omega (arith, ap (times_in p) (pair_heads above first xs pair is), count_cons p pair.left (pair.right ∷ []), count_cons p pair.left [], count_nothing p)

pub shared_heads : (above : Child) (first : ℕ) (xs : List Separator) (pair : Pair) (is : IsPair above first xs pair) (k : Key) → Exchange (heads (left_child above first xs pair is.between ∷ right_child above xs pair is.between ∷ []))
    (heads (left_part pair.left (pair_child above first xs pair) k ∷ right_part pair.right (pair_child above first xs pair) k ∷ [])) [] []
shared_heads above first xs pair is k p = omega (arith, ap (times_in p) (pair_heads above first xs pair is))

pub leaves_joined : (key : Key) (pages after : List (List ℕ)) (above : Child) (first : ℕ) (xs : List Separator) (pair : Pair) (is : IsPair above first xs pair) (list : List Entry) → page_at after pair.left ≡ Some (grammar.Leaf list)
    → pair_fits above first xs pair (entry_keys list) ≡ true
    → list ≡ without key (flat_map (λ c. entries_of (page_at pages c.page)) (left_child above first xs pair is.between ∷ right_child above xs pair is.between ∷ []))
    → Becomes (without key) pages after [] (pair.right ∷ []) zero (left_child above first xs pair is.between ∷ right_child above xs pair is.between ∷ []) (pair_child above first xs pair ∷ [])
leaves_joined key pages after above first xs pair is list now fit edited =
    leaves_become (without key) pages after [] (pair.right ∷ []) (left_child above first xs pair is.between ∷ right_child above xs pair is.between ∷ []) (pair_child above first xs pair ∷ [])
    (subst (IsLeaf (pair_child above first xs pair)) (sym now) fit, tt) (joined_heads above first xs pair is)
    (append-nil (entries_of (page_at after pair.left)) ∙ ap entries_of now ∙ edited)

pub leaves_shared : (key : Key) (pages after : List (List ℕ)) (above : Child) (first : ℕ) (xs : List Separator) (pair : Pair) (is : IsPair above first xs pair) (es : List Entry) (y : Entry) (ys : List Entry)
    → page_at after pair.left ≡ Some (grammar.Leaf es) → page_at after pair.right ≡ Some (grammar.Leaf (y ∷ ys))
    → are_ascending (entry_keys (es ++ y ∷ ys)) ≡ true → pair_fits above first xs pair (entry_keys (es ++ y ∷ ys)) ≡ true
    → es ++ y ∷ ys ≡ without key (flat_map (λ c. entries_of (page_at pages c.page)) (left_child above first xs pair is.between ∷ right_child above xs pair is.between ∷ []))
    → Becomes (without key) pages after [] [] zero (left_child above first xs pair is.between ∷ right_child above xs pair is.between ∷ [])
    (left_part pair.left (pair_child above first xs pair) y.key ∷ right_part pair.right (pair_child above first xs pair) y.key ∷ [])
leaves_shared key pages after above first xs pair is es y ys now next asc fit edited =
    let c : Child = pair_child above first xs pair in
    let parts = leaves_part c pair.left pair.right es ys y asc fit in
    leaves_become (without key) pages after [] [] (left_child above first xs pair is.between ∷ right_child above xs pair is.between ∷ []) (left_part pair.left c y.key ∷ right_part pair.right c y.key ∷ [])
    (subst (IsLeaf (left_part pair.left c y.key)) (sym now) parts.0, (subst (IsLeaf (right_part pair.right c y.key)) (sym next) parts.1.0, tt)) (shared_heads above first xs pair is y.key)
    (ap (λ (o : Option Content). entries_of o ++ (entries_of (page_at after pair.right) ++ [])) now ∙ ap (λ (o : Option Content). es ++ (entries_of o ++ [])) next ∙ ap (λ (zs : List Entry). es ++ zs) (append-nil (y ∷ ys)) ∙ edited)

-- ---- pages apart

pub head_counts : (p level : ℕ) (pages : List (List ℕ)) (c : Child) → one_where (c.page == p) ≤ times_in p (pages_below level pages c)
head_counts p zero pages c = omega (arith, count_cons p c.page [])
head_counts p (suc level) pages c = omega (arith, count_cons p c.page (flat_map (pages_below level pages) (children_of c.low c.high (page_at pages c.page))))

pub one_same : (a b : ℕ) → a ≡ b → one_where (a == b) ≡ 1
one_same a b e = one_if (a == b) (grind arith)

pub record AreApart (above : ℕ) (pair : Pair) : Type 0 where
  pub left_above : pair.left ≡ above → ⊥
  pub right_above : pair.right ≡ above → ⊥
  pub left_right : pair.left ≡ pair.right → ⊥
  pub right_inner : pair.right ≡ 0 → ⊥

pair_count : (p level : ℕ) (pages : List (List ℕ)) (above : Child) (first : ℕ) (xs : List Separator) (pair : Pair) (is : IsPair above first xs pair)
    → one_where (pair.left == p) + one_where (pair.right == p) ≤ times_in p (forest_pages level pages (left_child above first xs pair is.between ∷ right_child above xs pair is.between ∷ []))
pair_count p level pages above first xs pair is =
    let f : Child → List ℕ = pages_below level pages in
    let l : Child = left_child above first xs pair is.between in
    let r : Child = right_child above xs pair is.between in
    omega (
      arith,
      head_counts p level pages l,
      head_counts p level pages r,
      ap (λ (q : ℕ). one_where (q == p)) is.left,
      ap (λ (q : ℕ). one_where (q == p)) is.right,
      count_append p (f l) (f r ++ []),
      count_append p (f r) [],
      count_nothing p,
    )

-- what stands below the pair is below the page above it
pub below_counts : (p level : ℕ) (pages : List (List ℕ)) (above : Child) (left old right : List Child) → children_of above.low above.high (page_at pages above.page) ≡ left ++ (old ++ right)
    → one_where (above.page == p) + times_in p (forest_pages level pages old) ≤ times_in p (pages_below (suc level) pages above)
below_counts p level pages above left old right are =
    let f : Child → List ℕ = pages_below level pages in
    omega (
      arith,
      count_cons p above.page (flat_map f (children_of above.low above.high (page_at pages above.page))),
      ap (λ (cs : List Child). times_in p (flat_map f cs)) are,
      count_three p f left old right,
    )

pub are_apart : (key : Key) (pages : List (List ℕ)) (level : ℕ) (above : Child) (first : ℕ) (xs : List Separator) (pair : Pair) (is : IsPair above first xs pair) (left right : List Child) → IsAround key pages (suc level) above
    → children_of above.low above.high (page_at pages above.page) ≡ left ++ ((left_child above first xs pair is.between ∷ right_child above xs pair is.between ∷ []) ++ right) → AreApart above.page pair
are_apart key pages level above first xs pair is left right around are =
    let old : List Child = left_child above first xs pair is.between ∷ right_child above xs pair is.between ∷ [] in
    let most = differ_counts (pages_below (suc level) pages above) around.apart in
    let all = λ (p : ℕ). below_counts p level pages above left old right are in
    let both = λ (p : ℕ). pair_count p level pages above first xs pair is in
    let no_left : pair.left ≡ above.page → ⊥ = λ e. absurd (omega (arith, most above.page, all above.page, both above.page, one_same pair.left above.page e, one_same above.page above.page refl)) in
    let no_right : pair.right ≡ above.page → ⊥ = λ e. absurd (omega (arith, most above.page, all above.page, both above.page, one_same pair.right above.page e, one_same above.page above.page refl)) in
    record {
      left_above = no_left;
      right_above = no_right;
      left_right = λ e. absurd (omega (arith, most pair.right, all pair.right, both pair.right, one_same pair.left pair.right e, one_same pair.right pair.right refl));
      right_inner = λ e. no_right (e ∙ sym (around.inner (counts_there 0 (pages_below (suc level) pages above) (omega (arith, all 0, both 0, one_same pair.right 0 e)))));
    }

-- ---- pages that stay

-- where only pages of the pair and the one above are others, and those below the child
pub pair_stays : (pages between after : List (List ℕ)) (level : ℕ) (above : Child) (first : ℕ) (xs : List Separator) (pair : Pair) (is : IsPair above first xs pair) (ps : List ℕ)
    → ((p : ℕ) → times_in p ps ≤ times_in p (forest_pages level pages (left_child above first xs pair is.between ∷ right_child above xs pair is.between ∷ []))) → Stay pages between ps
    → ((q : ℕ) → (q ≡ pair.left → ⊥) → (q ≡ pair.right → ⊥) → (q ≡ above.page → ⊥) → page_at after q ≡ page_at between q)
    → Stay pages after (above.page ∷ forest_pages level pages (left_child above first xs pair is.between ∷ right_child above xs pair is.between ∷ []))
pair_stays pages between after level above first xs pair is ps few stay others q out =
    let old : List Child = left_child above first xs pair is.between ∷ right_child above xs pair is.between ∷ [] in
    let none = out_counts q (above.page ∷ forest_pages level pages old) out in
    let split = count_cons q above.page (forest_pages level pages old) in
    let both = pair_count q level pages above first xs pair is in
    others q (λ e. absurd (omega (arith, none, split, both, one_same pair.left q (sym e)))) (λ e. absurd (omega (arith, none, split, both, one_same pair.right q (sym e))))
    (λ e. absurd (omega (arith, none, split, one_same above.page q (sym e))))
    ∙ stay q (counts_out q ps (omega (arith, few q, none, split)))

pub stays_above : (pages after : List (List ℕ)) (level : ℕ) (above : Child) (left old right : List Child) → children_of above.low above.high (page_at pages above.page) ≡ left ++ (old ++ right)
    → Stay pages after (above.page ∷ forest_pages level pages old) → Stay pages after (pages_below (suc level) pages above)
stays_above pages after level above left old right are stay q out =
    stay q (counts_out q (above.page ∷ forest_pages level pages old) (omega (arith, out_counts q (pages_below (suc level) pages above) out, below_counts q level pages above left old right are, count_cons q above.page (forest_pages level pages old))))

-- ---- pages that go

pub freed_has : (page : ℕ) (old0 old went : List ℕ) → (page ≡ 0 → ⊥) → ((q : ℕ) → contains old q ≡ (contains old0 q || contains went q)) → (q : ℕ) → contains (with_freed page old) q ≡ (contains old0 q || contains (page ∷ went) q)
freed_has page old0 old went some is q =
    ap (λ (b : Bool). contains (cond b old (cond (is_one_of old page) old (old ++ page ∷ []))) q) (ne_eqb page 0 some) ∙ by (is_one_of old page) refl (page == q) refl
  where
    there : contains old page ≡ true → (page == q) ≡ true → contains old q ≡ true
    there h e = subst (λ (n : ℕ). contains old n ≡ true) (eqb-true page q e) h

    by : (b : Bool) → is_one_of old page ≡ b → (c : Bool) → (page == q) ≡ c → contains (cond b old (old ++ page ∷ [])) q ≡ (contains old0 q || ((page == q) || contains went q))
    by true h true e = there h e ∙ sym (or-true (contains old0 q)) ∙ ap (λ (c : Bool). contains old0 q || (c || contains went q)) (sym e)
    by true h false e = is q ∙ ap (λ (c : Bool). contains old0 q || (c || contains went q)) (sym e)
    by false h true e =
        list_any-append (λ t. t == q) old (page ∷ []) ∙ ap (λ (c : Bool). contains old q || (c || false)) e ∙ or-true (contains old q) ∙ sym (or-true (contains old0 q))
        ∙ ap (λ (c : Bool). contains old0 q || (c || contains went q)) (sym e)
    by false h false e =
        list_any-append (λ t. t == q) old (page ∷ []) ∙ ap (λ (c : Bool). contains old q || (c || false)) e ∙ or-false (contains old q) ∙ is q
        ∙ ap (λ (c : Bool). contains old0 q || (c || contains went q)) (sym e)
