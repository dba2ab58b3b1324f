-- An entry more below a page, where one of its children has grown.
use Rattle.std.proofs.Common.{◌≡◌, ℕ, zero, suc, ◌+◌, ◌≤◌, Bool, true, false, List, [], ◌∷◌, ◌++◌, length, take, drop, cond, refl, sym, ap, subst, ◌∙◌, arith, Some, Option, length-append, take-append-drop}
use Rattle.std.specs.Prelude.{◌==◌}
use Rattle.std.proofs.lemmas.Bool.{eqb-true, eq-eqb}
use Rattle.run_table.specs.Space.{contains, all_differ}
use Rattle.fsd_bytes.specs.declared.key.Key.{Key}
use Rattle.fsd_formats.specs.declared.entry.Entry.{Entry}
use Rattle.fsd_formats.specs.declared.page.Separator.{Separator}
use Rattle.fsd_formats.specs.NamePage.{Content, Interior, are_ascending}
use Rattle.fsd_table.specs.declared.child.Child.{Child}
use Rattle.fsd_table.specs.Pages.{page_at, children_of, keys_fit, separator_keys}
use Rattle.fsd_table.specs.Tree.{pages_below, IsLeaf}
use Rattle.fsd_table.proofs.PageLaws.{at_is_page, interior_ascends}
use Rattle.fsd_forest.specs.Forest.{Stay, Keep, Exchange, times_in, heads, inner, forest_pages, Becomes}
use Rattle.fsd_forest.specs.Ways.{StandsAround}
use Rattle.fsd_forest.proofs.CountLaws.{one_if, count_cons, count_append, count_nothing, there_counts, counts_out, out_counts, differ_counts}
use Rattle.fsd_forest.proofs.ForestLaws.{follows, remains}
use Rattle.fsd_forest.proofs.StepLaws.{steps_up, page_sides_stay}
use Rattle.fsd_forest.proofs.TreeLaws.{alone}
use Rattle.name_page.specs.Pages.{Step}
use Rattle.name_page.specs.Edits.{with_entry}
use Rattle.name_btree.specs.declared.draft.Sheet.{Sheet}
use Rattle.name_btree.specs.declared.growing.Grown.{Grown}
use Rattle.name_btree.specs.declared.growing.Grown.TheVariants.{Whole, Parted}
use Rattle.name_btree.specs.Draft.{drafted, WereTaken}
use Rattle.name_btree.specs.Grown.{came_of, went_of, parts_of, most_taken, IsGrown, StaysInPlace, IsAboveGrown, IsDivided, IsFull, IsBranch, AreUsed, BranchBecomes, Grows}
use Rattle.name_btree.specs.Trim.{child_of}
use Rattle.name_btree.proofs.growth.BranchLaws.{StandAround, left_children, right_children, children_are, is_below, branch_below, sides_grown, becomes_by, went_nothing, taken_apart, with_entry_local}
use Rattle.name_btree.proofs.growth.LeafGrowthLaws.{came_few, heads_exchange}
use Rattle.name_btree.proofs.drafts.TakeLaws.{takes_then}

-- ---- pages that stay

pub stay_less : (pages after : List (List ℕ)) (xs ys : List ℕ) → ((q : ℕ) → times_in q xs ≤ times_in q ys) → Stay pages after xs → Stay pages after ys
stay_less pages after xs ys less stay q out = stay q (counts_out q xs (none (times_in q xs) (times_in q ys) (less q) (out_none q ys out)))
  where
    none : (m n : ℕ) → m ≤ n → n ≡ 0 → m ≡ 0
    none m n h e = omega arith

    out_none : (q : ℕ) (ys : List ℕ) → contains ys q ≡ false → times_in q ys ≡ 0
    out_none q ys out = out_counts q ys out

-- first below a child, then in the page above it
stay_both : (pages between after : List (List ℕ)) (above : ℕ) (below came came2 : List ℕ) → Stay pages between (below ++ came) → Stay between after (above ∷ came2) → Stay pages after (above ∷ ((below ++ []) ++ (came ++ came2)))
stay_both pages between after above below came came2 first second q out =
    let none = out_counts q (above ∷ ((below ++ []) ++ (came ++ came2))) out in
    second q (counts_out q (above ∷ came2) (omega (
      arith,
      none,
      count_cons q above ((below ++ []) ++ (came ++ came2)),
      count_cons q above came2,
      count_append q (below ++ []) (came ++ came2),
      count_append q came came2,
    )))
    ∙ first q (counts_out q (below ++ came) (omega (
      arith,
      none,
      count_cons q above ((below ++ []) ++ (came ++ came2)),
      count_append q (below ++ []) (came ++ came2),
      count_append q below [],
      count_append q below came,
      count_append q came came2,
      count_nothing q,
    )))

-- ---- one level up

record Apart (above : ℕ) (below came came2 : List ℕ) (q : ℕ) : Type 0 where
  once : times_in q (above ∷ []) + (times_in q below + (times_in q came + times_in q came2)) ≤ 1

-- the page above, those below the child and those that came are all different
counts_apart : (above : ℕ) (ls ms rs came came2 : List ℕ) → all_differ ((above ∷ (ls ++ (ms ++ rs))) ++ (came ++ came2)) ≡ true → (q : ℕ) → Apart above ms came came2 q
counts_apart above ls ms rs came came2 apart q = record {
  once = omega (
    arith,
    differ_counts ((above ∷ (ls ++ (ms ++ rs))) ++ (came ++ came2)) apart q,
    count_append q (above ∷ (ls ++ (ms ++ rs))) (came ++ came2),
    count_cons q above (ls ++ (ms ++ rs)),
    count_cons q above [],
    count_nothing q,
    count_append q ls (ms ++ rs),
    count_append q ms rs,
    count_append q came came2,
  );
}

-- what stands below the grown child is no page that changes above it
kept_below_parts : (edit : List Entry → List Entry) (pages between after : List (List ℕ)) (above : ℕ) (came came2 went : List ℕ) (level : ℕ) (d : Child) (parts : List Child) → ((q : ℕ) → Apart above (pages_below level pages d) came came2 q)
    → Becomes edit pages between came went level (d ∷ []) parts → Stay between after (above ∷ came2) → Keep between after (forest_pages level between parts)
kept_below_parts edit pages between after above came came2 went level d parts apart b stay q there =
    stay q (counts_out q (above ∷ came2) (omega (
      arith,
      there_counts q (forest_pages level between parts) there,
      b.pages_are q,
      ap (times_in q) (alone (pages_below level pages) d),
      (apart q).once,
      count_cons q above came2,
      count_cons q above [],
      count_nothing q,
    )))

becomes_below : (edit : List Entry → List Entry) (pages between after : List (List ℕ)) (above : ℕ) (came came2 : List ℕ) (level : ℕ) (d : Child) (g : Grown) → ((q : ℕ) → Apart above (pages_below level pages d) came came2 q) → (d.page ≡ 0 → ⊥)
    → Becomes edit pages between came (went_of d.page g) level (d ∷ []) (parts_of d g) → Stay between after (above ∷ came2) → Becomes edit pages after came [] level (d ∷ []) (parts_of d g)
becomes_below edit pages between after above came came2 level d g apart differs b stay =
    let parts : List Child = parts_of d g in
    let went : List ℕ = went_of d.page g in
    let keep = kept_below_parts edit pages between after above came came2 went level d parts apart b stay in
    let same = remains between after level parts b.subtrees keep in
    let both = follows edit (λ entries. entries) pages between after came went [] [] level (d ∷ []) parts parts b same in
    becomes_by edit pages after (came ++ []) (went ++ []) came [] level (d ∷ []) parts
    (λ p. omega (arith, count_append p came [], count_nothing p))
    (λ p. omega (arith, count_append p went [], count_nothing p, ap (times_in p) (went_nothing d.page g differs)))
    both

-- ---- what is told of the page

full_above : (pages after : List (List ℕ)) (page first : ℕ) (separators : List Separator) (i : ℕ) (x : Option Content) (g above : Grown) → x ≡ Some (Interior first separators) → IsAboveGrown pages after page first separators i g above → IsFull x above
full_above pages after page first separators i x g above at is = subst (λ (y : Option Content). IsFull y above) (sym at) (by g above is)
  where
    by : (g above : Grown) → IsAboveGrown pages after page first separators i g above → IsFull (Some (Interior first separators)) above
    by g Whole is = tt
    by Whole (Parted left s) is = absurd (let never = is.0 in cc)
    by (Parted left2 s2) (Parted left s) is = omega (arith, is.many, length-append (take i separators) (s2 ∷ drop i separators), ap length (take-append-drop i separators), length-append (take i separators) (drop i separators))

pub leaf_never : (pages : List (List ℕ)) (c : Child) (x : Option Content) (first : ℕ) (separators : List Separator) → x ≡ Some (Interior first separators) → IsLeaf c x → ⊥
leaf_never pages c x first separators at leaf = subst (IsLeaf c) at leaf

pub few_above : (page d levels : ℕ) → (d ≡ 0 → ⊥) → most_taken d levels ≡ suc levels
few_above page d levels apart = by (d == 0) refl
  where
    by : (b : Bool) → (d == 0) ≡ b → cond b 2 1 + levels ≡ suc levels
    by true is = absurd (apart (eqb-true d 0 is))
    by false is = omega arith

divided_above : (key : Key) (pages after : List (List ℕ)) (above : Child) (first : ℕ) (separators : List Separator) (i : ℕ) (g grown : Grown) → StandAround key separators i → are_ascending (separator_keys separators) ≡ true
    → keys_fit above.low above.high (separator_keys separators) ≡ true → ((child_of above first separators i).page ≡ 0 → ⊥) → StaysInPlace (child_of above first separators i).page g → IsDivided (child_of above first separators i) g
    → IsAboveGrown pages after above.page first separators i g grown → IsDivided above grown
divided_above key pages after above first separators i Whole grown around order fit differs place divided up = subst (IsDivided above) (sym up.0) tt
divided_above key pages after above first separators i (Parted left s) grown around order fit differs place divided up =
    (sides_grown key pages after above first separators i (Parted left s) grown around (λ e. absurd cc) order fit differs place divided up).divided

-- ---- the whole

-- below a page of a tree
branch_grows : (e : Entry) (pages between after : List (List ℕ)) (a c : Step) (came came2 : List ℕ) (level : ℕ) (above : Child) (first : ℕ) (separators : List Separator) (i : ℕ) (g grown : Grown)
    → page_at pages above.page ≡ Some (Interior first separators) → are_ascending (separator_keys separators) ≡ true → keys_fit above.low above.high (separator_keys separators) ≡ true → StandAround e.key separators i
    → ((child_of above first separators i).page ≡ 0 → ⊥) → StaysInPlace (child_of above first separators i).page g → IsDivided (child_of above first separators i) g
    → StaysInPlace above.page grown → came2 ≡ came_of above.page grown → WereTaken a c (came ++ came2) → Stay between after (above.page ∷ came2) → IsAboveGrown between after above.page first separators i g grown
    → IsBranch pages (suc level) above → AreUsed a (pages_below (suc level) pages above) → BranchBecomes e pages between came level (child_of above first separators i) g → BranchBecomes e pages after (came ++ came2) (suc level) above grown
branch_grows e pages between after a c came came2 level above first separators i g grown at order fit around differs place divided place_above came2_is taken stay2 up branch used b =
    let key : Key = e.key in
    let d : Child = child_of above first separators i in
    let left : List Child = left_children above first separators i in
    let right : List Child = right_children above separators i in
    let ls : List ℕ = forest_pages level pages left in
    let ms : List ℕ = pages_below level pages d in
    let rs : List ℕ = forest_pages level pages right in
    let whole : List ℕ = pages_below (suc level) pages above in
    let below = is_below key pages level above first separators i at around branch.subtree in
    let distinct = taken_apart a c whole (came ++ came2) branch.apart used taken in
    let split : all_differ ((above.page ∷ (ls ++ (ms ++ rs))) ++ (came ++ came2)) ≡ true = ap (λ (ps : List ℕ). all_differ (ps ++ (came ++ came2))) (sym below.pages_are) ∙ distinct in
    let counts : (q : ℕ) → Apart above.page ms came came2 q = counts_apart above.page ls ms rs came came2 split in
    let lower = becomes_below (with_entry e) pages between after above.page came came2 level d g counts differs b.becomes stay2 in
    let stay = stay_both pages between after above.page ms came came2 b.stay stay2 in
    let stands = children_are key pages above first separators i at around in
    let keep = page_sides_stay pages after (came ++ came2) level above left (d ∷ []) right stands.children_are distinct stay in
    let same : page_at between above.page ≡ page_at pages above.page = b.stay above.page (none_of above.page ms came came2 (counts above.page)) in
    let sides = sides_grown key between after above first separators i g grown around (λ w. same ∙ at) order fit differs place divided up in
    let stands_all : StandsAround key (inner pages (above ∷ [])) left (d ∷ []) right = record { children_are = alone (λ x. children_of x.low x.high (page_at pages x.page)) above ∙ stands.children_are; ends = stands.ends; begins = stands.begins } in
    let went : List ℕ = went_of above.page grown in
    let up_one = steps_up key (with_entry e) pages after came [] came2 went level (above ∷ []) (parts_of above grown) left (d ∷ []) (parts_of d g) right (with_entry_local e) (branch.subtree, tt) stands_all sides.inner_are sides.above
    (subst (λ (ps : List ℕ). Exchange (heads (above ∷ [])) (heads (parts_of above grown)) ps went) (sym came2_is) (heads_exchange above grown place_above)) keep lower in
    record {
      becomes = becomes_by (with_entry e) pages after (came2 ++ came) (went ++ []) (came ++ came2) went (suc level) (above ∷ []) (parts_of above grown)
          (λ p. omega (arith, count_append p came came2, count_append p came2 came)) (λ p. omega (arith, count_append p went [], count_nothing p)) up_one;
      stay = stay_less pages after (above.page ∷ ((ms ++ []) ++ (came ++ came2))) (whole ++ (came ++ came2)) (λ q. less q ls ms rs whole below.pages_are) stay;
    }
  where
    none_of : (page : ℕ) (ms came came2 : List ℕ) → Apart page ms came came2 page → contains (ms ++ came) page ≡ false
    none_of page ms came came2 once = counts_out page (ms ++ came) (omega (arith, once.once, count_append page ms came, count_cons page page [], count_nothing page, one_if (page == page) (eq-eqb page page refl)))

    less : (q : ℕ) (ls ms rs whole : List ℕ) → whole ≡ above.page ∷ (ls ++ (ms ++ rs)) → times_in q (above.page ∷ ((ms ++ []) ++ (came ++ came2))) ≤ times_in q (whole ++ (came ++ came2))
    less q ls ms rs whole is = omega (
      arith,
      ap (times_in q) is,
      count_append q whole (came ++ came2),
      count_cons q above.page (ls ++ (ms ++ rs)),
      count_append q ls (ms ++ rs),
      count_append q ms rs,
      count_cons q above.page ((ms ++ []) ++ (came ++ came2)),
      count_append q (ms ++ []) (came ++ came2),
      count_append q ms [],
      count_nothing q,
    )

pub above_grows : (e : Entry) (a b c : Step) (s0 s1 s2 : List Sheet) (levels : ℕ) (above : Child) (first : ℕ) (separators : List Separator) (i : ℕ) (g grown : Grown)
    → page_at (drafted s0 a.images) above.page ≡ Some (Interior first separators) → keys_fit above.low above.high (separator_keys separators) ≡ true → StandAround e.key separators i
    → ((child_of above first separators i).page ≡ 0 → ⊥) → Grows e a b (drafted s0 a.images) (drafted s1 b.images) levels (child_of above first separators i) g → IsGrown b c s1 s2 above.page grown
    → IsAboveGrown (drafted s1 b.images) (drafted s2 c.images) above.page first separators i g grown → Grows e a c (drafted s0 a.images) (drafted s2 c.images) (suc levels) above grown
above_grows e a b c s0 s1 s2 levels above first separators i g grown at fit around differs grows is up =
    let pages : List (List ℕ) = drafted s0 a.images in
    let between : List (List ℕ) = drafted s1 b.images in
    let after : List (List ℕ) = drafted s2 c.images in
    let came2 : List ℕ = came_of above.page grown in
    let takes = takes_then a b c grows.came came2 grows.takes is.takes in
    let order = interior_ascends above.page (length pages) first separators (at_is_page pages above.page (Interior first separators) at) in
    record {
      came = grows.came ++ came2;
      few = omega (arith, grows.few, few_above above.page (child_of above first separators i).page levels differs, came_few above.page grown, length-append grows.came came2);
      takes = takes;
      sound = is.sound;
      place = is.place;
      divided = divided_above e.key between after above first separators i g grown around order fit differs grows.place grows.divided up;
      full = full_above between after above.page first separators i (page_at pages above.page) g grown at up;
      becomes = λ level low branch used. by level low takes.taken order branch used;
    }
  where
    by : (level : ℕ) → level ≤ suc levels → WereTaken a c (grows.came ++ came_of above.page grown) → are_ascending (separator_keys separators) ≡ true → IsBranch (drafted s0 a.images) level above
        → AreUsed a (pages_below level (drafted s0 a.images) above) → BranchBecomes e (drafted s0 a.images) (drafted s2 c.images) (grows.came ++ came_of above.page grown) level above grown
    by zero low taken order branch used = absurd (leaf_never (drafted s0 a.images) above (page_at (drafted s0 a.images) above.page) first separators at branch.subtree)
    by (suc level) low taken order branch used =
        let pages : List (List ℕ) = drafted s0 a.images in
        let between : List (List ℕ) = drafted s1 b.images in
        let below = branch_below e.key pages level above first separators i at around branch in
        let lower = grows.becomes level (omega arith) below.0 (λ p h. used p (below.1.0 p h)) in
        branch_grows e pages between (drafted s2 c.images) a c grows.came (came_of above.page grown) level above first separators i g grown
        at order fit around differs grows.place grows.divided is.place refl taken is.stay up branch used lower
