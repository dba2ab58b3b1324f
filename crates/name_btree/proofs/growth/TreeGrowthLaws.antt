-- A tree into which an entry was put.
use Rattle.std.proofs.Common.{◌≡◌, ℕ, zero, suc, ◌-◌, ◌<◌, ◌≤◌, true, false, List, [], ◌∷◌, ◌++◌, length, refl, sym, ap, subst, ◌∙◌, arith, Some, None, Option}
use Rattle.std.specs.Prelude.{◌==◌}
use Rattle.std.specs.List.{AllByRecursion}
use Rattle.std.proofs.lemmas.Bool.{or_parts, eqb-false}
use Rattle.run_table.specs.Space.{all_differ}
use Rattle.fsd_formats.specs.declared.entry.Entry.{Entry}
use Rattle.fsd_formats.specs.declared.page.Separator.{Separator}
use Rattle.fsd_formats.specs.NamePage.{Content, Free, Leaf, Interior}
use Rattle.fsd_table.specs.declared.child.Child.{Child}
use Rattle.fsd_table.specs.Pages.{page_at}
use Rattle.fsd_table.specs.Table.{max_height, top}
use Rattle.fsd_table.specs.Tree.{pages_of, pages_below, IsInterior, IsSubtree, IsTree}
use Rattle.fsd_forest.specs.Forest.{Stay, Keep, times_in, forest_pages, Becomes}
use Rattle.fsd_forest.proofs.CountLaws.{count_append, count_nothing, there_counts, counts_out, differ_counts}
use Rattle.fsd_forest.proofs.ForestLaws.{follows, remains}
use Rattle.fsd_forest.proofs.LowLaws.{trees_are_low}
use Rattle.fsd_forest.proofs.TreeLaws.{alone, trees_become, trees_grow}
use Rattle.name_page.specs.Pages.{Step}
use Rattle.name_page.specs.Edits.{with_entry}
use Rattle.name_btree.specs.declared.draft.Draft.{Draft}
use Rattle.name_btree.specs.declared.draft.Sheet.{Sheet}
use Rattle.name_btree.specs.declared.growing.Grown.TheVariants.{Whole, Parted}
use Rattle.name_btree.specs.Draft.{drafted, AreSheets, IsTreeDraft, IsDrafted}
use Rattle.name_btree.specs.Grown.{TakesSpare, parts_of, IsFull, IsBranch, Grows, Inserts, BreaksGrowth, BreaksNew}
use Rattle.name_btree.proofs.growth.BranchLaws.{taken_apart, becomes_by}
use Rattle.name_btree.proofs.drafts.TakeLaws.{goes_over}

-- ---- the root

pub branch_of : (pages : List (List ℕ)) (height : ℕ) → IsTree pages height → IsBranch pages (height - 1) top
branch_of pages height tree = record { subtree = tree.subtree; apart = tree.apart; inner = λ h. refl }

low_levels : (pages : List (List ℕ)) (height : ℕ) → IsTree pages height → height - 1 ≤ 5
low_levels pages height tree = omega (arith, tree.least, tree.most)

-- a full root leaves room for one level more
room_above : (pages : List (List ℕ)) (height : ℕ) (left : ℕ) (s : Separator) → IsTree pages height → length pages ≤ 4096 → IsFull (page_at pages 0) (Parted left s) → height < max_height
room_above pages height left s tree small full = by (height - 1) refl tree.subtree (page_at pages 0) refl full
  where
    by : (level : ℕ) → height - 1 ≡ level → IsSubtree level pages top → (x : Option Content) → page_at pages 0 ≡ x → IsFull x (Parted left s) → height < max_height
    by zero is sub x at full = omega (arith, is)
    by (suc level) is sub None at full = absurd (subst (IsInterior (IsSubtree level pages) top) at sub)
    by (suc level) is sub (Some Free) at full = absurd (subst (IsInterior (IsSubtree level pages) top) at sub)
    by (suc level) is sub (Some (Leaf entries)) at full = absurd (subst (IsInterior (IsSubtree level pages) top) at sub)
    by (suc level) is sub (Some (Interior first separators)) at full = trees_are_low pages height first separators tree small at full

pub inserts_whole : (e : Entry) (old new : Step) (pages after : List (List ℕ)) → Grows e old new pages after 5 top Whole → Inserts e old new pages after
inserts_whole e old new pages after g = record {
  came = g.came;
  few = g.few;
  takes = g.takes;
  tree = λ height tree used.
      let b = g.becomes (height - 1) (low_levels pages height tree) (branch_of pages height tree) used in
      trees_become (with_entry e) pages after g.came [] height tree (taken_apart old new (pages_of pages height) g.came tree.apart used g.takes.taken) b.becomes;
}

-- page 0 goes from those below itself, and leads to its parts
zero_goes : (edit : List Entry → List Entry) (pages between after : List (List ℕ)) (came : List ℕ) (level : ℕ) (parts : List Child) → all_differ (pages_below level pages top ++ came) ≡ true
    → Stay between after (0 ∷ []) → Becomes edit pages between came (0 ∷ []) level (top ∷ []) parts → Becomes edit pages after came (0 ∷ []) level (top ∷ []) parts
zero_goes edit pages between after came level parts apart stay b =
    let same = remains between after level parts b.subtrees keep in
    let both = follows edit (λ entries. entries) pages between after came (0 ∷ []) [] [] level (top ∷ []) parts parts b same in
    becomes_by edit pages after (came ++ []) ((0 ∷ []) ++ []) came (0 ∷ []) level (top ∷ []) parts (λ p. omega (arith, count_append p came [], count_nothing p)) (λ p. refl) both
  where
    keep : Keep between after (forest_pages level between parts)
    keep q there = stay q (counts_out q (0 ∷ []) (omega (
      arith,
      there_counts q (forest_pages level between parts) there,
      b.pages_are q,
      ap (times_in q) (alone (pages_below level pages) top),
      differ_counts (pages_below level pages top ++ came) apart q,
      count_append q (pages_below level pages top) came,
    )))

pub inserts_parted : (e : Entry) (old new : Step) (pages : List (List ℕ)) (sheets after : List Sheet) (left : ℕ) (s : Separator) → length pages ≤ 4096 → Grows e old new pages (drafted sheets new.images) 5 top (Parted left s)
    → IsDrafted new sheets after 0 (Interior left (s ∷ [])) → Inserts e old new pages (drafted after new.images)
inserts_parted e old new pages sheets after left s small g d = record {
  came = g.came;
  few = g.few;
  takes = g.takes;
  tree = λ height tree used.
      let between : List (List ℕ) = drafted sheets new.images in
      let last : List (List ℕ) = drafted after new.images in
      let b = g.becomes (height - 1) (low_levels pages height tree) (branch_of pages height tree) used in
      let apart = taken_apart old new (pages_of pages height) g.came tree.apart used g.takes.taken in
      let low = room_above pages height left s tree small g.full in
      let stay : Stay between last (0 ∷ []) = λ q out. d.others q (λ h. eqb-false 0 q (or_parts (0 == q) false out).0 (sym h)) in
      trees_grow (with_entry e) pages last g.came height left s tree low apart d.content
      (zero_goes (with_entry e) pages between last g.came (height - 1) (parts_of top (Parted left s)) apart stay b.becomes);
}

-- the draft is one still
pub still_draft : (old new : Step) (came : List ℕ) (d after : Draft) → TakesSpare old new came → IsTreeDraft old d → AreSheets new after.sheets.items → after.freed.items ≡ d.freed.items → IsTreeDraft new after
still_draft old new came d after takes is sheets freed = record {
  sheets = sheets;
  freed = subst (AllByRecursion _) (sym freed) (goes_over old new came d.freed.items takes is.freed);
  apart = ap all_differ freed ∙ is.apart;
}

-- what no branch may have, no tree has
pub growth_new : (e : Entry) (pages : List (List ℕ)) (c : Child) (page : ℕ) → c ≡ top → BreaksGrowth e pages 5 c page → BreaksNew e pages page
growth_new e pages c page is h = λ height tree none. (subst (λ (d : Child). BreaksGrowth e pages 5 d page) is h) (height - 1) (omega (arith, tree.most)) (branch_of pages height tree) none
