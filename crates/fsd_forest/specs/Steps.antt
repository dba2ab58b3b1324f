-- What becomes of pages whose children around a key are changed.
use Rattle.std.specs.Prelude.{◌≡◌, ℕ, suc, true, List, [], ◌∷◌, ◌++◌}
use Rattle.std.specs.List.{AllByRecursion}
use Rattle.run_table.specs.Space.{all_differ}
use Rattle.fsd_bytes.specs.declared.key.Key.{Key}
use Rattle.fsd_formats.specs.declared.entry.Entry.{Entry}
use Rattle.fsd_table.specs.declared.child.Child.{Child}
use Rattle.fsd_table.specs.Pages.{page_at, children_of}
use Rattle.fsd_table.specs.Tree.{pages_below, IsSubtree}
use Rattle.fsd_forest.specs.Forest.{heads, inner, forest_pages, Exchange, Keep, Stay, IsLocal, Becomes, IsAbove}
use Rattle.fsd_forest.specs.Ways.{StandsAround}

-- others stand in the place of some of the children, and those on both sides stay
abbrev pub StepsUp : Type 0
StepsUp =
    (key : Key) (edit : List Entry → List Entry) (pages after : List (List ℕ)) (came went came_above went_above : List ℕ) (level : ℕ) (cs ds left old new right : List Child) → IsLocal key edit
    → AllByRecursion (IsSubtree (suc level) pages) cs → StandsAround key (inner pages cs) left old right → inner after ds ≡ left ++ (new ++ right) → AllByRecursion (IsAbove after) ds
    → Exchange (heads cs) (heads ds) came_above went_above → Keep pages after (forest_pages level pages (left ++ right)) → Becomes edit pages after came went level old new
    → Becomes edit pages after (came_above ++ came) (went_above ++ went) (suc level) cs ds

-- so do they below one page, which stays where it is
abbrev pub PageStepsUp : Type 0
PageStepsUp =
    (key : Key) (edit : List Entry → List Entry) (pages after : List (List ℕ)) (came went : List ℕ) (level : ℕ) (c : Child) (left old new right : List Child) → IsLocal key edit
    → IsSubtree (suc level) pages c → StandsAround key (children_of c.low c.high (page_at pages c.page)) left old right → children_of c.low c.high (page_at after c.page) ≡ left ++ (new ++ right) → IsAbove after c
    → Keep pages after (forest_pages level pages (left ++ right)) → Becomes edit pages after came went level old new → Becomes edit pages after came went (suc level) (c ∷ []) (c ∷ [])

-- where the pages above, those below some of the children and fresh ones are all that changes,
-- what stands on both sides stays
abbrev pub SidesStay : Type 0
SidesStay =
    (pages after : List (List ℕ)) (fresh : List ℕ) (level : ℕ) (cs left old right : List Child) → inner pages cs ≡ left ++ (old ++ right) → all_differ (forest_pages (suc level) pages cs ++ fresh) ≡ true
    → Stay pages after (heads cs ++ (forest_pages level pages old ++ fresh)) → Keep pages after (forest_pages level pages (left ++ right))

abbrev pub PageSidesStay : Type 0
PageSidesStay =
    (pages after : List (List ℕ)) (fresh : List ℕ) (level : ℕ) (c : Child) (left old right : List Child) → children_of c.low c.high (page_at pages c.page) ≡ left ++ (old ++ right)
    → all_differ (pages_below (suc level) pages c ++ fresh) ≡ true → Stay pages after (c.page ∷ (forest_pages level pages old ++ fresh)) → Keep pages after (forest_pages level pages (left ++ right))
