-- The laws of what becomes of subtrees.
use Rattle.std.specs.Prelude.{◌≡◌, ◌≤◌, ◌<◌, ◌-◌, ℕ, zero, suc, true, List, [], ◌∷◌, ◌++◌, Some, None, length}
use Rattle.std.specs.List.{flat_map, AllByRecursion}
use Rattle.run_table.specs.Space.{all_differ}
use Rattle.fsd_bytes.specs.declared.key.Key.{Key}
use Rattle.fsd_formats.specs.declared.entry.Entry.{Entry}
use Rattle.fsd_formats.specs.declared.page.Separator.{Separator}
use Rattle.fsd_formats.specs.NamePage.{Interior}
use Rattle.fsd_table.specs.declared.child.Child.{Child}
use Rattle.fsd_table.specs.Pages.{page_at, entries_of}
use Rattle.fsd_table.specs.Table.{top, max_height}
use Rattle.fsd_table.specs.Tree.{pages_of, IsLeaf, IsSubtree, IsTree}
use Rattle.fsd_forest.specs.Forest.{heads, inner, forest_pages, Exchange, Keep, Stay, IsLocal, EndsUpTo, BeginsBehind, Becomes, IsAbove, TreeBecomes}
use Rattle.fsd_forest.specs.Parts.{left_part, right_part}

-- where leaves stand in the place of leaves, the entries are those of the pages
abbrev pub LeavesBecome : Type 0
LeavesBecome =
    (edit : List Entry → List Entry) (pages after : List (List ℕ)) (came went : List ℕ) (old new : List Child)
    → AllByRecursion (λ c. IsLeaf c (page_at after c.page)) new → Exchange (heads old) (heads new) came went
    → flat_map (λ c. entries_of (page_at after c.page)) new ≡ edit (flat_map (λ c. entries_of (page_at pages c.page)) old)
    → Becomes edit pages after came went zero old new

-- with what stands on both sides, which stays
abbrev pub Widens : Type 0
Widens =
    (key : Key) (edit : List Entry → List Entry) (pages after : List (List ℕ)) (came went : List ℕ) (level : ℕ) (left old new right : List Child) → IsLocal key edit
    → AllByRecursion (IsSubtree level pages) left → AllByRecursion (IsSubtree level pages) right → AllByRecursion (EndsUpTo key) left → AllByRecursion (BeginsBehind key) right
    → Keep pages after (forest_pages level pages (left ++ right)) → Becomes edit pages after came went level old new
    → Becomes edit pages after came went level (left ++ (old ++ right)) (left ++ (new ++ right))

-- one level up: pages above the old children, and others above the new ones
abbrev pub Rises : Type 0
Rises =
    (edit : List Entry → List Entry) (pages after : List (List ℕ)) (came went came_above went_above : List ℕ) (level : ℕ) (old new : List Child)
    → AllByRecursion (IsAbove after) new → Exchange (heads old) (heads new) came_above went_above → Becomes edit pages after came went level (inner pages old) (inner after new)
    → Becomes edit pages after (came_above ++ came) (went_above ++ went) (suc level) old new

-- one change behind another
abbrev pub FollowsChange : Type 0
FollowsChange =
    (first second : List Entry → List Entry) (pages between after : List (List ℕ)) (came went came2 went2 : List ℕ) (level : ℕ) (old some new : List Child)
    → Becomes first pages between came went level old some → Becomes second between after came2 went2 level some new
    → Becomes (λ entries. second (first entries)) pages after (came ++ came2) (went ++ went2) level old new

-- pages that stay as they were keep what stands below them
abbrev pub Remains : Type 0
Remains =
    (pages after : List (List ℕ)) (level : ℕ) (cs : List Child) → AllByRecursion (IsSubtree level pages) cs → Keep pages after (forest_pages level pages cs)
    → Becomes (λ entries. entries) pages after [] [] level cs cs

-- ---- the whole

-- below page 0: a tree of the same height
abbrev pub TreesBecome : Type 0
TreesBecome =
    (edit : List Entry → List Entry) (pages after : List (List ℕ)) (came went : List ℕ) (height : ℕ) → IsTree pages height → all_differ (pages_of pages height ++ came) ≡ true
    → Becomes edit pages after came went (height - 1) (top ∷ []) (top ∷ []) → TreeBecomes edit pages after came went height

-- page 0 leads to two pages that stand in its place: one level more
abbrev pub TreesGrow : Type 0
TreesGrow =
    (edit : List Entry → List Entry) (pages after : List (List ℕ)) (came : List ℕ) (height left : ℕ) (s : Separator) → IsTree pages height → height < max_height → all_differ (pages_of pages height ++ came) ≡ true
    → page_at after 0 ≡ Some (Interior left (s ∷ []))
    → Becomes edit pages after came (0 ∷ []) (height - 1) (top ∷ []) (left_part left top s.key ∷ right_part s.child top s.key ∷ []) → TreeBecomes edit pages after came [] height

-- page 0 takes over what its only child has: one level less
abbrev pub TreesShrink : Type 0
TreesShrink =
    (edit : List Entry → List Entry) (pages between after : List (List ℕ)) (went : List ℕ) (height first : ℕ) → IsTree pages height → 2 ≤ height
    → Becomes edit pages between [] went (height - 2) (inner pages (top ∷ [])) (record { page = first; low = None; high = None } ∷ [])
    → page_at after 0 ≡ page_at between first → Stay between after (0 ∷ []) → TreeBecomes edit pages after [] (first ∷ went) height

-- a table of so many pages has one level to spare where page 0 is full
abbrev pub TreesAreLow : Type 0
TreesAreLow =
    (pages : List (List ℕ)) (height first : ℕ) (separators : List Separator) → IsTree pages height → length pages ≤ 4096 → page_at pages 0 ≡ Some (Interior first separators) → 9 ≤ length separators → height < max_height
