-- The level of page 0, and the walk below it.
use Rattle.std.proofs.Common.{◌≡◌, ℕ, zero, suc, ◌+◌, ◌-◌, ◌≤◌, ◌<◌, Bool, List, [], Some, sym, subst, arith, zero-add}
use Rattle.std.specs.Prelude.{slice_get}
use Rattle.fsd_formats.specs.declared.entry.Entry.{Entry}
use Rattle.fsd_formats.specs.declared.page.Separator.{Separator}
use Rattle.fsd_formats.specs.NamePage.{Leaf, Interior}
use Rattle.fsd_table.specs.declared.child.Child.{Child}
use Rattle.fsd_table.specs.Pages.{page_at, children}
use Rattle.fsd_table.specs.Table.{top, max_height, IsVisited, BreaksTable}
use Rattle.fsd_table.specs.Tree.{pages_below}
use Rattle.fsd_table.proofs.BreakLaws.{visited_top, visited_children, misfit_breaks}
use Rattle.name_btree.specs.declared.fault.TreeFault.{TreeFault}
use Rattle.name_page.specs.declared.pages.Pages.{Ghosts}
use Rattle.name_page.specs.Pages.{Step}
use Rattle.name_btree.specs.Fault.{HasTreeCause, IsMisfit, BarsPage, BarsTable, FailsTable}
use Rattle.name_btree.proofs.steps.CauseLaws.{cause_map, bars_table}
use Rattle.name_btree.specs.Walk.{AreMarksOf, HasKinds, IsWalkedSubtree, IsTopLevel, IsCountedTree}
use Rattle.name_btree.proofs.walks.WalkLaws.{all_at}
use Rattle.name_btree.proofs.walks.MarkLaws.{marks_differ, marks_more}

-- ---- the way down the first children

-- so many levels down from page 0, each of an interior page
abbrev pub IsDown : List (List ℕ) → ℕ → Child → Type 0
IsDown pages i c = IsVisited pages (i + 1) c × ((level : ℕ) → HasKinds pages (i + 1) level → HasKinds pages 1 (i + level))

pub down_begins : (pages : List (List ℕ)) (c : Child) → c ≡ top → IsDown pages 0 c
down_begins pages c is = (subst (IsVisited pages 1) (sym is) (visited_top pages), λ level h. subst (HasKinds pages 1) (sym (zero-add level)) h)

pub down_first : (pages : List (List ℕ)) (i : ℕ) (c d : Child) (first : ℕ) (xs : List Separator) → page_at pages c.page ≡ Some (Interior first xs) → slice_get (children first c.low c.high xs) 0 ≡ Some d
    → i < max_height → IsDown pages i c → IsDown pages (i + 1) d
down_first pages i c d first xs at is low on = (
  all_at (IsVisited pages (i + 1 + 1)) (children first c.low c.high xs) 0 d is (visited_children pages (i + 1) c first xs at (deeper i low) on.0),
  λ level h. subst (HasKinds pages 1) (one_more i level) (on.1 (suc level) ((c, on.0, (first, xs, at)), h)),
)
  where
    deeper : (n : ℕ) → n < max_height → n + 1 ≤ max_height
    deeper n h = omega arith

    one_more : (m n : ℕ) → m + suc n ≡ m + 1 + n
    one_more m n = omega arith

pub down_ends : (pages : List (List ℕ)) (i : ℕ) (c : Child) (entries : List Entry) → page_at pages c.page ≡ Some (Leaf entries) → i < max_height → IsDown pages i c → IsTopLevel pages i
down_ends pages i c entries at few on = (few, subst (HasKinds pages 1) (none_more i) (on.1 zero (c, on.0, (entries, at))))
  where
    none_more : (n : ℕ) → n + zero ≡ n
    none_more n = omega arith

pub down_breaks : {D : Type 0} (P : Ghosts D) (new : D) (fault : TreeFault) (i : ℕ) (c : Child)
    → (P.trusted new → IsDown (P.step new).images i c) → HasTreeCause (P.step new) (IsMisfit (P.step new).images c) (BarsPage (P.step new) c.page) fault → FailsTable P new fault
down_breaks P new fault i c on h =
    let s = P.step new in
    cause_map s (IsMisfit s.images c) (λ page. P.trusted new → BreaksTable s.images page) (BarsPage s c.page) (λ page. P.trusted new → BarsTable s page)
    (λ page x t. subst (BreaksTable s.images) (sym x.0) (misfit_breaks s.images (i + 1) c (on t).0 x.1)) (λ page x t. bars_table s (i + 1) c (on t).0 page x) fault h

-- ---- the whole

counted_at : (s : Step) (height : ℕ) (before after : List Bool) (count : ℕ) → 1 ≤ height → height ≤ max_height → AreMarksOf [] before
    → IsWalkedSubtree s.spares (height - 1) s.images top before after count → IsCountedTree s after count
counted_at s height before after count least most clear w =
    let reached : List ℕ = pages_below (height - 1) s.images top in record {
      height = height;
      used = w.used;
      tree = record { least = least; most = most; subtree = w.subtree; apart = marks_differ before reached w.unmarked };
      marks_are = subst (AreMarksOf reached) (sym w.marks) (marks_more before [] reached clear);
      count_is = w.count_is;
    }

pub counted : (s : Step) (level : ℕ) (c : Child) (before after : List Bool) (count : ℕ) → IsTopLevel s.images level → c ≡ top → AreMarksOf [] before
    → IsWalkedSubtree s.spares level s.images c before after count → IsCountedTree s after count
counted s level c before after count is at clear w =
    let low : level < max_height = is.0 in
    let same : level ≡ (level + 1) - 1 = omega arith in
    counted_at s (level + 1) before after count (omega arith) (higher level low) clear
    (subst (λ (l : ℕ). IsWalkedSubtree s.spares l s.images top before after count) same (subst (λ (d : Child). IsWalkedSubtree s.spares level s.images d before after count) at w))
  where
    higher : (level : ℕ) → level < max_height → level + 1 ≤ max_height
    higher level h = omega arith
