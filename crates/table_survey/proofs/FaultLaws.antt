-- Why a survey fails.
use Rattle.std.proofs.Common.{◌≡◌, inl, inr, ℕ, true, List, Option, Some, sym, ap, subst, ◌∙◌}
use Rattle.std.specs.Prelude.{Contains}
use Rattle.volume_layout.specs.declared.layout.Layout.{Layout}
use Rattle.volume_layout.specs.Layout.{IsPlanned}
use Rattle.fsd_bytes.specs.declared.key.Key.{Key}
use Rattle.fsd_formats.specs.declared.entry.Entry.{Entry}
use Rattle.fsd_formats.specs.NamePage.{Content, Leaf}
use Rattle.fsd_table.specs.Breaks.{Breaks, entry_clashes}
use Rattle.fsd_table.specs.Pages.{page_at, entries_of}
use Rattle.fsd_table.specs.Table.{BreaksTable}
use Rattle.fsd_table.specs.Tree.{IsTree, table_of}
use Rattle.name_page.specs.declared.pages.Pages.{Ghosts}
use Rattle.name_page.specs.Lookups.{is_after}
use Rattle.name_btree.specs.declared.fault.TreeFault.{TreeFault}
use Rattle.name_btree.specs.declared.lookup.FoundEntry.{FoundEntry}
use Rattle.name_btree.specs.Fault.{HasTreeCause, BarsTable, IsOnWay}
use Rattle.name_btree.proofs.steps.CauseLaws.{cause_map}
use Rattle.sector_set.specs.Area.{Area, AreIn}
use Rattle.table_survey.specs.Claims.{whole_area, FailsClaims}
use Rattle.table_survey.proofs.ClaimLaws.{refused_clashes}
use Rattle.table_survey.proofs.PassLaws.{IsPassed, passed_less}
use Rattle.table_survey.proofs.VisitLaws.{visit_content, tree_entries}

-- an entry whose sectors are not all left breaks the table
pub claim_breaks : (l : Layout) → IsPlanned l → (pages : List (List ℕ)) (height : ℕ) → IsTree pages height → (after : Option Key) (now : Area) → IsPassed (table_of pages height) (whole_area l) after now
    → (f : FoundEntry) (entries : List Entry) → IsOnWay pages f.page → page_at pages f.page ≡ Some (Leaf entries) → Contains entries f.entry → is_after after f.entry.key ≡ true
    → (AreIn now f.entry.runs → ⊥) → Breaks l pages f.page
claim_breaks l planned pages height t after now p f entries way leaf there later unfit =
    let visit = way.0 in
    let content : visit.content ≡ Some (Leaf entries) = visit_content pages visit way.1 ∙ ap (page_at pages) way.2 ∙ leaf in
    inr (record {
      visit = visit;
      reached = way.1;
      page_is = way.2;
      entry = f.entry;
      has = subst (λ (x : Option Content). Contains (entries_of x) f.entry) (sym content) there;
      clash = ap (λ (xs : List Entry). entry_clashes l xs f.entry) (tree_entries pages height t ∙ p.parts)
          ∙ refused_clashes l planned p.done p.rest now f.entry p.claimed (passed_less after p.done f.entry p.passed later) unfit;
    })

module _ {D : Type 0} (P : Ghosts D) (new : D) (fault : TreeFault) where
  -- a look-up that fails
  pub look_up_fails : (old : Area) → HasTreeCause (P.step new) (BreaksTable (P.step new).images) (BarsTable (P.step new)) fault → FailsClaims P old new fault
  look_up_fails old h =
      let s = P.step new in
      cause_map s (BreaksTable s.images) (λ page. P.trusted new → (l : Layout) → IsPlanned l → old ≡ whole_area l → (height : ℕ) → IsTree s.images height → Breaks l s.images page)
      (BarsTable s) (λ page. P.trusted new → BarsTable s page) (λ page b t l planned is height tree. inl b) (λ page b t. b) fault h
