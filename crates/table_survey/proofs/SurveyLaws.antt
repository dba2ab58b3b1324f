-- What a survey shows.
use Rattle.std.proofs.Common.{◌≡◌, inl, inr, ℕ, ◌-◌, ◌<◌, Bool, true, List, length, sym, ap, subst, ◌∙◌}
use Rattle.std.specs.Prelude.{count_by}
use Rattle.std.specs.List.{AllByRecursion}
use Rattle.volume_layout.specs.declared.layout.Layout.{Layout}
use Rattle.run_table.specs.Space.{contains}
use Rattle.run_table.proofs.SectorLaws.{each_in}
use Rattle.fsd_formats.specs.declared.entry.Entry.{Entry}
use Rattle.fsd_table.specs.Breaks.{Breaks, entry_clashes}
use Rattle.fsd_table.specs.Table.{visits, top}
use Rattle.fsd_table.specs.Tree.{IsTree, table_of, pages_of}
use Rattle.fsd_table.proofs.BreakLaws.{tree_unbroken}
use Rattle.fsd_table.proofs.VisitLaws.{tree_told}
use Rattle.fsd_forest.proofs.LowLaws.{all_within}
use Rattle.name_page.specs.Pages.{Step}
use Rattle.name_btree.specs.Walk.{AreMarksOf, IsUsed, IsCountedTree}
use Rattle.sector_set.specs.Area.{Area}
use Rattle.table_survey.specs.Claims.{IsClaimed, whole_area}
use Rattle.table_survey.specs.Survey.{IsSurveyed}
use Rattle.table_survey.proofs.ClaimLaws.{Among, claimed_apart, claimed_left, claimed_fit}
use Rattle.table_survey.proofs.VisitLaws.{among_all, tree_entries, tree_pages, marks_count}

-- claims over images that stayed as they were
pub claims_then : (l : Layout) (old free : Area) (was now : List (List ℕ)) → now ≡ was → old ≡ whole_area l → ((height : ℕ) → IsTree now height → IsClaimed old (table_of now height) free)
    → (height : ℕ) → IsTree was height → IsClaimed (whole_area l) (table_of was height) free
claims_then l old free was now same whole claims height tree =
    subst (λ (m : Area). IsClaimed m (table_of was height) free) whole
    (subst (λ (pages : List (List ℕ)). IsClaimed old (table_of pages height) free) same (claims height (subst (λ (pages : List (List ℕ)). IsTree pages height) (sym same) tree)))

module _ (l : Layout) (step : Step) (marks : List Bool) (free : Area) (versions : ℕ) (counted : IsCountedTree step marks versions)
    (claims : (height : ℕ) → IsTree step.images height → IsClaimed (whole_area l) (table_of step.images height) free) where
  abbrev table : List Entry
  table = table_of step.images counted.height

  abbrev reached : List ℕ
  reached = pages_of step.images counted.height

  pub surveyed : (pages : ℕ) → length marks ≡ length step.images → pages ≡ count_by (λ mark. mark) marks → IsSurveyed l step free marks (record { pages = pages; versions = versions })
  surveyed pages whole count =
      let t = counted.tree in
      let c = claims counted.height t in
      let inside : (page : ℕ) → contains reached page ≡ true → page < length marks =
      λ page there. subst (λ (n : ℕ). page < n) (sym whole) (each_in (λ p. p < length step.images) reached page (all_within (counted.height - 1) step.images top t.subtree) there) in
      record {
        telling = record { entries = table; reached = length reached };
        told = tree_told step.images counted.height t;
        pages = sym (count ∙ marks_count reached marks t.apart inside counted.marks_are);
        versions = sym counted.count_is;
        marked = subst (λ (xs : List ℕ). AreMarksOf xs marks) (sym (tree_pages step.images counted.height t)) counted.marks_are;
        used = subst (AllByRecursion (IsUsed step.spares)) (sym (tree_pages step.images counted.height t)) counted.used;
        apart = claimed_apart l table free c;
        left = claimed_left l table free c;
      }

  pub unbroken : (page : ℕ) → Breaks l step.images page → ⊥
  unbroken page (inl b) = tree_unbroken step.images counted.height page counted.tree b
  unbroken page (inr b) =
      let same = tree_entries step.images counted.height counted.tree in
      claimed_fit l table free b.entry (claims counted.height counted.tree)
      (subst (Among b.entry) same (among_all (visits step.images) b.visit b.entry b.reached b.has))
      (ap (λ (xs : List Entry). entry_clashes l xs b.entry) (sym same) ∙ b.clash)
