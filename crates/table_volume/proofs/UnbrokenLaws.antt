-- Pages that tell entries whose sectors lie apart are broken by none.
use Rattle.std.proofs.Common.{◌≡◌, inl, inr, ℕ, ◌&&◌, true, not, List, Some, refl, sym, ap, subst, ◌∙◌}
use Rattle.std.specs.Prelude.{nat_le, nat_lt}
use Rattle.std.specs.List.{flat_map, list_all}
use Rattle.std.proofs.lemmas.Bool.{and_parts, leb-true, ltb-true}
use Rattle.volume_layout.specs.declared.layout.Layout.{Layout}
use Rattle.volume_layout.specs.Layout.{data_start, is_data, most_of, IsPlanned}
use Rattle.run_table.specs.RunTable.{sectors_of}
use Rattle.run_table.specs.Space.{all_differ, contains}
use Rattle.run_table.proofs.SectorLaws.{all_in}
use Rattle.sector_set.specs.Area.{area}
use Rattle.fsd_formats.specs.declared.entry.Entry.{Entry}
use Rattle.fsd_table.specs.Breaks.{Breaks, entry_clashes}
use Rattle.fsd_table.specs.Table.{Telling, entries_in, told_in, visits}
use Rattle.fsd_table.proofs.ToldLaws.{broken_tells_nothing}
use Rattle.fsd_table.proofs.TreeLaws.{told_tree}
use Rattle.fsd_table.proofs.VisitLaws.{tree_told}
use Rattle.fsd_files.specs.Space.{Apart}
use Rattle.fsd_files.specs.Volume.{is_in, plans_of}
use Rattle.table_survey.specs.Claims.{IsClaimed, whole_area}
use Rattle.table_survey.proofs.ClaimLaws.{Among, claimed_fit}
use Rattle.table_survey.proofs.DataLaws.{data_at}
use Rattle.table_survey.proofs.VisitLaws.{among_all, tree_entries}

-- entries whose sectors lie apart are as if they were claimed
apart_claimed : (l : Layout) → IsPlanned l → (entries : List Entry) → Apart l (plans_of entries) → IsClaimed (whole_area l) entries (area (data_start l) (most_of l) (λ s. contains (whole_area l).sectors s && not (is_in (plans_of entries) s)))
apart_claimed l planned entries apart =
    let all : List ℕ = flat_map sectors_of (plans_of entries) in
    let parts = and_parts (all_differ all) (list_all (is_data l) all) apart in
    record {
      differ = parts.0;
      inside = λ s there.
          let inside = and_parts (nat_le (data_start l) s) (nat_lt s l.sectors) (all_in (is_data l) all s parts.1 there) in
          data_at l planned (λ t. true) s (leb-true (data_start l) s inside.0) (ltb-true s l.sectors inside.1);
      left = refl;
    }

module _ (l : Layout) (planned : IsPlanned l) (pages : List (List ℕ)) (t : Telling) (told : told_in pages ≡ Some t) (apart : Apart l (plans_of t.entries)) where
  entries_are : entries_in (visits pages) ≡ t.entries
  entries_are =
      let tree = told_tree pages t told in
      let same : Some t ≡ Some _ = sym told ∙ tree_told pages tree.0 tree.1 in
      tree_entries pages tree.0 tree.1 ∙ sym (some_entries t _ same)
    where
      some_entries : (x y : Telling) → Some x ≡ Some y → x.entries ≡ y.entries
      some_entries x y e = ap (λ (z : Telling). z.entries) (let same : x ≡ y = cc e in same)

  pub told_unbroken : (page : ℕ) → Breaks l pages page → ⊥
  told_unbroken page (inl broken) = absurd (let none = broken_tells_nothing pages page broken in cc (none, told))
  told_unbroken page (inr broken) =
      claimed_fit l t.entries (area (data_start l) (most_of l) (λ s. contains (whole_area l).sectors s && not (is_in (plans_of t.entries) s))) broken.entry (apart_claimed l planned t.entries apart)
      (subst (Among broken.entry) entries_are (among_all (visits pages) broken.visit broken.entry broken.reached broken.has))
      (ap (λ (xs : List Entry). entry_clashes l xs broken.entry) (sym entries_are) ∙ broken.clash)
