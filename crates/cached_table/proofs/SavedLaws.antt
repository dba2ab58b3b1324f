-- A saved map and its counts are those that a survey of the table gives.
use Rattle.std.proofs.Common.{◌≡◌, ℕ, ◌+◌, ◌-◌, ◌<◌, Bool, true, false, not, List, length, map, Some, refl, sym, ap, subst, ◌∙◌, arith}
use Rattle.std.specs.Prelude.{count_by, slice_index_or}
use Rattle.std.proofs.lemmas.Bool.{and_from, le-leb, lt-ltb}
use Rattle.std.proofs.lemmas.List.{get_or-map, length-map}
use Rattle.std.proofs.lemmas.Option.{slice_get-get_or}
use Rattle.volume_layout.specs.declared.layout.Layout.{Layout}
use Rattle.volume_layout.specs.Layout.{data_start, home_a}
use Rattle.run_table.specs.Space.{contains}
use Rattle.run_table.proofs.SectorLaws.{each_in}
use Rattle.fsd_formats.specs.SavedMap.{MapCounts, is_set_in}
use Rattle.fsd_table.specs.Breaks.{Breaks}
use Rattle.fsd_table.specs.Table.{Telling, top, visits}
use Rattle.fsd_table.specs.Tree.{IsTree, pages_of, table_of}
use Rattle.fsd_table.proofs.TreeLaws.{told_tree}
use Rattle.fsd_table.proofs.VisitLaws.{tree_told}
use Rattle.fsd_files.specs.Space.{Apart}
use Rattle.fsd_files.specs.Volume.{is_in, plans_of}
use Rattle.fsd_forest.proofs.LowLaws.{all_within}
use Rattle.fsd_sound.specs.Saved.{AreSaved, is_reached}
use Rattle.page_cache.specs.Cache.{CacheValue, cached_bytes, no_pages}
use Rattle.table_survey.specs.Claims.{data_area}
use Rattle.table_survey.proofs.DataLaws.{data_same}
use Rattle.table_survey.proofs.VisitLaws.{marks_count, tree_pages}
use Rattle.cached_table.specs.declared.opening.Opened.{Opened}
use Rattle.cached_table.specs.Opening.{IsTableOf, frames}
use Rattle.cached_table.proofs.OpeningLaws.{any_page, others}

not_not : (b : Bool) → not (not b) ≡ b
not_not true = refl
not_not false = refl

module _ (l : Layout) (counts : MapCounts) (sectors pages : List (List ℕ)) (saved : AreSaved l counts sectors pages) (size : length pages ≡ l.pages) where
  abbrev height : ℕ
  height = (told_tree pages saved.telling saved.told).0

  tree : IsTree pages height
  tree = (told_tree pages saved.telling saved.told).1

  abbrev reached : List ℕ
  reached = pages_of pages height

  reached_many : saved.telling.reached ≡ length reached
  reached_many =
      let t : Telling = record { entries = table_of pages height; reached = length reached } in
      let given : Some saved.telling ≡ Some t = sym saved.told ∙ tree_told pages height tree in
      let same : saved.telling ≡ t = cc given in
      ap (λ (x : Telling). x.reached) same

  reached_is : (page : ℕ) → is_reached pages page ≡ contains reached page
  reached_is page = sym (any_page page (visits pages)) ∙ ap (λ (xs : List ℕ). contains xs page) (tree_pages pages height tree)

  -- the pages that no path reaches are the others
  spare_pages : (flags : List Bool) → length flags ≡ l.pages → ((page : ℕ) → page < l.pages → slice_index_or flags page false ≡ is_set_in sectors (home_a l page)) → count_by (λ b. b) flags + saved.telling.reached ≡ l.pages
  spare_pages flags long each =
      let many : length (map not flags) ≡ length flags = length-map flags not in
      let flag : (page : ℕ) → page < length flags → slice_index_or (map not flags) page false ≡ not (slice_index_or flags page false) = λ page lt. get_or-map not flags page false false lt in
      let counted : count_by (λ b. b) (map not flags) ≡ length reached =
      marks_count reached (map not flags) tree.apart
      (λ page there. let within : page < length pages = each_in (λ p. p < length pages) reached page (all_within (height - 1) pages top tree.subtree) there in omega (arith, within, size, long, many))
      (λ page lt.
      let inside : page < length flags = omega (arith, lt, many) in
      let below : page < l.pages = omega (arith, inside, long) in
      slice_get-get_or (map not flags) page false lt
      ∙ ap (λ (b : Bool). Some b) (flag page inside ∙ ap not (each page below ∙ saved.spare page below) ∙ not_not (is_reached pages page) ∙ reached_is page)) in
      let all = others (map not flags) flags (sym many) (λ page lt. let inside : page < length flags = omega (arith, lt, many) in sym (not_not (slice_index_or flags page false)) ∙ ap not (sym (flag page inside))) in
      omega (arith, all, many, long, counted, reached_many)

  -- what is opened with them is what a survey opens
  pub saved_table : (o : Opened) → Apart l (plans_of saved.telling.entries) → ((page : ℕ) → Breaks l pages page → ⊥) → o.cache ≡ no_pages frames → o.versions ≡ counts.versions → o.map ≡ data_area l (is_set_in sectors)
      → length o.free_pages ≡ l.pages → ((page : ℕ) → page < l.pages → slice_index_or o.free_pages page false ≡ is_set_in sectors (home_a l page)) → IsTableOf l pages o
  saved_table o apart whole fresh versions free long flags = record {
    telling = saved.telling;
    told = saved.told;
    whole = whole;
    versions = saved.versions ∙ sym versions;
    apart = apart;
    map = free ∙ data_same l (is_set_in sectors) (λ s. not (is_in (plans_of saved.telling.entries) s)) (λ s low high. saved.free s (and_from _ _ (le-leb (data_start l) s low) (lt-ltb s l.sectors high)));
    free_pages = λ page lt. flags page lt ∙ saved.spare page lt;
    spare = spare_pages o.free_pages long flags;
    inside = λ page bytes there. absurd (none page bytes there);
    memory = λ page bytes there. absurd (none page bytes there);
  }
    where
      none : (page : ℕ) (bytes : List ℕ) → cached_bytes o.cache page ≡ Some bytes → ⊥
      none page bytes there = absurd (cc (subst (λ (c : CacheValue). cached_bytes c page ≡ Some bytes) fresh there))
