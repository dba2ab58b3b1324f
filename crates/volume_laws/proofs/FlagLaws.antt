-- The flags of a volume's name pages, where all pages beside its tree are free.
use Rattle.std.proofs.Common.{◌≡◌, ℕ, ◌+◌, ◌-◌, ◌<◌, Bool, true, false, not, ◌||◌, List, [], ◌∷◌, length, filter, map, refl, ap, ◌∙◌, arith}
use Rattle.std.specs.Prelude.{slice_index_or, ◌==◌}
use Rattle.std.specs.List.{list_any}
use Rattle.std.proofs.lemmas.List.FromFn.{length-range_with_len}
use Rattle.run_table.specs.Space.{contains, where_free}
use Rattle.run_table.proofs.SectorLaws.{each_in}
use Rattle.sector_set.proofs.CountLaws.{count_of_list, split_where}
use Rattle.sector_set.proofs.FreeLaws.{where_same}
use Rattle.fsd_forest.proofs.LowLaws.{all_within}
use Rattle.fsd_table.specs.Table.{Visit, top, visits}
use Rattle.fsd_table.specs.Tree.{IsTree, pages_of}
use Rattle.cached_table.specs.Opening.{is_reached}
use Rattle.table_survey.proofs.VisitLaws.{tree_pages}

-- ---- the pages that are reached

any_mapped : (page : ℕ) (all : List Visit) → list_any (λ visit. visit.page == page) all ≡ contains (map (λ v. v.page) all) page
any_mapped page [] = refl
any_mapped page (v ∷ all) = ap (λ (b : Bool). (v.page == page) || b) (any_mapped page all)

pub reached_is : (pages : List (List ℕ)) (height page : ℕ) → IsTree pages height → is_reached pages page ≡ contains (pages_of pages height) page
reached_is pages height page tree = any_mapped page (visits pages) ∙ ap (λ (xs : List ℕ). contains xs page) (tree_pages pages height tree)

-- ---- how many are free

pub all_pass : (xs : List ℕ) → filter (λ s. true) xs ≡ xs
all_pass [] = refl
all_pass (x ∷ xs) = ap (λ (ys : List ℕ). x ∷ ys) (all_pass xs)

-- of so many places those that are none of a tree's pages
left_over : (pages : List (List ℕ)) (height : ℕ) → IsTree pages height → length (where_free (λ page. not (contains (pages_of pages height) page)) 0 (length pages)) ≡ length pages - length (pages_of pages height)
left_over pages height tree =
    let n = length pages in
    let reached : List ℕ = pages_of pages height in
    let within : (page : ℕ) → contains reached page ≡ true → page < n = λ page there. each_in (λ p. p < n) reached page (all_within (height - 1) pages top tree.subtree) there in
    let all : length (where_free (λ page. true) 0 n) ≡ n = ap length (all_pass _) ∙ length-range_with_len 0 (n - 0) ∙ omega arith in
    let these : length (where_free (contains reached) 0 n) ≡ length reached = count_of_list reached 0 n tree.apart (λ page there. (omega arith, within page there)) in
    let both : length (where_free (λ page. true) 0 n) ≡ length (where_free (contains reached) 0 n) + length (where_free (λ page. not (contains reached page)) 0 n) = split_where (λ page. true) (contains reached) 0 n in
    omega (arith, all, these, both)

pub free_flags : (flags : List Bool) (pages : List (List ℕ)) (height : ℕ) → IsTree pages height → length flags ≡ length pages
    → ((page : ℕ) → page < length pages → slice_index_or flags page false ≡ not (contains (pages_of pages height) page))
    → length (where_free (λ page. slice_index_or flags page false) 0 (length flags)) ≡ length pages - length (pages_of pages height)
free_flags flags pages height tree size free =
    ap length (where_same (λ page. slice_index_or flags page false) (λ page. not (contains (pages_of pages height) page)) 0 (length flags) (λ page low high. free page (omega (arith, high, size))))
    ∙ ap (λ (n : ℕ). length (where_free (λ page. not (contains (pages_of pages height) page)) 0 n)) size
    ∙ left_over pages height tree
