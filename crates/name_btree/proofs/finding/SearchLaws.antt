-- The search for the page that breaks a table.
use Rattle.std.proofs.Common.{◌≡◌, ◌⊎◌, inl, inr, ℕ, zero, suc, ◌-◌, ◌<◌, ◌≤◌, Bool, true, false, List, [], ◌∷◌, ◌++◌, length, map, take, replicate, Some, None, refl, sym, ap, subst, ◌∙◌, arith}
use Rattle.std.specs.Prelude.{get_or, slice_set}
use Rattle.std.specs.List.{AllByRecursion}
use Rattle.std.proofs.lemmas.Bool.{cases_lt}
use Rattle.std.proofs.lemmas.List.{append-nil, length-set, length-replicate, get_or-replicate, take-replicate}
use Rattle.std.proofs.lemmas.Option.{slice_get-get_or}
use Rattle.run_table.specs.Space.{all_differ}
use Rattle.run_table.proofs.SectorLaws.{each_in}
use Rattle.fsd_bytes.specs.declared.refusal.Refusal.{Refusal}
use Rattle.fsd_bytes.specs.declared.refusal.Refusal.TheVariants.{Unsound, NameTableFull}
use Rattle.fsd_formats.specs.NamePage.{read_page}
use Rattle.fsd_table.specs.Pages.{page_at}
use Rattle.fsd_table.specs.Table.{Visit, visits, visits_below, max_height, top, BreaksTable}
use Rattle.fsd_table.specs.Tree.{pages_of, table_of, IsTree}
use Rattle.fsd_formats.specs.declared.entry.Entry.{Entry}
use Rattle.fsd_table.proofs.VisitLaws.{visited_pages}
use Rattle.fsd_table.proofs.BreakLaws.{tree_unbroken}
use Rattle.fsd_forest.specs.Forest.{Keep}
use Rattle.fsd_forest.proofs.KeepLaws.{kept_below}
use Rattle.name_page.specs.declared.pages.Pages.{Ghosts}
use Rattle.name_page.specs.Looks.{Agrees}
use Rattle.name_page.specs.Pages.{Step, home_sector, is_spare, IsOuter, IsBarred}
use Rattle.name_page.proofs.LookLaws.{agrees_now}
use Rattle.name_page.proofs.NodeLaws.{past_end}
use Rattle.name_btree.specs.declared.fault.TreeFault.{TreeFault}
use Rattle.name_btree.specs.declared.fault.TreeFault.TheVariants.{Pages, Broken}
use Rattle.name_btree.specs.Fault.{outer_of, IsCaused, HasTreeCause, FailsBy, BarsTable, FailsTable, FailsTree, IsNoTree, IsNoUsedTree, is_inner}
use Rattle.name_btree.specs.Walk.{AreMarksOf}
use Rattle.name_btree.proofs.steps.CauseLaws.{cause_map}
use Rattle.name_btree.proofs.drafts.SetLaws.{set_at, set_other, at_other}

-- ---- no page is marked

unmarked : (n : ℕ) → AreMarksOf [] (replicate n false)
unmarked n = λ page low.
    let within : page < n = subst (λ (k : ℕ). page < k) (length-replicate n false) low in
    slice_get-get_or (replicate n false) page false low ∙ ap Some (get_or-replicate n page false false within)

pub clear_front : (most n : ℕ) → n ≤ most → AreMarksOf [] (take n (replicate most false))
clear_front most n low = subst (AreMarksOf []) (sym (take-replicate n most false low)) (unmarked n)

-- ---- what is no tree

abbrev IsFree : List Bool → Visit → Type 0
IsFree spares v = is_spare spares v.page ≡ false

pub each_at : (P : Visit → Type 0) (xs : List Visit) (i : ℕ) (d : Visit) → i < length xs → AllByRecursion P xs → P (get_or xs i d)
each_at P [] i d low all = absurd (omega (arith, low))
each_at P (v ∷ xs) zero d low all = all.0
each_at P (v ∷ xs) (suc i) d low all = each_at P xs i d (omega (arith, low)) all.1

none_spare : (spares : List Bool) (xs : List Visit) → AllByRecursion (λ page. is_spare spares page ≡ false) (map (λ v. v.page) xs) → AllByRecursion (IsFree spares) xs
none_spare spares [] h = tt
none_spare spares (v ∷ xs) h = (h.0, none_spare spares xs h.1)

visits_used : (s : Step) (height : ℕ) → IsTree s.images height → AllByRecursion (λ page. is_spare s.spares page ≡ false) (pages_of s.images height) → AllByRecursion (IsFree s.spares) (visits s.images)
unfolding visits
visits_used s height t used =
    let all : List Visit = visits_below (suc max_height) s.images 1 top in
    let P : List ℕ → Type 0 = λ (ps : List ℕ). AllByRecursion (λ page. is_spare s.spares page ≡ false) ps in
    let is : map (λ (v : Visit). v.page) (all ++ []) ≡ pages_of s.images height ++ [] = visited_pages (height - 1) (suc max_height) 1 s.images (top ∷ []) (low height t.most) (t.subtree, tt) in
    let same : pages_of s.images height ≡ map (λ (v : Visit). v.page) all = sym (append-nil (pages_of s.images height)) ∙ sym is ∙ ap (map (λ (v : Visit). v.page)) (append-nil all) in
    none_spare s.spares all (subst P same used)
  where
    low : (height : ℕ) → height ≤ max_height → height - 1 < suc max_height
    low height h = omega arith

-- where a page breaks the table, or is spare and a path reaches it
pub barred_tree : (s : Step) (page : ℕ) → BarsTable s page → IsNoUsedTree s
barred_tree s page (inl breaks) = λ height t used. tree_unbroken s.images height page t breaks
barred_tree s page (inr h) = λ height t used.
    let free : is_spare s.spares (get_or (visits s.images) h.1.1.0 h.1.0).page ≡ false = each_at (IsFree s.spares) (visits s.images) h.1.1.0 h.1.0 h.1.1.1 (visits_used s height t used) in
    let here : is_spare s.spares page ≡ false = subst (λ (p : ℕ). is_spare s.spares p ≡ false) h.1.2 (subst (λ (v : Visit). is_spare s.spares v.page ≡ false) h.1.1.2 free) in
    let spare : is_spare s.spares page ≡ true = h.0 in
    cc

pub fails_tree : {D : Type 0} (P : Ghosts D) (new : D) (fault : TreeFault) → HasTreeCause (P.step new) (BreaksTable (P.step new).images) (BarsTable (P.step new)) fault → FailsTree P new fault
fails_tree P new fault h =
    let s = P.step new in
    cause_map s (BreaksTable s.images) (λ page. P.trusted new → IsNoUsedTree s) (BarsTable s) (λ page. P.trusted new → IsNoUsedTree s)
    (λ page x t. barred_tree s page (inl x)) (λ page x t. barred_tree s page x) fault h

-- ---- the search

module _ {D : Type 0} (P : Ghosts D) (old : D) where
  pub inner_broken : (fault : TreeFault) → FailsTree P old fault → is_inner fault ≡ true → P.trusted old → IsNoUsedTree (P.step old)
  inner_broken (Broken page) h is = h
  inner_broken (Pages refusal) h is = by h.1
    where
      outside : (r : Refusal) → IsOuter r → is_inner (Pages r) ≡ true → ⊥
      outside (Unsound s) h is = let no : None ≡ Some (Unsound s) = h in cc
      outside r h is = let no : false ≡ true = is in cc

      by : IsCaused (P.step old) (λ page. P.trusted old → IsNoUsedTree (P.step old)) refusal → P.trusted old → IsNoUsedTree (P.step old)
      by (inl x) = absurd (outside refusal x is)
      by (inr x) = x.2

  pub outer_fails : (fault : TreeFault) → FailsTree P old fault → is_inner fault ≡ false → FailsTable P old fault
  outer_fails (Broken page) h is = absurd (let same : true ≡ false = is in cc)
  outer_fails (Pages refusal) h is = (h.0, by h.1)
    where
      by : IsCaused (P.step old) (λ page. P.trusted old → IsNoUsedTree (P.step old)) refusal → IsCaused (P.step old) (λ page. P.trusted old → BarsTable (P.step old) page) refusal
      by (inl x) = inl x
      by (inr x) = absurd (let same : true ≡ false = sym (ap (λ (r : Refusal). is_inner (Pages r)) x.1) ∙ is in cc)

-- a fault of the pages tells nothing from outside
pub inner_untold : (fault : TreeFault) → is_inner fault ≡ true → outer_of fault ≡ None
inner_untold (Broken page) is = refl
inner_untold (Pages (Unsound s)) is = refl
inner_untold (Pages refusal) is = absurd (let no : false ≡ true = is in cc)

-- ---- a page that is refused, as if the grammar refused it

blank : (page p : ℕ) → read_page page p [] ≡ None
blank page p = refl

module _ (s : Step) (page : ℕ) (spare : is_spare s.spares page ≡ true) where
  abbrev blanked : List (List ℕ)
  blanked = slice_set s.images page []

  blanked_none : page_at blanked page ≡ None
  blanked_none = by (cases_lt page (length s.images))
    where
      by : (page < length s.images) ⊎ (length s.images ≤ page) → page_at blanked page ≡ None
      by (inl low) = set_at s.images page [] low ∙ blank page (length s.images)
      by (inr past) = past_end blanked page (subst (λ (n : ℕ). n ≤ page) (sym (length-set s.images page [])) past)

  blanked_agrees : Agrees blanked s
  blanked_agrees = record { count = length-set s.images page []; reached = λ q is used. set_other s.images page q [] (λ e. let both : true ≡ false = sym spare ∙ ap (λ (x : ℕ). is_spare s.spares x) (sym e) ∙ used in cc) }

  -- a tree none of whose pages is spare is one with that page blank too
  blanked_tree : (height : ℕ) → IsTree s.images height → AllByRecursion (λ q. is_spare s.spares q ≡ false) (pages_of s.images height) → IsTree blanked height
  blanked_tree height t used =
      let keep : Keep s.images blanked (pages_of s.images height) = λ q there.
      let free : is_spare s.spares q ≡ false = each_in (λ x. is_spare s.spares x ≡ false) (pages_of s.images height) q used there in
      at_other s.images page q [] (λ e. let both : true ≡ false = sym spare ∙ ap (λ (x : ℕ). is_spare s.spares x) (sym e) ∙ free in cc) in
      let same = kept_below s.images blanked (height - 1) top keep t.subtree in
      record { least = t.least; most = t.most; subtree = same.subtree; apart = subst (λ (ps : List ℕ). all_differ ps ≡ true) (sym same.reached) t.apart }

  blanked_table : (height : ℕ) → IsTree s.images height → AllByRecursion (λ q. is_spare s.spares q ≡ false) (pages_of s.images height) → table_of blanked height ≡ table_of s.images height
  blanked_table height t used =
      let keep : Keep s.images blanked (pages_of s.images height) = λ q there.
      let free : is_spare s.spares q ≡ false = each_in (λ x. is_spare s.spares x ≡ false) (pages_of s.images height) q used there in
      at_other s.images page q [] (λ e. let both : true ≡ false = sym spare ∙ ap (λ (x : ℕ). is_spare s.spares x) (sym e) ∙ free in cc) in
      (kept_below s.images blanked (height - 1) top keep t.subtree).entries

-- what was reached shows no tree of which this is so
pub shown_with : {D : Type 0} (P : Ghosts D) (new : D) (Q : List Entry → Type 0) (fault : TreeFault) → FailsBy (P.step new) (λ images page. (height : ℕ) → IsTree images height → Q (table_of images height) → ⊥) fault
    → (P.trusted new → (height : ℕ) → IsTree (P.step new).images height → Q (table_of (P.step new).images height))
    → FailsTree P new fault
shown_with P new Q (Broken page) h is = λ t height tree used. h (P.step new).images (agrees_now (P.step new)) height tree (is t height tree)
shown_with P new Q (Pages refusal) h is = (h.0, by h.1)
  where
    s : Step
    s = P.step new

    Never : List (List ℕ) → Type 0
    Never images = (height : ℕ) → IsTree images height → Q (table_of images height) → ⊥

    bars : P.trusted new → (page : ℕ) → IsBarred s page → ((images : List (List ℕ)) → Agrees images s → page_at images page ≡ None → Never images) → IsNoUsedTree s
    bars t page (inl spare) f = λ height tree used.
        f (blanked s page spare) (blanked_agrees s page spare) (blanked_none s page spare) height (blanked_tree s page spare height tree used) (subst Q (sym (blanked_table s page spare height tree used)) (is t height tree))
    bars t page (inr none) f = λ height tree used. f s.images (agrees_now s) none height tree (is t height tree)

    by : IsOuter refusal ⊎ ((page : ℕ) × (refusal ≡ Unsound (home_sector s page)) × IsBarred s page × ((images : List (List ℕ)) → Agrees images s → page_at images page ≡ None → Never images))
        → IsCaused s (λ page. P.trusted new → IsNoUsedTree s) refusal
    by (inl x) = inl x
    by (inr x) = inr (x.0, x.1, λ t. bars t x.0 x.2 x.3)

-- such a fault is no want of spare pages
pub not_full : {D : Type 0} (P : Ghosts D) (b : D) (n : ℕ) → FailsTable P b (Pages (NameTableFull n)) → ⊥
not_full P b n h = by h.1
  where
    by : IsCaused (P.step b) (λ page. P.trusted b → BarsTable (P.step b) page) (NameTableFull n) → ⊥
    by (inl x) = let no : None ≡ Some (NameTableFull n) = x in cc
    by (inr x) = let no = x.1 in absurd cc

-- what was reached shows no tree
pub shown_tree : {D : Type 0} (P : Ghosts D) (new : D) (fault : TreeFault) → FailsBy (P.step new) (λ images page. IsNoTree images) fault
    → FailsTree P new fault
shown_tree P new (Broken page) h = λ t height tree used. h (P.step new).images (agrees_now (P.step new)) height tree
shown_tree P new (Pages refusal) h = (h.0, by h.1)
  where
    s : Step
    s = P.step new

    bars : (page : ℕ) → IsBarred s page → ((images : List (List ℕ)) → Agrees images s → page_at images page ≡ None → IsNoTree images) → IsNoUsedTree s
    bars page (inl spare) f = λ height tree used. f (blanked s page spare) (blanked_agrees s page spare) (blanked_none s page spare) height (blanked_tree s page spare height tree used)
    bars page (inr none) f = λ height tree used. f s.images (agrees_now s) none height tree

    by : IsOuter refusal ⊎ ((page : ℕ) × (refusal ≡ Unsound (home_sector s page)) × IsBarred s page × ((images : List (List ℕ)) → Agrees images s → page_at images page ≡ None → IsNoTree images))
        → IsCaused s (λ page. P.trusted new → IsNoUsedTree s) refusal
    by (inl x) = inl x
    by (inr x) = inr (x.0, x.1, λ t. bars x.0 x.2 x.3)
