-- Pages that are to be written, over those that there are.
use Rattle.std.specs.Prelude.{◌≡◌, ◌⊎◌, ℕ, ◌+◌, ◌==◌, ◌&&◌, ◌||◌, not, true, false, List, [], ◌∷◌, length, Option, Some, None, IsSome, slice_set, if◌then◌else◌}
use Rattle.std.specs.List.{AllByRecursion}
use Rattle.std.specs.Option.{option_or}
use Rattle.run_table.specs.Space.{contains, all_differ}
use Rattle.fsd_bytes.specs.declared.key.Key.{Key}
use Rattle.fsd_formats.specs.NamePage.{Content, read_page}
use Rattle.fsd_table.specs.declared.child.Child.{Child}
use Rattle.fsd_table.specs.Pages.{content_fits, page_at}
use Rattle.fsd_table.specs.Tree.{pages_of, IsTree}
use Rattle.fsd_forest.specs.Forest.{Disjoint, TreeBecomes}
use Rattle.name_page.specs.Edits.{without}
use Rattle.name_page.specs.Looks.{IsAsChanged, ShowsEach}
use Rattle.name_page.specs.Pages.{Step, is_one_of, is_spare, with_one, with_page, with_spare, IsReached}
use Rattle.name_btree.specs.declared.draft.Draft.{Draft}
use Rattle.name_btree.specs.declared.draft.Sheet.{Sheet}

-- ---- what is written

-- the pages, once the sheets are written one after another
abbrev pub drafted : List Sheet → List (List ℕ) → List (List ℕ)
drafted [] pages = pages
drafted (s ∷ sheets) pages = drafted sheets (slice_set pages s.page s.image)

abbrev pub committed : List Sheet → Step → Step
committed [] step = step
committed (s ∷ sheets) step = committed sheets (with_page s.page s.image step)

-- the step, once the pages are spare
abbrev pub freed : List ℕ → Step → Step
freed [] step = step
freed (p ∷ pages) step = freed pages (with_spare p step)

-- the bytes of the last sheet of a page
abbrev pub last_sheet : ℕ → List Sheet → Option (List ℕ)
last_sheet page [] = None
last_sheet page (s ∷ sheets) = option_or (last_sheet page sheets) (if s.page == page then Some s.image else None)

-- a page that is to be written
abbrev pub HasSheet : List Sheet → ℕ → Type 0
HasSheet sheets page = IsSome (last_sheet page sheets)

-- ---- what a draft may have

-- a sheet of a page that was reached and isn't spare, with bytes that the grammar accepts
pub record IsSheet (step : Step) (s : Sheet) : Type 0 where
  pub reached : IsReached step s.page
  pub used : is_spare step.spares s.page ≡ false
  pub accepted : IsSome (read_page s.page (length step.images) s.image)

abbrev pub AreSheets : Step → List Sheet → Type 0
AreSheets step sheets = AllByRecursion (IsSheet step) sheets

-- a page that was reached and isn't spare, and isn't page 0
pub record MayGo (step : Step) (page : ℕ) : Type 0 where
  pub reached : IsReached step page
  pub used : is_spare step.spares page ≡ false
  pub inner : page ≡ 0 → ⊥

-- what is to be written may be, and what is to be spare too, each page once
pub record IsTreeDraft (step : Step) (d : Draft) : Type 0 where
  pub sheets : AreSheets step d.sheets.items
  pub freed : AllByRecursion (MayGo step) d.freed.items
  pub apart : all_differ d.freed.items ≡ true

-- the pages as they are to be
abbrev pub drafted_images : Draft → Step → List (List ℕ)
drafted_images d step = drafted d.sheets.items step.images

-- one page more is to be spare, but page 0 never is
abbrev pub with_freed : ℕ → List ℕ → List ℕ
with_freed page pages = if page == 0 then pages else with_one pages page

-- the page was reached, was not spare, and is to have this
pub record IsSeenPage (old new : Step) (sheets : List Sheet) (page : ℕ) (x : Content) : Type 0 where
  pub reached : IsReached new page
  pub used : is_spare old.spares page ≡ false
  pub node : ShowsEach new (λ pages. page_at (drafted sheets pages) page ≡ Some x)

-- so is that of a child, and its keys are to stand between the child's
pub record IsSeenChild (old new : Step) (sheets : List Sheet) (c : Child) (x : Content) : Type 0 where
  pub reached : IsReached new c.page
  pub used : is_spare old.spares c.page ≡ false
  pub node : ShowsEach new (λ pages. page_at (drafted sheets pages) c.page ≡ Some x)
  pub fits : content_fits c.low c.high (Some x) ≡ true

-- these pages were spare, and were taken
pub record WereTaken (old new : Step) (came : List ℕ) : Type 0 where
  pub spare : AllByRecursion (λ page. is_spare old.spares page ≡ true) came
  pub apart : all_differ came ≡ true
  pub spares : (page : ℕ) → is_spare new.spares page ≡ (is_spare old.spares page && not (contains came page))

-- the same, whatever the pages are
pub record IsDraftedOver (images : List (List ℕ)) (old new : List Sheet) (page : ℕ) (x : Content) : Type 0 where
  pub content : page_at (drafted new images) page ≡ Some x
  pub others : (q : ℕ) → (q ≡ page → ⊥) → page_at (drafted new images) q ≡ page_at (drafted old images) q

-- one sheet more: of the drafted pages this one has other content
pub record IsDrafted (step : Step) (old new : List Sheet) (page : ℕ) (x : Content) : Type 0 where
  pub one : length new ≡ length old + 1
  pub sheets : AreSheets step new
  pub content : page_at (drafted new step.images) page ≡ Some x
  pub others : (q : ℕ) → (q ≡ page → ⊥) → page_at (drafted new step.images) q ≡ page_at (drafted old step.images) q
  pub over : (images : List (List ℕ)) → length images ≡ length step.images → IsDraftedOver images old new page x
  pub own : HasSheet new page
  pub stay : (q : ℕ) → HasSheet old q → HasSheet new q

-- each page that is changed now was changed before and is as it was, or is to be written;
-- what was to be written still is
pub record TakesSheets (old new : Step) (sheets after : List Sheet) : Type 0 where
  pub each : (page : ℕ) → is_one_of new.changed page ≡ true → IsAsChanged old new page ⊎ HasSheet after page
  pub stay : (page : ℕ) → HasSheet sheets page → HasSheet after page

-- a tree without a key; the pages that went are to be spare
abbrev pub RemovesFrom : (images : List (List ℕ)) → (old new : Draft) → Key → Type 0
RemovesFrom images old new key =
    (height : ℕ) → IsTree (drafted old.sheets.items images) height → Disjoint (pages_of (drafted old.sheets.items images) height) old.freed.items
    → (went : List ℕ) × TreeBecomes (without key) (drafted old.sheets.items images) (drafted new.sheets.items images) [] went height × ((page : ℕ) → contains new.freed.items page ≡ (contains old.freed.items page || contains went page))
