-- The path of a name in the cache, or all pages in use, and over its pages.
use Rattle.std.proofs.Common.{◌≡◌, ◌<◌, ℕ, zero, suc, Bool, true, false, cond, List, [], ◌∷◌, length, Option, Some, None, IsSome, refl, sym, ap, subst, ◌∙◌}
use Rattle.std.specs.Prelude.{option_and_then}
use Rattle.std.specs.Borrow.{MutBor}
use Rattle.std.specs.List.{AllByRecursion, list_any}
use Rattle.fsd_bytes.specs.declared.key.Key.{Key}
use Rattle.fsd_bytes.specs.declared.refusal.Refusal.{Refusal}
use Rattle.fsd_formats.specs.declared.page.Separator.{Separator}
use Rattle.fsd_formats.specs.NamePage.{Content, Free, Leaf, Interior, read_page}
use Rattle.fsd_table.proofs.BoundLaws.{all_weaker}
use Rattle.fsd_table.specs.Pages.{page_at}
use Rattle.fsd_table.specs.Table.{max_height}
use Rattle.fsd_forest.specs.Met.{is_up_to, met_at, met_below, pages_met, search_of}
use Rattle.sector_disk.specs.declared.machine.Machine.{Ghosts as MachineGhosts}
use Rattle.page_cache.specs.declared.source.PageSource.{Ghosts as SourceGhosts}
use Rattle.page_cache.specs.Cache.{CacheValue, IsResident, cached_bytes}
use Rattle.page_cache.proofs.KeepLaws.{bytes_resident}
use Rattle.name_page.specs.Pages.{NeedsNoMemory, is_spare}
use Rattle.page_cache.specs.Accepted.{cached_content}
use Rattle.table_pages.specs.Bringing.{given_by}
use Rattle.table_pages.specs.Table.{HasPage, IsOver, LeavesTable, step_of}
use Rattle.table_pages.specs.declared.table.Table.{Table}
use Rattle.table_pages.proofs.PinLaws.{only_there}
use Rattle.table_pages.proofs.StepLaws.{page_in, within_free}
use Rattle.cached_table.specs.Looking.{HasAllUsed, HasIn, HasPathIn}

-- ---- where what is met has the same elsewhere

module _ (In Other : ℕ → Type 0) where
  abbrev Grows : List ℕ → List ℕ → Type 0
  Grows xs ys = AllByRecursion In xs → AllByRecursion Other ys

  below_more : (down more : List ℕ → ℕ → List ℕ) (last rest : ℕ → List ℕ) (before : Key → Bool) (left beside : List ℕ) (first : ℕ) (separators : List Separator)
      → ((xs ys : List ℕ) (page : ℕ) → Grows xs ys → Grows (down xs page) (more ys page)) → ((page : ℕ) → Grows (last page) (rest page)) → Grows left beside
      → Grows (met_below down last before left first separators) (met_below more rest before beside first separators)
  below_more down more last rest before left beside first [] d l g = d left beside first g
  below_more down more last rest before left beside first (s ∷ separators) d l g =
      by (below_more down more last rest before (last first) (rest first) s.child separators d l (l first)) (before s.key)
    where
      by : Grows (met_below down last before (last first) s.child separators) (met_below more rest before (rest first) s.child separators) → (b : Bool)
          → Grows (cond b (met_below down last before (last first) s.child separators) (down left first)) (cond b (met_below more rest before (rest first) s.child separators) (more beside first))
      by later true = later
      by later false = d left beside first g

  at_more : (down more : List ℕ → ℕ → List ℕ) (last rest : ℕ → List ℕ) (before : Key → Bool) (left beside : List ℕ) (x : Option Content)
      → ((xs ys : List ℕ) (page : ℕ) → Grows xs ys → Grows (down xs page) (more ys page)) → ((page : ℕ) → Grows (last page) (rest page)) → Grows left beside
      → Grows (met_at down last before left x) (met_at more rest before beside x)
  at_more down more last rest before left beside None d l g h = tt
  at_more down more last rest before left beside (Some Free) d l g h = tt
  at_more down more last rest before left beside (Some (Interior first separators)) d l g h = below_more down more last rest before left beside first separators d l g h
  at_more down more last rest before left beside (Some (Leaf entries)) d l g h = by (list_any (λ e. before e.key) entries) h
    where
      by : (b : Bool) → Grows (cond b [] left) (cond b [] beside)
      by true h = tt
      by false h = g h

  module _ (at other : ℕ → Option Content) (same : (page : ℕ) → In page → Other page × (other page ≡ at page)) where
    met_more : (levels : ℕ) (before : Key → Bool) (left beside : List ℕ) (page : ℕ) → Grows left beside → Grows (pages_met levels at before left page) (pages_met levels other before beside page)
    met_more zero before left beside page g h = tt
    met_more (suc levels) before left beside page g h =
        let here = same page h.0 in (
          here.0,
          subst (λ (x : Option Content). AllByRecursion Other (met_at (pages_met levels other before) (pages_met levels other (λ key. true) []) before beside x)) (sym here.1)
              (at_more (pages_met levels at before) (pages_met levels other before) (pages_met levels at (λ key. true) []) (pages_met levels other (λ key. true) []) before left beside (at page)
              (λ xs ys p more. met_more levels before xs ys p more) (λ p. met_more levels (λ key. true) [] [] p (λ none. tt)) g h.1),
        )

    pub path_more : (name : List ℕ) → AllByRecursion In (search_of at name) → AllByRecursion Other (search_of other name)
    path_more name = met_more max_height (is_up_to name) [] [] 0 (λ none. tt)

-- ---- over a cache

content_there : (c : CacheValue) (count page : ℕ) → IsSome (cached_content c count page) → IsResident c page
content_there c count page some = bytes_resident c page (by (cached_bytes c page) some)
  where
    by : (o : Option (List ℕ)) → IsSome (option_and_then (read_page page count) o) → IsSome o
    by None h = h
    by (Some bytes) h = refl

module _ {D E : Type 0} {M : MachineGhosts D} {S : SourceGhosts E} where
  -- a page in the cache has by its bytes what it has by the images
  in_images : (t : Table D E M S) (page : ℕ) → HasPage t page → page_at (step_of t).images page ≡ cached_content t.cache.now (length t.free.now) page
  in_images t page is = page_in t.cache.now (given_by M S t.source.now t.m.now) (length t.free.now) page is.1 is.0

  -- a page that is there, and has something
  abbrev Seen : Table D E M S → ℕ → Type 0
  Seen t page = HasPage t page × IsSome (page_at (step_of t).images page)

  module _ {m : MutBor D} {cache : MutBor CacheValue} {source : E} {free : MutBor (List Bool)} {a : Table D E M S} (over : IsOver m cache source free a) (name : List ℕ) where
    seen_first : HasPathIn (length free.now) name cache.now → AllByRecursion (Seen a) (search_of (page_at (step_of a).images) name)
    seen_first has =
        let count = length a.free.now in
        let here : HasPathIn count name a.cache.now =
        subst (λ (f : MutBor (List Bool)). HasPathIn (length f.now) name a.cache.now) (sym over.spared) (subst (λ (x : MutBor CacheValue). HasPathIn (length free.now) name x.now) (sym over.cached) has) in
        path_more (HasIn a.cache.now count) (Seen a) (cached_content a.cache.now count) (page_at (step_of a).images)
        (λ page is. let there : HasPage a page = (is.0, content_there a.cache.now count page is.1) in let same = in_images a page there in ((there, subst (λ (o : Option Content). IsSome o) (sym same) is.1), same)) name here.all

    -- as the pages see it
    pub path_first : HasPathIn (length free.now) name cache.now → AllByRecursion (HasPage a) (search_of (page_at (step_of a).images) name)
    path_first has = all_weaker (Seen a) (HasPage a) (search_of (page_at (step_of a).images) name) (λ page is. is.0) (seen_first has)

    -- it is still there once a look-up that needed no memory has ended
    pub path_left : {refusal : Option Refusal} {b : Table D E M S} {m' : D} {cache' : CacheValue} {free' : List Bool} → LeavesTable b m' cache' free' → (AllByRecursion (HasPage a) (search_of (page_at (step_of a).images) name) → NeedsNoMemory step_of HasPage refusal a b)
        → HasPathIn (length free.now) name cache.now → HasPathIn (length free.now) name cache'
    path_left {b = b} {cache' = cache'} left looked has =
        let met = looked (path_first has) in
        let path : List (List ℕ) → List ℕ = λ (pages : List (List ℕ)). search_of (page_at pages) name in
        let later : (page : ℕ) → Seen a page → Seen b page = λ page is. (met.stays page is.0, subst (λ (pages : List (List ℕ)). IsSome (page_at pages page)) (sym met.images) is.1) in
        let there = subst (λ (pages : List (List ℕ)). AllByRecursion (Seen b) (path pages)) (sym met.images) (all_weaker (Seen a) (Seen b) (path (step_of a).images) later (seen_first has)) in
        let count = length b.free.now in
        let last : HasPathIn count name cache' = record {
          all = path_more (Seen b) (HasIn cache' count) (page_at (step_of b).images) (cached_content cache' count)
              (λ page is.
              let same : page_at (step_of b).images page ≡ cached_content cache' count page = in_images b page is.0 ∙ ap (option_and_then (read_page page count)) (sym (left.pins.bytes page)) in
              ((is.0.0, subst (λ (o : Option Content). IsSome o) same is.1), sym same)) name there;
        } in
        let same : b.free.now ≡ free.now = met.spares ∙ ap (λ (f : MutBor (List Bool)). f.now) over.spared in
        subst (λ (f : List Bool). HasPathIn (length f) name cache') same last

  -- ---- where all pages in use are in the cache

  module _ {m : MutBor D} {cache : MutBor CacheValue} {source : E} {free : MutBor (List Bool)} {a : Table D E M S} (over : IsOver m cache source free a) where
    used_here : HasAllUsed free.now cache.now → HasAllUsed a.free.now a.cache.now
    used_here all = subst (λ (f : MutBor (List Bool)). HasAllUsed f.now a.cache.now) (sym over.spared) (subst (λ (x : MutBor CacheValue). HasAllUsed free.now x.now) (sym over.cached) all)

    -- as the pages see it
    pub used_first : HasAllUsed free.now cache.now → (page : ℕ) → page < length (step_of a).images → is_spare (step_of a).spares page ≡ false → HasPage a page
    used_first all page lt used = let within = within_free a page lt in (within, (used_here all).each page within used)

    -- they still are once a look-up has ended
    pub used_left : {refusal : Option Refusal} {b : Table D E M S} {m' : D} {cache' : CacheValue} {free' : List Bool} → LeavesTable b m' cache' free' → NeedsNoMemory step_of HasPage refusal a b
        → HasAllUsed free.now cache.now → HasAllUsed free.now cache'
    used_left {b = b} {cache' = cache'} left looked all =
        let last : HasAllUsed a.free.now cache' = record { each = λ page lt used. only_there b.cache.now cache' left.pins page (looked.stays page (lt, (used_here all).each page lt used)).1 } in
        subst (λ (f : MutBor (List Bool)). HasAllUsed f.now cache') over.spared last
