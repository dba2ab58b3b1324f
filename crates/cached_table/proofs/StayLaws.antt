-- A table over a cache that was looked into, in one step or in several: what its pages show then.
use Rattle.std.proofs.Common.{◌≡◌, inl, ℕ, ◌<◌, Bool, true, false, List, length, Option, Some, None, refl, sym, ap, subst, ◌∙◌, arith}
use Rattle.std.specs.Prelude.{Contains, slice_get}
use Rattle.std.specs.Borrow.{MutBor}
use Rattle.std.specs.Option.{option_or}
use Rattle.std.proofs.lemmas.Bool.{or_right}
use Rattle.fsd_bytes.specs.declared.refusal.Refusal.{Refusal}
use Rattle.fsd_formats.specs.NamePage.{Content, Leaf}
use Rattle.fsd_table.specs.Pages.{entries_of, page_at}
use Rattle.sector_disk.specs.declared.machine.Machine.{Ghosts as MachineGhosts}
use Rattle.page_cache.specs.declared.source.PageSource.{Ghosts as SourceGhosts}
use Rattle.page_cache.specs.Cache.{CacheValue, cached_bytes, is_among, newest_bytes}
use Rattle.name_page.specs.declared.pages.Pages.{Ghosts as PagesGhosts}
use Rattle.name_page.specs.Looks.{Agrees, Looks, OnlyWalks}
use Rattle.name_page.specs.Pages.{Step, is_one_of as among}
use Rattle.name_page.proofs.LookLaws.{agrees_at}
use Rattle.name_btree.specs.declared.lookup.FoundEntry.{FoundEntry}
use Rattle.name_btree.specs.Lookup.{IsLedTo, StandsIn}
use Rattle.table_pages.specs.Bringing.{given_by}
use Rattle.table_pages.specs.ImageLaws.{image_at, image_count}
use Rattle.table_pages.specs.Table.{IsOver, ReadsOnly, step_of}
use Rattle.table_pages.specs.declared.table.Table.{Table}
use Rattle.table_pages.proofs.KeptLaws.{reached_there}
use Rattle.cached_table.proofs.ResidentLaws.{in_memory}
use Rattle.cached_table.specs.Entering.{ShowsMet}
use Rattle.cached_table.specs.Looking.{Had, HavePages, LeadsTo}
use Rattle.fsd_sound.proofs.VisitLaws.{own_content}

-- What a step leaves that changed nothing: which pages are spare and which changed, and the bytes of those.
pub record StaysStep (old new : Step) : Type 0 where
  pub spares : new.spares ≡ old.spares
  pub home_a : new.home_a ≡ old.home_a
  pub changed : new.changed ≡ old.changed
  pub stood : (page : ℕ) → page < length old.images → among old.changed page ≡ true → slice_get new.images page ≡ slice_get old.images page

pub looks_stay : (a b : Step) → Looks a b → StaysStep a b
looks_stay a b x = record { spares = x.spares; home_a = x.home_a; changed = x.changed; stood = λ page lt was. x.images page (lt, or_right _ (among a.changed page) was) }

pub walks_stay : {D : Type 0} (P : PagesGhosts D) {refusal : Option Refusal} (a b : D) → OnlyWalks P refusal a b → StaysStep (P.step a) (P.step b)
walks_stay P a b x = record { spares = x.spares; home_a = x.home_a; changed = x.changed; stood = x.stood }

module _ {D E : Type 0} {M : MachineGhosts D} {S : SourceGhosts E} where
  -- a table in which the same pages are spare
  module _ (m : MutBor D) (cache : MutBor CacheValue) (source : E) (free : MutBor (List Bool)) (a b : Table D E M S) (over : IsOver m cache source free a) (spares : (step_of b).spares ≡ (step_of a).spares) where
    free_then : b.free.now ≡ free.now
    free_then = spares ∙ ap (λ (f : MutBor (List Bool)). f.now) over.spared

    within_then : (page : ℕ) → page < length (step_of b).images → page < length free.now
    within_then page lt = omega (arith, lt, image_count (newest_bytes b.cache.now (given_by M S b.source.now b.m.now)) (length b.free.now), ap (λ (f : List Bool). length f) free_then)

    -- pages with what was in the cache have what was reached
    pub agrees_spared : (pages : List (List ℕ)) → HavePages b.cache.now (length free.now) pages → Agrees pages (step_of b)
    agrees_spared pages have = record {
      count = have.size ∙ sym (image_count (newest_bytes b.cache.now (given_by M S b.source.now b.m.now)) (length b.free.now) ∙ ap (λ (f : List Bool). length f) free_then);
      reached = λ page is used.
          let there = in_memory b.cache.now page (reached_there M S b.source.now b.made_over.value b.made_with.value b.m.now b.cache.now b.free.now b.reached.items b.spares.items b.promised b.kept page is.1) in
          let lt : page < length free.now = within_then page is.0 in
          let lt_b : page < length b.free.now = omega (arith, lt, ap (λ (f : List Bool). length f) free_then) in
          have.same page there.0 lt there.1
          ∙ sym (image_at (newest_bytes b.cache.now (given_by M S b.source.now b.m.now)) (length b.free.now) page there.0 lt_b (ap (λ (o : Option (List ℕ)). option_or o (given_by M S b.source.now b.m.now page)) there.1));
    }

  -- the table as it was once it was looked into
  module _ (m : MutBor D) (cache : MutBor CacheValue) (source : E) (free : MutBor (List Bool)) (a b : Table D E M S) (over : IsOver m cache source free a) (looks : StaysStep (step_of a) (step_of b)) where
    free_there : b.free.now ≡ free.now
    free_there = free_then m cache source free a b over looks.spares

    dirty_then : b.cache.now.dirty ≡ cache.now.dirty
    dirty_then = looks.changed ∙ ap (λ (x : MutBor CacheValue). x.now.dirty) over.cached

    pub agrees_then : (pages : List (List ℕ)) → HavePages b.cache.now (length free.now) pages → Agrees pages (step_of b)
    agrees_then = agrees_spared m cache source free a b over looks.spares

    pub leads_then : (f : FoundEntry) → StandsIn (step_of b) f → IsLedTo (step_of b) f → (pages : List (List ℕ)) → HavePages b.cache.now (length free.now) pages → LeadsTo pages f
    leads_then f there way pages have =
        let agree = agrees_then pages have in
        let visit = way pages agree in
        let content : visit.0.content ≡ Some (Leaf there.entries) =
        own_content pages visit.0 visit.1 ∙ ap (page_at pages) visit.2 ∙ agrees_at (step_of b) pages f.page there.reached there.used agree ∙ there.leaf in
        (visit.0, visit.1, visit.2, subst (λ (x : Option Content). Contains (entries_of x) f.entry) (sym content) there.there, visit.3)

    -- a page that is dirty has its bytes
    pub kept_then : (page : ℕ) → page < length free.now → is_among cache.now.dirty page ≡ true → cached_bytes b.cache.now page ≡ cached_bytes cache.now page
    kept_then page lt waits =
        let at_a : is_among a.cache.now.dirty page ≡ true = ap (λ (x : MutBor CacheValue). is_among x.now.dirty page) over.cached ∙ waits in
        let at_b : is_among b.cache.now.dirty page ≡ true = ap (λ (d : List ℕ). is_among d page) dirty_then ∙ waits in
        let had = in_memory a.cache.now page (a.kept.dirty page at_a) in
        let has = in_memory b.cache.now page (b.kept.dirty page at_b) in
        let lt_a : page < length a.free.now = omega (arith, lt, ap (λ (f : MutBor (List Bool)). length f.now) over.spared) in
        let lt_b : page < length b.free.now = omega (arith, lt, ap (λ (f : List Bool). length f) free_there) in
        let inside : page < length (step_of a).images = omega (arith, lt_a, image_count (newest_bytes a.cache.now (given_by M S a.source.now a.m.now)) (length a.free.now)) in
        let was : slice_get (step_of a).images page ≡ Some had.0 =
        image_at (newest_bytes a.cache.now (given_by M S a.source.now a.m.now)) (length a.free.now) page had.0 lt_a (ap (λ (o : Option (List ℕ)). option_or o (given_by M S a.source.now a.m.now page)) had.1) in
        let is : slice_get (step_of b).images page ≡ Some has.0 =
        image_at (newest_bytes b.cache.now (given_by M S b.source.now b.m.now)) (length b.free.now) page has.0 lt_b (ap (λ (o : Option (List ℕ)). option_or o (given_by M S b.source.now b.m.now page)) has.1) in
        has.1 ∙ sym is ∙ looks.stood page inside at_a ∙ was ∙ sym had.1 ∙ ap (λ (x : MutBor CacheValue). cached_bytes x.now page) over.cached

    -- the leaf of a version was met
    pub met_shown : ReadsOnly None a b → M.honest b.m.now → (f : FoundEntry) → StandsIn (step_of b) f → IsLedTo (step_of b) f → (f.page < length free.now) × ShowsMet M S source (M.now m.now) cache.now (length free.now) f
    met_shown outside honest f there way = (within_then m cache source free a b over looks.spares f.page there.reached.0, record { cache = b.cache.now; had = λ page bytes lt is. by page bytes lt is (is_among b.cache.now.dirty page) refl; leads = leads_then f there way })
      where
        of_first : (page : ℕ) (bytes : List ℕ) → Had M S a.source.now (M.now a.m.now) a.cache.now page bytes → Had M S source (M.now m.now) cache.now page bytes
        of_first page bytes had = subst (λ (e : E). Had M S e (M.now m.now) cache.now page bytes) over.from
            (subst (λ (x : MutBor D). Had M S a.source.now (M.now x.now) cache.now page bytes) over.machine
            (subst (λ (x : MutBor CacheValue). Had M S a.source.now (M.now a.m.now) x.now page bytes) over.cached had))

        by : (page : ℕ) (bytes : List ℕ) → page < length free.now → cached_bytes b.cache.now page ≡ Some bytes → (x : Bool) → is_among b.cache.now.dirty page ≡ x → Had M S source (M.now m.now) cache.now page bytes
        by page bytes lt is true waits = inl (sym (kept_then page lt (ap (λ (d : List ℕ). is_among d page) (sym dirty_then) ∙ waits)) ∙ is)
        by page bytes lt is false rests = of_first page bytes (outside.fills.stood honest page bytes rests is)
