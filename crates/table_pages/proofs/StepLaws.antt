-- The step of a table over a cache, after each call.
use Rattle.std.proofs.Common.{eqb-true, ◌≡◌, ◌⊎◌, inl, inr, ℕ, zero, suc, ◌-◌, ◌<◌, Bool, true, false, List, [], ◌∷◌, length, Option, Some, None, IsSome, refl, sym, ap, ◌∙◌, subst, arith, length-set}
use Rattle.std.specs.Prelude.{nat_eq, slice_get, slice_index_or, slice_set, option_and_then}
use Rattle.std.specs.Option.{option_or}
use Rattle.std.proofs.Props.{props}
use Rattle.std.proofs.lemmas.Bool.{eqb-false, true≢false}
use Rattle.std.proofs.lemmas.List.{get_or-set_other, get_or-set_same}
use Rattle.fsd_bytes.specs.declared.refusal.Refusal.{Refusal}
use Rattle.fsd_bytes.specs.declared.refusal.Refusal.TheVariants.{NameTableFull, Unsound}
use Rattle.fsd_formats.specs.NamePage.{read_page}
use Rattle.fsd_table.specs.Pages.{page_at}
use Rattle.sector_disk.specs.declared.machine.Machine.{Ghosts as MachineGhosts}
use Rattle.page_cache.specs.declared.source.PageSource.{Ghosts as SourceGhosts}
use Rattle.page_cache.specs.Cache.{CacheValue, IsResident, newest_bytes, cached_bytes, pins_of, is_among, with_pins, with_dirty, with_written}
use Rattle.page_cache.proofs.KeepLaws.{resident_bytes, pinned_bytes}
use Rattle.page_cache.proofs.WrittenLaws.{now_dirty}
use Rattle.name_page.specs.Pages.{Keeps, IsOuter, IsReached, is_spare, with_taken, rested}
use Rattle.page_cache.specs.Accepted.{cached_content}
use Rattle.table_pages.specs.Bringing.{OnlyPins, given_by, home_in, FetchesOnly, IsAtHand, IsPageRefused, IsHit}
use Rattle.table_pages.specs.Kept.{IsKeptSince, images_given}
use Rattle.table_pages.specs.ImageLaws.{image_count, image_at, images_same}
use Rattle.table_pages.specs.Reads.{Fills, HadRefused}
use Rattle.table_pages.specs.Table.{step_of, table_written, BarsPlace, HasPage}
use Rattle.table_pages.specs.declared.table.Table.{Table}
use Rattle.table_pages.proofs.KeptLaws.{fetched_image, reached_there}

-- a page that is free is one of the table
pub free_within : (free : List Bool) (page : ℕ) → slice_index_or free page false ≡ true → page < length free
free_within [] page h = absurd (true≢false (sym h))
free_within (f ∷ free) zero h = omega arith
free_within (f ∷ free) (suc page) h = let on = free_within free page h in omega (arith, on)

-- a page of the cache is what it has
pub newest_at : (c : CacheValue) (source : ℕ → Option (List ℕ)) (page : ℕ) (bytes : List ℕ) → cached_bytes c page ≡ Some bytes → newest_bytes c source page ≡ Some bytes
newest_at c source page bytes is = ap (λ (o : Option (List ℕ)). option_or o (source page)) is

pub page_in : (c : CacheValue) (source : ℕ → Option (List ℕ)) (n page : ℕ) → IsResident c page → page < n → page_at (images_given (newest_bytes c source) n) page ≡ cached_content c n page
unfolding page_at
page_in c source n page there lt = at (cached_bytes c page) refl (resident_bytes c page there)
  where
    at : (o : Option (List ℕ)) → cached_bytes c page ≡ o → IsSome o → option_and_then (read_page page (length (images_given (newest_bytes c source) n))) (slice_get (images_given (newest_bytes c source) n) page) ≡ option_and_then (read_page page n) (cached_bytes c page)
    at None is some = absurd (true≢false (sym some))
    at (Some bytes) is some =
        ap (λ (k : ℕ). option_and_then (read_page page k) (slice_get (images_given (newest_bytes c source) n) page)) (image_count (newest_bytes c source) n)
        ∙ ap (λ (o : Option (List ℕ)). option_and_then (read_page page n) o) (image_at (newest_bytes c source) n page bytes lt (newest_at c source page bytes is) ∙ sym is)

-- a page that is refused is free, or the grammar refuses it
pub barred : (free : List Bool) (c : CacheValue) (source : ℕ → Option (List ℕ)) (page : ℕ) → page < length free → IsPageRefused free c page → (slice_index_or free page false ≡ true) ⊎ (page_at (images_given (newest_bytes c source) (length free)) page ≡ None)
barred free c source page lt (inl spare) = inl spare
barred free c source page lt (inr bad) = inr (page_in c source (length free) page bad.0 lt ∙ bad.1)

-- where no bytes change the images stay
pub same_images : (old new : CacheValue) (source : ℕ → Option (List ℕ)) (n : ℕ) → ((q : ℕ) → cached_bytes new q ≡ cached_bytes old q) → images_given (newest_bytes new source) n ≡ images_given (newest_bytes old source) n
same_images old new source n same = images_same (newest_bytes old source) (newest_bytes new source) n (λ q. ap (λ (o : Option (List ℕ)). option_or o (source q)) (same q))

module _ {D E : Type 0} {M : MachineGhosts D} {S : SourceGhosts E} (t : Table D E M S) where
  abbrev source : ℕ → Option (List ℕ)
  source = given_by M S t.source.now t.m.now

  pub within_free : (page : ℕ) → page < length (step_of t).images → page < length t.free.now
  within_free page lt = let count = image_count (newest_bytes t.cache.now source) (length t.free.now) in omega (arith, lt, count)

  pub within_pages : (page : ℕ) → page < length (step_of t).images → page < S.pages t.source.now
  within_pages page lt = let free = within_free page lt in let same = t.kept.pages in omega (arith, free, same)

  pub there : (page : ℕ) → IsReached (step_of t) page → IsResident t.cache.now page
  there page is = reached_there M S t.source.now t.made_over.value t.made_with.value t.m.now t.cache.now t.free.now t.reached.items t.spares.items t.promised t.kept page is.1

  -- what was reached stays while pages are fetched
  pub fetched_keeps : (refusal : Option Refusal) (m' : D) (c' : CacheValue) → FetchesOnly M S t.source.now refusal t.m.now m' t.cache.now c' → Keeps (step_of t) (images_given (newest_bytes c' (given_by M S t.source.now m')) (length t.free.now))
  fetched_keeps refusal m' c' fetches = record {
    count = image_count (newest_bytes c' (given_by M S t.source.now m')) (length t.free.now) ∙ sym (image_count (newest_bytes t.cache.now source) (length t.free.now));
    reached = λ q is. fetched_image M S t.source.now t.made_over.value t.made_with.value t.m.now t.cache.now t.free.now t.reached.items t.spares.items t.promised t.kept refusal m' c' fetches q is.1;
  }

  -- a page that is spare or in memory is at hand
  pub at_hand : (page : ℕ) → (is_spare (step_of t).spares page ≡ true) ⊎ HasPage t page → IsAtHand t.free.now t.cache.now page
  at_hand page (inl spare) = inl spare
  at_hand page (inr there) = inr there.1

  -- and all do where nothing is asked of the machine
  pub hit_images : (m' : D) (c' : CacheValue) → IsHit t.m.now m' t.cache.now c' → images_given (newest_bytes c' (given_by M S t.source.now m')) (length t.free.now) ≡ (step_of t).images
  hit_images m' c' hit =
      ap (λ (m : D). images_given (newest_bytes c' (given_by M S t.source.now m)) (length t.free.now)) hit.machine
      ∙ same_images t.cache.now c' source (length t.free.now) hit.bytes

  -- ---- a table with a page written

  abbrev Kept : CacheValue → Type 0
  Kept c = IsKeptSince M S t.made_over.value t.made_with.value t.m.now c t.source.now t.free.now t.reached.items t.spares.items t.promised

  kept_prop : (c : CacheValue) (a b : Kept c) → a ≡ b
  kept_prop c = Prim.hlevel props

  abbrev over : (c : CacheValue) → Kept c → Table D E M S
  over c kept = record t { cache = record t.cache { now = c }; kept = kept }

  pub same_written : (page : ℕ) (bytes : List ℕ) (c : CacheValue) (kept : Kept c) → c ≡ with_written page bytes t.cache.now → over c kept ≡ table_written t page bytes
  same_written page bytes c kept e =
      subst (λ (x : CacheValue). (k : Kept x) → over c kept ≡ over x k) e (λ k. ap (over c) (kept_prop c kept k)) (table_written t page bytes).kept

  -- ---- a page is taken

  module _ (page : ℕ) (c' : CacheValue) (free' : List Bool) (free_is : free' ≡ slice_set t.free.now page false) (set : c' ≡ with_dirty page (with_pins page (pins_of t.cache.now page - 1) t.cache.now)) where
    taken_images : images_given (newest_bytes c' source) (length free') ≡ images_given (newest_bytes t.cache.now source) (length t.free.now)
    taken_images =
        ap (images_given (newest_bytes c' source)) (ap length free_is ∙ length-set t.free.now page false)
        ∙ same_images t.cache.now c' source (length t.free.now) (λ q. ap (λ (c : CacheValue). cached_bytes c q) set ∙ pinned_bytes page (pins_of t.cache.now page - 1) t.cache.now q)

    pub taken_step : record (step_of t) { images = images_given (newest_bytes c' source) (length free'); spares = free'; changed = c'.dirty; promised = t.promised - 1 } ≡ with_taken page (step_of t)
    taken_step = λ i. record (step_of t) { images = taken_images i; spares = free_is i; changed = (set i).dirty; promised = t.promised - 1 }

    pub taken_reached : slice_index_or t.free.now page false ≡ true → (page < length (images_given (newest_bytes c' source) (length free'))) × (is_among c'.dirty page ≡ true)
    taken_reached spare = (
      (let lt = free_within t.free.now page spare in let count = image_count (newest_bytes c' source) (length free') in let same = ap length free_is ∙ length-set t.free.now page false in omega (arith, lt, count, same)),
      ap (λ (c : CacheValue). is_among c.dirty page) set ∙ now_dirty (with_pins page (pins_of t.cache.now page - 1) t.cache.now) page,
    )

  -- ---- the step ends

  pub rested_step : (mid new : CacheValue) (reached : List ℕ) → OnlyPins t.cache.now mid → OnlyPins mid new → reached ≡ []
      → record (step_of t) { images = images_given (newest_bytes new source) (length t.free.now); changed = new.dirty; reached = reached; promised = 0; refusal = None } ≡ rested (step_of t)
  rested_step mid new reached first second none =
      let images = same_images t.cache.now new source (length t.free.now) (λ q. second.bytes q ∙ first.bytes q) in
      let dirty = second.dirty ∙ first.dirty in
      λ i. record (step_of t) { images = images i; changed = dirty i; reached = none i; promised = 0; refusal = None }

-- ---- what is known of a page that is refused

-- a page that was free is still free, or is the one that was taken
pub still_free : (free new : List Bool) (page : ℕ) (dirty : ℕ → Bool) → new ≡ slice_set free page false → dirty page ≡ true → (q : ℕ) → slice_index_or free q false ≡ true → (slice_index_or new q false ≡ true) ⊎ (dirty q ≡ true)
still_free free new page dirty set now q was = by (nat_eq page q) refl
  where
    by : (b : Bool) → nat_eq page q ≡ b → (slice_index_or new q false ≡ true) ⊎ (dirty q ≡ true)
    by true same = inr (subst (λ (k : ℕ). dirty k ≡ true) (eqb-true page q same) now)
    by false other = inl (ap (λ (f : List Bool). slice_index_or f q false) set ∙ get_or-set_other free page q false false (λ e. eqb-false page q other (sym e)) ∙ was)

-- where one is given back all that were free are
pub given_free : (free new : List Bool) (page : ℕ) → new ≡ slice_set free page true → (q : ℕ) → slice_index_or free q false ≡ true → slice_index_or new q false ≡ true
given_free free new page set q was = by (nat_eq page q) refl
  where
    by : (b : Bool) → nat_eq page q ≡ b → slice_index_or new q false ≡ true
    by true same =
        let here : page ≡ q = eqb-true page q same in
        ap (λ (f : List Bool). slice_index_or f q false) set ∙ ap (λ (k : ℕ). slice_index_or (slice_set free page true) k false) (sym here)
        ∙ get_or-set_same free page true false (free_within free page (ap (λ (k : ℕ). slice_index_or free k false) here ∙ was))
    by false other = ap (λ (f : List Bool). slice_index_or f q false) set ∙ get_or-set_other free page q true false (λ e. eqb-false page q other (sym e)) ∙ was

-- want of free pages is none of a page that is unsound
pub never_unsound : (r : Refusal) (count n : ℕ) → IsOuter r ⊎ ((r ≡ NameTableFull count) × (count < n)) → (place : ℕ) → r ≡ Unsound place → ⊥
never_unsound r count n (inl outer) place is = absurd (cc (subst IsOuter is outer))
never_unsound r count n (inr full) place is = absurd (cc (is, full.0))

module _ {D E : Type 0} {M : MachineGhosts D} {S : SourceGhosts E} (a b : Table D E M S) (page : ℕ) (lt : page < length b.free.now) (fills : Fills M S a.source.now a.m.now b.m.now a.cache.now b.cache.now) (honest : M.honest b.m.now) where
  read_there : (bytes : List ℕ) → cached_bytes b.cache.now page ≡ Some bytes → cached_content b.cache.now (length b.free.now) page ≡ None
      → (is_among b.cache.now.dirty page ≡ true) ⊎ HadRefused M S a.source.now (M.now a.m.now) a.cache.now (length b.free.now) page
  read_there bytes is none = by (is_among b.cache.now.dirty page) refl
    where
      by : (d : Bool) → is_among b.cache.now.dirty page ≡ d → (is_among b.cache.now.dirty page ≡ true) ⊎ HadRefused M S a.source.now (M.now a.m.now) a.cache.now (length b.free.now) page
      by true waits = inl waits
      by false rests = inr (record { bytes = bytes; had = fills.stood honest page bytes rests is; none = ap (λ (o : Option (List ℕ)). option_and_then (read_page page (length b.free.now)) o) (sym is) ∙ none })

  why : IsPageRefused b.free.now b.cache.now page → (slice_index_or b.free.now page false ≡ true) ⊎ ((is_among b.cache.now.dirty page ≡ true) ⊎ HadRefused M S a.source.now (M.now a.m.now) a.cache.now (length b.free.now) page)
  why (inl free) = inl free
  why (inr bad) = by (cached_bytes b.cache.now page) refl (resident_bytes b.cache.now page bad.0)
    where
      by : (o : Option (List ℕ)) → cached_bytes b.cache.now page ≡ o → IsSome o → (slice_index_or b.free.now page false ≡ true) ⊎ ((is_among b.cache.now.dirty page ≡ true) ⊎ HadRefused M S a.source.now (M.now a.m.now) a.cache.now (length b.free.now) page)
      by None is some = absurd (true≢false (sym some))
      by (Some bytes) is some = inr (read_there bytes is bad.1)

  -- one that is refused as unsound is barred
  pub refused_bars : (r : Refusal) → IsOuter r ⊎ ((r ≡ Unsound (home_in b.home_a page)) × IsPageRefused b.free.now b.cache.now page) → (place : ℕ) → r ≡ Unsound place → BarsPlace a b place
  refused_bars r (inl outer) place is = absurd (cc (subst IsOuter is outer))
  refused_bars r (inr bad) place is = let home : place ≡ home_in b.home_a page = cc (is, bad.0) in record { page = page; within = lt; home = home; why = why bad.1 }
