-- What a table over a cache keeps, after each call.
use Rattle.std.proofs.Common.{◌≡◌, ◌⊎◌, inl, inr, ℕ, ◌+◌, ◌-◌, ◌<◌, ◌≤◌, Bool, true, false, ◌||◌, List, [], ◌∷◌, ◌++◌, length, get_or, Option, Some, None, IsSome, refl, sym, ap, ◌∙◌, subst, arith, eqb-true, eq-eqb, length-append, length-set}
use Rattle.std.specs.Prelude.{IsTrue, nat_eq, count_by, slice_get, slice_set}
use Rattle.std.specs.Option.{option_or}
use Rattle.std.proofs.Math.Logic.{∥∥₁_elim}
use Rattle.std.proofs.Props.{props}
use Rattle.std.proofs.lemmas.Bool.{true≢false, or_right}
use Rattle.std.proofs.lemmas.List.{get_or-set_same, get_or-set_other}
use Rattle.fsd_bytes.specs.declared.refusal.Refusal.{Refusal}
use Rattle.sector_disk.specs.declared.machine.Machine.{Ghosts as MachineGhosts}
use Rattle.sector_disk.specs.Machine.{Wears}
use Rattle.sector_disk.proofs.Holding.{wears_none, wears_on}
use Rattle.page_cache.specs.declared.source.PageSource.{Ghosts as SourceGhosts}
use Rattle.page_cache.specs.Cache.{CacheValue, IsResident, AreNewest, newest_bytes, cached_bytes, pins_of, is_among, with_pins, with_dirty}
use Rattle.page_cache.proofs.Entries.{by_bool, key_flips, same_key}
use Rattle.page_cache.proofs.BusyLaws.{count_cons, one}
use Rattle.page_cache.proofs.NewestLaws.{dirtied_newest}
use Rattle.page_cache.proofs.WrittenLaws.{one_dirty}
use Rattle.page_cache.proofs.KeepLaws.{bytes_resident, resident_bytes, pinned_resident}
use Rattle.table_pages.specs.Bringing.{HasRoomFor, OnlyPins, IsTrusted, given_by, FetchesOnly}
use Rattle.table_pages.specs.Sparing.{AreSpare, SparesOnly}
use Rattle.table_pages.specs.Kept.{IsKeptSince, images_given}
use Rattle.table_pages.proofs.PinLaws.{count_append, count_single, set_only, set_pins, only_there}
use Rattle.table_pages.proofs.SpareLaws.{one_of_count, pins_newest, kept_pins}
use Rattle.table_pages.proofs.LastLaws.{Lasts, knows_on, same_newest}
use Rattle.table_pages.specs.ImageLaws.{image_same, images_same}

-- ---- free pages

spare_taken : (free : List Bool) (page : ℕ) (rest : List ℕ) → AreSpare free (page ∷ rest) → AreSpare (slice_set free page false) rest
spare_taken free page rest h = record {
  are = λ q is.
      let all = count_cons (nat_eq q) page rest in
      let few = h.once q in
      let some = one_of_count q rest is in
      by_bool (nat_eq page q)
      (λ t. let head : one (nat_eq q page) ≡ 1 = ap one (key_flips page q true t) in absurd (omega (arith, all, few, some, head)))
      (λ t. get_or-set_other free page q false false (λ e. true≢false (sym (eq-eqb page q (sym e)) ∙ t)) ∙ h.are q (or_right (nat_eq page q) (is_among rest q) is));
  once = λ q. let all = count_cons (nat_eq q) page rest in let few = h.once q in omega (arith, all, few);
}

spare_left : (free : List Bool) (page : ℕ) (rest : List ℕ) → AreSpare free (page ∷ rest) → AreSpare free rest
spare_left free page rest h = record {
  are = λ q is. h.are q (or_right (nat_eq page q) (is_among rest q) is);
  once = λ q. let all = count_cons (nat_eq q) page rest in let few = h.once q in omega (arith, all, few);
}

spare_given : (free : List Bool) (page : ℕ) (spares : List ℕ) → page < length free → AreSpare free spares → AreSpare (slice_set free page true) spares
spare_given free page spares lt h = record {
  are = λ q is. by_bool (nat_eq page q)
      (λ t. let same : page ≡ q = eqb-true page q t in ap (λ (k : ℕ). get_or (slice_set free page true) k false) (sym same) ∙ get_or-set_same free page true false lt)
      (λ t. get_or-set_other free page q true false (λ e. true≢false (sym (eq-eqb page q (sym e)) ∙ t)) ∙ h.are q is);
  once = h.once;
}

module _ {D E : Type 0} (M : MachineGhosts D) (S : SourceGhosts E) (source : E) (first : D) (had : CacheValue) where
  -- ---- what is reached

  module _ (m : D) (c : CacheValue) (free : List Bool) (reached spares : List ℕ) (promised : ℕ) (h : IsKeptSince M S first had m c source free reached spares promised) where
    -- a page that the step has reached, or that is dirty, is in the cache, and is dirty or pinned
    pub reached_busy : (page : ℕ) → IsTrue (is_among reached page || is_among c.dirty page) → (is_among c.dirty page ≡ true) ⊎ (0 < pins_of c page)
    reached_busy page is = by_bool (is_among reached page)
        (λ t. let some = one_of_count page reached t in let pins = h.pins page in let parts = count_append page reached spares in inr (omega (arith, some, pins, parts)))
        (λ t. inl (rw t at is))

    pub reached_there : (page : ℕ) → IsTrue (is_among reached page || is_among c.dirty page) → IsResident c page
    reached_there page is = there (reached_busy page is)
      where
        there : (is_among c.dirty page ≡ true) ⊎ (0 < pins_of c page) → IsResident c page
        there (inl dirty) = h.dirty page dirty
        there (inr pinned) = pinned_resident c page pinned

    -- the pages that are pinned leave room for one more to be reached, and for the free ones that are not kept yet
    pub kept_room : (more : ℕ) → length reached + length spares + more ≤ 96 → HasRoomFor more c
    kept_room more few = record {
      frames = h.frames;
      keep = reached ++ spares;
      pins = h.pins;
      few = (let long = length-append reached spares in omega (arith, long, few));
    }

    pub spare_pins : (q : ℕ) → count_by (nat_eq q) spares ≤ pins_of c q
    spare_pins q = let pins = h.pins q in let parts = count_append q reached spares in omega (arith, pins, parts)

    pub reached_pins : (q : ℕ) → count_by (nat_eq q) reached ≤ pins_of c q
    reached_pins q = let pins = h.pins q in let parts = count_append q reached spares in omega (arith, pins, parts)

    -- ---- pages are fetched

    module _ (refusal : Option Refusal) (m' : D) (c' : CacheValue) (fetches : FetchesOnly M S source refusal m m' c c') where
      pub fetched_bytes : (page : ℕ) → IsTrue (is_among reached page || is_among c.dirty page) → cached_bytes c' page ≡ cached_bytes c page
      fetched_bytes page is = fetches.brings.keeps page (reached_there page is) (reached_busy page is)

      -- what was reached stays as it was
      pub fetched_image : (page : ℕ) → IsTrue (is_among reached page || is_among c.dirty page) → slice_get (images_given (newest_bytes c' (given_by M S source m')) (length free)) page ≡ slice_get (images_given (newest_bytes c (given_by M S source m)) (length free)) page
      fetched_image page is =
          image_same (newest_bytes c (given_by M S source m)) (newest_bytes c' (given_by M S source m')) (length free) page
          (by_bytes (cached_bytes c' page) (cached_bytes c page) (fetched_bytes page is) (resident_bytes c page (reached_there page is)))
        where
          by_bytes : (a b : Option (List ℕ)) → a ≡ b → IsSome b → option_or a (given_by M S source m' page) ≡ option_or b (given_by M S source m page)
          by_bytes a None same there = absurd (true≢false (sym there))
          by_bytes a (Some x) same there = ap (λ (o : Option (List ℕ)). option_or o (given_by M S source m' page)) same

      -- where the outside is trusted it was before, and what is not dirty is what the source has then
      still : Lasts S → IsTrusted M S source first had m' → Wears (M.now first) (M.now m) → AreNewest (given_by M S source m') c' × ((q : ℕ) → newest_bytes c' (given_by M S source m') q ≡ newest_bytes c (given_by M S source m) q)
      still lasts t was =
          let back = fetches.reads.trust.honest t.honest in
          let worn = fetches.reads.worn t.honest in
          let known = knows_on S lasts source (M.now first) (M.now m) was t.knows in
          let same = same_newest S lasts source (M.now m) (M.now m') worn known in
          let keeps = fetches.newest t.honest known (h.clean (record { honest = back; knows = t.knows; clean = t.clean })) in (
            subst (λ (source : ℕ → Option (List ℕ)). AreNewest source c') (sym same) keeps.0,
            λ q. ap (λ (source : ℕ → Option (List ℕ)). newest_bytes c' source q) same ∙ keeps.1 q,
          )

      -- and all images do where the outside is trusted
      pub fetched_images : Lasts S → IsTrusted M S source first had m' → images_given (newest_bytes c' (given_by M S source m')) (length free) ≡ images_given (newest_bytes c (given_by M S source m)) (length free)
      fetched_images lasts t =
          ∥∥₁_elim (h.worn (fetches.reads.trust.honest t.honest)) (Prim.hlevel props)
          (λ was. images_same (newest_bytes c (given_by M S source m)) (newest_bytes c' (given_by M S source m')) (length free) (still lasts t was).1)

      -- it is still kept, with the pins that are told
      pub kept_fetched : Lasts S → (spares' : List ℕ) (promised' : ℕ) → ((q : ℕ) → pins_of c' q ≡ count_by (nat_eq q) (reached ++ spares')) → length spares' ≤ 16 → AreSpare free spares' → promised' ≤ length spares'
          → IsKeptSince M S first had m' c' source free reached spares' promised'
      kept_fetched lasts spares' promised' pins few are enough = record {
        pages = h.pages;
        small = h.small;
        sectors = (let same = fetches.reads.uses.sectors in let le = h.sectors in omega (arith, same, le));
        frames = (let same = fetches.fills.frames in let le = h.frames in omega (arith, same, le));
        few_reached = h.few_reached;
        few_spares = few;
        pins = pins;
        dirty = λ q is.
            let was : is_among c.dirty q ≡ true = ap (λ (ds : List ℕ). is_among ds q) (sym fetches.brings.dirty) ∙ is in
            let there = h.dirty q was in
            bytes_resident c' q (subst (λ o. IsSome o) (sym (fetches.brings.keeps q there (inl was))) (resident_bytes c q there));
        are_spare = are;
        enough = enough;
        worn = λ now. ∥∥₁_elim (h.worn (fetches.reads.trust.honest now)) (Prim.hlevel props) (λ was. ∣ wears_on (M.now first) (M.now m) (M.now m') was (fetches.reads.worn now) ∣₁);
        clean = λ t. ∥∥₁_elim (h.worn (fetches.reads.trust.honest t.honest)) (Prim.hlevel props) (λ was. (still lasts t was).0);
      }

      pub kept_brought : Lasts S → ((q : ℕ) → pins_of c' q ≡ pins_of c q) → IsKeptSince M S first had m' c' source free reached spares promised
      kept_brought lasts pins = kept_fetched lasts spares promised (λ q. pins q ∙ h.pins q) h.few_spares h.are_spare h.enough

    pub kept_spares : Lasts S → (refusal : Option Refusal) (m' : D) (c' : CacheValue) (spares' : List ℕ) (promised' : ℕ) → SparesOnly M S source free refusal m m' c c' spares spares' → length spares' ≤ 16 → promised' ≤ length spares'
        → IsKeptSince M S first had m' c' source free reached spares' promised'
    kept_spares lasts refusal m' c' spares' promised' only few enough = kept_fetched refusal m' c' only.fetches lasts spares' promised' at few only.spares enough
      where
        at : (q : ℕ) → pins_of c' q ≡ count_by (nat_eq q) (reached ++ spares')
        at q =
            let now = only.pins q in let was = h.pins q in let parts = count_append q reached spares in let parts' = count_append q reached spares' in
            omega (arith, now, was, parts, parts')

    -- ---- pins are set

    pub kept_set : (c' : CacheValue) (reached' spares' : List ℕ) (promised' : ℕ) → OnlyPins c c' → ((q : ℕ) → pins_of c' q ≡ count_by (nat_eq q) (reached' ++ spares')) → length reached' ≤ 80 → length spares' ≤ 16
        → AreSpare free spares' → promised' ≤ length spares' → IsKeptSince M S first had m c' source free reached' spares' promised'
    kept_set c' reached' spares' promised' only pins few more are enough = record {
      pages = h.pages;
      small = h.small;
      sectors = h.sectors;
      frames = (let same = only.frames in let le = h.frames in omega (arith, same, le));
      few_reached = few;
      few_spares = more;
      pins = pins;
      dirty = λ q is. only_there c c' only q (h.dirty q (ap (λ (ds : List ℕ). is_among ds q) (sym only.dirty) ∙ is));
      are_spare = are;
      enough = enough;
      worn = h.worn;
      clean = λ t. (pins_newest (given_by M S source m) c c' only (h.clean t)).0;
    }

    pub kept_reached : (c' : CacheValue) (page : ℕ) → c' ≡ with_pins page (pins_of c page + 1) c → IsResident c page → length reached < 80 → IsKeptSince M S first had m c' source free (reached ++ page ∷ []) spares promised
    kept_reached c' page set there few =
        kept_set c' (reached ++ page ∷ []) spares promised (set_only c c' page (pins_of c page + 1) set) at (let long = length-append reached (page ∷ []) in omega (arith, long, few)) h.few_spares h.are_spare h.enough
      where
        at : (q : ℕ) → pins_of c' q ≡ count_by (nat_eq q) ((reached ++ page ∷ []) ++ spares)
        at q =
            let now = kept_pins c c' page set there q in let was = h.pins q in
            let parts = count_append q reached spares in let more = count_append q reached (page ∷ []) in let all = count_append q (reached ++ page ∷ []) spares in let last = count_single q page in
            omega (arith, now, was, parts, more, all, last)

    pub kept_unreached : (c' : CacheValue) → OnlyPins c c' → ((q : ℕ) → pins_of c' q + count_by (nat_eq q) reached ≡ pins_of c q) → IsKeptSince M S first had m c' source free [] spares promised
    kept_unreached c' only pins = kept_set c' [] spares promised only (λ q. let now = pins q in let was = h.pins q in let parts = count_append q reached spares in omega (arith, now, was, parts)) (omega arith) h.few_spares h.are_spare h.enough

    pub kept_unspared : (c' : CacheValue) → OnlyPins c c' → ((q : ℕ) → pins_of c' q + count_by (nat_eq q) spares ≡ pins_of c q) → IsKeptSince M S first had m c' source free reached [] 0
    kept_unspared c' only pins =
        kept_set c' reached [] 0 only
        (λ q. let now = pins q in let was = h.pins q in let parts = count_append q reached spares in let none = count_append q reached [] in omega (arith, now, was, parts, none))
        h.few_reached (omega arith) (record { are = λ q is. absurd (true≢false (sym is)); once = λ q. omega arith }) (omega arith)

    -- ---- a page becomes dirty

    pub kept_dirty : (page : ℕ) → IsResident c page → IsKeptSince M S first had m (with_dirty page c) source free reached spares promised
    kept_dirty page there = record {
      pages = h.pages;
      small = h.small;
      sectors = h.sectors;
      frames = h.frames;
      few_reached = h.few_reached;
      few_spares = h.few_spares;
      pins = h.pins;
      dirty = λ q is. at q (one_dirty c page q is);
      are_spare = h.are_spare;
      enough = h.enough;
      worn = h.worn;
      clean = λ t. (dirtied_newest page c (given_by M S source m) (h.clean t)).0;
    }
      where
        at : (q : ℕ) → (is_among c.dirty q ≡ true) ⊎ (page ≡ q) → IsResident c q
        at q (inl was) = h.dirty q was
        at q (inr is) = subst (λ (k : ℕ). IsResident c k) is there

    -- ---- the free pages change

    pub kept_free : (free' : List Bool) → length free' ≡ length free → AreSpare free' spares → IsKeptSince M S first had m c source free' reached spares promised
    kept_free free' same are = record {
      pages = h.pages ∙ sym same;
      small = (let le = h.small in omega (arith, same, le));
      sectors = h.sectors;
      frames = h.frames;
      few_reached = h.few_reached;
      few_spares = h.few_spares;
      pins = h.pins;
      dirty = h.dirty;
      are_spare = are;
      enough = h.enough;
      worn = h.worn;
      clean = h.clean;
    }

    pub kept_given : (page : ℕ) → page < length free → IsKeptSince M S first had m c source (slice_set free page true) reached spares promised
    kept_given page lt = kept_free (slice_set free page true) (length-set free page true) (spare_given free page spares lt h.are_spare)

  -- ---- before the first step

  pub kept_at_first : (free : List Bool) → S.pages source ≡ length free → length free ≤ 4096 → S.sectors source ≤ (M.report first).sectors → 192 ≤ had.frames → ((q : ℕ) → pins_of had q ≡ 0)
      → ((q : ℕ) → is_among had.dirty q ≡ true → IsResident had q) → IsKeptSince M S first had first had source free [] [] 0
  kept_at_first free pages small sectors frames pins dirty = record {
    pages = pages;
    small = small;
    sectors = sectors;
    frames = frames;
    few_reached = omega arith;
    few_spares = omega arith;
    pins = pins;
    dirty = dirty;
    are_spare = record { are = λ q is. absurd (true≢false (sym is)); once = λ q. omega arith };
    enough = omega arith;
    worn = λ h. ∣ wears_none (M.now first) ∣₁;
    clean = λ t. t.clean;
  }

  -- ---- a page is taken

  module _ (m : D) (c c' : CacheValue) (free : List Bool) (reached : List ℕ) (page : ℕ) (rest : List ℕ) (promised : ℕ) (h : IsKeptSince M S first had m c source free reached (page ∷ rest) (promised + 1)) where
    abbrev unpinned : CacheValue
    unpinned = with_pins page (pins_of c page - 1) c

    taken_only : OnlyPins c unpinned
    taken_only = set_only c unpinned page (pins_of c page - 1) refl

    taken_some : 0 < pins_of c page
    taken_some =
        let pins = h.pins page in let parts = count_append page reached (page ∷ rest) in let all = count_cons (nat_eq page) page rest in
        let head : one (nat_eq page page) ≡ 1 = ap one (same_key page) in omega (arith, pins, parts, all, head)

    taken_there : IsResident c page
    taken_there = pinned_resident c page taken_some

    taken_pins : (q : ℕ) → pins_of unpinned q ≡ count_by (nat_eq q) (reached ++ rest)
    taken_pins q =
        let at = set_pins c unpinned page (pins_of c page - 1) refl taken_there q in
        let was = h.pins q in let parts = count_append q reached (page ∷ rest) in let all = count_cons (nat_eq q) page rest in let parts' = count_append q reached rest in
        by_bool (nat_eq page q)
        (λ t. let is : page ≡ q = eqb-true page q t in
        let here : pins_of unpinned q ≡ pins_of c q - 1 = (rw t at at) ∙ ap (λ (k : ℕ). pins_of c k - 1) is in
        let head : one (nat_eq q page) ≡ 1 = ap one (key_flips page q true t) in
        let left : 0 < pins_of c q = subst (λ (k : ℕ). 0 < pins_of c k) is taken_some in
        omega (arith, here, was, parts, all, parts', head, left))
        (λ t. let here : pins_of unpinned q ≡ pins_of c q = rw t at at in
        let head : one (nat_eq q page) ≡ 0 = ap one (key_flips page q false t) in
        omega (arith, here, was, parts, all, parts', head))

    pub kept_taken : c' ≡ with_dirty page unpinned → IsKeptSince M S first had m c' source (slice_set free page false) reached rest promised
    kept_taken set =
        let few = h.enough in
        let long = h.few_spares in
        let left = spare_left free page rest h.are_spare in
        let unpinned_kept = kept_set m c free reached (page ∷ rest) (promised + 1) h unpinned reached rest promised taken_only taken_pins h.few_reached (omega (arith, long)) left (omega (arith, few)) in
        let taken = kept_free m unpinned free reached rest promised unpinned_kept (slice_set free page false) (length-set free page false) (spare_taken free page rest h.are_spare) in
        let dirtied = kept_dirty m unpinned (slice_set free page false) reached rest promised taken page (only_there c unpinned taken_only page taken_there) in
        subst (λ (x : CacheValue). IsKeptSince M S first had m x source (slice_set free page false) reached rest promised) (sym set) dirtied
