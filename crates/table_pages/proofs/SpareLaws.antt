-- Free pages that are kept in the cache, one more after another.
use Rattle.std.proofs.Common.{◌≡◌, inl, ℕ, Option, None, IsSome, suc, ◌+◌, ◌<◌, ◌≤◌, Bool, true, false, List, [], ◌∷◌, ◌++◌, length, get_or, refl, sym, ap, ◌∙◌, subst, arith, eqb-true, eq-eqb}
use Rattle.std.specs.Prelude.{nat_eq, nat_le, count_by, slice_index_or, remove}
use Rattle.std.proofs.lemmas.Bool.{true≢false, or_parts}
use Rattle.std.proofs.lemmas.Bool.Decides.{nat_tests}
use Rattle.std.proofs.lemmas.List.Folds.{list_any-append}
use Rattle.std.proofs.lemmas.List.Sums.{count_by-le-length}
use Rattle.std.specs.Option.{option_or}
use Rattle.fsd_bytes.specs.declared.refusal.Refusal.{Refusal}
use Rattle.sector_disk.proofs.CallLaws as calls
use Rattle.sector_disk.specs.declared.machine.Machine.{Ghosts as MachineGhosts}
use Rattle.page_cache.specs.declared.source.PageSource.{Ghosts as SourceGhosts}
use Rattle.page_cache.specs.Cache.{CacheValue, IsResident, KeepsNewest, cached_bytes, pins_of, is_among, with_dirty, with_pins}
use Rattle.page_cache.proofs.Entries.{by_bool, key_flips}
use Rattle.page_cache.proofs.BusyLaws.{count_cons, one}
use Rattle.page_cache.proofs.KeepLaws.{bytes_resident, pinned_bytes, resident_bytes}
use Rattle.page_cache.proofs.WrittenLaws.{still_dirty}
use Rattle.table_pages.specs.Reads.{Fills}
use Rattle.table_pages.specs.Bringing.{HasRoomFor, OnlyPins, Brings, given_by, FetchesOnly}
use Rattle.table_pages.specs.Sparing.{AreSpare, SparesOnly}
use Rattle.table_pages.proofs.PinLaws.{count_append, count_single, set_only, set_pins}
use Rattle.table_pages.proofs.BringLaws.{brings_then}
use Rattle.table_pages.proofs.LastLaws.{Lasts, knows_on, same_newest}
use Rattle.table_pages.specs.ReadLaws.{fills_then}

-- ---- so many pages are free at most as stand in a list of all of them

pub one_of_count : (q : ℕ) (xs : List ℕ) → is_among xs q ≡ true → 1 ≤ count_by (nat_eq q) xs
one_of_count q [] h = absurd (true≢false (sym h))
one_of_count q (x ∷ xs) h =
    let all = count_cons (nat_eq q) x xs in
    by_bool (nat_eq x q)
    (λ t. let head : one (nat_eq q x) ≡ 1 = ap one (key_flips x q true t) in omega (arith, all, head))
    (λ t. let rest = one_of_count q xs (rw t at h) in omega (arith, all, rest))

pub count_one_of : (q : ℕ) (xs : List ℕ) → is_among xs q ≡ false → count_by (nat_eq q) xs ≡ 0
count_one_of q [] h = refl
count_one_of q (x ∷ xs) h =
    let all = count_cons (nat_eq q) x xs in
    let parts = or_parts (nat_eq x q) (is_among xs q) h in
    let head : one (nat_eq q x) ≡ 0 = ap one (key_flips x q false parts.0) in
    let rest = count_one_of q xs parts.1 in omega (arith, all, head, rest)

one_above : (a t : ℕ) → one (nat_le a t) ≡ one (nat_le (a + 1) t) + one (nat_eq a t)
one_above a t = grind (arith, nat_tests)

count_above : (a : ℕ) (xs : List ℕ) → count_by (nat_le a) xs ≡ count_by (nat_le (a + 1)) xs + count_by (nat_eq a) xs
count_above a [] = refl
count_above a (x ∷ xs) =
    let x1 = count_cons (nat_le a) x xs in let x2 = count_cons (nat_le (a + 1)) x xs in let x3 = count_cons (nat_eq a) x xs in
    let on = count_above a xs in let head = one_above a x in omega (arith, x1, x2, x3, on, head)

count_free : (free : List Bool) (a : ℕ) (xs : List ℕ) → ((i : ℕ) → i < length free → get_or free i false ≡ true → is_among xs (a + i) ≡ true) → count_by (λ f. f) free ≤ count_by (nat_le a) xs
count_free [] a xs h = omega arith
count_free (f ∷ fs) a xs h =
    let all = count_cons (λ (b : Bool). b) f fs in
    let rest = count_free fs (a + 1) xs (λ i lt t. subst (λ (k : ℕ). is_among xs k ≡ true) (omega arith) (h (suc i) (omega (arith, lt)) t)) in
    let parts = count_above a xs in
    by_bool f
    (λ t. let here : is_among xs a ≡ true = subst (λ (k : ℕ). is_among xs k ≡ true) (omega arith) (h 0 (omega arith) t) in
    let some = one_of_count a xs here in let head : one f ≡ 1 = ap one t in omega (arith, all, rest, parts, some, head))
    (λ t. let head : one f ≡ 0 = ap one t in omega (arith, all, rest, parts, head))

pub free_at_most : (free : List Bool) (xs : List ℕ) → ((page : ℕ) → page < length free → slice_index_or free page false ≡ true → is_among xs page ≡ true) → count_by (λ f. f) free ≤ length xs
free_at_most free xs h =
    let few = count_free free 0 xs (λ i lt t. subst (λ (k : ℕ). is_among xs k ≡ true) (omega arith) (h i lt t)) in let most = count_by-le-length (nat_le 0) xs in omega (arith, few, most)

-- ---- the first page of a list

pub first_stands : (xs : List ℕ) (x : ℕ) → 0 < length xs → x ≡ get_or xs 0 x → xs ≡ x ∷ remove xs 0
first_stands [] x some is = absurd (omega (arith, some))
first_stands (y ∷ ys) x some is = ap (λ (z : ℕ). z ∷ ys) (sym is)

pub first_counts : (xs : List ℕ) (x : ℕ) → 0 < length xs → x ≡ get_or xs 0 x → 1 ≤ count_by (nat_eq x) xs
first_counts xs x some is =
    let parts = ap (count_by (nat_eq x)) (first_stands xs x some is) in
    let all = count_cons (nat_eq x) x (remove xs 0) in
    let head : one (nat_eq x x) ≡ 1 = ap one (eq-eqb x x refl) in omega (arith, parts, all, head)

-- ---- one page more

pub spare_more : (free : List Bool) (spares : List ℕ) (page : ℕ) → AreSpare free spares → slice_index_or free page false ≡ true → is_among spares page ≡ false → AreSpare free (spares ++ page ∷ [])
spare_more free spares page h is beside = record {
  are = λ q one_is. by_bool (is_among spares q)
      (λ t. h.are q t)
      (λ t. let last = (sym (list_any-append (λ other. nat_eq other q) spares (page ∷ [])) ∙ one_is) in
      let here : nat_eq page q ≡ true = by_bool (nat_eq page q) (λ e. e) (λ e. absurd (true≢false (sym (rw (t, e) at last)))) in
      subst (λ (k : ℕ). slice_index_or free k false ≡ true) (eqb-true page q here) is);
  once = λ q.
      let parts = count_append q spares (page ∷ []) in
      let last = count_single q page in
      let was = h.once q in
      by_bool (nat_eq q page)
      (λ t. let none : count_by (nat_eq q) spares ≡ 0 = count_one_of q spares (subst (λ (k : ℕ). is_among spares k ≡ false) (sym (eqb-true q page t)) beside) in
      let head : one (nat_eq q page) ≡ 1 = ap one t in omega (arith, parts, last, none, head))
      (λ t. let head : one (nat_eq q page) ≡ 0 = ap one t in omega (arith, parts, last, was, head));
}

-- ---- what the source gave stays so where pins are set

pub pins_newest : (source : ℕ → Option (List ℕ)) (old new : CacheValue) → OnlyPins old new → KeepsNewest source old new
pins_newest source old new only clean = (
  λ q there not. only.bytes q ∙ clean q (bytes_resident old q (subst (λ o. IsSome o) (only.bytes q) (resident_bytes new q there))) (ap (λ (ds : List ℕ). is_among ds q) (sym only.dirty) ∙ not),
  λ q. ap (λ (o : Option (List ℕ)). option_or o (source q)) (only.bytes q),
)

pub pinned_brings : (old new : CacheValue) → OnlyPins old new → ((q : ℕ) → pins_of old q ≤ pins_of new q) → Brings old new
pinned_brings old new only more = record { dirty = only.dirty; pins = more; keeps = λ q there busy. only.bytes q }

pub newest_then : (source : ℕ → Option (List ℕ)) (a b c : CacheValue) → KeepsNewest source a b → KeepsNewest source b c → KeepsNewest source a c
newest_then source a b c x y clean =
    let first = x clean in let second = y first.0 in (second.0, λ q. second.1 q ∙ first.1 q)

module _ {D E : Type 0} (M : MachineGhosts D) (S : SourceGhosts E) (source : E) where
  pub pinned_fills : (m : D) (old new : CacheValue) → OnlyPins old new → Fills M S source m m old new
  pinned_fills m old new only = record {
    frames = only.frames;
    dirty = λ q is. ap (λ (ds : List ℕ). is_among ds q) only.dirty ∙ is;
    stood = λ h q bytes out is. inl (sym (only.bytes q) ∙ is);
  }

  pub taken_fills : (m : D) (old new : CacheValue) (page n : ℕ) → new ≡ with_dirty page (with_pins page n old) → Fills M S source m m old new
  taken_fills m old new page n set = record {
    frames = ap (λ (c : CacheValue). c.frames) set;
    dirty = λ q is. ap (λ (c : CacheValue). is_among c.dirty q) set ∙ still_dirty (with_pins page n old) page q is;
    stood = λ h q bytes out is. inl (sym (ap (λ (c : CacheValue). cached_bytes c q) set ∙ pinned_bytes page n old q) ∙ is);
  }

  pub fetches_then : Lasts S → (refusal : Option Refusal) (m1 m2 m3 : D) (a b c : CacheValue) → FetchesOnly M S source None m1 m2 a b → FetchesOnly M S source refusal m2 m3 b c → FetchesOnly M S source refusal m1 m3 a c
  fetches_then lasts refusal m1 m2 m3 a b c x y = record {
    reads = calls.reads_then x.reads y.reads;
    loses = y.loses;
    fills = fills_then M S source m1 m2 m3 a b c y.reads.trust.honest x.reads.worn x.fills y.fills;
    brings = brings_then a b c x.brings y.brings;
    newest = λ h knows.
        let back = y.reads.trust.honest h in
        let worn = x.reads.worn back in
        newest_then (given_by M S source m1) a b c (x.newest back knows)
        (subst (λ (source : ℕ → Option (List ℕ)). KeepsNewest source b c) (same_newest S lasts source (M.now m1) (M.now m2) worn knows) (y.newest h (knows_on S lasts source (M.now m1) (M.now m2) worn knows)));
  }

  -- then pins are set
  pub fetches_pins : (refusal : Option Refusal) (m1 m2 : D) (a b c : CacheValue) → FetchesOnly M S source refusal m1 m2 a b → OnlyPins b c → ((q : ℕ) → pins_of b q ≤ pins_of c q) → FetchesOnly M S source refusal m1 m2 a c
  fetches_pins refusal m1 m2 a b c x only more = record {
    reads = x.reads;
    loses = x.loses;
    fills = fills_then M S source m1 m2 m2 a b c (λ h. h) x.reads.worn x.fills (pinned_fills m2 b c only);
    brings = brings_then a b c x.brings (pinned_brings b c only more);
    newest = λ h knows. newest_then (given_by M S source m1) a b c (x.newest h knows) (pins_newest (given_by M S source m1) b c only);
  }

-- ---- room

pub room_same : (k : ℕ) (old new : CacheValue) → new.frames ≡ old.frames → ((q : ℕ) → pins_of new q ≡ pins_of old q) → HasRoomFor k old → HasRoomFor k new
room_same k old new same pins room = record {
  frames = (let enough = room.frames in omega (arith, same, enough));
  keep = room.keep;
  pins = λ q. pins q ∙ room.pins q;
  few = room.few;
}

pub room_pins : (k : ℕ) (c : CacheValue) → HasRoomFor k c → (q : ℕ) → pins_of c q ≤ 96
room_pins k c room q =
    let is = room.pins q in let most = count_by-le-length (nat_eq q) room.keep in let few = room.few in
    omega (arith, is, most, few)

-- one more is pinned
pub room_kept : (k : ℕ) (old new : CacheValue) (page : ℕ) → new ≡ with_pins page (pins_of old page + 1) old → IsResident old page → HasRoomFor (k + 1) old → HasRoomFor k new
room_kept k old new page set there room = record {
  frames = (let same = (set_only old new page (pins_of old page + 1) set).frames in let enough = room.frames in omega (arith, same, enough));
  keep = page ∷ room.keep;
  pins = λ q.
      let at = set_pins old new page (pins_of old page + 1) set there q in
      let all = count_cons (nat_eq q) page room.keep in
      let was = room.pins q in
      by_bool (nat_eq page q)
      (λ t. let here : pins_of new q ≡ pins_of old page + 1 = rw t at at in
      let same : pins_of old page ≡ pins_of old q = ap (pins_of old) (eqb-true page q t) in
      let head : one (nat_eq q page) ≡ 1 = ap one (key_flips page q true t) in
      omega (arith, here, same, head, all, was))
      (λ t. let here : pins_of new q ≡ pins_of old q = rw t at at in
      let head : one (nat_eq q page) ≡ 0 = ap one (key_flips page q false t) in
      omega (arith, here, head, all, was));
  few = (let few = room.few in omega (arith, few));
}

-- how often each page is pinned then
pub kept_pins : (old new : CacheValue) (page : ℕ) → new ≡ with_pins page (pins_of old page + 1) old → IsResident old page → (q : ℕ) → pins_of new q ≡ pins_of old q + one (nat_eq q page)
kept_pins old new page set there q =
    let at = set_pins old new page (pins_of old page + 1) set there q in
    by_bool (nat_eq page q)
    (λ t. let here : pins_of new q ≡ pins_of old page + 1 = rw t at at in
    let same : pins_of old page ≡ pins_of old q = ap (pins_of old) (eqb-true page q t) in
    let head : one (nat_eq q page) ≡ 1 = ap one (key_flips page q true t) in
    omega (arith, here, same, head))
    (λ t. let here : pins_of new q ≡ pins_of old q = rw t at at in
    let head : one (nat_eq q page) ≡ 0 = ap one (key_flips page q false t) in
    omega (arith, here, head))

module _ {D E : Type 0} (M : MachineGhosts D) (S : SourceGhosts E) (source : E) (free : List Bool) (refusal : Option Refusal) where
  -- nothing more is kept
  pub spares_same : (m1 m2 : D) (a b : CacheValue) (spares : List ℕ) → FetchesOnly M S source refusal m1 m2 a b → ((q : ℕ) → pins_of b q ≡ pins_of a q) → AreSpare free spares → SparesOnly M S source free refusal m1 m2 a b spares spares
  spares_same m1 m2 a b spares fetches pins are = record { fetches = fetches; pins = λ q. ap (λ (n : ℕ). n + count_by (nat_eq q) spares) (pins q); spares = are }

  -- one page more is kept
  pub spares_more : (m1 m2 : D) (a b c : CacheValue) (spares : List ℕ) (page : ℕ) → FetchesOnly M S source refusal m1 m2 a b → ((q : ℕ) → pins_of b q ≡ pins_of a q)
      → c ≡ with_pins page (pins_of b page + 1) b → IsResident b page → AreSpare free spares → slice_index_or free page false ≡ true → is_among spares page ≡ false
      → SparesOnly M S source free refusal m1 m2 a c spares (spares ++ page ∷ [])
  spares_more m1 m2 a b c spares page fetches pins set there are is beside = record {
    fetches = fetches_pins M S source refusal m1 m2 a b c fetches (set_only b c page (pins_of b page + 1) set) (λ q. let more = kept_pins b c page set there q in omega (arith, more));
    pins = λ q.
        let more = kept_pins b c page set there q in let same = pins q in
        let parts = count_append q spares (page ∷ []) in let last = count_single q page in
        omega (arith, more, same, parts, last);
    spares = spare_more free spares page are is beside;
  }

  pub spares_then : Lasts S → (m1 m2 m3 : D) (a b c : CacheValue) (xs ys zs : List ℕ) → SparesOnly M S source free None m1 m2 a b xs ys → SparesOnly M S source free refusal m2 m3 b c ys zs → SparesOnly M S source free refusal m1 m3 a c xs zs
  spares_then lasts m1 m2 m3 a b c xs ys zs x y = record {
    fetches = fetches_then M S source lasts refusal m1 m2 m3 a b c x.fetches y.fetches;
    pins = λ q. let one = x.pins q in let two = y.pins q in omega (arith, one, two);
    spares = y.spares;
  }
