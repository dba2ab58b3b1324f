-- Pins that are taken back, one after another.
use Rattle.std.proofs.Common.{◌≡◌, ℕ, ◌+◌, ◌-◌, ◌<◌, ◌≤◌, true, false, cond, List, [], ◌∷◌, ◌++◌, length, take, get_or, IsSome, refl, sym, ap, ◌∙◌, subst, arith, eqb-true, eq-eqb, zero, suc}
use Rattle.std.specs.Prelude.{nat_eq, count_by}
use Rattle.std.proofs.lemmas.List.{take_more}
use Rattle.std.proofs.lemmas.List.Sums.{sum_by-append}
use Rattle.page_cache.specs.Cache.{CacheValue, IsResident, cached_bytes, pins_of, with_pins}
use Rattle.page_cache.proofs.Entries.{by_bool, key_flips}
use Rattle.page_cache.proofs.BusyLaws.{count_cons, one}
use Rattle.page_cache.proofs.KeepLaws.{bytes_resident, resident_bytes, pinned_bytes, pinned_pins, pinned_resident}
use Rattle.table_pages.specs.Bringing.{KeepsBytes, OnlyPins}

-- ---- how often a page stands in a list

pub count_append : (q : ℕ) (xs ys : List ℕ) → count_by (nat_eq q) (xs ++ ys) ≡ count_by (nat_eq q) xs + count_by (nat_eq q) ys
count_append q xs ys = sum_by-append (λ (x : ℕ). one (nat_eq q x)) xs ys

pub count_single : (q page : ℕ) → count_by (nat_eq q) (page ∷ []) ≡ one (nat_eq q page)
count_single q page = let all = count_cons (nat_eq q) page [] in omega (arith, all)

count_more : (q : ℕ) (pages : List ℕ) (i : ℕ) → i < length pages → count_by (nat_eq q) (take (i + 1) pages) ≡ count_by (nat_eq q) (take i pages) + one (nat_eq q (get_or pages i 0))
count_more q pages i lt =
    let more = ap (count_by (nat_eq q)) (take_more pages i 0 lt) in
    let parts = count_append q (take i pages) (get_or pages i 0 ∷ []) in
    let last = count_single q (get_or pages i 0) in
    omega (arith, more, parts, last)

pub count_take : (q : ℕ) (pages : List ℕ) (i : ℕ) → count_by (nat_eq q) (take i pages) ≤ count_by (nat_eq q) pages
count_take q [] zero = omega arith
count_take q [] (suc i) = omega arith
count_take q (p ∷ pages) zero = omega arith
count_take q (p ∷ pages) (suc i) =
    let a = count_cons (nat_eq q) p (take i pages) in let b = count_cons (nat_eq q) p pages in let on = count_take q pages i in omega (arith, a, b, on)

same_one : (q : ℕ) → one (nat_eq q q) ≡ 1
same_one q = ap one (eq-eqb q q refl)

-- ---- a page is unpinned, or pinned once more

module _ (old new : CacheValue) (page n : ℕ) (set : new ≡ with_pins page n old) where
  pub set_only : OnlyPins old new
  set_only = record {
    frames = ap (λ (c : CacheValue). c.frames) set;
    dirty = ap (λ (c : CacheValue). c.dirty) set;
    bytes = λ q. ap (λ (c : CacheValue). cached_bytes c q) set ∙ pinned_bytes page n old q;
  }

  pub set_pins : IsResident old page → (q : ℕ) → pins_of new q ≡ cond (nat_eq page q) n (pins_of old q)
  set_pins there q = ap (λ (c : CacheValue). pins_of c q) set ∙ pinned_pins page n old q there

-- the same bytes are of the same pages
pub same_there : (old new : CacheValue) → KeepsBytes old new → (q : ℕ) → IsResident old q → IsResident new q
same_there old new same q there = bytes_resident new q (subst (λ o. IsSome o) (sym (same q)) (resident_bytes old q there))

pub only_there : (old new : CacheValue) → OnlyPins old new → (q : ℕ) → IsResident old q → IsResident new q
only_there old new only q there = same_there old new only.bytes q there

pub only_then : (a b c : CacheValue) → OnlyPins a b → OnlyPins b c → OnlyPins a c
only_then a b c x y = record { frames = y.frames ∙ x.frames; dirty = y.dirty ∙ x.dirty; bytes = λ q. y.bytes q ∙ x.bytes q }

-- of the pages of a list those before a place are unpinned, and now the one that stands there
module _ (old mid new : CacheValue) (pages : List ℕ) (i : ℕ) (lt : i < length pages)
    (enough : (q : ℕ) → count_by (nat_eq q) pages ≤ pins_of old q)
    (pins : (q : ℕ) → pins_of mid q + count_by (nat_eq q) (take i pages) ≡ pins_of old q)
    (set : new ≡ with_pins (get_or pages i 0) (pins_of mid (get_or pages i 0) - 1) mid) where
  abbrev page : ℕ
  page = get_or pages i 0

  some : 0 < pins_of mid page
  some =
      let all = enough page in let now = pins page in let more = count_more page pages i lt in let most = count_take page pages (i + 1) in let self = same_one page in
      omega (arith, all, now, more, most, self)

  pub unpinned_more : (q : ℕ) → pins_of new q + count_by (nat_eq q) (take (i + 1) pages) ≡ pins_of old q
  unpinned_more q =
      let more = count_more q pages i lt in
      let now = pins q in
      let set_at = set_pins mid new page (pins_of mid page - 1) set (pinned_resident mid page some) q in
      by_bool (nat_eq page q)
      (λ t. let is : page ≡ q = eqb-true page q t in
      let here : pins_of new q ≡ pins_of mid q - 1 = (rw t at set_at) ∙ ap (λ (k : ℕ). pins_of mid k - 1) is in
      let one_is : one (nat_eq q page) ≡ 1 = ap one (key_flips page q true t) in
      let left : 0 < pins_of mid q = subst (λ (k : ℕ). 0 < pins_of mid k) is some in
      omega (arith, here, more, now, one_is, left))
      (λ t. let here : pins_of new q ≡ pins_of mid q = rw t at set_at in
      let none : one (nat_eq q page) ≡ 0 = ap one (key_flips page q false t) in
      omega (arith, here, more, now, none))
