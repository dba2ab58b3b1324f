-- What stamps do to the frames of a cache, and how their images lie.
use Rattle.std.proofs.Common.{◌≡◌, ℕ, zero, suc, ◌<◌, Bool, true, false, cond, ◌||◌, List, [], ◌∷◌, ◌++◌, length, map, take, get_or, option_map, Option, Some, None, IsSome, refl, sym, ap, subst, ◌∙◌, arith, eqb-true}
use Rattle.std.proofs.lemmas.Option.{same_Some}
use Rattle.std.proofs.Math.Bool.{or_assoc}
use Rattle.std.specs.Prelude.{nat_eq, nat_lt}
use Rattle.std.specs.List.{AllByRecursion, IsDistinct}
use Rattle.std.specs.Option.{option_map_or}
use Rattle.std.specs.Map.{keys_of, lookup}
use Rattle.std.proofs.lemmas.Bool.{and_parts, ltb-true}
use Rattle.std.proofs.lemmas.Map.Keys.{IsDistinct-head, IsDistinct-tail}
use Rattle.fsd_formats.specs.Record.{Stamp, ascending}
use Rattle.page_cache.specs.Cache.{CacheValue, Held, IsCache, IsResident, altered, cached_bytes, held, is_among, page_written}
use Rattle.page_cache.proofs.Entries.{by_bool}
use Rattle.group_commit.specs.Cached.{frame_bytes, held_stamped, stamped_frames}
use Rattle.group_commit.specs.Resident.{with_stamp}

-- ---- one page more in a list

or_none : (b : Bool) → (b || (false || false)) ≡ b
or_none true = refl
or_none false = refl

or_one : (b : Bool) → (b || (true || false)) ≡ true
or_one true = refl
or_one false = refl

one_more : (xs : List ℕ) (page q : ℕ) → is_among (xs ++ page ∷ []) q ≡ (is_among xs q || (nat_eq page q || false))
one_more [] page q = refl
one_more (x ∷ xs) page q = ap (λ (b : Bool). nat_eq x q || b) (one_more xs page q) ∙ sym (or_assoc (nat_eq x q) (is_among xs q) (nat_eq page q || false))

one_other : (xs : List ℕ) (page q : ℕ) → nat_eq page q ≡ false → is_among (xs ++ page ∷ []) q ≡ is_among xs q
one_other xs page q is = one_more xs page q ∙ ap (λ (b : Bool). is_among xs q || (b || false)) is ∙ or_none (is_among xs q)

one_same : (xs : List ℕ) (page q : ℕ) → nat_eq page q ≡ true → is_among (xs ++ page ∷ []) q ≡ true
one_same xs page q is = one_more xs page q ∙ ap (λ (b : Bool). is_among xs q || (b || false)) is ∙ or_one (is_among xs q)

-- ---- entries that are stamped

module _ (stamp : Stamp) where
  abbrev entries : List ℕ → List (ℕ × Held) → List (ℕ × Held)
  entries xs es = map (λ e. (e.0, held_stamped stamp (is_among xs e.0) e.1)) es

  -- the page is none of these
  rest_other : (xs : List ℕ) (page : ℕ) (f : Held → Held) (es : List (ℕ × Held)) → AllByRecursion (λ q. nat_eq page q ≡ false) (keys_of es) → altered page f (entries xs es) ≡ entries (xs ++ page ∷ []) es
  rest_other xs page f [] all = refl
  rest_other xs page f (x ∷ es) all =
      let stays : cond (nat_eq page x.0) (f (held_stamped stamp (is_among xs x.0) x.1)) (held_stamped stamp (is_among xs x.0) x.1) ≡ held_stamped stamp (is_among (xs ++ page ∷ []) x.0) x.1 =
      ap (λ (b : Bool). cond b (f (held_stamped stamp (is_among xs x.0) x.1)) (held_stamped stamp (is_among xs x.0) x.1)) all.0
      ∙ ap (λ (b : Bool). held_stamped stamp b x.1) (sym (one_other xs page x.0 all.0)) in
      λ i. (x.0, stays i) ∷ rest_other xs page f es all.1 i

  all_as : (x page : ℕ) → nat_eq page x ≡ true → (ks : List ℕ) → AllByRecursion (λ q. nat_eq x q ≡ false) ks → AllByRecursion (λ q. nat_eq page q ≡ false) ks
  all_as x page is ks all = subst (λ (k : ℕ). AllByRecursion (λ q. nat_eq k q ≡ false) ks) (sym (eqb-true page x is)) all

  entries_more : (xs : List ℕ) (page : ℕ) (bytes : List ℕ) (es : List (ℕ × Held)) → IsDistinct nat_eq (keys_of es) → is_among xs page ≡ false → option_map (λ (h : Held). h.bytes) (lookup (nat_eq page) (entries xs es)) ≡ Some bytes
      → altered page (λ h. record h { bytes = with_stamp stamp bytes }) (entries xs es) ≡ entries (xs ++ page ∷ []) es
  entries_more xs page bytes [] d out has = refl
  entries_more xs page bytes (x ∷ es) d out has = by_bool (nat_eq page x.0)
      (λ t.
      let new : is_among xs x.0 ≡ false = subst (λ (q : ℕ). is_among xs q ≡ false) (eqb-true page x.0 t) out in
      let old : held_stamped stamp (is_among xs x.0) x.1 ≡ x.1 = ap (λ (b : Bool). held_stamped stamp b x.1) new in
      let found : Some (held_stamped stamp (is_among xs x.0) x.1).bytes ≡ Some bytes = rw t at has in
      let same : x.1.bytes ≡ bytes = sym (ap (λ (h : Held). h.bytes) old) ∙ same_Some _ _ found in
      let here : cond (nat_eq page x.0) (record (held_stamped stamp (is_among xs x.0) x.1) { bytes = with_stamp stamp bytes }) (held_stamped stamp (is_among xs x.0) x.1) ≡ held_stamped stamp (is_among (xs ++ page ∷ []) x.0) x.1 =
      ap (λ (b : Bool). cond b (record (held_stamped stamp (is_among xs x.0) x.1) { bytes = with_stamp stamp bytes }) (held_stamped stamp (is_among xs x.0) x.1)) t
      ∙ (λ i. record (old i) { bytes = with_stamp stamp (sym same i) })
      ∙ ap (λ (b : Bool). held_stamped stamp b x.1) (sym (one_same xs page x.0 t)) in
      let others = rest_other xs page (λ h. record h { bytes = with_stamp stamp bytes }) es (all_as x.0 page t (keys_of es) (IsDistinct-head nat_eq x.0 (keys_of es) d)) in
      λ i. (x.0, here i) ∷ others i)
      (λ t.
      let here : cond (nat_eq page x.0) (record (held_stamped stamp (is_among xs x.0) x.1) { bytes = with_stamp stamp bytes }) (held_stamped stamp (is_among xs x.0) x.1) ≡ held_stamped stamp (is_among (xs ++ page ∷ []) x.0) x.1 =
      ap (λ (b : Bool). cond b (record (held_stamped stamp (is_among xs x.0) x.1) { bytes = with_stamp stamp bytes }) (held_stamped stamp (is_among xs x.0) x.1)) t
      ∙ ap (λ (b : Bool). held_stamped stamp b x.1) (sym (one_other xs page x.0 t)) in
      let others = entries_more xs page bytes es (IsDistinct-tail nat_eq x.0 (keys_of es) d) out (rw t at has) in
      λ i. (x.0, here i) ∷ others i)

  entries_lookup : (xs : List ℕ) (q : ℕ) (es : List (ℕ × Held)) → lookup (nat_eq q) (entries xs es) ≡ option_map (held_stamped stamp (is_among xs q)) (lookup (nat_eq q) es)
  entries_lookup xs q [] = refl
  entries_lookup xs q (x ∷ es) = by_bool (nat_eq q x.0)
      (λ t. let same : q ≡ x.0 = eqb-true q x.0 t in
      rw t (ap (λ (k : ℕ). Some (held_stamped stamp (is_among xs k) x.1)) (sym same)))
      (λ t. rw t (entries_lookup xs q es))

  entries_none : (es : List (ℕ × Held)) → entries [] es ≡ es
  entries_none [] = refl
  entries_none (x ∷ es) = ap (λ (ys : List (ℕ × Held)). x ∷ ys) (entries_none es)

  pub stamped_none : (c : CacheValue) → stamped_frames stamp [] c ≡ c
  stamped_none c = λ i. record c { resident = entries_none c.resident i }

  -- the same pages in another order
  pub stamped_same : (xs ys : List ℕ) (c : CacheValue) → ((p : ℕ) → is_among xs p ≡ is_among ys p) → stamped_frames stamp xs c ≡ stamped_frames stamp ys c
  stamped_same xs ys c same = λ i. record c { resident = map (λ e. (e.0, held_stamped stamp (same e.0 i) e.1)) c.resident }

  -- a page more is stamped
  pub stamped_one : (xs : List ℕ) (page : ℕ) (bytes : List ℕ) (c d : CacheValue) → IsCache c → is_among xs page ≡ false → d ≡ stamped_frames stamp xs c → cached_bytes d page ≡ Some bytes
      → page_written page (with_stamp stamp bytes) d ≡ stamped_frames stamp (xs ++ page ∷ []) c
  stamped_one xs page bytes c d cache out is has =
      let there = subst (λ (v : CacheValue). cached_bytes v page ≡ Some bytes) is has in
      ap (page_written page (with_stamp stamp bytes)) is
      ∙ (λ i. record c { resident = entries_more xs page bytes c.resident cache.pages out there i })

  pub held_then : (xs : List ℕ) (c : CacheValue) (q : ℕ) → held (stamped_frames stamp xs c) q ≡ option_map (held_stamped stamp (is_among xs q)) (held c q)
  held_then xs c q = entries_lookup xs q c.resident

  pub there_then : (xs : List ℕ) (c : CacheValue) (q : ℕ) → IsResident c q → IsResident (stamped_frames stamp xs c) q
  there_then xs c q there = subst (λ (o : Option Held). IsSome o) (sym (held_then xs c q)) (some (held c q) there)
    where
      some : (o : Option Held) → IsSome o → IsSome (option_map (held_stamped stamp (is_among xs q)) o)
      some None h = h
      some (Some x) h = refl

  -- the bytes of a frame that is stamped
  pub bytes_then : (xs : List ℕ) (c : CacheValue) (q : ℕ) → is_among xs q ≡ true → IsResident c q → frame_bytes (stamped_frames stamp xs c) q ≡ with_stamp stamp (frame_bytes c q)
  bytes_then xs c q is there =
      ap (λ (o : Option Held). option_map_or (λ bytes. bytes) (option_map (λ (h : Held). h.bytes) o) []) (held_then xs c q ∙ ap (λ (b : Bool). option_map (held_stamped stamp b) (held c q)) is) ∙ by (held c q) there
    where
      by : (o : Option Held) → IsSome o → option_map_or (λ (bytes : List ℕ). bytes) (option_map (λ (h : Held). h.bytes) (option_map (held_stamped stamp true) o)) [] ≡ with_stamp stamp (option_map_or (λ (bytes : List ℕ). bytes) (option_map (λ (h : Held). h.bytes) o) [])
      by None h = absurd (cc h)
      by (Some x) h = refl

pub frame_is : (c : CacheValue) (q : ℕ) → IsResident c q → cached_bytes c q ≡ Some (frame_bytes c q)
frame_is c q there = by (held c q) there
  where
    by : (o : Option Held) → IsSome o → option_map (λ (h : Held). h.bytes) o ≡ Some (option_map_or (λ (bytes : List ℕ). bytes) (option_map (λ (h : Held). h.bytes) o) [])
    by None h = absurd (cc h)
    by (Some x) h = refl

-- ---- the pages of an ascending list

pub not_before : (xs : List ℕ) (k : ℕ) → ascending xs ≡ true → k < length xs → is_among (take k xs) (get_or xs k 0) ≡ false
not_before [] k asc lt = absurd (omega arith)
not_before (x ∷ xs) zero asc lt = refl
not_before (x ∷ xs) (suc k) asc lt =
    ap (λ (b : Bool). b || is_among (take k xs) (get_or xs k 0)) (below x xs k asc (omega arith)) ∙ not_before xs k (tail x xs asc) (omega arith)
  where
    tail : (a : ℕ) (xs : List ℕ) → ascending (a ∷ xs) ≡ true → ascending xs ≡ true
    tail a [] asc = refl
    tail a (b ∷ xs) asc = (and_parts (nat_lt a b) (ascending (b ∷ xs)) asc).1

    later : (a : ℕ) (xs : List ℕ) (k : ℕ) → ascending (a ∷ xs) ≡ true → k < length xs → a < get_or xs k 0
    later a [] k asc lt = absurd (omega arith)
    later a (b ∷ xs) zero asc lt = ltb-true a b (and_parts (nat_lt a b) (ascending (b ∷ xs)) asc).0
    later a (b ∷ xs) (suc k) asc lt = let first : a < b = ltb-true a b (and_parts (nat_lt a b) (ascending (b ∷ xs)) asc).0 in
        let more : b < get_or xs k 0 = later b xs k (and_parts (nat_lt a b) (ascending (b ∷ xs)) asc).1 (omega arith) in omega arith

    below : (a : ℕ) (xs : List ℕ) (k : ℕ) → ascending (a ∷ xs) ≡ true → k < length xs → nat_eq a (get_or xs k 0) ≡ false
    below a xs k asc lt = let less : a < get_or xs k 0 = later a xs k asc lt in by_bool (nat_eq a (get_or xs k 0)) (λ t. absurd (let e : a ≡ get_or xs k 0 = eqb-true a (get_or xs k 0) t in omega (arith, e))) (λ t. t)
