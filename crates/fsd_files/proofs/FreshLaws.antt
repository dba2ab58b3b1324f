-- The key of a new version is new, and the last of its name.
use Rattle.std.proofs.Common.{◌≡◌, ◌⊎◌, inl, inr, ℕ, ◌+◌, ◌<◌, ◌≤◌, Bool, true, false, cond, List, [], ◌∷◌, ◌++◌, Option, Some, None, Ordering, refl, sym, ap, ◌∙◌, arith}
use Rattle.std.specs.Prelude.{T, unwrap_or, option_map}
use Rattle.std.specs.List.{AllByRecursion, last_or}
use Rattle.std.specs.Cmp.{nat_cmp_is}
use Rattle.std.specs.Cmp.Lexicographic.{nat_list_cmp_total, slice_cmp}
use Rattle.std.specs.FinMap.{is_sorted, put}
use Rattle.std.specs.FinMap.Entries.{below_all, by_order}
use Rattle.std.specs.Ordering.{is_eq, is_lt, nat_cmp, ordering_then}
use Rattle.std.specs.declared.cmp.Ordering.TheVariants.{Less, Equal, Greater}
use Rattle.std.proofs.lemmas.Bool.{and_parts, cases_lt, false_from_ne_true}
use Rattle.std.proofs.lemmas.Cmp.{tied_itself}
use Rattle.fsd_bytes.specs.Bytes.{same_bytes}
use Rattle.fsd_bytes.proofs.SameLaws.{same_is, is_same}
use Rattle.fsd_bytes.specs.declared.key.Key.{Key}
use Rattle.fsd_bytes.specs.Keys.{key_cmp, same_key}
use Rattle.fsd_formats.specs.declared.entry.Entry.{Entry}
use Rattle.fsd_files.specs.Files.{File, Files, highest, new_key, of_name, version_of}
use Rattle.fsd_files.specs.Answers.{entry_of}
use Rattle.fsd_files.specs.Kept.{Lists}
use Rattle.fsd_files.proofs.HistoryLaws.{put_in_order}
use Rattle.fsd_files.proofs.ListingLaws.{alike_is, same_key_is, same_key_turned}

pub less_is : (x y : ℕ) → is_lt (nat_cmp x y) ≡ true → x < y
less_is x y e = by (cases_lt x y)
  where
    by : (x < y) ⊎ (y ≤ x) → x < y
    by (inl lt) = lt
    by (inr le) = elim (cases_lt y x) [
      | inl gt ↦ absurd (let bad : false ≡ true = ap is_lt (nat_cmp_is x y Greater gt) ∙ e in cc)
      | inr same ↦ absurd (let bad : false ≡ true = ap is_lt (nat_cmp_is x y Equal (omega (arith, le, same))) ∙ e in cc)
    ]

-- of two keys of one name the lesser has the lesser version
versions_ascend : (a b : Key) → a.name ≡ b.name → is_lt (key_cmp a b) ≡ true → a.version < b.version
versions_ascend a b same lt =
    let tied : slice_cmp nat_cmp a.name b.name ≡ Equal = ap (slice_cmp nat_cmp a.name) (sym same) ∙ tied_itself nat_list_cmp_total a.name in
    let by_version = ap (λ (o : Ordering). is_lt (ordering_then o (nat_cmp a.version b.version))) tied in
    less_is a.version b.version (sym by_version ∙ lt)

abbrev most_of : Option (Key × File) → ℕ
most_of o = unwrap_or (option_map version_of o) 0

abbrev pub IsOf : List ℕ → Key × File → Type 0
IsOf name y = same_bytes name y.0.name ≡ true

same_names : (name : List ℕ) (a b : Key) → same_bytes name a.name ≡ true → same_bytes name b.name ≡ true → a.name ≡ b.name
same_names name a b x y = sym (same_is name a.name x) ∙ same_is name b.name y

-- a version is at most the last behind it of its name
behind_it : (name : List ℕ) (y : Key × File) (s : Files) → IsOf name y → (is_sorted key_cmp (y ∷ s) ≡ true) → version_of y ≤ most_of (last_or (Some y) (of_name name s))
behind_it name y [] of sorted = omega arith
behind_it name y (z ∷ s) of sorted = by (same_bytes name z.0.name) refl (behind_it name y s of skipped) (λ here. behind_it name z s here parts.1)
  where
    parts : (below_all key_cmp y.0 (z ∷ s) ≡ true) × (is_sorted key_cmp (z ∷ s) ≡ true)
    parts = and_parts (below_all key_cmp y.0 (z ∷ s)) (is_sorted key_cmp (z ∷ s)) sorted

    below : (is_lt (key_cmp y.0 z.0) ≡ true) × (below_all key_cmp y.0 s ≡ true)
    below = and_parts (is_lt (key_cmp y.0 z.0)) (below_all key_cmp y.0 s) parts.0

    skipped : (is_sorted key_cmp (y ∷ s) ≡ true)
    skipped = Rattle.std.proofs.lemmas.Bool.and_from (below_all key_cmp y.0 s) (is_sorted key_cmp s) below.1 (and_parts (below_all key_cmp z.0 s) (is_sorted key_cmp s) parts.1).1

    by : (b : Bool) → same_bytes name z.0.name ≡ b → version_of y ≤ most_of (last_or (Some y) (of_name name s)) → (IsOf name z → version_of z ≤ most_of (last_or (Some z) (of_name name s)))
        → version_of y ≤ most_of (last_or (Some y) (cond b (z ∷ of_name name s) (of_name name s)))
    by false is rest there = rest
    by true is rest there =
        let lt : version_of y < version_of z = versions_ascend y.0 z.0 (same_names name y.0 z.0 of is) below.0 in
        let le = there is in
        omega (arith, lt, le)

-- all versions of a name are at most its highest
at_most_highest : (name : List ℕ) (o : Option (Key × File)) (s : Files) → (is_sorted key_cmp s ≡ true) → AllByRecursion (λ y. IsOf name y → version_of y ≤ most_of (last_or o (of_name name s))) s
at_most_highest name o [] sorted = tt
at_most_highest name o (y ∷ s) sorted = by (same_bytes name y.0.name) refl (λ p. at_most_highest name p s parts.1)
  where
    parts : (below_all key_cmp y.0 s ≡ true) × (is_sorted key_cmp s ≡ true)
    parts = and_parts (below_all key_cmp y.0 s) (is_sorted key_cmp s) sorted

    by : (b : Bool) → same_bytes name y.0.name ≡ b → ((p : Option (Key × File)) → AllByRecursion (λ z. IsOf name z → version_of z ≤ most_of (last_or p (of_name name s))) s)
        → (IsOf name y → version_of y ≤ most_of (last_or o (cond b (y ∷ of_name name s) (of_name name s)))) × AllByRecursion (λ z. IsOf name z → version_of z ≤ most_of (last_or o (cond b (y ∷ of_name name s) (of_name name s)))) s
    by true is rest = ((λ of. behind_it name y s of sorted), rest (Some y))
    by false is rest = ((λ of. absurd (let bad : true ≡ false = sym of ∙ is in cc)), rest o)

pub of_T : (b : Bool) → T b → b ≡ true
of_T true h = refl
of_T false h = absurd h

to_T : (b : Bool) → b ≡ true → T b
to_T true is = tt
to_T false is = absurd cc

-- no entry has the key
abbrev pub IsAbsent : Key → List Entry → Type 0
IsAbsent key entries = AllByRecursion (λ z. key_cmp key z.key ≡ Equal → ⊥) entries

-- so it is where none is found by it
pub absent_key : (key : Key) (entries : List Entry) → entry_of key entries ≡ None → IsAbsent key entries
absent_key key [] none = tt
absent_key key (z ∷ entries) none = by (λ h. absent_key key entries h) (same_key z.key key) refl none
  where
    by : (entry_of key entries ≡ None → IsAbsent key entries) → (b : Bool) → same_key z.key key ≡ b → cond b (Some z) (entry_of key entries) ≡ None → IsAbsent key (z ∷ entries)
    by again true same none = absurd (cc none)
    by again false other none = ((λ e. absurd (let bad : true ≡ false = sym (ap is_eq e) ∙ same_key_turned key z.key ∙ other in cc)), again none)

-- that of a new version
pub new_key_is_new : (name : List ℕ) (s : Files) (entries : List Entry) → T (is_sorted key_cmp s) → Lists s entries → IsAbsent (new_key name s) entries
new_key_is_new name s entries sorted lists = by s entries (at_most_highest name None s (of_T (is_sorted key_cmp s) sorted)) lists
  where
    one : (y : Key × File) (z : Entry) → (IsOf name y → version_of y ≤ most_of (highest name s)) → z.key ≡ y.0 → key_cmp (new_key name s) z.key ≡ Equal → ⊥
    one y z most same tied =
        let is : new_key name s ≡ y.0 = alike_is (new_key name s) z.key tied ∙ same in
        let named : name ≡ y.0.name = ap (λ (k : Key). k.name) is in
        let version : most_of (highest name s) + 1 ≡ version_of y = ap (λ (k : Key). k.version) is in
        let le = most (ap (same_bytes name) (sym named) ∙ is_same name) in
        omega (arith, version, le)

    by : (t : Files) (entries : List Entry) → AllByRecursion (λ y. IsOf name y → version_of y ≤ most_of (highest name s)) t → Lists t entries → IsAbsent (new_key name s) entries
    by [] [] all lists = tt
    by [] (z ∷ entries) all lists = absurd lists
    by (y ∷ t) [] all lists = absurd lists
    by (y ∷ t) (z ∷ entries) all lists = (one y z all.0 lists.0.key, by t entries all.1 lists.1)

-- ---- it comes as the last of its name

module _ (name : List ℕ) (k : Key) (x : File) (named : k.name ≡ name) where
  abbrev pub IsLower : Key × File → Type 0
  IsLower y = IsOf name y → version_of y < k.version

  none_above : (s : Files) → AllByRecursion IsLower s → below_all key_cmp k s ≡ true → of_name name s ≡ []
  none_above [] lower below = refl
  none_above (y ∷ s) lower below = ap (λ (b : Bool). cond b (y ∷ of_name name s) (of_name name s)) other ∙ none_above s lower.1 parts.1
    where
      parts : (is_lt (key_cmp k y.0) ≡ true) × (below_all key_cmp k s ≡ true)
      parts = and_parts (is_lt (key_cmp k y.0)) (below_all key_cmp k s) below

      other : same_bytes name y.0.name ≡ false
      other = false_from_ne_true (same_bytes name y.0.name) (λ here.
          let lt = versions_ascend k y.0 (named ∙ same_is name y.0.name here) parts.0 in
          let back = lower.0 here in
          absurd (omega (arith, lt, back)))

  is_named : same_bytes name k.name ≡ true
  is_named = ap (same_bytes name) named ∙ is_same name

  -- where all versions of the name are lower
  pub stands_last : (s : Files) → T (is_sorted key_cmp s) → AllByRecursion IsLower s → of_name name (put key_cmp k x s) ≡ of_name name s ++ (k, x) ∷ []
  stands_last [] sorted lower = ap (λ (b : Bool). cond b ((k, x) ∷ []) []) is_named
  stands_last (y ∷ s) sorted lower = by (key_cmp k y.0) refl (put_in_order k x (y ∷ s) sorted) (stands_last s (to_T (is_sorted key_cmp s) parts.1) lower.1)
    where
      parts : (below_all key_cmp y.0 s ≡ true) × (is_sorted key_cmp s ≡ true)
      parts = and_parts (below_all key_cmp y.0 s) (is_sorted key_cmp s) (of_T (is_sorted key_cmp (y ∷ s)) sorted)

      in_front : (vs : Files) → vs ≡ [] → cond (same_bytes name k.name) ((k, x) ∷ vs) vs ≡ vs ++ (k, x) ∷ []
      in_front vs none = ap (λ (b : Bool). cond b ((k, x) ∷ vs) vs) is_named ∙ ap (λ (ys : Files). (k, x) ∷ ys) none ∙ ap (λ (ys : Files). ys ++ (k, x) ∷ []) (sym none)

      behind : (b : Bool) → of_name name (put key_cmp k x s) ≡ of_name name s ++ (k, x) ∷ []
          → cond b (y ∷ of_name name (put key_cmp k x s)) (of_name name (put key_cmp k x s)) ≡ cond b (y ∷ of_name name s) (of_name name s) ++ (k, x) ∷ []
      behind true rest = ap (λ (ys : Files). y ∷ ys) rest
      behind false rest = rest

      by : (o : Ordering) → key_cmp k y.0 ≡ o → T (is_sorted key_cmp (by_order o ((k, x) ∷ y ∷ s) ((y.0, x) ∷ s) (y ∷ put key_cmp k x s))) → of_name name (put key_cmp k x s) ≡ of_name name s ++ (k, x) ∷ []
          → of_name name (by_order o ((k, x) ∷ y ∷ s) ((y.0, x) ∷ s) (y ∷ put key_cmp k x s)) ≡ of_name name (y ∷ s) ++ (k, x) ∷ []
      by Less is order rest =
          in_front (of_name name (y ∷ s)) (none_above (y ∷ s) lower (and_parts (below_all key_cmp k (y ∷ s)) (is_sorted key_cmp (y ∷ s)) (of_T (is_sorted key_cmp ((k, x) ∷ y ∷ s)) order)).0)
      by Equal is order rest =
          let same : k ≡ y.0 = alike_is k y.0 is in
          let less = lower.0 (ap (λ (a : Key). same_bytes name a.name) (sym same) ∙ is_named) in
          absurd (omega (arith, less, ap (λ (a : Key). a.version) same))
      by Greater is order rest = behind (same_bytes name y.0.name) rest

  -- its key is that of none of them
  pub differs : (s : Files) → AllByRecursion IsLower s → AllByRecursion (λ y. same_key k y.0 ≡ false) s
  differs [] lower = tt
  differs (y ∷ s) lower = (
    false_from_ne_true (same_key k y.0) (λ here.
        let same : k ≡ y.0 = same_key_is k y.0 here in
        let less = lower.0 (ap (λ (a : Key). same_bytes name a.name) (sym same) ∙ is_named) in
        absurd (omega (arith, less, ap (λ (a : Key). a.version) same))),
    differs s lower.1,
  )

-- all versions of a name are lower than its new one
pub new_is_highest : (name : List ℕ) (s : Files) → T (is_sorted key_cmp s) → AllByRecursion (λ y. IsOf name y → version_of y < (new_key name s).version) s
new_is_highest name s sorted = by s (at_most_highest name None s (of_T (is_sorted key_cmp s) sorted))
  where
    by : (t : Files) → AllByRecursion (λ y. IsOf name y → version_of y ≤ most_of (highest name s)) t → AllByRecursion (λ y. IsOf name y → version_of y < (new_key name s).version) t
    by [] all = tt
    by (y ∷ t) all = ((λ of. let le = all.0 of in omega (arith, le)), by t all.1)
