-- The versions of a name, met one after another, and those that go.
use Rattle.std.proofs.Common.{◌≡◌, ℕ, zero, suc, ◌+◌, ◌-◌, ◌≤◌, min, Bool, true, false, cond, ◌&&◌, ◌||◌, List, [], ◌∷◌, ◌++◌, length, take, map, filter, Option, Some, None, refl, sym, ap, subst, ◌∙◌, arith, length-append}
use Rattle.std.specs.Prelude.{◌==◌}
use Rattle.std.specs.List.{list_any, last_or, AllByRecursion}
use Rattle.std.specs.Option.{option_or}
use Rattle.std.specs.Cmp.{nat_cmp_is}
use Rattle.std.specs.Cmp.Lexicographic.{nat_list_cmp_total, slice_cmp}
use Rattle.std.specs.FinMap.{slice_cmp-IsAntisymmetric, nat_cmp-IsAntisymmetric}
use Rattle.std.specs.Ordering.{is_eq, is_lt, nat_cmp, ordering_then}
use Rattle.std.proofs.lemmas.Cmp.{tied_itself}
use Rattle.std.specs.declared.cmp.Ordering.{Ordering}
use Rattle.std.specs.declared.cmp.Ordering.TheVariants.{Less, Equal, Greater}
use Rattle.std.proofs.lemmas.Bool.{eqb-false, false_from_ne_true, ne_eqb}
use Rattle.std.proofs.lemmas.List.{take-take, take-append-le, length-map}
use Rattle.fsd_bytes.specs.Bytes.{same_bytes}
use Rattle.fsd_bytes.proofs.SameLaws.{same_is, is_same}
use Rattle.fsd_bytes.specs.declared.key.Key.{Key}
use Rattle.fsd_bytes.specs.Keys.{key_lt, key_of, same_key}
use Rattle.fsd_formats.specs.declared.entry.Entry.{Entry}
use Rattle.fsd_table.specs.Pages.{entry_keys}
use Rattle.fsd_table.proofs.BoundLaws.{Ascend, ascend_tail}
use Rattle.fsd_table.proofs.KeyLaws.{keys_total, lt_lt, lt_itself}
use Rattle.fsd_files.specs.Answers.{highest_entry}
use Rattle.fsd_files.specs.Files.{gone}
use Rattle.fsd_files.specs.Volume.{entries_at}
use Rattle.name_page.specs.Lookups.{first_after, last_that, same_name}
use Rattle.name_page.proofs.PutLaws.{ascend_head, gt_unequal, lt_unequal}
use Rattle.version_table.specs.Versions.{oldest_beyond, versions_behind, versions_of}
use Rattle.version_table.proofs.EditLaws.{AllAbove}

-- the next one is the first behind, if it has the name
abbrev pub IsNext : Key → List Entry → Option Entry → Type 0
IsNext key table None = versions_behind key table ≡ []
IsNext key table (Some e) = cond (same_bytes key.name e.key.name) (versions_behind key table ≡ e ∷ versions_behind e.key table) (versions_behind key table ≡ [])

-- ---- all behind a key

-- no other name stands between two versions of one
between : (a b c : Key) → key_lt a b ≡ true → key_lt b c ≡ true → a.name ≡ c.name → a.name ≡ b.name
between a b c ab bc same = by (slice_cmp nat_cmp a.name b.name) refl (slice_cmp nat_cmp b.name c.name) refl ab bc
  where
    tied : slice_cmp nat_cmp a.name c.name ≡ Equal
    tied = ap (slice_cmp nat_cmp a.name) (sym same) ∙ tied_itself nat_list_cmp_total a.name

    by : (o : Ordering) → slice_cmp nat_cmp a.name b.name ≡ o → (u : Ordering) → slice_cmp nat_cmp b.name c.name ≡ u
        → is_lt (ordering_then o (nat_cmp a.version b.version)) ≡ true → is_lt (ordering_then u (nat_cmp b.version c.version)) ≡ true → a.name ≡ b.name
    by Equal is u be ab bc = slice_cmp-IsAntisymmetric nat_cmp-IsAntisymmetric a.name b.name is
    by Greater is u be ab bc = absurd cc
    by Less is Greater be ab bc = absurd cc
    by Less is Less be ab bc = absurd (let no : Equal ≡ Less = sym tied ∙ nat_list_cmp_total.trans a.name b.name c.name is be in cc)
    by Less is Equal be ab bc =
        let one : b.name ≡ c.name = slice_cmp-IsAntisymmetric nat_cmp-IsAntisymmetric b.name c.name be in
        absurd (let no : Equal ≡ Less = sym tied ∙ ap (slice_cmp nat_cmp a.name) (sym one) ∙ is in cc)

none_behind : (key : Key) (x : Entry) (xs : List Entry) → key_lt key x.key ≡ true → same_bytes key.name x.key.name ≡ false → AllAbove x.key xs → versions_behind key xs ≡ []
none_behind key x [] lt other all = refl
none_behind key x (y ∷ xs) lt other all = by (same_bytes key.name y.key.name) refl (none_behind key x xs lt other all.1)
  where
    by : (b : Bool) → same_bytes key.name y.key.name ≡ b → versions_behind key xs ≡ [] → cond (b && key_lt key y.key) (y ∷ versions_behind key xs) (versions_behind key xs) ≡ []
    by false is rest = rest
    by true is rest =
        let same : key.name ≡ x.key.name = between key x.key y.key lt all.0 (same_is key.name y.key.name is) in
        absurd (let bad : true ≡ false = sym (ap (same_bytes key.name) (sym same) ∙ is_same key.name) ∙ other in cc)

-- those behind the one that was found
same_behind : (key : Key) (x : Entry) (xs : List Entry) → key_lt key x.key ≡ true → key.name ≡ x.key.name → AllAbove x.key xs → versions_behind key xs ≡ versions_behind x.key xs
same_behind key x [] lt same all = refl
same_behind key x (y ∷ xs) lt same all =
    let on : key_lt key y.key ≡ true = lt_lt key x.key y.key lt all.0 in
    (λ i. cond (same_bytes (same i) y.key.name && on i) (y ∷ same_behind key x xs lt same all.1 i) (same_behind key x xs lt same all.1 i))
    ∙ sym (ap (λ (b : Bool). cond (same_bytes x.key.name y.key.name && b) (y ∷ versions_behind x.key xs) (versions_behind x.key xs)) all.0)

not_itself : (x : Entry) (xs : List Entry) → versions_behind x.key (x ∷ xs) ≡ versions_behind x.key xs
not_itself x xs = ap (λ (b : Bool). cond (b && key_lt x.key x.key) (x ∷ versions_behind x.key xs) (versions_behind x.key xs)) (is_same x.key.name) ∙ ap (λ (b : Bool). cond b (x ∷ versions_behind x.key xs) (versions_behind x.key xs)) (lt_itself x.key)

-- the next one, and those behind it
pub first_behind : (key : Key) (table : List Entry) → Ascend table → IsNext key table (first_after (Some key) table)
first_behind key [] asc = refl
first_behind key (x ∷ xs) asc = by (key_lt key x.key) refl (first_behind key xs (ascend_tail x.key (entry_keys xs) asc))
  where
    above : AllAbove x.key xs
    above = ascend_head x.key xs asc

    here : (b : Bool) → key_lt key x.key ≡ true → same_bytes key.name x.key.name ≡ b → cond b (cond (b && true) (x ∷ versions_behind key xs) (versions_behind key xs) ≡ x ∷ versions_behind x.key xs) (cond (b && true) (x ∷ versions_behind key xs) (versions_behind key xs) ≡ [])
    here true lt is = ap (λ (ys : List Entry). x ∷ ys) (same_behind key x xs lt (same_is key.name x.key.name is) above)
    here false lt is = none_behind key x xs lt is above

    by : (b : Bool) → key_lt key x.key ≡ b → IsNext key xs (first_after (Some key) xs) → IsNext key (x ∷ xs) (cond b (Some x) (first_after (Some key) xs))
    by true lt rest =
        let one = here (same_bytes key.name x.key.name) lt refl in
        let mine : cond (same_bytes key.name x.key.name && true) (x ∷ versions_behind key xs) (versions_behind key xs) ≡ versions_behind key (x ∷ xs) = ap (λ (b : Bool). cond (same_bytes key.name x.key.name && b) (x ∷ versions_behind key xs) (versions_behind key xs)) (sym lt) in
        let own : versions_behind x.key xs ≡ versions_behind x.key (x ∷ xs) = sym (not_itself x xs) in
        subst (λ (ys : List Entry). cond (same_bytes key.name x.key.name) (ys ≡ x ∷ versions_behind x.key (x ∷ xs)) (ys ≡ [])) mine
        (subst (λ (zs : List Entry). cond (same_bytes key.name x.key.name) (cond (same_bytes key.name x.key.name && true) (x ∷ versions_behind key xs) (versions_behind key xs) ≡ x ∷ zs) (cond (same_bytes key.name x.key.name && true) (x ∷ versions_behind key xs) (versions_behind key xs) ≡ [])) own one)
    by false lt rest =
        let mine : versions_behind key xs ≡ versions_behind key (x ∷ xs) = sym (ap (λ (b : Bool). cond (same_bytes key.name x.key.name && b) (x ∷ versions_behind key xs) (versions_behind key xs)) lt ∙ no (same_bytes key.name x.key.name)) in
        later (first_after (Some key) xs) refl rest mine
      where
        no : (b : Bool) → cond (b && false) (x ∷ versions_behind key xs) (versions_behind key xs) ≡ versions_behind key xs
        no true = refl
        no false = refl

        past : (e : Entry) → first_after (Some key) xs ≡ Some e → versions_behind e.key xs ≡ versions_behind e.key (x ∷ xs)
        past e is = sym (ap (λ (b : Bool). cond (same_bytes e.key.name x.key.name && b) (x ∷ versions_behind e.key xs) (versions_behind e.key xs)) (found_above e xs is above) ∙ none_of e (same_bytes e.key.name x.key.name))
          where
            none_of : (e : Entry) (b : Bool) → cond (b && false) (x ∷ versions_behind e.key xs) (versions_behind e.key xs) ≡ versions_behind e.key xs
            none_of e true = refl
            none_of e false = refl

            not_lt : (a b : Key) → key_lt a b ≡ true → key_lt b a ≡ false
            not_lt a b ab = false_from_ne_true (key_lt b a) (λ ba. let bad : true ≡ false = sym (lt_lt a b a ab ba) ∙ lt_itself a in cc)

            found_above : (e : Entry) (ys : List Entry) → first_after (Some key) ys ≡ Some e → AllAbove x.key ys → key_lt e.key x.key ≡ false
            found_above e [] is all = absurd cc
            found_above e (y ∷ ys) is all = at (key_lt key y.key) is (λ h. found_above e ys h all.1)
              where
                at : (b : Bool) → cond b (Some y) (first_after (Some key) ys) ≡ Some e → (first_after (Some key) ys ≡ Some e → key_lt e.key x.key ≡ false) → key_lt e.key x.key ≡ false
                at true h go = let same : y ≡ e = cc in ap (λ (z : Entry). key_lt z.key x.key) (sym same) ∙ not_lt x.key y.key all.0
                at false h go = go h

        later : (o : Option Entry) → first_after (Some key) xs ≡ o → IsNext key xs o → versions_behind key xs ≡ versions_behind key (x ∷ xs) → IsNext key (x ∷ xs) o
        later None is first mine = sym mine ∙ first
        later (Some e) is first mine =
            subst (λ (ys : List Entry). cond (same_bytes key.name e.key.name) (ys ≡ e ∷ versions_behind e.key (x ∷ xs)) (ys ≡ [])) mine
            (subst (λ (zs : List Entry). cond (same_bytes key.name e.key.name) (versions_behind key xs ≡ e ∷ zs) (versions_behind key xs ≡ [])) (past e is) first)

-- all versions stand behind the number 0
abbrev pub IsNumbered : Entry → Type 0
IsNumbered e = 1 ≤ e.key.version

-- ---- the highest

pub last_is : (test : Entry → Bool) (o : Option Entry) (xs : List Entry) → last_or o (filter test xs) ≡ option_or (last_that test xs) o
last_is test o [] = refl
last_is test o (x ∷ xs) = by (test x) (λ p. last_is test p xs)
  where
    or_or : (a b c : Option Entry) → option_or (option_or a b) c ≡ option_or a (option_or b c)
    or_or None b c = refl
    or_or (Some x) b c = refl

    by : (b : Bool) → ((p : Option Entry) → last_or p (filter test xs) ≡ option_or (last_that test xs) p) → last_or o (cond b (x ∷ filter test xs) (filter test xs)) ≡ option_or (option_or (last_that test xs) (cond b (Some x) None)) o
    by true rest = rest (Some x) ∙ sym (or_or (last_that test xs) (Some x) o)
    by false rest = rest o ∙ sym (or_or (last_that test xs) None o)

pub same_both : (a b : List ℕ) → same_name a b ≡ same_bytes b a
same_both a b = by (same_name a b) refl (same_bytes b a) refl
  where
    named : (x y : List ℕ) → x ≡ y → same_name x y ≡ true
    named x y is = ap (same_name x) (sym is) ∙ ap is_eq (tied_itself nat_list_cmp_total x)

    equal : (o : Ordering) → is_eq o ≡ true → o ≡ Equal
    equal Less e = absurd cc
    equal Equal e = refl
    equal Greater e = absurd cc

    by : (v : Bool) → same_name a b ≡ v → (w : Bool) → same_bytes b a ≡ w → v ≡ w
    by true is true be = refl
    by false is false be = refl
    by true is false be = absurd (
        let one : a ≡ b = slice_cmp-IsAntisymmetric nat_cmp-IsAntisymmetric a b (equal (slice_cmp nat_cmp a b) is) in
        let no : false ≡ true = sym be ∙ ap (same_bytes b) one ∙ is_same b in
        cc
        )
    by false is true be = absurd (let no : true ≡ false = sym (named a b (sym (same_is b a be))) ∙ is in cc)

pub highest_is : (name : List ℕ) (table : List Entry) → last_that (λ e. same_name e.key.name name) table ≡ highest_entry name table
highest_is name table = same_last table ∙ or_none (last_that (λ e. same_bytes name e.key.name) table) ∙ sym (last_is (λ e. same_bytes name e.key.name) None table)
  where
    or_none : (o : Option Entry) → o ≡ option_or o None
    or_none None = refl
    or_none (Some x) = refl

    same_last : (xs : List Entry) → last_that (λ e. same_name e.key.name name) xs ≡ last_that (λ e. same_bytes name e.key.name) xs
    same_last [] = refl
    same_last (x ∷ xs) = λ i. option_or (same_last xs i) (cond (same_both x.key.name name i) (Some x) None)

-- ---- those that go

pub beyond_is : (keep count : ℕ) (versions met : List Entry) → 1 ≤ keep → count ≡ min (keep + 1) (length versions) → met ≡ take (min 2 count) versions → take (count + 1 - keep) met ≡ oldest_beyond keep versions
beyond_is keep count versions met some is first =
    ap (take (count + 1 - keep)) first ∙ take-take (count + 1 - keep) (min 2 count) versions (omega (arith, is, some))
    ∙ ap (λ (n : ℕ). take n versions) (let same : count + 1 - keep ≡ min 2 (length versions + 1 - keep) = omega (arith, is, some) in same)
    ∙ sym (ap (λ (b : Bool). cond b [] (take (min 2 (length versions + 1 - keep)) versions)) (ne_eqb keep 0 (λ e. omega (arith, e, some))))

map_take : (n : ℕ) (xs : List Entry) → map (λ e. e.key) (take n xs) ≡ take n (map (λ e. e.key) xs)
map_take zero xs = refl
map_take (suc n) [] = refl
map_take (suc n) (x ∷ xs) = ap (λ (ks : List Key). x.key ∷ ks) (map_take n xs)

pub keys_beyond : (keep : ℕ) (key : Key) (versions : List Entry) → map (λ e. e.key) (oldest_beyond keep versions) ≡ gone keep (map (λ e. e.key) versions ++ key ∷ [])
keys_beyond keep key versions = by (keep == 0) refl
  where
    keys : List Key
    keys = map (λ e. e.key) versions

    by : (b : Bool) → (keep == 0) ≡ b → map (λ e. e.key) (cond b [] (take (min 2 (length versions + 1 - keep)) versions)) ≡ cond b [] (take (min 2 (length (keys ++ key ∷ []) - keep)) (keys ++ key ∷ []))
    by true is = refl
    by false is =
        let some : 1 ≤ keep = omega (arith, eqb-false keep 0 is) in
        let long : length (keys ++ key ∷ []) ≡ length versions + 1 = length-append keys (key ∷ []) ∙ ap (λ (n : ℕ). n + 1) (length-map versions (λ (e : Entry). e.key)) in
        map_take (min 2 (length versions + 1 - keep)) versions
        ∙ sym (take-append-le (min 2 (length versions + 1 - keep)) keys (key ∷ []) (omega (arith, some, length-map versions (λ (e : Entry). e.key))))
        ∙ ap (λ (n : ℕ). take (min 2 (n - keep)) (keys ++ key ∷ [])) (sym long)

-- the first of the versions are those with their keys
pub entries_of_keys : (test : Entry → Bool) (n : ℕ) (table : List Entry) → Ascend table → take n (filter test table) ≡ entries_at (map (λ e. e.key) (take n (filter test table))) table
entries_of_keys test zero table asc = none table
  where
    none : (xs : List Entry) → [] ≡ entries_at [] xs
    none [] = refl
    none (x ∷ xs) = none xs
entries_of_keys test (suc n) [] asc = refl
entries_of_keys test (suc n) (x ∷ xs) asc = by (test x) (entries_of_keys test n xs rest) (entries_of_keys test (suc n) xs rest)
  where
    rest : Ascend xs
    rest = ascend_tail x.key (entry_keys xs) asc

    above : AllAbove x.key xs
    above = ascend_head x.key xs asc

    f : List Entry
    f = filter test xs

    kept_above : (ys : List Entry) → AllAbove x.key ys → AllAbove x.key (filter test ys)
    kept_above [] all = tt
    kept_above (y ∷ ys) all = one (test y) (kept_above ys all.1)
      where
        one : (b : Bool) → AllAbove x.key (filter test ys) → AllAbove x.key (cond b (y ∷ filter test ys) (filter test ys))
        one true more = (all.0, more)
        one false more = more

    take_above : (m : ℕ) (ys : List Entry) → AllAbove x.key ys → AllAbove x.key (take m ys)
    take_above zero ys all = tt
    take_above (suc m) [] all = tt
    take_above (suc m) (y ∷ ys) all = (all.0, take_above m ys all.1)

    -- the key stands before all of them
    not_in : (ys : List Entry) → AllAbove x.key ys → list_any (same_key x.key) (map (λ e. e.key) ys) ≡ false
    not_in [] all = refl
    not_in (y ∷ ys) all = ap (λ (b : Bool). b || list_any (same_key x.key) (map (λ e. e.key) ys)) (lt_unequal x.key y.key all.0) ∙ not_in ys all.1

    -- a lesser key takes none of them
    without_lesser : (keys : List Key) (ys : List Entry) → AllAbove x.key ys → entries_at (x.key ∷ keys) ys ≡ entries_at keys ys
    without_lesser keys [] all = refl
    without_lesser keys (y ∷ ys) all =
        λ i. cond (gt_unequal y.key x.key all.0 i || list_any (same_key y.key) keys) (y ∷ without_lesser keys ys all.1 i) (without_lesser keys ys all.1 i)

    by : (b : Bool) → take n f ≡ entries_at (map (λ e. e.key) (take n f)) xs → take (suc n) f ≡ entries_at (map (λ e. e.key) (take (suc n) f)) xs
        → take (suc n) (cond b (x ∷ f) f) ≡ entries_at (map (λ e. e.key) (take (suc n) (cond b (x ∷ f) f))) (x ∷ xs)
    by true one more =
        ap (λ (ys : List Entry). x ∷ ys) (one ∙ sym (without_lesser (map (λ e. e.key) (take n f)) xs above))
        ∙ sym (ap (λ (b : Bool). cond (b || list_any (same_key x.key) (map (λ e. e.key) (take n f))) (x ∷ entries_at (x.key ∷ map (λ e. e.key) (take n f)) xs) (entries_at (x.key ∷ map (λ e. e.key) (take n f)) xs)) (ap is_eq (tied_itself keys_total x.key)))
    by false one more =
        more ∙ sym (ap (λ (b : Bool). cond b (x ∷ entries_at (map (λ e. e.key) (take (suc n) f)) xs) (entries_at (map (λ e. e.key) (take (suc n) f)) xs)) (not_in (take (suc n) f) (take_above (suc n) f (kept_above xs above))))

-- ---- all behind the number 0

nothing_less : (name : List ℕ) (e : Entry) → 1 ≤ e.key.version → (same_bytes name e.key.name && key_lt (key_of name 0) e.key) ≡ same_bytes name e.key.name
nothing_less name e some = by (same_bytes name e.key.name) refl
  where
    by : (b : Bool) → same_bytes name e.key.name ≡ b → (b && key_lt (key_of name 0) e.key) ≡ b
    by false is = refl
    by true is =
        ap (λ (o : Ordering). is_lt (ordering_then o (nat_cmp 0 e.key.version))) (ap (slice_cmp nat_cmp name) (sym (same_is name e.key.name is)) ∙ tied_itself nat_list_cmp_total name)
        ∙ ap is_lt (sym (nat_cmp_is 0 e.key.version Less some))

pub all_behind : (name : List ℕ) (table : List Entry) → AllByRecursion IsNumbered table → versions_behind (key_of name 0) table ≡ versions_of name table
all_behind name [] all = refl
all_behind name (x ∷ xs) all = λ i. cond (nothing_less name x all.0 i) (x ∷ all_behind name xs all.1 i) (all_behind name xs all.1 i)
