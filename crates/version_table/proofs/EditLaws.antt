-- What comes and goes among entries in the order of their keys: the words of the table's edits are those of the files.
use Rattle.std.proofs.Common.{◌≡◌, ℕ, Bool, true, false, cond, not, ◌||◌, List, [], ◌∷◌, ◌++◌, map, filter, Option, Some, refl, sym, ap, subst, ◌∙◌}
use Rattle.std.specs.List.{list_any, AllByRecursion}
use Rattle.std.specs.Ordering.{is_eq, is_gt, is_lt}
use Rattle.std.specs.declared.cmp.Ordering.{Ordering}
use Rattle.std.specs.declared.cmp.Ordering.TheVariants.{Less, Equal, Greater}
use Rattle.std.specs.FinMap.Entries.{by_order}
use Rattle.std.specs.Ordering.{ordering_reverse}
use Rattle.fsd_bytes.specs.declared.key.Key.{Key}
use Rattle.fsd_bytes.specs.Keys.{key_cmp, key_lt, same_key}
use Rattle.fsd_formats.specs.declared.entry.Entry.{Entry}
use Rattle.fsd_table.specs.Pages.{entry_keys}
use Rattle.fsd_table.proofs.BoundLaws.{Ascend, ascend_tail, all_weaker}
use Rattle.fsd_table.proofs.KeyLaws.{keys_total, lt_lt, less}
use Rattle.fsd_files.specs.Answers.{entry_of, entry_put, entry_kept, entries_with_keep}
use Rattle.fsd_files.specs.Volume.{entries_without}
use Rattle.fsd_files.proofs.ListingLaws.{alike_is, entries_without_none}
use Rattle.name_btree.specs.Map.{without_all}
use Rattle.name_page.specs.declared.entries.Side.TheVariants.{Lesser, Greater as Above}
use Rattle.name_page.specs.Edits.{beside, put, with_entry, without, is_on}
use Rattle.name_page.specs.Lookups.{entry_with}
use Rattle.name_page.proofs.PutLaws.{ascend_head, found_in, others_beside, put_beside, Others}
use Rattle.name_page.proofs.SideLaws.{beside_none, beside_whole, ascend_cons}

-- ---- keys above one

abbrev pub AllAbove : Key → List Entry → Type 0
AllAbove key xs = AllByRecursion (λ e. key_lt key e.key ≡ true) xs

above_cmp : (a b : Key) → key_lt a b ≡ true → key_cmp b a ≡ Greater
above_cmp a b e = keys_total.antisymm b a ∙ ap ordering_reverse (less (key_cmp a b) e)

below_cmp : (a b : Key) → key_cmp a b ≡ Greater → key_lt b a ≡ true
below_cmp a b e = ap is_lt (keys_total.antisymm b a ∙ ap ordering_reverse e)

further : (a b : Key) (xs : List Entry) → key_lt a b ≡ true → AllAbove b xs → AllAbove a xs
further a b xs ab all = all_weaker (λ (e : Entry). key_lt b e.key ≡ true) (λ (e : Entry). key_lt a e.key ≡ true) xs (λ e h. lt_lt a b e.key ab h) all

no_lesser : (key : Key) (xs : List Entry) → AllAbove key xs → beside Lesser key xs ≡ []
no_lesser key xs all = beside_none Lesser key xs (all_weaker (λ (e : Entry). key_lt key e.key ≡ true) (λ (e : Entry). is_on Lesser key e ≡ false) xs (λ e h. ap is_lt (above_cmp key e.key h)) all)

all_greater : (key : Key) (xs : List Entry) → AllAbove key xs → beside Above key xs ≡ xs
all_greater key xs all = beside_whole Above key xs (all_weaker (λ (e : Entry). key_lt key e.key ≡ true) (λ (e : Entry). is_on Above key e ≡ true) xs (λ e h. ap is_gt (above_cmp key e.key h)) all)

-- ---- one that goes

pub without_one : (key : Key) (xs : List Entry) → Ascend xs → without key xs ≡ entries_without (key ∷ []) xs
without_one key [] asc = refl
without_one key (x ∷ xs) asc = by (key_cmp x.key key) refl (without_one key xs (ascend_tail x.key (entry_keys xs) asc))
  where
    l : List Entry
    l = beside Lesser key xs

    g : List Entry
    g = beside Above key xs

    w : List Entry
    w = entries_without (key ∷ []) xs

    by : (o : Ordering) → key_cmp x.key key ≡ o → l ++ g ≡ w → cond (is_lt o) (x ∷ l) l ++ cond (is_gt o) (x ∷ g) g ≡ cond (not (is_eq o || false)) (x ∷ w) w
    by Less is rest = ap (λ (ys : List Entry). x ∷ ys) rest
    by Equal is rest = rest
    by Greater is rest =
        let none : l ≡ [] = no_lesser key xs (further key x.key xs (below_cmp x.key key is) (ascend_head x.key xs asc)) in
        ap (λ (ys : List Entry). ys ++ (x ∷ g)) none ∙ ap (λ (ys : List Entry). x ∷ ys) (ap (λ (ys : List Entry). ys ++ g) (sym none) ∙ rest)

-- ---- some that go, one after another

pub kept_ascend : (p : Entry → Bool) (xs : List Entry) → Ascend xs → Ascend (filter p xs)
kept_ascend p [] asc = refl
kept_ascend p (x ∷ xs) asc = by (p x) (kept_ascend p xs (ascend_tail x.key (entry_keys xs) asc)) (kept_above xs (ascend_head x.key xs asc))
  where
    kept_above : (ys : List Entry) → AllAbove x.key ys → AllAbove x.key (filter p ys)
    kept_above [] all = tt
    kept_above (y ∷ ys) all = one (p y) (kept_above ys all.1)
      where
        one : (b : Bool) → AllAbove x.key (filter p ys) → AllAbove x.key (cond b (y ∷ filter p ys) (filter p ys))
        one true rest = (all.0, rest)
        one false rest = rest

    by : (b : Bool) → Ascend (filter p xs) → AllAbove x.key (filter p xs) → Ascend (cond b (x ∷ filter p xs) (filter p xs))
    by true rest all = ascend_cons x (filter p xs) all rest
    by false rest all = rest

without_twice : (key : Key) (keys : List Key) (xs : List Entry) → entries_without keys (entries_without (key ∷ []) xs) ≡ entries_without (key ∷ keys) xs
without_twice key keys [] = refl
without_twice key keys (x ∷ xs) = by (same_key x.key key) (list_any (same_key x.key) keys) refl (without_twice key keys xs)
  where
    w : List Entry
    w = entries_without (key ∷ []) xs

    k : List Entry
    k = entries_without (key ∷ keys) xs

    by : (b c : Bool) → list_any (same_key x.key) keys ≡ c → entries_without keys w ≡ k → entries_without keys (cond (not (b || false)) (x ∷ w) w) ≡ cond (not (b || c)) (x ∷ k) k
    by true c is rest = rest
    by false c is rest = ap (λ (v : Bool). cond (not v) (x ∷ entries_without keys w) (entries_without keys w)) is ∙ ap (λ (ys : List Entry). cond (not c) (x ∷ ys) ys) rest

pub without_some : (keys : List Key) (xs : List Entry) → Ascend xs → without_all keys xs ≡ entries_without keys xs
without_some [] xs asc = sym (entries_without_none xs)
without_some (key ∷ keys) xs asc =
    ap (without_all keys) (without_one key xs asc) ∙ without_some keys (entries_without (key ∷ []) xs) (kept_ascend _ xs asc) ∙ without_twice key keys xs

-- ---- one that comes

put_first : (e : Entry) (xs : List Entry) → AllAbove e.key xs → entry_put e xs ≡ e ∷ xs
put_first e [] all = refl
put_first e (x ∷ xs) all = ap (λ (o : Ordering). by_order o (e ∷ x ∷ xs) (e ∷ xs) (x ∷ entry_put e xs)) (less (key_cmp e.key x.key) all.0)

put_is_with : (e : Entry) (xs : List Entry) → Ascend xs → with_entry e xs ≡ entry_put e xs
put_is_with e [] asc = refl
put_is_with e (x ∷ xs) asc = by (key_cmp e.key x.key) refl (put_is_with e xs (ascend_tail x.key (entry_keys xs) asc))
  where
    turned : (o : Ordering) → key_cmp e.key x.key ≡ o → key_cmp x.key e.key ≡ ordering_reverse o
    turned o is = keys_total.antisymm x.key e.key ∙ ap ordering_reverse is

    above : AllAbove x.key xs
    above = ascend_head x.key xs asc

    by : (o : Ordering) → key_cmp e.key x.key ≡ o → with_entry e xs ≡ entry_put e xs → with_entry e (x ∷ xs) ≡ by_order o (e ∷ x ∷ xs) (e ∷ xs) (x ∷ entry_put e xs)
    by Less is rest =
        let all : AllAbove e.key (x ∷ xs) = (ap is_lt is, further e.key x.key xs (ap is_lt is) above) in
        ap (λ (ys : List Entry). ys ++ (e ∷ beside Above e.key (x ∷ xs))) (no_lesser e.key (x ∷ xs) all) ∙ ap (λ (ys : List Entry). e ∷ ys) (all_greater e.key (x ∷ xs) all)
    by Equal is rest =
        let all : AllAbove e.key xs = subst (λ (k : Key). AllAbove k xs) (sym (alike_is e.key x.key is)) above in
        ap (λ (o : Ordering). cond (is_lt o) (x ∷ beside Lesser e.key xs) (beside Lesser e.key xs) ++ (e ∷ cond (is_gt o) (x ∷ beside Above e.key xs) (beside Above e.key xs))) (turned Equal is)
        ∙ ap (λ (ys : List Entry). ys ++ (e ∷ beside Above e.key xs)) (no_lesser e.key xs all) ∙ ap (λ (ys : List Entry). e ∷ ys) (all_greater e.key xs all)
    by Greater is rest =
        ap (λ (o : Ordering). cond (is_lt o) (x ∷ beside Lesser e.key xs) (beside Lesser e.key xs) ++ (e ∷ cond (is_gt o) (x ∷ beside Above e.key xs) (beside Above e.key xs))) (turned Greater is)
        ∙ ap (λ (ys : List Entry). x ∷ ys) rest

-- an entry that stays comes before others go, or after
put_then_without : (e : Entry) (keys : List Key) (xs : List Entry) → list_any (same_key e.key) keys ≡ false → Ascend xs → entry_put e (entries_without keys xs) ≡ entries_without keys (entry_put e xs)
put_then_without e keys [] stays asc = ap (λ (b : Bool). cond (not b) (e ∷ []) []) (sym stays)
put_then_without e keys (x ∷ xs) stays asc = by (key_cmp e.key x.key) refl (list_any (same_key x.key) keys) refl (put_then_without e keys xs stays (ascend_tail x.key (entry_keys xs) asc))
  where
    w : List Entry
    w = entries_without keys xs

    above : AllAbove x.key w
    above = kept_above xs (ascend_head x.key xs asc)
      where
        kept_above : (ys : List Entry) → AllAbove x.key ys → AllAbove x.key (entries_without keys ys)
        kept_above [] all = tt
        kept_above (y ∷ ys) all = one (list_any (same_key y.key) keys) (kept_above ys all.1)
          where
            one : (b : Bool) → AllAbove x.key (entries_without keys ys) → AllAbove x.key (cond (not b) (y ∷ entries_without keys ys) (entries_without keys ys))
            one true rest = rest
            one false rest = (all.0, rest)

    -- what is put in front stays
    front : (ys : List Entry) → cond (not (list_any (same_key e.key) keys)) (e ∷ entries_without keys ys) (entries_without keys ys) ≡ e ∷ entries_without keys ys
    front ys = ap (λ (b : Bool). cond (not b) (e ∷ entries_without keys ys) (entries_without keys ys)) stays

    by : (o : Ordering) → key_cmp e.key x.key ≡ o → (b : Bool) → list_any (same_key x.key) keys ≡ b → entry_put e w ≡ entries_without keys (entry_put e xs)
        → entry_put e (cond (not b) (x ∷ w) w) ≡ entries_without keys (by_order o (e ∷ x ∷ xs) (e ∷ xs) (x ∷ entry_put e xs))
    by Less is true out rest =
        put_first e w (further e.key x.key w (ap is_lt is) above)
        ∙ sym (front (x ∷ xs) ∙ ap (λ (v : Bool). e ∷ cond (not v) (x ∷ w) w) out)
    by Less is false out rest =
        put_first e (x ∷ w) (ap is_lt is, further e.key x.key w (ap is_lt is) above)
        ∙ sym (front (x ∷ xs) ∙ ap (λ (v : Bool). e ∷ cond (not v) (x ∷ w) w) out)
    by Equal is true out rest = absurd (let both : true ≡ false = sym out ∙ ap (λ (k : Key). list_any (same_key k) keys) (sym (alike_is e.key x.key is)) ∙ stays in cc)
    by Equal is false out rest = ap (λ (o : Ordering). by_order o (e ∷ x ∷ w) (e ∷ w) (x ∷ entry_put e w)) is ∙ sym (front xs)
    by Greater is true out rest = rest ∙ sym (ap (λ (v : Bool). cond (not v) (x ∷ entries_without keys (entry_put e xs)) (entries_without keys (entry_put e xs))) out)
    by Greater is false out rest =
        ap (λ (o : Ordering). by_order o (e ∷ x ∷ w) (e ∷ w) (x ∷ entry_put e w)) is ∙ ap (λ (ys : List Entry). x ∷ ys) rest
        ∙ sym (ap (λ (v : Bool). cond (not v) (x ∷ entries_without keys (entry_put e xs)) (entries_without keys (entry_put e xs))) out)

pub entered_is : (e : Entry) (keys : List Key) (xs : List Entry) → list_any (same_key e.key) keys ≡ false → Ascend xs → with_entry e (without_all keys xs) ≡ entries_without keys (entry_put e xs)
entered_is e keys xs stays asc =
    ap (with_entry e) (without_some keys xs asc) ∙ put_is_with e (entries_without keys xs) (kept_ascend _ xs asc) ∙ put_then_without e keys xs stays asc

-- ---- another keep

pub with_is : (key : Key) (xs : List Entry) → entry_with key xs ≡ entry_of key xs
with_is key [] = refl
with_is key (x ∷ xs) = ap (λ (o : Option Entry). cond (same_key x.key key) (Some x) o) (with_is key xs)

kept_others : (key : Key) (keep : ℕ) (xs : List Entry) → Others key xs → entries_with_keep key keep xs ≡ xs
kept_others key keep [] all = refl
kept_others key keep (x ∷ xs) all = λ i. entry_kept (all.0 i) keep x ∷ kept_others key keep xs all.1 i

kept_append : (key : Key) (keep : ℕ) (xs ys : List Entry) → entries_with_keep key keep (xs ++ ys) ≡ entries_with_keep key keep xs ++ entries_with_keep key keep ys
kept_append key keep [] ys = refl
kept_append key keep (x ∷ xs) ys = ap (λ (zs : List Entry). entry_kept (same_key x.key key) keep x ∷ zs) (kept_append key keep xs ys)

put_is_kept : (e : Entry) (keep : ℕ) → cond (same_key e.key e.key) (record e { keep = keep }) e ≡ entry_kept (same_key e.key e.key) keep e
put_is_kept e keep = by (same_key e.key e.key)
  where
    by : (b : Bool) → cond b (record e { keep = keep }) e ≡ entry_kept b keep e
    by true = refl
    by false = refl

pub kept_is : (e : Entry) (keep : ℕ) (xs : List Entry) → Ascend xs → entry_of e.key xs ≡ Some e → map (put (record e { keep = keep })) xs ≡ entries_with_keep e.key keep xs
kept_is e keep xs asc there =
    let at = found_in e.key xs e (with_is e.key xs ∙ there) in
    let others = others_beside at.left e at.right (subst Ascend at.parts asc) in
    ap (map (put (record e { keep = keep }))) at.parts
    ∙ put_beside (record e { keep = keep }) at.left (e ∷ []) at.right others.0 others.1
    ∙ ap (λ (y : Entry). at.left ++ (y ∷ at.right)) (put_is_kept e keep)
    ∙ sym (
    ap (entries_with_keep e.key keep) at.parts ∙ kept_append e.key keep at.left (e ∷ at.right)
    ∙ (λ i. kept_others e.key keep at.left others.0 i ++ (entry_kept (same_key e.key e.key) keep e ∷ kept_others e.key keep at.right others.1 i))
    )
