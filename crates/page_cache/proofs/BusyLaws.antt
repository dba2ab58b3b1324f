-- How many pages are dirty or pinned, after each call.
use Rattle.std.proofs.Common.{◌≡◌, ℕ, ◌+◌, ◌≤◌, Bool, true, false, cond, not, ◌&&◌, ◌||◌, List, [], ◌∷◌, ◌++◌, length, reverse, is_some, Some, None, IsSome, refl, sym, ap, ◌∙◌, subst, arith, eqb-true}
use Rattle.std.proofs.Math.Bool.{or-false}
use Rattle.std.specs.Prelude.{nat_eq, find, count_by, ◌==◌}
use Rattle.std.specs.List.{AllByRecursion, IsDistinct}
use Rattle.std.specs.Map.{lookup, lookup_entry, remove_entry, keys_of}
use Rattle.std.proofs.lemmas.Bool.{true≢false}
use Rattle.std.proofs.lemmas.List.Folds.{list_any-append}
use Rattle.std.proofs.lemmas.List.Sums.{sum_by-cons}
use Rattle.std.proofs.lemmas.Map.Keys.{IsDistinct-head, IsDistinct-tail}
use Rattle.page_cache.specs.Cache.{Held, CacheValue, IsCache, IsResident, held, is_among, may_leave, idle, IsBusy, busy, frame_for, leaver, staying, altered, used, entered_page, with_pins, with_dirty}
use Rattle.page_cache.proofs.Entries.{by_bool, by_option, entry_some, find_back, entry_none, lookup_removed}
use Rattle.page_cache.proofs.CacheLaws.{promoted_is, used_absent}
use Rattle.page_cache.proofs.ShownLaws.{altered_none}

abbrev pub one : Bool → ℕ
one t = cond t 1 0

at_most_one : (t : Bool) → one t ≤ 1
at_most_one true = omega arith
at_most_one false = omega arith

module _ {X : Type 0} (p : X → Bool) where
  pub count_cons : (x : X) (xs : List X) → count_by p (x ∷ xs) ≡ one (p x) + count_by p xs
  count_cons = sum_by-cons (λ y. one (p y))

module _ (p : ℕ × Held → Bool) where
  pub count_removed : (test : ℕ → Bool) (es : List (ℕ × Held)) (e : ℕ × Held) → lookup_entry test es ≡ Some e → one (p e) + count_by p (remove_entry test es) ≡ count_by p es
  count_removed test [] e is = cc
  count_removed test (x ∷ es) e is = by_bool (test x.0)
      (λ t. let is2 = rw t at is in let same : x ≡ e = cc in rw t (ap (λ (y : ℕ × Held). one (p y) + count_by p es) (sym same) ∙ sym (count_cons p x es)))
      (λ t. let on = count_removed test es e (rw t at is) in let a = count_cons p x (remove_entry test es) in let b = count_cons p x es in rw t (omega (arith, on, a, b)))

pub busy_used : (page : ℕ) (c : CacheValue) → busy (used page c) ≡ busy c
busy_used page c = by_option (held c page)
    (λ x is. let finds = entry_some (nat_eq page) c.resident (rw is refl) in
    ap (count_by (λ e. not (idle c e))) (promoted_is page c.resident finds) ∙ count_cons (λ e. not (idle c e)) finds.entry (remove_entry (nat_eq page) c.resident) ∙ count_removed (λ e. not (idle c e)) (nat_eq page) c.resident finds.entry finds.is)
    (λ none. ap busy (used_absent page c none))

-- a page that is not in memory is not dirty
not_dirty : (page : ℕ) (P : ℕ → Type 0) (ds : List ℕ) → AllByRecursion P ds → (P page → ⊥) → is_among ds page ≡ false
not_dirty page P [] h never = refl
not_dirty page P (d ∷ ds) h never = by_bool (nat_eq d page) (λ t. absurd (never (subst P (eqb-true d page t) h.0))) (λ t. rw t (not_dirty page P ds h.1 never))

-- what stays beside a page that enters has as many
busy_staying : (c : CacheValue) → IsCache c → count_by (λ e. not (idle c e)) (staying (leaver c) c.resident) ≡ busy c
busy_staying c h = by_bool (length c.resident == c.frames)
    (λ full. by_option (find (idle c) (reverse c.resident))
    (λ e is. let on = find_back (idle c) c.resident e h.pages is in
    let less = count_removed (λ g. not (idle c g)) (nat_eq e.0) c.resident e on.0 in
    let zero : one (not (idle c e)) ≡ 0 = ap (λ (t : Bool). one (not t)) on.1 in
    rw (full, is) (omega (arith, less, zero)))
    (λ none. rw (full, none) refl))
    (λ free. rw free refl)

pub busy_entered : (page : ℕ) (bytes : List ℕ) (c : CacheValue) → IsCache c → held c page ≡ None → busy (entered_page page bytes c) ≡ busy c
busy_entered page bytes c h new =
    let clean = not_dirty page (IsResident c) c.dirty h.waiting (λ some. true≢false (sym some ∙ ap is_some new)) in
    let head : one (not (may_leave c.dirty page 0)) ≡ 0 = ap (λ (u : Bool). one (not ((0 == 0) && not u))) clean in
    let first = count_cons (λ (e : ℕ × Held). not (idle c e)) (page, record { frame = frame_for c; bytes = bytes; pins = 0 }) (staying (leaver c) c.resident) in
    let rest = busy_staying c h in
    omega (arith, first, head, rest)

module _ (page pins : ℕ) (c : CacheValue) where
  abbrev f : Held → Held
  f h = record h { pins = pins }

  abbrev is_busy : ℕ × Held → Bool
  is_busy e = not (idle c e)

  count_altered : (es : List (ℕ × Held)) → IsDistinct nat_eq (keys_of es) → count_by is_busy (altered page f es) ≤ count_by is_busy es + 1
  count_altered [] d = omega arith
  count_altered (x ∷ es) d =
      let after = count_cons is_busy (x.0, cond (nat_eq page x.0) (f x.1) x.1) (altered page f es) in
      let before = count_cons is_busy x es in
      by_bool (nat_eq page x.0)
      (λ t. let keys : AllByRecursion (λ k. nat_eq page k ≡ false) (keys_of es) = subst (λ (k : ℕ). AllByRecursion (λ z. nat_eq k z ≡ false) (keys_of es)) (sym (eqb-true page x.0 t)) (IsDistinct-head nat_eq x.0 (keys_of es) d) in
      let rest : count_by is_busy (altered page f es) ≡ count_by is_busy es = ap (count_by is_busy) (altered_none [] page f es keys) in
      let small = at_most_one (is_busy (x.0, cond (nat_eq page x.0) (f x.1) x.1)) in
      omega (arith, after, before, rest, small))
      (λ t. let on = count_altered es (IsDistinct-tail nat_eq x.0 (keys_of es) d) in
      let same : one (is_busy (x.0, cond (nat_eq page x.0) (f x.1) x.1)) ≡ one (is_busy x) = ap (λ (h : Held). one (is_busy (x.0, h))) (ap (λ (u : Bool). cond u (f x.1) x.1) t) in
      omega (arith, after, before, on, same))

  pub busy_pinned : IsCache c → busy (with_pins page pins c) ≤ busy c + 1
  busy_pinned h = count_altered c.resident h.pages

module _ (page : ℕ) (ds : List ℕ) where
  abbrev was : ℕ × Held → Bool
  was e = not (may_leave ds e.0 e.1.pins)

  abbrev is : ℕ × Held → Bool
  is e = not (may_leave (ds ++ page ∷ []) e.0 e.1.pins)

  other : (e : ℕ × Held) → nat_eq page e.0 ≡ false → is e ≡ was e
  other e t = ap (λ (u : Bool). not ((e.1.pins == 0) && not u)) (list_any-append (λ q. nat_eq q e.0) ds (page ∷ []) ∙ rw t (or-false (is_among ds e.0)))

  count_same : (es : List (ℕ × Held)) → AllByRecursion (λ k. nat_eq page k ≡ false) (keys_of es) → count_by is es ≡ count_by was es
  count_same [] k = refl
  count_same (x ∷ es) k =
      let after = count_cons is x es in let before = count_cons was x es in let rest = count_same es k.1 in
      let eq : one (is x) ≡ one (was x) = ap one (other x k.0) in omega (arith, after, before, rest, eq)

  count_more : (es : List (ℕ × Held)) → IsDistinct nat_eq (keys_of es) → count_by is es ≤ count_by was es + 1
  count_more [] d = omega arith
  count_more (x ∷ es) d =
      let after = count_cons is x es in let before = count_cons was x es in
      by_bool (nat_eq page x.0)
      (λ t. let keys : AllByRecursion (λ k. nat_eq page k ≡ false) (keys_of es) = subst (λ (k : ℕ). AllByRecursion (λ z. nat_eq k z ≡ false) (keys_of es)) (sym (eqb-true page x.0 t)) (IsDistinct-head nat_eq x.0 (keys_of es) d) in
      let rest = count_same es keys in let small = at_most_one (is x) in omega (arith, after, before, rest, small))
      (λ t. let on = count_more es (IsDistinct-tail nat_eq x.0 (keys_of es) d) in let eq : one (is x) ≡ one (was x) = ap one (other x t) in omega (arith, after, before, on, eq))

pub busy_dirtied : (page : ℕ) (c : CacheValue) → IsCache c → busy (with_dirty page c) ≤ busy c + 1
busy_dirtied page c h = by_bool (is_among c.dirty page) (λ t. rw t (omega arith)) (λ t. rw t (count_more page c.dirty c.resident h.pages))

-- ---- so many at most: a dirty page is counted in the list, and a pinned one by its pins

abbrev pub pinned : CacheValue → ℕ
pinned c = count_by (λ e. not (e.1.pins == 0)) c.resident

-- of entries whose keys differ, one at most has the key d
count_key : (d : ℕ) (es : List (ℕ × Held)) → IsDistinct nat_eq (keys_of es) → count_by (λ e. nat_eq d e.0) es ≤ 1
count_key d [] h = omega arith
count_key d (x ∷ es) h =
    let all = count_cons (λ e. nat_eq d e.0) x es in
    by_bool (nat_eq d x.0)
    (λ t. let none = count_none es (subst (λ (k : ℕ). AllByRecursion (λ z. nat_eq k z ≡ false) (keys_of es)) (sym (eqb-true d x.0 t)) (IsDistinct-head nat_eq x.0 (keys_of es) h)) in
    let head : one (nat_eq d x.0) ≡ 1 = ap one t in omega (arith, all, none, head))
    (λ t. let on = count_key d es (IsDistinct-tail nat_eq x.0 (keys_of es) h) in let head : one (nat_eq d x.0) ≡ 0 = ap one t in omega (arith, all, on, head))
  where
    count_none : (fs : List (ℕ × Held)) → AllByRecursion (λ z. nat_eq d z ≡ false) (keys_of fs) → count_by (λ (e : ℕ × Held). nat_eq d e.0) fs ≡ 0
    count_none [] k = refl
    count_none (y ∷ fs) k = let all = count_cons (λ e. nat_eq d e.0) y fs in let on = count_none fs k.1 in let head : one (nat_eq d y.0) ≡ 0 = ap one k.0 in omega (arith, all, on, head)

count_or : (p q r : ℕ × Held → Bool) → ((e : ℕ × Held) → one (r e) ≤ one (p e) + one (q e)) → (es : List (ℕ × Held)) → count_by r es ≤ count_by p es + count_by q es
count_or p q r each [] = omega arith
count_or p q r each (x ∷ es) =
    let a = count_cons p x es in let b = count_cons q x es in let c = count_cons r x es in let on = count_or p q r each es in let h = each x in omega (arith, a, b, c, on, h)

either : (p q : Bool) → one (p || q) ≤ one p + one q
either true true = omega arith
either true false = omega arith
either false true = omega arith
either false false = omega arith

neither : (p q : Bool) → one (not (p && not q)) ≤ one (not p) + one q
neither true true = omega arith
neither true false = omega arith
neither false true = omega arith
neither false false = omega arith

pub count_dirty : (ds : List ℕ) (es : List (ℕ × Held)) → IsDistinct nat_eq (keys_of es) → count_by (λ e. is_among ds e.0) es ≤ length ds
count_dirty [] es h = count_no es
  where
    count_no : (fs : List (ℕ × Held)) → count_by (λ (e : ℕ × Held). is_among [] e.0) fs ≤ 0
    count_no [] = omega arith
    count_no (y ∷ fs) = let all = count_cons (λ e. is_among [] e.0) y fs in let on = count_no fs in omega (arith, all, on)
count_dirty (d ∷ ds) es h =
    let both = count_or (λ e. nat_eq d e.0) (λ e. is_among ds e.0) (λ e. is_among (d ∷ ds) e.0) (λ e. either (nat_eq d e.0) (is_among ds e.0)) es in
    let a = count_key d es h in let b = count_dirty ds es h in omega (arith, both, a, b)

pub busy_at_most : (c : CacheValue) → IsCache c → busy c ≤ length c.dirty + pinned c
busy_at_most c h =
    let both = count_or (λ e. not (e.1.pins == 0)) (λ e. is_among c.dirty e.0) (λ e. not (idle c e)) (λ e. neither (e.1.pins == 0) (is_among c.dirty e.0)) c.resident in
    let a = count_dirty c.dirty c.resident h.pages in omega (arith, both, a)

-- ---- a page that is dirty or pinned stays

pub busy_stays : (page : ℕ) (bytes : List ℕ) (c : CacheValue) (q : ℕ) (x : Held) → IsCache c → held c page ≡ None → IsBusy c q x → held (entered_page page bytes c) q ≡ Some x
busy_stays page bytes c q x h new busy_at =
    let apart : nat_eq q page ≡ false = by_bool (nat_eq q page) (λ t. let bad : Some x ≡ None = sym busy_at.0 ∙ subst (λ (k : ℕ). held c k ≡ None) (sym (eqb-true q page t)) new in cc) (λ t. t) in
    rw apart (by_bool (length c.resident == c.frames)
    (λ full. by_option (find (idle c) (reverse c.resident))
    (λ e is. let on = find_back (idle c) c.resident e h.pages is in rw (full, is) (lookup_removed q e.0 c.resident (differs e on.0 on.1) ∙ busy_at.0))
    (λ none. rw (full, none) busy_at.0))
    (λ free. rw free busy_at.0))
  where
    there : (e : ℕ × Held) → lookup_entry (nat_eq e.0) c.resident ≡ Some e → IsSome (lookup (nat_eq e.0) c.resident)
    there e found = by_option (lookup (nat_eq e.0) c.resident) (λ y s. rw s refl) (λ none. let bad = entry_none (nat_eq e.0) c.resident none in cc)

    differs : (e : ℕ × Held) → lookup_entry (nat_eq e.0) c.resident ≡ Some e → idle c e ≡ true → nat_eq q e.0 ≡ false
    differs e found is_it = by_bool (nat_eq q e.0)
        (λ t. let finds = entry_some (nat_eq e.0) c.resident (there e found) in
        let same : Some e ≡ Some finds.entry = sym found ∙ finds.is in
        let first : e ≡ finds.entry = cc in
        let at : held c q ≡ Some e.1 = subst (λ (k : ℕ). held c k ≡ Some e.1) (sym (eqb-true q e.0 t)) (finds.value ∙ ap (λ (g : ℕ × Held). Some g.1) (sym first)) in
        let eq : Some x ≡ Some e.1 = sym busy_at.0 ∙ at in
        let value : x ≡ e.1 = cc in
        absurd (true≢false (sym is_it ∙ (λ i. may_leave c.dirty (sym (eqb-true q e.0 t) i) (sym value i).pins) ∙ busy_at.1)))
        (λ t. t)
