-- Each call of a cache leaves a cache.
use Rattle.std.proofs.Common.{◌≡◌, ◌≢◌, ℕ, suc, ◌<◌, ◌≤◌, true, false, cond, not, List, [], ◌∷◌, map, reverse, length, option_map, is_some, Option, Some, None, IsSome, refl, sym, ap, ◌∙◌, subst, arith, eqb-true, length-append}
use Rattle.std.specs.Prelude.{nat_eq, find, ◌==◌}
use Rattle.std.specs.List.{AllByRecursion, IsDistinct, list_any}
use Rattle.std.specs.Option.{option_map_or}
use Rattle.std.specs.Map.{keys_of, lookup, lookup_entry, remove_entry}
use Rattle.std.specs.Cmp.{nat_eq_equiv}
use Rattle.std.proofs.lemmas.Bool.{ne_eqb, eqb-false, true≢false, and_parts, not-true, or_parts}
use Rattle.std.proofs.lemmas.Map.Keys.{IsDistinct-head, IsDistinct-tail, IsDistinct-cons, IsDistinct-push}
use Rattle.lru.specs.LruCache.{promoted}
use Rattle.fsd_table.proofs.BoundLaws.{all_append}
use Rattle.page_cache.specs.Cache.{Held, CacheValue, IsCache, IsResident, held, is_among, idle, busy, leaver, staying, frame_for, altered, used, entered_page, page_written, with_pins, with_dirty, cleaned, no_pages, frames_held}
use Rattle.page_cache.proofs.Entries.{by_bool, by_option, key_flips, key_moves, All-at, Finds, entry_none, entry_some, All-entry, All-removed, distinct_removed, apart_removed, length-removed, lookup_removed, find_back, some_back}

module _ {X : Type 0} where
  pub all_apart : (k : ℕ) (es : List (ℕ × X)) → lookup (nat_eq k) es ≡ None → AllByRecursion (λ y. nat_eq k y ≡ false) (keys_of es)
  all_apart k [] h = tt
  all_apart k (x ∷ es) h = by_bool (nat_eq k x.0) (λ t. let h2 = rw t at h in cc) (λ t. (t, all_apart k es (rw t at h)))

  -- no key of these is k
  pub all_gone : (k : ℕ) (es : List (ℕ × X)) → AllByRecursion (λ y. nat_eq k y ≡ false) (keys_of es) → lookup (nat_eq k) es ≡ None
  all_gone k [] h = refl
  all_gone k (x ∷ es) h = rw h.0 (all_gone k es h.1)

  -- ---- the most recently used goes first

  module _ (page : ℕ) (es : List (ℕ × X)) (finds : Finds (nat_eq page) es) where
    abbrev e : ℕ × X
    e = finds.entry

    pub promoted_is : promoted (nat_eq page) es ≡ e ∷ remove_entry (nat_eq page) es
    promoted_is = rw finds.is refl

    pub promoted_distinct : (f : ℕ × X → ℕ) → IsDistinct nat_eq (map f es) → IsDistinct nat_eq (map f (promoted (nat_eq page) es))
    promoted_distinct f d = subst (λ l. IsDistinct nat_eq (map f l)) (sym promoted_is)
        (IsDistinct-cons nat_eq (f e) (map f (remove_entry (nat_eq page) es)) (apart_removed f (nat_eq page) es e d finds.is) (distinct_removed f (nat_eq page) es d))

    pub promoted_all : {Y : Type 0} (f : ℕ × X → Y) (P : Y → Type 0) → AllByRecursion P (map f es) → AllByRecursion P (map f (promoted (nat_eq page) es))
    promoted_all f P h = subst (λ l. AllByRecursion P (map f l)) (sym promoted_is) (All-entry f P (nat_eq page) es e h finds.is, All-removed f P (nat_eq page) es h)

    pub promoted_length : length (promoted (nat_eq page) es) ≡ length es
    promoted_length = ap length promoted_is ∙ (let on = length-removed (nat_eq page) es (rw finds.value refl) in omega arith)

    pub promoted_lookup : (q : ℕ) → lookup (nat_eq q) (promoted (nat_eq page) es) ≡ lookup (nat_eq q) es
    promoted_lookup q = ap (lookup (nat_eq q)) promoted_is ∙ by_bool (nat_eq q e.0)
        (λ t. rw t (sym (subst (λ k. lookup (nat_eq k) es ≡ Some e.1) (eqb-true page e.0 finds.passes ∙ sym (eqb-true q e.0 t)) finds.value)))
        (λ t. rw t (lookup_removed q page es (key_moves page e.0 q false finds.passes t)))

-- ---- a call that leaves the pages and their frames

pub record SamePages (old new : CacheValue) : Type 0 where
  pub keys : keys_of new.resident ≡ keys_of old.resident
  pub taken : frames_held new.resident ≡ frames_held old.resident
  pub count : length new.resident ≡ length old.resident
  pub frames : new.frames ≡ old.frames
  pub dirty : new.dirty ≡ old.dirty
  pub there : (q : ℕ) → IsResident old q → IsResident new q

pub same_cache : (old new : CacheValue) → SamePages old new → IsCache old → IsCache new
same_cache old new same h = record {
  pages = subst (IsDistinct nat_eq) (sym same.keys) h.pages;
  frames = subst (IsDistinct nat_eq) (sym same.taken) h.frames;
  first = subst (λ n. AllByRecursion (λ frame. frame < n) (frames_held new.resident)) (sym same.count) (subst (AllByRecursion (λ frame. frame < length old.resident)) (sym same.taken) h.first);
  fit = (let fits = h.fit in let c = same.count in let f = same.frames in omega arith);
  once = subst (IsDistinct nat_eq) (sym same.dirty) h.once;
  few = subst (λ (ds : List ℕ). length ds ≤ 96) (sym same.dirty) h.few;
  waiting = subst (AllByRecursion (IsResident new)) (sym same.dirty) (All-at (IsResident old) (IsResident new) same.there old.dirty h.waiting);
}

module _ (page : ℕ) (f : Held → Held) where
  pub altered_keys : (es : List (ℕ × Held)) → keys_of (altered page f es) ≡ keys_of es
  altered_keys [] = refl
  altered_keys (x ∷ es) = ap (λ l. x.0 ∷ l) (altered_keys es)

  pub altered_length : (es : List (ℕ × Held)) → length (altered page f es) ≡ length es
  altered_length [] = refl
  altered_length (x ∷ es) = ap suc (altered_length es)

  pub altered_frames : ((h : Held) → (f h).frame ≡ h.frame) → (es : List (ℕ × Held)) → frames_held (altered page f es) ≡ frames_held es
  altered_frames keeps [] = refl
  altered_frames keeps (x ∷ es) =
      let first : (cond (nat_eq page x.0) (f x.1) x.1).frame ≡ x.1.frame = by_bool (nat_eq page x.0) (λ t. rw t (keeps x.1)) (λ t. rw t refl) in
      (λ i. first i ∷ altered_frames keeps es i)

  pub altered_lookup : (q : ℕ) (es : List (ℕ × Held)) → lookup (nat_eq q) (altered page f es) ≡ cond (nat_eq page q) (option_map f (lookup (nat_eq q) es)) (lookup (nat_eq q) es)
  altered_lookup q [] = by_bool (nat_eq page q) (λ t. rw t refl) (λ t. rw t refl)
  altered_lookup q (x ∷ es) = by_bool (nat_eq q x.0)
      (λ t. by_bool (nat_eq page q)
      (λ u. rw (t, u, subst (λ k. nat_eq page k ≡ true) (eqb-true q x.0 t) u) refl)
      (λ u. rw (t, u, subst (λ k. nat_eq page k ≡ false) (eqb-true q x.0 t) u) refl))
      (λ t. rw t (altered_lookup q es))

  pub altered_there : (q : ℕ) (es : List (ℕ × Held)) → IsSome (lookup (nat_eq q) es) → IsSome (lookup (nat_eq q) (altered page f es))
  altered_there q es h = subst IsSome (sym (altered_lookup q es)) (by_option (lookup (nat_eq q) es)
      (λ x is. by_bool (nat_eq page q) (λ t. rw (t, is) refl) (λ t. rw (t, is) refl))
      (λ is. absurd (true≢false (sym h ∙ ap is_some is))))

  pub altered_same : ((h : Held) → (f h).frame ≡ h.frame) → (c : CacheValue) → SamePages c (record c { resident = altered page f c.resident })
  altered_same keeps c = record {
    keys = altered_keys c.resident;
    taken = altered_frames keeps c.resident;
    count = altered_length c.resident;
    frames = refl;
    dirty = refl;
    there = λ q. altered_there q c.resident;
  }

pub with_bytes_cache : (page : ℕ) (bytes : List ℕ) (c : CacheValue) → IsCache c → IsCache (page_written page bytes c)
with_bytes_cache page bytes c = same_cache c (page_written page bytes c) (altered_same page (λ h. record h { bytes = bytes }) (λ h. refl) c)

pub with_pins_cache : (page pins : ℕ) (c : CacheValue) → IsCache c → IsCache (with_pins page pins c)
with_pins_cache page pins c = same_cache c (with_pins page pins c) (altered_same page (λ h. record h { pins = pins }) (λ h. refl) c)

-- ---- use, and the marks

-- where it is not in memory, nothing
pub used_absent : (page : ℕ) (c : CacheValue) → held c page ≡ None → used page c ≡ c
used_absent page c none = ap (λ (es : List (ℕ × Held)). record c { resident = es }) (ap (λ (o : Option (ℕ × Held)). option_map_or (λ e. e ∷ remove_entry (nat_eq page) c.resident) o c.resident) (entry_none (nat_eq page) c.resident none))

used_there : (page : ℕ) (c : CacheValue) → IsResident c page → IsCache c → IsCache (used page c)
used_there page c there h =
    let finds = entry_some (nat_eq page) c.resident there in
    let long = promoted_length page c.resident finds in
    record {
      pages = promoted_distinct page c.resident finds (λ e. e.0) h.pages;
      frames = promoted_distinct page c.resident finds (λ e. e.1.frame) h.frames;
      first = subst (λ n. AllByRecursion (λ frame. frame < n) (frames_held (used page c).resident)) (sym long) (promoted_all page c.resident finds (λ e. e.1.frame) (λ frame. frame < length c.resident) h.first);
      fit = (let fits = h.fit in omega arith);
      once = h.once;
      few = h.few;
      waiting = All-at (IsResident c) (IsResident (used page c)) (λ q some. subst IsSome (sym (promoted_lookup page c.resident finds q)) some) c.dirty h.waiting;
    }

pub used_cache : (page : ℕ) (c : CacheValue) → IsCache c → IsCache (used page c)
used_cache page c h = by_option (held c page) (λ x is. used_there page c (rw is refl) h) (λ none. subst IsCache (sym (used_absent page c none)) h)

distinct_nil : IsDistinct nat_eq []
unfolding IsDistinct
distinct_nil = tt

pub no_pages_cache : (frames : ℕ) → IsCache (no_pages frames)
no_pages_cache frames = record { pages = distinct_nil; frames = distinct_nil; first = tt; fit = omega arith; once = distinct_nil; few = omega arith; waiting = tt }

pub cleaned_cache : (c : CacheValue) → IsCache c → IsCache (cleaned c)
cleaned_cache c h = record { pages = h.pages; frames = h.frames; first = h.first; fit = h.fit; once = distinct_nil; few = omega arith; waiting = tt }

-- the tests of a list for a page, in either order of the two sides
any_flips : (page : ℕ) (xs : List ℕ) → list_any (nat_eq page) xs ≡ is_among xs page
any_flips page [] = refl
any_flips page (x ∷ xs) = by_bool (nat_eq page x)
    (λ t. rw (t, key_flips page x true t) refl)
    (λ t. rw (t, key_flips page x false t) (any_flips page xs))

pub with_dirty_cache : (page : ℕ) (c : CacheValue) → IsResident c page → (is_among c.dirty page ≡ false → length c.dirty < 96) → IsCache c → IsCache (with_dirty page c)
with_dirty_cache page c there room h = by_bool (is_among c.dirty page)
    (λ t. rw t h)
    (λ t. rw t (record {
      pages = h.pages;
      frames = h.frames;
      first = h.first;
      fit = h.fit;
      few = (let r = room t in let long = length-append c.dirty (page ∷ []) in omega arith);
      once = IsDistinct-push nat_eq_equiv c.dirty page h.once (any_flips page c.dirty ∙ t);
      waiting = all_append (IsResident c) c.dirty (page ∷ []) h.waiting (there, tt);
    }))

-- ---- a page enters

-- what stays beside a page that enters, and its frame
pub record Stays (c : CacheValue) (page frame : ℕ) (stay : List (ℕ × Held)) : Type 0 where
  pub pages : IsDistinct nat_eq (keys_of stay)
  pub new : AllByRecursion (λ y. nat_eq page y ≡ false) (keys_of stay)
  pub frames : IsDistinct nat_eq (frames_held stay)
  pub apart : AllByRecursion (λ y. nat_eq frame y ≡ false) (frames_held stay)
  pub first : AllByRecursion (λ y. y < suc (length stay)) (frames_held stay)
  pub within : frame < suc (length stay)
  pub fit : length stay < c.frames
  pub waiting : AllByRecursion (λ q. IsSome (lookup (nat_eq q) stay)) c.dirty

pub stays_cache : (c : CacheValue) (page frame : ℕ) (bytes : List ℕ) (stay : List (ℕ × Held)) → Stays c page frame stay → IsCache c
    → IsCache (record c { resident = (page, record { frame = frame; bytes = bytes; pins = 0 }) ∷ stay })
stays_cache c page frame bytes stay s h = record {
  pages = IsDistinct-cons nat_eq page (keys_of stay) s.new s.pages;
  frames = IsDistinct-cons nat_eq frame (frames_held stay) s.apart s.frames;
  first = (s.within, s.first);
  fit = s.fit;
  once = h.once;
  few = h.few;
  waiting = All-at (λ q. IsSome (lookup (nat_eq q) stay)) (λ q. IsSome (lookup (nat_eq q) ((page, record { frame = frame; bytes = bytes; pins = 0 }) ∷ stay)))
      (λ q some. by_bool (nat_eq q page) (λ t. rw t refl) (λ t. rw t some)) c.dirty s.waiting;
}

-- a page that is not in a list differs from each of it
not_among : (k : ℕ) (xs : List ℕ) → is_among xs k ≡ false → AllByRecursion (λ q. nat_eq q k ≡ false) xs
not_among k [] h = tt
not_among k (x ∷ xs) h = let parts = or_parts (nat_eq x k) (is_among xs k) h in (parts.0, not_among k xs parts.1)

All-both : {X : Type 0} (P Q : X → Type 0) (xs : List X) → AllByRecursion P xs → AllByRecursion Q xs → AllByRecursion (λ x. P x × Q x) xs
All-both P Q [] p q = tt
All-both P Q (x ∷ xs) p q = ((p.0, q.0), All-both P Q xs p.1 q.1)

below_apart : (n : ℕ) (xs : List ℕ) → AllByRecursion (λ y. y < n) xs → AllByRecursion (λ y. nat_eq n y ≡ false) xs
below_apart n xs = All-at (λ y. y < n) (λ y. nat_eq n y ≡ false) (λ y lt. ne_eqb n y (λ e. omega arith)) xs

module _ (c : CacheValue) (page : ℕ) (h : IsCache c) (new : held c page ≡ None) (room : busy c < c.frames) where
  -- each frame is taken, and one goes
  one_goes : (e : ℕ × Held) → (length c.resident == c.frames) ≡ true → find (idle c) (reverse c.resident) ≡ Some e → Stays c page e.1.frame (remove_entry (nat_eq e.0) c.resident)
  one_goes e full is =
      let on = find_back (idle c) c.resident e h.pages is in
      let finds : IsSome (lookup (nat_eq e.0) c.resident) = by_found on.0 in
      let long = length-removed (nat_eq e.0) c.resident finds in
      let count : suc (length (remove_entry (nat_eq e.0) c.resident)) ≡ length c.resident = omega arith in
      let whole : length c.resident ≡ c.frames = eqb-true (length c.resident) c.frames full in
      let clean = not-true (is_among c.dirty e.0) (and_parts (e.1.pins == 0) (not (is_among c.dirty e.0)) on.1).1 in
      record {
        pages = distinct_removed (λ g. g.0) (nat_eq e.0) c.resident h.pages;
        new = All-removed (λ g. g.0) (λ y. nat_eq page y ≡ false) (nat_eq e.0) c.resident (all_apart page c.resident new);
        frames = distinct_removed (λ g. g.1.frame) (nat_eq e.0) c.resident h.frames;
        apart = apart_removed (λ g. g.1.frame) (nat_eq e.0) c.resident e h.frames on.0;
        first = subst (λ n. AllByRecursion (λ y. y < n) (frames_held (remove_entry (nat_eq e.0) c.resident))) (sym count) (All-removed (λ g. g.1.frame) (λ y. y < length c.resident) (nat_eq e.0) c.resident h.first);
        within = subst (λ n. e.1.frame < n) (sym count) (All-entry (λ g. g.1.frame) (λ y. y < length c.resident) (nat_eq e.0) c.resident e h.first on.0);
        fit = omega arith;
        waiting = All-at (λ q. IsResident c q × (nat_eq q e.0 ≡ false)) (λ q. IsSome (lookup (nat_eq q) (remove_entry (nat_eq e.0) c.resident)))
            (λ q both. subst IsSome (sym (lookup_removed q e.0 c.resident both.1)) both.0) c.dirty
            (All-both (IsResident c) (λ q. nat_eq q e.0 ≡ false) c.dirty h.waiting (not_among e.0 c.dirty clean));
      }
    where
      by_found : lookup_entry (nat_eq e.0) c.resident ≡ Some e → IsSome (lookup (nat_eq e.0) c.resident)
      by_found found = by_option (lookup (nat_eq e.0) c.resident) (λ x s. rw s refl) (λ none. let bad = entry_none (nat_eq e.0) c.resident none in cc)

  none_goes : (length c.resident == c.frames) ≡ false → Stays c page (length c.resident) c.resident
  none_goes free =
      let ne = eqb-false (length c.resident) c.frames free in
      let fits = h.fit in
      record {
        pages = h.pages;
        new = all_apart page c.resident new;
        frames = h.frames;
        apart = below_apart (length c.resident) (frames_held c.resident) h.first;
        first = All-at (λ y. y < length c.resident) (λ y. y < suc (length c.resident)) (λ y lt. omega arith) (frames_held c.resident) h.first;
        within = omega arith;
        fit = by_less ne fits;
        waiting = h.waiting;
      }
    where
      by_less : (length c.resident ≡ c.frames → ⊥) → length c.resident ≤ c.frames → length c.resident < c.frames
      by_less ne fits = omega (arith, ne)

  pub stays_of : Stays c page (frame_for c) (staying (leaver c) c.resident)
  stays_of = by_bool (length c.resident == c.frames)
      (λ full. by_option (find (idle c) (reverse c.resident))
      (λ e is. rw (full, is) (one_goes e full is))
      (λ none. absurd (by_none full none)))
      (λ free. rw free (none_goes free))
    where
      by_none : (length c.resident == c.frames) ≡ true → find (idle c) (reverse c.resident) ≡ None → ⊥
      by_none full none =
          let whole : length c.resident ≡ c.frames = eqb-true (length c.resident) c.frames full in
          let some = some_back (idle c) c.resident (subst (λ n. busy c < n) (sym whole) room) in
          true≢false (sym some ∙ ap is_some none)

  pub entered_cache : (bytes : List ℕ) → IsCache (entered_page page bytes c)
  entered_cache bytes = stays_cache c page (frame_for c) bytes (staying (leaver c) c.resident) stays_of h

-- pages that differ lie in frames that differ
pub frames_apart : (es : List (ℕ × Held)) (p q : ℕ) (x y : Held) → IsDistinct nat_eq (frames_held es) → lookup (nat_eq p) es ≡ Some x → lookup (nat_eq q) es ≡ Some y → p ≢ q → x.frame ≢ y.frame
frames_apart [] p q x y d is on ne e = cc
frames_apart (z ∷ es) p q x y d is on ne e =
    let head = IsDistinct-head nat_eq z.1.frame (frames_held es) d in
    by_bool (nat_eq p z.0)
    (λ t. let z_x : Some z.1 ≡ Some x = rw t at is in let one : z.1 ≡ x = cc in
    by_bool (nat_eq q z.0)
    (λ u. ne (eqb-true p z.0 t ∙ sym (eqb-true q z.0 u)))
    (λ u. let rest = rw u at on in eqb-false z.1.frame y.frame (behind es q y head rest) (ap (λ (h : Held). h.frame) one ∙ e)))
    (λ t. let rest = rw t at is in
    by_bool (nat_eq q z.0)
    (λ u. let z_y : Some z.1 ≡ Some y = rw u at on in let one : z.1 ≡ y = cc in eqb-false z.1.frame x.frame (behind es p x head rest) (ap (λ (h : Held). h.frame) one ∙ sym e))
    (λ u. frames_apart es p q x y (IsDistinct-tail nat_eq z.1.frame (frames_held es) d) rest (rw u at on) ne e))
  where
    behind : (es : List (ℕ × Held)) (k : ℕ) (h : Held) → AllByRecursion (λ f. nat_eq z.1.frame f ≡ false) (frames_held es) → lookup (nat_eq k) es ≡ Some h → nat_eq z.1.frame h.frame ≡ false
    behind es k h all is =
        let finds = entry_some (nat_eq k) es (rw is refl) in
        let same : Some h ≡ Some finds.entry.1 = sym is ∙ finds.value in
        let eq : h ≡ finds.entry.1 = cc in
        subst (λ (s : Held). nat_eq z.1.frame s.frame ≡ false) (sym eq) (All-entry (λ e. e.1.frame) (λ f. nat_eq z.1.frame f ≡ false) (nat_eq k) es finds.entry all finds.is)
