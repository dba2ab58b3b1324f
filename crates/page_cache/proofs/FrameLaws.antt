-- All frames of a cache are written.
use Rattle.std.proofs.Common.{◌≡◌, ℕ, zero, suc, ◌<◌, ◌≤◌, ◌+◌, List, [], ◌∷◌, map, replicate, length, get_or, get_or-take, option_map, Option, Some, IsSome, refl, sym, ap, ◌∙◌, subst, arith}
use Rattle.std.specs.Prelude.{nat_eq, IfSome, slice_get, slice_index_or}
use Rattle.std.specs.List.{AllByRecursion, refill, length_refill}
use Rattle.std.specs.Map.{keys_of, lookup}
use Rattle.page_cache.specs.declared.cache.Slot.{Slot}
use Rattle.page_cache.specs.declared.cache.Cache.TheInside.{Inside}
use Rattle.page_cache.specs.Cache.{Held, CacheValue, IsCache, held, with_frames, frames_held}
use Rattle.page_cache.specs.Inside.{entries_shown, slot_shown, value_of, IsInside}
use Rattle.page_cache.proofs.Entries.{by_bool, by_option}
use Rattle.page_cache.proofs.AcceptedLaws.{none_accepted}
use Rattle.page_cache.proofs.CacheLaws.{same_cache}
use Rattle.page_cache.proofs.ShownLaws.{shown_lookup, held_is, frame_in_pool}

abbrev framed : List (List ℕ) → List (ℕ × Held) → List (ℕ × Held)
framed ws es = map (λ e. (e.0, record e.1 { bytes = slice_index_or ws e.1.frame e.1.bytes })) es

module _ (ws : List (List ℕ)) where
  framed_keys : (es : List (ℕ × Held)) → keys_of (framed ws es) ≡ keys_of es
  framed_keys [] = refl
  framed_keys (x ∷ es) = ap (λ l. x.0 ∷ l) (framed_keys es)

  framed_frames : (es : List (ℕ × Held)) → frames_held (framed ws es) ≡ frames_held es
  framed_frames [] = refl
  framed_frames (x ∷ es) = ap (λ l. x.1.frame ∷ l) (framed_frames es)

  framed_length : (es : List (ℕ × Held)) → length (framed ws es) ≡ length es
  framed_length [] = refl
  framed_length (x ∷ es) = ap suc (framed_length es)

  framed_there : (q : ℕ) (es : List (ℕ × Held)) → IsSome (lookup (nat_eq q) es) → IsSome (lookup (nat_eq q) (framed ws es))
  framed_there q [] h = h
  framed_there q (x ∷ es) h = by_bool (nat_eq q x.0) (λ t. rw t refl) (λ t. rw t (framed_there q es (rw t at h)))

  pub with_frames_cache : (c : CacheValue) → IsCache c → IsCache (with_frames ws c)
  with_frames_cache c = same_cache c (with_frames ws c) (record {
    keys = framed_keys c.resident;
    taken = framed_frames c.resident;
    count = framed_length c.resident;
    frames = refl;
    dirty = refl;
    there = λ q. framed_there q c.resident;
  })

module _ {X : Type 0} where
  refill_at : (pool ws : List X) (n f : ℕ) (d : X) → f < n → n ≡ length pool → get_or (refill n pool ws) f d ≡ get_or ws f (get_or pool f d)
  refill_at [] ws n f d h e = absurd (omega arith)
  refill_at (x ∷ pool) [] n f d h e = get_or-take n (x ∷ pool) f d h
  refill_at (x ∷ pool) (w ∷ ws) zero f d h e = absurd (omega arith)
  refill_at (x ∷ pool) (w ∷ ws) (suc n) zero d h e = refl
  refill_at (x ∷ pool) (w ∷ ws) (suc n) (suc f) d h e = refill_at pool ws n f d (omega arith) (omega arith)

  pub got : (xs : List X) (f : ℕ) (d : X) → f < length xs → slice_get xs f ≡ Some (get_or xs f d)
  got [] f d h = absurd (omega arith)
  got (x ∷ xs) zero d h = refl
  got (x ∷ xs) (suc f) d h = got xs f d (omega arith)

module _ (pool ws : List (List ℕ)) where
  shown_refilled : (n : ℕ) (es : List (ℕ × Slot)) → n ≡ length pool → AllByRecursion (λ frame. frame < n) (frames_held (entries_shown pool es)) → entries_shown (refill n pool ws) es ≡ framed ws (entries_shown pool es)
  shown_refilled n [] e below = refl
  shown_refilled n (x ∷ es) e below =
      (λ i. (x.0, record { frame = x.1.frame; bytes = refill_at pool ws n x.1.frame [] below.0 e i; pins = x.1.pins }) ∷ shown_refilled n es e below.1 i)

All-less : (m n : ℕ) (xs : List ℕ) → m ≤ n → AllByRecursion (λ x. x < m) xs → AllByRecursion (λ x. x < n) xs
All-less m n [] le h = tt
All-less m n (x ∷ xs) le h = (omega (arith, h.0), All-less m n xs le h.1)

module _ (i : Inside) (h : IsInside i) where
  frames_below : AllByRecursion (λ frame. frame < length i.pool) (frames_held (value_of i).resident)
  frames_below = All-less (length (value_of i).resident) (length i.pool) (frames_held (value_of i).resident) h.whole.fit h.whole.first

  -- all frames are written over
  pub frames_inside : (ws : List (List ℕ)) → let j : Inside = record i { pool = refill (length i.pool) i.pool ws; accepted = replicate 1024 0 } in IsInside j × (value_of j ≡ with_frames ws (value_of i))
  frames_inside ws =
      let long : length (refill (length i.pool) i.pool ws) ≡ length i.pool = sym (length_refill (length i.pool) i.pool ws refl) in
      let shows = shown_refilled i.pool ws (length i.pool) i.order.entries refl frames_below in
      let value : value_of (record i { pool = refill (length i.pool) i.pool ws }) ≡ with_frames ws (value_of i) = (λ t. record { frames = long t; resident = shows t; dirty = i.dirty.items }) in (
        record {
          whole = subst IsCache (sym value) (with_frames_cache ws (value_of i) h.whole);
          room = h.room ∙ ap (λ n. n + 1) (sym long);
          few = subst (λ n. n ≤ 1024) (sym long) h.few;
          accepted = none_accepted 1024 (value_of (record i { pool = refill (length i.pool) i.pool ws }));
        },
        value,
      )

  -- the frame of each page holds its bytes
  pub frame_holds : (page : ℕ) → IfSome (held (value_of i) page) (λ x. slice_get i.pool x.frame ≡ Some x.bytes)
  frame_holds page = by_option (lookup (nat_eq page) i.order.entries)
      (λ slot is. subst (λ (o : Option Held). IfSome o (λ x. slice_get i.pool x.frame ≡ Some x.bytes)) (sym (held_is i.pool page i.order.entries slot is))
      (got i.pool slot.frame [] (frame_in_pool i h page slot is)))
      (λ is. subst (λ (o : Option Held). IfSome o (λ x. slice_get i.pool x.frame ≡ Some x.bytes)) (sym (shown_lookup i.pool page i.order.entries ∙ ap (option_map (slot_shown i.pool)) is)) tt)
