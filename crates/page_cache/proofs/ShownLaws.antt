-- What a cache shows of a pool of frames and an order of use, and what a change of either shows.
use Rattle.std.specs.Borrow.{MutBor}
use Rattle.std.proofs.Common.{◌≡◌, ℕ, zero, suc, ◌+◌, ◌<◌, ◌≤◌, false, cond, List, [], ◌∷◌, ◌++◌, map, reverse, replicate, length, set, get_or, option_map, is_some, Option, Some, None, IsSome, refl, sym, ap, ◌∙◌, subst, arith, eqb-true, length-set}
use Rattle.std.specs.Prelude.{nat_eq, find, slice_get, ◌==◌}
use Rattle.std.specs.List.{AllByRecursion, IsDistinct}
use Rattle.std.specs.Option.{option_map_or}
use Rattle.std.specs.Map.{keys_of, lookup, set_value}
use Rattle.std.proofs.lemmas.Bool.{eqb-false, true≢false}
use Rattle.std.proofs.lemmas.List.{reverse-append, map-append, get_or-set_same, get_or-set_other}
use Rattle.std.proofs.lemmas.Map.Made.{lookup-map_values}
use Rattle.std.proofs.lemmas.Map.Keys.{IsDistinct-head, IsDistinct-tail}
use Rattle.lru.specs.LruCache.{LruCache, promoted, lru_cache}
use Rattle.page_cache.specs.declared.cache.Slot.{Slot}
use Rattle.page_cache.specs.Cache.{Held, CacheValue, IsCache, held, cached_bytes, pins_of, may_leave, busy, leaving, leaver, staying, frame_for, altered, used, entered_page, no_pages, page_written, with_pins, frames_held}
use Rattle.page_cache.specs.declared.cache.Cache.TheInside.{Inside}
use Rattle.page_cache.specs.Inside.{entries_shown, slot_shown, value_of, IsInside}
use Rattle.page_cache.proofs.Entries.{by_bool, by_option, entry_some, All-entry, removed_read, promoted_read, find_read, keys_read}
use Rattle.page_cache.specs.Accepted.{HasAccepted}
use Rattle.page_cache.proofs.AcceptedLaws.{none_accepted, used_accepted, pinned_accepted, written_accepted, entered_accepted}
use Rattle.page_cache.proofs.CacheLaws.{Stays, stays_of, with_bytes_cache, with_pins_cache, used_cache, entered_cache, no_pages_cache}

abbrev pub slot_frames : List (ℕ × Slot) → List ℕ
slot_frames es = map (λ e. e.1.frame) es

module _ (pool : List (List ℕ)) where
  pub shown_frames : (es : List (ℕ × Slot)) → frames_held (entries_shown pool es) ≡ slot_frames es
  shown_frames [] = refl
  shown_frames (x ∷ es) = ap (λ l. x.1.frame ∷ l) (shown_frames es)

  pub shown_keys : (es : List (ℕ × Slot)) → keys_of (entries_shown pool es) ≡ keys_of es
  shown_keys = keys_read (slot_shown pool)

  pub shown_length : (es : List (ℕ × Slot)) → length (entries_shown pool es) ≡ length es
  shown_length [] = refl
  shown_length (x ∷ es) = ap suc (shown_length es)

  pub shown_lookup : (page : ℕ) (es : List (ℕ × Slot)) → lookup (nat_eq page) (entries_shown pool es) ≡ option_map (slot_shown pool) (lookup (nat_eq page) es)
  shown_lookup page es = lookup-map_values (slot_shown pool) (nat_eq page) es

  -- a page is in memory where the order has it
  pub order_has : (page : ℕ) (es : List (ℕ × Slot)) → IsSome (lookup (nat_eq page) (entries_shown pool es)) → IsSome (lookup (nat_eq page) es)
  order_has page es h = by_option (lookup (nat_eq page) es) (λ x is. rw is refl) (λ is. absurd (true≢false (sym h ∙ ap is_some (shown_lookup page es ∙ ap (option_map (slot_shown pool)) is))))

  pub order_lacks : (page : ℕ) (es : List (ℕ × Slot)) → lookup (nat_eq page) (entries_shown pool es) ≡ None → lookup (nat_eq page) es ≡ None
  order_lacks page es h = by_option (lookup (nat_eq page) es) (λ x is. let bad : Some (slot_shown pool x) ≡ None = ap (option_map (slot_shown pool)) (sym is) ∙ sym (shown_lookup page es) ∙ h in cc) (λ is. is)

  -- what is held of it
  pub held_is : (page : ℕ) (es : List (ℕ × Slot)) (slot : Slot) → lookup (nat_eq page) es ≡ Some slot → lookup (nat_eq page) (entries_shown pool es) ≡ Some (slot_shown pool slot)
  held_is page es slot is = shown_lookup page es ∙ ap (option_map (slot_shown pool)) is

  -- its frame is one of the pool
  pub frame_within : (page n : ℕ) (es : List (ℕ × Slot)) (slot : Slot) → AllByRecursion (λ frame. frame < n) (frames_held (entries_shown pool es)) → lookup (nat_eq page) es ≡ Some slot → slot.frame < n
  frame_within page n es slot first is =
      let finds = entry_some (nat_eq page) es (rw is refl) in
      let same : Some slot ≡ Some finds.entry.1 = sym is ∙ finds.value in
      let eq : slot ≡ finds.entry.1 = cc in
      subst (λ (s : Slot). s.frame < n) (sym eq) (All-entry (λ e. e.1.frame) (λ frame. frame < n) (nat_eq page) es finds.entry (subst (AllByRecursion (λ frame. frame < n)) (shown_frames es) first) finds.is)

  -- ---- a frame is written

  module _ (f : ℕ) (w : List ℕ) where
    -- a frame that no page has
    pub written_other : (es : List (ℕ × Slot)) → AllByRecursion (λ y. nat_eq f y ≡ false) (slot_frames es) → entries_shown (set pool f w) es ≡ entries_shown pool es
    written_other [] apart = refl
    written_other (x ∷ es) apart =
        let bytes : get_or (set pool f w) x.1.frame [] ≡ get_or pool x.1.frame [] = get_or-set_other pool f x.1.frame w [] (λ e. eqb-false f x.1.frame apart.0 (sym e)) in
        (λ i. (x.0, record { frame = x.1.frame; bytes = bytes i; pins = x.1.pins }) ∷ written_other es apart.1 i)

  pub altered_none : (page : ℕ) (g : Held → Held) (es : List (ℕ × Held)) → AllByRecursion (λ y. nat_eq page y ≡ false) (keys_of es) → altered page g es ≡ es
  altered_none page g [] h = refl
  altered_none page g (x ∷ es) h = (λ i. (x.0, cond (h.0 i) (g x.1) x.1) ∷ altered_none page g es h.1 i)

  -- the page of a frame has other bytes
  pub written_page : (page : ℕ) (w : List ℕ) (es : List (ℕ × Slot)) (slot : Slot) → IsDistinct nat_eq (keys_of es) → IsDistinct nat_eq (slot_frames es) → slot.frame < length pool
      → lookup (nat_eq page) es ≡ Some slot → entries_shown (set pool slot.frame w) es ≡ altered page (λ h. record h { bytes = w }) (entries_shown pool es)
  written_page page w [] slot dk df within is = cc
  written_page page w (x ∷ es) slot dk df within is = by_bool (nat_eq page x.0)
      (λ t. let is2 = rw t at is in let same : x.1 ≡ slot = cc in
      let at : get_or (set pool slot.frame w) x.1.frame [] ≡ w = subst (λ (s : Slot). get_or (set pool slot.frame w) s.frame [] ≡ w) (sym same) (get_or-set_same pool slot.frame w [] within) in
      let apart : AllByRecursion (λ y. nat_eq slot.frame y ≡ false) (slot_frames es) = subst (λ (s : Slot). AllByRecursion (λ y. nat_eq s.frame y ≡ false) (slot_frames es)) same (IsDistinct-head nat_eq x.1.frame (slot_frames es) df) in
      let keys : AllByRecursion (λ y. nat_eq page y ≡ false) (keys_of (entries_shown pool es)) = subst (λ (k : ℕ). AllByRecursion (λ y. nat_eq k y ≡ false) (keys_of (entries_shown pool es))) (sym (eqb-true page x.0 t))
      (subst (AllByRecursion (λ y. nat_eq x.0 y ≡ false)) (sym (shown_keys es)) (IsDistinct-head nat_eq x.0 (keys_of es) dk)) in
      rw t (λ i. (x.0, record { frame = x.1.frame; bytes = at i; pins = x.1.pins }) ∷ (written_other slot.frame w es apart ∙ sym (altered_none page (λ h. record h { bytes = w }) (entries_shown pool es) keys)) i))
      (λ t. let on = rw t at is in
      let finds = entry_some (nat_eq page) es (rw on refl) in
      let same : Some slot ≡ Some finds.entry.1 = sym on ∙ finds.value in
      let eq : slot ≡ finds.entry.1 = cc in
      let apart : nat_eq x.1.frame slot.frame ≡ false = subst (λ (s : Slot). nat_eq x.1.frame s.frame ≡ false) (sym eq) (All-entry (λ e. e.1.frame) (λ y. nat_eq x.1.frame y ≡ false) (nat_eq page) es finds.entry (IsDistinct-head nat_eq x.1.frame (slot_frames es) df) finds.is) in
      let at : get_or (set pool slot.frame w) x.1.frame [] ≡ get_or pool x.1.frame [] = get_or-set_other pool slot.frame x.1.frame w [] (λ e. eqb-false x.1.frame slot.frame apart e) in
      rw t (λ i. (x.0, record { frame = x.1.frame; bytes = at i; pins = x.1.pins })
      ∷ written_page page w es slot (IsDistinct-tail nat_eq x.0 (keys_of es) dk) (IsDistinct-tail nat_eq x.1.frame (slot_frames es) df) within on i))

  -- ---- a page is pinned otherwise

  pub pinned_page : (page pins : ℕ) (es : List (ℕ × Slot)) (slot : Slot) → IsDistinct nat_eq (keys_of es) → lookup (nat_eq page) es ≡ Some slot
      → entries_shown pool (set_value (nat_eq page) es (record { frame = slot.frame; pins = pins })) ≡ altered page (λ h. record h { pins = pins }) (entries_shown pool es)
  pinned_page page pins [] slot dk is = refl
  pinned_page page pins (x ∷ es) slot dk is = by_bool (nat_eq page x.0)
      (λ t. let is2 = rw t at is in let same : x.1 ≡ slot = cc in
      let keys : AllByRecursion (λ y. nat_eq page y ≡ false) (keys_of (entries_shown pool es)) = subst (λ (k : ℕ). AllByRecursion (λ y. nat_eq k y ≡ false) (keys_of (entries_shown pool es))) (sym (eqb-true page x.0 t))
      (subst (AllByRecursion (λ y. nat_eq x.0 y ≡ false)) (sym (shown_keys es)) (IsDistinct-head nat_eq x.0 (keys_of es) dk)) in
      rw t (λ i. (x.0, record { frame = (sym same i).frame; bytes = get_or pool (sym same i).frame []; pins = pins }) ∷ sym (altered_none page (λ h. record h { pins = pins }) (entries_shown pool es) keys) i))
      (λ t. rw t (ap (λ l. (x.0, slot_shown pool x.1) ∷ l) (pinned_page page pins es slot (IsDistinct-tail nat_eq x.0 (keys_of es) dk) (rw t at is))))

  -- ---- a page is used

  pub shown_promoted : (page : ℕ) (es : List (ℕ × Slot)) → entries_shown pool (promoted (nat_eq page) es) ≡ promoted (nat_eq page) (entries_shown pool es)
  shown_promoted page es = sym (promoted_read (slot_shown pool) (nat_eq page) es)

  -- ---- a page enters

  shown_reverse : (es : List (ℕ × Slot)) → reverse (entries_shown pool es) ≡ entries_shown pool (reverse es)
  shown_reverse [] = refl
  shown_reverse (x ∷ es) =
      reverse-append ((x.0, slot_shown pool x.1) ∷ []) (entries_shown pool es) ∙ ap (λ l. l ++ (x.0, slot_shown pool x.1) ∷ []) (shown_reverse es)
      ∙ sym (map-append (λ (e : ℕ × Slot). (e.0, slot_shown pool e.1)) (reverse es) (x ∷ [])) ∙ ap (entries_shown pool) (sym (reverse-append (x ∷ []) es))

  abbrev pub shown_entry : ℕ × Slot → ℕ × Held
  shown_entry e = (e.0, slot_shown pool e.1)

  module _ (frames : ℕ) (dirty : List ℕ) (es : List (ℕ × Slot)) where
    abbrev pub goes : Option (ℕ × Slot)
    goes = leaving frames (λ e. may_leave dirty e.0 e.1.pins) es

    pub shown_leaving : leaving frames (λ e. may_leave dirty e.0 e.1.pins) (entries_shown pool es) ≡ option_map shown_entry goes
    shown_leaving = ap (λ n. cond (n == frames) (find (λ e. may_leave dirty e.0 e.1.pins) (reverse (entries_shown pool es))) None) (shown_length es)
        ∙ by_bool (length es == frames)
        (λ t. rw t (ap (find (λ e. may_leave dirty e.0 e.1.pins)) (shown_reverse es) ∙ find_read (slot_shown pool) (λ e. may_leave dirty e.0 e.1.pins) (reverse es)))
        (λ t. rw t refl)

    shown_frame_of : (o : Option (ℕ × Slot)) → option_map_or (λ (e : ℕ × Held). e.1.frame) (option_map shown_entry o) (length (entries_shown pool es)) ≡ option_map_or (λ (e : ℕ × Slot). e.1.frame) o (length es)
    shown_frame_of None = shown_length es
    shown_frame_of (Some e) = refl

    shown_staying_of : (o : Option (ℕ × Slot)) → staying (option_map shown_entry o) (entries_shown pool es) ≡ entries_shown pool (staying o es)
    shown_staying_of None = refl
    shown_staying_of (Some e) = removed_read (slot_shown pool) (nat_eq e.0) es

    abbrev c : CacheValue
    c = record { frames = frames; resident = entries_shown pool es; dirty = dirty }

    pub shown_frame : frame_for c ≡ option_map_or (λ e. e.1.frame) goes (length es)
    shown_frame = ap (λ o. option_map_or (λ (e : ℕ × Held). e.1.frame) o (length (entries_shown pool es))) shown_leaving ∙ shown_frame_of goes

    pub shown_staying : staying (leaver c) c.resident ≡ entries_shown pool (staying goes es)
    shown_staying = ap (λ (o : Option (ℕ × Held)). staying o (entries_shown pool es)) shown_leaving ∙ shown_staying_of goes

    -- the page that enters, its frame written, beside those that stay
    pub shown_entered : (page frame : ℕ) (bytes : List ℕ) → frame ≡ option_map_or (λ e. e.1.frame) goes (length es) → frame < length pool
        → Stays c page (frame_for c) (staying (leaver c) c.resident)
        → entries_shown (set pool frame bytes) ((page, record { frame = frame; pins = 0 }) ∷ staying goes es) ≡ (entered_page page bytes c).resident
    shown_entered page frame bytes is within stays =
        let same : frame_for c ≡ frame = shown_frame ∙ sym is in
        let apart : AllByRecursion (λ y. nat_eq frame y ≡ false) (slot_frames (staying goes es)) =
        subst (AllByRecursion (λ y. nat_eq frame y ≡ false)) (ap frames_held shown_staying ∙ shown_frames (staying goes es)) (subst (λ n. AllByRecursion (λ y. nat_eq n y ≡ false) (frames_held (staying (leaver c) c.resident))) same stays.apart) in
        (λ i. (page, record { frame = sym same i; bytes = get_or-set_same pool frame bytes [] within i; pins = 0 }) ∷ (written_other frame bytes (staying goes es) apart ∙ sym shown_staying) i)

-- ---- the fields of a cache

module _ (i : Inside) (h : IsInside i) (page : ℕ) (slot : Slot) where
  pub frame_in_pool : lookup (nat_eq page) i.order.entries ≡ Some slot → slot.frame < length i.pool
  frame_in_pool is =
      let below = frame_within i.pool page (length (entries_shown i.pool i.order.entries)) i.order.entries slot h.whole.first is in
      let fits = h.whole.fit in omega arith

  pub frame_below : lookup (nat_eq page) i.order.entries ≡ Some slot → slot.frame < 1024
  frame_below is = let within = frame_in_pool is in let few = h.few in omega (arith, within, few)

  -- the frame of a page is written over
  pub written_inside : (w : List ℕ) → lookup (nat_eq page) i.order.entries ≡ Some slot
      → let j : Inside = record i { pool = set i.pool slot.frame w; accepted = set i.accepted slot.frame 0 } in IsInside j × (value_of j ≡ page_written page w (value_of i))
  written_inside w is =
      let long : length (set i.pool slot.frame w) ≡ length i.pool = length-set i.pool slot.frame w in
      let keys = subst (IsDistinct nat_eq) (shown_keys i.pool i.order.entries) h.whole.pages in
      let frames = subst (IsDistinct nat_eq) (shown_frames i.pool i.order.entries) h.whole.frames in
      let shows = written_page i.pool page w i.order.entries slot keys frames (frame_in_pool is) is in
      let value : value_of (record i { pool = set i.pool slot.frame w }) ≡ page_written page w (value_of i) = (λ t. record { frames = long t; resident = shows t; dirty = i.dirty.items }) in (
        record {
          whole = subst IsCache (sym value) (with_bytes_cache page w (value_of i) h.whole);
          room = h.room ∙ ap (λ n. n + 1) (sym long);
          few = subst (λ n. n ≤ 1024) (sym long) h.few;
          accepted = subst (HasAccepted (set i.accepted slot.frame 0)) (sym value)
              (written_accepted i.accepted page w (value_of i) (slot_shown i.pool slot) (held_is i.pool page i.order.entries slot is) h.accepted);
        },
        value,
      )

  -- a page is pinned otherwise
  pub pinned_inside : (pins : ℕ) → lookup (nat_eq page) i.order.entries ≡ Some slot
      → let j : Inside = record i { order = lru_cache (set_value (nat_eq page) i.order.entries (record { frame = slot.frame; pins = pins })) i.order.cap } in IsInside j × (value_of j ≡ with_pins page pins (value_of i))
  pinned_inside pins is =
      let keys = subst (IsDistinct nat_eq) (shown_keys i.pool i.order.entries) h.whole.pages in
      let shows = pinned_page i.pool page pins i.order.entries slot keys is in
      let value : value_of (record i { order = lru_cache (set_value (nat_eq page) i.order.entries (record { frame = slot.frame; pins = pins })) i.order.cap }) ≡ with_pins page pins (value_of i) =
      (λ t. record { frames = length i.pool; resident = shows t; dirty = i.dirty.items }) in (
        record {
          whole = subst IsCache (sym value) (with_pins_cache page pins (value_of i) h.whole);
          room = h.room;
          few = h.few;
          accepted = subst (HasAccepted i.accepted) (sym value) (pinned_accepted i.accepted page pins (value_of i) h.accepted);
        },
        value,
      )

module _ (i : Inside) (page : ℕ) (slot : Slot) where
  pub bytes_shown : (bytes : List ℕ) → lookup (nat_eq page) i.order.entries ≡ Some slot → slice_get i.pool slot.frame ≡ Some bytes → cached_bytes (value_of i) page ≡ Some bytes
  bytes_shown bytes is at = ap (option_map (λ (h : Held). h.bytes)) (held_is i.pool page i.order.entries slot is) ∙ ap (λ (b : List ℕ). Some b) (at_frame i.pool slot.frame bytes at)
    where
      at_frame : (pool : List (List ℕ)) (f : ℕ) (bytes : List ℕ) → slice_get pool f ≡ Some bytes → get_or pool f [] ≡ bytes
      at_frame [] f bytes h = cc
      at_frame (x ∷ pool) zero bytes h = cc
      at_frame (x ∷ pool) (suc f) bytes h = at_frame pool f bytes h

  pub pins_shown : lookup (nat_eq page) i.order.entries ≡ Some slot → pins_of (value_of i) page ≡ slot.pins
  pins_shown is = ap (λ (o : Option Held). option_map_or (λ h. h.pins) o 0) (held_is i.pool page i.order.entries slot is)

module _ (i : Inside) (h : IsInside i) (page : ℕ) where
  -- a page is used
  pub used_inside : let j : Inside = record i { order = lru_cache (promoted (nat_eq page) i.order.entries) i.order.cap } in IsInside j × (value_of j ≡ used page (value_of i))
  used_inside =
      let value : value_of (record i { order = lru_cache (promoted (nat_eq page) i.order.entries) i.order.cap }) ≡ used page (value_of i) =
      ap (λ (es : List (ℕ × Held)). record { frames = length i.pool; resident = es; dirty = i.dirty.items }) (shown_promoted i.pool page i.order.entries) in (
        record {
          whole = subst IsCache (sym value) (used_cache page (value_of i) h.whole);
          room = h.room;
          few = h.few;
          accepted = subst (HasAccepted i.accepted) (sym value) (used_accepted i.accepted page (value_of i) h.accepted);
        },
        value,
      )

  pub frame_shown : option_map (λ (s : Slot). s.frame) (lookup (nat_eq page) i.order.entries) ≡ option_map (λ (x : Held). x.frame) (held (value_of i) page)
  frame_shown = by_found (lookup (nat_eq page) i.order.entries) ∙ ap (option_map (λ (x : Held). x.frame)) (sym (shown_lookup i.pool page i.order.entries))
    where
      by_found : (o : Option Slot) → option_map (λ (s : Slot). s.frame) o ≡ option_map (λ (x : Held). x.frame) (option_map (slot_shown i.pool) o)
      by_found None = refl
      by_found (Some x) = refl

  -- a page enters
  module _ (new : held (value_of i) page ≡ None) (room : busy (value_of i) < length i.pool) where
    abbrev goes_in : ℕ → List ℕ → Option (ℕ × Slot)
    goes_in n ds = leaving n (λ e. may_leave ds e.0 e.1.pins) i.order.entries

    pub stays_inside : Stays (value_of i) page (frame_for (value_of i)) (staying (leaver (value_of i)) (value_of i).resident)
    stays_inside = stays_of (value_of i) page h.whole new room

    pub frame_is : (n : ℕ) (ds : List ℕ) (frame : ℕ) → n ≡ length i.pool → ds ≡ i.dirty.items → frame ≡ option_map_or (λ e. e.1.frame) (goes_in n ds) (length i.order.entries) → frame ≡ frame_for (value_of i)
    frame_is n ds frame en ed is = is ∙ (λ t. option_map_or (λ e. e.1.frame) (goes_in (en t) (ed t)) (length i.order.entries)) ∙ sym (shown_frame i.pool (length i.pool) i.dirty.items i.order.entries)

    pub frame_fits : (frame : ℕ) → frame ≡ frame_for (value_of i) → frame < length i.pool
    frame_fits frame is = let w = stays_inside.within in let f = stays_inside.fit in omega (arith, is)

    pub frame_in : (frame : ℕ) → frame ≡ frame_for (value_of i) → frame < 1024
    frame_in frame is = let within = frame_fits frame is in let few = h.few in omega (arith, within, few)

    pub entered_inside : (n : ℕ) (ds : List ℕ) (frame : ℕ) (bytes : List ℕ) (order : LruCache ℕ Slot) → n ≡ length i.pool → ds ≡ i.dirty.items
        → frame ≡ option_map_or (λ e. e.1.frame) (goes_in n ds) (length i.order.entries)
        → order ≡ lru_cache ((page, record { frame = frame; pins = 0 }) ∷ staying (goes_in n ds) i.order.entries) i.order.cap
        → let j : Inside = record i { pool = set i.pool frame bytes; order = order; accepted = set i.accepted frame 0 } in IsInside j × (value_of j ≡ entered_page page bytes (value_of i))
    entered_inside n ds frame bytes order en ed is io =
        let within = frame_fits frame (frame_is n ds frame en ed is) in
        let is2 : frame ≡ option_map_or (λ e. e.1.frame) (goes_in (length i.pool) i.dirty.items) (length i.order.entries) = is ∙ (λ t. option_map_or (λ e. e.1.frame) (goes_in (en t) (ed t)) (length i.order.entries)) in
        let io2 : order ≡ lru_cache ((page, record { frame = frame; pins = 0 }) ∷ staying (goes_in (length i.pool) i.dirty.items) i.order.entries) i.order.cap =
        io ∙ (λ t. lru_cache ((page, record { frame = frame; pins = 0 }) ∷ staying (goes_in (en t) (ed t)) i.order.entries) i.order.cap) in
        let long : length (set i.pool frame bytes) ≡ length i.pool = length-set i.pool frame bytes in
        let shows = shown_entered i.pool (length i.pool) i.dirty.items i.order.entries page frame bytes is2 within stays_inside in
        let value : value_of (record i { pool = set i.pool frame bytes; order = order }) ≡ entered_page page bytes (value_of i) =
        (λ t. record { frames = long t; resident = entries_shown (set i.pool frame bytes) (io2 t).entries; dirty = i.dirty.items })
        ∙ ap (λ (es : List (ℕ × Held)). record { frames = length i.pool; resident = es; dirty = i.dirty.items }) shows in (
          record {
            whole = subst IsCache (sym value) (entered_cache (value_of i) page h.whole new room bytes);
            room = ap (λ (o : LruCache ℕ Slot). o.cap) io2 ∙ h.room ∙ ap (λ k. k + 1) (sym long);
            few = subst (λ k. k ≤ 1024) (sym long) h.few;
            accepted = subst (HasAccepted (set i.accepted frame 0)) (sym value)
                (entered_accepted i.accepted page bytes (value_of i) frame h.whole (frame_is n ds frame en ed is) h.accepted);
          },
          value,
        )

-- ---- what an option of a `&mut` points to

pub some_behind : (o : Option (MutBor Slot)) → IsSome (option_map (λ (x : MutBor Slot). x.now) o) → IsSome o
some_behind None h = h
some_behind (Some x) h = refl

pub slot_behind : (o : Option (MutBor Slot)) (x : MutBor Slot) (l : Option Slot) → option_map (λ (y : MutBor Slot). y.now) o ≡ l → o ≡ Some x → l ≡ Some x.now
slot_behind o x l value is = sym value ∙ ap (option_map (λ (y : MutBor Slot). y.now)) is

-- ---- a new cache

pub empty_inside : (i : Inside) → i.order.entries ≡ [] → i.order.cap ≡ length i.pool + 1 → i.dirty.items ≡ [] → length i.pool ≤ 1024 → i.accepted ≡ replicate 1024 0 → IsInside i
empty_inside i none room clean few unmarked =
    let value : value_of i ≡ no_pages (length i.pool) = (λ t. record { frames = length i.pool; resident = entries_shown i.pool (none t); dirty = clean t }) in
    record {
      whole = subst IsCache (sym value) (no_pages_cache (length i.pool));
      room = room;
      few = few;
      accepted = subst (λ (marks : List ℕ). HasAccepted marks (value_of i)) (sym unmarked) (none_accepted 1024 (value_of i));
    }
