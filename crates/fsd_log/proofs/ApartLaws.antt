-- Two tapes that differ in one record alone, and on which that record reads the same: the scans are the same.
use Rattle.std.proofs.Common.{◌≡◌, ◌⊎◌, inl, inr, ⊎_elim, ℕ, zero, suc, ◌+◌, ◌*◌, ◌^◌, ◌<◌, ◌≤◌, Bool, true, false, cond, ◌&&◌, List, [], ◌∷◌, ◌++◌, length, Option, Some, None, nat_lt, refl, sym, ap, subst, ◌∙◌, arith}
use Rattle.std.proofs.lemmas.Option.{same_Some}
use Rattle.std.specs.Prelude.{option_map, unwrap_or, if◌then◌else◌}
use Rattle.std.specs.Option.{option_or}
use Rattle.std.specs.List.{AllByRecursion}
use Rattle.std.proofs.lemmas.Bool.{ltb-true}
use Rattle.volume_layout.specs.Shape.{Shape}
use Rattle.volume_layout.specs.Kinds.{gap_of}
use Rattle.fsd_formats.specs.Record.{record_len}
use Rattle.fsd_log.specs.Judged.{Reader, Logged, record_in}
use Rattle.fsd_log.specs.Borne.{Foreign}
use Rattle.fsd_log.specs.Scan.{last_number, Head, Placed, Walked, on, IsIn, room_at, window, record_here, behind, next, walk, scan, start}
use Rattle.fsd_log.proofs.HereLaws.{here_looks, here_some}
use Rattle.fsd_log.proofs.WalkLaws.{stamp_of, IsHere, IsFound, MayEnter, next_found, found_goes_on, Goes, GoesFar, goes_far, goes_of_walk, end_of_walk, walk_of_goes, goes_keeps}

-- what is looked for in a window where both are the same
pub here_window : (l : Shape) (epoch : ℕ) (X Y : Reader) (number at end : ℕ) → ((w : ℕ) → at ≤ w → w < at + room_at at end → X w ≡ Y w) → record_here l epoch X number at end ≡ record_here l epoch Y number at end
here_window l epoch X Y number at end same =
    ap (λ (d : Reader). if nat_lt number last_number then record_in (gap_of l) l.pages (stamp_of epoch number) (room_at at end) d else None) (λ i k. pointwise k i)
  where
    by_test : (k : ℕ) (b : Bool) → nat_lt k (room_at at end) ≡ b → (if b then X (at + k) else None) ≡ (if b then Y (at + k) else None)
    by_test k true is = same (at + k) (omega arith) (let lt : k < room_at at end = ltb-true k (room_at at end) is in omega arith)
    by_test k false is = refl

    pointwise : (k : ℕ) → window X at (room_at at end) k ≡ window Y at (room_at at end) k
    pointwise k = by_test k (nat_lt k (room_at at end)) refl

-- the next record, where both places look the same
next_same : (l : Shape) (epoch : ℕ) (X Y : Reader) (h : Head) → record_here l epoch X h.number h.at h.end ≡ record_here l epoch Y h.number h.at h.end → record_here l epoch X h.number h.end (h.end + l.third) ≡ record_here l epoch Y h.number h.end (h.end + l.third)
    → next l epoch X h ≡ next l epoch Y h
next_same l epoch X Y h here there =
    λ i. option_or (option_map (behind (gap_of l) h.number h.at h.end) (here i)) (cond (nat_lt 0 h.at && nat_lt h.end (3 * l.third)) (option_map (behind (gap_of l) h.number h.end (h.end + l.third)) (there i)) None)

-- a walk sees nothing in front of its head
pub walk_above : (most : ℕ) (l : Shape) (epoch : ℕ) (X Y : Reader) (h : Head) → IsIn l h → ((w : ℕ) → h.at ≤ w → X w ≡ Y w) → walk most l epoch X h ≡ walk most l epoch Y h
walk_above zero l epoch X Y h is_in same = refl
walk_above (suc most) l epoch X Y h is_in same =
    let step : next l epoch X h ≡ next l epoch Y h = next_same l epoch X Y h (here_window l epoch X Y h.number h.at h.end (λ w ge lt. same w ge)) (here_window l epoch X Y h.number h.end (h.end + l.third) (λ w ge lt. same w (omega (arith, is_in.before, ge)))) in
    by_next (λ h1 is_in1 same1. walk_above most l epoch X Y h1 is_in1 same1) (next l epoch Y h) step refl
  where
    by_next : ((h1 : Head) → IsIn l h1 → ((w : ℕ) → h1.at ≤ w → X w ≡ Y w) → walk most l epoch X h1 ≡ walk most l epoch Y h1) → (o : Option (Placed × Head)) → next l epoch X h ≡ o → next l epoch Y h ≡ o
        → unwrap_or (option_map (λ found. on found.0 (walk most l epoch X found.1)) (next l epoch X h)) (record { records = []; head = h })
        ≡ unwrap_or (option_map (λ found. on found.0 (walk most l epoch Y found.1)) (next l epoch Y h)) (record { records = []; head = h })
    by_next rest None isX isY =
        ap (λ o. unwrap_or (option_map (λ found. on found.0 (walk most l epoch X found.1)) o) (record { records = []; head = h })) isX
        ∙ sym (ap (λ o. unwrap_or (option_map (λ found. on found.0 (walk most l epoch Y found.1)) o) (record { records = []; head = h })) isY)
    by_next rest (Some found) isX isY =
        let one = found_goes_on l epoch Y h found.0 found.1 is_in (next_found l epoch Y h found isY) in
        ap (λ o. unwrap_or (option_map (λ found. on found.0 (walk most l epoch X found.1)) o) (record { records = []; head = h })) isX
        ∙ ap (on found.0) (rest found.1 one.is_in (λ w ge. same w (omega (arith, one.from, one.to, ge))))
        ∙ sym (ap (λ o. unwrap_or (option_map (λ found. on found.0 (walk most l epoch Y found.1)) o) (record { records = []; head = h })) isY)

goes_join : (l : Shape) (epoch : ℕ) (disk : Reader) (h : Head) (front : List Placed) (mid : Head) (rest : List Placed) (end : Head) → Goes l epoch disk h front mid → Goes l epoch disk mid rest end → Goes l epoch disk h (front ++ rest) end
goes_join l epoch disk h [] mid rest end goes more = subst (λ (x : Head). Goes l epoch disk x rest end) goes more
goes_join l epoch disk h (r ∷ front) mid rest end goes more = (goes.0, goes.1, goes_join l epoch disk goes.0 front mid rest end goes.2 more)

-- the records of a walk lie behind its head, and in front of where it comes to
goes_behind : (l : Shape) (epoch : ℕ) (disk : Reader) (h : Head) (rs : List Placed) (end : Head) (b : ℕ) → b ≤ h.at → IsIn l h → Goes l epoch disk h rs end → AllByRecursion (λ q. b ≤ q.at) rs
goes_behind l epoch disk h [] end b le is_in goes = tt
goes_behind l epoch disk h (q ∷ rs) end b le is_in goes =
    let one = found_goes_on l epoch disk h q goes.0 is_in goes.1 in
    (omega (arith, le, one.from), goes_behind l epoch disk goes.0 rs end b (omega (arith, le, one.from, one.to)) one.is_in goes.2)

goes_before : (l : Shape) (epoch : ℕ) (disk : Reader) (h : Head) (rs : List Placed) (end : Head) (b : ℕ) → end.at ≤ b → IsIn l h → Goes l epoch disk h rs end → AllByRecursion (λ q. q.at + record_len (gap_of l) (length q.entry.pages) ≤ b) rs
goes_before l epoch disk h [] end b le is_in goes = tt
goes_before l epoch disk h (q ∷ rs) end b le is_in goes =
    let one = found_goes_on l epoch disk h q goes.0 is_in goes.1 in
    let far = goes_far l epoch disk goes.0 rs end one.is_in goes.2 in
    (omega (arith, one.to, far.from, le), goes_before l epoch disk goes.0 rs end b le one.is_in goes.2)

-- a record lies apart from another on the tape, or is it
abbrev pub IsApartFrom : (gap : ℕ) → Placed → Placed → Type 0
IsApartFrom gap r q = ((q.at + record_len gap (length q.entry.pages) ≤ r.at) ⊎ (r.at + record_len gap (length r.entry.pages) ≤ q.at)) ⊎ ((q.at ≡ r.at) × (q.entry ≡ r.entry))

all_join : (P : Placed → Type 0) (xs ys : List Placed) → AllByRecursion P xs → AllByRecursion P ys → AllByRecursion P (xs ++ ys)
all_join P [] ys a b = b
all_join P (x ∷ xs) ys a b = (a.0, all_join P xs ys a.1 b)

all_more : (P Q : Placed → Type 0) (xs : List Placed) → ((x : Placed) → P x → Q x) → AllByRecursion P xs → AllByRecursion Q xs
all_more P Q [] more all = tt
all_more P Q (x ∷ xs) more all = (more x all.0, all_more P Q xs more all.1)

-- the scans are the same, and each of their records lies apart or is the one
pub record ScansAlike (l : Shape) (epoch first : ℕ) (X Y : Reader) (r : Placed) : Type 0 where
  pub same : scan l epoch X first ≡ scan l epoch Y first
  pub apart : AllByRecursion (IsApartFrom (gap_of l) r) (scan l epoch Y first).records

module _ (l : Shape) (epoch first : ℕ) (fits : epoch < 2 ^ 32) (X Y : Reader) (front : List Placed) (mid : Head) (goes : Goes l epoch Y (start l first) front mid) (small : mid.number < last_number)
    (r : Placed) (end : ℕ) (spot : IsHere mid r.at end ⊎ ((MayEnter l mid × (r.at ≡ mid.end) × (end ≡ mid.end + l.third)) × (record_here l epoch Y mid.number mid.at mid.end ≡ None)))
    (long : record_len (gap_of l) (length r.entry.pages) ≤ room_at r.at end)
    (agree : (w : ℕ) → (w < r.at) ⊎ (r.at + record_len (gap_of l) (length r.entry.pages) ≤ w) → X w ≡ Y w)
    (foreign : (w m : ℕ) → m < mid.number → (X w ≡ Y w) ⊎ Foreign (stamp_of epoch m) (X w))
    (reads : record_in (gap_of l) l.pages (stamp_of epoch mid.number) (room_at r.at end) (window X r.at (room_at r.at end)) ≡ record_in (gap_of l) l.pages (stamp_of epoch mid.number) (room_at r.at end) (window Y r.at (room_at r.at end)))
    (part : (record_in (gap_of l) l.pages (stamp_of epoch mid.number) (room_at r.at end) (window Y r.at (room_at r.at end)) ≡ None) ⊎ (record_in (gap_of l) l.pages (stamp_of epoch mid.number) (room_at r.at end) (window Y r.at (room_at r.at end)) ≡ Some r.entry)) where
  start_in : IsIn l (start l first)
  start_in = record { before = omega arith; from = omega arith; ends = inl refl }

  far : GoesFar l (start l first) front mid
  far = goes_far l epoch Y (start l first) front mid start_in goes

  mid_before : mid.at ≤ r.at
  mid_before = ⊎_elim (λ here. omega (arith, here.at_head)) (λ there. omega (arith, there.0.1, far.is_in.before)) spot

  goes_x : Goes l epoch X (start l first) front mid
  goes_x = goes_keeps l epoch fits Y X (start l first) front mid start_in (omega (arith, small)) (record { each = λ w m lt. foreign w m lt }) (λ w lt. agree w (inl (omega (arith, mid_before, lt)))) goes

  -- at the record's own place
  at_spot : record_here l epoch X mid.number r.at end ≡ record_here l epoch Y mid.number r.at end
  at_spot = here_looks l epoch X mid.number r.at end small ∙ reads ∙ sym (here_looks l epoch Y mid.number r.at end small)

  within : r.at + record_len (gap_of l) (length r.entry.pages) ≤ end
  within = omega (arith, long)

  next_alike : next l epoch X mid ≡ next l epoch Y mid
  next_alike = elim spot [
    | inl here ↦ next_same l epoch X Y mid
        ((λ i. record_here l epoch X mid.number (sym here.at_head i) (sym here.in_third i)) ∙ at_spot ∙ (λ i. record_here l epoch Y mid.number (here.at_head i) (here.in_third i)))
        (here_window l epoch X Y mid.number mid.end (mid.end + l.third) (λ w ge lt. agree w (inr (omega (arith, within, here.in_third, ge)))))
    | inr there ↦ next_same l epoch X Y mid
        (here_window l epoch X Y mid.number mid.at mid.end (λ w ge lt. agree w (inl (omega (arith, there.0.1, far.is_in.before, lt)))))
        ((λ i. record_here l epoch X mid.number (sym there.0.1 i) (sym there.0.2 i)) ∙ at_spot ∙ (λ i. record_here l epoch Y mid.number (there.0.1 i) (there.0.2 i)))
  ]

  front_apart : AllByRecursion (IsApartFrom (gap_of l) r) front
  front_apart = all_more (λ q. q.at + record_len (gap_of l) (length q.entry.pages) ≤ r.at) (IsApartFrom (gap_of l) r) front (λ q le. inl (inl le)) (goes_before l epoch Y (start l first) front mid r.at mid_before start_in goes)

  -- what is found at its place is it
  found_there : (e : Logged) → record_here l epoch Y mid.number r.at end ≡ Some e → e ≡ r.entry
  found_there e is = ⊎_elim
      (λ none. absurd (let looks = here_some l epoch Y mid.number r.at end e is in cc (none, looks.1)))
      (λ some. let looks = here_some l epoch Y mid.number r.at end e is in same_Some e r.entry (sym looks.1 ∙ some)) part

  -- what is found next is it, or lies behind it
  found_apart : (q : Placed) (h1 : Head) → IsFound l epoch Y mid q h1 → IsApartFrom (gap_of l) r q × (r.at + record_len (gap_of l) (length r.entry.pages) ≤ h1.at)
  found_apart q h1 is =
      let one = found_goes_on l epoch Y mid q h1 far.is_in is in
      let is_it : q.at ≡ r.at → is.end ≡ end → IsApartFrom (gap_of l) r q × (r.at + record_len (gap_of l) (length r.entry.pages) ≤ h1.at) =
      λ at ends.
      let same : q.entry ≡ r.entry = found_there q.entry ((λ i. record_here l epoch Y mid.number (sym at i) (sym ends i)) ∙ is.found) in
      (inr (at, same), omega (arith, one.to, at, ap (λ (e : Logged). length e.pages) same)) in
      elim spot [
        | inl here ↦ elim is.place [
          | inl q_here ↦ is_it (q_here.at_head ∙ sym here.at_head) (q_here.in_third ∙ sym here.in_third)
          | inr q_there ↦ (inl (inr (omega (arith, within, here.in_third, q_there.at_start))), omega (arith, within, here.in_third, q_there.at_start, one.to))
        ]
        | inr there ↦ elim is.place [
          | inl q_here ↦ absurd (let found = (λ i. record_here l epoch Y mid.number (sym q_here.at_head i) (sym q_here.in_third i)) ∙ is.found in let none = there.1 in cc (none, found))
          | inr q_there ↦ is_it (q_there.at_start ∙ sym there.0.1) (q_there.in_third ∙ sym there.0.2)
        ]
      ]

  alike_none : next l epoch Y mid ≡ None → ScansAlike l epoch first X Y r
  unfolding scan
  alike_none none =
      let x = walk_of_goes (3 * l.third) l epoch X (start l first) front mid start_in (omega arith) goes_x (next_alike ∙ none) in
      let y = walk_of_goes (3 * l.third) l epoch Y (start l first) front mid start_in (omega arith) goes none in
      record { same = x ∙ sym y; apart = subst (λ (w : Walked). AllByRecursion (IsApartFrom (gap_of l) r) w.records) (sym y) front_apart }

  alike_some : (q : Placed) (h1 : Head) → next l epoch Y mid ≡ Some (q, h1) → ScansAlike l epoch first X Y r
  unfolding scan
  alike_some q h1 some =
      let found = next_found l epoch Y mid (q, h1) some in
      let found_x = next_found l epoch X mid (q, h1) (next_alike ∙ some) in
      let one = found_goes_on l epoch Y mid q h1 far.is_in found in
      let apart = found_apart q h1 found in
      let W : Walked = walk (3 * l.third) l epoch Y h1 in
      let tail = walk_above (3 * l.third) l epoch X Y h1 one.is_in (λ w ge. agree w (inr (omega (arith, apart.1, ge)))) in
      let goes_tail : Goes l epoch Y h1 (walk (3 * l.third) l epoch Y h1).records (walk (3 * l.third) l epoch Y h1).head = goes_of_walk (3 * l.third) l epoch Y h1 in
      let goes_tail_x : Goes l epoch X h1 (walk (3 * l.third) l epoch Y h1).records (walk (3 * l.third) l epoch Y h1).head = subst (λ (w : Walked). Goes l epoch X h1 w.records w.head) tail (goes_of_walk (3 * l.third) l epoch X h1) in
      let done : next l epoch Y (walk (3 * l.third) l epoch Y h1).head ≡ None = end_of_walk (3 * l.third) l epoch Y h1 one.is_in (omega arith) in
      let done_x : next l epoch X (walk (3 * l.third) l epoch Y h1).head ≡ None = subst (λ (w : Walked). next l epoch X w.head ≡ None) tail (end_of_walk (3 * l.third) l epoch X h1 one.is_in (omega arith)) in
      let y = walk_of_goes (3 * l.third) l epoch Y (start l first) (front ++ q ∷ (walk (3 * l.third) l epoch Y h1).records) (walk (3 * l.third) l epoch Y h1).head start_in (omega arith)
      (goes_join l epoch Y (start l first) front mid (q ∷ (walk (3 * l.third) l epoch Y h1).records) (walk (3 * l.third) l epoch Y h1).head goes (h1, found, goes_tail)) done in
      let x = walk_of_goes (3 * l.third) l epoch X (start l first) (front ++ q ∷ (walk (3 * l.third) l epoch Y h1).records) (walk (3 * l.third) l epoch Y h1).head start_in (omega arith)
      (goes_join l epoch X (start l first) front mid (q ∷ (walk (3 * l.third) l epoch Y h1).records) (walk (3 * l.third) l epoch Y h1).head goes_x (h1, found_x, goes_tail_x)) done_x in
      record {
        same = x ∙ sym y;
        apart = subst (λ (w : Walked). AllByRecursion (IsApartFrom (gap_of l) r) w.records) (sym y)
            (all_join (IsApartFrom (gap_of l) r) front (q ∷ (walk (3 * l.third) l epoch Y h1).records) front_apart (
              apart.0,
              all_more (λ x. r.at + record_len (gap_of l) (length r.entry.pages) ≤ x.at) (IsApartFrom (gap_of l) r) (walk (3 * l.third) l epoch Y h1).records (λ x ge. inl (inr ge))
                  (goes_behind l epoch Y h1 (walk (3 * l.third) l epoch Y h1).records (walk (3 * l.third) l epoch Y h1).head (r.at + record_len (gap_of l) (length r.entry.pages)) apart.1 one.is_in goes_tail),
            ));
      }

  pub scans_alike : ScansAlike l epoch first X Y r
  scans_alike = by_next (next l epoch Y mid) refl
    where
      by_next : (o : Option (Placed × Head)) → next l epoch Y mid ≡ o → ScansAlike l epoch first X Y r
      by_next None is = alike_none is
      by_next (Some x) is = alike_some x.0 x.1 is
