-- The anchor moves on by a third: the scan from there is the rest of the old one.
use Rattle.std.proofs.Common.{◌≡◌, ◌⊎◌, inl, inr, ⊎_elim, ℕ, ◌+◌, ◌-◌, ◌*◌, ◌^◌, ◌<◌, ◌≤◌, List, [], ◌∷◌, ◌++◌, length, map, Option, Some, None, nat_lt, refl, sym, ap, subst, ◌∙◌, arith}
use Rattle.std.specs.List.{AllByRecursion}
use Rattle.std.proofs.lemmas.Bool.{cases_lt, cond-true, cond-false, lt-ltb, le-ltb}
use Rattle.std.specs.Prelude.{if◌then◌else◌}
use Rattle.volume_layout.specs.Shape.{Shape}
use Rattle.volume_layout.specs.Kinds.{gap_of}
use Rattle.fsd_formats.specs.Record.{record_len}
use Rattle.fsd_log.specs.Judged.{Reader, record_in}
use Rattle.fsd_log.specs.Borne.{Foreign}
use Rattle.fsd_log.proofs.JudgedLaws.{foreign_absent}
use Rattle.fsd_log.proofs.HereLaws.{here_none}
use Rattle.fsd_log.specs.Scan.{last_number, IsIn, Head, Placed, Walked, room_at, window, record_here, next, scan, start, place_of, tape, IsLog}
use Rattle.fsd_log.specs.Moves.{moved_back, head_back, IsNextThird, MovesOn}
use Rattle.fsd_log.proofs.WalkLaws.{stamp_of, IsHere, IsThere, IsFound, GoesOn, found_goes_on, Goes, goes_of_walk, walk_of_goes, none_next}
use Rattle.fsd_log.proofs.AppendLaws.{none_foreign, window_foreign}
use Rattle.fsd_log.proofs.PlaceLaws.{end_most}

-- the tape of the next third: the old one from its second third on, and then its first third
pub record IsShifted (l : Shape) (old new : Reader) : Type 0 where
  pub moved : (w : ℕ) → w < 2 * l.third → new w ≡ old (w + l.third)

module _ (l : Shape) (epoch : ℕ) (old new : Reader) (shifted : IsShifted l old new) where
  same_here : (number at end : ℕ) → l.third ≤ at → at ≤ end → end ≤ 3 * l.third → record_here l epoch new number (at - l.third) (end - l.third) ≡ record_here l epoch old number at end
  same_here number at end from before inside =
      let room : room_at (at - l.third) (end - l.third) ≡ room_at at end = omega arith in
      let windows : window new (at - l.third) (room_at at end) ≡ window old at (room_at at end) = λ i k. pointwise k i in
      (λ i. if nat_lt number last_number then record_in (gap_of l) l.pages (stamp_of epoch number) (room i) (window new (at - l.third) (room i)) else None)
      ∙ ap (λ (r : Reader). if nat_lt number last_number then record_in (gap_of l) l.pages (stamp_of epoch number) (room_at at end) r else None) windows
    where
      pointwise : (k : ℕ) → window new (at - l.third) (room_at at end) k ≡ window old at (room_at at end) k
      pointwise k = elim (cases_lt k (room_at at end)) [
        | inl lt ↦ ap (λ (o : Option (List ℕ)). if nat_lt k (room_at at end) then o else None) (shifted.moved (at - l.third + k) (omega arith) ∙ ap old (omega arith))
        | inr past ↦
            cond-false (nat_lt k (room_at at end)) (new (at - l.third + k)) None (le-ltb k (room_at at end) past)
            ∙ sym (cond-false (nat_lt k (room_at at end)) (old (at + k)) None (le-ltb k (room_at at end) past))
      ]

  -- behind the first third each step goes alike
  found_back : (h : Head) (r : Placed) (h1 : Head) → IsIn l h → l.third < h.at → IsFound l epoch old h r h1 → IsFound l epoch new (head_back l.third h) (moved_back l.third r) (head_back l.third h1)
  found_back h r h1 is_in from is =
      let one = found_goes_on l epoch old h r h1 is_in is in
      let end : h1.end ≡ is.end = ap (λ (x : Head). x.end) is.goes_on in
      record {
        end = is.end - l.third;
        place = ⊎_elim
            (λ here. inl (record { at_head = ap (λ (x : ℕ). x - l.third) here.at_head; in_third = ap (λ (x : ℕ). x - l.third) here.in_third }))
            (λ there. inr (record {
              none = same_here h.number h.at h.end (omega arith) is_in.before (end_most l h.end is_in.ends) ∙ there.none;
              enters = record { some = omega arith; further = omega (arith, there.enters.further) };
              at_start = ap (λ (x : ℕ). x - l.third) there.at_start;
              in_third = ap (λ (x : ℕ). x - l.third) there.in_third ∙ omega (arith, is_in.before);
            })) is.place;
        found = same_here h.number r.at is.end (omega (arith, one.from)) (omega (arith, one.to, one.is_in.before, end)) (omega (arith, end, end_most l h1.end one.is_in.ends)) ∙ is.found;
        goes_on = (λ i. head_back l.third (is.goes_on i)) ∙ λ i. record { number = h.number + 1; at = moved_on i; end = is.end - l.third };
      }
    where
      moved_on : r.at + record_len (gap_of l) (length r.entry.pages) - l.third ≡ r.at - l.third + record_len (gap_of l) (length r.entry.pages)
      moved_on = let one = found_goes_on l epoch old h r h1 is_in is in omega (arith, one.from)

  goes_back : (h : Head) (rs : List Placed) (end : Head) → IsIn l h → l.third < h.at → Goes l epoch old h rs end → Goes l epoch new (head_back l.third h) (map (moved_back l.third) rs) (head_back l.third end)
  goes_back h [] end is_in from goes = ap (head_back l.third) goes
  goes_back h (r ∷ rs) end is_in from goes =
      let one = found_goes_on l epoch old h r goes.0 is_in goes.1 in
      (head_back l.third goes.0, found_back h r goes.0 is_in from goes.1, goes_back goes.0 rs end one.is_in (omega (arith, one.from, one.to)) goes.2)

  -- the part of the scan in the first third, and the rest as it is found on the new tape
  pub record Splits (h : Head) (rs : List Placed) (end : Head) : Type 0 where
    pub front : List Placed
    pub rest : List Placed
    pub joined : rs ≡ front ++ rest
    pub some : h.at ≡ 0 → 0 < length front
    pub before : AllByRecursion (λ r. r.at < l.third) front
    pub behind : AllByRecursion (λ r. l.third ≤ r.at) rest
    pub goes : Goes l epoch new (start l (h.number + length front)) (map (moved_back l.third) rest) (head_back l.third end)

  -- what is found lies behind the head
  goes_behind : (from : ℕ) (h : Head) (rs : List Placed) (end : Head) → IsIn l h → from ≤ h.at → Goes l epoch old h rs end → AllByRecursion (λ r. from ≤ r.at) rs
  goes_behind from h [] end is_in le goes = tt
  goes_behind from h (r ∷ rs) end is_in le goes =
      let one = found_goes_on l epoch old h r goes.0 is_in goes.1 in
      (omega (arith, le, one.from), goes_behind from goes.0 rs end one.is_in (omega (arith, le, one.from, one.to)) goes.2)

  splits_from : (h : Head) (rs : List Placed) (end : Head) → IsIn l h → h.end ≡ l.third → l.third < end.at → Goes l epoch old h rs end → Splits h rs end
  splits_from h [] end is_in first far goes = absurd (omega (arith, ap (λ (x : Head). x.at) goes, is_in.before))
  splits_from h (r ∷ rs) end is_in first far goes = by_place goes.1.place (λ in_first. splits_from goes.0 rs end one.is_in in_first far goes.2)
    where
      one : GoesOn l h r goes.0
      one = found_goes_on l epoch old h r goes.0 is_in goes.1

      ends : goes.0.end ≡ goes.1.end
      ends = ap (λ (x : Head). x.end) goes.1.goes_on

      by_place : IsHere h r.at goes.1.end ⊎ IsThere l epoch old h r.at goes.1.end → (goes.0.end ≡ l.third → Splits goes.0 rs end) → Splits h (r ∷ rs) end
      by_place (inl here) more =
          let rest = more (ends ∙ here.in_third ∙ first) in
          let count : goes.0.number + length rest.front ≡ h.number + length (r ∷ rest.front) = omega (arith, one.number) in
          record {
            front = r ∷ rest.front;
            rest = rest.rest;
            joined = ap (λ (x : List Placed). r ∷ x) rest.joined;
            some = λ at. omega arith;
            before = (omega (arith, one.to, one.is_in.before, ends, here.in_third, first), rest.before);
            behind = rest.behind;
            goes = subst (λ (n : ℕ). Goes l epoch new (start l n) (map (moved_back l.third) rest.rest) (head_back l.third end)) count rest.goes;
          }
      by_place (inr there) more =
          let at : r.at ≡ l.third = there.at_start ∙ first in
          let last : goes.1.end ≡ l.third + l.third = there.in_third ∙ ap (λ (x : ℕ). x + l.third) first in
          let found : record_here l epoch new h.number (r.at - l.third) (goes.1.end - l.third) ≡ Some r.entry =
          same_here h.number r.at goes.1.end (omega (arith, at)) (omega (arith, at, last)) (omega (arith, ends, end_most l goes.0.end one.is_in.ends)) ∙ goes.1.found in
          let count : h.number ≡ h.number + length {A = Placed} [] = omega arith in
          let moved : r.at + record_len (gap_of l) (length r.entry.pages) - l.third ≡ r.at - l.third + record_len (gap_of l) (length r.entry.pages) = omega (arith, at) in
          let step : IsFound l epoch new (start l h.number) (moved_back l.third r) (head_back l.third goes.0) = record {
            end = goes.1.end - l.third;
            place = inl (record { at_head = omega (arith, at); in_third = omega (arith, last) });
            found = found;
            goes_on = (λ i. head_back l.third (goes.1.goes_on i)) ∙ λ i. record { number = h.number + 1; at = moved i; end = goes.1.end - l.third };
          } in
          record {
            front = [];
            rest = r ∷ rs;
            joined = refl;
            some = λ none. absurd (let entered = there.enters.some in omega (arith, none, entered));
            before = tt;
            behind = (omega (arith, at), goes_behind l.third goes.0 rs end one.is_in (omega (arith, at, one.to)) goes.2);
            goes = subst (λ (n : ℕ). Goes l epoch new (start l n) (map (moved_back l.third) (r ∷ rs)) (head_back l.third end)) count
                (head_back l.third goes.0, step, goes_back goes.0 rs end one.is_in (omega (arith, at, one.to)) goes.2);
          }

-- what the old first third bears comes last on the new tape
pub record IsAround (l : Shape) (old new : Reader) : Type 0 where
  pub first : (w : ℕ) → 2 * l.third ≤ w → (new w ≡ None) ⊎ (new w ≡ old (w - 2 * l.third))

-- the rest of the log, by the anchor that has moved on

module _ (l : Shape) (epoch first : ℕ) (fits : epoch < 2 ^ 32) (third : 0 < l.third) (old new : Reader) (shifted : IsShifted l old new) (around : IsAround l old new) (rs : List Placed) (h : Head)
    (log : IsLog l epoch first old rs h) (small : h.number < 2 ^ 32) (entered : l.third < h.at) where
  start_in : IsIn l (start l first)
  start_in = record { before = omega arith; from = omega arith; ends = inl refl }

  goes : Goes l epoch old (start l first) rs h
  unfolding scan
  goes = subst (λ (w : Walked). Goes l epoch old (start l first) w.records w.head) log.scanned (goes_of_walk (3 * l.third) l epoch old (start l first))

  fresh : (w m : ℕ) → h.number ≤ m → Foreign (stamp_of epoch m) (new w)
  fresh w m from = elim (cases_lt w (2 * l.third)) [
    | inl lt ↦ subst (Foreign (stamp_of epoch m)) (sym (shifted.moved w lt)) (log.fresh (w + l.third) m from)
    | inr ge ↦ ⊎_elim
        (λ none. subst (Foreign (stamp_of epoch m)) (sym none) (none_foreign (stamp_of epoch m)))
        (λ same. subst (Foreign (stamp_of epoch m)) (sym same) (log.fresh (w - 2 * l.third) m from)) (around.first w ge)
  ]

  none_at : (at end : ℕ) → record_here l epoch new h.number at end ≡ None
  none_at at end = here_none l epoch new h.number at end (foreign_absent (gap_of l) l.pages (stamp_of epoch h.number) (record { epoch = fits; number = small }) (room_at at end) (window new at (room_at at end))
      (window_foreign (stamp_of epoch h.number) new at (room_at at end) (λ k inside. fresh (at + k) h.number (omega arith))))

  pub moves_on : MovesOn l epoch first new rs h
  unfolding scan
  moves_on =
      let split = splits_from l epoch old new shifted (start l first) rs h start_in refl entered goes in
      record {
        front = split.front;
        rest = split.rest;
        joined = split.joined;
        some = split.some refl;
        before = split.before;
        behind = split.behind;
        log = record {
          scanned = walk_of_goes (3 * l.third) l epoch new (start l (first + length split.front)) (map (moved_back l.third) split.rest) (head_back l.third h) (record { before = omega arith; from = omega arith; ends = inl refl }) (omega arith) split.goes
              (none_next l epoch new (head_back l.third h) (none_at (h.at - l.third) (h.end - l.third)) (none_at (h.end - l.third) (h.end - l.third + l.third)));
          fresh = fresh;
        };
      }

-- ---- on the disk

straight : (l : Shape) (first w p : ℕ) → first * l.third + w < 3 * l.third → p ≡ 16 + (first * l.third + w) → place_of l first w ≡ p
straight l first w p lt is = cond-true (nat_lt (first * l.third + w) (3 * l.third)) _ _ (lt-ltb _ _ lt) ∙ sym is

wrapped : (l : Shape) (first w p : ℕ) → 3 * l.third ≤ first * l.third + w → p ≡ 16 + (first * l.third + w - 3 * l.third) → place_of l first w ≡ p
wrapped l first w p ge is = cond-false (nat_lt (first * l.third + w) (3 * l.third)) _ _ (le-ltb _ _ ge) ∙ sym is

pub place_moved : (l : Shape) (first next w : ℕ) → IsNextThird first next → w < 2 * l.third → place_of l next w ≡ place_of l first (w + l.third)
place_moved l first next w (inl e) lt =
    let a : first * l.third ≡ 0 = ap (λ (f : ℕ). f * l.third) e.0 ∙ omega arith in
    let b : next * l.third ≡ l.third = ap (λ (f : ℕ). f * l.third) e.1 ∙ omega arith in
    straight l next w (place_of l first (w + l.third)) (omega arith) (straight l first (w + l.third) (16 + (next * l.third + w)) (omega arith) (omega arith))
place_moved l first next w (inr (inl e)) lt =
    let a : first * l.third ≡ l.third = ap (λ (f : ℕ). f * l.third) e.0 ∙ omega arith in
    let b : next * l.third ≡ 2 * l.third = ap (λ (f : ℕ). f * l.third) e.1 in
    elim (cases_lt w l.third) [
      | inl low ↦ straight l next w (place_of l first (w + l.third)) (omega arith) (straight l first (w + l.third) (16 + (next * l.third + w)) (omega arith) (omega arith))
      | inr high ↦ wrapped l next w (place_of l first (w + l.third)) (omega arith) (wrapped l first (w + l.third) (16 + (next * l.third + w - 3 * l.third)) (omega arith) (omega arith))
    ]
place_moved l first next w (inr (inr e)) lt =
    let a : first * l.third ≡ 2 * l.third = ap (λ (f : ℕ). f * l.third) e.0 in
    let b : next * l.third ≡ 0 = ap (λ (f : ℕ). f * l.third) e.1 ∙ omega arith in
    straight l next w (place_of l first (w + l.third)) (omega arith) (wrapped l first (w + l.third) (16 + (next * l.third + w)) (omega arith) (omega arith))

place_around : (l : Shape) (first next w : ℕ) → IsNextThird first next → 2 * l.third ≤ w → w < 3 * l.third → place_of l next w ≡ place_of l first (w - 2 * l.third)
place_around l first next w (inl e) ge lt =
    let a : first * l.third ≡ 0 = ap (λ (f : ℕ). f * l.third) e.0 ∙ omega arith in
    let b : next * l.third ≡ l.third = ap (λ (f : ℕ). f * l.third) e.1 ∙ omega arith in
    wrapped l next w (place_of l first (w - 2 * l.third)) (omega arith) (straight l first (w - 2 * l.third) (16 + (next * l.third + w - 3 * l.third)) (omega arith) (omega arith))
place_around l first next w (inr (inl e)) ge lt =
    let a : first * l.third ≡ l.third = ap (λ (f : ℕ). f * l.third) e.0 ∙ omega arith in
    let b : next * l.third ≡ 2 * l.third = ap (λ (f : ℕ). f * l.third) e.1 in
    wrapped l next w (place_of l first (w - 2 * l.third)) (omega arith) (straight l first (w - 2 * l.third) (16 + (next * l.third + w - 3 * l.third)) (omega arith) (omega arith))
place_around l first next w (inr (inr e)) ge lt =
    let a : first * l.third ≡ 2 * l.third = ap (λ (f : ℕ). f * l.third) e.0 in
    let b : next * l.third ≡ 0 = ap (λ (f : ℕ). f * l.third) e.1 ∙ omega arith in
    straight l next w (place_of l first (w - 2 * l.third)) (omega arith) (straight l first (w - 2 * l.third) (16 + (next * l.third + w)) (omega arith) (omega arith))

on_tape : (l : Shape) (first w : ℕ) (disk : Reader) → w < 3 * l.third → tape l first disk w ≡ disk (place_of l first w)
on_tape l first w disk lt = cond-true (nat_lt w (3 * l.third)) (disk (place_of l first w)) None (lt-ltb w (3 * l.third) lt)

pub tape_shifts : (l : Shape) (first next : ℕ) (disk : Reader) → IsNextThird first next → IsShifted l (tape l first disk) (tape l next disk)
tape_shifts l first next disk is = record { moved = λ w lt. on_tape l next w disk (omega arith) ∙ ap disk (place_moved l first next w is lt) ∙ sym (on_tape l first (w + l.third) disk (omega arith)) }

pub tape_around : (l : Shape) (first next : ℕ) (disk : Reader) → IsNextThird first next → IsAround l (tape l first disk) (tape l next disk)
tape_around l first next disk is = record {
  first = λ w ge. elim (cases_lt w (3 * l.third)) [
    | inl lt ↦ inr (on_tape l next w disk lt ∙ ap disk (place_around l first next w is ge lt) ∙ sym (on_tape l first (w - 2 * l.third) disk (omega arith)))
    | inr past ↦ inl (cond-false (nat_lt w (3 * l.third)) (disk (place_of l next w)) None (le-ltb w (3 * l.third) past))
  ];
}
