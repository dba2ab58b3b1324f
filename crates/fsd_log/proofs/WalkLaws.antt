-- How a scan goes.
use Rattle.std.proofs.Common.{◌≡◌, ℕ, zero, suc, ◌+◌, ◌*◌, ◌^◌, ◌<◌, ◌≤◌, Bool, true, false, cond, ◌&&◌, List, [], ◌∷◌, ◌++◌, length, Option, Some, None, nat_lt, refl, sym, ap, subst, ◌∙◌, arith, inl, inr, ◌⊎◌, ⊎_elim}
use Rattle.std.specs.Prelude.{option_map, unwrap_or, if◌then◌else◌}
use Rattle.std.specs.Option.{option_or}
use Rattle.std.proofs.lemmas.Bool.{cond-true, ltb-true, lt-ltb, and_parts, and_from}
use Rattle.volume_layout.specs.Shape.{Shape}
use Rattle.volume_layout.specs.Kinds.{gap_of}
use Rattle.fsd_formats.specs.Record.{Stamp, record_len}
use Rattle.fsd_log.specs.Judged.{Reader, Logged}
use Rattle.fsd_log.specs.Borne.{Foreign, FitsStamp, ReadsLess}
use Rattle.fsd_log.proofs.JudgedLaws.{record_less, record_keeps, record_room}
use Rattle.fsd_log.proofs.HereLaws.{here_looks, here_none, here_some}
use Rattle.fsd_log.specs.Scan.{IsEnd, IsIn, Head, Placed, on, room_at, window, record_here, behind, next, walk}
use Rattle.fsd_log.proofs.PlaceLaws.{end_most}

abbrev pub stamp_of : ℕ → ℕ → Stamp
stamp_of epoch number = record { epoch = epoch; number = number }

abbrev pub head_behind : (gap : ℕ) → ℕ → ℕ → Placed → Head
head_behind gap number end r = record { number = number + 1; at = r.at + record_len gap (length r.entry.pages); end = end }

-- it may be the next third's turn
pub record MayEnter (l : Shape) (h : Head) : Type 0 where
  pub some : 0 < h.at
  pub further : h.end < 3 * l.third

-- where the next record is found
pub record IsHere (h : Head) (at end : ℕ) : Type 0 where
  pub at_head : at ≡ h.at
  pub in_third : end ≡ h.end

pub record IsThere (l : Shape) (epoch : ℕ) (disk : Reader) (h : Head) (at end : ℕ) : Type 0 where
  pub none : record_here l epoch disk h.number h.at h.end ≡ None
  pub enters : MayEnter l h
  pub at_start : at ≡ h.end
  pub in_third : end ≡ h.end + l.third

pub record IsFound (l : Shape) (epoch : ℕ) (disk : Reader) (h : Head) (r : Placed) (h1 : Head) : Type 0 where
  pub end : ℕ
  pub place : IsHere h r.at end ⊎ IsThere l epoch disk h r.at end
  pub found : record_here l epoch disk h.number r.at end ≡ Some r.entry
  pub goes_on : h1 ≡ head_behind (gap_of l) h.number end r

pub next_end : (l : Shape) (end : ℕ) → IsEnd l end → end < 3 * l.third → IsEnd l (end + l.third)
next_end l end (inl e) lt = inr (inl (omega arith))
next_end l end (inr (inl e)) lt = inr (inr (omega arith))
next_end l end (inr (inr e)) lt = absurd (omega arith)

abbrev enters : Shape → Head → Bool
enters l h = nat_lt 0 h.at && nat_lt h.end (3 * l.third)

may_enter : (l : Shape) (h : Head) → enters l h ≡ true → MayEnter l h
may_enter l h e = let parts = and_parts (nat_lt 0 h.at) (nat_lt h.end (3 * l.third)) e in record { some = ltb-true 0 h.at parts.0; further = ltb-true h.end (3 * l.third) parts.1 }

enter_may : (l : Shape) (h : Head) → MayEnter l h → enters l h ≡ true
enter_may l h may = and_from (nat_lt 0 h.at) (nat_lt h.end (3 * l.third)) (lt-ltb 0 h.at may.some) (lt-ltb h.end (3 * l.third) may.further)

-- ---- one step

module _ (l : Shape) (epoch : ℕ) (disk : Reader) (h : Head) where
  abbrev here : Option Logged
  here = record_here l epoch disk h.number h.at h.end

  abbrev there : Option Logged
  there = record_here l epoch disk h.number h.end (h.end + l.third)

  pub found_next : (r : Placed) (h1 : Head) → IsFound l epoch disk h r h1 → next l epoch disk h ≡ Some (r, h1)
  found_next r h1 is = by_place is.place
    where
      by_place : IsHere h r.at is.end ⊎ IsThere l epoch disk h r.at is.end → next l epoch disk h ≡ Some (r, h1)
      by_place (inl at) =
          let found : record_here l epoch disk h.number h.at h.end ≡ Some r.entry = (λ i. record_here l epoch disk h.number (sym at.at_head i) (sym at.in_third i)) ∙ is.found in
          let same : behind (gap_of l) h.number h.at h.end r.entry ≡ (r, h1) = (λ i. behind (gap_of l) h.number (sym at.at_head i) (sym at.in_third i) r.entry) ∙ (λ i. (r, sym is.goes_on i)) in
          ap (λ (o : Option Logged). option_or (option_map (behind (gap_of l) h.number h.at h.end) o) (if enters l h then option_map (behind (gap_of l) h.number h.end (h.end + l.third)) (record_here l epoch disk h.number h.end (h.end + l.third)) else None)) found
          ∙ ap (λ (x : Placed × Head). Some x) same
      by_place (inr at) =
          let found : record_here l epoch disk h.number h.end (h.end + l.third) ≡ Some r.entry = (λ i. record_here l epoch disk h.number (sym at.at_start i) (sym at.in_third i)) ∙ is.found in
          let same : behind (gap_of l) h.number h.end (h.end + l.third) r.entry ≡ (r, h1) = (λ i. behind (gap_of l) h.number (sym at.at_start i) (sym at.in_third i) r.entry) ∙ (λ i. (r, sym is.goes_on i)) in
          ap (λ (o : Option Logged). option_or (option_map (behind (gap_of l) h.number h.at h.end) o) (if enters l h then option_map (behind (gap_of l) h.number h.end (h.end + l.third)) (record_here l epoch disk h.number h.end (h.end + l.third)) else None)) at.none
          ∙ cond-true (enters l h) _ None (enter_may l h at.enters)
          ∙ ap (option_map (behind (gap_of l) h.number h.end (h.end + l.third))) found
          ∙ ap (λ (x : Placed × Head). Some x) same

  pub next_found : (x : Placed × Head) → next l epoch disk h ≡ Some x → IsFound l epoch disk h x.0 x.1
  next_found x e = by_here (record_here l epoch disk h.number h.at h.end) refl e
    where
      by_there : (b : Bool) (o : Option Logged) → record_here l epoch disk h.number h.at h.end ≡ None → enters l h ≡ b → record_here l epoch disk h.number h.end (h.end + l.third) ≡ o
          → cond b (option_map (behind (gap_of l) h.number h.end (h.end + l.third)) o) None ≡ Some x → IsFound l epoch disk h x.0 x.1
      by_there false o none may is given = absurd (cc)
      by_there true None none may is given = absurd (cc)
      by_there true (Some r) none may is given =
          let made : behind (gap_of l) h.number h.end (h.end + l.third) r ≡ x = cc in
          subst (λ (y : Placed × Head). IsFound l epoch disk h y.0 y.1) made
          (record { end = h.end + l.third; place = inr (record { none = none; enters = may_enter l h may; at_start = refl; in_third = refl }); found = is; goes_on = refl })

      by_here : (o : Option Logged) → record_here l epoch disk h.number h.at h.end ≡ o
          → option_or (option_map (behind (gap_of l) h.number h.at h.end) o) (cond (enters l h) (option_map (behind (gap_of l) h.number h.end (h.end + l.third)) (record_here l epoch disk h.number h.end (h.end + l.third))) None) ≡ Some x → IsFound l epoch disk h x.0 x.1
      by_here None is given = by_there (enters l h) (record_here l epoch disk h.number h.end (h.end + l.third)) is refl refl given
      by_here (Some r) is given =
          let made : behind (gap_of l) h.number h.at h.end r ≡ x = cc in
          subst (λ (y : Placed × Head). IsFound l epoch disk h y.0 y.1) made (record { end = h.end; place = inl (record { at_head = refl; in_third = refl }); found = is; goes_on = refl })

  -- nothing at either place
  pub none_next : record_here l epoch disk h.number h.at h.end ≡ None → record_here l epoch disk h.number h.end (h.end + l.third) ≡ None → next l epoch disk h ≡ None
  none_next none_here none_there =
      (λ i. option_or (option_map (behind (gap_of l) h.number h.at h.end) (none_here i)) (cond (enters l h) (option_map (behind (gap_of l) h.number h.end (h.end + l.third)) (none_there i)) None))
      ∙ either (enters l h)
    where
      either : (b : Bool) → cond {A = Option (Placed × Head)} b None None ≡ None
      either true = refl
      either false = refl

-- what is found lies in its third, and the head goes on behind it
pub record GoesOn (l : Shape) (h : Head) (r : Placed) (h1 : Head) : Type 0 where
  pub from : h.at ≤ r.at
  pub to : h1.at ≡ r.at + record_len (gap_of l) (length r.entry.pages)
  pub is_in : IsIn l h1
  pub number : h1.number ≡ h.number + 1

module _ (l : Shape) (epoch : ℕ) (disk : Reader) (h : Head) (r : Placed) (h1 : Head) (is_in : IsIn l h) where
  goes_to : (end : ℕ) → IsEnd l end → h.at ≤ r.at → r.at ≤ end → end ≤ r.at + l.third → record_here l epoch disk h.number r.at end ≡ Some r.entry → h1 ≡ head_behind (gap_of l) h.number end r → GoesOn l h r h1
  goes_to end ends from before after found goes_on =
      let room : record_len (gap_of l) (length r.entry.pages) ≤ room_at r.at end = record_room (gap_of l) l.pages (stamp_of epoch h.number) (room_at r.at end) (window disk r.at (room_at r.at end)) r.entry (here_some l epoch disk h.number r.at end r.entry found).1 in
      let within : r.at + record_len (gap_of l) (length r.entry.pages) ≤ end = omega (arith, room) in
      subst (GoesOn l h r) (sym goes_on) (record { from = from; to = refl; is_in = record { before = within; from = omega arith; ends = ends }; number = refl })

  pub found_goes_on : IsFound l epoch disk h r h1 → GoesOn l h r h1
  found_goes_on is = elim is.place [
    | inl here ↦ goes_to is.end (subst (IsEnd l) (sym here.in_third) is_in.ends) (omega (arith, here.at_head)) (omega (arith, here.at_head, here.in_third, is_in.before)) (omega (arith, here.at_head, here.in_third, is_in.from)) is.found is.goes_on
    | inr there ↦ goes_to is.end (subst (IsEnd l) (sym there.in_third) (next_end l h.end is_in.ends there.enters.further)) (omega (arith, there.at_start, is_in.before)) (omega (arith, there.at_start, there.in_third)) (omega (arith, there.at_start, there.in_third)) is.found is.goes_on
  ]

-- ---- many steps

abbrev pub Goes : Shape → ℕ → Reader → Head → List Placed → Head → Type 0
Goes l epoch disk h [] end = end ≡ h
Goes l epoch disk h (r ∷ rs) end = (h1 : Head) × IsFound l epoch disk h r h1 × Goes l epoch disk h1 rs end

-- how far it goes
pub record GoesFar (l : Shape) (h : Head) (rs : List Placed) (end : Head) : Type 0 where
  pub from : h.at ≤ end.at
  pub is_in : IsIn l end
  pub number : end.number ≡ h.number + length rs

pub goes_far : (l : Shape) (epoch : ℕ) (disk : Reader) (h : Head) (rs : List Placed) (end : Head) → IsIn l h → Goes l epoch disk h rs end → GoesFar l h rs end
goes_far l epoch disk h [] end is_in goes = subst (GoesFar l h []) (sym goes) (record { from = omega arith; is_in = is_in; number = omega arith })
goes_far l epoch disk h (r ∷ rs) end is_in goes =
    let one = found_goes_on l epoch disk h r goes.0 is_in goes.1 in
    let rest = goes_far l epoch disk goes.0 rs end one.is_in goes.2 in
    record { from = omega (arith, one.from, one.to, rest.from); is_in = rest.is_in; number = omega (arith, rest.number, one.number) }

pub goes_more : (l : Shape) (epoch : ℕ) (disk : Reader) (h : Head) (rs : List Placed) (mid : Head) (r : Placed) (end : Head) → Goes l epoch disk h rs mid → IsFound l epoch disk mid r end → Goes l epoch disk h (rs ++ r ∷ []) end
goes_more l epoch disk h [] mid r end goes is = (end, subst (λ (x : Head). IsFound l epoch disk x r end) goes is, refl)
goes_more l epoch disk h (q ∷ rs) mid r end goes is = (goes.0, goes.1, goes_more l epoch disk goes.0 rs mid r end goes.2 is)

pub goes_of_walk : (most : ℕ) (l : Shape) (epoch : ℕ) (disk : Reader) (h : Head) → Goes l epoch disk h (walk most l epoch disk h).records (walk most l epoch disk h).head
goes_of_walk zero l epoch disk h = refl
goes_of_walk (suc most) l epoch disk h = by_next (λ h1. goes_of_walk most l epoch disk h1) (next l epoch disk h) refl
  where
    by_next : ((h1 : Head) → Goes l epoch disk h1 (walk most l epoch disk h1).records (walk most l epoch disk h1).head) → (o : Option (Placed × Head)) → next l epoch disk h ≡ o →
        let w = unwrap_or (option_map (λ found. on found.0 (walk most l epoch disk found.1)) o) (record { records = []; head = h }) in Goes l epoch disk h w.records w.head
    by_next rest None is = refl
    by_next rest (Some found) is = (found.1, next_found l epoch disk h found is, rest found.1)

full_none : (l : Shape) (epoch : ℕ) (disk : Reader) (h : Head) → IsIn l h → 3 * l.third ≤ h.at → next l epoch disk h ≡ None
full_none l epoch disk h is_in full = by_next (next l epoch disk h) refl
  where
    by_next : (o : Option (Placed × Head)) → next l epoch disk h ≡ o → o ≡ None
    by_next None is = refl
    by_next (Some found) is =
        let one = found_goes_on l epoch disk h found.0 found.1 is_in (next_found l epoch disk h found is) in
        absurd (omega (arith, one.from, one.to, one.is_in.before, end_most l found.1.end one.is_in.ends))

pub end_of_walk : (most : ℕ) (l : Shape) (epoch : ℕ) (disk : Reader) (h : Head) → IsIn l h → 3 * l.third ≤ most + h.at → next l epoch disk (walk most l epoch disk h).head ≡ None
end_of_walk zero l epoch disk h is_in enough = full_none l epoch disk h is_in (omega arith)
end_of_walk (suc most) l epoch disk h is_in enough = by_next (λ h1 is_in1 enough1. end_of_walk most l epoch disk h1 is_in1 enough1) (next l epoch disk h) refl
  where
    by_next : ((h1 : Head) → IsIn l h1 → 3 * l.third ≤ most + h1.at → next l epoch disk (walk most l epoch disk h1).head ≡ None) → (o : Option (Placed × Head)) → next l epoch disk h ≡ o →
        next l epoch disk (unwrap_or (option_map (λ found. on found.0 (walk most l epoch disk found.1)) o) (record { records = []; head = h })).head ≡ None
    by_next rest None is = is
    by_next rest (Some found) is =
        let one = found_goes_on l epoch disk h found.0 found.1 is_in (next_found l epoch disk h found is) in
        rest found.1 one.is_in (omega (arith, one.from, one.to))

pub walk_of_goes : (most : ℕ) (l : Shape) (epoch : ℕ) (disk : Reader) (h : Head) (rs : List Placed) (end : Head) → IsIn l h → 3 * l.third ≤ most + h.at → Goes l epoch disk h rs end → next l epoch disk end ≡ None
    → walk most l epoch disk h ≡ record { records = rs; head = end }
walk_of_goes zero l epoch disk h [] end is_in enough goes none = λ i. record { records = []; head = sym goes i }
walk_of_goes zero l epoch disk h (r ∷ rs) end is_in enough goes none =
    let one = found_goes_on l epoch disk h r goes.0 is_in goes.1 in
    absurd (omega (arith, one.from, one.to, one.is_in.before, end_most l goes.0.end one.is_in.ends))
walk_of_goes (suc most) l epoch disk h [] end is_in enough goes none =
    let here : next l epoch disk h ≡ None = ap (next l epoch disk) (sym goes) ∙ none in
    (λ i. unwrap_or (option_map (λ found. on found.0 (walk most l epoch disk found.1)) (here i)) (record { records = []; head = h }))
    ∙ λ i. record { records = []; head = sym goes i }
walk_of_goes (suc most) l epoch disk h (r ∷ rs) end is_in enough goes none =
    let one = found_goes_on l epoch disk h r goes.0 is_in goes.1 in
    let rest = walk_of_goes most l epoch disk goes.0 rs end one.is_in (omega (arith, one.from, one.to)) goes.2 none in
    (λ i. unwrap_or (option_map (λ found. on found.0 (walk most l epoch disk found.1)) (found_next l epoch disk h r goes.0 goes.1 i)) (record { records = []; head = h }))
    ∙ ap (on r) rest

-- ---- on another disk

-- each place as it was, or with nothing of the records before a number
pub record TapeLess (epoch number : ℕ) (old new : Reader) : Type 0 where
  pub each : (w m : ℕ) → m < number → (new w ≡ old w) ⊎ Foreign (stamp_of epoch m) (new w)

window_less : (stamp : Stamp) (old new : Reader) (at room : ℕ) → ((w : ℕ) → (new w ≡ old w) ⊎ Foreign stamp (new w)) → ReadsLess stamp (window old at room) (window new at room)
window_less stamp old new at room less = record { each = λ k. by_room k (nat_lt k room) }
  where
    by_room : (k : ℕ) (b : Bool) → (cond b (new (at + k)) None ≡ cond b (old (at + k)) None) ⊎ Foreign stamp (cond b (new (at + k)) None)
    by_room k true = less (at + k)
    by_room k false = inl refl

window_same : (old new : Reader) (at room n : ℕ) → ((w : ℕ) → at ≤ w → w < at + n → new w ≡ old w) → (k : ℕ) → k < n → window new at room k ≡ window old at room k
window_same old new at room n same k lt = ap (λ (o : Option (List ℕ)). if nat_lt k room then o else None) (same (at + k) (omega arith) (omega arith))

module _ (l : Shape) (epoch : ℕ) (fits : epoch < 2 ^ 32) (old new : Reader) where
  pub found_keeps : (number : ℕ) (h : Head) (r : Placed) (h1 : Head) → TapeLess epoch number old new → h.number < number → h.number < 2 ^ 32 → ((w : ℕ) → r.at ≤ w → w < r.at + record_len (gap_of l) (length r.entry.pages) → new w ≡ old w)
      → IsFound l epoch old h r h1 → IsFound l epoch new h r h1
  found_keeps number h r h1 less before small same is =
      let stamp : Stamp = stamp_of epoch h.number in
      let ok : FitsStamp (stamp_of epoch h.number) = record { epoch = fits; number = small } in
      let looks = here_some l epoch old h.number r.at is.end r.entry is.found in
      let at_window : (at room : ℕ) → ReadsLess (stamp_of epoch h.number) (window old at room) (window new at room) = λ at room. window_less (stamp_of epoch h.number) old new at room (λ w. less.each w h.number before) in
      record {
        end = is.end;
        place = ⊎_elim (λ here. inl here) (λ there. inr (record {
          none = here_none l epoch new h.number h.at h.end (record_less (gap_of l) l.pages (stamp_of epoch h.number) ok (room_at h.at h.end) (window old h.at (room_at h.at h.end)) (window new h.at (room_at h.at h.end)) (at_window h.at (room_at h.at h.end)) (sym (here_looks l epoch old h.number h.at h.end looks.0) ∙ there.none));
          enters = there.enters;
          at_start = there.at_start;
          in_third = there.in_third;
        })) is.place;
        found = here_looks l epoch new h.number r.at is.end looks.0 ∙ record_keeps (gap_of l) l.pages (stamp_of epoch h.number) ok (room_at r.at is.end) (window old r.at (room_at r.at is.end)) (window new r.at (room_at r.at is.end)) (at_window r.at (room_at r.at is.end)) r.entry looks.1
            (window_same old new r.at (room_at r.at is.end) (record_len (gap_of l) (length r.entry.pages)) same);
        goes_on = is.goes_on;
      }

  pub goes_keeps : (h : Head) (rs : List Placed) (end : Head) → IsIn l h → end.number ≤ 2 ^ 32 → TapeLess epoch end.number old new → ((w : ℕ) → w < end.at → new w ≡ old w) → Goes l epoch old h rs end → Goes l epoch new h rs end
  goes_keeps h [] end is_in small less same goes = goes
  goes_keeps h (r ∷ rs) end is_in small less same goes =
      let one = found_goes_on l epoch old h r goes.0 is_in goes.1 in
      let far = goes_far l epoch old goes.0 rs end one.is_in goes.2 in (
        goes.0,
        found_keeps end.number h r goes.0 less (omega (arith, one.number, far.number)) (omega (arith, one.number, far.number)) (λ w ge lt. same w (omega (arith, one.to, far.from))) goes.1,
        goes_keeps goes.0 rs end one.is_in small less same goes.2,
      )
