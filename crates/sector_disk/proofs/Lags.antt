-- What a stop leaves, from what the moments have.
use Rattle.std.proofs.Common.{◌≡◌, ◌⊎◌, ◌≤◌, ◌<◌, inl, inr, ⊎_elim, ℕ, arith, sym, ap, subst}
use Rattle.std.proofs.lemmas.Bool.{cases_lt}
use Rattle.sector_disk.specs.declared.machine.Machine.{Ghosts}
use Rattle.sector_disk.specs.Machine.{Moment, IsSynced, LeavesOnly}
use Rattle.sector_disk.specs.Calls.{IsHeld, IsTimed, Since, StopsOnly, stops}

-- what a stop leaves: the image of one moment, and all else of another
abbrev pub shows_of : (shown last : Moment) → Moment
shows_of shown last = record last { image = shown.image }

module _ {D : Type 0} (M : Ghosts D) where
  -- where all that was written is on the disk, what is there now is all that matters
  pub held_synced : (m : D) (P : Moment → Type 0) → IsTimed M m → IsSynced (M.now m) → P (M.now m) → IsHeld M m P
  held_synced m P timed synced now c left =
      subst P (sym (timed.only c (subst (λ (t : ℕ). M.left_since m t c) (let at : (M.now m).synced ≡ M.moment m = omega (arith, synced, timed.dated) in at) left))) now

  pub held_more : (m : D) (P Q : Moment → Type 0) → ((c : Moment) → P c → Q c) → IsHeld M m P → IsHeld M m Q
  held_more m P Q weaker held c left = weaker c (held c left)

  -- one run more, of which each moment has P, over what has R since the last sync
  module _ (a b : D) (P R : Moment → Type 0) (at_a : IsTimed M a) (at_b : IsTimed M b) (since : Since M a b) (run : LeavesOnly M.moment M.left_since a b P) (held : IsHeld M a R) where
    -- what was there at its beginning is one of its moments
    there : M.left_since b (M.moment a) (M.now a)
    there = since (M.moment a) (M.now a) (omega arith) at_a.here

    synced_a : (M.now a).synced ≤ M.moment a
    synced_a = omega (arith, at_a.history.synced (M.moment a) (M.now a) at_a.here, at_a.dated)

    at_start : (last : Moment) → M.left_since b (M.moment a) last → last.time ≤ M.moment a → last ≡ M.now a
    at_start last passed early = elim (run.before (M.moment a) last (omega arith) passed) [
      | inl old ↦ at_a.only last old
      | inr late ↦ absurd (omega (arith, early, late.1))
    ]

    -- a moment since the last sync of one of these
    pub shown_in : (last : Moment) → M.left_since b (M.moment a) last → (c : Moment) → M.left_since b last.synced c → R c ⊎ P c
    shown_in last passed c left = elim (cases_lt (M.moment a) last.synced) [
      | inl lately ↦ inr (run.each c (at_b.history.sooner (M.moment a) last.synced c (omega (arith, lately)) left))
      | inr before ↦ elim (run.before last.synced c (omega (arith, before)) left) [
        | inl old ↦ inl (held c (at_a.history.sooner (M.now a).synced last.synced c later old))
        | inr now ↦ inr now.0
      ]
    ]
      where
        later : (M.now a).synced ≤ last.synced
        later = elim (cases_lt (M.moment a) last.time) [
          | inl after ↦ at_b.history.in_order (M.moment a) (M.now a) last there passed (omega (arith, after, at_a.dated))
          | inr same ↦ let is = ap (λ (c : Moment). c.synced) (at_start last passed (omega (arith, same))) in omega (arith, is)
        ]

    -- what the last sync leaves behind it
    pub held_by : (S : Moment → Type 0) → ((c : Moment) → R c → S c) → ((c : Moment) → P c → S c) → IsHeld M b S
    held_by S old new c left = ⊎_elim (old c) (new c) (shown_in (M.now b) (at_b.history.sooner (M.moment a) (M.moment b) (M.now b) run.later at_b.here) c left)

    -- what a stop leaves: a moment, or the image of an earlier one with all else of a later one; where a sync came since the
    -- beginning, the earlier one is of the run too
    module _ (Q : Moment → Type 0) (one : (c : Moment) → P c → Q c)
        (both : (last shown : Moment) → P last → M.left_since b last.synced shown → shown.time < last.time → (M.moment a ≤ last.synced → P shown) → R shown ⊎ P shown → Q (shows_of shown last)) where
      of_pair : (last shown : Moment) → M.left_since b (M.moment a) last → (shown ≡ last) ⊎ (M.left_since b last.synced shown × (shown.time < last.time)) → Q (shows_of shown last)
      of_pair last shown passed (inl same) = subst (λ (c : Moment). Q (shows_of c last)) (sym same) (one last (run.each last passed))
      of_pair last shown passed (inr left) =
          both last shown (run.each last passed) left.0 left.1 (λ lately. run.each shown (at_b.history.sooner (M.moment a) last.synced shown lately left.0)) (shown_in last passed shown left.0)

      of_stop : (left : Moment) → stops M b (M.moment a) left → Q left
      of_stop left stop = subst Q (sym stop.is) (of_pair stop.last stop.shown stop.passed stop.held)

      -- a stop of before
      old_pair : (t : ℕ) (last shown : Moment) → M.left_since a t last → (shown ≡ last) ⊎ (M.left_since b last.synced shown × (shown.time < last.time)) → (shown ≡ last) ⊎ (M.left_since a last.synced shown × (shown.time < last.time))
      old_pair t last shown old (inl same) = inl same
      old_pair t last shown old (inr left) =
          let early = at_a.history.within t last old in
          let synced = at_a.history.synced t last old in
          elim (run.before last.synced shown (omega (arith, early.1, synced, at_a.dated)) left.0) [
            | inl was ↦ inr (was, left.1)
            | inr late ↦ absurd (omega (arith, late.1, left.1, early.1, at_a.dated))
          ]

      pub stops_by : StopsOnly M a b Q
      stops_by = record {
        later = run.later;
        each = of_stop;
        before = λ t left le stop. elim (run.before t stop.last le stop.passed) [
          | inl old ↦ inl (record { last = stop.last; passed = old; shown = stop.shown; held = old_pair t stop.last stop.shown old stop.held; is = stop.is })
          | inr new ↦
              let time : left.time ≡ stop.last.time = ap (λ (c : Moment). c.time) stop.is in
              inr (of_stop left (record { last = stop.last; passed = at_b.history.later t (M.moment a) stop.last stop.passed new.1; shown = stop.shown; held = stop.held; is = stop.is }), omega (arith, time, new.1))
        ];
      }
