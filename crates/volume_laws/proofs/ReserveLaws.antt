-- How a creation is begun: its tests, its place, and what stands then.
use Rattle.std.proofs.Common.{◌≡◌, inl, inr, ℕ, Bool, true, false, cond, List, [], ◌∷◌, ◌++◌, nat_lt, Option, Some, None, Result, Ok, Err, refl, sym, ap, subst, ◌∙◌}
use Rattle.std.specs.Prelude.{option_map}
use Rattle.run_table.specs.declared.run.Run.{Run}
use Rattle.run_table.specs.RunTable.{total}
use Rattle.run_table.specs.Space.{best}
use Rattle.fsd_bytes.specs.declared.refusal.Refusal.{Refusal}
use Rattle.fsd_bytes.specs.declared.refusal.Refusal.TheVariants as Why
use Rattle.fsd_formats.specs.NamePage.{max_length, sectors_for}
use Rattle.sector_disk.specs.Machine.{Moment}
use Rattle.fsd_files.specs.Answers.{size_fault}
use Rattle.fsd_files.specs.Volume.{Volume, drawn, forced_for_place, place_for}
use Rattle.fsd_sound.specs.Mounted.{Mounted}
use Rattle.volume_contract.specs.declared.token.Draft.{Draft}
use Rattle.volume_contract.specs.Order.{Comes, Draw, Force, IsLoss, KeepsRefused, PassesTest, CallStep, Test, Through, is_idle, no_place_in, place, reserve_steps, runs_at, with_drawn}
use Rattle.volume_contract.specs.Pieces.{Begins, Declines, EndsReserve, Reserves, TakesPlace, draft_begun, with_draft, reserve_at, reserve_outcome, with_opened}
use Rattle.volume_contract.specs.State.{Fits, Known, Stands, State, forces_for_place, is_worn, place_in, volume_of}
use Rattle.volume_laws.specs.Placing.{EndsPlace, HasPlace, StandsFor, drawn_known, place_steps, test_steps}
use Rattle.volume_laws.specs.State.{IsMemoryOf, state}
use Rattle.volume_laws.specs.Steps.{Went}
use Rattle.volume_laws.specs.Volume.{VolumeValue}
use Rattle.volume_laws.proofs.NoPlaceLaws.{no_place_cases, no_place_is, place_is}
use Rattle.volume_laws.proofs.PieceLaws.{as_opened}
use Rattle.volume_laws.proofs.StepLaws.{comes_behind, comes_more, idle_behind, idle_front, keeps_behind, keeps_more, through_more}
use Rattle.volume_laws.proofs.StoreLaws.{same_serial}
use Rattle.volume_laws.proofs.PutLaws.{tests_keep}

-- ---- the steps

module _ (s : State) (len : ℕ) where
  abbrev need : ℕ
  need = sectors_for len

  abbrev tests : List CallStep
  tests = test_steps s None len

  abbrev placing : List CallStep
  placing = place_steps s need

  abbrev behind : List CallStep
  behind = placing ++ Draw ∷ []

  -- a test refuses
  pub begin_order : (why : Refusal) → Comes (test_steps s None len) why → Comes (reserve_steps s len) why
  begin_order why comes = comes_more tests behind why comes

  pub begin_kept : (why : Refusal) → Comes (test_steps s None len) why → KeepsRefused (reserve_steps s len) why s s
  begin_kept why comes = keeps_more tests behind why s s (tests_keep s None len why comes)

  module _ (passed : Through (test_steps s None len)) where
    went : Went tests s s
    went = (passed.0, (passed.1.0, (passed.1.1.0, refl)))

    -- where there is nothing to do, no place is looked for
    pub placing_idle : is_idle (reserve_steps s len) ≡ true → is_idle (place_steps s need) ≡ true
    placing_idle idle = idle_front placing (Draw ∷ []) (idle_behind tests behind passed idle)

    -- there is no place
    pub unplaced_order : (why : Refusal) → Comes (place_steps s need) why → Comes (reserve_steps s len) why
    unplaced_order why comes = comes_behind tests behind why passed (comes_more placing (Draw ∷ []) why comes)

    pub unplaced_kept : (t : State) (why : Refusal) → KeepsRefused (place_steps s need) why s t → KeepsRefused (reserve_steps s len) why s t
    unplaced_kept t why keeps = keeps_behind tests behind why s s t went (keeps_more placing (Draw ∷ []) why s t keeps)

    -- there is one
    pub placed_order : Through (place_steps s need) → Through (reserve_steps s len)
    placed_order through = through_more tests behind passed (through_more placing (Draw ∷ []) through (tt, tt))

    pub placed_busy : PassesTest (place s need) → is_idle (reserve_steps s len) ≡ true → ⊥
    placed_busy passes idle = by (forces_for_place s need) (subst (λ (o : Option Refusal). is_idle (Force (forces_for_place s need) ∷ Test o ∷ Draw ∷ []) ≡ true) passes (idle_behind tests behind passed idle))
      where
        by : (b : Bool) → is_idle (Force b ∷ Test None ∷ Draw ∷ []) ≡ true → ⊥
        by true e = absurd (cc e)
        by false e = absurd (cc e)

-- the creation lies in the place that was found
pub reserves : (need : ℕ) (s mid new : State) (runs : List Run) (d : Draft) → HasPlace need s mid runs → d.runs ≡ runs → d.serial ≡ mid.serial → TakesPlace runs (with_drawn mid) new → Reserves need s new d
reserves need s mid new runs d has lies serial takes = record {
  middle = mid;
  went = has.went;
  place = has.free ∙ ap (λ (rs : List Run). Some rs) (sym lies);
  serial = serial;
  takes = subst (λ (rs : List Run). TakesPlace rs (with_drawn mid) new) (sym lies) takes;
}

-- ---- over an honest machine

module _ (v : VolumeValue) (len : ℕ) (k : Known) where
  abbrev lies_in : Volume
  lies_in = forced_for_place (sectors_for len) (volume_of k)

  abbrev unless_long : Bool → Result (List Run) Refusal × Volume
  unless_long b = cond b (Err (Why.TooLong len), volume_of k) (reserve_at lies_in (sectors_for len) (place_for lies_in (sectors_for len)))

  -- a test refuses
  pub begin_ends : (now : Moment) (why : Refusal) → Comes (test_steps (state v) None len) why → Stands state IsMemoryOf v k now → EndsReserve state IsMemoryOf len k v now (Err why)
  begin_ends now why comes stands = by comes
    where
      worn_out : (b : Bool) → cond b (Some Why.WornOut) None ≡ Some why → EndsReserve state IsMemoryOf len k v now (Err why)
      worn_out true is = let same : Why.WornOut ≡ why = cc is in subst (λ (r : Refusal). EndsReserve state IsMemoryOf len k v now (Err r)) same stands
      worn_out false is = absurd (cc is)

      too_long : (b : Bool) → nat_lt max_length len ≡ b → cond b (Some (Why.TooLong len)) None ≡ Some why → EndsReserve state IsMemoryOf len k v now (Err why)
      too_long true long is =
          let same : Why.TooLong len ≡ why = cc is in
          subst (λ (r : Refusal). EndsReserve state IsMemoryOf len k v now (Err r)) same (record { after = k; is = ap unless_long long; opened = refl; windows = refl; changes = refl; stands = stands })
      too_long false long is = absurd (cc is)

      by : Comes (test_steps (state v) None len) why → EndsReserve state IsMemoryOf len k v now (Err why)
      by (inl down) = absurd (let e : option_map Why.Down None ≡ Some why = ap (option_map Why.Down) (sym stands.fits.up) ∙ down in cc e)
      by (inr (up, inl size)) = too_long (nat_lt max_length len) refl size
      by (inr (up, inr (fits, inl worn))) = worn_out (is_worn (state v)) worn
      by (inr (up, inr (fits, inr (able, none)))) = absurd none

  module _ (passes : size_fault 0 len ≡ None) (fits : Fits (state v) k.mounted) where
    small : nat_lt max_length len ≡ false
    small = by (nat_lt max_length len) passes
      where
        by : (b : Bool) → cond b (Some (Why.TooLong len)) None ≡ None → b ≡ false
        by true is = absurd (cc is)
        by false is = refl

    outcome_at : (o : Option (List Run)) → place_in (state v) (sectors_for len) ≡ o → reserve_outcome (volume_of k) len ≡ reserve_at lies_in (sectors_for len) o
    outcome_at o is = ap unless_long small ∙ ap (λ (x : Option (List Run)). reserve_at lies_in (sectors_for len) x) (place_is (state v) k.mounted (sectors_for len) fits ∙ is)

    -- there is no place
    declines : (new : VolumeValue) (now : Moment) (why : Refusal) → place_in (state v) (sectors_for len) ≡ None → no_place_in (state v) (runs_at (state v) (sectors_for len)) (sectors_for len) ≡ why → StandsFor (sectors_for len) k new now
        → Declines state IsMemoryOf len k new now why
    declines new now why none is p = record {
      after = p.after;
      is = outcome_at None none ∙ (λ i. (Err ((no_place_is (state v) k.mounted (sectors_for len) fits ∙ is) i), sym p.volume i));
      opened = p.opened;
      windows = p.windows;
      changes = p.changes;
      stands = p.stands;
    }

    without : (new : VolumeValue) (now : Moment) (why : Refusal) → place_in (state v) (sectors_for len) ≡ None → no_place_in (state v) (runs_at (state v) (sectors_for len)) (sectors_for len) ≡ why → EndsPlace (sectors_for len) k new now (Err why)
        → EndsReserve state IsMemoryOf len k new now (Err why)
    without new now why none is ends =
        subst (λ (r : Refusal). EndsReserve state IsMemoryOf len k new now (Err r)) is (by (nat_lt (total runs) need_here) refl (subst (λ (r : Refusal). EndsPlace need_here k new now (Err r)) (sym is) ends))
      where
        need_here : ℕ
        need_here = sectors_for len

        runs : List Run
        runs = runs_at (state v) need_here

        by : (b : Bool) → nat_lt (total runs) need_here ≡ b → EndsPlace need_here k new now (Err (cond b (Why.NoSpace need_here (total runs)) (Why.TooFragmented need_here (best runs))))
            → EndsReserve state IsMemoryOf len k new now (Err (cond b (Why.NoSpace need_here (total runs)) (Why.TooFragmented need_here (best runs))))
        by true e p = declines new now (Why.NoSpace need_here (total runs)) none (ap (λ (b : Bool). cond b (Why.NoSpace need_here (total runs)) (Why.TooFragmented need_here (best runs))) e) p
        by false e p = declines new now (Why.TooFragmented need_here (best runs)) none (ap (λ (b : Bool). cond b (Why.NoSpace need_here (total runs)) (Why.TooFragmented need_here (best runs))) e) p

    lost : (new : VolumeValue) (now : Moment) (why : Refusal) → IsLoss why → EndsPlace (sectors_for len) k new now (Err why) → EndsReserve state IsMemoryOf len k new now (Err why)
    lost new now (Why.Device s) loss down = down
    lost new now (Why.Lost a b) loss none = none
    lost new now why loss ends = absurd loss

    pub unplaced_ends : (new : VolumeValue) (now : Moment) (why : Refusal) → Comes (place_steps (state v) (sectors_for len)) why → EndsPlace (sectors_for len) k new now (Err why) → EndsReserve state IsMemoryOf len k new now (Err why)
    unplaced_ends new now why (inl (comes, loss)) ends = lost new now why loss ends
    unplaced_ends new now why (inr (first, inl test)) ends =
        let gone = no_place_cases (state v) (sectors_for len) why (place_in (state v) (sectors_for len)) test in
        without new now why gone.0 gone.1 ends
    unplaced_ends new now why (inr (first, inr (passed, none))) ends = absurd none

    -- it is begun
    pub begun_ends : (mid new : VolumeValue) (runs : List Run) (d : Draft) (now : Moment) → HasPlace (sectors_for len) (state v) (state mid) runs → (p : StandsFor (sectors_for len) k mid now) → d.runs ≡ runs → d.serial ≡ (state mid).serial
        → Stands state IsMemoryOf new (with_opened (drawn_known p.after) (draft_begun p.after.opened runs len)) now → Begins state IsMemoryOf len k new now d
    begun_ends mid new runs d now has p lies serial stands = record {
      after = with_opened (drawn_known p.after) (draft_begun p.after.opened runs len);
      is = outcome_at (Some runs) has.place ∙ (λ i. (Ok (sym lies i), then i));
      serial = serial ∙ same_serial (sectors_for len) (state v) (state mid) runs has ∙ sym fits.serial;
      opened = λ i. draft_begun (p.opened i) (sym lies i) len;
      windows = p.windows;
      changes = p.changes;
      stands = stands;
    }
      where
        then : with_draft lies_in runs ≡ volume_of (with_opened (drawn_known p.after) (draft_begun p.after.opened runs len))
        then =
            ap (λ (w : Volume). with_draft w runs) (sym p.volume)
            ∙ (λ i. record (drawn (volume_of p.after)) { drafts = runs ∷ p.stands.opened.drafts i; held = ap (λ (m : Mounted). m.volume.held) (as_opened mid p.after now p.stands) i })
