-- Why a put tells something as lost before it looks its name up.
use Rattle.std.proofs.Common.{◌≡◌, ◌⊎◌, inl, inr, ℕ, Bool, true, false, ◌&&◌, List, [], ◌∷◌, Option, Result, Ok, Err, refl, sym, ap, subst, ◌∙◌, nat_lt, cond, ◌<◌}
use Rattle.std.specs.Prelude.{not}
use Rattle.fsd_bytes.specs.declared.refusal.Refusal.{Refusal}
use Rattle.fsd_bytes.specs.declared.refusal.Refusal.TheVariants as Why
use Rattle.run_table.specs.declared.run.Run.{Run}
use Rattle.run_table.specs.RunTable.{total}
use Rattle.run_table.specs.Space.{best}
use Rattle.fsd_log.specs.declared.slot.Slot.{Slot}
use Rattle.volume_layout.specs.declared.layout.Layout.{Layout}
use Rattle.fsd_formats.specs.declared.entry.Entry.{Entry}
use Rattle.fsd_files.specs.Disk.{Sectors}
use Rattle.sector_disk.specs.declared.machine.Machine.{Ghosts}
use Rattle.sector_disk.specs.Machine.{Moment}
use Rattle.sector_disk.proofs.Damage.{lost_as}
use Rattle.volume_contract.specs.Causes.{AreSomeCopies, AreCopiesOfPage, AreToldOf, Causes, HasCallCause}
use Rattle.volume_contract.specs.Order.{Comes, IsDeviceIn, by_itself, no_place_in, with_drawn}
use Rattle.volume_contract.specs.State.{IsForced, State, forces_first, forces_for_place}
use Rattle.volume_laws.specs.Placing.{HasStored, place_now}
use Rattle.volume_laws.proofs.PlaceSteps.{place_none}
use Rattle.volume_laws.proofs.PrepareLaws.{first_behind}

-- a refusal for want of a place tells nothing of the kind
no_place_causes : {D : Type 0} (M : Ghosts D) (resident : ℕ → Option (List ℕ)) (old new : State) (before now : D) (runs : List Run) (need : ℕ) → Causes {T = List Run} M resident old new before now (Err (no_place_in old runs need))
no_place_causes M resident old new before now runs need = by (nat_lt (total runs) need)
  where
    by : (b : Bool) → Causes {T = List Run} M resident old new before now (Err (cond b (Why.NoSpace need (total runs)) (Why.TooFragmented need (best runs))))
    by true = λ honest. tt
    by false = λ honest. tt

pub place_causes : {D : Type 0} (M : Ghosts D) (resident : ℕ → Option (List ℕ)) (old new at : State) (before now : D) (need : ℕ) (r : Result (List Run) Refusal) → r ≡ place_now at need → Causes M resident old new before now r
place_causes M resident old new at before now need (Ok runs) is = tt
place_causes M resident old new at before now need (Err why) is =
    subst (λ (x : Refusal). Causes {T = List Run} M resident old new before now (Err x)) (place_none at need why (sym is)).1 (no_place_causes M resident old new before now at.free need)

-- nor does a write of the version
pub written_causes : (T : Type 0) {D : Type 0} (M : Ghosts D) (resident : ℕ → Option (List ℕ)) (old new : State) (before now : D) (may : Sectors) (why : Refusal) → IsDeviceIn may why → Causes {T = T} M resident old new before now (Err why)
written_causes T M resident old new before now may (Why.Device s) within = λ honest. tt
written_causes T M resident old new before now may why within = absurd within

-- ---- the force that comes by itself

pub copies_of : (s t : State) (page a b : ℕ) → t.slots ≡ s.slots → t.layout ≡ s.layout → AreCopiesOfPage t page a b → AreCopiesOfPage s page a b
copies_of s t page a b slots layout copies =
    subst (λ (l : Layout). AreCopiesOfPage (record s { layout = l }) page a b) layout
    (subst (λ (x : List (Option Slot)). AreCopiesOfPage (record s { slots = x; layout = t.layout }) page a b) slots copies)

pub told_of : (s t : State) (page a b : ℕ) → t.slots ≡ s.slots → t.layout ≡ s.layout → AreToldOf t page a b → AreToldOf s page a b
told_of s t page a b slots layout told =
    subst (λ (l : Layout). AreToldOf (record s { layout = l }) page a b) layout
    (subst (λ (x : List (Option Slot)). AreToldOf (record s { slots = x; layout = t.layout }) page a b) slots told)

-- it comes only where none came for the place: nothing but the serial has changed
pub none_before : (s m : State) (need : ℕ) (e : Entry) → HasStored need s m e → forces_first m ≡ true → (forces_for_place s need ≡ false) × (m ≡ with_drawn s)
none_before s m need e has many = by (forces_for_place s need) refl has.place.went
  where
    never : (x b : Bool) → b ≡ true → (x && not b) ≡ true → ⊥
    never true true e is = cc is
    never false b e is = cc is
    never true false e is = cc e

    by : (c : Bool) → forces_for_place s need ≡ c → ((c ≡ false) × (has.middle ≡ s)) ⊎ ((c ≡ true) × IsForced s has.middle) → (forces_for_place s need ≡ false) × (m ≡ with_drawn s)
    by false is (inl way) = (is, has.is ∙ ap with_drawn way.1)
    by true is (inr way) =
        let behind : forces_first m ≡ (forces_first s && not (forces_for_place s need)) = ap (λ (x : State). forces_first x) has.is ∙ first_behind s has.middle need e.runs has.place in
        absurd (never (forces_first s) (forces_for_place s need) is (sym behind ∙ many))
    by true is (inl way) = absurd (cc way.0)
    by false is (inr way) = absurd (cc way.0)

module _ (s m t : State) (need : ℕ) (e : Entry) (has : HasStored need s m e) where
  copies_before : forces_first m ≡ true → (a b : ℕ) → AreSomeCopies m t a b → AreSomeCopies s t a b
  copies_before many a b copies =
      let same : m ≡ with_drawn s = (none_before s m need e has many).1 in
      record {
        page = copies.page;
        within = subst (λ (l : Layout). copies.page < l.pages) (ap (λ (x : State). x.layout) same) copies.within;
        copies = elim copies.copies [
          | inl old ↦ inl (copies_of s m copies.page a b (ap (λ (x : State). x.slots) same) (ap (λ (x : State). x.layout) same) old)
          | inr now ↦ inr now
        ];
      }

  pub force_cause : (resident before_resident : ℕ → Option (List ℕ)) (before mid now : Moment) (why : Refusal) → Comes (by_itself m ∷ []) why → HasCallCause m t resident mid now why → HasCallCause s t before_resident before now why
  force_cause resident before_resident before mid now (Why.Lost a b) (inl comes) lost = lost_as (AreSomeCopies m t) a b (AreSomeCopies s t) now.image (copies_before comes.0 a b) lost
  force_cause resident before_resident before mid now (Why.Lost a b) (inr none) lost = absurd none.1
  force_cause resident before_resident before mid now (Why.Unsound p) (inl comes) shows = absurd comes.1
  force_cause resident before_resident before mid now (Why.Unsound p) (inr none) shows = absurd none.1
  force_cause resident before_resident before mid now why comes cause = tt
