-- Why a call of a volume tells something as lost or as unsound.
use Rattle.std.proofs.Common.{◌≡◌, ℕ, Bool, true, false, cond, List, Option, Some, None, Result, Ok, Err, refl, sym, ap, subst, ◌∙◌}
use Rattle.std.specs.Prelude.{IfErr, IfOk, IfSome, IsErrAnd}
use Rattle.volume_layout.specs.Layout.{home_a}
use Rattle.fsd_bytes.specs.declared.refusal.Refusal.{Refusal}
use Rattle.fsd_bytes.specs.declared.refusal.Refusal.TheVariants as Why
use Rattle.fsd_formats.specs.declared.entry.Entry.{Entry}
use Rattle.sector_disk.specs.declared.machine.Machine.{Ghosts as MachineGhosts}
use Rattle.sector_disk.specs.Damage.{AreLost}
use Rattle.sector_disk.specs.Machine.{Moment}
use Rattle.name_btree.specs.declared.lookup.FoundEntry.{FoundEntry}
use Rattle.page_cache.specs.Cache.{CacheValue}
use Rattle.volume_contract.specs.Causes.{AreSomeCopies, Causes, HasCallCause, ShowsBreak}
use Rattle.volume_contract.specs.Ends.{found_one}
use Rattle.volume_contract.specs.Order.{IsData}
use Rattle.volume_contract.specs.State.{State}
use Rattle.volume_laws.specs.Meeting.{ShowsEntry, met_found}
use Rattle.volume_laws.specs.State.{resident, state}
use Rattle.volume_laws.specs.Taken.{are_taken, met_entry}
use Rattle.volume_laws.specs.Volume.{IsWholeVolume, VolumeValue}
use Rattle.volume_laws.proofs.ReadLaws.{untaken_by}

-- ---- each refusal

module _ (old new : State) (resident : ℕ → Option (List ℕ)) (before now : Moment) where
  pub cause_of : (why : Refusal) → ((a b : ℕ) → why ≡ Why.Lost a b → AreLost (AreSomeCopies old new) now.image a b) → ((place : ℕ) → why ≡ Why.Unsound place → ShowsBreak old new resident before now place)
      → HasCallCause old new resident before now why
  cause_of (Why.Lost a b) lost unsound = lost a b refl
  cause_of (Why.Unsound s) lost unsound = unsound s refl
  cause_of other lost unsound = tt

  -- one of a version's data is neither
  pub data_cause : (why : Refusal) → IsData why → HasCallCause old new resident before now why
  data_cause (Why.Lost a b) is = absurd is
  data_cause (Why.Unsound s) is = absurd is
  data_cause other is = tt

-- ---- results

-- a result that says neither without its cause
pub causes_by : {D T : Type 0} (M : MachineGhosts D) (resident : ℕ → Option (List ℕ)) (old new : State) (m m' : D) (r : Result T Refusal)
    → ((a b : ℕ) → r ≡ Err (Why.Lost a b) → M.honest m' → AreLost (AreSomeCopies old new) (M.now m').image a b)
    → ((place : ℕ) → r ≡ Err (Why.Unsound place) → M.honest m' → ShowsBreak old new resident (M.now m) (M.now m') place) → Causes M resident old new m m' r
causes_by M resident old new m m' (Ok x) lost unsound = tt
causes_by M resident old new m m' (Err why) lost unsound = λ honest.
    cause_of old new resident (M.now m) (M.now m') why (λ a b is. lost a b (ap (λ (x : Refusal). Err x) is) honest) (λ place is. unsound place (ap (λ (x : Refusal). Err x) is) honest)

-- one that tells no more than a version's data
pub data_causes : {D T : Type 0} (M : MachineGhosts D) (resident : ℕ → Option (List ℕ)) (old new : State) (m m' : D) (r : Result T Refusal) → IfErr r IsData → Causes M resident old new m m' r
data_causes M resident old new m m' (Ok x) is = tt
data_causes M resident old new m m' (Err why) is = λ honest. data_cause old new resident (M.now m) (M.now m') why is

-- a fault that is handed on
pub handed_cause : {D T : Type 0} (M : MachineGhosts D) (resident : ℕ → Option (List ℕ)) (old new : State) (m m' : D) (why : Refusal) (r : Result T Refusal) → IsErrAnd r (λ x. x ≡ why)
    → (M.honest m' → HasCallCause old new resident (M.now m) (M.now m') why) → Causes M resident old new m m' r
handed_cause M resident old new m m' why (Ok x) is cause = tt
handed_cause M resident old new m m' why (Err x) is cause = subst (λ (y : Refusal). M.honest m' → HasCallCause old new resident (M.now m) (M.now m') y) (sym is) cause

-- an entry that is met
module _ {D : Type 0} (M : MachineGhosts D) (m m' : D) (v w : VolumeValue) (is : v ≡ w) (whole : IsWholeVolume v) (c : CacheValue) (new : State) where
  met_cause : (f : FoundEntry) → (M.honest m' → ShowsEntry (state w) new (resident w) (M.now m) (M.now m') f) → Causes M (resident w) (state w) new m m' (met_entry w f.page f.entry)
  met_cause f shows = by (are_taken w f.entry.runs) refl
    where
      by : (b : Bool) → are_taken w f.entry.runs ≡ b → Causes M (resident w) (state w) new m m' (cond b (Ok f.entry) (Err (Why.Unsound (home_a w.layout f.page))))
      by true taken = tt
      by false untaken = λ honest. untaken_by v w is whole (M.now m) (M.now m') new f (shows honest) untaken

  -- by the volume that a look-up leaves
  module _ (after : VolumeValue) (free : List Bool) (left : after ≡ record v { cache = c; free_pages = free }) where
    pub met_left : (r : Result (Option FoundEntry) Refusal) → (M.honest m' → IfOk r (λ found. IfSome found (ShowsEntry (state w) new (resident w) (M.now m) (M.now m'))))
        → IfOk r (λ found. IfSome found (λ f. Causes M (resident w) (state w) new m m' (met_entry after f.page f.entry)))
    met_left (Err why) shows = tt
    met_left (Ok None) shows = tt
    met_left (Ok (Some f)) shows =
        let here : met_entry after f.page f.entry ≡ met_entry w f.page f.entry = ap (λ (x : VolumeValue). met_entry x f.page f.entry) left ∙ ap (λ (x : VolumeValue). met_entry x f.page f.entry) is in
        subst (λ (x : Result Entry Refusal). Causes M (resident w) (state w) new m m' x) (sym here) (met_cause f shows)

-- what is met of what was found
pub met_one : {D : Type 0} (M : MachineGhosts D) (resident : ℕ → Option (List ℕ)) (old new : State) (m m' : D) (v : VolumeValue) (found : Option FoundEntry) → IfSome found (λ f. Causes M resident old new m m' (met_entry v f.page f.entry))
    → Causes M resident old new m m' (met_found v found)
met_one M resident old new m m' v None cause = tt
met_one M resident old new m m' v (Some f) cause = by (met_entry v f.page f.entry) cause
  where
    by : (r : Result Entry Refusal) → Causes M resident old new m m' r → Causes M resident old new m m' (found_one r)
    by (Ok e) cause = tt
    by (Err why) cause = cause

pub met_handed : {D : Type 0} (M : MachineGhosts D) (resident : ℕ → Option (List ℕ)) (old new : State) (m m' : D) (v : VolumeValue) (found : Option FoundEntry) (f : FoundEntry) → found ≡ Some f
    → IfSome found (λ x. Causes M resident old new m m' (met_entry v x.page x.entry)) → (r : Result Entry Refusal) → r ≡ met_entry v f.page f.entry → Causes M resident old new m m' r
met_handed M resident old new m m' v found f is cause r met =
    let here : Causes M resident old new m m' (met_entry v f.page f.entry) = subst (λ (o : Option FoundEntry). IfSome o (λ x. Causes M resident old new m m' (met_entry v x.page x.entry))) is cause in
    subst (λ (x : Result Entry Refusal). Causes M resident old new m m' x) (sym met) here
