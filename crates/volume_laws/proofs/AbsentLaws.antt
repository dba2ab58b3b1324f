-- Where a call of a volume finds no version.
use Rattle.std.proofs.Common.{◌≡◌, ℕ, Bool, true, false, cond, Option, Some, None, Result, Ok, Err, subst}
use Rattle.std.specs.Prelude.{IfErr, IfNone, IfOk, IsErrAnd}
use Rattle.volume_layout.specs.Layout.{home_a}
use Rattle.fsd_bytes.specs.declared.refusal.Refusal.{Refusal}
use Rattle.fsd_bytes.specs.declared.refusal.Refusal.TheVariants as Why
use Rattle.fsd_formats.specs.declared.entry.Entry.{Entry}
use Rattle.name_btree.specs.declared.lookup.FoundEntry.{FoundEntry}
use Rattle.volume_contract.specs.Ends.{found_one}
use Rattle.volume_contract.specs.Order.{IsData, IsLookUp}
use Rattle.volume_laws.specs.Meeting.{met_found}
use Rattle.volume_laws.specs.Taken.{are_taken, down_fault, met_entry}
use Rattle.volume_laws.specs.Volume.{VolumeValue}
use Rattle.volume_laws.proofs.EntryLaws.{met_refused}

-- ---- no other refusal says so

pub not_down : (down : Option ℕ) (why : Refusal) → down_fault down ≡ Err why → why ≡ Why.NoSuch → ⊥
not_down None why is same = absurd (cc is)
not_down (Some s) why is same = absurd (cc (is, same))

pub not_look_up : (why : Refusal) → IsLookUp why → why ≡ Why.NoSuch → ⊥
not_look_up why is same = subst IsLookUp same is

pub not_data : {T : Type 0} {P : Type 0} (r : Result T Refusal) → IfErr r IsData → r ≡ Err Why.NoSuch → P
not_data (Ok x) is told = absurd (cc told)
not_data (Err why) is told = let same : why ≡ Why.NoSuch = cc told in absurd (subst IsData same is)

pub not_met : {P : Type 0} (v : VolumeValue) (f : FoundEntry) (r : Result Entry Refusal) → r ≡ met_entry v f.page f.entry → r ≡ Err Why.NoSuch → P
not_met v f r met told = absurd (let other = (met_refused v f.page f.entry Why.NoSuch r met told).0 in cc other)

-- one that is handed on
pub not_handed : {T : Type 0} {P : Type 0} (why : Refusal) (r : Result T Refusal) → IsErrAnd r (λ x. x ≡ why) → (why ≡ Why.NoSuch → P) → r ≡ Err Why.NoSuch → P
not_handed why (Ok x) is so told = absurd (cc told)
not_handed why (Err x) is so told = let same : x ≡ Why.NoSuch = cc told in so (subst (λ (y : Refusal). y ≡ Why.NoSuch) is same)

-- ---- where none is found

pub none_found : {P : Type 0} (found : Option FoundEntry) → found ≡ None → IfNone found P → P
none_found {P} found is absent = subst (λ (o : Option FoundEntry). IfNone o P) is absent

pub none_met : (P : Type 0) (v : VolumeValue) (found : Option FoundEntry) → IfNone found P → IfOk (met_found v found) (λ o. IfNone o P)
none_met P v None absent = absent
none_met P v (Some f) absent = by (are_taken v f.entry.runs)
  where
    by : (b : Bool) → IfOk (found_one (cond b (Ok f.entry) (Err (Why.Unsound (home_a v.layout f.page))))) (λ o. IfNone o P)
    by true = tt
    by false = tt
