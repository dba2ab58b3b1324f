-- What a call that changes a version tells where a test refuses it.
use Rattle.std.proofs.Common.{◌≡◌, inl, inr, ℕ, Bool, true, false, cond, nat_lt, List, [], ◌∷◌, Option, Some, None, Err, refl, sym, ap, subst, ◌∙◌, if◌then◌else◌}
use Rattle.std.specs.Prelude.{option_map}
use Rattle.std.specs.FinMap.{find}
use Rattle.std.proofs.lemmas.List.{append-nil}
use Rattle.fsd_bytes.specs.declared.refusal.Refusal.{Refusal}
use Rattle.fsd_bytes.specs.declared.refusal.Refusal.TheVariants as Why
use Rattle.fsd_bytes.specs.Keys.{key_cmp}
use Rattle.fsd_bytes.specs.declared.key.Key.{Key}
use Rattle.fsd_formats.specs.NamePage.{max_keep, max_length}
use Rattle.sector_disk.specs.Machine.{Moment}
use Rattle.fsd_files.specs.Answers.{Met, Outcome, delete_outcome, deleted, entry_of, highest_entry, keep_given, keep_outcome, keep_set, move_outcome, moved, refused}
use Rattle.fsd_files.specs.Files.{Change}
use Rattle.fsd_files.specs.declared.reply.Reply.{Reply}
use Rattle.fsd_files.specs.Volume.{Volume, forced_if}
use Rattle.fsd_sound.specs.Mounted.{forces_by_itself}
use Rattle.volume_contract.specs.Causes.{HasCallCause}
use Rattle.volume_contract.specs.Ends.{Ends, device_of, kept_key}
use Rattle.volume_contract.specs.Order.{Comes}
use Rattle.volume_contract.specs.State.{Known, Stands, State, is_worn, volume_of}
use Rattle.volume_laws.specs.Ending.{delete_tests, keep_tests}
use Rattle.volume_laws.specs.Placing.{test_steps}
use Rattle.volume_laws.specs.State.{IsMemoryOf, state}
use Rattle.volume_laws.specs.Volume.{VolumeValue}

-- ---- which refusal it is

-- what the tests of such a call refuse, in turn
abbrev pub keep_refusals : State → ℕ → List (Option Refusal)
keep_refusals s keep = option_map Why.Down s.down ∷ (if nat_lt max_keep keep then Some (Why.KeepTooLarge keep) else None) ∷ (if is_worn s then Some Why.WornOut else None) ∷ []

abbrev pub delete_refusals : State → List (Option Refusal)
delete_refusals s = option_map Why.Down s.down ∷ (if is_worn s then Some Why.WornOut else None) ∷ []

from_down : (P : Refusal → Type 0) (d : Option ℕ) → ((place : ℕ) → d ≡ Some place → P (Why.Down place)) → (why : Refusal) → option_map Why.Down d ≡ Some why → P why
from_down P None down why is = absurd (cc is)
from_down P (Some place) down why is = let same : Why.Down place ≡ why = cc is in subst P same (down place refl)

from_test : (P : Refusal → Type 0) (b : Bool) (r : Refusal) → (b ≡ true → P r) → (why : Refusal) → cond b (Some r) None ≡ Some why → P why
from_test P true r of why is = let same : r ≡ why = cc is in subst P same (of refl)
from_test P false r of why is = absurd (cc is)

pub keep_tested : (P : Refusal → Type 0) (s : State) (keep : ℕ) → ((place : ℕ) → s.down ≡ Some place → P (Why.Down place)) → (nat_lt max_keep keep ≡ true → P (Why.KeepTooLarge keep)) → P Why.WornOut
    → (why : Refusal) → Comes (keep_tests s keep) why → P why
keep_tested P s keep down large worn why (inl is) = from_down P s.down down why is
keep_tested P s keep down large worn why (inr (up, inl is)) = from_test P (nat_lt max_keep keep) (Why.KeepTooLarge keep) large why is
keep_tested P s keep down large worn why (inr (up, inr (fits, inl is))) = from_test P (is_worn s) Why.WornOut (λ t. worn) why is
keep_tested P s keep down large worn why (inr (up, inr (fits, inr (fresh, none)))) = absurd none

pub delete_tested : (P : Refusal → Type 0) (s : State) → ((place : ℕ) → s.down ≡ Some place → P (Why.Down place)) → P Why.WornOut → (why : Refusal) → Comes (delete_tests s) why → P why
delete_tested P s down worn why (inl is) = from_down P s.down down why is
delete_tested P s down worn why (inr (up, inl is)) = from_test P (is_worn s) Why.WornOut (λ t. worn) why is
delete_tested P s down worn why (inr (up, inr (fresh, none))) = absurd none

pub put_tested : (P : Refusal → Type 0) (s : State) (keep : Option ℕ) (len : ℕ) → ((place : ℕ) → P (Why.Down place)) → P (Why.KeepTooLarge (keep_given keep)) → P (Why.TooLong len) → P Why.WornOut
    → (why : Refusal) → Comes (test_steps s keep len) why → P why
put_tested P s keep len down large long worn why (inl is) = from_down P s.down (λ place at. down place) why is
put_tested P s keep len down large long worn why (inr (up, inl is)) = by (nat_lt max_keep (keep_given keep)) is
  where
    by : (b : Bool) → cond b (Some (Why.KeepTooLarge (keep_given keep))) (if nat_lt max_length len then Some (Why.TooLong len) else None) ≡ Some why → P why
    by true same = let told : Why.KeepTooLarge (keep_given keep) ≡ why = cc same in subst P told large
    by false same = from_test P (nat_lt max_length len) (Why.TooLong len) (λ t. long) why same
put_tested P s keep len down large long worn why (inr (up, inr (fits, inl is))) = from_test P (is_worn s) Why.WornOut (λ t. worn) why is
put_tested P s keep len down large long worn why (inr (up, inr (fits, inr (fresh, none)))) = absurd none

-- ---- it calls nothing

pub keep_places : (s : State) (keep : ℕ) (why : Refusal) → Comes (keep_tests s keep) why → device_of why ≡ None
keep_places s keep why comes = keep_tested (λ (x : Refusal). device_of x ≡ None) s keep (λ place is. refl) (λ large. refl) refl why comes

pub delete_places : (s : State) (why : Refusal) → Comes (delete_tests s) why → device_of why ≡ None
delete_places s why comes = delete_tested (λ (x : Refusal). device_of x ≡ None) s (λ place is. refl) refl why comes

pub put_places : (s : State) (keep : Option ℕ) (len : ℕ) (why : Refusal) → Comes (test_steps s keep len) why → device_of why ≡ None
put_places s keep len why comes = put_tested (λ (x : Refusal). device_of x ≡ None) s keep len (λ place. refl) refl refl refl why comes

-- and tells nothing as lost or as unsound
pub put_test_cause : (s : State) (keep : Option ℕ) (len : ℕ) (resident : ℕ → Option (List ℕ)) (before now : Moment) (why : Refusal) → Comes (test_steps s keep len) why → HasCallCause s s resident before now why
put_test_cause s keep len resident before now why comes = put_tested (λ (x : Refusal). HasCallCause s s resident before now x) s keep len (λ place. tt) tt tt tt why comes

-- nor that a version is there
pub put_test_some : (s : State) (keep : Option ℕ) (len : ℕ) (why : Refusal) → Comes (test_steps s keep len) why → why ≡ Why.Exists → ⊥
put_test_some s keep len why comes = put_tested (λ (x : Refusal). x ≡ Why.Exists → ⊥) s keep len (λ place same. cc same) (λ same. cc same) (λ same. cc same) (λ same. cc same) why comes

-- nor that there is no such version
pub delete_test_some : (s : State) (why : Refusal) → Comes (delete_tests s) why → why ≡ Why.NoSuch → ⊥
delete_test_some s why comes = delete_tested (λ (x : Refusal). x ≡ Why.NoSuch → ⊥) s (λ place is same. cc same) (λ same. cc same) why comes

-- ---- where it stands

never_down : (v : VolumeValue) (k : Known) (now : Moment) → Stands state IsMemoryOf v k now → (place : ℕ) → (state v).down ≡ Some place → ⊥
never_down v k now stands place is = absurd (cc (is, stands.fits.up))

pub keep_test_ends : (v : VolumeValue) (k : Known) (now : Moment) (name : List ℕ) (keep : ℕ) (why : Refusal) → Stands state IsMemoryOf v k now → Comes (keep_tests (state v) keep) why
    → Ends state IsMemoryOf (λ met. keep_outcome met (volume_of k) name keep) (kept_key keep) (Change.SetKeep name keep) k v now (Err why)
keep_test_ends v k now name keep why stands comes =
    keep_tested (λ (x : Refusal). Ends state IsMemoryOf (λ met. keep_outcome met (volume_of k) name keep) (kept_key keep) (Change.SetKeep name keep) k v now (Err x)) (state v) keep
    (λ place is. absurd (never_down v k now stands place is))
    (λ large. (
      k,
      record {
        met = record { forces = forces_by_itself k.mounted; reached = 0; damaged = None; found = []; healed = 0 };
        forces = refl;
        is = ap (λ (b : Bool). cond b (refused (volume_of k) (Why.KeepTooLarge keep)) (keep_set (forced_if (forces_by_itself k.mounted) (volume_of k)) name keep 0 (highest_entry name (forced_if (forces_by_itself k.mounted) (volume_of k)).entries))) large;
        opened = refl;
        windows = refl;
        changes = sym (append-nil k.changes);
      },
      stands,
    )) stands why comes

pub delete_test_ends : {T : Type 0} (outcome : Met → Outcome) (says : T → Reply) (change : Change) (v : VolumeValue) (k : Known) (now : Moment) (why : Refusal) → Stands state IsMemoryOf v k now → Comes (delete_tests (state v)) why
    → Ends state IsMemoryOf outcome says change k v now (Err why)
delete_test_ends outcome says change v k now why stands comes =
    delete_tested (λ (x : Refusal). Ends state IsMemoryOf outcome says change k v now (Err x)) (state v) (λ place is. absurd (never_down v k now stands place is)) stands why comes

-- ---- the outcome behind a force

pub keep_through : (name : List ℕ) (keep : ℕ) (v : Volume) → nat_lt max_keep keep ≡ false → (met : Met) (b : Bool) (w : Volume) → met.forces ≡ false → w ≡ forced_if b v
    → keep_outcome met w name keep ≡ keep_outcome (record met { forces = b }) v name keep
keep_through name keep v small met b w none is =
    ap (λ (c : Bool). cond c (refused w (Why.KeepTooLarge keep)) (keep_set (forced_if met.forces w) name keep met.reached (highest_entry name (forced_if met.forces w).entries))) small
    ∙ ap (λ (f : Bool). keep_set (forced_if f w) name keep met.reached (highest_entry name (forced_if f w).entries)) none
    ∙ ap (λ (x : Volume). keep_set x name keep met.reached (highest_entry name x.entries)) is
    ∙ sym (ap (λ (c : Bool). cond c (refused v (Why.KeepTooLarge keep)) (keep_set (forced_if b v) name keep met.reached (highest_entry name (forced_if b v).entries))) small)

pub delete_through : (key : Key) (v : Volume) (met : Met) (b : Bool) (w : Volume) → met.forces ≡ false → w ≡ forced_if b v → delete_outcome met w key ≡ delete_outcome (record met { forces = b }) v key
delete_through key v met b w none is =
    ap (λ (f : Bool). deleted (forced_if f w) key met.reached (entry_of key (forced_if f w).entries)) none ∙ ap (λ (x : Volume). deleted x key met.reached (entry_of key x.entries)) is

pub move_through : (key : Key) (name : List ℕ) (v : Volume) (met : Met) (b : Bool) (w : Volume) → met.forces ≡ false → w ≡ forced_if b v → move_outcome met w key name ≡ move_outcome (record met { forces = b }) v key name
move_through key name v met b w none is =
    ap (λ (f : Bool). moved (forced_if f w) key name met.reached (find key_cmp key (forced_if f w).files) (entry_of key (forced_if f w).entries)) none
    ∙ ap (λ (x : Volume). moved x key name met.reached (find key_cmp key x.files) (entry_of key x.entries)) is

-- a keep that passed its test is small enough
pub keep_fits : (keep : ℕ) → cond (nat_lt max_keep keep) (Some (Why.KeepTooLarge keep)) None ≡ None → nat_lt max_keep keep ≡ false
keep_fits keep passes = by (nat_lt max_keep keep) passes
  where
    by : (b : Bool) → cond b (Some (Why.KeepTooLarge keep)) None ≡ None → b ≡ false
    by true is = absurd (cc is)
    by false is = refl
