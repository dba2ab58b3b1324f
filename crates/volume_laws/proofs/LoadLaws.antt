-- What the definitions make of a load, and how one ends behind its tests and what comes before its look-up.
use Rattle.std.proofs.Common.{◌≡◌, Bool, true, false, cond, List, [], length, nat_lt, ℕ, Option, Some, None, Result, Ok, Err, refl, sym, ap, subst, ◌∙◌}
use Rattle.std.specs.Prelude.{is_some}
use Rattle.fsd_bytes.specs.declared.key.Key.{Key}
use Rattle.fsd_bytes.specs.declared.key.Serial.{Serial}
use Rattle.fsd_bytes.specs.declared.refusal.Refusal.{Refusal}
use Rattle.fsd_bytes.specs.declared.refusal.Refusal.TheVariants as Why
use Rattle.fsd_formats.specs.declared.entry.Entry.{Entry}
use Rattle.fsd_formats.specs.NamePage.{sectors_for}
use Rattle.run_table.specs.declared.run.Run.{Run}
use Rattle.sector_disk.specs.Machine.{Moment}
use Rattle.fsd_files.specs.Answers.{Met, Outcome, entry_of, least_pages, load_at, load_fault, load_outcome, load_unless, loaded_entry, loaded_unless, no_place, refused, size_fault, with_loaded}
use Rattle.fsd_files.specs.Files.{Change}
use Rattle.fsd_files.specs.declared.reply.Reply.TheVariants.{Loaded, Refused}
use Rattle.fsd_files.specs.Volume.{Volume, drawn, forced_for_place, forced_if, pages_free, place_for}
use Rattle.fsd_sound.specs.Mounted.{forces_by_itself}
use Rattle.volume_contract.specs.Ends.{AnswersAndStands, EndsLoad, EndsRefused}
use Rattle.volume_contract.specs.State.{Fits, Known, Stands, place_in, volume_of}
use Rattle.volume_laws.specs.Entered.{EndsLoaded, StandsLoaded}
use Rattle.volume_laws.specs.Preparing.{HasPrepared, StandsReady}
use Rattle.volume_laws.specs.State.{IsMemoryOf, state}
use Rattle.volume_laws.specs.Volume.{VolumeValue}
use Rattle.volume_laws.proofs.NoPlaceLaws.{place_is}
use Rattle.volume_laws.proofs.PutEnds.{ends_barred, ends_unmade, makes_version, met_with}
use Rattle.volume_laws.proofs.PutLaws.{drawn_serial}

-- ---- why a version can't have a key

abbrev full_or : Volume → Option Refusal
full_or v = cond (nat_lt (pages_free v) least_pages) (Some (Why.NameTableFull (pages_free v))) None

abbrev fault_by : Volume → Option Entry → Option Refusal
fault_by v o = cond (is_some o) (Some Why.Exists) (full_or v)

pub load_there : (v : Volume) (key : Key) (e : Entry) → entry_of key v.entries ≡ Some e → load_fault v key ≡ Some Why.Exists
load_there v key e there = ap (fault_by v) there

pub load_full : (v : Volume) (key : Key) (n : ℕ) → entry_of key v.entries ≡ None → pages_free v ≡ n → nat_lt n least_pages ≡ true → load_fault v key ≡ Some (Why.NameTableFull n)
load_full v key n none free few =
    ap (fault_by v) none ∙ ap (λ (k : ℕ). cond (nat_lt k least_pages) (Some (Why.NameTableFull k)) None) free ∙ ap (λ (b : Bool). cond b (Some (Why.NameTableFull n)) None) few

pub load_free : (v : Volume) (key : Key) → entry_of key v.entries ≡ None → nat_lt (pages_free v) least_pages ≡ false → load_fault v key ≡ None
load_free v key none many = ap (fault_by v) none ∙ ap (λ (b : Bool). cond b (Some (Why.NameTableFull (pages_free v))) None) many

-- it is one of these
load_cases : (P : Refusal → Type 0) (v : Volume) (key : Key) (why : Refusal) → P Why.Exists → P (Why.NameTableFull (pages_free v)) → load_fault v key ≡ Some why → P why
load_cases P v key why there full is = by (is_some (entry_of key v.entries)) (nat_lt (pages_free v) least_pages) is
  where
    by : (b c : Bool) → cond b (Some Why.Exists) (cond c (Some (Why.NameTableFull (pages_free v))) None) ≡ Some why → P why
    by true c e = let same : Why.Exists ≡ why = cc e in subst P same there
    by false true e = let same : Why.NameTableFull (pages_free v) ≡ why = cc e in subst P same full
    by false false e = absurd (cc e)

-- ---- by the definitions

module _ (key : Key) (keep : ℕ) (bytes : List ℕ) (k : Known) where
  abbrev outcome : Met → Outcome
  outcome met = load_outcome met (volume_of k) key keep bytes

  pub load_sizes : (met : Met) (why : Refusal) → size_fault keep (length bytes) ≡ Some why → outcome met ≡ (Refused why, volume_of k)
  load_sizes met why fault = ap (λ (o : Option Refusal). load_unless o met (volume_of k) key keep bytes) fault

  -- without a place
  pub load_placeless : size_fault keep (length bytes) ≡ None → (met : Met) (why : Refusal) → let need = sectors_for (length bytes) in let at = forced_for_place need (volume_of k) in
      place_for at need ≡ None → no_place at need ≡ why → outcome met ≡ refused at why
  load_placeless sizes met why none is =
      let need = sectors_for (length bytes) in
      let at = forced_for_place need (volume_of k) in
      ap (λ (o : Option Refusal). load_unless o met (volume_of k) key keep bytes) sizes
      ∙ ap (λ (o : Option (List Run)). load_at met at key keep bytes need o) none
      ∙ ap (λ (r : Refusal). refused at r) is

  -- the definitions come to the same look-up
  module _ (v : VolumeValue) (runs : List Run) (sizes : size_fault keep (length bytes) ≡ None) (fits : Fits (state v) k.mounted) (place : place_in (state v) (sectors_for (length bytes)) ≡ Some runs) (met : Met) (forces : met.forces ≡ forces_by_itself k.mounted) (after : Known)
      (ready : volume_of after ≡ forced_if (forces_by_itself k.mounted) (drawn (forced_for_place (sectors_for (length bytes)) (volume_of k)))) where
    outcome_is : outcome met ≡ loaded_unless (load_fault (volume_of after) key) (volume_of after) key keep bytes runs (forced_for_place (sectors_for (length bytes)) (volume_of k)).serial met.reached
    outcome_is =
        let n = sectors_for (length bytes) in
        let at = forced_for_place n (volume_of k) in
        let there : forced_if met.forces (drawn at) ≡ volume_of after = ap (λ (b : Bool). forced_if b (drawn at)) forces ∙ sym ready in
        ap (λ (o : Option Refusal). load_unless o met (volume_of k) key keep bytes) sizes
        ∙ ap (λ (o : Option (List Run)). load_at met at key keep bytes n o) (place_is (state v) k.mounted n fits ∙ place)
        ∙ ap (λ (w : Volume). loaded_unless (load_fault w key) w key keep bytes runs at.serial met.reached) there

    -- the look-up says why none is loaded
    load_barred : (why : Refusal) → load_fault (volume_of after) key ≡ Some why → outcome met ≡ (Refused why, volume_of after)
    load_barred why fault =
        outcome_is ∙ ap (λ (o : Option Refusal). loaded_unless o (volume_of after) key keep bytes runs (forced_for_place (sectors_for (length bytes)) (volume_of k)).serial met.reached) fault

    -- the version is loaded
    load_makes : (serial : Serial) → serial ≡ (state v).serial → load_fault (volume_of after) key ≡ None → outcome met ≡ (Loaded key, with_loaded (volume_of after) key keep bytes runs serial met.reached)
    load_makes serial drawn_is none =
        let n = sectors_for (length bytes) in
        outcome_is
        ∙ ap (λ (o : Option Refusal). loaded_unless o (volume_of after) key keep bytes runs (forced_for_place n (volume_of k)).serial met.reached) none
        ∙ ap (λ (x : Serial). (Loaded key, with_loaded (volume_of after) key keep bytes runs x met.reached)) (drawn_serial v k n serial fits drawn_is)

-- ---- how it ends

module _ (v mid : VolumeValue) (key : Key) (keep : ℕ) (bytes : List ℕ) (k : Known) (at : Moment) (e : Entry) (sizes : size_fault keep (length bytes) ≡ None) (fits : Fits (state v) k.mounted)
    (has : HasPrepared (sectors_for (length bytes)) (state v) (state mid) e) (p : StandsReady (sectors_for (length bytes)) k mid at) (new : VolumeValue) (now : Moment) where
  abbrev outcome_by : Met → Outcome
  outcome_by met = load_outcome met (volume_of k) key keep bytes

  abbrev need : ℕ
  need = sectors_for (length bytes)

  unloaded : (why : Refusal) → load_fault (volume_of p.after) key ≡ Some why → Stands state IsMemoryOf new p.after now → EndsRefused state IsMemoryOf outcome_by k new now why
  unloaded why fault stands =
      load_cases (λ (r : Refusal). AnswersAndStands state IsMemoryOf outcome_by (Refused r) [] k new now → EndsRefused state IsMemoryOf outcome_by k new now r) (volume_of p.after) key why (λ ends. ends) (λ ends. ends) fault
      (ends_barred outcome_by k need mid at p new now why (load_barred key keep bytes k v e.runs sizes fits has.place (met_with k 0) refl p.after p.volume why fault) stands)

  pub load_ends : e.length ≡ length bytes → {T : Type 0} (r : Result T Refusal) → EndsLoaded key keep bytes e p.after new now r → EndsLoad state IsMemoryOf outcome_by bytes (Change.Load key keep bytes) key k new now r
  load_ends long (Ok x) ends =
      makes_version outcome_by k need mid at p new now (Change.Load key keep bytes) (λ r. with_loaded (volume_of p.after) key keep bytes e.runs e.serial r) (loaded_entry key keep bytes e.runs e.serial) e bytes (Loaded key) refl (sym long) refl
      (λ reached. load_makes key keep bytes k v e.runs sizes fits has.place (met_with k reached) refl p.after p.volume e.serial has.serial ends.none) ends.made
  load_ends long {T} (Err why) ends = ends_unmade outcome_by k need mid at p new now (load_fault (volume_of p.after) key) unloaded (λ (x : T). StandsLoaded key keep bytes e p.after new now) why ends
