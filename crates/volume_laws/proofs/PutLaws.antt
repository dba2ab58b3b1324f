-- The stages of a put or a load in a row: its tests, what comes before its look-up, and its entry.
use Rattle.std.proofs.Common.{◌≡◌, inl, inr, ℕ, Bool, true, false, cond, ◌&&◌, List, [], ◌++◌, length, nat_lt, Option, Some, None, Result, Ok, Err, refl, sym, ap, subst, ◌∙◌}
use Rattle.std.specs.Prelude.{is_none, not, ◌==◌, option_map}
use Rattle.std.proofs.lemmas.List.{append-nil}
use Rattle.fsd_bytes.specs.Keys.{max_u32}
use Rattle.fsd_bytes.specs.declared.key.Serial.{Serial}
use Rattle.fsd_bytes.specs.declared.refusal.Refusal.{Refusal}
use Rattle.fsd_bytes.specs.declared.refusal.Refusal.TheVariants as Why
use Rattle.fsd_formats.specs.declared.entry.Entry.{Entry}
use Rattle.fsd_formats.specs.NamePage.{max_keep, max_length, sectors_for}
use Rattle.run_table.specs.declared.run.Run.{Run}
use Rattle.run_table.specs.RunTable.{total}
use Rattle.sector_disk.specs.Machine.{Moment}
use Rattle.fsd_files.specs.Answers.{HasVersion, Met, Outcome, enter_fault, entered_unless, keep_given, least_pages, no_place, put_at, put_outcome, put_unless, refused, size_fault, with_version}
use Rattle.fsd_files.specs.Disk.{Image, Sectors}
use Rattle.fsd_files.specs.Files.{new_key}
use Rattle.fsd_files.specs.declared.reply.Reply.TheVariants.{Made, Refused}
use Rattle.fsd_files.specs.Volume.{Volume, drawn, forced, forced_for_place, forced_if, pages_free, place_for}
use Rattle.fsd_sound.specs.Mounted.{forces_by_itself}
use Rattle.volume_contract.specs.Ends.{AnswersAndStands, EndsRefused, IsAsBefore, Unchanged, made_key}
use Rattle.volume_contract.specs.Order.{Comes, Follows, KeepsRefused, CallStep, Through, is_idle}
use Rattle.volume_contract.specs.State.{Fits, Known, Stands, State, is_worn, place_in, volume_of}
use Rattle.volume_laws.specs.Entered.{making_look}
use Rattle.volume_laws.specs.Placing.{test_steps}
use Rattle.volume_laws.specs.Preparing.{StandsReady, prepare_steps}
use Rattle.volume_laws.specs.State.{IsMemoryOf, state}
use Rattle.volume_laws.specs.Steps.{Went}
use Rattle.volume_laws.specs.Volume.{VolumeValue}
use Rattle.volume_laws.proofs.NoPlaceLaws.{place_is}
use Rattle.volume_laws.proofs.StepLaws.{comes_behind, comes_more, idle_behind, idle_front, keeps_behind, keeps_more, through_more, went_pages, went_through}

-- a test refuses
pub tests_keep : (s : State) (keep : Option ℕ) (len : ℕ) (why : Refusal) → Comes (test_steps s keep len) why → KeepsRefused (test_steps s keep len) why s s
tests_keep s keep len why (inl down) = inl (down, refl)
tests_keep s keep len why (inr (up, inl size)) = inr (up, inl (size, refl))
tests_keep s keep len why (inr (up, inr (fits, inl worn))) = inr (up, inr (fits, inl (worn, refl)))
tests_keep s keep len why (inr (up, inr (fits, inr (able, none)))) = absurd none

-- what the look-up may show is a parameter: a put and a load differ there
module _ (asks : List CallStep) (s : State) (keep : Option ℕ) (len : ℕ) where
  abbrev need : ℕ
  need = sectors_for len

  abbrev behind_tests : List CallStep
  behind_tests = prepare_steps s need ++ making_look asks s

  abbrev steps : List CallStep
  steps = test_steps s keep len ++ behind_tests

  -- ---- a test refuses

  pub tested_order : (why : Refusal) → Comes (test_steps s keep len) why → Comes steps why
  tested_order why comes = comes_more (test_steps s keep len) behind_tests why comes

  pub tested_kept : (why : Refusal) → Comes (test_steps s keep len) why → KeepsRefused steps why s s
  tested_kept why comes = keeps_more (test_steps s keep len) behind_tests why s s (tests_keep s keep len why comes)

  module _ (tests : Through (test_steps s keep len)) where
    passed : Went (test_steps s keep len) s s
    passed = (tests.0, (tests.1.0, (tests.1.1.0, refl)))

    -- where there is nothing to do, what comes before the look-up has nothing to do
    pub prepare_idle : is_idle steps ≡ true → is_idle (prepare_steps s need) ≡ true
    prepare_idle idle = idle_front (prepare_steps s need) (making_look asks s) (idle_behind (test_steps s keep len) behind_tests tests idle)

    -- ---- it is refused before its look-up

    pub prepared_order : (why : Refusal) → Comes (prepare_steps s need) why → Comes steps why
    prepared_order why comes = comes_behind (test_steps s keep len) behind_tests why tests (comes_more (prepare_steps s need) (making_look asks s) why comes)

    pub prepared_kept : (t : State) (why : Refusal) → KeepsRefused (prepare_steps s need) why s t → KeepsRefused steps why s t
    prepared_kept t why keeps = keeps_behind (test_steps s keep len) behind_tests why s s t passed (keeps_more (prepare_steps s need) (making_look asks s) why s t keeps)

    -- ---- its look-up comes

    module _ (m : State) (went : Went (prepare_steps s need) s m) where
      same_last : making_look asks m ≡ making_look asks s
      same_last = ap (λ (pages : List ℕ). making_look asks (record s { free_pages = pages })) (went_pages (prepare_steps s need) s m went)

      pub put_order : {T : Type 0} (r : Result T Refusal) → Follows (making_look asks m) r → Follows steps r
      put_order (Ok x) follows =
          through_more (test_steps s keep len) behind_tests tests
          (through_more (prepare_steps s need) (making_look asks s) (went_through (prepare_steps s need) s m went) (subst (λ (steps : List CallStep). Through steps) same_last follows))
      put_order (Err why) follows =
          comes_behind (test_steps s keep len) behind_tests why tests
          (comes_behind (prepare_steps s need) (making_look asks s) why (went_through (prepare_steps s need) s m went) (subst (λ (steps : List CallStep). Comes steps why) same_last follows))

      pub put_kept : (t : State) (why : Refusal) → KeepsRefused (making_look asks m) why m t → KeepsRefused steps why s t
      put_kept t why keeps =
          keeps_behind (test_steps s keep len) behind_tests why s s t passed
          (keeps_behind (prepare_steps s need) (making_look asks s) why s m t went (subst (λ (steps : List CallStep). KeepsRefused steps why m t) same_last keeps))

-- ---- over an honest machine

place_serial : (need : ℕ) (w : Volume) → (forced_for_place need w).serial ≡ w.serial
place_serial need w = by (is_none (place_for w need) && not (length w.removed == 0))
  where
    by : (b : Bool) → (cond b (forced w) w).serial ≡ w.serial
    by true = refl
    by false = refl

-- the serial that the version has
pub drawn_serial : (v : VolumeValue) (k : Known) (need : ℕ) (serial : Serial) → Fits (state v) k.mounted → serial ≡ (state v).serial → (forced_for_place need (volume_of k)).serial ≡ serial
drawn_serial v k need serial fits drawn_is = place_serial need (volume_of k) ∙ fits.serial ∙ sym drawn_is

-- where the definitions refuse by the sizes
module _ (v : VolumeValue) (keep : Option ℕ) (len : ℕ) (k : Known) (outcome : Met → Outcome) (refuses : (met : Met) (why : Refusal) → size_fault (keep_given keep) len ≡ Some why → outcome met ≡ (Refused why, volume_of k)) where
  at_once : (new : VolumeValue) (now : Moment) (why : Refusal) → size_fault (keep_given keep) len ≡ Some why → Stands state IsMemoryOf new k now → AnswersAndStands state IsMemoryOf outcome (Refused why) [] k new now
  at_once new now why fault stands =
      let met : Met = record { forces = forces_by_itself k.mounted; reached = 0; damaged = None; found = []; healed = 0 } in
      (k, record { met = met; forces = refl; is = refuses met why fault; opened = refl; windows = refl; changes = sym (append-nil k.changes) }, stands)

  size_refused : (new : VolumeValue) (now : Moment) (why : Refusal) → size_fault (keep_given keep) len ≡ Some why → Stands state IsMemoryOf new k now → EndsRefused state IsMemoryOf outcome k new now why
  size_refused new now why fault stands = by (nat_lt max_keep (keep_given keep)) (nat_lt max_length len) refl refl fault
    where
      by : (b c : Bool) → nat_lt max_keep (keep_given keep) ≡ b → nat_lt max_length len ≡ c
          → cond b (Some (Why.KeepTooLarge (keep_given keep))) (cond c (Some (Why.TooLong len)) None) ≡ Some why → EndsRefused state IsMemoryOf outcome k new now why
      by true c large long is =
          let same : Why.KeepTooLarge (keep_given keep) ≡ why = cc is in
          subst (λ (r : Refusal). EndsRefused state IsMemoryOf outcome k new now r) same (at_once new now (Why.KeepTooLarge (keep_given keep)) (fault ∙ ap (λ (r : Refusal). Some r) (sym same)) stands)
      by false true large long is =
          let same : Why.TooLong len ≡ why = cc is in
          subst (λ (r : Refusal). EndsRefused state IsMemoryOf outcome k new now r) same (at_once new now (Why.TooLong len) (fault ∙ ap (λ (r : Refusal). Some r) (sym same)) stands)
      by false false large long is = absurd (cc is)

  -- a test refuses
  pub ends_tested : (now : Moment) (why : Refusal) → Comes (test_steps (state v) keep len) why → Stands state IsMemoryOf v k now → EndsRefused state IsMemoryOf outcome k v now why
  ends_tested now why comes stands = by comes
    where
      worn_out : (b : Bool) → cond b (Some Why.WornOut) None ≡ Some why → EndsRefused state IsMemoryOf outcome k v now why
      worn_out true is = let same : Why.WornOut ≡ why = cc is in subst (λ (r : Refusal). EndsRefused state IsMemoryOf outcome k v now r) same stands
      worn_out false is = absurd (cc is)

      by : Comes (test_steps (state v) keep len) why → EndsRefused state IsMemoryOf outcome k v now why
      by (inl down) = absurd (let e : option_map Why.Down None ≡ Some why = ap (option_map Why.Down) (sym stands.fits.up) ∙ down in cc e)
      by (inr (up, inl size)) = size_refused v now why size stands
      by (inr (up, inr (fits, inl worn))) = worn_out (is_worn (state v)) worn
      by (inr (up, inr (fits, inr (able, none)))) = absurd none

-- what came before the look-up has changed no file
as_ready : (k : Known) (need : ℕ) (b : Bool) (w : Volume) → w ≡ forced_if b (drawn (forced_for_place need (volume_of k))) → IsAsBefore (volume_of k) w
as_ready k need b w is = subst (λ (x : Volume). IsAsBefore (volume_of k) x) (sym is) (by (is_none (place_for (volume_of k) need) && not (length (volume_of k).removed == 0)) b)
  where
    again : (c d : Bool) → IsAsBefore (volume_of k) (cond d (forced (drawn (cond c (forced (volume_of k)) (volume_of k)))) (drawn (cond c (forced (volume_of k)) (volume_of k))))
    again true true = inr (inr refl)
    again true false = inr (inr refl)
    again false true = inr (inr refl)
    again false false = inl (inr refl)

    by : (c d : Bool) → IsAsBefore (volume_of k) (forced_if d (drawn (cond c (forced (volume_of k)) (volume_of k))))
    by c d = again c _

pub unchanged_ready : (k : Known) (need : ℕ) (new : VolumeValue) (now : Moment) → (p : StandsReady need k new now) → Unchanged k p.after
unchanged_ready k need new now p = record { volume = as_ready k need (forces_by_itself k.mounted) (volume_of p.after) p.volume; opened = p.opened; windows = p.windows; changes = p.changes }

-- ---- the definitions of a put

-- a fault of a name's next version is one of these
pub enter_cases : (P : Refusal → Type 0) (v : Volume) (name : List ℕ) (why : Refusal) → P Why.VersionsUsedUp → P (Why.NameTableFull (pages_free v)) → enter_fault v name ≡ Some why → P why
enter_cases P v name why used full is = by (nat_lt max_u32 (new_key name v.files).version) (nat_lt (pages_free v) least_pages) is
  where
    by : (b c : Bool) → cond b (Some Why.VersionsUsedUp) (cond c (Some (Why.NameTableFull (pages_free v))) None) ≡ Some why → P why
    by true c e = let same : Why.VersionsUsedUp ≡ why = cc e in subst P same used
    by false true e = let same : Why.NameTableFull (pages_free v) ≡ why = cc e in subst P same full
    by false false e = absurd (cc e)

module _ (name bytes : List ℕ) (keep : Option ℕ) (k : Known) where
  abbrev outcome : Met → Outcome
  outcome met = put_outcome met (volume_of k) name bytes keep

  pub put_sizes : (met : Met) (why : Refusal) → size_fault (keep_given keep) (length bytes) ≡ Some why → outcome met ≡ (Refused why, volume_of k)
  put_sizes met why fault = ap (λ (o : Option Refusal). put_unless o met (volume_of k) name bytes keep) fault

  -- without a place
  pub put_placeless : size_fault (keep_given keep) (length bytes) ≡ None → (met : Met) (why : Refusal) → let need = sectors_for (length bytes) in let at = forced_for_place need (volume_of k) in
      place_for at need ≡ None → no_place at need ≡ why → outcome met ≡ refused at why
  put_placeless sizes met why none is =
      let need = sectors_for (length bytes) in
      let at = forced_for_place need (volume_of k) in
      ap (λ (o : Option Refusal). put_unless o met (volume_of k) name bytes keep) sizes
      ∙ ap (λ (o : Option (List Run)). put_at met at name bytes keep need o) none
      ∙ ap (λ (r : Refusal). refused at r) is

  -- the definitions come to the same look-up
  module _ (v : VolumeValue) (runs : List Run) (sizes : size_fault (keep_given keep) (length bytes) ≡ None) (fits : Fits (state v) k.mounted) (place : place_in (state v) (sectors_for (length bytes)) ≡ Some runs) (met : Met) (forces : met.forces ≡ forces_by_itself k.mounted) (after : Known)
      (ready : volume_of after ≡ forced_if (forces_by_itself k.mounted) (drawn (forced_for_place (sectors_for (length bytes)) (volume_of k)))) where
    outcome_is : outcome met ≡ entered_unless (enter_fault (volume_of after) name) (volume_of after) name bytes keep runs (forced_for_place (sectors_for (length bytes)) (volume_of k)).serial met.reached
    outcome_is =
        let n = sectors_for (length bytes) in
        let at = forced_for_place n (volume_of k) in
        let there : forced_if met.forces (drawn at) ≡ volume_of after = ap (λ (b : Bool). forced_if b (drawn at)) forces ∙ sym ready in
        ap (λ (o : Option Refusal). put_unless o met (volume_of k) name bytes keep) sizes
        ∙ ap (λ (o : Option (List Run)). put_at met at name bytes keep n o) (place_is (state v) k.mounted n fits ∙ place)
        ∙ ap (λ (w : Volume). entered_unless (enter_fault w name) w name bytes keep runs at.serial met.reached) there

    -- the look-up says why none is made
    pub put_barred : (why : Refusal) → enter_fault (volume_of after) name ≡ Some why → outcome met ≡ (Refused why, volume_of after)
    put_barred why fault =
        outcome_is ∙ ap (λ (o : Option Refusal). entered_unless o (volume_of after) name bytes keep runs (forced_for_place (sectors_for (length bytes)) (volume_of k)).serial met.reached) fault

    -- the version is made
    pub put_makes : (serial : Serial) → serial ≡ (state v).serial → enter_fault (volume_of after) name ≡ None → total runs ≡ sectors_for (length bytes)
        → outcome met ≡ (made_key (length bytes) (new_key name (volume_of after).files), with_version (volume_of after) name bytes keep runs serial met.reached)
    put_makes serial drawn_is none count =
        let at = forced_for_place (sectors_for (length bytes)) (volume_of k) in
        outcome_is
        ∙ ap (λ (o : Option Refusal). entered_unless o (volume_of after) name bytes keep runs at.serial met.reached) none
        ∙ (λ i. (
          Made (new_key name (volume_of after).files) (count i),
          with_version (volume_of after) name bytes keep runs (drawn_serial v k (sectors_for (length bytes)) serial fits drawn_is i) met.reached,
        ))

-- a version's bytes and leader stand as those of an entry with the same serial, length and runs
pub version_as : (weak : Sectors) (i : Image) (bytes : List ℕ) (draft e : Entry) → e.serial ≡ draft.serial → e.length ≡ draft.length → e.runs ≡ draft.runs → HasVersion weak i bytes draft → HasVersion weak i bytes e
version_as weak i bytes draft e serial long runs version =
    let P : Serial → ℕ → List Run → Type 0 = λ s n rs. HasVersion weak i bytes (record draft { serial = s; length = n; runs = rs }) in
    let there : P e.serial e.length e.runs =
    subst (λ (rs : List Run). P e.serial e.length rs) (sym runs)
    (subst (λ (n : ℕ). P e.serial n draft.runs) (sym long) (subst (λ (s : Serial). P s draft.length draft.runs) (sym serial) (record { leader = version.leader; data_there = version.data_there }))) in
    record { leader = there.leader; data_there = there.data_there }
