-- A put or a load behind its tests and what comes before its look-up: its entry.
use Rattle.std.proofs.Common.{◌≡◌, inl, inr, ℕ, ◌+◌, ◌-◌, ◌^◌, ◌<◌, ◌≤◌, Bool, true, false, cond, ◌||◌, nat_le, nat_lt, List, [], ◌∷◌, ◌++◌, length, Option, Some, None, Result, Ok, Err, refl, sym, ap, subst, ◌∙◌, arith}
use Rattle.std.specs.Prelude.{⊤, IfSome, MatchResult}
use Rattle.std.specs.List.{AllByRecursion}
use Rattle.std.proofs.lemmas.Bool.{leb-false, ltb-false}
use Rattle.std.proofs.lemmas.List.{append-nil}
use Rattle.fsd_bytes.specs.declared.key.Key.{Key}
use Rattle.fsd_bytes.specs.declared.key.Serial.{Serial}
use Rattle.fsd_bytes.specs.declared.refusal.Refusal.{Refusal}
use Rattle.fsd_bytes.specs.declared.refusal.Refusal.TheVariants as Why
use Rattle.fsd_formats.specs.declared.entry.Entry.{Entry}
use Rattle.fsd_formats.specs.NamePage.{max_keep, max_length, sectors_for}
use Rattle.run_table.specs.RunTable.{total}
use Rattle.sector_disk.specs.Image.{AreShort, open_damage}
use Rattle.sector_disk.specs.Machine.{Moment, Wears}
use Rattle.fsd_log.specs.Scan.{Head}
use Rattle.fsd_files.specs.Answers.{Met, Outcome, enter_fault, keep_given, new_entry, put_outcome, size_fault, with_version}
use Rattle.fsd_files.specs.Files.{Change, new_key}
use Rattle.fsd_files.specs.Volume.{Volume, drawn, forced_for_place, forced_if}
use Rattle.fsd_files.specs.declared.reply.Reply.{Reply}
use Rattle.fsd_files.specs.declared.reply.Reply.TheVariants.{Refused}
use Rattle.fsd_sound.specs.Mounted.{forces_by_itself}
use Rattle.fsd_sound.proofs.MountedLaws.{mounted_sound}
use Rattle.fsd_runs.specs.Runs.{last_count}
use Rattle.volume_contract.specs.Ends.{AnswersAndStands, EndsPut, EndsRefused, MakesVersion, made_key}
use Rattle.volume_contract.specs.Order.{Asks, CallStep, Comes, Fetch, Follows, KeepsRefused, LookUp, PassesTest, Test, Through, worn}
use Rattle.volume_contract.specs.State.{Fits, GoesOn, HasCounted, Known, Leaves, Stands, State, downs, forced_of, forces_first, forces_for_place, put_writes, volume_of}
use Rattle.volume_laws.specs.Entered.{EndsEntered, EndsMade, KeepsOnEnter, StandsEntered, StandsMade, entering_steps, loading_steps, making_look}
use Rattle.volume_laws.specs.Placing.{test_steps}
use Rattle.volume_laws.specs.Preparing.{HasPrepared, Prepares, StandsReady, prepare_steps}
use Rattle.volume_laws.specs.State.{IsMemoryOf, state}
use Rattle.volume_laws.specs.Volume.{VolumeValue}
use Rattle.volume_laws.proofs.BehindForce.{fewer_wait, not_worn, same_layout}
use Rattle.volume_laws.proofs.LogLaws.{logged_still}
use Rattle.volume_laws.proofs.PrepareLaws.{prepared_counts, prepared_number}
use Rattle.volume_laws.proofs.PutLaws.{enter_cases, put_barred, put_kept, put_makes, unchanged_ready, version_as}
use Rattle.volume_laws.proofs.StoreLaws.{IsOn, on_forced, sound_on}
use Rattle.volume_laws.specs.WearLaws.{stands_worn}

-- ---- what the tests say

-- a serial is left to draw
pub serials_left : (s : State) → PassesTest (worn s) → s.serial.count + 1 < 2 ^ 32
serials_left s passes = by (nat_le last_count s.serial.count) (nat_le last_count s.head.number) refl passes
  where
    by : (b c : Bool) → nat_le last_count s.serial.count ≡ b → cond (b || c) (Some Why.WornOut) None ≡ None → s.serial.count + 1 < 2 ^ 32
    by true c is passed = absurd (cc passed)
    by false c is passed = let less = leb-false last_count s.serial.count is in omega (arith, less)

abbrev size_test : (keep len : ℕ) → Bool → Bool → Option Refusal
size_test keep len b c = cond b (Some (Why.KeepTooLarge keep)) (cond c (Some (Why.TooLong len)) None)

pub keep_small : (keep : Option ℕ) (len : ℕ) → size_fault (keep_given keep) len ≡ None → IfSome keep (λ most. most ≤ 999)
keep_small None len fits = tt
keep_small (Some keep) len fits = by (nat_lt max_keep keep) refl fits
  where
    by : (b : Bool) → nat_lt max_keep keep ≡ b → size_test keep len b (nat_lt max_length len) ≡ None → keep ≤ 999
    by true is passed = absurd (cc passed)
    by false is passed = ltb-false max_keep keep is

pub length_small : (keep len : ℕ) → size_fault keep len ≡ None → len ≤ max_length
length_small keep len fits = by (nat_lt max_keep keep) (nat_lt max_length len) refl fits
  where
    by : (b c : Bool) → nat_lt max_length len ≡ c → size_test keep len b c ≡ None → len ≤ max_length
    by true c is passed = absurd (cc passed)
    by false true is passed = absurd (cc passed)
    by false false is passed = ltb-false max_length len is

-- ---- what it is as its look-up begins

-- steps that change nothing where they refuse
abbrev pub IsPlain : CallStep → Type 0
IsPlain (Test why) = ⊤
IsPlain (Asks why) = ⊤
IsPlain LookUp = ⊤
IsPlain Fetch = ⊤
IsPlain step = ⊥

pub plain_keeps : (steps : List CallStep) → AllByRecursion IsPlain steps → (m : State) (why : Refusal) → Comes steps why → KeepsRefused steps why m m
plain_keeps [] plain m why comes = comes
plain_keeps (Test o ∷ steps) plain m why (inl here) = inl (here, refl)
plain_keeps (Test o ∷ steps) plain m why (inr later) = inr (later.0, plain_keeps steps plain.1 m why later.1)
plain_keeps (Asks r ∷ steps) plain m why (inl here) = inl (here, refl)
plain_keeps (Asks r ∷ steps) plain m why (inr later) = inr (later.0, plain_keeps steps plain.1 m why later.1)
plain_keeps (LookUp ∷ steps) plain m why (inl here) = inl (here, refl)
plain_keeps (LookUp ∷ steps) plain m why (inr later) = inr (later.0, plain_keeps steps plain.1 m why later.1)
plain_keeps (Fetch ∷ steps) plain m why (inl here) = inl (here, refl)
plain_keeps (Fetch ∷ steps) plain m why (inr later) = inr (later.0, plain_keeps steps plain.1 m why later.1)
plain_keeps (step ∷ steps) plain m why comes = absurd plain.0

-- a look-up that refuses leaves it as it was
pub enter_keeps : (m : State) (why : Refusal) → Comes (entering_steps m) why → KeepsRefused (entering_steps m) why m m
enter_keeps m why comes = plain_keeps (entering_steps m) (tt, (tt, (tt, (tt, tt)))) m why comes

pub load_keeps : (m : State) (why : Refusal) → Comes (loading_steps m) why → KeepsRefused (loading_steps m) why m m
load_keeps m why comes = plain_keeps (loading_steps m) (tt, (tt, (tt, (tt, (tt, tt))))) m why comes

module _ (s m : State) (keep : Option ℕ) (len : ℕ) (tests : Through (test_steps s keep len)) (e : Entry) (prepares : Prepares (sectors_for len) s m (Ok e)) where
  still_down : m.down ≡ s.down
  still_down = elim prepares.state.down [
    | inl same ↦ same
    | inr gone ↦ absurd (cc gone.0)
  ]

  pub up_ready : s.down ≡ None → m.down ≡ None
  up_ready up = still_down ∙ up

  -- the next record can be numbered
  pub number_ready : m.head.number < 2 ^ 32 - 1
  number_ready = omega (arith, not_worn s tests.1.1.0, prepared_number s m (sectors_for len) prepares.kept.went)

  -- ---- the version is entered, or it is as it was

  module _ {T : Type 0} (t : State) where
    abbrev Entered : Result T Refusal → Type 0
    Entered r = MatchResult r (λ x. KeepsOnEnter m t) (λ why. t ≡ m)

    pub put_counts : (asks : List CallStep) → ((why : Refusal) → Comes (making_look asks m) why → KeepsRefused (making_look asks m) why m m) → (r : Result T Refusal) → Follows (making_look asks m) r → Entered r
        → MatchResult r (λ x. HasCounted true (forces_for_place s (sectors_for len) || forces_first s) s t) (λ why. KeepsRefused (test_steps s keep len ++ prepare_steps s (sectors_for len) ++ making_look asks s) why s t)
    put_counts asks keeps (Ok x) follows enters =
        let counts = prepared_counts s m (sectors_for len) prepares.kept.went in
        record {
          count = ap (λ (x : Serial). x.count) enters.serial ∙ counts.count;
          number = ap (λ (h : Head). h.number) enters.head ∙ counts.number;
          log = logged_still m t (record { anchor = enters.anchor; head = enters.head; slots = enters.slots }) (forces_for_place s (sectors_for len) || forces_first s) s counts.log;
        }
    put_counts asks keeps (Err why) comes same =
        put_kept asks s keep len tests m prepares.kept.went t why (subst (λ (x : State). KeepsRefused (making_look asks m) why m x) (sym same) (keeps why comes))

    pub put_goes : (r : Result T Refusal) → Entered r → GoesOn (downs r) s t
    put_goes (Ok x) enters = record {
      layout = enters.layout ∙ prepares.state.layout;
      epoch = ap (λ (x : Serial). x.epoch) enters.serial ∙ prepares.state.epoch;
      readers = enters.readers ∙ prepares.state.readers;
      unfinished = enters.unfinished ∙ prepares.state.unfinished;
      down = inl (enters.down ∙ still_down);
    }
    put_goes (Err why) same = record {
      layout = ap (λ (x : State). x.layout) same ∙ prepares.state.layout;
      epoch = ap (λ (x : State). x.serial.epoch) same ∙ prepares.state.epoch;
      readers = ap (λ (x : State). x.readers) same ∙ prepares.state.readers;
      unfinished = ap (λ (x : State). x.unfinished) same ∙ prepares.state.unfinished;
      down = inl (ap (λ (x : State). x.down) same ∙ still_down);
    }

    pub slots_stay : (r : Result T Refusal) → Entered r → t.slots ≡ m.slots
    slots_stay (Ok x) enters = enters.slots
    slots_stay (Err why) same = ap (λ (x : State). x.slots) same

    pub layout_stays : (r : Result T Refusal) → Entered r → t.layout ≡ m.layout
    layout_stays (Ok x) enters = enters.layout
    layout_stays (Err why) same = ap (λ (x : State). x.layout) same

-- ---- what a stop leaves

on_ready : (need : ℕ) (k : Known) (mid : VolumeValue) (now : Moment) → (p : StandsReady need k mid now) → IsOn k p.after
on_ready need k mid now p =
    let b : Bool = forces_by_itself k.mounted in
    let w : Volume = drawn (forced_for_place need (volume_of k)) in
    let first : IsOn k (record k { mounted = record k.mounted { volume = w } }) = on_forced need k (record k { mounted = record k.mounted { volume = w } }) refl refl refl refl in
    let wait : (volume_of p.after).unforced ≡ (forced_if b w).unforced = ap (λ (x : Volume). x.unforced) p.volume in
    let long : length p.after.changes ≡ length k.changes = ap (λ (h : List Change). length h) p.changes in
    record {
      layout = ap (λ (x : Volume). x.layout) p.volume ∙ same_layout b w ∙ first.layout;
      windows = p.windows;
      changes = p.changes;
      more = omega (arith, first.more, wait, long, fewer_wait b w);
    }

module _ (v mid : VolumeValue) (need : ℕ) (old now left : Moment) (short : AreShort now.windows) (windows : now.windows ≡ old.windows) (quiet : now.said ≡ old.said) where
  pub leaves_entering : ((k : Known) → Stands state IsMemoryOf v k old → StandsReady need k mid now) → Leaves state IsMemoryOf v (put_writes (state v) need) old now → Wears now left → Leaves state IsMemoryOf v (put_writes (state v) need) old left
  leaves_entering goes first wears k stands =
      let p = goes k stands in
      let there = stands_worn mid p.after now left short (record { image = wears.image; windows = wears.windows }) p.stands in
      sound_on k p.after (λ s. false) (put_writes (state v) need) old now left (on_ready need k mid now p) windows quiet (λ s out. refl) (first k stands) (record {
        sound = mounted_sound p.after.mounted p.after.windows p.after.changes (forced_of p.after) left.image there.disk;
        roots = there.disk.over.own.roots;
        windows = wears.windows;
        said = wears.said;
        touches = record { size = wears.image.size; others = λ s out. wears.image.each s };
      })

-- ---- how it ends

abbrev pub met_with : Known → ℕ → Met
met_with k reached = record { forces = forces_by_itself k.mounted; reached = reached; damaged = None; found = []; healed = 0 }

-- by definitions that come to the same look-up
module _ (outcome : Met → Outcome) (k : Known) (need : ℕ) (mid : VolumeValue) (at : Moment) (p : StandsReady need k mid at) (new : VolumeValue) (now : Moment) where
  -- the look-up says why no version is made
  pub ends_barred : (why : Refusal) → outcome (met_with k 0) ≡ (Refused why, volume_of p.after) → Stands state IsMemoryOf new p.after now → AnswersAndStands state IsMemoryOf outcome (Refused why) [] k new now
  ends_barred why says stands = (p.after, record { met = met_with k 0; forces = refl; is = says; opened = p.opened; windows = p.windows; changes = p.changes ∙ sym (append-nil k.changes) }, stands)

  pub ends_unmade : (fault : Option Refusal) → ((why : Refusal) → fault ≡ Some why → Stands state IsMemoryOf new p.after now → EndsRefused state IsMemoryOf outcome k new now why) → {T : Type 0} (Makes : T → Type 0) (why : Refusal)
      → EndsMade fault Makes p.after new now (Err why) → EndsRefused state IsMemoryOf outcome k new now why
  ends_unmade fault bars Makes (Why.Device s) stands = inr (p.after, unchanged_ready k need mid at p, stands)
  ends_unmade fault bars Makes Why.Memory stands = (p.after, unchanged_ready k need mid at p, stands)
  ends_unmade fault bars Makes why ends = bars why ends.0 ends.1

  -- a version is made
  pub makes_version : (change : Change) (becomes : ℕ → Volume) (made draft : Entry) (bytes : List ℕ) (reply : Reply) → made.serial ≡ draft.serial → made.length ≡ draft.length → made.runs ≡ draft.runs
      → ((reached : ℕ) → outcome (met_with k reached) ≡ (reply, becomes reached)) → StandsMade change becomes made bytes draft p.after new now → MakesVersion state IsMemoryOf outcome reply bytes change k new now made.key
  makes_version change becomes made draft bytes reply serial long runs says ends = record {
    after = ends.after;
    answers = record {
      met = met_with k ends.reached;
      forces = refl;
      is = says ends.reached ∙ ap (λ (w : Volume). (reply, w)) (sym ends.volume);
      opened = ends.opened ∙ p.opened;
      windows = ends.windows ∙ p.windows;
      changes = ends.changes ∙ ap (λ (h : List Change). h ++ change ∷ []) p.changes;
    };
    stands = ends.stands;
    entry = made;
    entered = ends.entered;
    written = version_as (open_damage now.windows) now.image bytes draft made serial long runs ends.written;
  }

-- ---- a put

module _ (v mid : VolumeValue) (name bytes : List ℕ) (keep : Option ℕ) (k : Known) (old at : Moment) (e : Entry) (sizes : size_fault (keep_given keep) (length bytes) ≡ None) (fits : Fits (state v) k.mounted)
    (has : HasPrepared (sectors_for (length bytes)) (state v) (state mid) e) (p : StandsReady (sectors_for (length bytes)) k mid at) (new : VolumeValue) (now : Moment) where
  abbrev outcome : Met → Outcome
  outcome met = put_outcome met (volume_of k) name bytes keep

  abbrev need : ℕ
  need = sectors_for (length bytes)

  unentered : (why : Refusal) → enter_fault (volume_of p.after) name ≡ Some why → Stands state IsMemoryOf new p.after now → EndsRefused state IsMemoryOf outcome k new now why
  unentered why fault stands =
      enter_cases (λ (r : Refusal). AnswersAndStands state IsMemoryOf outcome (Refused r) [] k new now → EndsRefused state IsMemoryOf outcome k new now r) (volume_of p.after) name why (λ ends. ends) (λ ends. ends) fault
      (ends_barred outcome k need mid at p new now why (put_barred name bytes keep k v e.runs sizes fits has.place (met_with k 0) refl p.after p.volume why fault) stands)

  pub put_ends : total e.runs ≡ sectors_for (length bytes) → e.length ≡ length bytes → (r : Result Key Refusal) → EndsEntered name keep bytes e p.after new now r → EndsPut state IsMemoryOf outcome bytes (Change.Put name keep bytes) k new now r
  put_ends count long (Ok key) ends =
      subst (λ (x : Key). MakesVersion state IsMemoryOf outcome (made_key (length bytes) x) bytes (Change.Put name keep bytes) k new now x) (sym ends.key_is)
      (makes_version outcome k need mid at p new now (Change.Put name keep bytes) (λ r. with_version (volume_of p.after) name bytes keep e.runs e.serial r) (new_entry (volume_of p.after) name bytes keep e.runs e.serial) e bytes
      (made_key (length bytes) (new_key name (volume_of p.after).files)) refl (sym long) refl
      (λ reached. put_makes name bytes keep k v e.runs sizes fits has.place (met_with k reached) refl p.after p.volume e.serial has.serial ends.none count) ends.made)
  put_ends count long (Err why) ends = ends_unmade outcome k need mid at p new now (enter_fault (volume_of p.after) name) unentered (StandsEntered name keep bytes e p.after new now) why ends
