-- The end of a creation: its tests, its leader, the force that it makes by itself, and its entry into the table.
use Rattle.std.proofs.Common.{◌≡◌, ◌⊎◌, inl, inr, ℕ, Bool, true, false, cond, not, ◌&&◌, ◌||◌, nat_lt, List, [], ◌∷◌, ◌++◌, filter, length, map, Option, Some, None, Result, Ok, Err, refl, sym, ap, subst, ◌∙◌, arith}
use Rattle.std.specs.Prelude.{IsFalse, MatchResult, option_map}
use Rattle.std.proofs.lemmas.Bool.{or_parts}
use Rattle.std.proofs.lemmas.List.{append-nil}
use Rattle.fsd_bytes.specs.declared.key.Key.{Key}
use Rattle.fsd_bytes.specs.declared.key.Serial.{Serial}
use Rattle.fsd_bytes.specs.declared.refusal.Refusal.{Refusal}
use Rattle.fsd_bytes.specs.declared.refusal.Refusal.TheVariants as Why
use Rattle.run_table.specs.declared.run.Run.{Run}
use Rattle.run_table.specs.RunTable.{same_runs, sectors_of, total}
use Rattle.run_table.specs.Space.{contains}
use Rattle.sector_set.specs.Area.{AreIn}
use Rattle.sector_disk.specs.Image.{AreShort, open_damage}
use Rattle.sector_disk.specs.Machine.{Moment}
use Rattle.fsd_formats.specs.declared.entry.Entry.{Entry}
use Rattle.fsd_formats.specs.NamePage.{max_keep, sectors_for}
use Rattle.fsd_log.specs.Scan.{Head}
use Rattle.fsd_files.specs.Answers.{Met, Outcome, enter_fault, entry_of, keep_given, new_entry, refused, size_fault, with_version}
use Rattle.fsd_files.specs.Disk.{Sectors, Touches}
use Rattle.fsd_files.specs.Files.{Change, new_key}
use Rattle.fsd_files.specs.Pieces.{enter_outcome, enter_unless, undrafted}
use Rattle.fsd_files.specs.declared.reply.Reply.TheVariants.{Made, Refused}
use Rattle.fsd_files.specs.Volume.{Volume, forced_if}
use Rattle.fsd_sound.specs.Mounted.{Mounted, forces_by_itself}
use Rattle.fsd_sound.specs.Writes.{force_writes}
use Rattle.version_data.specs.Writing.{WritesIn}
use Rattle.volume_contract.specs.Causes.{HasCallCause}
use Rattle.volume_contract.specs.Ends.{AnswersAndStands, EndsRefused, Unchanged}
use Rattle.volume_contract.specs.Order.{Asks, Comes, Disk, Fetch, Follows, Force, IsDeviceIn, KeepsRefused, LookUp, CallStep, Through, by_itself, enter_steps, is_idle, table_full}
use Rattle.volume_contract.specs.Pieces.{EndsEnter as EndsCreation, Enters, IsDraft, drafts_without, ended, in_leader, with_opened}
use Rattle.volume_contract.specs.State.{GoesOn, HasCounted, HasLogged, IsForced, KeepsLog, Known, Leaves, Stands, State, WrittenDraft, downs_for, forces_first, is_worn, numbered, volume_of}
use Rattle.volume_laws.specs.Completed.{Completes, EndsComplete, draft_of}
use Rattle.volume_laws.specs.Entered.{EndsEntered, entering_steps as look_steps}
use Rattle.volume_laws.specs.Placing.{IsPlace, test_steps}
use Rattle.volume_laws.specs.Preparing.{EndsForced, ForcesByItself, StandsForced}
use Rattle.volume_laws.specs.State.{IsMemoryOf, state}
use Rattle.volume_laws.specs.Steps.{Went}
use Rattle.volume_laws.specs.Volume.{IsWholeVolume, VolumeValue}
use Rattle.volume_laws.proofs.LeaderWriteLaws.{blanked, stands_blank}
use Rattle.volume_laws.proofs.PieceLaws.{as_opened}
use Rattle.volume_laws.proofs.LogLaws.{keeps_same, logged_forced, logged_none, logged_still}
use Rattle.volume_laws.proofs.StepLaws.{comes_behind, comes_more, idle_behind, keeps_behind, keeps_more, through_more, went_pages}
use Rattle.volume_laws.proofs.StoreLaws.{IsOn, sound_on, touches_then}
use Rattle.volume_laws.proofs.BehindForce.{unchanged}
use Rattle.volume_laws.proofs.PutEnds.{enter_keeps}
use Rattle.volume_laws.proofs.PutLaws.{enter_cases, tests_keep, version_as}

-- ---- the steps

module _ (s : State) (keep : Option ℕ) (leader : Sectors) where
  abbrev tests : List CallStep
  tests = test_steps s keep 0

  abbrev behind : List CallStep
  behind = Disk leader ∷ by_itself s ∷ look_steps s

  -- a test refuses
  pub refused_order : (why : Refusal) → Comes (test_steps s keep 0) why → Comes (enter_steps s keep leader) why
  refused_order why comes = comes_more tests behind why comes

  pub refused_kept : (why : Refusal) → Comes (test_steps s keep 0) why → KeepsRefused (enter_steps s keep leader) why s s
  refused_kept why comes = keeps_more tests behind why s s (tests_keep s keep 0 why comes)

  module _ (passed : Through (test_steps s keep 0)) where
    went : Went tests s s
    went = (passed.0, (passed.1.0, (passed.1.1.0, refl)))

    -- a call that comes to its leader is not idle
    pub busy_enter : is_idle (enter_steps s keep leader) ≡ true → ⊥
    busy_enter idle = absurd (cc (idle_behind tests behind passed idle))

    -- the leader is not written
    pub unled_order : (why : Refusal) → IsDeviceIn leader why → Comes (enter_steps s keep leader) why
    unled_order why fails = comes_behind tests behind why passed (inl fails)

    pub unled_kept : (why : Refusal) → IsDeviceIn leader why → KeepsRefused (enter_steps s keep leader) why s s
    unled_kept why fails = keeps_behind tests behind why s s s went (inl (fails, refl))

    -- the force fails
    pub unforced_order : (why : Refusal) → Comes (by_itself s ∷ []) why → Comes (enter_steps s keep leader) why
    unforced_order why comes = comes_behind tests behind why passed (inr (tt, comes_more (by_itself s ∷ []) (look_steps s) why comes))

    pub unforced_kept : (t : State) (why : Refusal) → KeepsRefused (by_itself s ∷ []) why s t → KeepsRefused (enter_steps s keep leader) why s t
    unforced_kept t why keeps = keeps_behind tests behind why s s t went (inr (tt, keeps_more (by_itself s ∷ []) (look_steps s) why s t keeps))

    -- the look-up comes
    module _ (t u : State) (forces : ForcesByItself s t (Ok tt)) where
      same_look : look_steps t ≡ look_steps s
      same_look = ap (λ (pages : List ℕ). LookUp ∷ Asks Why.VersionsUsedUp ∷ table_full (record s { free_pages = pages }) ∷ Fetch ∷ []) (went_pages (by_itself s ∷ []) s t forces.kept)

      pub entered_order : {T : Type 0} (r : Result T Refusal) → Follows (look_steps t) r → Follows (enter_steps s keep leader) r
      entered_order (Ok x) follows = through_more tests behind passed (tt, (tt, subst (λ (steps : List CallStep). Through steps) same_look follows))
      entered_order (Err why) comes = comes_behind tests behind why passed (inr (tt, inr (tt, subst (λ (steps : List CallStep). Comes steps why) same_look comes)))

      still_down : t.down ≡ s.down
      still_down = elim forces.state.down [
        | inl same ↦ same
        | inr gone ↦ absurd (cc gone.0)
      ]

      came : ((forces_first s ≡ false) × (t ≡ s)) ⊎ ((forces_first s ≡ true) × IsForced s t)
      came = by (forces_first s) refl forces.kept
        where
          by : (b : Bool) → forces_first s ≡ b → Went (Force b ∷ []) s t → ((forces_first s ≡ false) × (t ≡ s)) ⊎ ((forces_first s ≡ true) × IsForced s t)
          by true is kept = inr (is, subst (IsForced s) (sym kept.2) kept.1)
          by false is kept = inl (is, kept.1)

      module _ (runs : List Run) where
        counted : Completes runs t u → HasCounted false (forces_first s) s u
        counted done =
            let same : KeepsLog t u = record { anchor = done.anchor; head = done.head; slots = done.slots } in
            elim came [
              | inl none ↦ record {
                count = ap (λ (x : Serial). x.count) done.serial ∙ ap (λ (x : State). x.serial.count) none.1;
                number = ap (λ (x : Head). x.number) done.head ∙ ap (λ (x : State). x.head.number) none.1 ∙ ap (λ (b : Bool). cond b (numbered s) s.head.number) (sym none.0);
                log = subst (λ (b : Bool). HasLogged b s u) (sym none.0) (logged_still t u same false s (logged_none s t (keeps_same s t none.1)));
              }
              | inr forced ↦ record {
                count = ap (λ (x : Serial). x.count) done.serial ∙ ap (λ (x : State). x.serial.count) forced.1.is;
                number = ap (λ (x : Head). x.number) done.head ∙ forced.1.number ∙ ap (λ (b : Bool). cond b (numbered s) s.head.number) (sym forced.0);
                log = subst (λ (b : Bool). HasLogged b s u) (sym forced.0) (logged_still t u same true s (logged_forced s t forced.1));
              }
            ]

        abbrev Completed : Result Key Refusal → Type 0
        Completed r = MatchResult r (λ key. Completes runs t u) (λ why. u ≡ t)

        pub entered_kept : (r : Result Key Refusal) → Follows (look_steps t) r → Completed r → MatchResult r (λ key. HasCounted false (forces_first s) s u) (λ why. KeepsRefused (enter_steps s keep leader) why s u)
        entered_kept (Ok key) follows done = counted done
        entered_kept (Err why) comes same =
            keeps_behind tests behind why s s u went (inr (
              tt,
              keeps_behind (by_itself s ∷ []) (look_steps s) why s t u forces.kept
                  (subst (λ (steps : List CallStep). KeepsRefused steps why t u) same_look (subst (λ (x : State). KeepsRefused (look_steps t) why t x) (sym same) (enter_keeps t why comes))),
            ))

        pub entered_state : (r : Result Key Refusal) → Completed r → MatchResult r (λ key. Enters runs s u) (λ why. GoesOn (downs_for why) s u)
        entered_state (Ok key) done = record {
          layout = done.layout ∙ forces.state.layout;
          epoch = ap (λ (x : Serial). x.epoch) done.serial ∙ forces.state.epoch;
          unfinished = λ p. done.unfinished p ∙ ap (λ (xs : List ℕ). contains xs p && not (contains (sectors_of runs) p)) forces.state.unfinished;
          readers = done.readers ∙ forces.state.readers;
          down = done.down ∙ still_down;
        }
        entered_state (Err why) same = record {
          layout = ap (λ (x : State). x.layout) same ∙ forces.state.layout;
          epoch = ap (λ (x : State). x.serial.epoch) same ∙ forces.state.epoch;
          unfinished = ap (λ (x : State). x.unfinished) same ∙ forces.state.unfinished;
          readers = ap (λ (x : State). x.readers) same ∙ forces.state.readers;
          down = inl (ap (λ (x : State). x.down) same ∙ still_down);
        }

        pub entered_slots : (r : Result Key Refusal) → Completed r → u.slots ≡ t.slots
        entered_slots (Ok key) done = done.slots
        entered_slots (Err why) same = ap (λ (x : State). x.slots) same

        pub entered_layout : (r : Result Key Refusal) → Completed r → u.layout ≡ t.layout
        entered_layout (Ok key) done = done.layout
        entered_layout (Err why) same = ap (λ (x : State). x.layout) same

-- its sectors are a place among those of unfinished creations behind the force too
pub draft_behind : (v mid : VolumeValue) (e : Entry) → GoesOn None (state v) (state mid) → IsDraft (state v) (draft_of e) → IsPlace mid.shadow.unfinished (sectors_for e.length) e.runs
draft_behind v mid e goes draft = record {
  free = record { inside = λ s here. ap (λ (xs : List ℕ). contains xs s) goes.unfinished ∙ draft.unfinished s here; differ = draft.differ };
  count = draft.size;
  few = draft.few;
  some = draft.some;
}

-- the force that comes by itself tells what it does whatever came before it
pub force_cause_before : (s t : State) (resident : ℕ → Option (List ℕ)) (before mid now : Moment) (why : Refusal) → Comes (by_itself s ∷ []) why → HasCallCause s t resident mid now why → HasCallCause s t resident before now why
force_cause_before s t resident before mid now (Why.Lost a b) comes lost = lost
force_cause_before s t resident before mid now (Why.Unsound p) (inl comes) shows = absurd comes.1
force_cause_before s t resident before mid now (Why.Unsound p) (inr none) shows = absurd none.1
force_cause_before s t resident before mid now why comes cause = tt

-- ---- what a stop leaves

abbrev enter_writes : State → List Run → Sectors
enter_writes s runs t = force_writes s.layout t || in_leader runs t

module _ (v : VolumeValue) (runs : List Run) where
  out_force : (s : ℕ) → IsFalse (enter_writes (state v) runs s) → IsFalse (force_writes v.layout s)
  out_force s out = (or_parts (force_writes v.layout s) (in_leader runs s) out).0

  out_leader : (s : ℕ) → IsFalse (enter_writes (state v) runs s) → IsFalse (in_leader runs s)
  out_leader s out = (or_parts (force_writes v.layout s) (in_leader runs s) out).1

  pub leaves_led : (old left : Moment) → Leaves state IsMemoryOf v (in_leader runs) old left → Leaves state IsMemoryOf v (λ t. force_writes (state v).layout t || in_leader runs t) old left
  leaves_led old left leaves k stands =
      let l = leaves k stands in
      record { sound = l.sound; roots = l.roots; windows = l.windows; said = l.said; touches = record { size = l.touches.size; others = λ s out. l.touches.others s (out_leader s out) } }

  pub touches_led : (old left : Moment) → Touches (in_leader runs) old left → Touches (λ t. force_writes (state v).layout t || in_leader runs t) old left
  touches_led old left touches = record { size = touches.size; others = λ s out. touches.others s (out_leader s out) }

  pub touches_enter : (old now left : Moment) → now.windows ≡ old.windows → Touches (in_leader runs) old now → Touches (force_writes v.layout) now left → Touches (λ t. force_writes (state v).layout t || in_leader runs t) old left
  touches_enter old now left windows first second = touches_then (in_leader runs) (force_writes v.layout) (enter_writes (state v) runs) old now left windows out_leader out_force first second

  module _ (whole : IsWholeVolume v) (are : AreIn v.shadow.unfinished runs) (old now left : Moment) (short : AreShort old.windows) (writes : WritesIn (in_leader runs) old now) where
    on_blank : (k : Known) → IsOn k (with_opened k (blanked k.opened))
    on_blank k = record { layout = refl; windows = refl; changes = refl; more = omega arith }

    pub leaves_enter : Leaves state IsMemoryOf v (in_leader runs) old now → Leaves state IsMemoryOf v (force_writes v.layout) now left → Leaves state IsMemoryOf v (λ t. force_writes (state v).layout t || in_leader runs t) old left
    leaves_enter first second k stands =
        sound_on k (with_opened k (blanked k.opened)) (force_writes v.layout) (enter_writes (state v) runs) old now left (on_blank k) writes.windows writes.said out_force
        (leaves_led old now first k stands) (second (with_opened k (blanked k.opened)) (stands_blank v whole runs are old now short writes k stands))

-- ---- the definitions' volume without the creation

map_filtered : (runs : List Run) (drafts : List WrittenDraft) → map (λ x. x.runs) (drafts_without drafts runs) ≡ filter (λ d. not (same_runs d runs)) (map (λ x. x.runs) drafts)
map_filtered runs [] = refl
map_filtered runs (x ∷ drafts) = by (not (same_runs x.runs runs)) (map_filtered runs drafts)
  where
    by : (b : Bool) → map (λ y. y.runs) (drafts_without drafts runs) ≡ filter (λ d. not (same_runs d runs)) (map (λ y. y.runs) drafts)
        → map (λ y. y.runs) (cond b (x ∷ drafts_without drafts runs) (drafts_without drafts runs)) ≡ cond b (x.runs ∷ filter (λ d. not (same_runs d runs)) (map (λ y. y.runs) drafts)) (filter (λ d. not (same_runs d runs)) (map (λ y. y.runs) drafts))
    by true rest = ap (λ (plans : List (List Run)). x.runs ∷ plans) rest
    by false rest = rest

-- the volume without the creation is the definitions'
pub volume_ended : (v : VolumeValue) (k : Known) (now : Moment) (runs : List Run) → Stands state IsMemoryOf v k now → volume_of (with_opened k (ended k.opened runs)) ≡ undrafted (volume_of k) runs
volume_ended v k now runs stands = λ i. record (volume_of k) {
  drafts = (map_filtered runs k.opened.drafts ∙ ap (filter (λ d. not (same_runs d runs))) (sym stands.opened.drafts)) i;
  held = ap (λ (m : Mounted). m.volume.held) (sym (as_opened v k now stands)) i;
}

-- ---- how it ends

module _ (name bytes : List ℕ) (keep : Option ℕ) (e : Entry) (k : Known) where
  abbrev outcome : Met → Outcome
  outcome met = enter_outcome met (volume_of k) name bytes keep e.runs e.serial

  abbrev met_with : ℕ → Met
  met_with reached = record { forces = forces_by_itself k.mounted; reached = reached; damaged = None; found = []; healed = 0 }

  abbrev unless_large : Met → Bool → Outcome
  unless_large met b =
      let at = forced_if met.forces (volume_of k) in
      cond b (refused (volume_of k) (Why.KeepTooLarge (keep_given keep))) (enter_unless (enter_fault at name) at name bytes keep e.runs e.serial met.reached)

  same_volume : Unchanged k k
  same_volume = record { volume = inl (inl refl); opened = refl; windows = refl; changes = refl }

  -- a test refuses
  pub ends_untested : (v : VolumeValue) (now : Moment) (why : Refusal) → Comes (test_steps (state v) keep 0) why → Stands state IsMemoryOf v k now → EndsCreation state IsMemoryOf (draft_of e) name bytes keep k v now (Err why)
  ends_untested v now why comes stands = by comes
    where
      Ends : Refusal → Type 0
      Ends r = EndsRefused state IsMemoryOf outcome k v now r

      worn_out : (b : Bool) → cond b (Some Why.WornOut) None ≡ Some why → Ends why
      worn_out true is = let same : Why.WornOut ≡ why = cc is in subst Ends same stands
      worn_out false is = absurd (cc is)

      large : (b : Bool) → nat_lt max_keep (keep_given keep) ≡ b → cond b (Some (Why.KeepTooLarge (keep_given keep))) None ≡ Some why → Ends why
      large true too is =
          let same : Why.KeepTooLarge (keep_given keep) ≡ why = cc is in
          subst Ends same (k, record { met = met_with 0; forces = refl; is = ap (unless_large (met_with 0)) too; opened = refl; windows = refl; changes = sym (append-nil k.changes) }, stands)
      large false too is = absurd (cc is)

      by : Comes (test_steps (state v) keep 0) why → Ends why
      by (inl down) = absurd (let told : option_map Why.Down None ≡ Some why = ap (option_map Why.Down) (sym stands.fits.up) ∙ down in cc told)
      by (inr (up, inl size)) = large (nat_lt max_keep (keep_given keep)) refl size
      by (inr (up, inr (fits, inl worn))) = worn_out (is_worn (state v)) worn
      by (inr (up, inr (fits, inr (able, none)))) = absurd none

  -- the leader is not written
  pub ends_unled : (within : Sectors) (v : VolumeValue) (now : Moment) (why : Refusal) → IsDeviceIn within why → Stands state IsMemoryOf v k now → EndsCreation state IsMemoryOf (draft_of e) name bytes keep k v now (Err why)
  ends_unled within v now (Why.Device s) fails stands = inr (k, same_volume, stands)
  ends_unled within v now why fails stands = absurd fails

  -- the force fails
  pub ends_unforced : (u : VolumeValue) (now : Moment) (why : Refusal) → EndsForced k u now (Err why) → EndsCreation state IsMemoryOf (draft_of e) name bytes keep k u now (Err why)
  ends_unforced u now (Why.Device s) down = inl down
  ends_unforced u now why none = absurd none

  module _ (passes : size_fault (keep_given keep) 0 ≡ None) (mid : VolumeValue) (at : Moment) (p : StandsForced k mid at) where
    small : nat_lt max_keep (keep_given keep) ≡ false
    small = by (nat_lt max_keep (keep_given keep)) passes
      where
        by : (b : Bool) → cond b (Some (Why.KeepTooLarge (keep_given keep))) None ≡ None → b ≡ false
        by true is = absurd (cc is)
        by false is = refl

    -- the definitions come to the same look-up
    outcome_is : (reached : ℕ) → outcome (met_with reached) ≡ enter_unless (enter_fault (volume_of p.after) name) (volume_of p.after) name bytes keep e.runs e.serial reached
    outcome_is reached =
        ap (unless_large (met_with reached)) small
        ∙ ap (λ (w : Volume). enter_unless (enter_fault w name) w name bytes keep e.runs e.serial reached) (sym p.volume)

    module _ (new : VolumeValue) (now : Moment) where
      unentered : (why : Refusal) → enter_fault (volume_of p.after) name ≡ Some why → Stands state IsMemoryOf new p.after now → AnswersAndStands state IsMemoryOf outcome (Refused why) [] k new now
      unentered why fault stands = (
        p.after,
        record {
          met = met_with 0;
          forces = refl;
          is = outcome_is 0 ∙ ap (λ (o : Option Refusal). enter_unless o (volume_of p.after) name bytes keep e.runs e.serial 0) fault;
          opened = p.opened;
          windows = p.windows;
          changes = p.changes ∙ sym (append-nil k.changes);
        },
        stands,
      )

      -- the look-up says why no version is made
      barred : (why : Refusal) → enter_fault (volume_of p.after) name ≡ Some why → Stands state IsMemoryOf new p.after now → EndsRefused state IsMemoryOf outcome k new now why
      barred why fault stands =
          enter_cases (λ (r : Refusal). AnswersAndStands state IsMemoryOf outcome (Refused r) [] k new now → EndsRefused state IsMemoryOf outcome k new now r) (volume_of p.after) name why (λ ends. ends) (λ ends. ends) fault
          (unentered why fault stands)

      unmade : (why : Refusal) → EndsEntered name keep bytes e p.after new now (Err why) → EndsRefused state IsMemoryOf outcome k new now why
      unmade (Why.Device s) stands = inr (p.after, unchanged k mid at p, stands)
      unmade Why.Memory stands = (p.after, unchanged k mid at p, stands)
      unmade why ends = barred why ends.0 ends.1

      -- the version is made of the creation, or it is one as before
      pub ends_finished : total e.runs ≡ sectors_for e.length → e.length ≡ length bytes → (r : Result Key Refusal) → EndsComplete name keep bytes e p.after new now r → EndsCreation state IsMemoryOf (draft_of e) name bytes keep k new now r
      ends_finished count long (Ok key) ends =
          let w : Volume = volume_of (with_opened p.after (ended p.after.opened e.runs)) in
          let made : Entry = new_entry w name bytes keep e.runs e.serial in
          record {
            after = ends.made.after;
            answers = record {
              met = met_with ends.made.reached;
              forces = refl;
              is = outcome_is ends.made.reached
                  ∙ ap (λ (o : Option Refusal). enter_unless o (volume_of p.after) name bytes keep e.runs e.serial ends.made.reached) ends.none
                  ∙ ap (λ (x : Volume). (Made (new_key name (volume_of p.after).files) (total e.runs), with_version x name bytes keep e.runs e.serial ends.made.reached)) (sym (volume_ended mid p.after at e.runs p.stands))
                  ∙ (λ i. (Made (sym ends.key_is i) ((count ∙ ap sectors_for long) i), sym ends.made.volume i));
              opened = ends.made.opened ∙ ap (λ o. ended o e.runs) p.opened;
              windows = ends.made.windows ∙ p.windows;
              changes = ends.made.changes ∙ ap (λ (h : List Change). h ++ Change.Put name keep bytes ∷ []) p.changes;
            };
            stands = ends.made.stands;
            entry = made;
            entered = ap (λ (x : Key). entry_of x (volume_of ends.made.after).entries) ends.key_is ∙ ends.made.entered;
            written = version_as (open_damage now.windows) now.image bytes e made refl (sym long) refl ends.made.written;
          }
      ends_finished count long (Err why) ends = unmade why ends
