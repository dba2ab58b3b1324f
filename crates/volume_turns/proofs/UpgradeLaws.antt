-- An upgrade by itself: how it is refused, and what it leaves.
use Rattle.std.proofs.Common.{◌≡◌, ◌⊎◌, inl, inr, ℕ, zero, suc, ◌≤◌, Bool, true, false, List, [], ◌∷◌, length, Option, Some, None, refl, sym, ◌∙◌, ap, subst}
use Rattle.std.specs.Prelude.{OnOk, IfErr, IfOk, IsTrue, Result, Ok, Err, ◌&&◌, ◌==◌, not, is_some, option_and_then, option_map, replicate}
use Rattle.std.specs.List.{list_any}
use Rattle.std.proofs.lemmas.List.{append-nil}
use Rattle.volume_layout.specs.declared.kind.Kind.{Kind}
use Rattle.volume_layout.specs.declared.kind.Kind.TheVariants.{Two, Three}
use Rattle.volume_layout.specs.declared.layout.Layout.{Layout}
use Rattle.volume_layout.specs.Kinds.{other}
use Rattle.volume_layout.specs.Layout.{turned, with_kind}
use Rattle.fsd_bytes.specs.declared.refusal.Refusal.{Refusal}
use Rattle.fsd_bytes.specs.declared.refusal.Refusal.TheVariants as Why
use Rattle.sector_disk.specs.declared.machine.Machine.{Ghosts}
use Rattle.sector_disk.specs.Calls.{IsTimed, Since}
use Rattle.sector_disk.specs.Image.{AreShort, IsWorn, open_damage}
use Rattle.sector_disk.specs.Machine.{LeavesOnly, Moment}
use Rattle.fsd_log.specs.Scan.{Head, Placed}
use Rattle.fsd_files.specs.Answers.{Outcome, upgraded as upgrade_outcome_of}
use Rattle.fsd_files.specs.Disk.{Image, Touches}
use Rattle.fsd_files.specs.declared.reply.Reply.{Reply}
use Rattle.fsd_files.specs.declared.reply.Reply.TheVariants as Said
use Rattle.fsd_files.specs.Volume.{Volume}
use Rattle.fsd_sound.specs.Mounted.{Mounted, telling_of}
use Rattle.fsd_sound.specs.Shown.{told}
use Rattle.fsd_sound.specs.Sound.{IsSound, Says, SaysTurned, weak_of}
use Rattle.fsd_table.specs.Table.{told_in}
use Rattle.fsd_sound.proofs.SaidLaws.{own_says}
use Rattle.fsd_sound.proofs.TurnedLaws.{shown_turned}
use Rattle.fsd_runs.specs.Commands.{reply_alone}
use Rattle.fsd_texts.specs.declared.command.Command.TheVariants as Word
use Rattle.fsd_texts.specs.declared.fault.Fault.{Fault}
use Rattle.fsd_texts.specs.declared.fault.Fault.TheVariants as Ends
use Rattle.volume_contract.specs.Order.{IsDeviceIn, KeepsRefused, Roots, Test, Through, is_idle, is_root, layout_is, upgrade_steps, with_three}
use Rattle.volume_contract.specs.Closing.{may_close}
use Rattle.volume_contract.specs.State.{Ages, IsNew, Known, Stands, State, downs_for, forced_of, none_open, volume_of}
use Rattle.volume_contract.specs.Upgrade.{EndsUpgrade, RootsStand, is_fresh, upgraded_known}
use Rattle.volume_turns.specs.declared.turns.Halt.{Halt}
use Rattle.volume_turns.specs.declared.turns.Halt.TheVariants.{Fault as Stopped}
use Rattle.volume_turns.specs.Answering.{MayAnswer, AnswersAlone, SaysBy}
use Rattle.volume_turns.specs.Once.{IsAlone, unit_of}
use Rattle.scrub.specs.Telling.{AreOfPage}
use Rattle.volume_turns.specs.Steps.{Does, IsToldOn, StaysBy, ended_by}
use Rattle.volume_turns.specs.Turns.{OnDisk, SaysAll, Unsaid, UttersBehind}
use Rattle.volume_turns.specs.Upgrade.{EndsState, is_upgraded}
use Rattle.volume_turns.proofs.AnsweringLaws.{alone_closed, closed_by}
use Rattle.volume_turns.proofs.NumberLaws.{goes_none}
use Rattle.volume_turns.proofs.LongerLaws.{Wrote}
use Rattle.volume_turns.proofs.RelaidLaws.{relaid_alone, relaid_sound, relaid_undone}
use Rattle.volume_turns.proofs.CallLaws.{met_none}

-- ---- a volume that was just mounted

none_slot : {X : Type 0} (n : ℕ) (slots : List (Option X)) → slots ≡ replicate n None → list_any is_some slots ≡ false
none_slot {X = X} n slots same = ap (λ (xs : List (Option X)). list_any is_some xs) same ∙ by n
  where
    by : (n : ℕ) → (let xs : List (Option X) = replicate n None in list_any is_some xs) ≡ false
    by zero = refl
    by (suc n) = by n

pub new_fresh : (s : State) → IsNew s → IsTrue (is_fresh s)
new_fresh s new =
    let number : s.head.number ≡ 1 = ap (λ (h : Head). h.number) new.head in
    let slots : list_any is_some s.slots ≡ false = none_slot s.layout.pages s.slots new.slots in
    let clean : length s.dirty ≡ 0 = ap (λ (x : List ℕ). length x) new.dirty in
    fresh_by s.head.number (list_any is_some s.slots) (length s.dirty) number slots clean
  where
    fresh_by : (n : ℕ) (b : Bool) (d : ℕ) → n ≡ 1 → b ≡ false → d ≡ 0 → IsTrue ((n == 1) && not b && (d == 0))
    fresh_by n b d one none clean = subst (λ (x : ℕ). IsTrue ((x == 1) && not b && (d == 0))) (sym one) (subst (λ (x : Bool). IsTrue ((1 == 1) && not x && (d == 0))) (sym none) (subst (λ (x : ℕ). IsTrue ((1 == 1) && not false && (x == 0))) (sym clean) refl))

-- ---- how it is refused

-- the volume has layout 2 already
abbrev IsDone : State → State → Refusal → Type 0
IsDone s t why = (why ≡ Why.LayoutIs 2) × (s.layout.kind ≡ Three) × (t ≡ s)

-- it had layout 1, and a write of a root has failed there
abbrev FailsFrom : Kind → State → State → Refusal → Type 0
FailsFrom kind s t why = (place : ℕ) × (why ≡ Why.Device place) × (kind ≡ Two) × (t ≡ record s { down = Some place })

abbrev FailsRoots : State → State → Refusal → Type 0
FailsRoots s t why = FailsFrom s.layout.kind s t why

device_fails : (s t : State) (why : Refusal) → IsDeviceIn is_root why → t ≡ record s { down = downs_for why } → FailsFrom Two s t why
device_fails s t (Why.Device place) is fails = (place, refl, refl, fails)
device_fails s t why is fails = absurd is

kind_kept : (s t : State) (kind : Kind) (why : Refusal) → KeepsRefused (Test (layout_is s kind) ∷ Roots ∷ []) why s t → ((why ≡ Why.LayoutIs 2) × (kind ≡ Three) × (t ≡ s)) ⊎ FailsFrom kind s t why
kind_kept s t Two why (inl here) = absurd (cc here.0)
kind_kept s t Two why (inr (passes, roots)) = inr (device_fails s t why roots.0 roots.1)
kind_kept s t Three why (inl here) = inl (cc here.0, refl, here.1)
kind_kept s t Three why (inr (passes, later)) = absurd (cc passes)

pub upgrade_kept : (s t : State) → s.down ≡ None → (why : Refusal) → KeepsRefused (upgrade_steps s) why s t → IsDone s t why ⊎ FailsRoots s t why
upgrade_kept s t up why (inl here) = let not_down : None ≡ Some why = subst (λ (o : Option ℕ). option_map Why.Down o ≡ Some why) up here.0 in absurd (cc not_down)
upgrade_kept s t up why (inr (passes, later)) = kind_kept s t s.layout.kind why later

-- by a test, before anything is done
pub upgrade_idle : (s : State) → s.down ≡ None → s.layout.kind ≡ Three → IsTrue (is_idle (upgrade_steps s))
upgrade_idle s up three =
    subst (λ (kind : Kind). IsTrue (is_idle (Test (option_map Why.Down s.down) ∷ Test (layout_is s kind) ∷ Roots ∷ []))) (sym three)
    (subst (λ (o : Option ℕ). IsTrue (is_idle (Test (option_map Why.Down o) ∷ Test (layout_is s Three) ∷ Roots ∷ []))) (sym up) refl)

-- where it is not, it had layout 1
pub upgrade_through : (s : State) → Through (upgrade_steps s) → s.layout.kind ≡ Two
upgrade_through s through = by s.layout.kind through.1.0
  where
    by : (kind : Kind) → layout_is s kind ≡ None → kind ≡ Two
    by Two passes = refl
    by Three passes = absurd (cc passes)

-- what it is told, where it was not upgraded
pub ends_done : (s t : State) (answer : Reply) → is_upgraded answer ≡ false → EndsState s t (Ok answer) → (answer ≡ Said.Refused (Why.LayoutIs 2)) × (s.layout.kind ≡ Three) × (t ≡ s)
ends_done s t Said.Upgraded not_so ends = absurd (cc not_so)
ends_done s t answer not_so ends = ends

pub ends_upgraded : (answer : Reply) → is_upgraded answer ≡ true → answer ≡ Said.Upgraded
ends_upgraded Said.Upgraded is = refl
ends_upgraded answer is = absurd (cc is)

-- so it is told
pub upgrade_refused : (P : Result Reply Fault → Type 0) (s t : State) (why : Refusal) (r : Result Reply Fault) → r ≡ ended_by why → IsDone s t why ⊎ FailsRoots s t why
    → (IsDone s t why → P (Ok (Said.Refused (Why.LayoutIs 2)))) → ((place : ℕ) → why ≡ Why.Device place → (s.layout.kind ≡ Two) × (t ≡ record s { down = Some place }) → P (Err (Ends.Device place))) → P r
upgrade_refused P s t why r is (inl done) layout device = subst P (sym (is ∙ ap ended_by done.0)) (layout done)
upgrade_refused P s t why r is (inr fails) layout device = subst P (sym (is ∙ ap ended_by fails.1)) (device fails.0 fails.1 (fails.2, fails.3))

-- ---- how it ends over a volume that stands

module _ {S : Type 0} (state : S → State) (has : S → Mounted → List Placed → Type 0) (v w : S) (k : Known) (before now : Moment) (stood : Stands state has v k before) where
  kind_of : (kind : Kind) → (state v).layout.kind ≡ kind → (volume_of k).layout.kind ≡ kind
  kind_of kind is = ap (λ (l : Layout). l.kind) stood.fits.layout ∙ is

  answered_by : (kind : Kind) → (state v).layout.kind ≡ kind → upgrade_outcome_of (volume_of k).layout.kind (volume_of k) ≡ upgrade_outcome_of kind (volume_of k)
  answered_by kind is = ap (λ (x : Kind). upgrade_outcome_of x (volume_of k)) (kind_of kind is)

  pub upgraded_does : (state v).layout.kind ≡ Two → Stands state has w (upgraded_known k) now → Does state has Word.Upgrade v w k before now (Ok Said.Upgraded)
  upgraded_does two stands = (
    upgraded_known k,
    record { met = met_none; is = answered_by Two two; opened = refl; windows = refl; changes = sym (append-nil k.changes); find = tt; unworn = λ may. cc may },
    stands,
    tt,
  )

  pub stands_done : (why : Refusal) → why ≡ Why.LayoutIs 2 → (let r : Result (Unit {0}) Refusal = Err why in EndsUpgrade state has k w now r) → Stands state has w k now
  stands_done why is ends = (let r : Refusal → Result (Unit {0}) Refusal = λ x. Err x in subst (λ (x : Refusal). EndsUpgrade state has k w now (r x)) is ends)

  pub done_does : (state v).layout.kind ≡ Three → Stands state has w k now → Does state has Word.Upgrade v w k before now (Ok (Said.Refused (Why.LayoutIs 2)))
  done_does three stands = (
    k,
    record { met = met_none; is = answered_by Three three; opened = refl; windows = refl; changes = sym (append-nil k.changes); find = tt; unworn = λ may. cc may },
    stands,
    tt,
  )

-- ---- one that is done, by itself

module _ {S D : Type 0} (state : S → State) (has : S → Mounted → List Placed → Type 0) (M : Ghosts D)
    (wears : (s : S) (k : Known) (old new : Moment) → AreShort old.windows → Ages old new → Stands state has s k old → Stands state has s k new)
    (short : (m : D) → M.honest m → AreShort (M.now m).windows)
    (timed : (m : D) → M.honest m → IsTimed M m)
    (v w : S) (a m b : D) (k : Known) (none : k.opened ≡ none_open) (forced : (volume_of k).unforced ≡ 0) (stood : Stands state has v k (M.now a)) (on : OnDisk M k (forced_of k) a)
    (disk : Wrote M (StaysBy (with_kind Three) state has v) a m) (honest : M.honest m) (since : Since M m b)
    (two : (state v).layout.kind ≡ Two) (three : state w ≡ with_three (state v)) (roots : RootsStand (state w) (M.now m)) (does : Does state has Word.Upgrade v w k (M.now a) (M.now m) (Ok Said.Upgraded)) where
  abbrev l : Layout
  l = (volume_of k).layout

  abbrev after : Known
  after = does.0

  sound : IsSound l k.windows k.changes (length k.changes) (M.now m).image
  sound = relaid_sound state has M v a m k forced stood (with_kind Three) disk honest

  -- it is the volume with the layout turned
  turned_is : with_kind Three l ≡ turned l
  turned_is = ap (λ (kind : Kind). with_kind (other kind) l) (sym (kind_of state has v w k (M.now a) (M.now m) stood Two two))

  volume_is : record (volume_of k) { layout = with_kind Three l } ≡ volume_of after
  volume_is = ap (λ (o : Outcome). o.1) (sym (answered_by state has v w k (M.now a) (M.now m) stood Two two) ∙ does.1.is)

  same_layout : (volume_of after).layout ≡ turned l
  same_layout = ap (λ (x : Volume). x.layout) (sym volume_is) ∙ turned_is

  -- a root that stands is the new one
  says : SaysTurned l (M.now m).image
  says =
      let same : (state w).layout ≡ turned l = ap (λ (x : State). x.layout) three ∙ ap (λ (x : Layout). with_kind Three x) (sym stood.fits.layout) ∙ turned_is in
      subst (λ (x : Layout). Says x (M.now m).image) same (own_says (state w).layout l sound.readable.roots.other (open_damage (M.now m).windows) (M.now m).image (roots.first, roots.second) sound.readable.roots.some)

  -- nothing is logged, so its table is told in either form
  alike : (j : Image) → IsWorn (weak_of k.windows) (M.now m).image j → told (volume_of after).layout j ≡ told l j
  alike j worn = ap (λ (x : Layout). told x j) same_layout ∙ ap (option_and_then told_in) (shown_turned l j ((sound.readable.either (turned l) (inl refl) says).empty refl j worn))

  pub upgraded_alone : (text : List ℕ) → text ≡ reply_alone Said.Upgraded → M.honest b → LeavesOnly M.moment M.left_since m b (UttersBehind true text (M.now m)) → (r : Result ℕ Halt) → (r ≡ Err (Stopped Ends.Memory) → b ≡ m) → IfOk r (λ status. status ≡ 0)
      → OnOk (unit_of r) (SaysAll text (M.now m) (M.now b)) → OnOk (unit_of r) ((M.now m).time ≤ (M.now b).synced) → IfErr (unit_of r) (λ end. Unsaid (M.now m) (M.now b) end) → IsAlone M Word.Upgrade k a b r
  upgraded_alone text is honest_b run r undone gives all synced unsaid =
      relaid_alone state has M v a m k forced stood (with_kind Three) disk honest wears short timed Word.Upgrade (λ x. refl) Said.Upgraded w b none on since does (ap (λ (x : Volume). x.layout) volume_is) (ap (λ (x : Volume). x.unforced) (sym volume_is) ∙ forced) (ap telling_of volume_is) alike
      text is honest_b run r undone gives all synced unsaid

-- ---- one that failed

pub upgrade_failed : {S D : Type 0} (state : S → State) (has : S → Mounted → List Placed → Type 0) (M : Ghosts D) → ((s : S) (k : Known) (old new : Moment) → AreShort old.windows → Ages old new → Stands state has s k old → Stands state has s k new) → ((m : D) → M.honest m → AreShort (M.now m).windows) → ((m : D) → M.honest m → IsTimed M m)
    → (v w : S) (a m : D) (k : Known) → k.opened ≡ none_open → Stands state has v k (M.now a) → OnDisk M k (forced_of k) a → Wrote M (StaysBy (with_kind Three) state has v) a m → M.honest m → (fault : Fault) → EndsState (state v) (state w) (Err fault) → IsAlone M Word.Upgrade k a m (Err (Stopped fault))
upgrade_failed state has M wears short timed v w a m k none stood on disk honest (Ends.Device place) ends =
    relaid_undone state has M wears short timed Word.Upgrade (λ x. refl) refl v w a m k none stood on (with_kind Three) disk honest tt Said.Upgraded (answered_by state has v w k (M.now a) (M.now m) stood Two ends.0) (Ends.Device place) tt
upgrade_failed state has M wears short timed v w a m k none stood on disk honest fault ends = absurd ends

-- what it says and writes, whatever the image
pub upgraded_answers : (s t : State) (a m b : Moment) → m.windows ≡ a.windows → m.said ≡ a.said → MayAnswer Word.Upgrade s t a m (Ok Said.Upgraded) → Ages m b → (r : Result ℕ Halt) → IfOk r (λ status. status ≡ 0) → SaysBy (reply_alone Said.Upgraded) m b (unit_of r)
    → (unit_of r ≡ Err (Stopped Ends.WornOut) → ⊥) → ((why : Fault) → unit_of r ≡ Err (Stopped why) → IsToldOn AreOfPage s.layout b.image why) → AnswersAlone Word.Upgrade s a b r
upgraded_answers s t a m b windows same answers ages r gives says unworn told =
    let still : Touches (may_close s) m m = record { size = refl; others = λ x out. inl refl } in
    alone_closed Word.Upgrade s s a m windows same b Said.Upgraded r refl tt (record { replies = answers.replies; rest = answers.rest; still = refl; worn = λ is. absurd (cc is); numbers = goes_none 1 s s refl; told = tt }) gives
    (closed_by s (reply_alone Said.Upgraded) m m b (unit_of r) refl refl still ages says unworn told)
