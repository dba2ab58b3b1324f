-- A growth by itself: how it is refused, and what it leaves.
use Rattle.std.proofs.Common.{◌≡◌, ◌⊎◌, inl, inr, ℕ, ◌+◌, ◌-◌, ◌^◌, ◌<◌, ◌≤◌, min, Bool, true, false, List, [], ◌∷◌, ◌++◌, length, Option, Some, None, refl, sym, ◌∙◌, ap, subst, arith}
use Rattle.std.specs.Prelude.{OnOk, IfErr, IfOk, IsTrue, Result, Ok, Err, if◌then◌else◌, nat_le, nat_lt, option_map}
use Rattle.std.specs.List.{range_with_len}
use Rattle.std.proofs.lemmas.Bool.{leb-false, leb-true, ltb-false, ltb-true}
use Rattle.std.proofs.lemmas.List.{append-nil, length-append}
use Rattle.std.proofs.lemmas.List.FromFn.{length-range_with_len}
use Rattle.volume_layout.specs.declared.layout.Layout.{Layout}
use Rattle.volume_layout.specs.Layout.{most_of, with_sectors}
use Rattle.run_table.specs.declared.run.Run.{Run}
use Rattle.run_table.specs.RunTable.{sectors_of, total}
use Rattle.run_table.proofs.SectorLaws.{length_of_sectors, total_of_runs}
use Rattle.fsd_bytes.specs.declared.refusal.Refusal.{Refusal}
use Rattle.fsd_bytes.specs.declared.refusal.Refusal.TheVariants as Why
use Rattle.sector_disk.specs.declared.machine.Machine.{Ghosts}
use Rattle.sector_disk.specs.Calls.{IsTimed, Since}
use Rattle.sector_disk.specs.Image.{AreShort, IsWorn}
use Rattle.sector_disk.specs.Machine.{LeavesOnly, Moment}
use Rattle.fsd_log.specs.Scan.{Placed}
use Rattle.fsd_files.specs.Answers.{Outcome, grow_fault, grown, grown_unless}
use Rattle.fsd_files.specs.Disk.{Image, Touches}
use Rattle.fsd_files.specs.declared.reply.Reply.{Reply}
use Rattle.fsd_files.specs.declared.reply.Reply.TheVariants as Said
use Rattle.fsd_files.specs.Volume.{Volume, free_count}
use Rattle.fsd_sound.specs.Mounted.{Mounted, telling_of}
use Rattle.fsd_sound.specs.Shown.{told}
use Rattle.fsd_sound.specs.Sound.{weak_of}
use Rattle.fsd_sound.proofs.SizedLaws.{told_sized}
use Rattle.fsd_runs.specs.Commands.{reply_alone}
use Rattle.fsd_texts.specs.declared.command.Command.TheVariants as Word
use Rattle.fsd_texts.specs.declared.fault.Fault.{Fault}
use Rattle.fsd_texts.specs.declared.fault.Fault.TheVariants as Ends
use Rattle.volume_contract.specs.Growth.{EndsGrow, grown_known, with_more}
use Rattle.volume_contract.specs.Order.{IsDeviceIn, KeepsRefused, Roots, Test, grow_steps, is_idle, is_root}
use Rattle.volume_contract.specs.Closing.{may_close}
use Rattle.volume_contract.specs.State.{Ages, Known, Stands, State, downs_for, forced_of, none_open, volume_of}
use Rattle.volume_turns.specs.declared.turns.Halt.{Halt}
use Rattle.volume_turns.specs.declared.turns.Halt.TheVariants.{Fault as Stopped}
use Rattle.volume_turns.specs.Answering.{MayAnswer, AnswersAlone, SaysBy}
use Rattle.volume_turns.specs.Commands.{RefusesGrowth}
use Rattle.volume_turns.specs.Grow.{EndsGrown, GrowsTo, is_grown}
use Rattle.volume_turns.specs.Once.{IsAlone, unit_of}
use Rattle.scrub.specs.Telling.{AreOfPage}
use Rattle.volume_turns.specs.Steps.{Does, IsToldOn, StaysBy, ended_by}
use Rattle.volume_turns.specs.Turns.{OnDisk, SaysAll, Unsaid, UttersBehind}
use Rattle.volume_turns.proofs.AnsweringLaws.{alone_closed, closed_by}
use Rattle.volume_turns.proofs.NumberLaws.{goes_none}
use Rattle.volume_turns.proofs.CallLaws.{met_none}
use Rattle.volume_turns.proofs.LongerLaws.{Wrote}
use Rattle.volume_turns.proofs.RelaidLaws.{relaid_alone, relaid_undone}

-- ---- how it is refused

-- this keeps a volume of that layout from growing
module _ (l : Layout) (n : ℕ) where
  fault_by : (P : Option Refusal → Type 0) → (n ≤ l.sectors → P (Some (Why.NotLarger n))) → (l.sectors < n → most_of l < n → P (Some (Why.PastMost (most_of l)))) → (l.sectors < n → n ≤ most_of l → P None) → P (grow_fault l n)
  fault_by P few many fits = by (nat_le n l.sectors) refl
    where
      past : l.sectors < n → (b : Bool) → nat_lt (most_of l) n ≡ b → P (if b then Some (Why.PastMost (most_of l)) else None)
      past more true is = many more (ltb-true (most_of l) n is)
      past more false is = fits more (ltb-false (most_of l) n is)

      by : (b : Bool) → nat_le n l.sectors ≡ b → P (if b then Some (Why.NotLarger n) else (if nat_lt (most_of l) n then Some (Why.PastMost (most_of l)) else None))
      by true is = few (leb-true n l.sectors is)
      by false is = past (leb-false n l.sectors is) (nat_lt (most_of l) n) refl

  -- each of them is one of two
  pub refused_as : (P : Refusal → Type 0) (why : Refusal) → grow_fault l n ≡ Some why → P (Why.NotLarger n) → ((most : ℕ) → most < n → P (Why.PastMost most)) → P why
  refused_as P why is few many =
      fault_by (λ o. o ≡ Some why → P why) (λ le e. let same : Why.NotLarger n ≡ why = cc e in subst P same few) (λ more past e. let same : Why.PastMost (most_of l) ≡ why = cc e in subst P same (many (most_of l) past)) (λ more fits e. absurd (cc e)) is

  pub fits_so : grow_fault l n ≡ None → (l.sectors < n) × (n ≤ most_of l)
  fits_so is = fault_by (λ o. o ≡ None → (l.sectors < n) × (n ≤ most_of l)) (λ le e. absurd (cc e)) (λ more past e. absurd (cc e)) (λ more fits e. (more, fits)) is

abbrev IsKept : ℕ → State → State → Refusal → Type 0
IsKept n s t why = (grow_fault s.layout n ≡ Some why) × (t ≡ s)

-- nothing did, and the disk has failed
abbrev FailsGrow : ℕ → State → State → Refusal → Type 0
FailsGrow n s t why = (place : ℕ) × (why ≡ Why.Device place) × (grow_fault s.layout n ≡ None) × (t ≡ record s { down = Some place })

device_fails : (n : ℕ) (s t : State) (why : Refusal) → grow_fault s.layout n ≡ None → IsDeviceIn is_root why → t ≡ record s { down = downs_for why } → FailsGrow n s t why
device_fails n s t (Why.Device place) passes is fails = (place, refl, passes, fails)
device_fails n s t why passes is fails = absurd is

pub grow_kept : (n : ℕ) (s t : State) → s.down ≡ None → (why : Refusal) → KeepsRefused (grow_steps s n) why s t → IsKept n s t why ⊎ FailsGrow n s t why
grow_kept n s t up why (inl here) = let not_down : None ≡ Some why = subst (λ (o : Option ℕ). option_map Why.Down o ≡ Some why) up here.0 in absurd (cc not_down)
grow_kept n s t up why (inr (passes, inl here)) = inl (here.0, here.1)
grow_kept n s t up why (inr (passes, inr (fits, roots))) = inr (device_fails n s t why fits roots.0 roots.1)

-- so it is told
pub grow_refused : (P : Result Reply Fault → Type 0) (n : ℕ) (s t : State) (why : Refusal) (r : Result Reply Fault) → r ≡ ended_by why → IsKept n s t why ⊎ FailsGrow n s t why
    → (IsKept n s t why → P (Ok (Said.Refused why))) → ((place : ℕ) → why ≡ Why.Device place → (grow_fault s.layout n ≡ None) × (t ≡ record s { down = Some place }) → P (Err (Ends.Device place))) → P r
grow_refused P n s t why r is (inl kept) refused device =
    subst P (sym is) (refused_as s.layout n (λ w. P (Ok (Said.Refused w)) → P (ended_by w)) why kept.0 (λ p. p) (λ most past p. p) (refused kept))
grow_refused P n s t why r is (inr fails) refused device = subst P (sym (is ∙ ap ended_by fails.1)) (device fails.0 fails.1 (fails.2, fails.3))

-- by a test, before anything is done
pub grow_idle : (n : ℕ) (s : State) (why : Refusal) → s.down ≡ None → grow_fault s.layout n ≡ Some why → IsTrue (is_idle (grow_steps s n))
grow_idle n s why up is =
    subst (λ (o : Option Refusal). IsTrue (is_idle (Test (option_map Why.Down s.down) ∷ Test o ∷ Roots ∷ []))) (sym is)
    (subst (λ (o : Option ℕ). IsTrue (is_idle (Test (option_map Why.Down o) ∷ Test (Some why) ∷ Roots ∷ []))) (sym up) refl)

-- ---- what is said of it

pub may_refuse : (l : Layout) (n : ℕ) (why : Refusal) → grow_fault l n ≡ Some why → RefusesGrowth n why
may_refuse l n why is = refused_as l n (RefusesGrowth n) why is refl (λ most past. past)

pub ends_refused : (n : ℕ) (s t : State) (answer : Reply) → is_grown answer ≡ false → EndsGrown n s t (Ok answer) → (why : Refusal) × (answer ≡ Said.Refused why) × IsKept n s t why
ends_refused n s t (Said.Grown m free) not_so ends = absurd (cc not_so)
ends_refused n s t (Said.Refused why) not_so ends = (why, refl, ends)
ends_refused n s t answer not_so ends = absurd ends

pub ends_grown : (n : ℕ) (s t : State) (answer : Reply) → is_grown answer ≡ true → EndsGrown n s t (Ok answer) → (free : ℕ) × (answer ≡ Said.Grown n free) × GrowsTo n free s t
ends_grown n s t (Said.Grown m free) is ends = (free, ap (λ (x : ℕ). Said.Grown x free) ends.0, ends.1)
ends_grown n s t answer is ends = absurd (cc is)

-- ---- how many are free

more_total : (from to : ℕ) (runs : List Run) → total (with_more from to runs) ≡ total runs + (to - from)
more_total from to runs =
    let long = length-append (sectors_of runs) (range_with_len from (to - from)) in
    let some = length_of_sectors runs in
    let more = length-range_with_len from (to - from) in
    total_of_runs (sectors_of runs ++ range_with_len from (to - from)) ∙ (let sum : length (sectors_of runs ++ range_with_len from (to - from)) ≡ total runs + (to - from) = omega (arith, long, some, more) in sum)

-- as many as were said before it
pub free_told : (n free : ℕ) (s t : State) → GrowsTo n free s t → (said : ℕ) → said ≡ min (total s.free + (n - s.layout.sectors)) (2 ^ 32 - 1) → said ≡ free
free_told n free s t x said is =
    let all : free ≡ total s.free + (n - s.layout.sectors) = x.counted ∙ ap (λ (y : State). total y.free) x.state ∙ more_total s.layout.sectors n s.free in
    let few = x.few in
    omega (arith, all, few, is)

-- ---- how it ends over a volume that stands

module _ {S : Type 0} (state : S → State) (has : S → Mounted → List Placed → Type 0) (n : ℕ) (v w : S) (k : Known) (before now : Moment) (stood : Stands state has v k before) where
  answered_by : (o : Option Refusal) → grow_fault (state v).layout n ≡ o → grown_unless (grow_fault (volume_of k).layout n) n (volume_of k) ≡ grown_unless o n (volume_of k)
  answered_by o is = ap (λ (x : Option Refusal). grown_unless x n (volume_of k)) (ap (λ (l : Layout). grow_fault l n) stood.fits.layout ∙ is)

  pub grown_does : (free : ℕ) → GrowsTo n free (state v) (state w) → Stands state has w (grown_known n k) now → Does state has (Word.Grow n) v w k before now (Ok (Said.Grown n free))
  grown_does free x stands =
      let counts : free_count (grown n (volume_of k)) ≡ free = ap (λ (runs : List Run). total runs) stands.fits.free ∙ sym x.counted in (
        grown_known n k,
        record { met = met_none; is = answered_by None x.passes ∙ ap (λ (f : ℕ). (Said.Grown n f, grown n (volume_of k))) counts; opened = refl; windows = refl; changes = sym (append-nil k.changes); find = tt; unworn = λ may. cc may },
        stands,
        tt,
      )

  pub kept_does : (why : Refusal) → grow_fault (state v).layout n ≡ Some why → Stands state has w k now → Does state has (Word.Grow n) v w k before now (Ok (Said.Refused why))
  kept_does why is stands = (
    k,
    record { met = met_none; is = answered_by (Some why) is; opened = refl; windows = refl; changes = sym (append-nil k.changes); find = tt; unworn = λ may. cc may },
    stands,
    tt,
  )

  pub stands_kept : (l : Layout) (why : Refusal) → grow_fault l n ≡ Some why → (let r : Result ℕ Refusal = Err why in EndsGrow state has n k w now r) → Stands state has w k now
  stands_kept l why is = refused_as l n (λ x. (let r : Result ℕ Refusal = Err x in EndsGrow state has n k w now r) → Stands state has w k now) why is (λ ends. ends) (λ most past ends. ends)

-- ---- one that is done, by itself

module _ {S D : Type 0} (state : S → State) (has : S → Mounted → List Placed → Type 0) (M : Ghosts D)
    (wears : (s : S) (k : Known) (old new : Moment) → AreShort old.windows → Ages old new → Stands state has s k old → Stands state has s k new)
    (short : (m : D) → M.honest m → AreShort (M.now m).windows)
    (timed : (m : D) → M.honest m → IsTimed M m)
    (n free : ℕ) (v w : S) (a m b : D) (k : Known) (none : k.opened ≡ none_open) (forced : (volume_of k).unforced ≡ 0) (stood : Stands state has v k (M.now a)) (on : OnDisk M k (forced_of k) a)
    (disk : Wrote M (StaysBy (with_sectors n) state has v) a m) (honest : M.honest m) (since : Since M m b)
    (x : GrowsTo n free (state v) (state w)) (does : Does state has (Word.Grow n) v w k (M.now a) (M.now m) (Ok (Said.Grown n free))) where
  volume_is : grown n (volume_of k) ≡ volume_of does.0
  volume_is = ap (λ (o : Outcome). o.1) (sym (answered_by state has n v w k (M.now a) (M.now m) stood None x.passes) ∙ does.1.is)

  -- by either layout the same table is told
  alike : (j : Image) → IsWorn (weak_of k.windows) (M.now m).image j → told (volume_of does.0).layout j ≡ told (volume_of k).layout j
  alike j worn = ap (λ (y : Volume). told y.layout j) (sym volume_is) ∙ told_sized (volume_of k).layout n j

  pub grown_alone : (text : List ℕ) → text ≡ reply_alone (Said.Grown n free) → M.honest b → LeavesOnly M.moment M.left_since m b (UttersBehind true text (M.now m)) → (r : Result ℕ Halt) → (r ≡ Err (Stopped Ends.Memory) → b ≡ m) → IfOk r (λ status. status ≡ 0)
      → OnOk (unit_of r) (SaysAll text (M.now m) (M.now b)) → OnOk (unit_of r) ((M.now m).time ≤ (M.now b).synced) → IfErr (unit_of r) (λ end. Unsaid (M.now m) (M.now b) end) → IsAlone M (Word.Grow n) k a b r
  grown_alone text is honest_b run r undone gives all synced unsaid =
      relaid_alone state has M v a m k forced stood (with_sectors n) disk honest wears short timed (Word.Grow n) (λ y. refl) (Said.Grown n free) w b none on since does (ap (λ (y : Volume). y.layout) volume_is) (ap (λ (y : Volume). y.unforced) (sym volume_is) ∙ forced) (ap telling_of volume_is) alike
      text is honest_b run r undone gives all synced unsaid

-- ---- one that failed

pub grow_failed : {S D : Type 0} (state : S → State) (has : S → Mounted → List Placed → Type 0) (M : Ghosts D) → ((s : S) (k : Known) (old new : Moment) → AreShort old.windows → Ages old new → Stands state has s k old → Stands state has s k new) → ((m : D) → M.honest m → AreShort (M.now m).windows) → ((m : D) → M.honest m → IsTimed M m)
    → (n : ℕ) (v w : S) (a m : D) (k : Known) → k.opened ≡ none_open → Stands state has v k (M.now a) → OnDisk M k (forced_of k) a → Wrote M (StaysBy (with_sectors n) state has v) a m → M.honest m → (fault : Fault) → EndsGrown n (state v) (state w) (Err fault) → IsAlone M (Word.Grow n) k a m (Err (Stopped fault))
grow_failed state has M wears short timed n v w a m k none stood on disk honest (Ends.Device place) ends =
    relaid_undone state has M wears short timed (Word.Grow n) (λ x. refl) refl v w a m k none stood on (with_sectors n) disk honest tt (Said.Grown n (free_count (grown n (volume_of k)))) (answered_by state has n v w k (M.now a) (M.now m) stood None ends.0) (Ends.Device place) tt
grow_failed state has M wears short timed n v w a m k none stood on disk honest fault ends = absurd ends

-- what it says and writes, whatever the image
pub grown_answers : (n free : ℕ) (s t : State) (a m b : Moment) → m.windows ≡ a.windows → m.said ≡ a.said → MayAnswer (Word.Grow n) s t a m (Ok (Said.Grown n free)) → Ages m b → (r : Result ℕ Halt) → IfOk r (λ status. status ≡ 0) → SaysBy (reply_alone (Said.Grown n free)) m b (unit_of r)
    → (unit_of r ≡ Err (Stopped Ends.WornOut) → ⊥) → ((why : Fault) → unit_of r ≡ Err (Stopped why) → IsToldOn AreOfPage s.layout b.image why) → AnswersAlone (Word.Grow n) s a b r
grown_answers n free s t a m b windows same answers ages r gives says unworn told =
    let still : Touches (may_close s) m m = record { size = refl; others = λ x out. inl refl } in
    alone_closed (Word.Grow n) s s a m windows same b (Said.Grown n free) r refl tt (record { replies = answers.replies; rest = answers.rest; still = refl; worn = λ is. absurd (cc is); numbers = goes_none 1 s s refl; told = tt }) gives
    (closed_by s (reply_alone (Said.Grown n free)) m m b (unit_of r) refl refl still ages says unworn told)
