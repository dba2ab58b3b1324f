-- What a noted call is to the layers above.
use Rattle.std.proofs.Common.{◌≡◌, ◌⊎◌, inl, inr, ℕ, ◌+◌, ◌≤◌, min, Bool, true, false, List, [], ◌∷◌, ◌++◌, length, take, drop, Vec, refl, sym, ◌∙◌, ap, subst, arith, append_assoc}
use Rattle.std.specs.Prelude.{if◌then◌else◌, IsTrue, Result, Ok, Err, OnOk, OnErr, is_err}
use Rattle.std.proofs.lemmas.List.{append-nil, take_all, take_at}
use Rattle.sector_disk.specs.declared.sector.Sector.{Sector}
use Rattle.std.specs.declared.alloc.Global.{Global}
use Rattle.sector_disk.specs.declared.machine.Failed.{Failed}
use Rattle.sector_disk.proofs.Holding.{utters_none}
use Rattle.memory_machine.specs.declared.past.Step.{Step}
use Rattle.memory_machine.specs.declared.past.Work.{Work}
use Rattle.memory_machine.specs.declared.past.Work.TheVariants.{Saying, Syncing, Quiet}
use Rattle.memory_machine.specs.declared.memory.MemoryMachine.{MemoryMachine}
use Rattle.sector_disk.specs.Image.{sector_at, IsWorn, open_damage, weak}
use Rattle.sector_disk.specs.Machine.{DiskCause, Moment, Asked, Elapses, Reaches, Wears, Utters, Says, Before, IsSynced}
use Rattle.memory_machine.specs.Past.{undone, before, During, LeftSince, attaches_in, attach_of, written_in, written_by, syncs_in, synced_by}
use Rattle.memory_machine.specs.State.{one_more}
use Rattle.memory_machine.specs.Memory.{told_of, memory_now, memory_report, memory_ledger, memory_honest, IsHonest, Notes, Refuses, Fails, Passes, Reached, Spoken, Flushed}
use Rattle.sector_disk.proofs.Wear.{worn_refl}
use Rattle.memory_machine.proofs.Steps.{IsHurt, elapses_push, elapses_same, reaches_push, noted_step, noted_calls, noted_syncs, noted_before, flag_of, noted_worn, noted_honest, noted_elsewhere, noted_size}

attaches_push : (past : List Step) (step : Step) → attaches_in (past ++ step ∷ []) ≡ attaches_in past ++ attach_of step.work
attaches_push [] step = append-nil (attach_of step.work)
attaches_push (first ∷ past) step = ap (λ (l : List Asked). attach_of first.work ++ l) (attaches_push past step) ∙ sym (append_assoc (attach_of first.work) (attaches_in past) (attach_of step.work))

written_push : (past : List Step) (step : Step) → written_in (past ++ step ∷ []) ≡ written_in past + written_by step.work
written_push [] step = omega arith
written_push (first ∷ past) step = omega (arith, written_push past step)

syncs_push : (past : List Step) (step : Step) → syncs_in (past ++ step ∷ []) ≡ syncs_in past + synced_by step.work
syncs_push [] step = omega arith
syncs_push (first ∷ past) step = omega (arith, syncs_push past step)

module _ (settle : Bool) (work : Work) (old new : MemoryMachine) (noted : Notes settle work old new) where
  abbrev step : Step
  step = noted_step settle work old new noted

  pub noted_wears : IsTrue new.honest → Wears (memory_now old) (memory_now new)
  noted_wears honest = record {
    image = noted_worn settle work old new noted honest;
    windows = ap (λ (m : MemoryMachine). (memory_now m).windows) noted.rest;
    said = ap (λ (m : MemoryMachine). m.said.items) noted.rest;
  }

  pub noted_sectors : (memory_report new).sectors ≡ (memory_report old).sectors
  noted_sectors = ap (λ (m : MemoryMachine). told_of m.told (length new.image.items)) noted.rest ∙ ap (told_of old.told) (noted_size settle work old new noted)

  pub noted_ledger : memory_ledger new ≡ record { input = (memory_ledger old).input; attaches = (memory_ledger old).attaches ++ attach_of work; written = (memory_ledger old).written + written_by work; syncs = (memory_ledger old).syncs + synced_by work }
  noted_ledger =
      let input = ap (λ (m : MemoryMachine). drop m.taken m.input.items) noted.rest in
      let attaches = ap attaches_in noted.past ∙ attaches_push old.past.items step in
      let written = ap written_in noted.past ∙ written_push old.past.items step in
      let syncs = ap syncs_in noted.past ∙ syncs_push old.past.items step in
      λ i. record { input = input i; attaches = attaches i; written = written i; syncs = syncs i }

  -- where the call's own work has left the sectors as they were
  module _ (keeps : (l : List Sector) → undone work l ≡ l) (end : Moment) (image : end.image ≡ new.image.items) (said : take (length old.said.items) end.said ≡ old.said.items)
      (time : end.time ≡ length new.past.items) (synced : (memory_now old).synced ≤ end.synced) where
    same_now : undone work end.image ≡ new.image.items
    same_now = keeps end.image ∙ image

    later : end.time ≡ length old.past.items + 1
    later = time ∙ noted_calls settle work old new noted

    kept_before : before step end ≡ memory_now old
    kept_before = noted_before settle work old new noted end
        (ap (λ (l : List Sector). length l) same_now ∙ noted_size settle work old new noted)
        (λ place. subst (λ (l : List Sector). (sector_at l place ≡ sector_at old.image.items place) ⊎ IsHurt place noted.hurts.items) (sym same_now) (noted_elsewhere settle work old new noted place))
        said later synced

    pub kept_time : (during : Moment → Type 0) → ((left : Moment) → During work (memory_now old) left → during left) → during end → Elapses (length old.past.items) (length new.past.items) (LeftSince (memory_now old) old.past.items) (LeftSince end new.past.items) during
    kept_time during all here = elapses_push old.past.items new.past.items step (memory_now old) end noted.past kept_before refl during later all here

    pub kept_reached : Reaches (memory_now old) (LeftSince end new.past.items) (During work (memory_now old))
    kept_reached = reaches_push old.past.items new.past.items step (memory_now old) end noted.past kept_before refl

pub wears_same : (at : Moment) → Wears at at
wears_same at = record { image = worn_refl (open_damage at.windows) at.image; windows = refl; said = refl }

-- a call that is refused
pub refused_passes : (during : Moment → Moment → Type 0) → ((at : Moment) → during at at) → (old new : MemoryMachine) → Refuses old new → Passes during old new
refused_passes during same old new refused = record {
  sectors = ap (λ (m : MemoryMachine). (memory_report m).sectors) refused.rest;
  honest = λ h. sym (ap memory_honest refused.rest) ∙ h;
  may = λ h. subst (during (memory_now old)) (sym now) (same (memory_now old));
  ledger = ledger;
  time = λ h. subst (λ (m : Moment). Elapses (length old.past.items) (length new.past.items) (LeftSince (memory_now old) old.past.items) (LeftSince m new.past.items) (during (memory_now old))) (sym now)
      (elapses_same old.past.items new.past.items (memory_now old) (during (memory_now old)) refused.past);
}
  where
    now : memory_now new ≡ memory_now old
    now = ap memory_now refused.rest ∙ (λ i. record (memory_now old) { time = length (refused.past i); synced = min old.synced (length (refused.past i)) })

    input : drop new.taken new.input.items ≡ drop old.taken old.input.items
    input = ap (λ (m : MemoryMachine). drop m.taken m.input.items) refused.rest

    ledger : memory_ledger new ≡ memory_ledger old
    ledger = λ i. record { input = input i; attaches = attaches_in (refused.past i); written = written_in (refused.past i); syncs = syncs_in (refused.past i) }

-- a call whose own work has left the sectors as they were, and said some bytes
module _ (settle : Bool) (work : Work) (keeps : (l : List Sector) → undone work l ≡ l) (old new end : MemoryMachine) (noted : Notes settle work old new) (said : List ℕ)
    (said_is : end.said.items ≡ old.said.items ++ said) (rest : end ≡ record new { present = end.present; next = end.next; said = end.said; starved = end.starved; named = end.named; synced = end.synced; waiting = end.waiting })
    (syncs : (memory_now old).synced ≤ (memory_now end).synced) where
  image_is : end.image.items ≡ new.image.items
  image_is = ap (λ (m : MemoryMachine). m.image.items) rest

  time_is : length end.past.items ≡ length new.past.items
  time_is = ap (λ (m : MemoryMachine). length m.past.items) rest

  said_before : take (length old.said.items) end.said.items ≡ old.said.items
  said_before = ap (λ (l : List ℕ). take (length old.said.items) l) said_is ∙ take_at old.said.items said (length old.said.items) refl

  pub kept_elapses : (during : Moment → Type 0) → ((left : Moment) → During work (memory_now old) left → during left) → during (memory_now end)
      → Elapses (length old.past.items) (length end.past.items) (LeftSince (memory_now old) old.past.items) (LeftSince (memory_now end) end.past.items) during
  kept_elapses during all here =
      subst (λ (l : List Step). Elapses (length old.past.items) (length l) (LeftSince (memory_now old) old.past.items) (LeftSince (memory_now end) l) during) (sym (ap (λ (m : MemoryMachine). m.past.items) rest))
      (kept_time settle work old new noted keeps (memory_now end) image_is said_before time_is syncs during all here)

  pub kept_reaches : Reaches (memory_now old) (LeftSince (memory_now end) end.past.items) (During work (memory_now old))
  kept_reaches =
      subst (λ (l : List Step). Reaches (memory_now old) (LeftSince (memory_now end) l) (During work (memory_now old))) (sym (ap (λ (m : MemoryMachine). m.past.items) rest))
      (kept_reached settle work old new noted keeps (memory_now end) image_is said_before time_is syncs)

  pub kept_honest : IsHonest end → IsTrue new.honest
  kept_honest h = sym (ap (λ (m : MemoryMachine). m.honest) rest) ∙ flag_of end h

  pub kept_worn : IsHonest end → IsWorn (weak old.present old.next) old.image.items end.image.items
  kept_worn h = subst (λ (l : List Sector). IsWorn (weak old.present old.next) old.image.items l) (sym image_is) (noted_worn settle work old new noted (kept_honest h))

  -- where it was no attach and no write, with the syncs that were done
  pub kept_ledger : (syncs : ℕ) → attach_of work ≡ [] → written_by work ≡ 0 → synced_by work ≡ syncs → memory_ledger end ≡ record (memory_ledger old) { syncs = (memory_ledger old).syncs + syncs }
  kept_ledger more no_attach no_write some =
      let all : memory_ledger end ≡ _ = ap memory_ledger rest ∙ noted_ledger settle work old new noted in
      let attaches : (memory_ledger old).attaches ++ attach_of work ≡ (memory_ledger old).attaches = ap (λ (l : List Asked). (memory_ledger old).attaches ++ l) no_attach ∙ append-nil (memory_ledger old).attaches in
      let written : (memory_ledger old).written + written_by work ≡ (memory_ledger old).written = omega (arith, no_write) in
      all ∙ (λ i. record { input = (memory_ledger old).input; attaches = attaches i; written = written i; syncs = (memory_ledger old).syncs + some i })

  -- nor a sync
  pub same_ledger : attach_of work ≡ [] → written_by work ≡ 0 → synced_by work ≡ 0 → memory_ledger end ≡ memory_ledger old
  same_ledger no_attach no_write no_sync =
      let none : (memory_ledger old).syncs + 0 ≡ (memory_ledger old).syncs = omega arith in
      kept_ledger 0 no_attach no_write no_sync ∙ (λ i. record (memory_ledger old) { syncs = none i })

  pub kept_sectors : (memory_report end).sectors ≡ (memory_report old).sectors
  kept_sectors = ap (λ (m : MemoryMachine). (memory_report m).sectors) rest ∙ noted_sectors settle work old new noted

  pub kept_passes : attach_of work ≡ [] → written_by work ≡ 0 → synced_by work ≡ 0 → (during : Moment → Moment → Type 0) → ((left : Moment) → During work (memory_now old) left → during (memory_now old) left) → (IsHonest end → during (memory_now old) (memory_now end)) → Passes during old end
  kept_passes no_attach no_write no_sync during all here = record {
    sectors = kept_sectors;
    honest = λ h. noted_honest settle work old new noted (kept_honest h);
    may = here;
    ledger = same_ledger no_attach no_write no_sync;
    time = λ h. kept_elapses (during (memory_now old)) all (here h);
  }

noted_said : (settle : Bool) (work : Work) (old new : MemoryMachine) → Notes settle work old new → new.said.items ≡ old.said.items ++ []
noted_said settle work old new noted = ap (λ (m : MemoryMachine). m.said.items) noted.rest ∙ sym (append-nil old.said.items)

module _ (settle : Bool) (old new : MemoryMachine) where
  pub quiet_passes : Notes settle Quiet old new → Passes Wears old new
  quiet_passes noted = kept_passes settle Quiet (λ l. refl) old new new noted [] (noted_said settle Quiet old new noted) refl (noted_syncs settle Quiet old new noted) refl refl refl Wears (λ left now. now) (λ h. noted_wears settle Quiet old new noted (flag_of new h))

  pub quiet_reached : Notes settle Quiet old new → Reached Wears old new
  quiet_reached noted = kept_reaches settle Quiet (λ l. refl) old new new noted [] (noted_said settle Quiet old new noted) refl (noted_syncs settle Quiet old new noted)

  pub quiet_outcome : {T : Type 0} (r : Result T Failed) → OnOk r (Notes settle Quiet old new) → OnErr r (Fails settle Quiet old new) → Passes Wears old new
  quiet_outcome (Ok x) ok err = quiet_passes ok
  quiet_outcome (Err e) ok (inl refused) = refused_passes Wears wears_same old new refused
  quiet_outcome (Err e) ok (inr ends) = quiet_passes ends.noted

  pub reached_outcome : {T : Type 0} (r : Result T Failed) → OnOk r (Notes settle Quiet old new) → OnOk r (Reached Wears old new)
  reached_outcome (Ok x) ok = quiet_reached ok
  reached_outcome (Err e) ok = tt

  -- a sync behind the call
  pub syncs_to : (sync : ℕ) → Notes settle Quiet old new → sync ≡ length new.past.items → (memory_now old).synced ≤ min sync (length new.past.items)
  syncs_to sync noted now = omega (arith, now, noted_calls settle Quiet old new noted)

  -- the windows change, or not
  pub named_time : (end : MemoryMachine) (noted : Notes settle Quiet old new) → end ≡ record new { present = end.present; next = end.next; said = end.said; starved = end.starved; named = end.named; synced = end.synced; waiting = end.waiting } → end.said.items ≡ old.said.items
      → (memory_now old).synced ≤ (memory_now end).synced
      → Elapses (length old.past.items) (length end.past.items) (LeftSince (memory_now old) old.past.items) (LeftSince (memory_now end) end.past.items) (Before (memory_now old) (memory_now end))
  named_time end noted rest said syncs =
      kept_elapses settle Quiet (λ l. refl) old new end noted [] (said ∙ sym (append-nil old.said.items)) rest syncs (Before (memory_now old) (memory_now end)) (λ left now. inl now) (inr refl)

  pub named_reached : (end : MemoryMachine) (noted : Notes settle Quiet old new) → end ≡ record new { present = end.present; next = end.next; said = end.said; starved = end.starved; named = end.named; synced = end.synced; waiting = end.waiting } → end.said.items ≡ old.said.items
      → (memory_now old).synced ≤ (memory_now end).synced → Reached Wears old end
  named_reached end noted rest said syncs = kept_reaches settle Quiet (λ l. refl) old new end noted [] (said ∙ sym (append-nil old.said.items)) rest syncs

-- a sync that is noted, done or not
module _ (done : Bool) (old new end : MemoryMachine) (noted : Notes false (Syncing done) old new) (rest : end ≡ record new { synced = end.synced; waiting = end.waiting }) (syncs : (memory_now old).synced ≤ (memory_now end).synced) where
  said_as : end.said.items ≡ old.said.items ++ []
  said_as = ap (λ (m : MemoryMachine). m.said.items) rest ∙ noted_said false (Syncing done) old new noted

  all : end ≡ record new { present = end.present; next = end.next; said = end.said; starved = end.starved; named = end.named; synced = end.synced; waiting = end.waiting }
  all = subst (λ (m : MemoryMachine). m ≡ record new { present = m.present; next = m.next; said = m.said; starved = m.starved; named = m.named; synced = m.synced; waiting = m.waiting }) (sym rest) refl

  worn_by : IsHonest end → Wears (memory_now old) (memory_now end)
  worn_by h =
      let worn = noted_wears false (Syncing done) old new noted (kept_honest false (Syncing done) (λ l. refl) old new end noted [] said_as all syncs h) in
      record {
        image = kept_worn false (Syncing done) (λ l. refl) old new end noted [] said_as all syncs h;
        windows = ap (λ (m : MemoryMachine). (memory_now m).windows) rest ∙ worn.windows;
        said = ap (λ (m : MemoryMachine). m.said.items) rest ∙ worn.said;
      }

  pub noted_flushed : (IsTrue done → IsSynced (memory_now end)) → Flushed done old end
  noted_flushed synced = record {
    sectors = kept_sectors false (Syncing done) (λ l. refl) old new end noted [] said_as all syncs;
    honest = λ h. noted_honest false (Syncing done) old new noted (kept_honest false (Syncing done) (λ l. refl) old new end noted [] said_as all syncs h);
    worn = worn_by;
    time = λ h. kept_elapses false (Syncing done) (λ l. refl) old new end noted [] said_as all syncs (Wears (memory_now old)) (λ left now. now) (worn_by h);
    counted = λ f. kept_ledger false (Syncing done) (λ l. refl) old new end noted [] said_as all syncs 1 refl refl (ap (λ (b : Bool). if b then 1 else 0) f);
    uncounted = λ f. same_ledger false (Syncing done) (λ l. refl) old new end noted [] said_as all syncs refl refl (ap (λ (b : Bool). if b then 1 else 0) f);
    synced = synced;
    reached = λ f. kept_reaches false (Syncing done) (λ l. refl) old new end noted [] said_as all syncs;
  }

pub refused_flushed : (old new : MemoryMachine) → Refuses old new → Flushed false old new
refused_flushed old new refused =
    let passes = refused_passes Wears wears_same old new refused in
    record {
      sectors = passes.sectors;
      honest = passes.honest;
      worn = passes.may;
      time = passes.time;
      counted = λ f. absurd (cc f);
      uncounted = λ f. passes.ledger;
      synced = λ f. absurd (cc f);
      reached = λ f. absurd (cc f);
    }

pub noted_of : {T E : Type 0} {P : Type 0} (r : Result T E) → false ≡ is_err r → OnOk r P → P
noted_of (Ok x) ok noted = noted
noted_of (Err e) ok noted = absurd (cc ok)

pub refused_spoken : (bytes : List ℕ) (old new : MemoryMachine) → Refuses old new → Spoken bytes false old new
refused_spoken bytes old new refused = record { passes = refused_passes (Utters bytes) (utters_none bytes) old new refused; said = λ f. absurd (cc f); reached = λ f. absurd (cc f) }

module _ (old new end : MemoryMachine) (copy : Vec ℕ Global) (noted : Notes false (Saying copy) old new) (rest : end ≡ record new { present = end.present; next = end.next; said = end.said; starved = end.starved; named = end.named; synced = end.synced; waiting = end.waiting })
    (syncs : (memory_now old).synced ≤ (memory_now end).synced) (present : end.present ≡ old.present) (next : end.next ≡ old.next) where
  windows_are : (memory_now end).windows ≡ (memory_now old).windows
  windows_are = λ i. record { present = present i; next = next i }

  spoken_passes : (heard : ℕ) → end.said.items ≡ old.said.items ++ take heard copy.items → Passes (Utters copy.items) old end
  spoken_passes heard said =
      kept_passes false (Saying copy) (λ l. refl) old new end noted (take heard copy.items) said rest syncs refl refl refl (Utters copy.items) (λ left now. now) (λ h. record {
        image = kept_worn false (Saying copy) (λ l. refl) old new end noted (take heard copy.items) said rest syncs h;
        windows = windows_are;
        heard = heard;
        said = said;
      })

  pub spoken_none : end.said.items ≡ old.said.items → Spoken copy.items false old end
  spoken_none said = record { passes = spoken_passes 0 (said ∙ sym (append-nil old.said.items)); said = λ f. absurd (cc f); reached = λ f. absurd (cc f) }

  pub spoken_all : end.said.items ≡ old.said.items ++ copy.items → Spoken copy.items true old end
  spoken_all said =
      let all : end.said.items ≡ old.said.items ++ take (length copy.items) copy.items = said ∙ ap (λ (l : List ℕ). old.said.items ++ l) (sym (take_all (length copy.items) copy.items (omega arith))) in
      record {
        passes = spoken_passes (length copy.items) all;
        said = λ f h. record {
          image = kept_worn false (Saying copy) (λ l. refl) old new end noted copy.items said rest syncs h;
          windows = windows_are;
          said = said;
        };
        reached = λ f. kept_reaches false (Saying copy) (λ l. refl) old new end noted copy.items said rest syncs;
      }

-- with room made for the bytes before the call
pub spoken_from : (bytes : List ℕ) (finished : Bool) (old : MemoryMachine) (said : Vec ℕ Global) (new : MemoryMachine) → said.items ≡ old.said.items → Spoken bytes finished (record old { said = said }) new → Spoken bytes finished old new
spoken_from bytes finished old said new same spoken =
    let now : memory_now (record old { said = said }) ≡ memory_now old = λ i. record (memory_now old) { said = same i } in
    record {
      passes = record {
        sectors = spoken.passes.sectors;
        honest = spoken.passes.honest;
        may = λ h. subst (λ (m : Moment). Utters bytes m (memory_now new)) now (spoken.passes.may h);
        ledger = spoken.passes.ledger;
        time = λ h. subst (λ (m : Moment). Elapses (length old.past.items) (length new.past.items) (LeftSince m old.past.items) (LeftSince (memory_now new) new.past.items) (Utters bytes m)) now (spoken.passes.time h);
      };
      said = λ f h. subst (λ (m : Moment). Says bytes m (memory_now new)) now (spoken.said f h);
      reached = λ f. subst (λ (m : Moment). Reaches m (LeftSince (memory_now new) new.past.items) (Utters bytes m)) now (spoken.reached f);
    }

pub spoken_fails : (old new : MemoryMachine) (copy : Vec ℕ Global) → Fails false (Saying copy) old new → Spoken copy.items false old new
spoken_fails old new copy (inl refused) = refused_spoken copy.items old new refused
spoken_fails old new copy (inr ends) =
    let noted = ends.noted in
    spoken_none old new new copy noted refl (noted_syncs false (Saying copy) old new noted) (ap (λ (m : MemoryMachine). m.present) noted.rest) (ap (λ (m : MemoryMachine). m.next) noted.rest) (ap (λ (m : MemoryMachine). m.said.items) noted.rest)

pub failed_of : {T E : Type 0} {P : Type 0} (r : Result T E) → true ≡ is_err r → OnErr r P → P
failed_of (Ok x) err failed = absurd (cc err)
failed_of (Err e) err failed = failed

-- the faults that a machine has counted
abbrev pub counts_of : MemoryMachine → ℕ × ℕ × ℕ
counts_of m = (m.disk_faults, m.input_faults, m.output_faults)

-- a fault of the disk that is counted and told, behind a call that counted none
pub fault_told : {T : Type 0} (old mid new : MemoryMachine) (place : ℕ) (failed : Failed) → counts_of mid ≡ counts_of old →
    failed.place ≡ place → mid.disk_faults ≤ new.disk_faults → new ≡ record mid { fault_place = place; disk_faults = one_more mid.disk_faults } →
    DiskCause {T = T} (memory_report old) (memory_report new) place (Err failed)
fault_told old mid new place failed same names later told =
    let count = ap (λ (c : ℕ × ℕ × ℕ). c.0) same in
    let counted : new.disk_faults ≡ one_more mid.disk_faults = ap (λ (m : MemoryMachine). m.disk_faults) told in
    record {
      disk = record { later = subst (λ n. n ≤ new.disk_faults) count later; stays = tt; failed = omega (arith, count, counted) };
      names = names;
      told = ap (λ (m : MemoryMachine). m.fault_place) told;
      untold = tt;
      input = ap (λ (m : MemoryMachine). m.input_faults) told ∙ ap (λ (c : ℕ × ℕ × ℕ). c.1) same;
      output = ap (λ (m : MemoryMachine). m.output_faults) told ∙ ap (λ (c : ℕ × ℕ × ℕ). c.2) same;
    }
