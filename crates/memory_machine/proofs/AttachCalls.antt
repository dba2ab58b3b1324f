-- What a noted attach is to the layers above.
use Rattle.std.proofs.Common.{◌≡◌, ◌⊎◌, inl, inr, ⊎_elim, ℕ, ◌+◌, ◌-◌, ◌^◌, ◌<◌, ◌≤◌, min, false, List, [], ◌∷◌, ◌++◌, length, take, replicate, Vec, None, refl, sym, ◌∙◌, ap, subst, arith}
use Rattle.std.specs.Prelude.{IsTrue}
use Rattle.std.specs.declared.alloc.Global.{Global}
use Rattle.std.proofs.lemmas.List.{take_all, length-replicate}
use Rattle.sector_disk.specs.declared.sector.Sector.{Sector}
use Rattle.sector_disk.specs.declared.sector.Sector.TheVariants.{Damaged}
use Rattle.sector_disk.specs.declared.machine.Attach.{Attach}
use Rattle.sector_disk.specs.declared.machine.Attach.TheVariants.{Old, New}
use Rattle.memory_machine.specs.declared.past.Step.{Step}
use Rattle.memory_machine.specs.declared.past.Work.{Work}
use Rattle.memory_machine.specs.declared.past.Work.TheVariants.{Attaching, Writing, Extending, Saying, Syncing, Quiet}
use Rattle.memory_machine.specs.declared.memory.MemoryMachine.{MemoryMachine}
use Rattle.sector_disk.specs.Image.{sector_at, IsWorn, weak}
use Rattle.sector_disk.specs.Machine.{Elapses, Wears, Before, Attaches, Finds, Makes, IsSynced, asked_for}
use Rattle.memory_machine.specs.Past.{undone, before, LeftSince}
use Rattle.memory_machine.specs.Memory.{memory_now, memory_ledger, IsHonest, Notes, Refuses, Fails, Reached, Opened, NotOpened, IsAttaching, IsKept}
use Rattle.memory_machine.proofs.Steps.{IsHurt, elapses_push, reaches_push, noted_step, noted_calls, noted_syncs, noted_before, flag_of, noted_worn, noted_honest, noted_elsewhere, noted_size}
use Rattle.memory_machine.proofs.Calls.{wears_same, refused_passes, noted_ledger, noted_sectors, noted_wears}

pub refused_opening : (path : List ℕ) (how : Attach) (old new : MemoryMachine) → Refuses old new → NotOpened path how old new
refused_opening path how old new refused =
    let passes = refused_passes Wears wears_same old new refused in
    record {
      sectors = passes.sectors;
      honest = passes.honest;
      worn = passes.may;
      time = λ h. record { later = (passes.time h).later; nothing_else = λ t c le since. ⊎_elim (λ past. inl past) (λ now. inr (inl now.0, now.1)) ((passes.time h).nothing_else t c le since); keeps = (passes.time h).keeps };
      asked = inl passes.ledger;
    }

-- From an image the call's work goes back to the one before it.
pub record GoesBack (work : Work) (old new : MemoryMachine) (noted : Notes false work old new) (image : List Sector) : Type 0 where
  pub size : length (undone work image) ≡ length old.image.items
  pub each : (place : ℕ) → (sector_at (undone work image) place ≡ sector_at old.image.items place) ⊎ IsHurt place noted.hurts.items

-- from the one that was found, or where a new one is made from any
back_found : (path : Vec ℕ Global) (how : Attach) (kept : Vec Sector Global) (old new : MemoryMachine) (noted : Notes false (Attaching path how kept) old new) → IsKept how kept.items old.image.items → GoesBack (Attaching path how kept) old new noted new.image.items
back_found path Old kept old new noted is = record { size = noted_size false (Attaching path Old kept) old new noted; each = noted_elsewhere false (Attaching path Old kept) old new noted }
back_found path (New count) kept old new noted is = record { size = ap (λ (l : List Sector). length l) is; each = λ place. inl (ap (λ (l : List Sector). sector_at l place) is) }

back_made : (path : Vec ℕ Global) (count : ℕ) (how : Attach) (kept : Vec Sector Global) (old new : MemoryMachine) (noted : Notes false (Attaching path how kept) old new) (image : List Sector) → how ≡ New count → IsKept how kept.items old.image.items → GoesBack (Attaching path how kept) old new noted image
back_made path count Old kept old new noted image made is = absurd (cc made)
back_made path count (New asked) kept old new noted image made is = record { size = ap (λ (l : List Sector). length l) is; each = λ place. inl (ap (λ (l : List Sector). sector_at l place) is) }

-- `end` has the past of `new`, whose image and windows it may have changed
module _ (path : Vec ℕ Global) (how : Attach) (image : Vec Sector Global) (old new end : MemoryMachine) (noted : Notes false (Attaching path how image) old new) (back : GoesBack (Attaching path how image) old new noted end.image.items)
    (rest : end ≡ record new { image = end.image; present = end.present; next = end.next; told = end.told; synced = end.synced; waiting = end.waiting }) (syncs : (memory_now old).synced ≤ (memory_now end).synced) where
  abbrev work : Work
  work = Attaching path how image

  abbrev step : Step
  step = noted_step false work old new noted

  said_is : end.said.items ≡ old.said.items
  said_is = ap (λ (m : MemoryMachine). m.said.items) rest ∙ ap (λ (m : MemoryMachine). m.said.items) noted.rest

  later : length end.past.items ≡ length old.past.items + 1
  later = ap (λ (m : MemoryMachine). length m.past.items) rest ∙ noted_calls false work old new noted

  was : before step (memory_now end) ≡ memory_now old
  was =
      noted_before false work old new noted (memory_now end) back.size back.each
      (ap (λ (l : List ℕ). take (length old.said.items) l) said_is ∙ take_all (length old.said.items) old.said.items (omega arith))
      later syncs

  past_is : end.past.items ≡ old.past.items ++ step ∷ []
  past_is = ap (λ (m : MemoryMachine). m.past.items) rest ∙ noted.past

  new_honest : IsHonest end → IsTrue new.honest
  new_honest h = sym (ap (λ (m : MemoryMachine). m.honest) rest) ∙ flag_of end h

  ledger_is : memory_ledger end ≡ asked_for (memory_ledger old) path.items how
  ledger_is =
      let none : (memory_ledger old).written + 0 ≡ (memory_ledger old).written = omega arith in
      let no_sync : (memory_ledger old).syncs + 0 ≡ (memory_ledger old).syncs = omega arith in
      ap memory_ledger rest ∙ noted_ledger false work old new noted
      ∙ (λ i. record { input = (memory_ledger old).input; attaches = (memory_ledger old).attaches ++ record { path = path.items; how = how } ∷ []; written = none i; syncs = no_sync i })

  time_is : Elapses (length old.past.items) (length end.past.items) (LeftSince (memory_now old) old.past.items) (LeftSince (memory_now end) end.past.items) (Before (memory_now old) (memory_now end))
  time_is = elapses_push old.past.items end.past.items step (memory_now old) (memory_now end) past_is was refl (Before (memory_now old) (memory_now end)) later (λ left now. inl now) (inr refl)

  reached_is : Reached Wears old end
  reached_is = reaches_push old.past.items end.past.items step (memory_now old) (memory_now end) past_is was refl

  pub noted_opened : (count : ℕ) → end.told ≡ count → IsSynced (memory_now end) → count ≡ min (length end.image.items) (2 ^ 32 - 1) → (IsHonest end → Attaches how (memory_now old) (memory_now end)) → Opened path.items how count old end
  noted_opened count told synced size attaches = record {
    sectors = omega (arith, told, size);
    honest = λ h. noted_honest false work old new noted (new_honest h);
    attached = attaches;
    synced = synced;
    size = size;
    time = λ h. time_is;
    reached = reached_is;
    asked = ledger_is;
  }

  pub found : end.image.items ≡ new.image.items → end.present ≡ new.present → end.next ≡ None → IsHonest end → Finds (memory_now old) (memory_now end)
  found same present next h = record {
    image = subst (λ (l : List Sector). IsWorn (weak old.present old.next) old.image.items l) (sym same) (noted_worn false work old new noted (new_honest h));
    windows = λ i. record { present = (present ∙ ap (λ (m : MemoryMachine). m.present) noted.rest) i; next = next i };
    said = said_is;
  }

  pub made : (count : ℕ) → end.image.items ≡ replicate count Damaged → end.present ≡ None → end.next ≡ None → Makes count (memory_now old) (memory_now end)
  made count image_now present next = record { image = image_now; windows = λ i. record { present = present i; next = next i }; said = said_is }

module _ (path : Vec ℕ Global) (how : Attach) (image : Vec Sector Global) (old new : MemoryMachine) (noted : Notes false (Attaching path how image) old new) (is : IsKept how image.items old.image.items) where
  unmoved : GoesBack (Attaching path how image) old new noted new.image.items
  unmoved = back_found path how image old new noted is

  stay : (memory_now old).synced ≤ (memory_now new).synced
  stay = noted_syncs false (Attaching path how image) old new noted

  pub noted_unopened : NotOpened path.items how old new
  noted_unopened = record {
    sectors = noted_sectors false (Attaching path how image) old new noted;
    honest = λ h. noted_honest false (Attaching path how image) old new noted (flag_of new h);
    worn = λ h. noted_wears false (Attaching path how image) old new noted (flag_of new h);
    time = λ h. time_is path how image old new new noted unmoved refl stay;
    asked = inr (ledger_is path how image old new new noted unmoved refl stay);
  }

-- by the work that was made for the call
pub opening_fails : (work : Work) (text : List ℕ) (how : Attach) (old new : MemoryMachine) → IsAttaching old.image.items text how work → Fails false work old new → NotOpened text how old new
opening_fails _ text how old new is (inl refused) = refused_opening text how old new refused
opening_fails (Attaching path asked image) text how old new is (inr ends) =
    subst (λ (b : List ℕ). NotOpened b how old new) is.0 (subst (λ (a : Attach). NotOpened path.items a old new) is.1 (noted_unopened path asked image old new ends.noted is.2))
opening_fails (Writing first bytes olds done) text how old new is (inr noted) = absurd is
opening_fails (Extending had limit) text how old new is (inr noted) = absurd is
opening_fails (Saying bytes) text how old new is (inr noted) = absurd is
opening_fails (Syncing done) text how old new is (inr noted) = absurd is
opening_fails Quiet text how old new is (inr noted) = absurd is

pub opened_old : (work : Work) (text : List ℕ) (count sync : ℕ) (old new : MemoryMachine) → sync ≡ length new.past.items → IsAttaching old.image.items text Old work → Notes false work old new → count ≡ min (length new.image.items) (2 ^ 32 - 1)
    → Opened text Old count old (record new { next = None; told = count; synced = sync; waiting = None })
opened_old (Attaching path asked image) text count sync old new now is noted size =
    let end : MemoryMachine = record new { next = None; told = count; synced = sync; waiting = None } in
    let syncs : (memory_now old).synced ≤ (memory_now end).synced = omega (arith, now, noted_calls false (Attaching path asked image) old new noted) in
    let back = back_found path asked image old new noted is.2 in
    let attaches = λ (h : IsHonest end). found path asked image old new end noted back refl syncs refl refl refl h in
    let opened = noted_opened path asked image old new end noted back refl syncs count refl (omega (arith, now)) size (λ h. subst (λ (a : Attach). Attaches a (memory_now old) (memory_now end)) (sym is.1) (attaches h)) in
    subst (λ (b : List ℕ). Opened b Old count old end) is.0 (subst (λ (a : Attach). Opened path.items a count old end) is.1 opened)
opened_old (Writing first bytes olds done) text count sync old new now is noted size = absurd is
opened_old (Extending had limit) text count sync old new now is noted size = absurd is
opened_old (Saying bytes) text count sync old new now is noted size = absurd is
opened_old (Syncing done) text count sync old new now is noted size = absurd is
opened_old Quiet text count sync old new now is noted size = absurd is

pub opened_new : (work : Work) (text : List ℕ) (count sync : ℕ) (fresh : Vec Sector Global) (old new : MemoryMachine) → sync ≡ length new.past.items → IsAttaching old.image.items text (New count) work → fresh.items ≡ replicate count Damaged → Notes false work old new → count < 2 ^ 32
    → Opened text (New count) count old (record new { next = None; present = None; told = count; image = fresh; synced = sync; waiting = None })
opened_new (Attaching path asked image) text count sync fresh old new now is is_fresh noted small =
    let end : MemoryMachine = record new { next = None; present = None; told = count; image = fresh; synced = sync; waiting = None } in
    let size : count ≡ min (length fresh.items) (2 ^ 32 - 1) = omega (arith, ap (λ (l : List Sector). length l) is_fresh, length-replicate count Damaged, small) in
    let syncs : (memory_now old).synced ≤ (memory_now end).synced = omega (arith, now, noted_calls false (Attaching path asked image) old new noted) in
    let back = back_made path count asked image old new noted fresh.items is.1 is.2 in
    let attaches = made path asked image old new end noted back refl syncs count is_fresh refl refl in
    let opened = noted_opened path asked image old new end noted back refl syncs count refl (omega (arith, now)) size (λ h. subst (λ (a : Attach). Attaches a (memory_now old) (memory_now end)) (sym is.1) attaches) in
    subst (λ (b : List ℕ). Opened b (New count) count old end) is.0 (subst (λ (a : Attach). Opened path.items a count old end) is.1 opened)
opened_new (Writing first bytes olds done) text count sync fresh old new now is is_fresh noted small = absurd is
opened_new (Extending had limit) text count sync fresh old new now is is_fresh noted small = absurd is
opened_new (Saying bytes) text count sync fresh old new now is is_fresh noted small = absurd is
opened_new (Syncing done) text count sync fresh old new now is is_fresh noted small = absurd is
opened_new Quiet text count sync fresh old new now is is_fresh noted small = absurd is
