-- What a noted write is to the layers above.
use Rattle.std.proofs.Common.{◌≡◌, ◌⊎◌, inl, inr, ⊎_elim, ℕ, ◌+◌, ◌-◌, ◌/◌, ◌<◌, ◌≤◌, Bool, false, List, [], ◌∷◌, ◌++◌, length, take, drop, Vec, refl, sym, ◌∙◌, ap, subst, arith}
use Rattle.std.specs.Prelude.{IsTrue, if◌then◌else◌}
use Rattle.std.specs.declared.alloc.Global.{Global}
use Rattle.std.proofs.lemmas.List.{append-nil, take_all, length-take, length-drop, get_or-take, get_or-drop}
use Rattle.sector_disk.specs.declared.sector.Sector.{Sector}
use Rattle.sector_disk.specs.declared.sector.Sector.TheVariants.{Damaged}
use Rattle.memory_machine.specs.declared.past.Step.{Step}
use Rattle.memory_machine.specs.declared.past.Work.{Work}
use Rattle.memory_machine.specs.declared.past.Work.TheVariants.{Attaching, Writing, Extending, Saying, Syncing, Quiet}
use Rattle.memory_machine.specs.declared.memory.MemoryMachine.{MemoryMachine}
use Rattle.sector_disk.specs.Image.{sector_at, stand, outside, IsWorn, weak}
use Rattle.sector_disk.specs.Machine.{Tears, Writes, wrote}
use Rattle.memory_machine.specs.Past.{undone, before, written_by}
use Rattle.memory_machine.specs.Memory.{told_of, memory_now, memory_report, memory_ledger, IsHonest, Notes, Stood, IsWriting}
use Rattle.sector_disk.proofs.Wear.{length-lay, lay_other, lay_in, length-stand, stand_other, stand_worn, stand_outside, outside_cases}
use Rattle.memory_machine.proofs.Steps.{IsHurt, elapses_push, reaches_push, noted_step, noted_calls, noted_syncs, noted_before, flag_of, noted_worn, noted_honest, noted_elsewhere, noted_size}
use Rattle.memory_machine.proofs.Calls.{noted_ledger}

module _ (first : ℕ) (copy : Vec ℕ Global) (olds : Vec Sector Global) (done : Bool) (old new end : MemoryMachine) (noted : Notes false (Writing first copy olds done) old new) (stood : ℕ) (some : stood ≤ length copy.items / 512)
    (room : first + length copy.items / 512 ≤ length old.image.items) (olds_are : olds.items ≡ take stood (drop first old.image.items)) (image_is : end.image.items ≡ stand new.image.items first copy.items stood)
    (rest : end ≡ record new { image = end.image; written = end.written; waiting = end.waiting; stopped = end.stopped }) where
  abbrev work : Work
  work = Writing first copy olds done

  abbrev may : ℕ → Bool
  may = weak old.present old.next

  count : length olds.items ≡ stood
  count = omega (arith, ap (λ (l : List Sector). length l) olds_are, length-take stood (drop first old.image.items), length-drop first old.image.items, some, room)

  size : length new.image.items ≡ length old.image.items
  size = noted_size false work old new noted

  end_size : length end.image.items ≡ length old.image.items
  end_size = ap (λ (l : List Sector). length l) image_is ∙ length-stand new.image.items first copy.items stood ∙ size

  back_size : length (undone work end.image.items) ≡ length old.image.items
  back_size = length-lay end.image.items first (λ k. sector_at olds.items k) (length olds.items) ∙ end_size

  put_back : (place : ℕ) → (sector_at (undone work end.image.items) place ≡ sector_at old.image.items place) ⊎ IsHurt place noted.hurts.items
  put_back place = elim (outside_cases first stood place) [
    | inl within ↦ inl (inside place within)
    | inr out ↦
        let in_lay : (place < first) ⊎ (first + length olds.items ≤ place) = subst (λ (n : ℕ). (place < first) ⊎ (first + n ≤ place)) (sym count) out in
        let stays : sector_at (undone work end.image.items) place ≡ sector_at new.image.items place =
        lay_other end.image.items first (λ k. sector_at olds.items k) (length olds.items) place in_lay
        ∙ ap (λ (l : List Sector). sector_at l place) image_is ∙ stand_other new.image.items first copy.items stood place out in
        ⊎_elim (λ same. inl (stays ∙ same)) (λ hurt. inr hurt) (noted_elsewhere false work old new noted place)
  ]
    where
      inside : (place : ℕ) → (first ≤ place) × (place < first + stood) → sector_at (undone work end.image.items) place ≡ sector_at old.image.items place
      inside place within =
          let j : ℕ = place - first in
          let is : first + j ≡ place = omega arith in
          let lt : j < length olds.items = omega (arith, count) in
          let lt_stood : j < stood = omega arith in
          let here = lay_in end.image.items first (λ k. sector_at olds.items k) (length olds.items) j lt (omega (arith, count, end_size, some, room)) in
          let there : sector_at olds.items j ≡ sector_at old.image.items (first + j) =
          ap (λ (l : List Sector). sector_at l j) olds_are ∙ get_or-take stood (drop first old.image.items) j Damaged lt_stood ∙ get_or-drop first old.image.items j Damaged in
          subst (λ (n : ℕ). sector_at (undone work end.image.items) n ≡ sector_at old.image.items n) is (here ∙ there)

  abbrev step : Step
  step = noted_step false work old new noted

  said_is : end.said.items ≡ old.said.items
  said_is = ap (λ (m : MemoryMachine). m.said.items) rest ∙ ap (λ (m : MemoryMachine). m.said.items) noted.rest

  windows_are : (memory_now end).windows ≡ (memory_now old).windows
  windows_are = ap (λ (m : MemoryMachine). (memory_now m).windows) rest ∙ ap (λ (m : MemoryMachine). (memory_now m).windows) noted.rest

  later : length end.past.items ≡ length old.past.items + 1
  later = ap (λ (m : MemoryMachine). length m.past.items) rest ∙ noted_calls false work old new noted

  syncs : (memory_now old).synced ≤ (memory_now end).synced
  syncs = subst (λ (n : ℕ). (memory_now old).synced ≤ n) (sym (ap (λ (m : MemoryMachine). (memory_now m).synced) rest)) (noted_syncs false work old new noted)

  was : before step (memory_now end) ≡ memory_now old
  was = noted_before false work old new noted (memory_now end) back_size put_back (ap (λ (l : List ℕ). take (length old.said.items) l) said_is ∙ take_all (length old.said.items) old.said.items (omega arith)) later syncs

  past_is : end.past.items ≡ old.past.items ++ step ∷ []
  past_is = ap (λ (m : MemoryMachine). m.past.items) rest ∙ noted.past

  new_honest : IsHonest end → IsTrue new.honest
  new_honest h = sym (ap (λ (m : MemoryMachine). m.honest) rest) ∙ flag_of end h

  torn : IsHonest end → Tears first copy.items (memory_now old) (memory_now end)
  torn h = record {
    image = record {
      stood = stood;
      some = some;
      worn = subst (λ (l : List Sector). IsWorn may (stand old.image.items first copy.items stood) l) (sym image_is) (stand_worn may old.image.items new.image.items first copy.items stood (noted_worn false work old new noted (new_honest h)));
    };
    windows = windows_are;
    said = said_is;
  }

  whole : stood ≡ length copy.items / 512 → IsHonest end → Writes first copy.items (memory_now old) (memory_now end)
  whole all h = record {
    image = subst (λ (n : ℕ). IsWorn (outside first n may) (stand old.image.items first copy.items n) end.image.items) all
        (subst (λ (l : List Sector). IsWorn (outside first stood may) (stand old.image.items first copy.items stood) l) (sym image_is) (stand_outside may old.image.items new.image.items first copy.items stood (omega (arith, some, room)) (noted_worn false work old new noted (new_honest h))));
    windows = windows_are;
    said = said_is;
  }

  sectors_are : (memory_report end).sectors ≡ (memory_report old).sectors
  sectors_are =
      ap (λ (m : MemoryMachine). told_of m.told (length end.image.items)) (rest ∙ noted_rest)
      ∙ ap (told_of old.told) end_size
    where
      noted_rest : record new { image = end.image; written = end.written; waiting = end.waiting; stopped = end.stopped } ≡ record old { image = end.image; past = new.past; honest = new.honest; synced = new.synced; written = end.written; waiting = end.waiting; stopped = end.stopped }
      noted_rest = ap (λ (m : MemoryMachine). record m { image = end.image; written = end.written; waiting = end.waiting; stopped = end.stopped }) noted.rest

  ledger_is : memory_ledger end ≡ record { input = (memory_ledger old).input; attaches = (memory_ledger old).attaches ++ []; written = (memory_ledger old).written + written_by work; syncs = (memory_ledger old).syncs + 0 }
  ledger_is = ap memory_ledger rest ∙ noted_ledger false work old new noted

  pub noted_stood : (IsTrue done → stood ≡ length copy.items / 512) → Stood first copy.items done old end
  noted_stood all = record {
    sectors = sectors_are;
    honest = λ h. noted_honest false work old new noted (new_honest h);
    cut = torn;
    time = λ h. elapses_push old.past.items end.past.items step (memory_now old) (memory_now end) past_is was refl (Tears first copy.items (memory_now old)) later (λ left now. now) (torn h);
    counted = counted;
    uncounted = uncounted;
    written = λ f h. whole (all f) h;
    reached = λ f. reaches_push old.past.items end.past.items step (memory_now old) (memory_now end) past_is was refl;
  }
    where
      no_sync : (memory_ledger old).syncs + 0 ≡ (memory_ledger old).syncs
      no_sync = omega arith

      counted : IsTrue done → memory_ledger end ≡ wrote (memory_ledger old) (length copy.items / 512)
      counted f =
          let more : (memory_ledger old).written + written_by work ≡ (memory_ledger old).written + length copy.items / 512 = ap (λ (b : Bool). (memory_ledger old).written + (if b then length copy.items / 512 else 0)) f in
          ledger_is ∙ (λ i. record { input = (memory_ledger old).input; attaches = append-nil (memory_ledger old).attaches i; written = more i; syncs = no_sync i })

      uncounted : done ≡ false → memory_ledger end ≡ memory_ledger old
      uncounted f =
          let none : (memory_ledger old).written + 0 ≡ (memory_ledger old).written = omega arith in
          let more : (memory_ledger old).written + written_by work ≡ (memory_ledger old).written = ap (λ (b : Bool). (memory_ledger old).written + (if b then length copy.items / 512 else 0)) f ∙ none in
          ledger_is ∙ (λ i. record { input = (memory_ledger old).input; attaches = append-nil (memory_ledger old).attaches i; written = more i; syncs = no_sync i })

pub stood_by : (work : Work) (sector : ℕ) (text : List ℕ) (stood : ℕ) (done : Bool) (old new end : MemoryMachine) → IsWriting old.image.items sector text stood done work → Notes false work old new → stood ≤ length text / 512 → sector + length text / 512 ≤ length old.image.items
    → end.image.items ≡ stand new.image.items sector text stood → end ≡ record new { image = end.image; written = end.written; waiting = end.waiting; stopped = end.stopped } → (IsTrue done → stood ≡ length text / 512) → Stood sector text done old end
stood_by (Attaching path how image) sector text stood done old new end is noted some room image_is rest all = absurd is
stood_by (Extending had limit) sector text stood done old new end is noted some room image_is rest all = absurd is
stood_by (Saying bytes) sector text stood done old new end is noted some room image_is rest all = absurd is
stood_by (Syncing is_done) sector text stood done old new end is noted some room image_is rest all = absurd is
stood_by Quiet sector text stood done old new end is noted some room image_is rest all = absurd is
stood_by (Writing first copy olds did) sector text stood done old new end is noted some room image_is rest all =
    let some_is = subst (λ (b : List ℕ). stood ≤ length b / 512) (sym is.1) some in
    let room_text = subst (λ (b : List ℕ). sector + length b / 512 ≤ length old.image.items) (sym is.1) room in
    let room_is = subst (λ (n : ℕ). n + length copy.items / 512 ≤ length old.image.items) (sym is.0) room_text in
    let olds_is = subst (λ (n : ℕ). olds.items ≡ take stood (drop n old.image.items)) (sym is.0) is.2 in
    let image_text = subst (λ (b : List ℕ). end.image.items ≡ stand new.image.items sector b stood) (sym is.1) image_is in
    let image_first = subst (λ (n : ℕ). end.image.items ≡ stand new.image.items n copy.items stood) (sym is.0) image_text in
    let all_text = subst (λ (b : List ℕ). IsTrue done → stood ≡ length b / 512) (sym is.1) all in
    let all_is = subst (λ (q : Bool). IsTrue q → stood ≡ length copy.items / 512) (sym is.3) all_text in
    let here = noted_stood first copy olds did old new end noted stood some_is room_is olds_is image_first rest all_is in
    subst (λ (n : ℕ). Stood n text done old end) is.0 (subst (λ (b : List ℕ). Stood first b done old end) is.1 (subst (λ (q : Bool). Stood first copy.items q old end) is.3 here))
