-- What a noted call that gives the image more sectors is to the layers above.
use Rattle.std.proofs.Common.{◌≡◌, ◌⊎◌, inl, inr, ℕ, ◌+◌, ◌-◌, ◌^◌, ◌<◌, ◌≤◌, max, Bool, true, false, List, [], ◌∷◌, ◌++◌, length, take, replicate, Vec, None, refl, sym, ◌∙◌, ap, subst, arith}
use Rattle.std.specs.Prelude.{IsTrue, if◌then◌else◌}
use Rattle.std.specs.declared.alloc.Global.{Global}
use Rattle.std.proofs.lemmas.List.{append-nil, take_all, take_at}
use Rattle.sector_disk.specs.declared.sector.Sector.{Sector}
use Rattle.sector_disk.specs.declared.sector.Sector.TheVariants.{Damaged}
use Rattle.memory_machine.specs.declared.past.Step.{Step}
use Rattle.memory_machine.specs.declared.past.Work.{Work}
use Rattle.memory_machine.specs.declared.past.Work.TheVariants.{Extending}
use Rattle.memory_machine.specs.declared.memory.MemoryMachine.{MemoryMachine}
use Rattle.sector_disk.specs.Image.{sector_at, extended, IsWorn, weak}
use Rattle.sector_disk.specs.Machine.{Moment, Elapses, Reaches, Extends, Grows}
use Rattle.memory_machine.specs.Events.{comes_by}
use Rattle.memory_machine.specs.Past.{undone, before, LeftSince}
use Rattle.memory_machine.specs.State.{Enlarged, ended, grown, grown_by, same, next_verdict, call_goes}
use Rattle.memory_machine.specs.Memory.{told_of, memory_now, memory_report, memory_ledger, memory_state, IsHonest, Notes, Ends, Refuses, Widened}
use Rattle.sector_disk.proofs.Extended.{length-extended, extended_worn}
use Rattle.memory_machine.proofs.Steps.{IsHurt, elapses_push, reaches_push, noted_step, noted_calls, noted_syncs, noted_before, flag_of, noted_worn, noted_honest, noted_elsewhere, noted_size}
use Rattle.memory_machine.proofs.Calls.{noted_ledger, noted_sectors, refused_passes, wears_same}
use Rattle.memory_machine.proofs.States.{going_state, ended_state, plain, same_min}

-- the call's own work is taken back: the image is the one before it, and may have more sectors behind
module _ (had count : ℕ) (old new end : MemoryMachine) (noted : Notes false (Extending had count) old new) (back : undone (Extending had count) end.image.items ≡ new.image.items)
    (rest : end ≡ record new { image = end.image; told = end.told; synced = end.synced; waiting = end.waiting }) (syncs : (memory_now old).synced ≤ (memory_now end).synced) where
  abbrev work : Work
  work = Extending had count

  abbrev step : Step
  step = noted_step false work old new noted

  said_is : end.said.items ≡ old.said.items
  said_is = ap (λ (m : MemoryMachine). m.said.items) rest ∙ ap (λ (m : MemoryMachine). m.said.items) noted.rest

  later : length end.past.items ≡ length old.past.items + 1
  later = ap (λ (m : MemoryMachine). length m.past.items) rest ∙ noted_calls false work old new noted

  was : before step (memory_now end) ≡ memory_now old
  was =
      noted_before false work old new noted (memory_now end)
      (ap (λ (l : List Sector). length l) back ∙ noted_size false work old new noted)
      (λ place. subst (λ (l : List Sector). (sector_at l place ≡ sector_at old.image.items place) ⊎ IsHurt place noted.hurts.items) (sym back) (noted_elsewhere false work old new noted place))
      (ap (λ (l : List ℕ). take (length old.said.items) l) said_is ∙ take_all (length old.said.items) old.said.items (omega arith))
      later syncs

  past_is : end.past.items ≡ old.past.items ++ step ∷ []
  past_is = ap (λ (m : MemoryMachine). m.past.items) rest ∙ noted.past

  pub flag_new : IsHonest end → IsTrue new.honest
  flag_new h = sym (ap (λ (m : MemoryMachine). m.honest) rest) ∙ flag_of end h

  pub wide_honest : IsHonest end → IsHonest old
  wide_honest h = noted_honest false work old new noted (flag_new h)

  pub wide_windows : (memory_now end).windows ≡ (memory_now old).windows
  wide_windows = ap (λ (m : MemoryMachine). (memory_now m).windows) rest ∙ ap (λ (m : MemoryMachine). (memory_now m).windows) noted.rest

  pub wide_said : (memory_now end).said ≡ (memory_now old).said
  wide_said = said_is

  pub wide_ledger : memory_ledger end ≡ memory_ledger old
  wide_ledger =
      let none : (memory_ledger old).written + 0 ≡ (memory_ledger old).written = omega arith in
      let no_sync : (memory_ledger old).syncs + 0 ≡ (memory_ledger old).syncs = omega arith in
      ap memory_ledger rest ∙ noted_ledger false work old new noted
      ∙ (λ i. record { input = (memory_ledger old).input; attaches = append-nil (memory_ledger old).attaches i; written = none i; syncs = no_sync i })

  pub wide_time : Grows count (memory_now old) (memory_now end) → Elapses (length old.past.items) (length end.past.items) (LeftSince (memory_now old) old.past.items) (LeftSince (memory_now end) end.past.items) (Grows count (memory_now old))
  wide_time here = elapses_push old.past.items end.past.items step (memory_now old) (memory_now end) past_is was refl (Grows count (memory_now old)) later (λ left now. now) here

  pub wide_reached : Reaches (memory_now old) (LeftSince (memory_now end) end.past.items) (Grows count (memory_now old))
  wide_reached = reaches_push old.past.items end.past.items step (memory_now old) (memory_now end) past_is was refl

  pub wide_extends : end.image.items ≡ extended count new.image.items → IsHonest end → Extends count (memory_now old) (memory_now end)
  wide_extends is h = record {
    image = subst (λ (l : List Sector). IsWorn (weak old.present old.next) (extended count old.image.items) l) (sym is)
        (extended_worn (weak old.present old.next) count old.image.items new.image.items (noted_worn false work old new noted (flag_new h)));
    windows = wide_windows;
    said = wide_said;
  }

  pub wide_grows : (come : Bool) → end.image.items ≡ (if come then extended count new.image.items else new.image.items) → IsHonest end → Grows count (memory_now old) (memory_now end)
  wide_grows true is h = inr (wide_extends is h)
  wide_grows false is h = inl (record {
    image = subst (λ (l : List Sector). IsWorn (weak old.present old.next) old.image.items l) (sym is) (noted_worn false work old new noted (flag_new h));
    windows = wide_windows;
    said = wide_said;
  })

-- ---- it is done

module _ (had count told sync : ℕ) (image : Vec Sector Global) (old new : MemoryMachine) (noted : Notes false (Extending had count) old new) (size : had ≡ length old.image.items)
    (small : count < 2 ^ 32) (tells : told ≡ max (memory_report old).sectors count) (image_is : image.items ≡ extended count new.image.items) (now : sync ≡ length new.past.items) where
  abbrev end : MemoryMachine
  end = record new { image = image; told = told; synced = sync; waiting = None }

  long : length new.image.items ≡ had
  long = noted_size false (Extending had count) old new noted ∙ sym size

  back : take had image.items ≡ new.image.items
  back = ap (take had) image_is ∙ take_at new.image.items (replicate (count - length new.image.items) Damaged) had long

  syncs : (memory_now old).synced ≤ (memory_now end).synced
  syncs = omega (arith, now, noted_calls false (Extending had count) old new noted)

  sized : length image.items ≡ max (length old.image.items) count
  sized = ap (λ (l : List Sector). length l) image_is ∙ length-extended count new.image.items ∙ ap (λ (n : ℕ). max n count) (long ∙ size)

  told_is : (memory_report end).sectors ≡ max (memory_report old).sectors count
  told_is = omega (arith, small, tells, sized)

  extends : IsHonest end → Extends count (memory_now old) (memory_now end)
  extends = wide_extends had count old new end noted back refl syncs image_is

  pub widened_all : Widened count true old end
  widened_all = record {
    sectors = λ f. told_is;
    sectors_err = λ f. absurd (cc f);
    honest = wide_honest had count old new end noted back refl syncs;
    extends = λ f. extends;
    grows = λ h. inr (extends h);
    synced = λ f. omega (arith, now);
    ledger = wide_ledger had count old new end noted back refl syncs;
    time = λ h. wide_time had count old new end noted back refl syncs (inr (extends h));
    reached = λ f. wide_reached had count old new end noted back refl syncs;
  }

  pub widened_state : call_goes (memory_state old) ≡ true → new.stopped ≡ false → Enlarged count same (memory_state old) (memory_state end) true
  widened_state goes runs =
      let told_new : (memory_report end).sectors ≡ max (memory_report new).sectors count = told_is ∙ ap (λ (n : ℕ). max n count) (sym (noted_sectors false (Extending had count) old new noted)) in
      record {
        running = noted.running;
        goes = goes;
        after = (λ i. record (memory_state new) { now = record (memory_now new) { image = image_is i; synced = same_min sync (length new.past.items) now i }; told = told_new i; waiting = None })
            ∙ ap (grown count) (going_state false (Extending had count) old new noted runs ∙ plain false (memory_state old));
      }

-- ---- it is not

pub refused_widened : (count : ℕ) (old new : MemoryMachine) → Refuses old new → Widened count false old new
refused_widened count old new refused =
    let passes = refused_passes (Grows count) (λ at. inl (wears_same at)) old new refused in
    record {
      sectors = λ f. absurd (cc f);
      sectors_err = λ f. passes.sectors;
      honest = passes.honest;
      extends = λ f. absurd (cc f);
      grows = passes.may;
      synced = λ f. absurd (cc f);
      ledger = passes.ledger;
      time = passes.time;
      reached = λ f. absurd (cc f);
    }

-- its sectors may have come all the same
module _ (had count told : ℕ) (image : Vec Sector Global) (come : Bool) (old new : MemoryMachine) (noted : Notes false (Extending had count) old new) (size : had ≡ length old.image.items)
    (tells : told ≡ (memory_report old).sectors) (image_is : image.items ≡ (if come then extended count new.image.items else new.image.items)) where
  abbrev left : MemoryMachine
  left = record new { image = image; told = told }

  same_size : length new.image.items ≡ had
  same_size = noted_size false (Extending had count) old new noted ∙ sym size

  goes_back : take had image.items ≡ new.image.items
  goes_back = ap (take had) image_is ∙ by_come come
    where
      by_come : (b : Bool) → take had (if b then extended count new.image.items else new.image.items) ≡ new.image.items
      by_come true = take_at new.image.items (replicate (count - length new.image.items) Damaged) had same_size
      by_come false = take_all had new.image.items (omega (arith, same_size))

  stays : (memory_now old).synced ≤ (memory_now left).synced
  stays = noted_syncs false (Extending had count) old new noted

  none_gone : length new.image.items ≤ length image.items
  none_gone = by_come come image_is
    where
      by_come : (b : Bool) → image.items ≡ (if b then extended count new.image.items else new.image.items) → length new.image.items ≤ length image.items
      by_come true is = omega (arith, ap (λ (l : List Sector). length l) is, length-extended count new.image.items)
      by_come false is = omega (arith, ap (λ (l : List Sector). length l) is)

  told_still : (memory_report left).sectors ≡ (memory_report old).sectors
  told_still = omega (arith, tells, none_gone, same_size, size)

  may_grow : IsHonest left → Grows count (memory_now old) (memory_now left)
  may_grow = wide_grows had count old new left noted goes_back refl stays come image_is

  pub widened_none : Widened count false old left
  widened_none = record {
    sectors = λ f. absurd (cc f);
    sectors_err = λ f. told_still;
    honest = wide_honest had count old new left noted goes_back refl stays;
    extends = λ f. absurd (cc f);
    grows = may_grow;
    synced = λ f. absurd (cc f);
    ledger = wide_ledger had count old new left noted goes_back refl stays;
    time = λ h. wide_time had count old new left noted goes_back refl stays (may_grow h);
    reached = λ f. absurd (cc f);
  }

  pub unwidened_state : Ends false (Extending had count) old new → come ≡ comes_by (next_verdict (memory_state old)) (count - length new.image.items) → Enlarged count same (memory_state old) (memory_state left) false
  unwidened_state ends come_is =
      let verdict = next_verdict (memory_state old) in
      let told_new : (memory_report left).sectors ≡ (memory_report new).sectors = told_still ∙ sym (noted_sectors false (Extending had count) old new noted) in
      let image_by : image.items ≡ (if comes_by verdict (count - length new.image.items) then extended count new.image.items else new.image.items) =
      image_is ∙ ap (λ (b : Bool). if b then extended count new.image.items else new.image.items) come_is in
      inr (record {
        running = noted.running;
        goes = ends.fails;
        after = (λ i. record (memory_state new) { now = record (memory_now new) { image = image_by i }; told = told_new i })
            ∙ ap (grown_by verdict count) (ended_state false (Extending had count) old new ends ∙ ap (ended verdict) (plain false (memory_state old)));
      })

-- ---- what is put behind the image

pub behind_is : (more count : ℕ) (come : Bool) (image : List Sector) → more ≡ count - length image → image ++ replicate (if come then more else 0) Damaged ≡ (if come then extended count image else image)
behind_is more count true image is = ap (λ (n : ℕ). image ++ replicate n Damaged) is
behind_is more count false image is = append-nil image

-- ---- with room made for the sectors before the call

pub widened_from : (count : ℕ) (finished : Bool) (old : MemoryMachine) (image : Vec Sector Global) (new : MemoryMachine) → image.items ≡ old.image.items → Widened count finished (record old { image = image }) new → Widened count finished old new
widened_from count finished old image new is w =
    let now : memory_now (record old { image = image }) ≡ memory_now old = λ i. record (memory_now old) { image = is i } in
    let report : memory_report (record old { image = image }) ≡ memory_report old = λ i. record (memory_report old) { sectors = told_of old.told (length (is i)) } in
    record {
      sectors = λ f. w.sectors f ∙ ap (λ r. max r.sectors count) report;
      sectors_err = λ f. w.sectors_err f ∙ ap (λ r. r.sectors) report;
      honest = w.honest;
      extends = λ f h. subst (λ (m : Moment). Extends count m (memory_now new)) now (w.extends f h);
      grows = λ h. subst (λ (m : Moment). Grows count m (memory_now new)) now (w.grows h);
      synced = w.synced;
      ledger = w.ledger;
      time = λ h. subst (λ (m : Moment). Elapses (length old.past.items) (length new.past.items) (LeftSince m old.past.items) (LeftSince (memory_now new) new.past.items) (Grows count m)) now (w.time h);
      reached = λ f. subst (λ (m : Moment). Reaches m (LeftSince (memory_now new) new.past.items) (Grows count m)) now (w.reached f);
    }

pub room_for : (old : MemoryMachine) (image : Vec Sector Global) → image.items ≡ old.image.items → memory_state (record old { image = image }) ≡ memory_state old
room_for old image is = λ i. record (memory_state old) { now = record (memory_now old) { image = is i }; told = told_of old.told (length (is i)) }
