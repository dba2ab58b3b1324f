-- One more step joins the past of a machine in memory.
use Rattle.std.proofs.Common.{◌≡◌, ◌⊎◌, inl, inr, ⊎_elim, ℕ, ◌+◌, ◌-◌, ◌≤◌, min, Bool, true, List, [], ◌∷◌, ◌++◌, length, set, take, drop, reverse, Option, Some, None, refl, sym, ◌∙◌, ap, subst, arith}
use Rattle.std.specs.Prelude.{IsTrue}
use Rattle.std.specs.List.{cons_option}
use Rattle.std.proofs.lemmas.Bool.{cases_eq, cases_lt, and_parts}
use Rattle.std.proofs.lemmas.List.{length_push, reverse-append, drop-append-le, length-set, get_or-set_same, get_or-set_other, get_or_past, ext_get_or}
use Rattle.sector_disk.specs.declared.sector.Sector.{Sector}
use Rattle.sector_disk.specs.declared.sector.Sector.TheVariants.{Damaged}
use Rattle.sector_disk.specs.declared.sector.WeakRun.{WeakRun}
use Rattle.memory_machine.specs.declared.past.Hurt.{Hurt}
use Rattle.memory_machine.specs.declared.past.Step.{Step}
use Rattle.memory_machine.specs.declared.past.Work.{Work}
use Rattle.memory_machine.specs.declared.event.Event.{Event}
use Rattle.memory_machine.specs.declared.memory.MemoryMachine.{MemoryMachine}
use Rattle.sector_disk.specs.Image.{sector_at, IsWorn, weak}
use Rattle.sector_disk.specs.Machine.{Moment, Elapses, Reaches}
use Rattle.memory_machine.specs.Past.{hurt_all, heal_all, undone, before, During, InCall, LeftBack, LeftSince, due, hurt_in}
use Rattle.memory_machine.specs.Events.{hurt_by}
use Rattle.memory_machine.specs.Memory.{memory_now, memory_honest, has_short_runs, IsHonest, Notes}
use Rattle.sector_disk.proofs.Wear.{worn_refl}
use Rattle.memory_machine.specs.Windows.{all_weak}

-- HURTS

-- each was so in this image
abbrev pub AllWere : List Hurt → List Sector → Type 0
AllWere [] image = Unit {0}
AllWere (hurt ∷ hurts) image = (hurt.was ≡ sector_at image hurt.sector) × AllWere hurts image

-- the place is hurt by one of them
abbrev pub IsHurt : ℕ → List Hurt → Type 0
IsHurt place [] = ⊥
IsHurt place (hurt ∷ hurts) = (place ≡ hurt.sector) ⊎ IsHurt place hurts

length-hurt_all : (hurts : List Hurt) (image : List Sector) → length (hurt_all hurts image) ≡ length image
length-hurt_all [] image = refl
length-hurt_all (hurt ∷ hurts) image = length-hurt_all hurts (set image hurt.sector Damaged) ∙ length-set image hurt.sector Damaged

length-heal_all : (hurts : List Hurt) (image : List Sector) → length (heal_all hurts image) ≡ length image
length-heal_all [] image = refl
length-heal_all (hurt ∷ hurts) image = length-set (heal_all hurts image) hurt.sector hurt.was ∙ length-heal_all hurts image

hurt_elsewhere : (hurts : List Hurt) (image : List Sector) (place : ℕ) → (sector_at (hurt_all hurts image) place ≡ sector_at image place) ⊎ IsHurt place hurts
hurt_elsewhere [] image place = inl refl
hurt_elsewhere (hurt ∷ hurts) image place = elim (cases_eq place hurt.sector) [
  | inl same ↦ inr (inl same)
  | inr other ↦ elim (hurt_elsewhere hurts (set image hurt.sector Damaged) place) [
    | inl stays ↦ inl (stays ∙ get_or-set_other image hurt.sector place Damaged Damaged other)
    | inr later ↦ inr (inr later)
  ]
]

set_at_place : (image : List Sector) (at : ℕ) (x : Sector) (old : List Sector) → length image ≡ length old → x ≡ sector_at old at → sector_at (set image at x) at ≡ sector_at old at
set_at_place image at x old size is = elim (cases_lt at (length image)) [
  | inl within ↦ get_or-set_same image at x Damaged within ∙ is
  | inr past ↦
      get_or_past (set image at x) at Damaged (omega (arith, length-set image at x))
      ∙ sym (get_or_past old at Damaged (omega (arith, size)))
]

healed_at : (hurts : List Hurt) (now old : List Sector) (place : ℕ) → length now ≡ length old → AllWere hurts old → (sector_at now place ≡ sector_at old place) ⊎ IsHurt place hurts → sector_at (heal_all hurts now) place ≡ sector_at old place
healed_at [] now old place size were (inl same) = same
healed_at [] now old place size were (inr none) = absurd none
healed_at (hurt ∷ hurts) now old place size were so = elim (cases_eq place hurt.sector) [
  | inl same ↦
      ap (λ (n : ℕ). sector_at (heal_all (hurt ∷ hurts) now) n) same
      ∙ set_at_place (heal_all hurts now) hurt.sector hurt.was old (length-heal_all hurts now ∙ size) were.0
      ∙ ap (λ (n : ℕ). sector_at old n) (sym same)
  | inr other ↦
      get_or-set_other (heal_all hurts now) hurt.sector place hurt.was Damaged other
      ∙ healed_at hurts now old place size were.1 (⊎_elim (λ stays. inl stays) (λ hit. ⊎_elim (λ here. absurd (other here)) (λ later. inr later) hit) so)
]

-- what heals the hurts gives the old image, where the rest is as it was
pub heal_all-is : (hurts : List Hurt) (now old : List Sector) → length now ≡ length old → AllWere hurts old → ((place : ℕ) → (sector_at now place ≡ sector_at old place) ⊎ IsHurt place hurts) → heal_all hurts now ≡ old
heal_all-is hurts now old size were so =
    ext_get_or Damaged (heal_all hurts now) old (length-heal_all hurts now ∙ size) (λ place lt. healed_at hurts now old place size were (so place))

due_were : (image : List Sector) (calls : ℕ) (settle : Bool) (events : List Event) → AllWere (due image calls settle events) image
due_were image calls settle [] = tt
due_were image calls settle (event ∷ events) = by_case (hurt_by event calls settle) (due image calls settle events) (due_were image calls settle events)
  where
    by_case : (hurt : Option ℕ) (rest : List Hurt) → AllWere rest image → AllWere (cons_option (hurt_in image hurt) rest) image
    by_case None rest were = were
    by_case (Some sector) rest were = (refl, were)

hurt_worn : (may : ℕ → Bool) (old image : List Sector) (at : ℕ) → IsTrue (may at) → IsWorn may old image → IsWorn may old (set image at Damaged)
hurt_worn may old image at allowed worn = record {
  size = length-set image at Damaged ∙ worn.size;
  each = λ place. elim (cases_eq place at) [
    | inl same ↦ inr (subst (λ (n : ℕ). IsTrue (may n)) (sym same) allowed, ap (λ (n : ℕ). sector_at (set image at Damaged) n) same ∙ set_damaged)
    | inr other ↦ elim (worn.each place) [
      | inl stays ↦ inl (get_or-set_other image at place Damaged Damaged other ∙ stays)
      | inr hurt ↦ inr (hurt.0, get_or-set_other image at place Damaged Damaged other ∙ hurt.1)
    ]
  ];
}
  where
    set_damaged : sector_at (set image at Damaged) at ≡ Damaged
    set_damaged = elim (cases_lt at (length image)) [
      | inl within ↦ get_or-set_same image at Damaged Damaged within
      | inr past ↦ get_or_past (set image at Damaged) at Damaged (omega (arith, length-set image at Damaged))
    ]

-- hurts that the windows allow are wear
pub hurt_all-worn : (present next : Option WeakRun) (hurts : List Hurt) (old image : List Sector) → all_weak present next hurts ≡ true → IsWorn (weak present next) old image → IsWorn (weak present next) old (hurt_all hurts image)
hurt_all-worn present next [] old image allowed worn = worn
hurt_all-worn present next (hurt ∷ hurts) old image allowed worn =
    let both = and_parts (weak present next hurt.sector) (all_weak present next hurts) allowed in
    hurt_all-worn present next hurts old (set image hurt.sector Damaged) both.1 (hurt_worn (weak present next) old image hurt.sector both.0 worn)

-- MOMENTS

reverse_drop : (t : ℕ) (past : List Step) (step : Step) → t ≤ length past → reverse (drop t (past ++ step ∷ [])) ≡ step ∷ reverse (drop t past)
reverse_drop t past step le = ap reverse (drop-append-le t past (step ∷ []) le) ∙ reverse-append (drop t past) (step ∷ [])

abbrev Pushed : Work → Moment → List Step → Moment → Type 0
Pushed work at steps left = InCall work at left ⊎ ((left ≡ at) ⊎ LeftBack at steps left)

from_push : (t : ℕ) (past : List Step) (step : Step) (at new left : Moment) → t ≤ length past → before step new ≡ at → LeftBack new (reverse (drop t (past ++ step ∷ []))) left → Pushed step.work at (reverse (drop t past)) left
from_push t past step at new left le is back =
    let opened : LeftBack new (step ∷ reverse (drop t past)) left = subst (λ (l : List Step). LeftBack new l left) (reverse_drop t past step le) back in
    subst (λ (m : Moment). Pushed step.work m (reverse (drop t past)) left) is opened

to_push : (t : ℕ) (past : List Step) (step : Step) (at new left : Moment) → t ≤ length past → before step new ≡ at → Pushed step.work at (reverse (drop t past)) left → LeftSince new (past ++ step ∷ []) t left
to_push t past step at new left le is pushed =
    let back : LeftBack new (step ∷ reverse (drop t past)) left = subst (λ (m : Moment). Pushed step.work m (reverse (drop t past)) left) (sym is) pushed in
    (omega (arith, le, length_push past step), inr (subst (λ (l : List Step). LeftBack new l left) (sym (reverse_drop t past step le)) back))

-- it is the one that `at` goes to, in one step
module _ (past later : List Step) (step : Step) (at new : Moment) (pushed : later ≡ past ++ step ∷ []) (is : before step new ≡ at) (dated : at.time ≡ length past) where
  pub elapses_push : (during : Moment → Type 0) → new.time ≡ length past + 1 → ((left : Moment) → During step.work at left → during left) → during new
      → Elapses (length past) (length later) (LeftSince at past) (LeftSince new later) during
  elapses_push during time all here = subst (λ (l : List Step). Elapses (length past) (length l) (LeftSince at past) (LeftSince new l) during) (sym pushed) (record {
    later = omega (arith, length_push past step);
    nothing_else = λ t left le since. ⊎_elim
        (λ now. inr (subst during (sym now) here, omega (arith, ap (λ (m : Moment). m.time) now, time)))
        (λ back. ⊎_elim (λ call. inr (all left call.during, omega (arith, call.time, dated))) (λ earlier. inl (le, earlier)) (from_push t past step at new left le is back))
        since.1;
    keeps = λ t left le since. to_push t past step at new left le is (inr since.1);
  })

  -- and all that the call might show on its way might be there
  pub reaches_push : Reaches at (LeftSince new later) (During step.work at)
  reaches_push t left le now time synced =
      subst (λ (l : List Step). LeftSince new l t left) (sym pushed) (to_push t past step at new left (omega (arith, le, dated)) is (inl (record { during = now; time = time; synced = synced })))

pub elapses_same : (past later : List Step) (at : Moment) (during : Moment → Type 0) → later ≡ past → Elapses (length past) (length later) (LeftSince at past) (LeftSince at later) during
elapses_same past later at during same = subst (λ (l : List Step). Elapses (length past) (length l) (LeftSince at past) (LeftSince at l) during) (sym same) (record { later = omega arith; nothing_else = λ t left le since. inl since; keeps = λ t left le since. since })

-- A NOTED CALL

-- the step that is noted
abbrev pub noted_step : (settle : Bool) (work : Work) (old new : MemoryMachine) → Notes settle work old new → Step
noted_step settle work old new noted = record { hurts = noted.hurts; present = old.present; next = old.next; said = length old.said.items; synced = (memory_now old).synced; work = work }

-- The moment before it, from one after it: the rest of the image is as it was then, and something was said since.
pub noted_before : (settle : Bool) (work : Work) (old new : MemoryMachine) (noted : Notes settle work old new) (now : Moment) → length (undone work now.image) ≡ length old.image.items
    → ((place : ℕ) → (sector_at (undone work now.image) place ≡ sector_at old.image.items place) ⊎ IsHurt place noted.hurts.items) → take (length old.said.items) now.said ≡ old.said.items
    → now.time ≡ length old.past.items + 1 → (memory_now old).synced ≤ now.synced → before (noted_step settle work old new noted) now ≡ memory_now old
noted_before settle work old new noted now size so said later synced =
    let were = subst (λ (l : List Hurt). AllWere l old.image.items) (sym noted.all_due) (due_were old.image.items (length old.past.items) settle old.events.items) in
    let image = heal_all-is noted.hurts.items (undone work now.image) old.image.items size were so in
    let time : now.time - 1 ≡ length old.past.items = omega (arith, later) in
    let sync : min (min (memory_now old).synced now.synced) (now.time - 1) ≡ (memory_now old).synced = omega (arith, later, synced) in
    λ i. record { image = image i; windows = record { present = old.present; next = old.next }; said = said i; time = time i; synced = sync i }

pub noted_calls : (settle : Bool) (work : Work) (old new : MemoryMachine) (noted : Notes settle work old new) → length new.past.items ≡ length old.past.items + 1
noted_calls settle work old new noted = ap (λ (l : List Step). length l) noted.past ∙ length_push old.past.items (noted_step settle work old new noted)

-- the sync stays
pub noted_synced : (settle : Bool) (work : Work) (old new : MemoryMachine) (noted : Notes settle work old new) → (memory_now new).synced ≡ (memory_now old).synced
noted_synced settle work old new noted = omega (arith, noted.synced, noted_calls settle work old new noted)

pub noted_syncs : (settle : Bool) (work : Work) (old new : MemoryMachine) (noted : Notes settle work old new) → (memory_now old).synced ≤ (memory_now new).synced
noted_syncs settle work old new noted = omega (arith, noted_synced settle work old new noted)

-- honesty, by the hurts before the call
pub flag_of : (m : MemoryMachine) → IsHonest m → IsTrue m.honest
flag_of m honest = (and_parts m.honest (has_short_runs m) honest).0

pub noted_worn : (settle : Bool) (work : Work) (old new : MemoryMachine) (noted : Notes settle work old new) → IsTrue new.honest → IsWorn (weak old.present old.next) old.image.items new.image.items
noted_worn settle work old new noted honest =
    let both = and_parts (memory_honest old) (all_weak old.present old.next noted.hurts.items) (sym noted.honest ∙ honest) in
    let worn = hurt_all-worn old.present old.next noted.hurts.items old.image.items old.image.items both.1 (worn_refl (weak old.present old.next) old.image.items) in
    subst (λ (l : List Sector). IsWorn (weak old.present old.next) old.image.items l) (sym noted.image) worn

pub noted_honest : (settle : Bool) (work : Work) (old new : MemoryMachine) (noted : Notes settle work old new) → IsTrue new.honest → IsHonest old
noted_honest settle work old new noted honest = (and_parts (memory_honest old) (all_weak old.present old.next noted.hurts.items) (sym noted.honest ∙ honest)).0

pub noted_elsewhere : (settle : Bool) (work : Work) (old new : MemoryMachine) (noted : Notes settle work old new) (place : ℕ) → (sector_at new.image.items place ≡ sector_at old.image.items place) ⊎ IsHurt place noted.hurts.items
noted_elsewhere settle work old new noted place =
    subst (λ (l : List Sector). (sector_at l place ≡ sector_at old.image.items place) ⊎ IsHurt place noted.hurts.items) (sym noted.image) (hurt_elsewhere noted.hurts.items old.image.items place)

pub noted_size : (settle : Bool) (work : Work) (old new : MemoryMachine) (noted : Notes settle work old new) → length new.image.items ≡ length old.image.items
noted_size settle work old new noted = ap (λ (l : List Sector). length l) noted.image ∙ length-hurt_all noted.hurts.items old.image.items
