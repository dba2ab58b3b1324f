-- Steps of a call, and more of them behind.
use Rattle.std.proofs.Common.{◌≡◌, inl, inr, ℕ, Bool, true, false, List, [], ◌∷◌, ◌++◌, Option, Some, None, refl, ap, subst, ◌∙◌}
use Rattle.fsd_bytes.specs.declared.refusal.Refusal.{Refusal}
use Rattle.volume_contract.specs.Order.{Comes, KeepsRefused, CallStep, Test, Draw, Force, Roots, Through, is_idle, with_drawn}
use Rattle.volume_contract.specs.State.{GoesOn, State}
use Rattle.volume_laws.specs.Steps.{Went}

-- ---- the order

pub comes_more : (steps more : List CallStep) (r : Refusal) → Comes steps r → Comes (steps ++ more) r
comes_more [] more r comes = absurd comes
comes_more (step ∷ steps) more r (inl here) = inl here
comes_more (step ∷ steps) more r (inr later) = inr (later.0, comes_more steps more r later.1)

pub comes_behind : (steps more : List CallStep) (r : Refusal) → Through steps → Comes more r → Comes (steps ++ more) r
comes_behind [] more r through comes = comes
comes_behind (step ∷ steps) more r through comes = inr (through.0, comes_behind steps more r through.1 comes)

pub through_more : (steps more : List CallStep) → Through steps → Through more → Through (steps ++ more)
through_more [] more through rest = rest
through_more (step ∷ steps) more through rest = (through.0, through_more steps more through.1 rest)

-- ---- what is kept

force_more : (b : Bool) (steps more : List CallStep) (r : Refusal) (at new : State) → ((s : State) → KeepsRefused steps r s new → KeepsRefused (steps ++ more) r s new) → KeepsRefused (Force b ∷ steps) r at new → KeepsRefused (Force b ∷ (steps ++ more)) r at new
force_more true steps more r at new rest (inl down) = inl down
force_more true steps more r at new rest (inr next) = inr (next.0, next.1, rest next.0 next.2)
force_more false steps more r at new rest (inl here) = inl here
force_more false steps more r at new rest (inr later) = inr (later.0, rest at later.1)

pub keeps_more : (steps more : List CallStep) (r : Refusal) (at new : State) → KeepsRefused steps r at new → KeepsRefused (steps ++ more) r at new
keeps_more [] more r at new keeps = absurd keeps
keeps_more (Draw ∷ steps) more r at new keeps = keeps_more steps more r (with_drawn at) new keeps
keeps_more (Force b ∷ steps) more r at new keeps = force_more b steps more r at new (λ s rest. keeps_more steps more r s new rest) keeps
keeps_more (Roots ∷ steps) more r at new keeps = keeps
keeps_more (step ∷ steps) more r at new (inl here) = inl here
keeps_more (step ∷ steps) more r at new (inr later) = inr (later.0, keeps_more steps more r at new later.1)

pub keeps_behind : (steps more : List CallStep) (r : Refusal) (at mid new : State) → Went steps at mid → KeepsRefused more r mid new → KeepsRefused (steps ++ more) r at new
keeps_behind [] more r at mid new went keeps = subst (λ (s : State). KeepsRefused more r s new) went keeps
keeps_behind (Draw ∷ steps) more r at mid new went keeps = keeps_behind steps more r (with_drawn at) mid new went keeps
keeps_behind (Force true ∷ steps) more r at mid new went keeps = inr (went.0, went.1, keeps_behind steps more r went.0 mid new went.2 keeps)
keeps_behind (Roots ∷ steps) more r at mid new went keeps = absurd went
keeps_behind (step ∷ steps) more r at mid new went keeps = inr (went.0, keeps_behind steps more r at mid new went.1 keeps)

-- ---- what was gone through

pub went_then : (steps more : List CallStep) (at mid new : State) → Went steps at mid → Went more mid new → Went (steps ++ more) at new
went_then [] more at mid new went rest = subst (λ (s : State). Went more s new) went rest
went_then (Draw ∷ steps) more at mid new went rest = went_then steps more (with_drawn at) mid new went rest
went_then (Force true ∷ steps) more at mid new went rest = (went.0, went.1, went_then steps more went.0 mid new went.2 rest)
went_then (Roots ∷ steps) more at mid new went rest = absurd went
went_then (step ∷ steps) more at mid new went rest = (went.0, went_then steps more at mid new went.1 rest)

pub went_through : (steps : List CallStep) (at new : State) → Went steps at new → Through steps
went_through [] at new went = tt
went_through (Draw ∷ steps) at new went = (tt, went_through steps (with_drawn at) new went)
went_through (Force true ∷ steps) at new went = (tt, went_through steps went.0 new went.2)
went_through (Roots ∷ steps) at new went = absurd went
went_through (step ∷ steps) at new went = (went.0, went_through steps at new went.1)

-- as many name pages are free
pub went_pages : (steps : List CallStep) (at new : State) → Went steps at new → new.free_pages ≡ at.free_pages
went_pages [] at new went = ap (λ (s : State). s.free_pages) went
went_pages (Draw ∷ steps) at new went = went_pages steps (with_drawn at) new went
went_pages (Force true ∷ steps) at new went = went_pages steps went.0 new went.2 ∙ ap (λ (s : State). s.free_pages) went.1.is
went_pages (Roots ∷ steps) at new went = absurd went
went_pages (step ∷ steps) at new went = went_pages steps at new went.1

-- ---- steps of which none does anything

-- the first of them do nothing
pub idle_front : (steps more : List CallStep) → is_idle (steps ++ more) ≡ true → is_idle steps ≡ true
idle_front [] more idle = refl
idle_front (Test (Some why) ∷ steps) more idle = refl
idle_front (Test None ∷ steps) more idle = idle_front steps more idle
idle_front (Force false ∷ steps) more idle = idle_front steps more idle
idle_front (step ∷ steps) more idle = absurd (cc idle)

-- where no test of the first refuses, the later ones do nothing
pub idle_behind : (steps more : List CallStep) → Through steps → is_idle (steps ++ more) ≡ true → is_idle more ≡ true
idle_behind [] more through idle = idle
idle_behind (Test (Some why) ∷ steps) more through idle = absurd (cc through.0)
idle_behind (Test None ∷ steps) more through idle = idle_behind steps more through.1 idle
idle_behind (Force false ∷ steps) more through idle = idle_behind steps more through.1 idle
idle_behind (step ∷ steps) more through idle = absurd (cc idle)

-- ---- the state

pub goes_then : (place : Option ℕ) (a b c : State) → GoesOn None a b → GoesOn place b c → GoesOn place a c
goes_then place a b c first second = record {
  layout = second.layout ∙ first.layout;
  epoch = second.epoch ∙ first.epoch;
  readers = second.readers ∙ first.readers;
  unfinished = second.unfinished ∙ first.unfinished;
  down = elim first.down [
    | inl same ↦ elim second.down [
      | inl still ↦ inl (still ∙ same)
      | inr failed ↦ inr failed
    ]
    | inr gone ↦ absurd (cc gone.0)
  ];
}
