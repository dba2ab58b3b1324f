-- What a call of a client keeps of the volume, and how far it brings its numbers.
use Rattle.std.proofs.Common.{◌≡◌, ◌⊎◌, inl, inr, ℕ, suc, Bool, true, false, cond, List, [], ◌∷◌, Option, Some, None, refl, sym, ◌∙◌, ap, subst, arith}
use Rattle.std.specs.Prelude.{OnOk, Result, Ok, Err}
use Rattle.fsd_bytes.specs.declared.refusal.Refusal.{Refusal}
use Rattle.fsd_bytes.specs.declared.refusal.Refusal.TheVariants as Why
use Rattle.fsd_formats.specs.NamePage.{sectors_for}
use Rattle.fsd_texts.specs.declared.fault.Fault.{Fault}
use Rattle.volume_contract.specs.Order.{Draw, Force, IsDownBy, KeepsRefused, PassesTest, StepRefuses, Roots, CallStep, with_drawn}
use Rattle.volume_contract.specs.Pieces.{HoldsAt, Reserves}
use Rattle.volume_contract.specs.declared.token.Draft.{Draft}
use Rattle.volume_contract.specs.declared.token.Held.{Held}
use Rattle.volume_contract.specs.State.{IsDownAt, IsForced, State, downs_for, enters_again, forces_first, forces_for_place, moved_third}
use Rattle.client_desk.specs.declared.client.Client.{Client}
use Rattle.client_desk.specs.declared.client.Client.TheVariants.{Idle, Writing, Reading}
use Rattle.client_desk.specs.Clients.{Continues, EndsDraftAt, GivesUpPart, IsDesk, begin_steps, client_at, close_steps}
use Rattle.fsd_files.specs.declared.reply.Reply.{Reply}
use Rattle.volume_turns.specs.Numbers.{GoesUp}
use Rattle.volume_turns.specs.Seats.{KeepsSeat}
use Rattle.volume_turns.specs.Steps.{ended_by}
use Rattle.volume_turns.proofs.NumberLaws.{forced_goes, goes_by, goes_none, keeps_goes, one_force, goes_still}

-- ---- the volume goes on

continues_same : (place : Option ℕ) (s t : State) → t ≡ s → Continues place s t
continues_same place s t same = record {
  layout = ap (λ (x : State). x.layout) same;
  epoch = ap (λ (x : State). x.serial.epoch) same;
  down = inl (ap (λ (x : State). x.down) same);
}

-- what a client had open is given up
pub gives_continues : (x : Client) (s t : State) → GivesUpPart x s t → Continues None s t
gives_continues Idle s t gives = continues_same None s t gives
gives_continues (Writing w) s t gives = record {
  layout = ap (λ (x : State). x.layout) gives.is;
  epoch = ap (λ (x : State). x.serial.epoch) gives.is;
  down = inl (ap (λ (x : State). x.down) gives.is);
}
gives_continues (Reading r) s t gives = record {
  layout = ap (λ (x : State). x.layout) gives.is;
  epoch = ap (λ (x : State). x.serial.epoch) gives.is;
  down = inl (ap (λ (x : State). x.down) gives.is);
}

pub holds_continues : (h : Held) (s t : State) → HoldsAt h s t → Continues None s t
holds_continues h s t holds = record {
  layout = ap (λ (x : State). x.layout) holds.is;
  epoch = ap (λ (x : State). x.serial.epoch) holds.is;
  down = inl (ap (λ (x : State). x.down) holds.is);
}

pub reserves_continues : (need : ℕ) (s t : State) (d : Draft) → Reserves need s t d → Continues None s t
reserves_continues need s t d reserves = by reserves.went
  where
    m : State
    m = reserves.middle

    on : Continues None s m → Continues None s t
    on first = record {
      layout = ap (λ (x : State). x.layout) reserves.takes.is ∙ first.layout;
      epoch = ap (λ (x : State). x.serial.epoch) reserves.takes.is ∙ first.epoch;
      down = elim first.down [ inl same ↦ inl (ap (λ (x : State). x.down) reserves.takes.is ∙ same) | inr x ↦ absurd (cc x.0) ];
    }

    by : ((forces_for_place s need ≡ false) × (m ≡ s)) ⊎ ((forces_for_place s need ≡ true) × IsForced s m) → Continues None s t
    by (inl none) = on (continues_same None s m none.1)
    by (inr one) = on (record {
      layout = ap (λ (x : State). x.layout) one.1.is;
      epoch = ap (λ (x : State). x.serial.epoch) one.1.is;
      down = inl (ap (λ (x : State). x.down) one.1.is);
    })

-- a piece that was refused
pub piece_continues : (why : Refusal) (i : ℕ) (clients after : List Client) (s t : State) → EndsDraftAt why i clients after s t → Continues None s t
piece_continues (Why.Device n) i clients after s t ends = gives_continues (client_at clients i) s t ends.volume
piece_continues (Why.Down n) i clients after s t ends = gives_continues (client_at clients i) s t ends.volume
piece_continues why i clients after s t ends = continues_same None s t ends.volume

room_keeps : (s : State) (first : ℕ) (b : Bool) → ((cond b (moved_third s first) s).layout ≡ s.layout) × ((cond b (moved_third s first) s).serial.epoch ≡ s.serial.epoch)
room_keeps s first true = (refl, refl)
room_keeps s first false = (refl, refl)

down_continues : (place : ℕ) (s t : State) → IsDownAt place s t → Continues (Some place) s t
down_continues place s t d = elim d.is [
  | inl same ↦ record {
    layout = ap (λ (x : State). x.layout) same;
    epoch = ap (λ (x : State). x.serial.epoch) same;
    down = inr (refl, ap (λ (x : State). x.down) same);
  }
  | inr same ↦ let room = room_keeps s t.anchor.first (enters_again s) in record {
    layout = ap (λ (x : State). x.layout) same ∙ room.0;
    epoch = ap (λ (x : State). x.serial.epoch) same ∙ room.1;
    down = inr (refl, ap (λ (x : State). x.down) same);
  }
]

down_by_continues : (r : Refusal) (s t : State) → IsDownBy r s t → Continues (downs_for r) s t
down_by_continues (Why.Device p) s t d = down_continues p s t d
down_by_continues (Why.Lost a b) s t d = down_continues a s t d
down_by_continues r s t d = absurd d

passes_on : (place : Option ℕ) (s t : State) (P Q K : Type 0) → (K → Continues place s t) → (P × (t ≡ s)) ⊎ (Q × K) → Continues place s t
passes_on place s t P Q K on (inl here) = continues_same place s t here.1
passes_on place s t P Q K on (inr later) = on later.1

-- none of the steps writes the roots
abbrev NoRoots : List CallStep → Type 0
NoRoots [] = Unit {0}
NoRoots (Roots ∷ steps) = ⊥
NoRoots (step ∷ steps) = NoRoots steps

-- a call that was refused at one of these steps
pub keeps_continues : (steps : List CallStep) → NoRoots steps → (r : Refusal) (s t : State) → KeepsRefused steps r s t → Continues (downs_for r) s t
keeps_continues [] none r s t keeps = absurd keeps
keeps_continues (Draw ∷ steps) none r s t keeps =
    let more = keeps_continues steps none r (with_drawn s) t keeps in
    record { layout = more.layout; epoch = more.epoch; down = more.down }
keeps_continues (Force true ∷ steps) none r s t keeps = by (λ next k. keeps_continues steps none r next t k) keeps
  where
    by : ((next : State) → KeepsRefused steps r next t → Continues (downs_for r) next t) → IsDownBy r s t ⊎ ((next : State) × IsForced s next × KeepsRefused steps r next t) → Continues (downs_for r) s t
    by on (inl d) = down_by_continues r s t d
    by on (inr x) =
        let more = on x.0 x.2 in
        record {
          layout = more.layout ∙ ap (λ (y : State). y.layout) x.1.is;
          epoch = more.epoch ∙ ap (λ (y : State). y.serial.epoch) x.1.is;
          down = elim more.down [ inl same ↦ inl (same ∙ ap (λ (y : State). y.down) x.1.is) | inr at ↦ inr at ];
        }
keeps_continues (Force false ∷ steps) none r s t keeps = passes_on (downs_for r) s t (StepRefuses (Force false) r) (PassesTest (Force false)) (KeepsRefused steps r s t) (λ k. keeps_continues steps none r s t k) keeps
keeps_continues (Roots ∷ steps) none r s t keeps = absurd none
keeps_continues (step ∷ steps) none r s t keeps = passes_on (downs_for r) s t (StepRefuses step r) (PassesTest step) (KeepsRefused steps r s t) (λ k. keeps_continues steps none r s t k) keeps

-- ---- it is up

pub still_up : (s t : State) → Continues None s t → s.down ≡ None → t.down ≡ None
still_up s t goes up = elim goes.down [ inl same ↦ same ∙ up | inr x ↦ absurd (cc x.0) ]

-- where the run goes on
pub ended_up : (s t : State) (why : Refusal) → Continues (downs_for why) s t → s.down ≡ None → (r : Result Reply Fault) → r ≡ ended_by why → OnOk r (t.down ≡ None)
ended_up s t why goes up r is = subst (λ (x : Result Reply Fault). OnOk x (t.down ≡ None)) (sym is) (by why goes)
  where
    by : (w : Refusal) → Continues (downs_for w) s t → OnOk (ended_by w) (t.down ≡ None)
    by (Why.Device n) on = tt
    by (Why.Down n) on = tt
    by (Why.Lost a b) on = tt
    by (Why.Unsound n) on = tt
    by Why.WornOut on = tt
    by Why.Memory on = tt
    by w on = still_up s t on up

pub still_ended_up : (s t : State) → Continues None s t → s.down ≡ None → (r : Result Reply Fault) → OnOk r (t.down ≡ None)
still_ended_up s t goes up (Ok x) = still_up s t goes up
still_ended_up s t goes up (Err fault) = tt

-- ---- the volume and its desk, behind a call

module _ {s t : State} {desk : List Client} {r : Result Reply Fault} where
  -- that leaves it up, whether it was done or refused
  pub seat_still : Continues None s t → s.down ≡ None → IsDesk t desk → KeepsSeat s t desk r
  seat_still goes up of = record { layout = goes.layout; up = still_ended_up s t goes up r; desk = of }

  -- that leaves it as it was
  pub seat_same : t ≡ s → s.down ≡ None → IsDesk t desk → KeepsSeat s t desk r
  seat_same same up of = seat_still (continues_same None s t same) up of

  -- that was refused
  pub seat_ended : (why : Refusal) → Continues (downs_for why) s t → s.down ≡ None → r ≡ ended_by why → IsDesk t desk → KeepsSeat s t desk r
  seat_ended why goes up is of = record { layout = goes.layout; up = ended_up s t why goes up r is; desk = of }

-- ---- its numbers

pub gives_goes : (x : Client) (s t : State) → GivesUpPart x s t → GoesUp 1 s t
gives_goes Idle s t gives = goes_none 1 s t gives
gives_goes (Writing w) s t gives = goes_still s t (ap (λ (x : State). x.serial.count) gives.is) (ap (λ (x : State). x.head.number) gives.is)
gives_goes (Reading r) s t gives = goes_still s t (ap (λ (x : State). x.serial.count) gives.is) (ap (λ (x : State). x.head.number) gives.is)

pub holds_goes : (h : Held) (s t : State) → HoldsAt h s t → GoesUp 1 s t
holds_goes h s t holds = goes_still s t (ap (λ (x : State). x.serial.count) holds.is) (ap (λ (x : State). x.head.number) holds.is)

pub piece_goes : (why : Refusal) (i : ℕ) (clients after : List Client) (s t : State) → EndsDraftAt why i clients after s t → GoesUp 1 s t
piece_goes (Why.Device n) i clients after s t ends = gives_goes (client_at clients i) s t ends.volume
piece_goes (Why.Down n) i clients after s t ends = gives_goes (client_at clients i) s t ends.volume
piece_goes why i clients after s t ends = goes_none 1 s t ends.volume

pub reserves_goes : (need : ℕ) (s t : State) (d : Draft) → Reserves need s t d → GoesUp 1 s t
reserves_goes need s t d reserves = by reserves.went
  where
    m : State
    m = reserves.middle

    serials_are : t.serial.count ≡ suc m.serial.count
    serials_are = ap (λ (x : State). x.serial.count) reserves.takes.is

    records_are : t.head.number ≡ m.head.number
    records_are = ap (λ (x : State). x.head.number) reserves.takes.is

    by : ((forces_for_place s need ≡ false) × (m ≡ s)) ⊎ ((forces_for_place s need ≡ true) × IsForced s m) → GoesUp 1 s t
    by (inl none) = record {
      serials = let same = ap (λ (x : State). x.serial.count) none.1 in omega (arith, serials_are, same);
      records = let same = ap (λ (x : State). x.head.number) none.1 in omega (arith, records_are, same);
    }
    by (inr one) = record {
      serials = let same : m.serial.count ≡ s.serial.count = ap (λ (x : State). x.serial.count) one.1.is in omega (arith, serials_are, same);
      records = let most = (forced_goes s m one.1).records in omega (arith, records_are, most);
    }

module _ (s t : State) (desk : List Client) (c : ℕ) (why : Refusal) where
  pub begin_goes : (len : ℕ) → KeepsRefused (begin_steps s desk c len) why s t → GoesUp 1 s t
  begin_goes len keeps = goes_by (begin_steps s desk c len) s t (omega arith) (one_force (forces_for_place s (sectors_for len))) (keeps_goes (begin_steps s desk c len) why s t keeps)

  pub close_goes : KeepsRefused (close_steps s desk c) why s t → GoesUp 1 s t
  close_goes keeps = goes_by (close_steps s desk c) s t (omega arith) (one_force (forces_first s)) (keeps_goes (close_steps s desk c) why s t keeps)
