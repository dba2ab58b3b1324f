-- How far commands bring the numbers of a mount.
use Rattle.std.proofs.Common.{◌≡◌, ◌⊎◌, inl, inr, ℕ, suc, ◌+◌, ◌≤◌, Bool, true, false, cond, List, [], ◌∷◌, ◌++◌, length, Option, Some, None, refl, sym, ◌∙◌, ap, subst, arith}
use Rattle.std.specs.Prelude.{◌&&◌, ◌||◌, ◌==◌, not, nat_le, nat_lt, IfOk, IfSome, IsTrue, OnOk, Result, Ok, Err}
use Rattle.std.proofs.lemmas.Bool.{leb-true}
use Rattle.fsd_bytes.specs.declared.refusal.Refusal.{Refusal}
use Rattle.fsd_bytes.specs.declared.refusal.Refusal.TheVariants as Why
use Rattle.fsd_formats.specs.NamePage.{sectors_for}
use Rattle.fsd_log.specs.Scan.{Head}
use Rattle.sector_disk.specs.Machine.{Moment}
use Rattle.fsd_runs.specs.Errands.{forced_turn}
use Rattle.fsd_runs.specs.Runs.{last_count}
use Rattle.fsd_texts.specs.declared.counts.Counts.{Counts}
use Rattle.fsd_texts.specs.declared.fault.Fault.TheVariants as Ends
use Rattle.fsd_texts.specs.declared.line.Line.{Line}
use Rattle.fsd_texts.specs.declared.line.Line.TheVariants as Says
use Rattle.fsd_texts.specs.Text.{text}
use Rattle.volume_contract.specs.Order.{CallStep, Draw, Force, IsDownBy, KeepsRefused, PassesTest, StepRefuses, Roots, delete_steps, force_steps, keep_steps, load_steps, move_steps, put_steps, with_drawn}
use Rattle.volume_contract.specs.State.{HasCounted, IsDownAt, IsForced, IsNew, State, enters_again, forces_first, forces_for_place, is_worn, moved_third, numbered}
use Rattle.volume_turns.specs.declared.turns.Halt.{Halt}
use Rattle.volume_turns.specs.declared.turns.Halt.TheVariants.{Fault as Stopped}
use Rattle.volume_turns.specs.Causes.{SaysMade}
use Rattle.volume_turns.specs.Group.{is_worn_end}
use Rattle.volume_turns.specs.Line.{EndsLast}
use Rattle.volume_turns.specs.Numbers.{GoesUp, MayWear}
use Rattle.volume_turns.specs.Turns.{SaysAll}

-- ---- a call that has ended

-- what it answers
abbrev pub ended : {T : Type 0} → Halt → Result T Halt
ended end = Err end

-- ---- a call that was answered

pub goes_still : (s t : State) → t.serial.count ≡ s.serial.count → t.head.number ≡ s.head.number → GoesUp 1 s t
goes_still s t serials records = record { serials = omega (arith, serials); records = omega (arith, records) }

pub goes_none : (n : ℕ) (s t : State) → t ≡ s → GoesUp n s t
goes_none n s t same = record {
  serials = let e = ap (λ (x : State). x.serial.count) same in omega (arith, e);
  records = let e = ap (λ (x : State). x.head.number) same in omega (arith, e);
}

numbered_most : (s : State) → numbered s ≤ s.head.number + 1
numbered_most s = by (length s.dirty == 0)
  where
    by : (b : Bool) → cond b s.head.number (suc s.head.number) ≤ s.head.number + 1
    by true = omega arith
    by false = omega arith

counted_most : (forces : Bool) (s : State) → cond forces (numbered s) s.head.number ≤ s.head.number + 1
counted_most true s = numbered_most s
counted_most false s = omega arith

drawn_most : (draws : Bool) (n : ℕ) → cond draws (suc n) n ≤ n + 1
drawn_most true n = omega arith
drawn_most false n = omega arith

pub counted_goes : (draws forces : Bool) (s t : State) → HasCounted draws forces s t → GoesUp 1 s t
counted_goes draws forces s t c = record {
  serials = subst (λ (n : ℕ). n ≤ s.serial.count + 1) (sym c.count) (drawn_most draws s.serial.count);
  records = subst (λ (n : ℕ). n ≤ s.head.number + 1) (sym c.number) (counted_most forces s);
}

pub forced_goes : (s t : State) → IsForced s t → GoesUp 1 s t
forced_goes s t f = record {
  serials = let same : t.serial.count ≡ s.serial.count = ap (λ (x : State). x.serial.count) f.is in omega (arith, same);
  records = subst (λ (n : ℕ). n ≤ s.head.number + 1) (sym f.number) (numbered_most s);
}

-- ---- a call that was refused

-- how many serials these steps may draw, and how many records they may number
abbrev pub draws_in : List CallStep → ℕ
draws_in [] = 0
draws_in (Draw ∷ steps) = suc (draws_in steps)
draws_in (step ∷ steps) = draws_in steps

abbrev pub forces_in : List CallStep → ℕ
forces_in [] = 0
forces_in (Force comes ∷ steps) = cond comes 1 0 + forces_in steps
forces_in (step ∷ steps) = forces_in steps

-- No more than that.
pub record GoesBy (steps : List CallStep) (s t : State) : Type 0 where
  pub serials : t.serial.count ≤ s.serial.count + draws_in steps
  pub records : t.head.number ≤ s.head.number + forces_in steps

room_same : (s : State) (first : ℕ) (b : Bool) → ((cond b (moved_third s first) s).serial.count ≡ s.serial.count) × ((cond b (moved_third s first) s).head.number ≡ s.head.number)
room_same s first true = (refl, refl)
room_same s first false = (refl, refl)

down_same : (place : ℕ) (s t : State) → IsDownAt place s t → (t.serial.count ≡ s.serial.count) × (t.head.number ≡ s.head.number)
down_same place s t d = elim d.is [
  | inl same ↦ (ap (λ (x : State). x.serial.count) same, ap (λ (x : State). x.head.number) same)
  | inr same ↦ let room = room_same s t.anchor.first (enters_again s) in (ap (λ (x : State). x.serial.count) same ∙ room.0, ap (λ (x : State). x.head.number) same ∙ room.1)
]

down_by_same : (r : Refusal) (s t : State) → IsDownBy r s t → (t.serial.count ≡ s.serial.count) × (t.head.number ≡ s.head.number)
down_by_same (Why.Device p) s t d = down_same p s t d
down_by_same (Why.Lost a b) s t d = down_same a s t d
down_by_same r s t d = absurd d

-- it was refused at this step, or at a later one, and neither draws nor forces
stays : (steps : List CallStep) (P Q : Type 0) (r : Refusal) (s t : State) → (KeepsRefused steps r s t → GoesBy steps s t) → (P × (t ≡ s)) ⊎ (Q × KeepsRefused steps r s t) → GoesBy steps s t
stays steps P Q r s t on (inl here) = record {
  serials = let e = ap (λ (x : State). x.serial.count) here.1 in omega (arith, e);
  records = let e = ap (λ (x : State). x.head.number) here.1 in omega (arith, e);
}
stays steps P Q r s t on (inr later) = on later.1

forces_then : (steps : List CallStep) (r : Refusal) (s t : State) → ((next : State) → KeepsRefused steps r next t → GoesBy steps next t) → IsDownBy r s t ⊎ ((next : State) × IsForced s next × KeepsRefused steps r next t) → GoesBy (Force true ∷ steps) s t
forces_then steps r s t on (inl d) =
    let same = down_by_same r s t d in
    record { serials = let e = same.0 in omega (arith, e); records = let e = same.1 in omega (arith, e) }
forces_then steps r s t on (inr x) =
    let first = forced_goes s x.0 x.1 in
    let same : x.0.serial.count ≡ s.serial.count = ap (λ (y : State). y.serial.count) x.1.is in
    let more = on x.0 x.2 in
    record { serials = let a = more.serials in omega (arith, a, same); records = let a = more.records in let b = first.records in omega (arith, a, b) }

pub keeps_goes : (steps : List CallStep) (r : Refusal) (s t : State) → KeepsRefused steps r s t → GoesBy steps s t
keeps_goes [] r s t keeps = absurd keeps
keeps_goes (Draw ∷ steps) r s t keeps =
    let more = keeps_goes steps r (with_drawn s) t keeps in
    record { serials = let a = more.serials in omega (arith, a); records = more.records }
keeps_goes (Force true ∷ steps) r s t keeps = forces_then steps r s t (λ next k. keeps_goes steps r next t k) keeps
keeps_goes (Force false ∷ steps) r s t keeps = let x = stays steps (StepRefuses (Force false) r) (PassesTest (Force false)) r s t (λ k. keeps_goes steps r s t k) keeps in record { serials = x.serials; records = let n = x.records in omega (arith, n) }
keeps_goes (Roots ∷ steps) r s t here = record {
  serials = let e = ap (λ (x : State). x.serial.count) here.1 in omega (arith, e);
  records = let e = ap (λ (x : State). x.head.number) here.1 in omega (arith, e);
}
keeps_goes (step ∷ steps) r s t keeps = let x = stays steps (StepRefuses step r) (PassesTest step) r s t (λ k. keeps_goes steps r s t k) keeps in record { serials = x.serials; records = x.records }

pub one_force : (b : Bool) → cond b 1 0 + 0 ≤ 1
one_force true = omega arith
one_force false = omega arith

put_force : (place first : Bool) → cond place 1 0 + (cond (first && not place) 1 0 + 0) ≤ 1
put_force true true = omega arith
put_force true false = omega arith
put_force false true = omega arith
put_force false false = omega arith

pub goes_by : (steps : List CallStep) (s t : State) → draws_in steps ≤ 1 → forces_in steps ≤ 1 → GoesBy steps s t → GoesUp 1 s t
goes_by steps s t draws forces x = record { serials = let a = x.serials in omega (arith, a, draws); records = let a = x.records in omega (arith, a, forces) }

module _ (s t : State) (r : Refusal) where
  pub put_goes : (keep : Option ℕ) (len : ℕ) → KeepsRefused (put_steps s keep len) r s t → GoesUp 1 s t
  put_goes keep len keeps = goes_by (put_steps s keep len) s t (omega arith) (put_force (forces_for_place s (sectors_for len)) (forces_first s)) (keeps_goes (put_steps s keep len) r s t keeps)

  pub load_goes : (keep len : ℕ) → KeepsRefused (load_steps s keep len) r s t → GoesUp 1 s t
  load_goes keep len keeps = goes_by (load_steps s keep len) s t (omega arith) (put_force (forces_for_place s (sectors_for len)) (forces_first s)) (keeps_goes (load_steps s keep len) r s t keeps)

  pub delete_goes : KeepsRefused (delete_steps s) r s t → GoesUp 1 s t
  delete_goes keeps = goes_by (delete_steps s) s t (omega arith) (one_force (forces_first s)) (keeps_goes (delete_steps s) r s t keeps)

  pub keep_goes : (keep : ℕ) → KeepsRefused (keep_steps s keep) r s t → GoesUp 1 s t
  keep_goes keep keeps = goes_by (keep_steps s keep) s t (omega arith) (one_force (forces_first s)) (keeps_goes (keep_steps s keep) r s t keeps)

  pub move_goes : KeepsRefused (move_steps s) r s t → GoesUp 1 s t
  move_goes keeps = goes_by (move_steps s) s t (omega arith) (one_force (forces_first s)) (keeps_goes (move_steps s) r s t keeps)

  pub force_goes : KeepsRefused (force_steps s) r s t → GoesUp 1 s t
  force_goes keeps = goes_by (force_steps s) s t (omega arith) (one_force (nat_lt 0 (length s.dirty))) (keeps_goes (force_steps s) r s t keeps)

-- ---- commands one after another

pub goes_then : (n m : ℕ) (a b c : State) → m ≡ n + 1 → GoesUp n a b → GoesUp 1 b c → GoesUp m a c
goes_then n m a b c more x y = record {
  serials = let p = x.serials in let q = y.serials in omega (arith, more, p, q);
  records = let p = x.records in let q = y.records in omega (arith, more, p, q);
}

-- a worn-out mount refuses the next one
pub worn_may : (s : State) → IsTrue (is_worn s) → MayWear 1 s
worn_may s is = by (nat_le last_count s.serial.count) (nat_le last_count s.head.number) refl refl is
  where
    by : (a b : Bool) → nat_le last_count s.serial.count ≡ a → nat_le last_count s.head.number ≡ b → IsTrue (a || b) → MayWear 1 s
    by true b x y worn = inl (let le = leb-true last_count s.serial.count x in omega (arith, le))
    by false true x y worn = inr (let le = leb-true last_count s.head.number y in omega (arith, le))
    by false false x y worn = absurd (cc worn)

pub may_before : (n many : ℕ) (s t : State) → n + 1 ≤ many → GoesUp n s t → MayWear 1 t → MayWear many s
may_before n many s t few goes (inl worn) = inl (let a = goes.serials in omega (arith, few, a, worn))
may_before n many s t few goes (inr worn) = inr (let a = goes.records in omega (arith, few, a, worn))

-- behind a mount both are 1
pub new_may : (many : ℕ) (s : State) → IsNew s → MayWear many s → last_count ≤ many
new_may many s new (inl worn) = let one = new.count in omega (arith, one, worn)
new_may many s new (inr worn) = let one : s.head.number ≡ 1 = ap (λ (x : Head). x.number) new.head in omega (arith, one, worn)

-- ---- how they end

pub other_end : (end : Halt) → is_worn_end end ≡ false → end ≡ Stopped Ends.WornOut → ⊥
other_end end other is = let no : is_worn_end (Stopped Ends.WornOut) ≡ false = subst (λ (e : Halt). is_worn_end e ≡ false) is other in cc no

-- what is passed on
pub passed_on : {T : Type 0} (x y : T) (r : Result T Halt) → IfOk r (λ z. z ≡ x) → r ≡ Ok y → y ≡ x
passed_on {T = T} x y r same is = subst (λ (z : Result T Halt). IfOk z (λ w. w ≡ x)) is same

pub forced_behind : {T : Type 0} (H K : Type 0) (a m b : Moment) → (H → K) → (K → m.said ≡ a.said) → (r : Result T Halt) → OnOk r (H → b.said ≡ m.said ++ forced_turn.said) → OnOk r (H → b.said ≡ a.said ++ forced_turn.said)
forced_behind H K a m b back same (Ok x) said = λ h. said h ∙ ap (λ (y : List ℕ). y ++ forced_turn.said) (same (back h))
forced_behind H K a m b back same (Err end) said = tt

-- and where nothing was said before
pub said_forced : (H K : Type 0) (a m b : Moment) → (H → K) → (K → m.said ≡ a.said) → (r : Result (Unit {0}) Halt) → OnOk r (H → SaysAll forced_turn.said m b) → OnOk r (H → b.said ≡ a.said ++ forced_turn.said)
said_forced H K a m b back same (Ok x) all = λ h. (all h).said ∙ ap (λ (y : List ℕ). y ++ forced_turn.said) (same (back h))
said_forced H K a m b back same (Err end) all = tt

-- ---- what is counted is passed on

pub counts_on : (count : ℕ) (tally : Counts) → tally.count ≡ count → (r : Result (Option Counts) Halt) → IfOk r (λ x. x ≡ Some tally) → IfOk r (λ o. IfSome o (λ t. t.count ≡ count))
counts_on count tally all (Ok o) same = subst (λ (x : Option Counts). IfSome x (λ t. t.count ≡ count)) (sym same) all
counts_on count tally all (Err end) same = tt

pub counts_none : (count : ℕ) (r : Result (Option Counts) Halt) → IfOk r (λ x. x ≡ None) → IfOk r (λ o. IfSome o (λ t. t.count ≡ count))
counts_none count (Ok o) same = subst (λ (x : Option Counts). IfSome x (λ t. t.count ≡ count)) (sym same) tt
counts_none count (Err end) same = tt

-- the lines that are said last of what was made up
pub made_all : (count : ℕ) (tally : Counts) → tally.count ≡ count → (line : Line) → line ≡ Says.Generated tally → (a m b : Moment) (status : ℕ) → m.said ≡ a.said ++ forced_turn.said → EndsLast line 0 m b status → status ≡ 0 → SaysMade count a.said b
made_all count tally all line is a m b status forced (inl six) zero = absurd (omega (arith, six, zero))
made_all count tally all line is a m b status forced (inr (gives, says)) zero = record {
  tally = tally;
  all = all;
  said = says.said ∙ ap (λ (x : List ℕ). x ++ text line) forced ∙ ap (λ (l : Line). (a.said ++ forced_turn.said) ++ text l) is;
}
