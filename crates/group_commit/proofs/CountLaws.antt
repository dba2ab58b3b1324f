-- How many pages' last images lie in the first third, as they are gone through.
use Rattle.std.proofs.Common.{◌≡◌, ℕ, zero, suc, ◌+◌, ◌-◌, ◌<◌, ◌≤◌, Bool, false, cond, List, length, take, get_or, Option, None, sym, ap, subst, ◌∙◌, arith}
use Rattle.std.specs.Prelude.{count_by, Result, Ok, Err, IfErr}
use Rattle.std.specs.Result.{IsErrAnd}
use Rattle.std.proofs.lemmas.List.{take_all}
use Rattle.std.proofs.lemmas.List.Sums.{count_by_more_no, count_by_more_yes, sum_by-take-le}
use Rattle.sector_disk.specs.Machine.{Ledger, wrote}
use Rattle.sector_disk.specs.Written.{WroteMost}
use Rattle.fsd_log.specs.declared.slot.Slot.{Slot}
use Rattle.fsd_log.specs.Slots.{lies_in, IsLeastIn, NoneLiesIn}

module _ (p : Option Slot → Bool) (slots : List (Option Slot)) where
  gap_by : (from d : ℕ) → from + d ≤ length slots → ((q : ℕ) → from ≤ q → q < from + d → p (get_or slots q None) ≡ false) → count_by p (take (from + d) slots) ≡ count_by p (take from slots)
  gap_by from zero inside none = ap (λ (n : ℕ). count_by p (take n slots)) (let e : from + zero ≡ from = omega arith in e)
  gap_by from (suc d) inside none =
      ap (λ (n : ℕ). count_by p (take n slots)) (let e : from + suc d ≡ from + d + 1 = omega arith in e)
      ∙ count_by_more_no p slots (from + d) None (omega (arith, inside)) (none (from + d) (omega arith) (omega arith))
      ∙ gap_by from d (omega (arith, inside)) (λ q ge lt. none q ge (omega (arith, lt)))

  gap : (from to : ℕ) → from ≤ to → to ≤ length slots → ((q : ℕ) → from ≤ q → q < to → p (get_or slots q None) ≡ false) → count_by p (take to slots) ≡ count_by p (take from slots)
  gap from to le inside none =
      let e : from + (to - from) ≡ to = omega (arith, le) in
      ap (λ (n : ℕ). count_by p (take n slots)) (sym e) ∙ gap_by from (to - from) (omega (arith, e, inside)) (λ q ge lt. none q ge (omega (arith, lt, e)))

-- the next page is one more
pub count_next : (slots : List (Option Slot)) (from start count page : ℕ) → IsLeastIn slots from start count page
    → count_by (lies_in start count) (take (page + 1) slots) ≡ count_by (lies_in start count) (take from slots) + 1
count_next slots from start count page is =
    count_by_more_yes (lies_in start count) slots page None is.there is.lies
    ∙ ap (λ (n : ℕ). n + 1) (gap (lies_in start count) slots from page is.from (let lt = is.there in omega (arith, lt)) is.before)

-- there is none any more
pub count_done : (slots : List (Option Slot)) (from start count : ℕ) → from ≤ length slots → NoneLiesIn slots from start count → count_by (lies_in start count) (take from slots) ≡ count_by (lies_in start count) slots
count_done slots from start count inside none =
    sym (gap (lies_in start count) slots from (length slots) inside (omega arith) none) ∙ ap (count_by (lies_in start count)) (take_all (length slots) slots (omega arith))

pub wrote_none : (ledger : Ledger) (n : ℕ) → n ≡ 0 → ledger ≡ wrote ledger n
wrote_none ledger n is = let e : ledger.written ≡ ledger.written + n = omega (arith, is) in λ i. record { input = ledger.input; attaches = ledger.attaches; written = e i; syncs = ledger.syncs }

-- no more lie in the first third among some first pages than among all
pub count_part : (slots : List (Option Slot)) (start count i : ℕ) → count_by (lies_in start count) (take i slots) ≤ count_by (lies_in start count) slots
count_part slots start count i = sum_by-take-le (λ slot. cond (lies_in start count slot) 1 0) slots i

-- ---- at most so many

pub wrote_same : (old new : Ledger) (most : ℕ) → new ≡ old → WroteMost most old new
wrote_same old new most is = let e : new.written ≡ old.written = ap (λ (l : Ledger). l.written) is in record { no_fewer = omega (arith, e); no_more = omega (arith, e) }

-- some sectors exactly, and then at most so many
pub wrote_on : (old mid new : Ledger) (a b most : ℕ) → mid.written ≡ old.written + a → WroteMost b mid new → a + b ≤ most → WroteMost most old new
wrote_on old mid new a b most is more le = let fewer = more.no_fewer in let no_more = more.no_more in record { no_fewer = omega (arith, is, fewer); no_more = omega (arith, is, no_more, le) }

pub wrote_at : (a b : ℕ) (old new : Ledger) → a ≡ b → WroteMost a old new → WroteMost b old new
wrote_at a b old new is most = subst (λ (n : ℕ). WroteMost n old new) is most

-- an error that is handed up
pub handed_up : {T E : Type 0} (P : E → Type 0) (r : Result T E) (fault : E) → IsErrAnd r (λ told. told ≡ fault) → P fault → IfErr r P
handed_up P (Ok x) fault is holds = tt
handed_up P (Err told) fault is holds = subst P (sym is) holds
