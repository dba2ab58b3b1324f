-- How many slices a piece writes.
use Rattle.std.proofs.Common.{◌≡◌, ◌⊎◌, inl, inr, subst, ℕ, ◌+◌, ◌-◌, ◌*◌, ◌/◌, ◌%◌, ◌≤◌, Bool, true, false, cond, refl, sym, ap, ◌∙◌, arith, Result}
use Rattle.std.specs.Prelude.{◌==◌}
use Rattle.std.proofs.lemmas.Bool.Decides.{eqb_tells}
use Rattle.sector_disk.specs.Machine.{Ledger}
use Rattle.volume_contract.specs.Pieces.{slice_count}
use Rattle.volume_contract.specs.State.{Counted}
use Rattle.client_desk.specs.Clients.{is_due, slices_due, whole_part}
use Rattle.client_desk.proofs.SliceLaws.{count_more, count_whole, written_more, written_whole}
use Rattle.client_desk.proofs.PieceLaws.{written_due, written_start, written_undue}

-- ---- of one piece

abbrev pub more_slices : (len got n : ℕ) → ℕ
more_slices len got n = slices_due len (got + n) - slices_due len got

pub due_none : (len got : ℕ) → more_slices len got 0 ≡ 0
due_none len got =
    let same : slices_due len (got + 0) ≡ slices_due len got = ap (slices_due len) (let e : got + 0 ≡ got = omega arith in e) in
    omega (arith, same)

-- bytes that fill no slice
pub due_undue : (len got n : ℕ) → (got == len) ≡ false → is_due len (got % 512 + n) (got + n) ≡ false → got % 512 + n ≤ 512 → more_slices len got n ≡ 0
due_undue len got n unended undue within =
    let same : slices_due len (got + n) ≡ slices_due len got = ap slice_count (written_undue len got n undue within ∙ sym (written_start len got unended)) in
    omega (arith, same)

-- the rest of a slice, which is written from its first byte on
pub due_fill : (len got n : ℕ) → (got == len) ≡ false → is_due len (got % 512 + n) (got + n) ≡ true → slice_count (got % 512 + n) ≡ more_slices len got n
due_fill len got n unended due =
    let was : slices_due len got ≡ got / 512 = ap slice_count (written_start len got unended) ∙ count_whole (got / 512) in
    let split : got + n ≡ got / 512 * 512 + (got % 512 + n) = omega arith in
    let now : slices_due len (got + n) ≡ got / 512 + slice_count (got % 512 + n) = ap slice_count (written_due len got n due ∙ split) ∙ count_more (got / 512) (got % 512 + n) in
    omega (arith, was, now)

-- whole slices, or all up to the end
pub due_lay : (len got n : ℕ) → (got % 512 ≡ 0) ⊎ (n ≡ 0) → slice_count (whole_part n (got + n == len)) ≡ more_slices len got n
due_lay len got n (inl whole) =
    let part = whole_part n (got + n == len) in
    let multiple : got ≡ got / 512 * 512 = omega (arith, whole) in
    let was : slices_due len got ≡ got / 512 = ap slice_count (written_whole len got whole ∙ multiple) ∙ count_whole (got / 512) in
    let now : slices_due len (got + n) ≡ got / 512 + slice_count part = ap slice_count (written_more len got n whole ∙ ap (λ (m : ℕ). m + part) multiple) ∙ count_more (got / 512) part in
    omega (arith, was, now)
due_lay len got n (inr none) =
    let nothing : (b : Bool) → slice_count (whole_part 0 b) ≡ 0 = none_of in
    ap (λ (m : ℕ). slice_count (whole_part m (got + m == len))) none ∙ nothing (got + 0 == len) ∙ sym (ap (more_slices len got) none ∙ due_none len got)
  where
    none_of : (b : Bool) → slice_count (whole_part 0 b) ≡ 0
    none_of true = refl
    none_of false = refl

-- ---- of two

pub due_grows : (len a b : ℕ) → a ≤ b → b ≤ len → slices_due len a ≤ slices_due len b
due_grows len a b more within = by (a == len) (b == len) (eqb_tells a len) (eqb_tells b len)
  where
    by : (p q : Bool) → ((p ≡ true) × (a ≡ len)) ⊎ ((p ≡ false) × (a ≡ len → ⊥)) → ((q ≡ true) × (b ≡ len)) ⊎ ((q ≡ false) × (b ≡ len → ⊥))
        → slice_count (cond p a (a / 512 * 512)) ≤ slice_count (cond q b (b / 512 * 512))
    by true true x y = omega (arith, more)
    by false true x y = omega (arith, more)
    by false false x y = omega (arith, more)
    by true false (inl ended) (inr open_yet) = absurd (open_yet.1 (let e : b ≡ len = let at = ended.1 in omega (arith, more, within, at) in e))
    by true false (inl ended) (inl same) = absurd (cc (same.0))
    by true false (inr other) y = absurd (cc (other.0))

pub due_more : (len got n count : ℕ) → n ≤ count → got + count ≤ len → more_slices len got n ≤ more_slices len got count
due_more len got n count le within =
    let grows = due_grows len (got + n) (got + count) (omega (arith, le)) within in
    omega (arith, grows)

pub due_both : (len got n count : ℕ) → n ≤ count → got + count ≤ len → more_slices len got n + more_slices len (got + n) (count - n) ≡ more_slices len got count
due_both len got n count le within =
    let first = due_grows len got (got + n) (omega arith) (omega (arith, le, within)) in
    let second = due_grows len (got + n) (got + count) (omega (arith, le)) within in
    let all : slices_due len (got + n + (count - n)) ≡ slices_due len (got + count) = ap (slices_due len) (let e : got + n + (count - n) ≡ got + count = omega (arith, le) in e) in
    omega (arith, first, second, all)

-- ---- of the sectors that are counted

pub counted_so : {T E : Type 0} (r : Result T E) (n m : ℕ) (a b : Ledger) → n ≡ m → Counted r n a b → Counted r m a b
counted_so r n m a b same counted = subst (λ (x : ℕ). Counted r x a b) same counted
