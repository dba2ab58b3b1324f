-- Calls that write sectors one after another, and what they count.
use Rattle.std.proofs.Common.{◌≡◌, ℕ, ◌+◌, ◌<◌, ◌≤◌, List, length, Option, None, subst, ◌∙◌, arith}
use Rattle.std.proofs.lemmas.Bool.{or_left, or_right}
use Rattle.std.specs.Prelude.{IsTrue, ◌||◌}
use Rattle.volume_layout.specs.declared.layout.Layout.{Layout}
use Rattle.volume_layout.specs.Layout.{home_a, home_b}
use Rattle.sector_disk.specs.declared.machine.Machine.{Ghosts}
use Rattle.sector_disk.specs.Calls.{WritesDisk}
use Rattle.sector_disk.specs.Machine.{Ledger, Tears, wrote}
use Rattle.sector_disk.specs.Written.{WroteMost}
use Rattle.sector_disk.proofs.CallLaws.{writes_more}
use Rattle.version_data.specs.Writing.{WritesIn}
use Rattle.version_data.proofs.WritingLaws.{in_run_all, in_run_at, run_written, writes_in_more, tears_in, wrote_most}
use Rattle.volume_format.specs.Formatting.{format_writes, row}

module _ {D : Type 0} {M : Ghosts D} {a b : D} where
  pub sector_torn : {fault : Option ℕ} (place : ℕ) (bytes : List ℕ) → length bytes ≡ 512 → WritesDisk M fault (Tears place bytes) a b → WritesDisk M fault (WritesIn (row place 1)) a b
  sector_torn place bytes size torn = writes_more torn
      (λ h left is. tears_in (row place 1) place bytes (M.now a) left (λ j lt. in_run_at (record { first = place; count = 1 }) j (omega (arith, lt, size))) is)

-- ---- rows

pub row_within : (first n at count : ℕ) → at + count ≤ n → (s : ℕ) → IsTrue (row (first + at) count s) → IsTrue (row first n s)
row_within first n at count le s is =
    in_run_all (row first n) (record { first = first + at; count = count }) s
    (λ j lt.
    let here : first + (at + j) ≡ first + at + j = omega arith in
    subst (λ (t : ℕ). IsTrue (row first n t)) here (in_run_at (record { first = first; count = n }) (at + j) (omega (arith, lt, le)))) is

module _ {D : Type 0} {M : Ghosts D} {a b c : D} where
  pub one_written : {fault : Option ℕ} (first n at : ℕ) → at < n → WritesDisk M None (WritesIn (row first n)) a b → WritesDisk M fault (WritesIn (row (first + at) 1)) b c → WritesDisk M fault (WritesIn (row first n)) a c
  one_written first n at lt so_far next = run_written (row (first + at) 1) (row first n) (row_within first n at 1 (omega (arith, lt))) so_far next

pub head_one : {D : Type 0} {M : Ghosts D} {a b c : D} {fault : Option ℕ} (place : ℕ) → place < 16 → WritesDisk M None (WritesIn (row 0 16)) a b → WritesDisk M fault (WritesIn (row place 1)) b c → WritesDisk M fault (WritesIn (row 0 16)) a c
head_one place lt so_far next =
    let here : place ≡ 0 + place = omega arith in
    run_written (row place 1) (row 0 16) (λ s is. row_within 0 16 place 1 (omega (arith, lt)) s (subst (λ (p : ℕ). IsTrue (row p 1 s)) here is)) so_far next

pub one_counted : {most : ℕ} (old mid new : Ledger) (k : ℕ) → k < most → mid ≡ wrote old k → new ≡ mid → WroteMost most old new
one_counted {most} old mid new k lt so_far same = wrote_most old new k most (same ∙ so_far) (omega (arith, lt))

-- ---- the parts of a volume, one after another

pub pages_within : (l : Layout) (s : ℕ) → IsTrue (row (home_a l 0) l.pages s) → IsTrue (format_writes l s)
pages_within l s is = or_left (row 0 16 s || row (home_a l 0) l.pages s) (row (home_b l 0) l.pages s) (or_right (row 0 16 s) (row (home_a l 0) l.pages s) is)

pub copies_within : (l : Layout) (s : ℕ) → IsTrue (row (home_b l 0) l.pages s) → IsTrue (format_writes l s)
copies_within l s is = or_right (row 0 16 s || row (home_a l 0) l.pages s) (row (home_b l 0) l.pages s) is

pub head_within : (l : Layout) (s : ℕ) → IsTrue (row 0 16 s) → IsTrue (format_writes l s)
head_within l s is = or_left (row 0 16 s || row (home_a l 0) l.pages s) (row (home_b l 0) l.pages s) (or_left (row 0 16 s) (row (home_a l 0) l.pages s) is)

module _ {D : Type 0} {M : Ghosts D} {a b : D} where
  pub pages_written : {fault : Option ℕ} (l : Layout) (first count : ℕ) → first ≡ home_a l 0 → count ≡ l.pages → WritesDisk M fault (WritesIn (row first count)) a b → WritesDisk M fault (WritesIn (format_writes l)) a b
  pages_written l first count at all writes = writes_more writes
      (λ h left is. writes_in_more (row first count) (format_writes l) (M.now a) left (λ s here. pages_within l s (subst (λ (n : ℕ). IsTrue (row (home_a l 0) n s)) all (subst (λ (f : ℕ). IsTrue (row f count s)) at here))) is)

module _ {D : Type 0} {M : Ghosts D} {a b c : D} where
  pub copies_written : {fault : Option ℕ} (l : Layout) (first count : ℕ) → first ≡ home_b l 0 → count ≡ l.pages → WritesDisk M None (WritesIn (format_writes l)) a b → WritesDisk M fault (WritesIn (row first count)) b c → WritesDisk M fault (WritesIn (format_writes l)) a c
  copies_written l first count at all so_far next = run_written (row first count) (format_writes l)
      (λ s here. copies_within l s (subst (λ (n : ℕ). IsTrue (row (home_b l 0) n s)) all (subst (λ (f : ℕ). IsTrue (row f count s)) at here))) so_far next

  pub head_written : {fault : Option ℕ} (l : Layout) → WritesDisk M None (WritesIn (format_writes l)) a b → WritesDisk M fault (WritesIn (row 0 16)) b c → WritesDisk M fault (WritesIn (format_writes l)) a c
  head_written l so_far next = run_written (row 0 16) (format_writes l) (head_within l) so_far next
