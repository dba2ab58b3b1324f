-- What calls leave that write in some sectors alone.
use Rattle.std.proofs.Common.{◌≡◌, ◌⊎◌, inl, inr, ℕ, ◌+◌, ◌-◌, ◌/◌, ◌<◌, ◌≤◌, Bool, true, false, nat_le, nat_lt, List, length, Option, Some, None, refl, sym, ap, subst, ◌∙◌, arith}
use Rattle.std.specs.Prelude.{IsTrue, IsFalse, IfErr, IsErrAnd, Result, Ok, Err}
use Rattle.std.proofs.lemmas.Bool.{and_from, and_parts, cases_lt, le-leb, leb-true, lt-ltb, ltb-true}
use Rattle.run_table.specs.declared.run.Run.{Run}
use Rattle.run_table.specs.RunTable.{sectors_of}
use Rattle.run_table.specs.Space.{contains}
use Rattle.sector_disk.specs.declared.machine.Failed.{Failed}
use Rattle.sector_disk.specs.declared.machine.Machine.{Ghosts}
use Rattle.sector_disk.specs.declared.sector.WeakRun.{WeakRun}
use Rattle.sector_disk.specs.Calls.{WritesDisk, device_in, failed_at}
use Rattle.sector_disk.specs.Image.{Windows, in_weak_run, open_damage, sector_at}
use Rattle.sector_disk.specs.Machine.{Ledger, Moment, Tears, wrote}
use Rattle.sector_disk.specs.Written.{WroteMost}
use Rattle.sector_disk.proofs.CallLaws.{writes_then}
use Rattle.sector_disk.proofs.Wear.{length-stand, stand_other, worn_twice}
use Rattle.fsd_files.specs.Disk.{Sectors, SectorWorn}
use Rattle.version_data.specs.Writing.{WritesIn}
use Rattle.version_data.proofs.PlaceLaws.{LiesBehind, get_there}

pub writes_on : (may : Sectors) (a b c : Moment) → WritesIn may a b → WritesIn may b c → WritesIn may a c
writes_on may a b c first second = record {
  touches = record {
    size = second.touches.size ∙ first.touches.size;
    others = λ s out. worn_twice (open_damage a.windows s) (sector_at a.image s) (sector_at b.image s) (sector_at c.image s) (first.touches.others s out)
        (subst (λ (w : Windows). SectorWorn (open_damage w s) (sector_at b.image s) (sector_at c.image s)) first.windows (second.touches.others s out));
  };
  windows = second.windows ∙ first.windows;
  said = second.said ∙ first.said;
}

passes_not : (few may : Bool) → (IsTrue few → IsTrue may) → IsFalse may → IsFalse few
passes_not true may more out = absurd (let is = more refl in cc)
passes_not false may more out = refl

-- writing in few sectors is writing in more
pub writes_in_more : (few may : Sectors) (a b : Moment) → ((s : ℕ) → IsTrue (few s) → IsTrue (may s)) → WritesIn few a b → WritesIn may a b
writes_in_more few may a b more writes = record {
  touches = record { size = writes.touches.size; others = λ s out. writes.touches.others s (passes_not (few s) (may s) (more s) out) };
  windows = writes.windows;
  said = writes.said;
}

-- ---- sectors that follow each other

outside : (may : Sectors) (first n s : ℕ) → ((j : ℕ) → j < n → IsTrue (may (first + j))) → IsFalse (may s) → (s < first) ⊎ (first + n ≤ s)
outside may first n s each out = elim (cases_lt s first) [
  | inl below ↦ inl below
  | inr from ↦ elim (cases_lt s (first + n)) [
    | inl within ↦
        let here : first + (s - first) ≡ s = omega (arith, from) in
        let is : IsTrue (may s) = subst (λ (t : ℕ). IsTrue (may t)) here (each (s - first) (omega (arith, from, within))) in
        absurd (cc (is, out))
    | inr above ↦ inr above
  ]
]

-- a write that is cut short
pub tears_in : (may : Sectors) (first : ℕ) (bytes : List ℕ) (old left : Moment) → ((j : ℕ) → j < length bytes / 512 → IsTrue (may (first + j))) → Tears first bytes old left → WritesIn may old left
tears_in may first bytes old left each torn =
    let stood : ℕ = torn.image.stood in
    let few : stood ≤ length bytes / 512 = torn.image.some in
    record {
      touches = record {
        size = torn.image.worn.size ∙ length-stand old.image first bytes stood;
        others = λ s out.
            let same = stand_other old.image first bytes stood s (outside may first stood s (λ j lt. each j (omega arith)) out) in
            elim (torn.image.worn.each s) [ inl is ↦ inl (is ∙ same) | inr hurt ↦ inr hurt ];
      };
      windows = torn.windows;
      said = torn.said;
    }

-- ---- one run

pub in_run_at : (run : WeakRun) (j : ℕ) → j < run.count → IsTrue (in_weak_run run (run.first + j))
in_run_at run j lt =
    let s : ℕ = run.first + j in
    and_from (nat_le run.first s) (nat_lt s (run.first + run.count)) (le-leb run.first s (omega arith)) (lt-ltb s (run.first + run.count) (omega arith))

-- what holds of each sector of a run by its number
pub in_run_all : (may : Sectors) (run : WeakRun) (s : ℕ) → ((j : ℕ) → j < run.count → IsTrue (may (run.first + j))) → IsTrue (in_weak_run run s) → IsTrue (may s)
in_run_all may run s each within =
    let both = and_parts (nat_le run.first s) (nat_lt s (run.first + run.count)) within in
    let low : run.first ≤ s = leb-true run.first s both.0 in
    let high : s < run.first + run.count = ltb-true s (run.first + run.count) both.1 in
    let here : run.first + (s - run.first) ≡ s = omega (arith, low) in
    subst (λ (t : ℕ). IsTrue (may t)) here (each (s - run.first) (omega (arith, low, high)))

-- the sectors of a row that lies in a run
pub row_in_run : (run : WeakRun) (done n : ℕ) (row : List ℕ) → length row / 512 ≡ n → done + n ≤ run.count → (j : ℕ) → j < length row / 512 → IsTrue (in_weak_run run (run.first + done + j))
row_in_run run done n row size le j lt =
    let here : run.first + (done + j) ≡ run.first + done + j = omega arith in
    subst (λ (s : ℕ). IsTrue (in_weak_run run s)) here (in_run_at run (done + j) (omega (arith, size, le, lt)))

-- the sectors of a run that is one of the runs
pub run_among : {runs : List Run} {before : ℕ} {r : Run} → LiesBehind runs before r → (s : ℕ) → IsTrue (in_weak_run (record { first = r.start; count = r.length }) s) → IsTrue (contains (sectors_of runs) s)
run_among {runs = runs} {before = before} {r = r} lies s within =
    in_run_all (contains (sectors_of runs)) (record { first = r.start; count = r.length }) s (λ j lt. get_there (sectors_of runs) (before + j) (r.start + j) (lies.each j lt)) within

-- ---- one call more

module _ {D : Type 0} {M : Ghosts D} {a b c : D} where
  pub row_written : {fault : Option ℕ} (may : Sectors) (first : ℕ) (row : List ℕ) → ((j : ℕ) → j < length row / 512 → IsTrue (may (first + j)))
      → WritesDisk M None (WritesIn may) a b → WritesDisk M fault (Tears first row) b c → WritesDisk M fault (WritesIn may) a c
  row_written may first row each so_far next = writes_then {R = WritesIn may} so_far next (λ h left so. so)
      (λ h left torn. writes_on may (M.now a) (M.now b) left (so_far.exit (next.trust.honest h)) (tears_in may first row (M.now b) left each torn))

  pub run_written : {fault : Option ℕ} (few may : Sectors) → ((s : ℕ) → IsTrue (few s) → IsTrue (may s)) → WritesDisk M None (WritesIn may) a b → WritesDisk M fault (WritesIn few) b c → WritesDisk M fault (WritesIn may) a c
  run_written few may more so_far next = writes_then {R = WritesIn may} so_far next (λ h left so. so)
      (λ h left writes. writes_on may (M.now a) (M.now b) left (so_far.exit (next.trust.honest h)) (writes_in_more few may (M.now b) left more writes))

-- ---- a failure handed on

pub failed_told : {T : Type 0} (r : Result T Failed) (failed : Failed) → IsErrAnd r (λ told. told ≡ failed) → device_in failed_at r ≡ Some failed.place
failed_told (Ok x) failed is = absurd is
failed_told (Err told) failed is = ap (λ (f : Failed). Some f.place) is

pub handed_on : {T : Type 0} (P : Failed → Type 0) (r : Result T Failed) (failed : Failed) → IsErrAnd r (λ told. told ≡ failed) → P failed → IfErr r P
handed_on P (Ok x) failed is holds = tt
handed_on P (Err told) failed is holds = subst P (sym is) holds

-- ---- counts

pub wrote_on : (l : Ledger) (a b : ℕ) → wrote (wrote l a) b ≡ wrote l (a + b)
wrote_on l a b = let sum : l.written + a + b ≡ l.written + (a + b) = omega arith in ap (λ (n : ℕ). record { input = l.input; attaches = l.attaches; written = n; syncs = l.syncs }) sum

pub wrote_most : (l new : Ledger) (a most : ℕ) → new ≡ wrote l a → a ≤ most → WroteMost most l new
wrote_most l new a most is le = let n : new.written ≡ l.written + a = ap (λ (x : Ledger). x.written) is in record { no_fewer = omega (arith, n); no_more = omega (arith, n, le) }

pub wrote_most_on : (l mid new : Ledger) (a b most : ℕ) → mid ≡ wrote l a → WroteMost b mid new → a + b ≤ most → WroteMost most l new
wrote_most_on l mid new a b most is more le = let n : mid.written ≡ l.written + a = ap (λ (x : Ledger). x.written) is in record { no_fewer = omega (arith, n, more.no_fewer); no_more = omega (arith, n, more.no_more, le) }
