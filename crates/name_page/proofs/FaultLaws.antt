-- Faults of fields that are taken one after another.
use Rattle.std.proofs.Common.{◌≡◌, ℕ, suc, ◌+◌, ◌-◌, ◌<◌, not, ◌&&◌, ◌||◌, List, [], ◌∷◌, Option, Some, None, refl, sym, ap, ◌∙◌, arith}
use Rattle.std.proofs.lemmas.Bool.Decides.{nat_tests}
use Rattle.std.specs.Prelude.{◌==◌, nat_le, Err}
use Rattle.fsd_bytes.specs.declared.key.Key.{Key}
use Rattle.fsd_bytes.specs.declared.fault.NameFault.{NameFault}
use Rattle.fsd_bytes.specs.Names.{is_name, name_of}
use Rattle.fsd_bytes.proofs.NameLaws.{no_name}
use Rattle.fsd_bytes.specs.Bytes.{u8_at, u16_at}
use Rattle.name_page.specs.Fault.{first_bad, unless, zeros_fault, lengths_fault, key_at, entry_fault, entry_end, entries_fault, separator_key_at, separator_fault, separators_fault}

first_one : (a : Option ℕ) → first_bad (a ∷ []) ≡ a
first_one None = refl
first_one (Some place) = refl

-- where the first has no fault, the fault is the other's
pub second : (a b : Option ℕ) → a ≡ None → first_bad (a ∷ b ∷ []) ≡ b
second a b e = ap (λ (x : Option ℕ). first_bad (x ∷ b ∷ [])) e ∙ first_one b

pub first : (a : Option ℕ) (rest : List (Option ℕ)) (place : ℕ) → a ≡ Some place → first_bad (a ∷ rest) ≡ Some place
first a rest place e = ap (λ (x : Option ℕ). first_bad (x ∷ rest)) e

-- ---- zeros

pub zeros_more : (n left place byte : ℕ) (bytes : List ℕ) → n ≡ suc left → byte ≡ u8_at place bytes → unless place (byte == 0) ≡ None → zeros_fault n place bytes ≡ zeros_fault left (place + 1) bytes
zeros_more n left place byte bytes e is good =
    ap (λ (k : ℕ). zeros_fault k place bytes) e ∙ ap (λ (x : ℕ). first_bad (unless place (x == 0) ∷ zeros_fault left (place + 1) bytes ∷ [])) (sym is) ∙ second _ _ good

-- ---- the lengths of runs

pub lengths_more : (count left place sum need n : ℕ) (bytes : List ℕ) → count ≡ suc left → n ≡ u16_at (place + 4) bytes
    → unless (place + 4) (nat_le 1 n && (not (left == 0) || sum + n == need)) ≡ None
    → lengths_fault count place sum need bytes ≡ lengths_fault left (place + 6) (sum + n) need bytes
lengths_more count left place sum need n bytes e is good =
    ap (λ (k : ℕ). lengths_fault k place sum need bytes) e
    ∙ ap (λ (x : ℕ). first_bad (unless (place + 4) (nat_le 1 x && (not (left == 0) || sum + x == need)) ∷ lengths_fault left (place + 6) (sum + x) need bytes ∷ [])) (sym is)
    ∙ second _ _ good

-- ---- names

pub name_refused : (bytes : List ℕ) (fault : NameFault) (place : ℕ) → Err fault ≡ name_of bytes → unless place (is_name bytes) ≡ Some place
name_refused bytes fault place e = ap (unless place) (no_name bytes fault (sym e))

-- ---- entries

pub entries_more : (count left place limit end : ℕ) (before : Option Key) (key : Key) (bytes : List ℕ) → count ≡ suc left
    → entry_fault place limit (left == 0) before bytes ≡ None → key ≡ key_at place bytes → end ≡ entry_end place bytes
    → entries_fault count place limit before bytes ≡ entries_fault left end limit (Some key) bytes
entries_more count left place limit end before key bytes e good is ends =
    ap (λ (k : ℕ). entries_fault k place limit before bytes) e ∙ second _ _ good
    ∙ ap (λ (x : ℕ). entries_fault left x limit (Some (key_at place bytes)) bytes) (sym ends)
    ∙ ap (λ (x : Key). entries_fault left end limit (Some x) bytes) (sym is)

pub entries_bad : (count left place limit fault : ℕ) (before : Option Key) (bytes : List ℕ) → count ≡ suc left
    → entry_fault place limit (left == 0) before bytes ≡ Some fault → entries_fault count place limit before bytes ≡ Some fault
entries_bad count left place limit fault before bytes e bad = ap (λ (k : ℕ). entries_fault k place limit before bytes) e ∙ first _ _ fault bad

-- ---- separators

pub separators_more : (count left place p next : ℕ) (before : Option Key) (key : Key) (bytes : List ℕ) → count ≡ suc left
    → separator_fault place p before bytes ≡ None → key ≡ separator_key_at place bytes → next ≡ place + 49
    → separators_fault count place p before bytes ≡ separators_fault left next p (Some key) bytes
separators_more count left place p next before key bytes e good is there =
    ap (λ (k : ℕ). separators_fault k place p before bytes) e ∙ second _ _ good
    ∙ ap (λ (x : ℕ). separators_fault left x p (Some (separator_key_at place bytes)) bytes) (sym there)
    ∙ ap (λ (x : Key). separators_fault left next p (Some x) bytes) (sym is)

pub separators_bad : (count left place p fault : ℕ) (before : Option Key) (bytes : List ℕ) → count ≡ suc left
    → separator_fault place p before bytes ≡ Some fault → separators_fault count place p before bytes ≡ Some fault
separators_bad count left place p fault before bytes e bad = ap (λ (k : ℕ). separators_fault k place p before bytes) e ∙ first _ _ fault bad

-- the last has none behind it
pub last_of : (i count : ℕ) → i < count → (i + 1 == count) ≡ (count - (i + 1) == 0)
last_of i count h = grind (arith, nat_tests)
