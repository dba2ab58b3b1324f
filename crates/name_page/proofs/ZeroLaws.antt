-- Bytes that are zero.
use Rattle.std.proofs.Common.{◌≡◌, ℕ, zero, suc, ◌+◌, ◌≤◌, List, [], ◌∷◌, ◌++◌, length, drop, None, refl, sym, ap, ◌∙◌, arith}
use Rattle.std.specs.Prelude.{◌==◌}
use Rattle.std.proofs.lemmas.Bool.{eqb-true, eq-eqb}
use Rattle.std.proofs.lemmas.List.{drop-drop}
use Rattle.fsd_bytes.specs.Bytes.{u8_at, zeros}
use Rattle.fsd_bytes.proofs.FieldLaws.{u8_there}
use Rattle.name_page.specs.Fault.{unless, zeros_fault}
use Rattle.name_page.proofs.FirstLaws.{none_both, none_from, good_from, none_at}
use Rattle.name_page.proofs.PieceLaws.{u8_again}

pub zeros_accepted : (n place next : ℕ) (bytes : List ℕ) → next ≡ place + n → next ≤ length bytes → zeros_fault n place bytes ≡ None → zeros n ++ drop next bytes ≡ drop place bytes
zeros_accepted zero place next bytes e inside none = ap (λ (k : ℕ). drop k bytes) (let same : next ≡ place = omega arith in same)
zeros_accepted (suc n) place next bytes e inside none =
    let p = none_both (unless place (u8_at place bytes == 0)) (zeros_fault n (place + 1) bytes ∷ []) none in
    let is : u8_at place bytes ≡ 0 = eqb-true _ _ (good_from place _ p.0) in
    let more = zeros_accepted n (place + 1) next bytes (omega arith) inside (none_both _ [] p.1).0 in
    ap (λ (x : ℕ). x ∷ (zeros n ++ drop next bytes)) (sym is) ∙ ap (λ (x : List ℕ). u8_at place bytes ∷ x) more ∙ u8_again bytes place (place + 1) refl (omega arith)

pub zeros_unfaulted : (n place : ℕ) (bytes rest : List ℕ) → zeros n ++ rest ≡ drop place bytes → zeros_fault n place bytes ≡ None
zeros_unfaulted zero place bytes rest e = refl
zeros_unfaulted (suc n) place bytes rest e =
    let is : u8_at place bytes ≡ 0 = sym (u8_there place bytes) ∙ ap (u8_at 0) (sym e) in
    let more : zeros n ++ rest ≡ drop (place + 1) bytes = ap (drop 1) e ∙ drop-drop 1 place bytes in
    none_from (unless place (u8_at place bytes == 0)) (zeros_fault n (place + 1) bytes ∷ []) (none_at place _ (eq-eqb _ _ is))
    (none_from _ [] (zeros_unfaulted n (place + 1) bytes rest more) refl)
