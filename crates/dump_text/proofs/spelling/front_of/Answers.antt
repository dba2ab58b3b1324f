use Rattle.std.proofs.Common.{◌≡◌, ◌&&◌, ℕ, ◌+◌, ◌≤◌, List, [], ◌∷◌, ◌++◌, length, Result, Ok, Err, sym, ap, ◌∙◌, arith}
use Rattle.std.specs.Prelude.{OnOk, nat_le}
use Rattle.std.specs.List.{list_all}
use Rattle.std.specs.Result.{IsOk}
use Rattle.std.proofs.lemmas.Bool.{and_parts, leb-true}
use Rattle.fsd_bytes.specs.Bytes.{u8, u16, u32}
use Rattle.fsd_bytes.specs.Names.{is_between, is_name_byte, max_name_len}
use Rattle.dump_text.proofs.spelling.front_of.Goals as goal

at_ok : {T E : Type 0} {P : Type 0} (r : Result T E) → IsOk r → OnOk r P → P
at_ok (Ok x) ok p = p
at_ok (Err e) ok p = absurd (cc ok)

pub returns : goal.returns
returns c = λ bytes size.
    let name : List ℕ = c.as_bytes-name.result.now in
    let v = c.as_bytes-name.ensures.value in
    let within = and_parts (is_between 1 max_name_len (length name)) (list_all is_name_byte name) (ap (λ (xs : List ℕ). is_between 1 max_name_len (length xs) && list_all is_name_byte xs) v ∙ c.as_bytes-name.ensures.name) in
    let most : length name ≤ 40 = leb-true (length name) max_name_len (and_parts (nat_le 1 (length name)) (nat_le (length name) max_name_len) within.0).1 in
    let first : c.push.new.self.items ≡ length name ∷ [] = c.push.ensures.items ∙ ap (λ (xs : List ℕ). xs ++ length name ∷ []) c.new-front.ensures in
    let one : length c.push.new.self.items ≡ 1 = ap (λ (xs : List ℕ). length xs) first in
    let e1 : c.try_extend_from_slice.new.self.items ≡ length name ∷ name =
    at_ok c.try_extend_from_slice.result (c.try_extend_from_slice.ensures.variant.1 (omega (arith, one, most))) c.try_extend_from_slice.ensures.ok ∙ ap (λ (xs : List ℕ). xs ++ name) first in
    let two : length c.try_extend_from_slice.new.self.items ≡ 1 + length name = ap (λ (xs : List ℕ). length xs) e1 ∙ omega arith in
    let e2 = at_ok c.try_extend_from_slice-2.result (c.try_extend_from_slice-2.ensures.variant.1 (omega (arith, two, most))) c.try_extend_from_slice-2.ensures.ok in
    e2 ∙ (λ i. e1 i ++ c.fields_of.ensures i)
    ∙ (λ i. length (v i) ∷ (v i ++ (u32 c.args.key.now.version ++ (u16 c.args.keep ++ (u8 0 ++ u32 (sym size i))))))
