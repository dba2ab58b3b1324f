use Rattle.std.proofs.Common.{◌≡◌, inl, inr, ℕ, ◌+◌, List, ◌++◌, length, take, drop, replicate, ap, ◌∙◌, arith}
use Rattle.std.proofs.lemmas.Bool.{cases_lt}
use Rattle.std.proofs.lemmas.List.{length-take-le}
use Rattle.fsd_bytes.specs.Keys.{read_name}
use Rattle.fsd_dumps.specs.Front.{last_byte}
use Rattle.dump_text.proofs.Fields.{too_long, filled}
use Rattle.dump_text.proofs.begin.greatest_name.Goals as goal

pub returns-then-n-gt40 : goal.returns-then-n-gt40
returns-then-n-gt40 c = too_long c.args.n c.args.bytes.now c.if-n-gt40.true

pub returns : goal.returns
returns c =
    let n : ℕ = c.args.n in
    let g : ℕ = c.min-given.result in
    let bytes : List ℕ = c.args.bytes.now in
    let size : length (take g bytes) ≡ g = length-take-le g bytes (omega (arith, c.min-given.ensures)) in
    let at : 0 + length (take g bytes) ≡ g = omega (arith, size) in
    let whole = filled n g 40 bytes (omega (arith, c.min-given.ensures)) (omega (arith, c.min-given.ensures))
    (elim (cases_lt n (length bytes)) [ inl lt ↦ inl (omega (arith, lt, c.min-given.ensures)) | inr le ↦ inr (omega (arith, le, c.min-given.ensures)) ])
    (omega (arith, c.if-n-gt40.false)) in
    c.name_if.ensures ∙ ap read_name (ap (take n) (c.lay_front.ensures ∙ ap (λ (k : ℕ). take g bytes ++ drop k (replicate 40 last_byte)) at) ∙ whole)
