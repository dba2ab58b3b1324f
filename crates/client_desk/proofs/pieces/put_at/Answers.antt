use Rattle.std.proofs.Common.{◌≡◌, ℕ, ◌+◌, ◌-◌, List, length, ap, ◌∙◌, arith}
use Rattle.std.proofs.lemmas.Slice.{drop-put_mid}
use Rattle.client_desk.proofs.pieces.put_at.Goals as goal

pub returns-clause-rest : goal.returns-clause-rest
returns-clause-rest c =
    let at = c.args.at in
    let bytes = c.args.bytes.now in
    let k : length bytes ≡ at + length bytes - at = omega arith in
    drop-put_mid at (at + length bytes - at) c.args.slice.now c.copy_from_slice.new.self (at + length bytes) (omega arith) (omega arith) (ap (λ (xs : List ℕ). length xs) c.copy_from_slice.ensures.after ∙ k)
