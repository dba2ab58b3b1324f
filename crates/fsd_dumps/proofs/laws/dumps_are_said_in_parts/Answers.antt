use Rattle.std.proofs.Common.{ℕ, List, ◌∷◌, length, ap, append_assoc, sym}
use Rattle.fsd_dumps.specs.Dump.{fields_bytes}
use Rattle.fsd_dumps.proofs.Parts.{parts_are}
use Rattle.fsd_dumps.proofs.laws.dumps_are_said_in_parts.Goals as goal

pub returns-clause-version : goal.returns-clause-version
returns-clause-version c = λ x. ap (λ (xs : List ℕ). length x.key.name ∷ xs) (sym (append_assoc x.key.name (fields_bytes x) x.bytes))

pub returns-clause-parts : goal.returns-clause-parts
returns-clause-parts c = parts_are
