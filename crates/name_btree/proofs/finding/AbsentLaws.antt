-- Whether an entry has a key.
use Rattle.std.proofs.Common.{◌≡◌, false, Option, Some, None, refl}
use Rattle.std.specs.Option.{is_some}
use Rattle.fsd_formats.specs.declared.entry.Entry.{Entry}

pub absent : (o : Option Entry) → is_some o ≡ false → o ≡ None
absent None h = refl
absent (Some e) h = absurd cc
