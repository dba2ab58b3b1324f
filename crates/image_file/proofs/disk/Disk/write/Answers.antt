use Rattle.std.proofs.Common.{◌/◌, length, sym, subst}
use Rattle.image_file.specs.declared.ahead.Ahead.{Ahead}
use Rattle.image_file.specs.Ahead.{AreApart}
use Rattle.image_file.proofs.disk.Disk.write.Goals as goal

pub returns-clause-ahead : goal.returns-clause-ahead
returns-clause-ahead c =
    let apart = λ (a : Ahead). AreApart c.args.sector (length c.args.bytes.now / 512) a in
    subst apart (sym c.go_on.ensures.ahead) (subst apart (sym c.end_others.ensures.ahead) c.drop_at.ensures.apart)

pub returns-clause-there : goal.returns-clause-there
returns-clause-there c = c.go_on.ensures.there
