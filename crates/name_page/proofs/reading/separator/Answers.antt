use Rattle.std.proofs.Common.{◌+◌, ◌*◌, ◌∙◌, sym, ap, Some}
use Rattle.std.specs.Prelude.{nat_le, nat_lt}
use Rattle.std.proofs.lemmas.Bool.{and_parts}
use Rattle.fsd_bytes.specs.Keys.{is_key}
use Rattle.fsd_bytes.specs.Names.{is_name}
use Rattle.name_page.specs.Reading.{separator_at}
use Rattle.name_page.proofs.InteriorLaws.{separator_is_in}
use Rattle.name_page.proofs.reading.separator.Goals as goal

pub separator_at-requires-clause-name : goal.separator_at-requires-clause-name
separator_at-requires-clause-name c =
    let s = separator_is_in c.args.b.now c.args.i c.fits-b c.told-b c.requires in
    let x = separator_at (28 + 49 * c.args.i) c.args.b.now in
    (and_parts (is_name x.key.name) (nat_le 1 x.key.version) (and_parts (is_key x.key) (nat_lt x.child 4294967296) s.is).0).0

pub separator_at-requires-clause-within : goal.separator_at-requires-clause-within
separator_at-requires-clause-within c = (separator_is_in c.args.b.now c.args.i c.fits-b c.told-b c.requires).within

pub separator_at-requires-clause-room : goal.separator_at-requires-clause-room
separator_at-requires-clause-room c = (separator_is_in c.args.b.now c.args.i c.fits-b c.told-b c.requires).few

pub returns : goal.returns
returns c = (separator_is_in c.args.b.now c.args.i c.fits-b c.told-b c.requires).at ∙ ap Some (sym c.separator_at.ensures)
