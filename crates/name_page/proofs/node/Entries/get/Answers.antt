use Rattle.std.proofs.Common.{◌≡◌, ◌∙◌, ℕ, ◌<◌, List, length, sym, ap, subst}
use Rattle.std.specs.Prelude.{slice_index}
use Rattle.fsd_formats.specs.declared.entry.Entry.{Entry}
use Rattle.fsd_formats.specs.NamePage.{FitsEntry}
use Rattle.name_page.specs.Reading.{StandsAt, entry_at, entries_read}
use Rattle.name_page.proofs.PutLaws.{each_at}
use Rattle.name_page.proofs.node.Entries.get.Goals as goal

pub returns-clause-fits : goal.returns-clause-fits
returns-clause-fits c =
    let b : List ℕ = c.self.inside.image in
    let place : ℕ = slice_index c.self.inside.places c.args.i in
    let within : c.args.i < length (entries_read b) = subst (λ (xs : List Entry). c.args.i < length xs) (sym c.self.view_is) c.requires in
    let stands : StandsAt b c.args.i place = c.self.invariant.2.each c.args.i within in
    let is : c.entry_at.result ≡ entry_at place b = c.entry_at.ensures ∙ ap (λ (p : ℕ). entry_at p b) c.from.ensures in
    subst FitsEntry (sym is) (each_at FitsEntry (entries_read b) c.args.i (entry_at place b) stands.there c.self.invariant.1)
