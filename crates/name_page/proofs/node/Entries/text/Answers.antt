use Rattle.std.proofs.Common.{◌≡◌, ◌∙◌, ℕ, ◌<◌, List, length, Some, sym, ap, subst}
use Rattle.std.specs.Prelude.{slice_get, slice_index}
use Rattle.fsd_formats.specs.declared.entry.Entry.{Entry}
use Rattle.fsd_formats.specs.NamePage.{entry_bytes}
use Rattle.name_page.specs.Reading.{StandsAt, entry_at, entries_read}
use Rattle.name_page.proofs.node.Entries.text.Goals as goal

pub returns : goal.returns
returns c =
    let b : List ℕ = c.self.inside.image in
    let place : ℕ = slice_index c.self.inside.places c.args.i in
    let within : c.args.i < length (entries_read b) = subst (λ (xs : List Entry). c.args.i < length xs) (sym c.self.view_is) c.requires in
    let stands : StandsAt b c.args.i place = c.self.invariant.2.each c.args.i within in
    let there = subst (λ (xs : List Entry). slice_get xs c.args.i ≡ Some (entry_at place b)) c.self.view_is stands.there in
    (entry_at place b, there, c.text_at.ensures ∙ ap (λ (p : ℕ). entry_bytes (entry_at p b)) c.from.ensures)
