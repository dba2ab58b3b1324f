use Rattle.std.proofs.Common.{◌∙◌, sym, ap, []}
use Rattle.script_text.specs.Reading.{Reading}
use Rattle.script_text.proofs.LeftLaws.{script}
use Rattle.script_text.proofs.ReaderLaws.{bad_line, open_of, stays}
use Rattle.script_text.proofs.reader.Reader.go_on.Goals as goal

pub returns-else-needs_more-clause-script : goal.returns-else-needs_more-clause-script
returns-else-needs_more-clause-script g c h =
    ap (script []) c.end_by.ensures
    ∙ bad_line c.args.self.now c.args.cause _ (open_of _ _ _ _ _ c.args.self.now c.self.invariant c.self.view_is c.requires.open) c.requires.no_command (sym c.needs_more.ensures ∙ c.if-needs_more.false)

pub returns-else-needs_more-clause-grows : goal.returns-else-needs_more-clause-grows
returns-else-needs_more-clause-grows g c h = stays _ _ _ (ap (λ (r : Reading). r.taken) c.self.view_is) (ap (λ (r : Reading). r.waiting) c.self.view_is) (λ e. absurd cc)
