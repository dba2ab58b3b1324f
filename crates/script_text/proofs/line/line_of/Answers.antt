use Rattle.std.proofs.Common.{◌∙◌, sym, arith}
use Rattle.script_text.proofs.LineLaws.{line_place, long_line, no_newline}
use Rattle.script_text.proofs.line.line_of.Goals as goal

pub returns-in-Some-clause-line : goal.returns-in-Some-clause-line
returns-in-Some-clause-line c = line_place 128 c.min-most.result c.args.bytes.now c.min-most.ensures c.in-Some.place (sym c.newline_in.ensures ∙ c.in-Some.is)

pub returns-in-None-clause-line : goal.returns-in-None-clause-line
returns-in-None-clause-line c = long_line 128 c.min-most.result c.args.bytes.now c.min-most.ensures (sym c.newline_in.ensures ∙ c.in-None.is) (omega arith)

pub returns-in-None-2-clause-line : goal.returns-in-None-2-clause-line
returns-in-None-2-clause-line c = no_newline 128 c.min-most.result c.args.bytes.now c.min-most.ensures (sym c.newline_in.ensures ∙ c.in-None.is) (omega arith)
