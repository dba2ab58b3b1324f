use Rattle.std.proofs.Common.{◌≡◌, ℕ, false, Option, refl, sym, subst}
use Rattle.fsd_texts.specs.declared.line.Line.{Line}
use Rattle.volume_turns.specs.Last.{EndsSo, SaysLast, ending_status}
use Rattle.volume_turns.specs.Line.{is_unsaid}
use Rattle.volume_turns.proofs.ScriptLastLaws.{line_unsaid}
use Rattle.volume_turns.proofs.script.say_last.Goals as goal

pub last_line-requires : goal.last_line-requires
last_line-requires g c = subst (λ (n : ℕ). is_unsaid n ≡ false) (sym c.ending_status-gives.ensures) (line_unsaid c.args.ended c.in-Some.line (sym c.in-Some.ensures))

pub returns-in-Some-clause-last : goal.returns-in-Some-clause-last
returns-in-Some-clause-last g c =
    let M = g.M.Machine in
    let said = c.last_line.ensures in
    subst (λ (o : Option Line). EndsSo M o (ending_status c.args.ended) c.args.m.now c.last_line.new.m c.last_line.result) c.in-Some.ensures
    (subst (λ (n : ℕ). SaysLast M c.in-Some.line n c.args.m.now c.last_line.new.m c.last_line.result) c.ending_status-gives.ensures (record { says = said.says; ends = said.ends; status_is = said.status }))

pub returns-in-None-clause-last : goal.returns-in-None-clause-last
returns-in-None-clause-last g c =
    subst (λ (o : Option Line). EndsSo g.M.Machine o (ending_status c.args.ended) c.args.m.now c.args.m.now c.ending_status-gives.result) c.in-None.ensures (c.ending_status-gives.ensures, refl)
