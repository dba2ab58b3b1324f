use Rattle.std.proofs.Common.{◌∙◌, sym, ap}
use Rattle.script_text.specs.Making.{Making, made_left}
use Rattle.script_text.proofs.MakerLaws.{makes_next}
use Rattle.script_text.proofs.maker.Maker.next_command.Goals as goal

pub returns : goal.returns
returns c =
    let now : Making = record { left = c.self.inside.left; ordinal = c.self.inside.ordinal; state = c.self.inside.state } in
    ap made_left (sym c.self.view_is) ∙ makes_next now c.in_ok-command.command c.next_state-state.result c.if-self-eq0.false c.next_state-state.ensures c.in_ok-command.ensures
