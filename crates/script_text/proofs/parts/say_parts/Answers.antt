use Rattle.std.proofs.Common.{◌++◌, map}
use Rattle.fsd_texts.specs.Text.{line, part_text}
use Rattle.script_text.proofs.PartLaws.{if_put, line_is_said}
use Rattle.script_text.proofs.parts.say_parts.Goals as goal

pub returns : goal.returns
returns c =
    let parts = c.args.parts.now in
    let old = c.args.out.now in
    let out = c.loop-part.out in
    if_put c.append-2.result c.append-2.new.self out (old ++ line (map part_text parts)) c.append-2.ensures
    (line_is_said parts c.first-item.result old c.say_part.new.out out c.loop-part.part-index c.in-len1-up.len_at_least c.first-item.is
    c.in_ok-say_part.ensures c.loop-part.invariant c.loop-part-test.false)
