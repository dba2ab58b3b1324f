use Rattle.std.proofs.Common.{◌≡◌, ◌++◌, ◌∙◌, List, ℕ, true, subst}
use Rattle.std.specs.Prelude.{is_err}
use Rattle.fsd_texts.specs.declared.line.Line.TheVariants as Says
use Rattle.fsd_texts.specs.Text.{text}
use Rattle.cfs_program.specs.Drill.{SpeaksBytes}
use Rattle.cfs_program.proofs.DrillLaws.{speaks_cut, speaks_then}
use Rattle.cfs_program.proofs.drilling.say_life.Goals as goal

pub returns-in-Ok : goal.returns-in-Ok
returns-in-Ok g c =
    let M = g.M.Machine in
    let a = c.args.m.now in
    let b = c.say-in-Ok.new.m in
    let list = c.args.list.now in
    let failed = is_err c.say-in-Ok.result in
    let line : c.as_slice.result.now ≡ text (Says.Life c.args.number) = c.as_slice.ensures.value ∙ c.lay_line-line.ensures in
    subst (λ (x : List ℕ). SpeaksBytes M (x ++ list) failed a b) line (speaks_then M c.as_slice.result.now list failed a c.say.new.m b c.in-Ok.ensures c.say-in-Ok.ensures)

pub returns-in-Err : goal.returns-in-Err
returns-in-Err g c =
    let M = g.M.Machine in
    let a = c.args.m.now in
    let b = c.say.new.m in
    let list = c.args.list.now in
    let line : c.as_slice.result.now ≡ text (Says.Life c.args.number) = c.as_slice.ensures.value ∙ c.lay_line-line.ensures in
    subst (λ (x : List ℕ). SpeaksBytes M (x ++ list) true a b) line (speaks_cut M c.as_slice.result.now list a b c.in-Err.ensures)
