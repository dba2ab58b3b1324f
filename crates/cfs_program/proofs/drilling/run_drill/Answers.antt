use Rattle.std.proofs.Common.{◌≡◌, ◌+◌, ◌++◌, ℕ, suc, Bool, true, false, List, subst, sym, arith, rules}
use Rattle.std.specs.Prelude.{is_err}
use Rattle.fsd_texts.specs.declared.line.Line.TheVariants as Says
use Rattle.fsd_texts.specs.Text.{text}
use Rattle.cfs_program.specs.Drill.{IsListOf, SaysLives, SpeaksBytes}
use Rattle.cfs_program.proofs.DrillLaws.{drills_all, drills_starved, drills_unsaid, says_next}
use Rattle.cfs_program.proofs.drilling.run_drill.Goals as goal

pub returns : goal.returns
returns g c =
    let M = g.M.Machine in
    let a = c.args.m.now in
    let b = c.loop-life.m in
    let end : c.loop-life.life ≡ 6 = omega (arith, c.loop-life-test.false, c.loop-life.auto.life-end) in
    drills_all M a b (subst (λ (lives : ℕ). SaysLives M lives a b) end c.loop-life.invariant)

pub returns-in_default : goal.returns-in_default
returns-in_default g c =
    let line = c.last_line.ensures in
    drills_starved g.M.Machine c.loop-life.life c.args.m.now c.loop-life.m c.last_line.new.m c.last_line.result c.loop-life-test.true c.loop-life.invariant line.says line.ledger line.status line.ends

pub returns-then-is_err : goal.returns-then-is_err
returns-then-is_err g c =
    let M = g.M.Machine in
    let lives = c.loop-life.life in
    let list = c.said.result.now in
    let b = c.loop-life.m in
    let d = c.say_life.new.m in
    let failed : is_err c.say_life.result ≡ true = search rules in
    let next : lives + 1 ≡ suc lives = omega arith in
    let is : IsListOf (suc lives) list = subst (λ (x : List ℕ). IsListOf (suc lives) x) (sym c.said.ensures) (subst (λ (n : ℕ). IsListOf n c.in-Ok.played.said.items) next c.in-Ok.ensures) in
    drills_unsaid M lives list c.args.m.now b d c.loop-life-test.true c.loop-life.invariant is
    (subst (λ (n : ℕ). SpeaksBytes M (text (Says.Life n) ++ list) true b d) next (subst (λ (x : Bool). SpeaksBytes M (text (Says.Life (lives + 1)) ++ list) x b d) failed c.say_life.ensures))

pub loop-life-preserved : goal.loop-life-preserved
loop-life-preserved g c =
    let M = g.M.Machine in
    let lives = c.loop-life.life in
    let list = c.said.result.now in
    let a = c.args.m.now in
    let b = c.loop-life.m in
    let d = c.say_life.new.m in
    let said : is_err c.say_life.result ≡ false = search rules in
    let next : lives + 1 ≡ suc lives = omega arith in
    let is : IsListOf (suc lives) list = subst (λ (x : List ℕ). IsListOf (suc lives) x) (sym c.said.ensures) (subst (λ (n : ℕ). IsListOf n c.in-Ok.played.said.items) next c.in-Ok.ensures) in
    subst (λ (n : ℕ). SaysLives M n a d) (sym next) (says_next M lives list a b d c.loop-life.invariant is
    (subst (λ (n : ℕ). SpeaksBytes M (text (Says.Life n) ++ list) false b d) next (subst (λ (x : Bool). SpeaksBytes M (text (Says.Life (lives + 1)) ++ list) x b d) said c.say_life.ensures)))
