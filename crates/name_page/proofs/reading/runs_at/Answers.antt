use Rattle.std.proofs.Common.{◌≡◌, ℕ, suc, ◌+◌, ◌-◌, ◌*◌, ◌++◌, ◌∙◌, drop, length, ap, arith, List}
use Rattle.run_table.specs.declared.run.Run.{Run}
use Rattle.run_table.specs.RunTable.{runs_from}
use Rattle.std.proofs.lemmas.List.{length-append}
use Rattle.name_page.proofs.ReadingLaws.{runs_more}
use Rattle.name_page.proofs.reading.runs_at.Goals as goal

pub loop-i-preserved : goal.loop-i-preserved
loop-i-preserved c =
    let left : ℕ = c.from-count.result - (c.loop-i.i + 1) in
    let e : c.from-count.result - c.loop-i.i ≡ suc left = omega arith in
    let place : ℕ = c.args.place + 1 + 6 * c.loop-i.i in
    let next : c.args.place + 1 + 6 * (c.loop-i.i + 1) ≡ place + 6 = omega arith in (
      omega (arith, ap length c.push.ensures, length-append {A = Run} c.loop-i.runs, c.loop-i.invariant.0),
      ap (λ (x : List Run). x ++ runs_from left (drop (c.args.place + 1 + 6 * (c.loop-i.i + 1)) c.args.b.now)) c.push.ensures
          ∙ runs_more c.args.b.now c.loop-i.runs place _ left _ _ _ e next c.u32_at.ensures (c.from.ensures ∙ c.u16_at.ensures)
          ∙ c.loop-i.invariant.1,
    )
