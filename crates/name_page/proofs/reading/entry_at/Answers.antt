use Rattle.std.proofs.Common.{◌≡◌, ℕ, ◌+◌, ◌≤◌, drop, ap, sym, subst, ◌∙◌, arith}
use Rattle.std.specs.Prelude.{slice_range}
use Rattle.fsd_bytes.specs.Bytes.{u8_at}
use Rattle.name_page.specs.Reading.{entry_at}
use Rattle.name_page.proofs.ReadingLaws.{named_entry, runs_few}
use Rattle.name_page.proofs.reading.entry_at.Goals as goal
use Rattle.run_table.proofs.RunLaws.{count_runs}

pub of-requires : goal.of-requires
of-requires c =
    let e = entry_at c.args.place c.args.b.now in
    let n : c.from.result ≡ u8_at c.args.place c.args.b.now = c.from.ensures ∙ c.u8_at.ensures in
    named_entry e (slice_range c.args.b.now (c.args.place + 1) (c.args.place + 1 + c.from.result)) c.requires.entry (ap (λ (k : ℕ). slice_range c.args.b.now (c.args.place + 1) (c.args.place + 1 + k)) n)

pub runs_at-requires-clause-count : goal.runs_at-requires-clause-count
runs_at-requires-clause-count c =
    let e = entry_at c.args.place c.args.b.now in
    let n : c.from.result ≡ u8_at c.args.place c.args.b.now = c.from.ensures ∙ c.u8_at.ensures in
    let v : ℕ = c.args.place + 1 + u8_at c.args.place c.args.b.now in
    let P : ℕ → Type 0 = λ (k : ℕ). u8_at (c.args.place + 1 + k + 18) c.args.b.now ≤ 8 in
    let few : u8_at (v + 18) c.args.b.now ≤ 8 = omega (arith, runs_few e c.requires.entry, count_runs (u8_at (v + 18) c.args.b.now) (drop (v + 19) c.args.b.now)) in
    subst P (sym n) few
