use Rattle.std.proofs.Common.{◌≡◌, ℕ, ◌+◌, ap, ◌∙◌}
use Rattle.std.specs.Prelude.{slice_range}
use Rattle.fsd_bytes.specs.Bytes.{u8_at}
use Rattle.fsd_bytes.specs.Names.{is_name}
use Rattle.name_page.proofs.reading.separator_at.Goals as goal

pub of-requires : goal.of-requires
of-requires c =
    let b = c.args.b.now in
    let n : c.from-n.result ≡ u8_at c.args.place b = c.from-n.ensures ∙ c.u8_at.ensures in
    ap (λ (k : ℕ). is_name (slice_range b (c.args.place + 1) (c.args.place + 1 + k))) n ∙ c.requires.name
