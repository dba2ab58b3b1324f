use Rattle.std.proofs.Common.{◌∙◌, true, false, ap, sym, arith}
use Rattle.fsd_bytes.specs.Bytes.{same_bytes}
use Rattle.version_data.proofs.LeaderLaws.{no_leader, fits_again, leader_or_none}
use Rattle.version_data.proofs.leader.read_leader.Goals as goal

pub returns-in_err-read_bytes : goal.returns-in_err-read_bytes
returns-in_err-read_bytes c =
    c.from_residual.ensures
    ∙ no_leader c.from-count.result c.args.b.now c.fits-b c.told-b (cc) (omega arith) (omega arith) (sym c.read_bytes.ensures ∙ c.in_err-read_bytes.was)

pub leader_bytes-requires : goal.leader_bytes-requires
leader_bytes-requires c = fits_again c.from-count.result c.args.b.now c.in_ok-read_bytes.field-0 c.fits-b c.told-b (omega arith) (sym c.read_bytes.ensures ∙ c.in_ok-read_bytes.was)

pub returns-then-eq : goal.returns-then-eq
returns-then-eq c =
    leader_or_none c.from-count.result c.args.b.now c.in_ok-read_bytes.field-0 _ true c.fits-b c.told-b (cc) (omega arith) (omega arith) (sym c.read_bytes.ensures ∙ c.in_ok-read_bytes.was)
    (λ i. record { serial = record { epoch = c.u32_at.ensures i; count = c.u32_at-2.ensures i }; length = c.u32_at-3.ensures i; runs = c.in_ok-read_bytes.field-0 })
    (ap (λ y. same_bytes y c.args.b.now) (sym c.leader_bytes.ensures) ∙ sym c.eq.ensures ∙ c.if-eq.true)

pub returns-else-eq : goal.returns-else-eq
returns-else-eq c =
    leader_or_none c.from-count.result c.args.b.now c.in_ok-read_bytes.field-0 (record { serial = record { epoch = c.u32_at.result; count = c.u32_at-2.result }; length = c.u32_at-3.result; runs = c.in_ok-read_bytes.field-0 }) false c.fits-b c.told-b (cc) (omega arith) (omega arith) (sym c.read_bytes.ensures ∙ c.in_ok-read_bytes.was)
    (λ i. record { serial = record { epoch = c.u32_at.ensures i; count = c.u32_at-2.ensures i }; length = c.u32_at-3.ensures i; runs = c.in_ok-read_bytes.field-0 })
    (ap (λ y. same_bytes y c.args.b.now) (sym c.leader_bytes.ensures) ∙ sym c.eq.ensures ∙ c.if-eq.false)
