use Rattle.std.proofs.Common.{◌≡◌, ◌≤◌, ℕ, length, ap, subst, ◌∙◌, arith}
use Rattle.volume_layout.specs.Kinds.{longest_of}
use Rattle.sector_disk.specs.Machine.{Names}
use Rattle.volume_format.specs.Formatting.{format_writes}
use Rattle.volume_format.proofs.FormatLaws.{formats, formats_if}
use Rattle.volume_format.proofs.RestLaws.{ends, kept_settled}
use Rattle.volume_format.proofs.formatting.format.Goals as goal

pub returns-clause-rest : goal.returns-clause-rest
returns-clause-rest g c h =
    let M = g.M.Machine in
    let h2 = c.settle.ensures.trust.honest h in
    let h1 = c.write_volume.ensures.disk.trust.honest h2 in
    kept_settled (format_writes c.args.l.now) (M.now c.args.m.now) (M.now c.healing.new.self) (c.in_ok-healing.ensures.named h1) (M.now c.write_volume.new.m) (M.now c.settle.new.self)
    (c.write_volume.ensures.disk.exit h2) (ends c.settle.result c.settle.ensures.settled c.settle.ensures.failed h)

pub returns-clause-done : goal.returns-clause-done
returns-clause-done g c =
    let M = g.M.Machine in
    let old = c.args.m.now in
    formats_if (M.now old) (M.now c.write_volume.new.m) (M.now c.settle.new.self) c.settle.result c.settle.ensures.settled
    (λ h settles fresh.
    let h2 = c.settle.ensures.trust.honest h in
    let h1 = c.write_volume.ensures.disk.trust.honest h2 in
    let h0 = c.healing.ensures.trust.honest h1 in
    let sized : c.args.l.now.sectors ≤ length (M.now old).image = omega (arith, g.met.M.Machine.sized old h0, c.requires) in
    let longest : c.longest.result ≡ longest_of c.args.l.now.kind = c.longest.ensures.value ∙ ap longest_of c.kind.ensures in
    formats c.args.l.now c.in_ok-write_volume.ensures.planned (M.now old) (M.now c.healing.new.self) (M.now c.write_volume.new.m) (M.now c.settle.new.self)
    sized fresh (subst (λ (n : ℕ). Names n (M.now old) (M.now c.healing.new.self)) longest (c.in_ok-healing.ensures.named h1)) (c.in_ok-write_volume.ensures.done h2) settles)
