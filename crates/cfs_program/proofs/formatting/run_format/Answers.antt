use Rattle.std.proofs.Common.{Err, arith, inl, inr, refl, sym, ◌∙◌, ap, subst}
use Rattle.std.specs.Prelude.{Result}
use Rattle.volume_layout.specs.declared.layout.Layout.{Layout}
use Rattle.volume_layout.specs.declared.fault.LayoutFault.{LayoutFault}
use Rattle.sector_disk.specs.Machine.{Ledger}
use Rattle.fsd_texts.specs.declared.line.Line.TheVariants as Lines
use Rattle.volume_turns.proofs.StatusLaws.{not_as}
use Rattle.cfs_program.specs.Formatting.{RunsFormat}
use Rattle.cfs_program.proofs.FormatLaws.{format_said, unplanned_status, untouched_by}
use Rattle.cfs_program.proofs.CountsLaws.{counts_line}
use Rattle.cfs_program.proofs.formatting.run_format.Goals as goal

pub returns-in-Ok : goal.returns-in-Ok
returns-in-Ok g c =
    subst (λ (planned : Result Layout LayoutFault). RunsFormat g.M.Machine planned c.args.path.now c.args.m.now c.make.new.m c.make.result) (sym c.in-Ok.is ∙ c.plan_of.ensures) c.make.ensures

-- a plan that is refused is said
pub returns-in-Err : goal.returns-in-Err
returns-in-Err g c =
    let M = g.M.Machine in
    let a = c.args.m.now in
    let z = c.last_line.new.m in
    let why = c.in-Err.fault in
    let end = c.last_line.ensures in
    let status = c.last_line.result in
    subst (λ (planned : Result Layout LayoutFault). RunsFormat M planned c.args.path.now a z status) (sym c.in-Err.is ∙ c.plan_of.ensures) (record {
      status = unplanned_status why status end.status;
      counts = counts_line (M.report a) (M.report a) (M.report z) status refl refl end.says.spares 1 (λ e. omega (arith, e)) refl end.status;
      asks = λ t. record { input = ap (λ (l : Ledger). l.input) (end.ledger t); syncs = ap (λ (l : Ledger). l.syncs) (end.ledger t); attaches = inr (ap (λ (l : Ledger). l.attaches) (end.ledger t)) };
      asked = λ zero t. absurd (not_as 0 1 status (λ e. omega (arith, e)) (λ e. omega (arith, e)) end.status zero);
      trust = end.says.trust;
      says = λ h. format_said (Err why) (M.report z).fault_place (Lines.Unplanned why) 1 (M.now a) (M.now a) (M.now z) status refl (inl (refl, refl)) (end.says.exit h) (end.ends h);
      made = λ zero h. not_as 0 1 status (λ e. omega (arith, e)) (λ e. omega (arith, e)) end.status zero;
      untouched = λ h. untouched_by (Lines.Unplanned why) (M.now a) (M.now z) (end.says.exit h);
    })
