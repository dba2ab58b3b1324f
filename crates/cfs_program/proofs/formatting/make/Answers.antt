use Rattle.std.proofs.Common.{◌≡◌, ℕ, inl, inr, refl, sym, ◌∙◌, ap, subst, arith}
use Rattle.sector_disk.specs.Machine.{Ledger}
use Rattle.sector_disk.proofs.Holding.{trusts_on}
use Rattle.fsd_texts.specs.declared.line.Line.{Line}
use Rattle.fsd_texts.specs.declared.fault.Fault.TheVariants as Ends
use Rattle.fsd_texts.specs.declared.line.Line.TheVariants as Lines
use Rattle.fsd_texts.specs.Text.{fault_text, format_line, text}
use Rattle.std.specs.Prelude.{Ok, ◌-◌}
use Rattle.volume_turns.proofs.SayLaws.{timed_by}
use Rattle.volume_turns.proofs.StatusLaws.{not_as}
use Rattle.cfs_program.specs.Formatting.{AsksAll, AsksAtMost, plan_asks}
use Rattle.cfs_program.proofs.FormatLaws.{failed_status, format_said, holds_behind, made_status}
use Rattle.cfs_program.proofs.CountsLaws.{made_counts, made_failed}
use Rattle.cfs_program.proofs.formatting.make.Goals as goal

pub returns-in-Ok : goal.returns-in-Ok
returns-in-Ok g c =
    let M = g.M.Machine in
    let a = c.args.m.now in
    let m = c.make_volume.new.m in
    let z = c.last_line.new.m in
    let l = c.args.l.now in
    let end = c.last_line.ensures in
    let made = c.make_volume.ensures in
    let line = Lines.Formatted c.sectors-sectors.result (c.sectors-sectors.result - c.data_start.result) in
    let timed = timed_by M g.met.M.Machine.dated g.met.M.Machine.history g.met.M.Machine.counts_now g.met.M.Machine.only_now in
    let is : line ≡ format_line (Ok l) =
    ap (λ (n : ℕ). Lines.Formatted n (n - c.data_start.result)) c.sectors-sectors.ensures.value ∙ ap (λ (n : ℕ). Lines.Formatted l.sectors (l.sectors - n)) c.data_start.ensures in
    record {
      status = made_status l c.last_line.result end.status;
      counts = made_counts (M.report a) (M.report m) (M.report z) c.last_line.result c.in-Ok.ensures.uses end.says.spares end.status;
      asks = λ t. subst (λ (new : Ledger). AsksAtMost (plan_asks (Ok l) c.args.path.now) (M.ledger a) new) (sym (end.ledger t)) (made.asks (end.says.trust.tells t));
      asked = λ zero t. subst (λ (new : Ledger). AsksAll (plan_asks (Ok l) c.args.path.now) (M.ledger a) new) (sym (end.ledger t)) (c.in-Ok.ensures.asked (end.says.trust.tells t));
      trust = trusts_on made.trust end.says.trust;
      says = λ h. format_said (Ok l) (M.report z).fault_place line 0 (M.now a) (M.now m) (M.now z) c.last_line.result
          (made.quiet (end.says.trust.honest h)) (inl (refl, ap (λ (x : Line). text x) is)) (end.says.exit h) (end.ends h);
      made = λ zero h.
          let back = end.says.trust.honest h in
          holds_behind M l line m z (timed m back) (timed z h) (end.says.since h) (end.says.any_moment h) (c.in-Ok.ensures.made back).synced (c.in-Ok.ensures.made back).holds;
      untouched = λ h. tt;
    }

-- a fault of the disk is said
pub returns-in-Err : goal.returns-in-Err
returns-in-Err g c =
    let M = g.M.Machine in
    let a = c.args.m.now in
    let m = c.make_volume.new.m in
    let z = c.last_line-in-Err.new.m in
    let l = c.args.l.now in
    let end = c.last_line-in-Err.ensures in
    let made = c.make_volume.ensures in
    let status = c.last_line-in-Err.result in
    let place : c.in-Err.failed.place ≡ (M.report z).fault_place = c.in-Err.ensures.uses.faults.told ∙ sym end.says.spares.place in
    record {
      status = failed_status l status end.status;
      counts = made_failed (M.report a) (M.report m) (M.report z) c.in-Err.failed.place status c.in-Err.ensures.uses end.says.spares end.status;
      asks = λ t. subst (λ (new : Ledger). AsksAtMost (plan_asks (Ok l) c.args.path.now) (M.ledger a) new) (sym (end.ledger t)) (made.asks (end.says.trust.tells t));
      asked = λ zero t. absurd (not_as 0 4 status (λ e. omega (arith, e)) (λ e. omega (arith, e)) end.status zero);
      trust = trusts_on made.trust end.says.trust;
      says = λ h. format_said (Ok l) (M.report z).fault_place (Lines.Ended (Ends.Device c.in-Err.failed.place)) 4 (M.now a) (M.now m) (M.now z) status
          (made.quiet (end.says.trust.honest h)) (inr (refl, ap (λ (p : ℕ). fault_text (Ends.Device p)) place)) (end.says.exit h) (end.ends h);
      made = λ zero h. absurd (not_as 0 4 status (λ e. omega (arith, e)) (λ e. omega (arith, e)) end.status zero);
      untouched = λ h. tt;
    }
