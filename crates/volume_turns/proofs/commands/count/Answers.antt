use Rattle.std.proofs.Common.{[], None, false, inl, refl, sym, ap}
use Rattle.std.proofs.lemmas.List.{append-nil}
use Rattle.sector_disk.proofs.CallLaws.{writes_none}
use Rattle.sector_disk.proofs.Holding.{wears_none}
use Rattle.fsd_files.specs.declared.reply.Reply.{Reply}
use Rattle.fsd_texts.specs.declared.command.Command.TheVariants as Word
use Rattle.volume_contract.specs.State.{volume_of}
use Rattle.volume_turns.specs.Steps.{Stays}
use Rattle.volume_turns.proofs.DidLaws.{answered_did, goes_same}
use Rattle.volume_turns.proofs.NumberLaws.{goes_none}
use Rattle.volume_turns.proofs.ReasonLaws.{none_written}
use Rattle.volume_turns.proofs.StepLaws.{counts_are, wear_stays}
use Rattle.volume_turns.proofs.commands.count.Goals as goal

pub returns : goal.returns
returns g c =
    let V = g.V.Files in
    let M = g.M.Machine in
    let v = c.args.v.now in
    let m = c.args.m.now in
    let s = V.state v in
    let said = c.stat-counts.result in
    let e = c.stat-counts.ensures in
    let disk = writes_none m (λ left h was. g.met.M.Machine.only_now m left h was) (Stays V.state V.holds v) (λ h. wear_stays V.state V.holds v (M.now m) (M.now m) (λ k stands. stands) (wears_none (M.now m))) in
    answered_did M V.state V.holds m m V.resident Word.Stat v v (λ h. record { size = refl; others = λ n out. inl refl }) refl (goes_none 1 s s refl)
    _ c.requires.up (goes_same None s s refl) disk refl (λ h. tt) (λ tells. none_written (M.ledger m) (M.ledger m) refl) (λ h. tt)
    (λ h k stands. (
      k,
      record {
        met = record { forces = false; reached = 0; damaged = None; found = []; healed = 0 };
        is = ap (λ (r : Reply). (r, volume_of k)) (counts_are s k.mounted stands.fits said.free said.waiting said.pages_free said.versions e.free e.waiting e.pages_free e.versions);
        opened = refl;
        windows = refl;
        changes = sym (append-nil k.changes);
        find = tt;
        unworn = λ may. cc may;
      },
      stands,
      tt,
    ))
