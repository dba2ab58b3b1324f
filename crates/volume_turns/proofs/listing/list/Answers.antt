use Rattle.std.proofs.Common.{List, [], refl, sym, ap, None, false}
use Rattle.std.proofs.lemmas.List.{append-nil}
use Rattle.fsd_formats.specs.declared.entry.Entry.{Entry}
use Rattle.fsd_files.specs.Disk.{nowhere}
use Rattle.fsd_files.specs.declared.reply.Reply.TheVariants as Said
use Rattle.fsd_texts.specs.declared.command.Command.TheVariants as Word
use Rattle.scrub.proofs.LeadLaws.{worn_touches}
use Rattle.volume_contract.specs.State.{State, volume_of}
use Rattle.volume_turns.specs.Steps.{ended_by}
use Rattle.volume_turns.proofs.DidLaws.{answered_did, ended_did, goes_same, opens, reads_stay}
use Rattle.volume_turns.proofs.NumberLaws.{goes_none}
use Rattle.volume_turns.proofs.ReasonLaws.{none_written, reads_written}
use Rattle.volume_turns.proofs.StepLaws.{outside_does}
use Rattle.volume_turns.proofs.listing.list.Goals as goal

pub returns-in-Ok : goal.returns-in-Ok
returns-in-Ok g c =
    let V = g.V.Files in
    let M = g.M.Machine in
    let v = c.args.v.now in
    let w = c.collect.new.v in
    let a = c.args.m.now in
    let b = c.collect.new.m in
    let s = V.state v in
    let t = V.state w in
    let e = c.in-Ok.ensures in
    let disk = reads_stay M V.state V.holds a b v (λ h left worn k. g.met.V.Files.wears v k (M.now a) left (g.met.M.Machine.short a h) (record { image = worn.image; windows = worn.windows })) e.reads.disk in
    rw c.from.ensures
    (answered_did M V.state V.holds a b V.resident (Word.List c.args.pattern.now) v w (λ h. worn_touches nowhere (M.now a) (M.now b) (e.reads.disk.worn h).image) e.reads.same (goes_none 1 s t e.reads.same)
    _ c.requires.up (goes_same None s t e.reads.same) disk refl (λ h. tt) (λ tells. none_written (M.ledger a) (M.ledger b) (e.reads.disk.ledger tells)) e.because
    (λ h k stands. (
      k,
      record {
        met = record { forces = false; reached = 0; damaged = None; found = []; healed = 0 };
        is = ap (λ (x : List Entry). (Said.Listed x, volume_of k)) (sym (e.done h k stands));
        opened = refl;
        windows = refl;
        changes = sym (append-nil k.changes);
        find = tt;
        unworn = λ may. cc may;
      },
      e.reads.stands h k stands,
      tt,
    )))

pub returns-in-Err : goal.returns-in-Err
returns-in-Err g c =
    let V = g.V.Files in
    let M = g.M.Machine in
    let v = c.args.v.now in
    let w = c.collect.new.v in
    let a = c.args.m.now in
    let b = c.collect.new.m in
    let s = V.state v in
    let t = V.state w in
    let command = Word.List c.args.pattern.now in
    let why = c.in-Err.why in
    let e = c.in-Err.ensures in
    let disk = reads_stay M V.state V.holds a b v (λ h left worn k. g.met.V.Files.wears v k (M.now a) left (g.met.M.Machine.short a h) (record { image = worn.image; windows = worn.windows })) e.reads.disk in
    rw c.ended_by.ensures.is
    (ended_did M V.state V.holds a b V.resident command v w (λ h. worn_touches nowhere (M.now a) (M.now b) (e.reads.disk.worn h).image) e.reads.same (goes_none 1 s t e.reads.same)
    why e.refusal (ap (λ (x : State). x.layout) e.reads.same) (opens None s t (goes_same None s t e.reads.same)) disk e.told (λ tells. reads_written (M.ledger a) (M.ledger b) (e.reads.disk.ledger tells) (ended_by why))
    (λ h k stands. outside_does V.state V.holds command v w k (M.now a) (M.now b) why (e.done h k stands)))
