use Rattle.std.proofs.Common.{◌≡◌, List, ℕ, refl, ap, subst}
use Rattle.std.specs.Prelude.{Ok, Err}
use Rattle.sector_disk.specs.Image.{AreShort, Windows}
use Rattle.sector_disk.proofs.CallLaws.{writes_more}
use Rattle.fsd_texts.specs.declared.command.Command.TheVariants as Word
use Rattle.fsd_texts.specs.declared.fault.Fault.{Fault}
use Rattle.fsd_texts.specs.declared.fault.Fault.TheVariants as Ends
use Rattle.fsd_texts.specs.declared.script_command.ScriptCommand.TheVariants.{Plain}
use Rattle.client_desk.specs.Clients.{no_desk}
use Rattle.volume_turns.specs.declared.turns.Halt.TheVariants.{Fault as Stopped}
use Rattle.volume_turns.specs.Loading.{LoadsOne}
use Rattle.volume_turns.specs.Seats.{known_of}
use Rattle.volume_turns.proofs.LoadingLaws.{loaded_fault, loaded_step}
use Rattle.volume_turns.proofs.NumberLaws.{worn_may}
use Rattle.volume_turns.proofs.SayLaws.{timed_by}
use Rattle.volume_turns.proofs.SeatLaws.{desk_holds, desk_on, plain_does, seat_wears, stays_in}
use Rattle.volume_turns.proofs.SpeaksLaws.{speaks_behind, speaks_failed, speaks_still}
use Rattle.volume_turns.proofs.loading.load_one.Goals as goal

pub returns-in-Ok : goal.returns-in-Ok
returns-in-Ok g c =
    let V = g.V.Files in
    let M = g.M.Machine in
    let a = c.args.m.now in
    let b = c.load.new.m in
    let v = c.args.v.now in
    let w = c.load.new.v in
    let did = c.in-Ok.ensures in
    let desk = desk_on (V.state v) (V.state w) no_desk did.layout did.opened c.requires.idle in
    let command = Word.Load c.args.item.now.key c.args.item.now.keep c.bytes_of.result.now in
    record {
      keeps = record { layout = did.layout; up = did.up; desk = desk };
      speaks = speaks_behind did.disk (speaks_still b c.refusal_of.result);
      says = record { quiet = did.disk.quiet; image = tt };
      numbers = record { grows = λ h. (did.tells.answers h).numbers; used = λ is h. absurd (cc is) };
      loads = subst (λ (bytes : List ℕ). LoadsOne V.state V.holds M (Plain (Word.Load c.args.item.now.key c.args.item.now.keep bytes)) v a w b (Ok c.refusal_of.result)) c.bytes_of.ensures
          (λ h k f from stood aged held.
          let disk = writes_more did.disk (λ x left stays. stays_in V.state V.holds (v, no_desk) (M.now a) left stays) in
          let short = λ (m : g.row.M.Denot) (x : M.honest m). g.met.M.Machine.short m x in
          let at = seat_wears V.state V.holds g.met.V.Files.wears (v, no_desk) k from (M.now a) (subst (λ (x : Windows). AreShort x) aged.windows (short a (disk.trust.honest h))) aged stood in
          let does = plain_does V.state V.holds command v w no_desk k (M.now a) (M.now b) at (desk_holds V.state V.holds v w no_desk k (M.now a) (M.now b) at desk) (Ok c.in-Ok.answer) (did.done h (known_of k) at.stands) in
          rw c.refusal_of.ensures (loaded_step V.state V.holds M g.met.V.Files.wears short (timed_by M g.met.M.Machine.dated g.met.M.Machine.history g.met.M.Machine.counts_now g.met.M.Machine.only_now) command v w a b k f from stood aged at _ disk did.layout h held does.0 c.in-Ok.answer does.1 does.2));
    }

pub returns-in-Err : goal.returns-in-Err
returns-in-Err g c =
    let V = g.V.Files in
    let M = g.M.Machine in
    let a = c.args.m.now in
    let b = c.load.new.m in
    let v = c.args.v.now in
    let w = c.load.new.v in
    let did = c.in-Err.ensures in
    let desk = desk_on (V.state v) (V.state w) no_desk did.layout did.opened c.requires.idle in
    let command = Word.Load c.args.item.now.key c.args.item.now.keep c.bytes_of.result.now in
    record {
      keeps = record { layout = did.layout; up = tt; desk = desk };
      speaks = speaks_failed c.in-Err.fault refl did.tells.fault did.disk;
      says = record { quiet = did.disk.quiet; image = λ h. (did.tells.answers h).told };
      numbers = record {
        grows = λ h. (did.tells.answers h).numbers;
        used = λ is h.
            let e : c.in-Err.fault ≡ Ends.WornOut = cc is in
            worn_may (V.state v) ((did.tells.answers h).worn (ap (λ (x : Fault). Err x) e));
      };
      loads = subst (λ (bytes : List ℕ). LoadsOne V.state V.holds M (Plain (Word.Load c.args.item.now.key c.args.item.now.keep bytes)) v a w b (Err (Stopped c.in-Err.fault))) c.bytes_of.ensures
          (λ h k f from stood aged held.
          let disk = writes_more did.disk (λ x left stays. stays_in V.state V.holds (v, no_desk) (M.now a) left stays) in
          let short = λ (m : g.row.M.Denot) (x : M.honest m). g.met.M.Machine.short m x in
          let at = seat_wears V.state V.holds g.met.V.Files.wears (v, no_desk) k from (M.now a) (subst (λ (x : Windows). AreShort x) aged.windows (short a (disk.trust.honest h))) aged stood in
          loaded_fault V.state V.holds M g.met.V.Files.wears short (timed_by M g.met.M.Machine.dated g.met.M.Machine.history g.met.M.Machine.counts_now g.met.M.Machine.only_now) command v w a b k f from stood aged at _ disk did.layout h held c.in-Err.fault
          (plain_does V.state V.holds command v w no_desk k (M.now a) (M.now b) at (desk_holds V.state V.holds v w no_desk k (M.now a) (M.now b) at desk) (Err c.in-Err.fault) (did.done h (known_of k) at.stands)));
    }
