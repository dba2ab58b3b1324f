use Rattle.std.proofs.Common.{[], ℕ, refl, sym, ap, subst, Result, None, Err}
use Rattle.fsd_bytes.specs.declared.refusal.Refusal.{Refusal}
use Rattle.fsd_files.specs.declared.reply.Reply.{Reply}
use Rattle.fsd_files.specs.declared.reply.Reply.TheVariants as Said
use Rattle.fsd_texts.specs.declared.call.Call.TheVariants as Calls
use Rattle.fsd_texts.specs.declared.fault.Fault.{Fault}
use Rattle.fsd_texts.specs.declared.script_command.ScriptCommand.TheVariants.{OfClient}
use Rattle.volume_contract.specs.Ends.{device_of}
use Rattle.volume_contract.specs.State.{State}
use Rattle.sector_disk.proofs.CallLaws.{writes_told}
use Rattle.fsd_files.specs.Desk.{open_outcome}
use Rattle.client_desk.specs.Clients.{as_idle}
use Rattle.volume_turns.specs.Reasons.{BecauseOpened}
use Rattle.volume_turns.specs.Seats.{DoesIn, known_of}
use Rattle.volume_turns.proofs.CallEndLaws.{open_does}
use Rattle.volume_turns.proofs.CallKeepLaws.{holds_continues, holds_goes, seat_same, seat_still}
use Rattle.volume_turns.proofs.CallLaws.{answers_does, met_none, reads_stay}
use Rattle.volume_turns.proofs.CallOrderLaws.{declined_answers, declined_device, look_up_more, open_declines, open_unworn, test_client}
use Rattle.volume_turns.proofs.NumberLaws.{goes_none}
use Rattle.volume_turns.proofs.ReasonLaws.{no_reason, showed_here}
use Rattle.volume_turns.proofs.ToldLaws.{told_of}
use Rattle.volume_turns.proofs.calls.open.Goals as goal

-- ---- it is open

pub returns-in-Ok-clause-keeps : goal.returns-in-Ok-clause-keeps
returns-in-Ok-clause-keeps g c =
    let V = g.V.Files in
    let kept = c.in-Ok.ensures.state.kept in
    seat_still (holds_continues kept.reader.held (V.state c.args.v.now) (V.state c.open_key.new.v) kept.volume) c.requires.up c.in-Ok.ensures.state.desk

pub returns-in-Ok-clause-disk : goal.returns-in-Ok-clause-disk
returns-in-Ok-clause-disk g c =
    let V = g.V.Files in
    let M = g.M.Machine in
    let v = c.args.v.now in
    reads_stay V.state V.holds M c.args.m.now c.open_key.new.m None c.args.v.now c.args.desk.now (λ k left. g.met.V.Files.wears c.args.v.now k (M.now c.args.m.now) left) (g.met.M.Machine.short c.args.m.now) c.in-Ok.ensures.disk

pub returns-in-Ok-clause-answers : goal.returns-in-Ok-clause-answers
returns-in-Ok-clause-answers g c h =
    let V = g.V.Files in
    let kept = c.in-Ok.ensures.state.kept in
    record {
      replies = (refl, test_client as_idle c.args.desk.now c.args.client c.in-Ok.ensures.order.0);
      worn = λ is. absurd (cc is);
      numbers = holds_goes kept.reader.held (V.state c.args.v.now) (V.state c.open_key.new.v) kept.volume;
      told = tt;
    }

pub returns-in-Ok-clause-because : goal.returns-in-Ok-clause-because
returns-in-Ok-clause-because g c h =
    let V = g.V.Files in
    let M = g.M.Machine in
    let found = c.in-Ok.ensures.causes.found in
    (found.0, found.1, found.2, showed_here V.state V.resident c.args.v.now (V.state c.open_key.new.v) (M.now c.args.m.now) (M.now c.open_key.new.m) _ (found.3 h))

pub returns-in-Ok-clause-done : goal.returns-in-Ok-clause-done
returns-in-Ok-clause-done g c h k sits =
    let V = g.V.Files in
    let M = g.M.Machine in
    let e = c.in-Ok.ensures.done h (known_of k) k.clients sits in
    answers_does V.state V.holds c.args.client (Calls.Open c.args.key.now) c.args.v.now c.open_key.new.v c.args.desk.now c.open_key.new.self k (M.now c.args.m.now) (M.now c.open_key.new.m) c.in-Ok.ensures.state.desk
    (λ s. open_outcome e.held s c.args.client c.args.key.now) (record { met = met_none; held = e.held }) refl tt (Said.Opened c.args.client c.in-Ok.length) [] refl (λ may. cc may) e.answers

-- ---- it is refused

pub returns-in-Err-clause-keeps : goal.returns-in-Err-clause-keeps
returns-in-Err-clause-keeps g c = seat_same c.in-Err.ensures.state.kept.volume c.requires.up c.in-Err.ensures.state.desk

pub returns-in-Err-clause-disk : goal.returns-in-Err-clause-disk
returns-in-Err-clause-disk g c =
    let V = g.V.Files in
    let M = g.M.Machine in
    let v = c.args.v.now in
    let s = V.state v in
    let client = c.args.client in
    let call = Calls.Open c.args.key.now in
    let declines = look_up_more client call [] s c.in-Err.why (open_declines s c.requires.up c.args.desk.now client [] c.in-Err.why c.args.key.now c.in-Err.ensures.order) in
    writes_told (declined_device client call [] s c.in-Err.why declines c.ended_by.result c.ended_by.ensures.is)
    (reads_stay V.state V.holds M c.args.m.now c.open_key.new.m (device_of c.in-Err.why) c.args.v.now c.args.desk.now (λ k left. g.met.V.Files.wears c.args.v.now k (M.now c.args.m.now) left) (g.met.M.Machine.short c.args.m.now) c.in-Err.ensures.disk)

pub returns-in-Err-clause-answers : goal.returns-in-Err-clause-answers
returns-in-Err-clause-answers g c h =
    let V = g.V.Files in
    let M = g.M.Machine in
    let s = V.state c.args.v.now in
    let t = V.state c.open_key.new.v in
    let client = c.args.client in
    let call = Calls.Open c.args.key.now in
    let why = c.in-Err.why in
    let image = (M.now c.open_key.new.m).image in
    declined_answers client call s t (M.now c.args.m.now) (M.now c.open_key.new.m) why c.ended_by.result c.ended_by.ensures.is
    (look_up_more client call image s why (open_declines s c.requires.up c.args.desk.now client image why c.args.key.now c.in-Err.ensures.order))
    (goes_none 1 s t c.in-Err.ensures.state.kept.volume)
    (told_of s t (V.resident c.args.v.now) (M.now c.args.m.now) (M.now c.open_key.new.m) (ap (λ (x : State). x.layout) c.in-Err.ensures.state.kept.volume) why (c.in-Err.ensures.causes.causes h))

pub returns-in-Err-clause-because : goal.returns-in-Err-clause-because
returns-in-Err-clause-because g c h =
    let V = g.V.Files in
    let M = g.M.Machine in
    let s = V.state c.args.v.now in
    let a = M.now c.args.m.now in
    no_reason (λ x. BecauseOpened V.state V.resident c.args.key.now s (V.state c.open_key.new.v) a (M.now c.open_key.new.m) x) c.in-Err.why c.ended_by.result c.ended_by.ensures.is
    (λ is. showed_here V.state V.resident c.args.v.now (V.state c.open_key.new.v) a (M.now c.open_key.new.m) _ (c.in-Err.ensures.causes.absent (ap err is) h))
  where
    err : Refusal → Result ℕ Refusal
    err why = Err why

pub returns-in-Err-clause-done : goal.returns-in-Err-clause-done
returns-in-Err-clause-done g c h k sits =
    let V = g.V.Files in
    let M = g.M.Machine in
    let key = c.args.key.now in
    subst (λ (r : Result Reply Fault). DoesIn V.state V.holds (OfClient c.args.client (Calls.Open key)) (c.args.v.now, c.args.desk.now) (c.open_key.new.v, c.open_key.new.self) k (M.now c.args.m.now) (M.now c.open_key.new.m) r) (sym c.ended_by.ensures.is)
    (open_does V.state V.holds c.args.client c.args.v.now c.open_key.new.v c.args.desk.now c.open_key.new.self k (M.now c.args.m.now) (M.now c.open_key.new.m) c.in-Err.ensures.state.desk c.in-Err.why key
    (c.in-Err.ensures.done h (known_of k) k.clients sits)
    (open_unworn (V.state c.args.v.now) c.requires.up c.args.desk.now c.args.client c.in-Err.why key c.in-Err.ensures.order))
