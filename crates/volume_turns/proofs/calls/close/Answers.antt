use Rattle.std.proofs.Common.{◌≡◌, ◌-◌, ◌||◌, ℕ, [], ◌∷◌, refl, sym, ap, subst, ◌∙◌, Result, Option, None, false}
use Rattle.sector_disk.proofs.CallLaws.{writes_told}
use Rattle.fsd_files.specs.Desk.{close_outcome}
use Rattle.fsd_files.specs.Files.{Change}
use Rattle.fsd_files.specs.declared.reply.Reply.{Reply}
use Rattle.fsd_files.specs.declared.reply.Reply.TheVariants as Said
use Rattle.fsd_formats.specs.NamePage.{sectors_for}
use Rattle.fsd_sound.specs.Writes.{force_writes}
use Rattle.fsd_texts.specs.declared.call.Call.TheVariants as Calls
use Rattle.fsd_texts.specs.declared.fault.Fault.{Fault}
use Rattle.fsd_texts.specs.declared.script_command.ScriptCommand.TheVariants.{OfClient}
use Rattle.volume_contract.specs.Ends.{device_of}
use Rattle.volume_contract.specs.State.{forces_first}
use Rattle.client_desk.specs.Clients.{as_writing, client_at, in_first}
use Rattle.volume_turns.specs.Calls.{sectors_made}
use Rattle.volume_turns.specs.Seats.{DoesIn, known_of}
use Rattle.volume_turns.proofs.CallEndLaws.{close_does}
use Rattle.volume_turns.proofs.CallKeepLaws.{close_goes, seat_ended, seat_still}
use Rattle.volume_turns.proofs.CallLaws.{AnswersSo, answers_does, writes_stay}
use Rattle.volume_turns.proofs.CallOrderLaws.{close_declines, close_through, declined_answers, declined_device, test_client}
use Rattle.volume_turns.proofs.CallReadLaws.{changes_are, made_is}
use Rattle.volume_turns.proofs.NumberLaws.{counted_goes}
use Rattle.volume_turns.proofs.ToldLaws.{told_of}
use Rattle.volume_turns.proofs.calls.close.Goals as goal

-- ---- it is made

pub returns-in-Ok-clause-keeps : goal.returns-in-Ok-clause-keeps
returns-in-Ok-clause-keeps g c = seat_still c.in-Ok.ensures.state.goes c.requires.up c.in-Ok.ensures.state.desk

pub returns-in-Ok-clause-disk : goal.returns-in-Ok-clause-disk
returns-in-Ok-clause-disk g c =
    let V = g.V.Files in
    let v = c.args.v.now in
    let desk = c.args.desk.now in
    writes_stay V.state V.holds g.M.Machine c.args.m.now c.close.new.m None v desk (λ t. force_writes (V.state v).layout t || in_first (client_at desk (c.args.client - 1)) t) c.in-Ok.ensures.disk

pub returns-in-Ok-clause-answers : goal.returns-in-Ok-clause-answers
returns-in-Ok-clause-answers g c h =
    let V = g.V.Files in
    let s = V.state c.args.v.now in
    record {
      replies = test_client as_writing c.args.desk.now c.args.client c.in-Ok.ensures.order.0;
      worn = λ is. absurd (cc is);
      numbers = counted_goes false (forces_first s) s (V.state c.close.new.v) c.in-Ok.ensures.state.kept.counted;
      told = tt;
    }

pub returns-in-Ok-clause-done : goal.returns-in-Ok-clause-done
returns-in-Ok-clause-done g c h k sits =
    let V = g.V.Files in
    let M = g.M.Machine in
    let desk = c.args.desk.now in
    let client = c.args.client in
    let key = c.in-Ok.key in
    let e = c.in-Ok.ensures.done h (known_of k) k.clients sits in
    let is_client = test_client as_writing desk client c.in-Ok.ensures.order.0 in
    let sectors : c.sectors_made-sectors.result ≡ sectors_for e.len =
    c.sectors_made-sectors.ensures ∙ ap (λ (o : Option ℕ). sectors_made o) c.declared.ensures
    ∙ made_is k.opened desk k.clients client (sits.each (client - 1)) is_client e.name e.len e.runs e.serial e.bytes e.was in
    subst (λ (n : ℕ). AnswersSo V.state V.holds client Calls.Close c.args.v.now c.close.new.v desk c.close.new.self k (M.now c.args.m.now) (M.now c.close.new.m) c.in-Ok.ensures.state.desk (Said.Made key n)) (sym sectors)
    (answers_does V.state V.holds client Calls.Close c.args.v.now c.close.new.v desk c.close.new.self k (M.now c.args.m.now) (M.now c.close.new.m) c.in-Ok.ensures.state.desk
    (λ s. close_outcome e.met s client) (record { met = e.met; held = [] }) refl tt (Said.Made key (sectors_for e.len)) (Change.Put e.name None e.bytes ∷ [])
    (changes_are k.opened desk k.clients client (sits.each (client - 1)) is_client e.name e.len e.runs e.serial e.bytes e.was key (sectors_for e.len))
    (λ may. close_through (V.state c.args.v.now) desk client c.in-Ok.ensures.order) e.answers)

-- ---- it is refused

pub returns-in-Err-clause-keeps : goal.returns-in-Err-clause-keeps
returns-in-Err-clause-keeps g c = seat_ended c.in-Err.why c.in-Err.ensures.state.goes c.requires.up c.ended_by.ensures.is c.in-Err.ensures.state.desk

pub returns-in-Err-clause-disk : goal.returns-in-Err-clause-disk
returns-in-Err-clause-disk g c =
    let V = g.V.Files in
    let v = c.args.v.now in
    let s = V.state v in
    let desk = c.args.desk.now in
    let client = c.args.client in
    let declines = close_declines s c.requires.up desk client [] c.in-Err.why c.in-Err.ensures.order in
    writes_told (declined_device client Calls.Close [] s c.in-Err.why declines c.ended_by.result c.ended_by.ensures.is)
    (writes_stay V.state V.holds g.M.Machine c.args.m.now c.close.new.m (device_of c.in-Err.why) v desk (λ t. force_writes s.layout t || in_first (client_at desk (client - 1)) t) c.in-Err.ensures.disk)

pub returns-in-Err-clause-answers : goal.returns-in-Err-clause-answers
returns-in-Err-clause-answers g c h =
    let V = g.V.Files in
    let M = g.M.Machine in
    let s = V.state c.args.v.now in
    let t = V.state c.close.new.v in
    let desk = c.args.desk.now in
    let client = c.args.client in
    let why = c.in-Err.why in
    declined_answers client Calls.Close s t (M.now c.args.m.now) (M.now c.close.new.m) why c.ended_by.result c.ended_by.ensures.is
    (close_declines s c.requires.up desk client (M.now c.close.new.m).image why c.in-Err.ensures.order)
    (close_goes s t desk client why c.in-Err.ensures.state.kept.volume)
    (told_of s t (V.resident c.args.v.now) (M.now c.args.m.now) (M.now c.close.new.m) c.in-Err.ensures.state.goes.layout why (c.in-Err.ensures.causes h))

pub returns-in-Err-clause-done : goal.returns-in-Err-clause-done
returns-in-Err-clause-done g c h k sits =
    let V = g.V.Files in
    let M = g.M.Machine in
    subst (λ (r : Result Reply Fault). DoesIn V.state V.holds (OfClient c.args.client Calls.Close) (c.args.v.now, c.args.desk.now) (c.close.new.v, c.close.new.self) k (M.now c.args.m.now) (M.now c.close.new.m) r) (sym c.ended_by.ensures.is)
    (close_does V.state V.holds c.args.client c.args.v.now c.close.new.v c.args.desk.now c.close.new.self k (M.now c.args.m.now) (M.now c.close.new.m) c.in-Err.ensures.state.desk c.in-Err.why c.requires.up sits
    c.in-Err.ensures.order (c.in-Err.ensures.done h (known_of k) k.clients sits))
