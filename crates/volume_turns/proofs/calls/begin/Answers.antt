use Rattle.std.proofs.Common.{[], refl, sym, subst, Result, None}
use Rattle.fsd_files.specs.declared.reply.Reply.{Reply}
use Rattle.fsd_files.specs.declared.reply.Reply.TheVariants as Said
use Rattle.fsd_texts.specs.declared.call.Call.TheVariants as Calls
use Rattle.fsd_texts.specs.declared.fault.Fault.{Fault}
use Rattle.fsd_texts.specs.declared.script_command.ScriptCommand.TheVariants.{OfClient}
use Rattle.volume_contract.specs.Ends.{device_of}
use Rattle.sector_disk.proofs.CallLaws.{writes_told}
use Rattle.fsd_files.specs.Desk.{begin_outcome}
use Rattle.fsd_formats.specs.NamePage.{sectors_for}
use Rattle.fsd_sound.specs.Writes.{force_writes}
use Rattle.client_desk.specs.Clients.{as_idle, begin_steps}
use Rattle.volume_turns.specs.Seats.{DoesIn, known_of}
use Rattle.volume_turns.proofs.CallEndLaws.{begin_does}
use Rattle.volume_turns.proofs.CallKeepLaws.{begin_goes, keeps_continues, reserves_continues, reserves_goes, seat_ended, seat_still}
use Rattle.volume_turns.proofs.CallLaws.{answers_does, writes_stay, met_none}
use Rattle.volume_turns.proofs.CallOrderLaws.{begin_declines, begin_fits, begin_spares, begin_through, declined_answers, declined_device, spared_by, test_client}
use Rattle.volume_turns.proofs.ToldLaws.{told_of}
use Rattle.volume_turns.proofs.calls.begin.Goals as goal

-- ---- it is begun

pub returns-in-Ok-clause-keeps : goal.returns-in-Ok-clause-keeps
returns-in-Ok-clause-keeps g c =
    let V = g.V.Files in
    let kept = c.in-Ok.ensures.state.kept in
    seat_still (reserves_continues (sectors_for c.args.length) (V.state c.args.v.now) (V.state c.begin.new.v) kept.creation.draft kept.volume) c.requires.up c.in-Ok.ensures.state.desk

pub returns-in-Ok-clause-disk : goal.returns-in-Ok-clause-disk
returns-in-Ok-clause-disk g c =
    let V = g.V.Files in
    let v = c.args.v.now in
    writes_stay V.state V.holds g.M.Machine c.args.m.now c.begin.new.m None v c.args.desk.now (force_writes (V.state v).layout) c.in-Ok.ensures.disk

pub returns-in-Ok-clause-answers : goal.returns-in-Ok-clause-answers
returns-in-Ok-clause-answers g c h =
    let V = g.V.Files in
    let s = V.state c.args.v.now in
    let kept = c.in-Ok.ensures.state.kept in
    record {
      replies = (refl, test_client as_idle c.args.desk.now c.args.client c.in-Ok.ensures.order.0, begin_fits s c.args.desk.now c.args.client c.args.length c.in-Ok.ensures.order);
      worn = λ is. absurd (cc is);
      numbers = reserves_goes (sectors_for c.args.length) s (V.state c.begin.new.v) kept.creation.draft kept.volume;
      told = tt;
    }

pub returns-in-Ok-clause-done : goal.returns-in-Ok-clause-done
returns-in-Ok-clause-done g c h k sits =
    let V = g.V.Files in
    let M = g.M.Machine in
    answers_does V.state V.holds c.args.client (Calls.Begin c.args.name.now c.args.length) c.args.v.now c.begin.new.v c.args.desk.now c.begin.new.self k (M.now c.args.m.now) (M.now c.begin.new.m) c.in-Ok.ensures.state.desk
    (λ s. begin_outcome s c.args.client c.args.name.now c.args.length) (record { met = met_none; held = [] }) refl tt (Said.Begun c.args.client) [] refl
    (λ may. begin_through (V.state c.args.v.now) c.args.desk.now c.args.client c.args.length c.in-Ok.ensures.order) (c.in-Ok.ensures.done h (known_of k) k.clients sits)

-- ---- it is refused

pub returns-in-Err-clause-keeps : goal.returns-in-Err-clause-keeps
returns-in-Err-clause-keeps g c =
    let V = g.V.Files in
    let s = V.state c.args.v.now in
    seat_ended c.in-Err.why (keeps_continues (begin_steps s c.args.desk.now c.args.client c.args.length) tt c.in-Err.why s (V.state c.begin.new.v) c.in-Err.ensures.state.kept.volume) c.requires.up c.ended_by.ensures.is c.in-Err.ensures.state.desk

pub returns-in-Err-clause-disk : goal.returns-in-Err-clause-disk
returns-in-Err-clause-disk g c =
    let V = g.V.Files in
    let v = c.args.v.now in
    let s = V.state v in
    let client = c.args.client in
    let call = Calls.Begin c.args.name.now c.args.length in
    let declines = begin_declines s c.requires.up c.args.desk.now client [] c.in-Err.why c.args.name.now c.args.length c.in-Err.ensures.order in
    writes_told (declined_device client call [] s c.in-Err.why declines c.ended_by.result c.ended_by.ensures.is)
    (writes_stay V.state V.holds g.M.Machine c.args.m.now c.begin.new.m (device_of c.in-Err.why) v c.args.desk.now (force_writes s.layout) c.in-Err.ensures.disk)

pub returns-in-Err-clause-answers : goal.returns-in-Err-clause-answers
returns-in-Err-clause-answers g c h =
    let V = g.V.Files in
    let M = g.M.Machine in
    let s = V.state c.args.v.now in
    let t = V.state c.begin.new.v in
    let desk = c.args.desk.now in
    let client = c.args.client in
    let len = c.args.length in
    let call = Calls.Begin c.args.name.now len in
    let why = c.in-Err.why in
    let keeps = c.in-Err.ensures.state.kept.volume in
    declined_answers client call s t (M.now c.args.m.now) (M.now c.begin.new.m) why c.ended_by.result c.ended_by.ensures.is
    (begin_declines s c.requires.up desk client (M.now c.begin.new.m).image why c.args.name.now len c.in-Err.ensures.order)
    (begin_goes s t desk client why len keeps)
    (told_of s t (V.resident c.args.v.now) (M.now c.args.m.now) (M.now c.begin.new.m) (keeps_continues (begin_steps s desk client len) tt why s t keeps).layout why (c.in-Err.ensures.causes h))

pub returns-in-Err-clause-done : goal.returns-in-Err-clause-done
returns-in-Err-clause-done g c h k sits =
    let V = g.V.Files in
    let M = g.M.Machine in
    let name = c.args.name.now in
    let len = c.args.length in
    subst (λ (r : Result Reply Fault). DoesIn V.state V.holds (OfClient c.args.client (Calls.Begin name len)) (c.args.v.now, c.args.desk.now) (c.begin.new.v, c.begin.new.self) k (M.now c.args.m.now) (M.now c.begin.new.m) r) (sym c.ended_by.ensures.is)
    (begin_does V.state V.holds c.args.client c.args.v.now c.begin.new.v c.args.desk.now c.begin.new.self k (M.now c.args.m.now) (M.now c.begin.new.m) c.in-Err.ensures.state.desk c.in-Err.why c.requires.up sits name len
    c.in-Err.ensures.order (c.in-Err.ensures.done h (known_of k) k.clients sits))

-- ---- it takes no memory

pub returns-in-Err-clause-spares : goal.returns-in-Err-clause-spares
returns-in-Err-clause-spares g c = spared_by (begin_steps (g.V.Files.state c.args.v.now) c.args.desk.now c.args.client c.args.length) (begin_spares (g.V.Files.state c.args.v.now) c.args.desk.now c.args.client c.args.length) c.in-Err.why c.in-Err.ensures.order c.ended_by.result c.ended_by.ensures.is
