use Rattle.std.proofs.Common.{◌-◌, [], length, refl, sym, subst, Result, None, arith}
use Rattle.sector_disk.proofs.CallLaws.{writes_told}
use Rattle.fsd_files.specs.Desk.{piece_outcome}
use Rattle.fsd_files.specs.declared.reply.Reply.{Reply}
use Rattle.fsd_files.specs.declared.reply.Reply.TheVariants as Said
use Rattle.fsd_texts.specs.declared.call.Call.TheVariants as Calls
use Rattle.fsd_texts.specs.declared.fault.Fault.{Fault}
use Rattle.fsd_texts.specs.declared.script_command.ScriptCommand.TheVariants.{OfClient}
use Rattle.volume_contract.specs.Ends.{device_of}
use Rattle.client_desk.specs.Clients.{as_writing, client_at, in_data, piece_steps}
use Rattle.volume_turns.specs.Seats.{DoesIn, known_of}
use Rattle.volume_turns.proofs.CallEndLaws.{piece_does}
use Rattle.volume_turns.proofs.CallKeepLaws.{piece_continues, piece_goes, seat_same, seat_still}
use Rattle.volume_turns.proofs.CallLaws.{answers_does, writes_of_stay, met_none}
use Rattle.volume_turns.proofs.CallOrderLaws.{declined_answers, declined_device, declined_told, device_more, piece_declines, piece_spares, spared_by, test_client}
use Rattle.volume_turns.proofs.NumberLaws.{goes_none}
use Rattle.volume_turns.proofs.calls.piece.Goals as goal

-- ---- it has them

pub returns-in-Ok-clause-keeps : goal.returns-in-Ok-clause-keeps
returns-in-Ok-clause-keeps g c = seat_same c.in-Ok.ensures.state.kept.volume c.requires.up c.in-Ok.ensures.state.desk

pub returns-in-Ok-clause-disk : goal.returns-in-Ok-clause-disk
returns-in-Ok-clause-disk g c =
    let V = g.V.Files in
    let desk = c.args.desk.now in
    writes_of_stay V.state V.holds g.M.Machine c.args.m.now c.piece.new.m None c.args.v.now desk (in_data (client_at desk (c.args.client - 1))) c.in-Ok.ensures.disk

pub returns-in-Ok-clause-answers : goal.returns-in-Ok-clause-answers
returns-in-Ok-clause-answers g c h =
    let V = g.V.Files in
    record {
      replies = (refl, test_client as_writing c.args.desk.now c.args.client c.in-Ok.ensures.order.0, let kept = c.in-Ok.ensures.state.kept in omega (arith, kept.got, kept.grows.got));
      worn = λ is. absurd (cc is);
      numbers = goes_none 1 (V.state c.args.v.now) (V.state c.piece.new.v) c.in-Ok.ensures.state.kept.volume;
      told = tt;
    }

pub returns-in-Ok-clause-done : goal.returns-in-Ok-clause-done
returns-in-Ok-clause-done g c h k sits =
    let V = g.V.Files in
    let M = g.M.Machine in
    answers_does V.state V.holds c.args.client (Calls.Piece c.args.bytes.now) c.args.v.now c.piece.new.v c.args.desk.now c.piece.new.self k (M.now c.args.m.now) (M.now c.piece.new.m) c.in-Ok.ensures.state.desk
    (λ s. piece_outcome s c.args.client c.args.bytes.now) (record { met = met_none; held = [] }) refl tt (Said.Took c.args.client c.in-Ok.sum) [] refl (λ may. cc may) (c.in-Ok.ensures.done h (known_of k) k.clients sits)

-- ---- it is refused

pub returns-in-Err-clause-keeps : goal.returns-in-Err-clause-keeps
returns-in-Err-clause-keeps g c =
    let V = g.V.Files in
    seat_still (piece_continues c.in-Err.why (c.args.client - 1) c.args.desk.now c.piece.new.self (V.state c.args.v.now) (V.state c.piece.new.v) c.in-Err.ensures.state.kept) c.requires.up c.in-Err.ensures.state.desk

pub returns-in-Err-clause-disk : goal.returns-in-Err-clause-disk
returns-in-Err-clause-disk g c =
    let V = g.V.Files in
    let s = V.state c.args.v.now in
    let desk = c.args.desk.now in
    let call = Calls.Piece c.args.bytes.now in
    let declines = device_more c.args.client call [] s c.in-Err.why (piece_declines s c.requires.up desk c.args.client [] c.in-Err.why c.args.bytes.now c.in-Err.ensures.order) in
    writes_told (declined_device c.args.client call [] s c.in-Err.why declines c.ended_by.result c.ended_by.ensures.is)
    (writes_of_stay V.state V.holds g.M.Machine c.args.m.now c.piece.new.m (device_of c.in-Err.why) c.args.v.now desk (in_data (client_at desk (c.args.client - 1))) c.in-Err.ensures.disk)

pub returns-in-Err-clause-answers : goal.returns-in-Err-clause-answers
returns-in-Err-clause-answers g c h =
    let V = g.V.Files in
    let s = V.state c.args.v.now in
    let t = V.state c.piece.new.v in
    let client = c.args.client in
    let call = Calls.Piece c.args.bytes.now in
    let why = c.in-Err.why in
    let image = (g.M.Machine.now c.piece.new.m).image in
    let declines = piece_declines s c.requires.up c.args.desk.now client image why c.args.bytes.now c.in-Err.ensures.order in
    declined_answers client call s t (g.M.Machine.now c.args.m.now) (g.M.Machine.now c.piece.new.m) why c.ended_by.result c.ended_by.ensures.is
    (device_more client call image s why declines)
    (piece_goes why (client - 1) c.args.desk.now c.piece.new.self s t c.in-Err.ensures.state.kept)
    (declined_told client call image s why declines s.layout)

pub returns-in-Err-clause-done : goal.returns-in-Err-clause-done
returns-in-Err-clause-done g c h k sits =
    let V = g.V.Files in
    let M = g.M.Machine in
    let s = V.state c.args.v.now in
    let client = c.args.client in
    let bytes = c.args.bytes.now in
    let why = c.in-Err.why in
    subst (λ (r : Result Reply Fault). DoesIn V.state V.holds (OfClient client (Calls.Piece bytes)) (c.args.v.now, c.args.desk.now) (c.piece.new.v, c.piece.new.self) k (M.now c.args.m.now) (M.now c.piece.new.m) r) (sym c.ended_by.ensures.is)
    (piece_does V.state V.holds client c.args.v.now c.piece.new.v c.args.desk.now c.piece.new.self k (M.now c.args.m.now) (M.now c.piece.new.m) c.in-Err.ensures.state.desk why bytes
    (piece_declines s c.requires.up c.args.desk.now client [] why bytes c.in-Err.ensures.order) (c.in-Err.ensures.done h (known_of k) k.clients sits))

-- ---- it takes no memory

pub returns-in-Err-clause-spares : goal.returns-in-Err-clause-spares
returns-in-Err-clause-spares g c = spared_by (piece_steps (g.V.Files.state c.args.v.now) c.args.desk.now c.args.client (length c.args.bytes.now)) (piece_spares (g.V.Files.state c.args.v.now) c.args.desk.now c.args.client (length c.args.bytes.now)) c.in-Err.why c.in-Err.ensures.order c.ended_by.result c.ended_by.ensures.is
