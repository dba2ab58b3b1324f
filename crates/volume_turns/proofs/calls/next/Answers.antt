use Rattle.std.proofs.Common.{◌≡◌, ◌-◌, ◌≤◌, ℕ, List, length, drop, refl, sym, ap, subst, ◌∙◌, Result, Ok, Err, Option, None, arith}
use Rattle.std.proofs.lemmas.List.{take_at}
use Rattle.fsd_bytes.specs.declared.refusal.Refusal.{Refusal}
use Rattle.fsd_bytes.specs.declared.refusal.Refusal.TheVariants as Why
use Rattle.sector_disk.proofs.CallLaws.{writes_told}
use Rattle.fsd_files.specs.declared.reply.Reply.TheVariants as Said
use Rattle.fsd_texts.specs.declared.call.Call.TheVariants as Calls
use Rattle.scrub.specs.Telling.{AreOfPage}
use Rattle.volume_contract.specs.Ends.{device_of}
use Rattle.client_desk.specs.Clients.{as_reading, left_at, client_place}
use Rattle.client_desk.specs.Ends.{EndsNext}
use Rattle.volume_turns.proofs.AnsweringLaws.{data_inside}
use Rattle.volume_turns.specs.Commands.{HasDamaged}
use Rattle.volume_turns.specs.Calls.{room_for}
use Rattle.volume_turns.specs.Seats.{known_of}
use Rattle.volume_turns.proofs.CallEndLaws.{given_does, next_does}
use Rattle.volume_turns.proofs.CallKeepLaws.{seat_same}
use Rattle.volume_turns.proofs.CallLaws.{AnswersSo, none_stays, reads_stay}
use Rattle.volume_turns.proofs.CallOrderLaws.{test_client}
use Rattle.volume_turns.proofs.CallReadLaws.{next_device, next_refused, next_replies, next_told, next_unworn, room_within}
use Rattle.volume_turns.proofs.NumberLaws.{goes_none}
use Rattle.volume_turns.proofs.calls.next.Goals as goal

-- ---- it has them

pub returns-in-Ok-next-clause-keeps : goal.returns-in-Ok-next-clause-keeps
returns-in-Ok-next-clause-keeps g c = seat_same c.in-Ok-next.ensures.state.kept.volume c.requires.up c.in-Ok-next.ensures.state.desk

pub returns-in-Ok-next-clause-disk : goal.returns-in-Ok-next-clause-disk
returns-in-Ok-next-clause-disk g c =
    let V = g.V.Files in
    let M = g.M.Machine in
    let v = c.args.v.now in
    reads_stay V.state V.holds M c.args.m.now c.next.new.m None c.args.v.now c.args.desk.now (λ k left. g.met.V.Files.wears c.args.v.now k (M.now c.args.m.now) left) (g.met.M.Machine.short c.args.m.now) c.in-Ok-next.ensures.disk

pub returns-in-Ok-next-clause-answers : goal.returns-in-Ok-next-clause-answers
returns-in-Ok-next-clause-answers g c h =
    let V = g.V.Files in
    let desk = c.args.desk.now in
    let client = c.args.client in
    let len = c.args.len in
    let room = room_within c.left.result len c.room_for-room.result c.room_for-room.ensures in
    let items = take_at c.next.new.buf (drop (length c.next.new.buf) c.in-Ok.bytes.items) c.in-Ok.bytes.len (omega (arith, c.in-Ok.ensures.len, c.as_mut_slice.ensures.len, c.next.auto.buf)) in
    let size = ap (λ (b : List ℕ). length b) items in
    rw c.from.ensures
    (record {
      replies = (refl, test_client as_reading desk client c.in-Ok-next.ensures.order.0, omega (arith, size, room, c.in-Ok.ensures.len, c.as_mut_slice.ensures.len, c.next.auto.buf));
      worn = λ is. absurd (cc is);
      numbers = goes_none 1 (V.state c.args.v.now) (V.state c.next.new.v) c.in-Ok-next.ensures.state.kept.volume;
      told = tt;
    })

pub returns-in-Ok-next-clause-done : goal.returns-in-Ok-next-clause-done
returns-in-Ok-next-clause-done g c h k sits =
    let V = g.V.Files in
    let M = g.M.Machine in
    let v = c.args.v.now in
    let desk = c.args.desk.now in
    let client = c.args.client in
    let len = c.args.len in
    let buf = c.next.new.buf in
    let items = take_at buf (drop (length buf) c.in-Ok.bytes.items) c.in-Ok.bytes.len (omega (arith, c.in-Ok.ensures.len, c.as_mut_slice.ensures.len, c.next.auto.buf)) in
    let room : c.room_for-room.result ≡ room_for (left_at desk (client_place client)) len = c.room_for-room.ensures ∙ ap (λ (o : Option ℕ). room_for o len) c.left.ensures in
    let asked : length c.as_mut_slice.result.now ≡ room_for (left_at desk (client_place client)) len = omega (arith, room, c.in-Ok.ensures.len, c.as_mut_slice.ensures.len) in
    let full : length buf ≡ room_for (left_at desk (client_place client)) len = omega (arith, asked, c.next.auto.buf) in
    let gives = c.in-Ok-next.ensures.done h (known_of k) k.clients sits in
    rw c.from.ensures
    (subst (λ (b : List ℕ). AnswersSo V.state V.holds client (Calls.Next len) v c.next.new.v desk c.next.new.self k (M.now c.args.m.now) (M.now c.next.new.m) c.in-Ok-next.ensures.state.desk (Said.Given client b)) (sym items)
    (given_does V.state V.holds client v c.next.new.v desk c.next.new.self k (M.now c.args.m.now) (M.now c.next.new.m) c.in-Ok-next.ensures.state.desk Why.Memory (sits.each (client - 1)) len c.as_mut_slice.result.now buf
    (test_client as_reading desk client c.in-Ok-next.ensures.order.0) c.in-Ok-next.field-0 full
    (subst (λ (n : ℕ). EndsNext V.state V.holds client n (M.now c.args.m.now).image (M.now c.next.new.m).image (known_of k) k.clients c.as_mut_slice.result.now buf c.next.new.v c.next.new.self (M.now c.next.new.m) (Ok c.in-Ok-next.field-0)) asked gives)))

-- ---- memory is refused

pub returns-in_default-clause-keeps : goal.returns-in_default-clause-keeps
returns-in_default-clause-keeps g c = seat_same refl c.requires.up c.requires.desk

pub returns-in_default-clause-disk : goal.returns-in_default-clause-disk
returns-in_default-clause-disk g c =
    let V = g.V.Files in
    let M = g.M.Machine in
    let at = c.args.m.now in
    none_stays V.state V.holds M at c.args.v.now c.args.desk.now (λ left h is. g.met.M.Machine.only_now at left h is)

-- ---- it is refused

pub returns-in-Err-clause-keeps : goal.returns-in-Err-clause-keeps
returns-in-Err-clause-keeps g c = seat_same c.in-Err.ensures.state.kept.volume c.requires.up c.in-Err.ensures.state.desk

pub returns-in-Err-clause-disk : goal.returns-in-Err-clause-disk
returns-in-Err-clause-disk g c =
    let V = g.V.Files in
    let M = g.M.Machine in
    let v = c.args.v.now in
    let s = V.state v in
    let refuses = next_refused s c.requires.up c.args.desk.now c.next.new.self c.args.client c.in-Err.why c.key.result c.next_ended_by.result c.in-Err.ensures.order c.in-Err.ensures.state.kept.desk c.key.ensures c.next_ended_by.ensures.is in
    writes_told (next_device c.args.client c.args.desk.now c.in-Err.why c.next_ended_by.result refuses)
    (reads_stay V.state V.holds M c.args.m.now c.next.new.m (device_of c.in-Err.why) c.args.v.now c.args.desk.now (λ k left. g.met.V.Files.wears c.args.v.now k (M.now c.args.m.now) left) (g.met.M.Machine.short c.args.m.now) c.in-Err.ensures.disk)

pub returns-in-Err-clause-answers : goal.returns-in-Err-clause-answers
returns-in-Err-clause-answers g c h =
    let V = g.V.Files in
    let M = g.M.Machine in
    let s = V.state c.args.v.now in
    let desk = c.args.desk.now in
    let client = c.args.client in
    let why = c.in-Err.why in
    let r = c.next_ended_by.result in
    let e = c.in-Err.ensures in
    let image = (M.now c.next.new.m).image in
    let refuses = next_refused s c.requires.up c.args.desk.now c.next.new.self c.args.client c.in-Err.why c.key.result c.next_ended_by.result c.in-Err.ensures.order c.in-Err.ensures.state.kept.desk c.key.ensures c.next_ended_by.ensures.is in
    let room : s.layout.sectors ≤ length image = omega (arith, c.requires.room, e.disk.uses.sectors, g.met.M.Machine.sized c.next.new.m h) in
    let gone : (t : ℕ) → why ≡ Why.Damaged t → HasDamaged image t = λ t is.
    let err = ap (λ (w : Refusal). Err w) is in let hurt = e.damaged t err h in (data_inside s.layout t (length image) hurt.within room, hurt.damaged) in
    record {
      replies = next_replies client desk why r c.args.len image gone refuses;
      worn = λ is. absurd (next_unworn client desk why r refuses is);
      numbers = goes_none 1 s (V.state c.next.new.v) e.state.kept.volume;
      told = next_told client desk why r AreOfPage s.layout image refuses;
    }

pub returns-in-Err-clause-done : goal.returns-in-Err-clause-done
returns-in-Err-clause-done g c h k sits =
    let V = g.V.Files in
    let M = g.M.Machine in
    let v = c.args.v.now in
    let s = V.state v in
    let desk = c.args.desk.now in
    let client = c.args.client in
    let len = c.args.len in
    let room : c.room_for-room.result ≡ room_for (left_at desk (client_place client)) len = c.room_for-room.ensures ∙ ap (λ (o : Option ℕ). room_for o len) c.left.ensures in
    let asked : length c.as_mut_slice.result.now ≡ room_for (left_at desk (client_place client)) len = omega (arith, room, c.in-Ok.ensures.len, c.as_mut_slice.ensures.len) in
    let refuses = next_refused s c.requires.up c.args.desk.now c.next.new.self c.args.client c.in-Err.why c.key.result c.next_ended_by.result c.in-Err.ensures.order c.in-Err.ensures.state.kept.desk c.key.ensures c.next_ended_by.ensures.is in
    let failed : Result ℕ Refusal = Err c.in-Err.why in
    next_does V.state V.holds client v c.next.new.v desk c.next.new.self k (M.now c.args.m.now) (M.now c.next.new.m) c.in-Err.ensures.state.desk c.in-Err.why (sits.each (client - 1)) len c.as_mut_slice.result.now c.next.new.buf c.next_ended_by.result refuses
    (subst (λ (n : ℕ). EndsNext V.state V.holds client n (M.now c.args.m.now).image (M.now c.next.new.m).image (known_of k) k.clients c.as_mut_slice.result.now c.next.new.buf c.next.new.v c.next.new.self (M.now c.next.new.m) failed) asked
    (c.in-Err.ensures.done h (known_of k) k.clients sits))
