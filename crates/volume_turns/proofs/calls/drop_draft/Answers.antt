use Rattle.std.proofs.Common.{◌-◌, [], refl, sym, ap, subst, ◌∙◌, Result}
use Rattle.sector_disk.specs.Calls.{WritesDisk}
use Rattle.fsd_files.specs.Desk.{drop_outcome}
use Rattle.fsd_files.specs.declared.reply.Reply.{Reply}
use Rattle.fsd_files.specs.declared.reply.Reply.TheVariants as Said
use Rattle.fsd_texts.specs.declared.call.Call.TheVariants as Calls
use Rattle.fsd_texts.specs.declared.fault.Fault.{Fault}
use Rattle.fsd_texts.specs.declared.script_command.ScriptCommand.TheVariants.{OfClient}
use Rattle.client_desk.specs.Clients.{as_writing, client_at, drop_steps}
use Rattle.volume_turns.specs.Calls.{AnswersIn}
use Rattle.volume_turns.specs.Seats.{DoesIn, StaysIn, known_of}
use Rattle.volume_turns.specs.Steps.{device_by}
use Rattle.volume_turns.proofs.CallKeepLaws.{gives_continues, gives_goes, seat_same, seat_still}
use Rattle.volume_turns.proofs.CallLaws.{answers_does, met_none, refused_so, says_refused, none_stays}
use Rattle.volume_turns.proofs.CallOrderLaws.{drop_refuses, drop_spares, idle_said, spared_by, test_client}
use Rattle.volume_turns.proofs.calls.drop_draft.Goals as goal

-- ---- it is given up

pub returns-in-Ok-clause-keeps : goal.returns-in-Ok-clause-keeps
returns-in-Ok-clause-keeps g c =
    let V = g.V.Files in
    seat_still (gives_continues (client_at c.args.desk.now (c.args.client - 1)) (V.state c.args.v.now) (V.state c.drop_draft.new.v) c.in-Ok.ensures.kept.volume) c.requires.up c.in-Ok.ensures.desk

pub returns-in-Ok-clause-disk : goal.returns-in-Ok-clause-disk
returns-in-Ok-clause-disk g c =
    let V = g.V.Files in
    let M = g.M.Machine in
    let at = c.args.m.now in
    none_stays V.state V.holds M at c.args.v.now c.args.desk.now (λ left h is. g.met.M.Machine.only_now at left h is)

pub returns-in-Ok-clause-answers : goal.returns-in-Ok-clause-answers
returns-in-Ok-clause-answers g c h =
    let V = g.V.Files in
    record {
      replies = (refl, test_client as_writing c.args.desk.now c.args.client c.in-Ok.ensures.order.0);
      worn = λ is. absurd (cc is);
      numbers = gives_goes (client_at c.args.desk.now (c.args.client - 1)) (V.state c.args.v.now) (V.state c.drop_draft.new.v) c.in-Ok.ensures.kept.volume;
      told = tt;
    }

pub returns-in-Ok-clause-done : goal.returns-in-Ok-clause-done
returns-in-Ok-clause-done g c h k sits =
    let V = g.V.Files in
    let now = g.M.Machine.now c.args.m.now in
    answers_does V.state V.holds c.args.client Calls.Drop c.args.v.now c.drop_draft.new.v c.args.desk.now c.drop_draft.new.self k now now c.in-Ok.ensures.desk
    (λ s. drop_outcome s c.args.client) (record { met = met_none; held = [] }) refl tt (Said.Dropped c.args.client) [] refl (λ may. cc may) (c.in-Ok.ensures.done (known_of k) k.clients now sits)

-- ---- it is refused

pub returns-in-Err-clause-keeps : goal.returns-in-Err-clause-keeps
returns-in-Err-clause-keeps g c =
    let V = g.V.Files in
    seat_same (ap (λ (x : g.row.V.Denot). V.state x) c.in-Err.ensures.kept.0) c.requires.up c.in-Err.ensures.desk

pub returns-in-Err-clause-disk : goal.returns-in-Err-clause-disk
returns-in-Err-clause-disk g c =
    let V = g.V.Files in
    let M = g.M.Machine in
    let at = c.args.m.now in
    let said = c.ended_by.ensures.is ∙ idle_said c.args.client c.in-Err.why (drop_refuses c.args.desk.now c.args.client c.in-Err.why c.in-Err.ensures.order) in
    let stays = StaysIn V.state V.holds (c.args.v.now, c.args.desk.now) in
    subst (λ (r : Result Reply Fault). WritesDisk M (device_by r) stays at at) (sym said)
    (none_stays V.state V.holds M at c.args.v.now c.args.desk.now (λ left h is. g.met.M.Machine.only_now at left h is))

pub returns-in-Err-clause-answers : goal.returns-in-Err-clause-answers
returns-in-Err-clause-answers g c h =
    let V = g.V.Files in
    let s = V.state c.args.v.now in
    let t = V.state c.drop_draft.new.v in
    let now = g.M.Machine.now c.args.m.now in
    let refuses = drop_refuses c.args.desk.now c.args.client c.in-Err.why c.in-Err.ensures.order in
    let said = c.ended_by.ensures.is ∙ idle_said c.args.client c.in-Err.why refuses in
    subst (λ (r : Result Reply Fault). AnswersIn (OfClient c.args.client Calls.Drop) s t now now r) (sym said)
    (says_refused c.args.client Calls.Drop s t now now c.in-Err.why refuses (ap (λ (x : g.row.V.Denot). V.state x) c.in-Err.ensures.kept.0))

pub returns-in-Err-clause-done : goal.returns-in-Err-clause-done
returns-in-Err-clause-done g c h k sits =
    let V = g.V.Files in
    let now = g.M.Machine.now c.args.m.now in
    let said = c.ended_by.ensures.is ∙ idle_said c.args.client c.in-Err.why (drop_refuses c.args.desk.now c.args.client c.in-Err.why c.in-Err.ensures.order) in
    subst (λ (r : Result Reply Fault). DoesIn V.state V.holds (OfClient c.args.client Calls.Drop) (c.args.v.now, c.args.desk.now) (c.drop_draft.new.v, c.drop_draft.new.self) k now now r) (sym said)
    (refused_so V.state V.holds c.args.client Calls.Drop c.args.v.now c.drop_draft.new.v c.args.desk.now c.drop_draft.new.self k now now c.in-Err.ensures.desk
    (λ s. drop_outcome s c.args.client) (record { met = met_none; held = [] }) refl tt c.in-Err.why (λ may. cc may) (c.in-Err.ensures.done (known_of k) k.clients now sits))

-- ---- it takes no memory

pub returns-in-Err-clause-spares : goal.returns-in-Err-clause-spares
returns-in-Err-clause-spares g c = spared_by (drop_steps c.args.desk.now c.args.client) (drop_spares c.args.desk.now c.args.client) c.in-Err.why c.in-Err.ensures.order c.ended_by.result c.ended_by.ensures.is
