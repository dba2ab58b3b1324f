use Rattle.std.proofs.Common.{◌≡◌, ◌∙◌, refl, ap, subst, sym}
use Rattle.std.specs.Prelude.{Ok, Err}
use Rattle.fsd_texts.specs.declared.fault.Fault.TheVariants as Ends
use Rattle.sector_disk.specs.Image.{AreShort, Windows}
use Rattle.fsd_texts.specs.declared.fault.Fault.{Fault}
use Rattle.fsd_texts.specs.declared.counts.Counts.{Counts}
use Rattle.volume_turns.specs.declared.turns.Halt.TheVariants.{Fault as Stopped}
use Rattle.volume_turns.specs.Steps.{IsToldOn}
use Rattle.volume_turns.specs.Turns.{Speaks}
use Rattle.volume_turns.specs.Commands.{MayLose}
use Rattle.sector_disk.proofs.CallLaws.{writes_more}
use Rattle.client_desk.specs.Clients.{no_desk}
use Rattle.volume_turns.specs.Seats.{known_of}
use Rattle.volume_turns.proofs.SeatLaws.{desk_holds, desk_on, plain_does, seat_wears, stays_in}
use Rattle.volume_turns.proofs.NumberLaws.{worn_may}
use Rattle.volume_turns.proofs.SayLaws.{timed_by}
use Rattle.volume_turns.proofs.CountLaws.{counted_fault, counted_none, counted_step}
use Rattle.volume_turns.proofs.SpeaksLaws.{speaks_behind, speaks_failed, speaks_none, speaks_still}
use Rattle.volume_turns.proofs.generate.do_counted.Goals as goal

pub returns-in-Ok-count-clause-steps : goal.returns-in-Ok-count-clause-steps
returns-in-Ok-count-clause-steps g c h k f from stood aged held =
    let V = g.V.Files in
    let M = g.M.Machine in
    let a = c.args.m.now in
    let v = c.args.v.now in
    let disk = writes_more c.in-Ok.ensures.disk (λ x left stays. stays_in V.state V.holds (v, no_desk) (M.now a) left stays) in
    let first = disk.trust.honest h in
    let short = λ (m : g.row.M.Denot) (x : M.honest m). g.met.M.Machine.short m x in
    let at = seat_wears V.state V.holds g.met.V.Files.wears (v, no_desk) k from (M.now a) (subst (λ (w : Windows). AreShort w) aged.windows (short a first)) aged stood in
    let w = c.answer.new.v in
    let does = plain_does V.state V.holds c.args.c.now v w no_desk k (M.now a) (M.now c.answer.new.m) at (desk_holds V.state V.holds v w no_desk k (M.now a) (M.now c.answer.new.m) at (desk_on (V.state v) (V.state c.answer.new.v) no_desk c.answer.ensures.layout c.answer.ensures.opened c.requires.idle)) (Ok c.in-Ok.answer) (c.in-Ok.ensures.done h (known_of k) at.stands) in
    counted_step V.state V.holds M g.met.V.Files.wears short (timed_by M g.met.M.Machine.dated g.met.M.Machine.history g.met.M.Machine.counts_now g.met.M.Machine.only_now) c.args.c.now v c.answer.new.v a c.answer.new.m k f from stood aged at _ disk c.in-Ok.ensures.layout h held
    does.0 c.in-Ok.answer does.1 does.2 c.args.tally.now c.in-Ok-count.tally c.in-Ok-count.ensures.ok

pub returns-in-Ok-clause-steps : goal.returns-in-Ok-clause-steps
returns-in-Ok-clause-steps g c h k f from stood aged held =
    let V = g.V.Files in
    let M = g.M.Machine in
    let a = c.args.m.now in
    let v = c.args.v.now in
    let disk = writes_more c.in-Ok.ensures.disk (λ x left stays. stays_in V.state V.holds (v, no_desk) (M.now a) left stays) in
    let first = disk.trust.honest h in
    let short = λ (m : g.row.M.Denot) (x : M.honest m). g.met.M.Machine.short m x in
    let at = seat_wears V.state V.holds g.met.V.Files.wears (v, no_desk) k from (M.now a) (subst (λ (w : Windows). AreShort w) aged.windows (short a first)) aged stood in
    let w = c.answer.new.v in
    let does = plain_does V.state V.holds c.args.c.now v w no_desk k (M.now a) (M.now c.answer.new.m) at (desk_holds V.state V.holds v w no_desk k (M.now a) (M.now c.answer.new.m) at (desk_on (V.state v) (V.state c.answer.new.v) no_desk c.answer.ensures.layout c.answer.ensures.opened c.requires.idle)) (Ok c.in-Ok.answer) (c.in-Ok.ensures.done h (known_of k) at.stands) in
    counted_none V.state V.holds M g.met.V.Files.wears short (timed_by M g.met.M.Machine.dated g.met.M.Machine.history g.met.M.Machine.counts_now g.met.M.Machine.only_now) c.args.c.now v c.answer.new.v a c.answer.new.m k f from stood aged at _ disk c.in-Ok.ensures.layout h held
    does.0 c.in-Ok.answer does.1 does.2 c.in-Err-count.fault c.in-Err-count.ensures.err

pub returns-clause-steps : goal.returns-clause-steps
returns-clause-steps g c h k f from stood aged held =
    let V = g.V.Files in
    let M = g.M.Machine in
    let a = c.args.m.now in
    let v = c.args.v.now in
    let disk = writes_more c.in-Err.ensures.disk (λ x left stays. stays_in V.state V.holds (v, no_desk) (M.now a) left stays) in
    let first = disk.trust.honest h in
    let short = λ (m : g.row.M.Denot) (x : M.honest m). g.met.M.Machine.short m x in
    let at = seat_wears V.state V.holds g.met.V.Files.wears (v, no_desk) k from (M.now a) (subst (λ (w : Windows). AreShort w) aged.windows (short a first)) aged stood in
    counted_fault V.state V.holds M g.met.V.Files.wears short (timed_by M g.met.M.Machine.dated g.met.M.Machine.history g.met.M.Machine.counts_now g.met.M.Machine.only_now) c.args.c.now v c.answer.new.v a c.answer.new.m k f from stood aged at _ disk c.in-Err.ensures.layout h held c.in-Err.fault (plain_does V.state V.holds c.args.c.now v c.answer.new.v no_desk k (M.now a) (M.now c.answer.new.m) at (desk_holds V.state V.holds v c.answer.new.v no_desk k (M.now a) (M.now c.answer.new.m) at (desk_on (V.state v) (V.state c.answer.new.v) no_desk c.answer.ensures.layout c.answer.ensures.opened c.requires.idle)) (Err c.in-Err.fault) (c.in-Err.ensures.done h (known_of k) at.stands))

-- ---- what it asks for and keeps

pub returns-in-Ok-count-clause-speaks : goal.returns-in-Ok-count-clause-speaks
returns-in-Ok-count-clause-speaks g c = speaks_behind c.in-Ok.ensures.disk (speaks_still c.answer.new.m c.in-Ok-count.tally)

pub returns-in-Ok-clause-speaks : goal.returns-in-Ok-clause-speaks
returns-in-Ok-clause-speaks g c =
    subst (λ (w : Fault). Speaks {T = Counts} g.M.Machine 0 c.args.m.now c.answer.new.m (Err (Stopped w))) (sym c.in-Err-count.ensures.err)
    (speaks_behind c.in-Ok.ensures.disk (speaks_none c.answer.new.m))

pub returns-clause-speaks : goal.returns-clause-speaks
returns-clause-speaks g c = speaks_failed c.in-Err.fault refl c.in-Err.ensures.tells.fault c.in-Err.ensures.disk

pub returns-in-Ok-count-clause-keeps : goal.returns-in-Ok-count-clause-keeps
returns-in-Ok-count-clause-keeps g c = record { layout = c.answer.ensures.layout; up = c.in-Ok.ensures.up; desk = desk_on (g.V.Files.state c.args.v.now) (g.V.Files.state c.answer.new.v) no_desk c.answer.ensures.layout c.answer.ensures.opened c.requires.idle }

pub returns-in-Ok-clause-keeps : goal.returns-in-Ok-clause-keeps
returns-in-Ok-clause-keeps g c = record { layout = c.answer.ensures.layout; up = tt; desk = desk_on (g.V.Files.state c.args.v.now) (g.V.Files.state c.answer.new.v) no_desk c.answer.ensures.layout c.answer.ensures.opened c.requires.idle }

pub returns-clause-keeps : goal.returns-clause-keeps
returns-clause-keeps g c = record { layout = c.answer.ensures.layout; up = tt; desk = desk_on (g.V.Files.state c.args.v.now) (g.V.Files.state c.answer.new.v) no_desk c.answer.ensures.layout c.answer.ensures.opened c.requires.idle }

-- ---- nothing is said

pub returns-in-Ok-count-clause-says : goal.returns-in-Ok-count-clause-says
returns-in-Ok-count-clause-says g c = record { quiet = c.in-Ok.ensures.disk.quiet; image = tt }

pub returns-in-Ok-clause-says : goal.returns-in-Ok-clause-says
returns-in-Ok-clause-says g c = record {
  quiet = c.in-Ok.ensures.disk.quiet;
  image = λ h. subst (λ (w : Fault). IsToldOn (MayLose c.args.c.now) (g.V.Files.state c.args.v.now).layout (g.M.Machine.now c.answer.new.m).image w) (sym c.in-Err-count.ensures.err) tt;
}

pub returns-clause-says : goal.returns-clause-says
returns-clause-says g c = record { quiet = c.in-Err.ensures.disk.quiet; image = λ h. (c.in-Err.ensures.tells.answers h).told }

-- ---- the numbers of a mount

pub returns-in-Ok-count-clause-numbers : goal.returns-in-Ok-count-clause-numbers
returns-in-Ok-count-clause-numbers g c = record { grows = λ h. (c.answer.ensures.tells.answers h).numbers; used = λ is h. absurd (cc is) }

pub returns-in-Ok-clause-numbers : goal.returns-in-Ok-clause-numbers
returns-in-Ok-clause-numbers g c = record {
  grows = λ h. (c.answer.ensures.tells.answers h).numbers;
  used = λ is h.
      let e : c.in-Err-count.fault ≡ Ends.WornOut = cc is in
      let no : Ends.WornOut ≡ Ends.Memory = sym e ∙ c.in-Err-count.ensures.err in
      absurd (cc no);
}

pub returns-clause-numbers : goal.returns-clause-numbers
returns-clause-numbers g c = record {
  grows = λ h. (c.answer.ensures.tells.answers h).numbers;
  used = λ is h.
      let e : c.in-Err.fault ≡ Ends.WornOut = cc is in
      worn_may (g.V.Files.state c.args.v.now) ((c.in-Err.ensures.tells.answers h).worn (ap (λ (w : Fault). Err w) e));
}
