use Rattle.std.proofs.Common.{rules, subst}
use Rattle.fsd_files.specs.Desk.{Reads}
use Rattle.client_desk.specs.declared.client.Client.{Client}
use Rattle.client_desk.specs.Ends.{ServesOpen}
use Rattle.client_desk.proofs.SitsLaws.{read_fails, read_gives}
use Rattle.client_desk.proofs.desk.next_of.Goals as goal

pub returns-in-Ok-clause-done : goal.returns-in-Ok-clause-done
returns-in-Ok-clause-done g c h k stands key runs bytes place serves =
    let M = g.M.Machine in
    let r = c.in-Reading.field-0 in
    let reading = subst (λ (x : Client). ServesOpen k.opened x (Reads key runs bytes place)) c.in-Reading.is serves in (
      read_gives k.opened r key runs bytes place c.in-Ok.count (M.now c.args.m.now).image (M.now c.read_held.new.m).image c.args.buf.now c.read_held.new.buf reading
          (c.in-Ok.ensures.done h k stands (record { runs = runs; bytes = bytes }) reading.there reading.long),
      c.in-Ok.ensures.stands h k stands,
    )

pub returns-in-Err-clause-done : goal.returns-in-Err-clause-done
returns-in-Err-clause-done g c h k stands key runs bytes place serves =
    let M = g.M.Machine in
    let r = c.in-Reading.field-0 in
    let reading = subst (λ (x : Client). ServesOpen k.opened x (Reads key runs bytes place)) c.in-Reading.is serves in (
      read_fails k.opened r key runs bytes place (M.now c.args.m.now).image (M.now c.read_held.new.m).image c.args.buf.now c.read_held.new.buf c.in-Err.why reading
          (c.in-Err.ensures.done h k stands (record { runs = runs; bytes = bytes }) reading.there reading.long),
      c.in-Err.ensures.stands h k stands,
    )

pub returns-in-Ok-clause-client : goal.returns-in-Ok-clause-client
returns-in-Ok-clause-client g c = record { goes = search rules; count = search rules; valid = search rules }

pub returns-in-Err-clause-damaged : goal.returns-in-Err-clause-damaged
returns-in-Err-clause-damaged g c s is h = c.in-Err.ensures.tells.damaged s is h
