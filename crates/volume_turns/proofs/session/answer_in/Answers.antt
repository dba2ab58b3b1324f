use Rattle.sector_disk.proofs.CallLaws.{writes_more}
use Rattle.volume_turns.specs.Seats.{known_of}
use Rattle.volume_turns.proofs.SeatLaws.{desk_holds, desk_on, plain_does, stays_in}
use Rattle.volume_turns.proofs.session.answer_in.Goals as goal

pub returns-in-Plain : goal.returns-in-Plain
returns-in-Plain g c =
    let V = g.V.Files in
    let M = g.M.Machine in
    let v = c.args.v.now in
    let w = c.answer.new.v in
    let desk = c.args.desk.now in
    let old = M.now c.args.m.now in
    let now = M.now c.answer.new.m in
    let does = c.answer.ensures in
    let of = desk_on (V.state v) (V.state w) desk does.layout does.opened c.requires.desk in
    rw c.in-Plain.is (record {
      keeps = record { layout = does.layout; up = does.up; desk = of };
      disk = writes_more does.disk (λ h left stays. stays_in V.state V.holds (v, desk) old left stays);
      fault = does.tells.fault;
      answers = λ h. let says = does.tells.answers h in record { replies = says.replies; worn = says.worn; numbers = says.numbers; told = says.told };
      because = does.tells.because;
      done = λ h k sits. plain_does V.state V.holds c.in-Plain.command v w desk k old now sits (desk_holds V.state V.holds v w desk k old now sits of) c.answer.result (does.done h (known_of k) sits.stands);
    })

pub returns-in-OfClient : goal.returns-in-OfClient
returns-in-OfClient g c = rw c.in-OfClient.is c.call.ensures
