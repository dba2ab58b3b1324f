use Rattle.std.proofs.Common.{Ok, Err, ◌∙◌, ap, subst, arith}
use Rattle.volume_layout.specs.declared.layout.Layout.{Layout}
use Rattle.fsd_runs.specs.Errands.{forced_turn}
use Rattle.volume_contract.specs.Pieces.{with_opened}
use Rattle.volume_contract.specs.State.{State, none_open}
use Rattle.volume_turns.specs.declared.script.Stop.{Stop}
use Rattle.volume_turns.specs.Once.{SaysForcedOver}
use Rattle.volume_turns.specs.Seats.{known_of}
use Rattle.volume_turns.proofs.SeatLaws.{closes_as, on_disk_as}
use Rattle.volume_turns.proofs.SpeaksLaws.{forced_done, forced_ended, speaks_done, speaks_ended}
use Rattle.volume_turns.proofs.script.force_read.Goals as goal

pub close_forced-requires : goal.close_forced-requires
close_forced-requires g c =
    let same = ap (λ (s : State). s.layout.sectors) c.finish.ensures.state.is in
    let room = c.requires.room in
    omega (arith, same, room)

pub returns-in-Ok-clause-speaks : goal.returns-in-Ok-clause-speaks
returns-in-Ok-clause-speaks g c = speaks_done _ c.args.stop c.in-Ok.ensures.speaks

pub returns-in-Err-clause-speaks : goal.returns-in-Err-clause-speaks
returns-in-Err-clause-speaks g c = speaks_ended c.in-Err.end c.in-Err.ensures.speaks

pub returns-in-Ok-clause-closes : goal.returns-in-Ok-clause-closes
returns-in-Ok-clause-closes g c h k f sits on =
    let M = g.M.Machine in
    let a = c.args.m.now in
    closes_as (known_of k) none_open f forced_turn.said M a c.close_forced.new.m _
    (c.in-Ok.ensures.closes h (with_opened (known_of k) none_open) f (c.finish.ensures.done (known_of k) k.clients (M.now a) sits) (on_disk_as (known_of k) none_open f forced_turn.said M a c.close_forced.new.m on))

pub returns-in-Err-clause-closes : goal.returns-in-Err-clause-closes
returns-in-Err-clause-closes g c h k f sits on =
    let M = g.M.Machine in
    let a = c.args.m.now in
    closes_as (known_of k) none_open f forced_turn.said M a c.close_forced.new.m _
    (c.in-Err.ensures.closes h (with_opened (known_of k) none_open) f (c.finish.ensures.done (known_of k) k.clients (M.now a) sits) (on_disk_as (known_of k) none_open f forced_turn.said M a c.close_forced.new.m on))

-- ---- the force is said

pub returns-in-Ok-clause-forces : goal.returns-in-Ok-clause-forces
returns-in-Ok-clause-forces g c =
    let M = g.M.Machine in
    subst (λ (l : Layout). SaysForcedOver {T = Stop} M l c.args.m.now c.close_forced.new.m (Ok c.args.stop)) (ap (λ (s : State). s.layout) c.finish.ensures.state.is) (forced_done _ c.args.stop c.in-Ok.ensures.forces)

pub returns-in-Err-clause-forces : goal.returns-in-Err-clause-forces
returns-in-Err-clause-forces g c =
    let M = g.M.Machine in
    subst (λ (l : Layout). SaysForcedOver {T = Stop} M l c.args.m.now c.close_forced.new.m (Err c.in-Err.end)) (ap (λ (s : State). s.layout) c.finish.ensures.state.is) (forced_ended c.in-Err.end c.in-Err.ensures.forces)

pub returns-in-Ok-clause-wants : goal.returns-in-Ok-clause-wants
returns-in-Ok-clause-wants g c up = tt

pub returns-in-Err-clause-wants : goal.returns-in-Err-clause-wants
returns-in-Err-clause-wants g c up = c.in-Err.ensures.wants (ap (λ (s : State). s.down) c.finish.ensures.state.is ∙ up)
