use Rattle.std.proofs.Common.{sym, subst}
use Rattle.volume_contract.specs.State.{Stands}
use Rattle.client_desk.specs.declared.client.Client.{Client}
use Rattle.client_desk.specs.Ends.{IsOpenIn, given_up}
use Rattle.client_desk.proofs.client.end.Goals as goal

pub returns-in-Writing-clause-done : goal.returns-in-Writing-clause-done
returns-in-Writing-clause-done g c k now =
    let V = g.V.Files in
    subst (λ (x : Client). IsOpenIn k.opened x → Stands V.state V.holds c.args.v.now k now → Stands V.state V.holds c.abandon.new.self (given_up k x) now) (sym c.in-Writing.is)
    (λ there stands. c.abandon.ensures.done k now there.0 there.1 stands)
