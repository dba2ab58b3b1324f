use Rattle.std.proofs.Common.{ℕ, List, arith, set, sym, ap, subst, ◌∙◌}
use Rattle.client_desk.specs.declared.client.Client.{Client}
use Rattle.client_desk.specs.declared.client.Client.TheVariants.{Idle}
use Rattle.client_desk.specs.Clients.{GivesUpPart, IsDesk, client_at}
use Rattle.client_desk.proofs.DeskLaws.{desk_ends, found_reading}
use Rattle.client_desk.proofs.HeldLaws.{answers_held}
use Rattle.client_desk.proofs.SitsLaws.{AnswersBy, done_done, done_refused}
use Rattle.fsd_files.specs.Desk.{done_outcome}
use Rattle.fsd_files.specs.declared.reply.Reply.TheVariants.{Done}
use Rattle.client_desk.proofs.desk.Desk.done.Goals as goal

pub returns-in-Err-clause-done : goal.returns-in-Err-clause-done
returns-in-Err-clause-done g c k clients now sits =
    done_refused g.V.Files.state g.V.Files.holds c.args.c k clients c.args.v.now c.args.self.now now c.in-Err.why (sym c.in-Err.ensures.is) sits

pub returns-in-Ok-clause-desk : goal.returns-in-Ok-clause-desk
returns-in-Ok-clause-desk g c =
    let V = g.V.Files in
    subst (λ (x : List Client). IsDesk (V.state c.end_at.new.v) x) (sym c.end_at.ensures.clients)
    (desk_ends (V.state c.args.v.now) (V.state c.end_at.new.v) c.args.self.now c.in-Ok.place (omega (arith, c.in-Ok.ensures.inside.0, c.in-Ok.ensures.inside.1)) c.requires c.end_at.ensures.state)

pub returns-in-Ok-clause-done : goal.returns-in-Ok-clause-done
returns-in-Ok-clause-done g c k clients now sits =
    let V = g.V.Files in
    let i = c.in-Ok.place in
    answers_held V.state V.holds (λ held s. done_outcome held s c.args.c) (Done c.args.c) k clients c.end_at.new.v c.end_at.new.self now (returns-in-Ok-clause-desk g c)
    (subst (λ (x : List Client). AnswersBy V.state V.holds (λ held s. done_outcome held s c.args.c) (Done c.args.c) k clients c.end_at.new.v x now) (sym c.end_at.ensures.clients)
    (done_done V.state V.holds (V.state c.args.v.now) c.args.c i k clients c.args.v.now c.end_at.new.v c.args.self.now now now (omega (arith, c.in-Ok.ensures.inside.0, c.in-Ok.ensures.inside.1)) c.in-Ok.ensures.inside.1
    (c.requires.each i) (λ j other. c.requires.apart i j (λ same. other (sym same))) sits (c.end_at.ensures.done k now)
    (found_reading c.args.self.now c.args.c i (sym c.in-Ok.ensures.is))))

pub returns-in-Ok-clause-kept : goal.returns-in-Ok-clause-kept
returns-in-Ok-clause-kept g c =
    let V = g.V.Files in
    let desk = c.args.self.now in
    let at = found_reading desk c.args.c c.in-Ok.place (sym c.in-Ok.ensures.is) in
    record {
      desk = c.end_at.ensures.clients ∙ ap (λ (n : ℕ). set desk n Idle) at.place;
      volume = subst (λ (n : ℕ). GivesUpPart (client_at desk n) (V.state c.args.v.now) (V.state c.end_at.new.v)) at.place c.end_at.ensures.state;
    }
