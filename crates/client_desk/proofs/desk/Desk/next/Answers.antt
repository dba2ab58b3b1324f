use Rattle.std.proofs.Common.{◌≡◌, ◌+◌, ℕ, List, Result, Err, arith, refl, sym, ap, subst, ◌∙◌, length, set}
use Rattle.std.specs.Prelude.{IfOk, MatchResult}
use Rattle.std.proofs.lemmas.List.{set-get_or}
use Rattle.fsd_bytes.specs.declared.refusal.Refusal.{Refusal}
use Rattle.fsd_files.specs.Desk.{Open}
use Rattle.volume_contract.specs.Order.{Comes, Follows, held_steps}
use Rattle.volume_contract.specs.State.{State}
use Rattle.client_desk.specs.declared.client.Client.{Client}
use Rattle.client_desk.specs.declared.client.Client.TheVariants.{Idle, Reading}
use Rattle.client_desk.specs.Clients.{CountsTo, GoesOnBehind, IsDesk, client_at}
use Rattle.client_desk.specs.Ends.{EndsNext, GivesNext, ReadsOn, ServesOpen, open_at}
use Rattle.client_desk.proofs.DeskLaws.{desk_goes, found_reading}
use Rattle.client_desk.proofs.SitsLaws.{client_whole, clients_are, data_fault, next_failed, next_given, next_refused, reading_fault, reads_of}
use Rattle.client_desk.proofs.desk.Desk.next.Given as given
use Rattle.client_desk.proofs.desk.Desk.next.Goals as goal

abbrev V-of : (g : given.Over) → Type 0
V-of g = g.row.V.Denot

pub returns-in-Err-clause-done : goal.returns-in-Err-clause-done
returns-in-Err-clause-done g c h k clients sits =
    let i = (g.M.Machine.now c.args.m.now).image in
    next_refused g.V.Files.state g.V.Files.holds c.args.c k clients c.args.v.now c.args.self.now i i c.args.buf.now c.args.buf.now (g.M.Machine.now c.args.m.now) c.in-Err.why (sym c.in-Err.ensures.is) sits

pub returns-in-Ok-given-clause-done : goal.returns-in-Ok-given-clause-done
returns-in-Ok-given-clause-done g c h k clients sits =
    let V = g.V.Files in
    let M = g.M.Machine in
    let desk = c.args.self.now in
    let i = c.in-Ok.place in
    let x = c.next_of-client.result.0 in
    let n = c.in-Ok-given.count in
    let from = (M.now c.args.m.now).image in
    let to = (M.now c.next_of-client.new.m).image in
    let v = c.args.v.now in
    let w = c.next_of-client.new.v in
    let at = found_reading desk c.args.c i (sym c.in-Ok.ensures.is) in
    let was = reads_of V.state V.holds k.opened desk clients c.args.c i at sits.each in
    let serves = subst (λ (y : Open). ServesOpen k.opened c.take.result y) was.is (subst (λ (z : Client). ServesOpen k.opened z (open_at clients i)) (sym c.take.ensures.client) (sits.each i)) in
    let read = c.next_of-client.ensures.done h k sits.stands was.key was.runs was.bytes was.place serves in
    let gave = subst (λ (r : Result ℕ Refusal). ReadsOn from to was.runs was.bytes was.place c.args.buf.now c.next_of-client.new.buf r) c.in-Ok-given.is read.0 in
    let given = subst (λ (r : Result ℕ Refusal). MatchResult r (λ m. GoesOnBehind m c.take.result x) (λ why. x ≡ c.take.result)) c.in-Ok-given.is c.next_of-client.ensures.client.goes in
    let goes = subst (λ (z : Client). GoesOnBehind n z x) c.take.ensures.client given in
    subst (λ (u : V-of g). GivesNext V.state V.holds c.args.c (length c.args.buf.now) from to k clients c.args.buf.now c.next_of-client.new.buf u c.set.new.self (M.now c.next_of-client.new.m) n) (sym c.set.ensures.volume)
    (subst (λ (y : List Client). GivesNext V.state V.holds c.args.c (length c.args.buf.now) from to k clients c.args.buf.now c.next_of-client.new.buf w y (M.now c.next_of-client.new.m) n) (sym (clients_are desk c.take.new.self c.set.new.self i x c.set.ensures.clients c.take.ensures.clients))
    (next_given V.state V.holds c.args.c i k clients v w desk (M.now c.args.m.now) (M.now c.next_of-client.new.m) from to c.args.buf.now c.next_of-client.new.buf at sits read.1 n x
    (omega (arith, c.in-Ok.ensures.inside.0, c.in-Ok.ensures.inside.1)) c.in-Ok.ensures.inside.1 goes gave))

pub returns-in-Err-given-clause-done : goal.returns-in-Err-given-clause-done
returns-in-Err-given-clause-done g c h k clients sits =
    let V = g.V.Files in
    let M = g.M.Machine in
    let desk = c.args.self.now in
    let i = c.in-Ok.place in
    let x = c.next_of-client.result.0 in
    let why = c.in-Err-given.why in
    let from = (M.now c.args.m.now).image in
    let to = (M.now c.next_of-client.new.m).image in
    let v = c.args.v.now in
    let w = c.next_of-client.new.v in
    let at = found_reading desk c.args.c i (sym c.in-Ok.ensures.is) in
    let was = reads_of V.state V.holds k.opened desk clients c.args.c i at sits.each in
    let serves = subst (λ (y : Open). ServesOpen k.opened c.take.result y) was.is (subst (λ (z : Client). ServesOpen k.opened z (open_at clients i)) (sym c.take.ensures.client) (sits.each i)) in
    let read = c.next_of-client.ensures.done h k sits.stands was.key was.runs was.bytes was.place serves in
    let gave = subst (λ (r : Result ℕ Refusal). ReadsOn from to was.runs was.bytes was.place c.args.buf.now c.next_of-client.new.buf r) c.in-Err-given.is read.0 in
    let kept = subst (λ (r : Result ℕ Refusal). MatchResult r (λ m. GoesOnBehind m c.take.result x) (λ z. x ≡ c.take.result)) c.in-Err-given.is c.next_of-client.ensures.client.goes in
    let self = clients_are desk c.take.new.self c.set.new.self i x c.set.ensures.clients c.take.ensures.clients ∙ ap (λ (z : Client). set desk i z) (kept ∙ c.take.ensures.client) ∙ set-get_or desk i Idle in
    let comes : Comes (held_steps (V.state v)) why = subst (λ (r : Result ℕ Refusal). Follows (held_steps (V.state v)) r) c.in-Err-given.is c.next_of-client.ensures.order in
    subst (λ (u : V-of g). let r : Result ℕ Refusal = Err why in EndsNext V.state V.holds c.args.c (length c.args.buf.now) from to k clients c.args.buf.now c.next_of-client.new.buf u c.set.new.self (M.now c.next_of-client.new.m) r) (sym c.set.ensures.volume)
    (subst (λ (y : List Client). let r : Result ℕ Refusal = Err why in EndsNext V.state V.holds c.args.c (length c.args.buf.now) from to k clients c.args.buf.now c.next_of-client.new.buf w y (M.now c.next_of-client.new.m) r) (sym self)
    (next_failed V.state V.holds c.args.c i k clients v w desk (M.now c.args.m.now) (M.now c.next_of-client.new.m) from to c.args.buf.now c.next_of-client.new.buf at sits read.1 why
    (data_fault (V.state v) why sits.stands.fits.up comes) gave))

pub returns-in-Err-clause-state : goal.returns-in-Err-clause-state
returns-in-Err-clause-state g c = record { desk = c.requires.desk; kept = record { desk = refl; volume = refl } }

pub returns-in-Err-given-clause-state : goal.returns-in-Err-given-clause-state
returns-in-Err-given-clause-state g c =
    let V = g.V.Files in
    let desk = c.args.self.now in
    let i = c.in-Ok.place in
    let x = c.next_of-client.result.0 in
    let kept = subst (λ (r : Result ℕ Refusal). MatchResult r (λ m. GoesOnBehind m c.take.result x) (λ why. x ≡ c.take.result)) c.in-Err-given.is c.next_of-client.ensures.client.goes in
    let same = ap (λ (w : V-of g). V.state w) c.set.ensures.volume ∙ c.next_of-client.ensures.state in
    let self = clients_are desk c.take.new.self c.set.new.self i x c.set.ensures.clients c.take.ensures.clients ∙ ap (λ (z : Client). set desk i z) (kept ∙ c.take.ensures.client) ∙ set-get_or desk i Idle in
    record {
      desk = subst (λ (s : State). IsDesk s c.set.new.self) (sym same) (subst (λ (y : List Client). IsDesk (V.state c.args.v.now) y) (sym self) c.requires.desk);
      kept = record { desk = self; volume = same };
    }

pub returns-in-Ok-given-clause-state : goal.returns-in-Ok-given-clause-state
returns-in-Ok-given-clause-state g c =
    let V = g.V.Files in
    let desk = c.args.self.now in
    let i = c.in-Ok.place in
    let x = c.next_of-client.result.0 in
    let n = c.in-Ok-given.count in
    let given = subst (λ (r : Result ℕ Refusal). MatchResult r (λ m. GoesOnBehind m c.take.result x) (λ why. x ≡ c.take.result)) c.in-Ok-given.is c.next_of-client.ensures.client.goes in
    let goes = subst (λ (z : Client). GoesOnBehind n z x) c.take.ensures.client given in
    let same = ap (λ (w : V-of g). V.state w) c.set.ensures.volume ∙ c.next_of-client.ensures.state in
    let room = length c.args.buf.now in
    let at = found_reading desk c.args.c i (sym c.in-Ok.ensures.is) in
    let of_client = c.take.ensures.client ∙ at.is.1 in
    let counted = subst (λ (r : Result ℕ Refusal). IfOk r (λ m. CountsTo room m c.take.result)) c.in-Ok-given.is c.next_of-client.ensures.client.count in
    let on = subst (λ (z : Client). GoesOnBehind n z x) of_client given in
    record {
      desk = subst (λ (s : State). IsDesk s c.set.new.self) (sym same)
          (subst (λ (y : List Client). IsDesk (V.state c.args.v.now) y) (sym (clients_are desk c.take.new.self c.set.new.self i x c.set.ensures.clients c.take.ensures.clients))
          (desk_goes (V.state c.args.v.now) desk i n x (omega (arith, c.in-Ok.ensures.inside.0, c.in-Ok.ensures.inside.1)) c.requires.desk goes));
      kept = record {
        reader = at.is.0;
        was = ap (λ (m : ℕ). client_at desk m) (sym at.place) ∙ at.is.1;
        count = subst (λ (z : Client). CountsTo room n z) of_client counted;
        desk = clients_are desk c.take.new.self c.set.new.self i x c.set.ensures.clients c.take.ensures.clients ∙ ap (λ (z : Client). set desk i z) on.0
            ∙ ap (λ (m : ℕ). set desk m (Reading (record at.is.0 { place = at.is.0.place + n }))) at.place;
        volume = same;
      };
    }

-- ---- what is told as damaged

pub returns-in-Err-clause-damaged : goal.returns-in-Err-clause-damaged
returns-in-Err-clause-damaged g c s is h = absurd (client_whole c.args.c s c.in-Err.why (reading_fault c.args.self.now c.args.c c.in-Err.why (sym c.in-Err.ensures.is)) (cc is))

pub returns-in-Err-given-clause-damaged : goal.returns-in-Err-given-clause-damaged
returns-in-Err-given-clause-damaged g c s is h = c.next_of-client.ensures.damaged s (c.in-Err-given.is ∙ is) h
