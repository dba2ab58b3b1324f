use Rattle.std.proofs.Common.{◌+◌, ◌-◌, ◌||◌, ℕ, List, set, None, Result, Ok, Err, false, inl, inr, refl, arith, sym, ap, subst, ◌∙◌}
use Rattle.std.proofs.lemmas.List.{set-get_or}
use Rattle.sector_disk.specs.Calls.{WritesDisk, device_in}
use Rattle.sector_disk.proofs.CallLaws.{writes_none, writes_told}
use Rattle.fsd_sound.specs.Writes.{force_writes}
use Rattle.volume_contract.specs.Ends.{device_of}
use Rattle.fsd_bytes.specs.declared.key.Key.{Key}
use Rattle.fsd_bytes.specs.declared.refusal.Refusal.{Refusal}
use Rattle.volume_contract.specs.Order.{KeepsRefused, enter_steps}
use Rattle.volume_contract.specs.State.{HasCounted, Leaves, WritesWithin, change_len, downs_for, forces_first}
use Rattle.client_desk.specs.declared.client.Client.{Client}
use Rattle.client_desk.specs.declared.client.Client.TheVariants.{Idle}
use Rattle.client_desk.specs.Clients.{ClosesClient, Continues, client_at, EntersFor, fault_in, in_first, IsDesk, IsWholeOne, too_short}
use Rattle.client_desk.specs.Ends.{ClosesDraft, EndsClose, EndsEntering}
use Rattle.client_desk.proofs.CreationLaws.{close_done, close_failed, close_refused, close_short, leaves_as_was, serves_so, short_device, writes_as, writes_so}
use Rattle.client_desk.proofs.DeskLaws.{desk_enters, desk_same, found_writing}
use Rattle.client_desk.proofs.SitsLaws.{client_device, clients_are, writing_fault}
use Rattle.client_desk.proofs.desk.Desk.close.Given as given
use Rattle.client_desk.proofs.desk.Desk.close.Goals as goal

abbrev V-of : (g : given.Over) → Type 0
V-of g = g.row.V.Denot

pub returns-in-Err-clause-done : goal.returns-in-Err-clause-done
returns-in-Err-clause-done g c h k clients sits =
    let V = g.V.Files in
    close_refused V.state V.holds c.args.c k clients c.args.v.now c.args.self.now (g.M.Machine.now c.args.m.now) c.in-Err.why (sym c.in-Err.ensures.is) sits

pub returns-in-Some-clause-done : goal.returns-in-Some-clause-done
returns-in-Some-clause-done g c h k clients sits =
    let V = g.V.Files in
    let desk = c.args.self.now in
    let i = c.in-Ok.place in
    close_short V.state V.holds c.args.c i k clients c.args.v.now desk (g.M.Machine.now c.args.m.now) (found_writing desk c.args.c i (sym c.in-Ok.ensures.is)) sits c.in-Some.why (sym c.in-Some.ensures.is)

-- ---- what it keeps

-- ---- what it answers

pub returns-in-Ok-closed-clause-done : goal.returns-in-Ok-closed-clause-done
returns-in-Ok-closed-clause-done g c h k clients sits =
    let V = g.V.Files in
    let M = g.M.Machine in
    let desk = c.args.self.now in
    let i = c.in-Ok.place in
    let x = c.close_of-client.result.0 in
    let v = c.args.v.now in
    let w = c.close_of-client.new.v in
    let s = V.state v in
    let key = c.in-Ok-closed.key in
    let old = M.now c.args.m.now in
    let now = M.now c.close_of-client.new.m in
    let inside = c.in-Ok.ensures.inside in
    let at = found_writing desk c.args.c i (sym c.in-Ok.ensures.is) in
    let was = writes_as V.state V.holds c.args.c i k clients v desk old at sits in
    let serves = serves_so V.state V.holds c.args.c i k clients v desk old at sits c.take.result c.take.ensures.client in
    let keeps = subst (λ (r : Result Key Refusal). ClosesClient c.take.result x s (V.state w) r) c.in-Ok-closed.is c.close_of-client.ensures.keeps in
    let ends = subst (λ (r : Result Key Refusal). EndsEntering V.state V.holds was.name was.runs was.serial was.bytes k w now r) c.in-Ok-closed.is
    (c.close_of-client.ensures.done h k sits.stands was.name was.len was.runs was.serial was.bytes serves) in
    let whole : IsWholeOne (client_at desk i) = c.in-None.ensures.whole refl (writes_so desk i at) in
    let self = clients_are desk c.take.new.self c.set.new.self i x c.set.ensures.clients c.take.ensures.clients ∙ ap (λ (z : Client). set desk i z) keeps.goes in
    subst (λ (u : V-of g). ClosesDraft V.state V.holds c.args.c k clients u c.set.new.self now key) (sym c.set.ensures.volume)
    (subst (λ (y : List Client). ClosesDraft V.state V.holds c.args.c k clients w y now key) (sym self)
    (close_done V.state V.holds c.args.c i k clients v desk old at sits s w now (omega (arith, inside.0, inside.1)) inside.1 (c.requires.desk.each i) (λ j other. c.requires.desk.apart i j (λ same. other (sym same))) key whole ends))

pub returns-in-Err-closed-clause-done : goal.returns-in-Err-closed-clause-done
returns-in-Err-closed-clause-done g c h k clients sits =
    let V = g.V.Files in
    let M = g.M.Machine in
    let desk = c.args.self.now in
    let i = c.in-Ok.place in
    let x = c.close_of-client.result.0 in
    let v = c.args.v.now in
    let w = c.close_of-client.new.v in
    let s = V.state v in
    let why = c.in-Err-closed.why in
    let old = M.now c.args.m.now in
    let now = M.now c.close_of-client.new.m in
    let inside = c.in-Ok.ensures.inside in
    let at = found_writing desk c.args.c i (sym c.in-Ok.ensures.is) in
    let was = writes_as V.state V.holds c.args.c i k clients v desk old at sits in
    let serves = serves_so V.state V.holds c.args.c i k clients v desk old at sits c.take.result c.take.ensures.client in
    let keeps = subst (λ (r : Result Key Refusal). ClosesClient c.take.result x s (V.state w) r) c.in-Err-closed.is c.close_of-client.ensures.keeps in
    let ends = subst (λ (r : Result Key Refusal). EndsEntering V.state V.holds was.name was.runs was.serial was.bytes k w now r) c.in-Err-closed.is
    (c.close_of-client.ensures.done h k sits.stands was.name was.len was.runs was.serial was.bytes serves) in
    let whole : IsWholeOne (client_at desk i) = c.in-None.ensures.whole refl (writes_so desk i at) in
    let self = clients_are desk c.take.new.self c.set.new.self i x c.set.ensures.clients c.take.ensures.clients ∙ ap (λ (z : Client). set desk i z) (keeps.goes ∙ c.take.ensures.client) ∙ set-get_or desk i Idle in
    subst (λ (u : V-of g). let r : Result Key Refusal = Err why in EndsClose V.state V.holds c.args.c k clients u c.set.new.self now r) (sym c.set.ensures.volume)
    (subst (λ (y : List Client). let r : Result Key Refusal = Err why in EndsClose V.state V.holds c.args.c k clients w y now r) (sym self)
    (close_failed V.state V.holds c.args.c i k clients v desk old at sits s w now (omega (arith, inside.0, inside.1)) inside.1 (c.requires.desk.each i) (λ j other. c.requires.desk.apart i j (λ same. other (sym same))) why whole ends))

pub returns-in-Err-clause-disk : goal.returns-in-Err-clause-disk
returns-in-Err-clause-disk g c =
    let V = g.V.Files in
    let M = g.M.Machine in
    let at = c.args.m.now in
    let v = c.args.v.now in
    let may = λ (t : ℕ). force_writes (V.state v).layout t || in_first (client_at c.args.self.now (c.args.c - 1)) t in
    writes_told (client_device c.args.c c.in-Err.why (writing_fault c.args.self.now c.args.c c.in-Err.why (sym c.in-Err.ensures.is)))
    (writes_none at (λ left h is. g.met.M.Machine.only_now at left h is) (Leaves V.state V.holds v may) (λ h. leaves_as_was V.state V.holds v may (M.now at)))

pub returns-in-Some-clause-disk : goal.returns-in-Some-clause-disk
returns-in-Some-clause-disk g c =
    let V = g.V.Files in
    let M = g.M.Machine in
    let at = c.args.m.now in
    let v = c.args.v.now in
    let may = λ (t : ℕ). force_writes (V.state v).layout t || in_first (client_at c.args.self.now (c.args.c - 1)) t in
    writes_told (short_device (client_at c.args.self.now c.in-Ok.place) c.in-Some.why (sym c.in-Some.ensures.is))
    (writes_none at (λ left h is. g.met.M.Machine.only_now at left h is) (Leaves V.state V.holds v may) (λ h. leaves_as_was V.state V.holds v may (M.now at)))

pub returns-in-Ok-closed-clause-disk : goal.returns-in-Ok-closed-clause-disk
returns-in-Ok-closed-clause-disk g c =
    let V = g.V.Files in
    let M = g.M.Machine in
    let desk = c.args.self.now in
    let v = c.args.v.now in
    let at = found_writing desk c.args.c c.in-Ok.place (sym c.in-Ok.ensures.is) in
    subst (λ (z : Client). WritesDisk M None (Leaves V.state V.holds v (λ t. force_writes (V.state v).layout t || in_first z t)) c.args.m.now c.close_of-client.new.m)
    (c.take.ensures.client ∙ ap (λ (n : ℕ). client_at desk n) at.place)
    (subst (λ (r : Result Key Refusal). WritesDisk M (device_in device_of r) (Leaves V.state V.holds v (λ t. force_writes (V.state v).layout t || in_first c.take.result t)) c.args.m.now c.close_of-client.new.m) c.in-Ok-closed.is c.close_of-client.ensures.disk)

pub returns-in-Err-closed-clause-disk : goal.returns-in-Err-closed-clause-disk
returns-in-Err-closed-clause-disk g c =
    let V = g.V.Files in
    let M = g.M.Machine in
    let desk = c.args.self.now in
    let v = c.args.v.now in
    let at = found_writing desk c.args.c c.in-Ok.place (sym c.in-Ok.ensures.is) in
    subst (λ (z : Client). WritesDisk M (device_of c.in-Err-closed.why) (Leaves V.state V.holds v (λ t. force_writes (V.state v).layout t || in_first z t)) c.args.m.now c.close_of-client.new.m)
    (c.take.ensures.client ∙ ap (λ (n : ℕ). client_at desk n) at.place)
    (subst (λ (r : Result Key Refusal). WritesDisk M (device_in device_of r) (Leaves V.state V.holds v (λ t. force_writes (V.state v).layout t || in_first c.take.result t)) c.args.m.now c.close_of-client.new.m) c.in-Err-closed.is c.close_of-client.ensures.disk)

pub returns-in-Err-clause-writes : goal.returns-in-Err-clause-writes
returns-in-Err-clause-writes g c = record { rest = λ h. record { size = refl; others = λ s out. inl refl }; counted = λ t. (omega arith, omega arith) }

pub returns-in-Some-clause-writes : goal.returns-in-Some-clause-writes
returns-in-Some-clause-writes g c = record { rest = λ h. record { size = refl; others = λ s out. inl refl }; counted = λ t. (omega arith, omega arith) }

pub returns-in-Ok-closed-clause-writes : goal.returns-in-Ok-closed-clause-writes
returns-in-Ok-closed-clause-writes g c =
    let M = g.M.Machine in
    let s = g.V.Files.state c.args.v.now in
    let desk = c.args.self.now in
    let at = found_writing desk c.args.c c.in-Ok.place (sym c.in-Ok.ensures.is) in
    let r : Result Key Refusal = Ok c.in-Ok-closed.key in
    subst (λ (z : Client). WritesWithin M (λ t. force_writes s.layout t || in_first z t) (1 + change_len s) c.args.m.now c.close_of-client.new.m r) (c.take.ensures.client ∙ ap (λ (n : ℕ). client_at desk n) at.place)
    (subst (λ (y : Result Key Refusal). WritesWithin M (λ t. force_writes s.layout t || in_first c.take.result t) (1 + change_len s) c.args.m.now c.close_of-client.new.m y) c.in-Ok-closed.is c.close_of-client.ensures.writes)

pub returns-in-Err-closed-clause-writes : goal.returns-in-Err-closed-clause-writes
returns-in-Err-closed-clause-writes g c =
    let M = g.M.Machine in
    let s = g.V.Files.state c.args.v.now in
    let desk = c.args.self.now in
    let at = found_writing desk c.args.c c.in-Ok.place (sym c.in-Ok.ensures.is) in
    let r : Result Key Refusal = Err c.in-Err-closed.why in
    subst (λ (z : Client). WritesWithin M (λ t. force_writes s.layout t || in_first z t) (1 + change_len s) c.args.m.now c.close_of-client.new.m r) (c.take.ensures.client ∙ ap (λ (n : ℕ). client_at desk n) at.place)
    (subst (λ (y : Result Key Refusal). WritesWithin M (λ t. force_writes s.layout t || in_first c.take.result t) (1 + change_len s) c.args.m.now c.close_of-client.new.m y) c.in-Err-closed.is c.close_of-client.ensures.writes)

pub returns-in-Err-clause-state : goal.returns-in-Err-clause-state
returns-in-Err-clause-state g c =
    record {
      desk = c.requires.desk;
      name = tt;
      goes = record { layout = refl; epoch = refl; down = inl refl };
      kept = record { desk = refl; volume = inl (ap (λ (r : Result ℕ Refusal). fault_in r) (sym c.in-Err.ensures.is), refl) };
    }

pub returns-in-Some-clause-state : goal.returns-in-Some-clause-state
returns-in-Some-clause-state g c =
    let desk = c.args.self.now in
    let at = found_writing desk c.args.c c.in-Ok.place (sym c.in-Ok.ensures.is) in
    record {
      desk = c.requires.desk;
      name = tt;
      goes = record { layout = refl; epoch = refl; down = inl refl };
      kept = record {
        desk = refl;
        volume = inr (
          ap (λ (r : Result ℕ Refusal). fault_in r) (sym c.in-Ok.ensures.is),
          inl (ap (λ (n : ℕ). too_short (client_at desk n)) (sym at.place) ∙ sym c.in-Some.ensures.is, refl),
        );
      };
    }

pub returns-in-Ok-closed-clause-state : goal.returns-in-Ok-closed-clause-state
returns-in-Ok-closed-clause-state g c =
    let V = g.V.Files in
    let desk = c.args.self.now in
    let i = c.in-Ok.place in
    let x = c.close_of-client.result.0 in
    let w = c.close_of-client.new.v in
    let s = V.state c.args.v.now in
    let at = found_writing desk c.args.c i (sym c.in-Ok.ensures.is) in
    let r : Result Key Refusal = Ok c.in-Ok-closed.key in
    let keeps = subst (λ (z : Client). ClosesClient z x s (V.state w) r) c.take.ensures.client (subst (λ (y : Result Key Refusal). ClosesClient c.take.result x s (V.state w) y) c.in-Ok-closed.is c.close_of-client.ensures.keeps) in
    let named = subst (λ (z : Client). ClosesClient z x s (V.state w) r) (ap (λ (n : ℕ). client_at desk n) at.place) keeps in
    let so = subst (λ (z : Client). EntersFor z s (V.state w)) at.is.1 keeps.state in
    let self = clients_are desk c.take.new.self c.set.new.self i x c.set.ensures.clients c.take.ensures.clients ∙ ap (λ (z : Client). set desk i z) keeps.goes in
    record {
      desk = subst (λ (u : V-of g). IsDesk (V.state u) c.set.new.self) (sym c.set.ensures.volume)
          (subst (λ (y : List Client). IsDesk (V.state w) y) (sym self)
          (desk_enters s (V.state w) desk i at.is.0 (omega (arith, c.in-Ok.ensures.inside.0, c.in-Ok.ensures.inside.1)) c.requires.desk at.is.1 so));
      name = named.name;
      goes = subst (λ (u : V-of g). Continues None s (V.state u)) (sym c.set.ensures.volume) (record { layout = so.layout; epoch = so.epoch; down = inl so.down });
      kept = record {
        desk = clients_are desk c.take.new.self c.set.new.self i x c.set.ensures.clients c.take.ensures.clients ∙ ap (λ (z : Client). set desk i z) keeps.goes ∙ ap (λ (n : ℕ). set desk n Idle) at.place;
        volume = subst (λ (u : V-of g). EntersFor (client_at desk (c.args.c - 1)) s (V.state u)) (sym c.set.ensures.volume) named.state;
        counted = subst (λ (u : V-of g). HasCounted false (forces_first s) s (V.state u)) (sym c.set.ensures.volume) named.kept;
      };
    }

pub returns-in-Err-closed-clause-state : goal.returns-in-Err-closed-clause-state
returns-in-Err-closed-clause-state g c =
    let V = g.V.Files in
    let desk = c.args.self.now in
    let i = c.in-Ok.place in
    let x = c.close_of-client.result.0 in
    let w = c.close_of-client.new.v in
    let s = V.state c.args.v.now in
    let keeps = subst (λ (r : Result Key Refusal). ClosesClient c.take.result x s (V.state w) r) c.in-Err-closed.is c.close_of-client.ensures.keeps in
    let goes = keeps.state in
    let self = clients_are desk c.take.new.self c.set.new.self i x c.set.ensures.clients c.take.ensures.clients ∙ ap (λ (z : Client). set desk i z) (keeps.goes ∙ c.take.ensures.client) ∙ set-get_or desk i Idle in
    let why = c.in-Err-closed.why in
    let at = found_writing desk c.args.c i (sym c.in-Ok.ensures.is) in
    record {
      desk = subst (λ (u : V-of g). IsDesk (V.state u) c.set.new.self) (sym c.set.ensures.volume)
          (subst (λ (y : List Client). IsDesk (V.state w) y) (sym self)
          (desk_same s (V.state w) desk (record { layout = goes.layout; unfinished = goes.unfinished; readers = goes.readers }) c.requires.desk));
      name = tt;
      goes = subst (λ (u : V-of g). Continues (downs_for why) s (V.state u)) (sym c.set.ensures.volume) (record { layout = goes.layout; epoch = goes.epoch; down = goes.down });
      kept = record {
        desk = clients_are desk c.take.new.self c.set.new.self i x c.set.ensures.clients c.take.ensures.clients ∙ ap (λ (z : Client). set desk i z) (keeps.goes ∙ c.take.ensures.client) ∙ set-get_or desk i Idle;
        volume = inr (
          ap (λ (r : Result ℕ Refusal). fault_in r) (sym c.in-Ok.ensures.is),
          inr (
            ap (λ (n : ℕ). too_short (client_at desk n)) (sym at.place) ∙ sym c.in-None.ensures.is,
            subst (λ (u : V-of g). KeepsRefused (enter_steps s None (in_first (client_at desk (c.args.c - 1)))) why s (V.state u)) (sym c.set.ensures.volume)
                (subst (λ (z : Client). KeepsRefused (enter_steps s None (in_first z)) why s (V.state w)) (c.take.ensures.client ∙ ap (λ (n : ℕ). client_at desk n) at.place) keeps.kept),
          ),
        );
      };
    }
