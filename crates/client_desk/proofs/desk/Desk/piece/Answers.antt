use Rattle.std.proofs.Common.{◌≡◌, ◌-◌, ℕ, List, [], length, set, Result, Ok, Err, refl, arith, sym, ap, subst, ◌∙◌, inl}
use Rattle.std.specs.Prelude.{MatchResult}
use Rattle.sector_disk.specs.Calls.{WritesDisk, device_in}
use Rattle.sector_disk.proofs.CallLaws.{writes_more, writes_none, writes_told}
use Rattle.fsd_bytes.specs.declared.refusal.Refusal.{Refusal}
use Rattle.volume_contract.specs.Ends.{device_of}
use Rattle.volume_contract.specs.Order.{Comes, Follows, slices_steps}
use Rattle.volume_contract.specs.State.{State, WritesWithin}
use Rattle.client_desk.specs.declared.client.Client.{Client}
use Rattle.client_desk.specs.declared.client.Client.TheVariants.{Idle, Writing}
use Rattle.client_desk.specs.Clients.{Continuing, EndsDraftAt, GivesUpPart, MayCome, IsDesk, client_at, in_data, piece_len}
use Rattle.client_desk.specs.Ends.{AnswersAs, EndsPiece, EndsPieces, LeavesFor, LeavesOf}
use Rattle.fsd_files.specs.Desk.{piece_outcome}
use Rattle.fsd_files.specs.declared.reply.Reply.TheVariants.{Took}
use Rattle.client_desk.proofs.CreationLaws.{broken_at, client_stays, leaves_all, leaves_of, long_device, long_stays, piece_done, piece_failed, piece_long, piece_refused, serves_so, writes_as, writes_so}
use Rattle.client_desk.proofs.DeskLaws.{continues_on, desk_ends, desk_writes, found_writing}
use Rattle.client_desk.proofs.SitsLaws.{client_device, clients_are, writing_fault}
use Rattle.client_desk.proofs.desk.Desk.piece.Given as given
use Rattle.client_desk.proofs.desk.Desk.piece.Goals as goal

abbrev V-of : (g : given.Over) → Type 0
V-of g = g.row.V.Denot

pub returns-in-Err-clause-done : goal.returns-in-Err-clause-done
returns-in-Err-clause-done g c h k clients sits =
    let V = g.V.Files in
    piece_refused V.state V.holds c.args.c c.args.bytes.now k clients c.args.v.now c.args.self.now (g.M.Machine.now c.args.m.now) c.in-Err.why (sym c.in-Err.ensures.is) sits

pub returns-in-Some-clause-done : goal.returns-in-Some-clause-done
returns-in-Some-clause-done g c h k clients sits =
    let V = g.V.Files in
    let desk = c.args.self.now in
    let i = c.in-Ok.place in
    piece_long V.state V.holds c.args.c i k clients c.args.v.now desk (g.M.Machine.now c.args.m.now) (found_writing desk c.args.c i (sym c.in-Ok.ensures.is)) sits c.args.bytes.now c.in-Some.why (sym c.in-Some.ensures.is)

pub returns-in-Ok-came-clause-done : goal.returns-in-Ok-came-clause-done
returns-in-Ok-came-clause-done g c h k clients sits =
    let V = g.V.Files in
    let M = g.M.Machine in
    let desk = c.args.self.now in
    let i = c.in-Ok.place in
    let x = c.piece_of-client.result.0 in
    let v = c.args.v.now in
    let w = c.piece_of-client.new.v in
    let s = V.state v in
    let n = c.in-Ok-came.total in
    let old = M.now c.args.m.now in
    let now = M.now c.piece_of-client.new.m in
    let bytes = c.args.bytes.now in
    let inside = c.in-Ok.ensures.inside in
    let at = found_writing desk c.args.c i (sym c.in-Ok.ensures.is) in
    let was = writes_as V.state V.holds c.args.c i k clients v desk old at sits in
    let serves = serves_so V.state V.holds c.args.c i k clients v desk old at sits c.take.result c.take.ensures.client in
    let told = subst (λ (r : Result ℕ Refusal). EndsPieces V.state V.holds k c.take.result x was.name was.len was.runs was.serial was.bytes bytes w now r) c.in-Ok-came.is
    (c.piece_of-client.ensures.done h k sits.stands was.name was.len was.runs was.serial was.bytes serves) in
    let ends = subst (λ (z : Client). let r : Result ℕ Refusal = Ok n in EndsPieces V.state V.holds k z x was.name was.len was.runs was.serial was.bytes bytes w now r) c.take.ensures.client told in
    let room : MayCome (client_at desk i) (length bytes) = c.in-None.ensures.room refl (writes_so desk i at) in
    subst (λ (u : V-of g). AnswersAs V.state V.holds (λ z. piece_outcome z c.args.c bytes) (Took c.args.c n) [] k clients u c.set.new.self now) (sym c.set.ensures.volume)
    (subst (λ (y : List Client). AnswersAs V.state V.holds (λ z. piece_outcome z c.args.c bytes) (Took c.args.c n) [] k clients w y now) (sym (clients_are desk c.take.new.self c.set.new.self i x c.set.ensures.clients c.take.ensures.clients))
    (piece_done V.state V.holds c.args.c i k clients v desk old at sits s w now (omega (arith, inside.0, inside.1)) inside.1 (c.requires.desk.each i) (λ j other. c.requires.desk.apart i j (λ same. other (sym same))) x bytes n room ends))

pub returns-in-Err-came-clause-done : goal.returns-in-Err-came-clause-done
returns-in-Err-came-clause-done g c h k clients sits =
    let V = g.V.Files in
    let M = g.M.Machine in
    let desk = c.args.self.now in
    let i = c.in-Ok.place in
    let x = c.piece_of-client.result.0 in
    let v = c.args.v.now in
    let w = c.piece_of-client.new.v in
    let s = V.state v in
    let why = c.in-Err-came.why in
    let old = M.now c.args.m.now in
    let now = M.now c.piece_of-client.new.m in
    let bytes = c.args.bytes.now in
    let inside = c.in-Ok.ensures.inside in
    let at = found_writing desk c.args.c i (sym c.in-Ok.ensures.is) in
    let was = writes_as V.state V.holds c.args.c i k clients v desk old at sits in
    let serves = serves_so V.state V.holds c.args.c i k clients v desk old at sits c.take.result c.take.ensures.client in
    let went = subst (λ (r : Result ℕ Refusal). MatchResult r (λ m. (V.state w ≡ V.state c.args.v.now) × Continuing (length c.args.bytes.now) m c.take.result x) (λ z. GivesUpPart c.take.result (V.state c.args.v.now) (V.state w) × (x ≡ Idle))) c.in-Err-came.is c.piece_of-client.ensures.client in
    let told = subst (λ (r : Result ℕ Refusal). EndsPieces V.state V.holds k c.take.result x was.name was.len was.runs was.serial was.bytes bytes w now r) c.in-Err-came.is
    (c.piece_of-client.ensures.done h k sits.stands was.name was.len was.runs was.serial was.bytes serves) in
    let ends = subst (λ (z : Client). let r : Result ℕ Refusal = Err why in EndsPieces V.state V.holds k z x was.name was.len was.runs was.serial was.bytes bytes w now r) c.take.ensures.client told in
    subst (λ (u : V-of g). let r : Result ℕ Refusal = Err why in EndsPiece V.state V.holds c.args.c bytes k clients u c.set.new.self now r) (sym c.set.ensures.volume)
    (subst (λ (y : List Client). let r : Result ℕ Refusal = Err why in EndsPiece V.state V.holds c.args.c bytes k clients w y now r) (sym (clients_are desk c.take.new.self c.set.new.self i x c.set.ensures.clients c.take.ensures.clients))
    (piece_failed V.state V.holds c.args.c i k clients v desk old at sits s w now (omega (arith, inside.0, inside.1)) inside.1 (c.requires.desk.each i) (λ j other. c.requires.desk.apart i j (λ same. other (sym same))) x bytes why went.1 ends))

pub returns-in-Err-clause-disk : goal.returns-in-Err-clause-disk
returns-in-Err-clause-disk g c =
    let V = g.V.Files in
    let M = g.M.Machine in
    let at = c.args.m.now in
    let may = in_data (client_at c.args.self.now (c.args.c - 1)) in
    writes_told (client_device c.args.c c.in-Err.why (writing_fault c.args.self.now c.args.c c.in-Err.why (sym c.in-Err.ensures.is)))
    (writes_none at (λ left h is. g.met.M.Machine.only_now at left h is) (LeavesOf V.state V.holds c.args.v.now c.args.self.now may) (λ h. leaves_all V.state V.holds c.args.v.now c.args.self.now may (M.now at)))

pub returns-in-Some-clause-disk : goal.returns-in-Some-clause-disk
returns-in-Some-clause-disk g c =
    let V = g.V.Files in
    let M = g.M.Machine in
    let at = c.args.m.now in
    let may = in_data (client_at c.args.self.now (c.args.c - 1)) in
    writes_told (long_device (client_at c.args.self.now c.in-Ok.place) (length c.args.bytes.now) c.in-Some.why (sym c.in-Some.ensures.is))
    (writes_none at (λ left h is. g.met.M.Machine.only_now at left h is) (LeavesOf V.state V.holds c.args.v.now c.args.self.now may) (λ h. leaves_all V.state V.holds c.args.v.now c.args.self.now may (M.now at)))

pub returns-in-Ok-came-clause-disk : goal.returns-in-Ok-came-clause-disk
returns-in-Ok-came-clause-disk g c =
    let V = g.V.Files in
    let M = g.M.Machine in
    let desk = c.args.self.now in
    let x = c.take.result in
    let at = found_writing desk c.args.c c.in-Ok.place (sym c.in-Ok.ensures.is) in
    writes_more (subst (λ (r : Result ℕ Refusal). WritesDisk M (device_in device_of r) (LeavesFor V.state V.holds c.args.v.now x (in_data x)) c.args.m.now c.piece_of-client.new.m) c.in-Ok-came.is c.piece_of-client.ensures.disk)
    (λ h left leaves. leaves_of V.state V.holds c.args.v.now desk c.in-Ok.place c.args.c x (M.now c.args.m.now) left c.take.ensures.client at.place leaves)

pub returns-in-Err-came-clause-disk : goal.returns-in-Err-came-clause-disk
returns-in-Err-came-clause-disk g c =
    let V = g.V.Files in
    let M = g.M.Machine in
    let desk = c.args.self.now in
    let x = c.take.result in
    let at = found_writing desk c.args.c c.in-Ok.place (sym c.in-Ok.ensures.is) in
    writes_more (subst (λ (r : Result ℕ Refusal). WritesDisk M (device_in device_of r) (LeavesFor V.state V.holds c.args.v.now x (in_data x)) c.args.m.now c.piece_of-client.new.m) c.in-Err-came.is c.piece_of-client.ensures.disk)
    (λ h left leaves. leaves_of V.state V.holds c.args.v.now desk c.in-Ok.place c.args.c x (M.now c.args.m.now) left c.take.ensures.client at.place leaves)

pub returns-in-Err-clause-state : goal.returns-in-Err-clause-state
returns-in-Err-clause-state g c =
    let s = g.V.Files.state c.args.v.now in
    let desk = c.args.self.now in
    record {
      desk = c.requires.desk;
      kept = client_stays c.args.c (c.args.c - 1) desk desk s s c.in-Err.why (writing_fault desk c.args.c c.in-Err.why (sym c.in-Err.ensures.is)) (record { desk = refl; volume = refl });
    }

pub returns-in-Some-clause-state : goal.returns-in-Some-clause-state
returns-in-Some-clause-state g c =
    let s = g.V.Files.state c.args.v.now in
    let desk = c.args.self.now in
    record {
      desk = c.requires.desk;
      kept = long_stays (c.args.c - 1) (length c.args.bytes.now) desk desk s s (client_at desk c.in-Ok.place) c.in-Some.why (sym c.in-Some.ensures.is) (record { desk = refl; volume = refl });
    }

pub returns-in-Ok-came-clause-state : goal.returns-in-Ok-came-clause-state
returns-in-Ok-came-clause-state g c =
    let V = g.V.Files in
    let desk = c.args.self.now in
    let i = c.in-Ok.place in
    let x = c.piece_of-client.result.0 in
    let w = c.piece_of-client.new.v in
    let n = c.in-Ok-came.total in
    let went = subst (λ (r : Result ℕ Refusal). MatchResult r (λ m. (V.state w ≡ V.state c.args.v.now) × Continuing (length c.args.bytes.now) m c.take.result x) (λ why. GivesUpPart c.take.result (V.state c.args.v.now) (V.state w) × (x ≡ Idle))) c.in-Ok-came.is c.piece_of-client.ensures.client in
    let goes = subst (λ (z : Client). Continuing (length c.args.bytes.now) n z x) c.take.ensures.client went.1 in
    let same = ap (λ (u : V-of g). V.state u) c.set.ensures.volume ∙ went.0 in
    let at = found_writing desk c.args.c i (sym c.in-Ok.ensures.is) in
    let grown = subst (λ (z : Client). Continuing (length c.args.bytes.now) n z x) (c.take.ensures.client ∙ at.is.1) went.1 in
    record {
      desk = subst (λ (s : State). IsDesk s c.set.new.self) (sym same)
          (subst (λ (y : List Client). IsDesk (V.state c.args.v.now) y) (sym (clients_are desk c.take.new.self c.set.new.self i x c.set.ensures.clients c.take.ensures.clients))
          (desk_writes (V.state c.args.v.now) desk i x (omega (arith, c.in-Ok.ensures.inside.0, c.in-Ok.ensures.inside.1)) c.requires.desk (continues_on (length c.args.bytes.now) n (client_at desk i) x goes)));
      kept = record {
        before = at.is.0;
        was = ap (λ (m : ℕ). client_at desk m) (sym at.place) ∙ at.is.1;
        creation = grown.0;
        desk = clients_are desk c.take.new.self c.set.new.self i x c.set.ensures.clients c.take.ensures.clients ∙ ap (λ (z : Client). set desk i z) grown.1 ∙ ap (λ (m : ℕ). set desk m (Writing grown.0)) at.place;
        grows = grown.2;
        got = grown.3;
        volume = ap (λ (u : V-of g). V.state u) c.set.ensures.volume ∙ went.0;
      };
    }

pub returns-in-Err-came-clause-state : goal.returns-in-Err-came-clause-state
returns-in-Err-came-clause-state g c =
    let V = g.V.Files in
    let desk = c.args.self.now in
    let i = c.in-Ok.place in
    let x = c.piece_of-client.result.0 in
    let w = c.piece_of-client.new.v in
    let s = V.state c.args.v.now in
    let went = subst (λ (r : Result ℕ Refusal). MatchResult r (λ m. (V.state w ≡ V.state c.args.v.now) × Continuing (length c.args.bytes.now) m c.take.result x) (λ why. GivesUpPart c.take.result (V.state c.args.v.now) (V.state w) × (x ≡ Idle))) c.in-Err-came.is c.piece_of-client.ensures.client in
    let gives = subst (λ (z : Client). GivesUpPart z s (V.state w)) c.take.ensures.client went.0 in
    let self = clients_are desk c.take.new.self c.set.new.self i x c.set.ensures.clients c.take.ensures.clients ∙ ap (λ (z : Client). set desk i z) went.1 in
    let at = found_writing desk c.args.c i (sym c.in-Ok.ensures.is) in
    let comes : Comes (slices_steps s (in_data c.take.result)) c.in-Err-came.why = subst (λ (r : Result ℕ Refusal). Follows (slices_steps s (in_data c.take.result)) r) c.in-Err-came.is c.piece_of-client.ensures.order in
    record {
      desk = subst (λ (u : V-of g). IsDesk (V.state u) c.set.new.self) (sym c.set.ensures.volume)
          (subst (λ (y : List Client). IsDesk (V.state w) y) (sym self)
          (desk_ends s (V.state w) desk i (omega (arith, c.in-Ok.ensures.inside.0, c.in-Ok.ensures.inside.1)) c.requires.desk gives));
      kept = subst (λ (n : ℕ). EndsDraftAt c.in-Err-came.why n desk c.set.new.self s (V.state c.set.new.v)) at.place
          (broken_at s (in_data c.take.result) i desk c.set.new.self s (V.state c.set.new.v) c.in-Err-came.why comes
          (record { desk = self; volume = subst (λ (u : V-of g). GivesUpPart (client_at desk i) s (V.state u)) (sym c.set.ensures.volume) gives }));
    }

pub returns-in-Err-clause-writes : goal.returns-in-Err-clause-writes
returns-in-Err-clause-writes g c = record { rest = λ h. record { size = refl; others = λ s out. inl refl }; counted = λ t. (omega arith, omega arith) }

pub returns-in-Some-clause-writes : goal.returns-in-Some-clause-writes
returns-in-Some-clause-writes g c = record { rest = λ h. record { size = refl; others = λ s out. inl refl }; counted = λ t. (omega arith, omega arith) }

pub returns-in-Ok-came-clause-writes : goal.returns-in-Ok-came-clause-writes
returns-in-Ok-came-clause-writes g c =
    let M = g.M.Machine in
    let desk = c.args.self.now in
    let count = length c.args.bytes.now in
    let at = found_writing desk c.args.c c.in-Ok.place (sym c.in-Ok.ensures.is) in
    let r : Result ℕ Refusal = Ok c.in-Ok-came.total in
    subst (λ (z : Client). WritesWithin M (in_data z) (piece_len z count) c.args.m.now c.piece_of-client.new.m r) (c.take.ensures.client ∙ ap (λ (n : ℕ). client_at desk n) at.place)
    (subst (λ (y : Result ℕ Refusal). WritesWithin M (in_data c.take.result) (piece_len c.take.result count) c.args.m.now c.piece_of-client.new.m y) c.in-Ok-came.is c.piece_of-client.ensures.writes)

pub returns-in-Err-came-clause-writes : goal.returns-in-Err-came-clause-writes
returns-in-Err-came-clause-writes g c =
    let M = g.M.Machine in
    let desk = c.args.self.now in
    let count = length c.args.bytes.now in
    let at = found_writing desk c.args.c c.in-Ok.place (sym c.in-Ok.ensures.is) in
    let r : Result ℕ Refusal = Err c.in-Err-came.why in
    subst (λ (z : Client). WritesWithin M (in_data z) (piece_len z count) c.args.m.now c.piece_of-client.new.m r) (c.take.ensures.client ∙ ap (λ (n : ℕ). client_at desk n) at.place)
    (subst (λ (y : Result ℕ Refusal). WritesWithin M (in_data c.take.result) (piece_len c.take.result count) c.args.m.now c.piece_of-client.new.m y) c.in-Err-came.is c.piece_of-client.ensures.writes)
