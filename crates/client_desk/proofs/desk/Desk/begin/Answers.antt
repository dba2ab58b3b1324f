use Rattle.std.proofs.Common.{◌≡◌, ℕ, List, [], refl, arith, sym, ap, subst, ◌∙◌, inl, inr, set, Result}
use Rattle.client_desk.specs.declared.client.Client.{Client}
use Rattle.client_desk.specs.declared.client.Client.TheVariants.{Writing}
use Rattle.client_desk.specs.Clients.{ShareNothing, IsDesk, IsOf, client_at, fault_in}
use Rattle.client_desk.specs.Ends.{AnswersAs}
use Rattle.client_desk.proofs.DeskLaws.{found_idle, taken_beside}
use Rattle.client_desk.proofs.SitsLaws.{client_device, idle_fault, begin_declined, begin_done, begin_refused}
use Rattle.sector_disk.proofs.CallLaws.{writes_none, writes_told}
use Rattle.fsd_sound.proofs.MountedLaws.{mounted_sound}
use Rattle.fsd_sound.specs.Writes.{force_writes}
use Rattle.fsd_bytes.specs.declared.refusal.Refusal.{Refusal}
use Rattle.fsd_formats.specs.NamePage.{sectors_for}
use Rattle.volume_contract.specs.State.{Leaves, forced_of}
use Rattle.fsd_files.specs.Desk.{begin_outcome}
use Rattle.fsd_files.specs.declared.reply.Reply.TheVariants.{Begun}
use Rattle.volume_contract.specs.Order.{with_drawn}
use Rattle.volume_contract.specs.Pieces.{Begins, IsDraft, Reserves, TakesPlace}
use Rattle.volume_contract.specs.declared.token.Draft.{Draft}
use Rattle.client_desk.proofs.DeskLaws.{desk_same, desk_takes, looks_middle, of_same}
use Rattle.client_desk.proofs.desk.Desk.begin.Given as given
use Rattle.client_desk.proofs.desk.Desk.begin.Goals as goal

abbrev V-of : (g : given.Over) → Type 0
V-of g = g.row.V.Denot

pub returns-in-Err-clause-disk : goal.returns-in-Err-clause-disk
returns-in-Err-clause-disk g c =
    let V = g.V.Files in
    let M = g.M.Machine in
    let at = c.args.m.now in
    let may = force_writes (V.state c.args.v.now).layout in
    writes_told (client_device c.args.c c.in-Err.why (idle_fault c.args.self.now c.args.c c.in-Err.why (sym c.in-Err.ensures.is)))
    (writes_none at (λ left h is. g.met.M.Machine.only_now at left h is) (Leaves V.state V.holds c.args.v.now may)
    (λ h k stands. record {
      sound = mounted_sound k.mounted k.windows k.changes (forced_of k) (M.now at).image stands.disk;
      roots = stands.disk.over.own.roots;
      windows = refl;
      said = refl;
      touches = record { size = refl; others = λ s out. inl refl };
    }))

pub returns-in-Err-clause-done : goal.returns-in-Err-clause-done
returns-in-Err-clause-done g c h k clients sits =
    let V = g.V.Files in
    begin_refused V.state V.holds c.args.c c.args.name.now c.args.length k clients c.args.v.now c.args.self.now (g.M.Machine.now c.args.m.now) c.in-Err.why (sym c.in-Err.ensures.is) sits

pub returns-in-Err-reserve-clause-done : goal.returns-in-Err-reserve-clause-done
returns-in-Err-reserve-clause-done g c h k clients sits =
    let V = g.V.Files in
    let M = g.M.Machine in
    begin_declined V.state V.holds c.args.c c.args.name.now c.args.length c.in-Ok.place k clients c.args.v.now c.reserve.new.self c.args.self.now (M.now c.args.m.now) (M.now c.reserve.new.m) c.in-Err-reserve.why
    (found_idle c.args.self.now c.args.c c.in-Ok.place (sym c.in-Ok.ensures.is)) sits (c.in-Err-reserve.ensures.done h k sits.stands)

pub returns-in-Ok-reserve-clause-done : goal.returns-in-Ok-reserve-clause-done
returns-in-Ok-reserve-clause-done g c h k clients sits =
    let V = g.V.Files in
    let M = g.M.Machine in
    let s = V.state c.args.v.now in
    let t = V.state c.reserve.new.self in
    let i = c.in-Ok.place in
    let x = c.begun.result in
    let d = c.in-Ok-reserve.draft in
    let desk = c.args.self.now in
    let length_is = c.in-Ok.ensures.inside.1 in
    let e = c.in-Ok-reserve.ensures in
    let is_draft : IsOf t (Writing x) = subst (λ (y : Draft). IsDraft t y) (sym c.begun.ensures.draft) e.keeps.draft.1 in
    let takes : TakesPlace x.draft.runs (with_drawn e.keeps.kept.middle) t = subst (λ (y : Draft). TakesPlace y.runs (with_drawn e.keeps.kept.middle) t) (sym c.begun.ensures.draft) e.keeps.kept.takes in
    let apart : (j : ℕ) → (j ≡ i → ⊥) → ShareNothing (Writing x) (client_at desk j) = λ j other. (taken_beside (with_drawn e.keeps.kept.middle) t x (client_at desk j) takes (of_same s (with_drawn e.keeps.kept.middle) (client_at desk j) (looks_middle s e.keeps.kept.middle e.keeps.kept.went) (c.requires.desk.each j))).0 in
    subst (λ (w : V-of g). AnswersAs V.state V.holds (λ y. begin_outcome y c.args.c c.args.name.now c.args.length) (Begun c.args.c) [] k clients w c.set.new.self (M.now c.reserve.new.m)) (sym c.set.ensures.volume)
    (subst (λ (y : List Client). AnswersAs V.state V.holds (λ z. begin_outcome z c.args.c c.args.name.now c.args.length) (Begun c.args.c) [] k clients c.reserve.new.self y (M.now c.reserve.new.m)) (sym c.set.ensures.clients)
    (begin_done V.state V.holds t c.args.c c.args.name.now c.args.length i k clients c.args.v.now c.reserve.new.self desk (M.now c.args.m.now) (M.now c.reserve.new.m) x
    (omega (arith, c.in-Ok.ensures.inside.0, length_is)) length_is (found_idle desk c.args.c i (sym c.in-Ok.ensures.is)) is_draft apart c.begun.ensures.name (ap (λ (y : Draft). y.length) c.begun.ensures.draft ∙ e.keeps.draft.0) c.begun.ensures.got
    sits (subst (λ (y : Draft). Begins V.state V.holds c.args.length k c.reserve.new.self (M.now c.reserve.new.m) y) (sym c.begun.ensures.draft) (e.done h k sits.stands))))

pub returns-in-Err-clause-writes : goal.returns-in-Err-clause-writes
returns-in-Err-clause-writes g c =
    record {
      rest = λ h. record { size = refl; others = λ s out. inl refl };
      counted = λ t. (omega arith, omega arith);
    }

pub returns-in-Err-reserve-clause-writes : goal.returns-in-Err-reserve-clause-writes
returns-in-Err-reserve-clause-writes g c = let e = c.in-Err-reserve.ensures.writes in record { rest = e.rest; counted = e.counted }

pub returns-in-Ok-reserve-clause-writes : goal.returns-in-Ok-reserve-clause-writes
returns-in-Ok-reserve-clause-writes g c = let e = c.in-Ok-reserve.ensures.writes in record { rest = e.rest; counted = e.counted }

pub returns-in-Err-clause-state : goal.returns-in-Err-clause-state
returns-in-Err-clause-state g c =
    record {
      desk = c.requires.desk;
      kept = record { desk = refl; volume = inl (ap (λ (r : Result ℕ Refusal). fault_in r) (sym c.in-Err.ensures.is), refl) };
    }

pub returns-in-Err-reserve-clause-state : goal.returns-in-Err-reserve-clause-state
returns-in-Err-reserve-clause-state g c =
    let V = g.V.Files in
    let goes = c.in-Err-reserve.ensures.keeps.state in
    record {
      desk = desk_same (V.state c.args.v.now) (V.state c.reserve.new.self) c.args.self.now (record { layout = goes.layout; unfinished = goes.unfinished; readers = goes.readers }) c.requires.desk;
      kept = record { desk = refl; volume = inr (ap (λ (r : Result ℕ Refusal). fault_in r) (sym c.in-Ok.ensures.is), c.in-Err-reserve.ensures.keeps.kept) };
    }

pub returns-in-Ok-reserve-clause-state : goal.returns-in-Ok-reserve-clause-state
returns-in-Ok-reserve-clause-state g c =
    let V = g.V.Files in
    let s = V.state c.args.v.now in
    let t = V.state c.reserve.new.self in
    let i = c.in-Ok.place in
    let x = c.begun.result in
    let desk = c.args.self.now in
    let e = c.in-Ok-reserve.ensures in
    let is_draft : IsDraft t x.draft = subst (λ (y : Draft). IsDraft t y) (sym c.begun.ensures.draft) e.keeps.draft.1 in
    let takes : TakesPlace x.draft.runs (with_drawn e.keeps.kept.middle) t = subst (λ (y : Draft). TakesPlace y.runs (with_drawn e.keeps.kept.middle) t) (sym c.begun.ensures.draft) e.keeps.kept.takes in
    let need = sectors_for c.args.length in
    let at = found_idle desk c.args.c c.in-Ok.place (sym c.in-Ok.ensures.is) in
    record {
      desk = subst (λ (w : V-of g). IsDesk (V.state w) c.set.new.self) (sym c.set.ensures.volume)
          (subst (λ (y : List Client). IsDesk t y) (sym c.set.ensures.clients)
          (desk_takes (with_drawn e.keeps.kept.middle) t desk i x (omega (arith, c.in-Ok.ensures.inside.0, c.in-Ok.ensures.inside.1))
          (desk_same s (with_drawn e.keeps.kept.middle) desk (looks_middle s e.keeps.kept.middle e.keeps.kept.went) c.requires.desk)
          (found_idle desk c.args.c i (sym c.in-Ok.ensures.is)).is takes is_draft));
      kept = record {
        creation = x;
        desk = c.set.ensures.clients ∙ ap (λ (n : ℕ). set desk n (Writing x)) at.place;
        named = c.begun.ensures.name;
        long = ap (λ (y : Draft). y.length) c.begun.ensures.draft ∙ e.keeps.draft.0;
        none = c.begun.ensures.got;
        volume = subst (λ (w : V-of g). Reserves need s (V.state w) x.draft) (sym c.set.ensures.volume) (subst (λ (y : Draft). Reserves need s (V.state c.reserve.new.self) y) (sym c.begun.ensures.draft) e.keeps.kept);
      };
    }
