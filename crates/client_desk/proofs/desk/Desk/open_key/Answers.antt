use Rattle.std.proofs.Common.{◌≡◌, ◌<◌, ◌∙◌, ℕ, set, List, Option, Some, refl, arith, sym, ap, subst, length}
use Rattle.run_table.specs.declared.run.Run.{Run}
use Rattle.fsd_bytes.specs.declared.refusal.Refusal.TheVariants as Why
use Rattle.volume_contract.specs.Found.{ShowsReached}
use Rattle.volume_contract.specs.Causes.{HasCallCause}
use Rattle.fsd_table.specs.Reached.{HasEntry}
use Rattle.volume_contract.specs.Pieces.{HoldsAt}
use Rattle.volume_contract.specs.State.{State}
use Rattle.client_desk.specs.declared.client.Reader.{Reader}
use Rattle.client_desk.specs.declared.client.Client.{Client}
use Rattle.client_desk.specs.declared.client.Client.TheVariants.{Reading}
use Rattle.client_desk.specs.Clients.{IsDesk, client_at}
use Rattle.client_desk.proofs.DeskLaws.{found_idle, held_beside}
use Rattle.client_desk.proofs.HeldLaws.{answers_held}
use Rattle.client_desk.proofs.SitsLaws.{AnswersBy, idle_fault, open_done, open_failed, open_refused, told_so}
use Rattle.std.proofs.lemmas.List.{length-set}
use Rattle.client_desk.proofs.DeskLaws.{desk_holds}
use Rattle.client_desk.proofs.PlaceLaws.{place_free}
use Rattle.fsd_files.specs.Desk.{open_outcome}
use Rattle.fsd_files.specs.declared.reply.Reply.TheVariants.{Opened}
use Rattle.client_desk.proofs.desk.Desk.open_key.Given as given
use Rattle.client_desk.proofs.desk.Desk.open_key.Goals as goal

abbrev V-of : (g : given.Over) → Type 0
V-of g = g.row.V.Denot

pub returns-in-Err-clause-done : goal.returns-in-Err-clause-done
returns-in-Err-clause-done g c h k clients sits =
    open_refused g.V.Files.state g.V.Files.holds c.args.c c.args.key.now k clients c.args.v.now c.args.self.now (g.M.Machine.now c.args.m.now) c.in-Err.why (sym c.in-Err.ensures.is) sits

pub returns-in-Err-hold-clause-done : goal.returns-in-Err-hold-clause-done
returns-in-Err-hold-clause-done g c h k clients sits =
    let V = g.V.Files in
    let M = g.M.Machine in
    open_failed V.state V.holds c.args.c c.in-Ok.place c.args.key.now k clients c.args.v.now c.hold.new.self c.args.self.now (M.now c.args.m.now) (M.now c.hold.new.m)
    (found_idle c.args.self.now c.args.c c.in-Ok.place (sym c.in-Ok.ensures.is)) sits c.in-Err-hold.why (c.in-Err-hold.ensures.done h k sits.stands)

pub hold-requires-clause-place : goal.hold-requires-clause-place
hold-requires-clause-place g c =
    let V = g.V.Files in
    let desk = c.args.self.now in
    let inside = c.in-Ok.ensures.inside in
    place_free (V.state c.args.v.now) desk c.in-Ok.place c.requires.desk inside.1 inside.0 (found_idle desk c.args.c c.in-Ok.place (sym c.in-Ok.ensures.is)).is

pub returns-in-Ok-hold-clause-state : goal.returns-in-Ok-hold-clause-state
returns-in-Ok-hold-clause-state g c =
    let V = g.V.Files in
    let i = c.in-Ok.place in
    let desk = c.args.self.now in
    let e = c.in-Ok-hold.ensures in
    let held = c.in-Ok-hold.held in
    let r : Reader = record { held = held; place = 0 } in
    let s = V.state c.args.v.now in
    let at = found_idle desk c.args.c c.in-Ok.place (sym c.in-Ok.ensures.is) in
    record {
      desk = subst (λ (w : V-of g). IsDesk (V.state w) c.set.new.self) (sym c.set.ensures.volume)
          (subst (λ (y : List Client). IsDesk (V.state c.hold.new.self) y) (sym c.set.ensures.clients)
          (desk_holds (V.state c.args.v.now) (V.state c.hold.new.self) desk i r (omega (arith, c.in-Ok.ensures.inside.0, c.in-Ok.ensures.inside.1)) c.requires.desk
          (found_idle desk c.args.c i (sym c.in-Ok.ensures.is)).is e.state e.held));
      kept = record {
        reader = r;
        desk = c.set.ensures.clients ∙ ap (λ (n : ℕ). set desk n (Reading r)) at.place;
        of_key = e.tells.key;
        long = refl;
        from = refl;
        volume = subst (λ (w : V-of g). HoldsAt held s (V.state w)) (sym c.set.ensures.volume) e.state;
      };
    }

pub returns-in-Ok-hold-clause-done : goal.returns-in-Ok-hold-clause-done
returns-in-Ok-hold-clause-done g c h k clients sits =
    let V = g.V.Files in
    let M = g.M.Machine in
    let s = V.state c.args.v.now in
    let t = V.state c.hold.new.self in
    let i = c.in-Ok.place in
    let held = c.in-Ok-hold.held in
    let r : Reader = record { held = held; place = 0 } in
    let desk = c.args.self.now in
    let length_is = c.in-Ok.ensures.inside.1 in
    let e = c.in-Ok-hold.ensures in
    let there : held.place < length s.readers = omega (arith, e.held.there, ap (λ (xs : List (Option (List Run))). length xs) (ap (λ (x : State). x.readers) e.state.is), length-set s.readers held.place (Some held.entry.runs)) in
    answers_held V.state V.holds (λ x y. open_outcome x y c.args.c c.args.key.now) (Opened c.args.c held.entry.length) k clients c.set.new.v c.set.new.self (M.now c.hold.new.m) (returns-in-Ok-hold-clause-state g c).desk
    (subst (λ (w : V-of g). AnswersBy V.state V.holds (λ x y. open_outcome x y c.args.c c.args.key.now) (Opened c.args.c held.entry.length) k clients w c.set.new.self (M.now c.hold.new.m)) (sym c.set.ensures.volume)
    (subst (λ (z : List Client). AnswersBy V.state V.holds (λ x y. open_outcome x y c.args.c c.args.key.now) (Opened c.args.c held.entry.length) k clients c.hold.new.self z (M.now c.hold.new.m)) (sym c.set.ensures.clients)
    (open_done V.state V.holds c.args.c i c.args.key.now k clients c.args.v.now c.hold.new.self desk (M.now c.args.m.now) (M.now c.hold.new.m) (found_idle desk c.args.c i (sym c.in-Ok.ensures.is)) sits r
    (omega (arith, c.in-Ok.ensures.inside.0, length_is)) length_is (λ j other. (held_beside s t r (client_at desk j) e.state (c.requires.desk.each j)).0) e.tells.key refl there (e.done h k sits.stands))))

pub returns-in-Err-clause-state : goal.returns-in-Err-clause-state
returns-in-Err-clause-state g c = record { desk = c.requires.desk; kept = record { desk = refl; volume = refl } }

pub returns-in-Err-hold-clause-state : goal.returns-in-Err-hold-clause-state
returns-in-Err-hold-clause-state g c =
    let V = g.V.Files in
    let same = c.in-Err-hold.ensures.state in
    record {
      desk = subst (λ (s : State). IsDesk s c.args.self.now) (sym same) c.requires.desk;
      kept = record { desk = refl; volume = same };
    }

pub returns-in-Err-clause-causes : goal.returns-in-Err-clause-causes
returns-in-Err-clause-causes g c =
    let V = g.V.Files in
    let s = V.state c.args.v.now in
    let at = g.M.Machine.now c.args.m.now in
    let why = c.in-Err.why in
    let of = idle_fault c.args.self.now c.args.c why (sym c.in-Err.ensures.is) in
    record {
      causes = λ h. told_so (λ r. Unit {0}) (λ r. HasCallCause s s (V.resident c.args.v.now) at at r) c.args.c why (λ told. tt) (λ told. tt) (λ told. tt) of tt;
      absent = λ is. absurd (told_so (λ r. r ≡ Why.NoSuch) (λ r. ⊥) c.args.c why (λ e. cc e) (λ e. cc e) (λ e. cc e) of (cc is));
      found = tt;
    }

pub returns-in-Err-hold-clause-causes : goal.returns-in-Err-hold-clause-causes
returns-in-Err-hold-clause-causes g c = let e = c.in-Err-hold.ensures in record { causes = e.tells.causes; absent = λ is. e.tells.absent (cc is); found = tt }

pub returns-in-Ok-hold-clause-causes : goal.returns-in-Ok-hold-clause-causes
returns-in-Ok-hold-clause-causes g c =
    let V = g.V.Files in
    let M = g.M.Machine in
    let e = c.in-Ok-hold.ensures in
    let entry = c.in-Ok-hold.held.entry in
    record {
      causes = tt;
      absent = λ is. absurd (cc is);
      found = (entry, e.tells.key, refl, subst (λ (w : V-of g). ShowsReached M (V.resident c.args.v.now) (V.state c.args.v.now) (V.state w) c.args.m.now c.hold.new.m (HasEntry entry)) (sym c.set.ensures.volume) e.tells.found);
    }
