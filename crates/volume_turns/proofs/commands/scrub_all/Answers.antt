use Rattle.std.proofs.Common.{◌≤◌, false, None, length, ◌∙◌, refl, sym, ap, arith}
use Rattle.std.proofs.lemmas.List.{append-nil}
use Rattle.fsd_files.specs.declared.reply.Reply.TheVariants as Said
use Rattle.fsd_files.specs.Volume.{Volume}
use Rattle.fsd_texts.specs.declared.command.Command.TheVariants as Word
use Rattle.sector_disk.proofs.CallLaws.{writes_more}
use Rattle.volume_turns.specs.Steps.{ended_by}
use Rattle.volume_turns.proofs.DidLaws.{ended_did}
use Rattle.volume_turns.proofs.NumberLaws.{forced_goes}
use Rattle.volume_turns.proofs.ReasonLaws.{nothing_told}
use Rattle.volume_turns.proofs.ScrubLaws.{all_damaged, scrub_does, scrub_goes, scrub_looks, scrub_status, scrub_stays, scrub_still}
use Rattle.volume_turns.proofs.ToldLaws.{refused_told}
use Rattle.volume_turns.proofs.commands.scrub_all.Goals as goal

pub returns-in-Ok : goal.returns-in-Ok
returns-in-Ok g c =
    let V = g.V.Files in
    let M = g.M.Machine in
    let v = c.args.v.now in
    let a = c.args.m.now in
    let b = c.scrub.new.m in
    let s = V.state v in
    let image = (M.now b).image in
    let found = c.scrub.new.found.items in
    let healed = c.in-Ok.healed.sectors in
    let e = c.in-Ok.ensures in
    rw c.from.ensures
    (record {
      layout = e.state.layout;
      opened = e.state.opened;
      up = e.state.up;
      disk = writes_more e.disk (λ h left. scrub_stays V.state V.holds v (M.now a) left);
      tells = record {
        fault = tt;
        status = scrub_status found healed;
        answers = λ h. record {
          replies = let room : s.layout.sectors ≤ length image = omega (arith, c.requires.room, e.disk.uses.sectors, g.met.M.Machine.sized b h) in all_damaged s.layout image room found (e.tells h).damaged;
          rest = e.writes.rest h;
          still = e.state.kept.idle;
          worn = λ is. absurd (cc is);
          numbers = forced_goes s (V.state c.scrub.new.v) e.state.kept;
          told = tt;
        };
        written = e.writes.counted;
        because = λ h. ((e.tells h).damaged, (e.tells h).mended);
      };
      done = λ h k stands.
          let ends = e.done h k stands in (
            ends.after,
            record {
              met = record { forces = false; reached = 0; damaged = None; found = found; healed = healed };
              is = ap (λ (x : Volume). (Said.Scrubbed found healed, x)) (sym ends.forces.volume);
              opened = ends.forces.opened;
              windows = ends.forces.windows;
              changes = ends.forces.changes ∙ sym (append-nil k.changes);
              find = ends.finds;
              unworn = λ may. cc may;
            },
            ends.stands,
            ends,
          );
    })

pub returns-in-Err : goal.returns-in-Err
returns-in-Err g c =
    let V = g.V.Files in
    let M = g.M.Machine in
    let v = c.args.v.now in
    let w = c.scrub.new.v in
    let a = c.args.m.now in
    let b = c.scrub.new.m in
    let s = V.state v in
    let t = V.state w in
    let why = c.in-Err.why in
    let e = c.in-Err.ensures in
    rw c.ended_by.ensures.is
    (ended_did M V.state V.holds a b V.resident Word.Scrub v w e.writes.rest (scrub_still why s t e.state.kept) (scrub_goes why s t e.state.kept)
    why (scrub_looks s c.requires.up why e.order) e.state.layout e.state.opened (writes_more e.disk (λ h left. scrub_stays V.state V.holds v (M.now a) left)) (λ h. refused_told s.layout (M.now b).image why (e.tells h).told)
    (λ tells. nothing_told s (M.ledger a) (M.ledger b) why (ended_by why) refl)
    (λ h k stands. scrub_does V.state V.holds v w k (M.now a) (M.now b) c.scrub.new.found.items why (e.done h k stands)))
