use Rattle.std.proofs.Common.{◌≡◌, ◌∙◌, None, refl, ap}
use Rattle.std.specs.Prelude.{Err}
use Rattle.fsd_bytes.specs.declared.refusal.Refusal.{Refusal}
use Rattle.fsd_files.specs.Answers.{entry_of}
use Rattle.fsd_files.specs.Disk.{nowhere}
use Rattle.fsd_texts.specs.declared.command.Command.TheVariants as Word
use Rattle.sector_disk.specs.Image.{open_damage}
use Rattle.sector_disk.proofs.CallLaws.{reads_then}
use Rattle.scrub.proofs.LeadLaws.{worn_touches}
use Rattle.volume_contract.specs.Order.{entry_steps}
use Rattle.volume_contract.specs.State.{State, downs_for, volume_of}
use Rattle.volume_turns.proofs.AnsweringLaws.{entry_refused}
use Rattle.volume_turns.proofs.DidLaws.{goes_same, opens, reads_none, reads_stay, refused_did, up_so}
use Rattle.volume_turns.proofs.NumberLaws.{goes_none}
use Rattle.volume_turns.proofs.OrderLaws.{entry_down, entry_worn}
use Rattle.volume_turns.proofs.ReadLaws.{does_earlier, found_length, unfound_does}
use Rattle.volume_turns.proofs.GetLaws.{tells_then}
use Rattle.volume_turns.proofs.ReasonLaws.{showed_here}
use Rattle.volume_turns.proofs.commands.get.Goals as goal

pub returns-in-Ok : goal.returns-in-Ok
returns-in-Ok g c =
    let V = g.V.Files in
    let M = g.M.Machine in
    let v = c.args.v.now in
    let x = c.entry.new.self in
    let w = c.read_whole.new.v in
    let a = c.args.m.now in
    let m = c.entry.new.m in
    let b = c.read_whole.new.m in
    let s = V.state v in
    let t = V.state w in
    let key = c.args.key.now in
    let r = c.read_whole.result in
    let e = c.in-Ok.ensures in
    let then = c.read_whole.ensures in
    let back = then.disk.trust.honest in
    let same = then.state ∙ e.state in
    record {
      layout = ap (λ (y : State). y.layout) same;
      opened = opens None s t (goes_same None s t same);
      up = up_so (t.down ≡ None) r (ap (λ (y : State). y.down) same ∙ c.requires.up);
      disk = reads_stay M V.state V.holds a b v (λ h left worn k. g.met.V.Files.wears v k (M.now a) left (g.met.M.Machine.short a h) (record { image = worn.image; windows = worn.windows })) (reads_then e.disk then.disk);
      tells = tells_then M V.state V.resident key v x w a m b r e.disk then.disk e.state then.state then.tells;
      done = λ h k stands.
          does_earlier V.state V.holds key v x w k (M.now a) (M.now m) (M.now b) (open_damage (M.now a).windows) (e.disk.worn (back h)).image r
          (then.done h k (e.stands (back h) k stands) (found_length (entry_of key (volume_of k).entries) c.in-Ok.entry (e.done (back h) k stands)));
    }

pub returns-in-Err : goal.returns-in-Err
returns-in-Err g c =
    let V = g.V.Files in
    let M = g.M.Machine in
    let v = c.args.v.now in
    let w = c.entry.new.self in
    let a = c.args.m.now in
    let b = c.entry.new.m in
    let s = V.state v in
    let t = V.state w in
    let up = c.requires.up in
    let key = c.args.key.now in
    let why = c.in-Err.why in
    let e = c.in-Err.ensures in
    let disk = reads_stay M V.state V.holds a b v (λ h left worn k. g.met.V.Files.wears v k (M.now a) left (g.met.M.Machine.short a h) (record { image = worn.image; windows = worn.windows })) e.disk in
    rw c.ended_by.ensures.is
    (refused_did M V.state V.holds a b V.resident (Word.Get key) v w (λ h. worn_touches nowhere (M.now a) (M.now b) (e.disk.worn h).image) e.state (goes_none 1 s t e.state)
    (entry_steps s) why up e.order.follows (entry_down s up why e.order.follows) (λ comes. absurd (entry_worn s up comes)) (goes_same (downs_for why) s t e.state) disk e.tells.causes
    refl (λ h. entry_refused s up why key (M.now b).image e.order.follows) (λ tells. reads_none (M.ledger a) (M.ledger b) (e.disk.ledger tells))
    (λ h none. showed_here V.state V.resident v t (M.now a) (M.now b) _ (e.tells.absent (ap (λ (x : Refusal). Err x) none) h))
    (λ h k stands. unfound_does V.state V.holds key v w k (M.now a) (M.now b) why (e.stands h k stands) (e.done h k stands)))
