use Rattle.std.proofs.Common.{refl, sym, ap, subst}
use Rattle.std.specs.Prelude.{Err}
use Rattle.fsd_bytes.specs.declared.refusal.Refusal.{Refusal}
use Rattle.fsd_files.specs.Answers.{entry_of}
use Rattle.fsd_files.specs.Disk.{nowhere}
use Rattle.fsd_texts.specs.declared.command.Command.TheVariants as Word
use Rattle.sector_disk.proofs.CallLaws.{reads_told}
use Rattle.scrub.proofs.LeadLaws.{worn_touches}
use Rattle.volume_contract.specs.Order.{Comes, entry_steps}
use Rattle.volume_contract.specs.State.{downs_for, volume_of}
use Rattle.volume_turns.proofs.AnsweringLaws.{entry_refused}
use Rattle.volume_turns.proofs.DidLaws.{goes_same, reads_none, reads_stay, refused_did}
use Rattle.volume_turns.proofs.LookingLaws.{found_there, looks_unfound}
use Rattle.volume_turns.proofs.NumberLaws.{goes_none}
use Rattle.volume_turns.proofs.OrderLaws.{entry_down, entry_worn}
use Rattle.volume_turns.proofs.ReadLaws.{unfound_does}
use Rattle.volume_turns.proofs.ReasonLaws.{showed_here}
use Rattle.volume_turns.proofs.StepLaws.{same_device}
use Rattle.volume_turns.proofs.restoring.is_there.Goals as goal

pub returns-in-Ok : goal.returns-in-Ok
returns-in-Ok g c =
    let e = c.in-Ok.ensures in
    record {
      still = e.state;
      disk = e.disk;
      fault = tt;
      told = λ h. tt;
      unworn = tt;
      stands = e.stands;
      found = λ h k stands. found_there (entry_of c.args.key.now (volume_of k).entries) c.in-Ok.field-0 (e.done h k stands);
    }

pub returns-in-Err : goal.returns-in-Err
returns-in-Err g c =
    let V = g.V.Files in
    let M = g.M.Machine in
    let v = c.args.v.now in
    let w = c.entry.new.self in
    let a = c.args.m.now in
    let b = c.entry.new.m in
    let s = V.state v in
    let t = V.state w in
    let up = c.requires.up in
    let key = c.args.key.now in
    let why = c.in-Err.why in
    let e = c.in-Err.ensures in
    let comes = e.order.follows in
    let disk = reads_stay M V.state V.holds a b v (λ h left worn k. g.met.V.Files.wears v k (M.now a) left (g.met.M.Machine.short a h) (record { image = worn.image; windows = worn.windows })) e.disk in
    let did = refused_did M V.state V.holds a b V.resident (Word.Get key) v w (λ h. worn_touches nowhere (M.now a) (M.now b) (e.disk.worn h).image) e.state (goes_none 1 s t e.state)
    (entry_steps s) why up comes (entry_down s up why comes) (λ x. absurd (entry_worn s up x)) (goes_same (downs_for why) s t e.state) disk e.tells.causes
    refl (λ h. entry_refused s up why key (M.now b).image comes) (λ tells. reads_none (M.ledger a) (M.ledger b) (e.disk.ledger tells))
    (λ h none. showed_here V.state V.resident v t (M.now a) (M.now b) _ (e.tells.absent (ap (λ (x : Refusal). Err x) none) h))
    (λ h k stands. unfound_does V.state V.holds key v w k (M.now a) (M.now b) why (e.stands h k stands) (e.done h k stands)) in
    rw c.unfound.ensures
    (looks_unfound M V.state V.holds V.resident key v w a b why (λ worn. entry_worn s up (subst (λ (x : Refusal). Comes (entry_steps s) x) worn comes)) (reads_told (sym (same_device why (entry_down s up why comes))) e.disk) e.state did e.stands e.done)
