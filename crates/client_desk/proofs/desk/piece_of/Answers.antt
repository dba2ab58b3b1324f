use Rattle.std.proofs.Common.{ℕ, length, None, Result, Ok, Err, refl, sym, subst}
use Rattle.sector_disk.specs.Calls.{WritesDisk}
use Rattle.fsd_bytes.specs.declared.refusal.Refusal.{Refusal}
use Rattle.fsd_files.specs.Desk.{Writes}
use Rattle.volume_contract.specs.Ends.{device_of}
use Rattle.client_desk.specs.declared.client.Client.{Client}
use Rattle.client_desk.specs.declared.client.Client.TheVariants.{Idle}
use Rattle.volume_contract.specs.State.{WritesWithin}
use Rattle.client_desk.specs.Clients.{in_data, piece_len}
use Rattle.client_desk.specs.Ends.{EndsPieces, LeavesFor, ServesOpen}
use Rattle.client_desk.proofs.PieceLaws.{piece_broken}
use Rattle.client_desk.proofs.desk.piece_of.Goals as goal

pub returns-in-Ok-clause-disk : goal.returns-in-Ok-clause-disk
returns-in-Ok-clause-disk g c =
    let V = g.V.Files in
    subst (λ (x : Client). WritesDisk g.M.Machine None (LeavesFor V.state V.holds c.args.v.now x (in_data x)) c.args.m.now c.add.new.m) (sym c.in-Writing.is) c.in-Ok.ensures.disk

pub returns-in-Err-clause-disk : goal.returns-in-Err-clause-disk
returns-in-Err-clause-disk g c =
    let V = g.V.Files in
    subst (λ (x : Client). WritesDisk g.M.Machine (device_of c.in-Err.why) (LeavesFor V.state V.holds c.args.v.now x (in_data x)) c.args.m.now c.add.new.m) (sym c.in-Writing.is) c.in-Err.ensures.disk

pub returns-in-Ok-clause-done : goal.returns-in-Ok-clause-done
returns-in-Ok-clause-done g c h k stands name len runs serial before serves =
    let writing = subst (λ (x : Client). ServesOpen k.opened x (Writes name len runs serial before)) c.in-Writing.is serves in
    let adds = c.in-Ok.ensures.done h k stands name len runs serial before writing in
    (c.add.new.w, refl, adds.writing.got, adds)

pub returns-in-Err-clause-done : goal.returns-in-Err-clause-done
returns-in-Err-clause-done g c h k stands name len runs serial before serves =
    let V = g.V.Files in
    let M = g.M.Machine in
    let w = c.in-Writing.w in
    let writing = subst (λ (x : Client). ServesOpen k.opened x (Writes name len runs serial before)) c.in-Writing.is serves in
    subst (λ (x : Client). let r : Result ℕ Refusal = Err c.in-Err.why in EndsPieces V.state V.holds k x Idle name len runs serial before c.args.bytes.now c.end.new.v (M.now c.add.new.m) r) (sym c.in-Writing.is)
    (piece_broken V.state V.holds k w c.add.new.w Idle name len runs serial before c.args.bytes.now c.add.new.v c.end.new.v (M.now c.add.new.m) c.in-Err.why writing c.in-Err.ensures.draft
    (λ z there was. c.end.ensures.done z (M.now c.add.new.m) there was) (c.in-Err.ensures.done h k stands name len runs serial before writing))

pub returns-in-Ok-clause-writes : goal.returns-in-Ok-clause-writes
returns-in-Ok-clause-writes g c =
    let r : Result ℕ Refusal = Ok c.add.new.w.got in
    let e = c.in-Ok.ensures.writes in
    subst (λ (x : Client). WritesWithin g.M.Machine (in_data x) (piece_len x (length c.args.bytes.now)) c.args.m.now c.add.new.m r) (sym c.in-Writing.is) (record { rest = e.rest; counted = e.counted })

pub returns-in-Err-clause-writes : goal.returns-in-Err-clause-writes
returns-in-Err-clause-writes g c =
    let r : Result ℕ Refusal = Err c.in-Err.why in
    let e = c.in-Err.ensures.writes in
    subst (λ (x : Client). WritesWithin g.M.Machine (in_data x) (piece_len x (length c.args.bytes.now)) c.args.m.now c.add.new.m r) (sym c.in-Writing.is) (record { rest = e.rest; counted = e.counted })
