use Rattle.std.proofs.Common.{◌≡◌, ◌∙◌, ◌+◌, ◌||◌, None, Result, Ok, Err, refl, sym, ap, subst}
use Rattle.sector_disk.specs.Calls.{WritesDisk}
use Rattle.fsd_bytes.specs.declared.key.Key.{Key}
use Rattle.fsd_bytes.specs.declared.refusal.Refusal.{Refusal}
use Rattle.fsd_files.specs.Desk.{Writes}
use Rattle.fsd_sound.specs.Writes.{force_writes}
use Rattle.volume_contract.specs.Ends.{device_of}
use Rattle.volume_contract.specs.declared.token.Draft.{Draft}
use Rattle.volume_contract.specs.State.{Leaves, WritesWithin, change_len}
use Rattle.client_desk.specs.declared.client.Client.{Client}
use Rattle.client_desk.specs.declared.client.Client.TheVariants.{Idle, Writing}
use Rattle.client_desk.specs.Clients.{ClosesClient, IsClient, IsWholeOne, in_first}
use Rattle.client_desk.specs.Ends.{ServesOpen}
use Rattle.client_desk.proofs.PieceLaws.{entered_as, whole_written}
use Rattle.client_desk.proofs.desk.close_of.Goals as goal

pub returns-in-Ok-clause-disk : goal.returns-in-Ok-clause-disk
returns-in-Ok-clause-disk g c =
    let V = g.V.Files in
    let v = c.args.v.now in
    subst (λ (x : Client). WritesDisk g.M.Machine None (Leaves V.state V.holds v (λ t. force_writes (V.state v).layout t || in_first x t)) c.args.m.now c.enter.new.m) (sym c.in-Writing.is) c.in-Ok.ensures.disk

pub returns-in-Ok-clause-done : goal.returns-in-Ok-clause-done
returns-in-Ok-clause-done g c h k stands name len runs serial bytes serves =
    let V = g.V.Files in
    let w = c.in-Writing.w in
    let writing = subst (λ (x : Client). ServesOpen k.opened x (Writes name len runs serial bytes)) c.in-Writing.is serves in
    let all = whole_written k.opened w name len runs serial bytes writing (subst (λ (x : Client). IsWholeOne x) c.in-Writing.is c.requires.whole) in
    let r : Result Key Refusal = Ok c.in-Ok.key in
    entered_as V.state V.holds k.opened w name len runs serial bytes k c.enter.new.self (g.M.Machine.now c.enter.new.m) r writing (c.in-Ok.ensures.done h k stands bytes all.0 all.1)

pub returns-in-Err-clause-disk : goal.returns-in-Err-clause-disk
returns-in-Err-clause-disk g c =
    let V = g.V.Files in
    let v = c.args.v.now in
    subst (λ (x : Client). WritesDisk g.M.Machine (device_of c.in-Err.why) (Leaves V.state V.holds v (λ t. force_writes (V.state v).layout t || in_first x t)) c.args.m.now c.enter.new.m) (sym c.in-Writing.is) c.in-Err.ensures.disk

pub returns-in-Err-clause-done : goal.returns-in-Err-clause-done
returns-in-Err-clause-done g c h k stands name len runs serial bytes serves =
    let V = g.V.Files in
    let w = c.in-Writing.w in
    let writing = subst (λ (x : Client). ServesOpen k.opened x (Writes name len runs serial bytes)) c.in-Writing.is serves in
    let all = whole_written k.opened w name len runs serial bytes writing (subst (λ (x : Client). IsWholeOne x) c.in-Writing.is c.requires.whole) in
    let r : Result Key Refusal = Err c.in-Err.why in
    entered_as V.state V.holds k.opened w name len runs serial bytes k c.enter.new.self (g.M.Machine.now c.enter.new.m) r writing (c.in-Err.ensures.done h k stands bytes all.0 all.1)

pub returns-in-Ok-clause-keeps : goal.returns-in-Ok-clause-keeps
returns-in-Ok-clause-keeps g c =
    let V = g.V.Files in
    let key = c.in-Ok.key in
    let r : Result Key Refusal = Ok key in
    let keeps = c.in-Ok.ensures.keeps in
    subst (λ (x : Client). ClosesClient x Idle (V.state c.args.v.now) (V.state c.enter.new.self) r) (sym c.in-Writing.is) (record {
      name = sym c.in-Ok.ensures.tells.name;
      goes = refl;
      valid = tt;
      state = keeps.state;
      kept = keeps.kept;
    })

pub returns-in-Err-clause-keeps : goal.returns-in-Err-clause-keeps
returns-in-Err-clause-keeps g c =
    let V = g.V.Files in
    let w = c.in-Writing.w in
    let why = c.in-Err.why in
    let r : Result Key Refusal = Err why in
    let keeps = c.in-Err.ensures.keeps in
    let same : c.creation.result ≡ Writing w = c.creation.ensures ∙ ap (λ (d : Draft). Writing (record w { draft = d })) keeps.back in
    subst (λ (x : Client). ClosesClient x c.creation.result (V.state c.args.v.now) (V.state c.enter.new.self) r) (sym c.in-Writing.is) (record {
      name = tt;
      goes = same;
      valid = subst (λ (x : Client). IsClient x) (c.in-Writing.is ∙ sym same) c.requires.valid;
      state = keeps.state;
      kept = keeps.kept;
    })

pub returns-in-Ok-clause-writes : goal.returns-in-Ok-clause-writes
returns-in-Ok-clause-writes g c =
    let s = g.V.Files.state c.args.v.now in
    let r : Result Key Refusal = Ok c.in-Ok.key in
    subst (λ (x : Client). WritesWithin g.M.Machine (λ t. force_writes s.layout t || in_first x t) (1 + change_len s) c.args.m.now c.enter.new.m r) (sym c.in-Writing.is) c.in-Ok.ensures.writes

pub returns-in-Err-clause-writes : goal.returns-in-Err-clause-writes
returns-in-Err-clause-writes g c =
    let s = g.V.Files.state c.args.v.now in
    let r : Result Key Refusal = Err c.in-Err.why in
    subst (λ (x : Client). WritesWithin g.M.Machine (λ t. force_writes s.layout t || in_first x t) (1 + change_len s) c.args.m.now c.enter.new.m r) (sym c.in-Writing.is) c.in-Err.ensures.writes
