use Rattle.std.proofs.Common.{◌≡◌, ◌∷◌, ◌∙◌, [], List, ℕ, None, length, take, sym, ap, subst, rules}
use Rattle.sector_disk.specs.Machine.{Ledger}
use Rattle.memory_machine.specs.Memory.{memory_calls, memory_ledger, memory_left, memory_now, memory_report}
use Rattle.fsd_runs.specs.Leaves.{LeavesSaid}
use Rattle.fsd_runs.specs.declared.request.Request.TheVariants.{Put}
use Rattle.cfs_program.proofs.LifeLaws.{MemoryHeld, MemoryStops, held_again, kept_again, kept_done, kept_left, memory_stops}
use Rattle.cfs_program.proofs.lives.put_by.Goals as goal

pub returns-clause-done : goal.returns-clause-done
returns-clause-done g c = λ nought h kept honest.
    let old = c.again-m.result in
    let new = c.run_input-status.new.m in
    let e = c.run_input-status.ensures in
    let made = c.again-m.ensures.made in
    let k = kept_again h (length h) (memory_now c.args.m) (memory_now old) made.now (kept (sym c.again-m.ensures.honest ∙ e.trust.honest honest)) in
    let one : c.in_ok-input.input.items ≡ c.args.byte ∷ [] = search rules in
    let input : (memory_ledger old).input ≡ c.args.byte ∷ [] = ap (λ (x : Ledger). x.input) made.ledger ∙ one in
    kept_done c.args.name.now c.args.byte h (memory_now old) (memory_now new) k (memory_ledger new).input (memory_left new) (memory_stops new) (memory_calls old) (memory_left old (memory_now old).synced) (MemoryStops old new) (MemoryHeld new) (memory_report old) (memory_report new) c.run_input-status.result nought
    (subst (λ (x : List ℕ). LeavesSaid (Put c.args.name.now None) x (memory_ledger new).input k.layout k.windows (take k.made h) k.forced (memory_left new) (memory_stops new) (memory_calls old) (memory_left old (memory_now old).synced) (MemoryStops old new) (MemoryHeld new) (memory_report old) (memory_report new) (memory_now old) (memory_now new) c.run_input-status.result) input
    (e.leaves honest (record { layout = k.layout; windows = k.windows; changes = take k.made h; forced = k.forced }) k.sound (held_again h (length h) old (memory_now c.args.m).image (memory_now c.args.m).windows made.now k)))

pub returns-clause-left : goal.returns-clause-left
returns-clause-left g c = λ h kept honest.
    let old = c.again-m.result in
    let new = c.run_input-status.new.m in
    let e = c.run_input-status.ensures in
    let made = c.again-m.ensures.made in
    let k = kept_again h (length h) (memory_now c.args.m) (memory_now old) made.now (kept (sym c.again-m.ensures.honest ∙ e.trust.honest honest)) in
    let one : c.in_ok-input.input.items ≡ c.args.byte ∷ [] = search rules in
    let input : (memory_ledger old).input ≡ c.args.byte ∷ [] = ap (λ (x : Ledger). x.input) made.ledger ∙ one in
    kept_left c.args.name.now c.args.byte h (memory_now old) (memory_now new) k (memory_ledger new).input (memory_left new) (memory_stops new) (memory_calls old) (memory_left old (memory_now old).synced) (MemoryStops old new) (MemoryHeld new) (memory_report old) (memory_report new) c.run_input-status.result
    (subst (λ (x : List ℕ). LeavesSaid (Put c.args.name.now None) x (memory_ledger new).input k.layout k.windows (take k.made h) k.forced (memory_left new) (memory_stops new) (memory_calls old) (memory_left old (memory_now old).synced) (MemoryStops old new) (MemoryHeld new) (memory_report old) (memory_report new) (memory_now old) (memory_now new) c.run_input-status.result) input
    (e.leaves honest (record { layout = k.layout; windows = k.windows; changes = take k.made h; forced = k.forced }) k.sound (held_again h (length h) old (memory_now c.args.m).image (memory_now c.args.m).windows made.now k)))
