use Rattle.std.proofs.Common.{◌≡◌, ◌∙◌, [], take, sym, ap, subst, rules}
use Rattle.sector_disk.specs.Machine.{Moment}
use Rattle.memory_machine.specs.Memory.{memory_calls, memory_ledger, memory_left, memory_now, memory_report}
use Rattle.fsd_bytes.specs.declared.pattern.Pattern.{Pattern}
use Rattle.fsd_bytes.specs.declared.pattern.Pattern.TheVariants.{Prefix}
use Rattle.fsd_texts.specs.declared.command.Command.TheVariants as Word
use Rattle.fsd_runs.specs.Leaves.{LeavesSaid}
use Rattle.fsd_runs.specs.declared.request.Request.TheVariants.{One}
use Rattle.cfs_program.proofs.LifeLaws.{MemoryHeld, MemoryStops, held_again, kept_again, kept_listed, memory_stops}
use Rattle.cfs_program.proofs.lives.list_by.Goals as goal

pub returns-in-0 : goal.returns-in-0
returns-in-0 g c = λ honest h f kept.
    let old = c.again-m.result in
    let new = c.run_command.new.m in
    let e = c.run_command.ensures in
    let made = c.again-m.ensures.made in
    let k = kept_again h f (memory_now c.args.m) (memory_now old) made.now (kept (sym c.again-m.ensures.honest ∙ e.trust.honest honest)) in
    let all : c.unwrap-all.result ≡ Prefix [] = search rules in
    let nought : c.run_command.result ≡ 0 = search rules in
    kept_listed h f (memory_now old) (memory_now new) k (memory_ledger new).input (memory_left new) (memory_stops new) (memory_calls old) (memory_left old (memory_now old).synced) (MemoryStops old new) (MemoryHeld new) (memory_report old) (memory_report new) c.run_command.result (ap (λ (m : Moment). m.said) made.now) nought
    (subst (λ (x : Pattern). LeavesSaid (One (Word.List x)) [] (memory_ledger new).input k.layout k.windows (take k.made h) k.forced (memory_left new) (memory_stops new) (memory_calls old) (memory_left old (memory_now old).synced) (MemoryStops old new) (MemoryHeld new) (memory_report old) (memory_report new) (memory_now old) (memory_now new) c.run_command.result) all
    (e.leaves honest (record { layout = k.layout; windows = k.windows; changes = take k.made h; forced = k.forced }) k.sound (held_again h f old (memory_now c.args.m).image (memory_now c.args.m).windows made.now k)))
