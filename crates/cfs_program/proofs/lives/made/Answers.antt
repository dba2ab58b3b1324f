use Rattle.std.proofs.Common.{◌≡◌, inl, refl, arith, rules}
use Rattle.memory_machine.specs.Memory.{memory_calls, memory_left, memory_now}
use Rattle.memory_machine.specs.History.{memory_history}
use Rattle.cfs_program.proofs.LifeLaws.{kept_made}
use Rattle.cfs_program.proofs.lives.made.Goals as goal

pub returns-in-0 : goal.returns-in-0
returns-in-0 c = λ honest.
    let m = c.run_format.new.m in
    let nought : c.run_format.result ≡ 0 = search rules in
    let synced = (memory_history m honest).synced (memory_calls m) (memory_now m) (omega arith, inl refl) in
    let here : memory_left m (memory_now m).synced (memory_now m) = (synced, inl refl) in
    kept_made _ (memory_now m) refl (c.run_format.ensures.made nought honest (memory_now m) here)
