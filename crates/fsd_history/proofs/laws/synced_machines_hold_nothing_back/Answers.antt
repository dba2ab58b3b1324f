use Rattle.std.proofs.Common.{ℕ, subst, ◌∙◌}
use Rattle.fsd_history.proofs.laws.synced_machines_hold_nothing_back.Goals as goal

pub returns : goal.returns
returns g c m honest synced = λ d held. g.met.M.Machine.only_now m d honest (subst (λ (t : ℕ). g.M.Machine.left_since m t d) (synced ∙ g.met.M.Machine.dated m honest) held)
