use Rattle.std.proofs.Common.{sym, subst}
use Rattle.shadow_frees.specs.Waits.{Waits, AreIdle}
use Rattle.shadow_frees.proofs.SoundLaws.{sound_begun}
use Rattle.shadow_frees.proofs.shadow.Shadow.unfinished.Goals as goal

pub invariant_of-self : goal.invariant_of-self
invariant_of-self c =
    let idle = subst (λ (w : Waits). AreIdle w c.args.runs.now) (sym c.self.view_is) c.requires in
    sound_begun c.self.inside.removed c.self.inside.kept c.self.inside.unfinished c.insert.new.self c.self.inside.held c.args.runs.now c.insert.ensures c.self.invariant idle.0 idle.1
