use Rattle.std.proofs.Common.{sym, subst, All}
use Rattle.shadow_frees.specs.Readers.{IsSameOrApart}
use Rattle.shadow_frees.specs.Waits.{Waits, AreIdle}
use Rattle.shadow_frees.proofs.SoundLaws.{sound_freed}
use Rattle.shadow_frees.proofs.shadow.Shadow.freed.Goals as goal

pub invariant_of-self : goal.invariant_of-self
invariant_of-self c =
    let idle = subst (λ (w : Waits). AreIdle w c.args.runs.now) (sym c.self.view_is) c.requires.idle in
    let agree = subst (λ (w : Waits). All (IsSameOrApart c.args.runs.now) w.held) (sym c.self.view_is) c.requires.agree in
    sound_freed c.self.inside.removed c.self.inside.kept c.self.inside.unfinished c.insert.new.self c.self.inside.held c.args.runs.now c.insert.ensures c.self.invariant idle.1 idle.2 agree
