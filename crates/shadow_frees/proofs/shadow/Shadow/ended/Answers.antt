use Rattle.shadow_frees.proofs.SoundLaws.{sound_ended}
use Rattle.shadow_frees.proofs.shadow.Shadow.ended.Goals as goal

pub invariant_of-self : goal.invariant_of-self
invariant_of-self c = sound_ended c.self.inside.removed c.self.inside.kept c.self.inside.unfinished c.remove.new.self c.self.inside.held c.args.runs.now c.remove.ensures c.self.invariant
