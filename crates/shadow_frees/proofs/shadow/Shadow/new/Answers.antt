use Rattle.shadow_frees.proofs.SoundLaws.{sound_at_first}
use Rattle.shadow_frees.proofs.shadow.Shadow.new.Goals as goal

pub invariant_of-result : goal.invariant_of-result
invariant_of-result c = sound_at_first c.args.from c.args.to c.in_ok-removed.removed c.in_ok-kept.kept c.in_ok-unfinished.unfinished c.in_ok-removed.ensures c.in_ok-kept.ensures c.in_ok-unfinished.ensures
