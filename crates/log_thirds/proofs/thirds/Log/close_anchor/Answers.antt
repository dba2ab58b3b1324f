use Rattle.log_thirds.proofs.thirds.Log.close_anchor.Goals as goal

pub close_both-requires-clause-first : goal.close_both-requires-clause-first
close_both-requires-clause-first g c = c.self.invariant.opens
