use Rattle.std.proofs.Common.{take}
use Rattle.name_btree.proofs.steps.MapLaws.{IsCleared}
use Rattle.name_btree.proofs.inserting.remove_all.Given as goal

-- the entries with the keys before were taken out
abbrev pub invariant-loop-key : goal.invariant-loop-key
invariant-loop-key g l = IsCleared g.T.Pages l.fn.t l.t l.draft (take l.key-index l.gone) l.key-index
