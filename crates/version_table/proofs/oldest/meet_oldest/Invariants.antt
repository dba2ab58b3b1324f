use Rattle.version_table.proofs.MeetLaws.{Meets}
use Rattle.version_table.proofs.oldest.meet_oldest.Given as goal

-- so many were met
abbrev pub invariant-loop : goal.invariant-loop
invariant-loop g l = Meets g.T.Pages l.name l.fn.t l.t l.oldest l.last l.counter l.most
