use Rattle.fsd_runs.specs.Leaves.{IsUndone, Whatever}
use Rattle.fsd_runs.proofs.LeaveLaws.{broken_by_memory}
use Rattle.fsd_runs.proofs.laws.without_faults_memory_alone_is_refused.Goals as goal

pub returns : goal.returns
returns c request l windows g n before after turns = broken_by_memory request (IsUndone l windows g n turns) Whatever before after turns
