use Rattle.volume_laws.proofs.PieceLaws.{draft_out, gives_over, stands_over, whole_over}
use Rattle.table_volume.proofs.files.VolumeFiles.abandon.Goals as goal

pub release-requires : goal.release-requires
release-requires g c = draft_out _ c.args.self.now c.self.view_is c.self.invariant c.args.draft c.requires

pub invariant_of-self : goal.invariant_of-self
invariant_of-self g c =
    let e = c.ended.ensures in
    whole_over _ c.args.self.now c.self.view_is c.self.invariant c.args.draft c.requires c.release.new.self c.ended.new.self c.release.ensures e.removed e.kept e.unfinished e.held

pub returns-clause-state : goal.returns-clause-state
returns-clause-state g c =
    let e = c.ended.ensures in
    gives_over _ c.args.self.now c.self.view_is c.self.invariant c.args.draft c.requires c.release.new.self c.ended.new.self c.release.ensures e.removed e.kept e.unfinished e.held

pub returns-clause-done : goal.returns-clause-done
returns-clause-done g c k now before there stands =
    let e = c.ended.ensures in
    stands_over _ c.args.self.now c.self.view_is c.self.invariant c.args.draft c.requires c.release.new.self c.ended.new.self c.release.ensures e.removed e.kept e.unfinished e.held k now before there stands
