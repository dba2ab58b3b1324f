use Rattle.volume_laws.proofs.PieceLaws.{place_idle, place_in, stands_begun, takes_begun, unfinished_begun, whole_begun}
use Rattle.table_volume.proofs.volume.Volume.begun.Goals as goal

pub take-requires : goal.take-requires
take-requires c = place_in _ c.args.self.now c.self.view_is c.self.invariant c.args.length c.args.runs c.requires.place

pub unfinished-requires : goal.unfinished-requires
unfinished-requires c = place_idle _ c.args.self.now c.self.view_is c.self.invariant c.args.length c.args.runs c.requires.place

pub invariant_of-self : goal.invariant_of-self
invariant_of-self c =
    let e = c.unfinished.ensures in
    whole_begun _ c.args.self.now c.self.view_is c.self.invariant c.args.length c.args.runs c.requires.place c.take.new.self c.unfinished.new.self c.take.ensures e.removed e.kept e.unfinished e.held

pub returns-clause-takes : goal.returns-clause-takes
returns-clause-takes c =
    let e = c.unfinished.ensures in
    takes_begun _ c.args.self.now c.self.view_is c.self.invariant c.args.length c.args.runs c.requires.place c.take.new.self c.unfinished.new.self c.take.ensures e.removed e.kept e.unfinished e.held c.draw.new.self c.draw.ensures

pub returns-clause-draft : goal.returns-clause-draft
returns-clause-draft c =
    let e = c.unfinished.ensures in
    record {
      small = c.requires.most;
      size = c.requires.place.count;
      few = c.requires.place.few;
      some = c.requires.place.some;
      differ = c.requires.place.free.differ;
      unfinished = unfinished_begun _ c.args.self.now c.self.view_is c.self.invariant c.args.length c.args.runs c.requires.place c.take.new.self c.unfinished.new.self c.take.ensures e.removed e.kept e.unfinished e.held c.draw.new.self c.draw.ensures;
    }

pub returns-clause-stands : goal.returns-clause-stands
returns-clause-stands c k now stands =
    let e = c.unfinished.ensures in
    stands_begun _ c.args.self.now c.self.view_is c.self.invariant c.args.length c.args.runs c.requires.place c.take.new.self c.unfinished.new.self c.take.ensures e.removed e.kept e.unfinished e.held c.draw.new.self c.draw.ensures k now stands
