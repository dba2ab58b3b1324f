use Rattle.std.proofs.Common.{refl}
use Rattle.volume_laws.proofs.ReaderLaws.{empty_hold, hold_agree, hold_idle, hold_room, inside_hold, stands_hold, state_hold, there_hold, whole_hold}
use Rattle.table_volume.proofs.volume.Volume.held_at.Goals as goal

pub hold-requires-clause-room : goal.hold-requires-clause-room
hold-requires-clause-room c = hold_room _ c.args.self.now c.self.view_is c.self.invariant c.args.entry.now.runs c.requires.taken c.requires.place

pub hold-requires-clause-idle : goal.hold-requires-clause-idle
hold-requires-clause-idle c = hold_idle _ c.args.self.now c.self.view_is c.self.invariant c.args.entry.now.runs c.requires.taken c.requires.place

pub hold-requires-clause-agree : goal.hold-requires-clause-agree
hold-requires-clause-agree c = hold_agree _ c.args.self.now c.self.view_is c.self.invariant c.args.entry.now.runs c.requires.taken c.requires.place

pub invariant_of-self : goal.invariant_of-self
invariant_of-self c =
    let e = c.hold.ensures in
    whole_hold _ c.args.self.now c.self.view_is c.self.invariant c.args.entry.now.runs c.requires.taken c.requires.place c.hold.result c.hold.new.self e.inside e.empty e.held e.removed e.kept e.unfinished

pub returns-clause-inside : goal.returns-clause-inside
returns-clause-inside c =
    let e = c.hold.ensures in
    inside_hold _ c.args.self.now c.self.view_is c.self.invariant c.args.entry.now.runs c.requires.taken c.requires.place c.hold.result c.hold.new.self e.inside e.empty e.held e.removed e.kept e.unfinished

pub returns-clause-empty : goal.returns-clause-empty
returns-clause-empty c =
    let e = c.hold.ensures in
    empty_hold _ c.args.self.now c.self.view_is c.self.invariant c.args.entry.now.runs c.requires.taken c.requires.place c.hold.result c.hold.new.self e.inside e.empty e.held e.removed e.kept e.unfinished

pub returns-clause-there : goal.returns-clause-there
returns-clause-there c =
    let e = c.hold.ensures in
    there_hold _ c.args.self.now c.self.view_is c.self.invariant c.args.entry.now.runs c.requires.taken c.requires.place c.hold.result c.hold.new.self e.inside e.empty e.held e.removed e.kept e.unfinished

pub returns-clause-state : goal.returns-clause-state
returns-clause-state c =
    let e = c.hold.ensures in
    state_hold _ c.args.self.now c.self.view_is c.self.invariant c.args.entry.now.runs c.requires.taken c.requires.place c.hold.result c.hold.new.self e.inside e.empty e.held e.removed e.kept e.unfinished

pub returns-clause-stands : goal.returns-clause-stands
returns-clause-stands c k now bytes has kept stands =
    let e = c.hold.ensures in
    stands_hold _ c.args.self.now c.self.view_is c.self.invariant c.args.entry.now.runs c.requires.taken c.requires.place c.hold.result c.hold.new.self e.inside e.empty e.held e.removed e.kept e.unfinished k now bytes c.args.entry.now has refl kept stands
