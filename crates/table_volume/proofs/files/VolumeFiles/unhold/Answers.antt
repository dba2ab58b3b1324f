use Rattle.std.proofs.Common.{◌∙◌, List, ap, subst, sym}
use Rattle.std.specs.Prelude.{IfSome}
use Rattle.run_table.specs.declared.run.Run.{Run}
use Rattle.shadow_frees.specs.Readers.{AreUnheld, Slots}
use Rattle.volume_laws.proofs.ReaderLaws.{given_out, map_with, stands_up, unholds_up, whole_up}
use Rattle.table_volume.proofs.files.VolumeFiles.unhold.Goals as goal

pub release-requires : goal.release-requires
release-requires g c = given_out _ c.self.invariant c.in-Some.runs c.in-Some.ensures.given

-- ---- sectors are given back

pub invariant_of-self : goal.invariant_of-self
invariant_of-self g c =
    let e = c.unhold.ensures in
    let unheld = subst (λ (slots : Slots). IfSome c.unhold.result (λ (rs : List Run). AreUnheld slots rs)) e.waits.held e.left in
    whole_up _ c.args.self.now c.self.view_is c.self.invariant c.args.held c.requires c.unhold.result e.result e.given unheld
    c.release.new.self c.unhold.new.self (c.release.ensures ∙ ap (map_with c.self.inside.map) (sym c.in-Some.is)) e.waits.removed e.waits.kept e.waits.unfinished e.waits.held

pub returns-in-Some-clause-state : goal.returns-in-Some-clause-state
returns-in-Some-clause-state g c =
    let e = c.unhold.ensures in
    let unheld = subst (λ (slots : Slots). IfSome c.unhold.result (λ (rs : List Run). AreUnheld slots rs)) e.waits.held e.left in
    unholds_up _ c.args.self.now c.self.view_is c.self.invariant c.args.held c.requires c.unhold.result e.result e.given unheld
    c.release.new.self c.unhold.new.self (c.release.ensures ∙ ap (map_with c.self.inside.map) (sym c.in-Some.is)) e.waits.removed e.waits.kept e.waits.unfinished e.waits.held

pub returns-in-Some-clause-done : goal.returns-in-Some-clause-done
returns-in-Some-clause-done g c k now stands =
    let e = c.unhold.ensures in
    let unheld = subst (λ (slots : Slots). IfSome c.unhold.result (λ (rs : List Run). AreUnheld slots rs)) e.waits.held e.left in
    stands_up _ c.args.self.now c.self.view_is c.self.invariant c.args.held c.requires c.unhold.result e.result e.given unheld
    c.release.new.self c.unhold.new.self (c.release.ensures ∙ ap (map_with c.self.inside.map) (sym c.in-Some.is)) e.waits.removed e.waits.kept e.waits.unfinished e.waits.held k now stands

-- ---- none are

pub invariant_of-self-in_default : goal.invariant_of-self-in_default
invariant_of-self-in_default g c =
    let e = c.unhold.ensures in
    let unheld = subst (λ (slots : Slots). IfSome c.unhold.result (λ (rs : List Run). AreUnheld slots rs)) e.waits.held e.left in
    whole_up _ c.args.self.now c.self.view_is c.self.invariant c.args.held c.requires c.unhold.result e.result e.given unheld
    c.self.inside.map c.unhold.new.self (ap (map_with c.self.inside.map) (sym c.in_default.is)) e.waits.removed e.waits.kept e.waits.unfinished e.waits.held

pub returns-in_default-clause-state : goal.returns-in_default-clause-state
returns-in_default-clause-state g c =
    let e = c.unhold.ensures in
    let unheld = subst (λ (slots : Slots). IfSome c.unhold.result (λ (rs : List Run). AreUnheld slots rs)) e.waits.held e.left in
    unholds_up _ c.args.self.now c.self.view_is c.self.invariant c.args.held c.requires c.unhold.result e.result e.given unheld
    c.self.inside.map c.unhold.new.self (ap (map_with c.self.inside.map) (sym c.in_default.is)) e.waits.removed e.waits.kept e.waits.unfinished e.waits.held

pub returns-in_default-clause-done : goal.returns-in_default-clause-done
returns-in_default-clause-done g c k now stands =
    let e = c.unhold.ensures in
    let unheld = subst (λ (slots : Slots). IfSome c.unhold.result (λ (rs : List Run). AreUnheld slots rs)) e.waits.held e.left in
    stands_up _ c.args.self.now c.self.view_is c.self.invariant c.args.held c.requires c.unhold.result e.result e.given unheld
    c.self.inside.map c.unhold.new.self (ap (map_with c.self.inside.map) (sym c.in_default.is)) e.waits.removed e.waits.kept e.waits.unfinished e.waits.held k now stands
