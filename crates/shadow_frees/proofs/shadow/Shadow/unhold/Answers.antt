use Rattle.std.proofs.Common.{sym, subst, ap, ◌∙◌, All, set, None, List, Option, arith}
use Rattle.run_table.specs.declared.run.Run.{Run}
use Rattle.sector_set.specs.Meet.{meets}
use Rattle.shadow_frees.specs.Readers.{IsSameOrApart}
use Rattle.shadow_frees.specs.Waits.{Waits, AreSound}
use Rattle.sector_set.specs.Area.{AreIn}
use Rattle.shadow_frees.proofs.HeldLaws.{nobody_holds}
use Rattle.shadow_frees.proofs.SoundLaws.{sound_dropped, sound_given, version_in, kept_version, agree_dropped}
use Rattle.shadow_frees.proofs.shadow.Shadow.unhold.Goals as goal

pub remove-requires : goal.remove-requires
remove-requires c =
    let at = sym c.take.ensures.value ∙ c.in_ok-runs.was in
    let v = version_in c.self.inside.removed c.self.inside.kept c.self.inside.unfinished c.self.inside.held c.args.slot c.index-self-slot.result c.in_ok-runs.runs c.self.invariant (omega arith) at in
    kept_version c.self.inside.removed c.self.inside.kept c.self.inside.unfinished c.self.inside.held c.in_ok-runs.runs c.self.invariant v
    (sym (c.if-not-are_in.ensures ∙ ap (meets c.self.inside.kept.sectors) c.as_slice.ensures.value))

pub invariant_of-self-2 : goal.invariant_of-self-2
invariant_of-self-2 c =
    let at = sym c.take.ensures.value ∙ c.in_ok-runs.was in
    let v = version_in c.self.inside.removed c.self.inside.kept c.self.inside.unfinished c.self.inside.held c.args.slot c.index-self-slot.result c.in_ok-runs.runs c.self.invariant (omega arith) at in
    let dropped = sound_dropped c.self.inside.removed c.self.inside.kept c.self.inside.unfinished c.self.inside.held c.args.slot c.self.invariant in
    let sound = sound_given c.self.inside.removed c.self.inside.kept c.self.inside.unfinished c.remove.new.self (set c.self.inside.held c.args.slot None) c.in_ok-runs.runs c.remove.ensures dropped (agree_dropped c.self.inside.removed c.self.inside.kept c.self.inside.held c.args.slot c.in_ok-runs.runs v) in
    subst (λ (x : Option (List Run)). AreSound c.self.inside.removed c.remove.new.self c.self.inside.unfinished (set c.self.inside.held c.args.slot x)) (sym c.take.ensures.after) sound

pub returns-clause-left : goal.returns-clause-left
returns-clause-left c =
    let at = sym c.take.ensures.value ∙ c.in_ok-runs.was in
    let v = version_in c.self.inside.removed c.self.inside.kept c.self.inside.unfinished c.self.inside.held c.args.slot c.index-self-slot.result c.in_ok-runs.runs c.self.invariant (omega arith) at in
    let agree = subst (λ (x : Option (List Run)). All (IsSameOrApart c.in_ok-runs.runs) (set c.self.inside.held c.args.slot x)) (sym c.take.ensures.after) (agree_dropped c.self.inside.removed c.self.inside.kept c.self.inside.held c.args.slot c.in_ok-runs.runs v) in
    λ s h. nobody_holds (set c.self.inside.held c.args.slot c.take.new.self) c.in_ok-runs.runs s agree (sym c.have.ensures ∙ c.if-have.false) h

pub returns-clause-given : goal.returns-clause-given
returns-clause-given c =
    let at = sym c.take.ensures.value ∙ c.in_ok-runs.was in
    let v = version_in c.self.inside.removed c.self.inside.kept c.self.inside.unfinished c.self.inside.held c.args.slot c.index-self-slot.result c.in_ok-runs.runs c.self.invariant (omega arith) at in
    let are = kept_version c.self.inside.removed c.self.inside.kept c.self.inside.unfinished c.self.inside.held c.in_ok-runs.runs c.self.invariant v
    (sym (c.if-not-are_in.ensures ∙ ap (meets c.self.inside.kept.sectors) c.as_slice.ensures.value)) in
    subst (λ (w : Waits). AreIn w.kept c.in_ok-runs.runs) c.self.view_is are
