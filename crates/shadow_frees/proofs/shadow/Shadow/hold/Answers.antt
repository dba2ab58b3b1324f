use Rattle.std.proofs.Common.{sym, subst, All, set, Some, List}
use Rattle.run_table.specs.declared.run.Run.{Run}
use Rattle.shadow_frees.specs.Readers.{IsSameOrApart}
use Rattle.shadow_frees.specs.Waits.{Waits, AreIdle, AreSound}
use Rattle.shadow_frees.proofs.SoundLaws.{sound_held}
use Rattle.shadow_frees.proofs.shadow.Shadow.hold.Goals as goal

pub invariant_of-self : goal.invariant_of-self
invariant_of-self c =
    let idle = subst (λ (w : Waits). AreIdle w c.args.runs.now) (sym c.self.view_is) c.requires.idle in
    let agree = subst (λ (w : Waits). All (IsSameOrApart c.args.runs.now) w.held) (sym c.self.view_is) c.requires.agree in
    let sound = sound_held c.self.inside.removed c.self.inside.kept c.self.inside.unfinished c.self.inside.held c.empty_slot-slot.result c.args.runs.now c.self.invariant idle.0 idle.1 agree in
    subst (λ (x : List Run). AreSound c.self.inside.removed c.self.inside.kept c.self.inside.unfinished (set c.self.inside.held c.empty_slot-slot.result (Some x))) (sym c.copied.ensures) sound
