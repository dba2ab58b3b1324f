use Rattle.std.proofs.Common.{◌++◌, [], ◌∷◌, List, length, ap, sym, subst, ◌∙◌, arith}
use Rattle.run_table.specs.declared.run.Run.{Run}
use Rattle.sector_set.specs.Area.{Area, AreIn, without_sectors}
use Rattle.shadow_frees.specs.Readers.{unheld, with_held}
use Rattle.shadow_frees.specs.Waits.{Waits}
use Rattle.shadow_frees.proofs.WaitLaws.{run_is_in, no_runs, some_runs, none_left, between}
use Rattle.shadow_frees.proofs.SoundLaws.{all_left_of, fewer_left, released, released_less, sound_committed}
use Rattle.shadow_frees.proofs.shadow.Shadow.committed.Goals as goal

pub returns-in_err-run-clause-none : goal.returns-in_err-run-clause-none
returns-in_err-run-clause-none c =
    let none = sym (all_left_of c.self.inside.held c.self.inside.removed c.keep_held.new.removed c.from-from.result c.keep_held.ensures.removed c.from-from.ensures.value) ∙ c.in_err-run.ensures.first in
    let empty = no_runs c.keep_held.new.removed.sectors none in
    none_left _ _ c.from_residual.ensures (ap (λ (w : Waits). (unheld w.held w.removed).sectors) (sym c.self.view_is) ∙ ap (λ (m : Area). m.sectors) (sym c.keep_held.ensures.removed) ∙ empty)

pub remove-requires : goal.remove-requires
remove-requires c =
    let first = sym (all_left_of c.self.inside.held c.self.inside.removed c.keep_held.new.removed c.from-from.result c.keep_held.ensures.removed c.from-from.ensures.value) ∙ c.in_ok-run.ensures.first in
    let are = run_is_in c.keep_held.new.removed c.in_ok-run.run' _ first in
    let pushed = c.push.ensures ∙ ap (λ (x : List Run). x ++ c.in_ok-run.run' ∷ []) c.new-runs.ensures in
    subst (AreIn c.keep_held.new.removed) (sym pushed) are

pub returns-clause-none : goal.returns-clause-none
returns-clause-none c =
    let first = sym (all_left_of c.self.inside.held c.self.inside.removed c.keep_held.new.removed c.from-from.result c.keep_held.ensures.removed c.from-from.ensures.value) ∙ c.in_ok-run.ensures.first in
    (λ n. absurd cc, λ e. absurd (some_runs c.keep_held.new.removed.sectors _ _ first (ap (λ (m : Area). m.sectors) c.keep_held.ensures.removed ∙ ap (λ (w : Waits). (unheld w.held w.removed).sectors) c.self.view_is ∙ e)))

pub invariant_of-self : goal.invariant_of-self
invariant_of-self c =
    sound_committed c.self.inside.removed c.self.inside.kept c.self.inside.unfinished c.keep_held.new.removed c.keep_held.new.kept c.self.inside.held c.self.invariant
    (released c.self.inside.held c.self.inside.removed c.keep_held.new.removed c.keep_held.ensures.removed) c.keep_held.ensures.kept

pub invariant_of-self-2 : goal.invariant_of-self-2
invariant_of-self-2 c =
    sound_committed c.self.inside.removed c.self.inside.kept c.self.inside.unfinished c.remove.new.self c.keep_held.new.kept c.self.inside.held c.self.invariant
    (released_less c.self.inside.held c.self.inside.removed c.keep_held.new.removed c.remove.new.self c.push.new.self (released c.self.inside.held c.self.inside.removed c.keep_held.new.removed c.keep_held.ensures.removed) c.remove.ensures)
    c.keep_held.ensures.kept

pub returns-clause-given : goal.returns-clause-given
returns-clause-given c =
    let first = sym (all_left_of c.self.inside.held c.self.inside.removed c.keep_held.new.removed c.from-from.result c.keep_held.ensures.removed c.from-from.ensures.value) ∙ c.in_ok-run.ensures.first in
    let are = run_is_in c.keep_held.new.removed c.in_ok-run.run' _ first in
    let same = ap (λ (w : Waits). unheld w.held w.removed) c.self.view_is in
    let given = subst (λ (m : Area). AreIn m (c.in_ok-run.run' ∷ [])) (c.keep_held.ensures.removed ∙ same) are in
    subst (λ (r : Run). AreIn (unheld c.args.self.now.held c.args.self.now.removed) (r ∷ [])) (sym (between c.in_ok-run.run')) given

pub returns-clause-fewer : goal.returns-clause-fewer
returns-clause-fewer c =
    let first = sym (all_left_of c.self.inside.held c.self.inside.removed c.keep_held.new.removed c.from-from.result c.keep_held.ensures.removed c.from-from.ensures.value) ∙ c.in_ok-run.ensures.first in
    let are = run_is_in c.keep_held.new.removed c.in_ok-run.run' _ first in
    let pushed = c.push.ensures ∙ ap (λ (x : List Run). x ++ c.in_ok-run.run' ∷ []) c.new-runs.ensures in
    let is = c.remove.ensures ∙ ap (without_sectors c.keep_held.new.removed) pushed in
    let less = fewer_left c.self.inside.held c.self.inside.removed c.keep_held.new.removed c.remove.new.self c.in_ok-run.run' c.from-from.ensures.own c.keep_held.ensures.removed are is c.in_ok-run.ensures.within.1 in
    omega (arith, less, ap (λ (w : Waits). length w.removed.sectors) c.self.view_is)

pub returns-clause-waits : goal.returns-clause-waits
returns-clause-waits c =
    let pushed = c.push.ensures ∙ ap (λ (x : List Run). x ++ c.in_ok-run.run' ∷ []) c.new-runs.ensures in
    let same = c.keep_held.ensures.removed ∙ ap (λ (w : Waits). unheld w.held w.removed) c.self.view_is in
    record {
      left =
          c.remove.ensures ∙ ap (without_sectors c.keep_held.new.removed) pushed
          ∙ ap (λ (m : Area). without_sectors m (c.in_ok-run.run' ∷ [])) same
          ∙ ap (λ (r : Run). without_sectors (unheld c.args.self.now.held c.args.self.now.removed) (r ∷ [])) (sym (between c.in_ok-run.run'));
      kept = c.keep_held.ensures.kept ∙ ap (λ (w : Waits). with_held w.held w.kept w.removed) c.self.view_is;
      unfinished = ap (λ (w : Waits). w.unfinished) c.self.view_is;
      held = ap (λ (w : Waits). w.held) c.self.view_is;
    }
