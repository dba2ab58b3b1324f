use Rattle.std.proofs.Common.{◌≡◌, ◌∙◌, length, sym, subst, List, [], ◌∷◌, ℕ, Bool, ◌<◌, true}
use Rattle.std.proofs.lemmas.Result.{err_from_is_err_and}
use Rattle.name_page.proofs.LookLaws.{no_more_then, walks_then}
use Rattle.std.specs.Prelude.{IfErr}
use Rattle.fsd_table.specs.declared.child.Child.{Child}
use Rattle.name_btree.specs.Fault.{FailsAmong, IsAmong}
use Rattle.name_btree.specs.Still.{HasRefusal}
use Rattle.name_btree.specs.Walk.{is_marked, IsWalkedSubtree, IsTopLevel, IsCountedTree, FailsOver}
use Rattle.name_page.specs.Pages.{rested}
use Rattle.name_btree.proofs.steps.ResultLaws.{ok_more, err_given, err_more}
use Rattle.name_btree.proofs.walks.TopLaws.{counted}
use Rattle.name_btree.proofs.walks.FaultLaws.{walk_whole}
use Rattle.name_btree.proofs.walking.walk.Goals as goal

pub returns-clause-calls : goal.returns-clause-calls
returns-clause-calls g c = walks_then g.T.Pages g.met.T.Pages.then c.args.t.now c.top_level.new.t c.walk_below.new.t c.in_ok-level.ensures.calls c.walk_below.ensures.calls

pub returns-clause-counted : goal.returns-clause-counted
returns-clause-counted g c =
    let G = g.T.Pages in
    let s = G.step c.args.t.now in
    let mid = c.top_level.new.t in
    let before = c.args.reached.now in
    let after = c.walk_below.new.reached in
    let level = c.in_ok-level.level in
    let child = c.top.result in
    let first = c.in_ok-level.ensures.calls in
    ok_more c.walk_below.result (λ n. G.trusted c.walk_below.new.t → IsWalkedSubtree (G.step mid).spares level (G.step mid).images child before after n) (λ n. G.trusted c.walk_below.new.t → IsCountedTree s after n)
    (λ n w trusted.
    let t = c.walk_below.ensures.calls.trust trusted in
    let a = subst (λ (x : List (List ℕ)). IsWalkedSubtree (G.step mid).spares level x child before after n) (first.stays t) (w trusted) in
    let b = subst (λ (x : List Bool). IsWalkedSubtree x level s.images child before after n) first.spares a in
    counted s level child before after n (c.in_ok-level.ensures.level t) c.top.ensures c.requires.clear b) c.walk_below.ensures.walked

pub returns-clause-failed : goal.returns-clause-failed
returns-clause-failed g c =
    let G = g.T.Pages in
    let old = c.args.t.now in
    let mid = c.top_level.new.t in
    let new = c.walk_below.new.t in
    let before = c.args.reached.now in
    let level = c.in_ok-level.level in
    let child = c.top.result in
    let first = c.in_ok-level.ensures.calls in
    let n = length (G.step old).images in
    let all = walks_then G g.met.T.Pages.then old mid new first c.walk_below.ensures.calls in
    let is : G.trusted new → IsTopLevel (G.step new).images level = λ trusted.
    subst (λ (x : List (List ℕ)). IsTopLevel x level) (sym (all.stays trusted)) (c.in_ok-level.ensures.level (c.walk_below.ensures.calls.trust trusted)) in
    let whole : length before ≡ length (G.step new).images = c.requires.whole ∙ sym all.count in
    let among : 0 < n → IfErr c.walk_below.result (IsAmong n) = λ some.
    let here = subst (λ (d : Child). d.page < length (G.step mid).images) (sym c.top.ensures) (subst (λ (k : ℕ). 0 < k) (sym first.count) some) in
    subst (λ (k : ℕ). IfErr c.walk_below.result (IsAmong k)) first.count (c.walk_below.ensures.among here) in
    err_given c.walk_below.result (0 < n) (IsAmong n) (FailsOver G new level (child ∷ []) before) (FailsAmong G old new)
    (λ fault inside h. record { among = inside; cause = walk_whole G new fault level child before is c.top.ensures whole c.requires.clear h.cause }) among c.walk_below.ensures.failed

pub returns-clause-refused : goal.returns-clause-refused
returns-clause-refused g c =
    let G = g.T.Pages in
    let new = c.walk_below.new.t in
    err_more c.walk_below.result (FailsOver G new c.in_ok-level.level (c.top.result ∷ []) c.args.reached.now) (HasRefusal (rested (G.step new)) (G.step new)) (λ fault h. h.refused) c.walk_below.ensures.failed

pub returns-in_err-level-clause-calls : goal.returns-in_err-level-clause-calls
returns-in_err-level-clause-calls g c =
    let p = err_from_is_err_and c.from_residual.result c.from_residual.ensures.1 in
    rw (p.1, p.2) c.in_err-level.ensures.calls

pub returns-clause-root : goal.returns-clause-root
returns-clause-root g c =
    let G = g.T.Pages in
    let mid = c.top_level.new.t in
    let before = c.args.reached.now in
    let after = c.walk_below.new.reached in
    let root = subst (λ (d : Child). is_marked after d.page ≡ true) c.top.ensures c.walk_below.ensures.marks.marked in
    ok_more c.walk_below.result (λ n. G.trusted c.walk_below.new.t → IsWalkedSubtree (G.step mid).spares c.in_ok-level.level (G.step mid).images c.top.result before after n) (λ n. is_marked after 0 ≡ true) (λ n w. root) c.walk_below.ensures.walked

-- ---- memory is not wanting

pub returns-clause-memory : goal.returns-clause-memory
returns-clause-memory g c = no_more_then g.T.Pages c.args.t.now c.top_level.new.t c.walk_below.new.t c.in_ok-level.ensures.memory c.walk_below.ensures.memory

pub returns-in_err-level-clause-memory : goal.returns-in_err-level-clause-memory
returns-in_err-level-clause-memory g c =
    let p = err_from_is_err_and c.from_residual.result c.from_residual.ensures.1 in
    rw (p.1, p.2) c.in_err-level.ensures.memory
