use Rattle.std.proofs.Common.{◌≡◌, ◌∙◌, ◌≤◌, ◌+◌, ◌∷◌, [], ◌++◌, List, length, take, sym, ap, subst, arith}
use Rattle.std.proofs.lemmas.List.{take_more, take_all}
use Rattle.std.proofs.lemmas.Result.{err_from_is_err_and}
use Rattle.fsd_bytes.specs.declared.key.Key.{Key}
use Rattle.name_page.specs.Looks.{ShowsEach}
use Rattle.name_page.proofs.LookLaws.{reaches_then, agrees_before}
use Rattle.name_btree.specs.Draft.{drafted}
use Rattle.name_btree.specs.Fault.{IsNoTree}
use Rattle.name_btree.specs.Map.{LeavesTree}
use Rattle.name_btree.proofs.steps.CauseLaws.{fails_by_map}
use Rattle.name_btree.proofs.steps.MapLaws.{IsCleared, cleared_none, cleared_more, left_tree}
use Rattle.name_btree.proofs.inserting.remove_all.Goals as goal

pub loop-key-init : goal.loop-key-init
loop-key-init g c = cleared_none g.T.Pages c.args.t.now c.args.draft.now (g.met.T.Pages.still c.args.t.now) c.requires.sheets c.requires.freed

pub loop-key-preserved : goal.loop-key-preserved
loop-key-preserved g c =
    let i = c.loop-key.key-index in
    let keys = c.args.gone.now in
    let key : Key = c.key-item.result in
    let more : take (i + 1) keys ≡ take i keys ++ key ∷ [] = take_more keys i key (omega arith) ∙ ap (λ (k : Key). take i keys ++ k ∷ []) (sym c.key-item.is) in
    let e = c.in_ok-remove_in.ensures in
    subst (λ (ks : List Key). IsCleared g.T.Pages c.args.t.now c.remove_in.new.t c.remove_in.new.draft ks (i + 1)) (sym more)
    (cleared_more g.T.Pages g.met.T.Pages.then c.args.t.now c.loop-key.t c.remove_in.new.t c.loop-key.draft c.remove_in.new.draft (take i keys) key i c.loop-key.invariant e.calls e.reaches e.drafted.draft e.drafted.sheets e.drafted.freed e.removed)

pub returns-in_err-remove_in-clause-calls : goal.returns-in_err-remove_in-clause-calls
returns-in_err-remove_in-clause-calls g c =
    let p = err_from_is_err_and c.from_residual.result c.from_residual.ensures.1 in
    rw (p.1, p.2) (reaches_then g.T.Pages g.met.T.Pages.then c.args.t.now c.loop-key.t c.remove_in.new.t c.loop-key.invariant.calls c.in_err-remove_in.ensures.calls)

pub returns-in_err-remove_in-clause-fault : goal.returns-in_err-remove_in-clause-fault
returns-in_err-remove_in-clause-fault g c =
    let G = g.T.Pages in
    let now = c.loop-key.t in
    let new = c.remove_in.new.t in
    let d = c.loop-key.draft in
    let i = c.loop-key.key-index in
    let p = err_from_is_err_and c.from_residual.result c.from_residual.ensures.1 in
    rw (p.1, p.2) (fails_by_map (G.step new) (λ pages page. IsNoTree (drafted d.sheets.items pages)) (λ pages page. IsNoTree pages)
    (λ images page agrees h. left_tree images d (take i c.args.gone.now) (c.loop-key.invariant.left images (agrees_before (G.step now) (G.step new) images c.in_err-remove_in.ensures.calls.looks agrees)) h) c.in_err-remove_in.field-0.0 c.in_err-remove_in.ensures.fault)

pub returns-clause-left : goal.returns-clause-left
returns-clause-left g c =
    let keys = c.args.gone.now in
    let all : length keys ≤ c.loop-key.key-index = omega arith in
    subst (λ (ks : List Key). ShowsEach (g.T.Pages.step c.loop-key.t) (λ pages. LeavesTree pages c.loop-key.draft ks)) (take_all c.loop-key.key-index keys all) c.loop-key.invariant.left
