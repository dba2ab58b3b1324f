use Rattle.std.proofs.Common.{sym, subst, refl, length, ◌∙◌}
use Rattle.std.specs.Prelude.{IfErr, IfOk}
use Rattle.name_page.specs.Looks.{ShowsEach}
use Rattle.name_page.specs.Pages.{with_images}
use Rattle.name_page.proofs.LookLaws.{reaches_still}
use Rattle.name_btree.specs.declared.trimming.Trimmed.TheVariants.{Whole}
use Rattle.name_btree.specs.declared.trimming.Trimmed.{Trimmed}
use Rattle.name_btree.specs.Draft.{drafted}
use Rattle.name_btree.specs.Fault.{FailsBy}
use Rattle.name_btree.specs.Trim.{IsLeft, IsTrimmedAbove, IsUnlike, child_of}
use Rattle.name_btree.proofs.trimming.trim_above.Goals as goal

pub mend_leaf-requires-clause-room : goal.mend_leaf-requires-clause-room
mend_leaf-requires-clause-room g c = c.requires.room (λ e. let h = sym c.in-Leaf.is ∙ e in absurd cc)

pub mend_ways-requires-clause-room : goal.mend_ways-requires-clause-room
mend_ways-requires-clause-room g c = c.requires.room (λ e. let h = sym c.in-Interior.is ∙ e in absurd cc)

pub returns-in-Interior-clause-fault : goal.returns-in-Interior-clause-fault
returns-in-Interior-clause-fault g c =
    let new = c.mend_ways.new.t in
    let ways = c.args.ways.now in
    let P : Trimmed → Type 0 = λ (x : Trimmed).
    IfErr c.mend_ways.result (FailsBy (g.T.Pages.step new) (λ pages. IsUnlike (drafted c.args.draft.now.sheets.items pages) c.args.above.now ways.0 ways.1 c.args.i x)) in
    subst P (sym c.in-Interior.is) c.mend_ways.ensures.fault

pub mend_leaf-requires-clause-few : goal.mend_leaf-requires-clause-few
mend_leaf-requires-clause-few g c =
    let ways = c.args.ways.now in
    subst (IsLeft (length (g.T.Pages.step c.args.t.now).images) (child_of c.args.above.now ways.0 ways.1 c.args.i)) c.in-Leaf.is c.requires.left

pub returns-in-Leaf-clause-mended : goal.returns-in-Leaf-clause-mended
returns-in-Leaf-clause-mended g c =
    let s = g.T.Pages.step c.mend_leaf.new.t in
    let ways = c.args.ways.now in
    let P : Trimmed → Type 0 = λ (x : Trimmed).
    IfOk c.mend_leaf.result (λ left. ShowsEach s (λ pages. IsTrimmedAbove (with_images pages s) c.args.draft.now c.mend_leaf.new.draft c.args.above.now ways.0 ways.1 c.args.i x left)) in
    subst P (sym c.in-Leaf.is) c.mend_leaf.ensures.mended

pub returns-in-Leaf-clause-calls : goal.returns-in-Leaf-clause-calls
returns-in-Leaf-clause-calls g c = c.mend_leaf.ensures.calls

pub returns-in-Leaf-clause-reaches : goal.returns-in-Leaf-clause-reaches
returns-in-Leaf-clause-reaches g c = c.mend_leaf.ensures.reaches

pub returns-in-Leaf-clause-draft : goal.returns-in-Leaf-clause-draft
returns-in-Leaf-clause-draft g c = c.mend_leaf.ensures.draft

pub mend_ways-requires-clause-few : goal.mend_ways-requires-clause-few
mend_ways-requires-clause-few g c =
    let ways = c.args.ways.now in
    subst (IsLeft (length (g.T.Pages.step c.args.t.now).images) (child_of c.args.above.now ways.0 ways.1 c.args.i)) c.in-Interior.is c.requires.left

pub returns-in-Interior-clause-mended : goal.returns-in-Interior-clause-mended
returns-in-Interior-clause-mended g c =
    let s = g.T.Pages.step c.mend_ways.new.t in
    let ways = c.args.ways.now in
    let P : Trimmed → Type 0 = λ (x : Trimmed).
    IfOk c.mend_ways.result (λ left. ShowsEach s (λ pages. IsTrimmedAbove (with_images pages s) c.args.draft.now c.mend_ways.new.draft c.args.above.now ways.0 ways.1 c.args.i x left)) in
    subst P (sym c.in-Interior.is) c.mend_ways.ensures.mended

pub returns-in-Interior-clause-calls : goal.returns-in-Interior-clause-calls
returns-in-Interior-clause-calls g c = c.mend_ways.ensures.calls

pub returns-in-Interior-clause-reaches : goal.returns-in-Interior-clause-reaches
returns-in-Interior-clause-reaches g c = c.mend_ways.ensures.reaches

pub returns-in-Interior-clause-draft : goal.returns-in-Interior-clause-draft
returns-in-Interior-clause-draft g c = c.mend_ways.ensures.draft

pub returns-in-Leaf-clause-fault : goal.returns-in-Leaf-clause-fault
returns-in-Leaf-clause-fault g c =
    let new = c.mend_leaf.new.t in
    let ways = c.args.ways.now in
    let P : Trimmed → Type 0 = λ (x : Trimmed).
    IfErr c.mend_leaf.result (FailsBy (g.T.Pages.step new) (λ pages. IsUnlike (drafted c.args.draft.now.sheets.items pages) c.args.above.now ways.0 ways.1 c.args.i x)) in
    subst P (sym c.in-Leaf.is) c.mend_leaf.ensures.fault

-- nothing is to be done
pub returns-in-Whole-clause-calls : goal.returns-in-Whole-clause-calls
returns-in-Whole-clause-calls g c = reaches_still g.T.Pages c.args.t.now (g.met.T.Pages.still c.args.t.now)

pub returns-in-Whole-clause-mended : goal.returns-in-Whole-clause-mended
returns-in-Whole-clause-mended g c = λ images agrees.
    let s = g.T.Pages.step c.args.t.now in
    let ways = c.args.ways.now in
    let draft = c.args.draft.now in
    subst (λ (x : Trimmed). IsTrimmedAbove (with_images images s) draft draft c.args.above.now ways.0 ways.1 c.args.i x Whole) (sym c.in-Whole.is) (refl, refl)
