use Rattle.std.proofs.Common.{◌∙◌, refl, sym}
use Rattle.name_page.specs.Pages.{with_images}
use Rattle.name_page.proofs.LookLaws.{agrees_now, reaches_still, reaches_takes}
use Rattle.name_btree.proofs.drafts.ReachedLaws.{takes_only}
use Rattle.name_btree.specs.Draft.{drafted}
use Rattle.name_btree.proofs.steps.ReplaceLaws.{few_in_leaf, used_in_leaf}
use Rattle.name_btree.proofs.finding.AbsentLaws.{absent}
use Rattle.name_btree.proofs.growth.LeafGrowthLaws.{with_fits_two, grows_leaf}
use Rattle.name_btree.proofs.inserting.insert_here.Goals as goal

pub grow_leaf_with-requires-clause-few : goal.grow_leaf_with-requires-clause-few
grow_leaf_with-requires-clause-few g c =
    let s = g.T.Pages.step c.args.t.now in
    few_in_leaf (drafted c.args.draft.now.sheets.items s.images) c.args.child.now.page c.args.entries.now (c.requires.leaf s.images (agrees_now s))

pub grow_leaf_with-requires-clause-most : goal.grow_leaf_with-requires-clause-most
grow_leaf_with-requires-clause-most g c =
    let s = g.T.Pages.step c.args.t.now in
    used_in_leaf (drafted c.args.draft.now.sheets.items s.images) c.args.child.now.page c.args.entries.now (c.requires.leaf s.images (agrees_now s))

pub grow_leaf_with-requires-clause-entries : goal.grow_leaf_with-requires-clause-entries
grow_leaf_with-requires-clause-entries g c =
    let pages = drafted c.args.draft.now.sheets.items (g.T.Pages.step c.args.t.now).images in
    let none = absent c.entry_in.result (sym c.is_some.ensures ∙ c.if-is_some.false) in
    with_fits_two pages c.args.child.now.page c.args.entry.now c.args.entries.now _ (c.requires.leaf (g.T.Pages.step c.args.t.now).images (agrees_now (g.T.Pages.step c.args.t.now))) refl c.requires.entry (sym c.entry_in.ensures.with ∙ none)

pub returns-clause-grown : goal.returns-clause-grown
returns-clause-grown g c =
    let step = g.T.Pages.step c.args.t.now in
    let e = c.grow_leaf_with.ensures in
    record {
      grown = e.grown;
      grows = λ pages agrees.
          grows_leaf c.args.entry.now (with_images pages step) (with_images pages (g.T.Pages.step c.grow_leaf_with.new.t)) c.args.draft.now.sheets.items c.grow_leaf_with.new.draft.sheets.items c.args.child.now c.args.entries.now _ c.grow_leaf_with.result
          (c.requires.leaf pages agrees) refl c.requires.keys c.requires.inside (e.grown pages agrees.count) (e.leaves pages agrees.count);
      drawn = e.drawn;
    }

pub returns-clause-reached : goal.returns-clause-reached
returns-clause-reached g c = c.grow_leaf_with.ensures.stays.reached

pub returns-clause-calls : goal.returns-clause-calls
returns-clause-calls g c =
    let G = g.T.Pages in
    let old = c.args.t.now in
    let new = c.grow_leaf_with.new.t in
    let e = c.grow_leaf_with.ensures in
    takes_only G old new (G.step old).images _ refl (e.grown (G.step old).images refl).takes e.outside (g.met.T.Pages.trust old new _ e.outside) e.stays.images e.stays.home

pub returns-then-is_some-clause-calls : goal.returns-then-is_some-clause-calls
returns-then-is_some-clause-calls g c = reaches_takes g.T.Pages c.args.t.now c.args.t.now (reaches_still g.T.Pages c.args.t.now (g.met.T.Pages.still c.args.t.now))
