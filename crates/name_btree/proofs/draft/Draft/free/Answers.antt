use Rattle.std.proofs.Common.{◌≡◌, ◌∙◌, ap, sym, refl, false, List, ℕ}
use Rattle.run_table.specs.Space.{contains}
use Rattle.name_btree.specs.declared.draft.Draft.{Draft}
use Rattle.name_btree.proofs.growth.GrowLaws.{draft_frees}
use Rattle.name_btree.proofs.draft.Draft.free.Goals as goal

pub returns-then-not-contains-clause-draft : goal.returns-then-not-contains-clause-draft
returns-then-not-contains-clause-draft g c =
    let old : Draft = c.args.self.now in
    let new : Draft = record { sheets = old.sheets; freed = c.push.new.self } in
    let none : contains old.freed.items c.args.page ≡ false = ap (λ (pages : List ℕ). contains pages c.args.page) (sym c.as_slice.ensures.value) ∙ sym c.contains.ensures.value ∙ c.if-not-contains.true in
    draft_frees (g.T.Pages.step c.args.t.now) old new c.args.page refl c.push.ensures.items c.requires.draft (record { reached = c.requires.reached; used = c.requires.used; inner = c.if-page-ne0.true }) none
