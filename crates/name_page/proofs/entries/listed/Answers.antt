use Rattle.std.proofs.Common.{◌≡◌, ◌+◌, ◌++◌, ◌∷◌, [], ◌∙◌, sym, ap, subst, take, List}
use Rattle.std.specs.List.{AllByRecursion}
use Rattle.std.proofs.lemmas.List.{take_more}
use Rattle.std.proofs.lemmas.Option.{slice_get_within, get_or_from_slice_get}
use Rattle.fsd_formats.specs.declared.entry.Entry.{Entry}
use Rattle.fsd_formats.specs.NamePage.{FitsEntry}
use Rattle.fsd_table.proofs.BoundLaws.{all_append}
use Rattle.name_page.proofs.entries.listed.Goals as goal

pub loop-i-preserved : goal.loop-i-preserved
loop-i-preserved c =
    let xs : List Entry = c.args.entries.now in
    let i = c.loop-i.i in
    let e : Entry = c.get.result in
    let at = c.get.ensures.there in
    let more : take (i + 1) xs ≡ take i xs ++ e ∷ [] = take_more xs i e (slice_get_within xs i e at) ∙ ap (λ (x : Entry). take i xs ++ x ∷ []) (get_or_from_slice_get xs i e e at) in (
      c.push.ensures.items ∙ ap (λ (ys : List Entry). ys ++ e ∷ []) c.loop-i.invariant.0 ∙ sym more,
      subst (AllByRecursion FitsEntry) (sym c.push.ensures.items) (all_append FitsEntry c.loop-i.list.items (e ∷ []) c.loop-i.invariant.1 (c.get.ensures.fits, tt)),
    )
