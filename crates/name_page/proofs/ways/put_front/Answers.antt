use Rattle.std.proofs.Common.{◌≡◌, ◌+◌, ◌++◌, ◌∷◌, [], ◌∙◌, sym, ap, subst, take, List, append_assoc}
use Rattle.std.specs.List.{AllByRecursion}
use Rattle.std.proofs.lemmas.List.{take_more}
use Rattle.std.proofs.lemmas.Option.{slice_get_within, get_or_from_slice_get}
use Rattle.fsd_formats.specs.declared.page.Separator.{Separator}
use Rattle.fsd_formats.specs.NamePage.{FitsSeparator}
use Rattle.fsd_table.proofs.BoundLaws.{all_append}
use Rattle.name_page.proofs.ways.put_front.Goals as goal

pub loop-i-preserved : goal.loop-i-preserved
loop-i-preserved c =
    let xs : List Separator = c.args.ways.now.1 in
    let i = c.loop-i.i in
    let s : Separator = c.get.result in
    let at = c.get.ensures.there in
    let more : take (i + 1) xs ≡ take i xs ++ s ∷ [] = take_more xs i s (slice_get_within xs i s at) ∙ ap (λ (x : Separator). take i xs ++ x ∷ []) (get_or_from_slice_get xs i s s at) in
    let old : List Separator = c.args.list.now.items in (
      c.push.ensures.items
          ∙ ap (λ (ys : List Separator). ys ++ s ∷ []) c.loop-i.invariant.0
          ∙ append_assoc old (take i xs) (s ∷ [])
          ∙ ap (λ (ys : List Separator). old ++ ys) (sym more),
      subst (AllByRecursion FitsSeparator) (sym c.push.ensures.items) (all_append FitsSeparator c.loop-i.list.items (s ∷ []) c.loop-i.invariant.1 (c.get.ensures.fits, tt)),
    )
