use Rattle.std.proofs.Common.{◌+◌, ◌≤◌, ◌++◌, ◌∷◌, [], ◌∙◌, sym, ap, subst, drop, length, List, arith, append_assoc, length-append, length-drop}
use Rattle.std.specs.List.{AllByRecursion}
use Rattle.fsd_formats.specs.declared.page.Separator.{Separator}
use Rattle.fsd_formats.specs.NamePage.{FitsSeparator}
use Rattle.fsd_table.proofs.BoundLaws.{all_append}
use Rattle.name_page.proofs.ListLaws.{drop_at}
use Rattle.name_page.proofs.ways.put_behind.Goals as goal

pub push-requires : goal.push-requires
push-requires c =
    let xs : List Separator = c.args.ways.now.1 in
    let some : 1 ≤ length (drop c.loop-i.i xs) = omega (arith, ap length (drop_at xs c.loop-i.i c.get.result c.get.ensures.there)) in
    omega (
      arith,
      c.requires.room,
      some,
      ap length c.loop-i.invariant.0,
      length-append c.loop-i.list.items (drop c.loop-i.i xs),
      length-append c.args.list.now.items (drop c.args.count xs),
      length-drop c.args.count xs,
    )

pub loop-i-preserved : goal.loop-i-preserved
loop-i-preserved c =
    let xs : List Separator = c.args.ways.now.1 in
    let i = c.loop-i.i in
    let s : Separator = c.get.result in
    let list : List Separator = c.loop-i.list.items in (
      ap (λ (ys : List Separator). ys ++ drop (i + 1) xs) c.push.ensures.items
          ∙ append_assoc list (s ∷ []) (drop (i + 1) xs)
          ∙ ap (λ (ys : List Separator). list ++ ys) (sym (drop_at xs i s c.get.ensures.there))
          ∙ c.loop-i.invariant.0,
      omega arith,
      subst (AllByRecursion FitsSeparator) (sym c.push.ensures.items) (all_append FitsSeparator list (s ∷ []) c.loop-i.invariant.2 (c.get.ensures.fits, tt)),
    )
