use Rattle.std.proofs.Common.{◌++◌, ◌∷◌, [], ◌∙◌, sym, ap, subst, length, List, arith}
use Rattle.std.specs.List.{AllByRecursion}
use Rattle.fsd_formats.specs.declared.entry.Entry.{Entry}
use Rattle.fsd_formats.specs.NamePage.{FitsEntry}
use Rattle.fsd_table.proofs.BoundLaws.{all_append}
use Rattle.name_page.proofs.PutLaws.{put_more, put_count, put_fits}
use Rattle.name_page.proofs.entries.put_among.Goals as goal

pub push-requires : goal.push-requires
push-requires c = omega (arith, ap length c.loop-i.invariant.0, put_count c.args.entry.now c.args.entries.now c.loop-i.i)

pub loop-i-preserved : goal.loop-i-preserved
loop-i-preserved c =
    let fits : FitsEntry c.put.result = put_fits c.args.entry.now c.get.result c.put.result c.put.ensures c.requires.fits c.get.ensures.fits in (
      c.push.ensures.items
          ∙ ap (λ (xs : List Entry). xs ++ c.put.result ∷ []) c.loop-i.invariant.0
          ∙ sym (put_more c.args.entry.now c.args.entries.now c.loop-i.i c.get.result c.put.result c.get.ensures.there c.put.ensures),
      subst (AllByRecursion FitsEntry) (sym c.push.ensures.items) (all_append FitsEntry c.loop-i.list.items (c.put.result ∷ []) c.loop-i.invariant.1 (fits, tt)),
    )
