use Rattle.std.proofs.Common.{◌≡◌, ◌++◌, ◌∷◌, [], ◌∙◌, sym, ap, subst, length, take, true, false, List, Bool, arith, append_assoc, length-append}
use Rattle.std.specs.List.{AllByRecursion}
use Rattle.std.proofs.lemmas.List.{append-nil}
use Rattle.fsd_formats.specs.declared.entry.Entry.{Entry}
use Rattle.fsd_formats.specs.NamePage.{FitsEntry}
use Rattle.fsd_table.proofs.BoundLaws.{all_append}
use Rattle.name_page.specs.Edits.{beside, has_order, is_on}
use Rattle.name_page.proofs.SideLaws.{beside_more, room_for}
use Rattle.name_page.proofs.entries.put_side.Goals as goal
use Rattle.name_page.proofs.entries.put_side.Goals.{then-has, else-has}

pub push-requires : goal.push-requires
push-requires c =
    let e = c.compare.ensures.0 in
    let on : true ≡ is_on c.args.side c.args.key.now e = sym c.if-has.true ∙ c.has.ensures ∙ ap (has_order c.args.side) c.compare.ensures.2 in
    omega (
      arith,
      c.requires.room,
      ap length c.loop-i.invariant.0,
      length-append c.args.list.now.items (beside c.args.side c.args.key.now (take c.loop-i.i c.args.entries.now)),
      room_for c.args.side c.args.key.now c.args.entries.now c.loop-i.i e c.compare.ensures.1 on,
    )

pub loop-i-preserved : goal.loop-i-preserved
loop-i-preserved c =
    let e = c.compare.ensures.0 in
    let there = c.compare.ensures.1 in
    let test : c.has.result ≡ is_on c.args.side c.args.key.now e = c.has.ensures ∙ ap (has_order c.args.side) c.compare.ensures.2 in
    let front : List Entry = beside c.args.side c.args.key.now (take c.loop-i.i c.args.entries.now) in
    let more = λ (b : Bool) (is : b ≡ is_on c.args.side c.args.key.now e). beside_more c.args.side c.args.key.now c.args.entries.now c.loop-i.i e b there is in
    elim c.if-has.branch [
      | then-has w ↦
          let on : true ≡ is_on c.args.side c.args.key.now e = sym w.if-has.true ∙ test in
          let same : w.get.result ≡ e = let both = sym w.get.ensures.there ∙ there in cc in
          let is : c.if-has.list.items ≡ c.loop-i.list.items ++ w.get.result ∷ [] = ap (λ x. x.items) w.list-is ∙ w.push.ensures.items in (
            is
                ∙ ap (λ (x : Entry). c.loop-i.list.items ++ x ∷ []) same
                ∙ ap (λ (xs : List Entry). xs ++ e ∷ []) c.loop-i.invariant.0
                ∙ append_assoc c.args.list.now.items front (e ∷ [])
                ∙ ap (λ (xs : List Entry). c.args.list.now.items ++ xs) (sym (more true on)),
            subst (AllByRecursion FitsEntry) (sym is) (all_append FitsEntry c.loop-i.list.items (w.get.result ∷ []) c.loop-i.invariant.1 (w.get.ensures.fits, tt)),
          )
      | else-has w ↦
          let off : false ≡ is_on c.args.side c.args.key.now e = sym w.if-has.false ∙ test in
          let is : c.if-has.list.items ≡ c.loop-i.list.items = ap (λ x. x.items) w.list-is in (
            is ∙ c.loop-i.invariant.0 ∙ ap (λ (xs : List Entry). c.args.list.now.items ++ xs) (sym (append-nil front) ∙ sym (more false off)),
            subst (AllByRecursion FitsEntry) (sym is) c.loop-i.invariant.1,
          )
    ]
