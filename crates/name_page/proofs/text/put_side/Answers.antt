use Rattle.std.proofs.Common.{◌≡◌, ◌+◌, ◌++◌, ◌∷◌, [], ◌∙◌, sym, ap, length, take, true, false, List, ℕ, arith, append_assoc, length-append}
use Rattle.std.specs.List.{flat_map}
use Rattle.std.proofs.lemmas.List.{append-nil}
use Rattle.fsd_formats.specs.declared.entry.Entry.{Entry}
use Rattle.fsd_formats.specs.NamePage.{entry_bytes, FitsEntry}
use Rattle.name_page.specs.Edits.{beside, has_order, is_on}
use Rattle.name_page.proofs.SideLaws.{beside_more, bytes_more, bytes_room, each_beside, room_for}
use Rattle.name_page.proofs.text.put_side.Goals as goal
use Rattle.name_page.proofs.text.put_side.Goals.{then-has, else-has}

pub put_text-requires-clause-few : goal.put_text-requires-clause-few
put_text-requires-clause-few c =
    let e = c.compare.ensures.0 in
    let on : true ≡ is_on c.args.side c.args.key.now e = sym c.if-has.true ∙ c.has.ensures ∙ ap (has_order c.args.side) c.compare.ensures.2 in
    omega (arith, c.requires.few, c.loop-i.invariant.1, room_for c.args.side c.args.key.now c.args.entries.now c.loop-i.i e c.compare.ensures.1 on)

pub put_text-requires-clause-room : goal.put_text-requires-clause-room
put_text-requires-clause-room c =
    let e = c.compare.ensures.0 in
    let on : true ≡ is_on c.args.side c.args.key.now e = sym c.if-has.true ∙ c.has.ensures ∙ ap (has_order c.args.side) c.compare.ensures.2 in
    let same : c.text.ensures.0 ≡ e = let both = sym c.text.ensures.1 ∙ c.compare.ensures.1 in cc in
    let bytes : c.text.result.now ≡ entry_bytes e = c.text.ensures.2 ∙ ap entry_bytes same in
    omega (
      arith,
      c.requires.room,
      ap length c.loop-i.invariant.0,
      ap length bytes,
      length-append c.args.text.now.bytes.items (flat_map entry_bytes (beside c.args.side c.args.key.now (take c.loop-i.i c.args.entries.now))),
      bytes_room c.args.side c.args.key.now c.args.entries.now c.loop-i.i e c.compare.ensures.1 on,
    )

pub loop-i-preserved : goal.loop-i-preserved
loop-i-preserved c =
    let side = c.args.side in
    let key = c.args.key.now in
    let entries = c.args.entries.now in
    let i = c.loop-i.i in
    let e = c.compare.ensures.0 in
    let there = c.compare.ensures.1 in
    let test : c.has.result ≡ is_on side key e = c.has.ensures ∙ ap (has_order side) c.compare.ensures.2 in
    let front : List Entry = beside side key (take i entries) in
    let bytes : List ℕ = flat_map entry_bytes front in
    let first : List ℕ = c.args.text.now.bytes.items in
    elim c.if-has.branch [
      | then-has w ↦
          let on : true ≡ is_on side key e = sym w.if-has.true ∙ test in
          let same : w.text.ensures.0 ≡ e = let both = sym w.text.ensures.1 ∙ there in cc in
          let more = beside_more side key entries i e true there on in (
            ap (λ t. t.bytes.items) w.text-is
                ∙ w.put_text.ensures.bytes
                ∙ ap (λ (x : List ℕ). c.loop-i.text.bytes.items ++ x) (w.text.ensures.2 ∙ ap entry_bytes same)
                ∙ ap (λ (x : List ℕ). x ++ entry_bytes e) c.loop-i.invariant.0
                ∙ append_assoc first bytes (entry_bytes e)
                ∙ ap (λ (x : List ℕ). first ++ x) (sym (bytes_more side key entries i e there on)),
            omega (arith, ap (λ t. t.count) w.text-is, w.put_text.ensures.count, c.loop-i.invariant.1, ap length more, length-append front (e ∷ [])),
          )
      | else-has w ↦
          let off : false ≡ is_on side key e = sym w.if-has.false ∙ test in
          let same : front ≡ beside side key (take (i + 1) entries) = sym (append-nil front) ∙ sym (beside_more side key entries i e false there off) in (
            ap (λ t. t.bytes.items) w.text-is ∙ c.loop-i.invariant.0 ∙ ap (λ (xs : List Entry). first ++ flat_map entry_bytes xs) same,
            ap (λ t. t.count) w.text-is ∙ c.loop-i.invariant.1 ∙ ap (λ (xs : List Entry). c.args.text.now.count + length xs) same,
          )
    ]

pub returns-clause-fits : goal.returns-clause-fits
returns-clause-fits c = each_beside FitsEntry c.args.side c.args.key.now c.args.entries.now c.len-i-end.ensures.fits
