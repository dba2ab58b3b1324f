use Rattle.std.proofs.Common.{◌≡◌, ◌∷◌, ◌∙◌, ◌++◌, ℕ, List, ap, length, arith, length-append}
use Rattle.std.specs.List.{flat_map}
use Rattle.fsd_formats.specs.NamePage.{entry_bytes, FitsEntry}
use Rattle.fsd_table.proofs.BoundLaws.{all_append}
use Rattle.name_page.specs.declared.entries.Side.TheVariants.{Lesser, Greater}
use Rattle.name_page.specs.Edits.{beside}
use Rattle.name_page.proofs.SideLaws.{sides_count, sides_used, with_bytes}
use Rattle.name_page.proofs.text.text_with.Goals as goal

pub put_side-requires-clause-few : goal.put_side-requires-clause-few
put_side-requires-clause-few c = omega (arith, c.requires.few, sides_count c.args.entry.now.key c.args.entries.now)

pub put_side-requires-clause-room : goal.put_side-requires-clause-room
put_side-requires-clause-room c = omega (arith, c.requires.room, ap length c.new.ensures, sides_used c.args.entry.now.key c.args.entries.now)

pub put_text-requires-clause-few : goal.put_text-requires-clause-few
put_text-requires-clause-few c = omega (arith, c.requires.few, c.put_side.ensures.count, sides_count c.args.entry.now.key c.args.entries.now)

pub put_text-requires-clause-room : goal.put_text-requires-clause-room
put_text-requires-clause-room c =
    let lesser : List ℕ = flat_map entry_bytes (beside Lesser c.args.entry.now.key c.args.entries.now) in
    let front : c.put_side.new.text.bytes.items ≡ lesser = c.put_side.ensures.bytes ∙ ap (λ (x : List ℕ). x ++ lesser) c.new.ensures in
    omega (arith, c.requires.room, ap length front, c.as_slice.ensures.fits, sides_used c.args.entry.now.key c.args.entries.now)

pub put_side-requires-2-clause-few : goal.put_side-requires-2-clause-few
put_side-requires-2-clause-few c = omega (arith, c.requires.few, c.put_side.ensures.count, c.put_text.ensures.count, sides_count c.args.entry.now.key c.args.entries.now)

pub put_side-requires-2-clause-room : goal.put_side-requires-2-clause-room
put_side-requires-2-clause-room c =
    let lesser : List ℕ = flat_map entry_bytes (beside Lesser c.args.entry.now.key c.args.entries.now) in
    let front : c.put_side.new.text.bytes.items ≡ lesser = c.put_side.ensures.bytes ∙ ap (λ (x : List ℕ). x ++ lesser) c.new.ensures in
    omega (
      arith,
      c.requires.room,
      ap length front,
      c.as_slice.ensures.fits,
      ap length c.put_text.ensures.bytes,
      length-append c.put_side.new.text.bytes.items c.as_slice.result.now,
      sides_used c.args.entry.now.key c.args.entries.now,
    )

pub returns-clause-text : goal.returns-clause-text
returns-clause-text c =
    let e = c.args.entry.now in
    let xs = c.args.entries.now in
    let lesser : List ℕ = flat_map entry_bytes (beside Lesser e.key xs) in
    let greater : List ℕ = flat_map entry_bytes (beside Greater e.key xs) in
    let front : c.put_side.new.text.bytes.items ≡ lesser = c.put_side.ensures.bytes ∙ ap (λ (x : List ℕ). x ++ lesser) c.new.ensures in
    record {
      bytes =
          c.put_side-2.ensures.bytes
          ∙ ap (λ (x : List ℕ). x ++ greater) (c.put_text.ensures.bytes
          ∙ ap (λ (x : List ℕ). x ++ c.as_slice.result.now) front
          ∙ ap (λ (x : List ℕ). lesser ++ x) (c.as_slice.ensures.value ∙ c.entry_text.ensures))
          ∙ with_bytes e xs;
      count = omega (arith, c.put_side.ensures.count, c.put_text.ensures.count, c.put_side-2.ensures.count, length-append (beside Lesser e.key xs) (e ∷ beside Greater e.key xs));
    }

pub returns-clause-fits : goal.returns-clause-fits
returns-clause-fits c =
    let e = c.args.entry.now in
    let xs = c.args.entries.now in
    all_append FitsEntry (beside Lesser e.key xs) (e ∷ beside Greater e.key xs) c.put_side.ensures.fits (c.requires.fits, c.put_side-2.ensures.fits)
