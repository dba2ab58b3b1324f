use Rattle.std.proofs.Common.{ℕ, ◌+◌, ◌<◌, length, refl, subst, sym, arith}
use Rattle.std.specs.Prelude.{slice_set}
use Rattle.name_page.specs.Reading.{entries_read}
use Rattle.name_page.proofs.PlaceLaws.{Placed, placed_begins, placed_next}
use Rattle.name_page.proofs.ReadingLaws.{walk_entry}
use Rattle.name_page.proofs.reading.places_in.Goals as goal

pub loop-i-init : goal.loop-i-init
loop-i-init c = placed_begins c.args.b.now _ c.fits-b refl

pub entry_end-place-requires : goal.entry_end-place-requires
entry_end-place-requires c =
    let more : c.loop-i.i < length (entries_read c.args.b.now) = omega arith in
    (walk_entry c.args.b.now c.loop-i.i c.loop-i.i c.loop-i.place c.told-b (omega arith) (c.loop-i.invariant.rest c.loop-i.i (omega arith) more)).2

pub loop-i-preserved : goal.loop-i-preserved
loop-i-preserved c =
    let more : c.loop-i.i < length (entries_read c.args.b.now) = omega arith in
    let P : ℕ → Type 0 = λ (place : ℕ). Placed c.args.b.now (slice_set c.loop-i.places c.loop-i.i c.loop-i.place) (c.loop-i.i + 1) place in
    subst P (sym c.entry_end-place.ensures) (placed_next c.args.b.now c.loop-i.places c.loop-i.i c.loop-i.place c.told-b more c.loop-i.invariant)
