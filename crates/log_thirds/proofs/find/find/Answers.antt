use Rattle.std.proofs.Common.{◌≤◌, ℕ, List, Bool, length, arith, subst, ap, ◌∙◌, sym, Some, None}
use Rattle.fsd_formats.specs.Record.{Stamp, record_len}
use Rattle.log_record.specs.Found.{read_of, serving_in}
use Rattle.fsd_log.specs.Judged.{record_in}
use Rattle.fsd_log.specs.Scan.{room_at, window, tape}
use Rattle.log_thirds.specs.Disk.{reads}
use Rattle.log_thirds.specs.Reading.{ReadsRecord}
use Rattle.log_thirds.proofs.CopyLaws.{length_copies, images_served, end_served}
use Rattle.volume_layout.proofs.RootLaws.{planned_bounds}
use Rattle.volume_layout.specs.Kinds.{gap_of}
use Rattle.fsd_log.proofs.HereLaws.{here_looks, here_last}
use Rattle.log_thirds.proofs.FindLaws.{run_inside, judged_room}
use Rattle.sector_disk.proofs.Wear.{worn_refl}
use Rattle.sector_disk.specs.Image.{sector_at, open_damage}
use Rattle.log_thirds.proofs.SeenLaws.{seen, seen_from, seen_to, seen_below, seen_front, judged_seen}
use Rattle.log_thirds.proofs.find.find.Given as given
use Rattle.log_thirds.proofs.find.find.Goals.{After-judge}
use Rattle.log_thirds.proofs.find.find.Goals as goal
use Rattle.fsd_log.proofs.RecordFacts.{judged_few}

pub read_record-requires : goal.read_record-requires
read_record-requires g c =
    omega (arith, run_inside c.args.layout.now c.args.anchor.now.third c.args.at c.args.end c.room_at-room.result c.requires.first c.requires.before c.requires.from c.requires.ends (omega (arith, c.room_at-room.ensures)), c.place_of-place.ensures, (planned_bounds c.args.layout.now c.pages-p.ensures.planned).sectors_least, c.requires.sectors)

-- what was read, as the slices have it
is_read : (g : given.Over) (c : After-judge g)
    → ReadsRecord (gap_of c.args.layout.now) (g.M.Machine.honest c.read_record.new.m) (g.M.Machine.now c.args.m.now) (g.M.Machine.now c.read_record.new.m) c.pages-p.result (record { epoch = c.args.anchor.now.epoch; number = c.args.number }) c.place_of-place.result (room_at c.args.at c.args.end) c.as_slice.result.now c.as_slice-bytes.result.now
is_read g c =
    let M = g.M.Machine in
    let stamp : Stamp = record { epoch = c.args.anchor.now.epoch; number = c.args.number } in
    subst (λ (b : List ℕ). ReadsRecord (gap_of c.args.layout.now) (M.honest c.read_record.new.m) (M.now c.args.m.now) (M.now c.read_record.new.m) c.pages-p.result stamp c.place_of-place.result (room_at c.args.at c.args.end) c.as_slice.result.now b) (sym c.as_slice-bytes.ensures.value)
    (subst (λ (w : List Bool). ReadsRecord (gap_of c.args.layout.now) (M.honest c.read_record.new.m) (M.now c.args.m.now) (M.now c.read_record.new.m) c.pages-p.result stamp c.place_of-place.result (room_at c.args.at c.args.end) w c.read_record.new.reading.bytes.items) (sym c.as_slice.ensures.value)
    (subst (λ (room : ℕ). ReadsRecord (gap_of c.args.layout.now) (M.honest c.read_record.new.m) (M.now c.args.m.now) (M.now c.read_record.new.m) c.pages-p.result stamp c.place_of-place.result room c.read_record.new.reading.whole.items c.read_record.new.reading.bytes.items) c.room_at-room.ensures c.in-Ok.ensures.read))

pub copies_in-requires-clause-each : goal.copies_in-requires-clause-each
copies_in-requires-clause-each g c =
    let stamp : Stamp = record { epoch = c.args.anchor.now.epoch; number = c.args.number } in
    length_copies (gap_of c.args.layout.now) c.pages-p.result stamp (length c.as_slice.result.now) (read_of c.as_slice.result.now c.as_slice-bytes.result.now) (serving_in c.in-Good.found) (sym c.in-Good.ensures.judged)

pub copies_in-requires-clause-room : goal.copies_in-requires-clause-room
copies_in-requires-clause-room g c =
    let stamp : Stamp = record { epoch = c.args.anchor.now.epoch; number = c.args.number } in
    let read = is_read g (goal.at.copies_in-requires-clause-room g c).After-judge in
    let room : record_len (gap_of c.args.layout.now) (length c.in-Good.found.pages.items) ≤ length c.as_slice.result.now = judged_room (gap_of c.args.layout.now) c.pages-p.result stamp (length c.as_slice.result.now) (read_of c.as_slice.result.now c.as_slice-bytes.result.now) (serving_in c.in-Good.found) c.in-Good.ensures.judged in
    omega (arith, room, read.run.long)

pub returns-in-Ok-copies_in-clause-found : goal.returns-in-Ok-copies_in-clause-found
returns-in-Ok-copies_in-clause-found g c =
    let gap = gap_of c.args.layout.now in let p = c.pages-p.result in
    let stamp : Stamp = record { epoch = c.args.anchor.now.epoch; number = c.args.number } in
    let whole = c.as_slice.result.now in let bytes = c.as_slice-bytes.result.now in
    let found = c.in-Good.found in
    let judged = sym c.in-Good.ensures.judged in
    let read = is_read g (goal.at.returns-in-Ok-copies_in-clause-found g c).After-judge in
    let room : record_len gap (length found.pages.items) ≤ length whole = judged_room gap p stamp (length whole) (read_of whole bytes) (serving_in found) c.in-Good.ensures.judged in
    record {
      fits = omega (arith, room, read.within, c.in-Good.ensures.count, c.requires.before);
      counted = c.in-Good.ensures.count;
      few = omega (arith, judged_few gap p stamp (length whole) (read_of whole bytes) (serving_in found) judged, c.in-Good.ensures.count);
      copied = end_served gap whole bytes p stamp (serving_in found) judged c.copies_in.new.copies.items c.in-Ok-copies_in.ensures;
    }

pub returns-in-Ok-copies_in-clause-seen : goal.returns-in-Ok-copies_in-clause-seen
returns-in-Ok-copies_in-clause-seen g c j h jw =
    let M = g.M.Machine in
    let old = M.now c.args.m.now in
    let new = M.now c.read_record.new.m in
    let l = c.args.layout.now in let third = c.args.anchor.now.third in
    let stamp : Stamp = record { epoch = c.args.anchor.now.epoch; number = c.args.number } in
    let read = is_read g (goal.at.returns-in-Ok-copies_in-clause-seen g c).After-judge in
    let image = seen l third c.args.at c.args.end c.requires.first c.requires.before c.requires.from c.requires.ends old new (c.read_record.ensures.reads.worn h) (M.honest c.read_record.new.m) h c.place_of-place.result c.place_of-place.ensures c.pages-p.result stamp c.as_slice.result.now c.as_slice-bytes.result.now read j jw in
    record {
      image = image;
      from = seen_from l third c.args.at c.args.end c.requires.first c.requires.before c.requires.from c.requires.ends old new (c.read_record.ensures.reads.worn h) (M.honest c.read_record.new.m) h c.place_of-place.result c.place_of-place.ensures c.pages-p.result stamp c.as_slice.result.now c.as_slice-bytes.result.now read j jw;
      to = seen_to l third c.args.at c.args.end c.requires.first c.requires.before c.requires.from c.requires.ends old new (c.read_record.ensures.reads.worn h) (M.honest c.read_record.new.m) h c.place_of-place.result c.place_of-place.ensures c.pages-p.result stamp c.as_slice.result.now c.as_slice-bytes.result.now read j jw;
      below = seen_below l third c.args.at c.args.end c.requires.first c.requires.before c.requires.from c.requires.ends old new (c.read_record.ensures.reads.worn h) (M.honest c.read_record.new.m) h c.place_of-place.result c.place_of-place.ensures c.pages-p.result stamp c.as_slice.result.now c.as_slice-bytes.result.now read j jw;
      front = seen_front l third c.args.at c.args.end c.requires.first c.requires.before c.requires.from c.requires.ends old new (c.read_record.ensures.reads.worn h) (M.honest c.read_record.new.m) h c.place_of-place.result c.place_of-place.ensures c.pages-p.result stamp c.as_slice.result.now c.as_slice-bytes.result.now read j jw;
      is = (λ i. Some (record { number = c.args.number; pages = c.in-Good.found.pages.items; images = sym (images_served (gap_of c.args.layout.now) c.as_slice.result.now c.as_slice-bytes.result.now c.pages-p.result stamp (serving_in c.in-Good.found) (sym c.in-Good.ensures.judged) c.copies_in.new.copies.items c.in-Ok-copies_in.ensures) i }))
          ∙ judged_seen l third c.args.at c.args.end c.requires.first c.requires.before c.requires.from c.requires.ends old new (c.read_record.ensures.reads.worn h) (M.honest c.read_record.new.m) h c.place_of-place.result c.place_of-place.ensures c.pages-p.result stamp c.as_slice.result.now c.as_slice-bytes.result.now read j jw (Some (serving_in c.in-Good.found)) c.in-Good.ensures.judged
          ∙ ap (λ (p : ℕ). (record_in (gap_of c.args.layout.now) p stamp (room_at c.args.at c.args.end) (window (tape l third (reads image)) c.args.at (room_at c.args.at c.args.end)))) c.pages-p.ensures.value
          ∙ (sym (here_looks l c.args.anchor.now.epoch (tape l third (reads image)) c.args.number c.args.at c.args.end (omega (arith, c.if-number-eq-LAST_NUMBER.false))));
    }

pub returns-in-NotThere-clause-seen : goal.returns-in-NotThere-clause-seen
returns-in-NotThere-clause-seen g c j h jw =
    let M = g.M.Machine in
    let old = M.now c.args.m.now in
    let new = M.now c.read_record.new.m in
    let l = c.args.layout.now in let third = c.args.anchor.now.third in
    let stamp : Stamp = record { epoch = c.args.anchor.now.epoch; number = c.args.number } in
    let read = is_read g (goal.at.returns-in-NotThere-clause-seen g c).After-judge in
    let image = seen l third c.args.at c.args.end c.requires.first c.requires.before c.requires.from c.requires.ends old new (c.read_record.ensures.reads.worn h) (M.honest c.read_record.new.m) h c.place_of-place.result c.place_of-place.ensures c.pages-p.result stamp c.as_slice.result.now c.as_slice-bytes.result.now read j jw in
    record {
      image = image;
      from = seen_from l third c.args.at c.args.end c.requires.first c.requires.before c.requires.from c.requires.ends old new (c.read_record.ensures.reads.worn h) (M.honest c.read_record.new.m) h c.place_of-place.result c.place_of-place.ensures c.pages-p.result stamp c.as_slice.result.now c.as_slice-bytes.result.now read j jw;
      to = seen_to l third c.args.at c.args.end c.requires.first c.requires.before c.requires.from c.requires.ends old new (c.read_record.ensures.reads.worn h) (M.honest c.read_record.new.m) h c.place_of-place.result c.place_of-place.ensures c.pages-p.result stamp c.as_slice.result.now c.as_slice-bytes.result.now read j jw;
      below = seen_below l third c.args.at c.args.end c.requires.first c.requires.before c.requires.from c.requires.ends old new (c.read_record.ensures.reads.worn h) (M.honest c.read_record.new.m) h c.place_of-place.result c.place_of-place.ensures c.pages-p.result stamp c.as_slice.result.now c.as_slice-bytes.result.now read j jw;
      front = seen_front l third c.args.at c.args.end c.requires.first c.requires.before c.requires.from c.requires.ends old new (c.read_record.ensures.reads.worn h) (M.honest c.read_record.new.m) h c.place_of-place.result c.place_of-place.ensures c.pages-p.result stamp c.as_slice.result.now c.as_slice-bytes.result.now read j jw;
      is = judged_seen l third c.args.at c.args.end c.requires.first c.requires.before c.requires.from c.requires.ends old new (c.read_record.ensures.reads.worn h) (M.honest c.read_record.new.m) h c.place_of-place.result c.place_of-place.ensures c.pages-p.result stamp c.as_slice.result.now c.as_slice-bytes.result.now read j jw None c.in-NotThere.ensures.judged
          ∙ ap (λ (p : ℕ). (record_in (gap_of c.args.layout.now) p stamp (room_at c.args.at c.args.end) (window (tape l third (reads image)) c.args.at (room_at c.args.at c.args.end)))) c.pages-p.ensures.value
          ∙ (sym (here_looks l c.args.anchor.now.epoch (tape l third (reads image)) c.args.number c.args.at c.args.end (omega (arith, c.if-number-eq-LAST_NUMBER.false))));
    }

pub returns-then-number-eq-LAST_NUMBER-clause-seen : goal.returns-then-number-eq-LAST_NUMBER-clause-seen
returns-then-number-eq-LAST_NUMBER-clause-seen g c j h jw =
    let M = g.M.Machine in
    record {
      image = j;
      from = worn_refl (open_damage (M.now c.args.m.now).windows) j;
      to = jw;
      below = λ w lt. λ i. tape c.args.layout.now c.args.anchor.now.third (reads j) w;
      front = λ s lt. λ i. sector_at j s;
      is = (sym (here_last c.args.layout.now c.args.anchor.now.epoch (tape c.args.layout.now c.args.anchor.now.third (reads j)) c.args.number c.args.at c.args.end (omega (arith, c.if-number-eq-LAST_NUMBER.true))));
    }
