use Rattle.std.proofs.Common.{[], ℕ, ◌≡◌, ◌<◌, ◌≤◌, ◌+◌, ◌*◌, List, length, arith, subst, ap, ◌∙◌, sym, refl, Option, None, inl}
use Rattle.std.specs.Prelude.{option_map, IfSome, IfNone, replicate}
use Rattle.std.proofs.lemmas.List.{length-replicate, with_items_is}
use Rattle.std.specs.Vec.{with_items}
use Rattle.sector_disk.proofs.CallLaws.{reads_none, reads_then}
use Rattle.log_thirds.specs.declared.find.ScanStep.{ScanStep}
use Rattle.fsd_log.specs.declared.slot.Slot.{Slot}
use Rattle.fsd_log.specs.Scan.{Head, tape, scan, next, last_number}
use Rattle.log_thirds.specs.Disk.{reads}
use Rattle.fsd_log.specs.Slots.{noted_slots, slots_with, LieInRecords, SlotsInside}
use Rattle.log_thirds.specs.Reading.{StepsOn, stepped_in, stepped_of}
use Rattle.volume_layout.proofs.RootLaws.{planned_bounds}
use Rattle.volume_layout.specs.Kinds.{gap_of}
use Rattle.fsd_log.proofs.SlotLaws.{length-noted, none_inside, none_lie, record_inside, record_lies}
use Rattle.log_thirds.specs.Copies.{FitsDisk, AreCopies, AreLastCopies, copies_count}
use Rattle.fsd_log.proofs.PlaceLaws.{InThird, place_inside, end_most}
use Rattle.log_thirds.proofs.ScanLaws.{Reaches, EndsThere, reaches_start, reaches_as, reaches_on, reaches_end}
use Rattle.log_thirds.specs.Firsts.{AreNumbers, firsts_of, firsts_with}
use Rattle.log_thirds.proofs.FirstsLaws.{numbers_more}
use Rattle.sector_disk.specs.declared.sector.Sector.{Sector}
use Rattle.sector_disk.specs.Image.{Windows, IsWorn, open_damage}
use Rattle.sector_disk.proofs.Wear.{worn_refl}
use Rattle.log_thirds.specs.Seen.{SeesOn}
use Rattle.log_thirds.proofs.SeenLaws.{sees_on, reaches_keeps, tape_worn}
use Rattle.log_thirds.proofs.thirds.Log.scan_into.Given as given
use Rattle.log_thirds.proofs.thirds.Log.scan_into.Goals.{After-place_of-place}
use Rattle.log_thirds.proofs.thirds.Log.scan_into.Goals as goal

pub loop-from-init : goal.loop-from-init
loop-from-init g c =
    let M = g.M.Machine in
    let value = c.third-third.ensures.value in
    let same : ◌≡◌ {A = Head} (record { number = c.args.anchor.now.first; at = 0; end = c.args.layout.now.third }) (record { number = c.args.anchor.now.first; at = 0; end = c.third-third.result }) = λ i. record { number = c.args.anchor.now.first; at = 0; end = sym value i } in
    let table : c.args.slots.items ≡ replicate {A = Option Slot} c.args.layout.now.pages None = c.requires.slots in
    let start_on : (i : List Sector) → Reaches c.args.layout.now c.args.anchor.now.epoch c.args.anchor.now.first c.args.anchor.now.third (tape c.args.layout.now c.args.anchor.now.third (reads i)) (record { number = c.args.anchor.now.first; at = 0; end = c.third-third.result }) c.of-firsts.result c.args.slots.items (record { place = 0; bytes = c.args.scratch.copies.items }) =
    λ i. subst (λ (b : List ℕ). Reaches c.args.layout.now c.args.anchor.now.epoch c.args.anchor.now.first c.args.anchor.now.third (tape c.args.layout.now c.args.anchor.now.third (reads i)) (record { number = c.args.anchor.now.first; at = 0; end = c.third-third.result }) c.of-firsts.result c.args.slots.items (record { place = 0; bytes = b })) (sym c.requires.copies)
    (reaches_as _ _ _ _ _ _ _ _ _ _ _ c.of-firsts.ensures table
    (subst (λ (x : Head). Reaches c.args.layout.now c.args.anchor.now.epoch c.args.anchor.now.first c.args.anchor.now.third (tape c.args.layout.now c.args.anchor.now.third (reads i)) x (firsts_of c.args.anchor.now.first) (replicate c.args.layout.now.pages None) (record { place = 0; bytes = [] })) same
    (reaches_start c.args.layout.now c.args.anchor.now.epoch c.args.anchor.now.first c.args.anchor.now.third (tape c.args.layout.now c.args.anchor.now.third (reads i)) c.args.layout.now.pages 0))) in
    record {
      is_in = record { before = omega arith; from = omega (arith, value); ends = inl value };
      calls = reads_none c.args.m.now (λ l h left. g.met.M.Machine.only_now c.args.m.now l h left);
      numbers = subst (AreNumbers c.args.anchor.now.first) (sym c.of-firsts.ensures) (record { some = c.requires.first; in_order = omega arith; most = omega arith });
      table = ap length table ∙ length-replicate c.args.layout.now.pages _;
      on_disk = subst (SlotsInside c.args.layout.now.sectors) (sym table) (none_inside c.args.layout.now.sectors c.args.layout.now.pages);
      in_records = subst (LieInRecords c.args.layout.now) (sym table) (none_lie c.args.layout.now c.args.layout.now.pages);
      fits = subst (λ (b : List ℕ). FitsDisk c.args.layout.now.sectors (record { place = 0; bytes = b })) (sym c.requires.copies) (record { whole = refl; inside = omega arith });
      few = subst (λ (b : List ℕ). copies_count (record { place = 0; bytes = b }) ≤ 97) (sym c.requires.copies) (omega arith);
      seen = λ j h jw. record { image = j; from = worn_refl (open_damage (M.now c.args.m.now).windows) j; to = jw; below = λ w lt. refl; front = λ s lt. refl; is = start_on j };
    }

-- ---- a step to a record that was found

stepped : (g : given.Over) (c : After-place_of-place g) → StepsOn c.args.layout.now c.loop-from.at c.in-Ok-Some.field-0-0
stepped g c = subst (λ (o : Option ScanStep). IfSome o (StepsOn c.args.layout.now c.loop-from.at)) c.in-Ok-Some.field-0-is c.in-Ok-Some.ensures.goes

numbered : (g : given.Over) (c : After-place_of-place g) → c.loop-from.number < last_number
numbered g c = subst (λ (o : Option ScanStep). IfSome o (λ _. c.loop-from.number < last_number)) c.in-Ok-Some.field-0-is c.in-Ok-Some.ensures.numbered

lies : (g : given.Over) (c : After-place_of-place g) → InThird c.args.layout.now c.args.anchor.now.third c.in-Ok-Some.field-0-0.from (2 * length c.in-Ok-Some.field-0-0.found.pages.items + (5 + 2 * (gap_of c.args.layout.now))) c.in-Ok-Some.field-0-0.past.end
lies g c = let gone = stepped g c in record { one_of = c.requires.third; ends = gone.goes.ends; from = gone.in_third; to = omega (arith, gone.lies, gone.goes.before) }

placed : (g : given.Over) (c : After-place_of-place g) → c.place_of-place.result + (2 * length c.in-Ok-Some.field-0-0.found.pages.items + (5 + 2 * (gap_of c.args.layout.now))) ≤ 16 + 3 * 4096
placed g c =
    let from : ℕ = c.in-Ok-Some.field-0-0.from in
    let count : ℕ = 2 * length c.in-Ok-Some.field-0-0.found.pages.items + (5 + 2 * (gap_of c.args.layout.now)) in
    omega (arith, place_inside c.args.layout.now c.args.anchor.now.third from count c.in-Ok-Some.field-0-0.past.end (lies g c) (omega arith), c.place_of-place.ensures, c.third-third.ensures.most, c.third-third.ensures.value)

pub place_of-place-requires-clause-at : goal.place_of-place-requires-clause-at
place_of-place-requires-clause-at g c =
    let gone = subst (λ (o : Option ScanStep). IfSome o (StepsOn c.args.layout.now c.loop-from.at)) c.in-Ok-Some.field-0-is c.in-Ok-Some.ensures.goes in
    omega (arith, gone.lies, gone.goes.before, end_most c.args.layout.now c.in-Ok-Some.field-0-0.past.end gone.goes.ends)

pub copies_place-copies_at-requires : goal.copies_place-copies_at-requires
copies_place-copies_at-requires g c = omega (arith, placed g (goal.at.copies_place-copies_at-requires g c).After-place_of-place, c.len.ensures.value)

pub note-requires : goal.note-requires
note-requires g c = omega (arith, placed g (goal.at.note-requires g c).After-place_of-place, ap length c.as_slice-pages.ensures.value)

pub overflow_add-number : goal.overflow_add-number
overflow_add-number g c = omega (arith, numbered g (goal.at.overflow_add-number g c).After-place_of-place)

pub with-firsts-requires : goal.with-firsts-requires
with-firsts-requires g c =
    let numbers = c.loop-from.invariant.numbers in
    let below = numbered g (goal.at.with-firsts-requires g c).After-place_of-place in
    record { second = omega (arith, below, numbers.in_order, numbers.most); last = omega (arith, below, numbers.most); third = omega (arith, c.third-third.ensures.most) }

pub loop-from-smaller : goal.loop-from-smaller
loop-from-smaller g c =
    let gone = stepped g (goal.at.loop-from-smaller g c).After-place_of-place in
    omega (arith, gone.goes.on, gone.goes.before, end_most c.args.layout.now c.in-Ok-Some.field-0-0.past.end gone.goes.ends)

pub loop-from-preserved : goal.loop-from-preserved
loop-from-preserved g c =
    let M = g.M.Machine in
    let so_far = c.loop-from.invariant in
    let back = c.next.ensures.reads.trust.honest in
    let p = (goal.at.loop-from-preserved g c).After-place_of-place in
    let gone = stepped g p in
    let in_third : InThird c.args.layout.now c.args.anchor.now.third c.in-Ok-Some.field-0-0.from (2 * length c.as_slice-pages.result.now + (5 + 2 * (gap_of c.args.layout.now))) c.in-Ok-Some.field-0-0.past.end =
    subst (λ (pages : List ℕ). InThird c.args.layout.now c.args.anchor.now.third c.in-Ok-Some.field-0-0.from (2 * length pages + (5 + 2 * (gap_of c.args.layout.now))) c.in-Ok-Some.field-0-0.past.end) (sym c.as_slice-pages.ensures.value) (lies g p) in
    let copied = subst (λ (o : Option ScanStep). IfSome o (λ s. AreCopies (record { epoch = c.args.anchor.now.epoch; number = c.loop-from.number }) (length s.found.pages.items) c.next.new.scratch.copies.items)) c.in-Ok-Some.field-0-is c.in-Ok-Some.ensures.copied in
    let long : length c.note.new.slots ≡ length c.as_mut_slice.result.now =
    ap length c.note.ensures ∙ length-noted c.loop-from.number c.as_mut_slice.result.now (c.place_of-place.result + 3 + (gap_of c.args.layout.now)) (c.place_of-place.result + 3 + (gap_of c.args.layout.now) + length c.as_slice-pages.result.now + 1 + (gap_of c.args.layout.now)) c.as_slice-pages.result.now in
    let kept : (with_items c.loop-from.slots c.note.new.slots).items ≡ c.note.new.slots = with_items_is c.loop-from.slots c.note.new.slots (long ∙ c.as_mut_slice.ensures.len) in
    let table : c.note.new.slots ≡ slots_with c.args.layout.now c.args.anchor.now.third c.loop-from.number c.in-Ok-Some.field-0-0.from c.in-Ok-Some.field-0-0.found.pages.items c.loop-from.slots.items =
    c.note.ensures ∙ λ i. noted_slots c.loop-from.number (c.place_of-place.ensures i + 3 + (gap_of c.args.layout.now)) (c.place_of-place.ensures i + 3 + (gap_of c.args.layout.now) + length (c.as_slice-pages.ensures.value i) + 1 + (gap_of c.args.layout.now)) (c.as_slice-pages.ensures.value i) (c.as_mut_slice.ensures.value i) in
    let firsts = c.with-firsts.ensures ∙ ap (λ (t : ℕ). firsts_with t c.in-Ok-Some.field-0-0.from c.loop-from.firsts) c.third-third.ensures.value in
    record {
      is_in = record { before = gone.goes.before; from = gone.goes.after; ends = gone.goes.ends };
      calls = reads_then {fault = None} so_far.calls c.in-Ok-Some.ensures.reads;
      numbers = subst (AreNumbers (c.loop-from.number + 1)) (sym c.with-firsts.ensures) (numbers_more c.third-third.result c.loop-from.number c.in-Ok-Some.field-0-0.from c.loop-from.firsts so_far.numbers);
      table = ap length kept ∙ long ∙ ap length c.as_mut_slice.ensures.value ∙ so_far.table;
      on_disk = subst (SlotsInside c.args.layout.now.sectors) (sym (kept ∙ c.note.ensures))
          (record_inside c.args.layout.now c.args.anchor.now.third c.loop-from.number c.in-Ok-Some.field-0-0.from c.in-Ok-Some.field-0-0.past.end c.place_of-place.result c.as_slice-pages.result.now c.as_mut_slice.result.now
          in_third (omega (arith, (planned_bounds c.args.layout.now c.third-third.ensures.planned).sectors_least)) c.place_of-place.ensures (subst (SlotsInside c.args.layout.now.sectors) (sym c.as_mut_slice.ensures.value) so_far.on_disk));
      in_records = subst (LieInRecords c.args.layout.now) (sym (kept ∙ c.note.ensures))
          (record_lies c.args.layout.now c.args.anchor.now.third c.loop-from.number c.in-Ok-Some.field-0-0.from c.in-Ok-Some.field-0-0.past.end c.place_of-place.result c.as_slice-pages.result.now c.as_mut_slice.result.now
          in_third c.place_of-place.ensures (subst (LieInRecords c.args.layout.now) (sym c.as_mut_slice.ensures.value) so_far.in_records));
      fits = record {
        whole = omega (arith, copied.long);
        inside = omega (
          arith,
          copied.long,
          place_inside c.args.layout.now c.args.anchor.now.third c.in-Ok-Some.field-0-0.from (2 * length c.in-Ok-Some.field-0-0.found.pages.items + (5 + 2 * (gap_of c.args.layout.now))) c.in-Ok-Some.field-0-0.past.end (lies g p) (omega arith),
          c.place_of-place.ensures,
          c.copies_place-copies_at.ensures,
          c.len.ensures.value,
          (planned_bounds c.args.layout.now c.third-third.ensures.planned).sectors_least,
        );
      };
      few = omega (arith, copied.long, gone.few);
      seen = λ j h jw.
          let same = (so_far.calls.worn (back h)).windows in
          let first = so_far.seen j (back h) jw in
          let to_mid = subst (λ (w : Windows). IsWorn (open_damage w) first.image (M.now c.loop-from.m).image) (sym same) first.to in
          let second = subst (λ (w : Windows). SeesOn c.args.layout.now c.args.anchor.now.third c.loop-from.at (open_damage w) first.image (M.now c.next.new.m).image
          (λ i. option_map (stepped_in c.loop-from.number c.next.new.scratch.copies.items) c.in-Ok-Some.field-0 ≡ option_map stepped_of (next c.args.layout.now c.args.anchor.now.epoch (tape c.args.layout.now c.args.anchor.now.third (reads i)) (record { number = c.loop-from.number; at = c.loop-from.at; end = c.loop-from.end })))) same (c.in-Ok-Some.ensures.seen first.image h to_mid) in
          sees_on c.args.layout.now c.args.anchor.now.third 0 c.loop-from.at (open_damage (M.now c.args.m.now).windows) j (M.now c.loop-from.m).image (M.now c.next.new.m).image _ _ _ (omega arith) first second
          (λ i k worn below before step.
          reaches_as _ _ _ _ _ _ _ _ _ _ _ firsts (kept ∙ table)
          (reaches_on c.args.layout.now c.args.anchor.now.epoch c.args.anchor.now.first c.args.anchor.now.third (tape c.args.layout.now c.args.anchor.now.third (reads k)) (record { number = c.loop-from.number; at = c.loop-from.at; end = c.loop-from.end }) c.loop-from.firsts c.loop-from.slots.items (stepped_in c.loop-from.number c.next.new.scratch.copies.items c.in-Ok-Some.field-0-0) (record { place = c.loop-from.copies_at; bytes = c.loop-from.scratch.copies.items }) (record { place = c.copies_place-copies_at.result; bytes = c.next.new.scratch.copies.items })
          (reaches_keeps c.args.layout.now c.args.anchor.now.epoch c.args.anchor.now.first c.args.anchor.now.third (omega (arith, c.fits-anchor.0.1)) (tape c.args.layout.now c.args.anchor.now.third (reads i)) (tape c.args.layout.now c.args.anchor.now.third (reads k)) (record { number = c.loop-from.number; at = c.loop-from.at; end = c.loop-from.end }) c.loop-from.firsts c.loop-from.slots.items (record { place = c.loop-from.copies_at; bytes = c.loop-from.scratch.copies.items }) (omega (arith, c.loop-from.auto.number-fits))
          (tape_worn c.args.layout.now c.args.anchor.now.third (open_damage (M.now c.args.m.now).windows) i k worn) below before)
          (record { place = c.copies_place-copies_at.ensures ∙ λ i. c.place_of-place.ensures i + (4 + 2 * (gap_of c.args.layout.now) + c.len.ensures.value i); copies = copied; images = refl })
          (ap (option_map (stepped_in c.loop-from.number c.next.new.scratch.copies.items)) (sym c.in-Ok-Some.field-0-is) ∙ step)));
    }

pub invariant_of-result : goal.invariant_of-result
invariant_of-result g c =
    let so_far = c.loop-from.invariant in
    let kept = subst (λ (o : Option ScanStep). IfNone o (c.next.new.scratch.copies ≡ c.loop-from.scratch.copies)) c.in-Ok-None.field-0-is c.in-Ok-None.ensures.kept in
    let same : c.loop-from.scratch.copies.items ≡ c.next.new.scratch.copies.items = λ i. (sym kept i).items in
    record {
      least = omega (arith, c.third-third.ensures.least, c.third-third.ensures.value);
      most = omega (arith, c.third-third.ensures.most, c.third-third.ensures.value);
      inside = omega (arith, (planned_bounds c.args.layout.now c.third-third.ensures.planned).sectors_least);
      third = c.requires.third;
      begun = c.requires.epoch;
      opens = c.requires.first;
      is_in = so_far.is_in;
      numbers = so_far.numbers;
      table = so_far.table;
      on_disk = so_far.on_disk;
      in_records = so_far.in_records;
      copied = subst (λ (b : List ℕ). FitsDisk c.args.layout.now.sectors (record { place = c.loop-from.copies_at; bytes = b })) same so_far.fits;
      few = subst (λ (b : List ℕ). copies_count (record { place = c.loop-from.copies_at; bytes = b }) ≤ 97) same so_far.few;
      long = c.requires.long;
    }

pub returns-in-Ok-None-clause-reads : goal.returns-in-Ok-None-clause-reads
returns-in-Ok-None-clause-reads g c = reads_then c.loop-from.invariant.calls c.in-Ok-None.ensures.reads

pub returns-in-Err-clause-reads : goal.returns-in-Err-clause-reads
returns-in-Err-clause-reads g c = reads_then c.loop-from.invariant.calls c.in-Err.ensures.reads

pub returns-in-Ok-None-clause-seen : goal.returns-in-Ok-None-clause-seen
returns-in-Ok-None-clause-seen g c j h jw =
    let M = g.M.Machine in
    let so_far = c.loop-from.invariant in
    let back = c.next.ensures.reads.trust.honest in
    let same = (so_far.calls.worn (back h)).windows in
    let first = so_far.seen j (back h) jw in
    let to_mid = subst (λ (w : Windows). IsWorn (open_damage w) first.image (M.now c.loop-from.m).image) (sym same) first.to in
    let second = subst (λ (w : Windows). SeesOn c.args.layout.now c.args.anchor.now.third c.loop-from.at (open_damage w) first.image (M.now c.next.new.m).image
    (λ i. option_map (stepped_in c.loop-from.number c.next.new.scratch.copies.items) c.in-Ok-None.field-0 ≡ option_map stepped_of (next c.args.layout.now c.args.anchor.now.epoch (tape c.args.layout.now c.args.anchor.now.third (reads i)) (record { number = c.loop-from.number; at = c.loop-from.at; end = c.loop-from.end })))) same (c.in-Ok-None.ensures.seen first.image h to_mid) in
    let ends = sees_on c.args.layout.now c.args.anchor.now.third 0 c.loop-from.at (open_damage (M.now c.args.m.now).windows) j (M.now c.loop-from.m).image (M.now c.next.new.m).image _ _
    (λ k. EndsThere c.args.layout.now c.args.anchor.now.epoch c.args.anchor.now.first c.args.anchor.now.third (tape c.args.layout.now c.args.anchor.now.third (reads k)) (record { number = c.loop-from.number; at = c.loop-from.at; end = c.loop-from.end }) c.loop-from.firsts c.loop-from.slots.items (record { place = c.loop-from.copies_at; bytes = c.loop-from.scratch.copies.items })) (omega arith) first second
    (λ i k worn below before step.
    reaches_end c.args.layout.now c.args.anchor.now.epoch c.args.anchor.now.first c.args.anchor.now.third (tape c.args.layout.now c.args.anchor.now.third (reads k)) (record { number = c.loop-from.number; at = c.loop-from.at; end = c.loop-from.end }) c.loop-from.firsts c.loop-from.slots.items (record { place = c.loop-from.copies_at; bytes = c.loop-from.scratch.copies.items })
    (reaches_keeps c.args.layout.now c.args.anchor.now.epoch c.args.anchor.now.first c.args.anchor.now.third (omega (arith, c.fits-anchor.0.1)) (tape c.args.layout.now c.args.anchor.now.third (reads i)) (tape c.args.layout.now c.args.anchor.now.third (reads k)) (record { number = c.loop-from.number; at = c.loop-from.at; end = c.loop-from.end }) c.loop-from.firsts c.loop-from.slots.items (record { place = c.loop-from.copies_at; bytes = c.loop-from.scratch.copies.items }) (omega (arith, c.loop-from.auto.number-fits))
    (tape_worn c.args.layout.now c.args.anchor.now.third (open_damage (M.now c.args.m.now).windows) i k worn) below before)
    (ap (option_map (stepped_in c.loop-from.number c.next.new.scratch.copies.items)) (sym c.in-Ok-None.field-0-is) ∙ step)) in
    let kept = subst (λ (o : Option ScanStep). IfNone o (c.next.new.scratch.copies ≡ c.loop-from.scratch.copies)) c.in-Ok-None.field-0-is c.in-Ok-None.ensures.kept in
    let same_copies : c.loop-from.scratch.copies.items ≡ c.next.new.scratch.copies.items = λ i. (sym kept i).items in
    let last = subst (λ (b : List ℕ). AreLastCopies c.args.layout.now c.args.anchor.now.epoch c.args.anchor.now.third (scan c.args.layout.now c.args.anchor.now.epoch (tape c.args.layout.now c.args.anchor.now.third (reads ends.image)) c.args.anchor.now.first).records (record { place = c.loop-from.copies_at; bytes = b })) same_copies ends.is.last in
    record { image = ends.image; from = ends.from; to = ends.to; front = ends.front; scanned = record { head = ends.is.head; indexed = record { slots = ends.is.are; firsts = ends.is.firsts }; last = last } }
