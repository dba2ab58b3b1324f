use Rattle.std.proofs.Common.{◌≡◌, ◌+◌, ◌*◌, ◌<◌, ◌≤◌, ◌^◌, ℕ, List, Option, None, length, arith, subst, ap, ◌∙◌, sym, rules, refl, [], ◌∷◌, ◌++◌}
use Rattle.sector_disk.specs.Image.{stand}
use Rattle.sector_disk.specs.declared.machine.Machine.{Ghosts}
use Rattle.sector_disk.specs.Calls.{WritesDisk}
use Rattle.sector_disk.specs.Machine.{Holds, LeavesOnly}
use Rattle.sector_disk.proofs.Moments.{leaves_more}
use Rattle.fsd_formats.specs.Record.{Stamp, record_len}
use Rattle.fsd_log.specs.Laid.{laid_bytes}
use Rattle.fsd_log.specs.Scan.{IsIn, IsEnd, Placed, spot_for, place_of}
use Rattle.log_thirds.specs.LogValue.{FitsLayout, LogValue}
use Rattle.std.proofs.lemmas.Result.{err_from_is_err_and}
use Rattle.log_thirds.specs.Append.{AppendsWorn, StandsInPart, IsLogWorn, stamp_now, next_record, log_with, IsIndexed}
use Rattle.fsd_log.specs.Slots.{noted_slots, LieInRecords, SlotsInside}
use Rattle.log_thirds.specs.Firsts.{firsts_with, AreNumbers}
use Rattle.log_thirds.proofs.FirstsLaws.{firsts_more, numbers_more}
use Rattle.fsd_log.proofs.SlotLaws.{length-noted, slots_more, record_inside, record_lies}
use Rattle.std.specs.List.{AllByRecursion}
use Rattle.std.specs.Vec.{with_items}
use Rattle.std.proofs.lemmas.List.{with_items_is}
use Rattle.volume_layout.specs.Kinds.{gap_of}
use Rattle.log_thirds.proofs.MomentLaws.{MayAppend, all_small, write_inside, spots, in_third}
use Rattle.log_thirds.proofs.WornMomentLaws.{worn_appends, worn_appended}
use Rattle.log_thirds.proofs.thirds.Log.append.Given as given
use Rattle.log_thirds.proofs.thirds.Log.append.Goals.{After-note, After-place-place}
use Rattle.log_thirds.proofs.thirds.Log.append.Goals as goal

-- ---- the log takes the record, whatever the disk shows

inside : (g : given.Over) (c : After-place-place g) → 16 + 3 * c.args.self.now.layout.third ≤ c.args.self.now.layout.sectors
inside g c = subst (λ (x : LogValue). 16 + 3 * x.layout.third ≤ x.layout.sectors) c.self.view_is c.self.invariant.inside

place_is : (g : given.Over) (c : After-place-place g)
    → c.place-place.result ≡ place_of c.args.self.now.layout c.args.self.now.anchor.third (spot_for c.args.self.now.layout (length c.args.pages.now) c.args.self.now.head).at
place_is g c = c.place-place.ensures ∙ ap (place_of c.args.self.now.layout c.args.self.now.anchor.third) c.spot-at.ensures.at

may : (g : given.Over) (c : After-place-place g) (long : ℕ) → AllByRecursion (λ n. n < 2 ^ 32) c.args.pages.now → 16 + 3 * c.args.self.now.layout.third ≤ long → MayAppend c.args.self.now c.args.pages.now c.args.images.now long
may g c long small sized =
    let was = c.self.invariant in
    let epoch : c.self.inside.anchor.epoch < 2 ^ 32 = search rules in
    record {
      least = subst (λ (x : LogValue). 200 ≤ x.layout.third) c.self.view_is was.least;
      one_of = subst (λ (x : LogValue). x.anchor.third ≤ 2) c.self.view_is was.third;
      is_in = subst (λ (x : LogValue). IsIn x.layout x.head) c.self.view_is was.is_in;
      epoch = subst (λ (x : LogValue). x.anchor.epoch < 2 ^ 32) c.self.view_is epoch;
      number = c.requires.numbered;
      accepted = c.requires.pages;
      small = small;
      bytes = c.requires.images;
      stamped = c.requires.stamped;
      room = c.requires.room;
      sized = sized;
    }

may_now : (g : given.Over) (c : After-place-place g) → AllByRecursion (λ n. n < 2 ^ 32) c.args.pages.now → g.M.Machine.honest c.args.m.now → MayAppend c.args.self.now c.args.pages.now c.args.images.now (length (g.M.Machine.now c.args.m.now).image)
may_now g c small h = may g c (length (g.M.Machine.now c.args.m.now).image) small (omega (arith, inside g c, c.requires.sectors, g.met.M.Machine.sized c.args.m.now h))

shape : (g : given.Over) (c : After-place-place g) → FitsLayout c.args.self.now
shape g c =
    let was = c.self.invariant in
    subst FitsLayout c.self.view_is (record {
      least = was.least;
      inside = was.inside;
      third = was.third;
      is_in = was.is_in;
      begun = was.begun;
      epoch = search rules;
      number = search rules;
      numbers = was.numbers;
      pages = search rules;
      table = was.table;
    })

-- ---- what is written, by the log's own words for where, under which stamp and with which gap

gap_is : (g : given.Over) (c : After-place-place g) → gap_of c.self.inside.layout ≡ gap_of c.args.self.now.layout
gap_is g c = ap (λ (x : LogValue). gap_of x.layout) c.self.view_is

written_at : (g : given.Over) (c : After-place-place g)
    → ◌≡◌ {A = ℕ × (Stamp × ℕ)} (c.place-place.result, (record { epoch = c.self.inside.anchor.epoch; number = c.self.inside.number }, gap_of c.self.inside.layout))
    (place_of c.args.self.now.layout c.args.self.now.anchor.third (spot_for c.args.self.now.layout (length c.args.pages.now) c.args.self.now.head).at, (stamp_now c.args.self.now, gap_of c.args.self.now.layout))
written_at g c = λ i. (place_is g c i, (stamp_now (c.self.view_is i), gap_is g c i))

module _ {D : Type 0} (M : Ghosts D) (old new : D) (pages images : List ℕ) where
  written : (fault : Option ℕ) (was is : ℕ × (Stamp × ℕ)) → was ≡ is → WritesDisk M fault (StandsInPart was.0 (laid_bytes was.1.1 was.1.0 pages images) (record_len was.1.1 (length pages))) old new → WritesDisk M fault (StandsInPart is.0 (laid_bytes is.1.1 is.1.0 pages images) (record_len is.1.1 (length pages))) old new
  written fault was is same writes = subst (λ (at : ℕ × (Stamp × ℕ)). WritesDisk M fault (StandsInPart at.0 (laid_bytes at.1.1 at.1.0 pages images) (record_len at.1.1 (length pages))) old new) same writes

  module _ (log : LogValue) (fault : Option ℕ)
      (writes : WritesDisk M fault (StandsInPart (place_of log.layout log.anchor.third (spot_for log.layout (length pages) log.head).at) (laid_bytes (gap_of log.layout) (stamp_now log) pages images) (record_len (gap_of log.layout) (length pages))) old new)
      (may : M.honest old → MayAppend log pages images (length (M.now old).image)) (records : List Placed) (h : M.honest new) (is_log : IsLogWorn log records (M.now old)) where
    any_moment : LeavesOnly M.moment M.left_since old new (AppendsWorn log records pages images (M.now old))
    any_moment =
        leaves_more M.moment M.left_since old new _ _ (λ left part. worn_appends log pages images (length (M.now old).image) (may (writes.trust.honest h)) (M.now old) refl records is_log left part) (writes.any_moment h)

-- the table of slots has the record's
slots_noted : (g : given.Over) (c : After-note g) → (with_items c.self.inside.slots c.note.new.slots).items ≡ noted_slots c.self.inside.number (c.place-place.result + 3 + (gap_of c.self.inside.layout)) (c.place-place.result + 3 + (gap_of c.self.inside.layout) + length c.args.pages.now + 1 + (gap_of c.self.inside.layout)) c.args.pages.now c.self.inside.slots.items
slots_noted g c =
    let held = c.as_mut_slice-2.ensures in
    let number : ℕ = c.self.inside.number in
    let place : ℕ = c.place-place.result + 3 + (gap_of c.self.inside.layout) in
    let copy : ℕ = place + length c.args.pages.now + 1 + (gap_of c.self.inside.layout) in
    let long : length c.note.new.slots ≡ length c.as_mut_slice-2.result.now = ap length c.note.ensures ∙ length-noted number c.as_mut_slice-2.result.now place copy c.args.pages.now in
    with_items_is c.self.inside.slots c.note.new.slots (long ∙ held.len) ∙ c.note.ensures ∙ ap (noted_slots number place copy c.args.pages.now) held.value

pub write_record-requires-clause-in_range : goal.write_record-requires-clause-in_range
write_record-requires-clause-in_range g c =
    let log = c.args.self.now in
    let p = (goal.at.write_record-requires-clause-in_range g c).After-place-place in
    let may = may g p (16 + 3 * log.layout.third) (all_small c.args.pages.now (λ k. omega (arith, c.type_inv.pages k))) (omega arith) in
    omega (arith, write_inside log c.args.pages.now c.args.images.now (16 + 3 * log.layout.third) may, inside g p, place_is g p, gap_is g p, c.requires.sectors)

pub note-requires : goal.note-requires
note-requires g c =
    let log = c.args.self.now in
    let p = (goal.at.note-requires g c).After-place-place in
    let may = may g p (16 + 3 * log.layout.third) (all_small c.args.pages.now (λ k. omega (arith, c.type_inv.pages k))) (omega arith) in
    omega (arith, write_inside log c.args.pages.now c.args.images.now (16 + 3 * log.layout.third) may, inside g p, place_is g p, gap_is g p, c.requires.sectors, g.met.M.Machine.small c.args.m.now)

pub returns-in_err-write_record : goal.returns-in_err-write_record
returns-in_err-write_record g c =
    let M = g.M.Machine in
    let log = c.args.self.now in
    let p = (goal.at.returns-in_err-write_record g c).After-place-place in
    let failed = c.in_err-write_record.ensures in
    let small = all_small c.args.pages.now (λ k. omega (arith, c.type_inv.pages k)) in
    let told = err_from_is_err_and c.from_residual.result c.from_residual.ensures.1 in
    let writes = written M c.args.m.now c.write_record.new.m c.args.pages.now c.args.images.now _ _ _ (written_at g p) failed.writes in
    rw (told.1, told.2) (record {
      writes = writes;
      worn_moment = any_moment M c.args.m.now c.write_record.new.m c.args.pages.now c.args.images.now log _ writes (may_now g p small);
      shape = shape g p;
      done = tt;
      failed = record { kept = c.self.view_is; counted = failed.counted_err };
    })

pub returns : goal.returns
returns g c =
    let M = g.M.Machine in
    let log = c.args.self.now in
    let pages = c.args.pages.now in
    let old = M.now c.args.m.now in
    let new = M.now c.write_record.new.m in
    let p = (goal.at.returns g c).After-place-place in
    let wrote = c.in_ok-write_record.ensures in
    let small = all_small pages (λ k. omega (arith, c.type_inv.pages k)) in
    let place = place_is g p in
    let writes = written M c.args.m.now c.write_record.new.m pages c.args.images.now None _ _ (written_at g p) wrote.writes in
    let stands : M.honest c.write_record.new.m → Holds old (stand old.image (place_of log.layout log.anchor.third (spot_for log.layout (length pages) log.head).at) (laid_bytes (gap_of c.args.self.now.layout) (stamp_now log) pages c.args.images.now) (record_len (gap_of c.args.self.now.layout) (length pages))) new =
    λ h. subst (λ (at : ℕ × (Stamp × ℕ)). Holds old (stand old.image at.0 (laid_bytes at.1.1 at.1.0 pages c.args.images.now) (record_len at.1.1 (length pages))) new) (written_at g p) (wrote.done h) in
    let number : c.self.inside.number ≡ log.head.number = ap (λ (x : LogValue). x.head.number) c.self.view_is in
    let slots : (with_items c.self.inside.slots c.note.new.slots).items ≡ (log_with log pages).slots =
    slots_noted g (goal.at.returns g c).After-note ∙ λ i. noted_slots (number i) (place i + 3 + gap_of (c.self.view_is i).layout) (place i + 3 + gap_of (c.self.view_is i).layout + length pages + 1 + gap_of (c.self.view_is i).layout) pages (c.self.view_is i).slots in
    let sectors : c.record_sectors.result ≡ record_len (gap_of log.layout) (length pages) = c.record_sectors.ensures ∙ ap (λ (gap : ℕ). record_len gap (length pages)) (gap_is g p) in
    let firsts : c.with-self-inside.result ≡ firsts_with log.layout.third (spot_for log.layout (length pages) log.head).at log.firsts =
    c.with-self-inside.ensures ∙ λ i. firsts_with ((c.third.ensures.value ∙ ap (λ (x : LogValue). x.layout.third) c.self.view_is) i) (c.spot-at.ensures.at i) (c.self.view_is i).firsts in
    let same : ◌≡◌ {A = LogValue} (record { layout = c.self.inside.layout; anchor = c.self.inside.anchor; head = record { number = c.self.inside.number + 1; at = c.spot-at.result.0 + c.record_sectors.result; end = c.spot-at.result.1 }; firsts = c.with-self-inside.result; slots = (with_items c.self.inside.slots c.note.new.slots).items; copies = record { place = c.self.inside.copies_at; bytes = c.self.inside.copies.items } }) (log_with log pages) =
    λ i. record { layout = (c.self.view_is i).layout; anchor = (c.self.view_is i).anchor; head = record { number = (c.self.view_is i).head.number + 1; at = c.spot-at.ensures.at i + sectors i; end = c.spot-at.ensures.end i }; firsts = firsts i; slots = slots i; copies = (c.self.view_is i).copies } in
    record {
      writes = writes;
      worn_moment = any_moment M c.args.m.now c.write_record.new.m pages c.args.images.now log None writes (may_now g p small);
      shape = shape g p;
      done = record {
        past = same;
        counted = subst (λ (gap : ℕ). M.tells c.write_record.new.m → M.ledger c.write_record.new.m ≡ Rattle.sector_disk.specs.Machine.wrote (M.ledger c.args.m.now) (record_len gap (length pages))) (gap_is g p) wrote.counted;
        stands = stands;
        worn = λ records h narrow is_log. subst (λ (x : LogValue). IsLogWorn x (records ++ next_record log pages c.args.images.now ∷ []) new) (sym same)
            (worn_appended log pages c.args.images.now (length old.image) (may_now g p small (writes.trust.honest h)) old refl records is_log new narrow (stands h));
        indexed = λ records are. subst (λ (x : LogValue). IsIndexed x (records ++ next_record log pages c.args.images.now ∷ [])) (sym same)
            (record {
              slots = slots_more log.layout log.anchor.third records (next_record log pages c.args.images.now) log.slots are.slots;
              firsts = firsts_more log.layout.third log.anchor.first records (next_record log pages c.args.images.now) log.firsts are.firsts;
            });
      };
      failed = tt;
    }

pub invariant_of-self-2 : goal.invariant_of-self-2
invariant_of-self-2 g c =
    let log = c.args.self.now in
    let was = c.self.invariant in
    let p = (goal.at.invariant_of-self-2 g c).After-place-place in
    let may = may g p (16 + 3 * log.layout.third) (all_small c.args.pages.now (λ k. omega (arith, c.type_inv.pages k))) (omega arith) in
    let spot = spots log c.args.pages.now c.args.images.now (16 + 3 * log.layout.third) may in
    let at = c.spot-at.ensures.at in
    let end = c.spot-at.ensures.end in
    let sectors : c.record_sectors.result ≡ record_len (gap_of log.layout) (length c.args.pages.now) = c.record_sectors.ensures ∙ ap (λ (gap : ℕ). record_len gap (length c.args.pages.now)) (gap_is g p) in
    let noted_in = slots_noted g (goal.at.invariant_of-self-2 g c).After-note in
    let buffer : (with_items c.self.inside.buffer c.write_record.new.buffer).items ≡ c.write_record.new.buffer = with_items_is c.self.inside.buffer c.write_record.new.buffer (c.write_record.auto.buffer ∙ c.as_mut_slice.ensures.len) in
    let on_disk = subst (λ (x : LogValue). SlotsInside x.layout.sectors c.self.inside.slots.items) c.self.view_is was.on_disk in
    let in_records = subst (λ (x : LogValue). LieInRecords x.layout c.self.inside.slots.items) c.self.view_is was.in_records in
    let within = in_third log c.args.pages.now c.args.images.now (16 + 3 * log.layout.third) may in
    let numbers : AreNumbers (c.self.inside.number + 1) c.with-self-inside.result = subst (AreNumbers (c.self.inside.number + 1)) (sym c.with-self-inside.ensures) (numbers_more c.third.result c.self.inside.number c.spot-at.result.0 c.self.inside.firsts was.numbers) in
    record {
      least = was.least;
      begun = was.begun;
      opens = was.opens;
      numbers = numbers;
      most = was.most;
      inside = was.inside;
      third = was.third;
      is_in = subst (λ (x : LogValue). IsIn x.layout (record { number = c.self.inside.number + 1; at = c.spot-at.result.0 + c.record_sectors.result; end = c.spot-at.result.1 })) (sym c.self.view_is)
          (record { before = omega (arith, spot.1.to, at, end, sectors); from = omega (arith, spot.1.from, at, end, sectors); ends = subst (IsEnd log.layout) (sym end) spot.1.ends });
      table = ap length noted_in ∙ length-noted c.self.inside.number c.self.inside.slots.items (c.place-place.result + 3 + (gap_of c.self.inside.layout)) (c.place-place.result + 3 + (gap_of c.self.inside.layout) + length c.args.pages.now + 1 + (gap_of c.self.inside.layout)) c.args.pages.now ∙ was.table;
      on_disk = subst (SlotsInside c.self.inside.layout.sectors) (sym noted_in)
          (subst (λ (x : LogValue). SlotsInside x.layout.sectors (noted_slots c.self.inside.number (c.place-place.result + 3 + gap_of x.layout) (c.place-place.result + 3 + gap_of x.layout + length c.args.pages.now + 1 + gap_of x.layout) c.args.pages.now c.self.inside.slots.items)) (sym c.self.view_is)
          (record_inside log.layout log.anchor.third c.self.inside.number (spot_for log.layout (length c.args.pages.now) log.head).at (spot_for log.layout (length c.args.pages.now) log.head).end c.place-place.result c.args.pages.now c.self.inside.slots.items
          within (inside g p) (place_is g p) on_disk));
      in_records = subst (LieInRecords c.self.inside.layout) (sym noted_in)
          (subst (λ (x : LogValue). LieInRecords x.layout (noted_slots c.self.inside.number (c.place-place.result + 3 + gap_of x.layout) (c.place-place.result + 3 + gap_of x.layout + length c.args.pages.now + 1 + gap_of x.layout) c.args.pages.now c.self.inside.slots.items)) (sym c.self.view_is)
          (record_lies log.layout log.anchor.third c.self.inside.number (spot_for log.layout (length c.args.pages.now) log.head).at (spot_for log.layout (length c.args.pages.now) log.head).end c.place-place.result c.args.pages.now c.self.inside.slots.items
          within (place_is g p) in_records));
      copied = was.copied;
      few = was.few;
      long = ap length buffer ∙ c.write_record.auto.buffer ∙ ap length c.as_mut_slice.ensures.value ∙ was.long;
    }
