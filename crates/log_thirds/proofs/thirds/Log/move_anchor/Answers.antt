use Rattle.std.proofs.Common.{◌≡◌, ◌+◌, ◌-◌, ◌*◌, ◌<◌, ◌≤◌, ◌^◌, ℕ, List, None, length, map, refl, sym, ap, subst, ◌∙◌, arith, rules}
use Rattle.std.specs.Vec.{with_items}
use Rattle.std.proofs.lemmas.List.{with_items_is, length-map}
use Rattle.std.proofs.lemmas.Result.{err_from_is_err_and}
use Rattle.volume_layout.specs.Layout.{third_start}
use Rattle.sector_disk.specs.Machine.{Holds, LeavesOnly, Moment}
use Rattle.sector_disk.proofs.Moments.{leaves_more}
use Rattle.sector_disk.proofs.Wear.{worn_refl}
use Rattle.sector_disk.specs.Image.{open_damage}
use Rattle.fsd_formats.specs.declared.anchor.Anchor.{Anchor}
use Rattle.fsd_log.specs.Scan.{IsIn, Placed}
use Rattle.fsd_log.specs.Places.{LieInRecord}
use Rattle.log_thirds.specs.Append.{IsIndexed, IsLogWorn}
use Rattle.log_thirds.specs.Anchoring.{AnchorsIn, with_anchors}
use Rattle.fsd_log.specs.Slots.{LieInRecords, SlotsInside, slot_outside}
use Rattle.log_thirds.specs.LogValue.{LogValue}
use Rattle.log_thirds.specs.Moving.{MovesWorn, moved_anchor, moved}
use Rattle.fsd_log.specs.Moves.{next_third, records_moved}
use Rattle.log_thirds.proofs.AnchoringLaws.{anchored}
use Rattle.log_thirds.proofs.MovingLaws.{MayMove, moves_worn, moved_part, indexed_moved}
use Rattle.fsd_log.proofs.MovedLaws.{next_low, moved_in, slots_outside_each}
use Rattle.log_thirds.proofs.thirds.Log.move_anchor.Given as given
use Rattle.log_thirds.proofs.thirds.Log.move_anchor.Goals.{After-drop_in, After-write_anchor}
use Rattle.log_thirds.proofs.thirds.Log.move_anchor.Goals as goal

-- ---- where the anchor is written

anchor_is : (g : given.Over) (c : After-write_anchor g) → ◌≡◌ {A = Anchor} (record { epoch = c.self.inside.anchor.epoch; third = c.next_third.result; first = c.self.inside.firsts.second }) (moved_anchor c.args.self.now)
anchor_is g c =
    let third = c.next_third.ensures ∙ ap (λ (x : LogValue). next_third x.anchor.third) c.self.view_is in
    λ i. record { epoch = (c.self.view_is i).anchor.epoch; third = third i; first = (c.self.view_is i).firsts.second }

inside : (g : given.Over) (c : After-write_anchor g) → 16 + 3 * c.args.self.now.layout.third ≤ c.args.self.now.layout.sectors
inside g c = subst (λ (x : LogValue). 16 + 3 * x.layout.third ≤ x.layout.sectors) c.self.view_is c.self.invariant.inside

may : (g : given.Over) (c : After-write_anchor g) → MayMove c.args.self.now
may g c =
    let was = c.self.invariant in
    let epoch : c.self.inside.anchor.epoch < 2 ^ 32 = search rules in
    let number : c.self.inside.number < 2 ^ 32 = search rules in
    record {
      some = subst (λ (x : LogValue). 0 < x.layout.third) c.self.view_is (omega (arith, was.least));
      third = subst (λ (x : LogValue). x.anchor.third ≤ 2) c.self.view_is was.third;
      epoch = subst (λ (x : LogValue). x.anchor.epoch < 2 ^ 32) c.self.view_is epoch;
      number = subst (λ (x : LogValue). x.head.number < 2 ^ 32) c.self.view_is number;
      ends = c.requires.ends;
    }

-- where the anchor stands in part, or whole, the log does as it must
moves : (g : given.Over) (c : After-write_anchor g) (records : List Placed) (left : Moment) → g.M.Machine.honest c.write_anchor.new.m → AnchorsIn (moved_anchor c.args.self.now) (g.M.Machine.now c.args.m.now) left
    → IsIndexed c.args.self.now records → IsLogWorn c.args.self.now records (g.M.Machine.now c.args.m.now) → MovesWorn c.args.self.now records (g.M.Machine.now c.args.m.now) left
moves g c records left h part indexed stands =
    let M = g.M.Machine in
    let sized = g.met.M.Machine.sized c.args.m.now (c.write_anchor.ensures.writes.trust.honest h) in
    moves_worn c.args.self.now records (M.now c.args.m.now) left (omega (arith, inside g c, sized, c.requires.sectors)) part stands (may g c) indexed.firsts

any_moment : (g : given.Over) (c : After-write_anchor g) (records : List Placed) → g.M.Machine.honest c.write_anchor.new.m → IsIndexed c.args.self.now records → IsLogWorn c.args.self.now records (g.M.Machine.now c.args.m.now)
    → LeavesOnly g.M.Machine.moment g.M.Machine.left_since c.args.m.now c.write_anchor.new.m (MovesWorn c.args.self.now records (g.M.Machine.now c.args.m.now))
any_moment g c records h indexed stands =
    let M = g.M.Machine in
    leaves_more M.moment M.left_since c.args.m.now c.write_anchor.new.m _ _
    (λ left part. moves g c records left h (subst (λ (a : Anchor). AnchorsIn a (M.now c.args.m.now) left) (anchor_is g c) part) indexed stands) (c.write_anchor.ensures.writes.any_moment h)

-- the slots of the first third are dropped
slots_left : (g : given.Over) (c : After-drop_in g) → (with_items c.self.inside.slots c.drop_in.new.slots).items ≡ map (slot_outside c.third_start-start.result c.third-third.result) c.self.inside.slots.items
slots_left g c =
    let held = c.as_mut_slice.ensures in
    let long = ap length c.drop_in.ensures ∙ length-map c.as_mut_slice.result.now (slot_outside c.third_start-start.result c.third-third.result) in
    with_items_is c.self.inside.slots c.drop_in.new.slots (long ∙ held.len) ∙ c.drop_in.ensures ∙ ap (map (slot_outside c.third_start-start.result c.third-third.result)) held.value

pub write_anchor-requires : goal.write_anchor-requires
write_anchor-requires g c =
    let was = c.self.invariant in
    let inside : 16 + 3 * c.args.self.now.layout.third ≤ c.args.self.now.layout.sectors = subst (λ (x : LogValue). 16 + 3 * x.layout.third ≤ x.layout.sectors) c.self.view_is was.inside in
    record {
      epoch = was.begun;
      third = subst (λ (n : ℕ). n ≤ 2) (sym c.next_third.ensures) (next_low c.self.inside.anchor.third was.third);
      first = was.numbers.some;
      in_range = omega (arith, inside, c.requires.sectors);
    }

pub returns-in_err-write_anchor : goal.returns-in_err-write_anchor
returns-in_err-write_anchor g c =
    let w = (goal.at.returns-in_err-write_anchor g c).After-write_anchor in
    let failed = c.in_err-write_anchor.ensures in
    let p = err_from_is_err_and c.from_residual.result c.from_residual.ensures.1 in
    rw (p.1, p.2) (record {
      writes = anchored g.M.Machine _ _ _ _ _ (anchor_is g w) failed.writes;
      counted = λ t. record { no_fewer = failed.least t; no_more = failed.most t };
      worn_moment = any_moment g w;
      done = tt;
      kept = refl;
    })

pub returns : goal.returns
returns g c =
    let M = g.M.Machine in
    let log = c.args.self.now in
    let old = M.now c.args.m.now in
    let new = M.now c.write_anchor.new.m in
    let w = (goal.at.returns g c).After-write_anchor in
    let anchor = anchor_is g w in
    let wrote = c.in_ok-write_anchor.ensures in
    let holds : M.honest c.write_anchor.new.m → Holds old (with_anchors (moved_anchor log) old.image 1 1) new = λ h. subst (λ (a : Anchor). Holds old (with_anchors a old.image 1 1) new) anchor (wrote.done h) in
    let by : c.third-third.result ≡ log.layout.third = c.third-third.ensures.value ∙ ap (λ (x : LogValue). x.layout.third) c.self.view_is in
    let start : c.third_start-start.result ≡ third_start log.layout log.anchor.third = c.third_start-start.ensures ∙ ap (λ (x : LogValue). third_start x.layout x.anchor.third) c.self.view_is in
    let slots : (with_items c.self.inside.slots c.drop_in.new.slots).items ≡ (moved log).slots = slots_left g (goal.at.returns g c).After-drop_in ∙ λ i. map (slot_outside (start i) (by i)) (c.self.view_is i).slots in
    let same : ◌≡◌ {A = LogValue} (record { layout = c.self.inside.layout; anchor = record { epoch = c.self.inside.anchor.epoch; third = c.next_third.result; first = c.self.inside.firsts.second }; head = record { number = c.self.inside.number; at = c.self.inside.at - c.third-third.result; end = c.self.inside.end - c.third-third.result }; firsts = record { second = c.self.inside.firsts.last; last = c.self.inside.number }; slots = (with_items c.self.inside.slots c.drop_in.new.slots).items; copies = record { place = c.self.inside.copies_at; bytes = c.self.inside.copies.items } }) (moved log) =
    λ i. record { layout = (c.self.view_is i).layout; anchor = anchor i; head = record { number = (c.self.view_is i).head.number; at = (c.self.view_is i).head.at - by i; end = (c.self.view_is i).head.end - by i }; firsts = record { second = (c.self.view_is i).firsts.last; last = (c.self.view_is i).head.number }; slots = slots i; copies = (c.self.view_is i).copies } in
    record {
      writes = anchored M None _ _ _ _ anchor wrote.writes;
      counted = λ t. record { no_fewer = wrote.least t; no_more = wrote.most t };
      worn_moment = any_moment g w;
      done = record {
        past = same;
        counted = wrote.counted;
        stands = holds;
        worn = λ records h indexed stands. subst (λ (x : LogValue). IsLogWorn x (records_moved log.layout records) new) (sym same) (moves g w records new h (moved_part log old new (holds h)) indexed stands).behind;
        indexed = λ records h indexed stands. subst (λ (x : LogValue). IsIndexed x (records_moved log.layout records)) (sym same)
            (indexed_moved log (may g w) records indexed.firsts old.image (stands old.image (worn_refl (open_damage old.windows) old.image)) indexed.slots);
      };
      kept = tt;
    }

pub invariant_of-self : goal.invariant_of-self
invariant_of-self g c =
    let log = c.args.self.now in
    let was = c.self.invariant in
    let l = c.self.inside.layout in
    let left = slots_left g (goal.at.invariant_of-self g c).After-drop_in in
    let far : 2 * c.self.inside.layout.third < c.self.inside.at = subst (λ (x : LogValue). 2 * x.layout.third < x.head.at) (sym c.self.view_is) c.requires.ends in
    let is_in = subst (λ (t : ℕ). IsIn c.self.inside.layout (record { number = c.self.inside.number; at = c.self.inside.at - t; end = c.self.inside.end - t })) (sym c.third-third.ensures.value)
    (moved_in c.self.inside.layout (record { number = c.self.inside.number; at = c.self.inside.at; end = c.self.inside.end }) was.is_in far) in
    record {
      least = was.least;
      most = was.most;
      inside = was.inside;
      third = subst (λ (n : ℕ). n ≤ 2) (sym c.next_third.ensures) (next_low c.self.inside.anchor.third was.third);
      begun = was.begun;
      opens = was.numbers.some;
      is_in = is_in;
      numbers = record { some = omega (arith, was.numbers.some, was.numbers.in_order); in_order = was.numbers.most; most = omega arith };
      table = ap length left ∙ length-map c.self.inside.slots.items (slot_outside c.third_start-start.result c.third-third.result) ∙ was.table;
      on_disk = subst (SlotsInside c.self.inside.layout.sectors) (sym left) (slots_outside_each (λ slot. (slot.place < c.self.inside.layout.sectors) × (slot.copy < c.self.inside.layout.sectors)) c.third_start-start.result c.third-third.result c.self.inside.slots.items was.on_disk);
      in_records = subst (LieInRecords c.self.inside.layout) (sym left) (slots_outside_each (λ slot. LieInRecord c.self.inside.layout slot.place slot.copy) c.third_start-start.result c.third-third.result c.self.inside.slots.items was.in_records);
      copied = was.copied;
      few = was.few;
      long = was.long;
    }
