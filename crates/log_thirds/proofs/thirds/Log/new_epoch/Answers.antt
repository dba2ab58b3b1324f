use Rattle.std.proofs.Common.{◌≡◌, ◌∙◌, ◌+◌, ◌*◌, ◌≤◌, inl, ℕ, List, [], Option, None, length, refl, sym, subst, ap, arith}
use Rattle.std.specs.Prelude.{replicate}
use Rattle.std.specs.Vec.{with_items}
use Rattle.std.proofs.lemmas.List.{length-replicate, with_items_is}
use Rattle.std.proofs.lemmas.Result.{err_from_is_err_and}
use Rattle.sector_disk.specs.Machine.{Holds}
use Rattle.fsd_formats.specs.declared.anchor.Anchor.{Anchor}
use Rattle.fsd_log.specs.declared.slot.Slot.{Slot}
use Rattle.log_thirds.specs.Anchoring.{next_epoch, with_anchors}
use Rattle.log_thirds.specs.Copies.{FitsDisk, copies_count}
use Rattle.log_thirds.specs.Firsts.{AreNumbers}
use Rattle.log_thirds.specs.LogValue.{LogValue}
use Rattle.fsd_log.specs.Slots.{LieInRecords, SlotsInside}
use Rattle.log_thirds.proofs.AnchoringLaws.{anchored}
use Rattle.fsd_log.proofs.SlotLaws.{none_inside, none_lie}
use Rattle.log_thirds.proofs.thirds.Log.new_epoch.Given as given
use Rattle.log_thirds.proofs.thirds.Log.new_epoch.Goals.{After-clear-2}
use Rattle.log_thirds.proofs.thirds.Log.new_epoch.Goals as goal

-- the table of slots is cleared
no_slots : (g : given.Over) (c : After-clear-2 g) → (with_items c.self.inside.slots c.clear.new.slots).items ≡ replicate (length c.self.inside.slots.items) None
no_slots g c =
    let held = c.as_mut_slice.ensures in
    with_items_is c.self.inside.slots c.clear.new.slots (ap length c.clear.ensures ∙ length-replicate (length c.as_mut_slice.result.now) None ∙ held.len)
    ∙ c.clear.ensures ∙ ap (λ (slots : List (Option Slot)). replicate (length slots) None) held.value

pub write_anchor-requires : goal.write_anchor-requires
write_anchor-requires g c =
    let inside : 16 + 3 * c.args.self.now.layout.third ≤ c.args.self.now.layout.sectors = subst (λ (x : LogValue). 16 + 3 * x.layout.third ≤ x.layout.sectors) c.self.view_is c.self.invariant.inside in
    record { epoch = omega arith; third = omega arith; first = omega arith; in_range = omega (arith, inside, c.requires.sectors) }

pub invariant_of-self : goal.invariant_of-self
invariant_of-self g c =
    let was = c.self.invariant in
    let l = c.self.inside.layout in
    let n : ℕ = length c.self.inside.slots.items in
    let slots : replicate n None ≡ (with_items c.self.inside.slots c.clear.new.slots).items = sym (no_slots g (goal.at.invariant_of-self g c).After-clear-2) in
    let third = c.third-third.ensures.value in
    let none : ◌≡◌ {A = List ℕ} [] c.clear-2.new.self.items = sym c.clear-2.ensures.items in
    record {
      least = was.least;
      most = was.most;
      inside = was.inside;
      third = omega arith;
      begun = omega arith;
      opens = omega arith;
      is_in = record { before = omega arith; from = omega (arith, third); ends = inl third };
      numbers = subst (AreNumbers 1) (sym c.of-self-inside.ensures) (record { some = omega arith; in_order = omega arith; most = omega arith });
      table = ap length (sym slots) ∙ length-replicate n None ∙ was.table;
      on_disk = subst (SlotsInside l.sectors) slots (none_inside l.sectors n);
      in_records = subst (LieInRecords l) slots (none_lie l n);
      copied = subst (λ (b : List ℕ). FitsDisk l.sectors (record { place = c.self.inside.copies_at; bytes = b })) none (record { whole = refl; inside = omega (arith, was.copied.inside) });
      few = subst (λ (b : List ℕ). copies_count (record { place = c.self.inside.copies_at; bytes = b }) ≤ 97) none (omega arith);
      long = was.long;
    }

pub returns-in_err-write_anchor : goal.returns-in_err-write_anchor
returns-in_err-write_anchor g c =
    let failed = c.in_err-write_anchor.ensures in
    let p = err_from_is_err_and c.from_residual.result c.from_residual.ensures.1 in
    rw (p.1, p.2) (record {
      writes = anchored g.M.Machine _ _ _ _ _ (ap next_epoch c.self.view_is) failed.writes;
      counted = tt;
      most = failed.most;
      done = tt;
      past = tt;
      kept = refl;
    })

pub returns : goal.returns
returns g c =
    let M = g.M.Machine in
    let log = c.args.self.now in
    let old = M.now c.args.m.now in
    let wrote = c.in_ok-write_anchor.ensures in
    let anchor : ◌≡◌ {A = Anchor} (record { epoch = c.self.inside.anchor.epoch + 1; third = 0; first = 1 }) (next_epoch log) = ap next_epoch c.self.view_is in
    let end : c.third-third.result ≡ log.layout.third = c.third-third.ensures.value ∙ ap (λ (x : LogValue). x.layout.third) c.self.view_is in
    let slots : (with_items c.self.inside.slots c.clear.new.slots).items ≡ replicate (length log.slots) None = no_slots g (goal.at.returns g c).After-clear-2 ∙ ap (λ (x : LogValue). replicate (length x.slots) None) c.self.view_is in
    record {
      writes = anchored M None _ _ _ _ anchor wrote.writes;
      counted = wrote.counted;
      most = wrote.most;
      done = λ h. subst (λ (a : Anchor). Holds old (with_anchors a old.image 1 1) (M.now c.write_anchor.new.m)) anchor (wrote.done h);
      past = λ i. record { layout = (c.self.view_is i).layout; anchor = anchor i; head = record { number = 1; at = 0; end = end i }; firsts = c.of-self-inside.ensures i; slots = slots i; copies = record { place = (c.self.view_is i).copies.place; bytes = c.clear-2.ensures.items i } };
      kept = tt;
    }
