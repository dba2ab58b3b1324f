use Rattle.std.proofs.Common.{◌≡◌, ℕ, ◌∙◌, ap, subst, sym, Option}
use Rattle.std.specs.Prelude.{IfSome, slice_index_or, None}
use Rattle.volume_layout.specs.Shape.{Shape}
use Rattle.volume_layout.specs.Layout.{with_kind}
use Rattle.fsd_log.specs.Places.{LieInRecord}
use Rattle.fsd_log.specs.declared.slot.Slot.{Slot}
use Rattle.log_thirds.specs.LogValue.{LogValue, IsShaped}
use Rattle.log_thirds.proofs.thirds.Log.set_kind.Goals as goal

pub invariant_of-self : goal.invariant_of-self
invariant_of-self c =
    let was = c.self.invariant in
    let l = with_kind c.args.kind c.self.inside.layout in
    let none : (page : ℕ) → slice_index_or c.self.inside.slots.items page None ≡ None = λ page. ap (λ (x : LogValue). slice_index_or x.slots page None) c.self.view_is ∙ c.requires page in
    subst (λ (k : Shape). IsShaped k c.self.inside.anchor (record { number = c.self.inside.number; at = c.self.inside.at; end = c.self.inside.end }) c.self.inside.firsts c.self.inside.slots.items (record { place = c.self.inside.copies_at; bytes = c.self.inside.copies.items }) c.self.inside.buffer.items)
    (sym c.with_kind-self-inside.ensures)
    (record {
      least = was.least;
      most = was.most;
      inside = was.inside;
      third = was.third;
      begun = was.begun;
      opens = was.opens;
      is_in = record { before = was.is_in.before; from = was.is_in.from; ends = was.is_in.ends };
      numbers = was.numbers;
      table = was.table;
      on_disk = was.on_disk;
      in_records = λ page. subst (λ (o : Option Slot). IfSome o (λ slot. LieInRecord l slot.place slot.copy)) (sym (none page)) tt;
      copied = was.copied;
      few = was.few;
      long = was.long;
    })
