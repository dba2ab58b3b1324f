use Rattle.std.proofs.Common.{◌≡◌, ℕ, ◌&&◌, sym, ap, ◌∙◌}
use Rattle.std.specs.Prelude.{nat_le, nat_lt}
use Rattle.volume_layout.specs.Layout.{is_data}
use Rattle.saved_map.proofs.MarkLaws.{marked_data, marked_home}
use Rattle.saved_map.proofs.marks.is_marked.Goals as goal

pub returns-then-lies_in : goal.returns-then-lies_in
returns-then-lies_in c =
    let tested : is_data c.args.l.now c.args.s ≡ c.lies_in.result = (ap (λ (n : ℕ). nat_le n c.args.s && nat_lt c.args.s c.args.l.now.sectors) (sym c.data_start.ensures) ∙ ap (λ (n : ℕ). nat_le c.data_start.result c.args.s && nat_lt c.args.s n) (sym c.sectors.ensures.value)) ∙ sym c.lies_in.ensures in
    c.is_free.ensures ∙ marked_data c.args.l.now c.args.map.now.sectors c.args.free_pages.now c.args.s (tested ∙ c.if-lies_in.true)

pub returns-else-lies_in : goal.returns-else-lies_in
returns-else-lies_in c =
    let tested : is_data c.args.l.now c.args.s ≡ c.lies_in.result = (ap (λ (n : ℕ). nat_le n c.args.s && nat_lt c.args.s c.args.l.now.sectors) (sym c.data_start.ensures) ∙ ap (λ (n : ℕ). nat_le c.data_start.result c.args.s && nat_lt c.args.s n) (sym c.sectors.ensures.value)) ∙ sym c.lies_in.ensures in
    c.is_free_page.ensures ∙ marked_home c.args.l.now c.args.map.now.sectors c.args.free_pages.now c.args.s (tested ∙ c.if-lies_in.false)
