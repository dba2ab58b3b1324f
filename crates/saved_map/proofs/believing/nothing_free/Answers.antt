use Rattle.volume_layout.proofs.RegionLaws.{regions_apart}
use Rattle.std.proofs.Common.{rules, ◌≡◌, ◌≤◌, ◌∙◌, ℕ, false, replicate, ap, arith}
use Rattle.saved_map.proofs.LayoutLaws.{data_below}
use Rattle.saved_map.proofs.ReadingLaws.{nothing_marked}
use Rattle.saved_map.proofs.believing.nothing_free.Goals as goal

pub returns : goal.returns
returns c =
    let apart = regions_apart c.args.l.now c.requires in
    let order : c.data_start-from.result ≤ c.most_sectors-to.result = omega (arith, apart.data_area, data_below c.args.l.now c.requires, c.data_start-from.ensures, c.most_sectors-to.ensures.value) in
    let flags : c.in_ok-free_pages.free_pages.items ≡ replicate c.pages.result false = search rules in
    nothing_marked c.args.l.now c.in_ok-map.map c.in_ok-free_pages.free_pages.items c.data_start-from.result c.most_sectors-to.result c.data_start-from.ensures c.most_sectors-to.ensures.value order c.in_ok-map.ensures
    (flags ∙ ap (λ (n : ℕ). replicate n false) c.pages.ensures.value)
