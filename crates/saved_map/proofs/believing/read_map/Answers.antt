use Rattle.std.proofs.Common.{rules, ◌≡◌, Bool, List, Ok, length, ap, refl, subst, sym}
use Rattle.std.proofs.lemmas.List.{with_items_is}
use Rattle.std.specs.Vec.{with_items}
use Rattle.volume_layout.proofs.RegionLaws.{regions_apart}
use Rattle.fsd_formats.specs.SavedMap.{is_set_in}
use Rattle.saved_map.specs.Taking.{AreMarked}
use Rattle.saved_map.proofs.ReadingLaws.{is_map, is_of_map, map_whole}
use Rattle.saved_map.proofs.believing.read_map.Goals as goal

pub returns-in-Ok-true-clause-takes : goal.returns-in-Ok-true-clause-takes
returns-in-Ok-true-clause-takes g c =
    let l = c.args.l.now in
    let head = c.args.first.now.head in
    let rest = c.in-Ok-true.ensures.took (ap Ok c.in-Ok-true.field-0-test) in
    let long : length c.take_parts.new.free_pages ≡ c.in-Ok.free_pages.len = search rules in
    let flags : (with_items c.in-Ok.free_pages c.take_parts.new.free_pages).items ≡ c.take_parts.new.free_pages = with_items_is c.in-Ok.free_pages c.take_parts.new.free_pages long in
    let marked = subst (λ (pages : List Bool). AreMarked l (is_set_in rest.sectors) c.take_parts.new.map pages) (sym flags) rest.marked in
    record {
      sectors = rest.sectors;
      of = is_map l head rest.sectors rest.count rest.parts;
      is = is_of_map l head rest.sectors rest.count rest.parts (regions_apart l c.requires.planned)
          (record { map = c.take_parts.new.map; free_pages = with_items c.in-Ok.free_pages c.take_parts.new.free_pages; versions = head.versions }) refl marked;
      whole = λ h. map_whole l head rest.sectors rest.count rest.parts (g.M.Machine.now c.args.m.now).image (rest.whole h);
    }
