use Rattle.std.specs.Prelude.{◌≡◌, IfSome}
use Rattle.fsd_sound.specs.Lookups.{LacksKey}
use Rattle.fsd_table.specs.Reached.{ReachesPage}
use Rattle.volume_laws.proofs.FindLaws.{finds_found}
use Rattle.volume_laws.proofs.FoundLaws.{leaf_by}
use Rattle.volume_laws.proofs.ReadLaws.{absent_by}
use Rattle.table_volume.proofs.LookedLaws.{looked_ok, looks_into}
use Rattle.table_volume.proofs.TableCallLaws.{failed_each, found_each, found_none}
use Rattle.table_volume.proofs.volume.Volume.find.Goals as goal

pub returns : goal.returns
returns g c =
    let M = g.M.Machine in
    let m = c.args.m.now in
    let m' = c.find-found.new.m in
    let w = c.args.self.now in
    let view = c.self.view_is in
    let whole = c.self.invariant in
    let source = c.over-source.result in
    let log = c.over-source.ensures in
    let home_a = c.home_a-home_a.result in
    let e = c.find-found.ensures in
    let new = c.find-found.new.self in
    let r = c.find-found.result in
    let result = c.told.result in
    let says = c.told.ensures in
    record {
      looks = looks_into M g.met.M.Machine.short m m' _ w view whole c.attest.ensures new.cache new.free_pages e.free source log home_a c.home_a-home_a.ensures.place _ _ r result says e.looks e.failed e.told;
      key = looked_ok home_a r result says (λ found. IfSome found (λ f. f.entry.key ≡ c.args.key.now)) (found_each _ r (λ f x. x.suits) e.told);
      found = finds_found M g.met.M.Machine.short m m' _ w view whole c.attest.ensures new.cache source log c.args.key.now home_a r result says e.looks (failed_each r (λ fault x. x.cause) e.failed) e.found;
      absent = absent_by M m m' _ w view whole new.cache source log _ home_a (ReachesPage (LacksKey c.args.key.now)) r result says e.looks (found_none _ _ r e.told);
      there = leaf_by M m m' _ w view whole new.cache source log _ home_a r result says e.looks (found_each _ r (λ f x. x.way) e.told);
    }
