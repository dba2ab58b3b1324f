use Rattle.std.specs.Prelude.{◌≡◌, IfSome}
use Rattle.fsd_files.specs.Answers.{highest_entry}
use Rattle.name_page.specs.Lookups.{highest_of}
use Rattle.volume_laws.proofs.FindLaws.{finds_looked}
use Rattle.volume_laws.proofs.MemoryLaws.{enough_in, enough_left, enough_of_cache, told_memory}
use Rattle.volume_laws.proofs.TableLaws.{found_highest}
use Rattle.table_volume.proofs.LookedLaws.{looked_ok, looks_into}
use Rattle.table_volume.proofs.TableCallLaws.{failed_each, found_each}
use Rattle.table_volume.proofs.volume.Volume.find_highest.Goals as goal

pub returns : goal.returns
returns g c =
    let M = g.M.Machine in
    let m = c.args.m.now in
    let m' = c.highest-found.new.m in
    let w = c.args.self.now in
    let view = c.self.view_is in
    let whole = c.self.invariant in
    let source = c.over-source.result in
    let log = c.over-source.ensures in
    let home_a = c.home_a-home_a.result in
    let e = c.highest-found.ensures in
    let new = c.highest-found.new.self in
    let r = c.highest-found.result in
    let result = c.told.result in
    let says = c.told.ensures in
    record {
      looks = looks_into M g.met.M.Machine.short m m' _ w view whole c.attest.ensures new.cache new.free_pages e.free source log home_a c.home_a-home_a.ensures.place _ _ r result says e.looks e.failed e.told;
      name = looked_ok home_a r result says (λ found. IfSome found (λ f. f.entry.key.name ≡ c.args.name.now)) (found_each _ r (λ f x. x.suits) e.told);
      memory = λ has wants. e.memory.enough (enough_in _ w view whole c.args.name.now has) (told_memory home_a r result says wants);
      stays = λ has.
          enough_of_cache _ w view whole c.args.name.now new.cache new.free_pages e.free
          (enough_left _ _ _ _ e.memory.path_stays e.memory.all_stay (enough_in _ w view whole c.args.name.now has));
      found = finds_looked M g.met.M.Machine.short m m' _ w view whole c.attest.ensures new.cache source log
          (highest_of c.args.name.now) (λ k. highest_entry c.args.name.now k.mounted.volume.entries) (λ k stands. found_highest _ k _ whole stands c.args.name.now)
          home_a r result says e.looks (failed_each r (λ fault x. x.cause) e.failed) e.found;
    }
