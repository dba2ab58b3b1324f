use Rattle.std.specs.Prelude.{◌≡◌, IfSome, true}
use Rattle.std.specs.Option.{option_copied}
use Rattle.fsd_files.specs.Answers.{entry_after as entry_behind}
use Rattle.name_page.specs.Lookups.{first_after, is_after}
use Rattle.fsd_sound.specs.Lookups.{LacksLater, HasNext}
use Rattle.fsd_table.specs.Reached.{ReachesPage}
use Rattle.volume_laws.proofs.FindLaws.{finds_looked}
use Rattle.volume_laws.proofs.FoundLaws.{found_by}
use Rattle.volume_laws.proofs.ReadLaws.{absent_by}
use Rattle.volume_laws.proofs.TableLaws.{found_behind}
use Rattle.table_volume.proofs.LookedLaws.{looked_ok, looks_into}
use Rattle.table_volume.proofs.TableCallLaws.{failed_each, found_each, found_none}
use Rattle.table_volume.proofs.volume.Volume.find_next.Goals as goal

pub returns : goal.returns
returns g c =
    let M = g.M.Machine in
    let m = c.args.m.now in
    let m' = c.next_after-found.new.m in
    let w = c.args.self.now in
    let view = c.self.view_is in
    let whole = c.self.invariant in
    let source = c.over-source.result in
    let log = c.over-source.ensures in
    let home_a = c.home_a-home_a.result in
    let e = c.next_after-found.ensures in
    let new = c.next_after-found.new.self in
    let r = c.next_after-found.result in
    let result = c.told.result in
    let says = c.told.ensures in
    record {
      looks = looks_into M g.met.M.Machine.short m m' _ w view whole c.attest.ensures new.cache new.free_pages e.free source log home_a c.home_a-home_a.ensures.place _ _ r result says e.looks e.failed e.told;
      later = looked_ok home_a r result says (λ found. IfSome found (λ f. is_after (option_copied c.args.after) f.entry.key ≡ true)) (found_each _ r (λ f x. x.suits.later) e.told);
      found = finds_looked M g.met.M.Machine.short m m' _ w view whole c.attest.ensures new.cache source log
          (first_after (option_copied c.args.after)) (λ k. entry_behind (option_copied c.args.after) k.mounted.volume.entries) (λ k stands. found_behind _ k _ whole stands (option_copied c.args.after))
          home_a r result says e.looks (failed_each r (λ fault x. x.cause) e.failed) e.found;
      absent = absent_by M m m' _ w view whole new.cache source log _ home_a (ReachesPage (LacksLater (option_copied c.args.after))) r result says e.looks (found_none _ _ r e.told);
      next = found_by M m m' _ w view whole new.cache source log _ home_a
          (λ f pages. ReachesPage (HasNext (option_copied c.args.after) f.entry pages) pages) r result says e.looks (found_each _ r (λ f x. x.suits.next) e.told);
    }
