use Rattle.std.proofs.Common.{◌+◌, List, drop, map, Some, refl, sym, ◌∙◌, ap, subst, arith}
use Rattle.std.specs.Prelude.{slice_index_or}
use Rattle.std.proofs.lemmas.List.{drop_all, drop_more}
use Rattle.volume_layout.specs.declared.layout.Layout.{Layout}
use Rattle.fsd_bytes.specs.declared.key.Key.{Key}
use Rattle.dump_text.specs.declared.item.Item.{Item}
use Rattle.dump_text.specs.Items.{dumped}
use Rattle.fsd_runs.specs.Dumps.{first_there}
use Rattle.sector_disk.proofs.CallLaws.{reads_none, reads_then}
use Rattle.scrub.specs.Telling.{AreOfPage}
use Rattle.volume_contract.specs.State.{State, volume_of}
use Rattle.volume_turns.specs.Steps.{IsToldOn}
use Rattle.volume_turns.proofs.LookingLaws.{there_now, there_then}
use Rattle.volume_turns.proofs.restoring.first_there.Goals as goal

pub loop-place-init : goal.loop-place-init
loop-place-init g c = record {
  still = refl;
  disk = reads_none c.args.m.now (λ x h left. g.met.M.Machine.only_now c.args.m.now x h left);
  stands = λ h k stands. stands;
  left = λ h bytes k stands. refl;
}

pub is_there-requires-clause-room : goal.is_there-requires-clause-room
is_there-requires-clause-room g c =
    let was = c.loop-place.invariant in
    let same = ap (λ (s : State). s.layout.sectors) was.still in
    let sectors = was.disk.uses.sectors in
    let room = c.requires.room in
    omega (arith, same, sectors, room)

pub is_there-requires-clause-up : goal.is_there-requires-clause-up
is_there-requires-clause-up g c = ap (λ (s : State). s.down) c.loop-place.invariant.still ∙ c.requires.up

-- this one is not

pub loop-place-preserved : goal.loop-place-preserved
loop-place-preserved g c =
    let l = c.loop-place in
    let was = l.invariant in
    let items = c.args.items.now in
    let item = slice_index_or items l.place c.index-items-place.result in
    let does = rw c.in-Ok-false.field-0-test at c.in-Ok-false.ensures in
    record {
      still = does.still ∙ was.still;
      disk = reads_then was.disk does.disk;
      stands = λ h k stands. does.stands h k (was.stands (does.disk.trust.honest h) k stands);
      left = λ h bytes k stands.
          let back = does.disk.trust.honest h in
          was.left back bytes k stands
          ∙ ap (λ (xs : List Item). first_there (map (dumped bytes) xs) (volume_of k).entries) (drop_more items l.place c.index-items-place.result c.loop-place-test.true)
          ∙ there_then (dumped bytes item) (map (dumped bytes) (drop (l.place + 1) items)) (volume_of k).entries (does.found h k (was.stands back k stands));
    }

-- this one is

pub returns-in-Ok-true : goal.returns-in-Ok-true
returns-in-Ok-true g c bytes =
    let l = c.loop-place in
    let was = l.invariant in
    let items = c.args.items.now in
    let item = slice_index_or items l.place c.index-items-place.result in
    let does = rw c.in-Ok-true.field-0-test at c.in-Ok-true.ensures in
    let layout = ap (λ (s : State). s.layout) was.still in
    record {
      still = does.still ∙ was.still;
      disk = reads_then was.disk does.disk;
      fault = tt;
      told = λ h. tt;
      unworn = tt;
      stands = λ h k stands. does.stands h k (was.stands (does.disk.trust.honest h) k stands);
      found = λ h k stands.
          let back = does.disk.trust.honest h in
          ap (λ (x : Key). Some x) c.copied.ensures ∙ sym (was.left back bytes k stands
          ∙ ap (λ (xs : List Item). first_there (map (dumped bytes) xs) (volume_of k).entries) (drop_more items l.place c.index-items-place.result c.loop-place-test.true)
          ∙ there_now (dumped bytes item) (map (dumped bytes) (drop (l.place + 1) items)) (volume_of k).entries (does.found h k (was.stands back k stands)));
    }

-- a fault has ended it

pub returns-in-Err : goal.returns-in-Err
returns-in-Err g c bytes =
    let M = g.M.Machine in
    let was = c.loop-place.invariant in
    let does = c.in-Err.ensures in
    let layout = ap (λ (s : State). s.layout) was.still in
    record {
      still = does.still ∙ was.still;
      disk = reads_then was.disk does.disk;
      fault = does.fault;
      told = λ h. subst (λ (x : Layout). IsToldOn AreOfPage x (M.now c.is_there.new.m).image c.in-Err.fault) layout (does.told h);
      unworn = does.unworn;
      stands = λ h k stands. does.stands h k (was.stands (does.disk.trust.honest h) k stands);
      found = λ h k stands. does.found h k (was.stands (does.disk.trust.honest h) k stands);
    }

-- none is

pub returns : goal.returns
returns g c bytes =
    let l = c.loop-place in
    let was = l.invariant in
    let ended = c.loop-place-test.false in
    record {
      still = was.still;
      disk = was.disk;
      fault = tt;
      told = λ h. tt;
      unworn = tt;
      stands = was.stands;
      found = λ h k stands. sym (was.left h bytes k stands ∙ ap (λ (xs : List Item). first_there (map (dumped bytes) xs) (volume_of k).entries) (drop_all l.place c.args.items.now (omega (arith, ended))));
    }
