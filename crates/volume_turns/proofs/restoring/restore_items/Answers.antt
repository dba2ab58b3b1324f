use Rattle.std.proofs.Common.{[], map, Option, sym, ◌∙◌, ap, subst, arith}
use Rattle.fsd_bytes.specs.declared.key.Key.{Key}
use Rattle.dump_text.specs.Items.{dumped}
use Rattle.fsd_texts.specs.declared.line.Line.TheVariants as Says
use Rattle.fsd_runs.specs.Dumps.{first_there}
use Rattle.fsd_runs.specs.Errands.{restoring_unless}
use Rattle.fsd_runs.specs.Sessions.{session_over}
use Rattle.volume_contract.specs.State.{IsNew, State, volume_of}
use Rattle.volume_turns.specs.Restore.{IsRestored}
use Rattle.volume_turns.proofs.BeforeLaws.{worn_held}
use Rattle.volume_turns.proofs.LookedLaws.{closes_none, quiet_before, quiet_fault, restored_before, restored_halt, some_unless}
use Rattle.volume_turns.proofs.RestoreLaws.{low_of, new_unworn}
use Rattle.volume_turns.proofs.SayLaws.{timed_by}
use Rattle.volume_turns.proofs.restoring.restore_items.Goals as goal

-- all is as it was

pub make_again-requires-clause-room : goal.make_again-requires-clause-room
make_again-requires-clause-room g c =
    let looks = c.in-Ok-None.ensures [] in
    let same = ap (λ (s : State). s.layout.sectors) looks.still in
    let sectors = looks.disk.uses.sectors in
    let room = c.requires.room in
    omega (arith, same, sectors, room)

pub make_again-requires-clause-new : goal.make_again-requires-clause-new
make_again-requires-clause-new g c = subst IsNew (sym (c.in-Ok-None.ensures []).still) c.requires.new

pub close_with-requires-clause-room : goal.close_with-requires-clause-room
close_with-requires-clause-room g c =
    let looks = c.in-Ok-Some.ensures [] in
    let same = ap (λ (s : State). s.layout.sectors) looks.still in
    let sectors = looks.disk.uses.sectors in
    let room = c.requires.room in
    omega (arith, same, sectors, room)

pub close_with-requires-clause-up : goal.close_with-requires-clause-up
close_with-requires-clause-up g c = ap (λ (s : State). s.down) (c.in-Ok-Some.ensures []).still ∙ c.requires.new.up

-- none is there

pub returns-in-Ok-None : goal.returns-in-Ok-None
returns-in-Ok-None g c =
    let V = g.V.Files in
    let M = g.M.Machine in
    let a = c.args.m.now in
    let m = c.first_there.new.m in
    let b = c.make_again.new.m in
    let v = c.args.v in
    let all = map (dumped c.args.input.now) c.args.items.now in
    let looks = (rw c.in-Ok-None.field-0-is at c.in-Ok-None.ensures) c.args.input.now in
    let does = c.make_again.ensures in
    let result = c.make_again.result in
    record {
      calls = quiet_before M (V.state v).layout (V.state c.first_there.new.v).layout a m b result looks.disk (ap (λ (s : State). s.layout) looks.still) does.calls;
      low = does.low;
      restored = λ h k none stands disk.
          let back = does.calls.speaks.trust.honest h in
          let timed = timed_by M g.met.M.Machine.dated g.met.M.Machine.history g.met.M.Machine.counts_now g.met.M.Machine.only_now in
          let first = looks.disk.trust.honest back in
          let held = worn_held V.state V.holds M v k a m (g.met.V.Files.wears v k) (g.met.M.Machine.short a first) stands disk (timed a first) (timed m back) (looks.disk.worn back) (looks.disk.since back) (looks.disk.any_moment back) in
          restored_before V.state V.holds M v k a m (g.met.V.Files.wears v k) (g.met.M.Machine.short a first) stands disk (timed a first) (timed m back) (looks.disk.worn back) (looks.disk.since back) (looks.disk.any_moment back)
          (new_unworn (V.state v) c.requires.new) b (restoring_unless (first_there all (volume_of k).entries) all) result
          (subst (λ (o : Option Key). IsRestored M (restoring_unless o all) k m b result) (looks.found back k stands) (does.restored h k none (looks.stands back k stands) held));
    }

-- one is

pub returns-in-Ok-Some : goal.returns-in-Ok-Some
returns-in-Ok-Some g c =
    let V = g.V.Files in
    let M = g.M.Machine in
    let a = c.args.m.now in
    let m = c.first_there.new.m in
    let b = c.close_with.new.m in
    let v = c.args.v in
    let w = c.first_there.new.v in
    let all = map (dumped c.args.input.now) c.args.items.now in
    let looks = (rw c.in-Ok-Some.field-0-is at c.in-Ok-Some.ensures) c.args.input.now in
    let says = c.close_with.ensures in
    let result = c.close_with.result in
    record {
      calls = quiet_before M (V.state v).layout (V.state w).layout a m b result looks.disk (ap (λ (s : State). s.layout) looks.still) says.calls;
      low = low_of 1 (omega arith) result says.gives_it;
      restored = λ h k none stands disk.
          let back = says.calls.speaks.trust.honest h in
          let timed = timed_by M g.met.M.Machine.dated g.met.M.Machine.history g.met.M.Machine.counts_now g.met.M.Machine.only_now in
          let first = looks.disk.trust.honest back in
          let held = worn_held V.state V.holds M v k a m (g.met.V.Files.wears v k) (g.met.M.Machine.short a first) stands disk (timed a first) (timed m back) (looks.disk.worn back) (looks.disk.since back) (looks.disk.any_moment back) in
          restored_before V.state V.holds M v k a m (g.met.V.Files.wears v k) (g.met.M.Machine.short a first) stands disk (timed a first) (timed m back) (looks.disk.worn back) (looks.disk.since back) (looks.disk.any_moment back)
          (new_unworn (V.state v) c.requires.new) b (restoring_unless (first_there all (volume_of k).entries) all) result
          (subst (λ (o : Option Key). IsRestored M (restoring_unless o all) k m b result) (looks.found back k stands)
          (closes_none V.state V.holds M g.met.V.Files.wears timed (λ x honest. g.met.M.Machine.short x honest) (Says.Exists c.in-Ok-Some.key) w m b result says h k none (looks.stands back k stands) held));
    }

-- a look-up has failed

pub returns-in-Err : goal.returns-in-Err
returns-in-Err g c =
    let V = g.V.Files in
    let M = g.M.Machine in
    let a = c.args.m.now in
    let m = c.first_there.new.m in
    let v = c.args.v in
    let all = map (dumped c.args.input.now) c.args.items.now in
    let looks = c.in-Err.ensures c.args.input.now in
    record {
      calls = quiet_fault M V.state V.holds _ v c.first_there.new.v a m c.in-Err.fault looks;
      low = tt;
      restored = λ h k none stands disk.
          let timed = timed_by M g.met.M.Machine.dated g.met.M.Machine.history g.met.M.Machine.counts_now g.met.M.Machine.only_now in
          let first = looks.disk.trust.honest h in
          restored_halt V.state V.holds M v k a m (g.met.V.Files.wears v k) (g.met.M.Machine.short a first) stands disk (timed a first) (timed m h) (looks.disk.worn h) (looks.disk.since h) (looks.disk.any_moment h)
          (restoring_unless (first_there all (volume_of k).entries) all) (some_unless (first_there all (volume_of k).entries) all (session_over (volume_of k))) c.in-Err.fault (looks.found h k stands);
    }
