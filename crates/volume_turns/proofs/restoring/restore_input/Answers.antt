use Rattle.std.proofs.Common.{◌≡◌, ◌≤◌, List, length, map, Ok, Err, refl, sym, ◌∙◌, ap, subst, arith}
use Rattle.std.specs.Prelude.{All, IsTrue}
use Rattle.sector_disk.proofs.Moments.{started}
use Rattle.sector_disk.proofs.Holding.{wears_none}
use Rattle.fsd_bytes.specs.Keys.{is_key}
use Rattle.fsd_texts.specs.Script.{max_input}
use Rattle.fsd_texts.specs.declared.fault.Fault.TheVariants as Ends
use Rattle.fsd_texts.specs.declared.line.Line.TheVariants as Says
use Rattle.fsd_dumps.specs.Front.{ItemsRead, dumped_in}
use Rattle.dump_text.specs.declared.item.Item.{Item}
use Rattle.dump_text.specs.declared.item.DumpRead.{DumpRead}
use Rattle.dump_text.specs.Items.{IsUnread, dumped}
use Rattle.fsd_runs.specs.Errands.{restore_of}
use Rattle.fsd_runs.specs.Sessions.{session_over}
use Rattle.volume_contract.specs.State.{volume_of}
use Rattle.volume_turns.specs.Restore.{IsRestored}
use Rattle.volume_turns.proofs.ApartLaws.{memory_worn}
use Rattle.volume_turns.proofs.DumpedLaws.{dump_few, dump_is_read, dump_keys, none_is_read}
use Rattle.volume_turns.proofs.LookedLaws.{closes_none, restored_halt, some_restore}
use Rattle.volume_turns.proofs.RestoreLaws.{low_of}
use Rattle.volume_turns.proofs.SayLaws.{timed_by}
use Rattle.volume_turns.proofs.SpeaksLaws.{speaks_none}
use Rattle.volume_turns.proofs.restoring.restore_input.Goals as goal

pub restore_items-requires-clause-keys : goal.restore_items-requires-clause-keys
restore_items-requires-clause-keys g c = subst (λ (xs : List Item). All (λ x. IsTrue (is_key x.key)) xs) (sym c.as_slice.ensures.value) (dump_keys c.args.input.now c.in-Ok.items.items c.in-Ok.ensures.read)

pub restore_items-requires-clause-few : goal.restore_items-requires-clause-few
restore_items-requires-clause-few g c = subst (λ (xs : List Item). length xs ≤ max_input) (sym c.as_slice.ensures.value) (dump_few c.args.input.now c.in-Ok.items.items c.in-Ok.ensures.read c.requires.few)

-- it is a dump

pub returns-in-Ok : goal.returns-in-Ok
returns-in-Ok g c =
    let M = g.M.Machine in
    let input = c.args.input.now in
    let does = c.restore_items.ensures in
    let all = map (dumped input) c.as_slice.result.now in
    let read : dumped_in input ≡ Ok all = dump_is_read (map (dumped input) c.in-Ok.items.items) input c.in-Ok.ensures.read ∙ ap (λ (xs : List Item). Ok (map (dumped input) xs)) (sym c.as_slice.ensures.value) in
    record {
      calls = does.calls;
      low = does.low;
      restored = λ h k none stands disk.
          subst (λ (x : ItemsRead). IsRestored M (restore_of x (volume_of k)) k c.args.m.now c.restore_items.new.m c.restore_items.result) (sym read) (does.restored h k none stands disk);
    }

-- it is none

pub returns-in-Err-Bad : goal.returns-in-Err-Bad
returns-in-Err-Bad g c =
    let V = g.V.Files in
    let M = g.M.Machine in
    let input = c.args.input.now in
    let place = c.in-Err-Bad.place in
    let says = c.close_with.ensures in
    let result = c.close_with.result in
    let unread : IsUnread input c.in-Err-Bad.field-0 = c.in-Err-Bad.ensures.unread in
    let read : dumped_in input ≡ Err place = none_is_read place input (λ i. omega (arith, c.type_inv.input i)) (subst (λ (x : DumpRead). IsUnread input x) c.in-Err-Bad.field-0-is unread) in
    record {
      calls = says.calls;
      low = low_of 1 (omega arith) result says.gives_it;
      restored = λ h k none stands disk.
          let timed = timed_by M g.met.M.Machine.dated g.met.M.Machine.history g.met.M.Machine.counts_now g.met.M.Machine.only_now in
          subst (λ (x : ItemsRead). IsRestored M (restore_of x (volume_of k)) k c.args.m.now c.close_with.new.m result) (sym read)
          (closes_none V.state V.holds M g.met.V.Files.wears timed (λ x honest. g.met.M.Machine.short x honest) (Says.NoDump place) c.args.v c.args.m.now c.close_with.new.m result says h k none stands disk);
    }

-- memory was refused

pub returns-in-Err-Memory : goal.returns-in-Err-Memory
returns-in-Err-Memory g c =
    let V = g.V.Files in
    let M = g.M.Machine in
    let a = c.args.m.now in
    let v = c.args.v in
    record {
      calls = record {
        speaks = speaks_none a;
        image = λ h. tt;
        unworn = λ is h. memory_worn _ refl is;
        quiet = λ h. refl;
      };
      low = tt;
      restored = λ h k none stands disk.
          let timed = timed_by M g.met.M.Machine.dated g.met.M.Machine.history g.met.M.Machine.counts_now g.met.M.Machine.only_now in
          restored_halt V.state V.holds M v k a a (g.met.V.Files.wears v k) (g.met.M.Machine.short a h) stands disk (timed a h) (timed a h) (wears_none (M.now a)) (λ t left le was. was) (started M.moment M.left_since a (M.now a) _ (timed a h).only (wears_none (M.now a)))
          (restore_of (dumped_in c.args.input.now) (volume_of k)) (some_restore (dumped_in c.args.input.now) (volume_of k) (session_over (volume_of k))) Ends.Memory tt;
    }
