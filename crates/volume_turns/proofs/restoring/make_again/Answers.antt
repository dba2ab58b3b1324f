use Rattle.std.proofs.Common.{◌≡◌, ℕ, length, map, refl, sym, ap, subst, arith}
use Rattle.std.proofs.lemmas.List.{length-map}
use Rattle.sector_disk.specs.Image.{open_damage}
use Rattle.sector_disk.proofs.Wear.{worn_refl}
use Rattle.fsd_texts.specs.declared.fault.Fault.TheVariants as Ends
use Rattle.fsd_texts.specs.declared.line.Line.TheVariants as Says
use Rattle.fsd_texts.specs.Text.{text}
use Rattle.fsd_files.specs.Desk.{no_clients}
use Rattle.dump_text.specs.Items.{dumped}
use Rattle.client_desk.proofs.FinishLaws.{sits_fresh}
use Rattle.volume_contract.specs.State.{forced_of}
use Rattle.volume_turns.specs.declared.turns.Halt.TheVariants.{Fault as Stopped}
use Rattle.volume_turns.specs.Once.{ClosesAndSays, unit_of}
use Rattle.volume_turns.specs.Seats.{known_of, seated}
use Rattle.volume_turns.proofs.ApartLaws.{err_is}
use Rattle.volume_turns.proofs.NumberLaws.{ended, new_may}
use Rattle.volume_turns.proofs.RestoreLaws.{low_of, restored_all, restored_not, restored_up_to}
use Rattle.volume_turns.proofs.SayLaws.{timed_by}
use Rattle.volume_turns.proofs.SaidLaws.{keeps_end, keeps_then}
use Rattle.volume_turns.proofs.SpeaksLaws.{speaks_ended, speaks_more, speaks_then}
use Rattle.volume_turns.proofs.ToldLaws.{told_behind}
use Rattle.volume_turns.proofs.restoring.make_again.Goals as goal

-- all are made again

pub returns-in-Ok-None : goal.returns-in-Ok-None
returns-in-Ok-None g c =
    let V = g.V.Files in
    let M = g.M.Machine in
    let a = c.args.m.now in
    let m = c.load_all.new.m in
    let b = c.close_with.new.m in
    let v = c.args.v in
    let w = c.load_all.new.v in
    let now = M.now a in
    let load = rw c.in-Ok-None.field-0-is at c.in-Ok-None.ensures in
    let says = c.close_with.ensures in
    let result = c.close_with.result in
    record {
      calls = record {
        speaks = speaks_then load.speaks says.calls.speaks;
        image = told_behind (V.state v).layout (V.state w).layout load.layout (M.honest b) (M.now b).image result says.calls.image;
        unworn = says.calls.unworn;
        quiet = λ h. keeps_then now (M.now m) (M.now b) result (load.says.quiet (says.calls.speaks.trust.honest h)) (says.calls.quiet h);
      };
      low = low_of 0 (omega arith) result says.gives_it;
      restored = λ h k none stands disk.
          let back = says.calls.speaks.trust.honest h in
          let timed = timed_by M g.met.M.Machine.dated g.met.M.Machine.history g.met.M.Machine.counts_now g.met.M.Machine.only_now in
          restored_all V.state V.holds M k a m w (load.speaks.later back) b (says.calls.speaks.since h) (timed b h) result (map (dumped c.args.input.now) c.args.items.now)
          (load.loads back (seated k no_clients) (forced_of k) now (sits_fresh V.state V.holds k v now none stands) (record { image = worn_refl (open_damage now.windows) now.image; windows = refl }) disk) says.gives_it
          (λ x f at on. subst (λ (n : ℕ). ClosesAndSays M (known_of x) f (text (Says.Restored n)) m b (unit_of result)) (sym (length-map c.args.items.now (dumped c.args.input.now))) (says.closes h (known_of x) f at.stands on));
    }

-- one was refused

pub returns-in-Ok-Some : goal.returns-in-Ok-Some
returns-in-Ok-Some g c =
    let V = g.V.Files in
    let M = g.M.Machine in
    let a = c.args.m.now in
    let m = c.load_all.new.m in
    let b = c.close_with-in-Ok-Some.new.m in
    let v = c.args.v in
    let w = c.load_all.new.v in
    let now = M.now a in
    let load = rw c.in-Ok-Some.field-0-is at c.in-Ok-Some.ensures in
    let says = c.close_with-in-Ok-Some.ensures in
    let result = c.close_with-in-Ok-Some.result in
    record {
      calls = record {
        speaks = speaks_then load.speaks says.calls.speaks;
        image = told_behind (V.state v).layout (V.state w).layout load.layout (M.honest b) (M.now b).image result says.calls.image;
        unworn = says.calls.unworn;
        quiet = λ h. keeps_then now (M.now m) (M.now b) result (load.says.quiet (says.calls.speaks.trust.honest h)) (says.calls.quiet h);
      };
      low = low_of 1 (omega arith) result says.gives_it;
      restored = λ h k none stands disk.
          let back = says.calls.speaks.trust.honest h in
          let timed = timed_by M g.met.M.Machine.dated g.met.M.Machine.history g.met.M.Machine.counts_now g.met.M.Machine.only_now in
          restored_up_to V.state V.holds M k a m w (load.speaks.later back) b (says.calls.speaks.since h) (timed b h) result (map (dumped c.args.input.now) c.args.items.now) load.loads.0 c.in-Ok-Some.why
          (load.loads.1 back (seated k no_clients) (forced_of k) now (sits_fresh V.state V.holds k v now none stands) (record { image = worn_refl (open_damage now.windows) now.image; windows = refl }) disk) says.gives_it (λ x f at on. says.closes h (known_of x) f at.stands on);
    }

-- a fault has ended it

pub returns-in-Err : goal.returns-in-Err
returns-in-Err g c =
    let V = g.V.Files in
    let M = g.M.Machine in
    let a = c.args.m.now in
    let m = c.load_all.new.m in
    let v = c.args.v in
    let now = M.now a in
    let load = c.in-Err.ensures in
    let end = c.in-Err.end in
    let unworn : end ≡ Stopped Ends.WornOut → M.honest m → ⊥ = λ is h. let most = new_may (length c.args.items.now) (V.state v) c.requires.new (load.used (ap ended is) h) in let few = c.requires.few in omega (arith, most, few) in
    record {
      calls = record {
        speaks = speaks_more 1 (speaks_ended end load.speaks);
        image = load.says.image;
        unworn = λ is h. unworn (err_is _ end (Stopped Ends.WornOut) refl is) h;
        quiet = λ h. keeps_end now (M.now m) end (load.says.quiet h);
      };
      low = tt;
      restored = λ h k none stands disk.
          restored_not V.state V.holds M k a m c.load_all.new.v (load.speaks.later h) (map (dumped c.args.input.now) c.args.items.now) end (λ is. unworn is h)
          (load.loads h (seated k no_clients) (forced_of k) now (sits_fresh V.state V.holds k v now none stands) (record { image = worn_refl (open_damage now.windows) now.image; windows = refl }) disk);
    }
