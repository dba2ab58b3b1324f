use Rattle.std.proofs.Common.{◌≡◌, Some, None, sym, ◌∙◌, ap, refl}
use Rattle.sector_disk.specs.Image.{open_damage}
use Rattle.sector_disk.proofs.Wear.{worn_refl}
use Rattle.fsd_texts.specs.Generator.{made_up}
use Rattle.fsd_texts.specs.declared.fault.Fault.TheVariants as Ends
use Rattle.volume_turns.specs.declared.turns.Halt.TheVariants.{Fault as Stopped}
use Rattle.volume_turns.proofs.ApartLaws.{err_is, ok_apart}
use Rattle.fsd_files.specs.Desk.{no_clients}
use Rattle.client_desk.proofs.FinishLaws.{sits_fresh}
use Rattle.volume_contract.specs.State.{forced_of}
use Rattle.volume_turns.specs.Seats.{known_of, seated}
use Rattle.volume_turns.proofs.CountLaws.{counted_all, counted_broken, counted_worn}
use Rattle.volume_turns.proofs.GroupLaws.{worn_is}
use Rattle.volume_turns.proofs.NumberLaws.{counts_none, counts_on, ended, forced_behind, other_end, passed_on}
use Rattle.volume_turns.proofs.SayLaws.{timed_by}
use Rattle.volume_turns.proofs.SaidLaws.{keeps_end, keeps_then}
use Rattle.volume_turns.proofs.ToldLaws.{told_behind}
use Rattle.volume_turns.proofs.SpeaksLaws.{speaks_ended, speaks_more, speaks_then, speaks_worn}
use Rattle.volume_turns.proofs.generate.make_group.Goals as goal

pub returns-in-Ok : goal.returns-in-Ok
returns-in-Ok g c =
    let V = g.V.Files in
    let M = g.M.Machine in
    let a = c.args.m.now in
    let m = c.make_up.new.m in
    let b = c.force_behind.new.m in
    let v = c.make_up.new.v in
    let made = c.in-Ok.ensures in
    let done = c.force_behind.ensures in
    let result = c.force_behind.result in
    let commands = made_up c.args.seed c.args.count in
    let now = M.now a in
    let tally = c.in-Ok.tally in
    record {
      speaks = speaks_then made.speaks done.speaks;
      forces = record {
        image = told_behind (V.state c.args.v).layout (V.state v).layout made.layout (M.honest b) (M.now b).image result done.forces.image;
        unworn = done.forces.unworn;
        says = forced_behind (M.honest b) (M.honest m) now (M.now m) (M.now b) done.speaks.trust.honest made.says.quiet result done.forces.says;
        quiet = λ h. keeps_then now (M.now m) (M.now b) result (made.says.quiet (done.speaks.trust.honest h)) (done.forces.quiet h);
      };
      used = λ is h. let no : None ≡ Some tally = passed_on (Some tally) None result done.same is in absurd (cc (no));
      counts = counts_on c.args.count tally made.counts result done.same;
      group = λ h k none stands disk. let back = done.speaks.trust.honest h in let timed = timed_by M g.met.M.Machine.dated g.met.M.Machine.history g.met.M.Machine.counts_now g.met.M.Machine.only_now in
          counted_all V.state V.holds M k commands a m b v (done.speaks.since h) (made.speaks.later back) (timed b h) tally (made.runs back (seated k no_clients) (forced_of k) now (sits_fresh V.state V.holds k c.args.v now none stands) (record { image = worn_refl (open_damage now.windows) now.image; windows = refl }) disk) result done.same (λ x f at on. done.closes h (known_of x) f at.stands on);
    }

-- the mount is worn out

pub returns-then-is_worn_end : goal.returns-then-is_worn_end
returns-then-is_worn_end g c =
    let V = g.V.Files in
    let M = g.M.Machine in
    let a = c.args.m.now in
    let m = c.make_up.new.m in
    let b = c.force_behind-then-is_worn_end.new.m in
    let v = c.make_up.new.v in
    let made = c.in-Err.ensures in
    let done = c.force_behind-then-is_worn_end.ensures in
    let result = c.force_behind-then-is_worn_end.result in
    let commands = made_up c.args.seed c.args.count in
    let now = M.now a in
    let end = c.in-Err.end in
    let worn = sym c.is_worn_end.ensures ∙ c.if-is_worn_end.true in
    record {
      speaks = speaks_then (speaks_worn end worn made.speaks) done.speaks;
      forces = record {
        image = told_behind (V.state c.args.v).layout (V.state v).layout made.layout (M.honest b) (M.now b).image result done.forces.image;
        unworn = done.forces.unworn;
        says = forced_behind (M.honest b) (M.honest m) now (M.now m) (M.now b) done.speaks.trust.honest made.says.quiet result done.forces.says;
        quiet = λ h. keeps_then now (M.now m) (M.now b) result (made.says.quiet (done.speaks.trust.honest h)) (done.forces.quiet h);
      };
      used = λ is h. made.used (ap ended (worn_is end worn)) (done.speaks.trust.honest h);
      counts = counts_none c.args.count result done.same;
      group = λ h k none stands disk. let back = done.speaks.trust.honest h in let timed = timed_by M g.met.M.Machine.dated g.met.M.Machine.history g.met.M.Machine.counts_now g.met.M.Machine.only_now in
          counted_worn V.state V.holds M k commands a m b v (done.speaks.since h) (made.speaks.later back) (timed b h) end worn (made.runs back (seated k no_clients) (forced_of k) now (sits_fresh V.state V.holds k c.args.v now none stands) (record { image = worn_refl (open_damage now.windows) now.image; windows = refl }) disk).ran result done.same (λ x f at on. done.closes h (known_of x) f at.stands on);
    }

-- another fault has ended it

pub returns-else-is_worn_end : goal.returns-else-is_worn_end
returns-else-is_worn_end g c =
    let M = g.M.Machine in
    let a = c.args.m.now in
    let m = c.make_up.new.m in
    let end = c.in-Err.end in
    let unworn = sym c.is_worn_end.ensures ∙ c.if-is_worn_end.false in
    let made = c.in-Err.ensures in
    let now = M.now a in
    record {
      speaks = speaks_more 1 (speaks_ended end made.speaks);
      forces = record {
        image = made.says.image;
        unworn = λ is. other_end end unworn (err_is _ end (Stopped Ends.WornOut) refl is);
        says = tt;
        quiet = λ h. keeps_end now (M.now m) end (made.says.quiet h);
      };
      used = λ is h. absurd (ok_apart _ None end is refl);
      counts = tt;
      group = λ h k none stands disk.
          counted_broken g.V.Files.state g.V.Files.holds M k (made_up c.args.seed c.args.count) a m m c.make_up.new.v (λ t left le was. was) (made.speaks.later h) (timed_by M g.met.M.Machine.dated g.met.M.Machine.history g.met.M.Machine.counts_now g.met.M.Machine.only_now m h) end unworn (made.runs h (seated k no_clients) (forced_of k) now (sits_fresh g.V.Files.state g.V.Files.holds k c.args.v now none stands) (record { image = worn_refl (open_damage now.windows) now.image; windows = refl }) disk).ran;
    }
