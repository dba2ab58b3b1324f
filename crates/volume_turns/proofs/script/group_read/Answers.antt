use Rattle.std.proofs.Common.{Ok, List, refl, sym, ◌∙◌, ap, subst, arith}
use Rattle.std.specs.Prelude.{Result}
use Rattle.fsd_texts.specs.declared.end.End.TheVariants.{Done}
use Rattle.fsd_texts.specs.declared.fault.Fault.TheVariants as Ends
use Rattle.fsd_texts.specs.Script.{script_in}
use Rattle.volume_turns.specs.declared.script.Stop.{Stop}
use Rattle.volume_turns.specs.declared.script.Stop.TheVariants.{Ended, WornOut}
use Rattle.volume_turns.specs.declared.turns.Halt.{Halt}
use Rattle.volume_turns.specs.declared.turns.Halt.TheVariants.{Fault as Stopped}
use Rattle.fsd_files.specs.Desk.{no_clients}
use Rattle.client_desk.specs.declared.client.Client.{Client}
use Rattle.client_desk.specs.Clients.{IsDesk}
use Rattle.client_desk.proofs.FinishLaws.{sits_fresh}
use Rattle.volume_turns.specs.Seats.{SitsAt, seated}
use Rattle.volume_turns.proofs.ApartLaws.{err_is, ok_apart}
use Rattle.volume_turns.proofs.CauseLaws.{passes_on, read_ends, read_not_worn, worn_apart}
use Rattle.volume_turns.proofs.EachLaws.{each_more, forced_by}
use Rattle.volume_turns.proofs.GroupLaws.{worn_is}
use Rattle.volume_turns.proofs.LineLaws.{wanting_end, wanting_none, wanting_same}
use Rattle.volume_turns.proofs.NumberLaws.{ended, other_end, passed_on}
use Rattle.volume_turns.proofs.ReadingLaws.{reading_of, reading_then, reading_worn}
use Rattle.volume_turns.proofs.SaidLaws.{broken_by, worn_whole}
use Rattle.volume_turns.proofs.SayLaws.{timed_by}
use Rattle.volume_turns.proofs.ScriptGroupLaws.{group_broken, group_stopped, group_worn_out}
use Rattle.volume_turns.proofs.ScriptLaws.{rose_forced}
use Rattle.volume_turns.proofs.SyncLaws.{syncs_forced, syncs_unforced}
use Rattle.volume_turns.proofs.ToldLaws.{told_behind}
use Rattle.volume_turns.proofs.script.group_read.Goals as goal

pub read_all-requires-clause-desk : goal.read_all-requires-clause-desk
read_all-requires-clause-desk g c = subst (λ (d : List Client). IsDesk (g.V.Files.state c.args.v) d) (sym c.new-desk.ensures.idle) c.requires.idle

abbrev came_to : Stop → Result Stop Halt
came_to stop = Ok stop

pub returns-in-Ok : goal.returns-in-Ok
returns-in-Ok g c =
    let V = g.V.Files in
    let M = g.M.Machine in
    let a = c.args.m.now in
    let m = c.read_all.new.m in
    let b = c.force_read.new.m in
    let stop = c.in-Ok.stop in
    let read = c.in-Ok.ensures in
    let done = c.force_read.ensures in
    let result = c.force_read.result in
    record {
      speaks = reading_then read.speaks (reading_of done.speaks);
      breaks = record {
        broken = λ h. broken_by g.T.Says.errand.says (M.now a) (M.now m) (M.now b) result (read.says.read.whole_replies (done.speaks.trust.honest h)) (done.forces.quiet h);
        image = told_behind (V.state c.args.v).layout (V.state c.read_all.new.v).layout read.keeps.layout (M.honest b) (M.now b).image result done.forces.image;
        unworn = done.forces.unworn;
      };
      input = record {
        rose = rose_forced (M.report a) (M.report m) (M.report b) stop result read.input.rose done.speaks.told.input done.same;
        memory = wanting_none (M.report a) (M.report b) result (done.wants read.keeps.up);
      };
      script = record {
        ends = λ end is t. read_ends V.state V.holds M g.T.Says.errand (c.args.v, c.new-desk.result) a (c.read_all.new.v, c.read_all.new.desk) m stop end (read.reads (done.speaks.trust.tells t)) (passes_on stop end result done.same is);
        whole = λ is t. (done.speaks.ledger t).input ∙ read.input.whole (ap came_to (passes_on stop Done result done.same is)) (done.speaks.trust.tells t);
        says = λ end is h t le.
            let says = g.T.Says.errand.says in
            let commands = (script_in (M.ledger a).input).0 in
            let back = done.speaks.trust.honest h in
            let reached = read.speaks.later back in
            let each = read.says.replies end (ap came_to (passes_on stop end result done.same is)) back t le in
            forced_by says (M.left_since b t) commands (M.honest b) (M.now a) (M.now m) (M.now b) (Ended end) result is
            (each_more says (M.left_since m t) (M.left_since b t) (λ at was. done.speaks.since h t at (omega (arith, le, reached)) was) commands (M.now a).said (M.now m).said each) done.forces.says h;
        syncs = λ h. syncs_forced g.T.Says.errand.forces (script_in (M.ledger a).input).0 (M.ledger a) (M.ledger m) (M.ledger b) (read.input.syncs (done.speaks.trust.honest h)) (done.speaks.ledger (g.met.M.Machine.honest_tells b h));
      };
      used = λ is h. let worn = passed_on stop WornOut result done.same is in
          absurd (read_not_worn V.state V.holds M g.T.Says.errand (c.args.v, c.new-desk.result) a (c.read_all.new.v, c.read_all.new.desk) m stop (sym worn) (read.reads (done.speaks.trust.tells (g.met.M.Machine.honest_tells b h))));
      group = λ h k none stands disk. let back = done.speaks.trust.honest h in
          let timed = timed_by M g.met.M.Machine.dated g.met.M.Machine.history g.met.M.Machine.counts_now g.met.M.Machine.only_now in
          group_stopped V.state V.holds M g.T.Says.errand k (c.args.v, c.new-desk.result) (c.read_all.new.v, c.read_all.new.desk) a m b (done.speaks.since h) (read.speaks.later back) (timed b h) back (subst (λ (d : List Client). SitsAt V.state V.holds (c.args.v, d) (seated k no_clients) (M.now a)) (sym c.new-desk.ensures.idle) (sits_fresh V.state V.holds k c.args.v (M.now a) none stands)) disk (done.speaks.ledger (g.met.M.Machine.honest_tells b h)).input done.speaks.told.input
          stop result done.same read.input.rose (read.reads (g.met.M.Machine.honest_tells m back)) (λ x f at on. done.closes h x f at on);
    }

-- the mount is worn out

pub returns-then-is_worn_end : goal.returns-then-is_worn_end
returns-then-is_worn_end g c =
    let V = g.V.Files in
    let M = g.M.Machine in
    let a = c.args.m.now in
    let m = c.read_all.new.m in
    let b = c.force_read-then-is_worn_end.new.m in
    let end = c.in-Err.end in
    let worn = sym c.is_worn_end.ensures ∙ c.if-is_worn_end.true in
    let read = c.in-Err.ensures in
    let done = c.force_read-then-is_worn_end.ensures in
    let result = c.force_read-then-is_worn_end.result in
    record {
      speaks = reading_then (reading_worn end worn read.speaks) (reading_of done.speaks);
      breaks = record {
        broken = λ h. let says = g.T.Says.errand.says in
            broken_by says (M.now a) (M.now m) (M.now b) result (worn_whole says (M.now a) (M.now m) end worn (read.says.read.whole_replies (done.speaks.trust.honest h))) (done.forces.quiet h);
        image = told_behind (V.state c.args.v).layout (V.state c.read_all.new.v).layout read.keeps.layout (M.honest b) (M.now b).image result done.forces.image;
        unworn = done.forces.unworn;
      };
      input = record {
        rose = rose_forced (M.report a) (M.report m) (M.report b) WornOut result read.input.quiet done.speaks.told.input done.same;
        memory = wanting_same (M.report a) (M.report b) (done.speaks.told.input ∙ read.input.quiet) result;
      };
      script = record {
        ends = λ end is t. absurd (worn_apart end result done.same is);
        whole = λ is t. absurd (worn_apart Done result done.same is);
        says = λ end is h t le. absurd (worn_apart end result done.same is);
        syncs = λ h. syncs_forced g.T.Says.errand.forces (script_in (M.ledger a).input).0 (M.ledger a) (M.ledger m) (M.ledger b) (read.input.syncs (done.speaks.trust.honest h)) (done.speaks.ledger (g.met.M.Machine.honest_tells b h));
      };
      used = λ is h. read.used (ap ended (worn_is end worn)) (done.speaks.trust.honest h);
      group = λ h k none stands disk. let back = done.speaks.trust.honest h in
          let timed = timed_by M g.met.M.Machine.dated g.met.M.Machine.history g.met.M.Machine.counts_now g.met.M.Machine.only_now in
          group_worn_out V.state V.holds M g.T.Says.errand k (c.args.v, c.new-desk.result) (c.read_all.new.v, c.read_all.new.desk) a m b (done.speaks.since h) (read.speaks.later back) (timed b h) back (subst (λ (d : List Client). SitsAt V.state V.holds (c.args.v, d) (seated k no_clients) (M.now a)) (sym c.new-desk.ensures.idle) (sits_fresh V.state V.holds k c.args.v (M.now a) none stands)) disk end worn result done.same (read.reads (g.met.M.Machine.honest_tells m back)) (λ x f at on. done.closes h x f at on);
    }

-- another fault has ended it

pub returns-else-is_worn_end : goal.returns-else-is_worn_end
returns-else-is_worn_end g c =
    let V = g.V.Files in
    let M = g.M.Machine in
    let a = c.args.m.now in
    let m = c.read_all.new.m in
    let end = c.in-Err.end in
    let unworn = sym c.is_worn_end.ensures ∙ c.if-is_worn_end.false in
    let read = c.in-Err.ensures in
    record {
      speaks = read.speaks;
      breaks = record {
        broken = read.says.read.whole_replies;
        image = read.says.read.image;
        unworn = λ is. other_end end unworn (err_is _ end (Stopped Ends.WornOut) refl is);
      };
      input = record {
        rose = tt;
        memory = wanting_end (M.report a) (M.report m) read.input.quiet end;
      };
      script = record {
        ends = λ ended is t. absurd (ok_apart _ (Ended ended) end is refl);
        whole = λ is t. absurd (ok_apart _ (Ended Done) end is refl);
        says = λ ended is h t le. absurd (ok_apart _ (Ended ended) end is refl);
        syncs = λ h. syncs_unforced g.T.Says.errand.forces (script_in (M.ledger a).input).0 (M.ledger a) (M.ledger m) (read.input.syncs h);
      };
      used = λ is h. absurd (ok_apart _ WornOut end is refl);
      group = λ h k none stands disk. let timed = timed_by M g.met.M.Machine.dated g.met.M.Machine.history g.met.M.Machine.counts_now g.met.M.Machine.only_now in
          group_broken V.state V.holds M g.T.Says.errand k (c.args.v, c.new-desk.result) (c.read_all.new.v, c.read_all.new.desk) a m m (λ t left le was. was) (read.speaks.later h) (timed m h) h (subst (λ (d : List Client). SitsAt V.state V.holds (c.args.v, d) (seated k no_clients) (M.now a)) (sym c.new-desk.ensures.idle) (sits_fresh V.state V.holds k c.args.v (M.now a) none stands)) disk end unworn (read.reads (g.met.M.Machine.honest_tells m h));
    }
