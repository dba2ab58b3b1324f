use Rattle.std.proofs.Common.{◌≡◌, refl, ap, Ok, Err, List, ◌∷◌, Option, Some, None, sym, subst}
use Rattle.sector_disk.specs.Image.{AreShort, Windows}
use Rattle.fsd_texts.specs.declared.command.Command.{Command as Word}
use Rattle.client_desk.specs.Clients.{no_desk}
use Rattle.script_text.specs.Making.{MakesNext, made_left}
use Rattle.volume_turns.specs.Generate.{all_plain, silent}
use Rattle.volume_turns.specs.Turns.{RunsFrom}
use Rattle.fsd_texts.specs.declared.fault.Fault.TheVariants as Ends
use Rattle.volume_turns.specs.declared.turns.Halt.TheVariants.{Fault as Stopped}
use Rattle.volume_turns.proofs.CountLaws.{counted_refused}
use Rattle.volume_turns.proofs.NumberLaws.{ended, goes_none}
use Rattle.fsd_runs.proofs.OtherLaws.{no_scrub}
use Rattle.volume_turns.proofs.OtherLaws.{made_other, not_alone}
use Rattle.volume_turns.proofs.SayLaws.{timed_by}
use Rattle.volume_turns.proofs.ToldLaws.{end_of_page}
use Rattle.volume_turns.proofs.SpeaksLaws.{speaks_done, speaks_ended, speaks_none, speaks_still}
use Rattle.volume_turns.proofs.generate.draw.Goals as goal

pub returns-in-Ok-Some-clause-draws : goal.returns-in-Ok-Some-clause-draws
returns-in-Ok-Some-clause-draws g c h k f from stood aged held =
    let V = g.V.Files in
    let M = g.M.Machine in
    let made : made_left c.args.maker.now ≡ c.in-Ok-Some.c ∷ made_left c.next_command.new.self = subst (λ (o : Option Word). MakesNext (Ok o) c.args.maker.now c.next_command.new.self) c.in-Ok-Some.field-0-is c.in-Ok-Some.ensures in
    subst (λ (cs : List Word). RunsFrom V.state V.holds M silent k f from (all_plain cs) c.args.m.now c.do_counted.new.m (c.do_counted.new.v, no_desk) (Err c.in-Err-do_counted.end)) (sym made)
    (c.in-Err-do_counted.ensures.steps h k f from stood aged held (all_plain (made_left c.next_command.new.self)))

pub returns-clause-draws : goal.returns-clause-draws
returns-clause-draws g c =
    let M = g.M.Machine in
    let m = c.args.m.now in
    counted_refused g.V.Files.state g.V.Files.holds M (made_left c.args.maker.now) c.args.v.now m g.met.V.Files.wears (timed_by M g.met.M.Machine.dated g.met.M.Machine.history g.met.M.Machine.counts_now g.met.M.Machine.only_now m) (λ h from aged. subst (λ (w : Windows). AreShort w) aged.windows (g.met.M.Machine.short m h))

-- ---- what is asked of it

pub do_counted-requires-clause-other : goal.do_counted-requires-clause-other
do_counted-requires-clause-other g c =
    let made : made_left c.args.maker.now ≡ c.in-Ok-Some.c ∷ made_left c.next_command.new.self = subst (λ (o : Option Word). MakesNext (Ok o) c.args.maker.now c.next_command.new.self) c.in-Ok-Some.field-0-is c.in-Ok-Some.ensures in
    not_alone c.in-Ok-Some.c (made_other c.args.maker.now c.next_command.new.self c.in-Ok-Some.c made)

-- ---- what it asks for and keeps

pub returns-in-Ok-clause-speaks : goal.returns-in-Ok-clause-speaks
returns-in-Ok-clause-speaks g c = speaks_done _ (Some c.in-Ok.tally) c.in-Ok.ensures.speaks

pub returns-in-Ok-Some-clause-speaks : goal.returns-in-Ok-Some-clause-speaks
returns-in-Ok-Some-clause-speaks g c = speaks_ended c.in-Err-do_counted.end c.in-Err-do_counted.ensures.speaks

pub returns-in-Ok-None-clause-speaks : goal.returns-in-Ok-None-clause-speaks
returns-in-Ok-None-clause-speaks g c = speaks_still c.args.m.now None

pub returns-clause-speaks : goal.returns-clause-speaks
returns-clause-speaks g c = speaks_none c.args.m.now

pub returns-in-Ok-clause-keeps : goal.returns-in-Ok-clause-keeps
returns-in-Ok-clause-keeps g c = let keeps = c.in-Ok.ensures.keeps in record { layout = keeps.layout; up = keeps.up; desk = keeps.desk }

pub returns-in-Ok-Some-clause-keeps : goal.returns-in-Ok-Some-clause-keeps
returns-in-Ok-Some-clause-keeps g c = let keeps = c.in-Err-do_counted.ensures.keeps in record { layout = keeps.layout; up = tt; desk = keeps.desk }

pub returns-in-Ok-None-clause-keeps : goal.returns-in-Ok-None-clause-keeps
returns-in-Ok-None-clause-keeps g c = record { layout = refl; up = c.requires.up; desk = c.requires.idle }

pub returns-clause-keeps : goal.returns-clause-keeps
returns-clause-keeps g c = record { layout = refl; up = tt; desk = c.requires.idle }

-- ---- nothing is said

pub returns-in-Ok-clause-says : goal.returns-in-Ok-clause-says
returns-in-Ok-clause-says g c = record { quiet = c.in-Ok.ensures.says.quiet; image = tt }

pub returns-in-Ok-Some-clause-says : goal.returns-in-Ok-Some-clause-says
returns-in-Ok-Some-clause-says g c =
    let says = c.in-Err-do_counted.ensures.says in
    let made : made_left c.args.maker.now ≡ c.in-Ok-Some.c ∷ made_left c.next_command.new.self = subst (λ (o : Option Word). MakesNext (Ok o) c.args.maker.now c.next_command.new.self) c.in-Ok-Some.field-0-is c.in-Ok-Some.ensures in
    let other = made_other c.args.maker.now c.next_command.new.self c.in-Ok-Some.c made in
    record {
      quiet = says.quiet;
      image = λ h. end_of_page c.in-Ok-Some.c (no_scrub c.in-Ok-Some.c other) (g.V.Files.state c.args.v.now).layout (g.M.Machine.now c.do_counted.new.m).image c.in-Err-do_counted.end (says.image h);
    }

pub returns-in-Ok-None-clause-says : goal.returns-in-Ok-None-clause-says
returns-in-Ok-None-clause-says g c = record { quiet = λ h. refl; image = tt }

pub returns-clause-says : goal.returns-clause-says
returns-clause-says g c = record { quiet = λ h. refl; image = λ h. tt }

-- ---- the numbers of a mount

pub returns-in-Ok-clause-numbers : goal.returns-in-Ok-clause-numbers
returns-in-Ok-clause-numbers g c = record { grows = c.in-Ok.ensures.numbers.grows; used = λ is h. absurd (cc is) }

pub returns-in-Ok-Some-clause-numbers : goal.returns-in-Ok-Some-clause-numbers
returns-in-Ok-Some-clause-numbers g c =
    let numbers = c.in-Err-do_counted.ensures.numbers in
    record {
      grows = numbers.grows;
      used = λ is h. let e : c.in-Err-do_counted.end ≡ Stopped Ends.WornOut = cc is in numbers.used (ap ended e) h;
    }

pub returns-in-Ok-None-clause-numbers : goal.returns-in-Ok-None-clause-numbers
returns-in-Ok-None-clause-numbers g c = record { grows = λ h. goes_none 1 (g.V.Files.state c.args.v.now) (g.V.Files.state c.args.v.now) refl; used = λ is h. absurd (cc is) }

pub returns-clause-numbers : goal.returns-clause-numbers
returns-clause-numbers g c = record { grows = λ h. goes_none 1 (g.V.Files.state c.args.v.now) (g.V.Files.state c.args.v.now) refl; used = λ is h. absurd (cc is) }
