use Rattle.std.proofs.Common.{◌≡◌, ℕ, List, Ok, Err, [], ◌∷◌, Option, Some, None, refl, sym, ◌∙◌, ap, subst, arith}
use Rattle.sector_disk.specs.Machine.{Ledger}
use Rattle.fsd_texts.specs.declared.fault.Fault.TheVariants as Ends
use Rattle.volume_turns.specs.declared.turns.Halt.TheVariants.{Fault as Stopped}
use Rattle.fsd_texts.specs.declared.script_command.ScriptCommand.{ScriptCommand as Word}
use Rattle.script_text.specs.declared.fault.ScriptFault.{ScriptFault}
use Rattle.script_text.specs.Reading.{AnswersScript, IsSpelledCommand, NoneWaits, end_with, script_left}
use Rattle.script_text.specs.Taking.{MovesInput}
use Rattle.fsd_texts.specs.declared.bad_line.BadLine.{BadLine}
use Rattle.fsd_texts.specs.declared.end.End.TheVariants.{Bad, Done}
use Rattle.volume_turns.specs.Each.{SyncsRead}
use Rattle.volume_turns.specs.Script.{ReadsScript}
use Rattle.volume_turns.specs.declared.script.Stop.TheVariants.{Ended}
use Rattle.volume_turns.proofs.ApartLaws.{bad_done, err_is, input_done, long_done, memory_worn, nothing_done, ok_apart}
use Rattle.volume_turns.proofs.ScriptLaws.{ended_so, moves_spells, none_done, none_read, one_done, one_stops}
use Rattle.volume_turns.proofs.CauseLaws.{none_left}
use Rattle.volume_turns.proofs.NumberLaws.{ended, goes_none}
use Rattle.volume_turns.proofs.OtherLaws.{not_alone_in, read_other, spelled_other}
use Rattle.volume_turns.proofs.ReadingLaws.{reading_done, reading_ended, reading_of, reading_taken, reading_then, reading_wanted}
use Rattle.volume_turns.proofs.SaidLaws.{no_replies, replies_then, whole_then}
use Rattle.volume_turns.proofs.SayLaws.{timed_by}
use Rattle.volume_turns.proofs.SyncLaws.{syncs_ended, syncs_first, syncs_taken}
use Rattle.volume_turns.proofs.ToldLaws.{end_of_page_in}
use Rattle.volume_turns.proofs.script.read_on.Goals as goal

pub returns-in-Ok-clause-reads : goal.returns-in-Ok-clause-reads
returns-in-Ok-clause-reads g c t =
    let V = g.V.Files in
    let M = g.M.Machine in
    let a = c.args.m.now in
    let m = c.next_command.new.m in
    let calls = c.next_command.ensures.calls in
    let back = c.step.ensures.speaks.trust.tells t in
    let moves = subst (λ (o : Option Word). MovesInput (Ok o) c.args.reader.now c.next_command.new.self (M.ledger a) (M.ledger m)) c.in-Ok-Some.field-0-is (c.in-Ok-Some.ensures.moves back) in
    one_done V.state V.holds M g.T.Says.errand g.met.V.Files.wears (λ x h. g.met.M.Machine.short x h) (timed_by M g.met.M.Machine.dated g.met.M.Machine.history g.met.M.Machine.counts_now g.met.M.Machine.only_now) (c.args.v.now, c.args.desk.now) a m calls.trust.honest calls.exit calls.any_moment calls.since
    c.args.reader.now c.next_command.new.self c.in-Ok-Some.c (c.step.new.v, c.step.new.desk) c.step.new.m (record { honest = c.step.ensures.speaks.trust.honest; since = c.step.ensures.speaks.since; later = c.step.ensures.speaks.later })
    (moves_spells _ c.args.reader.now c.next_command.new.self (M.ledger a) (M.ledger m) (M.ledger c.step.new.m).input (c.in-Ok-Some.c ∷ []) (c.step.ensures.speaks.ledger t).input moves (λ rest ahead. ahead)) c.step.ensures.speaks.later c.in-Ok.ensures.steps
    (λ t h le. g.met.M.Machine.counts_now c.step.new.m t h le) c.in-Ok.ensures.says.once

pub returns-in-Ok-Some-clause-reads : goal.returns-in-Ok-Some-clause-reads
returns-in-Ok-Some-clause-reads g c t =
    let V = g.V.Files in
    let M = g.M.Machine in
    let a = c.args.m.now in
    let m = c.next_command.new.m in
    let calls = c.next_command.ensures.calls in
    let back = c.step.ensures.speaks.trust.tells t in
    let now = script_left c.next_command.new.self (M.ledger m).input in
    let script = subst (λ (o : Option Word). AnswersScript (Ok o) (script_left c.args.reader.now (M.ledger a).input) now) c.in-Ok-Some.field-0-is (c.in-Ok-Some.ensures.script back) in
    one_stops V.state V.holds M g.T.Says.errand g.met.V.Files.wears (λ x h. g.met.M.Machine.short x h) (timed_by M g.met.M.Machine.dated g.met.M.Machine.history g.met.M.Machine.counts_now g.met.M.Machine.only_now) (c.args.v.now, c.args.desk.now) a m calls.trust.honest calls.exit calls.any_moment calls.since
    c.args.reader.now c.next_command.new.self c.in-Ok-Some.c (c.step.new.v, c.step.new.desk) c.step.new.m (record { honest = c.step.ensures.speaks.trust.honest; since = c.step.ensures.speaks.since; later = c.step.ensures.speaks.later }) c.in-Err.end now script c.in-Err.ensures.steps

pub returns-in-Ok-None-clause-reads : goal.returns-in-Ok-None-clause-reads
returns-in-Ok-None-clause-reads g c t =
    let V = g.V.Files in
    let M = g.M.Machine in
    let a = c.args.m.now in
    let m = c.next_command.new.m in
    let calls = c.next_command.ensures.calls in
    let script = subst (λ (o : Option Word). AnswersScript (Ok o) (script_left c.args.reader.now (M.ledger a).input) (script_left c.next_command.new.self (M.ledger m).input)) c.in-Ok-None.field-0-is (c.in-Ok-None.ensures.script t) in
    ended_so V.state V.holds M g.T.Says.errand g.met.V.Files.wears (λ x h. g.met.M.Machine.short x h) (timed_by M g.met.M.Machine.dated g.met.M.Machine.history g.met.M.Machine.counts_now g.met.M.Machine.only_now) (c.args.v.now, c.args.desk.now) a m calls.trust.honest calls.exit calls.any_moment calls.since
    c.args.reader.now c.next_command.new.self _ script.0

pub returns-in-Err-Bad-clause-reads : goal.returns-in-Err-Bad-clause-reads
returns-in-Err-Bad-clause-reads g c t =
    let V = g.V.Files in
    let M = g.M.Machine in
    let a = c.args.m.now in
    let m = c.next_command.new.m in
    let calls = c.next_command.ensures.calls in
    let script = subst (λ (f : ScriptFault). AnswersScript (Err f) (script_left c.args.reader.now (M.ledger a).input) (script_left c.next_command.new.self (M.ledger m).input)) c.in-Err-Bad.field-0-is (c.in-Err-Bad.ensures.script t) in
    subst (λ (x : BadLine). ReadsScript V.state V.holds M g.T.Says.errand c.args.reader.now c.next_command.new.self (c.args.v.now, c.args.desk.now) a (c.args.v.now, c.args.desk.now) m (Ok (Some (Ended (Bad x))))) (sym c.in-Err-Bad.bad-is)
    (ended_so V.state V.holds M g.T.Says.errand g.met.V.Files.wears (λ x h. g.met.M.Machine.short x h) (timed_by M g.met.M.Machine.dated g.met.M.Machine.history g.met.M.Machine.counts_now g.met.M.Machine.only_now) (c.args.v.now, c.args.desk.now) a m calls.trust.honest calls.exit calls.any_moment calls.since
    c.args.reader.now c.next_command.new.self _ script.0)

pub returns-in-Err-TooLong-clause-reads : goal.returns-in-Err-TooLong-clause-reads
returns-in-Err-TooLong-clause-reads g c t =
    let V = g.V.Files in
    let M = g.M.Machine in
    let a = c.args.m.now in
    let m = c.next_command.new.m in
    let calls = c.next_command.ensures.calls in
    let script = subst (λ (f : ScriptFault). AnswersScript (Err f) (script_left c.args.reader.now (M.ledger a).input) (script_left c.next_command.new.self (M.ledger m).input)) c.in-Err-TooLong.field-0-is (c.in-Err-TooLong.ensures.script t) in
    ended_so V.state V.holds M g.T.Says.errand g.met.V.Files.wears (λ x h. g.met.M.Machine.short x h) (timed_by M g.met.M.Machine.dated g.met.M.Machine.history g.met.M.Machine.counts_now g.met.M.Machine.only_now) (c.args.v.now, c.args.desk.now) a m calls.trust.honest calls.exit calls.any_moment calls.since
    c.args.reader.now c.next_command.new.self _ script.0

pub returns-in-Err-Input-clause-reads : goal.returns-in-Err-Input-clause-reads
returns-in-Err-Input-clause-reads g c t =
    let V = g.V.Files in
    let M = g.M.Machine in
    let a = c.args.m.now in
    let m = c.next_command.new.m in
    let calls = c.next_command.ensures.calls in
    let moves = subst (λ (f : ScriptFault). MovesInput (Err f) c.args.reader.now c.next_command.new.self (M.ledger a) (M.ledger m)) c.in-Err-Input.field-0-is (c.in-Err-Input.ensures.moves t) in
    record {
      done = [];
      taken = moves_spells _ c.args.reader.now c.next_command.new.self (M.ledger a) (M.ledger m) (M.ledger m).input [] refl moves (λ rest ahead. ahead);
      runs = none_done V.state V.holds M g.T.Says.errand g.met.V.Files.wears (λ x h. g.met.M.Machine.short x h) (timed_by M g.met.M.Machine.dated g.met.M.Machine.history g.met.M.Machine.counts_now g.met.M.Machine.only_now) (c.args.v.now, c.args.desk.now) a m calls.trust.honest calls.exit calls.any_moment calls.since;
      still = subst (λ (f : ScriptFault). c.next_command.new.self.end ≡ end_with (Err f)) c.in-Err-Input.field-0-is c.in-Err-Input.ensures.counts.ended;
      short = subst (λ (f : ScriptFault). NoneWaits (Err f) c.next_command.new.self.waiting) c.in-Err-Input.field-0-is c.in-Err-Input.ensures.whole.waits;
    }

pub returns-clause-reads : goal.returns-clause-reads
returns-clause-reads g c t =
    let V = g.V.Files in
    let M = g.M.Machine in
    let a = c.args.m.now in
    let m = c.next_command.new.m in
    let calls = c.next_command.ensures.calls in
    none_read V.state V.holds M g.T.Says.errand g.met.V.Files.wears (λ x h. g.met.M.Machine.short x h) (timed_by M g.met.M.Machine.dated g.met.M.Machine.history g.met.M.Machine.counts_now g.met.M.Machine.only_now) (c.args.v.now, c.args.desk.now) a m calls.trust.honest calls.exit calls.any_moment calls.since
    (script_left c.args.reader.now (M.ledger a).input).0

-- ---- what is asked of a command

pub step-requires-clause-other : goal.step-requires-clause-other
step-requires-clause-other g c =
    let spelled = subst (λ (o : Option Word). IsSpelledCommand (Ok o)) c.in-Ok-Some.field-0-is c.in-Ok-Some.ensures.whole.spelled in
    not_alone_in c.in-Ok-Some.c (spelled_other c.in-Ok-Some.c spelled)

-- ---- what it asks for and keeps

pub returns-in-Ok-clause-speaks : goal.returns-in-Ok-clause-speaks
returns-in-Ok-clause-speaks g c = reading_done _ None (reading_then (reading_taken c.next_command.ensures.calls (λ t. ap (λ (l : Ledger). l.attaches) (c.next_command.ensures.moves t).left)) (reading_of c.in-Ok.ensures.speaks))

pub returns-in-Ok-Some-clause-speaks : goal.returns-in-Ok-Some-clause-speaks
returns-in-Ok-Some-clause-speaks g c = reading_ended c.in-Err.end (reading_then (reading_taken c.next_command.ensures.calls (λ t. ap (λ (l : Ledger). l.attaches) (c.next_command.ensures.moves t).left)) (reading_of c.in-Err.ensures.speaks))

pub returns-in-Ok-None-clause-speaks : goal.returns-in-Ok-None-clause-speaks
returns-in-Ok-None-clause-speaks g c = reading_done tt _ (reading_taken c.next_command.ensures.calls (λ t. ap (λ (l : Ledger). l.attaches) (c.next_command.ensures.moves t).left))

pub returns-in-Err-Bad-clause-speaks : goal.returns-in-Err-Bad-clause-speaks
returns-in-Err-Bad-clause-speaks g c = reading_done tt _ (reading_taken c.next_command.ensures.calls (λ t. ap (λ (l : Ledger). l.attaches) (c.next_command.ensures.moves t).left))

pub returns-in-Err-TooLong-clause-speaks : goal.returns-in-Err-TooLong-clause-speaks
returns-in-Err-TooLong-clause-speaks g c = reading_done tt _ (reading_taken c.next_command.ensures.calls (λ t. ap (λ (l : Ledger). l.attaches) (c.next_command.ensures.moves t).left))

pub returns-in-Err-Input-clause-speaks : goal.returns-in-Err-Input-clause-speaks
returns-in-Err-Input-clause-speaks g c = reading_done tt _ (reading_taken c.next_command.ensures.calls (λ t. ap (λ (l : Ledger). l.attaches) (c.next_command.ensures.moves t).left))

pub returns-clause-speaks : goal.returns-clause-speaks
returns-clause-speaks g c = reading_wanted tt (reading_taken c.next_command.ensures.calls (λ t. ap (λ (l : Ledger). l.attaches) (c.next_command.ensures.moves t).left))

pub returns-in-Ok-clause-keeps : goal.returns-in-Ok-clause-keeps
returns-in-Ok-clause-keeps g c = let keeps = c.in-Ok.ensures.keeps in record { layout = keeps.layout; up = keeps.up; desk = keeps.desk }

pub returns-in-Ok-Some-clause-keeps : goal.returns-in-Ok-Some-clause-keeps
returns-in-Ok-Some-clause-keeps g c = let keeps = c.in-Err.ensures.keeps in record { layout = keeps.layout; up = tt; desk = keeps.desk }

pub returns-in-Ok-None-clause-keeps : goal.returns-in-Ok-None-clause-keeps
returns-in-Ok-None-clause-keeps g c = record { layout = refl; up = c.requires.up; desk = c.requires.desk }

pub returns-in-Err-Bad-clause-keeps : goal.returns-in-Err-Bad-clause-keeps
returns-in-Err-Bad-clause-keeps g c = record { layout = refl; up = c.requires.up; desk = c.requires.desk }

pub returns-in-Err-TooLong-clause-keeps : goal.returns-in-Err-TooLong-clause-keeps
returns-in-Err-TooLong-clause-keeps g c = record { layout = refl; up = c.requires.up; desk = c.requires.desk }

pub returns-in-Err-Input-clause-keeps : goal.returns-in-Err-Input-clause-keeps
returns-in-Err-Input-clause-keeps g c = record { layout = refl; up = c.requires.up; desk = c.requires.desk }

pub returns-clause-keeps : goal.returns-clause-keeps
returns-clause-keeps g c = record { layout = refl; up = tt; desk = c.requires.desk }

-- ---- what is read of the input

pub returns-in-Ok-clause-input : goal.returns-in-Ok-clause-input
returns-in-Ok-clause-input g c =
    let at = rw c.in-Ok-Some.field-0-is at c.in-Ok-Some.ensures in
    record {
      rose = c.in-Ok.ensures.speaks.told.input ∙ at.calls.spares.input;
      quiet = tt;
      whole = λ is still t. absurd (nothing_done _ is refl);
      on = (at.counts.counted, at.counts.ended, let few = at.counts.few in let most = at.counts.most_while_open at.counts.ended in omega (arith, few, most));
      few = at.counts.most_while_open;
      syncs = λ h.
          let M = g.M.Machine in
          let a = M.ledger c.args.m.now in
          let m = M.ledger c.next_command.new.m in
          let b = M.ledger c.step.new.m in
          let tells = g.met.M.Machine.honest_tells c.step.new.m h in
          let back = c.step.ensures.speaks.trust.tells tells in
          let forces = g.T.Says.errand.forces in
          let before = script_left c.args.reader.now a.input in
          let now = script_left c.next_command.new.self m.input in
          let script = subst (λ (o : Option Word). AnswersScript (Ok o) before now) c.in-Ok-Some.field-0-is (c.in-Ok-Some.ensures.script back) in
          subst (λ (input : List ℕ). SyncsRead forces 0 before.0 (script_left c.next_command.new.self input).0 a b) (sym (c.step.ensures.speaks.ledger tells).input)
          (syncs_first forces c.in-Ok-Some.c before now a m b script (ap (λ (l : Ledger). l.syncs) (c.next_command.ensures.moves back).left) (c.step.ensures.says.syncs h));
    }

pub returns-in-Ok-Some-clause-input : goal.returns-in-Ok-Some-clause-input
returns-in-Ok-Some-clause-input g c =
    let at = rw c.in-Ok-Some.field-0-is at c.in-Ok-Some.ensures in
    record {
      rose = tt;
      quiet = c.in-Err.ensures.speaks.told.input ∙ at.calls.spares.input;
      whole = λ is still t. absurd (ok_apart _ (Some (Ended Done)) c.in-Err.end is refl);
      on = tt;
      few = at.counts.most_while_open;
      syncs = λ h.
          let M = g.M.Machine in
          let a = M.ledger c.args.m.now in
          let m = M.ledger c.next_command.new.m in
          let b = M.ledger c.step.new.m in
          let tells = g.met.M.Machine.honest_tells c.step.new.m h in
          let back = c.step.ensures.speaks.trust.tells tells in
          let forces = g.T.Says.errand.forces in
          let before = script_left c.args.reader.now a.input in
          let now = script_left c.next_command.new.self m.input in
          let script = subst (λ (o : Option Word). AnswersScript (Ok o) before now) c.in-Ok-Some.field-0-is (c.in-Ok-Some.ensures.script back) in
          syncs_ended forces 0 before.0 now.0 a b (syncs_first forces c.in-Ok-Some.c before now a m b script (ap (λ (l : Ledger). l.syncs) (c.next_command.ensures.moves back).left) (c.step.ensures.says.syncs h));
    }

pub returns-in-Ok-None-clause-input : goal.returns-in-Ok-None-clause-input
returns-in-Ok-None-clause-input g c =
    let M = g.M.Machine in
    let a = c.args.m.now in
    let m = c.next_command.new.m in
    let at = rw c.in-Ok-None.field-0-is at c.in-Ok-None.ensures in
    record {
      rose = at.calls.spares.input;
      quiet = tt;
      whole = λ is still t.
          let script = subst (λ (o : Option Word). AnswersScript (Ok o) (script_left c.args.reader.now (M.ledger a).input) (script_left c.next_command.new.self (M.ledger m).input)) c.in-Ok-None.field-0-is (c.in-Ok-None.ensures.script t) in
          let moves = c.in-Ok-None.ensures.moves t in
          none_left c.args.reader.now (M.ledger a) (M.ledger m) moves.count still script.0 moves.left;
      on = tt;
      few = at.counts.most_while_open;
      syncs = λ h. let moves = c.next_command.ensures.moves (g.met.M.Machine.honest_tells c.next_command.new.m h) in syncs_taken g.T.Says.errand.forces (script_left c.args.reader.now (g.M.Machine.ledger c.args.m.now).input).0 (g.M.Machine.ledger c.args.m.now) (g.M.Machine.ledger c.next_command.new.m) moves.count moves.left;
    }

pub returns-in-Err-Bad-clause-input : goal.returns-in-Err-Bad-clause-input
returns-in-Err-Bad-clause-input g c =
    let at = rw c.in-Err-Bad.field-0-is at c.in-Err-Bad.ensures in
    record { rose = at.calls.spares.input; quiet = tt; whole = λ is still t. absurd (bad_done _ is _ refl); on = tt; few = at.counts.most_while_open; syncs = λ h. let moves = c.next_command.ensures.moves (g.met.M.Machine.honest_tells c.next_command.new.m h) in syncs_taken g.T.Says.errand.forces (script_left c.args.reader.now (g.M.Machine.ledger c.args.m.now).input).0 (g.M.Machine.ledger c.args.m.now) (g.M.Machine.ledger c.next_command.new.m) moves.count moves.left }

pub returns-in-Err-TooLong-clause-input : goal.returns-in-Err-TooLong-clause-input
returns-in-Err-TooLong-clause-input g c =
    let at = rw c.in-Err-TooLong.field-0-is at c.in-Err-TooLong.ensures in
    record { rose = at.calls.spares.input; quiet = tt; whole = λ is still t. absurd (long_done _ is refl); on = tt; few = at.counts.most_while_open; syncs = λ h. let moves = c.next_command.ensures.moves (g.met.M.Machine.honest_tells c.next_command.new.m h) in syncs_taken g.T.Says.errand.forces (script_left c.args.reader.now (g.M.Machine.ledger c.args.m.now).input).0 (g.M.Machine.ledger c.args.m.now) (g.M.Machine.ledger c.next_command.new.m) moves.count moves.left }

pub returns-in-Err-Input-clause-input : goal.returns-in-Err-Input-clause-input
returns-in-Err-Input-clause-input g c =
    let at = rw c.in-Err-Input.field-0-is at c.in-Err-Input.ensures in
    record { rose = at.calls.spares.input; quiet = tt; whole = λ is still t. absurd (input_done _ is refl); on = tt; few = at.counts.most_while_open; syncs = λ h. let moves = c.next_command.ensures.moves (g.met.M.Machine.honest_tells c.next_command.new.m h) in syncs_taken g.T.Says.errand.forces (script_left c.args.reader.now (g.M.Machine.ledger c.args.m.now).input).0 (g.M.Machine.ledger c.args.m.now) (g.M.Machine.ledger c.next_command.new.m) moves.count moves.left }

pub returns-clause-input : goal.returns-clause-input
returns-clause-input g c =
    let at = rw c.in-Err-Memory.field-0-is at c.in-Err-Memory.ensures in
    record { rose = tt; quiet = at.calls.spares.input; whole = λ is still t. absurd (ok_apart _ (Some (Ended Done)) (Stopped Ends.Memory) is refl); on = tt; few = at.counts.most_while_open; syncs = λ h. let moves = c.next_command.ensures.moves (g.met.M.Machine.honest_tells c.next_command.new.m h) in syncs_taken g.T.Says.errand.forces (script_left c.args.reader.now (g.M.Machine.ledger c.args.m.now).input).0 (g.M.Machine.ledger c.args.m.now) (g.M.Machine.ledger c.next_command.new.m) moves.count moves.left }

-- ---- what is said

pub returns-in-Ok-clause-says : goal.returns-in-Ok-clause-says
returns-in-Ok-clause-says g c =
    let now = g.M.Machine.now in
    let says = g.T.Says.errand.says in
    let quiet = λ (h : g.M.Machine.honest c.step.new.m). (c.next_command.ensures.calls.exit (c.step.ensures.speaks.trust.honest h)).said in
    record {
      whole_replies = λ h. replies_then says (now c.args.m.now).said (now c.next_command.new.m).said (now c.step.new.m).said (no_replies says (now c.args.m.now).said (now c.next_command.new.m).said (quiet h)) (c.in-Ok.ensures.says.whole_replies h);
      image = tt;
    }

pub returns-in-Ok-Some-clause-says : goal.returns-in-Ok-Some-clause-says
returns-in-Ok-Some-clause-says g c =
    let M = g.M.Machine in
    let says = g.T.Says.errand.says in
    let a = c.args.m.now in
    let m = c.next_command.new.m in
    let b = c.step.new.m in
    record {
      whole_replies = λ h.
          let quiet = (c.next_command.ensures.calls.exit (c.step.ensures.speaks.trust.honest h)).said in
          whole_then says (M.now a) (M.now m) (M.now b) c.in-Err.end (no_replies says (M.now a).said (M.now m).said quiet) (c.in-Err.ensures.says.whole_replies h);
      image = λ h.
          let tells = g.met.M.Machine.honest_tells m (c.step.ensures.speaks.trust.honest h) in
          let script = subst (λ (o : Option Word). AnswersScript (Ok o) (script_left c.args.reader.now (M.ledger a).input) (script_left c.next_command.new.self (M.ledger m).input)) c.in-Ok-Some.field-0-is (c.in-Ok-Some.ensures.script tells) in
          let other = read_other c.args.reader.now c.next_command.new.self (M.ledger a).input (M.ledger m).input c.in-Ok-Some.c script in
          end_of_page_in c.in-Ok-Some.c other (g.V.Files.state c.args.v.now).layout (M.now b).image c.in-Err.end (c.in-Err.ensures.image h);
    }

pub returns-in-Ok-None-clause-says : goal.returns-in-Ok-None-clause-says
returns-in-Ok-None-clause-says g c = record { whole_replies = λ h. no_replies g.T.Says.errand.says (g.M.Machine.now c.args.m.now).said (g.M.Machine.now c.next_command.new.m).said (c.next_command.ensures.calls.exit h).said; image = tt }

pub returns-in-Err-Bad-clause-says : goal.returns-in-Err-Bad-clause-says
returns-in-Err-Bad-clause-says g c = record { whole_replies = λ h. no_replies g.T.Says.errand.says (g.M.Machine.now c.args.m.now).said (g.M.Machine.now c.next_command.new.m).said (c.next_command.ensures.calls.exit h).said; image = tt }

pub returns-in-Err-TooLong-clause-says : goal.returns-in-Err-TooLong-clause-says
returns-in-Err-TooLong-clause-says g c = record { whole_replies = λ h. no_replies g.T.Says.errand.says (g.M.Machine.now c.args.m.now).said (g.M.Machine.now c.next_command.new.m).said (c.next_command.ensures.calls.exit h).said; image = tt }

pub returns-in-Err-Input-clause-says : goal.returns-in-Err-Input-clause-says
returns-in-Err-Input-clause-says g c = record { whole_replies = λ h. no_replies g.T.Says.errand.says (g.M.Machine.now c.args.m.now).said (g.M.Machine.now c.next_command.new.m).said (c.next_command.ensures.calls.exit h).said; image = tt }

pub returns-clause-says : goal.returns-clause-says
returns-clause-says g c = record { whole_replies = λ h. no_replies g.T.Says.errand.says (g.M.Machine.now c.args.m.now).said (g.M.Machine.now c.next_command.new.m).said (c.next_command.ensures.calls.exit h).said; image = λ h. tt }

-- ---- the numbers of a mount

pub returns-in-Ok-clause-numbers : goal.returns-in-Ok-clause-numbers
returns-in-Ok-clause-numbers g c = record { grows = c.step.ensures.numbers.grows; used = λ is h. absurd (ok_apart _ _ (Stopped Ends.WornOut) refl is) }

pub returns-in-Ok-Some-clause-numbers : goal.returns-in-Ok-Some-clause-numbers
returns-in-Ok-Some-clause-numbers g c = record {
  grows = c.step.ensures.numbers.grows;
  used = λ is h. let e = err_is _ c.in-Err.end (Stopped Ends.WornOut) refl is in c.in-Err.ensures.numbers.used (ap ended e) h;
}

pub returns-in-Ok-None-clause-numbers : goal.returns-in-Ok-None-clause-numbers
returns-in-Ok-None-clause-numbers g c = record { grows = λ h. goes_none 1 (g.V.Files.state c.args.v.now) (g.V.Files.state c.args.v.now) refl; used = λ is h. absurd (ok_apart _ _ (Stopped Ends.WornOut) refl is) }

pub returns-in-Err-Bad-clause-numbers : goal.returns-in-Err-Bad-clause-numbers
returns-in-Err-Bad-clause-numbers g c = record { grows = λ h. goes_none 1 (g.V.Files.state c.args.v.now) (g.V.Files.state c.args.v.now) refl; used = λ is h. absurd (ok_apart _ _ (Stopped Ends.WornOut) refl is) }

pub returns-in-Err-TooLong-clause-numbers : goal.returns-in-Err-TooLong-clause-numbers
returns-in-Err-TooLong-clause-numbers g c = record { grows = λ h. goes_none 1 (g.V.Files.state c.args.v.now) (g.V.Files.state c.args.v.now) refl; used = λ is h. absurd (ok_apart _ _ (Stopped Ends.WornOut) refl is) }

pub returns-in-Err-Input-clause-numbers : goal.returns-in-Err-Input-clause-numbers
returns-in-Err-Input-clause-numbers g c = record { grows = λ h. goes_none 1 (g.V.Files.state c.args.v.now) (g.V.Files.state c.args.v.now) refl; used = λ is h. absurd (ok_apart _ _ (Stopped Ends.WornOut) refl is) }

pub returns-clause-numbers : goal.returns-clause-numbers
returns-clause-numbers g c = record { grows = λ h. goes_none 1 (g.V.Files.state c.args.v.now) (g.V.Files.state c.args.v.now) refl; used = λ is h. absurd (memory_worn _ refl is) }
