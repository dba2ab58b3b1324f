use Rattle.std.proofs.Common.{◌+◌, [], Option, Some, None, Ok, Err, refl, sym, ◌∙◌, ap, subst, arith}
use Rattle.std.specs.Prelude.{Result}
use Rattle.volume_layout.specs.declared.layout.Layout.{Layout}
use Rattle.fsd_texts.specs.Script.{max_input, script_in}
use Rattle.fsd_texts.specs.declared.end.End.TheVariants.{Done}
use Rattle.fsd_texts.specs.declared.fault.Fault.TheVariants as Ends
use Rattle.script_text.specs.Reading.{Reading, fresh, script_left}
use Rattle.scrub.specs.Telling.{AreOfPage}
use Rattle.volume_turns.specs.Each.{SyncsRead}
use Rattle.volume_turns.specs.Script.{DoneSo, GoesOnReading, ReadsScript, RoseBy, WholeRead, left_by}
use Rattle.volume_turns.specs.Turns.{IsEndOn}
use Rattle.volume_turns.specs.declared.script.Stop.{Stop}
use Rattle.volume_turns.specs.declared.script.Stop.TheVariants.{Ended}
use Rattle.volume_turns.specs.declared.turns.Halt.{Halt}
use Rattle.volume_turns.specs.declared.turns.Halt.TheVariants.{Fault as Stopped}
use Rattle.volume_turns.proofs.ApartLaws.{err_is, ok_apart, ok_is}
use Rattle.volume_turns.proofs.CauseLaws.{read_says}
use Rattle.volume_turns.proofs.NumberLaws.{ended, goes_none, goes_then, may_before}
use Rattle.volume_turns.proofs.ReadingLaws.{reading_done, reading_ended, reading_keeps, reading_none, reading_then}
use Rattle.volume_turns.proofs.SaidLaws.{replies_then, whole_then}
use Rattle.volume_turns.proofs.ScriptLaws.{done_none, done_replies, reads_then, rose_then}
use Rattle.volume_turns.proofs.SyncLaws.{syncs_read, syncs_still}
use Rattle.volume_turns.proofs.script.read_all.Goals as goal

abbrev read_so : Stop → Result (Option Stop) Halt
read_so stop = Ok (Some stop)

pub loop-stop-init : goal.loop-stop-init
loop-stop-init g c =
    let V = g.V.Files in
    let M = g.M.Machine in
    record {
      layout = refl;
      up = c.requires.up;
      desk = c.requires.desk;
      speaks = reading_none c.args.m.now;
      input = refl;
      few = let same = ap (λ (r : Reading). r.given) c.new-reader.ensures in omega (arith, same);
      numbers = λ h. goes_none _ (V.state c.args.v.now) (V.state c.args.v.now) refl;
      going = ap (λ (r : Reading). r.end) c.new-reader.ensures;
      syncs = λ h. let all = (script_in (M.ledger c.args.m.now).input).0 in
          subst (λ (r : Reading). SyncsRead g.T.Says.errand.forces 0 all (script_left r (M.ledger c.args.m.now).input).0 (M.ledger c.args.m.now) (M.ledger c.args.m.now)) (sym c.new-reader.ensures) (syncs_still g.T.Says.errand.forces all (M.ledger c.args.m.now));
      so_far = λ t. subst (λ (r : Reading). DoneSo V.state V.holds M g.T.Says.errand fresh r (c.args.v.now, c.args.desk.now) c.args.m.now (c.args.v.now, c.args.desk.now) c.args.m.now) (sym c.new-reader.ensures) (done_none V.state V.holds M g.T.Says.errand fresh (c.args.v.now, c.args.desk.now) c.args.m.now);
    }

pub read_on-requires-clause-room : goal.read_on-requires-clause-room
read_on-requires-clause-room g c =
    let same = ap (λ (l : Layout). l.sectors) c.loop-stop.invariant.layout in
    let sectors = c.loop-stop.invariant.speaks.heard.sectors in
    let room = c.requires.room in
    omega (arith, same, sectors, room)

pub returns-in-Ok-Some : goal.returns-in-Ok-Some
returns-in-Ok-Some g c =
    let V = g.V.Files in
    let M = g.M.Machine in
    let e = g.T.Says.errand in
    let a = c.args.m.now in
    let l = c.loop-stop in
    let m = l.m in
    let b = c.read_on.new.m in
    let was = l.invariant in
    let does = rw c.in-Ok-Some.field-0-is at c.in-Ok-Some.ensures in
    let so_far = λ (h : M.honest m). done_replies V.state V.holds M e fresh l.reader (c.args.v.now, c.args.desk.now) a (l.v, l.desk) m (was.so_far (g.met.M.Machine.honest_tells m h)) h in
    let reads : M.tells b → WholeRead V.state V.holds M e (c.args.v.now, c.args.desk.now) a (c.read_on.new.v, c.read_on.new.desk) b (Ok c.in-Ok-Some.stop) =
    λ t. record {
      last = c.read_on.new.reader;
      few = does.input.few;
      reads = reads_then V.state V.holds M e fresh l.reader c.read_on.new.reader (c.args.v.now, c.args.desk.now) (l.v, l.desk) (c.read_on.new.v, c.read_on.new.desk) a m b (Ok (Some c.in-Ok-Some.stop)) was.speaks.later (reading_keeps does.speaks) (was.so_far (does.speaks.trust.tells t)) (does.reads t);
    } in
    record {
      keeps = record { layout = does.keeps.layout ∙ was.layout; up = does.keeps.up; desk = does.keeps.desk };
      speaks = reading_done (Some c.in-Ok-Some.stop) c.in-Ok-Some.stop (reading_then was.speaks does.speaks);
      says = record {
        read = record {
          whole_replies = λ h. replies_then e.says (M.now a).said (M.now m).said (M.now b).said (so_far (does.speaks.trust.honest h)) (does.says.whole_replies h);
          image = tt;
        };
        replies = λ end is h. read_says V.state V.holds M e c.read_on.new.reader (c.args.v.now, c.args.desk.now) a (c.read_on.new.v, c.read_on.new.desk) b c.in-Ok-Some.stop end (reads (g.met.M.Machine.honest_tells b h)).reads (ok_is _ c.in-Ok-Some.stop (Ended end) refl is) h;
      };
      input = record {
        rose = rose_then (M.report a) (M.report m) (M.report b) (Some c.in-Ok-Some.stop) was.input does.input.rose;
        quiet = tt;
        whole = λ is t. does.input.whole (ap read_so (ok_is _ c.in-Ok-Some.stop (Ended Done) refl is)) was.going t;
        syncs = λ h. let back = does.speaks.trust.honest h in
            let M = g.M.Machine in
            syncs_read g.T.Says.errand.forces (script_in (M.ledger c.args.m.now).input).0 (script_left c.loop-stop.reader (M.ledger c.loop-stop.m).input).0 [] (M.ledger c.args.m.now) (M.ledger c.loop-stop.m) (M.ledger c.read_on.new.m) (was.syncs back) (does.input.syncs h);
      };
      used = λ is h. absurd (ok_apart _ c.in-Ok-Some.stop (Stopped Ends.WornOut) refl is);
      reads = reads;
    }

pub returns-in-Err : goal.returns-in-Err
returns-in-Err g c =
    let V = g.V.Files in
    let M = g.M.Machine in
    let e = g.T.Says.errand in
    let a = c.args.m.now in
    let l = c.loop-stop in
    let m = l.m in
    let b = c.read_on.new.m in
    let was = l.invariant in
    let does = c.in-Err.ensures in
    let so_far = λ (h : M.honest m). done_replies V.state V.holds M e fresh l.reader (c.args.v.now, c.args.desk.now) a (l.v, l.desk) m (was.so_far (g.met.M.Machine.honest_tells m h)) h in
    let reads : M.tells b → WholeRead V.state V.holds M e (c.args.v.now, c.args.desk.now) a (c.read_on.new.v, c.read_on.new.desk) b (Err c.in-Err.end) =
    λ t. record {
      last = c.read_on.new.reader;
      few = does.input.few;
      reads = reads_then V.state V.holds M e fresh l.reader c.read_on.new.reader (c.args.v.now, c.args.desk.now) (l.v, l.desk) (c.read_on.new.v, c.read_on.new.desk) a m b (Err c.in-Err.end) was.speaks.later (reading_keeps does.speaks) (was.so_far (does.speaks.trust.tells t)) (does.reads t);
    } in
    record {
      keeps = record { layout = does.keeps.layout ∙ was.layout; up = tt; desk = does.keeps.desk };
      speaks = reading_ended c.in-Err.end (reading_then was.speaks does.speaks);
      says = record {
        read = record {
          whole_replies = λ h. whole_then e.says (M.now a) (M.now m) (M.now b) c.in-Err.end (so_far (does.speaks.trust.honest h)) (does.says.whole_replies h);
          image = λ h. subst (λ (x : Layout). IsEndOn AreOfPage x (M.now b).image c.in-Err.end) was.layout (does.says.image h);
        };
        replies = λ end is h. absurd (ok_apart _ (Ended end) c.in-Err.end is refl);
      };
      input = record {
        rose = tt;
        quiet = does.input.quiet ∙ was.input;
        whole = λ is t. absurd (ok_apart _ (Ended Done) c.in-Err.end is refl);
        syncs = λ h. let back = does.speaks.trust.honest h in
            let M = g.M.Machine in
            syncs_read g.T.Says.errand.forces (script_in (M.ledger c.args.m.now).input).0 (script_left c.loop-stop.reader (M.ledger c.loop-stop.m).input).0 [] (M.ledger c.args.m.now) (M.ledger c.loop-stop.m) (M.ledger c.read_on.new.m) (was.syncs back) (does.input.syncs h);
      };
      used = λ is h.
          let few = was.few in
          may_before l.reader.given (max_input + 1) (V.state c.args.v.now) (V.state l.v) (omega (arith, few)) (was.numbers (does.speaks.trust.honest h)) (does.numbers.used (ap ended (err_is _ c.in-Err.end (Stopped Ends.WornOut) refl is)) h);
      reads = reads;
    }

pub loop-stop-smaller : goal.loop-stop-smaller
loop-stop-smaller g c =
    let on = subst (λ (o : Option Stop). GoesOnReading c.loop-stop.reader c.read_on.new.reader o) c.in-Ok-None.field-0-is c.in-Ok-None.ensures.input.on in
    let more = on.0 in
    let few = on.2 in
    omega (arith, more, few)

pub loop-stop-preserved : goal.loop-stop-preserved
loop-stop-preserved g c =
    let V = g.V.Files in
    let M = g.M.Machine in
    let l = c.loop-stop in
    let was = l.invariant in
    let does = c.in-Ok-None.ensures in
    let step = reading_keeps does.speaks in
    let goes = subst (λ (o : Option Stop). GoesOnReading l.reader c.read_on.new.reader o) c.in-Ok-None.field-0-is c.in-Ok-None.ensures.input.on in
    record {
      layout = does.keeps.layout ∙ was.layout;
      up = does.keeps.up;
      desk = does.keeps.desk;
      speaks = reading_done c.in-Ok-None.field-0 tt (reading_then was.speaks does.speaks);
      input = subst (λ (o : Option Stop). RoseBy (M.report l.m) (M.report c.read_on.new.m) o) c.in-Ok-None.field-0-is does.input.rose ∙ was.input;
      few = goes.2;
      numbers = λ h. goes_then l.reader.given c.read_on.new.reader.given (V.state c.args.v.now) (V.state l.v) (V.state c.read_on.new.v) goes.0 (was.numbers (does.speaks.trust.honest h)) (does.numbers.grows h);
      going = goes.1;
      syncs = λ h. let back = does.speaks.trust.honest h in
          let M = g.M.Machine in
          syncs_read g.T.Says.errand.forces (script_in (M.ledger c.args.m.now).input).0 (script_left c.loop-stop.reader (M.ledger c.loop-stop.m).input).0 (script_left c.read_on.new.reader (M.ledger c.read_on.new.m).input).0 (M.ledger c.args.m.now) (M.ledger c.loop-stop.m) (M.ledger c.read_on.new.m) (was.syncs back) (subst (λ (o : Option Stop). SyncsRead g.T.Says.errand.forces 0 (script_left c.loop-stop.reader (M.ledger c.loop-stop.m).input).0 (left_by (Ok o) (script_left c.read_on.new.reader (M.ledger c.read_on.new.m).input).0) (M.ledger c.loop-stop.m) (M.ledger c.read_on.new.m)) c.in-Ok-None.field-0-is (does.input.syncs h));
      so_far = λ t. reads_then V.state V.holds M g.T.Says.errand fresh l.reader c.read_on.new.reader (c.args.v.now, c.args.desk.now) (l.v, l.desk) (c.read_on.new.v, c.read_on.new.desk) c.args.m.now l.m c.read_on.new.m (Ok None) was.speaks.later step (was.so_far (does.speaks.trust.tells t))
          (subst (λ (o : Option Stop). ReadsScript V.state V.holds M g.T.Says.errand l.reader c.read_on.new.reader (l.v, l.desk) l.m (c.read_on.new.v, c.read_on.new.desk) c.read_on.new.m (Ok o)) c.in-Ok-None.field-0-is (does.reads t));
    }
