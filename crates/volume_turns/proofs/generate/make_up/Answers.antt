use Rattle.std.proofs.Common.{◌≡◌, ℕ, ◌+◌, List, length, Option, None, Ok, Err, refl, sym, ◌∙◌, ap, subst, arith}
use Rattle.std.specs.Prelude.{IfSome}
use Rattle.volume_layout.specs.declared.layout.Layout.{Layout}
use Rattle.sector_disk.specs.Image.{AreShort, Windows}
use Rattle.fsd_texts.specs.declared.command.Command.{Command as Word}
use Rattle.fsd_texts.specs.declared.counts.Counts.{Counts}
use Rattle.fsd_texts.specs.declared.fault.Fault.TheVariants as Ends
use Rattle.script_text.specs.Making.{Making, made_left}
use Rattle.scrub.specs.Telling.{AreOfPage}
use Rattle.volume_turns.specs.Generate.{Draws, RunsCounted}
use Rattle.volume_turns.specs.Tally.{nothing_done}
use Rattle.volume_turns.specs.Turns.{IsEndOn}
use Rattle.volume_turns.specs.declared.turns.Halt.TheVariants.{Fault as Stopped}
use Rattle.volume_turns.proofs.ApartLaws.{err_is, ok_apart}
use Rattle.volume_turns.proofs.CountLaws.{counted_nil, counted_stop, counted_then, made_length, none_left}
use Rattle.volume_turns.proofs.NumberLaws.{ended, goes_none, goes_then, may_before}
use Rattle.volume_turns.proofs.RunLaws.{follows_then}
use Rattle.volume_turns.proofs.SayLaws.{timed_by}
use Rattle.volume_turns.proofs.SpeaksLaws.{speaks_done, speaks_ended, speaks_keeps, speaks_still, speaks_then}
use Rattle.volume_turns.proofs.generate.make_up.Goals as goal

pub loop-init : goal.loop-init
loop-init g c =
    let V = g.V.Files in
    let M = g.M.Machine in
    record {
      layout = refl;
      up = c.requires.up;
      idle = c.requires.idle;
      speaks = speaks_still c.args.m.now tt;
      counts = ap (λ (t : Counts). t.count) c.new-tally.ensures;
      numbers = λ h. goes_none 0 (V.state c.args.v.now) (V.state c.args.v.now) refl;
      quiet = λ h. refl;
      left = let all = made_length c.args.count 1 c.args.seed in let same = ap (λ (x : Making). length (made_left x)) c.new-maker.ensures in omega (arith, all, same);
      rest = λ z b r follows runs.
          subst (λ (x : Making). RunsCounted V.state V.holds M (made_left x) c.args.v.now c.args.m.now z b nothing_done r) c.new-maker.ensures
          (subst (λ (t : Counts). RunsCounted V.state V.holds M (made_left c.new-maker.result) c.args.v.now c.args.m.now z b t r) c.new-tally.ensures runs);
    }

pub draw-requires-clause-room : goal.draw-requires-clause-room
draw-requires-clause-room g c =
    let same = ap (λ (l : Layout). l.sectors) c.loop.invariant.layout in
    let sectors = c.loop.invariant.speaks.told.sectors in
    let room = c.requires.room in
    omega (arith, same, sectors, room)

pub draw-requires-clause-up : goal.draw-requires-clause-up
draw-requires-clause-up g c = c.loop.invariant.up

pub draw-requires-clause-idle : goal.draw-requires-clause-idle
draw-requires-clause-idle g c = c.loop.invariant.idle

pub draw-requires-clause-few : goal.draw-requires-clause-few
draw-requires-clause-few g c =
    let counts = c.loop.invariant.counts in
    let below = c.loop-test.true in
    let fits = c.ranges.count.fits in
    omega (arith, counts, below, fits)

pub loop-preserved : goal.loop-preserved
loop-preserved g c =
    let V = g.V.Files in
    let M = g.M.Machine in
    let was = c.loop.invariant in
    let does = c.in-Ok-Some.ensures in
    let step = speaks_keeps does.speaks in
    let draws = subst (λ (o : Option Counts). Draws V.state V.holds M c.loop.maker c.draw.new.maker c.loop.v c.loop.m c.draw.new.v c.draw.new.m c.loop.tally (Ok o)) c.in-Ok-Some.field-0-is c.in-Ok-Some.ensures.draws in
    record {
      layout = does.keeps.layout ∙ was.layout;
      up = does.keeps.up;
      idle = does.keeps.desk;
      speaks = speaks_done c.in-Ok-Some.field-0 tt (speaks_then was.speaks does.speaks);
      quiet = λ h. does.says.quiet h ∙ was.quiet (does.speaks.trust.honest h);
      counts = subst (λ (o : Option Counts). IfSome o (λ t. t.count ≡ c.loop.tally.count + 1)) c.in-Ok-Some.field-0-is does.counts ∙ ap (λ (n : ℕ). n + 1) was.counts;
      numbers = λ h. goes_then c.loop.counter (c.loop.counter + 1) (V.state c.args.v.now) (V.state c.loop.v) (V.state c.draw.new.v) refl (was.numbers (does.speaks.trust.honest h)) (does.numbers.grows h);
      left = let all = was.left in let same = ap (λ (cs : List Word). length cs) draws.1 in omega (arith, all, same);
      rest = λ z b r follows runs. was.rest z b r (follows_then M c.loop.m c.draw.new.m b step follows)
          (subst (λ (cs : List Word). RunsCounted V.state V.holds M cs c.loop.v c.loop.m z b c.loop.tally r) (sym draws.1)
          (counted_then V.state V.holds M draws.0 (made_left c.draw.new.maker) c.loop.v c.draw.new.v z c.loop.m c.draw.new.m b c.loop.tally c.in-Ok-Some.more r follows does.speaks.later draws.2 runs));
    }

pub returns-in-Ok-None : goal.returns-in-Ok-None
returns-in-Ok-None g c =
    let V = g.V.Files in
    let M = g.M.Machine in
    let l = c.loop in
    let was = l.invariant in
    let m = l.m in
    let b = c.draw.new.m in
    let does = rw c.in-Ok-None.field-0-is at c.in-Ok-None.ensures in
    record {
      layout = does.keeps.layout ∙ was.layout;
      speaks = speaks_done None l.tally (speaks_then was.speaks does.speaks);
      says = record { quiet = λ h. does.says.quiet h ∙ was.quiet (does.speaks.trust.honest h); image = tt };
      used = λ is h. absurd (ok_apart _ l.tally (Stopped Ends.WornOut) refl is);
      counts = let none = ap (λ (cs : List Word). length cs) does.draws.0 in let left = was.left in let counts = was.counts in omega (arith, none, left, counts);
      runs = was.rest c.draw.new.v b (Ok l.tally) (speaks_keeps does.speaks)
          (subst (λ (x : g.row.M.Denot). RunsCounted V.state V.holds M (made_left l.maker) l.v m c.draw.new.v x l.tally (Ok l.tally)) (sym does.draws.2)
          (subst (λ (z : g.row.V.Denot). RunsCounted V.state V.holds M (made_left l.maker) l.v m z m l.tally (Ok l.tally)) (sym does.draws.1)
          (subst (λ (cs : List Word). RunsCounted V.state V.holds M cs l.v m l.v m l.tally (Ok l.tally)) (sym does.draws.0) (counted_nil V.state V.holds M l.v m g.met.V.Files.wears (timed_by M g.met.M.Machine.dated g.met.M.Machine.history g.met.M.Machine.counts_now g.met.M.Machine.only_now m) (λ h from aged. subst (λ (w : Windows). AreShort w) aged.windows (g.met.M.Machine.short m h)) l.tally))));
    }

pub returns-in-Err : goal.returns-in-Err
returns-in-Err g c =
    let V = g.V.Files in
    let M = g.M.Machine in
    let l = c.loop in
    let was = l.invariant in
    let m = l.m in
    let b = c.draw.new.m in
    let does = c.in-Err.ensures in
    record {
      layout = does.keeps.layout ∙ was.layout;
      speaks = speaks_ended c.in-Err.end (speaks_then was.speaks does.speaks);
      says = record {
        quiet = λ h. does.says.quiet h ∙ was.quiet (does.speaks.trust.honest h);
        image = λ h. subst (λ (x : Layout). IsEndOn AreOfPage x (M.now b).image c.in-Err.end) was.layout (does.says.image h);
      };
      used = λ is h.
          let below = c.loop-test.true in
          may_before l.counter c.args.count (V.state c.args.v.now) (V.state l.v) (omega (arith, below)) (was.numbers (does.speaks.trust.honest h)) (does.numbers.used (ap ended (err_is _ c.in-Err.end (Stopped Ends.WornOut) refl is)) h);
      counts = tt;
      runs = was.rest c.draw.new.v b (Err c.in-Err.end) (speaks_keeps does.speaks) (counted_stop V.state V.holds M (made_left l.maker) l.v c.draw.new.v m b l.tally c.in-Err.end does.draws);
    }

pub returns : goal.returns
returns g c =
    let V = g.V.Files in
    let M = g.M.Machine in
    let l = c.loop in
    let was = l.invariant in
    let m = l.m in
    let left = was.left in
    let most = l.auto.counter-end in
    let ended = c.loop-test.false in
    record {
      layout = was.layout;
      speaks = speaks_done tt l.tally was.speaks;
      says = record { quiet = was.quiet; image = tt };
      used = λ is h. absurd (ok_apart _ l.tally (Stopped Ends.WornOut) refl is);
      counts = let counts = was.counts in omega (arith, counts, left, most, ended);
      runs = was.rest l.v m (Ok l.tally) (record { honest = λ h. h; since = λ h t left le was. was; later = λ h. omega arith })
          (subst (λ (cs : List Word). RunsCounted V.state V.holds M cs l.v m l.v m l.tally (Ok l.tally)) (sym (none_left (made_left l.maker) (omega (arith, left, most, ended)))) (counted_nil V.state V.holds M l.v m g.met.V.Files.wears (timed_by M g.met.M.Machine.dated g.met.M.Machine.history g.met.M.Machine.counts_now g.met.M.Machine.only_now m) (λ h from aged. subst (λ (w : Windows). AreShort w) aged.windows (g.met.M.Machine.short m h)) l.tally));
    }
