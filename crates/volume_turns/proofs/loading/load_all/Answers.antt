use Rattle.std.proofs.Common.{◌+◌, List, ◌∷◌, drop, length, Some, None, Ok, Err, refl, sym, ◌∙◌, ap, subst, arith}
use Rattle.std.proofs.lemmas.List.{drop_all, drop_more}
use Rattle.volume_layout.specs.declared.layout.Layout.{Layout}
use Rattle.sector_disk.specs.Image.{AreShort, Windows}
use Rattle.fsd_runs.specs.Errands.{load_of}
use Rattle.fsd_texts.specs.declared.fault.Fault.TheVariants as Ends
use Rattle.dump_text.specs.declared.item.Item.{Item}
use Rattle.dump_text.specs.Items.{dumped}
use Rattle.scrub.specs.Telling.{AreOfPage}
use Rattle.volume_turns.specs.declared.turns.Halt.TheVariants.{Fault as Stopped}
use Rattle.volume_turns.specs.Loading.{LoadsAll, loads_of}
use Rattle.volume_turns.specs.Turns.{IsEndOn}
use Rattle.volume_turns.proofs.ApartLaws.{err_is, ok_apart}
use Rattle.volume_turns.proofs.LoadingLaws.{loads_nil, loads_refused, loads_stop, loads_then}
use Rattle.volume_turns.proofs.NumberLaws.{ended, goes_none, goes_then, may_before}
use Rattle.volume_turns.proofs.RunLaws.{follows_then}
use Rattle.volume_turns.proofs.SayLaws.{timed_by}
use Rattle.volume_turns.proofs.SpeaksLaws.{speaks_keeps, speaks_still, speaks_then}
use Rattle.volume_turns.proofs.loading.load_all.Goals as goal

pub loop-place-init : goal.loop-place-init
loop-place-init g c =
    let s = g.V.Files.state c.args.v.now in
    record {
      layout = refl;
      up = c.requires.up;
      idle = c.requires.idle;
      speaks = speaks_still c.args.m.now None;
      quiet = λ h. refl;
      numbers = λ h. goes_none 0 s s refl;
      rest = λ z b r follows runs. runs;
    }

pub load_one-requires-clause-room : goal.load_one-requires-clause-room
load_one-requires-clause-room g c =
    let same = ap (λ (l : Layout). l.sectors) c.loop-place.invariant.layout in
    let sectors = c.loop-place.invariant.speaks.told.sectors in
    let room = c.requires.room in
    omega (arith, same, sectors, room)

pub load_one-requires-clause-up : goal.load_one-requires-clause-up
load_one-requires-clause-up g c = c.loop-place.invariant.up

pub load_one-requires-clause-idle : goal.load_one-requires-clause-idle
load_one-requires-clause-idle g c = c.loop-place.invariant.idle

-- one is loaded

pub loop-place-preserved : goal.loop-place-preserved
loop-place-preserved g c =
    let V = g.V.Files in
    let M = g.M.Machine in
    let l = c.loop-place in
    let was = l.invariant in
    let v = c.load_one.new.v in
    let m = c.load_one.new.m in
    let input = c.args.input.now in
    let items = c.args.items.now in
    let does = rw c.in-Ok-None.field-0-is at c.in-Ok-None.ensures in
    record {
      layout = does.keeps.layout ∙ was.layout;
      up = does.keeps.up;
      idle = does.keeps.desk;
      speaks = speaks_then was.speaks does.speaks;
      quiet = λ h. does.says.quiet h ∙ was.quiet (does.speaks.trust.honest h);
      numbers = λ h. goes_then l.place (l.place + 1) (V.state c.args.v.now) (V.state l.v) (V.state v) refl (was.numbers (does.speaks.trust.honest h)) (does.numbers.grows h);
      rest = λ z b r follows runs. was.rest z b r (follows_then M l.m m b (speaks_keeps does.speaks) follows)
          (subst (λ (xs : List Item). LoadsAll V.state V.holds M (loads_of input xs) l.v l.m z b r) (sym (drop_more items l.place c.index-items-place.result c.loop-place-test.true ∙ ap (λ (x : Item). x ∷ drop (l.place + 1) items) (sym c.index-items-place.is)))
          (loads_then V.state V.holds M (load_of (dumped input c.index-items-place.result)) (loads_of input (drop (l.place + 1) items)) l.v v z l.m m b r follows does.speaks.later does.loads runs));
    }

-- one is refused

pub returns-in-Ok-Some : goal.returns-in-Ok-Some
returns-in-Ok-Some g c =
    let V = g.V.Files in
    let M = g.M.Machine in
    let l = c.loop-place in
    let was = l.invariant in
    let v = c.load_one.new.v in
    let m = c.load_one.new.m in
    let input = c.args.input.now in
    let items = c.args.items.now in
    let does = rw c.in-Ok-Some.field-0-is at c.in-Ok-Some.ensures in
    let why = c.in-Ok-Some.why in
    record {
      layout = does.keeps.layout ∙ was.layout;
      up = does.keeps.up;
      speaks = speaks_then was.speaks does.speaks;
      says = record { quiet = λ h. does.says.quiet h ∙ was.quiet (does.speaks.trust.honest h); image = tt };
      used = λ is h. absurd (ok_apart _ (Some why) (Stopped Ends.WornOut) refl is);
      loads = was.rest v m (Ok (Some why)) (speaks_keeps does.speaks)
          (subst (λ (xs : List Item). LoadsAll V.state V.holds M (loads_of input xs) l.v l.m v m (Ok (Some why))) (sym (drop_more items l.place c.index-items-place.result c.loop-place-test.true ∙ ap (λ (x : Item). x ∷ drop (l.place + 1) items) (sym c.index-items-place.is)))
          (loads_refused V.state V.holds M (load_of (dumped input c.index-items-place.result)) (loads_of input (drop (l.place + 1) items)) l.v v l.m m why g.met.V.Files.wears (timed_by M g.met.M.Machine.dated g.met.M.Machine.history g.met.M.Machine.counts_now g.met.M.Machine.only_now m) (λ h from aged. subst (λ (w : Windows). AreShort w) aged.windows (g.met.M.Machine.short m h)) does.speaks.later does.loads));
    }

-- a fault has ended it

pub returns-in-Err : goal.returns-in-Err
returns-in-Err g c =
    let V = g.V.Files in
    let M = g.M.Machine in
    let l = c.loop-place in
    let was = l.invariant in
    let v = c.load_one.new.v in
    let m = c.load_one.new.m in
    let input = c.args.input.now in
    let items = c.args.items.now in
    let does = c.in-Err.ensures in
    let end = c.in-Err.end in
    record {
      layout = does.keeps.layout ∙ was.layout;
      up = tt;
      speaks = speaks_then was.speaks does.speaks;
      says = record {
        quiet = λ h. does.says.quiet h ∙ was.quiet (does.speaks.trust.honest h);
        image = λ h. subst (λ (x : Layout). IsEndOn AreOfPage x (M.now m).image end) was.layout (does.says.image h);
      };
      used = λ is h.
          let below = c.loop-place-test.true in
          may_before l.place (length items) (V.state c.args.v.now) (V.state l.v) (omega (arith, below)) (was.numbers (does.speaks.trust.honest h)) (does.numbers.used (ap ended (err_is _ end (Stopped Ends.WornOut) refl is)) h);
      loads = was.rest v m (Err end) (speaks_keeps does.speaks)
          (subst (λ (xs : List Item). LoadsAll V.state V.holds M (loads_of input xs) l.v l.m v m (Err end)) (sym (drop_more items l.place c.index-items-place.result c.loop-place-test.true ∙ ap (λ (x : Item). x ∷ drop (l.place + 1) items) (sym c.index-items-place.is)))
          (loads_stop V.state V.holds M (load_of (dumped input c.index-items-place.result)) (loads_of input (drop (l.place + 1) items)) l.v v l.m m end does.loads));
    }

-- all are loaded

pub returns : goal.returns
returns g c =
    let V = g.V.Files in
    let M = g.M.Machine in
    let l = c.loop-place in
    let was = l.invariant in
    let m = l.m in
    let items = c.args.items.now in
    let ended = c.loop-place-test.false in
    record {
      layout = was.layout;
      up = was.up;
      speaks = was.speaks;
      says = record { quiet = was.quiet; image = tt };
      used = λ is h. absurd (ok_apart _ None (Stopped Ends.WornOut) refl is);
      loads = was.rest l.v m (Ok None) (record { honest = λ h. h; since = λ h t left le was. was; later = λ h. omega arith })
          (subst (λ (xs : List Item). LoadsAll V.state V.holds M (loads_of c.args.input.now xs) l.v m l.v m (Ok None)) (sym (drop_all l.place items (omega (arith, ended))))
          (loads_nil V.state V.holds M l.v m g.met.V.Files.wears (timed_by M g.met.M.Machine.dated g.met.M.Machine.history g.met.M.Machine.counts_now g.met.M.Machine.only_now m) (λ h from aged. subst (λ (w : Windows). AreShort w) aged.windows (g.met.M.Machine.short m h))));
    }
