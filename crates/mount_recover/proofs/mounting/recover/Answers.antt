use Rattle.std.proofs.Common.{◌≡◌, ◌+◌, ◌-◌, inl, inr, ℕ, ◌<◌, ◌≤◌, List, arith, refl, sym, ap, subst}
use Rattle.std.proofs.lemmas.Result.{err_from_is_err_and}
use Rattle.volume_layout.specs.declared.layout.Layout.{Layout}
use Rattle.sector_disk.specs.declared.sector.WeakRun.{WeakRun}
use Rattle.sector_disk.specs.Machine.{LeavesOnly, Ledger, Wears}
use Rattle.sector_disk.proofs.CallLaws.{heals_then, reads_as_heals}
use Rattle.sector_disk.proofs.Moments.{leaves_more, then_on}
use Rattle.log_thirds.specs.LogValue.{LogValue}
use Rattle.fsd_sound.proofs.WritesLaws.{elsewhere}
use Rattle.fsd_sound.specs.Lost.{AreCopiesOn}
use Rattle.fsd_sound.specs.Sound.{IsSaid}
use Rattle.saved_map.specs.Reading.{Believes}
use Rattle.fsd_sound.specs.Saved.{SeesNone}
use Rattle.mount_recover.specs.Mending.{StaysOrSettles, IsCompleted, StaysShown}
use Rattle.mount_recover.specs.Recover.{ShowsVolume}
use Rattle.mount_recover.specs.Replay.{IsReplayed, IsUnturned, Replays, TurnsLast}
use Rattle.std.specs.Prelude.{IfSome, IsSome}
use Rattle.volume_layout.proofs.RootLaws.{planned_bounds}
use Rattle.sector_disk.specs.Image.{AreShort, Windows, IsEmpty}
use Rattle.fsd_sound.specs.Shown.{records_by}
use Rattle.mount_recover.proofs.CalmLaws.{calm_now, calm_two, knows_one, loses_shown, next_kept, next_settled, some_root, stand_shown, still_next, still_one}
use Rattle.mount_recover.proofs.FaultLaws.{load_left, load_sound, worn_left}
use Rattle.mount_recover.proofs.MountLaws.{wears_replays, not_found_excused, not_refused, device_refused, found_said, found_starts, is_seen, replays_from, stays_replays, begins_replays, lost_on, fresh, rest_kept, rest_left, mend_refused, none_found, none_shown}
use Rattle.mount_recover.proofs.FoundMapLaws.{believed_later}
use Rattle.mount_recover.proofs.HomesLaws.{both_settled}
use Rattle.mount_recover.proofs.RootLaws.{run_bears}
use Rattle.mount_recover.proofs.TurningLaws.{beginning_turns, completing_turns, next_present, stays_turns, still_unturned, worn_turns}
use Rattle.mount_recover.proofs.mounting.recover.Given as given
use Rattle.mount_recover.proofs.mounting.recover.Goals.{After-begin_epoch, After-complete, After-mend}
use Rattle.mount_recover.proofs.mounting.recover.Goals as goal
use Rattle.mount_recover.proofs.KeepsLaws.{keeps_none}

-- ---- the layout that was found

module _ (g : given.Over) (c : After-complete g) (l : Layout) (windows : List WeakRun) (choices : List (List (List ℕ))) (h : g.M.Machine.honest c.complete.new.m) (start : ShowsVolume c.args.sectors l windows choices (g.M.Machine.now c.args.m.now)) where
  honest_one : g.M.Machine.honest c.find_volume.new.m
  honest_one = c.complete.ensures.disk.trust.honest h

  -- the image says it
  said : IsSaid l (g.M.Machine.now c.args.m.now).image c.in_ok-layout.field-0.layout
  said = found_said c.args.sectors l windows choices (g.M.Machine.now c.args.m.now) start (g.met.M.Machine.short c.args.m.now (c.find_volume.ensures.reads.trust.honest honest_one)) (g.M.Machine.now c.find_volume.new.m) (c.find_volume.ensures.reads.worn honest_one)
      c.in_ok-layout.field-0.layout c.in_ok-layout.field-0.log (c.in_ok-layout.ensures.seen honest_one).is

  -- and shows its pages by it
  begins : ShowsVolume c.args.sectors c.in_ok-layout.field-0.layout windows choices (g.M.Machine.now c.args.m.now)
  begins = found_starts c.args.sectors l windows choices (g.M.Machine.now c.args.m.now) start (g.met.M.Machine.short c.args.m.now (c.find_volume.ensures.reads.trust.honest honest_one)) (g.M.Machine.now c.find_volume.new.m) (c.find_volume.ensures.reads.worn honest_one)
      c.in_ok-layout.field-0.layout c.in_ok-layout.field-0.log (c.in_ok-layout.ensures.seen honest_one).is

-- ---- an image that shows a volume with that layout, step by step

module _ (g : given.Over) (c : After-complete g) (windows : List WeakRun) (choices : List (List (List ℕ))) (h : g.M.Machine.honest c.complete.new.m) (begin : ShowsVolume c.args.sectors c.in_ok-layout.field-0.layout windows choices (g.M.Machine.now c.args.m.now)) where
  to_complete : LeavesOnly g.M.Machine.moment g.M.Machine.left_since c.args.m.now c.complete.new.m (Replays c.in_ok-layout.field-0.layout windows choices (g.M.Machine.now c.args.m.now))
  to_complete =
      let M = g.M.Machine in
      let old = M.now c.args.m.now in let one = M.now c.find_volume.new.m in let found = c.in_ok-layout.field-0 in
      let h1 = c.complete.ensures.disk.trust.honest h in
      let short = g.met.M.Machine.short c.args.m.now (c.find_volume.ensures.reads.trust.honest h1) in
      let wears = c.find_volume.ensures.reads.worn h1 in
      let is = (c.in_ok-layout.ensures.seen h1).is in
      then_on M.moment M.left_since c.args.m.now c.find_volume.new.m c.complete.new.m (Replays found.layout windows choices old)
      (leaves_more M.moment M.left_since c.args.m.now c.find_volume.new.m (Wears old) (Replays found.layout windows choices old) (λ left worn. wears_replays c.args.sectors found.layout windows choices old begin short left worn) (c.find_volume.ensures.reads.any_moment h1))
      (leaves_more M.moment M.left_since c.find_volume.new.m c.complete.new.m (Replays found.layout windows choices one) (Replays found.layout windows choices old) (λ left now. replays_from c.args.sectors found.layout windows choices old begin short one wears found.log is left now)
      ((c.complete.ensures.completes found.layout windows choices h begin.planned c.in_ok-layout.ensures.found.layout (is_seen c.args.sectors found.layout windows choices old begin short one wears found.log is)).any_moment))

module _ (g : given.Over) (c : After-mend g) (windows : List WeakRun) (choices : List (List (List ℕ))) (h : g.M.Machine.honest c.mend.new.m) (begin : ShowsVolume c.args.sectors c.in_ok-layout.field-0.layout windows choices (g.M.Machine.now c.args.m.now)) where
  is_completed : IsCompleted c.in_ok-layout.field-0.layout windows choices c.in_ok-layout.field-0.log (g.M.Machine.now c.complete.new.m)
  is_completed =
      let M = g.M.Machine in
      let old = M.now c.args.m.now in let one = M.now c.find_volume.new.m in let found = c.in_ok-layout.field-0 in
      let h2 = c.mend.ensures.mends.disk.trust.honest h in let h1 = c.complete.ensures.disk.trust.honest h2 in
      let short = g.met.M.Machine.short c.args.m.now (c.find_volume.ensures.reads.trust.honest h1) in
      let seen = is_seen c.args.sectors found.layout windows choices old begin short one (c.find_volume.ensures.reads.worn h1) found.log (c.in_ok-layout.ensures.seen h1).is in
      (c.in_ok-complete.ensures.completes found.layout windows choices h2 begin.planned c.in_ok-layout.ensures.found.layout seen).done.is

  stays : LeavesOnly g.M.Machine.moment g.M.Machine.left_since c.complete.new.m c.mend.new.m (StaysShown c.in_ok-layout.field-0.layout windows choices (g.M.Machine.now c.complete.new.m))
  stays = (c.mend.ensures.goes_on windows choices is_completed h).any_moment

  to_mend : LeavesOnly g.M.Machine.moment g.M.Machine.left_since c.complete.new.m c.mend.new.m (Replays c.in_ok-layout.field-0.layout windows choices (g.M.Machine.now c.args.m.now))
  to_mend =
      let M = g.M.Machine in
      let old = M.now c.args.m.now in let one = M.now c.find_volume.new.m in let two = M.now c.complete.new.m in let found = c.in_ok-layout.field-0 in
      let h2 = c.mend.ensures.mends.disk.trust.honest h in let h1 = c.complete.ensures.disk.trust.honest h2 in
      let short = g.met.M.Machine.short c.args.m.now (c.find_volume.ensures.reads.trust.honest h1) in
      let wears = c.find_volume.ensures.reads.worn h1 in
      let is = (c.in_ok-layout.ensures.seen h1).is in
      let seen = is_seen c.args.sectors found.layout windows choices old begin short one wears found.log is in
      let done = (c.in_ok-complete.ensures.completes found.layout windows choices h2 begin.planned c.in_ok-layout.ensures.found.layout seen).done in
      leaves_more M.moment M.left_since c.complete.new.m c.mend.new.m (StaysShown found.layout windows choices two) (Replays found.layout windows choices old) (λ left at. stays_replays c.args.sectors found.layout windows choices old begin short one wears found.log is two done left at) stays

module _ (g : given.Over) (c : After-begin_epoch g) (windows : List WeakRun) (choices : List (List (List ℕ))) (h : g.M.Machine.honest c.begin_epoch.new.m) (begin : ShowsVolume c.args.sectors c.in_ok-layout.field-0.layout windows choices (g.M.Machine.now c.args.m.now)) where
  to_begin : LeavesOnly g.M.Machine.moment g.M.Machine.left_since c.mend.new.m c.begin_epoch.new.m (Replays c.in_ok-layout.field-0.layout windows choices (g.M.Machine.now c.args.m.now))
  to_begin =
      let M = g.M.Machine in
      let old = M.now c.args.m.now in let one = M.now c.find_volume.new.m in let two = M.now c.complete.new.m in let found = c.in_ok-layout.field-0 in
      let h3 = c.begin_epoch.ensures.disk.trust.honest h in let h2 = c.mend.ensures.mends.disk.trust.honest h3 in let h1 = c.complete.ensures.disk.trust.honest h2 in
      let short = g.met.M.Machine.short c.args.m.now (c.find_volume.ensures.reads.trust.honest h1) in
      let wears = c.find_volume.ensures.reads.worn h1 in
      let is = (c.in_ok-layout.ensures.seen h1).is in
      let seen = is_seen c.args.sectors found.layout windows choices old begin short one wears found.log is in
      let done = (c.in_ok-complete.ensures.completes found.layout windows choices h2 begin.planned c.in_ok-layout.ensures.found.layout seen).done in
      leaves_more M.moment M.left_since c.mend.new.m c.begin_epoch.new.m (StaysOrSettles found.layout windows choices two) (Replays found.layout windows choices old) (λ left at. begins_replays c.args.sectors found.layout windows choices old begin short one wears found.log is two done left at)
      ((c.begin_epoch.ensures.begins found.layout windows choices two done.is h begin.planned (c.in_ok-complete.ensures.names h2).named (c.in_ok-mend.ensures.goes_on windows choices done.is h3).done).any_moment)

-- it turns its windows last
turns_last : (g : given.Over) (c : After-begin_epoch g) (windows : List WeakRun) (choices : List (List (List ℕ))) → g.M.Machine.honest c.begin_epoch.new.m
    → LeavesOnly g.M.Machine.moment g.M.Machine.left_since c.complete.new.m c.mend.new.m (StaysShown c.in_ok-layout.field-0.layout windows choices (g.M.Machine.now c.complete.new.m))
    → LeavesOnly g.M.Machine.moment g.M.Machine.left_since c.args.m.now c.begin_epoch.new.m (TurnsLast (g.M.Machine.now c.args.m.now) (g.M.Machine.now c.begin_epoch.new.m))
turns_last g c windows choices h stays =
    let M = g.M.Machine in
    let h3 = c.begin_epoch.ensures.disk.trust.honest h in let h2 = c.mend.ensures.mends.disk.trust.honest h3 in let h1 = c.complete.ensures.disk.trust.honest h2 in
    let old = M.now c.args.m.now in let one = M.now c.find_volume.new.m in let two = M.now c.complete.new.m in let three = M.now c.mend.new.m in let new = M.now c.begin_epoch.new.m in
    let wears = c.find_volume.ensures.reads.worn h1 in let present = (c.complete.ensures.names h2).present in let mended = (c.mend.ensures.keeps h3).windows in
    then_on M.moment M.left_since c.args.m.now c.mend.new.m c.begin_epoch.new.m (TurnsLast old new)
    (then_on M.moment M.left_since c.args.m.now c.complete.new.m c.mend.new.m (TurnsLast old new)
    (then_on M.moment M.left_since c.args.m.now c.find_volume.new.m c.complete.new.m (TurnsLast old new)
    (leaves_more M.moment M.left_since c.args.m.now c.find_volume.new.m (Wears old) (TurnsLast old new) (λ left worn. worn_turns old one two three new wears present mended left worn) (c.find_volume.ensures.reads.any_moment h1))
    (leaves_more M.moment M.left_since c.find_volume.new.m c.complete.new.m (IsUnturned one) (TurnsLast old new) (λ left still. completing_turns old one two three new wears present mended left still) (c.complete.ensures.names h2).unturned))
    (leaves_more M.moment M.left_since c.complete.new.m c.mend.new.m (StaysShown c.in_ok-layout.field-0.layout windows choices two) (TurnsLast old new) (λ left at. stays_turns old one two three new wears present mended c.in_ok-layout.field-0.layout windows choices left at) stays))
    (leaves_more M.moment M.left_since c.mend.new.m c.begin_epoch.new.m (TurnsLast three new) (TurnsLast old new) (λ left at. beginning_turns old one two three new wears present mended left at) (c.begin_epoch.ensures.turns h).turns)

-- ---- each way out

pub returns-in_err-layout : goal.returns-in_err-layout
returns-in_err-layout g c =
    let M = g.M.Machine in
    let old = M.now c.args.m.now in let one = M.now c.find_volume.new.m in
    let failed = c.in_err-layout.ensures in
    let fault = c.in_err-layout.field-0.0 in
    let reads = c.find_volume.ensures.reads in
    let short : M.honest c.find_volume.new.m → AreShort old.windows = λ h. g.met.M.Machine.short c.args.m.now (reads.trust.honest h) in
    let p = err_from_is_err_and c.from_residual.result c.from_residual.ensures.1 in
    rw (p.1, p.2) (record {
      disk = reads_as_heals failed.reads;
      settled = tt;
      failed = record {
        sound = failed.sound;
        unturned = λ h. ap (λ (w : Windows). w.present) (reads.worn h).windows;
        counted = λ t h. inl (ap (λ (x : Ledger). x.written) (reads.ledger t));
        refused = λ h. not_refused c.args.sectors old fault (failed.refused h);
        unchanged = λ h. worn_left old one fault (reads.worn h);
        rest = λ h. inl (reads.worn h);
        lost = λ h. none_found (AreCopiesOn c.args.sectors old) one.image c.args.sectors old fault (failed.refused h);
        all_shown = λ h calm calm_new. none_shown c.args.sectors old.image old fault (failed.refused h);
      };
      shows = λ l windows choices h start. record {
        moments = record {
          layout = l;
          said = inl refl;
          took = tt;
          moments = leaves_more M.moment M.left_since c.args.m.now c.find_volume.new.m (Wears old) (Replays l windows choices old) (λ left worn. wears_replays c.args.sectors l windows choices old start (short h) left worn) (reads.any_moment h);
          exit = wears_replays c.args.sectors l windows choices old start (short h) one (reads.worn h);
        };
        turns = leaves_more M.moment M.left_since c.args.m.now c.find_volume.new.m (Wears old) (TurnsLast old one) (λ left worn. inl (ap (λ (w : Windows). w.present) worn.windows)) (reads.any_moment h);
        ends = not_found_excused c.args.sectors l windows choices old start (short h) fault (failed.refused h);
      };
    })

pub returns-in_err-complete : goal.returns-in_err-complete
returns-in_err-complete g c =
    let M = g.M.Machine in
    let at = (goal.at.returns-in_err-complete g c).After-complete in
    let old = M.now c.args.m.now in let one = M.now c.find_volume.new.m in let two = M.now c.complete.new.m in
    let found = c.in_ok-layout.field-0 in let was = c.in_ok-layout.ensures in
    let reads = c.find_volume.ensures.reads in let failed = c.complete.ensures in
    let back = failed.disk.trust.honest in
    let p = err_from_is_err_and c.from_residual-in_err-complete.result c.from_residual-in_err-complete.ensures.1 in
    rw (p.1, p.2) (record {
      disk = heals_then (reads_as_heals was.reads) c.in_err-complete.ensures.disk;
      settled = tt;
      failed = record {
        sound = tt;
        unturned = λ h. still_unturned old one two two two (reads.worn (back h)) (failed.names h).present refl refl;
        counted = λ t h. inr (found.layout, was.root (back h), omega (arith, ap (λ (x : Ledger). x.written) (reads.ledger (failed.disk.trust.tells t)), failed.counted.most t));
        refused = λ h. device_refused c.args.sectors old _;
        unchanged = λ h. tt;
        rest = λ h.
            let is = (was.seen (back h)).is in
            let kept = failed.rest found.layout is.seen h was.found.planned was.found.layout is.knows in
            inr (record { layout = found.layout; root = was.root (back h); rest = rest_left found.layout old one two two two (reads.worn (back h)) kept (keeps_none found.layout two) (keeps_none found.layout two).rest refl });
        lost = λ h. tt;
        all_shown = λ h calm calm_new. tt;
      };
      shows = λ l windows choices h start. record {
        moments = let moments = to_complete g at windows choices h (begins g at l windows choices h start) in record {
          layout = found.layout;
          said = said g at l windows choices h start;
          took = tt;
          moments = moments;
          exit = moments.each two (g.met.M.Machine.counts_now c.complete.new.m (M.moment c.args.m.now) h moments.later);
        };
        turns =
            then_on M.moment M.left_since c.args.m.now c.find_volume.new.m c.complete.new.m (TurnsLast old two)
            (leaves_more M.moment M.left_since c.args.m.now c.find_volume.new.m (Wears old) (TurnsLast old two) (λ left worn. worn_turns old one two two two (reads.worn (back h)) (failed.names h).present refl left worn) (reads.any_moment (back h)))
            (leaves_more M.moment M.left_since c.find_volume.new.m c.complete.new.m (IsUnturned one) (TurnsLast old two) (λ left still. completing_turns old one two two two (reads.worn (back h)) (failed.names h).present refl left still) (failed.names h).unturned);
        ends = tt;
      };
    })

pub returns-in_err-mend : goal.returns-in_err-mend
returns-in_err-mend g c =
    let M = g.M.Machine in
    let at = goal.at.returns-in_err-mend g c in
    let old = M.now c.args.m.now in let one = M.now c.find_volume.new.m in let two = M.now c.complete.new.m in let three = M.now c.mend.new.m in
    let found = c.in_ok-layout.field-0 in let was = c.in_ok-layout.ensures in
    let reads = c.find_volume.ensures.reads in let completed = c.complete.ensures in let mended = c.mend.ensures in
    let failed = c.in_err-mend.ensures in let fault = c.in_err-mend.field-0.0 in
    let two_on = mended.mends.disk.trust.honest in
    let one_on : M.honest c.mend.new.m → M.honest c.find_volume.new.m = λ h. completed.disk.trust.honest (two_on h) in
    let p = err_from_is_err_and c.from_residual-in_err-mend.result c.from_residual-in_err-mend.ensures.1 in
    rw (p.1, p.2) (record {
      disk = heals_then (heals_then (reads_as_heals was.reads) c.in_ok-complete.ensures.disk) failed.mends.disk;
      settled = tt;
      failed = record {
        sound = load_sound fault failed.mends.load;
        unturned = λ h. still_unturned old one two three three (reads.worn (one_on h)) (completed.names (two_on h)).present (mended.keeps h).windows refl;
        counted = λ t h.
            let t2 = mended.mends.disk.trust.tells t in
            inr (found.layout, was.root (one_on h), omega (arith, ap (λ (x : Ledger). x.written) (reads.ledger (completed.disk.trust.tells t2)), completed.counted.most t2, mended.most t));
        refused = λ h. mend_refused c.args.sectors found.layout found.log old one was.found.epoch (was.seen (one_on h)).is fault failed.mends.load;
        unchanged = λ h. load_left old three fault failed.mends.load;
        rest = λ h.
            let is = (was.seen (one_on h)).is in
            let kept = completed.rest found.layout is.seen (two_on h) was.found.planned was.found.layout is.knows in
            inr (record { layout = found.layout; root = was.root (one_on h); rest = rest_left found.layout old one two three three (reads.worn (one_on h)) kept (mended.keeps h) (keeps_none found.layout three).rest refl });
        lost = λ h. lost_on c.args.sectors found.layout found.log old one was.found.layout (was.root (one_on h)) (was.seen (one_on h)).is three.image fault (failed.mends.lost h);
        all_shown = λ h calm calm_new.
            let is = (was.seen (one_on h)).is in let wears = reads.worn (one_on h) in
            let laid = c.in_ok-complete.ensures.given found.layout (two_on h) (still_one c.args.sectors found.layout found.log old one two calm wears is) was.found.planned was.found.layout (knows_one c.args.sectors found.layout found.log old one two calm wears is) in
            let next = next_kept two.windows three.windows (mended.keeps h).windows calm_new in
            let still = calm_now two.windows (calm_two c.args.sectors found.layout found.log old one two calm wears is (completed.names (two_on h)).present next) in
            loses_shown c.args.sectors found.layout found.log old one two calm wears is laid fault
            (failed.shown (records_by found.layout one.image found.log.anchor) h still laid.gives (some_root c.args.sectors found.layout found.log old one two calm wears is laid));
      };
      shows = λ l windows choices h start. record {
        moments =
            let begin = begins g at.After-complete l windows choices (two_on h) start in
            let moments = then_on M.moment M.left_since c.args.m.now c.complete.new.m c.mend.new.m (Replays found.layout windows choices old) (to_complete g at.After-complete windows choices (two_on h) begin) (to_mend g at.After-mend windows choices h begin) in
            record {
              layout = found.layout;
              said = said g at.After-complete l windows choices (two_on h) start;
              took = tt;
              moments = moments;
              exit = moments.each three (g.met.M.Machine.counts_now c.mend.new.m (M.moment c.args.m.now) h moments.later);
            };
        turns =
            let wears = reads.worn (one_on h) in let present = (completed.names (two_on h)).present in let kept = (mended.keeps h).windows in
            then_on M.moment M.left_since c.args.m.now c.complete.new.m c.mend.new.m (TurnsLast old three)
            (then_on M.moment M.left_since c.args.m.now c.find_volume.new.m c.complete.new.m (TurnsLast old three)
            (leaves_more M.moment M.left_since c.args.m.now c.find_volume.new.m (Wears old) (TurnsLast old three) (λ left worn. worn_turns old one two three three wears present kept left worn) (reads.any_moment (one_on h)))
            (leaves_more M.moment M.left_since c.find_volume.new.m c.complete.new.m (IsUnturned one) (TurnsLast old three) (λ left still. completing_turns old one two three three wears present kept left still) (completed.names (two_on h)).unturned))
            (leaves_more M.moment M.left_since c.complete.new.m c.mend.new.m (StaysShown found.layout windows choices two) (TurnsLast old three) (λ left at. stays_turns old one two three three wears present kept found.layout windows choices left at) (stays g at.After-mend windows choices h (begins g at.After-complete l windows choices (two_on h) start)));
        ends = (failed.goes_on windows choices (is_completed g at.After-mend windows choices h (begins g at.After-complete l windows choices (two_on h) start)) h).never_lost;
      };
    })

pub returns-in_err-begin_epoch : goal.returns-in_err-begin_epoch
returns-in_err-begin_epoch g c =
    let M = g.M.Machine in
    let at = goal.at.returns-in_err-begin_epoch g c in
    let old = M.now c.args.m.now in let one = M.now c.find_volume.new.m in let two = M.now c.complete.new.m in let three = M.now c.mend.new.m in let new = M.now c.begin_epoch.new.m in
    let found = c.in_ok-layout.field-0 in let was = c.in_ok-layout.ensures in
    let reads = c.find_volume.ensures.reads in let completed = c.complete.ensures in let mended = c.mend.ensures in let begun = c.begin_epoch.ensures in
    let three_on = begun.disk.trust.honest in
    let two_on : M.honest c.begin_epoch.new.m → M.honest c.complete.new.m = λ h. mended.mends.disk.trust.honest (three_on h) in
    let one_on : M.honest c.begin_epoch.new.m → M.honest c.find_volume.new.m = λ h. completed.disk.trust.honest (two_on h) in
    let p = err_from_is_err_and c.from_residual-in_err-begin_epoch.result c.from_residual-in_err-begin_epoch.ensures.1 in
    rw (p.1, p.2) (record {
      disk = heals_then (heals_then (heals_then (reads_as_heals was.reads) c.in_ok-complete.ensures.disk) c.in_ok-mend.ensures.mends.disk) c.in_err-begin_epoch.ensures.disk;
      settled = tt;
      failed = record {
        sound = tt;
        unturned = λ h. still_unturned old one two three new (reads.worn (one_on h)) (completed.names (two_on h)).present (mended.keeps (three_on h)).windows (c.in_err-begin_epoch.ensures.turns h).windows_err;
        counted = λ t h.
            let t3 = begun.disk.trust.tells t in let t2 = mended.mends.disk.trust.tells t3 in
            inr (found.layout, was.root (one_on h), omega (arith, ap (λ (x : Ledger). x.written) (reads.ledger (completed.disk.trust.tells t2)), completed.counted.most t2, mended.most t3, begun.counted.most t));
        refused = λ h. device_refused c.args.sectors old _;
        unchanged = λ h. tt;
        rest = λ h.
            let is = (was.seen (one_on h)).is in
            let kept = completed.rest found.layout is.seen (two_on h) was.found.planned was.found.layout is.knows in
            inr (record { layout = found.layout; root = was.root (one_on h); rest = rest_left found.layout old one two three new (reads.worn (one_on h)) kept (mended.keeps (three_on h)) (λ s out. let is = elsewhere found.layout s out in (begun.turns h).rest s is.anchor is.anchor_copy) (c.in_err-begin_epoch.ensures.turns h).windows_err });
        lost = λ h. tt;
        all_shown = λ h calm calm_new. tt;
      };
      shows = λ l windows choices h start. record {
        moments =
            let begin = begins g at.After-complete l windows choices (two_on h) start in
            let moments = then_on M.moment M.left_since c.args.m.now c.mend.new.m c.begin_epoch.new.m (Replays found.layout windows choices old)
            (then_on M.moment M.left_since c.args.m.now c.complete.new.m c.mend.new.m (Replays found.layout windows choices old) (to_complete g at.After-complete windows choices (two_on h) begin) (to_mend g at.After-mend windows choices (three_on h) begin))
            (to_begin g at.After-begin_epoch windows choices h begin) in
            record {
              layout = found.layout;
              said = said g at.After-complete l windows choices (two_on h) start;
              took = tt;
              moments = moments;
              exit = moments.each new (g.met.M.Machine.counts_now c.begin_epoch.new.m (M.moment c.args.m.now) h moments.later);
            };
        turns = turns_last g at.After-begin_epoch windows choices h (stays g at.After-mend windows choices (three_on h) (begins g at.After-complete l windows choices (two_on h) start));
        ends = tt;
      };
    })

pub returns : goal.returns
returns g c =
    let M = g.M.Machine in
    let at = goal.at.returns g c in
    let old = M.now c.args.m.now in let one = M.now c.find_volume.new.m in let two = M.now c.complete.new.m in let three = M.now c.mend.new.m in let new = M.now c.begin_epoch.new.m in
    let found = c.in_ok-layout.field-0 in let was = c.in_ok-layout.ensures in
    let reads = c.find_volume.ensures.reads in let completed = c.complete.ensures in let mended = c.mend.ensures in let begun = c.begin_epoch.ensures in
    let three_on = begun.disk.trust.honest in
    let two_on : M.honest c.begin_epoch.new.m → M.honest c.complete.new.m = λ h. mended.mends.disk.trust.honest (three_on h) in
    let one_on : M.honest c.begin_epoch.new.m → M.honest c.find_volume.new.m = λ h. completed.disk.trust.honest (two_on h) in
    let settled = c.in_ok-begin_epoch.ensures in
    let epoch : c.begin_epoch.new.log.anchor.epoch ≡ found.log.anchor.epoch + 1 = ap (λ (log : LogValue). log.anchor.epoch) settled.past in
    let before : found.log.anchor.epoch ≡ c.begin_epoch.new.log.anchor.epoch - 1 = omega (arith, epoch) in
    record {
      disk = heals_then (heals_then (heals_then (reads_as_heals was.reads) c.in_ok-complete.ensures.disk) c.in_ok-mend.ensures.mends.disk) settled.disk;
      settled = record {
        room = was.found.room;
        planned = was.found.planned;
        fresh = fresh found.layout found.log c.begin_epoch.new.log was.found.layout settled.past;
        epoch = omega (arith, epoch, was.found.epoch);
        counted = λ t.
            let t3 = begun.disk.trust.tells t in let t2 = mended.mends.disk.trust.tells t3 in
            omega (arith, ap (λ (x : Ledger). x.written) (reads.ledger (completed.disk.trust.tells t2)), completed.counted.most t2, mended.most t3, begun.counted.most t);
        grows = λ t.
            let t3 = begun.disk.trust.tells t in let t2 = mended.mends.disk.trust.tells t3 in
            omega (arith, ap (λ (x : Ledger). x.written) (reads.ledger (completed.disk.trust.tells t2)), c.in_ok-complete.ensures.counted.grows t2, c.in_ok-mend.ensures.mends.grows t3, settled.counted.grows t);
        root = λ h. was.root (one_on h);
        found = λ h.
            let borne = was.seen (one_on h) in let is = borne.is in
            record {
              seen = is.seen;
              from = is.from;
              settled = record { anchor = found.log.anchor; found = record { root = is.root; anchor = is.knows.taken }; epoch = epoch };
              bears = run_bears c.args.sectors is.seen found.longest two.windows.next new.windows.present
                  (next_present two.windows three.windows new.windows (c.in_ok-complete.ensures.names (two_on h)).named (mended.keeps (three_on h)).windows (settled.turns h).windows) (c.in_ok-complete.ensures.names (two_on h)).short borne.bears;
            };
        named = λ h.
            let some = (c.in_ok-complete.ensures.names (two_on h)).named in
            record {
              left = two;
              passed = λ t le. let at_two : t ≤ M.moment c.complete.new.m = omega (arith, le, (reads.any_moment (one_on h)).later, completed.disk.later (two_on h)) in
                  begun.disk.since h t two (omega (arith, at_two, mended.mends.disk.later (three_on h))) (mended.mends.disk.since (three_on h) t two at_two (g.met.M.Machine.counts_now c.complete.new.m t (two_on h) at_two));
              named = some;
              same = next_present two.windows three.windows new.windows some (mended.keeps (three_on h)).windows (settled.turns h).windows;
            };
        synced = λ h. (settled.turns h).synced;
        anchors = λ h.
            let bounds = planned_bounds found.layout was.found.planned in
            let wide : 12 < (M.report c.mend.new.m).sectors = omega (arith, bounds.third_least, bounds.sectors_least, was.found.room, c.requires, reads.uses.sectors, completed.disk.uses.sectors, mended.mends.disk.uses.sectors) in
            (settled.turns h).anchors wide (subst (λ (w : Windows). IsSome w.next) (sym (mended.keeps (three_on h)).windows) (c.in_ok-complete.ensures.names (two_on h)).named);
        homes = λ h page lt. both_settled found.layout page three new (subst (λ (w : Windows). IsSome w.next) (sym (mended.keeps (three_on h)).windows) (c.in_ok-complete.ensures.names (two_on h)).named)
            (settled.turns h).windows (begun.turns h).rest (c.in_ok-mend.ensures.homes (three_on h) page lt);
        rest = λ h.
            let is = (was.seen (one_on h)).is in
            rest_kept found.layout old one two three new (reads.worn (one_on h)) (completed.rest found.layout is.seen (two_on h) was.found.planned was.found.layout is.knows) (mended.keeps (three_on h))
            (λ s out. let is = elsewhere found.layout s out in (begun.turns h).rest s is.anchor is.anchor_copy) (c.in_ok-complete.ensures.names (two_on h)).named (settled.turns h).windows;
        shown = λ a h calm calm_new taken.
            let is = (was.seen (one_on h)).is in let wears = reads.worn (one_on h) in
            let laid = c.in_ok-complete.ensures.given found.layout (two_on h) (still_one c.args.sectors found.layout found.log old one two calm wears is) was.found.planned was.found.layout (knows_one c.args.sectors found.layout found.log old one two calm wears is) in
            let keeps = mended.keeps (three_on h) in
            let next = subst (λ (w : Windows). IfSome w.next IsEmpty) keeps.windows (next_settled three.windows new.windows (settled.turns h).windows calm_new) in
            let still = calm_now two.windows (calm_two c.args.sectors found.layout found.log old one two calm wears is (completed.names (two_on h)).present next) in
            stand_shown c.args.sectors found.layout found.log old one two calm wears is laid three new a taken (c.in_ok-mend.ensures.shown (records_by found.layout one.image found.log.anchor) (three_on h) still laid.gives)
            (still_next two three keeps.windows still) (begun.turns h).rest;
        believes = subst (λ (e : ℕ). IfSome found.saved (Believes M found.layout e c.args.m.now c.begin_epoch.new.m)) before (believed_later M found.layout found.log.anchor.epoch c.args.m.now c.find_volume.new.m c.begin_epoch.new.m one_on found.saved was.believes);
        none = λ none h. subst (λ (e : ℕ). SeesNone found.layout e old) before (was.none none (one_on h));
      };
      failed = tt;
      shows = λ l windows choices h start. record {
        moments =
            let begin = begins g at.After-complete l windows choices (two_on h) start in
            let moments = then_on M.moment M.left_since c.args.m.now c.mend.new.m c.begin_epoch.new.m (Replays found.layout windows choices old)
            (then_on M.moment M.left_since c.args.m.now c.complete.new.m c.mend.new.m (Replays found.layout windows choices old) (to_complete g at.After-complete windows choices (two_on h) begin) (to_mend g at.After-mend windows choices (three_on h) begin))
            (to_begin g at.After-begin_epoch windows choices h begin) in
            record {
              layout = found.layout;
              said = said g at.After-complete l windows choices (two_on h) start;
              took = refl;
              moments = moments;
              exit = moments.each new (g.met.M.Machine.counts_now c.begin_epoch.new.m (M.moment c.args.m.now) h moments.later);
            };
        turns = turns_last g at.After-begin_epoch windows choices h (stays g at.After-mend windows choices (three_on h) (begins g at.After-complete l windows choices (two_on h) start));
        ends =
            let is = is_completed g at.After-mend windows choices (three_on h) (begins g at.After-complete l windows choices (two_on h) start) in
            subst (λ (epoch : ℕ). IsReplayed found.layout windows choices epoch new) (sym epoch)
            (settled.begins found.layout windows choices two is h was.found.planned (c.in_ok-complete.ensures.names (two_on h)).named (c.in_ok-mend.ensures.goes_on windows choices is (three_on h)).done).done;
      };
    }
