use Rattle.std.proofs.Common.{◌+◌, ◌*◌, ℕ, None, inl, inr, List, [], length, get_or, take, sym, ap, subst, ◌∙◌, arith}
use Rattle.std.proofs.lemmas.List.{length-take-le}
use Rattle.volume_layout.specs.declared.layout.Layout.{Layout}
use Rattle.volume_layout.specs.Kinds.{gap_of}
use Rattle.fsd_formats.specs.Record.{Stamp, are_pages, record_len, AreStamped}
use Rattle.fsd_log.specs.Judged.{sector_in}
use Rattle.fsd_log.specs.Laid.{slices}
use Rattle.sector_disk.specs.declared.machine.LoadFault.TheVariants.{Device}
use Rattle.group_commit.proofs.CountLaws.{handed_up, wrote_on, wrote_same}
use Rattle.fsd_log.specs.Scan.{Placed}
use Rattle.sector_disk.specs.declared.sector.WeakRun.{WeakRun}
use Rattle.sector_disk.specs.Calls.{load_failed_at}
use Rattle.sector_disk.specs.Machine.{Ledger, Moment}
use Rattle.sector_disk.proofs.CallLaws.{told_up, writes_more, writes_then, writes_told}
use Rattle.fsd_sound.specs.Sound.{EndIn, BearsLast, weak_of}
use Rattle.log_thirds.specs.LogValue.{LogValue}
use Rattle.log_thirds.specs.Append.{IsApartNow, WritesRecord, log_with, stamp_now}
use Rattle.log_thirds.proofs.MomentLaws.{MayAppend, all_small}
use Rattle.sector_disk.specs.Image.{open_damage}
use Rattle.sector_disk.proofs.Wear.{worn_refl, slice_in_front}
use Rattle.group_commit.specs.Commit.{LogsNoPages}
use Rattle.group_commit.specs.Entering.{HasRoomNow, MayHome, ShowsStill}
use Rattle.group_commit.specs.Force.{StandsOverDisk, Committed, KeepsOutside}
use Rattle.group_commit.specs.Cached.{HasImages, RecordLeaves}
use Rattle.fsd_sound.specs.Logged.{StandsLogged}
use Rattle.group_commit.specs.Newest.{KnowsImages}
use Rattle.group_commit.specs.Resident.{ResidentValue, stamped}
use Rattle.group_commit.specs.Room.{sectors_before}
use Rattle.group_commit.proofs.ImageLaws.{IsRecordOf}
use Rattle.group_commit.proofs.RoomLaws.{record_cause}
use Rattle.group_commit.proofs.RoundLaws.{may_home, owns, making, stands, commits_on, ends_then}
use Rattle.group_commit.proofs.ForceLaws.{MayForce, commits, committed, log_in_window}
use Rattle.group_commit.proofs.LoggedLaws.{stands_logged}
use Rattle.group_commit.proofs.StandsLaws.{knows_log}
use Rattle.group_commit.proofs.OutsideLaws.{outside_record, outside_then}
use Rattle.group_commit.proofs.record.write_record.Given as given
use Rattle.group_commit.proofs.record.write_record.Goals as goal
use Rattle.group_commit.proofs.record.write_record.Goals.{After-append}
use Rattle.fsd_sound.proofs.WindowLaws.{fewer}
use Rattle.std.specs.List.{last_or}
use Rattle.fsd_sound.specs.Windows.{IsApart}

-- ---- where room was made and the record written

home_here : (g : given.Over) (c : After-append g) (windows : List WeakRun) → BearsLast c.args.log.now.layout windows → EndIn (g.M.Machine.now c.args.m.now).windows windows → MayHome c.args.log.now windows (g.M.Machine.now c.args.m.now)
home_here g c windows borne ends =
    may_home c.args.log.now c.layout-layout.result.now windows (g.M.Machine.now c.args.m.now) c.layout-layout.ensures.value c.pages-pages.ensures.planned c.layout-layout.ensures.shape borne ends

abbrev s : (g : given.Over) (c : After-append g) → List (List ℕ) → ResidentValue
s g c pages = record { pages = pages; dirty = c.args.dirty.now }

abbrev images : (g : given.Over) (c : After-append g) → List ℕ
images g c = take (512 * length c.args.dirty.now) c.args.room.now

abbrev Have : (g : given.Over) (c : After-append g) → List (List ℕ) → Type 0
Have g c pages = HasImages c.args.log.now c.args.dirty.now c.args.room.now pages

laid : (g : given.Over) (c : After-append g) (pages : List (List ℕ)) → Have g c pages → IsRecordOf (stamp_now c.args.log.now) c.args.dirty.now (stamped (stamp_now c.args.log.now) c.args.dirty.now pages) (images g c)
laid g c pages has = record { slices_are = has.laid; bear = c.requires.stamped }

made : (g : given.Over) (c : After-append g) (pages : List (List ℕ)) (windows : List WeakRun) (records : List Placed) (disk : List (List ℕ)) → g.M.Machine.honest c.append.new.m → EndIn (g.M.Machine.now c.args.m.now).windows windows
    → StandsOverDisk c.args.log.now records disk (s g c pages) windows (g.M.Machine.now c.args.m.now).image → KnowsImages c.args.log.now (g.M.Machine.now c.args.m.now).image
    → HasRoomNow c.make_room.new.log disk windows (g.M.Machine.now c.args.m.now) (g.M.Machine.now c.make_room.new.m)
made g c pages windows records disk h ends over known =
    c.in_ok-make_room.ensures.done.shows records disk windows (c.append.ensures.writes.trust.honest h) (home_here g c windows over.shows.readable.borne ends) (owns c.args.log.now (s g c pages) records disk windows (g.M.Machine.now c.args.m.now) over known)

-- the log takes the record, whatever the disk shows
may_append : (g : given.Over) (c : After-append g) → g.M.Machine.honest c.append.new.m → MayAppend c.make_room.new.log c.args.dirty.now (images g c) (length (g.M.Machine.now c.make_room.new.m).image)
may_append g c h =
    let shape = c.append.ensures.shape in
    let h1 = c.append.ensures.writes.trust.honest h in
    record {
      least = shape.least;
      one_of = shape.third;
      is_in = shape.is_in;
      epoch = shape.epoch;
      number = omega (arith, ap (λ (t : Stamp). t.number) c.make_room.ensures.form.stamp, c.requires.numbered);
      accepted = ap (λ (l : Layout). are_pages l.pages c.args.dirty.now) c.make_room.ensures.form.layout ∙ c.requires.accepted;
      small = all_small c.args.dirty.now (λ k. omega (arith, c.type_inv.dirty k));
      bytes = length-take-le (512 * length c.args.dirty.now) c.args.room.now c.requires.long;
      stamped = subst (λ (t : Stamp). AreStamped t c.args.dirty.now (slices (length c.args.dirty.now) (images g c))) (sym c.make_room.ensures.form.stamp) c.requires.stamped;
      room = c.in_ok-make_room.ensures.done.room;
      sized = omega (arith, shape.inside, ap (λ (l : Layout). l.sectors) c.make_room.ensures.form.layout, c.requires.sectors, c.make_room.ensures.disk.uses.sectors, g.met.M.Machine.sized c.make_room.new.m h1);
    }

may : (g : given.Over) (c : After-append g) (pages : List (List ℕ)) (has : Have g c pages) (windows : List WeakRun) (records : List Placed) (disk : List (List ℕ)) (h : g.M.Machine.honest c.append.new.m) (ends : EndIn (g.M.Machine.now c.args.m.now).windows windows)
    (over : StandsOverDisk c.args.log.now records disk (s g c pages) windows (g.M.Machine.now c.args.m.now).image) (known : KnowsImages c.args.log.now (g.M.Machine.now c.args.m.now).image)
    → MayForce c.make_room.new.log (s g c pages) (images g c) (made g c pages windows records disk h ends over known).records disk windows (g.M.Machine.now c.make_room.new.m)
may g c pages has windows records disk h ends over known =
    let M = g.M.Machine in
    let mid = M.now c.make_room.new.m in
    let h1 = c.append.ensures.writes.trust.honest h in
    let log = c.args.log.now in
    let after = c.make_room.new.log in
    let room = made g c pages windows records disk h ends over known in
    record {
      may = may_append g c h;
      of = subst (λ (t : Stamp). IsRecordOf t c.args.dirty.now (stamped t c.args.dirty.now pages) (images g c)) (sym c.make_room.ensures.form.stamp) (laid g c pages has);
      table = has.table ∙ ap (λ (l : Layout). l.pages) (sym c.make_room.ensures.form.layout);
      few = omega (arith, c.append.ensures.shape.pages);
      apart = subst (λ (l : Layout). IsApart (gap_of l) (weak_of windows)) (sym c.make_room.ensures.form.layout) (home_here g c windows over.shows.readable.borne ends).apart;
      ends = ends_then log (s g c pages) records disk windows (M.now c.args.m.now) over after mid room c.make_room.ensures.form.layout c.make_room.ensures.form.stamp (c.make_room.ensures.disk.windows h1) (c.make_room.ensures.disk.quiet h1) ends;
      over = stands log (s g c pages) records disk windows (M.now c.args.m.now) over after mid room c.make_room.ensures.form.layout c.make_room.ensures.form.stamp (c.make_room.ensures.disk.windows h1) (c.make_room.ensures.disk.quiet h1);
    }

-- whatever the append leaves, the pages as they were or as they are now are shown
shown : (g : given.Over) (c : After-append g) (left : Moment) → g.M.Machine.honest c.append.new.m
    → WritesRecord c.make_room.new.log c.args.dirty.now (images g c) (g.M.Machine.now c.make_room.new.m) left
    → RecordLeaves c.args.log.now c.args.dirty.now c.args.room.now (g.M.Machine.now c.args.m.now) left
shown g c left h part pages has windows records disk ends over known =
    let M = g.M.Machine in
    let room = made g c pages windows records disk h ends over known in
    let writes = c.in_ok-make_room.ensures.disk in
    let h1 = c.append.ensures.writes.trust.honest h in
    commits_on c.args.log.now (s g c pages) records disk windows (M.now c.args.m.now) over c.make_room.new.log (M.now c.make_room.new.m) room c.make_room.ensures.form.layout c.make_room.ensures.form.stamp (writes.windows h1) (writes.quiet h1) left
    (commits c.make_room.new.log (s g c pages) (images g c) room.records disk windows (M.now c.make_room.new.m) (may g c pages has windows records disk h ends over known) left part)

-- and while room is made those as they were
making_room : (g : given.Over) (c : After-append g) (left : Moment) → g.M.Machine.honest c.make_room.new.m → ShowsStill c.args.log.now (g.M.Machine.now c.args.m.now) left → RecordLeaves c.args.log.now c.args.dirty.now c.args.room.now (g.M.Machine.now c.args.m.now) left
making_room g c left h shows pages has windows records disk ends over known =
    let old = g.M.Machine.now c.args.m.now in
    let log = c.args.log.now in
    making log (s g c pages) records disk windows old over (stamped (stamp_now log) c.args.dirty.now pages) left
    (shows records disk windows
    (may_home log c.layout-layout.result.now windows old c.layout-layout.ensures.value c.pages-pages.ensures.planned c.layout-layout.ensures.shape over.shows.readable.borne ends)
    (owns log (s g c pages) records disk windows old over known))

-- whatever the disk shows
rest_made : (g : given.Over) (c : After-append g) → g.M.Machine.honest c.append.new.m → KeepsOutside c.args.log.now.layout (g.M.Machine.now c.args.m.now) (g.M.Machine.now c.append.new.m)
rest_made g c h =
    let M = g.M.Machine in
    let after = c.make_room.new.log in
    let mid = M.now c.make_room.new.m in let new = M.now c.append.new.m in
    let writes = c.append.ensures.writes in
    let h1 = writes.trust.honest h in
    outside_then c.args.log.now.layout (M.now c.args.m.now) mid new (c.make_room.ensures.disk.windows h1) (c.make_room.ensures.rest h1)
    (subst (λ (l : Layout). KeepsOutside l mid new) c.make_room.ensures.form.layout (outside_record after c.args.dirty.now (images g c) mid new (may_append g c h) (writes.exit h)))

pub append-requires-clause-stamped : goal.append-requires-clause-stamped
append-requires-clause-stamped g c =
    subst (λ (t : Stamp). AreStamped t c.args.dirty.now (slices (length c.args.dirty.now) (take (512 * length c.args.dirty.now) c.args.room.now))) (sym c.make_room.ensures.form.stamp) c.requires.stamped

-- ---- where no room was made

pub returns-in_err-make_room-clause-disk : goal.returns-in_err-make_room-clause-disk
returns-in_err-make_room-clause-disk g c =
    let M = g.M.Machine in
    let old = M.now c.args.m.now in
    let log = c.args.log.now in
    let writes = c.in_err-make_room.ensures.disk in
    writes_told (told_up load_failed_at c.from_residual.result c.in_err-make_room.field-0.0 c.from_residual.ensures.1)
    (writes_more writes (λ h left shows pages has windows records disk ends over known.
    making log (record { pages = pages; dirty = c.args.dirty.now }) records disk windows old over (stamped (stamp_now log) c.args.dirty.now pages) left
    (shows records disk windows
    (may_home log c.layout-layout.result.now windows old c.layout-layout.ensures.value c.pages-pages.ensures.planned c.layout-layout.ensures.shape over.shows.readable.borne ends)
    (owns log (record { pages = pages; dirty = c.args.dirty.now }) records disk windows old over known))))

pub returns-in_err-make_room-clause-failed : goal.returns-in_err-make_room-clause-failed
returns-in_err-make_room-clause-failed g c =
    let M = g.M.Machine in
    let old = M.now c.args.m.now in
    let log = c.args.log.now in
    let dirty = c.args.dirty.now in
    let failed = c.in_err-make_room.ensures.failed in
    handed_up (LogsNoPages M log c.make_room.new.log (HasImages log dirty c.args.room.now) dirty c.args.m.now c.make_room.new.m) c.from_residual.result c.in_err-make_room.field-0.0 c.from_residual.ensures.1
    (record {
      write = record { cause = record_cause log (length dirty) failed.enters c.in_err-make_room.field-0.0; past = inl failed.kept; counted = failed.homes.counted; lost = failed.homes.lost };
      never_lost = λ pages windows records disk has h ends over known. failed.homes.never_lost records disk windows h
          (may_home log c.layout-layout.result.now windows old c.layout-layout.ensures.value c.pages-pages.ensures.planned c.layout-layout.ensures.shape over.shows.readable.borne ends)
          (owns log (record { pages = pages; dirty = dirty }) records disk windows old over known);
    })

pub returns-in_err-append-clause-failed : goal.returns-in_err-append-clause-failed
returns-in_err-append-clause-failed g c =
    let M = g.M.Machine in
    let log = c.args.log.now in
    let dirty = c.args.dirty.now in
    let before = sectors_before log (length dirty) in
    let made = c.in_ok-make_room.ensures.done in
    let failed = c.in_err-append.ensures.failed in
    let back = c.in_err-append.ensures.writes.trust.tells in
    handed_up (LogsNoPages M log c.append.new.self (HasImages log dirty c.args.room.now) dirty c.args.m.now c.append.new.m) c.from_residual-in_err-append.result (Device c.in_err-append.field-0.0.place) c.from_residual-in_err-append.ensures.1
    (record {
      write = record {
        cause = tt;
        past = inr (failed.kept ∙ made.past, λ t. ap (λ (l : Ledger). l.written) (failed.counted t) ∙ made.counted (back t));
        counted = λ t. wrote_on (M.ledger c.args.m.now) (M.ledger c.make_room.new.m) (M.ledger c.append.new.m) before 0 before
            (made.counted (back t)) (wrote_same (M.ledger c.make_room.new.m) (M.ledger c.append.new.m) 0 (failed.counted t)) (omega arith);
        lost = λ h. tt;
      };
      never_lost = λ pages windows records disk has h ends over known. tt;
    })

pub returns-in_err-append-clause-disk : goal.returns-in_err-append-clause-disk
returns-in_err-append-clause-disk g c =
    let c1 = (goal.at.returns-in_err-append-clause-disk g c).After-append in
    writes_told (told_up load_failed_at c.from_residual-in_err-append.result (Device c.in_err-append.field-0.0.place) c.from_residual-in_err-append.ensures.1)
    (writes_then c.in_ok-make_room.ensures.disk c.in_err-append.ensures.writes (λ h left shows. making_room g c1 left h shows) (λ h left part. shown g c1 left h part))

pub returns-clause-disk : goal.returns-clause-disk
returns-clause-disk g c =
    let c1 = (goal.at.returns-clause-disk g c).After-append in
    writes_then c.in_ok-make_room.ensures.disk c.in_ok-append.ensures.writes (λ h left shows. making_room g c1 left h shows) (λ h left part. shown g c1 left h part)

-- what the machine may wear now lies no farther apart than the last window's run
apart_now : (gap : ℕ) (windows : List WeakRun) (at : Moment) → EndIn at.windows windows → IsApart gap (weak_of windows) → IsApartNow gap at
apart_now gap windows at ends apart s d x y far =
    let weaker = fewer (last_or None windows) at.windows.present at.windows.next ends.last ends.some in
    apart s (s + d) (omega (arith, far)) (weaker s x) (weaker (s + d) y)

pub returns-clause-done : goal.returns-clause-done
returns-clause-done g c =
    let M = g.M.Machine in
    let c1 = (goal.at.returns-clause-done g c).After-append in
    let mid = M.now c.make_room.new.m in
    let new = M.now c.append.new.m in
    let log = c.args.log.now in
    let dirty = c.args.dirty.now in
    let after = c.make_room.new.log in
    let form = c.make_room.ensures.form in
    let made_room = c.in_ok-make_room.ensures.done in
    let appended = c.in_ok-append.ensures.done in
    record {
      past = appended.past ∙ ap (λ (x : LogValue). log_with x dirty) made_room.past;
      counted = λ t.
          let written = ap (λ (l : Ledger). l.written) (appended.counted t) in
          let len = ap (λ (l : Layout). record_len (gap_of l) (length dirty)) form.layout in
          omega (arith, written, len, made_room.counted (c.in_ok-append.ensures.writes.trust.tells t));
      shows = λ pages windows records disk has h ends over known.
          let room = made g c1 pages windows records disk h ends over known in
          let is = may g c1 pages has windows records disk h ends over known in
          let done = committed after (s g c1 pages) (images g c1) room.records disk windows mid is new (appended.stands h) in
          subst (λ (x : LogValue). Committed x (record { pages = stamped (stamp_now log) dirty pages; dirty = [] }) windows new.image) (sym appended.past)
          (subst (λ (t : Stamp). Committed (log_with after dirty) (record { pages = stamped t dirty pages; dirty = [] }) windows new.image) form.stamp (record { records = done.records; stands = done.stands }));
      knows = λ pages windows records disk has h ends over known.
          let room = made g c1 pages windows records disk h ends over known in
          let is = may g c1 pages has windows records disk h ends over known in
          let before = log_in_window after (s g c1 pages) room.records disk windows mid is.few c.append.ensures.shape.epoch c.append.ensures.shape.third is.apart is.ends is.over in
          let then = appended.worn room.records h (apart_now (gap_of after.layout) windows mid is.ends is.apart) before in
          knows_log c.append.new.self _ new (then new.image (worn_refl (open_damage new.windows) new.image)) (appended.indexed room.records room.over.indexed);
    }

pub returns-clause-logged : goal.returns-clause-logged
returns-clause-logged g c h k lt =
    let M = g.M.Machine in
    let c1 = (goal.at.returns-clause-logged g c).After-append in
    let dirty = c.args.dirty.now in
    let after = c.make_room.new.log in
    let new = M.now c.append.new.m in
    let page : ℕ = get_or c.args.dirty.now k 0 in
    subst (λ (x : LogValue). StandsLogged x.layout x.slots new page (sector_in c.args.room.now k)) (sym c.in_ok-append.ensures.done.past)
    (subst (StandsLogged (log_with after dirty).layout (log_with after dirty).slots new page) (slice_in_front c.args.room.now (length dirty) k lt)
    (stands_logged after dirty (images g c1) (M.now c.make_room.new.m) new (may_append g c1 h) k lt c.append.ensures.shape.table (c.in_ok-append.ensures.done.stands h)))

pub returns-clause-rest : goal.returns-clause-rest
returns-clause-rest g c h = rest_made g (goal.at.returns-clause-rest g c).After-append h

pub returns-in_err-append-clause-rest : goal.returns-in_err-append-clause-rest
returns-in_err-append-clause-rest g c h = rest_made g (goal.at.returns-in_err-append-clause-rest g c).After-append h
