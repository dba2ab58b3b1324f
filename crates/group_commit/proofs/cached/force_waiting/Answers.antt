use Rattle.std.proofs.Common.{◌≡◌, ◌≤◌, ◌+◌, ⊎_elim, ℕ, true, List, [], length, Some, None, refl, sym, ap, subst, ◌∙◌, arith, rules}
use Rattle.volume_layout.specs.Kinds.{gap_of}
use Rattle.run_table.specs.Space.{contains}
use Rattle.fsd_formats.specs.Record.{record_len}
use Rattle.log_thirds.specs.LogValue.{LogValue}
use Rattle.log_thirds.specs.Append.{stamp_now}
use Rattle.page_cache.specs.Cache.{CacheValue, cached_bytes, cleaned}
use Rattle.sector_disk.specs.Calls.{WritesDisk, load_failed_at}
use Rattle.sector_disk.proofs.CallLaws.{writes_none}
use Rattle.group_commit.specs.Cached.{CacheLeaves, FramesLeave, ascending_of}
use Rattle.group_commit.specs.Commit.{RecordFails}
use Rattle.group_commit.specs.Force.{log_forced}
use Rattle.group_commit.specs.Room.{sectors_before}
use Rattle.group_commit.proofs.CachedLaws.{all_accepted, all_stamped, all_there, before_layout, forced_some, idle_cache, idle_done, idle_leaves, idle_written, is_dirty, is_waiting, none_dirty, so_many, written_some}
use Rattle.group_commit.proofs.OutsideLaws.{outside_none}
use Rattle.group_commit.proofs.cached.force_waiting.Goals as goal

pub write_frames-requires-clause-accepted : goal.write_frames-requires-clause-accepted
write_frames-requires-clause-accepted g c =
    let some : 1 ≤ length c.args.waiting.now = search rules in
    all_accepted c.args.cache.now c.requires.valid c.args.waiting.now c.requires.are c.args.log.now.layout.pages c.requires.waiting some

pub write_frames-requires-clause-images : goal.write_frames-requires-clause-images
write_frames-requires-clause-images g c = λ p is. (c.requires.waiting p (is_dirty c.args.cache.now c.requires.valid c.args.waiting.now c.requires.are p is)).image

pub write_frames-requires-clause-inside : goal.write_frames-requires-clause-inside
write_frames-requires-clause-inside g c = all_there c.args.cache.now c.requires.valid c.args.waiting.now c.requires.are

pub returns-then-count-eq0 : goal.returns-then-count-eq0
returns-then-count-eq0 g c =
    let cache = c.args.cache.now in let log = c.args.log.now in let waiting = c.args.waiting.now in
    let valid = c.requires.valid in let are = c.requires.are in
    let none : length waiting ≡ 0 = search rules in
    record {
      disk = writes_none c.args.m.now (λ left h now. g.met.M.Machine.only_now c.args.m.now left h now) (CacheLeaves log cache) (λ h. idle_leaves cache valid waiting are none log (g.M.Machine.now c.args.m.now));
      rest = λ h. outside_none log.layout (g.M.Machine.now c.args.m.now);
      idle = λ clean. refl;
      layout = refl;
      done = record {
        pages = omega (arith, none, so_many cache valid waiting are);
        cache = idle_cache cache valid waiting are none log;
        past = sym (ap (λ (ys : List ℕ). log_forced log (ascending_of ys)) (none_dirty cache valid waiting are none));
        counted = λ tells. omega (arith, idle_written cache valid waiting are none log);
        shows = λ pages windows records disk agrees h ends over known. idle_done cache valid waiting are none log pages windows records disk (g.M.Machine.now c.args.m.now).image over;
        knows = λ pages windows records disk agrees h ends over known. known;
        logged = λ h page bytes is has.
            let nowhere : contains [] page ≡ true = subst (λ (ys : List ℕ). contains ys page ≡ true) (none_dirty cache valid waiting are none) is in
            absurd (cc nowhere);
      };
      failed = tt;
    }

pub returns-in-Ok : goal.returns-in-Ok
returns-in-Ok g c =
    let cache = c.args.cache.now in let log = c.args.log.now in let waiting = c.args.waiting.now in
    let valid = c.requires.valid in let are = c.requires.are in
    let some : 1 ≤ length waiting = search rules in
    let many : length waiting ≡ length cache.dirty = so_many cache valid waiting are in
    let wrote = c.in-Ok.ensures in
    record {
      disk = subst (λ (pages : List ℕ). WritesDisk g.M.Machine None (FramesLeave log cache pages) c.args.m.now c.write_frames.new.m) are wrote.disk;
      rest = wrote.rest;
      idle = λ clean. absurd (omega (arith, some, many, ap length clean));
      layout = ap (λ (l : LogValue). l.layout) wrote.done.past ∙ before_layout log (length waiting);
      done = record {
        pages = many;
        cache = c.cleaned.ensures ∙ ap cleaned (wrote.cache ∙ all_stamped cache valid waiting are (stamp_now log));
        past = wrote.done.past ∙ sym (forced_some log waiting some) ∙ ap (log_forced log) are;
        counted = λ tells. wrote.done.counted tells
            ∙ ap (λ (k : ℕ). (g.M.Machine.ledger c.args.m.now).written + k) ((λ i. sectors_before log (many i) + record_len (gap_of c.args.log.now.layout) (many i)) ∙ sym (written_some log cache.dirty (omega (arith, some, many))));
        shows = rw (← are) wrote.done.shows;
        knows = rw (← are) wrote.done.knows;
        logged = λ h page bytes is has. wrote.logged h page bytes (is_waiting cache valid waiting are page is) (subst (λ (v : CacheValue). cached_bytes v page ≡ Some bytes) c.cleaned.ensures has);
      };
      failed = tt;
    }

pub returns-in-Err : goal.returns-in-Err
returns-in-Err g c =
    let M = g.M.Machine in
    let cache = c.args.cache.now in let log = c.args.log.now in let waiting = c.args.waiting.now in
    let valid = c.requires.valid in let are = c.requires.are in
    let some : 1 ≤ length waiting = search rules in
    let many : length waiting ≡ length cache.dirty = so_many cache valid waiting are in
    let failed = c.in-Err.ensures in
    record {
      disk = subst (λ (pages : List ℕ). WritesDisk M (load_failed_at c.in-Err.fault) (FramesLeave log cache pages) c.args.m.now c.write_frames.new.m) are failed.disk;
      rest = failed.rest;
      idle = λ clean. absurd (omega (arith, some, many, ap length clean));
      layout = ⊎_elim (λ same. ap (λ (l : LogValue). l.layout) same) (λ before. ap (λ (l : LogValue). l.layout) before.0 ∙ before_layout log (length waiting)) failed.failed.write.past;
      done = tt;
      failed = record {
        cache = failed.cache ∙ all_stamped cache valid waiting are (stamp_now log);
        write = subst (λ (n : ℕ). RecordFails M log c.write_frames.new.log n c.args.m.now c.write_frames.new.m c.in-Err.fault) many failed.failed.write;
        never_lost = rw (← are) failed.failed.never_lost;
      };
    }
