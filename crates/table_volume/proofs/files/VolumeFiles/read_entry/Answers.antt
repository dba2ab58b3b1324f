use Rattle.std.proofs.Common.{◌≡◌, ◌≤◌, inl, option_map, refl, sym, ap, arith}
use Rattle.std.specs.FinMap.{find}
use Rattle.std.proofs.lemmas.Result.{err_from_is_err_and}
use Rattle.run_table.specs.RunTable.{sectors_of}
use Rattle.fsd_bytes.specs.Keys.{key_cmp}
use Rattle.fsd_bytes.specs.declared.refusal.Refusal.{Refusal}
use Rattle.fsd_bytes.specs.declared.refusal.Refusal.TheVariants as Why
use Rattle.fsd_files.specs.Disk.{in_runs}
use Rattle.sector_disk.proofs.CallLaws.{reads_none, reads_told}
use Rattle.volume_laws.specs.State.{state}
use Rattle.volume_laws.specs.WearLaws.{stands_worn}
use Rattle.volume_laws.proofs.ForceEndLaws.{not_down}
use Rattle.volume_laws.proofs.ForceLeavesLaws.{down_tells_none}
use Rattle.volume_laws.proofs.RangeLaws.{all_below, both_kept, gives_of, reads_there}
use Rattle.volume_laws.proofs.NextLaws.{up_by}
use Rattle.volume_laws.proofs.ReadHeldLaws.{busy_held, held_follows}
use Rattle.table_volume.proofs.DownLaws.{down_step, told_down}
use Rattle.table_volume.proofs.files.VolumeFiles.read_entry.Goals as goal

-- ---- it is down

pub returns-in_err-is_up : goal.returns-in_err-is_up
returns-in_err-is_up g c =
    let v = c.args.self.now in
    let at = c.args.m.now in
    let now = g.M.Machine.now c.args.m.now in
    let why = c.in_err-is_up.field-0.0 in
    let down = sym c.in_err-is_up.ensures in
    let p = err_from_is_err_and c.from_residual.result c.from_residual.ensures.1 in
    rw (p.1, p.2) (record {
      order = record { follows = inl (down_step v.down why down); idle = λ idle. refl };
      disk = reads_told (down_tells_none v.down why down) (reads_none at (g.met.M.Machine.only_now at));
      state = refl;
      stands = λ h k stands. stands;
      tells = record { count = tt; gives = tt; damaged = λ s is h. absurd (told_down (λ (r : Refusal). r ≡ Why.Damaged s → ⊥) (λ place e. absurd (cc e)) v.down why down (cc is)) };
      done = λ h k stands there. absurd (not_down v k now why down stands);
    })

-- ---- it is read

pub read_version-requires-clause-good : goal.read_version-requires-clause-good
read_version-requires-clause-good g c = c.requires.met.entry

pub read_version-requires-clause-runs : goal.read_version-requires-clause-runs
read_version-requires-clause-runs g c = c.requires.met.runs

pub read_version-requires-clause-within : goal.read_version-requires-clause-within
read_version-requires-clause-within g c k d lt =
    let below = all_below c.args.self.now.layout (sectors_of c.args.e.now.runs) c.requires.met.within k d lt in
    omega (arith, below, c.requires.room)

pub returns-clause-order : goal.returns-clause-order
returns-clause-order g c =
    let s = state c.args.self.now in
    let up = ap (option_map Why.Down) (up_by c.args.self.now.down (sym c.in_ok-is_up.ensures)) in
    record { follows = held_follows s c.read_version.result up c.read_version.ensures.cause; idle = λ idle. absurd (busy_held s up idle) }

pub returns-clause-tells : goal.returns-clause-tells
returns-clause-tells g c =
    let M = g.M.Machine in
    let read = c.read_version.ensures in
    record {
      count = read.range.count;
      gives = gives_of M c.args.m.now c.read_version.new.m c.args.e.now c.args.from c.args.buf.now c.read_version.new.buf c.read_version.result read.range.count read.range.whole read.gives;
      damaged = λ s is h. let one = read.damaged s is h in (one.there, one.damaged);
    }

pub returns-clause-stands : goal.returns-clause-stands
returns-clause-stands g c = λ h k stands.
    let M = g.M.Machine in
    let disk = c.read_version.ensures.disk in
    let wears = disk.worn h in
    stands_worn c.args.self.now k (M.now c.args.m.now) (M.now c.read_version.new.m) (g.met.M.Machine.short c.args.m.now (disk.trust.honest h)) (record { image = wears.image; windows = wears.windows }) stands

pub returns-clause-done : goal.returns-clause-done
returns-clause-done g c = λ h k stands there.
    let i = (g.M.Machine.now c.args.m.now).image in
    let e = c.args.e.now in
    reads_there i (g.M.Machine.now c.read_version.new.m).image (in_runs k.windows) (find key_cmp e.key k.mounted.volume.files) e c.args.from c.args.buf.now c.read_version.new.buf c.read_version.result
    (rw (← there) (both_kept i (in_runs k.windows) e.key k.mounted.volume.files k.mounted.volume.entries stands.disk.described.lists stands.disk.described.kept))
    (λ f len kept. c.read_version.ensures.gives h f (in_runs k.windows) len kept)
