use Rattle.std.proofs.Common.{Err, [], ◌∷◌, ap, arith, subst, sym}
use Rattle.std.proofs.lemmas.Result.{err_from_is_err_and}
use Rattle.std.specs.FinMap.{find}
use Rattle.run_table.specs.RunTable.{sectors_of}
use Rattle.fsd_bytes.specs.Keys.{key_cmp}
use Rattle.volume_contract.specs.Causes.{IsTaken}
use Rattle.volume_contract.specs.Ends.{ReadsRange}
use Rattle.volume_contract.specs.State.{State}
use Rattle.fsd_bytes.specs.declared.refusal.Refusal.{Refusal}
use Rattle.sector_disk.proofs.CallLaws.{reads_then}
use Rattle.fsd_files.specs.Answers.{entry_of}
use Rattle.volume_laws.specs.State.{resident, state}
use Rattle.volume_laws.proofs.AbsentLaws.{not_data, not_handed}
use Rattle.volume_laws.proofs.CauseLaws.{data_causes, handed_cause}
use Rattle.volume_laws.proofs.FoundLaws.{range_found}
use Rattle.volume_laws.proofs.RangeLaws.{all_below, both_kept, busy_read, data_read, handed, none_damaged, reads_found, reads_refused}
use Rattle.volume_laws.specs.WearLaws.{stands_worn}
use Rattle.volume_contract.specs.Order.{Data, entry_steps}
use Rattle.volume_laws.proofs.StepLaws.{comes_more, idle_front}
use Rattle.table_volume.proofs.files.VolumeFiles.read.Goals as goal

pub read_version-requires-clause-good : goal.read_version-requires-clause-good
read_version-requires-clause-good g c = c.in_ok-e.ensures.gives.met.entry

pub read_version-requires-clause-runs : goal.read_version-requires-clause-runs
read_version-requires-clause-runs g c = c.in_ok-e.ensures.gives.met.runs

pub read_version-requires-clause-within : goal.read_version-requires-clause-within
read_version-requires-clause-within g c k d lt =
    let below = all_below (state c.args.self.now).layout (sectors_of c.in_ok-e.e.runs) c.in_ok-e.ensures.gives.met.within k d lt in
    omega (arith, below, c.requires, c.version.ensures.disk.uses.sectors)

pub returns-clause-order : goal.returns-clause-order
returns-clause-order g c =
    let s = state c.args.self.now in
    let through = c.in_ok-e.ensures.order.follows in
    record { follows = data_read s c.read_version.result through c.read_version.ensures.cause; idle = λ idle. absurd (busy_read s through idle) }

pub returns-clause-disk : goal.returns-clause-disk
returns-clause-disk g c = reads_then c.in_ok-e.ensures.disk c.read_version.ensures.disk

pub returns-clause-stands : goal.returns-clause-stands
returns-clause-stands g c = λ h k stands.
    let M = g.M.Machine in
    let mid = c.version.new.m in
    let wears = c.read_version.ensures.disk.worn h in
    let back = c.read_version.ensures.disk.trust.honest h in
    stands_worn c.version.new.self k (M.now mid) (M.now c.read_version.new.m) (g.met.M.Machine.short mid back) (record { image = wears.image; windows = wears.windows }) (c.in_ok-e.ensures.stands back k stands)

pub returns-clause-done : goal.returns-clause-done
returns-clause-done g c = λ h k stands.
    let M = g.M.Machine in
    let mid = c.version.new.m in
    let back = c.read_version.ensures.disk.trust.honest h in
    let wears = c.in_ok-e.ensures.disk.worn back in
    let there = c.in_ok-e.ensures.stands back k stands in
    reads_found _ (M.now c.args.m.now).image (M.now mid).image (M.now c.read_version.new.m).image wears.image _ _ (entry_of c.args.key.now k.mounted.volume.entries) c.in_ok-e.e c.args.from c.args.buf.now c.read_version.new.buf c.read_version.result
    (c.in_ok-e.ensures.done back k stands) (both_kept (M.now mid).image _ c.args.key.now k.mounted.volume.files k.mounted.volume.entries there.disk.described.lists there.disk.described.kept)
    (λ f len kept. c.read_version.ensures.gives h f _ len kept)

pub returns-in_err-e-clause-order : goal.returns-in_err-e-clause-order
returns-in_err-e-clause-order g c =
    let s = state c.args.self.now in
    let why = c.in_err-e.field-0.0 in
    let failed = c.in_err-e.ensures in
    let p = err_from_is_err_and c.from_residual.result c.from_residual.ensures.1 in
    rw (p.1, p.2) (record { follows = comes_more (entry_steps s) (Data ∷ []) why failed.order.follows; idle = λ idle. failed.order.idle (idle_front (entry_steps s) (Data ∷ []) idle) })

pub returns-in_err-e-clause-done : goal.returns-in_err-e-clause-done
returns-in_err-e-clause-done g c = λ h k stands.
    let i = (g.M.Machine.now c.args.m.now).image in
    let j = (g.M.Machine.now c.version.new.m).image in
    let file = find key_cmp c.args.key.now k.mounted.volume.files in
    let e = entry_of c.args.key.now k.mounted.volume.entries in
    let there = c.in_err-e.ensures.stands h k stands in
    handed (ReadsRange i j file e c.args.from c.args.buf.now c.args.buf.now) c.from_residual.result c.in_err-e.field-0.0 c.from_residual.ensures.1
    (reads_refused i j j _ file e c.args.from c.args.buf.now c.args.buf.now c.in_err-e.field-0.0 (c.in_err-e.ensures.done h k stands)
    (both_kept j _ c.args.key.now k.mounted.volume.files k.mounted.volume.entries there.disk.described.lists there.disk.described.kept))

pub returns-clause-tells : goal.returns-clause-tells
returns-clause-tells g c =
    let M = g.M.Machine in
    let w = c.args.self.now in
    let s = state w in
    let t = state c.version.new.self in
    let e = c.in_ok-e.ensures in
    let met = e.gives.met in
    let tells = e.gives.tells in
    let r = c.read_version.ensures in
    record {
      most = r.range.most;
      damaged = λ n is h. let one = r.damaged n is h in record { within = met.within n one.there; damaged = one.damaged };
      causes = data_causes M (resident w) s t c.args.m.now c.read_version.new.m c.read_version.result r.cause;
      absent = not_data c.read_version.result r.cause;
      found = range_found M (resident w) s t c.args.m.now c.version.new.m c.read_version.new.m c.args.key.now c.in_ok-e.e c.args.from c.args.buf.now c.read_version.new.buf
          _ tells.key (subst (λ (x : State). IsTaken x c.in_ok-e.e) (sym e.state) met.taken) tells.found e.disk.worn r.disk c.read_version.result r.range.count r.range.whole r.gives;
    }

pub returns-in_err-e-clause-tells : goal.returns-in_err-e-clause-tells
returns-in_err-e-clause-tells g c =
    let M = g.M.Machine in
    let v = c.args.self.now in
    let s = state v in
    let failed = c.in_err-e.ensures in
    let why = c.in_err-e.field-0.0 in
    let back = c.from_residual in
    let p = err_from_is_err_and back.result back.ensures.1 in
    record {
      most = rw p.1 tt;
      damaged = rw (p.1, p.2) (λ n is h. absurd (none_damaged s why n failed.order.follows (cc is)));
      causes = handed_cause M (resident v) s (state c.version.new.self) c.args.m.now c.version.new.m why back.result back.ensures.1 failed.gives.tells.causes;
      absent = not_handed why back.result back.ensures.1 (λ same. failed.gives.tells.absent (ap (λ (x : Refusal). Err x) same));
      found = rw p.1 tt;
    }
