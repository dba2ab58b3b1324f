use Rattle.std.proofs.Common.{◌≡◌, ℕ, Some, Err, arith}
use Rattle.std.proofs.lemmas.Result.{err_from_is_err_and}
use Rattle.std.specs.Prelude.{IfErr}
use Rattle.fsd_bytes.specs.declared.refusal.Refusal.TheVariants as Why
use Rattle.sector_disk.specs.Calls.{device_in}
use Rattle.sector_disk.proofs.CallLaws.{reads_told}
use Rattle.volume_contract.specs.Ends.{ReadsRange, device_of}
use Rattle.volume_contract.specs.Order.{IsData}
use Rattle.version_data.specs.Reading.{data_failed_at, refusal_of}
use Rattle.version_data.proofs.PlaceLaws.{entry_count, entry_length}
use Rattle.volume_laws.proofs.RangeLaws.{damaged_reads, data_device, data_is, handed, reads_range, told_damaged, told_there}
use Rattle.table_volume.specs.Looks.{IsDamagedOf}
use Rattle.table_volume.proofs.reading.read_version.Goals as goal

pub read_range-requires-clause-end : goal.read_range-requires-clause-end
read_range-requires-clause-end g c = omega (arith, entry_count c.args.e.now c.requires.good)

pub read_range-requires-clause-small : goal.read_range-requires-clause-small
read_range-requires-clause-small g c = omega (arith, entry_length c.args.e.now c.requires.good)

pub returns-in_err-read_range-clause-disk : goal.returns-in_err-read_range-clause-disk
returns-in_err-read_range-clause-disk g c =
    let fault = c.in_err-read_range.field-0.0 in
    reads_told (handed (λ r. device_in device_of r ≡ data_failed_at fault) c.from_residual.result (refusal_of fault) c.from_residual.ensures.1 (data_device fault)) c.in_err-read_range.ensures.disk

pub returns-in_err-read_range-clause-cause : goal.returns-in_err-read_range-clause-cause
returns-in_err-read_range-clause-cause g c = handed (λ r. IfErr r IsData) c.from_residual.result (refusal_of c.in_err-read_range.field-0.0) c.from_residual.ensures.1 (data_is c.in_err-read_range.field-0.0)

pub returns-in_err-read_range-clause-gives : goal.returns-in_err-read_range-clause-gives
returns-in_err-read_range-clause-gives g c = λ h file hurt len kept.
    let M = g.M.Machine in
    let i = (M.now c.args.m.now).image in
    let j = (M.now c.read_range.new.m).image in
    let fault = c.in_err-read_range.field-0.0 in
    let e = c.args.e.now in
    handed (λ r. ReadsRange i j (Some file) (Some e) c.args.from c.args.buf.now c.read_range.new.buf r) c.from_residual.result (refusal_of fault) c.from_residual.ensures.1
    (damaged_reads i j file e c.args.from c.min-n.result c.args.buf.now c.read_range.new.buf fault (omega arith) (c.in_err-read_range.ensures.damaged h))

pub returns-in_err-read_range-clause-damaged : goal.returns-in_err-read_range-clause-damaged
returns-in_err-read_range-clause-damaged g c =
    let M = g.M.Machine in
    let fault = c.in_err-read_range.field-0.0 in
    let i = (M.now c.args.m.now).image in
    let j = (M.now c.read_range.new.m).image in
    let runs = c.args.e.now.runs in
    handed (λ r. (s : ℕ) → r ≡ Err (Why.Damaged s) → M.honest c.read_range.new.m → IsDamagedOf runs j s) c.from_residual.result (refusal_of fault) c.from_residual.ensures.1
    (λ s is h. let named = c.in_err-read_range.ensures.damaged h in record { there = told_there i j runs c.args.from c.min-n.result s fault named (cc is); damaged = told_damaged i j runs c.args.from c.min-n.result s fault named (cc is) })

pub returns-in_err-read_range-clause-range : goal.returns-in_err-read_range-clause-range
returns-in_err-read_range-clause-range g c =
    let p = err_from_is_err_and c.from_residual.result c.from_residual.ensures.1 in
    record { most = rw p.1 tt; count = rw p.1 tt; whole = rw p.1 tt }

pub returns-clause-gives : goal.returns-clause-gives
returns-clause-gives g c = λ h file hurt len kept.
    reads_range (g.M.Machine.now c.args.m.now).image hurt file c.args.e.now c.args.from c.min-n.result c.args.buf.now c.read_range.new.buf (omega arith) (omega arith) len kept (c.in_ok-read_range.ensures.gives h)

pub returns-clause-range : goal.returns-clause-range
returns-clause-range g c = record { most = omega arith; count = omega arith; whole = λ h. (c.in_ok-read_range.ensures.gives h).whole }
