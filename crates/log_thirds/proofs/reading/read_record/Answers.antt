use Rattle.std.proofs.Common.{◌≡◌, ◌∙◌, subst, arith}
use Rattle.std.specs.Prelude.{min, OnOk}
use Rattle.std.proofs.lemmas.Result.{on_ok_weaker}
use Rattle.sector_disk.proofs.CallLaws.{reads_then}
use Rattle.volume_layout.specs.declared.kind.Kind.{Kind}
use Rattle.volume_layout.specs.Kinds.{more}
use Rattle.log_thirds.specs.Reading.{ReadsRecord}
use Rattle.fsd_formats.specs.Record.{Stamp}
use Rattle.fsd_log.specs.Reach.{headers_len, reach}
use Rattle.log_record.specs.Found.{read_of}
use Rattle.log_thirds.proofs.ReadingLaws.{record_read}
use Rattle.log_thirds.proofs.reading.read_record.Goals as goal

pub returns-clause-reads : goal.returns-clause-reads
returns-clause-reads g c = reads_then c.in_ok-read_on.ensures.reads c.read_on-2.ensures.reads

pub returns-clause-read : goal.returns-clause-read
returns-clause-read g c =
    let M = g.M.Machine in
    let stamp : Stamp = record { epoch = c.args.epoch; number = c.args.number } in
    let first : c.min.result ≡ min c.args.room (headers_len (more c.kind-kind.result)) = omega (arith, c.min.ensures, c.headers.ensures.len) in
    let count : c.reach-count.result ≡ reach (more c.kind-kind.result) c.args.p stamp c.args.room (read_of c.read_on.new.reading.whole.items c.read_on.new.reading.bytes.items) =
    c.reach-count.ensures.reach ∙ λ i. reach (more c.kind-kind.result) c.args.p stamp c.args.room (read_of (c.as_slice.ensures.value i) (c.as_slice-2.ensures.value i)) in
    subst (λ (kind : Kind). OnOk c.read_on-2.result (ReadsRecord (more kind) (M.honest c.read_on-2.new.m) (M.now c.args.m.now) (M.now c.read_on-2.new.m) c.args.p stamp c.args.place c.args.room c.read_on-2.new.reading.whole.items c.read_on-2.new.reading.bytes.items)) c.kind-kind.ensures
    (on_ok_weaker c.read_on-2.result
    (λ rest. record_read (more c.kind-kind.result) (M.honest c.read_on.new.m) (M.honest c.read_on-2.new.m) (M.now c.args.m.now) (M.now c.read_on.new.m) (M.now c.read_on-2.new.m) c.args.p stamp c.args.place c.args.room c.min.result c.reach-count.result
    c.clear.new.self.whole.items c.read_on.new.reading.whole.items c.read_on-2.new.reading.whole.items c.clear.new.self.bytes.items c.read_on.new.reading.bytes.items c.read_on-2.new.reading.bytes.items
    c.clear.ensures.whole c.read_on-2.ensures.reads.trust.honest (λ h. c.read_on.ensures.reads.worn (c.read_on-2.ensures.reads.trust.honest h)) c.read_on-2.ensures.reads.worn first c.in_ok-read_on.ensures.read count rest)
    c.read_on-2.ensures.read)
