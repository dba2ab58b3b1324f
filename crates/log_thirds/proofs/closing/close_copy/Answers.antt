use Rattle.std.proofs.Common.{rules, ◌≡◌, ℕ, List, length, subst}
use Rattle.std.specs.Prelude.{OnOk}
use Rattle.sector_disk.specs.Image.{stand}
use Rattle.sector_disk.specs.Machine.{Holds, wrote}
use Rattle.sector_disk.proofs.CallLaws.{writes_more}
use Rattle.fsd_formats.specs.Anchors.{closed_bytes}
use Rattle.log_thirds.proofs.WriteLaws.{torn_part, whole_sectors}
use Rattle.log_thirds.proofs.closing.close_copy.Goals as goal

pub returns-clause-writes : goal.returns-clause-writes
returns-clause-writes g c =
    let M = g.M.Machine in
    let long : length c.closed_bytes.result ≡ 512 = search rules in
    writes_more c.write_sectors.ensures.writes (λ h left torn. torn_part c.args.place c.closed_bytes.result (closed_bytes c.args.anchor.now) 1 c.closed_bytes.ensures.bytes long (M.now c.args.m.now) left torn)

pub returns-clause-counted : goal.returns-clause-counted
returns-clause-counted g c =
    let M = g.M.Machine in
    let long : length c.closed_bytes.result ≡ 512 = search rules in
    subst (λ (k : ℕ). OnOk c.write_sectors.result (M.tells c.write_sectors.new.m → M.ledger c.write_sectors.new.m ≡ wrote (M.ledger c.args.m.now) k)) (whole_sectors c.closed_bytes.result 1 long) c.write_sectors.ensures.counted

pub returns-clause-done : goal.returns-clause-done
returns-clause-done g c =
    let M = g.M.Machine in
    let old = M.now c.args.m.now in
    let long : length c.closed_bytes.result ≡ 512 = search rules in
    subst (λ (b : List ℕ). OnOk c.write_sectors.result (M.honest c.write_sectors.new.m → Holds old (stand old.image c.args.place b 1) (M.now c.write_sectors.new.m))) c.closed_bytes.ensures.bytes
    (subst (λ (k : ℕ). OnOk c.write_sectors.result (M.honest c.write_sectors.new.m → Holds old (stand old.image c.args.place c.closed_bytes.result k) (M.now c.write_sectors.new.m))) (whole_sectors c.closed_bytes.result 1 long) c.write_sectors.ensures.done)
