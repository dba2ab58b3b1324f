use Rattle.std.proofs.Common.{◌≡◌, ◌∙◌, ℕ, ◌≤◌, List, None, Some, sym, ap, subst, arith}
use Rattle.std.specs.Prelude.{All}
use Rattle.std.proofs.lemmas.Result.{err_from_is_err_and}
use Rattle.run_table.specs.declared.run.Run.{Run}
use Rattle.run_table.specs.RunTable.{sectors_of}
use Rattle.fsd_formats.specs.Leader.{leader_bytes, leader_of}
use Rattle.sector_disk.specs.Calls.{as_sector}
use Rattle.sector_disk.specs.Image.{sector_at}
use Rattle.sector_disk.proofs.CallLaws.{reads_then_writes}
use Rattle.version_data.specs.Single.{WritesLeader}
use Rattle.version_data.proofs.PlaceLaws.{entry_lengths, in_all, is_there}
use Rattle.version_data.proofs.SingleLaws.{leader_at, leader_inside, led_now, needed, torn_leader, unwritten}
use Rattle.version_data.proofs.single.heal_leader.Goals as goal

pub unwrap-place-requires : goal.unwrap-place-requires
unwrap-place-requires g c = is_there (sectors_of c.args.entry.now.runs) 0 c.sector.result c.sector.ensures (leader_inside c.args.entry.now c.requires.entry)

pub leader_bytes-bytes-requires : goal.leader_bytes-bytes-requires
leader_bytes-bytes-requires g c = subst (λ (runs : List Run). All (λ r. (1 ≤ r.length) × (r.length ≤ 65535)) runs) (sym c.copied.ensures) (entry_lengths c.args.entry.now c.requires.entry)

pub read_sector-requires : goal.read_sector-requires
read_sector-requires g c = in_all (g.M.Machine.report c.args.m.now).sectors (sectors_of c.args.entry.now.runs) 0 c.unwrap-place.result c.requires.in_range (sym c.sector.ensures ∙ c.unwrap-place.ensures)

pub returns-in_err-write_one-clause-disk : goal.returns-in_err-write_one-clause-disk
returns-in_err-write_one-clause-disk g c =
    let M = g.M.Machine in
    let e = c.args.entry.now in
    let a = M.now c.args.m.now in
    let b = M.now c.read_sector.new.m in
    let p = err_from_is_err_and c.from_residual-in_err-write_one.result c.from_residual-in_err-write_one.ensures.1 in
    let read = c.in_ok-read.ensures in
    let at = leader_at e c.unwrap-place.result (sym c.sector.ensures ∙ c.unwrap-place.ensures) in
    let is = c.leader_bytes-bytes.ensures ∙ ap (λ (runs : List Run). leader_bytes (record (leader_of e) { runs = runs })) c.copied.ensures in
    rw (p.1, p.2) (reads_then_writes {R = WritesLeader e} read.reads c.in_err-write_one.ensures.writes (λ h left worn. unwritten a left worn e)
    (λ h left tears. torn_leader a b left (read.reads.worn (c.in_err-write_one.ensures.writes.trust.honest h)) e c.unwrap-place.result c.leader_bytes-bytes.result at is c.write_one.ensures.long tears))

pub returns-clause-disk : goal.returns-clause-disk
returns-clause-disk g c =
    let M = g.M.Machine in
    let e = c.args.entry.now in
    let a = M.now c.args.m.now in
    let b = M.now c.read_sector.new.m in
    let read = c.in_ok-read.ensures in
    let at = leader_at e c.unwrap-place.result (sym c.sector.ensures ∙ c.unwrap-place.ensures) in
    let is = c.leader_bytes-bytes.ensures ∙ ap (λ (runs : List Run). leader_bytes (record (leader_of e) { runs = runs })) c.copied.ensures in
    reads_then_writes {fault = None} {R = WritesLeader e} read.reads c.in_ok-write_one.ensures.writes (λ h left worn. unwritten a left worn e)
    (λ h left tears. torn_leader a b left (read.reads.worn (c.in_ok-write_one.ensures.writes.trust.honest h)) e c.unwrap-place.result c.leader_bytes-bytes.result at is c.write_one.ensures.long tears)

pub returns-clause-healed : goal.returns-clause-healed
returns-clause-healed g c = λ h.
    let M = g.M.Machine in
    let e = c.args.entry.now in
    let read = c.in_ok-read.ensures in
    let back = c.in_ok-write_one.ensures.writes.trust.honest h in
    let at = leader_at e c.unwrap-place.result (sym c.sector.ensures ∙ c.unwrap-place.ensures) in
    let is = c.leader_bytes-bytes.ensures ∙ ap (λ (runs : List Run). leader_bytes (record (leader_of e) { runs = runs })) c.copied.ensures in
    let shown = subst (λ (s : ℕ). sector_at (M.now c.read_sector.new.m).image s ≡ as_sector c.in_ok-read.read) at (read.shown back) in
    needed (M.now c.args.m.now) (M.now c.read_sector.new.m) (read.reads.worn back) e c.in_ok-read.read shown
    (λ same. let yes = c.reads_as.ensures.1 (same ∙ sym (ap (λ (b : List ℕ). Some b) is)) in let no = c.if-reads_as.false in cc)

pub returns-clause-led : goal.returns-clause-led
returns-clause-led g c = λ h.
    let M = g.M.Machine in
    let e = c.args.entry.now in
    let read = c.in_ok-read.ensures in
    let back = c.in_ok-write_one.ensures.writes.trust.honest h in
    let there = sym c.sector.ensures ∙ c.unwrap-place.ensures in
    let is = c.leader_bytes-bytes.ensures ∙ ap (λ (runs : List Run). leader_bytes (record (leader_of e) { runs = runs })) c.copied.ensures in
    let inside = in_all (M.report c.args.m.now).sectors (sectors_of e.runs) 0 c.unwrap-place.result c.requires.in_range there in
    let uses = read.reads.uses.sectors in
    let sized = g.met.M.Machine.sized c.read_sector.new.m back in
    led_now (M.now c.read_sector.new.m) (M.now c.write_one.new.m) e c.unwrap-place.result c.leader_bytes-bytes.result there is c.write_one.ensures.long (omega (arith, inside, uses, sized)) (c.in_ok-write_one.ensures.done h)
