use Rattle.std.proofs.Common.{◌∙◌, ℕ, ◌≤◌, List, sym, ap, subst, arith}
use Rattle.std.proofs.lemmas.Result.{on_ok_weaker}
use Rattle.std.specs.Prelude.{All}
use Rattle.run_table.specs.declared.run.Run.{Run}
use Rattle.run_table.specs.RunTable.{sectors_of}
use Rattle.run_table.specs.Space.{contains}
use Rattle.std.specs.Prelude.{take}
use Rattle.fsd_formats.specs.Leader.{leader_bytes, leader_of}
use Rattle.fsd_files.specs.Answers.{HasLeader}
use Rattle.sector_disk.specs.Image.{open_damage, stand}
use Rattle.sector_disk.specs.Machine.{Holds}
use Rattle.sector_disk.proofs.CallLaws.{writes_more}
use Rattle.version_data.proofs.PlaceLaws.{entry_lengths, in_all, is_there}
use Rattle.version_data.proofs.SingleLaws.{leader_inside, led_now}
use Rattle.version_data.proofs.SliceLaws.{leader_among, torn_in}
use Rattle.version_data.proofs.slices.write_leader.Goals as goal

pub unwrap-place-requires : goal.unwrap-place-requires
unwrap-place-requires g c = is_there (sectors_of c.args.entry.now.runs) 0 c.sector.result c.sector.ensures (leader_inside c.args.entry.now c.requires.entry)

pub leader_bytes-bytes-requires : goal.leader_bytes-bytes-requires
leader_bytes-bytes-requires g c = subst (λ (runs : List Run). All (λ r. (1 ≤ r.length) × (r.length ≤ 65535)) runs) (sym c.copied.ensures) (entry_lengths c.args.entry.now c.requires.entry)

pub write_one-requires : goal.write_one-requires
write_one-requires g c = in_all (g.M.Machine.report c.args.m.now).sectors (sectors_of c.args.entry.now.runs) 0 c.unwrap-place.result c.requires.in_range (sym c.sector.ensures ∙ c.unwrap-place.ensures)

pub returns-clause-disk : goal.returns-clause-disk
returns-clause-disk g c =
    let M = g.M.Machine in
    let runs = c.args.entry.now.runs in
    writes_more c.write_one.ensures.writes (λ h left tears.
    torn_in (contains (take 1 (sectors_of runs))) c.unwrap-place.result c.leader_bytes-bytes.result (M.now c.args.m.now) left c.write_one.ensures.long (leader_among (sectors_of runs) c.unwrap-place.result (sym c.sector.ensures ∙ c.unwrap-place.ensures)) tears)

pub returns-clause-led : goal.returns-clause-led
returns-clause-led g c =
    let M = g.M.Machine in
    let e = c.args.entry.now in
    let old = c.args.m.now in
    let new = c.write_one.new.m in
    let place : ℕ = c.unwrap-place.result in
    let bytes : List ℕ = c.leader_bytes-bytes.result in
    let there = sym c.sector.ensures ∙ c.unwrap-place.ensures in
    let is = c.leader_bytes-bytes.ensures ∙ ap (λ (runs : List Run). leader_bytes (record (leader_of e) { runs = runs })) c.copied.ensures in
    let inside = in_all (M.report old).sectors (sectors_of e.runs) 0 c.unwrap-place.result c.requires.in_range there in
    on_ok_weaker {P = M.honest new → Holds (M.now old) (stand (M.now old).image place bytes 1) (M.now new)} {Q = M.honest new → HasLeader (open_damage (M.now new).windows) (M.now new).image e} c.write_one.result
    (λ done h.
    let sized = g.met.M.Machine.sized old (c.write_one.ensures.writes.trust.honest h) in
    led_now (M.now old) (M.now new) e place bytes there is c.write_one.ensures.long (omega (arith, inside, sized)) (done h)) c.write_one.ensures.done
