use Rattle.std.proofs.Common.{◌≡◌, ◌∙◌, ◌+◌, ◌*◌, ◌/◌, ℕ, List, length, not, ap, arith}
use Rattle.std.proofs.lemmas.List.Sums.{count_by-le-length}
use Rattle.volume_layout.specs.Layout.{map_bits, map_start}
use Rattle.volume_layout.proofs.RegionLaws.{regions_apart}
use Rattle.volume_layout.proofs.RootLaws.{planned_bounds}
use Rattle.sector_disk.specs.Calls.{failed_at}
use Rattle.sector_disk.proofs.CallLaws.{told_up, writes_then, writes_told}
use Rattle.fsd_formats.specs.SavedMap.{head_of}
use Rattle.fsd_formats.specs.MapSector.{map_sector}
use Rattle.fsd_formats.proofs.MapLaws.{map_sector_len}
use Rattle.saved_map.specs.Marks.{is_marked}
use Rattle.saved_map.specs.Saving.{counts_of, saved}
use Rattle.saved_map.proofs.SavesLaws.{saved_next, saves_next, wrote_next}
use Rattle.saved_map.proofs.LayoutLaws.{few_sectors}
use Rattle.saved_map.proofs.writing.save_map.Given as given
use Rattle.saved_map.proofs.writing.save_map.Goals as goal
use Rattle.saved_map.proofs.writing.save_map.Goals.{After-save_sector-sector}

-- the sector that is written, and where
is_saved : (g : given.Over) (c : After-save_sector-sector g) → c.save_sector-sector.result ≡ saved c.args.l.now c.args.map.now c.args.free_pages.now c.args.epoch c.args.versions c.loop-k.k
is_saved g c =
    c.save_sector-sector.ensures.bytes
    ∙ ap (λ (pages : ℕ). map_sector (head_of c.args.epoch c.loop-k.k (record { pages = pages; versions = c.args.versions })) (is_marked c.args.l.now c.args.map.now.sectors c.args.free_pages.now) (map_bits * c.loop-k.k))
    c.pages_in_use-pages.ensures

size_is : (g : given.Over) (c : After-save_sector-sector g) → length c.save_sector-sector.result ≡ 512
size_is g c =
    ap (λ (b : List ℕ). length b) (is_saved g c)
    ∙ map_sector_len (head_of c.args.epoch c.loop-k.k (counts_of c.args.free_pages.now c.args.versions)) (is_marked c.args.l.now c.args.map.now.sectors c.args.free_pages.now) (map_bits * c.loop-k.k)

pub save_sector-sector-requires-clause-index : goal.save_sector-sector-requires-clause-index
save_sector-sector-requires-clause-index g c = omega (arith, few_sectors c.args.l.now c.requires.planned, c.map_sectors-k-end.ensures.value, c.loop-k-test.true)

pub save_sector-sector-requires-clause-pages : goal.save_sector-sector-requires-clause-pages
save_sector-sector-requires-clause-pages g c =
    let most = (planned_bounds c.args.l.now c.requires.planned).pages_most in
    omega (arith, most, count_by-le-length not c.args.free_pages.now, c.requires.of.pages_are, c.pages_in_use-pages.ensures)

pub write_sectors-requires-clause-in_range : goal.write_sectors-requires-clause-in_range
write_sectors-requires-clause-in_range g c =
    let apart = regions_apart c.args.l.now c.requires.planned in
    let size = size_is g (goal.at.write_sectors-requires-clause-in_range g c).After-save_sector-sector in
    omega (arith, apart.map, apart.data_area, c.requires.room, c.loop-k.invariant.writes.uses.sectors, size, c.map_start.ensures.value, c.map_sectors-k-end.ensures.value, c.loop-k-test.true)

pub returns-in_err-write_sectors-clause-writes : goal.returns-in_err-write_sectors-clause-writes
returns-in_err-write_sectors-clause-writes g c =
    let M = g.M.Machine in
    let so_far = c.loop-k.invariant in
    let s = (goal.at.returns-in_err-write_sectors-clause-writes g c).After-save_sector-sector in
    let next = c.in_err-write_sectors.ensures.writes in
    writes_told (told_up failed_at c.from_residual.result c.in_err-write_sectors.field-0.0 c.from_residual.ensures.1)
    (writes_then so_far.writes next (λ h left saves. saves)
    (λ h left torn. saves_next c.args.l.now (saved c.args.l.now c.args.map.now c.args.free_pages.now c.args.epoch c.args.versions) (M.now c.args.m.now) (M.now c.loop-k.m) left c.loop-k.k (c.map_start.result + c.loop-k.k) c.save_sector-sector.result
    (ap (λ (n : ℕ). n + c.loop-k.k) c.map_start.ensures.value) (is_saved g s) (size_is g s) (so_far.holds (next.trust.honest h)) (omega (arith, c.map_sectors-k-end.ensures.value, c.loop-k-test.true)) torn))

pub loop-k-preserved : goal.loop-k-preserved
loop-k-preserved g c =
    let M = g.M.Machine in
    let so_far = c.loop-k.invariant in
    let s = (goal.at.loop-k-preserved g c).After-save_sector-sector in
    let done = c.in_ok-write_sectors.ensures in
    let sectors = saved c.args.l.now c.args.map.now c.args.free_pages.now c.args.epoch c.args.versions in
    let old = M.now c.args.m.now in
    let mid = M.now c.loop-k.m in
    let place : ℕ = c.map_start.result + c.loop-k.k in
    let at : place ≡ map_start c.args.l.now + c.loop-k.k = ap (λ (n : ℕ). n + c.loop-k.k) c.map_start.ensures.value in
    let holds = λ (h : M.honest c.write_sectors.new.m). so_far.holds (done.writes.trust.honest h) in
    record {
      writes = writes_then so_far.writes done.writes (λ h left saves. saves)
          (λ h left torn. saves_next c.args.l.now sectors old mid left c.loop-k.k place c.save_sector-sector.result at (is_saved g s) (size_is g s) (holds h) (omega (arith, c.map_sectors-k-end.ensures.value, c.loop-k-test.true)) torn);
      counted = λ t. wrote_next (M.ledger c.args.m.now) (M.ledger c.loop-k.m) (M.ledger c.write_sectors.new.m) c.loop-k.k (length c.save_sector-sector.result / 512) (ap (λ (n : ℕ). n / 512) (size_is g s))
          (so_far.counted (done.writes.trust.tells t)) (done.counted t);
      holds = λ h. saved_next c.args.l.now sectors old mid (M.now c.write_sectors.new.m) c.loop-k.k place c.save_sector-sector.result at (is_saved g s) (size_is g s) (holds h) (done.done h);
    }
