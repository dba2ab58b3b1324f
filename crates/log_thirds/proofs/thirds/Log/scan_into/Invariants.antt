use Rattle.std.proofs.Common.{◌≡◌, ◌≤◌, ◌-◌, ◌*◌, List, None, length}
use Rattle.sector_disk.specs.declared.sector.Sector.{Sector}
use Rattle.sector_disk.specs.Image.{IsWorn, open_damage}
use Rattle.log_thirds.specs.Seen.{SeesOn}
use Rattle.sector_disk.specs.Calls.{OnlyReads}
use Rattle.fsd_log.specs.Scan.{IsIn, tape}
use Rattle.log_thirds.specs.Disk.{reads}
use Rattle.log_thirds.specs.Firsts.{AreNumbers}
use Rattle.fsd_log.specs.Slots.{LieInRecords, SlotsInside}
use Rattle.log_thirds.specs.Copies.{FitsDisk, copies_count}
use Rattle.log_thirds.proofs.ScanLaws.{Reaches}
use Rattle.log_thirds.proofs.thirds.Log.scan_into.Given as goal

abbrev pub invariant-loop-from : goal.invariant-loop-from
invariant-loop-from g l = let M = g.M.Machine in let old = l.fn.m in record {
  is_in : IsIn l.layout (record { number = l.number; at = l.at; end = l.end });
  calls : OnlyReads g.M.Machine None old l.m;
  numbers : AreNumbers l.number l.firsts;
  table : length l.slots.items ≡ l.layout.pages;
  on_disk : SlotsInside l.layout.sectors l.slots.items;
  in_records : LieInRecords l.layout l.slots.items;
  fits : FitsDisk l.layout.sectors (record { place = l.copies_at; bytes = l.scratch.copies.items });
  few : copies_count (record { place = l.copies_at; bytes = l.scratch.copies.items }) ≤ 97;
  seen : (j : List Sector) → M.honest l.m → IsWorn (open_damage (M.now old).windows) j (M.now old).image → SeesOn l.layout l.anchor.third 0 (open_damage (M.now old).windows) j (M.now l.m).image
      (λ i. Reaches l.layout l.anchor.epoch l.anchor.first l.anchor.third (tape l.layout l.anchor.third (reads i)) (record { number = l.number; at = l.at; end = l.end }) l.firsts l.slots.items (record { place = l.copies_at; bytes = l.scratch.copies.items }));
}

abbrev pub decreases-loop-from : goal.decreases-loop-from
decreases-loop-from g l = 3 * l.layout.third - l.at
