-- The runs of a place fit an entry: their starts lie on the volume, and none is long.
use Rattle.std.proofs.Common.{◌≡◌, ℕ, ◌+◌, ◌^◌, ◌<◌, ◌≤◌, nat_le, nat_lt, true, ◌&&◌, List, [], ◌∷◌, length, ◌∙◌, arith}
use Rattle.std.specs.Prelude.{◌==◌}
use Rattle.std.specs.List.{AllByRecursion, list_all, range_with_len}
use Rattle.std.proofs.lemmas.Bool.{and_from, and_parts, le-leb, leb-true, lt-ltb, or_left, or_right}
use Rattle.volume_layout.specs.declared.layout.Layout.{Layout}
use Rattle.fsd_bytes.specs.Keys.{is_key}
use Rattle.fsd_bytes.specs.Names.{is_between}
use Rattle.run_table.specs.declared.run.Run.{Run}
use Rattle.run_table.specs.RunTable.{FitsRun, are_runs, max_runs, sectors_of, total}
use Rattle.run_table.specs.Space.{contains}
use Rattle.run_table.proofs.SectorLaws.{contains-cons}
use Rattle.sector_set.specs.Area.{Area, AreIn}
use Rattle.sector_set.proofs.FreeLaws.{contains_range}
use Rattle.fsd_formats.specs.declared.entry.Entry.{Entry}
use Rattle.fsd_formats.specs.NamePage.{is_entry, max_keep, max_length, sectors_for}
use Rattle.table_survey.specs.Claims.{IsOfData}
use Rattle.table_survey.proofs.DataLaws.{of_data_within}

first_in : (r : Run) (runs : List Run) → 1 ≤ r.length → contains (sectors_of (r ∷ runs)) r.start ≡ true
first_in r runs some =
    contains-cons r runs r.start
    ∙ or_left (contains (range_with_len r.start r.length) r.start) (contains (sectors_of runs) r.start)
    (contains_range r.start r.length r.start
    ∙ and_from (nat_le r.start r.start) (nat_lt r.start (r.start + r.length)) (le-leb r.start r.start (omega arith)) (lt-ltb r.start (r.start + r.length) (omega (arith, some))))

module _ (l : Layout) (map : Area) (of_data : IsOfData l map) (narrow : l.sectors < 2 ^ 32) where
  below : (s : ℕ) → contains map.sectors s ≡ true → s < l.sectors
  below s free = (of_data_within l map of_data s free).1

  runs_fit : (runs : List Run) → ((s : ℕ) → contains (sectors_of runs) s ≡ true → contains map.sectors s ≡ true) → list_all (λ r. is_between 1 65535 r.length) runs ≡ true → AllByRecursion FitsRun runs
  runs_fit [] free short = tt
  runs_fit (r ∷ runs) free short =
      let parts = and_parts (is_between 1 65535 r.length) (list_all (λ q. is_between 1 65535 q.length) runs) short in
      let between = and_parts (nat_le 1 r.length) (nat_le r.length 65535) parts.0 in
      let start = below r.start (free r.start (first_in r runs (leb-true 1 r.length between.0))) in
      let most = leb-true r.length 65535 between.1 in
      ((omega (arith, start, narrow), omega (arith, most)), runs_fit runs (λ s there. free s (contains-cons r runs s ∙ or_right (contains (range_with_len r.start r.length) s) (contains (sectors_of runs) s) there)) parts.1)

  -- those of an entry whose sectors are free
  pub place_fits : (e : Entry) → is_entry e ≡ true → AreIn map e.runs → AllByRecursion FitsRun e.runs
  place_fits e good free =
      let sizes = and_parts (is_key e.key && nat_le e.keep max_keep && nat_le e.length max_length && are_runs e.runs) (total e.runs == sectors_for e.length) good in
      let runs = and_parts (is_key e.key && nat_le e.keep max_keep && nat_le e.length max_length) (are_runs e.runs) sizes.0 in
      let short = and_parts (is_between 1 max_runs (length e.runs)) (list_all (λ r. is_between 1 65535 r.length) e.runs) runs.1 in
      runs_fit e.runs free.inside short.1
