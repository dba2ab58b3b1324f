use Rattle.std.proofs.Common.{length, sym, ap, ◌∙◌}
use Rattle.run_table.specs.RunTable.{total}
use Rattle.run_table.specs.Space.{runs_of}
use Rattle.run_table.proofs.SectorLaws.{total_of_runs}
use Rattle.volume_laws.specs.State.{spare_pages}
use Rattle.volume_laws.specs.Volume.{VolumeValue}
use Rattle.volume_laws.proofs.CountLaws.{count_of_flags}
use Rattle.table_volume.proofs.files.VolumeFiles.stat.Goals as goal

pub returns-clause-free : goal.returns-clause-free
returns-clause-free g c = c.free_count.ensures ∙ sym (total_of_runs c.self.inside.map.sectors) ∙ ap (λ (v : VolumeValue). total (runs_of v.map.sectors)) c.self.view_is

pub returns-clause-pages_free : goal.returns-clause-pages_free
returns-clause-pages_free g c = c.count.ensures ∙ sym (count_of_flags c.self.inside.table.free_pages) ∙ ap (λ (v : VolumeValue). length (spare_pages v)) c.self.view_is
