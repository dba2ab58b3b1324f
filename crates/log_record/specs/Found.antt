-- What is read of sectors in memory, and what is found of a record in them.
use Rattle.std.specs.Prelude.{◌≡◌, ℕ, Bool, false, List, length, Option, Some, None, if◌then◌else◌, slice_index_or, ⊤}
use Rattle.fsd_log.specs.Judged.{Reader, sector_in, Serving}
use Rattle.log_record.specs.declared.judging.Found.{Found}
use Rattle.log_record.specs.declared.judging.Judged.{Judged}
use Rattle.log_record.specs.declared.judging.Judged.TheVariants.{Good, NotThere}

-- the bytes of those sectors that are whole
abbrev pub read_of : List Bool → List ℕ → Reader
read_of whole bytes k = if slice_index_or whole k false then Some (sector_in bytes k) else None

abbrev pub serving_in : Found → Serving
serving_in f = record { pages = f.pages.items; header_copy = f.header_copy; end_copy = f.end_copy; page_copy = f.page_copy.items }

abbrev pub found_in : Judged → Option Serving
found_in (Good f) = Some (serving_in f)
found_in NotThere = None

-- the number of pages that is told is right
abbrev pub IsCounted : Judged → Type 0
IsCounted (Good f) = f.n ≡ length f.pages.items
IsCounted NotThere = ⊤
