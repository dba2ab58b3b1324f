-- Sheets, by how they are kept.
use Rattle.std.specs.Prelude.{List, Option, Some, None}
use Rattle.std.specs.Option.{option_to_list}
use Rattle.arrayvec.specs.ArrayVec.{ArrayVec}
use Rattle.name_btree.specs.declared.draft.Sheet.{Sheet}

-- the one, or those that are more
abbrev pub sheets_of : Option Sheet → Option (ArrayVec Sheet) → List Sheet
sheets_of one None = option_to_list one
sheets_of one (Some sheets) = sheets.items
