-- The bytes of entries.
use Rattle.std.specs.Prelude.{◌≡◌, List, length}
use Rattle.std.specs.List.{flat_map}
use Rattle.fsd_formats.specs.declared.entry.Entry.{Entry}
use Rattle.fsd_formats.specs.NamePage.{entry_bytes}
use Rattle.name_page.specs.declared.text.LeafText.{LeafText}

-- the bytes of these entries, one after another, and how many they are
pub record IsTextOf (text : LeafText) (entries : List Entry) : Type 0 where
  pub bytes : text.bytes.items ≡ flat_map entry_bytes entries
  pub count : text.count ≡ length entries
