-- What stands in a page, by its places.
use Rattle.std.specs.Prelude.{◌≡◌, ℕ, ◌+◌, ◌^◌, ◌<◌, ◌≤◌, true, List, [], drop, length, Option, Some, None, slice_get, slice_index}
use Rattle.fsd_bytes.specs.Bytes.{u8_at, u16_at, u32_at}
use Rattle.run_table.specs.RunTable.{runs_from}
use Rattle.fsd_formats.specs.declared.entry.Entry.{Entry}
use Rattle.fsd_formats.specs.declared.page.Separator.{Separator}
use Rattle.fsd_formats.specs.declared.page.Page.{Page}
use Rattle.fsd_formats.specs.declared.page.PageKind.{PageKind}
use Rattle.fsd_formats.specs.declared.page.PageKind.TheVariants as kinds
use Rattle.fsd_formats.specs.NamePage.{Content, Free, Leaf, Interior, count_of, contents_of, read_page, is_entry}
use Rattle.fsd_table.specs.Pages.{entries_of}
use Rattle.name_page.specs.Fault.{key_at, entry_end, separator_key_at}

-- the entry at a place
abbrev pub entry_at : ℕ → List ℕ → Entry
entry_at place bytes =
    let version = place + 1 + u8_at place bytes in
    record {
      key = key_at place bytes;
      keep = u16_at (version + 4) bytes;
      serial = record { epoch = u32_at (version + 6) bytes; count = u32_at (version + 10) bytes };
      length = u32_at (version + 14) bytes;
      runs = runs_from (u8_at (version + 18) bytes) (drop (version + 19) bytes);
    }

-- the separator at a place
abbrev pub separator_at : ℕ → List ℕ → Separator
separator_at place bytes = record { key = separator_key_at place bytes; child = u32_at (place + 45) bytes }

-- what the head of a page says
abbrev pub page_kind_of : Content → PageKind
page_kind_of Free = kinds.Free
page_kind_of (Leaf entries) = kinds.Leaf
page_kind_of (Interior first separators) = kinds.Interior

abbrev pub head_of : Content → Page
head_of x = record { kind = page_kind_of x; count = count_of x; used = length (contents_of x) }

-- what the bytes have, as a page of some table
unfoldable pub content_in : List ℕ → Option Content
content_in bytes = read_page (u32_at 12 bytes) (2 ^ 32) bytes

-- the entries of a leaf
unfoldable pub entries_read : List ℕ → List Entry
entries_read bytes = entries_of (content_in bytes)

-- entry i of a leaf stands at this place
pub record StandsAt (bytes : List ℕ) (i place : ℕ) : Type 0 where
  pub there : slice_get (entries_read bytes) i ≡ Some (entry_at place bytes)
  pub entry : is_entry (entry_at place bytes) ≡ true
  pub within : entry_end place bytes ≤ 512

-- each entry of a leaf stands at its place
pub record ArePlaces (bytes places : List ℕ) : Type 0 where
  pub few : length (entries_read bytes) ≤ 18
  pub each : (i : ℕ) → i < length (entries_read bytes) → StandsAt bytes i (slice_index places i)

abbrev pub first_of : Option Content → Option ℕ
first_of (Some (Interior first separators)) = Some first
first_of other = None

abbrev pub separators_of : Option Content → List Separator
separators_of (Some (Interior first separators)) = separators
separators_of other = []

-- the first child and the separators of an interior page
unfoldable pub first_in : List ℕ → Option ℕ
first_in bytes = first_of (content_in bytes)

unfoldable pub separators_in : List ℕ → List Separator
separators_in bytes = separators_of (content_in bytes)
