-- Where a page is refused: the fields are taken from the front, and the fault is at the first that the grammar refuses,
-- given those before it.
use Rattle.std.specs.Prelude.{ℕ, zero, suc, ◌+◌, ◌-◌, ◌*◌, Bool, true, not, ◌&&◌, ◌||◌, List, [], ◌∷◌, take, Option, Some, None, if◌then◌else◌, nat_le, nat_lt, ◌==◌, codes, slice_range}
use Rattle.fsd_bytes.specs.Bytes.{u8_at, u16_at, u32_at, same_bytes}
use Rattle.fsd_bytes.specs.declared.key.Key.{Key}
use Rattle.fsd_bytes.specs.Keys.{key_of}
use Rattle.fsd_bytes.specs.Names.{is_name, is_between, max_name_len}
use Rattle.run_table.specs.RunTable.{max_runs}
use Rattle.fsd_formats.specs.declared.page.Page.{Page}
use Rattle.fsd_formats.specs.declared.page.PageKind.{PageKind}
use Rattle.fsd_formats.specs.declared.page.PageKind.TheVariants.{Free, Leaf, Interior}
use Rattle.fsd_formats.specs.NamePage.{max_keep, max_length, sectors_for, room, least_used, least_separators}
use Rattle.name_page.specs.Lookups.{is_after}

-- the first fault of some
abbrev pub first_bad : List (Option ℕ) → Option ℕ
first_bad [] = None
first_bad (None ∷ faults) = first_bad faults
first_bad (Some place ∷ faults) = Some place

-- a fault at the place of a field, unless the field is good
abbrev pub unless : (place : ℕ) → Bool → Option ℕ
unless place good = if good then None else Some place

-- bytes that are not zero
abbrev pub zeros_fault : (n place : ℕ) → List ℕ → Option ℕ
zeros_fault zero place bytes = None
zeros_fault (suc n) place bytes = first_bad (unless place (u8_at place bytes == 0) ∷ zeros_fault n (place + 1) bytes ∷ [])

-- ---- keys, one after another

-- ---- the entries of a leaf: each at its place, the last ending at the limit

-- some runs, none empty, which have as many sectors as are needed
abbrev pub lengths_fault : (left place sum need : ℕ) → List ℕ → Option ℕ
lengths_fault zero place sum need bytes = None
lengths_fault (suc left) place sum need bytes =
    let n = u16_at (place + 4) bytes in
    first_bad (unless (place + 4) (nat_le 1 n && (not (left == 0) || sum + n == need)) ∷ lengths_fault left (place + 6) (sum + n) need bytes ∷ [])

abbrev pub runs_fault : (place limit : ℕ) (last : Bool) (need : ℕ) → List ℕ → Option ℕ
runs_fault place limit last need bytes =
    let n = u8_at place bytes in
    let end = place + 1 + 6 * n in
    first_bad (unless place (is_between 1 max_runs n && (if last then end == limit else nat_le end limit)) ∷ lengths_fault n (place + 1) 0 need bytes ∷ [])

abbrev pub key_at : ℕ → List ℕ → Key
key_at place bytes = let version = place + 1 + u8_at place bytes in key_of (slice_range bytes (place + 1) version) (u32_at version bytes)

-- the name leaves room for the fields behind it, and one run
abbrev pub name_fault_at : (place limit : ℕ) → List ℕ → Option ℕ
name_fault_at place limit bytes =
    let n = u8_at place bytes in
    first_bad (unless place (is_between 1 max_name_len n && nat_le (place + n + 26) limit) ∷ unless (place + 1) (is_name (slice_range bytes (place + 1) (place + 1 + n))) ∷ [])

abbrev pub numbers_fault : (place limit : ℕ) (last : Bool) → List ℕ → Option ℕ
numbers_fault place limit last bytes =
    let length = u32_at (place + 14) bytes in
    first_bad (unless (place + 4) (nat_le (u16_at (place + 4) bytes) max_keep) ∷ unless (place + 14) (nat_le length max_length) ∷ runs_fault (place + 18) limit last (sectors_for length) bytes ∷ [])

abbrev pub entry_fault : (place limit : ℕ) (last : Bool) → Option Key → List ℕ → Option ℕ
entry_fault place limit last before bytes =
    let key = key_at place bytes in
    let version = place + 1 + u8_at place bytes in
    first_bad (name_fault_at place limit bytes ∷ unless version (nat_le 1 key.version && is_after before key) ∷ numbers_fault version limit last bytes ∷ [])

-- where the entry at a place ends
abbrev pub entry_end : ℕ → List ℕ → ℕ
entry_end place bytes = let runs = place + 19 + u8_at place bytes in runs + 1 + 6 * u8_at runs bytes

abbrev pub entries_fault : (count place limit : ℕ) → Option Key → List ℕ → Option ℕ
entries_fault zero place limit before bytes = None
entries_fault (suc n) place limit before bytes =
    first_bad (entry_fault place limit (n == 0) before bytes ∷ entries_fault n (entry_end place bytes) limit (Some (key_at place bytes)) bytes ∷ [])

-- ---- the separators of an interior page

abbrev pub separator_key_at : ℕ → List ℕ → Key
separator_key_at place bytes = key_of (slice_range bytes (place + 1) (place + 1 + u8_at place bytes)) (u32_at (place + 41) bytes)

abbrev pub separator_fault : (place p : ℕ) → Option Key → List ℕ → Option ℕ
separator_fault place p before bytes =
    let n = u8_at place bytes in
    let key = separator_key_at place bytes in
    first_bad (
    unless place (is_between 1 max_name_len n)
    ∷ unless (place + 1) (is_name key.name)
    ∷ zeros_fault (max_name_len - n) (place + 1 + n) bytes
    ∷ unless (place + 41) (nat_le 1 key.version && is_after before key)
    ∷ unless (place + 45) (nat_lt (u32_at (place + 45) bytes) p)
    ∷ []
    )

abbrev pub separators_fault : (count place p : ℕ) → Option Key → List ℕ → Option ℕ
separators_fault zero place p before bytes = None
separators_fault (suc n) place p before bytes =
    first_bad (separator_fault place p before bytes ∷ separators_fault n (place + 49) p (Some (separator_key_at place bytes)) bytes ∷ [])

-- ---- the page

-- how many entries or separators, and in how many bytes
abbrev pub count_fits : (page kind count : ℕ) → Bool
count_fits page kind count = if kind == 0 then count == 0 else (if kind == 1 then true else is_between (least_separators page) 9 count)

abbrev pub used_fits : (page kind count used : ℕ) → Bool
used_fits page kind count used =
    if kind == 0 then used == 0 else (if kind == 1 then is_between (least_used page) room used && (not (count == 0) || used == 0) else used == 4 + 49 * count)

abbrev pub contents_fault : (p kind count used : ℕ) → List ℕ → Option ℕ
contents_fault p kind count used bytes =
    if kind == 0 then None
    else (if kind == 1 then entries_fault count 24 (24 + used) None bytes
    else first_bad (unless 24 (nat_lt (u32_at 24 bytes) p) ∷ separators_fault count 28 p None bytes ∷ []))

abbrev pub head_fault : (page : ℕ) → List ℕ → Option ℕ
head_fault page bytes =
    let kind = u8_at 4 bytes in
    let count = u16_at 6 bytes in
    first_bad (
    unless 0 (same_bytes (take 4 bytes) (codes "CNPG"))
    ∷ unless 4 (nat_le kind 2)
    ∷ unless 5 (u8_at 5 bytes == 0)
    ∷ unless 6 (count_fits page kind count)
    ∷ unless 8 (used_fits page kind count (u16_at 8 bytes))
    ∷ zeros_fault 2 10 bytes
    ∷ unless 12 (u32_at 12 bytes == page)
    ∷ []
    )

-- where the bytes are refused as this page of a table of p pages
unfoldable pub fault_of : (page p : ℕ) → List ℕ → Option ℕ
fault_of page p bytes =
    let used = u16_at 8 bytes in
    first_bad (head_fault page bytes ∷ contents_fault p (u8_at 4 bytes) (u16_at 6 bytes) used bytes ∷ zeros_fault (488 - used) (24 + used) bytes ∷ [])

-- ---- what the head says

abbrev pub kind_at : ℕ → PageKind
kind_at kind = if kind == 0 then Free else (if kind == 1 then Leaf else Interior)

abbrev pub head_at : List ℕ → Page
head_at bytes = record { kind = kind_at (u8_at 4 bytes); count = u16_at 6 bytes; used = u16_at 8 bytes }
