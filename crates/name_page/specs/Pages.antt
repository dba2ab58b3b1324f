-- The pages of a name table, as the tree sees them, and what a step over them has done.
use Rattle.std.specs.Prelude.{◌≡◌, ◌⊎◌, ◌<◌, ℕ, ◌+◌, ◌-◌, ◌%◌, ◌^◌, Bool, true, false, ◌==◌, ◌||◌, if◌then◌else◌, IsTrue, slice_get, List, [], ◌∷◌, ◌++◌, Option, Some, None, Result, Ok, Err, length, count_by, slice_set, slice_index_or}
use Rattle.std.specs.List.{list_any}
use Rattle.fsd_bytes.specs.declared.refusal.Refusal.{Refusal}
use Rattle.fsd_bytes.specs.declared.refusal.Refusal.TheVariants.{Device, Lost, Unsound, Memory, NameTableFull}
use Rattle.fsd_table.specs.Pages.{page_at}

abbrev pub is_spare : List Bool → ℕ → Bool
is_spare spare page = slice_index_or spare page false

-- ---- a step

-- The bytes of each page, which pages are spare, the first sector of their homes A; what this step has reached,
-- promised and refused; and what was changed since leave to change was given last.
pub record Step : Type 0 where
  pub images : List (List ℕ)
  pub spares : List Bool
  pub home_a : ℕ
  pub reached : List ℕ
  pub changed : List ℕ
  pub promised : ℕ
  pub refusal : Option Refusal
  pub most_reached : ℕ
  pub most_changed : ℕ

-- a step that has done nothing, with the whole leave to change
abbrev pub first_step : (images : List (List ℕ)) (spares : List Bool) (home_a most_reached most_changed : ℕ) → Step
first_step images spares home_a most_reached most_changed =
    record { images = images; spares = spares; home_a = home_a; reached = []; changed = []; promised = 0; refusal = None; most_reached = most_reached; most_changed = most_changed }

-- how many pages are spare
abbrev pub spare_count : Step → ℕ
spare_count s = count_by (λ spare. spare) s.spares

-- the sector of a page's home A, as a number of 32 bits
abbrev pub home_sector : Step → ℕ → ℕ
home_sector s page = (s.home_a + page) % 2 ^ 32

-- how many more pages may be reached, and how many more changed
abbrev pub reaches : Step → ℕ
reaches s = s.most_reached - length s.reached

abbrev pub changes : Step → ℕ
changes s = s.most_changed - length s.changed

abbrev pub is_one_of : List ℕ → ℕ → Bool
is_one_of pages page = list_any (λ other. other == page) pages

-- a page of the table that this step has reached, or that was changed
abbrev pub IsReached : Step → ℕ → Type 0
IsReached s page = (page < length s.images) × IsTrue (is_one_of s.reached page || is_one_of s.changed page)

-- a page that was changed already, or one more may be
abbrev pub MayChange : Step → ℕ → Type 0
MayChange s page = is_one_of s.changed page ≡ false → 0 < changes s

-- ---- why pages are refused

-- the refusal, where its cause is outside: the disk, or want of memory
abbrev pub outer_refusal : Refusal → Option Refusal
outer_refusal (Device s) = Some (Device s)
outer_refusal (Lost a b) = Some (Lost a b)
outer_refusal Memory = Some Memory
outer_refusal other = None

-- that of a result
abbrev pub outer_in : {T : Type 0} → Result T Refusal → Option Refusal
outer_in (Ok x) = None
outer_in (Err refusal) = outer_refusal refusal

abbrev pub IsOuter : Refusal → Type 0
IsOuter refusal = outer_refusal refusal ≡ Some refusal

-- the page is spare, or the grammar refuses what it has
abbrev pub IsBarred : Step → ℕ → Type 0
IsBarred s page = (is_spare s.spares page ≡ true) ⊎ (page_at s.images page ≡ None)

-- the refusals of a page that is reached
abbrev pub IsReachRefusal : Step → ℕ → Refusal → Type 0
IsReachRefusal s page refusal = IsOuter refusal ⊎ ((refusal ≡ Unsound (home_sector s page)) × IsBarred s page)

-- the refusals of so many spare pages
abbrev pub IsSpareRefusal : (free n : ℕ) → Refusal → Type 0
IsSpareRefusal free n refusal = IsOuter refusal ⊎ ((refusal ≡ NameTableFull free) × (free < n))

-- ---- what the calls make of a step

abbrev pub with_one : List ℕ → ℕ → List ℕ
with_one pages page = if is_one_of pages page then pages else pages ++ page ∷ []

abbrev pub with_images : List (List ℕ) → Step → Step
with_images images s = record s { images = images }

abbrev pub with_refusal : Refusal → Step → Step
with_refusal refusal s = record s { refusal = Some refusal }

abbrev pub with_reached : ℕ → Step → Step
with_reached page s = record s { reached = s.reached ++ page ∷ [] }

abbrev pub with_promise : ℕ → Step → Step
with_promise n s = record s { promised = n }

abbrev pub with_page : ℕ → List ℕ → Step → Step
with_page page bytes s = record s { images = slice_set s.images page bytes; changed = with_one s.changed page }

abbrev pub with_taken : ℕ → Step → Step
with_taken page s = record s { spares = slice_set s.spares page false; changed = with_one s.changed page; promised = s.promised - 1 }

abbrev pub with_spare : ℕ → Step → Step
with_spare page s = record s { spares = slice_set s.spares page true }

-- what was changed stays changed
abbrev pub rested : Step → Step
rested s = record s { reached = []; promised = 0; refusal = None }

-- as many pages may be changed as at first
abbrev pub renewed : Step → Step
renewed s = record (rested s) { changed = [] }

-- ---- what stays

-- The pages are as they were, those in memory are there still, and memory was not what was wanting.
pub record NeedsNoMemory {D : Type 0} (step : D → Step) (InMemory : D → ℕ → Type 0) (refusal : Option Refusal) (old new : D) : Type 0 where
  pub images : (step new).images ≡ (step old).images
  pub spares : (step new).spares ≡ (step old).spares
  pub stays : (page : ℕ) → InMemory old page → InMemory new page
  pub enough : refusal ≡ Some Memory → ⊥

-- as many pages, and those that were reached are as they were
pub record Keeps (s : Step) (images : List (List ℕ)) : Type 0 where
  pub count : length images ≡ length s.images
  pub reached : (page : ℕ) → IsReached s page → slice_get images page ≡ slice_get s.images page
