-- Versions are kept where their sectors are.
use Rattle.std.proofs.Common.{◌≡◌, inl, inr, ℕ, Bool, true, false, ◌||◌, List, [], ◌∷◌, ◌++◌, refl, ◌∙◌}
use Rattle.std.specs.Prelude.{IsTrue, ◌==◌, drop}
use Rattle.std.specs.List.{AllZip, flat_map}
use Rattle.std.proofs.lemmas.Bool.{or_right}
use Rattle.run_table.specs.declared.run.Run.{Run}
use Rattle.run_table.specs.RunTable.{sectors_of}
use Rattle.run_table.specs.Space.{contains}
use Rattle.run_table.proofs.SectorLaws.{first_there, rest_there}
use Rattle.sector_disk.specs.Image.{sector_at}
use Rattle.fsd_formats.specs.declared.entry.Entry.{Entry}
use Rattle.fsd_files.specs.Disk.{Image, Sectors, SectorWorn, Has}
use Rattle.fsd_files.specs.Files.{Files}
use Rattle.fsd_files.specs.Kept.{filled_slices, data_sectors, KeptIn, Kept}
use Rattle.fsd_files.specs.Volume.{plans_of}

-- ---- members

there_by : (b c d : Bool) → IsTrue (b || c) → (IsTrue c → IsTrue d) → IsTrue (b || d)
there_by true c d h more = refl
there_by false c d h more = more h

pub front_there : (s : ℕ) (xs ys : List ℕ) → IsTrue (contains xs s) → IsTrue (contains (xs ++ ys) s)
front_there s [] ys h = absurd (cc h)
front_there s (x ∷ xs) ys h = there_by (x == s) (contains xs s) (contains (xs ++ ys) s) h (front_there s xs ys)

pub back_there : (s : ℕ) (xs ys : List ℕ) → IsTrue (contains ys s) → IsTrue (contains (xs ++ ys) s)
back_there s [] ys h = h
back_there s (x ∷ xs) ys h = or_right (x == s) (contains (xs ++ ys) s) (back_there s xs ys h)

pub behind_there : (s : ℕ) (xs : List ℕ) → IsTrue (contains (drop 1 xs) s) → IsTrue (contains xs s)
behind_there s [] h = h
behind_there s (x ∷ xs) h = rest_there x s xs h

-- ---- images that agree on some sectors

abbrev pub Agree : (List ℕ) → Image → Image → Type 0
Agree sectors i j = (s : ℕ) → IsTrue (contains sectors s) → sector_at j s ≡ sector_at i s

-- or where the one is the other, worn
abbrev pub AgreeWorn : Sectors → (List ℕ) → Image → Image → Type 0
AgreeWorn hurt sectors i j = (s : ℕ) → IsTrue (contains sectors s) → SectorWorn (hurt s) (sector_at i s) (sector_at j s)

pub has_on : (hurt : Sectors) (i j : Image) (bytes : List ℕ) (s : ℕ) → SectorWorn (hurt s) (sector_at i s) (sector_at j s) → Has hurt i bytes s → Has hurt j bytes s
has_on hurt i j bytes s (inr worn) has = inr worn
has_on hurt i j bytes s (inl same) (inl is) = inl (same ∙ is)
has_on hurt i j bytes s (inl same) (inr is) = inr (is.0, same ∙ is.1)

zip_on : (hurt : Sectors) (i j : Image) (bs : List (List ℕ)) (ys : List ℕ) → AgreeWorn hurt ys i j → AllZip (Has hurt i) bs ys → AllZip (Has hurt j) bs ys
zip_on hurt i j [] [] agree kept = tt
zip_on hurt i j [] (y ∷ ys) agree kept = absurd kept
zip_on hurt i j (b ∷ bs) [] agree kept = absurd kept
zip_on hurt i j (b ∷ bs) (y ∷ ys) agree kept =
    (has_on hurt i j b y (agree y (first_there y ys)) kept.0, zip_on hurt i j bs ys (λ s h. agree s (rest_there y s ys h)) kept.1)

pub kept_in_worn : (hurt : Sectors) (i j : Image) (bytes : List ℕ) (runs : List Run) → AgreeWorn hurt (sectors_of runs) i j → KeptIn i hurt bytes runs → KeptIn j hurt bytes runs
kept_in_worn hurt i j bytes runs agree kept = zip_on hurt i j (filled_slices bytes) (data_sectors runs) (λ s h. agree s (behind_there s (sectors_of runs) h)) kept

abbrev pub plan_sectors : List Entry → List ℕ
plan_sectors entries = flat_map sectors_of (plans_of entries)

pub kept_worn : (hurt : Sectors) (i j : Image) (s : Files) (entries : List Entry) → AgreeWorn hurt (plan_sectors entries) i j → Kept i s entries hurt → Kept j s entries hurt
kept_worn hurt i j [] [] agree kept = tt
kept_worn hurt i j [] (e ∷ entries) agree kept = absurd kept
kept_worn hurt i j (f ∷ s) [] agree kept = absurd kept
kept_worn hurt i j (f ∷ s) (e ∷ entries) agree kept = (
  kept_in_worn hurt i j f.1.bytes e.runs (λ t h. agree t (front_there t (sectors_of e.runs) (plan_sectors entries) h)) kept.0,
  kept_worn hurt i j s entries (λ t h. agree t (back_there t (sectors_of e.runs) (plan_sectors entries) h)) kept.1,
)

pub kept_on : (hurt : Sectors) (i j : Image) (s : Files) (entries : List Entry) → Agree (plan_sectors entries) i j → Kept i s entries hurt → Kept j s entries hurt
kept_on hurt i j s entries agree kept = kept_worn hurt i j s entries (λ t h. inl (agree t h)) kept
