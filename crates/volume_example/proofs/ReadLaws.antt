-- What a read of a version that was just made gives.
use Rattle.std.proofs.Common.{◌≡◌, ◌⊎◌, inl, inr, ◌+◌, ◌-◌, ◌/◌, ℕ, zero, suc, List, [], ◌∷◌, ◌++◌, length, take, drop, Some, sym, ◌∙◌, ap, subst, arith}
use Rattle.std.specs.Prelude.{IsTrue, Err}
use Rattle.std.specs.List.{AllByRecursion, AllZip}
use Rattle.std.proofs.lemmas.List.{append-nil, drop_all, take_all}
use Rattle.fsd_bytes.specs.Bytes.{sector_len}
use Rattle.fsd_bytes.specs.declared.refusal.Refusal.{Refusal}
use Rattle.fsd_bytes.specs.declared.refusal.Refusal.TheVariants as Why
use Rattle.run_table.specs.declared.run.Run.{Run}
use Rattle.fsd_formats.specs.declared.entry.Entry.{Entry}
use Rattle.sector_disk.specs.declared.sector.Sector.TheVariants.{Damaged, Whole}
use Rattle.sector_disk.specs.Image.{IsWorn, open_damage, sector_at}
use Rattle.sector_disk.specs.Machine.{Moment, Wears}
use Rattle.fsd_files.specs.Answers.{HasVersion}
use Rattle.fsd_files.specs.Disk.{Has, Image, Sectors}
use Rattle.fsd_files.specs.Files.{File}
use Rattle.fsd_files.specs.Kept.{FirstDamaged, KeptIn, data_sectors, range_sectors, filled_slices}
use Rattle.volume_contract.specs.Ends.{GivesBytes, ReadsRange, count_in}
use Rattle.volume_example.specs.Filling.{IsUnreadCause}

-- ---- the whole version

pub gives_whole : (i : Image) (file : File) (e : Entry) (bytes old new : List ℕ) (n : ℕ) → file.bytes ≡ bytes → length old ≡ length bytes → GivesBytes i file e 0 old new n → new ≡ bytes
gives_whole i file e bytes old new n same fits gives =
    let len = gives.len in
    let count = gives.count in
    let size = ap (λ (x : List ℕ). length x) same in
    let front : take n file.bytes ≡ file.bytes = take_all n file.bytes (omega (arith, len, count, size, fits)) in
    let back : drop n old ≡ [] = drop_all n old (omega (arith, len, count, size, fits)) in
    gives.bytes ∙ ap (λ (x : List ℕ). x ++ drop n old) front ∙ ap (λ (x : List ℕ). file.bytes ++ x) back ∙ append-nil file.bytes ∙ same

-- ---- a sector that reads damaged

module _ (may : Sectors) (i j : Image) (worn : IsWorn may i j) where
  -- damaged it may be
  abbrev IsKept : ℕ → Type 0
  IsKept s = sector_at j s ≡ Damaged → IsTrue (may s)

  kept_one : (bytes : List ℕ) (s : ℕ) → Has may i bytes s → IsKept s
  kept_one bytes s (inr weak) damaged = weak.0
  kept_one bytes s (inl whole) damaged = by (worn.each s)
    where
      by : (sector_at j s ≡ sector_at i s) ⊎ (IsTrue (may s) × (sector_at j s ≡ Damaged)) → IsTrue (may s)
      by (inr weak) = weak.0
      by (inl same) = let apart : Whole bytes ≡ Damaged = sym whole ∙ sym same ∙ damaged in absurd (cc apart)

  kept_all : (slices : List (List ℕ)) (sectors : List ℕ) → AllZip (Has may i) slices sectors → AllByRecursion IsKept sectors
  kept_all [] [] all = tt
  kept_all [] (s ∷ sectors) all = absurd all
  kept_all (b ∷ slices) [] all = absurd all
  kept_all (b ∷ slices) (s ∷ sectors) all = (kept_one b s all.0, kept_all slices sectors all.1)

  kept_take : (n : ℕ) (sectors : List ℕ) → AllByRecursion IsKept sectors → AllByRecursion IsKept (take n sectors)
  kept_take zero sectors all = tt
  kept_take (suc n) [] all = tt
  kept_take (suc n) (s ∷ sectors) all = (all.0, kept_take n sectors all.1)

  kept_drop : (n : ℕ) (sectors : List ℕ) → AllByRecursion IsKept sectors → AllByRecursion IsKept (drop n sectors)
  kept_drop zero sectors all = all
  kept_drop (suc n) [] all = tt
  kept_drop (suc n) (s ∷ sectors) all = kept_drop n sectors all.1

  kept_first : (sectors : List ℕ) (s : ℕ) → AllByRecursion IsKept sectors → FirstDamaged i j sectors s → (sector_at j s ≡ Damaged) × IsTrue (may s)
  kept_first [] s all first = absurd first
  kept_first (t ∷ sectors) s all (inl here) = (here.1, subst IsKept here.0 all.0 here.1)
  kept_first (t ∷ sectors) s all (inr later) = kept_first sectors s all.1 later.1

  damaged_weak : (bytes : List ℕ) (runs : List Run) (n s : ℕ) → KeptIn i may bytes runs → FirstDamaged i j (range_sectors runs 0 n) s → (sector_at j s ≡ Damaged) × IsTrue (may s)
  damaged_weak bytes runs zero s kept first = absurd first
  damaged_weak bytes runs (suc n) s kept first =
      let begins : ℕ = 0 / sector_len in
      kept_first (range_sectors runs 0 (suc n)) s
      (kept_take ((0 + n) / sector_len + 1 - begins) (drop begins (data_sectors runs)) (kept_drop begins (data_sectors runs) (kept_all (filled_slices bytes) (data_sectors runs) kept))) first

pub is_unread : (old new : Moment) → Wears old new → (bytes : List ℕ) (file : File) (e : Entry) (before after : List ℕ) → HasVersion (open_damage old.windows) old.image bytes e
    → (why : Refusal) → ReadsRange old.image new.image (Some file) (Some e) 0 before after (Err why) → IsUnreadCause new why
is_unread old new wears bytes file e before after has (Why.Damaged s) first =
    let may = open_damage old.windows in
    let told = damaged_weak may old.image new.image wears.image bytes e.runs (count_in e.length 0 (length before)) s has.data_there first in
    (told.0, subst (λ w. IsTrue (open_damage w s)) (sym wears.windows) told.1)
is_unread old new wears bytes file e before after has (Why.Device s) first = tt
is_unread old new wears bytes file e before after has Why.Memory first = tt
is_unread old new wears bytes file e before after has why first = absurd first
