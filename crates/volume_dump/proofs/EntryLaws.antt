-- One version: its place among the entries, and what a read of all its bytes gives.
use Rattle.std.proofs.Common.{◌≡◌, inl, inr, ℕ, zero, suc, ◌≤◌, Bool, true, cond, List, [], ◌∷◌, ◌++◌, length, take, drop, Option, Some, None, refl, sym, ap, ◌∙◌, subst, arith}
use Rattle.std.specs.Prelude.{Contains, Ok, Err}
use Rattle.std.specs.List.{AllByRecursion}
use Rattle.std.specs.FinMap.{find, is_sorted}
use Rattle.std.specs.Ordering.{is_eq}
use Rattle.std.proofs.lemmas.Cmp.{tied_itself}
use Rattle.std.proofs.lemmas.List.{take-append-drop}
use Rattle.std.proofs.lemmas.List.Elements.{Contains-append_left, Contains-append_right}
use Rattle.std.proofs.Math.Seq.{take-append_seam, take-length}
use Rattle.fsd_bytes.specs.declared.refusal.Refusal.{Refusal}
use Rattle.fsd_bytes.specs.declared.refusal.Refusal.TheVariants as Why
use Rattle.fsd_bytes.specs.Keys.{key_cmp, key_lt}
use Rattle.run_table.specs.declared.run.Run.{Run}
use Rattle.fsd_formats.specs.declared.entry.Entry.{Entry}
use Rattle.sector_disk.specs.declared.sector.Sector.TheVariants.{Damaged}
use Rattle.sector_disk.specs.Image.{sector_at}
use Rattle.sector_disk.specs.Machine.{Moment}
use Rattle.fsd_log.specs.Scan.{Placed}
use Rattle.fsd_table.proofs.KeyLaws.{keys_total, less}
use Rattle.fsd_files.specs.Answers.{entry_of}
use Rattle.fsd_files.specs.Disk.{Image}
use Rattle.fsd_files.specs.Files.{File}
use Rattle.fsd_files.specs.Kept.{FirstDamaged, data_sectors, range_sectors}
use Rattle.fsd_files.specs.Volume.{Volume}
use Rattle.fsd_files.proofs.FreshLaws.{of_T}
use Rattle.fsd_sound.specs.Mounted.{Mounted}
use Rattle.fsd_runs.specs.Dumps.{bytes_found}
use Rattle.volume_contract.specs.Ends.{ReadsRange, count_in}
use Rattle.volume_contract.specs.State.{Known, Stands, State, volume_of}
use Rattle.scrub.proofs.WalkLaws.{Ascend, ascend_listed, files_in_order}
use Rattle.volume_dump.specs.Saying.{IsEntered, IsUnread}
use Rattle.volume_dump.specs.Told.{told_as}

-- ---- the entry with its key

one_of : (P : Entry → Type 0) (front : List Entry) (e : Entry) (more : List Entry) → AllByRecursion P (front ++ e ∷ more) → P e
one_of P [] e more all = all.0
one_of P (b ∷ bs) e more all = one_of P bs e more all.1

entry_at : (front : List Entry) (e : Entry) (more : List Entry) → Ascend (front ++ e ∷ more) → entry_of e.key (front ++ e ∷ more) ≡ Some e
entry_at [] e more ascend = ap (λ (b : Bool). cond b (Some e) (entry_of e.key more)) (ap is_eq (tied_itself keys_total e.key))
entry_at (b ∷ bs) e more ascend =
    ap (λ (x : Bool). cond x (Some b) (entry_of e.key (bs ++ e ∷ more))) (ap is_eq (less (key_cmp b.key e.key) (one_of (λ x. key_lt b.key x.key ≡ true) bs e more ascend.0)))
    ∙ entry_at bs e more ascend.1

pub entered : {S : Type 0} (state : S → State) (has : S → Mounted → List Placed → Type 0) (v : S) (k : Known) (now : Moment) → Stands state has v k now
    → (front : List Entry) (e : Entry) (more : List Entry) → (volume_of k).entries ≡ front ++ e ∷ more → IsEntered e k
entered state has v k now stands front e more at =
    ap (entry_of e.key) at ∙ entry_at front e more (subst Ascend at
    (ascend_listed (volume_of k).files (volume_of k).entries stands.disk.described.lists (of_T (is_sorted key_cmp (volume_of k).files) (files_in_order state has v k now stands))))

-- ---- what is read

taken_all : (n : ℕ) (xs ys : List ℕ) → n ≡ length xs → take n (take n xs ++ ys) ≡ xs
taken_all n xs ys is =
    subst (λ (m : ℕ). take m (take m xs ++ ys) ≡ xs) (sym is) (ap (λ (zs : List ℕ). take (length xs) (zs ++ ys)) (take-length xs) ∙ take-append_seam xs ys)

-- what a buffer has in front, where it is written back into its list
pub written_front : (n m : ℕ) (xs ys : List ℕ) → n ≤ m → n ≤ length xs → take n (take m (xs ++ ys)) ≡ take n xs
written_front zero m xs ys le within = refl
written_front (suc n) zero xs ys le within = absurd (omega (arith, le))
written_front (suc n) (suc m) [] ys le within = absurd (omega (arith, within))
written_front (suc n) (suc m) (x ∷ xs) ys le within = ap (λ (zs : List ℕ). x ∷ zs) (written_front n m xs ys (omega (arith, le)) (omega (arith, within)))

module _ (i j : Image) (v : Volume) (e : Entry) (old new : List ℕ) where
  pub read_whole : (n : ℕ) → length old ≡ e.length → ReadsRange i j (find key_cmp e.key v.files) (Some e) 0 old new (Ok n) → take n new ≡ bytes_found (find key_cmp e.key v.files)
  read_whole n room reads = by (find key_cmp e.key v.files) reads
    where
      by : (o : Option File) → ReadsRange i j o (Some e) 0 old new (Ok n) → take n new ≡ bytes_found o
      by None reads = absurd reads
      by (Some file) reads =
          let count = reads.count in
          let len = reads.len in
          let all : n ≡ length file.bytes = omega (arith, count, len, room) in
          ap (take n) reads.bytes ∙ taken_all n file.bytes (drop n old) all

  pub read_not : (why : Refusal) → ReadsRange i j (find key_cmp e.key v.files) (Some e) 0 old new (Err why) → IsUnread e j (told_as why)
  read_not why reads = by (find key_cmp e.key v.files) why reads
    where
      in_front : (n : ℕ) (xs : List ℕ) (s : ℕ) → Contains (take n xs) s → Contains xs s
      in_front n xs s is = subst (λ (ys : List ℕ). Contains ys s) (take-append-drop n xs) (Contains-append_left (take n xs) (drop n xs) s is)

      behind : (n : ℕ) (xs : List ℕ) (s : ℕ) → Contains (drop n xs) s → Contains xs s
      behind n xs s is = subst (λ (ys : List ℕ). Contains ys s) (take-append-drop n xs) (Contains-append_right (take n xs) (drop n xs) s is)

      first_there : (xs : List ℕ) (s : ℕ) → FirstDamaged i j xs s → Contains xs s × (sector_at j s ≡ Damaged)
      first_there [] s first = absurd first
      first_there (t ∷ xs) s (inl here) = ((0, omega arith, here.0), here.1)
      first_there (t ∷ xs) s (inr later) = let rest = first_there xs s later.1 in (Contains-append_right (t ∷ []) xs s rest.0, rest.1)

      damaged_there : (runs : List Run) (n s : ℕ) → FirstDamaged i j (range_sectors runs 0 n) s → Contains (data_sectors runs) s × (sector_at j s ≡ Damaged)
      damaged_there runs zero s first = absurd first
      damaged_there runs (suc n) s first =
          let is = first_there (range_sectors runs 0 (suc n)) s first in
          (behind 0 (data_sectors runs) s (in_front _ (drop 0 (data_sectors runs)) s is.0), is.1)

      by : (o : Option File) (why : Refusal) → ReadsRange i j o (Some e) 0 old new (Err why) → IsUnread e j (told_as why)
      by (Some file) (Why.Damaged s) reads = damaged_there e.runs (count_in e.length 0 (length old)) s reads
      by (Some file) (Why.Device s) reads = tt
      by (Some file) Why.Memory reads = tt
      by (Some file) why reads = absurd reads
      by None (Why.Device s) reads = tt
      by None Why.Memory reads = tt
      by None why reads = absurd reads
