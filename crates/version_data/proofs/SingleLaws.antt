-- One sector of a version, read and written.
use Rattle.std.proofs.Common.{◌≡◌, true, inl, inr, ℕ, suc, ◌+◌, ◌-◌, ◌<◌, ◌≤◌, List, [], ◌∷◌, length, drop, Option, Some, None, refl, sym, ap, ◌∙◌, subst, arith}
use Rattle.std.proofs.lemmas.List.{take_all}
use Rattle.std.specs.Prelude.{IfSome, slice_get}
use Rattle.fsd_formats.specs.declared.entry.Entry.{Entry}
use Rattle.fsd_formats.specs.Leader.{leader_bytes, leader_of}
use Rattle.fsd_formats.specs.NamePage.{is_entry}
use Rattle.run_table.specs.RunTable.{sectors_of}
use Rattle.sector_disk.specs.declared.sector.Sector.TheVariants.{Whole}
use Rattle.sector_disk.specs.Calls.{as_sector}
use Rattle.sector_disk.specs.Image.{open_damage, sector_at, slice_of, stand, Windows}
use Rattle.sector_disk.specs.Machine.{Holds, Moment, Tears, Wears}
use Rattle.sector_disk.proofs.Holding.{holds_tears}
use Rattle.sector_disk.proofs.Wear.{stand_in, worn_whole}
use Rattle.fsd_files.specs.Answers.{HasLeader}
use Rattle.fsd_files.specs.Disk.{Has}
use Rattle.fsd_files.specs.Kept.{IsWhole, data_sectors}
use Rattle.fsd_files.specs.Scrub.{NeedsLeader, StandsLed, leader_place, slice_place}
use Rattle.version_data.specs.Single.{WritesLeader}
use Rattle.version_data.proofs.PlaceLaws.{entry_count, entry_length, index_is}

-- ---- behind the leader

behind : (xs : List ℕ) (k : ℕ) → k < length (drop 1 xs) → slice_get xs (suc k) ≡ slice_get (drop 1 xs) k
behind [] k lt = absurd (omega arith)
behind (x ∷ xs) k lt = refl

length_behind : (xs : List ℕ) → length (drop 1 xs) ≡ length xs - 1
length_behind [] = refl
length_behind (x ∷ xs) = omega arith

module _ (e : Entry) (good : is_entry e ≡ true) (k : ℕ) (lt : k < length (data_sectors e.runs)) where
  pub few_slices : k + 1 ≤ 8192
  few_slices = let long = length_behind (sectors_of e.runs) in let count = entry_count e good in let most = entry_length e good in omega (arith, lt, long, count, most)

  pub slice_inside : k + 1 < length (sectors_of e.runs)
  slice_inside = let long = length_behind (sectors_of e.runs) in omega (arith, lt, long)

pub slice_is : (e : Entry) (k x : ℕ) → k < length (data_sectors e.runs) → slice_get (sectors_of e.runs) (k + 1) ≡ Some x → x ≡ slice_place e k
slice_is e k x lt is =
    let at : slice_get (sectors_of e.runs) (k + 1) ≡ slice_get (data_sectors e.runs) k = ap (λ (n : ℕ). slice_get (sectors_of e.runs) n) (let one : k + 1 ≡ suc k = omega arith in one) ∙ behind (sectors_of e.runs) k lt in
    sym (index_is (data_sectors e.runs) k x (sym at ∙ is))

pub leader_inside : (e : Entry) → is_entry e ≡ true → 0 < length (sectors_of e.runs)
leader_inside e good = let count = entry_count e good in omega (arith, count)

pub leader_at : (e : Entry) (x : ℕ) → slice_get (sectors_of e.runs) 0 ≡ Some x → x ≡ leader_place e
leader_at e x is = sym (index_is (sectors_of e.runs) 0 x is)

-- ---- reads

pub was_whole : (old new : Moment) → Wears old new → (s : ℕ) (bytes : List ℕ) → sector_at new.image s ≡ Whole bytes → IsWhole old.image s
was_whole old new worn s bytes is = (bytes, worn_whole (open_damage old.windows) old.image new.image s bytes worn.image is)

module _ (old new : Moment) (worn : Wears old new) (e : Entry) where
  pub stood : (read : Option (List ℕ)) → sector_at new.image (leader_place e) ≡ as_sector read → read ≡ Some (leader_bytes (leader_of e)) → StandsLed old.image e
  stood read shown is = worn_whole (open_damage old.windows) old.image new.image (leader_place e) (leader_bytes (leader_of e)) worn.image (shown ∙ ap as_sector is)

  pub needed : (read : Option (List ℕ)) → sector_at new.image (leader_place e) ≡ as_sector read → (read ≡ Some (leader_bytes (leader_of e)) → ⊥) → NeedsLeader old e
  needed None shown differs = elim (worn.image.each (leader_place e)) [
    | inl same ↦ inl (inl (sym same ∙ shown))
    | inr hurt ↦ inl (inr hurt.0)
  ]
  needed (Some x) shown differs = inr (x, worn_whole (open_damage old.windows) old.image new.image (leader_place e) x worn.image shown, λ same. differs (ap (λ (b : List ℕ). Some b) same))

  -- nothing is written yet
  pub unwritten : WritesLeader e old new
  unwritten = record { stood = 0; within = omega arith; holds = record { worn = worn.image; windows = worn.windows; said = worn.said } }

-- ---- the write

pub torn_leader : (old mid left : Moment) → Wears old mid → (e : Entry) (place : ℕ) (bytes : List ℕ) → place ≡ leader_place e → bytes ≡ leader_bytes (leader_of e) → length bytes ≡ 512 → Tears place bytes mid left → WritesLeader e old left
torn_leader old mid left worn e place bytes at is long tears =
    let holds : Holds old old.image mid = record { worn = worn.image; windows = worn.windows; said = worn.said } in
    let some = holds_tears old old.image mid left holds place bytes tears in
    record {
      stood = some.stood;
      within = let most = some.some in omega (arith, most, long);
      holds = subst (λ (b : List ℕ). Holds old (stand old.image (leader_place e) b some.stood) left) is (subst (λ (p : ℕ). Holds old (stand old.image p bytes some.stood) left) at some.holds);
    }

pub led_now : (mid new : Moment) (e : Entry) (place : ℕ) (bytes : List ℕ) → slice_get (sectors_of e.runs) 0 ≡ Some place → bytes ≡ leader_bytes (leader_of e) → length bytes ≡ 512 → place < length mid.image → Holds mid (stand mid.image place bytes 1) new
    → HasLeader (open_damage new.windows) new.image e
led_now mid new e place bytes at is long inside holds =
    subst (λ (o : Option ℕ). IfSome o (Has (open_damage new.windows) new.image (leader_bytes (leader_of e)))) (sym at)
    (subst (λ (w : Windows). Has (open_damage w) new.image (leader_bytes (leader_of e)) place) (sym holds.windows)
    (elim (holds.worn.each place) [
      | inl same ↦ inl (same ∙ stands)
      | inr hurt ↦ inr hurt
    ]))
  where
    at_place : sector_at (stand mid.image place bytes 1) (place + 0) ≡ Whole (slice_of bytes 0)
    at_place = stand_in mid.image place bytes 1 0 (omega arith) (omega (arith, inside))

    stands : sector_at (stand mid.image place bytes 1) place ≡ Whole (leader_bytes (leader_of e))
    stands = ap (λ (p : ℕ). sector_at (stand mid.image place bytes 1) p) (let none : place ≡ place + 0 = omega arith in none) ∙ at_place
        ∙ ap (λ (b : List ℕ). Whole b) (take_all 512 bytes (omega (arith, long)) ∙ is)
