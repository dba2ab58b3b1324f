-- What a read of a version answers.
use Rattle.std.proofs.Common.{◌≡◌, inl, inr, ℕ, zero, suc, ◌+◌, ◌-◌, ◌/◌, ◌^◌, ◌==◌, ◌<◌, ◌≤◌, Bool, true, false, cond, not, ◌&&◌, List, [], ◌∷◌, length, take, drop, Option, Some, None, Result, Ok, Err, refl, sym, ap, subst, ◌∙◌, arith}
use Rattle.std.specs.Prelude.{⊤, All, IfErr, IfOk, IsErrAnd, IsTrue, nat_le, nat_lt, option_map, slice_index_or}
use Rattle.std.specs.FinMap.{find}
use Rattle.std.specs.List.{AllByRecursion, list_all, range_with_len}
use Rattle.std.specs.Ordering.{eq_by_cmp}
use Rattle.std.proofs.lemmas.Bool.{and_parts, ltb-true, or_cases, or_left}
use Rattle.volume_layout.specs.declared.layout.Layout.{Layout}
use Rattle.volume_layout.specs.Layout.{data_start, home_a, is_data}
use Rattle.run_table.specs.declared.run.Run.{Run}
use Rattle.run_table.specs.RunTable.{sectors_of}
use Rattle.run_table.specs.Space.{all_differ, contains}
use Rattle.run_table.proofs.SectorLaws.{all_in, first_there, rest_there}
use Rattle.sector_disk.specs.declared.sector.Sector.TheVariants as Sector
use Rattle.sector_disk.specs.declared.machine.Machine.{Ghosts as MachineGhosts}
use Rattle.sector_disk.specs.Image.{IsWorn, sector_at}
use Rattle.sector_disk.proofs.Wear.{worn_whole}
use Rattle.fsd_bytes.specs.Bytes.{sector_len}
use Rattle.fsd_bytes.specs.declared.key.Key.{Key}
use Rattle.fsd_bytes.specs.declared.refusal.Refusal.{Refusal}
use Rattle.fsd_bytes.specs.declared.refusal.Refusal.TheVariants as Why
use Rattle.fsd_bytes.specs.Keys.{key_cmp, same_key}
use Rattle.fsd_formats.specs.declared.entry.Entry.{Entry}
use Rattle.fsd_formats.specs.NamePage.{is_entry}
use Rattle.fsd_files.specs.Answers.{entry_of, found_or}
use Rattle.fsd_files.specs.Disk.{Image, Sectors}
use Rattle.fsd_files.specs.Files.{File, Files}
use Rattle.fsd_files.specs.Kept.{FirstDamaged, IsWhole as IsSectorWhole, Kept, KeptIn, Lists, data_sectors, range_sectors}
use Rattle.fsd_files.specs.declared.reply.Reply.{Reply}
use Rattle.fsd_files.specs.declared.reply.Reply.TheVariants.{Found, Refused}
use Rattle.fsd_files.proofs.ListingLaws.{same_key_turned}
use Rattle.fsd_files.proofs.KeptLaws.{back_there, behind_there, front_there}
use Rattle.version_data.specs.declared.fault.DataFault.{DataFault}
use Rattle.version_data.specs.declared.fault.DataFault.TheVariants.{Device, Damaged}
use Rattle.version_data.specs.Reading.{GivesRange, NamesFirst, data_failed_at, refusal_of}
use Rattle.version_data.proofs.PlaceLaws.{entry_lengths, index_there}
use Rattle.volume_contract.specs.Causes.{meets_held}
use Rattle.volume_contract.specs.Found.{GivesOf}
use Rattle.volume_contract.specs.Ends.{GivesBytes, LooksUp, ReadsRange, count_in, device_of}
use Rattle.volume_contract.specs.Order.{Comes, Follows, IsData, CallStep, Through, entry_steps, is_idle, read_steps}
use Rattle.volume_contract.specs.State.{State, held_runs}
use Rattle.volume_laws.specs.Taken.{are_taken, is_taken, met_entry}
use Rattle.volume_laws.specs.Volume.{VolumeValue}

-- ---- an entry that is taken

-- what holds of an entry holds of what is met of it
pub met_good : (P : Entry → Type 0) (v : VolumeValue) (page : ℕ) (e : Entry) → (are_taken v e.runs ≡ true → P e) → IfOk (met_entry v page e) P
met_good P v page e so = by (are_taken v e.runs) so
  where
    by : (b : Bool) → (b ≡ true → P e) → IfOk (cond b (Ok e) (Err (Why.Unsound (home_a v.layout page)))) P
    by true holds = holds refl
    by false holds = tt

range_there : (start n j : ℕ) → j < n → IsTrue (contains (range_with_len start n) (start + j))
range_there start zero j lt = absurd (omega arith)
range_there start (suc n) zero lt = let here : start ≡ start + 0 = omega arith in subst (λ (s : ℕ). IsTrue (contains (start ∷ range_with_len (start + 1) n) s)) here (first_there start (range_with_len (start + 1) n))
range_there start (suc n) (suc j) lt =
    let here : start + 1 + j ≡ start + suc j = omega arith in
    subst (λ (s : ℕ). IsTrue (contains (range_with_len start (suc n)) s)) here (rest_there start (start + 1 + j) (range_with_len (start + 1) n) (range_there (start + 1) n j (omega arith)))

run_there : (runs : List Run) (k j : ℕ) (d : Run) → k < length runs → j < (slice_index_or runs k d).length → IsTrue (contains (sectors_of runs) ((slice_index_or runs k d).start + j))
run_there [] k j d lt inside = absurd (omega arith)
run_there (r ∷ runs) zero j d lt inside = front_there (r.start + j) (range_with_len r.start r.length) (sectors_of runs) (range_there r.start r.length j inside)
run_there (r ∷ runs) (suc k) j d lt inside = back_there ((slice_index_or runs k d).start + j) (range_with_len r.start r.length) (sectors_of runs) (run_there runs k j d (omega arith) inside)

data_below : (l : Layout) (s : ℕ) → IsTrue (is_data l s) → s < l.sectors
data_below l s within = ltb-true s l.sectors (and_parts (nat_le (data_start l) s) (nat_lt s l.sectors) within).1

pub all_below : (l : Layout) (xs : List ℕ) → ((s : ℕ) → IsTrue (contains xs s) → IsTrue (is_data l s)) → All (λ s. s < l.sectors) xs
all_below l xs within k d lt = let s = slice_index_or xs k d in data_below l s (within s (index_there xs k d lt))

-- runs of the data area have numbers
pub data_runs : (l : Layout) (e : Entry) → ((s : ℕ) → IsTrue (contains (sectors_of e.runs) s) → IsTrue (is_data l s)) → l.sectors ≤ 2 ^ 24 → is_entry e ≡ true → All (λ r. r.start + r.length ≤ 2 ^ 32) e.runs
data_runs l e within most good k d lt =
    let each = entry_lengths e good k d lt in
    let start = (slice_index_or e.runs k d).start + 0 in
    let first = data_below l start (within start (run_there e.runs k 0 d lt (omega (arith, each.0)))) in
    omega (arith, first, each.1, most)

module _ (v : VolumeValue) (e : Entry) (taken : are_taken v e.runs ≡ true) where
  pub taken_data : (s : ℕ) → IsTrue (contains (sectors_of e.runs) s) → IsTrue (is_data v.layout s)
  taken_data s there =
      let both = (and_parts (all_differ (sectors_of e.runs) && list_all (is_taken v) (sectors_of e.runs)) (not (meets_held (held_runs v.shadow.held) e.runs)) taken).0 in
      let all = (and_parts (all_differ (sectors_of e.runs)) (list_all (is_taken v) (sectors_of e.runs)) both).1 in
      (and_parts (is_data v.layout s) _ (all_in (is_taken v) (sectors_of e.runs) s all there)).0

  pub taken_runs : v.layout.sectors ≤ 2 ^ 24 → is_entry e ≡ true → All (λ r. r.start + r.length ≤ 2 ^ 32) e.runs
  taken_runs most good = data_runs v.layout e taken_data most good

-- ---- the steps

pub data_read : (s : State) (r : Result ℕ Refusal) → Through (entry_steps s) → IfErr r IsData → Follows (read_steps s) r
data_read s (Ok n) through cause = (through.0, (tt, (tt, (tt, tt))))
data_read s (Err why) through cause = inr (through.0, inr (tt, inr (tt, inl cause)))

busy : (down : Option ℕ) → option_map Why.Down down ≡ None → is_idle (CallStep.Test (option_map Why.Down down) ∷ CallStep.LookUp ∷ CallStep.Asks Why.NoSuch ∷ CallStep.Data ∷ []) ≡ true → ⊥
busy None up idle = absurd (cc idle)
busy (Some s) up idle = absurd (cc up)

pub busy_read : (s : State) → Through (entry_steps s) → is_idle (read_steps s) ≡ true → ⊥
busy_read s through idle = busy s.down through.0 idle

-- ---- faults of the data

-- a refusal that is handed on
pub handed : {T : Type 0} (P : Result T Refusal → Type 0) (r : Result T Refusal) (why : Refusal) → IsErrAnd r (λ told. told ≡ why) → P (Err why) → P r
handed P (Ok x) why is so = absurd is
handed P (Err told) why is so = subst (λ (x : Refusal). P (Err x)) (sym is) so

pub data_is : (fault : DataFault) → IsData (refusal_of fault)
data_is (Device place) = tt
data_is (Damaged s) = tt

pub data_device : (fault : DataFault) → device_of (refusal_of fault) ≡ data_failed_at fault
data_device (Device place) = refl
data_device (Damaged s) = refl

pub damaged_reads : (i j : Image) (file : File) (e : Entry) (from n : ℕ) (old new : List ℕ) (fault : DataFault) → n ≡ count_in e.length from (length old) → NamesFirst i j e.runs from n fault → ReadsRange i j (Some file) (Some e) from old new (Err (refusal_of fault))
damaged_reads i j file e from n old new (Device place) is names = tt
damaged_reads i j file e from n old new (Damaged s) is names = subst (λ (c : ℕ). FirstDamaged i j (range_sectors e.runs from c) s) is names

first_damaged : (i j : Image) (sectors : List ℕ) (s : ℕ) → FirstDamaged i j sectors s → sector_at j s ≡ Sector.Damaged
first_damaged i j [] s first = absurd first
first_damaged i j (t ∷ sectors) s (inl here) = here.1
first_damaged i j (t ∷ sectors) s (inr later) = first_damaged i j sectors s later.1

-- the sector that is told as damaged is so
pub told_damaged : (i j : Image) (runs : List Run) (from n s : ℕ) (fault : DataFault) → NamesFirst i j runs from n fault → refusal_of fault ≡ Why.Damaged s → sector_at j s ≡ Sector.Damaged
told_damaged i j runs from n s (Device place) names is = absurd (cc is)
told_damaged i j runs from n s (Damaged t) names is =
    let same : t ≡ s = cc is in
    subst (λ (x : ℕ). sector_at j x ≡ Sector.Damaged) same (first_damaged i j (range_sectors runs from n) t names)

named_there : (i j : Image) (sectors : List ℕ) (s : ℕ) → FirstDamaged i j sectors s → IsTrue (contains sectors s)
named_there i j [] s first = absurd first
named_there i j (t ∷ sectors) s (inl here) = subst (λ (x : ℕ). IsTrue (contains (t ∷ sectors) x)) here.0 (first_there t sectors)
named_there i j (t ∷ sectors) s (inr later) = rest_there t s sectors (named_there i j sectors s later.1)

taken_there : (n s : ℕ) (xs : List ℕ) → IsTrue (contains (take n xs) s) → IsTrue (contains xs s)
taken_there zero s xs there = absurd (cc there)
taken_there (suc n) s [] there = there
taken_there (suc n) s (x ∷ xs) there = elim (or_cases (x == s) (contains (take n xs) s) there) [
  | inl here ↦ or_left (x == s) (contains xs s) here
  | inr more ↦ rest_there x s xs (taken_there n s xs more)
]

dropped_there : (n s : ℕ) (xs : List ℕ) → IsTrue (contains (drop n xs) s) → IsTrue (contains xs s)
dropped_there zero s xs there = there
dropped_there (suc n) s [] there = there
dropped_there (suc n) s (x ∷ xs) there = rest_there x s xs (dropped_there n s xs there)

in_range_there : (runs : List Run) (from n s : ℕ) → IsTrue (contains (range_sectors runs from n) s) → IsTrue (contains (sectors_of runs) s)
in_range_there runs from zero s there = absurd (cc there)
in_range_there runs from (suc n) s there =
    let first : ℕ = from / sector_len in
    behind_there s (sectors_of runs) (dropped_there first s (data_sectors runs) (taken_there ((from + n) / sector_len + 1 - first) s (drop first (data_sectors runs)) there))

-- and one of the version's
pub told_there : (i j : Image) (runs : List Run) (from n s : ℕ) (fault : DataFault) → NamesFirst i j runs from n fault → refusal_of fault ≡ Why.Damaged s → IsTrue (contains (sectors_of runs) s)
told_there i j runs from n s (Device place) names is = absurd (cc is)
told_there i j runs from n s (Damaged t) names is =
    let same : t ≡ s = cc is in
    subst (λ (x : ℕ). IsTrue (contains (sectors_of runs) x)) same (in_range_there runs from n t (named_there i j (range_sectors runs from n) t names))

-- a look-up tells no sector as damaged
pub none_damaged : (s : State) (why : Refusal) (at : ℕ) → Comes (entry_steps s) why → why ≡ Why.Damaged at → ⊥
none_damaged s why at comes is = by s.down (subst (Comes (entry_steps s)) is comes)
  where
    by : (down : Option ℕ) → Comes (CallStep.Test (option_map Why.Down down) ∷ CallStep.LookUp ∷ CallStep.Asks Why.NoSuch ∷ []) (Why.Damaged at) → ⊥
    by None (inl told) = absurd (cc told)
    by (Some place) (inl told) = absurd (cc told)
    by down (inr (up, inl looks)) = absurd looks
    by down (inr (up, inr (through, inl told))) = absurd (cc told)
    by down (inr (up, inr (through, inr none))) = absurd none.1

pub reads_range : (i : Image) (hurt : Sectors) (file : File) (e : Entry) (from n : ℕ) (old new : List ℕ) → n ≡ count_in e.length from (length old) → from ≤ e.length → e.length ≡ length file.bytes → KeptIn i hurt file.bytes e.runs
    → GivesRange i e.runs from n old new → GivesBytes i file e from old new n
reads_range i hurt file e from n old new is within len kept gives = record { len = len; count = is; whole = gives.whole; bytes = gives.bytes file.bytes hurt kept (omega (arith, is, len, within)) }

-- ---- a version and its entry

-- both are there, and the version's bytes are kept in the entry's sectors, or neither is
abbrev pub AreBothKept : Image → Sectors → Option File → Option Entry → Type 0
AreBothKept i hurt None None = ⊤
AreBothKept i hurt (Some file) (Some e) = (e.length ≡ length file.bytes) × KeptIn i hurt file.bytes e.runs
AreBothKept i hurt file e = ⊥

both_chosen : (i : Image) (hurt : Sectors) (b : Bool) (file : File) (e : Entry) (o : Option File) (p : Option Entry) → AreBothKept i hurt (Some file) (Some e) → AreBothKept i hurt o p → AreBothKept i hurt (cond b (Some file) o) (cond b (Some e) p)
both_chosen i hurt true file e o p here rest = here
both_chosen i hurt false file e o p here rest = rest

pub both_kept : (i : Image) (hurt : Sectors) (key : Key) (s : Files) (entries : List Entry) → Lists s entries → Kept i s entries hurt → AreBothKept i hurt (find key_cmp key s) (entry_of key entries)
both_kept i hurt key [] [] lists kept = tt
both_kept i hurt key [] (e ∷ entries) lists kept = absurd lists
both_kept i hurt key (v ∷ s) [] lists kept = absurd lists
both_kept i hurt key (v ∷ s) (e ∷ entries) lists kept =
    let same : eq_by_cmp key_cmp key v.0 ≡ same_key e.key key = same_key_turned key v.0 ∙ ap (λ (k : Key). same_key k key) (sym lists.0.key) in
    subst (λ (b : Bool). AreBothKept i hurt (cond (eq_by_cmp key_cmp key v.0) (Some v.1) (find key_cmp key s)) (cond b (Some e) (entry_of key entries))) same
    (both_chosen i hurt (eq_by_cmp key_cmp key v.0) v.1 e (find key_cmp key s) (entry_of key entries) (lists.0.length, kept.0) (both_kept i hurt key s entries lists.1 kept.1))

-- what a read of an entry gives of any image
pub gives_of : {D : Type 0} (M : MachineGhosts D) (m m' : D) (e : Entry) (from : ℕ) (buf then : List ℕ) (r : Result ℕ Refusal) → IfOk r (λ n. n ≡ count_in e.length from (length buf))
    → IfOk r (λ n. M.honest m' → AllByRecursion (IsSectorWhole (M.now m).image) (range_sectors e.runs from n))
    → (M.honest m' → (file : File) (hurt : Sectors) → e.length ≡ length file.bytes → KeptIn (M.now m).image hurt file.bytes e.runs → ReadsRange (M.now m).image (M.now m').image (Some file) (Some e) from buf then r)
    → IfOk r (λ n. M.honest m' → GivesOf (M.now m).image e from buf then n)
gives_of M m m' e from buf then (Err why) count whole gives = tt
gives_of M m m' e from buf then (Ok n) count whole gives = λ honest. record { count = count; whole = whole honest; gives = gives honest }

-- a version of this entry is there
pub reads_there : (i j : Image) (hurt : Sectors) (file : Option File) (e : Entry) (from : ℕ) (old new : List ℕ) (r : Result ℕ Refusal) → AreBothKept i hurt file (Some e)
    → ((f : File) → e.length ≡ length f.bytes → KeptIn i hurt f.bytes e.runs → ReadsRange i j (Some f) (Some e) from old new r) → ReadsRange i j file (Some e) from old new r
reads_there i j hurt None e from old new r kept so = absurd kept
reads_there i j hurt (Some f) e from old new r kept so = so f kept.0 kept.1

-- ---- as the call began

module _ (may : ℕ → Bool) (i mid j : Image) (worn : IsWorn may i mid) where
  pub whole_before : (sectors : List ℕ) → AllByRecursion (IsSectorWhole mid) sectors → AllByRecursion (IsSectorWhole i) sectors
  whole_before [] all = tt
  whole_before (s ∷ sectors) all = ((all.0.0, worn_whole may i mid s all.0.0 worn all.0.1), whole_before sectors all.1)

  first_before : (sectors : List ℕ) (s : ℕ) → FirstDamaged mid j sectors s → FirstDamaged i j sectors s
  first_before [] s first = absurd first
  first_before (t ∷ sectors) s (inl here) = inl here
  first_before (t ∷ sectors) s (inr later) = inr ((later.0.0, worn_whole may i mid t later.0.0 worn later.0.1), first_before sectors s later.1)

  module _ (file : File) (e : Entry) (from : ℕ) (old new : List ℕ) where
    refused_before : (why : Refusal) → ReadsRange mid j (Some file) (Some e) from old new (Err why) → ReadsRange i j (Some file) (Some e) from old new (Err why)
    refused_before (Why.Damaged s) h = first_before (range_sectors e.runs from (count_in e.length from (length old))) s h
    refused_before (Why.Device s) h = tt
    refused_before Why.Memory h = tt
    refused_before other h = absurd h

    reads_before : (r : Result ℕ Refusal) → ReadsRange mid j (Some file) (Some e) from old new r → ReadsRange i j (Some file) (Some e) from old new r
    reads_before (Ok n) gives = record { len = gives.len; count = gives.count; whole = whole_before (range_sectors e.runs from n) gives.whole; bytes = gives.bytes }
    reads_before (Err why) h = refused_before why h

-- what a look-up tells
found_is : (o : Option Entry) (e : Entry) → found_or o ≡ Found (Some e) → o ≡ Some e
found_is None e is = absurd (cc is)
found_is (Some x) e is = let same : x ≡ e = cc is in ap (λ (y : Entry). Some y) same

-- the version is found, and its range is read
pub reads_found : (may : ℕ → Bool) (i mid j : Image) → IsWorn may i mid → (hurt : Sectors) (file : Option File) (o : Option Entry) (e : Entry) (from : ℕ) (old new : List ℕ) (r : Result ℕ Refusal)
    → found_or o ≡ Found (Some e) → AreBothKept mid hurt file o
    → ((f : File) → e.length ≡ length f.bytes → KeptIn mid hurt f.bytes e.runs → ReadsRange mid j (Some f) (Some e) from old new r) → ReadsRange i j file o from old new r
reads_found may i mid j worn hurt file o e from old new r found both so =
    let is : o ≡ Some e = found_is o e found in
    subst (λ (p : Option Entry). ReadsRange i j file p from old new r) (sym is) (by file (subst (AreBothKept mid hurt file) is both))
  where
    by : (f : Option File) → AreBothKept mid hurt f (Some e) → ReadsRange i j f (Some e) from old new r
    by None kept = absurd kept
    by (Some f) kept = reads_before may i mid j worn f e from old new r (so f kept.0 kept.1)

-- a look-up is refused by the disk, for want of memory, or since there is none
looks_cases : (P : Refusal → Type 0) (reply : Reply) → ((s : ℕ) → P (Why.Device s)) → P Why.Memory → (reply ≡ Refused Why.NoSuch → P Why.NoSuch) → (r : Refusal) → LooksUp reply (Err r) → P r
looks_cases P reply device memory none Why.NoSuch h = none h
looks_cases P reply device memory none (Why.Device s) h = device s
looks_cases P reply device memory none Why.Memory h = memory
looks_cases P reply device memory none other h = absurd h

-- so is the read
pub reads_refused : (i mid j : Image) (hurt : Sectors) (file : Option File) (o : Option Entry) (from : ℕ) (old new : List ℕ) (r : Refusal) → LooksUp (found_or o) (Err r) → AreBothKept mid hurt file o → ReadsRange i j file o from old new (Err r)
reads_refused i mid j hurt None None from old new r looks both =
    looks_cases (λ (x : Refusal). ReadsRange i j None None from old new (Err x)) (found_or None) (λ s. tt) tt (λ none. tt) r looks
reads_refused i mid j hurt (Some file) None from old new r looks both = absurd both
reads_refused i mid j hurt None (Some e) from old new r looks both = absurd both
reads_refused i mid j hurt (Some file) (Some e) from old new r looks both =
    looks_cases (λ (x : Refusal). ReadsRange i j (Some file) (Some e) from old new (Err x)) (found_or (Some e)) (λ s. tt) tt (λ none. absurd (cc none)) r looks
