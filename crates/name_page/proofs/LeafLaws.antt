-- Entries without a fault are those of a leaf, and the other way round.
use Rattle.std.proofs.Common.{◌≡◌, ℕ, zero, suc, ◌+◌, ◌-◌, ◌*◌, ◌≤◌, Bool, true, false, cond, not, ◌&&◌, ◌||◌, List, [], ◌∷◌, ◌++◌, length, drop, map, Option, Some, None, min, refl, sym, ap, subst, ◌∙◌, arith, append_assoc}
use Rattle.std.specs.Prelude.{slice_range, nat_le, ◌==◌}
use Rattle.std.specs.List.{flat_map, list_all}
use Rattle.std.proofs.lemmas.Bool.{and_parts, and_from, leb-true, le-leb, eqb-true, eq-eqb, ne_eqb, or_left, not_from_false}
use Rattle.std.proofs.lemmas.List.{drop-drop, length-append, length-drop, length-take, drop_at}
use Rattle.fsd_bytes.specs.Bytes.{u8_at, u16_at, u32_at}
use Rattle.fsd_bytes.specs.declared.key.Key.{Key}
use Rattle.fsd_bytes.specs.Keys.{key_lt, is_key}
use Rattle.fsd_bytes.specs.Names.{is_between, is_name, max_name_len}
use Rattle.fsd_bytes.proofs.FieldLaws.{AreSmall, u16_behind}
use Rattle.run_table.specs.declared.run.Run.{Run}
use Rattle.run_table.specs.RunTable.{runs_from, run_at, total, are_runs, max_runs}
use Rattle.run_table.proofs.RunLaws.{count_runs}
use Rattle.run_table.proofs.SectorLaws.{total-cons}
use Rattle.fsd_formats.specs.declared.entry.Entry.{Entry}
use Rattle.fsd_formats.specs.NamePage.{entry_bytes, entry_from, entries_from, is_entry, are_ascending, sectors_for, max_keep, max_length}
use Rattle.name_page.specs.Fault.{unless, lengths_fault, runs_fault, key_at, name_fault_at, numbers_fault, entry_fault, entry_end, entries_fault}
use Rattle.name_page.specs.Lookups.{is_after}
use Rattle.name_page.specs.Reading.{entry_at}
use Rattle.name_page.proofs.FirstLaws.{none_both, none_from, good_from, none_at}
use Rattle.name_page.proofs.PieceLaws.{u16_small}
use Rattle.fsd_table.proofs.EntryLaws.{length_entry}
use Rattle.name_page.proofs.EntryLaws.{entry_there, entry_ends, entry_again}

pub between : (low high n : ℕ) → is_between low high n ≡ true → (low ≤ n) × (n ≤ high)
between low high n e = let p = and_parts (nat_le low n) (nat_le n high) e in (leb-true low n p.0, leb-true n high p.1)

pub is_between_from : (low high n : ℕ) → low ≤ n → n ≤ high → is_between low high n ≡ true
is_between_from low high n a b = and_from _ _ (le-leb low n a) (le-leb n high b)

-- ---- runs

abbrev are_lengths : List Run → Bool
are_lengths runs = list_all (λ r. is_between 1 65535 r.length) runs

first_len : (n place : ℕ) (bytes : List ℕ) → AreSmall bytes → nat_le 1 (u16_at (place + 4) bytes) ≡ true → is_between 1 65535 (u16_at 4 (drop place bytes)) ≡ true
first_len n place bytes small e = ap (is_between 1 65535) (u16_behind place 4 bytes) ∙ and_from _ _ e (le-leb _ _ (u16_small bytes (place + 4) small))

sums_one : (sum m n need : ℕ) → m ≡ n → sum + (m + 0) ≡ need → sum + n ≡ need
sums_one sum m n need e h = omega arith

sums_more : (sum m n t u need : ℕ) → m ≡ n → t ≡ u → sum + n + u ≡ need → sum + (m + t) ≡ need
sums_more sum m n t u need e f h = omega arith

sums_less : (sum m n t u need : ℕ) → m ≡ n → t ≡ u → sum + (m + t) ≡ need → sum + n + u ≡ need
sums_less sum m n t u need e f h = omega arith

lengths_accepted : (left place sum need : ℕ) (bytes : List ℕ) → AreSmall bytes → lengths_fault left place sum need bytes ≡ None
    → (are_lengths (runs_from left (drop place bytes)) ≡ true) × (1 ≤ left → sum + total (runs_from left (drop place bytes)) ≡ need)
lengths_accepted zero place sum need bytes small e = (refl, λ h. absurd (omega arith))
lengths_accepted (suc zero) place sum need bytes small e =
    let n : ℕ = u16_at (place + 4) bytes in
    let b = none_both (unless (place + 4) (nat_le 1 n && (not (zero == 0) || sum + n == need))) _ e in
    let t = and_parts (nat_le 1 n) (sum + n == need) (good_from (place + 4) _ b.0) in
    let all : sum + n ≡ need = eqb-true _ _ t.1 in
    (and_from _ _ (first_len n place bytes small t.0) refl, λ h. omega (arith, all, u16_behind place 4 bytes))
lengths_accepted (suc (suc left)) place sum need bytes small e =
    let n : ℕ = u16_at (place + 4) bytes in
    let b = none_both (unless (place + 4) (nat_le 1 n && (not (suc left == 0) || sum + n == need))) (lengths_fault (suc left) (place + 6) (sum + n) need bytes ∷ []) e in
    let t = and_parts (nat_le 1 n) (not (suc left == 0) || sum + n == need) (good_from (place + 4) _ b.0) in
    let more = lengths_accepted (suc left) (place + 6) (sum + n) need bytes small (none_both _ [] b.1).0 in
    let same : runs_from (suc left) (drop 6 (drop place bytes)) ≡ runs_from (suc left) (drop (place + 6) bytes) = ap (runs_from (suc left)) (drop-drop 6 place bytes) in (
      and_from _ _ (first_len n place bytes small t.0) (ap are_lengths same ∙ more.0),
      λ h. ap (λ (x : ℕ). sum + x) (total-cons (run_at (drop place bytes)) (runs_from (suc left) (drop 6 (drop place bytes))))
          ∙ sums_more sum (u16_at 4 (drop place bytes)) n _ _ need (u16_behind place 4 bytes) (ap total same) (more.1 (omega arith)),
    )

lengths_unfaulted : (left place sum need : ℕ) (bytes : List ℕ) → are_lengths (runs_from left (drop place bytes)) ≡ true
    → (1 ≤ left → sum + total (runs_from left (drop place bytes)) ≡ need) → lengths_fault left place sum need bytes ≡ None
lengths_unfaulted zero place sum need bytes all e = refl
lengths_unfaulted (suc zero) place sum need bytes all e =
    let n : ℕ = u16_at (place + 4) bytes in
    let same : u16_at 4 (drop place bytes) ≡ n = u16_behind place 4 bytes in
    let p = and_parts (is_between 1 65535 (u16_at 4 (drop place bytes))) true all in
    let some : nat_le 1 n ≡ true = ap (nat_le 1) (sym same) ∙ (and_parts (nat_le 1 (u16_at 4 (drop place bytes))) _ p.0).0 in
    let sums : sum + n ≡ need = sums_one sum (u16_at 4 (drop place bytes)) n need same (ap (λ (x : ℕ). sum + x) (sym (total-cons (run_at (drop place bytes)) [])) ∙ e (omega arith)) in
    none_from (unless (place + 4) (nat_le 1 n && (sum + n == need))) _ (none_at (place + 4) _ (and_from _ _ some (eq-eqb _ _ sums))) refl
lengths_unfaulted (suc (suc left)) place sum need bytes all e =
    let n : ℕ = u16_at (place + 4) bytes in
    let same : u16_at 4 (drop place bytes) ≡ n = u16_behind place 4 bytes in
    let p = and_parts (is_between 1 65535 (u16_at 4 (drop place bytes))) (are_lengths (runs_from (suc left) (drop 6 (drop place bytes)))) all in
    let some : nat_le 1 n ≡ true = ap (nat_le 1) (sym same) ∙ (and_parts (nat_le 1 (u16_at 4 (drop place bytes))) _ p.0).0 in
    let rest : runs_from (suc left) (drop 6 (drop place bytes)) ≡ runs_from (suc left) (drop (place + 6) bytes) = ap (runs_from (suc left)) (drop-drop 6 place bytes) in
    let more = lengths_unfaulted (suc left) (place + 6) (sum + n) need bytes (ap are_lengths (sym rest) ∙ p.1) (λ h. sums_less sum (u16_at 4 (drop place bytes)) n _ _ need same (ap total rest)
    (ap (λ (x : ℕ). sum + x) (sym (total-cons (run_at (drop place bytes)) (runs_from (suc left) (drop 6 (drop place bytes))))) ∙ e (omega arith))) in
    let goes_on : (not (suc left == 0) || sum + n == need) ≡ true = or_left _ _ (not_from_false _ (ne_eqb (suc left) 0 (λ h. omega arith))) in
    none_from (unless (place + 4) (nat_le 1 n && (not (suc left == 0) || sum + n == need))) _ (none_at (place + 4) _ (and_from _ _ some goes_on)) (none_from _ [] more refl)

-- ---- one entry

abbrev end_fits : (last : Bool) (end limit : ℕ) → Bool
end_fits last end limit = cond last (end == limit) (nat_le end limit)

ends_within : (last : Bool) (end limit : ℕ) → end_fits last end limit ≡ true → (end ≤ limit) × (last ≡ true → end ≡ limit)
ends_within true end limit e = let same : end ≡ limit = eqb-true _ _ e in (omega arith, λ h. same)
ends_within false end limit e = (leb-true _ _ e, λ h. absurd cc)

within_ends : (last : Bool) (end limit : ℕ) → end ≤ limit → (last ≡ true → end ≡ limit) → end_fits last end limit ≡ true
within_ends true end limit h e = eq-eqb _ _ (e refl)
within_ends false end limit h e = le-leb _ _ h

pub record Accepted (place limit : ℕ) (last : Bool) (before : Option Key) (bytes : List ℕ) : Type 0 where
  pub entry : is_entry (entry_at place bytes) ≡ true
  pub follows_it : is_after before (key_at place bytes) ≡ true
  pub within : entry_end place bytes ≤ limit
  pub ends : last ≡ true → entry_end place bytes ≡ limit
  pub name : place + 1 + u8_at place bytes ≤ limit

pub entry_accepted : (place limit : ℕ) (last : Bool) (before : Option Key) (bytes : List ℕ) → AreSmall bytes
    → entry_fault place limit last before bytes ≡ None → Accepted place limit last before bytes
entry_accepted place limit last before bytes small e =
    let n : ℕ = u8_at place bytes in
    let v : ℕ = place + 1 + n in
    let key : Key = key_at place bytes in
    let count : ℕ = u8_at (v + 18) bytes in
    let len : ℕ = u32_at (v + 14) bytes in
    let p = none_both (name_fault_at place limit bytes) (unless v (nat_le 1 key.version && is_after before key) ∷ numbers_fault v limit last bytes ∷ []) e in
    let named = none_both (unless place (is_between 1 max_name_len n && nat_le (place + n + 26) limit)) (unless (place + 1) (is_name key.name) ∷ []) p.0 in
    let roomy = and_parts (is_between 1 max_name_len n) (nat_le (place + n + 26) limit) (good_from place _ named.0) in
    let is_named : is_name key.name ≡ true = good_from (place + 1) _ (none_both _ [] named.1).0 in
    let q = none_both (unless v (nat_le 1 key.version && is_after before key)) (numbers_fault v limit last bytes ∷ []) p.1 in
    let keyed = and_parts (nat_le 1 key.version) (is_after before key) (good_from v _ q.0) in
    let numbered = none_both (unless (v + 4) (nat_le (u16_at (v + 4) bytes) max_keep)) (unless (v + 14) (nat_le len max_length) ∷ runs_fault (v + 18) limit last (sectors_for len) bytes ∷ []) (none_both _ [] q.1).0 in
    let measured = none_both (unless (v + 14) (nat_le len max_length)) (runs_fault (v + 18) limit last (sectors_for len) bytes ∷ []) numbered.1 in
    let ran = none_both (unless (v + 18) (is_between 1 max_runs count && end_fits last (v + 18 + 1 + 6 * count) limit)) (lengths_fault count (v + 18 + 1) 0 (sectors_for len) bytes ∷ []) (none_both _ [] measured.1).0 in
    let counted = and_parts (is_between 1 max_runs count) (end_fits last (v + 18 + 1 + 6 * count) limit) (good_from (v + 18) _ ran.0) in
    let lengths = lengths_accepted count (v + 18 + 1) 0 (sectors_for len) bytes small (none_both _ [] ran.1).0 in
    let same : u8_at (place + 19 + n) bytes ≡ count = ap (λ (k : ℕ). u8_at k bytes) (let e : place + 19 + n ≡ v + 18 = omega arith in e) in
    let there : drop (v + 18 + 1) bytes ≡ drop (v + 19) bytes = ap (λ (k : ℕ). drop k bytes) (let e : v + 18 + 1 ≡ v + 19 = omega arith in e) in
    let runs : List Run = runs_from count (drop (v + 19) bytes) in
    let some = between 1 max_runs count counted.0 in
    let all : are_lengths runs ≡ true = ap (λ (x : List ℕ). are_lengths (runs_from count x)) (sym there) ∙ lengths.0 in
    let sums : total runs ≡ sectors_for len = omega (arith, lengths.1 some.0, ap (λ (x : List ℕ). total (runs_from count x)) there) in
    let are : are_runs runs ≡ true = and_from _ _ (ap (is_between 1 max_runs) (count_runs count (drop (v + 19) bytes)) ∙ counted.0) all in
    let ends = ends_within last (v + 18 + 1 + 6 * count) limit counted.1 in
    let end_is : entry_end place bytes ≡ v + 18 + 1 + 6 * count = omega (arith, same) in
    let keys : is_key key ≡ true = and_from _ _ is_named keyed.0 in
    record {
      entry = and_from _ _ (and_from _ _ (and_from _ _ (and_from _ _ keys (good_from (v + 4) _ numbered.0)) (good_from (v + 14) _ measured.0)) are) (eq-eqb _ _ sums);
      follows_it = keyed.1;
      within = omega (arith, end_is, ends.0);
      ends = λ h. end_is ∙ ends.1 h;
      name = omega (arith, leb-true _ _ roomy.1);
    }

pub entry_unfaulted : (place limit : ℕ) (last : Bool) (before : Option Key) (bytes : List ℕ) → length bytes ≡ 512 → limit ≤ 512
    → is_entry (entry_at place bytes) ≡ true → is_after before (key_at place bytes) ≡ true
    → place + length (entry_bytes (entry_at place bytes)) ≤ limit → (last ≡ true → place + length (entry_bytes (entry_at place bytes)) ≡ limit)
    → (entry_fault place limit last before bytes ≡ None) × (entry_end place bytes ≡ place + length (entry_bytes (entry_at place bytes)))
entry_unfaulted place limit last before bytes long high is after within ends =
    let n : ℕ = u8_at place bytes in
    let v : ℕ = place + 1 + n in
    let key : Key = key_at place bytes in
    let count : ℕ = u8_at (v + 18) bytes in
    let len : ℕ = u32_at (v + 14) bytes in
    let runs : List Run = runs_from count (drop (v + 19) bytes) in
    let p5 = and_parts (is_key key && nat_le (u16_at (v + 4) bytes) max_keep && nat_le len max_length && are_runs runs) (total runs == sectors_for len) is in
    let p4 = and_parts (is_key key && nat_le (u16_at (v + 4) bytes) max_keep && nat_le len max_length) (are_runs runs) p5.0 in
    let p3 = and_parts (is_key key && nat_le (u16_at (v + 4) bytes) max_keep) (nat_le len max_length) p4.0 in
    let p2 = and_parts (is_key key) (nat_le (u16_at (v + 4) bytes) max_keep) p3.0 in
    let p1 = and_parts (is_name key.name) (nat_le 1 key.version) p2.0 in
    let named = and_parts (is_between 1 max_name_len (length key.name)) _ p1.0 in
    let name_is = between 1 max_name_len (length key.name) named.0 in
    let size = length_entry (entry_at place bytes) in
    let counts = count_runs count (drop (v + 19) bytes) in
    let range : length (slice_range bytes (place + 1) (place + 1 + u8_at place bytes)) ≡ min (v - (place + 1)) (512 - (place + 1)) =
    length-take (v - (place + 1)) (drop (place + 1) bytes) ∙ ap (min (v - (place + 1))) (length-drop (place + 1) bytes ∙ ap (λ (x : ℕ). x - (place + 1)) long) in
    let named_by : length (slice_range bytes (place + 1) (place + 1 + u8_at place bytes)) ≡ n = omega (arith, range, size, within) in
    let some = and_parts (is_between 1 max_runs (length runs)) (are_lengths runs) p4.1 in
    let counted : is_between 1 max_runs count ≡ true = ap (is_between 1 max_runs) (sym counts) ∙ some.0 in
    let there : drop (v + 18 + 1) bytes ≡ drop (v + 19) bytes = ap (λ (k : ℕ). drop k bytes) (let e : v + 18 + 1 ≡ v + 19 = omega arith in e) in
    let same_runs : runs_from count (drop (v + 18 + 1) bytes) ≡ runs = ap (runs_from count) there in
    let sums : total runs ≡ sectors_for len = eqb-true _ _ p5.1 in
    let lengths = lengths_unfaulted count (v + 18 + 1) 0 (sectors_for len) bytes (ap are_lengths same_runs ∙ some.1) (λ h. omega (arith, sums, ap total same_runs)) in
    let is_end : v + 18 + 1 + 6 * count ≡ place + length (entry_bytes (entry_at place bytes)) = omega (arith, size, named_by, counts) in
    let fits : end_fits last (v + 18 + 1 + 6 * count) limit ≡ true = within_ends last _ limit (omega (arith, is_end, within)) (λ h. is_end ∙ ends h) in
    let roomy : place + n + 26 ≤ limit = omega (arith, size, named_by, counts, within, (between 1 max_runs count counted).0) in
    let in_name = none_from (unless place (is_between 1 max_name_len n && nat_le (place + n + 26) limit)) (unless (place + 1) (is_name key.name) ∷ [])
    (none_at place _ (and_from _ _ (ap (is_between 1 max_name_len) (sym named_by) ∙ named.0) (le-leb _ _ roomy)))
    (none_from (unless (place + 1) (is_name key.name)) [] (none_at (place + 1) _ p1.0) refl) in
    let in_runs = none_from (unless (v + 18) (is_between 1 max_runs count && end_fits last (v + 18 + 1 + 6 * count) limit)) (lengths_fault count (v + 18 + 1) 0 (sectors_for len) bytes ∷ [])
    (none_at (v + 18) _ (and_from _ _ counted fits)) (none_from _ [] lengths refl) in
    let in_numbers = none_from (unless (v + 4) (nat_le (u16_at (v + 4) bytes) max_keep)) (unless (v + 14) (nat_le len max_length) ∷ runs_fault (v + 18) limit last (sectors_for len) bytes ∷ [])
    (none_at (v + 4) _ p2.1) (none_from (unless (v + 14) (nat_le len max_length)) _ (none_at (v + 14) _ p3.1) (none_from _ [] in_runs refl)) in (
      none_from (name_fault_at place limit bytes) (unless v (nat_le 1 key.version && is_after before key) ∷ numbers_fault v limit last bytes ∷ []) in_name
          (none_from (unless v (nat_le 1 key.version && is_after before key)) _ (none_at v _ (and_from _ _ p1.1 after)) (none_from _ [] in_numbers refl)),
      entry_ends place bytes (omega (arith, roomy, long)),
    )

-- ---- all entries

abbrev pub ascend : Option Key → List Entry → Bool
ascend before [] = true
ascend before (e ∷ entries) = is_after before e.key && ascend (Some e.key) entries

pub ascend_is : (k : Key) (entries : List Entry) → ascend (Some k) entries ≡ are_ascending (k ∷ map (λ e. e.key) entries)
ascend_is k [] = refl
ascend_is k (e ∷ entries) = ap (λ (x : Bool). key_lt k e.key && x) (ascend_is e.key entries)

pub ascend_from : (entries : List Entry) → ascend None entries ≡ are_ascending (map (λ e. e.key) entries)
ascend_from [] = refl
ascend_from (e ∷ entries) = ascend_is e.key entries

pub record AreEntries (entries : List Entry) (place limit : ℕ) (before : Option Key) (bytes : List ℕ) : Type 0 where
  pub each : list_all is_entry entries ≡ true
  pub order : ascend before entries ≡ true
  pub spelled : flat_map entry_bytes entries ++ drop limit bytes ≡ drop place bytes
  pub used : place + length (flat_map entry_bytes entries) ≡ limit

pub entries_split : (n place : ℕ) (bytes : List ℕ) → place + 1 + u8_at place bytes ≤ length bytes
    → entries_from (suc n) (drop place bytes) ≡ entry_at place bytes ∷ entries_from n (drop (entry_end place bytes) bytes)
entries_split n place bytes inside =
    let e : Entry = entry_at place bytes in
    ap (λ (x : Entry). x ∷ entries_from n (drop (length (entry_bytes x)) (drop place bytes))) (entry_there place bytes)
    ∙ ap (λ (x : List ℕ). e ∷ entries_from n x) (drop-drop (length (entry_bytes e)) place bytes)
    ∙ ap (λ (k : ℕ). e ∷ entries_from n (drop k bytes)) (sym (entry_ends place bytes inside))

pub entries_accepted : (count place limit : ℕ) (before : Option Key) (bytes : List ℕ) → AreSmall bytes → length bytes ≡ 512 → limit ≤ 512 → (count ≡ 0 → place ≡ limit)
    → entries_fault count place limit before bytes ≡ None → AreEntries (entries_from count (drop place bytes)) place limit before bytes
entries_accepted zero place limit before bytes small long high at_end e =
    let same : place ≡ limit = at_end refl in
    record { each = refl; order = refl; spelled = ap (λ (k : ℕ). drop k bytes) (sym same); used = omega arith }
entries_accepted (suc n) place limit before bytes small long high at_end e =
    let p = none_both (entry_fault place limit (n == 0) before bytes) (entries_fault n (entry_end place bytes) limit (Some (key_at place bytes)) bytes ∷ []) e in
    let one = entry_accepted place limit (n == 0) before bytes small p.0 in
    let inside : place + 1 + u8_at place bytes ≤ length bytes = omega (arith, one.name, high, long) in
    let end : ℕ = entry_end place bytes in
    let more = entries_accepted n end limit (Some (key_at place bytes)) bytes small long high (λ h. one.ends (eq-eqb n 0 h)) (none_both _ [] p.1).0 in
    let entries : List Entry = entries_from n (drop end bytes) in
    let first : List ℕ = entry_bytes (entry_at place bytes) in
    let rest : List ℕ = flat_map entry_bytes entries in
    let is : AreEntries (entry_at place bytes ∷ entries) place limit before bytes = record {
      each = and_from _ _ one.entry more.each;
      order = and_from _ _ one.follows_it more.order;
      spelled = append_assoc first rest (drop limit bytes) ∙ ap (λ (x : List ℕ). first ++ x) more.spelled ∙ entry_again place end bytes small refl (omega (arith, one.within, high, long));
      used = omega (arith, length-append first rest, entry_ends place bytes inside, more.used);
    } in
    let P : List Entry → Type 0 = λ (x : List Entry). AreEntries x place limit before bytes in
    subst P (sym (entries_split n place bytes inside)) is

pub used_parts : (place limit all first rest : ℕ) → all ≡ first + rest → place + all ≡ limit → place + (first + rest) ≡ limit
used_parts place limit all first rest e h = omega arith

used_alone : (place limit first rest : ℕ) → rest ≡ 0 → place + (first + rest) ≡ limit → place + first ≡ limit
used_alone place limit first rest e h = omega arith

pub used_within : (place limit first rest : ℕ) → place + (first + rest) ≡ limit → place + first ≤ limit
used_within place limit first rest h = omega arith

pub used_rest : (place limit end all first rest : ℕ) → all ≡ first + rest → end ≡ place + first → place + all ≡ limit → end + rest ≡ limit
used_rest place limit end all first rest e f h = omega arith

pub ends_inside : (place n size first end limit long : ℕ) → end ≡ place + 19 + n + 1 + size → end ≡ place + first → place + first ≤ limit → limit ≤ 512 → long ≡ 512 → place + 1 + n ≤ long
ends_inside place n size first end limit long e f h high is = omega arith

pub entries_unfaulted : (count place limit : ℕ) (before : Option Key) (bytes : List ℕ) → length bytes ≡ 512 → limit ≤ 512
    → AreEntries (entries_from count (drop place bytes)) place limit before bytes → entries_fault count place limit before bytes ≡ None
entries_unfaulted zero place limit before bytes long high are = refl
entries_unfaulted (suc n) place limit before bytes long high are =
    let first : Entry = entry_from (drop place bytes) in
    let e : Entry = entry_at place bytes in
    let there : first ≡ e = entry_there place bytes in
    let rest : ℕ → List Entry = λ (k : ℕ). entries_from k (drop (length (entry_bytes first)) (drop place bytes)) in
    let head = and_parts (is_entry first) (list_all is_entry (rest n)) are.each in
    let after = and_parts (is_after before first.key) (ascend (Some first.key) (rest n)) are.order in
    let sizes : place + (length (entry_bytes e) + length (flat_map entry_bytes (rest n))) ≡ limit =
    used_parts place limit _ _ _ (length-append (entry_bytes first) (flat_map entry_bytes (rest n)) ∙ ap (λ (x : Entry). length (entry_bytes x) + length (flat_map entry_bytes (rest n))) there) are.used in
    let alone : (n == 0) ≡ true → place + length (entry_bytes e) ≡ limit =
    λ h. used_alone place limit _ _ (ap (λ (k : ℕ). length (flat_map entry_bytes (rest k))) (eqb-true n 0 h)) sizes in
    let one = entry_unfaulted place limit (n == 0) before bytes long high (ap is_entry (sym there) ∙ head.0) (ap (λ (x : Entry). is_after before x.key) (sym there) ∙ after.0) (used_within place limit _ _ sizes) alone in
    let end : ℕ = entry_end place bytes in
    let inside : place + 1 + u8_at place bytes ≤ length bytes = ends_inside place (u8_at place bytes) _ _ end limit (length bytes) refl one.1 (used_within place limit _ _ sizes) high long in
    let P : List Entry → Type 0 = λ (x : List Entry). AreEntries x place limit before bytes in
    let split = subst P (entries_split n place bytes inside) are in
    let entries : List Entry = entries_from n (drop end bytes) in
    let bytes_of : List ℕ = flat_map entry_bytes entries in
    let more : AreEntries entries end limit (Some (key_at place bytes)) bytes = record {
      each = (and_parts (is_entry e) (list_all is_entry entries) split.each).1;
      order = (and_parts (is_after before e.key) (ascend (Some e.key) entries) split.order).1;
      spelled =
          sym (drop_at (entry_bytes e) (bytes_of ++ drop limit bytes) (length (entry_bytes e)) refl)
          ∙ ap (drop (length (entry_bytes e))) (sym (append_assoc (entry_bytes e) bytes_of (drop limit bytes)) ∙ split.spelled)
          ∙ drop-drop (length (entry_bytes e)) place bytes
          ∙ ap (λ (k : ℕ). drop k bytes) (sym one.1);
      used = used_rest place limit end _ _ _ (length-append (entry_bytes e) bytes_of) one.1 split.used;
    } in
    none_from (entry_fault place limit (n == 0) before bytes) (entries_fault n end limit (Some (key_at place bytes)) bytes ∷ []) one.0
    (none_from _ [] (entries_unfaulted n end limit (Some (key_at place bytes)) bytes long high more) refl)
