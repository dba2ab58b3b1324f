-- The first child and the separators of an interior page.
use Rattle.std.proofs.Common.{◌≡◌, ℕ, ◌+◌, ◌*◌, ◌^◌, ◌<◌, ◌≤◌, true, ◌&&◌, List, [], ◌∷◌, map, length, drop, ◌-◌, Option, Some, None, refl, sym, ap, ◌∙◌, arith}
use Rattle.std.specs.Prelude.{slice_get, nat_lt, IsSome}
use Rattle.std.specs.List.{list_all}
use Rattle.std.proofs.lemmas.Bool.{and_parts}
use Rattle.std.proofs.lemmas.List.{drop-drop}
use Rattle.fsd_bytes.specs.Bytes.{u8_at, u16_at, u32_at, same_bytes}
use Rattle.fsd_bytes.specs.Names.{is_between}
use Rattle.fsd_bytes.proofs.FieldLaws.{AreSmall, u32_there}
use Rattle.fsd_bytes.proofs.SameLaws.{same_is, given_if}
use Rattle.fsd_formats.specs.declared.page.Separator.{Separator}
use Rattle.fsd_formats.specs.NamePage.{Content, Free, Leaf, Interior, content_from, separators_from, is_page, page_bytes, stamp_at, are_ascending, least_separators}
use Rattle.name_page.specs.Fault.{first_bad, unless, zeros_fault, head_fault, contents_fault, separators_fault, fault_of}
use Rattle.name_page.specs.Reading.{content_in, separators_of, separators_in, first_in, separator_at}
use Rattle.name_page.specs.Reading as reading
use Rattle.name_page.proofs.FirstLaws.{none_both}
use Rattle.name_page.proofs.LeafLaws.{between}
use Rattle.name_page.proofs.PieceLaws.{u32_small}
use Rattle.name_page.proofs.SeparatorLaws.{is_separator, separator_nth, separator_good, count_separators}
use Rattle.name_page.proofs.RefusalLaws.{child_of, page_unfaulted}
use Rattle.name_page.proofs.RefusalLaws as refusal
use Rattle.name_page.proofs.PageLaws.{content_at}

pub record InteriorIn (first : ℕ) (xs : List Separator) (bytes : List ℕ) : Type 0 where
  pub first_is : first ≡ u32_at 24 bytes
  pub same : xs ≡ separators_from (u16_at 6 bytes) (drop 28 bytes)
  pub few : u16_at 6 bytes ≤ 9
  pub none : separators_fault (u16_at 6 bytes) 28 (2 ^ 32) None bytes ≡ None

contents_clear : (page p : ℕ) (bytes : List ℕ) → fault_of page p bytes ≡ None → contents_fault p (u8_at 4 bytes) (u16_at 6 bytes) (u16_at 8 bytes) bytes ≡ None
unfolding fault_of
contents_clear page p bytes none =
    let used : ℕ = u16_at 8 bytes in
    let rest : List (Option ℕ) = zeros_fault (488 - used) (24 + used) bytes ∷ [] in
    (none_both (contents_fault p (u8_at 4 bytes) (u16_at 6 bytes) used bytes) rest (none_both (head_fault page bytes) (contents_fault p (u8_at 4 bytes) (u16_at 6 bytes) used bytes ∷ rest) none).1).0

pub interior_in : (bytes : List ℕ) (first : ℕ) (xs : List Separator) → AreSmall bytes → length bytes ≡ 512 → content_in bytes ≡ Some (Interior first xs) → InteriorIn first xs bytes
unfolding content_in
interior_in bytes first xs small long e =
    let page : ℕ = u32_at 12 bytes in
    let p : ℕ = 2 ^ 32 in
    let c : Content = content_at bytes in
    let given = given_if (is_page page p c && same_bytes (page_bytes page (stamp_at 16 bytes) c) bytes) c (Interior first xs) e in
    let is : (is_page page p (Interior first xs) && same_bytes (page_bytes page (stamp_at 16 bytes) (Interior first xs)) bytes) ≡ true =
    ap (λ (x : Content). is_page page p x && same_bytes (page_bytes page (stamp_at 16 bytes) x) bytes) (sym given.1) ∙ given.0 in
    let parts = and_parts (is_page page p (Interior first xs)) (same_bytes (page_bytes page (stamp_at 16 bytes) (Interior first xs)) bytes) is in
    let spelled : page_bytes page (stamp_at 16 bytes) (Interior first xs) ≡ bytes = same_is _ _ parts.1 in
    let k : u8_at 4 bytes ≡ 2 = ap (u8_at 4) (sym spelled) in
    let read : Interior first xs ≡ Interior (u32_at 0 (drop 24 bytes)) (separators_from (u16_at 6 bytes) (drop 4 (drop 24 bytes))) =
    sym given.1 ∙ ap (λ (j : ℕ). content_from j (u16_at 6 bytes) (drop 24 bytes)) k in
    let same : xs ≡ separators_from (u16_at 6 bytes) (drop 28 bytes) = ap refusal.separators_of read ∙ ap (separators_from (u16_at 6 bytes)) (drop-drop 4 24 bytes) in
    let clear = contents_clear page p bytes (page_unfaulted page p bytes (Interior first xs) long (u32_small bytes 12 small) e) in
    let none : first_bad (unless 24 (nat_lt (u32_at 24 bytes) p) ∷ separators_fault (u16_at 6 bytes) 28 p None bytes ∷ []) ≡ None = ap (λ (j : ℕ). contents_fault p j (u16_at 6 bytes) (u16_at 8 bytes) bytes) (sym k) ∙ clear in
    let counted = and_parts (list_all (is_separator p) xs && are_ascending (map (λ s. s.key) xs) && nat_lt first p) (is_between (least_separators page) 9 (length xs)) parts.0 in
    let most = (between (least_separators page) 9 (length xs) counted.1).1 in
    record {
      first_is = ap child_of read ∙ u32_there 24 bytes;
      same = same;
      few = omega (arith, most, ap length same, count_separators (u16_at 6 bytes) (drop 28 bytes));
      none = (none_both (separators_fault (u16_at 6 bytes) 28 p None bytes) [] (none_both (unless 24 (nat_lt (u32_at 24 bytes) p)) (separators_fault (u16_at 6 bytes) 28 p None bytes ∷ []) none).1).0;
    }

pub record SeparatorIn (bytes : List ℕ) (i : ℕ) : Type 0 where
  pub is : is_separator (2 ^ 32) (separator_at (28 + 49 * i) bytes) ≡ true
  pub few : u8_at (28 + 49 * i) bytes ≤ 40
  pub within : 28 + 49 * i + 49 ≤ 512
  pub at : slice_get (separators_in bytes) i ≡ Some (separator_at (28 + 49 * i) bytes)

separator_by : (bytes : List ℕ) (i : ℕ) (o : Option Content) → AreSmall bytes → length bytes ≡ 512 → content_in bytes ≡ o → i < length (separators_of o) → SeparatorIn bytes i
unfolding separators_in
separator_by bytes i None small long e h = absurd (omega arith)
separator_by bytes i (Some Free) small long e h = absurd (omega arith)
separator_by bytes i (Some (Leaf entries)) small long e h = absurd (omega arith)
separator_by bytes i (Some (Interior first xs)) small long e h =
    let n = interior_in bytes first xs small long e in
    let below : i < u16_at 6 bytes = below_count i _ _ (ap length n.same ∙ count_separators (u16_at 6 bytes) (drop 28 bytes)) h in
    let good = separator_good (u16_at 6 bytes) i 28 (2 ^ 32) None bytes below n.none in
    record {
      is = good.0;
      few = good.1;
      within = inside i (u16_at 6 bytes) below n.few;
      at = ap (λ (x : Option Content). slice_get (separators_of x) i) e ∙ ap (λ (x : List Separator). slice_get x i) n.same ∙ separator_nth (u16_at 6 bytes) i 28 bytes below;
    }
  where
    below_count : (i n count : ℕ) → n ≡ count → i < n → i < count
    below_count i n count e h = omega arith

    inside : (i count : ℕ) → i < count → count ≤ 9 → 28 + 49 * i + 49 ≤ 512
    inside i count h few = omega arith

pub separator_is_in : (bytes : List ℕ) (i : ℕ) → AreSmall bytes → length bytes ≡ 512 → i < length (separators_in bytes) → SeparatorIn bytes i
unfolding separators_in
separator_is_in bytes i small long h = separator_by bytes i (content_in bytes) small long refl h

first_by : (bytes : List ℕ) (o : Option Content) → AreSmall bytes → length bytes ≡ 512 → content_in bytes ≡ o → IsSome (reading.first_of o) → reading.first_of o ≡ Some (u32_at 24 bytes)
first_by bytes None small long e h = absurd cc
first_by bytes (Some Free) small long e h = absurd cc
first_by bytes (Some (Leaf entries)) small long e h = absurd cc
first_by bytes (Some (Interior first xs)) small long e h = ap Some (interior_in bytes first xs small long e).first_is

pub first_is_in : (bytes : List ℕ) → AreSmall bytes → length bytes ≡ 512 → IsSome (first_in bytes) → first_in bytes ≡ Some (u32_at 24 bytes)
unfolding first_in
first_is_in bytes small long h = first_by bytes (content_in bytes) small long refl h
