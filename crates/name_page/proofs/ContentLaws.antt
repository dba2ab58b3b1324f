-- The content of bytes, whatever the table.
use Rattle.std.proofs.Common.{◌≡◌, ℕ, ◌^◌, ◌<◌, ◌≤◌, true, ◌&&◌, List, [], ◌∷◌, map, length, Some, None, refl, sym, ap, ◌∙◌, arith}
use Rattle.std.specs.Prelude.{nat_lt}
use Rattle.std.specs.List.{list_all}
use Rattle.std.proofs.lemmas.Bool.{and_parts, and_from, cond-true, ltb-true, lt-ltb}
use Rattle.std.proofs.lemmas.Nat.{from_be_bytes-to_be_bytes_4}
use Rattle.fsd_bytes.specs.Bytes.{u32_at, same_bytes}
use Rattle.fsd_bytes.specs.Keys.{is_key}
use Rattle.fsd_bytes.specs.Names.{is_between}
use Rattle.fsd_bytes.proofs.SameLaws.{same_is, given_if}
use Rattle.fsd_formats.specs.declared.entry.Entry.{Entry}
use Rattle.fsd_formats.specs.declared.page.Separator.{Separator}
use Rattle.fsd_formats.specs.NamePage.{Content, Free, Leaf, Interior, is_page, page_bytes, read_page, stamp_at, are_ascending, least_separators}
use Rattle.fsd_table.specs.Pages.{entries_of}
use Rattle.name_page.specs.Reading.{content_in, entries_read, first_of, first_in, separators_of, separators_in}
use Rattle.name_page.proofs.SeparatorLaws.{is_separator}
use Rattle.name_page.proofs.PageLaws.{content_at}

below_more : (p q n : ℕ) → p ≤ q → nat_lt n p ≡ true → nat_lt n q ≡ true
below_more p q n h e = let lt = ltb-true n p e in lt-ltb n q (omega arith)

separators_more : (p q : ℕ) (xs : List Separator) → p ≤ q → list_all (is_separator p) xs ≡ true → list_all (is_separator q) xs ≡ true
separators_more p q [] h all = refl
separators_more p q (s ∷ xs) h all =
    let parts = and_parts (is_separator p s) (list_all (is_separator p) xs) all in
    let one = and_parts (is_key s.key) (nat_lt s.child p) parts.0 in
    and_from _ _ (and_from _ _ one.0 (below_more p q s.child h one.1)) (separators_more p q xs h parts.1)

-- a page of a table is a page of a larger one
page_more : (page p q : ℕ) (x : Content) → p ≤ q → is_page page p x ≡ true → is_page page q x ≡ true
page_more page p q Free h is = refl
page_more page p q (Leaf entries) h is = is
page_more page p q (Interior first xs) h is =
    let p3 = and_parts (list_all (is_separator p) xs && are_ascending (map (λ s. s.key) xs) && nat_lt first p) (is_between (least_separators page) 9 (length xs)) is in
    let p2 = and_parts (list_all (is_separator p) xs && are_ascending (map (λ s. s.key) xs)) (nat_lt first p) p3.0 in
    let p1 = and_parts (list_all (is_separator p) xs) (are_ascending (map (λ s. s.key) xs)) p2.0 in
    and_from _ _ (and_from _ _ (and_from _ _ (separators_more p q xs h p1.0) p1.1) (below_more p q first h p2.1)) p3.1

read_more : (page p q : ℕ) (bytes : List ℕ) (x : Content) → p ≤ q → read_page page p bytes ≡ Some x → (page < 2 ^ 32) → (u32_at 12 bytes ≡ page) × (read_page page q bytes ≡ Some x)
read_more page p q bytes x h e small =
    let c : Content = content_at bytes in
    let given = given_if (is_page page p c && same_bytes (page_bytes page (stamp_at 16 bytes) c) bytes) c x e in
    let parts = and_parts (is_page page p c) (same_bytes (page_bytes page (stamp_at 16 bytes) c) bytes) given.0 in
    let spelled : page_bytes page (stamp_at 16 bytes) c ≡ bytes = same_is _ _ parts.1 in (
      ap (u32_at 12) (sym spelled) ∙ from_be_bytes-to_be_bytes_4 page small,
      cond-true _ (Some c) None (and_from _ _ (page_more page p q c h parts.0) parts.1) ∙ ap Some given.1,
    )

pub content_is : (page p : ℕ) (bytes : List ℕ) (x : Content) → page < 2 ^ 32 → p ≤ 2 ^ 32 → read_page page p bytes ≡ Some x → content_in bytes ≡ Some x
unfolding content_in
content_is page p bytes x small few e =
    let r = read_more page p (2 ^ 32) bytes x few e small in
    ap (λ (n : ℕ). read_page n (2 ^ 32) bytes) r.0 ∙ r.1

pub entries_are : (bytes : List ℕ) (entries : List Entry) → content_in bytes ≡ Some (Leaf entries) → entries_read bytes ≡ entries
unfolding entries_read
entries_are bytes entries e = ap entries_of e

pub first_is : (bytes : List ℕ) (first : ℕ) (xs : List Separator) → content_in bytes ≡ Some (Interior first xs) → first_in bytes ≡ Some first
unfolding first_in
first_is bytes first xs e = ap first_of e

pub separators_are : (bytes : List ℕ) (first : ℕ) (xs : List Separator) → content_in bytes ≡ Some (Interior first xs) → separators_in bytes ≡ xs
unfolding separators_in
separators_are bytes first xs e = ap separators_of e
