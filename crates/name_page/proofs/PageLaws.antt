-- A page without a fault is read, and one that is read has none.
use Rattle.std.proofs.Common.{◌≡◌, ◌⊎◌, inl, inr, ℕ, zero, suc, ◌+◌, ◌-◌, ◌*◌, ◌≤◌, true, cond, not, ◌&&◌, ◌||◌, List, [], ◌∷◌, ◌++◌, length, take, drop, Option, Some, None, refl, sym, ap, subst, ◌∙◌, arith, append_assoc}
use Rattle.std.specs.Prelude.{option_map, codes, nat_le, nat_lt, ◌==◌}
use Rattle.std.specs.List.{flat_map}
use Rattle.std.proofs.lemmas.Bool.{and_parts, and_from, leb-true, eqb-true, cond-true}
use Rattle.std.proofs.lemmas.List.{drop-drop, length-append, length-drop, take-append-drop, append-nil}
use Rattle.fsd_bytes.specs.Bytes.{u16, u32, u8_at, u16_at, u32_at, zeros, sector, same_bytes}
use Rattle.fsd_bytes.specs.Names.{is_between}
use Rattle.fsd_bytes.proofs.FieldLaws.{AreSmall, u32_there}
use Rattle.fsd_bytes.proofs.SameLaws.{is_same, same_is}
use Rattle.fsd_formats.specs.declared.entry.Entry.{Entry}
use Rattle.fsd_formats.specs.declared.page.Separator.{Separator}
use Rattle.fsd_formats.specs.declared.page.Page.{Page}
use Rattle.fsd_formats.specs.declared.page.PageKind.{PageKind}
use Rattle.fsd_formats.specs.Record.{Stamp}
use Rattle.fsd_formats.specs.NamePage.{Content, Free, Leaf, Interior, content_from, entry_from, entries_from, entry_bytes, separators_from, separator_bytes, is_page, page_bytes, read_page, room, stamp_at, least_used}
use Rattle.name_page.specs.Spelling.{head}
use Rattle.name_page.specs.Fault.{first_bad, unless, zeros_fault, head_fault, contents_fault, entries_fault, separators_fault, count_fits, used_fits, fault_of, head_at, kind_at}
use Rattle.name_page.specs.Reading.{head_of}
use Rattle.name_page.proofs.FirstLaws.{none_both, good_from}
use Rattle.name_page.proofs.PieceLaws.{u8_again, u16_again, u32_again}
use Rattle.name_page.proofs.ZeroLaws.{zeros_accepted}
use Rattle.name_page.proofs.LeafLaws.{between, entries_accepted}
use Rattle.name_page.proofs.LeafLaws as leaf
use Rattle.name_page.proofs.SeparatorLaws.{AreSeparators, separators_accepted, count_separators, length_separators}
use Rattle.name_page.proofs.SeparatorLaws as interior

pub count_entries : (n : ℕ) (bytes : List ℕ) → length (entries_from n bytes) ≡ n
count_entries zero bytes = refl
count_entries (suc n) bytes = omega (arith, count_entries n (drop (length (entry_bytes (entry_from bytes))) bytes))

-- ---- the head

record Headed (page : ℕ) (bytes : List ℕ) : Type 0 where
  kind : u8_at 4 bytes ≤ 2
  count : count_fits page (u8_at 4 bytes) (u16_at 6 bytes) ≡ true
  used : used_fits page (u8_at 4 bytes) (u16_at 6 bytes) (u16_at 8 bytes) ≡ true
  spelled : head (u8_at 4 bytes) (u16_at 6 bytes) (u16_at 8 bytes) page (stamp_at 16 bytes) ++ drop 24 bytes ≡ bytes

head_again : (page : ℕ) (bytes : List ℕ) → AreSmall bytes → length bytes ≡ 512 → take 4 bytes ≡ codes "CNPG" → u8_at 5 bytes ≡ 0 → zeros_fault 2 10 bytes ≡ None → u32_at 12 bytes ≡ page
    → head (u8_at 4 bytes) (u16_at 6 bytes) (u16_at 8 bytes) page (stamp_at 16 bytes) ++ drop 24 bytes ≡ bytes
head_again page bytes small long magic five ten numbered =
    let k : ℕ = u8_at 4 bytes in
    let c : ℕ = u16_at 6 bytes in
    let u : ℕ = u16_at 8 bytes in
    let e : ℕ = u32_at 16 bytes in
    let to6 : List ℕ → List ℕ = λ (x : List ℕ). codes "CNPG" ++ (k ∷ 0 ∷ x) in
    let to10 : List ℕ → List ℕ = λ (x : List ℕ). to6 (u16 c ++ (u16 u ++ x)) in
    let to16 : List ℕ → List ℕ = λ (x : List ℕ). to10 (zeros 2 ++ (u32 page ++ x)) in
    ap (λ (x : List ℕ). to16 (u32 e ++ x)) (u32_again bytes 20 24 small refl (omega arith))
    ∙ ap to16 (u32_again bytes 16 20 small refl (omega arith))
    ∙ ap (λ (x : ℕ). to10 (zeros 2 ++ (u32 x ++ drop 16 bytes))) (sym numbered)
    ∙ ap (λ (x : List ℕ). to10 (zeros 2 ++ x)) (u32_again bytes 12 16 small refl (omega arith))
    ∙ ap to10 (zeros_accepted 2 10 12 bytes refl (omega arith) ten)
    ∙ ap (λ (x : List ℕ). to6 (u16 c ++ x)) (u16_again bytes 8 10 small refl (omega arith))
    ∙ ap to6 (u16_again bytes 6 8 small refl (omega arith))
    ∙ ap (λ (x : ℕ). codes "CNPG" ++ (k ∷ x ∷ drop 6 bytes)) (sym five)
    ∙ ap (λ (x : List ℕ). codes "CNPG" ++ (k ∷ x)) (u8_again bytes 5 6 refl (omega arith))
    ∙ ap (λ (x : List ℕ). codes "CNPG" ++ x) (u8_again bytes 4 5 refl (omega arith))
    ∙ ap (λ (x : List ℕ). x ++ drop 4 bytes) (sym magic)
    ∙ take-append-drop 4 bytes

head_accepted : (page : ℕ) (bytes : List ℕ) → AreSmall bytes → length bytes ≡ 512 → head_fault page bytes ≡ None → Headed page bytes
head_accepted page bytes small long none =
    let k : ℕ = u8_at 4 bytes in
    let c : ℕ = u16_at 6 bytes in
    let u : ℕ = u16_at 8 bytes in
    let l12 : List (Option ℕ) = unless 12 (u32_at 12 bytes == page) ∷ [] in
    let l10 : List (Option ℕ) = zeros_fault 2 10 bytes ∷ l12 in
    let l8 : List (Option ℕ) = unless 8 (used_fits page k c u) ∷ l10 in
    let l6 : List (Option ℕ) = unless 6 (count_fits page k c) ∷ l8 in
    let l5 : List (Option ℕ) = unless 5 (u8_at 5 bytes == 0) ∷ l6 in
    let l4 : List (Option ℕ) = unless 4 (nat_le k 2) ∷ l5 in
    let p0 = none_both (unless 0 (same_bytes (take 4 bytes) (codes "CNPG"))) l4 none in
    let p4 = none_both (unless 4 (nat_le k 2)) l5 p0.1 in
    let p5 = none_both (unless 5 (u8_at 5 bytes == 0)) l6 p4.1 in
    let p6 = none_both (unless 6 (count_fits page k c)) l8 p5.1 in
    let p8 = none_both (unless 8 (used_fits page k c u)) l10 p6.1 in
    let p10 = none_both (zeros_fault 2 10 bytes) l12 p8.1 in
    let p12 = none_both (unless 12 (u32_at 12 bytes == page)) [] p10.1 in
    record {
      kind = leb-true k 2 (good_from 4 _ p4.0);
      count = good_from 6 _ p6.0;
      used = good_from 8 _ p8.0;
      spelled = head_again page bytes small long (same_is _ _ (good_from 0 _ p0.0)) (eqb-true _ _ (good_from 5 _ p5.0)) p10.0 (eqb-true _ _ (good_from 12 _ p12.0));
    }

-- a head, contents and zeros are the page
page_again : (kind count used page : ℕ) (stamp : Stamp) (contents bytes : List ℕ) → length bytes ≡ 512 → head kind count used page stamp ++ drop 24 bytes ≡ bytes
    → contents ++ drop (24 + used) bytes ≡ drop 24 bytes → zeros_fault (488 - used) (24 + used) bytes ≡ None → length contents ≡ used → used ≤ 488
    → sector (head kind count (length contents) page stamp ++ contents) ≡ bytes
page_again kind count used page stamp contents bytes long headed filled none len few =
    let front : List ℕ = head kind count (length contents) page stamp in
    let pad : 512 - length (front ++ contents) ≡ 488 - used = omega (arith, length-append front contents, len) in
    let nothing : drop 512 bytes ≡ [] = none_left (drop 512 bytes) (omega (arith, length-drop 512 bytes, long)) in
    let zeros_are : zeros (488 - used) ≡ drop (24 + used) bytes =
    sym (append-nil (zeros (488 - used))) ∙ ap (λ (x : List ℕ). zeros (488 - used) ++ x) (sym nothing) ∙ zeros_accepted (488 - used) (24 + used) 512 bytes (omega arith) (omega arith) none in
    ap (λ (n : ℕ). (front ++ contents) ++ zeros n) pad
    ∙ append_assoc front contents (zeros (488 - used))
    ∙ ap (λ (x : List ℕ). front ++ (contents ++ x)) zeros_are
    ∙ ap (λ (x : List ℕ). front ++ x) filled
    ∙ ap (λ (n : ℕ). head kind count n page stamp ++ drop 24 bytes) len
    ∙ headed
  where
    none_left : (xs : List ℕ) → length xs ≡ 0 → xs ≡ []
    none_left [] e = refl
    none_left (x ∷ xs) e = absurd (omega arith)

-- ---- what is read

-- the content that the head of the bytes tells
abbrev pub content_at : List ℕ → Content
content_at bytes = content_from (u8_at 4 bytes) (u16_at 6 bytes) (drop 24 bytes)

read_from : (page p : ℕ) (bytes : List ℕ) (x : Content) → x ≡ content_at bytes → is_page page p x ≡ true → page_bytes page (stamp_at 16 bytes) x ≡ bytes → head_of x ≡ head_at bytes
    → option_map head_of (read_page page p bytes) ≡ Some (head_at bytes)
read_from page p bytes x e is spelled headed =
    ap (λ (y : Content). option_map head_of (cond (is_page page p y && same_bytes (page_bytes page (stamp_at 16 bytes) y) bytes) (Some y) None)) (sym e)
    ∙ ap (option_map head_of) (cond-true _ (Some x) None (and_from _ _ is (ap (λ (b : List ℕ). same_bytes b bytes) spelled ∙ is_same bytes)))
    ∙ ap Some headed

three : (k : ℕ) → k ≤ 2 → (k ≡ 0) ⊎ ((k ≡ 1) ⊎ (k ≡ 2))
three zero h = inl refl
three (suc zero) h = inr (inl refl)
three (suc (suc zero)) h = inr (inr refl)
three (suc (suc (suc k))) h = absurd (omega arith)

same_head : {a : PageKind} {b c : ℕ} {k : PageKind} {n u : ℕ} → a ≡ k → b ≡ n → c ≡ u → ◌≡◌ {A = Page} (record { kind = a; count = b; used = c }) (record { kind = k; count = n; used = u })
same_head e f g = λ i. record { kind = e i; count = f i; used = g i }

record Parts (page p : ℕ) (bytes : List ℕ) : Type 0 where
  small : AreSmall bytes
  long : length bytes ≡ 512
  headed : Headed page bytes
  filled : contents_fault p (u8_at 4 bytes) (u16_at 6 bytes) (u16_at 8 bytes) bytes ≡ None
  clear : zeros_fault (488 - u16_at 8 bytes) (24 + u16_at 8 bytes) bytes ≡ None

free_read : (page p : ℕ) (bytes : List ℕ) → Parts page p bytes → u8_at 4 bytes ≡ 0 → option_map head_of (read_page page p bytes) ≡ Some (head_at bytes)
free_read page p bytes parts k =
    let c : u16_at 6 bytes ≡ 0 = eqb-true _ _ (ap (λ (j : ℕ). count_fits page j (u16_at 6 bytes)) (sym k) ∙ parts.headed.count) in
    let u : u16_at 8 bytes ≡ 0 = eqb-true _ _ (ap (λ (j : ℕ). used_fits page j (u16_at 6 bytes) (u16_at 8 bytes)) (sym k) ∙ parts.headed.used) in
    let spelled = page_again (u8_at 4 bytes) (u16_at 6 bytes) (u16_at 8 bytes) page (stamp_at 16 bytes) [] bytes parts.long parts.headed.spelled
    (ap (λ (n : ℕ). drop n bytes) (let e : 24 + u16_at 8 bytes ≡ 24 = omega (arith, u) in e)) parts.clear (sym u) (omega (arith, u)) in
    read_from page p bytes Free (ap (λ (j : ℕ). content_from j (u16_at 6 bytes) (drop 24 bytes)) (sym k)) refl
    (ap (λ (j : ℕ). sector (head j 0 0 page (stamp_at 16 bytes))) (sym k) ∙ ap (λ (j : ℕ). sector (head (u8_at 4 bytes) j 0 page (stamp_at 16 bytes))) (sym c) ∙ spelled)
    (same_head (sym (ap kind_at k)) (sym c) (sym u))

leaf_read : (page p : ℕ) (bytes : List ℕ) → Parts page p bytes → u8_at 4 bytes ≡ 1 → option_map head_of (read_page page p bytes) ≡ Some (head_at bytes)
leaf_read page p bytes parts k =
    let count : ℕ = u16_at 6 bytes in
    let used : ℕ = u16_at 8 bytes in
    let entries : List Entry = entries_from count (drop 24 bytes) in
    let contents : List ℕ = flat_map entry_bytes entries in
    let fits = and_parts (is_between (least_used page) room used) (not (count == 0) || used == 0) (ap (λ (j : ℕ). used_fits page j count used) (sym k) ∙ parts.headed.used) in
    let few = (between (least_used page) room used fits.0).1 in
    let none : entries_fault count 24 (24 + used) None bytes ≡ None = ap (λ (j : ℕ). contents_fault p j count used bytes) (sym k) ∙ parts.filled in
    let empty : count ≡ 0 → 24 ≡ 24 + used = λ h. empty_used count used h fits.1 in
    let are = entries_accepted count 24 (24 + used) None bytes parts.small parts.long (omega arith) empty none in
    let len : length contents ≡ used = omega (arith, are.used) in
    let counted : length entries ≡ count = count_entries count (drop 24 bytes) in
    let spelled = page_again (u8_at 4 bytes) count used page (stamp_at 16 bytes) contents bytes parts.long parts.headed.spelled are.spelled parts.clear len few in
    let is : is_page page p (Leaf entries) ≡ true =
    and_from _ _ (and_from _ _ are.each (sym (leaf.ascend_from entries) ∙ are.order)) (ap (is_between (least_used page) room) len ∙ fits.0) in
    read_from page p bytes (Leaf entries) (ap (λ (j : ℕ). content_from j count (drop 24 bytes)) (sym k)) is
    (ap (λ (j : ℕ). sector (head j (length entries) (length contents) page (stamp_at 16 bytes) ++ contents)) (sym k)
    ∙ ap (λ (j : ℕ). sector (head (u8_at 4 bytes) j (length contents) page (stamp_at 16 bytes) ++ contents)) counted ∙ spelled)
    (same_head (sym (ap kind_at k)) counted len)
  where
    empty_used : (count used : ℕ) → count ≡ 0 → (not (count == 0) || used == 0) ≡ true → 24 ≡ 24 + used
    empty_used count used e h = let z : used ≡ 0 = eqb-true _ _ (ap (λ (n : ℕ). not (n == 0) || used == 0) (sym e) ∙ h) in omega arith

interior_read : (page p : ℕ) (bytes : List ℕ) → Parts page p bytes → u8_at 4 bytes ≡ 2 → option_map head_of (read_page page p bytes) ≡ Some (head_at bytes)
interior_read page p bytes parts k =
    let count : ℕ = u16_at 6 bytes in
    let used : ℕ = u16_at 8 bytes in
    let first : ℕ = u32_at 0 (drop 24 bytes) in
    let xs : List Separator = separators_from count (drop 4 (drop 24 bytes)) in
    let contents : List ℕ = u32 first ++ flat_map separator_bytes xs in
    let counts = ap (λ (j : ℕ). count_fits page j count) (sym k) ∙ parts.headed.count in
    let few = (between _ 9 count counts).1 in
    let used_is : used ≡ 4 + 49 * count = eqb-true _ _ (ap (λ (j : ℕ). used_fits page j count used) (sym k) ∙ parts.headed.used) in
    let none : first_bad (unless 24 (nat_lt (u32_at 24 bytes) p) ∷ separators_fault count 28 p None bytes ∷ []) ≡ None = ap (λ (j : ℕ). contents_fault p j count used bytes) (sym k) ∙ parts.filled in
    let q = none_both (unless 24 (nat_lt (u32_at 24 bytes) p)) (separators_fault count 28 p None bytes ∷ []) none in
    let child : nat_lt first p ≡ true = ap (λ (n : ℕ). nat_lt n p) (u32_there 24 bytes) ∙ good_from 24 _ q.0 in
    let there : drop 4 (drop 24 bytes) ≡ drop 28 bytes = drop-drop 4 24 bytes in
    let next : ℕ = 24 + used in
    let all = separators_accepted count 28 next p None bytes parts.small (omega (arith, used_is)) (omega (arith, used_is, few, parts.long)) (none_both _ [] q.1).0 in
    let P : List ℕ → Type 0 = λ (b : List ℕ). AreSeparators (separators_from count b) 28 next p None bytes in
    let are : AreSeparators xs 28 next p None bytes = subst P (sym there) all in
    let counted : length xs ≡ count = count_separators count (drop 4 (drop 24 bytes)) in
    let len : length contents ≡ used = omega (arith, used_is, counted, length_separators p xs are.each) in
    let filled : contents ++ drop next bytes ≡ drop 24 bytes =
    ap (λ (x : List ℕ). u32 first ++ x) are.spelled ∙ ap (λ (n : ℕ). u32 n ++ drop 28 bytes) (u32_there 24 bytes) ∙ u32_again bytes 24 28 parts.small refl (omega (arith, parts.long)) in
    let spelled = page_again (u8_at 4 bytes) count used page (stamp_at 16 bytes) contents bytes parts.long parts.headed.spelled filled parts.clear len (omega (arith, used_is, few)) in
    let is : is_page page p (Interior first xs) ≡ true =
    and_from _ _ (and_from _ _ (and_from _ _ are.each (sym (interior.ascend_from xs) ∙ are.order)) child) (ap (is_between _ 9) counted ∙ counts) in
    read_from page p bytes (Interior first xs) (ap (λ (j : ℕ). content_from j count (drop 24 bytes)) (sym k)) is
    (ap (λ (j : ℕ). sector (head j (length xs) (length contents) page (stamp_at 16 bytes) ++ contents)) (sym k)
    ∙ ap (λ (j : ℕ). sector (head (u8_at 4 bytes) j (length contents) page (stamp_at 16 bytes) ++ contents)) counted ∙ spelled)
    (same_head (sym (ap kind_at k)) counted len)

pub page_accepted : (page p : ℕ) (bytes : List ℕ) → AreSmall bytes → length bytes ≡ 512 → fault_of page p bytes ≡ None → option_map head_of (read_page page p bytes) ≡ Some (head_at bytes)
unfolding fault_of
page_accepted page p bytes small long none =
    let used : ℕ = u16_at 8 bytes in
    let rest : List (Option ℕ) = zeros_fault (488 - used) (24 + used) bytes ∷ [] in
    let a = none_both (head_fault page bytes) (contents_fault p (u8_at 4 bytes) (u16_at 6 bytes) used bytes ∷ rest) none in
    let b = none_both (contents_fault p (u8_at 4 bytes) (u16_at 6 bytes) used bytes) rest a.1 in
    let headed = head_accepted page bytes small long a.0 in
    let parts : Parts page p bytes = record { small = small; long = long; headed = headed; filled = b.0; clear = (none_both (zeros_fault (488 - used) (24 + used) bytes) [] b.1).0 } in
    elim (three (u8_at 4 bytes) headed.kind) [
      | inl k ↦ free_read page p bytes parts k
      | inr more ↦ elim more [ inl k ↦ leaf_read page p bytes parts k | inr k ↦ interior_read page p bytes parts k ]
    ]
