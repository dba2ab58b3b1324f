-- A page that is read has no fault.
use Rattle.std.proofs.Common.{◌≡◌, ℕ, suc, ◌+◌, ◌-◌, ◌*◌, ◌^◌, ◌<◌, ◌≤◌, true, not, ◌&&◌, ◌||◌, List, [], ◌∷◌, ◌++◌, length, take, drop, map, Option, Some, None, refl, sym, ap, subst, ◌∙◌, arith}
use Rattle.std.specs.Prelude.{codes, nat_le, nat_lt, ◌==◌}
use Rattle.std.specs.List.{flat_map, list_all}
use Rattle.std.proofs.lemmas.Bool.{and_parts, and_from, or_left, le-leb, eq-eqb, ne_eqb, not_from_false}
use Rattle.std.proofs.lemmas.List.{drop-drop, length-append, append-nil, drop_at}
use Rattle.std.proofs.lemmas.Nat.{from_be_bytes-to_be_bytes_2, from_be_bytes-to_be_bytes_4}
use Rattle.fsd_bytes.specs.Bytes.{u8_at, u16_at, u32, u32_at, zeros, sector, same_bytes}
use Rattle.fsd_bytes.specs.Names.{is_between}
use Rattle.fsd_bytes.proofs.FieldLaws.{u32_there}
use Rattle.fsd_bytes.proofs.SameLaws.{is_same, same_is, given_if}
use Rattle.fsd_formats.specs.declared.entry.Entry.{Entry}
use Rattle.fsd_formats.specs.declared.page.Separator.{Separator}
use Rattle.fsd_formats.specs.Record.{Stamp}
use Rattle.fsd_formats.specs.NamePage.{Content, Free, Leaf, Interior, content_from, entries_from, entry_bytes, is_entry, are_ascending, separators_from, separator_bytes, is_page, page_bytes, read_page, room, stamp_at, least_used, least_separators}
use Rattle.name_page.specs.Spelling.{head}
use Rattle.name_page.specs.Fault.{unless, zeros_fault, head_fault, contents_fault, entries_fault, separators_fault, count_fits, used_fits, fault_of}
use Rattle.name_page.proofs.FirstLaws.{none_from, none_at}
use Rattle.name_page.proofs.ZeroLaws.{zeros_unfaulted}
use Rattle.name_page.proofs.LengthLaws.{count_below}
use Rattle.name_page.proofs.LeafLaws.{between, AreEntries, entries_unfaulted}
use Rattle.name_page.proofs.LeafLaws as leaf
use Rattle.name_page.proofs.SeparatorLaws.{AreSeparators, is_separator, separators_unfaulted, length_separators}
use Rattle.name_page.proofs.SeparatorLaws as interior
use Rattle.name_page.proofs.PageLaws.{content_at}

pub record Spelled (kind count page : ℕ) (contents bytes : List ℕ) : Type 0 where
  pub kind_is : u8_at 4 bytes ≡ kind
  pub count_is : u16_at 6 bytes ≡ count
  pub used_is : u16_at 8 bytes ≡ length contents
  pub head : head_fault page bytes ≡ None
  pub filled : contents ++ drop (24 + length contents) bytes ≡ drop 24 bytes
  pub clear : zeros_fault (488 - length contents) (24 + length contents) bytes ≡ None

pub spelled_page : (kind count page : ℕ) (stamp : Stamp) (contents bytes : List ℕ) → page < 2 ^ 32 → kind ≤ 2 → count < 2 ^ 16 → length contents ≤ 488
    → count_fits page kind count ≡ true → used_fits page kind count (length contents) ≡ true
    → sector (head kind count (length contents) page stamp ++ contents) ≡ bytes → Spelled kind count page contents bytes
spelled_page kind count page stamp contents bytes small known few roomy counts uses spelled =
    let used : ℕ = length contents in
    let front : List ℕ = head kind count used page stamp in
    let back : bytes ≡ sector (front ++ contents) = sym spelled in
    let k : u8_at 4 bytes ≡ kind = ap (u8_at 4) back in
    let c : u16_at 6 bytes ≡ count = ap (u16_at 6) back ∙ from_be_bytes-to_be_bytes_2 count few in
    let u : u16_at 8 bytes ≡ used = ap (u16_at 8) back ∙ from_be_bytes-to_be_bytes_2 used (omega arith) in
    let n : u32_at 12 bytes ≡ page = ap (u32_at 12) back ∙ from_be_bytes-to_be_bytes_4 page small in
    let magic : same_bytes (take 4 bytes) (codes "CNPG") ≡ true = ap (λ (x : List ℕ). same_bytes (take 4 x) (codes "CNPG")) back ∙ is_same (codes "CNPG") in
    let five : u8_at 5 bytes ≡ 0 = ap (u8_at 5) back in
    let ten : zeros_fault 2 10 bytes ≡ None = zeros_unfaulted 2 10 bytes (drop 12 (sector (front ++ contents))) (ap (drop 10) spelled) in
    let l12 : List (Option ℕ) = unless 12 (u32_at 12 bytes == page) ∷ [] in
    let l10 : List (Option ℕ) = zeros_fault 2 10 bytes ∷ l12 in
    let l8 : List (Option ℕ) = unless 8 (used_fits page (u8_at 4 bytes) (u16_at 6 bytes) (u16_at 8 bytes)) ∷ l10 in
    let l6 : List (Option ℕ) = unless 6 (count_fits page (u8_at 4 bytes) (u16_at 6 bytes)) ∷ l8 in
    let l5 : List (Option ℕ) = unless 5 (u8_at 5 bytes == 0) ∷ l6 in
    let l4 : List (Option ℕ) = unless 4 (nat_le (u8_at 4 bytes) 2) ∷ l5 in
    let counts_there : count_fits page (u8_at 4 bytes) (u16_at 6 bytes) ≡ true =
    ap (λ (j : ℕ). count_fits page j (u16_at 6 bytes)) k ∙ ap (count_fits page kind) c ∙ counts in
    let uses_there : used_fits page (u8_at 4 bytes) (u16_at 6 bytes) (u16_at 8 bytes) ≡ true =
    ap (λ (j : ℕ). used_fits page j (u16_at 6 bytes) (u16_at 8 bytes)) k ∙ ap (λ (j : ℕ). used_fits page kind j (u16_at 8 bytes)) c ∙ ap (used_fits page kind count) u ∙ uses in
    let pad : 512 - length (front ++ contents) ≡ 488 - used = omega (arith, length-append front contents) in
    let after : drop 24 bytes ≡ contents ++ zeros (512 - length (front ++ contents)) = ap (drop 24) back in
    let tail : drop (24 + used) bytes ≡ zeros (488 - used) =
    sym (drop-drop used 24 bytes) ∙ ap (drop used) after ∙ drop_at contents (zeros (512 - length (front ++ contents))) used refl ∙ ap zeros pad in
    record {
      kind_is = k;
      count_is = c;
      used_is = u;
      head =
          none_from (unless 0 (same_bytes (take 4 bytes) (codes "CNPG"))) l4 (none_at 0 _ magic)
          (none_from (unless 4 (nat_le (u8_at 4 bytes) 2)) l5 (none_at 4 _ (le-leb _ _ (omega (arith, k, known))))
          (none_from (unless 5 (u8_at 5 bytes == 0)) l6 (none_at 5 _ (eq-eqb _ _ five))
          (none_from (unless 6 (count_fits page (u8_at 4 bytes) (u16_at 6 bytes))) l8 (none_at 6 _ counts_there)
          (none_from (unless 8 (used_fits page (u8_at 4 bytes) (u16_at 6 bytes) (u16_at 8 bytes))) l10 (none_at 8 _ uses_there)
          (none_from (zeros_fault 2 10 bytes) l12 ten
          (none_from (unless 12 (u32_at 12 bytes == page)) [] (none_at 12 _ (eq-eqb _ _ n)) refl))))));
      filled = ap (λ (x : List ℕ). contents ++ x) (tail ∙ ap zeros (sym pad)) ∙ sym after;
      clear = zeros_unfaulted (488 - used) (24 + used) bytes [] (append-nil (zeros (488 - used)) ∙ sym tail);
    }

-- the parts have no fault, so the page has none
whole : (kind count page p : ℕ) (contents bytes : List ℕ) → Spelled kind count page contents bytes
    → contents_fault p (u8_at 4 bytes) (u16_at 6 bytes) (u16_at 8 bytes) bytes ≡ None → fault_of page p bytes ≡ None
unfolding fault_of
whole kind count page p contents bytes s filled =
    let used : ℕ = u16_at 8 bytes in
    let clear : zeros_fault (488 - used) (24 + used) bytes ≡ None = ap (λ (n : ℕ). zeros_fault (488 - n) (24 + n) bytes) s.used_is ∙ s.clear in
    none_from (head_fault page bytes) _ s.head (none_from (contents_fault p (u8_at 4 bytes) (u16_at 6 bytes) used bytes) _ filled (none_from (zeros_fault (488 - used) (24 + used) bytes) [] clear refl))

pub some_or_none : (entries : List Entry) → (not (length entries == 0) || length (flat_map entry_bytes entries) == 0) ≡ true
some_or_none [] = refl
some_or_none (e ∷ entries) = or_left _ _ (not_from_false _ (ne_eqb (suc (length entries)) 0 (λ h. omega arith)))

abbrev pub leaf_of : Content → List Entry
leaf_of (Leaf entries) = entries
leaf_of other = []

abbrev pub child_of : Content → ℕ
child_of (Interior first xs) = first
child_of other = 0

abbrev pub separators_of : Content → List Separator
separators_of (Interior first xs) = xs
separators_of other = []

unfaulted : (page p : ℕ) (bytes : List ℕ) (x : Content) → length bytes ≡ 512 → page < 2 ^ 32 → x ≡ content_at bytes → is_page page p x ≡ true
    → page_bytes page (stamp_at 16 bytes) x ≡ bytes → fault_of page p bytes ≡ None
unfaulted page p bytes Free long small e is spelled =
    let s = spelled_page 0 0 page (stamp_at 16 bytes) [] bytes small (omega arith) (omega arith) (omega arith) refl refl spelled in
    whole 0 0 page p [] bytes s (ap (λ (j : ℕ). contents_fault p j (u16_at 6 bytes) (u16_at 8 bytes) bytes) s.kind_is)
unfaulted page p bytes (Leaf entries) long small e is spelled =
    let contents : List ℕ = flat_map entry_bytes entries in
    let p2 = and_parts (list_all is_entry entries && are_ascending (map (λ e. e.key) entries)) (is_between (least_used page) room (length contents)) is in
    let p1 = and_parts (list_all is_entry entries) (are_ascending (map (λ e. e.key) entries)) p2.0 in
    let few = (between (least_used page) room (length contents) p2.1).1 in
    let s = spelled_page 1 (length entries) page (stamp_at 16 bytes) contents bytes small (omega arith) (omega (arith, count_below entries, few)) few refl (and_from _ _ p2.1 (some_or_none entries)) spelled in
    let same : entries ≡ entries_from (u16_at 6 bytes) (drop 24 bytes) = ap leaf_of (e ∙ ap (λ (j : ℕ). content_from j (u16_at 6 bytes) (drop 24 bytes)) s.kind_is) in
    let P : List Entry → Type 0 = λ (es : List Entry). AreEntries es 24 (24 + length contents) None bytes in
    let are = subst P same (record { each = p1.0; order = leaf.ascend_from entries ∙ p1.1; spelled = s.filled; used = refl }) in
    let none = entries_unfaulted (u16_at 6 bytes) 24 (24 + length contents) None bytes long (omega (arith, few)) are in
    whole 1 (length entries) page p contents bytes s
    (ap (λ (j : ℕ). contents_fault p j (u16_at 6 bytes) (u16_at 8 bytes) bytes) s.kind_is ∙ ap (λ (n : ℕ). entries_fault (u16_at 6 bytes) 24 (24 + n) None bytes) s.used_is ∙ none)
unfaulted page p bytes (Interior first xs) long small e is spelled =
    let contents : List ℕ = u32 first ++ flat_map separator_bytes xs in
    let p3 = and_parts (list_all (is_separator p) xs && are_ascending (map (λ s. s.key) xs) && nat_lt first p) (is_between (least_separators page) 9 (length xs)) is in
    let p2 = and_parts (list_all (is_separator p) xs && are_ascending (map (λ s. s.key) xs)) (nat_lt first p) p3.0 in
    let p1 = and_parts (list_all (is_separator p) xs) (are_ascending (map (λ s. s.key) xs)) p2.0 in
    let few = (between (least_separators page) 9 (length xs) p3.1).1 in
    let size : length contents ≡ 4 + 49 * length xs = omega (arith, length_separators p xs p1.0) in
    let s = spelled_page 2 (length xs) page (stamp_at 16 bytes) contents bytes small (omega arith) (omega (arith, few)) (omega (arith, size, few)) p3.1 (eq-eqb _ _ size) spelled in
    let read : Interior first xs ≡ Interior (u32_at 0 (drop 24 bytes)) (separators_from (u16_at 6 bytes) (drop 4 (drop 24 bytes))) =
    e ∙ ap (λ (j : ℕ). content_from j (u16_at 6 bytes) (drop 24 bytes)) s.kind_is in
    let there : drop 4 (drop 24 bytes) ≡ drop 28 bytes = drop-drop 4 24 bytes in
    let same : xs ≡ separators_from (u16_at 6 bytes) (drop 28 bytes) = ap separators_of read ∙ ap (separators_from (u16_at 6 bytes)) there in
    let child : nat_lt (u32_at 24 bytes) p ≡ true = ap (λ (n : ℕ). nat_lt n p) (sym (u32_there 24 bytes) ∙ sym (ap child_of read)) ∙ p2.1 in
    let next : ℕ = 24 + length contents in
    let rest : flat_map separator_bytes xs ++ drop next bytes ≡ drop 28 bytes = ap (drop 4) s.filled ∙ there in
    let P : List Separator → Type 0 = λ (ys : List Separator). AreSeparators ys 28 next p None bytes in
    let are = subst P same (record { each = p1.0; order = interior.ascend_from xs ∙ p1.1; spelled = rest }) in
    let none = separators_unfaulted (u16_at 6 bytes) 28 next p None bytes long (omega (arith, few, s.count_is)) are in
    whole 2 (length xs) page p contents bytes s
    (ap (λ (j : ℕ). contents_fault p j (u16_at 6 bytes) (u16_at 8 bytes) bytes) s.kind_is
    ∙ none_from (unless 24 (nat_lt (u32_at 24 bytes) p)) _ (none_at 24 _ child) (none_from (separators_fault (u16_at 6 bytes) 28 p None bytes) [] none refl))

pub page_unfaulted : (page p : ℕ) (bytes : List ℕ) (x : Content) → length bytes ≡ 512 → page < 2 ^ 32 → read_page page p bytes ≡ Some x → fault_of page p bytes ≡ None
page_unfaulted page p bytes x long small e =
    let c : Content = content_at bytes in
    let given = given_if (is_page page p c && same_bytes (page_bytes page (stamp_at 16 bytes) c) bytes) c x e in
    let parts = and_parts (is_page page p c) (same_bytes (page_bytes page (stamp_at 16 bytes) c) bytes) given.0 in
    unfaulted page p bytes c long small refl parts.0 (same_is _ _ parts.1)

unread : (o : Option Content) → ((x : Content) → o ≡ Some x → ⊥) → o ≡ None
unread None h = refl
unread (Some x) h = absurd (h x refl)

pub page_refused : (page p place : ℕ) (bytes : List ℕ) → length bytes ≡ 512 → page < 2 ^ 32 → fault_of page p bytes ≡ Some place → read_page page p bytes ≡ None
page_refused page p place bytes long small bad =
    unread (read_page page p bytes) (λ x e. some_none (fault_of page p bytes) place (page_unfaulted page p bytes x long small e) bad)
  where
    some_none : (o : Option ℕ) (place : ℕ) → o ≡ None → o ≡ Some place → ⊥
    some_none o place e f = cc
