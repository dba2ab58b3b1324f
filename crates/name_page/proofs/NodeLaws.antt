-- What the head of a page says of what it has.
use Rattle.std.proofs.Common.{◌≡◌, ◌≢◌, ℕ, zero, suc, ◌≤◌, ◌<◌, ◌^◌, Bool, true, false, cond, ◌&&◌, List, length, drop, Option, Some, None, refl, sym, ap, subst, ◌∙◌, arith}
use Rattle.std.specs.Prelude.{slice_get, option_and_then, IsSome}
use Rattle.fsd_bytes.specs.Bytes.{u8_at, u16_at, u32_at, same_bytes}
use Rattle.fsd_bytes.proofs.FieldLaws.{u32_there}
use Rattle.fsd_formats.specs.declared.entry.Entry.{Entry}
use Rattle.fsd_formats.specs.declared.page.Separator.{Separator}
use Rattle.fsd_formats.specs.NamePage.{Content, Free, Leaf, Interior, content_from, entries_from, separators_from, is_page, page_bytes, stamp_at, read_page}
use Rattle.fsd_table.specs.Pages.{page_at}
use Rattle.name_page.specs.Reading.{content_in, entries_read, separators_in}
use Rattle.name_page.proofs.ContentLaws.{content_is, entries_are, separators_are}
use Rattle.name_page.proofs.PageLaws.{count_entries, content_at}
use Rattle.std.proofs.lemmas.Option.{slice_get_past, same_Some}
use Rattle.name_page.proofs.SeparatorLaws.{count_separators}

some_if : (b : Bool) (x y : Content) → cond b (Some x) None ≡ Some y → x ≡ y
some_if true x y e = cc
some_if false x y e = absurd cc

head_by : (bytes : List ℕ) (x : Content) → content_in bytes ≡ Some x → content_at bytes ≡ x
unfolding content_in
head_by bytes x e =
    let y : Content = content_at bytes in
    some_if (is_page (u32_at 12 bytes) (2 ^ 32) y && same_bytes (page_bytes (u32_at 12 bytes) (stamp_at 16 bytes) y) bytes) y x e

some_of : (bytes : List ℕ) (o : Option Content) → content_in bytes ≡ o → IsSome o → content_in bytes ≡ Some (content_at bytes)
some_of bytes None e h = absurd cc
some_of bytes (Some x) e h = e ∙ ap Some (sym (head_by bytes x e))

-- what the bytes have, by their head
pub by_head : (bytes : List ℕ) → IsSome (content_in bytes) → content_in bytes ≡ Some (content_at bytes)
by_head bytes h = some_of bytes (content_in bytes) refl h

at_kind : (bytes : List ℕ) (kind : ℕ) → IsSome (content_in bytes) → u8_at 4 bytes ≡ kind → content_in bytes ≡ Some (content_from kind (u16_at 6 bytes) (drop 24 bytes))
at_kind bytes kind h e = by_head bytes h ∙ ap (λ (k : ℕ). Some (content_from k (u16_at 6 bytes) (drop 24 bytes))) e

pub free_is : (bytes : List ℕ) → IsSome (content_in bytes) → u8_at 4 bytes ≡ 0 → content_in bytes ≡ Some Free
free_is bytes h e = at_kind bytes 0 h e

pub leaf_is : (bytes : List ℕ) → IsSome (content_in bytes) → u8_at 4 bytes ≡ 1 → (content_in bytes ≡ Some (Leaf (entries_read bytes))) × (u16_at 6 bytes ≡ length (entries_read bytes))
leaf_is bytes h e =
    let is = at_kind bytes 1 h e in
    let same = entries_are bytes (entries_from (u16_at 6 bytes) (drop 24 bytes)) is in (
      is ∙ ap (λ (xs : List Entry). Some (Leaf xs)) (sym same),
      sym (ap length same ∙ count_entries (u16_at 6 bytes) (drop 24 bytes)),
    )

pub leaf_entries : (bytes : List ℕ) → IsSome (content_in bytes) → u8_at 4 bytes ≡ 1 → entries_read bytes ≡ entries_from (u16_at 6 bytes) (drop 24 bytes)
leaf_entries bytes h e = entries_are bytes (entries_from (u16_at 6 bytes) (drop 24 bytes)) (at_kind bytes 1 h e)

other_kind : (kind : ℕ) → kind ≢ 0 → kind ≢ 1 → (k : ℕ) × (kind ≡ suc (suc k))
other_kind zero a b = absurd (a refl)
other_kind (suc zero) a b = absurd (b refl)
other_kind (suc (suc k)) a b = (k, refl)

pub interior_is : (bytes : List ℕ) → IsSome (content_in bytes) → u8_at 4 bytes ≢ 0 → u8_at 4 bytes ≢ 1
    → (content_in bytes ≡ Some (Interior (u32_at 24 bytes) (separators_in bytes))) × (u16_at 6 bytes ≡ length (separators_in bytes))
interior_is bytes h a b =
    let o = other_kind (u8_at 4 bytes) a b in
    let is = at_kind bytes (suc (suc o.0)) h o.1 in
    let same = separators_are bytes (u32_at 0 (drop 24 bytes)) (separators_from (u16_at 6 bytes) (drop 4 (drop 24 bytes))) is in (
      is ∙ ap (λ (n : ℕ). Some (Interior n (separators_from (u16_at 6 bytes) (drop 4 (drop 24 bytes))))) (sym (u32_there 24 bytes)) ∙ ap (λ (xs : List Separator). Some (Interior (u32_at 24 bytes) xs)) (sym same),
      sym (ap length same ∙ count_separators (u16_at 6 bytes) (drop 4 (drop 24 bytes))),
    )

pub interior_separators : (bytes : List ℕ) → IsSome (content_in bytes) → u8_at 4 bytes ≢ 0 → u8_at 4 bytes ≢ 1 → separators_in bytes ≡ separators_from (u16_at 6 bytes) (drop 4 (drop 24 bytes))
interior_separators bytes h a b =
    let o = other_kind (u8_at 4 bytes) a b in
    separators_are bytes (u32_at 0 (drop 24 bytes)) (separators_from (u16_at 6 bytes) (drop 4 (drop 24 bytes))) (at_kind bytes (suc (suc o.0)) h o.1)

-- ---- a page of the table

weaken : (n : ℕ) → n < 2 ^ 32 → n ≤ 2 ^ 32
weaken n h = omega arith

seen_by : (pages : List (List ℕ)) (page : ℕ) (bytes : List ℕ) (o : Option (List ℕ)) → page < 2 ^ 32 → length pages < 2 ^ 32 → o ≡ Some bytes → IsSome (option_and_then (read_page page (length pages)) o)
    → option_and_then (read_page page (length pages)) o ≡ content_in bytes
seen_by pages page bytes None small few e h = absurd cc
seen_by pages page bytes (Some b) small few e h =
    let same : b ≡ bytes = same_Some b bytes e in
    let at : read_page page (length pages) b ≡ read_page page (length pages) bytes = ap (read_page page (length pages)) same in
    at ∙ sym (in_by (read_page page (length pages) bytes) refl (subst (λ (o : Option Content). IsSome o) at h))
  where
    in_by : (o : Option Content) → read_page page (length pages) bytes ≡ o → IsSome o → content_in bytes ≡ o
    in_by None e h = absurd cc
    in_by (Some x) e h = content_is page (length pages) bytes x small (weaken (length pages) few) e

-- the bytes of a page that is accepted have what the page has
pub seen : (pages : List (List ℕ)) (page : ℕ) (bytes : List ℕ) → page < 2 ^ 32 → length pages < 2 ^ 32 → slice_get pages page ≡ Some bytes → IsSome (page_at pages page) → page_at pages page ≡ content_in bytes
unfolding page_at
seen pages page bytes small few e h = seen_by pages page bytes (slice_get pages page) small few e h

pub seen_some : (pages : List (List ℕ)) (page : ℕ) (bytes : List ℕ) → page < 2 ^ 32 → length pages < 2 ^ 32 → slice_get pages page ≡ Some bytes → IsSome (page_at pages page) → IsSome (content_in bytes)
seen_some pages page bytes small few e h = subst (λ (o : Option Content). IsSome o) (seen pages page bytes small few e h) h

-- a page past the end is none
pub past_end : (pages : List (List ℕ)) (page : ℕ) → length pages ≤ page → page_at pages page ≡ None
unfolding page_at
past_end pages page h = ap (option_and_then (read_page page (length pages))) (slice_get_past pages page h)
