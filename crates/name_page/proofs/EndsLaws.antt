-- Keys that ascend stand between two others where the first and the last do.
use Rattle.std.proofs.Common.{◌≡◌, ℕ, zero, suc, ◌-◌, ◌<◌, ◌^◌, Bool, true, false, ◌&&◌, List, [], ◌∷◌, length, Option, Some, None, refl, sym, ap, subst, ◌∙◌, arith}
use Rattle.std.specs.Prelude.{slice_get, option_map}
use Rattle.std.proofs.lemmas.Bool.{and_parts}
use Rattle.std.proofs.lemmas.List.{length-map}
use Rattle.std.proofs.lemmas.Option.{slice_get-map, same_Some}
use Rattle.fsd_bytes.specs.Bytes.{u32_at}
use Rattle.fsd_bytes.specs.declared.key.Key.{Key}
use Rattle.fsd_bytes.specs.Keys.{key_lt}
use Rattle.fsd_formats.specs.declared.entry.Entry.{Entry}
use Rattle.fsd_formats.specs.declared.page.Separator.{Separator}
use Rattle.fsd_formats.specs.NamePage.{Content, Free, Leaf, Interior, are_ascending}
use Rattle.fsd_table.specs.Pages.{not_below, below, keys_fit, entry_keys, separator_keys, entries_of}
use Rattle.fsd_table.proofs.BoundLaws.{ascend_skip}
use Rattle.fsd_table.proofs.KeyLaws.{lt_is_le, not_below_more, below_less}
use Rattle.fsd_table.proofs.PageLaws.{read_is_page, leaf_ascends, interior_ascends}
use Rattle.name_page.specs.Reading.{content_in, entries_read, separators_of, separators_in}

-- ---- the keys of a page ascend

entries_by : (b : List ℕ) (o : Option Content) → content_in b ≡ o → are_ascending (entry_keys (entries_of o)) ≡ true
unfolding content_in
entries_by b None e = refl
entries_by b (Some Free) e = refl
entries_by b (Some (Interior first separators)) e = refl
entries_by b (Some (Leaf entries)) e = leaf_ascends (u32_at 12 b) (2 ^ 32) entries (read_is_page (u32_at 12 b) (2 ^ 32) b (Leaf entries) e)

pub entries_ascend : (b : List ℕ) → are_ascending (entry_keys (entries_read b)) ≡ true
unfolding entries_read
entries_ascend b = entries_by b (content_in b) refl

separators_by : (b : List ℕ) (o : Option Content) → content_in b ≡ o → are_ascending (separator_keys (separators_of o)) ≡ true
unfolding content_in
separators_by b None e = refl
separators_by b (Some Free) e = refl
separators_by b (Some (Leaf entries)) e = refl
separators_by b (Some (Interior first separators)) e = interior_ascends (u32_at 12 b) (2 ^ 32) first separators (read_is_page (u32_at 12 b) (2 ^ 32) b (Interior first separators) e)

pub separators_ascend : (b : List ℕ) → are_ascending (separator_keys (separators_in b)) ≡ true
unfolding separators_in
separators_ascend b = separators_by b (content_in b) refl

-- ---- the first and the last

last_greater : (a k : Key) (ks : List Key) (last : Key) → are_ascending (a ∷ k ∷ ks) ≡ true → slice_get (k ∷ ks) (length ks) ≡ Some last → key_lt a last ≡ true
last_greater a k [] last asc at = subst (λ (x : Key). key_lt a x ≡ true) (same_Some k last at) (and_parts (key_lt a k) true asc).0
last_greater a k (m ∷ ks) last asc at = last_greater a m ks last (ascend_skip a k (m ∷ ks) asc) at

both : (na ba nk bl : Bool) → (na ≡ true → nk ≡ true) → (bl ≡ true → ba ≡ true) → ((na && ba) && (nk && bl)) ≡ (na && bl)
both false ba nk bl f g = refl
both true true true bl f g = refl
both true true false bl f g = absurd (let no : false ≡ true = f refl in cc)
both true false nk true f g = absurd (let no : false ≡ true = g refl in cc)
both true false nk false f g = refl

alone : (na ba : Bool) → ((na && ba) && true) ≡ (na && ba)
alone true true = refl
alone true false = refl
alone false ba = refl

ends_tell : (low high : Option Key) (a : Key) (ks : List Key) (last : Key) → are_ascending (a ∷ ks) ≡ true → slice_get (a ∷ ks) (length ks) ≡ Some last → keys_fit low high (a ∷ ks) ≡ (not_below low a && below high last)
ends_tell low high a [] last asc at = alone (not_below low a) (below high a) ∙ ap (λ (k : Key). not_below low a && below high k) (same_Some a last at)
ends_tell low high a (k ∷ ks) last asc at =
    let parts = and_parts (key_lt a k) (are_ascending (k ∷ ks)) asc in
    ap (λ (b : Bool). (not_below low a && below high a) && b) (ends_tell low high k ks last parts.1 at)
    ∙ both (not_below low a) (below high a) (not_below low k) (below high last)
    (λ h. not_below_more low a k h (lt_is_le a k parts.0))
    (λ h. below_less high last a h (last_greater a k ks last asc at))

keys_told : (low high : Option Key) (keys : List Key) (n : ℕ) (first last : Key) → are_ascending keys ≡ true → length keys ≡ suc n → slice_get keys 0 ≡ Some first → slice_get keys n ≡ Some last
    → keys_fit low high keys ≡ (not_below low first && below high last)
keys_told low high [] n first last asc long at0 at = absurd (omega (arith, long))
keys_told low high (a ∷ ks) n first last asc long at0 at =
    let count : n ≡ length ks = omega (arith, long) in
    ends_tell low high a ks last asc (ap (slice_get (a ∷ ks)) (sym count) ∙ at) ∙ ap (λ (k : Key). not_below low k && below high last) (same_Some a first at0)

less_one : (n count : ℕ) → n ≡ count - 1 → 0 < count → count ≡ suc n
less_one n count e some = omega arith

pub entries_told : (low high : Option Key) (entries : List Entry) (n : ℕ) (first last : Entry) → are_ascending (entry_keys entries) ≡ true → 0 < length entries → n ≡ length entries - 1
    → slice_get entries 0 ≡ Some first → slice_get entries n ≡ Some last → keys_fit low high (entry_keys entries) ≡ (not_below low first.key && below high last.key)
entries_told low high entries n first last asc some count at0 at =
    let key : Entry → Key = λ e. e.key in
    keys_told low high (entry_keys entries) n first.key last.key asc (length-map entries key ∙ less_one n (length entries) count some)
    (slice_get-map key entries 0 ∙ ap (option_map key) at0) (slice_get-map key entries n ∙ ap (option_map key) at)

pub separators_told : (low high : Option Key) (xs : List Separator) (n : ℕ) (first last : Separator) → are_ascending (separator_keys xs) ≡ true → 0 < length xs → n ≡ length xs - 1
    → slice_get xs 0 ≡ Some first → slice_get xs n ≡ Some last → keys_fit low high (separator_keys xs) ≡ (not_below low first.key && below high last.key)
separators_told low high xs n first last asc some count at0 at =
    let key : Separator → Key = λ s. s.key in
    keys_told low high (separator_keys xs) n first.key last.key asc (length-map xs key ∙ less_one n (length xs) count some)
    (slice_get-map key xs 0 ∙ ap (option_map key) at0) (slice_get-map key xs n ∙ ap (option_map key) at)

-- at each place before the end something stands
pub some_there : {A : Type 0} (xs : List A) (i : ℕ) → i < length xs → (x : A) × (slice_get xs i ≡ Some x)
some_there [] i h = absurd (omega (arith, h))
some_there (x ∷ xs) zero h = (x, refl)
some_there (x ∷ xs) (suc i) h = some_there xs i (omega (arith, h))
