-- Worked examples of tables, and of pages that are none, computed.
use Rattle.std.proofs.Common.{◌≡◌, ℕ, suc, List, [], ◌∷◌, ◌++◌, ◌+◌, map, Option, Some, None, refl}
use Rattle.std.specs.Prelude.{replicate, true, false, option_map, Bool}
use Rattle.volume_layout.specs.declared.kind.Kind.TheVariants.{Two}
use Rattle.fsd_bytes.specs.declared.key.Key.{Key}
use Rattle.fsd_bytes.specs.Keys.{key_of}
use Rattle.run_table.specs.declared.run.Run.{Run}
use Rattle.run_table.specs.RunTable.{run_of}
use Rattle.fsd_formats.specs.declared.entry.Entry.{Entry}
use Rattle.fsd_formats.specs.declared.page.Separator.{Separator}
use Rattle.fsd_formats.specs.NamePage.{Content, Free, Leaf, Interior, page_bytes}
use Rattle.fsd_table.specs.Breaks.{entry_clashes}
use Rattle.fsd_table.specs.Pages.{page_at}
use Rattle.fsd_table.specs.Table.{Telling, told_in, visits}

-- a name of 40 bytes, and an entry of 66 bytes
abbrev long : ℕ → Key
long c = key_of (replicate 40 c) 1

abbrev entry_in : Key → List Run → Entry
entry_in key runs = record { key = key; keep = 2; serial = record { epoch = 2; count = 1 }; length = 0; runs = runs }

abbrev entry : ℕ → Entry
entry c = entry_in (long c) (run_of (900 + c) 1 ∷ [])

abbrev way : Key → ℕ → Separator
way key child = record { key = key; child = child }

-- the first pages, and free ones up to sixteen
abbrev pages : List Content → List (List ℕ)
pages some = numbered 0 (some ++ replicate 13 Free)
  where
    numbered : ℕ → List Content → List (List ℕ)
    numbered k [] = []
    numbered k (x ∷ xs) = page_bytes k (record { epoch = 1; number = 0 }) x ∷ numbered (suc k) xs

abbrev low : Content
low = Leaf (entry 97 ∷ entry 98 ∷ entry 99 ∷ [])

abbrev high : Content
high = Leaf (entry 109 ∷ entry 110 ∷ entry 111 ∷ [])

abbrev reached : List (List ℕ) → Option ℕ
reached some = option_map (λ (t : Telling). t.reached) (told_in some)

-- one leaf, or a page that leads to two
empty_leaf : reached (pages (Leaf [] ∷ Free ∷ Free ∷ [])) ≡ Some 1
unfolding told_in visits page_at
empty_leaf = refl

two_leaves : told_in (pages (Interior 1 (way (long 109) 2 ∷ []) ∷ low ∷ high ∷ [])) ≡ Some (record { entries = map entry (97 ∷ 98 ∷ 99 ∷ 109 ∷ 110 ∷ 111 ∷ []); reached = 3 })
unfolding told_in visits page_at
two_leaves = refl

-- a separator need not be a present key
other_separator : reached (pages (Interior 1 (way (long 104) 2 ∷ []) ∷ low ∷ high ∷ [])) ≡ Some 3
unfolding told_in visits page_at
other_separator = refl

-- ---- what is no table

free_root : reached (pages (Free ∷ low ∷ high ∷ [])) ≡ None
unfolding told_in visits page_at
free_root = refl

leads_back : reached (pages (Interior 1 (way (long 109) 0 ∷ []) ∷ low ∷ high ∷ [])) ≡ None
unfolding told_in visits page_at
leads_back = refl

leads_twice : reached (pages (Interior 1 (way (long 109) 1 ∷ []) ∷ low ∷ high ∷ [])) ≡ None
unfolding told_in visits page_at
leads_twice = refl

leads_to_a_free_page : reached (pages (Interior 1 (way (long 109) 3 ∷ []) ∷ low ∷ high ∷ [])) ≡ None
unfolding told_in visits page_at
leads_to_a_free_page = refl

leads_past_the_last : reached (pages (Interior 1 (way (long 109) 16 ∷ []) ∷ low ∷ high ∷ [])) ≡ None
unfolding told_in visits page_at
leads_past_the_last = refl

keys_below : reached (pages (Interior 1 (way (long 110) 2 ∷ []) ∷ low ∷ high ∷ [])) ≡ None
unfolding told_in visits page_at
keys_below = refl

turned : reached (pages (Interior 2 (way (long 109) 1 ∷ []) ∷ low ∷ high ∷ [])) ≡ None
unfolding told_in visits page_at
turned = refl

-- two entries of 66 bytes are fewer than 190
small_leaf : reached (pages (Interior 1 (way (long 109) 2 ∷ []) ∷ Leaf (entry 97 ∷ entry 98 ∷ []) ∷ high ∷ [])) ≡ None
unfolding told_in visits page_at
small_leaf = refl

-- pages as deep are of one kind, and a page other than the root leads to five at least
other_kinds : reached (pages (Interior 1 (way (long 109) 2 ∷ []) ∷ low ∷ Interior 3 (way (long 110) 4 ∷ []) ∷ [])) ≡ None
unfolding told_in visits page_at
other_kinds = refl

-- ---- the sectors of entries

-- on a volume whose data area is 921 to 2047
abbrev clashes_with : List Entry → Entry → Bool
clashes_with = entry_clashes (record { sectors = 2048; third = 256; pages = 64; kind = Two; most = 0 })

abbrev first_three : List Entry
first_three = entry_in (long 97) (run_of 921 2 ∷ []) ∷ entry_in (long 98) (run_of 923 1 ∷ run_of 922 1 ∷ []) ∷ entry_in (long 99) (run_of 930 1 ∷ run_of 930 1 ∷ []) ∷ []

-- the later key has the sector of an earlier one, and not the other way round
clashes : map (clashes_with first_three) first_three ≡ false ∷ true ∷ true ∷ []
clashes = refl

outside : map (λ (r : Run). clashes_with [] (entry_in (long 97) (r ∷ []))) (run_of 920 1 ∷ run_of 921 1 ∷ run_of 2047 1 ∷ run_of 2047 2 ∷ []) ≡ true ∷ false ∷ false ∷ true ∷ []
outside = refl
