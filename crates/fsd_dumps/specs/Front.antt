-- Dumps, read from the front: each version behind the ones before it.
use Rattle.std.specs.Prelude.{ℕ, zero, suc, ◌+◌, ◌-◌, min, Bool, true, not, ◌&&◌, List, [], ◌∷◌, ◌++◌, length, take, drop, replicate, Option, Some, None, Result, Ok, Err, nat_le, nat_lt, ◌==◌, slice_index_or, if◌then◌else◌, codes}
use Rattle.std.specs.Int.{w16, w32, from_be_bytes}
use Rattle.fsd_bytes.specs.Bytes.{u8_at, same_bytes}
use Rattle.fsd_bytes.specs.declared.key.Key.{Key}
use Rattle.fsd_bytes.specs.Keys.{key_of, max_u32}
use Rattle.fsd_bytes.specs.Names.{is_name, max_name_len}
use Rattle.fsd_formats.specs.NamePage.{max_keep, max_length}
use Rattle.fsd_dumps.specs.Dump.{Dumped, is_kind, is_behind, end_bytes}

-- ---- the number of some first bytes: each that lacks counts as this one

abbrev pub first_16 : (lacking : ℕ) → List ℕ → ℕ
first_16 lacking bytes = from_be_bytes w16 (slice_index_or bytes 0 lacking ∷ slice_index_or bytes 1 lacking ∷ [])

abbrev pub first_32 : (lacking : ℕ) → List ℕ → ℕ
first_32 lacking bytes =
    from_be_bytes w32 (slice_index_or bytes 0 lacking ∷ slice_index_or bytes 1 lacking ∷ slice_index_or bytes 2 lacking ∷ slice_index_or bytes 3 lacking ∷ [])

-- the least number that begins so, and the greatest
abbrev pub number_16 : List ℕ → ℕ
number_16 = first_16 0

abbrev pub number_32 : List ℕ → ℕ
number_32 = first_32 0

abbrev pub greatest_32 : List ℕ → ℕ
greatest_32 = first_32 255

-- ---- the keys that some first bytes begin

-- the greatest byte of a name
abbrev pub last_byte : ℕ
last_byte = 122

-- the greatest name of n bytes that begins so
abbrev pub greatest_name : (n : ℕ) → List ℕ → List ℕ
greatest_name zero bytes = []
greatest_name (suc n) [] = last_byte ∷ greatest_name n []
greatest_name (suc n) (b ∷ bytes) = b ∷ greatest_name n bytes

-- the last name of all
abbrev pub last_name : List ℕ
last_name = replicate max_name_len last_byte

-- the greatest version of a name behind which there are so many keys more
abbrev pub most_version : (behind : ℕ) → List ℕ → ℕ
most_version behind name = max_u32 - (if same_bytes name last_name then behind else 0)

-- the bytes begin a version behind the last one, with so many more behind it: the greatest key that they may spell comes
-- behind that one, and each number is no greater than it may be
abbrev pub may_follow : Option Key → (behind : ℕ) → (name more : List ℕ) → Bool
may_follow last behind name more =
    let top = min (greatest_32 more) (most_version behind name) in
    is_name name && nat_le 1 top && nat_le (number_32 more) top && is_behind last (key_of name top)
    && nat_le (number_16 (drop 4 more)) max_keep && is_kind (u8_at 6 more) && nat_le (number_32 (drop 7 more)) max_length

-- the fields of a version, or some of their first bytes
abbrev pub may_begin : Option Key → (behind : ℕ) → List ℕ → Bool
may_begin last behind [] = true
may_begin last behind (n ∷ bytes) = may_follow last behind (greatest_name n bytes) (drop n bytes)

-- ---- reading

-- how many of the first n bytes, at most, may begin a version
abbrev pub most_begun : Option Key → (behind : ℕ) → List ℕ → (n : ℕ) → ℕ
most_begun last behind bytes zero = zero
most_begun last behind bytes (suc n) = if may_begin last behind (take (suc n) bytes) then suc n else most_begun last behind bytes n

-- the bytes that the fields of a version have behind its name
abbrev pub fields_len : ℕ
fields_len = 11

abbrev pub item_of : (name fields bytes : List ℕ) → Dumped
item_of name fields bytes = record { key = key_of name (number_32 fields); keep = number_16 (drop 4 fields); kind = u8_at 6 fields; bytes = bytes }

-- of a version: it, and the bytes behind it; or how many first bytes begin one
abbrev pub ItemRead : Type 0
ItemRead = Result (Dumped × List ℕ) ℕ

abbrev pub item_named : (name rest : List ℕ) → Dumped × List ℕ
item_named name rest =
    let long = number_32 (drop 7 rest) in
    (item_of name rest (take long (drop fields_len rest)), drop long (drop fields_len rest))

abbrev pub item_at : Option Key → (behind : ℕ) → List ℕ → ItemRead
item_at last behind [] = Err 0
item_at last behind (n ∷ bytes) =
    let head = n ∷ take (n + fields_len) bytes in
    if not (may_begin last behind head) then Err (most_begun last behind head (length head))
    else (if nat_lt (length (drop n bytes)) (fields_len + number_32 (drop 7 (drop n bytes))) then Err (1 + length bytes)
    else Ok (item_named (take n bytes) (drop n bytes)))

-- versions, or how many first bytes begin such
abbrev pub ItemsRead : Type 0
ItemsRead = Result (List Dumped) ℕ

abbrev pub with_front : List Dumped → (place : ℕ) → ItemsRead → ItemsRead
with_front front place (Ok items) = Ok (front ++ items)
with_front front place (Err n) = Err (place + n)

abbrev pub then_more : (total : ℕ) → (Dumped × List ℕ → ItemsRead) → ItemRead → ItemsRead
then_more total more (Err n) = Err n
then_more total more (Ok x) = with_front (x.0 ∷ []) (total - length x.1) (more x)

-- how many bytes two lists have in common from the front
abbrev pub common : List ℕ → List ℕ → ℕ
common [] ys = 0
common (x ∷ xs) [] = 0
common (x ∷ xs) (y ∷ ys) = if x == y then suc (common xs ys) else 0

-- just the end of a dump of `count`
abbrev pub only_end : (count : ℕ) → List ℕ → ItemsRead
only_end count bytes = if same_bytes bytes (end_bytes count) then Ok [] else Err (common (end_bytes count) bytes)

-- so many versions behind the last one, and the end
abbrev pub rest_of : (count left : ℕ) → Option Key → List ℕ → ItemsRead
rest_of count zero last bytes = only_end count bytes
rest_of count (suc left) last bytes = then_more (length bytes) (λ x. rest_of count left (Some x.0.key) x.1) (item_at last left bytes)

abbrev pub head_len : ℕ
head_len = 16

-- the versions of a dump, or how many first bytes begin one
abbrev pub dumped_in : List ℕ → ItemsRead
dumped_in bytes =
    let same = common (codes "CFSD") bytes in
    let count = number_32 (drop 4 bytes) in
    if nat_lt same 4 then Err same
    else (if nat_lt (length bytes) head_len then Err (length bytes)
    else with_front [] head_len (rest_of count count None (drop head_len bytes)))
