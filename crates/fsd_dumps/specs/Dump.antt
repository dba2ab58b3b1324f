-- Dumps: versions of files, with their bytes, as one text.
use Rattle.std.specs.Prelude.{◌≡◌, ℕ, Bool, true, ◌&&◌, List, [], ◌∷◌, ◌++◌, length, map, take, Option, Some, None, ◌≤◌, nat_le, ◌==◌, codes}
use Rattle.std.specs.List.{flat_map}
use Rattle.fsd_bytes.specs.Bytes.{u8, u16, u32}
use Rattle.fsd_bytes.specs.declared.key.Key.{Key}
use Rattle.fsd_bytes.specs.declared.key.Serial.{Serial}
use Rattle.fsd_bytes.specs.Keys.{is_key, key_lt, max_u32}
use Rattle.fsd_formats.specs.NamePage.{max_keep, max_length}

-- a version in a dump
pub record Dumped : Type 0 where
  pub key : Key
  pub keep : ℕ
  pub kind : ℕ
  pub bytes : List ℕ

-- ---- the text

abbrev pub fields_bytes : Dumped → List ℕ
fields_bytes x = u32 x.key.version ++ (u16 x.keep ++ (u8 x.kind ++ u32 (length x.bytes)))

abbrev pub item_bytes : Dumped → List ℕ
item_bytes x = u8 (length x.key.name) ++ (x.key.name ++ (fields_bytes x ++ x.bytes))

-- what stands in front of its own bytes
abbrev pub front_bytes : Dumped → List ℕ
front_bytes x = u8 (length x.key.name) ++ (x.key.name ++ fields_bytes x)

abbrev pub head_bytes : (count : ℕ) → Serial → List ℕ
head_bytes count latest = codes "CFSD" ++ (u32 count ++ (u32 latest.epoch ++ u32 latest.count))

abbrev pub end_bytes : (count : ℕ) → List ℕ
end_bytes count = codes "CFSE" ++ u32 count

-- some versions of a volume, and a serial that is told
abbrev pub dump_bytes : Serial → List Dumped → List ℕ
dump_bytes latest items = head_bytes (length items) latest ++ (flat_map item_bytes items ++ end_bytes (length items))

-- its parts as they are said one after another: the head, each version, and the end
abbrev pub dump_parts : Serial → List Dumped → List (List ℕ)
dump_parts latest items = head_bytes (length items) latest ∷ (map item_bytes items ++ end_bytes (length items) ∷ [])

-- ---- what may stand in a dump

-- a version that was put
abbrev pub is_kind : ℕ → Bool
is_kind kind = kind == 0

abbrev pub is_dumped : Dumped → Bool
is_dumped x = is_key x.key && nat_le x.key.version max_u32 && nat_le x.keep max_keep && is_kind x.kind && nat_le (length x.bytes) max_length

abbrev pub is_behind : Option Key → Key → Bool
is_behind None key = true
is_behind (Some last) key = key_lt last key

-- in ascending order of their keys, all behind the last one
abbrev pub are_behind : (last : Option Key) → List Dumped → Bool
are_behind last [] = true
are_behind last (x ∷ items) = is_dumped x && is_behind last x.key && are_behind (Some x.key) items

abbrev pub are_dumped : List Dumped → Bool
are_dumped items = nat_le (length items) max_u32 && are_behind None items

-- ---- which bytes are a dump, and which begin one

-- the bytes are the dump of these versions, with any serial
abbrev pub IsDumpOf : List Dumped → List ℕ → Type 0
IsDumpOf items bytes = (are_dumped items ≡ true) × ((latest : Serial) × (bytes ≡ dump_bytes latest items))

abbrev pub IsDump : List ℕ → Type 0
IsDump bytes = (items : List Dumped) × IsDumpOf items bytes

abbrev pub BeginsDump : List ℕ → Type 0
BeginsDump front = (more : List ℕ) × IsDump (front ++ more)

-- how long the longest part of the bytes, from the front, is that begins some dump
pub record IsDumpPlace (place : ℕ) (bytes : List ℕ) : Type 0 where
  pub within : place ≤ length bytes
  pub begins : BeginsDump (take place bytes)
  pub most : (m : ℕ) → m ≤ length bytes → BeginsDump (take m bytes) → m ≤ place

-- the bytes are no dump, from this place on
pub record IsNoDump (place : ℕ) (bytes : List ℕ) : Type 0 where
  pub none : IsDump bytes → ⊥
  pub until : IsDumpPlace place bytes
