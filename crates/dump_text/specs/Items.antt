-- What is read of a dump: where the bytes of each version lie in it.
use Rattle.std.specs.Prelude.{◌≡◌, ℕ, ◌+◌, ◌-◌, ◌≤◌, ⊤, List, length, take, drop, Result, Ok, Err}
use Rattle.fsd_dumps.specs.Dump.{Dumped, IsNoDump}
use Rattle.fsd_dumps.specs.Front.{ItemRead, ItemsRead}
use Rattle.dump_text.specs.declared.item.Item.{Item}
use Rattle.dump_text.specs.declared.item.DumpRead.{DumpRead}
use Rattle.dump_text.specs.declared.item.DumpRead.TheVariants.{Bad, Memory}

-- the version that is meant, of these bytes
abbrev pub dumped : List ℕ → Item → Dumped
dumped bytes x = record { key = x.key; keep = x.keep; kind = x.kind; bytes = take x.length (drop x.start bytes) }

-- it is read from a place on, and what follows it is there
pub record ReadsItem (x : Item) (place : ℕ) (bytes : List ℕ) (read : ItemRead) : Type 0 where
  pub behind : place ≤ x.start + x.length
  pub within : x.start + x.length ≤ length bytes
  pub read_as : read ≡ Ok (dumped bytes x, drop (x.start + x.length) bytes)

-- what is told as bad from a place on, is so
pub record IsBadAt {A : Type 0} (place n : ℕ) (bytes : List ℕ) (read : Result A ℕ) : Type 0 where
  pub within : n ≤ length bytes
  pub bad : read ≡ Err (n - place)
  pub behind : place ≤ n

-- why nothing is read from a place on
abbrev pub IsBadBehind : {A : Type 0} → (place : ℕ) → List ℕ → DumpRead → Result A ℕ → Type 0
IsBadBehind place bytes (Bad n) read = IsBadAt place n bytes read
IsBadBehind place bytes Memory read = ⊤

-- unless memory was refused, no dump is read
abbrev pub IsBad : DumpRead → ItemsRead → Type 0
IsBad (Bad place) read = read ≡ Err place
IsBad Memory read = ⊤

-- why the bytes are not read
abbrev pub IsUnread : List ℕ → DumpRead → Type 0
IsUnread bytes (Bad place) = IsNoDump place bytes
IsUnread bytes Memory = ⊤
