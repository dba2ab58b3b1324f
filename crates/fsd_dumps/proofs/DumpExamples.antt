-- Dumps by example.
use Rattle.std.proofs.Common.{◌≡◌, ℕ, List, [], ◌∷◌, ◌++◌, take, replicate, Ok, Err, refl, codes}
use Rattle.fsd_bytes.specs.declared.key.Serial.{Serial}
use Rattle.fsd_bytes.specs.Keys.{key_of}
use Rattle.fsd_dumps.specs.Dump.{Dumped, dump_bytes}
use Rattle.fsd_dumps.specs.Front.{dumped_in}

abbrev pub serial_of : ℕ → ℕ → Serial
serial_of epoch count = record { epoch = epoch; count = count }

-- of a volume without versions
abbrev pub empty : List ℕ
empty = codes "CFSD" ++ (0 ∷ 0 ∷ 0 ∷ 0 ∷ 0 ∷ 0 ∷ 0 ∷ 0 ∷ 0 ∷ 0 ∷ 0 ∷ 0 ∷ codes "CFSE" ++ (0 ∷ 0 ∷ 0 ∷ 0 ∷ []))

no_version : dump_bytes (serial_of 0 0) [] ≡ empty
no_version = refl

-- of one with the version a!1, whose byte is an x: 38 bytes
abbrev pub x_in_a : Dumped
x_in_a = record { key = key_of (codes "a") 1; keep = 2; kind = 0; bytes = codes "x" }

abbrev pub one : List ℕ
one = codes "CFSD" ++ (0 ∷ 0 ∷ 0 ∷ 1 ∷ 0 ∷ 0 ∷ 0 ∷ 2 ∷ 0 ∷ 0 ∷ 0 ∷ 1 ∷ 1 ∷ codes "a" ++ (0 ∷ 0 ∷ 0 ∷ 1 ∷ 0 ∷ 2 ∷ 0 ∷ 0 ∷ 0 ∷ 0 ∷ 1 ∷ codes "x" ++ (codes "CFSE" ++ (0 ∷ 0 ∷ 0 ∷ 1 ∷ []))))

one_version : dump_bytes (serial_of 2 1) (x_in_a ∷ []) ≡ one
one_version = refl

read : dumped_in one ≡ Ok (x_in_a ∷ [])
read = refl

-- a byte lacks; a byte more is there; another byte stands for the kind, and in the end
cut : dumped_in (take 37 one) ≡ Err 37
cut = refl

longer : dumped_in (one ++ (0 ∷ [])) ≡ Err 38
longer = refl

other_kind : dumped_in (take 24 one ++ (2 ∷ 0 ∷ [])) ≡ Err 24
other_kind = refl

other_end : dumped_in (take 33 one ++ codes "X") ≡ Err 33
other_end = refl

-- two versions behind which there is no other: the last version of the last name is none of the first, and the place is
-- where it becomes that
abbrev last_key : List ℕ
last_key = codes "CFSD" ++ (0 ∷ 0 ∷ 0 ∷ 2 ∷ 0 ∷ 0 ∷ 0 ∷ 0 ∷ 0 ∷ 0 ∷ 0 ∷ 0 ∷ 40 ∷ replicate 40 122 ++ (255 ∷ 255 ∷ 255 ∷ 255 ∷ 0 ∷ []))

no_room : dumped_in last_key ≡ Err 60
no_room = refl

-- behind z!4294967295 no name of one byte comes
no_name_so_short : dumped_in (codes "CFSD" ++ (0 ∷ 0 ∷ 0 ∷ 2 ∷ 0 ∷ 0 ∷ 0 ∷ 0 ∷ 0 ∷ 0 ∷ 0 ∷ 0 ∷ 1 ∷ 122 ∷ 255 ∷ 255 ∷ 255 ∷ 255 ∷ 0 ∷ 0 ∷ 0 ∷ 0 ∷ 0 ∷ 0 ∷ 0 ∷ 1 ∷ 122 ∷ [])) ≡ Err 29
no_name_so_short = refl
