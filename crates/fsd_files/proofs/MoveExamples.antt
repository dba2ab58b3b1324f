-- Worked examples of versions that move to another name, computed.
use Rattle.std.proofs.Common.{◌≡◌, ℕ, [], ◌∷◌, map, refl, codes}
use Rattle.fsd_bytes.specs.declared.key.Key.{Key}
use Rattle.fsd_bytes.specs.Keys.{key_of}
use Rattle.fsd_files.specs.Files.{Change, File, Files, step}

abbrev a : ℕ → Key
a n = key_of (codes "a") n

abbrev b : ℕ → Key
b n = key_of (codes "b") n

abbrev m : ℕ → Key
m n = key_of (codes "m") n

abbrev file : ℕ → (keep : ℕ) → File
file text keep = record { bytes = text ∷ []; keep = keep }

-- two versions of a with keep 2, and one of m with keep 5
abbrev some : Files
some = (a 1, file 1 2) ∷ (a 2, file 2 2) ∷ (m 1, file 3 5) ∷ []

-- it takes the name's keep, and the oldest of three goes
from_another_name : step some (Change.Move (m 1) (codes "a")) ≡ (a 2, file 2 2) ∷ (a 3, file 3 2) ∷ []
from_another_name = refl

-- the old one is no version of the name any more: two are left, and none of them goes
to_its_own_name : step some (Change.Move (a 1) (codes "a")) ≡ (a 2, file 2 2) ∷ (a 3, file 1 2) ∷ (m 1, file 3 5) ∷ []
to_its_own_name = refl

the_highest_to_its_own_name : step some (Change.Move (a 2) (codes "a")) ≡ (a 1, file 1 2) ∷ (a 3, file 2 2) ∷ (m 1, file 3 5) ∷ []
the_highest_to_its_own_name = refl

-- of a name without a version it is the first, with its own keep
to_a_new_name : step some (Change.Move (m 1) (codes "b")) ≡ (a 1, file 1 2) ∷ (a 2, file 2 2) ∷ (b 1, file 3 5) ∷ []
to_a_new_name = refl

none_of_the_key : step some (Change.Move (m 2) (codes "a")) ≡ some
none_of_the_key = refl

-- the keep of the name's highest version counts, and 0 keeps all
keeps_all : map (λ e. e.0) (step ((a 1, file 1 1) ∷ (a 2, file 2 0) ∷ (m 1, file 3 5) ∷ []) (Change.Move (m 1) (codes "a"))) ≡ a 1 ∷ a 2 ∷ a 3 ∷ []
keeps_all = refl

-- where more than one is too many, one goes
one_at_most : map (λ e. e.0) (step ((a 1, file 1 3) ∷ (a 2, file 2 3) ∷ (a 3, file 3 1) ∷ (m 1, file 4 5) ∷ []) (Change.Move (m 1) (codes "a"))) ≡ a 2 ∷ a 3 ∷ a 4 ∷ []
one_at_most = refl
