-- What a scrub finds and heals, part by part.
use Rattle.std.proofs.Common.{◌≡◌, inl, inr, ℕ, ◌+◌, List, [], ◌∷◌, ◌++◌, sym, ap, subst, arith}
use Rattle.std.specs.List.{AllByRecursion}
use Rattle.fsd_bytes.specs.declared.key.Key.{Key}
use Rattle.sector_disk.specs.declared.sector.Sector.TheVariants.{Damaged}
use Rattle.sector_disk.specs.Image.{sector_at}
use Rattle.fsd_files.specs.Disk.{Image}
use Rattle.fsd_files.specs.Kept.{IsWhole}
use Rattle.fsd_files.specs.Scrub.{CountsNeeds, Picks}

-- ---- what is found

-- what is found of some sectors, and behind them of more
pub picks_then : (i j : Image) (xs ys a b : List (Key × ℕ)) → Picks i j xs a → Picks i j ys b → Picks i j (xs ++ ys) (a ++ b)
picks_then i j [] ys a b first second = subst (λ (x : List (Key × ℕ)). Picks i j ys (x ++ b)) (sym first) second
picks_then i j (x ∷ xs) ys a b (inl (whole, rest)) second = inl (whole, picks_then i j xs ys a b rest second)
picks_then i j (x ∷ xs) ys a b (inr (more, is, hurt, rest)) second =
    inr (more ++ b, ap (λ (z : List (Key × ℕ)). z ++ b) is, hurt, picks_then i j xs ys more b rest second)

-- the same over more time, of sectors that only wear
pub picks_longer : (Stays : ℕ → Type 0) (h i j k : Image) → ((s : ℕ) → Stays s → IsWhole i s → IsWhole h s) → ((s : ℕ) → Stays s → sector_at j s ≡ Damaged → sector_at k s ≡ Damaged)
    → (xs found : List (Key × ℕ)) → AllByRecursion (λ x. Stays x.1) xs → Picks i j xs found → Picks h k xs found
picks_longer Stays h i j k back on [] found all picks = picks
picks_longer Stays h i j k back on (x ∷ xs) found all (inl (whole, rest)) = inl (back x.1 all.0 whole, picks_longer Stays h i j k back on xs found all.1 rest)
picks_longer Stays h i j k back on (x ∷ xs) found all (inr (more, is, hurt, rest)) =
    inr (more, is, on x.1 all.0 hurt, picks_longer Stays h i j k back on xs more all.1 rest)

-- ---- what is healed

pub counts_then : {A : Type 0} (Needs Well : A → Type 0) (xs ys : List A) (m n : ℕ) → CountsNeeds Needs Well xs m → CountsNeeds Needs Well ys n → CountsNeeds Needs Well (xs ++ ys) (m + n)
counts_then Needs Well [] ys m n first second = subst (CountsNeeds Needs Well ys) (let zero = first in let same : n ≡ m + n = omega (arith, zero) in same) second
counts_then Needs Well (x ∷ xs) ys m n (inl (well, rest)) second = inl (well, counts_then Needs Well xs ys m n rest second)
counts_then Needs Well (x ∷ xs) ys m n (inr (less, is, needs, rest)) second =
    inr (less + n, omega (arith, is), needs, counts_then Needs Well xs ys less n rest second)

-- the same by other facts that follow, each of the one that it is said of
pub counts_as : {A : Type 0} (Stays : A → Type 0) (Needs Well Needs' Well' : A → Type 0) → ((x : A) → Stays x → Needs x → Needs' x) → ((x : A) → Stays x → Well x → Well' x)
    → (xs : List A) (n : ℕ) → AllByRecursion Stays xs → CountsNeeds Needs Well xs n → CountsNeeds Needs' Well' xs n
counts_as Stays Needs Well Needs' Well' needs well [] n all counts = counts
counts_as Stays Needs Well Needs' Well' needs well (x ∷ xs) n all (inl (is, rest)) = inl (well x all.0 is, counts_as Stays Needs Well Needs' Well' needs well xs n all.1 rest)
counts_as Stays Needs Well Needs' Well' needs well (x ∷ xs) n all (inr (less, same, is, rest)) =
    inr (less, same, needs x all.0 is, counts_as Stays Needs Well Needs' Well' needs well xs less all.1 rest)
