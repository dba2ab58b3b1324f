-- The place of a version's leader, and the leaders of others.
use Rattle.std.proofs.Common.{◌≡◌, ℕ, ◌≤◌, true, List, [], ◌∷◌, ◌++◌, length, take, sym, subst, arith}
use Rattle.std.specs.Prelude.{◌==◌, IsTrue, IsFalse, slice_index_or}
use Rattle.std.proofs.lemmas.Bool.{false_from_ne_true, both_ways, eqb-true}
use Rattle.run_table.specs.RunTable.{sectors_of}
use Rattle.run_table.specs.Space.{contains}
use Rattle.run_table.proofs.SectorLaws.{first_there, length_of_sectors}
use Rattle.fsd_formats.specs.declared.entry.Entry.{Entry}
use Rattle.fsd_formats.specs.NamePage.{is_entry}
use Rattle.fsd_files.specs.Scrub.{leader_place}
use Rattle.fsd_files.specs.Waiting.{is_leader}
use Rattle.fsd_files.proofs.LeaderLaws.{rest_fewer}
use Rattle.scrub.proofs.PlaceLaws.{few_sectors}

first_is : (xs : List ℕ) → 1 ≤ length xs → IsTrue (contains (take 1 xs) (slice_index_or xs 0 0))
first_is [] some = absurd (omega arith)
first_is (x ∷ xs) some = first_there x []

pub leader_is : (e : Entry) → is_entry e ≡ true → IsTrue (contains (take 1 (sectors_of e.runs)) (leader_place e))
leader_is e good = let some = (few_sectors e good).0 in let long = length_of_sectors e.runs in first_is (sectors_of e.runs) (omega (arith, some, long))

-- a sector that is no leader isn't the place of one
pub not_place : (front : List Entry) (e : Entry) (more : List Entry) → is_entry e ≡ true → (s : ℕ) → IsFalse (is_leader (front ++ e ∷ more) s) → IsFalse (s == leader_place e)
not_place front e more good s out = false_from_ne_true (s == leader_place e) (λ is.
    both_ways (contains (take 1 (sectors_of e.runs)) s) (rest_fewer front e more s out) (subst (λ (t : ℕ). IsTrue (contains (take 1 (sectors_of e.runs)) t)) (sym (eqb-true s (leader_place e) is)) (leader_is e good)))
