-- The entries of a table, claimed in the order of their keys up to a place.
use Rattle.std.proofs.Common.{◌≡◌, Bool, true, false, cond, not, List, [], ◌∷◌, ◌++◌, Option, Some, None, refl, sym, ap, subst, ◌∙◌, append_assoc}
use Rattle.std.specs.Prelude.{find}
use Rattle.std.specs.List.{AllByRecursion}
use Rattle.std.proofs.lemmas.Bool.{and_parts, both_ways, false_from_ne_true}
use Rattle.std.proofs.lemmas.List.{append-nil}
use Rattle.fsd_bytes.specs.declared.key.Key.{Key}
use Rattle.fsd_bytes.specs.Keys.{key_lt}
use Rattle.fsd_formats.specs.declared.entry.Entry.{Entry}
use Rattle.fsd_formats.specs.NamePage.{are_ascending}
use Rattle.fsd_table.specs.Pages.{entry_keys}
use Rattle.fsd_table.proofs.BoundLaws.{all_append, all_weaker, ascend_tail, ascend_skip}
use Rattle.fsd_table.proofs.KeyLaws.{lt_lt, le_lt, lt_itself}
use Rattle.name_page.specs.Lookups.{first_after, is_after}
use Rattle.sector_set.specs.Area.{Area, without_sectors, AreIn, IsOwn}
use Rattle.table_survey.specs.Claims.{IsClaimed}
use Rattle.table_survey.proofs.ClaimLaws.{none_claimed, one_more}
use Rattle.name_btree.proofs.finding.FindLaws.{find_behind}

-- those up to a key are claimed, and the others come behind it
pub record IsPassed (table : List Entry) (start : Area) (after : Option Key) (now : Area) : Type 0 where
  pub done : List Entry
  pub rest : List Entry
  pub parts : table ≡ done ++ rest
  pub passed : AllByRecursion (λ e. is_after after e.key ≡ false) done
  pub later : AllByRecursion (λ e. is_after after e.key ≡ true) rest
  pub ascend : are_ascending (entry_keys rest) ≡ true
  pub claimed : IsClaimed start done now

-- ---- the first later entry

is_first : (test : Entry → Bool) (x e : Entry) (xs : List Entry) → test x ≡ true → find test (x ∷ xs) ≡ Some e → x ≡ e
is_first test x e xs is found = by (test x) is found
  where
    by : (b : Bool) → b ≡ true → cond b (Some x) (find test xs) ≡ Some e → x ≡ e
    by true is found = cc
    by false is found = absurd (both_ways false refl is)

is_some : (test : Entry → Bool) (x : Entry) (xs : List Entry) → test x ≡ true → find test (x ∷ xs) ≡ None → ⊥
is_some test x xs is none = by (test x) is none
  where
    by : (b : Bool) → b ≡ true → cond b (Some x) (find test xs) ≡ None → ⊥
    by true is none = cc
    by false is none = both_ways false refl is

-- ---- keys

all_behind : (k : Key) (xs : List Entry) → are_ascending (k ∷ entry_keys xs) ≡ true → AllByRecursion (λ y. is_after (Some k) y.key ≡ true) xs
all_behind k [] e = tt
all_behind k (y ∷ xs) e = ((and_parts (key_lt k y.key) (are_ascending (y.key ∷ entry_keys xs)) e).0, all_behind k xs (ascend_skip k y.key (entry_keys xs) e))

-- what is not behind a place has a lesser key than what is
less_than : (after : Option Key) (a b : Key) → is_after after a ≡ false → is_after after b ≡ true → key_lt a b ≡ true
less_than None a b out is = absurd (both_ways true out refl)
less_than (Some k) a b out is = le_lt a k b (ap not out) is

not_behind : (after : Option Key) (a b : Key) → is_after after a ≡ false → is_after after b ≡ true → is_after (Some b) a ≡ false
not_behind None a b out is = absurd (both_ways true out refl)
not_behind (Some k) a b out is = false_from_ne_true (key_lt b a) (λ less. both_ways (key_lt k a) out (lt_lt k b a is less))

pub passed_less : (after : Option Key) (done : List Entry) (e : Entry) → AllByRecursion (λ x. is_after after x.key ≡ false) done → is_after after e.key ≡ true → AllByRecursion (λ x. key_lt x.key e.key ≡ true) done
passed_less after done e all is = all_weaker (λ x. is_after after x.key ≡ false) (λ x. key_lt x.key e.key ≡ true) done (λ x out. less_than after x.key e.key out is) all

-- ---- steps

all_after : (xs : List Entry) → AllByRecursion (λ e. is_after None e.key ≡ true) xs
all_after [] = tt
all_after (x ∷ xs) = (refl, all_after xs)

pub passed_none : (table : List Entry) (start : Area) → IsOwn start → are_ascending (entry_keys table) ≡ true → IsPassed table start None start
passed_none table start own ascend = record { done = []; rest = table; parts = refl; passed = tt; later = all_after table; ascend = ascend; claimed = none_claimed start own }

pub passed_more : (table : List Entry) (start : Area) (after : Option Key) (now : Area) (e : Entry) → IsPassed table start after now → first_after after table ≡ Some e → AreIn now e.runs
    → IsPassed table start (Some e.key) (without_sectors now e.runs)
passed_more table start after now e p found are =
    by p.rest p.later p.ascend p.parts (sym (find_behind (λ x. is_after after x.key) p.done p.rest p.passed) ∙ sym (ap (find (λ x. is_after after x.key)) p.parts) ∙ found)
  where
    by : (rest : List Entry) → AllByRecursion (λ x. is_after after x.key ≡ true) rest → are_ascending (entry_keys rest) ≡ true → table ≡ p.done ++ rest
        → find (λ x. is_after after x.key) rest ≡ Some e → IsPassed table start (Some e.key) (without_sectors now e.runs)
    by [] later ascend parts is = absurd cc
    by (x ∷ xs) later ascend parts is =
        let same : x ≡ e = is_first (λ y. is_after after y.key) x e xs later.0 is in
        let behind : is_after after e.key ≡ true = ap (λ (y : Entry). is_after after y.key) (sym same) ∙ later.0 in
        record {
          done = p.done ++ e ∷ [];
          rest = xs;
          parts = parts ∙ ap (λ (y : Entry). p.done ++ y ∷ xs) same ∙ sym (append_assoc p.done (e ∷ []) xs);
          passed = all_append (λ y. is_after (Some e.key) y.key ≡ false) p.done (e ∷ [])
              (all_weaker (λ y. is_after after y.key ≡ false) (λ y. is_after (Some e.key) y.key ≡ false) p.done (λ y out. not_behind after y.key e.key out behind) p.passed)
              (lt_itself e.key, tt);
          later = all_behind e.key xs (ap (λ (y : Entry). are_ascending (y.key ∷ entry_keys xs)) (sym same) ∙ ascend);
          ascend = ascend_tail x.key (entry_keys xs) ascend;
          claimed = one_more start p.done now p.claimed e are;
        }

pub passed_all : (table : List Entry) (start : Area) (after : Option Key) (now : Area) → IsPassed table start after now → first_after after table ≡ None → IsClaimed start table now
passed_all table start after now p none =
    by p.rest p.later p.parts (sym (find_behind (λ x. is_after after x.key) p.done p.rest p.passed) ∙ sym (ap (find (λ x. is_after after x.key)) p.parts) ∙ none)
  where
    by : (rest : List Entry) → AllByRecursion (λ x. is_after after x.key ≡ true) rest → table ≡ p.done ++ rest → find (λ x. is_after after x.key) rest ≡ None → IsClaimed start table now
    by [] later parts is = subst (λ (xs : List Entry). IsClaimed start xs now) (sym (parts ∙ append-nil p.done)) p.claimed
    by (x ∷ xs) later parts is = absurd (is_some (λ y. is_after after y.key) x xs later.0 is)
