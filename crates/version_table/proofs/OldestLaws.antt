-- The versions of a name that are met, one after another.
use Rattle.std.proofs.Common.{◌≡◌, ℕ, Bool, true, false, cond, List, [], ◌∷◌, ◌++◌, length, take, Option, Some, None, sym, ap, subst, ◌∙◌, arith}
use Rattle.std.specs.Prelude.{IfSome}
use Rattle.std.proofs.lemmas.List.{take-append-le, take_all}
use Rattle.fsd_bytes.specs.Bytes.{same_bytes}
use Rattle.fsd_bytes.specs.declared.key.Key.{Key}
use Rattle.fsd_formats.specs.declared.entry.Entry.{Entry}
use Rattle.fsd_table.proofs.BoundLaws.{Ascend}
use Rattle.name_page.specs.Lookups.{first_after, same_name}
use Rattle.name_btree.specs.declared.lookup.FoundEntry.{FoundEntry}
use Rattle.version_table.specs.Versions.{IsFirstBehind, versions_behind}
use Rattle.version_table.proofs.VersionLaws.{IsNext, first_behind, same_both}

pub of_some : (Q : FoundEntry → Type 0) (o : Option FoundEntry) (f : FoundEntry) → o ≡ Some f → IfSome o Q → Q f
of_some Q o f is h = subst (λ (x : Option FoundEntry). IfSome x Q) is h

-- the next one, if it has the name
pub next_named : (key : Key) (f : FoundEntry) (r : Option FoundEntry) (table : List Entry) → Ascend table → r ≡ cond (same_name f.entry.key.name key.name) (Some f) None → first_after (Some key) table ≡ Some f.entry → IsFirstBehind key table r
next_named key f r table asc named found =
    by (same_bytes key.name f.entry.key.name) (named ∙ ap (λ (b : Bool). cond b (Some f) None) (same_both f.entry.key.name key.name)) (subst (IsNext key table) found (first_behind key table asc))
  where
    by : (b : Bool) → r ≡ cond b (Some f) None → cond b (versions_behind key table ≡ f.entry ∷ versions_behind f.entry.key table) (versions_behind key table ≡ []) → IsFirstBehind key table r
    by true is first = subst (IsFirstBehind key table) (sym is) first
    by false is first = subst (IsFirstBehind key table) (sym is) first

pub next_none : (key : Key) (table : List Entry) → Ascend table → first_after (Some key) table ≡ None → versions_behind key table ≡ []
next_none key table asc found = subst (IsNext key table) found (first_behind key table asc)

pub full_take : {X : Type 0} (n : ℕ) (xs ys : List X) → length xs ≡ n → xs ≡ take n (xs ++ ys)
full_take n xs ys full = sym (take-append-le n xs ys (omega (arith, full)) ∙ take_all n xs (omega (arith, full)))
