-- A plan is what the definitions say.
use Rattle.std.proofs.Common.{◌≡◌, ℕ, ◌+◌, ◌-◌, ◌<◌, ◌^◌, min, Bool, true, false, cond, List, [], ◌∷◌, ◌++◌, length, take, map, Option, Some, refl, sym, ap, subst, ◌∙◌, arith}
use Rattle.std.specs.Prelude.{option_map, ◌==◌}
use Rattle.std.specs.List.{AllByRecursion}
use Rattle.fsd_bytes.specs.Bytes.{same_bytes}
use Rattle.fsd_bytes.specs.declared.key.Key.{Key}
use Rattle.fsd_bytes.specs.Keys.{max_u32}
use Rattle.fsd_formats.specs.declared.entry.Entry.{Entry}
use Rattle.fsd_table.proofs.BoundLaws.{Ascend}
use Rattle.fsd_files.specs.Answers.{entry_of, highest_entry}
use Rattle.fsd_files.specs.Files.{gone, keep_of, next_version}
use Rattle.fsd_files.specs.Volume.{entries_at}
use Rattle.fsd_files.proofs.EachLaws.{each_kept, each_taken}
use Rattle.version_table.specs.declared.oldest.Leaving.{Leaving}
use Rattle.version_table.specs.declared.planning.Plan.{Plan}
use Rattle.version_table.specs.Met.{entries_left}
use Rattle.version_table.specs.Plan.{IsPlan, IsPlanReady, key_left, keys_left}
use Rattle.version_table.specs.Versions.{next_keep, next_key, oldest_beyond, versions_of}
use Rattle.version_table.proofs.PlanLaws.{each_found, each_mapped, next_is_new}
use Rattle.version_table.proofs.VersionLaws.{entries_of_keys, keys_beyond}

pub used_up : (name : List ℕ) (table : List Entry) (highest : Option Entry) → highest_entry name table ≡ highest → option_map (λ e. e.key.version) highest ≡ Some (2 ^ 32 - 1) → max_u32 < (next_key name table).version
used_up name table highest is most = omega (arith, ap next_version (ap (option_map (λ (e : Entry). e.key.version)) is ∙ most))

pub keys_of : (gs : List Leaving) → map key_left gs ≡ map (λ e. e.key) (entries_left gs)
keys_of [] = refl
keys_of (g ∷ gs) = ap (λ (ks : List Key). g.entry.key ∷ ks) (keys_of gs)

pub beyond_at : (name : List ℕ) (keep : ℕ) (table : List Entry) → Ascend table → oldest_beyond keep (versions_of name table) ≡ entries_at (map (λ e. e.key) (oldest_beyond keep (versions_of name table))) table
beyond_at name keep table asc = by (keep == 0)
  where
    none : (xs : List Entry) → [] ≡ entries_at [] xs
    none [] = refl
    none (x ∷ xs) = none xs

    n : ℕ
    n = min 2 (length (versions_of name table) + 1 - keep)

    by : (b : Bool) → cond b [] (take n (versions_of name table)) ≡ entries_at (map (λ e. e.key) (cond b [] (take n (versions_of name table)))) table
    by true = none table
    by false = entries_of_keys (λ e. same_bytes name e.key.name) n table asc

beyond_found : (name : List ℕ) (keep : ℕ) (table : List Entry) → Ascend table → AllByRecursion (λ e. entry_of e.key table ≡ Some e) (oldest_beyond keep (versions_of name table))
beyond_found name keep table asc = by (keep == 0)
  where
    by : (b : Bool) → AllByRecursion (λ e. entry_of e.key table ≡ Some e) (cond b [] (take (min 2 (length (versions_of name table) + 1 - keep)) (versions_of name table)))
    by true = tt
    by false =
        each_taken (λ (e : Entry). entry_of e.key table ≡ Some e) (min 2 (length (versions_of name table) + 1 - keep)) (versions_of name table)
        (each_kept (λ (e : Entry). entry_of e.key table ≡ Some e) (λ e. same_bytes name e.key.name) table (each_found table asc))

module _ (name : List ℕ) (given : Option ℕ) (table : List Entry) (asc : Ascend table) (plan : Plan) (highest : Option Entry) (is : highest_entry name table ≡ highest) (named : plan.key.name ≡ name)
    (version : plan.key.version ≡ next_version (option_map (λ e. e.key.version) highest)) (keep : plan.keep ≡ keep_of given (option_map (λ e. e.keep) highest))
    (gone_are : entries_left plan.gone.items ≡ oldest_beyond plan.keep (versions_of name table)) where
  key_is : plan.key ≡ next_key name table
  key_is = let number : plan.key.version ≡ (next_key name table).version = version ∙ ap (λ (o : Option Entry). next_version (option_map (λ (e : Entry). e.key.version) o)) (sym is) in λ i. record { name = named i; version = number i }

  keep_is : plan.keep ≡ next_keep name given table
  keep_is = keep ∙ ap (λ (o : Option Entry). keep_of given (option_map (λ (e : Entry). e.keep) o)) (sym is)

  keys_are : keys_left plan ≡ map (λ e. e.key) (oldest_beyond plan.keep (versions_of name table))
  keys_are = keys_of plan.gone.items ∙ ap (map (λ (e : Entry). e.key)) gone_are

  pub plan_is : IsPlan name given table plan
  plan_is = record {
    key = key_is;
    keep = keep_is;
    keys = keys_are ∙ keys_beyond plan.keep (next_key name table) (versions_of name table) ∙ ap (λ (k : ℕ). gone k (map (λ (e : Entry). e.key) (versions_of name table) ++ next_key name table ∷ [])) keep_is;
    entries = gone_are ∙ beyond_at name plan.keep table asc ∙ ap (λ (ks : List Key). entries_at ks table) (sym keys_are);
  }

  pub plan_ready : IsPlanReady plan table
  plan_ready = record {
    fresh = ap (λ (k : Key). entry_of k table) key_is ∙ next_is_new name table asc;
    there = each_mapped (λ (e : Entry). entry_of e.key table ≡ Some e) (λ (g : Leaving). g.entry) plan.gone.items
        (subst (AllByRecursion (λ (e : Entry). entry_of e.key table ≡ Some e)) (sym gone_are) (beyond_found name plan.keep table asc));
  }
