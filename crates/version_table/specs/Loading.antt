-- What loading a version is to do.
use Rattle.std.specs.Prelude.{◌≡◌, ℕ, [], Some}
use Rattle.fsd_bytes.specs.declared.key.Key.{Key}
use Rattle.fsd_files.specs.Answers.{entry_of}
use Rattle.name_page.specs.declared.pages.Pages.{Ghosts}
use Rattle.name_btree.specs.declared.lookup.FoundEntry.{FoundEntry}
use Rattle.name_btree.specs.Lookup.{IsMetAs}
use Rattle.version_table.specs.declared.planning.Plan.{Plan}
use Rattle.version_table.specs.Plan.{IsPlanReady}
use Rattle.version_table.specs.Table.{OfTable}

-- a version with the key was met in its leaf
pub record IsThere {D : Type 0} (P : Ghosts D) (key : Key) (old new : D) : Type 0 where
  pub found : FoundEntry
  pub met : IsMetAs (P.step new) (λ e. e.key ≡ key) found
  pub there : OfTable P old new (λ table. entry_of key table ≡ Some found.entry)

-- this key and keep; the table has no such version, and none goes
pub record IsLoadPlan {D : Type 0} (P : Ghosts D) (key : Key) (keep : ℕ) (old new : D) (plan : Plan) : Type 0 where
  pub key_given : plan.key ≡ key
  pub keep_given : plan.keep ≡ keep
  pub none_goes : plan.gone.items ≡ []
  pub ready : OfTable P old new (IsPlanReady plan)
