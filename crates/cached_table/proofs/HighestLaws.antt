-- The highest version of a name, which is found again by its key.
use Rattle.std.proofs.Common.{◌≡◌, inl, inr, ℕ, List, [], ◌∷◌, filter, Option, Some, None, refl, sym, ap, subst, ◌∙◌}
use Rattle.std.specs.Prelude.{IfSome}
use Rattle.std.specs.List.{AllByRecursion, last_or}
use Rattle.fsd_bytes.specs.Bytes.{same_bytes}
use Rattle.fsd_bytes.specs.declared.refusal.Refusal.{Refusal}
use Rattle.fsd_formats.specs.declared.entry.Entry.{Entry}
use Rattle.fsd_table.specs.Table.{BreaksTable}
use Rattle.fsd_table.specs.Tree.{IsTree, table_of}
use Rattle.fsd_table.proofs.BoundLaws.{Ascend}
use Rattle.fsd_files.specs.Answers.{entries_with_keep, entry_of, highest_entry}
use Rattle.name_page.specs.declared.pages.Pages.{Ghosts}
use Rattle.name_page.specs.Looks.{OnlyWalks}
use Rattle.name_page.specs.Pages.{Step}
use Rattle.name_btree.specs.declared.fault.TreeFault.{TreeFault}
use Rattle.name_btree.specs.declared.fault.TreeFault.TheVariants.{Pages, Broken}
use Rattle.name_btree.specs.Fault.{BarsTable, HasTreeCause}
use Rattle.name_btree.specs.Map.{HasTable, IsTable}
use Rattle.name_btree.proofs.steps.CallLaws.{same_table}
use Rattle.version_table.specs.declared.fault.VersionFault.{VersionFault}
use Rattle.version_table.specs.declared.fault.VersionFault.TheVariants.{Table, NoSuch, VersionsUsedUp}
use Rattle.version_table.specs.Fault.{FailsLook}
use Rattle.version_table.specs.Table.{MakesTable, OfTable}
use Rattle.fsd_files.proofs.EachLaws.{each_kept}
use Rattle.version_table.proofs.PlanLaws.{each_found}
use Rattle.version_table.proofs.StepLaws.{tree_ascends}
use Rattle.cached_table.specs.Editing.{ChangesNone, KeepFails, SetsKeep}

last_one : (P : Entry → Type 0) (o : Option Entry) (xs : List Entry) → IfSome o P → AllByRecursion P xs → IfSome (last_or o xs) P
last_one P o [] first all = first
last_one P o (x ∷ xs) first all = last_one P (Some x) xs all.0 all.1

highest_found : (name : List ℕ) (table : List Entry) (e : Entry) → Ascend table → highest_entry name table ≡ Some e → entry_of e.key table ≡ Some e
highest_found name table e ascend there =
    subst (λ (o : Option Entry). IfSome o (λ x. entry_of x.key table ≡ Some x)) there
    (last_one (λ x. entry_of x.key table ≡ Some x) None (filter (λ x. same_bytes name x.key.name) table) tt (each_kept (λ x. entry_of x.key table ≡ Some x) (λ x. same_bytes name x.key.name) table (each_found table ascend)))

module _ {D : Type 0} (P : Ghosts D) (old now : D) (walks : OnlyWalks P None old now) (name : List ℕ) (e : Entry) (found : OfTable P old now (λ table. highest_entry name table ≡ Some e)) where
  pub there_now : OfTable P now now (λ table. entry_of e.key table ≡ Some e)
  there_now trusted height tree =
      let same : (P.step now).images ≡ (P.step old).images = walks.stays trusted in
      let before = subst (λ (pages : List (List ℕ)). IsTree pages height) same tree in
      subst (λ (pages : List (List ℕ)). entry_of e.key (table_of pages height) ≡ Some e) (sym same)
      (highest_found name (table_of (P.step old).images height) e (tree_ascends (P.step old).images height before) (found trusted height before))

  pub sets_now : (new : D) (keep : ℕ) → (P.trusted new → P.trusted now) → MakesTable P now new (entries_with_keep e.key keep) → P.trusted new → (height : ℕ) → IsTable (P.step old) height
      → SetsKeep (P.step old) (P.step new) name keep e.key height
  sets_now new keep trust makes trusted height table =
      let same : (P.step now).images ≡ (P.step old).images = walks.stays (trust trusted) in
      record {
        entry = e;
        highest = found (trust trusted) height table.tree;
        key_is = refl;
        set = subst (HasTable (P.step new)) (ap (λ (pages : List (List ℕ)). entries_with_keep e.key keep (table_of pages height)) same) (makes trusted height (same_table (P.step old) (P.step now) height same walks.spares table));
      }

-- ---- any edit behind a plan

module _ {D : Type 0} (P : Ghosts D) (old now : D) (walks : OnlyWalks P None old now) where
  -- what is made then is made of the table before
  pub makes_before : (new : D) (edit : List Entry → List Entry) → (P.trusted new → P.trusted now) → MakesTable P now new edit → MakesTable P old new edit
  makes_before new edit trust makes trusted height table =
      let same = walks.stays (trust trusted) in
      subst (HasTable (P.step new)) (ap (λ (pages : List (List ℕ)). edit (table_of pages height)) same) (makes trusted height (same_table (P.step old) (P.step now) height same walks.spares table))

  -- and what held of it holds of it then
  pub holds_now : (Holds : List Entry → Type 0) → OfTable P old now Holds → OfTable P now now Holds
  holds_now Holds held trusted height tree =
      let same : (P.step now).images ≡ (P.step old).images = walks.stays trusted in
      subst (λ (pages : List (List ℕ)). Holds (table_of pages height)) (sym same) (held trusted height (subst (λ (pages : List (List ℕ)). IsTree pages height) same tree))

-- ---- no edit

pub none_walked : {D : Type 0} (P : Ghosts D) (refusal : Option Refusal) (a b : D) → OnlyWalks P refusal a b → ChangesNone (P.trusted b) (P.step a) (P.step b)
none_walked P refusal a b walks = record { changed = walks.changed; spares = walks.spares; images = walks.stays }

pub none_after : {D : Type 0} (P : Ghosts D) (refusal : Option Refusal) (a b c : D) → OnlyWalks P None a b → OnlyWalks P refusal b c → ChangesNone (P.trusted c) (P.step a) (P.step c)
none_after P refusal a b c first then = record {
  changed = then.changed ∙ first.changed;
  spares = then.spares ∙ first.spares;
  images = λ trusted. then.stays trusted ∙ first.stays (then.trust trusted);
}

-- ---- why it fails

pub fails_trusted : (trusted : Type 0) (s : Step) (fault : TreeFault) → HasTreeCause s (λ page. trusted → BreaksTable s.images page) (λ page. trusted → BarsTable s page) fault → trusted → HasTreeCause s (BreaksTable s.images) (BarsTable s) fault
fails_trusted trusted s (Pages refusal) fails t = (
  fails.0,
  elim fails.1 [
    | inl outer ↦ inl outer
    | inr barred ↦ inr (barred.0, barred.1, barred.2 t)
  ],
)
fails_trusted trusted s (Broken page) fails t = fails t

pub look_fails : {D : Type 0} (P : Ghosts D) (old new : D) (name : List ℕ) (fault : VersionFault) → FailsLook P new (OfTable P old new (λ table. highest_entry name table ≡ None)) ⊥ fault → KeepFails (P.trusted new) (P.step old) (P.step new) name fault
look_fails P old new name (Table fault) fails = λ trusted. fails
look_fails P old new name NoSuch fails = fails
look_fails P old new name VersionsUsedUp fails = fails
