-- A call of the table, in a step that has just begun.
use Rattle.std.proofs.Common.{◌≡◌, ◌-◌, ◌≤◌, ℕ, List, length, Option, None, ap, sym, subst, arith}
use Rattle.std.specs.Prelude.{Result, Ok, Err}
use Rattle.fsd_bytes.specs.declared.refusal.Refusal.{Refusal}
use Rattle.fsd_table.specs.Tree.{IsTree, table_of}
use Rattle.name_page.specs.declared.pages.Pages.{Ghosts}
use Rattle.name_page.specs.Looks.{OnlyReaches, OnlyEdits}
use Rattle.name_page.specs.Pages.{Step, changes, reaches, renewed, with_images, with_refusal}
use Rattle.name_page.proofs.LookLaws.{Joins, edits_then, reaches_edits}
use Rattle.name_btree.specs.declared.calls.TableCall.{TableCall}
use Rattle.name_btree.specs.declared.fault.TreeFault.{TreeFault}
use Rattle.name_btree.specs.declared.lookup.FoundEntry.{FoundEntry}
use Rattle.name_btree.specs.Calls.{Allows, without_answer, without_page}
use Rattle.name_btree.specs.Fault.{outer_told}

-- ---- the whole leave

less_none : (m n : ℕ) → n ≤ m → n ≤ m - 0
less_none m n h = omega arith

pub begun_reaches : (a b : Step) (n : ℕ) → b ≡ renewed (with_images b.images a) → n ≤ a.most_reached → n ≤ reaches b
begun_reaches a b n is h = subst (λ (s : Step). n ≤ reaches s) (sym is) (less_none a.most_reached n h)

pub begun_changes : (a b : Step) (n : ℕ) → b ≡ renewed (with_images b.images a) → n ≤ a.most_changed → n ≤ changes b
begun_changes a b n is h = subst (λ (s : Step). n ≤ changes s) (sym is) (less_none a.most_changed n h)

-- what the table allows it allows still
pub allowed_begun : {D : Type 0} (P : Ghosts D) (a mid : D) (call now : TableCall) → call ≡ now → (P.trusted mid → P.trusted a) → (P.trusted mid → (P.step mid).images ≡ (P.step a).images)
    → (P.trusted a → (height : ℕ) → IsTree (P.step a).images height → Allows (table_of (P.step a).images height) call)
    → P.trusted mid → (height : ℕ) → IsTree (P.step mid).images height → Allows (table_of (P.step mid).images height) now
allowed_begun P a mid call now is trust stays allowed t height tree =
    subst (λ (p : List (List ℕ)). Allows (table_of p height) now) (sym (stays t))
    (subst (Allows (table_of (P.step a).images height)) is (allowed (trust t) height (subst (λ (p : List (List ℕ)). IsTree p height) (stays t) tree)))

-- ---- what stays

pub begun_edits : {D : Type 0} (P : Ghosts D) (a b : D) → P.outside None a b → (P.trusted b → P.trusted a) → P.step b ≡ renewed (with_images (P.step b).images (P.step a)) → length (P.step b).images ≡ length (P.step a).images → OnlyEdits P None a b
begun_edits P a b outside trust is count = record {
  count = count;
  home_a = ap (λ (s : Step). s.home_a) is;
  most_reached = ap (λ (s : Step). s.most_reached) is;
  most_changed = ap (λ (s : Step). s.most_changed) is;
  outside = outside;
  trust = trust;
}

pub refused_edits : {D : Type 0} (P : Ghosts D) {told : Option Refusal} (a b : D) (refusal : Refusal) → P.outside told a b → (P.trusted b → P.trusted a) → P.step b ≡ with_refusal refusal (with_images (P.step b).images (P.step a))
    → length (P.step b).images ≡ length (P.step a).images → OnlyEdits P told a b
refused_edits P a b refusal outside trust is count = record {
  count = count;
  home_a = ap (λ (s : Step). s.home_a) is;
  most_reached = ap (λ (s : Step). s.most_reached) is;
  most_changed = ap (λ (s : Step). s.most_changed) is;
  outside = outside;
  trust = trust;
}

module _ {D : Type 0} (P : Ghosts D) (law : Joins P) (a mid new : D) (begun : OnlyEdits P None a mid) where
  pub looked_up : (r : Result (Option FoundEntry) TreeFault) → OnlyReaches P (outer_told r) mid new → OnlyEdits P (outer_told (without_page r)) a new
  looked_up (Ok found) x = edits_then P law a mid new begun (reaches_edits P mid new x)
  looked_up (Err fault) x = edits_then P law a mid new begun (reaches_edits P mid new x)

  pub changed_by : (r : Result (Unit {0}) TreeFault) → OnlyEdits P (outer_told r) mid new → OnlyEdits P (outer_told (without_answer r)) a new
  changed_by (Ok done) x = edits_then P law a mid new begun x
  changed_by (Err fault) x = edits_then P law a mid new begun x
