-- The table once a tree without a key is written.
use Rattle.std.proofs.Common.{◌≡◌, ℕ, ◌+◌, ◌<◌, ◌≤◌, Bool, true, false, ◌||◌, not, List, [], length, refl, sym, ap, subst, ◌∙◌, arith}
use Rattle.std.proofs.Math.Bool.{or_comm}
use Rattle.run_table.specs.Space.{contains}
use Rattle.fsd_bytes.specs.declared.key.Key.{Key}
use Rattle.fsd_table.specs.Tree.{pages_of, table_of, IsTree}
use Rattle.fsd_forest.specs.Forest.{times_in, Disjoint, TreeBecomes}
use Rattle.fsd_forest.proofs.CountLaws.{count_nothing, there_counts, out_counts, counts_there, counts_out, differ_counts}
use Rattle.name_page.specs.Edits.{without}
use Rattle.name_page.specs.Pages.{Step, is_spare}
use Rattle.name_btree.specs.declared.draft.Draft.{Draft}
use Rattle.name_btree.specs.Draft.{drafted, committed, freed, drafted_images, RemovesFrom}
use Rattle.name_btree.specs.Map.{IsTable, HasTable}
use Rattle.name_btree.proofs.drafts.DraftLaws.{committed_spares, committed_images, freed_images, drafted_length}
use Rattle.name_btree.proofs.growth.SpareLaws.{freed_at}

-- ---- the pages that are left, by their counts

left_over : (old new went : List ℕ) (q : ℕ) → times_in q new + times_in q went ≡ times_in q old → times_in q old ≤ 1 → (not (contains old q) || contains went q) ≡ not (contains new q)
left_over old new went q sum most = by (contains old q) refl (contains went q) refl
  where
    by : (a : Bool) → contains old q ≡ a → (b : Bool) → contains went q ≡ b → (not (contains old q) || contains went q) ≡ not (contains new q)
    by false x b y =
        let none : contains new q ≡ false = counts_out q new (omega (arith, sum, out_counts q old x)) in
        ap (λ (t : Bool). not t || contains went q) x ∙ sym (ap not none)
    by true x true y =
        let none : contains new q ≡ false = counts_out q new (omega (arith, sum, most, there_counts q went y)) in
        ap (λ (t : Bool). not t || contains went q) x ∙ y ∙ sym (ap not none)
    by true x false y =
        let there : contains new q ≡ true = counts_there q new (omega (arith, sum, there_counts q old x, out_counts q went y)) in
        ap (λ (t : Bool). not t || contains went q) x ∙ y ∙ sym (ap not there)

-- ---- the table

pub table_without : (old between : Step) (key : Key) (empty d : Draft) → empty.sheets.items ≡ [] → empty.freed.items ≡ [] → between.images ≡ old.images → between.spares ≡ old.spares → length old.spares ≡ length old.images
    → RemovesFrom old.images empty d key → (height : ℕ) → IsTable old height → HasTable (freed d.freed.items (committed d.sheets.items between)) (without key (table_of old.images height))
table_without old between key empty d no_sheets no_freed same_images same_spares flags removes height table =
    let after : Step = freed d.freed.items (committed d.sheets.items between) in
    let pages_are : drafted_images empty old ≡ old.images = ap (λ s. drafted s old.images) no_sheets in
    let tree1 = subst (λ (x : List (List ℕ)). IsTree x height) (sym pages_are) table.tree in
    let apart : Disjoint (pages_of (drafted_images empty old) height) empty.freed.items = λ q there. ap (λ (ps : List ℕ). contains ps q) no_freed in
    let r = removes height tree1 apart in
    let went : List ℕ = r.0 in
    let t = subst (λ (x : List (List ℕ)). TreeBecomes (without key) x (drafted_images d old) [] went height) pages_are r.1 in
    let images_are : drafted_images d old ≡ after.images =
    ap (drafted d.sheets.items) (sym same_images) ∙ sym (committed_images d.sheets.items between) ∙ sym (freed_images d.freed.items (committed d.sheets.items between)) in
    let t2 = subst (λ (x : List (List ℕ)). TreeBecomes (without key) old.images x [] went height) images_are t in
    let freed_is : (q : ℕ) → contains d.freed.items q ≡ contains went q = λ q. r.2 q ∙ ap (λ (ps : List ℕ). contains ps q || contains went q) no_freed in
    let spares_are = committed_spares d.sheets.items between ∙ same_spares in
    let length_is : length after.images ≡ length old.images = ap length (sym images_are) ∙ drafted_length d.sheets.items old.images in
    record {
      height = t2.height_after;
      is = record {
        tree = t2.tree;
        spare = λ q low.
            let low2 : q < length old.images = subst (λ (n : ℕ). q < n) length_is low in
            let low3 : q < length (committed d.sheets.items between).spares = subst (λ (n : ℕ). q < n) (sym (ap (λ (x : List Bool). length x) spares_are ∙ flags)) low2 in
            freed_at d.freed.items (committed d.sheets.items between) q low3
            ∙ or_comm (contains d.freed.items q) (is_spare (committed d.sheets.items between).spares q)
            ∙ ap (λ (x : List Bool). is_spare x q || contains d.freed.items q) spares_are
            ∙ ap (λ (b : Bool). b || contains d.freed.items q) (table.spare q low2) ∙ ap (λ (b : Bool). not (contains (pages_of old.images height) q) || b) (freed_is q)
            ∙ left_over (pages_of old.images height) (pages_of after.images t2.height_after) went q (omega (arith, t2.pages_are q, count_nothing q)) (differ_counts (pages_of old.images height) table.tree.apart q);
      };
      table_is = t2.table;
    }
