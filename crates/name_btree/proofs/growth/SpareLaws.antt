-- Which pages are spare, once an entry was put in.
use Rattle.std.proofs.Common.{◌≡◌, ℕ, ◌+◌, ◌-◌, ◌<◌, ◌≤◌, Bool, true, false, not, ◌&&◌, ◌||◌, List, [], ◌∷◌, ◌++◌, length, get_or, refl, sym, ap, subst, ◌∙◌, arith, length-set, get_or-set_other}
use Rattle.std.proofs.Math.Bool.{or_assoc, or_comm}
use Rattle.std.specs.Prelude.{◌==◌, slice_set}
use Rattle.std.proofs.lemmas.List.{get_or-set_same}
use Rattle.std.proofs.lemmas.Bool.{eqb-true, eq-eqb}
use Rattle.run_table.specs.Space.{contains}
use Rattle.run_table.proofs.SectorLaws.{each_in}
use Rattle.fsd_bytes.specs.declared.key.Key.{Key}
use Rattle.fsd_formats.specs.declared.entry.Entry.{Entry}
use Rattle.fsd_table.specs.Table.{top}
use Rattle.fsd_table.specs.Tree.{pages_of, table_of, IsTree}
use Rattle.fsd_forest.specs.Forest.{times_in}
use Rattle.fsd_forest.proofs.CountLaws.{count_append, count_nothing, there_counts, counts_there, out_counts, differ_counts}
use Rattle.fsd_forest.proofs.LowLaws.{all_within}
use Rattle.name_page.specs.Pages.{Step, is_spare, with_spare}
use Rattle.name_page.specs.Edits.{with_entry}
use Rattle.name_btree.specs.declared.draft.Draft.{Draft}
use Rattle.name_btree.specs.declared.draft.Sheet.{Sheet}
use Rattle.name_btree.specs.Draft.{drafted, committed, freed, WereTaken}
use Rattle.name_btree.specs.Grown.{AreUsed, Inserts, TakesAtMost}
use Rattle.name_btree.specs.Map.{IsTable, HasTable, without_all, LeavesTree}
use Rattle.name_btree.proofs.growth.BranchLaws.{taken_apart}
use Rattle.name_btree.proofs.drafts.CommitLaws.{freed_spare}
use Rattle.name_btree.proofs.drafts.DraftLaws.{committed_spares, drafted_length}

-- ---- pages that are made spare

set_spare : (spares : List Bool) (page q : ℕ) → q < length spares → get_or (slice_set spares page true) q false ≡ ((page == q) || get_or spares q false)
set_spare spares page q low = by (page == q) refl
  where
    by : (b : Bool) → (page == q) ≡ b → get_or (slice_set spares page true) q false ≡ (b || get_or spares q false)
    by true is = ap (λ (n : ℕ). get_or (slice_set spares n true) q false) (eqb-true page q is) ∙ get_or-set_same spares q true false low
    by false is = get_or-set_other spares page q true false (λ e. let yes = eq-eqb q q refl in let never : (q == q) ≡ false = ap (λ (n : ℕ). n == q) e ∙ is in cc)

pub freed_at : (pages : List ℕ) (step : Step) (q : ℕ) → q < length step.spares → is_spare (freed pages step).spares q ≡ (contains pages q || is_spare step.spares q)
freed_at [] step q low = refl
freed_at (p ∷ pages) step q low =
    let Low : ℕ → Type 0 = λ (n : ℕ). q < n in
    freed_at pages (with_spare p step) q (subst Low (sym (length-set step.spares p true)) low)
    ∙ ap (λ (b : Bool). contains pages q || b) (set_spare step.spares p q low)
    ∙ sym (or_assoc (contains pages q) (p == q) (is_spare step.spares q))
    ∙ ap (λ (b : Bool). b || is_spare step.spares q) (or_comm (contains pages q) (p == q))

-- ---- pages that were taken

pub none_taken : (most : ℕ) (old new : List Bool) → new ≡ old → TakesAtMost most old new
none_taken most old new same = record {
  pages = [];
  few = omega arith;
  each = λ page was gone. let still : is_spare new page ≡ is_spare old page = ap (λ (spares : List Bool). is_spare spares page) same in cc;
}

pub came_taken : (most : ℕ) (old cleared last new : Step) (came pages : List ℕ) (sheets : List Sheet) → cleared.spares ≡ old.spares → length came ≤ most → WereTaken cleared last came → new ≡ freed pages (committed sheets last)
    → TakesAtMost most old.spares new.spares
came_taken most old cleared last new came pages sheets same few taken step = record {
  pages = came;
  few = few;
  each = λ page was gone. by page was gone (contains came page) refl;
}
  where
    by : (page : ℕ) → is_spare old.spares page ≡ true → is_spare new.spares page ≡ false → (b : Bool) → contains came page ≡ b → contains came page ≡ true
    by page was gone true is = is
    by page was gone false is =
        let last_spare : is_spare last.spares page ≡ true = taken.spares page ∙ (λ j. is_spare (same j) page && not (is j)) ∙ ap (λ (b : Bool). b && true) was in
        let still : is_spare new.spares page ≡ true = ap (λ (s : Step). is_spare s.spares page) step ∙ freed_spare pages (committed sheets last) page (ap (λ (spares : List Bool). is_spare spares page) (committed_spares sheets last) ∙ last_spare) in
        cc

-- ---- pages that are counted

abbrev Tells : Bool → ℕ → Type 0
Tells true n = 1 ≤ n
Tells false n = n ≡ 0

told : (p : ℕ) (xs : List ℕ) → Tells (contains xs p) (times_in p xs)
told p xs = by (contains xs p) refl
  where
    by : (b : Bool) → contains xs p ≡ b → Tells b (times_in p xs)
    by true is = there_counts p xs is
    by false is = out_counts p xs is

-- those that went are spare, and those that were and didn't come
spare_then : (w a c n : Bool) (ws xs cs ns : ℕ) → Tells w ws → Tells a xs → Tells c cs → Tells n ns → ns + ws ≡ xs + cs → xs + cs ≤ 1 → (w || (not a && not c)) ≡ not n
spare_then true a c true ws xs cs ns tw ta tc tn e one = absurd (omega arith)
spare_then true a c false ws xs cs ns tw ta tc tn e one = refl
spare_then false true c true ws xs cs ns tw ta tc tn e one = refl
spare_then false true c false ws xs cs ns tw ta tc tn e one = absurd (omega arith)
spare_then false false true true ws xs cs ns tw ta tc tn e one = refl
spare_then false false true false ws xs cs ns tw ta tc tn e one = absurd (omega arith)
spare_then false false false true ws xs cs ns tw ta tc tn e one = absurd (omega arith)
spare_then false false false false ws xs cs ns tw ta tc tn e one = refl

-- ---- the table

within_tree : (pages : List (List ℕ)) (height p : ℕ) → IsTree pages height → contains (pages_of pages height) p ≡ true → p < length pages
within_tree pages height p tree there = each_in (λ q. q < length pages) (pages_of pages height) p (all_within (height - 1) pages top tree.subtree) there

used_in_table : (step : Step) (height : ℕ) → IsTable step height → AreUsed step (pages_of step.images height)
used_in_table step height t p there = t.spare p (within_tree step.images height p t.tree there) ∙ ap not there

pub inserted_table : (old cleared last new : Step) (d d2 : Draft) (e : Entry) (keys : List Key) → cleared.images ≡ old.images → cleared.spares ≡ old.spares → LeavesTree old.images d keys → Inserts e cleared last (drafted d.sheets.items old.images) (drafted d2.sheets.items last.images)
    → d2.freed.items ≡ d.freed.items → new ≡ freed d2.freed.items (committed d2.sheets.items last) → new.images ≡ drafted d2.sheets.items last.images → length last.spares ≡ length last.images
    → (height : ℕ) → IsTable old height → HasTable new (with_entry e (without_all keys (table_of old.images height)))
inserted_table old cleared last new d d2 e keys images spares left inserts same_freed step images_new flags height table =
    let middle : List (List ℕ) = drafted d.sheets.items old.images in
    let after : List (List ℕ) = drafted d2.sheets.items last.images in
    let whole : List ℕ = pages_of old.images height in
    let h = left height table.tree in
    let i : Inserts e cleared last middle after = inserts in
    let used : AreUsed cleared whole = λ p there. subst (λ (s : List Bool). is_spare s p ≡ false) (sym spares) (used_in_table old height table p there) in
    let used_left : AreUsed cleared (pages_of middle h.height_after) = λ p there. used p (counts_there p whole (omega (arith, h.pages_are p, there_counts p (pages_of middle h.height_after) there, count_nothing p))) in
    let b = i.tree h.height_after h.tree used_left in
    let distinct = taken_apart cleared last whole i.came table.tree.apart used i.takes.taken in
    record {
      height = b.height_after;
      is = record {
        tree = subst (λ (im : List (List ℕ)). IsTree im b.height_after) (sym images_new) b.tree;
        spare = λ q low.
            let same_length : length new.images ≡ length last.images = ap length images_new ∙ drafted_length d2.sheets.items last.images in
            let committed_length : length (committed d2.sheets.items last).spares ≡ length last.spares = ap length (committed_spares d2.sheets.items last) in
            let low_spares : q < length (committed d2.sheets.items last).spares = omega (arith, low, same_length, committed_length, flags) in
            let low_old : q < length old.images = omega (arith, low, same_length, ap length i.takes.images, ap length images) in
            ap (λ (s : Step). is_spare s.spares q) step
            ∙ freed_at d2.freed.items (committed d2.sheets.items last) q low_spares
            ∙ (λ j. contains (same_freed j) q || is_spare (committed_spares d2.sheets.items last j) q)
            ∙ (λ j. h.freed q j || i.takes.taken.spares q j)
            ∙ ap (λ (s : List Bool). contains h.went q || (is_spare s q && not (contains i.came q))) spares
            ∙ ap (λ (v : Bool). contains h.went q || (v && not (contains i.came q))) (table.spare q low_old)
            ∙ spare_then (contains h.went q) (contains whole q) (contains i.came q) (contains (pages_of after b.height_after) q)
            (times_in q h.went) (times_in q whole) (times_in q i.came) (times_in q (pages_of after b.height_after))
            (told q h.went) (told q whole) (told q i.came) (told q (pages_of after b.height_after))
            (omega (arith, h.pages_are q, b.pages_are q, count_nothing q)) (omega (arith, differ_counts (whole ++ i.came) distinct q, count_append q whole i.came))
            ∙ ap (λ (im : List (List ℕ)). not (contains (pages_of im b.height_after) q)) (sym images_new);
      };
      table_is = ap (λ (im : List (List ℕ)). table_of im b.height_after) images_new ∙ b.table ∙ ap (with_entry e) h.table;
    }
