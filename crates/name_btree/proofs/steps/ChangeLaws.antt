-- A table in which an entry is replaced.
use Rattle.std.proofs.Common.{◌≡◌, ℕ, ◌-◌, ◌<◌, not, Bool, true, false, List, [], ◌∷◌, ◌++◌, length, map, refl, sym, ap, subst, ◌∙◌, arith, length-set}
use Rattle.std.proofs.lemmas.List.{append-nil}
use Rattle.run_table.specs.Space.{contains, all_differ}
use Rattle.fsd_bytes.specs.Keys.{key_lt, same_key}
use Rattle.fsd_formats.specs.declared.entry.Entry.{Entry}
use Rattle.fsd_formats.specs.NamePage.{Leaf}
use Rattle.fsd_table.specs.Pages.{page_at}
use Rattle.fsd_table.specs.Table.{top}
use Rattle.fsd_table.specs.Tree.{table_of, pages_of, IsTree}
use Rattle.fsd_table.proofs.BoundLaws.{all_weaker}
use Rattle.fsd_forest.specs.Forest.{times_in, Exchange, Stay, IsLocal}
use Rattle.fsd_forest.proofs.CountLaws.{count_nothing, there_counts, counts_there, counts_out, out_counts, exchange_differ}
use Rattle.name_page.specs.Pages.{Step, is_spare}
use Rattle.name_page.specs.declared.cut.Cut.TheVariants.{UpTo}
use Rattle.name_page.specs.Edits.{put}
use Rattle.name_page.proofs.PutLaws.{lt_unequal, gt_unequal, put_keys, put_beside}
use Rattle.name_btree.specs.Descent.{FoundLeaf}
use Rattle.name_btree.specs.Map.{IsTable, HasTable}
use Rattle.name_btree.specs.Replace.{HasEdit, IsWritten, IsLeafAt}
use Rattle.name_btree.proofs.mending.RemoveLaws.{one_page}
use Rattle.name_btree.proofs.mending.RootLaws.{tree_around}

put_local : (e : Entry) → IsLocal e.key (map (put e))
put_local e left some right a b =
    put_beside e left some right (all_weaker (λ x. key_lt x.key e.key ≡ true) (λ x. same_key x.key e.key ≡ false) left (λ x h. lt_unequal x.key e.key h) a)
    (all_weaker (λ x. key_lt e.key x.key ≡ true) (λ x. same_key x.key e.key ≡ false) right (λ x h. gt_unequal x.key e.key h) b)

same_pages : (old new : List ℕ) (page : ℕ) → Exchange old new [] [] → contains old page ≡ contains new page
same_pages old new page e = by (contains old page) refl
  where
    by : (b : Bool) → contains old page ≡ b → contains old page ≡ contains new page
    by true is = is ∙ sym (counts_there page new (omega (arith, e page, count_nothing page, there_counts page old is)))
    by false is = is ∙ sym (counts_out page new (omega (arith, e page, count_nothing page, out_counts page old is)))

-- ---- one page was written

others_stay : (old still new : Step) (page : ℕ) (entries : List Entry) → still.images ≡ old.images → IsWritten still new page (Leaf entries) → Stay old.images new.images (page ∷ [])
others_stay old still new page entries images w q out = w.others q (one_page page q out) ∙ ap (λ (p : List (List ℕ)). page_at p q) images

-- ---- the table

pub tree_replaced : (e : Entry) (old still new : Step) (found : FoundLeaf) → still.images ≡ old.images → IsWritten still new found.page (Leaf (map (put e) found.entries)) → IsLeafAt (UpTo e.key) old.images top found
    → (height : ℕ) → IsTree old.images height → HasEdit (map (put e)) old.images new.images height
tree_replaced e old still new found images w at height t =
    let apart : all_differ (pages_of old.images height ++ []) ≡ true = ap all_differ (append-nil (pages_of old.images height)) ∙ t.apart in
    let stay = others_stay old still new found.page (map (put e) found.entries) images w in
    let b = at e.key (height - 1) refl (tree_around e.key old.images height t) (map (put e)) new.images (put_local e) (put_keys e found.entries) w.content stay in
    let was : List ℕ = pages_of old.images height in
    let now : List ℕ = pages_of new.images height in
    let pages_are : Exchange was now [] [] = λ p. omega (arith, b.pages_are p, ap (times_in p) (append-nil was), ap (times_in p) (append-nil now)) in
    record {
      tree = record { least = t.least; most = t.most; subtree = b.subtrees.0; apart = exchange_differ was now [] [] pages_are apart };
      table = sym (append-nil (table_of new.images height)) ∙ b.entries ∙ ap (map (put e)) (append-nil (table_of old.images height));
      pages_are = pages_are;
    }

pub table_replaced : (e : Entry) (old still new : Step) (found : FoundLeaf) → still.images ≡ old.images → still.spares ≡ old.spares → IsWritten still new found.page (Leaf (map (put e) found.entries)) → IsLeafAt (UpTo e.key) old.images top found
    → (height : ℕ) → IsTable old height → HasTable new (map (put e) (table_of old.images height))
table_replaced e old still new found images spares w at height t =
    let r = tree_replaced e old still new found images w at height t.tree in
    let same_spares : new.spares ≡ old.spares = ap (λ (s : Step). s.spares) w.step ∙ spares in
    let size : length new.images ≡ length old.images = ap (λ (s : Step). length s.images) w.step ∙ length-set still.images found.page w.bytes ∙ ap length images in
    record {
      height = height;
      is = record {
        tree = r.tree;
        spare = λ page low.
            ap (λ (s : List Bool). is_spare s page) same_spares ∙ t.spare page (subst (λ (n : ℕ). page < n) size low)
            ∙ ap not (same_pages (pages_of old.images height) (pages_of new.images height) page r.pages_are);
      };
      table_is = r.table;
    }
