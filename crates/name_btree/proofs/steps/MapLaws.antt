-- Entries that are taken out one after another, and one that is put in then.
use Rattle.std.proofs.Common.{◌≡◌, ℕ, ◌+◌, ◌*◌, ◌≤◌, Bool, ◌||◌, List, [], ◌∷◌, ◌++◌, length, Option, None, refl, sym, ap, subst, ◌∙◌, arith}
use Rattle.std.specs.Prelude.{◌==◌}
use Rattle.std.specs.List.{AllByRecursion}
use Rattle.std.proofs.lemmas.List.Folds.{list_any-append}
use Rattle.std.proofs.lemmas.Bool.{false_from_ne_true}
use Rattle.run_table.specs.Space.{contains, all_differ}
use Rattle.fsd_bytes.specs.declared.key.Key.{Key}
use Rattle.fsd_bytes.specs.declared.refusal.Refusal.{Refusal}
use Rattle.fsd_formats.specs.declared.entry.Entry.{Entry}
use Rattle.fsd_table.specs.Tree.{pages_of, table_of, IsTree}
use Rattle.fsd_forest.specs.Forest.{Disjoint, times_in}
use Rattle.fsd_forest.proofs.CountLaws.{count_append, count_nothing, there_counts, differ_counts}
use Rattle.name_page.specs.Pages.{reaches, Keeps, with_images, with_promise}
use Rattle.name_page.specs.Edits.{without}
use Rattle.name_btree.specs.declared.draft.Draft.{Draft}
use Rattle.name_btree.specs.declared.draft.Sheet.{Sheet}
use Rattle.name_btree.specs.Draft.{drafted, IsTreeDraft, RemovesFrom}
use Rattle.name_page.specs.declared.pages.Pages.{Ghosts}
use Rattle.name_page.specs.Looks.{OnlyReaches, OnlyWalks, ShowsEach}
use Rattle.name_page.proofs.LookLaws.{Joins, Trusts, reaches_still, reaches_then, reaches_walks, walks_then, spare_walks, agrees_before}
use Rattle.name_btree.specs.Fault.{IsNoTree}
use Rattle.name_btree.specs.Map.{without_all, HasLeft, LeavesTree}

-- pages that are promised, and then some that are reached
pub promised_walks : {D : Type 0} (P : Ghosts D) {refusal : Option Refusal} (law : Joins P) (trust : Trusts P) (a b c : D) (n : ℕ) → P.outside None a b → Keeps (P.step a) (P.step b).images
    → (P.trusted b → (P.step b).images ≡ (P.step a).images) → P.step b ≡ with_promise n (with_images (P.step b).images (P.step a)) → OnlyReaches P refusal b c → OnlyWalks P refusal a c
promised_walks P law trust a b c n outside kept stays is x = walks_then P law a b c (spare_walks P a b n outside (trust a b None outside) kept stays is) (reaches_walks P b c x)

-- ---- entries that are taken out

-- the draft, once the entries with some keys were taken out
pub record IsCleared {D : Type 0} (P : Ghosts D) (old now : D) (d : Draft) (keys : List Key) (n : ℕ) : Type 0 where
  pub calls : OnlyReaches P None old now
  pub reaches : reaches (P.step old) ≤ reaches (P.step now) + 12 * n
  pub draft : IsTreeDraft (P.step now) d
  pub room : length d.sheets.items ≤ 8 * n
  pub free : length d.freed.items ≤ 6 * n
  pub left : ShowsEach (P.step now) (λ pages. LeavesTree pages d keys)

pub cleared_none : {D : Type 0} (P : Ghosts D) (a : D) (d : Draft) → P.outside None a a → d.sheets.items ≡ [] → d.freed.items ≡ [] → IsCleared P a a d [] 0
cleared_none P a d still sheets freed = record {
  calls = reaches_still P a still;
  reaches = omega arith;
  draft = record { sheets = subst (AllByRecursion _) (sym sheets) tt; freed = subst (AllByRecursion _) (sym freed) tt; apart = ap all_differ freed };
  room = omega (arith, ap length sheets);
  free = omega (arith, ap length freed);
  left = λ images is height tree. record {
    height_after = height;
    went = [];
    tree = subst (λ (im : List (List ℕ)). IsTree im height) (sym (same images sheets)) tree;
    table = ap (λ (im : List (List ℕ)). table_of im height) (same images sheets);
    pages_are = λ p. ap (λ (im : List (List ℕ)). times_in p (pages_of im height) + times_in p []) (same images sheets);
    freed = λ page. ap (λ (ps : List ℕ). contains ps page) freed;
  };
}
  where
    same : (images : List (List ℕ)) → d.sheets.items ≡ [] → drafted d.sheets.items images ≡ images
    same images e = ap (λ (s : List Sheet). drafted s images) e

without_more : (keys : List Key) (key : Key) (table : List Entry) → without_all (keys ++ key ∷ []) table ≡ without key (without_all keys table)
without_more [] key table = refl
without_more (k ∷ keys) key table = without_more keys key (without k table)

-- a page that went is in no tree that is left
gone_apart : (images : List (List ℕ)) (d : Draft) (keys : List Key) (height : ℕ) → IsTree images height → (h : HasLeft images d keys height) → Disjoint (pages_of (drafted d.sheets.items images) h.height_after) d.freed.items
gone_apart images d keys height tree h p there =
    h.freed p ∙ false_from_ne_true (contains h.went p) (λ went. absurd (omega (
      arith,
      there_counts p (pages_of (drafted d.sheets.items images) h.height_after) there,
      there_counts p h.went went,
      h.pages_are p,
      differ_counts (pages_of images height) tree.apart p,
      count_nothing p,
    )))

left_more : (images : List (List ℕ)) (d d2 : Draft) (keys : List Key) (key : Key) → LeavesTree images d keys → RemovesFrom images d d2 key → LeavesTree images d2 (keys ++ key ∷ [])
left_more images d d2 keys key left r height tree =
    let h = left height tree in
    let more = r h.height_after h.tree (gone_apart images d keys height tree h) in
    let went : List ℕ = more.0 in
    let b = more.1 in
    record {
      height_after = b.height_after;
      went = h.went ++ went;
      tree = b.tree;
      table = b.table ∙ ap (without key) h.table ∙ sym (without_more keys key (table_of images height));
      pages_are = λ p. omega (arith, b.pages_are p, h.pages_are p, count_append p h.went went, count_nothing p);
      freed = λ page. more.2 page ∙ ap (λ (v : Bool). v || contains went page) (h.freed page) ∙ sym (list_any-append (λ t. t == page) h.went went);
    }

pub cleared_more : {D : Type 0} (P : Ghosts D) (law : Joins P) (old now new : D) (d d2 : Draft) (keys : List Key) (key : Key) (n : ℕ) → IsCleared P old now d keys n → OnlyReaches P None now new
    → reaches (P.step now) ≤ reaches (P.step new) + 12 → IsTreeDraft (P.step new) d2 → length d2.sheets.items ≤ length d.sheets.items + 8 → length d2.freed.items ≤ length d.freed.items + 6
    → ShowsEach (P.step new) (λ pages. RemovesFrom pages d d2 key) → IsCleared P old new d2 (keys ++ key ∷ []) (n + 1)
cleared_more P law old now new d d2 keys key n c calls reaches draft sheets freed removes = record {
  calls = reaches_then P law old now new c.calls calls;
  reaches = omega (arith, c.reaches, reaches);
  draft = draft;
  room = omega (arith, c.room, sheets);
  free = omega (arith, c.free, freed);
  left = λ images agrees. left_more images d d2 keys key (c.left images (agrees_before (P.step now) (P.step new) images calls.looks agrees)) (removes images agrees);
}

-- what is left of a tree is a tree
pub left_tree : (images : List (List ℕ)) (d : Draft) (keys : List Key) → LeavesTree images d keys → IsNoTree (drafted d.sheets.items images) → IsNoTree images
left_tree images d keys left none height tree = let h = left height tree in none h.height_after h.tree
