-- A step that begins, and what holds of the table before it.
use Rattle.std.proofs.Common.{◌≡◌, ℕ, ◌-◌, ◌<◌, List, length, Option, sym, ap, subst, ◌∙◌, zero, suc, Some, None, Bool}
use Rattle.std.specs.Prelude.{IfErr, IfOk, Result, Ok, Err, slice_get}
use Rattle.std.proofs.lemmas.Result.{on_err_weaker}
use Rattle.fsd_formats.specs.declared.entry.Entry.{Entry}
use Rattle.fsd_table.specs.Tree.{IsTree, table_of}
use Rattle.fsd_table.proofs.BoundLaws.{Ascend, entries_ascend, all_weaker}
use Rattle.fsd_table.specs.Table.{top, max_height}
use Rattle.std.specs.List.{AllByRecursion}
use Rattle.fsd_formats.specs.NamePage.{Content, Free, Leaf, Interior}
use Rattle.fsd_table.specs.declared.child.Child.{Child}
use Rattle.fsd_table.specs.Pages.{content_fits, page_at}
use Rattle.fsd_forest.specs.Met.{search_of}
use Rattle.name_btree.specs.Path.{HasPath, HasWayTo, Leads, LeadsOn, TakesNone}
use Rattle.name_page.specs.declared.pages.Pages.{Ghosts}
use Rattle.name_page.specs.Looks.{ChangesPages}
use Rattle.name_page.specs.Pages.{Step, spare_count, is_spare, rested}
use Rattle.name_page.proofs.LookLaws.{Joins, edits_then, pages_same, pages_then, rest_walks, walks_edits, walks_then}
use Rattle.name_btree.specs.declared.fault.TreeFault.{TreeFault}
use Rattle.name_btree.specs.Change.{ChangesTable, FailsInsert}
use Rattle.name_btree.specs.Fault.{FailsAmong, FailsSpare, IsAmong}
use Rattle.name_btree.specs.Map.{HasTable, IsTable}
use Rattle.name_btree.specs.declared.lookup.FoundEntry.{FoundEntry}
use Rattle.name_btree.specs.Lookup.{found_entry}
use Rattle.name_btree.proofs.steps.CallLaws.{same_table}
use Rattle.version_table.specs.Table.{MakesTable, OfTable}

-- the keys of a tree ascend
pub tree_ascends : (pages : List (List ℕ)) (height : ℕ) → IsTree pages height → Ascend (table_of pages height)
tree_ascends pages height tree = entries_ascend (height - 1) pages top tree.subtree

module _ {D : Type 0} (P : Ghosts D) (a b c : D) (is : P.step b ≡ rested (P.step a)) where
  same_images : (P.step b).images ≡ (P.step a).images
  same_images = ap (λ (s : Step). s.images) is

  -- so many pages are there
  pub among_rested : (Holds : ℕ → Type 0) → (0 < length (P.step b).images → Holds (length (P.step b).images)) → 0 < length (P.step a).images → Holds (length (P.step a).images)
  among_rested Holds h = subst (λ (n : ℕ). 0 < n → Holds n) (ap (λ (pages : List (List ℕ)). length pages) same_images) h

  -- what holds of the table as the step begins
  pub of_rested : (Holds : List Entry → Type 0) → (P.trusted c → (height : ℕ) → IsTree (P.step b).images height → Holds (table_of (P.step b).images height)) → OfTable P a c Holds
  of_rested Holds h trusted height tree =
      subst (λ (pages : List (List ℕ)). Holds (table_of pages height)) same_images (h trusted height (subst (λ (pages : List (List ℕ)). IsTree pages height) (sym same_images) tree))

  -- what was found there
  pub found_rested : (look : List Entry → Option Entry) (words : List Entry → Option Entry) → ((table : List Entry) → look table ≡ words table) → (r : Result (Option FoundEntry) TreeFault) (o : Option FoundEntry) → r ≡ Ok o
      → IfOk r (λ found. P.trusted c → (height : ℕ) → IsTree (P.step b).images height → found_entry found ≡ look (table_of (P.step b).images height)) → OfTable P a c (λ table. words table ≡ found_entry o)
  found_rested look words same r o is_ok h =
      of_rested (λ (table : List Entry). words table ≡ found_entry o) (λ trusted height tree.
      let there = subst (λ (x : Result (Option FoundEntry) TreeFault). IfOk x (λ found. P.trusted c → (height : ℕ) → IsTree (P.step b).images height → found_entry found ≡ look (table_of (P.step b).images height))) is_ok h in
      sym (there trusted height tree ∙ same (table_of (P.step b).images height)))

  pub fails_rested : (r : Result (Unit {0}) TreeFault) → IfErr r (FailsAmong P b c) → IfErr r (FailsAmong P a c)
  fails_rested (Ok done) h = tt
  fails_rested (Err fault) h = record { among = among_rested (λ (pages : ℕ). IsAmong pages fault) h.among; cause = h.cause }

  pub insert_rested : (r : Result (Unit {0}) TreeFault) → IfErr r (FailsInsert P b c) → IfErr r (FailsInsert P a c)
  insert_rested (Ok done) h = tt
  insert_rested (Err fault) h = record {
    among = among_rested (λ (pages : ℕ). IsAmong pages fault) h.among;
    cause = subst (λ (free : ℕ). FailsSpare P free c fault) (ap (λ (s : Step). spare_count s) is) h.cause;
  }

  -- what is needed of it
  pub for_rested : (Holds : List Entry → Type 0) → OfTable P a a Holds → (P.trusted b → P.trusted a) → P.trusted b → (height : ℕ) → IsTree (P.step b).images height → Holds (table_of (P.step b).images height)
  for_rested Holds h trust trusted height tree =
      subst (λ (pages : List (List ℕ)). Holds (table_of pages height)) (sym same_images) (h (trust trusted) height (subst (λ (pages : List (List ℕ)). IsTree pages height) same_images tree))

  pub makes_rested : (edit made : List Entry → List Entry) → ((height : ℕ) → IsTree (P.step a).images height → P.trusted c → made (table_of (P.step a).images height) ≡ edit (table_of (P.step a).images height))
      → (P.trusted c → (height : ℕ) → IsTable (P.step b) height → HasTable (P.step c) (made (table_of (P.step b).images height))) → MakesTable P a c edit
  makes_rested edit made same h trusted height table =
      let old : IsTable (P.step b) height = same_table (P.step a) (P.step b) height same_images (ap (λ (s : Step). s.spares) is) table in
      subst (HasTable (P.step c)) (ap (λ (pages : List (List ℕ)). made (table_of pages height)) same_images ∙ same height table.tree trusted) (h trusted height old)

-- what pages that are changed have, behind a step that ends
pub rested_pages : (a b c : Step) → b ≡ rested a → length c.images ≡ length b.images → ChangesPages b c → ChangesPages a c
rested_pages a b c rest count pages =
    pages_then a b c count (pages_same a b (ap (λ (s : Step). length s.images) rest) (ap (λ (s : Step). s.changed) rest) (λ page lt was. ap (λ (s : Step). slice_get s.images page) rest)) pages

-- ---- a change behind a step that ends

pub edits_rested : {D : Type 0} (P : Ghosts D) (law : Joins P) (a b c : D) → P.outside None a b → (P.trusted b → P.trusted a) → P.step b ≡ rested (P.step a) → (r : Result (Unit {0}) TreeFault) → ChangesTable P b c r → ChangesTable P a c r
edits_rested P law a b c outside trust is r h =
    let rest = rest_walks P a b outside trust is in
    record {
      calls = edits_then P law a b c (walks_edits P a b rest) h.calls;
      pages = rested_pages (P.step a) (P.step b) (P.step c) is h.calls.count h.pages;
      kept = on_err_weaker r (walks_then P law a b c rest) h.kept;
    }

-- ---- what is in memory once it has begun

module _ {D : Type 0} (P : Ghosts D) (t t' : D) (takes : TakesNone P None t t') where
  pub path_later : (name : List ℕ) → HasPath P name t → HasPath P name t'
  path_later name has =
      let path : List (List ℕ) → List ℕ = λ (pages : List (List ℕ)). search_of (page_at pages) name in
      subst (λ (pages : List (List ℕ)). AllByRecursion (P.in_memory t') (path pages)) (sym takes.images) (all_weaker (P.in_memory t) (P.in_memory t') (path (P.step t).images) takes.stays has)

  on_later : (levels : ℕ) (e : Entry) (c : Child) (x : Option Content) → ((d : Child) → Leads P levels t e d → Leads P levels t' e d) → LeadsOn (Leads P levels t e) e c x → LeadsOn (Leads P levels t' e) e c x
  on_later levels e c None f h = absurd h
  on_later levels e c (Some Free) f h = absurd h
  on_later levels e c (Some (Leaf entries)) f h = h
  on_later levels e c (Some (Interior first separators)) f h = f _ h

  leads_later : (levels : ℕ) (e : Entry) (c : Child) → Leads P levels t e c → Leads P levels t' e c
  leads_later zero e c h = absurd h
  leads_later (suc levels) e c h = (
    record {
      there = takes.stays c.page h.0.there;
      used = ap (λ (spares : List Bool). is_spare spares c.page) takes.spares ∙ h.0.used;
      inside = h.0.inside;
      fits = ap (λ (pages : List (List ℕ)). content_fits c.low c.high (page_at pages c.page)) takes.images ∙ h.0.fits;
    },
    subst (λ (pages : List (List ℕ)). LeadsOn (Leads P levels t' e) e c (page_at pages c.page)) (sym takes.images) (on_later levels e c (page_at (P.step t).images c.page) (leads_later levels e) h.1),
  )

  pub way_later : (e : Entry) → HasWayTo P e t → HasWayTo P e t'
  way_later e way = leads_later max_height e top way
