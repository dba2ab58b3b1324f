-- The way to the leaf at a key, along which what becomes of the leaf becomes of the subtree.
use Rattle.std.proofs.Common.{◌≡◌, ℕ, zero, suc, ◌≤◌, Bool, true, false, cond, List, [], ◌∷◌, length, take, drop, Option, Some, refl, sym, ap, subst, ◌∙◌, arith}
use Rattle.std.specs.Prelude.{slice_get}
use Rattle.std.specs.List.{AllByRecursion}
use Rattle.std.proofs.lemmas.Bool.{and_parts}
use Rattle.fsd_bytes.specs.declared.key.Key.{Key}
use Rattle.fsd_bytes.specs.Keys.{key_lt}
use Rattle.fsd_formats.specs.declared.entry.Entry.{Entry}
use Rattle.fsd_formats.specs.declared.page.Separator.{Separator}
use Rattle.fsd_formats.specs.NamePage.{Leaf, Interior, are_ascending}
use Rattle.fsd_table.specs.declared.child.Child.{Child}
use Rattle.fsd_table.specs.Pages.{page_at, children, keys_fit, entry_keys, separator_keys}
use Rattle.fsd_table.specs.Tree.{IsLeaf, IsInterior, IsSubtree}
use Rattle.fsd_table.proofs.BoundLaws.{ascend_tail}
use Rattle.fsd_table.proofs.KeyLaws.{lt_lt}
use Rattle.fsd_table.proofs.PageLaws.{at_is_page, interior_ascends}
use Rattle.fsd_forest.specs.Forest.{Stay, IsLocal}
use Rattle.fsd_forest.specs.Ways.{IsUpToKey, IsBehindKey, child_between, end_of}
use Rattle.fsd_forest.proofs.WayLaws.{child_at}
use Rattle.name_page.specs.declared.cut.Cut.{Cut}
use Rattle.name_page.specs.declared.cut.Cut.TheVariants.{UpTo}
use Rattle.name_page.specs.Cut.{is_before}
use Rattle.name_btree.specs.declared.descent.Way.{Way}
use Rattle.name_btree.specs.declared.descent.Neighbour.{Neighbour}
use Rattle.name_btree.specs.Descent.{way_to}
use Rattle.name_btree.specs.Remove.{IsAround}
use Rattle.name_btree.specs.Replace.{IsLeafAt}
use Rattle.name_btree.proofs.mending.NeighbourLaws.{up_to, past, child_around}
use Rattle.name_btree.proofs.mending.RaiseLaws.{IsEdited, child_edited}
use Rattle.name_btree.proofs.mending.RemoveLaws.{leaf_becomes}

-- ---- the child at a key

record IsChildAt (key : Key) (first : ℕ) (low high : Option Key) (separators : List Separator) (d : Child) : Type 0 where
  place : ℕ
  within : place ≤ length separators
  ends : AllByRecursion (IsUpToKey key) (take place separators)
  begins : AllByRecursion (IsBehindKey key) (drop place separators)
  child : child_between first low high (take place separators) (drop place separators) ≡ d

all_behind : (key k : Key) (separators : List Separator) → key_lt key k ≡ true → are_ascending (k ∷ separator_keys separators) ≡ true → AllByRecursion (IsBehindKey key) separators
all_behind key k [] over asc = tt
all_behind key k (s ∷ separators) over asc =
    let parts = and_parts (key_lt k s.key) (are_ascending (separator_keys (s ∷ separators))) asc in
    let here = lt_lt key k s.key over parts.0 in
    (here, all_behind key s.key separators here parts.1)

way_leads : (key : Key) (above : ℕ) (previous next : Option Neighbour) (first : ℕ) (low high : Option Key) (separators : List Separator) → are_ascending (separator_keys separators) ≡ true
    → IsChildAt key first low high separators (way_to (is_before (UpTo key)) above previous next first low high separators).child
way_leads key above previous next first low high [] asc = record { place = 0; within = omega arith; ends = tt; begins = tt; child = refl }
way_leads key above previous next first low high (s ∷ separators) asc =
    by (way_leads key above (Some (record { child = c; above = above })) next s.child (Some s.key) high separators (ascend_tail s.key (separator_keys separators) asc)) (is_before (UpTo key) s.key) refl
  where
    c : Child
    c = record { page = first; low = low; high = Some s.key }

    go : Way
    go = way_to (is_before (UpTo key)) above (Some (record { child = c; above = above })) next s.child (Some s.key) high separators

    stop : Way
    stop = record { child = c; previous = previous; next = Some (record { child = record { page = s.child; low = Some s.key; high = end_of high separators }; above = above }) }

    by : IsChildAt key s.child (Some s.key) high separators go.child → (b : Bool) → is_before (UpTo key) s.key ≡ b → IsChildAt key first low high (s ∷ separators) (cond b go stop).child
    by later true is = record { place = suc later.place; within = omega (arith, later.within); ends = ((up_to key (s ∷ []) (is, tt)).0, later.ends); begins = later.begins; child = later.child }
    by later false is =
        let over = (past key (s ∷ []) (is, tt)).0 in
        record { place = 0; within = omega arith; ends = tt; begins = (over, all_behind key s.key separators over asc); child = refl }

-- ---- the way so far

-- what becomes of what stands below the child becomes of what stands below the start
pub record Path (key : Key) (pages : List (List ℕ)) (start : Child) (level0 : ℕ) (c : Child) : Type 0 where
  pub level : ℕ
  pub around : IsAround key pages level c
  pub lift : (edit : List Entry → List Entry) (after : List (List ℕ)) → IsLocal key edit → IsEdited edit pages after [] level c → IsEdited edit pages after [] level0 start

abbrev pub IsPath : Cut → List (List ℕ) → (start c : Child) → Type 0
IsPath cut pages start c = (key : Key) (level : ℕ) → cut ≡ UpTo key → IsAround key pages level start → Path key pages start level c

pub path_begins : (cut : Cut) (pages : List (List ℕ)) (start : Child) → IsPath cut pages start start
path_begins cut pages start key level is around = record { level = level; around = around; lift = λ edit after local e. e }

path_by : (key : Key) (pages : List (List ℕ)) (start : Child) (level0 : ℕ) (c d : Child) (first : ℕ) (separators : List Separator) → page_at pages c.page ≡ Some (Interior first separators)
    → IsChildAt key first c.low c.high separators d → (level : ℕ) → IsAround key pages level c
    → ((edit : List Entry → List Entry) (after : List (List ℕ)) → IsLocal key edit → IsEdited edit pages after [] level c → IsEdited edit pages after [] level0 start) → Path key pages start level0 d
path_by key pages start level0 c d first separators at w zero around lift = absurd (subst (IsLeaf c) at around.subtree)
path_by key pages start level0 c d first separators at w (suc level) around lift =
    let there : slice_get (children first c.low c.high separators) w.place ≡ Some d = child_at first c.low c.high separators w.place w.within ∙ ap (λ (x : Child). Some x) w.child in
    record {
      level = level;
      around = child_around key pages level c first separators w.place d around at w.within w.ends w.begins there;
      lift = λ edit after local e. lift edit after local (child_edited key edit pages after [] level c first separators w.place d local around at w.within w.ends w.begins there e);
    }

pub path_down : (cut : Cut) (pages : List (List ℕ)) (start : Child) (above : ℕ) (w : Way) (first : ℕ) (separators : List Separator) → page_at pages w.child.page ≡ Some (Interior first separators) → IsPath cut pages start w.child
    → IsPath cut pages start (way_to (is_before cut) above w.previous w.next first w.child.low w.child.high separators).child
path_down cut pages start above w first separators at on key level0 is around =
    let p = on key level0 is around in
    let asc = interior_ascends w.child.page (length pages) first separators (at_is_page pages w.child.page (Interior first separators) at) in
    let leads = way_leads key above w.previous w.next first w.child.low w.child.high separators asc in
    subst (λ (x : Cut). Path key pages start level0 (way_to (is_before x) above w.previous w.next first w.child.low w.child.high separators).child) (sym is)
    (path_by key pages start level0 w.child _ first separators at leads p.level p.around p.lift)

-- ---- the leaf at its end

leaf_by : (key : Key) (pages after : List (List ℕ)) (c : Child) (edit : List Entry → List Entry) (old : List Entry) → page_at pages c.page ≡ Some (Leaf old) → entry_keys (edit old) ≡ entry_keys old
    → page_at after c.page ≡ Some (Leaf (edit old)) → Stay pages after (c.page ∷ []) → (level : ℕ) → IsSubtree level pages c → IsEdited edit pages after [] level c
leaf_by key pages after c edit old was same now stay zero sub =
    let fit : keys_fit c.low c.high (entry_keys old) ≡ true = subst (IsLeaf c) was sub in
    record { becomes = leaf_becomes edit pages after c old (edit old) was now refl (ap (keys_fit c.low c.high) same ∙ fit); stay = stay }
leaf_by key pages after c edit old was same now stay (suc level) sub = absurd (subst (IsInterior (IsSubtree level pages) c) was sub)

pub path_ends : (cut : Cut) (pages : List (List ℕ)) (start : Child) (w : Way) (entries : List Entry) → page_at pages w.child.page ≡ Some (Leaf entries) → IsPath cut pages start w.child
    → IsLeafAt cut pages start (record { page = w.child.page; entries = entries; previous = w.previous; next = w.next })
path_ends cut pages start w entries was on key level0 is around edit after local same now stay =
    let p = on key level0 is around in
    (p.lift edit after local (leaf_by key pages after w.child edit entries was same now stay p.level p.around.subtree)).becomes
