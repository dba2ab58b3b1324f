-- What is looked up stands in a leaf that was reached, whatever the pages are.
use Rattle.std.proofs.Common.{◌≡◌, ℕ, suc, Bool, true, false, cond, not, ◌&&◌, List, [], ◌∷◌, ◌++◌, length, Option, Some, None, refl, sym, ap, subst, ◌∙◌, arith}
use Rattle.std.specs.Prelude.{find, map, slice_get, Result, Ok, Err, IfOk, IfErr, IfSome}
use Rattle.std.specs.List.{list_all, AllByRecursion, Contains, position_or_len}
use Rattle.std.specs.Cmp.{Equal-is}
use Rattle.std.specs.Option.{MatchOption}
use Rattle.std.specs.FinMap.{slice_cmp-IsAntisymmetric, nat_cmp-IsAntisymmetric}
use Rattle.std.specs.Ordering.{nat_cmp}
use Rattle.std.specs.Cmp.Lexicographic.{slice_cmp}
use Rattle.std.proofs.lemmas.Bool.{and_parts}
use Rattle.std.proofs.lemmas.List.Elements.{All-contains}
use Rattle.std.proofs.lemmas.List.Folds.{find_at}
use Rattle.std.proofs.lemmas.List.Sums.{AllPass-from_list_all}
use Rattle.std.proofs.lemmas.Option.{slice_get_within, get_or_from_slice_get}
use Rattle.fsd_bytes.specs.declared.key.Key.{Key}
use Rattle.fsd_bytes.specs.Names.{is_between}
use Rattle.fsd_forest.specs.Ways.{end_of}
use Rattle.fsd_formats.specs.declared.entry.Entry.{Entry}
use Rattle.fsd_formats.specs.declared.page.Separator.{Separator}
use Rattle.fsd_formats.specs.NamePage.{Leaf, Interior, is_entry, are_ascending, contents_of, least_used, room}
use Rattle.fsd_table.specs.declared.child.Child.{Child}
use Rattle.fsd_table.specs.Pages.{page_at, content_fits, separator_keys, keys_fit, not_below, below}
use Rattle.fsd_table.specs.Table.{top, IsVisited}
use Rattle.fsd_table.proofs.BreakLaws.{visited_top}
use Rattle.fsd_table.proofs.BoundLaws.{all_weaker, entries_fit, follows_separator, Fits, Follows}
use Rattle.fsd_table.proofs.PageLaws.{at_is_page}
use Rattle.name_page.specs.Cut.{is_before, after_cut}
use Rattle.name_page.specs.declared.cut.Cut.{Cut}
use Rattle.name_page.specs.Lookups.{last_that, is_after, same_name}
use Rattle.name_page.specs.Looks.{Looks, Agrees, ShowsEach}
use Rattle.name_page.specs.Pages.{Step, is_spare, IsReached}
use Rattle.name_page.proofs.CutLaws.{cuts_monotone, behind}
use Rattle.name_page.proofs.LookLaws.{agrees_before}
use Rattle.name_btree.specs.Descent.{FoundLeaf}
use Rattle.name_btree.specs.declared.descent.Neighbour.{Neighbour}
use Rattle.name_btree.specs.declared.descent.Way.{Way}
use Rattle.name_btree.specs.declared.fault.TreeFault.{TreeFault}
use Rattle.name_btree.specs.declared.lookup.FoundEntry.{FoundEntry}
use Rattle.name_btree.specs.Calls.{without_page}
use Rattle.name_btree.specs.Descent.{way_to, IsNeighbour, HasNeighbours}
use Rattle.name_btree.specs.Lookup.{found_entry, BeginsBehindPlace, HasInPlace, IsLedBeside, IsLedTo, StandsIn}
use Rattle.name_btree.proofs.finding.LastLaws.{last_at}
use Rattle.name_btree.proofs.finding.NextLaws.{after_is}
use Rattle.name_btree.proofs.ways.VisitedLaws.{found_beside}

-- ---- what is found in a list is in it

pub contains_at : (xs : List Entry) (i : ℕ) (x : Entry) → slice_get xs i ≡ Some x → Contains xs x
contains_at xs i x at = (i, slice_get_within xs i x at, get_or_from_slice_get xs i x x at)

pub find_contains : (test : Entry → Bool) (xs : List Entry) (e : Entry) → find test xs ≡ Some e → Contains xs e
find_contains test xs e h = contains_at xs (position_or_len test xs) e (sym (find_at test xs) ∙ h)

pub find_passes : (test : Entry → Bool) (xs : List Entry) (e : Entry) → find test xs ≡ Some e → test e ≡ true
find_passes test [] e h = absurd cc
find_passes test (x ∷ xs) e h = by (find_passes test xs e) (test x) refl h
  where
    by : (find test xs ≡ Some e → test e ≡ true) → (b : Bool) → test x ≡ b → cond b (Some x) (find test xs) ≡ Some e → test e ≡ true
    by later true is h = let same : x ≡ e = cc in ap test (sym same) ∙ is
    by later false is h = later h

middle : (left : List Entry) (e : Entry) (right : List Entry) → Contains (left ++ e ∷ right) e
middle [] e right = (0, omega arith, refl)
middle (x ∷ left) e right = let c = middle left e right in (suc c.0, omega (arith, c.1), c.2)

pub last_contains : (test : Entry → Bool) (xs : List Entry) (e : Entry) → last_that test xs ≡ Some e → Contains xs e
last_contains test xs e h = let l = last_at test xs e h in subst (λ (ys : List Entry). Contains ys e) (sym l.parts) (middle l.left e l.right)

-- ---- an entry of a leaf

pub stands_in : (old new : Step) (page : ℕ) (entries : List Entry) (e : Entry) → IsReached new page → is_spare old.spares page ≡ false → new.spares ≡ old.spares → page_at new.images page ≡ Some (Leaf entries)
    → Contains entries e → StandsIn new (record { entry = e; page = page })
stands_in old new page entries e reached used same leaf there = record { reached = reached; used = ap (λ (spares : List Bool). is_spare spares page) same ∙ used; entries = entries; leaf = leaf; there = there }

pub good_entry : (s : Step) (f : FoundEntry) → StandsIn s f → is_entry f.entry ≡ true
good_entry s f h =
    let page = at_is_page s.images f.page (Leaf h.entries) h.leaf in
    let both = and_parts (list_all is_entry h.entries && are_ascending (map (λ e. e.key) h.entries)) (is_between (least_used f.page) room (length (contents_of (Leaf h.entries)))) page in
    All-contains (λ e. is_entry e ≡ true) h.entries f.entry (AllPass-from_list_all is_entry h.entries (and_parts (list_all is_entry h.entries) (are_ascending (map (λ e. e.key) h.entries)) both.0).0) h.there

-- ---- the way to the leaf

-- below page 0
pub led_to : (s : Step) (c : Child) (f : FoundEntry) → c ≡ top → ShowsEach s (λ pages. HasInPlace pages 0 c f.page) → IsLedTo s f
led_to s c f is below pages agrees = below pages agrees (subst (IsVisited pages 1) (sym is) (visited_top pages))

-- below a child beside the way
module _ (mid s : Step) (c : Child) (leaf : FoundLeaf) (is : c ≡ top) (looks : Looks mid s) (beside : ShowsEach mid (λ pages. HasNeighbours pages 0 c leaf)) (n : Neighbour) (f : FoundEntry) (led : IsLedBeside s n f) where
  there : (pages : List (List ℕ)) → Agrees pages s → IfSome leaf.previous (IsNeighbour pages) × IfSome leaf.next (IsNeighbour pages)
  there pages agrees = found_beside pages c leaf is (beside pages (agrees_before mid s pages looks agrees))

  pub led_next : leaf.next ≡ Some n → IsLedTo s f
  led_next at pages agrees = led pages agrees (subst (λ (o : Option Neighbour). IfSome o (IsNeighbour pages)) at (there pages agrees).1)

  pub led_previous : leaf.previous ≡ Some n → IsLedTo s f
  led_previous at pages agrees = led pages agrees (subst (λ (o : Option Neighbour). IfSome o (IsNeighbour pages)) at (there pages agrees).0)

-- ---- keys along the way

-- the way's child has no keys below the page's, and the child behind it begins behind the place
pub record Narrows (before : Key → Bool) (lo : Option Key) (w : Way) : Type 0 where
  pub low : Follows w.child.low lo
  pub next : IfSome w.next (BeginsBehindPlace before)

narrows : (before : Key → Bool) (above : ℕ) (previous next : Option Neighbour) (first : ℕ) (lo low high : Option Key) (separators : List Separator) → Follows low lo → keys_fit lo high (separator_keys separators) ≡ true
    → IfSome next (BeginsBehindPlace before) → Narrows before lo (way_to before above previous next first low high separators)
narrows before above previous next first lo low high [] follows fit begins = record { low = follows; next = begins }
narrows before above previous next first lo low high (s ∷ separators) follows fit begins =
    let parts = and_parts (not_below lo s.key && below high s.key) (keys_fit lo high (separator_keys separators)) fit in
    by (narrows before above (Some (record { child = c; above = above })) next s.child lo (Some s.key) high separators (follows_separator lo high s.key parts.0) parts.1 begins) (before s.key) refl
  where
    c : Child
    c = record { page = first; low = low; high = Some s.key }

    go : Way
    go = way_to before above (Some (record { child = c; above = above })) next s.child (Some s.key) high separators

    stop : Way
    stop = record { child = c; previous = previous; next = Some (record { child = record { page = s.child; low = Some s.key; high = end_of high separators }; above = above }) }

    by : Narrows before lo go → (b : Bool) → before s.key ≡ b → Narrows before lo (cond b go stop)
    by later true is = later
    by later false is = record { low = follows; next = (s.key, refl, is) }

pub way_narrows : (before : Key → Bool) (above : ℕ) (w : Way) (first : ℕ) (separators : List Separator) (lo : Option Key) → content_fits w.child.low w.child.high (Some (Interior first separators)) ≡ true → Narrows before lo w
    → Narrows before lo (way_to before above w.previous w.next first w.child.low w.child.high separators)
way_narrows before above w first separators lo fit on =
    let n = narrows before above w.previous w.next first w.child.low w.child.low w.child.high separators (λ key h. h) fit on.next in
    record { low = λ key h. on.low key (n.low key h); next = n.next }

pub leaf_least : (before : Key → Bool) (w : Way) (entries : List Entry) (lo : Option Key) → content_fits w.child.low w.child.high (Some (Leaf entries)) ≡ true → Narrows before lo w → AllByRecursion (λ e. not_below lo e.key ≡ true) entries
leaf_least before w entries lo fit on = all_weaker (Fits w.child.low w.child.high) (λ e. not_below lo e.key ≡ true) entries (λ e h. on.low e.key h.0) (entries_fit w.child.low w.child.high entries fit)

-- ---- later keys

pub later_in_leaf : (before : Option Key) (cut : Cut) (entries : List Entry) (e : Entry) → cut ≡ after_cut before → find (λ x. not (is_before cut x.key)) entries ≡ Some e → is_after before e.key ≡ true
later_in_leaf before cut entries e same h = after_is before e.key ∙ ap (λ (d : Cut). not (is_before d e.key)) (sym same) ∙ find_passes (λ x. not (is_before cut x.key)) entries e h

pub later_in_next : (before : Option Key) (cut : Cut) (n : Neighbour) (e : Entry) → cut ≡ after_cut before → BeginsBehindPlace (is_before cut) n → not_below n.child.low e.key ≡ true → is_after before e.key ≡ true
later_in_next before cut n e same begins least =
    let over : is_before cut e.key ≡ false = behind (is_before cut) (cuts_monotone cut) begins.0 e.key begins.2 (subst (λ (low : Option Key). not_below low e.key ≡ true) begins.1 least) in
    after_is before e.key ∙ ap (λ (d : Cut). not (is_before d e.key)) (sym same) ∙ ap not over

-- ---- what has the name

pub one_name : (a b : List ℕ) → same_name a b ≡ true → a ≡ b
one_name a b e = slice_cmp-IsAntisymmetric nat_cmp-IsAntisymmetric a b ((Equal-is (slice_cmp nat_cmp a b)).0 e)

pub if_named : (P : FoundEntry → Type 0) (f : FoundEntry) (b : Bool) (r : Option FoundEntry) → r ≡ cond b (Some f) None → (b ≡ true → P f) → IfSome r P
if_named P f b r is h = subst (λ (o : Option FoundEntry). IfSome o P) (sym is) (by b h)
  where
    by : (b : Bool) → (b ≡ true → P f) → IfSome (cond b (Some f) None) P
    by true h = h refl
    by false h = tt

-- what is told of it, and of another
pub told_named : (A : Type 0) (P : FoundEntry → Type 0) (f : FoundEntry) (b : Bool) (r : Option FoundEntry) → r ≡ cond b (Some f) None → (b ≡ true → P f) → (b ≡ false → A) → MatchOption r A P
told_named A P f b r is h other = subst (λ (o : Option FoundEntry). MatchOption o A P) (sym is) (by b h other)
  where
    by : (b : Bool) → (b ≡ true → P f) → (b ≡ false → A) → MatchOption (cond b (Some f) None) A P
    by true h other = h refl
    by false h other = other refl

-- what holds of each entry that is told
pub each_told : (A : Type 0) (P Q : FoundEntry → Type 0) (r : Option FoundEntry) → ((f : FoundEntry) → P f → Q f) → MatchOption r A P → IfSome r Q
each_told A P Q None h told = tt
each_told A P Q (Some f) h told = h f told

pub named_entry : (f : FoundEntry) (b : Bool) (r : Option FoundEntry) → r ≡ cond b (Some f) None → found_entry r ≡ cond b (Some f.entry) None
named_entry f b r is = ap found_entry is ∙ by b
  where
    by : (b : Bool) → found_entry (cond b (Some f) None) ≡ cond b (Some f.entry) None
    by true = refl
    by false = refl

-- ---- the answer without the leaf

pub ok_alone : (r : Result (Option FoundEntry) TreeFault) (P : Option Entry → Type 0) → IfOk r (λ found. P (found_entry found)) → IfOk (without_page r) P
ok_alone (Ok found) P h = h
ok_alone (Err fault) P h = tt

pub err_alone : (r : Result (Option FoundEntry) TreeFault) (P : TreeFault → Type 0) → IfErr r P → IfErr (without_page r) P
err_alone (Ok found) P h = tt
err_alone (Err fault) P h = h
