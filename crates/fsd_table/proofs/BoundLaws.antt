-- The entries below a page stand between its keys, in order.
use Rattle.std.proofs.Common.{◌≡◌, ℕ, zero, suc, true, not, ◌&&◌, List, [], ◌∷◌, ◌++◌, length, Option, Some, None, refl, ap, ◌∙◌}
use Rattle.std.specs.List.{flat_map, AllByRecursion}
use Rattle.std.proofs.lemmas.Bool.{and_parts, and_from}
use Rattle.fsd_bytes.specs.declared.key.Key.{Key}
use Rattle.fsd_bytes.specs.Keys.{key_lt}
use Rattle.fsd_formats.specs.declared.entry.Entry.{Entry}
use Rattle.fsd_formats.specs.declared.page.Separator.{Separator}
use Rattle.fsd_formats.specs.NamePage.{Content, Free, Leaf, Interior, are_ascending}
use Rattle.fsd_table.specs.declared.child.Child.{Child}
use Rattle.fsd_table.specs.Pages.{page_at, children, children_of, entries_of, not_below, below, keys_fit, entry_keys, separator_keys}
use Rattle.fsd_table.specs.Tree.{entries_below, IsLeaf, IsInterior, IsSubtree}
use Rattle.std.proofs.lemmas.List.{append-nil}
use Rattle.fsd_table.proofs.KeyLaws.{lt_lt, lt_le, lt_is_le, not_below_more, below_less}
use Rattle.fsd_table.proofs.PageLaws.{at_is_page, leaf_ascends, interior_ascends}

pub all_append : {X : Type 0} (P : X → Type 0) (xs ys : List X) → AllByRecursion P xs → AllByRecursion P ys → AllByRecursion P (xs ++ ys)
all_append P [] ys a b = b
all_append P (x ∷ xs) ys a b = (a.0, all_append P xs ys a.1 b)

pub all_split : {X : Type 0} (P : X → Type 0) (xs ys : List X) → AllByRecursion P (xs ++ ys) → AllByRecursion P xs × AllByRecursion P ys
all_split P [] ys a = (tt, a)
all_split P (x ∷ xs) ys a = let rest = all_split P xs ys a.1 in ((a.0, rest.0), rest.1)

-- and of what comes of each in turn
pub all_flat : {X Y : Type 0} (P : Y → Type 0) (f : X → List Y) → ((x : X) → AllByRecursion P (f x)) → (xs : List X) → AllByRecursion P (flat_map f xs)
all_flat P f each [] = tt
all_flat P f each (x ∷ xs) = all_append P (f x) (flat_map f xs) (each x) (all_flat P f each xs)

pub all_weaker : {X : Type 0} (P Q : X → Type 0) (xs : List X) → ((x : X) → P x → Q x) → AllByRecursion P xs → AllByRecursion Q xs
all_weaker P Q [] f a = tt
all_weaker P Q (x ∷ xs) f a = (f x a.0, all_weaker P Q xs f a.1)

pub entry_keys_append : (xs ys : List Entry) → entry_keys (xs ++ ys) ≡ entry_keys xs ++ entry_keys ys
entry_keys_append [] ys = refl
entry_keys_append (x ∷ xs) ys = ap (λ (ks : List Key). x.key ∷ ks) (entry_keys_append xs ys)

pub separator_keys_append : (xs ys : List Separator) → separator_keys (xs ++ ys) ≡ separator_keys xs ++ separator_keys ys
separator_keys_append [] ys = refl
separator_keys_append (x ∷ xs) ys = ap (λ (ks : List Key). x.key ∷ ks) (separator_keys_append xs ys)

-- the entry's key stands between these
abbrev pub Fits : Option Key → Option Key → Entry → Type 0
Fits low high e = (not_below low e.key ≡ true) × (below high e.key ≡ true)

pub entries_fit : (low high : Option Key) (entries : List Entry) → keys_fit low high (entry_keys entries) ≡ true → AllByRecursion (Fits low high) entries
entries_fit low high [] e = tt
entries_fit low high (x ∷ entries) e =
    let parts = and_parts (not_below low x.key && below high x.key) (keys_fit low high (entry_keys entries)) e in
    (and_parts (not_below low x.key) (below high x.key) parts.0, entries_fit low high entries parts.1)

-- ---- the children of an interior page, one after another

-- what is after the one bound is after the other
abbrev pub Follows : Option Key → Option Key → Type 0
Follows low2 low = (key : Key) → not_below low2 key ≡ true → not_below low key ≡ true

pub follows_separator : (low high : Option Key) (k : Key) → (not_below low k && below high k) ≡ true → Follows (Some k) low
follows_separator low high k e key after = not_below_more low k key (and_parts (not_below low k) (below high k) e).0 after

pub parts_fit : (f : Child → List Entry) (low high low2 : Option Key) (first : ℕ) (separators : List Separator) → Follows low2 low
    → keys_fit low high (separator_keys separators) ≡ true → AllByRecursion (λ d. AllByRecursion (Fits d.low d.high) (f d)) (children first low2 high separators)
    → AllByRecursion (Fits low high) (flat_map f (children first low2 high separators))
parts_fit f low high low2 first [] after fit each =
    all_append (Fits low high) (f _) [] (all_weaker (Fits low2 high) (Fits low high) (f _) (λ e h. (after e.key h.0, h.1)) each.0) tt
parts_fit f low high low2 first (s ∷ separators) after fit each =
    let parts = and_parts (not_below low s.key && below high s.key) (keys_fit low high (separator_keys separators)) fit in
    let high_too = (and_parts (not_below low s.key) (below high s.key) parts.0).1 in
    all_append (Fits low high) (f _) (flat_map f (children s.child (Some s.key) high separators))
    (all_weaker (Fits low2 (Some s.key)) (Fits low high) (f _) (λ e h. (after e.key h.0, below_less high s.key e.key high_too h.1)) each.0)
    (parts_fit f low high (Some s.key) s.child separators (follows_separator low high s.key parts.0) parts.1 each.1)

same_low : (low : Option Key) → Follows low low
same_low low key h = h

bounds_by : (level : ℕ) (pages : List (List ℕ)) (c : Child) (x : Option Content) → IsInterior (IsSubtree level pages) c x
    → ((d : Child) → IsSubtree level pages d → AllByRecursion (Fits d.low d.high) (entries_below level pages d))
    → AllByRecursion (Fits c.low c.high) (flat_map (entries_below level pages) (children_of c.low c.high x))
bounds_by level pages c None h each = absurd h
bounds_by level pages c (Some Free) h each = absurd h
bounds_by level pages c (Some (Leaf entries)) h each = absurd h
bounds_by level pages c (Some (Interior first separators)) h each =
    parts_fit (entries_below level pages) c.low c.high c.low first separators (same_low c.low) h.0
    (all_weaker (IsSubtree level pages) (λ d. AllByRecursion (Fits d.low d.high) (entries_below level pages d)) (children first c.low c.high separators) each h.1)

leaf_by : (c : Child) (x : Option Content) → IsLeaf c x → AllByRecursion (Fits c.low c.high) (entries_of x)
leaf_by c None h = absurd h
leaf_by c (Some Free) h = absurd h
leaf_by c (Some (Leaf entries)) h = entries_fit c.low c.high entries h
leaf_by c (Some (Interior first separators)) h = absurd h

-- each entry stands between the child's keys
pub entries_between : (level : ℕ) (pages : List (List ℕ)) (c : Child) → IsSubtree level pages c → AllByRecursion (Fits c.low c.high) (entries_below level pages c)
entries_between zero pages c h = leaf_by c (page_at pages c.page) h
entries_between (suc level) pages c h = bounds_by level pages c (page_at pages c.page) h (entries_between level pages)

-- ---- ascending keys

abbrev pub Ascend : List Entry → Type 0
Ascend entries = are_ascending (entry_keys entries) ≡ true

pub ascend_tail : (k : Key) (keys : List Key) → are_ascending (k ∷ keys) ≡ true → are_ascending keys ≡ true
ascend_tail k [] e = refl
ascend_tail k (a ∷ keys) e = (and_parts (key_lt k a) (are_ascending (a ∷ keys)) e).1

pub ascend_skip : (k a : Key) (keys : List Key) → are_ascending (k ∷ a ∷ keys) ≡ true → are_ascending (k ∷ keys) ≡ true
ascend_skip k a [] e = refl
ascend_skip k a (b ∷ keys) e =
    let parts = and_parts (key_lt k a) (are_ascending (a ∷ b ∷ keys)) e in
    let more = and_parts (key_lt a b) (are_ascending (b ∷ keys)) parts.1 in
    and_from (key_lt k b) (are_ascending (b ∷ keys)) (lt_lt k a b parts.0 more.0) more.1

-- later separators stand between the first and the end
pub later_fit : (k : Key) (low high : Option Key) (keys : List Key) → are_ascending (k ∷ keys) ≡ true → keys_fit low high keys ≡ true → keys_fit (Some k) high keys ≡ true
later_fit k low high [] asc fit = refl
later_fit k low high (a ∷ keys) asc fit =
    let parts = and_parts (not_below low a && below high a) (keys_fit low high keys) fit in
    let this = and_parts (key_lt k a) (are_ascending (a ∷ keys)) asc in
    and_from (not (key_lt a k) && below high a) (keys_fit (Some k) high keys)
    (and_from (not (key_lt a k)) (below high a) (lt_is_le k a this.0) (and_parts (not_below low a) (below high a) parts.0).1)
    (later_fit k low high keys (ascend_skip k a keys asc) parts.1)

pub ascend_append : (k : Key) (xs ys : List Entry) → Ascend xs → Ascend ys → AllByRecursion (λ e. key_lt e.key k ≡ true) xs → AllByRecursion (λ e. not (key_lt e.key k) ≡ true) ys → Ascend (xs ++ ys)
ascend_append k [] ys a b under over = b
ascend_append k (x ∷ []) [] a b under over = refl
ascend_append k (x ∷ []) (y ∷ ys) a b under over = and_from (key_lt x.key y.key) (are_ascending (entry_keys (y ∷ ys))) (lt_le x.key k y.key under.0 over.0) b
ascend_append k (x ∷ z ∷ xs) ys a b under over =
    let parts = and_parts (key_lt x.key z.key) (are_ascending (entry_keys (z ∷ xs))) a in
    and_from (key_lt x.key z.key) (are_ascending (entry_keys (z ∷ xs ++ ys))) parts.0 (ascend_append k (z ∷ xs) ys parts.1 b under.1 over)

-- what stands below a child, in order and between its keys
abbrev pub Good : (Child → List Entry) → Child → Type 0
Good f d = Ascend (f d) × AllByRecursion (Fits d.low d.high) (f d)

ascend_nothing : (xs : List Entry) → Ascend xs → Ascend (xs ++ [])
ascend_nothing xs a = ap (λ (x : List Entry). are_ascending (entry_keys x)) (append-nil xs) ∙ a

pub parts_ascend : (f : Child → List Entry) (low high low2 : Option Key) (first : ℕ) (separators : List Separator)
    → keys_fit low high (separator_keys separators) ≡ true → are_ascending (separator_keys separators) ≡ true
    → AllByRecursion (Good f) (children first low2 high separators) → Ascend (flat_map f (children first low2 high separators))
parts_ascend f low high low2 first [] fit asc each = ascend_nothing (f _) each.0.0
parts_ascend f low high low2 first (s ∷ separators) fit asc each =
    let parts = and_parts (not_below low s.key && below high s.key) (keys_fit low high (separator_keys separators)) fit in
    let rest : List Child = children s.child (Some s.key) high separators in
    let over = parts_fit f (Some s.key) high (Some s.key) s.child separators (same_low (Some s.key))
    (later_fit s.key low high (separator_keys separators) asc parts.1)
    (all_weaker (Good f) (λ d. AllByRecursion (Fits d.low d.high) (f d)) rest (λ d h. h.1) each.1) in
    ascend_append s.key (f _) (flat_map f rest) each.0.0
    (parts_ascend f low high (Some s.key) s.child separators parts.1 (ascend_tail s.key (separator_keys separators) asc) each.1)
    (all_weaker (Fits low2 (Some s.key)) (λ e. key_lt e.key s.key ≡ true) (f _) (λ e h. h.1) each.0.1)
    (all_weaker (Fits (Some s.key) high) (λ e. not (key_lt e.key s.key) ≡ true) (flat_map f rest) (λ e h. h.0) over)

order_by : (level : ℕ) (pages : List (List ℕ)) (c : Child) (x : Option Content) → page_at pages c.page ≡ x → IsInterior (IsSubtree level pages) c x
    → ((d : Child) → IsSubtree level pages d → Ascend (entries_below level pages d))
    → Ascend (flat_map (entries_below level pages) (children_of c.low c.high x))
order_by level pages c None at h each = absurd h
order_by level pages c (Some Free) at h each = absurd h
order_by level pages c (Some (Leaf entries)) at h each = absurd h
order_by level pages c (Some (Interior first separators)) at h each =
    parts_ascend (entries_below level pages) c.low c.high c.low first separators h.0
    (interior_ascends c.page (length pages) first separators (at_is_page pages c.page (Interior first separators) at))
    (all_weaker (IsSubtree level pages) (Good (entries_below level pages)) (children first c.low c.high separators) (λ d t. (each d t, entries_between level pages d t)) h.1)

leaf_order : (pages : List (List ℕ)) (c : Child) (x : Option Content) → page_at pages c.page ≡ x → IsLeaf c x → Ascend (entries_of x)
leaf_order pages c None at h = absurd h
leaf_order pages c (Some Free) at h = absurd h
leaf_order pages c (Some (Leaf entries)) at h = leaf_ascends c.page (length pages) entries (at_is_page pages c.page (Leaf entries) at)
leaf_order pages c (Some (Interior first separators)) at h = absurd h

pub entries_ascend : (level : ℕ) (pages : List (List ℕ)) (c : Child) → IsSubtree level pages c → Ascend (entries_below level pages c)
entries_ascend zero pages c h = leaf_order pages c (page_at pages c.page) refl h
entries_ascend (suc level) pages c h = order_by level pages c (page_at pages c.page) refl h (entries_ascend level pages)
