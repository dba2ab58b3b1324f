-- What a search meets on its way, and what it finds in memory.
use Rattle.std.proofs.Common.{◌≡◌, ◌⊎◌, inl, inr, ℕ, ◌-◌, Bool, true, false, cond, not, ◌&&◌, List, [], ◌∷◌, Option, Some, refl, sym, ap, subst, ◌∙◌}
use Rattle.std.specs.List.{AllByRecursion, Contains, list_any}
use Rattle.std.proofs.lemmas.List.Elements.{All-contains, All-from_recursion}
use Rattle.fsd_bytes.specs.declared.key.Key.{Key}
use Rattle.fsd_formats.specs.declared.page.Separator.{Separator}
use Rattle.fsd_formats.specs.NamePage.{Content}
use Rattle.fsd_table.specs.declared.child.Child.{Child}
use Rattle.fsd_bytes.specs.Keys.{key_lt}
use Rattle.fsd_formats.specs.NamePage.{are_ascending}
use Rattle.fsd_table.specs.Pages.{children, below, keys_fit, not_below, separator_keys}
use Rattle.fsd_table.specs.Table.{max_height}
use Rattle.fsd_table.proofs.BoundLaws.{Follows, ascend_tail, follows_separator, later_fit}
use Rattle.fsd_table.proofs.KeyLaws.{below_less, le_itself}
use Rattle.fsd_forest.specs.Parts.{is_inside}
use Rattle.std.proofs.lemmas.Bool.{and_parts, and_from, or_parts}
use Rattle.name_page.specs.Cut.{is_before}
use Rattle.name_page.specs.declared.cut.Cut.TheVariants.{UpTo}
use Rattle.name_page.proofs.CutLaws.{greater}
use Rattle.fsd_forest.specs.Met.{met_below, pages_met}
use Rattle.fsd_forest.specs.Ways.{end_of}
use Rattle.name_btree.specs.declared.descent.Way.{Way}
use Rattle.name_btree.specs.declared.descent.Neighbour.{Neighbour}
use Rattle.name_btree.specs.Descent.{way_to}
use Rattle.name_btree.specs.Path.{met_beside}

-- ---- tests of entries

pub any_fails : {X : Type 0} (test : X → Bool) (xs : List X) → list_any test xs ≡ false → AllByRecursion (λ x. test x ≡ false) xs
any_fails test [] e = tt
any_fails test (x ∷ xs) e = let parts = or_parts (test x) (list_any test xs) e in (parts.0, any_fails test xs parts.1)

pub none_passes : {X : Type 0} (test : X → Bool) (xs : List X) → AllByRecursion (λ x. test x ≡ false) xs → list_any test xs ≡ false
none_passes test [] a = refl
none_passes test (x ∷ xs) a = rw a.0 (none_passes test xs a.1)

pub any_at : {X : Type 0} (test : X → Bool) (xs : List X) (x : X) → Contains xs x → test x ≡ true → list_any test xs ≡ true
any_at test xs x there passes = by (list_any test xs) refl
  where
    by : (b : Bool) → list_any test xs ≡ b → b ≡ true
    by true e = refl
    by false e = absurd (let no : test x ≡ false = All-contains (λ y. test y ≡ false) xs x (All-from_recursion (λ y. test y ≡ false) xs (any_fails test xs e)) there in cc)

-- ---- the way's child, and the one left of it

-- the children that are met beside the way don't tell where it leads
pub same_way : (before : Key → Bool) (above other : ℕ) (p n q m : Option Neighbour) (first : ℕ) (low high : Option Key) (separators : List Separator)
    → (way_to before above p n first low high separators).child ≡ (way_to before other q m first low high separators).child
same_way before above other p n q m first low high [] = refl
same_way before above other p n q m first low high (s ∷ separators) =
    by (same_way before above other (beside above) n (beside other) m s.child (Some s.key) high separators) (before s.key)
  where
    c : Child
    c = record { page = first; low = low; high = Some s.key }

    d : Child
    d = record { page = s.child; low = Some s.key; high = end_of high separators }

    beside : ℕ → Option Neighbour
    beside k = Some (record { child = c; above = k })

    go : ℕ → Option Neighbour → Way
    go k o = way_to before k (beside k) o s.child (Some s.key) high separators

    stop : ℕ → Option Neighbour → Way
    stop k o = record { child = c; previous = o; next = Some (record { child = d; above = k }) }

    by : (go above n).child ≡ (go other m).child → (b : Bool) → (cond b (go above n) (stop above p)).child ≡ (cond b (go other m) (stop other q)).child
    by later true = later
    by later false = refl

-- one of some children
abbrev pub IsOf : List Child → Child → Type 0
IsOf [] d = ⊥
IsOf (c ∷ cs) d = (d ≡ c) ⊎ IsOf cs d

pub way_child : (before : Key → Bool) (above : ℕ) (previous next : Option Neighbour) (first : ℕ) (low high : Option Key) (separators : List Separator)
    → IsOf (children first low high separators) (way_to before above previous next first low high separators).child
way_child before above previous next first low high [] = inl refl
way_child before above previous next first low high (s ∷ separators) = by (way_child before above (Some (record { child = c; above = above })) next s.child (Some s.key) high separators) (before s.key)
  where
    c : Child
    c = record { page = first; low = low; high = Some s.key }

    go : Way
    go = way_to before above (Some (record { child = c; above = above })) next s.child (Some s.key) high separators

    stop : Way
    stop = record { child = c; previous = previous; next = Some (record { child = record { page = s.child; low = Some s.key; high = end_of high separators }; above = above }) }

    by : IsOf (children s.child (Some s.key) high separators) go.child → (b : Bool) → IsOf (children first low high (s ∷ separators)) (cond b go stop).child
    by later true = inr later
    by later false = inl refl

-- what is left of the way is what was there before, or a child of the page
pub way_previous : (R : Option Neighbour → Type 0) (before : Key → Bool) (above : ℕ) (previous next : Option Neighbour) (first : ℕ) (low high : Option Key) (separators : List Separator)
    → R previous → ((d : Child) → IsOf (children first low high separators) d → R (Some (record { child = d; above = above })))
    → R (way_to before above previous next first low high separators).previous
way_previous R before above previous next first low high [] r f = r
way_previous R before above previous next first low high (s ∷ separators) r f =
    by (way_previous R before above (Some (record { child = c; above = above })) next s.child (Some s.key) high separators (f c (inl refl)) (λ d is. f d (inr is))) (before s.key)
  where
    c : Child
    c = record { page = first; low = low; high = Some s.key }

    go : Way
    go = way_to before above (Some (record { child = c; above = above })) next s.child (Some s.key) high separators

    stop : Way
    stop = record { child = c; previous = previous; next = Some (record { child = record { page = s.child; low = Some s.key; high = end_of high separators }; above = above }) }

    by : R go.previous → (b : Bool) → R (cond b go stop).previous
    by later true = later
    by later false = r

-- ---- what a search meets below a page

-- as the way goes on
pub met_way : (at : ℕ → Option Content) (before : Key → Bool) (above : ℕ) (previous next : Option Neighbour) (first : ℕ) (low high : Option Key) (separators : List Separator)
    → met_below (pages_met (max_height - above) at before) (pages_met (max_height - above) at (λ key. true) []) before (met_beside at previous) first separators
    ≡ pages_met (max_height - above) at before (met_beside at (way_to before above previous next first low high separators).previous) (way_to before above previous next first low high separators).child.page
met_way at before above previous next first low high [] = refl
met_way at before above previous next first low high (s ∷ separators) = by (met_way at before above (Some (record { child = c; above = above })) next s.child (Some s.key) high separators) (before s.key)
  where
    c : Child
    c = record { page = first; low = low; high = Some s.key }

    go : Way
    go = way_to before above (Some (record { child = c; above = above })) next s.child (Some s.key) high separators

    stop : Way
    stop = record { child = c; previous = previous; next = Some (record { child = record { page = s.child; low = Some s.key; high = end_of high separators }; above = above }) }

    down : List ℕ → ℕ → List ℕ
    down = pages_met (max_height - above) at before

    last : ℕ → List ℕ
    last = pages_met (max_height - above) at (λ key. true) []

    by : met_below down last before (last first) s.child separators ≡ down (met_beside at go.previous) go.child.page → (b : Bool)
        → cond b (met_below down last before (last first) s.child separators) (down (met_beside at previous) first) ≡ down (met_beside at (cond b go stop).previous) (cond b go stop).child.page
    by later true = later
    by later false = refl

-- it goes down from the way's child, whatever is left of it
pub met_child : (down : List ℕ → ℕ → List ℕ) (last : ℕ → List ℕ) (before : Key → Bool) (left : List ℕ) (above : ℕ) (previous next : Option Neighbour) (first : ℕ) (low high : Option Key) (separators : List Separator)
    → (other : List ℕ) × (met_below down last before left first separators ≡ down other (way_to before above previous next first low high separators).child.page)
met_child down last before left above previous next first low high [] = (left, refl)
met_child down last before left above previous next first low high (s ∷ separators) = by (met_child down last before (last first) above (Some (record { child = c; above = above })) next s.child (Some s.key) high separators) (before s.key)
  where
    c : Child
    c = record { page = first; low = low; high = Some s.key }

    go : Way
    go = way_to before above (Some (record { child = c; above = above })) next s.child (Some s.key) high separators

    stop : Way
    stop = record { child = c; previous = previous; next = Some (record { child = record { page = s.child; low = Some s.key; high = end_of high separators }; above = above }) }

    by : (other : List ℕ) × (met_below down last before (last first) s.child separators ≡ down other go.child.page) → (b : Bool)
        → (other : List ℕ) × (cond b (met_below down last before (last first) s.child separators) (down left first) ≡ down other (cond b go stop).child.page)
    by later true = later
    by later false = (left, refl)

-- ---- keys of a child

-- a key between those of a child stands between the page's
pub inside_up : (key : Key) (lo low high : Option Key) (first : ℕ) (separators : List Separator) (d : Child) → Follows low lo → keys_fit lo high (separator_keys separators) ≡ true
    → IsOf (children first low high separators) d → is_inside d key ≡ true → (not_below lo key && below high key) ≡ true
inside_up key lo low high first [] d after fit (inl is) h =
    let c : Child = record { page = first; low = low; high = high } in
    let parts = and_parts (not_below low key) (below high key) (subst (λ (x : Child). is_inside x key ≡ true) is h) in
    and_from (not_below lo key) (below high key) (after key parts.0) parts.1
inside_up key lo low high first [] d after fit (inr none) h = absurd none
inside_up key lo low high first (s ∷ separators) d after fit (inl is) h =
    let both = and_parts (not_below lo s.key && below high s.key) (keys_fit lo high (separator_keys separators)) fit in
    let parts = and_parts (not_below low key) (key_lt key s.key) (subst (λ (x : Child). is_inside x key ≡ true) is h) in
    and_from (not_below lo key) (below high key) (after key parts.0) (below_less high s.key key (and_parts (not_below lo s.key) (below high s.key) both.0).1 parts.1)
inside_up key lo low high first (s ∷ separators) d after fit (inr later) h =
    let both = and_parts (not_below lo s.key && below high s.key) (keys_fit lo high (separator_keys separators)) fit in
    inside_up key lo (Some s.key) high s.child separators d (follows_separator lo high s.key both.0) both.1 later h

-- the way of a key leads to the child that it stands in
pub way_is : (key : Key) (above : ℕ) (previous next : Option Neighbour) (first : ℕ) (lo low high : Option Key) (separators : List Separator) (d : Child) → are_ascending (separator_keys separators) ≡ true → keys_fit lo high (separator_keys separators) ≡ true
    → IsOf (children first low high separators) d → is_inside d key ≡ true → (way_to (is_before (UpTo key)) above previous next first low high separators).child ≡ d
way_is key above previous next first lo low high [] d asc fit (inl is) h = sym is
way_is key above previous next first lo low high [] d asc fit (inr none) h = absurd none
way_is key above previous next first lo low high (s ∷ separators) d asc fit is h =
    by (λ later. way_is key above (Some (record { child = record { page = first; low = low; high = Some s.key }; above = above })) next s.child lo (Some s.key) high separators d (ascend_tail s.key (separator_keys separators) asc)
    (and_parts (not_below lo s.key && below high s.key) (keys_fit lo high (separator_keys separators)) fit).1 later h) is (is_before (UpTo key) s.key) refl
  where
    c : Child
    c = record { page = first; low = low; high = Some s.key }

    go : Way
    go = way_to (is_before (UpTo key)) above (Some (record { child = c; above = above })) next s.child (Some s.key) high separators

    stop : Way
    stop = record { child = c; previous = previous; next = Some (record { child = record { page = s.child; low = Some s.key; high = end_of high separators }; above = above }) }

    both : ((not_below lo s.key && below high s.key) ≡ true) × (keys_fit lo high (separator_keys separators) ≡ true)
    both = and_parts (not_below lo s.key && below high s.key) (keys_fit lo high (separator_keys separators)) fit

    later_fits : keys_fit (Some s.key) high (separator_keys separators) ≡ true
    later_fits = later_fit s.key lo high (separator_keys separators) asc both.1

    by : (IsOf (children s.child (Some s.key) high separators) d → go.child ≡ d) → IsOf (children first low high (s ∷ separators)) d → (b : Bool) → is_before (UpTo key) s.key ≡ b → (cond b go stop).child ≡ d
    by down (inl is) false e = sym is
    by down (inl is) true e =
        let under : key_lt key s.key ≡ true = (and_parts (not_below low key) (key_lt key s.key) (subst (λ (x : Child). is_inside x key ≡ true) is h)).1 in
        absurd (let no : not (key_lt key s.key) ≡ true = ap not (sym (greater s.key key)) ∙ e in cc)
    by down (inr later) true e = down later
    by down (inr later) false e =
        let over = (and_parts (not (key_lt key s.key)) (below high key) (inside_up key (Some s.key) (Some s.key) high s.child separators d (λ k x. x) later_fits later h)).0 in
        absurd (let yes : is_before (UpTo key) s.key ≡ true = ap not (greater s.key key) ∙ over in cc)

pub up_to_itself : (key : Key) → is_before (UpTo key) key ≡ true
up_to_itself key = ap not (greater key key) ∙ le_itself key
