-- What the pages have once two pages are joined or parted, and what becomes of two leaves.
use Rattle.std.proofs.Common.{◌≡◌, ℕ, zero, suc, ◌+◌, ◌-◌, ◌<◌, Bool, true, false, cond, not, ◌&&◌, List, [], ◌∷◌, ◌++◌, take, drop, Option, Some, refl, sym, ap, subst, ◌∙◌, arith}
use Rattle.std.proofs.lemmas.Option.{same_Some}
use Rattle.std.specs.Prelude.{slice_get}
use Rattle.std.specs.List.{flat_map, AllByRecursion}
use Rattle.std.proofs.lemmas.Bool.{and_parts}
use Rattle.std.proofs.lemmas.List.{append-nil}
use Rattle.fsd_bytes.specs.declared.key.Key.{Key}
use Rattle.fsd_bytes.specs.Keys.{key_lt}
use Rattle.fsd_formats.specs.declared.entry.Entry.{Entry}
use Rattle.fsd_formats.specs.declared.page.Separator.{Separator}
use Rattle.fsd_formats.specs.NamePage.{Content}
use Rattle.fsd_formats.specs.NamePage as grammar
use Rattle.fsd_table.specs.declared.child.Child.{Child}
use Rattle.fsd_table.specs.Pages.{page_at, keys_fit, not_below, below, entry_keys, entries_of}
use Rattle.fsd_table.proofs.KeyLaws.{lt_le}
use Rattle.fsd_forest.specs.Parts.{left_part}
use Rattle.fsd_forest.specs.Ways.{IsUpToKey, IsBehindKey, child_between, child_behind, end_of}
use Rattle.fsd_forest.proofs.WayLaws.{high_is}
use Rattle.name_page.specs.Edits.{without}
use Rattle.name_page.specs.Pages.{Step}
use Rattle.name_btree.specs.declared.draft.Draft.{Draft}
use Rattle.name_btree.specs.declared.trimming.Pair.{Pair}
use Rattle.name_btree.specs.declared.trimming.Trimmed.{Trimmed}
use Rattle.name_btree.specs.declared.trimming.Trimmed.TheVariants.{Whole, Leaf, Interior}
use Rattle.name_btree.specs.Draft.{drafted}
use Rattle.name_btree.specs.Trim.{IsPair, both_entries, separators_shared, AreJoined, AreShared}
use Rattle.name_btree.proofs.mending.NeighbourLaws.{is_local}
use Rattle.name_btree.proofs.mending.PairLaws.{left_child, right_child, AreSides, AtLeft, AtRight, low_same}

-- ---- what the pages have

pub record JoinedHas (between after : List (List ℕ)) (page : ℕ) (pair : Pair) (x : Content) : Type 0 where
  pub content : page_at after pair.left ≡ Some x
  pub others : (q : ℕ) → (q ≡ pair.left → ⊥) → (q ≡ page → ⊥) → page_at after q ≡ page_at between q

pub joined_has : (step : Step) (old new : Draft) (page first : ℕ) (xs : List Separator) (pair : Pair) (x : Content) (left : Trimmed) → AreJoined step old new page first xs pair x left → (pair.left ≡ page → ⊥)
    → JoinedHas (drafted old.sheets.items step.images) (drafted new.sheets.items step.images) page pair x
joined_has step old new page first xs pair x Whole j apart = record {
  content = j.above.others pair.left apart ∙ j.one.content;
  others = λ q a b. j.above.others q b ∙ j.one.others q a;
}
joined_has step old new page first xs pair x (Leaf list) j apart = absurd j.above
joined_has step old new page first xs pair x (Interior f list) j apart =
    let same = ap (λ s. drafted s step.images) j.above.0 in
    record {
      content = ap (λ (p : List (List ℕ)). page_at p pair.left) same ∙ j.one.content;
      others = λ q a b. ap (λ (p : List (List ℕ)). page_at p q) same ∙ j.one.others q a;
    }

pub record SharedHas (between after : List (List ℕ)) (page : ℕ) (pair : Pair) (x y z : Content) : Type 0 where
  pub left : page_at after pair.left ≡ Some x
  pub right : page_at after pair.right ≡ Some y
  pub above : page_at after page ≡ Some z
  pub others : (q : ℕ) → (q ≡ pair.left → ⊥) → (q ≡ pair.right → ⊥) → (q ≡ page → ⊥) → page_at after q ≡ page_at between q

pub shared_has : (step : Step) (old new : Draft) (page first : ℕ) (xs : List Separator) (pair : Pair) (x y : Content) (key : Key) (left : Trimmed) → AreShared step old new page first xs pair x y key left
    → (pair.left ≡ page → ⊥) → (pair.right ≡ page → ⊥) → (pair.left ≡ pair.right → ⊥)
    → SharedHas (drafted old.sheets.items step.images) (drafted new.sheets.items step.images) page pair x y (grammar.Interior first (separators_shared xs pair key))
shared_has step old new page first xs pair x y key left s a b c = record {
  left = s.above.others pair.left a ∙ s.other.others pair.left c ∙ s.one.content;
  right = s.above.others pair.right b ∙ s.other.content;
  above = s.above.content;
  others = λ q l r p. s.above.others q p ∙ s.other.others q r ∙ s.one.others q l;
}

-- ---- one child in the place of the pair

pub behind_is : (first : ℕ) (low : Option Key) (front : List Separator) (h h2 : Option Key) → child_behind first low front h ≡ record { page = (child_behind first low front h2).page; low = (child_behind first low front h2).low; high = h }
behind_is first low [] h h2 = refl
behind_is first low (x ∷ front) h h2 = behind_is x.child (Some x.key) front h h2

-- both, by the pair's page and bounds
abbrev pub pair_child : (above : Child) (first : ℕ) (xs : List Separator) (pair : Pair) → Child
pair_child above first xs pair = record { page = pair.left; low = (child_behind first above.low (take pair.place xs) above.high).low; high = end_of above.high (drop (pair.place + 1) xs) }

pub joined_child : (above : Child) (first : ℕ) (xs : List Separator) (pair : Pair) → IsPair above first xs pair → child_between first above.low above.high (take pair.place xs) (drop (pair.place + 1) xs) ≡ pair_child above first xs pair
joined_child above first xs pair is =
    let front : List Separator = take pair.place xs in
    let highest : Option Key = end_of above.high (drop (pair.place + 1) xs) in
    let made : ℕ → Option Key → Child = λ page low. record { page = page; low = low; high = highest } in
    behind_is first above.low front highest (Some is.between.key)
    ∙ ap (λ (page : ℕ). made page (child_behind first above.low front (Some is.between.key)).low) (sym is.left)
    ∙ ap (made pair.left) (low_same first above.low (Some is.between.key) above.high front)

pub shared_child : (above : Child) (first : ℕ) (xs : List Separator) (pair : Pair) (k : Key) → IsPair above first xs pair → child_behind first above.low (take pair.place xs) (Some k) ≡ left_part pair.left (pair_child above first xs pair) k
shared_child above first xs pair k is =
    let front : List Separator = take pair.place xs in
    let made : ℕ → Option Key → Child = λ page low. record { page = page; low = low; high = Some k } in
    behind_is first above.low front (Some k) (Some is.between.key)
    ∙ ap (λ (page : ℕ). made page (child_behind first above.low front (Some is.between.key)).low) (sym is.left)
    ∙ ap (made pair.left) (low_same first above.low (Some is.between.key) above.high front)

-- ---- on which side of the key the separator between stands

pub front_at : (P : Separator → Type 0) (xs : List Separator) (i j : ℕ) (s : Separator) → j < i → slice_get xs j ≡ Some s → AllByRecursion P (take i xs) → P s
front_at P [] i j s h at a = absurd cc
front_at P (x ∷ xs) zero j s h at a = absurd (omega arith)
front_at P (x ∷ xs) (suc i) zero s h at a = subst P (same_Some x s at) a.0
front_at P (x ∷ xs) (suc i) (suc j) s h at a = front_at P xs i j s (omega arith) at a.1

pub back_at : (P : Separator → Type 0) (xs : List Separator) (j : ℕ) (s : Separator) → slice_get xs j ≡ Some s → AllByRecursion P xs → P s
back_at P [] j s at a = absurd cc
back_at P (x ∷ xs) zero s at a = subst P (same_Some x s at) a.0
back_at P (x ∷ xs) (suc j) s at a = back_at P xs j s at a.1

-- ---- entries of a neighbour

all_over : (key k : Key) (high : Option Key) (es : List Entry) → key_lt key k ≡ true → keys_fit (Some k) high (entry_keys es) ≡ true → AllByRecursion (λ e. key_lt key e.key ≡ true) es
all_over key k high [] h fit = tt
all_over key k high (e ∷ es) h fit =
    let parts = and_parts (not (key_lt e.key k) && below high e.key) (keys_fit (Some k) high (entry_keys es)) fit in
    (lt_le key k e.key h (and_parts (not (key_lt e.key k)) (below high e.key) parts.0).0, all_over key k high es h parts.1)

all_under : (key k : Key) (low : Option Key) (es : List Entry) → key_lt key k ≡ false → keys_fit low (Some k) (entry_keys es) ≡ true → AllByRecursion (λ e. key_lt e.key key ≡ true) es
all_under key k low [] h fit = tt
all_under key k low (e ∷ es) h fit =
    let parts = and_parts (not_below low e.key && key_lt e.key k) (keys_fit low (Some k) (entry_keys es)) fit in
    (lt_le e.key k key (and_parts (not_below low e.key) (key_lt e.key k) parts.0).1 (ap not h), all_under key k low es h parts.1)

-- the entries of both, without the key
pub entries_edited : (key : Key) (pages : List (List ℕ)) (above : Child) (first : ℕ) (xs : List Separator) (pair : Pair) (is : IsPair above first xs pair) (i : ℕ) (child neighbour : Child) → AreSides above first xs pair is.between i child neighbour
    → pair.place ≡ i - 1 → AllByRecursion (IsUpToKey key) (take i xs) → AllByRecursion (IsBehindKey key) (drop i xs) → (few others : List Entry) → few ≡ without key (entries_of (page_at pages child.page))
    → page_at pages neighbour.page ≡ Some (grammar.Leaf others) → keys_fit neighbour.low neighbour.high (entry_keys others) ≡ true
    → both_entries i few others ≡ without key (flat_map (λ c. entries_of (page_at pages c.page)) (left_child above first xs pair is.between ∷ right_child above xs pair is.between ∷ []))
entries_edited key pages above first xs pair is i child neighbour (AtLeft e at next) place ends begins few others few_is has fit =
    let E : Child → List Entry = λ (c : Child). entries_of (page_at pages c.page) in
    let zero_i : i ≡ 0 = grind arith in
    let over : key_lt key is.between.key ≡ true = back_at (IsBehindKey key) xs pair.place is.between is.there (subst (λ (n : ℕ). AllByRecursion (IsBehindKey key) (drop n xs)) zero_i begins) in
    let fit2 = subst (λ (c : Child). keys_fit c.low c.high (entry_keys others) ≡ true) next fit in
    let local = is_local key [] (E child) others tt (all_over key is.between.key (end_of above.high (drop (pair.place + 1) xs)) others over fit2) in
    let others_is : E neighbour ≡ others = ap entries_of has in
    ap (λ (b : Bool). cond b (few ++ others) (others ++ few)) e ∙ ap (λ (es : List Entry). es ++ others) few_is ∙ sym local
    ∙ ap (λ (es : List Entry). without key (E child ++ es)) (sym (append-nil others))
    ∙ ap (λ (es : List Entry). without key (E child ++ (es ++ []))) (sym others_is)
    ∙ ap (λ (c : Child). without key (E c ++ (E neighbour ++ []))) at ∙ ap (λ (c : Child). without key (E (left_child above first xs pair is.between) ++ (E c ++ []))) next
entries_edited key pages above first xs pair is i child neighbour (AtRight e at next) place ends begins few others few_is has fit =
    let E : Child → List Entry = λ (c : Child). entries_of (page_at pages c.page) in
    let some_i : i ≡ 0 → ⊥ = grind arith in
    let under : key_lt key is.between.key ≡ false = front_at (IsUpToKey key) xs i pair.place is.between (omega (arith, place, some_i)) is.there ends in
    let lowest : Option Key = (left_child above first xs pair is.between).low in
    let fit2 = subst (λ (c : Child). keys_fit c.low c.high (entry_keys others) ≡ true) next fit in
    let fit3 = subst (λ (h : Option Key). keys_fit lowest h (entry_keys others) ≡ true) (high_is first above.low (Some is.between.key) (take pair.place xs)) fit2 in
    let local = is_local key others (E child) [] (all_under key is.between.key lowest others under fit3) tt in
    let others_is : E neighbour ≡ others = ap entries_of has in
    ap (λ (b : Bool). cond b (few ++ others) (others ++ few)) e ∙ ap (λ (es : List Entry). others ++ es) (few_is ∙ sym (append-nil (without key (E child)))) ∙ sym local
    ∙ ap (λ (es : List Entry). without key (es ++ (E child ++ []))) (sym others_is)
    ∙ ap (λ (c : Child). without key (E neighbour ++ (E c ++ []))) at ∙ ap (λ (c : Child). without key (E c ++ (E (right_child above xs pair is.between) ++ []))) next
