-- What keeps a saved map true.
use Rattle.std.proofs.Common.{◌≡◌, ◌⊎◌, inl, inr, ⊎_elim, ℕ, zero, suc, ◌+◌, ◌<◌, ◌≤◌, Bool, List, [], ◌∷◌, length, Option, Some, None, refl, sym, ap, subst, ◌∙◌, arith}
use Rattle.std.specs.Prelude.{IfSome, IsSome, option_and_then, option_map}
use Rattle.std.specs.List.{range_with_len}
use Rattle.std.proofs.lemmas.Bool.{cond-true}
use Rattle.std.proofs.lemmas.List.{get_or-set_same, get_or-set_other}
use Rattle.volume_layout.specs.declared.layout.Layout.{Layout}
use Rattle.volume_layout.specs.Layout.{map_sectors, map_start, turned}
use Rattle.fsd_formats.specs.declared.anchor.Anchor.{Anchor}
use Rattle.fsd_formats.specs.Anchors.{anchor_bytes, closed_bytes, is_closed, read_anchor, read_closed}
use Rattle.fsd_formats.proofs.SpellingLaws.{anchor_is_spelled}
use Rattle.sector_disk.specs.declared.sector.Sector.{Sector}
use Rattle.sector_disk.specs.declared.sector.Sector.TheVariants.{Whole, Damaged}
use Rattle.sector_disk.specs.Image.{sector_at, with_sector, IsWorn}
use Rattle.fsd_files.specs.Disk.{Image, Sectors, SectorWorn, bytes_at, bytes_of}
use Rattle.fsd_sound.specs.Anchors.{anchor_at}
use Rattle.fsd_sound.specs.Shown.{each_of}
use Rattle.fsd_sound.specs.Saved.{ClosesNone, EachClosed, IsOpen, SavesPages, closed_at, map_of}

-- ---- bytes that stand

-- what is read of the second sector is read of the first
abbrev pub ReadsLess : Image → Image → ℕ → Type 0
ReadsLess i j s = (bytes : List ℕ) → bytes_at j s ≡ Some bytes → bytes_at i s ≡ Some bytes

worn_less : (weak : Bool) (x y : Sector) (bytes : List ℕ) → SectorWorn weak x y → bytes_of y ≡ Some bytes → bytes_of x ≡ Some bytes
worn_less weak x y bytes (inl same) is = ap bytes_of (sym same) ∙ is
worn_less weak x y bytes (inr hurt) is = absurd (let none : None ≡ Some bytes = sym (ap bytes_of hurt.1) ∙ is in cc)

pub worn_reads : (weak : Sectors) (i j : Image) (s : ℕ) → SectorWorn (weak s) (sector_at i s) (sector_at j s) → ReadsLess i j s
worn_reads weak i j s worn bytes is = worn_less (weak s) (sector_at i s) (sector_at j s) bytes worn is

-- ---- anchors

closed_from : (o p : Option (List ℕ)) → ((bytes : List ℕ) → p ≡ Some bytes → o ≡ Some bytes) → IfSome (option_and_then read_closed p) (λ a. option_and_then read_closed o ≡ Some a)
closed_from o None less = tt
closed_from o (Some bytes) less = by (read_closed bytes) refl
  where
    by : (x : Option Anchor) → read_closed bytes ≡ x → IfSome x (λ a. option_and_then read_closed o ≡ Some a)
    by None is = tt
    by (Some a) is = ap (option_and_then read_closed) (less bytes refl) ∙ is

-- where the anchors that stand are those of the other image, none has closed
pub closes_none : (i j : Image) → ReadsLess i j 8 → ReadsLess i j 12 → ClosesNone i j
closes_none i j first second = (closed_from (bytes_at i 8) (bytes_at j 8) first, closed_from (bytes_at i 12) (bytes_at j 12) second)

pub worn_closes : (weak : Sectors) (i j : Image) → IsWorn weak i j → ClosesNone i j
worn_closes weak i j w = closes_none i j (worn_reads weak i j 8 (w.each 8)) (worn_reads weak i j 12 (w.each 12))

if_closed : (P Q : Anchor → Type 0) (o p : Option Anchor) → ((a : Anchor) → P a → Q a) → IfSome p (λ a. o ≡ Some a) → IfSome o P → IfSome p Q
if_closed P Q o None on was each = tt
if_closed P Q o (Some a) on was each = on a (subst (λ (x : Option Anchor). IfSome x P) was each)

-- what holds of each copy that says so holds of those that are left
pub each_closed : (P Q : Anchor → Type 0) (i j : Image) → ((a : Anchor) → P a → Q a) → ClosesNone i j → EachClosed i P → EachClosed j Q
each_closed P Q i j on none each = (if_closed P Q (closed_at i 8) (closed_at j 8) on none.0 each.0, if_closed P Q (closed_at i 12) (closed_at j 12) on none.1 each.1)

pub closes_more : (i j k : Image) → ClosesNone i j → ClosesNone j k → ClosesNone i k
closes_more i j k first second = (
  if_closed (λ a. closed_at i 8 ≡ Some a) (λ a. closed_at i 8 ≡ Some a) (closed_at j 8) (closed_at k 8) (λ a is. is) second.0 first.0,
  if_closed (λ a. closed_at i 12 ≡ Some a) (λ a. closed_at i 12 ≡ Some a) (closed_at j 12) (closed_at k 12) (λ a is. is) second.1 first.1,
)

none_left : (o p : Option Anchor) → IfSome p (λ a. o ≡ Some a) → o ≡ None → p ≡ None
none_left o None was none = refl
none_left o (Some a) was none = absurd (let is : None ≡ Some a = sym none ∙ was in cc)

vacuous : (P : Anchor → Type 0) (o : Option Anchor) → o ≡ None → IfSome o P
vacuous P None none = tt
vacuous P (Some a) none = absurd (cc none)

-- where none says so, none has closed
pub open_closes : (i j : Image) → IsOpen j → ClosesNone i j
open_closes i j is = (vacuous (λ a. closed_at i 8 ≡ Some a) (closed_at j 8) is.0, vacuous (λ a. closed_at i 12 ≡ Some a) (closed_at j 12) is.1)

-- where none says so, none does so later
pub stays_open : (i j : Image) → ClosesNone i j → IsOpen i → IsOpen j
stays_open i j none is = (none_left (closed_at i 8) (closed_at j 8) none.0 is.0, none_left (closed_at i 12) (closed_at j 12) none.1 is.1)

-- one that is spelled so says so
pub closed_says : (bytes : List ℕ) (a : Anchor) → bytes ≡ closed_bytes a → read_anchor bytes ≡ Some a → read_closed bytes ≡ Some a
closed_says bytes a closed reads = cond-true (is_closed bytes) (read_anchor bytes) None (ap is_closed closed) ∙ reads

-- one that stands and does not say so is spelled as one that is open
pub spelled_open : (i : Image) (s : ℕ) (a : Anchor) (bytes : List ℕ) → sector_at i s ≡ Whole bytes → closed_at i s ≡ None → IfSome (anchor_at i s) (λ b. b ≡ a) → IsSome (read_anchor bytes) → (read_anchor bytes ≡ Some a) × (bytes ≡ anchor_bytes a)
spelled_open i s a bytes at shut own some = by (read_anchor bytes) refl (subst (λ (o : Option Anchor). IfSome o (λ b. b ≡ a)) (ap (λ (x : Sector). option_and_then read_anchor (bytes_of x)) at) own) some
  where
    said : (b : Anchor) → read_closed bytes ≡ Some b → ⊥
    said b is = absurd (let none : None ≡ Some b = sym shut ∙ ap (λ (x : Sector). option_and_then read_closed (bytes_of x)) at ∙ is in cc)

    by : (o : Option Anchor) → read_anchor bytes ≡ o → IfSome o (λ b. b ≡ a) → IsSome o → (read_anchor bytes ≡ Some a) × (bytes ≡ anchor_bytes a)
    by None reads mine there = absurd (cc there)
    by (Some b) reads mine there = (
      reads ∙ ap (λ (x : Anchor). Some x) mine,
      ⊎_elim (λ plain. plain ∙ ap anchor_bytes mine) (λ closed. absurd (said b (closed_says bytes b closed reads))) (anchor_is_spelled bytes b reads),
    )

-- an anchor of a volume that is not closed says nothing
pub plain_is_open : (i : Image) (s : ℕ) (a : Anchor) → sector_at i s ≡ Whole (anchor_bytes a) → closed_at i s ≡ None
plain_is_open i s a is = ap (λ (x : Sector). option_and_then read_closed (bytes_of x)) is

-- what is written elsewhere closes nothing
pub open_written : (i : Image) (s : ℕ) (bytes : List ℕ) → (8 ≡ s → ⊥) → (12 ≡ s → ⊥) → IsOpen i → IsOpen (with_sector i s bytes)
open_written i s bytes first second is = (
  ap (λ (x : Sector). option_and_then read_closed (bytes_of x)) (get_or-set_other i s 8 (Whole bytes) Damaged first) ∙ is.0,
  ap (λ (x : Sector). option_and_then read_closed (bytes_of x)) (get_or-set_other i s 12 (Whole bytes) Damaged second) ∙ is.1,
)

-- one copy of the anchor is written, and does not close
pub open_anchored : (i : Image) (s t : ℕ) (bytes : List ℕ) → ((s ≡ 8) × (t ≡ 12)) ⊎ ((s ≡ 12) × (t ≡ 8)) → s < length i → read_closed bytes ≡ None → IsOpen i → IsOpen (with_sector i s bytes)
open_anchored i s t bytes at room none is = by at
  where
    here : closed_at (with_sector i s bytes) s ≡ None
    here = ap (λ (x : Sector). option_and_then read_closed (bytes_of x)) (get_or-set_same i s (Whole bytes) Damaged room) ∙ none

    other : (p : ℕ) → (p ≡ s → ⊥) → closed_at (with_sector i s bytes) p ≡ closed_at i p
    other p differs = ap (λ (x : Sector). option_and_then read_closed (bytes_of x)) (get_or-set_other i s p (Whole bytes) Damaged differs)

    by : ((s ≡ 8) × (t ≡ 12)) ⊎ ((s ≡ 12) × (t ≡ 8)) → IsOpen (with_sector i s bytes)
    by (inl o) = (ap (closed_at (with_sector i s bytes)) (sym o.0) ∙ here, other 12 (λ e. omega (arith, e, o.0)) ∙ is.1)
    by (inr o) = (other 8 (λ e. omega (arith, e, o.0)) ∙ is.0, ap (closed_at (with_sector i s bytes)) (sym o.0) ∙ here)

-- a volume that is not closed has saved nothing
pub open_saves : (l : Layout) (i : Image) (pages : List (List ℕ)) → IsOpen i → SavesPages l i pages
open_saves l i pages is = (vacuous _ (closed_at i 8) is.0, vacuous _ (closed_at i 12) is.1)

-- ---- the map

-- each of a list is given by a function that gives as much
each_rest : {A : Type 0} (f g : ℕ → Option A) (at n : ℕ) (y : A) (ys : List A) → ((zs : List A) → each_of f (range_with_len (at + 1) n) ≡ Some zs → each_of g (range_with_len (at + 1) n) ≡ Some zs) → g at ≡ Some y
    → (o : Option (List A)) → each_of f (range_with_len (at + 1) n) ≡ o → option_map (λ xs. y ∷ xs) o ≡ Some ys → each_of g (range_with_len at (suc n)) ≡ Some ys
each_rest f g at n y ys tail here None rest whole = absurd (cc whole)
each_rest f g at n y ys tail here (Some zs) rest whole =
    ap (option_and_then (λ x. option_map (λ xs. x ∷ xs) (each_of g (range_with_len (at + 1) n)))) here
    ∙ ap (option_map (λ xs. y ∷ xs)) (tail zs rest) ∙ whole

each_first : {A : Type 0} (f g : ℕ → Option A) (at n : ℕ) (ys : List A) → ((zs : List A) → each_of f (range_with_len (at + 1) n) ≡ Some zs → each_of g (range_with_len (at + 1) n) ≡ Some zs) → ((y : A) → f at ≡ Some y → g at ≡ Some y)
    → (o : Option A) → f at ≡ o → option_and_then (λ x. option_map (λ xs. x ∷ xs) (each_of f (range_with_len (at + 1) n))) o ≡ Some ys → each_of g (range_with_len at (suc n)) ≡ Some ys
each_first f g at n ys tail head None here whole = absurd (cc whole)
each_first f g at n ys tail head (Some y) here whole = each_rest f g at n y ys tail (head y here) (each_of f (range_with_len (at + 1) n)) refl whole

each_more : {A : Type 0} (f g : ℕ → Option A) (at n : ℕ) (ys : List A) → ((k : ℕ) (y : A) → at ≤ k → k < at + n → f k ≡ Some y → g k ≡ Some y) → each_of f (range_with_len at n) ≡ Some ys → each_of g (range_with_len at n) ≡ Some ys
each_more f g at zero ys more is = is
each_more f g at (suc n) ys more is =
    each_first f g at n ys (λ zs tail. each_more f g (at + 1) n zs (λ k x low lt. more k x (omega (arith, low)) (omega (arith, lt))) tail) (λ y here. more at y (omega arith) (omega arith) here)
    (f at) refl is

-- a map that is whole was so before
pub map_before : (l : Layout) (i j : Image) (sectors : List (List ℕ)) → ((s : ℕ) → map_start l ≤ s → s < map_start l + map_sectors l → ReadsLess i j s) → map_of l j ≡ Some sectors → map_of l i ≡ Some sectors
map_before l i j sectors less is =
    each_more (λ k. bytes_at j (map_start l + k)) (λ k. bytes_at i (map_start l + k)) 0 (map_sectors l) sectors
    (λ k bytes low lt here. less (map_start l + k) (omega arith) (omega (arith, lt)) bytes here) is

-- ---- the whole

-- where no copy of the anchor closes and no map sector is written, what was saved is so still
pub saves_on : (l : Layout) (i j : Image) (pages : List (List ℕ)) → ClosesNone i j → ((s : ℕ) → map_start l ≤ s → s < map_start l + map_sectors l → ReadsLess i j s) → SavesPages l i pages → SavesPages l j pages
saves_on l i j pages none less saves = each_closed _ _ i j (λ a saved sectors counts there is. saved sectors counts (map_before l i j sectors less there) is) none saves

pub saves_worn : (l : Layout) (weak : Sectors) (i j : Image) (pages : List (List ℕ)) → IsWorn weak i j → SavesPages l i pages → SavesPages l j pages
saves_worn l weak i j pages w = saves_on l i j pages (worn_closes weak i j w) (λ s from below. worn_reads weak i j s (w.each s))

-- the layout turned has its map at the same place
pub saves_turned : (l : Layout) (i : Image) (pages : List (List ℕ)) → SavesPages l i pages → SavesPages (turned l) i pages
saves_turned l i pages saves =
    each_closed _ _ i i
    (λ a saved sectors counts there is.
    let was = saved sectors counts there (record { heads = is.heads; clear = is.clear }) in
    record { telling = was.telling; told = was.told; reached = was.reached; versions = was.versions; free = was.free; spare = was.spare })
    (closes_none i i (λ bytes is. is) (λ bytes is. is)) saves
