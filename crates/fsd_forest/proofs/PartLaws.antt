-- Pages in two parts.
use Rattle.std.proofs.Common.{◌≡◌, true, not, ◌&&◌, List, [], ◌∷◌, ◌++◌, Option, Some, refl, sym, ap, subst, ◌∙◌}
use Rattle.std.specs.List.{AllByRecursion}
use Rattle.std.proofs.lemmas.Bool.{and_parts, and_from}
use Rattle.std.proofs.lemmas.List.Folds.{list_all-append}
use Rattle.fsd_bytes.specs.declared.key.Key.{Key}
use Rattle.fsd_bytes.specs.Keys.{key_lt}
use Rattle.fsd_formats.specs.NamePage.{are_ascending}
use Rattle.fsd_table.specs.declared.child.Child.{Child}
use Rattle.fsd_table.specs.Pages.{children, not_below, below, keys_fit, entry_keys, separator_keys}
use Rattle.fsd_table.specs.Tree.{IsSubtree}
use Rattle.fsd_table.proofs.BoundLaws.{all_append, ascend_tail, later_fit, all_split, entry_keys_append, separator_keys_append}
use Rattle.fsd_table.proofs.KeyLaws.{le_itself, lt_lt, not_below_more, below_less}
use Rattle.fsd_forest.specs.Parts.{LeavesPart, LeavesJoin, InteriorsPart, InteriorsJoin, ChildrenPart}

-- ---- keys

pub first_under : (a : Key) (ks ls : List Key) (k : Key) → are_ascending (a ∷ (ks ++ k ∷ ls)) ≡ true → key_lt a k ≡ true
first_under a [] ls k asc = (and_parts (key_lt a k) (are_ascending (k ∷ ls)) asc).0
first_under a (b ∷ ks) ls k asc =
    let parts = and_parts (key_lt a b) (are_ascending (b ∷ (ks ++ k ∷ ls))) asc in
    lt_lt a b k parts.0 (first_under b ks ls k parts.1)

pub fit_append : (low high : Option Key) (ks ls : List Key) → keys_fit low high (ks ++ ls) ≡ (keys_fit low high ks && keys_fit low high ls)
fit_append low high ks ls = list_all-append (λ k. not_below low k && below high k) ks ls

left_fits : (low high : Option Key) (ks ls : List Key) (k : Key) → are_ascending (ks ++ k ∷ ls) ≡ true → keys_fit low high ks ≡ true → keys_fit low (Some k) ks ≡ true
left_fits low high [] ls k asc fit = refl
left_fits low high (a ∷ ks) ls k asc fit =
    let parts = and_parts (not_below low a && below high a) (keys_fit low high ks) fit in
    and_from (not_below low a && key_lt a k) (keys_fit low (Some k) ks)
    (and_from (not_below low a) (key_lt a k) (and_parts (not_below low a) (below high a) parts.0).0 (first_under a ks ls k asc)) (left_fits low high ks ls k (ascend_tail a (ks ++ k ∷ ls) asc) parts.1)

ascend_from : (ks ls : List Key) (k : Key) → are_ascending (ks ++ k ∷ ls) ≡ true → are_ascending (k ∷ ls) ≡ true
ascend_from [] ls k asc = asc
ascend_from (a ∷ ks) ls k asc = ascend_from ks ls k (ascend_tail a (ks ++ k ∷ ls) asc)

pub record Parted (low high : Option Key) (ks ls : List Key) (k : Key) : Type 0 where
  pub left : keys_fit low (Some k) ks ≡ true
  pub right : keys_fit (Some k) high ls ≡ true
  pub inside : (not_below low k && below high k) ≡ true

pub keys_parted : (low high : Option Key) (ks ls : List Key) (k : Key) → are_ascending (ks ++ k ∷ ls) ≡ true → keys_fit low high (ks ++ k ∷ ls) ≡ true → Parted low high ks ls k
keys_parted low high ks ls k asc fit =
    let halves = and_parts (keys_fit low high ks) (keys_fit low high (k ∷ ls)) (sym (fit_append low high ks (k ∷ ls)) ∙ fit) in
    let second = and_parts (not_below low k && below high k) (keys_fit low high ls) halves.1 in
    record {
      left = left_fits low high ks ls k asc halves.0;
      right = later_fit k low high ls (ascend_from ks ls k asc) second.1;
      inside = second.0;
    }

pub left_wider : (low high : Option Key) (k : Key) (ks : List Key) → below high k ≡ true → keys_fit low (Some k) ks ≡ true → keys_fit low high ks ≡ true
left_wider low high k [] in_high fit = refl
left_wider low high k (a ∷ ks) in_high fit =
    let parts = and_parts (not_below low a && key_lt a k) (keys_fit low (Some k) ks) fit in
    let both = and_parts (not_below low a) (key_lt a k) parts.0 in
    and_from (not_below low a && below high a) (keys_fit low high ks) (and_from (not_below low a) (below high a) both.0 (below_less high k a in_high both.1)) (left_wider low high k ks in_high parts.1)

pub right_wider : (low high : Option Key) (k : Key) (ks : List Key) → not_below low k ≡ true → keys_fit (Some k) high ks ≡ true → keys_fit low high ks ≡ true
right_wider low high k [] in_low fit = refl
right_wider low high k (a ∷ ks) in_low fit =
    let parts = and_parts (not (key_lt a k) && below high a) (keys_fit (Some k) high ks) fit in
    let both = and_parts (not (key_lt a k)) (below high a) parts.0 in
    and_from (not_below low a && below high a) (keys_fit low high ks) (and_from (not_below low a) (below high a) (not_below_more low k a in_low both.0) both.1) (right_wider low high k ks in_low parts.1)

pub keys_joined : (low high : Option Key) (ks ls : List Key) (k : Key) → (not_below low k && below high k) ≡ true → keys_fit low (Some k) ks ≡ true → keys_fit (Some k) high ls ≡ true → keys_fit low high (ks ++ ls) ≡ true
keys_joined low high ks ls k inside left right =
    let both = and_parts (not_below low k) (below high k) inside in
    fit_append low high ks ls ∙ and_from (keys_fit low high ks) (keys_fit low high ls) (left_wider low high k ks both.1 left) (right_wider low high k ls both.0 right)

-- ---- leaves

pub leaves_part : LeavesPart
leaves_part c page other xs ys y asc leaf =
    let same = entry_keys_append xs (y ∷ ys) in
    let p = keys_parted c.low c.high (entry_keys xs) (entry_keys ys) y.key (ap are_ascending (sym same) ∙ asc) (ap (keys_fit c.low c.high) (sym same) ∙ leaf) in
    let high = (and_parts (not_below c.low y.key) (below c.high y.key) p.inside).1 in
    (p.left, (and_from (not (key_lt y.key y.key) && below c.high y.key) (keys_fit (Some y.key) c.high (entry_keys ys)) (and_from (not (key_lt y.key y.key)) (below c.high y.key) (le_itself y.key) high) p.right, p.inside))

pub leaves_join : LeavesJoin
leaves_join c page other k xs ys inside left right = ap (keys_fit c.low c.high) (entry_keys_append xs ys) ∙ keys_joined c.low c.high (entry_keys xs) (entry_keys ys) k inside left right

-- ---- interior pages

pub children_part : ChildrenPart
children_part first low high [] ys s = refl
children_part first low high (x ∷ xs) ys s = ap (λ (cs : List Child). record { page = first; low = low; high = Some x.key } ∷ cs) (children_part x.child (Some x.key) high xs ys s)

pub interiors_part : InteriorsPart
interiors_part level pages c page other first xs ys s asc h =
    let same = separator_keys_append xs (s ∷ ys) in
    let p = keys_parted c.low c.high (separator_keys xs) (separator_keys ys) s.key (ap are_ascending (sym same) ∙ asc) (ap (keys_fit c.low c.high) (sym same) ∙ h.0) in
    let subs = all_split (IsSubtree level pages) (children first c.low (Some s.key) xs) (children s.child (Some s.key) c.high ys)
    (subst (AllByRecursion (IsSubtree level pages)) (children_part first c.low c.high xs ys s) h.1) in
    ((p.left, subs.0), ((p.right, subs.1), p.inside))

pub interiors_join : InteriorsJoin
interiors_join level pages c page other first xs ys s inside left right =
    let both = and_parts (not_below c.low s.key) (below c.high s.key) inside in
    let high = and_from (not (key_lt s.key s.key) && below c.high s.key) (keys_fit (Some s.key) c.high (separator_keys ys)) (and_from (not (key_lt s.key s.key)) (below c.high s.key) (le_itself s.key) both.1) right.0 in (
      ap (keys_fit c.low c.high) (separator_keys_append xs (s ∷ ys)) ∙ keys_joined c.low c.high (separator_keys xs) (separator_keys (s ∷ ys)) s.key inside left.0 high,
      subst (AllByRecursion (IsSubtree level pages)) (sym (children_part first c.low c.high xs ys s))
          (all_append (IsSubtree level pages) (children first c.low (Some s.key) xs) (children s.child (Some s.key) c.high ys) left.1 right.1),
    )
