-- A separator that is put between those of an interior page.
use Rattle.std.proofs.Common.{◌≡◌, ℕ, suc, ◌+◌, ◌<◌, ◌≤◌, Bool, true, ◌&&◌, List, [], ◌∷◌, ◌++◌, length, take, drop, refl, sym, ap, ◌∙◌, arith, Some, None, Option, length-append, take-append-drop}
use Rattle.std.specs.Prelude.{nat_lt}
use Rattle.std.specs.List.{list_all}
use Rattle.std.proofs.lemmas.Bool.{and_parts, and_from, le-leb}
use Rattle.std.proofs.lemmas.Bool.Decides.{nat_tests}
use Rattle.std.proofs.lemmas.List.Folds.{list_all-append}
use Rattle.fsd_bytes.specs.declared.key.Key.{Key}
use Rattle.fsd_bytes.specs.Keys.{is_key, key_lt}
use Rattle.fsd_bytes.specs.Names.{is_between}
use Rattle.fsd_formats.specs.declared.page.Separator.{Separator}
use Rattle.fsd_formats.specs.NamePage.{Interior, is_page, are_ascending, least_separators}
use Rattle.fsd_table.specs.Pages.{not_below, below, keys_fit, separator_keys}
use Rattle.fsd_table.proofs.BoundLaws.{ascend_tail}
use Rattle.fsd_table.proofs.KeyLaws.{lt_is_le, not_below_more, below_less}
use Rattle.fsd_forest.specs.Ways.{child_between}
use Rattle.name_page.proofs.LeafLaws.{between}
use Rattle.name_page.specs.Lookups.{is_after}
use Rattle.name_btree.specs.Grown.{FitsTwoInteriors}

-- ---- order

-- a separator whose key stands between the child's, among those of the page
pub between_ascends : (first : ℕ) (low high : Option Key) (before : List Separator) (s : Separator) (behind : List Separator) → are_ascending (separator_keys (before ++ behind)) ≡ true
    → is_after (child_between first low high before behind).low s.key ≡ true → below (child_between first low high before behind).high s.key ≡ true → are_ascending (separator_keys (before ++ s ∷ behind)) ≡ true
between_ascends first low high [] s [] asc a b = refl
between_ascends first low high [] s (t ∷ behind) asc a b = and_from (key_lt s.key t.key) (are_ascending (separator_keys (t ∷ behind))) b asc
between_ascends first low high (x ∷ []) s behind asc a b =
    and_from (key_lt x.key s.key) (are_ascending (separator_keys (s ∷ behind))) a (between_ascends x.child (Some x.key) high [] s behind (ascend_tail x.key (separator_keys behind) asc) a b)
between_ascends first low high (x ∷ y ∷ before) s behind asc a b =
    let parts = and_parts (key_lt x.key y.key) (are_ascending (separator_keys (y ∷ (before ++ behind)))) asc in
    and_from (key_lt x.key y.key) (are_ascending (separator_keys (y ∷ (before ++ s ∷ behind)))) parts.0 (between_ascends x.child (Some x.key) high (y ∷ before) s behind parts.1 a b)

-- ---- between the page's keys

after_not_below : (low : Option Key) (k : Key) → is_after low k ≡ true → not_below low k ≡ true
after_not_below None k e = refl
after_not_below (Some low) k e = lt_is_le low k e

within_from : (lo hi : Option Key) (first : ℕ) (low : Option Key) (before behind : List Separator) (k : Key) → (is_after low k ≡ true → not_below lo k ≡ true) → keys_fit lo hi (separator_keys (before ++ behind)) ≡ true
    → is_after (child_between first low hi before behind).low k ≡ true → below (child_between first low hi before behind).high k ≡ true → (not_below lo k && below hi k) ≡ true
within_from lo hi first low [] [] k from fit a b = and_from (not_below lo k) (below hi k) (from a) b
within_from lo hi first low [] (t ∷ behind) k from fit a b =
    let parts = and_parts (not_below lo t.key && below hi t.key) (keys_fit lo hi (separator_keys behind)) fit in
    and_from (not_below lo k) (below hi k) (from a) (below_less hi t.key k (and_parts (not_below lo t.key) (below hi t.key) parts.0).1 b)
within_from lo hi first low (x ∷ before) behind k from fit a b =
    let parts = and_parts (not_below lo x.key && below hi x.key) (keys_fit lo hi (separator_keys (before ++ behind))) fit in
    let under = (and_parts (not_below lo x.key) (below hi x.key) parts.0).0 in
    within_from lo hi x.child (Some x.key) before behind k (λ e. not_below_more lo x.key k under (lt_is_le x.key k e)) parts.1 a b

fits_with : (lo hi : Option Key) (before : List Separator) (s : Separator) (behind : List Separator) → (not_below lo s.key && below hi s.key) ≡ true → keys_fit lo hi (separator_keys (before ++ behind)) ≡ true
    → keys_fit lo hi (separator_keys (before ++ s ∷ behind)) ≡ true
fits_with lo hi [] s behind is fit = and_from (not_below lo s.key && below hi s.key) (keys_fit lo hi (separator_keys behind)) is fit
fits_with lo hi (x ∷ before) s behind is fit =
    let parts = and_parts (not_below lo x.key && below hi x.key) (keys_fit lo hi (separator_keys (before ++ behind))) fit in
    and_from (not_below lo x.key && below hi x.key) (keys_fit lo hi (separator_keys (before ++ s ∷ behind))) parts.0 (fits_with lo hi before s behind is parts.1)

pub between_fits : (first : ℕ) (low high : Option Key) (before : List Separator) (s : Separator) (behind : List Separator) → keys_fit low high (separator_keys (before ++ behind)) ≡ true
    → is_after (child_between first low high before behind).low s.key ≡ true → below (child_between first low high before behind).high s.key ≡ true → keys_fit low high (separator_keys (before ++ s ∷ behind)) ≡ true
between_fits first low high before s behind fit a b =
    fits_with low high before s behind (within_from low high first low before behind s.key (after_not_below low s.key) fit a b) fit

-- ---- the page

pub record InteriorParts (page p first : ℕ) (separators : List Separator) : Type 0 where
  pub each : list_all (λ s. is_key s.key && nat_lt s.child p) separators ≡ true
  pub order : are_ascending (separator_keys separators) ≡ true
  pub low : first < p
  pub least : least_separators page ≤ length separators
  pub most : length separators ≤ 9

pub interior_parts : (page p first : ℕ) (separators : List Separator) → is_page page p (Interior first separators) ≡ true → InteriorParts page p first separators
interior_parts page p first separators is =
    let all = list_all (λ s. is_key s.key && nat_lt s.child p) separators in
    let asc = are_ascending (separator_keys separators) in
    let one = and_parts (all && asc && nat_lt first p) (is_between (least_separators page) 9 (length separators)) is in
    let two = and_parts (all && asc) (nat_lt first p) one.0 in
    let three = and_parts all asc two.0 in
    let count = between (least_separators page) 9 (length separators) one.1 in
    record { each = three.0; order = three.1; low = less first p two.1; least = count.0; most = count.1 }
  where
    less : (m n : ℕ) → nat_lt m n ≡ true → m < n
    less m n e = grind (arith, nat_tests)

-- one separator more than a page has is not too much for two
pub one_way_more : (p page first i : ℕ) (low high : Option Key) (separators items : List Separator) (s : Separator) → is_page page p (Interior first separators) ≡ true → items ≡ take i separators ++ s ∷ drop i separators
    → s.child < p → is_key s.key ≡ true → is_after (child_between first low high (take i separators) (drop i separators)).low s.key ≡ true → below (child_between first low high (take i separators) (drop i separators)).high s.key ≡ true
    → FitsTwoInteriors p page first items
one_way_more p page first i low high separators items s is same child key a b =
    let parts = interior_parts page p first separators is in
    let good : Separator → Bool = λ s. is_key s.key && nat_lt s.child p in
    let front : List Separator = take i separators in
    let behind : List Separator = drop i separators in
    let whole : front ++ behind ≡ separators = take-append-drop i separators in
    let halves = and_parts (list_all good front) (list_all good behind) (sym (list_all-append good front behind) ∙ ap (list_all good) whole ∙ parts.each) in
    let asc = between_ascends first low high front s behind (ap (λ (xs : List Separator). are_ascending (separator_keys xs)) whole ∙ parts.order) a b in
    let count : length items ≡ length separators + 1 = omega (arith, ap length same, length-append front (s ∷ behind), ap length whole, length-append front behind) in
    record {
      each = ap (list_all good) same ∙ list_all-append good front (s ∷ behind) ∙ and_from (list_all good front) (list_all good (s ∷ behind)) halves.0
          (and_from (good s) (list_all good behind) (and_from (is_key s.key) (nat_lt s.child p) key (le-leb (suc s.child) p (omega arith))) halves.1);
      order = ap (λ (xs : List Separator). are_ascending (separator_keys xs)) same ∙ asc;
      low = parts.low;
      least = omega (arith, parts.least, count);
      most = omega (arith, parts.most, count);
    }
