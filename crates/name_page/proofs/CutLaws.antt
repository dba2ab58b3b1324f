-- Places between keys.
use Rattle.std.proofs.Common.{◌≡◌, Bool, true, false, not, refl, ap, ◌∙◌}
use Rattle.std.proofs.lemmas.Bool.{not-true}
use Rattle.std.specs.Ordering.{nat_cmp, is_lt, is_gt, ordering_then, ordering_reverse}
use Rattle.std.specs.Cmp.Lexicographic.{slice_cmp}
use Rattle.std.specs.declared.cmp.Ordering.{Ordering}
use Rattle.std.specs.declared.cmp.Ordering.TheVariants.{Less, Equal, Greater}
use Rattle.std.proofs.lemmas.Cmp.{upto, nat_list_cmp_total}
use Rattle.fsd_bytes.specs.declared.key.Key.{Key}
use Rattle.fsd_bytes.specs.Keys.{key_cmp, key_lt}
use Rattle.fsd_table.proofs.KeyLaws.{keys_total}
use Rattle.name_page.specs.declared.cut.Cut.{Cut}
use Rattle.name_page.specs.declared.cut.Cut.TheVariants.{Start, UpTo, Named, End}
use Rattle.name_page.specs.Cut.{is_before}

-- with a key all lesser ones stand before a place
abbrev pub IsMonotone : (Key → Bool) → Type 0
IsMonotone before = (a b : Key) → not (key_lt b a) ≡ true → before b ≡ true → before a ≡ true

-- a key that stands behind a place has all greater ones behind it
pub behind : (before : Key → Bool) → IsMonotone before → (k key : Key) → before k ≡ false → not (key_lt key k) ≡ true → before key ≡ false
behind before mono k key e le = by (before key) refl
  where
    by : (b : Bool) → before key ≡ b → b ≡ false
    by false is = refl
    by true is = absurd (let no : before k ≡ true = mono k key le is in cc)

reversed : (o : Ordering) → is_gt (ordering_reverse o) ≡ is_lt o
reversed Less = refl
reversed Equal = refl
reversed Greater = refl

-- a is greater than b where b is less than a
pub greater : (a b : Key) → is_gt (key_cmp a b) ≡ key_lt b a
greater a b = ap is_gt (keys_total.antisymm a b) ∙ reversed (key_cmp b a)

first_of : (o v : Ordering) → is_gt (ordering_then o v) ≡ false → is_gt o ≡ false
first_of Less v e = refl
first_of Equal v e = refl
first_of Greater v e = e

-- greater names have greater keys
pub names_follow : (a b : Key) → is_gt (key_cmp a b) ≡ false → is_gt (slice_cmp nat_cmp a.name b.name) ≡ false
names_follow a b e = first_of (slice_cmp nat_cmp a.name b.name) (nat_cmp a.version b.version) e

pub cuts_monotone : (cut : Cut) → IsMonotone (is_before cut)
cuts_monotone Start a b le e = e
cuts_monotone End a b le e = refl
cuts_monotone (UpTo last) a b le e = ap not (upto keys_total a b last (greater a b ∙ not-true (key_lt b a) le) (not-true (is_gt (key_cmp b last)) e))
cuts_monotone (Named name) a b le e =
    ap not (upto nat_list_cmp_total a.name b.name name (names_follow a b (greater a b ∙ not-true (key_lt b a) le)) (not-true (is_gt (slice_cmp nat_cmp b.name name)) e))
