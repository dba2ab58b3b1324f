-- What is left of a page above a child that was mended.
use Rattle.std.proofs.Common.{◌≡◌, ◌-◌, ◌≢◌, inl, inr, ℕ, ◌+◌, ◌<◌, ◌≤◌, Bool, true, false, cond, List, [], ◌∷◌, ◌++◌, length, take, drop, Option, ◌&&◌, refl, sym, ap, subst, ◌∙◌, arith, length-append}
use Rattle.std.specs.Prelude.{◌==◌}
use Rattle.std.proofs.lemmas.Bool.{and_parts, and_from}
use Rattle.fsd_bytes.specs.declared.key.Key.{Key}
use Rattle.fsd_formats.specs.declared.page.Separator.{Separator}
use Rattle.fsd_formats.specs.NamePage.{Content, least_separators}
use Rattle.fsd_table.specs.declared.child.Child.{Child}
use Rattle.fsd_table.specs.Pages.{keys_fit, not_below, below, separator_keys}
use Rattle.fsd_table.proofs.BoundLaws.{separator_keys_append}
use Rattle.name_page.specs.Pages.{Step, is_one_of}
use Rattle.name_btree.specs.declared.draft.Draft.{Draft}
use Rattle.name_btree.specs.declared.draft.Sheet.{Sheet}
use Rattle.name_btree.specs.declared.trimming.Pair.{Pair}
use Rattle.name_btree.specs.declared.trimming.Trimmed.{Trimmed}
use Rattle.name_btree.specs.declared.trimming.Trimmed.TheVariants.{Whole, Leaf, Interior}
use Rattle.name_btree.specs.Draft.{with_freed}
use Rattle.name_btree.specs.Trim.{AreWays, IsOpenedPage, IsPair, IsLeft, AreWaysPut, separators_joined, AreJoined, IsTrimmedAbove, sheets_below}
use Rattle.name_btree.proofs.mending.PairLaws.{parts_at}
use Rattle.name_btree.proofs.mending.TrimLaws.{joined_ways}
use Rattle.fsd_forest.proofs.PartLaws.{fit_append}

-- ---- pages that go

pub freed_more : (page : ℕ) (pages : List ℕ) → length (with_freed page pages) ≤ length pages + 1
freed_more page pages = by (page == 0) (is_one_of pages page)
  where
    by : (a b : Bool) → length (cond a pages (cond b pages (pages ++ page ∷ []))) ≤ length pages + 1
    by true b = omega arith
    by false true = omega arith
    by false false = omega (arith, length-append pages (page ∷ []))

-- ---- the page above

fit_joined : (low high : Option Key) (xs : List Separator) (s : Separator) (ys : List Separator) → keys_fit low high (separator_keys (xs ++ s ∷ ys)) ≡ true → keys_fit low high (separator_keys (xs ++ ys)) ≡ true
fit_joined low high xs s ys e =
    let halves = and_parts (keys_fit low high (separator_keys xs)) (keys_fit low high (separator_keys (s ∷ ys))) (sym (fit_append low high (separator_keys xs) (separator_keys (s ∷ ys))) ∙ ap (keys_fit low high) (sym (separator_keys_append xs (s ∷ ys))) ∙ e) in
    ap (keys_fit low high) (separator_keys_append xs ys) ∙ fit_append low high (separator_keys xs) (separator_keys ys)
    ∙ and_from (keys_fit low high (separator_keys xs)) (keys_fit low high (separator_keys ys)) halves.0 (and_parts (not_below low s.key && below high s.key) (keys_fit low high (separator_keys ys)) halves.1).1

pub joined_fit : (p first : ℕ) (above : Child) (xs : List Separator) (pair : Pair) → IsPair above first xs pair → IsOpenedPage p above first xs → keys_fit above.low above.high (separator_keys (separators_joined xs pair)) ≡ true
joined_fit p first above xs pair is o =
    fit_joined above.low above.high (take pair.place xs) is.between (drop (pair.place + 1) xs) (ap (λ (ys : List Separator). keys_fit above.low above.high (separator_keys ys)) (sym (parts_at xs pair.place is.between is.there)) ∙ o.within)

least_three : (page n : ℕ) → n < least_separators page → n ≤ 3
least_three page n h = by (page == 0) h
  where
    by : (b : Bool) → n < cond b 1 4 → n ≤ 3
    by true h = omega (arith, h)
    by false h = omega (arith, h)

put_left : (step : Step) (old new : List Sheet) (p first : ℕ) (above : Child) (separators : List Separator) (left : Trimmed) → AreWays p first separators → keys_fit above.low above.high (separator_keys separators) ≡ true
    → AreWaysPut step old new above.page first separators left → IsLeft p above left
put_left step old new p first above separators Whole w fit h = tt
put_left step old new p first above separators (Leaf list) w fit h = absurd h
put_left step old new p first above separators (Interior f list) w fit h = record {
  are = subst (λ (n : ℕ). AreWays p n list.items) (sym h.1) (subst (AreWays p first) (sym h.2) w);
  within = ap (λ (ys : List Separator). keys_fit above.low above.high (separator_keys ys)) h.2 ∙ fit;
  few = least_three above.page (length list.items) (subst (λ (ys : List Separator). length ys < least_separators above.page) (sym h.2) h.3);
  fits = h.4;
}

whole_left : (p : ℕ) (above : Child) (left : Trimmed) → left ≡ Whole → IsLeft p above left
whole_left p above left e = subst (IsLeft p above) (sym e) tt

joined_left : (step : Step) (old new : Draft) (p first : ℕ) (above : Child) (xs : List Separator) (pair : Pair) (x : Content) (left : Trimmed) → IsPair above first xs pair → IsOpenedPage p above first xs
    → AreJoined step old new above.page first xs pair x left → IsLeft p above left
joined_left step old new p first above xs pair x left is o j =
    put_left step j.middle new.sheets.items p first above (separators_joined xs pair) left (joined_ways p first above xs pair is o.ways) (joined_fit p first above xs pair is o) j.above

pub mended_left : (step : Step) (old new : Draft) (p : ℕ) (above : Child) (first : ℕ) (xs : List Separator) (i : ℕ) (below left : Trimmed) → IsOpenedPage p above first xs → IsTrimmedAbove step old new above first xs i below left → IsLeft p above left
mended_left step old new p above first xs i Whole left o m = whole_left p above left m.0
mended_left step old new p above first xs i (Leaf list) left o m = elim m.mended [
  | inl j ↦ joined_left step old new p first above xs m.pair _ left m.is o j
  | inr s ↦ whole_left p above left s.shared.whole
]
mended_left step old new p above first xs i (Interior lead list) left o m = elim m.mended [
  | inl j ↦ joined_left step old new p first above xs m.pair _ left m.is o j
  | inr s ↦ whole_left p above left s.shared.whole
]

joined_freed : (step : Step) (old new : Draft) (page first : ℕ) (xs : List Separator) (pair : Pair) (x : Content) (left : Trimmed) → AreJoined step old new page first xs pair x left → length new.freed.items ≤ length old.freed.items + 1
joined_freed step old new page first xs pair x left j = omega (arith, ap length j.freed, freed_more pair.right old.freed.items)

pub mended_freed : (step : Step) (old new : Draft) (above : Child) (first : ℕ) (xs : List Separator) (i : ℕ) (below left : Trimmed) → IsTrimmedAbove step old new above first xs i below left → length new.freed.items ≤ length old.freed.items + 1
mended_freed step old new above first xs i Whole left m = omega (arith, ap (λ (d : Draft). length d.freed.items) m.1)
mended_freed step old new above first xs i (Leaf list) left m = elim m.mended [
  | inl j ↦ joined_freed step old new above.page first xs m.pair _ left j
  | inr s ↦ omega (arith, ap length s.shared.freed)
]
mended_freed step old new above first xs i (Interior lead list) left m = elim m.mended [
  | inl j ↦ joined_freed step old new above.page first xs m.pair _ left j
  | inr s ↦ omega (arith, ap length s.shared.freed)
]

-- room for what is mended
pub room_left : (below : Trimmed) (n m levels : ℕ) → m ≤ n + sheets_below levels below → n + levels ≤ 37 → below ≢ Whole → m ≤ 37
room_left Whole n m levels h most some = absurd (some refl)
room_left (Leaf list) n m levels h most some = omega (arith, h, most)
room_left (Interior lead list) n m levels h most some = omega (arith, h, most)

-- how many sheets there are then
put_sheets : (step : Step) (old new : List Sheet) (page first : ℕ) (separators : List Separator) (left : Trimmed) (n levels : ℕ) → AreWaysPut step old new page first separators left → length old ≤ n + levels + 1
    → length new ≤ n + sheets_below (levels + 1) left
put_sheets step old new page first separators Whole n levels h low = omega (arith, h.one, low)
put_sheets step old new page first separators (Leaf list) n levels h low = absurd h
put_sheets step old new page first separators (Interior f list) n levels h low = omega (arith, ap length h.0, low)

three_sheets : (below left : Trimmed) (n m levels : ℕ) → left ≡ Whole → m ≤ n + levels + 3 → m ≤ n + sheets_below (levels + 1) left
three_sheets below left n m levels is h = subst (λ (x : Trimmed). m ≤ n + sheets_below (levels + 1) x) (sym is) (omega (arith, h))

more_sheets : (step : Step) (old new : Draft) (above : Child) (first : ℕ) (xs : List Separator) (i : ℕ) (below left : Trimmed) (n levels : ℕ) → length old.sheets.items ≤ n + sheets_below levels below
    → IsTrimmedAbove step old new above first xs i below left → length new.sheets.items ≤ n + sheets_below (levels + 1) left
more_sheets step old new above first xs i Whole left n levels h m = three_sheets Whole left n (length new.sheets.items) levels m.0 (omega (arith, h, ap (λ (d : Draft). length d.sheets.items) m.1))
more_sheets step old new above first xs i (Leaf list) left n levels h m = elim m.mended [
  | inl j ↦ put_sheets step j.middle new.sheets.items above.page first _ left n levels j.above (omega (arith, h, j.one.one))
  | inr s ↦ three_sheets (Leaf list) left n (length new.sheets.items) levels s.shared.whole (omega (arith, h, s.shared.one.one, s.shared.other.one, s.shared.above.one))
]
more_sheets step old new above first xs i (Interior lead list) left n levels h m = elim m.mended [
  | inl j ↦ put_sheets step j.middle new.sheets.items above.page first _ left n levels j.above (omega (arith, h, j.one.one))
  | inr s ↦ three_sheets (Interior lead list) left n (length new.sheets.items) levels s.shared.whole (omega (arith, h, s.shared.one.one, s.shared.other.one, s.shared.above.one))
]

pub mended_sheets : (step : Step) (old new : Draft) (above : Child) (first : ℕ) (xs : List Separator) (i : ℕ) (below left : Trimmed) (n levels : ℕ) → 0 < levels → length old.sheets.items ≤ n + sheets_below (levels - 1) below
    → IsTrimmedAbove step old new above first xs i below left → length new.sheets.items ≤ n + sheets_below levels left
mended_sheets step old new above first xs i below left n levels some h m =
    let up : (levels - 1) + 1 ≡ levels = omega (arith, some) in
    subst (λ (l : ℕ). length new.sheets.items ≤ n + sheets_below l left) up (more_sheets step old new above first xs i below left n (levels - 1) h m)
