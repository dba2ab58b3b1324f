-- A page that is given more than it had, and is parted where it is too much.
use Rattle.std.proofs.Common.{◌≡◌, ◌+◌, ℕ, zero, suc, ◌-◌, ◌<◌, ◌≤◌, ◌^◌, Bool, true, false, cond, ◌&&◌, ◌||◌, List, [], ◌∷◌, ◌++◌, length, take, drop, refl, sym, ap, subst, ◌∙◌, arith, Some, take-append-drop}
use Rattle.std.specs.Prelude.{◌==◌, slice_get, slice_index_or, nat_lt, nat_le}
use Rattle.std.specs.List.{list_all, AllByRecursion}
use Rattle.std.proofs.lemmas.Bool.{and_parts, or_parts, false_from_ne_true, eqb-true, eqb-false}
use Rattle.std.proofs.lemmas.List.{length-drop, take_all}
use Rattle.std.proofs.lemmas.List.Folds.{list_any-append, list_all-append}
use Rattle.fsd_forest.specs.Forest.{Disjoint}
use Rattle.name_btree.proofs.drafts.ApartLaws.{apart_from}
use Rattle.run_table.specs.Space.{contains, all_differ}
use Rattle.run_table.specs.RunTable.{are_runs, total}
use Rattle.fsd_bytes.specs.declared.key.Key.{Key}
use Rattle.fsd_bytes.specs.Keys.{is_key}
use Rattle.fsd_formats.specs.declared.entry.Entry.{Entry}
use Rattle.fsd_formats.specs.declared.page.Separator.{Separator}
use Rattle.fsd_formats.specs.NamePage.{Content, Leaf, Interior, is_entry, max_keep, max_length, sectors_for, FitsEntry, FitsSeparator}
use Rattle.fsd_table.specs.Pages.{page_at}
use Rattle.fsd_table.proofs.BoundLaws.{all_append, all_split}
use Rattle.name_page.specs.Pages.{Step, is_spare, IsReached}
use Rattle.name_page.proofs.ListLaws.{drop_at}
use Rattle.name_page.proofs.FitsLaws.{key_short}
use Rattle.name_btree.specs.declared.draft.Draft.{Draft}
use Rattle.name_btree.specs.declared.draft.Sheet.{Sheet}
use Rattle.name_btree.specs.declared.growing.Grown.TheVariants.{Parted}
use Rattle.name_btree.specs.Draft.{drafted, IsTreeDraft, IsDrafted, MayGo}
use Rattle.name_btree.specs.Grown.{TakesSpare, front_came, IsGrown, ArePartsOf, AreWaysOf}
use Rattle.name_btree.proofs.drafts.TakeLaws.{takes_then}

-- ---- a page that is to be spare

pub draft_frees : (step : Step) (d new : Draft) (page : ℕ) → new.sheets.items ≡ d.sheets.items → new.freed.items ≡ d.freed.items ++ page ∷ [] → IsTreeDraft step d → MayGo step page → contains d.freed.items page ≡ false → IsTreeDraft step new
draft_frees step d new page sheets freed is goes none = record {
  sheets = subst (AllByRecursion _) (sym sheets) is.sheets;
  freed = subst (AllByRecursion (MayGo step)) (sym freed) (all_append (MayGo step) d.freed.items (page ∷ []) is.freed (goes, tt));
  apart = ap all_differ freed ∙ apart_from d.freed.items (page ∷ []) is.apart refl apart;
}
  where
    apart : Disjoint d.freed.items (page ∷ [])
    apart p h = false_from_ne_true (contains (page ∷ []) p) (λ i. by (page == p) refl i)
      where
        by : (b : Bool) → (page == p) ≡ b → (b || false) ≡ true → ⊥
        by true same e = let there : contains d.freed.items page ≡ true = subst (λ (n : ℕ). contains d.freed.items n ≡ true) (sym (eqb-true page p same)) h in absurd cc
        by false same e = absurd cc

-- ---- one page, or two

-- a page that is taken last is none that is used
pub record IsParted (a b c : Step) (s0 s1 s2 : List Sheet) (page left right : ℕ) (x y : Content) : Type 0 where
  pub front_takes : TakesSpare a b (front_came page left)
  pub takes : TakesSpare b c (right ∷ [])
  pub own : IsReached b left
  pub used : is_spare b.spares left ≡ false
  pub place : (page ≡ 0 → ⊥) → left ≡ page
  pub front : IsDrafted c s0 s1 left x
  pub behind : IsDrafted c s1 s2 right y

two_pages : (a b c : Step) (s0 s1 s2 : List Sheet) (page left right : ℕ) (x y : Content) → IsParted a b c s0 s1 s2 page left right x y → left ≡ right → ⊥
two_pages a b c s0 s1 s2 page left right x y p e =
    let spare : is_spare b.spares right ≡ true = p.takes.taken.spare.0 in
    let used : is_spare b.spares right ≡ false = subst (λ (n : ℕ). is_spare b.spares n ≡ false) e p.used in cc

pub front_has : (a b c : Step) (s0 s1 s2 : List Sheet) (page left right : ℕ) (x y : Content) → IsParted a b c s0 s1 s2 page left right x y → page_at (drafted s2 c.images) left ≡ Some x
front_has a b c s0 s1 s2 page left right x y p = p.behind.others left (two_pages a b c s0 s1 s2 page left right x y p) ∙ p.front.content

front_is : (page left q : ℕ) → ((page ≡ 0 → ⊥) → left ≡ page) → (page == q) ≡ false → contains (front_came page left) q ≡ false → left ≡ q → ⊥
front_is page left q place apart out e = by (page == 0) refl out
  where
    by : (b : Bool) → (page == 0) ≡ b → contains (cond b (left ∷ []) []) q ≡ false → ⊥
    by true is out = eqb-false left q (or_parts (left == q) false out).0 e
    by false is out = eqb-false page q apart (sym (place (eqb-false page 0 is)) ∙ e)

pub grown_parted : (a b c : Step) (s0 s1 s2 : List Sheet) (page left right : ℕ) (x y : Content) (key : Key) → IsParted a b c s0 s1 s2 page left right x y → is_key key ≡ true → FitsSeparator (record { key = key; child = right })
    → IsGrown a c s0 s2 page (Parted left (record { key = key; child = right }))
grown_parted a b c s0 s1 s2 page left right x y key p is fits =
    let all = takes_then a b c (front_came page left) (right ∷ []) p.front_takes p.takes in
    record {
      takes = all;
      few = omega (arith, p.front.one, p.behind.one);
      ready = p.behind.sheets;
      stay = λ q out.
          let parts = or_parts (page == q) (contains (front_came page left ++ right ∷ []) q) out in
          let came = or_parts (contains (front_came page left) q) (contains (right ∷ []) q) (sym (list_any-append (λ t. t == q) (front_came page left) (right ∷ [])) ∙ parts.1) in
          let not_right = eqb-false right q (or_parts (right == q) false came.1).0 in
          let not_left = front_is page left q p.place parts.0 came.0 in
          p.behind.others q (λ e. not_right (sym e)) ∙ p.front.others q (λ e. not_left (sym e)) ∙ ap (λ (i : List (List ℕ)). page_at (drafted s0 i) q) all.images;
      sound = record { front = p.takes.reached left p.own; behind = p.takes.own.0; key = is; fits = fits };
      place = p.place;
    }

-- ---- leaves

record Halves {X : Type 0} (front behind : List X) : Type 0 where
  x : X
  xs : List X
  y : X
  ys : List X
  front_is : front ≡ x ∷ xs
  behind_is : behind ≡ y ∷ ys

halves : {X : Type 0} (xs : List X) (i : ℕ) → 0 < i → i < length xs → Halves (take i xs) (drop i xs)
halves [] i low high = absurd (omega arith)
halves (x ∷ xs) zero low high = absurd (omega arith)
halves (x ∷ []) (suc i) low high = absurd (omega arith)
halves (x ∷ y ∷ xs) (suc zero) low high = record { x = x; xs = []; y = y; ys = xs; front_is = refl; behind_is = refl }
halves (x ∷ y ∷ xs) (suc (suc i)) low high =
    let h = halves (y ∷ xs) (suc i) (omega arith) (omega arith) in
    record { x = x; xs = y ∷ take i xs; y = h.y; ys = h.ys; front_is = refl; behind_is = h.behind_is }

entry_key : (e : Entry) → is_entry e ≡ true → is_key e.key ≡ true
entry_key e is =
    let p1 = and_parts (is_key e.key && nat_le e.keep max_keep && nat_le e.length max_length && are_runs e.runs) (total e.runs == sectors_for e.length) is in
    let p2 = and_parts (is_key e.key && nat_le e.keep max_keep && nat_le e.length max_length) (are_runs e.runs) p1.0 in
    let p3 = and_parts (is_key e.key && nat_le e.keep max_keep) (nat_le e.length max_length) p2.0 in
    (and_parts (is_key e.key) (nat_le e.keep max_keep) p3.0).0

pub record GoodKey (key : Key) : Type 0 where
  pub is : is_key key ≡ true
  pub version : key.version < 2 ^ 32

pub behind_key : (entries : List Entry) (i : ℕ) (y : Entry) (ys : List Entry) → drop i entries ≡ y ∷ ys → list_all is_entry entries ≡ true → AllByRecursion FitsEntry entries → GoodKey y.key
behind_key entries i y ys e each fits =
    let whole : take i entries ++ y ∷ ys ≡ entries = ap (λ (zs : List Entry). take i entries ++ zs) (sym e) ∙ take-append-drop i entries in
    let fit = (all_split FitsEntry (take i entries) (y ∷ ys) (subst (AllByRecursion FitsEntry) (sym whole) fits)).1 in
    let later = (and_parts (list_all is_entry (take i entries)) (list_all is_entry (y ∷ ys)) (sym (list_all-append is_entry (take i entries) (y ∷ ys)) ∙ ap (list_all is_entry) whole ∙ each)).1 in
    record { is = entry_key y (and_parts (is_entry y) (list_all is_entry ys) later).0; version = fit.0.version }

-- a leaf in two
pub record HasLeaves (a c : Step) (s0 s2 : List Sheet) (page : ℕ) (entries : List Entry) (left : ℕ) (s : Separator) : Type 0 where
  pub grown : IsGrown a c s0 s2 page (Parted left s)
  pub leaves : ArePartsOf (drafted s2 c.images) entries left s

pub leaves_parted : (a b c : Step) (s0 s1 s2 : List Sheet) (page left right i : ℕ) (entries some front behind : List Entry) (key : Key) (d : Entry)
    → some ≡ entries → front ≡ take i some → behind ≡ drop i some → 0 < i → i < length some → IsParted a b c s0 s1 s2 page left right (Leaf front) (Leaf behind)
    → key ≡ (slice_index_or behind 0 d).key → list_all is_entry entries ≡ true → AllByRecursion FitsEntry entries → right < 2 ^ 32
    → HasLeaves a c s0 s2 page entries left (record { key = key; child = right })
leaves_parted a b c s0 s1 s2 page left right i entries some front behind key d whole is_front is_behind low high p key_is each fits small =
    let h = halves some i low high in
    let head : front ≡ h.x ∷ h.xs = is_front ∙ h.front_is in
    let rest : behind ≡ h.y ∷ h.ys = is_behind ∙ h.behind_is in
    let same : key ≡ h.y.key = key_is ∙ ap (λ (es : List Entry). (slice_index_or es 0 d).key) rest in
    let good = behind_key entries i h.y h.ys (ap (drop i) (sym whole) ∙ h.behind_is) each fits in
    let is : is_key key ≡ true = ap is_key same ∙ good.is in
    let version : key.version < 2 ^ 32 = subst (λ (k : Key). k.version < 2 ^ 32) (sym same) good.version in
    record {
      grown = grown_parted a b c s0 s1 s2 page left right (Leaf front) (Leaf behind) key p is (record { name = key_short key is; version = version; child = small });
      leaves = record {
        x = h.x;
        xs = h.xs;
        y = h.y;
        ys = h.ys;
        parts = sym whole ∙ sym (take-append-drop i some) ∙ (λ j. h.front_is j ++ h.behind_is j);
        front = front_has a b c s0 s1 s2 page left right (Leaf front) (Leaf behind) p ∙ ap (λ (es : List Entry). Some (Leaf es)) head;
        behind = p.behind.content ∙ ap (λ (es : List Entry). Some (Leaf es)) rest;
        key = same;
      };
    }

-- ---- interior pages

pub rest_of : {X : Type 0} (xs : List X) (n : ℕ) → take (length xs - n) (drop n xs) ≡ drop n xs
rest_of xs n = take_all (length xs - n) (drop n xs) (omega (arith, length-drop n xs))

pub record HasInteriors (a c : Step) (s0 s2 : List Sheet) (page first : ℕ) (separators : List Separator) (left : ℕ) (s : Separator) : Type 0 where
  pub grown : IsGrown a c s0 s2 page (Parted left s)
  pub interiors : AreWaysOf (drafted s2 c.images) first separators left s

pub ways_parted : (a b c : Step) (s0 s1 s2 : List Sheet) (page left right first p i : ℕ) (separators some : List Separator) (y : Separator)
    → some ≡ separators → length some ≡ 10 → 4 ≤ i → i ≤ 5 → slice_get some i ≡ Some y → IsParted a b c s0 s1 s2 page left right (Interior first (take i some)) (Interior y.child (drop (i + 1) some))
    → list_all (λ s. is_key s.key && nat_lt s.child p) separators ≡ true → AllByRecursion FitsSeparator separators → right < 2 ^ 32
    → HasInteriors a c s0 s2 page first separators left (record { key = y.key; child = right })
ways_parted a b c s0 s1 s2 page left right first p i separators some y whole ten least most at parted each fits small =
    let h = halves some i (omega arith) (omega arith) in
    let split : drop i some ≡ y ∷ drop (i + 1) some = drop_at some i y at in
    let parts : separators ≡ take i some ++ y ∷ drop (i + 1) some = sym whole ∙ sym (take-append-drop i some) ∙ ap (λ (zs : List Separator). take i some ++ zs) split in
    let good : Separator → Bool = λ s. is_key s.key && nat_lt s.child p in
    let later = (and_parts (list_all good (take i some)) (list_all good (y ∷ drop (i + 1) some)) (sym (list_all-append good (take i some) (y ∷ drop (i + 1) some)) ∙ ap (list_all good) (sym parts) ∙ each)).1 in
    let is = (and_parts (is_key y.key) (nat_lt y.child p) (and_parts (good y) (list_all good (drop (i + 1) some)) later).0).0 in
    let fit = (all_split FitsSeparator (take i some) (y ∷ drop (i + 1) some) (subst (AllByRecursion FitsSeparator) parts fits)).1 in
    record {
      grown = grown_parted a b c s0 s1 s2 page left right (Interior first (take i some)) (Interior y.child (drop (i + 1) some)) y.key parted is (record { name = fit.0.name; version = fit.0.version; child = small });
      interiors = record {
        x = h.x;
        xs = h.xs;
        y = y;
        ys = drop (i + 1) some;
        many = omega (arith, ap length whole, ten);
        parts = parts ∙ ap (λ (zs : List Separator). zs ++ y ∷ drop (i + 1) some) h.front_is;
        front = front_has a b c s0 s1 s2 page left right (Interior first (take i some)) (Interior y.child (drop (i + 1) some)) parted ∙ ap (λ (zs : List Separator). Some (Interior first zs)) h.front_is;
        behind = parted.behind.content;
        key = refl;
      };
    }
