-- Pages that are taken one after another.
use Rattle.std.proofs.Common.{◌≡◌, ◌⊎◌, inl, inr, ℕ, ◌+◌, ◌<◌, ◌≤◌, Bool, true, false, cond, not, ◌&&◌, ◌||◌, List, [], ◌∷◌, ◌++◌, length, get_or, refl, sym, ap, subst, ◌∙◌, arith, length-append, get_or-set_other}
use Rattle.std.specs.Prelude.{◌==◌, IsSome, slice_set}
use Rattle.std.specs.List.{AllByRecursion}
use Rattle.std.proofs.lemmas.List.Folds.{list_any-append}
use Rattle.std.proofs.lemmas.Bool.{false_from_ne_true, eqb-true, eq-eqb, or_cases}
use Rattle.fsd_forest.specs.Forest.{Disjoint}
use Rattle.fsd_forest.proofs.KeepLaws.{in_left, in_right}
use Rattle.name_btree.proofs.drafts.ApartLaws.{apart_from}
use Rattle.run_table.specs.Space.{contains}
use Rattle.run_table.proofs.SectorLaws.{each_in}
use Rattle.fsd_formats.specs.NamePage.{read_page}
use Rattle.fsd_table.proofs.BoundLaws.{all_append, all_weaker}
use Rattle.name_page.specs.Pages.{Step, is_one_of, is_spare, changes, with_one, with_taken, IsReached}
use Rattle.name_btree.specs.declared.draft.Sheet.{Sheet}
use Rattle.name_btree.specs.Draft.{IsSheet, AreSheets, MayGo, WereTaken}
use Rattle.name_btree.specs.Grown.{TakesSpare}
use Rattle.name_btree.specs.Still.{IsStillStep}
use Rattle.name_btree.proofs.drafts.DraftLaws.{taken_kept, taken_changes, taken_used}

-- ---- flags

cleared : (spares : List Bool) (page q : ℕ) → get_or (slice_set spares page false) q false ≡ (get_or spares q false && not ((page == q) || false))
cleared spares page q = by (page == q) refl
  where
    none : (b : Bool) → false ≡ (b && not (true || false))
    none true = refl
    none false = refl

    all : (b : Bool) → b ≡ (b && not (false || false))
    all true = refl
    all false = refl

    by : (b : Bool) → (page == q) ≡ b → get_or (slice_set spares page false) q false ≡ (get_or spares q false && not (b || false))
    by true is = ap (λ (n : ℕ). get_or (slice_set spares n false) q false) (eqb-true page q is) ∙ taken_used spares q ∙ none (get_or spares q false)
    by false is =
        get_or-set_other spares page q false false (λ e. let yes = eq-eqb q q refl in let no : (q == q) ≡ false = ap (λ (n : ℕ). n == q) e ∙ is in cc)
        ∙ all (get_or spares q false)

more_cleared : (b x y : Bool) → ((b && not x) && not y) ≡ (b && not (x || y))
more_cleared true true y = refl
more_cleared true false y = refl
more_cleared false x y = refl

spare_parts : (b x : Bool) → (b && not x) ≡ true → x ≡ true → ⊥
spare_parts true true e h = absurd cc
spare_parts true false e h = absurd cc
spare_parts false x e h = absurd cc

spare_was : (b x : Bool) → (b && not x) ≡ true → b ≡ true
spare_was true x e = refl
spare_was false x e = absurd cc

still_used : (b x : Bool) → b ≡ false → (b && not x) ≡ false
still_used true x e = absurd cc
still_used false x e = refl

-- ---- pages that are changed

-- one that is among them now was before, or is this one
pub one_changed : (pages : List ℕ) (page q : ℕ) → is_one_of (with_one pages page) q ≡ true → (is_one_of pages q ≡ true) ⊎ (contains (page ∷ []) q ≡ true)
one_changed pages page q there = by (is_one_of pages page) there
  where
    by : (b : Bool) → is_one_of (cond b pages (pages ++ page ∷ [])) q ≡ true → (is_one_of pages q ≡ true) ⊎ (contains (page ∷ []) q ≡ true)
    by true here = inl here
    by false here = or_cases (is_one_of pages q) (is_one_of (page ∷ []) q) (sym (list_any-append (λ t. t == q) pages (page ∷ [])) ∙ here)

pub only_one : (page q : ℕ) → contains (page ∷ []) q ≡ true → page ≡ q
only_one page q there = elim (or_cases (page == q) false there) [
  | inl same ↦ eqb-true page q same
  | inr none ↦ absurd (cc none)
]

-- ---- one page, none, or more

taken_once : (step : Step) (page : ℕ) → is_spare step.spares page ≡ true → WereTaken step (with_taken page step) (page ∷ [])
taken_once step page spare = record { spare = (spare, tt); apart = refl; spares = λ q. cleared step.spares page q }

pub takes_one : (step : Step) (page : ℕ) → is_spare step.spares page ≡ true → 0 < step.promised → IsReached (with_taken page step) page → TakesSpare step (with_taken page step) (page ∷ [])
takes_one step page spare promised reached = record {
  images = refl;
  most_reached = refl;
  most_changed = refl;
  promised = omega arith;
  changes = taken_changes step page;
  taken = taken_once step page spare;
  changed = λ q is. one_changed step.changed page q is;
  reached = λ q h. taken_kept step page q h;
  own = (reached, tt);
}

same_spares : (old new : List Bool) (q : ℕ) → new ≡ old → is_spare new q ≡ (is_spare old q && not false)
same_spares old new q e = ap (λ (s : List Bool). is_spare s q) e ∙ by (is_spare old q)
  where
    by : (b : Bool) → b ≡ (b && not false)
    by true = refl
    by false = refl

same_changes : (old new : Step) → IsStillStep old new → changes old ≤ changes new + 0
same_changes old new still = omega (arith, ap length still.changed, still.most_changed)

-- a step that only looks
pub takes_none : (old new : Step) → new.images ≡ old.images → new.spares ≡ old.spares → new.most_reached ≡ old.most_reached → IsStillStep old new → ((q : ℕ) → IsReached old q → IsReached new q) → TakesSpare old new []
takes_none old new images spares most still kept = record {
  images = images;
  most_reached = most;
  most_changed = still.most_changed;
  promised = omega (arith, still.promised);
  changes = same_changes old new still;
  taken = record { spare = tt; apart = refl; spares = λ q. same_spares old.spares new.spares q spares };
  changed = λ q is. inl (ap (λ (pages : List ℕ). is_one_of pages q) (sym still.changed) ∙ is);
  reached = kept;
  own = tt;
}

-- pages that were taken first are none of those that were taken then
pub taken_apart : (a b c : Step) (xs ys : List ℕ) → WereTaken a b xs → WereTaken b c ys → Disjoint xs ys
taken_apart a b c xs ys s t p h =
    false_from_ne_true (contains ys p) (λ i. spare_parts (is_spare a.spares p) (contains xs p) (sym (s.spares p) ∙ each_in (λ q. is_spare b.spares q ≡ true) ys p t.spare i) h)

taken_then : (a b c : Step) (xs ys : List ℕ) → WereTaken a b xs → WereTaken b c ys → WereTaken a c (xs ++ ys)
taken_then a b c xs ys s t = record {
  spare = all_append (λ q. is_spare a.spares q ≡ true) xs ys s.spare
      (all_weaker (λ q. is_spare b.spares q ≡ true) (λ q. is_spare a.spares q ≡ true) ys (λ q h. spare_was (is_spare a.spares q) (contains xs q) (sym (s.spares q) ∙ h)) t.spare);
  apart = apart_from xs ys s.apart t.apart (taken_apart a b c xs ys s t);
  spares = λ q.
      t.spares q
      ∙ ap (λ (v : Bool). v && not (contains ys q)) (s.spares q)
      ∙ more_cleared (is_spare a.spares q) (contains xs q) (contains ys q)
      ∙ ap (λ (v : Bool). is_spare a.spares q && not v) (sym (list_any-append (λ t. t == q) xs ys));
}

pub takes_then : (a b c : Step) (xs ys : List ℕ) → TakesSpare a b xs → TakesSpare b c ys → TakesSpare a c (xs ++ ys)
takes_then a b c xs ys s t = record {
  images = t.images ∙ s.images;
  most_reached = t.most_reached ∙ s.most_reached;
  most_changed = t.most_changed ∙ s.most_changed;
  promised = omega (arith, s.promised, t.promised, length-append xs ys);
  changes = more (changes a) (changes b) (changes c) (length xs) (length ys) (length (xs ++ ys)) s.changes t.changes (length-append xs ys);
  taken = taken_then a b c xs ys s.taken t.taken;
  changed = λ q is. elim (t.changed q is) [
    | inl then ↦ elim (s.changed q then) [
      | inl was ↦ inl was
      | inr first ↦ inr (in_left xs ys q first)
    ]
    | inr last ↦ inr (in_right xs ys q last)
  ];
  reached = λ q h. t.reached q (s.reached q h);
  own = all_append (IsReached c) xs ys (all_weaker (IsReached b) (IsReached c) xs (λ q h. t.reached q h) s.own) t.own;
}
  where
    more : (x y z m n k : ℕ) → x ≤ y + m → y ≤ z + n → k ≡ m + n → x ≤ z + k
    more x y z m n k h i e = omega arith

pub taken_itself : (b : Bool) (page : ℕ) → (b && not ((page == page) || false)) ≡ false
taken_itself b page = ap (λ (x : Bool). b && not (x || false)) (eq-eqb page page refl) ∙ by b
  where
    by : (b : Bool) → (b && false) ≡ false
    by true = refl
    by false = refl

-- ---- what stays

pub used_over : (old new : Step) (came : List ℕ) (q : ℕ) → TakesSpare old new came → is_spare old.spares q ≡ false → is_spare new.spares q ≡ false
used_over old new came q t h = t.taken.spares q ∙ still_used (is_spare old.spares q) (contains came q) h

pub sheets_over : (old new : Step) (came : List ℕ) (sheets : List Sheet) → TakesSpare old new came → AreSheets old sheets → AreSheets new sheets
sheets_over old new came sheets t a = all_weaker (IsSheet old) (IsSheet new) sheets (λ s h. record {
  reached = t.reached s.page h.reached;
  used = used_over old new came s.page t h.used;
  accepted = subst (λ (x : List (List ℕ)). IsSome (read_page s.page (length x) s.image)) (sym t.images) h.accepted;
}) a

pub goes_over : (old new : Step) (came pages : List ℕ) → TakesSpare old new came → AllByRecursion (MayGo old) pages → AllByRecursion (MayGo new) pages
goes_over old new came pages t a = all_weaker (MayGo old) (MayGo new) pages (λ q h. record {
  reached = t.reached q h.reached;
  used = used_over old new came q t h.used;
  inner = h.inner;
}) a
