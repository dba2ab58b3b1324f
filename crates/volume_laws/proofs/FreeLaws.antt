-- What waited for a force becomes free, run by run.
use Rattle.std.proofs.Common.{◌≡◌, inl, inr, ℕ, ◌<◌, ◌≤◌, Bool, true, false, not, ◌&&◌, ◌||◌, List, [], ◌∷◌, refl, sym, ap, ◌∙◌, arith}
use Rattle.std.specs.Prelude.{IsTrue, IsFalse}
use Rattle.std.proofs.lemmas.Bool.{cases_lt, and_parts, not-true}
use Rattle.run_table.specs.declared.run.Run.{Run}
use Rattle.run_table.specs.RunTable.{sectors_of}
use Rattle.run_table.specs.Space.{contains, where_free}
use Rattle.sector_set.specs.Area.{Area, AreIn, AreOut, IsOwn, together, without_sectors}
use Rattle.std.proofs.lemmas.List.{nil_from_length}
use Rattle.std.proofs.Math.Bool.{and-false}
use Rattle.sector_set.proofs.CountLaws.{none_where}
use Rattle.sector_set.proofs.AreaLaws.{free_passes, free_within}
use Rattle.sector_set.proofs.FreeLaws.{contains_where, contains_where_outside, where_same}
use Rattle.shadow_frees.specs.Readers.{Slots, is_held, unheld, with_held}
use Rattle.shadow_frees.specs.Waits.{Waits, run_between}

-- So far: the free sectors and those that nobody holds of the ones that wait are the same together, and none is both.
pub record Frees (map0 : Area) (w0 : Waits) (map : Area) (w : Waits) : Type 0 where
  pub own : IsOwn map
  pub from : map.from ≡ map0.from
  pub to : map.to ≡ map0.to
  pub first : w.removed.from ≡ map0.from
  pub last : w.removed.to ≡ map0.to
  pub held : w.held ≡ w0.held
  pub unfinished : w.unfinished ≡ w0.unfinished
  pub kept : with_held w.held w.kept w.removed ≡ with_held w0.held w0.kept w0.removed
  pub apart : (s : ℕ) → contains map.sectors s ≡ true → contains w.removed.sectors s ≡ false
  pub same : (s : ℕ) → (contains map.sectors s || contains (unheld w.held w.removed).sectors s) ≡ (contains map0.sectors s || contains (unheld w0.held w0.removed).sectors s)

pub frees_first : (map : Area) (w : Waits) → IsOwn map → w.removed.from ≡ map.from → w.removed.to ≡ map.to → ((s : ℕ) → IsTrue (contains map.sectors s) → IsFalse (contains w.removed.sectors s)) → Frees map w map w
frees_first map w own from to apart = record {
  own = own;
  from = refl;
  to = refl;
  first = from;
  last = to;
  held = refl;
  unfinished = refl;
  kept = refl;
  apart = apart;
  same = λ s. refl;
}

-- ---- tests

not_both : (a b : Bool) → (a ≡ true → b ≡ false) → b ≡ true → a ≡ false
not_both true b never is = absurd (let e = never refl in cc (e, is))
not_both false b never is = refl

step_tests : (m r h x : Bool) → (x ≡ true → (r && not h) ≡ true) → ((m || x) || (((r && not h) && not x) && not h)) ≡ (m || (r && not h))
step_tests true r h x in_a = refl
step_tests false true true true in_a = absurd (let e = in_a refl in cc e)
step_tests false false h true in_a = absurd (let e = in_a refl in cc e)
step_tests false true false true in_a = refl
step_tests false true true false in_a = refl
step_tests false true false false in_a = refl
step_tests false false true false in_a = refl
step_tests false false false false in_a = refl

-- ---- nothing

pub nothing : (from to : ℕ) → where_free (λ s. false) from to ≡ []
nothing from to = nil_from_length (where_free (λ s. false) from to) (none_where from to)

-- what is kept for readers stays, where nothing that waits for a force is held
pub kept_again : (slots : Slots) (kept removed left : Area) → ((s : ℕ) → contains left.sectors s ≡ true → is_held slots s ≡ false) → with_held slots (with_held slots kept removed) left ≡ with_held slots kept removed
kept_again slots kept removed left loose =
    let f : ℕ → Bool = λ s. contains kept.sectors s || contains removed.sectors s && is_held slots s in
    let same : where_free (λ s. contains (where_free f kept.from kept.to) s || contains left.sectors s && is_held slots s) kept.from kept.to ≡ where_free f kept.from kept.to =
    where_same (λ s. contains (where_free f kept.from kept.to) s || contains left.sectors s && is_held slots s) f kept.from kept.to
    (λ s low high. no_more (contains (where_free f kept.from kept.to) s) (contains left.sectors s) (is_held slots s) (loose s) ∙ contains_where f kept.from kept.to s low high) in
    λ i. record { from = kept.from; to = kept.to; sectors = same i }
  where
    no_more : (a b c : Bool) → (b ≡ true → c ≡ false) → (a || b && c) ≡ a
    no_more true b c none = refl
    no_more false true c none = none refl
    no_more false false c none = refl

-- ---- a run more

module _ (map0 : Area) (w0 : Waits) (map : Area) (w : Waits) (so : Frees map0 w0 map w) (p : ℕ × ℕ) (given : AreIn (unheld w.held w.removed) (run_between p ∷ [])) where
  abbrev runs : List Run
  runs = run_between p ∷ []

  in_removed : (s : ℕ) → contains (sectors_of runs) s ≡ true → contains w.removed.sectors s ≡ true
  in_removed s is = (and_parts (contains w.removed.sectors s) (not (is_held w.held s)) (free_passes w.removed.from w.removed.to (λ t. contains w.removed.sectors t && not (is_held w.held t)) s (given.inside s is))).0

  pub run_out : AreOut map runs
  run_out = record {
    within = λ s is. let at = free_within w.removed.from w.removed.to (λ t. contains w.removed.sectors t && not (is_held w.held t)) s (given.inside s is) in (omega (arith, at.0, so.first, so.from), omega (arith, at.1, so.last, so.to));
    outside = λ s is. not_both (contains map.sectors s) (contains w.removed.sectors s) (so.apart s) (in_removed s is);
    differ = given.differ;
  }

  module _ (v : Waits) (removed : v.removed ≡ without_sectors (unheld w.held w.removed) runs) (held : v.held ≡ w.held) (unfinished : v.unfinished ≡ w.unfinished) (kept : v.kept ≡ with_held w.held w.kept w.removed) where
    abbrev next : Area
    next = together map runs

    abbrev left : ℕ → Bool
    left s = contains (unheld w.held w.removed).sectors s && not (contains (sectors_of runs) s)

    within_next : (s : ℕ) → map.from ≤ s → s < map.to → contains next.sectors s ≡ (contains map.sectors s || contains (sectors_of runs) s)
    within_next s low high = contains_where (λ t. contains map.sectors t || contains (sectors_of runs) t) map.from map.to s low high

    within_left : (s : ℕ) → w.removed.from ≤ s → s < w.removed.to → contains (without_sectors (unheld w.held w.removed) runs).sectors s ≡ left s
    within_left s low high = contains_where left w.removed.from w.removed.to s low high

    pub own_next : IsOwn (together map runs)
    own_next =
        let f : ℕ → Bool = λ s. contains map.sectors s || contains (sectors_of runs) s in
        let same : where_free f map.from map.to ≡ where_free (contains (where_free f map.from map.to)) map.from map.to =
        where_same f (contains (where_free f map.from map.to)) map.from map.to (λ s low high. sym (contains_where f map.from map.to s low high)) in
        λ i. record { from = map.from; to = map.to; sectors = same i }

    -- ---- of one sector

    module _ (s : ℕ) where
      abbrev m : Bool
      m = contains map.sectors s

      abbrev x : Bool
      x = contains (sectors_of runs) s

      abbrev r : Bool
      r = contains w.removed.sectors s

      abbrev h : Bool
      h = is_held w.held s

      in_all : (low : map.from ≤ s) → (high : s < map.to) → contains (unheld w.held w.removed).sectors s ≡ (r && not h)
      in_all low high = contains_where (λ t. contains w.removed.sectors t && not (is_held w.held t)) w.removed.from w.removed.to s (omega (arith, low, so.first, so.from)) (omega (arith, high, so.last, so.to))

      in_removed_now : (low : map.from ≤ s) → (high : s < map.to) → contains v.removed.sectors s ≡ ((r && not h) && not x)
      in_removed_now low high =
          ap (λ (a : Area). contains a.sectors s) removed
          ∙ within_left s (omega (arith, low, so.first, so.from)) (omega (arith, high, so.last, so.to))
          ∙ ap (λ (b : Bool). b && not x) (in_all low high)

      in_left : (low : map.from ≤ s) → (high : s < map.to) → contains (unheld v.held v.removed).sectors s ≡ (((r && not h) && not x) && not h)
      in_left low high =
          contains_where (λ t. contains v.removed.sectors t && not (is_held v.held t)) v.removed.from v.removed.to s
          (omega (arith, low, so.first, so.from, ap (λ (a : Area). a.from) removed)) (omega (arith, high, so.last, so.to, ap (λ (a : Area). a.to) removed))
          ∙ (λ i. in_removed_now low high i && not (is_held (held i) s))

      x_in : (low : map.from ≤ s) → (high : s < map.to) → x ≡ true → (r && not h) ≡ true
      x_in low high is = sym (in_all low high) ∙ given.inside s is

      apart_tests : (m x r h : Bool) → (m ≡ true → r ≡ false) → (m || x) ≡ true → ((r && not h) && not x) ≡ false
      apart_tests m true r h never is = and-false (r && not h)
      apart_tests true false r h never is = ap (λ (b : Bool). (b && not h) && true) (never refl)
      apart_tests false false r h never is = absurd cc

      out_of : (map.from ≤ s → s < map.to → ⊥) → (f : ℕ → Bool) (from to : ℕ) → from ≡ map.from → to ≡ map.to → contains (where_free f from to) s ≡ false
      out_of out f from to e1 e2 = contains_where_outside f from to s (λ low high. out (omega (arith, low, e1)) (omega (arith, high, e2)))

    module _ (s : ℕ) (out : map.from ≤ s → s < map.to → ⊥) where
      first_is : w.removed.from ≡ map.from
      first_is = so.first ∙ sym so.from

      last_is : w.removed.to ≡ map.to
      last_is = so.last ∙ sym so.to

      gone_next : contains (together map runs).sectors s ≡ false
      gone_next = out_of s out (λ t. contains map.sectors t || contains (sectors_of runs) t) map.from map.to refl refl

      gone_map : contains map.sectors s ≡ false
      gone_map = ap (λ (a : Area). contains a.sectors s) so.own ∙ out_of s out (contains map.sectors) map.from map.to refl refl

      gone_left : contains (unheld v.held v.removed).sectors s ≡ false
      gone_left = out_of s out (λ t. contains v.removed.sectors t && not (is_held v.held t)) v.removed.from v.removed.to (ap (λ (a : Area). a.from) removed ∙ first_is) (ap (λ (a : Area). a.to) removed ∙ last_is)

      gone_all : contains (unheld w.held w.removed).sectors s ≡ false
      gone_all = out_of s out (λ t. contains w.removed.sectors t && not (is_held w.held t)) w.removed.from w.removed.to first_is last_is

      gone_same : (contains (together map runs).sectors s || contains (unheld v.held v.removed).sectors s) ≡ (contains map.sectors s || contains (unheld w.held w.removed).sectors s)
      gone_same = (λ i. gone_next i || gone_left i) ∙ sym (λ i. gone_map i || gone_all i)

    by_range : {P : Type 0} (s : ℕ) → (map.from ≤ s → s < map.to → P) → ((map.from ≤ s → s < map.to → ⊥) → P) → P
    by_range s inside outside = elim (cases_lt s map.from) [
      | inl below ↦ outside (λ low high. absurd (omega (arith, below, low)))
      | inr low ↦ elim (cases_lt s map.to) [
        | inl high ↦ inside low high
        | inr above ↦ outside (λ low high. absurd (omega (arith, above, high)))
      ]
    ]

    same_next : (s : ℕ) → (contains (together map runs).sectors s || contains (unheld v.held v.removed).sectors s) ≡ (contains map.sectors s || contains (unheld w.held w.removed).sectors s)
    same_next s = by_range s
        (λ low high. (λ i. within_next s low high i || in_left s low high i) ∙ step_tests (contains map.sectors s) (contains w.removed.sectors s) (is_held w.held s) (contains (sectors_of runs) s) (x_in s low high) ∙ ap (λ (b : Bool). contains map.sectors s || b) (sym (in_all s low high)))
        (λ out. gone_same s out)

    apart_next : (s : ℕ) → contains (together map runs).sectors s ≡ true → contains v.removed.sectors s ≡ false
    apart_next s is = by_range s
        (λ low high. in_removed_now s low high ∙ apart_tests s (contains map.sectors s) (contains (sectors_of runs) s) (contains w.removed.sectors s) (is_held w.held s) (so.apart s) (sym (within_next s low high) ∙ is))
        (λ out. absurd (let e = gone_next s out in cc (is, e)))

    -- what is left to free is held by nobody
    left_loose : (s : ℕ) → contains v.removed.sectors s ≡ true → is_held w.held s ≡ false
    left_loose s is =
        let there : contains (without_sectors (unheld w.held w.removed) runs).sectors s ≡ true = ap (λ (a : Area). contains a.sectors s) (sym removed) ∙ is in
        let passed : contains (unheld w.held w.removed).sectors s ≡ true = (and_parts (contains (unheld w.held w.removed).sectors s) (not (contains (sectors_of runs) s)) (free_passes w.removed.from w.removed.to left s there)).0 in
        not-true (is_held w.held s) (and_parts (contains w.removed.sectors s) (not (is_held w.held s)) (free_passes w.removed.from w.removed.to (λ t. contains w.removed.sectors t && not (is_held w.held t)) s passed)).1

    kept_still : with_held v.held v.kept v.removed ≡ with_held w.held w.kept w.removed
    kept_still = (λ i. with_held (held i) (kept i) v.removed) ∙ kept_again w.held w.kept w.removed v.removed left_loose

    pub frees_next : Frees map0 w0 (together map runs) v
    frees_next = record {
      own = own_next;
      from = so.from;
      to = so.to;
      first = ap (λ (a : Area). a.from) removed ∙ so.first;
      last = ap (λ (a : Area). a.to) removed ∙ so.last;
      held = held ∙ so.held;
      unfinished = unfinished ∙ so.unfinished;
      kept = kept_still ∙ so.kept;
      apart = apart_next;
      same = λ s. same_next s ∙ so.same s;
    }

-- at the end what a reader alone keeps is what it was
module _ (map0 : Area) (w0 : Waits) (map : Area) (w : Waits) (so : Frees map0 w0 map w) (none : (unheld w.held w.removed).sectors ≡ []) where
  pub kept_all : (v : Area) → v ≡ with_held w.held w.kept w.removed → v ≡ with_held w0.held w0.kept w0.removed
  kept_all v is = is ∙ so.kept
