-- What readers hold.
use Rattle.std.proofs.Common.{◌≡◌, ℕ, suc, ◌+◌, ◌<◌, ◌≤◌, Bool, true, false, not, ◌&&◌, ◌||◌, List, [], ◌∷◌, length, take, get_or, All, Option, Some, None, refl, sym, ap, ◌∙◌, inl, inr, arith, subst}
use Rattle.std.specs.List.{list_any}
use Rattle.std.proofs.lemmas.Bool.{both_ways, false_from_ne_true, and_parts, or_parts, not-true, not-false}
use Rattle.std.proofs.lemmas.List.{get_or_default, take_all}
use Rattle.std.proofs.lemmas.List.Elements.{All-take, All-get_or, All-more}
use Rattle.std.proofs.lemmas.List.Folds.{list_any_more}
use Rattle.run_table.specs.declared.run.Run.{Run}
use Rattle.run_table.specs.RunTable.{sectors_of, same_runs}
use Rattle.run_table.specs.Space.{contains, where_free}
use Rattle.sector_set.specs.Area.{Area, area, without_sectors, together, AreIn, AreOut, IsOwn}
use Rattle.run_table.proofs.SameLaws.{same_runs_are, runs_are_same}
use Rattle.sector_set.proofs.FreeLaws.{where_same, contains_where}
use Rattle.shadow_frees.specs.Waits.{AreDisjoint}
use Rattle.sector_set.specs.Meet.{meets}
use Rattle.shadow_frees.specs.Readers.{Slots, IsSameOrApart, has_same, has_sector, is_held, unheld, with_held, AreTogether, IsVersion, IsSlot, AreSlots}
use Rattle.sector_set.proofs.MeetLaws.{none_any, any_none, all_any}

-- ---- two versions are the same, or apart

pub agrees_back : (a b : List Run) → IsSameOrApart a (Some b) → IsSameOrApart b (Some a)
agrees_back a b agree = elim agree [
  | inl e ↦ inl (sym e)
  | inr fails ↦ inr (any_none (contains (sectors_of b)) (sectors_of a) (λ s in_a. false_from_ne_true (contains (sectors_of b) s) (λ in_b.
      both_ways (contains (sectors_of a) s) (none_any (contains (sectors_of a)) (sectors_of b) fails s in_b) in_a)))
]

-- a slot has all of a version's sectors, or none
has_none : (runs other : List Run) (u : ℕ) → meets (sectors_of runs) other ≡ false → contains (sectors_of runs) u ≡ true → contains (sectors_of other) u ≡ false
has_none runs other u apart in_u = false_from_ne_true (contains (sectors_of other) u) (λ c. both_ways (contains (sectors_of runs) u) (none_any (contains (sectors_of runs)) (sectors_of other) apart u c) in_u)

has_together : (runs : List Run) (slot : Option (List Run)) (s t : ℕ) → IsSameOrApart runs slot → contains (sectors_of runs) s ≡ true → contains (sectors_of runs) t ≡ true → has_sector s slot ≡ has_sector t slot
has_together runs None s t agree in_s in_t = refl
has_together runs (Some other) s t agree in_s in_t = elim agree [
  | inl e ↦ ap (λ (x : List Run). contains (sectors_of x) s) e ∙ in_s ∙ sym in_t ∙ ap (λ (x : List Run). contains (sectors_of x) t) (sym e)
  | inr fails ↦ has_none runs other s fails in_s ∙ sym (has_none runs other t fails in_t)
]

pub held_together : (slots : Slots) (runs : List Run) (s t : ℕ) → All (IsSameOrApart runs) slots → contains (sectors_of runs) s ≡ true → contains (sectors_of runs) t ≡ true → is_held slots s ≡ is_held slots t
held_together [] runs s t agree in_s in_t = refl
held_together (slot ∷ slots) runs s t agree in_s in_t =
    ap (λ (b : Bool). b || is_held slots s) (has_together runs slot s t (agree 0 None (omega arith)) in_s in_t)
    ∙ ap (λ (b : Bool). has_sector t slot || b) (held_together slots runs s t (λ k d less. agree (suc k) d (omega arith)) in_s in_t)

-- ---- sets

same_area : (from to : ℕ) (f g : ℕ → Bool) → ((s : ℕ) → from ≤ s → s < to → f s ≡ g s) → area from to f ≡ area from to g
same_area from to f g h = ap (λ (xs : List ℕ). record { from = from; to = to; sectors = xs }) (where_same f g from to h)

pub own_of : (from to : ℕ) (f : ℕ → Bool) (m : Area) → m ≡ area from to f → IsOwn m
own_of from to f m is = subst IsOwn (sym is) (same_area from to f (contains (where_free f from to)) (λ s low high. sym (contains_where f from to s low high)))

-- whether a set made by a test has a sector
pub has_where : (from to : ℕ) (f : ℕ → Bool) (m : Area) (s : ℕ) → m ≡ area from to f → from ≤ s → s < to → contains m.sectors s ≡ f s
has_where from to f m s is low high = ap (λ (v : Area). contains v.sectors s) is ∙ contains_where f from to s low high

-- ---- the slots so far, and one more

pub nobody : (m n : Area) → IsOwn m → m ≡ unheld [] m
nobody m n own = own ∙ same_area m.from m.to (contains m.sectors) (λ s. contains m.sectors s && not false) (λ s low high. yes (contains m.sectors s))
  where
    yes : (a : Bool) → a ≡ (a && true)
    yes true = refl
    yes false = refl

pub nothing_kept : (kept removed : Area) → IsOwn kept → kept ≡ with_held [] kept removed
nothing_kept kept removed own = own ∙ same_area kept.from kept.to (contains kept.sectors) (λ s. contains kept.sectors s || contains removed.sectors s && false) (λ s low high. yes (contains kept.sectors s) (contains removed.sectors s))
  where
    yes : (a b : Bool) → a ≡ (a || b && false)
    yes true b = refl
    yes false true = refl
    yes false false = refl

held_more : (slots : Slots) (i : ℕ) (slot : Option (List Run)) (s : ℕ) → i < length slots → get_or slots i None ≡ slot → is_held (take (i + 1) slots) s ≡ (is_held (take i slots) s || has_sector s slot)
held_more slots i slot s inside is = list_any_more (has_sector s) slots i None inside ∙ ap (λ (x : Option (List Run)). is_held (take i slots) s || has_sector s x) is

pub removed_moved : (slots : Slots) (i : ℕ) (runs : List Run) (removed now new : Area) → i < length slots → get_or slots i None ≡ Some runs → now ≡ unheld (take i slots) removed → new ≡ without_sectors now runs → new ≡ unheld (take (i + 1) slots) removed
removed_moved slots i runs removed now new inside is so_far step =
    step ∙ ap (λ (v : Area). without_sectors v runs) so_far
    ∙ same_area removed.from removed.to _ _ (λ s low high.
    ap (λ (b : Bool). b && not (contains (sectors_of runs) s)) (contains_where (λ s. contains removed.sectors s && not (is_held (take i slots) s)) removed.from removed.to s low high)
    ∙ regroup (contains removed.sectors s) (is_held (take i slots) s) (contains (sectors_of runs) s)
    ∙ ap (λ (b : Bool). contains removed.sectors s && not b) (sym (held_more slots i (Some runs) s inside is)))
  where
    regroup : (a b c : Bool) → ((a && not b) && not c) ≡ (a && not (b || c))
    regroup true true c = refl
    regroup true false c = refl
    regroup false b c = refl

pub kept_moved : (slots : Slots) (i : ℕ) (runs : List Run) (removed kept now new : Area) → i < length slots → get_or slots i None ≡ Some runs → now ≡ with_held (take i slots) kept removed → new ≡ together now runs
    → ((s : ℕ) → contains (sectors_of runs) s ≡ true → contains removed.sectors s ≡ true) → new ≡ with_held (take (i + 1) slots) kept removed
kept_moved slots i runs removed kept now new inside is so_far step all =
    step ∙ ap (λ (v : Area). together v runs) so_far
    ∙ same_area kept.from kept.to _ _ (λ s low high.
    ap (λ (b : Bool). b || contains (sectors_of runs) s) (contains_where (λ s. contains kept.sectors s || contains removed.sectors s && is_held (take i slots) s) kept.from kept.to s low high)
    ∙ regroup (contains kept.sectors s) (contains removed.sectors s) (is_held (take i slots) s) (contains (sectors_of runs) s) (all s)
    ∙ ap (λ (b : Bool). contains kept.sectors s || contains removed.sectors s && b) (sym (held_more slots i (Some runs) s inside is)))
  where
    regroup : (k a b c : Bool) → (c ≡ true → a ≡ true) → ((k || a && b) || c) ≡ (k || a && (b || c))
    regroup true a b c h = refl
    regroup false true true c h = refl
    regroup false true false c h = refl
    regroup false false b true h = absurd (both_ways false refl (h refl))
    regroup false false b false h = refl

-- a slot whose sectors are not removed, or were moved before
pub removed_stays : (slots : Slots) (i : ℕ) (slot : Option (List Run)) (removed now : Area) → i < length slots → get_or slots i None ≡ slot → now ≡ unheld (take i slots) removed
    → ((s : ℕ) → removed.from ≤ s → s < removed.to → has_sector s slot ≡ true → contains now.sectors s ≡ false) → now ≡ unheld (take (i + 1) slots) removed
removed_stays slots i slot removed now inside is so_far none =
    so_far ∙ same_area removed.from removed.to _ _ (λ s low high.
    regroup (contains removed.sectors s) (is_held (take i slots) s) (has_sector s slot) (λ c. sym (has_where removed.from removed.to _ now s so_far low high) ∙ none s low high c)
    ∙ ap (λ (b : Bool). contains removed.sectors s && not b) (sym (held_more slots i slot s inside is)))
  where
    regroup : (a b c : Bool) → (c ≡ true → (a && not b) ≡ false) → (a && not b) ≡ (a && not (b || c))
    regroup true true c h = refl
    regroup true false true h = absurd (both_ways true (h refl) refl)
    regroup true false false h = refl
    regroup false b c h = refl

pub kept_stays : (slots : Slots) (i : ℕ) (slot : Option (List Run)) (removed kept now gone : Area) → i < length slots → get_or slots i None ≡ slot → now ≡ unheld (take i slots) removed → gone ≡ with_held (take i slots) kept removed → AreDisjoint removed kept
    → ((s : ℕ) → removed.from ≤ s → s < removed.to → has_sector s slot ≡ true → contains now.sectors s ≡ false) → gone ≡ with_held (take (i + 1) slots) kept removed
kept_stays slots i slot removed kept now gone inside is so_far so_kept apart none =
    so_kept ∙ same_area kept.from kept.to _ _ (λ s low high.
    let l : removed.from ≤ s = omega (arith, apart.from) in
    let h : s < removed.to = omega (arith, apart.to) in
    regroup (contains kept.sectors s) (contains removed.sectors s) (is_held (take i slots) s) (has_sector s slot) (λ c. sym (has_where removed.from removed.to _ now s so_far l h) ∙ none s l h c)
    ∙ ap (λ (b : Bool). contains kept.sectors s || contains removed.sectors s && b) (sym (held_more slots i slot s inside is)))
  where
    regroup : (k a b c : Bool) → (c ≡ true → (a && not b) ≡ false) → (k || a && b) ≡ (k || a && (b || c))
    regroup true a b c h = refl
    regroup false true true c h = refl
    regroup false true false true h = absurd (both_ways true (h refl) refl)
    regroup false true false false h = refl
    regroup false false b c h = refl

-- ---- a version whose slot is reached

pub version_at : (removed kept : Area) (slots : Slots) (i : ℕ) (runs : List Run) → AreSlots removed kept slots → i < length slots → get_or slots i None ≡ Some runs → IsVersion removed kept slots runs
version_at removed kept slots i runs are inside is = subst (IsSlot removed kept slots) is (All-get_or (IsSlot removed kept slots) slots i None inside are)

-- its sectors are still among the removed ones, or none of them is
pub still_together : (removed kept : Area) (slots : Slots) (i : ℕ) (runs : List Run) (now : Area) → IsVersion removed kept slots runs → now ≡ unheld (take i slots) removed → AreTogether now runs
still_together removed kept slots i runs now v so_far = λ s t in_s in_t.
    let a = v.within s in_s in
    let b = v.within t in_t in
    has_where removed.from removed.to _ now s so_far a.0 a.1
    ∙ ap (λ (x : Bool). x && not (is_held (take i slots) s)) (v.whole s t in_s in_t)
    ∙ ap (λ (x : Bool). contains removed.sectors t && not x) (held_together (take i slots) runs s t (All-take (IsSameOrApart runs) i slots v.agree) in_s in_t)
    ∙ sym (has_where removed.from removed.to _ now t so_far b.0 b.1)

pub all_removed : (removed kept : Area) (slots : Slots) (i : ℕ) (runs : List Run) (now : Area) → IsVersion removed kept slots runs → now ≡ unheld (take i slots) removed → meets now.sectors runs ≡ true
    → (s : ℕ) → contains (sectors_of runs) s ≡ true → (contains now.sectors s ≡ true) × (contains removed.sectors s ≡ true) × (not (is_held (take i slots) s) ≡ true)
all_removed removed kept slots i runs now v so_far holds s in_s =
    let here = all_any (contains now.sectors) (sectors_of runs) (still_together removed kept slots i runs now v so_far) holds s in_s in
    let a = v.within s in_s in
    let parts = and_parts (contains removed.sectors s) (not (is_held (take i slots) s)) (sym (has_where removed.from removed.to _ now s so_far a.0 a.1) ∙ here) in
    (here, parts.0, parts.1)

pub may_move : (removed kept : Area) (slots : Slots) (i : ℕ) (runs : List Run) (now : Area) → IsVersion removed kept slots runs → now ≡ unheld (take i slots) removed → meets now.sectors runs ≡ true → AreIn now runs
may_move removed kept slots i runs now v so_far holds = record {
  inside = λ s c. (all_removed removed kept slots i runs now v so_far holds s c).0;
  differ = v.differ;
}

pub may_come : (removed kept : Area) (slots : Slots) (i : ℕ) (runs : List Run) (now gone : Area) → AreDisjoint removed kept → IsVersion removed kept slots runs → now ≡ unheld (take i slots) removed → gone ≡ with_held (take i slots) kept removed → meets now.sectors runs ≡ true → AreOut gone runs
may_come removed kept slots i runs now gone apart v so_far so_kept holds = record {
  within = λ s c. let a = v.within s c in (omega (arith, a.0, apart.from, ap (λ (m : Area). m.from) so_kept), omega (arith, a.1, apart.to, ap (λ (m : Area). m.to) so_kept));
  outside = λ s c.
      let a = v.within s c in
      let all = all_removed removed kept slots i runs now v so_far holds s c in
      has_where kept.from kept.to _ gone s so_kept (omega (arith, a.0, apart.from)) (omega (arith, a.1, apart.to))
      ∙ neither (contains kept.sectors s) (contains removed.sectors s) (is_held (take i slots) s) (apart.apart s all.1) all.2;
  differ = v.differ;
}
  where
    neither : (k a b : Bool) → k ≡ false → not b ≡ true → (k || a && b) ≡ false
    neither true a b e f = absurd (both_ways true e refl)
    neither false a true e f = absurd (both_ways false refl f)
    neither false true false e f = refl
    neither false false false e f = refl

-- ---- the slot of a step

pub slot_at : (slots : Slots) (i : ℕ) (v w : Option (List Run)) → i < length slots → v ≡ get_or slots i v → v ≡ w → get_or slots i None ≡ w
slot_at slots i v w inside at is = get_or_default slots i None v inside ∙ sym at ∙ is

pub all_there : (slots : Slots) (i : ℕ) (removed now : Area) → length slots ≤ i → now ≡ unheld (take i slots) removed → now ≡ unheld slots removed
all_there slots i removed now over is = is ∙ ap (λ (x : Slots). unheld x removed) (take_all i slots over)

pub all_kept : (slots : Slots) (i : ℕ) (kept removed now : Area) → length slots ≤ i → now ≡ with_held (take i slots) kept removed → now ≡ with_held slots kept removed
all_kept slots i kept removed now over is = is ∙ ap (λ (x : Slots). with_held x kept removed) (take_all i slots over)

-- ---- whether a slot agrees

pub are_equal : (other runs : List Run) (differ : Bool) → differ ≡ not (same_runs other runs) → differ ≡ false → other ≡ runs
are_equal other runs differ is e = same_runs_are other runs (not-false (same_runs other runs) (sym is ∙ e))

pub no_agreement : (other runs : List Run) (differ : Bool) → differ ≡ not (same_runs other runs) → differ ≡ true → meets (sectors_of runs) other ≡ true → IsSameOrApart runs (Some other) → ⊥
no_agreement other runs differ is e met agree = elim agree [
  | inl same ↦ both_ways (same_runs other runs) (not-true (same_runs other runs) (sym is ∙ e)) (ap (same_runs other) (sym same) ∙ runs_are_same other)
  | inr fails ↦ both_ways (meets (sectors_of runs) other) fails met
]

pub agree_more : (slots : Slots) (i : ℕ) (runs : List Run) (slot : Option (List Run)) → i < length slots → get_or slots i None ≡ slot → All (IsSameOrApart runs) (take i slots) → IsSameOrApart runs slot → All (IsSameOrApart runs) (take (i + 1) slots)
agree_more slots i runs slot inside at so_far agree = All-more (IsSameOrApart runs) slots i None inside so_far (subst (IsSameOrApart runs) (sym at) agree)

-- ---- nobody else holds it

pub nobody_holds : (slots : Slots) (runs : List Run) (s : ℕ) → All (IsSameOrApart runs) slots → list_any (has_same runs) slots ≡ false → contains (sectors_of runs) s ≡ true → is_held slots s ≡ false
nobody_holds [] runs s agree none c = refl
nobody_holds (None ∷ slots) runs s agree none c = nobody_holds slots runs s (λ k d less. agree (suc k) d (omega arith)) none c
nobody_holds (Some other ∷ slots) runs s agree none c =
    let parts = or_parts (same_runs other runs) (list_any (has_same runs) slots) none in
    let first : contains (sectors_of other) s ≡ false = apart (agree 0 None (omega arith)) parts.0 in
    ap (λ (b : Bool). b || is_held slots s) first ∙ nobody_holds slots runs s (λ k d less. agree (suc k) d (omega arith)) parts.1 c
  where
    apart : IsSameOrApart runs (Some other) → same_runs other runs ≡ false → contains (sectors_of other) s ≡ false
    apart (inl e) differ = absurd (both_ways (same_runs other runs) differ (ap (same_runs other) (sym e) ∙ runs_are_same other))
    apart (inr fails) differ = has_none runs other s fails c
