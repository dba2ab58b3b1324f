-- The versions that go: their sectors are taken, each alone, and wait one after another.
use Rattle.std.proofs.Common.{◌≡◌, ℕ, ◌+◌, ◌≤◌, Bool, true, false, cond, ◌||◌, List, [], ◌∷◌, ◌++◌, filter, refl, sym, ap, subst, ◌∙◌, arith}
use Rattle.std.specs.Prelude.{◌==◌}
use Rattle.std.specs.List.{AllByRecursion, list_any}
use Rattle.std.proofs.lemmas.Bool.{both_ways, eq-eqb, eqb-true, false_from_ne_true, or_left, or_parts}
use Rattle.run_table.specs.declared.run.Run.{Run}
use Rattle.run_table.specs.RunTable.{sectors_of}
use Rattle.run_table.specs.Space.{contains}
use Rattle.sector_set.specs.Area.{Area, AreOut, together}
use Rattle.sector_set.specs.Meet.{meets}
use Rattle.shadow_frees.specs.Waits.{Waits}
use Rattle.fsd_formats.specs.declared.entry.Entry.{Entry}
use Rattle.fsd_files.specs.Volume.{is_in, plans_of}
use Rattle.fsd_files.proofs.CountLaws.{contains_occurs, occurs, used, used-cons}
use Rattle.fsd_files.proofs.ChangeLaws.{used-append}
use Rattle.version_table.specs.declared.oldest.Leaving.{Leaving}
use Rattle.version_table.specs.Met.{entries_left}
use Rattle.cached_table.specs.Entering.{AreIdleInTurn, AreInTurn, AreTaken, share, with_gone}
use Rattle.volume_laws.proofs.EnteredSpace.{gone_at, in_first}

-- ---- a loop over them

-- What is left of them is idle one after another, and the rest waits.
pub record FreesGone (first : Waits) (all : List Leaving) (now : Waits) (left : List Leaving) : Type 0 where
  pub idle : AreIdleInTurn now left
  pub removed : with_gone now.removed left ≡ with_gone first.removed all
  pub kept : now.kept ≡ first.kept
  pub unfinished : now.unfinished ≡ first.unfinished
  pub held : now.held ≡ first.held

-- ---- taken in turn, so idle in turn

-- a sector of a version that shares none with these is in none of them
none_shared : (gone : List Leaving) (runs : List Run) (s : ℕ) → share gone runs ≡ false → contains (sectors_of runs) s ≡ true → is_in (plans_of (entries_left gone)) s ≡ false
none_shared [] runs s none here = refl
none_shared (g ∷ gone) runs s none here =
    let parts = or_parts (meets (sectors_of runs) g.entry.runs) (share gone runs) none in
    in_first s g.entry (entries_left gone) ∙ (λ i. apart (sectors_of g.entry.runs) parts.0 i || none_shared gone runs s parts.1 here i)
  where
    apart : (xs : List ℕ) → list_any (contains (sectors_of runs)) xs ≡ false → contains xs s ≡ false
    apart [] lacks = refl
    apart (x ∷ xs) lacks =
        let parts = or_parts (contains (sectors_of runs) x) (list_any (contains (sectors_of runs)) xs) lacks in
        λ i. other x parts.0 i || apart xs parts.1 i
      where
        other : (x : ℕ) → contains (sectors_of runs) x ≡ false → (x == s) ≡ false
        other x out = false_from_ne_true (x == s) (λ same. both_ways (contains (sectors_of runs) x) out (ap (contains (sectors_of runs)) (eqb-true x s same) ∙ here))

same_ends : (a : Area) (gone : List Leaving) → ((with_gone a gone).from ≡ a.from) × ((with_gone a gone).to ≡ a.to)
same_ends a [] = (refl, refl)
same_ends a (g ∷ gone) = same_ends (together a g.entry.runs) gone

gone_more : (a : Area) (seen : List Leaving) (g : Leaving) → together (with_gone a seen) g.entry.runs ≡ with_gone a (seen ++ g ∷ [])
gone_more a [] g = refl
gone_more a (x ∷ seen) g = gone_more (together a x.entry.runs) seen g

pub idle_in_turn : (map : Area) (w : Waits) (seen gone : List Leaving) → AreInTurn map w seen gone → AreIdleInTurn (record w { removed = with_gone w.removed seen }) gone
idle_in_turn map w seen [] turn = tt
idle_in_turn map w seen (g ∷ gone) turn =
    let idle = turn.0.0.1 in
    let ends = same_ends w.removed seen in
    let out : AreOut (with_gone w.removed seen) g.entry.runs = record {
      within = λ s here. let at = idle.0.within s here in (omega (arith, at.0, ends.0), omega (arith, at.1, ends.1));
      outside = λ s here. let at = idle.0.within s here in gone_at w.removed seen s at.0 at.1 ∙ (λ i. idle.0.outside s here i || none_shared seen g.entry.runs s turn.0.1 here i);
      differ = idle.0.differ;
    } in (
      ((out, idle.1, idle.2), turn.0.0.2),
      subst (λ (a : Area). AreIdleInTurn (record w { removed = a }) gone) (sym (gone_more w.removed seen g)) (idle_in_turn map w (seen ++ g ∷ []) gone turn.1),
    )

-- ---- those of a volume's versions

-- a sector stands in some of the entries no more often than in all of them
pub fewer_used : (p : Entry → Bool) (s : ℕ) (es : List Entry) → used s (plans_of (filter p es)) ≤ used s (plans_of es)
fewer_used p s [] = omega arith
fewer_used p s (e ∷ es) = by (p e) (fewer_used p s es)
  where
    by : (b : Bool) → used s (plans_of (filter p es)) ≤ used s (plans_of es) → used s (plans_of (cond b (e ∷ filter p es) (filter p es))) ≤ used s (plans_of (e ∷ es))
    by true rest = omega (arith, used-cons s e.runs (plans_of (filter p es)), used-cons s e.runs (plans_of es), rest)
    by false rest = omega (arith, used-cons s e.runs (plans_of es), rest)

-- where each sector stands in one of them once, none is shared
not_shared : (seen : List Leaving) (g : Leaving) → ((s : ℕ) → used s (plans_of (entries_left seen)) + occurs s (sectors_of g.entry.runs) ≤ 1) → share seen g.entry.runs ≡ false
not_shared [] g once = refl
not_shared (x ∷ seen) g once = λ i. apart (sectors_of x.entry.runs) (λ s. omega (arith, once s, used-cons s x.entry.runs (plans_of (entries_left seen)))) i
    || not_shared seen g (λ s. omega (arith, once s, used-cons s x.entry.runs (plans_of (entries_left seen)))) i
  where
    apart : (xs : List ℕ) → ((s : ℕ) → occurs s xs + occurs s (sectors_of g.entry.runs) ≤ 1) → list_any (contains (sectors_of g.entry.runs)) xs ≡ false
    apart [] once = refl
    apart (t ∷ xs) once = λ i. none i || apart xs (λ s. let o = once s in omega (arith, o)) i
      where
        none : contains (sectors_of g.entry.runs) t ≡ false
        none = false_from_ne_true (contains (sectors_of g.entry.runs) t) (λ here.
            let o = once t in
            let first = contains_occurs t (t ∷ xs) (or_left (t == t) (contains xs t) (eq-eqb t t refl)) in
            let second = contains_occurs t (sectors_of g.entry.runs) here in
            absurd (omega (arith, o, first, second)))

-- the sectors of each are taken, and each stands in one of them once
pub in_turn : (map : Area) (w : Waits) (seen gone : List Leaving) → AllByRecursion (λ g. AreTaken map w g.entry.runs) gone → ((s : ℕ) → used s (plans_of (entries_left seen)) + used s (plans_of (entries_left gone)) ≤ 1) → AreInTurn map w seen gone
in_turn map w seen [] taken once = tt
in_turn map w seen (g ∷ gone) taken once = (
  (taken.0, not_shared seen g (λ s. let o = once s in omega (arith, o, used-cons s g.entry.runs (plans_of (entries_left gone))))),
  in_turn map w (seen ++ g ∷ []) gone taken.1 (λ s. let o = once s in omega (arith, o, used-cons s g.entry.runs (plans_of (entries_left gone)), used_seen s)),
)
  where
    left_append : (xs : List Leaving) → plans_of (entries_left (xs ++ g ∷ [])) ≡ plans_of (entries_left xs) ++ g.entry.runs ∷ []
    left_append [] = refl
    left_append (x ∷ xs) = ap (λ (plans : List (List Run)). x.entry.runs ∷ plans) (left_append xs)

    used_seen : (s : ℕ) → used s (plans_of (entries_left (seen ++ g ∷ []))) ≡ used s (plans_of (entries_left seen)) + occurs s (sectors_of g.entry.runs)
    used_seen s = ap (used s) (left_append seen) ∙ used-append s (plans_of (entries_left seen)) (g.entry.runs ∷ []) ∙ (let one = used-cons s g.entry.runs [] in omega (arith, one))
