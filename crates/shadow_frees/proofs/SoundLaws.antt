-- No sector waits twice, whatever readers hold.
use Rattle.std.proofs.Common.{◌≡◌, ℕ, zero, suc, ◌+◌, ◌-◌, ◌<◌, ◌≤◌, Bool, true, false, not, ◌&&◌, ◌||◌, List, [], ◌∷◌, length, set, get_or, All, Option, Some, None, refl, sym, ap, ◌∙◌, inl, inr, arith, subst, replicate}
use Rattle.std.specs.List.{list_any}
use Rattle.std.proofs.lemmas.Bool.{both_ways, false_from_ne_true, and_parts, or_cases}
use Rattle.std.proofs.lemmas.List.Elements.{All-set}
use Rattle.std.proofs.lemmas.List.Folds.{list_any_at}
use Rattle.run_table.specs.declared.run.Run.{Run}
use Rattle.run_table.specs.RunTable.{sectors_of}
use Rattle.run_table.specs.Space.{contains, where_free, runs_of}
use Rattle.sector_set.specs.Area.{Area, area, without_sectors, together, AreIn, AreOut, IsOwn, left_of}
use Rattle.sector_set.proofs.AreaLaws.{free_passes}
use Rattle.sector_set.proofs.CountLaws.{split_where, no_more_than}
use Rattle.sector_set.proofs.FreeLaws.{where_same, contains_where}
use Rattle.shadow_frees.specs.Waits.{AreDisjoint, AreSound, waits_in, waiting_sectors}
use Rattle.shadow_frees.specs.Readers.{Slots, IsSameOrApart, has_sector, is_held, unheld, with_held, IsVersion, IsSlot}
use Rattle.sector_set.proofs.MeetLaws.{none_any, all_any}
use Rattle.shadow_frees.proofs.HeldLaws.{agrees_back, own_of, has_where}
use Rattle.shadow_frees.proofs.WaitLaws.{none_apart, freed_apart, begun_apart, ended_apart, given_apart, both, fewer, still_in}

-- ---- at first

pub all_cons : (P : Option (List Run) → Type 0) (x : Option (List Run)) (xs : Slots) → P x → All P xs → All P (x ∷ xs)
all_cons P x xs h hs zero d less = h
all_cons P x xs h hs (suc k) d less = hs k d (omega arith)

no_versions : (removed kept : Area) (slots : Slots) (n : ℕ) → All (IsSlot removed kept slots) (replicate n None)
no_versions removed kept slots zero = λ k d less. absurd (omega arith)
no_versions removed kept slots (suc n) = all_cons (IsSlot removed kept slots) None (replicate n None) tt (no_versions removed kept slots n)

pub sound_at_first : (from to : ℕ) (removed kept unfinished : Area) → removed ≡ area from to (λ s. false) → kept ≡ area from to (λ s. false) → unfinished ≡ area from to (λ s. false) → AreSound removed kept unfinished (replicate 8 None)
sound_at_first from to removed kept unfinished r k u = record {
  removed_kept = none_apart from to removed kept r k;
  removed_unfinished = none_apart from to removed unfinished r u;
  kept_unfinished = none_apart from to kept unfinished k u;
  own = own_of from to (λ s. false) kept k;
  slots = no_versions removed kept (replicate 8 None) 8;
}

-- ---- sectors come and go

agrees_together : (runs other : List Run) (s t : ℕ) → IsSameOrApart runs (Some other) → contains (sectors_of other) s ≡ true → contains (sectors_of other) t ≡ true → contains (sectors_of runs) s ≡ contains (sectors_of runs) t
agrees_together runs other s t agree in_s in_t = elim agree [
  | inl e ↦ ap (λ (x : List Run). contains (sectors_of x) s) (sym e) ∙ in_s ∙ sym in_t ∙ ap (λ (x : List Run). contains (sectors_of x) t) e
  | inr fails ↦ none_any (contains (sectors_of runs)) (sectors_of other) fails s in_s ∙ sym (none_any (contains (sectors_of runs)) (sectors_of other) fails t in_t)
]

freed_slot : (removed kept new : Area) (slots : Slots) (runs : List Run) (slot : Option (List Run)) → new ≡ together removed runs → IsSameOrApart runs slot → IsSlot removed kept slots slot → IsSlot new kept slots slot
freed_slot removed kept new slots runs None is agree v = tt
freed_slot removed kept new slots runs (Some other) is agree v = record {
  within = λ s c. let a = v.within s c in (omega (arith, a.0, ap (λ (m : Area). m.from) is), omega (arith, a.1, ap (λ (m : Area). m.to) is));
  differ = v.differ;
  whole = λ s t in_s in_t.
      let a = v.within s in_s in
      let b = v.within t in_t in
      has_where removed.from removed.to _ new s is a.0 a.1
      ∙ ap (λ (x : Bool). x || contains (sectors_of runs) s) (v.whole s t in_s in_t)
      ∙ ap (λ (x : Bool). contains removed.sectors t || x) (agrees_together runs other s t agree in_s in_t)
      ∙ sym (has_where removed.from removed.to _ new t is b.0 b.1);
  whole_kept = v.whole_kept;
  agree = v.agree;
}

pub sound_freed : (removed kept unfinished new : Area) (slots : Slots) (runs : List Run) → new ≡ together removed runs → AreSound removed kept unfinished slots → AreOut kept runs → AreOut unfinished runs → All (IsSameOrApart runs) slots → AreSound new kept unfinished slots
sound_freed removed kept unfinished new slots runs is sound out_kept out_unfinished agree = record {
  removed_kept = freed_apart removed kept new runs is sound.removed_kept out_kept;
  removed_unfinished = freed_apart removed unfinished new runs is sound.removed_unfinished out_unfinished;
  kept_unfinished = sound.kept_unfinished;
  own = sound.own;
  slots = λ k d less. freed_slot removed kept new slots runs (get_or slots k d) is (agree k d less) (sound.slots k d less);
}

pub sound_begun : (removed kept unfinished new : Area) (slots : Slots) (runs : List Run) → new ≡ together unfinished runs → AreSound removed kept unfinished slots → AreOut removed runs → AreOut kept runs → AreSound removed kept new slots
sound_begun removed kept unfinished new slots runs is sound out out_kept = record {
  removed_kept = sound.removed_kept;
  removed_unfinished = begun_apart removed unfinished new runs is sound.removed_unfinished out;
  kept_unfinished = begun_apart kept unfinished new runs is sound.kept_unfinished out_kept;
  own = sound.own;
  slots = sound.slots;
}

pub sound_ended : (removed kept unfinished new : Area) (slots : Slots) (runs : List Run) → new ≡ without_sectors unfinished runs → AreSound removed kept unfinished slots → AreSound removed kept new slots
sound_ended removed kept unfinished new slots runs is sound = record {
  removed_kept = sound.removed_kept;
  removed_unfinished = ended_apart removed unfinished new runs is sound.removed_unfinished;
  kept_unfinished = ended_apart kept unfinished new runs is sound.kept_unfinished;
  own = sound.own;
  slots = sound.slots;
}

-- ---- readers come and go

held_slot : (removed kept : Area) (slots : Slots) (i : ℕ) (runs : List Run) (slot : Option (List Run)) → IsSameOrApart runs slot → IsSlot removed kept slots slot → IsSlot removed kept (set slots i (Some runs)) slot
held_slot removed kept slots i runs None agree v = tt
held_slot removed kept slots i runs (Some other) agree v = record {
  within = v.within;
  differ = v.differ;
  whole = v.whole;
  whole_kept = v.whole_kept;
  agree = All-set (IsSameOrApart other) slots i (Some runs) (agrees_back runs other agree) v.agree;
}

pub sound_held : (removed kept unfinished : Area) (slots : Slots) (i : ℕ) (runs : List Run) → AreSound removed kept unfinished slots → AreOut removed runs → AreOut kept runs → All (IsSameOrApart runs) slots → AreSound removed kept unfinished (set slots i (Some runs))
sound_held removed kept unfinished slots i runs sound out out_kept agree = record {
  removed_kept = sound.removed_kept;
  removed_unfinished = sound.removed_unfinished;
  kept_unfinished = sound.kept_unfinished;
  own = sound.own;
  slots = All-set (IsSlot removed kept (set slots i (Some runs))) slots i (Some runs) version (λ k d less. held_slot removed kept slots i runs (get_or slots k d) (agree k d less) (sound.slots k d less));
}
  where
    version : IsVersion removed kept (set slots i (Some runs)) runs
    version = record {
      within = out.within;
      differ = out.differ;
      whole = λ s t in_s in_t. out.outside s in_s ∙ sym (out.outside t in_t);
      whole_kept = λ s t in_s in_t. out_kept.outside s in_s ∙ sym (out_kept.outside t in_t);
      agree = All-set (IsSameOrApart runs) slots i (Some runs) (inl refl) agree;
    }

dropped_slot : (removed kept : Area) (slots : Slots) (i : ℕ) (slot : Option (List Run)) → IsSlot removed kept slots slot → IsSlot removed kept (set slots i None) slot
dropped_slot removed kept slots i None v = tt
dropped_slot removed kept slots i (Some other) v = record {
  within = v.within;
  differ = v.differ;
  whole = v.whole;
  whole_kept = v.whole_kept;
  agree = All-set (IsSameOrApart other) slots i None tt v.agree;
}

pub sound_dropped : (removed kept unfinished : Area) (slots : Slots) (i : ℕ) → AreSound removed kept unfinished slots → AreSound removed kept unfinished (set slots i None)
sound_dropped removed kept unfinished slots i sound = record {
  removed_kept = sound.removed_kept;
  removed_unfinished = sound.removed_unfinished;
  kept_unfinished = sound.kept_unfinished;
  own = sound.own;
  slots = All-set (IsSlot removed kept (set slots i None)) slots i None tt (λ k d less. dropped_slot removed kept slots i (get_or slots k d) (sound.slots k d less));
}

given_slot : (removed kept new : Area) (slots : Slots) (runs : List Run) (slot : Option (List Run)) → AreDisjoint removed kept → new ≡ without_sectors kept runs → IsSameOrApart runs slot → IsSlot removed kept slots slot → IsSlot removed new slots slot
given_slot removed kept new slots runs None apart is agree v = tt
given_slot removed kept new slots runs (Some other) apart is agree v = record {
  within = v.within;
  differ = v.differ;
  whole = v.whole;
  whole_kept = λ s t in_s in_t.
      let a = v.within s in_s in
      let b = v.within t in_t in
      has_where kept.from kept.to _ new s is (omega (arith, a.0, apart.from)) (omega (arith, a.1, apart.to))
      ∙ ap (λ (x : Bool). x && not (contains (sectors_of runs) s)) (v.whole_kept s t in_s in_t)
      ∙ ap (λ (x : Bool). contains kept.sectors t && not x) (agrees_together runs other s t agree in_s in_t)
      ∙ sym (has_where kept.from kept.to _ new t is (omega (arith, b.0, apart.from)) (omega (arith, b.1, apart.to)));
  agree = v.agree;
}

pub sound_given : (removed kept unfinished new : Area) (slots : Slots) (runs : List Run) → new ≡ without_sectors kept runs → AreSound removed kept unfinished slots → All (IsSameOrApart runs) slots → AreSound removed new unfinished slots
sound_given removed kept unfinished new slots runs is sound agree = record {
  removed_kept = ended_apart removed kept new runs is sound.removed_kept;
  removed_unfinished = sound.removed_unfinished;
  kept_unfinished = given_apart kept unfinished new runs is sound.kept_unfinished;
  own = own_of kept.from kept.to _ new is;
  slots = λ k d less. given_slot removed kept new slots runs (get_or slots k d) sound.removed_kept is (agree k d less) (sound.slots k d less);
}

-- the version of a slot
pub version_in : (removed kept unfinished : Area) (slots : Slots) (i : ℕ) (d : Option (List Run)) (runs : List Run) → AreSound removed kept unfinished slots → i < length slots → get_or slots i d ≡ Some runs → IsVersion removed kept slots runs
version_in removed kept unfinished slots i d runs sound inside is = subst (IsSlot removed kept slots) is (sound.slots i d inside)

pub kept_version : (removed kept unfinished : Area) (slots : Slots) (runs : List Run) → AreSound removed kept unfinished slots → IsVersion removed kept slots runs → list_any (contains kept.sectors) (sectors_of runs) ≡ true → AreIn kept runs
kept_version removed kept unfinished slots runs sound v holds = record { inside = all_any (contains kept.sectors) (sectors_of runs) v.whole_kept holds; differ = v.differ }

pub agree_dropped : (removed kept : Area) (slots : Slots) (i : ℕ) (runs : List Run) → IsVersion removed kept slots runs → All (IsSameOrApart runs) (set slots i None)
agree_dropped removed kept slots i runs v = All-set (IsSameOrApart runs) slots i None tt v.agree

-- ---- after a force

-- these sectors were removed, and nobody holds them
abbrev pub AreReleased : Slots → Area → Area → Type 0
AreReleased slots removed left = (left.from ≡ removed.from) × (left.to ≡ removed.to) × ((s : ℕ) → contains left.sectors s ≡ true → (contains removed.sectors s ≡ true) × (not (is_held slots s) ≡ true))

pub released : (slots : Slots) (removed left : Area) → left ≡ unheld slots removed → AreReleased slots removed left
released slots removed left is = (
  ap (λ (m : Area). m.from) is,
  ap (λ (m : Area). m.to) is,
  λ s c. and_parts (contains removed.sectors s) (not (is_held slots s)) (free_passes removed.from removed.to _ s (ap (λ (m : Area). contains m.sectors s) (sym is) ∙ c)),
)

pub released_less : (slots : Slots) (removed left less : Area) (runs : List Run) → AreReleased slots removed left → less ≡ without_sectors left runs → AreReleased slots removed less
released_less slots removed left less runs r is = (
  ap (λ (m : Area). m.from) is ∙ r.0,
  ap (λ (m : Area). m.to) is ∙ r.1,
  λ s c. r.2 s (still_in left less runs s is c),
)

kept_cases : (slots : Slots) (removed kept new : Area) (s : ℕ) → new ≡ with_held slots kept removed → contains new.sectors s ≡ true → (contains kept.sectors s || contains removed.sectors s && is_held slots s) ≡ true
kept_cases slots removed kept new s is c = free_passes kept.from kept.to _ s (ap (λ (m : Area). contains m.sectors s) (sym is) ∙ c)

not_both : (b : Bool) → not b ≡ true → b ≡ true → ⊥
not_both true n e = both_ways false refl n
not_both false n e = both_ways false refl e

committed_slot : (removed kept left new : Area) (slots : Slots) (k : ℕ) (d slot : Option (List Run)) → k < length slots → get_or slots k d ≡ slot → AreDisjoint removed kept → AreReleased slots removed left → new ≡ with_held slots kept removed → IsSlot removed kept slots slot → IsSlot left new slots slot
committed_slot removed kept left new slots k d None inside at apart r is v = tt
committed_slot removed kept left new slots k d (Some runs) inside at apart r is v = record {
  within = λ s c. let a = v.within s c in (omega (arith, a.0, r.0), omega (arith, a.1, r.1));
  differ = v.differ;
  whole = λ s t in_s in_t. none s in_s ∙ sym (none t in_t);
  whole_kept = λ s t in_s in_t.
      let a = v.within s in_s in
      let b = v.within t in_t in
      has_where kept.from kept.to _ new s is (omega (arith, a.0, apart.from)) (omega (arith, a.1, apart.to))
      ∙ ap (λ (x : Bool). x || contains removed.sectors s && is_held slots s) (v.whole_kept s t in_s in_t)
      ∙ ap (λ (x : Bool). contains kept.sectors t || x && is_held slots s) (v.whole s t in_s in_t)
      ∙ ap (λ (x : Bool). contains kept.sectors t || contains removed.sectors t && x) (held s in_s ∙ sym (held t in_t))
      ∙ sym (has_where kept.from kept.to _ new t is (omega (arith, b.0, apart.from)) (omega (arith, b.1, apart.to)));
  agree = v.agree;
}
  where
    held : (s : ℕ) → contains (sectors_of runs) s ≡ true → is_held slots s ≡ true
    held s c = list_any_at (has_sector s) slots k d inside (ap (has_sector s) at ∙ c)

    none : (s : ℕ) → contains (sectors_of runs) s ≡ true → contains left.sectors s ≡ false
    none s c = false_from_ne_true (contains left.sectors s) (λ e. not_both (is_held slots s) (r.2 s e).1 (held s c))

pub sound_committed : (removed kept unfinished left new : Area) (slots : Slots) → AreSound removed kept unfinished slots → AreReleased slots removed left → new ≡ with_held slots kept removed → AreSound left new unfinished slots
sound_committed removed kept unfinished left new slots sound r is = record {
  removed_kept = record {
    from = r.0 ∙ sound.removed_kept.from ∙ sym (ap (λ (m : Area). m.from) is);
    to = r.1 ∙ sound.removed_kept.to ∙ sym (ap (λ (m : Area). m.to) is);
    apart = λ s c. false_from_ne_true (contains new.sectors s) (λ e. elim (or_cases (contains kept.sectors s) (contains removed.sectors s && is_held slots s) (kept_cases slots removed kept new s is e)) [
      | inl k ↦ both_ways (contains kept.sectors s) (sound.removed_kept.apart s (r.2 s c).0) k
      | inr h ↦ not_both (is_held slots s) (r.2 s c).1 (and_parts (contains removed.sectors s) (is_held slots s) h).1
    ]);
  };
  removed_unfinished = record {
    from = r.0 ∙ sound.removed_unfinished.from;
    to = r.1 ∙ sound.removed_unfinished.to;
    apart = λ s c. sound.removed_unfinished.apart s (r.2 s c).0;
  };
  kept_unfinished = record {
    from = ap (λ (m : Area). m.from) is ∙ sound.kept_unfinished.from;
    to = ap (λ (m : Area). m.to) is ∙ sound.kept_unfinished.to;
    apart = λ s e. elim (or_cases (contains kept.sectors s) (contains removed.sectors s && is_held slots s) (kept_cases slots removed kept new s is e)) [
      | inl k ↦ sound.kept_unfinished.apart s k
      | inr h ↦ sound.removed_unfinished.apart s (and_parts (contains removed.sectors s) (is_held slots s) h).0
    ];
  };
  own = own_of kept.from kept.to _ new is;
  slots = λ k d less. committed_slot removed kept left new slots k d (get_or slots k d) less refl sound.removed_kept r is (sound.slots k d less);
}

-- ---- how many wait

-- those that wait are the three sets together
pub all_waiting : (removed kept unfinished : Area) (slots : Slots) → IsOwn removed → IsOwn kept → IsOwn unfinished → AreSound removed kept unfinished slots
    → length (waiting_sectors (record { removed = removed; kept = kept; unfinished = unfinished; held = slots })) ≡ length removed.sectors + length kept.sectors + length unfinished.sectors
all_waiting removed kept unfinished slots r k u sound =
    let one : Area = area removed.from removed.to (λ s. contains removed.sectors s || contains kept.sectors s) in
    let apart : AreDisjoint one unfinished = record {
      from = sound.removed_unfinished.from;
      to = sound.removed_unfinished.to;
      apart = λ s c. elim (or_cases (contains removed.sectors s) (contains kept.sectors s) (free_passes removed.from removed.to _ s c)) [
        | inl e ↦ sound.removed_unfinished.apart s e
        | inr e ↦ sound.kept_unfinished.apart s e
      ];
    } in
    let same : where_free (waits_in (record { removed = removed; kept = kept; unfinished = unfinished; held = slots })) removed.from removed.to ≡ where_free (λ s. contains one.sectors s || contains unfinished.sectors s) removed.from removed.to =
    where_same _ _ removed.from removed.to (λ s low high. regrouped (contains removed.sectors s) (contains kept.sectors s) (contains unfinished.sectors s)
    ∙ ap (λ (b : Bool). b || contains unfinished.sectors s) (sym (contains_where (λ t. contains removed.sectors t || contains kept.sectors t) removed.from removed.to s low high))) in
    omega (arith, ap length same, both removed kept r k sound.removed_kept, both one unfinished (own_of removed.from removed.to _ one refl) u apart)
  where
    regrouped : (a b c : Bool) → (a || (b || c)) ≡ ((a || b) || c)
    regrouped true b c = refl
    regrouped false b c = refl

pub few_waiting : (removed kept unfinished : Area) (slots : Slots) → IsOwn removed → IsOwn kept → IsOwn unfinished → AreSound removed kept unfinished slots → length removed.sectors + length kept.sectors + length unfinished.sectors ≤ removed.to - removed.from
few_waiting removed kept unfinished slots r k u sound =
    omega (arith, all_waiting removed kept unfinished slots r k u sound, no_more_than (waits_in (record { removed = removed; kept = kept; unfinished = unfinished; held = slots })) removed.from removed.to)

-- ---- those that nobody holds

pub all_left_of : (slots : Slots) (removed m : Area) (at : ℕ) → m ≡ unheld slots removed → at ≡ removed.from → left_of m at ≡ runs_of m.sectors
all_left_of slots removed m at is here =
    let start : at ≡ m.from = here ∙ sym (ap (λ (v : Area). v.from) is) in
    ap (λ (n : ℕ). runs_of (where_free (contains m.sectors) n m.to)) start
    ∙ ap (λ (v : Area). runs_of v.sectors) (sym (own_of removed.from removed.to _ m is))

pub unheld_fewer : (slots : Slots) (removed m : Area) → IsOwn removed → m ≡ unheld slots removed → length m.sectors ≤ length removed.sectors
unheld_fewer slots removed m own is =
    omega (arith, split_where (contains removed.sectors) (is_held slots) removed.from removed.to, ap (λ (v : Area). length v.sectors) own, ap (λ (v : Area). length v.sectors) is)

pub fewer_left : (slots : Slots) (removed m new : Area) (r : Run) → IsOwn removed → m ≡ unheld slots removed → AreIn m (r ∷ []) → new ≡ without_sectors m (r ∷ []) → 1 ≤ r.length → length new.sectors < length removed.sectors
fewer_left slots removed m new r own is are left some =
    omega (arith, fewer m new r (own_of removed.from removed.to _ m is) are left some, unheld_fewer slots removed m own is)
