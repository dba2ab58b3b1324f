-- What a change does to the sectors of a volume: versions stay apart, what goes waits, and nothing else is let go.
use Rattle.std.proofs.Common.{◌≡◌, ◌⊎◌, inl, inr, ℕ, zero, suc, ◌+◌, ◌<◌, ◌≤◌, Bool, true, false, cond, List, [], ◌∷◌, ◌++◌, filter, take, Option, Some, None, Ordering, refl, sym, ap, subst, ◌∙◌, arith}
use Rattle.std.specs.Prelude.{T, IsTrue, IsFalse, IfSome, nat_le, not, ◌&&◌, ◌||◌, ◌==◌}
use Rattle.std.specs.FinMap.{is_sorted}
use Rattle.std.specs.List.{flat_map, list_all, list_any}
use Rattle.std.specs.declared.cmp.Ordering.TheVariants.{Less, Equal, Greater}
use Rattle.std.specs.FinMap.Entries.{by_order}
use Rattle.std.proofs.lemmas.Bool.{and_parts, and_from, or_cases, or_parts, or_from, or_left, or_right, not-true, not_from_false, false_from_ne_true, both_ways, cases_lt, eqb-true, eq-eqb}
use Rattle.std.proofs.lemmas.List.{append-nil}
use Rattle.std.proofs.lemmas.List.Folds.{list_any-append}
use Rattle.std.proofs.lemmas.Grind.{flat_map-append}
use Rattle.fsd_bytes.specs.declared.key.Key.{Key}
use Rattle.fsd_bytes.specs.declared.key.Serial.{Serial}
use Rattle.fsd_bytes.specs.Keys.{key_cmp, same_key}
use Rattle.volume_layout.specs.declared.layout.Layout.{Layout}
use Rattle.volume_layout.specs.Layout.{data_start, is_data}
use Rattle.run_table.specs.declared.run.Run.{Run}
use Rattle.run_table.specs.RunTable.{same_runs, sectors_of}
use Rattle.run_table.specs.Space.{contains, all_differ}
use Rattle.fsd_formats.specs.declared.entry.Entry.{Entry}
use Rattle.fsd_files.specs.Answers.{deleted, entry_kept, entry_of, entry_put, entries_with_keep, gone_sectors, keep_set, moved_entry, new_entry, with_version, with_version_moved, loaded_entry, with_loaded}
use Rattle.fsd_files.specs.Files.{File, gone_by_move, gone_keys, new_key}
use Rattle.fsd_files.specs.Kept.{Lists}
use Rattle.fsd_files.specs.Space.{Apart}
use Rattle.fsd_files.specs.Volume.{Volume, plans_of, is_in, in_version, waits, is_free, forced, forced_if, drawn, place_for, entries_at, entries_without}
use Rattle.fsd_files.specs.Waiting.{Changes, IsSpaced, are_same_or_apart, is_kept_alone, is_leader, is_let_go}
use Rattle.fsd_files.proofs.CountLaws.{one_where, occurs, occurs-append, used, used-cons, contains_occurs, occurs_contains, differ_occurs, occurs_differ, picked_once}
use Rattle.fsd_files.proofs.FreshLaws.{IsAbsent, absent_key, new_key_is_new}
use Rattle.fsd_files.proofs.ListingLaws.{entries_at_none, entries_without_none}
use Rattle.fsd_files.proofs.MoveLaws.{moved_used}
use Rattle.fsd_files.proofs.WaitLaws.{forced_is_spaced}

-- ---- how often a sector stands in plans

pub used-append : (s : ℕ) (xs ys : List (List Run)) → used s (xs ++ ys) ≡ used s xs + used s ys
used-append s xs ys = ap (occurs s) (flat_map-append sectors_of xs ys) ∙ occurs-append s (flat_map sectors_of xs) (flat_map sectors_of ys)

all_pass : (p : ℕ → Bool) (xs : List ℕ) → list_all p xs ≡ true → (s : ℕ) → 0 < occurs s xs → IsTrue (p s)
all_pass p [] e s lt = absurd (omega (arith, lt))
all_pass p (t ∷ xs) e s lt = by (t == s) refl (and_parts (p t) (list_all p xs) e) (λ all. all_pass p xs all s)
  where
    by : (b : Bool) → (t == s) ≡ b → (p t ≡ true) × (list_all p xs ≡ true) → (list_all p xs ≡ true → 0 < occurs s xs → IsTrue (p s)) → IsTrue (p s)
    by true same parts rest = subst (λ (x : ℕ). IsTrue (p x)) (eqb-true t s same) parts.0
    by false other parts rest = let none = ap one_where other in rest parts.1 (omega (arith, none, lt))

pass_all : (p : ℕ → Bool) (xs : List ℕ) → ((s : ℕ) → 0 < occurs s xs → IsTrue (p s)) → list_all p xs ≡ true
pass_all p [] h = refl
pass_all p (t ∷ xs) h =
    and_from (p t) (list_all p xs) (h t (contains_occurs t (t ∷ xs) (or_left (t == t) (contains xs t) (eq-eqb t t refl))))
    (pass_all p xs (λ s lt. h s (omega (arith, lt))))

-- plans are apart exactly where each sector stands in them once at most, and is a data sector
record Once (l : Layout) (plans : List (List Run)) : Type 0 where
  once : (s : ℕ) → used s plans ≤ 1
  is_in_data : (s : ℕ) → 0 < used s plans → IsTrue (is_data l s)

once_from_apart : (l : Layout) (plans : List (List Run)) → Apart l plans → Once l plans
once_from_apart l plans a =
    let parts = and_parts (all_differ (flat_map sectors_of plans)) (list_all (is_data l) (flat_map sectors_of plans)) a in
    record { once = differ_occurs (flat_map sectors_of plans) parts.0; is_in_data = all_pass (is_data l) (flat_map sectors_of plans) parts.1 }

apart_from_once : (l : Layout) (plans : List (List Run)) → Once l plans → Apart l plans
apart_from_once l plans o =
    and_from (all_differ (flat_map sectors_of plans)) (list_all (is_data l) (flat_map sectors_of plans))
    (occurs_differ (flat_map sectors_of plans) o.once) (pass_all (is_data l) (flat_map sectors_of plans) o.is_in_data)

there : (s : ℕ) (plans : List (List Run)) → IsTrue (is_in plans s) → 0 < used s plans
there s plans is = contains_occurs s (flat_map sectors_of plans) is

is_there : (s : ℕ) (plans : List (List Run)) → 0 < used s plans → IsTrue (is_in plans s)
is_there s plans lt = occurs_contains s (flat_map sectors_of plans) lt

not_there : (s : ℕ) (plans : List (List Run)) → IsFalse (is_in plans s) → used s plans ≤ 0
not_there s plans out = none (used s plans) (λ lt. both_ways (is_in plans s) out (is_there s plans lt))
  where
    none : (n : ℕ) → (0 < n → ⊥) → n ≤ 0
    none zero h = omega arith
    none (suc n) h = absurd (h (omega arith))

-- ---- entries

-- the entries that pass a test, and the others
parts_use : (p : Entry → Bool) (s : ℕ) (entries : List Entry) → used s (plans_of (filter p entries)) + used s (plans_of (filter (λ e. not (p e)) entries)) ≡ used s (plans_of entries)
parts_use p s [] = refl
parts_use p s (z ∷ entries) = by (p z) (parts_use p s entries)
  where
    by : (b : Bool) → used s (plans_of (filter p entries)) + used s (plans_of (filter (λ e. not (p e)) entries)) ≡ used s (plans_of entries)
        → used s (plans_of (cond b (z ∷ filter p entries) (filter p entries))) + used s (plans_of (cond (not b) (z ∷ filter (λ e. not (p e)) entries) (filter (λ e. not (p e)) entries))) ≡ used s (plans_of (z ∷ entries))
    by true rest = omega (arith, used-cons s z.runs (plans_of (filter p entries)), used-cons s z.runs (plans_of entries), rest)
    by false rest = omega (arith, used-cons s z.runs (plans_of (filter (λ e. not (p e)) entries)), used-cons s z.runs (plans_of entries), rest)

-- with one more entry
record Puts (p : Entry → Bool) (s : ℕ) (e : Entry) (old new : List Entry) : Type 0 where
  most : used s (plans_of (filter p new)) ≤ occurs s (sectors_of e.runs) + used s (plans_of (filter p old))
  least : used s (plans_of (filter p old)) ≤ used s (plans_of (filter p new))

in_front : (p : Entry → Bool) (s : ℕ) (e : Entry) (rest : List Entry) → Puts p s e rest (e ∷ rest)
in_front p s e rest = record { most = (one (p e)).0; least = (one (p e)).1 }
  where
    one : (b : Bool) → (used s (plans_of (cond b (e ∷ filter p rest) (filter p rest))) ≤ occurs s (sectors_of e.runs) + used s (plans_of (filter p rest)))
        × (used s (plans_of (filter p rest)) ≤ used s (plans_of (cond b (e ∷ filter p rest) (filter p rest))))
    one true = (omega (arith, used-cons s e.runs (plans_of (filter p rest))), omega (arith, used-cons s e.runs (plans_of (filter p rest))))
    one false = (omega arith, omega arith)

later : (p : Entry → Bool) (s : ℕ) (e z : Entry) (old new : List Entry) → Puts p s e old new → Puts p s e (z ∷ old) (z ∷ new)
later p s e z old new rest = record { most = (both (p z)).0; least = (both (p z)).1 }
  where
    both : (b : Bool) → (used s (plans_of (cond b (z ∷ filter p new) (filter p new))) ≤ occurs s (sectors_of e.runs) + used s (plans_of (cond b (z ∷ filter p old) (filter p old))))
        × (used s (plans_of (cond b (z ∷ filter p old) (filter p old))) ≤ used s (plans_of (cond b (z ∷ filter p new) (filter p new))))
    both true =
        let most = rest.most in
        let least = rest.least in
        (omega (arith, used-cons s z.runs (plans_of (filter p new)), used-cons s z.runs (plans_of (filter p old)), most), omega (arith, used-cons s z.runs (plans_of (filter p new)), used-cons s z.runs (plans_of (filter p old)), least))
    both false = (rest.most, rest.least)

none_left_out : (entries : List Entry) → filter (λ x. true) entries ≡ entries
none_left_out [] = refl
none_left_out (z ∷ entries) = ap (λ (xs : List Entry). z ∷ xs) (none_left_out entries)

puts : (p : Entry → Bool) (s : ℕ) (e : Entry) (entries : List Entry) → IsAbsent e.key entries → Puts p s e entries (entry_put e entries)
puts p s e [] absent = in_front p s e []
puts p s e (z ∷ entries) absent = by (key_cmp e.key z.key) absent.0 (puts p s e entries absent.1)
  where
    by : (o : Ordering) → (o ≡ Equal → ⊥) → Puts p s e entries (entry_put e entries) → Puts p s e (z ∷ entries) (by_order o (e ∷ z ∷ entries) (e ∷ entries) (z ∷ entry_put e entries))
    by Less other rest = in_front p s e (z ∷ entries)
    by Equal other rest = absurd (other refl)
    by Greater other rest = later p s e z entries (entry_put e entries) rest

-- what all have, those that pass a test have, and one more that has it
each_kept : (p q : Entry → Bool) (entries : List Entry) → list_all q entries ≡ true → list_all q (filter p entries) ≡ true
each_kept p q [] all = refl
each_kept p q (z ∷ entries) all = by (p z) (each_kept p q entries parts.1)
  where
    parts : (q z ≡ true) × (list_all q entries ≡ true)
    parts = and_parts (q z) (list_all q entries) all

    by : (b : Bool) → list_all q (filter p entries) ≡ true → list_all q (cond b (z ∷ filter p entries) (filter p entries)) ≡ true
    by true rest = and_from (q z) (list_all q (filter p entries)) parts.0 rest
    by false rest = rest

each_put : (q : Entry → Bool) (e : Entry) (entries : List Entry) → q e ≡ true → list_all q entries ≡ true → list_all q (entry_put e entries) ≡ true
each_put q e [] here all = and_from (q e) true here refl
each_put q e (z ∷ entries) here all = by (key_cmp e.key z.key) (each_put q e entries here parts.1)
  where
    parts : (q z ≡ true) × (list_all q entries ≡ true)
    parts = and_parts (q z) (list_all q entries) all

    by : (o : Ordering) → list_all q (entry_put e entries) ≡ true → list_all q (by_order o (e ∷ z ∷ entries) (e ∷ entries) (z ∷ entry_put e entries)) ≡ true
    by Less rest = and_from (q e) (list_all q (z ∷ entries)) here all
    by Equal rest = and_from (q e) (list_all q entries) here parts.1
    by Greater rest = and_from (q z) (list_all q (entry_put e entries)) parts.0 rest

-- ---- one change: some versions go, and runs that are free may be a new one

-- each sector of these runs once, and free
pub record AreFree (v : Volume) (runs : List Run) : Type 0 where
  pub once : (s : ℕ) → occurs s (sectors_of runs) ≤ 1
  pub free : (s : ℕ) → 0 < occurs s (sectors_of runs) → IsTrue (is_free v s)

record Moves (v w : Volume) (keys : List Key) (runs : List Run) : Type 0 where
  layout : w.layout ≡ v.layout
  unforced : w.unforced ≡ suc v.unforced
  epoch : w.serial.epoch ≡ v.serial.epoch
  held : w.held ≡ v.held
  drafts : w.drafts ≡ v.drafts
  removed : w.removed ≡ v.removed ++ gone_sectors keys v.entries
  most : (s : ℕ) → used s (plans_of w.entries) ≤ occurs s (sectors_of runs) + used s (plans_of (entries_without keys v.entries))
  least : (s : ℕ) → used s (plans_of (entries_without keys v.entries)) ≤ used s (plans_of w.entries)
  each : (q : List Run → Bool) → q runs ≡ true → list_all (λ e. q e.runs) v.entries ≡ true → list_all (λ e. q e.runs) w.entries ≡ true

-- what a free sector is not
record IsIdle (v : Volume) (s : ℕ) : Type 0 where
  is_data : IsTrue (is_data v.layout s)
  version : IsFalse (in_version v s)
  removed : IsFalse (contains v.removed s)
  held : IsFalse (is_in v.held s)
  drafts : IsFalse (is_in v.drafts s)

free_is_idle : (v : Volume) (s : ℕ) → IsTrue (is_free v s) → IsIdle v s
free_is_idle v s f =
    let outer = and_parts (is_data v.layout s && not (in_version v s)) (not (waits v s)) f in
    let inner = and_parts (is_data v.layout s) (not (in_version v s)) outer.0 in
    let out : in_version v s ≡ false = not-true (in_version v s) inner.1 in
    let still : waits v s ≡ false = not-true (waits v s) outer.1 in
    let idle : (contains v.removed s || is_in v.held s || is_in v.drafts s) ≡ false = ap (λ (b : Bool). not b && (contains v.removed s || is_in v.held s || is_in v.drafts s)) (sym out) ∙ still in
    let first = or_parts (contains v.removed s || is_in v.held s) (is_in v.drafts s) idle in
    let second = or_parts (contains v.removed s) (is_in v.held s) first.0 in
    record { is_data = inner.0; version = out; removed = second.0; held = second.1; drafts = first.1 }

module _ (v w : Volume) (keys : List Key) (runs : List Run) (m : Moves v w keys runs) (free : AreFree v runs) (spaced : IsSpaced v) where
  all_once : Once v.layout (plans_of v.entries ++ v.drafts)
  all_once = once_from_apart v.layout (plans_of v.entries ++ v.drafts) spaced.apart

  parts_of : (s : ℕ) → used s (plans_of (entries_at keys v.entries)) + used s (plans_of (entries_without keys v.entries)) ≡ used s (plans_of v.entries)
  parts_of s = parts_use (λ e. list_any (same_key e.key) keys) s v.entries

  both_of : (s : ℕ) → used s (plans_of v.entries ++ v.drafts) ≡ used s (plans_of v.entries) + used s v.drafts
  both_of s = used-append s (plans_of v.entries) v.drafts

  in_removed : (s : ℕ) → contains w.removed s ≡ (contains v.removed s || is_in (plans_of (entries_at keys v.entries)) s)
  in_removed s = ap (λ (xs : List ℕ). contains xs s) m.removed ∙ list_any-append (λ t. t == s) v.removed (gone_sectors keys v.entries)

  -- a sector that is new, or one of a version that stays
  new_or_old : (s : ℕ) → IsTrue (in_version w s) → IsIdle v s ⊎ (0 < used s (plans_of (entries_without keys v.entries)))
  new_or_old s is =
      let some = there s (plans_of w.entries) is in
      let most = m.most s in
      elim (cases_lt 0 (occurs s (sectors_of runs))) [
        | inl lt ↦ inl (free_is_idle v s (free.free s lt))
        | inr none ↦ inr (omega (arith, some, most, none))
      ]

  gone_was : (s : ℕ) → IsTrue (is_in (plans_of (entries_at keys v.entries)) s) → IsTrue (in_version v s)
  gone_was s is = let some = there s (plans_of (entries_at keys v.entries)) is in is_there s (plans_of v.entries) (omega (arith, parts_of s, some))

  -- where a version's sector goes
  stays_or_goes : (s : ℕ) → IsTrue (in_version v s) → IsTrue (in_version w s) ⊎ IsTrue (contains w.removed s)
  stays_or_goes s is =
      let some = there s (plans_of v.entries) is in
      let least = m.least s in
      elim (cases_lt 0 (used s (plans_of (entries_without keys v.entries)))) [
        | inl lt ↦ inl (is_there s (plans_of w.entries) (omega (arith, lt, least)))
        | inr none ↦ inr (subst IsTrue (sym (in_removed s)) (or_right (contains v.removed s) (is_in (plans_of (entries_at keys v.entries)) s) (is_there s (plans_of (entries_at keys v.entries)) (omega (arith, parts_of s, some, none)))))
      ]

  apart_then : Apart w.layout (plans_of w.entries ++ w.drafts)
  apart_then =
      subst (λ (l : Layout). Apart l (plans_of w.entries ++ w.drafts)) (sym m.layout)
      (subst (λ (d : List (List Run)). Apart v.layout (plans_of w.entries ++ d)) (sym m.drafts)
      (apart_from_once v.layout (plans_of w.entries ++ v.drafts) (record {
        once = λ s. once s (cases_lt 0 (occurs s (sectors_of runs)));
        is_in_data = λ s lt. in_data s lt (cases_lt 0 (occurs s (sectors_of runs)));
      })))
    where
      sums : (s : ℕ) → used s (plans_of w.entries ++ v.drafts) ≤ occurs s (sectors_of runs) + used s (plans_of v.entries ++ v.drafts)
      sums s = let most = m.most s in omega (arith, used-append s (plans_of w.entries) v.drafts, both_of s, parts_of s, most)

      none_else : (s : ℕ) → 0 < occurs s (sectors_of runs) → used s (plans_of v.entries ++ v.drafts) ≤ 0
      none_else s lt =
          let idle = free_is_idle v s (free.free s lt) in
          omega (arith, both_of s, not_there s (plans_of v.entries) idle.version, not_there s v.drafts idle.drafts)

      once : (s : ℕ) → (0 < occurs s (sectors_of runs)) ⊎ (occurs s (sectors_of runs) ≤ 0) → used s (plans_of w.entries ++ v.drafts) ≤ 1
      once s (inl lt) = let one = free.once s in omega (arith, sums s, none_else s lt, one)
      once s (inr none) = let one = all_once.once s in omega (arith, sums s, none, one)

      in_data : (s : ℕ) → 0 < used s (plans_of w.entries ++ v.drafts) → (0 < occurs s (sectors_of runs)) ⊎ (occurs s (sectors_of runs) ≤ 0) → IsTrue (is_data v.layout s)
      in_data s some (inl lt) = (free_is_idle v s (free.free s lt)).is_data
      in_data s some (inr none) = all_once.is_in_data s (omega (arith, sums s, none, some))

  area_then : (s : ℕ) → IsTrue (contains w.removed s || is_in w.held s) → IsTrue (is_data w.layout s)
  area_then s is =
      subst (λ (l : Layout). IsTrue (is_data l s)) (sym m.layout)
      (by (subst IsTrue (ap (λ (b : Bool). b || is_in w.held s) (in_removed s) ∙ ap (λ (d : List (List Run)). contains v.removed s || is_in (plans_of (entries_at keys v.entries)) s || is_in d s) m.held) is))
    where
      by : IsTrue (contains v.removed s || is_in (plans_of (entries_at keys v.entries)) s || is_in v.held s) → IsTrue (is_data v.layout s)
      by is =
          elim (or_cases (contains v.removed s || is_in (plans_of (entries_at keys v.entries)) s) (is_in v.held s) is) [
            | inr held ↦ spaced.area s (or_right (contains v.removed s) (is_in v.held s) held)
            | inl went ↦ elim (or_cases (contains v.removed s) (is_in (plans_of (entries_at keys v.entries)) s) went) [
              | inl removed ↦ spaced.area s (or_left (contains v.removed s) (is_in v.held s) removed)
              | inr gone ↦ (let some = there s (plans_of v.entries) (gone_was s gone) in all_once.is_in_data s (omega (arith, both_of s, some)))
            ]
          ]

  drafts_then : (s : ℕ) → IsTrue (is_in w.drafts s) → IsFalse (contains w.removed s || is_in w.held s)
  drafts_then s is =
      let drafted : IsTrue (is_in v.drafts s) = subst (λ (d : List (List Run)). IsTrue (is_in d s)) m.drafts is in
      let old = or_parts (contains v.removed s) (is_in v.held s) (spaced.drafts s drafted) in
      or_from (contains w.removed s) (is_in w.held s)
      (in_removed s ∙ or_from (contains v.removed s) (is_in (plans_of (entries_at keys v.entries)) s) old.0 (false_from_ne_true (is_in (plans_of (entries_at keys v.entries)) s) (λ gone. twice drafted gone)))
      (ap (λ (d : List (List Run)). is_in d s) m.held ∙ old.1)
    where
      twice : IsTrue (is_in v.drafts s) → IsTrue (is_in (plans_of (entries_at keys v.entries)) s) → ⊥
      twice drafted gone =
          let a = there s v.drafts drafted in
          let b = there s (plans_of v.entries) (gone_was s gone) in
          let c = all_once.once s in
          omega (arith, both_of s, a, b, c)

  removed_then : (s : ℕ) → IsTrue (contains w.removed s) → IsFalse (in_version w s)
  removed_then s is = false_from_ne_true (in_version w s) (λ version. by (new_or_old s version) (or_cases (contains v.removed s) (is_in (plans_of (entries_at keys v.entries)) s) (subst IsTrue (in_removed s) is)))
    where
      by : IsIdle v s ⊎ (0 < used s (plans_of (entries_without keys v.entries))) → IsTrue (contains v.removed s) ⊎ IsTrue (is_in (plans_of (entries_at keys v.entries)) s) → ⊥
      by (inl idle) (inl removed) = both_ways (contains v.removed s) idle.removed removed
      by (inl idle) (inr gone) = both_ways (in_version v s) idle.version (gone_was s gone)
      by (inr stays) (inl removed) = both_ways (in_version v s) (spaced.removed s removed) (is_there s (plans_of v.entries) (omega (arith, parts_of s, stays)))
      by (inr stays) (inr gone) =
          let a = there s (plans_of (entries_at keys v.entries)) gone in
          let b = all_once.once s in
          omega (arith, parts_of s, both_of s, a, b, stays)

  held_then : list_all (λ runs. list_all (λ e. are_same_or_apart runs e.runs) w.entries) w.held ≡ true
  held_then = subst (λ (d : List (List Run)). list_all (λ runs. list_all (λ e. are_same_or_apart runs e.runs) w.entries) d ≡ true) (sym m.held) (each_held v.held (λ s is. is) spaced.held)
    where
      any_none : (p : ℕ → Bool) (xs : List ℕ) → ((s : ℕ) → 0 < occurs s xs → p s ≡ false) → list_any p xs ≡ false
      any_none p [] h = refl
      any_none p (x ∷ xs) h = or_from (p x) (list_any p xs) (h x (contains_occurs x (x ∷ xs) (or_left (x == x) (contains xs x) (eq-eqb x x refl)))) (any_none p xs (λ s lt. h s (omega (arith, lt))))

      fresh : (held : List Run) → ((s : ℕ) → IsTrue (contains (sectors_of held) s) → IsTrue (is_in v.held s)) → are_same_or_apart held runs ≡ true
      fresh held among =
          or_right (same_runs held runs) (not (list_any (λ s. contains (sectors_of held) s) (sectors_of runs)))
          (not_from_false (list_any (λ s. contains (sectors_of held) s) (sectors_of runs))
          (any_none (λ s. contains (sectors_of held) s) (sectors_of runs)
          (λ s lt. false_from_ne_true (contains (sectors_of held) s) (λ is. both_ways (is_in v.held s) (free_is_idle v s (free.free s lt)).held (among s is)))))

      each_held : (all : List (List Run)) → ((s : ℕ) → IsTrue (is_in all s) → IsTrue (is_in v.held s)) → list_all (λ runs. list_all (λ e. are_same_or_apart runs e.runs) v.entries) all ≡ true
          → list_all (λ runs. list_all (λ e. are_same_or_apart runs e.runs) w.entries) all ≡ true
      each_held [] among is = refl
      each_held (held ∷ all) among is =
          let parts = and_parts (list_all (λ e. are_same_or_apart held e.runs) v.entries) (list_all (λ runs. list_all (λ e. are_same_or_apart runs e.runs) v.entries) all) is in
          let joined : (s : ℕ) → is_in (held ∷ all) s ≡ (contains (sectors_of held) s || is_in all s) = λ s. list_any-append (λ t. t == s) (sectors_of held) (flat_map sectors_of all) in
          and_from (list_all (λ e. are_same_or_apart held e.runs) w.entries) (list_all (λ runs. list_all (λ e. are_same_or_apart runs e.runs) w.entries) all)
          (m.each (are_same_or_apart held) (fresh held (λ s here. among s (subst IsTrue (sym (joined s)) (or_left (contains (sectors_of held) s) (is_in all s) here)))) parts.0)
          (each_held all (λ s here. among s (subst IsTrue (sym (joined s)) (or_right (contains (sectors_of held) s) (is_in all s) here))) parts.1)

  spaced_then : IsSpaced w
  spaced_then = record { apart = apart_then; area = area_then; drafts = drafts_then; removed = removed_then; held = held_then }

  -- what was not let go is not let go then
  fewer_then : (s : ℕ) → IsFalse (is_let_go v s) → IsFalse (is_let_go w s)
  fewer_then s out =
      let first = or_parts (is_free v s || is_in v.drafts s) (is_kept_alone v s) out in
      let second = or_parts (is_free v s) (is_in v.drafts s) first.0 in
      by (contains w.removed s) refl (in_version w s) refl (in_version v s) refl second.0 second.1 first.1
    where
      held_is : is_in w.held s ≡ is_in v.held s
      held_is = ap (λ (d : List (List Run)). is_in d s) m.held

      drafts_is : is_in w.drafts s ≡ is_in v.drafts s
      drafts_is = ap (λ (d : List (List Run)). is_in d s) m.drafts

      data_is : is_data w.layout s ≡ is_data v.layout s
      data_is = ap (λ (l : Layout). is_data l s) m.layout

      -- by the tests of both
      tests : (inside version version' removed' held drafts : Bool) → (removed : Bool) → (IsTrue removed → IsTrue removed') → IsFalse (inside && not version && not (not version && (removed || held || drafts))) → IsFalse drafts → IsFalse (held && not version && not removed)
          → (IsTrue version → IsTrue version' ⊎ IsTrue removed')
          → IsFalse ((inside && not version' && not (not version' && (removed' || held || drafts))) || drafts || (held && not version' && not removed'))
      tests inside version true removed' held false removed more free nodraft alone goes = by_data inside held
        where
          by_data : (inside held : Bool) → IsFalse ((inside && false && not (false && (removed' || held || false))) || false || (held && false && not removed'))
          by_data true true = refl
          by_data true false = refl
          by_data false true = refl
          by_data false false = refl
      tests inside version version' true held false removed more free nodraft alone goes = by_all inside version' held
        where
          by_all : (inside version' held : Bool) → IsFalse ((inside && not version' && not (not version' && (true || held || false))) || false || (held && not version' && not true))
          by_all true true true = refl
          by_all true true false = refl
          by_all true false true = refl
          by_all true false false = refl
          by_all false true true = refl
          by_all false true false = refl
          by_all false false true = refl
          by_all false false false = refl
      tests inside true false false held false removed more free nodraft alone goes = absurd (none (goes refl))
        where
          none : IsTrue false ⊎ IsTrue false → ⊥
          none (inl e) = cc
          none (inr e) = cc
      tests inside false false false held false true more free nodraft alone goes = absurd (let e = more refl in cc)
      tests false false false false true false false more free nodraft alone goes = absurd cc
      tests false false false false false false false more free nodraft alone goes = refl
      tests true false false false true false false more free nodraft alone goes = absurd cc
      tests true false false false false false false more free nodraft alone goes = absurd cc
      tests inside version version' removed' held true removed more free nodraft alone goes = absurd cc

      by : (a : Bool) → contains w.removed s ≡ a → (b : Bool) → in_version w s ≡ b → (c : Bool) → in_version v s ≡ c → IsFalse (is_free v s) → IsFalse (is_in v.drafts s) → IsFalse (is_kept_alone v s) → IsFalse (is_let_go w s)
      by a ra b vb c vc nofree nodraft noalone =
          let now = tests (is_data v.layout s) (in_version v s) (in_version w s) (contains w.removed s) (is_in v.held s) (is_in v.drafts s) (contains v.removed s)
          (λ was. subst IsTrue (sym (in_removed s)) (or_left (contains v.removed s) (is_in (plans_of (entries_at keys v.entries)) s) was)) nofree nodraft noalone (stays_or_goes s) in
          subst (λ (x : Bool). IsFalse ((x && not (in_version w s) && not (not (in_version w s) && (contains w.removed s || is_in w.held s || is_in w.drafts s))) || is_in w.drafts s || (is_in w.held s && not (in_version w s) && not (contains w.removed s)))) (sym data_is)
          (subst (λ (x : Bool). IsFalse ((is_data v.layout s && not (in_version w s) && not (not (in_version w s) && (contains w.removed s || x || is_in w.drafts s))) || is_in w.drafts s || (x && not (in_version w s) && not (contains w.removed s)))) (sym held_is)
          (subst (λ (x : Bool). IsFalse ((is_data v.layout s && not (in_version w s) && not (not (in_version w s) && (contains w.removed s || is_in v.held s || x))) || x || (is_in v.held s && not (in_version w s) && not (contains w.removed s)))) (sym drafts_is) now))

  -- a leader that is new was free
  leaders_then : (s : ℕ) → IsFalse (is_let_go v s) → IsTrue (is_leader w.entries s) → IsTrue (is_leader v.entries s)
  leaders_then s out leads = by (is_leader v.entries s) refl
    where
      all_not : (entries : List Entry) → is_leader entries s ≡ false → list_all (λ e. not (contains (take 1 (sectors_of e.runs)) s)) entries ≡ true
      all_not [] e = refl
      all_not (z ∷ entries) e =
          let parts = or_parts (contains (take 1 (sectors_of z.runs)) s) (is_leader entries s) e in
          and_from (not (contains (take 1 (sectors_of z.runs)) s)) (list_all (λ e. not (contains (take 1 (sectors_of e.runs)) s)) entries) (not_from_false (contains (take 1 (sectors_of z.runs)) s) parts.0) (all_not entries parts.1)

      none_of : (entries : List Entry) → list_all (λ e. not (contains (take 1 (sectors_of e.runs)) s)) entries ≡ true → is_leader entries s ≡ false
      none_of [] e = refl
      none_of (z ∷ entries) e =
          let parts = and_parts (not (contains (take 1 (sectors_of z.runs)) s)) (list_all (λ e. not (contains (take 1 (sectors_of e.runs)) s)) entries) e in
          or_from (contains (take 1 (sectors_of z.runs)) s) (is_leader entries s) (not-true (contains (take 1 (sectors_of z.runs)) s) parts.0) (none_of entries parts.1)

      first_of : (xs : List ℕ) → IsTrue (contains (take 1 xs) s) → IsTrue (contains xs s)
      first_of [] h = absurd cc
      first_of (x ∷ xs) h =
          elim (or_cases (x == s) false h) [
            | inl here ↦ or_left (x == s) (contains xs s) here
            | inr none ↦ absurd cc
          ]

      fresh : not (contains (take 1 (sectors_of runs)) s) ≡ true
      fresh = not_from_false (contains (take 1 (sectors_of runs)) s) (false_from_ne_true (contains (take 1 (sectors_of runs)) s) (λ here.
          both_ways (is_free v s) (or_parts (is_free v s) (is_in v.drafts s) (or_parts (is_free v s || is_in v.drafts s) (is_kept_alone v s) out).0).0 (free.free s (contains_occurs s (sectors_of runs) (first_of (sectors_of runs) here)))))

      by : (b : Bool) → is_leader v.entries s ≡ b → IsTrue (is_leader v.entries s)
      by true is = is
      by false is = absurd (both_ways (is_leader w.entries s) (none_of w.entries (m.each (λ r. not (contains (take 1 (sectors_of r)) s)) fresh (all_not v.entries is))) leads)

  changes_then : Changes v w
  changes_then = record { layout = m.layout; unforced = m.unforced; epoch = m.epoch; spaced = spaced_then; fewer = fewer_then; leaders = leaders_then }

-- ---- the three changes

none_free : (v : Volume) → AreFree v []
none_free v = record { once = λ s. omega arith; free = λ s lt. absurd (omega (arith, lt)) }

-- runs that were picked are free, and stay so when a serial is drawn or a force comes
pub place_is_free : (v : Volume) (need : ℕ) → IfSome (place_for v need) (AreFree v)
place_is_free v need = by (place_for v need) (λ s. picked_once (is_free v) (data_start v.layout) v.layout.sectors need s)
  where
    by : (o : Option (List Run)) → ((s : ℕ) → IfSome o (λ out. (occurs s (sectors_of out) ≤ 1) × (0 < occurs s (sectors_of out) → IsTrue (is_free v s)))) → IfSome o (AreFree v)
    by None h = tt
    by (Some out) h = record { once = λ s. (h s).0; free = λ s lt. (h s).1 lt }

forced_frees : (v : Volume) (s : ℕ) → IsTrue (is_free v s) → IsTrue (is_free (forced v) s)
forced_frees v s f =
    let idle = free_is_idle v s f in
    by (is_data v.layout s) (in_version v s) (is_in v.held s) (is_in v.drafts s) idle.is_data idle.version idle.held idle.drafts
  where
    by : (a b c d : Bool) → IsTrue a → IsFalse b → IsFalse c → IsFalse d → IsTrue (a && not b && not (not b && (false || c || d)))
    by true false false false e f g h = refl
    by false b c d e f g h = absurd cc
    by a true c d e f g h = absurd cc
    by a b true d e f g h = absurd cc
    by a b c true e f g h = absurd cc

pub still_free : (chosen : Bool) (v : Volume) (runs : List Run) → AreFree v runs → AreFree (forced_if chosen (drawn v)) runs
still_free chosen v runs free = by (chosen && nat_le 2 v.unforced)
  where
    by : (b : Bool) → AreFree (cond b (forced (drawn v)) (drawn v)) runs
    by true = record { once = free.once; free = λ s lt. forced_frees v s (free.free s lt) }
    by false = record { once = free.once; free = free.free }

version_moves : (v : Volume) (name bytes : List ℕ) (given : Option ℕ) (runs : List Run) (serial : Serial) (r : ℕ) → IsAbsent (new_key name v.files) v.entries
    → Moves v (with_version v name bytes given runs serial r) (gone_keys name given bytes v.files) runs
version_moves v name bytes given runs serial r absent =
    let out = gone_keys name given bytes v.files in
    let e = new_entry v name bytes given runs serial in
    record {
      layout = refl;
      unforced = refl;
      epoch = refl;
      held = refl;
      drafts = refl;
      removed = refl;
      most = λ s. (puts (λ x. not (list_any (same_key x.key) out)) s e v.entries absent).most;
      least = λ s. (puts (λ x. not (list_any (same_key x.key) out)) s e v.entries absent).least;
      each = λ q here all. each_kept (λ x. not (list_any (same_key x.key) out)) (λ x. q x.runs) (entry_put e v.entries) (each_put (λ x. q x.runs) e v.entries here all);
    }

pub version_changes : (v : Volume) (name bytes : List ℕ) (given : Option ℕ) (runs : List Run) (serial : Serial) (r : ℕ) → IsAbsent (new_key name v.files) v.entries → AreFree v runs → IsSpaced v
    → Changes v (with_version v name bytes given runs serial r)
version_changes v name bytes given runs serial r absent free spaced =
    changes_then v (with_version v name bytes given runs serial r) (gone_keys name given bytes v.files) runs (version_moves v name bytes given runs serial r absent) free spaced

-- a version that is loaded: none goes
load_moves : (v : Volume) (key : Key) (keep : ℕ) (bytes : List ℕ) (runs : List Run) (serial : Serial) (r : ℕ) → IsAbsent key v.entries → Moves v (with_loaded v key keep bytes runs serial r) [] runs
load_moves v key keep bytes runs serial r absent =
    let e = loaded_entry key keep bytes runs serial in
    record {
      layout = refl;
      unforced = refl;
      epoch = refl;
      held = refl;
      drafts = refl;
      removed = sym (append-nil v.removed) ∙ ap (λ (x : List Entry). v.removed ++ flat_map sectors_of (plans_of x)) (sym (entries_at_none v.entries));
      most = λ s. let all = each s in omega (arith, all.0);
      least = λ s. let all = each s in omega (arith, all.1);
      each = λ q here all. each_put (λ x. q x.runs) e v.entries here all;
    }
  where
    each : (s : ℕ) → (used s (plans_of (entry_put (loaded_entry key keep bytes runs serial) v.entries)) ≤ occurs s (sectors_of runs) + used s (plans_of (entries_without [] v.entries)))
        × (used s (plans_of (entries_without [] v.entries)) ≤ used s (plans_of (entry_put (loaded_entry key keep bytes runs serial) v.entries)))
    each s =
        let e : Entry = loaded_entry key keep bytes runs serial in
        let all = puts (λ x. true) s e v.entries absent in
        let old : used s (plans_of (entries_without [] v.entries)) ≡ used s (plans_of v.entries) = ap (λ (x : List Entry). used s (plans_of x)) (entries_without_none v.entries) in
        let same : used s (plans_of (filter (λ x. true) v.entries)) ≡ used s (plans_of v.entries) = ap (λ (x : List Entry). used s (plans_of x)) (none_left_out v.entries) in
        let new : used s (plans_of (filter (λ x. true) (entry_put e v.entries))) ≡ used s (plans_of (entry_put e v.entries)) = ap (λ (x : List Entry). used s (plans_of x)) (none_left_out (entry_put e v.entries)) in
        (omega (arith, all.most, old, same, new), omega (arith, all.least, old, same, new))

pub loaded_changes : (v : Volume) (key : Key) (keep : ℕ) (bytes : List ℕ) (runs : List Run) (serial : Serial) (r : ℕ) → IsAbsent key v.entries → AreFree v runs → IsSpaced v → Changes v (with_loaded v key keep bytes runs serial r)
loaded_changes v key keep bytes runs serial r absent free spaced = changes_then v (with_loaded v key keep bytes runs serial r) [] runs (load_moves v key keep bytes runs serial r absent) free spaced

-- a load that has found a place, up to its change
pub load_changes : (chosen : Bool) (v : Volume) (key : Key) (keep : ℕ) (bytes : List ℕ) (need : ℕ) (runs : List Run) (serial : Serial) (r : ℕ) → IsSpaced v → entry_of key v.entries ≡ None
    → place_for v need ≡ Some runs → Changes (forced_if chosen (drawn v)) (with_loaded (forced_if chosen (drawn v)) key keep bytes runs serial r)
load_changes chosen v key keep bytes need runs serial r spaced none place =
    loaded_changes (forced_if chosen (drawn v)) key keep bytes runs serial r (absent (chosen && nat_le 2 v.unforced))
    (still_free chosen v runs (subst (λ (o : Option (List Run)). IfSome o (AreFree v)) place (place_is_free v need))) (space (chosen && nat_le 2 v.unforced))
  where
    absent : (b : Bool) → IsAbsent key (cond b (forced (drawn v)) (drawn v)).entries
    absent true = absent_key key v.entries none
    absent false = absent_key key v.entries none

    drawn_spaced : IsSpaced (drawn v)
    drawn_spaced = record { apart = spaced.apart; area = spaced.area; drafts = spaced.drafts; removed = spaced.removed; held = spaced.held }

    space : (b : Bool) → IsSpaced (cond b (forced (drawn v)) (drawn v))
    space true = forced_is_spaced (drawn v) drawn_spaced
    space false = drawn_spaced

delete_moves : (v : Volume) (key : Key) (r : ℕ) (e : Entry) → Moves v (deleted v key r (Some e)).1 (key ∷ []) []
delete_moves v key r e = record {
  layout = refl;
  unforced = refl;
  epoch = refl;
  held = refl;
  drafts = refl;
  removed = refl;
  most = λ s. omega arith;
  least = λ s. omega arith;
  each = λ q here all. each_kept (λ x. not (list_any (same_key x.key) (key ∷ []))) (λ x. q x.runs) v.entries all;
}

pub delete_changes : (v : Volume) (key : Key) (r : ℕ) (e : Entry) → IsSpaced v → Changes v (deleted v key r (Some e)).1
delete_changes v key r e spaced = changes_then v (deleted v key r (Some e)).1 (key ∷ []) [] (delete_moves v key r e) (none_free v) spaced

-- a changed keep leaves the runs
kept_runs : (b : Bool) (keep : ℕ) (z : Entry) → (entry_kept b keep z).runs ≡ z.runs
kept_runs true keep z = refl
kept_runs false keep z = refl

pub same_plans : (key : Key) (keep : ℕ) (entries : List Entry) → plans_of (entries_with_keep key keep entries) ≡ plans_of entries
same_plans key keep [] = refl
same_plans key keep (z ∷ entries) =
    ap (λ (r : List Run). r ∷ plans_of (entries_with_keep key keep entries)) (kept_runs (same_key z.key key) keep z) ∙ ap (λ (p : List (List Run)). z.runs ∷ p) (same_plans key keep entries)

each_same : (q : List Run → Bool) (key : Key) (keep : ℕ) (entries : List Entry) → list_all (λ e. q e.runs) entries ≡ true → list_all (λ e. q e.runs) (entries_with_keep key keep entries) ≡ true
each_same q key keep [] all = refl
each_same q key keep (z ∷ entries) all =
    let parts = and_parts (q z.runs) (list_all (λ e. q e.runs) entries) all in
    and_from (q (entry_kept (same_key z.key key) keep z).runs) (list_all (λ e. q e.runs) (entries_with_keep key keep entries)) (ap q (kept_runs (same_key z.key key) keep z) ∙ parts.0) (each_same q key keep entries parts.1)

keep_moves : (v : Volume) (name : List ℕ) (keep r : ℕ) (e : Entry) → Moves v (keep_set v name keep r (Some e)).1 [] []
keep_moves v name keep r e = record {
  layout = refl;
  unforced = refl;
  epoch = refl;
  held = refl;
  drafts = refl;
  removed = sym (append-nil v.removed) ∙ ap (λ (x : List Entry). v.removed ++ flat_map sectors_of (plans_of x)) (sym (entries_at_none v.entries));
  most = λ s. let same = same s in omega (arith, same);
  least = λ s. let same = same s in omega (arith, same);
  each = λ q here all. each_same q e.key keep v.entries all;
}
  where
    same : (s : ℕ) → used s (plans_of (entries_with_keep e.key keep v.entries)) ≡ used s (plans_of (entries_without [] v.entries))
    same s = ap (used s) (same_plans e.key keep v.entries) ∙ ap (λ (x : List Entry). used s (plans_of x)) (sym (entries_without_none v.entries))

pub keep_changes : (v : Volume) (name : List ℕ) (keep r : ℕ) (e : Entry) → IsSpaced v → Changes v (keep_set v name keep r (Some e)).1
keep_changes v name keep r e spaced = changes_then v (keep_set v name keep r (Some e)).1 [] [] (keep_moves v name keep r e) (none_free v) spaced

-- what all have, the one with a key has
found_has : (q : Entry → Bool) (key : Key) (e : Entry) (entries : List Entry) → list_all q entries ≡ true → entry_of key entries ≡ Some e → q e ≡ true
found_has q key e [] all found = absurd (cc found)
found_has q key e (z ∷ entries) all found = by (same_key z.key key) found (found_has q key e entries parts.1)
  where
    parts : (q z ≡ true) × (list_all q entries ≡ true)
    parts = and_parts (q z) (list_all q entries) all

    by : (b : Bool) → cond b (Some z) (entry_of key entries) ≡ Some e → (entry_of key entries ≡ Some e → q e ≡ true) → q e ≡ true
    by true is rest = let same : z ≡ e = cc is in ap q (sym same) ∙ parts.0
    by false is rest = rest is

-- the moved version has the runs that it had
move_moves : (v : Volume) (key : Key) (name : List ℕ) (x : File) (e : Entry) (r : ℕ) → Lists v.files v.entries → T (is_sorted key_cmp v.files) → entry_of key v.entries ≡ Some e
    → Moves v (with_version_moved v key name x e r) (gone_by_move key name x v.files) []
move_moves v key name x e r lists sorted found =
    let out = key ∷ gone_by_move key name x v.files in
    let moved = moved_entry v name e in
    record {
      layout = refl;
      unforced = refl;
      epoch = refl;
      held = refl;
      drafts = refl;
      removed = refl;
      most = λ s. let same = moved_used v key name x e r sorted lists found s in omega (arith, same);
      least = λ s. let same = moved_used v key name x e r sorted lists found s in omega (arith, same);
      each = λ q here all.
          each_kept (λ z. not (list_any (same_key z.key) out)) (λ z. q z.runs) (entry_put moved v.entries) (each_put (λ z. q z.runs) moved v.entries (found_has (λ z. q z.runs) key e v.entries all found) all);
    }

pub move_changes : (v : Volume) (key : Key) (name : List ℕ) (x : File) (e : Entry) (r : ℕ) → IsSpaced v → Lists v.files v.entries → T (is_sorted key_cmp v.files) → entry_of key v.entries ≡ Some e
    → Changes v (with_version_moved v key name x e r)
move_changes v key name x e r spaced lists sorted found =
    changes_then v (with_version_moved v key name x e r) (gone_by_move key name x v.files) [] (move_moves v key name x e r lists sorted found) (none_free v) spaced

-- a put that has found a place, up to its change
pub put_changes : (chosen : Bool) (v : Volume) (name bytes : List ℕ) (given : Option ℕ) (need : ℕ) (runs : List Run) (serial : Serial) (r : ℕ) → IsSpaced v → Lists v.files v.entries → T (is_sorted key_cmp v.files)
    → place_for v need ≡ Some runs → Changes (forced_if chosen (drawn v)) (with_version (forced_if chosen (drawn v)) name bytes given runs serial r)
put_changes chosen v name bytes given need runs serial r spaced lists sorted place =
    version_changes (forced_if chosen (drawn v)) name bytes given runs serial r (absent (chosen && nat_le 2 v.unforced)) (still_free chosen v runs (subst (λ (o : Option (List Run)). IfSome o (AreFree v)) place (place_is_free v need)))
    (space (chosen && nat_le 2 v.unforced))
  where
    new : IsAbsent (new_key name v.files) v.entries
    new = new_key_is_new name v.files v.entries sorted lists

    absent : (b : Bool) → IsAbsent (new_key name (cond b (forced (drawn v)) (drawn v)).files) (cond b (forced (drawn v)) (drawn v)).entries
    absent true = new
    absent false = new

    drawn_spaced : IsSpaced (drawn v)
    drawn_spaced = record { apart = spaced.apart; area = spaced.area; drafts = spaced.drafts; removed = spaced.removed; held = spaced.held }

    space : (b : Bool) → IsSpaced (cond b (forced (drawn v)) (drawn v))
    space true = forced_is_spaced (drawn v) drawn_spaced
    space false = drawn_spaced
