-- What is free and what waits in a volume with one version more, and how many versions there are then.
use Rattle.std.proofs.Common.{◌≡◌, inl, inr, ℕ, suc, ◌+◌, ◌<◌, ◌≤◌, Bool, true, false, cond, not, ◌&&◌, ◌||◌, List, [], ◌∷◌, ◌++◌, length, Some, Ordering, refl, sym, ap, subst, ◌∙◌, arith}
use Rattle.std.specs.Prelude.{IsTrue, nat_le, nat_lt, ◌==◌}
use Rattle.std.specs.List.{flat_map, list_any}
use Rattle.std.specs.declared.cmp.Ordering.TheVariants.{Less, Equal, Greater}
use Rattle.std.specs.FinMap.Entries.{by_order}
use Rattle.std.proofs.Math.Bool.{or_comm, or-false, or_assoc}
use Rattle.std.proofs.lemmas.Bool.{and_parts, cases_lt, false_from_ne_true, leb-true, ltb-true, or_left}
use Rattle.std.proofs.lemmas.List.Folds.{list_any-append}
use Rattle.volume_layout.specs.declared.layout.Layout.{Layout}
use Rattle.volume_layout.specs.Layout.{data_start, is_data, IsPlanned}
use Rattle.volume_layout.proofs.GrownLaws.{most_least}
use Rattle.fsd_bytes.specs.declared.key.Key.{Key}
use Rattle.fsd_bytes.specs.Keys.{key_cmp, same_key}
use Rattle.run_table.specs.declared.run.Run.{Run}
use Rattle.run_table.specs.RunTable.{sectors_of}
use Rattle.run_table.specs.Space.{contains}
use Rattle.sector_set.specs.Area.{Area, together}
use Rattle.sector_set.proofs.FreeLaws.{contains_where, contains_where_outside}
use Rattle.fsd_formats.specs.declared.entry.Entry.{Entry}
use Rattle.fsd_files.specs.Answers.{entry_of, entry_put, gone_sectors}
use Rattle.fsd_files.specs.Files.{Change, step}
use Rattle.fsd_files.specs.Kept.{Lists}
use Rattle.fsd_files.specs.Volume.{Volume, entries_at, entries_without, in_version, is_free, is_in, plans_of}
use Rattle.fsd_files.specs.Waiting.{Changes, is_kept_alone}
use Rattle.fsd_files.proofs.FreshLaws.{IsAbsent}
use Rattle.fsd_files.proofs.ListingLaws.{lists_length}
use Rattle.fsd_files.proofs.MoveLaws.{entry_put_there, weight, weight_length, weight_put}
use Rattle.version_table.specs.declared.oldest.Leaving.{Leaving}
use Rattle.version_table.specs.Met.{entries_left}
use Rattle.cached_table.specs.Entering.{with_gone}
use Rattle.table_survey.specs.Claims.{IsOfData}
use Rattle.table_survey.proofs.DataLaws.{of_data_outside}
use Rattle.volume_laws.proofs.DeleteLaws.{split_count}
use Rattle.volume_laws.proofs.GoneLaws.{split_in}

pub in_first : (s : ℕ) (x : Entry) (xs : List Entry) → is_in (plans_of (x ∷ xs)) s ≡ (contains (sectors_of x.runs) s || is_in (plans_of xs) s)
in_first s x xs = list_any-append (λ t. t == s) (sectors_of x.runs) (flat_map sectors_of (plans_of xs))

-- ---- one entry more, which does not go

module _ (out : List Key) (e : Entry) (stays : list_any (same_key e.key) out ≡ false) where
  abbrev left_of : List Entry → List Entry
  left_of xs = entries_without out xs

  left_first : (xs : List Entry) → left_of (e ∷ xs) ≡ e ∷ left_of xs
  left_first xs = ap (λ (b : Bool). cond (not b) (e ∷ left_of xs) (left_of xs)) stays

  -- its sectors are taken beside those of the others
  in_put : (s : ℕ) (xs : List Entry) → IsAbsent e.key xs → is_in (plans_of (left_of (entry_put e xs))) s ≡ (is_in (plans_of (left_of xs)) s || contains (sectors_of e.runs) s)
  in_put s [] absent = ap (λ (ys : List Entry). is_in (plans_of ys) s) (left_first []) ∙ in_first s e [] ∙ or-false (contains (sectors_of e.runs) s)
  in_put s (z ∷ xs) absent = by (key_cmp e.key z.key) absent.0 (in_put s xs absent.1)
    where
      r : Bool
      r = contains (sectors_of e.runs) s

      behind : (b : Bool) → is_in (plans_of (left_of (entry_put e xs))) s ≡ (is_in (plans_of (left_of xs)) s || r)
          → is_in (plans_of (cond b (z ∷ left_of (entry_put e xs)) (left_of (entry_put e xs)))) s ≡ (is_in (plans_of (cond b (z ∷ left_of xs) (left_of xs))) s || r)
      behind true rest =
          in_first s z (left_of (entry_put e xs)) ∙ ap (λ (x : Bool). contains (sectors_of z.runs) s || x) rest
          ∙ sym (or_assoc (contains (sectors_of z.runs) s) (is_in (plans_of (left_of xs)) s) r) ∙ ap (λ (x : Bool). x || r) (sym (in_first s z (left_of xs)))
      behind false rest = rest

      by : (o : Ordering) → (o ≡ Equal → ⊥) → is_in (plans_of (left_of (entry_put e xs))) s ≡ (is_in (plans_of (left_of xs)) s || r)
          → is_in (plans_of (left_of (by_order o (e ∷ z ∷ xs) (e ∷ xs) (z ∷ entry_put e xs)))) s ≡ (is_in (plans_of (left_of (z ∷ xs))) s || r)
      by Less other rest = ap (λ (ys : List Entry). is_in (plans_of ys) s) (left_first (z ∷ xs)) ∙ in_first s e (left_of (z ∷ xs)) ∙ or_comm r (is_in (plans_of (left_of (z ∷ xs))) s)
      by Equal other rest = absurd (other refl)
      by Greater other rest = behind (not (list_any (same_key z.key) out)) rest

-- ---- what goes waits

pub as_many_left : (gs : List Leaving) → length (entries_left gs) ≡ length gs
as_many_left [] = refl
as_many_left (g ∷ gs) = omega (arith, as_many_left gs)

pub gone_at : (a : Area) (gs : List Leaving) (s : ℕ) → a.from ≤ s → s < a.to → contains (with_gone a gs).sectors s ≡ (contains a.sectors s || is_in (plans_of (entries_left gs)) s)
gone_at a [] s low high = sym (or-false (contains a.sectors s))
gone_at a (g ∷ gs) s low high =
    gone_at (together a g.entry.runs) gs s low high
    ∙ ap (λ (b : Bool). b || is_in (plans_of (entries_left gs)) s) (contains_where (λ t. contains a.sectors t || contains (sectors_of g.entry.runs) t) a.from a.to s low high)
    ∙ or_assoc (contains a.sectors s) (contains (sectors_of g.entry.runs) s) (is_in (plans_of (entries_left gs)) s)
    ∙ ap (λ (b : Bool). contains a.sectors s || b) (sym (in_first s g.entry (entries_left gs)))

gone_outside : (a : Area) (gs : List Leaving) (s : ℕ) → (a.from ≤ s → s < a.to → ⊥) → contains a.sectors s ≡ false → contains (with_gone a gs).sectors s ≡ false
gone_outside a [] s out none = none
gone_outside a (g ∷ gs) s out none = gone_outside (together a g.entry.runs) gs s out (contains_where_outside (λ t. contains a.sectors t || contains (sectors_of g.entry.runs) t) a.from a.to s out)

-- with those of versions that go, where no other sector waits
module _ (v w : Volume) (out : List Key) (same : w.layout ≡ v.layout) (removed : w.removed ≡ v.removed ++ gone_sectors out v.entries) (changes : Changes v w) where
  pub gone_wait : (l : Layout) → IsPlanned l → (old : Area) (gs : List Leaving) → v.layout ≡ l → IsOfData l old → entries_left gs ≡ entries_at out v.entries
      → ((s : ℕ) → contains old.sectors s ≡ contains v.removed s) → (s : ℕ) → contains (with_gone old gs).sectors s ≡ contains w.removed s
  gone_wait l planned old gs layout of_data left before s =
      elim (cases_lt s old.from) [
        | inl low ↦ outside (λ from to. absurd (omega (arith, low, from)))
        | inr from ↦ elim (cases_lt s old.to) [
          | inr high ↦ outside (λ low to. absurd (omega (arith, high, to)))
          | inl to ↦ gone_at old gs s from to ∙ (λ i. before s i || is_in (plans_of (left i)) s) ∙ sym (ap (λ (xs : List ℕ). contains xs s) removed ∙ list_any-append (λ t. t == s) v.removed (gone_sectors out v.entries))
        ]
      ]
    where
      outside : (old.from ≤ s → s < old.to → ⊥) → contains (with_gone old gs).sectors s ≡ contains w.removed s
      outside past =
          gone_outside old gs s past (of_data_outside l old of_data s far)
          ∙ sym (false_from_ne_true (contains w.removed s) (λ there.
          let area = and_parts (nat_le (data_start v.layout) s) (nat_lt s v.layout.sectors) (in_area there) in
          far (omega (arith, leb-true (data_start v.layout) s area.0, ap data_start layout)) (omega (arith, ltb-true s v.layout.sectors area.1, ap (λ (x : Layout). x.sectors) layout))))
        where
          far : data_start l ≤ s → s < l.sectors → ⊥
          far low high = past (omega (arith, low, ap (λ (m : Area). m.from) of_data)) (omega (arith, high, most_least l planned, ap (λ (m : Area). m.to) of_data))

          in_area : IsTrue (contains w.removed s) → IsTrue (is_data v.layout s)
          in_area there = subst (λ (x : Layout). IsTrue (is_data x s)) same (changes.spaced.area s (or_left (contains w.removed s) (is_in w.held s) there))

-- ---- the volume

-- a change makes this entry more, and these keys go; r pages are reached then
module _ (v : Volume) (c : Change) (new : Entry) (out : List Key) (r : ℕ) where
  abbrev pub made : Volume
  made = record v {
    files = step v.files c;
    entries = entries_without out (entry_put new v.entries);
    removed = v.removed ++ gone_sectors out v.entries;
    reached = r;
    unforced = suc v.unforced;
  }

  abbrev runs : List Run
  runs = new.runs

  module _ (stays : list_any (same_key new.key) out ≡ false) (absent : IsAbsent new.key v.entries) where
    -- what was free and is not taken
    pub made_free : (s : ℕ) → is_free made s ≡ (is_free v s && not (contains (sectors_of runs) s))
    made_free s =
        let a : Bool = is_data v.layout s in
        let t : Bool = is_in (plans_of (entries_without out v.entries)) s in
        let g : Bool = contains (gone_sectors out v.entries) s in
        let n : Bool = contains (sectors_of runs) s in
        let d : Bool = contains v.removed s in
        let h : Bool = is_in v.held s in
        let o : Bool = is_in v.drafts s in
        let split : in_version v s ≡ (t || g) = split_in (λ x. list_any (same_key x.key) out) s v.entries in
        let put : in_version made s ≡ (t || n) = in_put out new stays s v.entries absent in
        let went : contains made.removed s ≡ (d || g) = list_any-append (λ u. u == s) v.removed (gone_sectors out v.entries) in
        (λ i. a && not (put i) && not (not (put i) && (went i || h || o)))
        ∙ same a t g n d h o
        ∙ (λ i. (a && not (sym split i) && not (not (sym split i) && (d || h || o))) && not n)
      where
        same : (a t g n d h o : Bool) → (a && not (t || n) && not (not (t || n) && ((d || g) || h || o))) ≡ ((a && not (t || g) && not (not (t || g) && (d || h || o))) && not n)
        same false t g n d h o = refl
        same true true g n d h o = refl
        same true false true true d h o = refl
        same true false true false true h o = refl
        same true false true false false h o = refl
        same true false false true true h o = refl
        same true false false true false true o = refl
        same true false false true false false true = refl
        same true false false true false false false = refl
        same true false false false true h o = refl
        same true false false false false true o = refl
        same true false false false false false true = refl
        same true false false false false false false = refl

    -- what a reader alone keeps stays so, where nothing that is taken is held
    pub made_kept : ((s : ℕ) → contains (sectors_of runs) s ≡ true → is_in v.held s ≡ false) → (s : ℕ) → is_kept_alone made s ≡ is_kept_alone v s
    made_kept unheld s =
        let t : Bool = is_in (plans_of (entries_without out v.entries)) s in
        let g : Bool = contains (gone_sectors out v.entries) s in
        let n : Bool = contains (sectors_of runs) s in
        let d : Bool = contains v.removed s in
        let h : Bool = is_in v.held s in
        let split : in_version v s ≡ (t || g) = split_in (λ x. list_any (same_key x.key) out) s v.entries in
        let put : in_version made s ≡ (t || n) = in_put out new stays s v.entries absent in
        let went : contains made.removed s ≡ (d || g) = list_any-append (λ u. u == s) v.removed (gone_sectors out v.entries) in
        (λ i. h && not (put i) && not (went i)) ∙ same h t g n d (unheld s) ∙ ap (λ (b : Bool). h && not b && not d) (sym split)
      where
        same : (h t g n d : Bool) → (n ≡ true → h ≡ false) → (h && not (t || n) && not (d || g)) ≡ (h && not (t || g) && not d)
        same false t g n d free = refl
        same true true g n d free = refl
        same true false g true d free = absurd (cc (free refl))
        same true false true false true free = refl
        same true false true false false free = refl
        same true false false false true free = refl
        same true false false false false free = refl

    abbrev left : Entry → Bool
    left z = not (list_any (same_key z.key) out)

    -- its entry is found
    pub made_there : entry_of new.key made.entries ≡ Some new
    made_there = entry_put_there left new (ap not stays) v.entries absent

    -- as many files more as come, and fewer as go
    pub made_count : (gs : List Leaving) → entries_left gs ≡ entries_at out v.entries → Lists v.files v.entries → Lists made.files made.entries → length made.files + length gs ≡ length v.files + 1
    made_count gs gone lists made_lists =
        omega (
          arith,
          lists_length made.files made.entries made_lists,
          lists_length v.files v.entries lists,
          weight_length made.entries,
          one_more,
          weight_length (entries_without out v.entries),
          split_count (λ x. list_any (same_key x.key) out) v.entries,
          as_many_left gs,
          ap (λ (es : List Entry). length es) gone,
        )
      where
        one_more : weight (λ runs. 1) made.entries ≡ 1 + weight (λ runs. 1) (entries_without out v.entries)
        one_more = weight_put left new (ap not stays) (λ runs. 1) v.entries absent

  -- the sectors that wait then
  pub made_waits : (l : Layout) → IsPlanned l → (old : Area) (gs : List Leaving) → Changes v made → v.layout ≡ l → IsOfData l old → entries_left gs ≡ entries_at out v.entries
      → ((s : ℕ) → contains old.sectors s ≡ contains v.removed s) → (s : ℕ) → contains (with_gone old gs).sectors s ≡ contains made.removed s
  made_waits l planned old gs changes layout of_data left before s = gone_wait v made out refl refl changes l planned old gs layout of_data left before s
