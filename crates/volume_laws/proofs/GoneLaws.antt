-- What goes with one version, and what a volume is once it has gone or has another keep.
use Rattle.std.proofs.Common.{◌≡◌, ℕ, ◌<◌, ◌≤◌, Bool, true, false, cond, not, ◌&&◌, ◌||◌, List, [], ◌∷◌, ◌++◌, filter, Option, Some, None, refl, sym, ap, subst, ◌∙◌, arith}
use Rattle.std.specs.Prelude.{nat_le, nat_lt, ◌==◌}
use Rattle.std.specs.List.{AllByRecursion, flat_map, list_all, list_any}
use Rattle.std.specs.Ordering.{is_eq, ordering_reverse}
use Rattle.std.specs.declared.cmp.Ordering.{Ordering}
use Rattle.std.specs.declared.cmp.Ordering.TheVariants.{Less, Equal, Greater}
use Rattle.std.proofs.lemmas.Bool.{and_from, and_parts, false_from_ne_true, leb-true, ltb-true, or_left}
use Rattle.std.proofs.lemmas.List.{append-nil}
use Rattle.std.proofs.lemmas.List.Folds.{list_any-append}
use Rattle.volume_layout.specs.declared.layout.Layout.{Layout}
use Rattle.volume_layout.specs.Layout.{data_start, is_data, IsPlanned}
use Rattle.fsd_bytes.specs.declared.key.Key.{Key}
use Rattle.fsd_bytes.specs.declared.refusal.Refusal.TheVariants.{KeepTooLarge}
use Rattle.fsd_bytes.specs.Keys.{key_cmp, key_lt, same_key}
use Rattle.run_table.specs.declared.run.Run.{Run}
use Rattle.run_table.specs.RunTable.{sectors_of}
use Rattle.run_table.specs.Space.{all_differ, contains}
use Rattle.run_table.proofs.SectorLaws.{all_from, all_in}
use Rattle.sector_set.specs.Area.{Area, together}
use Rattle.fsd_formats.specs.declared.entry.Entry.{Entry}
use Rattle.fsd_table.specs.Pages.{entry_keys}
use Rattle.fsd_table.proofs.BoundLaws.{Ascend, ascend_tail}
use Rattle.fsd_table.proofs.KeyLaws.{keys_total, less}
use Rattle.fsd_files.specs.Answers.{Met, deleted, entry_of, gone_sectors, highest_entry, keep_set, refused}
use Rattle.fsd_files.specs.Disk.{Image, Sectors}
use Rattle.fsd_files.specs.Files.{Change}
use Rattle.fsd_files.specs.Kept.{Describes, Lists}
use Rattle.fsd_files.specs.Space.{Apart}
use Rattle.fsd_files.specs.Volume.{Volume, entries_at, in_version, is_free, is_in, plans_of}
use Rattle.fsd_files.specs.Waiting.{Changes, IsSpaced, is_kept_alone}
use Rattle.fsd_files.proofs.ChangeKept.{delete_kept, keep_kept}
use Rattle.fsd_files.proofs.ChangeLaws.{delete_changes, keep_changes, same_plans, used-append}
use Rattle.fsd_files.proofs.CountLaws.{contains_occurs, differ_occurs, occurs_contains, occurs_differ}
use Rattle.fsd_files.proofs.ListingLaws.{alike_is, deletes_listed, keeps_listed, IsListed}
use Rattle.fsd_formats.specs.NamePage.{max_keep}
use Rattle.name_page.proofs.PutLaws.{ascend_head}
use Rattle.volume_laws.specs.Changing.{IsAfter}
use Rattle.table_survey.specs.Claims.{IsOfData}
use Rattle.volume_laws.proofs.SpaceLaws.{test_there}

-- ---- the entry with a key

none_above : (key : Key) (xs : List Entry) → AllByRecursion (λ e. key_lt key e.key ≡ true) xs → entries_at (key ∷ []) xs ≡ []
none_above key [] all = refl
none_above key (z ∷ xs) all =
    let order : key_cmp z.key key ≡ Greater = keys_total.antisymm z.key key ∙ ap ordering_reverse (less (key_cmp key z.key) all.0) in
    ap (λ (o : Ordering). cond (is_eq o || false) (z ∷ entries_at (key ∷ []) xs) (entries_at (key ∷ []) xs)) order ∙ none_above key xs all.1

pub one_at : (key : Key) (xs : List Entry) (e : Entry) → Ascend xs → entry_of key xs ≡ Some e → entries_at (key ∷ []) xs ≡ e ∷ []
one_at key [] e asc there = absurd (cc there)
one_at key (x ∷ xs) e asc there = by (key_cmp x.key key) refl there (λ more. one_at key xs e (ascend_tail x.key (entry_keys xs) asc) more)
  where
    rest : List Entry
    rest = entries_at (key ∷ []) xs

    by : (o : Ordering) → key_cmp x.key key ≡ o → cond (is_eq o) (Some x) (entry_of key xs) ≡ Some e → (entry_of key xs ≡ Some e → rest ≡ e ∷ []) → cond (is_eq o || false) (x ∷ rest) rest ≡ e ∷ []
    by Less is found later = later found
    by Greater is found later = later found
    by Equal is found later =
        let none : rest ≡ [] = none_above key xs (subst (λ (k : Key). AllByRecursion (λ z. key_lt k z.key ≡ true) xs) (alike_is x.key key is) (ascend_head x.key xs asc)) in
        let same : x ≡ e = cc found in
        ap (λ (ys : List Entry). x ∷ ys) none ∙ ap (λ (y : Entry). y ∷ []) same

-- ---- some of the plans

-- plans that are apart with others are so without them
pub apart_front : (l : Layout) (plans more : List (List Run)) → Apart l (plans ++ more) → Apart l plans
apart_front l plans more apart =
    let all : List ℕ = flat_map sectors_of (plans ++ more) in
    let front : List ℕ = flat_map sectors_of plans in
    let parts = and_parts (all_differ all) (list_all (is_data l) all) apart in
    and_from (all_differ front) (list_all (is_data l) front)
    (occurs_differ front (λ s. let once = differ_occurs all parts.0 s in omega (arith, once, used-append s plans more)))
    (all_from (is_data l) front (λ s there. all_in (is_data l) all s parts.1 (occurs_contains s all (let some = contains_occurs s front there in omega (arith, some, used-append s plans more)))))

-- ---- one change more

-- the volume with another keep of a name's highest version, unless that is too large
abbrev kept_unless : Volume → List ℕ → (keep r : ℕ) → Bool → Volume
kept_unless v name keep r b = (cond b (refused v (KeepTooLarge keep)) (keep_set v name keep r (highest_entry name v.entries))).1

module _ (hurt : Sectors) (i : Image) (v : Volume) (r : ℕ) (e : Entry) (spaced : IsSpaced v) (described : Describes v.layout hurt i v.files v.entries) where
  -- the versions of a volume are apart
  pub alone : (w : Volume) → Changes v w → Apart v.layout (plans_of w.entries)
  alone w changes = subst (λ (l : Layout). Apart l (plans_of w.entries)) changes.layout (apart_front w.layout (plans_of w.entries) w.drafts changes.spaced.apart)

  abbrev met : Met
  met = record { forces = false; reached = r; damaged = None; found = []; healed = 0 }

  pub after_deleted : (key : Key) → entry_of key v.entries ≡ Some e → IsAfter (Change.Delete key) hurt i v (deleted v key r (Some e)).1
  after_deleted key there =
      let changes = delete_changes v key r e spaced in
      record {
        changes = changes;
        files = refl;
        described = record {
          lists = subst (λ (o : Option Entry). Lists (deleted v key r o).1.files (deleted v key r o).1.entries) there (deletes_listed met v key described.lists);
          apart = alone (deleted v key r (Some e)).1 changes;
          kept = delete_kept hurt i v key r e described.lists described.kept;
        };
        held = refl;
        drafts = refl;
      }

  pub after_kept : (name : List ℕ) (keep : ℕ) → nat_lt max_keep keep ≡ false → highest_entry name v.entries ≡ Some e → IsAfter (Change.SetKeep name keep) hurt i v (keep_set v name keep r (Some e)).1
  after_kept name keep small there =
      let changes = keep_changes v name keep r e spaced in
      record {
        changes = changes;
        files = refl;
        described = record {
          lists = subst (λ (o : Option Entry). Lists (keep_set v name keep r o).1.files (keep_set v name keep r o).1.entries) there (listed (nat_lt max_keep keep) small (keeps_listed met v name keep described.lists));
          apart = alone (keep_set v name keep r (Some e)).1 changes;
          kept = keep_kept hurt i v name keep r e described.lists there described.kept;
        };
        held = refl;
        drafts = refl;
      }
    where
      listed : (b : Bool) → b ≡ false → IsListed (kept_unless v name keep r b) → IsListed (kept_unless v name keep r false)
      listed b is lists = subst (λ (c : Bool). IsListed (kept_unless v name keep r c)) is lists

-- ---- the sectors

pub split_in : (p : Entry → Bool) (s : ℕ) (entries : List Entry) → is_in (plans_of entries) s ≡ (is_in (plans_of (filter (λ e. not (p e)) entries)) s || is_in (plans_of (filter p entries)) s)
split_in p s [] = refl
split_in p s (z ∷ entries) = both z entries ∙ by (p z) (split_in p s entries)
  where
    both : (x : Entry) (xs : List Entry) → is_in (plans_of (x ∷ xs)) s ≡ (contains (sectors_of x.runs) s || is_in (plans_of xs) s)
    both x xs = list_any-append (λ t. t == s) (sectors_of x.runs) (flat_map sectors_of (plans_of xs))

    front : (a b c d : Bool) → b ≡ (c || d) → (a || b) ≡ (c || (a || d))
    front true b true d e = refl
    front true b false d e = refl
    front false b c d e = e

    back : (a b c d : Bool) → b ≡ (c || d) → (a || b) ≡ ((a || c) || d)
    back true b c d e = refl
    back false b c d e = e

    stay : List Entry
    stay = filter (λ e. not (p e)) entries

    go : List Entry
    go = filter p entries

    by : (b : Bool) → is_in (plans_of entries) s ≡ (is_in (plans_of stay) s || is_in (plans_of go) s)
        → (contains (sectors_of z.runs) s || is_in (plans_of entries) s) ≡ (is_in (plans_of (cond (not b) (z ∷ stay) stay)) s || is_in (plans_of (cond b (z ∷ go) go)) s)
    by true rest = front (contains (sectors_of z.runs) s) (is_in (plans_of entries) s) (is_in (plans_of stay) s) (is_in (plans_of go) s) rest ∙ ap (λ (x : Bool). is_in (plans_of stay) s || x) (sym (both z go))
    by false rest = back (contains (sectors_of z.runs) s) (is_in (plans_of entries) s) (is_in (plans_of stay) s) (is_in (plans_of go) s) rest ∙ ap (λ (x : Bool). x || is_in (plans_of go) s) (sym (both z stay))

-- versions that go wait: nothing more is free, and what a reader alone keeps stays so
module _ (v w : Volume) (gone : List ℕ) (layout : w.layout ≡ v.layout) (held : w.held ≡ v.held) (drafts : w.drafts ≡ v.drafts) (removed : w.removed ≡ v.removed ++ gone)
    (split : (s : ℕ) → in_version v s ≡ (in_version w s || contains gone s)) where
  went : (s : ℕ) → contains w.removed s ≡ (contains v.removed s || contains gone s)
  went s = ap (λ (xs : List ℕ). contains xs s) removed ∙ list_any-append (λ t. t == s) v.removed gone

  pub left_free : (s : ℕ) → is_free w s ≡ is_free v s
  left_free s =
      let c : Bool = in_version w s in
      (λ i. is_data (layout i) s && not c && not (not c && (went s i || is_in (held i) s || is_in (drafts i) s)))
      ∙ same (is_data v.layout s) c (contains v.removed s) (contains gone s) (is_in v.held s) (is_in v.drafts s)
      ∙ ap (λ (b : Bool). is_data v.layout s && not b && not (not b && (contains v.removed s || is_in v.held s || is_in v.drafts s))) (sym (split s))
    where
      same : (a c d g h o : Bool) → (a && not c && not (not c && ((d || g) || h || o))) ≡ (a && not (c || g) && not (not (c || g) && (d || h || o)))
      same false c d g h o = refl
      same true true d g h o = refl
      same true false true true h o = refl
      same true false false true h o = refl
      same true false true false h o = refl
      same true false false false h o = refl

  pub left_kept : (s : ℕ) → is_kept_alone w s ≡ is_kept_alone v s
  left_kept s =
      let c : Bool = in_version w s in
      (λ i. is_in (held i) s && not c && not (went s i)) ∙ same (is_in v.held s) c (contains v.removed s) (contains gone s) ∙ ap (λ (b : Bool). is_in v.held s && not b && not (contains v.removed s)) (sym (split s))
    where
      same : (h c d g : Bool) → (h && not c && not (d || g)) ≡ (h && not (c || g) && not d)
      same false c d g = refl
      same true true d g = refl
      same true false true true = refl
      same true false true false = refl
      same true false false true = refl
      same true false false false = refl

module _ (v : Volume) (key : Key) (r : ℕ) (e : Entry) (spaced : IsSpaced v) where
  abbrev without_it : Volume
  without_it = (deleted v key r (Some e)).1

  split : (s : ℕ) → in_version v s ≡ (in_version without_it s || contains (gone_sectors (key ∷ []) v.entries) s)
  split s = split_in (λ x. list_any (same_key x.key) (key ∷ [])) s v.entries

  pub deleted_free : (s : ℕ) → is_free without_it s ≡ is_free v s
  deleted_free = left_free v without_it (gone_sectors (key ∷ []) v.entries) refl refl refl refl split

  pub deleted_kept : (s : ℕ) → is_kept_alone without_it s ≡ is_kept_alone v s
  deleted_kept = left_kept v without_it (gone_sectors (key ∷ []) v.entries) refl refl refl refl split

  -- the sectors that wait then
  pub deleted_waits : (l : Layout) → IsPlanned l → (old : Area) → v.layout ≡ l → IsOfData l old → entries_at (key ∷ []) v.entries ≡ e ∷ [] → ((s : ℕ) → contains old.sectors s ≡ contains v.removed s)
      → (s : ℕ) → contains (together old e.runs).sectors s ≡ contains without_it.removed s
  deleted_waits l planned old layout of_data one before s =
      test_there l planned old.from old.to (λ t. contains old.sectors t || contains (sectors_of e.runs) t) s (ap (λ (m : Area). m.from) of_data) (ap (λ (m : Area). m.to) of_data) (λ out. told ∙ beyond out) ∙ told
    where
      joined : contains without_it.removed s ≡ (contains v.removed s || contains (gone_sectors (key ∷ []) v.entries) s)
      joined = list_any-append (λ t. t == s) v.removed (gone_sectors (key ∷ []) v.entries)

      gone : contains (gone_sectors (key ∷ []) v.entries) s ≡ contains (sectors_of e.runs) s
      gone = ap (λ (es : List Entry). is_in (plans_of es) s) one ∙ ap (λ (xs : List ℕ). contains xs s) (append-nil (sectors_of e.runs))

      told : (contains old.sectors s || contains (sectors_of e.runs) s) ≡ contains without_it.removed s
      told = ap (λ (b : Bool). b || contains (sectors_of e.runs) s) (before s) ∙ ap (λ (b : Bool). contains v.removed s || b) (sym gone) ∙ sym joined

      beyond : (data_start l ≤ s → s < l.sectors → ⊥) → contains without_it.removed s ≡ false
      beyond out = false_from_ne_true (contains without_it.removed s) (λ there.
          let area = and_parts (nat_le (data_start v.layout) s) (nat_lt s v.layout.sectors) ((delete_changes v key r e spaced).spaced.area s (or_left (contains without_it.removed s) (is_in v.held s) there)) in
          out (omega (arith, leb-true (data_start v.layout) s area.0, ap data_start layout)) (omega (arith, ltb-true s v.layout.sectors area.1, ap (λ (x : Layout). x.sectors) layout)))

-- ---- another keep

module _ (v : Volume) (name : List ℕ) (keep r : ℕ) (e : Entry) where
  pub kept_free : (s : ℕ) → is_free (keep_set v name keep r (Some e)).1 s ≡ is_free v s
  kept_free s = ap (λ (plans : List (List Run)). is_data v.layout s && not (is_in plans s) && not (not (is_in plans s) && (contains v.removed s || is_in v.held s || is_in v.drafts s))) (same_plans e.key keep v.entries)

  pub kept_alone : (s : ℕ) → is_kept_alone (keep_set v name keep r (Some e)).1 s ≡ is_kept_alone v s
  kept_alone s = ap (λ (plans : List (List Run)). is_in v.held s && not (is_in plans s) && not (contains v.removed s)) (same_plans e.key keep v.entries)
