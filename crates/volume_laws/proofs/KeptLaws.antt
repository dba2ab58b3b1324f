-- What a force makes of what a volume tells.
use Rattle.std.proofs.Common.{◌≡◌, ◌⊎◌, inl, inr, ℕ, suc, ◌<◌, ◌≤◌, Bool, true, false, cond, not, ◌&&◌, ◌||◌, ◌==◌, List, [], ◌∷◌, length, option_map, Some, None, nat_lt, refl, sym, ap, subst, ◌∙◌, arith, if◌then◌else◌}
use Rattle.std.proofs.Math.Bool.{or-false}
use Rattle.std.proofs.lemmas.Bool.{eqb-true, lt-ltb}
use Rattle.std.specs.Prelude.{filter}
use Rattle.fsd_bytes.specs.declared.refusal.Refusal.{Refusal}
use Rattle.fsd_bytes.specs.declared.refusal.Refusal.TheVariants as Why
use Rattle.sector_disk.specs.declared.machine.LoadFault.{LoadFault}
use Rattle.sector_disk.specs.declared.machine.LoadFault.TheVariants as fault
use Rattle.run_table.specs.Space.{contains, runs_of, where_free}
use Rattle.sector_set.specs.Area.{Area, area}
use Rattle.sector_set.proofs.FreeLaws.{contains_where, where_same}
use Rattle.shadow_frees.specs.Readers.{is_held, unheld, with_held}
use Rattle.shadow_frees.specs.Waits.{Waits, waiting_sectors, waits_in}
use Rattle.fsd_files.specs.Volume.{is_in}
use Rattle.log_thirds.specs.LogValue.{LogValue}
use Rattle.log_thirds.specs.Moving.{moved}
use Rattle.page_cache.specs.Cache.{CacheValue, IsCache, cleaned}
use Rattle.group_commit.specs.Cached.{ascending_of, stamped_for}
use Rattle.group_commit.specs.Force.{log_forced}
use Rattle.group_commit.specs.Room.{goes_before, log_before}
use Rattle.group_commit.proofs.CachedLaws.{forced_some}
use Rattle.group_commit.proofs.OrderLaws.{length_ascending}
use Rattle.volume_contract.specs.State.{IsDownAt, IsForced, State, held_of}
use Rattle.volume_contract.specs.Order.{Force, IsDownBy, KeepsRefused, force_steps}
use Rattle.volume_laws.specs.Forcing.{force_refusal, down_place}
use Rattle.volume_laws.specs.State.{freed_sectors, state}
use Rattle.volume_laws.specs.Volume.{IsWholeVolume, VolumeValue}
use Rattle.table_survey.proofs.DataLaws.{of_data_own}
use Rattle.volume_laws.proofs.ForcedLaws.{whole_down, whole_forced}
use Rattle.volume_laws.proofs.FreeLaws.{nothing}
use Rattle.volume_laws.proofs.LogLaws.{Tells, failed_log, forced_logs}
use Rattle.volume_laws.proofs.SpaceLaws.{held_is}

-- ---- refusals

down_by : (old new : State) (f : LoadFault) → IsDownAt (down_place f) old new → IsDownBy (force_refusal f) old new
down_by old new (fault.Device place) down = down
down_by old new (fault.Lost a b) down = down

some_wait : (n : ℕ) → 1 ≤ n → nat_lt 0 n ≡ true
some_wait n some = lt-ltb 0 n (omega (arith, some))

pub keeps_down : (old new : State) (f : LoadFault) → old.down ≡ None → 1 ≤ length old.dirty → IsDownAt (down_place f) old new → KeepsRefused (force_steps old) (force_refusal f) old new
keeps_down old new f up some down =
    inr (ap (option_map Why.Down) up, subst (λ (b : Bool). KeepsRefused (Force b ∷ []) (force_refusal f) old new) (sym (some_wait (length old.dirty) some)) (inl (down_by old new f down)))

-- ---- the log's next number

before_number : (log : LogValue) (b : Bool) → (cond b log (moved log)).head.number ≡ log.head.number
before_number log true = refl
before_number log false = refl

pub forced_number : (log : LogValue) (xs : List ℕ) → 1 ≤ length xs → (log_forced log xs).head.number ≡ suc log.head.number
forced_number log xs some =
    let before = before_number log (goes_before log (length xs)) in
    ap (λ (x : LogValue). x.head.number) (forced_some log xs some) ∙ omega (arith, before)

number_some : (n number : ℕ) → 1 ≤ n → suc number ≡ (if n == 0 then number else suc number)
number_some n number some = by (n == 0) refl
  where
    by : (b : Bool) → (n == 0) ≡ b → suc number ≡ (if b then number else suc number)
    by true e = absurd (let none = eqb-true n 0 e in omega (arith, some, none))
    by false e = refl

-- ---- free sectors

none_unheld : (w : Waits) → w.removed.sectors ≡ [] → (unheld w.held w.removed).sectors ≡ []
none_unheld w none = ap (λ (xs : List ℕ). where_free (λ s. contains xs s && not (is_held w.held s)) w.removed.from w.removed.to) none ∙ nothing w.removed.from w.removed.to

-- where nothing waits for a force, one frees no more
pub free_same : (v : VolumeValue) → IsWholeVolume v → v.shadow.removed.sectors ≡ [] → v.map.sectors ≡ freed_sectors v
free_same v whole none =
    ap (λ (a : Area). a.sectors) (of_data_own v.layout v.map whole.map)
    ∙ where_same (contains v.map.sectors) (λ s. contains v.map.sectors s || contains (unheld v.shadow.held v.shadow.removed).sectors s) v.map.from v.map.to
    (λ s low high. sym (or-false (contains v.map.sectors s)) ∙ ap (λ (xs : List ℕ). contains v.map.sectors s || contains xs s) (sym (none_unheld v.shadow none)))

-- ---- what waits

-- those of a list that pass two tests
filter_twice : (f g : ℕ → Bool) (xs : List ℕ) → filter f (filter g xs) ≡ filter (λ t. g t && f t) xs
filter_twice f g [] = refl
filter_twice f g (x ∷ xs) = by (g x) (filter_twice f g xs)
  where
    by : (a : Bool) → filter f (filter g xs) ≡ filter (λ t. g t && f t) xs
        → filter f (cond a (x ∷ filter g xs) (filter g xs)) ≡ cond (a && f x) (x ∷ filter (λ t. g t && f t) xs) (filter (λ t. g t && f t) xs)
    by true rest = ap (λ (ys : List ℕ). cond (f x) (x ∷ ys) ys) rest
    by false rest = rest

-- a reader holds the sector, or an unfinished creation has it
abbrev is_open : VolumeValue → ℕ → Bool
is_open v t = is_in (held_of (state v)) t || contains (state v).unfinished t

-- behind a force only what is open waits
pub waiting_then : (v : VolumeValue) (w : Waits) → IsWholeVolume v → w.removed.from ≡ v.shadow.removed.from → w.removed.to ≡ v.shadow.removed.to → w.removed.sectors ≡ []
    → ((s : ℕ) → v.shadow.removed.from ≤ s → s < v.shadow.removed.to → contains w.kept.sectors s ≡ (contains v.shadow.kept.sectors s || contains v.shadow.removed.sectors s && is_held v.shadow.held s)) → w.unfinished ≡ v.shadow.unfinished
    → waiting_sectors w ≡ filter (is_open v) (waiting_sectors v.shadow)
waiting_then v w whole from to none kept unfinished =
    (λ i. where_free (waits_in w) (from i) (to i))
    ∙ where_same (waits_in w) (λ t. waits_in v.shadow t && is_open v t) v.shadow.removed.from v.shadow.removed.to each
    ∙ sym (filter_twice (is_open v) (waits_in v.shadow) _)
  where
    tests : (r k u h : Bool) → (k ≡ true → h ≡ true) → (false || ((k || r && h) || u)) ≡ ((r || (k || u)) && (h || u))
    tests true true u true read = refl
    tests true false u true read = refl
    tests true true u false read = absurd (cc (read refl))
    tests true false true false read = refl
    tests true false false false read = refl
    tests false true u true read = refl
    tests false true u false read = absurd (cc (read refl))
    tests false false true true read = refl
    tests false false true false read = refl
    tests false false false true read = refl
    tests false false false false read = refl

    each : (s : ℕ) → v.shadow.removed.from ≤ s → s < v.shadow.removed.to → waits_in w s ≡ (waits_in v.shadow s && is_open v s)
    each s low high =
        (λ i. contains (none i) s || (kept s low high i || contains (unfinished i).sectors s))
        ∙ tests (contains v.shadow.removed.sectors s) (contains v.shadow.kept.sectors s) (contains v.shadow.unfinished.sectors s) (is_held v.shadow.held s) (whole.once.readers s)
        ∙ ap (λ (b : Bool). waits_in v.shadow s && (b || contains v.shadow.unfinished.sectors s)) (sym (held_is v.shadow.held s))

-- ---- the state then

-- what it tells of its log is of the log
tells : (v : VolumeValue) → IsWholeVolume v → Tells (state v) v.log
tells v whole = record { layout = whole.log; anchor = refl; head = refl; slots = refl }

module _ (v : VolumeValue) (whole : IsWholeVolume v) where
  pub idle_forced : v.cache.dirty ≡ [] → IsForced (state v) (state v)
  idle_forced none =
      let still = whole.still none in
      record {
        is = λ i. record (state v) {
          dirty = none i;
          free = runs_of (free_same v whole still i);
          waiting = waiting_then v v.shadow whole refl refl still (λ s low high. none_went (contains v.shadow.kept.sectors s) (is_held v.shadow.held s) (ap (λ (xs : List ℕ). contains xs s) still)) refl i;
          waits = not (length (still i) == 0);
        };
        number = ap (λ (xs : List ℕ). if length xs == 0 then v.log.head.number else suc v.log.head.number) (sym none);
        idle = λ e. refl;
        logs = λ some. absurd (omega (arith, some, ap length none));
      }
    where
      none_went : (k h : Bool) {r : Bool} → r ≡ false → k ≡ (k || r && h)
      none_went true h is = refl
      none_went false h is = ap (λ (b : Bool). b && h) (sym is)

  module _ (map : Area) (w : Waits) (log : LogValue) (cache : CacheValue)
      (map_is : map ≡ area v.map.from v.map.to (λ s. contains v.map.sectors s || contains (unheld v.shadow.held v.shadow.removed).sectors s))
      (removed : w.removed ≡ record { from = v.map.from; to = v.map.to; sectors = [] })
      (kept : w.kept ≡ with_held v.shadow.held v.shadow.kept v.shadow.removed) (unfinished : w.unfinished ≡ v.shadow.unfinished) (held : w.held ≡ v.shadow.held)
      (log_is : log ≡ log_forced v.log (ascending_of v.cache.dirty)) (cache_is : cache ≡ cleaned (stamped_for v.log v.cache)) where
    abbrev pub value_then : VolumeValue
    value_then = record v { map = map; shadow = w; log = log; cache = cache }

    none : w.removed.sectors ≡ []
    none = ap (λ (a : Area). a.sectors) removed

    free_is : map.sectors ≡ freed_sectors v
    free_is = ap (λ (a : Area). a.sectors) map_is

    freed_is : freed_sectors value_then ≡ freed_sectors v
    freed_is = sym (free_same value_then (whole_forced v whole map w log cache map_is removed kept unfinished held log_is cache_is) none) ∙ free_is

    waiting_is : waiting_sectors w ≡ filter (is_open v) (waiting_sectors v.shadow)
    waiting_is =
        waiting_then v w whole (ap (λ (a : Area). a.from) removed ∙ ap (λ (a : Area). a.from) whole.map ∙ sym (ap (λ (a : Area). a.from) whole.removed)) (ap (λ (a : Area). a.to) removed ∙ ap (λ (a : Area). a.to) whole.map ∙ sym (ap (λ (a : Area). a.to) whole.removed)) none
        (λ s low high. ap (λ (a : Area). contains a.sectors s) kept
        ∙ contains_where (λ t. contains v.shadow.kept.sectors t || contains v.shadow.removed.sectors t && is_held v.shadow.held t) v.shadow.kept.from v.shadow.kept.to s
        (omega (arith, low, ap (λ (a : Area). a.from) whole.kept, ap (λ (a : Area). a.from) whole.removed)) (omega (arith, high, ap (λ (a : Area). a.to) whole.kept, ap (λ (a : Area). a.to) whole.removed)))
        unfinished

    pub is_forced : IsCache v.cache → 1 ≤ length v.cache.dirty → IsForced (state v) (state value_then)
    is_forced valid some = record {
      is = λ i. record (state value_then) {
        dirty = ap (λ (c : CacheValue). c.dirty) cache_is i;
        free = runs_of (free_is i);
        freed = runs_of (freed_is i);
        waiting = waiting_is i;
        waits = not (length (none i) == 0);
        readers = held i;
        unfinished = (unfinished i).sectors;
      };
      number = ap (λ (x : LogValue). x.head.number) log_is
          ∙ forced_number v.log (ascending_of v.cache.dirty) (omega (arith, some, length_ascending v.cache.dirty valid.once))
          ∙ number_some (length v.cache.dirty) v.log.head.number some;
      idle = λ e. absurd (omega (arith, some, ap length e));
      logs = λ waits_in. forced_logs (state v) (state value_then) v.log log (tells v whole) (tells value_then (whole_forced v whole map w log cache map_is removed kept unfinished held log_is cache_is)) valid.once waits_in log_is;
    }

  pub is_down : (log : LogValue) (cache : CacheValue) (place : ℕ) → cache ≡ stamped_for v.log v.cache → (P : Type 0) → (log ≡ v.log) ⊎ ((log ≡ log_before v.log (length v.cache.dirty)) × P)
      → IsDownAt place (state v) (state (record v { log = log; cache = cache; down = Some place }))
  is_down log cache place cache_is P log_is =
      let left : VolumeValue = record v { log = log; cache = cache; down = Some place } in
      record {
        is = failed_log (state v) (state left) place v.log log (tells v whole) (tells left (whole_down v whole log cache place (length v.cache.dirty) P log_is cache_is))
            (λ i. record (state left) { dirty = ap (λ (c : CacheValue). c.dirty) cache_is i }) P log_is;
      }

-- the same of the volume as its caller had it
pub kept_down : (v : VolumeValue) (whole : IsWholeVolume v) (log : LogValue) (cache : CacheValue) (place : ℕ) (refusal : Refusal) (f : LoadFault) → place ≡ down_place f → refusal ≡ force_refusal f → cache ≡ stamped_for v.log v.cache
    → (P : Type 0) → (log ≡ v.log) ⊎ ((log ≡ log_before v.log (length v.cache.dirty)) × P)
    → v.down ≡ None → 1 ≤ length v.cache.dirty → KeepsRefused (force_steps (state v)) refusal (state v) (state (record v { log = log; cache = cache; down = Some place }))
kept_down v whole log cache place refusal f at why cache_is P log_is up some =
    let left : ℕ → State = λ p. state (record v { log = log; cache = cache; down = Some p }) in
    subst (λ (r : Refusal). KeepsRefused (force_steps (state v)) r (state v) (left place)) (sym why)
    (keeps_down (state v) (left place) f up some (subst (λ (p : ℕ). IsDownAt p (state v) (left place)) at (is_down v whole log cache place cache_is P log_is)))
