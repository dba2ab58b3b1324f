-- Behind a force of a volume what is in memory was so before or stands in the log, and what is told as free was free or waited.
use Rattle.std.proofs.Common.{◌≡◌, ◌⊎◌, inl, inr, ℕ, Bool, true, false, ◌&&◌, ◌||◌, List, [], ◌∷◌, length, option_map, Option, Some, None, refl, sym, ap, subst, ◌∙◌, arith}
use Rattle.std.specs.Prelude.{IsSome, IsTrue, slice_index_or}
use Rattle.std.specs.List.{flat_map, list_any}
use Rattle.std.proofs.lemmas.Bool.{or_cases, or_left, or_right}
use Rattle.run_table.specs.declared.run.Run.{Run}
use Rattle.run_table.specs.RunTable.{sectors_of}
use Rattle.run_table.specs.Space.{contains, runs_of, where_free}
use Rattle.sector_set.proofs.AreaLaws.{free_passes}
use Rattle.shadow_frees.specs.Readers.{is_held, unheld}
use Rattle.shadow_frees.specs.Waits.{waiting_sectors, waits_in}
use Rattle.sector_disk.specs.Image.{open_damage}
use Rattle.sector_disk.specs.Machine.{Moment}
use Rattle.fsd_formats.specs.declared.entry.Entry.{Entry}
use Rattle.fsd_files.specs.Volume.{is_in}
use Rattle.fsd_files.proofs.CountLaws.{contains_occurs, occurs_contains, runs_same, used, used-cons}
use Rattle.fsd_files.proofs.KeptLaws.{has_on}
use Rattle.volume_layout.specs.declared.layout.Layout.{Layout}
use Rattle.fsd_log.specs.Slots.{AreOfSlot}
use Rattle.log_thirds.specs.LogValue.{LogValue}
use Rattle.log_thirds.specs.Append.{stamp_now}
use Rattle.page_cache.specs.Cache.{CacheValue, Held, IsCache, IsResident, cached_bytes, cleaned, held, is_among}
use Rattle.group_commit.specs.Cached.{held_stamped, stamped_for}
use Rattle.fsd_sound.specs.Logged.{StandsLogged}
use Rattle.group_commit.proofs.FrameLaws.{held_then}
use Rattle.group_commit.proofs.ImageLaws.{all_at}
use Rattle.volume_contract.specs.Causes.{HasUntaken, meets_held}
use Rattle.volume_contract.specs.Logged.{AllLogged, StandsInBothCopies}
use Rattle.volume_contract.specs.Behind.{IsBehindForce}
use Rattle.volume_laws.specs.State.{freed_sectors, resident, state}
use Rattle.volume_contract.specs.State.{held_of, held_runs}
use Rattle.volume_laws.specs.Volume.{IsWholeVolume, VolumeValue}
use Rattle.volume_laws.proofs.ForceEndLaws.{IsForcedTo}
use Rattle.volume_laws.proofs.SpaceLaws.{unheld_there}
use Rattle.volume_laws.proofs.TakenLaws.{free_or_waits}

-- what stands in the runs of a list stands in it
in_runs : (xs : List ℕ) (t : ℕ) → is_in (runs_of xs ∷ []) t ≡ true → contains xs t ≡ true
in_runs xs t there =
    let none : used t [] ≡ 0 = refl in
    occurs_contains t xs (omega (arith, none, used-cons t (runs_of xs) [], runs_same t xs, contains_occurs t (flat_map sectors_of (runs_of xs ∷ [])) there))

any_weaker : (f g : ℕ → Bool) → ((t : ℕ) → f t ≡ true → g t ≡ true) → (xs : List ℕ) → list_any f xs ≡ true → list_any g xs ≡ true
any_weaker f g on [] some = some
any_weaker f g on (x ∷ xs) some = elim (or_cases (f x) (list_any f xs) some) [
  | inl here ↦ or_left (g x) (list_any g xs) (on x here)
  | inr later ↦ or_right (g x) (list_any g xs) (any_weaker f g on xs later)
]

-- a frame of a page that didn't wait has the bytes that it had
clean_bytes : (log : LogValue) (c : CacheValue) (page : ℕ) → is_among c.dirty page ≡ false → cached_bytes (cleaned (stamped_for log c)) page ≡ cached_bytes c page
clean_bytes log c page clean =
    ap (option_map (λ (h : Held). h.bytes)) (held_then (stamp_now log) c.dirty c page ∙ ap (λ (b : Bool). option_map (held_stamped (stamp_now log) b) (held c page)) clean) ∙ by (held c page)
  where
    by : (o : Option Held) → option_map (λ (h : Held). h.bytes) (option_map (held_stamped (stamp_now log) false) o) ≡ option_map (λ (h : Held). h.bytes) o
    by None = refl
    by (Some h) = refl

module _ (v w : VolumeValue) (was : IsWholeVolume v) (whole : IsWholeVolume w) (to : IsForcedTo v w) where
  -- ---- sectors

  -- what waits now waited
  waits_still : (t : ℕ) → waits_in w.shadow t ≡ true → waits_in v.shadow t ≡ true
  waits_still t waiting =
      by (contains v.shadow.removed.sectors t) (contains v.shadow.kept.sectors t) (contains v.shadow.unfinished.sectors t) (is_held v.shadow.held t)
      (sym (λ i. contains (to.removed i) t || (to.kept t i || contains (to.unfinished i).sectors t)) ∙ waiting)
    where
      by : (r k u h : Bool) → (false || ((k || r && h) || u)) ≡ true → (r || (k || u)) ≡ true
      by true k u h is = refl
      by false true u h is = refl
      by false false true h is = refl
      by false false false h is = is

  waited : (t : ℕ) → contains (unheld v.shadow.held v.shadow.removed).sectors t ≡ true → waits_in v.shadow t ≡ true
  waited t there =
      or_left (contains v.shadow.removed.sectors t) (contains v.shadow.kept.sectors t || contains v.shadow.unfinished.sectors t) (unheld_there v.shadow.held v.shadow.removed t there)

  -- what is free now was free or waited
  freed_before : (t : ℕ) → contains w.map.sectors t ≡ true → (is_in (runs_of v.map.sectors ∷ []) t || contains (waiting_sectors v.shadow) t) ≡ true
  freed_before t free =
      let test : ℕ → Bool = λ s. contains v.map.sectors s || contains (unheld v.shadow.held v.shadow.removed).sectors s in
      let there : contains (freed_sectors v) t ≡ true = ap (λ (xs : List ℕ). contains xs t) (sym to.map) ∙ free in
      free_or_waits v was t (elim (or_cases (contains v.map.sectors t) (contains (unheld v.shadow.held v.shadow.removed).sectors t) (free_passes v.map.from v.map.to test t there)) [
        | inl so ↦ or_left (contains v.map.sectors t) (waits_in v.shadow t) so
        | inr waiting ↦ or_right (contains v.map.sectors t) (waits_in v.shadow t) (waited t waiting)
      ])

  told_before : (t : ℕ) → (is_in (runs_of w.map.sectors ∷ []) t || contains (waiting_sectors w.shadow) t) ≡ true → (is_in (runs_of v.map.sectors ∷ []) t || contains (waiting_sectors v.shadow) t) ≡ true
  told_before t told = elim (or_cases (is_in (runs_of w.map.sectors ∷ []) t) (contains (waiting_sectors w.shadow) t) told) [
    | inl free ↦ freed_before t (in_runs w.map.sectors t free)
    | inr waiting ↦
        free_or_waits v was t
        (or_right (contains v.map.sectors t) (waits_in v.shadow t) (waits_still t (free_passes w.shadow.removed.from w.shadow.removed.to (waits_in w.shadow) t waiting)))
  ]

  same_held : held_runs v.shadow.held ≡ held_runs w.shadow.held
  same_held = ap held_runs (sym to.held)

  untaken_before : (e : Entry) → HasUntaken (state w) e → HasUntaken (state v) e
  untaken_before e untaken =
      let then : ℕ → Bool = λ t. is_in ((state v).free ∷ []) t || contains (state v).waiting t in
      let now : ℕ → Bool = λ t. is_in ((state w).free ∷ []) t || contains (state w).waiting t in
      elim (or_cases (list_any now (sectors_of e.runs)) (meets_held (held_of (state w)) e.runs) untaken) [
        | inl some ↦ or_left (list_any then (sectors_of e.runs)) (meets_held (held_of (state v)) e.runs) (any_weaker now then told_before (sectors_of e.runs) some)
        | inr meets ↦ or_right (list_any then (sectors_of e.runs)) (meets_held (held_of (state v)) e.runs) (ap (λ (held : List (List Run)). meets_held held e.runs) same_held ∙ meets)
      ]

  -- ---- pages

  pub forced_behind : (now : Moment) → ((page : ℕ) (bytes : List ℕ) → IsTrue (contains v.cache.dirty page) → cached_bytes w.cache page ≡ Some bytes → StandsLogged w.log.layout w.log.slots now page bytes) → IsBehindForce (state v) (state w) (resident v) (resident w) now
  forced_behind now logged = record {
    layout = to.layout;
    free_pages = ap (λ (flags : List Bool). where_free (λ page. slice_index_or flags page false) 0 (length flags)) to.free_pages;
    pages = λ page bytes there. by page bytes there (is_among v.cache.dirty page) refl;
    untaken = untaken_before;
  }
    where
      by : (page : ℕ) (bytes : List ℕ) → cached_bytes w.cache page ≡ Some bytes → (b : Bool) → is_among v.cache.dirty page ≡ b → (cached_bytes v.cache page ≡ Some bytes) ⊎ StandsLogged w.layout w.log.slots now page bytes
      by page bytes there true waiting = inr (subst (λ (l : Layout). StandsLogged l w.log.slots now page bytes) whole.log (logged page bytes waiting there))
      by page bytes there false clean = inl (sym (ap (λ (c : CacheValue). cached_bytes c page) to.cache ∙ clean_bytes v.log v.cache page clean) ∙ there)

  -- a page that waited is in memory
  pub forced_logged : IsCache v.cache → (now : Moment) → ((page : ℕ) (bytes : List ℕ) → IsTrue (contains v.cache.dirty page) → cached_bytes w.cache page ≡ Some bytes → StandsLogged w.log.layout w.log.slots now page bytes) → AllLogged (state v) (state w) (resident w) now
  forced_logged valid now logged page waited_for = by (held v.cache page) refl (all_at (IsResident v.cache) v.cache.dirty valid.waiting page waited_for)
    where
      now_held : Held → Held
      now_held = held_stamped (stamp_now v.log) (is_among v.cache.dirty page)

      there : (h : Held) → held v.cache page ≡ Some h → cached_bytes w.cache page ≡ Some (now_held h).bytes
      there h is =
          ap (λ (c : CacheValue). cached_bytes c page) to.cache
          ∙ ap (option_map (λ (h : Held). h.bytes)) (held_then (stamp_now v.log) v.cache.dirty v.cache page ∙ ap (option_map now_held) is)

      stands : (bytes : List ℕ) → cached_bytes w.cache page ≡ Some bytes → StandsLogged w.log.layout w.log.slots now page bytes → StandsInBothCopies (state w) (resident w) now page
      stands bytes there s =
          let may = open_damage now.windows in
          let copies : AreOfSlot w.layout (slice_index_or w.log.slots page None) s.a s.b = subst (λ (l : Layout). AreOfSlot l (slice_index_or w.log.slots page None) s.a s.b) whole.log s.logged in
          let lies = copies.in_record in
          record {
            bytes = bytes;
            there = there;
            place = s.a;
            copy = s.b;
            copies = copies;
            twice = record {
              first = has_on may s.seen now.image bytes s.a (s.worn.each s.a) (inl s.first);
              second = has_on may s.seen now.image bytes s.b (s.worn.each s.b) (inl s.second);
              apart = omega (arith, lies.there, lies.first, lies.copy);
            };
          }

      by : (o : Option Held) → held v.cache page ≡ o → IsSome o → StandsInBothCopies (state w) (resident w) now page
      by None is some = absurd (cc some)
      by (Some h) is some = stands (now_held h).bytes (there h is) (logged page (now_held h).bytes waited_for (there h is))
