-- A name table that is surveyed as it stands at home.
use Rattle.std.proofs.Common.{true, cond, suc, ◌≡◌, ◌⊎◌, inl, inr, ℕ, ◌+◌, ◌-◌, ◌^◌, ◌<◌, ◌≤◌, Bool, false, not, ◌&&◌, ◌||◌, List, [], ◌∷◌, length, map, replicate, get_or, Option, Some, None, refl, sym, ap, subst, ◌∙◌, arith}
use Rattle.std.specs.Prelude.{count_by, IsSome, ◌++◌, take, option_map, slice_index_or, ◌==◌, nat_le, nat_lt}
use Rattle.std.specs.List.{list_any, range_with_len}
use Rattle.std.proofs.Math.Seq.{take-append_seam}
use Rattle.std.proofs.lemmas.Bool.{cases_lt, le-leb, le-ltb, lt-leb, lt-ltb, true≢false}
use Rattle.std.proofs.lemmas.List.Sums.{sum_by-cons}
use Rattle.std.proofs.lemmas.List.{append-nil, get_or-replicate, length-replicate, get_or_past}
use Rattle.std.proofs.lemmas.Option.{get_or_from_slice_get, slice_get-get_or}
use Rattle.std.proofs.Math.Nat.{mod-eq_of_lt}
use Rattle.fsd_bytes.specs.declared.refusal.Refusal.{Refusal}
use Rattle.fsd_bytes.specs.declared.refusal.Refusal.TheVariants as Why
use Rattle.volume_layout.specs.declared.layout.Layout.{Layout}
use Rattle.volume_layout.specs.Layout.{data_start, home_a, most_of, IsPlanned}
use Rattle.volume_layout.proofs.RootLaws.{planned_bounds}
use Rattle.run_table.specs.declared.run.Run.{Run}
use Rattle.run_table.specs.RunTable.{run_of, sectors_of}
use Rattle.run_table.specs.Space.{contains}
use Rattle.sector_set.specs.Area.{Area, area}
use Rattle.sector_set.proofs.FreeLaws.{contains_range, where_same}
use Rattle.sector_disk.specs.declared.machine.Machine.{Ghosts as MachineGhosts}
use Rattle.sector_disk.specs.Calls.{OnlyReads}
use Rattle.sector_disk.specs.declared.machine.LoadFault.TheVariants as load
use Rattle.sector_disk.specs.Machine.{Wears}
use Rattle.fsd_table.specs.Breaks.{Breaks, BreaksAt}
use Rattle.fsd_table.specs.Table.{Visit, told_in, visits}
use Rattle.fsd_sound.specs.Lost.{AreHomes, LostIn}
use Rattle.fsd_sound.specs.Mounted.{image_at as page_in}
use Rattle.fsd_sound.specs.Mounting.{device_of_mount}
use Rattle.fsd_sound.specs.declared.fault.MountFault.{MountFault}
use Rattle.fsd_sound.specs.declared.fault.MountFault.TheVariants as Fault
use Rattle.name_page.specs.Pages.{outer_refusal}
use Rattle.name_btree.specs.declared.fault.TreeFault.{TreeFault}
use Rattle.name_btree.specs.declared.fault.TreeFault.TheVariants.{Pages, Broken}
use Rattle.name_btree.specs.Fault.{outer_of}
use Rattle.name_btree.proofs.ways.ReachLaws.{broken_within}
use Rattle.name_btree.specs.Walk.{AreMarksOf}
use Rattle.group_commit.proofs.NewestLaws.{lost_home}
use Rattle.page_cache.specs.Cache.{CacheValue, Held, IsResident, cached_bytes, held, is_among, newest_bytes, no_pages}
use Rattle.table_pages.specs.Bringing.{IsTrusted, given_by, home_in}
use Rattle.table_pages.specs.ImageLaws.{image_at, image_count}
use Rattle.table_pages.specs.Reads.{LosesFor, outer_device}
use Rattle.table_pages.specs.Table.{fresh_step}
use Rattle.table_survey.specs.Claims.{whole_area}
use Rattle.table_survey.specs.Survey.{IsSurveyed, visited}
use Rattle.table_survey.specs.declared.surveying.TableCounts.{TableCounts}
use Rattle.cached_table.specs.HomeLaws.{home_stays, past_homes}
use Rattle.cached_table.specs.Homes.{KnowsHomes, home_by}
use Rattle.cached_table.specs.Looking.{BarsPages, images_by}
use Rattle.cached_table.specs.Opening.{IsNoTable, IsOpenFault, IsTableOf, home_pages, frames, is_reached}
use Rattle.cached_table.specs.Surveying.{SurveyFails, SurveyFaultIn, SurveysOnly, mount_fault_for, mount_fault_in}
use Rattle.cached_table.specs.contracts.homes.HomesPageSource.TheImpl as at_home

-- ---- the data area in an interval with room for more

-- what no run has where one runs from the volume's end to the last sector that it may grow to
pub room_is : (l : Layout) (from most : ℕ) (behind : Run) → from ≡ data_start l → most ≡ most_of l → behind ≡ run_of l.sectors (most - l.sectors)
    → area from most (λ s. not (contains (sectors_of (behind ∷ [])) s)) ≡ whole_area l
room_is l from most behind first last is =
    ap (λ (r : Run). area from most (λ s. not (contains (sectors_of (r ∷ [])) s))) is
    ∙ ap (λ (xs : List ℕ). record { from = from; to = most; sectors = xs })
    (where_same (λ s. not (contains (sectors_of (run_of l.sectors (most - l.sectors) ∷ [])) s)) (λ s. nat_lt s l.sectors && true) from most each)
    ∙ ap (λ (n : ℕ). area n most (λ s. nat_lt s l.sectors && true)) first
    ∙ ap (λ (n : ℕ). area (data_start l) n (λ s. nat_lt s l.sectors && true)) last
  where
    outside : (s : ℕ) → s < most → not (nat_le l.sectors s && nat_lt s (l.sectors + (most - l.sectors))) ≡ (nat_lt s l.sectors && true)
    outside s high = elim (cases_lt s l.sectors) [
      | inl lt ↦ ap (λ (b : Bool). not (b && nat_lt s (l.sectors + (most - l.sectors)))) (lt-leb l.sectors s lt) ∙ ap (λ (b : Bool). b && true) (sym (lt-ltb s l.sectors lt))
      | inr ge ↦
          ap (λ (b : Bool). not (b && nat_lt s (l.sectors + (most - l.sectors)))) (le-leb l.sectors s ge)
          ∙ ap not (lt-ltb s (l.sectors + (most - l.sectors)) (omega (arith, high, ge)))
          ∙ ap (λ (b : Bool). b && true) (sym (le-ltb s l.sectors ge))
    ]

    each : (s : ℕ) → from ≤ s → s < most → not (contains (sectors_of (run_of l.sectors (most - l.sectors) ∷ [])) s) ≡ (nat_lt s l.sectors && true)
    each s low high =
        ap (λ (xs : List ℕ). not (contains xs s)) (append-nil (range_with_len l.sectors (most - l.sectors)))
        ∙ ap not (contains_range l.sectors (most - l.sectors) s)
        ∙ outside s high

-- ---- the fault of a mount that a refusal is

-- a refusal is the disk's, a loss, or a page that breaks the table; of any other a want of memory is told
refusal_cases : (P : Refusal → MountFault → Type 0) → ((s : ℕ) → P (Why.Device s) (Fault.Device s)) → ((a b : ℕ) → P (Why.Lost a b) (Fault.Lost a b)) → ((s : ℕ) → P (Why.Unsound s) (Fault.Unsound s)) → ((r : Refusal) → outer_device (outer_refusal r) ≡ None → P r Fault.Memory)
    → (r : Refusal) → P r (mount_fault_for r)
refusal_cases P device lost unsound memory Why.NoSuch = memory Why.NoSuch refl
refusal_cases P device lost unsound memory Why.Exists = memory Why.Exists refl
refusal_cases P device lost unsound memory (Why.TooLong n) = memory (Why.TooLong n) refl
refusal_cases P device lost unsound memory (Why.NoSpace need free) = memory (Why.NoSpace need free) refl
refusal_cases P device lost unsound memory (Why.TooFragmented need best) = memory (Why.TooFragmented need best) refl
refusal_cases P device lost unsound memory (Why.NameTableFull free) = memory (Why.NameTableFull free) refl
refusal_cases P device lost unsound memory Why.VersionsUsedUp = memory Why.VersionsUsedUp refl
refusal_cases P device lost unsound memory (Why.KeepTooLarge n) = memory (Why.KeepTooLarge n) refl
refusal_cases P device lost unsound memory (Why.Damaged s) = memory (Why.Damaged s) refl
refusal_cases P device lost unsound memory (Why.Device s) = device s
refusal_cases P device lost unsound memory (Why.Down s) = memory (Why.Down s) refl
refusal_cases P device lost unsound memory (Why.Lost a b) = lost a b
refusal_cases P device lost unsound memory (Why.Unsound s) = unsound s
refusal_cases P device lost unsound memory Why.WornOut = memory Why.WornOut refl
refusal_cases P device lost unsound memory Why.Memory = memory Why.Memory refl
refusal_cases P device lost unsound memory (Why.BadClient n) = memory (Why.BadClient n) refl
refusal_cases P device lost unsound memory (Why.Busy n) = memory (Why.Busy n) refl
refusal_cases P device lost unsound memory (Why.Idle n) = memory (Why.Idle n) refl
refusal_cases P device lost unsound memory (Why.Short declared got) = memory (Why.Short declared got) refl
refusal_cases P device lost unsound memory (Why.Long declared got) = memory (Why.Long declared got) refl
refusal_cases P device lost unsound memory (Why.LayoutIs n) = memory (Why.LayoutIs n) refl
refusal_cases P device lost unsound memory (Why.NotLarger n) = memory (Why.NotLarger n) refl
refusal_cases P device lost unsound memory (Why.PastMost n) = memory (Why.PastMost n) refl

device_told : (home_a : ℕ) (f : TreeFault) → device_of_mount (mount_fault_in home_a f) ≡ outer_device (outer_of f)
device_told home_a (Broken page) = refl
device_told home_a (Pages r) = refusal_cases (λ was told. device_of_mount told ≡ outer_device (outer_refusal was)) (λ s. refl) (λ a b. refl) (λ s. refl) (λ r none. sym none) r

pub opens_fault : (home_a : ℕ) (f : TreeFault) → IsOpenFault (mount_fault_in home_a f)
opens_fault home_a (Broken page) = tt
opens_fault home_a (Pages r) = refusal_cases (λ was told. IsOpenFault told) (λ s. tt) (λ a b. tt) (λ s. tt) (λ r none. tt) r

module _ {D : Type 0} (M : MachineGhosts D) (l : Layout) (m m' : D) (home_a : ℕ) (f : TreeFault) where
  pub reads_told : OnlyReads M (outer_device (outer_of f)) m m' → OnlyReads M (device_of_mount (mount_fault_in home_a f)) m m'
  reads_told reads = subst (λ (fault : Option ℕ). OnlyReads M fault m m') (sym (device_told home_a f)) reads

module _ {D : Type 0} (M : MachineGhosts D) (l : Layout) (m' : D) (home_a : ℕ) where
  pub lost_told : (f : TreeFault) → LosesFor M at_home.ghosts l (outer_of f) m' → M.honest m' → LostIn (AreHomes l) (M.now m').image (mount_fault_in home_a f)
  lost_told (Broken page) loses honest = tt
  lost_told (Pages r) loses honest = refusal_cases (λ was told. LosesFor M at_home.ghosts l (outer_refusal was) m' → LostIn (AreHomes l) (M.now m').image told)
      (λ s x. tt)
      (λ a b x. let lost = x.lost honest in record { copies = record { page = x.page; within = x.within; homes = lost.copies }; first = lost.first; second = lost.second })
      (λ s x. tt) (λ r none x. tt) r loses

-- ---- homes

module _ (l : Layout) (planned : IsPlanned l) where
  -- the sector of a home A as a number of 32 bits
  home_number : (page : ℕ) → page < l.pages → home_in (home_a l 0) page ≡ home_a l page
  home_number page lt =
      let bounds = planned_bounds l planned in
      let small : home_a l 0 + page < 2 ^ 32 = omega (arith, bounds.third_most, bounds.pages_most, lt) in
      mod-eq_of_lt small ∙ (let e : home_a l 0 + page ≡ home_a l page = omega arith in e)

-- ---- flags

pub clear_marks : (marks : List Bool) (n : ℕ) → marks ≡ replicate n false → AreMarksOf [] marks
clear_marks marks n none page lt =
    let few : page < n = omega (arith, lt, ap (λ (flags : List Bool). length flags) none, length-replicate n false) in
    slice_get-get_or marks page false lt ∙ ap (λ (b : Bool). Some b) (ap (λ (flags : List Bool). get_or flags page false) none ∙ get_or-replicate n page false false few)

-- marks that were written back
pub still_marks : (marks rest : List Bool) (n : ℕ) → n ≡ length marks → take n (marks ++ rest) ≡ marks
still_marks marks rest n same = ap (λ (k : ℕ). take k (marks ++ rest)) same ∙ take-append_seam marks rest

none_spare : (free : List Bool) (n : ℕ) → free ≡ replicate n false → (page : ℕ) → page < n → slice_index_or free page false ≡ false
none_spare free n none page lt = ap (λ (flags : List Bool). get_or flags page false) none ∙ get_or-replicate n page false false lt

pub as_many : (free : List Bool) (n : ℕ) → free ≡ replicate n false → length free ≡ n
as_many free n none = ap (λ (flags : List Bool). length flags) none ∙ length-replicate n false

-- there are as many flags as are set in the one list or in the other
pub others : (xs ys : List Bool) → length ys ≡ length xs → ((i : ℕ) → i < length xs → slice_index_or ys i false ≡ not (slice_index_or xs i false)) → count_by (λ b. b) ys + count_by (λ b. b) xs ≡ length xs
others [] [] long each = refl
others [] (y ∷ ys) long each = absurd (omega (arith, long))
others (x ∷ xs) [] long each = absurd (omega (arith, long))
others (x ∷ xs) (y ∷ ys) long each = by x y (each 0 (omega arith)) (others xs ys (omega (arith, long)) (λ i lt. each (suc i) (omega (arith, lt))))
  where
    counts : (b : Bool) (bs : List Bool) → count_by (λ b. b) (b ∷ bs) ≡ cond b 1 0 + count_by (λ b. b) bs
    counts b bs = sum_by-cons (λ (c : Bool). cond c 1 0) b bs

    by : (a b : Bool) → b ≡ not a → count_by (λ b. b) ys + count_by (λ b. b) xs ≡ length xs → count_by (λ b. b) (b ∷ ys) + count_by (λ b. b) (a ∷ xs) ≡ suc (length xs)
    by true false e rest = omega (arith, rest, counts false ys, counts true xs)
    by false true e rest = omega (arith, rest, counts true ys, counts false xs)
    by true true e rest = absurd (cc e)
    by false false e rest = absurd (cc e)

pub any_page : (page : ℕ) (vs : List Visit) → list_any (λ t. t == page) (map (λ v. v.page) vs) ≡ list_any (λ v. v.page == page) vs
any_page page [] = refl
any_page page (v ∷ vs) = ap (λ (b : Bool). (v.page == page) || b) (any_page page vs)

-- ---- where the homes are known

module _ {D : Type 0} (M : MachineGhosts D) (l : Layout) (planned : IsPlanned l) (m m' : D) (c0 c : CacheValue) (is_new : c0 ≡ no_pages frames) (free : List Bool) (none : free ≡ replicate l.pages false) (first : ℕ) (home_first : first ≡ home_a l 0)
    (honest : M.honest m') (knows : KnowsHomes l (M.now m)) where
  trusted : IsTrusted M at_home.ghosts l m c0 m'
  trusted = record {
    honest = honest;
    knows = knows;
    clean = λ page there out. absurd (cc (subst (λ (x : CacheValue). IsResident x page) is_new there));
  }

  count : length free ≡ l.pages
  count = as_many free l.pages none

  pages_are : images_by M at_home.ghosts l m c0 (length free) ≡ home_pages l (M.now m).image
  pages_are = ap (λ (x : CacheValue). images_by M at_home.ghosts l m x (length free)) is_new ∙ ap (λ (n : ℕ). images_by M at_home.ghosts l m (no_pages frames) n) count

  -- ---- the pages are a table

  module _ (refusal : Option Refusal) (only : SurveysOnly M at_home.ghosts l refusal m m' c0 c (length free)) where
    resident : (page : ℕ) (bytes : List ℕ) → cached_bytes c page ≡ Some bytes → IsResident c page
    resident page bytes there = by (held c page) there
      where
        by : (o : Option Held) → option_map (λ (h : Held). h.bytes) o ≡ Some bytes → IsSome o
        by None e = absurd (cc e)
        by (Some h) e = refl

    -- a page in memory is what stood at home
    from_home : (page : ℕ) (bytes : List ℕ) → cached_bytes c page ≡ Some bytes → home_by l (M.now m).image page ≡ Some bytes
    from_home page bytes there =
        let wears = only.reads.worn honest in
        let rests : is_among c.dirty page ≡ false = ap (λ (d : List ℕ). is_among d page) (only.dirty ∙ ap (λ (x : CacheValue). x.dirty) is_new) in
        sym (home_stays l (M.now m) (M.now m') wears.image wears.windows knows page) ∙ sym (only.clean trusted page (resident page bytes there) rests) ∙ there

    inside : (page : ℕ) (bytes : List ℕ) → cached_bytes c page ≡ Some bytes → page < l.pages
    inside page bytes there = elim (cases_lt page l.pages) [
      | inl lt ↦ lt
      | inr past ↦ absurd (cc (from_home page bytes there, past_homes l (M.now m).image page past))
    ]

    memory : (page : ℕ) (bytes : List ℕ) → cached_bytes c page ≡ Some bytes → page_in (home_pages l (M.now m).image) page ≡ bytes
    memory page bytes there = get_or_from_slice_get (home_pages l (M.now m).image) page bytes [] (image_at (home_by l (M.now m).image) l.pages page bytes (inside page bytes there) (from_home page bytes there))

    pub table_of : (area : Area) (marks spare : List Bool) (s : TableCounts) → (IsTrusted M at_home.ghosts l m c0 m' → IsSurveyed l (fresh_step (given_by M at_home.ghosts l m) c0 free first) area marks s)
        → (IsTrusted M at_home.ghosts l m c0 m' → (page : ℕ) → Breaks l (images_by M at_home.ghosts l m c0 (length free)) page → ⊥) → s.pages ≡ count_by (λ b. b) marks → length marks ≡ l.pages → length spare ≡ length marks → ((page : ℕ) → page < length marks → slice_index_or spare page false ≡ not (slice_index_or marks page false))
        → IsTableOf l (home_pages l (M.now m).image) (record { cache = c; free_pages = spare; map = area; versions = s.versions })
    table_of area marks spare s surveyed unbroken counted long as_long spares = let t = surveyed trusted in record {
      telling = t.telling;
      told = subst (λ (ps : List (List ℕ)). told_in ps ≡ Some t.telling) pages_are t.told;
      whole = λ page breaks. unbroken trusted page (subst (λ (ps : List (List ℕ)). Breaks l ps page) (sym pages_are) breaks);
      versions = t.versions;
      apart = t.apart;
      map = t.left;
      free_pages = λ page lt. let within : page < length marks = omega (arith, lt, long) in spares page within ∙ ap (λ (b : Bool). not b) (reached page within);
      spare = let all = others marks spare as_long spares in omega (arith, all, long, counted, t.pages);
      inside = inside;
      memory = memory;
    }
      where
        reached : (page : ℕ) → page < length marks → slice_index_or marks page false ≡ is_reached (home_pages l (M.now m).image) page
        reached page within =
            get_or_from_slice_get marks page (contains (visited (images_by M at_home.ghosts l m c0 (length free))) page) false ((surveyed trusted).marked page within)
            ∙ any_page page (visits (images_by M at_home.ghosts l m c0 (length free)))
            ∙ ap (λ (ps : List (List ℕ)). is_reached ps page) pages_are

  -- ---- they aren't

  at_first : (page : ℕ) → page < l.pages → home_in first page ≡ home_a l page
  at_first page lt = ap (λ (h : ℕ). home_in h page) home_first ∙ home_number l planned page lt

  images_many : length (images_by M at_home.ghosts l m c0 (length free)) ≡ l.pages
  images_many = image_count (newest_bytes c0 (given_by M at_home.ghosts l m)) (length free) ∙ count

  -- a page that is barred breaks them
  barred : (page : ℕ) → BarsPages (images_by M at_home.ghosts l m c0 (length free)) free page → BreaksAt l (home_pages l (M.now m).image) (home_in first page)
  barred page (inl breaks) =
      let bounds = planned_bounds l planned in
      let some : 0 < length (images_by M at_home.ghosts l m c0 (length free)) = omega (arith, images_many, bounds.pages_least) in
      let within = broken_within (images_by M at_home.ghosts l m c0 (length free)) some page breaks in
      let lt : page < l.pages = omega (arith, within, images_many) in
      (page, at_first page lt, subst (λ (ps : List (List ℕ)). Breaks l ps page) pages_are (inl breaks))
  barred page (inr spare) = by (cases_lt page l.pages)
    where
      by : (page < l.pages) ⊎ (l.pages ≤ page) → BreaksAt l (home_pages l (M.now m).image) (home_in first page)
      by (inl lt) = absurd (true≢false (sym spare.0 ∙ none_spare free l.pages none page lt))
      by (inr past) = absurd (true≢false (sym spare.0 ∙ get_or_past free page false (omega (arith, past, count))))

  -- nothing that stands at home is lost
  not_lost : (a b : ℕ) → Wears (M.now m) (M.now m') → LosesFor M at_home.ghosts l (Some (Why.Lost a b)) m' → ⊥
  not_lost a b worn x =
      lost_home l x.page (M.now m').image (load.Lost a b) (x.lost honest) (subst (λ (o : Option (List ℕ)). IsSome o) (sym ((knows x.page x.within).stays (M.now m').image worn.image)) refl)

  pub no_table : (f : TreeFault) → SurveysOnly M at_home.ghosts l (outer_of f) m m' c0 c (length free) → SurveyFails M at_home.ghosts l l m m' c0 free first f → IsNoTable l (home_pages l (M.now m).image) (mount_fault_in first f)
  no_table (Broken page) only fails =
      let lt : page < l.pages = omega (arith, fails.cause.0, count) in
      (page, at_first page lt, subst (λ (ps : List (List ℕ)). Breaks l ps page) pages_are (fails.cause.1 trusted))
  no_table (Pages r) only fails = by fails.cause
    where
      by : SurveyFaultIn (IsTrusted M at_home.ghosts l m c0 m') l (images_by M at_home.ghosts l m c0 (length free)) free first (Pages r) → IsNoTable l (home_pages l (M.now m).image) (mount_fault_for r)
      by (inr bars) = subst (λ (x : Refusal). IsNoTable l (home_pages l (M.now m).image) (mount_fault_for x)) (sym bars.1) (barred bars.0 (bars.2 trusted))
      by (inl outer) = refusal_cases (λ was told. outer_refusal was ≡ Some was → LosesFor M at_home.ghosts l (outer_refusal was) m' → IsNoTable l (home_pages l (M.now m).image) told)
          (λ s o x. tt) (λ a b o x. absurd (not_lost a b (only.reads.worn honest) x)) (λ s o x. absurd (cc o)) (λ r none o x. tt) r outer only.loses
