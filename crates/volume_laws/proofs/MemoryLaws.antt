-- No memory is wanting where the path of a name is in memory, or all pages in use are.
use Rattle.std.proofs.Common.{◌≡◌, ◌<◌, ℕ, Bool, true, false, List, length, Option, Some, None, Result, Ok, Err, ◌∷◌, [], inl, inr, refl, sym, ap, subst, ◌∙◌, arith}
use Rattle.std.specs.List.{AllByRecursion}
use Rattle.fsd_forest.specs.Met.{search_of}
use Rattle.std.specs.Prelude.{IsSome, option_and_then, option_map}
use Rattle.fsd_bytes.specs.declared.refusal.Refusal.{Refusal}
use Rattle.fsd_bytes.specs.declared.refusal.Refusal.TheVariants as Why
use Rattle.fsd_formats.specs.NamePage.{Content, read_page}
use Rattle.fsd_formats.specs.Record.{Stamp}
use Rattle.fsd_log.specs.Borne.{FitsStamp}
use Rattle.page_cache.specs.Cache.{CacheValue, Held, cleaned, held}
use Rattle.page_cache.proofs.KeepLaws.{bytes_resident, resident_bytes}
use Rattle.run_table.specs.Space.{contains}
use Rattle.sector_set.proofs.FreeLaws.{contains_where}
use Rattle.volume_layout.specs.declared.layout.Layout.{Layout}
use Rattle.log_thirds.specs.LogValue.{FitsLayout}
use Rattle.log_thirds.specs.Append.{stamp_now}
use Rattle.group_commit.specs.Cached.{held_stamped, stamped_for, stamped_frames}
use Rattle.group_commit.proofs.FrameLaws.{held_then, there_then}
use Rattle.name_page.specs.Pages.{is_spare, outer_in}
use Rattle.name_btree.specs.declared.fault.TreeFault.{TreeFault}
use Rattle.name_btree.specs.declared.fault.TreeFault.TheVariants.{Pages, Broken}
use Rattle.name_btree.specs.Fault.{outer_told}
use Rattle.page_cache.specs.Accepted.{cached_content}
use Rattle.table_pages.specs.Bringing.{KeepsContent}
use Rattle.volume_contract.specs.Order.{Comes, Follows, IsLoss, by_itself}
use Rattle.volume_contract.specs.State.{HasAllPages, HasPathOf, State}
use Rattle.volume_laws.specs.Ending.{keep_tests}
use Rattle.cached_table.specs.Looking.{HasAllUsed, HasEnoughIn, HasIn, HasPathIn, told_from}
use Rattle.cached_table.proofs.PathLaws.{path_more}
use Rattle.volume_laws.specs.Preparing.{ForcesByItself}
use Rattle.volume_laws.specs.State.{HasEnoughFor, resident, spare_pages, state}
use Rattle.volume_laws.specs.Volume.{IsWholeVolume, VolumeValue}
use Rattle.volume_laws.proofs.StampedLaws.{stamped_reads}
use Rattle.volume_laws.proofs.StepLaws.{went_pages}
use Rattle.volume_laws.proofs.TestedLaws.{keep_tested}

-- ---- a look-up

-- what is in memory is in the cache
module _ (v w : VolumeValue) (is : v ≡ w) (whole : IsWholeVolume v) (name : List ℕ) where
  -- the pages in use are those that are not listed as free
  listed : (page : ℕ) → page < length v.free_pages → contains (spare_pages v) page ≡ is_spare v.free_pages page
  listed page lt = contains_where (λ p. is_spare v.free_pages p) 0 (length v.free_pages) page (omega arith) lt

  pub enough_in : HasEnoughFor w name → HasEnoughIn v.free_pages name v.cache
  enough_in has = by (subst (λ (x : VolumeValue). HasEnoughFor x name) (sym is) has)
    where
      by : HasEnoughFor v name → HasEnoughIn v.free_pages name v.cache
      by (inl path) = inl (subst (λ (n : ℕ). HasPathIn n name v.cache) (sym whole.pages) (record { all = path }))
      by (inr all) = inr (record { each = λ page lt used. bytes_resident v.cache page (all page (omega (arith, lt, whole.pages)) (listed page lt ∙ used)) })

  pub enough_of_cache : (c : CacheValue) (flags : List Bool) → flags ≡ v.free_pages → HasEnoughIn v.free_pages name c → HasEnoughFor (record v { cache = c; free_pages = flags }) name
  enough_of_cache c flags same has = subst (λ (f : List Bool). HasEnoughFor (record v { cache = c; free_pages = f }) name) (sym same) (by has)
    where
      by : HasEnoughIn v.free_pages name c → HasEnoughFor (record v { cache = c }) name
      by (inl path) = inl (subst (λ (n : ℕ). HasPathIn n name c) whole.pages path).all
      by (inr all) = inr (λ page lt out. let within : page < length v.free_pages = omega (arith, lt, whole.pages) in resident_bytes c page (all.each page within (sym (listed page within) ∙ out)))

-- either of the two stays
pub enough_left : (free : List Bool) (name : List ℕ) (c c' : CacheValue) → (HasPathIn (length free) name c → HasPathIn (length free) name c') → (HasAllUsed free c → HasAllUsed free c') → HasEnoughIn free name c → HasEnoughIn free name c'
enough_left free name c c' path all (inl there) = inl (path there)
enough_left free name c c' path all (inr there) = inr (all there)

told_outer : {T : Type 0} (home_a : ℕ) (r : Result T TreeFault) → outer_in (told_from home_a r) ≡ outer_told r
told_outer home_a (Ok x) = refl
told_outer home_a (Err (Pages refusal)) = refl
told_outer home_a (Err (Broken page)) = refl

pub told_memory : {T : Type 0} (home_a : ℕ) (r : Result T TreeFault) (result : Result T Refusal) → result ≡ told_from home_a r → result ≡ Err Why.Memory → outer_told r ≡ Some Why.Memory
told_memory home_a r result is wants = sym (told_outer home_a r) ∙ ap outer_in (sym is ∙ wants)

-- ---- a force

-- a page reads the same with another stamp
stamped_content : (stamp : Stamp) → FitsStamp stamp → (dirty : List ℕ) (c : CacheValue) (pages page : ℕ) (x : Content) → cached_content c pages page ≡ Some x → cached_content (stamped_frames stamp dirty c) pages page ≡ Some x
stamped_content stamp small dirty c pages page x is =
    ap (λ (o : Option Held). option_and_then (read_page page pages) (option_map (λ (h : Held). h.bytes) o)) (held_then stamp dirty c page) ∙ by (held c page) _ is
  where
    by : (o : Option Held) (b : Bool) → option_and_then (read_page page pages) (option_map (λ (h : Held). h.bytes) o) ≡ Some x
        → option_and_then (read_page page pages) (option_map (λ (h : Held). h.bytes) (option_map (held_stamped stamp b) o)) ≡ Some x
    by None b is = is
    by (Some h) true is = stamped_reads stamp small page pages h.bytes x is
    by (Some h) false is = is

pub forced_content : (v w : VolumeValue) → v ≡ w → FitsLayout v.log → (cache : CacheValue) → cache ≡ cleaned (stamped_for v.log v.cache) → KeepsContent w.cache cache
forced_content v w is fits cache forced =
    subst (λ (x : VolumeValue). KeepsContent x.cache cache) is
    (subst (KeepsContent v.cache) (sym forced) (record {
      there = there_then (stamp_now v.log) v.cache.dirty v.cache;
      accepted = stamped_content (stamp_now v.log) (record { epoch = fits.epoch; number = fits.number }) v.cache.dirty v.cache;
    }))

path_behind : (v w : VolumeValue) → ForcesByItself (state v) (state w) (Ok tt) → KeepsContent v.cache w.cache → (name : List ℕ) → HasPathOf (state v) (resident v) name → HasPathOf (state w) (resident w) name
path_behind v w forces keeps name has =
    let n : ℕ = v.layout.pages in
    subst (λ (l : Layout). AllByRecursion (HasIn w.cache l.pages) (search_of (cached_content w.cache l.pages) name)) (sym forces.state.layout)
    (path_more (HasIn v.cache n) (HasIn w.cache n) (cached_content v.cache n) (cached_content w.cache n) (λ page is. let same = there page is.1 in ((is.0, subst (λ (o : Option Content). IsSome o) (sym same) is.1), same)) name has)
  where
    there : (page : ℕ) → IsSome (cached_content v.cache v.layout.pages page) → cached_content w.cache v.layout.pages page ≡ cached_content v.cache v.layout.pages page
    there page some = by (cached_content v.cache v.layout.pages page) refl some
      where
        by : (o : Option Content) → cached_content v.cache v.layout.pages page ≡ o → IsSome o → cached_content w.cache v.layout.pages page ≡ cached_content v.cache v.layout.pages page
        by None is some = absurd (cc some)
        by (Some x) is some = keeps.accepted v.layout.pages page x is ∙ sym is

all_behind : (v w : VolumeValue) → ForcesByItself (state v) (state w) (Ok tt) → KeepsContent v.cache w.cache → HasAllPages (state v) (resident v) → HasAllPages (state w) (resident w)
all_behind v w forces keeps all page lt out =
    let free = went_pages (by_itself (state v) ∷ []) (state v) (state w) forces.kept in
    let was : page < v.layout.pages = subst (λ (l : Layout). page < l.pages) forces.state.layout lt in
    resident_bytes w.cache page (keeps.there page (bytes_resident v.cache page (all page was (ap (λ (pages : List ℕ). contains pages page) (sym free) ∙ out))))

pub enough_behind : (v w : VolumeValue) → ForcesByItself (state v) (state w) (Ok tt) → KeepsContent v.cache w.cache → (name : List ℕ) → HasEnoughFor v name → HasEnoughFor w name
enough_behind v w forces keeps name (inl path) = inl (path_behind v w forces keeps name path)
enough_behind v w forces keeps name (inr all) = inr (all_behind v w forces keeps all)

-- a force that fails has not wanted memory
pub force_needs : (s : State) (why : Refusal) → Follows {T = Unit {0}} (by_itself s ∷ []) (Err why) → why ≡ Why.Memory → ⊥
force_needs s why (inl fails) is = subst IsLoss is fails.1
force_needs s why (inr later) is = later.1

-- ---- the tests of another keep

pub keep_test_needs : (s : State) (keep : ℕ) (why : Refusal) → Comes (keep_tests s keep) why → why ≡ Why.Memory → ⊥
keep_test_needs s keep why comes = keep_tested (λ (x : Refusal). x ≡ Why.Memory → ⊥) s keep (λ place down is. cc is) (λ large is. cc is) (λ is. cc is) why comes
