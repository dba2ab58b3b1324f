-- What is left where pages are brought into the cache.
use Rattle.std.proofs.Common.{◌≡◌, ◌⊎◌, inl, inr, ℕ, ◌<◌, true, false, List, Option, Some, None, refl, sym, ap, ◌∙◌, subst, arith, option_map, is_some, IsSome, Result, Ok, Err, eqb-true}
use Rattle.std.specs.Prelude.{nat_eq, IfSome}
use Rattle.std.specs.Map.{lookup}
use Rattle.std.proofs.lemmas.Bool.{true≢false}
use Rattle.sector_disk.specs.declared.machine.Machine.{Ghosts as MachineGhosts}
use Rattle.sector_disk.specs.Calls.{OnlyReads}
use Rattle.sector_disk.specs.Image.{open_damage}
use Rattle.sector_disk.proofs.CallLaws.{reads_told}
use Rattle.sector_disk.proofs.Wear.{worn_refl}
use Rattle.page_cache.specs.declared.fault.CacheFault.{CacheFault}
use Rattle.page_cache.specs.declared.fault.CacheFault.TheVariants.{Load, Memory}
use Rattle.sector_disk.specs.declared.machine.LoadFault.TheVariants.{Device, Lost}
use Rattle.page_cache.specs.declared.source.PageSource.{Ghosts as SourceGhosts}
use Rattle.page_cache.specs.Cache.{CacheValue, Held, IsCache, IsResident, KeepsNewest, held, cached_bytes, pins_of, is_among, busy, leaver, staying, used}
use Rattle.page_cache.specs.Fetch.{LostAsTold, fetch_failed_at}
use Rattle.page_cache.proofs.Entries.{by_bool, by_option}
use Rattle.page_cache.proofs.FetchLaws.{Fetched, fetched_dirty}
use Rattle.page_cache.proofs.KeepLaws.{fetched_keeps, fetched_pins, busy_within, bytes_resident, resident_bytes}
use Rattle.page_cache.proofs.NewestLaws.{stood, used_held}
use Rattle.name_page.specs.Pages.{outer_refusal}
use Rattle.table_pages.specs.Bringing.{Brings, HasRoomFor, FetchesOnly, IsHit, given_by, refusal_for}
use Rattle.table_pages.specs.Reads.{Fills, LosesFor, StoodWhole, outer_device}

-- ---- the cache

pub brings_still : (c : CacheValue) → Brings c c
brings_still c = record { dirty = refl; pins = λ page. omega arith; keeps = λ page there busy. refl }

pub brings_then : (a b c : CacheValue) → Brings a b → Brings b c → Brings a c
brings_then a b c x y = record {
  dirty = y.dirty ∙ x.dirty;
  pins = λ page. omega (arith, x.pins page, y.pins page);
  keeps = λ page there busy.
      let same = x.keeps page there busy in
      let still : IsResident b page = bytes_resident b page (subst (λ o. IsSome o) (sym same) (resident_bytes a page there)) in
      y.keeps page still (busy_still page busy) ∙ same;
}
  where
    busy_still : (page : ℕ) → (is_among a.dirty page ≡ true) ⊎ (0 < pins_of a page) → (is_among b.dirty page ≡ true) ⊎ (0 < pins_of b page)
    busy_still page (inl dirty) = inl (ap (λ (ds : List ℕ). is_among ds page) x.dirty ∙ dirty)
    busy_still page (inr pinned) = inr (omega (arith, pinned, x.pins page))

pub fetched_brings : (page : ℕ) (old new : CacheValue) → IsCache old → Fetched page old new → Brings old new
fetched_brings page old new whole at = record {
  dirty = fetched_dirty page old new at;
  pins = λ q. let same = fetched_pins page old new whole at q in omega (arith, same);
  keeps = λ q there busy. ap (option_map (λ (h : Held). h.bytes)) (fetched_keeps page old new whole at q there busy);
}

-- a page that is there had its bytes, or it is the one that has entered
had_or_entered : (page : ℕ) (old new : CacheValue) → IsCache old → Fetched page old new → (q : ℕ) (bytes : List ℕ) → cached_bytes new q ≡ Some bytes → (cached_bytes old q ≡ Some bytes) ⊎ ((q ≡ page) × (held old page ≡ None))
had_or_entered page old new whole (inl hit) q bytes is =
    inl (sym (ap (option_map (λ (h : Held). h.bytes)) (ap (λ (c : CacheValue). held c q) hit.1 ∙ used_held page old q)) ∙ is)
had_or_entered page old new whole (inr enters) q bytes is = by_bool (nat_eq q page)
    (λ t. inr (eqb-true q page t, enters.0))
    (λ t. let beside : held new q ≡ lookup (nat_eq q) (staying (leaver old) old.resident) = ap (λ (c : CacheValue). held c q) enters.1.1 ∙ (rw t refl) in
    inl (on (lookup (nat_eq q) (staying (leaver old) old.resident)) (stood old whole q) (sym (ap (option_map (λ (h : Held). h.bytes)) beside) ∙ is)))
  where
    on : (o : Option Held) → (o ≡ held old q) ⊎ ((o ≡ None) × IsResident old q × (is_among old.dirty q ≡ false)) → option_map (λ (h : Held). h.bytes) o ≡ Some bytes → cached_bytes old q ≡ Some bytes
    on o (inl same) is = sym (ap (option_map (λ (h : Held). h.bytes)) same) ∙ is
    on o (inr out) is = absurd (true≢false (ap is_some (sym is ∙ ap (option_map (λ (h : Held). h.bytes)) out.0)))

-- where the page was there nothing else has changed
pub hit_all : {D : Type 0} (m m' : D) (page : ℕ) (old new : CacheValue) (r : Result ℕ CacheFault) → IfSome (held old page) (λ h. (r ≡ Ok h.frame) × (new ≡ used page old) × (m' ≡ m)) → IsResident old page → IsHit m m' old new
hit_all m m' page old new r hit there = by_option (held old page)
    (λ h is. let ok = rw is at hit in record { machine = ok.2; bytes = λ q. ap (λ (c : CacheValue). cached_bytes c q) ok.1 ∙ ap (λ (o : Option Held). option_map (λ h. h.bytes) o) (used_held page old q) })
    (λ none. absurd (cc (none, there)))

-- a page that is not fetched was not there
pub failed_missing : (page : ℕ) (old new : CacheValue) (r : Result ℕ CacheFault) (fault : CacheFault) (E : Type 0) → r ≡ Err fault → IfSome (held old page) (λ h. (r ≡ Ok h.frame) × (new ≡ used page old) × E) → IsResident old page → ⊥
failed_missing page old new r fault E err hit there = by_option (held old page)
    (λ h is. let ok = rw is at hit in cc (ok.0, err))
    (λ none. cc (none, there))

-- there is a frame for one page more
pub room_busy : (c : CacheValue) → IsCache c → HasRoomFor 1 c → busy c < c.frames
room_busy c whole room = omega (arith, busy_within room.keep c whole room.pins, room.few, room.frames)

-- ---- with the machine

told_place : (fault : CacheFault) → outer_device (outer_refusal (refusal_for fault)) ≡ fetch_failed_at fault
told_place (Load (Device place)) = refl
told_place (Load (Lost a b)) = refl
told_place Memory = refl

module _ {D E : Type 0} (M : MachineGhosts D) (S : SourceGhosts E) (source : E) (m m' : D) (page : ℕ) where
  pub fetched_fills : (old new : CacheValue) → IsCache old → new.frames ≡ old.frames → Fetched page old new → (held old page ≡ None → M.honest m' → IfSome (cached_bytes new page) (S.stands source page (M.now m).image)) → Fills M S source m m' old new
  fetched_fills old new whole frames at stands = record {
    frames = frames;
    dirty = λ q is. ap (λ (ds : List ℕ). is_among ds q) (fetched_dirty page old new at) ∙ is;
    stood = λ h q bytes out is. read h q bytes is (had_or_entered page old new whole at q bytes is);
  }
    where
      read : M.honest m' → (q : ℕ) (bytes : List ℕ) → cached_bytes new q ≡ Some bytes → (cached_bytes old q ≡ Some bytes) ⊎ ((q ≡ page) × (held old page ≡ None)) → (cached_bytes old q ≡ Some bytes) ⊎ StoodWhole M S source (M.now m) q bytes
      read h q bytes is (inl had) = inl had
      read h q bytes is (inr new_is) =
          let here : cached_bytes new page ≡ Some bytes = ap (cached_bytes new) (sym new_is.0) ∙ is in
          let at_page : S.stands source page (M.now m).image bytes = subst (λ (o : Option (List ℕ)). IfSome o (S.stands source page (M.now m).image)) here (stands new_is.1 h) in
          inr (record {
            image = (M.now m).image;
            worn = worn_refl (open_damage (M.now m).windows) (M.now m).image;
            stands = subst (λ (k : ℕ). S.stands source k (M.now m).image bytes) (sym new_is.0) at_page;
          })

  loses_as : (fault : CacheFault) → page < S.pages source → (M.honest m' → LostAsTold (S.copies source page) (M.now m').image fault) → LosesFor M S source (outer_refusal (refusal_for fault)) m'
  loses_as (Load (Device place)) within lost = tt
  loses_as (Load (Lost a b)) within lost = record { page = page; within = within; lost = lost }
  loses_as Memory within lost = tt

  -- one that was refused leaves the cache
  pub refused_fetch : (c c' : CacheValue) (fault : CacheFault) → page < S.pages source → c' ≡ c → OnlyReads M (fetch_failed_at fault) m m' → (M.honest m' → LostAsTold (S.copies source page) (M.now m').image fault)
      → FetchesOnly M S source (outer_refusal (refusal_for fault)) m m' c c'
  refused_fetch c c' fault within same reads lost = record {
    reads = reads_told (told_place fault) reads;
    loses = loses_as fault within lost;
    fills = subst (Fills M S source m m' c) (sym same) (record { frames = refl; dirty = λ q is. is; stood = λ h q bytes out is. inl is });
    brings = subst (Brings c) (sym same) (brings_still c);
    newest = λ h knows. subst (KeepsNewest (given_by M S source m) c) (sym same) (λ clean. (clean, λ q. refl));
  }
