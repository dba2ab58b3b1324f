-- What a volume tells over any machine where a version was entered into its table, or none was.
use Rattle.std.proofs.Common.{◌≡◌, ℕ, ◌≤◌, Bool, false, not, List, [], length, None, refl, sym, ap, subst, ◌∙◌}
use Rattle.std.specs.Prelude.{count_by, ◌==◌}
use Rattle.sector_disk.specs.declared.machine.Machine.{Ghosts as MachineGhosts}
use Rattle.fsd_bytes.specs.declared.refusal.Refusal.{Refusal}
use Rattle.fsd_bytes.specs.declared.refusal.Refusal.TheVariants as Why
use Rattle.sector_set.specs.Area.{Area}
use Rattle.shadow_frees.specs.Waits.{Waits}
use Rattle.group_commit.specs.Cached.{AreWaiting}
use Rattle.group_commit.specs.contracts.newest.NewestPageSource.TheImpl as by_log
use Rattle.log_thirds.specs.LogValue.{LogValue}
use Rattle.page_cache.specs.Cache.{CacheValue}
use Rattle.name_page.specs.Pages.{outer_refusal}
use Rattle.table_pages.specs.Reads.{outer_device as device_told}
use Rattle.version_table.specs.declared.oldest.Leaving.{Leaving}
use Rattle.volume_contract.specs.Ends.{device_of}
use Rattle.volume_contract.specs.Order.{Comes, Through}
use Rattle.cached_table.specs.Entering.{AreIdleInTurn, AreInTurn, NoneFor}
use Rattle.volume_laws.specs.Entered.{KeepsOnEnter, entering_steps}
use Rattle.volume_laws.specs.State.{state}
use Rattle.volume_laws.specs.Taken.{data_map}
use Rattle.volume_laws.specs.Volume.{IsWholeVolume, VolumeValue}
use Rattle.volume_laws.proofs.CountLaws.{count_of_flags}
use Rattle.volume_laws.proofs.GoingLaws.{idle_in_turn}
use Rattle.volume_laws.proofs.MakingLaws.{enters_through, refuses_comes}

-- the place that a refusal from outside tells is that of the disk
pub place_told : (why : Refusal) → device_of why ≡ device_told (outer_refusal why)
place_told (Why.Device s) = refl
place_told (Why.Lost a b) = refl
place_told Why.Memory = refl
place_told other = refl

-- what is taken in turn is idle in turn
pub idle_gone : (map : Area) (w : Waits) (gone taken : List Leaving) → gone ≡ taken → AreInTurn map w [] taken → AreIdleInTurn w gone
idle_gone map w gone taken same turn = subst (AreIdleInTurn w) (sym same) (idle_in_turn map w [] taken turn)

-- where no page is dirty none waits
pub none_waits : (none : Bool) (dirty : List ℕ) → none ≡ (length dirty == 0) → dirty ≡ [] → not none ≡ false
none_waits none dirty is dry = ap not (is ∙ ap (λ (d : List ℕ). length d == 0) dry)

module _ (v w : VolumeValue) (is : v ≡ w) where
  -- as many name pages are told as free as have a flag
  pub free_told : length (state w).free_pages ≡ count_by (λ spare. spare) v.free_pages
  free_told = ap (λ (x : VolumeValue). length (state x).free_pages) (sym is) ∙ count_of_flags v.free_pages

  -- each page that is dirty waits
  pub waiting_were : IsWholeVolume v → w.down ≡ None → AreWaiting (length v.free_pages) v.cache
  waiting_were whole up = subst (λ (n : ℕ). AreWaiting n v.cache) (sym whole.pages) (whole.waiting (ap (λ (x : VolumeValue). x.down) is ∙ up))

  pub through_entered : 8 ≤ count_by (λ spare. spare) v.free_pages → Through (entering_steps (state w))
  through_entered many = enters_through (state w) (count_by (λ spare. spare) v.free_pages) free_told many

  pub enter_comes : {D : Type 0} (M : MachineGhosts D) (m m' : D) (log : LogValue) (name : List ℕ) (c : CacheValue) (flags : List Bool) (why : Refusal) → NoneFor M by_log.ghosts log (data_map v) v.shadow name m m' v.cache c v.free_pages flags why
      → Comes (entering_steps (state w)) why
  enter_comes M m m' log name c flags why none = refuses_comes (state w) _ _ _ _ (count_by (λ spare. spare) v.free_pages) free_told why none

  -- what stays
  pub enters_told : (free : Area) (shadow : Waits) (c : CacheValue) (flags : List Bool) (versions : ℕ) → shadow.held ≡ v.shadow.held → shadow.unfinished ≡ v.shadow.unfinished
      → KeepsOnEnter (state w) (state (record v { map = free; shadow = shadow; cache = c; free_pages = flags; versions = versions }))
  enters_told free shadow c flags versions held unfinished =
      subst (λ (x : VolumeValue). KeepsOnEnter (state x) (state (record v { map = free; shadow = shadow; cache = c; free_pages = flags; versions = versions }))) is
      (record { layout = refl; serial = refl; anchor = refl; head = refl; slots = refl; readers = held; unfinished = ap (λ (a : Area). a.sectors) unfinished; down = refl })
