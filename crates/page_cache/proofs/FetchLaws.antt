-- What a fetch leaves in memory.
use Rattle.std.proofs.Common.{◌≡◌, ◌⊎◌, ℕ, List, Option, Result, Ok, Some, None, IsSome, refl, sym, ap, ◌∙◌, subst, inl, inr}
use Rattle.std.specs.Prelude.{IfSome, OnOk, option_map}
use Rattle.page_cache.specs.declared.fault.CacheFault.{CacheFault}
use Rattle.page_cache.specs.Cache.{CacheValue, Held, IsCache, IsResident, IsBusy, cached_bytes, held, used, entered_page}
use Rattle.page_cache.proofs.Entries.{by_option, same_key}
use Rattle.page_cache.proofs.NewestLaws.{used_held}
use Rattle.page_cache.proofs.BusyLaws.{busy_stays}

-- the page is in memory and is used, or it enters
abbrev pub Fetched : ℕ → CacheValue → CacheValue → Type 0
Fetched page old new = (IsResident old page × (new ≡ used page old)) ⊎ ((held old page ≡ None) × ((bytes : List ℕ) × (new ≡ entered_page page bytes old)))

-- so it is where a fetch answers Ok
pub fetched_of : (page : ℕ) (old new : CacheValue) (r : Result ℕ CacheFault) (frame : ℕ) (E : Type 0) → r ≡ Ok frame
    → IfSome (held old page) (λ h. (r ≡ Ok h.frame) × (new ≡ used page old) × E) → (held old page ≡ None → OnOk r ((bytes : List ℕ) × (new ≡ entered_page page bytes old))) → Fetched page old new
fetched_of page old new r frame E ok hit enters = by_option (held old page)
    (λ h is. inl (rw is refl, (rw is at hit).1))
    (λ none. inr (none, rw ok at (enters none)))

module _ (page : ℕ) (old new : CacheValue) where
  pub fetched_there : Fetched page old new → IsResident new page
  fetched_there (inl at) = subst (λ (c : CacheValue). IsResident c page) (sym at.1) (subst IsSome (sym (used_held page old page)) at.0)
  fetched_there (inr at) = subst (λ (c : CacheValue). IsResident c page) (sym at.1.1) (rw (same_key page) refl)

  -- what is dirty or pinned stays
  pub fetched_stays : IsCache old → Fetched page old new → (q : ℕ) (x : Held) → IsBusy old q x → held new q ≡ Some x
  fetched_stays whole (inl at) q x busy = ap (λ (c : CacheValue). held c q) at.1 ∙ used_held page old q ∙ busy.0
  fetched_stays whole (inr at) q x busy = ap (λ (c : CacheValue). held c q) at.1.1 ∙ busy_stays page at.1.0 old q x whole at.0 busy

  pub fetched_dirty : Fetched page old new → new.dirty ≡ old.dirty
  fetched_dirty (inl at) = ap (λ (c : CacheValue). c.dirty) at.1
  fetched_dirty (inr at) = ap (λ (c : CacheValue). c.dirty) at.1.1

-- ---- a page by the frame that is answered of it

pub none_held : (o : Option Held) → None ≡ option_map (λ h. h.frame) o → o ≡ None
none_held None is = refl
none_held (Some h) is = absurd (cc is)

pub some_held : (o : Option Held) (frame : ℕ) → Some frame ≡ option_map (λ h. h.frame) o → o ≡ None → ⊥
some_held None frame is none = cc is
some_held (Some h) frame is none = cc none

pub hit_of : (o : Option Held) (frame : ℕ) (P Q : Type 0) → Some frame ≡ option_map (λ h. h.frame) o → P → Q → IfSome o (λ h. (◌≡◌ {A = Result ℕ CacheFault} (Ok frame) (Ok h.frame)) × P × Q)
hit_of None frame P Q is p q = tt
hit_of (Some h) frame P Q is p q = (cc is, p, q)

pub entered_bytes : (page : ℕ) (bytes : List ℕ) (old new : CacheValue) → new ≡ entered_page page bytes old → cached_bytes new page ≡ Some bytes
entered_bytes page bytes old new is = ap (λ (c : CacheValue). cached_bytes c page) is ∙ rw (same_key page) refl
