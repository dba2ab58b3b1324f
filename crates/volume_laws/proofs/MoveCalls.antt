-- What a volume tells over any machine where a version was moved in its table, or none was.
use Rattle.std.proofs.Common.{◌≡◌, inl, inr, ℕ, Bool, true, false, cond, List, [], ◌∷◌, length, Some, None, Result, Ok, Err, sym, subst, ◌∙◌}
use Rattle.std.specs.Prelude.{IsErrAnd, count_by, nat_lt}
use Rattle.sector_disk.specs.declared.machine.Machine.{Ghosts as MachineGhosts}
use Rattle.fsd_bytes.specs.declared.key.Key.{Key}
use Rattle.fsd_bytes.specs.declared.refusal.Refusal.{Refusal}
use Rattle.fsd_bytes.specs.declared.refusal.Refusal.TheVariants as Why
use Rattle.shadow_frees.specs.Waits.{Waits}
use Rattle.fsd_files.specs.Answers.{least_pages}
use Rattle.group_commit.specs.contracts.newest.NewestPageSource.TheImpl as by_log
use Rattle.log_thirds.specs.LogValue.{LogValue}
use Rattle.page_cache.specs.Cache.{CacheValue}
use Rattle.version_table.specs.declared.oldest.Leaving.{Leaving}
use Rattle.volume_contract.specs.Order.{Asks, Comes, Follows, Force, by_itself}
use Rattle.volume_contract.specs.State.{State, forces_first}
use Rattle.cached_table.specs.Entering.{AreInTurn}
use Rattle.cached_table.specs.Moving.{NoneMoves}
use Rattle.volume_laws.specs.Ending.{IsEdited, moving_steps}
use Rattle.volume_laws.specs.Entered.{entering_asks, entering_steps, making_look}
use Rattle.volume_laws.specs.State.{state}
use Rattle.volume_laws.specs.Taken.{data_map}
use Rattle.volume_laws.specs.Volume.{IsWholeVolume, VolumeValue}
use Rattle.volume_laws.proofs.EnteredCalls.{free_told}
use Rattle.volume_laws.proofs.MakingLaws.{refuses_comes, whole_going, with_if}

-- ---- the order of refusals

-- where the look-up may show something more
pub asked_follows : {T : Type 0} (asked : Refusal) (s : State) (r : Result T Refusal) → Follows (entering_steps s) r → Follows (making_look (Asks asked ∷ entering_asks) s) r
asked_follows asked s (Ok x) through = (tt, (tt, through.1))
asked_follows asked s (Err why) (inl look) = inl look
asked_follows asked s (Err why) (inr later) = inr (tt, inr later)

-- behind a look-up that has found the version
pub moving_follows : {T : Type 0} (s : State) (r : Result T Refusal) → Follows (entering_steps s) r → Follows (moving_steps s) r
moving_follows s r follows = asked_follows Why.NoSuch s r follows

-- what comes behind it does not refuse the version as none
pub moves_some : {T : Type 0} (s : State) (r : Result T Refusal) → Follows (entering_steps s) r → r ≡ Err Why.NoSuch → ⊥
moves_some s (Ok x) through is = absurd (cc is)
moves_some s (Err why) comes is = let same : why ≡ Why.NoSuch = cc is in by (subst (Comes (entering_steps s)) same comes)
  where
    by : Comes (entering_steps s) Why.NoSuch → ⊥
    by (inl look) = absurd look
    by (inr (passes, inl used)) = absurd (cc used)
    by (inr (passes, inr (usable, inl full))) = fits (nat_lt (length s.free_pages) least_pages) full
      where
        fits : (b : Bool) → cond b (Some (Why.NameTableFull (length s.free_pages))) None ≡ Some Why.NoSuch → ⊥
        fits true e = cc e
        fits false e = cc e
    by (inr (passes, inr (usable, inr (room, inl fetch)))) = absurd fetch
    by (inr (passes, inr (usable, inr (room, inr more)))) = absurd more.1

-- nor does a force
pub force_some : (s : State) (why : Refusal) → Comes (by_itself s ∷ []) why → why ≡ Why.NoSuch → ⊥
force_some s why comes same = by (forces_first s) (subst (Comes (by_itself s ∷ [])) same comes)
  where
    by : (b : Bool) → Comes (Force b ∷ []) Why.NoSuch → ⊥
    by b (inl refused) = absurd refused.1
    by b (inr more) = absurd more.1

-- where a fault that is handed on is another
pub other_fault : {T A : Type 0} {other : Refusal} (r : Result T Refusal) (why : Refusal) → IsErrAnd r (λ told. told ≡ why) → (why ≡ other → ⊥) → r ≡ Err other → A
other_fault (Ok x) why told some is = absurd (cc is)
other_fault {other = other} (Err x) why told some is = let same : x ≡ other = cc is in absurd (some (sym told ∙ same))

module _ (v w : VolumeValue) (is : v ≡ w) where
  pub move_comes : {D : Type 0} (M : MachineGhosts D) (m m' : D) (log : LogValue) (key : Key) (name : List ℕ) (c : CacheValue) (flags : List Bool) (why : Refusal) → NoneMoves M by_log.ghosts log (data_map v) v.shadow key name m m' v.cache c v.free_pages flags why
      → Comes (entering_steps (state w)) why
  move_comes M m m' log key name c flags why none = refuses_comes (state w) _ _ _ _ (count_by (λ spare. spare) v.free_pages) (free_told v w is) why none

  -- what waits has changed, and the pages
  pub moves_told : (shadow : Waits) (c : CacheValue) (flags : List Bool) (versions : ℕ) → shadow.held ≡ v.shadow.held → shadow.unfinished ≡ v.shadow.unfinished → IsEdited (state w) (state (record v { shadow = shadow; cache = c; free_pages = flags; versions = versions }))
  moves_told shadow c flags versions held unfinished =
      let left : State = state (record v { shadow = shadow; cache = c; free_pages = flags; versions = versions }) in
      subst (λ (x : VolumeValue). IsEdited (state x) left) is (record { is = λ i. record left { readers = held i; unfinished = (unfinished i).sectors } })

-- it is whole
pub whole_moved : (v : VolumeValue) → IsWholeVolume v → (c : CacheValue) (flags : List Bool) → IsWholeVolume (record v { cache = c; free_pages = flags }) → (gone : List Leaving) → AreInTurn (data_map v) v.shadow [] gone → (b : Bool) → (c.dirty ≡ [] → b ≡ false)
    → (w : Waits) (versions : ℕ) → w.removed ≡ with_if b v.shadow.removed gone → w.kept ≡ v.shadow.kept → w.unfinished ≡ v.shadow.unfinished → w.held ≡ v.shadow.held → IsWholeVolume (record v { shadow = w; cache = c; free_pages = flags; versions = versions })
whole_moved v whole c flags edited gone turn b dry w versions removed kept unfinished held = whole_going v whole c flags edited gone turn b dry v.map whole.map (λ s is. is) w versions removed kept unfinished held
