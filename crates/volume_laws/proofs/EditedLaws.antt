-- What a change of a version tells, once its table was edited in the cache or the edit has failed, over any machine.
use Rattle.std.proofs.Common.{◌≡◌, inl, inr, ℕ, Bool, List, Option, Some, None, Result, Ok, Err, refl, sym, ap, subst, ◌∙◌, arith}
use Rattle.std.specs.Prelude.{IfOk, OnErr}
use Rattle.volume_layout.specs.declared.layout.Layout.{Layout}
use Rattle.sector_disk.specs.declared.machine.Machine.{Ghosts as MachineGhosts}
use Rattle.sector_disk.specs.Calls.{device_in}
use Rattle.sector_disk.specs.Damage.{AreLost}
use Rattle.fsd_bytes.specs.declared.key.Key.{Key}
use Rattle.fsd_bytes.specs.declared.refusal.Refusal.{Refusal}
use Rattle.fsd_bytes.specs.declared.refusal.Refusal.TheVariants as Why
use Rattle.group_commit.specs.Newest.{AreCopiesIn as AreCopiesBy}
use Rattle.group_commit.specs.contracts.newest.NewestPageSource.TheImpl as by_log
use Rattle.log_thirds.specs.LogValue.{LogValue}
use Rattle.page_cache.specs.Cache.{CacheValue}
use Rattle.name_btree.specs.declared.fault.TreeFault.{TreeFault}
use Rattle.name_btree.specs.declared.fault.TreeFault.TheVariants.{Pages, Broken}
use Rattle.name_btree.specs.Fault.{outer_of}
use Rattle.table_pages.specs.Reads.{LosesFor, LosesPage, outer_device as device_told}
use Rattle.version_table.specs.declared.fault.VersionFault.{VersionFault}
use Rattle.version_table.specs.declared.fault.VersionFault.TheVariants.{Table, NoSuch, VersionsUsedUp}
use Rattle.version_table.specs.Fault.{outside_in, outer_met}
use Rattle.volume_contract.specs.Causes.{AreSomeCopies, Causes, HasCallCause}
use Rattle.volume_contract.specs.Ends.{device_of}
use Rattle.volume_contract.specs.Order.{Comes, Follows}
use Rattle.volume_contract.specs.State.{State}
use Rattle.volume_contract.proofs.OrderLaws.{fetch_looks}
use Rattle.cached_table.specs.Editing.{EditsOnly, StaysInCache}
use Rattle.volume_laws.specs.Ending.{Edits, GivesUp, IsEdited, edit_refusal, edit_steps, kept_told, look_steps, version_refusal}
use Rattle.run_table.specs.declared.run.Run.{Run}
use Rattle.shadow_frees.specs.Waits.{Waits}
use Rattle.volume_laws.specs.State.{resident, state}
use Rattle.volume_laws.specs.Volume.{IsWholeVolume, VolumeValue}
use Rattle.volume_laws.proofs.CauseLaws.{cause_of, causes_by}
use Rattle.volume_laws.proofs.EntryLaws.{copies_told}

-- ---- refusals

-- a fault is told as a refusal of the disk, a loss, a want of memory, or that there is no such version
pub refusal_cases : (P : Option Refusal → Refusal → Type 0) → ((s : ℕ) → P (Some (Why.Device s)) (Why.Device s)) → ((a b : ℕ) → P (Some (Why.Lost a b)) (Why.Lost a b)) → P (Some Why.Memory) Why.Memory → P None Why.NoSuch
    → (f : TreeFault) → P (outer_of f) (edit_refusal f)
refusal_cases P device lost memory none (Broken page) = none
refusal_cases P device lost memory none (Pages Why.NoSuch) = none
refusal_cases P device lost memory none (Pages Why.Exists) = none
refusal_cases P device lost memory none (Pages (Why.TooLong n)) = none
refusal_cases P device lost memory none (Pages (Why.NoSpace need free)) = none
refusal_cases P device lost memory none (Pages (Why.TooFragmented need best)) = none
refusal_cases P device lost memory none (Pages (Why.NameTableFull free)) = none
refusal_cases P device lost memory none (Pages Why.VersionsUsedUp) = none
refusal_cases P device lost memory none (Pages (Why.KeepTooLarge n)) = none
refusal_cases P device lost memory none (Pages (Why.Damaged s)) = none
refusal_cases P device lost memory none (Pages (Why.Device s)) = device s
refusal_cases P device lost memory none (Pages (Why.Down s)) = none
refusal_cases P device lost memory none (Pages (Why.Lost a b)) = lost a b
refusal_cases P device lost memory none (Pages (Why.Unsound s)) = none
refusal_cases P device lost memory none (Pages Why.WornOut) = none
refusal_cases P device lost memory none (Pages Why.Memory) = memory
refusal_cases P device lost memory none (Pages (Why.BadClient n)) = none
refusal_cases P device lost memory none (Pages (Why.Busy n)) = none
refusal_cases P device lost memory none (Pages (Why.Idle n)) = none
refusal_cases P device lost memory none (Pages (Why.Short declared got)) = none
refusal_cases P device lost memory none (Pages (Why.Long declared got)) = none
refusal_cases P device lost memory none (Pages (Why.LayoutIs n)) = none
refusal_cases P device lost memory none (Pages (Why.NotLarger n)) = none
refusal_cases P device lost memory none (Pages (Why.PastMost n)) = none

pub version_cases : (P : Option Refusal → Refusal → Type 0) → ((s : ℕ) → P (Some (Why.Device s)) (Why.Device s)) → ((a b : ℕ) → P (Some (Why.Lost a b)) (Why.Lost a b)) → P (Some Why.Memory) Why.Memory → P None Why.NoSuch
    → (f : VersionFault) → P (outside_in f) (version_refusal f)
version_cases P device lost memory none (Table f) = refusal_cases P device lost memory none f
version_cases P device lost memory none NoSuch = none
version_cases P device lost memory none VersionsUsedUp = none

-- what is told of an edit's fault: it is one of the look-up, or of the table; its place is the disk's; no page is told as unsound
record IsEditRefusal (o : Option Refusal) (why : Refusal) : Type 0 where
  pub comes : Comes edit_steps why
  pub place : device_of why ≡ device_told o
  pub sound : (place : ℕ) → why ≡ Why.Unsound place → ⊥
  pub lost : (a b : ℕ) → why ≡ Why.Lost a b → o ≡ Some (Why.Lost a b)
  pub memory : why ≡ Why.Memory → o ≡ Some Why.Memory

tells_device : (s : ℕ) → IsEditRefusal (Some (Why.Device s)) (Why.Device s)
tells_device s = record { comes = inl tt; place = refl; sound = λ place is. absurd (cc is); lost = λ a b is. absurd (cc is); memory = λ is. absurd (cc is) }

tells_lost : (a b : ℕ) → IsEditRefusal (Some (Why.Lost a b)) (Why.Lost a b)
tells_lost a b = record { comes = inl tt; place = refl; sound = λ place is. absurd (cc is); lost = λ x y is. ap (λ (r : Refusal). Some r) is; memory = λ is. absurd (cc is) }

tells_memory : IsEditRefusal (Some Why.Memory) Why.Memory
tells_memory = record { comes = inl tt; place = refl; sound = λ place is. absurd (cc is); lost = λ a b is. absurd (cc is); memory = λ is. refl }

tells_none : IsEditRefusal None Why.NoSuch
tells_none = record { comes = inr (tt, inl refl); place = refl; sound = λ place is. absurd (cc is); lost = λ a b is. absurd (cc is); memory = λ is. absurd (cc is) }

is_edit : (f : TreeFault) → IsEditRefusal (outer_of f) (edit_refusal f)
is_edit f = refusal_cases IsEditRefusal tells_device tells_lost tells_memory tells_none f

is_version : (f : VersionFault) → IsEditRefusal (outside_in f) (version_refusal f)
is_version f = version_cases IsEditRefusal tells_device tells_lost tells_memory tells_none f

-- ---- another keep

pub keep_follows : (r : Result Key VersionFault) → Follows edit_steps (kept_told r)
keep_follows (Ok key) = (tt, (tt, tt))
keep_follows (Err f) = (is_version f).comes

pub keep_place : (r : Result Key VersionFault) → device_in device_of (kept_told r) ≡ device_told (outer_met r)
keep_place (Ok key) = refl
keep_place (Err f) = (is_version f).place

pub keep_memory : (r : Result Key VersionFault) → kept_told r ≡ Err Why.Memory → outer_met r ≡ Some Why.Memory
keep_memory (Ok key) is = absurd (cc is)
keep_memory (Err f) is = let same : version_refusal f ≡ Why.Memory = cc is in (is_version f).memory same

pub keep_name : (name : List ℕ) (r : Result Key VersionFault) → IfOk r (λ key. key.name ≡ name) → IfOk (kept_told r) (λ key. key.name ≡ name)
keep_name name (Ok key) same = same
keep_name name (Err f) same = tt

module _ (v w : VolumeValue) (is : v ≡ w) (c : CacheValue) (flags : List Bool) where
  abbrev left : VolumeValue
  left = record v { cache = c; free_pages = flags }

  edited : IsEdited (state w) (state left)
  edited = subst (λ (x : VolumeValue). IsEdited (state x) (state left)) is (record { is = refl })

  pub stayed : c.dirty ≡ v.cache.dirty → flags ≡ v.free_pages → state left ≡ state w
  stayed dirty same = (λ i. state (record v { cache = record v.cache { dirty = dirty i }; free_pages = same i })) ∙ ap state is

  module _ {D : Type 0} (M : MachineGhosts D) (m m' : D) (log : LogValue) where
    kept_edits : (r : Result Key VersionFault) → OnErr r (StaysInCache M by_log.ghosts log m m' v.cache c v.free_pages flags) → Edits (state w) (state left) (kept_told r)
    kept_edits (Ok key) stays = edited
    kept_edits (Err f) stays = stayed stays.dirty stays.same_flags

    pub keep_edits : (r : Result Key VersionFault) (result : Result Key Refusal) → result ≡ kept_told r → OnErr r (StaysInCache M by_log.ghosts log m m' v.cache c v.free_pages flags) → Edits (state w) (state left) result
    keep_edits r result told stays = subst (Edits (state w) (state left)) (sym told) (kept_edits r stays)

    module _ (whole : IsWholeVolume v) (of_log : log ≡ v.log) (refusal : Option Refusal) (edits : EditsOnly M by_log.ghosts log refusal m m' v.cache c v.free_pages flags) where
      pub lost_copies : (a b : ℕ) → refusal ≡ Some (Why.Lost a b) → M.honest m' → AreLost (AreSomeCopies (state w) (state left)) (M.now m').image a b
      lost_copies a b told honest =
          let by : LosesPage M by_log.ghosts log m' a b = subst (λ (o : Option Refusal). LosesFor M by_log.ghosts log o m') told edits.loses in
          let lost : LosesPage M by_log.ghosts v.log m' a b = subst (λ (l : LogValue). LosesPage M by_log.ghosts l m' a b) of_log by in
          let copies : AreLost (AreCopiesBy v.log lost.page) (M.now m').image a b = lost.lost honest in
          subst (λ (x : VolumeValue). AreLost (AreSomeCopies (state x) (state left)) (M.now m').image a b) is
          (record {
            copies = record { page = lost.page; within = omega (arith, lost.within, ap (λ (l : Layout). l.pages) whole.log); copies = inl (copies_told v whole lost.page a b copies.copies) };
            first = copies.first;
            second = copies.second;
          })

      edit_causes : {T : Type 0} (why : Refusal) → IsEditRefusal refusal why → (r : Result T Refusal) → r ≡ Err why → Causes M (resident w) (state w) (state left) m m' r
      edit_causes why tells r is_err = causes_by M (resident w) (state w) (state left) m m' r
          (λ a b lost honest. let same : why ≡ Why.Lost a b = cc (is_err, lost) in lost_copies a b (tells.lost a b same) honest)
          (λ place unsound honest. let same : why ≡ Why.Unsound place = cc (is_err, unsound) in absurd (tells.sound place same))

    kept_causes : (whole : IsWholeVolume v) → log ≡ v.log → (r : Result Key VersionFault) → EditsOnly M by_log.ghosts log (outer_met r) m m' v.cache c v.free_pages flags
        → Causes M (resident w) (state w) (state left) m m' (kept_told r)
    kept_causes whole of_log (Ok key) edits = tt
    kept_causes whole of_log (Err f) edits = edit_causes whole of_log (outside_in f) edits {T = Key} (version_refusal f) (is_version f) (Err (version_refusal f)) refl

    pub keep_causes : IsWholeVolume v → log ≡ v.log → (r : Result Key VersionFault) (result : Result Key Refusal) → result ≡ kept_told r → EditsOnly M by_log.ghosts log (outer_met r) m m' v.cache c v.free_pages flags
        → Causes M (resident w) (state w) (state left) m m' result
    keep_causes whole of_log r result told edits = subst (Causes M (resident w) (state w) (state left) m m') (sym told) (kept_causes whole of_log r edits)

-- ---- a version that is taken out

module _ (v w : VolumeValue) (is : v ≡ w) (c : CacheValue) (flags : List Bool) where
  pub out_edited : (dirty : List ℕ) (runs : List Run) (wait : Waits) (n : ℕ) → GivesUp dirty runs v.shadow v.versions wait n → IsEdited (state w) (state (record v { shadow = wait; cache = c; free_pages = flags; versions = n }))
  out_edited dirty runs wait n gives =
      let unfinished : wait.unfinished ≡ v.shadow.unfinished = elim gives [
        | inl none ↦ ap (λ (x : Waits). x.unfinished) none.1
        | inr some ↦ some.1.unfinished
      ] in
      let held : wait.held ≡ v.shadow.held = elim gives [
        | inl none ↦ ap (λ (x : Waits). x.held) none.1
        | inr some ↦ some.1.held
      ] in
      let left : State = state (record v { shadow = wait; cache = c; free_pages = flags; versions = n }) in
      subst (λ (x : VolumeValue). IsEdited (state x) left) is (record { is = λ i. record left { readers = held i; unfinished = (unfinished i).sectors } })

  module _ {D : Type 0} (M : MachineGhosts D) (m m' : D) (log : LogValue) (f : TreeFault) {T : Type 0} (r : Result T Refusal) (told : r ≡ Err (edit_refusal f)) where
    pub out_follows : Follows edit_steps r
    out_follows = subst (Follows edit_steps) (sym told) (is_edit f).comes

    pub out_place : device_in device_of r ≡ device_told (outer_of f)
    out_place = ap (device_in device_of) told ∙ (is_edit f).place

    pub out_stays : StaysInCache M by_log.ghosts log m m' v.cache c v.free_pages flags → Edits (state w) (state (record v { cache = c; free_pages = flags })) r
    out_stays stays = subst (Edits (state w) (state (record v { cache = c; free_pages = flags }))) (sym told) (stayed v w is c flags stays.dirty stays.same_flags)

    pub out_causes : IsWholeVolume v → log ≡ v.log → EditsOnly M by_log.ghosts log (outer_of f) m m' v.cache c v.free_pages flags → Causes M (resident w) (state w) (state (record v { cache = c; free_pages = flags })) m m' r
    out_causes whole of_log edits = edit_causes v w is c flags M m m' log whole of_log (outer_of f) edits (edit_refusal f) (is_edit f) r told

-- ---- behind a look-up

pub state_looked : (v w : VolumeValue) → w ≡ record v { cache = w.cache } → w.cache.dirty ≡ v.cache.dirty → state w ≡ state v
state_looked v w is dirty = ap state is ∙ (λ i. record (state v) { dirty = dirty i })

comes_looked : (why : Refusal) → Comes edit_steps why → Comes look_steps why
comes_looked why (inl fetch) = inl (fetch_looks why fetch)
comes_looked why (inr asks) = inr asks

pub follows_looked : {T : Type 0} (r : Result T Refusal) → Follows edit_steps r → Follows look_steps r
follows_looked (Ok x) through = through
follows_looked (Err why) comes = comes_looked why comes

not_unsound : (why : Refusal) (place : ℕ) → why ≡ Why.Unsound place → Comes edit_steps why → ⊥
not_unsound why place is comes = by (subst (Comes edit_steps) is comes)
  where
    by : Comes edit_steps (Why.Unsound place) → ⊥
    by (inl fetch) = fetch
    by (inr (none, inl same)) = absurd (cc same)
    by (inr (none, inr more)) = more.1

-- a refusal of an edit has its cause, whatever was read before it
pub causes_looked : {D T : Type 0} (M : MachineGhosts D) (x y : ℕ → Option (List ℕ)) (old mid new : State) (m n m' : D) (r : Result T Refusal) → mid ≡ old → Follows edit_steps r → Causes M x mid new n m' r → Causes M y old new m m' r
causes_looked M x y old mid new m n m' (Ok z) same follows causes = tt
causes_looked M x y old mid new m n m' (Err why) same comes causes = λ honest.
    cause_of old new y (M.now m) (M.now m') why
    (λ a b is. subst (λ (s : State). AreLost (AreSomeCopies s new) (M.now m').image a b) same (subst (λ (w : Refusal). HasCallCause mid new x (M.now n) (M.now m') w) is (causes honest)))
    (λ place is. absurd (not_unsound why place is comes))

pub edits_looked : {T : Type 0} (old mid new : State) (r : Result T Refusal) → mid ≡ old → Edits mid new r → Edits old new r
edits_looked old mid new r same edits = subst (λ (s : State). Edits s new r) same edits
