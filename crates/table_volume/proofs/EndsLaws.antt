-- How a mount of a sound disk ends.
use Rattle.std.proofs.Common.{◌≡◌, ◌⊎◌, inl, inr, ⊎_elim, ℕ, ◌^◌, ◌<◌, ◌≤◌, List, Ok, Err, refl, sym, ap, subst, arith}
use Rattle.std.specs.Prelude.{IfOk, IsErrAnd, Result}
use Rattle.volume_layout.specs.declared.layout.Layout.{Layout}
use Rattle.sector_disk.specs.declared.machine.Machine.{Ghosts as MachineGhosts}
use Rattle.sector_disk.specs.declared.sector.WeakRun.{WeakRun}
use Rattle.sector_disk.specs.Image.{AreShort, Windows}
use Rattle.sector_disk.specs.Machine.{IsHistory, IsSynced, LeavesOnly, Moment, Wears}
use Rattle.sector_disk.proofs.Moments.{leaves_more, leaves_more_in, then_on}
use Rattle.sector_disk.proofs.Wear.{worn_refl}
use Rattle.fsd_files.specs.Files.{Change}
use Rattle.fsd_sound.specs.Choices.{TellsChoices}
use Rattle.fsd_sound.specs.Mounted.{SameData}
use Rattle.fsd_sound.specs.Sound.{IsSound, weak_of}
use Rattle.fsd_sound.specs.Windows.{IsNamedSince}
use Rattle.fsd_sound.specs.declared.fault.MountFault.{MountFault}
use Rattle.fsd_sound.specs.declared.fault.MountFault.TheVariants.{Device, Memory, WornOut}
use Rattle.fsd_sound.proofs.WritesLaws.{data_stays}
use Rattle.log_thirds.specs.LogValue.{LogValue}
use Rattle.mount_recover.specs.Finding.{IsExcuse}
use Rattle.mount_recover.specs.Recover.{IsFreshLog, IsRefusedFor, IsSettledIn}
use Rattle.mount_recover.specs.Replay.{IsBehindSettle, IsBefore, IsReplayed, IsUnturned, Replays, TurnsLast}
use Rattle.volume_contract.specs.Mount.{EndsBefore, EndsSettled, ExcusesOf, FailsFor, IsSoundAt, SoundAbout, SoundBefore, SoundSince}
use Rattle.cached_table.specs.Homes.{KnowsHomes}
use Rattle.table_volume.specs.Mounting.{IsAssembled, OpensKnown}
use Rattle.volume_laws.specs.State.{IsMemoryOf, state}
use Rattle.volume_laws.specs.Volume.{VolumeValue}
use Rattle.table_volume.proofs.EpochLaws.{at_last_epoch}
use Rattle.volume_laws.proofs.MomentLaws.{shown_before, sound_by_one, sound_before}
use Rattle.table_volume.proofs.SettledLaws.{count, files_settled, known_new, knows_settled, mounts_new, settled_new, since_settled}

-- ---- moments of which two things are known

module _ {D : Type 0} (moment : D → ℕ) (left_since : D → ℕ → Moment → Type 0) (old new : D) (P Q : Moment → Type 0) where
  leaves_both : LeavesOnly moment left_since old new P → LeavesOnly moment left_since old new Q → LeavesOnly moment left_since old new (λ c. P c × Q c)
  leaves_both first second = record {
    later = first.later;
    each = λ c left. (first.each c left, second.each c left);
    before = λ t c le left. ⊎_elim (λ was. inl was) (λ p. ⊎_elim (λ was. inl was) (λ q. inr ((p.0, q.0), p.1)) (second.before t c le left)) (first.before t c le left);
  }

-- ---- times

-- At b all that was written is on the disk, and calls that only read lead from there to c.
pub record ReadsSynced {D : Type 0} (M : MachineGhosts D) (b c : D) (mid new : Moment) : Type 0 where
  pub dated : mid.time ≡ M.moment b
  pub synced : IsSynced mid
  pub before : IsHistory mid (M.left_since b)
  pub behind : IsHistory new (M.left_since c)
  pub only : (left : Moment) → M.left_since b (M.moment b) left → left ≡ mid
  pub there : M.left_since c (M.moment b) mid
  pub ends : M.left_since c (M.moment b) new
  pub reads : LeavesOnly M.moment M.left_since b c (Wears mid)

module _ {D : Type 0} (M : MachineGhosts D) (b c : D) (mid new : Moment) (is : ReadsSynced M b c mid new) where
  -- each moment since has that sync behind it
  synced_since : (left : Moment) → M.left_since c (M.moment b) left → M.moment b ≤ left.synced
  synced_since left since = ⊎_elim (λ was. here (is.only left was)) (λ later. next later.1) (is.reads.before (M.moment b) left (omega arith) since)
    where
      here : left ≡ mid → M.moment b ≤ left.synced
      here same = omega (arith, is.dated, is.synced, ap (λ (m : Moment). m.synced) same)

      next : M.moment b < left.time → M.moment b ≤ left.synced
      next later = omega (arith, is.dated, is.synced, is.behind.in_order (M.moment b) mid left is.there since (omega (arith, is.dated, later)))

-- ---- before it settles

excuses_of : (sectors : ℕ) (old : Moment) (fault : MountFault) → IsExcuse fault → IsRefusedFor sectors fault old → ExcusesOf old.image fault
excuses_of sectors old WornOut excuse refused = at_last_epoch sectors old refused
excuses_of sectors old (Device s) excuse refused = tt
excuses_of sectors old Memory excuse refused = tt
excuses_of sectors old other excuse refused = absurd excuse

module _ (sectors : ℕ) (l : Layout) (windows : List WeakRun) (h : List Change) (f : ℕ) (old : Moment) (begun : IsSoundAt sectors l windows h f old) (lists : TellsChoices l windows h f old.image) where
  moment_before : (left : Moment) → Replays l windows lists.choices old left → IsUnturned old left → SoundBefore l windows h f old left
  moment_before left replays still = record {
    present = still;
    said = replays.said;
    sound = staged replays.stage;
    says = replays.says;
    writes = replays.rest;
  }
    where
      same_data : SameData l (weak_of windows) old.image left.image
      same_data = data_stays l (weak_of windows) old left replays.rest

      staged : IsBefore l windows lists.choices old left ⊎ IsBehindSettle l windows lists.choices left → IsSound l windows h f left.image
      staged (inl before) = sound_before sectors l windows h f old begun lists left.image before.shows before.closes same_data
      staged (inr is) = sound_by_one sectors l windows h f old begun lists is.pages is.chosen left.image (shown_before l windows lists.choices old left begun.ends still is) is.opened same_data

  module _ {D : Type 0} (M : MachineGhosts D) (a b : D) where
    -- it failed before it settled
    pub ends_before : (new : Moment) → LeavesOnly M.moment M.left_since a b (Replays l windows lists.choices old) → LeavesOnly M.moment M.left_since a b (TurnsLast old new)
        → Replays l windows lists.choices old new → IsUnturned old new → (r : Result VolumeValue MountFault) (fault : MountFault) → IsErrAnd r (λ told. told ≡ fault) → IsExcuse fault → IsRefusedFor sectors fault old
        → EndsBefore state IsMemoryOf l windows h f (LeavesOnly M.moment M.left_since a b) old new r
    ends_before new replays turns exit still r fault is excuse refused = record {
      moments = leaves_more M.moment M.left_since a b (λ left. Replays l windows lists.choices old left × TurnsLast old new left) (SoundBefore l windows h f old)
          (λ left both. moment_before left both.0 (unturned left both.1))
          (leaves_both M.moment M.left_since a b (Replays l windows lists.choices old) (TurnsLast old new) replays turns);
      exit = moment_before new exit still;
      why = why r is;
    }
      where
        unturned : (left : Moment) → TurnsLast old new left → IsUnturned old left
        unturned left (inl same) = same
        unturned left (inr end) = subst (IsUnturned old) (sym end) still

        why : (r : Result VolumeValue MountFault) → IsErrAnd r (λ told. told ≡ fault) → FailsFor (ExcusesOf old.image) r
        why (Ok v) is = absurd is
        why (Err told) is = subst (ExcusesOf old.image) (sym is) (excuses_of sectors old fault excuse refused)

  -- ---- once it has settled

  module _ {D : Type 0} (M : MachineGhosts D) (a b c : D) (log : LogValue) (mid new : Moment) (done : IsReplayed l windows lists.choices log.anchor.epoch mid) (short : AreShort mid.windows)
      (exit : Replays l windows lists.choices old mid) where
    same : SameData l (weak_of windows) old.image mid.image
    same = data_stays l (weak_of windows) old mid exit.rest

    since : (left : Moment) → Wears mid left → SoundSince l windows done.after.run h (count sectors l windows h f old begun lists log mid done short) old left
    since left wears = since_settled sectors l windows h f old begun lists log mid done short (data_stays l (weak_of windows) old mid exit.rest) exit.said exit.rest exit.says left wears

    at_mid : Wears mid mid
    at_mid = record { image = worn_refl _ mid.image; windows = refl; said = refl }

    abbrev Each : Moment → Type 0
    Each = SoundAbout (M.moment b) l windows done.after.run h f (count sectors l windows h f old begun lists log mid done short) old

    each : ReadsSynced M b c mid new → (left : Moment) → M.left_since b (M.moment a) left → Replays l windows lists.choices old left → TurnsLast old mid left → Each left
    each is left passed replays (inl still) = inl (moment_before left replays still, omega (arith, is.dated, (is.before.within (M.moment a) left passed).1))
    each is left passed replays (inr end) = inr (subst (SoundSince l windows done.after.run h (count sectors l windows h f old begun lists log mid done short) old) (sym end) (since mid at_mid), omega (arith, is.dated, is.synced, ap (λ (m : Moment). m.synced) end))

    pub knows : KnowsHomes l mid
    knows = knows_settled sectors l windows h f old begun lists log mid done short

    pub ends_settled : LeavesOnly M.moment M.left_since a b (Replays l windows lists.choices old) → LeavesOnly M.moment M.left_since a b (TurnsLast old mid) → ReadsSynced M b c mid new
        → IsFreshLog l log → IsSettledIn sectors l log old mid → log.anchor.epoch < 2 ^ 32 → Wears mid new → (r : Result VolumeValue MountFault) → IfOk r (IsAssembled l log) → OpensKnown l mid r
        → IsNamedSince (M.left_since c) (M.moment a) mid.windows.present → EndsSettled state IsMemoryOf l windows h f (M.left_since c) (M.moment a) (LeavesOnly M.moment M.left_since a c) old new r
    ends_settled replays turns times fresh is fits wears r assembled opens named = record {
      count = count sectors l windows h f old begun lists log mid done short;
      prefix = (files_settled sectors l windows h f old begun lists log mid done short).prefix;
      next = done.after.run;
      named = subst (IsNamedSince (M.left_since c) (M.moment a)) (ap (λ (w : Windows). w.present) done.after.settled) named;
      known = known_new sectors l windows h f old begun lists log mid done short same exit.said exit.rest fresh is fits new wears;
      at = M.moment b;
      later = replays.later;
      held = synced_since M b c mid new times new times.ends;
      since = λ left passed. since left (times.reads.each left passed);
      moments = then_on M.moment M.left_since a b c Each
          (leaves_more_in M.moment M.left_since mid a b (λ left. Replays l windows lists.choices old left × TurnsLast old mid left) Each times.before (λ left passed both. each times left passed both.0 both.1)
          (leaves_both M.moment M.left_since a b (Replays l windows lists.choices old) (TurnsLast old mid) replays turns))
          (leaves_more_in M.moment M.left_since new b c (Wears mid) Each times.behind (λ left passed worn. inr (since left worn, synced_since M b c mid new times left passed)) times.reads);
      settled = settled_new sectors l windows h f old begun lists log mid done short same exit.said exit.rest fresh is fits new wears;
      ends = mounts_new sectors l windows h f old begun lists log mid done short same exit.said exit.rest fresh is fits new wears r assembled opens;
    }
