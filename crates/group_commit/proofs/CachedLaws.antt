-- A force of the dirty pages of a cache.
use Rattle.std.proofs.Common.{◌≡◌, Bool, true, false, cond, ℕ, ◌+◌, ◌≤◌, List, [], ◌∷◌, length, refl, sym, ap, subst, ◌∙◌, arith}
use Rattle.run_table.specs.Space.{contains}
use Rattle.sector_disk.specs.declared.sector.WeakRun.{WeakRun}
use Rattle.sector_disk.specs.Machine.{Moment}
use Rattle.fsd_formats.specs.Record.{Stamp, are_pages, record_len}
use Rattle.fsd_log.specs.Scan.{Placed}
use Rattle.fsd_files.specs.Disk.{Image}
use Rattle.log_thirds.specs.LogValue.{LogValue}
use Rattle.log_thirds.specs.Append.{stamp_now, log_with}
use Rattle.page_cache.specs.Cache.{CacheValue, IsCache, IsResident, cleaned, is_among}
use Rattle.group_commit.specs.Cached.{AreWaiting, CacheLeaves, ascending_of, stamped_for, stamped_frames, with_waiting}
use Rattle.group_commit.specs.Force.{Committed, StandsOverDisk, log_forced, sectors_written, stamped_by}
use Rattle.group_commit.specs.Resident.{stamped}
use Rattle.log_thirds.specs.Moving.{moved}
use Rattle.group_commit.specs.Room.{goes_before, log_before, sectors_before}
use Rattle.group_commit.proofs.CommitLaws.{idle_commits, idle_committed}
use Rattle.group_commit.proofs.FrameLaws.{stamped_none, stamped_same}
use Rattle.group_commit.proofs.ImageLaws.{all_at}
use Rattle.group_commit.proofs.OrderLaws.{accepted_ascending, length_ascending, one_ascending}
use Rattle.std.proofs.lemmas.List.{nil_from_length}
use Rattle.volume_layout.specs.Kinds.{gap_of}

pub written_some : (log : LogValue) (dirty : List ℕ) → 1 ≤ length dirty → sectors_written log dirty ≡ sectors_before log (length dirty) + record_len (gap_of log.layout) (length dirty)
written_some log [] some = absurd (omega (arith, some))
written_some log (x ∷ xs) some = refl

-- an anchor that moves on leaves the layout
either_layout : (here : Bool) (log : LogValue) → (cond here log (moved log)).layout ≡ log.layout
either_layout true log = refl
either_layout false log = refl

pub before_layout : (log : LogValue) (n : ℕ) → (log_before log n).layout ≡ log.layout
before_layout log n = either_layout (goes_before log n) log

pub forced_some : (log : LogValue) (dirty : List ℕ) → 1 ≤ length dirty → log_forced log dirty ≡ log_with (log_before log (length dirty)) dirty
forced_some log [] some = absurd (omega (arith, some))
forced_some log (x ∷ xs) some = refl

module _ (c : CacheValue) (cache : IsCache c) (xs : List ℕ) (are : xs ≡ ascending_of c.dirty) where
  pub so_many : length xs ≡ length c.dirty
  so_many = ap length are ∙ length_ascending c.dirty cache.once

  pub is_dirty : (p : ℕ) → contains xs p ≡ true → is_among c.dirty p ≡ true
  is_dirty p is = sym (one_ascending c.dirty p) ∙ subst (λ (ys : List ℕ). contains ys p ≡ true) are is

  pub is_waiting : (p : ℕ) → is_among c.dirty p ≡ true → contains xs p ≡ true
  is_waiting p is = subst (λ (ys : List ℕ). contains ys p ≡ true) (sym are) (one_ascending c.dirty p ∙ is)

  pub all_stamped : (stamp : Stamp) → stamped_frames stamp xs c ≡ stamped_frames stamp c.dirty c
  all_stamped stamp = stamped_same stamp xs c.dirty c (λ p. ap (λ (ys : List ℕ). is_among ys p) are ∙ one_ascending c.dirty p)

  pub all_there : (p : ℕ) → contains xs p ≡ true → IsResident c p
  all_there p is = all_at (IsResident c) c.dirty cache.waiting p (is_dirty p is)

  pub all_accepted : (count : ℕ) → AreWaiting count c → 1 ≤ length xs → are_pages count xs ≡ true
  all_accepted count waiting some =
      subst (λ (ys : List ℕ). are_pages count ys ≡ true) (sym are)
      (accepted_ascending count c.dirty (λ p is. (waiting p is).inside) cache.few (omega (arith, some, ap length are)))

  -- none is dirty
  module _ (none : length xs ≡ 0) where
    pub none_dirty : c.dirty ≡ []
    none_dirty = nil_from_length c.dirty (omega (arith, none, so_many))

    pub idle_cache : (log : LogValue) → c ≡ cleaned (stamped_for log c)
    idle_cache log =
        let stamps : stamped_frames (stamp_now log) c.dirty c ≡ c = ap (λ (ys : List ℕ). stamped_frames (stamp_now log) ys c) none_dirty ∙ stamped_none (stamp_now log) c in
        let empty : cleaned c ≡ c = λ i. record c { dirty = sym none_dirty i } in
        sym (ap cleaned stamps ∙ empty)

    pub idle_written : (log : LogValue) → sectors_written log c.dirty ≡ 0
    idle_written log = ap (sectors_written log) none_dirty

    pub idle_leaves : (log : LogValue) (old : Moment) → CacheLeaves log c old old
    idle_leaves log old pages agrees windows records disk ends over known = idle_commits log (with_waiting c pages) records disk (stamped_by log (with_waiting c pages)) windows old over

    pub idle_done : (log : LogValue) (pages : List (List ℕ)) (windows : List WeakRun) (records : List Placed) (disk : List (List ℕ)) (i : Image) → StandsOverDisk log records disk (with_waiting c pages) windows i
        → Committed log (record { pages = stamped_by log (with_waiting c pages); dirty = [] }) windows i
    idle_done log pages windows records disk i over =
        let no : ascending_of c.dirty ≡ [] = ap ascending_of none_dirty in
        let over2 : StandsOverDisk log records disk (record { pages = pages; dirty = [] }) windows i = subst (λ (ys : List ℕ). StandsOverDisk log records disk (record { pages = pages; dirty = ys }) windows i) no over in
        subst (λ (ys : List ℕ). Committed log (record { pages = stamped (stamp_now log) ys pages; dirty = [] }) windows i) (sym no) (idle_committed log (record { pages = pages; dirty = [] }) records disk windows i refl over2)
