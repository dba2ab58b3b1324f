-- What a stop leaves of a put and the force behind it.
use Rattle.std.proofs.Common.{◌≡◌, ◌⊎◌, inl, inr, ◌≤◌, ℕ, suc, List, [], ◌∷◌, ◌++◌, length, length-append, Option, None, refl, sym, ◌∙◌, ap, subst, arith}
use Rattle.fsd_bytes.specs.declared.key.Key.{Key}
use Rattle.sector_disk.specs.declared.machine.Machine.{Ghosts}
use Rattle.sector_disk.specs.Calls.{OnlyReads, WritesDisk}
use Rattle.sector_disk.specs.Image.{AreShort}
use Rattle.sector_disk.specs.Machine.{Ledger, Moment, OnlyWrites, Wears, synced_once}
use Rattle.fsd_log.specs.Scan.{Placed}
use Rattle.sector_disk.proofs.CallLaws.{faults_then, reads_as_writes, uses_then, writes_more, writes_then}
use Rattle.sector_disk.proofs.Holding.{trusts_on}
use Rattle.sector_disk.proofs.Moments.{leaves_more, then_on}
use Rattle.fsd_files.specs.Answers.{put_outcome}
use Rattle.fsd_files.specs.Files.{Change}
use Rattle.fsd_files.specs.Disk.{Sectors}
use Rattle.fsd_sound.specs.Mounted.{Mounted}
use Rattle.fsd_sound.specs.Sound.{EndIn, IsSound}
use Rattle.fsd_sound.proofs.MoreLaws.{sound_fewer, sound_more, wear_sound}
use Rattle.volume_contract.specs.Ends.{MakesVersion, made_key}
use Rattle.volume_contract.specs.State.{Known, Leaves, Stands, State, forced_of, volume_of}
use Rattle.volume_example.specs.Stops.{LeavesOneMore, MayLeave}
use Rattle.volume_example.specs.Syncs.{SyncsDisk, WritesAndSyncs, WritesForGood}
use Rattle.volume_example.proofs.MadeLaws.{is_put}

module _ {S : Type 0} (state : S → State) (has : S → Mounted → List Placed → Type 0) (v : S) (k : Known) (old : Moment) (stands : Stands state has v k old) (change : Change) where
  -- inside the put
  pub put_leaves : (may : Sectors) (left : Moment) → Leaves state has v may old left → MayLeave k change left
  put_leaves may left leaves =
      let so = leaves k stands in
      record {
        ends = subst (λ w. EndIn w k.windows) (sym so.windows) stands.ends;
        sound = sound_more k.mounted.volume.layout k.windows k.changes (change ∷ []) (forced_of k) left.image so.sound;
      }

  -- inside a read behind it
  pub wear_leaves : (mid left : Moment) → AreShort mid.windows → MayLeave k change mid → Wears mid left → MayLeave k change left
  wear_leaves mid left short at wears = record {
    ends = subst (λ w. EndIn w k.windows) (sym wears.windows) at.ends;
    sound = wear_sound k.mounted.volume.layout k.windows (k.changes ++ change ∷ []) (forced_of k) mid.windows mid.image left.image short at.ends wears.image at.sound;
  }

  -- inside the force behind it
  pub force_leaves : (w : S) (mid : Moment) (after : Known) → Stands state has w after mid → mid.windows ≡ old.windows → after.mounted.volume.layout ≡ k.mounted.volume.layout
      → after.windows ≡ k.windows → after.changes ≡ k.changes ++ change ∷ [] → after.mounted.volume.unforced ≤ suc k.mounted.volume.unforced
      → (may : Sectors) (left : Moment) → Leaves state has w may mid left → MayLeave k change left
  force_leaves w mid after standing turned layout windows changes unforced may left leaves =
      let so = leaves after standing in
      let more : forced_of k ≤ forced_of after = (let size = ap (λ (h : List Change). length h) changes in let one = length-append k.changes (change ∷ []) in omega (arith, size, one, unforced)) in
      let sound = sound_fewer after.mounted.volume.layout after.windows after.changes (forced_of k) (forced_of after) left.image more so.sound in
      record {
        ends = subst (λ x. EndIn x k.windows) (sym (so.windows ∙ turned)) stands.ends;
        sound = subst (λ h. IsSound k.mounted.volume.layout k.windows h (forced_of k) left.image) changes
            (subst (λ x. IsSound k.mounted.volume.layout x after.changes (forced_of k) left.image) windows
            (subst (λ l. IsSound l after.windows after.changes (forced_of k) left.image) layout sound));
      }

-- ---- a sync behind writes

once_more : (a c d : Ledger) → OnlyWrites a c → (d ≡ c) ⊎ (d ≡ synced_once c) → WritesAndSyncs a d
once_more a c d w (inl same) = record {
  input = ap (λ (l : Ledger). l.input) same ∙ w.input;
  attaches = ap (λ (l : Ledger). l.attaches) same ∙ w.attaches;
  syncs = let is = ap (λ (l : Ledger). l.syncs) same in let none = w.syncs in omega (arith, is, none);
}
once_more a c d w (inr one) = record {
  input = ap (λ (l : Ledger). l.input) one ∙ w.input;
  attaches = ap (λ (l : Ledger). l.attaches) one ∙ w.attaches;
  syncs = let is = ap (λ (l : Ledger). l.syncs) one in let none = w.syncs in omega (arith, is, none);
}

-- where there was none
pub without_sync : {D : Type 0} {M : Ghosts D} {fault : Option ℕ} {R : Moment → Moment → Type 0} {a b : D} → WritesDisk M fault R a b → WritesForGood M fault R a b
without_sync {M = M} {a = a} {b = b} w = record {
  uses = w.uses;
  faults = w.faults;
  trust = w.trust;
  ledger = λ t. once_more (M.ledger a) (M.ledger b) (M.ledger b) (w.ledger t) (inl refl);
  quiet = w.quiet;
  windows = w.windows;
  exit = w.exit;
  since = w.since;
  any_moment = w.any_moment;
}

-- ---- what a put and a call behind it leave

module _ {D S : Type 0} (M : Ghosts D) (state : S → State) (has : S → Mounted → List Placed → Type 0) (v : S) (may : Sectors) (change : Change) (a b c : D) (put : WritesDisk M None (Leaves state has v may) a b) where
  put_part : (left : Moment) → Leaves state has v may (M.now a) left → LeavesOneMore state has v change (M.now a) left
  put_part left leaves k stands = put_leaves state has v k (M.now a) stands change may left leaves

  pub put_reads : (fault : Option ℕ) → (M.honest b → AreShort (M.now b).windows) → OnlyReads M fault b c → WritesDisk M fault (LeavesOneMore state has v change) a c
  put_reads fault short read = writes_then {P = Leaves state has v may} {Q = Wears} {R = LeavesOneMore state has v change} put (reads_as_writes {R = Wears} read (λ h left wears. wears)) (λ h left leaves. put_part left leaves) read_part
    where
      read_part : M.honest c → (left : Moment) → Wears (M.now b) left → LeavesOneMore state has v change (M.now a) left
      read_part h left wears k stands =
          let back = read.trust.honest h in
          wear_leaves state has v k (M.now a) stands change (M.now b) left (short back) (put_part (M.now b) (put.exit back) k stands) wears

  -- a sync behind both
  pub then_syncs : (d : D) (fault : Option ℕ) → WritesDisk M None (LeavesOneMore state has v change) a c → (M.honest c → AreShort (M.now c).windows) → SyncsDisk M fault c d → WritesForGood M fault (LeavesOneMore state has v change) a d
  then_syncs d fault all short read =
      let back = read.trust.honest in record {
        uses = uses_then (M.report a) (M.report c) (M.report d) all.uses read.uses;
        faults = faults_then fault (M.report a) (M.report c) (M.report d) all.faults read.faults;
        trust = trusts_on all.trust read.trust;
        ledger = λ t. once_more (M.ledger a) (M.ledger c) (M.ledger d) (all.ledger (read.trust.tells t)) (read.ledger t);
        quiet = λ h. (read.worn h).said ∙ all.quiet (back h);
        windows = λ h. (read.worn h).windows ∙ all.windows (back h);
        exit = λ h. sync_part h (M.now d) (read.worn h);
        since = λ h t left le was. let later = (all.any_moment (back h)).later in read.since h t left (omega (arith, le, later)) (all.since (back h) t left le was);
        any_moment = λ h. then_on M.moment M.left_since a c d (LeavesOneMore state has v change (M.now a)) (all.any_moment (back h))
            (leaves_more M.moment M.left_since c d (Wears (M.now c)) (LeavesOneMore state has v change (M.now a)) (sync_part h) (read.any_moment h));
      }
    where
      sync_part : M.honest d → (left : Moment) → Wears (M.now c) left → LeavesOneMore state has v change (M.now a) left
      sync_part h left wears k stands =
          let back = read.trust.honest h in
          wear_leaves state has v k (M.now a) stands change (M.now c) left (short back) (all.exit back k stands) wears

-- a put that was refused leaves no more
pub put_alone : {D S : Type 0} (M : Ghosts D) (state : S → State) (has : S → Mounted → List Placed → Type 0) (v : S) (may : Sectors) (change : Change) (a b : D) (fault : Option ℕ)
    → WritesDisk M fault (Leaves state has v may) a b → WritesDisk M fault (LeavesOneMore state has v change) a b
put_alone M state has v may change a b fault put = writes_more {P = Leaves state has v may} {R = LeavesOneMore state has v change} put (λ h left leaves k stands. put_leaves state has v k (M.now a) stands change may left leaves)

module _ {D S : Type 0} (M : Ghosts D) (state : S → State) (has : S → Mounted → List Placed → Type 0) (v w : S) (may forces : Sectors) (name bytes : List ℕ) (key : Key) (a b c : D) (put : WritesDisk M None (Leaves state has v may) a b)
    (makes : M.honest b → (k : Known) → Stands state has v k (M.now a) → MakesVersion state has (λ met. put_outcome met (volume_of k) name bytes None) (made_key (length bytes) key) bytes (Change.Put name None bytes) k w (M.now b) key) where
  pub put_forces : (fault : Option ℕ) → WritesDisk M fault (Leaves state has w forces) b c → WritesDisk M fault (LeavesOneMore state has v (Change.Put name None bytes)) a c
  put_forces fault force = writes_then {P = Leaves state has v may} {Q = Leaves state has w forces} {R = LeavesOneMore state has v (Change.Put name None bytes)} put force
      (λ h left leaves k stands. put_leaves state has v k (M.now a) stands (Change.Put name None bytes) may left leaves) force_part
    where
      force_part : M.honest c → (left : Moment) → Leaves state has w forces (M.now b) left → LeavesOneMore state has v (Change.Put name None bytes) (M.now a) left
      force_part h left leaves k stands =
          let back = force.trust.honest h in
          let made = makes back k stands in
          let is = is_put state has name bytes k w (M.now b) key made in
          force_leaves state has v k (M.now a) stands (Change.Put name None bytes) w (M.now b) made.after made.stands (put.windows back) is.layout made.answers.windows made.answers.changes is.unforced forces left leaves
