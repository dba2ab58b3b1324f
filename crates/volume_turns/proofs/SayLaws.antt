-- What one call of the input or of the output keeps.
use Rattle.std.proofs.Common.{◌≡◌, ℕ, ◌≤◌, Bool, true, false, List, ◌++◌, take, inl, inr, ap, sym, subst, ◌∙◌, arith}
use Rattle.std.specs.Prelude.{Ok, Err}
use Rattle.std.proofs.lemmas.List.{append-nil}
use Rattle.sector_disk.specs.declared.machine.Failed.{Failed}
use Rattle.sector_disk.specs.declared.machine.Machine.{Ghosts}
use Rattle.sector_disk.specs.Calls.{IsTimed, LeavesDisk, Since, SparesDisk}
use Rattle.sector_disk.specs.Image.{IsWorn, Windows, open_damage}
use Rattle.sector_disk.specs.Machine.{DiskCause, Elapses, InputCause, IsHistory, IsSynced, LeavesOnly, Moment, OutputCause, Report, Says, Trusts, UsesDisk, Utters, Wears}
use Rattle.sector_disk.proofs.Holding.{utters_none}
use Rattle.sector_disk.proofs.Holding.{wears_none}
use Rattle.sector_disk.proofs.Moments.{goes_on, leaves_more, leaves_more_in, started, then_on}
use Rattle.sector_disk.proofs.Wear.{worn_trans}
use Rattle.fsd_texts.specs.declared.fault.Fault.TheVariants as Ends
use Rattle.volume_turns.specs.declared.turns.Halt.TheVariants.{Fault as Stopped, Output}
use Rattle.volume_turns.specs.Turns.{SaysAll, FaultTold, UttersBehind}

-- ---- what is counted

module _ (a b : Report) where
  pub spares_said : {T E : Type 0} (x : T) → OutputCause {E = E} a b (Ok x) → SparesDisk false false a b
  spares_said x c = record { sectors = c.sectors; place = c.place; disk = c.disk; input = c.input; output = c.output.stays }

  pub spares_unsaid : {T E : Type 0} (e : E) → OutputCause {T = T} a b (Err e) → SparesDisk false true a b
  spares_unsaid e c = record { sectors = c.sectors; place = c.place; disk = c.disk; input = c.input; output = c.output.failed }

  pub told_said : {T U E : Type 0} (x : T) (y : U) → OutputCause {E = E} a b (Ok x) → FaultTold {T = U} a b (Ok y)
  told_said x y c = record { sectors = c.sectors; disk = (c.disk, c.place); input = c.input; later = c.output.later; output = c.output.stays }

  pub told_unsaid : {T U E : Type 0} (e : E) → OutputCause {T = T} a b (Err e) → FaultTold {T = U} a b (Err Output)
  told_unsaid e c = record { sectors = c.sectors; disk = (c.disk, c.place); input = c.input; later = c.output.later; output = c.output.failed }

  pub spares_taken : {T E : Type 0} (x : T) → InputCause {E = E} a b (Ok x) → SparesDisk false false a b
  spares_taken x c = record { sectors = c.sectors; place = c.place; disk = c.disk; input = c.input.stays; output = c.output }

  pub spares_untaken : {T E : Type 0} (e : E) → InputCause {T = T} a b (Err e) → SparesDisk true false a b
  spares_untaken e c = record { sectors = c.sectors; place = c.place; disk = c.disk; input = c.input.failed; output = c.output }

  -- of a sync, by the sectors that it keeps
  pub told_synced : {T : Type 0} (x : T) → b.sectors ≡ a.sectors → DiskCause a b 0 (Ok x) → FaultTold {T = Unit {0}} a b (Ok tt)
  told_synced x same c = record { sectors = same; disk = (c.disk.stays, c.untold); input = c.input; later = let output = c.output in omega (arith, output); output = c.output }

  pub told_unsynced : {T U : Type 0} (failed : Failed) → b.sectors ≡ a.sectors → DiskCause {T = T} a b failed.place (Err failed) → FaultTold {T = U} a b (Err (Stopped (Ends.Device failed.place)))
  told_unsynced failed same c = record {
    sectors = same;
    disk = record { rose = c.disk.failed; told = c.names ∙ sym c.told };
    input = c.input;
    later = let output = c.output in omega (arith, output);
    output = c.output;
  }

-- ---- what a stop leaves

module _ {D : Type 0} (M : Ghosts D) (a b : D) (only : (c : Moment) → M.honest a → M.left_since a (M.moment a) c → c ≡ M.now a) (trust : Trusts (M.tells a) (M.tells b) (M.honest a) (M.honest b)) where
  leaves_in : (P : Moment → Type 0) → P (M.now a) → (M.honest b → Elapses (M.moment a) (M.moment b) (M.left_since a) (M.left_since b) P) → M.honest b → LeavesOnly M.moment M.left_since a b P
  leaves_in P here time h = goes_on M.moment M.left_since a a b P P (started M.moment M.left_since a (M.now a) P (λ c left. only c (trust.honest h) left) here) (time h) (λ c now. now)

  pub taken_leaves : (failed : Bool) → SparesDisk failed false (M.report a) (M.report b) → (M.honest b → Wears (M.now a) (M.now b))
      → (M.honest b → Elapses (M.moment a) (M.moment b) (M.left_since a) (M.left_since b) (Wears (M.now a))) → LeavesDisk M failed false Wears a b
  taken_leaves failed spares worn time = record { spares = spares; trust = trust; exit = worn; since = λ h. (time h).keeps; any_moment = leaves_in (Wears (M.now a)) (wears_none (M.now a)) time }

  pub said_moments : (said bytes : List ℕ) → said ≡ bytes → (M.honest b → Elapses (M.moment a) (M.moment b) (M.left_since a) (M.left_since b) (Utters said (M.now a)))
      → M.honest b → LeavesOnly M.moment M.left_since a b (Utters bytes (M.now a))
  said_moments said bytes is time h = subst (λ (x : List ℕ). LeavesOnly M.moment M.left_since a b (Utters x (M.now a))) is (leaves_in (Utters said (M.now a)) (utters_none said (M.now a)) time h)

  pub said_leaves : (bytes : List ℕ) (failed : Bool) → SparesDisk false failed (M.report a) (M.report b) → (M.honest b → Utters bytes (M.now a) (M.now b))
      → (M.honest b → Elapses (M.moment a) (M.moment b) (M.left_since a) (M.left_since b) (Utters bytes (M.now a))) → LeavesDisk M false failed (Utters bytes) a b
  said_leaves bytes failed spares cut time = record { spares = spares; trust = trust; exit = cut; since = λ h. (time h).keeps; any_moment = leaves_in (Utters bytes (M.now a)) (utters_none bytes (M.now a)) time }

-- ---- all is said

pub says_all : (said bytes : List ℕ) (old new : Moment) → said ≡ bytes → Says said old new → SaysAll bytes old new
says_all said bytes old new is s = record { ages = record { image = s.image; windows = s.windows }; said = s.said ∙ ap (λ (x : List ℕ). old.said ++ x) is }

-- ---- a text behind a sync

-- by the laws of a machine
pub timed_by : {D : Type 0} (M : Ghosts D) → ((m : D) → M.honest m → (M.now m).time ≡ M.moment m) → ((m : D) → M.honest m → IsHistory (M.now m) (M.left_since m)) → ((m : D) (t : ℕ) → M.honest m → t ≤ M.moment m → M.left_since m t (M.now m))
    → ((m : D) (c : Moment) → M.honest m → M.left_since m (M.moment m) c → c ≡ M.now m) → (m : D) → M.honest m → IsTimed M m
timed_by M dated history counts_now only_now m h = record { dated = dated m h; history = history m h; here = counts_now m (M.moment m) h (omega arith); only = λ c left. only_now m c h left }

-- nothing is said by a sync
pub utters_worn : (text : List ℕ) (old left : Moment) → Wears old left → UttersBehind true text old left
utters_worn text old left w = record {
  utters = record { image = w.image; windows = w.windows; heard = 0; said = w.said ∙ sym (append-nil old.said) };
  synced = λ is. inl w.said;
}

-- A sync keeps what a call that only reads does, but that it is counted.
pub record KeepsSynced {D : Type 0} (M : Ghosts D) (a b : D) : Type 0 where
  pub uses : UsesDisk (M.report a) (M.report b)
  pub trust : Trusts (M.tells a) (M.tells b) (M.honest a) (M.honest b)
  pub worn : M.honest b → Wears (M.now a) (M.now b)
  pub since : M.honest b → Since M a b
  pub any_moment : M.honest b → LeavesOnly M.moment M.left_since a b (Wears (M.now a))

pub synced_keeps : {D : Type 0} (M : Ghosts D) (a b : D) → UsesDisk (M.report a) (M.report b) → Trusts (M.tells a) (M.tells b) (M.honest a) (M.honest b) → (M.honest b → Wears (M.now a) (M.now b))
    → (M.honest b → Elapses (M.moment a) (M.moment b) (M.left_since a) (M.left_since b) (Wears (M.now a))) → (M.honest a → IsTimed M a) → KeepsSynced M a b
synced_keeps M a b uses trust worn time timed = record {
  uses = uses;
  trust = trust;
  worn = worn;
  since = λ h. (time h).keeps;
  any_moment = λ h. goes_on M.moment M.left_since a a b (Wears (M.now a)) (Wears (M.now a)) (started M.moment M.left_since a (M.now a) (Wears (M.now a)) (timed (trust.honest h)).only (wears_none (M.now a))) (time h) (λ c now. now);
}

module _ (text : List ℕ) (old mid left : Moment) (w : Wears old mid) where
  worn_on : IsWorn (open_damage mid.windows) mid.image left.image → IsWorn (open_damage old.windows) old.image left.image
  worn_on worn = worn_trans (open_damage old.windows) old.image mid.image left.image w.image (subst (λ (x : Windows). IsWorn (open_damage x) mid.image left.image) w.windows worn)

  pub utters_on : Utters text mid left → Utters text old left
  utters_on u = record { image = worn_on u.image; windows = u.windows ∙ w.windows; heard = u.heard; said = u.said ∙ ap (λ (x : List ℕ). x ++ take u.heard text) w.said }

  pub says_on : SaysAll text mid left → SaysAll text old left
  says_on s = record { ages = record { image = worn_on s.ages.image; windows = s.ages.windows ∙ w.windows }; said = s.said ∙ ap (λ (x : List ℕ). x ++ text) w.said }

pub synced_moments : {D : Type 0} (M : Ghosts D) (a b : D) → IsTimed M a → Elapses (M.moment a) (M.moment b) (M.left_since a) (M.left_since b) (Wears (M.now a)) → (text : List ℕ) → LeavesOnly M.moment M.left_since a b (UttersBehind true text (M.now a))
synced_moments M a b at_a time text =
    leaves_more M.moment M.left_since a b (Wears (M.now a)) (UttersBehind true text (M.now a)) (utters_worn text (M.now a))
    (goes_on M.moment M.left_since a a b (Wears (M.now a)) (Wears (M.now a)) (started M.moment M.left_since a (M.now a) (Wears (M.now a)) at_a.only (wears_none (M.now a))) time (λ c now. now))

module _ {D : Type 0} (M : Ghosts D) (a p b : D) (text : List ℕ) (at_a : IsTimed M a) (at_p : IsTimed M p) (at_b : IsTimed M b) (time : Elapses (M.moment a) (M.moment p) (M.left_since a) (M.left_since p) (Wears (M.now a))) (worn : Wears (M.now a) (M.now p))
    (synced : IsSynced (M.now p)) (since : Since M p b) (run : LeavesOnly M.moment M.left_since p b (Utters text (M.now p))) where
  synced_p : (M.now a).time ≤ (M.now p).synced
  synced_p = let at : (M.now p).synced ≡ (M.now p).time = synced in omega (arith, at, at_p.dated, at_a.dated, time.later)

  -- no later sync was earlier
  pub behind_sync : (c : Moment) → M.left_since b (M.moment p) c → (M.now a).time ≤ c.synced
  behind_sync c left = elim (run.before (M.moment p) c (omega arith) left) [
    | inl old ↦ let same : c.synced ≡ (M.now p).synced = ap (λ (x : Moment). x.synced) (at_p.only c old) in omega (arith, same, synced_p)
    | inr new ↦ let order = at_b.history.in_order (M.moment p) (M.now p) c (since (M.moment p) (M.now p) (omega arith) at_p.here) left (omega (arith, new.1, at_p.dated)) in omega (arith, order, synced_p)
  ]

  pub forced_moments : LeavesOnly M.moment M.left_since a b (UttersBehind true text (M.now a))
  forced_moments = then_on M.moment M.left_since a p b (UttersBehind true text (M.now a)) (synced_moments M a p at_a time text)
      (leaves_more_in M.moment M.left_since (M.now b) p b (Utters text (M.now p)) (UttersBehind true text (M.now a)) at_b.history
      (λ c left u. record { utters = utters_on text (M.now a) (M.now p) c worn u; synced = λ is. inr (behind_sync c left) }) run)

  pub forced_synced : (M.now a).time ≤ (M.now b).synced
  forced_synced = behind_sync (M.now b) (at_b.history.sooner (M.moment p) (M.moment b) (M.now b) run.later at_b.here)
