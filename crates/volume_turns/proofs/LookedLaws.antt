-- A restore behind what it has looked up, and one that makes nothing again.
use Rattle.std.proofs.Common.{◌≡◌, ℕ, Bool, true, false, List, [], ◌∷◌, length, map, Option, Some, None, refl, subst, arith}
use Rattle.std.specs.Prelude.{◌==◌, if◌then◌else◌, IsSome, Result, Ok, Err, slice_get}
use Rattle.fsd_log.specs.Scan.{Placed}
use Rattle.volume_layout.specs.declared.layout.Layout.{Layout}
use Rattle.sector_disk.specs.declared.machine.Machine.{Ghosts}
use Rattle.sector_disk.specs.Calls.{IsTimed, OnlyReads, Since}
use Rattle.sector_disk.specs.Image.{AreShort, Windows, open_damage}
use Rattle.sector_disk.specs.Machine.{LeavesOnly, Moment, Wears}
use Rattle.sector_disk.proofs.CallLaws.{reads_as_writes}
use Rattle.sector_disk.proofs.Wear.{worn_refl}
use Rattle.fsd_bytes.specs.declared.key.Key.{Key}
use Rattle.fsd_bytes.specs.declared.refusal.Refusal.{Refusal}
use Rattle.fsd_files.specs.Desk.{Session, no_clients}
use Rattle.fsd_files.specs.Volume.{Volume}
use Rattle.fsd_sound.specs.Mounted.{Mounted}
use Rattle.fsd_texts.specs.declared.fault.Fault.{Fault}
use Rattle.fsd_texts.specs.declared.fault.Fault.TheVariants as Ends
use Rattle.fsd_texts.specs.declared.line.Line.{Line}
use Rattle.fsd_texts.specs.Text.{text}
use Rattle.fsd_dumps.specs.Dump.{Dumped}
use Rattle.fsd_dumps.specs.Front.{ItemsRead}
use Rattle.fsd_runs.specs.Dumps.{first_there}
use Rattle.fsd_runs.specs.Errands.{Errand, blank, cut_off, load_of, restore_of, restored_unless, refusing, restoring_unless}
use Rattle.fsd_runs.specs.Runs.{turns_of}
use Rattle.fsd_runs.specs.Sessions.{session_over}
use Rattle.client_desk.specs.Clients.{no_desk}
use Rattle.client_desk.proofs.FinishLaws.{sits_fresh}
use Rattle.volume_contract.specs.State.{Ages, Known, Stands, State, forced_of, is_worn, none_open, volume_of}
use Rattle.volume_turns.specs.declared.turns.Halt.{Halt}
use Rattle.volume_turns.specs.declared.turns.Halt.TheVariants.{Fault as Stopped, Output}
use Rattle.volume_turns.specs.Generate.{silent}
use Rattle.volume_turns.specs.Once.{Anything}
use Rattle.volume_turns.specs.Restore.{EndsErrand, EndsQuiet, EndsSaying, IsRestored, LooksFor, cut_at}
use Rattle.volume_turns.specs.Seats.{known_of, seated}
use Rattle.volume_turns.specs.Turns.{EndsAtOnce, OnDisk}
use Rattle.volume_turns.proofs.ApartLaws.{fault_is}
use Rattle.volume_turns.proofs.BeforeLaws.{goes_before, halted_before, halted_here, out_before, stops_before, worn_stops}
use Rattle.volume_turns.proofs.RestoreLaws.{restored_none}
use Rattle.volume_turns.proofs.RunLaws.{runs_nil}
use Rattle.volume_turns.proofs.SaidLaws.{keeps_then}
use Rattle.volume_turns.proofs.SpeaksLaws.{speaks_behind, speaks_failed}
use Rattle.volume_turns.proofs.ToldLaws.{told_behind}

-- ---- there is a turn to say

some_ending : (b : Bool) (o : Option Refusal) (count : ℕ) → IsSome (slice_get (if b then (restored_unless o count).turns else blank ∷ []) 0)
some_ending false o count = refl
some_ending true None count = refl
some_ending true (Some why) count = refl

pub some_unless : (o : Option Key) (items : List Dumped) (s : Session) → IsSome (slice_get (turns_of (restoring_unless o items) [] s) 0)
some_unless (Some key) items s = refl
some_unless None items s = some_ending (0 == length (map load_of items)) None 0

pub some_restore : (read : ItemsRead) (v : Volume) (s : Session) → IsSome (slice_get (turns_of (restore_of read v) [] s) 0)
some_restore (Err place) v s = refl
some_restore (Ok items) v s = some_unless (first_there items v.entries) items s

-- ---- what such calls keep

-- behind calls that only read
pub quiet_before : {D T : Type 0} (M : Ghosts D) (l n : Layout) (a m b : D) (result : Result T Halt) → OnlyReads M None a m → n ≡ l → EndsQuiet M n m b result → EndsQuiet M l a b result
quiet_before M l n a m b result reads same x = record {
  speaks = speaks_behind (reads_as_writes {R = Wears} reads (λ h left worn. worn)) x.speaks;
  image = told_behind l n same (M.honest b) (M.now b).image result x.image;
  unworn = x.unworn;
  quiet = λ h. keeps_then (M.now a) (M.now m) (M.now b) result (reads.worn (x.speaks.trust.honest h)).said (x.quiet h);
}

-- a look-up has failed
pub quiet_fault : {D S R : Type 0} (M : Ghosts D) (state : S → State) (has : S → Mounted → List Placed → Type 0) (Found : Volume → R → Type 0) (v w : S) (a m : D) (why : Fault) → LooksFor M state has Found v w a m (Err why) → EndsQuiet {T = ℕ} M (state v).layout a m (Err (Stopped why))
quiet_fault M state has Found v w a m why x = record {
  speaks = speaks_failed why refl x.fault (reads_as_writes {R = Wears} x.disk (λ h left worn. worn));
  image = x.told;
  unworn = λ is h. x.unworn (fault_is _ why Ends.WornOut refl is);
  quiet = λ h. (x.disk.worn h).said;
}

-- ---- over a volume that stands

module _ {S D : Type 0} (state : S → State) (has : S → Mounted → List Placed → Type 0) (M : Ghosts D) (v : S) (k : Known) (a m : D)
    (wears : (old new : Moment) → AreShort old.windows → Ages old new → Stands state has v k old → Stands state has v k new) (short : AreShort (M.now a).windows) (stands : Stands state has v k (M.now a))
    (on : OnDisk M k (forced_of k) a) (at_a : IsTimed M a) (at_m : IsTimed M m) (worn : Wears (M.now a) (M.now m)) (since : Since M a m) (any_moment : LeavesOnly M.moment M.left_since a m (Wears (M.now a))) where
  pub restored_before : is_worn (state v) ≡ false → (b : D) (e : Errand) (result : Result ℕ Halt) → IsRestored M e k m b result → IsRestored M e k a b result
  restored_before unworn b e result r = record {
    refused = r.refused;
    ended = record {
      mets = r.ended.mets;
      goes = goes_before state has M v k a m wears short stands on at_a at_m worn since any_moment unworn b Anything (λ so. tt) (cut_off (cut_at r.refused) e) r.ended.mets r.ended.goes;
      moments = stops_before state has M v k a m wears short stands on at_a at_m worn since any_moment b (turns_of (cut_off (cut_at r.refused) e) r.ended.mets (session_over (volume_of k))) r.ended.moments;
      ends = by result r.ended.ends;
    };
    so = r.so;
  }
    where
      by : (x : Result ℕ Halt) → EndsErrand M (cut_off (cut_at r.refused) e) k r.ended.mets m b x → EndsErrand M (cut_off (cut_at r.refused) e) k r.ended.mets a b x
      by (Ok status) out = out_before state has M v k a m wears short stands on at_a at_m worn since any_moment b out
      by (Err (Stopped why)) out = (out.0, halted_before state has M v k a m wears short stands on at_a at_m worn since any_moment b out.1)
      by (Err Output) out = tt

  -- it ends there
  pub restored_halt : (e : Errand) → IsSome (slice_get (turns_of e [] (session_over (volume_of k))) 0) → (why : Fault) → EndsAtOnce why → IsRestored M e k a m (Err (Stopped why))
  restored_halt e some why once = record {
    refused = None;
    ended = record {
      mets = [];
      goes = λ t le. tt;
      moments = worn_stops state has M v k a m wears short stands on at_a at_m worn since any_moment (turns_of e [] (session_over (volume_of k)));
      ends = (once, halted_here state has M v k a m wears short stands on at_a at_m worn since any_moment why (turns_of e [] (session_over (volume_of k))) some);
    };
    so = refl;
  }

-- nothing is made again, and it is said why
pub closes_none : {S D : Type 0} (state : S → State) (has : S → Mounted → List Placed → Type 0) (M : Ghosts D) (wears : (s : S) (k : Known) (old new : Moment) → AreShort old.windows → Ages old new → Stands state has s k old → Stands state has s k new)
    (timed : (x : D) → M.honest x → IsTimed M x) (short : (x : D) → M.honest x → AreShort (M.now x).windows) (line : Line) (v : S) (a b : D) (result : Result ℕ Halt) → EndsSaying M state has (text line) 1 v a b result → M.honest b → (k : Known) → k.opened ≡ none_open → Stands state has v k (M.now a) → OnDisk M k (forced_of k) a
    → IsRestored M (refusing line) k a b result
closes_none state has M wears timed short line v a b result says honest k none stands disk =
    let first = says.calls.speaks.trust.honest honest in
    let ages : Ages (M.now a) (M.now a) = record { image = worn_refl (open_damage (M.now a).windows) (M.now a).image; windows = refl } in
    restored_none state has M k a a v (omega arith) b (says.calls.speaks.since honest) (timed b honest) result line
    (runs_nil state has M silent (v, no_desk) a wears (timed a) (λ h from aged. subst (λ (w : Windows). AreShort w) aged.windows (short a h)) first (seated k no_clients) (forced_of k) (M.now a) (sits_fresh state has k v (M.now a) none stands) ages disk)
    says.gives_it (λ x f at held. says.closes honest (known_of x) f at.stands held)
