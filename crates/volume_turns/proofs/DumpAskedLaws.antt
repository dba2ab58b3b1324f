-- A dump by the span that is asked for, where none of it is said: a fault has come before it, or so many bytes are too few.
use Rattle.std.proofs.Common.{◌≡◌, ◌⊎◌, inl, inr, Bool, ℕ, false, List, [], ◌++◌, map, take, Option, None, refl, sym, ◌∙◌, subst}
use Rattle.std.specs.Prelude.{IsSome, Result, Ok, Err, slice_get}
use Rattle.std.proofs.lemmas.List.{append-nil}
use Rattle.std.proofs.lemmas.Bool.{eq-eqb}
use Rattle.sector_disk.specs.declared.machine.Machine.{Ghosts}
use Rattle.sector_disk.specs.Calls.{Counts, IsHeld, IsTimed, LeavesDisk, StopsOnly}
use Rattle.sector_disk.specs.Image.{AreShort}
use Rattle.sector_disk.specs.Machine.{LeavesOnly, Moment, Report, Rose, Utters, Wears}
use Rattle.sector_disk.proofs.Moments.{leaves_more, then_on}
use Rattle.fsd_bytes.specs.declared.key.Serial.{Serial}
use Rattle.fsd_bytes.specs.declared.refusal.Refusal.TheVariants as Why
use Rattle.fsd_files.specs.Desk.{Session}
use Rattle.fsd_files.specs.Volume.{Volume}
use Rattle.fsd_log.specs.Scan.{Placed}
use Rattle.fsd_sound.specs.Mounted.{Mounted}
use Rattle.fsd_texts.specs.declared.fault.Fault.{Fault}
use Rattle.fsd_texts.specs.declared.line.Line.TheVariants as Says
use Rattle.fsd_texts.specs.Text.{fault_text, text}
use Rattle.fsd_runs.specs.declared.request.Request.TheVariants.{Dump}
use Rattle.fsd_runs.specs.declared.span.Span.{Span}
use Rattle.fsd_runs.specs.Dumps.{dump_of, span_of}
use Rattle.fsd_runs.specs.Errands.{Cut, MayCut, Turn, cut_off, dumping, said_turn}
use Rattle.fsd_runs.specs.Leaves.{CutCause, IsBrokenOff, IsUnsaid, SaysFault}
use Rattle.fsd_runs.specs.Runs.{IsCutAt, IsCutBefore, IsDumpedSo, said_in, turns_of}
use Rattle.volume_contract.specs.State.{State, Ages, Known, Stands, forced_of, volume_of}
use Rattle.volume_turns.specs.declared.turns.Halt.TheVariants.{Fault as Stopped}
use Rattle.volume_turns.specs.Dumping.{SaysAtEnd}
use Rattle.volume_turns.specs.Line.{EndsWith, is_unsaid}
use Rattle.volume_turns.specs.Turns.{EndsAtOnce, FaultTold, InRun, OnDisk, SaysAll, Undone}
use Rattle.volume_turns.specs.Whole.{Finishes, Halted, RunsOut, SaysOut, UnderWay}
use Rattle.volume_turns.proofs.DumpLaws.{Rooted, first_stops, held_m, plain_done, plain_stops, unsaid_as}
use Rattle.volume_turns.proofs.HaltLaws.{broken_ends, broken_moments}
use Rattle.volume_turns.proofs.LineLaws.{at_once_ends}
use Rattle.volume_turns.proofs.PlainLaws.{ArePlain, plain_halts, plain_map}
use Rattle.volume_turns.proofs.SayLaws.{KeepsSynced}
use Rattle.volume_turns.proofs.UtterLaws.{utters_behind, utters_by, wears_say}

-- ---- the turns of what is asked for

pub plain_parts : (parts : List (List ℕ)) → ArePlain (map said_turn parts)
plain_parts parts = plain_map said_turn (λ part. refl) parts

-- there is one to say
pub some_asked : (asked : Result Span ℕ) (v : Volume) (s : Session) → IsSome (slice_get (turns_of (dumping asked v) [] s) 0)
some_asked (Ok span) v s = refl
some_asked (Err need) v s = refl

-- nothing of a text is said by a sync, nor by what only reads
pub wears_run : {D : Type 0} (M : Ghosts D) (a m : D) → KeepsSynced M a m → M.honest m → (bytes : List ℕ) → LeavesOnly M.moment M.left_since a m (Utters bytes (M.now a))
wears_run M a m reads back bytes =
    leaves_more M.moment M.left_since a m (Wears (M.now a)) (Utters bytes (M.now a)) (λ c w. utters_by bytes [] bytes (M.now a) c refl (record { image = w.image; windows = w.windows }) (w.said ∙ sym (append-nil (M.now a).said))) (reads.any_moment back)

-- ---- by the span that is asked for

module _ {D : Type 0} (M : Ghosts D) (since : Serial) (most : Option ℕ) (before : Report) (k : Known) (a b : D) where
  -- The dump of such a span, or the line of why there is none, goes so.
  pub record DumpsAs (asked : Result Span ℕ) (status : ℕ) : Type 0 where
    pub cut : Cut
    pub may : MayCut (Dump since most) cut
    pub cause : (input rest : List ℕ) → CutCause cut input rest before (M.report b)
    pub finishes : Finishes M (Dump since most) (cut_off cut (dumping asked (volume_of k))) (λ s. IsCutBefore cut s (dumping asked (volume_of k)).commands) (IsCutAt cut) before k a b status
    pub so : IsDumpedSo asked cut (M.left_since b (M.moment a)) (M.now a).said (volume_of k) (M.now a).image

  pub runs_dumped : (input rest : List ℕ) (status : ℕ) (asked : Result Span ℕ) → span_of since most (volume_of k).entries ≡ asked → DumpsAs asked status → RunsOut M (Dump since most) input rest before k a b status
  runs_dumped input rest status asked is x = by (subst (λ (r : Result Span ℕ). DumpsAs r status) (sym is) x)
    where
      by : DumpsAs (span_of since most (volume_of k).entries) status → RunsOut M (Dump since most) input rest before k a b status
      by y = record { cut = y.cut; may = y.may; cause = y.cause input rest; finishes = y.finishes; says = tt; rooted = tt; so = y.so }

-- ---- where none of it is said

module _ {S D : Type 0} (state : S → State) (has : S → Mounted → List Placed → Type 0) (M : Ghosts D) (k : Known) (v : S) (a m : D)
    (wears : (old new : Moment) → AreShort old.windows → Ages old new → Stands state has v k old → Stands state has v k new) (stands : Stands state has v k (M.now a)) (on : OnDisk M k (forced_of k) a) (short : (x : D) → M.honest x → AreShort (M.now x).windows) (timed : (x : D) → M.honest x → IsTimed M x)
    (reads : KeepsSynced M a m) (back : M.honest m) (none : (volume_of k).unforced ≡ 0) (since : Serial) (most : Option ℕ) (b : D) (status : ℕ) where
  worn : Wears (M.now a) (M.now m)
  worn = reads.worn back

  -- a fault from outside has come before it
  module _ (why : Fault) (once : EndsAtOnce why) (told : FaultTold {T = Unit {0}} (M.report a) (M.report m) (Err (Stopped why))) (says : LeavesDisk M false (is_unsaid status) (Utters (fault_text why)) m b) (honest : M.honest b) (ended : EndsWith why (M.now m) (M.now b) status) where
    line_run : LeavesOnly M.moment M.left_since a b (Utters (fault_text why) (M.now a))
    line_run = then_on M.moment M.left_since a m b (Utters (fault_text why) (M.now a)) (wears_run M a m reads back (fault_text why))
        (leaves_more M.moment M.left_since m b (Utters (fault_text why) (M.now m)) (Utters (fault_text why) (M.now a)) (λ c u. utters_behind [] (fault_text why) (M.now a) (M.now m) c (wears_say (M.now a) (M.now m) worn) u) (says.any_moment honest))

    module _ (turns : List Turn) (plain : ArePlain turns) (some : IsSome (slice_get turns 0)) where
      halted : Halted M k why turns a m
      halted = plain_halts k none turns plain M why once a m (timed m back) worn.windows 0 some (worn.said ∙ sym (append-nil (M.now a).said)) (held_m state has M k v a m wears stands on short timed reads back)

      begun_moments : StopsOnly M a b (InRun k (forced_of k) turns (M.now a))
      begun_moments = broken_moments M (Dump since most) (M.report a) k turns a m b (first_stops state has M k v a m wears stands on short timed reads back turns) why halted (short m back) stands.ends (timed m back) (timed b honest) once told status says honest ended

      begun_ends : IsUnsaid (M.report a) (M.report b) status ⊎ IsBrokenOff (Dump since most) (Undone k (forced_of k) turns) (UnderWay M k turns b) (M.report a) (M.report b) turns (M.now a) (M.now b) status
      begun_ends = broken_ends M (Dump since most) (M.report a) k turns a m b (first_stops state has M k v a m wears stands on short timed reads back turns) why halted (short m back) stands.ends (timed m back) (timed b honest) once told status says honest ended

    only_fault : (c : Moment) → M.left_since b (M.moment a) c → (part : List ℕ) × SaysFault part × (c.said ≡ (M.now a).said ++ part)
    only_fault c left = let u = line_run.each c left in (take u.heard (fault_text why), (why, u.heard, at_once_ends why once, refl), u.said)

    pub unbegun_out : (asked : Result Span ℕ) → DumpsAs M since most (M.report a) k a b asked status
    unbegun_out (Ok span) =
        let turns = map said_turn (dump_of span (volume_of k)) in
        let plain = plain_parts (dump_of span (volume_of k)) in
        record {
          cut = None;
          may = tt;
          cause = λ input rest. tt;
          finishes = record { mets = []; ahead = tt; goes = λ t le. tt; moments = begun_moments turns plain refl; ends = inr (begun_ends turns plain refl) };
          so = unsaid_as (Ok span) (M.left_since b (M.moment a)) (M.now a).said (volume_of k) (M.now a).image only_fault;
        }
    unbegun_out (Err need) =
        let turns = ((dumping (Err need) (volume_of k)).ends []).turns in
        record {
          cut = None;
          may = tt;
          cause = λ input rest. tt;
          finishes = record { mets = []; ahead = tt; goes = λ t le. tt; moments = begun_moments turns (refl, tt) refl; ends = inr (begun_ends turns (refl, tt) refl) };
          so = tt;
        }

  -- so many bytes are too few, and this is said
  module _ (roots : IsHeld M m (Rooted k)) (output : (M.report m).output_faults ≡ (M.report a).output_faults) (need : ℕ) (end : SaysAtEnd M (text (Says.Refused (Why.TooLong need))) 1 m b status) (honest : M.honest b) where
    abbrev bytes : List ℕ
    bytes = text (Says.Refused (Why.TooLong need))

    abbrev refusal : List Turn
    refusal = ((dumping (Err need) (volume_of k)).ends []).turns

    is : said_in refusal ≡ bytes
    is = append-nil bytes

    ends_by : (status ≡ 6) ⊎ ((status ≡ 1) × SaysAll bytes (M.now m) (M.now b))
        → SaysOut M (dumping (Err need) (volume_of k)) k [] a b status ⊎ (IsUnsaid (M.report a) (M.report b) status ⊎ IsBrokenOff (Dump since most) (Undone k (forced_of k) refusal) (UnderWay M k refusal b) (M.report a) (M.report b) refusal (M.now a) (M.now b) status)
    ends_by (inl six) =
        let rose : Rose (M.report m).output_faults (M.report b).output_faults = subst (λ (x : Bool). Counts x (M.report m).output_faults (M.report b).output_faults) (eq-eqb status 6 six) end.says.spares.output in
        inr (inl (record { ends = six; rose = subst (λ (n : ℕ). Rose n (M.report b).output_faults) output rose }))
    ends_by (inr (given, all)) = inl (record {
      through = refl;
      gives = given;
      done = plain_done state has M k v a m wears stands on short timed reads back none roots b honest (end.says.since honest) bytes (end.says.any_moment honest) refusal (refl, tt) is all;
    })

    pub too_long_out : DumpsAs M since most (M.report a) k a b (Err need) status
    too_long_out = record {
      cut = None;
      may = tt;
      cause = λ input rest. tt;
      finishes = record {
        mets = [];
        ahead = tt;
        goes = λ t le. tt;
        moments = plain_stops state has M k v a m wears stands on short timed reads back none roots b honest (end.says.since honest) bytes (end.says.any_moment honest) refusal (refl, tt) [] (is ∙ sym (append-nil bytes));
        ends = ends_by (end.ends honest);
      };
      so = tt;
    }
