-- A dump over a volume that stands, by how it ends.
use Rattle.std.proofs.Common.{◌≡◌, ◌⊎◌, inl, inr, Bool, ℕ, suc, true, false, List, [], ◌++◌, map, take, drop, Option, Some, None, refl, sym, ◌∙◌, ap, subst, arith, append_assoc}
use Rattle.std.specs.Prelude.{IsSome, Result, Ok, Err, option_map, slice_get}
use Rattle.std.specs.List.{concat}
use Rattle.std.proofs.lemmas.List.{append-nil, append_cancel_left, take-append-drop, take-map}
use Rattle.std.proofs.lemmas.Bool.{eq-eqb}
use Rattle.std.proofs.lemmas.Option.{slice_get-map}
use Rattle.std.proofs.lemmas.Grind.{flat_map-append}
use Rattle.sector_disk.specs.declared.machine.Machine.{Ghosts}
use Rattle.sector_disk.specs.Calls.{Counts, IsHeld, IsTimed, Since, StopsOnly}
use Rattle.sector_disk.specs.Image.{AreShort, open_damage}
use Rattle.sector_disk.specs.Machine.{LeavesOnly, Moment, Rose, Utters, Wears}
use Rattle.sector_disk.proofs.Moments.{leaves_more, then_on}
use Rattle.fsd_bytes.specs.declared.key.Key.{Key}
use Rattle.fsd_bytes.specs.declared.key.Serial.{Serial}
use Rattle.fsd_bytes.specs.declared.refusal.Refusal.TheVariants as Why
use Rattle.fsd_files.specs.Scrub.{all_data}
use Rattle.fsd_log.specs.Scan.{Placed}
use Rattle.fsd_sound.specs.Mounted.{Mounted}
use Rattle.fsd_texts.specs.declared.fault.Fault.{Fault}
use Rattle.fsd_texts.specs.declared.fault.Fault.TheVariants as Ends
use Rattle.fsd_texts.specs.Text.{fault_text}
use Rattle.fsd_runs.specs.declared.request.Request.TheVariants.{Dump}
use Rattle.fsd_runs.specs.declared.span.Span.{Span}
use Rattle.fsd_runs.specs.Dumps.{AreWhole, chosen, dump_of}
use Rattle.fsd_runs.specs.Errands.{BySector, Damages, Turn, cut_off, damage_turn, dumping, fault_status, said_turn}
use Rattle.fsd_runs.specs.Leaves.{IsBrokenOff, IsUnsaid, SaysFault}
use Rattle.fsd_runs.specs.Runs.{IsDumpedSo, said_in}
use Rattle.volume_contract.specs.State.{State, Ages, Known, Stands, forced_of, volume_of}
use Rattle.volume_dump.specs.Dump.{BreaksOff, EndsDump, FindsDamages, HasDumped, IsBegun, IsCutOff, LeavesDumped, ReadsAndSays, SaysSome, device_in_dump, is_unsaid_dump}
use Rattle.volume_dump.specs.declared.fault.DumpFault.{DumpFault}
use Rattle.volume_dump.specs.declared.fault.DumpFault.TheVariants as Faults
use Rattle.volume_turns.specs.declared.turns.Halt.TheVariants.{Fault as Stopped}
use Rattle.volume_turns.specs.Dumping.{EndsBehind, SaysAtEnd, damages_text}
use Rattle.volume_turns.specs.Turns.{EndsAtOnce, FaultTold, InRun, OnDisk, SaysAll, Undone}
use Rattle.volume_turns.specs.Whole.{Halted, SaysOut, UnderWay}
use Rattle.volume_turns.proofs.CountLaws.{told_more}
use Rattle.volume_turns.proofs.DumpEndLaws.{a_fault}
use Rattle.volume_turns.proofs.DumpAskedLaws.{DumpsAs, plain_parts, wears_run}
use Rattle.volume_turns.proofs.DumpLaws.{Rooted, held_said, plain_done, plain_stops, unsaid_as, whole_before}
use Rattle.volume_turns.proofs.HaltLaws.{broken_ends, broken_moments}
use Rattle.volume_turns.proofs.LineLaws.{at_once_ends}
use Rattle.fsd_runs.proofs.RunLaws.{said_parts}
use Rattle.volume_turns.proofs.RunLaws.{picks_earlier}
use Rattle.volume_turns.proofs.PlainLaws.{ArePlain, plain_halts, plain_map, plain_take}
use Rattle.volume_turns.proofs.SayLaws.{KeepsSynced}
use Rattle.volume_turns.proofs.UtterLaws.{says_both, utters_behind, utters_by, wears_say}
use Rattle.volume_dump.proofs.TextLaws.{utters_more}

-- ---- the turns of a dump

pub said_first : (n : ℕ) (parts : List (List ℕ)) → said_in (take n (map said_turn parts)) ≡ concat (take n parts)
said_first n parts = ap (λ (ts : List Turn). said_in ts) (take-map said_turn n parts) ∙ said_parts (take n parts)

more_parts : (n : ℕ) (parts : List (List ℕ)) → said_in (map said_turn parts) ≡ concat (take n parts) ++ said_in (drop n (map said_turn parts))
more_parts n parts =
    ap (λ (ts : List Turn). said_in ts) (sym (take-append-drop n (map said_turn parts))) ∙ flat_map-append (λ (t : Turn). t.said) (take n (map said_turn parts)) (drop n (map said_turn parts))
    ∙ ap (λ (x : List ℕ). x ++ said_in (drop n (map said_turn parts))) (said_first n parts)

next_part : (n : ℕ) (parts : List (List ℕ)) → IsSome (slice_get parts n) → IsSome (slice_get (map said_turn parts) n)
next_part n parts some = subst (λ o. IsSome o) (sym (slice_get-map said_turn parts n)) (mapped (slice_get parts n) some)
  where
    mapped : (o : Option (List ℕ)) → IsSome o → IsSome (option_map said_turn o)
    mapped (Some part) is = refl
    mapped None is = absurd (cc is)

-- ---- the moments of a dump

-- what was said at one is a beginning of what is said at the exit
utters_begun : (front : List ℕ) (old left new : Moment) → new.said ≡ old.said ++ front → SaysSome old left → IsBegun left.said new.said → Utters front old left
utters_begun front old left new said some begun =
    let u = some.1 in
    let part = take u.heard some.0 in
    utters_by front part begun.0 old left (append_cancel_left old.said front (part ++ begun.0) (sym said ∙ begun.1 ∙ ap (λ (x : List ℕ). x ++ begun.0) u.said ∙ append_assoc old.said part begun.0)) (record { image = u.image; windows = u.windows }) u.said

module _ {S D : Type 0} (state : S → State) (has : S → Mounted → List Placed → Type 0) (M : Ghosts D) (w : S) (span : Span) (fault : Option ℕ) (m d : D) (disk : ReadsAndSays M fault false (LeavesDumped state has w span) m d) (honest : M.honest d) (front : List ℕ) (said : (M.now d).said ≡ (M.now m).said ++ front) where
  each_both : LeavesOnly M.moment M.left_since m d (λ c. SaysSome (M.now m) c × IsBegun c.said (M.now d).said)
  each_both =
      let some = disk.any_moment honest in
      let first = disk.said_first refl honest in
      record {
        later = some.later;
        each = λ c left. ((some.each c left).0, first.each c left);
        before = λ t c le left. elim (some.before t c le left) [ inl old ↦ inl old | inr x ↦ elim (first.before t c le left) [ inl old ↦ inl old | inr y ↦ inr ((x.0.0, y.0), x.1) ] ];
      }

  pub dump_run : LeavesOnly M.moment M.left_since m d (Utters front (M.now m))
  dump_run = leaves_more M.moment M.left_since m d (λ c. SaysSome (M.now m) c × IsBegun c.said (M.now d).said) (Utters front (M.now m)) (λ c x. utters_begun front (M.now m) c (M.now d) said x.0 x.1) each_both

  pub dump_says : SaysAll front (M.now m) (M.now d)
  dump_says = let u = (disk.exit honest).0.1 in record { ages = record { image = u.image; windows = u.windows }; said = said }

-- ---- by how it ends

module _ {S D : Type 0} (state : S → State) (has : S → Mounted → List Placed → Type 0) (M : Ghosts D) (k : Known) (v : S) (a m : D)
    (wears : (old new : Moment) → AreShort old.windows → Ages old new → Stands state has v k old → Stands state has v k new) (stands : Stands state has v k (M.now a)) (on : OnDisk M k (forced_of k) a) (short : (x : D) → M.honest x → AreShort (M.now x).windows) (timed : (x : D) → M.honest x → IsTimed M x)
    (reads : KeepsSynced M a m) (back : M.honest m) (none : (volume_of k).unforced ≡ 0) (roots : IsHeld M m (Rooted k)) (told : FaultTold {T = Unit {0}} (M.report a) (M.report m) (Ok tt)) (since : Serial) (most : Option ℕ) (span : Span) (w : S) (there : Stands state has w k (M.now m)) where
  -- the run has gone so
  abbrev Out : (b : D) → (status : ℕ) → Type 0
  Out b status = DumpsAs M since most (M.report a) k a b (Ok span) status

  abbrev parts : List (List ℕ)
  parts = dump_of span (volume_of k)

  abbrev turns : List Turn
  turns = map said_turn parts

  worn : Wears (M.now a) (M.now m)
  worn = reads.worn back

  whole_a : AreWhole (M.now m).image (chosen span (volume_of k).entries) → AreWhole (M.now a).image (chosen span (volume_of k).entries)
  whole_a whole = whole_before (open_damage (M.now a).windows) (M.now a).image (M.now m).image worn.image (all_data (chosen span (volume_of k).entries)) whole

  said_a : (front said : List ℕ) → said ≡ (M.now m).said ++ front → said ≡ (M.now a).said ++ front
  said_a front said is = is ∙ ap (λ (x : List ℕ). x ++ front) worn.said

  stops_at : (b : D) → M.honest b → Since M m b → (bytes : List ℕ) → LeavesOnly M.moment M.left_since m b (Utters bytes (M.now m)) → (ts : List Turn) → ArePlain ts → (more : List ℕ) → said_in ts ≡ bytes ++ more → StopsOnly M a b (InRun k (forced_of k) ts (M.now a))
  stops_at b honest later bytes run ts plain more is = plain_stops state has M k v a m wears stands on short timed reads back none roots b honest later bytes run ts plain more is

  -- where the machine is as the dump has left it
  module _ (fault : Option ℕ) (d : D) (disk : ReadsAndSays M fault false (LeavesDumped state has w span) m d) (honest : M.honest d) where
    run_to : (front : List ℕ) → (M.now d).said ≡ (M.now m).said ++ front → LeavesOnly M.moment M.left_since m d (Utters front (M.now m))
    run_to front said = dump_run state has M w span fault m d disk honest front said

    passed_d : M.left_since d (M.moment a) (M.now d)
    passed_d = let at_d = timed d honest in at_d.history.sooner (M.moment a) (M.moment d) (M.now d) (let x = (reads.any_moment back).later in let y = (disk.any_moment honest).later in omega (arith, x, y)) at_d.here

    whole_out : (count : ℕ) → HasDumped span (volume_of k) (M.now m) (M.now d) count → Out d 0
    whole_out count has_all =
        let is : said_in turns ≡ concat parts = said_parts parts in
        let run = run_to (concat parts) has_all.said in
        record {
          cut = None;
          may = tt;
          cause = λ input rest. tt;
          finishes = record {
            mets = [];
            ahead = tt;
            goes = λ t le. tt;
            moments = stops_at d honest (disk.since honest) (concat parts) run turns (plain_parts parts) [] (is ∙ sym (append-nil (concat parts)));
            ends = inl (record {
              through = refl;
              gives = refl;
              done = plain_done state has M k v a m wears stands on short timed reads back none roots d honest (disk.since honest) (concat parts) run turns (plain_parts parts) is (dump_says state has M w span fault m d disk honest (concat parts) has_all.said);
            });
          };
          so = λ c more passed said. whole_a has_all.whole;
        }

    sector_out : (s : ℕ) → IsCutOff span (volume_of k) (M.now m) (M.now d) s → Out d 8
    sector_out s (whole, x) =
        let front = take (suc x.count) turns in
        let bytes = concat (take (suc x.count) parts) in
        let is : said_in front ≡ bytes = said_first (suc x.count) parts in
        let run = run_to bytes x.said in
        record {
          cut = Some (BySector x.count s);
          may = tt;
          cause = λ input rest. tt;
          finishes = record {
            mets = [];
            ahead = tt;
            goes = λ t le. tt;
            moments = stops_at d honest (disk.since honest) bytes run front (plain_take (suc x.count) turns (plain_parts parts)) [] (is ∙ sym (append-nil bytes));
            ends = inl (record {
              through = refl;
              gives = refl;
              done = plain_done state has M k v a m wears stands on short timed reads back none roots d honest (disk.since honest) bytes run front (plain_take (suc x.count) turns (plain_parts parts)) is (dump_says state has M w span fault m d disk honest bytes x.said);
            });
          };
          so = (whole_a whole, ((M.now d).image, record { moment = M.now d; passed = passed_d; image = refl; so_far = said_a bytes (M.now d).said x.said }, x.spoilt));
        }

  -- where the output has failed
  module _ (fault : Option ℕ) (d : D) (disk : ReadsAndSays M fault true (LeavesDumped state has w span) m d) (honest : M.honest d) where
    unsaid_run : LeavesOnly M.moment M.left_since m d (Utters (concat parts) (M.now m))
    unsaid_run = leaves_more M.moment M.left_since m d (LeavesDumped state has w span (M.now m)) (Utters (concat parts) (M.now m)) (λ c x. x.1 k there) (disk.any_moment honest)

    unsaid_out : AreWhole (M.now m).image (chosen span (volume_of k).entries) → Out d 6
    unsaid_out whole = record {
      cut = None;
      may = tt;
      cause = λ input rest. tt;
      finishes = record {
        mets = [];
        ahead = tt;
        goes = λ t le. tt;
        moments = stops_at d honest (disk.since honest) (concat parts) unsaid_run turns (plain_parts parts) [] (said_parts parts ∙ sym (append-nil (concat parts)));
        ends = inr (inl (record { ends = refl; rose = subst (λ (n : ℕ). Rose n (M.report d).output_faults) told.output disk.output }));
      };
      so = λ c more passed said. whole_a whole;
    }

  -- where a text is said behind it
  module _ (fault : Option ℕ) (d b : D) (disk : ReadsAndSays M fault false (LeavesDumped state has w span) m d) (bytes : List ℕ) (gives status : ℕ) (end : SaysAtEnd M bytes gives d b status) (honest : M.honest b) where
    honest_d : M.honest d
    honest_d = end.says.trust.honest honest

    since_b : Since M m b
    since_b t c le left = end.says.since honest t c (let x = (disk.any_moment honest_d).later in omega (arith, le, x)) (disk.since honest_d t c le left)

    run_behind : (front : List ℕ) → (M.now d).said ≡ (M.now m).said ++ front → LeavesOnly M.moment M.left_since m b (Utters (front ++ bytes) (M.now m))
    run_behind front said = then_on M.moment M.left_since m d b (Utters (front ++ bytes) (M.now m))
        (leaves_more M.moment M.left_since m d (Utters front (M.now m)) (Utters (front ++ bytes) (M.now m)) (λ c u. utters_more front bytes (M.now m) c u) (run_to fault d disk honest_d front said))
        (leaves_more M.moment M.left_since d b (Utters bytes (M.now d)) (Utters (front ++ bytes) (M.now m)) (λ c u. utters_behind front bytes (M.now m) (M.now d) c (dump_says state has M w span fault m d disk honest_d front said) u) (end.says.any_moment honest))

    quiet_d : (M.now d).said ≡ (M.now m).said → (M.now d).said ≡ (M.now m).said ++ []
    quiet_d same = same ∙ sym (append-nil (M.now m).said)

    rose_b : status ≡ 6 → IsUnsaid (M.report a) (M.report b) status
    rose_b six =
        let rose : Rose (M.report d).output_faults (M.report b).output_faults = subst (λ (x : Bool). Counts x (M.report d).output_faults (M.report b).output_faults) (eq-eqb status 6 six) end.says.spares.output in
        record { ends = six; rose = subst (λ (n : ℕ). Rose n (M.report b).output_faults) (disk.output ∙ told.output) rose }

    pub found_out : (found : List (Key × ℕ)) → gives ≡ 8 → bytes ≡ damages_text found → FindsDamages span (volume_of k) (M.now m) (M.now d) found → Out b status
    found_out found eight is x =
        let run = run_behind [] (quiet_d x.quiet) in
        record {
          cut = Some (Damages found);
          may = tt;
          cause = λ input rest. tt;
          finishes = record {
            mets = [];
            ahead = tt;
            goes = λ t le. tt;
            moments = stops_at b honest since_b bytes run (map damage_turn found) (plain_map damage_turn (λ y. refl) found) [] (sym is ∙ sym (append-nil bytes));
            ends = by (end.ends honest) run;
          };
          so = (
            x.some,
            (
              (M.now d).image,
              record { moment = M.now d; passed = end.says.since honest (M.moment a) (M.now d) (let first = (reads.any_moment back).later in let then = (disk.any_moment honest_d).later in omega (arith, first, then)) (passed_d fault d disk honest_d); image = refl; so_far = x.quiet ∙ worn.said },
              picks_earlier (open_damage (M.now a).windows) (M.now a).image (M.now m).image (M.now d).image worn.image (all_data (chosen span (volume_of k).entries)) found x.finds,
            ),
          );
        }
      where
        by : (status ≡ 6) ⊎ ((status ≡ gives) × SaysAll bytes (M.now d) (M.now b)) → LeavesOnly M.moment M.left_since m b (Utters bytes (M.now m))
            → SaysOut M (cut_off (Some (Damages found)) (dumping (Ok span) (volume_of k))) k [] a b status ⊎ (IsUnsaid (M.report a) (M.report b) status ⊎ IsBrokenOff (Dump since most) (Undone k (forced_of k) (map damage_turn found)) (UnderWay M k (map damage_turn found) b) (M.report a) (M.report b) (map damage_turn found) (M.now a) (M.now b) status)
        by (inl six) run = inr (inl (rose_b six))
        by (inr (given, all)) run = inl (record {
          through = refl;
          gives = given ∙ eight;
          done = plain_done state has M k v a m wears stands on short timed reads back none roots b honest since_b bytes run (map damage_turn found) (plain_map damage_turn (λ y. refl) found) (sym is)
              (says_both [] bytes (M.now m) (M.now d) (M.now b) (dump_says state has M w span fault m d disk honest_d [] (quiet_d x.quiet)) all);
        })

  -- where a fault from outside ends it
  module _ (fault : Option ℕ) (d b : D) (disk : ReadsAndSays M fault false (LeavesDumped state has w span) m d) (why : Fault) (once : EndsAtOnce why) (counted : FaultTold {T = Unit {0}} (M.report m) (M.report d) (Err (Stopped why))) (status : ℕ) (end : SaysAtEnd M (fault_text why) (fault_status why) d b status) (honest : M.honest b) where
    honest_at : M.honest d
    honest_at = end.says.trust.honest honest

    -- behind so many parts
    module _ (n : ℕ) (more : IsSome (slice_get parts n)) (said : (M.now d).said ≡ (M.now m).said ++ concat (take n parts)) where
      part_run : LeavesOnly M.moment M.left_since m d (Utters (concat (take n parts)) (M.now m))
      part_run = run_to fault d disk honest_at (concat (take n parts)) said

      part_stops : StopsOnly M a d (InRun k (forced_of k) turns (M.now a))
      part_stops = stops_at d honest_at (disk.since honest_at) (concat (take n parts)) part_run turns (plain_parts parts) (said_in (drop n turns)) (more_parts n parts)

      windows_d : (M.now d).windows ≡ (M.now a).windows
      windows_d = (disk.exit honest_at).0.1.windows ∙ worn.windows

      halted : Halted M k why turns a d
      halted = plain_halts k none turns (plain_parts parts) M why once a d (timed d honest_at) windows_d n (next_part n parts more) (said_a (concat (take n parts)) (M.now d).said said ∙ ap (λ (x : List ℕ). (M.now a).said ++ x) (sym (said_first n parts)))
          (held_said state has M k v a m wears stands on short timed reads back none roots d honest_at (disk.since honest_at) (concat (take n parts)) part_run)

      told_d : FaultTold {T = Unit {0}} (M.report a) (M.report d) (Err (Stopped why))
      told_d = told_more (M.report a) (M.report m) (M.report d) tt (Err (Stopped why)) told counted

      broken_out : IsDumpedSo (Ok span) None (M.left_since b (M.moment a)) (M.now a).said (volume_of k) (M.now a).image → Out b status
      broken_out so = record {
        cut = None;
        may = tt;
        cause = λ input rest. tt;
        finishes = record {
          mets = [];
          ahead = tt;
          goes = λ t le. tt;
          moments = broken_moments M (Dump since most) (M.report a) k turns a d b part_stops why halted (short d honest_at) stands.ends (timed d honest_at) (timed b honest) once told_d status end.says honest (end.ends honest);
          ends = inr (broken_ends M (Dump since most) (M.report a) k turns a d b part_stops why halted (short d honest_at) stands.ends (timed d honest_at) (timed b honest) once told_d status end.says honest (end.ends honest));
        };
        so = so;
      }

    quiet_at : (M.now d).said ≡ (M.now m).said → (M.now d).said ≡ (M.now m).said ++ []
    quiet_at same = same ∙ sym (append-nil (M.now m).said)

    -- the moments of the whole run, where nothing of the dump is said
    fault_run : (M.now d).said ≡ (M.now m).said → LeavesOnly M.moment M.left_since a b (Utters (fault_text why) (M.now a))
    fault_run same = then_on M.moment M.left_since a m b (Utters (fault_text why) (M.now a))
        (wears_run M a m reads back (fault_text why))
        (leaves_more M.moment M.left_since m b (Utters (fault_text why) (M.now m)) (Utters (fault_text why) (M.now a)) (λ c u. utters_behind [] (fault_text why) (M.now a) (M.now m) c (wears_say (M.now a) (M.now m) worn) u)
        (run_behind fault d b disk (fault_text why) (fault_status why) status end honest [] (quiet_at same)))

    only_fault : (M.now d).said ≡ (M.now m).said → (c : Moment) → M.left_since b (M.moment a) c → (part : List ℕ) × SaysFault part × (c.said ≡ (M.now a).said ++ part)
    only_fault same c left = let u = (fault_run same).each c left in (take u.heard (fault_text why), (why, u.heard, at_once_ends why once, refl), u.said)

    fault_out : BreaksOff span (volume_of k) (M.now m) (M.now d) → Out b status
    fault_out (inl same) = broken_out 0 refl (quiet_at same) (unsaid_as (Ok span) (M.left_since b (M.moment a)) (M.now a).said (volume_of k) (M.now a).image (only_fault same))
    fault_out (inr (whole, x)) = broken_out x.count x.more x.said (λ c more passed said. whole_a whole)

  -- however it ends
  module _ (d b : D) (status : ℕ) (honest : M.honest b) where
    at_d : b ≡ d → M.honest d
    at_d same = subst (λ (x : D). M.honest x) same honest

    ended_at : (n : ℕ) → b ≡ d → status ≡ n → Out d n → Out b status
    ended_at n same is out = subst (λ (i : ℕ). Out b i) (sym is) (subst (λ (x : D). Out x n) (sym same) out)

    pub dump_out : (r : Result ℕ DumpFault) → ReadsAndSays M (device_in_dump r) (is_unsaid_dump r) (LeavesDumped state has w span) m d → (M.honest d → EndsDump span (volume_of k) (M.now m) (M.now d) r) → EndsBehind M r d b status → Out b status
    dump_out (Ok count) disk done end = ended_at 0 end.0 end.1 (whole_out None d disk (at_d end.0) count (done (at_d end.0)))
    dump_out (Err (Faults.Cut s)) disk done end = ended_at 8 end.0 end.1 (sector_out None d disk (at_d end.0) s (done (at_d end.0)))
    dump_out (Err Faults.Output) disk done end = ended_at 6 end.0 end.1 (unsaid_out None d disk (at_d end.0) (done (at_d end.0)))
    dump_out (Err (Faults.Found found)) disk done end = found_out None d b disk (damages_text found.items) 8 status end honest found.items refl refl (done (end.says.trust.honest honest))
    dump_out (Err Faults.Memory) disk done end = fault_out None d b disk Ends.Memory tt (a_fault M (LeavesDumped state has w span) m d Ends.Memory disk) status end honest (done (end.says.trust.honest honest))
    dump_out (Err (Faults.Refused (Why.Device s))) disk done end = fault_out (Some s) d b disk (Ends.Device s) tt (a_fault M (LeavesDumped state has w span) m d (Ends.Device s) disk) status end honest (done (end.says.trust.honest honest))
    dump_out (Err (Faults.Refused why)) disk done end = absurd (done (end.says.trust.honest honest))
