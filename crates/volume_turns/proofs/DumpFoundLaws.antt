-- A dump behind the finding of its span, over any machine and over a volume that stands.
use Rattle.std.proofs.Common.{◌≡◌, ◌⊎◌, inl, inr, ℕ, ◌≤◌, List, [], ◌++◌, take, Option, Some, None, refl, sym, ◌∙◌, ap, subst, arith}
use Rattle.std.specs.Prelude.{IfErr, Result, Ok, Err}
use Rattle.std.proofs.lemmas.List.{append-nil}
use Rattle.volume_layout.specs.declared.layout.Layout.{Layout}
use Rattle.sector_disk.specs.declared.machine.Machine.{Ghosts}
use Rattle.sector_disk.specs.Calls.{IsHeld, IsTimed, OnlyReads, Since}
use Rattle.sector_disk.specs.Image.{AreShort}
use Rattle.sector_disk.specs.Machine.{IsSynced, Moment, Trusts, Wears, synced_once}
use Rattle.sector_disk.proofs.CallLaws.{uses_then}
use Rattle.sector_disk.proofs.Holding.{trusts_on, wears_on}
use Rattle.sector_disk.proofs.Moments.{leaves_more, then_on}
use Rattle.fsd_bytes.specs.declared.key.Serial.{Serial}
use Rattle.fsd_bytes.specs.declared.refusal.Refusal.{Refusal}
use Rattle.fsd_bytes.specs.declared.refusal.Refusal.TheVariants as Why
use Rattle.fsd_formats.specs.declared.entry.Entry.{Entry}
use Rattle.fsd_log.specs.Scan.{Placed}
use Rattle.fsd_sound.specs.Mounted.{Mounted}
use Rattle.fsd_texts.specs.declared.fault.Fault.{Fault}
use Rattle.fsd_texts.specs.declared.fault.Fault.TheVariants as Ends
use Rattle.fsd_texts.specs.declared.line.Line.TheVariants as Says
use Rattle.fsd_texts.specs.Text.{text}
use Rattle.fsd_runs.specs.declared.request.Request.TheVariants.{Dump}
use Rattle.fsd_runs.specs.declared.span.Span.{Span}
use Rattle.fsd_runs.specs.Dumps.{span_of}
use Rattle.scrub.specs.Telling.{StandTwice, TellsOn}
use Rattle.volume_contract.specs.Ends.{device_of}
use Rattle.volume_contract.specs.Order.{Comes, IsLookUp, next_steps}
use Rattle.volume_contract.specs.State.{Ages, Known, Stands, State, forced_of, volume_of}
use Rattle.volume_dump.specs.Dump.{LeavesDumped}
use Rattle.volume_dump.specs.Spanning.{EndsSpan, FollowsSpan}
use Rattle.volume_turns.specs.declared.turns.Halt.TheVariants.{Fault as Stopped}
use Rattle.volume_turns.specs.Causes.{Parts}
use Rattle.volume_turns.specs.Dumping.{DumpsAndEnds, DumpsAsked, EndsAsked, EndsFinding, FindsSpan, IsOfSpan, SaysAtEnd, refusal_line, refusal_status}
use Rattle.volume_turns.specs.Running.{EndsMounted, TakesNothing, TellsMounted}
use Rattle.volume_turns.specs.Status.{IsDumpStatus}
use Rattle.volume_turns.specs.Steps.{device_told, ended_by}
use Rattle.volume_turns.specs.Turns.{FaultTold, OnDisk}
use Rattle.volume_turns.specs.Whole.{RunsOut}
use Rattle.volume_turns.proofs.CountLaws.{told_more}
use Rattle.volume_turns.proofs.DumpAskedLaws.{runs_dumped, too_long_out, unbegun_out, wears_run}
use Rattle.volume_turns.proofs.DumpEndLaws.{EndsByFault, EndsByOutput, EndsByText, KeepsEnd, end_counts, end_last, end_says, end_status, end_unspent, ends_of, keeps_end}
use Rattle.volume_turns.proofs.DumpLaws.{Rooted, rooted_said, rooted_synced, stands_synced}
use Rattle.volume_turns.proofs.DumpRunLaws.{dump_out}
use Rattle.volume_turns.proofs.RunLaws.{since_on}
use Rattle.volume_turns.proofs.SayLaws.{KeepsSynced}
use Rattle.volume_turns.proofs.SyncLaws.{one_up_to, syncs_on}

-- ---- what a span is refused for

module _ (s : State) (up : s.down ≡ None) where
  looks : (why : Refusal) → Comes (next_steps s) why → IsLookUp why
  looks why (inl test) = absurd (let down = ap (λ (d : Option ℕ). d) up in cc (test, up))
  looks why (inr (p, inl look)) = look
  looks why (inr (p, inr (q, none))) = absurd none

  looked_for : (why : Refusal) → IsLookUp why → IsOfSpan why
  looked_for (Why.TooLong need) look = tt
  looked_for why look = look

  pub of_span : (most : ℕ) (result : Result Span Refusal) → FollowsSpan s most result → IfErr result IsOfSpan
  of_span most (Ok span) order = tt
  of_span most (Err (Why.TooLong need)) order = tt
  of_span most (Err why) order = looked_for why (looks why order)

pub finding_of : (since : Serial) (most : ℕ) (entries : List Entry) (result : Result Span Refusal) → EndsSpan since most entries result → EndsFinding since (Some most) entries result
finding_of since most entries (Ok span) ends = ends
finding_of since most entries (Err (Why.TooLong need)) ends = ends
finding_of since most entries (Err why) ends = ends

-- ---- a reading behind a sync

module _ {D : Type 0} (M : Ghosts D) (m p : D) where
  pub reads_keep : {fault : Option ℕ} → OnlyReads M fault m p → KeepsSynced M m p
  reads_keep r = record { uses = r.uses; trust = r.trust; worn = r.worn; since = r.since; any_moment = r.any_moment }

  pub reads_told : OnlyReads M None m p → FaultTold {T = Unit {0}} (M.report m) (M.report p) (Ok tt)
  reads_told r = record { sectors = r.uses.sectors; disk = r.faults; input = r.uses.input; later = let same = r.uses.output in omega (arith, same); output = r.uses.output }

  pub reads_failed : (why : Fault) → OnlyReads M (device_told why) m p → FaultTold {T = Unit {0}} (M.report m) (M.report p) (Err (Stopped why))
  reads_failed why r = record { sectors = r.uses.sectors; disk = r.faults; input = r.uses.input; later = let same = r.uses.output in omega (arith, same); output = r.uses.output }

pub keeps_on : {D : Type 0} (M : Ghosts D) (a m p : D) → KeepsSynced M a m → KeepsSynced M m p → KeepsSynced M a p
keeps_on M a m p x y =
    let back = y.trust.honest in
    record {
      uses = uses_then (M.report a) (M.report m) (M.report p) x.uses y.uses;
      trust = trusts_on x.trust y.trust;
      worn = λ h. wears_on (M.now a) (M.now m) (M.now p) (x.worn (back h)) (y.worn h);
      since = since_on M a m p back x.since (λ h. (x.any_moment h).later) y.since;
      any_moment = λ h. then_on M.moment M.left_since a m p (Wears (M.now a)) (x.any_moment (back h))
          (leaves_more M.moment M.left_since m p (Wears (M.now m)) (Wears (M.now a)) (λ c w. wears_on (M.now a) (M.now m) c (x.worn (back h)) w) (y.any_moment h));
    }

-- ---- how the run ends, over any machine

-- All went well up to some point behind the sync; then something was read and said, and the run has ended so.
pub record EndsFrom {D : Type 0} (M : Ghosts D) (l : Layout) (a b : D) (status : ℕ) : Type 0 where
  pub from : D
  pub told : FaultTold {T = Unit {0}} (M.report a) (M.report from) (Ok tt)
  pub mid : D
  pub trust : Trusts (M.tells a) (M.tells mid) (M.honest a) (M.honest mid)
  pub ledger : M.tells mid → M.ledger mid ≡ synced_once (M.ledger a)
  pub since : M.honest mid → Since M a mid
  pub later : M.honest mid → M.moment a ≤ M.moment mid
  pub says : M.honest mid → (front : List ℕ) × ((M.now mid).said ≡ (M.now a).said ++ front)
  pub end : EndsByText M from mid b status ⊎ (EndsByFault M l from mid b status ⊎ EndsByOutput M from mid b status)

module _ {D : Type 0} (M : Ghosts D) (l : Layout) (a b : D) (status : ℕ) (x : EndsFrom M l a b status) where
  keeps : KeepsEnd M x.mid b
  keeps = keeps_end M x.mid b status l x.from x.end

  pub from_ends : EndsMounted M IsDumpStatus a b status
  from_ends = record {
    run = record { status = end_status M l a x.from x.mid b status x.told x.end; trust = trusts_on x.trust keeps.trust; last = end_last M l a x.from x.mid b status x.told x.end };
    since = since_on M a x.mid b keeps.trust.honest x.since x.later keeps.since;
  }

  pub from_takes : TakesNothing M a b status
  from_takes = record {
    ledger = λ t. syncs_on 1 (M.ledger a) (synced_once (M.ledger a)) (M.ledger b) (keeps.ledger t ∙ x.ledger (keeps.trust.tells t)) (one_up_to (M.ledger a));
    counts = end_counts M l a x.from x.mid b status x.told x.end;
  }

  pub from_tells : M.honest b → TellsMounted Parts StandTwice l ⊥ (M.now a) (M.now b) status
  from_tells h = let said = x.says (keeps.trust.honest h) in record { says = end_says M l a x.from x.mid b status x.told x.end said.0 said.1 h; spent = end_unspent M l a x.from x.mid b status x.told x.end }

module _ {S D : Type 0} (state : S → State) (has : S → Mounted → List Placed → Type 0) (M : Ghosts D) (since : Serial) (most : Option ℕ) (v : S) (up : (state v).down ≡ None) (only : (y : D) (c : Moment) → M.honest y → M.left_since y (M.moment y) c → c ≡ M.now y) (a m b : D) (status : ℕ)
    (told : FaultTold {T = Unit {0}} (M.report a) (M.report m) (Ok tt)) (reads : KeepsSynced M a m) where
  -- behind a dump
  module _ (span : Span) (w : S) (p : D) (finds : FindsSpan state has M since most v w m p (Ok span)) (y : DumpsAndEnds state has M span w p b status) where
    reads_p : KeepsSynced M a p
    reads_p = keeps_on M a m p reads (reads_keep M m p finds.reads.disk)

    told_p : FaultTold {T = Unit {0}} (M.report a) (M.report p) (Ok tt)
    told_p = told_more (M.report a) (M.report m) (M.report p) tt (Ok tt) told (reads_told M m p finds.reads.disk)

    ended : EndsByText M p y.mid b status ⊎ (EndsByFault M (state w).layout p y.mid b status ⊎ EndsByOutput M p y.mid b status)
    ended = ends_of M (state w) (ap (λ (s : State). s.down) finds.reads.same ∙ up) only (LeavesDumped state has w span) p y.mid b status y.result y.order y.disk y.tells y.ends

    kept : KeepsEnd M y.mid b
    kept = keeps_end M y.mid b status (state w).layout p ended

    from_dump : (M.tells m → M.ledger m ≡ synced_once (M.ledger a)) → EndsFrom M (state v).layout a b status
    from_dump ledger = subst (λ (s : State). EndsFrom M s.layout a b status) finds.reads.same (record {
      from = p;
      told = told_p;
      mid = y.mid;
      trust = trusts_on reads_p.trust y.disk.trust;
      ledger = λ t. let at_p = y.disk.trust.tells t in y.disk.ledger t ∙ finds.reads.disk.ledger at_p ∙ ledger (finds.reads.disk.trust.tells at_p);
      since = since_on M a p y.mid y.disk.trust.honest reads_p.since (λ h. (reads_p.any_moment h).later) y.disk.since;
      later = λ h. let first = (reads_p.any_moment (y.disk.trust.honest h)).later in let then = (y.disk.any_moment h).later in omega (arith, first, then);
      says = λ h. let some = (y.disk.exit h).0 in let front = take some.1.heard some.0 in (front, some.1.said ∙ ap (λ (bytes : List ℕ). bytes ++ front) (reads_p.worn (y.disk.trust.honest h)).said);
      end = ended;
    })

  -- behind a finding that was refused
  module _ (w : S) (p : D) where
    abbrev Ended : Type 0
    Ended = EndsByText M m p b status ⊎ (EndsByFault M (state v).layout m p b status ⊎ EndsByOutput M m p b status)

    ends_unfound : (why : Refusal) → IsOfSpan why → OnlyReads M (device_of why) m p → (M.honest p → TellsOn (state v).layout (M.now p).image why) → SaysAtEnd M (text (refusal_line why (ended_by why))) (refusal_status (ended_by why)) p b status → Ended
    ends_unfound (Why.TooLong need) of disk tells end = inl (record { bytes = text (Says.Refused (Why.TooLong need)); gives = 1; given = inl (omega arith); counted = reads_told M m p disk; end = end })
    ends_unfound (Why.Device t) of disk tells end = inr (inl (record { why = Ends.Device t; of = tt; unworn = λ nine. omega (arith, nine); counted = reads_failed M m p (Ends.Device t) disk; told = λ h. tt; end = end }))
    ends_unfound (Why.Lost x y) of disk tells end = inr (inl (record { why = Ends.Lost x y; of = tt; unworn = λ nine. omega (arith, nine); counted = reads_failed M m p (Ends.Lost x y) disk; told = tells; end = end }))
    ends_unfound (Why.Unsound t) of disk tells end = inr (inl (record { why = Ends.Unsound t; of = tt; unworn = λ nine. omega (arith, nine); counted = reads_failed M m p (Ends.Unsound t) disk; told = tells; end = end }))
    ends_unfound Why.Memory of disk tells end = inr (inl (record { why = Ends.Memory; of = tt; unworn = λ nine. omega (arith, nine); counted = reads_failed M m p Ends.Memory disk; told = λ h. tt; end = end }))
    ends_unfound why of disk tells end = absurd of

    from_refused : (why : Refusal) → FindsSpan state has M since most v w m p (Err why) → SaysAtEnd M (text (refusal_line why (ended_by why))) (refusal_status (ended_by why)) p b status → (M.tells m → M.ledger m ≡ synced_once (M.ledger a)) → EndsFrom M (state v).layout a b status
    from_refused why finds end ledger =
        let reads_p = keeps_on M a m p reads (reads_keep M m p finds.reads.disk) in
        record {
          from = m;
          told = told;
          mid = p;
          trust = reads_p.trust;
          ledger = λ t. finds.reads.disk.ledger t ∙ ledger (finds.reads.disk.trust.tells t);
          since = reads_p.since;
          later = λ h. (reads_p.any_moment h).later;
          says = λ h. ([], (reads_p.worn h).said ∙ sym (append-nil (M.now a).said));
          end = ends_unfound why finds.refusal finds.reads.disk finds.tells end;
        }

  pub from_asked : DumpsAsked state has M since most v m b status → (M.tells m → M.ledger m ≡ synced_once (M.ledger a)) → EndsFrom M (state v).layout a b status
  from_asked x ledger = by x.result x.finds x.ends
    where
      by : (r : Result Span Refusal) → FindsSpan state has M since most v x.after m x.mid r → EndsAsked state has M x.after r x.mid b status → EndsFrom M (state v).layout a b status
      by (Ok span) finds ends = from_dump span x.after x.mid finds ends ledger
      by (Err why) finds ends = from_refused x.after x.mid why finds ends ledger

  -- ---- over a volume that stands

  module _ (k : Known) (wears : (old new : Moment) → AreShort old.windows → Ages old new → Stands state has v k old → Stands state has v k new) (stands : Stands state has v k (M.now a)) (on : OnDisk M k (forced_of k) a) (short : (x : D) → M.honest x → AreShort (M.now x).windows) (timed : (x : D) → M.honest x → IsTimed M x)
      (synced : M.honest m → IsSynced (M.now m)) (none : (volume_of k).unforced ≡ 0) (input rest : List ℕ) where
    abbrev Out : Type 0
    Out = RunsOut M (Dump since most) input rest (M.report a) k a b status

    -- at a point behind the sync that only readings have come to
    module _ (p : D) {fault : Option ℕ} (read : OnlyReads M fault m p) (here : M.honest p) where
      back : M.honest m
      back = read.trust.honest here

      stood : Stands state has v k (M.now m)
      stood = stands_synced state has M k v a m wears stands on short timed reads back

      reads_to : KeepsSynced M a p
      reads_to = keeps_on M a m p reads (reads_keep M m p read)

      roots : IsHeld M p (Rooted k)
      roots = rooted_said state has M k v a m wears stands on short timed reads back (rooted_synced state has M k v a m wears stands on short timed reads back (synced back)) p here (read.since here) [] (wears_run M m p (reads_keep M m p read) here [])

    out_dumped : (span : Span) (w : S) (p : D) (finds : FindsSpan state has M since most v w m p (Ok span)) (y : DumpsAndEnds state has M span w p b status) → M.honest b → Out
    out_dumped span w p finds y honest =
        let at_d = (kept span w p finds y).trust.honest honest in
        let at_p = y.disk.trust.honest at_d in
        let there : Stands state has w k (M.now p) = finds.reads.stands at_p k (stood p finds.reads.disk at_p) in
        runs_dumped M since most (M.report a) k a b input rest status (Ok span) (finds.done at_p k (stood p finds.reads.disk at_p))
        (dump_out state has M k v a p wears stands on short timed (reads_to p finds.reads.disk at_p) at_p none (roots p finds.reads.disk at_p) (told_p span w p finds y) since most span w there y.mid b status honest y.result y.disk (λ h. y.done h k there) y.ends)

    out_refused : (w : S) (p : D) (why : Refusal) → EndsFinding since most (volume_of k).entries (Err why) → (read : OnlyReads M (device_of why) m p) → M.honest p → SaysAtEnd M (text (refusal_line why (ended_by why))) (refusal_status (ended_by why)) p b status → M.honest b → Out
    out_refused w p (Why.TooLong need) is read at_p end honest =
        runs_dumped M since most (M.report a) k a b input rest status (Err need) is
        (too_long_out state has M k v a p wears stands on short timed (reads_to p read at_p) at_p none since most b status (roots p read at_p) (read.uses.output ∙ told.output) need end honest)
    out_refused w p (Why.Device t) is read at_p end honest =
        runs_dumped M since most (M.report a) k a b input rest status (span_of since most (volume_of k).entries) refl
        (unbegun_out state has M k v a p wears stands on short timed (reads_to p read at_p) at_p none since most b status (Ends.Device t) tt (told_more (M.report a) (M.report m) (M.report p) tt (Err (Stopped (Ends.Device t))) told (reads_failed M m p (Ends.Device t) read)) end.says honest (end.ends honest) (span_of since most (volume_of k).entries))
    out_refused w p Why.Memory is read at_p end honest =
        runs_dumped M since most (M.report a) k a b input rest status (span_of since most (volume_of k).entries) refl
        (unbegun_out state has M k v a p wears stands on short timed (reads_to p read at_p) at_p none since most b status Ends.Memory tt (told_more (M.report a) (M.report m) (M.report p) tt (Err (Stopped Ends.Memory)) told (reads_failed M m p Ends.Memory read)) end.says honest (end.ends honest) (span_of since most (volume_of k).entries))
    out_refused w p why is read at_p end honest = absurd is

    pub asked_out : DumpsAsked state has M since most v m b status → M.honest b → Out
    asked_out x honest = by x.result x.finds x.ends
      where
        by : (r : Result Span Refusal) → FindsSpan state has M since most v x.after m x.mid r → EndsAsked state has M x.after r x.mid b status → Out
        by (Ok span) finds ends = out_dumped span x.after x.mid finds ends honest
        by (Err why) finds ends = let at_p = ends.says.trust.honest honest in out_refused x.after x.mid why (finds.done at_p k (stood x.mid finds.reads.disk at_p)) finds.reads.disk at_p ends honest
