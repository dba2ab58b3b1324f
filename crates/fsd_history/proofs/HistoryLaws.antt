-- Runs one after another are told by files alone.
use Rattle.std.proofs.Common.{◌≡◌, ◌⊎◌, inl, inr, ⊎_elim, ℕ, suc, ◌+◌, ◌-◌, ◌≤◌, List, [], ◌∷◌, ◌++◌, length, take, Option, Some, None, Result, Ok, Err, refl, sym, ap, subst, ◌∙◌, arith}
use Rattle.std.specs.Prelude.{IsSome, nat_le, ◌^◌, slice_get}
use Rattle.std.specs.List.{concat, fold}
use Rattle.std.proofs.lemmas.List.{append-nil, length-append, length-take-le, take_all}
use Rattle.std.proofs.lemmas.List.Sums.{fold-append}
use Rattle.std.proofs.Math.Seq.{take-append-add, take-nil}
use Rattle.fsd_bytes.specs.Names.{is_between}
use Rattle.volume_layout.specs.declared.kind.Kind.{Kind}
use Rattle.volume_layout.specs.declared.layout.Layout.{Layout}
use Rattle.volume_layout.specs.declared.fault.LayoutFault.{LayoutFault}
use Rattle.volume_layout.specs.Layout.{IsPlanned, least_for, may_grow_to, plan_most}
use Rattle.volume_layout.proofs.RootLaws.{ok_if}
use Rattle.sector_disk.specs.declared.machine.Machine.{Ghosts}
use Rattle.sector_disk.specs.declared.sector.WeakRun.{WeakRun}
use Rattle.sector_disk.specs.Calls.{IsHeld, StopsOnly, stops}
use Rattle.sector_disk.specs.Image.{Windows}
use Rattle.sector_disk.specs.Machine.{Moment}
use Rattle.sector_disk.proofs.Wear.{worn_refl}
use Rattle.fsd_files.specs.Disk.{Image, Sectors, in_runs}
use Rattle.fsd_files.specs.Desk.{Session}
use Rattle.fsd_files.specs.Files.{Change, Files, after, step}
use Rattle.fsd_files.specs.Kept.{Describes}
use Rattle.fsd_files.specs.Volume.{Volume}
use Rattle.fsd_table.specs.Table.{Telling}
use Rattle.fsd_sound.specs.Shown.{told}
use Rattle.fsd_sound.specs.Sound.{EndIn, IsPrefixOf, IsSaid, IsSound, weak_of}
use Rattle.fsd_sound.specs.Sound.{Tells as TellsAt}
use Rattle.fsd_sound.proofs.SoundLaws.{sound_still}
use Rattle.fsd_sound.proofs.BesideLaws.{said_sound}
use Rattle.fsd_sound.proofs.WindowLaws.{borne_narrow, last_snoc, open_is_weak}
use Rattle.fsd_texts.specs.declared.fault.Fault.{Fault}
use Rattle.fsd_texts.specs.declared.fault.Fault.TheVariants as Ended
use Rattle.fsd_texts.specs.declared.script_command.ScriptCommand.{ScriptCommand}
use Rattle.fsd_texts.specs.Text.{fault_text}
use Rattle.fsd_runs.specs.declared.request.Request.{Request}
use Rattle.fsd_runs.specs.declared.request.Request.TheVariants as Asks
use Rattle.fsd_runs.specs.declared.span.Span.{Span}
use Rattle.fsd_runs.specs.Dumps.{dump_of, span_of}
use Rattle.fsd_runs.specs.Errands.{Answered, ByFault, ByRefusal, BySector, Cut, Damages, Errand, IfMounts, Turn, blank, fault_status}
use Rattle.fsd_runs.specs.Leaves.{IsBrokenOff, IsOutside, IsReplied, IsSoundAsSaid, IsSpent, IsUnderWay, IsUndone, IsUnsaid, Left, LeftBefore, LeftByTurns, LeavesMounted, LeavesUnmounted, SaysNext, Unbegun, Whatever}
use Rattle.fsd_runs.specs.Runs.{Goes, GoesSo, IsCutAt, IsDumpedSo, IsThrough, Starts, StoodAt, answered, changes_in, errand_in, run_end, run_status, run_turns, said_in}
use Rattle.fsd_runs.specs.Sessions.{Meeting, answer_in, session_over}
use Rattle.fsd_runs.proofs.LeaveLaws.{replied_held}
use Rattle.cfs_program.specs.Formatting.{HoldsVolume, IsMadeBy}
use Rattle.cfs_program.specs.Opening.{IsSoundDisk}
use Rattle.cfs_program.specs.Program.{Ran, input_for}
use Rattle.cfs_program.proofs.OpeningLaws.{said_disk}
use Rattle.fsd_history.specs.History.{AreLives, DumpsSo, GoesOnAt, HasShown, IsDone, IsFresh, IsLeft, IsLife, IsOver, IsSame, IsUnread, Life, Meets, Mounts, Plays, PlaysSo, Tells, TellsSo}

-- ---- prefixes

prefix_some : (l : Layout) (hurt : Sectors) (i : Image) (h : List Change) (f : ℕ) (o : Option Telling) → TellsAt l hurt i h f o → f ≤ length h
prefix_some l hurt i h f None tells = absurd tells
prefix_some l hurt i h f (Some t) (n, prefix, describes) = let forced = prefix.forced in let made = prefix.made in omega (arith, forced, made)

sound_some : (l : Layout) (windows : List WeakRun) (h : List Change) (f : ℕ) (i : Image) → IsSound l windows h f i → f ≤ length h
sound_some l windows h f i sound = prefix_some l (in_runs windows) i h f (told l i) (sound.tells i (worn_refl (weak_of windows) i))

-- behind n changes so many more
more_taken : (n e k : ℕ) (h cs : List Change) → n ≤ length h → k ≡ n + e → after (take k (take n h ++ cs)) ≡ fold step (after (take n h)) (take e cs)
more_taken n e k h cs few is =
    let long : length (take n h) ≡ n = length-take-le n h few in
    let at : k ≡ length (take n h) + e = omega (arith, is, long) in
    ap (λ (m : ℕ). after (take m (take n h ++ cs))) at
    ∙ ap after (take-append-add (take n h) cs e)
    ∙ fold-append step [] (take n h) (take e cs)

-- ---- what stands between two runs

-- what is left, as it may be mounted
record Standing (h : List Change) (f : ℕ) (now : Moment) : Type 0 where
  layout : Layout
  windows : List WeakRun
  sound : IsSoundDisk layout windows h f now

record Ready {D : Type 0} (M : Ghosts D) (h : List Change) (f : ℕ) (m : D) : Type 0 where
  stands : Standing h f (M.now m)
  held : IsHeld M m (λ c. IsSoundAsSaid stands.layout stands.windows h f (M.now m).image c.image)

left_ready : {D : Type 0} (M : Ghosts D) (h : List Change) (f : ℕ) (left : Moment) (m : D) → Standing h f left → IsLeft M left m → Ready M h f m
left_ready M h f left m s at =
    let sound : IsSound s.layout s.windows h f (M.now m).image =
    sound_still s.layout s.windows (borne_narrow s.layout s.windows s.sound.sound.readable.borne) h f left.image (M.now m).image (open_is_weak left.windows s.windows left.image (M.now m).image s.sound.ends at.image) s.sound.sound in
    record {
      stands = record {
        layout = s.layout;
        windows = s.windows;
        sound = record {
          planned = s.sound.planned;
          ends = record { last = s.sound.ends.last ∙ sym at.present; some = subst (λ (o : Option WeakRun). IsSome o) (sym at.present) s.sound.ends.some };
          sound = sound;
        };
      };
      held = λ c is layout said. subst (λ (x : Moment). IsSound layout s.windows h f x.image) (sym (at.held c is)) (said_sound s.layout s.windows h f (M.now m).image layout said sound);
    }

-- ---- what a run does

mounts_give : (request : Request) (P : Type 0) → Mounts request → IfMounts request P → P
mounts_give (Asks.Put name keep) P mounts p = p
mounts_give (Asks.One command) P mounts p = p
mounts_give Asks.Script P mounts p = p
mounts_give (Asks.Generate seed count) P mounts p = p
mounts_give (Asks.Dump since most) P mounts p = p
mounts_give Asks.Restore P mounts p = p
mounts_give Asks.NoCommand P mounts p = absurd mounts
mounts_give (Asks.BadField cause) P mounts p = absurd mounts
mounts_give (Asks.Format n t k kind q) P mounts p = absurd mounts
mounts_give Asks.Drill P mounts p = absurd mounts

-- an image of some moment of these
abbrev OfPast : (Past : ℕ → Moment → Type 0) → Image → Type 0
OfPast Past i = (t : ℕ) × (c : Moment) × Past t c × (c.image ≡ i)

stood_there : (Past : ℕ → Moment → Type 0) (t : ℕ) (said : List ℕ) (i : Image) → StoodAt (Past t) said i → OfPast Past i
stood_there Past t said i stood = (t, stood.moment, stood.passed, stood.image)

goes_meet : (hurt : Sectors) (Past : ℕ → Moment → Type 0) (t : ℕ) (Last : Volume → Image → Type 0) (e : Errand) (said : List ℕ) (i : Image) (s : Session) (mets : List Meeting) (commands : List ScriptCommand)
    → Goes hurt (Past t) Last e said i s mets commands → Meets (OfPast Past) i s mets commands
goes_meet hurt Past t Last e said i s [] commands goes = tt
goes_meet hurt Past t Last e said i s (x ∷ xs) [] goes = absurd goes
goes_meet hurt Past t Last e said i s (x ∷ xs) (command ∷ commands) (j, at, goes) =
    (j, stood_there Past t said j at.exit, at.may, goes_meet hurt Past t Last e (said ++ e.says (answer_in x s command).0) j (answer_in x s command).1 xs commands goes)

-- by the span of a dump
dumps_so : (r : Result Span ℕ) (cut : Cut) (Past : ℕ → Moment → Type 0) (t : ℕ) (base : List ℕ) (v : Volume) (i : Image) → IsDumpedSo r cut (Past t) base v i → DumpsSo (OfPast Past) r cut v i
dumps_so r None Past t base v i so = tt
dumps_so (Ok span) (Some (Damages found)) Past t base v i (some, (j, stood, picks)) = (some, (j, stood_there Past t base j stood, picks))
dumps_so (Ok span) (Some (BySector k s)) Past t base v i (whole, (j, stood, spoilt)) = (whole, (j, stood_there Past t (base ++ concat (take (suc k) (dump_of span v))) j stood, spoilt))
dumps_so (Ok span) (Some (ByFault k why)) Past t base v i so = absurd so
dumps_so (Ok span) (Some (ByRefusal k)) Past t base v i so = absurd so
dumps_so (Err need) (Some x) Past t base v i so = absurd so

plays_so : (request : Request) (cut : Cut) (Past : ℕ → Moment → Type 0) (t : ℕ) (base : List ℕ) (v : Volume) (i : Image) (done : List Answered) → GoesSo request cut (Past t) base v i done → PlaysSo (OfPast Past) request cut v i done
plays_so Asks.Restore cut Past t base v i done so = so
plays_so (Asks.Dump since most) cut Past t base v i done so = dumps_so (span_of since most v.entries) cut Past t base v i so
plays_so request cut Past t base v i done so = tt

starts_fresh : (l : Layout) (windows : List WeakRun) (h : List Change) (v : Volume) (i : Image) → Starts l windows h v i → IsFresh i (after h) v
starts_fresh l windows h v i s = record {
  files = s.files;
  hurt = in_runs windows;
  described = subst (λ (x : Files). Describes v.layout (in_runs windows) i x v.entries) s.files (subst (λ (x : Layout). Describes x (in_runs windows) i v.files v.entries) (sym s.layout) s.described);
  count = s.count;
  removed = s.removed;
  held = s.held;
  drafts = s.drafts;
  unforced = s.unforced;
}

next_on : {P Q : Type 0} → (P → Q) → (o : Option Turn) (part : List ℕ) → SaysNext P o part → SaysNext Q o part
next_on more None part next = next
next_on more (Some turn) part (inl (begins, forced)) = inl (begins, λ some forces. more (forced some forces))
next_on more (Some turn) part (inr fault) = inr fault

-- ---- a run over what stands

-- what it leaves, and that this tells how the run went
record Gone {D : Type 0} (M : Ghosts D) (x : Life D) (stop : Option Moment) (h : List Change) (f : ℕ) : Type 0 where
  changes : List Change
  forced : ℕ
  few : forced ≤ length changes
  ready : (m : D) → GoesOnAt M x stop m → Ready M changes forced m
  tells : (k : ℕ) → IsPrefixOf changes forced k → (n : ℕ) × IsPrefixOf h f n × TellsSo M x stop (after (take n h)) (after (take k changes))

module _ {D : Type 0} (M : Ghosts D) (x : Life D) (h : List Change) (f : ℕ) (l : Layout) (windows : List WeakRun) (disk : IsSoundDisk l windows h f (M.now x.from)) where
  abbrev input : List ℕ
  input = input_for x.request (M.ledger x.from).input

  abbrev Unmounted : Type 0
  Unmounted = LeavesUnmounted x.request l windows h f (M.left_since x.from (M.now x.from).synced) (StopsOnly M x.from x.to) (IsHeld M x.to) (M.report x.from) (M.report x.to) (M.now x.from) (M.now x.to) x.status

  abbrev Mounted : Type 0
  Mounted = LeavesMounted x.request input (M.ledger x.to).input l windows h f (M.left_since x.to) (stops M x.to) (M.moment x.from) (M.left_since x.from (M.now x.from).synced) (StopsOnly M x.from x.to) (IsHeld M x.to) (M.report x.from) (M.report x.to) (M.now x.from) (M.now x.to) x.status

  -- ---- where it was stopped

  before_ready : (left : Moment) → LeftBefore l windows h f (M.now x.from) left → (d : D) → IsLeft M left d → Ready M h f d
  before_ready left b d at = left_ready M h f left d (record {
    layout = l;
    windows = windows;
    sound = record {
      planned = disk.planned;
      ends = record { last = disk.ends.last ∙ sym b.present; some = subst (λ (o : Option WeakRun). IsSome o) (sym b.present) disk.ends.some };
      sound = b.sound;
    };
  }) at

  gone_before : (left : Moment) → LeftBefore l windows h f (M.now x.from) left → Gone M x (Some left) h f
  gone_before left b = record {
    changes = h;
    forced = f;
    few = sound_some l windows h f left.image b.sound;
    ready = before_ready left b;
    tells = λ k prefix. (k, prefix, (b.part, b.said, inl (b.fault, refl)));
  }

  -- ---- where its input failed

  gone_unread : (b : LeftBefore l windows h f (M.now x.from) (M.now x.to)) → IsUnread x.request x.status → (M.now x.to).said ≡ (M.now x.from).said ++ fault_text Ended.Input → Gone M x None h f
  gone_unread b unread said = record {
    changes = h;
    forced = f;
    few = sound_some l windows h f (M.now x.to).image b.sound;
    ready = λ d at. before_ready (M.now x.to) b d (at.1 unread);
    tells = λ k prefix. (k, prefix, (fault_text Ended.Input, said, inr (record { unread = unread; says = refl; files = refl })));
  }

  -- such a fault is the input's, and stands alone
  five_is : (why : Fault) → IsOutside x.request (M.report x.from) (M.report x.to) why → fault_status why ≡ 5 → why ≡ Ended.Input
  five_is Ended.Input outside five = refl
  five_is Ended.InputTooLong outside five = absurd outside
  five_is Ended.NotVolume outside five = absurd (omega (arith, five))
  five_is (Ended.Lost a b) outside five = absurd (omega (arith, five))
  five_is Ended.NoAnchor outside five = absurd (omega (arith, five))
  five_is (Ended.Unsound s) outside five = absurd (omega (arith, five))
  five_is (Ended.Device s) outside five = absurd (omega (arith, five))
  five_is Ended.Memory outside five = absurd (omega (arith, five))
  five_is Ended.WornOut outside five = absurd (omega (arith, five))

  abbrev Breaks : (Undone : ℕ → Image → Type 0) → (UnderWay : ℕ → Type 0) → List Turn → Type 0
  Breaks Undone UnderWay turns = IsBrokenOff x.request Undone UnderWay (M.report x.from) (M.report x.to) turns (M.now x.from) (M.now x.to) x.status

  input_failed : (Undone : ℕ → Image → Type 0) (UnderWay : ℕ → Type 0) (turns : List Turn) (b : Breaks Undone UnderWay turns) → x.status ≡ 5 → b.why ≡ Ended.Input
  input_failed Undone UnderWay turns b five = five_is b.why b.outside (sym b.ends ∙ five)

  fails_said : (Undone : ℕ → Image → Type 0) (UnderWay : ℕ → Type 0) (turns : List Turn) (b : Breaks Undone UnderWay turns) → b.why ≡ Ended.Input → b.says.whole ≡ 0 → (M.now x.to).said ≡ (M.now x.from).said ++ fault_text Ended.Input
  fails_said Undone UnderWay turns b is none =
      b.says.said
      ∙ ap (λ (n : ℕ). (M.now x.from).said ++ (said_in (take n turns) ++ fault_text b.why)) none
      ∙ ap (λ (why : Fault). (M.now x.from).said ++ fault_text why) is

  module _ (m : Mounted) where
    abbrev plays : Plays (HasShown M x.to) x.request input (after (take m.count h))
    plays = record {
      image = m.from;
      shown = stood_there (M.left_since x.to) m.at (M.now x.from).said m.from m.stood;
      volume = m.volume;
      fresh = starts_fresh l (windows ++ m.next ∷ []) (take m.count h) m.volume m.from m.starts;
      cut = m.run.cut;
      may = m.run.may;
      mets = m.run.mets;
      meets = goes_meet (in_runs (windows ++ m.next ∷ [])) (M.left_since x.to) m.at (IsCutAt m.run.cut) (errand_in x.request input m.run.cut m.volume) (M.now x.from).said m.from (session_over m.volume) m.run.mets (errand_in x.request input m.run.cut m.volume).commands m.run.goes;
      so = plays_so x.request m.run.cut (M.left_since x.to) m.at (M.now x.from).said m.volume m.from (answered m.run.mets (session_over m.volume) (errand_in x.request input m.run.cut m.volume).commands) m.run.so;
    }

    ends_settled : (now : Windows) → now ≡ record { present = Some m.next; next = None } → EndIn now (windows ++ m.next ∷ [])
    ends_settled now is = record { last = last_snoc None windows m.next ∙ sym (ap (λ (w : Windows). w.present) is); some = subst (λ (w : Windows). IsSome w.present) (sym is) refl }

    gone_by : (left : Moment) → LeftByTurns l windows m.next h m.count (run_turns m.run) (M.now x.from) left → Gone M x (Some left) h f
    gone_by left s = record {
      changes = take m.count h ++ cs;
      forced = m.count + s.forced;
      few = sound_some l (windows ++ m.next ∷ []) (take m.count h ++ cs) (m.count + s.forced) left.image s.sound;
      ready = λ d at. left_ready M (take m.count h ++ cs) (m.count + s.forced) left d (record {
        layout = l;
        windows = windows ++ m.next ∷ [];
        sound = record { planned = disk.planned; ends = ends_settled left.windows s.settled; sound = s.sound };
      }) at;
      tells = λ k prefix.
          let forced = prefix.forced in
          let found : k ≡ m.count + (k - m.count) = omega (arith, forced) in
          let most : s.forced ≤ k - m.count = omega (arith, forced) in
          let enough = s.enough in (
            m.count,
            m.prefix,
            (
              _,
              s.said,
              inr (record {
                plays = plays;
                whole = s.whole;
                part = s.part;
                says = refl;
                found = k - m.count;
                begun = next_on (λ le. omega (arith, le, most)) (slice_get (run_turns m.run) s.whole) s.part s.next;
                enough = omega (arith, enough, most);
                files = more_taken m.count (k - m.count) k h cs m.prefix.made found;
              }),
            ),
          );
    }
      where
        cs : List Change
        cs = changes_in (take (suc s.whole) (run_turns m.run))

    -- ---- where it has ended

    gone_replied : IsOver M x None → IsThrough m.run → IsReplied l windows m.next h m.count (run_turns m.run) (run_status m.run) (run_end m.run) (IsHeld M x.to) (M.now x.from) (M.now x.to) x.status → Gone M x None h f
    gone_replied over through r = record {
      changes = all;
      forced = m.count + length cs;
      few = sound_some l (windows ++ m.next ∷ []) all (m.count + length cs) (M.now x.to).image r.sound;
      ready = λ d at. ⊎_elim (λ done. same_ready d (at.0 done)) (λ unread. left_ready M all (m.count + length cs) (M.now x.to) d (record {
        layout = l;
        windows = windows ++ m.next ∷ [];
        sound = record { planned = disk.planned; ends = ends_settled (M.now x.to).windows r.settled; sound = r.sound };
      }) (at.1 unread)) over;
      tells = λ k prefix.
          let forced = prefix.forced in
          let made = prefix.made in
          let long = length-append (take m.count h) cs in
          let taken = length-take-le m.count h m.prefix.made in
          let found : k ≡ m.count + length cs = omega (arith, forced, made, long, taken) in (
            m.count,
            m.prefix,
            (
              _,
              r.said,
              inl (record {
                plays = plays;
                through = through;
                says = refl;
                ends = r.ends;
                files = more_taken m.count (length cs) k h cs m.prefix.made found ∙ ap (fold step (after (take m.count h))) (take_all (length cs) cs (omega arith));
              }),
            ),
          );
    }
      where
        cs : List Change
        cs = changes_in (run_turns m.run)

        all : List Change
        all = take m.count h ++ cs

        of_one : (c : Moment) → M.left_since x.to (M.now x.to).synced c → IsReplied l windows m.next h m.count (run_turns m.run) (run_status m.run) (run_end m.run) (λ P. P c) (M.now x.from) (M.now x.to) x.status
        of_one c is = record { ends = r.ends; said = r.said; settled = r.settled; sound = r.sound; held = r.held c is; tells = r.tells; roots = r.roots; rooted = r.rooted c is }

        same_ready : (d : D) → IsSame M x.to d → Ready M (take m.count h ++ changes_in (run_turns m.run)) (m.count + length (changes_in (run_turns m.run))) d
        same_ready d same = record {
          stands = record {
            layout = l;
            windows = windows ++ m.next ∷ [];
            sound = record {
              planned = disk.planned;
              ends = ends_settled (M.now d).windows (same.windows ∙ r.settled);
              sound = subst (λ (i : Image). IsSound l (windows ++ m.next ∷ []) all (m.count + length cs) i) (sym same.image) r.sound;
            };
          };
          held = λ c is layout said.
              let e = same.held c is in
              subst (λ (i : Image). IsSound layout (windows ++ m.next ∷ []) all (m.count + length cs) i) (sym e.2)
              (replied_held l windows m.next h m.count (run_turns m.run) (run_status m.run) (run_end m.run) (M.now x.from) (M.now x.to) e.0 x.status (of_one e.0 e.1) layout (subst (λ (i : Image). IsSaid l i layout) same.image said));
        }

    abbrev Undone : ℕ → Image → Type 0
    Undone whole i = IsUndone l (windows ++ m.next ∷ []) (take m.count h) m.count (run_turns m.run) whole i

    abbrev UnderWay : ℕ → Type 0
    UnderWay whole = IsUnderWay l (windows ++ m.next ∷ []) (take m.count h) m.count (run_turns m.run) (IsHeld M x.to) whole

    gone_failed : IsUnread x.request x.status → Breaks Undone UnderWay (run_turns m.run) → Gone M x None h f
    gone_failed unread b = record {
      changes = take m.count h;
      forced = m.count + u.forced;
      few = sound_some l (windows ++ m.next ∷ []) (take m.count h) (m.count + u.forced) (M.now x.to).image sound;
      ready = λ d at. left_ready M (take m.count h) (m.count + u.forced) (M.now x.to) d (record {
        layout = l;
        windows = windows ++ m.next ∷ [];
        sound = record { planned = disk.planned; ends = ends_settled (M.now x.to).windows m.exit.settled; sound = sound };
      }) (at.1 unread);
      tells = λ k prefix.
          let forced = prefix.forced in
          let taken = length-take-le m.count h m.prefix.made in (
            m.count,
            m.prefix,
            (fault_text Ended.Input, fails_said Undone UnderWay (run_turns m.run) b is none.0, inr (record { unread = unread; says = refl; files = ap after (take_all k (take m.count h) (omega (arith, forced, taken))) })),
          );
    }
      where
        is : b.why ≡ Ended.Input
        is = input_failed Undone UnderWay (run_turns m.run) b unread.1

        none : (b.says.whole ≡ 0) × Undone b.says.whole (M.now x.to).image
        none = b.unread is

        u : Undone 0 (M.now x.to).image
        u = subst (λ (whole : ℕ). Undone whole (M.now x.to).image) none.0 none.1

        sound : IsSound l (windows ++ m.next ∷ []) (take m.count h) (m.count + u.forced) (M.now x.to).image
        sound = subst (λ (cs : List Change). IsSound l (windows ++ m.next ∷ []) cs (m.count + u.forced) (M.now x.to).image) (append-nil (take m.count h)) u.sound

  fault_other : (why : Fault) → IsDone (fault_status why) → ⊥
  fault_other Ended.NotVolume done = ⊎_elim (λ low. omega (arith, low)) (λ is. omega (arith, is)) done
  fault_other (Ended.Lost a b) done = ⊎_elim (λ low. omega (arith, low)) (λ is. omega (arith, is)) done
  fault_other Ended.NoAnchor done = ⊎_elim (λ low. omega (arith, low)) (λ is. omega (arith, is)) done
  fault_other (Ended.Unsound s) done = ⊎_elim (λ low. omega (arith, low)) (λ is. omega (arith, is)) done
  fault_other (Ended.Device s) done = ⊎_elim (λ low. omega (arith, low)) (λ is. omega (arith, is)) done
  fault_other Ended.Input done = ⊎_elim (λ low. omega (arith, low)) (λ is. omega (arith, is)) done
  fault_other Ended.InputTooLong done = ⊎_elim (λ low. omega (arith, low)) (λ is. omega (arith, is)) done
  fault_other Ended.Memory done = ⊎_elim (λ low. omega (arith, low)) (λ is. omega (arith, is)) done
  fault_other Ended.WornOut done = ⊎_elim (λ low. omega (arith, low)) (λ is. omega (arith, is)) done

  -- nor is it the output's, or one of epochs that are used up, where it ended
  over_not : (n : ℕ) → x.status ≡ n → (n ≡ 6) ⊎ (n ≡ 9) → IsOver M x None → ⊥
  over_not n is bad (inl done) = ⊎_elim (λ six. ⊎_elim (λ low. omega (arith, is, six, low)) (λ eight. omega (arith, is, six, eight)) done) (λ nine. ⊎_elim (λ low. omega (arith, is, nine, low)) (λ eight. omega (arith, is, nine, eight)) done) bad
  over_not n is bad (inr unread) = let five = unread.1 in ⊎_elim (λ six. omega (arith, is, six, five)) (λ nine. omega (arith, is, nine, five)) bad

  gone_ended : IsOver M x None → Unmounted ⊎ Mounted → Gone M x None h f
  gone_ended over (inl u) = by u.ends over
    where
      by : IsSpent (M.now x.from) (M.now x.to) x.status ⊎ (IsUnsaid (M.report x.from) (M.report x.to) x.status ⊎ Breaks Unbegun Whatever (blank ∷ [])) → IsOver M x None → Gone M x None h f
      by (inl spent) over = absurd (over_not 9 spent.ends (inr refl) over)
      by (inr (inl unsaid)) over = absurd (over_not 6 unsaid.ends (inl refl) over)
      by (inr (inr broken)) (inl done) = absurd (fault_other broken.why (subst IsDone broken.ends done))
      by (inr (inr broken)) (inr unread) =
          let is = input_failed Unbegun Whatever (blank ∷ []) broken unread.1 in
          gone_unread u.exit unread (fails_said Unbegun Whatever (blank ∷ []) broken is (broken.unread is).0)
  gone_ended over (inr m) = by m.ends over
    where
      by : (IsThrough m.run × IsReplied l windows m.next h m.count (run_turns m.run) (run_status m.run) (run_end m.run) (IsHeld M x.to) (M.now x.from) (M.now x.to) x.status)
          ⊎ (IsUnsaid (M.report x.from) (M.report x.to) x.status ⊎ Breaks (Undone m) (UnderWay m) (run_turns m.run)) → IsOver M x None → Gone M x None h f
      by (inl (through, replied)) over = gone_replied m over through replied
      by (inr (inl unsaid)) over = absurd (over_not 6 unsaid.ends (inl refl) over)
      by (inr (inr broken)) (inl done) = absurd (fault_other broken.why (subst IsDone broken.ends done))
      by (inr (inr broken)) (inr unread) = gone_failed m unread broken

  gone_left : (left : Moment) → Unmounted ⊎ Mounted → stops M x.to (M.moment x.from) left → Gone M x (Some left) h f
  gone_left left (inl u) is = gone_before left (u.moments.each left is)
  gone_left left (inr m) is = by (m.moments.each left is)
    where
      by : Left l windows m.next h f m.count (run_turns m.run) (M.now x.from) left → Gone M x (Some left) h f
      by (inl b) = gone_before left b
      by (inr s) = gone_by m left s

  gone_so : (stop : Option Moment) → IsOver M x stop → Unmounted ⊎ Mounted → Gone M x stop h f
  gone_so None over leaves = gone_ended over leaves
  gone_so (Some left) over leaves = gone_left left leaves over

gone : {D : Type 0} (M : Ghosts D) (x : Life D) (h : List Change) (f : ℕ) → Ready M h f x.from → IsLife M x → Gone M x x.stop h f
gone M x h f ready life =
    let s = ready.stands in
    let leaves = mounts_give x.request _ life.mounts (life.ran.leaves life.honest (record { layout = s.layout; windows = s.windows; changes = h; forced = f }) s.sound ready.held) in
    gone_so M x h f leaves.0 s.windows (said_disk s.layout leaves.0 s.windows h f (M.now x.from) leaves.1 s.sound) x.stop life.over leaves.2

-- ---- the whole

all_tell : {D : Type 0} (M : Ghosts D) (xs : List (Life D)) (h : List Change) (f : ℕ) (Begins : D → Type 0) → ((m : D) → Begins m → Ready M h f m) → f ≤ length h → AreLives M Begins xs
    → (n : ℕ) × IsPrefixOf h f n × Tells M (after (take n h)) xs
all_tell M [] h f Begins ready few lives = (f, record { forced = omega arith; made = few }, tt)
all_tell M (x ∷ xs) h f Begins ready few (begins, life, rest) =
    let g = gone M x h f (ready x.from begins) life in
    let more = all_tell M xs g.changes g.forced (GoesOnAt M x x.stop) g.ready g.few rest in
    let so = g.tells more.0 more.1 in
    (so.0, so.1, (after (take more.0 g.changes), so.2, more.2))

-- ---- from a format on

planned_by : (kind : Kind) (n t p q : ℕ) (l : Layout) → plan_most kind n t p q ≡ Ok l → IsPlanned l
planned_by kind n t p q l given =
    let a = ok_if (is_between 200 4096 t) _ _ l given in
    let b = ok_if (is_between 16 4096 p) _ _ l a.1 in
    let c = ok_if (nat_le n (2 ^ 24)) _ _ l b.1 in
    let d = ok_if (may_grow_to n q) _ _ l c.1 in
    let e = ok_if (nat_le (least_for t p q) n) _ _ l d.1 in
    let same : record { sectors = n; third = t; pages = p; kind = kind; most = q } ≡ l = cc e.1 in
    subst (λ (x : Layout). plan_most x.kind x.sectors x.third x.pages x.most ≡ Ok l) same given

made_stands : (l : Layout) (left : Moment) → IsPlanned l → HoldsVolume l left → Standing [] 0 left
made_stands l left planned holds = record {
  layout = l;
  windows = holds.run ∷ [];
  sound = record {
    planned = planned;
    ends = record { last = sym (ap (λ (w : Windows). w.present) holds.windows); some = subst (λ (w : Windows). IsSome w.present) (sym holds.windows) refl };
    sound = holds.sound;
  };
}

pub formatted_tell : {D : Type 0} (M : Ghosts D) (n t p q : ℕ) (kind : Kind) (path : List ℕ) (a b : D) (left : Moment) (lives : List (Life D)) → M.honest b → Ran M (Asks.Format n t p kind q) path a b 0
    → M.left_since b (M.now b).synced left → AreLives M (IsLeft M left) lives → Tells M [] lives
formatted_tell M n t p q kind path a b left lives honest ran held are = by (plan_most kind n t p q) refl (ran.image refl honest)
  where
    from : Standing [] 0 left → Tells M [] lives
    from s =
        let all = all_tell M lives [] 0 (IsLeft M left) (λ m at. left_ready M [] 0 left m s at) (omega arith) are in
        subst (λ (h : List Change). Tells M (after h) lives) (take-nil all.0) all.2

    by : (r : Result Layout LayoutFault) → plan_most kind n t p q ≡ r → IsMadeBy r (IsHeld M b) → Tells M [] lives
    by (Ok l) planned made = from (made_stands l left (planned_by kind n t p q l planned) (made left held))
    by (Err why) planned made = absurd made
