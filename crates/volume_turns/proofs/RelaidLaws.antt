-- A command by itself that gives the volume another layout, beside its own: what is left behind its reply.
use Rattle.std.proofs.Common.{◌≡◌, inl, ℕ, ◌≤◌, true, false, List, [], ◌++◌, length, Some, refl, sym, ◌∙◌, ap, subst, arith}
use Rattle.std.specs.Prelude.{OnOk, IfErr, IfOk, Result, Ok, Err}
use Rattle.std.proofs.lemmas.List.{append-nil}
use Rattle.volume_layout.specs.declared.layout.Layout.{Layout}
use Rattle.sector_disk.specs.declared.machine.Machine.{Ghosts}
use Rattle.sector_disk.specs.declared.sector.WeakRun.{WeakRun}
use Rattle.sector_disk.specs.Calls.{IsTimed, Since}
use Rattle.sector_disk.specs.Image.{AllWorn, AreShort, IsWorn, Windows}
use Rattle.sector_disk.specs.Machine.{LeavesOnly, Moment}
use Rattle.fsd_log.specs.Scan.{Placed}
use Rattle.fsd_files.specs.Answers.{Outcome}
use Rattle.fsd_files.specs.Disk.{Image}
use Rattle.fsd_files.specs.Files.{Change}
use Rattle.fsd_files.specs.Volume.{HasReach}
use Rattle.fsd_files.specs.declared.reply.Reply.{Reply}
use Rattle.fsd_sound.specs.Laid.{HasOwnRoots}
use Rattle.fsd_sound.specs.Mounted.{Mounted, telling_of}
use Rattle.fsd_sound.specs.Shown.{told}
use Rattle.fsd_sound.specs.Sound.{EndIn, IsSound, weak_of}
use Rattle.fsd_table.specs.Table.{Telling}
use Rattle.fsd_sound.proofs.MountedLaws.{mounted_lasts, mounted_reach}
use Rattle.fsd_runs.specs.Commands.{MayFind, answer, changes_of, may_wear_out, reply_alone, reply_status}
use Rattle.fsd_runs.specs.Sessions.{HoldsRead, MayMeet, Meeting, by_volume, session_over}
use Rattle.fsd_texts.specs.declared.command.Command.{Command}
use Rattle.fsd_texts.specs.declared.fault.Fault.{Fault}
use Rattle.fsd_texts.specs.declared.fault.Fault.TheVariants as Ends
use Rattle.fsd_texts.specs.declared.script_command.ScriptCommand.TheVariants.{Plain}
use Rattle.volume_contract.specs.State.{Ages, Known, Stands, State, forced_of, none_open, volume_of}
use Rattle.volume_turns.specs.declared.turns.Halt.{Halt}
use Rattle.volume_turns.specs.declared.turns.Halt.TheVariants.{Fault as Stopped}
use Rattle.volume_turns.specs.Once.{ClosesAndSaysBy, IsAlone, unit_of}
use Rattle.volume_turns.specs.Steps.{Does, StaysBy, StaysSaying}
use Rattle.volume_turns.specs.Turns.{EndsAtOnce, OnDisk, SaysAll, Unsaid, UttersBehind}
use Rattle.volume_turns.proofs.CallLaws.{met_none}
use Rattle.volume_turns.proofs.LongerLaws.{Wrote}
use Rattle.volume_turns.proofs.OnceLaws.{alone_closed_as, alone_held, alone_undone, says_closed}
use Rattle.volume_turns.proofs.SeatLaws.{none_holds}

module _ {S D : Type 0} (state : S → State) (has : S → Mounted → List Placed → Type 0) (M : Ghosts D) (v : S) (a m : D) (k : Known) (forced : (volume_of k).unforced ≡ 0)
    (stood : Stands state has v k (M.now a)) (turn_to : Layout → Layout) (disk : Wrote M (StaysBy turn_to state has v) a m) (honest : M.honest m) where
  exit : StaysSaying (turn_to (volume_of k).layout) k (M.now a) (M.now m)
  exit = disk.exit honest k stood

  -- what it has left is sound by the layout of before
  pub relaid_sound : IsSound (volume_of k).layout k.windows k.changes (length k.changes) (M.now m).image
  relaid_sound = subst (λ (n : ℕ). IsSound (volume_of k).layout k.windows k.changes n (M.now m).image) (let n : forced_of k ≡ length k.changes = omega (arith, forced) in n) exit.sound

  relaid_ends : EndIn (M.now m).windows k.windows
  relaid_ends = subst (λ (x : Windows). EndIn x k.windows) (sym (disk.windows honest)) stood.ends

  module _ (wears : (s : S) (k : Known) (old new : Moment) → AreShort old.windows → Ages old new → Stands state has s k old → Stands state has s k new)
      (short : (m : D) → M.honest m → AreShort (M.now m).windows) (timed : (m : D) → M.honest m → IsTimed M m) (command : Command) (unchanged : (x : Reply) → changes_of command x ≡ []) (reply : Reply) (w : S) (b : D)
      (none : k.opened ≡ none_open) (on : OnDisk M k (forced_of k) a) (since : Since M m b) (does : Does state has command v w k (M.now a) (M.now m) (Ok reply))
      (turns : turn_to (volume_of k).layout ≡ (volume_of does.0).layout) (unforced : (volume_of does.0).unforced ≡ 0) (telling : telling_of (volume_of k) ≡ telling_of (volume_of does.0))
      (alike : (j : Image) → IsWorn (weak_of k.windows) (M.now m).image j → told (volume_of does.0).layout j ≡ told (volume_of k).layout j) where
    abbrev after : Known
    after = does.0

    -- its table is told by either layout
    lasts : AllWorn (weak_of k.windows) (λ j. told (volume_of k).layout j ≡ Some (telling_of (volume_of k))) (M.now m).image
    lasts j worn =
        let worn_after = subst (λ (ws : List WeakRun). IsWorn (weak_of ws) (M.now m).image j) (sym does.1.windows) worn in
        sym (alike j worn) ∙ mounted_lasts after.mounted after.windows after.changes (forced_of after) (M.now m).image does.2.disk unforced j worn_after ∙ ap (λ (x : Telling). Some x) (sym telling)

    -- its roots are those of the layout behind it
    own_roots : HasOwnRoots (volume_of after).layout (weak_of k.windows) (M.now m).image
    own_roots = subst (λ (ws : List WeakRun). HasOwnRoots (volume_of after).layout (weak_of ws) (M.now m).image) does.1.windows does.2.disk.over.own.roots

    pub relaid_alone : (text : List ℕ) → text ≡ reply_alone reply → M.honest b → LeavesOnly M.moment M.left_since m b (UttersBehind true text (M.now m)) → (r : Result ℕ Halt) → (r ≡ Err (Stopped Ends.Memory) → b ≡ m) → IfOk r (λ status. status ≡ reply_status reply)
        → OnOk (unit_of r) (SaysAll text (M.now m) (M.now b)) → OnOk (unit_of r) ((M.now m).time ≤ (M.now b).synced) → IfErr (unit_of r) (λ end. Unsaid (M.now m) (M.now b) end) → IsAlone M command k a b r
    relaid_alone text is honest_b run r undone gives all synced unsaid =
        let held = alone_held state has M wears short timed command v w a m b k none stood on turn_to disk honest since in
        let closes = says_closed M m b k (forced_of k) (volume_of after).layout text does.2.disk.over.shows.readable.roots.planned relaid_ends relaid_sound lasts own_roots (short m honest) held (timed m honest) (timed b honest_b) since run (unit_of r) all synced unsaid in
        alone_closed_as state has M wears short timed command v w a m b k none stood on turn_to disk honest since after reply does.1 does.2 k refl refl
        (sym (append-nil k.changes) ∙ ap (λ (h : List Change). k.changes ++ h) (sym (unchanged _))) telling (inl turns) r undone gives
        (subst (λ (x : List ℕ). ClosesAndSaysBy (volume_of after).layout M k (forced_of k) x m b (unit_of r)) is closes)

-- ---- one that failed

-- a root may say the other layout already: it is that of the volume behind it
module _ {S D : Type 0} (state : S → State) (has : S → Mounted → List Placed → Type 0) (M : Ghosts D)
    (wears : (s : S) (k : Known) (old new : Moment) → AreShort old.windows → Ages old new → Stands state has s k old → Stands state has s k new)
    (short : (m : D) → M.honest m → AreShort (M.now m).windows) (timed : (m : D) → M.honest m → IsTimed M m) (command : Command) (unchanged : (x : Reply) → changes_of command x ≡ []) (unworn : may_wear_out command ≡ false) (v w : S) (a m : D) (k : Known)
    (none : k.opened ≡ none_open) (stood : Stands state has v k (M.now a)) (on : OnDisk M k (forced_of k) a) (turn_to : Layout → Layout) (disk : Wrote M (StaysBy turn_to state has v) a m) (honest : M.honest m)
    (find : MayFind (M.now a).image (M.now m).image (volume_of k) command met_none) (reply : Reply) (is : answer met_none (volume_of k) command ≡ (reply, record (volume_of k) { layout = turn_to (volume_of k).layout })) where
  abbrev met : Meeting
  met = record { met = met_none; held = [] }

  may : MayMeet (M.now a).image (M.now m).image (session_over (volume_of k)) (Plain command) met
  may = record {
    find = find;
    reach = subst (λ (o : Outcome). HasReach o.1) (sym is) (let r = mounted_reach k.mounted k.windows k.changes (forced_of k) (M.now a).image stood.disk in record { root = r.root; most = r.most });
    hold = subst (λ (o : Outcome). HoldsRead (by_volume (session_over (volume_of k)) o).1) (sym is) (none_holds state has v (M.now a) k none stood);
  }

  pub relaid_undone : (why : Fault) → EndsAtOnce why → IsAlone M command k a m (Err (Stopped why))
  relaid_undone = alone_undone state has M wears short timed command v w a m m k none stood on turn_to disk honest (λ t left le was. was) met may unworn (ap (λ (o : Outcome). o.1.layout) (sym is)) (append-nil _ ∙ unchanged _)
