-- What the runs of a life leave of its puts, and what its list says.
use Rattle.std.proofs.Common.{◌≡◌, ◌⊎◌, inl, inr, ℕ, suc, ◌+◌, ◌≤◌, List, [], ◌∷◌, ◌++◌, length, take, filter, Option, Some, None, refl, sym, ap, subst, ◌∙◌, arith}
use Rattle.std.specs.Prelude.{IsSome}
use Rattle.std.specs.List.{flat_map}
use Rattle.std.proofs.lemmas.List.{append-nil, length-append, length-take, take-append-le, take-take, take_all}
use Rattle.volume_layout.specs.declared.layout.Layout.{Layout}
use Rattle.volume_layout.specs.Layout.{IsPlanned}
use Rattle.fsd_bytes.specs.declared.key.Key.{Key}
use Rattle.fsd_bytes.specs.declared.key.Serial.{Serial}
use Rattle.fsd_bytes.specs.declared.pattern.Pattern.TheVariants.{Prefix}
use Rattle.fsd_bytes.specs.declared.refusal.Refusal.{Refusal}
use Rattle.fsd_bytes.specs.Keys.{fits}
use Rattle.run_table.specs.declared.run.Run.{Run as SectorRun}
use Rattle.run_table.specs.RunTable.{total}
use Rattle.fsd_formats.specs.declared.entry.Entry.{Entry}
use Rattle.fsd_formats.specs.NamePage.{sectors_for}
use Rattle.memory_machine.specs.declared.memory.MemoryMachine.{MemoryMachine}
use Rattle.sector_disk.specs.declared.sector.WeakRun.{WeakRun}
use Rattle.sector_disk.specs.Image.{Windows}
use Rattle.sector_disk.specs.Machine.{LeavesOnly, Moment, Report, StopSince}
use Rattle.memory_machine.specs.Memory.{memory_calls, memory_left, memory_now}
use Rattle.memory_machine.specs.Past.{only_at_end}
use Rattle.fsd_files.specs.Answers.{Met, enter_fault, entered_unless, keep_given, no_place, put_at, put_unless, size_fault}
use Rattle.fsd_files.specs.Disk.{Image, Sectors, in_runs}
use Rattle.fsd_files.specs.Files.{Change, File, Files, after, new_key}
use Rattle.fsd_files.specs.Kept.{IsEntryOf, Lists}
use Rattle.fsd_files.specs.declared.reply.Reply.{Reply}
use Rattle.fsd_files.specs.declared.reply.Reply.TheVariants as Said
use Rattle.fsd_files.specs.Volume.{Volume, drawn, forced_for_place, forced_if, place_for}
use Rattle.fsd_sound.specs.Sound.{IsPrefixOf, IsSaid, IsSound}
use Rattle.fsd_sound.proofs.WindowLaws.{last_snoc}
use Rattle.fsd_sound.proofs.MountedLaws.{lists_long}
use Rattle.fsd_texts.specs.declared.command.Command.{Command}
use Rattle.fsd_texts.specs.declared.command.Command.TheVariants as Word
use Rattle.fsd_texts.specs.declared.script_command.ScriptCommand.TheVariants.{Plain}
use Rattle.fsd_runs.specs.declared.request.Request.{Request}
use Rattle.fsd_runs.specs.declared.request.Request.TheVariants as Asks
use Rattle.fsd_runs.specs.Commands.{answer, changes_of, listed_text, reply_status, version_text}
use Rattle.fsd_runs.specs.Errands.{Cut, Turn, MayCut, errand_alone, alone_ending, answered_so, blank}
use Rattle.fsd_runs.specs.Leaves.{IsBrokenOff, IsReplied, IsSoundAsSaid, IsSpent, IsUnderWay, IsUndone, IsUnsaid, LeavesBy, LeavesSaid, LeftByTurns, Unbegun, Whatever}
use Rattle.fsd_runs.specs.Sessions.{Meeting, session_over}
use Rattle.fsd_runs.specs.Runs.{Goes, IsCutAt, IsThrough, answered, changes_in, errand_in, run_end, run_status, run_turns, said_in, turn_of, turns_of}
use Rattle.cfs_program.specs.Drill.{KeepsFirst, ListsPrefix, list_text}
use Rattle.cfs_program.specs.Formatting.{HoldsVolume}
use Rattle.cfs_program.proofs.OpeningLaws.{said_disk}
use Rattle.volume_turns.proofs.StatusLaws.{fault_some}

-- ---- a list, by the files

abbrev pub file_line : Key × File → List ℕ
file_line x = version_text x.0 (length x.1.bytes) x.1.keep

abbrev pub entry_line : Entry → List ℕ
entry_line e = version_text e.key e.length e.keep

line_is : (x : Key × File) (e : Entry) → IsEntryOf x e → entry_line e ≡ file_line x
line_is x e is = λ i. version_text (is.key i) (is.length i) (is.keep i)

lines_are : (files : Files) (entries : List Entry) → Lists files entries → flat_map entry_line entries ≡ flat_map file_line files
lines_are [] [] lists = refl
lines_are [] (e ∷ entries) lists = absurd lists
lines_are (x ∷ files) [] lists = absurd lists
lines_are (x ∷ files) (e ∷ entries) lists = λ i. line_is x e lists.0 i ++ lines_are files entries lists.1 i

all_fit : (entries : List Entry) → filter (λ e. fits (Prefix []) e.key.name) entries ≡ entries
all_fit [] = refl
all_fit (e ∷ entries) = ap (λ (x : List Entry). e ∷ x) (all_fit entries)

abbrev pub listing : List Entry → List ℕ
listing entries = flat_map entry_line entries ++ listed_text (length entries)

pub list_is : (files : Files) (entries : List Entry) → Lists files entries → listing (filter (λ e. fits (Prefix []) e.key.name) entries) ≡ list_text files
list_is files entries lists =
    ap listing (all_fit entries) ∙ (λ i. lines_are files entries lists i ++ listed_text (lists_long files entries lists i))

-- ---- prefixes of changes

few_taken : (n made : ℕ) (h : List Change) → n ≤ length (take made h) → (n ≤ made) × (n ≤ length h)
few_taken n made h le = let long = length-take made h in (omega (arith, long, le), omega (arith, long, le))

-- ---- a format

pub kept_made : (l : Layout) (now : Moment) → IsPlanned l → HoldsVolume l now → KeepsFirst [] 0 now
kept_made l now planned holds = record {
  layout = l;
  windows = holds.run ∷ [];
  made = 0;
  few = omega arith;
  forced = 0;
  some = omega arith;
  sound = record {
    planned = planned;
    ends = record { last = sym (ap (λ (w : Windows). w.present) holds.windows); some = subst (λ (w : Windows). IsSome w.present) (sym holds.windows) refl };
    sound = holds.sound;
  };
}

-- the bytes that were said are left out, and a window that was only named
pub kept_again : (h : List Change) (f : ℕ) (old new : Moment) → new ≡ record { image = old.image; windows = old.windows; said = []; time = 0; synced = 0 } → KeepsFirst h f old → KeepsFirst h f new
kept_again h f old new is k = subst (λ (m : Moment). KeepsFirst h f m) (sym is) (record {
  layout = k.layout;
  windows = k.windows;
  made = k.made;
  few = k.few;
  forced = k.forced;
  some = k.some;
  sound = record { planned = k.sound.planned; ends = record { last = k.sound.ends.last; some = k.sound.ends.some }; sound = k.sound.sound };
})

-- what a stop since a time may have left of a machine in memory
abbrev pub memory_stops : MemoryMachine → ℕ → Moment → Type 0
memory_stops m t left = StopSince (memory_left m) t left

-- a stop at any moment since old leaves what has P
abbrev pub MemoryStops : MemoryMachine → MemoryMachine → (Moment → Type 0) → Type 0
MemoryStops old new P = LeavesOnly memory_calls memory_stops old new P

-- each moment since the last sync has P
abbrev pub MemoryHeld : MemoryMachine → (Moment → Type 0) → Type 0
MemoryHeld m P = (c : Moment) → memory_left m (memory_now m).synced c → P c

-- of a machine of which nothing was asked yet all is on the disk
pub held_again : (h : List Change) (f : ℕ) (m : MemoryMachine) (image : Image) (windows : Windows) → memory_now m ≡ record { image = image; windows = windows; said = []; time = 0; synced = 0 } → (k : KeepsFirst h f (memory_now m))
    → (c : Moment) → memory_left m (memory_now m).synced c → IsSoundAsSaid k.layout k.windows (take k.made h) k.forced (memory_now m).image c.image
held_again h f m image windows is k c left =
    let all : (memory_now m).synced ≡ memory_calls m = ap (λ (x : Moment). x.synced) is ∙ sym (ap (λ (x : Moment). x.time) is) in
    let same = only_at_end m.past.items (memory_now m) c (subst (λ (t : ℕ). memory_left m t c) all left) in
    subst (λ (x : Moment). IsSoundAsSaid k.layout k.windows (take k.made h) k.forced (memory_now m).image x.image) (sym same) (λ layout said. (said_disk k.layout layout k.windows (take k.made h) k.forced (memory_now m) said k.sound).sound)

-- ---- how a run ends

broken_not_zero : (request : Request) (Undone : ℕ → Image → Type 0) (Way : ℕ → Type 0) (before after : Report) (turns : List Turn) (old new : Moment) (result : ℕ) → IsUnsaid before after result ⊎ IsBrokenOff request Undone Way before after turns old new result → result ≡ 0 → ⊥
broken_not_zero request Undone Way before now turns old new result (inl unsaid) nought = let six = unsaid.ends in omega (arith, nought, six)
broken_not_zero request Undone Way before now turns old new result (inr broken) nought = fault_some broken.why (sym broken.ends ∙ nought)

-- ---- one command

module _ (command : Command) (v : Volume) where
  abbrev pub reply_to : Meeting → Reply
  reply_to x = (answer x.met v command).0

  abbrev pub turn_for : Meeting → Turn
  turn_for x = turn_of (errand_alone command) (answered_so (session_over v) (Plain command) (reply_to x))

  -- it was answered
  pub record IsAnsweredBy (mets : List Meeting) (met : Meeting) : Type 0 where
    pub turns : turns_of (errand_alone command) mets (session_over v) ≡ turn_for met ∷ []
    pub status : (alone_ending (answered mets (session_over v) (Plain command ∷ []))).status ≡ reply_status (reply_to met)

  pub answered_once : (mets : List Meeting) → length mets ≡ 1 → (met : Meeting) × IsAnsweredBy mets met
  answered_once [] one = absurd (omega (arith, one))
  answered_once (met ∷ []) one = (met, record { turns = refl; status = refl })
  answered_once (met ∷ other ∷ mets) one = absurd (omega (arith, one))

  turns_are : (hurt : Sectors) (Passed : Moment → Type 0) (Last : Volume → Image → Type 0) (said : List ℕ) (i : Image) (mets : List Meeting) → Goes hurt Passed Last (errand_alone command) said i (session_over v) mets (Plain command ∷ [])
      → (turns_of (errand_alone command) mets (session_over v) ≡ blank ∷ []) ⊎ ((met : Meeting) × (turns_of (errand_alone command) mets (session_over v) ≡ turn_for met ∷ []))
  turns_are hurt Passed Last said i [] goes = inl refl
  turns_are hurt Passed Last said i (met ∷ []) goes = inr (met, refl)
  turns_are hurt Passed Last said i (met ∷ other ∷ mets) (j, step, more) = absurd more

-- ---- a put

abbrev pub IsPutReply : Reply → Type 0
IsPutReply reply = ((why : Refusal) × (reply ≡ Said.Refused why)) ⊎ ((key : Key) × (sectors : ℕ) × (reply ≡ Said.Made key sectors))

module _ (met : Met) (name bytes : List ℕ) (keep : Option ℕ) where
  put_enters : (v : Volume) (runs : List SectorRun) (serial : Serial) (o : Option Refusal) → IsPutReply (entered_unless o v name bytes keep runs serial met.reached).0
  put_enters v runs serial None = inr (new_key name v.files, total runs, refl)
  put_enters v runs serial (Some why) = inl (why, refl)

  put_placed : (v : Volume) (need : ℕ) (o : Option (List SectorRun)) → IsPutReply (put_at met v name bytes keep need o).0
  put_placed v need None = inl (no_place v need, refl)
  put_placed v need (Some runs) = put_enters (forced_if met.forces (drawn v)) runs v.serial (enter_fault (forced_if met.forces (drawn v)) name)

  put_tried : (v : Volume) (o : Option Refusal) → IsPutReply (put_unless o met v name bytes keep).0
  put_tried v (Some why) = inl (why, refl)
  put_tried v None =
      let need = sectors_for (length bytes) in
      let at = forced_for_place need v in
      put_placed at need (place_for at need)

  pub put_reply : (v : Volume) → IsPutReply (answer met v (Word.Put name bytes keep)).0
  put_reply v = put_tried v (size_fault (keep_given keep) (length bytes))

module _ (name : List ℕ) (byte : ℕ) where
  abbrev the_put : Command
  the_put = Word.Put name (byte ∷ []) None

  abbrev the_change : Change
  the_change = Change.Put name None (byte ∷ [])

  abbrev the_request : Request
  the_request = Asks.Put name None

  changes_none : (reply : Reply) → IsPutReply reply → (changes_of the_put reply ≡ []) ⊎ (changes_of the_put reply ≡ the_change ∷ [])
  changes_none reply (inl (why, is)) = inl (ap (changes_of the_put) is)
  changes_none reply (inr (key, sectors, is)) = inr (ap (changes_of the_put) is)

  changes_one : (reply : Reply) → IsPutReply reply → reply_status reply ≡ 0 → changes_of the_put reply ≡ the_change ∷ []
  changes_one reply (inl (why, is)) nought = let one : reply_status reply ≡ 1 = ap reply_status is in absurd (omega (arith, nought, one))
  changes_one reply (inr (key, sectors, is)) nought = ap (changes_of the_put) is

  -- it was done
  put_through : (cut : Cut) → MayCut the_request cut → (mets : List Meeting) (v : Volume) → length mets ≡ length (errand_in the_request (byte ∷ []) cut v).commands
      → ((errand_in the_request (byte ∷ []) cut v).ends (answered mets (session_over v) (errand_in the_request (byte ∷ []) cut v).commands)).status ≡ 0
      → changes_in (turns_of (errand_in the_request (byte ∷ []) cut v) mets (session_over v)) ≡ the_change ∷ []
  put_through None may mets v through nought =
      let once = answered_once the_put v mets through in
      let met = once.0 in
      ap changes_in once.1.turns
      ∙ append-nil (changes_of the_put (reply_to the_put v met))
      ∙ changes_one (reply_to the_put v met) (put_reply met.met name (byte ∷ []) None v) (sym once.1.status ∙ nought)
  put_through (Some cutting) may mets v through nought = absurd may

  -- it was begun or not
  put_begun : (cut : Cut) → MayCut the_request cut → (hurt : Sectors) (Passed : Moment → Type 0) (said : List ℕ) (i : Image) (mets : List Meeting) (v : Volume)
      → Goes hurt Passed (IsCutAt cut) (errand_in the_request (byte ∷ []) cut v) said i (session_over v) mets (errand_in the_request (byte ∷ []) cut v).commands → (whole : ℕ)
      → (changes_in (take (suc whole) (turns_of (errand_in the_request (byte ∷ []) cut v) mets (session_over v))) ≡ []) ⊎ (changes_in (take (suc whole) (turns_of (errand_in the_request (byte ∷ []) cut v) mets (session_over v))) ≡ the_change ∷ [])
  put_begun None may hurt Passed said i mets v goes whole = by (turns_are the_put v hurt Passed (IsCutAt None) said i mets goes)
    where
      turns : List Turn
      turns = turns_of (errand_alone the_put) mets (session_over v)

      first : (t : Turn) → turns ≡ t ∷ [] → changes_in (take (suc whole) turns) ≡ t.changes
      first t is = ap (λ (x : List Turn). changes_in (take (suc whole) x)) is ∙ ap changes_in (take_all (suc whole) (t ∷ []) (omega arith)) ∙ append-nil t.changes

      by : (turns ≡ blank ∷ []) ⊎ ((met : Meeting) × (turns ≡ turn_for the_put v met ∷ [])) → (changes_in (take (suc whole) turns) ≡ []) ⊎ (changes_in (take (suc whole) turns) ≡ the_change ∷ [])
      by (inl is) = inl (first blank is)
      by (inr (met, is)) = either (changes_none (reply_to the_put v met) (put_reply met.met name (byte ∷ []) None v))
        where
          either : (changes_of the_put (reply_to the_put v met) ≡ []) ⊎ (changes_of the_put (reply_to the_put v met) ≡ the_change ∷ []) → (changes_in (take (suc whole) turns) ≡ []) ⊎ (changes_in (take (suc whole) turns) ≡ the_change ∷ [])
          either (inl none) = inl (first (turn_for the_put v met) is ∙ none)
          either (inr one) = inr (first (turn_for the_put v met) is ∙ one)
  put_begun (Some cutting) may hurt Passed said i mets v goes whole = absurd may

-- ---- a list

abbrev pub all_versions : Command
all_versions = Word.List (Prefix [])

list_through : (cut : Cut) → MayCut (Asks.One all_versions) cut → (mets : List Meeting) (v : Volume) → length mets ≡ length (errand_in (Asks.One all_versions) [] cut v).commands
    → said_in (turns_of (errand_in (Asks.One all_versions) [] cut v) mets (session_over v)) ≡ listing (filter (λ e. fits (Prefix []) e.key.name) v.entries)
list_through None may mets v through =
    ap said_in (answered_once all_versions v mets through).1.turns ∙ append-nil (listing (filter (λ e. fits (Prefix []) e.key.name) v.entries))
list_through (Some cutting) may mets v through = absurd may

-- ---- what a run leaves of what was kept

-- of the changes that a run finds, no fewer than those that are forced
found_of : (h : List Change) (f : ℕ) (now : Moment) (k : KeepsFirst h f now) (n : ℕ) → IsPrefixOf (take k.made h) k.forced n → IsPrefixOf h f n × (take n (take k.made h) ≡ take n h)
found_of h f now k n prefix =
    let few = few_taken n k.made h prefix.made in
    let forced = prefix.forced in
    let some = k.some in
    (record { forced = omega (arith, forced, some); made = few.1 }, take-take n k.made h few.0)

-- a mount that settled
kept_mounted : (l : Layout) (windows : List WeakRun) (next : WeakRun) (h g : List Change) (f made forced : ℕ) (now : Moment) → IsPlanned l → now.windows ≡ record { present = Some next; next = None }
    → IsSound l (windows ++ next ∷ []) g forced now.image → g ≡ take made h → made ≤ length h → f ≤ forced → KeepsFirst h f now
kept_mounted l windows next h g f made forced now planned settled sound is few some = record {
  layout = l;
  windows = windows ++ next ∷ [];
  made = made;
  few = few;
  forced = forced;
  some = some;
  sound = record {
    planned = planned;
    ends = record { last = last_snoc None windows next ∙ sym (ap (λ (w : Windows). w.present) settled); some = subst (λ (w : Windows). IsSome w.present) (sym settled) refl };
    sound = subst (λ (x : List Change). IsSound l (windows ++ next ∷ []) x forced now.image) is sound;
  };
}

module _ (name : List ℕ) (byte : ℕ) (h : List Change) (old new : Moment) (k : KeepsFirst h (length h) old) (rest : List ℕ) (Past Stops : ℕ → Moment → Type 0) (began : ℕ) (Had : Moment → Type 0) (Only Held : (Moment → Type 0) → Type 0) (before after_it : Report) (result : ℕ) where
  abbrev more : List Change
  more = h ++ the_change name byte ∷ []

  abbrev Leaves : Type 0
  Leaves = LeavesBy (the_request name byte) (byte ∷ []) rest k.layout k.windows (take k.made h) k.forced Past Stops began Had Only Held before after_it old new result

  long : length more ≡ length h + 1
  long = length-append h (the_change name byte ∷ [])

  -- it finds all of them
  all_found : (n : ℕ) → IsPrefixOf (take k.made h) k.forced n → (n ≡ length h) × (take n (take k.made h) ≡ h)
  all_found n prefix =
      let found = found_of h (length h) old k n prefix in
      let least = found.0.forced in
      let most = found.0.made in
      (omega (arith, least, most), found.1 ∙ take_all n h least)

  done_by : result ≡ 0 → Leaves → KeepsFirst more (length h + 1) new
  done_by nought (inl u) = absurd (by u.ends)
    where
      by : IsSpent old new result ⊎ (IsUnsaid before after_it result ⊎ IsBrokenOff (the_request name byte) Unbegun Whatever before after_it (blank ∷ []) old new result) → ⊥
      by (inl spent) = let nine = spent.ends in omega (arith, nought, nine)
      by (inr other) = broken_not_zero (the_request name byte) Unbegun Whatever before after_it (blank ∷ []) old new result other nought
  done_by nought (inr m) = by m.ends
    where
      by : (IsThrough m.run × IsReplied k.layout k.windows m.next (take k.made h) m.count (run_turns m.run) (run_status m.run) (run_end m.run) Held old new result)
          ⊎ (IsUnsaid before after_it result ⊎ IsBrokenOff (the_request name byte) (IsUndone k.layout (k.windows ++ m.next ∷ []) (take m.count (take k.made h)) m.count (run_turns m.run)) (IsUnderWay k.layout (k.windows ++ m.next ∷ []) (take m.count (take k.made h)) m.count (run_turns m.run) Held) before after_it (run_turns m.run) old new result)
          → KeepsFirst more (length h + 1) new
      by (inl (through, replied)) =
          let found = all_found m.count m.prefix in
          let count : m.count ≡ length h = found.0 in
          let one = put_through name byte m.run.cut m.run.may m.run.mets m.volume through (sym replied.ends ∙ nought) in
          let single : length (changes_in (run_turns m.run)) ≡ 1 = ap length one in
          let both : take m.count (take k.made h) ++ changes_in (run_turns m.run) ≡ more = λ i. found.1 i ++ one i in
          kept_mounted k.layout k.windows m.next more (take m.count (take k.made h) ++ changes_in (run_turns m.run)) (length h + 1) (length more) (m.count + length (changes_in (run_turns m.run))) new k.sound.planned replied.settled replied.sound
          (both ∙ sym (take_all (length more) more (omega arith))) (omega arith) (omega (arith, count, single))
      by (inr other) = absurd (broken_not_zero (the_request name byte) (IsUndone k.layout (k.windows ++ m.next ∷ []) (take m.count (take k.made h)) m.count (run_turns m.run)) (IsUnderWay k.layout (k.windows ++ m.next ∷ []) (take m.count (take k.made h)) m.count (run_turns m.run) Held) before after_it (run_turns m.run) old new result other nought)

  left_by : Leaves → KeepsFirst more (length h) new
  left_by (inl u) = record {
    layout = k.layout;
    windows = k.windows;
    made = k.made;
    few = let few = k.few in omega (arith, few, long);
    forced = k.forced;
    some = k.some;
    sound = record {
      planned = k.sound.planned;
      ends = record { last = k.sound.ends.last ∙ sym u.exit.present; some = subst (λ (o : Option WeakRun). IsSome o) (sym u.exit.present) k.sound.ends.some };
      sound = subst (λ (x : List Change). IsSound k.layout k.windows x k.forced new.image) (sym (take-append-le k.made h (the_change name byte ∷ []) k.few)) u.exit.sound;
    };
  }
  left_by (inr m) = by (put_begun name byte m.run.cut m.run.may (in_runs (k.windows ++ m.next ∷ [])) (Past m.at) old.said m.from m.run.mets m.volume m.run.goes s.whole)
    where
      s : LeftByTurns k.layout k.windows m.next (take k.made h) m.count (run_turns m.run) old new
      s = m.exit

      found : (m.count ≡ length h) × (take m.count (take k.made h) ≡ h)
      found = all_found m.count m.prefix

      kept : (made : ℕ) → take m.count (take k.made h) ++ changes_in (take (suc s.whole) (run_turns m.run)) ≡ take made more → made ≤ length more → KeepsFirst more (length h) new
      kept made is few =
          let count : m.count ≡ length h = found.0 in
          kept_mounted k.layout k.windows m.next more (take m.count (take k.made h) ++ changes_in (take (suc s.whole) (run_turns m.run))) (length h) made (m.count + s.forced) new k.sound.planned s.settled s.sound is few (omega (arith, count))

      by : (changes_in (take (suc s.whole) (run_turns m.run)) ≡ []) ⊎ (changes_in (take (suc s.whole) (run_turns m.run)) ≡ the_change name byte ∷ []) → KeepsFirst more (length h) new
      by (inl none) = kept (length h) ((λ i. found.1 i ++ none i) ∙ append-nil h ∙ sym (take_all (length h) h (omega arith)) ∙ sym (take-append-le (length h) h (the_change name byte ∷ []) (omega arith))) (omega (arith, long))
      by (inr one) = kept (length more) ((λ i. found.1 i ++ one i) ∙ sym (take_all (length more) more (omega arith))) (omega arith)

module _ (h : List Change) (f : ℕ) (old new : Moment) (k : KeepsFirst h f old) (rest : List ℕ) (Past Stops : ℕ → Moment → Type 0) (began : ℕ) (Had : Moment → Type 0) (Only Held : (Moment → Type 0) → Type 0) (before after_it : Report) (result : ℕ) where
  listed_by : old.said ≡ [] → result ≡ 0 → LeavesBy (Asks.One all_versions) [] rest k.layout k.windows (take k.made h) k.forced Past Stops began Had Only Held before after_it old new result → ListsPrefix h f new.said
  listed_by unsaid nought (inl u) = absurd (by u.ends)
    where
      by : IsSpent old new result ⊎ (IsUnsaid before after_it result ⊎ IsBrokenOff (Asks.One all_versions) Unbegun Whatever before after_it (blank ∷ []) old new result) → ⊥
      by (inl spent) = let nine = spent.ends in omega (arith, nought, nine)
      by (inr other) = broken_not_zero (Asks.One all_versions) Unbegun Whatever before after_it (blank ∷ []) old new result other nought
  listed_by unsaid nought (inr m) = by m.ends
    where
      by : (IsThrough m.run × IsReplied k.layout k.windows m.next (take k.made h) m.count (run_turns m.run) (run_status m.run) (run_end m.run) Held old new result)
          ⊎ (IsUnsaid before after_it result ⊎ IsBrokenOff (Asks.One all_versions) (IsUndone k.layout (k.windows ++ m.next ∷ []) (take m.count (take k.made h)) m.count (run_turns m.run)) (IsUnderWay k.layout (k.windows ++ m.next ∷ []) (take m.count (take k.made h)) m.count (run_turns m.run) Held) before after_it (run_turns m.run) old new result)
          → ListsPrefix h f new.said
      by (inl (through, replied)) =
          let found = found_of h f old k m.count m.prefix in
          let files : m.volume.files ≡ after (take m.count h) = m.starts.files ∙ ap after found.1 in
          record {
            found = m.count;
            prefix = found.0;
            says = replied.said
                ∙ ap (λ (x : List ℕ). x ++ said_in (run_turns m.run)) unsaid
                ∙ list_through m.run.cut m.run.may m.run.mets m.volume through
                ∙ list_is m.volume.files m.volume.entries m.starts.described.lists
                ∙ ap list_text files;
          }
      by (inr other) = absurd (broken_not_zero (Asks.One all_versions) (IsUndone k.layout (k.windows ++ m.next ∷ []) (take m.count (take k.made h)) m.count (run_turns m.run)) (IsUnderWay k.layout (k.windows ++ m.next ∷ []) (take m.count (take k.made h)) m.count (run_turns m.run) Held) before after_it (run_turns m.run) old new result other nought)

-- ---- by the layout that a root says

abbrev kept_by : (h : List Change) (f : ℕ) (now : Moment) (k : KeepsFirst h f now) (layout : Layout) → IsSaid k.layout now.image layout → KeepsFirst h f now
kept_by h f now k layout said = record {
  layout = layout;
  windows = k.windows;
  made = k.made;
  few = k.few;
  forced = k.forced;
  some = k.some;
  sound = said_disk k.layout layout k.windows (take k.made h) k.forced now said k.sound;
}

module _ (name : List ℕ) (byte : ℕ) (h : List Change) (old new : Moment) (k : KeepsFirst h (length h) old) (rest : List ℕ) (Past Stops : ℕ → Moment → Type 0) (began : ℕ) (Had : Moment → Type 0) (Only Held : (Moment → Type 0) → Type 0) (before after_it : Report) (result : ℕ) where
  abbrev LeavesPut : Type 0
  LeavesPut = LeavesSaid (the_request name byte) (byte ∷ []) rest k.layout k.windows (take k.made h) k.forced Past Stops began Had Only Held before after_it old new result

  pub kept_done : result ≡ 0 → LeavesPut → KeepsFirst (h ++ the_change name byte ∷ []) (length h + 1) new
  kept_done nought (layout, said, leaves) = done_by name byte h old new (kept_by h (length h) old k layout said) rest Past Stops began Had Only Held before after_it result nought leaves

  pub kept_left : LeavesPut → KeepsFirst (h ++ the_change name byte ∷ []) (length h) new
  kept_left (layout, said, leaves) = left_by name byte h old new (kept_by h (length h) old k layout said) rest Past Stops began Had Only Held before after_it result leaves

module _ (h : List Change) (f : ℕ) (old new : Moment) (k : KeepsFirst h f old) (rest : List ℕ) (Past Stops : ℕ → Moment → Type 0) (began : ℕ) (Had : Moment → Type 0) (Only Held : (Moment → Type 0) → Type 0) (before after_it : Report) (result : ℕ) where
  pub kept_listed : old.said ≡ [] → result ≡ 0 → LeavesSaid (Asks.One all_versions) [] rest k.layout k.windows (take k.made h) k.forced Past Stops began Had Only Held before after_it old new result → ListsPrefix h f new.said
  kept_listed unsaid nought (layout, said, leaves) = listed_by h f old new (kept_by h f old k layout said) rest Past Stops began Had Only Held before after_it result unsaid nought leaves
