-- What is said of the versions, one after another.
use Rattle.std.specs.Prelude.{◌≡◌, ⊤, ℕ, Bool, List, [], ◌∷◌, ◌++◌, length, map, Option, Some, Contains, IsTrue, Result, Ok, Err}
use Rattle.std.specs.List.{concat}
use Rattle.fsd_bytes.specs.declared.refusal.Refusal.TheVariants as Why
use Rattle.fsd_dumps.specs.Dump.{Dumped, item_bytes}
use Rattle.fsd_formats.specs.declared.entry.Entry.{Entry}
use Rattle.sector_disk.specs.declared.machine.Machine.{Ghosts}
use Rattle.sector_disk.specs.declared.sector.Sector.TheVariants.{Damaged}
use Rattle.sector_disk.specs.Image.{sector_at}
use Rattle.sector_disk.specs.Machine.{Moment, Utters}
use Rattle.fsd_log.specs.Scan.{Placed}
use Rattle.fsd_files.specs.Answers.{entry_of}
use Rattle.fsd_files.specs.Disk.{Image}
use Rattle.fsd_files.specs.Files.{Files}
use Rattle.fsd_files.specs.Kept.{data_sectors}
use Rattle.fsd_files.specs.Volume.{Volume}
use Rattle.fsd_sound.specs.Mounted.{Mounted}
use Rattle.fsd_runs.specs.declared.span.Span.{Span}
use Rattle.fsd_runs.specs.Dumps.{chosen, dump_of, dumped_of, is_in_span, latest_of, made_before}
use Rattle.volume_contract.specs.State.{Known, Stands, State, volume_of}
use Rattle.scrub.specs.Walk.{IsWalked}
use Rattle.fsd_bytes.specs.declared.key.Key.{Key}
use Rattle.volume_dump.specs.declared.fault.DumpFault.{DumpFault}
use Rattle.volume_dump.specs.declared.fault.DumpFault.TheVariants.{Refused, Cut, Output, Memory}
use Rattle.volume_dump.specs.declared.survey.Tally.{Tally}
use Rattle.volume_dump.specs.Dump.{ReadsAndSays, SaysFirst, SaysSome, SaysUpTo}

-- ---- the text

-- a version with these bytes
abbrev pub with_bytes : Entry → List ℕ → Dumped
with_bytes e bytes = record { key = e.key; keep = e.keep; kind = 0; bytes = bytes }

-- the chosen ones of these entries, each as it is said
abbrev pub items_of : Span → Files → List Entry → List (List ℕ)
items_of span files entries = map item_bytes (map (dumped_of files) (chosen span entries))

-- and all together
abbrev pub said_of : Span → Files → List Entry → List ℕ
said_of span files entries = concat (items_of span files entries)

-- ---- any volume

-- what a stop leaves of a call that says this text of a volume, where so much is known of it
abbrev pub LeavesSaying : {S : Type 0} → (state : S → State) → (has : S → Mounted → List Placed → Type 0) → S → (Known → Type 0) → (text : Known → List ℕ) → Moment → Moment → Type 0
LeavesSaying state has s Is text old left = SaysSome old left × ((k : Known) → Stands state has s k old → Is k → Utters (text k) old left)

-- The disk is only read, the volume tells what it told, and where it stood it stands.
pub record SaysVolume {D S : Type 0} (M : Ghosts D) (state : S → State) (has : S → Mounted → List Placed → Type 0) (fault : Option ℕ) (unsaid : Bool) (R : Moment → Moment → Type 0) (old new : S) (before now : D) : Type 0 where
  pub disk : ReadsAndSays M fault unsaid R before now
  pub same : state new ≡ state old
  pub stands : M.honest now → (k : Known) → Stands state has old k (M.now before) → Stands state has new k (M.now now)

-- ---- over a volume that stands

-- the entry is one of the volume
abbrev pub IsEntered : Entry → Known → Type 0
IsEntered e k = entry_of e.key (volume_of k).entries ≡ Some e

-- why a version is not read whole: one of its data sectors is damaged, or a fault from outside has ended it
abbrev pub IsUnread : Entry → Image → DumpFault → Type 0
IsUnread e j (Cut s) = Contains (data_sectors e.runs) s × (sector_at j s ≡ Damaged)
IsUnread e j Memory = ⊤
IsUnread e j (Refused (Why.Device s)) = ⊤
IsUnread e j other = ⊥

-- An entry is chosen, and one of its data sectors is damaged.
pub record SpoilsEntry (span : Span) (e : Entry) (j : Image) (s : ℕ) : Type 0 where
  pub chosen_is : IsTrue (is_in_span span e.serial)
  pub own : Contains (data_sectors e.runs) s
  pub damaged : sector_at j s ≡ Damaged

-- one entry is said, where it is chosen; or nothing is, but where the output fails
abbrev pub EndsEntry : {T : Type 0} → Span → Volume → Entry → (old new : Moment) → Result T DumpFault → Type 0
EndsEntry span v e old new (Ok x) = new.said ≡ old.said ++ said_of span v.files (e ∷ [])
EndsEntry span v e old new (Err (Cut s)) = SpoilsEntry span e new.image s × (new.said ≡ old.said)
EndsEntry span v e old new (Err Output) = ⊤
EndsEntry span v e old new (Err Memory) = new.said ≡ old.said
EndsEntry span v e old new (Err (Refused (Why.Device s))) = new.said ≡ old.said
EndsEntry span v e old new (Err other) = ⊥

-- The first ones of the entries are said, as far as they are chosen.
pub record HasSaid (span : Span) (v : Volume) (count : ℕ) (last : Option Key) (old now : Moment) : Type 0 where
  pub front : List Entry
  pub walked : IsWalked v.entries front count last
  pub said : now.said ≡ old.said ++ said_of span v.files front

-- So it is of some first ones.
pub record SaysFront (span : Span) (v : Volume) (old now : Moment) : Type 0 where
  pub front : List Entry
  pub rest : List Entry
  pub all : v.entries ≡ front ++ rest
  pub said : now.said ≡ old.said ++ said_of span v.files front

-- So it is of those in front of one that is damaged.
pub record SaysBefore (span : Span) (v : Volume) (old now : Moment) (s : ℕ) : Type 0 where
  pub front : List Entry
  pub entry : Entry
  pub rest : List Entry
  pub all : v.entries ≡ front ++ entry ∷ rest
  pub spoils : SpoilsEntry span entry now.image s
  pub said : now.said ≡ old.said ++ said_of span v.files front

abbrev pub EndsEntries : {T : Type 0} → Span → Volume → (old new : Moment) → Result T DumpFault → Type 0
EndsEntries span v old new (Ok x) = new.said ≡ old.said ++ said_of span v.files v.entries
EndsEntries span v old new (Err (Cut s)) = SaysBefore span v old new s
EndsEntries span v old new (Err Output) = ⊤
EndsEntries span v old new (Err Memory) = SaysFront span v old new
EndsEntries span v old new (Err (Refused (Why.Device s))) = SaysFront span v old new
EndsEntries span v old new (Err other) = ⊥

-- ---- the whole text

-- The head is to tell so.
pub record IsHeaded (span : Span) (s : Tally) (k : Known) : Type 0 where
  pub count : s.chosen ≡ length (chosen span (volume_of k).entries)
  pub latest : s.latest ≡ latest_of (made_before span.before (volume_of k).entries)

abbrev pub EndsSaying : Span → Volume → (old new : Moment) → (count : ℕ) → Result ℕ DumpFault → Type 0
EndsSaying span v old new count (Ok n) = (n ≡ count) × (new.said ≡ old.said ++ concat (dump_of span v))
EndsSaying span v old new count (Err (Cut s)) = SaysUpTo span v old new s
EndsSaying span v old new count (Err Output) = ⊤
EndsSaying span v old new count (Err Memory) = SaysFirst span v old new
EndsSaying span v old new count (Err (Refused (Why.Device s))) = SaysFirst span v old new
EndsSaying span v old new count (Err other) = ⊥
