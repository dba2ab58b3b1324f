-- Each command over a mounted volume: what it may reply and with which status, what it writes, what it may tell as lost,
-- and why it replies so. A new command has its lines here, and what it answers in those of fsd_runs.
use Rattle.std.specs.Prelude.{◌≡◌, ◌⊎◌, ⊤, ℕ, ◌<◌, ◌≤◌, ◌||◌, List, [], length, Option, Some, None, Result, IsTrue}
use Rattle.std.specs.List.{AllByRecursion}
use Rattle.fsd_bytes.specs.declared.refusal.Refusal.{Refusal}
use Rattle.fsd_bytes.specs.declared.refusal.Refusal.TheVariants as Why
use Rattle.fsd_formats.specs.NamePage.{max_keep, sectors_for}
use Rattle.volume_layout.specs.declared.layout.Layout.{Layout}
use Rattle.sector_disk.specs.declared.sector.Sector.TheVariants.{Damaged}
use Rattle.sector_disk.specs.Image.{sector_at}
use Rattle.sector_disk.specs.Machine.{Ledger, Moment}
use Rattle.fsd_files.specs.Answers.{keep_given, least_pages, size_fault}
use Rattle.fsd_files.specs.Disk.{Image, Sectors, Touches, TouchesLonger, nowhere}
use Rattle.fsd_files.specs.declared.reply.Reply.{Reply}
use Rattle.fsd_files.specs.declared.reply.Reply.TheVariants as Said
use Rattle.fsd_sound.specs.Writes.{force_writes, saving_writes}
use Rattle.fsd_texts.specs.declared.command.Command.{Command}
use Rattle.fsd_texts.specs.declared.command.Command.TheVariants as Word
use Rattle.fsd_texts.specs.declared.script_command.ScriptCommand.{ScriptCommand}
use Rattle.fsd_texts.specs.declared.script_command.ScriptCommand.TheVariants.{Plain, OfClient}
use Rattle.fsd_texts.specs.declared.fault.Fault.{Fault}
use Rattle.fsd_runs.specs.Commands.{is_status_of, reply_statuses}
use Rattle.volume_contract.specs.Order.{is_root}
use Rattle.volume_contract.specs.State.{Ages, State, change_len, force_len, put_len, put_writes}
use Rattle.scrub.specs.Scrub.{scrub_writes}
use Rattle.scrub.specs.Telling.{AreOfPage, StandTwice}
use Rattle.volume_turns.specs.Causes.{HasVolume}
use Rattle.volume_turns.specs.Reasons.{BecauseCalled, BecauseDeleted, BecauseGrown, BecauseListed, BecauseLoaded, BecauseMoved, BecauseRead, BecauseScrubbed, BecauseUpgraded, HasScrubbed, HasWritten}

-- ---- refusals

-- there is no place for a version of so many bytes, nor free name pages, or the name has had its last version
abbrev pub LacksRoom : (len : ℕ) → Refusal → Type 0
LacksRoom len (Why.NoSpace need free) = (need ≡ sectors_for len) × (free < need)
LacksRoom len (Why.TooFragmented need most) = (need ≡ sectors_for len) × (most < need)
LacksRoom len (Why.NameTableFull free) = free < least_pages
LacksRoom len Why.VersionsUsedUp = ⊤
LacksRoom len why = ⊥

-- a version of so many bytes is refused for its keep or for these, or else for this
abbrev pub RefusesMaking : (Lacks : Refusal → Type 0) → (keep len : ℕ) → Refusal → Type 0
RefusesMaking Lacks keep len why = let size = size_fault keep len in (size ≡ Some why) ⊎ ((size ≡ None) × Lacks why)

-- a put, since room is wanting
abbrev pub RefusesPut : (keep : Option ℕ) → (len : ℕ) → Refusal → Type 0
RefusesPut keep len why = RefusesMaking (LacksRoom len) (keep_given keep) len why

-- a load also since the version is there
abbrev pub RefusesLoad : (keep len : ℕ) → Refusal → Type 0
RefusesLoad keep len why = RefusesMaking (λ w. (w ≡ Why.Exists) ⊎ LacksRoom len w) keep len why

-- a new keep is refused as too large, or is not, and the name has no version
abbrev pub RefusesKeep : (keep : ℕ) → Refusal → Type 0
RefusesKeep keep why = ((why ≡ Why.KeepTooLarge keep) × (max_keep < keep)) ⊎ ((why ≡ Why.NoSuch) × (keep ≤ max_keep))

-- a version that is to move isn't there, or the name has had its last version, or free name pages are wanting
abbrev pub RefusesMove : Refusal → Type 0
RefusesMove Why.NoSuch = ⊤
RefusesMove Why.VersionsUsedUp = ⊤
RefusesMove (Why.NameTableFull free) = free < least_pages
RefusesMove why = ⊥

-- a growth to so many sectors: the volume has as many, or may not have so many
abbrev pub RefusesGrowth : (sectors : ℕ) → Refusal → Type 0
RefusesGrowth sectors (Why.NotLarger asked) = asked ≡ sectors
RefusesGrowth sectors (Why.PastMost most) = most < sectors
RefusesGrowth sectors why = ⊥

-- ---- replies

-- a damaged sector of the image
abbrev pub HasDamaged : Image → ℕ → Type 0
HasDamaged i s = (s < length i) × (sector_at i s ≡ Damaged)

-- the command may be answered so over this image; a sector that is told as damaged is so
abbrev pub MayReply : Command → Image → Reply → Type 0
MayReply (Word.Put name bytes keep) i (Said.Made key sectors) = (key.name ≡ name) × (sectors ≡ sectors_for (length bytes)) × (size_fault (keep_given keep) (length bytes) ≡ None)
MayReply (Word.Put name bytes keep) i (Said.Refused why) = RefusesPut keep (length bytes) why
MayReply (Word.Put name bytes keep) i reply = ⊥
MayReply (Word.Delete key) i (Said.Deleted k) = k ≡ key
MayReply (Word.Delete key) i (Said.Refused why) = why ≡ Why.NoSuch
MayReply (Word.Delete key) i reply = ⊥
MayReply (Word.Keep name keep) i (Said.Kept key k) = (key.name ≡ name) × (k ≡ keep) × (keep ≤ max_keep)
MayReply (Word.Keep name keep) i (Said.Refused why) = RefusesKeep keep why
MayReply (Word.Keep name keep) i reply = ⊥
MayReply (Word.Move key name) i (Said.Moved from to) = (from ≡ key) × (to.name ≡ name)
MayReply (Word.Move key name) i (Said.Refused why) = RefusesMove why
MayReply (Word.Move key name) i reply = ⊥
MayReply (Word.Load key keep bytes) i (Said.Loaded k) = (k ≡ key) × (size_fault keep (length bytes) ≡ None)
MayReply (Word.Load key keep bytes) i (Said.Refused why) = RefusesLoad keep (length bytes) why
MayReply (Word.Load key keep bytes) i reply = ⊥
MayReply (Word.Get key) i (Said.Bytes k bytes) = k ≡ key
MayReply (Word.Get key) i (Said.DamagedAt k s) = (k ≡ key) × HasDamaged i s
MayReply (Word.Get key) i (Said.Refused why) = why ≡ Why.NoSuch
MayReply (Word.Get key) i reply = ⊥
MayReply (Word.List pattern) i (Said.Listed entries) = ⊤
MayReply (Word.List pattern) i reply = ⊥
MayReply Word.Force i Said.Forced = ⊤
MayReply Word.Force i reply = ⊥
MayReply Word.Tick i Said.Forced = ⊤
MayReply Word.Tick i reply = ⊥
MayReply Word.Stat i (Said.Counts free waiting pages versions) = ⊤
MayReply Word.Stat i reply = ⊥
MayReply Word.Scrub i (Said.Scrubbed found healed) = AllByRecursion (λ x. HasDamaged i x.1) found
MayReply Word.Scrub i reply = ⊥
MayReply Word.Upgrade i Said.Upgraded = ⊤
MayReply Word.Upgrade i (Said.Refused why) = why ≡ Why.LayoutIs 2
MayReply Word.Upgrade i reply = ⊥
MayReply (Word.Grow sectors) i (Said.Grown n free) = n ≡ sectors
MayReply (Word.Grow sectors) i (Said.Refused why) = RefusesGrowth sectors why
MayReply (Word.Grow sectors) i reply = ⊥

-- the status of a reply to it is one of these
abbrev pub IsStatusFrom : Command → ℕ → Type 0
IsStatusFrom command status = IsTrue (is_status_of (reply_statuses command) status)

-- ---- what is written

-- where a command writes over a volume of this state
abbrev pub may_write : Command → State → Sectors
may_write (Word.Put name bytes keep) s = put_writes s (sectors_for (length bytes))
may_write (Word.Delete key) s = force_writes s.layout
may_write (Word.Keep name keep) s = force_writes s.layout
may_write (Word.Move key name) s = force_writes s.layout
may_write (Word.Load key keep bytes) s = put_writes s (sectors_for (length bytes))
may_write Word.Force s = force_writes s.layout
may_write Word.Tick s = force_writes s.layout
may_write Word.Scrub s = scrub_writes s.layout
may_write Word.Upgrade s = is_root
may_write (Word.Grow sectors) s = is_root
-- by default nowhere
may_write command s = nowhere

-- it has written there alone; a growth may also have given the image more sectors
abbrev pub TouchesIn : Command → (may : Sectors) → (old new : Moment) → Type 0
TouchesIn (Word.Grow sectors) may old new = TouchesLonger sectors may old new
-- by default there are as many as before
TouchesIn command may old new = Touches may old new

abbrev pub TouchesBy : Command → State → (old new : Moment) → Type 0
TouchesBy command s old new = TouchesIn command (may_write command s) old new

-- and by itself also where a map is saved
abbrev pub TouchesAlone : Command → State → (old new : Moment) → Type 0
TouchesAlone command s old new = TouchesIn command (λ t. may_write command s t || saving_writes s.layout t) old new

-- a command that only reads leaves the volume's state, and so does a scrub where no page waits; behind an upgrade or a
-- growth the same pages wait
abbrev pub KeepsState : Command → State → State → Type 0
KeepsState (Word.Put name bytes keep) s t = ⊤
KeepsState (Word.Delete key) s t = ⊤
KeepsState (Word.Keep name keep) s t = ⊤
KeepsState (Word.Move key name) s t = ⊤
KeepsState (Word.Load key keep bytes) s t = ⊤
KeepsState Word.Force s t = ⊤
KeepsState Word.Tick s t = ⊤
KeepsState Word.Scrub s t = s.dirty ≡ [] → t ≡ s
KeepsState Word.Upgrade s t = t.dirty ≡ s.dirty
KeepsState (Word.Grow sectors) s t = t.dirty ≡ s.dirty
-- by default it stays
KeepsState command s t = t ≡ s

-- nothing is written behind the mount, or only there, and where a map is saved
abbrev pub WritesIn : Command → (may : Layout → Sectors) → (sectors : ℕ) → (old mounted new : Moment) → Type 0
WritesIn command may sectors old mounted new = Ages mounted new ⊎ ((volume : HasVolume sectors old) × TouchesIn command (λ t. may volume.layout t || saving_writes volume.layout t) mounted new)

-- What is written behind the mount beside a map: nothing by a command that only reads; by an upgrade only the roots, and by
-- a growth these, and the image may get more sectors; by another that makes no version, only where a force writes, and by a
-- scrub also roots and in the data area.
abbrev pub WritesBehind : Command → (sectors : ℕ) → (old mounted new : Moment) → Type 0
WritesBehind (Word.Put name bytes keep) sectors old mounted new = ⊤
WritesBehind (Word.Delete key) sectors old mounted new = WritesIn (Word.Delete key) force_writes sectors old mounted new
WritesBehind (Word.Keep name keep) sectors old mounted new = WritesIn (Word.Keep name keep) force_writes sectors old mounted new
WritesBehind (Word.Move key name) sectors old mounted new = WritesIn (Word.Move key name) force_writes sectors old mounted new
WritesBehind (Word.Load key keep bytes) sectors old mounted new = ⊤
WritesBehind Word.Force sectors old mounted new = WritesIn Word.Force force_writes sectors old mounted new
WritesBehind Word.Tick sectors old mounted new = WritesIn Word.Tick force_writes sectors old mounted new
WritesBehind Word.Scrub sectors old mounted new = WritesIn Word.Scrub scrub_writes sectors old mounted new
WritesBehind Word.Upgrade sectors old mounted new = WritesIn Word.Upgrade (λ l. is_root) sectors old mounted new
WritesBehind (Word.Grow n) sectors old mounted new = WritesIn (Word.Grow n) (λ l. is_root) sectors old mounted new
-- by default nothing
WritesBehind command sectors old mounted new = WritesIn command (λ l. nowhere) sectors old mounted new

-- how many sectors a command writes at most over a volume of this state, but for the force behind it, and for what a
-- scrub heals
abbrev pub most_written : Command → State → ℕ
most_written (Word.Put name bytes keep) s = put_len s (sectors_for (length bytes))
most_written (Word.Delete key) s = change_len s
most_written (Word.Keep name keep) s = change_len s
most_written (Word.Move key name) s = change_len s
most_written (Word.Load key keep bytes) s = put_len s (sectors_for (length bytes))
most_written Word.Force s = force_len s
most_written Word.Tick s = force_len s
most_written Word.Scrub s = force_len s
most_written Word.Upgrade s = 2
most_written (Word.Grow sectors) s = 2
-- by default none
most_written command s = 0

-- it has written so many, but for a scrub
abbrev pub HasWrittenBy : Command → State → Ledger → Ledger → Result Reply Fault → Type 0
HasWrittenBy Word.Scrub s old new result = HasScrubbed s old new result
-- by default as many as it writes at most
HasWrittenBy command s old new result = HasWritten (most_written command s) old new result

-- ---- what is lost

-- the sectors that a command may tell as lost: two copies of one page, and a scrub also those of the root and of the
-- anchor
abbrev pub MayLose : Command → Layout → (a b : ℕ) → Type 0
MayLose Word.Scrub = StandTwice
-- by default the copies of a page
MayLose command = AreOfPage

-- ---- why

module _ {S : Type 0} (state : S → State) (resident : S → ℕ → Option (List ℕ)) where
  abbrev pub Because : Command → (s t : State) → (old new : Moment) → Reply → Type 0
  Because (Word.Put name bytes keep) s t old new reply = ⊤
  Because (Word.Delete key) s t old new reply = BecauseDeleted state resident key s t old new reply
  Because (Word.Keep name keep) s t old new reply = ⊤
  Because (Word.Move key name) s t old new reply = BecauseMoved state resident key s t old new reply
  Because (Word.Load key keep bytes) s t old new reply = BecauseLoaded state resident key s t old new reply
  Because (Word.List pattern) s t old new reply = BecauseListed state resident pattern s t old new reply
  Because (Word.Get key) s t old new reply = BecauseRead state resident key s t old new reply
  Because Word.Force s t old new reply = ⊤
  Because Word.Tick s t old new reply = ⊤
  Because Word.Stat s t old new reply = ⊤
  Because Word.Scrub s t old new reply = BecauseScrubbed s new reply
  Because Word.Upgrade s t old new reply = BecauseUpgraded s t new reply
  Because (Word.Grow sectors) s t old new reply = BecauseGrown sectors s t new reply

  -- so it is of a script's command
  abbrev pub BecauseIn : ScriptCommand → (s t : State) → (old new : Moment) → Reply → Type 0
  BecauseIn (Plain command) s t old new reply = Because command s t old new reply
  BecauseIn (OfClient c call) s t old new reply = BecauseCalled state resident call s t old new reply
