-- Why a command by itself is answered so, and how much it has written, whatever the image.
use Rattle.std.specs.Prelude.{◌≡◌, ◌⊎◌, ⊤, ℕ, ◌+◌, ◌<◌, ◌≤◌, List, [], ◌∷◌, length, Option, Some, None, Result, Ok, Err, IsTrue}
use Rattle.std.specs.List.{AllByRecursion}
use Rattle.fsd_bytes.specs.declared.key.Key.{Key}
use Rattle.fsd_bytes.specs.declared.pattern.Pattern.{Pattern}
use Rattle.fsd_bytes.specs.declared.refusal.Refusal.TheVariants as Why
use Rattle.fsd_formats.specs.declared.entry.Entry.{Entry}
use Rattle.volume_layout.specs.declared.kind.Kind.TheVariants.{Two, Three}
use Rattle.volume_layout.specs.Layout.{is_data, most_of, with_kind}
use Rattle.run_table.specs.RunTable.{total}
use Rattle.fsd_table.specs.Table.{Visit}
use Rattle.fsd_files.specs.Answers.{grow_fault}
use Rattle.fsd_files.specs.Disk.{Image, Sectors}
use Rattle.fsd_files.specs.Files.{File}
use Rattle.fsd_files.specs.Kept.{IsWhole, KeptIn, range_sectors}
use Rattle.fsd_files.specs.declared.reply.Reply.{Reply}
use Rattle.fsd_files.specs.declared.reply.Reply.TheVariants as Said
use Rattle.fsd_texts.specs.declared.call.Call.{Call}
use Rattle.fsd_texts.specs.declared.call.Call.TheVariants as Calls
use Rattle.fsd_texts.specs.declared.fault.Fault.{Fault}
use Rattle.sector_disk.specs.Machine.{Ledger, Moment}
use Rattle.fsd_sound.specs.Lookups.{HasKey, HasNext, LacksKey, LacksLater}
use Rattle.fsd_table.specs.Reached.{ReachesPage, HasEntry}
use Rattle.volume_contract.specs.Causes.{IsTaken, ShowsOfPages}
use Rattle.volume_contract.specs.Ends.{IsLater}
use Rattle.volume_contract.specs.Growth.{grown_state}
use Rattle.volume_contract.specs.Healing.{TwinsStand}
use Rattle.volume_contract.specs.State.{Ages, State, force_len}
use Rattle.volume_contract.specs.Upgrade.{RootsStand}
use Rattle.scrub.specs.Looking.{AreDamaged}
use Rattle.scrub.specs.Scrub.{WritesHealed}
use Rattle.scrub.specs.Walk.{last_key}
use Rattle.volume_turns.specs.Listing.{fitting}

-- ---- what is written

abbrev pub IsUpTo : ℕ → Ledger → Ledger → Type 0
IsUpTo n old new = (old.written ≤ new.written) × (new.written ≤ old.written + n)

-- so many sectors are counted as written, where it is done, and no more where it is refused
abbrev pub HasWritten : ℕ → Ledger → Ledger → Result Reply Fault → Type 0
HasWritten n old new (Ok (Said.Refused why)) = IsUpTo n old new
HasWritten n old new (Ok answer) = new.written ≡ old.written + n
HasWritten n old new (Err fault) = IsUpTo n old new

-- beside these a scrub that is done has written the sectors that it tells as healed, no more of them than a number can
-- tell; of one that a fault has ended nothing is told
abbrev pub HasScrubbed : State → Ledger → Ledger → Result Reply Fault → Type 0
HasScrubbed s old new (Ok (Said.Scrubbed found healed)) = WritesHealed (force_len s) old new healed
HasScrubbed s old new result = ⊤

-- ---- what a scrub has found and healed

-- each is a data sector, which is damaged in the image; what stands twice is whole, but for what the open window has worn
abbrev pub BecauseScrubbed : State → Moment → Reply → Type 0
BecauseScrubbed s new (Said.Scrubbed found healed) = AreDamaged s.layout new.image found × TwinsStand s.layout new
BecauseScrubbed s new reply = ⊤

-- ---- which layout the volume has

-- it had layout 1 and both roots say 2 now, or it had layout 2
abbrev pub BecauseUpgraded : (s t : State) → (new : Moment) → Reply → Type 0
BecauseUpgraded s t new Said.Upgraded = (s.layout.kind ≡ Two) × (t.layout ≡ with_kind Three s.layout) × RootsStand t new
BecauseUpgraded s t new (Said.Refused why) = s.layout.kind ≡ Three
BecauseUpgraded s t new reply = ⊤

-- ---- how many sectors it has

-- it had fewer and may have so many; both roots say so many now, and so many of them are free
abbrev pub HasGrownTo : (sectors free : ℕ) → (s t : State) → (new : Moment) → Type 0
HasGrownTo sectors free s t new = (s.layout.sectors < sectors) × (sectors ≤ most_of s.layout) × (t ≡ grown_state sectors s) × RootsStand t new × (free ≡ total t.free)

-- so it is, or this keeps it from growing
abbrev pub BecauseGrown : (sectors : ℕ) → (s t : State) → (new : Moment) → Reply → Type 0
BecauseGrown sectors s t new (Said.Grown n free) = HasGrownTo sectors free s t new
BecauseGrown sectors s t new (Said.Refused why) = grow_fault s.layout sectors ≡ Some why
BecauseGrown sectors s t new reply = ⊤

-- ---- what the pages that were read show

-- A leaf that has an entry of the key, whose sectors are taken. The bytes are as many as the entry has. All its data sectors
-- were whole in the image, and the bytes are those of a version that they keep there.
pub record HasVersion (s : State) (i : Image) (key : Key) (bytes : List ℕ) (v : Visit) : Type 0 where
  pub entry : Entry
  pub there : HasEntry entry v
  pub key_is : entry.key ≡ key
  pub taken : IsTaken s entry
  pub many : length bytes ≡ entry.length
  pub whole : AllByRecursion (IsWhole i) (range_sectors entry.runs 0 entry.length)
  pub gives : (file : File) (hurt : Sectors) → entry.length ≡ length file.bytes → KeptIn i hurt file.bytes entry.runs → bytes ≡ file.bytes

module _ {S : Type 0} (state : S → State) (resident : S → ℕ → Option (List ℕ)) where
  -- The pages that a call has read show this of all pages. The call began over a volume of this state, at a moment to which
  -- the disk has only aged since.
  pub record ShowedOf (s t : State) (old new : Moment) (Is : Moment → List (List ℕ) → Type 0) : Type 0 where
    pub by : S
    pub same : state by ≡ s
    pub from : Moment
    pub aged : Ages old from
    pub shows : ShowsOfPages (state by) t (resident by) from new (Is from)

  -- they show it of one that is reached
  abbrev pub Showed : (s t : State) → (old new : Moment) → (Moment → Visit → Type 0) → Type 0
  Showed s t old new Is = ShowedOf s t old new (λ from. ReachesPage (Is from))

  -- they show that this entry is the first later one
  abbrev pub ShowedNext : (s t : State) → (old new : Moment) → Option Key → Entry → Type 0
  ShowedNext s t old new after e = ShowedOf s t old new (λ from pages. ReachesPage (HasNext after e pages) pages)

  -- the entries come one behind the other: each is of a greater key than the one before it, and was shown as the first later
  -- one
  abbrev pub ComeBehind : (s t : State) → (old new : Moment) → Option Key → List Entry → Type 0
  ComeBehind s t old new after [] = ⊤
  ComeBehind s t old new after (e ∷ entries) = IsLater after (Some e) × ShowedNext s t old new after e × ComeBehind s t old new (Some e.key) entries

  -- So many versions were met, one behind the other from the first of all on, and those that fit are listed:
  -- as many as the volume counts, or none was behind them.
  pub record ListsAll (pattern : Pattern) (s t : State) (old new : Moment) (listed : List Entry) : Type 0 where
    pub met : List Entry
    pub come : ComeBehind s t old new None met
    pub fit : listed ≡ fitting pattern met
    pub ends : (length met ≡ s.versions) ⊎ Showed s t old new (λ from. LacksLater (last_key met))

  -- No version of the key is there: a leaf between whose bounds the key stands lacks it. Bytes are all those of the entry,
  -- which its sectors keep. A sector that is told as damaged is one of the data area.
  abbrev pub BecauseRead : Key → (s t : State) → (old new : Moment) → Reply → Type 0
  BecauseRead key s t old new (Said.Refused why) = why ≡ Why.NoSuch → Showed s t old new (λ from. LacksKey key)
  BecauseRead key s t old new (Said.Bytes k bytes) = Showed s t old new (λ from. HasVersion t from.image key bytes)
  BecauseRead key s t old new (Said.DamagedAt k n) = IsTrue (is_data s.layout n)
  BecauseRead key s t old new reply = ⊤

  -- A leaf that was reached had an entry of the version that is taken out.
  abbrev pub BecauseDeleted : Key → (s t : State) → (old new : Moment) → Reply → Type 0
  BecauseDeleted key s t old new (Said.Deleted k) = Showed s t old new (λ from. HasKey key)
  BecauseDeleted key s t old new reply = ⊤

  -- The same of one that moves; or none of the key is there.
  abbrev pub BecauseMoved : Key → (s t : State) → (old new : Moment) → Reply → Type 0
  BecauseMoved key s t old new (Said.Refused why) = why ≡ Why.NoSuch → Showed s t old new (λ from. LacksKey key)
  BecauseMoved key s t old new (Said.Moved k to) = Showed s t old new (λ from. HasKey key)
  BecauseMoved key s t old new reply = ⊤

  -- One is there under whose key a version was to be loaded.
  abbrev pub BecauseLoaded : Key → (s t : State) → (old new : Moment) → Reply → Type 0
  BecauseLoaded key s t old new (Said.Refused why) = why ≡ Why.Exists → Showed s t old new (λ from. HasKey key)
  BecauseLoaded key s t old new reply = ⊤

  abbrev pub BecauseListed : Pattern → (s t : State) → (old new : Moment) → Reply → Type 0
  BecauseListed pattern s t old new (Said.Listed entries) = ListsAll pattern s t old new entries
  BecauseListed pattern s t old new reply = ⊤

  -- Of a client that opens a version: none of the key is there, or one is, with an entry of this length.
  abbrev pub BecauseOpened : Key → (s t : State) → (old new : Moment) → Reply → Type 0
  BecauseOpened key s t old new (Said.Refused why) = why ≡ Why.NoSuch → Showed s t old new (λ from. LacksKey key)
  BecauseOpened key s t old new (Said.Opened c len) = (e : Entry) × (e.key ≡ key) × (e.length ≡ len) × Showed s t old new (λ from. HasEntry e)
  BecauseOpened key s t old new reply = ⊤

  abbrev pub BecauseCalled : Call → (s t : State) → (old new : Moment) → Reply → Type 0
  BecauseCalled (Calls.Begin name len) s t old new reply = ⊤
  BecauseCalled (Calls.Piece bytes) s t old new reply = ⊤
  BecauseCalled Calls.Close s t old new reply = ⊤
  BecauseCalled Calls.Drop s t old new reply = ⊤
  BecauseCalled (Calls.Open key) s t old new reply = BecauseOpened key s t old new reply
  BecauseCalled (Calls.Next len) s t old new reply = ⊤
  BecauseCalled Calls.Done s t old new reply = ⊤
