-- What a volume answers, and what the volume is then. What its words and the volume determine is a function; what they
-- do not is `Met`. Faults of the disk, want of memory and a mount that is worn out stand outside.
use Rattle.std.specs.Prelude.{ℕ, suc, Bool, List, [], ◌∷◌, ◌++◌, length, map, filter, Option, Some, None, IfSome, is_some, nat_lt, if◌then◌else◌, slice_get, nat_le}
use Rattle.std.specs.List.{flat_map, last_or, AllByRecursion}
use Rattle.std.specs.FinMap.{find}
use Rattle.std.specs.FinMap.Entries.{by_order}
use Rattle.fsd_bytes.specs.Bytes.{same_bytes}
use Rattle.fsd_bytes.specs.declared.key.Key.{Key}
use Rattle.fsd_bytes.specs.declared.key.Serial.{Serial}
use Rattle.fsd_bytes.specs.declared.pattern.Pattern.{Pattern}
use Rattle.fsd_bytes.specs.declared.refusal.Refusal.{Refusal}
use Rattle.fsd_bytes.specs.declared.refusal.Refusal.TheVariants.{NoSuch, Exists, TooLong, NoSpace, TooFragmented, NameTableFull, VersionsUsedUp, KeepTooLarge, LayoutIs, NotLarger, PastMost}
use Rattle.fsd_bytes.specs.Keys.{key_cmp, key_lt, same_key, max_u32, fits}
use Rattle.volume_layout.specs.declared.kind.Kind.{Kind}
use Rattle.volume_layout.specs.declared.kind.Kind.TheVariants.{Two, Three}
use Rattle.volume_layout.specs.declared.layout.Layout.{Layout}
use Rattle.volume_layout.specs.Layout.{most_of, with_kind, with_sectors}
use Rattle.run_table.specs.declared.run.Run.{Run}
use Rattle.run_table.specs.RunTable.{sectors_of, total}
use Rattle.run_table.specs.Space.{best}
use Rattle.fsd_formats.specs.declared.entry.Entry.{Entry}
use Rattle.fsd_formats.specs.Leader.{leader_of, leader_bytes}
use Rattle.fsd_formats.specs.NamePage.{max_keep, max_length, sectors_for}
use Rattle.fsd_files.specs.Disk.{Image, Sectors, Has}
use Rattle.fsd_files.specs.Files.{File, Change, step, new_key, new_keep, gone_keys, moved_keep, gone_by_move}
use Rattle.fsd_files.specs.Kept.{FirstDamaged, IsWhole, KeptIn, range_sectors}
use Rattle.fsd_files.specs.declared.reply.Reply.{Reply}
use Rattle.fsd_files.specs.declared.reply.Reply.TheVariants.{Refused, Made, Deleted, Kept, Moved, Listed, Bytes, DamagedAt, Forced, Counts, Scrubbed, Upgraded, Grown, Found, Loaded}
use Rattle.fsd_files.specs.Volume.{Volume, plans_of, free_runs, free_count, waiting_count, pages_free, place_for, forced, forced_for_place, forced_if, drawn, entries_at, entries_without}

-- a reply, and the volume as it leaves it
abbrev pub Outcome : Type 0
Outcome = Reply × Volume

abbrev pub refused : Volume → Refusal → Outcome
refused v why = (Refused why, v)

-- What a command meets that neither its words nor the volume determine: whether the volume forces by itself on the way,
-- how many pages the table has once a change is made, and the first damaged sector, if one of those that it reads is; of
-- a scrub the data sectors that read damaged, and how many others it heals.
pub record Met : Type 0 where
  pub forces : Bool
  pub reached : ℕ
  pub damaged : Option ℕ
  pub found : List (Key × ℕ)
  pub healed : ℕ

-- ---- entries in the order of their keys

abbrev pub entry_put : Entry → List Entry → List Entry
entry_put new [] = new ∷ []
entry_put new (e ∷ entries) = by_order (key_cmp new.key e.key) (new ∷ e ∷ entries) (new ∷ entries) (e ∷ entry_put new entries)

abbrev pub entry_of : Key → List Entry → Option Entry
entry_of key [] = None
entry_of key (e ∷ entries) = if same_key e.key key then Some e else entry_of key entries

-- the one with the least later key; any key is later than none
abbrev pub entry_after : Option Key → List Entry → Option Entry
entry_after after [] = None
entry_after None (e ∷ entries) = Some e
entry_after (Some key) (e ∷ entries) = if key_lt key e.key then Some e else entry_after (Some key) entries

abbrev pub highest_entry : List ℕ → List Entry → Option Entry
highest_entry name entries = last_or None (filter (λ e. same_bytes name e.key.name) entries)

abbrev pub entry_kept : Bool → ℕ → Entry → Entry
entry_kept here keep e = if here then record e { keep = keep } else e

abbrev pub entries_with_keep : Key → ℕ → List Entry → List Entry
entries_with_keep key keep entries = map (λ e. entry_kept (same_key e.key key) keep e) entries

-- ---- making a version

-- before anything is looked up
abbrev pub size_fault : (keep length : ℕ) → Option Refusal
size_fault keep length = if nat_lt max_keep keep then Some (KeepTooLarge keep) else (if nat_lt max_length length then Some (TooLong length) else None)

abbrev pub keep_given : Option ℕ → ℕ
keep_given None = 0
keep_given (Some keep) = keep

abbrev pub no_place : Volume → ℕ → Refusal
no_place v need = if nat_lt (free_count v) need then NoSpace need (free_count v) else TooFragmented need (best (free_runs v))

-- so many pages have to be free before an insertion, which takes one less at most
abbrev pub least_pages : ℕ
least_pages = 8

-- why a version of the name can't be entered
abbrev pub enter_fault : Volume → List ℕ → Option Refusal
enter_fault v name =
    if nat_lt max_u32 (new_key name v.files).version then Some VersionsUsedUp
    else (if nat_lt (pages_free v) least_pages then Some (NameTableFull (pages_free v)) else None)

-- the entry of a version that is made now
abbrev pub new_entry : Volume → List ℕ → List ℕ → Option ℕ → List Run → Serial → Entry
new_entry v name bytes given runs serial =
    record { key = new_key name v.files; keep = new_keep name given v.files; serial = serial; length = length bytes; runs = runs }

-- the sectors of the versions that go
abbrev pub gone_sectors : List Key → List Entry → List ℕ
gone_sectors keys entries = flat_map sectors_of (plans_of (entries_at keys entries))

-- the version takes its runs, and what goes beyond its keep waits; r pages are reached then
abbrev pub with_version : Volume → List ℕ → List ℕ → Option ℕ → List Run → Serial → ℕ → Volume
with_version v name bytes given runs serial r =
    let out = gone_keys name given bytes v.files in
    record v {
      files = step v.files (Change.Put name given bytes);
      entries = entries_without out (entry_put (new_entry v name bytes given runs serial) v.entries);
      removed = v.removed ++ gone_sectors out v.entries;
      reached = r;
      unforced = suc v.unforced;
    }

abbrev pub entered_unless : Option Refusal → Volume → List ℕ → List ℕ → Option ℕ → List Run → Serial → ℕ → Outcome
entered_unless (Some why) v name bytes given runs serial r = refused v why
entered_unless None v name bytes given runs serial r = (Made (new_key name v.files) (total runs), with_version v name bytes given runs serial r)

-- the end of a creation whose bytes stand in these runs
abbrev pub entered_version : Met → Volume → List ℕ → List ℕ → Option ℕ → List Run → Serial → Outcome
entered_version met v name bytes given runs serial =
    let at = forced_if met.forces v in
    entered_unless (enter_fault at name) at name bytes given runs serial met.reached

-- in the runs that were picked; the serial is drawn as they are
abbrev pub put_at : Met → Volume → List ℕ → List ℕ → Option ℕ → ℕ → Option (List Run) → Outcome
put_at met v name bytes given need None = refused v (no_place v need)
put_at met v name bytes given need (Some runs) = entered_version met (drawn v) name bytes given runs v.serial

abbrev pub put_unless : Option Refusal → Met → Volume → List ℕ → List ℕ → Option ℕ → Outcome
put_unless (Some why) met v name bytes given = refused v why
put_unless None met v name bytes given =
    let need = sectors_for (length bytes) in
    let at = forced_for_place need v in
    put_at met at name bytes given need (place_for at need)

abbrev pub put_outcome : Met → Volume → List ℕ → List ℕ → Option ℕ → Outcome
put_outcome met v name bytes given = put_unless (size_fault (keep_given given) (length bytes)) met v name bytes given

-- ---- loading one: its key and its keep are given, and none goes

-- why a version can't have this key
abbrev pub load_fault : Volume → Key → Option Refusal
load_fault v key =
    if is_some (entry_of key v.entries) then Some Exists
    else (if nat_lt (pages_free v) least_pages then Some (NameTableFull (pages_free v)) else None)

abbrev pub loaded_entry : Key → (keep : ℕ) → List ℕ → List Run → Serial → Entry
loaded_entry key keep bytes runs serial = record { key = key; keep = keep; serial = serial; length = length bytes; runs = runs }

-- the version takes its runs; r pages are reached then
abbrev pub with_loaded : Volume → Key → (keep : ℕ) → List ℕ → List Run → Serial → ℕ → Volume
with_loaded v key keep bytes runs serial r =
    record v {
      files = step v.files (Change.Load key keep bytes);
      entries = entry_put (loaded_entry key keep bytes runs serial) v.entries;
      reached = r;
      unforced = suc v.unforced;
    }

abbrev pub loaded_unless : Option Refusal → Volume → Key → (keep : ℕ) → List ℕ → List Run → Serial → ℕ → Outcome
loaded_unless (Some why) v key keep bytes runs serial r = refused v why
loaded_unless None v key keep bytes runs serial r = (Loaded key, with_loaded v key keep bytes runs serial r)

-- in the runs that were picked; the serial is drawn as they are
abbrev pub load_at : Met → Volume → Key → (keep : ℕ) → List ℕ → (need : ℕ) → Option (List Run) → Outcome
load_at met v key keep bytes need None = refused v (no_place v need)
load_at met v key keep bytes need (Some runs) =
    let at = forced_if met.forces (drawn v) in
    loaded_unless (load_fault at key) at key keep bytes runs v.serial met.reached

abbrev pub load_unless : Option Refusal → Met → Volume → Key → (keep : ℕ) → List ℕ → Outcome
load_unless (Some why) met v key keep bytes = refused v why
load_unless None met v key keep bytes =
    let need = sectors_for (length bytes) in
    let at = forced_for_place need v in
    load_at met at key keep bytes need (place_for at need)

abbrev pub load_outcome : Met → Volume → Key → (keep : ℕ) → List ℕ → Outcome
load_outcome met v key keep bytes = load_unless (size_fault keep (length bytes)) met v key keep bytes

-- ---- taking one out, and changing a keep

abbrev pub deleted : Volume → Key → ℕ → Option Entry → Outcome
deleted v key r None = refused v NoSuch
deleted v key r (Some e) = (
  Deleted key,
  record v {
    files = step v.files (Change.Delete key);
    entries = entries_without (key ∷ []) v.entries;
    removed = v.removed ++ gone_sectors (key ∷ []) v.entries;
    reached = r;
    unforced = suc v.unforced;
  },
)

abbrev pub delete_outcome : Met → Volume → Key → Outcome
delete_outcome met v key =
    let at = forced_if met.forces v in
    deleted at key met.reached (entry_of key at.entries)

abbrev pub keep_set : Volume → List ℕ → (keep : ℕ) → ℕ → Option Entry → Outcome
keep_set v name keep r None = refused v NoSuch
keep_set v name keep r (Some e) = (
  Kept e.key keep,
  record v {
    files = step v.files (Change.SetKeep name keep);
    entries = entries_with_keep e.key keep v.entries;
    reached = r;
    unforced = suc v.unforced;
  },
)

abbrev pub keep_outcome : Met → Volume → List ℕ → (keep : ℕ) → Outcome
keep_outcome met v name keep =
    let at = forced_if met.forces v in
    if nat_lt max_keep keep then refused v (KeepTooLarge keep) else keep_set at name keep met.reached (highest_entry name at.entries)

-- ---- moving one to another name

-- the entry of the version then: its bytes, runs and serial stay
abbrev pub moved_entry : Volume → List ℕ → Entry → Entry
moved_entry v name e = record e { key = new_key name v.files; keep = moved_keep name e.keep v.files }

-- the version has its new key, and what goes beyond the keep waits; r pages are reached then
abbrev pub with_version_moved : Volume → Key → List ℕ → File → Entry → ℕ → Volume
with_version_moved v key name x e r =
    let out = gone_by_move key name x v.files in
    record v {
      files = step v.files (Change.Move key name);
      entries = entries_without (key ∷ out) (entry_put (moved_entry v name e) v.entries);
      removed = v.removed ++ gone_sectors out v.entries;
      reached = r;
      unforced = suc v.unforced;
    }

abbrev pub moved_unless : Option Refusal → Volume → Key → List ℕ → File → Entry → ℕ → Outcome
moved_unless (Some why) v key name x e r = refused v why
moved_unless None v key name x e r = (Moved key (new_key name v.files), with_version_moved v key name x e r)

abbrev pub moved : Volume → Key → List ℕ → ℕ → Option File → Option Entry → Outcome
moved v key name r (Some x) (Some e) = moved_unless (enter_fault v name) v key name x e r
moved v key name r x e = refused v NoSuch

abbrev pub move_outcome : Met → Volume → Key → List ℕ → Outcome
move_outcome met v key name =
    let at = forced_if met.forces v in
    moved at key name met.reached (find key_cmp key at.files) (entry_of key at.entries)

-- ---- forces: a tick and a close are forces too

abbrev pub force_outcome : Volume → Outcome
force_outcome v = (Forced, forced v)

-- all is forced before a sector is looked at
abbrev pub scrub_outcome : Met → Volume → Outcome
scrub_outcome met v = (Scrubbed met.found met.healed, forced v)

-- ---- an upgrade

-- a volume of layout 1 is one of layout 2 then, and nothing else changes
abbrev pub upgraded : Kind → Volume → Outcome
upgraded Two v = (Upgraded, record v { layout = with_kind Three v.layout })
upgraded Three v = refused v (LayoutIs 2)

abbrev pub upgrade_outcome : Volume → Outcome
upgrade_outcome v = upgraded v.layout.kind v

-- ---- a growth

-- the volume, of so many sectors in all: those behind the old ones are free
abbrev pub grown : ℕ → Volume → Volume
grown n v = record v { layout = with_sectors n v.layout }

-- why a volume of this layout doesn't grow to so many
abbrev pub grow_fault : Layout → ℕ → Option Refusal
grow_fault l n = if nat_le n l.sectors then Some (NotLarger n) else (if nat_lt (most_of l) n then Some (PastMost (most_of l)) else None)

abbrev pub grown_unless : Option Refusal → ℕ → Volume → Outcome
grown_unless (Some why) n v = refused v why
grown_unless None n v = (Grown n (free_count (grown n v)), grown n v)

abbrev pub grow_outcome : ℕ → Volume → Outcome
grow_outcome n v = grown_unless (grow_fault v.layout n) n v

-- ---- what changes nothing

abbrev pub stat_reply : Volume → Reply
stat_reply v = Counts (free_count v) (waiting_count v) (pages_free v) (length v.files)

abbrev pub list_reply : Volume → Pattern → Reply
list_reply v pattern = Listed (filter (λ e. fits pattern e.key.name) v.entries)

abbrev pub found_or : Option Entry → Reply
found_or None = Refused NoSuch
found_or (Some e) = Found (Some e)

abbrev pub entry_reply : Volume → Key → Reply
entry_reply v key = found_or (entry_of key v.entries)

abbrev pub next_reply : Volume → Option Key → Reply
next_reply v after = Found (entry_after after v.entries)

-- a whole version, or its first sector that read as damaged
abbrev pub read_reply : Key → List ℕ → Option ℕ → Reply
read_reply key bytes None = Bytes key bytes
read_reply key bytes (Some s) = DamagedAt key s

abbrev pub got : Key → Option ℕ → Option File → Reply
got key damaged None = Refused NoSuch
got key damaged (Some file) = read_reply key file.bytes damaged

abbrev pub get_reply : Met → Volume → Key → Reply
get_reply met v key = got key met.damaged (find key_cmp key v.files)

-- ---- which sectors read as damaged

-- i is the image at a call's entry and j at its exit. Either all of these sectors are whole in i, or one is damaged in
-- j, and those before it are whole in i.
abbrev pub FindsDamage : Image → Image → List ℕ → Option ℕ → Type 0
FindsDamage i j sectors None = AllByRecursion (IsWhole i) sectors
FindsDamage i j sectors (Some s) = FirstDamaged i j sectors s

-- of a version that is read whole
abbrev pub FindsDamageIn : Image → Image → Volume → Key → Option ℕ → Type 0
FindsDamageIn i j v key damaged = IfSome (entry_of key v.entries) (λ e. FindsDamage i j (range_sectors e.runs 0 e.length) damaged)

-- ---- leaders

-- the version's first sector is its leader, or is Damaged where it may be
abbrev pub HasLeader : Sectors → Image → Entry → Type 0
HasLeader weak j e = IfSome (slice_get (sectors_of e.runs) 0) (Has weak j (leader_bytes (leader_of e)))

-- A version stands whole with its leader, but for damage in these sectors.
pub record HasVersion (weak : Sectors) (i : Image) (bytes : List ℕ) (e : Entry) : Type 0 where
  pub leader : HasLeader weak i e
  pub data_there : KeptIn i weak bytes e.runs
