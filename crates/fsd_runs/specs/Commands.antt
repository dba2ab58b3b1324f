-- Commands and replies: what a volume answers, what is said of it, what it changed, and with which status a run of one
-- command ends.
use Rattle.std.specs.Prelude.{ℕ, Bool, true, false, ◌==◌, not, List, [], ◌∷◌, ◌++◌, length, is_none, nat_lt, codes, ⊤}
use Rattle.std.specs.List.{flat_map, list_any}
use Rattle.fsd_bytes.specs.declared.key.Key.{Key}
use Rattle.fsd_bytes.specs.Keys.{key_text}
use Rattle.fsd_formats.specs.NamePage.{max_keep, sectors_for}
use Rattle.fsd_files.specs.Answers.{Met, Outcome, put_outcome, delete_outcome, keep_outcome, move_outcome, load_outcome, force_outcome, scrub_outcome, upgrade_outcome, grow_outcome, stat_reply, list_reply, get_reply, keep_given, size_fault, FindsDamageIn}
use Rattle.fsd_files.specs.Disk.{Image}
use Rattle.fsd_files.specs.Files.{Change}
use Rattle.fsd_files.specs.declared.reply.Reply.{Reply}
use Rattle.fsd_files.specs.declared.reply.Reply.TheVariants.{Refused, Made, Deleted, Kept, Moved, Listed, Bytes, DamagedAt, Forced, Counts, Scrubbed, Upgraded, Grown, Begun, Took, Dropped, Opened, Given, Done, Found, Loaded}
use Rattle.fsd_files.specs.Scrub.{Picks, all_data}
use Rattle.fsd_files.specs.Volume.{Volume}
use Rattle.fsd_texts.specs.declared.command.Command.{Command}
use Rattle.fsd_texts.specs.declared.command.Command.TheVariants as Word
use Rattle.fsd_texts.specs.declared.line.Line.TheVariants as Says
use Rattle.fsd_texts.specs.Text.{line, newline, number, text}

-- ---- answers

-- what a volume answers to a command, and what it is then
abbrev pub answer : Met → Volume → Command → Outcome
answer met v (Word.Put name bytes keep) = put_outcome met v name bytes keep
answer met v (Word.Delete key) = delete_outcome met v key
answer met v (Word.Keep name keep) = keep_outcome met v name keep
answer met v (Word.Move key name) = move_outcome met v key name
answer met v (Word.Load key keep bytes) = load_outcome met v key keep bytes
answer met v (Word.List pattern) = (list_reply v pattern, v)
answer met v (Word.Get key) = (get_reply met v key, v)
answer met v Word.Force = force_outcome v
answer met v Word.Tick = force_outcome v
answer met v Word.Stat = (stat_reply v, v)
answer met v Word.Scrub = scrub_outcome met v
answer met v Word.Upgrade = upgrade_outcome v
answer met v (Word.Grow sectors) = grow_outcome sectors v

-- A mount that is worn out refuses what would change something, where no refusal comes before this one.
abbrev pub may_wear_out : Command → Bool
may_wear_out (Word.Put name bytes keep) = is_none (size_fault (keep_given keep) (length bytes))
may_wear_out (Word.Delete key) = true
may_wear_out (Word.Keep name keep) = not (nat_lt max_keep keep)
may_wear_out (Word.Move key name) = true
may_wear_out (Word.Load key keep bytes) = is_none (size_fault keep (length bytes))
may_wear_out (Word.List pattern) = false
may_wear_out (Word.Get key) = false
may_wear_out Word.Force = false
may_wear_out Word.Tick = false
may_wear_out Word.Stat = false
may_wear_out Word.Scrub = false
may_wear_out Word.Upgrade = false
may_wear_out (Word.Grow sectors) = false

-- what may read as damaged, between these images
abbrev pub MayFind : Image → Image → Volume → Command → Met → Type 0
MayFind i j v (Word.Put name bytes keep) met = ⊤
MayFind i j v (Word.Delete key) met = ⊤
MayFind i j v (Word.Keep name keep) met = ⊤
MayFind i j v (Word.Move key name) met = ⊤
MayFind i j v (Word.Load key keep bytes) met = ⊤
MayFind i j v (Word.List pattern) met = ⊤
MayFind i j v (Word.Get key) met = FindsDamageIn i j v key met.damaged
MayFind i j v Word.Force met = ⊤
MayFind i j v Word.Tick met = ⊤
MayFind i j v Word.Stat met = ⊤
MayFind i j v Word.Scrub met = Picks i j (all_data v.entries) met.found
MayFind i j v Word.Upgrade met = ⊤
MayFind i j v (Word.Grow sectors) met = ⊤

-- the change that was accepted, if one was
abbrev pub changes_of : Command → Reply → List Change
changes_of (Word.Put name bytes keep) (Made key sectors) = Change.Put name keep bytes ∷ []
changes_of (Word.Put name bytes keep) reply = []
changes_of (Word.Delete key) (Deleted k) = Change.Delete key ∷ []
changes_of (Word.Delete key) reply = []
changes_of (Word.Keep name keep) (Kept key k) = Change.SetKeep name keep ∷ []
changes_of (Word.Keep name keep) reply = []
changes_of (Word.Move key name) (Moved k to) = Change.Move key name ∷ []
changes_of (Word.Move key name) reply = []
changes_of (Word.Load key keep bytes) (Loaded k) = Change.Load key keep bytes ∷ []
changes_of (Word.Load key keep bytes) reply = []
changes_of (Word.List pattern) reply = []
changes_of (Word.Get key) reply = []
changes_of Word.Force reply = []
changes_of Word.Tick reply = []
changes_of Word.Stat reply = []
changes_of Word.Scrub reply = []
changes_of Word.Upgrade reply = []
changes_of (Word.Grow sectors) reply = []

-- ---- texts

-- one version of a list
abbrev pub version_text : (key : Key) (len keep : ℕ) → List ℕ
version_text key len keep = line (key_text key ∷ number len ∷ number (sectors_for len) ∷ number keep ∷ [])

-- how many versions were listed
abbrev pub listed_text : ℕ → List ℕ
listed_text count = line (codes "listed" ∷ number count ∷ [])

-- a damaged sector of a version
abbrev pub damaged_text : Key → ℕ → List ℕ
damaged_text key s = text (Says.Damaged key s)

-- the damaged sectors that a scrub has found
abbrev pub found_text : List (Key × ℕ) → List ℕ
found_text found = flat_map (λ x. damaged_text x.0 x.1) found

-- what a script says of a reply
abbrev pub reply_text : Reply → List ℕ
reply_text (Refused why) = text (Says.Refused why)
reply_text (Made key sectors) = line (codes "made" ∷ key_text key ∷ number sectors ∷ [])
reply_text (Deleted key) = line (codes "deleted" ∷ key_text key ∷ [])
reply_text (Kept key keep) = line (codes "kept" ∷ key_text key ∷ number keep ∷ [])
reply_text (Moved key to) = line (codes "moved" ∷ key_text key ∷ key_text to ∷ [])
reply_text (Listed entries) = flat_map (λ e. version_text e.key e.length e.keep) entries ++ listed_text (length entries)
reply_text (Bytes key bytes) = line (codes "bytes" ∷ key_text key ∷ number (length bytes) ∷ []) ++ bytes ++ newline
reply_text (DamagedAt key s) = damaged_text key s
reply_text Forced = text Says.Forced
reply_text (Counts free waiting pages versions) =
    line (codes "stat" ∷ codes "free" ∷ number free ∷ codes "waiting" ∷ number waiting ∷ codes "pages" ∷ number pages ∷ codes "versions" ∷ number versions ∷ [])
reply_text (Scrubbed found healed) = found_text found ++ line (codes "scrubbed" ∷ codes "healed" ∷ number healed ∷ codes "damaged" ∷ number (length found) ∷ [])
reply_text Upgraded = line (codes "upgraded" ∷ codes "2" ∷ [])
reply_text (Grown sectors free) = line (codes "grown" ∷ number sectors ∷ codes "free" ∷ number free ∷ [])
reply_text (Begun client) = line (codes "begun" ∷ number client ∷ [])
reply_text (Took client sum) = line (codes "took" ∷ number client ∷ number sum ∷ [])
reply_text (Dropped client) = line (codes "dropped" ∷ number client ∷ [])
reply_text (Opened client len) = line (codes "opened" ∷ number client ∷ number len ∷ [])
reply_text (Given client bytes) = line (codes "next" ∷ number client ∷ number (length bytes) ∷ []) ++ bytes ++ newline
reply_text (Done client) = line (codes "done" ∷ number client ∷ [])
reply_text (Loaded key) = line (codes "loaded" ∷ key_text key ∷ [])
-- no command of a script is answered so
reply_text (Found entry) = []

-- what a command by itself says: a get the bytes alone
abbrev pub reply_alone : Reply → List ℕ
reply_alone (Bytes key bytes) = bytes
reply_alone reply = reply_text reply

-- ---- statuses

-- of the run of one command that is answered so
abbrev pub reply_status : Reply → ℕ
reply_status (Refused why) = 1
reply_status (DamagedAt key s) = 8
reply_status (Scrubbed (x ∷ found) healed) = 8
reply_status other = 0

-- those of the replies that a command may have: a change is made or refused, and so are an upgrade and a growth; a version is read, or a
-- sector of it is damaged, or the key has none; of what is told, and of a force, nothing is refused; a scrub has found
-- damaged sectors, or none
abbrev pub reply_statuses : Command → List ℕ
reply_statuses (Word.Put name bytes keep) = 0 ∷ 1 ∷ []
reply_statuses (Word.Delete key) = 0 ∷ 1 ∷ []
reply_statuses (Word.Keep name keep) = 0 ∷ 1 ∷ []
reply_statuses (Word.Move key name) = 0 ∷ 1 ∷ []
reply_statuses (Word.Load key keep bytes) = 0 ∷ 1 ∷ []
reply_statuses (Word.List pattern) = 0 ∷ []
reply_statuses (Word.Get key) = 0 ∷ 1 ∷ 8 ∷ []
reply_statuses Word.Force = 0 ∷ []
reply_statuses Word.Tick = 0 ∷ []
reply_statuses Word.Stat = 0 ∷ []
reply_statuses Word.Scrub = 0 ∷ 8 ∷ []
reply_statuses Word.Upgrade = 0 ∷ 1 ∷ []
reply_statuses (Word.Grow sectors) = 0 ∷ 1 ∷ []

abbrev pub is_status_of : List ℕ → ℕ → Bool
is_status_of statuses status = list_any (λ s. s == status) statuses
