-- What a desk's calls answer over an honest machine, and what is open then.
use Rattle.std.specs.Prelude.{◌≡◌, ◌⊎◌, ⊤, ℕ, ◌-◌, List, [], ◌∷◌, ◌++◌, length, take, drop, replicate, Option, Some, None, Result, Ok, Err, get_or, slice_index_or, true}
use Rattle.run_table.specs.declared.run.Run.{Run}
use Rattle.fsd_bytes.specs.declared.key.Key.{Key}
use Rattle.fsd_bytes.specs.declared.key.Serial.{Serial}
use Rattle.fsd_bytes.specs.declared.refusal.Refusal.{Refusal}
use Rattle.fsd_bytes.specs.declared.refusal.Refusal.TheVariants as Why
use Rattle.fsd_formats.specs.declared.entry.Entry.{Entry}
use Rattle.fsd_formats.specs.NamePage.{sectors_for}
use Rattle.sector_disk.specs.Image.{open_damage}
use Rattle.sector_disk.specs.Machine.{Moment}
use Rattle.fsd_log.specs.Scan.{Placed}
use Rattle.fsd_files.specs.Answers.{Met, FindsDamage, HasVersion, entry_of}
use Rattle.fsd_files.specs.Desk.{SessionOutcome, Open, Nothing, Writes, Reads, Session, begin_outcome, piece_outcome, close_outcome, drop_outcome, open_outcome, next_outcome, next_count, done_outcome, most_clients}
use Rattle.fsd_files.specs.Disk.{Image, Sectors}
use Rattle.fsd_files.specs.Files.{Change}
use Rattle.fsd_files.specs.Kept.{range_sectors}
use Rattle.fsd_files.specs.declared.reply.Reply.{Reply}
use Rattle.fsd_files.specs.declared.reply.Reply.TheVariants.{Refused, Made, Begun, Took, Dropped, Opened as HasOpened, Given, Done, DamagedAt}
use Rattle.fsd_sound.specs.Mounted.{Mounted, forces_by_itself}
use Rattle.fsd_files.specs.Pieces.{enter_outcome}
use Rattle.fsd_runs.specs.Sessions.{HoldsRead}
use Rattle.volume_contract.specs.Ends.{EndsPut, EndsRefused, Unchanged}
use Rattle.volume_contract.specs.Pieces.{ended, read_at, slice_count, slices_if, slices_in, with_opened, draft_wrote}
use Rattle.volume_contract.specs.State.{Known, LeavesSound, OpenParts, Stands, State, volume_of}
use Rattle.client_desk.specs.declared.client.Creation.{Creation}
use Rattle.client_desk.specs.declared.client.Reader.{Reader}
use Rattle.client_desk.specs.declared.client.Client.{Client}
use Rattle.client_desk.specs.declared.client.Client.TheVariants.{Idle, Writing, Reading}
use Rattle.client_desk.specs.Clients.{WritesDraftIn, client_at, tail_of, written_len}

abbrev pub open_at : List Open → ℕ → Open
open_at clients i = get_or clients i Nothing

-- ---- what is in memory of a client

-- of the bytes so far the written ones stand in the slices in front, and nothing is written behind them
abbrev pub slices_so_far : (len : ℕ) → List ℕ → List (Option (List ℕ))
slices_so_far len bytes =
    let front = take (written_len len (length bytes)) bytes in
    slices_if true front ++ replicate (slice_count len - slice_count (length front)) None

-- The creation is this one, with these bytes so far.
pub record IsWritingDraft (o : OpenParts) (w : Creation) (name : List ℕ) (len : ℕ) (runs : List Run) (serial : Serial) (bytes : List ℕ) : Type 0 where
  pub named : w.name ≡ name
  pub long : w.draft.length ≡ len
  pub lies : w.draft.runs ≡ runs
  pub drawn : w.draft.serial ≡ serial
  pub got : w.got ≡ length bytes
  pub tail : tail_of w ≡ drop (written_len len (length bytes)) bytes
  pub written : slices_in o.drafts runs ≡ Some (slices_so_far len bytes)

-- The version that is read is this one, from this place on.
pub record IsReadingVersion (o : OpenParts) (r : Reader) (key : Key) (runs : List Run) (bytes : List ℕ) (place : ℕ) : Type 0 where
  pub of_key : r.held.entry.key ≡ key
  pub lies : r.held.entry.runs ≡ runs
  pub long : r.held.entry.length ≡ length bytes
  pub from : r.place ≡ place
  pub there : slice_index_or o.readers r.held.place None ≡ Some (record { runs = runs; bytes = bytes })

-- what a client has open, and what is in memory of it
abbrev pub ServesOpen : OpenParts → Client → Open → Type 0
ServesOpen o Idle Nothing = ⊤
ServesOpen o (Writing w) (Writes name len runs serial bytes) = IsWritingDraft o w name len runs serial bytes
ServesOpen o (Reading r) (Reads key runs bytes place) = IsReadingVersion o r key runs bytes place
ServesOpen o client other = ⊥

-- what a read of so many bytes from a place on gives
abbrev pub ReadsOn : (i j : Image) → List Run → List ℕ → (place : ℕ) → (old new : List ℕ) → Result ℕ Refusal → Type 0
ReadsOn i j runs bytes place old new (Ok n) = (n ≡ next_count bytes place (length old)) × (new ≡ take n (drop place bytes) ++ drop n old) × FindsDamage i j (range_sectors runs place n) None
ReadsOn i j runs bytes place old new (Err (Why.Damaged t)) = FindsDamage i j (range_sectors runs place (next_count bytes place (length old))) (Some t)
ReadsOn i j runs bytes place old new (Err why) = ⊤

-- the creation is one of those that are open
abbrev pub IsOpenIn : OpenParts → Client → Type 0
IsOpenIn o (Writing w) = (slices : List (Option (List ℕ))) × (slices_in o.drafts w.draft.runs ≡ Some slices)
IsOpenIn o other = ⊤

-- what stands where a client's part is given up
abbrev pub given_up : Known → Client → Known
given_up k Idle = k
given_up k (Writing w) = with_opened k (ended k.opened w.draft.runs)
given_up k (Reading r) = with_opened k (read_at k.opened r.held.place None)

abbrev pub session_of : Known → List Open → Session
session_of k clients = record { volume = volume_of k; clients = clients }

module _ {S : Type 0} (state : S → State) (has : S → Mounted → List Placed → Type 0) where
  -- The volume stands, its desk has this open, and each creation is one that a client writes.
  pub record Sits (v : S) (desk : List Client) (k : Known) (clients : List Open) (now : Moment) : Type 0 where
    pub stands : Stands state has v k now
    pub size : length clients ≡ most_clients
    pub each : (i : ℕ) → ServesOpen k.opened (client_at desk i) (open_at clients i)
    pub drafts : (runs : List Run) (slices : List (Option (List ℕ))) → slices_in k.opened.drafts runs ≡ Some slices → (i : ℕ) × WritesDraftIn (client_at desk i) runs

  -- what a stop leaves of a call for a client over a volume that writes only there
  abbrev pub LeavesFor : S → Client → Sectors → Moment → Moment → Type 0
  LeavesFor v client may old left = (k : Known) (y : Open) → ServesOpen k.opened client y → Stands state has v k old → LeavesSound k may old left

  -- what a stop leaves of a call over a volume with this desk
  abbrev pub LeavesOf : S → List Client → Sectors → Moment → Moment → Type 0
  LeavesOf v desk may old left = (k : Known) (clients : List Open) → Sits v desk k clients old → LeavesSound k may old left

  -- The creation has these bytes so far, and its volume stands with what is written of them.
  pub record AddsBytes (k : Known) (w : Creation) (name : List ℕ) (len : ℕ) (runs : List Run) (serial : Serial) (sofar : List ℕ) (v : S) (now : Moment) : Type 0 where
    pub slices : List (Option (List ℕ))
    pub stands : Stands state has v (with_opened k (draft_wrote k.opened runs slices)) now
    pub writing : IsWritingDraft (draft_wrote k.opened runs slices) w name len runs serial sofar

  -- The disk failed: of the creation nothing more is known.
  pub record BreaksDraft (k : Known) (runs : List Run) (v : S) (now : Moment) : Type 0 where
    pub slices : List (Option (List ℕ))
    pub stands : Stands state has v (with_opened k (draft_wrote k.opened runs slices)) now

  abbrev pub EndsAdd : {T : Type 0} → (T → List ℕ) → Known → Creation → (name : List ℕ) → (len : ℕ) → (runs : List Run) → Serial → (before : List ℕ) → S → Moment → Result T Refusal → Type 0
  EndsAdd adds k w name len runs serial before v now (Ok x) = AddsBytes k w name len runs serial (before ++ adds x) v now
  EndsAdd adds k w name len runs serial before v now (Err (Why.Device s)) = BreaksDraft k runs v now
  EndsAdd adds k w name len runs serial before v now (Err why) = ⊥

  -- It has these bytes so far, which are so many; or it is given up.
  abbrev pub EndsPieces : Known → (client new : Client) → (name : List ℕ) → (len : ℕ) → (runs : List Run) → Serial → (before more : List ℕ) → S → Moment → Result ℕ Refusal → Type 0
  EndsPieces k client new name len runs serial before more v now (Ok n) =
      (w : Creation) × (new ≡ Writing w) × (n ≡ length (before ++ more)) × AddsBytes k w name len runs serial (before ++ more) v now
  EndsPieces k client new name len runs serial before more v now (Err (Why.Device s)) = (slices : List (Option (List ℕ))) × Stands state has v (with_opened k (ended (draft_wrote k.opened runs slices) runs)) now
  EndsPieces k client new name len runs serial before more v now (Err why) = ⊥

  -- the end of a creation that has all its bytes: it is over, or as before
  abbrev pub EndsEntering : (name : List ℕ) → List Run → Serial → (bytes : List ℕ) → Known → S → Moment → Result Key Refusal → Type 0
  EndsEntering name runs serial bytes k v now (Ok key) =
      EndsPut state has (λ met. enter_outcome met (volume_of k) name bytes None runs serial) bytes (Change.Put name None bytes) (record k { opened = ended k.opened runs }) v now (Ok key)
  EndsEntering name runs serial bytes k v now (Err why) = EndsRefused state has (λ met. enter_outcome met (volume_of k) name bytes None runs serial) k v now why

  -- A call answers as the definitions say, with this reply; the volume and its desk are then as they say.
  pub record AnswersAs (outcome : Session → SessionOutcome) (reply : Reply) (made : List Change) (k : Known) (clients : List Open) (v : S) (desk : List Client) (now : Moment) : Type 0 where
    pub after : Known
    pub left : List Open
    pub is : outcome (session_of k clients) ≡ (reply, session_of after left)
    pub windows : after.windows ≡ k.windows
    pub changes : after.changes ≡ k.changes ++ made
    pub sits : Sits v desk after left now

  -- The volume has not changed, and neither have its clients.
  pub record StaysAs (k : Known) (clients : List Open) (v : S) (desk : List Client) (now : Moment) : Type 0 where
    pub after : Known
    pub unchanged : Unchanged k after
    pub sits : Sits v desk after clients now

  -- it is down, since a force failed at this place, or has not changed
  abbrev pub IsDownOrStays : ℕ → Known → List Open → S → List Client → Moment → Type 0
  IsDownOrStays place k clients v desk now = ((state v).down ≡ Some place) ⊎ StaysAs k clients v desk now

  -- a refusal: by the definitions, or from outside; nothing that was sound is lost or unsound
  abbrev pub RefusesCall : (outcome : Session → SessionOutcome) → Known → List Open → S → List Client → Moment → Refusal → Type 0
  RefusesCall outcome k clients v desk now (Why.Device s) = IsDownOrStays s k clients v desk now
  RefusesCall outcome k clients v desk now Why.Memory = StaysAs k clients v desk now
  RefusesCall outcome k clients v desk now Why.WornOut = Sits v desk k clients now
  RefusesCall outcome k clients v desk now (Why.Lost a b) = ⊥
  RefusesCall outcome k clients v desk now (Why.Unsound s) = ⊥
  RefusesCall outcome k clients v desk now (Why.Down s) = ⊥
  RefusesCall outcome k clients v desk now why = AnswersAs outcome (Refused why) [] k clients v desk now

  abbrev pub EndsBegin : (c : ℕ) → List ℕ → ℕ → Known → List Open → S → List Client → Moment → Result (Unit {0}) Refusal → Type 0
  EndsBegin c name len k clients v desk now (Ok x) = AnswersAs (λ s. begin_outcome s c name len) (Begun c) [] k clients v desk now
  EndsBegin c name len k clients v desk now (Err (Why.Device s)) = (state v).down ≡ Some s
  EndsBegin c name len k clients v desk now (Err why) = RefusesCall (λ s. begin_outcome s c name len) k clients v desk now why

  -- a piece that the disk failed at ends the creation
  abbrev pub EndsPiece : (c : ℕ) → List ℕ → Known → List Open → S → List Client → Moment → Result ℕ Refusal → Type 0
  EndsPiece c bytes k clients v desk now (Ok sum) = AnswersAs (λ s. piece_outcome s c bytes) (Took c sum) [] k clients v desk now
  EndsPiece c bytes k clients v desk now (Err (Why.Device s)) = AnswersAs (λ x. drop_outcome x c) (Dropped c) [] k clients v desk now
  EndsPiece c bytes k clients v desk now (Err why) = AnswersAs (λ s. piece_outcome s c bytes) (Refused why) [] k clients v desk now

  -- The version is made, in as many sectors as its bytes take: it has an entry, and its leader and its bytes stand, but
  -- for damage in the open window.
  pub record ClosesDraft (c : ℕ) (k : Known) (clients : List Open) (v : S) (desk : List Client) (now : Moment) (key : Key) : Type 0 where
    pub met : Met
    pub forces : met.forces ≡ forces_by_itself k.mounted
    pub name : List ℕ
    pub len : ℕ
    pub runs : List Run
    pub serial : Serial
    pub bytes : List ℕ
    pub was : open_at clients (c - 1) ≡ Writes name len runs serial bytes
    pub answers : AnswersAs (λ s. close_outcome met s c) (Made key (sectors_for len)) (Change.Put name None bytes ∷ []) k clients v desk now
    pub entry : Entry
    pub entered : entry_of key (volume_of answers.after).entries ≡ Some entry
    pub written : HasVersion (open_damage now.windows) now.image bytes entry

  pub record RemainsOpen (c : ℕ) (k : Known) (clients : List Open) (v : S) (desk : List Client) (now : Moment) (why : Refusal) : Type 0 where
    pub met : Met
    pub forces : met.forces ≡ forces_by_itself k.mounted
    pub refuses : RefusesCall (λ s. close_outcome met s c) k clients v desk now why

  abbrev pub EndsClose : (c : ℕ) → Known → List Open → S → List Client → Moment → Result Key Refusal → Type 0
  EndsClose c k clients v desk now (Ok key) = ClosesDraft c k clients v desk now key
  EndsClose c k clients v desk now (Err why) = RemainsOpen c k clients v desk now why

  abbrev pub EndsDrop : (c : ℕ) → Known → List Open → S → List Client → Moment → Result (Unit {0}) Refusal → Type 0
  EndsDrop c k clients v desk now (Ok x) = AnswersAs (λ s. drop_outcome s c) (Dropped c) [] k clients v desk now
  EndsDrop c k clients v desk now (Err why) = AnswersAs (λ s. drop_outcome s c) (Refused why) [] k clients v desk now

  -- It answers so by what the volume lists as held then, which holds what its clients read then.
  pub record AnswersHeld (outcome : List (List Run) → Session → SessionOutcome) (reply : Reply) (k : Known) (clients : List Open) (v : S) (desk : List Client) (now : Moment) : Type 0 where
    pub held : List (List Run)
    pub answers : AnswersAs (outcome held) reply [] k clients v desk now
    pub is : held ≡ (volume_of answers.after).held
    pub hold : HoldsRead (session_of answers.after answers.left)

  abbrev pub EndsOpen : (c : ℕ) → Key → Known → List Open → S → List Client → Moment → Result ℕ Refusal → Type 0
  EndsOpen c key k clients v desk now (Ok len) = AnswersHeld (λ held s. open_outcome held s c key) (HasOpened c len) k clients v desk now
  EndsOpen c key k clients v desk now (Err (Why.Device s)) = Sits v desk k clients now
  EndsOpen c key k clients v desk now (Err Why.Memory) = Sits v desk k clients now
  EndsOpen c key k clients v desk now (Err why) = (held : List (List Run)) × RefusesCall (λ s. open_outcome held s c key) k clients v desk now why

  -- The next bytes stand in front of the buffer, and their sectors were whole as the call began.
  pub record GivesNext (c asked : ℕ) (i j : Image) (k : Known) (clients : List Open) (old new : List ℕ) (v : S) (desk : List Client) (now : Moment) (n : ℕ) : Type 0 where
    pub answers : AnswersAs (λ s. next_outcome None s c asked) (Given c (take n new)) [] k clients v desk now
    pub rest : drop n new ≡ drop n old
    pub key : Key
    pub runs : List Run
    pub bytes : List ℕ
    pub place : ℕ
    pub was : open_at clients (c - 1) ≡ Reads key runs bytes place
    pub count : n ≡ next_count bytes place asked
    pub found : FindsDamage i j (range_sectors runs place n) None

  -- The first of their sectors that read as damaged is told, and its version.
  pub record TellsDamage (c asked : ℕ) (i j : Image) (k : Known) (clients : List Open) (v : S) (desk : List Client) (now : Moment) (t : ℕ) : Type 0 where
    pub key : Key
    pub runs : List Run
    pub bytes : List ℕ
    pub place : ℕ
    pub was : open_at clients (c - 1) ≡ Reads key runs bytes place
    pub answers : AnswersAs (λ s. next_outcome (Some t) s c asked) (DamagedAt key t) [] k clients v desk now
    pub found : FindsDamage i j (range_sectors runs place (next_count bytes place asked)) (Some t)

  abbrev pub EndsNext : (c asked : ℕ) → (i j : Image) → Known → List Open → (old new : List ℕ) → S → List Client → Moment → Result ℕ Refusal → Type 0
  EndsNext c asked i j k clients old new v desk now (Ok n) = GivesNext c asked i j k clients old new v desk now n
  EndsNext c asked i j k clients old new v desk now (Err (Why.Damaged t)) = TellsDamage c asked i j k clients v desk now t
  EndsNext c asked i j k clients old new v desk now (Err (Why.Device s)) = Sits v desk k clients now
  EndsNext c asked i j k clients old new v desk now (Err why) = RefusesCall (λ s. next_outcome None s c asked) k clients v desk now why

  abbrev pub EndsDone : (c : ℕ) → Known → List Open → S → List Client → Moment → Result (Unit {0}) Refusal → Type 0
  EndsDone c k clients v desk now (Ok x) = AnswersHeld (λ held s. done_outcome held s c) (Done c) k clients v desk now
  EndsDone c k clients v desk now (Err why) = (held : List (List Run)) × AnswersAs (λ s. done_outcome held s c) (Refused why) [] k clients v desk now
