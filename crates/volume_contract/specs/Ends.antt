-- How the calls of a volume end where it is mounted over an honest machine.
use Rattle.std.specs.Prelude.{◌≡◌, ◌⊎◌, ⊤, ℕ, ◌-◌, min, List, [], ◌∷◌, ◌++◌, length, take, drop, Option, Some, None, IsTrue, Result, Ok, Err}
use Rattle.std.specs.List.{AllByRecursion}
use Rattle.fsd_bytes.specs.declared.key.Key.{Key}
use Rattle.fsd_bytes.specs.declared.refusal.Refusal.{Refusal}
use Rattle.fsd_bytes.specs.declared.refusal.Refusal.TheVariants as Why
use Rattle.fsd_bytes.specs.Keys.{key_lt}
use Rattle.fsd_formats.specs.declared.entry.Entry.{Entry}
use Rattle.fsd_formats.specs.NamePage.{sectors_for}
use Rattle.sector_disk.specs.Machine.{Moment}
use Rattle.fsd_log.specs.Scan.{Placed}
use Rattle.fsd_files.specs.Answers.{HasVersion, Met, Outcome, entry_of}
use Rattle.fsd_files.specs.Disk.{Image}
use Rattle.fsd_files.specs.Files.{File, Change}
use Rattle.fsd_files.specs.Kept.{FirstDamaged, IsWhole, range_sectors}
use Rattle.fsd_files.specs.declared.reply.Reply.{Reply}
use Rattle.fsd_files.specs.declared.reply.Reply.TheVariants.{Refused, Made, Loaded, Kept, Found}
use Rattle.fsd_files.specs.Volume.{Volume, drawn, forced}
use Rattle.fsd_sound.specs.Laid.{HasOwnRoots}
use Rattle.fsd_sound.specs.Mounted.{Mounted, forces_by_itself, telling_of}
use Rattle.fsd_sound.specs.Shown.{told}
use Rattle.fsd_sound.specs.Sound.{IsSound, weak_of}
use Rattle.sector_disk.specs.Image.{AllWorn, open_damage}
use Rattle.volume_contract.specs.State.{State, Known, volume_of, Stands}

-- the place of the call of the disk that failed, where the refusal tells one
abbrev pub device_of : Refusal → Option ℕ
device_of (Why.Device s) = Some s
device_of other = None

-- ---- replies

abbrev pub made_key : ℕ → Key → Reply
made_key len key = Made key (sectors_for len)

abbrev pub kept_key : ℕ → Key → Reply
kept_key keep key = Kept key keep

-- ---- changes

-- The call answers as the definitions do, and the volume is then as they say.
pub record Answers (outcome : Met → Outcome) (reply : Reply) (made : List Change) (k after : Known) : Type 0 where
  pub met : Met
  pub forces : met.forces ≡ forces_by_itself k.mounted
  pub is : outcome met ≡ (reply, volume_of after)
  pub opened : after.opened ≡ k.opened
  pub windows : after.windows ≡ k.windows
  pub changes : after.changes ≡ k.changes ++ made

-- what may have come of a volume that has not changed: it has forced, a serial is drawn, or both
abbrev pub IsAsBefore : Volume → Volume → Type 0
IsAsBefore v w = ((w ≡ v) ⊎ (w ≡ drawn v)) ⊎ ((w ≡ forced v) ⊎ (w ≡ drawn (forced v)))

-- Nothing is changed.
pub record Unchanged (k after : Known) : Type 0 where
  pub volume : IsAsBefore (volume_of k) (volume_of after)
  pub opened : after.opened ≡ k.opened
  pub windows : after.windows ≡ k.windows
  pub changes : after.changes ≡ k.changes

module _ {S : Type 0} (state : S → State) (has : S → Mounted → List Placed → Type 0) where
  -- it is down, since a force failed at this place, or it stands unchanged
  abbrev pub DownOr : ℕ → Known → S → Moment → Type 0
  DownOr place k new now = ((state new).down ≡ Some place) ⊎ ((after : Known) × Unchanged k after × Stands state has new after now)

  abbrev pub AnswersAndStands : (Met → Outcome) → Reply → List Change → Known → S → Moment → Type 0
  AnswersAndStands outcome reply changes k new now = (after : Known) × Answers outcome reply changes k after × Stands state has new after now

  -- a refusal: by the definitions, or from outside; nothing that was sound is lost or unsound
  abbrev pub EndsRefused : (Met → Outcome) → Known → S → Moment → Refusal → Type 0
  EndsRefused outcome k new now (Why.Device s) = DownOr s k new now
  EndsRefused outcome k new now Why.Memory = (after : Known) × Unchanged k after × Stands state has new after now
  EndsRefused outcome k new now Why.WornOut = Stands state has new k now
  EndsRefused outcome k new now (Why.Lost a b) = ⊥
  EndsRefused outcome k new now (Why.Unsound s) = ⊥
  EndsRefused outcome k new now (Why.Down s) = ⊥
  EndsRefused outcome k new now why = AnswersAndStands outcome (Refused why) [] k new now

  abbrev pub Ends : {T : Type 0} → (Met → Outcome) → (T → Reply) → Change → Known → S → Moment → Result T Refusal → Type 0
  Ends outcome says change k new now (Ok x) = AnswersAndStands outcome (says x) (change ∷ []) k new now
  Ends outcome says change k new now (Err why) = EndsRefused outcome k new now why

  -- The version of this key is made, is replied so, and stands whole with its leader.
  pub record MakesVersion (outcome : Met → Outcome) (reply : Reply) (bytes : List ℕ) (change : Change) (k : Known) (new : S) (now : Moment) (key : Key) : Type 0 where
    pub after : Known
    pub answers : Answers outcome reply (change ∷ []) k after
    pub stands : Stands state has new after now
    pub entry : Entry
    pub entered : entry_of key (volume_of after).entries ≡ Some entry
    pub written : HasVersion (open_damage now.windows) now.image bytes entry

  abbrev pub EndsPut : (Met → Outcome) → (bytes : List ℕ) → Change → Known → S → Moment → Result Key Refusal → Type 0
  EndsPut outcome bytes change k new now (Ok key) = MakesVersion outcome (made_key (length bytes) key) bytes change k new now key
  EndsPut outcome bytes change k new now (Err why) = EndsRefused outcome k new now why

  abbrev pub EndsLoad : {T : Type 0} → (Met → Outcome) → (bytes : List ℕ) → Change → Key → Known → S → Moment → Result T Refusal → Type 0
  EndsLoad outcome bytes change key k new now (Ok x) = MakesVersion outcome (Loaded key) bytes change k new now key
  EndsLoad outcome bytes change key k new now (Err why) = EndsRefused outcome k new now why

  -- ---- forces

  abbrev pub EndsForce : {T : Type 0} → (Met → Outcome) → Reply → Known → S → Moment → Result T Refusal → Type 0
  EndsForce outcome reply k new now (Ok x) = AnswersAndStands outcome reply [] k new now
  EndsForce outcome reply k new now (Err (Why.Device s)) = (state new).down ≡ Some s
  EndsForce outcome reply k new now (Err other) = ⊥

-- All changes are forced: the disk is sound for them, and however it wears its own table is the volume's,
-- with its places and serials. Both roots are those of its layout.
pub record Closes (k : Known) (i : Image) : Type 0 where
  pub sound : IsSound k.mounted.volume.layout k.windows k.changes (length k.changes) i
  pub tells : AllWorn (weak_of k.windows) (λ j. told k.mounted.volume.layout j ≡ Some (telling_of k.mounted.volume)) i
  pub roots : HasOwnRoots k.mounted.volume.layout (weak_of k.windows) i

-- ---- look-ups

-- what is found by the definitions, or a fault from outside
abbrev pub LooksUp : Reply → Result (Option Entry) Refusal → Type 0
LooksUp reply (Ok e) = reply ≡ Found e
LooksUp reply (Err (Why.Device s)) = ⊤
LooksUp reply (Err Why.Memory) = ⊤
LooksUp reply (Err Why.NoSuch) = reply ≡ Refused Why.NoSuch
LooksUp reply (Err other) = ⊥

-- the entry found is of a later key
abbrev pub IsLater : Option Key → Option Entry → Type 0
IsLater (Some key) (Some e) = IsTrue (key_lt key e.key)
IsLater after found = ⊤

abbrev pub found_one : Result Entry Refusal → Result (Option Entry) Refusal
found_one (Ok e) = Ok (Some e)
found_one (Err why) = Err why

-- ---- reads

-- how many bytes of a range there are
abbrev pub count_in : (len from room : ℕ) → ℕ
count_in len from room = min (len - from) room

-- The range's bytes stand in front of the buffer; its sectors were whole as the call began.
pub record GivesBytes (i : Image) (file : File) (e : Entry) (from : ℕ) (old new : List ℕ) (n : ℕ) : Type 0 where
  pub len : e.length ≡ length file.bytes
  pub count : n ≡ count_in e.length from (length old)
  pub whole : AllByRecursion (IsWhole i) (range_sectors e.runs from n)
  pub bytes : new ≡ take n (drop from file.bytes) ++ drop n old

abbrev pub ReadsRange : (i j : Image) → (file : Option File) → (e : Option Entry) → (from : ℕ) → (old new : List ℕ) → Result ℕ Refusal → Type 0
ReadsRange i j (Some file) (Some e) from old new (Ok n) = GivesBytes i file e from old new n
ReadsRange i j (Some file) (Some e) from old new (Err (Why.Damaged s)) = FirstDamaged i j (range_sectors e.runs from (count_in e.length from (length old))) s
ReadsRange i j None None from old new (Err Why.NoSuch) = ⊤
ReadsRange i j file e from old new (Err (Why.Device s)) = ⊤
ReadsRange i j file e from old new (Err Why.Memory) = ⊤
ReadsRange i j file e from old new other = ⊥
