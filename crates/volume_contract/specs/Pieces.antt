-- Creations in pieces, and versions that readers hold: what a volume answers, and what it is then.
use Rattle.std.specs.Prelude.{◌≡◌, ◌⊎◌, ℕ, ◌+◌, ◌-◌, ◌*◌, ◌%◌, ◌<◌, ◌≤◌, Bool, true, false, not, ◌&&◌, ◌||◌, List, [], ◌∷◌, ◌++◌, length, map, filter, take, drop, replicate, set, Option, Some, None, IsTrue, IsFalse, Result, Ok, Err, IfOk, IfErr, MatchResult, if◌then◌else◌, slice_index_or}
use Rattle.std.specs.List.{AllByRecursion}
use Rattle.std.specs.FinMap.{find}
use Rattle.volume_layout.specs.Layout.{is_data}
use Rattle.run_table.specs.declared.run.Run.{Run}
use Rattle.run_table.specs.RunTable.{max_runs, same_runs, sectors_of, total}
use Rattle.run_table.specs.Space.{all_differ, contains, pick}
use Rattle.fsd_bytes.specs.declared.key.Key.{Key}
use Rattle.fsd_bytes.specs.declared.refusal.Refusal.{Refusal}
use Rattle.fsd_bytes.specs.declared.refusal.Refusal.TheVariants as Why
use Rattle.fsd_bytes.specs.Bytes.{sector_len}
use Rattle.fsd_bytes.specs.Keys.{key_cmp}
use Rattle.fsd_formats.specs.NamePage.{is_entry, max_length, sectors_for}
use Rattle.sector_disk.specs.Machine.{Moment}
use Rattle.fsd_log.specs.Scan.{Placed}
use Rattle.fsd_files.specs.Answers.{entry_of}
use Rattle.fsd_files.specs.Disk.{Image, Sectors}
use Rattle.fsd_files.specs.Files.{Change, File}
use Rattle.fsd_files.specs.Kept.{data_sectors, filled_slices}
pub use Rattle.fsd_files.specs.Pieces.{with_draft, undrafted, reserve_at, reserve_outcome, enter_unless, enter_outcome}
use Rattle.fsd_sound.specs.Mounted.{Mounted}
use Rattle.volume_contract.specs.declared.token.Draft.{Draft}
use Rattle.volume_contract.specs.declared.token.Held.{Held}
use Rattle.volume_contract.specs.Ends.{EndsPut, EndsRefused, ReadsRange}
use Rattle.volume_contract.specs.Order.{KeepsRefused, enter_steps, reserve_steps, with_drawn}
use Rattle.volume_contract.specs.State.{GoesOn, HasCounted, IsForced, Known, OpenParts, HeldVersion, Stands, State, WrittenDraft, downs, downs_for, forces_first, forces_for_place, force_len, readings, volume_of}

-- ---- tokens, over any machine

-- The creation is one of this volume's: its sectors, each named once, are unfinished, and so many as its bytes take.
pub record IsDraft (s : State) (d : Draft) : Type 0 where
  pub small : d.length ≤ max_length
  pub size : total d.runs ≡ sectors_for d.length
  pub few : length d.runs ≤ max_runs
  pub some : AllByRecursion (λ r. 1 ≤ r.length) d.runs
  pub differ : IsTrue (all_differ (sectors_of d.runs))
  pub unfinished : (t : ℕ) → IsTrue (contains (sectors_of d.runs) t) → IsTrue (contains s.unfinished t)

-- The version is held at its place: its entry is one by the grammar, and its sectors are of the data area.
pub record IsHeldVersion (s : State) (h : Held) : Type 0 where
  pub entry : is_entry h.entry ≡ true
  pub within : (t : ℕ) → IsTrue (contains (sectors_of h.entry.runs) t) → IsTrue (is_data s.layout t)
  pub there : h.place < length s.readers
  pub runs : slice_index_or s.readers h.place None ≡ Some h.entry.runs

-- ---- what becomes of the volume, over any machine

-- These sectors, which were free, are an unfinished creation's.
pub record TakesPlace (runs : List Run) (old new : State) : Type 0 where
  pub is : new ≡ record old { free = new.free; freed = new.freed; waiting = new.waiting; unfinished = new.unfinished }
  pub unfinished : (t : ℕ) → contains new.unfinished t ≡ (contains old.unfinished t || contains (sectors_of runs) t)
  pub apart : (t : ℕ) → IsTrue (contains (sectors_of runs) t) → IsFalse (contains old.unfinished t)

-- These sectors are no unfinished creation's any more.
pub record GivesBack (runs : List Run) (old new : State) : Type 0 where
  pub is : new ≡ record old { free = new.free; freed = new.freed; waiting = new.waiting; unfinished = new.unfinished }
  pub unfinished : (t : ℕ) → contains new.unfinished t ≡ (contains old.unfinished t && not (contains (sectors_of runs) t))

-- The creation is over: the volume goes on without it.
pub record Enters (runs : List Run) (old new : State) : Type 0 where
  pub layout : new.layout ≡ old.layout
  pub epoch : new.serial.epoch ≡ old.serial.epoch
  pub unfinished : (t : ℕ) → contains new.unfinished t ≡ (contains old.unfinished t && not (contains (sectors_of runs) t))
  pub readers : new.readers ≡ old.readers
  pub down : new.down ≡ old.down

-- A reader holds the version: the place was empty.
pub record HoldsAt (h : Held) (old new : State) : Type 0 where
  pub is : new ≡ record old { readers = set old.readers h.place (Some h.entry.runs) }
  pub empty : slice_index_or old.readers h.place None ≡ None

-- The place is empty, and what it alone kept may be free.
pub record Unholds (place : ℕ) (old new : State) : Type 0 where
  pub is : new ≡ record old { free = new.free; freed = new.freed; waiting = new.waiting; readers = set old.readers place None }

-- The creation lies where a place was found, behind a force where one came, and has the serial that was drawn.
pub record Reserves (need : ℕ) (old new : State) (d : Draft) : Type 0 where
  pub middle : State
  pub went : ((forces_for_place old need ≡ false) × (middle ≡ old)) ⊎ ((forces_for_place old need ≡ true) × IsForced old middle)
  pub place : pick middle.free need ≡ Some d.runs
  pub serial : d.serial ≡ middle.serial
  pub takes : TakesPlace d.runs (with_drawn middle) new

-- What beginning a creation keeps: it is one of this volume's, of so many bytes; or the volume goes on.
pub record KeepsReserve (len : ℕ) (old new : State) (result : Result Draft Refusal) : Type 0 where
  pub draft : IfOk result (λ d. (d.length ≡ len) × IsDraft new d)
  pub state : IfErr result (λ why. GoesOn (downs result) old new)
  pub kept : MatchResult result (λ d. Reserves (sectors_for len) old new d) (λ why. KeepsRefused (reserve_steps old len) why old new)

-- ---- sectors that a call writes

abbrev pub reserve_len : State → (need : ℕ) → ℕ
reserve_len s need = if forces_for_place s need then force_len s else 0

-- so many sectors hold that many bytes of a creation
abbrev pub slice_count : ℕ → ℕ
slice_count len = sectors_for len - 1

abbrev pub slice_sectors : List Run → (first len : ℕ) → List ℕ
slice_sectors runs first len = take (slice_count len) (drop first (data_sectors runs))

abbrev pub in_slices : List Run → (first len : ℕ) → Sectors
in_slices runs first len t = contains (slice_sectors runs first len) t

abbrev pub in_leader : List Run → Sectors
in_leader runs t = contains (take 1 (sectors_of runs)) t

-- What ending a creation keeps: the volume goes on without it, or with it, and hands it back.
pub record KeepsEnter (draft : Draft) (keep : Option ℕ) (old new : State) (result : Result Key (Draft × Refusal)) : Type 0 where
  pub state : MatchResult result (λ key. Enters draft.runs old new) (λ p. GoesOn (downs_for p.1) old new)
  pub back : IfErr result (λ p. p.0 ≡ draft)
  pub kept : MatchResult result (λ key. HasCounted false (forces_first old) old new) (λ p. KeepsRefused (enter_steps old keep (in_leader draft.runs)) p.1 old new)

-- The bytes, laid from this slice on, lie within the length, and are whole slices or end there.
pub record FitsDraft (len first count : ℕ) : Type 0 where
  pub within : first * sector_len + count ≤ len
  pub whole : (count % sector_len ≡ 0) ⊎ (first * sector_len + count ≡ len)

-- ---- what is open

abbrev pub slices_in : List WrittenDraft → List Run → Option (List (Option (List ℕ)))
slices_in [] runs = None
slices_in (x ∷ drafts) runs = if same_runs x.runs runs then Some x.slices else slices_in drafts runs

abbrev pub drafts_with : List WrittenDraft → List Run → List (Option (List ℕ)) → List WrittenDraft
drafts_with [] runs slices = []
drafts_with (x ∷ drafts) runs slices = if same_runs x.runs runs then record { runs = x.runs; slices = slices } ∷ drafts else x ∷ drafts_with drafts runs slices

abbrev pub drafts_without : List WrittenDraft → List Run → List WrittenDraft
drafts_without drafts runs = filter (λ x. not (same_runs x.runs runs)) drafts

-- the volume with this open
abbrev pub with_opened : Known → OpenParts → Known
with_opened k o = record k {
  mounted = record k.mounted {
    volume = record (volume_of k) { drafts = map (λ x. x.runs) o.drafts; held = map (λ x. x.runs) (readings o.readers) };
    slices = map (λ x. x.slices) o.drafts;
    bytes = map (λ x. x.bytes) (readings o.readers);
  };
  opened = o;
}

-- one more creation, of which nothing is written
abbrev pub draft_begun : OpenParts → List Run → (len : ℕ) → OpenParts
draft_begun o runs len = record o { drafts = record { runs = runs; slices = replicate (slice_count len) None } ∷ o.drafts }

-- the creation is over
abbrev pub ended : OpenParts → List Run → OpenParts
ended o runs = record o { drafts = drafts_without o.drafts runs }

-- what is written of it
abbrev pub draft_wrote : OpenParts → List Run → List (Option (List ℕ)) → OpenParts
draft_wrote o runs slices = record o { drafts = drafts_with o.drafts runs slices }

-- what is read at a place
abbrev pub read_at : OpenParts → (place : ℕ) → Option HeldVersion → OpenParts
read_at o place reading = record o { readers = set o.readers place reading }

-- the slices from a place on with these in front
abbrev pub with_slices : List (Option (List ℕ)) → (first : ℕ) → List (Option (List ℕ)) → List (Option (List ℕ))
with_slices old first new = take first old ++ new ++ drop (first + length new) old

-- the slices that bytes are, the last of them filled up with zeros; or none of them
abbrev pub slices_if : Bool → List ℕ → List (Option (List ℕ))
slices_if done bytes = map (λ x. if done then Some x else None) (filled_slices bytes)

-- ---- over an honest machine

-- what is told of the end of a creation, without the draft that is handed back
abbrev pub refusal_told : {T X : Type 0} → Result T (X × Refusal) → Result T Refusal
refusal_told (Ok x) = Ok x
refusal_told (Err p) = Err p.1

module _ {S : Type 0} (state : S → State) (has : S → Mounted → List Placed → Type 0) where
  -- A creation is begun, as the definitions say.
  pub record Begins (len : ℕ) (k : Known) (new : S) (now : Moment) (d : Draft) : Type 0 where
    pub after : Known
    pub is : reserve_outcome (volume_of k) len ≡ (Ok d.runs, volume_of after)
    pub serial : d.serial ≡ (volume_of k).serial
    pub opened : after.opened ≡ draft_begun k.opened d.runs len
    pub windows : after.windows ≡ k.windows
    pub changes : after.changes ≡ k.changes
    pub stands : Stands state has new after now

  -- None is, as they say, or a force failed.
  pub record Declines (len : ℕ) (k : Known) (new : S) (now : Moment) (why : Refusal) : Type 0 where
    pub after : Known
    pub is : reserve_outcome (volume_of k) len ≡ (Err why, volume_of after)
    pub opened : after.opened ≡ k.opened
    pub windows : after.windows ≡ k.windows
    pub changes : after.changes ≡ k.changes
    pub stands : Stands state has new after now

  abbrev pub EndsReserve : (len : ℕ) → Known → S → Moment → Result Draft Refusal → Type 0
  EndsReserve len k new now (Ok d) = Begins len k new now d
  EndsReserve len k new now (Err (Why.Device s)) = (state new).down ≡ Some s
  EndsReserve len k new now (Err Why.WornOut) = Stands state has new k now
  EndsReserve len k new now (Err (Why.Lost a b)) = ⊥
  EndsReserve len k new now (Err (Why.Down s)) = ⊥
  EndsReserve len k new now (Err (Why.Unsound s)) = ⊥
  EndsReserve len k new now (Err Why.Memory) = ⊥
  EndsReserve len k new now (Err why) = Declines len k new now why

  -- the slices are written; where the disk failed nothing is known of them
  abbrev pub EndsSlices : (d : Draft) → (first : ℕ) → (bytes : List ℕ) → (before : List (Option (List ℕ))) → Known → S → Moment → Result (Unit {0}) Refusal → Type 0
  EndsSlices d first bytes before k new now (Ok x) = Stands state has new (with_opened k (draft_wrote k.opened d.runs (with_slices before first (slices_if true bytes)))) now
  EndsSlices d first bytes before k new now (Err (Why.Device s)) = Stands state has new (with_opened k (draft_wrote k.opened d.runs (with_slices before first (slices_if false bytes)))) now
  EndsSlices d first bytes before k new now (Err why) = ⊥

  -- the version is made of the creation, which is over; or it is one as before
  abbrev pub EndsEnter : Draft → (name bytes : List ℕ) → (keep : Option ℕ) → Known → S → Moment → Result Key Refusal → Type 0
  EndsEnter d name bytes keep k new now (Ok key) =
      EndsPut state has (λ met. enter_outcome met (volume_of k) name bytes keep d.runs d.serial) bytes (Change.Put name keep bytes) (record k { opened = ended k.opened d.runs }) new now (Ok key)
  EndsEnter d name bytes keep k new now (Err why) =
      EndsRefused state has (λ met. enter_outcome met (volume_of k) name bytes keep d.runs d.serial) k new now why

  -- The version of this key is held, with the bytes that it has.
  pub record HoldsVersion (key : Key) (k : Known) (new : S) (now : Moment) (h : Held) : Type 0 where
    pub entry : entry_of key (volume_of k).entries ≡ Some h.entry
    pub file : File
    pub there : find key_cmp key (volume_of k).files ≡ Some file
    pub len : h.entry.length ≡ length file.bytes
    pub stands : Stands state has new (with_opened k (read_at k.opened h.place (Some (record { runs = h.entry.runs; bytes = file.bytes })))) now

  abbrev pub EndsHold : Key → Known → S → Moment → Result Held Refusal → Type 0
  EndsHold key k new now (Ok h) = HoldsVersion key k new now h
  EndsHold key k new now (Err (Why.Device s)) = Stands state has new k now
  EndsHold key k new now (Err Why.Memory) = Stands state has new k now
  EndsHold key k new now (Err Why.NoSuch) = (entry_of key (volume_of k).entries ≡ None) × Stands state has new k now
  EndsHold key k new now (Err why) = ⊥

-- what a read of the version that is held gives, between these images
abbrev pub ReadsHeld : (i j : Image) → Held → (bytes : List ℕ) → (from : ℕ) → (old new : List ℕ) → Result ℕ Refusal → Type 0
ReadsHeld i j h bytes from old new result = ReadsRange i j (Some (record { bytes = bytes; keep = h.entry.keep })) (Some h.entry) from old new result
