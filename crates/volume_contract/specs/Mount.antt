-- What a mount finds, why it is refused, and what it leaves.
use Rattle.std.specs.Prelude.{◌≡◌, ◌⊎◌, ⊤, ℕ, ◌+◌, ◌-◌, ◌*◌, ◌<◌, ◌≤◌, Bool, ◌||◌, List, [], ◌∷◌, ◌++◌, take, Option, Some, None, IfSome, IfOk, IfErr, Result, Ok, Err}
use Rattle.volume_layout.specs.declared.layout.Layout.{Layout}
use Rattle.volume_layout.specs.Layout.{data_start, home_a, IsPlanned}
use Rattle.run_table.specs.Space.{runs_of, where_free}
use Rattle.fsd_formats.specs.declared.anchor.Anchor.{Anchor}
use Rattle.fsd_formats.specs.Anchors.{anchor_bytes}
use Rattle.fsd_formats.specs.SavedMap.{is_set_in}
use Rattle.sector_disk.specs.declared.machine.Machine.{Ghosts}
use Rattle.sector_disk.specs.declared.sector.WeakRun.{WeakRun}
use Rattle.sector_disk.specs.Image.{IsWorn, in_weak_run, open_damage}
use Rattle.sector_disk.specs.Machine.{Ledger, Moment, Wears}
use Rattle.fsd_log.specs.Scan.{Placed}
use Rattle.fsd_table.specs.Breaks.{Breaks, BreaksAt}
use Rattle.fsd_table.specs.Table.{told_in}
use Rattle.fsd_files.specs.Disk.{Image}
use Rattle.fsd_files.specs.Files.{Change}
use Rattle.fsd_sound.specs.Anchors.{anchor_of}
use Rattle.fsd_sound.specs.Homes.{home_of, HasBothHomes}
use Rattle.fsd_sound.specs.Laid.{StandsTwice}
use Rattle.fsd_sound.specs.Mounted.{Mounted, IsFreshlyMounted, telling_of}
use Rattle.fsd_sound.specs.Saved.{IsBelieved, SeesNone}
use Rattle.fsd_sound.specs.Shown.{all_pages, each_of, shown}
use Rattle.fsd_sound.specs.Sound.{EndIn, IsPrefixOf, IsSaid, IsSound, SaysNoMore, weak_of}
use Rattle.fsd_sound.specs.declared.fault.MountFault.{MountFault}
use Rattle.fsd_sound.specs.declared.fault.MountFault.TheVariants.{Device, Memory, NoAnchor, NotVolume, Unsound, WornOut}
use Rattle.fsd_sound.specs.Lost.{AreCopiesOn, LosesShown, LostIn}
use Rattle.fsd_sound.specs.Writes.{MountKeeps, WritesAsMount}
use Rattle.fsd_sound.specs.Windows.{IsNamedSince}
use Rattle.fsd_sound.specs.Mounting.{EachBears, HasNextEpoch, HasRoot, IsVolume, RefusedFor, last_epoch}
use Rattle.fsd_runs.specs.Leaves.{RaisesEpoch}
use Rattle.volume_contract.specs.State.{Fits, IsNew, Known, ListsPages, Stands, State, none_open}

-- ---- over any machine

-- A mount writes each home once at most, the last record's copies, the roots and the anchors.
abbrev pub CountsMount : State → Ledger → Ledger → Type 0
CountsMount s old new = (old.written ≤ new.written) × (new.written ≤ old.written + (2 * s.layout.pages + 101))

-- A volume just mounted lies on so many sectors, as its layout is planned, and nothing waits.
pub record MountOpens {D : Type 0} (M : Ghosts D) (sectors : ℕ) (s : State) (old new : D) : Type 0 where
  pub room : s.layout.sectors ≤ sectors
  pub planned : IsPlanned s.layout
  pub fresh : IsNew s
  pub counted : M.tells new → CountsMount s (M.ledger old) (M.ledger new)

-- ---- what is found, and why a mount is refused: by an image that was seen, which the old one may be worn to

-- The layout is the image's root, and the epoch the one behind its anchor's, which was not the last. Each root of the image that counts bears the
-- run of the window that the mount has settled.
pub record IsFound (sectors : ℕ) (s : State) (old new : Moment) : Type 0 where
  pub seen : Image
  pub from : IsWorn (open_damage old.windows) old.image seen
  pub anchor : Anchor
  pub found : IsVolume sectors seen s.layout anchor
  pub left : anchor.epoch < last_epoch
  pub next : s.serial.epoch ≡ anchor.epoch + 1
  pub bears : IfSome new.windows.present (EachBears sectors seen)

-- Where its table is unsound the image has an epoch behind it too.
abbrev pub MountRefusedFor : ℕ → Image → MountFault → Type 0
MountRefusedFor sectors i (Unsound s) = HasNextEpoch sectors i
MountRefusedFor sectors i fault = RefusedFor sectors i fault

pub record IsRefused (sectors : ℕ) (fault : MountFault) (old : Moment) : Type 0 where
  pub seen : Image
  pub from : IsWorn (open_damage old.windows) old.image seen
  pub why : MountRefusedFor sectors seen fault

-- what is refused before anything is written stays as it was
abbrev pub KeepsAll : MountFault → Moment → Moment → Type 0
KeepsAll NotVolume old new = Wears old new
KeepsAll NoAnchor old new = Wears old new
KeepsAll WornOut old new = Wears old new
KeepsAll fault old new = ⊤

-- ---- what is healed, whatever the image was

-- the volume's anchor stands at both of its places, but for what the open window may wear
abbrev pub HealsAnchors : State → Moment → Type 0
HealsAnchors s now = StandsTwice 1 (open_damage now.windows) now.image (anchor_bytes s.anchor) 8 12

-- each home of each page has some bytes, or is damaged where the open window may wear it
abbrev pub HealsHomes : State → Moment → Type 0
HealsHomes s now = (page : ℕ) → page < s.layout.pages → HasBothHomes s.layout now page

-- ---- unsound tables

-- these are the pages at home, however these sectors of the image wear
abbrev pub ReadAlike : Layout → (weak : ℕ → Bool) → Image → List (List ℕ) → Type 0
ReadAlike l weak seen pages = (i : Image) → IsWorn weak seen i → each_of (home_of l i) (all_pages l) ≡ Some pages

-- The table was read at home, from an image that may be worn to this one. Where each page reads alike there however the
-- open window wears it, one of these pages breaks the table, and this is its first home.
pub record IsUnsoundAt (sectors : ℕ) (old new : Moment) (s : ℕ) : Type 0 where
  pub layout : Layout
  pub root : HasRoot sectors old.image layout
  pub seen : Image
  pub to : IsWorn (open_damage new.windows) seen new.image
  pub breaks : (pages : List (List ℕ)) → ReadAlike layout (open_damage new.windows) seen pages → BreaksAt layout pages s

abbrev pub UnsoundFor : ℕ → (old new : Moment) → MountFault → Type 0
UnsoundFor sectors old new (Unsound s) = IsUnsoundAt sectors old new s
UnsoundFor sectors old new fault = ⊤

-- ---- the saved map

-- The free sectors, the free pages and the number of versions are those of a map of this epoch, which is believed of the
-- image.
pub record IsByMap (epoch : ℕ) (i : Image) (s : State) : Type 0 where
  pub believed : IsBelieved s.layout epoch i
  pub free : s.free ≡ runs_of (where_free (is_set_in believed.sectors) (data_start s.layout) s.layout.sectors)
  pub spare : s.free_pages ≡ where_free (λ page. is_set_in believed.sectors (home_a s.layout page)) 0 s.layout.pages
  pub versions : s.versions ≡ believed.counts.versions

-- so it is of a map of the epoch before the volume's, or none was seen that is believed
abbrev pub IsByMapSeen : State → Moment → Type 0
IsByMapSeen s old = IsByMap (s.serial.epoch - 1) old.image s ⊎ SeesNone s.layout (s.serial.epoch - 1) old

-- ---- both, by the answer

module _ {S : Type 0} (state : S → State) where
  -- Each answer but a fault of the disk and want of memory says what the image was, as it was seen.
  pub record MountTells (sectors : ℕ) (old new : Moment) (result : Result S MountFault) : Type 0 where
    pub found : IfOk result (λ volume. IsFound sectors (state volume) old new)
    pub map : IfOk result (λ volume. IsByMapSeen (state volume) old)
    pub refused : IfErr result (λ fault. IsRefused sectors fault old)
    pub unchanged : IfErr result (λ fault. KeepsAll fault old new)
    pub lost : IfErr result (λ fault. LostIn (AreCopiesOn sectors old) new.image fault)
    pub unsound : IfErr result (λ fault. UnsoundFor sectors old new fault)

  -- Of any image: the sectors that no mount writes stay but for wear. Once it is mounted both anchors are the volume's,
  -- and each home of each page stands, but for what the open window may wear.
  pub record MountHeals (sectors : ℕ) (old new : Moment) (result : Result S MountFault) : Type 0 where
    pub rest : MountKeeps sectors old new
    pub anchors : IfOk result (λ volume. HealsAnchors (state volume) new)
    pub homes : IfOk result (λ volume. HealsHomes (state volume) new)

-- ---- where nothing wears

-- The image shows these pages of a volume.
pub record ShowsVolumePages (sectors : ℕ) (i : Image) (l : Layout) (pages : List (List ℕ)) : Type 0 where
  pub anchor : Anchor
  pub found : IsVolume sectors i l anchor
  pub shows : shown l i ≡ Some pages

-- It has a map that is believed, and no page was read.
pub record MountsSaved (resident : ℕ → Option (List ℕ)) (sectors : ℕ) (i : Image) (s : State) : Type 0 where
  pub anchor : Anchor
  pub found : IsVolume sectors i s.layout anchor
  pub by : IsByMap anchor.epoch i s
  pub unread : (page : ℕ) → resident page ≡ None

-- no map of the image is believed
abbrev pub BelievesNone : ℕ → Image → Type 0
BelievesNone sectors i = (l : Layout) (a : Anchor) → IsVolume sectors i l a → IsBelieved l a.epoch i → ⊥

module _ {S : Type 0} (state : S → State) (resident : S → ℕ → Option (List ℕ)) (has : S → Mounted → List Placed → Type 0) where
  -- The volume has the pages that the image shows in memory, and no records:
  -- they are a table, and none of them breaks it.
  pub record MountsShown (sectors : ℕ) (i : Image) (volume : S) : Type 0 where
    pub mounted : Mounted
    pub shows : ShowsVolumePages sectors i (state volume).layout mounted.pages
    pub holds : has volume mounted []
    pub fits : Fits (state volume) mounted
    pub lists : ListsPages (state volume) mounted.pages []
    pub told : told_in mounted.pages ≡ Some (telling_of mounted.volume)
    pub whole : (page : ℕ) → Breaks (state volume).layout mounted.pages page → ⊥

  -- The volume is mounted by its map. Or no map is believed, and it is mounted as its pages are, or a page breaks, or one isn't
  -- shown.
  abbrev pub MountsCalm : ℕ → Image → Result S MountFault → Type 0
  MountsCalm sectors i (Ok volume) = MountsSaved (resident volume) sectors i (state volume) ⊎ (MountsShown sectors i volume × BelievesNone sectors i)
  MountsCalm sectors i (Err (Unsound s)) = ((l : Layout) × (pages : List (List ℕ)) × ShowsVolumePages sectors i l pages × BreaksAt l pages s) × BelievesNone sectors i
  MountsCalm sectors i (Err fault) = LosesShown sectors i fault

-- ---- the mount of a sound disk

-- The machine's disk is sound, and each layout that a root says has room.
pub record IsSoundAt (sectors : ℕ) (l : Layout) (windows : List WeakRun) (h : List Change) (f : ℕ) (now : Moment) : Type 0 where
  pub planned : IsPlanned l
  pub fits : (k : Layout) → IsSaid l now.image k → k.sectors ≤ sectors
  pub ends : EndIn now.windows windows
  pub sound : IsSound l windows h f now.image

-- Before it settles: the present window is as it was, and the disk is sound as it was. No root says a layout that none said
-- before.
pub record SoundBefore (l : Layout) (windows : List WeakRun) (h : List Change) (f : ℕ) (old left : Moment) : Type 0 where
  pub present : left.windows.present ≡ old.windows.present
  pub said : left.said ≡ old.said
  pub sound : IsSound l windows h f left.image
  pub says : SaysNoMore old.image left.image
  pub writes : WritesAsMount l (weak_of windows) old left

-- Since then: run is the present window, no next one is named,
-- and the disk is sound for the first n changes alone.
pub record SoundSince (l : Layout) (windows : List WeakRun) (run : WeakRun) (h : List Change) (n : ℕ) (old left : Moment) : Type 0 where
  pub settled : left.windows ≡ record { present = Some run; next = None }
  pub said : left.said ≡ old.said
  pub sound : IsSound l (windows ++ run ∷ []) (take n h) n left.image
  pub says : SaysNoMore old.image left.image
  pub writes : WritesAsMount l (λ s. weak_of windows s || in_weak_run run s) old left

-- A moment of a mount that settled at this time: one up to it, or one since, with all that the mount wrote on the disk.
abbrev pub SoundAbout : (at : ℕ) (l : Layout) (windows : List WeakRun) (run : WeakRun) (h : List Change) (f n : ℕ) (old left : Moment) → Type 0
SoundAbout at l windows run h f n old left = (SoundBefore l windows h f old left × (left.time ≤ at)) ⊎ (SoundSince l windows run h n old left × (at ≤ left.synced))

-- ---- its end

-- The disk that settled, with run as its window, in the epoch behind that of the old one: it is this volume's, with
-- nothing that waits.
pub record SettledDisk (l : Layout) (windows : List WeakRun) (run : WeakRun) (h : List Change) (n : ℕ) (k : Known) (old new : Moment) : Type 0 where
  pub settled : new.windows ≡ record { present = Some run; next = None }
  pub known : k.windows ≡ windows ++ run ∷ []
  pub opened : k.opened ≡ none_open
  pub changes : k.changes ≡ take n h
  pub layout : k.mounted.volume.layout ≡ l
  pub first : k.mounted.volume.serial.count ≡ 1
  pub raised : RaisesEpoch windows old.image new.image
  pub fresh : IsFreshlyMounted k.changes k.windows new.image k.mounted

-- the disk failed, or memory was refused
abbrev pub Excuses : MountFault → Type 0
Excuses (Device s) = ⊤
Excuses Memory = ⊤
Excuses fault = ⊥

-- The image's epoch is the last one.
pub record IsAtLastEpoch (i : Image) : Type 0 where
  pub anchor : Anchor
  pub taken : anchor_of i ≡ Some anchor
  pub last : anchor.epoch ≡ last_epoch

abbrev pub ExcusesOf : Image → MountFault → Type 0
ExcusesOf i WornOut = IsAtLastEpoch i
ExcusesOf i fault = Excuses fault

abbrev pub FailsFor : {T : Type 0} → (MountFault → Type 0) → Result T MountFault → Type 0
FailsFor P (Ok x) = ⊥
FailsFor P (Err fault) = P fault

module _ {S : Type 0} (state : S → State) (has : S → Mounted → List Placed → Type 0) where
  abbrev pub Mounts : Known → Moment → Result S MountFault → Type 0
  Mounts k new (Ok volume) = Stands state has volume k new
  Mounts k new (Err fault) = Excuses fault

  -- it failed before it settled
  pub record EndsBefore (l : Layout) (windows : List WeakRun) (h : List Change) (f : ℕ) (Only : (Moment → Type 0) → Type 0) (old new : Moment) (result : Result S MountFault) : Type 0 where
    pub moments : Only (SoundBefore l windows h f old)
    pub exit : SoundBefore l windows h f old new
    pub why : FailsFor (ExcusesOf old.image) result

  -- It settled at a time, with the files after the first n changes, all of them forced, and with one run, next, as the
  -- present window at each moment since, which was named since the mount began: the volume is mounted, or its walk failed.
  -- What was written up to then is on the disk.
  pub record EndsSettled (l : Layout) (windows : List WeakRun) (h : List Change) (f : ℕ) (Past : ℕ → Moment → Type 0) (began : ℕ) (Only : (Moment → Type 0) → Type 0) (old new : Moment) (result : Result S MountFault) : Type 0 where
    pub count : ℕ
    pub prefix : IsPrefixOf h f count
    pub next : WeakRun
    pub named : IsNamedSince Past began (Some next)
    pub known : Known
    pub at : ℕ
    pub later : began ≤ at
    pub held : at ≤ new.synced
    pub since : (left : Moment) → Past at left → SoundSince l windows next h count old left
    pub moments : Only (SoundAbout at l windows next h f count old)
    pub settled : SettledDisk l windows next h count known old new
    pub ends : Mounts known new result

  -- both by this layout
  abbrev pub MountsAs : Layout → List WeakRun → List Change → ℕ → (Past : ℕ → Moment → Type 0) → (began : ℕ) → ((Moment → Type 0) → Type 0) → (old new : Moment) → Result S MountFault → Type 0
  MountsAs l windows h f Past began Only old new result = EndsBefore l windows h f Only old new result ⊎ EndsSettled l windows h f Past began Only old new result

  -- so it is by the layout that the mount has read: this one, or one beside it, where a root says so
  abbrev pub MountsSound : Layout → List WeakRun → List Change → ℕ → (Past : ℕ → Moment → Type 0) → (began : ℕ) → ((Moment → Type 0) → Type 0) → (old new : Moment) → Result S MountFault → Type 0
  MountsSound l windows h f Past began Only old new result = (layout : Layout) × IsSaid l old.image layout × MountsAs layout windows h f Past began Only old new result
