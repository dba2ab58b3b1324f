-- The lives of a drill, what it says of each, and how it ends.
use Rattle.std.specs.Prelude.{◌≡◌, ◌⊎◌, ◌<◌, ◌≤◌, ◌==◌, ◌||◌, ℕ, suc, zero, Bool, false, List, [], ◌∷◌, ◌++◌, length, take, None, codes, IsFalse, if◌then◌else◌}
use Rattle.std.specs.List.{flat_map}
use Rattle.sector_disk.specs.declared.machine.Machine.{Ghosts}
use Rattle.memory_machine.specs.declared.memory.MemoryMachine.{MemoryMachine}
use Rattle.sector_disk.specs.declared.sector.WeakRun.{WeakRun}
use Rattle.sector_disk.specs.Calls.{SparesDisk}
use Rattle.sector_disk.specs.Machine.{Moment, Trusts}
use Rattle.memory_machine.specs.Memory.{IsHonest, memory_now}
use Rattle.volume_layout.specs.declared.layout.Layout.{Layout}
use Rattle.fsd_files.specs.Files.{Change, Files, after}
use Rattle.fsd_sound.specs.Sound.{IsPrefixOf}
use Rattle.fsd_texts.specs.declared.line.Line.TheVariants as Says
use Rattle.fsd_texts.specs.Text.{memory_text, text}
use Rattle.fsd_runs.specs.Commands.{listed_text, version_text}
use Rattle.volume_contract.specs.State.{Ages}
use Rattle.volume_turns.specs.Line.{is_unsaid}
use Rattle.cfs_program.specs.Opening.{IsSoundDisk}

-- ---- lists

-- what a list of all versions says, where these are the files
abbrev pub list_text : Files → List ℕ
list_text files = flat_map (λ x. version_text x.0 (length x.1.bytes) x.1.keep) files ++ listed_text (length files)

-- A list finds so many of these changes, the first f among them, and is that of the files behind those that it finds.
pub record ListsPrefix (h : List Change) (f : ℕ) (list : List ℕ) : Type 0 where
  pub found : ℕ
  pub prefix : IsPrefixOf h f found
  pub says : list ≡ list_text (after (take found h))

-- ---- lives

-- what is put in each life, one after the other
abbrev pub puts : List Change
puts = Change.Put (codes "a") None (codes "x") ∷ Change.Put (codes "b") None (codes "y") ∷ []

-- the lives in which the machine stops in the second put
abbrev pub is_stopped : (life : ℕ) → Bool
is_stopped life = life == 2 || life == 3 || life == 4

-- how many of the puts are done
abbrev pub puts_done : (life : ℕ) → ℕ
puts_done life = if is_stopped life then 1 else 2

-- the list of a life finds each put that is done, and one that was stopped or not
abbrev pub IsListOf : (life : ℕ) → List ℕ → Type 0
IsListOf life list = ListsPrefix puts (puts_done life) list

-- the lines of some first lives, so many: for each its number, and its list
abbrev pub AreLives : (lives : ℕ) → List ℕ → Type 0
AreLives zero said = said ≡ []
AreLives (suc lives) said = (before : List ℕ) × AreLives lives before × (list : List ℕ) × IsListOf (suc lives) list × (said ≡ before ++ (text (Says.Life (suc lives)) ++ list))

-- how many there are
abbrev pub all_lives : ℕ
all_lives = 6

-- ---- what is said

-- Some first bytes of a text are said.
pub record BeginsSaying (bytes : List ℕ) (old new : Moment) : Type 0 where
  pub part : List ℕ
  pub rest : List ℕ
  pub whole : bytes ≡ part ++ rest
  pub said : new.said ≡ old.said ++ part

-- the text of some first lives, or that and behind it that memory was refused for the next one
abbrev pub IsDrillText : List ℕ → Type 0
IsDrillText bytes = (lives : ℕ) × (lives ≤ all_lives) × (said : List ℕ) × AreLives lives said × ((bytes ≡ said) ⊎ ((lives < all_lives) × (bytes ≡ said ++ memory_text)))

-- All lives are said, with 0; or some first ones, and that memory was refused for the next one, with 7;
-- or the output failed behind some first bytes of such a text, with 6.
abbrev pub SaysDrill : (old new : Moment) → ℕ → Type 0
SaysDrill old new result =
    ((result ≡ 0) × (said : List ℕ) × AreLives all_lives said × (new.said ≡ old.said ++ said))
    ⊎ (((result ≡ 7) × (lives : ℕ) × (lives < all_lives) × (said : List ℕ) × AreLives lives said × (new.said ≡ old.said ++ (said ++ memory_text)))
    ⊎ ((result ≡ 6) × (bytes : List ℕ) × IsDrillText bytes × BeginsSaying bytes old new))

-- ---- over a machine in memory

-- The disk is sound after some first ones of these changes; the first f are among them, and forced.
pub record KeepsFirst (h : List Change) (f : ℕ) (now : Moment) : Type 0 where
  pub layout : Layout
  pub windows : List WeakRun
  pub made : ℕ
  pub few : made ≤ length h
  pub forced : ℕ
  pub some : f ≤ forced
  pub sound : IsSoundDisk layout windows (take made h) forced now

-- where the machine is honest
abbrev pub KeepsIfHonest : List Change → ℕ → MemoryMachine → Type 0
KeepsIfHonest h f m = IsHonest m → KeepsFirst h f (memory_now m)

-- ---- over any machine

-- Bytes are said, all of them or, where the output failed, some first ones; nothing else is asked for.
pub record SpeaksBytes {D : Type 0} (M : Ghosts D) (bytes : List ℕ) (failed : Bool) (a b : D) : Type 0 where
  pub spares : SparesDisk false failed (M.report a) (M.report b)
  pub trust : Trusts (M.tells a) (M.tells b) (M.honest a) (M.honest b)
  pub ledger : M.tells b → M.ledger b ≡ M.ledger a
  pub ages : M.honest b → Ages (M.now a) (M.now b)
  pub begins : M.honest b → BeginsSaying bytes (M.now a) (M.now b)
  pub says : IsFalse failed → M.honest b → (M.now b).said ≡ (M.now a).said ++ bytes

-- The lines of the first lives are said, so many.
pub record SaysLives {D : Type 0} (M : Ghosts D) (lives : ℕ) (a b : D) : Type 0 where
  pub said : List ℕ
  pub are : AreLives lives said
  pub speaks : SpeaksBytes M said false a b

-- A drill says some first lives and leaves the disk as it was but for wear.
pub record Drills {D : Type 0} (M : Ghosts D) (a b : D) (result : ℕ) : Type 0 where
  pub status : (result ≡ 0) ⊎ ((result ≡ 7) ⊎ (result ≡ 6))
  pub spares : SparesDisk false (is_unsaid result) (M.report a) (M.report b)
  pub trust : Trusts (M.tells a) (M.tells b) (M.honest a) (M.honest b)
  pub ledger : M.tells b → M.ledger b ≡ M.ledger a
  pub ages : M.honest b → Ages (M.now a) (M.now b)
  pub says : M.honest b → SaysDrill (M.now a) (M.now b) result
