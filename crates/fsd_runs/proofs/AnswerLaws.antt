-- What the answers of a volume do to its files, to the pages of its table, to what it holds and to what is forced.
use Rattle.std.proofs.Common.{◌≡◌, ◌⊎◌, inl, inr, ℕ, suc, ◌≤◌, Bool, true, false, cond, List, [], ◌∷◌, length, Option, Some, None, refl, ap, ◌∙◌, arith}
use Rattle.std.specs.Prelude.{IfSome, is_none, not, nat_le, nat_lt, ◌&&◌, ◌==◌}
use Rattle.std.specs.FinMap.{find}
use Rattle.fsd_bytes.specs.declared.key.Key.{Key}
use Rattle.fsd_bytes.specs.declared.key.Serial.{Serial}
use Rattle.fsd_bytes.specs.declared.refusal.Refusal.{Refusal}
use Rattle.fsd_bytes.specs.declared.refusal.Refusal.TheVariants.{KeepTooLarge}
use Rattle.fsd_bytes.specs.Keys.{key_cmp}
use Rattle.volume_layout.specs.declared.kind.Kind.{Kind}
use Rattle.volume_layout.specs.declared.kind.Kind.TheVariants.{Two, Three}
use Rattle.run_table.specs.declared.run.Run.{Run}
use Rattle.fsd_formats.specs.declared.entry.Entry.{Entry}
use Rattle.fsd_formats.specs.NamePage.{sectors_for, max_keep}
use Rattle.sector_disk.specs.declared.sector.Sector.{Sector}
use Rattle.sector_disk.specs.declared.sector.Sector.TheVariants.{Whole, Damaged}
use Rattle.sector_disk.specs.Image.{sector_at}
use Rattle.fsd_files.specs.Answers.{Met, Outcome, refused, enter_fault, entered_unless, entered_version, put_at, put_unless, size_fault, keep_given, load_at, load_fault, load_unless, loaded_unless, deleted, keep_set, moved, moved_unless, entry_of, highest_entry, upgraded, grow_fault, grown_unless, got, FindsDamage, FindsDamageIn}
use Rattle.fsd_files.specs.Disk.{Image}
use Rattle.fsd_files.specs.Files.{Change, File, Files, step}
use Rattle.fsd_files.specs.Kept.{range_sectors}
use Rattle.fsd_files.specs.Scrub.{Picks, all_data}
use Rattle.fsd_files.specs.Volume.{Volume, forced, forced_if, forced_for_place, drawn, place_for}
use Rattle.fsd_texts.specs.declared.command.Command.{Command}
use Rattle.fsd_texts.specs.declared.command.Command.TheVariants as Word
use Rattle.fsd_runs.specs.Commands.{answer, changes_of, MayFind}
use Rattle.fsd_runs.specs.Errands.{is_forced}

-- ---- one answer: nothing is changed, or the change is made

-- the files, the pages and what is held are as before, and no more is unforced
pub record IsSame (v w : Volume) : Type 0 where
  pub files : w.files ≡ v.files
  pub reached : w.reached ≡ v.reached
  pub held : w.held ≡ v.held
  pub unforced : w.unforced ≤ v.unforced

pub same_itself : (v : Volume) → IsSame v v
same_itself v = record { files = refl; reached = refl; held = refl; unforced = omega arith }

same_then : (u v w : Volume) → IsSame u v → IsSame v w → IsSame u w
same_then u v w a b = record { files = b.files ∙ a.files; reached = b.reached ∙ a.reached; held = b.held ∙ a.held; unforced = omega (arith, a.unforced, b.unforced) }

pub same_forced : (b : Bool) (v : Volume) → IsSame v (cond b (forced v) v)
same_forced true v = record { files = refl; reached = refl; held = refl; unforced = omega arith }
same_forced false v = same_itself v

pub record Refuses (v : Volume) (command : Command) (out : Outcome) : Type 0 where
  pub none : changes_of command out.0 ≡ []
  pub same : IsSame v out.1

pub record Changes (met : Met) (v : Volume) (command : Command) (out : Outcome) : Type 0 where
  pub change : Change
  pub is : changes_of command out.0 ≡ change ∷ []
  pub files : out.1.files ≡ step v.files change
  pub reached : out.1.reached ≡ met.reached
  pub held : out.1.held ≡ v.held
  pub unforced : out.1.unforced ≤ suc v.unforced

abbrev pub Does : Met → Volume → Command → Outcome → Type 0
Does met v command out = Refuses v command out ⊎ Changes met v command out

-- from a volume that is the same
does_from : (met : Met) (u v : Volume) (command : Command) (out : Outcome) → IsSame u v → Does met v command out → Does met u command out
does_from met u v command out same (inl r) = inl (record { none = r.none; same = same_then u v out.1 same r.same })
does_from met u v command out same (inr c) = inr (record {
  change = c.change;
  is = c.is;
  files = c.files ∙ ap (λ (s : Files). step s c.change) same.files;
  reached = c.reached;
  held = c.held ∙ same.held;
  unforced = omega (arith, c.unforced, same.unforced);
})

put_enters : (met : Met) (v : Volume) (name bytes : List ℕ) (given : Option ℕ) (runs : List Run) (serial : Serial) (o : Option Refusal)
    → Does met v (Word.Put name bytes given) (entered_unless o v name bytes given runs serial met.reached)
put_enters met v name bytes given runs serial (Some why) = inl (record { none = refl; same = same_itself v })
put_enters met v name bytes given runs serial None = inr (record { change = Change.Put name given bytes; is = refl; files = refl; reached = refl; held = refl; unforced = omega arith })

put_entered : (met : Met) (v : Volume) (name bytes : List ℕ) (given : Option ℕ) (runs : List Run) (serial : Serial) → Does met v (Word.Put name bytes given) (entered_version met v name bytes given runs serial)
put_entered met v name bytes given runs serial =
    let at = forced_if met.forces v in
    does_from met v at (Word.Put name bytes given) (entered_version met v name bytes given runs serial) (same_forced (met.forces && nat_le 2 v.unforced) v) (put_enters met at name bytes given runs serial (enter_fault at name))

put_placed : (met : Met) (v : Volume) (name bytes : List ℕ) (given : Option ℕ) (need : ℕ) (o : Option (List Run)) → Does met v (Word.Put name bytes given) (put_at met v name bytes given need o)
put_placed met v name bytes given need None = inl (record { none = refl; same = same_itself v })
put_placed met v name bytes given need (Some runs) =
    does_from met v (drawn v) (Word.Put name bytes given) (put_at met v name bytes given need (Some runs)) (record { files = refl; reached = refl; held = refl; unforced = omega arith }) (put_entered met (drawn v) name bytes given runs v.serial)

put_does : (met : Met) (v : Volume) (name bytes : List ℕ) (given : Option ℕ) (o : Option Refusal) → Does met v (Word.Put name bytes given) (put_unless o met v name bytes given)
put_does met v name bytes given (Some why) = inl (record { none = refl; same = same_itself v })
put_does met v name bytes given None =
    let need = sectors_for (length bytes) in
    let at = forced_for_place need v in
    does_from met v at (Word.Put name bytes given) (put_unless None met v name bytes given) (same_forced (is_none (place_for v need) && not (length v.removed == 0)) v) (put_placed met at name bytes given need (place_for at need))

load_enters : (met : Met) (v : Volume) (key : Key) (keep : ℕ) (bytes : List ℕ) (runs : List Run) (serial : Serial) (o : Option Refusal)
    → Does met v (Word.Load key keep bytes) (loaded_unless o v key keep bytes runs serial met.reached)
load_enters met v key keep bytes runs serial (Some why) = inl (record { none = refl; same = same_itself v })
load_enters met v key keep bytes runs serial None = inr (record { change = Change.Load key keep bytes; is = refl; files = refl; reached = refl; held = refl; unforced = omega arith })

load_placed : (met : Met) (v : Volume) (key : Key) (keep : ℕ) (bytes : List ℕ) (need : ℕ) (o : Option (List Run)) → Does met v (Word.Load key keep bytes) (load_at met v key keep bytes need o)
load_placed met v key keep bytes need None = inl (record { none = refl; same = same_itself v })
load_placed met v key keep bytes need (Some runs) =
    let at = forced_if met.forces (drawn v) in
    let before : IsSame v (drawn v) = record { files = refl; reached = refl; held = refl; unforced = omega arith } in
    does_from met v at (Word.Load key keep bytes) (load_at met v key keep bytes need (Some runs)) (same_then v (drawn v) at before (same_forced (met.forces && nat_le 2 v.unforced) (drawn v)))
    (load_enters met at key keep bytes runs v.serial (load_fault at key))

load_does : (met : Met) (v : Volume) (key : Key) (keep : ℕ) (bytes : List ℕ) (o : Option Refusal) → Does met v (Word.Load key keep bytes) (load_unless o met v key keep bytes)
load_does met v key keep bytes (Some why) = inl (record { none = refl; same = same_itself v })
load_does met v key keep bytes None =
    let need = sectors_for (length bytes) in
    let at = forced_for_place need v in
    does_from met v at (Word.Load key keep bytes) (load_unless None met v key keep bytes) (same_forced (is_none (place_for v need) && not (length v.removed == 0)) v) (load_placed met at key keep bytes need (place_for at need))

delete_does : (met : Met) (v : Volume) (key : Key) (o : Option Entry) → Does met v (Word.Delete key) (deleted v key met.reached o)
delete_does met v key None = inl (record { none = refl; same = same_itself v })
delete_does met v key (Some e) = inr (record { change = Change.Delete key; is = refl; files = refl; reached = refl; held = refl; unforced = omega arith })

keep_does : (met : Met) (v : Volume) (name : List ℕ) (keep : ℕ) (o : Option Entry) → Does met v (Word.Keep name keep) (keep_set v name keep met.reached o)
keep_does met v name keep None = inl (record { none = refl; same = same_itself v })
keep_does met v name keep (Some e) = inr (record { change = Change.SetKeep name keep; is = refl; files = refl; reached = refl; held = refl; unforced = omega arith })

keep_tried : (met : Met) (v at : Volume) (name : List ℕ) (keep : ℕ) (b : Bool) → IsSame v at → Does met v (Word.Keep name keep) (cond b (refused v (KeepTooLarge keep)) (keep_set at name keep met.reached (highest_entry name at.entries)))
keep_tried met v at name keep true same = inl (record { none = refl; same = same_itself v })
keep_tried met v at name keep false same = does_from met v at (Word.Keep name keep) (keep_set at name keep met.reached (highest_entry name at.entries)) same (keep_does met at name keep (highest_entry name at.entries))

move_tried : (met : Met) (v : Volume) (key : Key) (name : List ℕ) (x : File) (e : Entry) (o : Option Refusal) → Does met v (Word.Move key name) (moved_unless o v key name x e met.reached)
move_tried met v key name x e (Some why) = inl (record { none = refl; same = same_itself v })
move_tried met v key name x e None = inr (record { change = Change.Move key name; is = refl; files = refl; reached = refl; held = refl; unforced = omega arith })

move_does : (met : Met) (v : Volume) (key : Key) (name : List ℕ) (x : Option File) (e : Option Entry) → Does met v (Word.Move key name) (moved v key name met.reached x e)
move_does met v key name None None = inl (record { none = refl; same = same_itself v })
move_does met v key name None (Some e) = inl (record { none = refl; same = same_itself v })
move_does met v key name (Some x) None = inl (record { none = refl; same = same_itself v })
move_does met v key name (Some x) (Some e) = move_tried met v key name x e (enter_fault v name)

still : (met : Met) (v : Volume) (command : Command) (out : Outcome) → changes_of command out.0 ≡ [] → IsSame v out.1 → Does met v command out
still met v command out none same = inl (record { none = none; same = same })

upgrade_same : (kind : Kind) (v : Volume) → IsSame v (upgraded kind v).1
upgrade_same Two v = record { files = refl; reached = refl; held = refl; unforced = omega arith }
upgrade_same Three v = same_itself v

grow_same : (why : Option Refusal) (n : ℕ) (v : Volume) → IsSame v (grown_unless why n v).1
grow_same (Some why) n v = same_itself v
grow_same None n v = record { files = refl; reached = refl; held = refl; unforced = omega arith }

pub does : (met : Met) (v : Volume) (command : Command) → Does met v command (answer met v command)
does met v (Word.Put name bytes given) = put_does met v name bytes given (size_fault (keep_given given) (length bytes))
does met v (Word.Load key keep bytes) = load_does met v key keep bytes (size_fault keep (length bytes))
does met v (Word.Delete key) =
    let at = forced_if met.forces v in
    does_from met v at (Word.Delete key) (answer met v (Word.Delete key)) (same_forced (met.forces && nat_le 2 v.unforced) v) (delete_does met at key (entry_of key at.entries))
does met v (Word.Keep name keep) = keep_tried met v (forced_if met.forces v) name keep (nat_lt max_keep keep) (same_forced (met.forces && nat_le 2 v.unforced) v)
does met v (Word.Move key name) =
    let at = forced_if met.forces v in
    does_from met v at (Word.Move key name) (answer met v (Word.Move key name)) (same_forced (met.forces && nat_le 2 v.unforced) v) (move_does met at key name (find key_cmp key at.files) (entry_of key at.entries))
does met v Word.Force = still met v Word.Force (answer met v Word.Force) refl (same_forced true v)
does met v Word.Tick = still met v Word.Tick (answer met v Word.Tick) refl (same_forced true v)
does met v Word.Scrub = still met v Word.Scrub (answer met v Word.Scrub) refl (same_forced true v)
does met v Word.Upgrade = still met v Word.Upgrade (answer met v Word.Upgrade) refl (upgrade_same v.layout.kind v)
does met v (Word.Grow n) = still met v (Word.Grow n) (answer met v (Word.Grow n)) (by (grow_fault v.layout n)) (grow_same (grow_fault v.layout n) n v)
  where
    by : (why : Option Refusal) → changes_of (Word.Grow n) (grown_unless why n v).0 ≡ []
    by (Some why) = refl
    by None = refl
does met v command = still met v command (answer met v command) refl (same_itself v)

-- a command that is answered by this is a force
pub forces_all : (met : Met) (v : Volume) (command : Command) → is_forced (answer met v command).0 ≡ true → (answer met v command).1.unforced ≡ 0
forces_all met v Word.Force e = refl
forces_all met v Word.Tick e = refl
forces_all met v Word.Upgrade e = absurd (by v.layout.kind e)
  where
    by : (kind : Kind) → is_forced (upgraded kind v).0 ≡ true → ⊥
    by Two e = cc
    by Three e = cc
forces_all met v (Word.Grow n) e = absurd (by (grow_fault v.layout n) e)
  where
    by : (why : Option Refusal) → is_forced (grown_unless why n v).0 ≡ true → ⊥
    by (Some why) e = cc
    by None e = cc
forces_all met v (Word.Get key) e = absurd (by (find key_cmp key v.files) met.damaged e)
  where
    by : (o : Option File) (damaged : Option ℕ) → is_forced (got key damaged o) ≡ true → ⊥
    by None damaged e = cc
    by (Some file) None e = cc
    by (Some file) (Some s) e = cc
forces_all met v (Word.Delete key) e = absurd (by (forced_if met.forces v) (entry_of key (forced_if met.forces v).entries) e)
  where
    by : (w : Volume) (o : Option Entry) → is_forced (deleted w key met.reached o).0 ≡ true → ⊥
    by w None e = cc
    by w (Some x) e = cc
forces_all met v (Word.Keep name keep) e = absurd (by (nat_lt max_keep keep) (forced_if met.forces v) (highest_entry name (forced_if met.forces v).entries) e)
  where
    by : (b : Bool) (w : Volume) (o : Option Entry) → is_forced (cond b (refused v (KeepTooLarge keep)) (keep_set w name keep met.reached o)).0 ≡ true → ⊥
    by true w o e = cc
    by false w None e = cc
    by false w (Some x) e = cc
forces_all met v (Word.Move key name) e = absurd (by (forced_if met.forces v) (find key_cmp key (forced_if met.forces v).files) (entry_of key (forced_if met.forces v).entries) e)
  where
    tried : (w : Volume) (x : File) (z : Entry) (o : Option Refusal) → is_forced (moved_unless o w key name x z met.reached).0 ≡ true → ⊥
    tried w x z None e = cc
    tried w x z (Some why) e = cc

    by : (w : Volume) (x : Option File) (z : Option Entry) → is_forced (moved w key name met.reached x z).0 ≡ true → ⊥
    by w None None e = cc
    by w None (Some z) e = cc
    by w (Some x) None e = cc
    by w (Some x) (Some z) e = tried w x z (enter_fault w name) e
forces_all met v (Word.Put name bytes given) e = absurd (by (size_fault (keep_given given) (length bytes)) e)
  where
    at_end : (w : Volume) (runs : List Run) (serial : Serial) (o : Option Refusal) → is_forced (entered_unless o w name bytes given runs serial met.reached).0 ≡ true → ⊥
    at_end w runs serial None e = cc
    at_end w runs serial (Some why) e = cc

    at_place : (w : Volume) (need : ℕ) (o : Option (List Run)) → is_forced (put_at met w name bytes given need o).0 ≡ true → ⊥
    at_place w need None e = cc
    at_place w need (Some runs) e = at_end (forced_if met.forces (drawn w)) runs w.serial (enter_fault (forced_if met.forces (drawn w)) name) e

    by : (o : Option Refusal) → is_forced (put_unless o met v name bytes given).0 ≡ true → ⊥
    by (Some why) e = cc
    by None e = at_place (forced_for_place (sectors_for (length bytes)) v) (sectors_for (length bytes)) (place_for (forced_for_place (sectors_for (length bytes)) v) (sectors_for (length bytes))) e
forces_all met v (Word.Load key keep bytes) e = absurd (by (size_fault keep (length bytes)) e)
  where
    at_end : (w : Volume) (runs : List Run) (serial : Serial) (o : Option Refusal) → is_forced (loaded_unless o w key keep bytes runs serial met.reached).0 ≡ true → ⊥
    at_end w runs serial None e = cc
    at_end w runs serial (Some why) e = cc

    at_place : (w : Volume) (need : ℕ) (o : Option (List Run)) → is_forced (load_at met w key keep bytes need o).0 ≡ true → ⊥
    at_place w need None e = cc
    at_place w need (Some runs) e = at_end (forced_if met.forces (drawn w)) runs w.serial (load_fault (forced_if met.forces (drawn w)) key) e

    by : (o : Option Refusal) → is_forced (load_unless o met v key keep bytes).0 ≡ true → ⊥
    by (Some why) e = cc
    by None e = at_place (forced_for_place (sectors_for (length bytes)) v) (sectors_for (length bytes)) (place_for (forced_for_place (sectors_for (length bytes)) v) (sectors_for (length bytes))) e
forces_all met v command e = absurd cc

-- ---- each command meets something

pub finds : (i : Image) (sectors : List ℕ) → (damaged : Option ℕ) × FindsDamage i i sectors damaged
finds i [] = (None, tt)
finds i (s ∷ sectors) = by (sector_at i s) refl (finds i sectors)
  where
    by : (x : Sector) → sector_at i s ≡ x → (damaged : Option ℕ) × FindsDamage i i sectors damaged → (damaged : Option ℕ) × FindsDamage i i (s ∷ sectors) damaged
    by Damaged is rest = (Some s, inl (refl, is))
    by (Whole bytes) is (None, rest) = (None, ((bytes, is), rest))
    by (Whole bytes) is (Some t, rest) = (Some t, inr ((bytes, is), rest))

finds_in : (i : Image) (v : Volume) (key : Key) → (damaged : Option ℕ) × FindsDamageIn i i v key damaged
finds_in i v key = by (entry_of key v.entries)
  where
    by : (o : Option Entry) → (damaged : Option ℕ) × IfSome o (λ e. FindsDamage i i (range_sectors e.runs 0 e.length) damaged)
    by None = (None, tt)
    by (Some e) = finds i (range_sectors e.runs 0 e.length)

picks : (i : Image) (all : List (Key × ℕ)) → (found : List (Key × ℕ)) × Picks i i all found
picks i [] = ([], refl)
picks i (x ∷ all) = by (sector_at i x.1) refl (picks i all)
  where
    by : (s : Sector) → sector_at i x.1 ≡ s → (found : List (Key × ℕ)) × Picks i i all found → (found : List (Key × ℕ)) × Picks i i (x ∷ all) found
    by Damaged is (found, rest) = (x ∷ found, inr (found, refl, is, rest))
    by (Whole bytes) is (found, rest) = (found, inl ((bytes, is), rest))

-- what it meets where no force comes by itself and the table has one page then
abbrev pub met_with : Option ℕ → List (Key × ℕ) → Met
met_with damaged found = record { forces = false; reached = 1; damaged = damaged; found = found; healed = 0 }

pub may_find : (i : Image) (v : Volume) (command : Command) → (damaged : Option ℕ) × (found : List (Key × ℕ)) × MayFind i i v command (met_with damaged found)
may_find i v (Word.Get key) = let at = finds_in i v key in (at.0, [], at.1)
may_find i v Word.Scrub = let at = picks i (all_data v.entries) in (None, at.0, at.1)
may_find i v command = (None, [], tt)
