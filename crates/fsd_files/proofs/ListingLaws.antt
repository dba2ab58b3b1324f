-- The entries stay those of the files, in order, whatever is answered.
use Rattle.std.proofs.Common.{◌≡◌, ℕ, suc, Bool, true, false, cond, List, [], ◌∷◌, length, filter, Option, Some, None, refl, sym, ap, subst, ◌∙◌}
use Rattle.std.specs.Prelude.{not, nat_lt, nat_le, is_none, ◌&&◌, ◌==◌}
use Rattle.std.specs.Cmp.{Equal-is}
use Rattle.std.specs.List.{list_any, last_or}
use Rattle.std.specs.Ordering.{eq_by_cmp, is_eq, nat_cmp, ordering_reverse, ordering_then}
use Rattle.std.specs.declared.cmp.Ordering.{Ordering}
use Rattle.std.specs.declared.cmp.Ordering.TheVariants.{Less, Equal, Greater}
use Rattle.std.specs.Cmp.Lexicographic.{slice_cmp}
use Rattle.std.specs.FinMap.{find, put, slice_cmp-IsAntisymmetric, nat_cmp-IsAntisymmetric}
use Rattle.std.specs.FinMap.Entries.{by_order}
use Rattle.fsd_bytes.specs.Bytes.{same_bytes}
use Rattle.fsd_bytes.specs.declared.key.Key.{Key}
use Rattle.fsd_bytes.specs.declared.key.Serial.{Serial}
use Rattle.fsd_bytes.specs.declared.refusal.Refusal.{Refusal}
use Rattle.fsd_bytes.specs.declared.refusal.Refusal.TheVariants.{KeepTooLarge}
use Rattle.fsd_bytes.specs.Keys.{key_cmp, same_key}
use Rattle.run_table.specs.declared.run.Run.{Run}
use Rattle.fsd_formats.specs.declared.entry.Entry.{Entry}
use Rattle.fsd_formats.specs.NamePage.{sectors_for, max_keep}
use Rattle.fsd_files.specs.Files.{File, Files, highest, without_keys, new_key, new_keep, with_new, with_moved, gone_keys, gone_by_move, kept_at, file_kept, moved_keep, moved_to, with_keep}
use Rattle.fsd_files.specs.Kept.{IsEntryOf, Lists}
use Rattle.fsd_files.specs.Volume.{Volume, forced, forced_for_place, forced_if, drawn, place_for, entries_at, entries_without}
use Rattle.fsd_files.specs.Answers.{Met, refused, entry_put, entry_of, entry_kept, entries_with_keep, highest_entry, with_version, enter_fault, entered_unless, put_at, put_unless, keep_given, size_fault, deleted, keep_set, moved, moved_entry, moved_unless, with_version_moved, put_outcome, delete_outcome, keep_outcome, move_outcome, load_at, load_fault, load_outcome, load_unless, loaded_entry, loaded_unless}
use Rattle.fsd_files.proofs.HistoryLaws.{keys_total}

-- ---- keys that compare alike are one

key_is : (a b : Key) → a.name ≡ b.name → a.version ≡ b.version → a ≡ b
key_is a b n v = λ i. record { name = n i; version = v i }

same_place : (o : Ordering) (a b : Key) → slice_cmp nat_cmp a.name b.name ≡ o → ordering_then o (nat_cmp a.version b.version) ≡ Equal → a ≡ b
same_place Less a b e f = absurd cc
same_place Equal a b e f = key_is a b (slice_cmp-IsAntisymmetric nat_cmp-IsAntisymmetric a.name b.name e) (nat_cmp-IsAntisymmetric a.version b.version f)
same_place Greater a b e f = absurd cc

pub alike_is : (a b : Key) → key_cmp a b ≡ Equal → a ≡ b
alike_is a b e = same_place (slice_cmp nat_cmp a.name b.name) a b refl e

pub same_key_is : (a b : Key) → same_key a b ≡ true → a ≡ b
same_key_is a b same = alike_is a b ((Equal-is (key_cmp a b)).0 same)

turned_eq : (o : Ordering) → is_eq (ordering_reverse o) ≡ is_eq o
turned_eq Less = refl
turned_eq Equal = refl
turned_eq Greater = refl

pub same_key_turned : (a b : Key) → is_eq (key_cmp a b) ≡ same_key b a
same_key_turned a b = ap is_eq (keys_total.antisymm a b) ∙ turned_eq (key_cmp b a)

-- ---- putting one in and taking some out

lists_by_order : (o : Ordering) (k : Key) (x : File) (e : Entry) (y : Key × File) (z : Entry) (s : Files) (entries : List Entry) (rest : Files) (more : List Entry)
    → key_cmp k y.0 ≡ o → IsEntryOf (k, x) e → IsEntryOf y z → Lists s entries → Lists rest more
    → Lists (by_order o ((k, x) ∷ y ∷ s) ((y.0, x) ∷ s) (y ∷ rest)) (by_order o (e ∷ z ∷ entries) (e ∷ entries) (z ∷ more))
lists_by_order Less k x e y z s entries rest more o new old lists deeper = (new, (old, lists))
lists_by_order Equal k x e y z s entries rest more o new old lists deeper = (record { key = new.key ∙ alike_is k y.0 o; keep = new.keep; length = new.length }, lists)
lists_by_order Greater k x e y z s entries rest more o new old lists deeper = (old, deeper)

pub lists_put : (k : Key) (x : File) (e : Entry) (s : Files) (entries : List Entry) → IsEntryOf (k, x) e → Lists s entries → Lists (put key_cmp k x s) (entry_put e entries)
lists_put k x e [] [] new lists = (new, tt)
lists_put k x e [] (z ∷ entries) new lists = absurd lists
lists_put k x e (y ∷ s) [] new lists = absurd lists
lists_put k x e (y ∷ s) (z ∷ entries) new lists =
    let same : key_cmp k y.0 ≡ key_cmp e.key z.key = ap (λ (a : Key). key_cmp a y.0) (sym new.key) ∙ ap (key_cmp e.key) (sym lists.0.key) in
    subst (λ (o : Ordering). Lists (put key_cmp k x (y ∷ s)) (by_order o (e ∷ z ∷ entries) (e ∷ entries) (z ∷ entry_put e entries))) same
    (lists_by_order (key_cmp k y.0) k x e y z s entries (put key_cmp k x s) (entry_put e entries) refl new lists.0 lists.1 (lists_put k x e s entries new lists.1))

pub entries_without_none : (entries : List Entry) → entries_without [] entries ≡ entries
entries_without_none [] = refl
entries_without_none (e ∷ entries) = ap (λ (xs : List Entry). e ∷ xs) (entries_without_none entries)

pub entries_at_none : (entries : List Entry) → entries_at [] entries ≡ []
entries_at_none [] = refl
entries_at_none (e ∷ entries) = entries_at_none entries

-- the same test of the keys
pub lists_kept : (p : Key → Bool) (s : Files) (entries : List Entry) → Lists s entries → Lists (filter (λ e. p e.0) s) (filter (λ e. p e.key) entries)
lists_kept p [] [] lists = tt
lists_kept p [] (z ∷ entries) lists = absurd lists
lists_kept p (y ∷ s) [] lists = absurd lists
lists_kept p (y ∷ s) (z ∷ entries) lists =
    subst (λ (b : Bool). Lists (filter (λ e. p e.0) (y ∷ s)) (cond b (z ∷ filter (λ e. p e.key) entries) (filter (λ e. p e.key) entries))) (ap p (sym lists.0.key))
    (by (p y.0) (lists_kept p s entries lists.1))
  where
    by : (b : Bool) → Lists (filter (λ e. p e.0) s) (filter (λ e. p e.key) entries)
        → Lists (cond b (y ∷ filter (λ e. p e.0) s) (filter (λ e. p e.0) s)) (cond b (z ∷ filter (λ e. p e.key) entries) (filter (λ e. p e.key) entries))
    by true rest = (lists.0, rest)
    by false rest = rest

pub lists_length : (s : Files) (entries : List Entry) → Lists s entries → length s ≡ length entries
lists_length [] [] lists = refl
lists_length [] (z ∷ entries) lists = absurd lists
lists_length (y ∷ s) [] lists = absurd lists
lists_length (y ∷ s) (z ∷ entries) lists = ap (λ (n : ℕ). suc n) (lists_length s entries lists.1)

lists_without : (keys : List Key) (s : Files) (entries : List Entry) → Lists s entries → Lists (without_keys keys s) (entries_without keys entries)
lists_without keys s entries lists = lists_kept (λ k. not (list_any (same_key k) keys)) s entries lists

-- ---- the highest of a name

-- both are there, and one is the other's entry, or neither is
abbrev pub BothOrNone : Option (Key × File) → Option Entry → Type 0
BothOrNone None None = Unit {0}
BothOrNone (Some y) (Some z) = IsEntryOf y z
BothOrNone y z = ⊥

lists_last : (o : Option (Key × File)) (p : Option Entry) (s : Files) (entries : List Entry) → BothOrNone o p → Lists s entries → BothOrNone (last_or o s) (last_or p entries)
lists_last o p [] [] both lists = both
lists_last o p [] (z ∷ entries) both lists = absurd lists
lists_last o p (y ∷ s) [] both lists = absurd lists
lists_last o p (y ∷ s) (z ∷ entries) both lists = lists_last (Some y) (Some z) s entries lists.0 lists.1

pub highest_both : (name : List ℕ) (s : Files) (entries : List Entry) → Lists s entries → BothOrNone (highest name s) (highest_entry name entries)
highest_both name s entries lists = lists_last None None _ _ tt (lists_kept (λ k. same_bytes name k.name) s entries lists)

-- ---- the version with a key

-- both are there, and one is the other's entry, or neither is
abbrev pub AreFound : Key → Option File → Option Entry → Type 0
AreFound key None None = Unit {0}
AreFound key (Some x) (Some e) = IsEntryOf (key, x) e
AreFound key x e = ⊥

pub found_both : (key : Key) (s : Files) (entries : List Entry) → Lists s entries → AreFound key (find key_cmp key s) (entry_of key entries)
found_both key [] [] lists = tt
found_both key [] (z ∷ entries) lists = absurd lists
found_both key (y ∷ s) [] lists = absurd lists
found_both key (y ∷ s) (z ∷ entries) lists =
    let same : eq_by_cmp key_cmp key y.0 ≡ same_key z.key key = same_key_turned key y.0 ∙ ap (λ (k : Key). same_key k key) (sym lists.0.key) in
    subst (λ (b : Bool). AreFound key (cond b (Some y.1) (find key_cmp key s)) (cond (same_key z.key key) (Some z) (entry_of key entries))) (sym same)
    (by (same_key z.key key) refl (found_both key s entries lists.1))
  where
    by : (b : Bool) → same_key z.key key ≡ b → AreFound key (find key_cmp key s) (entry_of key entries) → AreFound key (cond b (Some y.1) (find key_cmp key s)) (cond b (Some z) (entry_of key entries))
    by true is rest = record { key = same_key_is z.key key is; keep = lists.0.keep; length = lists.0.length }
    by false is rest = rest

-- ---- the steps

abbrev pub IsListed : Volume → Type 0
IsListed v = Lists v.files v.entries

version_listed : (v : Volume) (name bytes : List ℕ) (given : Option ℕ) (runs : List Run) (serial : Serial) (r : ℕ) → IsListed v → IsListed (with_version v name bytes given runs serial r)
version_listed v name bytes given runs serial r lists =
    lists_without (gone_keys name given bytes v.files) (with_new name given bytes v.files) _
    (lists_put (new_key name v.files) (record { bytes = bytes; keep = new_keep name given v.files }) _ v.files v.entries (record { key = refl; keep = refl; length = refl }) lists)

forced_listed : (b : Bool) (v : Volume) → IsListed v → IsListed (cond b (forced v) v)
forced_listed true v lists = lists
forced_listed false v lists = lists

entered_listed : (v : Volume) (name bytes : List ℕ) (given : Option ℕ) (runs : List Run) (serial : Serial) (r : ℕ) (o : Option Refusal) → IsListed v → IsListed (entered_unless o v name bytes given runs serial r).1
entered_listed v name bytes given runs serial r (Some why) lists = lists
entered_listed v name bytes given runs serial r None lists = version_listed v name bytes given runs serial r lists

placed_listed : (met : Met) (v : Volume) (name bytes : List ℕ) (given : Option ℕ) (need : ℕ) (o : Option (List Run)) → IsListed v → IsListed (put_at met v name bytes given need o).1
placed_listed met v name bytes given need None lists = lists
placed_listed met v name bytes given need (Some runs) lists =
    let at = forced_if met.forces (drawn v) in
    entered_listed at name bytes given runs v.serial met.reached (enter_fault at name) (forced_listed (met.forces && nat_le 2 v.unforced) (drawn v) lists)

put_listed : (o : Option Refusal) (met : Met) (v : Volume) (name bytes : List ℕ) (given : Option ℕ) → IsListed v → IsListed (put_unless o met v name bytes given).1
put_listed (Some why) met v name bytes given lists = lists
put_listed None met v name bytes given lists =
    let need = sectors_for (length bytes) in
    let at = forced_for_place need v in
    placed_listed met at name bytes given need (place_for at need) (forced_listed (is_none (place_for v need) && not (length v.removed == 0)) v lists)

pub puts_listed : (met : Met) (v : Volume) (name bytes : List ℕ) (given : Option ℕ) → IsListed v → IsListed (put_outcome met v name bytes given).1
puts_listed met v name bytes given lists = put_listed (size_fault (keep_given given) (length bytes)) met v name bytes given lists

loaded_listed : (v : Volume) (key : Key) (keep : ℕ) (bytes : List ℕ) (runs : List Run) (serial : Serial) (r : ℕ) (o : Option Refusal) → IsListed v → IsListed (loaded_unless o v key keep bytes runs serial r).1
loaded_listed v key keep bytes runs serial r (Some why) lists = lists
loaded_listed v key keep bytes runs serial r None lists =
    lists_put key (record { bytes = bytes; keep = keep }) (loaded_entry key keep bytes runs serial) v.files v.entries (record { key = refl; keep = refl; length = refl }) lists

load_placed : (met : Met) (v : Volume) (key : Key) (keep : ℕ) (bytes : List ℕ) (need : ℕ) (o : Option (List Run)) → IsListed v → IsListed (load_at met v key keep bytes need o).1
load_placed met v key keep bytes need None lists = lists
load_placed met v key keep bytes need (Some runs) lists =
    let at = forced_if met.forces (drawn v) in
    loaded_listed at key keep bytes runs v.serial met.reached (load_fault at key) (forced_listed (met.forces && nat_le 2 v.unforced) (drawn v) lists)

load_listed : (o : Option Refusal) (met : Met) (v : Volume) (key : Key) (keep : ℕ) (bytes : List ℕ) → IsListed v → IsListed (load_unless o met v key keep bytes).1
load_listed (Some why) met v key keep bytes lists = lists
load_listed None met v key keep bytes lists =
    let need = sectors_for (length bytes) in
    let at = forced_for_place need v in
    load_placed met at key keep bytes need (place_for at need) (forced_listed (is_none (place_for v need) && not (length v.removed == 0)) v lists)

pub loads_listed : (met : Met) (v : Volume) (key : Key) (keep : ℕ) (bytes : List ℕ) → IsListed v → IsListed (load_outcome met v key keep bytes).1
loads_listed met v key keep bytes lists = load_listed (size_fault keep (length bytes)) met v key keep bytes lists

deleted_listed : (v : Volume) (key : Key) (r : ℕ) (o : Option Entry) → IsListed v → IsListed (deleted v key r o).1
deleted_listed v key r None lists = lists
deleted_listed v key r (Some e) lists = lists_without (key ∷ []) v.files v.entries lists

pub deletes_listed : (met : Met) (v : Volume) (key : Key) → IsListed v → IsListed (delete_outcome met v key).1
deletes_listed met v key lists =
    let at = forced_if met.forces v in
    deleted_listed at key met.reached (entry_of key at.entries) (forced_listed (met.forces && nat_le 2 v.unforced) v lists)

kept_entry : (b : Bool) (keep : ℕ) (y : Key × File) (z : Entry) → IsEntryOf y z → IsEntryOf (y.0, file_kept b keep y.1) (entry_kept b keep z)
kept_entry true keep y z e = record { key = e.key; keep = refl; length = e.length }
kept_entry false keep y z e = record { key = e.key; keep = e.keep; length = e.length }

lists_with_keep : (key : Key) (keep : ℕ) (s : Files) (entries : List Entry) → Lists s entries → Lists (with_keep key keep s) (entries_with_keep key keep entries)
lists_with_keep key keep [] [] lists = tt
lists_with_keep key keep [] (z ∷ entries) lists = absurd lists
lists_with_keep key keep (y ∷ s) [] lists = absurd lists
lists_with_keep key keep (y ∷ s) (z ∷ entries) lists = (
  subst (λ (k : Key). IsEntryOf (y.0, file_kept (same_key y.0 key) keep y.1) (entry_kept (same_key k key) keep z)) (sym lists.0.key) (kept_entry (same_key y.0 key) keep y z lists.0),
  lists_with_keep key keep s entries lists.1,
)

keep_set_listed : (v : Volume) (name : List ℕ) (keep r : ℕ) (y : Option (Key × File)) (z : Option Entry) → highest name v.files ≡ y → BothOrNone y z → IsListed v → IsListed (keep_set v name keep r z).1
keep_set_listed v name keep r y None same both lists = lists
keep_set_listed v name keep r None (Some e) same both lists = absurd both
keep_set_listed v name keep r (Some y) (Some e) same both lists =
    subst (λ (o : Option (Key × File)). Lists (kept_at o keep v.files) (entries_with_keep e.key keep v.entries)) (sym same)
    (subst (λ (k : Key). Lists (with_keep y.0 keep v.files) (entries_with_keep k keep v.entries)) (sym both.key) (lists_with_keep y.0 keep v.files v.entries lists))

keep_tried : (met : Met) (v at : Volume) (name : List ℕ) (keep : ℕ) (b : Bool) → IsListed v → IsListed at → IsListed (cond b (refused v (KeepTooLarge keep)) (keep_set at name keep met.reached (highest_entry name at.entries))).1
keep_tried met v at name keep true lists other = lists
keep_tried met v at name keep false lists other = keep_set_listed at name keep met.reached (highest name at.files) (highest_entry name at.entries) refl (highest_both name at.files at.entries other) other

pub keeps_listed : (met : Met) (v : Volume) (name : List ℕ) (keep : ℕ) → IsListed v → IsListed (keep_outcome met v name keep).1
keeps_listed met v name keep lists = keep_tried met v (forced_if met.forces v) name keep (nat_lt max_keep keep) lists (forced_listed (met.forces && nat_le 2 v.unforced) v lists)

-- the entry of a version that has moved is that of its file
pub moved_is_entry : (v : Volume) (key : Key) (name : List ℕ) (x : File) (e : Entry) → IsEntryOf (key, x) e
    → IsEntryOf (new_key name v.files, record { bytes = x.bytes; keep = moved_keep name x.keep v.files }) (moved_entry v name e)
moved_is_entry v key name x e of = record { key = refl; keep = ap (λ (own : ℕ). moved_keep name own v.files) of.keep; length = of.length }

pub version_moved_listed : (v : Volume) (key : Key) (name : List ℕ) (x : File) (e : Entry) (r : ℕ) → find key_cmp key v.files ≡ Some x → IsEntryOf (key, x) e → IsListed v → IsListed (with_version_moved v key name x e r)
version_moved_listed v key name x e r there of lists =
    subst (λ (o : Option File). Lists (moved_to key name o v.files) (with_version_moved v key name x e r).entries) (sym there)
    (lists_without (key ∷ gone_by_move key name x v.files) (with_moved name x v.files) _
    (lists_put (new_key name v.files) (record { bytes = x.bytes; keep = moved_keep name x.keep v.files }) (moved_entry v name e) v.files v.entries (moved_is_entry v key name x e of) lists))

moved_listed : (v : Volume) (key : Key) (name : List ℕ) (r : ℕ) (x : Option File) (e : Option Entry) → find key_cmp key v.files ≡ x → AreFound key x e → IsListed v → IsListed (moved v key name r x e).1
moved_listed v key name r None None there both lists = lists
moved_listed v key name r None (Some e) there both lists = lists
moved_listed v key name r (Some x) None there both lists = lists
moved_listed v key name r (Some x) (Some e) there both lists = by (enter_fault v name)
  where
    by : (o : Option Refusal) → IsListed (moved_unless o v key name x e r).1
    by (Some why) = lists
    by None = version_moved_listed v key name x e r there both lists

pub moves_listed : (met : Met) (v : Volume) (key : Key) (name : List ℕ) → IsListed v → IsListed (move_outcome met v key name).1
moves_listed met v key name lists =
    let at = forced_if met.forces v in
    let listed = forced_listed (met.forces && nat_le 2 v.unforced) v lists in
    moved_listed at key name met.reached (find key_cmp key at.files) (entry_of key at.entries) refl (found_both key at.files at.entries listed) listed
