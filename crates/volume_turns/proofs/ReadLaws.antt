-- What a whole version's reading says.
use Rattle.std.proofs.Common.{◌≡◌, ◌≤◌, inl, inr, ◌-◌, ℕ, Bool, false, List, [], ◌∷◌, ◌++◌, length, take, drop, Option, Some, None, refl, sym, ◌∙◌, ap, subst, arith}
use Rattle.fsd_log.specs.Scan.{Placed}
use Rattle.std.specs.Prelude.{IfSome, Result, Ok, Err, min}
use Rattle.std.specs.List.{AllByRecursion}
use Rattle.std.specs.FinMap.{find}
use Rattle.std.proofs.lemmas.List.{append-nil, take-append-le, take_all}
use Rattle.fsd_bytes.specs.declared.key.Key.{Key}
use Rattle.fsd_bytes.specs.declared.refusal.Refusal.{Refusal}
use Rattle.fsd_bytes.specs.declared.refusal.Refusal.TheVariants as Why
use Rattle.fsd_bytes.specs.Keys.{key_cmp}
use Rattle.fsd_formats.specs.declared.entry.Entry.{Entry}
use Rattle.fsd_files.specs.Answers.{got, FindsDamage, entry_of, entry_reply, found_or}
use Rattle.fsd_files.specs.Disk.{Image}
use Rattle.fsd_files.specs.Files.{File}
use Rattle.fsd_files.specs.Kept.{FirstDamaged, IsWhole, range_sectors}
use Rattle.fsd_files.specs.declared.reply.Reply.{Reply}
use Rattle.fsd_files.specs.declared.reply.Reply.TheVariants as Said
use Rattle.fsd_texts.specs.declared.command.Command.TheVariants as Word
use Rattle.fsd_texts.specs.declared.fault.Fault.{Fault}
use Rattle.fsd_texts.specs.declared.fault.Fault.TheVariants as Ends
use Rattle.sector_disk.specs.Image.{IsWorn}
use Rattle.sector_disk.specs.Machine.{Moment}
use Rattle.sector_disk.proofs.Wear.{worn_whole}
use Rattle.fsd_sound.specs.Mounted.{Mounted}
use Rattle.volume_contract.specs.Ends.{ReadsRange, LooksUp, found_one}
use Rattle.volume_contract.specs.State.{State, Known, volume_of, Stands}
use Rattle.fsd_files.proofs.FoundLaws.{no_file}
use Rattle.volume_turns.specs.Steps.{Does, IsAnswered, ended_by, read_ended_by}

-- ---- what is found, said of an earlier image

module _ (may : ℕ → Bool) (i j : Image) (worn : IsWorn may i j) where
  whole_earlier : (s : ℕ) → IsWhole j s → IsWhole i s
  whole_earlier s whole = (whole.0, worn_whole may i j s whole.0 worn whole.1)

  all_earlier : (sectors : List ℕ) → AllByRecursion (IsWhole j) sectors → AllByRecursion (IsWhole i) sectors
  all_earlier [] all = tt
  all_earlier (s ∷ sectors) all = (whole_earlier s all.0, all_earlier sectors all.1)

  first_earlier : (k : Image) (sectors : List ℕ) (s : ℕ) → FirstDamaged j k sectors s → FirstDamaged i k sectors s
  first_earlier k [] s first = first
  first_earlier k (t ∷ sectors) s (inl here) = inl here
  first_earlier k (t ∷ sectors) s (inr later) = inr (whole_earlier t later.0, first_earlier k sectors s later.1)

  pub finds_earlier : (k : Image) (sectors : List ℕ) (damaged : Option ℕ) → FindsDamage j k sectors damaged → FindsDamage i k sectors damaged
  finds_earlier k sectors None finds = all_earlier sectors finds
  finds_earlier k sectors (Some s) finds = first_earlier k sectors s finds

  pub some_earlier : (k : Image) (e : Option Entry) (damaged : Option ℕ) → IfSome e (λ x. FindsDamage j k (range_sectors x.runs 0 x.length) damaged) → IfSome e (λ x. FindsDamage i k (range_sectors x.runs 0 x.length) damaged)
  some_earlier k None damaged finds = finds
  some_earlier k (Some e) damaged finds = finds_earlier k (range_sectors e.runs 0 e.length) damaged finds

-- ---- a whole version

-- The reply of a get, by what was found.
record IsGot (key : Key) (file : Option File) (e : Option Entry) (i j : Image) (reply : Reply) : Type 0 where
  damaged : Option ℕ
  is : got key damaged file ≡ reply
  finds : IfSome e (λ x. FindsDamage i j (range_sectors x.runs 0 x.length) damaged)

read_got : (key : Key) (file : Option File) (e : Option Entry) (i j : Image) (old new : List ℕ) (n : ℕ) → IfSome e (λ x. x.length ≤ length old) → ReadsRange i j file e 0 old new (Ok n) → IsGot key file e i j (Said.Bytes key (take n new))
read_got key None None i j old new n len reads = absurd reads
read_got key None (Some e) i j old new n len reads = absurd reads
read_got key (Some file) None i j old new n len reads = absurd reads
read_got key (Some file) (Some e) i j old new n len reads =
    let all : n ≡ e.length = omega (arith, reads.count, len) in
    record {
      damaged = None;
      is = ap (λ (b : List ℕ). Said.Bytes key b) (sym (whole (all ∙ reads.len)));
      finds = subst (λ (x : ℕ). AllByRecursion (IsWhole i) (range_sectors e.runs 0 x)) all reads.whole;
    }
  where
    whole : n ≡ length file.bytes → take n new ≡ file.bytes
    whole at_file =
        let front : take n (drop 0 file.bytes) ≡ file.bytes = take_all n file.bytes (omega (arith, at_file)) in
        let is : new ≡ file.bytes ++ drop n old = reads.bytes ∙ ap (λ (x : List ℕ). x ++ drop n old) front in
        ap (take n) is ∙ take-append-le n file.bytes (drop n old) (omega (arith, at_file)) ∙ front

-- by the answer that is made of the refusal
GotBy : (key : Key) (file : Option File) (e : Option Entry) (i j : Image) → Result Reply Fault → Type 0
GotBy key file e i j (Ok a) = IsGot key file e i j a
GotBy key file e i j (Err (Ends.Device s)) = Unit {0}
GotBy key file e i j (Err Ends.Memory) = Unit {0}
GotBy key file e i j (Err fault) = ⊥

got_by : (key : Key) (file : Option File) (e : Option Entry) (i j : Image) (old new : List ℕ) (why : Refusal) → IfSome e (λ x. x.length ≤ length old) → ReadsRange i j file e 0 old new (Err why) → GotBy key file e i j (read_ended_by key why)
unfolding GotBy
got_by key (Some file) (Some e) i j old new (Why.Damaged s) len reads =
    let all : min (e.length - 0) (length old) ≡ e.length = omega (arith, len) in
    record { damaged = Some s; is = refl; finds = subst (λ (x : ℕ). FirstDamaged i j (range_sectors e.runs 0 x) s) all reads }
got_by key None None i j old new Why.NoSuch len reads = record { damaged = None; is = refl; finds = tt }
got_by key file e i j old new (Why.Device s) len reads = tt
got_by key file e i j old new Why.Memory len reads = tt
got_by key file e i j old new why len reads = absurd reads

module _ {S : Type 0} (state : S → State) (has : S → Mounted → List Placed → Type 0) (key : Key) (old new : S) (k : Known) (before now : Moment) where
  abbrev file_at : Option File
  file_at = find key_cmp key (volume_of k).files

  abbrev entry_at : Option Entry
  entry_at = entry_of key (volume_of k).entries

  got_answered : (reply : Reply) → IsGot key file_at entry_at before.image now.image reply → IsAnswered (Word.Get key) (state old) k k before.image now.image reply
  got_answered reply is = record {
    met = record { forces = false; reached = 0; damaged = is.damaged; found = []; healed = 0 };
    is = ap (λ (r : Reply). (r, volume_of k)) is.is;
    opened = refl;
    windows = refl;
    changes = sym (append-nil k.changes);
    find = is.finds;
    unworn = λ may. cc may;
  }

  pub read_does : (before_buf buf : List ℕ) (n : ℕ) → IfSome entry_at (λ x. x.length ≤ length before_buf) → ReadsRange before.image now.image file_at entry_at 0 before_buf buf (Ok n) → IsAnswered (Word.Get key) (state old) k k before.image now.image (Said.Bytes key (take n buf))
  read_does before_buf buf n len reads = got_answered (Said.Bytes key (take n buf)) (read_got key file_at entry_at before.image now.image before_buf buf n len reads)

  -- a result of a read
  does_by : (r : Result Reply Fault) → Stands state has new k now → GotBy key file_at entry_at before.image now.image r → Does state has (Word.Get key) old new k before now r
  unfolding GotBy
  does_by (Ok a) stands is = (k, got_answered a is, stands, tt)
  does_by (Err (Ends.Device s)) stands is = tt
  does_by (Err Ends.Memory) stands is = tt
  does_by (Err fault) stands is = absurd is

  pub unread_does : (before_buf buf : List ℕ) (why : Refusal) → IfSome entry_at (λ x. x.length ≤ length before_buf) → Stands state has new k now → ReadsRange before.image now.image file_at entry_at 0 before_buf buf (Err why)
      → Does state has (Word.Get key) old new k before now (read_ended_by key why)
  unread_does before_buf buf why len stands reads = does_by (read_ended_by key why) stands (got_by key file_at entry_at before.image now.image before_buf buf why len reads)

-- ---- the look-up before it

module _ {S : Type 0} (state : S → State) (has : S → Mounted → List Placed → Type 0) (key : Key) (old mid new : S) (k : Known) (before at now : Moment) (may : ℕ → Bool) (worn : IsWorn may before.image at.image) where
  answered_earlier : (after : Known) (reply : Reply) → IsAnswered (Word.Get key) (state mid) k after at.image now.image reply → IsAnswered (Word.Get key) (state old) k after before.image now.image reply
  answered_earlier after reply is = record {
    met = is.met;
    is = is.is;
    opened = is.opened;
    windows = is.windows;
    changes = is.changes;
    find = some_earlier may before.image at.image worn now.image (entry_of key (volume_of k).entries) is.met.damaged is.find;
    unworn = λ may_it. cc may_it;
  }

  pub does_earlier : (r : Result Reply Fault) → Does state has (Word.Get key) mid new k at now r → Does state has (Word.Get key) old new k before now r
  does_earlier (Ok a) does = (does.0, answered_earlier does.0 a does.1, does.2, tt)
  does_earlier (Err (Ends.Device s)) does = tt
  does_earlier (Err Ends.Memory) does = tt
  does_earlier (Err Ends.WornOut) does = absurd (cc does.0.may)
  does_earlier (Err fault) does = absurd does

-- ---- what the look-up says

pub found_length : (o : Option Entry) (e : Entry) → LooksUp (found_or o) (found_one (Ok e)) → IfSome o (λ x. x.length ≤ e.length)
found_length None e looks = tt
found_length (Some x) e looks = let same : x ≡ e = cc looks in let len = ap (λ (y : Entry). y.length) same in omega (arith, len)

pub some_longer : (o : Option Entry) (n m : ℕ) → n ≤ m → IfSome o (λ x. x.length ≤ n) → IfSome o (λ x. x.length ≤ m)
some_longer None n m most len = tt
some_longer (Some e) n m most len = omega (arith, most, len)

none_such : (o : Option Entry) → found_or o ≡ Said.Refused Why.NoSuch → o ≡ None
none_such None is = refl
none_such (Some e) is = cc is

-- a version that isn't there, or a fault from outside
pub unfound_does : {S : Type 0} (state : S → State) (has : S → Mounted → List Placed → Type 0) (key : Key) (old new : S) (k : Known) (before now : Moment) (why : Refusal) → Stands state has new k now → LooksUp (entry_reply (volume_of k) key) (found_one (Err why)) → Does state has (Word.Get key) old new k before now (ended_by why)
unfound_does state has key old new k before now (Why.Device s) stands looks = tt
unfound_does state has key old new k before now Why.Memory stands looks = tt
unfound_does state has key old new k before now Why.NoSuch stands looks =
    let none = none_such (entry_of key (volume_of k).entries) looks in
    let file : find key_cmp key (volume_of k).files ≡ None = no_file key (volume_of k).files (volume_of k).entries stands.disk.described.lists none in (
      k,
      record {
        met = record { forces = false; reached = 0; damaged = None; found = []; healed = 0 };
        is = ap (λ (f : Option File). (got key None f, volume_of k)) file;
        opened = refl;
        windows = refl;
        changes = sym (append-nil k.changes);
        find = subst (λ (o : Option Entry). IfSome o (λ x. FindsDamage before.image now.image (range_sectors x.runs 0 x.length) None)) (sym none) tt;
        unworn = λ may. cc may;
      },
      stands,
      tt,
    )
unfound_does state has key old new k before now why stands looks = absurd looks
