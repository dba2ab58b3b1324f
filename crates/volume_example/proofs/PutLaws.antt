-- What a put that is done has made of the files.
use Rattle.std.proofs.Common.{◌≡◌, ◌≤◌, ℕ, suc, Bool, true, false, cond, List, [], ◌∷◌, Option, Some, None, refl, sym, ◌∙◌, ap, arith}
use Rattle.std.specs.Prelude.{not, is_none, nat_le, ◌&&◌, ◌==◌, length}
use Rattle.std.specs.List.{list_any}
use Rattle.std.specs.FinMap.{find, put}
use Rattle.std.specs.FinMap.Entries.{find-put, find-where_key}
use Rattle.std.specs.Ordering.{eq_by_cmp}
use Rattle.std.proofs.lemmas.Cmp.{eq_by_cmp_equiv}
use Rattle.fsd_bytes.specs.declared.key.Key.{Key}
use Rattle.fsd_bytes.specs.declared.key.Serial.{Serial}
use Rattle.fsd_bytes.specs.declared.refusal.Refusal.{Refusal}
use Rattle.fsd_bytes.specs.Keys.{key_cmp, same_key}
use Rattle.run_table.specs.declared.run.Run.{Run}
use Rattle.fsd_formats.specs.declared.entry.Entry.{Entry}
use Rattle.fsd_formats.specs.NamePage.{sectors_for}
use Rattle.fsd_files.specs.Answers.{Met, Outcome, enter_fault, entered_unless, entry_of, keep_given, put_at, put_outcome, put_unless, size_fault}
use Rattle.fsd_files.specs.Files.{Change, File, Files, gone_keys, new_keep, new_key, step, with_new, without_keys}
use Rattle.fsd_files.specs.Kept.{Lists}
use Rattle.fsd_files.specs.declared.reply.Reply.TheVariants.{Made}
use Rattle.fsd_files.specs.Volume.{Volume, drawn, forced, forced_for_place, forced_if, place_for}
use Rattle.fsd_files.proofs.HistoryLaws.{keys_total}
use Rattle.fsd_files.proofs.ListingLaws.{alike_is, same_key_turned}

-- ---- what an outcome tells

-- the volume on the way of a put
record Keeps (v at : Volume) : Type 0 where
  files : at.files ≡ v.files
  layout : at.layout ≡ v.layout
  unforced : at.unforced ≤ v.unforced

keeps_if : (b : Bool) (v at : Volume) → Keeps v at → Keeps v (cond b (forced at) at)
keeps_if true v at keeps = record { files = keeps.files; layout = keeps.layout; unforced = omega arith }
keeps_if false v at keeps = keeps

-- The version of this key is made.
pub record IsMade (name bytes : List ℕ) (given : Option ℕ) (key : Key) (v w : Volume) : Type 0 where
  pub named : key ≡ new_key name v.files
  pub files : w.files ≡ step v.files (Change.Put name given bytes)
  pub layout : w.layout ≡ v.layout
  pub unforced : w.unforced ≤ suc v.unforced

module _ (name bytes : List ℕ) (given : Option ℕ) (key : Key) (n : ℕ) (v w : Volume) where
  of_entered : (o : Option Refusal) (at : Volume) → Keeps v at → (runs : List Run) (serial : Serial) (r : ℕ) → entered_unless o at name bytes given runs serial r ≡ (Made key n, w) → IsMade name bytes given key v w
  of_entered (Some why) at keeps runs serial r is = absurd (cc (ap (λ (x : Outcome). x.0) is))
  of_entered None at keeps runs serial r is =
      let told : Made (new_key name at.files) _ ≡ Made key n = ap (λ (x : Outcome). x.0) is in
      let named : new_key name at.files ≡ key = cc told in
      let made = ap (λ (x : Outcome). x.1) is in
      let fewer = keeps.unforced in
      let counted = ap (λ (x : Volume). x.unforced) made in
      record {
        named = sym named ∙ ap (new_key name) keeps.files;
        files = sym (ap (λ (x : Volume). x.files) made) ∙ ap (λ (s : Files). step s (Change.Put name given bytes)) keeps.files;
        layout = sym (ap (λ (x : Volume). x.layout) made) ∙ keeps.layout;
        unforced = omega (arith, fewer, counted);
      }

  of_put : (o : Option Refusal) (met : Met) → put_unless o met v name bytes given ≡ (Made key n, w) → IsMade name bytes given key v w
  of_put (Some why) met is = absurd (cc (ap (λ (x : Outcome). x.0) is))
  of_put None met is =
      let need = sectors_for (length bytes) in
      let at = forced_for_place need v in
      let there = keeps_if (is_none (place_for v need) && not (length v.removed == 0)) v v (record { files = refl; layout = refl; unforced = omega arith }) in
      by at there (place_for at need) is
    where
      by : (at : Volume) → Keeps v at → (o : Option (List Run)) → put_at met at name bytes given (sectors_for (length bytes)) o ≡ (Made key n, w) → IsMade name bytes given key v w
      by at keeps None is = absurd (cc (ap (λ (x : Outcome). x.0) is))
      by at keeps (Some runs) is =
          let drew : Keeps v (drawn at) = record { files = keeps.files; layout = keeps.layout; unforced = keeps.unforced } in
          let last = forced_if met.forces (drawn at) in
          of_entered (enter_fault last name) last (keeps_if (met.forces && nat_le 2 (drawn at).unforced) v (drawn at) drew) runs at.serial met.reached is

  -- so says the outcome of a put
  pub is_made : (met : Met) → put_outcome met v name bytes given ≡ (Made key n, w) → IsMade name bytes given key v w
  is_made met is = of_put (size_fault (keep_given given) (length bytes)) met is

-- ---- the bytes of the version

-- what is found once some are out was found before
find_in : (key : Key) (keys : List Key) (s : Files) (file : File) → find key_cmp key (without_keys keys s) ≡ Some file → find key_cmp key s ≡ Some file
find_in key keys s file is = by (stays key) (sym (find-where_key key_cmp stays key (λ x e. ap stays (sym (alike_is key x e))) s) ∙ is)
  where
    stays : Key → Bool
    stays k = not (list_any (same_key k) keys)

    by : (b : Bool) → cond b (find key_cmp key s) None ≡ Some file → find key_cmp key s ≡ Some file
    by true is = is
    by false is = absurd (cc is)

-- what is found of a key that was put is what was put
find_put : (key : Key) (x file : File) (s : Files) → find key_cmp key (put key_cmp key x s) ≡ Some file → x ≡ file
find_put key x file s is =
    let here : eq_by_cmp key_cmp key key ≡ true = (eq_by_cmp_equiv keys_total).refl key in
    let found : Some x ≡ Some file = sym (ap (λ (b : Bool). cond b (Some x) (find key_cmp key s)) here) ∙ sym (find-put key_cmp keys_total key key x s) ∙ is in
    cc found

pub made_bytes : (name bytes : List ℕ) (given : Option ℕ) (key : Key) (v w : Volume) → IsMade name bytes given key v w → (file : File) → find key_cmp key w.files ≡ Some file → file.bytes ≡ bytes
made_bytes name bytes given key v w made file is =
    let x : File = record { bytes = bytes; keep = new_keep name given v.files } in
    let there : find key_cmp key (step v.files (Change.Put name given bytes)) ≡ Some file = ap (find key_cmp key) (sym made.files) ∙ is in
    let put_in : find key_cmp key (with_new name given bytes v.files) ≡ Some file = find_in key (gone_keys name given bytes v.files) (with_new name given bytes v.files) file there in
    let same : x ≡ file = find_put key x file v.files (ap (λ (k : Key). find key_cmp key (put key_cmp k x v.files)) made.named ∙ put_in) in
    ap (λ (f : File). f.bytes) (sym same)

-- ---- an entry's file

pub file_there : (key : Key) (s : Files) (entries : List Entry) → Lists s entries → (e : Entry) → entry_of key entries ≡ Some e → (file : File) × (find key_cmp key s ≡ Some file)
file_there key [] [] lists e is = absurd (cc is)
file_there key [] (z ∷ entries) lists e is = absurd lists
file_there key (y ∷ s) [] lists e is = absurd lists
file_there key (y ∷ s) (z ∷ entries) lists e is =
    let same : eq_by_cmp key_cmp key y.0 ≡ same_key z.key key = same_key_turned key y.0 ∙ ap (λ (k : Key). same_key k key) (sym lists.0.key) in
    by (eq_by_cmp key_cmp key y.0) (file_there key s entries lists.1 e) (ap (λ (b : Bool). cond b (Some z) (entry_of key entries)) same ∙ is)
  where
    by : (b : Bool) → (entry_of key entries ≡ Some e → (file : File) × (find key_cmp key s ≡ Some file)) → cond b (Some z) (entry_of key entries) ≡ Some e → (file : File) × (cond b (Some y.1) (find key_cmp key s) ≡ Some file)
    by true later is = (y.1, refl)
    by false later is = later is
