-- What is kept stays so where a version is made, where versions go, and where a keep is set.
use Rattle.std.proofs.Common.{◌≡◌, ℕ, Bool, true, false, cond, List, [], ◌∷◌, filter, Option, Some, None, Ordering, refl, sym, ap, subst, ◌∙◌}
use Rattle.std.specs.Prelude.{not}
use Rattle.std.specs.List.{list_any}
use Rattle.std.specs.Ordering.{eq_by_cmp}
use Rattle.std.specs.declared.cmp.Ordering.TheVariants.{Less, Equal, Greater}
use Rattle.std.specs.FinMap.{find, put}
use Rattle.std.specs.FinMap.Entries.{by_order}
use Rattle.fsd_bytes.specs.declared.key.Key.{Key}
use Rattle.fsd_bytes.specs.declared.key.Serial.{Serial}
use Rattle.fsd_bytes.specs.Keys.{key_cmp, same_key}
use Rattle.run_table.specs.declared.run.Run.{Run}
use Rattle.fsd_formats.specs.declared.entry.Entry.{Entry}
use Rattle.fsd_files.specs.Answers.{deleted, entries_with_keep, entry_kept, entry_of, entry_put, highest_entry, keep_set, moved_entry, new_entry, with_version, with_version_moved, loaded_entry, with_loaded}
use Rattle.fsd_files.specs.Disk.{Image, Sectors}
use Rattle.fsd_files.specs.Files.{File, Files, file_kept, gone_by_move, gone_keys, highest, kept_at, moved_keep, moved_to, new_key, new_keep, with_keep, with_moved, with_new}
use Rattle.fsd_files.specs.Kept.{Kept, KeptIn, Lists}
use Rattle.fsd_files.specs.Volume.{Volume}
use Rattle.fsd_files.proofs.ListingLaws.{AreFound, BothOrNone, found_both, highest_both, lists_put, moved_is_entry, same_key_turned}

module _ (hurt : Sectors) (i : Image) where
  by_place : (o : Ordering) (k : Key) (x : File) (e : Entry) (y : Key × File) (z : Entry) (s : Files) (entries : List Entry) (rest : Files) (more : List Entry)
      → KeptIn i hurt x.bytes e.runs → KeptIn i hurt y.1.bytes z.runs → Kept i s entries hurt → Kept i rest more hurt
      → Kept i (by_order o ((k, x) ∷ y ∷ s) ((y.0, x) ∷ s) (y ∷ rest)) (by_order o (e ∷ z ∷ entries) (e ∷ entries) (z ∷ more)) hurt
  by_place Less k x e y z s entries rest more new old kept deeper = (new, (old, kept))
  by_place Equal k x e y z s entries rest more new old kept deeper = (new, kept)
  by_place Greater k x e y z s entries rest more new old kept deeper = (old, deeper)

  kept_put : (k : Key) (x : File) (e : Entry) (s : Files) (entries : List Entry) → e.key ≡ k → KeptIn i hurt x.bytes e.runs → Lists s entries → Kept i s entries hurt → Kept i (put key_cmp k x s) (entry_put e entries) hurt
  kept_put k x e [] [] same new lists kept = (new, tt)
  kept_put k x e [] (z ∷ entries) same new lists kept = absurd lists
  kept_put k x e (y ∷ s) [] same new lists kept = absurd lists
  kept_put k x e (y ∷ s) (z ∷ entries) same new lists kept =
      let order : key_cmp k y.0 ≡ key_cmp e.key z.key = ap (λ (a : Key). key_cmp a y.0) (sym same) ∙ ap (key_cmp e.key) (sym lists.0.key) in
      subst (λ (o : Ordering). Kept i (put key_cmp k x (y ∷ s)) (by_order o (e ∷ z ∷ entries) (e ∷ entries) (z ∷ entry_put e entries)) hurt) order
      (by_place (key_cmp k y.0) k x e y z s entries (put key_cmp k x s) (entry_put e entries) new kept.0 kept.1 (kept_put k x e s entries same new lists.1 kept.1))

  kept_passed : (p : Key → Bool) (s : Files) (entries : List Entry) → Lists s entries → Kept i s entries hurt → Kept i (filter (λ e. p e.0) s) (filter (λ e. p e.key) entries) hurt
  kept_passed p [] [] lists kept = tt
  kept_passed p [] (z ∷ entries) lists kept = absurd lists
  kept_passed p (y ∷ s) [] lists kept = absurd lists
  kept_passed p (y ∷ s) (z ∷ entries) lists kept =
      subst (λ (b : Bool). Kept i (filter (λ e. p e.0) (y ∷ s)) (cond b (z ∷ filter (λ e. p e.key) entries) (filter (λ e. p e.key) entries)) hurt) (ap p (sym lists.0.key))
      (by (p y.0) (kept_passed p s entries lists.1 kept.1))
    where
      by : (b : Bool) → Kept i (filter (λ e. p e.0) s) (filter (λ e. p e.key) entries) hurt
          → Kept i (cond b (y ∷ filter (λ e. p e.0) s) (filter (λ e. p e.0) s)) (cond b (z ∷ filter (λ e. p e.key) entries) (filter (λ e. p e.key) entries)) hurt
      by true rest = (kept.0, rest)
      by false rest = rest

  pub version_kept : (v : Volume) (name bytes : List ℕ) (given : Option ℕ) (runs : List Run) (serial : Serial) (r : ℕ) → Lists v.files v.entries → Kept i v.files v.entries hurt → KeptIn i hurt bytes runs
      → Kept i (with_version v name bytes given runs serial r).files (with_version v name bytes given runs serial r).entries hurt
  version_kept v name bytes given runs serial r lists kept new =
      let x : File = record { bytes = bytes; keep = new_keep name given v.files } in
      let e : Entry = new_entry v name bytes given runs serial in
      kept_passed (λ k. not (list_any (same_key k) (gone_keys name given bytes v.files))) (with_new name given bytes v.files) (entry_put e v.entries)
      (lists_put (new_key name v.files) x e v.files v.entries (record { key = refl; keep = refl; length = refl }) lists) (kept_put (new_key name v.files) x e v.files v.entries refl new lists kept)

  pub load_kept : (v : Volume) (key : Key) (keep : ℕ) (bytes : List ℕ) (runs : List Run) (serial : Serial) (r : ℕ) → Lists v.files v.entries → Kept i v.files v.entries hurt → KeptIn i hurt bytes runs
      → Kept i (with_loaded v key keep bytes runs serial r).files (with_loaded v key keep bytes runs serial r).entries hurt
  load_kept v key keep bytes runs serial r lists kept new =
      kept_put key (record { bytes = bytes; keep = keep }) (loaded_entry key keep bytes runs serial) v.files v.entries refl new lists kept

  pub delete_kept : (v : Volume) (key : Key) (r : ℕ) (e : Entry) → Lists v.files v.entries → Kept i v.files v.entries hurt → Kept i (deleted v key r (Some e)).1.files (deleted v key r (Some e)).1.entries hurt
  delete_kept v key r e lists kept = kept_passed (λ k. not (list_any (same_key k) (key ∷ []))) v.files v.entries lists kept

  kept_same : (b c : Bool) (keep : ℕ) (x : File) (z : Entry) → KeptIn i hurt x.bytes z.runs → KeptIn i hurt (file_kept b keep x).bytes (entry_kept c keep z).runs
  kept_same true true keep x z kept = kept
  kept_same true false keep x z kept = kept
  kept_same false true keep x z kept = kept
  kept_same false false keep x z kept = kept

  kept_with_keep : (key other : Key) (keep : ℕ) (s : Files) (entries : List Entry) → Kept i s entries hurt → Kept i (with_keep key keep s) (entries_with_keep other keep entries) hurt
  kept_with_keep key other keep [] [] kept = tt
  kept_with_keep key other keep [] (z ∷ entries) kept = absurd kept
  kept_with_keep key other keep (y ∷ s) [] kept = absurd kept
  kept_with_keep key other keep (y ∷ s) (z ∷ entries) kept = (kept_same (same_key y.0 key) (same_key z.key other) keep y.1 z kept.0, kept_with_keep key other keep s entries kept.1)

  pub keep_kept : (v : Volume) (name : List ℕ) (keep r : ℕ) (e : Entry) → Lists v.files v.entries → highest_entry name v.entries ≡ Some e → Kept i v.files v.entries hurt
      → Kept i (keep_set v name keep r (Some e)).1.files (keep_set v name keep r (Some e)).1.entries hurt
  keep_kept v name keep r e lists is kept = by (highest name v.files) (subst (λ (o : Option Entry). BothOrNone (highest name v.files) o) is (highest_both name v.files v.entries lists))
    where
      by : (o : Option (Key × File)) → BothOrNone o (Some e) → Kept i (kept_at o keep v.files) (entries_with_keep e.key keep v.entries) hurt
      by None both = absurd both
      by (Some y) both = kept_with_keep y.0 e.key keep v.files v.entries kept

  -- a version and its entry that are found by one key stand at one place
  kept_found : (key : Key) (x : File) (e : Entry) (s : Files) (entries : List Entry) → Lists s entries → find key_cmp key s ≡ Some x → entry_of key entries ≡ Some e → Kept i s entries hurt → KeptIn i hurt x.bytes e.runs
  kept_found key x e [] entries lists there found kept = absurd (cc there)
  kept_found key x e (y ∷ s) [] lists there found kept = absurd lists
  kept_found key x e (y ∷ s) (z ∷ entries) lists there found kept =
      by (same_key z.key key) (subst (λ (b : Bool). cond b (Some y.1) (find key_cmp key s) ≡ Some x) same there) found (λ more_there more_found. kept_found key x e s entries lists.1 more_there more_found kept.1)
    where
      same : eq_by_cmp key_cmp key y.0 ≡ same_key z.key key
      same = same_key_turned key y.0 ∙ ap (λ (k : Key). same_key k key) (sym lists.0.key)

      by : (b : Bool) → cond b (Some y.1) (find key_cmp key s) ≡ Some x → cond b (Some z) (entry_of key entries) ≡ Some e
          → (find key_cmp key s ≡ Some x → entry_of key entries ≡ Some e → KeptIn i hurt x.bytes e.runs) → KeptIn i hurt x.bytes e.runs
      by true is of rest =
          let file : y.1 ≡ x = cc is in
          let entry : z ≡ e = cc of in
          subst (λ (w : File). KeptIn i hurt w.bytes e.runs) file (subst (λ (w : Entry). KeptIn i hurt y.1.bytes w.runs) entry kept.0)
      by false is of rest = rest is of

  pub move_kept : (v : Volume) (key : Key) (name : List ℕ) (x : File) (e : Entry) (r : ℕ) → Lists v.files v.entries → find key_cmp key v.files ≡ Some x → entry_of key v.entries ≡ Some e → Kept i v.files v.entries hurt
      → Kept i (with_version_moved v key name x e r).files (with_version_moved v key name x e r).entries hurt
  move_kept v key name x e r lists there found kept =
      let w : File = record { bytes = x.bytes; keep = moved_keep name x.keep v.files } in
      let out : List Key = key ∷ gone_by_move key name x v.files in
      let of = both (find key_cmp key v.files) (entry_of key v.entries) there found (found_both key v.files v.entries lists) in
      subst (λ (o : Option File). Kept i (moved_to key name o v.files) (with_version_moved v key name x e r).entries hurt) (sym there)
      (kept_passed (λ k. not (list_any (same_key k) out)) (with_moved name x v.files) (entry_put (moved_entry v name e) v.entries)
      (lists_put (new_key name v.files) w (moved_entry v name e) v.files v.entries (moved_is_entry v key name x e of) lists)
      (kept_put (new_key name v.files) w (moved_entry v name e) v.files v.entries refl (kept_found key x e v.files v.entries lists there found kept) lists kept))
    where
      both : (o : Option File) (p : Option Entry) → o ≡ Some x → p ≡ Some e → AreFound key o p → AreFound key (Some x) (Some e)
      both o p is of found = subst (λ (a : Option File). AreFound key a (Some e)) is (subst (λ (a : Option Entry). AreFound key o a) of found)
