-- The table of a volume that stands over its disk: its pages are a tree, which a look-up reads as the volume's definitions answer.
use Rattle.std.proofs.Common.{◌≡◌, inl, inr, ℕ, zero, suc, ◌+◌, ◌<◌, ◌≤◌, Bool, true, false, cond, not, List, [], ◌∷◌, length, map, filter, Option, Some, None, refl, sym, ap, ◌∙◌, arith}
use Rattle.std.specs.Prelude.{Contains, slice_index_or, ◌==◌}
use Rattle.std.specs.List.{last_or, list_any, range_with_len}
use Rattle.std.specs.Option.{option_or, unwrap_or}
use Rattle.std.proofs.lemmas.Bool.{cases_lt, eq-eqb, or_left, or_right}
use Rattle.volume_layout.specs.declared.layout.Layout.{Layout}
use Rattle.sector_disk.specs.Machine.{Moment}
use Rattle.sector_disk.proofs.ResultLaws.{option_or-none}
use Rattle.fsd_bytes.specs.declared.key.Key.{Key}
use Rattle.fsd_bytes.specs.Bytes.{same_bytes}
use Rattle.fsd_bytes.specs.Keys.{key_lt}
use Rattle.fsd_formats.specs.declared.entry.Entry.{Entry}
use Rattle.page_cache.specs.Cache.{IsCache, newest_bytes}
use Rattle.name_page.specs.Lookups.{entry_with, first_after, highest_of, same_name}
use Rattle.fsd_table.specs.Table.{BreaksTable, Telling, Visit, visits}
use Rattle.fsd_table.specs.Tree.{IsTree, pages_of, table_of}
use Rattle.fsd_table.proofs.ToldLaws.{broken_tells_nothing}
use Rattle.fsd_table.proofs.TreeLaws.{told_tree}
use Rattle.fsd_table.proofs.VisitLaws.{tree_told}
use Rattle.fsd_files.specs.Answers.{entry_of, entry_after as entry_behind, highest_entry}
use Rattle.fsd_sound.proofs.EachLaws.{items_by_place}
use Rattle.group_commit.specs.Newest.{newest_by}
use Rattle.group_commit.proofs.StandsLaws.{gives_disk}
use Rattle.table_pages.specs.Kept.{images_given}
use Rattle.volume_contract.specs.State.{Known, Stands}
use Rattle.volume_laws.specs.State.{IsMemoryOf, state}
use Rattle.volume_laws.specs.Volume.{IsWholeVolume, VolumeValue}
use Rattle.volume_laws.proofs.PageLaws.{over, page_read}
use Rattle.cached_table.proofs.AbsentLaws.{behind_is}
use Rattle.version_table.proofs.EditLaws.{with_is}
use Rattle.version_table.proofs.VersionLaws.{same_both}

-- ---- look-ups among entries

last_is : (name : List ℕ) (entries : List Entry) (o : Option Entry) → option_or (highest_of name entries) o ≡ last_or o (filter (λ e. same_bytes name e.key.name) entries)
last_is name [] o = refl
last_is name (e ∷ entries) o = by (same_name e.key.name name) (same_bytes name e.key.name) (same_both e.key.name name) (highest_of name entries) (last_is name entries)
  where
    by : (b c : Bool) → b ≡ c → (last : Option Entry) → ((p : Option Entry) → option_or last p ≡ last_or p (filter (λ x. same_bytes name x.key.name) entries))
        → option_or (option_or last (cond b (Some e) None)) o ≡ last_or o (cond c (e ∷ filter (λ x. same_bytes name x.key.name) entries) (filter (λ x. same_bytes name x.key.name) entries))
    by true false is last rest = absurd (cc is)
    by false true is last rest = absurd (cc is)
    by true true is None rest = rest (Some e)
    by true true is (Some x) rest = rest (Some e)
    by false false is None rest = rest o
    by false false is (Some x) rest = rest o

highest_is : (name : List ℕ) (entries : List Entry) → highest_of name entries ≡ highest_entry name entries
highest_is name entries = option_or-none (highest_of name entries) ∙ last_is name entries None

-- one that is found is an entry
pub behind_there : (after : Option Key) (entries : List Entry) (e : Entry) → entry_behind after entries ≡ Some e → Contains entries e
behind_there None [] e is = absurd (cc is)
behind_there (Some key) [] e is = absurd (cc is)
behind_there None (x ∷ entries) e is = let same : x ≡ e = cc is in (zero, omega arith, same)
behind_there (Some key) (x ∷ entries) e is = by (key_lt key x.key) is (behind_there (Some key) entries e)
  where
    by : (b : Bool) → cond b (Some x) (entry_behind (Some key) entries) ≡ Some e → (entry_behind (Some key) entries ≡ Some e → Contains entries e) → Contains (x ∷ entries) e
    by true here rest = let same : x ≡ e = cc here in (zero, omega arith, same)
    by false here rest = let there = rest here in (suc there.0, omega (arith, there.1), there.2)

-- ---- a page that a path reaches

any_visit : (page : ℕ) (all : List Visit) (v : Visit) (i : ℕ) → i < length all → slice_index_or all i v ≡ v → v.page ≡ page → list_any (λ visit. visit.page == page) all ≡ true
any_visit page [] v i lt is at = absurd (omega arith)
any_visit page (w ∷ all) v zero lt is at = or_left (w.page == page) _ (eq-eqb w.page page (ap (λ (x : Visit). x.page) is ∙ at))
any_visit page (w ∷ all) v (suc i) lt is at = or_right (w.page == page) _ (any_visit page all v i (omega arith) is at)

past_flags : (flags : List Bool) (page : ℕ) → length flags ≤ page → slice_index_or flags page false ≡ false
past_flags [] page over = refl
past_flags (f ∷ flags) zero over = absurd (omega arith)
past_flags (f ∷ flags) (suc page) over = past_flags flags page (omega arith)

-- ---- over the disk

module _ (v : VolumeValue) (k : Known) (now : Moment) (whole : IsWholeVolume v) (stands : Stands state IsMemoryOf v k now) where
  pub as_many : length v.free_pages ≡ length k.mounted.pages
  as_many =
      let at = over v k now whole stands in
      let size : length stands.disk.disk ≡ v.log.layout.pages = (gives_disk v.log.layout v.log.anchor v.log.head stands.disk.records stands.disk.disk k.mounted.pages v.cache.dirty k.windows now.image at).size in
      omega (arith, whole.pages, ap (λ (l : Layout). l.pages) whole.log, size, at.clean.size)

  -- what is read of all pages
  pub pages_read : IsCache v.cache → images_given (newest_bytes v.cache (newest_by v.log now.image)) (length v.free_pages) ≡ k.mounted.pages
  unfolding images_given
  pages_read cache =
      ap (λ (n : ℕ). map (λ page. unwrap_or (newest_bytes v.cache (newest_by v.log now.image) page) []) (range_with_len 0 n)) as_many
      ∙ items_by_place 0 k.mounted.pages [] (λ page. unwrap_or (newest_bytes v.cache (newest_by v.log now.image) page) []) (λ page lt.
      let at : 0 + page ≡ page = omega arith in
      let within : page < v.layout.pages = omega (arith, lt, as_many, whole.pages) in
      ap (λ (n : ℕ). unwrap_or (newest_bytes v.cache (newest_by v.log now.image) n) []) at ∙ ap (λ (o : Option (List ℕ)). unwrap_or o []) (page_read v k now whole stands page within cache))

  -- the pages are a tree of the volume's entries
  pub is_tree : (height : ℕ) × IsTree k.mounted.pages height × (table_of k.mounted.pages height ≡ k.mounted.volume.entries)
  is_tree =
      let tree = told_tree k.mounted.pages _ stands.disk.in_memory in
      let told = sym (tree_told k.mounted.pages tree.0 tree.1) ∙ stands.disk.in_memory in (
        tree.0,
        tree.1,
        ap (λ (t : Telling). t.entries) (let same : record { entries = table_of k.mounted.pages tree.0; reached = length (pages_of k.mounted.pages tree.0) } ≡ record { entries = k.mounted.volume.entries; reached = k.mounted.volume.reached } = cc told in same),
      )

  -- none of them breaks it, and none that a path reaches is free
  pub unbroken : (page : ℕ) → BreaksTable k.mounted.pages page → ⊥
  unbroken page broken = absurd (cc (broken_tells_nothing k.mounted.pages page broken, stands.disk.in_memory))

  pub not_spare : (visit : Visit) → Contains (visits k.mounted.pages) visit → slice_index_or v.free_pages visit.page false ≡ false
  not_spare visit reached = elim (cases_lt visit.page v.layout.pages) [
    | inl lt ↦ stands.holds.free_pages visit.page lt ∙ ap not (any_visit visit.page (visits k.mounted.pages) visit reached.0 reached.1 reached.2 refl)
    | inr past ↦ past_flags v.free_pages visit.page (omega (arith, past, whole.pages))
  ]

  pub found_with : (key : Key) → (height : ℕ) × IsTree k.mounted.pages height × (entry_with key (table_of k.mounted.pages height) ≡ entry_of key k.mounted.volume.entries)
  found_with key = (is_tree.0, is_tree.1, ap (entry_with key) is_tree.2 ∙ with_is key k.mounted.volume.entries)

  pub found_behind : (after : Option Key) → (height : ℕ) × IsTree k.mounted.pages height × (first_after after (table_of k.mounted.pages height) ≡ entry_behind after k.mounted.volume.entries)
  found_behind after = (is_tree.0, is_tree.1, ap (first_after after) is_tree.2 ∙ behind_is after k.mounted.volume.entries)

  pub found_highest : (name : List ℕ) → (height : ℕ) × IsTree k.mounted.pages height × (highest_of name (table_of k.mounted.pages height) ≡ highest_entry name k.mounted.volume.entries)
  found_highest name = (is_tree.0, is_tree.1, ap (highest_of name) is_tree.2 ∙ highest_is name k.mounted.volume.entries)
