-- The pages of a volume that stands, once its table was edited in the cache.
use Rattle.std.proofs.Common.{◌≡◌, inl, inr, ℕ, zero, suc, ◌+◌, ◌<◌, ◌≤◌, Bool, true, false, cond, not, List, [], ◌∷◌, length, Option, Some, None, refl, sym, ap, subst, ◌∙◌, arith}
use Rattle.std.specs.Prelude.{IsSome, option_map}
use Rattle.std.specs.Option.{option_or, unwrap_or}
use Rattle.std.proofs.lemmas.Bool.{both_ways, cases_lt, false_from_ne_true, le-ltb}
use Rattle.std.proofs.lemmas.List.FromFn.{get_or-map-range_with_len}
use Rattle.volume_layout.specs.declared.layout.Layout.{Layout}
use Rattle.sector_disk.specs.declared.machine.Machine.{Ghosts as MachineGhosts}
use Rattle.sector_disk.specs.Image.{AreShort}
use Rattle.fsd_bytes.specs.declared.refusal.Refusal.{Refusal}
use Rattle.fsd_formats.specs.declared.entry.Entry.{Entry}
use Rattle.fsd_table.specs.Tree.{table_of}
use Rattle.page_cache.specs.Cache.{AreNewest, CacheValue, Held, IsCache, IsResident, cached_bytes, held, is_among, newest_bytes}
use Rattle.fsd_sound.specs.Mounted.{image_at, most_changed}
use Rattle.fsd_sound.specs.Shown.{newest as newest_there_is, records_by}
use Rattle.group_commit.specs.contracts.newest.NewestPageSource.TheImpl as by_log
use Rattle.group_commit.specs.Newest.{newest_by}
use Rattle.name_btree.specs.Map.{HasTable, IsTable}
use Rattle.table_pages.specs.Bringing.{IsTrusted}
use Rattle.table_pages.specs.ImageLaws.{image_count}
use Rattle.table_pages.specs.Kept.{images_given}
use Rattle.volume_contract.specs.State.{Known, Stands}
use Rattle.volume_laws.specs.Changing.{MakesPages}
use Rattle.cached_table.specs.Editing.{EditsOnly, EditsTable, as_step}
use Rattle.cached_table.specs.Looking.{images_by}
use Rattle.volume_laws.specs.State.{IsMemoryOf, state}
use Rattle.volume_laws.specs.Volume.{IsWholeVolume, VolumeValue}
use Rattle.volume_laws.proofs.CacheLaws.{filled, knows_pages, newest_there}
use Rattle.volume_laws.proofs.FlagLaws.{reached_is}
use Rattle.cached_table.proofs.ResidentLaws.{clean_absent}
use Rattle.volume_laws.proofs.TableLaws.{as_many, is_tree, pages_read}
use Rattle.volume_laws.specs.WearLaws.{stands_worn}

-- ---- images

image_by : (f : ℕ → Option (List ℕ)) (n page : ℕ) → page < n → image_at (images_given f n) page ≡ unwrap_or (f page) []
unfolding images_given
image_by f n page lt = get_or-map-range_with_len (λ p. unwrap_or (f p) []) 0 n page page [] lt (omega arith)

past_end : (pages : List (List ℕ)) (page : ℕ) → length pages ≤ page → image_at pages page ≡ []
past_end [] page over = refl
past_end (x ∷ pages) zero over = absurd (omega arith)
past_end (x ∷ pages) (suc page) over = past_end pages page (omega arith)

-- a page that is not dirty is the source's
clean_is : (source : ℕ → Option (List ℕ)) (c : CacheValue) (page : ℕ) → AreNewest source c → is_among c.dirty page ≡ false → newest_bytes c source page ≡ source page
clean_is source c page clean rests = by (held c page) refl
  where
    by : (o : Option Held) → held c page ≡ o → option_or (option_map (λ (h : Held). h.bytes) o) (source page) ≡ source page
    by None none = refl
    by (Some h) there = sym (ap (λ (o : Option Held). option_map (λ (x : Held). x.bytes) o) there) ∙ clean page (subst (λ (o : Option Held). IsSome o) (sym there) refl) rests

resident_by : (c : CacheValue) (page : ℕ) (bytes : List ℕ) → cached_bytes c page ≡ Some bytes → IsResident c page
resident_by c page bytes there = by (held c page) there
  where
    by : (o : Option Held) → option_map (λ (h : Held). h.bytes) o ≡ Some bytes → IsSome o
    by None e = absurd (cc e)
    by (Some h) e = refl

-- ---- where the volume stands

module _ {D : Type 0} (M : MachineGhosts D) (short : (m : D) → M.honest m → AreShort (M.now m).windows) (m m' : D) (v : VolumeValue) (whole : IsWholeVolume v) (cached : IsCache v.cache) (c : CacheValue) (flags : List Bool)
    (refusal : Option Refusal) (edits : EditsOnly M by_log.ghosts v.log refusal m m' v.cache c v.free_pages flags) (honest : M.honest m') (k : Known) (stands : Stands state IsMemoryOf v k (M.now m)) where
  pub trusted : IsTrusted M by_log.ghosts v.log m v.cache m'
  trusted = record {
    honest = honest;
    knows = knows_pages v k (M.now m) whole stands (short m (edits.reads.trust.honest honest));
    clean = newest_there v k (M.now m) whole stands;
  }

  pub worn : Stands state IsMemoryOf v k (M.now m')
  worn =
      let wears = edits.reads.worn honest in
      stands_worn v k (M.now m) (M.now m') (short m (edits.reads.trust.honest honest)) (record { image = wears.image; windows = wears.windows }) stands

  abbrev pub pages_now : List (List ℕ)
  pages_now = images_by M by_log.ghosts v.log m' c (length flags)

  abbrev source : ℕ → Option (List ℕ)
  source = newest_by v.log (M.now m').image

  clean_now : AreNewest source c
  clean_now = edits.clean trusted

  -- ---- nothing is edited

  -- where the pages stay, and those that wait are the same, it stands with what was brought into the cache
  pub stands_unedited : IsCache c → c.dirty ≡ v.cache.dirty → flags ≡ v.free_pages → pages_now ≡ k.mounted.pages → Stands state IsMemoryOf (record v { cache = c; free_pages = flags }) k (M.now m')
  stands_unedited cache dirty same pages =
      subst (λ (f : List Bool). Stands state IsMemoryOf (record v { cache = c; free_pages = f }) k (M.now m')) (sym same) (filled v k (M.now m') whole worn c dirty kept clean_now)
    where
      kept : (page : ℕ) → is_among c.dirty page ≡ true → cached_bytes c page ≡ cached_bytes v.cache page
      kept page waits = by (cached_bytes v.cache page) refl (cached_bytes c page) refl
        where
          waited : is_among v.cache.dirty page ≡ true
          waited = ap (λ (d : List ℕ). is_among d page) (sym dirty) ∙ waits

          by : (o : Option (List ℕ)) → cached_bytes v.cache page ≡ o → (p : Option (List ℕ)) → cached_bytes c page ≡ p → cached_bytes c page ≡ cached_bytes v.cache page
          by None none p is = absurd (both_ways (is_among v.cache.dirty page) (clean_absent v.cache cached page none) waited)
          by (Some old) there None none = absurd (both_ways (is_among c.dirty page) (clean_absent c cache page none) waits)
          by (Some old) there (Some new) is =
              let lt : page < length flags = omega (arith, stands.holds.inside page old there, whole.pages, edits.size) in
              let shown : image_at pages_now page ≡ new = image_by (newest_bytes c source) (length flags) page lt ∙ ap (λ (o : Option (List ℕ)). unwrap_or (option_or o (source page)) []) is in
              is ∙ ap (λ (bytes : List ℕ). Some bytes) (sym shown ∙ ap (λ (images : List (List ℕ)). image_at images page) pages ∙ stands.holds.pages page old there) ∙ sym there

  -- what it was before
  pub table_was : (images : List (List ℕ)) → images ≡ k.mounted.pages → IsTable (as_step images v.free_pages) (is_tree v k (M.now m) whole stands).0
  table_was images same =
      let tree = is_tree v k (M.now m) whole stands in
      subst (λ (pages : List (List ℕ)). IsTable (as_step pages v.free_pages) tree.0) (sym same) (record {
        tree = tree.1;
        spare = λ page lt. stands.holds.free_pages page (omega (arith, lt, as_many v k (M.now m) whole stands, whole.pages)) ∙ ap not (reached_is k.mounted.pages tree.0 page tree.1);
      })

  -- ---- which pages differ

  pages_was : images_given (newest_bytes v.cache source) (length v.free_pages) ≡ k.mounted.pages
  pages_was = pages_read v k (M.now m') whole worn cached

  size : length k.mounted.pages ≡ length pages_now
  size = omega (arith, as_many v k (M.now m') whole worn, image_count (newest_bytes c source) (length flags), edits.size)

  still : (page : ℕ) → is_among c.dirty page ≡ false → is_among v.cache.dirty page ≡ false
  still page out = false_from_ne_true (is_among v.cache.dirty page) (λ was. both_ways (is_among c.dirty page) out (edits.fills.dirty page was))

  same_page : (page : ℕ) → is_among c.dirty page ≡ false → image_at k.mounted.pages page ≡ image_at pages_now page
  same_page page out = elim (cases_lt page (length v.free_pages)) [
    | inl lt ↦
        let given : newest_bytes v.cache source page ≡ newest_bytes c source page =
        clean_is source v.cache page (newest_there v k (M.now m') whole worn) (still page out) ∙ sym (clean_is source c page clean_now out) in
        ap (λ (pages : List (List ℕ)). image_at pages page) (sym pages_was) ∙ image_by (newest_bytes v.cache source) (length v.free_pages) page lt
        ∙ ap (λ (o : Option (List ℕ)). unwrap_or o []) given ∙ sym (image_by (newest_bytes c source) (length flags) page (omega (arith, lt, edits.size)))
    | inr past ↦
        past_end k.mounted.pages page (omega (arith, past, as_many v k (M.now m') whole worn))
        ∙ sym (past_end pages_now page (omega (arith, past, as_many v k (M.now m') whole worn, size)))
  ]

  module _ (few : length c.dirty ≤ length v.cache.dirty + most_changed) (within : (page : ℕ) → is_among c.dirty page ≡ true → page < length flags) where
    inside : (page : ℕ) (bytes : List ℕ) → cached_bytes c page ≡ Some bytes → page < length flags
    inside page bytes there = by (is_among c.dirty page) refl
      where
        by : (b : Bool) → is_among c.dirty page ≡ b → page < length flags
        by true waits = within page waits
        by false rests =
            elim (cases_lt page v.log.layout.pages) [
              | inl lt ↦ omega (arith, lt, ap (λ (l : Layout). l.pages) whole.log, whole.pages, edits.size)
              | inr past ↦
                  let given : source page ≡ Some bytes = sym (clean_now page (resident_by c page bytes there) rests) ∙ there in
                  let none : source page ≡ None = ap (λ (b : Bool). cond b (newest_there_is v.log.layout (M.now m').image (records_by v.log.layout (M.now m').image v.log.anchor) page) None) (le-ltb page v.log.layout.pages past) in
                  absurd (cc (given, none))
            ]

    there_now : (page : ℕ) (bytes : List ℕ) → cached_bytes c page ≡ Some bytes → image_at pages_now page ≡ bytes
    there_now page bytes there =
        image_by (newest_bytes c source) (length flags) page (inside page bytes there) ∙ ap (λ (o : Option (List ℕ)). unwrap_or (option_or o (source page)) []) there

    -- ---- the table

    module _ (edit : List Entry → List Entry) (makes : EditsTable M by_log.ghosts v.log m m' v.cache c v.free_pages flags edit) where
      pub has_table : HasTable (as_step pages_now flags) (edit k.mounted.volume.entries)
      has_table =
          let tree = is_tree v k (M.now m) whole stands in
          let before = pages_read v k (M.now m) whole stands cached in
          subst (HasTable (as_step pages_now flags)) (ap (λ (pages : List (List ℕ)). edit (table_of pages tree.0)) before ∙ ap edit tree.2)
          (makes.makes trusted tree.0 (table_was (images_by M by_log.ghosts v.log m v.cache (length v.free_pages)) before))

      pub pages_made : MakesPages v.cache c flags k.mounted.pages pages_now has_table.height × (table_of pages_now has_table.height ≡ edit k.mounted.volume.entries)
      pages_made = (
        record {
          tree = has_table.is.tree;
          free = has_table.is.spare;
          there = there_now;
          inside = inside;
          still = still;
          few = few;
          clean = record { size = size; each = same_page };
        },
        has_table.table_is,
      )
