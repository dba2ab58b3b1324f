-- What a table over a cache leaves where it was edited.
use Rattle.std.proofs.Common.{◌≡◌, ℕ, ◌+◌, ◌-◌, ◌≤◌, Bool, List, length, Option, None, sym, ap, subst, ◌∙◌, arith}
use Rattle.std.specs.Prelude.{Result, Ok, Err, IfErr, IfOk, OnErr, OnOk, count_by}
use Rattle.std.specs.Borrow.{MutBor}
use Rattle.fsd_bytes.specs.declared.key.Key.{Key}
use Rattle.fsd_files.specs.Answers.{entries_with_keep, highest_entry}
use Rattle.fsd_bytes.specs.declared.refusal.Refusal.{Refusal}
use Rattle.fsd_formats.specs.declared.entry.Entry.{Entry}
use Rattle.fsd_table.specs.Table.{BreaksTable}
use Rattle.fsd_table.specs.Tree.{IsTree, table_of}
use Rattle.sector_disk.specs.declared.machine.Machine.{Ghosts as MachineGhosts}
use Rattle.page_cache.specs.declared.source.PageSource.{Ghosts as SourceGhosts}
use Rattle.page_cache.specs.Cache.{CacheValue, newest_bytes}
use Rattle.name_page.specs.Pages.{Step, with_one, spare_count}
use Rattle.name_btree.specs.declared.fault.TreeFault.{TreeFault}
use Rattle.name_btree.specs.Fault.{BarsTable, HasTreeCause}
use Rattle.version_table.specs.declared.fault.VersionFault.{VersionFault}
use Rattle.version_table.specs.declared.fault.VersionFault.TheVariants.{Table as InTable, NoSuch, VersionsUsedUp}
use Rattle.name_btree.specs.Map.{HasTable, IsTable}
use Rattle.name_btree.proofs.steps.CallLaws.{same_table}
use Rattle.table_pages.specs.Bringing.{IsTrusted, given_by}
use Rattle.table_pages.specs.ImageLaws.{image_count}
use Rattle.table_pages.specs.Table.{IsOver, LeavesTable, ReadsOnly, Trusted, fresh_step, step_of}
use Rattle.table_pages.specs.declared.table.Table.{Table}
use Rattle.cached_table.specs.Editing.{ChangesNone, ChangesOne, DirtiesAtMost, DirtiesOne, EditsOnly, EditsTable, FaultsEdit, FaultsKeep, GivesKeep, GivesKeepIn, KeepFails, KeepsNone, KeepsNoneIn, SetsKeep, SetsKeepIn, StaysInCache, as_step}
use Rattle.cached_table.specs.Looking.{FaultIn, images_by, BarsPages}
use Rattle.cached_table.proofs.LeftLaws.{clean_left, fills_left, images_left, loses_left, reads_left, ready_left, trusted_left}
use Rattle.cached_table.proofs.LookLaws.{fault_there}
use Rattle.cached_table.specs.Entering.{OfTableIn, RefusesFor}
use Rattle.cached_table.proofs.EnteringLaws.{NoneIn, refuses_so}

same_entries : (a b : Step) (table : List Entry) → b.images ≡ a.images → b.spares ≡ a.spares → HasTable a table → HasTable b table
same_entries a b table images spares has = record {
  height = has.height;
  is = same_table a b has.height images spares has.is;
  table_is = ap (λ (p : List (List ℕ)). table_of p has.height) images ∙ has.table_is;
}

module _ {D E : Type 0} {M : MachineGhosts D} {S : SourceGhosts E} where
  module _ {refusal : Option Refusal} {m : MutBor D} {cache : MutBor CacheValue} {source : E} {free : MutBor (List Bool)} {home_a : ℕ} {a b : Table D E M S} {m' : D} {cache' : CacheValue} {free' : List Bool}
      (over : IsOver m cache source free a) (begins : step_of a ≡ fresh_step (given_by M S source m.now) cache.now free.now home_a)
      (count : length (step_of b).images ≡ length (step_of a).images) (outside : ReadsOnly refusal a b) (left : LeavesTable b m' cache' free') where
    trusted_b : IsTrusted M S source m.now cache.now m' → Trusted b
    trusted_b = trusted_left over outside left

    -- the images at first, and in the end
    images_first : (step_of a).images ≡ images_by M S source m.now cache.now (length free.now)
    images_first = ap (λ (s : Step). s.images) begins

    images_last : images_by M S source m' cache' (length free') ≡ (step_of b).images
    images_last = images_left over outside left

    flags_first : (step_of a).spares ≡ free.now
    flags_first = ap (λ (s : Step). s.spares) begins

    -- the table that there was, and the one that there is
    abbrev before : Step
    before = as_step (images_by M S source m.now cache.now (length free.now)) free.now

    abbrev after : Step
    after = as_step (images_by M S source m' cache' (length free')) free'

    size : length free' ≡ length free.now
    size =
        let last = image_count (newest_bytes b.cache.now (given_by M S b.source.now b.m.now)) (length b.free.now) in
        let first = image_count (newest_bytes a.cache.now (given_by M S a.source.now a.m.now)) (length a.free.now) in
        omega (arith, ap (λ (f : List Bool). length f) left.flags, last, first, count, ap (λ (f : MutBor (List Bool)). length f.now) over.spared)

    pub edits_left : EditsOnly M S source refusal m.now m' cache.now cache' free.now free'
    edits_left = record {
      reads = reads_left over outside left;
      loses = loses_left over outside left;
      fills = fills_left over outside left;
      size = size;
      ready = ready_left over outside left;
      clean = clean_left over outside left;
    }

    -- what was made
    pub made : (edit : List Entry → List Entry) → (Trusted b → (height : ℕ) → IsTable (step_of a) height → HasTable (step_of b) (edit (table_of (step_of a).images height)))
        → EditsTable M S source m.now m' cache.now cache' free.now free' edit
    made edit makes = record {
      makes = λ t height table.
          subst (HasTable after) (ap (λ (p : List (List ℕ)). edit (table_of p height)) images_first)
          (same_entries (step_of b) after (edit (table_of (step_of a).images height)) images_last left.flags
          (makes (trusted_b t) height (same_table before (step_of a) height images_first flags_first table)));
    }

    pub made_left : {T F : Type 0} (r : Result T F) (edit : List Entry → List Entry)
        → OnOk r (Trusted b → (height : ℕ) → IsTable (step_of a) height → HasTable (step_of b) (edit (table_of (step_of a).images height)))
        → OnOk r (EditsTable M S source m.now m' cache.now cache' free.now free' edit)
    made_left (Err fault) edit makes = tt
    made_left (Ok x) edit makes = made edit makes

    -- what was made, by what is answered
    pub made_so : {X F : Type 0} (edit : X → List Entry → List Entry) (r : Result X F) → IfOk r (λ x. Trusted b → (height : ℕ) → IsTable (step_of a) height → HasTable (step_of b) (edit x (table_of (step_of a).images height)))
        → IfOk r (λ x. EditsTable M S source m.now m' cache.now cache' free.now free' (edit x))
    made_so edit (Err fault) makes = tt
    made_so edit (Ok x) makes = made (edit x) makes

    sets_left : {F : Type 0} (r : Result Key F) (name : List ℕ) (keep : ℕ) → IfOk r (λ key. Trusted b → (height : ℕ) → IsTable (step_of a) height → SetsKeep (step_of a) (step_of b) name keep key height)
        → IfOk r (SetsKeepIn M S source m.now m' cache.now cache' free.now free' name keep)
    sets_left (Err fault) name keep makes = tt
    sets_left (Ok key) name keep makes = record {
      sets = λ t height table.
          let one = makes (trusted_b t) height (same_table before (step_of a) height images_first flags_first table) in
          record {
            entry = one.entry;
            highest = ap (λ (p : List (List ℕ)). highest_entry name (table_of p height)) (sym images_first) ∙ one.highest;
            key_is = one.key_is;
            set = subst (HasTable after) (ap (λ (p : List (List ℕ)). entries_with_keep one.entry.key keep (table_of p height)) images_first)
                (same_entries (step_of b) after (entries_with_keep one.entry.key keep (table_of (step_of a).images height)) images_last left.flags one.set);
          };
    }

    one_left : {T F : Type 0} (r : Result T F) → IfOk r (λ x. ChangesOne (step_of a) (step_of b)) → IfOk r (λ x. DirtiesOne (length free.now) cache.now cache')
    one_left (Err fault) one = tt
    one_left (Ok x) one = record {
      page = one.page;
      there = omega (arith, one.there, image_count (newest_bytes a.cache.now (given_by M S a.source.now a.m.now)) (length a.free.now), ap (λ (f : MutBor (List Bool)). length f.now) over.spared);
      changed = left.pins.dirty ∙ one.changed ∙ ap (λ (x : MutBor CacheValue). with_one x.now.dirty one.page) over.cached;
    }

    pub gives_left : {F : Type 0} (r : Result Key F) (name : List ℕ) (keep : ℕ) → IfOk r (GivesKeep (Trusted b) (step_of a) (step_of b) name keep)
        → IfOk r (GivesKeepIn M S source m.now m' cache.now cache' free.now free' name keep)
    gives_left (Err fault) name keep gives = tt
    gives_left {F = F} (Ok key) name keep gives = record { name_is = gives.name_is; one = one_left {T = Key} {F = F} (Ok key) gives.one; set = sets_left {F = F} (Ok key) name keep gives.set }

    -- how many more are dirty
    pub changes_left : (more : ℕ) → 96 - length a.cache.now.dirty ≤ 96 - length b.cache.now.dirty + more → DirtiesAtMost more cache.now cache'
    changes_left more fewer = record { few = omega (arith, fewer, ap (λ (x : MutBor CacheValue). length x.now.dirty) over.cached, ap (λ (d : List ℕ). length d) left.pins.dirty) }

    -- where nothing was changed all stays
    pub stays_in : ChangesNone (Trusted b) (step_of a) (step_of b) → StaysInCache M S source m.now m' cache.now cache' free.now free'
    stays_in none = record {
      dirty = left.pins.dirty ∙ none.changed ∙ ap (λ (x : MutBor CacheValue). x.now.dirty) over.cached;
      same_flags = left.flags ∙ none.spares ∙ flags_first;
      images = λ t. images_last ∙ none.images (trusted_b t) ∙ images_first;
    }

    pub stays_left : {T F : Type 0} (r : Result T F) → OnErr r (ChangesNone (Trusted b) (step_of a) (step_of b)) → OnErr r (StaysInCache M S source m.now m' cache.now cache' free.now free')
    stays_left (Ok x) none = tt
    stays_left (Err fault) none = stays_in none

    -- why it failed
    pub faults_left : (step_of b).home_a ≡ (step_of a).home_a → {T : Type 0} (r : Result T TreeFault) → IfErr r (λ fault. Trusted b → HasTreeCause (step_of b) (BreaksTable (step_of b).images) (BarsTable (step_of b)) fault)
        → IfErr r (FaultsEdit M S source m.now m' cache.now cache' free' home_a)
    faults_left same_home (Ok x) cause = tt
    faults_left same_home (Err fault) cause = record {
      cause = λ t.
          subst (λ (images : List (List ℕ)). FaultIn images free' home_a fault) (sym images_last)
          (subst (λ (flags : List Bool). FaultIn (step_of b).images flags home_a fault) (sym left.flags)
          (subst (λ (h : ℕ). FaultIn (step_of b).images (step_of b).spares h fault) (same_home ∙ ap (λ (s : Step). s.home_a) begins) (fault_there (step_of b) fault (cause (trusted_b t)))));
    }

    keeps_left : (step_of b).home_a ≡ (step_of a).home_a → {T : Type 0} (name : List ℕ) (r : Result T VersionFault) → IfErr r (λ fault. KeepFails (Trusted b) (step_of a) (step_of b) name fault)
        → IfErr r (FaultsKeep M S source m.now m' cache.now cache' free.now free' home_a name)
    keeps_left same_home name (Ok x) cause = tt
    keeps_left same_home {T = T} name (Err (InTable fault)) cause = faults_left same_home {T = T} (Err fault) cause
    keeps_left same_home name (Err NoSuch) cause = record {
      none = λ t. subst (λ (images : List (List ℕ)). (height : ℕ) → IsTree images height → highest_entry name (table_of images height) ≡ None) images_first (cause (trusted_b t));
    }
    keeps_left same_home name (Err VersionsUsedUp) cause = cause

    pub none_left : (step_of b).home_a ≡ (step_of a).home_a → {T : Type 0} (name : List ℕ) (r : Result T VersionFault) → IfErr r (KeepsNone (Trusted b) (step_of a) (step_of b) name)
        → IfErr r (KeepsNoneIn M S source m.now m' cache.now cache' free.now free' home_a name)
    none_left same_home name (Ok x) none = tt
    none_left same_home {T = T} name (Err fault) none = record { kept = stays_left {T = T} {F = VersionFault} (Err fault) none.kept; cause = keeps_left same_home {T = T} name (Err fault) none.cause }

    -- what holds of the table that there was
    pub of_left : (Is : List Entry → Type 0) → (Trusted b → (height : ℕ) → IsTree (step_of a).images height → Is (table_of (step_of a).images height)) → OfTableIn M S source m.now m' cache.now free.now Is
    of_left Is h t height tree = subst (λ (p : List (List ℕ)). Is (table_of p height)) images_first (h (trusted_b t) height (subst (λ (p : List (List ℕ)). IsTree p height) (sym images_first) tree))

    pub of_so : {X F : Type 0} (Is : X → List Entry → Type 0) (r : Result X F) → IfOk r (λ x. Trusted b → (height : ℕ) → IsTree (step_of a).images height → Is x (table_of (step_of a).images height))
        → IfOk r (λ x. OfTableIn M S source m.now m' cache.now free.now (Is x))
    of_so Is (Err fault) h = tt
    of_so Is (Ok x) h = of_left (Is x) h

    -- why no version was entered, whatever else may bar it
    pub refuses_by : {T : Type 0} (Untaken UsedUp Usable Untaken' UsedUp' Usable' : Type 0) → (Untaken → Untaken') → (UsedUp → UsedUp') → (Usable → Usable') → (r : Result T Refusal)
        → IfErr r (RefusesFor (Trusted b → (page : ℕ) × BarsTable (step_of b) page) Untaken UsedUp Usable (spare_count (step_of a))) → IfErr r (NoneIn M S source Untaken' UsedUp' Usable' m.now m' cache.now cache' free.now free')
    refuses_by Untaken UsedUp Usable Untaken' UsedUp' Usable' untaken used usable (Ok x) none = tt
    refuses_by Untaken UsedUp Usable Untaken' UsedUp' Usable' untaken used usable (Err why) none = record {
      cause = refuses_so (spare_count (step_of a)) (count_by (λ spare. spare) free.now) (ap spare_count begins) barred untaken used usable why none;
    }
      where
        barred : (Trusted b → (page : ℕ) × BarsTable (step_of b) page) → IsTrusted M S source m.now cache.now m' → (page : ℕ) × BarsPages (images_by M S source m' cache' (length free')) free' page
        barred h t =
            let one = h (trusted_b t) in (
              one.0,
              subst (λ (p : List (List ℕ)). BarsPages p free' one.0) (sym images_last) (subst (λ (f : List Bool). BarsPages (step_of b).images f one.0) (sym left.flags) one.1),
            )

    -- by what holds of the table that there was
    pub refuses_left : {T : Type 0} (Untaken UsedUp Usable : List Entry → Type 0) (r : Result T Refusal)
        → IfErr r (RefusesFor (Trusted b → (page : ℕ) × BarsTable (step_of b) page) (Trusted b → (height : ℕ) → IsTree (step_of a).images height → Untaken (table_of (step_of a).images height))
        (Trusted b → (height : ℕ) → IsTree (step_of a).images height → UsedUp (table_of (step_of a).images height))
        (Trusted b → (height : ℕ) → IsTree (step_of a).images height → Usable (table_of (step_of a).images height)) (spare_count (step_of a)))
        → IfErr r (NoneIn M S source (OfTableIn M S source m.now m' cache.now free.now Untaken) (OfTableIn M S source m.now m' cache.now free.now UsedUp) (OfTableIn M S source m.now m' cache.now free.now Usable) m.now m' cache.now cache' free.now free')
    refuses_left Untaken UsedUp Usable = refuses_by _ _ _ _ _ _ (of_left Untaken) (of_left UsedUp) (of_left Usable)
