-- Where nothing is found, pages that have what was reached have the leaf that lacks it, and a path reaches the leaf.
use Rattle.std.proofs.Common.{◌≡◌, ◌∙◌, ◌⊎◌, inl, inr, ℕ, ◌+◌, ◌&&◌, Bool, true, false, cond, List, [], ◌∷◌, Option, Some, None, refl, sym, ap, subst}
use Rattle.std.proofs.lemmas.Bool.{and_parts}
use Rattle.std.specs.Borrow.{MutBor}
use Rattle.std.specs.Prelude.{Err, IfErr, Ok, Result, length}
use Rattle.std.specs.Option.{MatchOption}
use Rattle.fsd_bytes.specs.declared.key.Key.{Key}
use Rattle.fsd_bytes.specs.Keys.{key_lt}
use Rattle.fsd_formats.specs.declared.entry.Entry.{Entry}
use Rattle.fsd_formats.specs.NamePage.{Leaf}
use Rattle.fsd_table.specs.declared.child.Child.{Child}
use Rattle.fsd_table.specs.Pages.{content_fits, keys_fit, not_below, page_at}
use Rattle.fsd_table.specs.Table.{visit_of}
use Rattle.fsd_files.specs.Answers.{entry_after as entry_behind}
use Rattle.name_page.specs.Cut.{AtHigh, AtLow, after_cut, is_before}
use Rattle.name_page.specs.declared.cut.Cut.TheVariants.{Named, UpTo}
use Rattle.name_page.specs.Lookups.{first_after, last_that, same_name}
use Rattle.name_page.specs.Looks.{Agrees}
use Rattle.name_page.specs.Pages.{Step}
use Rattle.name_page.proofs.SideLaws.{with_fits}
use Rattle.name_page.proofs.LookLaws.{agrees_at}
use Rattle.name_btree.specs.Lookup.{HasOtherLeft, HasRight, IsLeafBy, IsNextAfter, IsReadLeaf, ShowsAbsent, ShowsNext, ShowsNoVersion, ShowsNoneAfter}
use Rattle.name_btree.proofs.ways.ChildLaws.{between}
use Rattle.version_table.proofs.EditLaws.{with_is}
use Rattle.fsd_sound.specs.Lookups.{LacksKey, LacksLater, HasNext}
use Rattle.fsd_table.specs.Reached.{ReachesPage, BeginsWith}
use Rattle.cached_table.specs.Absent.{EndsOther, LacksName}
use Rattle.sector_disk.specs.declared.machine.Machine.{Ghosts as MachineGhosts}
use Rattle.page_cache.specs.declared.source.PageSource.{Ghosts as SourceGhosts}
use Rattle.page_cache.specs.Cache.{CacheValue}
use Rattle.table_pages.specs.Table.{IsOver, LeavesTable, Trusted, step_of}
use Rattle.table_pages.specs.declared.table.Table.{Table}
use Rattle.version_table.specs.declared.fault.VersionFault.{VersionFault}
use Rattle.version_table.specs.declared.fault.VersionFault.TheVariants.{NoSuch}
use Rattle.cached_table.specs.Editing.{KeepsNone}
use Rattle.cached_table.specs.Finding.{IsNextIn}
use Rattle.cached_table.specs.Looking.{HavePages}
use Rattle.cached_table.proofs.StayLaws.{agrees_spared}

-- ---- keys

-- a key at which a leaf stands lies between its bounds, as that of its only entry would
fits : (key : Key) (low high : Option Key) → AtLow (is_before (UpTo key)) low → AtHigh (is_before (UpTo key)) high → keys_fit low high (key ∷ []) ≡ true
fits key low high begins ends = with_fits (record { key = key; keep = 0; serial = record { epoch = 0; count = 0 }; length = 0; runs = [] }) low high [] begins ends refl

-- from the first key on, or from one up to a key
begins_by : (after low : Option Key) → AtLow (is_before (after_cut after)) low → MatchOption after (low ≡ None) (λ key. not_below low key ≡ true)
begins_by None None at = refl
begins_by None (Some k) at = absurd (cc at)
begins_by (Some key) low at = (and_parts (not_below low key) true ((and_parts (not_below low key && true) true (fits key low None at tt)).0)).0

-- ---- entries

pub behind_is : (after : Option Key) (entries : List Entry) → first_after after entries ≡ entry_behind after entries
behind_is None [] = refl
behind_is (Some key) [] = refl
behind_is None (e ∷ entries) = refl
behind_is (Some key) (e ∷ entries) = ap (λ (o : Option Entry). cond (key_lt key e.key) (Some e) o) (behind_is (Some key) entries)

-- ---- pages with what was reached

module _ (s : Step) (pages : List (List ℕ)) (agree : Agrees pages s) where
  -- a leaf that was read has its entries
  has_leaf : (leaf : Child) (entries : List Entry) → IsReadLeaf s leaf entries → page_at pages leaf.page ≡ Some (Leaf entries)
  has_leaf leaf entries read = agrees_at s pages leaf.page read.reached read.used agree ∙ read.has

  -- and keeps within its bounds
  leaf_fits : (leaf : Child) (entries : List Entry) → IsReadLeaf s leaf entries → content_fits leaf.low leaf.high (page_at pages leaf.page) ≡ true
  leaf_fits leaf entries read = ap (content_fits leaf.low leaf.high) (has_leaf leaf entries read) ∙ read.fits

  ends_at : {before : Key → Bool} {leaf : Child} {entries : List Entry} → IsLeafBy s before leaf entries → AtLow before leaf.low × AtHigh before leaf.high
  ends_at {before} {leaf} at = between before pages at.above leaf (at.way pages agree)

  pub lacks_key : (key : Key) → ShowsAbsent s key → ReachesPage (LacksKey key) pages
  lacks_key key x =
      let ends = ends_at x.at in (
        visit_of pages (x.at.above + 1) x.leaf,
        x.at.path pages agree,
        record {
          entries = x.entries;
          leaf = has_leaf x.leaf x.entries x.at.is_read;
          fits = leaf_fits x.leaf x.entries x.at.is_read;
          between = fits key x.leaf.low x.leaf.high ends.0 ends.1;
          none = sym (with_is key x.entries) ∙ x.none;
        },
      )

  pub lacks_later : (after : Option Key) → ShowsNoneAfter s after → ReachesPage (LacksLater after) pages
  lacks_later after x = (
    visit_of pages (x.at.above + 1) x.leaf,
    x.at.path pages agree,
    record {
      entries = x.entries;
      leaf = has_leaf x.leaf x.entries x.at.is_read;
      fits = leaf_fits x.leaf x.entries x.at.is_read;
      last = x.last;
      begins = begins_by after x.leaf.low (ends_at x.at).0;
      none = sym (behind_is after x.entries) ∙ x.none;
    },
  )

  -- the leaf behind one begins with the entry
  begins_with : (depth : ℕ) (leaf : Child) (e : Entry) → HasRight s leaf e → ReachesPage (BeginsWith e (visit_of pages depth leaf)) pages
  begins_with depth leaf e x = (
    visit_of pages x.depth x.right,
    x.path pages agree,
    record { rest = x.rest; leaf = has_leaf x.right _ x.is_read; fits = leaf_fits x.right _ x.is_read; beside = x.beside },
  )

  firsts : (depth : ℕ) (leaf : Child) (e : Entry) (o : Option Entry) → MatchOption o (HasRight s leaf e) (λ x. x ≡ e) → MatchOption o (ReachesPage (BeginsWith e (visit_of pages depth leaf)) pages) (λ x. x ≡ e)
  firsts depth leaf e None right = begins_with depth leaf e right
  firsts depth leaf e (Some x) same = same

  has_next : (after : Option Key) (e : Entry) → ShowsNext s after e → ReachesPage (HasNext after e pages) pages
  has_next after e x = (
    visit_of pages (x.at.above + 1) x.leaf,
    x.at.path pages agree,
    record {
      entries = x.entries;
      leaf = has_leaf x.leaf x.entries x.at.is_read;
      fits = leaf_fits x.leaf x.entries x.at.is_read;
      begins = begins_by after x.leaf.low (ends_at x.at).0;
      first = subst (λ (o : Option Entry). MatchOption o (ReachesPage (BeginsWith e (visit_of pages (x.at.above + 1) x.leaf)) pages) (λ y. y ≡ e)) (behind_is after x.entries) (firsts (x.at.above + 1) x.leaf e (first_after after x.entries) x.first);
    },
  )

  -- the leaf before one ends with another name
  ends_other : (name : List ℕ) (depth : ℕ) (leaf : Child) → HasOtherLeft s name leaf → ReachesPage (EndsOther name (visit_of pages depth leaf)) pages
  ends_other name depth leaf x = (
    visit_of pages x.depth x.left,
    x.path pages agree,
    record { rest = x.rest; last = x.last; leaf = has_leaf x.left _ x.is_read; fits = leaf_fits x.left _ x.is_read; beside = x.beside; other = x.other },
  )

  others : (name : List ℕ) (depth : ℕ) (leaf : Child) (o : Option Entry) → MatchOption o ((leaf.low ≡ None) ⊎ HasOtherLeft s name leaf) (λ e. same_name e.key.name name ≡ false)
      → MatchOption o ((leaf.low ≡ None) ⊎ ReachesPage (EndsOther name (visit_of pages depth leaf)) pages) (λ e. same_name e.key.name name ≡ false)
  others name depth leaf None (inl first) = inl first
  others name depth leaf None (inr left) = inr (ends_other name depth leaf left)
  others name depth leaf (Some e) other = other

  pub lacks_name : (name : List ℕ) → ShowsNoVersion s name → ReachesPage (LacksName name pages) pages
  lacks_name name x =
      let ends = ends_at x.at in (
        visit_of pages (x.at.above + 1) x.leaf,
        x.at.path pages agree,
        record {
          entries = x.entries;
          leaf = has_leaf x.leaf x.entries x.at.is_read;
          fits = leaf_fits x.leaf x.entries x.at.is_read;
          low = ends.0;
          high = ends.1;
          other = others name (x.at.above + 1) x.leaf (last_that (λ e. is_before (Named name) e.key) x.entries) x.other;
        },
      )

-- the entry that comes next, in all pages with what a cache has
pub next_in : (s : Step) (c : CacheValue) (count : ℕ) (after : Option Key) (e : Entry) → ((pages : List (List ℕ)) → HavePages c count pages → Agrees pages s) → IsNextAfter s after e → IsNextIn c count after e
next_in s c count after e agree x = record { later = x.later; next = λ pages have. has_next s pages (agree pages have) after e x.next }

-- ---- a table over a cache, where a keep is to be set

module _ {D E : Type 0} {M : MachineGhosts D} {S : SourceGhosts E} {m : MutBor D} {cache : MutBor CacheValue} {source : E} {free : MutBor (List Bool)} {a b : Table D E M S} {m' : D} {cache' : CacheValue} {free' : List Bool}
    (over : IsOver m cache source free a) (left : LeavesTable b m' cache' free') where
  pub keep_absent : (name : List ℕ) (r : Result Key VersionFault) → IfErr r (KeepsNone (Trusted b) (step_of a) (step_of b) name) → (r ≡ Err NoSuch → ShowsNoVersion (step_of b) name)
      → r ≡ Err NoSuch → (pages : List (List ℕ)) → HavePages cache' (length free.now) pages → ReachesPage (LacksName name pages) pages
  keep_absent name (Ok key) none shown told pages have = absurd (cc told)
  keep_absent name (Err f) none shown told pages have =
      let before : HavePages b.cache.now (length free.now) pages = record { size = have.size; same = λ page bytes lt is. have.same page bytes lt (left.pins.bytes page ∙ is) } in
      lacks_name (step_of b) pages (agrees_spared m cache source free a b over none.kept.spares pages before) name (shown told)
