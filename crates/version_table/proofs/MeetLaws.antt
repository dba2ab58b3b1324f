-- So many versions of a name were met, from the oldest on.
use Rattle.std.proofs.Common.{◌≡◌, ◌⊎◌, inl, inr, ℕ, zero, suc, ◌+◌, ◌-◌, ◌≤◌, ◌<◌, min, List, [], ◌∷◌, ◌++◌, length, take, Some, None, refl, sym, ap, subst, ◌∙◌, append_assoc, arith, length-append}
use Rattle.std.specs.List.{AllByRecursion}
use Rattle.std.proofs.lemmas.List.{take-append-le, take_min}
use Rattle.fsd_bytes.specs.declared.key.Key.{Key}
use Rattle.fsd_bytes.specs.Keys.{key_of}
use Rattle.fsd_formats.specs.declared.entry.Entry.{Entry}
use Rattle.fsd_table.specs.Table.{top}
use Rattle.fsd_table.specs.Tree.{IsTree, table_of}
use Rattle.fsd_table.proofs.BoundLaws.{all_append, all_weaker}
use Rattle.name_page.specs.declared.pages.Pages.{Ghosts}
use Rattle.name_page.specs.Looks.{OnlyWalks}
use Rattle.name_page.proofs.LookLaws.{Joins, reaches_still, reaches_walks, walks_then}
use Rattle.name_btree.specs.declared.lookup.FoundEntry.{FoundEntry}
use Rattle.version_table.specs.declared.oldest.Leaving.{Leaving}
use Rattle.version_table.specs.declared.oldest.Oldest.{Oldest}
use Rattle.version_table.specs.Met.{IsMetBetween, entries_left, leaving_of}
use Rattle.version_table.specs.Table.{OfTable}
use Rattle.version_table.specs.Versions.{IsFirstBehind, versions_behind, versions_of}
use Rattle.fsd_files.proofs.EachLaws.{each_taken}
use Rattle.version_table.proofs.PlanLaws.{entries_good, entries_numbered}
use Rattle.version_table.proofs.VersionLaws.{all_behind}

-- ---- in the table

pub record Begun (name : List ℕ) (oldest : Oldest) (last : Key) (i : ℕ) (table : List Entry) : Type 0 where
  pub before : List Entry
  pub parts : versions_behind (key_of name 0) table ≡ before ++ versions_behind last table
  pub long : length before ≡ i
  pub first : entries_left oldest.first.items ≡ take 2 before

take_twice : (xs ys : List Entry) → take 2 (take 2 xs ++ ys) ≡ take 2 (xs ++ ys)
take_twice [] ys = refl
take_twice (x ∷ []) ys = refl
take_twice (x ∷ y ∷ xs) ys = refl

pub map_taken : (n : ℕ) (gs : List Leaving) → entries_left (take n gs) ≡ take n (entries_left gs)
map_taken zero gs = refl
map_taken (suc n) [] = refl
map_taken (suc n) (g ∷ gs) = ap (λ (es : List Entry). g.entry ∷ es) (map_taken n gs)

map_joined : (gs : List Leaving) (g : Leaving) → entries_left (gs ++ g ∷ []) ≡ entries_left gs ++ g.entry ∷ []
map_joined [] g = refl
map_joined (h ∷ gs) g = ap (λ (es : List Entry). h.entry ∷ es) (map_joined gs g)

begun_more : (name : List ℕ) (oldest more : Oldest) (last next : Key) (i : ℕ) (f : FoundEntry) (table : List Entry) → Begun name oldest last i table → versions_behind last table ≡ f.entry ∷ versions_behind f.entry.key table
    → more.first.items ≡ take 2 (oldest.first.items ++ leaving_of f ∷ []) → next ≡ f.entry.key → Begun name more next (i + 1) table
begun_more name oldest more last next i f table h found items is = record {
  before = h.before ++ f.entry ∷ [];
  parts = h.parts ∙ ap (λ (es : List Entry). h.before ++ es) found ∙ sym (append_assoc h.before (f.entry ∷ []) (versions_behind f.entry.key table))
      ∙ ap (λ (k : Key). (h.before ++ f.entry ∷ []) ++ versions_behind k table) (sym is);
  long = length-append h.before (f.entry ∷ []) ∙ ap (λ (n : ℕ). n + 1) h.long;
  first =
      ap entries_left items ∙ map_taken 2 (oldest.first.items ++ leaving_of f ∷ []) ∙ ap (take 2) (map_joined oldest.first.items (leaving_of f))
      ∙ ap (λ (es : List Entry). take 2 (es ++ f.entry ∷ [])) h.first ∙ take_twice h.before (f.entry ∷ []);
}

-- all of them, or as many as were asked for
pub record Counts (name : List ℕ) (oldest : Oldest) (most : ℕ) (table : List Entry) : Type 0 where
  pub count : oldest.count ≡ min most (length (versions_of name table))
  pub first : entries_left oldest.first.items ≡ take (min 2 oldest.count) (versions_of name table)

begun_all : (name : List ℕ) (oldest : Oldest) (last : Key) (i most : ℕ) (table : List Entry) → versions_behind (key_of name 0) table ≡ versions_of name table → Begun name oldest last i table → oldest.count ≡ i → i ≤ most
    → (versions_behind last table ≡ []) ⊎ (most ≤ i) → Counts name oldest most table
begun_all name oldest last i most table all h count within ends =
    let whole : versions_of name table ≡ h.before ++ versions_behind last table = sym all ∙ h.parts in
    let long : length (versions_of name table) ≡ length h.before + length (versions_behind last table) = ap length whole ∙ length-append h.before (versions_behind last table) in
    record {
      count = by ends long;
      first =
          h.first ∙ sym (take_min 2 h.before) ∙ ap (λ (n : ℕ). take (min 2 n) h.before) (h.long ∙ sym count)
          ∙ sym (ap (take (min 2 oldest.count)) whole ∙ take-append-le (min 2 oldest.count) h.before (versions_behind last table) (omega (arith, h.long, count)));
    }
  where
    by : (versions_behind last table ≡ []) ⊎ (most ≤ i) → length (versions_of name table) ≡ length h.before + length (versions_behind last table) → oldest.count ≡ min most (length (versions_of name table))
    by (inl none) long = omega (arith, h.long, count, within, long, ap length none)
    by (inr enough) long = omega (arith, h.long, count, within, long, enough)

-- ---- over the pages

pub record Meets {D : Type 0} (P : Ghosts D) (name : List ℕ) (old now : D) (oldest : Oldest) (last : Key) (i most : ℕ) : Type 0 where
  pub walks : OnlyWalks P None old now
  pub named : last.name ≡ name
  pub count : oldest.count ≡ i
  pub within : i ≤ most
  pub met : AllByRecursion (IsMetBetween P name old now) oldest.first.items
  pub begun : OfTable P old now (Begun name oldest last i)

pub met_later : {D : Type 0} (P : Ghosts D) (law : Joins P) (name : List ℕ) (old now new : D) (gs : List Leaving) → OnlyWalks P None now new → AllByRecursion (IsMetBetween P name old now) gs → AllByRecursion (IsMetBetween P name old new) gs
met_later P law name old now new gs w all = all_weaker (IsMetBetween P name old now) (IsMetBetween P name old new) gs (λ g m. record {
  at = m.at;
  before = m.before;
  after = walks_then P law m.at now new m.after w;
  stands = m.stands;
  way = m.way;
  entry = m.entry;
  fits = m.fits;
  named = m.named;
}) all

pub met_earlier : {D : Type 0} (P : Ghosts D) (law : Joins P) (name other : List ℕ) (old now new : D) (g : Leaving) → other ≡ name → OnlyWalks P None old now → IsMetBetween P other now new g → IsMetBetween P name old new g
met_earlier P law name other old now new g same w m = record {
  at = m.at;
  before = walks_then P law old now m.at w m.before;
  after = m.after;
  stands = m.stands;
  way = m.way;
  entry = m.entry;
  fits = m.fits;
  named = m.named ∙ same;
}

pub of_later : {D : Type 0} (P : Ghosts D) (old now new : D) (Holds : List Entry → Type 0) → OnlyWalks P None old now → (P.trusted new → P.trusted now) → OfTable P now new Holds → OfTable P old new Holds
of_later P old now new Holds w trust h trusted height tree =
    let same : (P.step now).images ≡ (P.step old).images = w.stays (trust trusted) in
    subst (λ (pages : List (List ℕ)). Holds (table_of pages height)) same (h trusted height (subst (λ (pages : List (List ℕ)). IsTree pages height) (sym same) tree))

pub meets_none : {D : Type 0} (P : Ghosts D) (name : List ℕ) (a : D) (oldest : Oldest) (last : Key) (most : ℕ) → P.outside None a a → oldest.first.items ≡ [] → oldest.count ≡ 0 → last ≡ key_of name 0 → Meets P name a a oldest last 0 most
meets_none P name a oldest last most still items count is = record {
  walks = reaches_walks P a a (reaches_still P a still);
  named = ap (λ (k : Key). k.name) is;
  count = count;
  within = omega arith;
  met = subst (AllByRecursion (IsMetBetween P name a a)) (sym items) tt;
  begun = λ trusted height tree. record { before = []; parts = ap (λ (k : Key). versions_behind k (table_of (P.step a).images height)) (sym is); long = refl; first = ap entries_left items };
}

pub meets_more : {D : Type 0} (P : Ghosts D) (law : Joins P) (name : List ℕ) (old now new : D) (oldest more : Oldest) (last next : Key) (i most : ℕ) (f : FoundEntry) → Meets P name old now oldest last i most → OnlyWalks P None now new
    → IsMetBetween P last.name now new (leaving_of f) → OfTable P now new (λ table. IsFirstBehind last table (Some f)) → more.count ≡ oldest.count + 1 → more.first.items ≡ take 2 (oldest.first.items ++ leaving_of f ∷ []) → next ≡ f.entry.key → i < most
    → Meets P name old new more next (i + 1) most
meets_more P law name old now new oldest more last next i most f m w met found count items is lt = record {
  walks = walks_then P law old now new m.walks w;
  named = ap (λ (k : Key). k.name) is ∙ met.named ∙ m.named;
  count = count ∙ ap (λ (n : ℕ). n + 1) m.count;
  within = omega (arith, lt);
  met = subst (AllByRecursion (IsMetBetween P name old new)) (sym items) (each_taken (IsMetBetween P name old new) 2 (oldest.first.items ++ leaving_of f ∷ [])
      (all_append (IsMetBetween P name old new) oldest.first.items (leaving_of f ∷ []) (met_later P law name old now new oldest.first.items w m.met) (met_earlier P law name last.name old now new (leaving_of f) m.named m.walks met, tt)));
  begun = λ trusted height tree.
      begun_more name oldest more last next i f (table_of (P.step old).images height) (m.begun (w.trust trusted) height tree)
      (of_later P old now new (λ table. IsFirstBehind last table (Some f)) m.walks w.trust found trusted height tree) items is;
}

pub meets_all : {D : Type 0} (P : Ghosts D) (name : List ℕ) (old now new : D) (oldest : Oldest) (last : Key) (i most : ℕ) → Meets P name old now oldest last i most → (P.trusted new → P.trusted now)
    → OfTable P old new (λ table. (versions_behind last table ≡ []) ⊎ (most ≤ i)) → OfTable P old new (Counts name oldest most)
meets_all P name old now new oldest last i most m trust ends trusted height tree =
    let table = table_of (P.step old).images height in
    begun_all name oldest last i most table (all_behind name table (entries_numbered table (entries_good (height - 1) (P.step old).images top))) (m.begun (trust trusted) height tree) m.count m.within (ends trusted height tree)
