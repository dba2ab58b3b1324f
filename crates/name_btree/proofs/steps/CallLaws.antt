-- Calls of the table, one after another, are those of a map.
use Rattle.std.proofs.Common.{◌≡◌, inl, inr, ℕ, ◌+◌, ◌<◌, not, Bool, true, false, List, [], ◌∷◌, ◌++◌, length, take, Option, None, refl, sym, ap, subst, ◌∙◌, arith, append_assoc, length-set, get_or}
use Rattle.std.proofs.Math.Bool.{or-true}
use Rattle.std.specs.Prelude.{◌↔◌, ◌==◌, ◌||◌, ◌-◌, ◌≤◌, Result, Ok, Err, OnOk, OnErr, IfOk, IfErr, count_by, drop, slice_set}
use Rattle.std.proofs.lemmas.Bool.{eq-eqb}
use Rattle.std.proofs.lemmas.List.{length-take-le, take_more, take_more_set, take-append-drop, take_all}
use Rattle.std.specs.List.{AllByRecursion}
use Rattle.run_table.specs.Space.{contains}
use Rattle.run_table.proofs.SectorLaws.{each_in}
use Rattle.fsd_bytes.specs.declared.refusal.Refusal.{Refusal}
use Rattle.fsd_bytes.specs.declared.refusal.Refusal.TheVariants.{NameTableFull}
use Rattle.fsd_formats.specs.declared.entry.Entry.{Entry}
use Rattle.fsd_table.specs.Table.{top, BreaksTable}
use Rattle.fsd_table.specs.Tree.{table_of, pages_of, IsTree}
use Rattle.fsd_table.proofs.VisitLaws.{one_table}
use Rattle.fsd_forest.proofs.LowLaws.{all_within}
use Rattle.name_page.specs.declared.pages.Pages.{Ghosts}
use Rattle.name_page.specs.Looks.{OnlyReaches, OnlyWalks, OnlyEdits}
use Rattle.name_page.specs.Pages.{Step, spare_count, is_spare, IsOuter, renewed, with_images, with_refusal}
use Rattle.name_page.proofs.LookLaws.{Joins, reaches_still, reaches_walks, walks_edits, edits_then}
use Rattle.name_btree.specs.declared.calls.TableCall.{TableCall}
use Rattle.name_btree.specs.declared.fault.TreeFault.{TreeFault}
use Rattle.name_btree.specs.declared.fault.TreeFault.TheVariants.{Pages, Broken}
use Rattle.name_btree.specs.Calls.{map_answer, made_of, answers_of, after_calls, Allows, AllowsAll, Permits, TakesPages, IsExcused, CarriesOut, RunsCalls, StopsAt, without_answer}
use Rattle.name_btree.specs.Fault.{IsCaused, HasTreeCause, FailsTable, FailsSpare, BarsTable, IsNoUsedTree}
use Rattle.name_btree.specs.Map.{IsTable, HasTable}
use Rattle.name_btree.proofs.steps.CauseLaws.{cause_map}
use Rattle.name_btree.proofs.finding.SearchLaws.{barred_tree}

-- ---- a table that stays

-- a table stays one where its pages stay, and the same of them are spare
pub same_table : (a b : Step) (height : ℕ) → b.images ≡ a.images → b.spares ≡ a.spares → IsTable a height → IsTable b height
same_table a b height images spares t = record {
  tree = subst (λ (p : List (List ℕ)). IsTree p height) (sym images) t.tree;
  spare = λ page low.
      ap (λ (s : List Bool). is_spare s page) spares
      ∙ t.spare page (subst (λ (p : List (List ℕ)). page < length p) images low)
      ∙ ap (λ (p : List (List ℕ)). not (contains (pages_of p height) page)) (sym images);
}

pub same_entries : (a b : Step) (height : ℕ) → b.images ≡ a.images → table_of b.images height ≡ table_of a.images height
same_entries a b height images = ap (λ (p : List (List ℕ)). table_of p height) images

-- ---- no page of a table is spare

all_from : (P : ℕ → Type 0) (xs : List ℕ) → ((p : ℕ) → contains xs p ≡ true → P p) → AllByRecursion P xs
all_from P [] h = tt
all_from P (x ∷ xs) h = (
  h x (ap (λ (b : Bool). b || contains xs x) (eq-eqb x x refl)),
  all_from P xs (λ p is. h p (ap (λ (b : Bool). (x == p) || b) is ∙ or-true (x == p))),
)

pub table_used : (s : Step) (height : ℕ) → IsTable s height → IsNoUsedTree s → ⊥
table_used s height t none =
    none height t.tree (all_from (λ page. is_spare s.spares page ≡ false) (pages_of s.images height) (λ page is.
    t.spare page (each_in (λ p. p < length s.images) (pages_of s.images height) page (all_within (height - 1) s.images top t.tree.subtree) is) ∙ ap not is))

-- ---- a fault of a table

pub excused : {D : Type 0} (P : Ghosts D) (call : TableCall) (b : D) (height : ℕ) → P.trusted b → IsTable (P.step b) height → (fault : TreeFault) → FailsTable P b fault → IsExcused (P.step b) call fault
excused P call b height t is (Broken page) h = table_used (P.step b) height is (barred_tree (P.step b) page (inl (h t)))
excused P call b height t is (Pages refusal) h = by h.1
  where
    by : IsCaused (P.step b) (λ page. P.trusted b → BarsTable (P.step b) page) refusal → IsExcused (P.step b) call (Pages refusal)
    by (inl x) = inl x
    by (inr x) = absurd (table_used (P.step b) height is (barred_tree (P.step b) x.0 (x.2 t)))

-- too few pages are spare, or a fault of the table
pub insert_excused : {D : Type 0} (P : Ghosts D) (call : TableCall) → TakesPages call → (told : Option Refusal) (a b : D) (r : Result (Unit {0}) TreeFault) → OnErr r (OnlyWalks P told a b)
    → (let free = spare_count (P.step a) in (r ≡ Err (Pages (NameTableFull free))) ↔ (free < 8)) → IfErr r (FailsSpare P (spare_count (P.step a)) b) → P.trusted b → (height : ℕ) → IsTable (P.step b) height → IfErr r (IsExcused (P.step b) call)
insert_excused P call takes told a b (Ok done) walks full h t height is = tt
insert_excused P call takes told a b (Err fault) walks full (inl h) t height is = excused P call b height t is fault h
insert_excused P call takes told a b (Err fault) walks full (inr h) t height is =
    let same : spare_count (P.step a) ≡ spare_count (P.step b) = sym (ap (λ (spares : List Bool). count_by (λ spare. spare) spares) walks.spares) in
    let few : spare_count (P.step a) < 8 = full.0 (ap (λ (f : TreeFault). Err f) h.0) in
    subst (IsExcused (P.step b) call) (sym h.0) (inr (takes, ap NameTableFull same, subst (λ (free : ℕ). free < 8) same few))

pub table_excused : {D : Type 0} (P : Ghosts D) (call : TableCall) (b : D) (r : Result (Unit {0}) TreeFault) → IfErr r (FailsTable P b) → P.trusted b → (height : ℕ) → IsTable (P.step b) height → IfErr r (IsExcused (P.step b) call)
table_excused P call b (Ok done) h t height is = tt
table_excused P call b (Err fault) h t height is = excused P call b height t is fault h

-- ---- one call, in a step of its own

-- a step begins, and the pages stay
pub record Begins {D : Type 0} (P : Ghosts D) (a mid : D) : Type 0 where
  pub spares : (P.step mid).spares ≡ (P.step a).spares
  pub stays : P.trusted mid → (P.step mid).images ≡ (P.step a).images

pub begins_renewed : {D : Type 0} (P : Ghosts D) (a mid : D) → (P.trusted mid → (P.step mid).images ≡ (P.step a).images) → P.step mid ≡ renewed (with_images (P.step mid).images (P.step a)) → Begins P a mid
begins_renewed P a mid stays is = record { spares = ap (λ (s : Step). s.spares) is; stays = stays }

-- a step that is refused
pub begins_refused : {D : Type 0} (P : Ghosts D) (a new : D) (call : TableCall) (refusal : Refusal) → (P.trusted new → (P.step new).images ≡ (P.step a).images) → P.step new ≡ with_refusal refusal (with_images (P.step new).images (P.step a)) → IsOuter refusal
    → P.trusted new → (height : ℕ) → IsTable (P.step a) height → CarriesOut (table_of (P.step a).images height) call (Err (Pages refusal)) (P.step new)
begins_refused P a new call refusal stays is cause t height table = (
  inl cause,
  record {
    height = height;
    is = same_table (P.step a) (P.step new) height (stays t) (ap (λ (s : Step). s.spares) is) table;
    table_is = same_entries (P.step a) (P.step new) height (stays t);
  },
)

module _ {D : Type 0} (P : Ghosts D) (a mid new : D) (begun : Begins P a mid) where
  same : P.trusted mid → (height : ℕ) → table_of (P.step mid).images height ≡ table_of (P.step a).images height
  same t height = same_entries (P.step a) (P.step mid) height (begun.stays t)

  kept : {refusal : Option Refusal} → OnlyWalks P refusal mid new → P.trusted new → (height : ℕ) → IsTable (P.step a) height → IsTable (P.step new) height
  kept w t height is =
      same_table (P.step mid) (P.step new) height (w.stays t) w.spares (same_table (P.step a) (P.step mid) height (begun.stays (w.trust t)) begun.spares is)

  kept_has : {refusal : Option Refusal} → OnlyWalks P refusal mid new → P.trusted new → (height : ℕ) → IsTable (P.step a) height → HasTable (P.step new) (table_of (P.step a).images height)
  kept_has w t height is = record { height = height; is = kept w t height is; table_is = same_entries (P.step mid) (P.step new) height (w.stays t) ∙ same (w.trust t) height }

  -- a look-up
  pub looks_up : {refusal : Option Refusal} (call : TableCall) → ((table : List Entry) → made_of table call ≡ table) → (r : Result (Option Entry) TreeFault) → OnlyReaches P refusal mid new
      → IfOk r (λ found. P.trusted new → (height : ℕ) → IsTree (P.step mid).images height → found ≡ map_answer (table_of (P.step mid).images height) call)
      → IfErr r (HasTreeCause (P.step new) (BreaksTable (P.step new).images) (BarsTable (P.step new)))
      → P.trusted new → (height : ℕ) → IsTable (P.step a) height → CarriesOut (table_of (P.step a).images height) call r (P.step new)
  looks_up call stays (Ok found) x ok err t height is =
      let w = reaches_walks P mid new x in
      let tree : IsTree (P.step mid).images height = (same_table (P.step a) (P.step mid) height (begun.stays (w.trust t)) begun.spares is).tree in (
        ok t height tree ∙ ap (λ (table : List Entry). map_answer table call) (same (w.trust t) height),
        subst (HasTable (P.step new)) (sym (stays (table_of (P.step a).images height))) (kept_has w t height is),
      )
  looks_up call stays (Err fault) x ok err t height is =
      let w = reaches_walks P mid new x in (
        excused P call new height t (kept w t height is) fault (cause_map (P.step new) (BreaksTable (P.step new).images) (λ page. P.trusted new → BreaksTable (P.step new).images page)
            (BarsTable (P.step new)) (λ page. P.trusted new → BarsTable (P.step new) page) (λ page x trusted. x) (λ page x trusted. x) fault err),
        kept_has w t height is,
      )

  -- a change
  pub changes_to : {refusal : Option Refusal} (call : TableCall) → ((table : List Entry) → None ≡ map_answer table call) → (r : Result (Unit {0}) TreeFault) → OnlyEdits P refusal mid new → OnErr r (OnlyWalks P refusal mid new)
      → OnOk r (P.trusted new → (height : ℕ) → IsTable (P.step mid) height → HasTable (P.step new) (made_of (table_of (P.step mid).images height) call))
      → (P.trusted new → (height : ℕ) → IsTable (P.step new) height → IfErr r (IsExcused (P.step new) call))
      → P.trusted new → (height : ℕ) → IsTable (P.step a) height → CarriesOut (table_of (P.step a).images height) call (without_answer r) (P.step new)
  changes_to call answers (Ok done) x err ok excuse t height is =
      let made = ok t height (same_table (P.step a) (P.step mid) height (begun.stays (x.trust t)) begun.spares is) in (
        answers (table_of (P.step a).images height),
        subst (λ (table : List Entry). HasTable (P.step new) (made_of table call)) (same (x.trust t) height) made,
      )
  changes_to call answers (Err fault) x err ok excuse t height is = (
    excuse t height (kept err t height is),
    kept_has err t height is,
  )

-- ---- one after another

after_more : (table : List Entry) (calls : List TableCall) (c : TableCall) → after_calls table (calls ++ c ∷ []) ≡ made_of (after_calls table calls) c
after_more table [] c = refl
after_more table (d ∷ calls) c = after_more (made_of table d) calls c

answers_more : (table : List Entry) (calls : List TableCall) (c : TableCall) → answers_of table (calls ++ c ∷ []) ≡ answers_of table calls ++ map_answer (after_calls table calls) c ∷ []
answers_more table [] c = refl
answers_more table (d ∷ calls) c = ap (λ (xs : List (Option Entry)). map_answer table d ∷ xs) (answers_more (made_of table d) calls c)

allows_at : (table : List Entry) (before : List TableCall) (c : TableCall) (behind : List TableCall) → AllowsAll table (before ++ c ∷ behind) → Allows (after_calls table before) c
allows_at table [] c behind h = h.0
allows_at table (d ∷ before) c behind h = allows_at (made_of table d) before c behind h.1

-- so many calls were made
pub record IsSoFar {D : Type 0} (P : Ghosts D) (old now : D) (calls : List TableCall) (answers : List (Option Entry)) (i : ℕ) : Type 0 where
  pub whole : length answers ≡ length calls
  pub edits : OnlyEdits P None old now
  pub runs : P.trusted now → (height : ℕ) → IsTable (P.step old) height → RunsCalls (table_of (P.step old).images height) (take i calls) (take i answers) (P.step now)

pub none_so_far : {D : Type 0} (P : Ghosts D) (a : D) (calls : List TableCall) (answers : List (Option Entry)) → P.outside None a a → length answers ≡ length calls → IsSoFar P a a calls answers 0
none_so_far P a calls answers still whole = record {
  whole = whole;
  edits = walks_edits P a a (reaches_walks P a a (reaches_still P a still));
  runs = λ t height is. record { answers_are = refl; makes = record { height = height; is = is; table_is = refl } };
}

module _ {D : Type 0} (P : Ghosts D) (old now : D) (calls : List TableCall) (answers : List (Option Entry)) (i : ℕ) (c : TableCall) (there : i < length calls) (one : get_or calls i c ≡ c) (so : IsSoFar P old now calls answers i) where
  more : take (i + 1) calls ≡ take i calls ++ c ∷ []
  more = take_more calls i c there ∙ ap (λ (d : TableCall). take i calls ++ d ∷ []) one

  parts : calls ≡ take i calls ++ c ∷ drop (i + 1) calls
  parts = sym (take-append-drop (i + 1) calls) ∙ ap (λ (xs : List TableCall). xs ++ drop (i + 1) calls) more ∙ append_assoc (take i calls) (c ∷ []) (drop (i + 1) calls)

  -- the next call is allowed
  pub next_allowed : (P.trusted old → Permits (P.step old) calls) → P.trusted now → (height : ℕ) → IsTree (P.step now).images height → Allows (table_of (P.step now).images height) c
  next_allowed permits t height tree =
      let p : Permits (P.step old) calls = permits (so.edits.trust t) in
      let table = table_of (P.step old).images p.height in
      let r : RunsCalls table (take i calls) (take i answers) (P.step now) = so.runs t p.height p.is in
      let allowed : Allows (after_calls table (take i calls)) c = allows_at table (take i calls) c (drop (i + 1) calls) (subst (AllowsAll table) parts p.allows) in
      subst (λ (xs : List Entry). Allows xs c) (sym (one_table (P.step now).images height r.makes.height tree r.makes.is.tree ∙ r.makes.table_is)) allowed

  module _ (new : D) (trust : P.trusted new → P.trusted now) where
    -- what was carried out, of the table that the calls before made
    carried : (r : Result (Option Entry) TreeFault) → (P.trusted new → (height : ℕ) → IsTable (P.step now) height → CarriesOut (table_of (P.step now).images height) c r (P.step new))
        → P.trusted new → (height : ℕ) → IsTable (P.step old) height → CarriesOut (after_calls (table_of (P.step old).images height) (take i calls)) c r (P.step new)
    carried r h t height is =
        let ran = so.runs (trust t) height is in
        subst (λ (table : List Entry). CarriesOut table c r (P.step new)) ran.makes.table_is (h t ran.makes.height ran.makes.is)

    pub one_so_far : (law : Joins P) → OnlyEdits P None now new → (answer : Option Entry) → (P.trusted new → (height : ℕ) → IsTable (P.step now) height → CarriesOut (table_of (P.step now).images height) c (Ok answer) (P.step new)) → IsSoFar P old new calls (slice_set answers i answer) (i + 1)
    one_so_far law edits answer h = record {
      whole = length-set answers i answer ∙ so.whole;
      edits = edits_then P law old now new so.edits edits;
      runs = λ t height is.
          let table = table_of (P.step old).images height in
          let did = carried (Ok answer) h t height is in
          let ran = so.runs (trust t) height is in
          record {
            answers_are =
                take_more_set answers i answer (omega (arith, there, so.whole))
                ∙ ap (λ (xs : List (Option Entry)). xs ++ answer ∷ []) ran.answers_are
                ∙ ap (λ (x : Option Entry). answers_of table (take i calls) ++ x ∷ []) did.0
                ∙ sym (answers_more table (take i calls) c)
                ∙ ap (answers_of table) (sym more);
            makes = subst (HasTable (P.step new)) (sym (after_more table (take i calls) c) ∙ ap (after_calls table) (sym more)) did.1;
          };
    }

    pub stops_here : (fault : TreeFault)
        → (P.trusted new → (height : ℕ) → IsTable (P.step now) height → CarriesOut (table_of (P.step now).images height) c (Err fault) (P.step new))
        → P.trusted new → (height : ℕ) → IsTable (P.step old) height → StopsAt (table_of (P.step old).images height) calls answers fault (P.step new)
    stops_here fault h t height is =
        let did = carried (Err fault) h t height is in
        let ran = so.runs (trust t) height is in
        let long : length (take i calls) ≡ i = length-take-le i calls (omega (arith, there)) in
        record {
          before = take i calls;
          call = c;
          behind = drop (i + 1) calls;
          parts = parts;
          ran = record { answers_are = ap (λ (n : ℕ). take n answers) long ∙ ran.answers_are; makes = did.1 };
          excuse = did.0;
        }

-- all calls were made
pub all_so_far : {D : Type 0} (P : Ghosts D) (old now : D) (calls : List TableCall) (answers : List (Option Entry)) (i : ℕ) → length calls ≤ i → IsSoFar P old now calls answers i
    → P.trusted now → (height : ℕ) → IsTable (P.step old) height → RunsCalls (table_of (P.step old).images height) calls answers (P.step now)
all_so_far P old now calls answers i all so t height is =
    let table = table_of (P.step old).images height in
    let r = so.runs t height is in
    let calls_are : take i calls ≡ calls = take_all i calls all in
    let answers_are : take i answers ≡ answers = take_all i answers (omega (arith, all, so.whole)) in
    record { answers_are = sym answers_are ∙ r.answers_are ∙ ap (answers_of table) calls_are; makes = subst (λ (xs : List TableCall). HasTable (P.step now) (after_calls table xs)) calls_are r.makes }
