-- A version that moves over pages: which goes first, and what is told of a result.
use Rattle.std.proofs.Common.{◌≡◌, ℕ, ◌-◌, ◌<◌, ◌≤◌, ◌^◌, Bool, List, ◌∷◌, length, take, drop, get_or, ap, ◌∙◌, sym, arith}
use Rattle.std.specs.Prelude.{Result, Ok, Err, IfErr, IfOk, OnErr, count_by}
use Rattle.std.proofs.lemmas.List.{take_all}
use Rattle.fsd_bytes.specs.declared.key.Key.{Key}
use Rattle.fsd_bytes.specs.declared.refusal.Refusal.{Refusal}
use Rattle.fsd_formats.specs.declared.entry.Entry.{Entry}
use Rattle.sector_set.specs.Area.{Area}
use Rattle.shadow_frees.specs.Waits.{Waits}
use Rattle.sector_disk.specs.declared.machine.Machine.{Ghosts as MachineGhosts}
use Rattle.page_cache.specs.declared.source.PageSource.{Ghosts as SourceGhosts}
use Rattle.page_cache.specs.Cache.{CacheValue}
use Rattle.name_page.specs.Pages.{outer_in}
use Rattle.version_table.specs.declared.oldest.Leaving.{Leaving}
use Rattle.version_table.specs.declared.planning.Plan.{Plan}
use Rattle.fsd_bytes.specs.Keys.{max_u32}
use Rattle.fsd_files.specs.Volume.{entries_at}
use Rattle.version_table.specs.Met.{entries_left}
use Rattle.version_table.specs.Moving.{IsMovePlan, leaving_by_move}
use Rattle.version_table.specs.Table.{MakesTable}
use Rattle.version_table.specs.Versions.{next_key}
use Rattle.name_page.specs.declared.pages.Pages.{Ghosts}
use Rattle.cached_table.specs.Editing.{EditsTable, StaysInCache}
use Rattle.cached_table.specs.Entering.{LosesUntaken, OfTableIn, ShowsUnsound}
use Rattle.cached_table.specs.Looking.{LooksOnly}
use Rattle.cached_table.specs.Moving.{LacksNumber, MovesAt, MovesIn, MovesNone}
use Rattle.cached_table.proofs.EnteringLaws.{NoneIn}

-- ---- the first of those that go, and the others

pub first_of : (gone : List Leaving) (moved one : Leaving) (others : List Leaving) → gone ≡ moved ∷ others → get_or gone 0 one ≡ moved
first_of gone moved one others is = ap (λ (xs : List Leaving). get_or xs 0 one) is

pub others_of : (gone : List Leaving) (moved : Leaving) (others : List Leaving) → gone ≡ moved ∷ others → take (length gone - 1) (drop 1 gone) ≡ others
others_of gone moved others is = ap (λ (xs : List Leaving). take (length xs - 1) (drop 1 xs)) is ∙ take_all (length (moved ∷ others) - 1) others (omega arith)

-- ---- what a plan tells of the table

-- the others are versions of the table
pub moved_lost : (key : Key) (name : List ℕ) (table : List Entry) (plan : Plan) (moved : Leaving) (others : List Leaving) → plan.gone.items ≡ moved ∷ others → IsMovePlan key name table plan → (keys : List Key) × (entries_left others ≡ entries_at keys table)
moved_lost key name table plan moved others goes is =
    let same : is.others ≡ others = ap (drop 1) (sym is.goes ∙ goes) in
    (leaving_by_move key name is.entry.keep table, ap entries_left (sym same) ∙ is.entries)

-- the number of its version is one
pub moved_usable : (key : Key) (name : List ℕ) (table : List Entry) (plan : Plan) → plan.key.version < 2 ^ 32 → IsMovePlan key name table plan → (next_key name table).version ≤ max_u32
moved_usable key name table plan small is = omega (arith, small, ap (λ (k : Key). k.version) is.key_is)

-- ---- what is told, of a result

pub moved_each : {D F : Type 0} {P : Ghosts D} {map : Area} {w : Waits} {key : Key} {name : List ℕ} {old new : D} {Is : Plan → Type 0} (r : Result Plan F)
    → ((plan : Plan) → MovesAt P map w key name old new plan → Is plan) → IfOk r (MovesAt P map w key name old new) → IfOk r Is
moved_each (Ok plan) is moves = is plan moves
moved_each (Err why) is moves = tt

-- and put together, in a cache
module _ {D E : Type 0} (M : MachineGhosts D) (S : SourceGhosts E) (source : E) (map : Area) (w : Waits) (key : Key) (name : List ℕ) (m m' : D) (old new : CacheValue) (free flags : List Bool) where
  pub moves_in : {F T : Type 0} (P : Ghosts T) (a b : T) (r : Result Plan F) → IfOk r (MovesAt P map w key name a b) → IfOk r (λ plan. OfTableIn M S source m m' old free (λ table. IsMovePlan key name table plan))
      → IfOk r (λ plan. 8 ≤ count_by (λ spare. spare) free) → ((edit : List Entry → List Entry) → MakesTable P a b edit → EditsTable M S source m m' old new free flags edit)
      → IfOk r (MovesIn M S source map w key name m m' old new free flags)
  moves_in P a b (Ok plan) at planned full made = record {
    name_is = at.name_is;
    moved = at.moved;
    others = at.others;
    goes = at.goes;
    of_key = at.of_key;
    planned = planned;
    taken = at.made.taken;
    full = full;
    made = made _ at.made.entered;
  }
  moves_in P a b (Err why) at planned full made = tt

  pub moves_none : {T : Type 0} (home_a : ℕ) (r : Result T Refusal) → OnErr r (StaysInCache M S source m m' old new free flags) → OnErr r (LooksOnly M S source (outer_in r) m m' old new free)
      → IfErr r (NoneIn M S source (OfTableIn M S source m m' old free (LosesUntaken map w)) (OfTableIn M S source m m' old free (LacksNumber key name)) (OfTableIn M S source m m' old free (λ table. (next_key name table).version ≤ max_u32)) m m' old new free flags)
      → IfErr r (ShowsUnsound M S source map w m m' old new free home_a)
      → IfErr r (MovesNone M S source map w key name m m' old new free flags home_a)
  moves_none home_a (Ok x) kept looks fault shown = tt
  moves_none home_a (Err why) kept looks fault shown = record { kept = kept; looks = looks; fault = fault.cause; shown = shown }
