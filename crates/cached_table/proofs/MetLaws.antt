-- Why the entry of a version tells a page as unsound: a look-up's fault, or a version that goes and was met.
use Rattle.std.proofs.Common.{◌≡◌, inl, inr, ℕ, Bool, List, Option, None, Result, Ok, Err, subst}
use Rattle.std.specs.Prelude.{◌⊎◌, ⊤, IfErr, OnErr}
use Rattle.std.specs.Borrow.{MutBor}
use Rattle.volume_layout.specs.Layout.{home_a}
use Rattle.sector_set.specs.Area.{Area}
use Rattle.shadow_frees.specs.Waits.{Waits}
use Rattle.sector_disk.specs.declared.machine.Machine.{Ghosts as MachineGhosts}
use Rattle.fsd_bytes.specs.declared.refusal.Refusal.{Refusal}
use Rattle.fsd_bytes.specs.declared.refusal.Refusal.TheVariants as Why
use Rattle.fsd_table.specs.Table.{BreaksTable}
use Rattle.page_cache.specs.declared.source.PageSource.{Ghosts as SourceGhosts}
use Rattle.page_cache.specs.Cache.{CacheValue}
use Rattle.name_page.specs.declared.pages.Pages.{Ghosts as PagesGhosts}
use Rattle.name_page.specs.Looks.{OnlyWalks}
use Rattle.name_page.specs.Pages.{Step}
use Rattle.name_btree.specs.declared.fault.TreeFault.{TreeFault}
use Rattle.name_btree.specs.Fault.{BarsTable, HasTreeCause, IsOnWay, ShowsCause}
use Rattle.name_btree.specs.Lookup.{IsLedTo, StandsIn}
use Rattle.table_pages.specs.Bringing.{given_by, home_in}
use Rattle.table_pages.specs.Table.{IsOver, LeavesTable, ReadsOnly, fresh_step, step_of}
use Rattle.table_pages.specs.declared.table.Table.{Table}
use Rattle.version_table.specs.Met.{found_of}
use Rattle.version_table.specs.declared.oldest.Leaving.{Leaving}
use Rattle.cached_table.specs.Entering.{AreTaken, ShowsRefusal, ShowsUnsound}
use Rattle.cached_table.specs.Looking.{refusal_in}
use Rattle.cached_table.proofs.LookLaws.{shows_fault}
use Rattle.cached_table.proofs.StayLaws.{StaysStep, met_shown, walks_stay}

-- ---- over a cache

-- A version was met between two, in a state to which pages were only reached, and from there on too.
pub record MetBy {T : Type 0} (step : T → Step) (outside : Option Refusal → T → T → Type 0) (old new : T) (g : Leaving) : Type 0 where
  pub at : T
  pub stays : StaysStep (step old) (step at)
  pub before : outside None old at
  pub after : outside None at new
  pub stands : StandsIn (step at) (found_of g)
  pub way : IsLedTo (step at) (found_of g)

-- why a place is told as unsound, by the steps of the pages and what happened outside
abbrev pub ShownBy : {T : Type 0} (step : T → Step) (outside : Option Refusal → T → T → Type 0) → Area → Waits → (home_a : ℕ) → (old new : T) → Refusal → Type 0
ShownBy step outside map w home_a old new (Why.Unsound s) =
    ((f : TreeFault) × (refusal_in home_a f ≡ Why.Unsound s) × HasTreeCause (step new) (BreaksTable (step new).images) (BarsTable (step new)) f × ShowsCause (step new) BreaksTable IsOnWay f)
    ⊎ ((g : Leaving) × MetBy step outside old new g × (s ≡ home_in home_a g.page) × (AreTaken map w g.entry.runs → ⊥))
ShownBy step outside map w home_a old new other = ⊤

-- what a refusal leaves and shows, by the steps
pub shown_steps : {D T : Type 0} (P : PagesGhosts D) (refusal : Option Refusal) (map : Area) (w : Waits) (name : List ℕ) (home_a : ℕ) (old new : D) (r : Result T Refusal) → OnErr r (OnlyWalks P refusal old new) → IfErr r (ShowsRefusal P map w name home_a old new)
    → OnErr r (StaysStep (P.step old) (P.step new)) × IfErr r (ShownBy P.step P.outside map w home_a old new)
shown_steps P refusal map w name home_a old new (Ok x) walks shown = (tt, tt)
shown_steps P refusal map w name home_a old new (Err why) walks shown = (walks_stay P old new walks, by why shown)
  where
    by : (why : Refusal) → ShowsRefusal P map w name home_a old new why → ShownBy P.step P.outside map w home_a old new why
    by (Why.Unsound s) (inl x) = inl x
    by (Why.Unsound s) (inr x) =
        let met = x.1 in
        inr (x.0, record { at = met.at; stays = walks_stay P old met.at met.before; before = met.before.outside; after = met.after.outside; stands = met.stands; way = met.way }, x.2, x.3)
    by other shown = tt

module _ {D E : Type 0} {M : MachineGhosts D} {S : SourceGhosts E} where
  module _ {refusal : Option Refusal} {m : MutBor D} {cache : MutBor CacheValue} {source : E} {free : MutBor (List Bool)} {home_a : ℕ} {a b : Table D E M S} {m' : D} {cache' : CacheValue} {free' : List Bool}
      (over : IsOver m cache source free a) (begins : step_of a ≡ fresh_step (given_by M S source m.now) cache.now free.now home_a)
      (outside : ReadsOnly refusal a b) (left : LeavesTable b m' cache' free') (map : Area) (w : Waits) where
    shown_by : StaysStep (step_of a) (step_of b) → (r : Refusal) → ShownBy step_of ReadsOnly map w home_a a b r → ShowsUnsound M S source map w m.now m' cache.now cache' free.now home_a r
    shown_by stays (Why.Unsound s) (inl x) = λ h. inl (shows_fault over begins stays outside left x.0 x.2 x.3 h s x.1)
    shown_by stays (Why.Unsound s) (inr x) = λ h.
        let met = x.1 in
        let there = met_shown m cache source free a met.at over met.stays met.before (met.after.reads.trust.honest (subst M.honest left.machine h)) (found_of x.0) met.stands met.way in
        inr (found_of x.0, there.1, there.0, x.2, x.3)
    shown_by stays other shown = tt

    pub unsound_left : {T : Type 0} → (r : Result T Refusal) → OnErr r (StaysStep (step_of a) (step_of b)) → IfErr r (ShownBy step_of ReadsOnly map w home_a a b)
        → IfErr r (ShowsUnsound M S source map w m.now m' cache.now cache' free.now home_a)
    unsound_left (Ok x) stays shown = tt
    unsound_left (Err why) stays shown = shown_by stays why shown
