-- A version is stored: a place is found, the serial is drawn, and the version is written there.
use Rattle.std.proofs.Common.{◌≡◌, ◌⊎◌, inl, inr, ℕ, ◌≤◌, Bool, true, false, cond, ◌&&◌, List, [], ◌∷◌, length, Option, Some, None, Ok, Err, refl, sym, ap, subst, ◌∙◌, arith}
use Rattle.std.specs.Prelude.{IsFalse, is_none, not, ◌==◌}
use Rattle.std.proofs.lemmas.Bool.{or_parts}
use Rattle.fsd_bytes.specs.declared.refusal.Refusal.{Refusal}
use Rattle.fsd_bytes.specs.declared.refusal.Refusal.TheVariants as Why
use Rattle.volume_layout.specs.declared.layout.Layout.{Layout}
use Rattle.run_table.specs.declared.run.Run.{Run}
use Rattle.run_table.specs.RunTable.{sectors_of}
use Rattle.run_table.specs.Space.{contains}
use Rattle.fsd_formats.specs.declared.entry.Entry.{Entry}
use Rattle.sector_disk.specs.declared.sector.WeakRun.{WeakRun}
use Rattle.sector_disk.specs.declared.sector.Sector.{Sector}
use Rattle.sector_disk.specs.Image.{Windows, open_damage, sector_at}
use Rattle.sector_disk.specs.Machine.{Moment, Wears}
use Rattle.fsd_files.specs.Disk.{Sectors, SectorWorn, Touches}
use Rattle.fsd_files.specs.Files.{Change}
use Rattle.fsd_files.specs.Volume.{Volume, drawn, forced, forced_for_place, place_for}
use Rattle.fsd_sound.specs.Laid.{HasOwnRoots}
use Rattle.fsd_sound.specs.Sound.{IsSound, weak_of}
use Rattle.fsd_sound.proofs.MoreLaws.{sound_fewer}
use Rattle.volume_contract.specs.Order.{Disk, Draw, Force, IsDeviceIn, PassesTest, CallStep, Test, is_idle, place, with_drawn}
use Rattle.fsd_sound.specs.Writes.{force_writes}
use Rattle.volume_contract.specs.State.{GoesOn, IsForced, Known, Leaves, Stands, State, downs_for, forced_of, forces_for_place, in_place, place_in, put_writes, volume_of, LeavesSound}
use Rattle.volume_laws.specs.Placing.{EndsPlace, EndsStore, HasPlace, Places, StandsDrawn, StandsFor, Stores, drawn_known, place_steps, store_steps}
use Rattle.volume_laws.specs.State.{IsMemoryOf, state}
use Rattle.volume_laws.specs.Steps.{Went}
use Rattle.volume_laws.specs.Volume.{VolumeValue}
use Rattle.volume_laws.proofs.StepLaws.{comes_behind, comes_more, keeps_behind, keeps_more, through_more}

-- ---- the steps

module _ (s : State) (need : ℕ) where
  abbrev may : Sectors
  may = in_place (place_in s need)

  abbrev behind : List CallStep
  behind = Draw ∷ Disk may ∷ []

  pub went_place : (m : State) (runs : List Run) → HasPlace need s m runs → PassesTest (place s need) → Went (place_steps s need) s m
  went_place m runs has passes = by (forces_for_place s need) has.went
    where
      by : (b : Bool) → ((b ≡ false) × (m ≡ s)) ⊎ ((b ≡ true) × IsForced s m) → Went (Force b ∷ place s need ∷ []) s m
      by true (inl way) = absurd (cc way.0)
      by true (inr way) = (m, way.1, (passes, refl))
      by false (inl way) = (tt, (passes, way.1))
      by false (inr way) = absurd (cc way.0)

  pub stores_refused : (why : Refusal) (t : State) → Places need s t (Err why) → Stores need s t (Err why)
  stores_refused why t places = record {
    order = comes_more (place_steps s need) behind why places.order;
    state = places.state;
    kept = keeps_more (place_steps s need) behind why s t places.kept;
  }

  module _ (m : State) (runs : List Run) (places : Places need s m (Ok runs)) where
    goes : (p : Option ℕ) → GoesOn p s (with_drawn m)
    goes p = record {
      layout = places.state.layout;
      epoch = places.state.epoch;
      readers = places.state.readers;
      unfinished = places.state.unfinished;
      down = elim places.state.down [
        | inl same ↦ inl same
        | inr gone ↦ absurd (cc gone.0)
      ];
    }

    same_may : may ≡ contains (sectors_of runs)
    same_may = ap in_place places.kept.place

    pub stores_failed : (why : Refusal) → IsDeviceIn (contains (sectors_of runs)) why → Stores need s (with_drawn m) (Err why)
    stores_failed why within =
        let fails : IsDeviceIn may why = subst (λ (p : Sectors). IsDeviceIn p why) (sym same_may) within in
        record {
          order = comes_behind (place_steps s need) behind why places.order (inr (tt, inl fails));
          state = goes (downs_for why);
          kept = keeps_behind (place_steps s need) behind why s m (with_drawn m) (went_place m runs places.kept (places.order.1).0) (inl (fails, refl));
        }

    pub stores_done : (e : Entry) → e.runs ≡ runs → e.serial ≡ m.serial → Stores need s (with_drawn m) (Ok e)
    stores_done e lies has = record {
      order = through_more (place_steps s need) behind places.order (tt, (tt, tt));
      state = goes None;
      kept = record { middle = m; place = subst (HasPlace need s m) (sym lies) places.kept; serial = has; is = refl };
    }

-- ---- what a call that does nothing is

pub busy_store : (s : State) (need : ℕ) → PassesTest (place s need) → is_idle (store_steps s need) ≡ true → ⊥
busy_store s need passes idle = by (forces_for_place s need) (subst (λ (o : Option Refusal). is_idle (Force (forces_for_place s need) ∷ Test o ∷ Draw ∷ Disk (in_place (place_in s need)) ∷ []) ≡ true) passes idle)
  where
    by : (b : Bool) → is_idle (Force b ∷ Test None ∷ Draw ∷ Disk (in_place (place_in s need)) ∷ []) ≡ true → ⊥
    by true e = absurd (cc e)
    by false e = absurd (cc e)

-- ---- what is touched

module _ (may_first may_then may : Sectors) (a b left : Moment) (windows : b.windows ≡ a.windows) (more_first : (s : ℕ) → IsFalse (may s) → IsFalse (may_first s)) (more_then : (s : ℕ) → IsFalse (may s) → IsFalse (may_then s)) where
  worn_then : (p : Bool) (x y z : Sector) → SectorWorn p x y → SectorWorn p y z → SectorWorn p x z
  worn_then p x y z first (inl same) = subst (λ (u : Sector). SectorWorn p x u) (sym same) first
  worn_then p x y z first (inr gone) = inr gone

  pub touches_then : Touches may_first a b → Touches may_then b left → Touches may a left
  touches_then first second = record {
    size = second.size ∙ first.size;
    others = λ s out. worn_then (open_damage a.windows s) (sector_at a.image s) (sector_at b.image s) (sector_at left.image s)
        (first.others s (more_first s out)) (subst (λ (w : Windows). SectorWorn (open_damage w s) (sector_at b.image s) (sector_at left.image s)) windows (second.others s (more_then s out)));
  }

-- what is only read then is touched no more
pub touches_read : (may : Sectors) (a b left : Moment) → b.windows ≡ a.windows → Touches may a b → Wears b left → Touches may a left
touches_read may a b left windows first wears =
    touches_then may may may a b left windows (λ s out. out) (λ s out. out) first (record { size = wears.image.size; others = λ s out. wears.image.each s })

-- ---- what a stop leaves

-- The same disk's, with as many of its changes forced, or more.
pub record IsOn (k after : Known) : Type 0 where
  pub layout : after.mounted.volume.layout ≡ k.mounted.volume.layout
  pub windows : after.windows ≡ k.windows
  pub changes : after.changes ≡ k.changes
  pub more : forced_of k ≤ forced_of after

-- a call that goes on from there leaves no less
pub sound_on : (k after : Known) (may_then may : Sectors) (old now left : Moment) → IsOn k after → now.windows ≡ old.windows → now.said ≡ old.said → ((s : ℕ) → IsFalse (may s) → IsFalse (may_then s))
    → LeavesSound k may old now → LeavesSound after may_then now left → LeavesSound k may old left
sound_on k after may_then may old now left on windows quiet more first second =
    let l = k.mounted.volume.layout in
    let there : IsSound l k.windows k.changes (forced_of after) left.image =
    subst (λ (h : List Change). IsSound l k.windows h (forced_of after) left.image) on.changes
    (subst (λ (w : List WeakRun). IsSound l w after.changes (forced_of after) left.image) on.windows
    (subst (λ (x : Layout). IsSound x after.windows after.changes (forced_of after) left.image) on.layout second.sound)) in
    record {
      sound = sound_fewer l k.windows k.changes (forced_of k) (forced_of after) left.image on.more there;
      roots = subst (λ (w : List WeakRun). HasOwnRoots l (weak_of w) left.image) on.windows (subst (λ (x : Layout). HasOwnRoots x (weak_of after.windows) left.image) on.layout second.roots);
      windows = second.windows ∙ windows;
      said = second.said ∙ quiet;
      touches = touches_then may may_then may old now left windows (λ s out. out) more first.touches second.touches;
    }

module _ (need : ℕ) (k after : Known) where
  same_layout : (w : Volume) → (forced_for_place need w).layout ≡ w.layout
  same_layout w = by (is_none (place_for w need) && not (length w.removed == 0))
    where
      by : (b : Bool) → (cond b (forced w) w).layout ≡ w.layout
      by true = refl
      by false = refl

  fewer_wait : (w : Volume) → (forced_for_place need w).unforced ≤ w.unforced
  fewer_wait w = by (is_none (place_for w need) && not (length w.removed == 0))
    where
      by : (b : Bool) → (cond b (forced w) w).unforced ≤ w.unforced
      by true = omega arith
      by false = omega arith

  -- it is, with the layout and as many changes unforced as behind the force that a place asks for
  pub on_forced : (volume_of after).layout ≡ (forced_for_place need (volume_of k)).layout → (volume_of after).unforced ≡ (forced_for_place need (volume_of k)).unforced → after.windows ≡ k.windows → after.changes ≡ k.changes → IsOn k after
  on_forced layout wait windows changes =
      let long : length after.changes ≡ length k.changes = ap (λ (h : List Change). length h) changes in
      record {
        layout = layout ∙ same_layout (volume_of k);
        windows = windows;
        changes = changes;
        more = omega (arith, wait, long, fewer_wait (volume_of k));
      }

module _ (v : VolumeValue) (need : ℕ) where
  abbrev whole_may : Sectors
  whole_may = put_writes (state v) need

  pub out_first : (s : ℕ) → IsFalse (whole_may s) → IsFalse (force_writes v.layout s)
  out_first s out = (or_parts (force_writes v.layout s) (in_place (place_in (state v) need) s) out).0

  pub leaves_first : (old left : Moment) → Leaves state IsMemoryOf v (force_writes v.layout) old left → Leaves state IsMemoryOf v whole_may old left
  leaves_first old left leaves k stands =
      let l = leaves k stands in
      record { sound = l.sound; roots = l.roots; windows = l.windows; said = l.said; touches = record { size = l.touches.size; others = λ s out. l.touches.others s (out_first s out) } }

  -- where it is touched, whatever the disk shows
  pub touches_first : (old left : Moment) → Touches (force_writes v.layout) old left → Touches whole_may old left
  touches_first old left first = record { size = first.size; others = λ s out. first.others s (out_first s out) }

  pub touches_placed : (runs : List Run) → place_in (state v) need ≡ Some runs → (old now left : Moment) → now.windows ≡ old.windows → Touches (force_writes v.layout) old now → Touches (contains (sectors_of runs)) now left → Touches whole_may old left
  touches_placed runs lies old now left windows first second =
      touches_then (force_writes v.layout) (contains (sectors_of runs)) whole_may old now left windows out_first
      (λ s out. subst (λ (o : Option (List Run)). IsFalse (in_place o s)) lies (or_parts (force_writes v.layout s) (in_place (place_in (state v) need) s) out).1) first second

  pub touches_ready : (m : VolumeValue) (old now left : Moment) → m.layout ≡ v.layout → now.windows ≡ old.windows → Touches whole_may old now → Touches (force_writes m.layout) now left → Touches whole_may old left
  touches_ready m old now left same windows first second =
      touches_then whole_may (force_writes v.layout) whole_may old now left windows (λ s out. out) out_first first (subst (λ (l : Layout). Touches (force_writes l) now left) same second)

  module _ (m : VolumeValue) (runs : List Run) (lies : place_in (state v) need ≡ Some runs) (old now left : Moment) (windows : now.windows ≡ old.windows) (quiet : now.said ≡ old.said) where
    pub leaves_then : ((k : Known) → Stands state IsMemoryOf v k old → StandsFor need k m now) → Leaves state IsMemoryOf v (force_writes v.layout) old now → Leaves state IsMemoryOf m (contains (sectors_of runs)) now left → Leaves state IsMemoryOf v whole_may old left
    leaves_then goes first second k stands =
        let p = goes k stands in
        sound_on k p.after (contains (sectors_of runs)) whole_may old now left (on_forced need k p.after (ap (λ (w : Volume). w.layout) p.volume) (ap (λ (w : Volume). w.unforced) p.volume) p.windows p.changes) windows quiet
        (λ s out. subst (λ (o : Option (List Run)). IsFalse (in_place o s)) lies (or_parts (force_writes v.layout s) (in_place (place_in (state v) need) s) out).1) (leaves_first old now first k stands) (second p.after p.stands)

-- ---- it stands

pub on_drawn : (need : ℕ) (k : Known) (w : VolumeValue) (now : Moment) → (p : StandsDrawn need k w now) → IsOn k p.after
on_drawn need k w now p = on_forced need k p.after (ap (λ (x : Volume). x.layout) p.volume) (ap (λ (x : Volume). x.unforced) p.volume) p.windows p.changes

pub drawn_stands : (need : ℕ) (k : Known) (m w : VolumeValue) (now new : Moment) → (p : StandsFor need k m now) → Stands state IsMemoryOf w (drawn_known p.after) new → StandsDrawn need k w new
drawn_stands need k m w now new p stands = record { after = drawn_known p.after; volume = ap drawn p.volume; opened = p.opened; windows = p.windows; changes = p.changes; stands = stands }

pub ends_failed : (need : ℕ) (bytes : List ℕ) (within : Sectors) (k : Known) (new : VolumeValue) (now : Moment) (why : Refusal) → IsDeviceIn within why → StandsDrawn need k new now → EndsStore need bytes k new now (Err why)
ends_failed need bytes within k new now (Why.Device s) fails stands = inr stands
ends_failed need bytes within k new now why fails stands = absurd fails

pub ends_refused : (need : ℕ) (bytes : List ℕ) (k : Known) (new : VolumeValue) (now : Moment) (why : Refusal) → EndsPlace need k new now (Err why) → EndsStore need bytes k new now (Err why)
ends_refused need bytes k new now (Why.Device s) down = inl down
ends_refused need bytes k new now (Why.Lost a b) none = none
ends_refused need bytes k new now why stands = stands

pub same_serial : (need : ℕ) (s m : State) (runs : List Run) → HasPlace need s m runs → m.serial ≡ s.serial
same_serial need s m runs has = elim has.went [
  | inl way ↦ ap (λ (x : State). x.serial) way.1
  | inr way ↦ ap (λ (x : State). x.serial) way.1.is
]
