-- Where a close writes, and what stands behind it.
use Rattle.std.proofs.Common.{◌≡◌, ◌≢◌, ◌⊎◌, inl, inr, ℕ, ◌+◌, ◌*◌, ◌<◌, ◌≤◌, Bool, true, false, cond, ◌&&◌, ◌||◌, ◌==◌, List, [], length, refl, sym, ◌∙◌, ap, subst, arith}
use Rattle.std.specs.Prelude.{IsFalse, IsTrue, OnOk, Result, Ok, Err, nat_le, nat_lt}
use Rattle.std.proofs.lemmas.Bool.{and_parts, leb-true, or_from, or_parts}
use Rattle.std.proofs.lemmas.Bool.Decides.{nat_tests}
use Rattle.volume_layout.specs.declared.layout.Layout.{Layout}
use Rattle.volume_layout.specs.Layout.{data_start, is_data, map_sectors, map_start}
use Rattle.volume_layout.specs.Kinds.{gap_of}
use Rattle.fsd_formats.specs.Record.{record_len}
use Rattle.sector_disk.specs.Image.{Windows, open_damage, sector_at}
use Rattle.sector_disk.specs.Machine.{Ledger, Moment}
use Rattle.fsd_log.specs.Scan.{Placed}
use Rattle.fsd_files.specs.Disk.{Has, SectorWorn, Touches}
use Rattle.fsd_sound.specs.Mounted.{Mounted}
use Rattle.fsd_sound.specs.Sound.{EndIn, is_twin}
use Rattle.fsd_sound.specs.Writes.{force_writes, saving_writes}
use Rattle.fsd_sound.proofs.CommuteLaws.{same_or}
use Rattle.fsd_sound.proofs.LaidLaws.{has_worn}
use Rattle.fsd_sound.proofs.WindowLaws.{open_is_weak}
use Rattle.fsd_sound.proofs.WritesLaws.{data_elsewhere}
use Rattle.volume_contract.specs.Closing.{HasSaved, close_len, may_close, saves, saving_len}
use Rattle.volume_contract.specs.Ends.{Closes}
use Rattle.volume_contract.specs.Healing.{IsWholeBut, TwinsStand}
use Rattle.volume_contract.specs.State.{Ages, Known, Stands, State, enters_again, force_len, homed}
use Rattle.volume_turns.specs.declared.turns.Halt.{Halt}
use Rattle.volume_turns.specs.Once.{HasClosed}

-- ---- where

and_none : (a b : Bool) → IsFalse b → IsFalse (a && b)
and_none true b out = out
and_none false b out = refl

-- where a force doesn't write, nor the saving of a map
pub close_out : (s : State) (x : ℕ) → IsFalse (force_writes s.layout x) → IsFalse (saving_writes s.layout x) → IsFalse (may_close s x)
close_out s x force out =
    or_from (nat_lt 0 (length s.dirty) && force_writes s.layout x) (saves s && saving_writes s.layout x) (and_none (nat_lt 0 (length s.dirty)) (force_writes s.layout x) force) (and_none (saves s) (saving_writes s.layout x) out)

module _ (s : State) (clean : s.dirty ≡ []) (x : ℕ) where
  unforced : IsFalse (nat_lt 0 (length s.dirty) && force_writes s.layout x)
  unforced = ap (λ (d : List ℕ). nat_lt 0 (length d) && force_writes s.layout x) clean

  -- of a volume of which no page waits only the map is written, and the anchors
  pub clean_out : IsFalse (saving_writes s.layout x) → IsFalse (may_close s x)
  clean_out out = or_from (nat_lt 0 (length s.dirty) && force_writes s.layout x) (saves s && saving_writes s.layout x) unforced (and_none (saves s) (saving_writes s.layout x) out)

  -- or nothing
  pub unsaved_out : saves s ≡ false → IsFalse (may_close s x)
  unsaved_out none = or_from (nat_lt 0 (length s.dirty) && force_writes s.layout x) (saves s && saving_writes s.layout x) unforced (ap (λ (b : Bool). b && saving_writes s.layout x) none)

unsaved_behind : (from to s : ℕ) → 16 ≤ s → to ≤ s → IsFalse ((nat_le from s && nat_lt s to) || (s == 8) || (s == 12))
unsaved_behind from to s past behind = grind (arith, nat_tests)

unsaved_before : (from to s : ℕ) → s < from → s ≢ 8 → s ≢ 12 → IsFalse ((nat_le from s && nat_lt s to) || (s == 8) || (s == 12))
unsaved_before from to s before first second = grind (arith, nat_tests)

-- a data sector lies behind all that a close writes
pub data_out : (s : State) (l : Layout) → s.layout ≡ l → (x : ℕ) → IsTrue (is_data l x) → IsFalse (may_close s x)
data_out s l same x inside = subst (λ (y : Layout). IsTrue (is_data y x) → IsFalse (may_close s x)) same (λ within. close_out s x (force within) (saving within)) inside
  where
    from : IsTrue (is_data s.layout x) → map_start s.layout + map_sectors s.layout ≤ x
    from within = leb-true (data_start s.layout) x (and_parts (nat_le (data_start s.layout) x) (nat_lt x s.layout.sectors) within).0

    force : IsTrue (is_data s.layout x) → IsFalse (force_writes s.layout x)
    force within = (or_parts ((x == 0) || (x == 4)) (force_writes s.layout x) (data_elsewhere s.layout x (let behind = from within in omega (arith, behind)))).1

    saving : IsTrue (is_data s.layout x) → IsFalse (saving_writes s.layout x)
    saving within = unsaved_behind (map_start s.layout) (map_start s.layout + map_sectors s.layout) x (let behind = from within in omega (arith, behind)) (from within)

-- ---- what stands twice

twin_before : (l : Layout) (s : ℕ) → IsTrue (is_twin l s) → s < map_start l
twin_before l s is = grind (arith, nat_tests)

-- it is an anchor, or no map is saved there
at_anchor : (l : Layout) (s : ℕ) → IsTrue (is_twin l s) → (s ≡ 8) ⊎ ((s ≡ 12) ⊎ IsFalse (saving_writes l s))
at_anchor l s twin = elim (same_or s 8) [
  | inl first ↦ inl first
  | inr other ↦ elim (same_or s 12) [ inl second ↦ inr (inl second) | inr neither ↦ inr (inr (unsaved_before (map_start l) (map_start l + map_sectors l) s (twin_before l s twin) other neither)) ]
]

whole_then : (a b : Moment) (s : ℕ) → b.windows ≡ a.windows → IsWholeBut a s → SectorWorn (open_damage a.windows s) (sector_at a.image s) (sector_at b.image s) → IsWholeBut b s
whole_then a b s windows was worn = by was worn
  where
    open_then : IsTrue (open_damage a.windows s) → IsTrue (open_damage b.windows s)
    open_then is = subst (λ (w : Windows). IsTrue (open_damage w s)) (sym windows) is

    by : IsWholeBut a s → SectorWorn (open_damage a.windows s) (sector_at a.image s) (sector_at b.image s) → IsWholeBut b s
    by (inl whole) (inl same) = inl (whole.0, same ∙ whole.1)
    by (inr weak) (inl same) = inr (open_then weak.0, same ∙ weak.1)
    by was (inr hurt) = inr (open_then hurt.0, hurt.1)

whole_has : (now : Moment) (bytes : List ℕ) (s : ℕ) → Has (open_damage now.windows) now.image bytes s → IsWholeBut now s
whole_has now bytes s (inl is) = inl (bytes, is)
whole_has now bytes s (inr weak) = inr weak

-- it stands on behind a close
pub twins_closed : (s : State) (a b : Moment) → s.dirty ≡ [] → b.windows ≡ a.windows → Touches (may_close s) a b → (IsTrue (saves s) → HasSaved s b) → TwinsStand s.layout a → TwinsStand s.layout b
twins_closed s a b clean windows touches saved all x twin = by (saves s) refl
  where
    kept : IsFalse (may_close s x) → IsWholeBut b x
    kept out = whole_then a b x windows (all x twin) (touches.others x out)

    by : (o : Bool) → saves s ≡ o → IsWholeBut b x
    by false none = kept (unsaved_out s clean x none)
    by true some = elim (at_anchor s.layout x twin) [
      | inl first ↦ subst (λ (p : ℕ). IsWholeBut b p) (sym first) (whole_has b _ 8 (saved some).closed.first)
      | inr (inl second) ↦ subst (λ (p : ℕ). IsWholeBut b p) (sym second) (whole_has b _ 12 (saved some).closed.second)
      | inr (inr out) ↦ kept (clean_out s clean x out)
    ]

-- ---- how much

-- where no page waits a force writes nothing
pub clean_len : (s : State) → s.dirty ≡ [] → force_len s ≡ 0
clean_len s clean = ap (λ (none : Bool). cond none 0 (record_len (gap_of s.layout) (length s.dirty) + cond (enters_again s) (2 * homed s + 2) 0)) (ap (λ (x : List ℕ). length x == 0) clean)

-- and a close the map alone
pub closed_written : (s : State) → s.dirty ≡ [] → (x y z : Ledger) → y.written ≡ x.written + close_len s → z.written ≡ y.written → z.written ≡ x.written + saving_len s
closed_written s clean x y z first then = by x.written y.written z.written (force_len s) (saving_len s) first then (clean_len s clean)
  where
    by : (before closed after forced saved : ℕ) → closed ≡ before + (forced + saved) → after ≡ closed → forced ≡ 0 → after ≡ before + saved
    by before closed after forced saved sum same none = omega (arith, sum, same, none)

pub saving_few : (s t : State) → t ≡ s → saving_len t ≤ map_sectors s.layout + 2
saving_few s t same = subst (λ (x : State). saving_len x ≤ map_sectors s.layout + 2) (sym same) (by (saves s) (map_sectors s.layout + 2))
  where
    by : (o : Bool) (most : ℕ) → cond o most 0 ≤ most
    by true most = omega arith
    by false most = omega arith

-- ---- what stands

-- what is saved stands as the disk wears
saved_worn : (s : State) (a b : Moment) → Ages a b → HasSaved s a → HasSaved s b
saved_worn s a b ages x = record {
  map = λ k within. on _ _ (x.map k within);
  forced = x.forced;
  ends = x.ends;
  closed = record { first = on _ 8 x.closed.first; second = on _ 12 x.closed.second; apart = x.closed.apart };
}
  where
    on : (bytes : List ℕ) (p : ℕ) → Has (open_damage a.windows) a.image bytes p → Has (open_damage b.windows) b.image bytes p
    on bytes p has = subst (λ (w : Windows). Has (open_damage w) b.image bytes p) (sym ages.windows) (has_worn (open_damage a.windows) a.image b.image bytes p ages.image has)

-- behind a text that is said behind the close
pub has_closed : {S : Type 0} (state : S → State) (has : S → Mounted → List Placed → Type 0) (v : S) (a m b : Moment) → m.windows ≡ a.windows → Ages m b → (IsTrue (saves (state v)) → HasSaved (state v) m) → ((k : Known) → Stands state has v k a → Closes k m.image) → HasClosed state has v a b
has_closed state has v a m b windows ages saved closes = record {
  saved = λ some. saved_worn (state v) m b ages (saved some);
  tells = λ k stands. (closes k stands).tells b.image (open_is_weak m.windows k.windows m.image b.image (subst (λ (w : Windows). EndIn w k.windows) (sym windows) stands.ends) ages.image);
}

pub on_ok : {T : Type 0} (P : Type 0) (r : Result T Halt) → P → OnOk r P
on_ok P (Ok x) fact = fact
on_ok P (Err end) fact = tt
