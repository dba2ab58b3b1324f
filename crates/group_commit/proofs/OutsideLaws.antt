-- What a force keeps, whatever the disk shows: the roots, the map and the data.
use Rattle.std.proofs.Common.{◌≡◌, ◌⊎◌, inl, inr, ⊎_elim, ℕ, ◌+◌, ◌*◌, ◌<◌, ◌≤◌, List, length, refl, sym, subst, ◌∙◌, arith}
use Rattle.std.proofs.lemmas.Bool.{cases_lt}
use Rattle.volume_layout.specs.declared.layout.Layout.{Layout}
use Rattle.volume_layout.specs.Layout.{home_a, home_b, InLog}
use Rattle.volume_layout.specs.Kinds.{gap_of}
use Rattle.fsd_formats.specs.declared.anchor.Anchor.{Anchor}
use Rattle.fsd_formats.specs.Anchors.{anchor_bytes}
use Rattle.fsd_formats.specs.Record.{record_len}
use Rattle.sector_disk.specs.Image.{Windows, open_damage, sector_at, stand}
use Rattle.sector_disk.specs.Machine.{Holds, Moment, Wears}
use Rattle.sector_disk.proofs.Wear.{length-stand, stand_other, worn_twice}
use Rattle.fsd_files.specs.Disk.{Image, SectorWorn}
use Rattle.fsd_log.specs.Laid.{laid_bytes}
use Rattle.fsd_log.specs.Scan.{place_of, spot_for}
use Rattle.fsd_log.proofs.PlaceLaws.{place_from}
use Rattle.fsd_sound.proofs.WritesLaws.{beside}
use Rattle.log_thirds.specs.Anchoring.{AnchorsIn}
use Rattle.log_thirds.specs.Append.{StandsInPart, stamp_now}
use Rattle.log_thirds.specs.LogValue.{LogValue}
use Rattle.log_thirds.proofs.MomentLaws.{MayAppend, write_inside}
use Rattle.twin_home.specs.Home.{HomesIn}
use Rattle.group_commit.specs.Force.{KeepsOutside, MayWrite}

-- ---- nothing, and one after the other

pub outside_none : (l : Layout) (now : Moment) → KeepsOutside l now now
outside_none l now = record { size = refl; others = λ s out. inl refl }

pub outside_read : (l : Layout) (old new : Moment) → Wears old new → KeepsOutside l old new
outside_read l old new wears = record { size = wears.image.size; others = λ s out. wears.image.each s }

pub outside_then : (l : Layout) (a b c : Moment) → b.windows ≡ a.windows → KeepsOutside l a b → KeepsOutside l b c → KeepsOutside l a c
outside_then l a b c windows first second = record {
  size = second.size ∙ first.size;
  others = λ s out. worn_twice (open_damage a.windows s) (sector_at a.image s) (sector_at b.image s) (sector_at c.image s) (first.others s out)
      (subst (λ (w : Windows). SectorWorn (open_damage w s) (sector_at b.image s) (sector_at c.image s)) windows (second.others s out));
}

-- ---- a write

module _ (l : Layout) (old new : Moment) where
  -- of an image that is the same elsewhere
  outside_held : (image : Image) → Holds old image new → length image ≡ length old.image → ((s : ℕ) → (MayWrite l s → ⊥) → sector_at image s ≡ sector_at old.image s) → KeepsOutside l old new
  outside_held image holds size same = record {
    size = holds.worn.size ∙ size;
    others = λ s out. ⊎_elim (λ is. inl (is ∙ same s out)) (λ hurt. inr hurt) (holds.worn.each s);
  }

  -- of two sectors, each once at most
  outside_two : (a b : ℕ) → MayWrite l a → MayWrite l b → (bytes : List ℕ) (j k : ℕ) → j ≤ 1 → k ≤ 1 → Holds old (stand (stand old.image a bytes j) b bytes k) new → KeepsOutside l old new
  outside_two a b may_a may_b bytes j k once twice holds =
      outside_held (stand (stand old.image a bytes j) b bytes k) holds (length-stand (stand old.image a bytes j) b bytes k ∙ length-stand old.image a bytes j)
      (λ s out. stand_other (stand old.image a bytes j) b bytes k s (beside s b k (λ is. out (subst (MayWrite l) (sym is) may_b)) twice) ∙ stand_other old.image a bytes j s (beside s a j (λ is. out (subst (MayWrite l) (sym is) may_a)) once))

  outside_homes : (page : ℕ) → page < l.pages → (bytes : List ℕ) → HomesIn l page bytes old new → KeepsOutside l old new
  outside_homes page lt bytes homes =
      outside_two (home_a l page) (home_b l page) (inr (inr (page, lt, inl refl))) (inr (inr (page, lt, inr refl))) bytes homes.first homes.second homes.once (omega (arith, homes.in_order, homes.once)) homes.holds

  pub outside_anchors : (a : Anchor) → AnchorsIn a old new → KeepsOutside l old new
  outside_anchors a anchors =
      outside_two 8 12 (inr (inl (inl refl))) (inr (inl (inr refl))) (anchor_bytes a) anchors.first anchors.copy anchors.once (omega (arith, anchors.in_order, anchors.once)) anchors.holds

-- a page that was read is written home
pub outside_homed : (l : Layout) (old read new : Moment) → Wears old read → (page : ℕ) → page < l.pages → (bytes : List ℕ) → HomesIn l page bytes read new → KeepsOutside l old new
outside_homed l old read new wears page lt bytes homes = outside_then l old read new wears.windows (outside_read l old read wears) (outside_homes l read new page lt bytes homes)

-- ---- a record

module _ (log : LogValue) (pages images : List ℕ) (old new : Moment) (may : MayAppend log pages images (length old.image)) where
  abbrev pub place : ℕ
  place = place_of log.layout log.anchor.third (spot_for log.layout (length pages) log.head).at

  inside : place + record_len (gap_of log.layout) (length pages) ≤ 16 + 3 * log.layout.third
  inside = write_inside log pages images (length old.image) may

  in_log : (s stood : ℕ) → stood ≤ record_len (gap_of log.layout) (length pages) → place ≤ s → s < place + stood → InLog log.layout s
  in_log s stood within from there = (omega (arith, from, place_from log.layout log.anchor.third (spot_for log.layout (length pages) log.head).at), omega (arith, there, within, inside))

  apart : (s stood : ℕ) → stood ≤ record_len (gap_of log.layout) (length pages) → (MayWrite log.layout s → ⊥) → (s < place) ⊎ (place + stood ≤ s)
  apart s stood within out = ⊎_elim (λ before. inl before)
      (λ from. inr (⊎_elim (λ there. absurd (out (inl (in_log s stood within from there)))) (λ past. past) (cases_lt s (place + stood))))
      (cases_lt s place)

  pub outside_record : StandsInPart place (laid_bytes (gap_of log.layout) (stamp_now log) pages images) (record_len (gap_of log.layout) (length pages)) old new → KeepsOutside log.layout old new
  outside_record part =
      let bytes = laid_bytes (gap_of log.layout) (stamp_now log) pages images in
      outside_held log.layout old new (stand old.image place bytes part.stood) part.holds (length-stand old.image place bytes part.stood)
      (λ s out. stand_other old.image place bytes part.stood s (apart s part.stood part.within out))
