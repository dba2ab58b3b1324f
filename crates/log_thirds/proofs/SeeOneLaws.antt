-- One sector that was read, over an image as it was seen before; and the two anchors.
use Rattle.std.proofs.Common.{◌≡◌, ◌≢◌, ◌⊎◌, inl, inr, ⊎_elim, ℕ, ◌≤◌, Bool, List, length, set, Option, Some, None, refl, sym, ap, subst, ◌∙◌, arith}
use Rattle.std.specs.Prelude.{IsTrue}
use Rattle.std.proofs.lemmas.Bool.{cases_eq, cases_lt}
use Rattle.std.proofs.lemmas.List.{length-set, get_or_past, get_or-set_same, get_or-set_other}
use Rattle.sector_disk.specs.declared.sector.Sector.{Sector}
use Rattle.sector_disk.specs.declared.sector.Sector.TheVariants.{Whole, Damaged}
use Rattle.sector_disk.specs.Calls.{as_sector}
use Rattle.sector_disk.specs.Image.{sector_at, Windows, IsWorn, open_damage, bytes_of}
use Rattle.sector_disk.specs.Machine.{Moment, Wears}
use Rattle.sector_disk.proofs.Wear.{worn_trans, worn_whole, whole_of, damaged_of}
use Rattle.fsd_formats.specs.declared.anchor.Anchor.{Anchor}
use Rattle.fsd_log.specs.Scan.{anchor_in, newer_of}
use Rattle.log_thirds.specs.Disk.{reads}
use Rattle.log_thirds.specs.LogValue.{LogValue}
use Rattle.log_thirds.specs.Reading.{SeesAt}
use Rattle.log_thirds.specs.Seen.{AnchorsOn, LogOn, ScansOn, ReadsAnchor}
use Rattle.log_thirds.proofs.ReadingLaws.{bytes_back}

module _ (old new : Moment) (wears : Wears old new) (place : ℕ) (o : Option (List ℕ)) (sees : SeesAt old new place o) (j : List Sector) (jw : IsWorn (open_damage old.windows) j old.image) where
  abbrev Worn1 : ℕ → Sector → Sector → Type 0
  Worn1 s a b = (b ≡ a) ⊎ (IsTrue (open_damage old.windows s) × (b ≡ Damaged))

  whole_then : (b : List ℕ) → o ≡ Some b → sector_at old.image place ≡ Whole b
  whole_then b is = ⊎_elim (λ same. whole_of (sector_at old.image place) b (sym same ∙ is)) (λ hurt. absurd (cc (is, hurt.1))) sees.0

  past_none : length j ≤ place → (x : Option (List ℕ)) → o ≡ x → o ≡ None
  past_none past None is = is
  past_none past (Some b) is =
      let none : sector_at old.image place ≡ Damaged = get_or_past old.image place Damaged (omega (arith, jw.size, past)) in
      absurd (let stood = whole_then b is in cc (none, stood))

  with_at : sector_at (set j place (as_sector o)) place ≡ as_sector o
  with_at = elim (cases_lt place (length j)) [
    | inl inside ↦ get_or-set_same j place (as_sector o) Damaged inside
    | inr past ↦ get_or_past (set j place (as_sector o)) place Damaged (omega (arith, length-set j place (as_sector o), past)) ∙ ap as_sector (sym (past_none past o refl))
  ]

  pub with_other : (s : ℕ) → s ≢ place → sector_at (set j place (as_sector o)) s ≡ sector_at j s
  with_other s other = get_or-set_other j place s (as_sector o) Damaged other

  pub with_reads : reads (set j place (as_sector o)) place ≡ o
  with_reads = ap bytes_of with_at ∙ bytes_back o

  from_at : (x : Option (List ℕ)) → o ≡ x → Worn1 place (sector_at j place) (as_sector x)
  from_at (Some b) is = inl (sym (worn_whole (open_damage old.windows) j old.image place b jw (whole_then b is)))
  from_at None is = ⊎_elim
      (λ same. ⊎_elim (λ kept. inl (sym (sym kept ∙ damaged_of (sector_at old.image place) (sym same ∙ is)))) (λ worn. inr (worn.0, refl)) (jw.each place))
      (λ weak. inr (weak.0, refl)) sees.0

  to_at : (x : Option (List ℕ)) → o ≡ x → Worn1 place (as_sector x) (sector_at new.image place)
  to_at (Some b) is = ⊎_elim (λ same. inl (same ∙ whole_then b is)) (λ hurt. inr hurt) (wears.image.each place)
  to_at None is = inl (sees.1 is)

  pub with_from : IsWorn (open_damage old.windows) j (set j place (as_sector o))
  with_from = record {
    size = length-set j place (as_sector o);
    each = λ s. elim (cases_eq s place) [
      | inl here ↦ subst (λ (n : ℕ). Worn1 n (sector_at j n) (sector_at (set j place (as_sector o)) n)) (sym here) (subst (Worn1 place (sector_at j place)) (sym with_at) (from_at o refl))
      | inr other ↦ inl (with_other s other)
    ];
  }

  pub with_to : IsWorn (open_damage old.windows) (set j place (as_sector o)) new.image
  with_to =
      let all = worn_trans (open_damage old.windows) j old.image new.image jw wears.image in
      record {
        size = all.size ∙ sym (length-set j place (as_sector o));
        each = λ s. elim (cases_eq s place) [
          | inl here ↦ subst (λ (n : ℕ). Worn1 n (sector_at (set j place (as_sector o)) n) (sector_at new.image n)) (sym here) (subst (λ (x : Sector). Worn1 place x (sector_at new.image place)) (sym with_at) (to_at o refl))
          | inr other ↦ subst (λ (x : Sector). Worn1 s x (sector_at new.image s)) (sym (with_other s other)) (all.each s)
        ];
      }

-- the two anchors, one after the other
pub anchors_seen : (old mid new : Moment) (first copy : Option Anchor) (anchor : Option Anchor) → Wears old mid → Wears mid new → ReadsAnchor old mid 8 first → ReadsAnchor mid new 12 copy → anchor ≡ newer_of first copy
    → (j : List Sector) → IsWorn (open_damage old.windows) j old.image → AnchorsOn (open_damage old.windows) j new.image anchor
anchors_seen old mid new first copy anchor wears later one two is j jw =
    let same = wears.windows in
    let j1 : List Sector = set j 8 (as_sector one.bytes) in
    let to_mid : IsWorn (open_damage mid.windows) (set j 8 (as_sector one.bytes)) mid.image = subst (λ (w : Windows). IsWorn (open_damage w) (set j 8 (as_sector one.bytes)) mid.image) (sym same) (with_to old mid wears 8 one.bytes one.read j jw) in
    let j2 : List Sector = set j1 12 (as_sector two.bytes) in
    let from2 : IsWorn (open_damage old.windows) (set j 8 (as_sector one.bytes)) (set (set j 8 (as_sector one.bytes)) 12 (as_sector two.bytes)) = subst (λ (w : Windows). IsWorn (open_damage w) (set j 8 (as_sector one.bytes)) (set (set j 8 (as_sector one.bytes)) 12 (as_sector two.bytes))) same (with_from mid new later 12 two.bytes two.read (set j 8 (as_sector one.bytes)) to_mid) in
    let to2 : IsWorn (open_damage old.windows) (set (set j 8 (as_sector one.bytes)) 12 (as_sector two.bytes)) new.image = subst (λ (w : Windows). IsWorn (open_damage w) (set (set j 8 (as_sector one.bytes)) 12 (as_sector two.bytes)) new.image) same (with_to mid new later 12 two.bytes two.read (set j 8 (as_sector one.bytes)) to_mid) in
    let at8 : reads (set (set j 8 (as_sector one.bytes)) 12 (as_sector two.bytes)) 8 ≡ one.bytes = ap bytes_of (with_other mid new later 12 two.bytes two.read (set j 8 (as_sector one.bytes)) to_mid 8 (λ e. omega arith)) ∙ with_reads old mid wears 8 one.bytes one.read j jw in
    let at12 : reads (set (set j 8 (as_sector one.bytes)) 12 (as_sector two.bytes)) 12 ≡ two.bytes = with_reads mid new later 12 two.bytes two.read (set j 8 (as_sector one.bytes)) to_mid in
    record {
      image = set (set j 8 (as_sector one.bytes)) 12 (as_sector two.bytes);
      from = worn_trans (open_damage old.windows) j (set j 8 (as_sector one.bytes)) (set (set j 8 (as_sector one.bytes)) 12 (as_sector two.bytes)) (with_from old mid wears 8 one.bytes one.read j jw) from2;
      to = to2;
      rest = λ s a b. with_other mid new later 12 two.bytes two.read (set j 8 (as_sector one.bytes)) to_mid s b ∙ with_other old mid wears 8 one.bytes one.read j jw s a;
      is = is ∙ (λ i. newer_of (one.is i) (two.is i)) ∙ (λ i. newer_of (anchor_in (sym at8 i)) (anchor_in (sym at12 i)));
    }

-- and the scan behind them
pub log_seen : (log : LogValue) (may : ℕ → Bool) (before mid new : List Sector) (first : AnchorsOn may before mid (Some log.anchor)) → ScansOn log may first.image new → LogOn log may before new
log_seen log may before mid new first scans = record {
  image = scans.image;
  from = worn_trans may before first.image scans.image first.from scans.from;
  to = scans.to;
  head = λ s lt. scans.front s (omega arith) ∙ first.rest s (λ e. omega arith) (λ e. omega arith);
  taken =
      (let at8 : reads scans.image 8 ≡ reads first.image 8 = ap bytes_of (scans.front 8 (omega arith)) in
      let at12 : reads scans.image 12 ≡ reads first.image 12 = ap bytes_of (scans.front 12 (omega arith)) in
      λ i. newer_of (anchor_in (at8 i)) (anchor_in (at12 i))) ∙ sym first.is;
  scanned = scans.scanned;
}
