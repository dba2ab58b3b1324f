-- What stands twice outside the log is healed, pair after pair.
use Rattle.std.proofs.Common.{◌≡◌, ◌≢◌, inl, inr, ⊎_elim, ℕ, zero, suc, ◌+◌, ◌-◌, ◌<◌, ◌≤◌, List, [], ◌∷◌, ◌++◌, length, refl, sym, ap, subst, ◌∙◌, arith}
use Rattle.std.specs.Prelude.{IsTrue}
use Rattle.std.specs.List.{AllByRecursion, flat_map, range_with_len}
use Rattle.std.proofs.lemmas.Bool.{cases_lt}
use Rattle.std.proofs.lemmas.Grind.{flat_map-append}
use Rattle.std.proofs.lemmas.List.{set_past}
use Rattle.volume_layout.specs.declared.layout.Layout.{Layout}
use Rattle.volume_layout.specs.Layout.{home_a, home_b}
use Rattle.sector_disk.specs.declared.sector.Sector.TheVariants.{Whole}
use Rattle.sector_disk.specs.Image.{Windows, open_damage, sector_at, stand, with_sector}
use Rattle.sector_disk.specs.Machine.{Holds, Ledger, Moment, wrote}
use Rattle.sector_disk.proofs.Calm.{stand_one}
use Rattle.sector_disk.proofs.Holding.{holds_now}
use Rattle.sector_disk.proofs.Wear.{length-stand, stand_other, worn_twice}
use Rattle.fsd_files.specs.Disk.{Has, Image, SectorWorn, Sectors}
use Rattle.fsd_files.specs.Kept.{IsWhole}
use Rattle.fsd_files.specs.Scrub.{CountsNeeds, CountsTwins, ReadsDamaged}
use Rattle.fsd_files.proofs.KeptLaws.{has_on}
use Rattle.fsd_files.proofs.ScrubLaws.{counts_as, counts_then}
use Rattle.fsd_sound.specs.Homes.{HasBothHomes, HasSome}
use Rattle.fsd_sound.proofs.CommuteLaws.{same_or, with_other, with_same}
use Rattle.fsd_sound.proofs.TwinLaws.{each_twin}
use Rattle.fsd_sound.proofs.WritesLaws.{beside}
use Rattle.twin_home.specs.Heal.{Heals, Healed, Mended}
use Rattle.twin_home.specs.Twins.{CountsHomes, HealsPages, HealsTwins, HomesStand, TwinsHaveSome, first_homes}

-- ---- calls

pub wrote_more : (x : Ledger) (a b n : ℕ) → a + b ≡ n → wrote (wrote x a) b ≡ wrote x n
wrote_more x a b n is = ap (λ (k : ℕ). record { input = x.input; attaches = x.attaches; written = k; syncs = x.syncs }) (let same : x.written + a + b ≡ x.written + n = omega (arith, is) in same)

pub wrote_on : (x y z : Ledger) (a b n : ℕ) → y ≡ wrote x a → z ≡ wrote y b → a + b ≡ n → z ≡ wrote x n
wrote_on x y z a b n first second is = second ∙ ap (λ (l : Ledger). wrote l b) first ∙ wrote_more x a b n is

-- ---- the other sectors

-- a sector is as it was, or worn
abbrev pub Stays : Moment → Moment → ℕ → Type 0
Stays old new s = SectorWorn (open_damage old.windows s) (sector_at old.image s) (sector_at new.image s)

pub stays_on : (old mid new : Moment) (s : ℕ) → mid.windows ≡ old.windows → Stays old mid s → Stays mid new s → Stays old new s
stays_on old mid new s same first second = worn_twice (open_damage old.windows s) (sector_at old.image s) (sector_at mid.image s) (sector_at new.image s) first
    (subst (λ (w : Windows). SectorWorn (open_damage w s) (sector_at mid.image s) (sector_at new.image s)) same second)

stays_held : (old new : Moment) (image : Image) (s : ℕ) → Holds old image new → sector_at image s ≡ sector_at old.image s → Stays old new s
stays_held old new image s holds same = worn_twice (open_damage old.windows s) (sector_at old.image s) (sector_at image s) (sector_at new.image s) (inl same) (holds.worn.each s)

-- whatever was written is beside it
pub heals_stay : (a b : ℕ) (old new : Moment) → Heals a b old new → (s : ℕ) → s ≢ a → s ≢ b → Stays old new s
heals_stay a b old new (inl holds) s not_a not_b = stays_held old new old.image s holds refl
heals_stay a b old new (inr (inl mends)) s not_a not_b = stays_held old new (stand old.image a mends.bytes mends.part.stood) s mends.part.holds (stand_other old.image a mends.bytes mends.part.stood s (beside s a mends.part.stood not_a mends.part.within))
heals_stay a b old new (inr (inr mends)) s not_a not_b = stays_held old new (stand old.image b mends.bytes mends.part.stood) s mends.part.holds (stand_other old.image b mends.bytes mends.part.stood s (beside s b mends.part.stood not_b mends.part.within))

pub heals_windows : (a b : ℕ) (old new : Moment) → Heals a b old new → new.windows ≡ old.windows
heals_windows a b old new (inl holds) = holds.windows
heals_windows a b old new (inr (inl mends)) = mends.part.holds.windows
heals_windows a b old new (inr (inr mends)) = mends.part.holds.windows

pub heals_said : (a b : ℕ) (old new : Moment) → Heals a b old new → new.said ≡ old.said
heals_said a b old new (inl holds) = holds.said
heals_said a b old new (inr (inl mends)) = mends.part.holds.said
heals_said a b old new (inr (inr mends)) = mends.part.holds.said

pub heals_length : (a b : ℕ) (old new : Moment) → Heals a b old new → length new.image ≡ length old.image
heals_length a b old new (inl holds) = holds.worn.size
heals_length a b old new (inr (inl mends)) = mends.part.holds.worn.size ∙ length-stand old.image a mends.bytes mends.part.stood
heals_length a b old new (inr (inr mends)) = mends.part.holds.worn.size ∙ length-stand old.image b mends.bytes mends.part.stood

-- ---- pages

-- none of them yet
pub pages_none : (l : Layout) (count : ℕ) (now : Moment) → HealsPages l count now now
pages_none l zero now = holds_now now
pages_none l (suc page) now = (now, pages_none l page now, inl (holds_now now))

-- so many of them, of more
pages_more : (l : Layout) (more count most : ℕ) (old left : Moment) → more + count ≡ most → HealsPages l count old left → HealsPages l most old left
pages_more l zero count most old left is heals = subst (λ (n : ℕ). HealsPages l n old left) (let same : count ≡ most = omega (arith, is) in same) heals
pages_more l (suc more) count most old left is heals = pages_more l more (suc count) most old left (omega (arith, is)) (left, heals, inl (holds_now left))

pub pages_within : (l : Layout) (count most : ℕ) (old left : Moment) → count ≤ most → HealsPages l count old left → HealsPages l most old left
pages_within l count most old left le heals = pages_more l (most - count) count most old left (omega (arith, le)) heals

pub pages_next : (l : Layout) (page next : ℕ) (old mid left : Moment) → page + 1 ≡ next → HealsPages l page old mid → Heals (home_a l page) (home_b l page) mid left → HealsPages l next old left
pages_next l page next old mid left is before here = subst (λ (n : ℕ). HealsPages l n old left) (let same : suc page ≡ next = omega (arith, is) in same) (mid, before, here)

pub pages_windows : (l : Layout) (count : ℕ) (old left : Moment) → HealsPages l count old left → left.windows ≡ old.windows
pages_windows l zero old left holds = holds.windows
pages_windows l (suc page) old left (mid, before, here) = heals_windows (home_a l page) (home_b l page) mid left here ∙ pages_windows l page old mid before

pub pages_said : (l : Layout) (count : ℕ) (old left : Moment) → HealsPages l count old left → left.said ≡ old.said
pages_said l zero old left holds = holds.said
pages_said l (suc page) old left (mid, before, here) = heals_said (home_a l page) (home_b l page) mid left here ∙ pages_said l page old mid before

pub pages_length : (l : Layout) (count : ℕ) (old left : Moment) → HealsPages l count old left → length left.image ≡ length old.image
pages_length l zero old left holds = holds.worn.size
pages_length l (suc page) old left (mid, before, here) = heals_length (home_a l page) (home_b l page) mid left here ∙ pages_length l page old mid before

-- the sector is no home of these pages
abbrev pub IsNoHome : Layout → (count s : ℕ) → Type 0
IsNoHome l count s = (page : ℕ) → page < count → (s ≢ home_a l page) × (s ≢ home_b l page)

pub pages_stay : (l : Layout) (count : ℕ) (old left : Moment) → HealsPages l count old left → (s : ℕ) → IsNoHome l count s → Stays old left s
pages_stay l zero old left holds s none = holds.worn.each s
pages_stay l (suc page) old left (mid, before, here) s none =
    let beside = none page (omega arith) in
    stays_on old mid left s (pages_windows l page old mid before)
    (pages_stay l page old mid before s (λ p lt. none p (omega (arith, lt))))
    (heals_stay (home_a l page) (home_b l page) mid left here s beside.0 beside.1)

-- ---- what stands

-- a sector that stands does so when another is written, or it itself
some_written : (may : Sectors) (i : Image) (place : ℕ) (bytes x : List ℕ) (s : ℕ) → Has may i x s → (y : List ℕ) × Has may (with_sector i place bytes) y s
some_written may i place bytes x s has = ⊎_elim
    (λ here. ⊎_elim
    (λ room. (bytes, inl (ap (sector_at (with_sector i place bytes)) here ∙ with_same i place bytes room)))
    (λ past. (x, subst (λ (j : Image). Has may j x s) (sym (set_past i place (Whole bytes) past)) has))
    (cases_lt place (length i)))
    (λ other. (x, ⊎_elim (λ is. inl (with_other i place s bytes other ∙ is)) (λ hurt. inr (hurt.0, with_other i place s bytes other ∙ hurt.1)) has))
    (same_or s place)

some_stood : (may : Sectors) (i : Image) (place : ℕ) (bytes x : List ℕ) (s stood : ℕ) → length bytes ≡ 512 → stood ≤ 1 → Has may i x s → (y : List ℕ) × Has may (stand i place bytes stood) y s
some_stood may i place bytes x s zero long once has = (x, has)
some_stood may i place bytes x s (suc zero) long once has = subst (λ (j : Image). (y : List ℕ) × Has may j y s) (sym (stand_one i place bytes long)) (some_written may i place bytes x s has)
some_stood may i place bytes x s (suc (suc k)) long once has = absurd (omega (arith, once))

some_held : (old new : Moment) (image : Image) (s : ℕ) → Holds old image new → ((y : List ℕ) × Has (open_damage old.windows) image y s) → HasSome new s
some_held old new image s holds (y, has) = (y, subst (λ (w : Windows). Has (open_damage w) new.image y s) (sym holds.windows) (has_on (open_damage old.windows) image new.image y s (holds.worn.each s) has))

pub some_on : (a b : ℕ) (old new : Moment) → Heals a b old new → (s : ℕ) → HasSome old s → HasSome new s
some_on a b old new (inl holds) s has = some_held old new old.image s holds has
some_on a b old new (inr (inl mends)) s (x, has) = some_held old new (stand old.image a mends.bytes mends.part.stood) s mends.part.holds (some_stood (open_damage old.windows) old.image a mends.bytes x s mends.part.stood mends.long mends.part.within has)
some_on a b old new (inr (inr mends)) s (x, has) = some_held old new (stand old.image b mends.bytes mends.part.stood) s mends.part.holds (some_stood (open_damage old.windows) old.image b mends.bytes x s mends.part.stood mends.long mends.part.within has)

pub some_paged : (l : Layout) (count : ℕ) (old new : Moment) → HealsPages l count old new → (s : ℕ) → HasSome old s → HasSome new s
some_paged l zero old new holds s has = some_held old new old.image s holds has
some_paged l (suc page) old new (mid, before, here) s has = some_on (home_a l page) (home_b l page) mid new here s (some_paged l page old mid before s has)

-- both stand where one is written from the other
module _ (place twin : ℕ) (old new : Moment) (mended : Mended place twin old new) (room : place < length old.image) where
  written : Holds old (with_sector old.image place mended.bytes) new
  written = subst (λ (i : Image). Holds old i new) (stand_one old.image place mended.bytes mended.long) mended.stands

  mended_place : HasSome new place
  mended_place = some_held old new (with_sector old.image place mended.bytes) place written (mended.bytes, inl (with_same old.image place mended.bytes room))

  mended_twin : HasSome new twin
  mended_twin = some_held old new (with_sector old.image place mended.bytes) twin written (some_written (open_damage old.windows) old.image place mended.bytes mended.bytes twin (inl mended.whole))

pub healed_stand : (a b count : ℕ) (old new : Moment) → Healed a b count old new → a < length old.image → b < length old.image → HasSome new a × HasSome new b
healed_stand a b count old new (inl (none, whole_a, whole_b, holds)) room_a room_b = (
  some_held old new old.image a holds (whole_a.0, inl whole_a.1),
  some_held old new old.image b holds (whole_b.0, inl whole_b.1),
)
healed_stand a b count old new (inr (one, inl mended)) room_a room_b = (mended_place a b old new mended room_a, mended_twin a b old new mended room_a)
healed_stand a b count old new (inr (one, inr mended)) room_a room_b = (mended_twin b a old new mended room_b, mended_place b a old new mended room_b)

pub homes_next : (l : Layout) (page next : ℕ) (old new : Moment) → page + 1 ≡ next → Heals (home_a l page) (home_b l page) old new → HomesStand l page old → HasBothHomes l new page → HomesStand l next new
homes_next l page next old new is heals before here p lt = ⊎_elim
    (λ low. let both = before p low in (some_on (home_a l page) (home_b l page) old new heals (home_a l p) both.0, some_on (home_a l page) (home_b l page) old new heals (home_b l p) both.1))
    (λ past. let same : p ≡ page = omega (arith, past, lt, is) in subst (HasBothHomes l new) (sym same) here)
    (cases_lt p page)

-- ---- how many are healed

-- what was so at a later moment was so before, of a sector that is only worn
pub needs_back : (old mid : Moment) → mid.windows ≡ old.windows → (s : ℕ) → Stays old mid s → ReadsDamaged mid s → ReadsDamaged old s
needs_back old mid same s (inl stays) (inl hurt) = inl (sym stays ∙ hurt)
needs_back old mid same s (inr worn) (inl hurt) = inr worn.0
needs_back old mid same s stays (inr worn) = inr (subst (λ (w : Windows). IsTrue (open_damage w s)) same worn)

pub whole_back : (old mid : Moment) (s : ℕ) → Stays old mid s → IsWhole mid.image s → IsWhole old.image s
whole_back old mid s (inl stays) (bytes, is) = (bytes, sym stays ∙ is)
whole_back old mid s (inr worn) (bytes, is) = absurd (cc (is, worn.1))

pub pair_counts : (a b count : ℕ) (old new : Moment) → Healed a b count old new → CountsNeeds (ReadsDamaged old) (IsWhole old.image) (a ∷ b ∷ []) count
pair_counts a b count old new (inl (none, whole_a, whole_b, holds)) = inl (whole_a, inl (whole_b, none))
pair_counts a b count old new (inr (one, inl mended)) = inr (0, one, mended.hurt, inl ((mended.bytes, mended.whole), refl))
pair_counts a b count old new (inr (one, inr mended)) = inl ((mended.bytes, mended.whole), inr (0, one, mended.hurt, refl))

pub counts_back : (old mid : Moment) → mid.windows ≡ old.windows → (xs : List ℕ) (n : ℕ) → AllByRecursion (Stays old mid) xs → CountsNeeds (ReadsDamaged mid) (IsWhole mid.image) xs n → CountsNeeds (ReadsDamaged old) (IsWhole old.image) xs n
counts_back old mid same xs n all counts = counts_as (Stays old mid) (ReadsDamaged mid) (IsWhole mid.image) (ReadsDamaged old) (IsWhole old.image) (needs_back old mid same) (whole_back old mid) xs n all counts

range_more : (from n : ℕ) → range_with_len from (suc n) ≡ range_with_len from n ++ (from + n) ∷ []
range_more from zero = ap (λ (x : ℕ). x ∷ []) (let same : from ≡ from + 0 = omega arith in same)
range_more from (suc n) = ap (λ (xs : List ℕ). from ∷ xs) (range_more (from + 1) n ∙ ap (λ (x : ℕ). range_with_len (from + 1) n ++ x ∷ []) (let same : from + 1 + n ≡ from + suc n = omega arith in same))

homes_more : (l : Layout) (n : ℕ) → first_homes l (suc n) ≡ first_homes l n ++ (home_a l n ∷ home_b l n ∷ [])
homes_more l n = ap (flat_map (λ page. home_a l page ∷ home_b l page ∷ [])) (range_more 0 n ∙ ap (λ (x : ℕ). range_with_len 0 n ++ x ∷ []) (let same : 0 + n ≡ n = omega arith in same)) ∙ flat_map-append (λ page. home_a l page ∷ home_b l page ∷ []) (range_with_len 0 n) (n ∷ [])

-- with this page so many and one are counted
pub homes_counted : (l : Layout) (page next a b count : ℕ) (old mid new : Moment) → page + 1 ≡ next → page < l.pages → a + b ≡ count → HealsPages l page old mid → CountsHomes l page old a → Healed (home_a l page) (home_b l page) b mid new → CountsHomes l next old count
homes_counted l page next a b count old mid new is lt sum heals before here =
    let home : IsNoHome l page (home_a l page) = λ p low. ((λ e. omega (arith, e, low)), (λ e. omega (arith, e, low, lt))) in
    let copy : IsNoHome l page (home_b l page) = λ p low. ((λ e. omega (arith, e, low, lt)), (λ e. omega (arith, e, low))) in
    let now = counts_back old mid (pages_windows l page old mid heals) (home_a l page ∷ home_b l page ∷ []) b
    (pages_stay l page old mid heals (home_a l page) home, (pages_stay l page old mid heals (home_b l page) copy, tt))
    (pair_counts (home_a l page) (home_b l page) b mid new here) in
    let all = counts_then (ReadsDamaged old) (IsWhole old.image) (first_homes l page) (home_a l page ∷ home_b l page ∷ []) a b before now in
    subst (λ (k : ℕ). CountsHomes l next old k) sum
    (subst (λ (n : ℕ). CountsHomes l n old (a + b)) (let same : suc page ≡ next = omega (arith, is) in same)
    (subst (λ (xs : List ℕ). CountsNeeds (ReadsDamaged old) (IsWhole old.image) xs (a + b)) (sym (homes_more l page)) all))

-- ---- all that stands twice

all_homes : (l : Layout) (P : ℕ → Type 0) → ((page : ℕ) → P (home_a l page)) → ((page : ℕ) → P (home_b l page)) → (from n : ℕ) → AllByRecursion P (flat_map (λ page. home_a l page ∷ home_b l page ∷ []) (range_with_len from n))
all_homes l P a b from zero = tt
all_homes l P a b from (suc n) = (a from, (b from, all_homes l P a b (from + 1) n))

module _ (l : Layout) (old roots_at anchors_at new : Moment) (roots : Heals 0 4 old roots_at) (anchors : Heals 8 12 roots_at anchors_at) where
  windows_then : anchors_at.windows ≡ old.windows
  windows_then = heals_windows 8 12 roots_at anchors_at anchors ∙ heals_windows 0 4 old roots_at roots

  home_stays : (s : ℕ) → 16 ≤ s → Stays old anchors_at s
  home_stays s from = stays_on old roots_at anchors_at s (heals_windows 0 4 old roots_at roots)
      (heals_stay 0 4 old roots_at roots s (λ e. omega (arith, e, from)) (λ e. omega (arith, e, from)))
      (heals_stay 8 12 roots_at anchors_at anchors s (λ e. omega (arith, e, from)) (λ e. omega (arith, e, from)))

  pub twins_counted : (r a p count : ℕ) → r + a + p ≡ count → Healed 0 4 r old roots_at → Healed 8 12 a roots_at anchors_at → CountsHomes l l.pages anchors_at p → CountsTwins l old count
  twins_counted r a p count sum first second third =
      let beside : (s : ℕ) → 8 ≤ s → Stays old roots_at s = λ s low. heals_stay 0 4 old roots_at roots s (λ e. omega (arith, e, low)) (λ e. omega (arith, e, low)) in
      let of_roots = pair_counts 0 4 r old roots_at first in
      let of_anchors = counts_back old roots_at (heals_windows 0 4 old roots_at roots) (8 ∷ 12 ∷ []) a (beside 8 (omega arith), (beside 12 (omega arith), tt)) (pair_counts 8 12 a roots_at anchors_at second) in
      let of_pages = counts_back old anchors_at windows_then (first_homes l l.pages) p
      (all_homes l (Stays old anchors_at) (λ page. home_stays (home_a l page) (omega arith)) (λ page. home_stays (home_b l page) (omega arith)) 0 l.pages) third in
      let head = counts_then (ReadsDamaged old) (IsWhole old.image) (0 ∷ 4 ∷ []) (8 ∷ 12 ∷ []) r a of_roots of_anchors in
      subst (CountsTwins l old) sum (counts_then (ReadsDamaged old) (IsWhole old.image) (0 ∷ 4 ∷ 8 ∷ 12 ∷ []) (first_homes l l.pages) (r + a) p head of_pages)

  pub twins_stand : (r a : ℕ) → 16 ≤ length old.image → Healed 0 4 r old roots_at → Healed 8 12 a roots_at anchors_at → HealsPages l l.pages anchors_at new → HomesStand l l.pages new → TwinsHaveSome l new
  twins_stand r a room first second pages homes =
      let on_root : (s : ℕ) → HasSome roots_at s → HasSome new s = λ s has. some_paged l l.pages anchors_at new pages s (some_on 8 12 roots_at anchors_at anchors s has) in
      let both = healed_stand 0 4 r old roots_at first (omega (arith, room)) (omega (arith, room)) in
      let same = heals_length 0 4 old roots_at roots in
      let two = healed_stand 8 12 a roots_at anchors_at second (omega (arith, room, same)) (omega (arith, room, same)) in
      each_twin l (HasSome new) (on_root 0 both.0) (on_root 4 both.1)
      (some_paged l l.pages anchors_at new pages 8 two.0) (some_paged l l.pages anchors_at new pages 12 two.1)
      (λ page lt. (homes page lt).0) (λ page lt. (homes page lt).1)

-- ---- what a stop leaves of them

pub roots_only : (l : Layout) (old left : Moment) → Heals 0 4 old left → HealsTwins l old left
roots_only l old left roots = record { roots_at = left; anchors_at = left; roots = roots; anchors = inl (holds_now left); pages = pages_none l l.pages left }

pub anchors_only : (l : Layout) (old mid left : Moment) → Heals 0 4 old mid → Heals 8 12 mid left → HealsTwins l old left
anchors_only l old mid left roots anchors = record { roots_at = mid; anchors_at = left; roots = roots; anchors = anchors; pages = pages_none l l.pages left }
