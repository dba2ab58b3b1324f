-- What stands twice is written from its whole twin: a volume stays mounted.
use Rattle.std.proofs.Common.{◌≡◌, ◌≢◌, ◌⊎◌, inl, inr, ⊎_elim, ℕ, ◌+◌, ◌*◌, ◌<◌, ◌≤◌, List, [], ◌∷◌, length, Option, None, refl, sym, ap, subst, ◌∙◌, arith}
use Rattle.std.specs.Prelude.{IfSome, IsSome, IsTrue, option_and_then, take}
use Rattle.std.specs.List.{AllByRecursion}
use Rattle.std.proofs.lemmas.List.{length-set}
use Rattle.volume_layout.specs.declared.layout.Layout.{Layout}
use Rattle.volume_layout.specs.Layout.{map_start}
use Rattle.volume_layout.specs.Root.{root_bytes}
use Rattle.fsd_formats.specs.declared.anchor.Anchor.{Anchor}
use Rattle.fsd_formats.specs.Anchors.{anchor_bytes, read_anchor, read_closed}
use Rattle.sector_disk.specs.declared.sector.WeakRun.{WeakRun}
use Rattle.sector_disk.specs.declared.sector.Sector.{Sector}
use Rattle.sector_disk.specs.declared.sector.Sector.TheVariants.{Whole, Damaged}
use Rattle.sector_disk.specs.Image.{sector_at, with_sector}
use Rattle.fsd_log.specs.Scan.{IsLog, Walked}
use Rattle.fsd_files.specs.Disk.{Has, Image, bytes_of, in_runs}
use Rattle.fsd_files.specs.Files.{Change, after}
use Rattle.fsd_sound.specs.Anchors.{anchor_at, EachAnchor}
use Rattle.fsd_sound.specs.Saved.{IsOpen, closed_at}
use Rattle.fsd_sound.proofs.SavedLaws.{spelled_open}
use Rattle.fsd_sound.specs.Homes.{AreTwins}
use Rattle.fsd_sound.specs.Laid.{HasOwnLog}
use Rattle.fsd_sound.specs.Mounted.{IsMounted, Mounted, SameData}
use Rattle.fsd_sound.specs.Sound.{ShowsPages, is_twin, weak_of}
use Rattle.fsd_sound.specs.Windows.{IsNarrow}
use Rattle.fsd_files.proofs.WaitLaws.{open_in_area}
use Rattle.fsd_sound.proofs.AnchorMendLaws.{all_laid_log, anchor_shows}
use Rattle.fsd_sound.proofs.CommuteLaws.{same_or, with_other, with_same}
use Rattle.fsd_sound.proofs.FrontLaws.{front_shows}
use Rattle.fsd_sound.proofs.LogPlaces.{IsRecord, SameLog, same_tape, scan_records}
use Rattle.fsd_sound.proofs.MendLaws.{mended_shows, rooted_shows}
use Rattle.fsd_sound.proofs.MountedLaws.{data_behind, describes_data}
use Rattle.fsd_sound.proofs.OpenLaws.{open_worn}
use Rattle.fsd_sound.proofs.RenewLaws.{AreAnchorPlaces}
use Rattle.fsd_sound.proofs.SectorFacts.{has_bytes, whole_or_damaged}

-- the two roots, in either order
abbrev pub AreRootPlaces : ℕ → ℕ → Type 0
AreRootPlaces s t = ((s ≡ 0) × (t ≡ 4)) ⊎ ((s ≡ 4) × (t ≡ 0))

-- the two copies of the root, of the anchor, or of a page at home, in either order
abbrev pub ArePair : Layout → (s t : ℕ) → Type 0
ArePair l s t = AreRootPlaces s t ⊎ (AreAnchorPlaces s t ⊎ ((page : ℕ) × (page < l.pages) × AreTwins l page s t))

module _ (m : Mounted) (windows : List WeakRun) (narrow : IsNarrow (weak_of windows)) (h : List Change) (f : ℕ) (i : Image) (is : IsMounted m windows h f i) (s t : ℕ) (pair : ArePair m.volume.layout s t) (bytes : List ℕ) (whole : sector_at i t ≡ Whole bytes) where
  abbrev l : Layout
  l = m.volume.layout

  shows : ShowsPages m.volume.layout windows (is.disk ∷ []) i
  shows = is.over.shows

  in_front : (p q : ℕ) → ArePair m.volume.layout p q → p < map_start m.volume.layout
  in_front p q (inl (inl r)) = omega (arith, r.0)
  in_front p q (inl (inr r)) = omega (arith, r.0)
  in_front p q (inr (inl (inl a))) = omega (arith, a.0)
  in_front p q (inr (inl (inr a))) = omega (arith, a.0)
  in_front p q (inr (inr (page, lt, inl o))) = omega (arith, lt, o.0)
  in_front p q (inr (inr (page, lt, inr o))) = omega (arith, lt, o.0)

  turned : (p q : ℕ) → ArePair m.volume.layout p q → ArePair m.volume.layout q p
  turned p q (inl (inl r)) = inl (inr (r.1, r.0))
  turned p q (inl (inr r)) = inl (inl (r.1, r.0))
  turned p q (inr (inl (inl a))) = inr (inl (inr (a.1, a.0)))
  turned p q (inr (inl (inr a))) = inr (inl (inl (a.1, a.0)))
  turned p q (inr (inr (page, lt, inl o))) = inr (inr (page, lt, inr (o.1, o.0)))
  turned p q (inr (inr (page, lt, inr o))) = inr (inr (page, lt, inl (o.1, o.0)))

  inside : (p : ℕ) → p < map_start m.volume.layout → p < length i
  inside p lt = let fits = shows.readable.roots.fits in let room = is.room in omega (arith, lt, fits, room)

  front : s < map_start m.volume.layout
  front = in_front s t pair

  room_s : s < length i
  room_s = inside s front

  room_t : t < length i
  room_t = inside t (in_front t s (turned s t pair))

  other : (p : ℕ) → p ≢ s → sector_at (with_sector i s bytes) p ≡ sector_at i p
  other p differs = with_other i s p bytes differs

  not_logged : (p q x : ℕ) → ArePair m.volume.layout p q → 16 ≤ x → x < 16 + 3 * m.volume.layout.third → x ≡ p → ⊥
  not_logged p q x (inl (inl r)) low high e = omega (arith, r.0, low, e)
  not_logged p q x (inl (inr r)) low high e = omega (arith, r.0, low, e)
  not_logged p q x (inr (inl (inl a))) low high e = omega (arith, a.0, low, e)
  not_logged p q x (inr (inl (inr a))) low high e = omega (arith, a.0, low, e)
  not_logged p q x (inr (inr (page, lt, inl o))) low high e = omega (arith, o.0, high, e)
  not_logged p q x (inr (inr (page, lt, inr o))) low high e = omega (arith, o.0, high, e)

  log_same : SameLog m.volume.layout i (with_sector i s bytes)
  log_same p within = other p (λ e. not_logged s t p pair (let from = within.0 in omega (arith, from)) (let high = within.1 in omega (arith, high)) e)

  data_same : SameData m.volume.layout (in_runs windows) i (with_sector i s bytes)
  data_same p from = inl (other p (λ e. omega (arith, from, e, front)))

  -- ---- what is shown

  root_is : AreRootPlaces s t → bytes ≡ root_bytes m.volume.layout
  root_is (inl r) = sym (has_bytes (weak_of windows) i (root_bytes m.volume.layout) bytes 4 is.over.own.roots.1 (ap (sector_at i) (sym r.1) ∙ whole))
  root_is (inr r) = sym (has_bytes (weak_of windows) i (root_bytes m.volume.layout) bytes 0 is.over.own.roots.0 (ap (sector_at i) (sym r.1) ∙ whole))

  root_at : AreRootPlaces s t → (s ≡ 0) ⊎ (s ≡ 4)
  root_at (inl r) = inl r.0
  root_at (inr r) = inr r.0

  anchor_is_twin : AreAnchorPlaces s t → IsTrue (is_twin m.volume.layout s)
  anchor_is_twin (inl a) = subst (λ (p : ℕ). IsTrue (is_twin m.volume.layout p)) (sym a.0) refl
  anchor_is_twin (inr a) = subst (λ (p : ℕ). IsTrue (is_twin m.volume.layout p)) (sym a.0) refl

  -- an anchor that stands
  spelled : (p : ℕ) (y : List ℕ) → sector_at i p ≡ Whole y → closed_at i p ≡ None → IfSome (anchor_at i p) (λ b. b ≡ m.anchor) → ((b : List ℕ) → sector_at i p ≡ Whole b → IsSome (read_anchor b)) → y ≡ anchor_bytes m.anchor
  spelled p y at shut own some = (spelled_open i p m.anchor y at shut own (some y at)).1

  own : EachAnchor i (λ b. b ≡ m.anchor)
  own = is.over.own.own

  shut : IsOpen i
  shut = is.over.own.opened

  -- two anchors that stand are the same
  alike : AreAnchorPlaces s t → (y : List ℕ) → sector_at i s ≡ Whole y → y ≡ bytes
  alike (inl a) y at =
      spelled 8 y (ap (sector_at i) (sym a.0) ∙ at) shut.0 own.0 shows.readable.anchors.first
      ∙ sym (spelled 12 bytes (ap (sector_at i) (sym a.1) ∙ whole) shut.1 own.1 shows.readable.anchors.second)
  alike (inr a) y at =
      spelled 12 y (ap (sector_at i) (sym a.0) ∙ at) shut.1 own.1 shows.readable.anchors.second
      ∙ sym (spelled 8 bytes (ap (sector_at i) (sym a.1) ∙ whole) shut.0 own.0 shows.readable.anchors.first)

  shows_now : ShowsPages m.volume.layout windows (is.disk ∷ []) (with_sector i s bytes)
  shows_now = by pair
    where
      anchored : (at : AreAnchorPlaces s t) → ((y : List ℕ) × (sector_at i s ≡ Whole y)) ⊎ (sector_at i s ≡ Damaged) → ShowsPages m.volume.layout windows (is.disk ∷ []) (with_sector i s bytes)
      anchored at (inl (y, here)) =
          front_shows m.volume.layout windows (is.disk ∷ []) i (with_sector i s bytes) is.room
          (λ p lt. ⊎_elim (λ same. ap (sector_at (with_sector i s bytes)) same ∙ with_same i s bytes room_s ∙ ap (λ (b : List ℕ). Whole b) (sym (alike at y here)) ∙ sym here ∙ ap (sector_at i) (sym same)) (λ differs. other p differs) (same_or p s))
          (omega (arith, length-set i s (Whole bytes))) shows
      anchored at (inr hurt) = anchor_shows m.volume.layout windows narrow (is.disk ∷ []) s t at i bytes room_s whole hurt (shows.readable.roots.twins s (anchor_is_twin at) hurt) shows

      by : ArePair m.volume.layout s t → ShowsPages m.volume.layout windows (is.disk ∷ []) (with_sector i s bytes)
      by (inl r) = subst (λ (b : List ℕ). ShowsPages m.volume.layout windows (is.disk ∷ []) (with_sector i s b)) (sym (root_is r)) (rooted_shows m.volume.layout windows narrow (is.disk ∷ []) s i (root_at r) room_s shows)
      by (inr (inl a)) = anchored a (whole_or_damaged (sector_at i s))
      by (inr (inr (page, lt, o))) = mended_shows m.volume.layout windows narrow (is.disk ∷ []) page s t lt o i bytes whole room_s room_t shows

  -- ---- its log

  abbrev IsOwn : Option Anchor → Type 0
  IsOwn o = IfSome o (λ b. b ≡ m.anchor)

  found : (p : ℕ) → p ≡ s → anchor_at (with_sector i s bytes) p ≡ anchor_at i t
  found p here = ap (anchor_at (with_sector i s bytes)) here ∙ ap (λ (x : Sector). option_and_then read_anchor (bytes_of x)) (with_same i s bytes room_s ∙ sym whole)

  own_at : (p q : ℕ) → ((p ≡ s) → q ≡ t) → IsOwn (anchor_at i p) → IsOwn (anchor_at i q) → IsOwn (anchor_at (with_sector i s bytes) p)
  own_at p q twin here there = ⊎_elim
      (λ same. subst IsOwn (sym (found p same)) (subst (λ (x : ℕ). IsOwn (anchor_at i x)) (twin same) there))
      (λ differs. subst IsOwn (sym (ap (λ (x : Sector). option_and_then read_anchor (bytes_of x)) (other p differs))) here) (same_or p s)

  closed_found : (p : ℕ) → p ≡ s → closed_at (with_sector i s bytes) p ≡ closed_at i t
  closed_found p here = ap (closed_at (with_sector i s bytes)) here ∙ ap (λ (x : Sector). option_and_then read_closed (bytes_of x)) (with_same i s bytes room_s ∙ sym whole)

  open_at : (p q : ℕ) → ((p ≡ s) → q ≡ t) → closed_at i p ≡ None → closed_at i q ≡ None → closed_at (with_sector i s bytes) p ≡ None
  open_at p q twin here there = ⊎_elim
      (λ same. closed_found p same ∙ ap (closed_at i) (sym (twin same)) ∙ there)
      (λ differs. ap (λ (x : Sector). option_and_then read_closed (bytes_of x)) (other p differs) ∙ here) (same_or p s)

  twin_of_8 : ArePair m.volume.layout s t → 8 ≡ s → 12 ≡ t
  twin_of_8 (inl (inl r)) e = absurd (omega (arith, r.0, e))
  twin_of_8 (inl (inr r)) e = absurd (omega (arith, r.0, e))
  twin_of_8 (inr (inl (inl a))) e = sym a.1
  twin_of_8 (inr (inl (inr a))) e = absurd (omega (arith, a.0, e))
  twin_of_8 (inr (inr (page, lt, inl o))) e = absurd (omega (arith, o.0, e))
  twin_of_8 (inr (inr (page, lt, inr o))) e = absurd (omega (arith, o.0, e))

  twin_of_12 : ArePair m.volume.layout s t → 12 ≡ s → 8 ≡ t
  twin_of_12 (inl (inl r)) e = absurd (omega (arith, r.0, e))
  twin_of_12 (inl (inr r)) e = absurd (omega (arith, r.0, e))
  twin_of_12 (inr (inl (inl a))) e = absurd (omega (arith, a.0, e))
  twin_of_12 (inr (inl (inr a))) e = sym a.1
  twin_of_12 (inr (inr (page, lt, inl o))) e = absurd (omega (arith, o.0, e))
  twin_of_12 (inr (inr (page, lt, inr o))) e = absurd (omega (arith, o.0, e))

  -- what is written over a root is the layout's
  root_bytes_are : {p : ℕ} → ArePair m.volume.layout s t → p ≡ s → (p ≡ 0) ⊎ (p ≡ 4) → bytes ≡ root_bytes m.volume.layout
  root_bytes_are (inl r) e root = root_is r
  root_bytes_are (inr (inl (inl a))) e root = absurd (⊎_elim (λ is. omega (arith, a.0, e, is)) (λ is. omega (arith, a.0, e, is)) root)
  root_bytes_are (inr (inl (inr a))) e root = absurd (⊎_elim (λ is. omega (arith, a.0, e, is)) (λ is. omega (arith, a.0, e, is)) root)
  root_bytes_are (inr (inr (page, lt, inl o))) e root = absurd (⊎_elim (λ is. omega (arith, o.0, e, is)) (λ is. omega (arith, o.0, e, is)) root)
  root_bytes_are (inr (inr (page, lt, inr o))) e root = absurd (⊎_elim (λ is. omega (arith, o.0, e, is)) (λ is. omega (arith, o.0, e, is)) root)

  root_now : (p : ℕ) → (p ≡ s → bytes ≡ root_bytes m.volume.layout) → Has (weak_of windows) i (root_bytes m.volume.layout) p → Has (weak_of windows) (with_sector i s bytes) (root_bytes m.volume.layout) p
  root_now p are has = ⊎_elim
      (λ same. inl (ap (sector_at (with_sector i s bytes)) same ∙ with_same i s bytes room_s ∙ ap (λ (b : List ℕ). Whole b) (are same)))
      (λ differs. ⊎_elim (λ there. inl (other p differs ∙ there)) (λ hurt. inr (hurt.0, other p differs ∙ hurt.1)) has) (same_or p s)

  own_now : HasOwnLog m.volume.layout m.anchor is.records m.head (weak_of windows) (with_sector i s bytes)
  own_now = record {
    roots = (root_now 0 (λ e. root_bytes_are pair e (inl refl)) is.over.own.roots.0, root_now 4 (λ e. root_bytes_are pair e (inr refl)) is.over.own.roots.1);
    own = (own_at 8 12 (twin_of_8 pair) own.0 own.1, own_at 12 8 (twin_of_12 pair) own.1 own.0);
    opened = (open_at 8 12 (twin_of_8 pair) shut.0 shut.1, open_at 12 8 (twin_of_12 pair) shut.1 shut.0);
    log = subst (λ t. IsLog m.volume.layout m.anchor.epoch m.anchor.first t is.records m.head) (sym (same_tape m.volume.layout i (with_sector i s bytes) log_same m.anchor.third is.third)) is.over.own.log;
    laid = all_laid_log m.volume.layout m.anchor (weak_of windows) i (with_sector i s bytes) log_same is.records
        (subst (AllByRecursion (IsRecord m.volume.layout m.anchor.third)) (ap (λ (w : Walked). w.records) is.over.own.log.scanned) (scan_records m.volume.layout i m.anchor is.third)) is.over.own.laid;
  }

  pub twin_mounted : IsMounted m windows h f (with_sector i s bytes)
  twin_mounted = record {
    files = is.files;
    described = describes_data m.volume.layout (in_runs windows) m.volume.files m.volume.entries i (with_sector i s bytes) data_same is.described;
    count = is.count;
    few = is.few;
    epoch = is.epoch;
    third = is.third;
    room = is.room;
    in_memory = is.in_memory;
    spaced = is.spaced;
    open_ones = open_worn (in_runs windows) i (with_sector i s bytes) m (λ p at. data_same p (data_behind m.volume.layout p (open_in_area m.volume is.spaced p at))) is.open_ones;
    disk = is.disk;
    records = is.records;
    over = record { shows = shows_now; own = own_now; clean = is.over.clean };
    forced = record {
      telling = is.forced.telling;
      told = is.forced.told;
      described = describes_data m.volume.layout (in_runs windows) (after (take f h)) is.forced.telling.entries i (with_sector i s bytes) data_same is.forced.described;
      taken = is.forced.taken;
      leaders = is.forced.leaders;
    };
  }
