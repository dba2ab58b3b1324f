-- The calls of a mount, one after another.
use Rattle.std.proofs.Common.{◌≡◌, inl, inr, ⊎_elim, ℕ, ◌+◌, ◌*◌, ◌<◌, ◌≤◌, Bool, ◌||◌, List, [], ◌∷◌, ◌++◌, length, Option, Some, None, refl, sym, ap, subst, ◌∙◌, arith}
use Rattle.std.proofs.lemmas.Option.{same_Some}
use Rattle.std.specs.Prelude.{IsTrue, IsSome, option_and_then, nat_le}
use Rattle.std.specs.List.{AllByRecursion}
use Rattle.std.proofs.lemmas.Bool.{cond-true, le-leb, and_parts, or_left, or_right}
use Rattle.volume_layout.specs.declared.layout.Layout.{Layout}
use Rattle.volume_layout.specs.Layout.{IsPlanned}
use Rattle.volume_layout.specs.Root.{root_bytes, read_root}
use Rattle.volume_layout.proofs.RootLaws.{planned_root_is_read}
use Rattle.volume_layout.specs.Kinds.{gap_of}
use Rattle.fsd_formats.specs.declared.anchor.Anchor.{Anchor}
use Rattle.fsd_formats.specs.Record.{record_len, end_bytes}
use Rattle.sector_disk.specs.declared.sector.Sector.{Sector}
use Rattle.sector_disk.specs.declared.sector.Sector.TheVariants.{Whole, Damaged}
use Rattle.sector_disk.specs.declared.sector.WeakRun.{WeakRun}
use Rattle.sector_disk.specs.Image.{Windows, sector_at, IsWorn, IsCalm, AreShort, open_damage, settled, in_weak_run, weak as in_window}
use Rattle.sector_disk.specs.Machine.{Moment, Wears}
use Rattle.sector_disk.proofs.Calm.{calm_worn}
use Rattle.sector_disk.proofs.Damage.{lost_as}
use Rattle.sector_disk.proofs.Wear.{worn_refl, worn_trans, worn_twice}
use Rattle.fsd_log.specs.Scan.{Placed, place_of, start}
use Rattle.fsd_log.proofs.PlaceLaws.{place_inside, place_from}
use Rattle.fsd_files.specs.Disk.{Image, Sectors, SectorWorn, bytes_of, first_whole}
use Rattle.fsd_sound.specs.Anchors.{anchor_of}
use Rattle.fsd_sound.specs.Laid.{AllStand}
use Rattle.fsd_sound.specs.Roots.{counted_root, root_at, root_of}
use Rattle.fsd_sound.specs.Shown.{records_by, shown_by}
use Rattle.fsd_sound.specs.Sound.{AllLieIn, EndIn, IsRootAt, IsRootOf, IsSaid, Says, SaysNoMore, ShowsOne, ShowsPages, weak_of}
use Rattle.fsd_sound.proofs.LogPlaces.{IsRecord, scan_records}
use Rattle.fsd_sound.proofs.SaidLaws.{planned_beside, said_again, says_as, says_no_more_then, says_worn, worn_says}
use Rattle.fsd_sound.proofs.SectorFacts.{not_damaged}
use Rattle.fsd_sound.proofs.SavedLaws.{closes_more, worn_closes}
use Rattle.fsd_sound.proofs.SoundLaws.{shows_still}
use Rattle.fsd_sound.proofs.BesideLaws.{said_shows}
use Rattle.fsd_sound.proofs.WindowLaws.{open_is_weak, borne_apart}
use Rattle.log_thirds.specs.Images.{AreOfLogged}
use Rattle.log_thirds.specs.LogValue.{LogValue}
use Rattle.log_thirds.proofs.ImageLaws.{logged_by}
use Rattle.fsd_sound.specs.Windows.{IsNarrow, IsApart}
use Rattle.fsd_sound.specs.Writes.{KeepsElsewhere, WritesAsMount}
use Rattle.fsd_sound.specs.declared.fault.MountFault.{MountFault}
use Rattle.fsd_sound.specs.declared.fault.MountFault.TheVariants.{NotVolume, Device, Memory, Lost, NoAnchor, Unsound}
use Rattle.mount_recover.specs.Finding.{HasSeenLog, NotFoundFor, IsNotFound, IsExcuse}
use Rattle.fsd_sound.specs.Lost.{AreHomes, AreLoggedOn, AreHomesOn, AreCopiesOn, LosesShown, LostIn}
use Rattle.fsd_sound.specs.Mounting.{HasRoot, last_epoch}
use Rattle.mount_recover.specs.Mending.{IsLoadFault, AreOfAll, SaysBut, StaysElsewhere, KeepsUnwritten, IsSeen, Completed, StaysShown, HasSettled, StaysOrSettles}
use Rattle.log_thirds.specs.Anchoring.{in_next_epoch}
use Rattle.fsd_log.proofs.SlotLaws.{no_records}
use Rattle.mount_recover.specs.Recover.{IsFreshLog, IsRefusedFor, ShowsVolume}
use Rattle.mount_recover.specs.Replay.{HasLastCopies, IsCompletedFrom, Replays}
use Rattle.fsd_sound.proofs.CompleteLaws.{all_last}
use Rattle.mount_recover.proofs.PlaceLaws.{lies_last}
use Rattle.mount_recover.proofs.CompletingLaws.{low_third}
use Rattle.mount_recover.proofs.MendingLaws.{stays_show}
use Rattle.fsd_log.proofs.RobustLaws.{length_more}
use Rattle.fsd_log.specs.Places.{LieInRecord, last_places}
use Rattle.fsd_files.proofs.KeptLaws.{has_on}
use Rattle.volume_layout.proofs.KindLaws.{gap_most}

-- ---- the root of an image that shows pages

root_stands : (l : Layout) (sectors : ℕ) (i : Image) (s : ℕ) → IsPlanned l → l.sectors ≤ sectors → sector_at i s ≡ Whole (root_bytes l) → root_at sectors i s ≡ Some l
root_stands l sectors i s planned room stands =
    ap (λ (x : Sector). option_and_then (counted_root sectors) (option_and_then read_root (bytes_of x))) stands
    ∙ ap (option_and_then (counted_root sectors)) (planned_root_is_read l planned)
    ∙ cond-true (nat_le l.sectors sectors) (Some l) None (le-leb l.sectors sectors room)

-- the root that the image tells is the layout, or one beside it, and a root says so
pub record TellsRoot (l : Layout) (sectors : ℕ) (i : Image) : Type 0 where
  pub layout : Layout
  pub said : IsSaid l i layout
  pub says : Says layout i
  pub root : root_of sectors i ≡ Some layout

module _ (l : Layout) (sectors : ℕ) (windows : List WeakRun) (choices : List (List (List ℕ))) (i : Image) (planned : IsPlanned l) (room : (k : Layout) → IsSaid l i k → k.sectors ≤ sectors) (shows : ShowsPages l windows choices i) where
  abbrev second_layout : Layout
  second_layout = shows.readable.roots.other

  -- a root of it counts
  counts : (s : ℕ) (bytes : List ℕ) → sector_at i s ≡ Whole bytes → IsRootOf l second_layout bytes → ((k : Layout) → sector_at i s ≡ Whole (root_bytes k) → Says k i) → (k : Layout) × IsSaid l i k × Says k i × (root_at sectors i s ≡ Some k)
  counts s bytes there (inl is) says =
      let at : sector_at i s ≡ Whole (root_bytes l) = there ∙ ap (λ (b : List ℕ). Whole b) is in
      (l, inl refl, says l at, root_stands l sectors i s planned (room l (inl refl)) at)
  counts s bytes there (inr is) says =
      let at : sector_at i s ≡ Whole (root_bytes second_layout) = there ∙ ap (λ (b : List ℕ). Whole b) is in
      let said : IsSaid l i second_layout = inr (shows.readable.roots.beside, says second_layout at) in
      (second_layout, said, says second_layout at, root_stands second_layout sectors i s (planned_beside l second_layout planned shows.readable.roots.beside) (room second_layout said) at)

  pub root_shown : TellsRoot l sectors i
  root_shown = by_sector (sector_at i 0) refl
    where
      by_sector : (s : Sector) → sector_at i 0 ≡ s → TellsRoot l sectors i
      by_sector Damaged is =
          let none : root_at sectors i 0 ≡ None = ap (λ (x : Sector). option_and_then (counted_root sectors) (option_and_then read_root (bytes_of x))) is in
          let second : IsRootAt l second_layout i 4 = ⊎_elim (λ first. absurd (not_damaged (sector_at i 0) first.0 first.1 is)) (λ there. there) shows.readable.roots.some in
          let found = counts 4 second.0 second.1 second.2 (λ k says. inr says) in
          record { layout = found.0; said = found.1; says = found.2; root = ap (λ (r : Option Layout). first_whole r (root_at sectors i 4)) none ∙ found.3 }
      by_sector (Whole bytes) is =
          let found = counts 0 bytes is (shows.readable.roots.first bytes is) (λ k says. inl says) in
          record { layout = found.0; said = found.1; says = found.2; root = ap (λ (r : Option Layout). first_whole r (root_at sectors i 4)) found.3 }

planned_said : (l : Layout) (i : Image) (k : Layout) → IsSaid l i k → IsPlanned l → IsPlanned k
planned_said l i k (inl is) planned = subst (λ (x : Layout). IsPlanned x) (sym is) planned
planned_said l i k (inr is) planned = planned_beside l k planned is.0

-- what the pages tell lies in the data area of a layout that is said
lie_said : (l : Layout) (windows : List WeakRun) (choices : List (List (List ℕ))) (i : Image) (k : Layout) → IsSaid l i k → AllLieIn l choices → ShowsPages l windows choices i → AllLieIn k choices
lie_said l windows choices i k (inl is) lie shows = subst (λ (x : Layout). AllLieIn x choices) (sym is) lie
lie_said l windows choices i k (inr is) lie shows = shows.within k is.0 is.1

-- what is said of a worn image was said before
said_worn : (l : Layout) (i j : Image) (may : Sectors) (k : Layout) → IsWorn may i j → IsSaid l j k → IsSaid l i k
said_worn l i j may k worn (inl is) = inl is
said_worn l i j may k worn (inr is) = inr (is.0, says_worn k i j may worn is.1)

-- ---- the last record's copies stay

all_on : (l : Layout) (a : Anchor) (weak : Sectors) (i j : Image) (s : ℕ) (xs : List (List ℕ)) → ((p : ℕ) → s ≤ p → p < s + length xs → SectorWorn (weak p) (sector_at i p) (sector_at j p)) → AllStand l a weak i s xs → AllStand l a weak j s xs
all_on l a weak i j s [] on all = tt
all_on l a weak i j s (x ∷ xs) on all = (
  has_on weak i j x s (on s (omega arith) (omega arith)) all.0,
  all_on l a weak i j (s + 1) xs (λ p from to. on p (omega (arith, from)) (omega (arith, to))) all.1,
)

last_on : (l : Layout) (a : Anchor) (weak : Sectors) (records : List Placed) (i j : Image) → AllByRecursion (IsRecord l a.third) records → ((s : ℕ) → 16 ≤ s → s < 16 + 3 * l.third → SectorWorn (weak s) (sector_at i s) (sector_at j s))
    → HasLastCopies l a weak records i → HasLastCopies l a weak records j
last_on l a weak records i j are on last front r is =
    let at = all_last (IsRecord l a.third) front r (subst (AllByRecursion (IsRecord l a.third)) is are) in
    let inside = place_inside l a.third r.at (record_len (gap_of l) (length r.entry.pages)) at.end at.inside (omega arith) in
    all_on l a weak i j (place_of l a.third r.at + (4 + 2 * (gap_of l) + length r.entry.pages)) (r.entry.images ++ end_bytes (record { epoch = a.epoch; number = r.entry.number }) (length r.entry.pages) ∷ []) (λ p from to. on p (omega (arith, from, place_from l a.third r.at)) (omega (arith, to, inside, at.images, length_more r.entry.images (end_bytes (record { epoch = a.epoch; number = r.entry.number }) (length r.entry.pages))))) (last front r is)

-- ---- from an image that shows pages

module _ (sectors : ℕ) (l : Layout) (windows : List WeakRun) (choices : List (List (List ℕ))) (old : Moment) (start : ShowsVolume sectors l windows choices old) (short : AreShort old.windows) where
  apart : IsApart (gap_of l) (weak_of windows)
  apart = borne_apart l windows start.shows.readable.borne

  narrow : IsNarrow (weak_of windows)
  narrow s t far a b = apart s t (omega (arith, far, gap_most l)) a b

  weaker : (i j : Image) → IsWorn (open_damage old.windows) i j → IsWorn (weak_of windows) i j
  weaker i j w = open_is_weak old.windows windows i j start.ends w

  shows_worn : (j : Image) → IsWorn (open_damage old.windows) old.image j → ShowsPages l windows choices j
  shows_worn j w = shows_still l windows narrow choices old.image j (weaker old.image j w) start.shows

  pub wears_replays : (left : Moment) → Wears old left → Replays l windows choices old left
  wears_replays left wears =
      let worn = weaker old.image left.image wears.image in
      record {
        stage = inl (record { present = ap (λ (w : Windows). w.present) wears.windows; shows = shows_worn left.image wears.image; closes = worn_closes (weak_of windows) old.image left.image worn });
        order = inl (λ s from. worn.each s);
        rest = λ s out. worn.each s;
        says = worn_says (weak_of windows) old.image left.image worn;
        said = wears.said;
      }

  pub not_found_excused : (fault : MountFault) → IsNotFound sectors fault old → IsExcuse fault
  not_found_excused fault refused = by_fault fault refused.why
    where
      shows : ShowsPages l windows choices refused.seen
      shows = shows_worn refused.seen refused.from

      by_fault : (f : MountFault) → NotFoundFor sectors refused.seen f → IsExcuse f
      by_fault NotVolume none = let some = (root_shown l sectors windows choices refused.seen start.planned (λ k said. start.fits k (said_worn l old.image refused.seen (open_damage old.windows) k refused.from said)) shows).root in absurd (cc (some, none))
      by_fault NoAnchor none =
          subst (λ (o : Option Anchor). ShowsOne choices (option_and_then (shown_by l refused.seen) o)) none.1 (start.shows.shows refused.seen (weaker old.image refused.seen refused.from))
      by_fault (Lost a b) why = why
      by_fault (Unsound s) why = why
      by_fault other why = tt

  module _ (one : Moment) (wears : Wears old one) (found : Layout) (log : LogValue) (is : HasSeenLog sectors found log old one) where
    -- the layout that was found is one that the image says
    pub found_said : IsSaid l old.image found
    found_said =
        let told = root_shown l sectors windows choices is.seen start.planned (λ k said. start.fits k (said_worn l old.image is.seen (open_damage old.windows) k is.from said)) (shows_worn is.seen is.from) in
        said_worn l old.image is.seen (open_damage old.windows) found is.from (subst (IsSaid l is.seen) (same_Some told.layout found (sym told.root ∙ is.root)) told.said)

    -- so by it the image shows the same pages
    pub found_starts : ShowsVolume sectors found windows choices old
    found_starts = record {
      planned = planned_said l old.image found found_said start.planned;
      fits = λ k said. start.fits k (said_again l (weak_of windows) old.image found k start.shows.readable.roots found_said said);
      ends = start.ends;
      lie = lie_said l windows choices old.image found found_said start.lie start.shows;
      shows = said_shows l windows choices old.image found found_said start.lie start.shows;
    }

  -- the log that was found, of the layout that is shown
  module _ (one : Moment) (wears : Wears old one) (log : LogValue) (is : HasSeenLog sectors l log old one) where
    pub is_seen : IsSeen l windows choices log one
    is_seen = record {
      image = is.seen;
      apart = apart;
      ends = subst (λ (w : Windows). EndIn w windows) (sym wears.windows) start.ends;
      worn = subst (λ (w : Windows). IsWorn (open_damage w) is.seen one.image) (sym wears.windows) is.to;
      shows = shows_worn is.seen is.from;
      knows = is.knows;
    }

    first_worn : (s : ℕ) → SectorWorn (weak_of windows s) (sector_at old.image s) (sector_at one.image s)
    first_worn s = (weaker old.image one.image wears.image).each s

    from_one : (s : ℕ) (x : Sector) → SectorWorn (weak_of windows s) (sector_at one.image s) x → SectorWorn (weak_of windows s) (sector_at old.image s) x
    from_one s x later = worn_twice (weak_of windows s) (sector_at old.image s) (sector_at one.image s) x (first_worn s) later

    says_one : SaysNoMore old.image one.image
    says_one = worn_says (open_damage old.windows) old.image one.image wears.image

    -- a root said the layout
    took_says : Says l old.image
    took_says =
        let told = root_shown l sectors windows choices is.seen start.planned (λ k said. start.fits k (said_worn l old.image is.seen (open_damage old.windows) k is.from said)) (shows_worn is.seen is.from) in
        says_worn l old.image is.seen (open_damage old.windows) is.from (subst (λ (k : Layout). Says k is.seen) (same_Some told.layout l (sym told.root ∙ is.root)) told.says)

    pub replays_from : (left : Moment) → Replays l windows choices one left → Replays l windows choices old left
    replays_from left now = record {
      stage = ⊎_elim (λ before. inl (record { present = before.present ∙ ap (λ (w : Windows). w.present) wears.windows; shows = before.shows; closes = closes_more old.image one.image left.image (worn_closes (open_damage old.windows) old.image one.image wears.image) before.closes })) (λ after. inr after) now.stage;
      order = ⊎_elim (λ kept. inl (λ s from. from_one s (sector_at left.image s) (kept s from)))
          (λ done. inr (record { seen = done.seen; worn = worn_trans (weak_of windows) old.image one.image done.seen (weaker old.image one.image wears.image) done.worn; anchor = done.anchor; taken = done.taken; last = done.last })) now.order;
      rest = λ s out. from_one s (sector_at left.image s) (now.rest s out);
      says = says_no_more_then old.image one.image left.image says_one now.says;
      said = now.said ∙ wears.said;
    }

    -- ---- once the last record is completed

    seen_is : is_seen.image ≡ is.seen
    unfolding is_seen
    seen_is = refl

    module _ (two : Moment) (done : Completed l windows choices log one is_seen two) where
      in_order : (left : Moment) → ((s : ℕ) → 16 ≤ s → s < 16 + 3 * l.third → SectorWorn (weak_of windows s) (sector_at two.image s) (sector_at left.image s)) → IsCompletedFrom l (weak_of windows) old.image left.image
      in_order left on = record {
        seen = is.seen;
        worn = weaker old.image is.seen is.from;
        anchor = log.anchor;
        taken = is.knows.taken;
        last = last_on l log.anchor (weak_of windows) (records_by l is.seen log.anchor) two.image left.image (scan_records l is.seen log.anchor (low_third l is.seen log.anchor is.knows.taken)) on
            (subst (λ (i : Image). HasLastCopies l log.anchor (weak_of windows) (records_by l i log.anchor) two.image) seen_is done.last);
      }

      rest_two : (left : Moment) → WritesAsMount l (weak_of windows) two left → WritesAsMount l (weak_of windows) old left
      rest_two left on s out = from_one s (sector_at left.image s) (worn_twice (weak_of windows s) (sector_at one.image s) (sector_at two.image s) (sector_at left.image s) (done.rest s out) (on s out))

      says_two : (left : Moment) → SaysBut l two.image left.image → SaysNoMore old.image left.image
      says_two left but k says = ⊎_elim (λ was. says_one k (done.says k was)) (λ same. says_as l k old.image same took_says) (but k says)

      pub stays_replays : (left : Moment) → StaysShown l windows choices two left → Replays l windows choices old left
      stays_replays left at =
          let worn : IsWorn (weak_of windows) at.image left.image = open_is_weak two.windows windows at.image left.image done.is.ends at.holds.worn in
          record {
            stage = inl (record {
              present = ap (λ (w : Windows). w.present) at.holds.windows ∙ done.present ∙ ap (λ (w : Windows). w.present) wears.windows;
              shows = stays_show l windows choices log two done.is left at;
              closes = closes_more old.image one.image left.image (worn_closes (open_damage old.windows) old.image one.image wears.image)
                  (closes_more one.image two.image left.image done.closes (closes_more two.image at.image left.image at.closes (worn_closes (weak_of windows) at.image left.image worn)));
            });
            order = inr (in_order left (λ s from inside. worn_twice (weak_of windows s) (sector_at two.image s) (sector_at at.image s) (sector_at left.image s) (inl (at.log s from inside)) (worn.each s)));
            rest = rest_two left (λ s out. worn_twice (weak_of windows s) (sector_at two.image s) (sector_at at.image s) (sector_at left.image s) (inl (at.rest s out)) (worn.each s));
            says = says_two left (λ k says. at.says k (says_worn k at.image left.image (weak_of windows) worn says));
            said = at.holds.said ∙ done.said ∙ wears.said;
          }

      settled_replays : (left : Moment) → HasSettled l windows choices two left → Replays l windows choices old left
      settled_replays left at = record { stage = inr at.after; order = inr (in_order left at.log); rest = rest_two left at.rest; says = says_two left at.says; said = at.said ∙ done.said ∙ wears.said }

      pub begins_replays : (left : Moment) → StaysOrSettles l windows choices two left → Replays l windows choices old left
      begins_replays left (inl at) = stays_replays left at
      begins_replays left (inr at) = settled_replays left at

-- ---- what is lost

-- what is refused before the log is read is not lost
pub none_found : (AreCopies : ℕ → ℕ → Type 0) (image : Image) (sectors : ℕ) (old : Moment) (fault : MountFault) → IsNotFound sectors fault old → LostIn AreCopies image fault
none_found AreCopies image sectors old (Lost a b) not = absurd not.why
none_found AreCopies image sectors old other not = tt

pub none_shown : (sectors : ℕ) (image : Image) (old : Moment) (fault : MountFault) → IsNotFound sectors fault old → LosesShown sectors image fault
none_shown sectors image old (Lost a b) not = absurd not.why
none_shown sectors image old other not = tt

module _ (sectors : ℕ) (l : Layout) (log : LogValue) (old one : Moment) (same : log.layout ≡ l) (root : HasRoot sectors old.image l) (is : HasSeenLog sectors l log old one) where
  as_old : IsCalm old.windows → is.seen ≡ old.image
  as_old calm = calm_worn old.windows old.image is.seen calm is.from

  logged_on : (a b : ℕ) → AreOfLogged log a b → AreLoggedOn sectors old a b
  logged_on a b of = record {
    layout = l;
    root = root;
    in_record = subst (λ (k : Layout). LieInRecord k a b) same of.logged.in_record;
    calm = λ calm. record {
      layout = l;
      anchor = log.anchor;
      found = record { root = ap (root_of sectors) (sym (as_old calm)) ∙ is.root; anchor = ap anchor_of (sym (as_old calm)) ∙ is.knows.taken };
      page = of.page;
      within = subst (λ (k : Layout). of.page < k.pages) same of.within;
      lies = subst (λ (i : Image). last_places l log.anchor.third of.page (records_by l i log.anchor) ≡ Some (a, b)) (as_old calm)
          (subst (λ (k : Layout). last_places k log.anchor.third of.page (records_by l is.seen log.anchor) ≡ Some (a, b)) same
          (lies_last log.layout log.anchor.third of.page (records_by l is.seen log.anchor) a b (logged_by log (records_by l is.seen log.anchor) of.page a b is.knows.slots of.logged.lies)));
    };
  }

  homes_on : (a b : ℕ) → AreHomes l a b → AreHomesOn sectors old a b
  homes_on a b homes = record { layout = l; root = root; homes = homes; calm = λ calm. ap (root_of sectors) (sym (as_old calm)) ∙ is.root }

  twins_on : (a b : ℕ) → AreOfAll l log a b → AreCopiesOn sectors old a b
  twins_on a b (inl (inl of)) = inl (logged_on a b of)
  twins_on a b (inl (inr homes)) = inr (inl (homes_on a b homes))
  twins_on a b (inr roots) = inr (inr roots)

  pub lost_on : (image : Image) (fault : MountFault) → LostIn (AreOfAll l log) image fault → LostIn (AreCopiesOn sectors old) image fault
  lost_on image (Lost a b) lost = lost_as (AreOfAll l log) a b (AreCopiesOn sectors old) image (twins_on a b) lost
  lost_on image other lost = tt

-- ---- why it is refused

pub mend_refused : (sectors : ℕ) (l : Layout) (log : LogValue) (old one : Moment) → log.anchor.epoch < last_epoch → HasSeenLog sectors l log old one → (fault : MountFault) → IsLoadFault fault → IsRefusedFor sectors fault old
mend_refused sectors l log old one fits is (Lost a b) cause = record { seen = is.seen; from = is.from; why = record { layout = l; anchor = log.anchor; found = record { root = is.root; anchor = is.knows.taken }; epoch = fits } }
mend_refused sectors l log old one fits is (Device s) cause = record { seen = is.seen; from = is.from; why = tt }
mend_refused sectors l log old one fits is Memory cause = record { seen = is.seen; from = is.from; why = tt }
mend_refused sectors l log old one fits is other cause = absurd cause

pub not_refused : (sectors : ℕ) (old : Moment) (fault : MountFault) → IsNotFound sectors fault old → IsRefusedFor sectors fault old
not_refused sectors old (Device s) not = record { seen = not.seen; from = not.from; why = tt }
not_refused sectors old Memory not = record { seen = not.seen; from = not.from; why = tt }
not_refused sectors old (Lost a b) not = absurd not.why
not_refused sectors old (Unsound s) not = absurd not.why
not_refused sectors old other not = record { seen = not.seen; from = not.from; why = not.why }

pub device_refused : (sectors : ℕ) (old : Moment) (place : ℕ) → IsRefusedFor sectors (Device place) old
device_refused sectors old place = record { seen = old.image; from = worn_refl (open_damage old.windows) old.image; why = tt }

-- ---- the log of the epoch that begins

pub fresh : (l : Layout) (log new : LogValue) → log.layout ≡ l → new ≡ in_next_epoch log → IsFreshLog l new
fresh l log new same is = subst (IsFreshLog l) (sym is) (record {
  layout = same;
  anchor = refl;
  head = ap (λ (k : Layout). start k 1) same;
  indexed = record { slots = no_records log.layout 0 (length log.slots); firsts = record { second = refl; last = refl } };
})

-- ---- where a mount does not write

worn_more_at : (b c : Bool) (x y : Sector) → (IsTrue b → IsTrue c) → SectorWorn b x y → SectorWorn c x y
worn_more_at b c x y more (inl same) = inl same
worn_more_at b c x y more (inr hurt) = inr (more hurt.0, hurt.1)

-- what both windows may wear, the named one may, once it is settled
pub open_settled : (present next : Option WeakRun) → IsSome next → (s : ℕ) → IsTrue (in_window present next s) → IsTrue (open_damage (settled present next) s)
open_settled present None some s hurt = absurd (cc some)
open_settled None (Some run) some s hurt = hurt
open_settled (Some w) (Some run) some s hurt = (and_parts (in_weak_run w s) (in_weak_run run s) hurt).1

rest_through : (l : Layout) (old one two three new : Moment) → Wears old one → StaysElsewhere l one two → KeepsUnwritten l two three → StaysElsewhere l three new → ((s : ℕ) → IsTrue (open_damage three.windows s) → IsTrue (open_damage new.windows s)) → KeepsElsewhere l old new
rest_through l old one two three new wears first second third in_new s out =
    let both : Bool = open_damage old.windows s || open_damage new.windows s in
    let to_one : SectorWorn (open_damage old.windows s || open_damage new.windows s) (sector_at old.image s) (sector_at one.image s) =
    worn_more_at (open_damage old.windows s) both (sector_at old.image s) (sector_at one.image s) (or_left (open_damage old.windows s) (open_damage new.windows s)) (wears.image.each s) in
    let to_two : SectorWorn (open_damage old.windows s || open_damage new.windows s) (sector_at one.image s) (sector_at two.image s) =
    worn_more_at (open_damage one.windows s) both (sector_at one.image s) (sector_at two.image s) (λ hurt. or_left (open_damage old.windows s) (open_damage new.windows s) (subst (λ (w : Windows). IsTrue (open_damage w s)) wears.windows hurt)) (first s out) in
    let to_three : SectorWorn (open_damage old.windows s || open_damage new.windows s) (sector_at two.image s) (sector_at three.image s) =
    worn_more_at (open_damage two.windows s) both (sector_at two.image s) (sector_at three.image s)
    (λ hurt. or_right (open_damage old.windows s) (open_damage new.windows s) (in_new s (subst (λ (w : Windows). IsTrue (open_damage w s)) (sym second.windows) hurt))) (second.rest s out) in
    let to_new : SectorWorn (open_damage old.windows s || open_damage new.windows s) (sector_at three.image s) (sector_at new.image s) =
    worn_more_at (open_damage three.windows s) both (sector_at three.image s) (sector_at new.image s) (λ hurt. or_right (open_damage old.windows s) (open_damage new.windows s) (in_new s hurt)) (third s out) in
    worn_twice both (sector_at old.image s) (sector_at three.image s) (sector_at new.image s)
    (worn_twice both (sector_at old.image s) (sector_at two.image s) (sector_at three.image s) (worn_twice both (sector_at old.image s) (sector_at one.image s) (sector_at two.image s) to_one to_two) to_three) to_new

pub rest_kept : (l : Layout) (old one two three new : Moment) → Wears old one → StaysElsewhere l one two → KeepsUnwritten l two three → StaysElsewhere l three new → IsSome two.windows.next → new.windows ≡ settled three.windows.present three.windows.next → KeepsElsewhere l old new
rest_kept l old one two three new wears first second third some is =
    rest_through l old one two three new wears first second third
    (λ s hurt. subst (λ (w : Windows). IsTrue (open_damage w s)) (sym is) (open_settled three.windows.present three.windows.next (subst (λ (w : Windows). IsSome w.next) (sym second.windows) some) s hurt))

-- so it is where the windows stayed, too
pub rest_left : (l : Layout) (old one two three new : Moment) → Wears old one → StaysElsewhere l one two → KeepsUnwritten l two three → StaysElsewhere l three new → new.windows ≡ three.windows → KeepsElsewhere l old new
rest_left l old one two three new wears first second third is =
    rest_through l old one two three new wears first second third (λ s hurt. subst (λ (w : Windows). IsTrue (open_damage w s)) (sym is) hurt)
