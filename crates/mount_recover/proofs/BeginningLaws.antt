-- A mount's end: the anchors of the next epoch are written, and it settles.
use Rattle.std.proofs.Common.{◌≡◌, ◌≢◌, ◌⊎◌, inl, inr, ⊎_elim, ℕ, zero, suc, ◌+◌, ◌*◌, ◌^◌, ◌<◌, ◌≤◌, Bool, true, false, cond, List, [], ◌∷◌, ◌++◌, length, get_or, Option, Some, None, refl, sym, ap, subst, ◌∙◌, arith}
use Rattle.std.specs.Prelude.{IsSome, IfSome, IsTrue, option_and_then}
use Rattle.std.proofs.lemmas.List.{length-set}
use Rattle.std.proofs.lemmas.Bool.Decides.{nat_tests}
use Rattle.std.proofs.lemmas.List.FromFn.{length-range_with_len}
use Rattle.volume_layout.specs.declared.layout.Layout.{Layout}
use Rattle.volume_layout.specs.Layout.{home_a, home_b}
use Rattle.volume_layout.proofs.RootLaws.{planned_bounds}
use Rattle.volume_layout.specs.Kinds.{gap_of, longest_of}
use Rattle.fsd_formats.specs.declared.anchor.Anchor.{Anchor}
use Rattle.fsd_formats.specs.Anchors.{anchor_bytes, read_anchor, read_closed}
use Rattle.fsd_formats.specs.Record.{Stamp}
use Rattle.sector_disk.specs.declared.sector.Sector.{Sector}
use Rattle.sector_disk.specs.declared.sector.Sector.TheVariants.{Whole}
use Rattle.sector_disk.specs.declared.sector.WeakRun.{WeakRun}
use Rattle.sector_disk.specs.Image.{Windows, sector_at, with_sector, stand, IsWorn, AreShort, open_damage, settled}
use Rattle.sector_disk.specs.Machine.{Moment, Holds, Wears, Before, Settles}
use Rattle.sector_disk.proofs.Calm.{stand_one}
use Rattle.sector_disk.proofs.Holding.{holds_wears, over_two}
use Rattle.sector_disk.proofs.Wear.{worn_trans, worn_more, worn_twice}
use Rattle.fsd_log.specs.Scan.{is_newer, newer_of, start}
use Rattle.fsd_files.specs.Disk.{Image, SectorWorn, Has, bytes_of}
use Rattle.fsd_sound.specs.Anchors.{anchor_at, EachAnchor, fresh_anchor}
use Rattle.fsd_sound.specs.Saved.{ClosesNone, IsOpen, closed_at}
use Rattle.fsd_sound.proofs.SaidLaws.{own_root, says_same, says_worn}
use Rattle.fsd_sound.proofs.SavedLaws.{open_closes, plain_is_open, stays_open, worn_closes}
use Rattle.fsd_sound.specs.Shown.{newest, records_by, all_pages, shown_by}
use Rattle.fsd_sound.specs.Sound.{EachStamp, ShowsPages, weak_of, BearsLast}
use Rattle.fsd_sound.proofs.WindowLaws.{open_is_weak, next_borne, borne_narrow, borne_apart}
use Rattle.log_thirds.specs.Anchoring.{with_anchors, AnchorsIn}
use Rattle.log_thirds.specs.LogValue.{LogValue}
use Rattle.fsd_sound.specs.Begun.{IsHomed, IsBegun, IsMountedIn, AreOlder}
use Rattle.fsd_sound.specs.Windows.{IsNarrow, IsApart}
use Rattle.fsd_sound.proofs.BegunLaws.{begun_own}
use Rattle.fsd_sound.proofs.CommuteLaws.{with_same, with_other}
use Rattle.fsd_sound.proofs.FreshLaws.{anchor_stands}
use Rattle.fsd_sound.proofs.LaidLaws.{has_worn, own_worn}
use Rattle.fsd_sound.proofs.RenewLaws.{renewed_shows}
use Rattle.fsd_sound.proofs.SettleLaws.{open_in_next, settles}
use Rattle.fsd_sound.proofs.WritesLaws.{elsewhere}
use Rattle.mount_recover.specs.Mending.{StaysBut, SameElsewhere, IsCompleted, IsMended, SaysBut, StaysShown, HasSettled, StaysOrSettles}
use Rattle.mount_recover.specs.Recover.{HasAnchorTwice}
use Rattle.mount_recover.specs.Replay.{IsReplayed}
use Rattle.mount_recover.proofs.KeepsLaws.{two_written}
use Rattle.mount_recover.proofs.MountLaws.{open_settled}
use Rattle.mount_recover.proofs.MendingLaws.{closes_same, narrow}
use Rattle.fsd_sound.proofs.AnchorFacts.{newer_one}
use Rattle.fsd_sound.proofs.EachLaws.{each_size}
use Rattle.fsd_sound.proofs.SectorFacts.{whole_before}
use Rattle.fsd_sound.proofs.HomedLaws.{if_more}

-- ---- runs

some_run : (o : Option WeakRun) → IsSome o → (run : WeakRun) × (o ≡ Some run)
some_run None some = absurd (cc some)
some_run (Some run) some = (run, refl)

-- ---- anchors and pages

-- the newer of two has the greatest epoch
newer_most : (x y : Option Anchor) (t : Anchor) → newer_of x y ≡ Some t → IfSome x (λ a. a.epoch ≤ t.epoch) × IfSome y (λ a. a.epoch ≤ t.epoch)
newer_most None None t is = (tt, tt)
newer_most None (Some b) t is = let same : b ≡ t = cc is in (tt, omega (arith, ap (λ (a : Anchor). a.epoch) same))
newer_most (Some a) None t is = let same : a ≡ t = cc is in (omega (arith, ap (λ (x : Anchor). x.epoch) same), tt)
newer_most (Some a) (Some b) t is = by_test (is_newer b a) refl (taken (cond (is_newer b a) b a) is)
  where
    taken : (x : Anchor) → Some x ≡ Some t → x ≡ t
    taken x e = cc

    by_test : (x : Bool) → is_newer b a ≡ x → cond (is_newer b a) b a ≡ t → (a.epoch ≤ t.epoch) × (b.epoch ≤ t.epoch)
    by_test true test e =
        let same : b ≡ t = ap (λ (x : Bool). cond x b a) (sym test) ∙ e in
        let le : a.epoch ≤ b.epoch = newer_from test in
        (omega (arith, le, ap (λ (x : Anchor). x.epoch) same), omega (arith, ap (λ (x : Anchor). x.epoch) same))
      where
        newer_from : is_newer b a ≡ true → a.epoch ≤ b.epoch
        newer_from is = grind (arith, nat_tests)
    by_test false test e =
        let same : a ≡ t = ap (λ (x : Bool). cond x b a) (sym test) ∙ e in
        let le : b.epoch ≤ a.epoch = older_from test in
        (omega (arith, ap (λ (x : Anchor). x.epoch) same), omega (arith, le, ap (λ (x : Anchor). x.epoch) same))
      where
        older_from : is_newer b a ≡ false → b.epoch ≤ a.epoch
        older_from is = grind (arith, nat_tests)

-- wear brings no anchor
worn_anchor : (b : Bool) (x y : Sector) (P : Anchor → Type 0) → SectorWorn b x y → IfSome (option_and_then read_anchor (bytes_of x)) P → IfSome (option_and_then read_anchor (bytes_of y)) P
worn_anchor b x y P (inl same) p = subst (λ (s : Sector). IfSome (option_and_then read_anchor (bytes_of s)) P) (sym same) p
worn_anchor b x y P (inr hurt) p = subst (λ (s : Sector). IfSome (option_and_then read_anchor (bytes_of s)) P) (sym hurt.1) tt

-- ---- an anchor more

module _ (l : Layout) (epoch : ℕ) (pages : List (List ℕ)) (i : Image) (s : ℕ) (place : (s ≡ 8) ⊎ (s ≡ 12)) (room : s < length i) (homed : IsHomed l epoch pages i) where
  not_here : (p : ℕ) → (p < 8) ⊎ (16 ≤ p) → sector_at (with_sector i s (anchor_bytes (fresh_anchor epoch))) p ≡ sector_at i p
  not_here p (inl low) = with_other i s p (anchor_bytes (fresh_anchor epoch)) (λ e. ⊎_elim (λ is. omega (arith, e, is, low)) (λ is. omega (arith, e, is, low)) place)
  not_here p (inr high) = with_other i s p (anchor_bytes (fresh_anchor epoch)) (λ e. ⊎_elim (λ is. omega (arith, e, is, high)) (λ is. omega (arith, e, is, high)) place)

  homed_on : IsHomed l epoch pages (with_sector i s (anchor_bytes (fresh_anchor epoch)))
  homed_on = record {
    planned = homed.planned;
    long = omega (arith, homed.long, length-set i s (Whole (anchor_bytes (fresh_anchor epoch))));
    root = not_here 0 (inl (omega arith)) ∙ homed.root;
    root_copy = not_here 4 (inl (omega arith)) ∙ homed.root_copy;
    first = homed.first;
    last = homed.last;
    stamps = λ p inside bytes is. homed.stamps p inside bytes (sym (not_here p (inr (let from = inside.0 in omega (arith, from)))) ∙ is);
    size = homed.size;
    home = λ page lt. let is = homed.home page lt in (not_here (home_a l page) (inr (omega arith)) ∙ is.0, not_here (home_b l page) (inr (omega arith)) ∙ is.1);
  }

  older_on : AreOlder epoch i → AreOlder epoch (with_sector i s (anchor_bytes (fresh_anchor epoch)))
  older_on older = (at_place 8 older.0, at_place 12 older.1)
    where
      at_place : (p : ℕ) → IfSome (anchor_at i p) (λ a. (a.epoch < epoch) ⊎ (a ≡ fresh_anchor epoch)) → IfSome (anchor_at (with_sector i s (anchor_bytes (fresh_anchor epoch))) p) (λ a. (a.epoch < epoch) ⊎ (a ≡ fresh_anchor epoch))
      at_place p old = ⊎_elim
          (λ here. subst (λ (o : Option Anchor). IfSome o (λ a. (a.epoch < epoch) ⊎ (a ≡ fresh_anchor epoch)))
          (sym (anchor_stands epoch (with_sector i s (anchor_bytes (fresh_anchor epoch))) p homed.first homed.last (ap (sector_at (with_sector i s (anchor_bytes (fresh_anchor epoch)))) here ∙ with_same i s (anchor_bytes (fresh_anchor epoch)) room))) (inr refl))
          (λ other. subst (λ (x : Sector). IfSome (option_and_then read_anchor (bytes_of x)) (λ a. (a.epoch < epoch) ⊎ (a ≡ fresh_anchor epoch))) (sym (with_other i s p (anchor_bytes (fresh_anchor epoch)) other)) old)
          (Rattle.fsd_sound.proofs.CommuteLaws.same_or p s)

stays_over : (bytes : List ℕ) (now left : Moment) (first copy : ℕ) → first ≤ 1 → copy ≤ 1 → IsWorn (open_damage now.windows) (stand (stand now.image 8 bytes first) 12 bytes copy) left.image → StaysBut 8 12 now left
stays_over bytes now left first copy once once_more worn s not_first not_copy =
    worn_twice (open_damage now.windows s) (sector_at now.image s) (sector_at (stand (stand now.image 8 bytes first) 12 bytes copy) s) (sector_at left.image s)
    (inl (two_written 8 12 bytes first copy once once_more now.image s not_first not_copy)) (worn.each s)

-- the anchors' writes leave every other sector
pub stays_in_part : (anchor : Anchor) (now left : Moment) → AnchorsIn anchor now left → StaysBut 8 12 now left
stays_in_part anchor now left part = stays_over (anchor_bytes anchor) now left part.first part.copy part.once (omega (arith, part.in_order, part.once)) part.holds.worn

pub stays_renewed : (anchor : Anchor) (now mid new : Moment) → Holds now (with_anchors anchor now.image 1 1) mid → IsWorn (open_damage mid.windows) mid.image new.image → StaysBut 8 12 now new
stays_renewed anchor now mid new holds done =
    let last : IsWorn (open_damage now.windows) mid.image new.image = subst (λ (w : Windows). IsWorn (open_damage w) mid.image new.image) holds.windows done in
    stays_over (anchor_bytes anchor) now new 1 1 (omega arith) (omega arith) (worn_trans (open_damage now.windows) _ mid.image new.image holds.worn last)

-- they stand then, but for what the run that is settled may wear
pub anchors_stand : (epoch : ℕ) (now mid new : Moment) → 12 < length now.image → Holds now (with_anchors (fresh_anchor epoch) now.image 1 1) mid → IsWorn (open_damage mid.windows) mid.image new.image
    → IsSome now.windows.next → new.windows ≡ settled now.windows.present now.windows.next → HasAnchorTwice (fresh_anchor epoch) new
anchors_stand epoch now mid new room holds done some is = (has 8 first, has 12 copy)
  where
    bytes_long : length (anchor_bytes (fresh_anchor epoch)) ≡ 512
    bytes_long = refl

    both : stand (stand now.image 8 (anchor_bytes (fresh_anchor epoch)) 1) 12 (anchor_bytes (fresh_anchor epoch)) 1 ≡ with_sector (with_sector now.image 8 (anchor_bytes (fresh_anchor epoch))) 12 (anchor_bytes (fresh_anchor epoch))
    both = ap (λ (i : Image). stand i 12 (anchor_bytes (fresh_anchor epoch)) 1) (stand_one now.image 8 (anchor_bytes (fresh_anchor epoch)) bytes_long) ∙ stand_one (with_sector now.image 8 (anchor_bytes (fresh_anchor epoch))) 12 (anchor_bytes (fresh_anchor epoch)) bytes_long

    first : sector_at (stand (stand now.image 8 (anchor_bytes (fresh_anchor epoch)) 1) 12 (anchor_bytes (fresh_anchor epoch)) 1) 8 ≡ Whole (anchor_bytes (fresh_anchor epoch))
    first =
        ap (λ (i : Image). sector_at i 8) both ∙ with_other (with_sector now.image 8 (anchor_bytes (fresh_anchor epoch))) 12 8 (anchor_bytes (fresh_anchor epoch)) (λ e. omega (arith, e))
        ∙ with_same now.image 8 (anchor_bytes (fresh_anchor epoch)) (omega (arith, room))

    copy : sector_at (stand (stand now.image 8 (anchor_bytes (fresh_anchor epoch)) 1) 12 (anchor_bytes (fresh_anchor epoch)) 1) 12 ≡ Whole (anchor_bytes (fresh_anchor epoch))
    copy = ap (λ (i : Image). sector_at i 12) both ∙ with_same (with_sector now.image 8 (anchor_bytes (fresh_anchor epoch))) 12 (anchor_bytes (fresh_anchor epoch)) (omega (arith, room, length-set now.image 8 (Whole (anchor_bytes (fresh_anchor epoch)))))

    worn : IsWorn (open_damage now.windows) (stand (stand now.image 8 (anchor_bytes (fresh_anchor epoch)) 1) 12 (anchor_bytes (fresh_anchor epoch)) 1) new.image
    worn = worn_trans (open_damage now.windows) _ mid.image new.image holds.worn (subst (λ (w : Windows). IsWorn (open_damage w) mid.image new.image) holds.windows done)

    has : (s : ℕ) → sector_at (stand (stand now.image 8 (anchor_bytes (fresh_anchor epoch)) 1) 12 (anchor_bytes (fresh_anchor epoch)) 1) s ≡ Whole (anchor_bytes (fresh_anchor epoch)) → Has (open_damage new.windows) new.image (anchor_bytes (fresh_anchor epoch)) s
    has s at = ⊎_elim (λ same. inl (same ∙ at))
        (λ hurt. inr (subst (λ (w : Windows). IsTrue (open_damage w s)) (sym is) (open_settled now.windows.present now.windows.next some s hurt.0), hurt.1)) (worn.each s)

-- ---- the end

module _ (l : Layout) (windows : List WeakRun) (choices : List (List (List ℕ))) (log : LogValue) (first : Moment) (c : IsCompleted l windows choices log first) (now : Moment) (at : IsMended l windows choices log first c now) (fits : log.anchor.epoch + 1 < 2 ^ 32) where
  abbrev epoch : ℕ
  epoch = log.anchor.epoch + 1

  abbrev bytes : List ℕ
  bytes = anchor_bytes (fresh_anchor (log.anchor.epoch + 1))

  bytes_long : length (anchor_bytes (fresh_anchor (log.anchor.epoch + 1))) ≡ 512
  bytes_long = refl

  room : 16 + 3 * l.third ≤ length at.image
  room = let bounds = planned_bounds l c.planned in omega (arith, bounds.third_least, bounds.sectors_least, at.shows.readable.roots.fits)

  from_clean : (s : ℕ) → 8 ≤ s → s < 16 + 3 * l.third → SectorWorn (weak_of windows s) (sector_at c.clean s) (sector_at at.image s)
  from_clean s from inside = subst (λ (x : Sector). SectorWorn (weak_of windows s) (sector_at c.clean s) x) (sym (at.body s from inside)) (c.worn.each s)

  stamps_now : EachStamp l at.image (λ stamp. stamp.epoch < log.anchor.epoch + 1)
  stamps_now s inside bytes is =
      let by : EachStamp l c.clean (λ stamp. stamp.epoch ≤ log.anchor.epoch) =
      subst (λ (o : Option Anchor). IfSome o (λ a. EachStamp l c.clean (λ stamp. stamp.epoch ≤ a.epoch))) c.taken
      (newer_one (λ a. EachStamp l c.clean (λ stamp. stamp.epoch ≤ a.epoch)) (anchor_at c.clean 8) (anchor_at c.clean 12) c.shows.readable.anchors.epochs.0 c.shows.readable.anchors.epochs.1) in
      let from = inside.0 in
      let to = inside.1 in
      stamp_more _ (by s inside bytes (whole_before (weak_of windows s) (sector_at c.clean s) (sector_at at.image s) bytes (from_clean s (omega (arith, from)) (omega (arith, to))) is))
    where
      stamp_more : (o : Option Stamp) → IfSome o (λ stamp. stamp.epoch ≤ log.anchor.epoch) → IfSome o (λ stamp. stamp.epoch < log.anchor.epoch + 1)
      stamp_more None p = tt
      stamp_more (Some stamp) p = omega (arith, p)

  older : AreOlder (log.anchor.epoch + 1) at.image
  older = (at_place 8 (omega arith) (omega arith) most.0, at_place 12 (omega arith) (omega arith) most.1)
    where
      most : EachAnchor c.clean (λ a. a.epoch ≤ log.anchor.epoch)
      most = newer_most (anchor_at c.clean 8) (anchor_at c.clean 12) log.anchor c.taken

      at_place : (p : ℕ) → 8 ≤ p → p < 16 → IfSome (anchor_at c.clean p) (λ a. a.epoch ≤ log.anchor.epoch) → IfSome (anchor_at at.image p) (λ a. (a.epoch < log.anchor.epoch + 1) ⊎ (a ≡ fresh_anchor (log.anchor.epoch + 1)))
      at_place p from low old = if_more (anchor_at at.image p) (λ a. a.epoch ≤ log.anchor.epoch) (λ a. (a.epoch < log.anchor.epoch + 1) ⊎ (a ≡ fresh_anchor (log.anchor.epoch + 1))) (λ a le. inl (omega (arith, le)))
          (worn_anchor (weak_of windows p) (sector_at c.clean p) (sector_at at.image p) (λ a. a.epoch ≤ log.anchor.epoch) (from_clean p from (omega (arith, low))) old)

  homed : IsHomed l (log.anchor.epoch + 1) c.pages at.image
  homed = record {
    planned = c.planned;
    long = at.shows.readable.roots.fits;
    root = at.root;
    root_copy = at.root_copy;
    first = omega arith;
    last = fits;
    stamps = stamps_now;
    size = each_size (newest l c.clean (records_by l c.clean log.anchor)) (all_pages l) c.pages (sym (ap (option_and_then (shown_by l c.clean)) c.taken) ∙ c.shown) ∙ length-range_with_len 0 l.pages;
    home = at.done;
  }

  abbrev one : Image
  one = with_sector at.image 8 (anchor_bytes (fresh_anchor (log.anchor.epoch + 1)))

  abbrev two : Image
  two = with_sector (with_sector at.image 8 (anchor_bytes (fresh_anchor (log.anchor.epoch + 1)))) 12 (anchor_bytes (fresh_anchor (log.anchor.epoch + 1)))

  homed_one : IsHomed l (log.anchor.epoch + 1) c.pages one
  homed_one = homed_on l (log.anchor.epoch + 1) c.pages at.image 8 (inl refl) (omega (arith, room)) homed

  room_one : 12 < length one
  room_one = omega (arith, room, length-set at.image 8 (Whole (anchor_bytes (fresh_anchor (log.anchor.epoch + 1)))))

  begun : IsBegun l (log.anchor.epoch + 1) c.pages two
  begun = record {
    homed = homed_on l (log.anchor.epoch + 1) c.pages one 12 (inr refl) room_one homed_one;
    anchor = with_other one 12 8 (anchor_bytes (fresh_anchor (log.anchor.epoch + 1))) (λ e. omega arith) ∙ with_same at.image 8 (anchor_bytes (fresh_anchor (log.anchor.epoch + 1))) (omega (arith, room));
    anchor_copy = with_same one 12 (anchor_bytes (fresh_anchor (log.anchor.epoch + 1))) room_one;
  }

  shows_one : ShowsPages l windows choices one
  shows_one = renewed_shows l windows (narrow l windows choices log first c) choices (log.anchor.epoch + 1) c.pages 8 12 at.image (inl (refl, refl)) (omega (arith, room)) homed older c.chosen at.shows

  shows_two : ShowsPages l windows choices two
  shows_two = renewed_shows l windows (narrow l windows choices log first c) choices (log.anchor.epoch + 1) c.pages 12 8 one (inr (refl, refl)) room_one homed_one
      (older_on l (log.anchor.epoch + 1) c.pages at.image 8 (inl refl) (omega (arith, room)) homed older) c.chosen shows_one

  others_two : (s : ℕ) → s ≢ 8 → s ≢ 12 → sector_at two s ≡ sector_at at.image s
  others_two s not_first not_copy = with_other one 12 s (anchor_bytes (fresh_anchor (log.anchor.epoch + 1))) not_copy ∙ with_other at.image 8 s (anchor_bytes (fresh_anchor (log.anchor.epoch + 1))) not_first

  behind_two : (s : ℕ) → 16 ≤ s → sector_at two s ≡ sector_at at.image s
  behind_two s from = others_two s (λ e. omega (arith, e, from)) (λ e. omega (arith, e, from))

  rest_two : SameElsewhere l first.image two
  rest_two s out = let is = elsewhere l s out in others_two s is.anchor is.anchor_copy ∙ at.rest s out

  open_two : IsOpen two
  open_two = (plain_is_open two 8 (fresh_anchor (log.anchor.epoch + 1)) begun.anchor, plain_is_open two 12 (fresh_anchor (log.anchor.epoch + 1)) begun.anchor_copy)

  body_closes : ClosesNone first.image at.image
  body_closes = closes_same first.image at.image (at.body 8 (omega arith) (omega arith)) (at.body 12 (omega arith) (omega arith))

  -- both roots are the layout's, and none is written
  says_own : (e : Image) → ((s : ℕ) → s ≢ 8 → s ≢ 12 → sector_at e s ≡ sector_at at.image s) → SaysBut l first.image e
  says_own e same k says =
      inr (own_root l k (weak_of windows) at.image (inl at.root, inl at.root_copy) (says_same k at.image e (λ s low. same s (λ is. omega (arith, is, low)) (λ is. omega (arith, is, low))) says))

  -- one of the new anchors says of no volume that it was closed, and the other is as it was
  one_closes : ClosesNone first.image one
  one_closes = (
    subst (λ (o : Option Anchor). IfSome o (λ a. closed_at first.image 8 ≡ Some a)) (sym (plain_is_open one 8 (fresh_anchor (log.anchor.epoch + 1)) (with_same at.image 8 (anchor_bytes (fresh_anchor (log.anchor.epoch + 1))) (omega (arith, room))))) tt,
    subst (λ (o : Option Anchor). IfSome o (λ a. closed_at first.image 12 ≡ Some a))
        (sym (ap (λ (x : Sector). option_and_then read_closed (bytes_of x)) (with_other at.image 8 12 (anchor_bytes (fresh_anchor (log.anchor.epoch + 1))) (λ e. omega arith)))) body_closes.1,
  )

  record Renewed (e : Image) : Type 0 where
    shows : ShowsPages l windows choices e
    same : (s : ℕ) → s ≢ 8 → s ≢ 12 → sector_at e s ≡ sector_at at.image s
    closes : ClosesNone first.image e

  stands_two : stand (stand at.image 8 bytes 1) 12 bytes 1 ≡ two
  stands_two = ap (λ (i : Image). stand i 12 bytes 1) (stand_one at.image 8 bytes bytes_long) ∙ stand_one one 12 bytes bytes_long

  renewed : (j k : ℕ) → k ≤ j → j ≤ 1 → Renewed (stand (stand at.image 8 bytes j) 12 bytes k)
  renewed zero zero le once = record { shows = at.shows; same = λ s not_first not_copy. refl; closes = body_closes }
  renewed zero (suc k) le once = absurd (omega (arith, le))
  renewed (suc zero) zero le once = subst Renewed (sym (stand_one at.image 8 bytes bytes_long)) (record { shows = shows_one; same = λ s not_first not_copy. with_other at.image 8 s bytes not_first; closes = one_closes })
  renewed (suc zero) (suc zero) le once = subst Renewed (sym stands_two) (record { shows = shows_two; same = others_two; closes = open_closes first.image two open_two })
  renewed (suc zero) (suc (suc k)) le once = absurd (omega (arith, le))
  renewed (suc (suc j)) k le once = absurd (omega (arith, once))

  pub anchors_stay : (left : Moment) → AnchorsIn (fresh_anchor (log.anchor.epoch + 1)) now left → StaysShown l windows choices first left
  anchors_stay left anchors =
      let is = renewed anchors.first anchors.copy anchors.in_order anchors.once in
      record {
        image = stand (stand at.image 8 bytes anchors.first) 12 bytes anchors.copy;
        holds = over_two first now left at.image 8 12 bytes anchors.first anchors.copy at.holds anchors.holds;
        shows = is.shows;
        log = λ s from inside. is.same s (λ e. omega (arith, e, from)) (λ e. omega (arith, e, from)) ∙ at.body s (omega (arith, from)) inside;
        closes = is.closes;
        says = says_own (stand (stand at.image 8 bytes anchors.first) 12 bytes anchors.copy) is.same;
        rest = λ s out. let other = elsewhere l s out in is.same s other.anchor other.anchor_copy ∙ at.rest s out;
      }

  -- ---- once both stand

  module _ (mid : Moment) (written : Holds now (stand (stand now.image 8 (anchor_bytes (fresh_anchor (log.anchor.epoch + 1))) 1) 12 (anchor_bytes (fresh_anchor (log.anchor.epoch + 1))) 1) mid) where
    holds_mid : Holds first two mid
    holds_mid = subst (λ (i : Image). Holds first i mid) stands_two (over_two first now mid at.image 8 12 bytes 1 1 at.holds written)

    pub stays_on : (left : Moment) → Wears mid left → StaysShown l windows choices first left
    stays_on left wears = record {
      image = two;
      holds = holds_wears first two mid left holds_mid wears;
      shows = shows_two;
      log = λ s from inside. behind_two s from ∙ at.body s (omega (arith, from)) inside;
      closes = open_closes first.image two open_two;
      says = says_own two others_two;
      rest = rest_two;
    }

    module _ (short : AreShort now.windows) (some : IsSome first.windows.next) (new : Moment) (done : Settles mid new) where
      named : (run : WeakRun) × (first.windows.next ≡ Some run)
      named = some_run first.windows.next some

      borne_next : BearsLast l (windows ++ named.0 ∷ [])
      borne_next = next_borne l windows named.0 (subst (λ (o : Option WeakRun). IfSome o (λ run. run.count ≤ longest_of l.kind)) named.1 c.short)

      apart_next : IsApart (gap_of l) (weak_of (windows ++ named.0 ∷ []))
      apart_next = borne_apart l (windows ++ named.0 ∷ []) borne_next

      narrow_next : IsNarrow (weak_of (windows ++ named.0 ∷ []))
      narrow_next = borne_narrow l (windows ++ named.0 ∷ []) borne_next

      mounted : IsMountedIn l windows named.0 c.pages new
      mounted = settles l windows named.0 (log.anchor.epoch + 1) c.pages first mid new two borne_next named.1 begun holds_mid done

      worn_new : IsWorn (open_damage first.windows) two new.image
      worn_new = worn_trans (open_damage first.windows) two mid.image new.image holds_mid.worn (subst (λ (w : Windows). IsWorn (open_damage w) mid.image new.image) holds_mid.windows done.image)

      worn_next : IsWorn (weak_of (windows ++ named.0 ∷ [])) two new.image
      worn_next = worn_more (open_damage first.windows) (weak_of (windows ++ named.0 ∷ [])) two new.image (open_in_next first.windows windows named.0 named.1) worn_new

      worn_last : IsWorn (weak_of windows) two new.image
      worn_last = open_is_weak first.windows windows two new.image c.ends worn_new

      open_new : IsOpen new.image
      open_new = stays_open two new.image (worn_closes (weak_of windows) two new.image worn_last) open_two

      pub settled_so : HasSettled l windows choices first new
      settled_so = record {
        after = record { run = named.0; settled = mounted.settled; pages = c.pages; chosen = c.chosen; shows = mounted.shows; opened = open_new };
        log = λ s from inside. worn_twice (weak_of windows s) (sector_at first.image s) (sector_at two s) (sector_at new.image s) (inl (behind_two s from ∙ at.body s (omega (arith, from)) inside)) (worn_last.each s);
        rest = λ s out. worn_twice (weak_of windows s) (sector_at first.image s) (sector_at two s) (sector_at new.image s) (inl (rest_two s out)) (worn_last.each s);
        says = λ k says. says_own two others_two k (says_worn k two new.image (weak_of windows) worn_last says);
        said = done.said ∙ holds_mid.said;
      }

      pub replayed : IsReplayed l windows choices (log.anchor.epoch + 1) new
      replayed =
          let bounds = planned_bounds l c.planned in
          record {
            after = record { run = named.0; settled = mounted.settled; pages = c.pages; chosen = c.chosen; shows = mounted.shows; opened = open_new };
            log = own_worn l (omega (arith, bounds.pages_most)) (fresh_anchor (log.anchor.epoch + 1)) fits (omega arith) (weak_of (windows ++ named.0 ∷ [])) apart_next two new.image worn_next [] (start l 1)
                (begun_own l (log.anchor.epoch + 1) c.pages two begun (windows ++ named.0 ∷ []));
            home = λ page lt. let is = begun.homed.home page lt in (
              has_worn (weak_of (windows ++ named.0 ∷ [])) two new.image (get_or c.pages page []) (home_a l page) worn_next (inl is.0),
              has_worn (weak_of (windows ++ named.0 ∷ [])) two new.image (get_or c.pages page []) (home_b l page) worn_next (inl is.1),
            );
          }

      pub begins_before : (left : Moment) → Before mid new left → StaysOrSettles l windows choices first left
      begins_before left (inl wears) = inl (stays_on left wears)
      begins_before left (inr is) = inr (subst (HasSettled l windows choices first) (sym is) settled_so)

    pub begins_failed : (new left : Moment) → Wears mid new → Before mid new left → StaysOrSettles l windows choices first left
    begins_failed new left failed (inl wears) = inl (stays_on left wears)
    begins_failed new left failed (inr is) = inl (subst (StaysShown l windows choices first) (sym is) (stays_on new failed))
