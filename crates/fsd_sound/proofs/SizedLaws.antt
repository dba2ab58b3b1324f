-- By a layout of another number of sectors an image has the same log, the same homes and the same pages.
use Rattle.std.proofs.Common.{◌≡◌, ℕ, ◌*◌, zero, suc, ◌+◌, List, [], ◌∷◌, map, Option, Some, None, refl, sym, ap, subst, ◌∙◌}
use Rattle.std.specs.Prelude.{option_and_then, option_map, unwrap_or}
use Rattle.volume_layout.specs.declared.layout.Layout.{Layout}
use Rattle.volume_layout.specs.Layout.{with_sectors}
use Rattle.fsd_formats.specs.declared.anchor.Anchor.{Anchor}
use Rattle.fsd_formats.specs.Record.{Stamp}
use Rattle.fsd_log.specs.Images.{last_image}
use Rattle.fsd_log.specs.Judged.{Reader}
use Rattle.fsd_log.specs.Scan.{Head, Placed, Walked, next, on, scan, start, tape, walk}
use Rattle.fsd_table.specs.Table.{told_in}
use Rattle.fsd_files.specs.Disk.{Image, Sectors, bytes_at}
use Rattle.fsd_sound.specs.Anchors.{anchor_at, anchor_of}
use Rattle.fsd_sound.specs.Laid.{AllLaid, AllStand, GoodCopies, HasCopies, HasFront, IsLaid}
use Rattle.fsd_sound.specs.Shown.{all_pages, each_of, newest, records_by, shown, shown_by, told}
use Rattle.fsd_sound.specs.Sound.{HasAnchors, HasHomes, HasLog, ScansAgree, disk_records, on_disk}
use Rattle.fsd_sound.proofs.AlikeLaws.{suffix_same}
use Rattle.fsd_sound.proofs.TurnedLaws.{each_on}

module _ (l : Layout) (n : ℕ) where
  abbrev k : Layout
  k = with_sectors n l

  -- ---- the scan

  walk_sized : (most epoch : ℕ) (disk : Reader) (h : Head) → walk most (with_sectors n l) epoch disk h ≡ walk most l epoch disk h
  walk_sized zero epoch disk h = refl
  walk_sized (suc most) epoch disk h =
      ap (λ (rest : Head → Walked). unwrap_or (option_map (λ found. on found.0 (rest found.1)) (next l epoch disk h)) (record { records = []; head = h }))
      (λ i x. walk_sized most epoch disk x i)

  pub scan_sized : (epoch first : ℕ) (disk : Reader) → scan (with_sectors n l) epoch disk first ≡ scan l epoch disk first
  unfolding scan
  scan_sized epoch first disk = walk_sized (3 * l.third) epoch disk (start l first)

  pub records_sized : (i : Image) (a : Anchor) → records_by (with_sectors n l) i a ≡ records_by l i a
  records_sized i a = ap (λ (w : Walked). w.records) (scan_sized a.epoch a.first (tape l a.third (bytes_at i)))

  -- ---- what is laid

  module _ (a : Anchor) (weak : Sectors) (i : Image) where
    stand_sized : (s : ℕ) (all : List (List ℕ)) → AllStand l a weak i s all → AllStand (with_sectors n l) a weak i s all
    stand_sized s [] stand = tt
    stand_sized s (bytes ∷ more) stand = (stand.0, stand_sized (s + 1) more stand.1)

    front_sized : (r : Placed) → HasFront l a weak i r → HasFront (with_sectors n l) a weak i r
    front_sized r front = record { header = front.header; header_copy = front.header_copy; pages = stand_sized _ _ front.pages }

    copies_sized : (r : Placed) → HasCopies l a weak i r → HasCopies (with_sectors n l) a weak i r
    copies_sized r copies = stand_sized _ _ copies

    good_sized : (stamp : Stamp) (s : ℕ) (pages : List ℕ) (images : List (List ℕ)) → GoodCopies l a weak i stamp s pages images → GoodCopies (with_sectors n l) a weak i stamp s pages images
    good_sized stamp s [] images good = tt
    good_sized stamp s (page ∷ pages) [] good = absurd good
    good_sized stamp s (page ∷ pages) (image ∷ images) good = (good.0, good_sized stamp (s + 1) pages images good.1)

    laid_sized : (records : List Placed) → IsLaid l a weak i records → IsLaid (with_sectors n l) a weak i records
    laid_sized [] laid = tt
    laid_sized (r ∷ []) laid = (front_sized r laid.0, good_sized _ _ _ _ laid.1)
    laid_sized (r ∷ q ∷ records) laid = (front_sized r laid.0, copies_sized r laid.1, laid_sized (q ∷ records) laid.2)

    pub all_laid_sized : (records : List Placed) → AllLaid l a weak i records → AllLaid (with_sectors n l) a weak i records
    all_laid_sized [] laid = tt
    all_laid_sized (r ∷ records) laid = ((front_sized r laid.0.0, copies_sized r laid.0.1), all_laid_sized records laid.1)

  -- ---- an image

  module _ (i : Image) where
    disk_sized : (a : Anchor) → disk_records (with_sectors n l) i a ≡ disk_records l i a
    disk_sized a = ap (map (on_disk l a)) (records_sized i a)

    agree_sized : (a b t : Option Anchor) → ScansAgree l i a b t → ScansAgree (with_sectors n l) i a b t
    agree_sized None b t agree = tt
    agree_sized (Some a) None t agree = tt
    agree_sized (Some a) (Some b) None agree = tt
    agree_sized (Some a) (Some b) (Some t) agree = λ e. (
      suffix_same (disk_records l i t) (disk_records (with_sectors n l) i t) (disk_records l i a) (disk_records (with_sectors n l) i a) (disk_sized t) (disk_sized a) (agree e).0,
      suffix_same (disk_records l i t) (disk_records (with_sectors n l) i t) (disk_records l i b) (disk_records (with_sectors n l) i b) (disk_sized t) (disk_sized b) (agree e).1,
    )

    pub log_sized : (weak : Sectors) → HasLog l weak i → HasLog (with_sectors n l) weak i
    log_sized weak log = record {
      agree = agree_sized (anchor_at i 8) (anchor_at i 12) (anchor_of i) log.agree;
      laid = each_on i _ _ (λ a laid. subst (IsLaid (with_sectors n l) a weak i) (sym (records_sized i a)) (laid_sized a weak i (records_by l i a) laid)) log.laid;
    }

    pub homes_sized : HasHomes l i → HasHomes (with_sectors n l) i
    homes_sized homes = each_on i _ _ (λ a same page lt none x y. same page lt (ap (last_image page) (sym (records_sized i a)) ∙ none) x y) homes

    pub anchors_sized : HasAnchors l i → HasAnchors (with_sectors n l) i
    anchors_sized anchors = record { first = anchors.first; second = anchors.second; epochs = anchors.epochs }

    pub shown_sized : shown (with_sectors n l) i ≡ shown l i
    shown_sized = λ j. option_and_then (λ (a : Anchor). each_of (newest l i (records_sized i a j)) (all_pages l)) (anchor_of i)

    pub told_sized : told (with_sectors n l) i ≡ told l i
    told_sized = ap (option_and_then told_in) shown_sized
