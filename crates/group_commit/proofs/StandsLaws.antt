-- Which pages a disk shows below those in memory.
use Rattle.std.proofs.Common.{◌≡◌, ℕ, ◌+◌, ◌<◌, List, Some, sym, ap, subst, ◌∙◌, arith}
use Rattle.std.specs.Prelude.{◌↔◌, IsFalse}
use Rattle.volume_layout.specs.declared.layout.Layout.{Layout}
use Rattle.run_table.specs.Space.{contains}
use Rattle.fsd_formats.specs.declared.anchor.Anchor.{Anchor}
use Rattle.sector_disk.specs.declared.sector.WeakRun.{WeakRun}
use Rattle.sector_disk.specs.Machine.{Moment}
use Rattle.fsd_log.specs.Scan.{Head, Placed, Walked}
use Rattle.fsd_files.specs.Disk.{Image}
use Rattle.fsd_sound.specs.Anchors.{anchor_of}
use Rattle.fsd_sound.specs.Mounted.{StandsOver, image_at}
use Rattle.fsd_sound.specs.Shown.{records_by, newest, each_of, all_pages, shown_by}
use Rattle.log_thirds.specs.Append.{IsIndexed, IsLogIn}
use Rattle.log_thirds.specs.LogValue.{LogValue}
use Rattle.group_commit.specs.KnownLaws.{own_shown}
use Rattle.group_commit.specs.Newest.{KnowsImages}
use Rattle.group_commit.proofs.ShownLaws.{GivesEach, gives_each}

module _ (l : Layout) (a : Anchor) (head : Head) (records : List Placed) (disk pages : List (List ℕ)) (dirty : List ℕ) (windows : List WeakRun) (i : Image) (over : StandsOver l a head records disk pages dirty windows i) where
  pub scanned : records_by l i a ≡ records
  scanned = ap (λ (w : Walked). w.records) over.own.log.scanned

  pub is_shown : (anchor_of i ≡ Some a) × (shown_by l i a ≡ Some disk)
  is_shown = own_shown l a windows disk i over.shows over.own.own

  pub gives_disk : GivesEach (newest l i records) 0 l.pages disk
  gives_disk = gives_each (newest l i records) 0 l.pages disk (ap (λ (q : List Placed). each_of (newest l i q) (all_pages l)) (sym scanned) ∙ is_shown.1)

  -- each page is the disk's
  pub page_shown : (k : ℕ) → k < l.pages → newest l i records k ≡ Some (image_at disk k)
  page_shown k lt = ap (newest l i records) (let e : k ≡ 0 + k = omega arith in e) ∙ gives_disk.each k lt

  -- and by the records that a scan gives
  pub page_newest : (k : ℕ) → k < l.pages → newest l i (records_by l i a) k ≡ Some (image_at disk k)
  page_newest k lt = ap (λ (q : List Placed). newest l i q k) scanned ∙ page_shown k lt

  -- one that does not wait is that in memory
  pub page_in_memory : (k : ℕ) → k < l.pages → IsFalse (contains dirty k) → newest l i (records_by l i a) k ≡ Some (image_at pages k)
  page_in_memory k lt out = page_newest k lt ∙ ap (λ (x : List ℕ). Some x) (over.clean.each k out)

-- what a log knows of the images on the disk is what it knows of its records
pub knows_images : (log : LogValue) (head : Head) (records : List Placed) (disk pages : List (List ℕ)) (dirty : List ℕ) (windows : List WeakRun) (i : Image) → StandsOver log.layout log.anchor head records disk pages dirty windows i → KnowsImages log i ↔ IsIndexed log records
knows_images log head records disk pages dirty windows i over =
    let same = scanned log.layout log.anchor head records disk pages dirty windows i over in (
      (λ known. subst (IsIndexed log) same known),
      (λ indexed. subst (IsIndexed log) (sym same) indexed),
    )

-- so it is of the log that stands at a moment
pub knows_log : (log : LogValue) (records : List Placed) (at : Moment) → IsLogIn log records at → IsIndexed log records → KnowsImages log at.image
knows_log log records at stands indexed = subst (IsIndexed log) (sym (ap (λ (w : Walked). w.records) stands.scanned)) indexed
