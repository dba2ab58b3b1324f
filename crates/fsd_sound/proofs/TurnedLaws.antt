-- An image on which nothing is logged has the same log, the same homes and the same pages by the layout turned.
use Rattle.std.proofs.Common.{◌≡◌, inl, inr, ⊎_elim, ℕ, List, [], map, Option, Some, None, refl, sym, ap, subst, ◌∙◌}
use Rattle.std.specs.Prelude.{IfSome, option_and_then}
use Rattle.volume_layout.specs.declared.layout.Layout.{Layout}
use Rattle.volume_layout.specs.Layout.{turned}
use Rattle.volume_layout.proofs.TurnedLaws.{turned_twice}
use Rattle.fsd_formats.specs.declared.anchor.Anchor.{Anchor}
use Rattle.sector_disk.specs.declared.sector.WeakRun.{WeakRun}
use Rattle.sector_disk.specs.Image.{IsWorn}
use Rattle.fsd_log.specs.Images.{last_image}
use Rattle.fsd_log.specs.Scan.{Placed}
use Rattle.fsd_table.specs.Table.{Telling, told_in}
use Rattle.fsd_files.specs.Disk.{Image, Sectors, in_runs}
use Rattle.fsd_files.specs.Files.{Change}
use Rattle.fsd_sound.specs.Anchors.{anchor_at, anchor_of, EachAnchor}
use Rattle.fsd_sound.specs.Laid.{IsLaid}
use Rattle.fsd_sound.specs.Shown.{records_by, newest, each_of, all_pages, shown_by, shown, told}
use Rattle.fsd_sound.specs.Sound.{HasAnchors, HasHomes, HasLog, LogsNothing, ScansAgree, disk_records, on_disk}
use Rattle.fsd_sound.proofs.AnchorFacts.{each_both, newer_one}

-- what holds of each anchor for another reason
pub each_on : (i : Image) (P Q : Anchor → Type 0) → ((a : Anchor) → P a → Q a) → EachAnchor i P → EachAnchor i Q
each_on i P Q on each = (if_on (anchor_at i 8) each.0, if_on (anchor_at i 12) each.1)
  where
    if_on : (o : Option Anchor) → IfSome o P → IfSome o Q
    if_on None p = tt
    if_on (Some a) p = on a p

-- ---- one image, on which nothing is logged

module _ (l : Layout) (j : Image) (empty : LogsNothing l j) where
  -- the anchor that is taken has no record in either form
  taken_empty : IfSome (anchor_of j) (λ a. (records_by l j a ≡ []) × (records_by (turned l) j a ≡ []))
  taken_empty = newer_one _ (anchor_at j 8) (anchor_at j 12) empty.0 empty.1

  pub unlogged_turned : LogsNothing (turned l) j
  unlogged_turned = each_on j _ _ (λ a none. (none.1, subst (λ (k : Layout). records_by k j a ≡ []) (sym (turned_twice l)) none.0)) empty

  -- ---- the log

  agree_empty : (a b t : Option Anchor) → IfSome a (λ x. records_by (turned l) j x ≡ []) → IfSome b (λ x. records_by (turned l) j x ≡ []) → IfSome t (λ x. records_by (turned l) j x ≡ []) → ScansAgree (turned l) j a b t
  agree_empty None b t p q r = tt
  agree_empty (Some a) None t p q r = tt
  agree_empty (Some a) (Some b) None p q r = tt
  agree_empty (Some a) (Some b) (Some t) p q r = λ e. (([], none a p ∙ sym (none t r)), ([], none b q ∙ sym (none t r)))
    where
      none : (x : Anchor) → records_by (turned l) j x ≡ [] → disk_records (turned l) j x ≡ []
      none x is = ap (map (on_disk (turned l) x)) is

  pub log_turned : (weak : Sectors) → HasLog (turned l) weak j
  log_turned weak =
      let other : EachAnchor j (λ a. records_by (turned l) j a ≡ []) = each_on j _ _ (λ a none. none.1) empty in
      record {
        agree = agree_empty (anchor_at j 8) (anchor_at j 12) (anchor_of j) other.0 other.1 (newer_one _ (anchor_at j 8) (anchor_at j 12) other.0 other.1);
        laid = each_on j _ _ (λ a none. subst (IsLaid (turned l) a weak j) (sym none) tt) other;
      }

  pub homes_turned : HasHomes l j → HasHomes (turned l) j
  homes_turned homes = each_on j _ _ (λ a both page lt none x y. both.1 page lt (ap (last_image page) both.0.0) x y) (each_both j _ _ empty homes)

  -- ---- what is shown

  pub shown_turned : shown (turned l) j ≡ shown l j
  shown_turned = by_anchor (anchor_of j) taken_empty
    where
      by_anchor : (o : Option Anchor) → IfSome o (λ a. (records_by l j a ≡ []) × (records_by (turned l) j a ≡ [])) → option_and_then (shown_by (turned l) j) o ≡ option_and_then (shown_by l j) o
      by_anchor None none = refl
      by_anchor (Some a) none = ap (λ (records : List Placed). each_of (newest l j records) (all_pages l)) (none.1 ∙ sym none.0)

-- ---- anchors

pub anchors_turned : (l : Layout) (i : Image) → HasAnchors l i → HasAnchors (turned l) i
anchors_turned l i anchors = record { first = anchors.first; second = anchors.second; epochs = anchors.epochs }
