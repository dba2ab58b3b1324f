-- Two images that agree on the anchors and in the log have the same anchors, and by them the same records.
use Rattle.std.proofs.Common.{◌≡◌, ℕ, ◌+◌, ◌*◌, ◌<◌, ◌≤◌, List, ◌++◌, length, map, Option, Some, None, sym, ap, subst, ◌∙◌, arith}
use Rattle.std.specs.Prelude.{IsTrue, IfSome, option_and_then}
use Rattle.volume_layout.specs.declared.layout.Layout.{Layout}
use Rattle.volume_layout.specs.Layout.{turned}
use Rattle.fsd_formats.specs.declared.anchor.Anchor.{Anchor}
use Rattle.fsd_formats.specs.Anchors.{read_anchor}
use Rattle.sector_disk.specs.declared.sector.Sector.{Sector}
use Rattle.sector_disk.specs.declared.sector.Sector.TheVariants.{Damaged}
use Rattle.sector_disk.specs.Image.{sector_at}
use Rattle.fsd_log.specs.Scan.{Placed, Walked, newer_of}
use Rattle.fsd_files.specs.Disk.{Image, Sectors, bytes_of, bytes_at}
use Rattle.fsd_sound.specs.Anchors.{anchor_at, anchor_of, EachAnchor}
use Rattle.fsd_sound.specs.Laid.{IsLaid}
use Rattle.fsd_sound.specs.Shown.{records_by}
use Rattle.fsd_sound.specs.Sound.{IfWhole, HasRoots, HasAnchors, on_disk, disk_records, IsSuffix, LogsNothing, ScansAgree, HasLog, is_twin}
use Rattle.fsd_sound.proofs.AnchorFacts.{some_third, taken_third, if_some_on}
use Rattle.fsd_sound.proofs.LogPlaces.{SameLog, same_scan, scan_records, laid_same}
use Rattle.fsd_sound.proofs.SaidLaws.{some_same}

pub suffix_same : (xs xs' ys ys' : List Placed) → xs' ≡ xs → ys' ≡ ys → IsSuffix xs ys → IsSuffix xs' ys'
suffix_same xs xs' ys ys' e f s = (s.0, f ∙ s.1 ∙ ap (λ (r : List Placed). s.0 ++ r) (sym e))

module _ (l : Layout) (i j : Image) (front : (s : ℕ) → 8 ≤ s → s < 16 + 3 * l.third → sector_at j s ≡ sector_at i s) where
  pub log_same : SameLog l i j
  log_same s within = front s (let from = within.0 in omega (arith, from)) (let lt = within.1 in omega (arith, lt))

  anchor_same : (s : ℕ) → 8 ≤ s → s < 16 → anchor_at j s ≡ anchor_at i s
  anchor_same s from lt = ap (λ (x : Sector). option_and_then read_anchor (bytes_of x)) (front s from (omega arith))

  pub taken_same : anchor_of j ≡ anchor_of i
  taken_same = ap (λ o. newer_of o (anchor_at j 12)) (anchor_same 8 (omega arith) (omega arith)) ∙ ap (newer_of (anchor_at i 8)) (anchor_same 12 (omega arith) (omega arith))

  pub records_same : (a : Anchor) → a.third ≤ 2 → records_by l j a ≡ records_by l i a
  records_same a low = ap (λ (w : Walked). w.records) (same_scan l i j log_same a low)

  pub each_same : (P Q : Anchor → Type 0) → ((a : Anchor) → a.third ≤ 2 → P a → Q a) → EachAnchor i P → EachAnchor j Q
  each_same P Q on each = (
    subst (λ (o : Option Anchor). IfSome o Q) (sym (anchor_same 8 (omega arith) (omega arith))) (if_some_on P Q (anchor_at i 8) (some_third (bytes_at i 8)) on each.0),
    subst (λ (o : Option Anchor). IfSome o Q) (sym (anchor_same 12 (omega arith) (omega arith))) (if_some_on P Q (anchor_at i 12) (some_third (bytes_at i 12)) on each.1),
  )

  pub whole_same : (s : ℕ) (P : List ℕ → Type 0) → 8 ≤ s → s < 16 + 3 * l.third → IfWhole i s P → IfWhole j s P
  whole_same s P from lt whole = λ bytes is. whole bytes (sym (front s from lt) ∙ is)

  pub roots_same : (weak : Sectors) → length i ≤ length j → ((s : ℕ) → IsTrue (is_twin l s) → sector_at j s ≡ Damaged → sector_at i s ≡ Damaged) → ((s : ℕ) → s < 8 → sector_at j s ≡ sector_at i s) → HasRoots l weak i → HasRoots l weak j
  roots_same weak size unhurt head h = record {
    planned = h.planned;
    other = h.other;
    beside = h.beside;
    some = some_same l i j h.other (head 0 (omega arith)) (head 4 (omega arith)) h.some;
    first = λ bytes is. h.first bytes (sym (head 0 (omega arith)) ∙ is);
    second = λ bytes is. h.second bytes (sym (head 4 (omega arith)) ∙ is);
    fits = omega (arith, size, h.fits);
    twins = λ s twin damaged. h.twins s twin (unhurt s twin damaged);
  }

  pub anchors_same : HasAnchors l i → HasAnchors l j
  anchors_same h = record {
    first = whole_same 8 _ (omega arith) (omega arith) h.first;
    second = whole_same 12 _ (omega arith) (omega arith) h.second;
    epochs = each_same _ _ (λ a low stamps s in_log. whole_same s _ (let from = in_log.0 in omega (arith, from)) (let lt = in_log.1 in omega (arith, lt)) (stamps s in_log)) h.epochs;
  }

  disk_same : (a : Anchor) → a.third ≤ 2 → disk_records l j a ≡ disk_records l i a
  disk_same a low = ap (map (on_disk l a)) (records_same a low)

  agree_same : (a b taken : Option Anchor) → IfSome a (λ x. x.third ≤ 2) → IfSome b (λ x. x.third ≤ 2) → IfSome taken (λ x. x.third ≤ 2) → ScansAgree l i a b taken → ScansAgree l j a b taken
  agree_same None b taken p q r agree = tt
  agree_same (Some a) None taken p q r agree = tt
  agree_same (Some a) (Some b) None p q r agree = tt
  agree_same (Some a) (Some b) (Some t) p q r agree = λ e. (
    suffix_same (disk_records l i t) (disk_records l j t) (disk_records l i a) (disk_records l j a) (disk_same t r) (disk_same a p) (agree e).0,
    suffix_same (disk_records l i t) (disk_records l j t) (disk_records l i b) (disk_records l j b) (disk_same t r) (disk_same b q) (agree e).1,
  )

  pub has_log_same : (weak : Sectors) → HasLog l weak i → HasLog l weak j
  has_log_same weak h = record {
    agree = agree_on (anchor_at j 8) (anchor_at i 8) (anchor_at j 12) (anchor_at i 12) (anchor_of j) (anchor_of i) (anchor_same 8 (omega arith) (omega arith)) (anchor_same 12 (omega arith) (omega arith)) taken_same
        (agree_same (anchor_at i 8) (anchor_at i 12) (anchor_of i) (some_third (bytes_at i 8)) (some_third (bytes_at i 12)) (taken_third i) h.agree);
    laid = each_same _ _ (λ a low laid. subst (IsLaid l a weak j) (sym (records_same a low)) (laid_same l a weak i j log_same (records_by l i a) (scan_records l i a low) laid)) h.laid;
  }
    where
      agree_on : (a x b y t z : Option Anchor) → a ≡ x → b ≡ y → t ≡ z → ScansAgree l j x y z → ScansAgree l j a b t
      agree_on a x b y t z e f g agree = subst (λ o. ScansAgree l j o b t) (sym e) (subst (λ o. ScansAgree l j x o t) (sym f) (subst (λ o. ScansAgree l j x y o) (sym g) agree))

-- so nothing is logged on the one where nothing is on the other
pub unlogged_same : (l : Layout) (i j : Image) → ((s : ℕ) → 8 ≤ s → s < 16 + 3 * l.third → sector_at j s ≡ sector_at i s) → LogsNothing l i → LogsNothing l j
unlogged_same l i j front = each_same l i j front _ _ (λ a low none. (records_same l i j front a low ∙ none.0, records_same (turned l) i j front a low ∙ none.1))
