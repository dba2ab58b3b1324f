-- A volume's own log that has no record is empty in either form, so its roots may be turned.
use Rattle.std.proofs.Common.{◌≡◌, ℕ, ◌+◌, ◌*◌, ◌^◌, ◌<◌, ◌≤◌, List, [], length, Option, Some, None, sym, ap, subst, refl, ◌∙◌, arith}
use Rattle.std.specs.Prelude.{IfSome, option_and_then}
use Rattle.std.proofs.lemmas.List.{nil_from_length}
use Rattle.volume_layout.specs.declared.layout.Layout.{Layout}
use Rattle.volume_layout.specs.Layout.{turned}
use Rattle.fsd_formats.specs.declared.anchor.Anchor.{Anchor}
use Rattle.fsd_formats.specs.Anchors.{read_anchor}
use Rattle.sector_disk.specs.declared.sector.WeakRun.{WeakRun}
use Rattle.sector_disk.specs.Image.{IsWorn, sector_at}
use Rattle.sector_disk.proofs.Wear.{worn_refl}
use Rattle.fsd_log.specs.Judged.{Reader}
use Rattle.fsd_log.specs.Scan.{Head, IsLog, Placed, Walked, start, tape}
use Rattle.fsd_log.proofs.AnchorLaws.{read_first}
use Rattle.fsd_log.proofs.FreshLaws.{empty_log_from}
use Rattle.fsd_log.proofs.WalkLaws.{Goes, goes_far}
use Rattle.fsd_files.specs.Disk.{Image, Sectors, bytes_at, bytes_of}
use Rattle.fsd_sound.specs.Anchors.{anchor_at, anchor_of, EachAnchor}
use Rattle.fsd_sound.specs.Laid.{HasOwnLog, HasOwnRoots}
use Rattle.fsd_sound.specs.Shown.{records_by, shown_by}
use Rattle.fsd_sound.specs.Sound.{BearsLast, IsEither, LogsNothing, ShowsOne, ShowsPages, weak_of}
use Rattle.fsd_sound.proofs.AlikeLaws.{each_same, log_same}
use Rattle.fsd_sound.proofs.AnchorFacts.{IsAnchor, newer_one}
use Rattle.fsd_sound.proofs.CoverLaws.{is_anchor_at}
use Rattle.fsd_sound.proofs.LaidLaws.{own_worn}
use Rattle.fsd_sound.proofs.LogPlaces.{same_tape, scan_goes, start_in}
use Rattle.fsd_sound.proofs.SavedLaws.{closes_none, stays_open}
use Rattle.fsd_sound.proofs.SoundLaws.{each_anchor_after}
use Rattle.fsd_sound.proofs.WindowLaws.{borne_apart}

-- the head behind no record is the one in front of it
head_of_none : (l : Layout) (epoch first : ℕ) (disk : Reader) (h : Head) → IsLog l epoch first disk [] h → h ≡ start l first
head_of_none l epoch first disk h log = subst (λ (w : Walked). Goes l epoch disk (start l first) w.records w.head) log.scanned (scan_goes l epoch first disk)

pub log_turned : (l : Layout) (epoch first : ℕ) (disk : Reader) (h : Head) → epoch < 2 ^ 32 → first < 2 ^ 32 → IsLog l epoch first disk [] h → IsLog (turned l) epoch first disk [] h
log_turned l epoch first disk h fits small log =
    let head = head_of_none l epoch first disk h log in
    let number : h.number ≡ first = ap (λ (x : Head). x.number) head in
    subst (IsLog (turned l) epoch first disk []) (sym head) (empty_log_from (turned l) epoch first fits small disk (λ w m from. log.fresh w m (omega (arith, number, from))))

-- the volume's own log is that of the layout turned on an image that differs in its roots alone, which are turned
pub own_log_turned : (l : Layout) (a : Anchor) (h : Head) (weak : Sectors) (i j : Image) → a.epoch < 2 ^ 32 → a.first < 2 ^ 32 → a.third ≤ 2 → ((s : ℕ) → 8 ≤ s → s < 16 + 3 * l.third → sector_at j s ≡ sector_at i s)
    → HasOwnRoots (turned l) weak j → HasOwnLog l a [] h weak i → HasOwnLog (turned l) a [] h weak j
own_log_turned l a h weak i j fits small low front roots own = record {
  roots = roots;
  own = each_same l i j front (λ b. b ≡ a) (λ b. b ≡ a) (λ b low same. same) own.own;
  opened = stays_open i j (closes_none i j (λ bytes there. ap bytes_of (sym (front 8 (omega arith) (omega arith))) ∙ there) (λ bytes there. ap bytes_of (sym (front 12 (omega arith) (omega arith))) ∙ there)) own.opened;
  log = log_turned l a.epoch a.first (tape l a.third (bytes_at j)) h fits small (subst (λ t. IsLog l a.epoch a.first t [] h) (sym (same_tape l i j (log_same l i j front) a.third low)) own.log);
  laid = tt;
}

module _ (l : Layout) (few : l.pages ≤ 2 ^ 32) (a : Anchor) (h : Head) (windows : List WeakRun) (i : Image) (borne : BearsLast l windows) (own : HasOwnLog l a [] h (weak_of windows) i) where
  -- an anchor that stands is the volume's, and has no record
  none_by : (j : Image) → IsWorn (weak_of windows) i j → (b : Anchor) → IsAnchor b → b ≡ a → (records_by l j b ≡ []) × (records_by (turned l) j b ≡ [])
  none_by j w b is same =
      let mine : IsAnchor a = subst IsAnchor same is in
      let worn = own_worn l few a mine.epoch mine.third (weak_of windows) (borne_apart l windows borne) i j w [] h own in
      let other = log_turned l a.epoch a.first (tape l a.third (bytes_at j)) h mine.epoch mine.first worn.log in
      subst (λ (x : Anchor). (records_by l j x ≡ []) × (records_by (turned l) j x ≡ [])) (sym same) (ap (λ (x : Walked). x.records) worn.log.scanned, ap (λ (x : Walked). x.records) other.scanned)

  none_logged : (j : Image) → IsWorn (weak_of windows) i j → LogsNothing l j
  none_logged j w =
      let own_j : EachAnchor j (λ b. b ≡ a) = each_anchor_after (weak_of windows) i j w (λ b. b ≡ a) (λ b. b ≡ a) (λ b same. same) own.own in
      (at_place 8 (anchor_at j 8) refl own_j.0, at_place 12 (anchor_at j 12) refl own_j.1)
    where
      at_place : (s : ℕ) (o : Option Anchor) → anchor_at j s ≡ o → IfSome o (λ b. b ≡ a) → IfSome o (λ b. (records_by l j b ≡ []) × (records_by (turned l) j b ≡ []))
      at_place s None is same = tt
      at_place s (Some b) is same = none_by j w b (is_anchor_at j s b is) same

  pub empty_is_either : BearsLast (turned l) windows → l.sectors ≤ length i → IsEither l (turned l) windows i
  empty_is_either both fits = record { borne = both; fits = fits; empty = λ is. none_logged; opened = λ sized. own.opened }

-- ---- a log whose next record is the first

-- an anchor that stands names its first record
record IsNamed (a : Anchor) : Type 0 where
  is : IsAnchor a
  some : 1 ≤ a.first

named_at : (i : Image) (s : ℕ) → IfSome (anchor_at i s) IsNamed
named_at i s = by (anchor_at i s) refl
  where
    from : (bytes : Option (List ℕ)) (a : Anchor) → option_and_then read_anchor bytes ≡ Some a → 1 ≤ a.first
    from None a is = absurd (cc is)
    from (Some bytes) a is = read_first bytes a is

    by : (o : Option Anchor) → anchor_at i s ≡ o → IfSome o IsNamed
    by None is = tt
    by (Some a) is = record { is = is_anchor_at i s a is; some = from (bytes_of (sector_at i s)) a is }

module _ (l : Layout) (windows : List WeakRun) (choices : List (List (List ℕ))) (a : Anchor) (records : List Placed) (h : Head) (i : Image) (shows : ShowsPages l windows choices i) (own : HasOwnLog l a records h (weak_of windows) i) where
  named : IsNamed a
  named =
      by (anchor_of i) (shows.shows i (worn_refl (weak_of windows) i)) (newer_one (λ b. b ≡ a) (anchor_at i 8) (anchor_at i 12) own.own.0 own.own.1)
      (newer_one IsNamed (anchor_at i 8) (anchor_at i 12) (named_at i 8) (named_at i 12))
    where
      by : (o : Option Anchor) → ShowsOne choices (option_and_then (shown_by l i) o) → IfSome o (λ b. b ≡ a) → IfSome o IsNamed → IsNamed a
      by None one same there = absurd one
      by (Some b) one same there = subst IsNamed same there

  pub own_anchor : IsAnchor a
  own_anchor = named.is

  -- it has no record
  pub none_yet : h.number ≡ 1 → records ≡ []
  none_yet first =
      let disk = tape l a.third (bytes_at i) in
      let goes = subst (λ (w : Walked). Goes l a.epoch disk (start l a.first) w.records w.head) own.log.scanned (scan_goes l a.epoch a.first disk) in
      let far = goes_far l a.epoch disk (start l a.first) records h (start_in l a.first) goes in
      nil_from_length records (omega (arith, far.number, first, named.some))
