-- Once the homes are whole and alike and the new anchors stand, the pages are shown, however the window wears.
use Rattle.std.proofs.Common.{◌≡◌, ◌⊎◌, inl, inr, ⊎_elim, ℕ, ◌≤◌, Bool, false, List, [], ◌∷◌, get_or, Option, Some, None, refl, sym, ap, subst, ◌∙◌, arith}
use Rattle.std.specs.Prelude.{IsTrue, IfSome, IsSome, option_and_then}
use Rattle.volume_layout.specs.declared.layout.Layout.{Layout}
use Rattle.volume_layout.specs.Layout.{turned}
use Rattle.volume_layout.specs.Root.{root_bytes}
use Rattle.fsd_formats.specs.declared.anchor.Anchor.{Anchor}
use Rattle.fsd_formats.specs.Anchors.{anchor_bytes, read_anchor}
use Rattle.sector_disk.specs.declared.sector.WeakRun.{WeakRun}
use Rattle.sector_disk.specs.declared.sector.Sector.{Sector}
use Rattle.sector_disk.specs.declared.sector.Sector.TheVariants.{Whole}
use Rattle.sector_disk.specs.Image.{sector_at, IsWorn}
use Rattle.sector_disk.proofs.Wear.{worn_refl}
use Rattle.fsd_sound.proofs.SavedLaws.{plain_is_open}
use Rattle.fsd_log.specs.Scan.{start, newer_of}
use Rattle.fsd_files.specs.Disk.{Image, Sectors, SectorWorn, bytes_of}
use Rattle.fsd_sound.specs.Anchors.{anchor_at, anchor_of, fresh_anchor}
use Rattle.fsd_sound.specs.Laid.{IsLaid, HasOwnLog, HasOwnRoots}
use Rattle.fsd_sound.specs.Shown.{records_by, shown_by, shown}
use Rattle.fsd_sound.specs.Sound.{HasRoots, EachStamp, HasAnchors, HasLog, ScansAgree, disk_records, IsSuffix, HasHomes, ShowsOne, ShowsPages, weak_of, is_twin, BearsLast}
use Rattle.fsd_sound.proofs.FreshLaws.{anchor_stands}
use Rattle.fsd_sound.proofs.SaidLaws.{own_alone}
use Rattle.fsd_sound.proofs.SectorFacts.{same_bytes, not_damaged}
use Rattle.fsd_sound.proofs.TwinLaws.{each_twin}
use Rattle.fsd_sound.proofs.HomedLaws.{stamps_up, fresh_log, no_records, homes_alike, pages_are}
use Rattle.fsd_sound.specs.Begun.{IsHomed, IsBegun}
use Rattle.fsd_sound.specs.Windows.{IsNarrow}
use Rattle.fsd_sound.proofs.WindowLaws.{borne_narrow}
use Rattle.fsd_sound.proofs.AnchorFacts.{either_same}

module _ (l : Layout) (epoch : ℕ) (pages : List (List ℕ)) (i : Image) (is : IsBegun l epoch pages i) where
  homed : IsHomed l epoch pages i
  homed = is.homed

  twin_is_whole : (s : ℕ) → IsTrue (is_twin l s) → (bytes : List ℕ) × (sector_at i s ≡ Whole bytes)
  twin_is_whole = each_twin l (λ s. (bytes : List ℕ) × (sector_at i s ≡ Whole bytes)) (root_bytes l, homed.root) (root_bytes l, homed.root_copy)
      (anchor_bytes (fresh_anchor epoch), is.anchor) (anchor_bytes (fresh_anchor epoch), is.anchor_copy)
      (λ page lt. (get_or pages page [], (homed.home page lt).0)) (λ page lt. (get_or pages page [], (homed.home page lt).1))

  has_roots : (weak : Sectors) → HasRoots l weak i
  has_roots weak = record {
    planned = homed.planned;
    other = turned l;
    beside = inl refl;
    some = inl (root_bytes l, homed.root, inl refl);
    first = λ bytes e. inl (same_bytes (sector_at i 0) (root_bytes l) bytes homed.root e);
    second = λ bytes e. inl (same_bytes (sector_at i 4) (root_bytes l) bytes homed.root_copy e);
    fits = homed.long;
    twins = λ s t d. let w = twin_is_whole s t in absurd (not_damaged (sector_at i s) w.0 w.1 d);
  }

  own_roots : (weak : Sectors) → HasOwnRoots l weak i
  own_roots weak = (inl homed.root, inl homed.root_copy)

  found_first : anchor_at i 8 ≡ Some (fresh_anchor epoch)
  found_first = anchor_stands epoch i 8 homed.first homed.last is.anchor

  found_second : anchor_at i 12 ≡ Some (fresh_anchor epoch)
  found_second = anchor_stands epoch i 12 homed.first homed.last is.anchor_copy

  whole_anchor : (s : ℕ) → sector_at i s ≡ Whole (anchor_bytes (fresh_anchor epoch)) → anchor_at i s ≡ Some (fresh_anchor epoch) → (bytes : List ℕ) → sector_at i s ≡ Whole bytes → IsSome (read_anchor bytes)
  whole_anchor s stands found bytes at =
      let read : read_anchor bytes ≡ Some (fresh_anchor epoch) = sym (ap (λ (x : Sector). option_and_then read_anchor (bytes_of x)) at) ∙ found in
      subst IsSome (sym read) refl

  has_anchors : HasAnchors l i
  has_anchors = record {
    first = whole_anchor 8 is.anchor found_first;
    second = whole_anchor 12 is.anchor_copy found_second;
    epochs = (
      subst (λ (o : Option Anchor). IfSome o (λ a. EachStamp l i (λ stamp. stamp.epoch ≤ a.epoch))) (sym found_first) (stamps_up l epoch pages i homed (λ s. false) i (λ s from. inl refl)),
      subst (λ (o : Option Anchor). IfSome o (λ a. EachStamp l i (λ stamp. stamp.epoch ≤ a.epoch))) (sym found_second) (stamps_up l epoch pages i homed (λ s. false) i (λ s from. inl refl)),
    );
  }

  -- ---- worn

  module _ (weak : Sectors) (j : Image) (w : IsWorn weak i j) where
    -- an anchor's copy is the new one, or is gone
    abbrev IsNew : Option Anchor → Type 0
    IsNew o = (o ≡ Some (fresh_anchor epoch)) ⊎ (o ≡ None)

    copy_worn : (s : ℕ) → anchor_at i s ≡ Some (fresh_anchor epoch) → IsNew (anchor_at j s)
    copy_worn s found = ⊎_elim
        (λ same. inl (ap (λ (x : Sector). option_and_then read_anchor (bytes_of x)) same ∙ found))
        (λ hurt. inr (ap (λ (x : Sector). option_and_then read_anchor (bytes_of x)) hurt.1)) (w.each s)

    each_copy : (P : Anchor → Type 0) (s : ℕ) → anchor_at i s ≡ Some (fresh_anchor epoch) → P (fresh_anchor epoch) → IfSome (anchor_at j s) P
    each_copy P s found p = ⊎_elim (λ e. subst (λ (x : Option Anchor). IfSome x P) (sym e) p) (λ e. subst (λ (x : Option Anchor). IfSome x P) (sym e) tt) (copy_worn s found)

    both_copies : (P : Anchor → Type 0) → P (fresh_anchor epoch) → IfSome (anchor_at j 8) P × IfSome (anchor_at j 12) P
    both_copies P p = (each_copy P 8 found_first p, each_copy P 12 found_second p)

    suffix_of : (a : Anchor) → IsNew (Some a) → (taken : Anchor) → IsNew (Some taken) → IsSuffix (disk_records l j taken) (disk_records l j a)
    suffix_of a p taken q = ([], ap (disk_records l j) (same a p ∙ sym (same taken q)))
      where
        same : (x : Anchor) → IsNew (Some x) → x ≡ fresh_anchor epoch
        same x (inl e) = cc
        same x (inr e) = absurd cc

    scans_agree : (a b taken : Option Anchor) → IsNew a → IsNew b → IsNew taken → ScansAgree l j a b taken
    scans_agree None b taken p q r = tt
    scans_agree (Some a) None taken p q r = tt
    scans_agree (Some a) (Some b) None p q r = tt
    scans_agree (Some a) (Some b) (Some taken) p q r = λ e. (suffix_of a p taken r, suffix_of b q taken r)

    homes_worn : HasHomes l j
    homes_worn = both_copies _ (λ page lt none x y a b. homes_alike l epoch pages i homed weak j (λ s from. w.each s) page lt x y a b)

    module _ (narrow : IsNarrow weak) where
      taken_is : anchor_of j ≡ Some (fresh_anchor epoch)
      taken_is = by_copies (w.each 8) (w.each 12)
        where
          at : (s : ℕ) → Option Anchor
          at s = anchor_at j s

          by_copies : SectorWorn (weak 8) (sector_at i 8) (sector_at j 8) → SectorWorn (weak 12) (sector_at i 12) (sector_at j 12) → anchor_of j ≡ Some (fresh_anchor epoch)
          by_copies (inl e) (inl g) =
              ap (λ (s : Sector). newer_of (option_and_then read_anchor (bytes_of s)) (anchor_at j 12)) e
              ∙ ap (λ (s : Sector). newer_of (anchor_at i 8) (option_and_then read_anchor (bytes_of s))) g
              ∙ (λ k. newer_of (found_first k) (found_second k))
              ∙ ap (λ (x : Anchor). Some x) (either_same (is_newer_of (fresh_anchor epoch)) (fresh_anchor epoch))
            where
              is_newer_of : Anchor → Bool
              is_newer_of a = Rattle.fsd_log.specs.Scan.is_newer a a
          by_copies (inl e) (inr d) =
              ap (λ (s : Sector). newer_of (option_and_then read_anchor (bytes_of s)) (anchor_at j 12)) e
              ∙ ap (λ (s : Sector). newer_of (anchor_at i 8) (option_and_then read_anchor (bytes_of s))) d.1
              ∙ ap (λ (o : Option Anchor). newer_of o None) found_first
          by_copies (inr d) (inl g) =
              ap (λ (s : Sector). newer_of (option_and_then read_anchor (bytes_of s)) (anchor_at j 12)) d.1
              ∙ ap (λ (s : Sector). newer_of None (option_and_then read_anchor (bytes_of s))) g
              ∙ ap (λ (o : Option Anchor). newer_of None o) found_second
          by_copies (inr d) (inr g) = absurd (narrow 8 12 (omega arith) d.0 g.0)

      pub shown_is : shown l j ≡ Some pages
      shown_is = ap (option_and_then (shown_by l j)) taken_is ∙ pages_are l epoch pages i homed weak j (λ s from. w.each s) narrow

      pub log_is : HasLog l weak j
      log_is = record {
        agree = scans_agree (anchor_at j 8) (anchor_at j 12) (anchor_of j) (copy_worn 8 found_first) (copy_worn 12 found_second) (inl taken_is);
        laid = both_copies (λ a. IsLaid l a weak j (records_by l j a)) (subst (IsLaid l (fresh_anchor epoch) weak j) (sym (no_records l epoch pages i homed weak j (λ s from. w.each s))) tt);
      }

  pub begun_shows : (windows : List WeakRun) → BearsLast l windows → ShowsPages l windows (pages ∷ []) i
  begun_shows windows borne = let narrow = borne_narrow l windows borne in record {
    readable = record {
      borne = borne;
      roots = has_roots (weak_of windows);
      either = λ k beside says. absurd (own_alone l k (weak_of windows) i homed.planned (own_roots (weak_of windows)) beside says);
      anchors = has_anchors;
      log = λ j w. log_is (weak_of windows) j w narrow;
      homes = λ j w. homes_worn (weak_of windows) j w;
    };
    within = λ k beside says. absurd (own_alone l k (weak_of windows) i homed.planned (own_roots (weak_of windows)) beside says);
    shows = λ j w. subst (ShowsOne (pages ∷ [])) (sym (shown_is (weak_of windows) j w narrow)) (0, omega arith, refl);
  }

  pub begun_own : (windows : List WeakRun) → HasOwnLog l (fresh_anchor epoch) [] (start l 1) (weak_of windows) i
  begun_own windows = record {
    roots = own_roots (weak_of windows);
    own = both_copies (weak_of windows) i (worn_refl (weak_of windows) i) (λ b. b ≡ fresh_anchor epoch) refl;
    opened = (plain_is_open i 8 (fresh_anchor epoch) is.anchor, plain_is_open i 12 (fresh_anchor epoch) is.anchor_copy);
    log = fresh_log l epoch pages i homed (weak_of windows) i (λ s from. inl refl);
    laid = tt;
  }
