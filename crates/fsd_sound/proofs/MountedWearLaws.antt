-- A mounted volume stays mounted however a narrow run wears.
use Rattle.std.proofs.Common.{◌≡◌, inl, inr, ⊎_elim, ℕ, ◌^◌, ◌≤◌, List, [], ◌∷◌, take, Option, Some, None, refl, subst}
use Rattle.std.specs.Prelude.{IfSome, option_and_then}
use Rattle.sector_disk.specs.declared.sector.WeakRun.{WeakRun}
use Rattle.sector_disk.specs.Image.{IsWorn}
use Rattle.sector_disk.proofs.Wear.{worn_refl}
use Rattle.volume_layout.specs.declared.layout.Layout.{Layout}
use Rattle.volume_layout.specs.Kinds.{gap_of}
use Rattle.fsd_formats.specs.declared.anchor.Anchor.{Anchor}
use Rattle.fsd_formats.specs.declared.entry.Entry.{Entry}
use Rattle.fsd_files.specs.Disk.{Image, in_runs}
use Rattle.fsd_files.specs.Files.{Files, Change, after}
use Rattle.fsd_files.specs.Kept.{Describes}
use Rattle.fsd_files.proofs.WearLaws.{kept_still}
use Rattle.fsd_sound.specs.Anchors.{anchor_at, anchor_of, EachAnchor}
use Rattle.fsd_sound.specs.Mounted.{Mounted, IsMounted}
use Rattle.fsd_sound.specs.Shown.{shown_by}
use Rattle.fsd_sound.specs.Sound.{ShowsOne, ShowsPages, weak_of}
use Rattle.fsd_sound.specs.Windows.{IsApart}
use Rattle.fsd_sound.proofs.AnchorFacts.{IsAnchor, newer_one}
use Rattle.fsd_sound.proofs.CoverLaws.{is_anchor_at}
use Rattle.fsd_sound.proofs.LaidLaws.{own_worn}
use Rattle.fsd_sound.proofs.OpenLaws.{open_worn}
use Rattle.fsd_sound.proofs.SoundLaws.{shows_still, weak_within_hurt}
use Rattle.fsd_sound.proofs.WindowLaws.{apart_narrow}

-- ---- an anchor stands

each_is : (i : Image) (a : Anchor) → EachAnchor i (λ b. b ≡ a) → EachAnchor i (λ b. IsAnchor a)
each_is i a own = (at_place 8 (anchor_at i 8) refl own.0, at_place 12 (anchor_at i 12) refl own.1)
  where
    at_place : (s : ℕ) (o : Option Anchor) → anchor_at i s ≡ o → IfSome o (λ b. b ≡ a) → IfSome o (λ b. IsAnchor a)
    at_place s None is own = tt
    at_place s (Some b) is own = subst IsAnchor own (is_anchor_at i s b is)

-- the log's own anchor is one that a sector may have
own_anchor : (l : Layout) (windows : List WeakRun) (choices : List (List (List ℕ))) (a : Anchor) (i : Image) → ShowsPages l windows choices i → EachAnchor i (λ b. b ≡ a) → IsAnchor a
own_anchor l windows choices a i shows own =
    let each = each_is i a own in
    by_taken (anchor_of i) (shows.shows i (worn_refl (weak_of windows) i)) (newer_one (λ b. IsAnchor a) (anchor_at i 8) (anchor_at i 12) each.0 each.1)
  where
    by_taken : (o : Option Anchor) → ShowsOne choices (option_and_then (shown_by l i) o) → IfSome o (λ b. IsAnchor a) → IsAnchor a
    by_taken None shows is = absurd shows
    by_taken (Some t) shows is = is

-- ---- the volume

module _ (m : Mounted) (windows : List WeakRun) (h : List Change) (f : ℕ) (i j : Image) (small : m.volume.layout.pages ≤ 2 ^ 32) (apart : IsApart (gap_of m.volume.layout) (weak_of windows)) (w : IsWorn (weak_of windows) i j) where
  described_still : (files : Files) (entries : List Entry) → Describes m.volume.layout (in_runs windows) i files entries → Describes m.volume.layout (in_runs windows) j files entries
  described_still files entries d = record { lists = d.lists; apart = d.apart; kept = kept_still (weak_of windows) (in_runs windows) i j files entries (weak_within_hurt windows) w d.kept }

  pub mounted_still : IsMounted m windows h f i → IsMounted m windows h f j
  mounted_still is =
      let anchor = own_anchor m.volume.layout windows (is.disk ∷ []) m.anchor i is.over.shows is.over.own.own in
      record {
        files = is.files;
        described = described_still m.volume.files m.volume.entries is.described;
        count = is.count;
        few = is.few;
        epoch = is.epoch;
        third = is.third;
        room = is.room;
        in_memory = is.in_memory;
        spaced = is.spaced;
        open_ones = open_worn (in_runs windows) i j m (λ s at. ⊎_elim inl (λ worn. inr (weak_within_hurt windows s worn.0, worn.1)) (w.each s)) is.open_ones;
        disk = is.disk;
        records = is.records;
        over = record {
          shows = shows_still m.volume.layout windows (apart_narrow m.volume.layout windows apart) (is.disk ∷ []) i j w is.over.shows;
          own = own_worn m.volume.layout small m.anchor anchor.epoch is.third (weak_of windows) apart i j w is.records m.head is.over.own;
          clean = is.over.clean;
        };
        forced = record {
          telling = is.forced.telling;
          told = is.forced.told;
          described = described_still (after (take f h)) is.forced.telling.entries is.forced.described;
          taken = is.forced.taken;
          leaders = is.forced.leaders;
        };
      }
