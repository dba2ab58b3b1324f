-- A mounted volume without a record in its log gets the roots of its layout turned: each image on the way is sound by
-- the layout, and at the end the volume is mounted with it turned.
use Rattle.std.proofs.Common.{◌≡◌, ◌⊎◌, inl, inr, ⊎_elim, ℕ, zero, suc, ◌^◌, ◌<◌, ◌≤◌, List, [], ◌∷◌, length, take, refl, sym, ap, subst, ◌∙◌, arith}
use Rattle.std.proofs.lemmas.List.{length-set}
use Rattle.volume_layout.specs.declared.layout.Layout.{Layout}
use Rattle.volume_layout.specs.Layout.{turned}
use Rattle.volume_layout.specs.Root.{root_bytes}
use Rattle.sector_disk.specs.declared.sector.Sector.TheVariants.{Whole}
use Rattle.sector_disk.specs.declared.sector.WeakRun.{WeakRun}
use Rattle.sector_disk.specs.Image.{sector_at, with_sector, stand, IsWorn}
use Rattle.sector_disk.proofs.Calm.{stand_one}
use Rattle.fsd_log.specs.Scan.{Placed}
use Rattle.fsd_files.specs.Disk.{Image, bytes_of, in_runs}
use Rattle.fsd_files.specs.Files.{Change, after}
use Rattle.fsd_files.proofs.WaitLaws.{open_in_area}
use Rattle.fsd_sound.specs.Laid.{HasOwnLog}
use Rattle.fsd_sound.specs.Mounted.{IsMounted, Mounted, SameData}
use Rattle.fsd_sound.specs.Sound.{BearsLast, EachBeside, IsEither, IsSound, SaysTurned, ShowsPages, weak_of}
use Rattle.fsd_sound.specs.Windows.{IsNarrow}
use Rattle.fsd_sound.proofs.CommuteLaws.{with_other, with_same}
use Rattle.fsd_sound.proofs.EmptyLaws.{empty_is_either, none_yet, own_anchor, own_log_turned}
use Rattle.fsd_sound.proofs.LaidLaws.{own_worn}
use Rattle.fsd_sound.proofs.MountedLaws.{data_behind, describes_data}
use Rattle.fsd_sound.proofs.OpenLaws.{open_worn}
use Rattle.fsd_sound.proofs.RootingLaws.{data_same, rooting_says, rooting_sound, two, two_is, two_roots, two_same, two_shows, with_roots}
use Rattle.fsd_sound.proofs.SoundLaws.{shows_still}
use Rattle.fsd_sound.proofs.WindowLaws.{borne_apart, borne_narrow}

module _ (m : Mounted) (windows : List WeakRun) (h : List Change) (f : ℕ) (i : Image) (is : IsMounted m windows h f i) (few : m.volume.layout.pages ≤ 2 ^ 32) (first : m.head.number ≡ 1) (both : BearsLast (turned m.volume.layout) windows) where
  abbrev k : Layout
  k = turned m.volume.layout

  own_empty : HasOwnLog m.volume.layout m.anchor [] m.head (weak_of windows) i
  own_empty =
      subst (λ (rs : List Placed). HasOwnLog m.volume.layout m.anchor rs m.head (weak_of windows) i)
      (none_yet m.volume.layout windows (is.disk ∷ []) m.anchor is.records m.head i is.over.shows is.over.own first) is.over.own

  may_turn : IsEither m.volume.layout k windows i
  may_turn = empty_is_either m.volume.layout few m.anchor m.head windows i is.over.shows.readable.borne own_empty both is.over.shows.readable.roots.fits

  -- ---- each moment

  module _ (n more : ℕ) (once : n ≤ 1) (once_more : more ≤ 1) (j : Image) (worn : IsWorn (weak_of windows) (with_roots k i n more) j) where
    pub turning_sound : IsSound m.volume.layout windows h f j
    turning_sound = rooting_sound m windows h f i is k (inl refl) may_turn (λ s there. there) n more once once_more j worn

    pub turning_says : EachBeside m.volume.layout j (λ x. x ≡ k)
    turning_says = rooting_says m windows h f i is k (inl refl) may_turn (λ s there. there) n more once once_more j worn

  -- ---- the end

  module _ (j : Image) (worn : IsWorn (weak_of windows) (with_roots k i 1 1) j) where
    abbrev end : Image
    end = two m windows h f i is k (inl refl) may_turn (λ s there. there)

    worn_two : IsWorn (weak_of windows) end j
    worn_two = subst (λ (c : Image). IsWorn (weak_of windows) c j) (two_is m windows h f i is k (inl refl) may_turn (λ s there. there)) worn

    pub own_turned : HasOwnLog k m.anchor [] m.head (weak_of windows) j
    own_turned =
        let a = own_anchor m.volume.layout windows (is.disk ∷ []) m.anchor is.records m.head i is.over.shows is.over.own in
        let own_two = own_log_turned m.volume.layout m.anchor m.head (weak_of windows) i end a.epoch a.first is.third (λ s from within. two_same m windows h f i is k (inl refl) may_turn (λ s there. there) s (omega (arith, from)))
        (two_roots m windows h f i is k (inl refl) may_turn (λ s there. there)) own_empty in
        own_worn k few m.anchor a.epoch is.third (weak_of windows) (borne_apart k windows both) end j worn_two [] m.head own_two

    shows_now : ShowsPages k windows (is.disk ∷ []) j
    shows_now = shows_still k windows (borne_narrow k windows both) (is.disk ∷ []) end j worn_two (two_shows m windows h f i is k (inl refl) may_turn (λ s there. there))

    pub turned_mounted : IsMounted (record m { volume = record m.volume { layout = k } }) windows h f j
    turned_mounted =
        let same = data_same m windows h f i is k (inl refl) may_turn (λ s there. there) 1 1 (omega arith) (omega arith) j worn in
        let described = describes_data m.volume.layout (in_runs windows) m.volume.files m.volume.entries i j same is.described in
        let forced = describes_data m.volume.layout (in_runs windows) (after (take f h)) is.forced.telling.entries i j same is.forced.described in
        let opened = open_worn (in_runs windows) i j m (λ s at. same s (data_behind m.volume.layout s (open_in_area m.volume is.spaced s at))) is.open_ones in
        record {
          files = is.files;
          described = record { lists = described.lists; apart = described.apart; kept = described.kept };
          count = is.count;
          few = is.few;
          epoch = is.epoch;
          third = is.third;
          room = is.room;
          in_memory = is.in_memory;
          spaced = record { apart = is.spaced.apart; area = is.spaced.area; drafts = is.spaced.drafts; removed = is.spaced.removed; held = is.spaced.held };
          open_ones = record { drafts = opened.drafts; held = opened.held };
          disk = is.disk;
          records = [];
          over = record { shows = shows_now; own = own_turned; clean = is.over.clean };
          forced = record {
            telling = is.forced.telling;
            told = is.forced.told;
            described = record { lists = forced.lists; apart = forced.apart; kept = forced.kept };
            taken = is.forced.taken;
            leaders = is.forced.leaders;
          };
        }
