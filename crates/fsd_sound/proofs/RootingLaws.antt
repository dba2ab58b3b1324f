-- A mounted volume gets the roots of a layout beside its own: each image on the way is sound by the layout, and at the end
-- it shows the same pages by the other one.
use Rattle.std.proofs.Common.{◌≡◌, ◌⊎◌, inl, inr, ⊎_elim, ℕ, zero, suc, ◌<◌, ◌≤◌, List, [], ◌∷◌, length, refl, sym, ap, subst, ◌∙◌, arith}
use Rattle.std.specs.Prelude.{IsTrue}
use Rattle.std.proofs.lemmas.List.{length-set}
use Rattle.volume_layout.specs.declared.layout.Layout.{Layout}
use Rattle.volume_layout.specs.Layout.{is_data, IsBeside}
use Rattle.volume_layout.specs.Root.{root_bytes}
use Rattle.sector_disk.specs.declared.sector.Sector.TheVariants.{Whole}
use Rattle.sector_disk.specs.declared.sector.WeakRun.{WeakRun}
use Rattle.sector_disk.specs.Image.{sector_at, with_sector, stand, IsWorn}
use Rattle.sector_disk.proofs.Calm.{stand_one}
use Rattle.fsd_files.specs.Disk.{Image, bytes_of, in_runs}
use Rattle.fsd_files.specs.Files.{Change}
use Rattle.fsd_table.specs.Table.{told_in}
use Rattle.fsd_sound.specs.Laid.{HasOwnRoots}
use Rattle.fsd_sound.specs.Mounted.{IsMounted, Mounted, SameData}
use Rattle.fsd_sound.specs.Saved.{IsOpen}
use Rattle.fsd_sound.specs.Sound.{AllLieIn, EachBeside, IsEither, IsRootOf, IsSound, LiesIn, Says, ShowsPages, weak_of}
use Rattle.fsd_sound.specs.Windows.{IsNarrow}
use Rattle.fsd_sound.proofs.BesideLaws.{all_lie_covered, said_shows}
use Rattle.fsd_sound.proofs.CommuteLaws.{with_other, with_same}
use Rattle.fsd_sound.proofs.MendLaws.{beside_root_shows, rebased, rebased_other}
use Rattle.fsd_sound.proofs.MountedLaws.{forced_sound, one_of}
use Rattle.fsd_sound.proofs.SaidLaws.{beside_other, planned_beside, said_other, says_which, says_worn}
use Rattle.fsd_sound.proofs.SavedLaws.{ReadsLess, closes_none, stays_open, worn_reads}
use Rattle.fsd_sound.proofs.SoundLaws.{shows_still, weak_within_hurt}
use Rattle.fsd_sound.proofs.WindowLaws.{borne_narrow}

-- The roots of a layout, as many (0 or 1) at either place.
abbrev pub with_roots : Layout → Image → (first second : ℕ) → Image
with_roots k i first second = stand (stand i 0 (root_bytes k) first) 4 (root_bytes k) second

module _ (m : Mounted) (windows : List WeakRun) (h : List Change) (f : ℕ) (i : Image) (is : IsMounted m windows h f i) (k : Layout) (beside : IsBeside m.volume.layout k) (may : IsEither m.volume.layout k windows i)
    (covers : (s : ℕ) → IsTrue (is_data m.volume.layout s) → IsTrue (is_data k s)) where
  abbrev l : Layout
  l = m.volume.layout

  abbrev root : List ℕ
  root = root_bytes k

  narrow : IsNarrow (weak_of windows)
  narrow = borne_narrow m.volume.layout windows is.over.shows.readable.borne

  -- what is forced lies in its data area
  lie : AllLieIn k (is.disk ∷ [])
  lie =
      all_lie_covered m.volume.layout k covers (is.disk ∷ [])
      (λ pages one. one_of (λ ps. LiesIn m.volume.layout (told_in ps)) is.disk pages (subst (LiesIn m.volume.layout) (sym is.forced.told) is.forced.described.apart) one)

  -- ---- a root that is written

  -- roots were written, and nothing else
  record Rooted (c : Image) : Type 0 where
    shows : ShowsPages m.volume.layout windows (is.disk ∷ []) c
    other : IsRootOf m.volume.layout shows.readable.roots.other (root_bytes k)
    either : IsEither m.volume.layout k windows c
    same : (s : ℕ) → 5 ≤ s → sector_at c s ≡ sector_at i s
    size : length c ≡ length i

  none_rooted : Rooted i
  none_rooted = record {
    shows = rebased m.volume.layout k windows (is.disk ∷ []) i is.over.own.roots beside is.over.shows;
    other = inr (ap root_bytes (sym (rebased_other m.volume.layout k windows (is.disk ∷ []) i is.over.own.roots beside is.over.shows)));
    either = may;
    same = λ s from. refl;
    size = refl;
  }

  room : 4 < length i
  room = let fits = is.over.shows.readable.roots.fits in omega (arith, is.room, fits)

  one_rooted : (c : Image) (s : ℕ) → (s ≡ 0) ⊎ (s ≡ 4) → Rooted c → Rooted (with_sector c s root)
  one_rooted c s at r =
      let there : s < length c = ⊎_elim (λ e. omega (arith, room, r.size, e)) (λ e. omega (arith, room, r.size, e)) at in
      let written = with_same c s root there in
      let says : Says k (with_sector c s root) = ⊎_elim (λ e. inl (ap (sector_at (with_sector c s root)) (sym e) ∙ written)) (λ e. inr (ap (sector_at (with_sector c s root)) (sym e) ∙ written)) at in
      let shows = beside_root_shows m.volume.layout k windows narrow (is.disk ∷ []) s c r.shows beside r.other r.either lie at there in
      record {
        shows = shows;
        other = inr (ap root_bytes (said_other m.volume.layout (weak_of windows) (with_sector c s root) shows.readable.roots k beside says));
        either = shows.readable.either k beside says;
        same = λ p from. with_other c s p root (λ e. ⊎_elim (λ z. omega (arith, e, z, from)) (λ z. omega (arith, e, z, from)) at) ∙ r.same p from;
        size = length-set c s (Whole root) ∙ r.size;
      }

  part_rooted : (c : Image) (s : ℕ) → (s ≡ 0) ⊎ (s ≡ 4) → Rooted c → (stood : ℕ) → stood ≤ 1 → Rooted (stand c s root stood)
  part_rooted c s at r zero once = r
  part_rooted c s at r (suc zero) once = subst Rooted (sym (stand_one c s root refl)) (one_rooted c s at r)
  part_rooted c s at r (suc (suc n)) once = absurd (omega (arith, once))

  -- ---- each moment

  module _ (n more : ℕ) (once : n ≤ 1) (once_more : more ≤ 1) (j : Image) (worn : IsWorn (weak_of windows) (with_roots k i n more) j) where
    rooted : Rooted (with_roots k i n more)
    rooted = part_rooted (stand i 0 root n) 4 (inr refl) (part_rooted i 0 (inl refl) none_rooted n once) more once_more

    -- the data are only worn
    pub data_same : SameData m.volume.layout (in_runs windows) i j
    data_same s from = ⊎_elim (λ same. inl (same ∙ rooted.same s (omega (arith, from)))) (λ hurt. inr (weak_within_hurt windows s hurt.0, hurt.1)) (worn.each s)

    -- so are the anchors
    reads : (s : ℕ) → 5 ≤ s → ReadsLess i j s
    reads s from bytes is = ap bytes_of (sym (rooted.same s from)) ∙ worn_reads (weak_of windows) (with_roots k i n more) j s (worn.each s) bytes is

    opened : IsOpen j
    opened = stays_open i j (closes_none i j (reads 8 (omega arith)) (reads 12 (omega arith))) is.over.own.opened

    pub rooting_sound : IsSound m.volume.layout windows h f j
    rooting_sound =
        forced_sound m windows h f i j is data_same opened
        (shows_still m.volume.layout windows narrow (is.disk ∷ []) (with_roots k i n more) j worn rooted.shows)

    -- and no root says a third one
    pub rooting_says : EachBeside m.volume.layout j (λ x. x ≡ k)
    rooting_says x other says =
        let roots = rooted.shows.readable.roots in
        let c = with_roots k i n more in
        said_other m.volume.layout (weak_of windows) c roots x other (says_worn x c j (weak_of windows) worn says)
        ∙ sym (⊎_elim (λ same. absurd (beside_other m.volume.layout k beside same)) (λ one. one)
        (says_which m.volume.layout (weak_of windows) c roots k (planned_beside m.volume.layout k roots.planned beside) rooted.other))

  -- ---- the end

  abbrev one : Image
  one = with_sector i 0 root

  abbrev pub two : Image
  two = with_sector (with_sector i 0 root) 4 root

  pub two_is : with_roots k i 1 1 ≡ with_sector (with_sector i 0 (root_bytes k)) 4 (root_bytes k)
  two_is = ap (λ (c : Image). stand c 4 root 1) (stand_one i 0 root refl) ∙ stand_one one 4 root refl

  rooted_two : Rooted two
  rooted_two = one_rooted one 4 (inr refl) (one_rooted i 0 (inl refl) none_rooted)

  long_one : length one ≡ length i
  long_one = length-set i 0 (Whole root)

  first_root : sector_at two 0 ≡ Whole root
  first_root = with_other one 4 0 root (λ e. omega (arith, e)) ∙ with_same i 0 root (omega (arith, room))

  second_root : sector_at two 4 ≡ Whole root
  second_root = with_same one 4 root (omega (arith, room, long_one))

  pub two_roots : HasOwnRoots k (weak_of windows) two
  two_roots = (inl first_root, inl second_root)

  pub two_same : (s : ℕ) → 5 ≤ s → sector_at two s ≡ sector_at i s
  two_same = rooted_two.same

  own_lie : AllLieIn m.volume.layout (is.disk ∷ [])
  own_lie pages one = one_of (λ ps. LiesIn m.volume.layout (told_in ps)) is.disk pages (subst (LiesIn m.volume.layout) (sym is.forced.told) is.forced.described.apart) one

  -- by the other layout it shows the same pages
  pub two_shows : ShowsPages k windows (is.disk ∷ []) two
  two_shows = said_shows m.volume.layout windows (is.disk ∷ []) two k (inr (beside, inl first_root)) own_lie rooted_two.shows
