-- What an image shows of each page: its last image in the log, or else what stands whole at either home.
use Rattle.std.proofs.Common.{◌≡◌, ◌⊎◌, inl, inr, ℕ, ◌+◌, ◌<◌, List, [], get_or, Option, Some, None, refl, sym, ap, subst, ◌∙◌, arith}
use Rattle.std.proofs.lemmas.Option.{same_Some}
use Rattle.std.specs.Prelude.{IfSome, option_and_then}
use Rattle.std.specs.Option.{option_or}
use Rattle.volume_layout.specs.declared.layout.Layout.{Layout}
use Rattle.volume_layout.specs.Layout.{home_a, home_b}
use Rattle.fsd_formats.specs.declared.anchor.Anchor.{Anchor}
use Rattle.sector_disk.specs.declared.sector.WeakRun.{WeakRun}
use Rattle.sector_disk.specs.declared.sector.Sector.{Sector}
use Rattle.sector_disk.specs.declared.sector.Sector.TheVariants.{Whole, Damaged}
use Rattle.sector_disk.specs.Image.{sector_at}
use Rattle.sector_disk.proofs.Wear.{worn_refl}
use Rattle.fsd_log.specs.Images.{last_image}
use Rattle.fsd_files.specs.Disk.{Image, bytes_of, bytes_at, first_whole}
use Rattle.fsd_sound.specs.Anchors.{anchor_at, anchor_of}
use Rattle.fsd_sound.specs.Homes.{home_of}
use Rattle.fsd_sound.specs.Shown.{records_by, newest, each_of, all_pages, shown_by, shown}
use Rattle.fsd_sound.specs.Sound.{HasHomes, ShowsPages, weak_of}
use Rattle.fsd_sound.proofs.AnchorFacts.{newer_one}
use Rattle.fsd_sound.proofs.EachLaws.{each_at}

module _ (l : Layout) (i : Image) (t : Anchor) (taken : anchor_of i ≡ Some t) (pages : List (List ℕ)) (is : shown l i ≡ Some pages) (page : ℕ) (lt : page < l.pages) where
  newest_is : newest l i (records_by l i t) page ≡ Some (get_or pages page [])
  newest_is =
      let told : each_of (newest l i (records_by l i t)) (all_pages l) ≡ Some pages = sym (ap (option_and_then (shown_by l i)) taken) ∙ is in
      let at : page ≡ 0 + page = omega arith in
      ap (newest l i (records_by l i t)) at ∙ each_at (newest l i (records_by l i t)) 0 l.pages pages [] told page lt

  -- the page is logged
  pub logged_is : (x : List ℕ) → last_image page (records_by l i t) ≡ Some x → x ≡ get_or pages page []
  logged_is x last = same_Some x (get_or pages page []) (sym (ap (λ (o : Option (List ℕ)). option_or o (home_of l i page)) last) ∙ newest_is)

  -- it is not, and stands whole at one home
  pub home_is : (windows : List WeakRun) (choices : List (List (List ℕ))) → ShowsPages l windows choices i → last_image page (records_by l i t) ≡ None → (x : List ℕ) → (sector_at i (home_a l page) ≡ Whole x) ⊎ (sector_at i (home_b l page) ≡ Whole x) → x ≡ get_or pages page []
  home_is windows choices shows none x stands = same_Some x (get_or pages page []) (sym (at_home stands) ∙ shown_home)
    where
      shown_home : home_of l i page ≡ Some (get_or pages page [])
      shown_home = sym (ap (λ (o : Option (List ℕ)). option_or o (home_of l i page)) none) ∙ newest_is

      alike : (u v : List ℕ) → sector_at i (home_a l page) ≡ Whole u → sector_at i (home_b l page) ≡ Whole v → u ≡ v
      alike =
          let P : Anchor → Type 0 = λ a. (q : ℕ) → q < l.pages → last_image q (records_by l i a) ≡ None → (u v : List ℕ) → sector_at i (home_a l q) ≡ Whole u → sector_at i (home_b l q) ≡ Whole v → u ≡ v in
          let homes : HasHomes l i = shows.readable.homes i (worn_refl (weak_of windows) i) in
          subst (λ (o : Option Anchor). IfSome o P) taken (newer_one P (anchor_at i 8) (anchor_at i 12) homes.0 homes.1) page lt none

      by_first : (s : Sector) → sector_at i (home_a l page) ≡ s → sector_at i (home_b l page) ≡ Whole x → home_of l i page ≡ Some x
      by_first (Whole u) first second = ap (λ (s : Sector). first_whole (bytes_of s) (bytes_at i (home_b l page))) first ∙ ap (λ (v : List ℕ). Some v) (alike u x first second)
      by_first Damaged first second = ap (λ (s : Sector). first_whole (bytes_of s) (bytes_at i (home_b l page))) first ∙ ap bytes_of second

      at_home : (sector_at i (home_a l page) ≡ Whole x) ⊎ (sector_at i (home_b l page) ≡ Whole x) → home_of l i page ≡ Some x
      at_home (inl first) = ap (λ (s : Sector). first_whole (bytes_of s) (bytes_at i (home_b l page))) first
      at_home (inr second) = by_first (sector_at i (home_a l page)) refl second
