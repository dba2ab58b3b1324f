-- A disk whose homes are whole and alike, and whose log has nothing of an epoch, worn, with any anchors.
use Rattle.std.proofs.Common.{◌≡◌, inl, inr, ℕ, ◌-◌, ◌<◌, ◌≤◌, Bool, List, [], map, get_or, Option, Some, None, sym, ap, ◌∙◌, arith}
use Rattle.std.specs.Prelude.{IsTrue, IfSome}
use Rattle.std.specs.List.{range_with_len}
use Rattle.volume_layout.specs.declared.layout.Layout.{Layout}
use Rattle.volume_layout.specs.Layout.{home_a, home_b}
use Rattle.volume_layout.proofs.RootLaws.{planned_bounds}
use Rattle.sector_disk.specs.declared.sector.Sector.{Sector}
use Rattle.sector_disk.specs.declared.sector.Sector.TheVariants.{Whole}
use Rattle.sector_disk.specs.Image.{sector_at}
use Rattle.fsd_log.specs.Borne.{borne_by}
use Rattle.fsd_log.specs.Scan.{Placed, Walked, IsLog, start, tape}
use Rattle.fsd_files.specs.Disk.{Image, Sectors, SectorWorn, bytes_of, bytes_at, first_whole}
use Rattle.fsd_sound.specs.Anchors.{fresh_anchor}
use Rattle.fsd_sound.specs.Homes.{home_of}
use Rattle.fsd_sound.specs.Shown.{records_by, newest, all_pages, shown_by}
use Rattle.fsd_sound.specs.Sound.{EachStamp}
use Rattle.fsd_sound.specs.Begun.{IsHomed}
use Rattle.fsd_sound.specs.Windows.{IsNarrow}
use Rattle.fsd_sound.proofs.AnchorFacts.{epoch_empty}
use Rattle.fsd_sound.proofs.EachLaws.{all_in_range, each_of_all, items_by_place}
use Rattle.fsd_sound.proofs.SectorFacts.{same_bytes, whole_before}

-- what is read of either copy, of which wear reaches one at most
pub either_reads : (bytes : List ℕ) (b c : Bool) (x y x' y' : Sector) → (IsTrue b → IsTrue c → ⊥) → SectorWorn b x x' → SectorWorn c y y' → x ≡ Whole bytes → y ≡ Whole bytes
    → first_whole (bytes_of x') (bytes_of y') ≡ Some bytes
either_reads bytes b c x y x' y' apart (inl e) v w z = ap (λ (s : Sector). first_whole (bytes_of s) (bytes_of y')) (e ∙ w)
either_reads bytes b c x y x' y' apart (inr d) (inl f) w z = ap (λ (s : Sector). first_whole (bytes_of s) (bytes_of y')) d.1 ∙ ap bytes_of (f ∙ z)
either_reads bytes b c x y x' y' apart (inr d) (inr g) w z = absurd (apart d.0 g.0)

pub if_more : {A : Type 0} (o : Option A) (P Q : A → Type 0) → ((x : A) → P x → Q x) → IfSome o P → IfSome o Q
if_more None P Q more all = tt
if_more (Some x) P Q more all = more x all

module _ (l : Layout) (epoch : ℕ) (pages : List (List ℕ)) (i : Image) (homed : IsHomed l epoch pages i) (weak : Sectors) (j : Image) (w : (s : ℕ) → 16 ≤ s → SectorWorn (weak s) (sector_at i s) (sector_at j s)) where
  whole_was : (s : ℕ) → 16 ≤ s → (bytes : List ℕ) → sector_at j s ≡ Whole bytes → sector_at i s ≡ Whole bytes
  whole_was s from bytes is = whole_before (weak s) (sector_at i s) (sector_at j s) bytes (w s from) is

  stamps_worn : EachStamp l j (λ stamp. stamp.epoch ≤ epoch - 1)
  stamps_worn s within bytes at =
      let first = homed.first in
      if_more (borne_by bytes) (λ stamp. stamp.epoch < epoch) (λ stamp. stamp.epoch ≤ epoch - 1) (λ stamp lt. omega arith)
      (homed.stamps s within bytes (whole_was s (let from = within.0 in omega (arith, from)) bytes at))

  pub stamps_up : EachStamp l j (λ stamp. stamp.epoch ≤ epoch)
  stamps_up s within bytes at = if_more (borne_by bytes) (λ stamp. stamp.epoch ≤ epoch - 1) (λ stamp. stamp.epoch ≤ epoch) (λ stamp le. omega arith) (stamps_worn s within bytes at)

  pub fresh_log : IsLog l epoch 1 (tape l 0 (bytes_at j)) [] (start l 1)
  fresh_log = let first = homed.first in epoch_empty l j (epoch - 1) epoch 0 (omega arith) (omega arith) stamps_worn 1 homed.last (omega arith)

  pub no_records : records_by l j (fresh_anchor epoch) ≡ []
  no_records = ap (λ (x : Walked). x.records) fresh_log.scanned

  pub homes_alike : (page : ℕ) → page < l.pages → (x y : List ℕ) → sector_at j (home_a l page) ≡ Whole x → sector_at j (home_b l page) ≡ Whole y → x ≡ y
  homes_alike page lt x y a b =
      let at = homed.home page lt in
      same_bytes (sector_at i (home_a l page)) (get_or pages page []) x at.0 (whole_was (home_a l page) (omega arith) x a)
      ∙ sym (same_bytes (sector_at i (home_b l page)) (get_or pages page []) y at.1 (whole_was (home_b l page) (omega arith) y b))

  module _ (narrow : IsNarrow weak) where
    home_is : (page : ℕ) → page < l.pages → home_of l j page ≡ Some (get_or pages page [])
    home_is page lt =
        let at = homed.home page lt in
        let size = (planned_bounds l homed.planned).pages_least in
        either_reads (get_or pages page []) (weak (home_a l page)) (weak (home_b l page)) (sector_at i (home_a l page)) (sector_at i (home_b l page)) (sector_at j (home_a l page)) (sector_at j (home_b l page))
        (narrow (home_a l page) (home_b l page) (omega arith)) (w (home_a l page) (omega arith)) (w (home_b l page) (omega arith)) at.0 at.1

    pub pages_are : shown_by l j (fresh_anchor epoch) ≡ Some pages
    pages_are =
        each_of_all (newest l j (records_by l j (fresh_anchor epoch))) (λ page. get_or pages page []) (all_pages l)
        (all_in_range (λ page. newest l j (records_by l j (fresh_anchor epoch)) page ≡ Some (get_or pages page [])) 0 l.pages
        (λ page le lt. ap (λ (r : List Placed). newest l j r page) no_records ∙ home_is page (omega arith)))
        ∙ ap (λ (n : ℕ). Some (map (λ page. get_or pages page []) (range_with_len 0 n))) (sym homed.size)
        ∙ ap (λ (xs : List (List ℕ)). Some xs) (items_by_place 0 pages [] (λ page. get_or pages page []) (λ k lt. ap (λ (n : ℕ). get_or pages n []) (omega arith)))
