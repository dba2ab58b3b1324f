-- A saved map that is read sector by sector.
use Rattle.std.proofs.Common.{◌≡◌, ◌⊎◌, ℕ, zero, suc, ◌+◌, ◌-◌, ◌*◌, ◌/◌, ◌%◌, ◌<◌, ◌≤◌, Bool, true, false, cond, not, replicate, Result, Ok, Err, ◌&&◌, ◌||◌, List, [], ◌∷◌, ◌++◌, length, map, get_or, Option, Some, None, refl, sym, ap, subst, ◌∙◌, inl, inr, arith}
use Rattle.std.specs.Prelude.{◌==◌, IfOk, IfSome, nat_lt, option_and_then}
use Rattle.std.specs.List.{range_with_len}
use Rattle.std.proofs.lemmas.Bool.{cases_lt, cond-false, cond-true, le-ltb, lt-ltb, or_from}
use Rattle.std.proofs.lemmas.List.{get_or_append_left, get_or_past, get_or_push, length-append, length-replicate}
use Rattle.std.proofs.lemmas.Nat.Bits.{bit_at-zero}
use Rattle.volume_layout.specs.declared.layout.Layout.{Layout}
use Rattle.volume_layout.specs.Layout.{HasRegionsApart, data_start, home_a, is_data, map_bits, map_sectors, map_start, most_of}
use Rattle.run_table.specs.RunTable.{run_of, sectors_of}
use Rattle.run_table.specs.Space.{contains, where_free}
use Rattle.sector_set.specs.Area.{Area, IsOwn, area}
use Rattle.sector_set.proofs.FreeLaws.{contains_where, contains_where_outside, where_same}
use Rattle.sector_disk.specs.declared.sector.Sector.{Sector}
use Rattle.sector_disk.specs.declared.sector.Sector.TheVariants.{Whole, Damaged}
use Rattle.sector_disk.specs.declared.machine.Machine.{Ghosts}
use Rattle.sector_disk.specs.Image.{IsWorn, bytes_of, sector_at}
use Rattle.sector_disk.specs.Calls.{OnlyReads, as_sector}
use Rattle.sector_disk.proofs.Wear.{whole_of, worn_whole}
use Rattle.fsd_formats.specs.declared.anchor.Anchor.{Anchor}
use Rattle.fsd_formats.specs.declared.map_head.MapHead.{MapHead}
use Rattle.fsd_formats.specs.Anchors.{read_closed}
use Rattle.fsd_formats.specs.MapSector.{has_map_bit, read_map_head}
use Rattle.fsd_formats.specs.SavedMap.{IsMapOf, head_of, is_first_home, is_set_in}
use Rattle.fsd_files.specs.Disk.{Image, bytes_at}
use Rattle.fsd_sound.specs.Saved.{IsBelieved, IsClosedAt, map_of}
use Rattle.fsd_sound.proofs.EachLaws.{all_in_range, each_at, each_of_all, items_by_place}
use Rattle.fsd_sound.proofs.SavedLaws.{map_before}
use Rattle.saved_map.specs.declared.believing.FirstPart.{FirstPart}
use Rattle.saved_map.specs.declared.believing.SavedMap.{SavedMap}
use Rattle.saved_map.specs.Taking.{AreAdded, AreMarked, AreNewFrom, IsPart, has_place, is_set_at}
use Rattle.saved_map.specs.Reading.{BeginsMap, Believes, IsFirstPart, IsOfMap, LacksPart, SaysClosed, TakesMap, TakesPart, TakesRest, counts_in, numbered}
use Rattle.saved_map.proofs.RunLaws.{area_own, below, beyond, in_one, inside, or_none}
use Rattle.saved_map.proofs.TakingLaws.{home_is, homes_end}

-- ---- wear

pub bytes_were : (may : ℕ → Bool) (i j : Image) (s : ℕ) (bytes : List ℕ) → IsWorn may i j → bytes_at j s ≡ Some bytes → sector_at i s ≡ Whole bytes
bytes_were may i j s bytes worn is = worn_whole may i j s bytes worn (whole_of (sector_at j s) bytes is)

pub map_was : (l : Layout) (may : ℕ → Bool) (i j : Image) (sectors : List (List ℕ)) → IsWorn may i j → map_of l j ≡ Some sectors → map_of l i ≡ Some sectors
map_was l may i j sectors worn is = map_before l i j sectors (λ s low high bytes there. ap bytes_of (bytes_were may i j s bytes worn there)) is

-- a sector that was read has no other bytes
pub only_bytes : (i : Image) (s t : ℕ) (o : Option (List ℕ)) (mine bytes : List ℕ) → s ≡ t → sector_at i s ≡ as_sector o → o ≡ Some mine → bytes_at i t ≡ Some bytes → bytes ≡ mine
only_bytes i s t o mine bytes place at is there =
    let both : Some mine ≡ Some bytes = sym (ap bytes_of (ap as_sector is)) ∙ sym (ap bytes_of at) ∙ ap (bytes_at i) place ∙ there in
    cc

closed_of : (i : Image) (s : ℕ) (a : Anchor) (sector : Sector) → sector_at i s ≡ sector → option_and_then read_closed (bytes_of sector) ≡ Some a → (bytes : List ℕ) × (sector_at i s ≡ Whole bytes) × (read_closed bytes ≡ Some a)
closed_of i s a Damaged at is = absurd (cc is)
closed_of i s a (Whole bytes) at is = (bytes, at, is)

pub closed_was : (may : ℕ → Bool) (i j : Image) (epoch place : ℕ) → IsWorn may i j → IsClosedAt epoch j place → IsClosedAt epoch i place
closed_was may i j epoch place worn is =
    let of = closed_of j place is.0 (sector_at j place) refl is.1 in
    (is.0, ap (λ (s : Sector). option_and_then read_closed (bytes_of s)) (worn_whole may i j place of.0 worn of.1) ∙ of.2, is.2)

pub closed_here : (i : Image) (epoch place : ℕ) (bytes : List ℕ) → sector_at i place ≡ Whole bytes → SaysClosed epoch bytes → IsClosedAt epoch i place
closed_here i epoch place bytes at says = (says.0, ap (λ (s : Sector). option_and_then read_closed (bytes_of s)) at ∙ says.1, says.2)

pub here_closed : (i : Image) (epoch place : ℕ) (bytes : List ℕ) → sector_at i place ≡ Whole bytes → IsClosedAt epoch i place → SaysClosed epoch bytes
here_closed i epoch place bytes at is = (is.0, sym (ap (λ (s : Sector). option_and_then read_closed (bytes_of s)) at) ∙ is.1, is.2)

pub not_closed : (i : Image) (epoch place : ℕ) → sector_at i place ≡ Damaged → IsClosedAt epoch i place → ⊥
not_closed i epoch place at is = absurd (let none : None ≡ Some is.0 = sym (ap (λ (s : Sector). option_and_then read_closed (bytes_of s)) at) ∙ is.1 in cc)

-- ---- one sector more

no_bit : (n : ℕ) → has_map_bit [] n ≡ false
no_bit n = ap (λ (y : ℕ). y == 1) (bit_at-zero (7 - n % 8))

past_none : (sectors : List (List ℕ)) (s : ℕ) → length sectors ≤ s / map_bits → is_set_in sectors s ≡ false
past_none sectors s past = ap (λ (b : List ℕ). has_map_bit b (s % map_bits)) (get_or_past sectors (s / map_bits) [] past) ∙ no_bit (s % map_bits)

pub set_more : (sectors : List (List ℕ)) (bytes : List ℕ) (k s : ℕ) → length sectors ≡ k → (is_set_in sectors s || is_set_at bytes (map_bits * k) s) ≡ is_set_in (sectors ++ bytes ∷ []) s
set_more sectors bytes k s count = elim (cases_lt s (map_bits * k)) [
  | inl less ↦
      let within : s / map_bits < length sectors = omega (arith, less, count) in
      let none : is_set_at bytes (map_bits * k) s ≡ false = ap (λ (b : Bool). b && has_map_bit bytes (s - map_bits * k)) (below (map_bits * k) (map_bits * k + map_bits) s less) in
      ap (λ (b : Bool). is_set_in sectors s || b) none ∙ or_none (is_set_in sectors s)
      ∙ ap (λ (b : List ℕ). has_map_bit b (s % map_bits)) (sym (get_or_append_left sectors (bytes ∷ []) [] (s / map_bits) within))
  | inr more ↦
      let past : length sectors ≤ s / map_bits = omega (arith, more, count) in
      ap (λ (b : Bool). b || is_set_at bytes (map_bits * k) s) (past_none sectors s past) ∙ behind more (cases_lt s (map_bits * k + map_bits))
]
  where
    behind : map_bits * k ≤ s → (s < map_bits * k + map_bits) ⊎ (map_bits * k + map_bits ≤ s) → is_set_at bytes (map_bits * k) s ≡ is_set_in (sectors ++ bytes ∷ []) s
    behind more (inl less) =
        let here : length sectors ≡ s / map_bits = omega (arith, more, less, count) in
        let rest : s - map_bits * k ≡ s % map_bits = omega (arith, more, less) in
        ap (λ (b : Bool). b && has_map_bit bytes (s - map_bits * k)) (inside (map_bits * k) (map_bits * k + map_bits) s more less) ∙ ap (has_map_bit bytes) rest
        ∙ ap (λ (b : List ℕ). has_map_bit b (s % map_bits)) (sym (get_or_push sectors bytes [] (s / map_bits) here))
    behind more (inr far) =
        let past : length (sectors ++ bytes ∷ []) ≤ s / map_bits = omega (arith, far, count, length-append sectors (bytes ∷ [])) in
        ap (λ (b : Bool). b && has_map_bit bytes (s - map_bits * k)) (beyond (map_bits * k) (map_bits * k + map_bits) s far)
        ∙ sym (past_none (sectors ++ bytes ∷ []) s past)

pub marked_more : (l : Layout) (sectors : List (List ℕ)) (bytes : List ℕ) (k : ℕ) (map new : Area) (pages new_pages : List Bool) → length sectors ≡ k → AreMarked l (is_set_in sectors) map pages
    → AreAdded l (is_set_at bytes (map_bits * k)) map pages new new_pages → AreMarked l (is_set_in (sectors ++ bytes ∷ [])) new new_pages
marked_more l sectors bytes k map new pages new_pages count so_far added = record {
  kept = added.kept;
  each = λ s. added.each s ∙ ap (λ (b : Bool). b || is_set_at bytes (map_bits * k) s) (so_far.each s) ∙ set_more sectors bytes k s count;
}

-- nothing is marked from the next sector on
pub new_from : (l : Layout) (sectors : List (List ℕ)) (k : ℕ) (map : Area) (pages : List Bool) → length sectors ≡ k → AreMarked l (is_set_in sectors) map pages → AreNewFrom l map pages (map_bits * k)
new_from l sectors k map pages count marked s from = marked.each s ∙ past_none sectors s (omega (arith, from, count))

-- the first sector alone
pub marked_first : (l : Layout) (bytes : List ℕ) (index : ℕ) (map new : Area) (pages new_pages : List Bool) → index ≡ 0 → AreMarked l (λ _. false) map pages → AreAdded l (is_set_at bytes (map_bits * index)) map pages new new_pages
    → AreMarked l (is_set_in (bytes ∷ [])) new new_pages
marked_first l bytes index map new pages new_pages zero_is none added = record {
  kept = added.kept;
  each = λ s. added.each s ∙ ap (λ (b : Bool). b || is_set_at bytes (map_bits * index) s) (none.each s) ∙ ap (λ (i : ℕ). is_set_at bytes (map_bits * i) s) zero_is
      ∙ ap (λ (b : Bool). b || is_set_at bytes (map_bits * 0) s) (sym (past_none [] s (omega arith))) ∙ set_more [] bytes 0 s refl;
}

-- ---- the rest of the sectors

module _ {D : Type 0} (M : Ghosts D) (l : Layout) (first : FirstPart) where
  -- the head of the first is its own
  pub first_numbered : first.head.index ≡ 0 → first.head ≡ numbered first.head 0
  first_numbered is = ap (λ (k : ℕ). numbered first.head k) is

  pub begins_rest : (old : D) (map : Area) (pages : List Bool) → IsPart l first.head first.bytes → first.head.index ≡ 0 → AreMarked l (is_set_in (first.bytes ∷ [])) map pages
      → (M.honest old → sector_at (M.now old).image (map_start l) ≡ Whole first.bytes) → TakesRest M l first old old 1 map pages
  begins_rest old map pages part zero_is marked whole = record {
    sectors = first.bytes ∷ [];
    count = refl;
    parts = λ j less. part_at j less;
    marked = marked;
    whole = λ h j less. whole_at h j less;
  }
    where
      part_at : (j : ℕ) → j < 1 → IsPart l (numbered first.head j) (get_or (first.bytes ∷ []) j [])
      part_at zero less = subst (λ (h : MapHead). IsPart l h first.bytes) (first_numbered zero_is) part
      part_at (suc j) less = absurd (omega (arith, less))

      whole_at : M.honest old → (j : ℕ) → j < 1 → sector_at (M.now old).image (map_start l + j) ≡ Whole (get_or (first.bytes ∷ []) j [])
      whole_at h zero less = let here : map_start l + 0 ≡ map_start l = omega arith in ap (sector_at (M.now old).image) here ∙ whole h
      whole_at h (suc j) less = absurd (omega (arith, less))

  pub takes_next : (old mid new : D) (k : ℕ) (map new_map : Area) (pages new_pages : List Bool) → OnlyReads M None old new → OnlyReads M None mid new → TakesRest M l first old mid k map pages
      → TakesPart M l (numbered first.head k) new map pages new_map new_pages → TakesRest M l first old new (k + 1) new_map new_pages
  takes_next old mid new k map new_map pages new_pages reads last so_far part = record {
    sectors = so_far.sectors ++ part.bytes ∷ [];
    count = omega (arith, so_far.count, length-append so_far.sectors (part.bytes ∷ []));
    parts = λ j less. part_at j (cases_lt j k) less;
    marked = marked_more l so_far.sectors part.bytes k map new_map pages new_pages so_far.count so_far.marked part.added;
    whole = λ h j less. whole_at h j (cases_lt j k) less;
  }
    where
      part_at : (j : ℕ) → (j < k) ⊎ (k ≤ j) → j < k + 1 → IsPart l (numbered first.head j) (get_or (so_far.sectors ++ part.bytes ∷ []) j [])
      part_at j (inl less) below =
          subst (λ (b : List ℕ). IsPart l (numbered first.head j) b) (sym (get_or_append_left so_far.sectors (part.bytes ∷ []) [] j (omega (arith, less, so_far.count)))) (so_far.parts j less)
      part_at j (inr more) below =
          let here : length so_far.sectors ≡ j = omega (arith, more, below, so_far.count) in
          let number : k ≡ j = omega (arith, more, below) in
          subst (λ (b : List ℕ). IsPart l (numbered first.head j) b) (sym (get_or_push so_far.sectors part.bytes [] j here)) (subst (λ (n : ℕ). IsPart l (numbered first.head n) part.bytes) number part.part)

      whole_at : M.honest new → (j : ℕ) → (j < k) ⊎ (k ≤ j) → j < k + 1 → sector_at (M.now old).image (map_start l + j) ≡ Whole (get_or (so_far.sectors ++ part.bytes ∷ []) j [])
      whole_at h j (inl less) below =
          so_far.whole (last.trust.honest h) j less ∙ ap (λ (b : List ℕ). Whole b) (sym (get_or_append_left so_far.sectors (part.bytes ∷ []) [] j (omega (arith, less, so_far.count))))
      whole_at h j (inr more) below =
          let here : length so_far.sectors ≡ j = omega (arith, more, below, so_far.count) in
          let number : map_start l + j ≡ map_start l + k = omega (arith, more, below) in
          ap (sector_at (M.now old).image) number ∙ worn_whole _ (M.now old).image (M.now new).image (map_start l + k) part.bytes (reads.worn h).image (part.whole h)
          ∙ ap (λ (b : List ℕ). Whole b) (sym (get_or_push so_far.sectors part.bytes [] j here))

  -- the first sector is none
  pub first_lacks : (i : Image) → 0 < map_sectors l → first.head.index ≡ 0 → sector_at i (map_start l) ≡ Whole first.bytes → (IsPart l first.head first.bytes → ⊥) → LacksPart l first.head i
  first_lacks i some zero_is whole none = (
    0,
    some,
    λ bytes at part.
        (let here : map_start l + 0 ≡ map_start l = omega arith in
        let same : bytes ≡ first.bytes = (let both : Some bytes ≡ Some first.bytes = sym at ∙ ap (bytes_at i) here ∙ ap bytes_of whole in cc) in
        none (subst (λ (h : MapHead). IsPart l h first.bytes) (sym (first_numbered zero_is)) (subst (λ (b : List ℕ). IsPart l (numbered first.head 0) b) same part))),
  )

-- ---- all of them

module _ (l : Layout) (head : MapHead) (sectors : List (List ℕ)) (count : length sectors ≡ map_sectors l) (parts : (j : ℕ) → j < map_sectors l → IsPart l (numbered head j) (get_or sectors j [])) where
  clear_in : (s : ℕ) → s < map_bits * map_sectors l → has_place l s ≡ false → is_set_in sectors s ≡ false
  clear_in s less none =
      let there : map_bits * (s / map_bits) + s % map_bits ≡ s = omega arith in
      let k : s / map_bits < map_sectors l = omega (arith, less) in
      (parts (s / map_bits) k).clear (s % map_bits) (omega arith) (ap (has_place l) there ∙ none)

  pub is_map : IsMapOf l head.epoch (counts_in head) sectors
  is_map = record { heads = λ k less. (parts k less).read; clear = clear_in }

  module _ (apart : HasRegionsApart l) (saved : SavedMap) (versions : saved.versions ≡ head.versions) (marked : AreMarked l (is_set_in sectors) saved.map saved.free_pages.items) where
    pub is_of_map : IsOfMap l (counts_in head) sectors saved
    is_of_map = record {
      map = marked.kept.own ∙ same_ends ∙ ap (λ (xs : List ℕ). record { from = data_start l; to = most_of l; sectors = xs }) (where_same (contains saved.map.sectors) test (data_start l) (most_of l) (λ s low high. in_area s low));
      pages = marked.kept.of.pages_are;
      flags = λ page less. flag page less;
      versions = versions;
    }
      where
        test : ℕ → Bool
        test s = nat_lt s l.sectors && is_set_in sectors s

        same_ends : area saved.map.from saved.map.to (contains saved.map.sectors) ≡ area (data_start l) (most_of l) (contains saved.map.sectors)
        same_ends = ap (λ (from : ℕ). area from saved.map.to (contains saved.map.sectors)) marked.kept.of.from ∙ ap (λ (to : ℕ). area (data_start l) to (contains saved.map.sectors)) marked.kept.of.to

        no_home : (s : ℕ) → data_start l ≤ s → is_first_home l s ≡ false
        no_home s low = let ends = homes_end l apart in beyond (home_a l 0) (home_a l l.pages) s (omega (arith, ends, low))

        no_data : (s : ℕ) → l.sectors ≤ s → is_data l s ≡ false
        no_data s high = beyond (data_start l) l.sectors s high

        set_is : (s : ℕ) → data_start l ≤ s → contains saved.map.sectors s ≡ is_set_in sectors s
        set_is s low = sym (cond-false (is_first_home l s) (get_or saved.free_pages.items (s - home_a l 0) false) (contains saved.map.sectors s) (no_home s low)) ∙ marked.each s

        none_past : (s : ℕ) → data_start l ≤ s → l.sectors ≤ s → is_set_in sectors s ≡ false
        none_past s low high = elim (cases_lt s (map_bits * map_sectors l)) [
          | inl less ↦ clear_in s less (or_from (is_data l s) (is_first_home l s) (no_data s high) (no_home s low))
          | inr past ↦ past_none sectors s (omega (arith, past, count))
        ]

        in_area : (s : ℕ) → data_start l ≤ s → contains saved.map.sectors s ≡ (nat_lt s l.sectors && is_set_in sectors s)
        in_area s low = set_is s low ∙ elim (cases_lt s l.sectors) [
          | inl less ↦ sym (ap (λ (b : Bool). b && is_set_in sectors s) (lt-ltb s l.sectors less))
          | inr more ↦ none_past s low more ∙ sym (ap (λ (b : Bool). b && is_set_in sectors s) (le-ltb s l.sectors more))
        ]

        flag : (page : ℕ) → page < l.pages → get_or saved.free_pages.items page false ≡ is_set_in sectors (home_a l page)
        flag page less =
            let place : home_a l page - home_a l 0 ≡ page = omega arith in
            sym (ap (λ (n : ℕ). get_or saved.free_pages.items n false) place)
            ∙ sym (cond-true (is_first_home l (home_a l page)) (get_or saved.free_pages.items (home_a l page - home_a l 0) false) (contains saved.map.sectors (home_a l page)) (home_is l (home_a l page) (omega arith) (omega (arith, less))))
            ∙ marked.each (home_a l page)

  pub map_whole : (i : Image) → ((j : ℕ) → j < map_sectors l → sector_at i (map_start l + j) ≡ Whole (get_or sectors j [])) → map_of l i ≡ Some sectors
  map_whole i whole =
      each_of_all (λ k. bytes_at i (map_start l + k)) (λ k. get_or sectors k []) (range_with_len 0 (map_sectors l))
      (all_in_range (λ k. bytes_at i (map_start l + k) ≡ Some (get_or sectors k [])) 0 (map_sectors l) (λ k low less. ap bytes_of (whole k (omega (arith, less)))))
      ∙ ap (λ (n : ℕ). Some (map (λ k. get_or sectors k []) (range_with_len 0 n))) (sym count)
      ∙ ap (λ (xs : List (List ℕ)). Some xs) (items_by_place 0 sectors [] (λ k. get_or sectors k []) (λ k less. ap (λ (n : ℕ). get_or sectors n []) (omega arith)))

-- ---- what isn't believed

set_at : (sectors : List (List ℕ)) (k n : ℕ) → n < map_bits → is_set_in sectors (map_bits * k + n) ≡ has_map_bit (get_or sectors k []) n
set_at sectors k n less =
    let whole : (map_bits * k + n) / map_bits ≡ k = omega (arith, less) in
    let rest : (map_bits * k + n) % map_bits ≡ n = omega (arith, less) in
    ap (λ (q : ℕ). has_map_bit (get_or sectors q []) ((map_bits * k + n) % map_bits)) whole ∙ ap (has_map_bit (get_or sectors k [])) rest

-- an image whose map's first sector is this, and that lacks one of those behind
pub lacks : (l : Layout) (epoch : ℕ) (bytes : List ℕ) (head : MapHead) (i : Image) → 0 < map_sectors l → IsFirstPart l epoch bytes head → ((other : List ℕ) → bytes_at i (map_start l) ≡ Some other → other ≡ bytes) → LacksPart l head i → IsBelieved l epoch i → ⊥
lacks l epoch bytes head i some first same lacking believed = lacking.2 (get_or believed.sectors lacking.0 []) (at lacking.0 lacking.1) (record { read = read_at; clear = λ n less none. sym (set_at believed.sectors lacking.0 n less) ∙ believed.is.clear (map_bits * lacking.0 + n) (omega (arith, less, lacking.1)) none })
  where
    at : (k : ℕ) → k < map_sectors l → bytes_at i (map_start l + k) ≡ Some (get_or believed.sectors k [])
    at k less =
        let here : map_start l + k ≡ map_start l + (0 + k) = omega arith in
        ap (bytes_at i) here ∙ each_at (λ k. bytes_at i (map_start l + k)) 0 (map_sectors l) believed.sectors [] believed.whole k less

    head_is : head_of epoch 0 believed.counts ≡ head
    head_is =
        let here : map_start l ≡ map_start l + 0 = omega arith in
        let is : get_or believed.sectors 0 [] ≡ bytes = same (get_or believed.sectors 0 []) (ap (bytes_at i) here ∙ at 0 some) in
        let both : Some (head_of epoch 0 believed.counts) ≡ Some head = sym (believed.is.heads 0 some) ∙ ap read_map_head is ∙ first.read in
        cc

    read_at : read_map_head (get_or believed.sectors lacking.0 []) ≡ Some (numbered head lacking.0)
    read_at = believed.is.heads lacking.0 lacking.1 ∙ ap (λ (h : MapHead). Some (numbered h lacking.0)) head_is

pub none_first : (l : Layout) (epoch : ℕ) (i : Image) → 0 < map_sectors l → ((bytes : List ℕ) (head : MapHead) → bytes_at i (map_start l) ≡ Some bytes → IsFirstPart l epoch bytes head → ⊥) → IsBelieved l epoch i → ⊥
none_first l epoch i some none believed =
    let here : map_start l ≡ map_start l + 0 = omega arith in
    none (get_or believed.sectors 0 []) (head_of epoch 0 believed.counts) (ap (bytes_at i) here ∙ each_at (λ k. bytes_at i (map_start l + k)) 0 (map_sectors l) believed.sectors [] believed.whole 0 some)
    (record { read = believed.is.heads 0 some; worth = record { epoch_is = refl; index_is = refl; worth = believed.worth } })

-- ---- what is believed

pub same_first : (may : ℕ → Bool) (i j : Image) (s : ℕ) (bytes other : List ℕ) → IsWorn may i j → sector_at i s ≡ Whole bytes → bytes_at j s ≡ Some other → other ≡ bytes
same_first may i j s bytes other worn whole at =
    let both : Whole other ≡ Whole bytes = sym (bytes_were may i j s other worn at) ∙ whole in
    cc

pub each_read : {A E : Type 0} {P Q : A → Type 0} (r : Result (Option A) E) → IfOk r (λ o. IfSome o P) → ((x : A) → P x → Q x) → IfOk r (λ o. IfSome o Q)
each_read (Ok (Some x)) is more = more x is
each_read (Ok None) is more = is
each_read (Err fault) is more = is

pub believed_map : {D : Type 0} (M : Ghosts D) (l : Layout) (epoch : ℕ) (old mid new : D) (first : FirstPart) (saved : SavedMap) → OnlyReads M None old mid → (M.honest new → M.honest mid)
    → BeginsMap M l epoch old mid first → TakesMap M l first.head mid new saved → Believes M l epoch old new saved
believed_map M l epoch old mid new first saved reads back begins takes = record {
  counts = counts_in first.head;
  sectors = takes.sectors;
  of = subst (λ (e : ℕ). IsMapOf l e (counts_in first.head) takes.sectors) begins.is.worth.epoch_is takes.of;
  worth = begins.is.worth.worth;
  is = takes.is;
  whole = λ h. map_was l _ (M.now old).image (M.now mid).image takes.sectors (reads.worn (back h)).image (takes.whole h);
  closed = λ h. begins.closed (back h);
}

-- ---- nothing is marked

no_flags : (n i : ℕ) → get_or (replicate n false) i false ≡ false
no_flags zero i = refl
no_flags (suc n) zero = refl
no_flags (suc n) (suc i) = no_flags n i

pub nothing_marked : (l : Layout) (map : Area) (pages : List Bool) (from to : ℕ) → from ≡ data_start l → to ≡ most_of l → from ≤ to → map ≡ area from to (λ s. not (contains (sectors_of (run_of from (to - from) ∷ [])) s)) → pages ≡ replicate l.pages false
    → AreMarked l (λ _. false) map pages
nothing_marked l map pages from to start end order is flags = record {
  kept = record {
    of = record { from = ap (λ (a : Area). a.from) is ∙ start; to = ap (λ (a : Area). a.to) is ∙ end; pages_are = ap (λ (xs : List Bool). length xs) flags ∙ length-replicate l.pages false };
    own = subst IsOwn (sym is) (area_own from to test);
  };
  each = λ s. by s (is_first_home l s);
}
  where
    test : ℕ → Bool
    test s = not (contains (sectors_of (run_of from (to - from) ∷ [])) s)

    none : (s : ℕ) → contains (where_free test from to) s ≡ false
    none s = elim (cases_lt s from) [
      | inl less ↦ contains_where_outside test from to s (λ low high. absurd (omega (arith, less, low)))
      | inr more ↦ elim (cases_lt s to) [
        | inl less ↦ contains_where test from to s more less ∙ ap not (in_one from to s order ∙ inside from to s more less)
        | inr far ↦ contains_where_outside test from to s (λ low high. absurd (omega (arith, far, high)))
      ]
    ]

    by : (s : ℕ) (b : Bool) → cond b (get_or pages (s - home_a l 0) false) (contains map.sectors s) ≡ false
    by s true = ap (λ (xs : List Bool). get_or xs (s - home_a l 0) false) flags ∙ no_flags l.pages (s - home_a l 0)
    by s false = ap (λ (a : Area). contains a.sectors s) is ∙ none s
