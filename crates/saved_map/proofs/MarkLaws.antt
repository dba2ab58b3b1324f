-- What is marked, and the bits of a map's sector, byte by byte.
use Rattle.std.proofs.Common.{◌≡◌, ℕ, suc, ◌+◌, ◌-◌, ◌*◌, ◌^◌, ◌<◌, ◌≤◌, Bool, true, false, ◌&&◌, List, [], ◌∷◌, ◌++◌, length, set, take, sym, ap, ◌∙◌, arith}
use Rattle.std.specs.Prelude.{if◌then◌else◌, slice_index_or}
use Rattle.std.proofs.Math.Pow.{pow_mono}
use Rattle.std.proofs.lemmas.Bool.{cond-false, cond-true}
use Rattle.std.proofs.lemmas.List.{take_all, take_more_set}
use Rattle.std.proofs.lemmas.List.FromFn.{map-range_with_len_more}
use Rattle.volume_layout.specs.declared.layout.Layout.{Layout}
use Rattle.volume_layout.specs.Layout.{home_a, is_data}
use Rattle.run_table.specs.Space.{contains}
use Rattle.fsd_formats.specs.declared.map_head.MapHead.{MapHead}
use Rattle.fsd_formats.specs.MapSector.{bits_of, bits_value, map_head, map_sector}
use Rattle.fsd_formats.specs.SavedMap.{is_first_home}
use Rattle.fsd_formats.proofs.MapLaws.{value_small}
use Rattle.saved_map.specs.Marks.{is_marked}

-- ---- what is marked

pub marked_data : (l : Layout) (free : List ℕ) (pages : List Bool) (s : ℕ) → is_data l s ≡ true → contains free s ≡ is_marked l free pages s
marked_data l free pages s is = sym (cond-true (is_data l s) (contains free s) (is_first_home l s && slice_index_or pages (s - home_a l 0) false) is)

pub marked_home : (l : Layout) (free : List ℕ) (pages : List Bool) (s : ℕ) → is_data l s ≡ false → (is_first_home l s && slice_index_or pages (s - home_a l 0) false) ≡ is_marked l free pages s
marked_home l free pages s is = sym (cond-false (is_data l s) (contains free s) (is_first_home l s && slice_index_or pages (s - home_a l 0) false) is)

-- ---- a byte

pub bits_more : (test : ℕ → Bool) (at n : ℕ) → bits_value test at (n + 1) ≡ 2 * bits_value test at n + (if test (at + n) then 1 else 0)
bits_more test at n = let next : n + 1 ≡ suc n = omega arith in ap (bits_value test at) next

pub low_value : (test : ℕ → Bool) (at n : ℕ) → n < 8 → bits_value test at n < 128
low_value test at n lt = let less = value_small test at n in let at_most : n ≤ 7 = omega (arith, lt) in let most : 2 ^ n ≤ 2 ^ 7 = pow_mono at_most in omega (arith, less, most)

pub bit_small : (b : Bool) → (if b then 1 else 0) < 2
bit_small true = omega arith
bit_small false = omega arith

-- ---- the sector

pub save_step : (h : MapHead) (test : ℕ → Bool) (at q : ℕ) (b : List ℕ) (x : ℕ) → 16 + q < length b → take (16 + q) b ≡ map_head h ++ bits_of test at q → x ≡ bits_value test (at + 8 * q) 8
    → take (16 + (q + 1)) (set b (16 + q) x) ≡ map_head h ++ bits_of test at (q + 1)
save_step h test at q b x inside so_far is =
    let next : 16 + (q + 1) ≡ 16 + q + 1 = omega arith in
    ap (λ (n : ℕ). take n (set b (16 + q) x)) next ∙ take_more_set b (16 + q) x inside ∙ ap (λ (ys : List ℕ). ys ++ x ∷ []) so_far
    ∙ ap (λ (ys : List ℕ). map_head h ++ ys) (ap (λ (y : ℕ). bits_of test at q ++ y ∷ []) is ∙ sym (map-range_with_len_more (λ q. bits_value test (at + 8 * q) 8) 0 q q (omega arith)))

pub save_end : (h : MapHead) (test : ℕ → Bool) (at q : ℕ) (b : List ℕ) → length b ≡ 512 → q ≡ 496 → take (16 + q) b ≡ map_head h ++ bits_of test at q → b ≡ map_sector h test at
save_end h test at q b size whole so_far =
    sym (take_all (16 + q) b (omega (arith, size, whole))) ∙ so_far ∙ ap (λ (n : ℕ). map_head h ++ bits_of test at n) whole
