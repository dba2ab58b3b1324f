-- The last epoch, of an image that was worn.
use Rattle.std.proofs.Common.{◌≡◌, ◌⊎◌, inl, inr, ℕ, ◌<◌, ◌≤◌, ◌^◌, if◌then◌else◌, Bool, true, false, List, Option, Some, None, nat_lt, ◌==◌, ◌||◌, ◌&&◌, refl, ◌∙◌, subst, arith}
use Rattle.std.specs.Prelude.{IfSome, option_and_then}
use Rattle.std.proofs.lemmas.Bool.{and_parts, eqb-true, ltb-true, ltb-false, or_parts}
use Rattle.sector_disk.specs.declared.sector.Sector.{Sector}
use Rattle.sector_disk.specs.Image.{IsWorn}
use Rattle.fsd_formats.specs.declared.anchor.Anchor.{Anchor}
use Rattle.fsd_formats.specs.Anchors.{read_anchor}
use Rattle.fsd_files.specs.Disk.{Image, bytes_at, bytes_of}
use Rattle.fsd_log.specs.Scan.{anchor_in, is_newer, newer_of}
use Rattle.fsd_log.proofs.AnchorLaws.{newer_is_one}
use Rattle.fsd_sound.specs.Anchors.{anchor_at, anchor_of}
use Rattle.fsd_sound.specs.Mounting.{last_epoch}
use Rattle.fsd_sound.proofs.AnchorFacts.{anchor_read}

-- what a copy reads as after wear it read as before
kept_at : (may : ℕ → Bool) (i j : Image) (s : ℕ) (a : Anchor) → IsWorn may i j → anchor_at j s ≡ Some a → anchor_at i s ≡ Some a
kept_at may i j s a worn is = elim (worn.each s) [
  | inl same ↦ subst (λ (x : Sector). option_and_then read_anchor (bytes_of x) ≡ Some a) same is
  | inr (weak, damaged) ↦ let none : None ≡ Some a = subst (λ (x : Sector). option_and_then read_anchor (bytes_of x) ≡ Some a) damaged is in cc
]

-- no copy is of a later epoch
in_range : (o : Option (List ℕ)) → IfSome (anchor_in o) (λ a. a.epoch < 2 ^ 32)
in_range None = tt
in_range (Some bytes) = by (read_anchor bytes) refl
  where
    by : (x : Option Anchor) → read_anchor bytes ≡ x → IfSome x (λ a. a.epoch < 2 ^ 32)
    by None is = tt
    by (Some a) is = (anchor_read bytes a is).epoch

abbrev HasLast : Option Anchor → Type 0
HasLast o = (a : Anchor) × (o ≡ Some a) × (a.epoch ≡ last_epoch)

newest_last : (x y : Option Anchor) → IfSome x (λ a. a.epoch < 2 ^ 32) → IfSome y (λ a. a.epoch < 2 ^ 32) → HasLast x ⊎ HasLast y → HasLast (newer_of x y)
newest_last None y p q (inl (a, is, last)) = cc is
newest_last None y p q (inr has) = has
newest_last (Some a) None p q (inl has) = has
newest_last (Some a) None p q (inr (b, is, last)) = cc is
newest_last (Some a) (Some b) p q has = by (is_newer b a) refl
  where
    epoch_of : (c d : Anchor) → Some c ≡ Some d → c.epoch ≡ d.epoch
    epoch_of c d is = cc is

    either : ((a.epoch ≡ last_epoch) ⊎ (b.epoch ≡ last_epoch))
    either = elim has [
      | inl (c, is, last) ↦ inl (epoch_of a c is ∙ last)
      | inr (c, is, last) ↦ inr (epoch_of b c is ∙ last)
    ]

    second : b.epoch < 2 ^ 32 → a.epoch ≤ b.epoch → (a.epoch ≡ last_epoch) ⊎ (b.epoch ≡ last_epoch) → b.epoch ≡ last_epoch
    second small le (inl is) = omega (arith, small, le, is)
    second small le (inr is) = is

    first : a.epoch < 2 ^ 32 → b.epoch ≤ a.epoch → (a.epoch ≡ last_epoch) ⊎ (b.epoch ≡ last_epoch) → a.epoch ≡ last_epoch
    first small le (inl is) = is
    first small le (inr is) = omega (arith, small, le, is)

    not_less : (x y : Bool) → (x || y) ≡ true → (x ≡ true) ⊎ (y ≡ true)
    not_less true y is = inl refl
    not_less false y is = inr is

    newer : is_newer b a ≡ true → a.epoch ≤ b.epoch
    newer is = elim (not_less (nat_lt a.epoch b.epoch) (b.epoch == a.epoch && nat_lt a.first b.first) is) [
      | inl less ↦ let lt = ltb-true a.epoch b.epoch less in omega (arith, lt)
      | inr same ↦ let eq = eqb-true b.epoch a.epoch (and_parts (b.epoch == a.epoch) (nat_lt a.first b.first) same).0 in omega (arith, eq)
    ]

    older : is_newer b a ≡ false → b.epoch ≤ a.epoch
    older is = let le = ltb-false a.epoch b.epoch (or_parts (nat_lt a.epoch b.epoch) (b.epoch == a.epoch && nat_lt a.first b.first) is).0 in omega (arith, le)

    by : (c : Bool) → is_newer b a ≡ c → HasLast (Some (if c then b else a))
    by true is = (b, refl, second q (newer is) either)
    by false is = (a, refl, first p (older is) either)

-- what is of the last epoch after wear was so before
pub last_before : (may : ℕ → Bool) (i j : Image) (a : Anchor) → IsWorn may i j → anchor_of j ≡ Some a → a.epoch ≡ last_epoch → HasLast (anchor_of i)
last_before may i j a worn taken last =
    newest_last (anchor_at i 8) (anchor_at i 12) (in_range (bytes_at i 8)) (in_range (bytes_at i 12)) (elim (newer_is_one (anchor_at j 8) (anchor_at j 12) a taken) [
      | inl is ↦ inl (a, kept_at may i j 8 a worn is, last)
      | inr is ↦ inr (a, kept_at may i j 12 a worn is, last)
    ])
