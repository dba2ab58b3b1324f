-- Anchors that are read.
use Rattle.std.proofs.Common.{◌≡◌, ◌⊎◌, inl, inr, ℕ, ◌≤◌, Bool, true, false, ◌&&◌, List, Option, Some, None, nat_le, subst}
use Rattle.std.specs.Prelude.{if◌then◌else◌}
use Rattle.std.proofs.lemmas.Bool.{and_parts, leb-true}
use Rattle.fsd_bytes.specs.Bytes.{u8_at, u32_at}
use Rattle.fsd_bytes.proofs.SameLaws.{given_if}
use Rattle.fsd_formats.specs.declared.anchor.Anchor.{Anchor}
use Rattle.fsd_formats.specs.Anchors.{is_anchor, spells_anchor, read_anchor}
use Rattle.fsd_log.specs.Scan.{anchor_in, is_newer, newer_of}

pub read_third : (bytes : List ℕ) (a : Anchor) → read_anchor bytes ≡ Some a → a.third ≤ 2
read_third bytes a is =
    let read : Anchor = record { epoch = u32_at 4 bytes; third = u8_at 8 bytes; first = u32_at 12 bytes } in
    let given = given_if (is_anchor read && spells_anchor read bytes) read a is in
    let outer = and_parts (is_anchor read) (spells_anchor read bytes) given.0 in
    let inner = and_parts (nat_le 1 read.epoch && nat_le read.third 2) (nat_le 1 read.first) outer.0 in
    let le : read.third ≤ 2 = leb-true read.third 2 (and_parts (nat_le 1 read.epoch) (nat_le read.third 2) inner.0).1 in
    subst (λ (x : Anchor). x.third ≤ 2) given.1 le

pub read_first : (bytes : List ℕ) (a : Anchor) → read_anchor bytes ≡ Some a → 1 ≤ a.first
read_first bytes a is =
    let read : Anchor = record { epoch = u32_at 4 bytes; third = u8_at 8 bytes; first = u32_at 12 bytes } in
    let given = given_if (is_anchor read && spells_anchor read bytes) read a is in
    let outer = and_parts (is_anchor read) (spells_anchor read bytes) given.0 in
    let inner = and_parts (nat_le 1 read.epoch && nat_le read.third 2) (nat_le 1 read.first) outer.0 in
    let le : 1 ≤ read.first = leb-true 1 read.first inner.1 in
    subst (λ (x : Anchor). 1 ≤ x.first) given.1 le

pub read_epoch : (bytes : List ℕ) (a : Anchor) → read_anchor bytes ≡ Some a → 1 ≤ a.epoch
read_epoch bytes a is =
    let read : Anchor = record { epoch = u32_at 4 bytes; third = u8_at 8 bytes; first = u32_at 12 bytes } in
    let given = given_if (is_anchor read && spells_anchor read bytes) read a is in
    let outer = and_parts (is_anchor read) (spells_anchor read bytes) given.0 in
    let inner = and_parts (nat_le 1 read.epoch && nat_le read.third 2) (nat_le 1 read.first) outer.0 in
    let le : 1 ≤ read.epoch = leb-true 1 read.epoch (and_parts (nat_le 1 read.epoch) (nat_le read.third 2) inner.0).0 in
    subst (λ (x : Anchor). 1 ≤ x.epoch) given.1 le

pub third_in : (o : Option (List ℕ)) (a : Anchor) → anchor_in o ≡ Some a → a.third ≤ 2
third_in None a is = absurd cc
third_in (Some bytes) a is = read_third bytes a is

-- the newer of two is one of them
pub newer_is_one : (x y : Option Anchor) (a : Anchor) → newer_of x y ≡ Some a → (x ≡ Some a) ⊎ (y ≡ Some a)
newer_is_one None y a is = inr is
newer_is_one (Some x) None a is = inl is
newer_is_one (Some x) (Some y) a is = by (is_newer y x) is
  where
    by : (c : Bool) → Some (if c then y else x) ≡ Some a → (Some x ≡ Some a) ⊎ (Some y ≡ Some a)
    by true e = inr e
    by false e = inl e
