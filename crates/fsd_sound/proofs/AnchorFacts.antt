-- What an anchor that is read is like, and which epochs have no record.
use Rattle.std.proofs.Common.{◌≡◌, ℕ, ◌*◌, ◌^◌, ◌<◌, ◌≤◌, Bool, true, false, ◌&&◌, List, [], Option, Some, None, nat_le, refl, sym, ap, subst, ◌∙◌, arith, inl, inr, cond}
use Rattle.std.specs.Prelude.{IfSome, if◌then◌else◌}
use Rattle.std.specs.Int.{w32, to_be_bytes, from_be_bytes}
use Rattle.std.proofs.lemmas.Bool.{and_parts, leb-true, cases_lt}
use Rattle.fsd_bytes.specs.Bytes.{u8_at, u32_at}
use Rattle.fsd_bytes.proofs.SameLaws.{given_if}
use Rattle.volume_layout.specs.declared.layout.Layout.{Layout}
use Rattle.fsd_formats.specs.declared.anchor.Anchor.{Anchor}
use Rattle.fsd_formats.specs.Anchors.{is_anchor, spells_anchor, read_anchor}
use Rattle.fsd_formats.specs.Record.{Stamp}
use Rattle.fsd_formats.proofs.SpellingLaws.{anchor_is_spelled, IsSpelled}
use Rattle.sector_disk.specs.declared.sector.Sector.{Sector}
use Rattle.sector_disk.specs.declared.sector.Sector.TheVariants.{Whole, Damaged}
use Rattle.sector_disk.specs.Image.{sector_at}
use Rattle.fsd_log.specs.Borne.{borne_by, Foreign}
use Rattle.fsd_log.specs.Scan.{IsLog, start, place_of, tape, anchor_in, newer_of, is_newer}
use Rattle.fsd_files.specs.Disk.{Image, bytes_of, bytes_at}
use Rattle.fsd_sound.specs.Sound.{EachStamp}
use Rattle.fsd_log.proofs.AppendLaws.{none_foreign}
use Rattle.fsd_log.proofs.FreshLaws.{empty_log}
use Rattle.fsd_log.proofs.WalkLaws.{stamp_of}
use Rattle.fsd_sound.proofs.LogPlaces.{on_tape, off_tape, place_in_log}
use Rattle.fsd_log.proofs.AnchorLaws.{third_in}
use Rattle.fsd_sound.specs.Anchors.{EachAnchor, anchor_at, anchor_of}

-- a choice between an anchor and itself
pub either_same : (b : Bool) (x : Anchor) → cond b x x ≡ x
either_same true x = refl
either_same false x = refl

-- an anchor that a sector may have
pub record IsAnchor (a : Anchor) : Type 0 where
  pub epoch : a.epoch < 2 ^ 32
  pub first : a.first < 2 ^ 32
  pub third : a.third ≤ 2

four_bytes : (n : ℕ) → from_be_bytes w32 (to_be_bytes w32 n) < 2 ^ 32
four_bytes n = omega arith

-- its numbers are where both spellings have them
spelled_numbers : (a : Anchor) (bytes : List ℕ) → IsSpelled a bytes → (u32_at 4 bytes ≡ from_be_bytes w32 (to_be_bytes w32 a.epoch)) × (u32_at 12 bytes ≡ from_be_bytes w32 (to_be_bytes w32 a.first))
spelled_numbers a bytes (inl plain) = (ap (u32_at 4) plain, ap (u32_at 12) plain)
spelled_numbers a bytes (inr closed) = (ap (u32_at 4) closed, ap (u32_at 12) closed)

pub anchor_read : (bytes : List ℕ) (a : Anchor) → read_anchor bytes ≡ Some a → IsAnchor a
anchor_read bytes a is =
    let read : Anchor = record { epoch = u32_at 4 bytes; third = u8_at 8 bytes; first = u32_at 12 bytes } in
    let given = given_if (is_anchor read && spells_anchor read bytes) read a is in
    let outer = and_parts (is_anchor read) (spells_anchor read bytes) given.0 in
    let inner = and_parts (nat_le 1 read.epoch && nat_le read.third 2) (nat_le 1 read.first) outer.0 in
    let le : read.third ≤ 2 = leb-true read.third 2 (and_parts (nat_le 1 read.epoch) (nat_le read.third 2) inner.0).1 in
    let spelled = spelled_numbers a bytes (anchor_is_spelled bytes a is) in
    let epoch : a.epoch ≡ from_be_bytes w32 (to_be_bytes w32 a.epoch) = ap (λ (x : Anchor). x.epoch) (sym given.1) ∙ spelled.0 in
    let first : a.first ≡ from_be_bytes w32 (to_be_bytes w32 a.first) = ap (λ (x : Anchor). x.first) (sym given.1) ∙ spelled.1 in
    record {
      epoch = omega (arith, epoch, four_bytes a.epoch);
      first = omega (arith, first, four_bytes a.first);
      third = subst (λ (x : Anchor). x.third ≤ 2) given.1 le;
    }

pub read_is_anchor : (bytes : List ℕ) (a : Anchor) → read_anchor bytes ≡ Some a → is_anchor a ≡ true
read_is_anchor bytes a is =
    let read : Anchor = record { epoch = u32_at 4 bytes; third = u8_at 8 bytes; first = u32_at 12 bytes } in
    let given = given_if (is_anchor read && spells_anchor read bytes) read a is in
    ap is_anchor (sym given.1) ∙ (and_parts (is_anchor read) (spells_anchor read bytes) given.0).0

-- ---- the anchors of an image

-- an anchor that stands begins in one of the three thirds
pub some_third : (o : Option (List ℕ)) → IfSome (anchor_in o) (λ a. a.third ≤ 2)
some_third o = by_anchor (anchor_in o) refl
  where
    by_anchor : (x : Option Anchor) → anchor_in o ≡ x → IfSome x (λ a. a.third ≤ 2)
    by_anchor None is = tt
    by_anchor (Some a) is = third_in o a is

-- the newer one is one of the two
pub newer_one : (P : Anchor → Type 0) (x y : Option Anchor) → IfSome x P → IfSome y P → IfSome (newer_of x y) P
newer_one P None y p q = q
newer_one P (Some a) None p q = p
newer_one P (Some a) (Some b) p q = either (is_newer b a)
  where
    either : (c : Bool) → P (if c then b else a)
    either true = q
    either false = p

pub taken_third : (i : Image) → IfSome (anchor_of i) (λ a. a.third ≤ 2)
taken_third i = newer_one (λ a. a.third ≤ 2) (anchor_at i 8) (anchor_at i 12) (some_third (bytes_at i 8)) (some_third (bytes_at i 12))

pub if_some_on : (P Q : Anchor → Type 0) (o : Option Anchor) → IfSome o (λ a. a.third ≤ 2) → ((a : Anchor) → a.third ≤ 2 → P a → Q a) → IfSome o P → IfSome o Q
if_some_on P Q None low on p = tt
if_some_on P Q (Some a) low on p = on a low p

-- both of what holds of each anchor
pub each_both : (i : Image) (P Q : Anchor → Type 0) → EachAnchor i P → EachAnchor i Q → EachAnchor i (λ a. P a × Q a)
each_both i P Q p q = (both (anchor_at i 8) p.0 q.0, both (anchor_at i 12) p.1 q.1)
  where
    both : (o : Option Anchor) → IfSome o P → IfSome o Q → IfSome o (λ a. P a × Q a)
    both None p q = tt
    both (Some a) p q = (p, q)

-- ---- an epoch that nothing in the log bears

module _ (l : Layout) (i : Image) (last epoch third : ℕ) (le : third ≤ 2) (later : last < epoch) (stamps : EachStamp l i (λ stamp. stamp.epoch ≤ last)) where
  sector_foreign : (number : ℕ) (s : Sector) → ((bytes : List ℕ) → s ≡ Whole bytes → IfSome (borne_by bytes) (λ stamp. stamp.epoch ≤ last)) → Foreign (stamp_of epoch number) (bytes_of s)
  sector_foreign number Damaged all = none_foreign (stamp_of epoch number)
  sector_foreign number (Whole bytes) all = λ is.
      let le : epoch ≤ last = subst (λ (o : Option Stamp). IfSome o (λ stamp. stamp.epoch ≤ last)) is (all bytes (λ k. Whole bytes)) in
      absurd (omega arith)

  pub tape_foreign : (w number : ℕ) → Foreign (stamp_of epoch number) (tape l third (bytes_at i) w)
  tape_foreign w number = elim (cases_lt w (3 * l.third)) [
    | inl lt ↦ subst (Foreign (stamp_of epoch number)) (sym (on_tape l third w (bytes_at i) lt))
        (sector_foreign number (sector_at i (place_of l third w)) (stamps (place_of l third w) (place_in_log l third w le lt)))
    | inr past ↦ subst (Foreign (stamp_of epoch number)) (sym (off_tape l third w (bytes_at i) past)) (none_foreign (stamp_of epoch number))
  ]

  pub epoch_empty : (first : ℕ) → epoch < 2 ^ 32 → first < 2 ^ 32 → IsLog l epoch first (tape l third (bytes_at i)) [] (start l first)
  epoch_empty first fits small = empty_log l epoch first fits small (tape l third (bytes_at i)) tape_foreign
