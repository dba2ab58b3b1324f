-- A root is read exactly where it is spelled, and a planned layout's numbers are small.
use Rattle.std.proofs.Common.{◌≡◌, ◌⊎◌, inl, inr, ℕ, ◌+◌, ◌^◌, ◌<◌, ◌≤◌, ◌==◌, ◌||◌, Bool, true, false, cond, List, Some, None, Result, Ok, Err, refl, sym, ap, ◌∙◌, arith}
use Rattle.std.specs.Prelude.{nat_le}
use Rattle.std.specs.Int.{div_ceil}
use Rattle.std.proofs.lemmas.Bool.{and_parts, cases_eq, cond-true, leb-true, eqb-true}
use Rattle.std.proofs.lemmas.Nat.{from_be_bytes-to_be_bytes_4}
use Rattle.fsd_bytes.specs.Bytes.{same_bytes, u32_at}
use Rattle.fsd_bytes.specs.Names.{is_between}
use Rattle.fsd_bytes.proofs.SameLaws.{same_is, is_same, given_if}
use Rattle.volume_layout.specs.declared.kind.Kind.{Kind}
use Rattle.volume_layout.specs.declared.layout.Layout.{Layout}
use Rattle.volume_layout.specs.declared.fault.LayoutFault.{LayoutFault}
use Rattle.volume_layout.specs.Kinds.{layout_number, kind_of}
use Rattle.volume_layout.specs.Layout.{plan_most, fixed_size, least_size, least_for, map_bits, map_sectors, mapped, may_grow_to, with_kind, IsPlanned}
use Rattle.volume_layout.specs.Root.{root_bytes, read_root, spelled_root}
use Rattle.volume_layout.proofs.KindLaws.{more_most, kind_of_number}

spelled_is : (bytes : List ℕ) (r : Result Layout LayoutFault) (l : Layout) → spelled_root bytes r ≡ Some l → (r ≡ Ok l) × (bytes ≡ root_bytes l)
spelled_is bytes (Ok m) l e =
    let given = given_if (same_bytes (root_bytes m) bytes) m l e in
    (ap Ok given.1, sym (same_is (root_bytes m) bytes given.0) ∙ ap root_bytes given.1)
spelled_is bytes (Err why) l e = absurd cc

pub root_is_spelled : (bytes : List ℕ) (l : Layout) → read_root bytes ≡ Some l → bytes ≡ root_bytes l
root_is_spelled bytes l e = (spelled_is bytes (plan_most (kind_of (u32_at 4 bytes)) (u32_at 8 bytes) (u32_at 12 bytes) (u32_at 16 bytes) (u32_at 20 bytes)) l e).1

pub root_is_read : (l : Layout) → IsPlanned l → l.sectors < 2 ^ 32 → l.third < 2 ^ 32 → l.pages < 2 ^ 32 → l.most < 2 ^ 32 → read_root (root_bytes l) ≡ Some l
root_is_read l planned n t p q =
    let number : u32_at 4 (root_bytes l) ≡ layout_number l.kind = from_be_bytes-to_be_bytes_4 (layout_number l.kind) (omega (arith, more_most l.kind)) in
    let sectors : u32_at 8 (root_bytes l) ≡ l.sectors = from_be_bytes-to_be_bytes_4 l.sectors n in
    let third : u32_at 12 (root_bytes l) ≡ l.third = from_be_bytes-to_be_bytes_4 l.third t in
    let pages : u32_at 16 (root_bytes l) ≡ l.pages = from_be_bytes-to_be_bytes_4 l.pages p in
    let most : u32_at 20 (root_bytes l) ≡ l.most = from_be_bytes-to_be_bytes_4 l.most q in
    ap (λ (x : Kind). spelled_root (root_bytes l) (plan_most x (u32_at 8 (root_bytes l)) (u32_at 12 (root_bytes l)) (u32_at 16 (root_bytes l)) (u32_at 20 (root_bytes l)))) (ap kind_of number ∙ kind_of_number l.kind)
    ∙ ap (λ (x : ℕ). spelled_root (root_bytes l) (plan_most l.kind x (u32_at 12 (root_bytes l)) (u32_at 16 (root_bytes l)) (u32_at 20 (root_bytes l)))) sectors
    ∙ ap (λ (x : ℕ). spelled_root (root_bytes l) (plan_most l.kind l.sectors x (u32_at 16 (root_bytes l)) (u32_at 20 (root_bytes l)))) third
    ∙ ap (λ (x : ℕ). spelled_root (root_bytes l) (plan_most l.kind l.sectors l.third x (u32_at 20 (root_bytes l)))) pages
    ∙ ap (λ (x : ℕ). spelled_root (root_bytes l) (plan_most l.kind l.sectors l.third l.pages x)) most
    ∙ ap (spelled_root (root_bytes l)) planned
    ∙ cond-true (same_bytes (root_bytes l) (root_bytes l)) (Some l) None (is_same (root_bytes l))

-- a value that is given where a test holds
pub ok_if : (b : Bool) (r : Result Layout LayoutFault) (why : LayoutFault) (l : Layout) → cond b r (Err why) ≡ Ok l → (b ≡ true) × (r ≡ Ok l)
ok_if true r why l e = (refl, e)
ok_if false r why l e = absurd cc

-- where the least size is there, so is room for the map
pub least_room : (t p n q : ℕ) → least_for t p q ≤ n → fixed_size t p + div_ceil (mapped n q) map_bits ≤ n
least_room t p n q = by_flag (q == 0)
  where
    by_flag : (b : Bool) → cond b (least_size t p) (fixed_size t p + div_ceil q map_bits) ≤ n → fixed_size t p + div_ceil (cond b n q) map_bits ≤ n
    by_flag true least = omega (arith, least)
    by_flag false least = least

-- The numbers of a planned layout lie in their bounds.
pub record IsWithinBounds (l : Layout) : Type 0 where
  pub third_least : 200 ≤ l.third
  pub third_most : l.third ≤ 4096
  pub pages_least : 16 ≤ l.pages
  pub pages_most : l.pages ≤ 4096
  pub sectors_most : l.sectors ≤ 2 ^ 24
  pub sectors_least : fixed_size l.third l.pages + map_sectors l ≤ l.sectors
  pub most_most : l.most ≤ 2 ^ 24

-- what a planned layout passes
pub record IsTried (l : Layout) : Type 0 where
  pub third : is_between 200 4096 l.third ≡ true
  pub pages : is_between 16 4096 l.pages ≡ true
  pub sectors : nat_le l.sectors (2 ^ 24) ≡ true
  pub most : may_grow_to l.sectors l.most ≡ true
  pub least : nat_le (least_for l.third l.pages l.most) l.sectors ≡ true

pub planned_tried : (l : Layout) → IsPlanned l → IsTried l
planned_tried l e =
    let a = ok_if (is_between 200 4096 l.third) _ _ l e in
    let b = ok_if (is_between 16 4096 l.pages) _ _ l a.1 in
    let c = ok_if (nat_le l.sectors (2 ^ 24)) _ _ l b.1 in
    let m = ok_if (may_grow_to l.sectors l.most) _ _ l c.1 in
    let d = ok_if (nat_le (least_for l.third l.pages l.most) l.sectors) _ _ l m.1 in
    record { third = a.0; pages = b.0; sectors = c.0; most = m.0; least = d.0 }

-- and what passes is planned
pub tried_planned : (l : Layout) → IsTried l → IsPlanned l
tried_planned l t =
    cond-true (is_between 200 4096 l.third) _ _ t.third ∙ cond-true (is_between 16 4096 l.pages) _ _ t.pages
    ∙ cond-true (nat_le l.sectors (2 ^ 24)) _ _ t.sectors ∙ cond-true (may_grow_to l.sectors l.most) _ _ t.most
    ∙ cond-true (nat_le (least_for l.third l.pages l.most) l.sectors) _ _ t.least

-- where a number is said to grow to, it is in its bounds
pub said_most : (n q : ℕ) → may_grow_to n q ≡ true → (q ≡ 0) ⊎ ((n ≤ q) × (q ≤ 2 ^ 24))
said_most n q ok = elim (cases_eq q 0) [
  | inl none ↦ inl none
  | inr some ↦
      let both = and_parts (nat_le n q) (nat_le q (2 ^ 24)) (other_true (q == 0) (is_between n (2 ^ 24) q) (λ is. some (eqb-true q 0 is)) ok) in
      inr (leb-true n q both.0, leb-true q (2 ^ 24) both.1)
]
  where
    other_true : (a b : Bool) → ((a ≡ true) → ⊥) → (a || b) ≡ true → b ≡ true
    other_true true b never is = absurd (never refl)
    other_true false b never is = is

pub planned_bounds : (l : Layout) → IsPlanned l → IsWithinBounds l
planned_bounds l e =
    let t = planned_tried l e in
    let third = and_parts (nat_le 200 l.third) (nat_le l.third 4096) t.third in
    let pages = and_parts (nat_le 16 l.pages) (nat_le l.pages 4096) t.pages in
    record {
      third_least = leb-true 200 l.third third.0;
      third_most = leb-true l.third 4096 third.1;
      pages_least = leb-true 16 l.pages pages.0;
      pages_most = leb-true l.pages 4096 pages.1;
      sectors_most = leb-true l.sectors (2 ^ 24) t.sectors;
      sectors_least = least_room l.third l.pages l.sectors l.most (leb-true (least_for l.third l.pages l.most) l.sectors t.least);
      most_most = elim (said_most l.sectors l.most t.most) [ inl none ↦ omega (arith, none) | inr some ↦ some.1 ];
    }

pub planned_root_is_read : (l : Layout) → IsPlanned l → read_root (root_bytes l) ≡ Some l
planned_root_is_read l e =
    let bounds = planned_bounds l e in
    let sectors = bounds.sectors_most in
    let third = bounds.third_most in
    let pages = bounds.pages_most in
    let most = bounds.most_most in
    root_is_read l e (omega (arith, sectors)) (omega (arith, third)) (omega (arith, pages)) (omega (arith, most))

-- the numbers of a planned layout may be planned for either kind
pub planned_alike : (l : Layout) (kind : Kind) → IsPlanned l → IsPlanned (with_kind kind l)
planned_alike l kind e =
    let t = planned_tried l e in
    tried_planned (with_kind kind l) (record { third = t.third; pages = t.pages; sectors = t.sectors; most = t.most; least = t.least })
