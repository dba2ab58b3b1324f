-- A root is of a volume of 88 sectors or more.
use Rattle.std.proofs.Common.{◌≡◌, ◌≤◌, ℕ, ◌^◌, List, Some, Result, Ok, Err, ap, arith}
use Rattle.std.specs.Prelude.{nat_le}
use Rattle.std.proofs.lemmas.Bool.{leb-true}
use Rattle.fsd_bytes.specs.Bytes.{same_bytes, u32_at}
use Rattle.fsd_bytes.specs.Names.{is_between}
use Rattle.fsd_bytes.proofs.SameLaws.{given_if}
use Rattle.volume_layout.specs.declared.kind.Kind.{Kind}
use Rattle.volume_layout.specs.declared.layout.Layout.{Layout}
use Rattle.volume_layout.specs.declared.fault.LayoutFault.{LayoutFault}
use Rattle.volume_layout.specs.Kinds.{kind_of}
use Rattle.volume_layout.specs.Layout.{plan_most, least_for, may_grow_to, mapped, fixed_size, map_bits}
use Rattle.volume_layout.specs.Root.{root_bytes, read_root, spelled_root}
use Rattle.volume_layout.proofs.RootLaws.{ok_if, least_room}

spelled_ok : (bytes : List ℕ) (r : Result Layout LayoutFault) (l : Layout) → spelled_root bytes r ≡ Some l → r ≡ Ok l
spelled_ok bytes (Ok m) l e = ap Ok (given_if (same_bytes (root_bytes m) bytes) m l e).1
spelled_ok bytes (Err why) l e = absurd cc

ok_same : (x l : Layout) → ◌≡◌ {A = Result Layout LayoutFault} (Ok x) (Ok l) → x ≡ l
ok_same x l e = cc

planned_large : (kind : Kind) (n t p q : ℕ) (l : Layout) → plan_most kind n t p q ≡ Ok l → 88 ≤ l.sectors
planned_large kind n t p q l e =
    let a = ok_if (is_between 200 4096 t) _ _ l e in
    let b = ok_if (is_between 16 4096 p) _ _ l a.1 in
    let c = ok_if (nat_le n (2 ^ 24)) _ _ l b.1 in
    let m = ok_if (may_grow_to n q) _ _ l c.1 in
    let d = ok_if (nat_le (least_for t p q) n) _ _ l m.1 in
    let same : n ≡ l.sectors = ap (λ (x : Layout). x.sectors) (ok_same (record { sectors = n; third = t; pages = p; kind = kind; most = q }) l d.1) in
    let least = least_room t p n q (leb-true (least_for t p q) n d.0) in
    omega (arith, same, least)

pub root_large : (bytes : List ℕ) (l : Layout) → read_root bytes ≡ Some l → 88 ≤ l.sectors
root_large bytes l e =
    planned_large (kind_of (u32_at 4 bytes)) (u32_at 8 bytes) (u32_at 12 bytes) (u32_at 16 bytes) (u32_at 20 bytes) l
    (spelled_ok bytes (plan_most (kind_of (u32_at 4 bytes)) (u32_at 8 bytes) (u32_at 12 bytes) (u32_at 16 bytes) (u32_at 20 bytes)) l e)
