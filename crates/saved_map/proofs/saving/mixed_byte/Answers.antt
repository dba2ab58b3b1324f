use Rattle.std.proofs.Common.{◌≡◌, ◌<◌, ◌+◌, ℕ, sym, ap, subst, ◌∙◌, arith}
use Rattle.fsd_formats.specs.MapSector.{bits_value}
use Rattle.saved_map.specs.Marks.{is_marked}
use Rattle.saved_map.proofs.MarkLaws.{bit_small, low_value}
use Rattle.saved_map.proofs.saving.mixed_byte.Goals as goal

pub overflow_mul-byte : goal.overflow_mul-byte
overflow_mul-byte c =
    let low : c.loop-i.byte < 128 = subst (λ (n : ℕ). n < 128) (sym c.loop-i.invariant) (low_value (is_marked c.args.l.now c.args.map.now.sectors c.args.free_pages.now) c.args.s c.loop-i.i c.loop-i-test.true) in
    omega (arith, low)

pub overflow_add-byte : goal.overflow_add-byte
overflow_add-byte c =
    let low : c.loop-i.byte < 128 = subst (λ (n : ℕ). n < 128) (sym c.loop-i.invariant) (low_value (is_marked c.args.l.now c.args.map.now.sectors c.args.free_pages.now) c.args.s c.loop-i.i c.loop-i-test.true) in
    let bit : c.bit_at.result < 2 = subst (λ (n : ℕ). n < 2) (sym c.bit_at.ensures) (bit_small (is_marked c.args.l.now c.args.map.now.sectors c.args.free_pages.now (c.args.s + c.loop-i.i))) in
    omega (arith, low, bit)

pub returns : goal.returns
returns c =
    let all : c.loop-i.i ≡ 8 = omega arith in
    c.loop-i.invariant ∙ ap (bits_value (is_marked c.args.l.now c.args.map.now.sectors c.args.free_pages.now) c.args.s) all
