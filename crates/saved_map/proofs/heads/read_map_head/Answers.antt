use Rattle.std.proofs.Common.{◌≡◌, ◌∙◌, sym}
use Rattle.fsd_formats.specs.declared.map_head.MapHead.{MapHead}
use Rattle.fsd_bytes.proofs.SameLaws.{same_is}
use Rattle.saved_map.proofs.HeadLaws.{head_at, head_found}
use Rattle.saved_map.proofs.heads.read_map_head.Goals as goal

pub returns-then-eq : goal.returns-then-eq
returns-then-eq c =
    let is : ◌≡◌ {A = MapHead} (record { epoch = c.u32_at.result; index = c.from.result; pages = c.from-2.result; versions = c.u32_at-2.result }) (head_at c.args.b.now) =
    λ i. record { epoch = c.u32_at.ensures i; index = (c.from.ensures ∙ c.u16_at.ensures) i; pages = (c.from-2.ensures ∙ c.u16_at-2.ensures) i; versions = c.u32_at-2.ensures i } in
    head_found c.args.b.now c.head_alone.result _ is c.head_alone.ensures.bytes (same_is _ _ (sym c.eq.ensures ∙ c.if-eq.true))
