-- Refusals from outside.
use Rattle.std.proofs.Common.{ℕ}
use Rattle.fsd_bytes.specs.declared.refusal.Refusal.{Refusal}
use Rattle.fsd_bytes.specs.declared.refusal.Refusal.TheVariants as Why
use Rattle.name_page.specs.Pages.{IsOuter}

-- a refusal from outside is the disk's, or a want of memory, or a loss
pub outer_cases : (P : Refusal → Type 0) → ((s : ℕ) → P (Why.Device s)) → ((a b : ℕ) → P (Why.Lost a b)) → P Why.Memory → (r : Refusal) → IsOuter r → P r
outer_cases P device lost memory (Why.Device s) e = device s
outer_cases P device lost memory (Why.Lost a b) e = lost a b
outer_cases P device lost memory Why.Memory e = memory
outer_cases P device lost memory other e = absurd (cc e)
