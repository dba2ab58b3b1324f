-- The pages whose last images lie in a third.
use Rattle.std.proofs.Common.{◌≡◌, ℕ, ◌<◌, List, length, Option, Some, None, subst, arith}
use Rattle.std.specs.Prelude.{IsTrue, IfSome, IfNone}
use Rattle.volume_layout.specs.Layout.{third_start}
use Rattle.fsd_log.specs.Scan.{Placed}
use Rattle.fsd_log.specs.declared.slot.Slot.{Slot}
use Rattle.log_thirds.specs.LogValue.{LogValue}
use Rattle.fsd_log.specs.Slots.{lies_in, IsLeastIn, NoneLiesIn}
use Rattle.log_thirds.specs.Append.{IsIndexed, IsLeastOfThird, NoneOfThird}

module _ (log : LogValue) (records : List Placed) (t first : ℕ) (long : length log.slots ≡ log.layout.pages) (are : IsIndexed log records) where
  pub least_of_third : (o : Option ℕ) → IfSome o (IsLeastIn log.slots first (third_start log.layout t) log.layout.third) → IfSome o (IsLeastOfThird log records t first)
  least_of_third None is = tt
  least_of_third (Some page) is = record {
    from = is.from;
    there = omega (arith, is.there, long);
    lies = subst (λ (o : Option Slot). IsTrue (lies_in (third_start log.layout t) log.layout.third o)) (are.slots page is.there) is.lies;
    before = λ q ge lt h. let none = is.before q ge lt in let same = are.slots q (omega (arith, lt, is.there)) in absurd (cc (none, same, h));
  }

  pub none_of_third : (o : Option ℕ) → IfNone o (NoneLiesIn log.slots first (third_start log.layout t) log.layout.third) → IfNone o (NoneOfThird log records t first)
  none_of_third None is = λ q ge lt h. let within : q < length log.slots = omega (arith, lt, long) in let none = is q ge within in let same = are.slots q within in absurd (cc (none, same, h))
  none_of_third (Some page) is = tt
