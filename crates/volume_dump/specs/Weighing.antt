-- What versions take of a dump, one after another.
use Rattle.std.specs.Prelude.{◌≡◌, ℕ, ◌^◌, ◌<◌, All, Bool, List, length, Option, Result, Ok, Err}
use Rattle.fsd_bytes.specs.declared.key.Key.{Key}
use Rattle.fsd_bytes.specs.declared.key.Serial.{Serial}
use Rattle.fsd_bytes.specs.declared.refusal.Refusal.{Refusal}
use Rattle.fsd_formats.specs.declared.entry.Entry.{Entry}
use Rattle.fsd_runs.specs.Dumps.{serial_lt, weights_since}
use Rattle.scrub.specs.Walk.{IsFromOutside, IsWalked}
use Rattle.fsd_runs.specs.declared.span.Weight.{Weight}

abbrev pub is_earlier : Weight → Weight → Bool
is_earlier a b = serial_lt a.serial b.serial

-- They are few enough, and each is small enough, that a sum of them is a number.
pub record AreFew (weights : List Weight) : Type 0 where
  pub few : length weights < 2 ^ 32
  pub small : All (λ w. w.bytes < 2 ^ 22) weights

-- ---- the walk

-- The first ones of the entries are weighed.
pub record HasWeighed (since : Serial) (entries : List Entry) (count : ℕ) (last : Option Key) (weights : List Weight) : Type 0 where
  pub front : List Entry
  pub walked : IsWalked entries front count last
  pub weighed : weights ≡ weights_since since front

-- all are weighed, or a fault from outside has ended it
abbrev pub EndsWeighing : Serial → List Entry → (weights : List Weight) → Result (Unit {0}) Refusal → Type 0
EndsWeighing since entries weights (Ok done) = weights ≡ weights_since since entries
EndsWeighing since entries weights (Err why) = IsFromOutside why
