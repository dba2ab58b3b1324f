-- Results and options, where std has no law.
use Rattle.std.proofs.Common.{◌≡◌, Option, Some, None, refl}
use Rattle.std.specs.Option.{option_or}
use Rattle.std.specs.Prelude.{Result, Ok, Err, OnOk, OnErr, IsSome}

-- what is so is so at Ok
pub ok_as : {T E : Type 0} (P : Type 0) (r : Result T E) → P → OnOk r P
ok_as P (Ok x) so = so
ok_as P (Err e) so = tt

-- and at Err
pub err_as : {T E : Type 0} (P : Type 0) (r : Result T E) → P → OnErr r P
err_as P (Ok x) so = tt
err_as P (Err e) so = so

pub some_is : {A : Type 0} (o : Option A) → IsSome o → (x : A) × (o ≡ Some x)
some_is None some = absurd (cc some)
some_is (Some x) some = (x, refl)

pub option_or-assoc : {T : Type 0} (a b c : Option T) → option_or (option_or a b) c ≡ option_or a (option_or b c)
option_or-assoc None b c = refl
option_or-assoc (Some x) b c = refl

pub option_or-none : {T : Type 0} (a : Option T) → a ≡ option_or a None
option_or-none None = refl
option_or-none (Some x) = refl
