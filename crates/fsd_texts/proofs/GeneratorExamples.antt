-- What the first seeds make up.
use Rattle.std.proofs.Common.{◌≡◌, ℕ, [], ◌∷◌, map, refl, None, codes}
use Rattle.std.specs.Fmt.{digits}
use Rattle.fsd_bytes.specs.Keys.{key_of}
use Rattle.fsd_texts.specs.declared.command.Command.TheVariants as Word
use Rattle.fsd_texts.specs.Generator.{amount_of, draw_of, drawn_kind, made_bytes, made_up, name_number, next_state}

states : map next_state (1 ∷ 2 ∷ 3 ∷ []) ≡ 7806831264735756412 ∷ 14170967488582549417 ∷ 2088359638719790806 ∷ []
states = refl

draws : map (λ (seed : ℕ). draw_of (next_state seed)) (1 ∷ 2 ∷ 3 ∷ []) ≡ 908834774 ∷ 1649717740 ∷ 243117059 ∷ []
draws = refl

kinds : map drawn_kind (908834774 ∷ 1649717740 ∷ 243117059 ∷ []) ≡ 6 ∷ 4 ∷ 3 ∷ []
kinds = refl

names : map name_number (908834774 ∷ 1649717740 ∷ 243117059 ∷ []) ≡ 58 ∷ 61 ∷ 0 ∷ []
names = refl

amounts : map amount_of (908834774 ∷ 1649717740 ∷ 243117059 ∷ []) ≡ 1775067 ∷ 3222104 ∷ 474838 ∷ []
amounts = refl

commands : map (λ (seed : ℕ). made_up seed 1) (1 ∷ 2 ∷ 3 ∷ [])
    ≡ (Word.Get (key_of (codes "g58") 4) ∷ []) ∷ (Word.Delete (key_of (codes "g61") 1) ∷ []) ∷ (Word.Put (codes "g0") (made_bytes 1 0 838) None ∷ []) ∷ []
unfolding digits
commands = refl

bytes : made_bytes 1 254 4 ≡ 255 ∷ 0 ∷ 1 ∷ 2 ∷ []
bytes = refl
