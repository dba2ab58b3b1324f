-- Commands that are made up from a seed.
use Rattle.std.specs.Prelude.{ℕ, zero, suc, ◌+◌, ◌*◌, ◌/◌, ◌%◌, ◌^◌, List, [], ◌∷◌, ◌++◌, map, None, codes, decimal, nat_lt, ◌==◌, if◌then◌else◌}
use Rattle.std.specs.List.{range_with_len}
use Rattle.fsd_bytes.specs.Keys.{key_of}
use Rattle.fsd_texts.specs.declared.command.Command.{Command}
use Rattle.fsd_texts.specs.declared.command.Command.TheVariants as Word

abbrev pub next_state : ℕ → ℕ
next_state x = (x * 6364136223846793005 + 1442695040888963407) % 2 ^ 64

-- what a state draws
abbrev pub draw_of : ℕ → ℕ
draw_of x = x / 2 ^ 33

-- the parts of what is drawn: which command, which name, and a number for it
abbrev pub drawn_kind : ℕ → ℕ
drawn_kind r = r % 8

abbrev pub name_number : ℕ → ℕ
name_number r = (r / 8) % 64

abbrev pub amount_of : ℕ → ℕ
amount_of r = r / 512

abbrev pub made_name : ℕ → List ℕ
made_name q = codes "g" ++ decimal q

abbrev pub made_bytes : (i q n : ℕ) → List ℕ
made_bytes i q n = map (λ j. (q + i + j) % 256) (range_with_len 0 n)

-- command i of a kind, for name q and the number u
abbrev pub command_of_kind : (kind i q u : ℕ) → Command
command_of_kind kind i q u =
    if nat_lt kind 4 then Word.Put (made_name q) (made_bytes i q (u % 3000)) None
    else (if kind == 4 then Word.Delete (key_of (made_name q) (1 + u % 8))
    else (if kind == 5 then Word.Keep (made_name q) (u % 4)
    else (if kind == 6 then Word.Get (key_of (made_name q) (1 + u % 8))
    else Word.Force)))

abbrev pub command_of_draw : (i r : ℕ) → Command
command_of_draw i r = command_of_kind (drawn_kind r) i (name_number r) (amount_of r)

-- so many commands, of which the next is command i
abbrev pub made_from : (count i x : ℕ) → List Command
made_from zero i x = []
made_from (suc count) i x = let y = next_state x in command_of_draw i (draw_of y) ∷ made_from count (i + 1) y

abbrev pub made_up : (seed count : ℕ) → List Command
made_up seed count = made_from count 1 seed
