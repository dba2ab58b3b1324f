-- An input of which some front is taken.
use Rattle.std.proofs.Common.{◌≡◌, ℕ, ◌+◌, ◌≤◌, List, [], ◌++◌, length, take, drop, refl, sym, ◌∙◌, ap, arith, length-append, length-take-le, length-drop, drop-drop}
use Rattle.std.proofs.lemmas.List.{take_all}
use Rattle.std.proofs.Math.Seq.{take-add}
use Rattle.sector_disk.specs.Machine.{Ledger, took}
use Rattle.script_text.specs.Taking.{ComesIn}

-- these bytes are what was taken
pub record SoFar (old now : Ledger) (bytes : List ℕ) : Type 0 where
  pub taken : now ≡ took old (length bytes)
  pub front : bytes ≡ take (length bytes) old.input
  pub within : length bytes ≤ length old.input

pub nothing_so_far : (old : Ledger) → SoFar old old []
nothing_so_far old = record { taken = refl; front = refl; within = omega arith }

took_took : (old : Ledger) (a b : ℕ) → took (took old a) b ≡ took old (a + b)
took_took old a b = ap (λ (i : List ℕ). record { input = i; attaches = old.attaches; written = old.written; syncs = old.syncs }) (drop-drop b a old.input)

pub length_more : (bytes piece : List ℕ) (n : ℕ) → n ≤ length piece → length (bytes ++ take n piece) ≡ length bytes + n
length_more bytes piece n room = length-append bytes (take n piece) ∙ ap (λ k. length bytes + k) (length-take-le n piece room)

pub so_far_more : (old now next : Ledger) (bytes more : List ℕ) (n : ℕ) → SoFar old now bytes → ComesIn bytes more n now next → SoFar old next more
so_far_more old now next bytes more n s c =
    let rest : now.input ≡ drop (length bytes) old.input = ap (λ (l : Ledger). l.input) s.taken in
    let long : length more ≡ length bytes + n = ap (λ (x : List ℕ). length x) c.bytes ∙ length_more bytes now.input n c.some in
    let some = c.some in
    let left : length now.input ≡ length (drop (length bytes) old.input) = ap (λ (x : List ℕ). length x) rest in
    let dropped = length-drop (length bytes) old.input in
    let within = s.within in
    record {
      taken = c.left ∙ ap (λ (l : Ledger). took l n) s.taken ∙ took_took old (length bytes) n ∙ ap (took old) (sym long);
      front = c.bytes ∙ ap (λ (x : List ℕ). x ++ take n now.input) s.front ∙ ap (λ (x : List ℕ). take (length bytes) old.input ++ take n x) rest ∙ sym (take-add (length bytes) n old.input) ∙ ap (λ (k : ℕ). take k old.input) (sym long);
      within = omega (arith, long, some, left, dropped, within);
    }

-- the piece is the last one
pub whole_so_far : (old now next : Ledger) (bytes more : List ℕ) → SoFar old now bytes → ComesIn bytes more 0 now next → more ≡ old.input
whole_so_far old now next bytes more s c =
    let rest : now.input ≡ drop (length bytes) old.input = ap (λ (l : Ledger). l.input) s.taken in
    let end : length (drop (length bytes) old.input) ≡ 0 = ap (λ (x : List ℕ). length x) (sym rest ∙ c.end refl) in
    let all = so_far_more old now next bytes more 0 s c in
    let dropped = length-drop (length bytes) old.input in
    let long : length more ≡ length bytes + 0 = ap (λ (x : List ℕ). length x) c.bytes ∙ length_more bytes now.input 0 (omega arith) in
    all.front ∙ take_all (length more) old.input (omega (arith, end, dropped, long))
