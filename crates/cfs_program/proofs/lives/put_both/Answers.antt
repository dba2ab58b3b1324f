use Rattle.std.proofs.Common.{◌≡◌, ◌+◌, ◌∷◌, ◌++◌, [], List, length, ℕ, Option, None, if◌then◌else◌, codes, ap, sym, subst, rules}
use Rattle.std.specs.Prelude.{is_some}
use Rattle.std.proofs.lemmas.Result.{IfOk-weaker}
use Rattle.memory_machine.specs.declared.memory.MemoryMachine.{MemoryMachine}
use Rattle.fsd_files.specs.Files.{Change}
use Rattle.cfs_program.specs.Drill.{KeepsIfHonest, puts}
use Rattle.cfs_program.proofs.lives.put_both.Goals as goal

abbrev first : Change
first = Change.Put (codes "a") None (codes "x")

abbrev with_next : List ℕ → List Change
with_next name = first ∷ Change.Put name None (codes "y") ∷ []

pub returns-in-None : goal.returns-in-None
returns-in-None g c =
    let old = c.in_ok-m-2.m in
    let one : c.unwrap.result ≡ codes "a" = search rules in
    let other : c.unwrap-name.result ≡ codes "b" = search rules in
    let done : (if is_some c.args.life.now.stood then 1 else 2) ≡ 2 = ap (λ (o : Option ℕ). if is_some o then 1 else 2) c.in-None.is in
    let kept : KeepsIfHonest (first ∷ []) 1 old = subst (λ (n : List ℕ). KeepsIfHonest (Change.Put n None (codes "x") ∷ []) 1 old) one (c.in_ok-m-2.ensures [] c.in_ok-m.ensures) in
    IfOk-weaker c.put_done-in-None.result (λ (m : MemoryMachine). (h : List Change) → KeepsIfHonest h (length h) old → KeepsIfHonest (h ++ Change.Put c.unwrap-name.result None (codes "y") ∷ []) (length h + 1) m) (λ (m : MemoryMachine). KeepsIfHonest puts (if is_some c.args.life.now.stood then 1 else 2) m)
    (λ m all. subst (λ (f : ℕ). KeepsIfHonest puts f m) (sym done) (subst (λ (n : List ℕ). KeepsIfHonest (with_next n) 2 m) other (all (first ∷ []) kept)))
    c.put_done-in-None.ensures

pub returns-in-Some : goal.returns-in-Some
returns-in-Some g c =
    let old = c.in_ok-m-2.m in
    let one : c.unwrap.result ≡ codes "a" = search rules in
    let other : c.unwrap-name.result ≡ codes "b" = search rules in
    let done : (if is_some c.args.life.now.stood then 1 else 2) ≡ 1 = ap (λ (o : Option ℕ). if is_some o then 1 else 2) c.in-Some.is in
    let kept : KeepsIfHonest (first ∷ []) 1 old = subst (λ (n : List ℕ). KeepsIfHonest (Change.Put n None (codes "x") ∷ []) 1 old) one (c.in_ok-m-2.ensures [] c.in_ok-m.ensures) in
    IfOk-weaker c.put_stopped.result (λ (m : MemoryMachine). (h : List Change) → KeepsIfHonest h (length h) old → KeepsIfHonest (h ++ Change.Put c.unwrap-name.result None (codes "y") ∷ []) (length h) m) (λ (m : MemoryMachine). KeepsIfHonest puts (if is_some c.args.life.now.stood then 1 else 2) m)
    (λ m all. subst (λ (f : ℕ). KeepsIfHonest puts f m) (sym done) (subst (λ (n : List ℕ). KeepsIfHonest (with_next n) 1 m) other (all (first ∷ []) kept)))
    c.put_stopped.ensures
