use Rattle.std.proofs.Common.{◌≡◌, ◌+◌, ◌∙◌, ℕ, List, None, ap, rules, subst, arith}
use Rattle.std.proofs.lemmas.Result.{err_from_is_err_and, IfOk-weaker}
use Rattle.sector_disk.specs.Machine.{Ledger}
use Rattle.std.specs.Prelude.{is_none}
use Rattle.sector_disk.proofs.CallLaws.{reads_as_writes, reads_then_writes}
use Rattle.volume_layout.specs.Root.{root_bytes}
use Rattle.twin_home.specs.Heal.{AreThese, HealsRoots, SetsRoots}
use Rattle.twin_home.proofs.HealLaws.{both_healed, device_copies, device_lost, roots_on, roots_still}
use Rattle.twin_home.proofs.heal.heal_root.Goals.{else-is_none-via-then-is_none+else-is_none-2, else-is_none-via-else-is_none}
use Rattle.twin_home.proofs.heal.heal_root.Goals as goal

pub returns-in_err-first : goal.returns-in_err-first
returns-in_err-first g c =
    let reads = c.in_err-first.ensures.reads in
    let p = err_from_is_err_and c.from_residual.result c.from_residual.ensures.1 in
    rw (p.1, p.2) (record {
      writes = reads_as_writes reads (λ h left worn. roots_still (root_bytes c.args.l.now) (g.M.Machine.now c.args.m.now) left worn);
      copies = tt;
      counted = tt;
      most = λ t. omega (arith, ap (λ (x : Ledger). x.written) (reads.ledger t));
      done = tt;
      lost = λ h. tt;
    })

pub returns-clause-copies : goal.returns-clause-copies
returns-clause-copies g c = device_copies 0 4 c.set_roots.result c.set_roots.ensures.device

pub returns-clause-counted : goal.returns-clause-counted
returns-clause-counted g c =
    let reads = c.in_ok-first.ensures.reads in
    IfOk-weaker c.set_roots.result _ _ (λ count counted t. counted t ∙ ap (λ (x : Ledger). x.written + count) (reads.ledger (c.set_roots.ensures.writes.trust.tells t))) c.set_roots.ensures.counted

pub returns-clause-lost : goal.returns-clause-lost
returns-clause-lost g c = let M = g.M.Machine in device_lost (M.honest c.set_roots.new.m) (AreThese 0 4) (M.now c.set_roots.new.m).image c.set_roots.result c.set_roots.ensures.device

pub returns-clause-writes : goal.returns-clause-writes
returns-clause-writes g c =
    let M = g.M.Machine in
    let bytes = root_bytes c.args.l.now in
    let old = M.now c.args.m.now in let mid = M.now c.read_both.new.m in
    reads_then_writes c.in_ok-first.ensures.reads c.set_roots.ensures.writes (λ h left worn. roots_still bytes old left worn)
    (λ h left roots. roots_on bytes old mid left (c.read_both.ensures.reads.worn (c.set_roots.ensures.writes.trust.honest h)) (subst (λ (b : List ℕ). HealsRoots b mid left) c.root_bytes.ensures roots))

pub returns-clause-done : goal.returns-clause-done
returns-clause-done g c =
    let M = g.M.Machine in
    let bytes = root_bytes c.args.l.now in
    let old = M.now c.args.m.now in let mid = M.now c.read_both.new.m in let new = M.now c.set_roots.new.m in
    let some : c.in_ok-first.first ≡ None → c.in_ok-first.second ≡ None → ⊥ = λ none_0 none_4. elim c.else-is_none.branch [
      | else-is_none-via-then-is_none+else-is_none-2 w ↦ (let e : w.is_none-then-is_none.result ≡ is_none c.in_ok-first.second = search rules in cc (w.if-is_none-2.false, e, ap is_none none_4))
      | else-is_none-via-else-is_none w ↦ (let e : c.is_none.result ≡ is_none c.in_ok-first.first = search rules in cc (w.if-is_none.false, e, ap is_none none_0))
    ] in
    IfOk-weaker c.set_roots.result _ _
    (λ count done h.
    let h1 = c.set_roots.ensures.writes.trust.honest h in
    both_healed bytes count c.in_ok-first.first c.in_ok-first.second old mid new (c.read_both.ensures.reads.worn h1) (c.in_ok-first.ensures.read h1) some
    (subst (λ (b : List ℕ). SetsRoots c.in_ok-first.first c.in_ok-first.second b count mid new) c.root_bytes.ensures (done h)))
    c.set_roots.ensures.done

pub returns-then-is_none-2-clause-writes : goal.returns-then-is_none-2-clause-writes
returns-then-is_none-2-clause-writes g c = reads_as_writes c.in_ok-first.ensures.reads (λ h left worn. roots_still (root_bytes c.args.l.now) (g.M.Machine.now c.args.m.now) left worn)
