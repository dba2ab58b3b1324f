use Rattle.std.proofs.Common.{◌≡◌, ◌≤◌, ◌∙◌, ◌+◌, ◌++◌, ap, not, arith, true, List, ℕ, length, take}
use Rattle.std.specs.Result.{is_ok}
use Rattle.script_text.proofs.TakeLaws.{front_stays, grown, stands_behind}
use Rattle.script_text.proofs.reader.take_behind.Goals as goal

pub returns-clause-comes : goal.returns-clause-comes
returns-clause-comes g c h =
    let old : List ℕ = c.args.bytes.now.items in
    let held : c.len-held.result ≡ length old = c.len-held.ensures ∙ c.args.bytes.now.ok.0 in
    let ok : is_ok c.resize.result ≡ true = c.is_err.ensures.negation ∙ ap not c.if-is_err.false in
    let some : c.in-Ok.count ≤ length c.take-came.new.buf = omega (arith, c.in-Ok.ensures.room, c.take-came.auto.buf) in
    let longer : c.resize.new.self.len ≡ c.len-held.result + c.args.room = grown (is_ok c.resize.result) _ _ _ ok c.resize.ensures.len in
    let within : c.len-held.result + c.in-Ok.count ≤ c.resize.new.self.len = omega (arith, c.in-Ok.ensures.room, c.slice_mut.ensures.len, longer) in
    let front : take c.len-held.result c.resize.new.self.items ≡ old = ap (λ (n : ℕ). take n c.resize.new.self.items) held ∙ front_stays (is_ok c.resize.result) old c.resize.new.self.items _ (c.len-held.result + c.args.room) ok (omega arith) c.resize.ensures.items in
    record {
      some = (c.in-Ok.ensures.taken h).some;
      left = c.in-Ok.ensures.left h;
      bytes = stands_behind old _ _ _ _ _ c.len-held.result c.resize.new.self.len c.in-Ok.count front held some within c.truncate-2.ensures.items ∙ ap (λ (f : List ℕ). old ++ f) (c.in-Ok.ensures.taken h).front;
      end = (c.in-Ok.ensures.taken h).end;
    }
