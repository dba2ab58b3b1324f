use Rattle.std.proofs.Common.{◌≡◌, ℕ, ◌+◌, ◌-◌, Result, Ok, Err, subst, List, ◌++◌, length, take, drop, sym, ap, ◌∙◌}
use Rattle.std.proofs.lemmas.List.{length-drop}
use Rattle.std.proofs.Math.Seq.{take-length}
use Rattle.volume_contract.specs.Pieces.{with_opened, draft_wrote}
use Rattle.sector_disk.proofs.CallLaws.{writes_then}
use Rattle.std.proofs.Common.{append_assoc}
use Rattle.std.proofs.lemmas.List.{take-append-drop}
use Rattle.volume_contract.specs.declared.token.Draft.{Draft}
use Rattle.fsd_bytes.specs.declared.refusal.Refusal.{Refusal}
use Rattle.fsd_files.specs.Disk.{Touches}
use Rattle.fsd_files.specs.Kept.{data_sectors}
use Rattle.run_table.specs.Space.{contains}
use Rattle.client_desk.specs.Clients.{draft_sectors}
use Rattle.volume_contract.proofs.CountedLaws.{counted_then}
use Rattle.client_desk.proofs.CountLaws.{counted_so, due_both, more_slices}
use Rattle.client_desk.proofs.PieceLaws.{adds_then, breaks_then, leaves_on, touches_both}
use Rattle.client_desk.proofs.pieces.add.Goals as goal

-- the rest of the bytes stand behind those that came
rest_is : (n : ℕ) (before bytes rest : List ℕ) → rest ≡ drop n bytes → (before ++ take n bytes) ++ rest ≡ before ++ bytes
rest_is n before bytes rest is = ap (λ (xs : List ℕ). (before ++ take n bytes) ++ xs) is ∙ append_assoc before (take n bytes) (drop n bytes) ∙ ap (λ (xs : List ℕ). before ++ xs) (take-append-drop n bytes)

part_is : (n : ℕ) (bytes : List ℕ) → take (length bytes - n) (drop n bytes) ≡ drop n bytes
part_is n bytes = ap (λ (m : ℕ). take m (drop n bytes)) (sym (length-drop n bytes)) ∙ take-length (drop n bytes)

pub returns-in-Ok-lay-clause-disk : goal.returns-in-Ok-lay-clause-disk
returns-in-Ok-lay-clause-disk g c =
    let V = g.V.Files in
    let M = g.M.Machine in
    writes_then c.in-Ok.ensures.disk c.in-Ok-lay.ensures.disk (λ h left was. was)
    (λ h left. let b = c.in-Ok-lay.ensures.disk.trust.honest h in
    leaves_on V.state V.holds c.args.v.now c.fill.new.v c.args.w.now c.fill.new.w (M.now c.args.m.now) (M.now c.fill.new.m) left c.in-Ok.ensures.draft (c.in-Ok.ensures.disk.exit b)
    (λ k stands name len runs serial before writing. (before ++ take c.in-Ok.count c.args.bytes.now, c.in-Ok.ensures.done b k stands name len runs serial before writing)))

pub returns-in-Err-lay-clause-disk : goal.returns-in-Err-lay-clause-disk
returns-in-Err-lay-clause-disk g c =
    let V = g.V.Files in
    let M = g.M.Machine in
    writes_then c.in-Ok.ensures.disk c.in-Err-lay.ensures.disk (λ h left was. was)
    (λ h left. let b = c.in-Err-lay.ensures.disk.trust.honest h in
    leaves_on V.state V.holds c.args.v.now c.fill.new.v c.args.w.now c.fill.new.w (M.now c.args.m.now) (M.now c.fill.new.m) left c.in-Ok.ensures.draft (c.in-Ok.ensures.disk.exit b)
    (λ k stands name len runs serial before writing. (before ++ take c.in-Ok.count c.args.bytes.now, c.in-Ok.ensures.done b k stands name len runs serial before writing)))

pub returns-in-Ok-lay-clause-done : goal.returns-in-Ok-lay-clause-done
returns-in-Ok-lay-clause-done g c h k stands name len runs serial before writing =
    let V = g.V.Files in
    let M = g.M.Machine in
    let n = c.in-Ok.count in
    let bytes = c.args.bytes.now in
    let b = c.in-Ok-lay.ensures.disk.trust.honest h in
    let first = c.in-Ok.ensures.done b k stands name len runs serial before writing in
    let second = c.in-Ok-lay.ensures.done h (with_opened k (draft_wrote k.opened runs first.slices)) first.stands name len runs serial (before ++ take n bytes) first.writing in
    adds_then V.state V.holds k c.fill.new.w c.lay.new.w name len runs serial _ (before ++ bytes) first.slices c.lay.new.v (M.now c.lay.new.m) (rest_is n before bytes _ (part_is n bytes)) second

pub returns-in-Err-lay-clause-done : goal.returns-in-Err-lay-clause-done
returns-in-Err-lay-clause-done g c h k stands name len runs serial before writing =
    let V = g.V.Files in
    let M = g.M.Machine in
    let n = c.in-Ok.count in
    let bytes = c.args.bytes.now in
    let b = c.in-Err-lay.ensures.disk.trust.honest h in
    let first = c.in-Ok.ensures.done b k stands name len runs serial before writing in
    let second = c.in-Err-lay.ensures.done h (with_opened k (draft_wrote k.opened runs first.slices)) first.stands name len runs serial (before ++ take n bytes) first.writing in
    breaks_then V.state V.holds {T = Unit {0}} {U = Unit {0}} (λ x. take (length bytes - n) (drop n bytes)) (λ x. bytes) k c.lay.new.w c.lay.new.w name len runs serial (before ++ take n bytes) before first.slices c.lay.new.v (M.now c.lay.new.m) c.in-Err-lay.why second

pub returns-in-Ok-lay-clause-writes : goal.returns-in-Ok-lay-clause-writes
returns-in-Ok-lay-clause-writes g c =
    let M = g.M.Machine in
    let w = c.args.w.now in
    let x = c.fill.new.w in
    let n = c.in-Ok.count in
    let count = length c.args.bytes.now in
    let first = c.in-Ok.ensures in
    let second = c.in-Ok-lay.ensures in
    let a = M.ledger c.args.m.now in
    let b = M.ledger c.fill.new.m in
    let d = M.ledger c.lay.new.m in
    let r : Result (Unit {0}) Refusal = Ok c.in-Ok-lay.field-0 in
    let grows = first.fills.grows in
    let size : length (take (count - n) (drop n c.args.bytes.now)) ≡ count - n = ap (λ (xs : List ℕ). length xs) (part_is n c.args.bytes.now) ∙ length-drop n c.args.bytes.now in
    let then : more_slices x.draft.length x.got (length (take (count - n) (drop n c.args.bytes.now))) ≡ more_slices w.draft.length (w.got + n) (count - n) =
    ap (more_slices x.draft.length x.got) size ∙ ap (λ (y : Draft). more_slices y.length x.got (count - n)) first.draft ∙ ap (λ (m : ℕ). more_slices w.draft.length m (count - n)) grows.got in
    let both = due_both w.draft.length w.got n count first.fills.part c.requires.fits in
    record {
      rest = λ h. let back = second.disk.trust.honest h in
          touches_both (draft_sectors w) (M.now c.args.m.now) (M.now c.fill.new.m) (M.now c.lay.new.m) (first.disk.windows back) (first.writes.rest back)
          (subst (λ (y : Draft). Touches (λ t. contains (data_sectors y.runs) t) (M.now c.fill.new.m) (M.now c.lay.new.m)) first.draft (second.writes.rest h));
      counted = λ t. counted_so r (more_slices w.draft.length w.got n + more_slices w.draft.length (w.got + n) (count - n)) (more_slices w.draft.length w.got count) a d both
          (counted_then r (more_slices w.draft.length w.got n) (more_slices w.draft.length (w.got + n) (count - n)) a b d (first.writes.counted (second.disk.trust.tells t)) (counted_so r _ _ b d then (second.writes.counted t)));
    }

pub returns-in-Err-lay-clause-writes : goal.returns-in-Err-lay-clause-writes
returns-in-Err-lay-clause-writes g c =
    let M = g.M.Machine in
    let w = c.args.w.now in
    let x = c.fill.new.w in
    let n = c.in-Ok.count in
    let count = length c.args.bytes.now in
    let first = c.in-Ok.ensures in
    let second = c.in-Err-lay.ensures in
    let a = M.ledger c.args.m.now in
    let b = M.ledger c.fill.new.m in
    let d = M.ledger c.lay.new.m in
    let r : Result (Unit {0}) Refusal = Err c.in-Err-lay.why in
    let grows = first.fills.grows in
    let size : length (take (count - n) (drop n c.args.bytes.now)) ≡ count - n = ap (λ (xs : List ℕ). length xs) (part_is n c.args.bytes.now) ∙ length-drop n c.args.bytes.now in
    let then : more_slices x.draft.length x.got (length (take (count - n) (drop n c.args.bytes.now))) ≡ more_slices w.draft.length (w.got + n) (count - n) =
    ap (more_slices x.draft.length x.got) size ∙ ap (λ (y : Draft). more_slices y.length x.got (count - n)) first.draft ∙ ap (λ (m : ℕ). more_slices w.draft.length m (count - n)) grows.got in
    let both = due_both w.draft.length w.got n count first.fills.part c.requires.fits in
    record {
      rest = λ h. let back = second.disk.trust.honest h in
          touches_both (draft_sectors w) (M.now c.args.m.now) (M.now c.fill.new.m) (M.now c.lay.new.m) (first.disk.windows back) (first.writes.rest back)
          (subst (λ (y : Draft). Touches (λ t. contains (data_sectors y.runs) t) (M.now c.fill.new.m) (M.now c.lay.new.m)) first.draft (second.writes.rest h));
      counted = λ t. counted_so r (more_slices w.draft.length w.got n + more_slices w.draft.length (w.got + n) (count - n)) (more_slices w.draft.length w.got count) a d both
          (counted_then r (more_slices w.draft.length w.got n) (more_slices w.draft.length (w.got + n) (count - n)) a b d (first.writes.counted (second.disk.trust.tells t)) (counted_so r _ _ b d then (second.writes.counted t)));
    }
