use Rattle.std.proofs.Common.{◌≡◌, ℕ, ◌+◌, ◌-◌, ◌/◌, ◌≤◌, true, List, [], ◌++◌, length, take, drop, refl, arith, sym, ap, subst, ◌∙◌, inl, inr, zero, suc}
use Rattle.std.specs.Prelude.{◌==◌}
use Rattle.run_table.specs.declared.run.Run.{Run}
use Rattle.sector_disk.proofs.CallLaws.{writes_more}
use Rattle.client_desk.specs.declared.client.Client.TheVariants.{Writing}
use Rattle.client_desk.proofs.SliceLaws.{part_within}
use Rattle.client_desk.proofs.CountLaws.{due_lay}
use Rattle.client_desk.proofs.PieceLaws.{touches_data, adds_written, leaves_more, slices_refuse, broken_off, none_slices, none_tail, whole_slices, whole_tail}
use Rattle.volume_contract.specs.Pieces.{slice_count, slices_if, slices_in, with_slices}
use Rattle.client_desk.specs.Ends.{slices_so_far}
use Rattle.std.proofs.lemmas.List.{length-append, length-drop, length-take-le, nil_from_length}
use Rattle.std.proofs.Math.Seq.{take-length}
use Rattle.client_desk.proofs.pieces.lay.Goals as goal

pub returns-in-Ok-clause-disk : goal.returns-in-Ok-clause-disk
returns-in-Ok-clause-disk g c =
    let V = g.V.Files in
    let w = c.args.w.now in
    writes_more c.in-Ok.ensures.disk (λ h left. leaves_more V.state V.holds c.args.v.now (Writing w) w (w.got / 512) (length (take c.whole_part-count.result c.args.bytes.now)) (g.M.Machine.now c.args.m.now) left)

pub returns-in-Ok-clause-done : goal.returns-in-Ok-clause-done
returns-in-Ok-clause-done g c h k stands name len runs serial before writing =
    let V = g.V.Files in
    let w = c.args.w.now in
    let more = c.args.bytes.now in
    let n = c.whole_part-count.result in
    let slice = c.put_at.new.slice in
    let is = ap (λ (r : List Run). slices_in k.opened.drafts r) writing.lies ∙ writing.written in
    let got : w.got + length more ≡ length (before ++ more) = ap (λ (m : ℕ). m + length more) writing.got ∙ sym (length-append before more) in
    let adds = adds_written V.state V.holds k c.write_slices.new.self (g.M.Machine.now c.write_slices.new.m) w name len runs serial (record { name = w.name; draft = w.draft; got = w.got + length more; slice = slice }) before (before ++ more)
    (with_slices (slices_so_far len before) (w.got / 512) (slices_if true (take n more))) writing (c.in-Ok.ensures.done h k stands (slices_so_far len before) is) in
    elim c.requires.seam [
      | inl whole ↦
          let part : n ≤ length more = subst (λ (m : ℕ). m ≤ length more) (sym c.whole_part-count.ensures) (part_within (length more) (w.got + length more == w.draft.length)) in
          let rest : List ℕ = take (length more - n) (drop n more) in
          let size : length (drop n more) ≡ length more - n = length-drop n more in
          let all_rest : rest ≡ drop n more = ap (λ (m : ℕ). take m (drop n more)) (sym size) ∙ take-length (drop n more) in
          let front : take (length more - n) slice ≡ drop n more = ap (λ (m : ℕ). take m slice) (sym (let e : 0 + length rest ≡ length rest = omega arith in e ∙ ap (λ (xs : List ℕ). length xs) all_rest ∙ size)) ∙ c.put_at.ensures.front ∙ all_rest in
          adds (ap (λ (m : ℕ). with_slices (slices_so_far len before) (w.got / 512) (slices_if true (take m more))) c.whole_part-count.ensures ∙ whole_slices k.opened w name len runs serial before more slice writing whole) refl refl got
          (whole_tail k.opened w name len runs serial before more slice writing n c.whole_part-count.ensures whole front)
      | inr none ↦
          let empty : more ≡ [] = nil_from_length more none in
          let chunk : take n more ≡ [] = ap (λ (xs : List ℕ). take n xs) empty ∙ take_none n in
          let rest : List ℕ = take (length more - n) (drop n more) in
          let nothing : 0 + length rest ≡ 0 = ap (λ (xs : List ℕ). 0 + length (take (length xs - n) (drop n xs))) empty ∙ ap (λ (xs : List ℕ). 0 + length xs) (ap (λ (xs : List ℕ). take (0 - n) xs) (drop_nothing n) ∙ take_none (0 - n)) in
          let same : slice ≡ w.slice = ap (λ (m : ℕ). drop m slice) (sym nothing) ∙ c.put_at.ensures.rest ∙ ap (λ (m : ℕ). drop m w.slice) nothing in
          adds (none_slices k.opened w name len runs serial before more slice writing (w.got / 512) (take n more) empty chunk) refl refl got (none_tail k.opened w name len runs serial before more slice writing empty same)
    ]
  where
    take_none : (m : ℕ) → take {A = ℕ} m [] ≡ []
    take_none zero = refl
    take_none (suc m) = refl

    drop_nothing : (m : ℕ) → drop {A = ℕ} m [] ≡ []
    drop_nothing zero = refl
    drop_nothing (suc m) = refl

pub returns-in-Err-clause-order : goal.returns-in-Err-clause-order
returns-in-Err-clause-order g c =
    let w = c.args.w.now in
    slices_refuse (g.V.Files.state c.args.v.now) w (w.got / 512) (length (take c.whole_part-count.result c.args.bytes.now)) c.in-Err.why c.in-Err.ensures.order.follows

pub returns-in-Err-clause-disk : goal.returns-in-Err-clause-disk
returns-in-Err-clause-disk g c =
    let V = g.V.Files in
    let w = c.args.w.now in
    writes_more c.in-Err.ensures.disk (λ h left. leaves_more V.state V.holds c.args.v.now (Writing w) w (w.got / 512) (length (take c.whole_part-count.result c.args.bytes.now)) (g.M.Machine.now c.args.m.now) left)

pub returns-in-Err-clause-done : goal.returns-in-Err-clause-done
returns-in-Err-clause-done g c h k stands name len runs serial before writing =
    let V = g.V.Files in
    let w = c.args.w.now in
    let is = ap (λ (r : List Run). slices_in k.opened.drafts r) writing.lies ∙ writing.written in
    broken_off V.state V.holds {T = Unit {0}} (λ x. c.args.bytes.now) k w w.draft name len runs serial before (w.got / 512) (take c.whole_part-count.result c.args.bytes.now) (slices_so_far len before) c.write_slices.new.self (g.M.Machine.now c.write_slices.new.m) c.in-Err.why writing.lies
    (c.in-Err.ensures.done h k stands (slices_so_far len before) is)

pub returns-in-Ok-clause-writes : goal.returns-in-Ok-clause-writes
returns-in-Ok-clause-writes g c =
    let M = g.M.Machine in
    let w = c.args.w.now in
    let more = c.args.bytes.now in
    let n = c.whole_part-count.result in
    let e = c.in-Ok.ensures.writes in
    let part : n ≤ length more = subst (λ (m : ℕ). m ≤ length more) (sym c.whole_part-count.ensures) (part_within (length more) (w.got + length more == w.draft.length)) in
    let same = ap slice_count (length-take-le n more part ∙ c.whole_part-count.ensures) ∙ due_lay w.draft.length w.got (length more) c.requires.seam in
    record {
      rest = λ h. touches_data w (w.got / 512) (length (take n more)) (M.now c.args.m.now) (M.now c.write_slices.new.m) (e.rest h);
      counted = λ t. let counted = e.counted t in omega (arith, counted, same);
    }

pub returns-in-Err-clause-writes : goal.returns-in-Err-clause-writes
returns-in-Err-clause-writes g c =
    let M = g.M.Machine in
    let w = c.args.w.now in
    let more = c.args.bytes.now in
    let n = c.whole_part-count.result in
    let e = c.in-Err.ensures.writes in
    let part : n ≤ length more = subst (λ (m : ℕ). m ≤ length more) (sym c.whole_part-count.ensures) (part_within (length more) (w.got + length more == w.draft.length)) in
    let same = ap slice_count (length-take-le n more part ∙ c.whole_part-count.ensures) ∙ due_lay w.draft.length w.got (length more) c.requires.seam in
    record {
      rest = λ h. touches_data w (w.got / 512) (length (take n more)) (M.now c.args.m.now) (M.now c.write_slices.new.m) (e.rest h);
      counted = λ t. let counted = e.counted t in (counted.0, omega (arith, counted.1, same));
    }
