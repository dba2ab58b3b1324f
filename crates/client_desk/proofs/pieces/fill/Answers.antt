use Rattle.std.proofs.Common.{◌≡◌, ℕ, ◌+◌, ◌-◌, ◌/◌, ◌%◌, ◌≤◌, true, false, List, [], ◌++◌, length, take, drop, refl, arith, sym, ap, subst, ◌∙◌, inl}
use Rattle.std.proofs.lemmas.List.{length-take-le, append-nil}
use Rattle.run_table.specs.declared.run.Run.{Run}
use Rattle.sector_disk.proofs.CallLaws.{writes_more, writes_none}
use Rattle.client_desk.specs.declared.client.Client.TheVariants.{Writing}
use Rattle.client_desk.specs.Clients.{draft_sectors, is_due}
use Rattle.client_desk.specs.Ends.{IsWritingDraft, LeavesFor}
use Rattle.client_desk.proofs.CountLaws.{due_fill, due_more, due_none, due_undue}
use Rattle.client_desk.proofs.PieceLaws.{touches_data, adds_unwritten, adds_written, leaves_more, leaves_still, slices_refuse, broken_off, due_slices, due_tail, undue_writing, unequal}
use Rattle.volume_contract.specs.Pieces.{slice_count, slices_if, slices_in, with_slices}
use Rattle.client_desk.specs.Clients.{written_len}
use Rattle.client_desk.specs.Ends.{slices_so_far}
use Rattle.std.proofs.lemmas.List.{length-append}
use Rattle.client_desk.proofs.pieces.fill.Goals as goal

pub returns-then-at-eq0-clause-disk : goal.returns-then-at-eq0-clause-disk
returns-then-at-eq0-clause-disk g c =
    let V = g.V.Files in
    let at = c.args.m.now in
    writes_none at (λ left h is. g.met.M.Machine.only_now at left h is) (LeavesFor V.state V.holds c.args.v.now (Writing c.args.w.now) (draft_sectors c.args.w.now))
    (λ h. leaves_still V.state V.holds c.args.v.now (Writing c.args.w.now) (draft_sectors c.args.w.now) (g.M.Machine.now at))

pub returns-then-at-eq0-clause-done : goal.returns-then-at-eq0-clause-done
returns-then-at-eq0-clause-done g c h k stands name len runs serial before writing =
    adds_unwritten g.V.Files.state g.V.Files.holds k c.args.v.now (g.M.Machine.now c.args.m.now) c.args.w.now name len runs serial c.args.w.now (before ++ []) stands
    (subst (λ (xs : List ℕ). IsWritingDraft k.opened c.args.w.now name len runs serial xs) (sym (append-nil before)) writing)

pub returns-then-w-clause-disk : goal.returns-then-w-clause-disk
returns-then-w-clause-disk g c =
    let V = g.V.Files in
    let at = c.args.m.now in
    writes_none at (λ left h is. g.met.M.Machine.only_now at left h is) (LeavesFor V.state V.holds c.args.v.now (Writing c.args.w.now) (draft_sectors c.args.w.now))
    (λ h. leaves_still V.state V.holds c.args.v.now (Writing c.args.w.now) (draft_sectors c.args.w.now) (g.M.Machine.now at))

pub returns-then-w-clause-done : goal.returns-then-w-clause-done
returns-then-w-clause-done g c h k stands name len runs serial before writing =
    adds_unwritten g.V.Files.state g.V.Files.holds k c.args.v.now (g.M.Machine.now c.args.m.now) c.args.w.now name len runs serial c.args.w.now (before ++ []) stands
    (subst (λ (xs : List ℕ). IsWritingDraft k.opened c.args.w.now name len runs serial xs) (sym (append-nil before)) writing)

pub returns-then-not-is_due-clause-disk : goal.returns-then-not-is_due-clause-disk
returns-then-not-is_due-clause-disk g c =
    let V = g.V.Files in
    let at = c.args.m.now in
    writes_none at (λ left h is. g.met.M.Machine.only_now at left h is) (LeavesFor V.state V.holds c.args.v.now (Writing c.args.w.now) (draft_sectors c.args.w.now))
    (λ h. leaves_still V.state V.holds c.args.v.now (Writing c.args.w.now) (draft_sectors c.args.w.now) (g.M.Machine.now at))

pub returns-then-not-is_due-clause-done : goal.returns-then-not-is_due-clause-done
returns-then-not-is_due-clause-done g c h k stands name len runs serial before writing =
    let w = c.args.w.now in
    let n = c.min-count.result in
    let more = take n c.args.bytes.now in
    let slice = c.put_at.new.slice in
    let size : length more ≡ n = length-take-le n c.args.bytes.now (omega (arith, c.min-count.ensures)) in
    let undue : is_due w.draft.length (w.got % 512 + n) (w.got + n) ≡ false = sym c.is_due.ensures ∙ c.if-not-is_due.true in
    let within : w.got % 512 + n ≤ 512 = omega (arith, c.min-count.ensures) in
    adds_unwritten g.V.Files.state g.V.Files.holds k c.args.v.now (g.M.Machine.now c.args.m.now) w name len runs serial (record { name = w.name; draft = w.draft; got = w.got + n; slice = slice }) (before ++ more) stands
    (subst (λ (m : ℕ). is_due w.draft.length (w.got % 512 + m) (w.got + m) ≡ false → w.got % 512 + m ≤ 512 → take (w.got % 512 + m) slice ≡ take (w.got % 512) w.slice ++ more
    → IsWritingDraft k.opened (record { name = w.name; draft = w.draft; got = w.got + m; slice = slice }) name len runs serial (before ++ more)) size
    (undue_writing k.opened w name len runs serial before more slice writing (unequal w.got w.draft.length c.if-w.false))
    undue within (ap (λ (m : ℕ). take (w.got % 512 + m) slice) (sym size) ∙ c.put_at.ensures.front))

pub returns-in-Ok-clause-disk : goal.returns-in-Ok-clause-disk
returns-in-Ok-clause-disk g c =
    let V = g.V.Files in
    let w = c.args.w.now in
    writes_more c.in-Ok.ensures.disk (λ h left. leaves_more V.state V.holds c.args.v.now (Writing w) w (w.got / 512) (length (take (w.got % 512 + c.min-count.result) c.put_at.new.slice)) (g.M.Machine.now c.args.m.now) left)

pub returns-in-Ok-clause-done : goal.returns-in-Ok-clause-done
returns-in-Ok-clause-done g c h k stands name len runs serial before writing =
    let V = g.V.Files in
    let w = c.args.w.now in
    let n = c.min-count.result in
    let more = take n c.args.bytes.now in
    let slice = c.put_at.new.slice in
    let size : length more ≡ n = length-take-le n c.args.bytes.now (omega (arith, c.min-count.ensures)) in
    let due : is_due w.draft.length (w.got % 512 + n) (w.got + n) ≡ true = sym c.is_due.ensures ∙ c.if-not-is_due.false in
    let unended = unequal w.got w.draft.length c.if-w.false in
    let front = ap (λ (m : ℕ). take (w.got % 512 + m) slice) (sym size) ∙ c.put_at.ensures.front in
    let is = ap (λ (r : List Run). slices_in k.opened.drafts r) writing.lies ∙ writing.written in
    let all = subst (λ (m : ℕ). is_due w.draft.length (w.got % 512 + m) (w.got + m) ≡ true → take (w.got % 512 + m) slice ≡ take (w.got % 512) w.slice ++ more
    → with_slices (slices_so_far len before) (w.got / 512) (slices_if true (take (w.got % 512 + m) slice)) ≡ slices_so_far len (before ++ more)) size
    (due_slices k.opened w name len runs serial before more slice writing unended) due front in
    let tail = subst (λ (m : ℕ). is_due w.draft.length (w.got % 512 + m) (w.got + m) ≡ true
    → take (w.got + m - written_len w.draft.length (w.got + m)) slice ≡ drop (written_len len (length (before ++ more))) (before ++ more)) size
    (due_tail k.opened w name len runs serial before more slice writing) due in
    let got : w.got + n ≡ length (before ++ more) = ap (λ (m : ℕ). m + n) writing.got ∙ ap (λ (m : ℕ). length before + m) (sym size) ∙ sym (length-append before more) in
    adds_written V.state V.holds k c.write_slices.new.self (g.M.Machine.now c.write_slices.new.m) w name len runs serial (record { name = w.name; draft = w.draft; got = w.got + n; slice = slice }) before (before ++ more)
    (with_slices (slices_so_far len before) (w.got / 512) (slices_if true (take (w.got % 512 + n) slice))) writing (c.in-Ok.ensures.done h k stands (slices_so_far len before) is) all refl refl got tail

pub returns-in-Err-clause-order : goal.returns-in-Err-clause-order
returns-in-Err-clause-order g c =
    let w = c.args.w.now in
    slices_refuse (g.V.Files.state c.args.v.now) w (w.got / 512) (length (take (w.got % 512 + c.min-count.result) c.put_at.new.slice)) c.in-Err.why c.in-Err.ensures.order.follows

pub returns-in-Err-clause-disk : goal.returns-in-Err-clause-disk
returns-in-Err-clause-disk g c =
    let V = g.V.Files in
    let w = c.args.w.now in
    writes_more c.in-Err.ensures.disk (λ h left. leaves_more V.state V.holds c.args.v.now (Writing w) w (w.got / 512) (length (take (w.got % 512 + c.min-count.result) c.put_at.new.slice)) (g.M.Machine.now c.args.m.now) left)

pub returns-in-Err-clause-done : goal.returns-in-Err-clause-done
returns-in-Err-clause-done g c h k stands name len runs serial before writing =
    let V = g.V.Files in
    let w = c.args.w.now in
    let is = ap (λ (r : List Run). slices_in k.opened.drafts r) writing.lies ∙ writing.written in
    broken_off V.state V.holds {T = ℕ} (λ n. take n c.args.bytes.now) k (record { name = w.name; draft = w.draft; got = w.got; slice = c.put_at.new.slice }) w.draft name len runs serial before (w.got / 512) (take (w.got % 512 + c.min-count.result) c.put_at.new.slice) (slices_so_far len before) c.write_slices.new.self (g.M.Machine.now c.write_slices.new.m) c.in-Err.why writing.lies
    (c.in-Err.ensures.done h k stands (slices_so_far len before) is)

pub returns-then-at-eq0-clause-writes : goal.returns-then-at-eq0-clause-writes
returns-then-at-eq0-clause-writes g c =
    let none = due_none c.args.w.now.draft.length c.args.w.now.got in
    record {
      rest = λ h. record { size = refl; others = λ s out. inl refl };
      counted = λ t. omega (arith, none);
    }

pub returns-then-w-clause-writes : goal.returns-then-w-clause-writes
returns-then-w-clause-writes g c =
    let none = due_none c.args.w.now.draft.length c.args.w.now.got in
    record {
      rest = λ h. record { size = refl; others = λ s out. inl refl };
      counted = λ t. omega (arith, none);
    }

pub returns-then-not-is_due-clause-writes : goal.returns-then-not-is_due-clause-writes
returns-then-not-is_due-clause-writes g c =
    let w = c.args.w.now in
    let n = c.min-count.result in
    let undue : is_due w.draft.length (w.got % 512 + n) (w.got + n) ≡ false = sym c.is_due.ensures ∙ c.if-not-is_due.true in
    let none = due_undue w.draft.length w.got n (unequal w.got w.draft.length c.if-w.false) undue (omega (arith, c.min-count.ensures)) in
    record {
      rest = λ h. record { size = refl; others = λ s out. inl refl };
      counted = λ t. omega (arith, none);
    }

pub returns-in-Ok-clause-writes : goal.returns-in-Ok-clause-writes
returns-in-Ok-clause-writes g c =
    let M = g.M.Machine in
    let w = c.args.w.now in
    let n = c.min-count.result in
    let e = c.in-Ok.ensures.writes in
    let chunk = take (w.got % 512 + n) c.put_at.new.slice in
    let size : length chunk ≡ w.got % 512 + n = length-take-le (w.got % 512 + n) c.put_at.new.slice (omega (arith, c.min-count.ensures, c.put_at.ensures.size)) in
    let due : is_due w.draft.length (w.got % 512 + n) (w.got + n) ≡ true = sym c.is_due.ensures ∙ c.if-not-is_due.false in
    let same = ap slice_count size ∙ due_fill w.draft.length w.got n (unequal w.got w.draft.length c.if-w.false) due in
    record {
      rest = λ h. touches_data w (w.got / 512) (length chunk) (M.now c.args.m.now) (M.now c.write_slices.new.m) (e.rest h);
      counted = λ t. let counted = e.counted t in omega (arith, counted, same);
    }

pub returns-in-Err-clause-writes : goal.returns-in-Err-clause-writes
returns-in-Err-clause-writes g c =
    let M = g.M.Machine in
    let w = c.args.w.now in
    let n = c.min-count.result in
    let e = c.in-Err.ensures.writes in
    let chunk = take (w.got % 512 + n) c.put_at.new.slice in
    let size : length chunk ≡ w.got % 512 + n = length-take-le (w.got % 512 + n) c.put_at.new.slice (omega (arith, c.min-count.ensures, c.put_at.ensures.size)) in
    let due : is_due w.draft.length (w.got % 512 + n) (w.got + n) ≡ true = sym c.is_due.ensures ∙ c.if-not-is_due.false in
    let same = ap slice_count size ∙ due_fill w.draft.length w.got n (unequal w.got w.draft.length c.if-w.false) due in
    let more = due_more w.draft.length w.got n (length c.args.bytes.now) (omega (arith, c.min-count.ensures)) c.requires.fits in
    record {
      rest = λ h. touches_data w (w.got / 512) (length chunk) (M.now c.args.m.now) (M.now c.write_slices.new.m) (e.rest h);
      counted = λ t. let counted = e.counted t in (counted.0, omega (arith, counted.1, same, more));
    }
