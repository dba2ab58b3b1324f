use Rattle.std.proofs.Common.{◌≡◌, ◌+◌, ◌∙◌, sym, ap, subst, refl, drop, List, ℕ, Option, None, arith}
use Rattle.std.specs.Prelude.{max}
use Rattle.std.proofs.lemmas.Result.{err_from_is_err_and}
use Rattle.sector_disk.specs.Machine.{Ledger}
use Rattle.fsd_texts.specs.declared.end.End.{End}
use Rattle.fsd_texts.specs.Script.{command_at}
use Rattle.script_text.specs.Reading.{Reading, end_after, end_by, script_left}
use Rattle.script_text.specs.Taking.{ComesIn, TakesBytes}
use Rattle.script_text.proofs.ReaderLaws.{IsOpen, grown_on, nothing_came, open_after, open_of, taken_on}
use Rattle.script_text.proofs.reader.Reader.take_more.Goals as goal

pub returns-in_err-count : goal.returns-in_err-count
returns-in_err-count g c =
    let M = g.M.Machine in
    let failed = c.in_err-count.ensures in
    let inside = c.self.inside in
    let kept : c.take_behind.new.bytes.items ≡ drop inside.start inside.bytes.items = ◌∙◌ {A = List ℕ} failed.kept c.close_up.ensures in
    let same : ◌≡◌ {A = Reading} (record { waiting = c.take_behind.new.bytes.items; taken = inside.taken; given = inside.given; end = inside.end }) c.args.self.now =
    ap (λ (w : List ℕ). record { waiting = w; taken = inside.taken; given = inside.given; end = inside.end }) kept ∙ c.self.view_is in
    let p = err_from_is_err_and c.from_residual.result c.from_residual.ensures.1 in
    rw (p.1, p.2) (record {
      script = λ h. λ i. script_left (same i) (failed.ledger h i).input;
      on = tt;
      none = record { kept = same; short = record { cause = c.args.cause; read = c.requires.no_command; early = c.requires.early } };
      grows = λ h. nothing_came _ _ _ _ same (failed.ledger h);
      cause = failed.cause;
      calls = failed.calls;
    })

pub returns : goal.returns
returns g c =
    let M = g.M.Machine in
    let inside = c.self.inside in
    let old : Reading = record { waiting = drop inside.start inside.bytes.items; taken = inside.taken; given = inside.given; end = inside.end } in
    let is : old ≡ c.args.self.now = c.self.view_is in
    let before : Ledger = M.ledger c.args.m.now in
    let now : Ledger = M.ledger c.take_behind.new.m in
    let items : List ℕ = c.take_behind.new.bytes.items in
    let count : ℕ = c.in_ok-count.count in
    let end : Option End = c.end_after-self-inside.result in
    let new : Reading = record { waiting = items; taken = inside.taken + count; given = inside.given; end = end } in
    let came = c.in_ok-count.ensures in
    let is_open : IsOpen old = open_of _ _ _ _ _ old c.self.invariant refl (ap (λ (r : Reading). r.end) is ∙ c.requires.open) in
    let read = ap (λ (r : Reading). command_at r.waiting) is ∙ c.requires.no_command in
    let room = c.max-room.ensures ∙ ap (λ (n : ℕ). max n 1) c.min.ensures in
    let ended : end ≡ end_after (end_by old c.args.cause) count (inside.taken + count) =
    c.end_after-self-inside.ensures ∙ ap (λ (e : End). end_after e count (inside.taken + count)) (c.end_by-end.ensures ∙ sym (ap (λ (r : Reading). end_by r c.args.cause) is)) in
    let more = λ (still : end ≡ None). open_after (end_by old c.args.cause) count (inside.taken + count) (sym ended ∙ still) in
    let taken : inside.taken ≡ c.args.self.now.taken = ap (λ (r : Reading). r.taken) is in
    record {
      script = λ h. taken_on old is_open c.args.cause read c.requires.early before now items count (subst (λ (w : List ℕ). ComesIn w items count before now) c.close_up.ensures (came.comes h)) c.max-room.result room came.len.0 end ended
          ∙ ap (λ (r : Reading). script_left r before.input) is;
      on = record { more = λ still. omega (arith, (more still).0, taken); most = λ still. (more still).1; within = omega (arith, is_open.within, taken); given = ap (λ (r : Reading). r.given) is };
      none = tt;
      grows = λ h. subst (λ (r : Reading). TakesBytes r new before now) is
          (grown_on old is_open c.args.cause read c.requires.early before now items count (subst (λ (w : List ℕ). ComesIn w items count before now) c.close_up.ensures (came.comes h)) c.max-room.result room came.len.0 end);
      cause = tt;
      calls = came.calls;
    }
