use Rattle.std.proofs.Common.{List, ℕ, map, subst}
use Rattle.std.specs.String.{string_bytes}
use Rattle.fsd_runs.specs.declared.request.Request.{Request}
use Rattle.fsd_runs.specs.Words.{path_of, request_of}
use Rattle.cfs_program.specs.Program.{Ran}
use Rattle.cfs_program.proofs.words.run_words.Goals as goal

pub returns-in-Ok : goal.returns-in-Ok
returns-in-Ok g c =
    let M = g.M.Machine in
    let a = c.args.m.now in
    let b = c.run_request.new.m in
    let words = map string_bytes c.args.words.now in
    subst (λ (path : List ℕ). Ran M (request_of words) path a b c.run_request.result) c.in-Ok.ensures.image
    (subst (λ (r : Request). Ran M r c.in-Ok.asked.image.now a b c.run_request.result) c.in-Ok.ensures.request c.run_request.ensures)

pub returns-in-Err : goal.returns-in-Err
returns-in-Err g c =
    let words = map string_bytes c.args.words.now in
    c.run_out_of_memory.ensures (request_of words) (path_of words)
