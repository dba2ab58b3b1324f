use Rattle.std.proofs.Common.{◌≡◌, ◌∙◌, ℕ, List, Err, ap, arith, inl, inr}
use Rattle.std.proofs.lemmas.Result.{err_from_is_err_and}
use Rattle.name_page.specs.Pages.{with_one}
use Rattle.name_page.proofs.LookLaws.{all_stay, edits_then, pages_then, walks_edits, walks_pages}
use Rattle.version_table.specs.declared.fault.VersionFault.TheVariants.{NoSuch}
use Rattle.cached_table.specs.Editing.{KeepsNone}
use Rattle.cached_table.proofs.HighestLaws.{fails_trusted, look_fails, none_after, none_walked, sets_now, there_now}
use Rattle.cached_table.proofs.changing.keep_at.Goals as goal

pub set_keep-requires-clause-there : goal.set_keep-requires-clause-there
set_keep-requires-clause-there g c = there_now g.T.Pages c.args.t.now c.newest.new.t c.in_ok-found.ensures.walks c.args.name.now c.in_ok-found.found.entry c.in_ok-found.ensures.found.highest

pub set_keep-requires-clause-entry : goal.set_keep-requires-clause-entry
set_keep-requires-clause-entry g c = c.in_ok-found.ensures.found.met.entry

pub set_keep-requires-clause-fits : goal.set_keep-requires-clause-fits
set_keep-requires-clause-fits g c = c.in_ok-found.ensures.found.met.fits

pub returns-in-Ok-clause-calls : goal.returns-in-Ok-clause-calls
returns-in-Ok-clause-calls g c = edits_then g.T.Pages g.met.T.Pages.then c.args.t.now c.newest.new.t c.set_keep.new.t (walks_edits g.T.Pages c.args.t.now c.newest.new.t c.in_ok-found.ensures.walks) c.in-Ok.ensures.edits.calls

pub returns-in_err-found-clause-calls : goal.returns-in_err-found-clause-calls
returns-in_err-found-clause-calls g c =
    let p = err_from_is_err_and c.from_residual.result c.from_residual.ensures.1 in
    rw (p.1, p.2) (walks_edits g.T.Pages c.args.t.now c.newest.new.t c.in_err-found.ensures.walks)

pub returns-in-Err-clause-calls : goal.returns-in-Err-clause-calls
returns-in-Err-clause-calls g c = edits_then g.T.Pages g.met.T.Pages.then c.args.t.now c.newest.new.t c.set_keep.new.t (walks_edits g.T.Pages c.args.t.now c.newest.new.t c.in_ok-found.ensures.walks) c.in-Err.ensures.edits.calls

pub returns-in-Ok-clause-set : goal.returns-in-Ok-clause-set
returns-in-Ok-clause-set g c =
    let walks = c.in_ok-found.ensures.walks in
    let one = c.in-Ok.ensures.written in
    record {
      name_is = c.in_ok-found.ensures.found.met.suits;
      one = record { page = one.page; there = omega (arith, one.there, walks.count); spares = one.spares ∙ walks.spares; changed = one.changed ∙ ap (λ (pages : List ℕ). with_one pages one.page) walks.changed };
      set = sets_now g.T.Pages c.args.t.now c.newest.new.t walks c.args.name.now c.in_ok-found.found.entry c.in_ok-found.ensures.found.highest c.set_keep.new.t c.args.keep c.in-Ok.ensures.edits.calls.trust c.in-Ok.ensures.set;
    }

pub returns-in-Ok-clause-pages : goal.returns-in-Ok-clause-pages
returns-in-Ok-clause-pages g c =
    let P = g.T.Pages in
    pages_then (P.step c.args.t.now) (P.step c.newest.new.t) (P.step c.set_keep.new.t) c.in-Ok.ensures.edits.calls.count (walks_pages P c.args.t.now c.newest.new.t c.in_ok-found.ensures.walks) c.in-Ok.ensures.edits.pages

pub returns-in-Err-clause-pages : goal.returns-in-Err-clause-pages
returns-in-Err-clause-pages g c =
    let P = g.T.Pages in
    pages_then (P.step c.args.t.now) (P.step c.newest.new.t) (P.step c.set_keep.new.t) c.in-Err.ensures.edits.calls.count (walks_pages P c.args.t.now c.newest.new.t c.in_ok-found.ensures.walks) c.in-Err.ensures.edits.pages

pub returns-in_err-found-clause-pages : goal.returns-in_err-found-clause-pages
returns-in_err-found-clause-pages g c = walks_pages g.T.Pages c.args.t.now c.newest.new.t c.in_err-found.ensures.walks

pub returns-in_err-found-clause-failed : goal.returns-in_err-found-clause-failed
returns-in_err-found-clause-failed g c =
    let p = err_from_is_err_and c.from_residual.result c.from_residual.ensures.1 in
    let fault = c.in_err-found.field-0.0 in
    let none : KeepsNone (g.T.Pages.trusted c.newest.new.t) (g.T.Pages.step c.args.t.now) (g.T.Pages.step c.newest.new.t) c.args.name.now fault = record {
      kept = none_walked g.T.Pages _ c.args.t.now c.newest.new.t c.in_err-found.ensures.walks;
      cause = look_fails g.T.Pages c.args.t.now c.newest.new.t c.args.name.now fault c.in_err-found.ensures.failed.cause;
    } in
    rw (p.1, p.2) none

pub returns-in-Err-clause-failed : goal.returns-in-Err-clause-failed
returns-in-Err-clause-failed g c = record {
  kept = none_after g.T.Pages _ c.args.t.now c.newest.new.t c.set_keep.new.t c.in_ok-found.ensures.walks c.in-Err.ensures.edits.kept;
  cause = fails_trusted (g.T.Pages.trusted c.set_keep.new.t) (g.T.Pages.step c.set_keep.new.t) c.in-Err.fault c.in-Err.ensures.failed.cause;
}

-- ---- memory is not wanting

pub returns-in_err-found-clause-memory : goal.returns-in_err-found-clause-memory
returns-in_err-found-clause-memory g c =
    let p = err_from_is_err_and c.from_residual.result c.from_residual.ensures.1 in
    rw (p.1, p.2) (λ has. elim has [
      | inl path ↦ (c.in_err-found.ensures.memory path).none.enough
      | inr all ↦ (c.in_err-found.ensures.full all).enough
    ])

pub returns-in-Err-clause-memory : goal.returns-in-Err-clause-memory
returns-in-Err-clause-memory g c = λ has. elim has [
  | inl path ↦ c.in-Err.ensures.memory (c.in_ok-found.ensures.memory path).back
  | inr all ↦ c.in-Err.ensures.full (all_stay g.T.Pages c.args.t.now c.newest.new.t (c.in_ok-found.ensures.full all) all)
]

pub returns-in-Ok-clause-memory : goal.returns-in-Ok-clause-memory
returns-in-Ok-clause-memory g c = λ has is. cc is

-- ---- where there is no version of the name

pub returns-in_err-found-clause-absent : goal.returns-in_err-found-clause-absent
returns-in_err-found-clause-absent g c =
    let p = err_from_is_err_and c.from_residual.result c.from_residual.ensures.1 in
    rw (p.1, p.2) (λ told. c.in_err-found.ensures.absent (let same : c.in_err-found.field-0.0 ≡ NoSuch = cc told in ap Err same))

pub returns-in-Err-clause-absent : goal.returns-in-Err-clause-absent
returns-in-Err-clause-absent g c = λ told. absurd (cc told)

pub returns-in-Ok-clause-absent : goal.returns-in-Ok-clause-absent
returns-in-Ok-clause-absent g c = λ told. absurd (cc told)
