use Rattle.std.proofs.Common.{◌∙◌, length, sym, subst, List, ℕ, Option}
use Rattle.std.specs.Prelude.{Err, IfSome}
use Rattle.fsd_bytes.specs.Keys.{same_key}
use Rattle.fsd_formats.specs.declared.entry.Entry.{Entry}
use Rattle.fsd_formats.specs.NamePage.{FitsEntry}
use Rattle.name_page.proofs.LookLaws.{shows_trusted}
use Rattle.name_page.proofs.PutLaws.{found_in}
use Rattle.name_btree.specs.Fault.{BarsTable}
use Rattle.name_btree.specs.Lookup.{AgreesAt}
use Rattle.name_btree.proofs.finding.LookupLaws.{find_contains, stands_in, good_entry}
use Rattle.std.proofs.lemmas.Result.{err_from_is_err_and}
use Rattle.name_btree.proofs.ways.ReachLaws.{fails_among}
use Rattle.name_btree.proofs.lookup.find.Goals as goal

pub returns-in-Some-clause-told : goal.returns-in-Some-clause-told
returns-in-Some-clause-told g c =
    let new = g.T.Pages.step c.leaf_at.new.t in
    let e = c.in_ok-found.ensures.found in
    let leaf = c.in_ok-found.found in
    let key = c.args.key.now in
    let with = sym c.entry_in.ensures.with ∙ c.in-Some.is in
    let there = stands_in (g.T.Pages.step c.args.t.now) new leaf.page leaf.entries c.in-Some.entry e.reached e.used c.in_ok-found.ensures.calls.looks.spares e.leaf
    (find_contains (λ x. same_key x.key key) leaf.entries c.in-Some.entry with) in
    record {
      there = there;
      way = e.way;
      entry = good_entry new (record { entry = c.in-Some.entry; page = leaf.page }) there;
      fits = subst (λ (o : Option Entry). IfSome o FitsEntry) c.in-Some.is c.entry_in.ensures.fits;
      suits = (found_in key leaf.entries c.in-Some.entry with).same;
    }

pub returns-in-Some-clause-found : goal.returns-in-Some-clause-found
returns-in-Some-clause-found g c = λ trusted.
    let found = c.in_ok-found.found in
    let P : List (List ℕ) → Type 0 = λ (pages : List (List ℕ)). AgreesAt c.args.key.now pages found.entries in
    let holds : P (g.T.Pages.step c.args.t.now).images = shows_trusted g.T.Pages P c.args.t.now c.leaf_at.new.t c.in_ok-found.ensures.calls c.in_ok-found.ensures.found.holds trusted in
    λ height t. sym c.in-Some.is ∙ c.entry_in.ensures.with ∙ holds height t

pub returns-in-None-clause-found : goal.returns-in-None-clause-found
returns-in-None-clause-found g c = λ trusted.
    let found = c.in_ok-found.found in
    let P : List (List ℕ) → Type 0 = λ (pages : List (List ℕ)). AgreesAt c.args.key.now pages found.entries in
    let holds : P (g.T.Pages.step c.args.t.now).images = shows_trusted g.T.Pages P c.args.t.now c.leaf_at.new.t c.in_ok-found.ensures.calls c.in_ok-found.ensures.found.holds trusted in
    λ height t. sym c.in-None.is ∙ c.entry_in.ensures.with ∙ holds height t

-- the leaf at the key was reached, and no entry of it has the key
pub returns-in-None-clause-told : goal.returns-in-None-clause-told
returns-in-None-clause-told g c =
    let at = c.in_ok-found.ensures.found.at in
    record { leaf = at.0; entries = c.in_ok-found.found.entries; at = at.2; none = sym c.entry_in.ensures.with ∙ c.in-None.is }

-- a page that is named is one of the table
pub returns-in_err-found-clause-failed : goal.returns-in_err-found-clause-failed
returns-in_err-found-clause-failed g c =
    let s = g.T.Pages.step c.leaf_at.new.t in
    let fault = c.in_err-found.field-0.0 in
    let failed = c.in_err-found.ensures.failed in
    let p = err_from_is_err_and c.from_residual.result c.from_residual.ensures.1 in
    rw (p.1, p.2) (record {
      among = λ some. fails_among {X = ℕ} (Err fault) s (BarsTable s) (length (g.T.Pages.step c.args.t.now).images) c.in_err-found.ensures.calls.looks.count some failed.cause;
      cause = failed.cause;
      shown = failed.shown;
    })

pub returns-in_err-found-clause-calls : goal.returns-in_err-found-clause-calls
returns-in_err-found-clause-calls g c =
    let p = err_from_is_err_and c.from_residual.result c.from_residual.ensures.1 in
    rw (p.1, p.2) c.in_err-found.ensures.calls
