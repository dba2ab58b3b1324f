use Rattle.std.proofs.Common.{◌≡◌, ◌∙◌, ℕ, List, [], None, Some, ap, subst, sym, arith}
use Rattle.std.proofs.lemmas.Result.{err_from_is_err_and}
use Rattle.fsd_formats.specs.declared.entry.Entry.{Entry}
use Rattle.fsd_table.specs.Tree.{table_of}
use Rattle.name_page.specs.Lookups.{first_after, same_name}
use Rattle.name_page.specs.Pages.{reaches}
use Rattle.name_page.proofs.LookLaws.{reaches_still, reaches_walks, rest_reaches}
use Rattle.name_btree.specs.declared.lookup.FoundEntry.{FoundEntry}
use Rattle.name_btree.specs.Fault.{IsAmong}
use Rattle.name_btree.specs.Lookup.{IsMetAs, IsNextAfter, TellsLater, found_entry}
use Rattle.name_btree.proofs.finding.LookupLaws.{if_named, one_name}
use Rattle.version_table.specs.Met.{IsMetBetween, leaving_of}
use Rattle.version_table.specs.Versions.{IsFirstBehind, versions_behind}
use Rattle.version_table.proofs.OldestLaws.{next_named, next_none}
use Rattle.version_table.proofs.StepLaws.{among_rested, of_rested, tree_ascends}
use Rattle.version_table.proofs.oldest.next_version.Goals as goal

pub next_after-requires : goal.next_after-requires
next_after-requires g c = omega (arith, c.requires, ap reaches c.rest.ensures.step)

pub returns-in_err-found : goal.returns-in_err-found
returns-in_err-found g c =
    let P = g.T.Pages in
    let e = c.in_err-found.ensures in
    let p = err_from_is_err_and c.from_residual.result c.from_residual.ensures.1 in
    rw (p.1, p.2) (record { walks = rest_reaches P g.met.T.Pages.then g.met.T.Pages.trust c.args.t.now c.rest.new.self c.next_after.new.t c.rest.ensures.outside c.rest.ensures.step e.calls; among = among_rested P c.args.t.now c.rest.new.self c.next_after.new.t c.rest.ensures.step (λ (pages : ℕ). IsAmong pages c.in_err-found.field-0.0) e.failed.among; met = tt; found = tt; fault = e.failed.cause; shown = e.failed.shown })

pub returns-in-Some : goal.returns-in-Some
returns-in-Some g c =
    let P = g.T.Pages in
    let a = c.args.t.now in
    let b = c.rest.new.self in
    let now = c.next_after.new.t in
    let key = c.args.key.now in
    let f = c.in-Some.found in
    let e = c.in_ok-found.ensures in
    let told : IsMetAs (P.step now) (IsNextAfter (P.step now) (Some key)) f = subst (TellsLater (P.step now) (Some key)) c.in-Some.is e.told in
    let walks = rest_reaches P g.met.T.Pages.then g.met.T.Pages.trust a b now c.rest.ensures.outside c.rest.ensures.step e.calls in
    record {
      walks = walks;
      among = λ some. tt;
      met = if_named (λ (x : FoundEntry). IsMetBetween P key.name a now (leaving_of x)) f (same_name f.entry.key.name key.name) c.named.result c.named.ensures (λ same. record {
        at = now;
        before = walks;
        after = reaches_walks P now now (reaches_still P now (g.met.T.Pages.still now));
        stands = told.there;
        way = told.way;
        entry = told.entry;
        fits = told.fits;
        named = one_name f.entry.key.name key.name same;
      });
      found = of_rested P a b now c.rest.ensures.step (λ (table : List Entry). IsFirstBehind key table c.named.result) (λ trusted height tree.
          let pages = (P.step b).images in
          let found : first_after (Some key) (table_of pages height) ≡ Some f.entry = sym (e.found trusted height tree) ∙ ap found_entry c.in-Some.is in
          next_named key f c.named.result (table_of pages height) (tree_ascends pages height tree) c.named.ensures found);
      fault = tt;
      shown = tt;
    }

pub returns-in-None : goal.returns-in-None
returns-in-None g c =
    let P = g.T.Pages in
    let a = c.args.t.now in
    let b = c.rest.new.self in
    let now = c.next_after.new.t in
    let key = c.args.key.now in
    let e = c.in_ok-found.ensures in
    record {
      walks = rest_reaches P g.met.T.Pages.then g.met.T.Pages.trust a b now c.rest.ensures.outside c.rest.ensures.step e.calls;
      among = λ some. tt;
      met = tt;
      found = of_rested P a b now c.rest.ensures.step (λ (table : List Entry). versions_behind key table ≡ []) (λ trusted height tree.
          let pages = (P.step b).images in
          let found : first_after (Some key) (table_of pages height) ≡ None = sym (e.found trusted height tree) ∙ ap found_entry c.in-None.is in
          next_none key (table_of pages height) (tree_ascends pages height tree) found);
      fault = tt;
      shown = tt;
    }
