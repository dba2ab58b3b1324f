use Rattle.std.proofs.Common.{◌≤◌, ◌∙◌, None, List, ℕ, false, ap, sym, subst, length, arith}
use Rattle.std.proofs.lemmas.List.{length-replicate, take-replicate}
use Rattle.fsd_table.specs.Table.{BreaksTable}
use Rattle.name_page.specs.Looks.{NeedsNoMore, OnlyWalks}
use Rattle.name_page.specs.Pages.{Step, rested}
use Rattle.name_page.proofs.LookLaws.{no_more_then, rest_walks, walks_then}
use Rattle.name_btree.specs.declared.fault.TreeFault.{TreeFault}
use Rattle.name_btree.specs.Fault.{FailsTable, IsAmong, outer_of}
use Rattle.name_btree.specs.Still.{HasRefusal}
use Rattle.name_btree.proofs.finding.SearchLaws.{clear_front}
use Rattle.name_btree.proofs.steps.RestLaws.{reaches_again, reaches_refused}
use Rattle.name_btree.proofs.searching.search.Goals as goal

pub walk-requires : goal.walk-requires
walk-requires g c =
    let n : ℕ = c.count-pages.result in
    let low : n ≤ 4096 = omega (arith, c.count-pages.ensures, g.met.T.Pages.small c.args.t.now) in
    record { more = c.requires.more; whole = ap length (take-replicate n 4096 false low) ∙ length-replicate n false ∙ c.count-pages.ensures; clear = clear_front 4096 n low }

pub returns-in-Err-Pages : goal.returns-in-Err-Pages
returns-in-Err-Pages g c =
    let P = g.T.Pages in
    let old = c.args.t.now in
    let new = c.walk.new.t in
    let is = c.in-Err-Pages.field-0-is in
    let found = c.in-Err-Pages.ensures in
    record {
      calls = subst (λ (f : TreeFault). OnlyWalks P (outer_of f) old new) is found.calls;
      memory = subst (λ (f : TreeFault). NeedsNoMore P (outer_of f) old new) is found.memory;
      reaches = reaches_refused (P.step old) (P.step new) c.in-Err-Pages.refusal found.calls.most_reached (subst (HasRefusal (rested (P.step new)) (P.step new)) is found.refused);
      cause = λ none. subst (FailsTable P new) is found.failed.cause;
      among = λ some. tt;
    }

pub returns-in-Err-Broken : goal.returns-in-Err-Broken
returns-in-Err-Broken g c =
    let P = g.T.Pages in
    let law = g.met.T.Pages in
    let old = c.args.t.now in
    let mid = c.walk.new.t in
    let new = c.rest.new.self in
    let is = c.in-Err-Broken.field-0-is in
    let found = c.in-Err-Broken.ensures in
    let rest = c.rest.ensures in
    record {
      calls = walks_then P law.then old mid new (subst (λ (f : TreeFault). OnlyWalks P (outer_of f) old mid) is found.calls) (rest_walks P mid new rest.outside (law.trust mid new None rest.outside) rest.step);
      memory = no_more_then P old mid new (subst (λ (f : TreeFault). NeedsNoMore P (outer_of f) old mid) is found.memory) (λ all. rest.memory);
      reaches = reaches_again (P.step old) (P.step mid) (P.step new) found.calls.most_reached rest.step;
      cause = λ none t. subst (λ (images : List (List ℕ)). BreaksTable images c.in-Err-Broken.page) (sym (ap (λ (s : Step). s.images) rest.step)) (subst (FailsTable P mid) is found.failed.cause (law.trust mid new None rest.outside t));
      among = λ some. subst (IsAmong (length (P.step old).images)) is (found.failed.among some);
    }

pub returns-in-Ok : goal.returns-in-Ok
returns-in-Ok g c =
    let P = g.T.Pages in
    let law = g.met.T.Pages in
    let old = c.args.t.now in
    let mid = c.walk.new.t in
    let new = c.rest-in-Ok.new.self in
    let found = c.in-Ok.ensures in
    let rest = c.rest-in-Ok.ensures in
    record {
      calls = walks_then P law.then old mid new found.calls (rest_walks P mid new rest.outside (law.trust mid new None rest.outside) rest.step);
      memory = no_more_then P old mid new found.memory (λ all. rest.memory);
      reaches = reaches_again (P.step old) (P.step mid) (P.step new) found.calls.most_reached rest.step;
      cause = λ none t. let back = law.trust mid new None rest.outside t in let is = found.counted back in absurd (none (found.calls.trust back) is.height is.tree is.used);
      among = λ some. some;
    }
