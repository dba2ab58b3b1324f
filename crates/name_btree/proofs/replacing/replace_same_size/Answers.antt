use Rattle.std.proofs.Common.{◌≡◌, ◌∙◌, ℕ, ap, subst, sym, length, List, [], map}
use Rattle.fsd_bytes.specs.declared.key.Key.{Key}
use Rattle.fsd_formats.specs.declared.entry.Entry.{Entry}
use Rattle.fsd_formats.specs.NamePage.{Leaf, is_page}
use Rattle.fsd_table.specs.declared.child.Child.{Child}
use Rattle.name_page.proofs.LookLaws.{looks_pages, pages_then, reaches_walks, walks_edits, walks_pages, shows_trusted}
use Rattle.name_page.specs.declared.cut.Cut.TheVariants.{UpTo}
use Rattle.name_page.specs.Cut.{is_before}
use Rattle.name_btree.specs.Descent.{with_beside, FoundLeaf, IsLeafOfPlace}
use Rattle.fsd_table.specs.Tree.{IsTree}
use Rattle.name_btree.specs.declared.fault.TreeFault.TheVariants.{Broken}
use Rattle.name_btree.specs.Fault.{FailsTree}
use Rattle.name_btree.specs.Replace.{IsWritten, IsLeafAt}
use Rattle.name_btree.proofs.steps.ChangeLaws.{tree_replaced, table_replaced}
use Rattle.name_btree.proofs.steps.ReplaceLaws.{few_in_leaf, put_is_page, not_in_tree}
use Rattle.name_btree.proofs.finding.SearchLaws.{fails_tree}
use Rattle.name_btree.proofs.ways.VisitedLaws.{top_breaks}
use Rattle.name_btree.proofs.ways.ReachLaws.{among_since}
use Rattle.name_btree.proofs.drafts.WrittenPages.{written_count, written_edits, written_one, written_pages}
use Rattle.name_page.specs.declared.cut.Cut.{Cut}
use Rattle.fsd_table.specs.Table.{max_height, top}
use Rattle.name_btree.specs.Fault.{outer_of}
use Rattle.name_btree.specs.Path.{HasMet, Leads}
use Rattle.name_btree.proofs.ways.ResidentLaws.{lead_met}
use Rattle.name_btree.proofs.steps.ReplaceLaws.{as_long_there}
use Rattle.name_btree.proofs.replacing.replace_same_size.Goals as goal

pub put_among-list-requires-clause-few : goal.put_among-list-requires-clause-few
put_among-list-requires-clause-few g c = few_in_leaf (g.T.Pages.step c.leaf_below.new.t).images c.in-Ok.found.page c.in-Ok.found.entries c.in-Ok.ensures.found.found.leaf

pub put_leaf-requires-clause-accepted : goal.put_leaf-requires-clause-accepted
put_leaf-requires-clause-accepted g c =
    let found : FoundLeaf = with_beside c.in-Ok.found c.in-Ok.ensures.found.way in
    let same : c.as_slice.result.now ≡ map _ found.entries = c.as_slice.ensures.value ∙ c.put_among-list.ensures.put in
    ap (λ (xs : List Entry). is_page found.page 0 (Leaf xs)) same
    ∙ put_is_page (g.T.Pages.step c.leaf_below.new.t).images found.page c.args.entry.now found.entries c.in-Ok.ensures.found.found.leaf c.requires.entry (c.has_as_long.ensures.long c.if-not-has_as_long.false)

pub returns-in-Err-clause-edits : goal.returns-in-Err-clause-edits
returns-in-Err-clause-edits g c =
    let G = g.T.Pages in
    let walked = c.fault_of.ensures.calls c.args.t.now (reaches_walks G c.args.t.now c.leaf_below.new.t c.in-Err.ensures.calls) in
    record { calls = walks_edits G c.args.t.now c.fault_of.new.t walked; pages = walks_pages G c.args.t.now c.fault_of.new.t walked; kept = walked }

pub returns-in-Err-clause-failed : goal.returns-in-Err-clause-failed
returns-in-Err-clause-failed g c =
    let G = g.T.Pages in
    let mid = c.leaf_below.new.t in
    let fails : FailsTree G mid c.in-Err.fault =
    fails_tree G mid c.in-Err.fault (top_breaks (G.step mid) c.in-Err.fault c.top.result c.top.ensures c.in-Err.ensures.failed.cause) in
    record {
      among = among_since (length (G.step mid).images) (length (G.step c.args.t.now).images) c.fault_of.result c.in-Err.ensures.calls.looks.count c.fault_of.ensures.among;
      cause = c.fault_of.ensures.cause fails;
    }

pub returns-then-not-has_as_long-clause-edits : goal.returns-then-not-has_as_long-clause-edits
returns-then-not-has_as_long-clause-edits g c =
    let G = g.T.Pages in
    let new = c.fault_of-then-not-has_as_long.new.t in
    let walked = c.fault_of-then-not-has_as_long.ensures.calls c.args.t.now (reaches_walks G c.args.t.now c.leaf_below.new.t c.in-Ok.ensures.calls) in
    record { calls = walks_edits G c.args.t.now new walked; pages = walks_pages G c.args.t.now new walked; kept = walked }

pub returns-then-not-has_as_long-clause-failed : goal.returns-then-not-has_as_long-clause-failed
returns-then-not-has_as_long-clause-failed g c =
    let G = g.T.Pages in
    let old = c.args.t.now in
    let mid = c.leaf_below.new.t in
    let calls = c.in-Ok.ensures.calls in
    let found : FoundLeaf = with_beside c.in-Ok.found c.in-Ok.ensures.found.way in
    let pages = (G.step old).images in
    let f = c.fault_of-then-not-has_as_long in
    let fails : FailsTree G mid (Broken found.page) = λ trusted.
    let P : List (List ℕ) → Type 0 = λ (x : List (List ℕ)). IsLeafOfPlace (is_before (UpTo c.copied.result)) x c.top.result found in
    let seen : P pages = shows_trusted G P old mid calls c.in-Ok.ensures.found.found.place trusted in
    let by_key : Key → Type 0 = λ (k : Key). IsLeafOfPlace (is_before (UpTo k)) pages c.top.result found in
    let by_top : Child → Type 0 = λ (d : Child). IsLeafOfPlace (is_before (UpTo c.args.entry.now.key)) pages d found in
    let place = subst by_top c.top.ensures (subst by_key c.copied.ensures seen) in
    let none = not_in_tree pages c.args.entry.now found place (c.has_as_long.ensures.not c.if-not-has_as_long.true) (c.requires.present (calls.trust trusted)) in
    λ height t used. none height (subst (λ (p : List (List ℕ)). IsTree p height) (calls.stays trusted) t) in
    record { among = among_since (length (G.step mid).images) (length (G.step old).images) f.result calls.looks.count f.ensures.among; cause = f.ensures.cause fails }

pub returns-clause-edits : goal.returns-clause-edits
returns-clause-edits g c =
    let G = g.T.Pages in
    let old = c.args.t.now in
    let mid = c.leaf_below.new.t in
    let new = c.put_leaf.new.t in
    let page : ℕ = c.in-Ok.found.page in
    let calls = c.in-Ok.ensures.calls in
    let written = c.put_leaf.ensures.written in
    record {
      calls = written_edits G g.met.T.Pages.then g.met.T.Pages.trust old mid new page _ calls c.put_leaf.ensures.outside written;
      pages = pages_then (G.step old) (G.step mid) (G.step new) (written_count (G.step mid) (G.step new) page _ written) (looks_pages (G.step old) (G.step mid) calls.looks)
          (written_pages (G.step mid) (G.step new) page _ written c.in-Ok.ensures.found.found.reached.0);
      kept = tt;
    }

pub returns-clause-written : goal.returns-clause-written
returns-clause-written g c =
    written_one g.T.Pages g.met.T.Pages.trust c.args.t.now c.leaf_below.new.t c.put_leaf.new.t c.in-Ok.found.page _ c.in-Ok.ensures.calls c.put_leaf.ensures.outside c.put_leaf.ensures.written c.in-Ok.ensures.found.found.reached.0 c.in-Ok.ensures.found.found.used

pub returns-clause-replaced : goal.returns-clause-replaced
returns-clause-replaced g c =
    let G = g.T.Pages in
    let old = c.args.t.now in
    let mid = c.leaf_below.new.t in
    let new = c.put_leaf.new.t in
    let found : FoundLeaf = with_beside c.in-Ok.found c.in-Ok.ensures.found.way in
    let calls = c.in-Ok.ensures.calls in
    let back = g.met.T.Pages.trust mid new _ c.put_leaf.ensures.outside in
    let pages = (G.step old).images in
    let P : List (List ℕ) → Type 0 = λ (x : List (List ℕ)). IsLeafAt (UpTo c.copied.result) x c.top.result found in
    let by_key : Key → Type 0 = λ (k : Key). IsLeafAt (UpTo k) pages c.top.result found in
    let by_top : Child → Type 0 = λ (d : Child). IsLeafAt (UpTo c.args.entry.now.key) pages d found in
    let at : G.trusted mid → by_top top = λ t. subst by_top c.top.ensures (subst by_key c.copied.ensures (shows_trusted G P old mid calls c.in-Ok.ensures.found.found.at t)) in
    let put_in = subst (λ (xs : List Entry). IsWritten (G.step mid) (G.step new) found.page (Leaf xs)) (c.as_slice.ensures.value ∙ c.put_among-list.ensures.put) c.put_leaf.ensures.written in
    record {
      tree = λ trusted. let t = back trusted in tree_replaced c.args.entry.now (G.step old) (G.step mid) (G.step new) found (calls.stays t) put_in (at t);
      table = λ trusted. let t = back trusted in table_replaced c.args.entry.now (G.step old) (G.step mid) (G.step new) found (calls.stays t) calls.looks.spares put_in (at t);
    }

-- ---- memory is not wanting

pub returns-in-Err-clause-memory : goal.returns-in-Err-clause-memory
returns-in-Err-clause-memory g c =
    let P = g.T.Pages in
    let t = c.args.t.now in
    record {
      way = λ old long way wants.
          let same : UpTo c.copied.result ≡ UpTo old.key = ap (λ (k : Key). UpTo k) (c.copied.ensures ∙ sym long.key) in
          let lead : Leads P max_height t old c.top.result = subst (Leads P max_height t old) (sym c.top.ensures) way in
          let has = subst (λ (k : Cut). HasMet P 0 (is_before k) c.top.result t) (sym same) (lead_met P max_height t old c.top.result [] lead) in
          (c.in-Err.ensures.memory has).enough (ap outer_of (sym (c.fault_of.ensures.outer (c.in-Err.ensures.again old same lead))) ∙ wants);
      all = λ all. (c.fault_of.ensures.memory t c.in-Err.ensures.calls.memory all).enough;
    }

pub returns-then-not-has_as_long-clause-memory : goal.returns-then-not-has_as_long-clause-memory
returns-then-not-has_as_long-clause-memory g c =
    let P = g.T.Pages in
    let t = c.args.t.now in
    let found : FoundLeaf = with_beside c.in-Ok.found c.in-Ok.ensures.found.way in
    record {
      way = λ old long way wants.
          let same : UpTo c.copied.result ≡ UpTo old.key = ap (λ (k : Key). UpTo k) (c.copied.ensures ∙ sym long.key) in
          let lead : Leads P max_height t old c.top.result = subst (Leads P max_height t old) (sym c.top.ensures) way in
          c.has_as_long.ensures.not c.if-not-has_as_long.true
          (as_long_there (P.step c.leaf_below.new.t).images found.page found.entries c.args.entry.now old c.in-Ok.ensures.found.found.leaf (c.in-Ok.ensures.again old same lead) long);
      all = λ all. (c.fault_of-then-not-has_as_long.ensures.memory t c.in-Ok.ensures.calls.memory all).enough;
    }

pub returns-clause-memory : goal.returns-clause-memory
returns-clause-memory g c = record { way = λ old long way is. cc is; all = λ all is. cc is }
