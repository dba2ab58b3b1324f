use Rattle.std.proofs.Common.{◌≡◌, Option, None, true, false, subst, length}
use Rattle.fsd_bytes.specs.declared.refusal.Refusal.{Refusal}
use Rattle.name_page.specs.Looks.{NeedsNoMore, OnlyWalks}
use Rattle.name_page.proofs.LookLaws.{no_more_then, walks_then}
use Rattle.name_btree.specs.Fault.{is_inner}
use Rattle.name_btree.proofs.finding.SearchLaws.{inner_broken, inner_untold, outer_fails}
use Rattle.name_btree.proofs.ways.ReachLaws.{outer_among}
use Rattle.name_btree.proofs.searching.fault_of.Goals as goal

pub returns-then-is_inner-clause-calls : goal.returns-then-is_inner-clause-calls
returns-then-is_inner-clause-calls g c = λ first before.
    let G = g.T.Pages in
    let inner : is_inner c.args.fault ≡ true = cc in
    let quiet : OnlyWalks G None first c.args.t.now = subst (λ (refusal : Option Refusal). OnlyWalks G refusal first c.args.t.now) (inner_untold c.args.fault inner) before in
    walks_then G g.met.T.Pages.then first c.args.t.now c.search.new.t quiet c.search.ensures.calls

pub returns-then-is_inner-clause-cause : goal.returns-then-is_inner-clause-cause
returns-then-is_inner-clause-cause g c = λ fails.
    let inner : is_inner c.args.fault ≡ true = cc in
    c.search.ensures.cause (inner_broken g.T.Pages c.args.t.now c.args.fault fails inner)

pub returns-else-is_inner-clause-cause : goal.returns-else-is_inner-clause-cause
returns-else-is_inner-clause-cause g c = λ fails.
    let outer : is_inner c.args.fault ≡ false = cc in
    outer_fails g.T.Pages c.args.t.now c.args.fault fails outer

pub returns-else-is_inner-clause-calls : goal.returns-else-is_inner-clause-calls
returns-else-is_inner-clause-calls g c = λ first before. before

pub returns-else-is_inner-clause-among : goal.returns-else-is_inner-clause-among
returns-else-is_inner-clause-among g c = λ some.
    let outer : is_inner c.args.fault ≡ false = cc in
    outer_among (length (g.T.Pages.step c.args.t.now).images) c.args.fault outer

-- ---- memory is not wanting

pub returns-then-is_inner-clause-memory : goal.returns-then-is_inner-clause-memory
returns-then-is_inner-clause-memory g c = λ first before.
    let G = g.T.Pages in
    let inner : is_inner c.args.fault ≡ true = cc in
    let quiet : NeedsNoMore G None first c.args.t.now = subst (λ (refusal : Option Refusal). NeedsNoMore G refusal first c.args.t.now) (inner_untold c.args.fault inner) before in
    no_more_then G first c.args.t.now c.search.new.t quiet c.search.ensures.memory

pub returns-else-is_inner-clause-memory : goal.returns-else-is_inner-clause-memory
returns-else-is_inner-clause-memory g c = λ first before. before
