use Rattle.std.proofs.Common.{◌≡◌, ◌∙◌, inl, ℕ, ◌<◌, List, sym, subst, arith}
use Rattle.std.proofs.lemmas.Result.{err_from_is_err_and}
use Rattle.fsd_table.specs.Breaks.{Breaks}
use Rattle.fsd_table.specs.Table.{BreaksTable}
use Rattle.fsd_table.specs.Tree.{IsTree}
use Rattle.name_page.proofs.LookLaws.{walks_then}
use Rattle.name_btree.specs.Fault.{BarsTable, IsAmong}
use Rattle.name_btree.proofs.steps.CauseLaws.{cause_map}
use Rattle.table_survey.specs.Claims.{IsLeftOf, whole_area}
use Rattle.volume_layout.specs.declared.layout.Layout.{Layout}
use Rattle.volume_layout.specs.Layout.{IsPlanned}
use Rattle.sector_set.specs.Area.{Area, IsOwn}
use Rattle.table_survey.proofs.ClaimLaws.{left_data, whole_own}
use Rattle.table_survey.proofs.SurveyLaws.{claims_then, surveyed, unbroken}
use Rattle.table_survey.proofs.surveying.survey.Goals as goal

pub walk-requires : goal.walk-requires
walk-requires g c = record { more = omega (arith, c.requires.more); whole = c.requires.whole; clear = c.requires.clear }

pub claim_all-requires : goal.claim_all-requires
claim_all-requires g c = record { more = omega (arith, c.requires.more, c.in_ok-versions.ensures.calls.most_reached); own = subst (λ (m : Area). IsOwn m) (sym c.requires.map) (whole_own c.args.l.now) }

pub returns-in_err-versions : goal.returns-in_err-versions
returns-in_err-versions g c =
    let G = g.T.Pages in
    let new = c.walk.new.t in
    let s = G.step new in
    let failed = c.in_err-versions.ensures in
    let p = err_from_is_err_and c.from_residual.result c.from_residual.ensures.1 in
    rw (p.1, p.2) (record {
      calls = failed.calls;
      among = failed.failed.among;
      surveys = tt;
      fault = cause_map s (λ page. G.trusted new → BreaksTable s.images page) (λ page. G.trusted new → Breaks c.args.l.now s.images page)
          (λ page. G.trusted new → BarsTable s page) (λ page. G.trusted new → BarsTable s page) (λ page breaks trusted. inl (breaks trusted)) (λ page bars. bars) c.in_err-versions.field-0.0 failed.failed.cause;
    })

-- where the sectors are refused the pages are a tree, since the walk has ended
pub returns-in_err-claim_all : goal.returns-in_err-claim_all
returns-in_err-claim_all g c =
    let G = g.T.Pages in
    let l = c.args.l.now in
    let new = c.claim_all.new.t in
    let s = G.step new in
    let first = c.in_ok-versions.ensures in
    let failed = c.in_err-claim_all.ensures in
    let second = c.in_err-claim_all.ensures.calls in
    let why = c.in_err-claim_all.field-0.0 in
    let p = err_from_is_err_and c.from_residual-in_err-claim_all.result c.from_residual-in_err-claim_all.ensures.1 in
    rw (p.1, p.2) (record {
      calls = walks_then G g.met.T.Pages.then c.args.t.now c.walk.new.t new first.calls second;
      among = subst (λ (pages : ℕ). 0 < pages → IsAmong pages why) first.calls.count failed.among;
      surveys = tt;
      fault = cause_map s (λ page. G.trusted new → (k : Layout) → IsPlanned k → c.args.map.now ≡ whole_area k → (height : ℕ) → IsTree s.images height → Breaks k s.images page) (λ page. G.trusted new → Breaks l s.images page)
          (λ page. G.trusted new → BarsTable s page) (λ page. G.trusted new → BarsTable s page)
          (λ page b trusted.
          let t = second.trust trusted in
          let counted = first.counted t in
          b trusted l c.requires.planned c.requires.map counted.height (subst (λ (pages : List (List ℕ)). IsTree pages counted.height) (sym (second.stays trusted ∙ first.calls.stays t)) counted.tree))
          (λ page b. b) why failed.fault;
    })

pub returns : goal.returns
returns g c =
    let G = g.T.Pages in
    let s = G.step c.args.t.now in
    let l = c.args.l.now in
    let free = c.claim_all.new.map in
    let first = c.in_ok-versions.ensures in
    let second = c.in_ok-claim_all.ensures in
    let claims = λ (trusted : G.trusted c.claim_all.new.t). claims_then l c.args.map.now free s.images (G.step c.walk.new.t).images (first.calls.stays (second.calls.trust trusted)) c.requires.map (second.claimed trusted) in
    record {
      calls = walks_then G g.met.T.Pages.then c.args.t.now c.walk.new.t c.claim_all.new.t first.calls second.calls;
      among = λ some. tt;
      surveys = record {
        told = λ trusted. surveyed l s c.walk.new.reached free c.in_ok-versions.versions (first.counted (second.calls.trust trusted)) (claims trusted) c.marked_count-pages.result (c.walk.auto.reached ∙ c.requires.whole) c.marked_count-pages.ensures;
        unbroken = λ trusted. unbroken l s c.walk.new.reached free c.in_ok-versions.versions (first.counted (second.calls.trust trusted)) (claims trusted);
        area_is = left_data l free (subst (λ (m : Area). IsLeftOf m free) c.requires.map second.left);
        counted = c.marked_count-pages.ensures;
      };
      fault = tt;
    }
