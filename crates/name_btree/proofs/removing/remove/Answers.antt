use Rattle.std.proofs.Common.{◌≡◌, ◌∙◌, ◌+◌, ◌-◌, ◌≤◌, Bool, sym, ap, subst, length, List, ℕ, arith}
use Rattle.name_page.specs.Looks.{OnlyWalks}
use Rattle.name_page.specs.Pages.{Step, reaches, changes, is_spare}
use Rattle.name_btree.proofs.drafts.CommitLaws.{commit_edits, commit_reaches, commit_changes, freed_spare}
use Rattle.name_btree.proofs.drafts.DraftLaws.{committed_spares, drafted_length}
use Rattle.name_page.proofs.LookLaws.{looks_pages, pages_then, reaches_walks, walks_edits, walks_pages, edits_then, shows_trusted}
use Rattle.name_btree.specs.Draft.{drafted, committed, freed, RemovesFrom}
use Rattle.fsd_table.specs.Tree.{table_of}
use Rattle.name_page.specs.Edits.{without}
use Rattle.name_btree.specs.Map.{HasTable}
use Rattle.name_btree.specs.declared.draft.Sheet.{Sheet}
use Rattle.name_btree.specs.Fault.{FailsTree, IsNoTree, outer_of}
use Rattle.name_btree.proofs.steps.CauseLaws.{fails_by_map}
use Rattle.name_btree.proofs.finding.SearchLaws.{shown_tree}
use Rattle.name_btree.proofs.steps.TableLaws.{table_without}
use Rattle.name_btree.proofs.ways.ReachLaws.{among_since}
use Rattle.name_btree.proofs.drafts.WrittenPages.{commit_pages}
use Rattle.name_btree.proofs.removing.remove.Given as given
use Rattle.name_btree.proofs.removing.remove.Goals as goal
use Rattle.name_btree.proofs.removing.remove.Goals.{After-fault_of}

pub returns-clause-spent : goal.returns-clause-spent
returns-clause-spent g c =
    let old = g.T.Pages.step c.args.t.now in
    let between = g.T.Pages.step c.remove_in.new.t in
    let d = c.remove_in.new.draft in
    let back : reaches (g.T.Pages.step c.commit.new.t) ≡ reaches between = ap reaches c.commit.ensures.step ∙ commit_reaches d.freed.items d.sheets.items between in
    let same : changes (g.T.Pages.step c.commit.new.t) ≡ changes (freed d.freed.items (committed d.sheets.items between)) = ap changes c.commit.ensures.step in
    let still : changes between ≡ changes old = omega (arith, c.remove_in.ensures.calls.looks.most_changed, ap length c.remove_in.ensures.calls.looks.changed) in
    let few : length d.sheets.items ≤ 8 = omega (arith, c.in_default.ensures.drafted.sheets, ap length c.new-draft.ensures.sheets) in
    record {
      reaches = subst (λ (n : ℕ). reaches old ≤ n + 12) (sym back) c.remove_in.ensures.reaches;
      changes = omega (arith, same, still, few, commit_changes d.freed.items d.sheets.items between);
    }

pub returns-clause-taken : goal.returns-clause-taken
returns-clause-taken g c = λ page h.
    let d = c.remove_in.new.draft in
    let between = g.T.Pages.step c.remove_in.new.t in
    ap (λ (s : Step). is_spare s.spares page) c.commit.ensures.step
    ∙ freed_spare d.freed.items (committed d.sheets.items between) page (ap (λ x. is_spare x page) (committed_spares d.sheets.items between ∙ c.remove_in.ensures.calls.looks.spares) ∙ h)

pub returns-clause-removed : goal.returns-clause-removed
returns-clause-removed g c = λ trusted height table.
    let G = g.T.Pages in
    let old = G.step c.args.t.now in
    let between = G.step c.remove_in.new.t in
    let d = c.remove_in.new.draft in
    let calls = c.remove_in.ensures.calls in
    let t = g.met.T.Pages.trust c.remove_in.new.t c.commit.new.t _ c.commit.ensures.outside trusted in
    let removes = shows_trusted G (λ x. RemovesFrom x c.new-draft.result d c.args.key.now) c.args.t.now c.remove_in.new.t calls c.in_default.ensures.removed t in
    subst (λ (s : Step). HasTable s (without c.args.key.now (table_of old.images height))) (sym c.commit.ensures.step)
    (table_without old between c.args.key.now c.new-draft.result d c.new-draft.ensures.sheets c.new-draft.ensures.freed (calls.stays t) calls.looks.spares (g.met.T.Pages.flags c.args.t.now)
    removes height table)

pub returns-clause-edits : goal.returns-clause-edits
returns-clause-edits g c =
    let G = g.T.Pages in
    let law = g.met.T.Pages in
    let old = c.args.t.now in
    let mid = c.remove_in.new.t in
    let new = c.commit.new.t in
    let d = c.remove_in.new.draft in
    let found = c.in_default.ensures in
    let count : length (G.step new).images ≡ length (G.step mid).images = ap (λ (images : List (List ℕ)). length images) c.commit.ensures.images ∙ drafted_length d.sheets.items (G.step mid).images in
    record {
      calls = edits_then G law.then old mid new (walks_edits G old mid (reaches_walks G old mid found.calls))
          (commit_edits G mid new d.freed.items d.sheets.items c.commit.ensures.outside (law.trust mid new _ c.commit.ensures.outside) c.commit.ensures.step c.commit.ensures.images);
      pages = pages_then (G.step old) (G.step mid) (G.step new) count (looks_pages (G.step old) (G.step mid) found.calls.looks)
          (commit_pages d.freed.items d.sheets.items (G.step mid) (G.step new) found.drafted.draft.sheets c.commit.ensures.step);
      kept = tt;
    }

-- ---- nothing goes

walked : (g : given.Over) (c : After-fault_of g) → OnlyWalks g.T.Pages (outer_of c.fault_of.result) c.args.t.now c.fault_of.new.t
walked g c = c.fault_of.ensures.calls c.args.t.now (reaches_walks g.T.Pages c.args.t.now c.remove_in.new.t c.in-Err.ensures.calls)

pub returns-in-Err-clause-edits : goal.returns-in-Err-clause-edits
returns-in-Err-clause-edits g c =
    let G = g.T.Pages in
    let w = walked g (goal.at.returns-in-Err-clause-edits g c).After-fault_of in
    record { calls = walks_edits G c.args.t.now c.fault_of.new.t w; pages = walks_pages G c.args.t.now c.fault_of.new.t w; kept = w }

pub returns-in-Err-clause-failed : goal.returns-in-Err-clause-failed
returns-in-Err-clause-failed g c =
    let G = g.T.Pages in
    let mid = c.remove_in.new.t in
    let empty = c.new-draft.result in
    let fault = c.in-Err.fault in
    let bare = fails_by_map (G.step mid) (λ pages page. IsNoTree (drafted empty.sheets.items pages)) (λ pages page. IsNoTree pages)
    (λ images page is h. subst IsNoTree (ap (λ (xs : List Sheet). drafted xs images) c.new-draft.ensures.sheets) h) fault c.in-Err.ensures.fault in
    let fails : FailsTree G mid fault = shown_tree G mid fault bare in
    record {
      among = among_since (length (G.step mid).images) (length (G.step c.args.t.now).images) c.fault_of.result c.in-Err.ensures.calls.looks.count c.fault_of.ensures.among;
      cause = c.fault_of.ensures.cause fails;
    }

pub returns-in-Err-clause-spent : goal.returns-in-Err-clause-spent
returns-in-Err-clause-spent g c =
    let old = g.T.Pages.step c.args.t.now in
    let new = g.T.Pages.step c.fault_of.new.t in
    let w = walked g (goal.at.returns-in-Err-clause-spent g c).After-fault_of in
    let same : changes new ≡ changes old = ap (λ (n : ℕ). n - length new.changed) w.most_changed ∙ ap (λ (pages : List ℕ). old.most_changed - length pages) w.changed in
    record { reaches = omega (arith, c.remove_in.ensures.reaches, c.fault_of.ensures.reaches); changes = omega (arith, same) }

pub returns-in-Err-clause-taken : goal.returns-in-Err-clause-taken
returns-in-Err-clause-taken g c = λ page is. ap (λ (spares : List Bool). is_spare spares page) (walked g (goal.at.returns-in-Err-clause-taken g c).After-fault_of).spares ∙ is
