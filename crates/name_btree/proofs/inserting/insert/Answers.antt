use Rattle.std.proofs.Common.{◌≡◌, ◌∙◌, ◌-◌, inl, inr, ℕ, List, None, Some, length, ap, subst, arith}
use Rattle.fsd_bytes.specs.declared.key.Key.{Key}
use Rattle.std.proofs.lemmas.Bool.{or_right}
use Rattle.name_page.specs.Pages.{Step, IsSpareRefusal, with_images, reaches, changes, spare_count, is_one_of}
use Rattle.fsd_bytes.specs.declared.refusal.Refusal.{Refusal}
use Rattle.fsd_bytes.specs.declared.refusal.Refusal.TheVariants.{NameTableFull}
use Rattle.fsd_formats.specs.declared.entry.Entry.{Entry}
use Rattle.fsd_table.specs.Tree.{IsTree, table_of}
use Rattle.name_page.specs.Lookups.{entry_with}
use Rattle.name_page.specs.declared.pages.Pages.{Ghosts}
use Rattle.name_page.specs.Looks.{OnlyWalks}
use Rattle.name_page.proofs.LookLaws.{kept_pages, reaches_then, walks_edits, walks_pages, pages_then, edits_then, agrees_now, agrees_before}
use Rattle.name_btree.specs.declared.fault.TreeFault.TheVariants.{Pages}
use Rattle.name_btree.specs.Fault.{outer_of, FailsSpare, FailsTable}
use Rattle.name_btree.proofs.steps.BeginLaws.{refused_edits}
use Rattle.name_btree.proofs.steps.CauseLaws.{fails_by_map, same_err}
use Rattle.name_btree.proofs.finding.SearchLaws.{shown_tree, shown_with, not_full}
use Rattle.name_btree.specs.Draft.{drafted}
use Rattle.name_btree.specs.Grown.{Inserts, BreaksNew}
use Rattle.name_btree.specs.Map.{LeavesTree, HasLeft, without_all}
use Rattle.name_btree.proofs.drafts.CommitLaws.{commit_reaches, commit_changes, commit_edits}
use Rattle.name_btree.proofs.steps.MapLaws.{promised_walks}
use Rattle.name_btree.proofs.drafts.DraftLaws.{drafted_length}
use Rattle.name_btree.proofs.drafts.SheetLaws.{sheets_pages}
use Rattle.name_btree.proofs.growth.SpareLaws.{came_taken, inserted_table, none_taken}
use Rattle.name_btree.proofs.inserting.insert.Given as given
use Rattle.name_btree.proofs.ways.ReachLaws.{among_since}
use Rattle.name_btree.proofs.inserting.insert.Goals as goal
use Rattle.name_btree.proofs.inserting.insert.Goals.{After-fault_of, After-fault_of-in-Err-insert_in}

pub returns-clause-spent : goal.returns-clause-spent
returns-clause-spent g c =
    let cleared = g.T.Pages.step c.remove_all.new.t in
    let last = g.T.Pages.step c.insert_in.new.t in
    let d = c.insert_in.new.draft in
    let inserted = c.in_default-insert_in.ensures.inserted last.images (agrees_now last) in
    let still = c.remove_all.ensures.calls.looks in
    record {
      reaches =
          let written = ap reaches c.commit.ensures.step ∙ commit_reaches d.freed.items d.sheets.items last in
          let promised = ap reaches c.in_default.ensures.step in
          omega (arith, written, promised, c.insert_in.ensures.reaches, c.remove_all.ensures.reaches);
      changes =
          let written = ap changes c.commit.ensures.step in
          let promised = ap changes c.in_default.ensures.step in
          omega (
            arith,
            written,
            commit_changes d.freed.items d.sheets.items last,
            promised,
            ap length still.changed,
            still.most_changed,
            inserted.takes.changes,
            inserted.few,
            c.in_default-insert_in.ensures.drafted.grows.room,
            c.in_default-remove_all.ensures.room,
          );
    }

pub returns-clause-taken : goal.returns-clause-taken
returns-clause-taken g c =
    let last = g.T.Pages.step c.insert_in.new.t in
    let d = c.insert_in.new.draft in
    let inserted = c.in_default-insert_in.ensures.inserted last.images (agrees_now last) in
    let same = c.remove_all.ensures.calls.looks.spares ∙ ap (λ (s : Step). s.spares) c.in_default.ensures.step in
    came_taken 7 (g.T.Pages.step c.args.t.now) (with_images last.images (g.T.Pages.step c.remove_all.new.t)) last (g.T.Pages.step c.commit.new.t) inserted.came d.freed.items d.sheets.items same inserted.few inserted.takes.taken c.commit.ensures.step

pub returns-in-Err-clause-taken : goal.returns-in-Err-clause-taken
returns-in-Err-clause-taken g c =
    none_taken 7 (g.T.Pages.step c.args.t.now).spares (g.T.Pages.step c.spare.new.self).spares (ap (λ (s : Step). s.spares) c.in-Err.ensures.refused.step)

pub returns-in-Err-clause-spent : goal.returns-in-Err-clause-spent
returns-in-Err-clause-spent g c =
    let told = c.in-Err.ensures.refused.step in
    record { reaches = (let same = ap reaches told in omega (arith, same)); changes = (let same = ap changes told in omega (arith, same)) }

-- why the promise was refused
fails_promising : {D : Type 0} (P : Ghosts D) (free n : ℕ) (new : D) (refusal : Refusal) → (P.step new).refusal ≡ Some refusal → IsSpareRefusal free n refusal → FailsSpare P free new (Pages refusal)
fails_promising P free n new refusal is (inl outer) = inl (is, inl outer)
fails_promising P free n new refusal is (inr full) = inr (ap (λ (r : Refusal). Pages r) full.0, is ∙ ap (λ (r : Refusal). Some r) full.0)

pub returns-in-Err-clause-failed : goal.returns-in-Err-clause-failed
returns-in-Err-clause-failed g c =
    let refused = c.in-Err.ensures.refused in
    let free = spare_count (g.T.Pages.step c.args.t.now) in
    record {
      among = λ some. tt;
      cause = fails_promising g.T.Pages free 8 c.spare.new.self c.in-Err.refusal (ap (λ (s : Step). s.refusal) refused.step) refused.cause;
    }

pub returns-clause-inserted : goal.returns-clause-inserted
returns-clause-inserted g c = λ trusted.
    let G = g.T.Pages in
    let law = g.met.T.Pages in
    let step = G.step c.args.t.now in
    let s1 = c.spare.new.self in
    let s2 = c.remove_all.new.t in
    let s3 = c.insert_in.new.t in
    let new = c.commit.new.t in
    let cleared = G.step s2 in
    let last = G.step s3 in
    let keys = c.args.gone.now.items in
    let d = c.remove_all.new.draft in
    let t3 = law.trust s3 new _ c.commit.ensures.outside trusted in
    let takes = c.in_default-insert_in.ensures.calls in
    let t2 = takes.edits.trust t3 in
    let calls = c.in_default-remove_all.ensures.calls in
    let t1 = calls.trust t2 in
    let images = calls.stays t2 ∙ c.in_default.ensures.images.stays t1 in
    let spares = calls.looks.spares ∙ ap (λ (s : Step). s.spares) c.in_default.ensures.step in
    let agrees2 = takes.agrees last.images (agrees_now last) in
    let all = takes.stays t3 ∙ images in
    let by_images = subst (λ (im : List (List ℕ)). LeavesTree im d c.as_slice.result.now) all (c.in_default-remove_all.ensures.left last.images agrees2) in
    let left = subst (λ (ks : List Key). LeavesTree step.images d ks) c.as_slice.ensures.value by_images in
    let inserts0 = c.in_default-insert_in.ensures.inserted last.images (agrees_now last) in
    let e = c.args.entry.now in
    let d2 = c.insert_in.new.draft in
    let inserts1 = subst (λ (im : List (List ℕ)). Inserts e (with_images im cleared) last (drafted d.sheets.items im) (drafted d2.sheets.items last.images)) (takes.stays t3) inserts0 in
    let inserts2 = subst (λ (im : List (List ℕ)). Inserts e cleared last (drafted d.sheets.items im) (drafted d2.sheets.items last.images)) images inserts1 in
    inserted_table step cleared last (G.step new) d d2 e keys images spares left inserts2 c.in_default-insert_in.ensures.drafted.grows.freed c.commit.ensures.step c.commit.ensures.images (law.flags s3)

pub returns-clause-edits : goal.returns-clause-edits
returns-clause-edits g c =
    let G = g.T.Pages in
    let law = g.met.T.Pages in
    let old = c.args.t.now in
    let s1 = c.spare.new.self in
    let s2 = c.remove_all.new.t in
    let s3 = c.insert_in.new.t in
    let new = c.commit.new.t in
    let d = c.insert_in.new.draft in
    let sp = c.in_default.ensures in
    let walks = promised_walks G law.then law.trust old s1 s2 8 sp.outside sp.images.kept sp.images.stays sp.step c.in_default-remove_all.ensures.calls in
    let taken = c.in_default-insert_in.ensures in
    let count : length (G.step new).images ≡ length (G.step s2).images = ap length c.commit.ensures.images ∙ drafted_length d.sheets.items (G.step s3).images ∙ taken.calls.edits.count in
    record {
      calls = edits_then G law.then old s2 new (walks_edits G old s2 walks) (edits_then G law.then s2 s3 new taken.calls.edits
          (commit_edits G s3 new d.freed.items d.sheets.items c.commit.ensures.outside (law.trust s3 new _ c.commit.ensures.outside) c.commit.ensures.step c.commit.ensures.images));
      pages = pages_then (G.step old) (G.step s2) (G.step new) count (walks_pages G old s2 walks)
          (sheets_pages (G.step s2) (G.step s3) (G.step new) d.freed.items c.remove_all.new.draft.sheets.items d.sheets.items taken.drafted.grows.drawn taken.drafted.whole.sheets c.commit.ensures.step);
      kept = tt;
    }

pub returns-in-Err-clause-edits : goal.returns-in-Err-clause-edits
returns-in-Err-clause-edits g c =
    let G = g.T.Pages in
    let old = c.args.t.now in
    let new = c.spare.new.self in
    let told = c.in-Err.ensures in
    let trust = g.met.T.Pages.trust old new _ told.outside in
    record {
      calls = refused_edits G old new c.in-Err.refusal told.outside trust told.refused.step told.images.kept.count;
      pages = kept_pages (G.step old) (G.step new) told.images.kept (ap (λ (s : Step). s.changed) told.refused.step);
      kept = record {
        count = told.images.kept.count;
        spares = ap (λ (s : Step). s.spares) told.refused.step;
        home_a = ap (λ (s : Step). s.home_a) told.refused.step;
        changed = ap (λ (s : Step). s.changed) told.refused.step;
        stood = λ page there was. told.images.kept.reached page (there, or_right (is_one_of (G.step old).reached page) (is_one_of (G.step old).changed page) was);
        most_reached = ap (λ (s : Step). s.most_reached) told.refused.step;
        most_changed = ap (λ (s : Step). s.most_changed) told.refused.step;
        outside = told.outside;
        trust = trust;
        stays = told.images.stays;
      };
    }

-- the pages are walked, from the promise to the search for the fault
walked_removing : (g : given.Over) (c : After-fault_of g) → OnlyWalks g.T.Pages (outer_of c.fault_of.result) c.args.t.now c.fault_of.new.t
walked_removing g c =
    let law = g.met.T.Pages in
    let sp = c.in_default.ensures in
    c.fault_of.ensures.calls c.args.t.now
    (promised_walks g.T.Pages law.then law.trust c.args.t.now c.spare.new.self c.remove_all.new.t 8 sp.outside sp.images.kept sp.images.stays sp.step c.in-Err-remove_all.ensures.calls)

fails_removing : (g : given.Over) (c : After-fault_of g) → FailsTable g.T.Pages c.fault_of.new.t c.fault_of.result
fails_removing g c = c.fault_of.ensures.cause (shown_tree g.T.Pages c.remove_all.new.t c.in-Err-remove_all.fault c.in-Err-remove_all.ensures.fault)

pub returns-in-Err-remove_all-clause-edits : goal.returns-in-Err-remove_all-clause-edits
returns-in-Err-remove_all-clause-edits g c =
    let G = g.T.Pages in
    let w = walked_removing g (goal.at.returns-in-Err-remove_all-clause-edits g c).After-fault_of in
    record { calls = walks_edits G c.args.t.now c.fault_of.new.t w; pages = walks_pages G c.args.t.now c.fault_of.new.t w; kept = w }

pub returns-in-Err-remove_all-clause-failed : goal.returns-in-Err-remove_all-clause-failed
returns-in-Err-remove_all-clause-failed g c =
    let same = c.in-Err-remove_all.ensures.calls.looks.count ∙ c.in_default.ensures.images.kept.count in
    record {
      among = among_since (length (g.T.Pages.step c.remove_all.new.t).images) (length (g.T.Pages.step c.args.t.now).images) c.fault_of.result same c.fault_of.ensures.among;
      cause = inl (fails_removing g (goal.at.returns-in-Err-remove_all-clause-failed g c).After-fault_of);
    }

pub returns-in-Err-remove_all-clause-full : goal.returns-in-Err-remove_all-clause-full
returns-in-Err-remove_all-clause-full g c =
    let G = g.T.Pages in
    let old = c.args.t.now in
    let sp = c.in_default.ensures in
    let f = c.fault_of in
    let new = f.new.t in
    let table = fails_removing g (goal.at.returns-in-Err-remove_all-clause-full g c).After-fault_of in
    (λ is. absurd (not_full G new (spare_count (G.step old)) (subst (FailsTable G new) (same_err f.result (Pages (NameTableFull (spare_count (G.step old)))) is) table)), λ few. absurd (let h = c.in_default.is in let no = sp.full.1 few in cc))

walked_inserting : (g : given.Over) (c : After-fault_of-in-Err-insert_in g) → OnlyWalks g.T.Pages (outer_of c.fault_of-in-Err-insert_in.result) c.args.t.now c.fault_of-in-Err-insert_in.new.t
walked_inserting g c =
    let G = g.T.Pages in
    let law = g.met.T.Pages in
    let old = c.args.t.now in
    let s1 = c.spare.new.self in
    let s2 = c.remove_all.new.t in
    let s3 = c.insert_in.new.t in
    let sp = c.in_default.ensures in
    c.fault_of-in-Err-insert_in.ensures.calls old
    (promised_walks G law.then law.trust old s1 s3 8 sp.outside sp.images.kept sp.images.stays sp.step (reaches_then G law.then s1 s2 s3 c.in_default-remove_all.ensures.calls c.in-Err-insert_in.ensures.failed))

fails_inserting : (g : given.Over) (c : After-fault_of-in-Err-insert_in g) → FailsTable g.T.Pages c.fault_of-in-Err-insert_in.new.t c.fault_of-in-Err-insert_in.result
fails_inserting g c =
    let G = g.T.Pages in
    let law = g.met.T.Pages in
    let old = c.args.t.now in
    let s1 = c.spare.new.self in
    let s2 = c.remove_all.new.t in
    let s3 = c.insert_in.new.t in
    let sp = c.in_default.ensures in
    let calls = c.in-Err-insert_in.ensures.failed in
    let w = promised_walks G law.then law.trust old s1 s3 8 sp.outside sp.images.kept sp.images.stays sp.step (reaches_then G law.then s1 s2 s3 c.in_default-remove_all.ensures.calls calls) in
    let fault = c.in-Err-insert_in.fault in
    let s = G.step s3 in
    let e = c.args.entry.now in
    let keys = c.args.gone.now.items in
    let d = c.remove_all.new.draft in
    let Q : List Entry → Type 0 = λ (table : List Entry). entry_with e.key (without_all keys table) ≡ None in
    let mine = fails_by_map s (λ pages. BreaksNew e (drafted d.sheets.items pages)) (λ images page. (height : ℕ) → IsTree images height → Q (table_of images height) → ⊥)
    (λ images page agrees h height tree none.
    let before = agrees_before (G.step s2) s images calls.looks agrees in
    let left0 = c.in_default-remove_all.ensures.left images before height tree in
    let left = subst (λ (ks : List Key). HasLeft images d ks height) c.as_slice.ensures.value left0 in
    h left.height_after left.tree (ap (entry_with e.key) left.table ∙ none)) fault c.in-Err-insert_in.ensures.fault in
    c.fault_of-in-Err-insert_in.ensures.cause (shown_with G s3 Q fault mine
    (λ t height tree. let now = subst (λ (p : List (List ℕ)). IsTree p height) (w.stays t) tree in ap (λ (p : List (List ℕ)). entry_with e.key (without_all keys (table_of p height))) (w.stays t) ∙ c.requires.new (w.trust t) height now))

pub returns-in-Err-insert_in-clause-edits : goal.returns-in-Err-insert_in-clause-edits
returns-in-Err-insert_in-clause-edits g c =
    let G = g.T.Pages in
    let w = walked_inserting g (goal.at.returns-in-Err-insert_in-clause-edits g c).After-fault_of-in-Err-insert_in in
    record { calls = walks_edits G c.args.t.now c.fault_of-in-Err-insert_in.new.t w; pages = walks_pages G c.args.t.now c.fault_of-in-Err-insert_in.new.t w; kept = w }

pub returns-in-Err-insert_in-clause-failed : goal.returns-in-Err-insert_in-clause-failed
returns-in-Err-insert_in-clause-failed g c =
    let same = c.in-Err-insert_in.ensures.failed.looks.count ∙ c.in_default-remove_all.ensures.calls.looks.count ∙ c.in_default.ensures.images.kept.count in
    record {
      among = among_since (length (g.T.Pages.step c.insert_in.new.t).images) (length (g.T.Pages.step c.args.t.now).images) c.fault_of-in-Err-insert_in.result same c.fault_of-in-Err-insert_in.ensures.among;
      cause = inl (fails_inserting g (goal.at.returns-in-Err-insert_in-clause-failed g c).After-fault_of-in-Err-insert_in);
    }

pub returns-in-Err-insert_in-clause-full : goal.returns-in-Err-insert_in-clause-full
returns-in-Err-insert_in-clause-full g c =
    let G = g.T.Pages in
    let old = c.args.t.now in
    let sp = c.in_default.ensures in
    let f = c.fault_of-in-Err-insert_in in
    let new = f.new.t in
    let table = fails_inserting g (goal.at.returns-in-Err-insert_in-clause-full g c).After-fault_of-in-Err-insert_in in
    (λ is. absurd (not_full G new (spare_count (G.step old)) (subst (FailsTable G new) (same_err f.result (Pages (NameTableFull (spare_count (G.step old)))) is) table)), λ few. absurd (let h = c.in_default.is in let no = sp.full.1 few in cc))

-- ---- what a walk leaves to be changed and taken

pub returns-in-Err-remove_all-clause-spent : goal.returns-in-Err-remove_all-clause-spent
returns-in-Err-remove_all-clause-spent g c =
    let old = g.T.Pages.step c.args.t.now in
    let new = g.T.Pages.step c.fault_of.new.t in
    let w = walked_removing g (goal.at.returns-in-Err-remove_all-clause-spent g c).After-fault_of in
    let same : changes new ≡ changes old = ap (λ (n : ℕ). n - length new.changed) w.most_changed ∙ ap (λ (pages : List ℕ). old.most_changed - length pages) w.changed in
    let promised = ap reaches c.in_default.ensures.step in
    record { reaches = omega (arith, promised, c.remove_all.ensures.reaches, c.fault_of.ensures.reaches); changes = omega (arith, same) }

pub returns-in-Err-remove_all-clause-taken : goal.returns-in-Err-remove_all-clause-taken
returns-in-Err-remove_all-clause-taken g c =
    let w = walked_removing g (goal.at.returns-in-Err-remove_all-clause-taken g c).After-fault_of in
    none_taken 7 (g.T.Pages.step c.args.t.now).spares (g.T.Pages.step c.fault_of.new.t).spares w.spares

pub returns-in-Err-insert_in-clause-spent : goal.returns-in-Err-insert_in-clause-spent
returns-in-Err-insert_in-clause-spent g c =
    let old = g.T.Pages.step c.args.t.now in
    let new = g.T.Pages.step c.fault_of-in-Err-insert_in.new.t in
    let w = walked_inserting g (goal.at.returns-in-Err-insert_in-clause-spent g c).After-fault_of-in-Err-insert_in in
    let same : changes new ≡ changes old = ap (λ (n : ℕ). n - length new.changed) w.most_changed ∙ ap (λ (pages : List ℕ). old.most_changed - length pages) w.changed in
    let promised = ap reaches c.in_default.ensures.step in
    record { reaches = omega (arith, promised, c.remove_all.ensures.reaches, c.insert_in.ensures.reaches, c.fault_of-in-Err-insert_in.ensures.reaches); changes = omega (arith, same) }

pub returns-in-Err-insert_in-clause-taken : goal.returns-in-Err-insert_in-clause-taken
returns-in-Err-insert_in-clause-taken g c =
    let w = walked_inserting g (goal.at.returns-in-Err-insert_in-clause-taken g c).After-fault_of-in-Err-insert_in in
    none_taken 7 (g.T.Pages.step c.args.t.now).spares (g.T.Pages.step c.fault_of-in-Err-insert_in.new.t).spares w.spares
