use Rattle.std.proofs.Common.{◌≡◌, ℕ, refl, subst, Option}
use Rattle.std.specs.Prelude.{IfOk}
use Rattle.fsd_bytes.specs.declared.key.Key.{Key}
use Rattle.fsd_table.specs.Tree.{IsTree, table_of}
use Rattle.name_page.specs.Lookups.{first_after}
use Rattle.name_btree.specs.declared.calls.TableCall.TheVariants.{Find, Highest, NextAfter, Insert, Remove, Replace}
use Rattle.name_btree.specs.Fault.{outer_told}
use Rattle.name_btree.specs.Calls.{without_page, IsFormed}
use Rattle.name_btree.specs.Lookup.{found_entry}
use Rattle.name_btree.proofs.finding.LookupLaws.{ok_alone, err_alone}
use Rattle.name_btree.proofs.steps.BeginLaws.{begun_reaches, begun_changes, allowed_begun, begun_edits, refused_edits, looked_up, changed_by}
use Rattle.name_btree.proofs.steps.ResultLaws.{err_more}
use Rattle.name_btree.proofs.mending.RootLaws.{on_ok_more}
use Rattle.name_btree.proofs.steps.CallLaws.{begins_renewed, begins_refused, looks_up, changes_to, table_excused, insert_excused}
use Rattle.name_btree.proofs.calls.carry_out.Goals as goal

pub returns-in-Find-clause-carried : goal.returns-in-Find-clause-carried
returns-in-Find-clause-carried g c =
    let G = g.T.Pages in
    let sp = c.in_default.ensures in
    let b = begins_renewed G c.args.t.now c.begin.new.self sp.stays sp.step in
    let e = c.find.ensures in
    rw (c.in-Find.is, c.without_page.ensures)
    (looks_up G c.args.t.now c.begin.new.self c.find.new.t b (Find c.in-Find.key) (λ table. refl) (without_page c.find.result) e.calls (ok_alone c.find.result _ e.found) (err_alone c.find.result _ (err_more c.find.result _ _ (λ fault h. h.cause) e.failed)))

pub returns-in-Highest-clause-carried : goal.returns-in-Highest-clause-carried
returns-in-Highest-clause-carried g c =
    let G = g.T.Pages in
    let sp = c.in_default.ensures in
    let b = begins_renewed G c.args.t.now c.begin.new.self sp.stays sp.step in
    let e = c.highest.ensures in
    rw (c.in-Highest.is, c.without_page-in-Highest.ensures)
    (looks_up G c.args.t.now c.begin.new.self c.highest.new.t b (Highest c.in-Highest.name) (λ table. refl) (without_page c.highest.result) e.calls (ok_alone c.highest.result _ e.found) (err_alone c.highest.result _ (err_more c.highest.result _ _ (λ fault h. h.cause) e.failed)))

pub returns-in-NextAfter-clause-carried : goal.returns-in-NextAfter-clause-carried
returns-in-NextAfter-clause-carried g c =
    let G = g.T.Pages in
    let sp = c.in_default.ensures in
    let b = begins_renewed G c.args.t.now c.begin.new.self sp.stays sp.step in
    let e = c.next_after.ensures in
    let found = subst (λ (key : Option Key). IfOk c.next_after.result (λ found. G.trusted c.next_after.new.t → (height : ℕ) → IsTree (G.step c.begin.new.self).images height → found_entry found ≡ first_after key (table_of (G.step c.begin.new.self).images height)))
    c.as_ref.ensures.value e.found in
    rw (c.in-NextAfter.is, c.without_page-in-NextAfter.ensures)
    (looks_up G c.args.t.now c.begin.new.self c.next_after.new.t b (NextAfter c.in-NextAfter.key) (λ table. refl) (without_page c.next_after.result) e.calls (ok_alone c.next_after.result _ found) (err_alone c.next_after.result _ (err_more c.next_after.result _ _ (λ fault h. h.cause) e.failed)))

pub returns-in-Insert-clause-carried : goal.returns-in-Insert-clause-carried
returns-in-Insert-clause-carried g c =
    let G = g.T.Pages in
    let sp = c.in_default.ensures in
    let b = begins_renewed G c.args.t.now c.begin.new.self sp.stays sp.step in
    let e = c.insert.ensures in
    rw (c.in-Insert.is, c.without_answer.ensures)
    (changes_to G c.args.t.now c.begin.new.self c.insert.new.t b (Insert c.in-Insert.entry c.in-Insert.gone) (λ table. refl) c.insert.result e.edits.calls e.edits.kept e.inserted
    (insert_excused G (Insert c.in-Insert.entry c.in-Insert.gone) tt (outer_told c.insert.result) c.begin.new.self c.insert.new.t c.insert.result e.edits.kept e.full (err_more c.insert.result _ _ (λ fault h. h.cause) e.failed)))

pub returns-in-Remove-clause-carried : goal.returns-in-Remove-clause-carried
returns-in-Remove-clause-carried g c =
    let G = g.T.Pages in
    let sp = c.in_default.ensures in
    let b = begins_renewed G c.args.t.now c.begin.new.self sp.stays sp.step in
    let e = c.remove.ensures in
    rw (c.in-Remove.is, c.without_answer-in-Remove.ensures)
    (changes_to G c.args.t.now c.begin.new.self c.remove.new.t b (Remove c.in-Remove.key) (λ table. refl) c.remove.result e.edits.calls e.edits.kept e.removed
    (table_excused G (Remove c.in-Remove.key) c.remove.new.t c.remove.result (err_more c.remove.result _ _ (λ fault h. h.cause) e.failed)))

pub returns-in-Replace-clause-carried : goal.returns-in-Replace-clause-carried
returns-in-Replace-clause-carried g c =
    let G = g.T.Pages in
    let sp = c.in_default.ensures in
    let b = begins_renewed G c.args.t.now c.begin.new.self sp.stays sp.step in
    let e = c.replace_same_size.ensures in
    rw (c.in-Replace.is, c.without_answer-in-Replace.ensures)
    (changes_to G c.args.t.now c.begin.new.self c.replace_same_size.new.t b (Replace c.in-Replace.entry) (λ table. refl) c.replace_same_size.result e.edits.calls e.edits.kept (on_ok_more c.replace_same_size.result _ _ (λ h. h.table) e.replaced)
    (table_excused G (Replace c.in-Replace.entry) c.replace_same_size.new.t c.replace_same_size.result (err_more c.replace_same_size.result _ _ (λ fault h. h.cause) e.failed)))

pub returns-in-Err-clause-carried : goal.returns-in-Err-clause-carried
returns-in-Err-clause-carried g c =
    let e = c.in-Err.ensures in
    begins_refused g.T.Pages c.args.t.now c.begin.new.self c.args.call.now c.in-Err.refusal e.stays e.refused e.cause

-- ---- what stays

pub returns-in-Find-clause-calls : goal.returns-in-Find-clause-calls
returns-in-Find-clause-calls g c =
    let G = g.T.Pages in
    let law = g.met.T.Pages in
    let old = c.args.t.now in
    let mid = c.begin.new.self in
    let sp = c.in_default.ensures in
    let b = begun_edits G old mid sp.outside (law.trust old mid _ sp.outside) sp.step sp.count in
    rw (c.without_page.ensures) (looked_up G law.then old mid c.find.new.t b c.find.result c.find.ensures.calls)

pub returns-in-Highest-clause-calls : goal.returns-in-Highest-clause-calls
returns-in-Highest-clause-calls g c =
    let G = g.T.Pages in
    let law = g.met.T.Pages in
    let old = c.args.t.now in
    let mid = c.begin.new.self in
    let sp = c.in_default.ensures in
    let b = begun_edits G old mid sp.outside (law.trust old mid _ sp.outside) sp.step sp.count in
    rw (c.without_page-in-Highest.ensures) (looked_up G law.then old mid c.highest.new.t b c.highest.result c.highest.ensures.calls)

pub returns-in-NextAfter-clause-calls : goal.returns-in-NextAfter-clause-calls
returns-in-NextAfter-clause-calls g c =
    let G = g.T.Pages in
    let law = g.met.T.Pages in
    let old = c.args.t.now in
    let mid = c.begin.new.self in
    let sp = c.in_default.ensures in
    let b = begun_edits G old mid sp.outside (law.trust old mid _ sp.outside) sp.step sp.count in
    rw (c.without_page-in-NextAfter.ensures) (looked_up G law.then old mid c.next_after.new.t b c.next_after.result c.next_after.ensures.calls)

pub returns-in-Insert-clause-calls : goal.returns-in-Insert-clause-calls
returns-in-Insert-clause-calls g c =
    let G = g.T.Pages in
    let law = g.met.T.Pages in
    let old = c.args.t.now in
    let mid = c.begin.new.self in
    let sp = c.in_default.ensures in
    let b = begun_edits G old mid sp.outside (law.trust old mid _ sp.outside) sp.step sp.count in
    rw (c.without_answer.ensures) (changed_by G law.then old mid c.insert.new.t b c.insert.result c.insert.ensures.edits.calls)

pub returns-in-Remove-clause-calls : goal.returns-in-Remove-clause-calls
returns-in-Remove-clause-calls g c =
    let G = g.T.Pages in
    let law = g.met.T.Pages in
    let old = c.args.t.now in
    let mid = c.begin.new.self in
    let sp = c.in_default.ensures in
    let b = begun_edits G old mid sp.outside (law.trust old mid _ sp.outside) sp.step sp.count in
    rw (c.without_answer-in-Remove.ensures) (changed_by G law.then old mid c.remove.new.t b c.remove.result c.remove.ensures.edits.calls)

pub returns-in-Replace-clause-calls : goal.returns-in-Replace-clause-calls
returns-in-Replace-clause-calls g c =
    let G = g.T.Pages in
    let law = g.met.T.Pages in
    let old = c.args.t.now in
    let mid = c.begin.new.self in
    let sp = c.in_default.ensures in
    let b = begun_edits G old mid sp.outside (law.trust old mid _ sp.outside) sp.step sp.count in
    rw (c.without_answer-in-Replace.ensures) (changed_by G law.then old mid c.replace_same_size.new.t b c.replace_same_size.result c.replace_same_size.ensures.edits.calls)

pub returns-in-Err-clause-calls : goal.returns-in-Err-clause-calls
returns-in-Err-clause-calls g c =
    let old = c.args.t.now in
    let mid = c.begin.new.self in
    let e = c.in-Err.ensures in
    refused_edits g.T.Pages old mid c.in-Err.refusal e.outside (g.met.T.Pages.trust old mid _ e.outside) e.refused e.count

-- ---- what each call needs

pub find-requires : goal.find-requires
find-requires g c = begun_reaches (g.T.Pages.step c.args.t.now) (g.T.Pages.step c.begin.new.self) _ c.in_default.ensures.step c.requires.reached

pub highest-requires : goal.highest-requires
highest-requires g c = begun_reaches (g.T.Pages.step c.args.t.now) (g.T.Pages.step c.begin.new.self) _ c.in_default.ensures.step c.requires.reached

pub next_after-requires : goal.next_after-requires
next_after-requires g c = begun_reaches (g.T.Pages.step c.args.t.now) (g.T.Pages.step c.begin.new.self) _ c.in_default.ensures.step c.requires.reached

pub insert-requires-clause-more : goal.insert-requires-clause-more
insert-requires-clause-more g c = begun_reaches (g.T.Pages.step c.args.t.now) (g.T.Pages.step c.begin.new.self) _ c.in_default.ensures.step c.requires.reached

pub insert-requires-clause-changes : goal.insert-requires-clause-changes
insert-requires-clause-changes g c = begun_changes (g.T.Pages.step c.args.t.now) (g.T.Pages.step c.begin.new.self) _ c.in_default.ensures.step c.requires.changed

pub remove-requires-clause-more : goal.remove-requires-clause-more
remove-requires-clause-more g c = begun_reaches (g.T.Pages.step c.args.t.now) (g.T.Pages.step c.begin.new.self) _ c.in_default.ensures.step c.requires.reached

pub remove-requires-clause-changes : goal.remove-requires-clause-changes
remove-requires-clause-changes g c = begun_changes (g.T.Pages.step c.args.t.now) (g.T.Pages.step c.begin.new.self) _ c.in_default.ensures.step c.requires.changed

pub replace_same_size-requires-clause-more : goal.replace_same_size-requires-clause-more
replace_same_size-requires-clause-more g c = begun_reaches (g.T.Pages.step c.args.t.now) (g.T.Pages.step c.begin.new.self) _ c.in_default.ensures.step c.requires.reached

pub replace_same_size-requires-clause-changes : goal.replace_same_size-requires-clause-changes
replace_same_size-requires-clause-changes g c = begun_changes (g.T.Pages.step c.args.t.now) (g.T.Pages.step c.begin.new.self) _ c.in_default.ensures.step c.requires.changed

pub insert-requires-clause-entry : goal.insert-requires-clause-entry
insert-requires-clause-entry g c = (subst IsFormed c.in-Insert.is c.requires.formed).0

pub insert-requires-clause-fits : goal.insert-requires-clause-fits
insert-requires-clause-fits g c = (subst IsFormed c.in-Insert.is c.requires.formed).1

pub insert-requires-clause-new : goal.insert-requires-clause-new
insert-requires-clause-new g c =
    let old = c.args.t.now in
    let mid = c.begin.new.self in
    let sp = c.in_default.ensures in
    allowed_begun g.T.Pages old mid c.args.call.now (Insert c.in-Insert.entry c.in-Insert.gone) c.in-Insert.is (g.met.T.Pages.trust old mid _ sp.outside) sp.stays c.requires.allowed

pub replace_same_size-requires-clause-entry : goal.replace_same_size-requires-clause-entry
replace_same_size-requires-clause-entry g c = (subst IsFormed c.in-Replace.is c.requires.formed).0

pub replace_same_size-requires-clause-fits : goal.replace_same_size-requires-clause-fits
replace_same_size-requires-clause-fits g c = (subst IsFormed c.in-Replace.is c.requires.formed).1

pub replace_same_size-requires-clause-present : goal.replace_same_size-requires-clause-present
replace_same_size-requires-clause-present g c =
    let old = c.args.t.now in
    let mid = c.begin.new.self in
    let sp = c.in_default.ensures in
    allowed_begun g.T.Pages old mid c.args.call.now (Replace c.in-Replace.entry) c.in-Replace.is (g.met.T.Pages.trust old mid _ sp.outside) sp.stays c.requires.allowed
