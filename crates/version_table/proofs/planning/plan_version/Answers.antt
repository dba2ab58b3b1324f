use Rattle.std.proofs.Common.{◌≡◌, ◌≤◌, ◌<◌, ℕ, List, None, ap, refl, subst, sym, true, arith}
use Rattle.std.specs.Prelude.{IsNone}
use Rattle.fsd_formats.specs.declared.entry.Entry.{Entry}
use Rattle.fsd_formats.specs.NamePage.{is_entry}
use Rattle.fsd_table.specs.Tree.{table_of}
use Rattle.fsd_table.proofs.BoundLaws.{all_weaker}
use Rattle.fsd_files.specs.Answers.{highest_entry}
use Rattle.name_page.specs.Lookups.{highest_of}
use Rattle.name_page.specs.Looks.{OnlyWalks}
use Rattle.name_page.specs.Pages.{reaches}
use Rattle.name_page.proofs.LookLaws.{rest_reaches, walks_then}
use Rattle.name_btree.specs.Fault.{IsAmong}
use Rattle.name_btree.specs.Lookup.{found_entry}
use Rattle.name_btree.proofs.finding.LookupLaws.{each_told}
use Rattle.version_table.specs.Met.{IsMetBetween, entries_left}
use Rattle.version_table.specs.Table.{OfTable}
use Rattle.version_table.specs.Versions.{oldest_beyond, versions_of}
use Rattle.version_table.proofs.MakeLaws.{plan_is, plan_ready, used_up}
use Rattle.version_table.proofs.MeetLaws.{met_earlier, of_later}
use Rattle.version_table.proofs.PlanLaws.{keep_within}
use Rattle.version_table.proofs.StepLaws.{among_rested, found_rested, tree_ascends}
use Rattle.version_table.proofs.VersionLaws.{highest_is}
use Rattle.version_table.proofs.planning.plan_version.Given as given
use Rattle.version_table.proofs.planning.plan_version.Goals as goal
use Rattle.version_table.proofs.planning.plan_version.Goals.{In-Ok, In-Some}

-- the highest version was looked up
walks : (g : given.Over) (c : In-Ok g) → OnlyWalks g.T.Pages None c.args.t.now c.highest.new.t
walks g c = rest_reaches g.T.Pages g.met.T.Pages.then g.met.T.Pages.trust c.args.t.now c.rest.new.self c.highest.new.t c.rest.ensures.outside c.rest.ensures.step c.in-Ok.ensures.calls

high : (g : given.Over) (c : In-Ok g) → OfTable g.T.Pages c.args.t.now c.highest.new.t (λ table. highest_entry c.args.name.now table ≡ found_entry c.in-Ok.highest)
high g c =
    let name = c.args.name.now in
    found_rested g.T.Pages c.args.t.now c.rest.new.self c.highest.new.t c.rest.ensures.step (highest_of name) (highest_entry name) (highest_is name) c.highest.result c.in-Ok.highest c.in-Ok.is c.highest.ensures.found

keep_small : (g : given.Over) (c : In-Some g) → c.in-Some.next.1 ≤ 999
keep_small g c = subst (λ (keep : ℕ). keep ≤ 999) (sym c.in-Some.ensures.keep) (keep_within c.args.given c.in-Ok.highest c.requires.given (each_told _ _ (λ f. is_entry f.entry ≡ true) c.in-Ok.highest (λ f met. met.entry) c.in-Ok.ensures.told))

pub highest-requires : goal.highest-requires
highest-requires g c = omega (arith, c.requires.more, ap reaches c.rest.ensures.step)

pub returns-in-Err : goal.returns-in-Err
returns-in-Err g c =
    let P = g.T.Pages in
    let e = c.in-Err.ensures in
    record { walks = rest_reaches P g.met.T.Pages.then g.met.T.Pages.trust c.args.t.now c.rest.new.self c.highest.new.t c.rest.ensures.outside c.rest.ensures.step e.calls; formed = tt; planned = tt; ready = tt; failed = record { among = among_rested P c.args.t.now c.rest.new.self c.highest.new.t c.rest.ensures.step (λ (pages : ℕ). IsAmong pages c.in-Err.fault) e.failed.among; cause = e.failed.cause }; shown = e.failed.shown }

pub returns-in-None : goal.returns-in-None
returns-in-None g c =
    let at = (goal.at.returns-in-None g c).In-Ok in
    record { walks = walks g at; formed = tt; planned = tt; ready = tt; failed = record { among = λ some. tt; cause = λ trusted height tree. used_up c.args.name.now (table_of (g.T.Pages.step c.args.t.now).images height) (found_entry c.in-Ok.highest) (high g at trusted height tree) (c.next_of.ensures.used_up.0 (subst IsNone (sym c.in-None.is) refl)) }; shown = tt }

pub meet_leaving-requires : goal.meet_leaving-requires
meet_leaving-requires g c = let at = goal.at.meet_leaving-requires g c in record { more = omega (arith, c.requires.more, (walks g at.In-Ok).most_reached); keep = keep_small g at.In-Some }

pub returns-in-Err-meet_leaving : goal.returns-in-Err-meet_leaving
returns-in-Err-meet_leaving g c =
    let walked = walks g (goal.at.returns-in-Err-meet_leaving g c).In-Ok in
    let e = c.in-Err-meet_leaving.ensures in
    record { walks = walks_then g.T.Pages g.met.T.Pages.then c.args.t.now c.highest.new.t c.meet_leaving.new.t walked e.walks; formed = tt; planned = tt; ready = tt; failed = record { among = subst (λ (pages : ℕ). 0 < pages → IsAmong pages c.in-Err-meet_leaving.fault) walked.count e.among; cause = e.fault }; shown = e.shown }

pub returns-in-Ok-meet_leaving : goal.returns-in-Ok-meet_leaving
returns-in-Ok-meet_leaving g c =
    let P = g.T.Pages in
    let a = c.args.t.now in
    let then = c.highest.new.t in
    let now = c.meet_leaving.new.t in
    let name = c.args.name.now in
    let e = c.in-Ok-meet_leaving.ensures in
    let next = c.in-Some.next in
    let gone = c.in-Ok-meet_leaving.gone in
    let at = (goal.at.returns-in-Ok-meet_leaving g c).In-Ok in
    let walked = walks g at in
    let left = of_later P a then now (λ (xs : List Entry). entries_left gone.items ≡ oldest_beyond next.1 (versions_of name xs)) walked e.walks.trust e.gone in
    record {
      walks = walks_then P g.met.T.Pages.then a then now walked e.walks;
      formed = record {
        named = c.copied.ensures;
        version = omega (arith, c.in-Some.ensures.version);
        keep = keep_small g (goal.at.returns-in-Ok-meet_leaving g c).In-Some;
        met = all_weaker (IsMetBetween P name then now) (IsMetBetween P name a now) gone.items (λ one met. met_earlier P g.met.T.Pages.then name name a then now one refl walked met) e.met;
      };
      planned = λ trusted height tree.
          plan_is name c.args.given (table_of (P.step a).images height) (tree_ascends (P.step a).images height tree) (record { key = record { name = c.copied.result; version = next.0 }; keep = next.1; gone = gone }) (found_entry c.in-Ok.highest)
          (high g at (e.walks.trust trusted) height tree) c.copied.ensures c.in-Some.ensures.version c.in-Some.ensures.keep (left trusted height tree);
      ready = λ trusted height tree.
          plan_ready name c.args.given (table_of (P.step a).images height) (tree_ascends (P.step a).images height tree) (record { key = record { name = c.copied.result; version = next.0 }; keep = next.1; gone = gone }) (found_entry c.in-Ok.highest)
          (high g at (e.walks.trust trusted) height tree) c.copied.ensures c.in-Some.ensures.version c.in-Some.ensures.keep (left trusted height tree);
      failed = tt;
      shown = tt;
    }
