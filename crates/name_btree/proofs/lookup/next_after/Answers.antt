use Rattle.std.proofs.Common.{◌≡◌, ◌∙◌, length, refl, sym, subst, not, ap, List, ℕ, Option, Some, None, arith}
use Rattle.std.specs.Prelude.{Err, IfSome}
use Rattle.fsd_formats.specs.declared.entry.Entry.{Entry}
use Rattle.fsd_formats.specs.NamePage.{FitsEntry}
use Rattle.name_btree.specs.Lookup.{BeginsBehindPlace, EndsBeside, HasRight, IsFirstBelow, IsLeafBy}
use Rattle.name_btree.proofs.ways.ChildLaws.{leaf_by, leaf_later, right_of}
use Rattle.name_btree.proofs.finding.LookupLaws.{find_contains, stands_in, good_entry, led_to, led_next, later_in_leaf, later_in_next}
use Rattle.std.specs.Option.{MatchOption, option_copied}
use Rattle.fsd_table.specs.declared.child.Child.{Child}
use Rattle.fsd_table.specs.Table.{top}
use Rattle.name_page.specs.Cut.{is_before}
use Rattle.name_page.specs.declared.cut.Cut.{Cut}
use Rattle.name_btree.specs.declared.descent.Neighbour.{Neighbour}
use Rattle.name_btree.specs.declared.lookup.FoundEntry.{FoundEntry}
use Rattle.name_page.specs.Looks.{ShowsEach}
use Rattle.name_page.proofs.LookLaws.{reaches_then, shows_trusted, agrees_before, agrees_now}
use Rattle.name_btree.specs.Fault.{BarsTable, FailsBeside}
use Rattle.name_btree.specs.Descent.{with_beside, FoundLeaf, IsLeafOfPlace, BeginsWithEntry}
use Rattle.name_btree.proofs.finding.NextLaws.{cut_tests, next_in_leaf, next_at_end, next_in_next}
use Rattle.std.proofs.lemmas.Result.{err_from_is_err_and}
use Rattle.name_btree.proofs.ways.VisitedLaws.{shown_next, shown_top, top_breaks, next_breaks}
use Rattle.name_btree.proofs.ways.ReachLaws.{fails_among}
use Rattle.name_btree.specs.declared.descent.Way.{Way}
use Rattle.name_btree.proofs.ways.AlongLaws.{goes_from_top}
use Rattle.name_btree.proofs.lookup.next_after.Goals as goal

pub way_again-way-requires : goal.way_again-way-requires
way_again-way-requires g c =
    let along = c.in_ok-found.ensures.found in
    (along.way, goes_from_top g.T.Pages c.cut_after-cut.result c.top.result c.args.t.now c.leaf_below.new.t c.in_ok-found.found c.top.ensures along)

pub returns-in-Some-clause-found : goal.returns-in-Some-clause-found
returns-in-Some-clause-found g c = λ trusted.
    let along = c.in_ok-found.ensures.found in
    let found : FoundLeaf = with_beside c.in_ok-found.found along.way in
    let pages = (g.T.Pages.step c.args.t.now).images in
    let cut = c.cut_after-cut.result in
    let Q : List (List ℕ) → Type 0 = λ (x : List (List ℕ)). IsLeafOfPlace (is_before cut) x c.top.result found in
    let seen : Q pages = shows_trusted g.T.Pages Q c.args.t.now c.leaf_below.new.t c.in_ok-found.ensures.calls along.found.place trusted in
    let P : Child → Type 0 = λ (d : Child). IsLeafOfPlace (is_before cut) pages d found in
    let place : P top = subst P c.top.ensures seen in
    next_in_leaf (option_copied c.args.after) cut pages found c.in-Some.entry c.cut_after-cut.ensures place (sym c.first_behind.ensures.first ∙ c.in-Some.is)

pub returns-in_ok-first_below-in-Some-next-clause-found : goal.returns-in_ok-first_below-in-Some-next-clause-found
returns-in_ok-first_below-in-Some-next-clause-found g c = λ trusted.
    let along = c.in_ok-found.ensures.found in
    let found : FoundLeaf = with_beside c.in_ok-found.found along.way in
    let goes = goes_from_top g.T.Pages c.cut_after-cut.result c.top.result c.args.t.now c.leaf_below.new.t c.in_ok-found.found c.top.ensures along in
    let same = sym (c.way_again-way.ensures along.way goes) in
    let beside_is : found.next ≡ Some c.in-Some-next.next = ap (λ (w : Way). w.next) same ∙ c.in-Some-next.is in
    let second = c.in_ok-first_below-in-Some-next.ensures in
    let pages = (g.T.Pages.step c.args.t.now).images in
    let cut = c.cut_after-cut.result in
    let Q : List (List ℕ) → Type 0 = λ (x : List (List ℕ)). IsLeafOfPlace (is_before cut) x c.top.result found in
    let seen : Q pages = shows_trusted g.T.Pages Q c.args.t.now c.leaf_below.new.t c.in_ok-found.ensures.calls along.found.place (second.calls.trust trusted) in
    let P : Child → Type 0 = λ (d : Child). IsLeafOfPlace (is_before cut) pages d found in
    let place : P top = subst P c.top.ensures seen in
    let e = c.in_ok-first_below-in-Some-next.field-0.entry in
    let new = c.first_below.new.t in
    let both = reaches_then g.T.Pages g.met.T.Pages.then c.args.t.now c.leaf_below.new.t new c.in_ok-found.ensures.calls second.calls in
    let B : Neighbour → Type 0 = λ (n : Neighbour). ShowsEach (g.T.Pages.step new) (λ x. BeginsWithEntry x n.child e) in
    let here : B c.in-Some-next.next = subst B c.in-Some-next.next-is second.found.first in
    let begin = shows_trusted g.T.Pages (λ x. BeginsWithEntry x c.in-Some-next.next.child e) c.args.t.now new both here trusted in
    next_in_next (option_copied c.args.after) cut pages found c.in-Some-next.next e c.cut_after-cut.ensures beside_is place begin (sym c.first_behind.ensures.first ∙ c.in_default.is)

pub returns-in-None-clause-found : goal.returns-in-None-clause-found
returns-in-None-clause-found g c = λ trusted.
    let along = c.in_ok-found.ensures.found in
    let found : FoundLeaf = with_beside c.in_ok-found.found along.way in
    let goes = goes_from_top g.T.Pages c.cut_after-cut.result c.top.result c.args.t.now c.leaf_below.new.t c.in_ok-found.found c.top.ensures along in
    let same = sym (c.way_again-way.ensures along.way goes) in
    let beside_is : found.next ≡ None = ap (λ (w : Way). w.next) same ∙ c.in-None.is in
    let pages = (g.T.Pages.step c.args.t.now).images in
    let cut = c.cut_after-cut.result in
    let Q : List (List ℕ) → Type 0 = λ (x : List (List ℕ)). IsLeafOfPlace (is_before cut) x c.top.result found in
    let seen : Q pages = shows_trusted g.T.Pages Q c.args.t.now c.leaf_below.new.t c.in_ok-found.ensures.calls along.found.place trusted in
    let P : Child → Type 0 = λ (d : Child). IsLeafOfPlace (is_before cut) pages d found in
    let place : P top = subst P c.top.ensures seen in
    next_at_end (option_copied c.args.after) cut pages found c.cut_after-cut.ensures beside_is place (sym c.first_behind.ensures.first ∙ c.in_default.is)

-- the leaf behind the key was reached, which is the last, and no entry of it is after the key
pub returns-in-None-clause-told : goal.returns-in-None-clause-told
returns-in-None-clause-told g c =
    let along = c.in_ok-found.ensures.found in
    let found : FoundLeaf = with_beside c.in_ok-found.found along.way in
    let goes = goes_from_top g.T.Pages c.cut_after-cut.result c.top.result c.args.t.now c.leaf_below.new.t c.in_ok-found.found c.top.ensures along in
    let same = sym (c.way_again-way.ensures along.way goes) in
    let beside_is : found.next ≡ None = ap (λ (w : Way). w.next) same ∙ c.in-None.is in
    let old = g.T.Pages.step c.args.t.now in
    let s = g.T.Pages.step c.leaf_below.new.t in
    let after = option_copied c.args.after in
    let cut = c.cut_after-cut.result in
    let e = along.found in
    let leaf : Child = e.from.0 in
    let led = e.from.1 in
    let at = leaf_by old s (is_before cut) 0 c.top.result found e.reached e.used c.in_ok-found.ensures.calls.looks.spares e.leaf leaf led refl c.top.ensures in
    record {
      leaf = leaf;
      entries = found.entries;
      at = subst (λ (k : Cut). IsLeafBy s (is_before k) leaf found.entries) c.cut_after-cut.ensures at;
      last = subst (λ (o : Option Neighbour). EndsBeside c.top.result.high o leaf.high) beside_is led.high ∙ ap (λ (d : Child). d.high) c.top.ensures;
      none = sym (cut_tests after cut c.cut_after-cut.ensures found.entries) ∙ sym c.first_behind.ensures.first ∙ c.in_default.is;
    }

-- the first entry behind the key, in that leaf or the one right of it
pub returns-in-Some-clause-told : goal.returns-in-Some-clause-told
returns-in-Some-clause-told g c =
    let along = c.in_ok-found.ensures.found in
    let found : FoundLeaf = with_beside c.in_ok-found.found along.way in
    let old = g.T.Pages.step c.args.t.now in
    let s = g.T.Pages.step c.leaf_below.new.t in
    let after = option_copied c.args.after in
    let cut = c.cut_after-cut.result in
    let spares = c.in_ok-found.ensures.calls.looks.spares in
    let e = along.found in
    let leaf : Child = e.from.0 in
    let f : FoundEntry = record { entry = c.in-Some.entry; page = found.page } in
    let first = sym c.first_behind.ensures.first ∙ c.in-Some.is in
    let there = stands_in old s found.page found.entries f.entry e.reached e.used spares e.leaf (find_contains (λ x. not (is_before cut x.key)) found.entries f.entry first) in
    let at = leaf_by old s (is_before cut) 0 c.top.result found e.reached e.used spares e.leaf leaf e.from.1 refl c.top.ensures in
    let is = sym (cut_tests after cut c.cut_after-cut.ensures found.entries) ∙ first in
    record {
      there = there;
      way = led_to s c.top.result f c.top.ensures e.way;
      entry = good_entry s f there;
      fits = subst (λ (o : Option Entry). IfSome o FitsEntry) c.in-Some.is c.first_behind.ensures.fits;
      suits = record {
        next = record {
          leaf = leaf;
          entries = found.entries;
          at = subst (λ (k : Cut). IsLeafBy s (is_before k) leaf found.entries) c.cut_after-cut.ensures at;
          first = subst (λ (o : Option Entry). MatchOption o (HasRight s leaf f.entry) (λ x. x ≡ f.entry)) (sym is) refl;
        };
        later = later_in_leaf after cut found.entries f.entry c.cut_after-cut.ensures first;
      };
    }

pub returns-in_ok-first_below-in-Some-next-clause-told : goal.returns-in_ok-first_below-in-Some-next-clause-told
returns-in_ok-first_below-in-Some-next-clause-told g c =
    let along = c.in_ok-found.ensures.found in
    let found : FoundLeaf = with_beside c.in_ok-found.found along.way in
    let goes = goes_from_top g.T.Pages c.cut_after-cut.result c.top.result c.args.t.now c.leaf_below.new.t c.in_ok-found.found c.top.ensures along in
    let same = sym (c.way_again-way.ensures along.way goes) in
    let beside_is : found.next ≡ Some c.in-Some-next.next = ap (λ (w : Way). w.next) same ∙ c.in-Some-next.is in
    let mid = g.T.Pages.step c.leaf_below.new.t in
    let s = g.T.Pages.step c.first_below.new.t in
    let after = option_copied c.args.after in
    let cut = c.cut_after-cut.result in
    let e = along.found in
    let looks = c.in_ok-first_below-in-Some-next.ensures.calls.looks in
    let n : Neighbour = c.in-Some-next.next in
    let f = c.in_ok-first_below-in-Some-next.field-0 in
    let second = subst (λ (m : Neighbour). IsFirstBelow s m f) c.in-Some-next.next-is c.in_ok-first_below-in-Some-next.ensures.found in
    let leaf : Child = e.from.0 in
    let at = leaf_by (g.T.Pages.step c.args.t.now) mid (is_before cut) 0 c.top.result found e.reached e.used c.in_ok-found.ensures.calls.looks.spares e.leaf leaf e.from.1 refl c.top.ensures in
    let is = sym (cut_tests after cut c.cut_after-cut.ensures found.entries) ∙ sym c.first_behind.ensures.first ∙ c.in_default.is in
    let begins = subst (λ (o : Option Neighbour). IfSome o (BeginsBehindPlace (is_before cut))) beside_is e.next in
    record {
      there = second.there;
      way = led_next mid s c.top.result found c.top.ensures looks e.beside n f second.way beside_is;
      entry = good_entry s f second.there;
      fits = second.fits;
      suits = record {
        next = record {
          leaf = leaf;
          entries = found.entries;
          at = subst (λ (k : Cut). IsLeafBy s (is_before k) leaf found.entries) c.cut_after-cut.ensures (leaf_later mid s (is_before cut) leaf found.entries looks at);
          first = subst (λ (o : Option Entry). MatchOption o (HasRight s leaf f.entry) (λ x. x ≡ f.entry)) (sym is)
              (right_of mid s c.top.result leaf found n f.entry c.top.ensures looks e.beside beside_is e.from.1.high second.beside);
        };
        later = later_in_next after cut n f.entry c.cut_after-cut.ensures begins second.least;
      };
    }

pub returns-in_ok-first_below-in-Some-next-clause-calls : goal.returns-in_ok-first_below-in-Some-next-clause-calls
returns-in_ok-first_below-in-Some-next-clause-calls g c = reaches_then g.T.Pages g.met.T.Pages.then c.args.t.now c.leaf_below.new.t c.first_below.new.t c.in_ok-found.ensures.calls c.in_ok-first_below-in-Some-next.ensures.calls

-- ---- no leaf is reached

pub returns-in_err-found : goal.returns-in_err-found
returns-in_err-found g c =
    let s = g.T.Pages.step c.leaf_below.new.t in
    let fault = c.in_err-found.field-0.0 in
    let failed = c.in_err-found.ensures in
    let breaks = top_breaks s fault c.top.result c.top.ensures failed.failed.cause in
    let p = err_from_is_err_and c.from_residual.result c.from_residual.ensures.1 in
    rw (p.1, p.2) (record {
      calls = failed.calls;
      reaches = omega (arith, failed.reaches);
      told = tt;
      found = tt;
      failed = record {
        among = λ some. fails_among {X = ℕ} (Err fault) s (BarsTable s) (length (g.T.Pages.step c.args.t.now).images) failed.calls.looks.count some breaks;
        cause = breaks;
        shown = shown_top s fault c.top.result c.top.ensures failed.failed.shown;
      };
    })

pub returns-in_err-first_below-in-Some-next : goal.returns-in_err-first_below-in-Some-next
returns-in_err-first_below-in-Some-next g c =
    let along = c.in_ok-found.ensures.found in
    let found : FoundLeaf = with_beside c.in_ok-found.found along.way in
    let goes = goes_from_top g.T.Pages c.cut_after-cut.result c.top.result c.args.t.now c.leaf_below.new.t c.in_ok-found.found c.top.ensures along in
    let same = sym (c.way_again-way.ensures along.way goes) in
    let beside_is : found.next ≡ Some c.in-Some-next.next = ap (λ (w : Way). w.next) same ∙ c.in-Some-next.is in
    let mid = c.leaf_below.new.t in
    let new = c.first_below.new.t in
    let s = g.T.Pages.step new in
    let fault = c.in_err-first_below-in-Some-next.field-0.0 in
    let n : Neighbour = c.in-Some-next.next in
    let looked = c.in_ok-found.ensures in
    let failed = c.in_err-first_below-in-Some-next.ensures in
    let looks = failed.calls.looks in
    let beside = along.found.beside s.images (agrees_before (g.T.Pages.step mid) s s.images looks (agrees_now s)) in
    let why = subst (λ (n : Neighbour). FailsBeside s n fault) c.in-Some-next.next-is failed.failed in
    let breaks = next_breaks s c.top.result found c.top.ensures beside n fault why.cause beside_is in
    let p = err_from_is_err_and c.from_residual-in_err-first_below-in-Some-next.result c.from_residual-in_err-first_below-in-Some-next.ensures.1 in
    rw (p.1, p.2) (record {
      calls = reaches_then g.T.Pages g.met.T.Pages.then c.args.t.now mid new looked.calls failed.calls;
      reaches = omega (arith, looked.reaches, failed.reaches);
      told = tt;
      found = tt;
      failed = record {
        among = λ some. fails_among {X = ℕ} (Err fault) s (BarsTable s) (length (g.T.Pages.step c.args.t.now).images) (looks.count ∙ looked.calls.looks.count) some breaks;
        cause = breaks;
        shown = shown_next (g.T.Pages.step mid) s c.top.result found c.top.ensures looks along.found.beside n beside_is fault why.shown;
      };
    })
