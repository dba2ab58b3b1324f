use Rattle.std.proofs.Common.{◌≡◌, ◌∙◌, ◌⊎◌, ◌-◌, inl, inr, length, refl, sym, ap, subst, false, List, ℕ, Option, Some, None, arith}
use Rattle.std.specs.Prelude.{Err, IfSome}
use Rattle.std.specs.Option.{MatchOption}
use Rattle.fsd_formats.specs.declared.entry.Entry.{Entry}
use Rattle.fsd_formats.specs.NamePage.{FitsEntry}
use Rattle.name_btree.specs.declared.lookup.FoundEntry.{FoundEntry}
use Rattle.name_btree.specs.Lookup.{BeginsBeside, HasOtherLeft, IsLastBeside, IsLeafBy, IsLedBeside, IsMetAs, ShowsNoVersion}
use Rattle.name_btree.proofs.ways.ChildLaws.{leaf_by, leaf_later, other_left}
use Rattle.name_btree.proofs.finding.LookupLaws.{last_contains, stands_in, good_entry, led_to, led_previous, if_named, named_entry, one_name, told_named}
use Rattle.fsd_table.specs.declared.child.Child.{Child}
use Rattle.name_page.specs.declared.cut.Cut.TheVariants.{Named}
use Rattle.name_page.specs.Cut.{is_before}
use Rattle.name_btree.specs.declared.descent.Neighbour.{Neighbour}
use Rattle.name_page.specs.Looks.{ShowsEach}
use Rattle.name_page.proofs.LookLaws.{reaches_then, shows_trusted, agrees_before, agrees_now}
use Rattle.name_btree.specs.Fault.{BarsTable, FailsBeside}
use Rattle.name_btree.specs.Descent.{with_beside, FoundLeaf, IsLeafOfPlace, EndsWithEntry}
use Rattle.name_page.specs.Lookups.{last_that, same_name}
use Rattle.name_btree.proofs.finding.HighestLaws.{highest_in_leaf, highest_at_start, highest_in_previous}
use Rattle.std.proofs.lemmas.Result.{err_from_is_err_and}
use Rattle.name_btree.proofs.ways.VisitedLaws.{shown_previous, shown_top, top_breaks, previous_breaks}
use Rattle.name_btree.proofs.ways.ReachLaws.{fails_among}
use Rattle.fsd_table.specs.Pages.{page_at}
use Rattle.fsd_table.specs.Table.{max_height}
use Rattle.name_page.proofs.LookLaws.{memory_then}
use Rattle.name_btree.specs.Path.{met_beside, HasAll, HasWayTo, Leads}
use Rattle.name_btree.proofs.ways.ResidentLaws.{beside_later, led_beside, led_here, none_before, path_met}
use Rattle.name_btree.specs.declared.descent.Way.{Way}
use Rattle.name_btree.proofs.ways.AlongLaws.{goes_from_top}
use Rattle.name_btree.proofs.lookup.highest.Goals as goal

pub way_again-way-requires : goal.way_again-way-requires
way_again-way-requires g c =
    let along = c.in_ok-found.ensures.found in
    (along.way, goes_from_top g.T.Pages (Named c.copied.result) c.top.result c.args.t.now c.leaf_below.new.t c.in_ok-found.found c.top.ensures along)

pub returns-in-Some-clause-found : goal.returns-in-Some-clause-found
returns-in-Some-clause-found g c = λ trusted height t.
    let along = c.in_ok-found.ensures.found in
    let found : FoundLeaf = with_beside c.in_ok-found.found along.way in
    let pages = (g.T.Pages.step c.args.t.now).images in
    let name = c.args.name.now in
    let Q : List (List ℕ) → Type 0 = λ (x : List (List ℕ)). IsLeafOfPlace (is_before (Named c.copied.result)) x c.top.result found in
    let seen : Q pages = shows_trusted g.T.Pages Q c.args.t.now c.leaf_below.new.t c.in_ok-found.ensures.calls along.found.place trusted in
    let by_name : List ℕ → Type 0 = λ (n : List ℕ). IsLeafOfPlace (is_before (Named n)) pages c.top.result found in
    let by_top : Child → Type 0 = λ (d : Child). IsLeafOfPlace (is_before (Named name)) pages d found in
    let place = subst by_top c.top.ensures (subst by_name c.copied.ensures seen) in
    let last = ap (λ (n : List ℕ). last_that (λ x. is_before (Named n) x.key) found.entries) (sym c.copied.ensures) ∙ sym c.last_before.ensures.last ∙ c.in-Some.is in
    named_entry (record { entry = c.in-Some.entry; page = found.page }) (same_name c.in-Some.entry.key.name name) c.named.result c.named.ensures ∙ highest_in_leaf name pages found c.in-Some.entry place last height t

pub returns-in_ok-last_below-in-Some-previous-clause-found : goal.returns-in_ok-last_below-in-Some-previous-clause-found
returns-in_ok-last_below-in-Some-previous-clause-found g c = λ trusted height t.
    let along = c.in_ok-found.ensures.found in
    let found : FoundLeaf = with_beside c.in_ok-found.found along.way in
    let goes = goes_from_top g.T.Pages (Named c.copied.result) c.top.result c.args.t.now c.leaf_below.new.t c.in_ok-found.found c.top.ensures along in
    let same = sym (c.way_again-way.ensures along.way goes) in
    let beside_is : found.previous ≡ Some c.in-Some-previous.previous = ap (λ (w : Way). w.previous) same ∙ c.in-Some-previous.is in
    let second = c.in_ok-last_below-in-Some-previous.ensures in
    let pages = (g.T.Pages.step c.args.t.now).images in
    let name = c.args.name.now in
    let Q : List (List ℕ) → Type 0 = λ (x : List (List ℕ)). IsLeafOfPlace (is_before (Named c.copied.result)) x c.top.result found in
    let seen : Q pages = shows_trusted g.T.Pages Q c.args.t.now c.leaf_below.new.t c.in_ok-found.ensures.calls along.found.place (second.calls.trust trusted) in
    let by_name : List ℕ → Type 0 = λ (n : List ℕ). IsLeafOfPlace (is_before (Named n)) pages c.top.result found in
    let by_top : Child → Type 0 = λ (d : Child). IsLeafOfPlace (is_before (Named name)) pages d found in
    let place = subst by_top c.top.ensures (subst by_name c.copied.ensures seen) in
    let last = ap (λ (n : List ℕ). last_that (λ x. is_before (Named n) x.key) found.entries) (sym c.copied.ensures) ∙ sym c.last_before.ensures.last ∙ c.in_default.is in
    let e = c.in_ok-last_below-in-Some-previous.field-0.entry in
    let new = c.last_below.new.t in
    let both = reaches_then g.T.Pages g.met.T.Pages.then c.args.t.now c.leaf_below.new.t new c.in_ok-found.ensures.calls second.calls in
    let B : Neighbour → Type 0 = λ (n : Neighbour). ShowsEach (g.T.Pages.step new) (λ x. EndsWithEntry x n.child e) in
    let here : B c.in-Some-previous.previous = subst B c.in-Some-previous.previous-is second.found.last in
    let end = shows_trusted g.T.Pages (λ x. EndsWithEntry x c.in-Some-previous.previous.child e) c.args.t.now new both here trusted in
    named_entry c.in_ok-last_below-in-Some-previous.field-0 (same_name e.key.name name) c.named-in-Some-previous.result c.named-in-Some-previous.ensures ∙ highest_in_previous name pages found c.in-Some-previous.previous e beside_is place end last height t

pub returns-in-None-clause-found : goal.returns-in-None-clause-found
returns-in-None-clause-found g c = λ trusted height t.
    let along = c.in_ok-found.ensures.found in
    let found : FoundLeaf = with_beside c.in_ok-found.found along.way in
    let goes = goes_from_top g.T.Pages (Named c.copied.result) c.top.result c.args.t.now c.leaf_below.new.t c.in_ok-found.found c.top.ensures along in
    let same = sym (c.way_again-way.ensures along.way goes) in
    let beside_is : found.previous ≡ None = ap (λ (w : Way). w.previous) same ∙ c.in-None.is in
    let pages = (g.T.Pages.step c.args.t.now).images in
    let name = c.args.name.now in
    let Q : List (List ℕ) → Type 0 = λ (x : List (List ℕ)). IsLeafOfPlace (is_before (Named c.copied.result)) x c.top.result found in
    let seen : Q pages = shows_trusted g.T.Pages Q c.args.t.now c.leaf_below.new.t c.in_ok-found.ensures.calls along.found.place trusted in
    let by_name : List ℕ → Type 0 = λ (n : List ℕ). IsLeafOfPlace (is_before (Named n)) pages c.top.result found in
    let by_top : Child → Type 0 = λ (d : Child). IsLeafOfPlace (is_before (Named name)) pages d found in
    let place = subst by_top c.top.ensures (subst by_name c.copied.ensures seen) in
    let last = ap (λ (n : List ℕ). last_that (λ x. is_before (Named n) x.key) found.entries) (sym c.copied.ensures) ∙ sym c.last_before.ensures.last ∙ c.in_default.is in
    highest_at_start name pages found beside_is place last height t

pub returns-in-Some-clause-told : goal.returns-in-Some-clause-told
returns-in-Some-clause-told g c =
    let along = c.in_ok-found.ensures.found in
    let found : FoundLeaf = with_beside c.in_ok-found.found along.way in
    let old = g.T.Pages.step c.args.t.now in
    let s = g.T.Pages.step c.leaf_below.new.t in
    let name = c.args.name.now in
    let spares = c.in_ok-found.ensures.calls.looks.spares in
    let e = along.found in
    let leaf : Child = e.from.0 in
    let f : FoundEntry = record { entry = c.in-Some.entry; page = found.page } in
    let is = sym c.last_before.ensures.last ∙ c.in-Some.is in
    let there = stands_in old s found.page found.entries c.in-Some.entry e.reached e.used spares e.leaf (last_contains (λ x. is_before (Named c.copied.result) x.key) found.entries c.in-Some.entry is) in
    let at = leaf_by old s (is_before (Named c.copied.result)) 0 c.top.result found e.reached e.used spares e.leaf leaf e.from.1 refl c.top.ensures in
    let last = ap (λ (n : List ℕ). last_that (λ x. is_before (Named n) x.key) found.entries) (sym c.copied.ensures) ∙ is in
    told_named (ShowsNoVersion s name) (IsMetAs s (λ x. x.key.name ≡ name)) f (same_name f.entry.key.name name) c.named.result c.named.ensures
    (λ same. record {
      there = there;
      way = led_to s c.top.result f c.top.ensures e.way;
      entry = good_entry s f there;
      fits = subst (λ (o : Option Entry). IfSome o FitsEntry) c.in-Some.is c.last_before.ensures.fits;
      suits = one_name f.entry.key.name name same;
    })
    (λ other. record {
      leaf = leaf;
      entries = found.entries;
      at = subst (λ (n : List ℕ). IsLeafBy s (is_before (Named n)) leaf found.entries) c.copied.ensures at;
      other = subst (λ (o : Option Entry). MatchOption o ((leaf.low ≡ None) ⊎ HasOtherLeft s name leaf) (λ x. same_name x.key.name name ≡ false)) (sym last) other;
    })

pub returns-in_ok-last_below-in-Some-previous-clause-told : goal.returns-in_ok-last_below-in-Some-previous-clause-told
returns-in_ok-last_below-in-Some-previous-clause-told g c =
    let along = c.in_ok-found.ensures.found in
    let found : FoundLeaf = with_beside c.in_ok-found.found along.way in
    let goes = goes_from_top g.T.Pages (Named c.copied.result) c.top.result c.args.t.now c.leaf_below.new.t c.in_ok-found.found c.top.ensures along in
    let same = sym (c.way_again-way.ensures along.way goes) in
    let beside_is : found.previous ≡ Some c.in-Some-previous.previous = ap (λ (w : Way). w.previous) same ∙ c.in-Some-previous.is in
    let mid = g.T.Pages.step c.leaf_below.new.t in
    let s = g.T.Pages.step c.last_below.new.t in
    let name = c.args.name.now in
    let e = along.found in
    let looks = c.in_ok-last_below-in-Some-previous.ensures.calls.looks in
    let second = c.in_ok-last_below-in-Some-previous.ensures.found in
    let n : Neighbour = c.in-Some-previous.previous in
    let leaf : Child = e.from.0 in
    let f = c.in_ok-last_below-in-Some-previous.field-0 in
    let led = subst (λ (n : Neighbour). IsLedBeside s n f) c.in-Some-previous.previous-is second.way in
    let at = leaf_by (g.T.Pages.step c.args.t.now) mid (is_before (Named c.copied.result)) 0 c.top.result found e.reached e.used c.in_ok-found.ensures.calls.looks.spares e.leaf leaf e.from.1 refl c.top.ensures in
    let last = ap (λ (n : List ℕ). last_that (λ x. is_before (Named n) x.key) found.entries) (sym c.copied.ensures) ∙ sym c.last_before.ensures.last ∙ c.in_default.is in
    let beside = subst (λ (n : Neighbour). IsLastBeside s n f.entry) c.in-Some-previous.previous-is second.beside in
    told_named (ShowsNoVersion s name) (IsMetAs s (λ x. x.key.name ≡ name)) f (same_name f.entry.key.name name) c.named-in-Some-previous.result c.named-in-Some-previous.ensures
    (λ same. record {
      there = second.there;
      way = led_previous mid s c.top.result found c.top.ensures looks e.beside n f led beside_is;
      entry = good_entry s f second.there;
      fits = second.fits;
      suits = one_name f.entry.key.name name same;
    })
    (λ other. record {
      leaf = leaf;
      entries = found.entries;
      at = subst (λ (n : List ℕ). IsLeafBy s (is_before (Named n)) leaf found.entries) c.copied.ensures (leaf_later mid s (is_before (Named c.copied.result)) leaf found.entries looks at);
      other = subst (λ (o : Option Entry). MatchOption o ((leaf.low ≡ None) ⊎ HasOtherLeft s name leaf) (λ x. same_name x.key.name name ≡ false)) (sym last)
          (inr (other_left mid s name c.top.result leaf found n f.entry c.top.ensures looks e.beside beside_is e.from.1.low beside other));
    })

pub returns-in-None-clause-told : goal.returns-in-None-clause-told
returns-in-None-clause-told g c =
    let along = c.in_ok-found.ensures.found in
    let found : FoundLeaf = with_beside c.in_ok-found.found along.way in
    let goes = goes_from_top g.T.Pages (Named c.copied.result) c.top.result c.args.t.now c.leaf_below.new.t c.in_ok-found.found c.top.ensures along in
    let same = sym (c.way_again-way.ensures along.way goes) in
    let beside_is : found.previous ≡ None = ap (λ (w : Way). w.previous) same ∙ c.in-None.is in
    let s = g.T.Pages.step c.leaf_below.new.t in
    let name = c.args.name.now in
    let e = along.found in
    let leaf : Child = e.from.0 in
    let at = leaf_by (g.T.Pages.step c.args.t.now) s (is_before (Named c.copied.result)) 0 c.top.result found e.reached e.used c.in_ok-found.ensures.calls.looks.spares e.leaf leaf e.from.1 refl c.top.ensures in
    let last = ap (λ (n : List ℕ). last_that (λ x. is_before (Named n) x.key) found.entries) (sym c.copied.ensures) ∙ sym c.last_before.ensures.last ∙ c.in_default.is in
    let first : leaf.low ≡ None = subst (λ (o : Option Neighbour). BeginsBeside c.top.result.low o leaf.low) beside_is e.from.1.low ∙ ap (λ (d : Child). d.low) c.top.ensures in
    record {
      leaf = leaf;
      entries = found.entries;
      at = subst (λ (n : List ℕ). IsLeafBy s (is_before (Named n)) leaf found.entries) c.copied.ensures at;
      other = subst (λ (o : Option Entry). MatchOption o ((leaf.low ≡ None) ⊎ HasOtherLeft s name leaf) (λ x. same_name x.key.name name ≡ false)) (sym last) (inl first);
    }

pub returns-in_ok-last_below-in-Some-previous-clause-calls : goal.returns-in_ok-last_below-in-Some-previous-clause-calls
returns-in_ok-last_below-in-Some-previous-clause-calls g c = reaches_then g.T.Pages g.met.T.Pages.then c.args.t.now c.leaf_below.new.t c.last_below.new.t c.in_ok-found.ensures.calls c.in_ok-last_below-in-Some-previous.ensures.calls

-- ---- memory is not wanting

pub returns-in-Some-clause-memory : goal.returns-in-Some-clause-memory
returns-in-Some-clause-memory g c = λ has.
    let along = c.in_ok-found.ensures.found in
    let found : FoundLeaf = with_beside c.in_ok-found.found along.way in
    let P = g.T.Pages in
    let leaf = found in
    let f : FoundEntry = record { entry = c.in-Some.entry; page = leaf.page } in
    let met = along.stays (path_met P c.args.t.now c.args.name.now c.copied.result c.top.result c.copied.ensures c.top.ensures has) in
    record {
      none = met.none;
      back = if_named (λ x. HasWayTo P x.entry c.leaf_below.new.t) f (same_name f.entry.key.name c.args.name.now) c.named.result c.named.ensures
          (λ same. led_here P c.leaf_below.new.t c.top.result leaf f.entry c.top.ensures met.back
          (last_contains (λ x. is_before (Named c.copied.result) x.key) leaf.entries f.entry (sym c.last_before.ensures.last ∙ c.in-Some.is)));
    }

pub returns-in-None-clause-memory : goal.returns-in-None-clause-memory
returns-in-None-clause-memory g c = λ has. record { none = c.in_ok-found.ensures.memory (path_met g.T.Pages c.args.t.now c.args.name.now c.copied.result c.top.result c.copied.ensures c.top.ensures has); back = tt }

pub returns-in_ok-last_below-in-Some-previous-clause-memory : goal.returns-in_ok-last_below-in-Some-previous-clause-memory
returns-in_ok-last_below-in-Some-previous-clause-memory g c = λ has.
    let along = c.in_ok-found.ensures.found in
    let found : FoundLeaf = with_beside c.in_ok-found.found along.way in
    let goes = goes_from_top g.T.Pages (Named c.copied.result) c.top.result c.args.t.now c.leaf_below.new.t c.in_ok-found.found c.top.ensures along in
    let same = sym (c.way_again-way.ensures along.way goes) in
    let beside_is : found.previous ≡ Some c.in-Some-previous.previous = ap (λ (w : Way). w.previous) same ∙ c.in-Some-previous.is in
    let P = g.T.Pages in
    let old = c.args.t.now in
    let mid = c.leaf_below.new.t in
    let new = c.last_below.new.t in
    let f = c.in_ok-last_below-in-Some-previous.field-0 in
    let met = along.stays (path_met P old c.args.name.now c.copied.result c.top.result c.copied.ensures c.top.ensures has) in
    let none = none_before (is_before (Named c.copied.result)) found.entries (sym c.last_before.ensures.last ∙ c.in_default.is) in
    let Left : Option Neighbour → Type 0 = λ (o : Option Neighbour). HasAll P mid (met_beside (page_at (P.step mid).images) o) in
    let left : Left (Some c.in-Some-previous.previous) = subst Left beside_is (beside_later P old mid met.none found.previous (met.left none)) in
    let here = subst (λ (n : Neighbour). Left (Some n)) (sym c.in-Some-previous.previous-is) left in
    let second = c.in_ok-last_below-in-Some-previous.ensures.memory here in
    let lead = subst (λ (n : Neighbour). Leads P (max_height - n.above) new f.entry n.child) c.in-Some-previous.previous-is second.back in
    record {
      none = memory_then P old mid new met.none second.none;
      back = if_named (λ x. HasWayTo P x.entry new) f (same_name f.entry.key.name c.args.name.now) c.named-in-Some-previous.result c.named-in-Some-previous.ensures
          (λ same. led_beside P mid new c.top.result found c.in-Some-previous.previous f.entry c.top.ensures beside_is second.none met.back lead);
    }

-- ---- no leaf is reached

pub returns-in_err-found : goal.returns-in_err-found
returns-in_err-found g c =
    let s = g.T.Pages.step c.leaf_below.new.t in
    let fault = c.in_err-found.field-0.0 in
    let failed = c.in_err-found.ensures in
    let breaks = top_breaks s fault c.top.result c.top.ensures failed.failed.cause in
    let p = err_from_is_err_and c.from_residual.result c.from_residual.ensures.1 in
    rw (p.1, p.2) (record {
      calls = failed.calls;
      reaches = omega (arith, failed.reaches);
      memory = λ has. record { none = failed.memory (path_met g.T.Pages c.args.t.now c.args.name.now c.copied.result c.top.result c.copied.ensures c.top.ensures has); back = tt };
      told = tt;
      found = tt;
      failed = record {
        among = λ some. fails_among {X = ℕ} (Err fault) s (BarsTable s) (length (g.T.Pages.step c.args.t.now).images) failed.calls.looks.count some breaks;
        cause = breaks;
        shown = shown_top s fault c.top.result c.top.ensures failed.failed.shown;
      };
    })

pub returns-in_err-last_below-in-Some-previous : goal.returns-in_err-last_below-in-Some-previous
returns-in_err-last_below-in-Some-previous g c =
    let along = c.in_ok-found.ensures.found in
    let found : FoundLeaf = with_beside c.in_ok-found.found along.way in
    let goes = goes_from_top g.T.Pages (Named c.copied.result) c.top.result c.args.t.now c.leaf_below.new.t c.in_ok-found.found c.top.ensures along in
    let same = sym (c.way_again-way.ensures along.way goes) in
    let beside_is : found.previous ≡ Some c.in-Some-previous.previous = ap (λ (w : Way). w.previous) same ∙ c.in-Some-previous.is in
    let P = g.T.Pages in
    let old = c.args.t.now in
    let mid = c.leaf_below.new.t in
    let new = c.last_below.new.t in
    let s = P.step new in
    let fault = c.in_err-last_below-in-Some-previous.field-0.0 in
    let n : Neighbour = c.in-Some-previous.previous in
    let looked = c.in_ok-found.ensures in
    let failed = c.in_err-last_below-in-Some-previous.ensures in
    let looks = failed.calls.looks in
    let beside = along.found.beside s.images (agrees_before (P.step mid) s s.images looks (agrees_now s)) in
    let why = subst (λ (n : Neighbour). FailsBeside s n fault) c.in-Some-previous.previous-is failed.failed in
    let breaks = previous_breaks s c.top.result found c.top.ensures beside n fault why.cause beside_is in
    let p = err_from_is_err_and c.from_residual-in_err-last_below-in-Some-previous.result c.from_residual-in_err-last_below-in-Some-previous.ensures.1 in
    rw (p.1, p.2) (record {
      calls = reaches_then P g.met.T.Pages.then old mid new looked.calls failed.calls;
      reaches = omega (arith, looked.reaches, failed.reaches);
      memory = λ has.
          let met = along.stays (path_met P old c.args.name.now c.copied.result c.top.result c.copied.ensures c.top.ensures has) in
          let none = none_before (is_before (Named c.copied.result)) found.entries (sym c.last_before.ensures.last ∙ c.in_default.is) in
          let Left : Option Neighbour → Type 0 = λ (o : Option Neighbour). HasAll P mid (met_beside (page_at (P.step mid).images) o) in
          let left : Left (Some n) = subst Left beside_is (beside_later P old mid met.none found.previous (met.left none)) in
          let here = subst (λ (m : Neighbour). Left (Some m)) (sym c.in-Some-previous.previous-is) left in
          record { none = memory_then P old mid new met.none (failed.memory here).none; back = tt };
      told = tt;
      found = tt;
      failed = record {
        among = λ some. fails_among {X = ℕ} (Err fault) s (BarsTable s) (length (P.step old).images) (looks.count ∙ looked.calls.looks.count) some breaks;
        cause = breaks;
        shown = shown_previous (P.step mid) s c.top.result found c.top.ensures looks along.found.beside n beside_is fault why.shown;
      };
    })
