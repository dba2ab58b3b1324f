use Rattle.std.proofs.Common.{◌≡◌, ◌∙◌, ◌+◌, ◌*◌, ◌-◌, ◌≤◌, ℕ, Bool, suc, List, Option, Some, length, true, false, refl, sym, ap, subst, arith, rules}
use Rattle.std.proofs.lemmas.Result.{err_from_is_err_and}
use Rattle.fsd_bytes.specs.declared.refusal.Refusal.{Refusal}
use Rattle.fsd_formats.specs.NamePage.{Leaf, Interior, is_page}
use Rattle.fsd_forest.specs.Parts.{is_inside}
use Rattle.fsd_table.specs.declared.child.Child.{Child}
use Rattle.fsd_table.specs.Pages.{page_at, content_fits, keys_fit, separator_keys}
use Rattle.fsd_table.proofs.PageLaws.{at_is_page}
use Rattle.name_page.specs.Pages.{with_images, is_spare, changes}
use Rattle.name_page.specs.Looks.{ShowsEach, OnlyReaches}
use Rattle.name_page.proofs.LookLaws.{reaches_then, reaches_takes, takes_takes, agrees_now, agrees_before}
use Rattle.name_page.specs.declared.node.Node.{Node}
use Rattle.name_page.specs.Node.{content_of}
use Rattle.name_btree.specs.Draft.{drafted}
use Rattle.name_btree.specs.Fault.{outer_told, FailsBy, IsMisfit}
use Rattle.name_btree.specs.Grown.{most_taken, IsDivided, Grows, GrowsBelow, GrowsLeaf, BreaksGrowth, RefusesEntry}
use Rattle.name_btree.proofs.steps.CauseLaws.{fails_by_map, broken_by, on_err_same}
use Rattle.name_btree.proofs.drafts.DraftLaws.{drafted_length}
use Rattle.name_btree.proofs.growth.StepLaws.{above_grows, few_above}
use Rattle.name_btree.proofs.drafts.ReachedLaws.{takes_looked, reached_over}
use Rattle.name_btree.proofs.drafts.TakeLaws.{used_over}
use Rattle.name_btree.proofs.steps.ResultLaws.{on_err}
use Rattle.name_btree.proofs.growth.InsertLaws.{middle_is, inside_middle, least_taken, misfit_growth, growth_below, zero_below, leaf_grows, leaf_growth, ok_grows, on_grows, err_grows, grows_looked}
use Rattle.name_btree.proofs.drafts.SheetLaws.{sheets_looked, sheets_then}
use Rattle.name_btree.proofs.inserting.+insert_below.Goals as goal

pub returns-in_err-entries : goal.returns-in_err-entries
returns-in_err-entries g t c =
    let sheets = c.args.draft.now.sheets.items in
    let child = c.args.child.now in
    let new = c.child_node.new.t in
    let found = c.in_err-entries.ensures in
    let p = err_from_is_err_and c.from_residual.result c.from_residual.ensures.1 in
    rw (p.1, p.2) (record {
      calls = reaches_takes g.T.Pages c.args.t.now new found.calls;
      failed = found.calls;
      reaches = omega (arith, found.reaches);
      drafted = tt;
      grown = tt;
      fault = fails_by_map (g.T.Pages.step new) (λ pages. IsMisfit (drafted sheets pages) child) (λ pages. BreaksGrowth c.args.entry.now (drafted sheets pages) c.args.levels child)
          (λ images page is h. misfit_growth c.args.entry.now (drafted sheets images) c.args.levels child page h) c.in_err-entries.field-0.0 found.fault;
    })

pub returns-then-below-eq0 : goal.returns-then-below-eq0
returns-then-below-eq0 g t c =
    let sheets = c.args.draft.now.sheets.items in
    let child = c.args.child.now in
    let e = c.args.entry.now in
    let ways = c.in-Interior.ways in
    let i = c.ways_before-i.result in
    let looked = c.in_ok-entries.ensures in
    record {
      calls = reaches_takes g.T.Pages c.args.t.now c.child_node.new.t looked.calls;
      failed = looked.calls;
      reaches = omega (arith, looked.reaches);
      drafted = tt;
      grown = tt;
      fault = λ images agrees.
          let pages = drafted sheets images in
          let at : page_at pages child.page ≡ Some (Interior ways.0 ways.1) = looked.read.node images agrees ∙ ap (λ (n : Node). Some (content_of n)) c.in-Interior.is in
          let m = middle_is e.key c.copied.result pages child c.child_at-below.result ways.0 ways.1 i at c.copied.ensures c.ways_before-i.ensures.within c.ways_before-i.ensures.before c.ways_before-i.ensures.behind c.child_at-below.ensures in
          zero_below e pages c.args.levels child ways.0 ways.1 i 0 at m.around (ap (λ (d : Child). d.page) (sym m.is) ∙ c.if-below-eq0.true);
    }

pub insert_here-requires : goal.insert_here-requires
insert_here-requires g t c =
    let child = c.args.child.now in
    let looked = c.in_ok-entries.ensures in
    let looks = looked.calls.looks in
    record {
      promised = omega (arith, looks.promised, c.requires.promised);
      more = omega (arith, ap length looks.changed, looks.most_changed, c.requires.changes);
      room = omega (arith, c.requires.room);
      sheets = looked.sheets;
      reached = looked.read.reached;
      used = ap (λ (x : List Bool). is_spare x child.page) looks.spares ∙ looked.read.used;
      leaf = λ images agrees. looked.read.node images agrees ∙ ap (λ (n : Node). Some (content_of n)) c.in-Leaf.is;
      keys = sym (ap (λ (n : Node). content_fits child.low child.high (Some (content_of n))) c.in-Leaf.is) ∙ looked.read.fits;
      inside = c.requires.inside;
      entry = c.requires.entry;
      fits = c.requires.fits;
    }

pub insert_below-requires : goal.insert_below-requires
insert_below-requires g t c κs within =
    let step = g.T.Pages.step c.args.t.now in
    let looked = g.T.Pages.step c.child_node.new.t in
    let sheets = c.args.draft.now.sheets.items in
    let pages = drafted sheets looked.images in
    let child = c.args.child.now in
    let e = c.args.entry.now in
    let levels = c.args.levels in
    let ways = c.in-Interior.ways in
    let i = c.ways_before-i.result in
    let at : page_at pages child.page ≡ Some (Interior ways.0 ways.1) = c.in_ok-entries.ensures.read.node looked.images (agrees_now looked) ∙ ap (λ (n : Node). Some (content_of n)) c.in-Interior.is in
    let m = middle_is e.key c.copied.result pages child c.child_at-below.result ways.0 ways.1 i at c.copied.ensures c.ways_before-i.ensures.within c.ways_before-i.ensures.before c.ways_before-i.ensures.behind c.child_at-below.ensures in
    let d = c.child_at-below.result in
    let inside : is_inside d e.key ≡ true = inside_middle e.key child d ways.0 ways.1 i m c.requires.inside in
    let takes = takes_looked step.images step looked refl c.child_node.ensures.calls.looks in
    let few = few_above child.page d.page (levels - 1) c.if-below-eq0.false in
    let promised : most_taken d.page (levels - 1) ≤ looked.promised = omega (arith, few, least_taken child.page levels, takes.promised, c.requires.promised, c.if-levels-gt0.true) in
    let more : most_taken d.page (levels - 1) ≤ changes looked = omega (arith, few, least_taken child.page levels, takes.changes, c.requires.changes, c.if-levels-gt0.true) in
    search (rules, inside, promised, more)

pub returns-in_err-grown-in-Interior : goal.returns-in_err-grown-in-Interior
returns-in_err-grown-in-Interior g t c =
    let G = g.T.Pages in
    let old = c.args.t.now in
    let mid = c.child_node.new.t in
    let new = c.insert_below.new.t in
    let sheets = c.args.draft.now.sheets.items in
    let child = c.args.child.now in
    let below = c.child_at-below.result in
    let e = c.args.entry.now in
    let ways = c.in-Interior.ways in
    let i = c.ways_before-i.result in
    let levels = c.args.levels in
    let looked = c.in_ok-entries.ensures in
    let found = c.in_err-grown-in-Interior.ensures in
    let calls = found.failed in
    let all = reaches_then G g.met.T.Pages.then old mid new looked.calls calls in
    let up : suc (levels - 1) ≡ levels = omega (arith, c.if-levels-gt0.true) in
    let p = err_from_is_err_and c.from_residual-in_err-grown-in-Interior.result c.from_residual-in_err-grown-in-Interior.ensures.1 in
    rw (p.1, p.2) (record {
      calls = reaches_takes G old new all;
      failed = all;
      reaches = omega (arith, looked.reaches, found.reaches, up);
      drafted = tt;
      grown = tt;
      fault = fails_by_map (G.step new) (λ pages. BreaksGrowth e (drafted sheets pages) (levels - 1) below) (λ pages. BreaksGrowth e (drafted sheets pages) levels child)
          (λ images page agrees h.
          let before = agrees_before (G.step mid) (G.step new) images calls.looks agrees in
          let pages = drafted sheets images in
          let at : page_at pages child.page ≡ Some (Interior ways.0 ways.1) = looked.read.node images before ∙ ap (λ (n : Node). Some (content_of n)) c.in-Interior.is in
          let m = middle_is e.key c.copied.result pages child below ways.0 ways.1 i at c.copied.ensures c.ways_before-i.ensures.within c.ways_before-i.ensures.before c.ways_before-i.ensures.behind c.child_at-below.ensures in
          let here = subst (λ (d : Child). BreaksGrowth e pages (levels - 1) d page) m.is h in
          subst (λ (n : ℕ). BreaksGrowth e pages n child page) up (growth_below e pages (levels - 1) child ways.0 ways.1 i page at m.around here)) c.in_err-grown-in-Interior.field-0.0 found.fault;
    })

pub grow_above-requires-clause-ways : goal.grow_above-requires-clause-ways
grow_above-requires-clause-ways g t c =
    let step = g.T.Pages.step c.args.t.now in
    let looked = g.T.Pages.step c.child_node.new.t in
    let sheets = c.args.draft.now.sheets.items in
    let pages = drafted sheets looked.images in
    let child = c.args.child.now in
    let e = c.args.entry.now in
    let levels = c.args.levels in
    let ways = c.in-Interior.ways in
    let i = c.ways_before-i.result in
    let at : page_at pages child.page ≡ Some (Interior ways.0 ways.1) = c.in_ok-entries.ensures.read.node looked.images (agrees_now looked) ∙ ap (λ (n : Node). Some (content_of n)) c.in-Interior.is in
    let is = at_is_page pages child.page (Interior ways.0 ways.1) at in
    let count : length pages ≡ length (g.T.Pages.step c.insert_below.new.t).images = drafted_length sheets looked.images ∙ sym c.in_ok-grown-in-Interior.ensures.calls.edits.count in
    subst (λ (n : ℕ). is_page child.page n (Interior ways.0 ways.1) ≡ true) count is

pub grow_above-requires-clause-divided : goal.grow_above-requires-clause-divided
grow_above-requires-clause-divided g t c =
    let step = g.T.Pages.step c.args.t.now in
    let looked = g.T.Pages.step c.child_node.new.t in
    let sheets = c.args.draft.now.sheets.items in
    let pages = drafted sheets looked.images in
    let child = c.args.child.now in
    let e = c.args.entry.now in
    let levels = c.args.levels in
    let ways = c.in-Interior.ways in
    let i = c.ways_before-i.result in
    let at : page_at pages child.page ≡ Some (Interior ways.0 ways.1) = c.in_ok-entries.ensures.read.node looked.images (agrees_now looked) ∙ ap (λ (n : Node). Some (content_of n)) c.in-Interior.is in
    let m = middle_is e.key c.copied.result pages child c.child_at-below.result ways.0 ways.1 i at c.copied.ensures c.ways_before-i.ensures.within c.ways_before-i.ensures.before c.ways_before-i.ensures.behind c.child_at-below.ensures in
    let between = g.T.Pages.step c.insert_below.new.t in
    subst (λ (d : Child). IsDivided d c.in_ok-grown-in-Interior.grown) m.is (c.in_ok-grown-in-Interior.ensures.grown between.images (agrees_now between)).divided

pub grow_above-requires-clause-sound : goal.grow_above-requires-clause-sound
grow_above-requires-clause-sound g t c =
    let between = g.T.Pages.step c.insert_below.new.t in
    (c.in_ok-grown-in-Interior.ensures.grown between.images (agrees_now between)).sound

pub returns-in-Leaf-clause-calls : goal.returns-in-Leaf-clause-calls
returns-in-Leaf-clause-calls g t c =
    takes_takes g.T.Pages g.met.T.Pages.then c.args.t.now c.child_node.new.t c.insert_here.new.t (reaches_takes g.T.Pages c.args.t.now c.child_node.new.t c.in_ok-entries.ensures.calls) c.insert_here.ensures.calls

pub returns-in-Leaf-clause-failed : goal.returns-in-Leaf-clause-failed
returns-in-Leaf-clause-failed g t c =
    let looked = c.child_node.new.t in
    let new = c.insert_here.new.t in
    let quiet = subst (λ (refusal : Option Refusal). OnlyReaches g.T.Pages refusal c.args.t.now looked) (sym c.insert_here.ensures.untold) c.in_ok-entries.ensures.calls in
    on_err_same c.insert_here.result (OnlyReaches g.T.Pages (outer_told c.insert_here.result) c.args.t.now) looked new quiet
    (on_err c.insert_here.result (RefusesEntry g.T.Pages c.args.entry.now looked new c.args.draft.now.sheets.items c.args.child.now) (new ≡ looked) (λ fault h. h.same) c.insert_here.ensures.failed)

pub returns-in-Leaf-clause-grown : goal.returns-in-Leaf-clause-grown
returns-in-Leaf-clause-grown g t c =
    let step = g.T.Pages.step c.args.t.now in
    let looked = g.T.Pages.step c.child_node.new.t in
    let last = g.T.Pages.step c.insert_here.new.t in
    let sheets = c.args.draft.now.sheets.items in
    let s1 = c.insert_here.new.draft.sheets.items in
    let child = c.args.child.now in
    let e = c.args.entry.now in
    let looks = c.in_ok-entries.ensures.calls.looks in
    ok_grows c.insert_here.result (GrowsLeaf e looked last sheets s1 child)
    (λ grown. ShowsEach last (λ pages. Grows e (with_images pages step) (with_images pages last) (drafted sheets pages) (drafted s1 pages) c.args.levels child grown))
    (λ grown h images agrees.
    let before = c.insert_here.ensures.calls.agrees images agrees in
    let at : page_at (drafted sheets images) child.page ≡ Some (Leaf c.in-Leaf.entries) = c.in_ok-entries.ensures.read.node images before ∙ ap (λ (n : Node). Some (content_of n)) c.in-Leaf.is in
    let takes = takes_looked images step looked (before.count ∙ looks.count) looks in
    leaf_grows e (with_images images step) (with_images images last) (drafted sheets images) (drafted s1 images) c.args.levels child grown c.in-Leaf.entries at
    (grows_looked e (with_images images step) (with_images images looked) (with_images images last) sheets (drafted s1 images) 0 child grown takes looks.spares (h.grows images before))) c.insert_here.ensures.grown

pub returns-in-Leaf-clause-fault : goal.returns-in-Leaf-clause-fault
returns-in-Leaf-clause-fault g t c =
    let G = g.T.Pages in
    let sheets = c.args.draft.now.sheets.items in
    let child = c.args.child.now in
    let e = c.args.entry.now in
    let looked = G.step c.child_node.new.t in
    let last = G.step c.insert_here.new.t in
    let B : List (List ℕ) → ℕ → Type 0 = λ (pages : List (List ℕ)). BreaksGrowth e (drafted sheets pages) c.args.levels child in
    err_grows c.insert_here.result (RefusesEntry G e c.child_node.new.t c.insert_here.new.t sheets child) (FailsBy last B)
    (λ fault h. broken_by last B fault h.page h.named (λ images agrees.
    let before = c.insert_here.ensures.calls.agrees images agrees in
    let at : page_at (drafted sheets images) child.page ≡ Some (Leaf c.in-Leaf.entries) = c.in_ok-entries.ensures.read.node images before ∙ ap (λ (n : Node). Some (content_of n)) c.in-Leaf.is in
    leaf_growth e (drafted sheets images) c.args.levels child c.in-Leaf.entries h.page at (h.shown images before))) c.insert_here.ensures.failed

pub returns-in_ok-grown-in-Interior-clause-calls : goal.returns-in_ok-grown-in-Interior-clause-calls
returns-in_ok-grown-in-Interior-clause-calls g t c =
    let G = g.T.Pages in
    let law = g.met.T.Pages.then in
    takes_takes G law c.args.t.now c.child_node.new.t c.grow_above.new.t (reaches_takes G c.args.t.now c.child_node.new.t c.in_ok-entries.ensures.calls)
    (takes_takes G law c.child_node.new.t c.insert_below.new.t c.grow_above.new.t c.in_ok-grown-in-Interior.ensures.calls c.grow_above.ensures.calls)

pub returns-in_ok-grown-in-Interior-clause-grown : goal.returns-in_ok-grown-in-Interior-clause-grown
returns-in_ok-grown-in-Interior-clause-grown g t c = λ images agrees.
    let step0 = g.T.Pages.step c.args.t.now in
    let looked0 = g.T.Pages.step c.child_node.new.t in
    let between0 = g.T.Pages.step c.insert_below.new.t in
    let last0 = g.T.Pages.step c.grow_above.new.t in
    let agrees2 = c.grow_above.ensures.calls.agrees images agrees in
    let before = c.in_ok-grown-in-Interior.ensures.calls.agrees images agrees2 in
    let looks = c.in_ok-entries.ensures.calls.looks in
    let step = with_images images step0 in
    let looked = with_images images looked0 in
    let between = with_images images between0 in
    let last = with_images images last0 in
    let sheets = c.args.draft.now.sheets.items in
    let s1 = c.insert_below.new.draft.sheets.items in
    let s2 = c.grow_above.new.draft.sheets.items in
    let child = c.args.child.now in
    let ways = c.in-Interior.ways in
    let e = c.args.entry.now in
    let i = c.ways_before-i.result in
    let levels = c.args.levels in
    let grown = c.in_ok-grown-in-Interior.grown in
    let pages = drafted sheets images in
    let at : page_at pages child.page ≡ Some (Interior ways.0 ways.1) = c.in_ok-entries.ensures.read.node images before ∙ ap (λ (n : Node). Some (content_of n)) c.in-Interior.is in
    let m = middle_is e.key c.copied.result pages child c.child_at-below.result ways.0 ways.1 i at c.copied.ensures c.ways_before-i.ensures.within c.ways_before-i.ensures.before c.ways_before-i.ensures.behind c.child_at-below.ensures in
    let fits : keys_fit child.low child.high (separator_keys ways.1) ≡ true =
    sym (ap (λ (n : Node). content_fits child.low child.high (Some (content_of n))) c.in-Interior.is) ∙ c.in_ok-entries.ensures.read.fits in
    let takes = takes_looked images step0 looked0 (before.count ∙ looks.count) looks in
    let lower = grows_looked e step looked between sheets (drafted s1 images) (levels - 1) c.child_at-below.result grown takes looks.spares (c.in_ok-grown-in-Interior.ensures.grown images agrees2) in
    let middle = subst (λ (d : Child). Grows e step between pages (drafted s1 images) (levels - 1) d grown) m.is lower in
    let differs = subst (λ (d : Child). d.page ≡ 0 → ⊥) m.is c.if-below-eq0.false in
    let up : suc (levels - 1) ≡ levels = omega (arith, c.if-levels-gt0.true) in
    subst (λ (n : ℕ). Grows e step last pages (drafted s2 images) n child c.grow_above.result) up
    (above_grows e step between last sheets s1 s2 (levels - 1) child ways.0 ways.1 i grown c.grow_above.result at fits m.around differs middle (c.grow_above.ensures.grown images agrees2.count) (c.grow_above.ensures.above images agrees2.count))

-- ---- a leaf that has grown

pub returns-in-Leaf-clause-drafted : goal.returns-in-Leaf-clause-drafted
returns-in-Leaf-clause-drafted g t c =
    let first = g.T.Pages.step c.args.t.now in
    let looked = g.T.Pages.step c.child_node.new.t in
    let last = g.T.Pages.step c.insert_here.new.t in
    let s0 = c.args.draft.now.sheets.items in
    let s1 = c.insert_here.new.draft.sheets.items in
    let child = c.args.child.now in
    let page : ℕ = child.page in
    let looks = c.in_ok-entries.ensures.calls.looks in
    let read = c.in_ok-entries.ensures.read in
    let count : length last.images ≡ length looked.images = c.insert_here.ensures.calls.edits.count in
    let here : is_spare looked.spares page ≡ false = ap (λ (x : List Bool). is_spare x page) looks.spares ∙ read.used in
    let still = sheets_looked first looked s0 looks in
    on_grows c.insert_here.result (GrowsLeaf c.args.entry.now looked last s0 s1 child) (GrowsBelow first last c.args.draft.now c.insert_here.new.draft (2 * c.args.levels + 2) child)
    (λ grown h. record {
      grows = record {
        room = omega (arith, (h.grown looked.images refl).few);
        freed = c.insert_here.ensures.freed;
        drawn = sheets_then first looked last s0 s0 s1 still h.drawn;
      };
      sheets = (h.grown last.images count).ready;
      page = record {
        reached = (h.grown last.images count).takes.reached page (reached_over last.images looked page count read.reached);
        used = used_over (with_images last.images looked) last _ page (h.grown last.images count).takes here;
      };
    }) c.insert_here.ensures.grown

-- ---- a page above

pub returns-in_ok-grown-in-Interior-clause-drafted : goal.returns-in_ok-grown-in-Interior-clause-drafted
returns-in_ok-grown-in-Interior-clause-drafted g t c =
    let first = g.T.Pages.step c.args.t.now in
    let looked0 = g.T.Pages.step c.child_node.new.t in
    let between0 = g.T.Pages.step c.insert_below.new.t in
    let last = g.T.Pages.step c.grow_above.new.t in
    let looked = with_images last.images looked0 in
    let between = with_images last.images between0 in
    let s0 = c.args.draft.now.sheets.items in
    let s1 = c.insert_below.new.draft.sheets.items in
    let page : ℕ = c.args.child.now.page in
    let looks = c.in_ok-entries.ensures.calls.looks in
    let read = c.in_ok-entries.ensures.read in
    let found = c.in_ok-grown-in-Interior.ensures in
    let above = c.grow_above.ensures in
    let agrees2 = above.calls.agrees last.images (agrees_now last) in
    let before = found.calls.agrees last.images agrees2 in
    let lower = (found.grown last.images agrees2).takes in
    let upper = (above.grown last.images agrees2.count).takes in
    let here = ap (λ (x : List Bool). is_spare x page) looks.spares ∙ read.used in
    let below = sheets_then first looked0 between0 s0 s0 s1 (sheets_looked first looked0 s0 looks) found.drafted.grows.drawn in
    record {
      grows = record {
        room = omega (arith, (above.grown between0.images refl).few, found.drafted.grows.room, c.if-levels-gt0.true);
        freed = above.freed ∙ found.drafted.grows.freed;
        drawn = sheets_then first between0 last s0 s1 c.grow_above.new.draft.sheets.items below above.drawn;
      };
      sheets = (above.grown last.images above.calls.edits.count).ready;
      page = record { reached = upper.reached page (lower.reached page (reached_over last.images looked0 page before.count read.reached)); used = used_over between last _ page upper (used_over looked between _ page lower here) };
    }

-- ---- nothing has grown

pub returns-in_default-clause-failed : goal.returns-in_default-clause-failed
returns-in_default-clause-failed g t c = c.in_ok-entries.ensures.calls

pub returns-in_default-clause-calls : goal.returns-in_default-clause-calls
returns-in_default-clause-calls g t c = reaches_takes g.T.Pages c.args.t.now c.child_node.new.t c.in_ok-entries.ensures.calls
