use Rattle.std.proofs.Common.{◌≡◌, ◌∙◌, refl, sym, ap, subst, ℕ, List, Some, length, take, drop, ◌&&◌, ◌<◌, ◌≤◌, ◌+◌, ◌^◌, arith}
use Rattle.fsd_formats.specs.declared.page.Separator.{Separator}
use Rattle.std.specs.Prelude.{nat_lt}
use Rattle.std.specs.List.{list_all, AllByRecursion}
use Rattle.fsd_bytes.specs.Keys.{is_key}
use Rattle.fsd_formats.specs.NamePage.{Content, Interior, FitsSeparator, is_page, are_ascending}
use Rattle.fsd_table.specs.Pages.{separator_keys}
use Rattle.name_page.specs.Pages.{is_spare, with_images}
use Rattle.name_btree.specs.Draft.{IsDrafted}
use Rattle.name_btree.proofs.drafts.ReachedLaws.{drafted_over, grown_whole, takes_over, reached_over}
use Rattle.name_btree.proofs.drafts.PutLaws.{all_back, all_front}
use Rattle.name_btree.proofs.drafts.TakeLaws.{sheets_over, taken_itself, used_over}
use Rattle.name_btree.proofs.mending.TrimLaws.{ways_page}
use Rattle.name_btree.proofs.growth.GrowLaws.{IsParted, HasInteriors, ways_parted, rest_of}
use Rattle.name_btree.proofs.drafts.SheetLaws.{one_sheet, two_sheets}
use Rattle.name_btree.proofs.growing.grow_ways.Given as given
use Rattle.name_btree.proofs.growing.grow_ways.Goals as goal

-- ---- one page

pub put_ways-requires : goal.put_ways-requires
put_ways-requires g c =
    let step = g.T.Pages.step c.args.t.now in
    let p : ℕ = length step.images in
    let page = c.args.page in
    let separators = c.args.separators.now.items in
    let value = c.as_slice-separators.ensures.value in
    let are = c.requires.separators in
    let most : length separators ≤ 9 = omega (arith, ap length value) in
    record {
      room = omega (arith, c.requires.room);
      sheets = c.requires.sheets;
      reached = c.requires.reached;
      used = c.requires.used;
      accepted = ap (λ (zs : List Separator). is_page page p (Interior c.args.first zs)) value
          ∙ ways_page page p c.args.first separators (record { below = are.each; ascend = are.order; first_below = are.low }) are.least most;
      fits = subst (AllByRecursion FitsSeparator) (sym value) c.requires.fits;
    }

pub returns-then-separators-le9 : goal.returns-then-separators-le9
returns-then-separators-le9 g c =
    let step = g.T.Pages.step c.args.t.now in
    let page = c.args.page in
    let old = c.args.draft.now.sheets.items in
    let new = c.put_ways.new.self.sheets.items in
    let x : Content = Interior c.args.first c.as_slice-separators.result.now in
    let put = c.put_ways.ensures in
    record {
      outside = g.met.T.Pages.still c.args.t.now;
      grown = λ pages same. grown_whole (with_images pages step) old new page x (drafted_over step pages same old new page x put.sheets);
      interiors = λ pages same. (put.sheets.over pages same).content ∙ ap (λ (zs : List Separator). Some (Interior c.args.first zs)) c.as_slice-separators.ensures.value;
      freed = put.freed;
      drawn = one_sheet step old new page x put.sheets;
      stays = record { images = refl; home = refl; reached = refl };
    }

-- ---- two pages

pub put_ways-requires-2 : goal.put_ways-requires-2
put_ways-requires-2 g c =
    let step = g.T.Pages.step c.args.t.now in
    let between = g.T.Pages.step c.front_page-left.new.t in
    let last = g.T.Pages.step c.take_page-right.new.t in
    let sheets = c.args.draft.now.sheets.items in
    let left = c.front_page-left.result in
    let some = c.as_slice-separators.result.now in
    let value = c.as_slice-separators.ensures.value in
    let are = c.requires.separators in
    let front = c.front_page-left.ensures in
    let takes = c.take_page-right.ensures.takes in
    let images : length last.images ≡ length step.images = ap length (takes.images ∙ front.takes.images) in
    let each = ap (list_all (λ s. is_key s.key && nat_lt s.child (length step.images))) value ∙ are.each in
    let order = ap (λ (zs : List Separator). are_ascending (separator_keys zs)) value ∙ are.order in
    let is = (c.middle-middle.ensures.interiors (length step.images) c.args.first each order are.low left).0 in
    record {
      room = omega (arith, c.requires.room);
      sheets = sheets_over between last _ sheets takes (sheets_over step between _ sheets front.takes c.requires.sheets);
      reached = takes.reached left front.front.own;
      used = used_over between last _ left takes front.front.used;
      accepted = ap (λ (n : ℕ). is_page left n (Interior c.args.first (take c.ways_cut-cut.result some))) images ∙ is;
      fits = all_front FitsSeparator some c.ways_cut-cut.result (subst (AllByRecursion FitsSeparator) (sym value) c.requires.fits) _ refl;
    }

pub put_ways-requires-3 : goal.put_ways-requires-3
put_ways-requires-3 g c =
    let step = g.T.Pages.step c.args.t.now in
    let last = g.T.Pages.step c.take_page-right.new.t in
    let right = c.take_page-right.result in
    let some = c.as_slice-separators.result.now in
    let value = c.as_slice-separators.ensures.value in
    let middle = c.middle-middle.result in
    let takes = c.take_page-right.ensures.takes in
    let images : length last.images ≡ length step.images = ap length (takes.images ∙ c.front_page-left.ensures.takes.images) in
    let are = c.requires.separators in
    let each = ap (list_all (λ s. is_key s.key && nat_lt s.child (length step.images))) value ∙ are.each in
    let order = ap (λ (zs : List Separator). are_ascending (separator_keys zs)) value ∙ are.order in
    let is = (c.middle-middle.ensures.interiors (length step.images) c.args.first each order are.low right).1 in
    let one = c.put_ways-2.ensures.sheets in
    record {
      room = omega (arith, c.requires.room, one.one);
      sheets = one.sheets;
      reached = takes.own.0;
      used = takes.taken.spares right ∙ taken_itself (is_spare (g.T.Pages.step c.front_page-left.new.t).spares right) right;
      accepted = (λ i. is_page right (images i) (Interior middle.child (rest_of some (c.ways_cut-cut.result + 1) i))) ∙ is;
      fits = all_back FitsSeparator some (c.ways_cut-cut.result + 1) (subst (AllByRecursion FitsSeparator) (sym value) c.requires.fits) _ (rest_of some (c.ways_cut-cut.result + 1));
    }

parted : (g : given.Over) (c : goal.After-put_ways-3 g) (pages : List (List ℕ)) → length pages ≡ length (g.T.Pages.step c.args.t.now).images
    → HasInteriors (with_images pages (g.T.Pages.step c.args.t.now)) (with_images pages (g.T.Pages.step c.take_page-right.new.t)) c.args.draft.now.sheets.items c.put_ways-3.new.self.sheets.items c.args.page c.args.first
    c.args.separators.now.items c.front_page-left.result (record { key = c.middle-middle.result.key; child = c.take_page-right.result })
parted g c pages same =
    let step0 = g.T.Pages.step c.args.t.now in
    let between0 = g.T.Pages.step c.front_page-left.new.t in
    let last0 = g.T.Pages.step c.take_page-right.new.t in
    let same1 : length pages ≡ length between0.images = same ∙ sym (ap length c.front_page-left.ensures.takes.images) in
    let same2 : length pages ≡ length last0.images = same1 ∙ sym (ap length c.take_page-right.ensures.takes.images) in
    let step = with_images pages step0 in
    let between = with_images pages between0 in
    let last = with_images pages last0 in
    let left = c.front_page-left.result in
    let right = c.take_page-right.result in
    let some = c.as_slice-separators.result.now in
    let middle = c.middle-middle.result in
    let s0 = c.args.draft.now.sheets.items in
    let s1 = c.put_ways-2.new.self.sheets.items in
    let s2 = c.put_ways-3.new.self.sheets.items in
    let is : IsParted step between last s0 s1 s2 c.args.page left right (Interior c.args.first (take c.ways_cut-cut.result some)) (Interior middle.child (drop (c.ways_cut-cut.result + 1) some)) = record {
      front_takes = takes_over pages step0 between0 _ same c.front_page-left.ensures.takes;
      takes = takes_over pages between0 last0 _ same1 c.take_page-right.ensures.takes;
      own = reached_over pages between0 left same1 c.front_page-left.ensures.front.own;
      used = c.front_page-left.ensures.front.used;
      place = c.front_page-left.ensures.front.place;
      front = drafted_over last0 pages same2 s0 s1 left (Interior c.args.first (take c.ways_cut-cut.result some)) c.put_ways-2.ensures.sheets;
      behind = drafted_over last0 pages same2 s1 s2 right (Interior middle.child (drop (c.ways_cut-cut.result + 1) some)) (subst (λ (zs : List Separator). IsDrafted last0 s1 s2 right (Interior middle.child zs)) (rest_of some (c.ways_cut-cut.result + 1)) c.put_ways-3.ensures.sheets);
    } in
    let small : right < 2 ^ 32 = omega arith in
    let ten : length some ≡ 10 = omega (arith, c.requires.separators.most, ap length c.as_slice-separators.ensures.value) in
    ways_parted step between last s0 s1 s2 c.args.page left right c.args.first (length step0.images) c.ways_cut-cut.result c.args.separators.now.items some middle
    c.as_slice-separators.ensures.value ten c.ways_cut-cut.ensures.least c.ways_cut-cut.ensures.most c.middle-middle.ensures.there is c.requires.separators.each c.requires.fits small

pub returns-clause-grown : goal.returns-clause-grown
returns-clause-grown g c = λ pages same. (parted g c pages same).grown

pub returns-clause-interiors : goal.returns-clause-interiors
returns-clause-interiors g c = λ pages same. (parted g c pages same).interiors

pub returns-clause-outside : goal.returns-clause-outside
returns-clause-outside g c = g.met.T.Pages.then c.args.t.now c.front_page-left.new.t c.take_page-right.new.t _ c.front_page-left.ensures.outside c.take_page-right.ensures.outside

pub returns-clause-drawn : goal.returns-clause-drawn
returns-clause-drawn g c =
    let step = g.T.Pages.step in
    two_sheets (step c.args.t.now) (step c.front_page-left.new.t) (step c.take_page-right.new.t) c.args.draft.now.sheets.items c.put_ways-2.new.self.sheets.items c.put_ways-3.new.self.sheets.items c.args.page c.front_page-left.result c.take_page-right.result
    _ _ c.front_page-left.ensures.takes c.take_page-right.ensures.takes c.put_ways-2.ensures.sheets c.put_ways-3.ensures.sheets

-- ---- what stays

pub returns-clause-freed : goal.returns-clause-freed
returns-clause-freed g c = c.put_ways-3.ensures.freed ∙ c.put_ways-2.ensures.freed

pub returns-clause-stays : goal.returns-clause-stays
returns-clause-stays g c =
    let took = c.take_page-right.ensures in
    let stays = c.front_page-left.ensures.stays in
    record { images = took.takes.images ∙ stays.images; home = took.home ∙ stays.home; reached = took.reached ∙ stays.reached }
