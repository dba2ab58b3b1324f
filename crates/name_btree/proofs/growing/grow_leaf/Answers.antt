use Rattle.std.proofs.Common.{◌≡◌, ◌∙◌, ◌<◌, ◌≤◌, ◌^◌, refl, sym, ap, subst, length, List, ℕ, Some, arith}
use Rattle.std.specs.List.{list_all, AllByRecursion}
use Rattle.fsd_formats.specs.declared.entry.Entry.{Entry}
use Rattle.fsd_formats.specs.NamePage.{Leaf, FitsEntry, are_ascending, is_entry, is_page, room}
use Rattle.fsd_table.specs.Pages.{entry_keys}
use Rattle.name_page.specs.Pages.{is_spare, with_images}
use Rattle.name_page.specs.Parting.{used_by}
use Rattle.name_btree.proofs.drafts.ReachedLaws.{drafted_over, grown_whole, takes_over, reached_over}
use Rattle.name_page.proofs.CutPageLaws.{leaf_page}
use Rattle.name_btree.proofs.drafts.PutLaws.{all_back, all_front}
use Rattle.name_btree.proofs.drafts.TakeLaws.{sheets_over, taken_itself, used_over}
use Rattle.name_btree.proofs.growth.GrowLaws.{IsParted, HasLeaves, leaves_parted}
use Rattle.name_btree.proofs.drafts.SheetLaws.{one_sheet, two_sheets}
use Rattle.name_btree.proofs.growing.grow_leaf.Given as given
use Rattle.name_btree.proofs.growing.grow_leaf.Goals as goal

-- ---- one leaf

pub put_leaf-requires : goal.put_leaf-requires
put_leaf-requires g c =
    let page = c.args.page in
    let entries = c.args.entries.now.items in
    let value = c.as_slice-entries.ensures.value in
    let are = c.requires.entries in
    let most : used_by entries ≤ room = omega (arith, ap used_by value) in
    record {
      room = omega (arith, c.requires.room);
      sheets = c.requires.sheets;
      reached = c.requires.reached;
      used = c.requires.used;
      accepted = ap (λ (xs : List Entry). is_page page 0 (Leaf xs)) value ∙ leaf_page page entries are.each are.order are.least most;
      fits = subst (AllByRecursion FitsEntry) (sym value) c.requires.fits;
    }

pub returns-then-whole-le-PAGE_ROOM : goal.returns-then-whole-le-PAGE_ROOM
returns-then-whole-le-PAGE_ROOM g c =
    let step = g.T.Pages.step c.args.t.now in
    let page = c.args.page in
    let old = c.args.draft.now.sheets.items in
    let new = c.put_leaf.new.self.sheets.items in
    let list = c.as_slice-entries.result.now in
    let put = c.put_leaf.ensures in
    record {
      outside = g.met.T.Pages.still c.args.t.now;
      grown = λ pages same. grown_whole (with_images pages step) old new page (Leaf list) (drafted_over step pages same old new page (Leaf list) put.sheets);
      leaves = λ pages same. (put.sheets.over pages same).content ∙ ap (λ (xs : List Entry). Some (Leaf xs)) c.as_slice-entries.ensures.value;
      freed = put.freed;
      drawn = one_sheet step old new page (Leaf list) put.sheets;
      stays = record { images = refl; home = refl; reached = refl };
    }

-- ---- two leaves

pub leaf_cut-requires : goal.leaf_cut-requires
leaf_cut-requires g c =
    let are = c.requires.entries in
    let value = c.as_slice-entries.ensures.value in
    record {
      entries = ap (list_all is_entry) value ∙ are.each;
      order = ap (λ (xs : List Entry). are_ascending (entry_keys xs)) value ∙ are.order;
      used = c.used-whole.ensures;
      many = omega arith;
      few = omega (arith, are.most, ap used_by value);
    }

pub put_leaf-requires-2 : goal.put_leaf-requires-2
put_leaf-requires-2 g c =
    let step = g.T.Pages.step c.args.t.now in
    let between = g.T.Pages.step c.front_page-left.new.t in
    let last = g.T.Pages.step c.take_page-right.new.t in
    let sheets = c.args.draft.now.sheets.items in
    let left = c.front_page-left.result in
    let list = c.as_slice-entries.result.now in
    let front = c.front_page-left.ensures in
    let takes = c.take_page-right.ensures.takes in
    record {
      room = omega (arith, c.requires.room);
      sheets = sheets_over between last _ sheets takes (sheets_over step between _ sheets front.takes c.requires.sheets);
      reached = takes.reached left front.front.own;
      used = used_over between last _ left takes front.front.used;
      accepted = ap (λ (xs : List Entry). is_page left 0 (Leaf xs)) c.split_at.ensures.front ∙ (c.leaf_cut.ensures.leaves left).0;
      fits = all_front FitsEntry list c.leaf_cut.result (subst (AllByRecursion FitsEntry) (sym c.as_slice-entries.ensures.value) c.requires.fits) _ c.split_at.ensures.front;
    }

pub put_leaf-requires-3 : goal.put_leaf-requires-3
put_leaf-requires-3 g c =
    let right = c.take_page-right.result in
    let list = c.as_slice-entries.result.now in
    let takes = c.take_page-right.ensures.takes in
    let one = c.put_leaf-2.ensures.sheets in
    record {
      room = omega (arith, c.requires.room, one.one);
      sheets = one.sheets;
      reached = takes.own.0;
      used = takes.taken.spares right ∙ taken_itself (is_spare (g.T.Pages.step c.front_page-left.new.t).spares right) right;
      accepted = ap (λ (xs : List Entry). is_page right 0 (Leaf xs)) c.split_at.ensures.back ∙ (c.leaf_cut.ensures.leaves right).1;
      fits = all_back FitsEntry list c.leaf_cut.result (subst (AllByRecursion FitsEntry) (sym c.as_slice-entries.ensures.value) c.requires.fits) _ c.split_at.ensures.back;
    }

parted : (g : given.Over) (c : goal.After-copied g) (pages : List (List ℕ)) → length pages ≡ length (g.T.Pages.step c.args.t.now).images
    → HasLeaves (with_images pages (g.T.Pages.step c.args.t.now)) (with_images pages (g.T.Pages.step c.take_page-right.new.t)) c.args.draft.now.sheets.items c.put_leaf-3.new.self.sheets.items c.args.page c.args.entries.now.items
    c.front_page-left.result (record { key = c.copied.result; child = c.take_page-right.result })
parted g c pages same =
    let step0 = g.T.Pages.step c.args.t.now in
    let between0 = g.T.Pages.step c.front_page-left.new.t in
    let last0 = g.T.Pages.step c.take_page-right.new.t in
    let same1 : length pages ≡ length between0.images = same ∙ sym (ap length c.front_page-left.ensures.takes.images) in
    let same2 : length pages ≡ length last0.images = same1 ∙ sym (ap length c.take_page-right.ensures.takes.images) in
    let step = with_images pages step0 in
    let between = with_images pages between0 in
    let last = with_images pages last0 in
    let left = c.front_page-left.result in
    let right = c.take_page-right.result in
    let front = c.split_at.result.0.now in
    let behind = c.split_at.result.1.now in
    let s0 = c.args.draft.now.sheets.items in
    let s1 = c.put_leaf-2.new.self.sheets.items in
    let s2 = c.put_leaf-3.new.self.sheets.items in
    let is : IsParted step between last s0 s1 s2 c.args.page left right (Leaf front) (Leaf behind) = record {
      front_takes = takes_over pages step0 between0 _ same c.front_page-left.ensures.takes;
      takes = takes_over pages between0 last0 _ same1 c.take_page-right.ensures.takes;
      own = reached_over pages between0 left same1 c.front_page-left.ensures.front.own;
      used = c.front_page-left.ensures.front.used;
      place = c.front_page-left.ensures.front.place;
      front = drafted_over last0 pages same2 s0 s1 left (Leaf front) c.put_leaf-2.ensures.sheets;
      behind = drafted_over last0 pages same2 s1 s2 right (Leaf behind) c.put_leaf-3.ensures.sheets;
    } in
    let small : right < 2 ^ 32 = omega arith in
    leaves_parted step between last s0 s1 s2 c.args.page left right c.leaf_cut.result c.args.entries.now.items c.as_slice-entries.result.now front behind c.copied.result c.index-behind-0.result
    c.as_slice-entries.ensures.value c.split_at.ensures.front c.split_at.ensures.back c.leaf_cut.ensures.front c.leaf_cut.ensures.behind is c.copied.ensures c.requires.entries.each c.requires.fits small

pub returns-clause-grown : goal.returns-clause-grown
returns-clause-grown g c = λ pages same. (parted g c pages same).grown

pub returns-clause-leaves : goal.returns-clause-leaves
returns-clause-leaves g c = λ pages same. (parted g c pages same).leaves

pub returns-clause-drawn : goal.returns-clause-drawn
returns-clause-drawn g c =
    let step = g.T.Pages.step in
    two_sheets (step c.args.t.now) (step c.front_page-left.new.t) (step c.take_page-right.new.t) c.args.draft.now.sheets.items c.put_leaf-2.new.self.sheets.items c.put_leaf-3.new.self.sheets.items c.args.page c.front_page-left.result c.take_page-right.result
    (Leaf c.split_at.result.0.now) (Leaf c.split_at.result.1.now) c.front_page-left.ensures.takes c.take_page-right.ensures.takes c.put_leaf-2.ensures.sheets c.put_leaf-3.ensures.sheets

-- ---- what stays

pub returns-clause-outside : goal.returns-clause-outside
returns-clause-outside g c = g.met.T.Pages.then c.args.t.now c.front_page-left.new.t c.take_page-right.new.t _ c.front_page-left.ensures.outside c.take_page-right.ensures.outside

pub returns-clause-freed : goal.returns-clause-freed
returns-clause-freed g c = c.put_leaf-3.ensures.freed ∙ c.put_leaf-2.ensures.freed

pub returns-clause-stays : goal.returns-clause-stays
returns-clause-stays g c =
    let took = c.take_page-right.ensures in
    let stays = c.front_page-left.ensures.stays in
    record { images = took.takes.images ∙ stays.images; home = took.home ∙ stays.home; reached = took.reached ∙ stays.reached }
