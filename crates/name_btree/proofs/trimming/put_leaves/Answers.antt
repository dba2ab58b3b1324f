use Rattle.std.proofs.Common.{◌≡◌, ◌∙◌, ◌∷◌, ◌++◌, ◌≤◌, ◌<◌, ◌^◌, true, inl, inr, suc, sym, ap, subst, get_or, drop, drop-cons, length, ℕ, List, Some, arith}
use Rattle.std.proofs.lemmas.Option.{slice_get-get_or}
use Rattle.std.specs.Prelude.{slice_get}
use Rattle.fsd_bytes.specs.declared.key.Key.{Key}
use Rattle.fsd_bytes.specs.Keys.{is_key}
use Rattle.fsd_formats.specs.declared.entry.Entry.{Entry}
use Rattle.fsd_formats.specs.NamePage.{Leaf, Interior, FitsEntry, is_page, room}
use Rattle.name_page.specs.Parting.{used_by}
use Rattle.name_page.proofs.FitsLaws.{key_short}
use Rattle.name_btree.specs.Draft.{IsDrafted, with_freed}
use Rattle.name_btree.specs.Trim.{IsBetween, separators_shared}
use Rattle.name_btree.proofs.growth.GrowLaws.{behind_key}
use Rattle.name_btree.proofs.mending.PairLaws.{head_of}
use Rattle.name_page.proofs.CutPageLaws.{leaf_page, least_of}
use Rattle.name_btree.proofs.drafts.PutLaws.{all_back, all_front, draft_with}
use Rattle.name_btree.proofs.mending.TrimLaws.{entry_between}
use Rattle.name_btree.proofs.trimming.put_leaves.Goals as goal

-- ---- one leaf

pub put_leaf-requires : goal.put_leaf-requires
put_leaf-requires g c =
    let are = c.requires.entries in
    let list = c.args.list.now in
    let most : used_by list ≤ room = omega arith in
    record {
      room = omega (arith, c.requires.room);
      sheets = c.requires.draft.sheets;
      reached = c.requires.left.reached;
      used = c.requires.left.used;
      accepted = leaf_page c.args.pair.left list are.each are.ascend (least_of c.args.pair.left (used_by list) c.requires.least) most;
      fits = are.fits;
    }

pub join_pair-requires : goal.join_pair-requires
join_pair-requires g c =
    let put = c.put_leaf.ensures in
    record {
      room = omega (arith, c.requires.room, put.sheets.one);
      freed = omega (arith, c.requires.freed, ap length put.freed);
      draft = draft_with _ _ _ _ _ c.requires.draft put.sheets put.freed;
      page = c.requires.page;
      right = c.requires.right;
      ways = c.requires.ways;
      pair = c.requires.pair;
    }

pub returns-then-whole-le-PAGE_ROOM : goal.returns-then-whole-le-PAGE_ROOM
returns-then-whole-le-PAGE_ROOM g c = record {
  draft = c.join_pair.ensures.draft;
  put = inl (record {
    middle = c.put_leaf.new.self.sheets.items;
    one = c.put_leaf.ensures.sheets;
    above = c.join_pair.ensures.put;
    freed = c.join_pair.ensures.freed ∙ ap (with_freed c.args.pair.right) c.put_leaf.ensures.freed;
  });
}

-- ---- two leaves

pub leaf_cut-requires : goal.leaf_cut-requires
leaf_cut-requires g c = record { entries = c.requires.entries.each; order = c.requires.entries.ascend; used = c.used-whole.ensures; many = omega arith; few = c.requires.most }

pub put_leaf-requires-2 : goal.put_leaf-requires-2
put_leaf-requires-2 g c =
    let left : ℕ = c.args.pair.left in
    record {
      room = omega (arith, c.requires.room);
      sheets = c.requires.draft.sheets;
      reached = c.requires.left.reached;
      used = c.requires.left.used;
      accepted = ap (λ (xs : List Entry). is_page left 0 (Leaf xs)) c.split_at.ensures.front ∙ (c.leaf_cut.ensures.leaves left).0;
      fits = all_front FitsEntry c.args.list.now c.leaf_cut.result c.requires.entries.fits _ c.split_at.ensures.front;
    }

pub put_leaf-requires-3 : goal.put_leaf-requires-3
put_leaf-requires-3 g c =
    let right : ℕ = c.args.pair.right in
    let one = c.put_leaf-2.ensures.sheets in
    record {
      room = omega (arith, c.requires.room, one.one);
      sheets = one.sheets;
      reached = c.requires.right.reached;
      used = c.requires.right.used;
      accepted = ap (λ (xs : List Entry). is_page right 0 (Leaf xs)) c.split_at.ensures.back ∙ (c.leaf_cut.ensures.leaves right).1;
      fits = all_back FitsEntry c.args.list.now c.leaf_cut.result c.requires.entries.fits _ c.split_at.ensures.back;
    }

pub share_pair-requires : goal.share_pair-requires
share_pair-requires g c =
    let list = c.args.list.now in
    let cut = c.leaf_cut.result in
    let e : Entry = c.index-behind-0.result in
    let first = head_of list cut c.split_at.result.1.now e c.split_at.ensures.back in
    let y : Entry = get_or c.split_at.result.1.now 0 e in
    let at : slice_get list cut ≡ Some y = slice_get-get_or list cut e c.leaf_cut.ensures.behind ∙ ap Some first in
    let are = c.requires.entries in
    let one = c.put_leaf-2.ensures in
    let two = c.put_leaf-3.ensures in
    let good = behind_key list cut y (drop (suc cut) list) (drop-cons list cut e c.leaf_cut.ensures.behind ∙ ap (λ (x : Entry). x ∷ drop (suc cut) list) first) are.each are.fits in
    let key : is_key c.copied.result ≡ true = ap is_key c.copied.ensures ∙ good.is in
    record {
      room = omega (arith, c.requires.room, one.sheets.one, two.sheets.one);
      draft = draft_with _ c.put_leaf-2.new.self _ _ _ (draft_with _ _ c.put_leaf-2.new.self _ _ c.requires.draft one.sheets one.freed) two.sheets two.freed;
      page = c.requires.page;
      right = c.requires.right.reached;
      ways = c.requires.ways;
      pair = c.requires.pair;
      key = key;
      fits = record { name = key_short c.copied.result key; version = subst (λ (k : Key). k.version < 2 ^ 32) (sym c.copied.ensures) good.version; child = omega (arith, c.requires.right.reached.0, g.met.T.Pages.small c.args.t.now) };
      between = subst (IsBetween c.args.above.now c.args.ways.now.0 c.args.ways.now.1 c.args.pair) (sym c.copied.ensures)
          (entry_between c.args.above.now c.args.ways.now.0 c.args.ways.now.1 c.args.pair list cut y c.leaf_cut.ensures.front at are.ascend c.requires.within);
    }

pub returns : goal.returns
returns g c =
    let s = g.T.Pages.step c.args.t.now in
    let list = c.args.list.now in
    let cut = c.leaf_cut.result in
    let front = c.split_at.result.0.now in
    let behind = c.split_at.result.1.now in
    let e : Entry = c.index-behind-0.result in
    let ys : List Entry = drop (suc cut) list in
    let is = c.split_at.ensures.back ∙ drop-cons list cut e c.leaf_cut.ensures.behind ∙ ap (λ (x : Entry). x ∷ ys) (head_of list cut behind e c.split_at.ensures.back) in
    let one = c.put_leaf-2.ensures in
    let two = c.put_leaf-3.ensures in
    let last = c.share_pair.new.draft.sheets.items in
    record {
      draft = c.share_pair.ensures.draft;
      put = inr (record {
        xs = front;
        y = get_or behind 0 e;
        ys = ys;
        parts = c.split_at.ensures.by_index.0 ∙ ap (λ (zs : List Entry). front ++ zs) is;
        shared = record {
          middle = c.put_leaf-2.new.self.sheets.items;
          last = c.put_leaf-3.new.self.sheets.items;
          one = one.sheets;
          other = subst (λ (zs : List Entry). IsDrafted s c.put_leaf-2.new.self.sheets.items c.put_leaf-3.new.self.sheets.items c.args.pair.right (Leaf zs)) is two.sheets;
          above = subst (λ (k : Key). IsDrafted s c.put_leaf-3.new.self.sheets.items last c.args.above.now.page (Interior c.args.ways.now.0 (separators_shared c.args.ways.now.1 c.args.pair k))) c.copied.ensures c.share_pair.ensures.put;
          freed = c.share_pair.ensures.freed ∙ two.freed ∙ one.freed;
          whole = c.share_pair.ensures.whole;
        };
      });
    }
