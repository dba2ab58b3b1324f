use Rattle.std.proofs.Common.{◌≡◌, ◌∙◌, ◌+◌, ◌∷◌, ◌++◌, ◌<◌, ◌≤◌, ◌^◌, true, inl, inr, sym, ap, subst, length, take, drop, ℕ, List, Some, arith}
use Rattle.std.proofs.lemmas.Option.{slice_get-get_or}
use Rattle.std.specs.Prelude.{slice_get}
use Rattle.std.specs.List.{AllByRecursion}
use Rattle.fsd_bytes.specs.declared.key.Key.{Key}
use Rattle.fsd_bytes.specs.Keys.{is_key}
use Rattle.fsd_formats.specs.declared.page.Separator.{Separator}
use Rattle.fsd_formats.specs.NamePage.{Interior, FitsSeparator, is_page}
use Rattle.fsd_table.proofs.BoundLaws.{all_split}
use Rattle.name_page.proofs.CutPageLaws.{least_ways}
use Rattle.name_page.proofs.FitsLaws.{key_short}
use Rattle.name_btree.specs.Draft.{IsDrafted, with_freed}
use Rattle.name_btree.specs.Trim.{IsBetween, separators_shared}
use Rattle.name_btree.proofs.mending.PairLaws.{parts_at}
use Rattle.name_btree.proofs.drafts.PutLaws.{all_back, all_front, draft_with}
use Rattle.name_btree.proofs.mending.TrimLaws.{front_page, behind_page, good_at, separator_between, ways_page}
use Rattle.name_btree.proofs.trimming.put_interiors.Goals as goal

-- ---- one page

pub put_ways-requires : goal.put_ways-requires
put_ways-requires g c =
    let p : ℕ = length (g.T.Pages.step c.args.t.now).images in
    let left : ℕ = c.args.pair.left in
    let joined = c.args.joined.now in
    let value = c.as_slice-list.ensures.value in
    let few : length joined.list.items ≤ 9 = omega (arith, ap length value) in
    record {
      room = omega (arith, c.requires.room);
      sheets = c.requires.draft.sheets;
      reached = c.requires.left.reached;
      used = c.requires.left.used;
      accepted = ap (λ (xs : List Separator). is_page left p (Interior joined.first xs)) value ∙ ways_page left p joined.first joined.list.items c.requires.list (least_ways left (length joined.list.items) c.requires.least) few;
      fits = subst (AllByRecursion FitsSeparator) (sym value) c.requires.fits;
    }

pub join_pair-requires : goal.join_pair-requires
join_pair-requires g c =
    let put = c.put_ways.ensures in
    record {
      room = omega (arith, c.requires.room, put.sheets.one);
      freed = omega (arith, c.requires.freed, ap length put.freed);
      draft = draft_with _ _ _ _ _ c.requires.draft put.sheets put.freed;
      page = c.requires.page;
      right = c.requires.right;
      ways = c.requires.ways;
      pair = c.requires.pair;
    }

pub returns-then-list-le8 : goal.returns-then-list-le8
returns-then-list-le8 g c =
    let old = c.args.draft.now.sheets.items in
    let middle = c.put_ways.new.self.sheets.items in
    record {
      draft = c.join_pair.ensures.draft;
      put = inl (record {
        middle = middle;
        one = subst (λ (xs : List Separator). IsDrafted (g.T.Pages.step c.args.t.now) old middle c.args.pair.left (Interior c.args.joined.now.first xs)) c.as_slice-list.ensures.value c.put_ways.ensures.sheets;
        above = c.join_pair.ensures.put;
        freed = c.join_pair.ensures.freed ∙ ap (with_freed c.args.pair.right) c.put_ways.ensures.freed;
      });
    }

-- ---- two pages

pub put_ways-requires-2 : goal.put_ways-requires-2
put_ways-requires-2 g c =
    let p : ℕ = length (g.T.Pages.step c.args.t.now).images in
    let left : ℕ = c.args.pair.left in
    let joined = c.args.joined.now in
    let items = joined.list.items in
    let value = c.as_slice-list.ensures.value in
    let many : 8 < length items = omega (arith, ap length value) in
    let is = c.split_at.ensures.front ∙ ap (take c.args.cut) value in
    record {
      room = omega (arith, c.requires.room);
      sheets = c.requires.draft.sheets;
      reached = c.requires.left.reached;
      used = c.requires.left.used;
      accepted = ap (λ (xs : List Separator). is_page left p (Interior joined.first xs)) is
          ∙ front_page left p joined.first items c.args.cut c.requires.list (c.requires.front many) (c.requires.short many) (omega (arith, c.requires.behind many));
      fits = all_front FitsSeparator items c.args.cut c.requires.fits _ is;
    }

pub put_ways-requires-3 : goal.put_ways-requires-3
put_ways-requires-3 g c =
    let p : ℕ = length (g.T.Pages.step c.args.t.now).images in
    let right : ℕ = c.args.pair.right in
    let joined = c.args.joined.now in
    let items = joined.list.items in
    let list = c.as_slice-list.result.now in
    let value = c.as_slice-list.ensures.value in
    let many : 8 < length items = omega (arith, ap length value) in
    let s : Separator = c.index-list-cut.result in
    let at = slice_get-get_or list c.args.cut s (omega (arith, ap length value, c.requires.behind many)) ∙ ap Some (sym c.index-list-cut.is) in
    let is = c.split_at-2.ensures.back ∙ ap (drop (c.args.cut + 1)) value in
    let one = c.put_ways-2.ensures.sheets in
    record {
      room = omega (arith, c.requires.room, one.one);
      sheets = one.sheets;
      reached = c.requires.right.reached;
      used = c.requires.right.used;
      accepted = ap (λ (xs : List Separator). is_page right p (Interior s.child xs)) is
          ∙ behind_page right p joined.first items c.args.cut s c.requires.list (ap (λ (xs : List Separator). slice_get xs c.args.cut) (sym value) ∙ at) (c.requires.behind many) (c.requires.most many);
      fits = all_back FitsSeparator items (c.args.cut + 1) c.requires.fits _ is;
    }

pub share_pair-requires : goal.share_pair-requires
share_pair-requires g c =
    let first = c.args.joined.now.first in
    let items = c.args.joined.now.list.items in
    let list = c.as_slice-list.result.now in
    let value = c.as_slice-list.ensures.value in
    let many : 8 < length items = omega (arith, ap length value) in
    let s : Separator = c.index-list-cut.result in
    let at = ap (λ (xs : List Separator). slice_get xs c.args.cut) (sym value) ∙ slice_get-get_or list c.args.cut s (omega (arith, ap length value, c.requires.behind many)) ∙ ap Some (sym c.index-list-cut.is) in
    let fit : FitsSeparator s = (all_split FitsSeparator (take c.args.cut items) (s ∷ drop (c.args.cut + 1) items) (subst (AllByRecursion FitsSeparator) (parts_at items c.args.cut s at) c.requires.fits)).1.0 in
    let key : is_key c.copied.result ≡ true = ap is_key c.copied.ensures ∙ good_at (length (g.T.Pages.step c.args.t.now).images) first items c.args.cut s c.requires.list at in
    let one = c.put_ways-2.ensures in
    let two = c.put_ways-3.ensures in
    record {
      room = omega (arith, c.requires.room, one.sheets.one, two.sheets.one);
      draft = draft_with _ c.put_ways-2.new.self _ _ _ (draft_with _ _ c.put_ways-2.new.self _ _ c.requires.draft one.sheets one.freed) two.sheets two.freed;
      page = c.requires.page;
      right = c.requires.right.reached;
      ways = c.requires.ways;
      pair = c.requires.pair;
      key = key;
      fits = record { name = key_short c.copied.result key; version = subst (λ (k : Key). k.version < 2 ^ 32) (sym c.copied.ensures) fit.version; child = omega (arith, c.requires.right.reached.0, g.met.T.Pages.small c.args.t.now) };
      between = subst (IsBetween c.args.above.now c.args.ways.now.0 c.args.ways.now.1 c.args.pair) (sym c.copied.ensures)
          (separator_between c.args.above.now c.args.ways.now.0 c.args.ways.now.1 c.args.pair items c.args.cut s (omega (arith, c.requires.front many)) at c.requires.list.ascend c.requires.within);
    }

pub returns : goal.returns
returns g c =
    let step = g.T.Pages.step c.args.t.now in
    let items = c.args.joined.now.list.items in
    let list = c.as_slice-list.result.now in
    let value = c.as_slice-list.ensures.value in
    let s : Separator = c.index-list-cut.result in
    let front = c.split_at.result.0.now in
    let behind = c.split_at-2.result.1.now in
    let at = slice_get-get_or list c.args.cut s (omega (arith, c.split_at-2.ensures.back_len)) ∙ ap Some (sym c.index-list-cut.is) in
    let one = c.put_ways-2.ensures in
    let two = c.put_ways-3.ensures in
    let last = c.share_pair.new.draft.sheets.items in
    record {
      draft = c.share_pair.ensures.draft;
      put = inr (record {
        xs = front;
        s = s;
        ys = behind;
        parts = sym value ∙ parts_at list c.args.cut s at ∙ (λ i. sym c.split_at.ensures.front i ++ s ∷ sym c.split_at-2.ensures.back i);
        shared = record {
          middle = c.put_ways-2.new.self.sheets.items;
          last = c.put_ways-3.new.self.sheets.items;
          one = one.sheets;
          other = two.sheets;
          above = subst (λ (k : Key). IsDrafted step c.put_ways-3.new.self.sheets.items last c.args.above.now.page (Interior c.args.ways.now.0 (separators_shared c.args.ways.now.1 c.args.pair k))) c.copied.ensures c.share_pair.ensures.put;
          freed = c.share_pair.ensures.freed ∙ two.freed ∙ one.freed;
          whole = c.share_pair.ensures.whole;
        };
      });
    }
