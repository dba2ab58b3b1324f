use Rattle.std.proofs.Common.{◌≡◌, ◌≤◌, ap, arith, length, List, refl, true}
use Rattle.std.specs.List.{flat_map}
use Rattle.fsd_formats.specs.declared.entry.Entry.{Entry}
use Rattle.fsd_formats.specs.NamePage.{Leaf, entry_bytes, is_page, room}
use Rattle.name_page.specs.Edits.{with_entry}
use Rattle.name_page.specs.Pages.{with_images}
use Rattle.name_btree.proofs.drafts.ReachedLaws.{drafted_over, grown_whole}
use Rattle.name_page.proofs.CutPageLaws.{leaf_page}
use Rattle.name_btree.proofs.drafts.SheetLaws.{one_sheet}
use Rattle.name_btree.proofs.growing.grow_leaf_with.Goals as goal

pub text_with-text-requires : goal.text_with-text-requires
text_with-text-requires g c = record { few = c.requires.few; room = c.requires.most; entry = c.requires.entry; fits = c.requires.fits }

pub put_text-requires : goal.put_text-requires
put_text-requires g c = record { room = omega (arith, c.requires.room); sheets = c.requires.sheets; reached = c.requires.reached; used = c.requires.used; most = omega arith }

pub returns-then-len-le-PAGE_ROOM : goal.returns-then-len-le-PAGE_ROOM
returns-then-len-le-PAGE_ROOM g c =
    let step = g.T.Pages.step c.args.t.now in
    let page = c.args.page in
    let old = c.args.draft.now.sheets.items in
    let new = c.put_text.new.self.sheets.items in
    let entries : List Entry = with_entry c.args.entry.now c.args.entries.now in
    let text = c.text_with-text.ensures in
    let are = c.requires.entries in
    let used : length (flat_map entry_bytes entries) ≤ room = omega (arith, ap length text.text.bytes) in
    let accepted : is_page page 0 (Leaf entries) ≡ true = leaf_page page entries are.each are.order are.least used in
    let drafted = c.put_text.ensures.sheets entries text.text accepted text.fits in
    record {
      outside = g.met.T.Pages.still c.args.t.now;
      grown = λ pages same. grown_whole (with_images pages step) old new page (Leaf entries) (drafted_over step pages same old new page (Leaf entries) drafted);
      leaves = λ pages same. (drafted.over pages same).content;
      freed = c.put_text.ensures.freed;
      drawn = one_sheet step old new page (Leaf entries) drafted;
      stays = record { images = refl; home = refl; reached = refl };
    }

pub grow_leaf_listed-requires : goal.grow_leaf_listed-requires
grow_leaf_listed-requires g c = record {
  promised = c.requires.promised;
  more = c.requires.more;
  room = c.requires.room;
  sheets = c.requires.sheets;
  reached = c.requires.reached;
  used = c.requires.used;
  few = c.requires.few;
  entries = c.requires.entries;
  fits = c.requires.fits;
}

pub returns : goal.returns
returns g c =
    let all = c.grow_leaf_listed.ensures in
    record { outside = all.outside; grown = all.grown; leaves = all.leaves; freed = all.freed; drawn = all.drawn; stays = all.stays }
