use Rattle.std.proofs.Common.{◌≡◌, ◌∙◌, ◌+◌, ◌*◌, ◌-◌, ◌≤◌, Bool, true, false, take, drop, refl, sym, ap, subst, length, ℕ, List, Some, arith, rules}
use Rattle.std.specs.List.{AllByRecursion}
use Rattle.fsd_bytes.specs.declared.key.Key.{Key}
use Rattle.name_page.specs.declared.cut.Cut.TheVariants.{UpTo}
use Rattle.name_page.specs.Cut.{is_before}
use Rattle.std.proofs.lemmas.Result.{err_from_is_err_and}
use Rattle.fsd_formats.specs.declared.entry.Entry.{Entry}
use Rattle.fsd_formats.specs.NamePage.{Leaf, Interior}
use Rattle.fsd_table.specs.declared.child.Child.{Child}
use Rattle.fsd_table.specs.Pages.{page_at, content_fits, keys_fit, entry_keys}
use Rattle.fsd_table.proofs.PageLaws.{at_is_page}
use Rattle.name_page.specs.declared.node.Node.{Node}
use Rattle.name_page.specs.Node.{content_of}
use Rattle.name_page.proofs.SideLaws.{without_used, without_fits}
use Rattle.name_page.specs.Pages.{Step, with_images, is_spare, reaches}
use Rattle.name_page.specs.Looks.{ShowsEach}
use Rattle.name_page.specs.Parting.{used_by}
use Rattle.name_page.proofs.LookLaws.{reaches_then, agrees_now, agrees_before}
use Rattle.name_btree.specs.Draft.{drafted, IsTreeDraft}
use Rattle.name_btree.specs.Fault.{FailsBy, IsMisfit}
use Rattle.name_btree.proofs.steps.CauseLaws.{fails_by_map}
use Rattle.name_btree.proofs.drafts.ReachedLaws.{leaf_over}
use Rattle.name_btree.specs.Remove.{BreaksAround, IsTrimmedBelow, MayBeLeft, TrimsDraft}
use Rattle.name_btree.specs.Trim.{IsUnlike, AreEntries, IsLeafPut, IsOpenedPage, IsTrimmedAbove, IsLeft, MayHave, sheets_below}
use Rattle.name_btree.specs.declared.draft.Sheet.{Sheet}
use Rattle.name_btree.specs.declared.trimming.Trimmed.{Trimmed}
use Rattle.name_btree.specs.declared.trimming.Trimmed.TheVariants.{Whole}
use Rattle.name_btree.specs.declared.trimming.Trimmed.TheVariants as left
use Rattle.name_btree.proofs.mending.ParentLaws.{mended_left, mended_freed, mended_sheets, room_left}
use Rattle.name_btree.proofs.drafts.DraftLaws.{drafted_length}
use Rattle.name_btree.proofs.mending.MendLaws.{draft_kept, page_kept}
use Rattle.name_btree.proofs.mending.MendedLaws.{trimmed_above, breaks_above}
use Rattle.name_btree.proofs.mending.PairLaws.{child_is_at}
use Rattle.name_btree.proofs.mending.RemoveLaws.{misfit_below, leaf_most, leaf_left, leaf_trimmed, without_leaf}
use Rattle.name_btree.proofs.steps.ReplaceLaws.{few_in_leaf}
use Rattle.name_btree.proofs.mending.RootLaws.{mended_root}
use Rattle.name_btree.proofs.mending.JoinLaws.{unlike_above}
use Rattle.name_btree.proofs.mending.TrimLaws.{page_ways}
use Rattle.name_btree.proofs.removing.+remove_below.Goals as goal
use Rattle.name_btree.proofs.steps.ResultLaws.{ok_both, ok_more, err_more}

pub returns-in_err-entries : goal.returns-in_err-entries
returns-in_err-entries g t c =
    let new = c.child_node.new.t in
    let sheets = c.args.draft.now.sheets.items in
    let child = c.args.child.now in
    let failed = c.in_err-entries.ensures in
    let p = err_from_is_err_and c.from_residual.result c.from_residual.ensures.1 in
    rw (p.1, p.2) (record {
      calls = failed.calls;
      reaches = omega (arith, failed.reaches);
      drafted = tt;
      left = tt;
      trimmed = tt;
      fault = fails_by_map (g.T.Pages.step new) (λ pages. IsMisfit (drafted sheets pages) child) (λ pages. BreaksAround c.args.key.now (drafted sheets pages) c.args.levels child)
          (λ images page is h. misfit_below c.args.key.now sheets c.args.levels child images page h) c.in_err-entries.field-0.0 failed.fault;
    })

pub returns-in_err-trimmed-in-Interior : goal.returns-in_err-trimmed-in-Interior
returns-in_err-trimmed-in-Interior g t c =
    let G = g.T.Pages in
    let s1 = G.step c.child_node.new.t in
    let new = c.remove_below.new.t in
    let draft = c.args.draft.now in
    let child = c.args.child.now in
    let ways = c.in-Interior.ways in
    let i = c.ways_before-i.result in
    let key = c.args.key.now in
    let below_child = c.child_at-below.result in
    let looked = c.in_ok-entries.ensures in
    let failed = c.in_err-trimmed-in-Interior.ensures in
    let calls = failed.calls in
    let p = err_from_is_err_and c.from_residual-in_err-trimmed-in-Interior.result c.from_residual-in_err-trimmed-in-Interior.ensures.1 in
    rw (p.1, p.2) (record {
      calls = reaches_then G g.met.T.Pages.then c.args.t.now c.child_node.new.t new looked.calls calls;
      reaches = omega (arith, looked.reaches, failed.reaches, c.if-levels-gt0.true);
      drafted = tt;
      left = tt;
      trimmed = tt;
      fault = fails_by_map (G.step new) (λ pages. BreaksAround key (drafted draft.sheets.items pages) (c.args.levels - 1) below_child) (λ pages. BreaksAround key (drafted draft.sheets.items pages) c.args.levels child)
          (λ images page agrees h.
          let agrees1 = agrees_before s1 (G.step new) images calls.looks agrees in
          let pages : List (List ℕ) = drafted draft.sheets.items images in
          let at : page_at pages child.page ≡ Some (Interior ways.0 ways.1) = looked.read.node images agrees1 ∙ ap (λ (n : Node). Some (content_of n)) c.in-Interior.is in
          let before = subst (λ (k : Key). AllByRecursion (λ s. is_before (UpTo k) s.key ≡ true) (take i ways.1)) c.copied.ensures c.ways_before-i.ensures.before in
          let behind = subst (λ (k : Key). AllByRecursion (λ s. is_before (UpTo k) s.key ≡ false) (drop i ways.1)) c.copied.ensures c.ways_before-i.ensures.behind in
          breaks_above images key draft c.args.levels child ways.0 ways.1 i below_child page at c.ways_before-i.ensures.within before behind c.child_at-below.ensures h)
          c.in_err-trimmed-in-Interior.field-0.0 failed.fault;
    })

pub entries_without-left-requires : goal.entries_without-left-requires
entries_without-left-requires g t c =
    let mid_step = g.T.Pages.step c.child_node.new.t in
    let pages : List (List ℕ) = drafted c.args.draft.now.sheets.items mid_step.images in
    few_in_leaf pages c.args.child.now.page c.in-Leaf.entries (c.in_ok-entries.ensures.read.node mid_step.images (agrees_now mid_step) ∙ ap (λ (n : Node). Some (content_of n)) c.in-Leaf.is)

pub trim_leaf-requires-clause-draft : goal.trim_leaf-requires-clause-draft
trim_leaf-requires-clause-draft g t c =
    let looks = c.child_node.ensures.calls.looks in
    draft_kept (g.T.Pages.step c.args.t.now) (g.T.Pages.step c.child_node.new.t) c.args.draft.now looks.reached looks.spares looks.count c.requires.draft

pub trim_leaf-requires-clause-entries : goal.trim_leaf-requires-clause-entries
trim_leaf-requires-clause-entries g t c =
    let mid_step = g.T.Pages.step c.child_node.new.t in
    let pages : List (List ℕ) = drafted c.args.draft.now.sheets.items mid_step.images in
    let at : page_at pages c.args.child.now.page ≡ Some (Leaf c.in-Leaf.entries) = c.in_ok-entries.ensures.read.node mid_step.images (agrees_now mid_step) ∙ ap (λ (n : Node). Some (content_of n)) c.in-Leaf.is in
    let are = without_leaf pages c.args.child.now.page c.args.key.now c.in-Leaf.entries c.entries_without-left.result.items at c.entries_without-left.ensures.entries in
    record { each = are.0; ascend = are.1; fits = c.entries_without-left.ensures.fits }

pub trim_leaf-requires-clause-most : goal.trim_leaf-requires-clause-most
trim_leaf-requires-clause-most g t c =
    let mid_step = g.T.Pages.step c.child_node.new.t in
    let pages : List (List ℕ) = drafted c.args.draft.now.sheets.items mid_step.images in
    let at : page_at pages c.args.child.now.page ≡ Some (Leaf c.in-Leaf.entries) = c.in_ok-entries.ensures.read.node mid_step.images (agrees_now mid_step) ∙ ap (λ (n : Node). Some (content_of n)) c.in-Leaf.is in
    let entries = c.in-Leaf.entries in
    let most = leaf_most c.args.child.now.page (length pages) entries (at_is_page pages c.args.child.now.page (Leaf entries) at) in
    omega (arith, ap used_by c.entries_without-left.ensures.entries, without_used c.args.key.now entries, most)

pub remove_below-requires : goal.remove_below-requires
remove_below-requires g t c κs within =
    let looks = c.child_node.ensures.calls.looks in
    let low : c.args.levels - 1 ≤ 5 = omega arith in
    let more : 2 * (c.args.levels - 1) + 1 ≤ reaches (g.T.Pages.step c.child_node.new.t) = omega (arith, c.child_node.ensures.reaches, c.requires.more) in
    let draft = draft_kept (g.T.Pages.step c.args.t.now) (g.T.Pages.step c.child_node.new.t) c.args.draft.now looks.reached looks.spares looks.count c.requires.draft in
    let room : length c.args.draft.now.sheets.items + (c.args.levels - 1) ≤ 38 = omega arith in
    let free : length c.args.draft.now.freed.items + (c.args.levels - 1) ≤ 20 = omega arith in
    search (rules, low, more, draft, room, free)

pub trim_above-requires-clause-room : goal.trim_above-requires-clause-room
trim_above-requires-clause-room g t c some =
    let n : ℕ = length c.args.draft.now.sheets.items in
    let levels : ℕ = c.args.levels - 1 in
    room_left c.in_ok-trimmed-in-Interior.trimmed n (length c.remove_below.new.draft.sheets.items) levels c.in_ok-trimmed-in-Interior.ensures.drafted.sheets (omega arith) some

pub trim_above-requires-clause-below : goal.trim_above-requires-clause-below
trim_above-requires-clause-below g t c =
    let ways = c.in-Interior.ways in
    subst (λ (d : Child). MayHave (g.T.Pages.step c.remove_below.new.t) d.page)
    (child_is_at c.args.child.now ways.0 ways.1 c.ways_before-i.result c.child_at-below.result c.ways_before-i.ensures.within c.child_at-below.ensures) c.in_ok-trimmed-in-Interior.ensures.left.page

pub trim_above-requires-clause-left : goal.trim_above-requires-clause-left
trim_above-requires-clause-left g t c =
    let ways = c.in-Interior.ways in
    let below = c.in_ok-trimmed-in-Interior.trimmed in
    let same = child_is_at c.args.child.now ways.0 ways.1 c.ways_before-i.result c.child_at-below.result c.ways_before-i.ensures.within c.child_at-below.ensures in
    let left = subst (λ (n : ℕ). IsLeft n c.child_at-below.result below) (sym c.remove_below.ensures.calls.looks.count) c.in_ok-trimmed-in-Interior.ensures.left.fits in
    subst (λ (d : Child). IsLeft (length (g.T.Pages.step c.remove_below.new.t).images) d below) same left

pub trim_above-requires-clause-ways : goal.trim_above-requires-clause-ways
trim_above-requires-clause-ways g t c =
    let child = c.args.child.now in
    let ways = c.in-Interior.ways in
    let mid_step = g.T.Pages.step c.child_node.new.t in
    let pages : List (List ℕ) = drafted c.args.draft.now.sheets.items mid_step.images in
    let at : page_at pages c.args.child.now.page ≡ Some (Interior c.in-Interior.ways.0 c.in-Interior.ways.1) = c.in_ok-entries.ensures.read.node mid_step.images (agrees_now mid_step) ∙ ap (λ (n : Node). Some (content_of n)) c.in-Interior.is in
    let fit = sym (ap (λ (n : Node). content_fits child.low child.high (Some (content_of n))) c.in-Interior.is) ∙ c.in_ok-entries.ensures.read.fits in
    let has = page_ways child.page (length pages) ways.0 ways.1 (at_is_page pages child.page (Interior ways.0 ways.1) at) in
    let count : length pages ≡ length (g.T.Pages.step c.remove_below.new.t).images = drafted_length c.args.draft.now.sheets.items mid_step.images ∙ sym c.remove_below.ensures.calls.looks.count in
    subst (λ (n : ℕ). IsOpenedPage n child ways.0 ways.1) count (record { ways = has.ways; within = fit; least = has.least; most = has.most })

pub returns-in-Leaf-clause-left : goal.returns-in-Leaf-clause-left
returns-in-Leaf-clause-left g t c =
    let old = g.T.Pages.step c.args.t.now in
    let child = c.args.child.now in
    let entries = c.in-Leaf.entries in
    let items = c.entries_without-left.result.items in
    let mid_step = g.T.Pages.step c.child_node.new.t in
    let pages : List (List ℕ) = drafted c.args.draft.now.sheets.items mid_step.images in
    let at : page_at pages c.args.child.now.page ≡ Some (Leaf c.in-Leaf.entries) = c.in_ok-entries.ensures.read.node mid_step.images (agrees_now mid_step) ∙ ap (λ (n : Node). Some (content_of n)) c.in-Leaf.is in
    let fit = sym (ap (λ (n : Node). content_fits child.low child.high (Some (content_of n))) c.in-Leaf.is) ∙ c.in_ok-entries.ensures.read.fits in
    let is = c.entries_without-left.ensures.entries in
    let are = without_leaf pages child.page c.args.key.now entries items at is in
    let few : AreEntries items = record { each = are.0; ascend = are.1; fits = c.entries_without-left.ensures.fits } in
    record {
      page = record { reached = c.in_ok-entries.ensures.read.reached; used = ap (λ (x : List Bool). is_spare x child.page) c.child_node.ensures.calls.looks.spares ∙ c.in_ok-entries.ensures.read.used };
      fits = leaf_left mid_step c.args.draft.now.sheets.items c.trim_leaf.new.draft.sheets.items (length old.images) child items c.trim_leaf.result few
          (ap (λ (es : List Entry). keys_fit child.low child.high (entry_keys es)) is ∙ without_fits c.args.key.now child.low child.high entries fit) c.trim_leaf.ensures.put;
      root = c.trim_leaf.ensures.root;
    }

pub returns-in-Leaf-clause-trimmed : goal.returns-in-Leaf-clause-trimmed
returns-in-Leaf-clause-trimmed g t c = λ images agrees level most around.
    let new = g.T.Pages.step c.child_node.new.t in
    let draft = c.args.draft.now in
    let draft2 = c.trim_leaf.new.draft in
    let child = c.args.child.now in
    let left = c.trim_leaf.result in
    let items = c.entries_without-left.result.items in
    let at = c.in_ok-entries.ensures.read.node images agrees ∙ ap (λ (n : Node). Some (content_of n)) c.in-Leaf.is in
    let fit = sym (ap (λ (n : Node). content_fits child.low child.high (Some (content_of n))) c.in-Leaf.is) ∙ c.in_ok-entries.ensures.read.fits in
    leaf_trimmed (with_images images new) c.args.key.now draft draft2 level child c.in-Leaf.entries items left at c.entries_without-left.ensures.entries fit c.trim_leaf.ensures.freed
    (leaf_over new images agrees.count draft.sheets.items draft2.sheets.items child.page items left c.trim_leaf.ensures.put) around

pub returns-in_ok-trimmed-in-Interior-clause-calls : goal.returns-in_ok-trimmed-in-Interior-clause-calls
returns-in_ok-trimmed-in-Interior-clause-calls g t c =
    let G = g.T.Pages in
    let law = g.met.T.Pages.then in
    reaches_then G law c.args.t.now c.child_node.new.t c.trim_above.new.t c.in_ok-entries.ensures.calls (reaches_then G law c.child_node.new.t c.remove_below.new.t c.trim_above.new.t c.in_ok-trimmed-in-Interior.ensures.calls c.trim_above.ensures.calls)

pub returns-in_ok-trimmed-in-Interior-clause-left : goal.returns-in_ok-trimmed-in-Interior-clause-left
returns-in_ok-trimmed-in-Interior-clause-left g t c =
    let s = g.T.Pages.step c.trim_above.new.t in
    let old = g.T.Pages.step c.args.t.now in
    let draft = c.remove_below.new.draft in
    let new = c.trim_above.new.draft in
    let child = c.args.child.now in
    let ways = c.in-Interior.ways in
    let below = c.in_ok-trimmed-in-Interior.trimmed in
    let mid_step = g.T.Pages.step c.child_node.new.t in
    let pages : List (List ℕ) = drafted c.args.draft.now.sheets.items mid_step.images in
    let at : page_at pages c.args.child.now.page ≡ Some (Interior c.in-Interior.ways.0 c.in-Interior.ways.1) = c.in_ok-entries.ensures.read.node mid_step.images (agrees_now mid_step) ∙ ap (λ (n : Node). Some (content_of n)) c.in-Interior.is in
    let fit = sym (ap (λ (n : Node). content_fits child.low child.high (Some (content_of n))) c.in-Interior.is) ∙ c.in_ok-entries.ensures.read.fits in
    let has = page_ways child.page (length pages) ways.0 ways.1 (at_is_page pages child.page (Interior ways.0 ways.1) at) in
    let opened : IsOpenedPage (length pages) child ways.0 ways.1 = record { ways = has.ways; within = fit; least = has.least; most = has.most } in
    let o = subst (λ (n : ℕ). IsOpenedPage n child ways.0 ways.1) (drafted_length c.args.draft.now.sheets.items mid_step.images ∙ c.child_node.ensures.calls.looks.count) opened in
    let read = c.in_ok-entries.ensures.read in
    let first = c.in_ok-trimmed-in-Interior.ensures.calls.looks in
    let looks = c.trim_above.ensures.calls.looks in
    ok_more c.trim_above.result (λ left. ShowsEach s (λ pages. IsTrimmedAbove (with_images pages s) draft new child ways.0 ways.1 c.ways_before-i.result below left)) (MayBeLeft s (length old.images) child)
    (λ left m. record {
      page = page_kept mid_step s child.page (λ q h. looks.reached q (first.reached q h)) (looks.spares ∙ first.spares)
          (record { reached = read.reached; used = ap (λ (x : List Bool). is_spare x child.page) c.child_node.ensures.calls.looks.spares ∙ read.used });
      fits = mended_left (with_images s.images s) draft new (length old.images) child ways.0 ways.1 c.ways_before-i.result below left o (m s.images (agrees_now s));
      root = mended_root (with_images s.images s) draft new child ways.0 ways.1 c.ways_before-i.result below left (m s.images (agrees_now s));
    }) c.trim_above.ensures.mended

pub returns-in_ok-trimmed-in-Interior-clause-drafted : goal.returns-in_ok-trimmed-in-Interior-clause-drafted
returns-in_ok-trimmed-in-Interior-clause-drafted g t c =
    let s = g.T.Pages.step c.trim_above.new.t in
    let draft = c.args.draft.now in
    let mid = c.remove_below.new.draft in
    let new = c.trim_above.new.draft in
    let child = c.args.child.now in
    let ways = c.in-Interior.ways in
    let i = c.ways_before-i.result in
    let below = c.in_ok-trimmed-in-Interior.trimmed in
    let d = c.in_ok-trimmed-in-Interior.ensures.drafted in
    ok_both c.trim_above.result (IsTreeDraft s new) (λ left. ShowsEach s (λ pages. IsTrimmedAbove (with_images pages s) mid new child ways.0 ways.1 i below left)) (λ left. TrimsDraft s draft new (sheets_below c.args.levels left) c.args.levels)
    (λ left is m. record {
      draft = is;
      sheets = omega (arith, mended_sheets (with_images s.images s) mid new child ways.0 ways.1 i below left (length draft.sheets.items) c.args.levels c.if-levels-gt0.true d.sheets (m s.images (agrees_now s)));
      freed = omega (arith, mended_freed (with_images s.images s) mid new child ways.0 ways.1 i below left (m s.images (agrees_now s)), d.freed);
    }) c.trim_above.ensures.draft c.trim_above.ensures.mended

pub returns-in_ok-trimmed-in-Interior-clause-trimmed : goal.returns-in_ok-trimmed-in-Interior-clause-trimmed
returns-in_ok-trimmed-in-Interior-clause-trimmed g t c =
    let s1 = g.T.Pages.step c.child_node.new.t in
    let s2 = g.T.Pages.step c.remove_below.new.t in
    let s = g.T.Pages.step c.trim_above.new.t in
    let key = c.args.key.now in
    let draft = c.args.draft.now in
    let mid = c.remove_below.new.draft in
    let new = c.trim_above.new.draft in
    let child = c.args.child.now in
    let ways = c.in-Interior.ways in
    let i = c.ways_before-i.result in
    let below = c.in_ok-trimmed-in-Interior.trimmed in
    let below_child = c.child_at-below.result in
    ok_more c.trim_above.result (λ left. ShowsEach s (λ pages. IsTrimmedAbove (with_images pages s) mid new child ways.0 ways.1 i below left))
    (λ left. ShowsEach s (λ pages. IsTrimmedBelow key (drafted draft.sheets.items pages) (drafted new.sheets.items pages) draft.freed.items new.freed.items c.args.levels child left))
    (λ left m images agrees.
    let agrees2 = agrees_before s2 s images c.trim_above.ensures.calls.looks agrees in
    let agrees1 = agrees_before s1 s2 images c.in_ok-trimmed-in-Interior.ensures.calls.looks agrees2 in
    let pages : List (List ℕ) = drafted draft.sheets.items images in
    let at : page_at pages child.page ≡ Some (Interior ways.0 ways.1) = c.in_ok-entries.ensures.read.node images agrees1 ∙ ap (λ (n : Node). Some (content_of n)) c.in-Interior.is in
    let fit = sym (ap (λ (n : Node). content_fits child.low child.high (Some (content_of n))) c.in-Interior.is) ∙ c.in_ok-entries.ensures.read.fits in
    let has = page_ways child.page (length pages) ways.0 ways.1 (at_is_page pages child.page (Interior ways.0 ways.1) at) in
    let opened : IsOpenedPage (length pages) child ways.0 ways.1 = record { ways = has.ways; within = fit; least = has.least; most = has.most } in
    let before = subst (λ (k : Key). AllByRecursion (λ s. is_before (UpTo k) s.key ≡ true) (take i ways.1)) c.copied.ensures c.ways_before-i.ensures.before in
    let behind = subst (λ (k : Key). AllByRecursion (λ s. is_before (UpTo k) s.key ≡ false) (drop i ways.1)) c.copied.ensures c.ways_before-i.ensures.behind in
    let count : length s1.images ≡ length pages = sym agrees1.count ∙ sym (drafted_length draft.sheets.items images) in
    let small = subst (λ (n : ℕ). IsLeft n below_child below) count c.in_ok-trimmed-in-Interior.ensures.left.fits in
    trimmed_above (with_images images s) images images refl refl key draft mid new c.args.levels child ways.0 ways.1 i below_child below left at opened c.ways_before-i.ensures.within before behind c.child_at-below.ensures small
    (c.in_ok-trimmed-in-Interior.ensures.trimmed images agrees2) (m images agrees)) c.trim_above.ensures.mended

pub returns-in_ok-trimmed-in-Interior-clause-fault : goal.returns-in_ok-trimmed-in-Interior-clause-fault
returns-in_ok-trimmed-in-Interior-clause-fault g t c =
    let G = g.T.Pages in
    let law = g.met.T.Pages.then in
    let s1 = G.step c.child_node.new.t in
    let between = c.remove_below.new.t in
    let s2 = G.step between in
    let new = c.trim_above.new.t in
    let s = G.step new in
    let key = c.args.key.now in
    let draft = c.args.draft.now in
    let mid = c.remove_below.new.draft in
    let child = c.args.child.now in
    let ways = c.in-Interior.ways in
    let i = c.ways_before-i.result in
    let below = c.in_ok-trimmed-in-Interior.trimmed in
    let below_child = c.child_at-below.result in
    let first = reaches_then G law c.args.t.now c.child_node.new.t between c.in_ok-entries.ensures.calls c.in_ok-trimmed-in-Interior.ensures.calls in
    let A : List (List ℕ) → ℕ → Type 0 = λ (pages : List (List ℕ)). IsUnlike (drafted mid.sheets.items pages) child ways.0 ways.1 i below in
    let B : List (List ℕ) → ℕ → Type 0 = λ (pages : List (List ℕ)). BreaksAround key (drafted draft.sheets.items pages) c.args.levels child in
    err_more c.trim_above.result (FailsBy s A) (FailsBy s B)
    (λ fault h. fails_by_map s A B
    (λ images page agrees u.
    let agrees2 = agrees_before s2 s images c.trim_above.ensures.calls.looks agrees in
    let agrees1 = agrees_before s1 s2 images c.in_ok-trimmed-in-Interior.ensures.calls.looks agrees2 in
    let pages : List (List ℕ) = drafted draft.sheets.items images in
    let at : page_at pages child.page ≡ Some (Interior ways.0 ways.1) = c.in_ok-entries.ensures.read.node images agrees1 ∙ ap (λ (n : Node). Some (content_of n)) c.in-Interior.is in
    let fit = sym (ap (λ (n : Node). content_fits child.low child.high (Some (content_of n))) c.in-Interior.is) ∙ c.in_ok-entries.ensures.read.fits in
    let has = page_ways child.page (length pages) ways.0 ways.1 (at_is_page pages child.page (Interior ways.0 ways.1) at) in
    let opened : IsOpenedPage (length pages) child ways.0 ways.1 = record { ways = has.ways; within = fit; least = has.least; most = has.most } in
    let before = subst (λ (k : Key). AllByRecursion (λ s. is_before (UpTo k) s.key ≡ true) (take i ways.1)) c.copied.ensures c.ways_before-i.ensures.before in
    let behind = subst (λ (k : Key). AllByRecursion (λ s. is_before (UpTo k) s.key ≡ false) (drop i ways.1)) c.copied.ensures c.ways_before-i.ensures.behind in
    unlike_above images images images refl refl key draft mid c.args.levels (length pages) child ways.0 ways.1 i below_child below at opened c.ways_before-i.ensures.within before behind c.child_at-below.ensures
    (c.in_ok-trimmed-in-Interior.ensures.trimmed images agrees2) page u) fault h) c.trim_above.ensures.fault

-- ---- what is written, and what may be

-- one sheet, or none
leaf_sheets : (step : Step) (old new : List Sheet) (page : ℕ) (entries : List Entry) (levels : ℕ) (put : Trimmed) → IsLeafPut step old new page entries put → length new ≤ length old + sheets_below levels put
leaf_sheets step old new page entries levels Whole h = omega (arith, h.one)
leaf_sheets step old new page entries levels (left.Leaf list) h = omega (arith, ap length h.0)
leaf_sheets step old new page entries levels (left.Interior first list) h = absurd h

pub trim_leaf-requires-clause-page : goal.trim_leaf-requires-clause-page
trim_leaf-requires-clause-page g t c =
    let e = c.in_ok-entries.ensures in
    record { reached = e.read.reached; used = ap (λ (x : List Bool). is_spare x c.args.child.now.page) c.child_node.ensures.calls.looks.spares ∙ e.read.used }

pub returns-in-Leaf-clause-drafted : goal.returns-in-Leaf-clause-drafted
returns-in-Leaf-clause-drafted g t c = record {
  draft = c.trim_leaf.ensures.draft;
  sheets = leaf_sheets (g.T.Pages.step c.child_node.new.t) c.args.draft.now.sheets.items c.trim_leaf.new.draft.sheets.items c.args.child.now.page c.entries_without-left.result.items c.args.levels c.trim_leaf.result c.trim_leaf.ensures.put;
  freed = omega (arith, ap length c.trim_leaf.ensures.freed);
}

pub trim_above-requires-clause-page : goal.trim_above-requires-clause-page
trim_above-requires-clause-page g t c =
    let e = c.in_ok-entries.ensures in
    let page : ℕ = c.args.child.now.page in
    let looks = c.in_ok-trimmed-in-Interior.ensures.calls.looks in
    page_kept (g.T.Pages.step c.child_node.new.t) (g.T.Pages.step c.remove_below.new.t) page looks.reached looks.spares
    (record { reached = e.read.reached; used = ap (λ (x : List Bool). is_spare x page) c.child_node.ensures.calls.looks.spares ∙ e.read.used })

pub trim_above-requires-clause-more : goal.trim_above-requires-clause-more
trim_above-requires-clause-more g t c = omega (arith, c.requires.more, c.child_node.ensures.reaches, c.remove_below.ensures.reaches, c.if-levels-gt0.true)

pub trim_above-requires-clause-free : goal.trim_above-requires-clause-free
trim_above-requires-clause-free g t c = omega (arith, c.in_ok-trimmed-in-Interior.ensures.drafted.freed, c.requires.free, c.if-levels-gt0.true)

pub returns-in_ok-trimmed-in-Interior-clause-reaches : goal.returns-in_ok-trimmed-in-Interior-clause-reaches
returns-in_ok-trimmed-in-Interior-clause-reaches g t c = omega (arith, c.child_node.ensures.reaches, c.remove_below.ensures.reaches, c.trim_above.ensures.reaches, c.if-levels-gt0.true)
