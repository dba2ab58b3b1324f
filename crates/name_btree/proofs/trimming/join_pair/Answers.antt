use Rattle.std.proofs.Common.{◌∙◌, ◌+◌, sym, ap, subst, length, take, drop, List, ℕ, arith, length-append, length-take, length-drop}
use Rattle.std.proofs.lemmas.Option.{slice_get_within}
use Rattle.fsd_formats.specs.declared.page.Separator.{Separator}
use Rattle.name_btree.specs.declared.draft.Sheet.{Sheet}
use Rattle.name_btree.specs.Trim.{AreWays, AreWaysPut}
use Rattle.name_btree.proofs.mending.TrimLaws.{joined_ways}
use Rattle.name_btree.proofs.trimming.join_pair.Goals as goal

pub free-requires : goal.free-requires
free-requires g c = record { room = c.requires.freed; draft = c.requires.draft; reached = c.requires.right.reached; used = c.requires.right.used }

pub ways_without-requires : goal.ways_without-requires
ways_without-requires g c =
    let is = c.requires.pair in
    record { within = slice_get_within c.args.ways.now.1 c.args.pair.place is.between is.there; room = c.requires.ways.most }

pub trim_ways-requires : goal.trim_ways-requires
trim_ways-requires g c =
    let p : ℕ = length (g.T.Pages.step c.args.t.now).images in
    let ways = c.args.ways.now in
    let i : ℕ = c.args.pair.place in
    let front : List Separator = take i ways.1 in
    let behind : List Separator = drop (i + 1) ways.1 in
    let separators = c.ways_without.ensures.separators in
    let are = joined_ways p ways.0 c.args.above.now ways.1 c.args.pair c.requires.pair c.requires.ways.ways in
    record {
      room = omega (arith, ap length c.free.ensures.sheets, c.requires.room);
      draft = c.free.ensures.draft;
      page = c.requires.page;
      ways = subst (λ (first : ℕ). AreWays p first c.ways_without.result.items) (sym c.first.ensures) (subst (AreWays p ways.0) (sym separators) are);
      fits = c.ways_without.ensures.fits;
      most = omega (arith, ap length separators, length-append front behind, length-take i ways.1, length-drop (i + 1) ways.1, c.requires.ways.most);
    }

pub returns-clause-draft : goal.returns-clause-draft
returns-clause-draft g c = c.trim_ways.ensures.draft

pub returns-clause-freed : goal.returns-clause-freed
returns-clause-freed g c = c.trim_ways.ensures.freed ∙ c.free.ensures.freed

pub returns-clause-put : goal.returns-clause-put
returns-clause-put g c =
    let s = g.T.Pages.step c.args.t.now in
    let page : ℕ = c.args.above.now.page in
    let ways = c.args.ways.now in
    let middle = c.free.new.self.sheets.items in
    let last = c.trim_ways.new.draft.sheets.items in
    let left = c.trim_ways.result in
    let items = c.ways_without.result.items in
    subst (λ (xs : List Separator). AreWaysPut s c.args.draft.now.sheets.items last page ways.0 xs left) c.ways_without.ensures.separators
    (subst (λ (first : ℕ). AreWaysPut s c.args.draft.now.sheets.items last page first items left) c.first.ensures
    (subst (λ (sheets : List Sheet). AreWaysPut s sheets last page c.first.result items left) c.free.ensures.sheets c.trim_ways.ensures.put))
