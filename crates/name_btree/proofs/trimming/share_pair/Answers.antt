use Rattle.std.proofs.Common.{◌∙◌, refl, sym, ap, subst, length, ℕ, List}
use Rattle.std.specs.List.{AllByRecursion}
use Rattle.std.proofs.lemmas.Option.{slice_get_within}
use Rattle.fsd_formats.specs.declared.page.Separator.{Separator}
use Rattle.fsd_formats.specs.NamePage.{Content, Interior, FitsSeparator, is_page}
use Rattle.name_btree.specs.Draft.{IsDrafted}
use Rattle.name_btree.proofs.drafts.PutLaws.{draft_with}
use Rattle.name_btree.proofs.mending.TrimLaws.{shared_page}
use Rattle.name_btree.proofs.trimming.share_pair.Goals as goal

pub ways_replaced-separators-requires : goal.ways_replaced-separators-requires
ways_replaced-separators-requires g c =
    let is = c.requires.pair in
    record { within = slice_get_within c.args.ways.now.1 c.args.pair.place is.between is.there; room = c.requires.ways.most; fits = c.requires.fits }

pub put_ways-requires : goal.put_ways-requires
put_ways-requires g c =
    let p : ℕ = length (g.T.Pages.step c.args.t.now).images in
    let page : ℕ = c.args.above.now.page in
    let ways = c.args.ways.now in
    let value = c.as_slice.ensures.value in
    record {
      room = c.requires.room;
      sheets = c.requires.draft.sheets;
      reached = c.requires.page.reached;
      used = c.requires.page.used;
      accepted = ap (λ (first : ℕ). is_page page p (Interior first c.as_slice.result.now)) c.first.ensures
          ∙ ap (λ (xs : List Separator). is_page page p (Interior ways.0 xs)) (value ∙ c.ways_replaced-separators.ensures.separators)
          ∙ shared_page p ways.0 c.args.above.now ways.1 c.args.pair c.args.key c.requires.ways c.requires.pair c.requires.key c.requires.right.0 c.requires.between;
      fits = subst (AllByRecursion FitsSeparator) (sym value) c.ways_replaced-separators.ensures.fits;
    }

pub returns : goal.returns
returns g c =
    let put = c.put_ways.ensures in
    let separators = c.as_slice.ensures.value ∙ c.ways_replaced-separators.ensures.separators in
    record {
      draft = draft_with _ _ _ _ _ c.requires.draft put.sheets put.freed;
      freed = put.freed;
      put = subst (λ (x : Content). IsDrafted (g.T.Pages.step c.args.t.now) c.args.draft.now.sheets.items c.put_ways.new.self.sheets.items c.args.above.now.page x) (λ i. Interior (c.first.ensures i) (separators i)) put.sheets;
      whole = refl;
    }
