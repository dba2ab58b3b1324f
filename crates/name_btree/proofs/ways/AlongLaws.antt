-- The way to a leaf, level by level, with what stands beside it.
use Rattle.std.proofs.Common.{◌≡◌, ◌∙◌, ◌+◌, ◌-◌, ◌<◌, ◌≤◌, refl, sym, ap, subst, Bool, true, false, List, [], ℕ, zero, suc, length, take, drop, Option, Some, None, arith}
use Rattle.std.specs.Prelude.{slice_get, option_and_then, IsSome}
use Rattle.std.specs.List.{AllByRecursion}
use Rattle.std.proofs.lemmas.Option.{same_Some}
use Rattle.fsd_bytes.specs.declared.key.Key.{Key}
use Rattle.fsd_formats.specs.declared.entry.Entry.{Entry}
use Rattle.fsd_formats.specs.declared.page.Separator.{Separator}
use Rattle.fsd_formats.specs.NamePage.{Content, Interior, read_page}
use Rattle.fsd_table.specs.declared.child.Child.{Child}
use Rattle.fsd_table.specs.Pages.{page_at, children}
use Rattle.fsd_table.specs.Table.{max_height, top}
use Rattle.name_page.specs.declared.cut.Cut.{Cut}
use Rattle.name_page.specs.declared.cut.Cut.TheVariants.{UpTo}
use Rattle.name_page.specs.declared.pages.Pages.{Ghosts}
use Rattle.name_page.specs.Cut.{is_before}
use Rattle.name_page.specs.Looks.{Looks, ShowsEach}
use Rattle.name_page.specs.Pages.{Step, is_spare, IsReached}
use Rattle.name_page.proofs.CutLaws.{cuts_monotone}
use Rattle.name_page.proofs.LookLaws.{agrees_at, agrees_before, memory_then}
use Rattle.name_btree.specs.declared.descent.LeafBelow.{LeafBelow}
use Rattle.name_btree.specs.declared.descent.Way.{Way}
use Rattle.name_btree.specs.Along.{IsFoundAlong}
use Rattle.name_btree.specs.declared.descent.Neighbour.{Neighbour}
use Rattle.name_btree.specs.Descent.{way_from, way_to, GoesDown}
use Rattle.name_btree.specs.Path.{HasMet, Leads, TakesNone}
use Rattle.name_btree.specs.Still.{IsReadChild}
use Rattle.name_btree.proofs.ways.ChildLaws.{down_begins, down_goes, IsDownWay}
use Rattle.name_btree.proofs.ways.DescentLaws.{IsOnWay, way_begins, way_down}
use Rattle.name_btree.proofs.ways.PathLaws.{IsPath, path_begins, path_down}
use Rattle.name_btree.proofs.ways.ResidentLaws.{back_begins, back_down, lead_down, lead_met, met_begins, met_down, met_here, IsBack, IsMet}
use Rattle.name_btree.proofs.ways.VisitedLaws.{IsVisitedWay, visited_down}
use Rattle.name_btree.proofs.ways.WayLaws.{way_at}
use Rattle.name_btree.proofs.finding.LookupLaws.{Narrows, way_narrows}

-- ---- over pages that were reached

page_later : (old s : Step) (page : ℕ) → Looks old s → IsReached old page → page_at s.images page ≡ page_at old.images page
unfolding page_at
page_later old s page looks is =
    ap (λ (n : ℕ). option_and_then (read_page page n) (slice_get s.images page)) looks.count
    ∙ ap (λ (o : Option (List ℕ)). option_and_then (read_page page (length old.images)) o) (looks.images page is)

pub goes_later : (old s : Step) → Looks old s → (before : Key → Bool) (levels above : ℕ) (w end : Way) → GoesDown old before levels above w end → GoesDown s before levels above w end
goes_later old s looks before zero above w end is = is
goes_later old s looks before (suc levels) above w end (reached, first, separators, at, rest) = (
  looks.reached w.child.page reached,
  first,
  separators,
  page_later old s w.child.page looks reached ∙ at,
  goes_later old s looks before levels (above + 1) (way_to before (above + 1) w.previous w.next first w.child.low w.child.high separators) end rest,
)

-- one level more
goes_on : (s : Step) (before : Key → Bool) (levels above last : ℕ) (w end : Way) (first : ℕ) (separators : List Separator) → last ≡ above + levels → GoesDown s before levels above w end
    → IsReached s end.child.page → page_at s.images end.child.page ≡ Some (Interior first separators)
    → GoesDown s before (suc levels) above w (way_to before (last + 1) end.previous end.next first end.child.low end.child.high separators)
goes_on s before zero above last w end first separators same is reached at =
    let here : above ≡ last = omega (arith, same) in
    let to : Way = way_to before (last + 1) end.previous end.next first end.child.low end.child.high separators in
    subst (λ (x : Way). GoesDown s before 1 above x to) (sym is)
    (reached, first, separators, at, ap (λ (n : ℕ). way_to before (n + 1) end.previous end.next first end.child.low end.child.high separators) here)
goes_on s before (suc levels) above last w end first separators same (there, page, others, is, rest) reached at =
    (there, page, others, is, goes_on s before levels (above + 1) last (way_to before (above + 1) w.previous w.next page w.child.low w.child.high others) end first separators (omega (arith, same)) rest reached at)

-- what the next page has, and where the way goes on from there
abbrev pub GoesBy : Step → (before : Key → Bool) → (levels above : ℕ) → Way → Way → Option Content → Type 0
GoesBy s before levels above w end (Some (Interior first separators)) = GoesDown s before levels (above + 1) (way_to before (above + 1) w.previous w.next first w.child.low w.child.high separators) end
GoesBy s before levels above w end other = ⊥

pub goes_here : (s : Step) (before : Key → Bool) (levels above : ℕ) (w end : Way) → above < levels → GoesDown s before (levels - above) above w end
    → IsReached s w.child.page × GoesBy s before (levels - (above + 1)) above w end (page_at s.images w.child.page)
goes_here s before levels above w end low is =
    let one : levels - above ≡ suc (levels - (above + 1)) = omega (arith, low) in
    let here = subst (λ (n : ℕ). GoesDown s before n above w end) one is in
    let content : Option Content = page_at s.images w.child.page in
    let at : content ≡ Some (Interior here.1 here.2) = here.3 in
    (here.0, subst (GoesBy s before (levels - (above + 1)) above w end) (sym at) here.4)

pub goes_some : (s : Step) (before : Key → Bool) (levels above : ℕ) (w end : Way) (o : Option Content) → GoesBy s before levels above w end o → IsSome o
goes_some s before levels above w end None h = absurd h
goes_some s before levels above w end (Some x) h = refl

-- ---- the child at a place

pub child_is : (before : Key → Bool) (above : ℕ) (previous next : Option Neighbour) (first : ℕ) (low high : Option Key) (xs : List Separator) (i : ℕ) (c : Child) → i ≤ length xs
    → AllByRecursion (λ s. before s.key ≡ true) (take i xs) → AllByRecursion (λ s. before s.key ≡ false) (drop i xs) → slice_get (children first low high xs) i ≡ Some c
    → c ≡ (way_to before above previous next first low high xs).child
child_is before above previous next first low high xs i c within passed left at =
    let w : Way = way_to before above previous next first low high xs in
    same_Some c w.child (sym at ∙ (way_at before above previous next first low high xs i within passed left).child)

-- ---- all that is known along the way

module _ {D : Type 0} (P : Ghosts D) where
  pub record IsAlong (first t : D) (cut : Cut) (from : ℕ) (start : Child) (above : ℕ) (w : Way) : Type 0 where
    pub narrow : Narrows (is_before cut) start.low w
    pub path : ShowsEach (P.step t) (λ pages. IsPath cut pages start w.child)
    pub way : ShowsEach (P.step t) (λ pages. IsOnWay (is_before cut) pages start (above - from) w)
    pub visited : ShowsEach (P.step t) (λ pages. IsVisitedWay pages from start above w)
    pub down : IsDownWay (P.step t) (is_before cut) from start above w
    pub goes : GoesDown (P.step t) (is_before cut) (above - from) from (way_from start) w
    pub memory : HasMet P from (is_before cut) start first → IsMet P (is_before cut) first above w t
    pub back : HasMet P from (is_before cut) start first → IsBack P from start above w t
    pub again : (e : Entry) → cut ≡ UpTo e.key → Leads P (max_height - from) first e start → Leads P (max_height - above) first e w.child

  pub along_begins : (t : D) (cut : Cut) (above : ℕ) (start : Child) → IsAlong t t cut above start above (way_from start)
  along_begins t cut above start =
      let before = is_before cut in
      let none : 0 ≡ above - above = omega arith in
      record {
        narrow = record { low = λ key h. h; next = tt };
        path = λ pages is. path_begins cut pages start;
        way = λ pages is. subst (λ (n : ℕ). IsOnWay before pages start n (way_from start)) none (way_begins before pages start);
        visited = λ pages is v. (v, (tt, tt));
        down = down_begins (P.step t) before above start;
        goes = subst (λ (n : ℕ). GoesDown (P.step t) before n above (way_from start) (way_from start)) none refl;
        memory = λ has. met_begins P before t above start has;
        back = λ has. back_begins P above start t;
        again = λ e same h. h;
      }

  pub along_down : (first t t' : D) (cut : Cut) (from : ℕ) (start : Child) (above : ℕ) (w : Way) (page : ℕ) (separators : List Separator) → from ≤ above → above < 6 → Looks (P.step t) (P.step t')
      → IsReadChild (P.step t) (P.step t') w.child (Interior page separators) → (P.in_memory t w.child.page → TakesNone P None t t') → IsAlong first t cut from start above w
      → IsAlong first t' cut from start (above + 1) (way_to (is_before cut) (above + 1) w.previous w.next page w.child.low w.child.high separators)
  along_down first t t' cut from start above w page separators least low looks read none is =
      let s = P.step t' in
      let before = is_before cut in
      let gone : ℕ = above - from in
      let one : gone + 1 ≡ (above + 1) - from = omega (arith, least) in
      let after : suc gone ≡ (above + 1) - from = omega (arith, least) in
      let place : above ≡ from + gone = omega (arith, least) in
      let new : Way = way_to before (above + 1) w.previous w.next page w.child.low w.child.high separators in
      let used : is_spare s.spares w.child.page ≡ false = ap (λ (x : List Bool). is_spare x w.child.page) looks.spares ∙ read.used in
      let at : ShowsEach s (λ pages. page_at pages w.child.page ≡ Some (Interior page separators)) = λ pages agrees. agrees_at s pages w.child.page read.reached used agrees ∙ read.node in
      let takes : HasMet P from before start first → TakesNone P None t t' = λ has. none (met_here P before first above w t low (is.memory has)) in
      record {
        narrow = way_narrows before (above + 1) w page separators start.low read.fits is.narrow;
        path = λ pages seen. path_down cut pages start (above + 1) w page separators (at pages seen) (is.path pages (agrees_before (P.step t) s pages looks seen));
        way = λ pages seen. subst (λ (n : ℕ). IsOnWay before pages start n new) one
            (way_down before (cuts_monotone cut) pages start gone (above + 1) w page separators (at pages seen) (is.way pages (agrees_before (P.step t) s pages looks seen)));
        visited = λ pages seen. visited_down before pages from start above w page separators (at pages seen) low (is.visited pages (agrees_before (P.step t) s pages looks seen));
        down = down_goes (P.step t) s before from start above w page separators looks at is.down;
        goes = subst (λ (n : ℕ). GoesDown s before n from (way_from start) new) after
            (goes_on s before gone from above (way_from start) w page separators place (goes_later (P.step t) s looks before gone from (way_from start) w is.goes) read.reached read.node);
        memory = λ has. met_down P before first above w t low (is.memory has) t' (takes has) page separators read.node;
        back = λ has. back_down P from start above w t t' low (takes has) (is.back has) before page separators
            (record { there = (takes has).stays w.child.page (met_here P before first above w t low (is.memory has)); used = used; fits = read.fits; has = read.node });
        again = λ e same h.
            let has = subst (λ (k : Cut). HasMet P from (is_before k) start first) (sym same) (lead_met P (max_height - from) first e start [] h) in
            let nothing = memory_then P first t t' (is.memory has).none (takes has) in
            let way_e : Way = way_to (is_before (UpTo e.key)) (above + 1) w.previous w.next page w.child.low w.child.high separators in
            let same_way : way_e ≡ new = ap (λ (k : Cut). way_to (is_before k) (above + 1) w.previous w.next page w.child.low w.child.high separators) (sym same) in
            subst (λ (x : Way). Leads P (max_height - (above + 1)) first e x.child) same_way (lead_down P first t' e above w page separators low nothing read.node (is.again e same h));
      }

  pub goes_from_top : (cut : Cut) (start : Child) (old new : D) (leaf : LeafBelow) → start ≡ top → (along : IsFoundAlong P cut 0 start old new leaf) → GoesDown (P.step new) (is_before cut) leaf.levels 0 (way_from top) along.way
  goes_from_top cut start old new leaf is along = subst (λ (d : Child). GoesDown (P.step new) (is_before cut) leaf.levels 0 (way_from d) along.way) is along.goes
