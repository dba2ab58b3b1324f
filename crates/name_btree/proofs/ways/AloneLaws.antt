-- The way to the leaf at a key, of which what stands beside it is not kept.
use Rattle.std.proofs.Common.{◌≡◌, ◌∙◌, ◌+◌, ◌≤◌, ◌<◌, ℕ, true, false, List, Option, Some, None, length, take, drop, refl, sym, ap, subst}
use Rattle.std.proofs.lemmas.Option.{same_Some}
use Rattle.std.specs.Prelude.{slice_get}
use Rattle.std.specs.List.{AllByRecursion}
use Rattle.fsd_bytes.specs.declared.key.Key.{Key}
use Rattle.fsd_formats.specs.declared.entry.Entry.{Entry}
use Rattle.fsd_formats.specs.declared.page.Separator.{Separator}
use Rattle.fsd_formats.specs.NamePage.{Leaf, Interior}
use Rattle.fsd_table.specs.declared.child.Child.{Child}
use Rattle.fsd_table.specs.Pages.{children, content_fits, page_at}
use Rattle.fsd_table.specs.Table.{max_height, top, visit_of, BreaksTable}
use Rattle.fsd_table.proofs.BreakLaws.{visited_top}
use Rattle.name_page.specs.Cut.{is_before}
use Rattle.name_page.specs.declared.cut.Cut.TheVariants.{UpTo}
use Rattle.name_page.specs.Looks.{Looks, ShowsEach}
use Rattle.name_page.specs.Pages.{Step, is_spare, IsReached}
use Rattle.name_page.proofs.CutLaws.{cuts_monotone}
use Rattle.name_page.proofs.LookLaws.{agrees_before, agrees_now}
use Rattle.name_btree.specs.declared.descent.Neighbour.{Neighbour}
use Rattle.name_btree.specs.declared.descent.Way.{Way}
use Rattle.name_btree.specs.declared.fault.TreeFault.{TreeFault}
use Rattle.name_btree.specs.Descent.{way_to, LeadsDown}
use Rattle.name_btree.specs.Fault.{HasTreeCause, IsMisfit, IsOnWay, BarsPage, BarsTable, ShowsCause, ShowsMisfit}
use Rattle.name_btree.specs.Lookup.{HasLeafBy, AgreesAt, IsInPlace}
use Rattle.name_btree.proofs.ways.DescentLaws.{IsOnWay as Stands, way_begins, way_down, way_ends}
use Rattle.name_btree.proofs.ways.ChildLaws.{leads_on}
use Rattle.name_btree.proofs.finding.FindLaws.{entry_found}
use Rattle.name_btree.proofs.ways.VisitedLaws.{IsVisitedWay, visited_down, misfit_below, shown_below, shown_top, top_breaks, deep_below}
use Rattle.name_btree.proofs.ways.WayLaws.{way_at}

abbrev way : Child → Option Neighbour → Option Neighbour → Way
way c previous next = record { child = c; previous = previous; next = next }

-- so many levels below page 0, a child at the key, with something on each side of it
pub record IsWayTo (key : Key) (s : Step) (above : ℕ) (c : Child) : Type 0 where
  pub previous : Option Neighbour
  pub next : Option Neighbour
  pub on : ShowsEach s (λ pages. Stands (is_before (UpTo key)) pages top above (way c previous next))
  pub visited : ShowsEach s (λ pages. IsVisitedWay pages 0 top above (way c previous next))
  pub down : ShowsEach s (λ pages. LeadsDown (is_before (UpTo key)) pages above c)

pub alone_begins : (key : Key) (s : Step) (c : Child) → c ≡ top → IsWayTo key s 0 c
alone_begins key s c is = subst (IsWayTo key s 0) (sym is) (record {
  previous = None;
  next = None;
  on = λ pages agrees. way_begins (is_before (UpTo key)) pages top;
  visited = λ pages agrees v. (v, (tt, tt));
  down = λ pages agrees. refl;
})

module _ (key : Key) (old s : Step) (above : ℕ) (c : Child) (looks : Looks old s) (is : IsWayTo key old above c) where
  -- what stood there before stands there still
  on : ShowsEach s (λ pages. Stands (is_before (UpTo key)) pages top above (way c is.previous is.next))
  on pages agrees = is.on pages (agrees_before old s pages looks agrees)

  visited : ShowsEach s (λ pages. IsVisitedWay pages 0 top above (way c is.previous is.next))
  visited pages agrees = is.visited pages (agrees_before old s pages looks agrees)

  down : ShowsEach s (λ pages. LeadsDown (is_before (UpTo key)) pages above c)
  down pages agrees = is.down pages (agrees_before old s pages looks agrees)

  pub alone_down : (first : ℕ) (xs : List Separator) → ShowsEach s (λ pages. page_at pages c.page ≡ Some (Interior first xs)) → above < max_height
      → (d : Child) (i : ℕ) → i ≤ length xs → AllByRecursion (λ x. is_before (UpTo key) x.key ≡ true) (take i xs) → AllByRecursion (λ x. is_before (UpTo key) x.key ≡ false) (drop i xs)
      → slice_get (children first c.low c.high xs) i ≡ Some d → IsWayTo key s (above + 1) d
  alone_down first xs at low d i within passed left there =
      let to : Way = way_to (is_before (UpTo key)) (above + 1) is.previous is.next first c.low c.high xs in
      let same : to.child ≡ d = same_Some to.child d (sym (way_at (is_before (UpTo key)) (above + 1) is.previous is.next first c.low c.high xs i within passed left).child ∙ there) in
      let all : to ≡ way d to.previous to.next = ap (λ (x : Child). way x to.previous to.next) same in
      record {
        previous = to.previous;
        next = to.next;
        on = λ pages agrees. subst (Stands (is_before (UpTo key)) pages top (above + 1)) all
            (way_down (is_before (UpTo key)) (cuts_monotone (UpTo key)) pages top above (above + 1) (way c is.previous is.next) first xs (at pages agrees) (on pages agrees));
        visited = λ pages agrees. subst (IsVisitedWay pages 0 top (above + 1)) all
            (visited_down (is_before (UpTo key)) pages 0 top above (way c is.previous is.next) first xs (at pages agrees) low (visited pages agrees));
        down = λ pages agrees. subst (LeadsDown (is_before (UpTo key)) pages (above + 1)) same (leads_on (is_before (UpTo key)) pages above (above + 1) c is.previous is.next first xs (at pages agrees) (down pages agrees));
      }

  -- ---- the leaf

  pub alone_holds : (entries : List Entry) → ShowsEach s (λ pages. page_at pages c.page ≡ Some (Leaf entries)) → ShowsEach s (λ pages. AgreesAt key pages entries)
  alone_holds entries at pages agrees height t =
      entry_found key pages (record { page = c.page; entries = entries; previous = is.previous; next = is.next })
      (way_ends (is_before (UpTo key)) pages top above (way c is.previous is.next) entries (at pages agrees) (on pages agrees)) height t

  pub alone_led : ShowsEach s (λ pages. content_fits c.low c.high (page_at pages c.page) ≡ true) → ShowsEach s (λ pages. IsInPlace pages c.page)
  alone_led fits pages agrees = (visit_of pages (above + 1) c, (visited pages agrees (visited_top pages)).0, refl, fits pages agrees)

  pub alone_leaf : (entries : List Entry) → IsReached s c.page → is_spare s.spares c.page ≡ false → page_at s.images c.page ≡ Some (Leaf entries) → content_fits c.low c.high (Some (Leaf entries)) ≡ true
      → HasLeafBy s (is_before (UpTo key)) c.page entries
  alone_leaf entries reached used has fits = (
    c,
    refl,
    record {
      is_read = record { reached = reached; used = used; has = has; fits = fits };
      above = above;
      way = down;
      path = λ pages agrees. (visited pages agrees (visited_top pages)).0;
    },
  )

  -- ---- faults

  pub alone_fault : (fault : TreeFault) → HasTreeCause s (IsMisfit s.images c) (BarsPage s c.page) fault → HasTreeCause s (BreaksTable s.images) (BarsTable s) fault
  alone_fault fault h = top_breaks s fault top refl (misfit_below s fault 0 top above (way c is.previous is.next) (visited s.images (agrees_now s)) h)

  pub alone_shown : (fault : TreeFault) → HasTreeCause s (IsMisfit s.images c) (BarsPage s c.page) fault → ShowsMisfit s c fault → ShowsCause s BreaksTable IsOnWay fault
  alone_shown fault h misfit = shown_top s fault top refl (shown_below s fault 0 top above (way c is.previous is.next) visited h misfit)

-- there are no more levels
pub alone_deep : (key : Key) (s : Step) (above : ℕ) (c : Child) → IsWayTo key s above c → max_height ≤ above → ShowsEach s (λ pages. BreaksTable pages c.page)
alone_deep key s above c is deep pages agrees = deep_below pages 0 top above (way c is.previous is.next) (is.visited pages agrees) deep (visited_top pages)
