-- A fault that is handed on keeps its cause.
use Rattle.std.proofs.Common.{◌≡◌, ◌⊎◌, inl, inr, ℕ, List, Option, None, sym, subst, ap, refl}
use Rattle.std.specs.Prelude.{Result, Ok, Err, OnErr}
use Rattle.fsd_bytes.specs.declared.refusal.Refusal.{Refusal}
use Rattle.fsd_bytes.specs.declared.refusal.Refusal.TheVariants.{Unsound}
use Rattle.fsd_formats.specs.NamePage.{Content}
use Rattle.fsd_table.specs.declared.child.Child.{Child}
use Rattle.fsd_table.specs.Pages.{page_at, content_fits}
use Rattle.fsd_table.specs.Table.{visit_of, IsVisited}
use Rattle.fsd_table.proofs.BreakLaws.{misfit_breaks}
use Rattle.name_page.specs.Pages.{Step, home_sector, IsOuter, IsBarred}
use Rattle.name_page.specs.Looks.{Agrees}
use Rattle.name_btree.specs.declared.fault.TreeFault.{TreeFault}
use Rattle.name_btree.specs.declared.fault.TreeFault.TheVariants.{Pages, Broken}
use Rattle.name_btree.specs.Fault.{IsCaused, HasTreeCause, FailsBy, Never, BarsTable, BarsPage, ShowsCause, ShowsMisfit}

module _ (s : Step) (Breaks Breaks' Bars Bars' : ℕ → Type 0) (breaks : (page : ℕ) → Breaks page → Breaks' page) (bars : (page : ℕ) → Bars page → Bars' page) where
  pub caused_map : (refusal : Refusal) → IsCaused s Bars refusal → IsCaused s Bars' refusal
  caused_map refusal (inl x) = inl x
  caused_map refusal (inr x) = inr (x.0, x.1, bars x.0 x.2)

  pub cause_map : (fault : TreeFault) → HasTreeCause s Breaks Bars fault → HasTreeCause s Breaks' Bars' fault
  cause_map (Pages refusal) h = (h.0, caused_map refusal h.1)
  cause_map (Broken page) h = breaks page h

-- a page that a path reaches, and may not be reached, breaks the table or is spare
barred : (s : Step) (depth : ℕ) (c : Child) → IsVisited s.images depth c → IsBarred s c.page → BarsTable s c.page
barred s depth c v (inl spare) = inr (spare, (visit_of s.images depth c, v, refl))
barred s depth c v (inr none) = inl (misfit_breaks s.images depth c v (ap (λ (x : Option Content). content_fits c.low c.high x) none))

pub bars_table : (s : Step) (depth : ℕ) (c : Child) → IsVisited s.images depth c → (page : ℕ) → BarsPage s c.page page → BarsTable s page
bars_table s depth c v page h = subst (BarsTable s) (sym h.0) (barred s depth c v h.1)

-- ---- what was reached shows the fault

pub fails_by_map : (s : Step) (B B' : List (List ℕ) → ℕ → Type 0) → ((images : List (List ℕ)) (page : ℕ) → Agrees images s → B images page → B' images page)
    → (fault : TreeFault) → FailsBy s B fault → FailsBy s B' fault
fails_by_map s B B' more (Broken page) h = λ images is. more images page is (h images is)
fails_by_map s B B' more (Pages refusal) h = (h.0, by h.1)
  where
    Cause : (List (List ℕ) → ℕ → Type 0) → Type 0
    Cause C = IsOuter refusal ⊎ ((page : ℕ) × (refusal ≡ Unsound (home_sector s page)) × IsBarred s page × ((images : List (List ℕ)) → Agrees images s → page_at images page ≡ None → C images page))

    by : Cause B → Cause B'
    by (inl x) = inl x
    by (inr x) = inr (x.0, x.1, x.2, λ images is none. more images x.0 is (x.3 images is none))

-- where no page is named
pub none_shown : (s : Step) (c : Child) (fault : TreeFault) → HasTreeCause s Never (BarsPage s c.page) fault → ShowsMisfit s c fault
none_shown s c (Pages refusal) h = tt
none_shown s c (Broken page) h = absurd h

pub shows_cause_map : (s : Step) (B B' I I' : List (List ℕ) → ℕ → Type 0) → ((pages : List (List ℕ)) (page : ℕ) → Agrees pages s → B pages page → B' pages page)
    → ((pages : List (List ℕ)) (page : ℕ) → Agrees pages s → I pages page → I' pages page) → (fault : TreeFault) → ShowsCause s B I fault → ShowsCause s B' I' fault
shows_cause_map s B B' I I' breaks there (Broken page) h = λ pages agrees. breaks pages page agrees (h pages agrees)
shows_cause_map s B B' I I' breaks there (Pages refusal) (inl outer) = inl outer
shows_cause_map s B B' I I' breaks there (Pages refusal) (inr x) = inr (x.0, x.1, x.2, λ pages agrees. there pages x.0 agrees (x.3 pages agrees))

-- a page that is refused
pub fails_at : (s : Step) (page : ℕ) (B : List (List ℕ) → ℕ → Type 0) → ((images : List (List ℕ)) → Agrees images s → page_at images page ≡ None → B images page)
    → (fault : TreeFault) → HasTreeCause s Never (BarsPage s page) fault → FailsBy s B fault
fails_at s page B breaks (Broken other) h = absurd h
fails_at s page B breaks (Pages refusal) h = (h.0, by h.1)
  where
    by : IsCaused s (BarsPage s page) refusal → IsOuter refusal ⊎ ((other : ℕ) × (refusal ≡ Unsound (home_sector s other)) × IsBarred s other × ((images : List (List ℕ)) → Agrees images s → page_at images other ≡ None → B images other))
    by (inl x) = inl x
    by (inr x) = inr (page, subst (λ (p : ℕ). refusal ≡ Unsound (home_sector s p)) x.2.0 x.1, x.2.1, λ images is none. breaks images is none)

pub broken_by : (s : Step) (B : List (List ℕ) → ℕ → Type 0) (fault : TreeFault) → (page : ℕ) → fault ≡ Broken page → ((images : List (List ℕ)) → Agrees images s → B images page) → FailsBy s B fault
broken_by s B fault page is h = subst (FailsBy s B) (sym is) h

pub on_err_same : {X D : Type 0} (r : Result X TreeFault) (P : D → Type 0) (a b : D) → P a → OnErr r (b ≡ a) → OnErr r (P b)
on_err_same (Ok x) P a b h is = tt
on_err_same (Err fault) P a b h is = subst P (sym is) h

abbrev the_err : TreeFault → Result (Unit {0}) TreeFault
the_err fault = Err fault

pub same_err : (a b : TreeFault) → the_err a ≡ the_err b → a ≡ b
same_err a b e = cc

-- a page that is named breaks what the fault says
pub broken_is : (s : Step) (Breaks Bars : ℕ → Type 0) (fault : TreeFault) (page : ℕ) → fault ≡ Broken page → HasTreeCause s Breaks Bars fault → Breaks page
broken_is s Breaks Bars fault page is h = subst (HasTreeCause s Breaks Bars) is h
